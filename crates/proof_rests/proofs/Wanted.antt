-- Errands and interviews are what lines ask for: which entries tell of their ends, and which of a host's events add them to its tasks.
use Rattle.std.proofs.Common.{◌≡◌, ℕ, ◌+◌, ◌==◌, Bool, true, false, if◌then◌else◌, List, [], ◌∷◌, length, refl, sym, ap, ◌∙◌, subst, append-nil, arith}
use Rattle.std.specs.Prelude.{Option, Some, None}
use Rattle.std.specs.List.{flat_map}
use Rattle.zw_text.specs.declared.line.Line.{Line}
use Rattle.zw_text.specs.declared.line.Line.TheVariants as lines
use Rattle.zw_text.specs.declared.entry.Entry.{Entry}
use Rattle.zw_text.specs.declared.entry.Entry.TheVariants as entry
use Rattle.zw_text.specs.Transcript.{shown, where_same}
use Rattle.s0_session.specs.Nonces.{live_of}
use Rattle.host_orders.specs.Errands.{get_text, send_text}
use Rattle.host_orders.specs.Refusals.{classes_of}
use Rattle.host_requests.specs.declared.task.Task.{Task}
use Rattle.host_requests.specs.declared.task.Task.TheVariants.{Offer, Plain, Segment}
use Rattle.host_model.specs.State.{HostState, node_of}
use Rattle.host_model.specs.May.{May, known_of}
use Rattle.host_model.specs.After.{after, giving, is_full}
use Rattle.host_model.specs.Events.{HostEvent, Accepts, Cancels, Gives, Offers, Queues, Queues_interview, Resends}
use Rattle.host_model.specs.Outs.{answers}
use Rattle.proof_nonces.specs.proof_work.Doing.{IsDone}
use Rattle.proof_nonces.specs.proof_work.Tasks.{added, added_offer, ended}
use Rattle.proof_nonces.specs.proof_attempts.proof_requests.proof_alone.Steps.{AsksNothing, IsAskedBy}
use Rattle.proof_nonces.proofs.proof_alone_Apart.{AreOfLine}
use Rattle.proof_rests.specs.Known.{Wanted, an_errand, an_interview, left_among}
use Rattle.proof_rests.proofs.Entries.{IsAside}
use Rattle.proof_rests.proofs.Counting.{IsUnqueued, IsWanted, TasksGo, event_left}

-- ---- what an event adds

module _ {B : Type 0} (among : Task → List B) (offer : (n : ℕ) (nonce : List ℕ) → among (Offer n nonce) ≡ []) (segment : (n : ℕ) (payload : List ℕ) → among (Segment n payload) ≡ []) where
  one_none : (task : Task) → among task ≡ [] → (full : Bool) → length (flat_map among (if full then [] else task ∷ [])) ≡ 0
  one_none task none true = refl
  one_none task none false = ap (λ (l : List B). length l) (append-nil (among task)) ∙ ap (λ (l : List B). length l) none

  offer_none : (h : HostState) (n : ℕ) (live : Option (List ℕ)) → length (flat_map among (added_offer h n live)) ≡ 0
  offer_none h n None = refl
  offer_none h n (Some nonce) = one_none (Offer n nonce) (offer n nonce) (is_full h)

same_length : {A B : Type 0} (test : Bool) (a : A) (b : B) → length (if test then a ∷ [] else []) ≡ length (if test then b ∷ [] else [])
same_length true a b = refl
same_length false a b = refl

answers_none : {A : Type 0} (ends : Entry → List A) → ((e : Entry) → IsAside e → ends e ≡ []) → (h : HostState) (event : HostEvent) → shown ends (answers h event) ≡ []
answers_none ends aside h (Accepts order carriage) = append-nil (ends _) ∙ aside _ tt
answers_none ends aside h (Cancels command) = append-nil (ends _) ∙ aside _ tt
answers_none ends aside h event = refl

-- ---- errands

module _ (n : ℕ) where
  errand_aside : (e : Entry) → IsAside e → (an_errand n).ends e ≡ []
  errand_aside (entry.Done node how) aside = absurd aside
  errand_aside e aside = refl

  errand_added : (h : HostState) (event : HostEvent) → IsUnqueued event → length (flat_map (an_errand n).among (added h event)) ≡ 0
  errand_added h (Queues task) un = absurd un
  errand_added h (Queues_interview m) un = absurd un
  errand_added h (Offers m) un = offer_none (an_errand n).among (λ k nonce. refl) (λ k payload. refl) h m (live_of h.nonces m)
  errand_added h (Gives m drawn) un = offer_none (an_errand n).among (λ k nonce. refl) (λ k payload. refl) (giving h m drawn) m (live_of (giving h m drawn).nonces m)
  errand_added h (Resends m payload) un = one_none (an_errand n).among (λ k nonce. refl) (λ k payload. refl) (Segment m payload) refl (is_full h)
  errand_added h event un = refl

  errand_nothing : (line : Line) → AsksNothing line → length ((an_errand n).by_line line) ≡ 0
  errand_nothing (lines.Send node word) nothing = absurd nothing
  errand_nothing (lines.Get node end) nothing = absurd nothing
  errand_nothing line nothing = refl

  errand_line : AreOfLine (λ e. (an_errand n).ends e ≡ [])
  errand_line = record { written = λ side text. refl; dropped = λ side. refl; garbled = λ side text. refl; overrun = λ side. refl }

-- ---- interviews

module _ (n : ℕ) where
  interview_aside : (e : Entry) → IsAside e → (an_interview n).ends e ≡ []
  interview_aside (entry.Interviewed node) aside = absurd aside
  interview_aside (entry.InterviewFailed node) aside = absurd aside
  interview_aside e aside = refl

  interview_added : (h : HostState) (event : HostEvent) → IsUnqueued event → length (flat_map (an_interview n).among (added h event)) ≡ 0
  interview_added h (Queues task) un = absurd un
  interview_added h (Queues_interview m) un = absurd un
  interview_added h (Offers m) un = offer_none (an_interview n).among (λ k nonce. refl) (λ k payload. refl) h m (live_of h.nonces m)
  interview_added h (Gives m drawn) un = offer_none (an_interview n).among (λ k nonce. refl) (λ k payload. refl) (giving h m drawn) m (live_of (giving h m drawn).nonces m)
  interview_added h (Resends m payload) un = one_none (an_interview n).among (λ k nonce. refl) (λ k payload. refl) (Segment m payload) refl (is_full h)
  interview_added h event un = refl

  interview_nothing : (line : Line) → AsksNothing line → length ((an_interview n).by_line line) ≡ 0
  interview_nothing (lines.Interview node) nothing = absurd nothing
  interview_nothing line nothing = refl

  interview_line : AreOfLine (λ e. (an_interview n).ends e ≡ [])
  interview_line = record { written = λ side text. refl; dropped = λ side. refl; garbled = λ side text. refl; overrun = λ side. refl }

-- ---- what a line asks

module _ {A B : Type 0} (wanted : Wanted A B) (tasks : TasksGo) (h : HostState) (event : HostEvent) (may : May h event) where
  adds_so : (e : HostEvent) (asked : ℕ) → event ≡ e → IsDone e → length (flat_map wanted.among (ended h e)) ≡ 0 → length (flat_map wanted.among (added h e)) ≡ asked
      → asked + left_among wanted h ≡ left_among wanted (after h event)
  adds_so e asked is done none adds =
      let left = event_left wanted tasks h e done (subst (λ (x : HostEvent). May h x) is may) in
      subst (λ (x : HostEvent). asked + left_among wanted h ≡ left_among wanted (after h x)) (sym is) (omega (arith, left, none, adds))

module _ (n : ℕ) (tasks : TasksGo) (h : HostState) (event : HostEvent) (may : May h event) where
  abbrev Asks : Line → Type 0
  Asks line = length ((an_errand n).by_line line) + left_among (an_errand n) h ≡ left_among (an_errand n) (after h event)

  plain : (node : ℕ) (payload : List ℕ) → length (flat_map (an_errand n).among (Plain node payload ∷ [])) ≡ length (where_same node n node)
  plain node payload = ap (λ (l : List (List ℕ)). length l) (append-nil (where_same node n payload)) ∙ same_length (node == n) payload node

  errand_asks : (line : Line) → IsAskedBy line h event → Asks line
  errand_asks (lines.Command order) is = adds_so (an_errand n) tasks h event may _ 0 is tt refl refl
  errand_asks (lines.Send node word) (free, is) =
      adds_so (an_errand n) tasks h event may _ (length (where_same node n node)) is tt refl (plain node (send_text (classes_of (known_of (node_of h node))) word))
  errand_asks (lines.Get node end) (free, is) =
      adds_so (an_errand n) tasks h event may _ (length (where_same node n node)) is tt refl (plain node (get_text (classes_of (known_of (node_of h node))) end))
  errand_asks (lines.Join node) is = adds_so (an_errand n) tasks h event may _ 0 is tt refl refl
  errand_asks (lines.Interview node) (free, is) = adds_so (an_errand n) tasks h event may _ 0 is tt refl refl
  errand_asks (lines.Cancel command) is = adds_so (an_errand n) tasks h event may _ 0 is tt refl refl
  errand_asks lines.Discover (free, is) = adds_so (an_errand n) tasks h event may _ 0 is tt refl refl
  errand_asks (lines.Neighbours node) (free, is) = adds_so (an_errand n) tasks h event may _ 0 is tt refl refl
  errand_asks (lines.Failed node) (free, is) = adds_so (an_errand n) tasks h event may _ 0 is tt refl refl
  errand_asks lines.Probe (free, is) = adds_so (an_errand n) tasks h event may _ 0 is tt refl refl
  errand_asks line is = absurd is

  abbrev AsksInterview : Line → Type 0
  AsksInterview line = length ((an_interview n).by_line line) + left_among (an_interview n) h ≡ left_among (an_interview n) (after h event)

  interview_asks : (line : Line) → IsAskedBy line h event → AsksInterview line
  interview_asks (lines.Command order) is = adds_so (an_interview n) tasks h event may _ 0 is tt refl refl
  interview_asks (lines.Send node word) (free, is) = adds_so (an_interview n) tasks h event may _ 0 is tt refl refl
  interview_asks (lines.Get node end) (free, is) = adds_so (an_interview n) tasks h event may _ 0 is tt refl refl
  interview_asks (lines.Join node) is = adds_so (an_interview n) tasks h event may _ 0 is tt refl refl
  interview_asks (lines.Interview node) (free, is) =
      adds_so (an_interview n) tasks h event may _ (length (where_same node n node)) is tt refl (ap (λ (l : List ℕ). length l) (append-nil (where_same node n node)))
  interview_asks (lines.Cancel command) is = adds_so (an_interview n) tasks h event may _ 0 is tt refl refl
  interview_asks lines.Discover (free, is) = adds_so (an_interview n) tasks h event may _ 0 is tt refl refl
  interview_asks (lines.Neighbours node) (free, is) = adds_so (an_interview n) tasks h event may _ 0 is tt refl refl
  interview_asks (lines.Failed node) (free, is) = adds_so (an_interview n) tasks h event may _ 0 is tt refl refl
  interview_asks lines.Probe (free, is) = adds_so (an_interview n) tasks h event may _ 0 is tt refl refl
  interview_asks line is = absurd is

-- ---- both

pub errands_wanted : (n : ℕ) → IsWanted (an_errand n)
errands_wanted n = record {
  line = errand_line n;
  aside = errand_aside n;
  words = λ text. refl;
  refused = λ refusal. refl;
  answered = λ h event. answers_none (an_errand n).ends (errand_aside n) h event;
  added_none = λ h event un. errand_added n h event un;
  asks = λ tasks h event may line is. errand_asks n tasks h event may line is;
  nothing_asked = λ line nothing. errand_nothing n line nothing;
  stores = λ node. refl;
  ticks = λ count. refl;
  time = λ tick. refl;
}

pub interviews_wanted : (n : ℕ) → IsWanted (an_interview n)
interviews_wanted n = record {
  line = interview_line n;
  aside = interview_aside n;
  words = λ text. refl;
  refused = λ refusal. refl;
  answered = λ h event. answers_none (an_interview n).ends (interview_aside n) h event;
  added_none = λ h event un. interview_added n h event un;
  asks = λ tasks h event may line is. interview_asks n tasks h event may line is;
  nothing_asked = λ line nothing. interview_nothing n line nothing;
  stores = λ node. refl;
  ticks = λ count. refl;
  time = λ tick. refl;
}
