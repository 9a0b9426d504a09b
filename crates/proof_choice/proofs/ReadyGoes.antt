-- What an event of a host, and what is noted of it, makes of the messages that are ready to be sealed.
use Rattle.std.proofs.Common.{◌≡◌, ◌⊎◌, ℕ, ◌+◌, ◌<◌, ◌==◌, Bool, true, false, if◌then◌else◌, inl, inr, Some, None, length, List, [], ◌∷◌, ◌++◌, refl, sym, ap, ◌∙◌, subst, append_assoc}
use Rattle.std.specs.List.{AllByRecursion, list_any}
use Rattle.std.proofs.lemmas.Bool.{eqb-true}
use Rattle.serial_frame.specs.Items.{unit_text}
use Rattle.serial_frame.specs.declared.unit.Unit.TheVariants.{Framed}
use Rattle.zw_words.specs.declared.side.Side.TheVariants.{Host, Chip}
use Rattle.zw_text.specs.declared.entry.Entry.{Entry}
use Rattle.zw_text.specs.declared.entry.Entry.TheVariants as entry
use Rattle.zw_text.specs.Transcript.{folded}
use Rattle.host_heard.specs.declared.told.Told.{Told}
use Rattle.law_transcript.specs.Units.{Carried, sending_in}
use Rattle.law_time.specs.Attempts.{Attempts, anew, attempts_by_request, goes_on}
use Rattle.law_time.specs.Requests.{Asked, is_new}
use Rattle.law_time.specs.Sessions.{is_last_command}
use Rattle.host_node.specs.Facts.{NodeFacts}
use Rattle.host_node.specs.State.{NodeState}
use Rattle.host_node.specs.Steps.{after_nonce}
use Rattle.host_model.specs.State.{HostState, node_of}
use Rattle.host_model.specs.After.{after}
use Rattle.host_model.specs.Events.{HostEvent, Starts, Gives_text, Takes_nonce}
use Rattle.host_model.specs.May.{May as MayHost}
use Rattle.proof_giving.specs.proof_queue.proof_attempts.Attempts.{AreAttempts}
use Rattle.proof_giving.specs.proof_queue.proof_attempts.proof_requests.law_host.Heard.{heeds_alone}
use Rattle.proof_giving.proofs.Doings.{node_after}
use Rattle.proof_giving.proofs.Wrote.{Wrote}
use Rattle.proof_giving.proofs.Wrote.Wrote.{Quietly, Again, Anew}
use Rattle.proof_giving.proofs.proof_requests_Telling.{IsQuiet}
use Rattle.proof_giving.specs.proof_queue.proof_attempts.proof_requests.proof_alone.Steps.{AreTold}
use Rattle.proof_giving.specs.proof_queue.proof_attempts.proof_requests.proof_alone.Phases.{Phase, Submitting}
use Rattle.host_model.specs.Outs.{outs}
use Rattle.proof_giving.proofs.Books.{last_is}
use Rattle.proof_giving.specs.Tie.{NodeSo, anew_step}
use Rattle.proof_giving.specs.Told.{GoesAlong, attempts_so_far}
use Rattle.proof_giving.proofs.Told.{attempts_again}
use Rattle.proof_choice.specs.Ready.{ReadySo}
use Rattle.proof_choice.specs.Readying.{Renewed}
use Rattle.proof_choice.proofs.Choosing.{BeginsNone, IsNoBegin, told_none}
use Rattle.proof_choice.proofs.Nonces.{one_stays}
use Rattle.proof_choice.proofs.Readies.{Bare, anew_ready, bare_stays, stays_ready, unbegun_bare}
use Rattle.proof_choice.proofs.Staying.{Stays, no_some}

-- ---- attempts by notes

abbrev pub Either : Attempts → Attempts → Type 0
Either a b = (b ≡ a) ⊎ (b ≡ anew a)

both_either : (a b c : Attempts) → Either a b → Either b c → Either a c
both_either a b c first (inl same) = subst (Either a) (sym same) first
both_either a b c (inl same) (inr is) = inr (is ∙ ap anew same)
both_either a b c (inr same) (inr is) = inr (is ∙ ap anew same)

step_either : (last : ℕ → Bool) (a : Attempts) (e : Entry) → Either a (anew_step last a e)
step_either last a (entry.Out command ended) = by (last command)
  where
    by : (b : Bool) → Either a (if b then anew a else a)
    by true = inr refl
    by false = inl refl
step_either last a e = inl refl

folded_either : (last : ℕ → Bool) (a : Attempts) (told : List Entry) → Either a (folded (anew_step last) a told)
folded_either last a [] = inl refl
folded_either last a (e ∷ told) = both_either a (anew_step last a e) (folded (anew_step last) (anew_step last a e) told) (step_either last a e) (folded_either last (anew_step last a e) told)

quiet_along : (e : Entry) → IsQuiet e → IsNoBegin e → GoesAlong e
quiet_along (entry.Said words) quiet none = absurd quiet
quiet_along (entry.Refused refusal) quiet none = absurd quiet
quiet_along (entry.Written Host unit) quiet none = quiet
quiet_along (entry.Written Chip unit) quiet none = tt
quiet_along (entry.Begin node session command) quiet none = absurd none
quiet_along e quiet none = tt

all_quiet_along : (told : List Entry) → AllByRecursion IsQuiet told → AllByRecursion IsNoBegin told → AllByRecursion GoesAlong told
all_quiet_along [] quiet none = tt
all_quiet_along (e ∷ told) quiet none = (quiet_along e quiet.0 none.0, all_quiet_along told quiet.1 none.1)

-- how they grow along notes
abbrev pub GrowsAlong : Type 0
GrowsAlong =
    (taken : List Entry → Carried → List Told) (n : ℕ) (past told : List Entry) (last : ℕ → Bool) → AllByRecursion GoesAlong told → ((command : ℕ) → is_last_command n past command ≡ last command)
    → attempts_so_far (heeds_alone taken) n (past ++ told) ≡ folded (anew_step last) (attempts_so_far (heeds_alone taken) n past) told

module _ (grows : GrowsAlong) (taken : List Entry → Carried → List Told) (n : ℕ) where
  abbrev so_far : List Entry → Attempts
  so_far past = attempts_so_far (heeds_alone taken) n past

  pub along_either : (past told : List Entry) → AllByRecursion GoesAlong told → Either (so_far past) (so_far (past ++ told))
  along_either past told all =
      subst (Either (so_far past)) (sym (grows taken n past told (is_last_command n past) all (λ command. refl))) (folded_either (is_last_command n past) (so_far past) told)

  pub wrote_either : (here : Phase) (past told : List Entry) (h : HostState) (event : HostEvent) → (here ≡ Submitting → ⊥) → BeginsNone event → AreTold (outs h event) told → Wrote here past told h event
      → Either (so_far past) (so_far (past ++ told))
  wrote_either here past told h event other none are (Quietly un quiet) = along_either past told (all_quiet_along told quiet (told_none h event told none are))
  wrote_either here past told h event other none are (Again f rest un is old quiet) =
      let w : Entry = entry.Written Host (unit_text (Framed f)) in
      let all : AllByRecursion IsNoBegin (w ∷ rest) = subst (AllByRecursion IsNoBegin) is (told_none h event told none are) in
      let first : so_far (past ++ w ∷ []) ≡ so_far past
      = attempts_again taken n past (unit_text (Framed f)) refl (ap (λ (a : Asked). is_new a (unit_text (Framed f))) (last_is taken past) ∙ old) in
      let whole : so_far (past ++ told) ≡ so_far ((past ++ w ∷ []) ++ rest)
      = ap (λ (l : List Entry). so_far (past ++ l)) is ∙ ap so_far (sym (append_assoc past (w ∷ []) rest)) in
      subst (Either (so_far past)) (sym whole)
      (subst (λ (a : Attempts). Either a (so_far ((past ++ w ∷ []) ++ rest))) first (along_either (past ++ w ∷ []) rest (all_quiet_along rest quiet all.1)))
  wrote_either here past told h event other none are (Anew purpose f marks at free is new units now) = absurd (other at)

-- ---- with a node

pub same_parts : (a b : Attempts) (s : NodeState) → b.seen ≡ a.seen → b.ready ≡ a.ready → b.sent ≡ a.sent → ReadySo a s → ReadySo b s
same_parts a b s seen ready sent so = record {
  seen = seen ∙ so.seen;
  text = λ sealed is. ready ∙ so.text sealed is;
  none = λ runs none. ready ∙ so.none runs none;
  pending = λ plain is. sent ∙ so.pending plain is;
}

-- an event that leaves its texts
pub goes_on_ready : (a b : Attempts) (s t : NodeState) → Either a b → Stays false s t → (b ≡ anew a → Bare t) → ReadySo a s → ReadySo b t
goes_on_ready a b s t (inl same) stays bare so = subst (λ (c : Attempts). ReadySo c t) (sym same) (stays_ready a s t stays so)
goes_on_ready a b s t (inr is) stays bare so = subst (λ (c : Attempts). ReadySo c t) (sym is) (anew_ready a s t (stays.seen ∙ sym so.seen) (bare is))

pub bare_of : (a b : Attempts) (t : NodeState) (time : ℕ) (badly : Bool) → NodeFacts t → NodeSo b t time badly → b ≡ anew a → Bare t
bare_of a b t time badly facts so is = unbegun_bare a t time badly facts (subst (λ (c : Attempts). AreAttempts c t time badly) is so.are)

-- behind an item: of the host after the events that are still to come
abbrev pub ReadyBehind : Attempts → NodeState → NodeState → Type 0
ReadyBehind a s last = ReadySo a last ⊎ Renewed a s last

pub behind_ready : (a b : Attempts) (s t last : NodeState) → Either a b → (b ≡ anew a → Bare t) → (Bare s → Bare t) → ReadyBehind a s last → ReadyBehind b t last
behind_ready a b s t last (inl same) bare still (inl so) = inl (subst (λ (c : Attempts). ReadySo c last) (sym same) so)
behind_ready a b s t last (inr is) bare still (inl so) =
    let none = bare is in inr (record { none = ap (λ (c : Attempts). c.ready) is; seen = sym so.seen ∙ sym (ap (λ (c : Attempts). c.seen) is); no_text = none.0; no_pending = none.1 })
behind_ready a b s t last (inl same) bare still (inr new) =
    let none = still (new.no_text, new.no_pending) in
    inr (record { none = ap (λ (c : Attempts). c.ready) same ∙ new.none; seen = new.seen ∙ sym (ap (λ (c : Attempts). c.seen) same); no_text = none.0; no_pending = none.1 })
behind_ready a b s t last (inr is) bare still (inr new) =
    let none = bare is in inr (record { none = ap (λ (c : Attempts). c.ready) is; seen = new.seen ∙ sym (ap (λ (c : Attempts). c.seen) is); no_text = none.0; no_pending = none.1 })

-- and once none is
pub behind_none : (a : Attempts) (s : NodeState) → ReadyBehind a s s → ReadySo a s
behind_none a s (inl so) = so
behind_none a s (inr new) = record {
  seen = sym new.seen;
  text = λ sealed is. no_some _ s.text sealed new.no_text is;
  none = λ runs none. new.none;
  pending = λ plain is. no_some _ s.pending plain new.no_pending is;
}

-- what follows an item
abbrev pub FollowsItem : HostEvent → Type 0
FollowsItem (Starts n plan more payload) = ⊥
FollowsItem (Gives_text n payload) = ⊥
FollowsItem event = Unit {0}

pub bare_after : (n : ℕ) (h : HostState) (event : HostEvent) → n < length h.nodes → FollowsItem event → MayHost h event → Bare (node_of h n) → Bare (node_of (after h event) n)
bare_after n h (Starts k plan more payload) within follows may bare = absurd follows
bare_after n h (Gives_text k payload) within follows may bare = absurd follows
bare_after n h (Takes_nonce k seen text) within follows may bare = by (k == n) refl (node_after h (Takes_nonce k seen text) n within)
  where
    by : (b : Bool) → (k == n) ≡ b → node_of (after h (Takes_nonce k seen text)) n ≡ (if b then after_nonce (node_of h n) seen text else node_of h n) → Bare (node_of (after h (Takes_nonce k seen text)) n)
    by true it node =
        let pending : (node_of h n).pending ≡ Some may.3.plain = subst (λ (j : ℕ). (node_of h j).pending ≡ Some may.3.plain) (eqb-true k n it) may.3.is_pending in
        no_some _ (node_of h n).pending may.3.plain bare.1 pending
    by false it node = subst Bare (sym node) bare
bare_after n h event within follows may bare = bare_stays (node_of h n) (node_of (after h event) n) (one_stays n h event within tt) bare

-- ---- what is submitted

-- another request, or one of another node
pub other_ready : (a : Attempts) (over : Bool) (unit : List ℕ) (s t : NodeState) → Stays false s t → ReadySo a s → ReadySo (attempts_by_request false over unit a) t
other_ready a over unit s t stays so = same_parts a (attempts_by_request false over unit a) t refl refl refl (stays_ready a s t stays so)

-- one of the node: nothing is ready then
pub own_ready : (a : Attempts) (over : Bool) (unit : List ℕ) (s t : NodeState) → t.seen ≡ s.seen → t.text ≡ None
    → ((plain : List ℕ) → t.pending ≡ Some plain → list_any (λ (carried : Carried). goes_on carried.payload) (sending_in unit) ≡ false) → ReadySo a s → ReadySo (attempts_by_request true over unit a) t
own_ready a over unit s t seen none first so = by (list_any (λ (carried : Carried). goes_on carried.payload) (sending_in unit)) first
  where
    by : (b : Bool) → ((plain : List ℕ) → t.pending ≡ Some plain → b ≡ false)
        → ReadySo (if b then record a { sent = a.sent + 1; own = true; ready = [] } else record (anew a) { begun = a.begun + 1; sent = 1; own = true }) t
    by true first = record {
      seen = so.seen ∙ sym seen;
      text = λ sealed is. no_some _ t.text sealed none is;
      none = λ runs no_text. refl;
      pending = λ plain is. absurd (let bad : true ≡ false = first plain is in cc);
    }
    by false first = record { seen = so.seen ∙ sym seen; text = λ sealed is. no_some _ t.text sealed none is; none = λ runs no_text. refl; pending = λ plain is. refl }
