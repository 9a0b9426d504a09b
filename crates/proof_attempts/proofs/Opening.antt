-- The last session of a node, and whether it is open, by the tables of a host.
use Rattle.std.proofs.Common.{◌≡◌, ◌⊎◌, inl, inr, ℕ, suc, ◌-◌, ◌||◌, nat_lt, not, Bool, true, false, if◌then◌else◌, List, [], ◌∷◌, ◌++◌, length, drop, filter, refl, sym, ap, ap₂, ◌∙◌, subst, arith, length-append}
use Rattle.std.specs.Prelude.{Option, Some, None, slice_get}
use Rattle.std.specs.List.{AllByRecursion, list_any}
use Rattle.std.proofs.Math.Seq.{drop-append_seam}
use Rattle.std.proofs.lemmas.Bool.{lt-ltb}
use Rattle.zw_base.proofs.Each.{all-right, all-weaker}
use Rattle.supervision.specs.Host.{command_at as command_of_session, open_session}
use Rattle.zw_text.specs.declared.entry.Entry.{Entry}
use Rattle.zw_text.specs.declared.entry.Outcome.{Outcome}
use Rattle.zw_text.specs.declared.entry.Outcome.TheVariants as outcomes
use Rattle.zw_text.specs.Transcript.{accepted, outcome}
use Rattle.proof_work.specs.law_transcript.Commands.{is_waiting, numbers_of, waiting}
use Rattle.proof_work.specs.law_transcript.Sessions.{IsFinal}
use Rattle.proof_work.specs.law_time.Interviews.{listens}
use Rattle.proof_work.specs.law_time.Judged.{last_of}
use Rattle.proof_work.specs.law_time.Requests.{are_none}
use Rattle.proof_work.specs.law_time.Waking.{counts_awake}
use Rattle.proof_work.specs.law_time.Sessions.{is_final, is_open, last_command}
use Rattle.host_node.specs.State.{NodeState, is_open as has_open}
use Rattle.proof_requests.specs.host_model.State.{HostState, node_of}
use Rattle.proof_requests.specs.host_model.Sessions.{open_command}
use Rattle.proof_work.specs.proof_host.Facts.{Facts}
use Rattle.proof_work.specs.proof_host.Laws.{IsUnderWay, numbers_for}
use Rattle.proof_work.specs.proof_host.Tables.{outcome_in, recorded}
use Rattle.proof_attempts.specs.Series.{NodeAsTold}

-- ---- the last of some

pub record IsLast (all : List ℕ) : Type 0 where
  pub front : List ℕ
  pub last : ℕ
  pub are : all ≡ front ++ last ∷ []

pub has_last : (first : ℕ) (more : List ℕ) → IsLast (first ∷ more)
has_last first [] = record { front = []; last = first; are = refl }
has_last first (next ∷ more) = let rest = has_last next more in record { front = first ∷ rest.front; last = rest.last; are = ap (λ (l : List ℕ). first ∷ l) rest.are }

pub last_is : {A : Type 0} (front : List A) (last : A) → last_of (front ++ last ∷ []) ≡ last ∷ []
last_is front last =
    let long = length-append front (last ∷ []) in
    let place : length (front ++ last ∷ []) - 1 ≡ length front = omega (arith, long) in
    ap (λ (k : ℕ). drop k (front ++ last ∷ [])) place ∙ drop-append_seam front (last ∷ [])

got_last : (front : List ℕ) (last : ℕ) → slice_get (front ++ last ∷ []) (length front) ≡ Some last
got_last [] last = refl
got_last (first ∷ front) last = got_last front last

session_last : (front : List ℕ) (last : ℕ) → command_of_session (front ++ last ∷ []) (length (front ++ last ∷ [])) ≡ Some last
session_last front last =
    let long = length-append front (last ∷ []) in
    let count : length (front ++ last ∷ []) ≡ suc (length front) = omega (arith, long) in
    ap (λ (k : ℕ). command_of_session (front ++ last ∷ []) k) count ∙ got_last front last

-- the session that is open is the last
pub record OpenLast (node : NodeState) : Type 0 where
  pub front : List ℕ
  pub command : ℕ
  pub are : node.book.commands ≡ front ++ command ∷ []
  pub opened : open_command node ≡ Some command
  pub last : last_of node.book.commands ≡ command ∷ []

module _ (node : NodeState) where
  abbrev with_book : Option ℕ → List ℕ → NodeState
  with_book status commands = record node { book = record node.book { commands = commands; outcome = status } }

  open_by : (status : Option ℕ) (commands : List ℕ)
      → ((open_session (with_book status commands).book ≡ None) × (open_command (with_book status commands) ≡ None)) ⊎ OpenLast (with_book status commands)
  open_by (Some final) commands = inl (refl, refl)
  open_by None [] = inl (refl, refl)
  open_by None (first ∷ more) =
      let at = has_last first more in
      inr (record {
        front = at.front;
        command = at.last;
        are = at.are;
        opened = ap (λ (l : List ℕ). command_of_session l (length l)) at.are ∙ session_last at.front at.last;
        last = ap (λ (l : List ℕ). last_of l) at.are ∙ last_is at.front at.last;
      })

  pub open_last : ((open_session node.book ≡ None) × (open_command node ≡ None)) ⊎ OpenLast node
  open_last = open_by node.book.outcome node.book.commands

-- ---- outcomes

final_so : (o p : Outcome) → recorded o ≡ recorded p → IsFinal p → is_final o ≡ true
final_so o outcomes.Success same is = by o same
  where
    by : (o : Outcome) → recorded o ≡ outcomes.Success → is_final o ≡ true
    by outcomes.Success same = refl
    by outcomes.Fail same = cc
    by outcomes.NoSupport same = cc
    by outcomes.Waiting same = cc
    by outcomes.Begun same = cc
    by outcomes.Unanswered same = cc
    by outcomes.Cancelled same = cc
final_so o outcomes.Fail same is = by o same
  where
    by : (o : Outcome) → recorded o ≡ outcomes.Fail → is_final o ≡ true
    by outcomes.Success same = cc
    by outcomes.Fail same = refl
    by outcomes.NoSupport same = cc
    by outcomes.Waiting same = cc
    by outcomes.Begun same = cc
    by outcomes.Unanswered same = cc
    by outcomes.Cancelled same = cc
final_so o outcomes.NoSupport same is = by o same
  where
    by : (o : Outcome) → recorded o ≡ outcomes.NoSupport → is_final o ≡ true
    by outcomes.Success same = cc
    by outcomes.Fail same = cc
    by outcomes.NoSupport same = refl
    by outcomes.Waiting same = cc
    by outcomes.Begun same = cc
    by outcomes.Unanswered same = cc
    by outcomes.Cancelled same = cc
final_so o p same is = absurd is

-- one that is under way is begun or unanswered, and recorded as begun
recorded_under_way : (p : Outcome) → IsUnderWay p → recorded p ≡ outcomes.Begun
recorded_under_way outcomes.Begun is = refl
recorded_under_way outcomes.Unanswered is = refl
recorded_under_way p is = absurd is

begun_open : (o : Outcome) → recorded o ≡ outcomes.Begun → is_final o ≡ false
begun_open outcomes.Success same = cc
begun_open outcomes.Fail same = cc
begun_open outcomes.NoSupport same = cc
begun_open outcomes.Waiting same = refl
begun_open outcomes.Begun same = refl
begun_open outcomes.Unanswered same = refl
begun_open outcomes.Cancelled same = refl

-- ---- the book of a node

module _ (past : List Entry) (ended : ℕ → Outcome) (same : (number : ℕ) → recorded (outcome number past) ≡ recorded (ended number)) where
  abbrev opens : List ℕ → Bool
  opens commands = list_any (λ command. not (is_final (outcome command past))) (last_of commands)

  one_open : (commands : List ℕ) (last : ℕ) (final : Bool) → last_of commands ≡ last ∷ [] → is_final (outcome last past) ≡ final → opens commands ≡ not final
  one_open commands last final is so = ap (λ (l : List ℕ). list_any (λ command. not (is_final (outcome command past))) l) is ∙ ap (λ (b : Bool). list_any (λ b. b) (not b ∷ [])) so ∙ or_none (not final)
    where
      or_none : (b : Bool) → list_any (λ (c : Bool). c) (b ∷ []) ≡ b
      or_none true = refl
      or_none false = refl

  -- a book whose last session has ended; and one whose last session has not
  closed : (commands : List ℕ) → AllByRecursion (λ number. IsFinal (ended number)) commands → opens commands ≡ false
  closed [] all = refl
  closed (first ∷ more) all =
      let at = has_last first more in
      let final = (all-right (λ number. IsFinal (ended number)) at.front (at.last ∷ []) (subst (λ (l : List ℕ). AllByRecursion (λ number. IsFinal (ended number)) l) at.are all)).0 in
      one_open (first ∷ more) at.last true (ap (λ (l : List ℕ). last_of l) at.are ∙ last_is at.front at.last) (final_so (outcome at.last past) (ended at.last) (same at.last) final)

  opened : (first : ℕ) (more : List ℕ) → ((number : ℕ) → command_of_session (first ∷ more) (length (first ∷ more)) ≡ Some number → IsUnderWay (ended number)) → opens (first ∷ more) ≡ true
  opened first more under_way =
      let at = has_last first more in
      let way = under_way at.last (ap (λ (l : List ℕ). command_of_session l (length l)) at.are ∙ session_last at.front at.last) in
      one_open (first ∷ more) at.last false (ap (λ (l : List ℕ). last_of l) at.are ∙ last_is at.front at.last)
      (begun_open (outcome at.last past) (same at.last ∙ recorded_under_way (ended at.last) way))

  never : (number : ℕ) → None ≡ Some number → ⊥
  never number none = cc

  by_book : (node : NodeState) (status : Option ℕ) (commands : List ℕ)
      → AllByRecursion (λ number. (open_command (record node { book = record node.book { commands = commands; outcome = status } }) ≡ Some number → ⊥) → IsFinal (ended number)) commands
      → ((number : ℕ) → open_command (record node { book = record node.book { commands = commands; outcome = status } }) ≡ Some number → IsUnderWay (ended number))
      → opens commands ≡ has_open (record node { book = record node.book { commands = commands; outcome = status } })
  by_book node (Some final) commands all under_way =
      closed commands (all-weaker (λ number. (None ≡ Some number → ⊥) → IsFinal (ended number)) (λ number. IsFinal (ended number)) (λ number is. is (never number)) commands all)
  by_book node None [] all under_way = refl
  by_book node None (first ∷ more) all under_way = opened first more under_way

-- the last session of a node by the transcript is that of its book
pub last_told : (past : List Entry) (h : HostState) (n : ℕ) → Facts past h → last_command n past ≡ last_of (node_of h n).book.commands
last_told past h n facts = ap (λ (l : List ℕ). last_of l) (facts.begun n)

-- and it is open as there
pub open_told : (past : List Entry) (h : HostState) (n : ℕ) → Facts past h → is_open n past ≡ has_open (node_of h n)
open_told past h n facts =
    let node = node_of h n in
    let order = facts.in_order n in
    ap (λ (l : List ℕ). list_any (λ command. not (is_final (outcome command past))) (last_of l)) (facts.begun n)
    ∙ by_book past (outcome_in h.commands) facts.entered node node.book.outcome node.book.commands order.ended order.under_way

-- ---- commands that wait

recorded_waits : (o : Outcome) → is_waiting o ≡ is_waiting (recorded o)
recorded_waits outcomes.Success = refl
recorded_waits outcomes.Fail = refl
recorded_waits outcomes.NoSupport = refl
recorded_waits outcomes.Waiting = refl
recorded_waits outcomes.Begun = refl
recorded_waits outcomes.Unanswered = refl
recorded_waits outcomes.Cancelled = refl

same_filter : (p q : ℕ → Bool) → ((k : ℕ) → p k ≡ q k) → (all : List ℕ) → filter p all ≡ filter q all
same_filter p q same [] = refl
same_filter p q same (first ∷ all) = ap₂ (λ (b : Bool) (l : List ℕ). if b then first ∷ l else l) (same first) (same_filter p q same all)

-- those of a node by the transcript are those that wait in the host, where each that was accepted was accepted for it by its order
pub waiting_told : (past : List Entry) (h : HostState) (n : ℕ) → Facts past h → numbers_of (accepted n past) ≡ numbers_for n past → waiting n past ≡ (node_of h n).waiting
waiting_told past h n facts numbers =
    ap (λ (l : List ℕ). filter (λ number. is_waiting (outcome number past)) l) numbers
    ∙ same_filter (λ number. is_waiting (outcome number past)) (λ number. is_waiting (outcome_in h.commands number))
    (λ number. recorded_waits (outcome number past) ∙ ap is_waiting (facts.entered number) ∙ sym (recorded_waits (outcome_in h.commands number))) (numbers_for n past)
    ∙ sym (facts.waiting n)

none_waits : (all : List ℕ) → are_none all ≡ not (nat_lt 0 (length all))
none_waits [] = refl
none_waits (first ∷ all) = sym (ap not (lt-ltb 0 (length (first ∷ all)) (omega arith)))

-- a node is as it is told, where what the transcript takes it to listen to is so too
pub node_told : (past : List Entry) (h : HostState) (n : ℕ) → Facts past h → numbers_of (accepted n past) ≡ numbers_for n past → listens n past ≡ (node_of h n).listens
    → (node_of h n).awake ≡ counts_awake n past → NodeAsTold n past (node_of h n)
node_told past h n facts numbers hears awake = record {
  waits = ap (λ (l : List ℕ). are_none l) (waiting_told past h n facts numbers) ∙ none_waits (node_of h n).waiting;
  up = ap₂ (λ (a b : Bool). a || b) hears (sym awake);
  opened = open_told past h n facts;
}
