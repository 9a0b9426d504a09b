-- What a turn of a pump finds to give.
use Rattle.std.proofs.Common.{◌≡◌, ℕ, ◌+◌, ◌<◌, ◌≤◌, List, [], ◌∷◌, ◌++◌, length, refl, ap, sym, ◌∙◌, subst, arith, inl, inr}
use Rattle.std.specs.Prelude.{Bool, true, false, Option, Some, None, IsSome, slice_get, slice_index}
use Rattle.supervision.specs.Host.{begun_of}
use Rattle.host_node.specs.State.{NodeState}
use Rattle.host_node.specs.declared.series.Series.{Series}
use Rattle.host_node.specs.declared.series.Series.TheVariants.{Idle, Due}
use Rattle.host_node.specs.declared.attempt.Plan.{Plan}
use Rattle.host_model.specs.State.{HostState, node_of}
use Rattle.host_model.specs.Events.{HostEvent, Submits_abort, Submits_front, Begins, Begin_unkept, Starts, Gives_text, Gives_segment}
use Rattle.host_model.specs.Outs.{outs}
use Rattle.host_keep.specs.Keeping.{OptAdds, Kept}
use Rattle.host_keep.specs.Rows.{IsRecord}
use Rattle.host_keep.specs.RecordText.{record_text}
use Rattle.host_keep.specs.declared.record.Record.TheVariants.{Begun}
use Rattle.host_step_kept.specs.Choices.{chosen}
use Rattle.host_model.specs.After.{after}
use Rattle.host_model.specs.Facts.{HostFacts}
use Rattle.host_model.specs.May.{May, IsFree, IsServed}
use Rattle.host_model.specs.Pumping.{IsNext, IsServedBy, GivesNext}
use Rattle.host_model.specs.declared.out.HostOut.{HostOut}
use Rattle.host_step_bytes.specs.Calls.{Scene, Does, DoesAlone, One}
use Rattle.host_step_bytes.proofs.CallLists.{does_one, does_kept, one_alone}
use Rattle.host_core.proofs.Submitted.{served_is_next, abort_is_next, prefix_is_next}

pub some_unless_none : {X : Type 0} (o : Option X) → (o ≡ None → ⊥) → IsSome o
some_unless_none None there = absurd (there refl)
some_unless_none (Some x) there = refl

-- ---- what it did

-- each next request may be submitted
abbrev pub MayNext : Type 0
MayNext = (h : HostState) (event : HostEvent) → HostFacts h → IsNext h event → May h event

-- a session may begin for a node that is served, where its series is over
pub begins_may : MayNext → (h : HostState) (n : ℕ) → HostFacts h → IsServed h n → (node_of h n).series ≡ Idle → May h (Begins n (begun_of (node_of h n).book + 1) (slice_index (node_of h n).waiting 0))
begins_may law h n facts served idle =
    let e : HostEvent = Begins n (begun_of (node_of h n).book + 1) (slice_index (node_of h n).waiting 0) in
    law h e facts (served_is_next h n e served (subst (λ (s : Series). IsServedBy h n s e) (sym idle) (inl refl)))

-- the oldest of those that wait
pub oldest_is_there : (l : List ℕ) → 0 < length l → slice_get l 0 ≡ None → ⊥
oldest_is_there [] some none = omega arith
oldest_is_there (x ∷ more) some none = cc

pub oldest_is : (l : List ℕ) (command : ℕ) → slice_get l 0 ≡ Some command → command ≡ slice_index l 0
oldest_is [] command e = cc
oldest_is (x ∷ more) command e = let is : x ≡ command = cc in sym is

begun_or : (h : HostState) (n : ℕ) (is_kept : Bool) → IsServedBy h n Idle (chosen is_kept (Begins n (begun_of (node_of h n).book + 1) (slice_index (node_of h n).waiting 0)) (Begin_unkept n))
begun_or h n true = inl refl
begun_or h n false = inr refl

may_begin_or : (h : HostState) (n session command : ℕ) (is_kept : Bool) → May h (Begins n session command) → May h (chosen is_kept (Begins n session command) (Begin_unkept n))
may_begin_or h n session command true may = may
may_begin_or h n session command false may = (may.0, may.1)

pub session_begun : (n session command : ℕ) (is_kept : Bool) (a b : Scene) → May a.host (Begins n session command) → IsRecord (Begun n session command) → Kept is_kept (record_text (Begun n session command)) a.shelf b.shelf
    → b.host ≡ after a.host (chosen is_kept (Begins n session command) (Begin_unkept n)) → b.outs ≡ a.outs ++ outs a.host (chosen is_kept (Begins n session command) (Begin_unkept n)) → a.shelf.faults ≤ b.shelf.faults
    → Does (One (IsServedBy a.host n Idle)) a b
session_begun n session command is_kept a b may range kept host put falls =
    does_kept (One (IsServedBy a.host n Idle)) is_kept (Begins n session command) (Begin_unkept n) (Begun n session command) a b (
      chosen is_kept (Begins n session command) (Begin_unkept n),
      subst (λ (s : ℕ). IsServedBy a.host n Idle (chosen is_kept (Begins n s command) (Begin_unkept n))) (sym may.2)
          (subst (λ (c : ℕ). IsServedBy a.host n Idle (chosen is_kept (Begins n (begun_of (node_of a.host n).book + 1) c) (Begin_unkept n))) (sym may.3) (begun_or a.host n is_kept)),
      refl,
    )
    (may_begin_or a.host n session command is_kept may) refl range refl refl refl kept host put falls

-- an attempt started
pub attempt_started : (h : HostState) (n : ℕ) (plan : Plan) (more : Bool) (payload : List ℕ) (new : HostState) (before all : List HostOut) → May h (Starts n plan more payload)
    → new ≡ after h (Starts n plan more payload) → all ≡ before ++ outs h (Starts n plan more payload) → DoesAlone (One (IsServedBy h n Due)) h before new all
attempt_started h n plan more payload new before all may host put =
    one_alone (One (IsServedBy h n Due)) (Starts n plan more payload) h new before all (Starts n plan more payload, (plan, more, payload, may.1, refl), refl) may refl refl host put

-- it gave its sealed text
pub text_given : (h : HostState) (n : ℕ) (text : Option (List ℕ)) (payload : List ℕ) (new : HostState) (before all : List HostOut) → text ≡ Some payload → May h (Gives_text n payload)
    → new ≡ after h (Gives_text n payload) → all ≡ before ++ outs h (Gives_text n payload) → DoesAlone (One (GivesNext h n text)) h before new all
text_given h n text payload new before all is may host put =
    one_alone (One (GivesNext h n text)) (Gives_text n payload) h new before all
    (Gives_text n payload, subst (λ (o : Option (List ℕ)). GivesNext h n o (Gives_text n payload)) (sym is) refl, refl) may refl refl host put

-- it gave its next segment
pub segment_given : (h : HostState) (n : ℕ) (more : Bool) (payload : List ℕ) (new : HostState) (before all : List HostOut) → May h (Gives_segment n more payload)
    → new ≡ after h (Gives_segment n more payload) → all ≡ before ++ outs h (Gives_segment n more payload) → DoesAlone (One (GivesNext h n None)) h before new all
segment_given h n more payload new before all may host put =
    one_alone (One (GivesNext h n None)) (Gives_segment n more payload) h new before all
    (Gives_segment n more payload, (payload, may.2, ap (λ (b : Bool). Gives_segment n b payload) may.3), refl) may refl refl host put

-- the same, of what the node says
pub begins_may_as : MayNext → (h : HostState) (n : ℕ) → HostFacts h → IsServed h n → (node_of h n).series ≡ Idle → (state : NodeState) → state ≡ node_of h n → (session command : ℕ)
    → session ≡ begun_of state.book + 1 → slice_get state.waiting 0 ≡ Some command → May h (Begins n session command)
begins_may_as law h n facts served idle state is session command next first =
    let s : session ≡ begun_of (node_of h n).book + 1 = next ∙ ap (λ (x : NodeState). begun_of x.book + 1) is in
    let k : command ≡ slice_index (node_of h n).waiting 0 = oldest_is (node_of h n).waiting command (ap (λ (x : NodeState). slice_get x.waiting 0) (sym is) ∙ first) in
    subst (λ (x : ℕ). May h (Begins n x command)) (sym s)
    (subst (λ (x : ℕ). May h (Begins n (begun_of (node_of h n).book + 1) x)) (sym k) (begins_may law h n facts served idle))

pub oldest_waits : MayNext → (h : HostState) (n : ℕ) → HostFacts h → IsServed h n → (node_of h n).series ≡ Idle → (state : NodeState) (found : Option ℕ) → state ≡ node_of h n → found ≡ slice_get state.waiting 0 → IsSome found
oldest_waits law h n facts served idle state found is oldest =
    let may = begins_may law h n facts served idle in
    some_unless_none found (λ (none : found ≡ None). oldest_is_there (node_of h n).waiting may.1.0 (ap (λ (x : NodeState). slice_get x.waiting 0) (sym is) ∙ sym oldest ∙ none))

-- a series that is this one is served so
pub served_as : (n : ℕ) (series one : Series) (a b : Scene) → series ≡ one → Does (One (IsServedBy a.host n one)) a b → Does (One (IsServedBy a.host n series)) a b
served_as n series one a b is does = subst (λ (s : Series). Does (One (IsServedBy a.host n s)) a b) (sym is) does

-- ---- an abort, or a task

pub abort_submitted : (a b : Scene) → IsFree a.host → a.host.requests.owes ≡ true → b.host ≡ after a.host Submits_abort → b.outs ≡ a.outs ++ outs a.host Submits_abort
    → OptAdds a.shelf.records b.shelf.records [] → a.shelf.faults ≤ b.shelf.faults → Does (One (IsNext a.host)) a b
abort_submitted a b free owes host put records falls =
    does_one (One (IsNext a.host)) Submits_abort a b (Submits_abort, abort_is_next a.host free owes, refl) (free, owes) tt host put records tt falls

pub prefix_submitted : (a b : Scene) → IsFree a.host → a.host.requests.owes ≡ false → (a.host.requests.queue ≡ [] → ⊥) → b.host ≡ after a.host Submits_front → b.outs ≡ a.outs ++ outs a.host Submits_front
    → OptAdds a.shelf.records b.shelf.records [] → a.shelf.faults ≤ b.shelf.faults → Does (One (IsNext a.host)) a b
prefix_submitted a b free paid some host put records falls =
    does_one (One (IsNext a.host)) Submits_front a b (Submits_front, prefix_is_next a.host free paid some, refl) (free, paid, some) tt host put records tt falls
