-- Where no entry says that the keeper failed, what the host judges was kept.
use Rattle.std.proofs.Common.{◌≡◌, ℕ, Bool, true, false, List, [], ◌∷◌, ◌++◌, ◌||◌, refl, sym, ap, ap₂, ◌∙◌, subst}
use Rattle.std.proofs.lemmas.Bool.{or_parts}
use Rattle.std.specs.List.{AllByRecursion, list_any}
use Rattle.zw_text.specs.declared.line.Line.{Line}
use Rattle.zw_text.specs.declared.entry.Entry.{Entry}
use Rattle.zw_text.specs.declared.entry.Entry.TheVariants as entry
use Rattle.serial_frame.specs.Stream.{Rest}
use Rattle.serial_frame.specs.declared.item.Item.{Item}
use Rattle.law_time.specs.Stretches.{is_keeper_fault}
use Rattle.host_model.specs.Did.{outs_all}
use Rattle.host_model.specs.Events.{HostEvent, Begin_unkept, Is_unkept}
use Rattle.host_model.specs.After.{after}
use Rattle.host_model.specs.Outs.{outs}
use Rattle.host_model.specs.State.{HostState}
use Rattle.outside_model.specs.Did.{entries_all, happens_all}
use Rattle.outside_model.specs.Events.{OuterEvent, outcome, ticked_entry}
use Rattle.outside_model.specs.State.{Outside}
use Rattle.outside_model.proofs.EventLists.{entries_all-append}
use Rattle.zw_text.specs.Transcript.{lines_run}
use Rattle.world_model.specs.Events.{Event, Host_does, Host_takes, entries, fed, May}
use Rattle.world_model.specs.State.{Machine, routed}
use Rattle.world_model.proofs.Hosting.{routed-append}
use Rattle.proof_walk.specs.Outside.{HasNoWords}
use Rattle.proof_walk.proofs.Alone.{event_wordless, wordless_line}
use Rattle.proof_answered.proofs.Staffed.{worked_before}
use Rattle.proof_in_time.specs.Coming.{IsKept, IsKeptFor}

any_both : {X : Type 0} (f : X → Bool) (a b : List X) → list_any f (a ++ b) ≡ false → (list_any f a ≡ false) × (list_any f b ≡ false)
any_both f [] b none = (refl, none)
any_both f (x ∷ a) b none =
    let parts = or_parts (f x) (list_any f (a ++ b)) none in
    let left = any_both f a b parts.1 in
    (ap (λ (one : Bool). one || list_any f a) parts.0 ∙ left.0, left.1)

pub kept_before : (these : List Bool) (past told : List Entry) → IsKeptFor these (past ++ told) → IsKeptFor these past
kept_before these past told is = record { worked = worked_before these past told is.worked; kept = (any_both is_keeper_fault past told is.kept).0 }

-- what the host puts out
one_kept : (w : Outside) (h : HostState) (event : HostEvent) → list_any is_keeper_fault (entries_all w (routed (outs h event))) ≡ false → IsKept event
unfolding outcome
one_kept w h (Is_unkept n) none =
    let stamped = (any_both is_keeper_fault (ticked_entry w.outer ++ entry.Unkept n ∷ []) [] none).0 in
    let wrong : true ≡ false = (any_both is_keeper_fault (ticked_entry w.outer) (entry.Unkept n ∷ []) stamped).1 in
    absurd cc
one_kept w h event none = tt

all_kept : (w : Outside) (h : HostState) (events : List HostEvent) → list_any is_keeper_fault (entries_all w (routed (outs_all h events))) ≡ false → AllByRecursion IsKept events
all_kept w h [] none = tt
all_kept w h (event ∷ events) none =
    let apart : entries_all w (routed (outs h event ++ outs_all (after h event) events))
    ≡ entries_all w (routed (outs h event)) ++ entries_all (happens_all w (routed (outs h event))) (routed (outs_all (after h event) events)) =
    ap (λ (l : List OuterEvent). entries_all w l) (routed-append (outs h event) (outs_all (after h event) events)) ∙ entries_all-append w (routed (outs h event)) (routed (outs_all (after h event) events)) in
    let both = any_both is_keeper_fault (entries_all w (routed (outs h event))) (entries_all (happens_all w (routed (outs h event))) (routed (outs_all (after h event) events)))
    (sym (ap (λ (l : List Entry). list_any is_keeper_fault l) apart) ∙ none) in
    (one_kept w h event both.0, all_kept (happens_all w (routed (outs h event))) (after h event) events both.1)

pub judged_kept : (m : Machine) (count : ℕ) (rest : Rest) (items : List Item) (events : List HostEvent) → list_any is_keeper_fault (entries m (Host_takes count rest items events)) ≡ false → AllByRecursion IsKept events
unfolding entries
judged_kept m count rest items events none = all_kept (fed m count rest).outside (fed m count rest).host.state events none

-- nor does it fail to keep a session
pub none_unkept : (m : Machine) (event : Event) → list_any is_keeper_fault (entries m event) ≡ false → (k : ℕ) → event ≡ Host_does (Begin_unkept k) → ⊥
unfolding entries outcome
none_unkept m event none k is =
    let told : list_any is_keeper_fault (entries m (Host_does (Begin_unkept k))) ≡ false = subst (λ (e : Event). list_any is_keeper_fault (entries m e) ≡ false) is none in
    let first = (any_both is_keeper_fault ((ticked_entry m.outside.outer ++ entry.Unkept k ∷ []) ++ []) [] told).0 in
    let stamped = (any_both is_keeper_fault (ticked_entry m.outside.outer ++ entry.Unkept k ∷ []) [] first).0 in
    let wrong : true ≡ false = (any_both is_keeper_fault (ticked_entry m.outside.outer) (entry.Unkept k ∷ []) stamped).1 in
    absurd cc

pub told_kept : (these : List Bool) (past told : List Entry) → IsKeptFor these (past ++ told) → list_any is_keeper_fault told ≡ false
told_kept these past told is = (any_both is_keeper_fault past told is.kept).1

-- ---- no line is said at an event

pub no_lines : (told : List Entry) → AllByRecursion HasNoWords told → lines_run told ≡ []
no_lines [] none = refl
no_lines (entry ∷ told) none = ap₂ (λ (a b : List Line). a ++ b) (wordless_line entry none.0) (no_lines told none.1)

pub event_lines : (m : Machine) (event : Event) → May m event → lines_run (entries m event) ≡ []
event_lines m event may = no_lines (entries m event) (event_wordless m event may)
