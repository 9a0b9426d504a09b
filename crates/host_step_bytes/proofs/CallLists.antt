-- Calls of a host one after another.
use Rattle.std.proofs.Common.{◌≡◌, ◌≤◌, List, [], ◌∷◌, ◌++◌, sym, subst, arith}
use Rattle.std.specs.Prelude.{Bool, true, false}
use Rattle.std.specs.List.{AllByRecursion}
use Rattle.host_keep.specs.Keeping.{OptAdds, Kept}
use Rattle.host_keep.specs.RecordText.{record_text}
use Rattle.host_keep.specs.Rows.{IsRecord}
use Rattle.host_keep.specs.declared.record.Record.{Record}
use Rattle.host_model.specs.State.{HostState}
use Rattle.host_model.specs.Events.{HostEvent}
use Rattle.host_model.specs.After.{after}
use Rattle.host_model.specs.Outs.{outs}
use Rattle.host_model.specs.Records.{records_at, KeepsInRange}
use Rattle.host_model.specs.May.{May}
use Rattle.host_model.specs.Did.{after_all, is_unkept, RoseIf, texts_of}
use Rattle.host_model.specs.declared.out.HostOut.{HostOut}
use Rattle.host_model.proofs.EventLists.{none_added, did_nothing, did_one, did_both}
use Rattle.host_step_kept.specs.Choices.{chosen}
use Rattle.host_step_bytes.specs.Calls.{scene, Scene, Does, Stops, DoesAlone, StopsAlone}

-- ---- nothing

pub does_nothing : (Kind : List HostEvent → Type 0) (a b : Scene) → Kind [] → b.host ≡ a.host → b.outs ≡ a.outs → OptAdds a.shelf.records b.shelf.records [] → a.shelf.faults ≤ b.shelf.faults → Does Kind a b
does_nothing Kind a b are host outs records falls =
    record { events = []; are = are; did = did_nothing a.host b.host a.outs b.outs a.shelf b.shelf host outs records falls }

pub stops_at_once : (a b : Scene) → b.host ≡ a.host → b.outs ≡ a.outs → OptAdds a.shelf.records b.shelf.records [] → a.shelf.faults ≤ b.shelf.faults → Stops a b
stops_at_once a b host outs records falls =
    record { events = []; did = did_nothing a.host b.host a.outs b.outs a.shelf b.shelf host outs records falls }

-- a call that asked no keeper did nothing
pub nothing_alone : (Kind : List HostEvent → Type 0) (old new : HostState) (before all : List HostOut) → Kind [] → new ≡ old → all ≡ before → DoesAlone Kind old before new all
nothing_alone Kind old new before all are host outs =
    λ shelf. does_nothing Kind (scene old before shelf) (scene new all shelf) are host outs (none_added shelf.records) (omega arith)

pub stops_alone : (old new : HostState) (before all : List HostOut) → new ≡ old → all ≡ before → StopsAlone old before new all
stops_alone old new before all host outs = λ shelf. stops_at_once (scene old before shelf) (scene new all shelf) host outs (none_added shelf.records) (omega arith)

-- ---- one event

pub does_one : (Kind : List HostEvent → Type 0) (e : HostEvent) (a b : Scene) → Kind (e ∷ []) → May a.host e → KeepsInRange a.host e → b.host ≡ after a.host e → b.outs ≡ a.outs ++ outs a.host e
    → OptAdds a.shelf.records b.shelf.records (texts_of (records_at a.host e)) → RoseIf (is_unkept e) a.shelf.faults b.shelf.faults → a.shelf.faults ≤ b.shelf.faults → Does Kind a b
does_one Kind e a b are may range host put records rose falls =
    record { events = e ∷ []; are = are; did = did_one e a.host b.host a.outs b.outs a.shelf b.shelf may range host put records rose falls }

-- one that keeps no record
pub one_alone : (Kind : List HostEvent → Type 0) (e : HostEvent) (old new : HostState) (before all : List HostOut) → Kind (e ∷ []) → May old e → records_at old e ≡ [] → is_unkept e ≡ false
    → new ≡ after old e → all ≡ before ++ outs old e → DoesAlone Kind old before new all
one_alone Kind e old new before all are may none kept host put =
    λ shelf. does_one Kind e (scene old before shelf) (scene new all shelf) are may (subst (λ (r : List Record). AllByRecursion IsRecord r) (sym none) tt) host put
    (subst (λ (r : List Record). OptAdds shelf.records shelf.records (texts_of r)) (sym none) (none_added shelf.records))
    (subst (λ (x : Bool). RoseIf x shelf.faults shelf.faults) (sym kept) tt) (omega arith)

-- one whose record was kept, or the one that says that it was not
pub does_kept : (Kind : List HostEvent → Type 0) (is_kept : Bool) (e u : HostEvent) (r : Record) (a b : Scene) → Kind (chosen is_kept e u ∷ []) → May a.host (chosen is_kept e u)
    → records_at a.host e ≡ r ∷ [] → IsRecord r → is_unkept e ≡ false → records_at a.host u ≡ [] → is_unkept u ≡ true
    → Kept is_kept (record_text r) a.shelf b.shelf → b.host ≡ after a.host (chosen is_kept e u) → b.outs ≡ a.outs ++ outs a.host (chosen is_kept e u)
    → a.shelf.faults ≤ b.shelf.faults → Does Kind a b
does_kept Kind true e u r a b are may recorded range kept_it none not_it kept host put falls =
    does_one Kind e a b are may (subst (λ (l : List Record). AllByRecursion IsRecord l) (sym recorded) (range, tt)) host put
    (subst (λ (l : List Record). OptAdds a.shelf.records b.shelf.records (texts_of l)) (sym recorded) kept)
    (subst (λ (x : Bool). RoseIf x a.shelf.faults b.shelf.faults) (sym kept_it) tt) falls
does_kept Kind false e u r a b are may recorded range kept_it none not_it kept host put falls =
    does_one Kind u a b are may (subst (λ (l : List Record). AllByRecursion IsRecord l) (sym none) tt) host put
    (subst (λ (l : List Record). OptAdds a.shelf.records b.shelf.records (texts_of l)) (sym none) kept.0)
    (subst (λ (x : Bool). RoseIf x a.shelf.faults b.shelf.faults) (sym not_it) kept.1) falls

-- ---- one call after another

pub then_does : (First Later Whole : List HostEvent → Type 0) (a b c : Scene) → Does First a b → Does Later b c → ((x y : List HostEvent) → b.host ≡ after_all a.host x → First x → Later y → Whole (x ++ y)) → Does Whole a c
then_does First Later Whole a b c first later both =
    record {
      events = first.events ++ later.events;
      are = both first.events later.events first.did.state first.are later.are;
      did = did_both first.events later.events a.host b.host c.host a.outs b.outs c.outs a.shelf b.shelf c.shelf first.did later.did;
    }

pub then_stops : (First : List HostEvent → Type 0) (a b c : Scene) → Does First a b → Stops b c → Stops a c
then_stops First a b c first later =
    record {
      events = first.events ++ later.events;
      did = did_both first.events later.events a.host b.host c.host a.outs b.outs c.outs a.shelf b.shelf c.shelf first.did later.did;
    }

-- the same of calls that ask no keeper
pub alone_then : (First Later Whole : List HostEvent → Type 0) (h mid new : HostState) (before some all : List HostOut) → DoesAlone First h before mid some → DoesAlone Later mid some new all
    → ((x y : List HostEvent) → mid ≡ after_all h x → First x → Later y → Whole (x ++ y)) → DoesAlone Whole h before new all
alone_then First Later Whole h mid new before some all first later both =
    λ shelf.
    let one = first shelf in
    let two = later shelf in
    record {
      events = one.events ++ two.events;
      are = both one.events two.events one.did.state one.are two.are;
      did = did_both one.events two.events h mid new before some all shelf shelf shelf one.did two.did;
    }

pub alone_then_stops : (First : List HostEvent → Type 0) (h mid new : HostState) (before some all : List HostOut) → DoesAlone First h before mid some → StopsAlone mid some new all → StopsAlone h before new all
alone_then_stops First h mid new before some all first later =
    λ shelf.
    let one = first shelf in
    let two = later shelf in
    record { events = one.events ++ two.events; did = did_both one.events two.events h mid new before some all shelf shelf shelf one.did two.did }

-- what is so of events is so
pub does_as : (Kind Other : List HostEvent → Type 0) (a b : Scene) → Does Kind a b → ((events : List HostEvent) → Kind events → Other events) → Does Other a b
does_as Kind Other a b does so = record { events = does.events; are = so does.events does.are; did = does.did }
