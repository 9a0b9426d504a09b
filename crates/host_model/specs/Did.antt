-- Events of a host one after another, and what calls of it did (this project's own).
use Rattle.std.specs.Prelude.{◌≡◌, ◌⊎◌, ℕ, ◌+◌, ◌≤◌, Bool, true, false, List, [], ◌∷◌, ◌++◌, map, Option}
use Rattle.host_keep.specs.Keeping.{OptAdds, Shelf}
use Rattle.host_keep.specs.RecordText.{record_text}
use Rattle.host_keep.specs.declared.record.Record.{Record}
use Rattle.host_model.specs.State.{HostState}
use Rattle.host_model.specs.Events.{HostEvent, Is_unkept, Interview_unkept, Begin_unkept}
use Rattle.host_model.specs.After.{after}
use Rattle.host_model.specs.Outs.{outs}
use Rattle.host_model.specs.Records.{records_at, KeepsInRange}
use Rattle.host_model.specs.May.{May}
use Rattle.host_model.specs.declared.out.HostOut.{HostOut}
use Rattle.zw_base.specs.Faults.{Rose, greatest_count}

-- the host after events
abbrev pub after_all : HostState → List HostEvent → HostState
after_all h [] = h
after_all h (event ∷ events) = after_all (after h event) events

-- all that it puts out at them
abbrev pub outs_all : HostState → List HostEvent → List HostOut
outs_all h [] = []
outs_all h (event ∷ events) = outs h event ++ outs_all (after h event) events

-- all that it has kept of them, as records and as their texts
abbrev pub records_all : HostState → List HostEvent → List Record
records_all h [] = []
records_all h (event ∷ events) = records_at h event ++ records_all (after h event) events

abbrev pub texts_of : List Record → List (List ℕ)
texts_of records = map record_text records

-- they may happen, one after another, and their records are in range
abbrev pub MayAll : HostState → List HostEvent → Type 0
MayAll h [] = Unit {0}
MayAll h (event ∷ events) = May h event × MayAll (after h event) events × KeepsInRange h event

-- something was not done, since its record was not kept
abbrev pub is_unkept : HostEvent → Bool
is_unkept (Is_unkept n) = true
is_unkept (Interview_unkept n update) = true
is_unkept (Begin_unkept n) = true
is_unkept event = false

-- a count rose where that is so
abbrev pub RoseIf : Bool → ℕ → ℕ → Type 0
RoseIf true count count' = Rose count count'
RoseIf false count count' = Unit {0}

-- a count rose by at least so many, or is at its greatest value
abbrev pub RoseBy : ℕ → ℕ → ℕ → Type 0
RoseBy number count count' = (count + number ≤ count') ⊎ (greatest_count ≤ count')

-- one where that is so, else none
abbrev pub one_if : Bool → ℕ
one_if true = 1
one_if false = 0

-- how many of the events were not done, since their record was not kept
abbrev pub unkept_in : List HostEvent → ℕ
unkept_in [] = 0
unkept_in (event ∷ events) = one_if (is_unkept event) + unkept_in events

-- These events happened; what they put out was added, and their records were kept. The count of faults never falls, and rose for each of them that was not kept.
pub record Did (events : List HostEvent) (old new : HostState) (before all : List HostOut) (shelf shelf' : Shelf) : Type 0 where
  pub may : MayAll old events
  pub state : new ≡ after_all old events
  pub outs : all ≡ before ++ outs_all old events
  pub records : OptAdds shelf.records shelf'.records (texts_of (records_all old events))
  pub rose : RoseBy (unkept_in events) shelf.faults shelf'.faults
  pub never_falls : shelf.faults ≤ shelf'.faults
