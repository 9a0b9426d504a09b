-- What entries add to what arrives of the chip's units: a unit of the chip adds what stands directly after it says, and all else adds nothing.
use Rattle.std.proofs.Common.{◌≡◌, ℕ, Bool, true, false, if◌then◌else◌, List, [], ◌∷◌, ◌++◌, refl, sym, ap, ap₂, subst, ◌∙◌, append_assoc, append-nil}
use Rattle.std.proofs.lemmas.Grind.{flat_map-append}
use Rattle.std.specs.List.{flat_map, AllByRecursion}
use Rattle.serial_frame.specs.Items.{unit_text}
use Rattle.serial_frame.specs.declared.unit.Unit.{Unit as LineUnit}
use Rattle.serial_pipes.specs.State.{WayState, fits, garbled, mark_for}
use Rattle.serial_pipes.specs.Events.{told, told_by}
use Rattle.serial_pipes.specs.declared.marks.Mark.{Mark}
use Rattle.serial_pipes.specs.declared.marks.Mark.TheVariants.{Free, Lost, Changed}
use Rattle.zw_words.specs.declared.side.Side.{Side}
use Rattle.zw_words.specs.declared.side.Side.TheVariants.{Host as by_host, Chip as by_chip}
use Rattle.zw_text.specs.declared.entry.Entry.{Entry}
use Rattle.zw_text.specs.declared.entry.Entry.TheVariants as entry
use Rattle.zw_text.specs.Transcript.{Unit_on, Way, folded, last_with, unit_step, units}
use Rattle.zw_text.specs.Transcript.Way.{Whole, Missed, Changed as other_than}
use Rattle.zw_text.proofs.Views.{folded-append}
use Rattle.proof_air.specs.law_transcript.Lists.{Has}
use Rattle.proof_air.specs.law_transcript.Units.{arrived, arrived_of, bringing_in, bringings, from_node}
use Rattle.proof_air.proofs.Having.{has_left, has_shown, shown_has}
use Rattle.proof_air.specs.law_wire.Serial.{arriving_of}
use Rattle.proof_spoken.proofs.Entered.{IsMark, told_by_marks}
use Rattle.proof_sending.specs.Arriving.{ArrivesMore, ArrivesSo, BringsMore, all_arriving}

-- ---- the last unit

-- what became of it is said later
last_is : (way : Way) (us : List Unit_on) (u : Unit_on) → last_with way (us ++ u ∷ []) ≡ us ++ record { bytes = u.bytes; way = way } ∷ []
last_is way [] u = refl
last_is way (first ∷ []) u = refl
last_is way (first ∷ (next ∷ us)) u = ap (λ (l : List Unit_on). first ∷ l) (last_is way (next ∷ us) u)

abbrev texts_of : Unit_on → List (List ℕ)
texts_of u = arrived_of u.bytes u.way

abbrev pub arrive : List Unit_on → List (List ℕ)
arrive us = flat_map texts_of us

pub with_last : (us : List Unit_on) (text : List ℕ) (way : Way) → arrive (us ++ record { bytes = text; way = way } ∷ []) ≡ arrive us ++ arrived_of text way
with_last us text way = flat_map-append texts_of us (record { bytes = text; way = way } ∷ []) ∙ ap (λ (l : List (List ℕ)). arrive us ++ l) (append-nil (arrived_of text way))

pub became : (us : List Unit_on) (text : List ℕ) (old way : Way) → arrive (last_with way (us ++ record { bytes = text; way = old } ∷ [])) ≡ arrive us ++ arrived_of text way
became us text old way = ap arrive (last_is way us (record { bytes = text; way = old })) ∙ with_last us text way

-- ---- a unit of the chip

abbrev pub Became : List Unit_on → List ℕ → List Entry → Type 0
Became us text marks = arrive (folded (unit_step by_chip) (us ++ record { bytes = text; way = Whole } ∷ []) marks) ≡ arrive us ++ arriving_of by_chip text marks

pub whole_became : (us : List Unit_on) (text : List ℕ) (room : Bool) → Became us text (if room then [] else entry.Overrun by_chip ∷ [])
whole_became us text true = with_last us text Whole
whole_became us text false = became us text Whole Missed

pub other_became : (us : List Unit_on) (text other : List ℕ) (room : Bool) → Became us text (entry.Garbled by_chip other ∷ (if room then [] else entry.Overrun by_chip ∷ []))
other_became us text other true = became us text Whole (other_than other)
other_became us text other false =
    ap (λ (l : List Unit_on). arrive (last_with Missed l)) (last_is (other_than other) us (record { bytes = text; way = Whole })) ∙ became us text (other_than other) Missed

unit_became : (us : List Unit_on) (bytes : List ℕ) (mark : Mark) (text : List ℕ) → Became us text (told_by by_chip bytes mark text)
unit_became us bytes Free text = whole_became us text (fits bytes text)
unit_became us bytes Lost text = became us text Whole Missed
unit_became us bytes (Changed garble) text = other_became us text (garbled garble text) (fits bytes (garbled garble text))

-- ---- a unit of the host

abbrev Same : List Unit_on → List Entry → Type 0
Same us told = folded (unit_step by_chip) us told ≡ us

overrun_same : (us : List Unit_on) (room : Bool) → Same us (if room then [] else entry.Overrun by_host ∷ [])
overrun_same us true = refl
overrun_same us false = refl

host_same : (us : List Unit_on) (bytes : List ℕ) (mark : Mark) (text : List ℕ) → Same us (told_by by_host bytes mark text)
host_same us bytes Free text = overrun_same us (fits bytes text)
host_same us bytes Lost text = refl
host_same us bytes (Changed garble) text = overrun_same us (fits bytes (garbled garble text))

-- ---- entries of no unit

abbrev pub IsNoUnit : Entry → Type 0
IsNoUnit (entry.Written side unit) = ⊥
IsNoUnit (entry.Dropped side) = ⊥
IsNoUnit (entry.Garbled side unit) = ⊥
IsNoUnit (entry.Overrun side) = ⊥
IsNoUnit _ = Unit {0}

step_same : (us : List Unit_on) (e : Entry) → IsNoUnit e → unit_step by_chip us e ≡ us
step_same us (entry.Written side unit) none = absurd none
step_same us (entry.Dropped side) none = absurd none
step_same us (entry.Garbled side unit) none = absurd none
step_same us (entry.Overrun side) none = absurd none
step_same us e none = refl

all_same : (told : List Entry) → AllByRecursion IsNoUnit told → (us : List Unit_on) → Same us told
all_same [] none us = refl
all_same (e ∷ told) none us = ap (λ (l : List Unit_on). folded (unit_step by_chip) l told) (step_same us e none.0) ∙ all_same told none.1 us

none_arriving : (told : List Entry) → AllByRecursion IsNoUnit told → all_arriving told ≡ []
none_arriving [] none = refl
none_arriving (entry.Written side unit ∷ told) none = absurd none.0
none_arriving (e ∷ told) none = none_arriving told none.1

marks_arriving : (marks : List Entry) → AllByRecursion IsMark marks → all_arriving marks ≡ []
marks_arriving [] all = refl
marks_arriving (entry.Written side unit ∷ marks) all = absurd all.0
marks_arriving (e ∷ marks) all = marks_arriving marks all.1

-- ---- what stands next

-- it says nothing of the unit before it
abbrev IsApart : List Entry → Type 0
IsApart (entry.Dropped side ∷ told) = ⊥
IsApart (entry.Garbled side unit ∷ told) = ⊥
IsApart (entry.Overrun side ∷ told) = ⊥
IsApart told = Unit {0}

none_apart : (told : List Entry) → AllByRecursion IsNoUnit told → IsApart told
none_apart [] none = tt
none_apart (entry.Dropped side ∷ told) none = absurd none.0
none_apart (entry.Garbled side unit ∷ told) none = absurd none.0
none_apart (entry.Overrun side ∷ told) none = absurd none.0
none_apart (e ∷ told) none = tt

next_same : (unit : List ℕ) (told : List Entry) → IsApart told → arriving_of by_chip unit told ≡ arriving_of by_chip unit []
next_same unit [] apart = refl
next_same unit (entry.Dropped side ∷ told) apart = absurd apart
next_same unit (entry.Garbled side other ∷ told) apart = absurd apart
next_same unit (entry.Overrun side ∷ told) apart = absurd apart
next_same unit (e ∷ told) apart = refl

other_same : (unit other : List ℕ) (side : Side) (told : List Entry) → IsApart told → arriving_of by_chip unit (entry.Garbled side other ∷ told) ≡ arriving_of by_chip unit (entry.Garbled side other ∷ [])
other_same unit other side [] apart = refl
other_same unit other side (entry.Overrun on ∷ told) apart = absurd apart
other_same unit other side (e ∷ told) apart = refl

other_then : (unit other : List ℕ) (side : Side) (e : Entry) (past told : List Entry)
    → arriving_of by_chip unit (entry.Garbled side other ∷ (e ∷ (past ++ told))) ≡ arriving_of by_chip unit (entry.Garbled side other ∷ (e ∷ past))
other_then unit other side (entry.Overrun on) past told = refl
other_then unit other side e past told = refl

arriving_same : (unit : List ℕ) (past told : List Entry) → IsApart told → arriving_of by_chip unit (past ++ told) ≡ arriving_of by_chip unit past
arriving_same unit [] told apart = next_same unit told apart
arriving_same unit (entry.Garbled side other ∷ []) told apart = other_same unit other side told apart
arriving_same unit (entry.Garbled side other ∷ (e ∷ past)) told apart = other_then unit other side e past told
arriving_same unit (entry.Dropped side ∷ past) told apart = refl
arriving_same unit (entry.Overrun side ∷ past) told apart = refl
arriving_same unit (e ∷ past) told apart = refl

all_grows : (past told : List Entry) → IsApart told → all_arriving (past ++ told) ≡ all_arriving past ++ all_arriving told
all_grows [] told apart = refl
all_grows (entry.Written by_chip unit ∷ past) told apart =
    ap₂ (λ (x y : List (List ℕ)). x ++ y) (arriving_same unit past told apart) (all_grows past told apart)
    ∙ sym (append_assoc (arriving_of by_chip unit past) (all_arriving past) (all_arriving told))
all_grows (entry.Written by_host unit ∷ past) told apart = all_grows past told apart
all_grows (e ∷ past) told apart = all_grows past told apart

-- ---- what entries add, wherever they stand

record Adds (told : List Entry) : Type 0 where
  more : List (List ℕ)
  units_more : (us : List Unit_on) → arrive (folded (unit_step by_chip) us told) ≡ arrive us ++ more
  apart : IsApart told
  here : all_arriving told ≡ more

none_adds : (told : List Entry) → AllByRecursion IsNoUnit told → Adds told
none_adds told none = record {
  more = [];
  units_more = λ us. ap arrive (all_same told none us) ∙ sym (append-nil (arrive us));
  apart = none_apart told none;
  here = none_arriving told none;
}

host_adds : (way : WayState) (unit : LineUnit) → Adds (told by_host way unit)
host_adds way unit =
    let mark : Mark = mark_for way.marks unit in
    let text : List ℕ = unit_text unit in
    record {
      more = [];
      units_more = λ us. ap arrive (host_same us way.bytes mark text) ∙ sym (append-nil (arrive us));
      apart = tt;
      here = marks_arriving (told_by by_host way.bytes mark text) (told_by_marks by_host way.bytes mark text);
    }

chip_adds : (way : WayState) (unit : LineUnit) → Adds (told by_chip way unit)
chip_adds way unit =
    let mark : Mark = mark_for way.marks unit in
    let text : List ℕ = unit_text unit in
    let marks : List Entry = told_by by_chip way.bytes mark text in
    record {
      more = arriving_of by_chip text marks;
      units_more = λ us. unit_became us way.bytes mark text;
      apart = tt;
      here = ap (λ (l : List (List ℕ)). arriving_of by_chip text marks ++ l) (marks_arriving marks (told_by_marks by_chip way.bytes mark text)) ∙ append-nil (arriving_of by_chip text marks);
    }

-- so what arrived still has, and what stands after each unit says it
abbrev pub Goes : List Entry → Type 0
Goes told = (past : List Entry) → (ArrivesSo past → ArrivesSo (past ++ told)) × ArrivesMore past (past ++ told)

adds_go : (told : List Entry) → Adds told → Goes told
adds_go told adds past =
    let grown : arrived by_chip (past ++ told) ≡ arrived by_chip past ++ adds.more
    = ap arrive (folded-append (unit_step by_chip) [] past told) ∙ adds.units_more (units by_chip past) in (
      λ so. all_grows past told adds.apart ∙ (ap₂ (λ (x y : List (List ℕ)). x ++ y) so adds.here ∙ sym grown),
      λ text has. subst (λ (l : List (List ℕ)). Has l text) (sym grown) (has_left (arrived by_chip past) adds.more text has),
    )

pub none_go : (told : List Entry) → AllByRecursion IsNoUnit told → Goes told
none_go told none = adds_go told (none_adds told none)

pub host_goes : (way : WayState) (unit : LineUnit) → Goes (told by_host way unit)
host_goes way unit = adds_go (told by_host way unit) (host_adds way unit)

pub chip_goes : (way : WayState) (unit : LineUnit) → Goes (told by_chip way unit)
chip_goes way unit = adds_go (told by_chip way unit) (chip_adds way unit)

pub go_both : (xs ys : List Entry) → Goes xs → Goes ys → Goes (xs ++ ys)
go_both xs ys first later past =
    let one = first past in
    let two = later (past ++ xs) in
    subst (λ (l : List Entry). (ArrivesSo past → ArrivesSo l) × ArrivesMore past l) (append_assoc past xs ys) (λ so. two.0 (one.0 so), λ text has. two.1 text (one.1 text has))

-- ---- payloads

pub brings_more : (past later : List Entry) → ArrivesMore past later → BringsMore past later
brings_more past later more node payload has =
    let one = shown_has (from_node node) (bringings past) payload has in
    let unit = shown_has bringing_in (arrived by_chip past) one.by one.among in
    has_shown (from_node node) (bringings later) one.by payload (has_shown bringing_in (arrived by_chip later) unit.by one.by (more unit.by unit.among) unit.shows) one.shows

pub brings_none : (past : List Entry) → BringsMore past (past ++ [])
brings_none past = subst (λ (l : List Entry). BringsMore past l) (sym (append-nil past)) (λ node payload has. has)

pub brings_then : (past later last : List Entry) → BringsMore past later → BringsMore later last → BringsMore past last
brings_then past later last one two node payload has = two node payload (one node payload has)
