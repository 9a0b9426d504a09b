-- Entries that speak neither of a frame on the air nor of a line or the time: what the serial line, what devices change, and what is shown of them.
use Rattle.std.proofs.Common.{ℕ, Bool, true, false, if◌then◌else◌, Option, Some, None, List, [], ◌∷◌, map, nat_lt}
use Rattle.std.specs.List.{AllByRecursion}
use Rattle.zw_base.proofs.Each.{all-append}
use Rattle.zw_base.specs.declared.property.Setting.{Setting}
use Rattle.zw_words.specs.declared.side.Side.{Side}
use Rattle.zw_text.specs.declared.entry.Entry.{Entry}
use Rattle.zw_text.specs.declared.entry.Entry.TheVariants as entry
use Rattle.serial_frame.specs.declared.unit.Unit.{Unit as LineUnit}
use Rattle.serial_frame.specs.Items.{unit_text}
use Rattle.serial_pipes.specs.State.{WayState, fits, mark_for, garbled}
use Rattle.serial_pipes.specs.Events.{told, told_by}
use Rattle.serial_pipes.specs.declared.marks.Mark.{Mark}
use Rattle.serial_pipes.specs.declared.marks.Mark.TheVariants.{Free, Lost, Changed}
use Rattle.device_kinds.specs.declared.change.Change.{Change}
use Rattle.device_sim.specs.State.{State}
use Rattle.proof_air.specs.outside_model.Air.{change_entries}
use Rattle.proof_air.specs.outside_model.Devices.{changes_entries, shown_entries}
use Rattle.proof_air.specs.outside_model.Events.{cleared_entries}

-- an entry that speaks of none of these
abbrev pub IsPlain : Entry → Type 0
IsPlain (entry.Said words) = ⊥
IsPlain (entry.Time tick) = ⊥
IsPlain (entry.Air frame sender receiver repeaters payload) = ⊥
IsPlain (entry.Heard frame) = ⊥
IsPlain (entry.Lost frame) = ⊥
IsPlain (entry.Unheard frame) = ⊥
IsPlain _ = Unit {0}

-- an entry that is no frame
abbrev pub IsNoAir : Entry → Type 0
IsNoAir (entry.Air frame sender receiver repeaters payload) = ⊥
IsNoAir _ = Unit {0}

pub plain_no_air : (e : Entry) → IsPlain e → IsNoAir e
plain_no_air (entry.Air frame sender receiver repeaters payload) plain = absurd plain
plain_no_air _ plain = tt

abbrev pub Plains : List Entry → Type 0
Plains entries = AllByRecursion IsPlain entries

-- ---- the line

overrun_plain : (side : Side) (b : Bool) → Plains (if b then [] else entry.Overrun side ∷ [])
overrun_plain side true = tt
overrun_plain side false = (tt, tt)

told_by_plain : (side : Side) (bytes : List ℕ) (mark : Mark) (text : List ℕ) → Plains (told_by side bytes mark text)
told_by_plain side bytes Free text = overrun_plain side (fits bytes text)
told_by_plain side bytes Lost text = (tt, tt)
told_by_plain side bytes (Changed garble) text = (tt, overrun_plain side (fits bytes (garbled garble text)))

pub told_plain : (side : Side) (way : WayState) (unit : LineUnit) → Plains (told side way unit)
told_plain side way unit = (tt, told_by_plain side way.bytes (mark_for way.marks unit) (unit_text unit))

pub cleared_plain : (side : Side) (count : ℕ) → Plains (cleared_entries side count)
cleared_plain side count = by (nat_lt 0 count)
  where
    by : (b : Bool) → Plains (if b then entry.Cleared side count ∷ [] else [])
    by true = (tt, tt)
    by false = tt

-- ---- devices

pub change_plain : (node : ℕ) (change : Option Change) → Plains (change_entries node change)
change_plain node None = tt
change_plain node (Some change) = settings change.settings
  where
    settings : (l : List Setting) → Plains (map (λ (setting : Setting). entry.Dev node change.by setting) l)
    settings [] = tt
    settings (s ∷ l) = (tt, settings l)

pub changes_plain : (node : ℕ) (changes : List Change) → Plains (changes_entries node changes)
changes_plain node [] = tt
changes_plain node (change ∷ changes) =
    all-append IsPlain (change_entries node (Some change)) (changes_entries node changes) (change_plain node (Some change)) (changes_plain node changes)

pub shown_plain : (node : ℕ) (device : Option State) → Plains (shown_entries node device)
shown_plain node None = (tt, tt)
shown_plain node (Some device) = settings _
  where
    settings : (l : List Setting) → Plains (map (λ (setting : Setting). entry.Device node setting) l)
    settings [] = tt
    settings (s ∷ l) = (tt, settings l)
