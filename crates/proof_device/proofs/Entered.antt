-- What is entered outside the host besides frames and notes: what became of a unit, what was lost in a pipe, what is shown of a device, and what a device changed. A law that speaks of
-- none of these weakens what stands here.
use Rattle.std.proofs.Common.{ℕ, Bool, true, false, if◌then◌else◌, List, [], ◌∷◌, ◌++◌, map, nat_lt}
use Rattle.std.specs.Prelude.{Option, Some, None}
use Rattle.std.specs.List.{flat_map, AllByRecursion}
use Rattle.zw_base.proofs.Each.{all-append}
use Rattle.zw_base.specs.declared.property.Setting.{Setting}
use Rattle.world_model.specs.serial_pipes.State.{fits, garbled}
use Rattle.world_model.specs.serial_pipes.Events.{told_by}
use Rattle.world_model.specs.serial_pipes.declared.marks.Mark.{Mark}
use Rattle.world_model.specs.serial_pipes.declared.marks.Mark.TheVariants.{Free, Lost, Changed}
use Rattle.law_transcript.specs.device_kinds.declared.change.Change.{Change}
use Rattle.law_transcript.specs.device_sim.State.{State}
use Rattle.zw_words.specs.declared.side.Side.{Side}
use Rattle.law_transcript.specs.zw_text.declared.entry.Entry.{Entry}
use Rattle.law_transcript.specs.zw_text.declared.entry.Entry.TheVariants as entry
use Rattle.world_model.specs.outside_model.Air.{change_entries}
use Rattle.world_model.specs.outside_model.Devices.{changes_entries, shown_entries}
use Rattle.world_model.specs.outside_model.Events.{cleared_entries, IsCleared}

-- ---- a unit

-- it was dropped, changed, or had no room
abbrev pub IsMark : Entry → Type 0
IsMark (entry.Dropped side) = Unit {0}
IsMark (entry.Garbled side unit) = Unit {0}
IsMark (entry.Overrun side) = Unit {0}
IsMark _ = ⊥

overrun_marks : (side : Side) (b : Bool) → AllByRecursion IsMark (if b then [] else entry.Overrun side ∷ [])
overrun_marks side true = tt
overrun_marks side false = (tt, tt)

pub told_by_marks : (side : Side) (bytes : List ℕ) (mark : Mark) (text : List ℕ) → AllByRecursion IsMark (told_by side bytes mark text)
told_by_marks side bytes Free text = overrun_marks side (fits bytes text)
told_by_marks side bytes Lost text = (tt, tt)
told_by_marks side bytes (Changed garble) text = (tt, overrun_marks side (fits bytes (garbled garble text)))

-- ---- a pipe

pub all_cleared : (side : Side) (count : ℕ) → AllByRecursion IsCleared (cleared_entries side count)
all_cleared side count = by (nat_lt 0 count)
  where
    by : (b : Bool) → AllByRecursion IsCleared (if b then entry.Cleared side count ∷ [] else [])
    by true = (tt, tt)
    by false = tt

-- ---- a device

-- it is shown, or there is none
abbrev pub IsShown : Entry → Type 0
IsShown (entry.Device node setting) = Unit {0}
IsShown (entry.Refused refusal) = Unit {0}
IsShown _ = ⊥

pub all_shown : (node : ℕ) (device : Option State) → AllByRecursion IsShown (shown_entries node device)
all_shown node None = (tt, tt)
all_shown node (Some device) = settings _
  where
    settings : (l : List Setting) → AllByRecursion IsShown (map (λ (setting : Setting). entry.Device node setting) l)
    settings [] = tt
    settings (s ∷ l) = (tt, settings l)

abbrev pub IsChange : Entry → Type 0
IsChange (entry.Dev node by setting) = Unit {0}
IsChange _ = ⊥

pub change_entered : (node : ℕ) (change : Option Change) → AllByRecursion IsChange (change_entries node change)
change_entered node None = tt
change_entered node (Some change) = settings change.settings
  where
    settings : (l : List Setting) → AllByRecursion IsChange (map (λ (setting : Setting). entry.Dev node change.by setting) l)
    settings [] = tt
    settings (s ∷ l) = (tt, settings l)

pub changes_entered : (node : ℕ) (changes : List Change) → AllByRecursion IsChange (changes_entries node changes)
changes_entered node [] = tt
changes_entered node (change ∷ changes) =
    all-append IsChange (change_entries node (Some change)) (changes_entries node changes) (change_entered node (Some change)) (changes_entered node changes)
