-- What ticks and settlings enter refuses no line.
use Rattle.std.proofs.Common.{List}
use Rattle.std.specs.List.{AllByRecursion}
use Rattle.zw_text.specs.declared.entry.Entry.{Entry}
use Rattle.zw_text.specs.declared.entry.Entry.TheVariants as entry
use Rattle.proof_walk.specs.world_model.State.{Machine}
use Rattle.proof_walk.specs.world_model.Events.{Event, entries, May}
use Rattle.proof_walk.proofs.Entered.{IsMark}
use Rattle.proof_walk.specs.Outside.{IsOfAir, IsHostNote}
use Rattle.proof_walk.specs.ByLine.{IsCommon}
use Rattle.proof_walk.proofs.Alone.{KindsAre, common_are}

-- it refuses no line
abbrev pub IsUnrefused : Entry → Type 0
IsUnrefused (entry.Refused refusal) = ⊥
IsUnrefused _ = Unit {0}

abbrev pub Unrefused : List Entry → Type 0
Unrefused told = AllByRecursion IsUnrefused told

mark_bare : (e : Entry) → IsMark e → IsUnrefused e
mark_bare (entry.Refused refusal) mark = absurd mark
mark_bare e mark = tt

air_bare : (e : Entry) → IsOfAir e → IsUnrefused e
air_bare (entry.Refused refusal) of_air = absurd of_air
air_bare e of_air = tt

note_bare : (e : Entry) → IsHostNote e → IsUnrefused e
note_bare (entry.Refused refusal) note = absurd note
note_bare e note = tt

kinds : KindsAre IsUnrefused
kinds = record { unit = λ side text. tt; mark = mark_bare; of_air = air_bare; full = tt; time = λ tick. tt; note = note_bare }

pub common_bare : (m : Machine) (event : Event) → IsCommon event → May m event → Unrefused (entries m event)
common_bare m event common may = common_are IsUnrefused kinds m event common may
