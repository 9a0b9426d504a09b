-- What is known of the marks that lines set on the serial line (this project's own rule): those that the transcript says wait are those that the pipes have.
use Rattle.std.specs.Prelude.{◌≡◌, ◌⊎◌, List, [], ◌∷◌, map}
use Rattle.std.specs.List.{AllByRecursion}
use Rattle.serial_pipes.specs.declared.marks.Garble.{Garble}
use Rattle.serial_pipes.specs.State.{WayState}
use Rattle.zw_words.specs.declared.side.Side.{Side}
use Rattle.zw_text.specs.declared.line.Line.{Line}
use Rattle.zw_text.specs.declared.line.Line.TheVariants as lines
use Rattle.zw_text.specs.declared.entry.Entry.{Entry}
use Rattle.law_wire.specs.Marks.{Changing, Marks, marks_by, marks_of, to_stand, IsMarked}
use Rattle.proof_walk.specs.outside_model.State.{Outside}
use Rattle.proof_walk.specs.outside_model.Events.{OuterEvent, Marks_loss, Marks_change, way_of}
use Rattle.proof_walk.specs.world_model.State.{Machine}
use Rattle.proof_walk.specs.world_model.Events.{Event, Outside_does}
use Rattle.proof_walk.specs.Outside.{Pending, Knowing, Known, CoversOuter}
use Rattle.proof_walk.specs.Phases.{Phase}
use Rattle.proof_walk.specs.ByLine.{KnownOf, by_line}

-- the marks of a pipe, in the words of the law
abbrev pub changing_of : Garble → Changing
changing_of garble = record { place = garble.place; xor = garble.xor }

abbrev pub marks_at : WayState → Marks
marks_at way = record { drops = way.marks.drops; changes = map changing_of way.marks.garbles }

-- each entry is judged by those before it
abbrev pub MayMark : List Entry → Entry → Type 0
MayMark past entry = IsMarked (to_stand past) entry

-- those that wait are those of the pipes, and what was to stand next stands
abbrev pub TieMarks : List Entry → Outside → Type 0
TieMarks past w = (side : Side) → marks_of side past ≡ marks_at (way_of w.outer side)

abbrev pub IsQuiet : List Entry → Type 0
IsQuiet past = to_stand past ≡ []

abbrev pub KnowsMarks : Pending → Knowing
KnowsMarks pending awaits past w = TieMarks past w × IsQuiet past

-- an event that sets no mark
abbrev pub SetsNoMark : OuterEvent → Type 0
SetsNoMark (Marks_loss side) = ⊥
SetsNoMark (Marks_change side garble) = ⊥
SetsNoMark event = Unit {0}

abbrev pub Marked : KnownOf
Marked past m = Known MayMark KnowsMarks past m.outside

-- a line is counted with its words, and the pipe has its mark by the line's event
abbrev pub Setting : Line → KnownOf
Setting line past m = ((side : Side) → marks_of side past ≡ marks_by side (marks_at (way_of m.outside.outer side)) (line ∷ [])) × IsQuiet past

-- the event that sets a mark is to come, or was
abbrev pub Sets : OuterEvent → Line → List Event → KnownOf
Sets event line left past m = ((left ≡ Outside_does event ∷ []) × Setting line past m) ⊎ ((left ≡ []) × Marked past m)

abbrev pub LeftMarks : Line → List Event → KnownOf
LeftMarks (lines.Drop by) left past m = Sets (Marks_loss by) (lines.Drop by) left past m
LeftMarks (lines.Garble by place xor) left past m = Sets (Marks_change by (record { place = place; xor = xor })) (lines.Garble by place xor) left past m
LeftMarks line left past m = AllByRecursion (CoversOuter SetsNoMark) left × Marked past m

-- at each phase of a line
abbrev pub KnowMarks : Phase → List Entry → Machine → Type 0
KnowMarks here past m = by_line Setting Setting LeftMarks Marked here past m
