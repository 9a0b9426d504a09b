-- What is known, at each phase of a line, of the marks that lose acknowledgements (this project's own rule): the air has as many as the transcript says are left. Those that a line asks
-- for are counted with its words.
use Rattle.std.specs.Prelude.{◌≡◌, ◌⊎◌, ◌+◌, List, [], ◌∷◌}
use Rattle.std.specs.List.{AllByRecursion}
use Rattle.zw_text.specs.declared.line.Line.{Line}
use Rattle.zw_text.specs.declared.line.Line.TheVariants.{LoseAck}
use Rattle.zw_text.specs.declared.entry.Entry.{Entry}
use Rattle.law_wire.specs.Results.{ack_marks, ack_marks_of}
use Rattle.outside_model.specs.Events.{OuterEvent, Loses_acks}
use Rattle.world_model.specs.State.{Machine}
use Rattle.world_model.specs.Lines.{IsEffect}
use Rattle.proof_air.specs.proof_walk.Outside.{CoversOuter}
use Rattle.proof_air.specs.proof_walk.Phases.{Phase, Said_line, Begun, Doing}

-- an event that asks for no marks
abbrev pub MarksNone : OuterEvent → Type 0
MarksNone (Loses_acks count) = ⊥
MarksNone event = Unit {0}

-- a line that does
abbrev pub IsMarking : Line → Type 0
IsMarking (LoseAck count) = Unit {0}
IsMarking line = ⊥

-- as many are left as the air has
abbrev pub HasAcks : List Entry → Machine → Type 0
HasAcks past m = ack_marks past ≡ m.outside.outer.air.ack_losing

-- with those that the line asks for
abbrev pub AwaitsAcks : Line → List Entry → Machine → Type 0
AwaitsAcks line past m = ack_marks past ≡ m.outside.outer.air.ack_losing + ack_marks_of (line ∷ [])

-- at each phase of a line
abbrev pub KnowAcks : Phase → List Entry → Machine → Type 0
KnowAcks (Said_line line) past m = AwaitsAcks line past m
KnowAcks (Begun line) past m = AwaitsAcks line past m
KnowAcks (Doing line left) past m = (IsMarking line × IsEffect line m left × AwaitsAcks line past m) ⊎ (AllByRecursion (CoversOuter MarksNone) left × HasAcks past m)
KnowAcks here past m = HasAcks past m
