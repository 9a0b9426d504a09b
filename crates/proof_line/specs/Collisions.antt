-- What is known of collisions (this project's own rule): those that lines have asked for are the CAN that the chip wrote, and those that its link is still to make.
use Rattle.std.specs.Prelude.{◌≡◌, ◌⊎◌, ℕ, ◌+◌, List, [], ◌∷◌, length}
use Rattle.std.specs.List.{AllByRecursion}
use Rattle.zw_text.specs.declared.line.Line.{Line}
use Rattle.zw_text.specs.declared.entry.Entry.{Entry}
use Rattle.law_wire.specs.Marks.{collision_of, collisions, cans, MayCollide}
use Rattle.proof_walk.specs.outside_model.State.{OuterState, Outside}
use Rattle.proof_walk.specs.outside_model.Events.{OuterEvent, Collides_next}
use Rattle.proof_walk.specs.world_model.State.{Machine}
use Rattle.proof_walk.specs.world_model.Events.{Event, Outside_does}
use Rattle.proof_walk.specs.Phases.{Phase}
use Rattle.proof_walk.specs.ByLine.{KnownOf, by_line}
use Rattle.proof_walk.specs.Outside.{Knowing, Known, CoversOuter}

-- the collisions that the chip's link is still to make
abbrev pub link_collisions : OuterState → ℕ
link_collisions o = o.chip.state.port.side.collisions

-- with so many that were asked for and have not come to the link
abbrev pub Tie : ℕ → Knowing
Tie extra awaits past w = cans past + (link_collisions w.outer + extra) ≡ collisions past

abbrev pub KnownTie : ℕ → List Entry → Outside → Type 0
KnownTie extra past w = Known MayCollide (λ pending. Tie extra) past w

-- so many a line asks for
abbrev pub asked_by : Line → ℕ
asked_by line = length (collision_of line)

-- no collision is asked for
abbrev pub IsNoCollision : OuterEvent → Type 0
IsNoCollision Collides_next = ⊥
IsNoCollision event = Unit {0}

-- a line is counted with its words, and the link learns of it by the line's event; anywhere else nothing is outstanding
abbrev pub Asked : Line → KnownOf
Asked line past m = KnownTie (asked_by line) past m.outside

abbrev pub Left : Line → List Event → KnownOf
Left line left past m =
    ((left ≡ Outside_does Collides_next ∷ []) × KnownTie 1 past m.outside) ⊎ (AllByRecursion (CoversOuter IsNoCollision) left × KnownTie 0 past m.outside)

abbrev pub Counted : KnownOf
Counted past m = KnownTie 0 past m.outside

-- at each phase of a line
abbrev pub KnowCollisions : Phase → List Entry → Machine → Type 0
KnowCollisions here past m = by_line Asked Asked Left Counted here past m
