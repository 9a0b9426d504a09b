-- What the chip is given of a node at its events, with labels (this project's own rule).
use Rattle.std.specs.Prelude.{◌≡◌, ℕ, Option, None, List}
use Rattle.chip_sim.specs.State.{ChipState}
use Rattle.chip_sim.specs.Events.{ChipEvent, Judged, Ticked, Heard, Done, Informed, Joined, Linked, Forgets, Collides}
use Rattle.chip_sim.specs.Did.{after_all, outs_all}
use Rattle.chip_sim.specs.Link.{chip_units}
use Rattle.proof_course_plain.specs.Mesh.{labels, BringsAs}
use Rattle.proof_course_plain.specs.Lines.{TellsAs, Moves}

-- an event gives it a payload with this label, of which this holds; or none, and has none
abbrev pub GivesAs : {L : Type 0} → (List ℕ → Option L → Type 0) → ℕ → ChipEvent → Option L → Type 0
GivesAs Holds node (Judged item way) mark = mark ≡ None
GivesAs Holds node Ticked mark = mark ≡ None
GivesAs Holds node (Heard from payload) mark = BringsAs Holds node (from, payload) mark
GivesAs Holds node (Done status) mark = mark ≡ None
GivesAs Holds node (Informed n profile) mark = mark ≡ None
GivesAs Holds node (Joined n listening) mark = mark ≡ None
GivesAs Holds node (Linked a b live) mark = mark ≡ None
GivesAs Holds node (Forgets a b) mark = mark ≡ None
GivesAs Holds node Collides mark = mark ≡ None

-- over these events labels that are on their way to the host stay so, and those of what the chip is given come after them
abbrev pub ChipMoves : {L : Type 0} → (List ℕ → Option L → Type 0) → ℕ → ChipState → List ChipEvent → List (Option L) → Type 0
ChipMoves Holds node s events marks =
    Moves (TellsAs Holds node) s.port.side.turn s.port.waiting (chip_units (outs_all s events)) (after_all s events).port.side.turn (after_all s events).port.waiting (labels marks)
