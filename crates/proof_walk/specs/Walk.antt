-- What a law over lines owes (this project's own rule): something for the words of a line, for each event where it may come, and for each part that begins.
use Rattle.std.specs.Prelude.{◌≡◌, ℕ, List, [], ◌∷◌, ◌++◌}
use Rattle.zw_text.specs.declared.line.Line.{Line}
use Rattle.zw_text.specs.declared.entry.Entry.{Entry}
use Rattle.zw_text.specs.declared.entry.Entry.TheVariants.{Said}
use Rattle.zw_text.specs.Transcript.{line_of}
use Rattle.proof_host.specs.law_transcript.Lists.{EachAfter}
use Rattle.proof_device.specs.world_model.State.{Machine}
use Rattle.proof_device.specs.world_model.Events.{Event, happens, entries, May}
use Rattle.world_lines.specs.Spoken.{Spoken, after, entries_of}
use Rattle.proof_walk.specs.Phases.{Phase, Between, Said_line, Turns, Goes}

-- What is owed for each event where it may come, and for each part that begins.
abbrev pub OwesEvents : (List Entry → Entry → Type 0) → (Phase → List Entry → Machine → Type 0) → Type 0
OwesEvents Asks Know =
    (here next : Phase) (past : List Entry) (m : Machine) (event : Event) → Goes here m event next → May m event → Know here past m →
    EachAfter Asks past (entries m event) × Know next (past ++ entries m event) (happens m event)

abbrev pub OwesTurns : (Phase → List Entry → Machine → Type 0) → Type 0
OwesTurns Know = (here next : Phase) (past : List Entry) (m : Machine) → Turns here m next → Know here past m → Know next past m

-- The law `Asks` judges each entry by those before it. What is known at a phase, of the entries so far and the machine, goes on with each event, and is enough for its entries.
pub record Walk (Asks : List Entry → Entry → Type 0) (Know : Phase → List Entry → Machine → Type 0) : Type 0 where
  pub said : (past : List Entry) (m : Machine) (words : List ℕ) (line : Line) → line_of (Said words) ≡ line ∷ [] → Know Between past m →
      Asks past (Said words) × Know (Said_line line) (past ++ Said words ∷ []) m
  pub event : OwesEvents Asks Know
  pub turn : OwesTurns Know

-- The same, where each line begins with more known than the walk carries through it: what is tied to the transcript after whole lines.
pub record TiedWalk (Tied : List Entry → Machine → Type 0) (Asks : List Entry → Entry → Type 0) (Know : Phase → List Entry → Machine → Type 0) : Type 0 where
  pub said : (past : List Entry) (m : Machine) (words : List ℕ) (line : Line) → line_of (Said words) ≡ line ∷ [] → Tied past m → Know Between past m →
      Asks past (Said words) × Know (Said_line line) (past ++ Said words ∷ []) m
  pub event : OwesEvents Asks Know
  pub turn : OwesTurns Know

-- it is known where each of these lines begins
abbrev pub AllTied : (List Entry → Machine → Type 0) → List Entry → Machine → List Spoken → Type 0
AllTied Tied past m [] = Unit {0}
AllTied Tied past m (line ∷ more) = Tied past m × AllTied Tied (past ++ entries_of m line) (after m line) more

-- The same, where more is known at each phase: what another walk knows is the ground of this one.
pub record WalkOver (Ground : Phase → List Entry → Machine → Type 0) (Asks : List Entry → Entry → Type 0) (Know : Phase → List Entry → Machine → Type 0) : Type 0 where
  pub said : (past : List Entry) (m : Machine) (words : List ℕ) (line : Line) → line_of (Said words) ≡ line ∷ [] → Ground Between past m → Know Between past m →
      Asks past (Said words) × Know (Said_line line) (past ++ Said words ∷ []) m
  pub event : (here next : Phase) (past : List Entry) (m : Machine) (event : Event) → Goes here m event next → May m event → Ground here past m → Know here past m →
      EachAfter Asks past (entries m event) × Know next (past ++ entries m event) (happens m event)
  pub turn : (here next : Phase) (past : List Entry) (m : Machine) → Turns here m next → Ground here past m → Know here past m → Know next past m

-- what both know
abbrev pub both_know : (Ground Know : Phase → List Entry → Machine → Type 0) → Phase → List Entry → Machine → Type 0
both_know Ground Know here past m = Ground here past m × Know here past m

-- The same, where each event that comes has what `Has` says of it: what holds of all events of whole lists, and not of each that may happen.
pub record WalkWhere (Has : Machine → Event → Type 0) (Asks : List Entry → Entry → Type 0) (Know : Phase → List Entry → Machine → Type 0) : Type 0 where
  pub said : (past : List Entry) (m : Machine) (words : List ℕ) (line : Line) → line_of (Said words) ≡ line ∷ [] → Know Between past m →
      Asks past (Said words) × Know (Said_line line) (past ++ Said words ∷ []) m
  pub event : (here next : Phase) (past : List Entry) (m : Machine) (event : Event) → Goes here m event next → May m event → Has m event → Know here past m →
      EachAfter Asks past (entries m event) × Know next (past ++ entries m event) (happens m event)
  pub turn : OwesTurns Know
