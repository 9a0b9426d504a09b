-- Runs of a host alone, and what a law owes to hold of all of them (this project's own rule).
use Rattle.std.specs.Prelude.{◌≡◌, List, [], ◌++◌}
use Rattle.zw_text.specs.declared.entry.Entry.{Entry}
use Rattle.law_host.specs.law_transcript.Lists.{EachAfter}
use Rattle.proof_alone.specs.State.{HostMachine}
use Rattle.proof_alone.specs.Steps.{Step, happens, entries}
use Rattle.proof_alone.specs.Phases.{Phase, Resting, May, Turns}

-- From this machine, at rest, steps have led here, with this machine, and these are their entries.
pub data Run (start : HostMachine) : (here : Phase) (told : List Entry) (m : HostMachine) → Type 0 where
  Begins : Run start Resting [] start
  Turned : {here next : Phase} {told : List Entry} {m : HostMachine} → Turns here m next → Run start here told m → Run start next told m
  Stepped : {here next : Phase} {told all : List Entry} {m later : HostMachine} → (step : Step) → May here m step next → all ≡ told ++ entries m step →
      later ≡ happens m step → Run start here told m → Run start next all later

-- what is known of the entries so far and the machine, at each phase
abbrev pub Knowledge : Type 1
Knowledge = Phase → List Entry → HostMachine → Type 0

-- The law judges each entry by those before it. What is known goes on with each step where it may come, is enough for its entries, and goes on where a part begins.
pub record Walk (Law : List Entry → Entry → Type 0) (Know : Knowledge) : Type 0 where
  pub step : (here next : Phase) (past : List Entry) (m : HostMachine) (one : Step) → May here m one next → Know here past m
      → EachAfter Law past (entries m one) × Know next (past ++ entries m one) (happens m one)
  pub turn : (here next : Phase) (past : List Entry) (m : HostMachine) → Turns here m next → Know here past m → Know next past m

-- The same, where more is known: what another walk knows is the ground of this one, and each entry keeps the law of the other.
pub record WalkOver (Ground : Knowledge) (First Law : List Entry → Entry → Type 0) (Know : Knowledge) : Type 0 where
  pub step : (here next : Phase) (past : List Entry) (m : HostMachine) (one : Step) → May here m one next → Ground here past m → EachAfter First past (entries m one)
      → Know here past m → EachAfter Law past (entries m one) × Know next (past ++ entries m one) (happens m one)
  pub turn : (here next : Phase) (past : List Entry) (m : HostMachine) → Turns here m next → Ground here past m → Know here past m → Know next past m

-- what both know
abbrev pub both_know : Knowledge → Knowledge → Knowledge
both_know Ground Know here past m = Ground here past m × Know here past m

-- ---- transcripts

-- some run has these entries; one that ends at rest has
abbrev pub Told : HostMachine → List Entry → Type 0
Told start told = (here : Phase) × (m : HostMachine) × Run start here told m

abbrev pub ToldWhole : HostMachine → List Entry → Type 0
ToldWhole start told = (m : HostMachine) × Run start Resting told m
