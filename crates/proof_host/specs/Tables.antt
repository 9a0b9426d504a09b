-- What the table of commands says of a number (this project's own).
use Rattle.std.specs.Prelude.{ℕ, List, [], ◌∷◌, Option, Some, None}
use Rattle.zw_text.specs.declared.entry.Outcome.{Outcome}
use Rattle.zw_text.specs.declared.entry.Outcome.TheVariants.{Waiting, Begun, Unanswered}
use Rattle.host_model.specs.host_keep.Kept.{Taken}
use Rattle.host_model.specs.State.{Command, command_at}

-- what became of the command of a number, and Waiting where no command has it
abbrev pub outcome_by : Option Command → Outcome
outcome_by None = Waiting
outcome_by (Some command) = command.outcome

abbrev pub outcome_in : List Command → ℕ → Outcome
outcome_in commands number = outcome_by (command_at commands number)

-- the node of a command, where there is one
abbrev pub nodes_by : Option Command → List ℕ
nodes_by None = []
nodes_by (Some command) = command.order.node ∷ []

-- an outcome as the records tell it: that nobody answered yet is not kept
abbrev pub recorded : Outcome → Outcome
recorded Unanswered = Begun
recorded outcome = outcome

-- the order of a command, and how it is carried
abbrev pub taken_by : Option Command → Option Taken
taken_by None = None
taken_by (Some command) = Some (record { order = command.order; carriage = command.carriage })

abbrev pub taken_at : List Command → ℕ → Option Taken
taken_at commands number = taken_by (command_at commands number)
