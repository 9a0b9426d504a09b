-- What records tell of commands (this project's own rule): that an order was accepted, a session begun, and how a command ended, with the values that it confirms. Of all else, who joined,
-- what nodes list, and nonces, no entry of these speaks.
use Rattle.std.specs.Prelude.{◌≡◌, ℕ, List, [], ◌∷◌, ◌++◌, Option, Some, None}
use Rattle.std.specs.List.{AllByRecursion}
use Rattle.supervision.specs.Host.{command_at as command_of_session}
use Rattle.zw_text.specs.declared.entry.Ended.TheVariants as ended
use Rattle.zw_text.specs.declared.entry.Entry.{Entry}
use Rattle.zw_text.specs.declared.entry.Entry.TheVariants as entry
use Rattle.law_transcript.specs.host_orders.Settings.{settings}
use Rattle.host_model.specs.host_keep.Kept.{Kept, Taken, after, command_of, node_of}
use Rattle.host_model.specs.host_keep.declared.final_status.FinalStatus.{FinalStatus}
use Rattle.host_model.specs.host_keep.declared.final_status.FinalStatus.TheVariants.{NoSupport, Fail, Success}
use Rattle.host_model.specs.host_keep.declared.record.Record.{Record}
use Rattle.host_model.specs.host_keep.declared.record.Record.TheVariants.{Accepted, Joined, Classes, Begun, Final, Cancelled, Given, Spent, Seen}
use Rattle.host_model.specs.Holding.{commands_of}
use Rattle.host_model.specs.Outs.{ended_of, stored_entries}
use Rattle.proof_host.specs.Entries.{IsAside}

-- the command of a session of a node
abbrev pub command_kept : Kept → ℕ → ℕ → Option ℕ
command_kept kept node session = command_of_session (commands_of (node_of kept node).sessions) session

-- the values of a command that succeeds
abbrev pub values_told : ℕ → FinalStatus → Option Taken → List Entry
values_told node Success (Some taken) = stored_entries node (settings taken.carriage.actuator taken.order)
values_told node Success None = []
values_told node NoSupport taken = []
values_told node Fail taken = []

abbrev pub end_told : Kept → ℕ → FinalStatus → Option ℕ → List Entry
end_told kept node status None = []
end_told kept node status (Some command) = entry.Out command (ended_of status) ∷ values_told node status (command_of kept.commands command)

-- what a record tells after those that gave this
abbrev pub told_by : Kept → Record → List Entry
told_by kept (Accepted command order) = entry.Accepted command order.node ∷ []
told_by kept (Joined node) = []
told_by kept (Classes node listens classes) = []
told_by kept (Begun node session command) = entry.Begin node session command ∷ []
told_by kept (Final node session status) = end_told kept node status (command_kept kept node session)
told_by kept (Cancelled command) = entry.Out command ended.Cancelled ∷ []
told_by kept (Given node given nonce) = []
told_by kept (Spent node) = []
told_by kept (Seen node seen) = []

-- Entries tell these records, one after another, from what was kept on; before each and in the end others may stand that speak of no command.
abbrev pub TellRecords : Kept → List Record → List Entry → Type 0
TellRecords kept [] told = AllByRecursion IsAside told
TellRecords kept (one ∷ more) told =
    (aside rest : List Entry) × AllByRecursion IsAside aside × TellRecords (after kept one) more rest × (told ≡ aside ++ (told_by kept one ++ rest))
