-- What an event of a host does to its commands and nodes, and which entries it has: one of six things.
use Rattle.std.specs.Prelude.{◌≡◌, ℕ, ◌+◌, ◌<◌, ◌++◌, false, List, [], ◌∷◌, length, Some, None, Contains}
use Rattle.std.specs.List.{AllByRecursion}
use Rattle.zw_text.specs.declared.entry.Ended.TheVariants as ended
use Rattle.zw_text.specs.declared.entry.Entry.{Entry}
use Rattle.zw_text.specs.declared.entry.Entry.TheVariants.{Accepted, Begin, Out}
use Rattle.zw_text.specs.declared.entry.Outcome.TheVariants as outcome
use Rattle.supervision.specs.Host.{begun_of, open_session}
use Rattle.zw_base.specs.declared.property.Property.{Property}
use Rattle.value_store.specs.Values.{Values, stored_of}
use Rattle.host_model.specs.host_node.State.{NodeState}
use Rattle.host_model.specs.host_node.Steps.{after_put, after_cancel, after_begin, as_recorded, oldest, with_final}
use Rattle.host_model.specs.host_node.TableState.{node_of}
use Rattle.host_model.specs.host_keep.declared.final_status.FinalStatus.{FinalStatus}
use Rattle.host_model.specs.host_keep.Status.{status_byte}
use Rattle.host_model.specs.State.{Command, command_at, with_outcome}
use Rattle.host_model.specs.Sessions.{open_command, settings_with}
use Rattle.host_model.specs.After.{outcome_of, confirming}
use Rattle.host_model.specs.Outs.{ended_of, stored_entries}
use Rattle.proof_host.specs.Entries.{IsAside}

-- of a node, the commands that wait for it and those of its sessions alone
abbrev pub only_commands : NodeState → NodeState
only_commands n = record (as_recorded n) { node = 0; joined = false; listens = false; classes = None; seen = 0 }

-- those of each node are as they were
abbrev pub SameNodes : List NodeState → List NodeState → Type 0
SameNodes nodes nodes' = (m : ℕ) → only_commands (node_of nodes' m) ≡ only_commands (node_of nodes m)

-- so are those of each but one, and those of that one are this
pub record OneNode (nodes nodes' : List NodeState) (n : ℕ) (state : NodeState) : Type 0 where
  pub here : only_commands (node_of nodes' n) ≡ only_commands state
  pub there : (m : ℕ) → (m ≡ n → ⊥) → only_commands (node_of nodes' m) ≡ only_commands (node_of nodes m)

-- no command changes
pub record Leaves (commands commands' : List Command) (nodes nodes' : List NodeState) (entries : List Entry) : Type 0 where
  pub commands_are : commands' ≡ commands
  pub nodes_are : SameNodes nodes nodes'
  pub asides : AllByRecursion IsAside entries

-- the command of the open session of a node is not answered
pub record Unanswers (commands commands' : List Command) (nodes nodes' : List NodeState) (entries : List Entry) : Type 0 where
  pub node : ℕ
  pub command : ℕ
  pub opened : open_command (node_of nodes node) ≡ Some command
  pub commands_are : commands' ≡ with_outcome commands command outcome.Unanswered
  pub nodes_are : SameNodes nodes nodes'
  pub more : List Entry
  pub entries_are : entries ≡ Out command ended.Unanswered ∷ more
  pub asides : AllByRecursion IsAside more

-- an order is accepted
pub record Accepts (commands commands' : List Command) (nodes nodes' : List NodeState) (entries : List Entry) : Type 0 where
  pub taken : Command
  pub waits : taken.outcome ≡ outcome.Waiting
  pub commands_are : commands' ≡ commands ++ taken ∷ []
  pub nodes_are : OneNode nodes nodes' taken.order.node (after_put (node_of nodes taken.order.node) (length commands + 1))
  pub entries_are : entries ≡ Accepted (length commands + 1) taken.order.node ∷ []

-- a command that waits is taken back
pub record Cancels (commands commands' : List Command) (nodes nodes' : List NodeState) (entries : List Entry) : Type 0 where
  pub node : ℕ
  pub command : ℕ
  pub waits : Contains (node_of nodes node).waiting command
  pub commands_are : commands' ≡ with_outcome commands command outcome.Cancelled
  pub nodes_are : OneNode nodes nodes' node (after_cancel (node_of nodes node) command)
  pub entries_are : entries ≡ Out command ended.Cancelled ∷ []

-- a session begins for the command that waited longest
pub record Begins (commands commands' : List Command) (nodes nodes' : List NodeState) (entries : List Entry) : Type 0 where
  pub node : ℕ
  pub some_wait : 0 < length (node_of nodes node).waiting
  pub closed : open_session (node_of nodes node).book ≡ None
  pub commands_are : commands' ≡ with_outcome commands (oldest (node_of nodes node)) outcome.Begun
  pub nodes_are : OneNode nodes nodes' node (after_begin (node_of nodes node))
  pub entries_are : entries ≡ Begin node (begun_of (node_of nodes node).book + 1) (oldest (node_of nodes node)) ∷ []

-- the open session of a node has its final report
pub record Finishes (commands commands' : List Command) (nodes nodes' : List NodeState) (entries : List Entry) : Type 0 where
  pub node : ℕ
  pub command : ℕ
  pub status : FinalStatus
  pub opened : open_command (node_of nodes node) ≡ Some command
  pub commands_are : commands' ≡ with_outcome commands command (outcome_of status)
  pub nodes_are : OneNode nodes nodes' node (with_final (node_of nodes node) (status_byte status))
  pub more : List Entry
  pub entries_are : entries ≡ Out command (ended_of status) ∷ (stored_entries node (settings_with status (command_at commands command)) ++ more)
  pub asides : AllByRecursion IsAside more

-- the confirmed values are as they were
abbrev pub SameConfirmed : Values → Values → Type 0
SameConfirmed store store' = (n : ℕ) (property : Property) → (stored_of store' n property).confirmed ≡ (stored_of store n property).confirmed

pub data Effect (commands commands' : List Command) (nodes nodes' : List NodeState) (store store' : Values) (entries : List Entry) : Type 0 where
  Leaving : Leaves commands commands' nodes nodes' entries → SameConfirmed store store' → Effect commands commands' nodes nodes' store store' entries
  Unanswering : Unanswers commands commands' nodes nodes' entries → SameConfirmed store store' → Effect commands commands' nodes nodes' store store' entries
  Accepting : Accepts commands commands' nodes nodes' entries → SameConfirmed store store' → Effect commands commands' nodes nodes' store store' entries
  Cancelling : Cancels commands commands' nodes nodes' entries → SameConfirmed store store' → Effect commands commands' nodes nodes' store store' entries
  Beginning : Begins commands commands' nodes nodes' entries → SameConfirmed store store' → Effect commands commands' nodes nodes' store store' entries
  Finishing : (e : Finishes commands commands' nodes nodes' entries) → store' ≡ confirming store e.node (settings_with e.status (command_at commands e.command))
      → Effect commands commands' nodes nodes' store store' entries
