-- The tables of a host stand in the records of its keeper: each session that it counts, and each command (this project's own rule, docs/HOST.md).
use Rattle.std.specs.Prelude.{◌≡◌, ℕ, ◌≤◌, List, Option, Some, None, IfSome, slice_get}
use Rattle.supervision.specs.Host.{HostBook, begun_of, command_at as command_of_session}
use Rattle.host_keep.specs.RecordText.{IsTextOf}
use Rattle.host_keep.specs.declared.record.Record.{Record}
use Rattle.host_keep.specs.declared.record.Record.TheVariants.{Accepted, Begun}
use Rattle.host_model.specs.State.{HostState, node_of, command_at}

-- the text of a record stands at a place among these
pub record HasText (texts : List (List ℕ)) (one : Record) : Type 0 where
  pub at : ℕ
  pub text : List ℕ
  pub stands : slice_get texts at ≡ Some text
  pub is : IsTextOf one text

-- a record is among those that a keeper tells. Of one that does not tell them, nothing is said
abbrev pub IsTold : Option (List (List ℕ)) → Record → Type 0
IsTold None one = Unit {0}
IsTold (Some texts) one = HasText texts one

-- each session of a node that was begun has its command, and the record that it began for it
abbrev pub SessionsAreTold : Option (List (List ℕ)) → ℕ → HostBook → Type 0
SessionsAreTold told node book =
    (session : ℕ) → 1 ≤ session → session ≤ begun_of book
    → (command : ℕ) × (command_of_session book.commands session ≡ Some command) × IsTold told (Begun node session command)

-- Each session that is counted has its record `begun`, and each command whose outcome is there its record `accepted`.
pub record TablesAreTold (told : Option (List (List ℕ))) (h : HostState) : Type 0 where
  pub sessions : (node : ℕ) → SessionsAreTold told node (node_of h node).book
  pub commands : (number : ℕ) → IfSome (command_at h.commands number) (λ command. IsTold told (Accepted number command.order))

-- the nodes with their sessions, and the commands, are as they were
pub record SameTables (old new : HostState) : Type 0 where
  pub nodes : new.nodes ≡ old.nodes
  pub commands : new.commands ≡ old.commands
