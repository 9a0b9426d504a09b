-- What a command of a node asks for, by the order line that it was accepted for and by the classes that the host knew of
-- the node then (this project's own rule; the settings of each order are those of the crate of orders).
use Rattle.std.specs.Prelude.{ℕ, ◌==◌, Bool, true, false, if◌then◌else◌, List, [], ◌∷◌, map, filter, Option, Some, None}
use Rattle.zw_base.specs.declared.property.Setting.{Setting}
use Rattle.zw_base.specs.declared.order.Order.{Order}
use Rattle.zw_text.specs.declared.entry.Entry.{Entry}
use Rattle.zw_text.specs.declared.entry.Entry.TheVariants.{Accepted}
use Rattle.zw_text.specs.declared.entry.Outcome.{Outcome}
use Rattle.zw_text.specs.declared.entry.Outcome.TheVariants.{Waiting}
use Rattle.zw_text.specs.Transcript.{Command, accepted, outcome}
use Rattle.host_orders.specs.Classes.{actuator_of}
use Rattle.host_orders.specs.Settings.{settings}
use Rattle.host_orders.specs.Wrapping.{carriage_of, message_of}
use Rattle.law_transcript.specs.Nodes.{host_list}

-- the numbers of commands, in order
abbrev pub numbers_of : List Command → List ℕ
numbers_of commands = map (λ command. command.number) commands

-- the order of the command with that number, where these have one
abbrev pub order_of : ℕ → List Command → Option Order
order_of number [] = None
order_of number (command ∷ commands) = if command.number == number then Some command.order else order_of number commands

-- the entries before the one that shows a command as accepted
abbrev pub before_accepted : ℕ → List Entry → List Entry
before_accepted number [] = []
before_accepted number (Accepted command node ∷ rest) =
    if command == number then [] else Accepted command node ∷ before_accepted number rest
before_accepted number (entry ∷ rest) = entry ∷ before_accepted number rest

-- the classes that the host knew of a node when it accepted a command
abbrev pub classes_for : (List Entry → ℕ → List ℕ) → List Entry → ℕ → ℕ → List ℕ
classes_for listing transcript node number = host_list listing (before_accepted number transcript) node

-- the settings that an order asks for of a node with these classes, where there is one
abbrev pub settings_by : List ℕ → Option Order → List Setting
settings_by classes None = []
settings_by classes (Some order) = settings (actuator_of classes) order

-- the settings that a command of a node asks for
abbrev pub settings_for : (List Entry → ℕ → List ℕ) → List Entry → ℕ → ℕ → List Setting
settings_for listing transcript node number =
    settings_by (classes_for listing transcript node number) (order_of number (accepted node transcript))

-- the message of a session for an order, as it is carried to a node with these classes
abbrev pub message_by : List ℕ → ℕ → Option Order → List ℕ
message_by classes session None = []
message_by classes session (Some order) = message_of (carriage_of classes order) order session

-- the message of a session of a node that carries a command
abbrev pub message_for : (List Entry → ℕ → List ℕ) → List Entry → ℕ → ℕ → ℕ → List ℕ
message_for listing transcript node session number =
    message_by (classes_for listing transcript node number) session (order_of number (accepted node transcript))

-- whether a command waits: it was neither begun nor ended
abbrev pub is_waiting : Outcome → Bool
is_waiting Waiting = true
is_waiting _ = false

-- the commands that wait for a node, in order
abbrev pub waiting : ℕ → List Entry → List ℕ
waiting node transcript = filter (λ number. is_waiting (outcome number transcript)) (numbers_of (accepted node transcript))
