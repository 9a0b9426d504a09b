-- The tables of a host are what is kept (this project's own rule, docs/RECORDS.md).
use Rattle.std.specs.Prelude.{◌≡◌, ℕ, ◌<◌, ◌==◌, Bool, true, false, if◌then◌else◌, List, [], ◌∷◌, ◌++◌, map, length, All, Option, Some, None, option_map, IsTrue}
use Rattle.std.specs.Option.{option_or}
use Rattle.zw_base.specs.declared.property.Property.{Property}
use Rattle.zw_text.specs.declared.entry.Outcome.{Outcome}
use Rattle.zw_text.specs.declared.entry.Outcome.TheVariants as outcome
use Rattle.s0_session.specs.declared.account.Account.{Account}
use Rattle.s0_session.specs.Nonces.{account_of}
use Rattle.value_store.specs.Values.{IsReserved, stored_of, is_among as is_property_among}
use Rattle.host_node.specs.State.{NodeState}
use Rattle.host_keep.specs.Kept.{Kept, KeptNode, Taken, Session, Interview, node_of as kept_of_node, classes_said, is_among, confirmed_of, kept_properties}
use Rattle.host_keep.specs.Status.{status_byte}
use Rattle.host_keep.specs.declared.final_status.FinalStatus.{FinalStatus}
use Rattle.host_model.specs.State.{HostState, Command, node_of, command_at}
use Rattle.host_model.specs.After.{outcome_of}

-- ---- a node

-- whether an interview said that the node hears at all times
abbrev pub listens_said : Option Interview → Bool
listens_said None = false
listens_said (Some interview) = interview.listens

-- how the last of these sessions ended, where it did
abbrev pub last_ended : List Session → Option FinalStatus
last_ended [] = None
last_ended (session ∷ []) = session.ended
last_ended (session ∷ next ∷ more) = last_ended (next ∷ more)

-- the commands of sessions
abbrev pub commands_of : List Session → List ℕ
commands_of sessions = map (λ session. session.command) sessions

-- what a host has of a node, and the account of the nonces that it gave it, is what is kept of the node
pub record HoldsNode (state : NodeState) (account : Account) (node : KeptNode) : Type 0 where
  pub joined : state.joined ≡ node.joined
  pub listens : state.listens ≡ listens_said node.interview
  pub classes : state.classes ≡ classes_said node.interview
  pub waiting : state.waiting ≡ node.waiting
  pub sessions : state.book.commands ≡ commands_of node.sessions
  pub ended : state.book.outcome ≡ option_map status_byte (last_ended node.sessions)
  pub given : account.given ≡ node.given
  pub live : account.live ≡ node.live
  pub seen : state.seen ≡ node.seen

-- ---- commands

-- the order of a command, and how it is carried
abbrev pub taken_as : Command → Taken
taken_as command = record { order = command.order; carriage = command.carriage }

-- how the last of these sessions with this command ended, where there is one
abbrev pub ended_in : List Session → ℕ → Option (Option FinalStatus)
ended_in [] number = None
ended_in (session ∷ more) number = option_or (ended_in more number) (if session.command == number then Some session.ended else None)

-- what became of a command that does not wait: its session, where it has one, is open or ended so; else it was cancelled
abbrev pub outcome_by : Option (Option FinalStatus) → Outcome
outcome_by None = outcome.Cancelled
outcome_by (Some None) = outcome.Begun
outcome_by (Some (Some status)) = outcome_of status

-- what is kept of the outcome of a command of a node
abbrev pub outcome_kept : KeptNode → ℕ → Outcome
outcome_kept node number = if is_among node.waiting number then outcome.Waiting else outcome_by (ended_in node.sessions number)

-- that a command was not answered is not kept: it was begun
abbrev pub as_kept : Outcome → Outcome
as_kept outcome.Unanswered = outcome.Begun
as_kept other = other

-- a command was cancelled
abbrev pub is_cancelled : Outcome → Bool
is_cancelled outcome.Cancelled = true
is_cancelled other = false

-- the same, where there is one
abbrev pub is_one_cancelled : Option Command → Bool
is_one_cancelled None = false
is_one_cancelled (Some command) = is_cancelled command.outcome

-- numbers that rise
abbrev pub Rise : List ℕ → Type 0
Rise [] = Unit {0}
Rise (number ∷ more) = All (λ other. number < other) more × Rise more

-- ---- the whole

-- A host has what is kept. Of its values those that are confirmed are; of its properties those that commands set. The commands of a node's
-- sessions and then those that wait for it rise.
pub record Holds (h : HostState) (kept : Kept) : Type 0 where
  pub places : (length kept.nodes ≡ length h.nodes) × (length h.nonces ≡ length h.nodes)
  pub nodes : (n : ℕ) → HoldsNode (node_of h n) (account_of h.nonces n) (kept_of_node kept n)
  pub commands : map taken_as h.commands ≡ kept.commands
  pub outcomes : (number : ℕ) (command : Command) → command_at h.commands number ≡ Some command → as_kept command.outcome ≡ outcome_kept (kept_of_node kept command.order.node) number
  pub cancelled : (number : ℕ) → is_among kept.cancelled number ≡ is_one_cancelled (command_at h.commands number)
  pub order : (n : ℕ) → Rise (commands_of (kept_of_node kept n).sessions ++ (kept_of_node kept n).waiting)
  pub confirmed : (n : ℕ) (property : Property) → (stored_of h.store n property).confirmed ≡ confirmed_of kept n property
  pub properties : (n : ℕ) (property : Property) → IsTrue (is_property_among (kept_properties kept n) property) → IsReserved h.store n property

-- A host has nothing besides: no outcome but what is kept, no property that no command sets, and no value that was heard.
pub record HoldsAlone (h : HostState) (kept : Kept) : Type 0 where
  pub holds : Holds h kept
  pub outcomes : (number : ℕ) (command : Command) → command_at h.commands number ≡ Some command → command.outcome ≡ outcome_kept (kept_of_node kept command.order.node) number
  pub properties : (n : ℕ) (property : Property) → IsReserved h.store n property → IsTrue (is_property_among (kept_properties kept n) property)
  pub unheard : (n : ℕ) (property : Property) → (stored_of h.store n property).heard ≡ None
