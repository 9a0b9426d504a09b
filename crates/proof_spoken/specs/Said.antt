-- What the host's table has of each order that was accepted: what was said (this project's own rule).
use Rattle.std.specs.Prelude.{◌≡◌, ℕ, true, List, [], ◌∷◌, ◌++◌, Some}
use Rattle.zw_base.specs.declared.order.Order.{Order}
use Rattle.zw_text.specs.declared.line.Line.TheVariants.{Command as Commanded}
use Rattle.zw_text.specs.declared.entry.Entry.{Entry}
use Rattle.zw_text.specs.declared.entry.Entry.TheVariants.{Accepted}
use Rattle.zw_text.specs.Transcript.{line_last}
use Rattle.proof_once.specs.law_transcript.Lists.{EachAfter}
use Rattle.proof_once.specs.law_transcript.Nodes.{host_list, known_classes, always}
use Rattle.host_orders.specs.Wrapping.{carriage_of}
use Rattle.host_orders.specs.declared.carriage.Carriage.{Carriage}
use Rattle.host_node.specs.TableState.{node_of}
use Rattle.proof_world.specs.host_model.State.{Command, HostState}
use Rattle.proof_world.specs.host_model.Events.{HostEvent, Interviews}
use Rattle.proof_world.specs.host_model.After.{after as host_after}
use Rattle.proof_once.specs.proof_host.Tables.{taken_at}
use Rattle.proof_once.specs.world_model.State.{Machine}
use Rattle.proof_once.specs.world_model.Events.{Event, Host_does, Host_takes, Restarts, happens}
use Rattle.proof_world.specs.world_lines.Spoken.{Spoken, after, entries_of}

-- ---- orders

-- An order that was accepted as this command of a node: it stands directly after the line that asks for it, the table has it, and it is carried as
-- the classes ask that the host knew of the node then.
pub record IsSaid (listing : List Entry → ℕ → List ℕ) (commands : List Command) (past : List Entry) (command node : ℕ) : Type 0 where
  pub order : Order
  pub carriage : Carriage
  pub said : line_last past ≡ Commanded order ∷ []
  pub of_node : order.node ≡ node
  pub taken : taken_at commands command ≡ Some (record { order = order; carriage = carriage })
  pub carried : carriage ≡ carriage_of (host_list listing past node) order

abbrev pub MayAnswer : (List Entry → ℕ → List ℕ) → List Command → List Entry → Entry → Type 0
MayAnswer listing commands past (Accepted command node) = IsSaid listing commands past command node
MayAnswer listing commands past _ = Unit {0}

-- so for each order that was accepted
abbrev pub AreSaid : (List Entry → ℕ → List ℕ) → List Command → List Entry → Type 0
AreSaid listing commands transcript = EachAfter (MayAnswer listing commands) [] transcript

-- ---- classes

-- the host knows of each node the classes that the transcript shows it to know
abbrev pub KnowsListing : (List Entry → ℕ → List ℕ) → List Entry → HostState → Type 0
KnowsListing listing past h = (node : ℕ) → (node_of h.nodes node).classes ≡ known_classes listing past node

-- so where each of these lines begins
abbrev pub AllKnow : (ℕ → List ℕ) → List Entry → Machine → List Spoken → Type 0
AllKnow listing past m [] = Unit {0}
AllKnow listing past m (spoken ∷ more) = KnowsListing (always listing) past m.host.state × AllKnow listing (past ++ entries_of m spoken) (after m spoken) more

-- ---- interviews

-- an interview that ends well is of a node that is joined, and tells the classes that the node lists
pub record IsTrueInterview (listing : ℕ → List ℕ) (h : HostState) (node : ℕ) (classes : List ℕ) : Type 0 where
  pub joined : (node_of h.nodes node).joined ≡ true
  pub lists : classes ≡ listing node

abbrev pub TellsListing : (ℕ → List ℕ) → HostState → HostEvent → Type 0
TellsListing listing h (Interviews node listens classes update) = IsTrueInterview listing h node classes
TellsListing listing h event = Unit {0}

abbrev pub TellListing : (ℕ → List ℕ) → HostState → List HostEvent → Type 0
TellListing listing h [] = Unit {0}
TellListing listing h (event ∷ events) = TellsListing listing h event × TellListing listing (host_after h event) events

-- a host that starts again knows the classes that the one before knew
abbrev pub KnowsAgain : HostState → HostState → Type 0
KnowsAgain old new = (node : ℕ) → (node_of new.nodes node).classes ≡ (node_of old.nodes node).classes

-- so at an event of the machine
abbrev pub Tells : (ℕ → List ℕ) → Machine → Event → Type 0
Tells listing m (Host_does event) = TellsListing listing m.host.state event
Tells listing m (Host_takes count rest items events) = TellListing listing m.host.state events
Tells listing m (Restarts state) = KnowsAgain m.host.state state
Tells listing m event = Unit {0}

abbrev pub AllTell : (ℕ → List ℕ) → Machine → List Event → Type 0
AllTell listing m [] = Unit {0}
AllTell listing m (event ∷ events) = Tells listing m event × AllTell listing (happens m event) events

-- and in each of these lines
abbrev pub LinesTell : (ℕ → List ℕ) → Machine → List Spoken → Type 0
LinesTell listing m [] = Unit {0}
LinesTell listing m (spoken ∷ more) = AllTell listing m spoken.events × LinesTell listing (after m spoken) more
