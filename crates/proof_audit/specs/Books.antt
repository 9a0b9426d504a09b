-- What a transcript shows of accepted orders and of the changes of devices, besides the laws of the host and the headline, where it keeps the rule of sessions and the once-only
-- rule (this project's own rule).
use Rattle.std.specs.Prelude.{◌≡◌, ℕ, true, List, [], ◌∷◌, Some, ⊤}
use Rattle.std.specs.List.{AllByRecursion, flat_map}
use Rattle.zw_base.specs.declared.order.Order.{Order}
use Rattle.zw_base.specs.declared.property.By.TheVariants.{Session}
use Rattle.zw_base.specs.declared.property.Setting.{Setting}
use Rattle.device_kinds.specs.Kind.{lists}
use Rattle.device_kinds.specs.declared.change.Change.{Change}
use Rattle.device_stack.specs.State.{State}
use Rattle.host_orders.specs.Classes.{actuator_of}
use Rattle.zw_text.specs.declared.line.Line.TheVariants.{Command as Commanded}
use Rattle.zw_text.specs.declared.entry.Entry.{Entry}
use Rattle.zw_text.specs.declared.entry.Entry.TheVariants.{Accepted, Dev}
use Rattle.zw_text.specs.Transcript.{line_last}
use Rattle.outside_model.specs.Air.{change_entries}
use Rattle.law_transcript.specs.Lists.{EachAfter, Has}
use Rattle.law_transcript.specs.Nodes.{host_list, always}
use Rattle.law_transcript.specs.Once.{HasBegun}
use Rattle.audit_books.specs.Asking.{actuator_by, is_setting, kind_at, settings_asked}

-- the kind of a device is that of its node
abbrev pub IsOfItsKind : State → Type 0
IsOfItsKind device = device.kind ≡ kind_at device.node

-- ---- orders

-- An order that is accepted for a node stands directly after the line that gives it. The host takes values of the node for what the kind of the node does, and that kind takes
-- commands in sessions; and the numbers of the parameters that the order sets are those that there are.
pub record IsAsked (listing : ℕ → List ℕ) (past : List Entry) (node : ℕ) : Type 0 where
  pub order : Order
  pub said : line_last past ≡ Commanded order ∷ []
  pub of_node : order.node ≡ node
  pub known : actuator_of (host_list (always listing) past node) ≡ actuator_by (kind_at node)
  pub takes : lists (kind_at node) 0x6C ≡ true
  pub named : AllByRecursion (λ (made : Setting). is_setting made ≡ true) (settings_asked order)

abbrev pub MayBeAsked : (ℕ → List ℕ) → List Entry → Entry → Type 0
MayBeAsked listing past (Accepted command node) = IsAsked listing past node
MayBeAsked listing past _ = ⊤

abbrev pub AreAsked : (ℕ → List ℕ) → List Entry → Type 0
AreAsked listing transcript = EachAfter (MayBeAsked listing) [] transcript

-- ---- changes

-- a change of a device of the node
pub record IsChangeOf (devices : List State) (node : ℕ) (change : Change) : Type 0 where
  pub device : State
  pub among : Has devices device
  pub of_node : device.node ≡ node
  pub made : Has device.journal change

-- an entry that shows no change
abbrev pub IsNoChange : Entry → Type 0
IsNoChange (Dev node by setting) = ⊥
IsNoChange _ = ⊤

-- what is entered in one piece: an entry that shows no change, or a whole change of a device
pub data Piece : Type 0 where
  Loose : (entry : Entry) → Piece
  Whole : (node : ℕ) (change : Change) → Piece

abbrev pub piece_entries : Piece → List Entry
piece_entries (Loose entry) = entry ∷ []
piece_entries (Whole node change) = change_entries node (Some change)

abbrev pub IsPiece : List State → Piece → Type 0
IsPiece devices (Loose entry) = IsNoChange entry
IsPiece devices (Whole node change) = IsChangeOf devices node change

-- entries that are such pieces
pub record ArePieces (devices : List State) (entries : List Entry) : Type 0 where
  pub pieces : List Piece
  pub are : entries ≡ flat_map piece_entries pieces
  pub all : AllByRecursion (IsPiece devices) pieces

-- a setting that a session of a node makes stands after the session began
abbrev pub MayChange : List Entry → Entry → Type 0
MayChange past (Dev node (Session session) setting) = HasBegun node past session
MayChange past _ = ⊤

abbrev pub ChangesBegun : List Entry → Type 0
ChangesBegun transcript = EachAfter MayChange [] transcript
