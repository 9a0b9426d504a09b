-- The table at the end of a run (this project's own): the clock, and for each joined node its sessions, its confirmed and
-- heard values and the values of its device.
use Rattle.std.specs.Prelude.{ℕ, List, [], ◌∷◌, ◌++◌, map, Option, Some, None}
use Rattle.std.specs.List.{flat_map}
use Rattle.std.specs.declared.cmp.Ordering.{Ordering}
use Rattle.std.specs.declared.cmp.Ordering.TheVariants.{Less, Equal, Greater}
use Rattle.std.specs.Ordering.{nat_cmp}
use Rattle.std.specs.Cmp.Lexicographic.{slice_cmp}
use Rattle.zw_base.specs.PropertyOrder.{rank_of}
use Rattle.zw_base.specs.declared.property.Property.{Property}
use Rattle.host_orders.specs.Settings.{properties_of}
use Rattle.device_sim.specs.device_stack.State.{State}
use Rattle.device_sim.specs.device_stack.Showing.{shown_of}
use Rattle.zw_text.specs.declared.entry.Entry.{Entry}
use Rattle.zw_text.specs.declared.entry.Entry.TheVariants.{TableEnd, TableNode, TableValue, Device}
use Rattle.zw_text.specs.Transcript.{joined, sessions, reported}
use Rattle.law_transcript.specs.Nodes.{device_of}
use Rattle.law_transcript.specs.Commands.{settings_for}
use Rattle.law_transcript.specs.Restarts.{since_restart}
use Rattle.law_transcript.specs.Values.{confirmed}
use Rattle.law_transcript.specs.Stores.{heard_value}

-- the items, with one more at its place among them, unless they have it already
abbrev pub put_in_order : {A : Type 0} → (A → A → Ordering) → A → List A → List A
put_in_order compare item [] = item ∷ []
put_in_order compare item (first ∷ rest) = put_by (compare item first) item first rest (put_in_order compare item rest)
  where
    put_by : {A : Type 0} → Ordering → A → A → List A → List A → List A
    put_by Less item first rest later = item ∷ first ∷ rest
    put_by Equal item first rest later = first ∷ rest
    put_by Greater item first rest later = first ∷ later

-- the items, each once and in order
abbrev pub in_order : {A : Type 0} → (A → A → Ordering) → List A → List A
in_order compare [] = []
in_order compare (item ∷ items) = put_in_order compare item (in_order compare items)

-- the order of properties
abbrev pub compare_properties : Property → Property → Ordering
compare_properties first second = slice_cmp nat_cmp (rank_of first) (rank_of second)

-- the properties of a node that its sessions set or that it has reported, each once and in order
abbrev pub properties_known : (List Entry → ℕ → List ℕ) → List Entry → ℕ → List Property
properties_known listing transcript node =
    in_order compare_properties
    (flat_map (λ number. properties_of (settings_for listing transcript node number)) (sessions node transcript)
    ++ properties_of (reported node (since_restart transcript)))

-- the line of a property, where it has a value
abbrev pub value_line : ℕ → Property → Option ℕ → Option ℕ → List Entry
value_line node property None None = []
value_line node property confirmed heard = TableValue node property confirmed heard ∷ []

-- the lines of the values of a node
abbrev pub value_lines : (List Entry → ℕ → List ℕ) → List Entry → ℕ → List Entry
value_lines listing transcript node =
    flat_map (λ property. value_line node property (confirmed listing transcript node property) (heard_value transcript node property))
    (properties_known listing transcript node)

-- the lines of the values of a device, where there is one
abbrev pub device_lines : ℕ → Option State → List Entry
device_lines node None = []
device_lines node (Some device) = map (Device node) (shown_of device)

-- the lines of a node
abbrev pub node_lines : (List Entry → ℕ → List ℕ) → List Entry → List State → ℕ → List Entry
node_lines listing transcript devices node =
    TableNode node (sessions node transcript) ∷ (value_lines listing transcript node ++ device_lines node (device_of node devices))

-- the table at this clock, after this transcript, of devices in these states
abbrev pub table_of : (List Entry → ℕ → List ℕ) → ℕ → List Entry → List State → List Entry
table_of listing clock transcript devices =
    TableEnd clock ∷ flat_map (node_lines listing transcript devices) (in_order nat_cmp (joined transcript))
