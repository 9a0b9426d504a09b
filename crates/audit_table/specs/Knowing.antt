-- What is kept for the table at the end, in place of the transcript (this project's own rule).
use Rattle.std.specs.Prelude.{ℕ, zero, suc, ◌+◌, ◌<◌, ◌≤◌, ◌==◌, not, Bool, true, false, if◌then◌else◌, List, [], ◌∷◌, slice_get, slice_index_or, slice_set, replicate, Option, Some, None, unwrap_or, filter}
use Rattle.std.specs.List.{flat_map}
use Rattle.std.specs.Map.{keys_of, lookup}
use Rattle.std.specs.BTreeMap.{insert_entry, is_at}
use Rattle.zw_base.specs.declared.property.Property.{Property}
use Rattle.zw_base.specs.declared.property.Setting.{Setting}
use Rattle.zw_base.specs.declared.order.Order.{Order}
use Rattle.zw_text.specs.declared.line.Line.{Line}
use Rattle.zw_text.specs.declared.line.Line.TheVariants.{Join, Restart}
use Rattle.zw_text.specs.declared.entry.Entry.{Entry}
use Rattle.zw_text.specs.declared.entry.Entry.TheVariants.{Refused, Dev, Report, TableEnd, TableNode, TableValue, Device}
use Rattle.law_transcript.specs.Table.{compare_properties, value_line}
use Rattle.audit_books.specs.declared.endings.Ending.{Ending}
use Rattle.audit_books.specs.Accepting.{order_at}
use Rattle.audit_books.specs.Asking.{is_setting}
use Rattle.audit_books.specs.Beginning.{sessions_of}
use Rattle.audit_table.specs.declared.values.Known.{Known}
use Rattle.audit_table.specs.OrdersGiven.{settings_by}
use Rattle.audit_table.specs.TableRule.{breaks_row}

-- ---- values of properties

-- what is known of the properties of a node, in their order
abbrev pub Knowns : Type 0
Knowns = List (Property × Known)

abbrev pub nothing_known : Known
nothing_known = record { confirmed = None; last = None }

abbrev pub known_at : Knowns → Property → Known
known_at knowns property = unwrap_or (lookup (is_at (compare_properties property)) knowns) nothing_known

-- a property has a last value
abbrev pub with_last : Knowns → Setting → Knowns
with_last knowns setting =
    insert_entry compare_properties knowns setting.property (record (known_at knowns setting.property) { last = Some setting.value })

-- a property has a confirmed value
abbrev pub with_confirmed : Knowns → Setting → Knowns
with_confirmed knowns setting =
    insert_entry compare_properties knowns setting.property (record (known_at knowns setting.property) { confirmed = Some setting.value })

-- these settings are confirmed, the last one first
abbrev pub with_settings : Knowns → List Setting → Knowns
with_settings knowns [] = knowns
with_settings knowns (setting ∷ settings) = with_confirmed (with_settings knowns settings) setting

-- those of these commands, in order
abbrev pub with_commands : Knowns → (ℕ → List Setting) → List ℕ → Knowns
with_commands knowns settings [] = knowns
with_commands knowns settings (command ∷ commands) = with_commands (with_settings knowns (settings command)) settings commands

-- ---- values of nodes

unfoldable pub no_values : List Knowns
no_values = replicate 233 []

abbrev pub values_of : List Knowns → ℕ → Knowns
values_of nodes node = slice_index_or nodes node []

abbrev pub values_with : List Knowns → ℕ → Setting → List Knowns
values_with nodes node setting = slice_set nodes node (with_last (values_of nodes node) setting)

-- ---- rows

-- the settings that a command confirms, by these tables
abbrev pub confirmed_of : (ℕ → Ending) → List (Option Order) → ℕ → List Setting
confirmed_of endings orders command = if (endings command).succeeds then filter is_setting (settings_by (order_at orders command)) else []

-- the line of what is known of a property
abbrev pub known_line : ℕ → Knowns → Property → List Entry
known_line node knowns property = value_line node property (known_at knowns property).confirmed (known_at knowns property).last

abbrev pub known_lines : ℕ → Knowns → List Entry
known_lines node knowns = flat_map (known_line node knowns) (keys_of knowns)

-- the lines of a node
abbrev pub lines_of_node : List Knowns → (ℕ → Ending) → List (Option Order) → List (List ℕ) → ℕ → List Entry
lines_of_node values endings orders nodes node =
    TableNode node (sessions_of nodes node)
    ∷ known_lines node (with_commands (values_of values node) (confirmed_of endings orders) (sessions_of nodes node))

-- the numbers from one on, so many, of those that are marked
abbrev pub marked : List Bool → ℕ → ℕ → List ℕ
marked marks at zero = []
marked marks at (suc count) = if slice_index_or marks at false then at ∷ marked marks (suc at) count else marked marks (suc at) count

-- the nodes that are marked
unfoldable pub nodes_marked : List Bool → List ℕ
nodes_marked marks = marked marks 1 232

-- ---- the tables

-- which nodes are joined, what was heard of them and what their devices showed, and, once the table has begun, its lines and how
-- many of them were shown
pub record Closing : Type 0 where
  pub joined : List Bool
  pub heard : List Knowns
  pub made : List Knowns
  pub rows : Option (List Entry)
  pub shown : ℕ

unfoldable pub first_joined : List Bool
first_joined = slice_set (replicate 233 false) 2 true

abbrev pub no_closing : Closing
no_closing = record { joined = first_joined; heard = no_values; made = no_values; rows = None; shown = 0 }

-- whether an entry is not the line of the table that is due
abbrev pub breaks_due : List Entry → Closing → Entry → Bool
breaks_due rows closing (TableNode node commands) = breaks_row (slice_get rows closing.shown) (TableNode node commands)
breaks_due rows closing (TableValue node property confirmed heard) = breaks_row (slice_get rows closing.shown) (TableValue node property confirmed heard)
breaks_due rows closing (Device node setting) = not (unwrap_or (known_at (values_of closing.made node) setting.property).last 0 == setting.value)
breaks_due rows closing _ = false

abbrev pub breaks_closing_by : Option (List Entry) → Closing → Entry → Bool
breaks_closing_by None closing entry = false
breaks_closing_by (Some rows) closing entry = breaks_due rows closing entry

abbrev pub breaks_closing : Closing → Entry → Bool
breaks_closing closing entry = breaks_closing_by closing.rows closing entry

-- the line that was run is done
abbrev pub line_done : Closing → Option Line → Closing
line_done closing (Some (Join node)) = record closing { joined = slice_set closing.joined node true }
line_done closing (Some Restart) = record closing { heard = no_values }
line_done closing _ = closing

-- unless the entry after it is a refusal
abbrev pub after_line : Closing → Option Line → Entry → Closing
after_line closing line (Refused refusal) = closing
after_line closing line _ = line_done closing line

-- the table begins: what was heard is not asked any more
abbrev pub ends_with : Closing → Option (List Entry) → List Entry → Closing
ends_with closing None rows = record closing { heard = no_values; rows = Some rows }
ends_with closing (Some before) rows = closing

abbrev pub counts_row : Option (List Entry) → ℕ → ℕ
counts_row None shown = shown
counts_row (Some rows) shown = shown + 1

abbrev pub row_shown : Closing → Closing
row_shown closing = record closing { shown = counts_row closing.rows closing.shown }

-- what an entry shows by itself
abbrev pub closing_shown : Closing → List Entry → Entry → Closing
closing_shown closing rows (Dev node by setting) = record closing { made = values_with closing.made node setting }
closing_shown closing rows (Report node setting) = record closing { heard = values_with closing.heard node setting }
closing_shown closing rows (TableEnd ticks) = ends_with closing closing.rows rows
closing_shown closing rows (TableNode node commands) = row_shown closing
closing_shown closing rows (TableValue node property confirmed heard) = row_shown closing
closing_shown closing rows _ = closing

-- the lines of the table by these tables
abbrev pub all_rows : Closing → (ℕ → Ending) → List (Option Order) → List (List ℕ) → List Entry
all_rows closing endings orders nodes = flat_map (lines_of_node closing.heard endings orders nodes) (nodes_marked closing.joined)

-- after one more entry
abbrev pub closing_after : Closing → Option Line → (ℕ → Ending) → List (Option Order) → List (List ℕ) → Entry → Closing
closing_after closing line endings orders nodes entry =
    closing_shown (after_line closing line entry) (all_rows (after_line closing line entry) endings orders nodes) entry

-- the line's node is one
abbrev pub IsWithin : Option Line → Type 0
IsWithin (Some (Join node)) = (1 ≤ node) × (node < 233)
IsWithin _ = Unit {0}
