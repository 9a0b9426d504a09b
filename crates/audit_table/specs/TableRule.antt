-- The rule of the table: after the first `end` stands what the entries before it show (this project's own rule).
use Rattle.std.specs.Prelude.{ℕ, ◌==◌, ◌&&◌, not, bytes_eq, Bool, true, false, if◌then◌else◌, List, [], ◌∷◌, ◌++◌, length, slice_get, Option, Some, None, unwrap_or, filter}
use Rattle.std.specs.List.{flat_map, list_any}
use Rattle.std.specs.Ordering.{nat_cmp}
use Rattle.zw_base.specs.PropertyOrder.{same_property}
use Rattle.zw_base.specs.declared.property.Property.{Property}
use Rattle.zw_base.specs.declared.property.Setting.{Setting}
use Rattle.host_orders.specs.Settings.{properties_of}
use Rattle.host_keep.specs.Kept.{value_among}
use Rattle.zw_text.specs.declared.entry.Ended.{Ended}
use Rattle.zw_text.specs.declared.entry.Entry.{Entry}
use Rattle.zw_text.specs.declared.entry.Entry.TheVariants.{Device, TableEnd, TableNode, TableValue}
use Rattle.zw_text.specs.Transcript.{Made, endings, joined, made, reported, sessions}
use Rattle.audit_books.specs.Asking.{is_setting}
use Rattle.audit_books.specs.Ending.{is_success}
use Rattle.law_transcript.specs.Restarts.{since_restart}
use Rattle.law_transcript.specs.Stores.{heard_value, last_value}
use Rattle.law_transcript.specs.Table.{compare_properties, in_order, value_line}
use Rattle.law_transcript.specs.Values.{last_given}
use Rattle.audit_table.specs.OrdersGiven.{settings_of}

-- whether the last of a command's endings is success
abbrev pub ends_well : Bool → List Ended → Bool
ends_well before [] = before
ends_well before (ended ∷ more) = ends_well (is_success ended) more

abbrev pub is_successful : List Entry → ℕ → Bool
is_successful past command = ends_well false (endings command past)

-- the settings that a command confirms
abbrev pub confirmed_by : List Entry → ℕ → List Setting
confirmed_by past command = if is_successful past command then filter is_setting (settings_of past command) else []

-- the value of a property of a node that the greatest session confirms which sets it
abbrev pub confirmed : List Entry → ℕ → Property → Option ℕ
confirmed past node property = last_given (λ command. value_among (confirmed_by past command) property) (sessions node past)

-- the properties of a node with a value, each once and in order
abbrev pub properties_known : List Entry → ℕ → List Property
properties_known past node =
    in_order compare_properties
    (flat_map (λ command. properties_of (confirmed_by past command)) (sessions node past) ++ properties_of (reported node (since_restart past)))

-- the lines of a node, but for those of its device
abbrev pub node_rows : List Entry → ℕ → List Entry
node_rows past node =
    TableNode node (sessions node past)
    ∷ flat_map (λ property. value_line node property (confirmed past node property) (heard_value past node property)) (properties_known past node)

abbrev pub rows : List Entry → List Entry
rows past = flat_map (node_rows past) (in_order nat_cmp (joined past))

-- the entries before the first `end`, and those after it
abbrev pub is_end : Entry → Bool
is_end (TableEnd ticks) = true
is_end _ = false

abbrev pub before_end : List Entry → List Entry
before_end [] = []
before_end (entry ∷ rest) = if is_end entry then [] else entry ∷ before_end rest

abbrev pub following_end : List Entry → List Entry
following_end [] = []
following_end (entry ∷ rest) = if is_end entry then rest else following_end rest

abbrev pub has_end : List Entry → Bool
has_end past = list_any is_end past

-- a line of the table that is not one of a device
abbrev pub is_row : Entry → Bool
is_row (TableNode node commands) = true
is_row (TableValue node property confirmed heard) = true
is_row _ = false

-- the line of the table that is next
abbrev pub next_row : List Entry → Option Entry
next_row past = slice_get (rows (before_end past)) (length (filter is_row (following_end past)))

-- the settings of changes
abbrev pub settings_made : List Made → List Setting
settings_made [] = []
settings_made (one ∷ more) = one.setting ∷ settings_made more

-- the last value that a device of a node showed, and 0 where it showed none
abbrev pub value_shown : List Entry → ℕ → Property → ℕ
value_shown past node property = unwrap_or (last_value None (settings_made (made node past)) property) 0

-- whether two numbers that may be missing are the same
abbrev pub same_option : Option ℕ → Option ℕ → Bool
same_option None None = true
same_option None (Some second) = false
same_option (Some first) None = false
same_option (Some first) (Some second) = first == second

-- whether two entries are the same line of the table
abbrev pub same_row : Entry → Entry → Bool
same_row (TableNode first firsts) (TableNode second seconds) = (first == second) && bytes_eq firsts seconds
same_row (TableValue first property confirmed heard) (TableValue second other stored reported) =
    (first == second) && (same_property property other && (same_option confirmed stored && same_option heard reported))
same_row _ _ = false

-- whether the entry is not the line that is next
abbrev pub breaks_row : Option Entry → Entry → Bool
breaks_row None entry = true
breaks_row (Some row) entry = not (same_row row entry)

-- whether a line after `end` breaks the rule
abbrev pub breaks_end : List Entry → Entry → Bool
breaks_end past (TableNode node commands) = breaks_row (next_row past) (TableNode node commands)
breaks_end past (TableValue node property confirmed heard) = breaks_row (next_row past) (TableValue node property confirmed heard)
breaks_end past (Device node setting) = not (value_shown past node setting.property == setting.value)
breaks_end past _ = false

-- whether a line breaks the rule
abbrev pub breaks_table : List Entry → Entry → Bool
breaks_table past entry = has_end past && breaks_end past entry
