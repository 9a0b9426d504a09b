-- The rule of confirmed values: directly after a success stand the values that its command asks for (this project's own rule).
use Rattle.std.specs.Prelude.{ℕ, ◌+◌, ◌==◌, ◌&&◌, not, Bool, true, false, List, Option, Some, None, slice_get}
use Rattle.zw_base.specs.declared.property.Setting.{Setting}
use Rattle.zw_base.specs.declared.order.Order.{Order}
use Rattle.zw_text.specs.declared.entry.Ended.{Ended}
use Rattle.zw_text.specs.declared.entry.Ended.TheVariants.{Success}
use Rattle.zw_text.specs.declared.entry.Entry.{Entry}
use Rattle.zw_text.specs.declared.entry.Entry.TheVariants.{Out, Store}
use Rattle.zw_text.specs.Transcript.{folded}
use Rattle.audit_books.specs.Asking.{is_there, settings_asked}
use Rattle.audit_table.specs.declared.stores.Storing.{Storing}
use Rattle.audit_table.specs.OrdersGiven.{order_of}

-- the success that an ending is
abbrev pub success_by : ℕ → Ended → Option Storing
success_by command Success = Some (record { command = command; count = 0 })
success_by command _ = None

abbrev pub one_more : Option Storing → Option Storing
one_more None = None
one_more (Some storing) = Some (record { command = storing.command; count = storing.count + 1 })

-- the success after which the next line stands, with `store` lines alone between them
abbrev pub storing_after : Option Storing → Entry → Option Storing
storing_after before (Out command ended) = success_by command ended
storing_after before (Store node setting) = one_more before
storing_after before _ = None

abbrev pub storing_last : List Entry → Option Storing
storing_last past = folded storing_after None past

abbrev pub is_store : Entry → Bool
is_store (Store node setting) = true
is_store _ = false

-- whether an entry confirms what is there for the node
abbrev pub confirms : Entry → ℕ → Option Setting → Bool
confirms (Store at setting) node there = (at == node) && is_there there setting
confirms _ node there = false

-- whether the entry is none that may stand there: the next value is not confirmed, or there is none and one is
abbrev pub breaks_next : Option Setting → ℕ → Entry → Bool
breaks_next None node entry = is_store entry
breaks_next (Some setting) node entry = not (confirms entry node (Some setting))

-- the same for an order, after so many of its values
abbrev pub breaks_order : Option Order → ℕ → Entry → Bool
breaks_order None count entry = is_store entry
breaks_order (Some order) count entry = breaks_next (slice_get (settings_asked order) count) order.node entry

abbrev pub breaks_storing : Option Storing → (ℕ → Option Order) → Entry → Bool
breaks_storing None order entry = false
breaks_storing (Some storing) order entry = breaks_order (order storing.command) storing.count entry

-- whether a line breaks the rule
abbrev pub breaks_store : List Entry → Entry → Bool
breaks_store past entry = breaks_storing (storing_last past) (order_of past) entry
