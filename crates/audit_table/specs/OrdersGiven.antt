-- The orders of accepted commands, by the entries before a line (this project's own rule).
use Rattle.std.specs.Prelude.{ℕ, List, [], Option, Some, None}
use Rattle.zw_base.specs.declared.property.Setting.{Setting}
use Rattle.zw_base.specs.declared.order.Order.{Order}
use Rattle.zw_text.specs.declared.line.Line.{Line}
use Rattle.zw_text.specs.declared.entry.Entry.{Entry}
use Rattle.zw_text.specs.declared.entry.Entry.TheVariants.{Said}
use Rattle.zw_text.specs.Transcript.{folded}
use Rattle.audit_books.specs.Accepting.{order_at, orders_after}
use Rattle.audit_books.specs.Asking.{settings_asked}
use Rattle.audit_books.specs.Scenes.{line_in}

-- the orders of the accepted commands, by number, and the line that stands directly before the next entry
pub record Accepting : Type 0 where
  pub orders : List (Option Order)
  pub line : Option Line

abbrev pub line_shown : Entry → Option Line
line_shown (Said words) = line_in words
line_shown _ = None

abbrev pub accepting_after : Accepting → Entry → Accepting
accepting_after before entry = record { orders = orders_after before.orders before.line entry; line = line_shown entry }

abbrev pub accepting_at : List Entry → Accepting
accepting_at past = folded accepting_after (record { orders = []; line = None }) past

-- the order of an accepted command: that of the line directly before, where it is one to the command's node
abbrev pub order_of : List Entry → ℕ → Option Order
order_of past command = order_at (accepting_at past).orders command

-- the settings that the order of a command asks for, and none where it has no order
abbrev pub settings_by : Option Order → List Setting
settings_by None = []
settings_by (Some order) = settings_asked order

abbrev pub settings_of : List Entry → ℕ → List Setting
settings_of past command = settings_by (order_of past command)
