-- The changes of devices by sessions, in tables (Supervision Command Class; that each command changes its device at most once is this
-- project's own rule).
use Rattle.std.specs.Prelude.{◌≡◌, ℕ, ◌%◌, ◌==◌, ◌&&◌, ◌||◌, not, nat_le, max, Bool, true, false, List, [], ◌∷◌, slice_index_or, slice_set, replicate, Option, Some, None}
use Rattle.std.specs.List.{list_any}
use Rattle.std.specs.Ordering.{nat_cmp}
use Rattle.std.specs.BTreeMap.{is_at}
use Rattle.zw_base.specs.declared.property.Setting.{Setting}
use Rattle.zw_base.specs.declared.property.By.{By}
use Rattle.zw_base.specs.declared.property.By.TheVariants.{Session, Local, Plain}
use Rattle.zw_base.specs.declared.order.Order.{Order}
use Rattle.zw_text.specs.declared.entry.Ended.{Ended}
use Rattle.zw_text.specs.declared.entry.Ended.TheVariants.{Success, Fail, NoSupport, Unanswered, Cancelled}
use Rattle.zw_text.specs.declared.entry.Entry.{Entry}
use Rattle.zw_text.specs.declared.entry.Entry.TheVariants.{Dev, Out}
use Rattle.audit_books.specs.declared.endings.Ending.{Ending}
use Rattle.audit_books.specs.declared.group.Maker.{Maker}
use Rattle.audit_books.specs.Accepting.{order_at, to_node}
use Rattle.audit_books.specs.Asking.{same_settings, settings_asked}
use Rattle.audit_books.specs.Beginning.{command_at, sessions_of}
use Rattle.audit_books.specs.Groups.{maker_at, is_maker}

-- ---- the rule

-- whether these are the settings of the order
abbrev pub is_asked : Option Order → List Setting → Bool
is_asked None made = false
is_asked (Some order) made = same_settings (settings_asked order) made

-- whether the session of a command may not make these settings: it has not begun, the command has failed, or asks for others
abbrev pub breaks_command : Option ℕ → (ℕ → Bool) → (ℕ → Option Order) → List Setting → Bool
breaks_command None failed order made = true
breaks_command (Some command) failed order made = failed command || not (is_asked (order command) made)

-- whether a setting by a session breaks the rule: it begins a change, and the session is not above each that has changed the
-- device, or may not make that change
abbrev pub breaks_setting : (goes_on not_above : Bool) → Option ℕ → (ℕ → Bool) → (ℕ → Option Order) → List Setting → Bool
breaks_setting goes_on not_above command failed order made = not goes_on && (not_above || breaks_command command failed order made)

-- whether an ending breaks the rule, where the command's session has changed a device or not
abbrev pub breaks_ending : Bool → Ended → Bool
breaks_ending changed Success = not changed
breaks_ending changed Fail = changed
breaks_ending changed NoSupport = changed
breaks_ending changed Unanswered = false
breaks_ending changed Cancelled = changed

-- whether the device of the node takes a Set without Supervision
abbrev pub is_relay : ℕ → Bool
is_relay node = node % 8 == 1

-- ---- the tables

-- the greatest session of each node that changed its device, the commands whose sessions changed one, in order, and what made
-- the setting that the last entry shows
pub record Changing : Type 0 where
  pub greatest : List ℕ
  pub commands : List ℕ
  pub maker : Option Maker

-- the greatest session that changed the device of a node, and 0 before
abbrev pub greatest_of : List ℕ → ℕ → ℕ
greatest_of greatest node = slice_index_or greatest node 0

unfoldable pub none_yet : List ℕ
none_yet = replicate 233 0

-- whether the command's session has changed a device
abbrev pub has_changed : List ℕ → ℕ → Bool
has_changed commands command = list_any (is_at (nat_cmp command)) commands

-- before the first entry
abbrev pub no_changes : Changing
no_changes = record { greatest = none_yet; commands = []; maker = None }

-- whether a setting that a session makes breaks the rule; `made` is the change that it would begin
abbrev pub breaks_by_session : Changing → List (Option Order) → (ℕ → Ending) → List (List ℕ) → Maker → List Setting → Bool
breaks_by_session changing orders endings nodes maker made =
    breaks_setting (is_maker changing.maker maker) (nat_le maker.session (greatest_of changing.greatest maker.node))
    (command_at (sessions_of nodes maker.node) maker.session) (λ command. (endings command).has_failed)
    (λ command. to_node maker.node (order_at orders command)) made

-- whether a setting of a node breaks the rule
abbrev pub breaks_dev : Changing → List (Option Order) → (ℕ → Ending) → List (List ℕ) → ℕ → By → List Setting → Bool
breaks_dev changing orders endings nodes node (Session session) made =
    breaks_by_session changing orders endings nodes (record { node = node; session = session }) made
breaks_dev changing orders endings nodes node Local made = false
breaks_dev changing orders endings nodes node Plain made = not (is_relay node)

-- whether an entry breaks the rule, by these tables; `following` are the settings that go on with what it shows
abbrev pub breaks_change : Changing → List (Option Order) → (ℕ → Ending) → List (List ℕ) → Entry → List Setting → Bool
breaks_change changing orders endings nodes (Dev node by setting) following = breaks_dev changing orders endings nodes node by (setting ∷ following)
breaks_change changing orders endings nodes (Out command ended) following = breaks_ending (has_changed changing.commands command) ended
breaks_change changing orders endings nodes _ following = false

-- the command whose session makes a setting
abbrev pub command_of : List (List ℕ) → Option Maker → Option ℕ
command_of nodes None = None
command_of nodes (Some maker) = command_at (sessions_of nodes maker.node) maker.session

-- whether it is that command
abbrev pub is_command : Option ℕ → ℕ → Bool
is_command None command = false
is_command (Some other) command = other == command

-- the greatest sessions, with one more that changed the device
abbrev pub greatest_after : List ℕ → Option Maker → List ℕ
greatest_after greatest None = greatest
greatest_after greatest (Some maker) = slice_set greatest maker.node (max (greatest_of greatest maker.node) maker.session)

-- the tables after one more entry
pub record IsChangingAfter (old : Changing) (nodes : List (List ℕ)) (entry : Entry) (new : Changing) : Type 0 where
  pub greatest : new.greatest ≡ greatest_after old.greatest (maker_at entry)
  pub commands : (command : ℕ) → has_changed new.commands command ≡ (is_command (command_of nodes (maker_at entry)) command || has_changed old.commands command)
  pub maker : new.maker ≡ maker_at entry
