-- The once-only rule: each command changes its device at most once, and as it asks (Supervision Command Class: a session's
-- command is carried out once; the rest is this project's own rule), by what the entries before a line show.
use Rattle.std.specs.Prelude.{ℕ, ◌==◌, not, nat_le, Bool, false, List, [], ◌∷◌, ◌++◌, Option, Some, None}
use Rattle.std.specs.List.{list_any}
use Rattle.zw_base.specs.declared.property.Setting.{Setting}
use Rattle.zw_base.specs.declared.property.By.{By}
use Rattle.zw_base.specs.declared.property.By.TheVariants.{Session, Local, Plain}
use Rattle.zw_text.specs.declared.entry.Entry.{Entry}
use Rattle.zw_text.specs.declared.entry.Entry.TheVariants.{Dev, Out}
use Rattle.zw_text.specs.Transcript.{accepted, applied, endings, folded, sessions}
use Rattle.audit_books.specs.declared.group.Maker.{Maker}
use Rattle.audit_books.specs.Beginning.{command_at}
use Rattle.audit_books.specs.Changing.{breaks_ending, breaks_setting, is_relay}
use Rattle.audit_books.specs.Ending.{is_failure}
use Rattle.audit_books.specs.Groups.{is_maker, maker_at}
use Rattle.audit_books.specs.SessionRule.{order_among}

-- what made the setting that the last entry shows, where it shows one that a session made
abbrev pub maker_after : Option Maker → Entry → Option Maker
maker_after before entry = maker_at entry

abbrev pub maker_last : List Entry → Option Maker
maker_last past = folded maker_after None past

-- what is there, as a list
abbrev pub listed : Option ℕ → List ℕ
listed None = []
listed (Some command) = command ∷ []

-- the command whose session makes a setting, by the sessions that began before
abbrev pub command_for : List Entry → Option Maker → List ℕ
command_for past None = []
command_for past (Some maker) = listed (command_at (sessions maker.node past) maker.session)

-- the commands whose sessions changed a device, one for each setting, in order
abbrev pub commands_changed_from : List Entry → List Entry → List ℕ
commands_changed_from past [] = []
commands_changed_from past (entry ∷ rest) = command_for past (maker_at entry) ++ commands_changed_from (past ++ (entry ∷ [])) rest

abbrev pub commands_changed : List Entry → List ℕ
commands_changed past = commands_changed_from [] past

-- whether the session of a command has changed a device
abbrev pub is_changed : List Entry → ℕ → Bool
is_changed past command = list_any (λ other. other == command) (commands_changed past)

-- whether a session is not above each that has changed the device of the node
abbrev pub is_not_above : List Entry → ℕ → ℕ → Bool
is_not_above past node session = list_any (λ other. nat_le session other) (applied node past)

-- whether fail or no support was among the endings of a command
abbrev pub has_failed : List Entry → ℕ → Bool
has_failed past command = list_any is_failure (endings command past)

-- whether a setting of a node breaks the rule; `made` is it with those that go on with it
abbrev pub breaks_made : List Entry → ℕ → By → List Setting → Bool
breaks_made past node (Session session) made =
    breaks_setting (is_maker (maker_last past) (record { node = node; session = session })) (is_not_above past node session)
    (command_at (sessions node past) session) (has_failed past) (λ command. order_among command (accepted node past)) made
breaks_made past node Local made = false
breaks_made past node Plain made = not (is_relay node)

-- whether a line breaks the rule; `following` are the settings of the lines that go on with what it shows
abbrev pub breaks_once : List Entry → Entry → List Setting → Bool
breaks_once past (Dev node by setting) following = breaks_made past node by (setting ∷ following)
breaks_once past (Out command ended) following = breaks_ending (is_changed past command) ended
breaks_once past _ following = false
