-- The rule of sessions (Supervision Command Class; that a session stays open until its final report is this project's own
-- rule), by what the entries before a line show.
use Rattle.std.specs.Prelude.{◌≡◌, ℕ, ◌+◌, ◌==◌, ◌&&◌, ◌||◌, not, nat_lt, if◌then◌else◌, Bool, true, false, List, [], ◌∷◌, ◌++◌, length, Option, Some, None, is_some}
use Rattle.std.specs.List.{list_any}
use Rattle.zw_base.specs.declared.order.Order.{Order}
use Rattle.zw_text.specs.declared.entry.Ended.{Ended}
use Rattle.zw_text.specs.declared.entry.Entry.{Entry}
use Rattle.zw_text.specs.declared.entry.Entry.TheVariants.{Accepted, Begin}
use Rattle.zw_text.specs.Transcript.{Command, accepted, accepted_numbers, endings, sessions}
use Rattle.audit_books.specs.Beginning.{command_at}
use Rattle.audit_books.specs.Ending.{is_success, is_failure}

-- the order of the command with that number, where these have one
abbrev pub order_among : ℕ → List Command → Option Order
order_among number [] = None
order_among number (command ∷ commands) = if command.number == number then Some command.order else order_among number commands

-- whether a command was accepted for a node
abbrev pub is_accepted : List Entry → ℕ → ℕ → Bool
is_accepted past node command = is_some (order_among command (accepted node past))

-- an ending by a final report
abbrev pub is_final : Ended → Bool
is_final ended = is_success ended || is_failure ended

-- whether a command has ended by a final report
abbrev pub has_ended : List Entry → ℕ → Bool
has_ended past command = list_any is_final (endings command past)

-- the command of the last session of a node, where it has one
abbrev pub last_begun : List Entry → ℕ → Option ℕ
last_begun past node = command_at (sessions node past) (length (sessions node past))

-- whether a command may follow that one: where there is one, it is an earlier one, and has ended by a final report
abbrev pub may_follow : List Entry → Option ℕ → ℕ → Bool
may_follow past None command = true
may_follow past (Some last) command = nat_lt last command && has_ended past last

-- whether a line breaks the rule: a command has not the next number; or a session has not the next number of its node, or
-- carries a command that was not accepted for the node, or may not follow that of the session before
abbrev pub breaks_sessions : List Entry → Entry → Bool
breaks_sessions past (Accepted command node) = not (command == length (accepted_numbers past) + 1)
breaks_sessions past (Begin node session command) =
    not ((session == length (sessions node past) + 1) && (is_accepted past node command && may_follow past (last_begun past node) command))
breaks_sessions past _ = false

-- no line of the entries breaks a rule, each judged by those before it
abbrev pub EachKeeps : (List Entry → Entry → Bool) → List Entry → List Entry → Type 0
EachKeeps breaks past [] = Unit {0}
EachKeeps breaks past (entry ∷ rest) = (breaks past entry ≡ false) × EachKeeps breaks (past ++ (entry ∷ [])) rest
