-- The sessions of the nodes (Supervision Command Class; that a session stays open until its final report is this project's own
-- rule).
use Rattle.std.specs.Prelude.{ℕ, ◌+◌, ◌-◌, ◌==◌, ◌&&◌, not, nat_eq, nat_lt, if◌then◌else◌, Bool, true, false, List, [], ◌∷◌, ◌++◌, length, slice_get, slice_index_or, slice_set, replicate, Option, Some, None}
use Rattle.zw_base.specs.declared.order.Order.{Order}
use Rattle.zw_text.specs.declared.entry.Entry.{Entry}
use Rattle.zw_text.specs.declared.entry.Entry.TheVariants.{Accepted, Begin}
use Rattle.audit_books.specs.Accepting.{order_at, is_to}
use Rattle.audit_books.specs.declared.endings.Ending.{Ending}

-- the commands of the sessions of a node, by the lists of all nodes
abbrev pub sessions_of : List (List ℕ) → ℕ → List ℕ
sessions_of nodes node = slice_index_or nodes node []

-- no sessions, of any node
unfoldable pub no_sessions : List (List ℕ)
no_sessions = replicate 233 []

-- the lists after one more entry
abbrev pub sessions_after : List (List ℕ) → Entry → List (List ℕ)
sessions_after nodes (Begin node session command) = slice_set nodes node (sessions_of nodes node ++ (command ∷ []))
sessions_after nodes _ = nodes

-- the command of a session; sessions count from 1
abbrev pub command_at : List ℕ → ℕ → Option ℕ
command_at commands session = if nat_eq session 0 then None else slice_get commands (session - 1)

-- whether a command may follow the last one: that is an earlier one, and has come to its end
abbrev pub follows : (ℕ → Ending) → Option ℕ → ℕ → Bool
follows endings None command = true
follows endings (Some last) command = nat_lt last command && (endings last).is_final

-- whether an entry breaks the rule of sessions, by these tables
abbrev pub breaks_rule : List (List ℕ) → List (Option Order) → (ℕ → Ending) → Entry → Bool
breaks_rule nodes orders endings (Accepted command node) = not (command == length orders + 1)
breaks_rule nodes orders endings (Begin node session command) =
    not ((session == length (sessions_of nodes node) + 1) && (is_to node (order_at orders command) && follows endings (command_at (sessions_of nodes node) (length (sessions_of nodes node))) command))
breaks_rule nodes orders endings _ = false
