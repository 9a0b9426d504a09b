-- What the sender of supervised commands keeps of one node, and what it makes of a report (Supervision Command
-- Class; that a session stays open until its final report is this project's own rule).
use Rattle.std.specs.Prelude.{ℕ, zero, suc, List, [], ◌∷◌, ◌++◌, length, slice_get, Option, Some, None, ◌==◌, if◌then◌else◌}
use Rattle.supervision.specs.Session.{wire_id}
use Rattle.supervision.specs.declared.session.TheConstants.{WORKING}
use Rattle.supervision.specs.declared.host_node.Told.{Told}
use Rattle.supervision.specs.declared.host_node.Told.TheVariants.{Final, Working, Old}

-- the commands of the sessions begun, in order; the status that ended the last of them, where one has; and how many
-- attempts of its series have ended
pub record HostBook : Type 0 where
  pub commands : List ℕ
  pub outcome : Option ℕ
  pub attempts : ℕ

-- a book, and for how many more sessions it has room with no further memory
pub record Roomy : Type 0 where
  pub book : HostBook
  pub room : ℕ

-- nothing begun
abbrev pub no_sessions : HostBook
no_sessions = record { commands = []; outcome = None; attempts = 0 }

-- how many sessions were begun, which is the number of the last one
abbrev pub begun_of : HostBook → ℕ
begun_of book = length book.commands

-- the session that was begun and has no final report
abbrev pub open_session : HostBook → Option ℕ
open_session book = open_by book.outcome book.commands
  where
    open_by : Option ℕ → List ℕ → Option ℕ
    open_by (Some status) commands = None
    open_by None [] = None
    open_by None (command ∷ more) = Some (length (command ∷ more))

-- the command of a session
abbrev pub command_at : List ℕ → ℕ → Option ℕ
command_at commands zero = None
command_at commands (suc before) = slice_get commands before

-- the book once a session for this command is begun
abbrev pub begins : HostBook → ℕ → HostBook
begins book command = record { commands = book.commands ++ command ∷ []; outcome = None; attempts = 0 }

-- the book with so many attempts counted in the series
abbrev pub with_attempts : HostBook → ℕ → HostBook
with_attempts book attempts = record book { attempts = attempts }

-- what the host makes of a report with this id and status
abbrev pub told_of : HostBook → ℕ → ℕ → Told
told_of book id status = told_by (open_session book) id status
  where
    told_by : Option ℕ → ℕ → ℕ → Told
    told_by None id status = Old
    told_by (Some session) id status =
        if id == wire_id session then (if status == WORKING then Working else Final session) else Old

-- the book after it
abbrev pub after_report : HostBook → ℕ → ℕ → HostBook
after_report book id status = after_told book status (told_of book id status)
  where
    after_told : HostBook → ℕ → Told → HostBook
    after_told book status (Final session) = record book { outcome = Some status }
    after_told book status Working = book
    after_told book status Old = book
