-- What it is that tables are of a transcript.
use Rattle.std.specs.Prelude.{◌≡◌, ℕ, ◌<◌, false, List, [], ◌∷◌, ◌++◌, length, max, Option, Some, None}
use Rattle.zw_base.specs.declared.property.Setting.{Setting}
use Rattle.zw_base.specs.declared.order.Order.{Order}
use Rattle.zw_text.specs.declared.line.Line.{Line}
use Rattle.zw_text.specs.declared.entry.Ended.{Ended}
use Rattle.zw_text.specs.declared.entry.Entry.{Entry}
use Rattle.zw_text.specs.Fits.{EntryFits}
use Rattle.zw_text.specs.Transcript.{accepted, applied, accepted_numbers, endings, line_last, sessions}
use Rattle.audit_books.specs.declared.endings.Ending.{Ending}
use Rattle.audit_books.specs.Scenes.{Scenery, scene_after}
use Rattle.audit_books.specs.Accepting.{order_at, orders_after, to_node}
use Rattle.audit_books.specs.Ending.{ended_so, ending_after, ending_in, no_ending}
use Rattle.audit_books.specs.Beginning.{breaks_rule, no_sessions, sessions_after, sessions_of}
use Rattle.audit_books.specs.Changing.{Changing, IsChangingAfter, breaks_change, greatest_of, has_changed, no_changes}
use Rattle.audit_books.specs.OnceRule.{breaks_once, is_changed, maker_last}
use Rattle.audit_books.specs.SessionRule.{breaks_sessions, order_among}

-- the line, as a list
abbrev pub lines_of : Option Line → List Line
lines_of None = []
lines_of (Some line) = line ∷ []

-- what these endings come to, after another
abbrev pub ending_from : Ending → List Ended → Ending
ending_from before [] = before
ending_from before (ended ∷ more) = ending_from (ended_so before ended) more

-- the tables are those of this transcript
pub record AreOf (before : Option Line) (accepting : List (Option Order)) (kept : List (ℕ × Ending)) (nodes : List (List ℕ)) (past : List Entry) : Type 0 where
  pub line : lines_of before ≡ line_last past
  pub count : length accepting ≡ length (accepted_numbers past)
  pub orders : (node command : ℕ) → order_among command (accepted node past) ≡ to_node node (order_at accepting command)
  pub endings : (command : ℕ) → ending_in kept command ≡ ending_from no_ending (endings command past)
  pub places : length nodes ≡ 233
  pub sessions : (node : ℕ) → node < 233 → sessions_of nodes node ≡ sessions node past

-- tables of a transcript judge the next entry as the rule of sessions does
abbrev pub JudgesSessions : Type 0
JudgesSessions =
    (line : Option Line) (orders : List (Option Order)) (kept : List (ℕ × Ending)) (nodes : List (List ℕ)) (past : List Entry) (entry : Entry) →
    AreOf line orders kept nodes past → EntryFits entry → breaks_rule nodes orders (ending_in kept) entry ≡ breaks_sessions past entry

-- and with an entry that keeps it they are tables of the transcript with that entry
abbrev pub GoOn : Type 0
GoOn =
    (scene : Scenery) (orders : List (Option Order)) (kept kept' : List (ℕ × Ending)) (nodes : List (List ℕ)) (past : List Entry) (entry : Entry) →
    AreOf scene.line orders kept nodes past → EntryFits entry → breaks_sessions past entry ≡ false →
    ((command : ℕ) → ending_in kept' command ≡ ending_after (ending_in kept command) command entry) →
    AreOf (scene_after scene entry).line (orders_after orders scene.line entry) kept' (sessions_after nodes entry) (past ++ (entry ∷ []))

-- the first tables are those of no entries
abbrev pub BeginSo : Type 0
BeginSo = (kept : List (ℕ × Ending)) → ((command : ℕ) → ending_in kept command ≡ no_ending) → AreOf None [] kept no_sessions []

-- ---- changes

-- the greatest of these numbers, and 0 where there is none
abbrev pub greatest_in : List ℕ → ℕ
greatest_in [] = 0
greatest_in (number ∷ numbers) = max number (greatest_in numbers)

-- the tables of changes are those of this transcript
pub record AreChangesOf (changing : Changing) (past : List Entry) : Type 0 where
  pub places : length changing.greatest ≡ 233
  pub greatest : (node : ℕ) → node < 233 → greatest_of changing.greatest node ≡ greatest_in (applied node past)
  pub commands : (command : ℕ) → has_changed changing.commands command ≡ is_changed past command
  pub maker : changing.maker ≡ maker_last past

-- tables of a transcript judge the next entry as the once-only rule does
abbrev pub JudgesChanges : Type 0
JudgesChanges =
    (line : Option Line) (orders : List (Option Order)) (kept : List (ℕ × Ending)) (nodes : List (List ℕ)) (changing : Changing) (past : List Entry) (entry : Entry) (following : List Setting) →
    AreOf line orders kept nodes past → AreChangesOf changing past → EntryFits entry →
    breaks_change changing orders (ending_in kept) nodes entry following ≡ breaks_once past entry following

-- and with that entry they are tables of the transcript with it
abbrev pub ChangesGoOn : Type 0
ChangesGoOn =
    (line : Option Line) (orders : List (Option Order)) (kept : List (ℕ × Ending)) (nodes : List (List ℕ)) (old new : Changing) (past : List Entry) (entry : Entry) →
    AreOf line orders kept nodes past → AreChangesOf old past → EntryFits entry → IsChangingAfter old nodes entry new →
    AreChangesOf new (past ++ (entry ∷ []))

-- the first tables are those of no entries
abbrev pub ChangesBegin : Type 0
ChangesBegin = AreChangesOf no_changes []
