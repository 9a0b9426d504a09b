-- How commands ended (this project's own rule; the final statuses are those of a Supervision Report).
use Rattle.std.specs.Prelude.{ℕ, ◌==◌, ◌||◌, if◌then◌else◌, Bool, true, false, List, unwrap_or}
use Rattle.std.specs.Ordering.{nat_cmp}
use Rattle.std.specs.Map.{lookup}
use Rattle.std.specs.BTreeMap.{is_at}
use Rattle.zw_text.specs.declared.entry.Ended.{Ended}
use Rattle.zw_text.specs.declared.entry.Ended.TheVariants.{Success, Fail, NoSupport}
use Rattle.zw_text.specs.declared.entry.Entry.{Entry}
use Rattle.zw_text.specs.declared.entry.Entry.TheVariants.{Out}
use Rattle.audit_books.specs.declared.endings.Ending.{Ending}

-- a command that has not ended
abbrev pub no_ending : Ending
no_ending = record { is_final = false; has_failed = false; succeeds = false }

-- the ending of a command, by the numbers with their endings
abbrev pub ending_in : List (ℕ × Ending) → ℕ → Ending
ending_in endings command = unwrap_or (lookup (is_at (nat_cmp command)) endings) no_ending

-- whether it is success, and whether it is fail or no support
abbrev pub is_success : Ended → Bool
is_success Success = true
is_success _ = false

abbrev pub is_failure : Ended → Bool
is_failure Fail = true
is_failure NoSupport = true
is_failure _ = false

-- the ending with one more
abbrev pub ended_so : Ending → Ended → Ending
ended_so before ended = record {
  is_final = before.is_final || (is_success ended || is_failure ended);
  has_failed = before.has_failed || is_failure ended;
  succeeds = is_success ended;
}

-- the ending of a command, after one more entry
abbrev pub ending_after : Ending → ℕ → Entry → Ending
ending_after before command (Out ended_command ended) = if ended_command == command then ended_so before ended else before
ending_after before command _ = before
