-- What is known of a host alone where it rests (this project's own rule), and what it leaves at a rest.
use Rattle.std.specs.Prelude.{◌&&◌, not, ℕ, Bool, List}
use Rattle.std.specs.List.{list_all}
use Rattle.zw_text.specs.declared.entry.Entry.{Entry}
use Rattle.zw_text.specs.Transcript.{joined}
use Rattle.law_time.specs.Attempts.{Serving, serving}
use Rattle.law_time.specs.Ends.{owes_abort}
use Rattle.law_time.specs.Heeds.{Heeds}
use Rattle.law_time.specs.Queue.{with_due}
use Rattle.law_time.specs.Requests.{are_none, asked}
use Rattle.law_time.specs.Rests.{owes_nothing}
use Rattle.proof_giving.specs.proof_queue.proof_attempts.proof_requests.proof_alone.Runs.{Knowledge, both_know}
use Rattle.proof_following.specs.proof_ends.proof_rests.Known.{KnowsAll as KnowsDone}
use Rattle.proof_choice.specs.Turning.{KnowsAll}
use Rattle.proof_choice.specs.Waits.{KnowsWants}

-- no request waits, no abort is owed, and nothing is owed to any node
abbrev pub leaves_none : Heeds → Serving → List Entry → ℕ → Bool
leaves_none heeds serving past now =
    are_none (with_due heeds past now serving.requests.last serving.requests.queue).wants && not (owes_abort (asked past) now) && list_all (owes_nothing heeds past now) serving.each

abbrev pub rests_with_none : Heeds → List Entry → ℕ → Bool
rests_with_none heeds past now = leaves_none heeds (serving heeds (joined past) past) past now

abbrev pub RestingGround : Heeds → Knowledge
RestingGround heeds = both_know KnowsDone (both_know (KnowsWants heeds) (KnowsAll heeds))
