-- What the host's own tick has it note (this project's own rule: the waits of requests and of attempts): the line gives the request up, its wait
-- ends, and then, node by node, third attempts are over; and what it notes where the line gives up at an answer.
use Rattle.std.specs.Prelude.{ℕ, ◌&&◌, not, nat_le, Bool, if◌then◌else◌, List}
use Rattle.std.specs.List.{list_any}
use Rattle.std.specs.Ordering.{nat_cmp}
use Rattle.zw_text.specs.declared.entry.Done.TheVariants as done
use Rattle.zw_text.specs.declared.entry.Entry.{Entry}
use Rattle.zw_text.specs.Transcript.{joined}
use Rattle.law_time.specs.Heeds.{Heeds}
use Rattle.law_time.specs.Moments.{clock}
use Rattle.law_time.specs.Judged.{acknowledged}
use Rattle.law_time.specs.Requests.{are_none, asked, failing}
use Rattle.law_time.specs.Ends.{giving_up, silence}
use Rattle.law_time.specs.law_transcript.Table.{in_order}
use Rattle.law_host.specs.Course.{Course, each_in_turn}
use Rattle.law_host.specs.Ends.{ends_without, gives_up_late}

-- the joined nodes in the order of their numbers
abbrev pub nodes_in_order : List Entry → List ℕ
nodes_in_order past = in_order nat_cmp (joined past)

-- by a time the line has given the request up, or its wait has ended
abbrev pub waits_out : Heeds → List Entry → ℕ → Course → Course
waits_out heeds past now course =
    if list_any (λ tick. nat_le tick now) (giving_up (asked past)) then ends_without heeds past now done.LinkFailed course
    else (if list_any (λ tick. nat_le tick now) (silence (asked past)) then ends_without heeds past now done.Silent course else course)

-- the ticks up to a time: the request under way, and then each node
abbrev pub ticks : Heeds → List Entry → ℕ → Course → Course
ticks heeds past now course =
    each_in_turn (gives_up_late heeds past now) (nodes_in_order past)
    (if course.over then record course { ticked = now } else waits_out heeds past now (record course { ticked = now }))

-- an answer of the chip has the line give the request up, and all frames that came before it are judged
abbrev pub is_denied : List Entry → Bool
is_denied past =
    not (are_none (giving_up (asked past)))
    && list_any (λ fails. fails.at_answer && nat_le fails.frames (acknowledged past)) (failing (asked past))

abbrev pub denies : Heeds → List Entry → Course → Course
denies heeds past course =
    if not course.over && is_denied past then ends_without heeds past (clock past) done.LinkFailed course else course
