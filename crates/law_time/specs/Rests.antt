-- Rests, and what the host owes at one (this project's own rule): nothing that was asked for is left, no command waits for a node
-- that is awake, no part of an attempt, and no attempt, is left unsent, none is overdue, and a node that sleeps is kept awake for a reason alone.
use Rattle.std.specs.Prelude.{◌≡◌, ℕ, ◌+◌, ◌==◌, ◌&&◌, ◌||◌, not, nat_lt, Bool, true, List, [], ◌++◌, length}
use Rattle.std.specs.List.{flat_map, list_any, list_all}
use Rattle.zw_text.specs.declared.line.Line.{Line}
use Rattle.zw_text.specs.declared.line.Line.TheVariants as lines
use Rattle.zw_text.specs.declared.entry.Entry.{Entry}
use Rattle.zw_text.specs.declared.entry.Entry.TheVariants.{Said, Interviewed, InterviewFailed, Unkept, Time}
use Rattle.zw_text.specs.Transcript.{joined, shown, lines_done, requests_done, where_same}
use Rattle.law_wire.specs.law_transcript.Restarts.{since_restart}
use Rattle.law_time.specs.Heeds.{Heeds}
use Rattle.law_time.specs.Moments.{KeepsAfter, now_at}
use Rattle.law_time.specs.Requests.{asked, are_none}
use Rattle.law_time.specs.Ends.{is_over, owes_abort}
use Rattle.law_time.specs.Sessions.{runs}
use Rattle.law_time.specs.Queue.{waits_before}
use Rattle.law_time.specs.Attempts.{Attempts, Serving, serving}
use Rattle.law_time.specs.Choice.{is_in_tick, is_to_begin, parts_of, unkept_when}

-- ---- when it rests

-- the host rests where no request is under way, also while a stall lasts: then it has heard nothing since, and sends all the same
abbrev pub is_rest : List Entry → ℕ → Bool
is_rest past now = is_over (asked past) now

-- ---- what is asked for has come

-- how many lines since the host started ask for a Set or Get of a node, and for its interview
abbrev pub errand_of : ℕ → Line → List ℕ
errand_of node (lines.Send to word) = where_same to node to
errand_of node (lines.Get to end) = where_same to node to
errand_of node _ = []

abbrev pub interview_of : ℕ → Line → List ℕ
interview_of node (lines.Interview to) = where_same to node to
interview_of node _ = []

-- the ends of interviews of a node
abbrev pub interview_end : ℕ → Entry → List ℕ
interview_end node (Interviewed of) = where_same of node of
interview_end node (InterviewFailed of) = where_same of node of
interview_end node _ = []

-- whether the keeper failed for a node since the host started
abbrev pub unkept_at : ℕ → Entry → List ℕ
unkept_at node (Unkept of) = where_same of node of
unkept_at node _ = []

abbrev pub is_unkept : ℕ → List Entry → Bool
is_unkept node past = not (are_none (shown (unkept_at node) past))

-- each errand and each interview of a node has ended; an interview that was not kept leaves none
abbrev pub has_come : ℕ → List Entry → Bool
has_come node past =
    (length (flat_map (errand_of node) (lines_done past)) == length (requests_done node past))
    && ((length (flat_map (interview_of node) (lines_done past)) == length (shown (interview_end node) past)) || is_unkept node past)

-- ---- no command waits for a node that is awake

-- no command waits for a node that is up and whose sessions have all ended, but where the keeper has just failed
abbrev pub none_waits : ℕ → List Entry → ℕ → Bool
none_waits node past now = not (is_to_begin node past) || is_in_tick (unkept_when node) past now

-- ---- no attempt is overdue

-- the attempt of a session whose series runs has begun, has sent all that it could, and its last sign is less than 100 ticks ago
abbrev pub is_at_work : Heeds → List Entry → ℕ → Attempts → Bool
is_at_work heeds past now attempts =
    are_none (parts_of heeds past (asked past) now attempts) && list_any (λ tick. nat_lt now (tick + 100)) attempts.sign

abbrev pub none_overdue : Heeds → List Entry → ℕ → Attempts → Bool
none_overdue heeds past now attempts = not (runs attempts.node past now) || is_at_work heeds past now attempts

-- ---- the law

-- nothing is owed to a node
abbrev pub owes_nothing : Heeds → List Entry → ℕ → Attempts → Bool
owes_nothing heeds past now attempts =
    has_come attempts.node (since_restart past) && none_waits attempts.node past now && none_overdue heeds past now attempts

-- no request waits, no abort is owed, and nothing is owed to any node
abbrev pub owes_none : Heeds → List Entry → Entry → Serving → Bool
owes_none heeds past entry serving =
    are_none (waits_before heeds past serving.requests entry).wants && not (owes_abort (asked past) (now_at past entry))
    && list_all (owes_nothing heeds past (now_at past entry)) serving.each

-- where the host rests before an entry
abbrev pub rests_well : Heeds → List Entry → Entry → Bool
rests_well heeds past entry = not (is_rest past (now_at past entry)) || owes_none heeds past entry (serving heeds (joined past) past)

-- which begins a line or a tick
abbrev pub may_rest : Heeds → List Entry → Entry → Bool
may_rest heeds past (Said words) = rests_well heeds past (Said words)
may_rest heeds past (Time tick) = rests_well heeds past (Time tick)
may_rest heeds past entry = true

-- at each rest after what stood before nothing is owed
pub record RestsAfter (before : List Entry) (whole : Bool) (heeds : Heeds) (transcript : List Entry) : Type 0 where
  pub between : KeepsAfter before (may_rest heeds) transcript
  pub in_the_end : whole ≡ true → rests_well heeds (before ++ transcript) (Said []) ≡ true

-- at each rest of a transcript
abbrev pub RestsWell : Bool → Heeds → List Entry → Type 0
RestsWell whole heeds transcript = RestsAfter [] whole heeds transcript
