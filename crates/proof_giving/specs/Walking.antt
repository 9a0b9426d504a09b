-- The attempts of each node of a host alone, at each phase of a run, and on what premises (this project's own rule): that what is heeded is what the host takes up (`HeedsAs`), and that
-- where it submits what waits by the transcript is what waits in the host.
use Rattle.std.specs.Prelude.{◌≡◌, ℕ, ◌≤◌, ◌-◌, ◌==◌, ◌||◌, Bool, true, false, Some, List, [], ◌∷◌, ◌++◌}
use Rattle.std.specs.List.{AllByRecursion}
use Rattle.zw_text.specs.declared.line.Line.{Line}
use Rattle.zw_text.specs.declared.entry.Entry.{Entry}
use Rattle.zw_text.specs.declared.entry.Ended.TheVariants.{Unanswered}
use Rattle.zw_text.specs.declared.entry.Entry.TheVariants.{Out, Said, Time}
use Rattle.zw_text.specs.Transcript.{line_of}
use Rattle.host_heard.specs.declared.told.Told.{Told}
use Rattle.law_transcript.specs.Units.{Carried}
use Rattle.law_time.specs.Attempts.{ends_badly}
use Rattle.law_time.specs.Heeds.{Heeds}
use Rattle.law_time.specs.Judged.{is_data}
use Rattle.law_time.specs.Moments.{now_at}
use Rattle.law_time.specs.Requests.{asked}
use Rattle.law_time.specs.Unanswered.{is_to_give_up, none_to_give_up}
use Rattle.host_requests.specs.Events.{RequestsEvent, end_at}
use Rattle.host_requests.specs.declared.end.How.{How}
use Rattle.host_requests.specs.declared.task.Purpose.TheVariants.{Attempt}
use Rattle.host_requests.specs.declared.under_way.UnderWay.{UnderWay}
use Rattle.host_model.specs.Ends.{part_end}
use Rattle.host_model.specs.State.{HostState}
use Rattle.host_model.specs.Events.{HostEvent, Begins, Gives_segment, Gives_text, Line_ticks, Node_ticks, Requests_do, Starts, Submits_abort, Submits_front, Works}
use Rattle.proof_queue.specs.Heeding.{AllSteps, HeedsAs, HeedsSo}
use Rattle.proof_queue.specs.proof_attempts.Asleep.{KnowsSleep}
use Rattle.proof_queue.specs.proof_attempts.Since.{TieOf, node_clock}
use Rattle.proof_queue.specs.proof_attempts.proof_requests.law_host.Heard.{heeds_alone}
use Rattle.proof_queue.specs.proof_attempts.proof_requests.proof_alone.Careful.{Careful}
use Rattle.proof_queue.specs.proof_attempts.proof_requests.proof_alone.State.{HostMachine}
use Rattle.proof_queue.specs.proof_attempts.proof_requests.proof_alone.Phases.{Phase, Asked, Behind, Resting, Risen, Submitting, Ticking}
use Rattle.proof_queue.specs.proof_attempts.proof_requests.proof_alone.Runs.{Knowledge, Run}
use Rattle.proof_giving.specs.Stays.{ShowsSessions}
use Rattle.proof_giving.specs.Tie.{AttemptsAs, AttemptsSo, WaitsAsTold, is_bad_part, is_good_for}

-- ---- premises

-- where the host submits what waits by the transcript at a request is what waits in the host
abbrev pub WaitsAt : Heeds → Knowledge
WaitsAt heeds Submitting past m = WaitsAsTold heeds past m.state m.clock
WaitsAt heeds here past m = Unit {0}

-- ---- signs that are to come

-- behind an item a node is said to be at work
abbrev pub works_at : ℕ → HostEvent → Bool
works_at n (Works k id) = k == n
works_at n event = false

abbrev pub works_among : ℕ → List HostEvent → Bool
works_among n [] = false
works_among n (event ∷ left) = works_at n event || works_among n left

-- or its request ends well
abbrev pub sign_at : ℕ → HostState → HostEvent → Bool
sign_at n h (Requests_do event moment) = is_good_for n (end_at h.requests event)
sign_at n h event = works_at n event

abbrev pub gives_sign : ℕ → HostState → List HostEvent → Bool
gives_sign n h [] = false
gives_sign n h (event ∷ left) = sign_at n h event || works_among n left

-- ---- the tie

-- no request is submitted or hears of anything, no part of a tick comes and no session begins
abbrev pub IsMild : HostEvent → Type 0
IsMild (Requests_do event moment) = ⊥
IsMild Line_ticks = ⊥
IsMild (Node_ticks n) = ⊥
IsMild Submits_abort = ⊥
IsMild Submits_front = ⊥
IsMild (Starts n plan more payload) = ⊥
IsMild (Gives_text n payload) = ⊥
IsMild (Gives_segment n more payload) = ⊥
IsMild (Begins n session command) = ⊥
IsMild event = Unit {0}

-- where the request of an attempt ends by an event, it has ended badly by the transcript just where that is bad for the attempt
abbrev pub EndsSo : List Entry → ℕ → HostState → RequestsEvent → Type 0
EndsSo past now h event =
    (u : UnderWay) (n : ℕ) (more : Bool) (payload : List ℕ) (how : How) → h.requests.under_way ≡ Some u → u.purpose ≡ Attempt n more payload
    → end_at h.requests event ≡ Some (record { purpose = u.purpose; how = how }) → (is_data (asked past).frame ≡ true) × (ends_badly (asked past) more now ≡ is_bad_part (part_end more how))

-- behind an item the request hears of it, and nothing else comes; or it does not
abbrev pub EndsAsTold : List Entry → ℕ → HostState → List HostEvent → Type 0
EndsAsTold past now h [] = Unit {0}
EndsAsTold past now h (Requests_do event moment ∷ left) = (left ≡ []) × EndsSo past now h event
EndsAsTold past now h (event ∷ left) = AllByRecursion IsMild (event ∷ left)

-- the time of the request: before the line has counted in a tick that of the tick before
abbrev pub request_clock : Phase → ℕ → ℕ
request_clock Risen clock = clock - 1
request_clock (Ticking (Line_ticks ∷ left)) clock = clock - 1
request_clock here clock = clock

-- of each node, behind an item with the sign that is to come
abbrev pub CountsAttempts : Heeds → TieOf
CountsAttempts heeds (Behind left) past h clock =
    ((n : ℕ) → 1 ≤ n → n ≤ 232 → AttemptsAs (gives_sign n h left) heeds n past h clock clock) × EndsAsTold past clock h left
CountsAttempts heeds here past h clock = (n : ℕ) → 1 ≤ n → n ≤ 232 → AttemptsSo heeds n past h (node_clock here clock n) (request_clock here clock)

-- the words of a line stand last, and so it was before them
pub record CountsBefore (heeds : Heeds) (line : Line) (past : List Entry) (h : HostState) (clock : ℕ) : Type 0 where
  pub before : List Entry
  pub words : List ℕ
  pub are : past ≡ before ++ Said words ∷ []
  pub read : line_of (Said words) ≡ line ∷ []
  pub shows : (n : ℕ) → ShowsSessions heeds before h n
  pub tie : CountsAttempts heeds Resting before h clock

abbrev pub KnowsAttempts : Heeds → Knowledge
KnowsAttempts heeds (Asked line) past m = CountsBefore heeds line past m.state m.clock
KnowsAttempts heeds here past m = CountsAttempts heeds here past m.state m.clock

-- ---- on what ground

-- what is known of sleep has all of the request, of ticks and of what an end tells; and the transcript shows the sessions of each node
pub record Grounds (heeds : Heeds) (here : Phase) (past : List Entry) (m : HostMachine) : Type 0 where
  pub sleep : KnowsSleep here past m
  pub shows : (n : ℕ) → ShowsSessions heeds past m.state n

-- ---- rests

-- these entries are those of a rest at this time, by such a run
abbrev pub RestsAt : (taken : List Entry → Carried → List Told) (start : HostMachine) (told : List Entry) (now : ℕ) → Type 0
RestsAt taken start told now =
    (m : HostMachine) × (run : Run start Resting told m) × Careful run × AllSteps (HeedsSo (heeds_alone taken)) run × AllSteps (HeedsAs (heeds_alone taken)) run × (now ≡ m.clock)

-- ---- giving up

-- a command counts as unanswered only where it is to be given up; and none is where a line is said or the number of a tick stands
abbrev pub gives_up_well : Heeds → List Entry → Entry → Bool
gives_up_well heeds past (Out command Unanswered) = is_to_give_up heeds past command
gives_up_well heeds past (Said words) = none_to_give_up heeds past (now_at past (Said words))
gives_up_well heeds past (Time tick) = none_to_give_up heeds past (now_at past (Time tick))
gives_up_well heeds past entry = true
