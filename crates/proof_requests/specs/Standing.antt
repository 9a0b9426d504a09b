-- How the last request of the host stands, by what of the transcript the rules of its end look at (this project's own rule): its frame, its copies, the answers that came after the
-- last one, and the frames of the chip that were judged since; and how the one before it ended. The words of `law_time` over this are those over the transcript.
use Rattle.std.specs.Prelude.{◌≡◌, ℕ, ◌+◌, ◌==◌, ◌&&◌, ◌||◌, not, nat_le, nat_lt, Bool, true, false, if◌then◌else◌, List, [], ◌∷◌, ◌++◌, map, filter, take, slice_index, Option, Some, None}
use Rattle.std.specs.List.{flat_map, list_any, list_all}
use Rattle.serial_frame.specs.declared.unit.TheConstants.{NAK}
use Rattle.zw_words.specs.declared.side.Side.TheVariants.{Host, Chip}
use Rattle.zw_text.specs.declared.entry.Entry.{Entry}
use Rattle.zw_text.specs.declared.entry.Entry.TheVariants as entry
use Rattle.chip_functions.specs.declared.request.Request.{Request}
use Rattle.chip_functions.specs.declared.request.Request.TheVariants.{GetNodeProtocolInfo}
use Rattle.proof_waking.specs.law_transcript.Units.{body_in, request_in}
use Rattle.proof_waking.specs.law_time.Moments.{clock}
use Rattle.proof_waking.specs.law_time.Judged.{is_acknowledgement, is_data}
use Rattle.proof_waking.specs.law_time.Requests.{Answer, Asked, Failing, Judging, answers_from, asked, are_none, copies, failing, failing_by, is_answer, is_response_to, judged_since, last_copy, responses, sent_at}
use Rattle.proof_waking.specs.law_time.Ends.{ending, ending_among, ends_by, giving_up, has_ended, is_abort_frame, is_before_failing, is_sending, owes_abort, silence, wait_by, waits_before_failing}

-- the request before it: its frame, and the frame of the chip that ended it
pub record Prior : Type 0 where
  pub frame : List ℕ
  pub ending : List Judging

pub record Standing : Type 0 where
  pub frame : List ℕ
  pub copies : ℕ
  pub last : ℕ
  pub answers : List Answer
  pub judged : List Judging
  pub prior : Prior

abbrev pub answers_since : Asked → List Answer
answers_since asked = answers_from (last_copy asked).past (last_copy asked).following

abbrev pub prior_of : List Entry → Prior
prior_of past = record { frame = (asked past).frame; ending = ending (asked past) }

abbrev pub standing_of : Asked → Standing
standing_of asked = record {
  frame = asked.frame;
  copies = copies asked;
  last = clock (last_copy asked).past;
  answers = answers_since asked;
  judged = judged_since asked;
  prior = prior_of asked.before;
}

-- ---- the words of the rules

-- the answers that count: of those to the fourth copy the first, in the 15 ticks after it
abbrev pub counted : Standing → List Answer
counted s = if s.copies == 4 then take 1 (filter (λ answer. nat_lt answer.tick (s.last + 15)) s.answers) else s.answers

-- the ticks of those that acknowledge
abbrev pub ticks_sent : List Answer → List ℕ
ticks_sent answers = map (λ answer. answer.tick) (filter (λ answer. is_acknowledgement answer.unit) answers)

-- when the chip acknowledged it; where the line gives it up
abbrev pub sent_in : Standing → List ℕ
sent_in s = take 1 (ticks_sent (counted s))

abbrev pub failing_in : Standing → List Failing
failing_in s = if (s.copies == 4) && are_none (sent_in s) then failing_by (counted s) s.last ∷ [] else []

-- the responses that were judged, and when its wait ends
abbrev pub responses_in : Standing → List Judging
responses_in s = filter (λ one. is_response_to s.frame one.unit) s.judged

abbrev pub wait_in : Standing → List ℕ
wait_in s = if is_abort_frame s.frame then [] else wait_by (sent_in s) (responses_in s)

-- the first frame that ends it, where nothing else has
abbrev pub first_ending : Standing → List Judging
first_ending s = ending_among s.frame true s.judged

abbrev pub ending_in : Standing → List Judging
ending_in s = filter (λ one. list_all (nat_lt one.tick) (wait_in s) && list_all (is_before_failing one) (failing_in s)) (first_ending s)

-- when it ends in silence; when the line has given it up
abbrev pub silence_in : Standing → List ℕ
silence_in s = if are_none (ending_in s) then filter (λ wait. list_all (waits_before_failing wait) (failing_in s)) (wait_in s) else []

abbrev pub giving_up_in : Standing → List ℕ
giving_up_in s = if are_none (ending_in s) && are_none (silence_in s) then flat_map (λ fails. fails.tick ∷ []) (failing_in s) else []

-- it has ended by a time; an abort is owed
abbrev pub has_ended_in : Standing → ℕ → Bool
has_ended_in s now =
    not (are_none (ending_in s)) || list_any (λ tick. nat_le tick now) (silence_in s) || list_any (λ tick. nat_le tick now) (giving_up_in s)
    || (is_abort_frame s.frame && not (are_none (sent_in s)))

abbrev pub owes_abort_in : Standing → ℕ → Bool
owes_abort_in s now =
    list_any is_sending (request_in s.frame) && list_any (λ tick. nat_le tick now && list_any (λ one. one.tick + 65 == tick) (responses_in s)) (silence_in s)

-- those of the transcript are these
pub record AreWords (asked : Asked) (now : ℕ) : Type 0 where
  pub sent : sent_at asked ≡ sent_in (standing_of asked)
  pub failing_is : failing asked ≡ failing_in (standing_of asked)
  pub responses_are : responses asked ≡ responses_in (standing_of asked)
  pub ending_is : ending asked ≡ ending_in (standing_of asked)
  pub silence_is : silence asked ≡ silence_in (standing_of asked)
  pub giving_up_is : giving_up asked ≡ giving_up_in (standing_of asked)
  pub ended : has_ended asked now ≡ has_ended_in (standing_of asked) now
  pub owed : owes_abort asked now ≡ owes_abort_in (standing_of asked) now

-- what the end of a request by a frame brings: the capability byte of a GetNodeProtocolInfo
abbrev pub brought_by : List Request → List ℕ → Option ℕ
brought_by (GetNodeProtocolInfo n ∷ more) unit = Some (slice_index (body_in unit) 0)
brought_by requests unit = None

-- and what that of the request before brought
abbrev pub brought_of : List Request → List Judging → Option ℕ
brought_of requests [] = None
brought_of requests (one ∷ more) = brought_by requests one.unit

abbrev pub brought_before : Prior → Option ℕ
brought_before prior = brought_of (request_in prior.frame) prior.ending

-- ---- one thing more

-- a copy is written, at this time
abbrev pub with_copy : Standing → ℕ → Standing
with_copy s now = record s { copies = s.copies + 1; last = now; answers = [] }

-- an answer comes; a frame is judged
abbrev pub with_answer : Standing → Answer → Standing
with_answer s answer = record s { answers = s.answers ++ answer ∷ [] }

abbrev pub with_judging : Standing → Judging → Standing
with_judging s one = record s { judged = s.judged ++ one ∷ [] }

-- whether it ends the request, where nothing has
abbrev pub ends_now : Standing → Judging → Bool
ends_now s one = list_any (ends_by (are_none (responses_in s) && is_response_to s.frame one.unit) one.unit) (request_in s.frame)

-- at its first copy
abbrev pub first_standing : List ℕ → ℕ → Prior → Standing
first_standing frame now prior = record { frame = frame; copies = 1; last = now; answers = []; judged = []; prior = prior }

-- ---- entries

-- entries after a request, which go on with it
abbrev pub with_entries : Asked → List Entry → Asked
with_entries asked told = record asked { following = asked.following ++ told }

-- no request begins with it, and the host does not start anew
abbrev pub GoesOn : Entry → Type 0
GoesOn (entry.Said words) = ⊥
GoesOn (entry.Written Host unit) = is_data unit ≡ false
GoesOn e = Unit {0}

-- nothing that the rules look at: of units, a NAK of the host, and frames of the chip
abbrev pub IsAside : Entry → Type 0
IsAside (entry.Written Host unit) = unit ≡ NAK ∷ []
IsAside (entry.Written Chip unit) = is_answer unit ≡ false
IsAside (entry.Dropped Chip) = ⊥
IsAside (entry.Overrun Chip) = ⊥
IsAside e = Unit {0}
