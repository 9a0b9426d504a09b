-- The request under way goes on, or ends, as the transcript tells: where a frame of the chip is judged, where its frame is acknowledged or given up, and at a tick.
use Rattle.std.proofs.Common.{◌≡◌, ◌⊎◌, ◌≤◌, ◌<◌, ℕ, ◌+◌, ◌-◌, ◌==◌, ◌&&◌, ◌||◌, Bool, true, false, if◌then◌else◌, inl, inr, List, [], ◌∷◌, ◌++◌, take, refl, sym, ap, ◌∙◌, subst, append-nil, arith}
use Rattle.std.specs.Prelude.{None, nat_le, nat_lt}
use Rattle.std.specs.List.{list_all, list_any}
use Rattle.std.proofs.lemmas.Bool.{and_right, eq-eqb, le-leb, le-ltb, lt-ltb, or_left, or_right}
use Rattle.serial_frame.specs.declared.unit.Unit.{Unit as LineUnit}
use Rattle.serial_link.specs.State.{IsBusy}
use Rattle.serial_link.specs.declared.turn.Turn.{Turn}
use Rattle.serial_link.specs.declared.turn.Turn.TheVariants.{Idle, Copied, Paused}
use Rattle.proof_waking.specs.law_time.Requests.{Answer, Failing, Judging, failing_by, is_response_to}
use Rattle.proof_waking.specs.law_transcript.Units.{request_in}
use Rattle.proof_waking.specs.law_time.Ends.{is_abort_frame, is_before_failing, is_sending, waits_before_failing}
use Rattle.host_requests.specs.declared.under_way.Progress.{Progress}
use Rattle.host_requests.specs.declared.under_way.Progress.TheVariants.{Submitted, Sent, Answered}
use Rattle.host_requests.specs.declared.under_way.UnderWay.{UnderWay}
use Rattle.proof_requests.specs.Standing.{brought_by, Standing, ends_now, failing_in, first_ending, responses_in, sent_in, ticks_sent, wait_in, with_judging}
use Rattle.proof_requests.specs.Asking.{Leaving, nothing_left, AsProgress, EndedByFrame, EndedByLine, EndedInSilence, IsSentBy, IsUnderWay, TieLine, WasGivenUp, WasIgnored, is_owed}
use Rattle.proof_requests.proofs.Line.{GivesUpLater, IsFresh, IsOpenLine, copied_open, failing_four, failing_sent, four_is, paused_open}
use Rattle.proof_requests.proofs.Judging.{and_true, ending_judged, responses_judged}
use Rattle.proof_requests.proofs.Ended.{gave_up, wait_judged, wait_too_late, waiting}

-- ---- its waits end later than now

abbrev pub Over : ℕ → List ℕ → List Judging → Type 0
Over now [] [] = Unit {0}
Over now [] (response ∷ more) = now < response.tick + 65
Over now (sent ∷ rest) [] = now < sent + 15
Over now (sent ∷ rest) (response ∷ more) = (now < response.tick + 65) × ((response.tick < sent + 15) ⊎ (now < sent + 15))

pub over_all : (tick now : ℕ) (abort : Bool) (sent : List ℕ) (responses : List Judging) → tick ≡ now → Over now sent responses → list_all (nat_lt tick) (waiting abort sent responses) ≡ true
over_all tick now true sent responses is over = refl
over_all tick now false [] [] is over = refl
over_all tick now false [] (response ∷ more) is over = ap (λ (b : Bool). b && true) (lt-ltb tick (response.tick + 65) (omega (arith, is, over)))
over_all tick now false (sent ∷ rest) [] is over = ap (λ (b : Bool). b && true) (lt-ltb tick (sent + 15) (omega (arith, is, over)))
over_all tick now false (sent ∷ rest) (response ∷ more) is (late, inl in_time) =
    ap (λ (b : Bool). list_all (nat_lt tick) (if b then (response.tick + 65) ∷ [] else (sent + 15) ∷ [])) (lt-ltb response.tick (sent + 15) in_time)
    ∙ ap (λ (b : Bool). b && true) (lt-ltb tick (response.tick + 65) (omega (arith, is, late)))
over_all tick now false (sent ∷ rest) (response ∷ more) is (late, inr over) = by (nat_lt response.tick (sent + 15))
  where
    by : (b : Bool) → list_all (nat_lt tick) (if b then (response.tick + 65) ∷ [] else (sent + 15) ∷ []) ≡ true
    by true = ap (λ (b : Bool). b && true) (lt-ltb tick (response.tick + 65) (omega (arith, is, late)))
    by false = ap (λ (b : Bool). b && true) (lt-ltb tick (sent + 15) (omega (arith, is, over)))

-- a response that is judged now leaves them so
over_more : (one : Judging) (now : ℕ) (sent : List ℕ) (responses : List Judging) (responds : Bool) → one.tick ≡ now → Over now sent responses
    → Over now sent (responses ++ (if responds then one ∷ [] else []))
over_more one now [] [] true is over = omega (arith, is)
over_more one now [] [] false is over = tt
over_more one now [] (response ∷ more) responds is over = over
over_more one now (sent ∷ rest) [] true is over = (omega (arith, is), inr over)
over_more one now (sent ∷ rest) [] false is over = over
over_more one now (sent ∷ rest) (response ∷ more) responds is over = over

over_at : (s : Standing) (now : ℕ) (sent : List ℕ) (responses : List Judging) → sent_in s ≡ sent → responses_in s ≡ responses → Over now sent responses → Over now (sent_in s) (responses_in s)
over_at s now sent responses sent_is responses_are over =
    subst (λ (l : List Judging). Over now (sent_in s) l) (sym responses_are) (subst (λ (l : List ℕ). Over now l responses) (sym sent_is) over)

fresh_none : (s : Standing) (now : ℕ) → IsFresh s now → responses_in s ≡ [] → Over now (sent_in s) (responses_in s)
fresh_none s now (inl none) unanswered = over_at s now [] [] none unanswered tt
fresh_none s now (inr one) unanswered = over_at s now (now ∷ []) [] one unanswered (omega arith)

fresh_some : (s : Standing) (now : ℕ) (response : Judging) (more : List Judging) → IsFresh s now → responses_in s ≡ response ∷ more → now < response.tick + 65 → Over now (sent_in s) (responses_in s)
fresh_some s now response more (inl none) are over = over_at s now [] (response ∷ more) none are over
fresh_some s now response more (inr one) are over = over_at s now (now ∷ []) (response ∷ more) one are (over, inr (omega arith))

-- ---- the line, while the request is under way

-- its frame is on it, or was acknowledged
pub record IsHeld (s : Standing) (now count : ℕ) (turn : Turn) : Type 0 where
  pub opened : IsBusy turn → IsOpenLine s now count

pub line_held : (s : Standing) (now count : ℕ) (came : List LineUnit) (turn : Turn) → TieLine s now count came turn → IsHeld s now count turn
line_held s now count came Idle tie = record { opened = λ busy. absurd busy }
line_held s now count came (Copied f copies ticks) tie = record { opened = λ busy. copied_open s now count came f copies ticks tie }
line_held s now count came (Paused f copies ticks) tie = record { opened = λ busy. paused_open s now count came f copies tie }

pub progress_over : (s : Standing) (now count : ℕ) (turn : Turn) (progress : Progress) → IsHeld s now count turn → AsProgress s now turn progress → Over now (sent_in s) (responses_in s)
progress_over s now count turn Submitted held (busy, unanswered) = fresh_none s now (held.opened busy).fresh unanswered
progress_over s now count turn (Sent left) held (idle, unanswered, other, sent, sent_is, since, some) = over_at s now (sent ∷ []) [] sent_is unanswered (omega (arith, since, some))
progress_over s now count turn (Answered true left) held (other, one, more, are, since, some, few, (idle, sent, sent_is, in_time)) =
    over_at s now (sent ∷ []) (one ∷ more) sent_is are (omega (arith, since, some), inl in_time)
progress_over s now count turn (Answered false left) held (other, one, more, are, since, some, few, busy) =
    fresh_some s now one more (held.opened busy).fresh are (omega (arith, since, some))

-- the line gives it up later, if at all
progress_later : (s : Standing) (now count : ℕ) (turn : Turn) (progress : Progress) → IsHeld s now count turn → AsProgress s now turn progress → GivesUpLater now count (failing_in s)
progress_later s now count turn Submitted held (busy, unanswered) = (held.opened busy).later
progress_later s now count turn (Sent left) held (idle, unanswered, other, sent, sent_is, since, some) = subst (GivesUpLater now count) (sym (failing_sent s sent sent_is)) tt
progress_later s now count turn (Answered true left) held (other, one, more, are, since, some, few, (idle, sent, sent_is, in_time)) =
    subst (GivesUpLater now count) (sym (failing_sent s sent sent_is)) tt
progress_later s now count turn (Answered false left) held (other, one, more, are, since, some, few, busy) = (held.opened busy).later

-- ---- a frame is judged

-- it is judged before the line gives the request up
in_time : (one : Judging) (now count : ℕ) (fails : List Failing) → one.tick ≡ now → one.place ≡ count → GivesUpLater now count fails → list_all (is_before_failing one) fails ≡ true
in_time one now count [] tick_is place later = refl
in_time one now count (fails ∷ more) tick_is place (first, later) =
    ap (λ (b : Bool). b && list_all (is_before_failing one) more) (by first) ∙ in_time one now count more tick_is place later
  where
    by : (now < fails.tick) ⊎ ((fails.at_answer ≡ true) × (fails.tick ≡ now) × (count ≤ fails.frames)) → is_before_failing one fails ≡ true
    by (inl less) = or_left (nat_lt one.tick fails.tick) (fails.at_answer && nat_le one.place fails.frames) (lt-ltb one.tick fails.tick (omega (arith, tick_is, less)))
    by (inr (at_answer, same, frames)) =
        or_right (nat_lt one.tick fails.tick) (fails.at_answer && nat_le one.place fails.frames)
        (ap (λ (b : Bool). b && nat_le one.place fails.frames) at_answer ∙ le-leb one.place fails.frames (omega (arith, place, frames)))

module _ (s : Standing) (one : Judging) (now count : ℕ) (turn : Turn) (id : ℕ) (tick_is : one.tick ≡ now) (place : one.place ≡ count + 1) where
  -- it ends the request
  pub frame_ends : (u : UnderWay) → IsHeld s now (count + 1) turn → IsUnderWay s now turn id u → ends_now s one ≡ true
      → EndedByFrame (with_judging s one) now (count + 1) (record { owes = false; first = brought_by (request_in s.frame) one.unit })
  frame_ends u held is ends = record {
    paid = refl;
    one = one;
    brings = refl;
    first = ending_judged s one is.unended ∙ ap (λ (b : Bool). if b then one ∷ [] else []) ends;
    by_now = omega (arith, tick_is);
    judged = omega (arith, place);
    waits = ap (λ (l : List ℕ). list_all (nat_lt one.tick) l) (wait_judged s one)
        ∙ over_all one.tick now (is_abort_frame s.frame) (sent_in s) (responses_in s ++ (if is_response_to s.frame one.unit then one ∷ [] else [])) tick_is
        (over_more one now (sent_in s) (responses_in s) (is_response_to s.frame one.unit) tick_is (progress_over s now (count + 1) turn u.progress held is.progress));
    stands = in_time one now (count + 1) (failing_in s) tick_is place (progress_later s now (count + 1) turn u.progress held is.progress);
  }

  no_response : is_response_to s.frame one.unit ≡ false → responses_in (with_judging s one) ≡ responses_in s
  no_response none = responses_judged s one ∙ ap (λ (b : Bool). responses_in s ++ (if b then one ∷ [] else [])) none ∙ append-nil (responses_in s)

  one_response : is_response_to s.frame one.unit ≡ true → responses_in (with_judging s one) ≡ responses_in s ++ one ∷ []
  one_response some = responses_judged s one ∙ ap (λ (b : Bool). responses_in s ++ (if b then one ∷ [] else [])) some

  pub unended : (u : UnderWay) → IsUnderWay s now turn id u → ends_now s one ≡ false → first_ending (with_judging s one) ≡ []
  unended u is ends = ending_judged s one is.unended ∙ ap (λ (b : Bool). if b then one ∷ [] else []) ends

  -- it is no response to it, and does not end it
  same_progress : (progress : Progress) → is_response_to s.frame one.unit ≡ false → AsProgress s now turn progress → AsProgress (with_judging s one) now turn progress
  same_progress Submitted none (busy, unanswered) = (busy, no_response none ∙ unanswered)
  same_progress (Sent left) none (idle, unanswered, other, sent, sent_is, since, some) = (idle, no_response none ∙ unanswered, other, sent, sent_is, since, some)
  same_progress (Answered true left) none (other, first, more, are, since, some, few, by) = (other, first, more, no_response none ∙ are, since, some, few, by)
  same_progress (Answered false left) none (other, first, more, are, since, some, few, by) = (other, first, more, no_response none ∙ are, since, some, few, by)

  pub frame_leaves : (u : UnderWay) → IsUnderWay s now turn id u → is_response_to s.frame one.unit ≡ false → ends_now s one ≡ false → IsUnderWay (with_judging s one) now turn id u
  frame_leaves u is none ends = record { frame = is.frame; request = is.request; unended = unended u is ends; progress = same_progress u.progress none is.progress }

  -- it is one more response to a request that was answered
  pub answered_again : (u : UnderWay) (sent : Bool) (left : ℕ) → u.progress ≡ Answered sent left → IsUnderWay s now turn id u → is_response_to s.frame one.unit ≡ true → ends_now s one ≡ false
      → IsUnderWay (with_judging s one) now turn id u
  answered_again u sent left progress is some ends =
      record {
        frame = is.frame;
        request = is.request;
        unended = unended u is ends;
        progress = subst (λ (p : Progress). AsProgress (with_judging s one) now turn p) (sym progress) (again sent (subst (λ (p : Progress). AsProgress s now turn p) progress is.progress));
      }
    where
      again : (sent : Bool) → AsProgress s now turn (Answered sent left) → AsProgress (with_judging s one) now turn (Answered sent left)
      again true (other, first, more, are, since, late, few, by) = (other, first, more ++ one ∷ [], one_response some ∙ ap (λ (l : List Judging). l ++ one ∷ []) are, since, late, few, by)
      again false (other, first, more, are, since, late, few, by) = (other, first, more ++ one ∷ [], one_response some ∙ ap (λ (l : List Judging). l ++ one ∷ []) are, since, late, few, by)

  -- it is the first, and the request waits for more
  pub answered_first : (u : UnderWay) (sent : Bool) → AsProgress s now turn u.progress → responses_in s ≡ [] → IsSentBy s turn one sent → is_abort_frame s.frame ≡ false
      → is_response_to s.frame one.unit ≡ true → AsProgress (with_judging s one) now turn (Answered sent 65)
  answered_first u true progress none by other some =
      (other, one, [], one_response some ∙ ap (λ (l : List Judging). l ++ one ∷ []) none, omega (arith, tick_is), omega arith, omega arith, by)
  answered_first u false progress none by other some =
      (other, one, [], one_response some ∙ ap (λ (l : List Judging). l ++ one ∷ []) none, omega (arith, tick_is), omega arith, omega arith, by)

-- ---- its frame is acknowledged

module _ (s : Standing) (now : ℕ) (turn : Turn) (id : ℕ) (sent : sent_in s ≡ now ∷ []) where
  pub sent_submitted : is_abort_frame s.frame ≡ false → AsProgress s now turn Submitted → AsProgress s now Idle (Sent 15)
  sent_submitted other (busy, unanswered) = (refl, unanswered, other, now, sent, omega arith, omega arith)

  pub sent_answered_so : (left : ℕ) → AsProgress s now turn (Answered false left) → AsProgress s now Idle (Answered true left)
  sent_answered_so left (other, one, more, are, since, some, few, busy) =
      (other, one, more, are, since, some, few, (refl, now, sent, omega (arith, since, few)))

-- ---- the line gives it up

-- no response to it was judged, or so long ago that its wait has ticks left
unwaited : (s : Standing) (fails : Failing) (responses : List Judging) → sent_in s ≡ [] → responses_in s ≡ responses → Over fails.tick [] responses
    → list_any (λ wait. list_all (waits_before_failing wait) (fails ∷ [])) (wait_in s) ≡ false
unwaited s fails responses unsent are over =
    ap (λ (l : List ℕ). list_any (λ wait. list_all (waits_before_failing wait) (fails ∷ [])) (waiting (is_abort_frame s.frame) l (responses_in s))) unsent
    ∙ ap (λ (l : List Judging). list_any (λ wait. list_all (waits_before_failing wait) (fails ∷ [])) (waiting (is_abort_frame s.frame) [] l)) are
    ∙ by (is_abort_frame s.frame) responses over
  where
    by : (abort : Bool) (some : List Judging) → Over fails.tick [] some → list_any (λ wait. list_all (waits_before_failing wait) (fails ∷ [])) (waiting abort [] some) ≡ false
    by true some over = refl
    by false [] over = refl
    by false (response ∷ more) over = ap (λ (b : Bool). (b && true) || false) (wait_too_late (response.tick + 65) fails over)

pub line_ends : (s : Standing) (now count : ℕ) → first_ending s ≡ [] → (given_up : WasGivenUp s now count) → Over now [] (responses_in s) → EndedByLine s now count nothing_left
line_ends s now count none given_up over =
    let gave = gave_up s now count given_up in record {
      paid = refl;
      nothing = refl;
      given_up = given_up;
      no_frame = ap (λ (l : List Judging). list_any (λ one. list_all (is_before_failing one) (failing_in s)) l) none;
      no_wait = ap (λ (l : List Failing). list_any (λ wait. list_all (waits_before_failing wait) l) (wait_in s)) gave.failing
          ∙ unwaited s gave.fails (responses_in s) gave.unsent refl (earlier gave.fails.tick now (responses_in s) gave.by_now over);
    }
  where
    earlier : (tick now : ℕ) (responses : List Judging) → tick ≤ now → Over now [] responses → Over tick [] responses
    earlier tick now [] time over = tt
    earlier tick now (response ∷ more) time over = omega (arith, time, over)

-- at its fifteenth tick, a wait may end with it
ignored_waits : (tick : ℕ) (abort : Bool) (some : List Judging) → ((one : Judging) (more : List Judging) → some ≡ one ∷ more → tick ≤ one.tick + 65)
    → list_any (λ wait. list_all (waits_before_failing wait) (record { tick = tick; at_answer = false; frames = 0 } ∷ [])) (waiting abort [] some) ≡ false
ignored_waits tick true some over = refl
ignored_waits tick false [] over = refl
ignored_waits tick false (one ∷ more) over = ap (λ (b : Bool). ((b || false) && true) || false) (le-ltb (one.tick + 65) tick (over one more refl))

pub line_ignores : (s : Standing) (now count : ℕ) → first_ending s ≡ [] → s.copies ≡ 4 → WasIgnored s now → ((one : Judging) (more : List Judging) → responses_in s ≡ one ∷ more → now ≤ one.tick + 65)
    → EndedByLine s now count nothing_left
line_ignores s now count none four ignored over =
    let unsent : sent_in s ≡ [] = ap (λ (l : List Answer). take 1 (ticks_sent l)) ignored.none in
    let failing : failing_in s ≡ record { tick = s.last + 15; at_answer = false; frames = 0 } ∷ []
    = failing_four s (four_is s.copies four) unsent ∙ ap (λ (l : List Answer). failing_by l s.last ∷ []) ignored.none in
    record {
      paid = refl;
      nothing = refl;
      given_up = (four, inr ignored);
      no_frame = ap (λ (l : List Judging). list_any (λ one. list_all (is_before_failing one) (failing_in s)) l) none;
      no_wait = ap (λ (l : List Failing). list_any (λ wait. list_all (waits_before_failing wait) l) (wait_in s)) failing
          ∙ ap (λ (l : List ℕ). list_any (λ wait. list_all (waits_before_failing wait) (record { tick = s.last + 15; at_answer = false; frames = 0 } ∷ [])) (waiting (is_abort_frame s.frame) l (responses_in s))) unsent
          ∙ ignored_waits (s.last + 15) (is_abort_frame s.frame) (responses_in s)
          (λ one more are. let wait = over one more are in let by_now = ignored.by_now in omega (arith, wait, by_now));
    }

-- ---- a tick

-- a wait that goes on
pub sent_ticks : (s : Standing) (before now left : ℕ) (turn : Turn) → now ≡ before + 1 → 1 < left → AsProgress s before turn (Sent left) → AsProgress s now turn (Sent (left - 1))
sent_ticks s before now left turn next more (idle, unanswered, other, sent, sent_is, since, some) =
    (idle, unanswered, other, sent, sent_is, omega (arith, since, next, more), omega (arith, more))

pub answered_ticks : (s : Standing) (before now left : ℕ) (turn : Turn) (sent : Bool) → now ≡ before + 1 → 1 < left → AsProgress s before turn (Answered sent left)
    → AsProgress s now turn (Answered sent (left - 1))
answered_ticks s before now left turn true next more (other, one, rest, are, since, some, few, by) =
    (other, one, rest, are, omega (arith, since, next, more), omega (arith, more), omega (arith, few), by)
answered_ticks s before now left turn false next more (other, one, rest, are, since, some, few, by) =
    (other, one, rest, are, omega (arith, since, next, more), omega (arith, more), omega (arith, few), by)

-- it ends: nothing came
later_fails : (wait now count : ℕ) (fails : List Failing) → wait ≡ now → GivesUpLater now count fails → list_all (waits_before_failing wait) fails ≡ true
later_fails wait now count [] is later = refl
later_fails wait now count (fails ∷ more) is (first, later) = ap (λ (b : Bool). b && list_all (waits_before_failing wait) more) (by first) ∙ later_fails wait now count more is later
  where
    by : (now < fails.tick) ⊎ ((fails.at_answer ≡ true) × (fails.tick ≡ now) × (count ≤ fails.frames)) → waits_before_failing wait fails ≡ true
    by (inl less) = or_left (nat_lt wait fails.tick) (fails.at_answer && (wait == fails.tick)) (lt-ltb wait fails.tick (omega (arith, is, less)))
    by (inr (at_answer, same, frames)) =
        or_right (nat_lt wait fails.tick) (fails.at_answer && (wait == fails.tick))
        (ap (λ (b : Bool). b && (wait == fails.tick)) at_answer ∙ eq-eqb wait fails.tick (is ∙ sym same))

-- its wait ends at this tick
abbrev pub SilentNow : Standing → ℕ → Leaving → Type 0
SilentNow s now leaving = (e : EndedInSilence s now leaving) × (e.tick ≡ now)

silent_at : (s : Standing) (wait now count : ℕ) → wait_in s ≡ wait ∷ [] → wait ≡ now → first_ending s ≡ [] → GivesUpLater now count (failing_in s) → SilentNow s now (record { owes = is_owed s wait; first = None })
silent_at s wait now count wait_is is none later = (
  record {
    tick = wait;
    owed = refl;
    nothing = refl;
    wait = wait_is;
    by_now = omega (arith, is);
    late = ap (λ (l : List Judging). list_all (λ one. nat_le wait one.tick) l) none;
    stands = later_fails wait now count (failing_in s) is later;
  },
  is,
)

-- whether an abort is owed then
owed_unanswered : (s : Standing) (tick : ℕ) → responses_in s ≡ [] → is_owed s tick ≡ false
owed_unanswered s tick none =
    ap (λ (l : List Judging). list_any is_sending (request_in s.frame) && list_any (λ one. one.tick + 65 == tick) l) none ∙ and_right (list_any is_sending (request_in s.frame)) false refl

owed_answered : (s : Standing) (one : Judging) (more : List Judging) → responses_in s ≡ one ∷ more → is_owed s (one.tick + 65) ≡ list_any is_sending (request_in s.frame)
owed_answered s one more are =
    ap (λ (l : List Judging). list_any is_sending (request_in s.frame) && list_any (λ each. each.tick + 65 == one.tick + 65) l) are
    ∙ ap (λ (b : Bool). list_any is_sending (request_in s.frame) && b)
    (or_left (one.tick + 65 == one.tick + 65) (list_any (λ each. each.tick + 65 == one.tick + 65) more) (eq-eqb (one.tick + 65) (one.tick + 65) refl))
    ∙ and_true (list_any is_sending (request_in s.frame))

pub sent_ends : (s : Standing) (before now count : ℕ) (turn : Turn) → now ≡ before + 1 → first_ending s ≡ [] → AsProgress s before turn (Sent 1) → SilentNow s now nothing_left
sent_ends s before now count turn next none (idle, unanswered, other, sent, sent_is, since, some) =
    subst (λ (b : Bool). SilentNow s now (record { owes = b; first = None })) (owed_unanswered s (sent + 15) unanswered)
    (silent_at s (sent + 15) now count
    (ap (λ (b : Bool). waiting b (sent_in s) (responses_in s)) other ∙ ap (λ (l : List ℕ). waiting false l (responses_in s)) sent_is
    ∙ ap (λ (l : List Judging). waiting false (sent ∷ []) l) unanswered)
    (omega (arith, since, next)) none
    (subst (GivesUpLater now count) (sym (failing_sent s sent sent_is)) tt))

pub answered_ends : (s : Standing) (before now count : ℕ) (turn : Turn) (sent : Bool) → now ≡ before + 1 → first_ending s ≡ [] → IsHeld s now count turn → AsProgress s before turn (Answered sent 1)
    → SilentNow s now (record { owes = list_any is_sending (request_in s.frame); first = None })
answered_ends s before now count turn true next none held (other, one, more, are, since, some, few, (idle, sent, sent_is, in_time)) =
    subst (λ (b : Bool). SilentNow s now (record { owes = b; first = None })) (owed_answered s one more are)
    (silent_at s (one.tick + 65) now count
    (ap (λ (b : Bool). waiting b (sent_in s) (responses_in s)) other ∙ ap (λ (l : List ℕ). waiting false l (responses_in s)) sent_is
    ∙ ap (λ (l : List Judging). waiting false (sent ∷ []) l) are
    ∙ ap (λ (b : Bool). if b then (one.tick + 65) ∷ [] else (sent + 15) ∷ []) (lt-ltb one.tick (sent + 15) in_time))
    (omega (arith, since, next)) none
    (subst (GivesUpLater now count) (sym (failing_sent s sent sent_is)) tt))
answered_ends s before now count turn false next none held (other, one, more, are, since, some, few, busy) =
    subst (λ (b : Bool). SilentNow s now (record { owes = b; first = None })) (owed_answered s one more are)
    (silent_at s (one.tick + 65) now count (wait (held.opened busy).fresh) (omega (arith, since, next)) none (held.opened busy).later)
  where
    waited : (sent : List ℕ) → sent_in s ≡ sent → waiting false sent (one ∷ more) ≡ (one.tick + 65) ∷ [] → wait_in s ≡ (one.tick + 65) ∷ []
    waited sent sent_is is =
        ap (λ (b : Bool). waiting b (sent_in s) (responses_in s)) other ∙ ap (λ (l : List ℕ). waiting false l (responses_in s)) sent_is
        ∙ ap (λ (l : List Judging). waiting false sent l) are ∙ is

    wait : IsFresh s now → wait_in s ≡ (one.tick + 65) ∷ []
    wait (inl unsent) = waited [] unsent refl
    wait (inr sent) =
        waited (now ∷ []) sent (ap (λ (b : Bool). if b then (one.tick + 65) ∷ [] else (now + 15) ∷ []) (lt-ltb one.tick (now + 15) (omega (arith, since, next))))
