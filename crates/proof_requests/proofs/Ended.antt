-- A request that has ended stays so: later, after an answer of the chip, after a frame that is judged, and after a copy.
use Rattle.std.proofs.Common.{◌≡◌, ◌⊎◌, ◌≤◌, ◌<◌, ℕ, ◌+◌, ◌==◌, ◌&&◌, ◌||◌, Bool, true, false, if◌then◌else◌, inl, inr, List, [], ◌∷◌, ◌++◌, take, refl, sym, ap, ◌∙◌, append-nil, arith}
use Rattle.std.specs.Prelude.{nat_le, nat_lt}
use Rattle.std.specs.List.{list_all, list_any}
use Rattle.std.proofs.lemmas.Bool.{and_left, and_right, eq-eqb, le-leb, le-ltb, lt-leb, lt-ltb, ltb-false, ne_eqb, or_from, or_left, or_right}
use Rattle.proof_waking.specs.law_time.Requests.{Answer, Failing, Judging, are_none, failing_by, is_response_to}
use Rattle.proof_waking.specs.law_transcript.Units.{request_in}
use Rattle.proof_waking.specs.law_time.Ends.{is_abort_frame, is_before_failing, is_sending, wait_by, waits_before_failing}
use Rattle.proof_requests.specs.Standing.{Standing, counted, failing_in, first_ending, responses_in, sent_in, ticks_sent, wait_in, with_answer, with_copy, with_judging}
use Rattle.proof_requests.specs.Asking.{Leaving, EndedByFrame, EndedByLine, EndedInSilence, HasEnded, WasDenied, WasGivenUp, WasIgnored, WasSent, is_owed}
use Rattle.proof_requests.specs.Effects.{AnswerDoes, denied_at}
use Rattle.proof_requests.proofs.Line.{answer_does, counted_four, counted_more, failing_four, first_stays, four_is, in_time, same_counted, ticks_one}
use Rattle.proof_requests.proofs.Judging.{IsFirstNow, ending_kept, first_or_same, responses_judged}

-- ---- later

pub sent_later : (s : Standing) (now later : ℕ) → now ≤ later → WasSent s now → WasSent s later
sent_later s now later time was = let by_now = was.by_now in record { tick = was.tick; sent = was.sent; by_now = omega (arith, by_now, time) }

pub given_up_later : (s : Standing) (now later count more : ℕ) → now ≤ later → count ≤ more → WasGivenUp s now count → WasGivenUp s later more
given_up_later s now later count more time judged (four, inl denied) =
    let by_now = denied.by_now in
    let frames = denied.judged in
    (four, inl (record { answer = denied.answer; first = denied.first; denies = denied.denies; by_now = omega (arith, by_now, time); judged = omega (arith, frames, judged) }))
given_up_later s now later count more time judged (four, inr ignored) = let by_now = ignored.by_now in (four, inr (record { none = ignored.none; by_now = omega (arith, by_now, time) }))

pub ended_later : (s : Standing) (now later count more : ℕ) (leaving : Leaving) → now ≤ later → count ≤ more → HasEnded s now count leaving → HasEnded s later more leaving
ended_later s now later count more leaving time judged (inl e) =
    let by_now = e.by_now in
    let place = e.judged in
    inl (record { paid = e.paid; one = e.one; brings = e.brings; first = e.first; by_now = omega (arith, by_now, time); judged = omega (arith, place, judged); waits = e.waits; stands = e.stands })
ended_later s now later count more leaving time judged (inr (inl e)) =
    let by_now = e.by_now in
    inr (inl (record { tick = e.tick; owed = e.owed; nothing = e.nothing; wait = e.wait; by_now = omega (arith, by_now, time); late = e.late; stands = e.stands }))
ended_later s now later count more leaving time judged (inr (inr (inl e))) =
    inr (inr (inl (record { paid = e.paid; nothing = e.nothing; given_up = given_up_later s now later count more time judged e.given_up; no_frame = e.no_frame; no_wait = e.no_wait })))
ended_later s now later count more leaving time judged (inr (inr (inr e))) =
    inr (inr (inr (record { paid = e.paid; nothing = e.nothing; abort = e.abort; sent = sent_later s now later time e.sent })))

-- ---- an answer

abbrev pub waiting : Bool → List ℕ → List Judging → List ℕ
waiting abort sent responses = if abort then [] else wait_by sent responses

-- whoever ended before an acknowledgement ended before the wait that it begins
waits_sent : (one : Judging) (now : ℕ) (abort : Bool) (responses : List Judging) → one.tick ≤ now → list_all (nat_lt one.tick) (waiting abort [] responses) ≡ true
    → list_all (nat_lt one.tick) (waiting abort (now ∷ []) responses) ≡ true
waits_sent one now true responses time is = refl
waits_sent one now false [] time is = ap (λ (b : Bool). b && true) (lt-ltb one.tick (now + 15) (omega (arith, time)))
waits_sent one now false (response ∷ more) time is = by (nat_lt response.tick (now + 15))
  where
    by : (b : Bool) → list_all (nat_lt one.tick) (if b then (response.tick + 65) ∷ [] else (now + 15) ∷ []) ≡ true
    by true = is
    by false = ap (λ (b : Bool). b && true) (lt-ltb one.tick (now + 15) (omega (arith, time)))

-- a wait that has ended stays
silence_sent : (tick now : ℕ) (abort : Bool) (responses : List Judging) → tick ≤ now → waiting abort [] responses ≡ tick ∷ [] → waiting abort (now ∷ []) responses ≡ tick ∷ []
silence_sent tick now true responses time is = absurd (let bad : [] ≡ tick ∷ [] = is in cc)
silence_sent tick now false [] time is = absurd (let bad : [] ≡ tick ∷ [] = is in cc)
silence_sent tick now false (response ∷ more) time is =
    let same : response.tick + 65 ≡ tick = cc in
    ap (λ (b : Bool). if b then (response.tick + 65) ∷ [] else (now + 15) ∷ []) (lt-ltb response.tick (now + 15) (omega (arith, same, time))) ∙ is

abbrev wait_with : Standing → List ℕ → List ℕ
wait_with s sent = waiting (is_abort_frame s.frame) sent (responses_in s)

frame_denied : (one : Judging) (answer : Answer) → one.place ≤ answer.frames → list_all (is_before_failing one) (denied_at answer ∷ []) ≡ true
frame_denied one answer place = ap (λ (b : Bool). b && true) (or_right (nat_lt one.tick answer.tick) (nat_le one.place answer.frames) (le-leb one.place answer.frames place))

wait_denied : (tick : ℕ) (answer : Answer) → tick ≤ answer.tick → list_all (waits_before_failing tick) (denied_at answer ∷ []) ≡ true
wait_denied tick answer time = ap (λ (b : Bool). b && true) (by (nat_lt tick answer.tick) refl)
  where
    by : (b : Bool) → nat_lt tick answer.tick ≡ b → (nat_lt tick answer.tick || (tick == answer.tick)) ≡ true
    by true is = or_left (nat_lt tick answer.tick) (tick == answer.tick) is
    by false is = or_right (nat_lt tick answer.tick) (tick == answer.tick) (eq-eqb tick answer.tick (let more = ltb-false tick answer.tick is in omega (arith, more, time)))

pub frame_answered : (s : Standing) (answer : Answer) (now count : ℕ) (leaving : Leaving) → answer.tick ≡ now → count ≤ answer.frames → EndedByFrame s now count leaving
    → EndedByFrame (with_answer s answer) now count leaving
frame_answered s answer now count leaving tick_is frames e = by (answer_does s answer)
  where
    ended : (sent : List ℕ) (fails : List Failing) → sent_in (with_answer s answer) ≡ sent → failing_in (with_answer s answer) ≡ fails → list_all (nat_lt e.one.tick) (wait_with s sent) ≡ true
        → list_all (is_before_failing e.one) fails ≡ true → EndedByFrame (with_answer s answer) now count leaving
    ended sent fails sent_is fails_is waits stands = record {
      paid = e.paid;
      one = e.one;
      brings = e.brings;
      first = e.first;
      by_now = e.by_now;
      judged = e.judged;
      waits = ap (λ (l : List ℕ). list_all (nat_lt e.one.tick) (wait_with s l)) sent_is ∙ waits;
      stands = ap (λ (l : List Failing). list_all (is_before_failing e.one) l) fails_is ∙ stands;
    }

    unsent : sent_in s ≡ [] → list_all (nat_lt e.one.tick) (wait_with s []) ≡ true
    unsent none = ap (λ (l : List ℕ). list_all (nat_lt e.one.tick) (wait_with s l)) (sym none) ∙ e.waits

    by : AnswerDoes s (with_answer s answer) answer → EndedByFrame (with_answer s answer) now count leaving
    by (inl same) = ended (sent_in s) (failing_in s) same.sent same.failing e.waits e.stands
    by (inr (inl acks)) =
        ended (now ∷ []) [] (acks.sent ∙ ap (λ (n : ℕ). n ∷ []) tick_is) acks.failing
        (waits_sent e.one now (is_abort_frame s.frame) (responses_in s) e.by_now (unsent acks.unsent)) refl
    by (inr (inr denies)) =
        ended [] (denied_at answer ∷ []) denies.still_unsent denies.failing (unsent denies.unsent)
        (frame_denied e.one answer (let place = e.judged in omega (arith, place, frames)))

pub silence_answered : (s : Standing) (answer : Answer) (now : ℕ) (leaving : Leaving) → answer.tick ≡ now → EndedInSilence s now leaving → EndedInSilence (with_answer s answer) now leaving
silence_answered s answer now leaving tick_is e = by (answer_does s answer)
  where
    ended : (sent : List ℕ) (fails : List Failing) → sent_in (with_answer s answer) ≡ sent → failing_in (with_answer s answer) ≡ fails → wait_with s sent ≡ e.tick ∷ []
        → list_all (waits_before_failing e.tick) fails ≡ true → EndedInSilence (with_answer s answer) now leaving
    ended sent fails sent_is fails_is wait stands = record {
      tick = e.tick;
      owed = e.owed;
      nothing = e.nothing;
      wait = ap (λ (l : List ℕ). wait_with s l) sent_is ∙ wait;
      by_now = e.by_now;
      late = e.late;
      stands = ap (λ (l : List Failing). list_all (waits_before_failing e.tick) l) fails_is ∙ stands;
    }

    unsent : sent_in s ≡ [] → wait_with s [] ≡ e.tick ∷ []
    unsent none = ap (λ (l : List ℕ). wait_with s l) (sym none) ∙ e.wait

    by : AnswerDoes s (with_answer s answer) answer → EndedInSilence (with_answer s answer) now leaving
    by (inl same) = ended (sent_in s) (failing_in s) same.sent same.failing e.wait e.stands
    by (inr (inl acks)) =
        ended (now ∷ []) [] (acks.sent ∙ ap (λ (n : ℕ). n ∷ []) tick_is) acks.failing
        (silence_sent e.tick now (is_abort_frame s.frame) (responses_in s) e.by_now (unsent acks.unsent)) refl
    by (inr (inr denies)) =
        ended [] (denied_at answer ∷ []) denies.still_unsent denies.failing (unsent denies.unsent)
        (wait_denied e.tick answer (let by_now = e.by_now in omega (arith, by_now, tick_is)))

-- of a frame that was given up no answer counts any more
given_up_counted : (s : Standing) (answer : Answer) (now count : ℕ) → answer.tick ≡ now → WasGivenUp s now count → counted (with_answer s answer) ≡ counted s
given_up_counted s answer now count tick_is (four, inl denied) = by (nat_lt answer.tick (s.last + 15)) refl
  where
    is_four : (s.copies == 4) ≡ true
    is_four = four_is s.copies four

    by : (b : Bool) → nat_lt answer.tick (s.last + 15) ≡ b → counted (with_answer s answer) ≡ counted s
    by b is =
        counted_more s answer b is_four is ∙ first_stays (in_time s) (if b then answer ∷ [] else []) denied.answer (sym (counted_four s is_four) ∙ denied.first) ∙ sym denied.first
given_up_counted s answer now count tick_is (four, inr ignored) =
    let is_four : (s.copies == 4) ≡ true = four_is s.copies four in
    let by_now = ignored.by_now in
    counted_more s answer false is_four (le-ltb answer.tick (s.last + 15) (omega (arith, by_now, tick_is)))
    ∙ ap (λ (l : List Answer). take 1 l) (append-nil (in_time s)) ∙ sym (counted_four s is_four)

pub given_up_answered : (s : Standing) (answer : Answer) (now count : ℕ) → answer.tick ≡ now → WasGivenUp s now count → WasGivenUp (with_answer s answer) now count
given_up_answered s answer now count tick_is (four, inl denied) = (
  four,
  inl (record {
    answer = denied.answer;
    first = given_up_counted s answer now count tick_is (four, inl denied) ∙ denied.first;
    denies = denied.denies;
    by_now = denied.by_now;
    judged = denied.judged;
  }),
)
given_up_answered s answer now count tick_is (four, inr ignored) =
    (four, inr (record { none = given_up_counted s answer now count tick_is (four, inr ignored) ∙ ignored.none; by_now = ignored.by_now }))

pub line_answered : (s : Standing) (answer : Answer) (now count : ℕ) (leaving : Leaving) → answer.tick ≡ now → EndedByLine s now count leaving → EndedByLine (with_answer s answer) now count leaving
line_answered s answer now count leaving tick_is e =
    let same = same_counted s answer (given_up_counted s answer now count tick_is e.given_up) in record {
      paid = e.paid;
      nothing = e.nothing;
      given_up = given_up_answered s answer now count tick_is e.given_up;
      no_frame = ap (λ (l : List Failing). list_any (λ one. list_all (is_before_failing one) l) (first_ending s)) same.failing ∙ e.no_frame;
      no_wait = ap (λ (l : List ℕ). list_any (λ wait. list_all (waits_before_failing wait) (failing_in (with_answer s answer))) (wait_with s l)) same.sent
          ∙ ap (λ (l : List Failing). list_any (λ wait. list_all (waits_before_failing wait) l) (wait_in s)) same.failing ∙ e.no_wait;
    }

pub sent_answered : (s : Standing) (answer : Answer) (now : ℕ) → WasSent s now → WasSent (with_answer s answer) now
sent_answered s answer now was = by (answer_does s answer)
  where
    bad : sent_in s ≡ [] → ⊥
    bad none = let no : [] ≡ was.tick ∷ [] = sym none ∙ was.sent in cc

    by : AnswerDoes s (with_answer s answer) answer → WasSent (with_answer s answer) now
    by (inl same) = record { tick = was.tick; sent = same.sent ∙ was.sent; by_now = was.by_now }
    by (inr (inl acks)) = absurd (bad acks.unsent)
    by (inr (inr denies)) = absurd (bad denies.unsent)

pub ended_answered : (s : Standing) (answer : Answer) (now count : ℕ) (leaving : Leaving) → answer.tick ≡ now → count ≤ answer.frames → HasEnded s now count leaving
    → HasEnded (with_answer s answer) now count leaving
ended_answered s answer now count leaving tick_is frames (inl e) = inl (frame_answered s answer now count leaving tick_is frames e)
ended_answered s answer now count leaving tick_is frames (inr (inl e)) = inr (inl (silence_answered s answer now leaving tick_is e))
ended_answered s answer now count leaving tick_is frames (inr (inr (inl e))) = inr (inr (inl (line_answered s answer now count leaving tick_is e)))
ended_answered s answer now count leaving tick_is frames (inr (inr (inr e))) = inr (inr (inr (record { paid = e.paid; nothing = e.nothing; abort = e.abort; sent = sent_answered s answer now e.sent })))

-- ---- a frame is judged

waits_judged : (one next : Judging) (abort : Bool) (sent : List ℕ) (responses : List Judging) (responds : Bool) → one.tick ≤ next.tick → list_all (nat_lt one.tick) (waiting abort sent responses) ≡ true
    → list_all (nat_lt one.tick) (waiting abort sent (responses ++ (if responds then next ∷ [] else []))) ≡ true
waits_judged one next true sent responses responds time is = refl
waits_judged one next false [] [] true time is = ap (λ (b : Bool). b && true) (lt-ltb one.tick (next.tick + 65) (omega (arith, time)))
waits_judged one next false [] [] false time is = refl
waits_judged one next false [] (response ∷ more) responds time is = is
waits_judged one next false (tick ∷ ticks) [] true time is = by (nat_lt next.tick (tick + 15))
  where
    by : (b : Bool) → list_all (nat_lt one.tick) (if b then (next.tick + 65) ∷ [] else (tick + 15) ∷ []) ≡ true
    by true = ap (λ (b : Bool). b && true) (lt-ltb one.tick (next.tick + 65) (omega (arith, time)))
    by false = is
waits_judged one next false (tick ∷ ticks) [] false time is = is
waits_judged one next false (tick ∷ ticks) (response ∷ more) responds time is = is

silence_kept : (end : ℕ) (next : Judging) (abort : Bool) (sent : List ℕ) (responses : List Judging) (responds : Bool) → end ≤ next.tick → waiting abort sent responses ≡ end ∷ []
    → waiting abort sent (responses ++ (if responds then next ∷ [] else [])) ≡ end ∷ []
silence_kept end next true sent responses responds time is = is
silence_kept end next false [] [] responds time is = absurd (let bad : [] ≡ end ∷ [] = is in cc)
silence_kept end next false [] (response ∷ more) responds time is = is
silence_kept end next false (tick ∷ ticks) [] true time is =
    let same : tick + 15 ≡ end = cc in
    ap (λ (b : Bool). if b then (next.tick + 65) ∷ [] else (tick + 15) ∷ []) (le-ltb next.tick (tick + 15) (omega (arith, same, time))) ∙ is
silence_kept end next false (tick ∷ ticks) [] false time is = is
silence_kept end next false (tick ∷ ticks) (response ∷ more) responds time is = is

-- where the line gives it up, once it has
pub record GaveUp (s : Standing) (now count : ℕ) : Type 0 where
  pub fails : Failing
  pub failing : failing_in s ≡ fails ∷ []
  pub unsent : sent_in s ≡ []
  pub by_now : fails.tick ≤ now
  pub judged : fails.at_answer ≡ true → fails.frames ≤ count

pub denied_fails : (s : Standing) (now count : ℕ) → s.copies ≡ 4 → (denied : WasDenied s now count) → failing_in s ≡ denied_at denied.answer ∷ []
denied_fails s now count four denied =
    failing_four s (four_is s.copies four)
    (ap (λ (l : List Answer). take 1 (ticks_sent l)) denied.first ∙ ap (λ (l : List ℕ). take 1 l) (ticks_one denied.answer false denied.denies))
    ∙ ap (λ (l : List Answer). failing_by l s.last ∷ []) denied.first

pub ignored_fails : (s : Standing) (now : ℕ) → s.copies ≡ 4 → WasIgnored s now → failing_in s ≡ record { tick = s.last + 15; at_answer = false; frames = 0 } ∷ []
ignored_fails s now four ignored =
    failing_four s (four_is s.copies four) (ap (λ (l : List Answer). take 1 (ticks_sent l)) ignored.none) ∙ ap (λ (l : List Answer). failing_by l s.last ∷ []) ignored.none

pub gave_up : (s : Standing) (now count : ℕ) → WasGivenUp s now count → GaveUp s now count
gave_up s now count (four, inl denied) =
    let unsent : sent_in s ≡ [] = ap (λ (l : List Answer). take 1 (ticks_sent l)) denied.first ∙ ap (λ (l : List ℕ). take 1 l) (ticks_one denied.answer false denied.denies) in record {
      fails = denied_at denied.answer;
      failing = denied_fails s now count four denied;
      unsent = unsent;
      by_now = denied.by_now;
      judged = λ at_answer. denied.judged;
    }
gave_up s now count (four, inr ignored) =
    let unsent : sent_in s ≡ [] = ap (λ (l : List Answer). take 1 (ticks_sent l)) ignored.none in record {
      fails = record { tick = s.last + 15; at_answer = false; frames = 0 };
      failing = ignored_fails s now four ignored;
      unsent = unsent;
      by_now = ignored.by_now;
      judged = λ at_answer. absurd (let bad : false ≡ true = at_answer in cc);
    }

too_late : (one : Judging) (fails : Failing) (count : ℕ) → fails.tick ≤ one.tick → (fails.at_answer ≡ true → fails.frames ≤ count) → one.place ≡ count + 1 → is_before_failing one fails ≡ false
too_late one fails count time judged place = or_from (nat_lt one.tick fails.tick) (fails.at_answer && nat_le one.place fails.frames) (le-ltb one.tick fails.tick time) (by fails.at_answer refl)
  where
    by : (b : Bool) → fails.at_answer ≡ b → (fails.at_answer && nat_le one.place fails.frames) ≡ false
    by true is = and_right fails.at_answer (nat_le one.place fails.frames) (lt-leb one.place fails.frames (let few = judged is in omega (arith, few, place)))
    by false is = and_left fails.at_answer (nat_le one.place fails.frames) is

-- a wait that ends later
pub wait_too_late : (wait : ℕ) (fails : Failing) → fails.tick < wait → waits_before_failing wait fails ≡ false
wait_too_late wait fails time =
    or_from (nat_lt wait fails.tick) (fails.at_answer && (wait == fails.tick)) (le-ltb wait fails.tick (omega (arith, time)))
    (and_right fails.at_answer (wait == fails.tick) (ne_eqb wait fails.tick (λ same. omega (arith, same, time))))

no_wait_judged : (next : Judging) (fails : Failing) (abort : Bool) (responses : List Judging) (responds : Bool) → fails.tick ≤ next.tick
    → list_any (λ wait. list_all (waits_before_failing wait) (fails ∷ [])) (waiting abort [] responses) ≡ false
    → list_any (λ wait. list_all (waits_before_failing wait) (fails ∷ [])) (waiting abort [] (responses ++ (if responds then next ∷ [] else []))) ≡ false
no_wait_judged next fails true responses responds time is = refl
no_wait_judged next fails false [] true time is = ap (λ (b : Bool). (b && true) || false) (wait_too_late (next.tick + 65) fails (omega (arith, time)))
no_wait_judged next fails false [] false time is = refl
no_wait_judged next fails false (response ∷ more) responds time is = is

pub given_up_judged : (s : Standing) (one : Judging) (now count : ℕ) → WasGivenUp s now count → WasGivenUp (with_judging s one) now (count + 1)
given_up_judged s one now count (four, inl denied) =
    let frames = denied.judged in
    (four, inl (record { answer = denied.answer; first = denied.first; denies = denied.denies; by_now = denied.by_now; judged = omega (arith, frames) }))
given_up_judged s one now count (four, inr ignored) = (four, inr (record { none = ignored.none; by_now = ignored.by_now }))

pub line_judged : (s : Standing) (one : Judging) (now count : ℕ) (leaving : Leaving) → one.tick ≡ now → one.place ≡ count + 1 → EndedByLine s now count leaving
    → EndedByLine (with_judging s one) now (count + 1) leaving
line_judged s one now count leaving tick_is place e = record { paid = e.paid; nothing = e.nothing; given_up = given_up_judged s one now count e.given_up; no_frame = no_frame (first_or_same s one); no_wait = no_wait }
  where
    gave : GaveUp s now count
    gave = gave_up s now count e.given_up

    time : gave.fails.tick ≤ one.tick
    time = let by_now = gave.by_now in omega (arith, by_now, tick_is)

    no_frame : (first_ending (with_judging s one) ≡ first_ending s) ⊎ IsFirstNow s one → list_any (λ each. list_all (is_before_failing each) (failing_in s)) (first_ending (with_judging s one)) ≡ false
    no_frame (inl same) = ap (λ (l : List Judging). list_any (λ each. list_all (is_before_failing each) (failing_in s)) l) same ∙ e.no_frame
    no_frame (inr first) =
        ap (λ (l : List Judging). list_any (λ each. list_all (is_before_failing each) (failing_in s)) l) first.now
        ∙ ap (λ (l : List Failing). list_all (is_before_failing one) l || false) gave.failing
        ∙ ap (λ (b : Bool). (b && true) || false) (too_late one gave.fails count time gave.judged place)

    before : list_any (λ wait. list_all (waits_before_failing wait) (gave.fails ∷ [])) (wait_with s []) ≡ false
    before =
        ap (λ (l : List ℕ). list_any (λ wait. list_all (waits_before_failing wait) (gave.fails ∷ [])) (wait_with s l)) (sym gave.unsent)
        ∙ ap (λ (l : List Failing). list_any (λ wait. list_all (waits_before_failing wait) l) (wait_in s)) (sym gave.failing) ∙ e.no_wait

    no_wait : list_any (λ wait. list_all (waits_before_failing wait) (failing_in s)) (wait_in (with_judging s one)) ≡ false
    no_wait =
        ap (λ (l : List Failing). list_any (λ wait. list_all (waits_before_failing wait) l) (wait_in (with_judging s one))) gave.failing
        ∙ ap (λ (l : List ℕ). list_any (λ wait. list_all (waits_before_failing wait) (gave.fails ∷ [])) (waiting (is_abort_frame s.frame) l (responses_in (with_judging s one)))) gave.unsent
        ∙ ap (λ (l : List Judging). list_any (λ wait. list_all (waits_before_failing wait) (gave.fails ∷ [])) (waiting (is_abort_frame s.frame) [] l)) (responses_judged s one)
        ∙ no_wait_judged one gave.fails (is_abort_frame s.frame) (responses_in s) (is_response_to s.frame one.unit) time before

pub wait_judged : (s : Standing) (one : Judging) → wait_in (with_judging s one) ≡ waiting (is_abort_frame s.frame) (sent_in s) (responses_in s ++ (if is_response_to s.frame one.unit then one ∷ [] else []))
wait_judged s one = ap (λ (l : List Judging). waiting (is_abort_frame s.frame) (sent_in s) l) (responses_judged s one)

pub frame_judged : (s : Standing) (one : Judging) (now count : ℕ) (leaving : Leaving) → one.tick ≡ now → EndedByFrame s now count leaving → EndedByFrame (with_judging s one) now (count + 1) leaving
frame_judged s one now count leaving tick_is e =
    let by_now = e.by_now in
    let place = e.judged in record {
      paid = e.paid;
      one = e.one;
      brings = e.brings;
      first = ending_kept s one e.one e.first;
      by_now = e.by_now;
      judged = omega (arith, place);
      waits = ap (λ (l : List ℕ). list_all (nat_lt e.one.tick) l) (wait_judged s one)
          ∙ waits_judged e.one one (is_abort_frame s.frame) (sent_in s) (responses_in s) (is_response_to s.frame one.unit) (omega (arith, by_now, tick_is)) e.waits;
      stands = e.stands;
    }

-- a response that is judged later is none that the wait began with
owed_judged : (s : Standing) (one : Judging) (tick : ℕ) → tick ≤ one.tick → is_owed (with_judging s one) tick ≡ is_owed s tick
owed_judged s one tick time =
    ap (λ (b : Bool). list_any is_sending (request_in s.frame) && b)
    (ap (λ (l : List Judging). list_any (λ each. each.tick + 65 == tick) l) (responses_judged s one) ∙ by (is_response_to s.frame one.unit) (responses_in s))
  where
    later : (one.tick + 65 == tick) ≡ false
    later = ne_eqb (one.tick + 65) tick (λ same. omega (arith, same, time))

    by : (responds : Bool) (some : List Judging)
        → list_any (λ (each : Judging). each.tick + 65 == tick) (some ++ (if responds then one ∷ [] else [])) ≡ list_any (λ (each : Judging). each.tick + 65 == tick) some
    by true [] = ap (λ (b : Bool). b || false) later
    by false [] = refl
    by responds (first ∷ more) = ap (λ (b : Bool). (first.tick + 65 == tick) || b) (by responds more)

pub silence_judged : (s : Standing) (one : Judging) (now : ℕ) (leaving : Leaving) → one.tick ≡ now → EndedInSilence s now leaving → EndedInSilence (with_judging s one) now leaving
silence_judged s one now leaving tick_is e =
    record {
      tick = e.tick;
      owed = e.owed ∙ sym (owed_judged s one e.tick time);
      nothing = e.nothing;
      wait = wait_judged s one ∙ silence_kept e.tick one (is_abort_frame s.frame) (sent_in s) (responses_in s) (is_response_to s.frame one.unit) time e.wait;
      by_now = e.by_now;
      late = late (first_or_same s one);
      stands = e.stands;
    }
  where
    time : e.tick ≤ one.tick
    time = let by_now = e.by_now in omega (arith, by_now, tick_is)

    late : (first_ending (with_judging s one) ≡ first_ending s) ⊎ IsFirstNow s one → list_all (λ each. nat_le e.tick each.tick) (first_ending (with_judging s one)) ≡ true
    late (inl same) = ap (λ (l : List Judging). list_all (λ each. nat_le e.tick each.tick) l) same ∙ e.late
    late (inr first) = ap (λ (l : List Judging). list_all (λ each. nat_le e.tick each.tick) l) first.now ∙ ap (λ (b : Bool). b && true) (le-leb e.tick one.tick time)

pub ended_judged : (s : Standing) (one : Judging) (now count : ℕ) (leaving : Leaving) → one.tick ≡ now → one.place ≡ count + 1 → HasEnded s now count leaving
    → HasEnded (with_judging s one) now (count + 1) leaving
ended_judged s one now count leaving tick_is place (inl e) = inl (frame_judged s one now count leaving tick_is e)
ended_judged s one now count leaving tick_is place (inr (inl e)) = inr (inl (silence_judged s one now leaving tick_is e))
ended_judged s one now count leaving tick_is place (inr (inr (inl e))) = inr (inr (inl (line_judged s one now count leaving tick_is place e)))
ended_judged s one now count leaving tick_is place (inr (inr (inr e))) =
    inr (inr (inr (record { paid = e.paid; nothing = e.nothing; abort = e.abort; sent = record { tick = e.sent.tick; sent = e.sent.sent; by_now = e.sent.by_now } })))

-- ---- a copy

-- nothing answers it yet
abbrev unanswered : Bool → List Answer
unanswered four = if four then [] else []

pub sent_copied : (s : Standing) (now : ℕ) → sent_in (with_copy s now) ≡ []
sent_copied s now = by (s.copies + 1 == 4)
  where
    by : (b : Bool) → take 1 (ticks_sent (unanswered b)) ≡ []
    by true = refl
    by false = refl

-- the fourth may fail 15 ticks later, and no other does
abbrev fails_in_time : ℕ → Failing
fails_in_time now = record { tick = now + 15; at_answer = false; frames = 0 }

abbrev fails_if : Bool → ℕ → List Failing
fails_if b now = if b && are_none (take 1 (ticks_sent (unanswered b))) then failing_by (unanswered b) now ∷ [] else []

copy_fails : (s : Standing) (now : ℕ) → (failing_in (with_copy s now) ≡ []) ⊎ (failing_in (with_copy s now) ≡ fails_in_time now ∷ [])
copy_fails s now = by (s.copies + 1 == 4)
  where
    by : (b : Bool) → (fails_if b now ≡ []) ⊎ (fails_if b now ≡ fails_in_time now ∷ [])
    by true = inr refl
    by false = inl refl

pub copy_stands : (s : Standing) (now : ℕ) (test : Failing → Bool) → test (fails_in_time now) ≡ true → list_all test (failing_in (with_copy s now)) ≡ true
copy_stands s now test is = by (copy_fails s now)
  where
    by : (failing_in (with_copy s now) ≡ []) ⊎ (failing_in (with_copy s now) ≡ fails_in_time now ∷ []) → list_all test (failing_in (with_copy s now)) ≡ true
    by (inl none) = ap (λ (l : List Failing). list_all test l) none
    by (inr one) = ap (λ (l : List Failing). list_all test l) one ∙ ap (λ (b : Bool). b && true) is

pub ended_copied : (s : Standing) (now count : ℕ) (leaving : Leaving) → s.copies ≤ 3 → sent_in s ≡ [] → HasEnded s now count leaving → HasEnded (with_copy s now) now count leaving
ended_copied s now count leaving few unsent ended = by ended
  where
    wait : wait_in (with_copy s now) ≡ wait_in s
    wait = ap (λ (l : List ℕ). wait_with s l) (sent_copied s now) ∙ ap (λ (l : List ℕ). wait_with s l) (sym unsent)

    by : HasEnded s now count leaving → HasEnded (with_copy s now) now count leaving
    by (inl e) =
        let by_now = e.by_now in
        inl (record {
          paid = e.paid;
          one = e.one;
          brings = e.brings;
          first = e.first;
          by_now = e.by_now;
          judged = e.judged;
          waits = ap (λ (l : List ℕ). list_all (nat_lt e.one.tick) l) wait ∙ e.waits;
          stands = copy_stands s now (is_before_failing e.one) (or_left (nat_lt e.one.tick (now + 15)) false (lt-ltb e.one.tick (now + 15) (omega (arith, by_now))));
        })
    by (inr (inl e)) =
        let by_now = e.by_now in
        inr (inl (record {
          tick = e.tick;
          owed = e.owed;
          nothing = e.nothing;
          wait = wait ∙ e.wait;
          by_now = e.by_now;
          late = e.late;
          stands = copy_stands s now (waits_before_failing e.tick) (or_left (nat_lt e.tick (now + 15)) false (lt-ltb e.tick (now + 15) (omega (arith, by_now))));
        }))
    by (inr (inr (inl e))) = absurd (let four = e.given_up.0 in omega (arith, four, few))
    by (inr (inr (inr e))) = absurd (let bad : [] ≡ e.sent.tick ∷ [] = sym unsent ∙ e.sent.sent in cc)
