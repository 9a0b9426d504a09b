-- Whether the last request has ended, and whether an abort is owed, by the transcript, is what the host holds.
use Rattle.std.proofs.Common.{◌≡◌, ◌⊎◌, ◌<◌, ℕ, ◌+◌, ◌==◌, ◌&&◌, ◌||◌, not, Bool, true, false, if◌then◌else◌, inl, inr, List, [], ◌∷◌, filter, take, refl, sym, ap, ◌∙◌, subst, arith}
use Rattle.std.specs.Prelude.{Option, Some, None, Result, Ok, Err, is_none, nat_le, nat_lt}
use Rattle.std.specs.List.{AllByRecursion, flat_map, list_all, list_any}
use Rattle.std.proofs.lemmas.Bool.{and_from, and_left, and_parts, and_right, le-leb, le-ltb, leb-true, lt-leb, ltb-true, or_parts}
use Rattle.serial_frame.specs.declared.unit.Unit.{Unit as LineUnit}
use Rattle.serial_link.specs.State.{IsBusy}
use Rattle.serial_link.specs.declared.turn.Turn.{Turn}
use Rattle.serial_link.specs.declared.turn.Turn.TheVariants.{Idle, Copied, Paused}
use Rattle.chip_functions.specs.declared.fault.BodyFault.{BodyFault}
use Rattle.chip_functions.specs.declared.request.Request.{Request}
use Rattle.chip_functions.specs.declared.request.Request.TheVariants.{GetNodeProtocolInfo}
use Rattle.chip_functions.specs.Request.{request_of as read_request}
use Rattle.proof_waking.specs.law_transcript.Units.{body_in, function_in, is_frame, read_well, request_in}
use Rattle.zw_text.specs.declared.entry.Entry.{Entry}
use Rattle.proof_waking.specs.law_time.Judged.{acknowledged, is_data}
use Rattle.proof_waking.specs.law_time.Requests.{Answer, Failing, Judging, are_none, asked, failing_by}
use Rattle.proof_waking.specs.law_time.Ends.{has_ended, is_abort, is_abort_frame, is_before_failing, is_sending, owes_abort, waits_before_failing}
use Rattle.host_requests.specs.declared.under_way.Progress.{Progress}
use Rattle.host_requests.specs.declared.under_way.Progress.TheVariants.{Submitted, Sent, Answered}
use Rattle.host_requests.specs.declared.under_way.UnderWay.{UnderWay}
use Rattle.proof_waking.specs.proof_alone.Steps.{AreFrames}
use Rattle.proof_requests.specs.Standing.{Standing, brought_of, counted, ending_in, failing_in, first_ending, giving_up_in, has_ended_in, owes_abort_in, responses_in, sent_in, silence_in, standing_of, ticks_sent, wait_in}
use Rattle.proof_requests.specs.Asking.{Leaving, AsProgress, Doing, EndedAsAbort, EndedByFrame, EndedByLine, EndedInSilence, HasEnded, IsUnderWay, TellsOfHost, TieAsked, TieLine, TieUnderWay, WasAsked}
use Rattle.proof_requests.proofs.Line.{counted_copied, counted_few, failing_few, failing_four, failing_sent, few_is, less_than_due, none_to_come}
use Rattle.proof_requests.proofs.Judging.{ending_kinds, or_false}
use Rattle.proof_requests.proofs.Ended.{gave_up, waiting}
use Rattle.proof_requests.proofs.OnLine.{paused_unsent}
use Rattle.proof_requests.proofs.UnderWay.{line_held, over_all, progress_over}

-- ---- tests

pub first_of_four : (a b c d : Bool) → a ≡ true → (a || b || c || d) ≡ true
first_of_four true b c d is = refl
first_of_four false b c d is = absurd (let bad : false ≡ true = is in cc)

pub second_of : (a b c d : Bool) → b ≡ true → (a || b || c || d) ≡ true
second_of true true c d is = refl
second_of false true c d is = refl
second_of a false c d is = absurd (let bad : false ≡ true = is in cc)

pub third_of : (a b c d : Bool) → c ≡ true → (a || b || c || d) ≡ true
third_of true true true d is = refl
third_of true false true d is = refl
third_of false true true d is = refl
third_of false false true d is = refl
third_of a b false d is = absurd (let bad : false ≡ true = is in cc)

pub last_of_four : (a b c d : Bool) → d ≡ true → (a || b || c || d) ≡ true
last_of_four true true true true is = refl
last_of_four true true false true is = refl
last_of_four true false true true is = refl
last_of_four true false false true is = refl
last_of_four false true true true is = refl
last_of_four false true false true is = refl
last_of_four false false true true is = refl
last_of_four false false false true is = refl
last_of_four a b c false is = absurd (let bad : false ≡ true = is in cc)

none_of_four : (a b c d : Bool) → a ≡ false → b ≡ false → c ≡ false → d ≡ false → (a || b || c || d) ≡ false
none_of_four false false false false a b c d = refl
none_of_four true b c d is so thus at_last = absurd (let bad : true ≡ false = is in cc)
none_of_four false true c d is so thus at_last = absurd (let bad : true ≡ false = so in cc)
none_of_four false false true d is so thus at_last = absurd (let bad : true ≡ false = thus in cc)
none_of_four false false false true is so thus at_last = absurd (let bad : true ≡ false = at_last in cc)

-- ---- by what was judged

abbrev counts : Standing → Judging → Bool
counts s one = list_all (nat_lt one.tick) (wait_in s) && list_all (is_before_failing one) (failing_in s)

-- where no first frame counts, none ends it
none_ends : (s : Standing) → ((one : Judging) → first_ending s ≡ one ∷ [] → counts s one ≡ false) → ending_in s ≡ []
none_ends s each = by (ending_kinds s.frame true s.judged)
  where
    by : (first_ending s ≡ []) ⊎ ((one : Judging) × (first_ending s ≡ one ∷ [])) → ending_in s ≡ []
    by (inl none) = ap (λ (l : List Judging). filter (counts s) l) none
    by (inr (one, is)) = ap (λ (l : List Judging). filter (counts s) l) is ∙ ap (λ (b : Bool). if b then one ∷ [] else []) (each one is)

-- where a frame ends it nothing is owed
no_silence : (s : Standing) → silence_in s ≡ [] → (now : ℕ) → owes_abort_in s now ≡ false
no_silence s none now =
    ap (λ (l : List ℕ). list_any is_sending (request_in s.frame) && list_any (λ tick. nat_le tick now && list_any (λ one. one.tick + 65 == tick) (responses_in s)) l) none
    ∙ and_right (list_any is_sending (request_in s.frame)) false refl

-- it has ended, and what is owed is owed
pub record IsOver (s : Standing) (now : ℕ) (leaving : Leaving) : Type 0 where
  pub ended : has_ended_in s now ≡ true
  pub owed : owes_abort_in s now ≡ leaving.owes
  pub brought : leaving.first ≡ brought_of (request_in s.frame) (ending_in s)

-- what ends it is that frame, that wait, or the line
pub frame_ending : (s : Standing) (now count : ℕ) (leaving : Leaving) (e : EndedByFrame s now count leaving) → ending_in s ≡ e.one ∷ []
frame_ending s now count leaving e =
    ap (λ (l : List Judging). filter (counts s) l) e.first
    ∙ ap (λ (b : Bool). if b then e.one ∷ [] else []) (and_from (list_all (nat_lt e.one.tick) (wait_in s)) (list_all (is_before_failing e.one) (failing_in s)) e.waits e.stands)

by_frame : (s : Standing) (now count : ℕ) (leaving : Leaving) → EndedByFrame s now count leaving → IsOver s now leaving
by_frame s now count leaving e =
    let ending = frame_ending s now count leaving e in
    let silence : silence_in s ≡ [] =
    ap (λ (l : List Judging). if are_none l then filter (λ wait. list_all (waits_before_failing wait) (failing_in s)) (wait_in s) else []) ending in record {
      ended = ap (λ (l : List Judging). not (are_none l) || list_any (λ tick. nat_le tick now) (silence_in s) || list_any (λ tick. nat_le tick now) (giving_up_in s)
          || (is_abort_frame s.frame && not (are_none (sent_in s)))) ending;
      owed = no_silence s silence now ∙ sym e.paid;
      brought = e.brings ∙ sym (ap (λ (l : List Judging). brought_of (request_in s.frame) l) ending);
    }

pub silence_ends_none : (s : Standing) (now : ℕ) (leaving : Leaving) (e : EndedInSilence s now leaving) → ending_in s ≡ []
silence_ends_none s now leaving e = none_ends s late
  where
    late : (one : Judging) → first_ending s ≡ one ∷ [] → counts s one ≡ false
    late one is =
        let after : (nat_le e.tick one.tick && true) ≡ true = ap (λ (l : List Judging). list_all (λ each. nat_le e.tick each.tick) l) (sym is) ∙ e.late in
        let time = leb-true e.tick one.tick (and_parts (nat_le e.tick one.tick) true after).0 in
        and_left (list_all (nat_lt one.tick) (wait_in s)) (list_all (is_before_failing one) (failing_in s))
        (ap (λ (l : List ℕ). list_all (nat_lt one.tick) l) e.wait ∙ ap (λ (b : Bool). b && true) (le-ltb one.tick e.tick time))

pub silence_is : (s : Standing) (now : ℕ) (leaving : Leaving) (e : EndedInSilence s now leaving) → silence_in s ≡ e.tick ∷ []
silence_is s now leaving e =
    ap (λ (l : List Judging). if are_none l then filter (λ wait. list_all (waits_before_failing wait) (failing_in s)) (wait_in s) else []) (silence_ends_none s now leaving e)
    ∙ ap (λ (l : List ℕ). filter (λ wait. list_all (waits_before_failing wait) (failing_in s)) l) e.wait
    ∙ ap (λ (b : Bool). if b then e.tick ∷ [] else []) e.stands

in_silence : (s : Standing) (now : ℕ) (leaving : Leaving) → EndedInSilence s now leaving → IsOver s now leaving
in_silence s now leaving e =
    let silence = silence_is s now leaving e in record {
      ended = second_of (not (are_none (ending_in s))) (list_any (λ tick. nat_le tick now) (silence_in s)) (list_any (λ tick. nat_le tick now) (giving_up_in s))
          (is_abort_frame s.frame && not (are_none (sent_in s)))
          (ap (λ (l : List ℕ). list_any (λ tick. nat_le tick now) l) silence ∙ ap (λ (b : Bool). b || false) (le-leb e.tick now e.by_now));
      owed = ap (λ (l : List ℕ). list_any is_sending (request_in s.frame) && list_any (λ tick. nat_le tick now && list_any (λ one. one.tick + 65 == tick) (responses_in s)) l) silence
          ∙ ap (λ (b : Bool). list_any is_sending (request_in s.frame) && ((b && list_any (λ one. one.tick + 65 == e.tick) (responses_in s)) || false)) (le-leb e.tick now e.by_now)
          ∙ ap (λ (b : Bool). list_any is_sending (request_in s.frame) && b) (or_false (list_any (λ one. one.tick + 65 == e.tick) (responses_in s)))
          ∙ sym e.owed;
      brought = e.nothing ∙ sym (ap (λ (l : List Judging). brought_of (request_in s.frame) l) (silence_ends_none s now leaving e));
    }

-- of waits that do not count none is left
none_left : (test : ℕ → Bool) (waits : List ℕ) → list_any test waits ≡ false → filter test waits ≡ []
none_left test [] none = refl
none_left test (wait ∷ waits) none =
    let parts = or_parts (test wait) (list_any test waits) none in
    ap (λ (b : Bool). if b then wait ∷ filter test waits else filter test waits) parts.0 ∙ none_left test waits parts.1

pub line_ends_none : (s : Standing) (now count : ℕ) (leaving : Leaving) → EndedByLine s now count leaving → ending_in s ≡ []
line_ends_none s now count leaving e = none_ends s early
  where
    early : (one : Judging) → first_ending s ≡ one ∷ [] → counts s one ≡ false
    early one is =
        let before : (list_all (is_before_failing one) (failing_in s) || false) ≡ false
        = ap (λ (l : List Judging). list_any (λ each. list_all (is_before_failing each) (failing_in s)) l) (sym is) ∙ e.no_frame in
        and_right (list_all (nat_lt one.tick) (wait_in s)) (list_all (is_before_failing one) (failing_in s)) (or_parts (list_all (is_before_failing one) (failing_in s)) false before).0

line_silent : (s : Standing) (now count : ℕ) (leaving : Leaving) → EndedByLine s now count leaving → silence_in s ≡ []
line_silent s now count leaving e =
    ap (λ (l : List Judging). if are_none l then filter (λ wait. list_all (waits_before_failing wait) (failing_in s)) (wait_in s) else []) (line_ends_none s now count leaving e)
    ∙ none_left (λ wait. list_all (waits_before_failing wait) (failing_in s)) (wait_in s) e.no_wait

-- the line gives it up then
pub line_gives : (s : Standing) (now count : ℕ) (leaving : Leaving) → EndedByLine s now count leaving → (fails : Failing) → failing_in s ≡ fails ∷ [] → giving_up_in s ≡ fails.tick ∷ []
line_gives s now count leaving e fails is =
    ap (λ (l : List Judging). if are_none l && are_none (silence_in s) then flat_map (λ one. one.tick ∷ []) (failing_in s) else []) (line_ends_none s now count leaving e)
    ∙ ap (λ (l : List ℕ). if are_none l then flat_map (λ one. one.tick ∷ []) (failing_in s) else []) (line_silent s now count leaving e)
    ∙ ap (λ (l : List Failing). flat_map (λ one. one.tick ∷ []) l) is

by_line : (s : Standing) (now count : ℕ) (leaving : Leaving) → EndedByLine s now count leaving → IsOver s now leaving
by_line s now count leaving e =
    let gave = gave_up s now count e.given_up in
    record {
      ended = third_of (not (are_none (ending_in s))) (list_any (λ tick. nat_le tick now) (silence_in s)) (list_any (λ tick. nat_le tick now) (giving_up_in s))
          (is_abort_frame s.frame && not (are_none (sent_in s)))
          (ap (λ (l : List ℕ). list_any (λ tick. nat_le tick now) l) (line_gives s now count leaving e gave.fails gave.failing) ∙ ap (λ (b : Bool). b || false) (le-leb gave.fails.tick now gave.by_now));
      owed = no_silence s (line_silent s now count leaving e) now ∙ sym e.paid;
      brought = e.nothing ∙ sym (ap (λ (l : List Judging). brought_of (request_in s.frame) l) (line_ends_none s now count leaving e));
    }

abbrev none_if : Bool → List ℕ
none_if b = if b then [] else []

none_either : (b : Bool) → none_if b ≡ []
none_either true = refl
none_either false = refl

-- an abort brings nothing
abort_brings : (q : Request) (ending : List Judging) → (is_abort q || false) ≡ true → brought_of (q ∷ []) ending ≡ None
abort_brings q [] is = refl
abort_brings (GetNodeProtocolInfo n) (one ∷ more) is = absurd (let bad : false ≡ true = is in cc)
abort_brings q (one ∷ more) is = refl

aborts_bring : (b : Bool) (read : Result Request BodyFault) (ending : List Judging) → list_any is_abort (if b then read_well read else []) ≡ true
    → None ≡ brought_of (if b then read_well read else []) ending
aborts_bring true (Ok q) ending is = sym (abort_brings q ending is)
aborts_bring true (Err fault) ending is = absurd (let bad : false ≡ true = is in cc)
aborts_bring false read ending is = absurd (let bad : false ≡ true = is in cc)

by_abort : (s : Standing) (now : ℕ) (leaving : Leaving) → EndedAsAbort s now leaving → IsOver s now leaving
by_abort s now leaving e = record {
  ended = last_of_four (not (are_none (ending_in s))) (list_any (λ tick. nat_le tick now) (silence_in s)) (list_any (λ tick. nat_le tick now) (giving_up_in s))
      (is_abort_frame s.frame && not (are_none (sent_in s)))
      (and_from (is_abort_frame s.frame) (not (are_none (sent_in s))) e.abort (ap (λ (l : List ℕ). not (are_none l)) e.sent.sent));
  owed = no_silence s silence now ∙ sym e.paid;
  brought = e.nothing ∙ aborts_bring (is_frame s.frame 0) (read_request (function_in s.frame) (body_in s.frame)) (ending_in s) e.abort;
}
  where
    unwaited : wait_in s ≡ []
    unwaited = ap (λ (b : Bool). waiting b (sent_in s) (responses_in s)) e.abort

    silence : silence_in s ≡ []
    silence = ap (λ (l : List ℕ). if are_none (ending_in s) then filter (λ wait. list_all (waits_before_failing wait) (failing_in s)) l else []) unwaited ∙ none_either (are_none (ending_in s))

pub over_so : (s : Standing) (now count : ℕ) (leaving : Leaving) → HasEnded s now count leaving → IsOver s now leaving
over_so s now count leaving (inl e) = by_frame s now count leaving e
over_so s now count leaving (inr (inl e)) = in_silence s now leaving e
over_so s now count leaving (inr (inr (inl e))) = by_line s now count leaving e
over_so s now count leaving (inr (inr (inr e))) = by_abort s now leaving e

-- ---- while it is under way, and no answer is to come

abbrev FailsLater : Standing → ℕ → Type 0
FailsLater s now = AllByRecursion (λ one. now < one.tick) (failing_in s)

-- its frame is on the line: it was not acknowledged, and the line gives it up later, if at all
record IsAlone (s : Standing) (now : ℕ) : Type 0 where
  unsent : sent_in s ≡ []
  later : FailsLater s now

alone : (s : Standing) (now count : ℕ) (came : List LineUnit) (turn : Turn) → AreFrames came → IsBusy turn → TieLine s now count came turn → IsAlone s now
alone s now count came Idle frames busy line = absurd busy
alone s now count came (Paused f copies ticks) frames busy line = record {
  unsent = paused_unsent s now count came f copies frames line;
  later = subst (AllByRecursion (λ one. now < one.tick)) (sym (failing_few s (few_is s.copies (let are = line.copies_are in let few = line.few in omega (arith, are, few))))) tt;
}
alone s now count came (Copied f copies ticks) frames busy line = by (s.copies == 4) refl
  where
    by : (b : Bool) → (s.copies == 4) ≡ b → IsAlone s now
    by true four =
        let none : counted s ≡ [] = counted_copied s now count came f copies ticks four line ∙ ap (λ (l : List Answer). take 1 l) (none_to_come now count came frames) in
        let unsent : sent_in s ≡ [] = ap (λ (l : List Answer). take 1 (ticks_sent l)) none in record {
          unsent = unsent;
          later = subst (AllByRecursion (λ one. now < one.tick)) (sym (failing_four s four unsent ∙ ap (λ (l : List Answer). failing_by l s.last ∷ []) none))
              (less_than_due s now count came f copies ticks line, tt);
        }
    by false few = record {
      unsent = ap (λ (l : List Answer). take 1 (ticks_sent l)) (counted_few s few ∙ line.answers ∙ none_to_come now count came frames);
      later = subst (AllByRecursion (λ one. now < one.tick)) (sym (failing_few s few)) tt;
    }

not_given : (now : ℕ) (fails : List Failing) (b : Bool) → AllByRecursion (λ one. now < one.tick) fails → list_any (λ tick. nat_le tick now) (if b then flat_map (λ one. one.tick ∷ []) fails else []) ≡ false
not_given now fails false all = refl
not_given now [] true all = refl
not_given now (one ∷ fails) true all = ap (λ (b : Bool). b || list_any (λ tick. nat_le tick now) (flat_map (λ one. one.tick ∷ []) fails)) (lt-leb one.tick now all.0) ∙ not_given now fails true all.1

pub not_silent : (now : ℕ) (test : ℕ → Bool) (waits : List ℕ) → list_all (nat_lt now) waits ≡ true → list_any (λ tick. nat_le tick now) (filter test waits) ≡ false
not_silent now test [] all = refl
not_silent now test (wait ∷ waits) all =
    let parts = and_parts (nat_lt now wait) (list_all (nat_lt now) waits) all in
    by (test wait) (lt-leb wait now (ltb-true now wait parts.0)) (not_silent now test waits parts.1)
  where
    by : (b : Bool) → nat_le wait now ≡ false → list_any (λ tick. nat_le tick now) (filter test waits) ≡ false
        → list_any (λ tick. nat_le tick now) (if b then wait ∷ filter test waits else filter test waits) ≡ false
    by true later rest = ap (λ (c : Bool). c || list_any (λ tick. nat_le tick now) (filter test waits)) later ∙ rest
    by false later rest = rest

-- what is left of the line, by how far it is
record IsOpen (s : Standing) (now : ℕ) : Type 0 where
  later : FailsLater s now
  unsent : (is_abort_frame s.frame && not (are_none (sent_in s))) ≡ false

open_so : (s : Standing) (now count : ℕ) (came : List LineUnit) (turn : Turn) (progress : Progress) → AreFrames came → TieLine s now count came turn → AsProgress s now turn progress → IsOpen s now
open_so s now count came turn Submitted frames line (busy, none) =
    let left = alone s now count came turn frames busy line in
    record { later = left.later; unsent = ap (λ (l : List ℕ). is_abort_frame s.frame && not (are_none l)) left.unsent ∙ and_right (is_abort_frame s.frame) false refl }
open_so s now count came turn (Sent left) frames line (idle, none, other, sent, sent_is, since, some) = record {
  later = subst (AllByRecursion (λ one. now < one.tick)) (sym (failing_sent s sent sent_is)) tt;
  unsent = and_left (is_abort_frame s.frame) (not (are_none (sent_in s))) other;
}
open_so s now count came turn (Answered true left) frames line (other, one, more, are, since, some, few, (idle, sent, sent_is, time)) = record {
  later = subst (AllByRecursion (λ one. now < one.tick)) (sym (failing_sent s sent sent_is)) tt;
  unsent = and_left (is_abort_frame s.frame) (not (are_none (sent_in s))) other;
}
open_so s now count came turn (Answered false left) frames line (other, one, more, are, since, some, few, busy) =
    let left = alone s now count came turn frames busy line in
    record { later = left.later; unsent = and_left (is_abort_frame s.frame) (not (are_none (sent_in s))) other }

pub not_over : (s : Standing) (now count : ℕ) (came : List LineUnit) (turn : Turn) (id : ℕ) (u : UnderWay) → AreFrames came → TieLine s now count came turn → IsUnderWay s now turn id u
    → has_ended_in s now ≡ false
not_over s now count came turn id u frames line is =
    let opened = open_so s now count came turn u.progress frames line is.progress in
    let ending : ending_in s ≡ [] = ap (λ (l : List Judging). filter (counts s) l) is.unended in
    let over = over_all now now (is_abort_frame s.frame) (sent_in s) (responses_in s) refl (progress_over s now count turn u.progress (line_held s now count came turn line) is.progress) in
    let silent : list_any (λ tick. nat_le tick now) (silence_in s) ≡ false =
    ap (λ (l : List Judging). list_any (λ tick. nat_le tick now) (if are_none l then filter (λ wait. list_all (waits_before_failing wait) (failing_in s)) (wait_in s) else [])) ending
    ∙ not_silent now (λ wait. list_all (waits_before_failing wait) (failing_in s)) (wait_in s) over in
    none_of_four (not (are_none (ending_in s))) (list_any (λ tick. nat_le tick now) (silence_in s)) (list_any (λ tick. nat_le tick now) (giving_up_in s))
    (is_abort_frame s.frame && not (are_none (sent_in s)))
    (ap (λ (l : List Judging). not (are_none l)) ending) silent (not_given now (failing_in s) (are_none (ending_in s) && are_none (silence_in s)) opened.later) opened.unsent

-- ---- of a host

pub told_of_host : (past : List Entry) (now : ℕ) (came : List LineUnit) (d : Doing) → TieAsked past now now came d → TellsOfHost past now came d
told_of_host past now came d (inl none) = record {
  ended = λ was frames. absurd (nothing_asked was);
  owed = λ was idle. absurd (nothing_asked was);
}
  where
    nothing_asked : WasAsked past → ⊥
    nothing_asked was = let bad : false ≡ true = ap is_data (sym none.unasked) ∙ was.framed in cc
told_of_host past now came d (inr (was, asks)) = record { ended = λ other frames. ended_so d.under_way asks.under_way frames; owed = λ other idle. owed_so d.under_way idle asks.under_way }
  where
    ended_so : (o : Option UnderWay) → TieUnderWay (standing_of (asked past)) now now (acknowledged past) d.turn d.id d.leaving o → AreFrames came → has_ended (asked past) now ≡ is_none o
    ended_so None ended frames = (over_so (standing_of (asked past)) now (acknowledged past) d.leaving ended).ended
    ended_so (Some u) (is, paid) frames = not_over (standing_of (asked past)) now (acknowledged past) came d.turn d.id u frames asks.line is

    owed_so : (o : Option UnderWay) → o ≡ None → TieUnderWay (standing_of (asked past)) now now (acknowledged past) d.turn d.id d.leaving o → owes_abort (asked past) now ≡ d.leaving.owes
    owed_so None idle ended = (over_so (standing_of (asked past)) now (acknowledged past) d.leaving ended).owed
    owed_so (Some u) idle is = absurd (let bad : Some u ≡ None = idle in cc)
