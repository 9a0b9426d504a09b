-- How the last request stays with entries that stand beside it; that an answer has had the line give it up stays too; where it has ended it is not by a frame, or it is an abort; and while it is
-- under way no answer that was judged has.
use Rattle.std.proofs.Common.{◌≡◌, ◌⊎◌, ℕ, ◌+◌, ◌==◌, ◌&&◌, ◌||◌, not, Bool, true, false, if◌then◌else◌, inl, inr, List, [], ◌∷◌, ◌++◌, filter, length, take, refl, sym, ap, ap₂, ◌∙◌, subst, arith}
use Rattle.std.specs.Prelude.{Some, None, nat_le, nat_lt, slice_index}
use Rattle.std.specs.List.{AllByRecursion, flat_map, list_all, list_any}
use Rattle.std.proofs.lemmas.Bool.{and_parts, and_right, both_ways, le-leb, lt-leb, or_left}
use Rattle.zw_base.proofs.Each.{all-weaker}
use Rattle.serial_frame.specs.declared.unit.Unit.{Unit as LineUnit}
use Rattle.serial_frame.specs.declared.unit.Unit.TheVariants.{Ack, Nak, Can, Framed}
use Rattle.serial_link.specs.State.{IsBusy}
use Rattle.serial_link.specs.declared.turn.Turn.{Turn}
use Rattle.serial_link.specs.declared.turn.Turn.TheVariants.{Idle, Copied, Paused}
use Rattle.zw_words.specs.declared.side.Side.TheVariants.{Chip}
use Rattle.zw_text.specs.declared.entry.Entry.{Entry}
use Rattle.zw_text.specs.declared.entry.Entry.TheVariants as entry
use Rattle.chip_functions.specs.Request.{request_of as read_request}
use Rattle.chip_functions.specs.declared.request.Request.{Request}
use Rattle.law_transcript.specs.Units.{body_in, function_in, read_well, request_in, sending_in, sending_of}
use Rattle.law_time.specs.Ends.{ending_among, is_abort, is_abort_frame, is_before_failing, wait_by, waits_before_failing}
use Rattle.law_time.specs.Judged.{acknowledged, frames_come, is_data}
use Rattle.law_time.specs.Moments.{clock}
use Rattle.law_time.specs.Requests.{Answer, Failing, Judging, are_none, asked, failing_by, is_answer, judged_since, request_last, up_to_first}
use Rattle.host_requests.specs.Frames.{request_of, task_request}
use Rattle.host_requests.specs.declared.task.Task.{Task}
use Rattle.host_requests.specs.declared.task.Task.TheVariants.{Plain}
use Rattle.host_requests.specs.declared.task.Purpose.{Purpose}
use Rattle.host_requests.specs.declared.task.Purpose.TheVariants.{Housekeeping, Attempt, Abort}
use Rattle.host_requests.specs.declared.under_way.Progress.{Progress}
use Rattle.host_requests.specs.declared.under_way.Progress.TheVariants.{Submitted, Sent, Answered}
use Rattle.host_requests.specs.declared.under_way.UnderWay.{UnderWay}
use Rattle.proof_hearing.specs.proof_queue.proof_attempts.proof_requests.Asking.{AsProgress, Doing, HasEnded, Leaving, TieAsked, TieLine, TieUnderWay, to_come}
use Rattle.proof_hearing.specs.proof_queue.proof_attempts.proof_requests.Effects.{IsSameLine}
use Rattle.proof_hearing.specs.proof_queue.proof_attempts.proof_requests.Standing.{IsAside, Standing, counted, failing_in, first_ending, giving_up_in, responses_in, sent_in, silence_in, standing_of, ticks_sent, with_answer, with_entries}
use Rattle.proof_hearing.specs.proof_queue.proof_attempts.proof_requests.law_host.Ticks.{is_denied}
use Rattle.proof_hearing.specs.proof_queue.proof_attempts.proof_requests.proof_alone.Steps.{AreFrames, ChangesFrame, DidNotCome}
use Rattle.proof_hearing.proofs.Line.{AreOf, are_to_come, counted_copied, counted_four, counted_more, failing_few, failing_four, failing_sent, few_is, first_or_none, first_stays, in_time, same_counted}
use Rattle.proof_hearing.proofs.Stays.{missed_lost}
use Rattle.proof_hearing.proofs.proof_requests_Telling.{IsQuiet, acknowledged_more, quiet_asides, quiet_on, quiet_uncounted, quiet_wordless}
use Rattle.proof_hearing.proofs.proof_waking_Apart.{IsWordless}
use Rattle.proof_hearing.proofs.proof_attempts_Ending.{line_gives, silence_is}
use Rattle.proof_hearing.proofs.proof_requests_Ended.{gave_up}
use Rattle.proof_hearing.proofs.proof_requests_Growing.{asked_on}
use Rattle.proof_hearing.proofs.proof_requests_Standing.{stands_answered, stands_aside}

-- ---- by how it stands

-- its frame is the same, and which frame of the chip ends it
pub record Stays (past later : List Entry) : Type 0 where
  pub frame : (asked later).frame ≡ (asked past).frame
  pub unended : ending_among (asked later).frame true (judged_since (asked later)) ≡ ending_among (asked past).frame true (judged_since (asked past))

-- an answer that has had the line give it up still has
abbrev pub StaysDenied : List Entry → List Entry → Type 0
StaysDenied past later = is_denied past ≡ true → is_denied later ≡ true

stands_same : (past later : List Entry) → standing_of (asked later) ≡ standing_of (asked past) → Stays past later
stands_same past later same = record {
  frame = ap (λ (s : Standing). s.frame) same;
  unended = ap (λ (s : Standing). ending_among s.frame true s.judged) same;
}

-- at an answer, behind which so many frames were judged
abbrev fails_by : ℕ → Failing → Bool
fails_by count one = one.at_answer && nat_le one.frames count

-- by when it was sent, and where it fails
abbrev denied_with : Standing → List ℕ → List Failing → ℕ → Bool
denied_with s sent fails count =
    let wait : List ℕ = if is_abort_frame s.frame then [] else wait_by sent (responses_in s) in
    let ending : List Judging = filter (λ one. list_all (nat_lt one.tick) wait && list_all (is_before_failing one) fails) (first_ending s) in
    let silence : List ℕ = if are_none ending then filter (λ tick. list_all (waits_before_failing tick) fails) wait else [] in
    not (are_none (if are_none ending && are_none silence then flat_map (λ one. one.tick ∷ []) fails else []))
    && list_any (fails_by count) fails

abbrev denied_in : Standing → ℕ → Bool
denied_in s count = denied_with s (sent_in s) (failing_in s) count

denied_is : (past : List Entry) → is_denied past ≡ denied_in (standing_of (asked past)) (acknowledged past)
denied_is past = refl

stands_denied : (past later : List Entry) → standing_of (asked later) ≡ standing_of (asked past) → acknowledged later ≡ acknowledged past → StaysDenied past later
stands_denied past later same counted is = denied_is later ∙ ap₂ (λ (s : Standing) (n : ℕ). denied_in s n) same counted ∙ sym (denied_is past) ∙ is

-- ---- entries that its rules do not look at

none_more : (n : ℕ) → n + 0 ≡ n
none_more n = omega arith

on_standing : (past told : List Entry) → is_data (asked past).frame ≡ true → asked (past ++ told) ≡ with_entries (asked past) told → AllByRecursion IsAside told
    → standing_of (asked (past ++ told)) ≡ standing_of (asked past)
on_standing past told framed on all = ap standing_of on ∙ stands_aside (asked past) told framed all

pub stays_on : (past told : List Entry) → is_data (asked past).frame ≡ true → asked (past ++ told) ≡ with_entries (asked past) told → AllByRecursion IsAside told → Stays past (past ++ told)
stays_on past told framed on all = stands_same past (past ++ told) (on_standing past told framed on all)

pub stays_quiet : (past told : List Entry) → is_data (asked past).frame ≡ true → AllByRecursion IsQuiet told → Stays past (past ++ told)
stays_quiet past told framed all = stays_on past told framed (quiet_on past told all) (quiet_asides told all)

pub denied_quiet : (past told : List Entry) → is_data (asked past).frame ≡ true → AllByRecursion IsQuiet told → StaysDenied past (past ++ told)
denied_quiet past told framed all =
    stands_denied past (past ++ told) (on_standing past told framed (quiet_on past told all) (quiet_asides told all))
    (acknowledged_more past told 0 (all-weaker IsQuiet IsWordless quiet_wordless told all) (ap length (quiet_uncounted told all)) ∙ none_more (acknowledged past))

-- ---- a unit of the chip that was lost, or changed

pub stays_missed : (past : List Entry) (text : List ℕ) (marks : List Entry) → is_data (asked past).frame ≡ true → DidNotCome marks → ChangesFrame text marks
    → Stays past (past ++ entry.Written Chip text ∷ marks)
stays_missed past text marks framed did changes =
    let missed = missed_lost past text marks did changes in
    stands_same past (past ++ entry.Written Chip text ∷ marks) (ap standing_of missed.on ∙ missed.stands framed)

missed_counted : (past : List Entry) (text : List ℕ) (marks : List Entry) → DidNotCome marks → acknowledged (past ++ entry.Written Chip text ∷ marks) ≡ acknowledged past
missed_counted past text (entry.Dropped Chip ∷ []) did =
    acknowledged_more past (entry.Written Chip text ∷ (entry.Dropped Chip ∷ [])) 0 (tt, (tt, tt)) refl ∙ none_more (acknowledged past)
missed_counted past text (entry.Overrun Chip ∷ []) did =
    acknowledged_more past (entry.Written Chip text ∷ (entry.Overrun Chip ∷ [])) 0 (tt, (tt, tt)) refl ∙ none_more (acknowledged past)
missed_counted past text (entry.Garbled Chip unit ∷ []) did =
    acknowledged_more past (entry.Written Chip text ∷ (entry.Garbled Chip unit ∷ [])) 0 (tt, (tt, tt)) refl ∙ none_more (acknowledged past)
missed_counted past text (entry.Garbled Chip unit ∷ entry.Overrun Chip ∷ []) did =
    acknowledged_more past (entry.Written Chip text ∷ (entry.Garbled Chip unit ∷ (entry.Overrun Chip ∷ []))) 0 (tt, (tt, (tt, tt))) refl ∙ none_more (acknowledged past)
missed_counted past text marks did = absurd did

pub denied_missed : (past : List Entry) (text : List ℕ) (marks : List Entry) → is_data (asked past).frame ≡ true → DidNotCome marks → ChangesFrame text marks
    → StaysDenied past (past ++ entry.Written Chip text ∷ marks)
denied_missed past text marks framed did changes =
    let missed = missed_lost past text marks did changes in
    stands_denied past (past ++ entry.Written Chip text ∷ marks) (ap standing_of missed.on ∙ missed.stands framed) (missed_counted past text marks did)

-- ---- an answer of the chip

some_any : {A : Type 0} (test : A → Bool) (l : List A) → l ≡ [] → list_any test l ≡ true → ⊥
some_any {A} test l none is = both_ways (list_any test l) (ap (λ (l : List A). list_any test l) none) is

-- of the answers to the fourth copy the first counts
denied_line : (s : Standing) (answer : Answer) (count : ℕ) → list_any (fails_by count) (failing_in s) ≡ true → IsSameLine s (with_answer s answer)
denied_line s answer count is = by (s.copies == 4) refl
  where
    first_counts : (s.copies == 4) ≡ true → (in_time s ≡ []) ⊎ ((first : Answer) × (take 1 (in_time s) ≡ first ∷ [])) → IsSameLine s (with_answer s answer)
    first_counts four (inr (first, one)) =
        same_counted s answer
        (counted_more s answer (nat_lt answer.tick (s.last + 15)) four refl
        ∙ first_stays (in_time s) (if nat_lt answer.tick (s.last + 15) then answer ∷ [] else []) first one ∙ sym (counted_four s four ∙ one))
    first_counts four (inl none) =
        let nothing : counted s ≡ [] = counted_four s four ∙ ap (λ (l : List Answer). take 1 l) none in
        let unsent : sent_in s ≡ [] = ap (λ (l : List Answer). take 1 (ticks_sent l)) nothing in
        let fails : failing_in s ≡ failing_by [] s.last ∷ [] = failing_four s four unsent ∙ ap (λ (l : List Answer). failing_by l s.last ∷ []) nothing in
        absurd (both_ways (list_any (fails_by count) (failing_in s)) (ap (λ (l : List Failing). list_any (fails_by count) l) fails) is)

    by : (b : Bool) → (s.copies == 4) ≡ b → IsSameLine s (with_answer s answer)
    by true four = first_counts four (first_or_none (in_time s))
    by false few = absurd (some_any (fails_by count) (failing_in s) (failing_few s few) is)

denied_answered : (s : Standing) (answer : Answer) (count : ℕ) → denied_in s count ≡ true → denied_in (with_answer s answer) count ≡ true
denied_answered s answer count is =
    let fails = (and_parts (not (are_none (giving_up_in s))) (list_any (fails_by count) (failing_in s)) is).1 in
    let line = denied_line s answer count fails in
    ap₂ (λ (sent : List ℕ) (l : List Failing). denied_with s sent l count) line.sent line.failing ∙ is

module _ (past : List Entry) (unit : List ℕ) (framed : is_data (asked past).frame ≡ true) (answers : is_answer unit ≡ true) where
  abbrev answer : Answer
  answer = record { unit = unit; tick = clock (up_to_first (asked past) ++ (asked past).following); frames = length (frames_come (up_to_first (asked past) ++ (asked past).following)) }

  answered_standing : standing_of (asked (past ++ entry.Written Chip unit ∷ [])) ≡ with_answer (standing_of (asked past)) answer
  answered_standing = ap standing_of (asked_on past (entry.Written Chip unit ∷ []) refl (tt, tt)) ∙ stands_answered (asked past) unit framed answers

  pub stays_answered : Stays past (past ++ entry.Written Chip unit ∷ [])
  stays_answered = record {
    frame = ap (λ (s : Standing). s.frame) answered_standing;
    unended = ap (λ (s : Standing). ending_among s.frame true s.judged) answered_standing;
  }

  pub denied_stays_answered : StaysDenied past (past ++ entry.Written Chip unit ∷ [])
  denied_stays_answered is =
      denied_is (past ++ entry.Written Chip unit ∷ [])
      ∙ ap₂ (λ (s : Standing) (n : ℕ). denied_in s n) answered_standing
      (acknowledged_more past (entry.Written Chip unit ∷ []) 0 (tt, tt) refl ∙ none_more (acknowledged past))
      ∙ denied_answered (standing_of (asked past)) answer (acknowledged past) (sym (denied_is past) ∙ is)

-- ---- it has ended, by no frame

pub data EndedLate (past : List Entry) (now : ℕ) : Type 0 where
  Given_up : list_any (λ tick. nat_le tick now) (giving_up_in (standing_of (asked past))) ≡ true → EndedLate past now
  In_silence : list_any (λ tick. nat_le tick now) (silence_in (standing_of (asked past))) ≡ true → EndedLate past now
  As_abort : is_abort_frame (asked past).frame ≡ true → EndedLate past now

ended_so : (past : List Entry) (now count : ℕ) (leaving : Leaving) → first_ending (standing_of (asked past)) ≡ [] → HasEnded (standing_of (asked past)) now count leaving → EndedLate past now
ended_so past now count leaving none (inl e) = absurd (let bad : [] ≡ e.one ∷ [] = sym none ∙ e.first in cc)
ended_so past now count leaving none (inr (inl e)) =
    In_silence (ap (λ (l : List ℕ). list_any (λ tick. nat_le tick now) l) (silence_is (standing_of (asked past)) now leaving e) ∙ or_left (nat_le e.tick now) false (le-leb e.tick now e.by_now))
ended_so past now count leaving none (inr (inr (inl e))) =
    let gave = gave_up (standing_of (asked past)) now count e.given_up in
    Given_up
    (ap (λ (l : List ℕ). list_any (λ tick. nat_le tick now) l) (line_gives (standing_of (asked past)) now count leaving e gave.fails gave.failing)
    ∙ or_left (nat_le gave.fails.tick now) false (le-leb gave.fails.tick now gave.by_now))
ended_so past now count leaving none (inr (inr (inr e))) = As_abort e.abort

-- where none is under way, after a request that is read
pub ended_late : (past : List Entry) (now : ℕ) (came : List LineUnit) (d : Doing) → is_data (asked past).frame ≡ true → TieAsked past now now came d → d.under_way ≡ None
    → ending_among (asked past).frame true (judged_since (asked past)) ≡ [] → EndedLate past now
ended_late past now came d framed (inl nothing) none unended = absurd (let bad : false ≡ true = sym (ap is_data nothing.unasked) ∙ framed in cc)
ended_late past now came d framed (inr (was, asks)) none unended =
    ended_so past now (acknowledged past) d.leaving unended (subst (TieUnderWay (standing_of (asked past)) now now (acknowledged past) d.turn d.id d.leaving) none asks.under_way)

-- ---- while it is under way

-- the unit that came first is no answer
abbrev pub IsFrameNext : List LineUnit → Type 0
IsFrameNext [] = Unit {0}
IsFrameNext (Framed f ∷ came) = Unit {0}
IsFrameNext (unit ∷ came) = ⊥

pub frames_next : (came : List LineUnit) → AreFrames came → IsFrameNext came
frames_next [] all = tt
frames_next (Framed f ∷ came) all = tt
frames_next (Ack ∷ came) all = absurd all.0
frames_next (Nak ∷ came) all = absurd all.0
frames_next (Can ∷ came) all = absurd all.0

module _ (s : Standing) (now count : ℕ) where
  first_later : (answers : List Answer) → AreOf now (count + 1) answers → list_any (fails_by count) (failing_by (take 1 answers) s.last ∷ []) ≡ false
  first_later [] all = refl
  first_later (answer ∷ answers) all =
      let more = all.0.1 in ap (λ (b : Bool). (true && b) || false) (lt-leb answer.frames count (omega (arith, more)))

  -- of those that came behind a frame each counts that frame
  came_later : (came : List LineUnit) → IsFrameNext came → list_any (fails_by count) (failing_by (take 1 (to_come now count came)) s.last ∷ []) ≡ false
  came_later [] next = refl
  came_later (Framed f ∷ came) next = first_later (to_come now (count + 1) came) (are_to_come now (count + 1) came)
  came_later (Ack ∷ came) next = absurd next
  came_later (Nak ∷ came) next = absurd next
  came_later (Can ∷ came) next = absurd next

  none_fails : failing_in s ≡ [] → list_any (fails_by count) (failing_in s) ≡ false
  none_fails none = ap (λ (l : List Failing). list_any (fails_by count) l) none

  busy_later : (came : List LineUnit) (turn : Turn) → IsFrameNext came → IsBusy turn → TieLine s now count came turn → list_any (fails_by count) (failing_in s) ≡ false
  busy_later came Idle next busy line = absurd busy
  busy_later came (Paused f copies ticks) next busy line =
      none_fails (failing_few s (few_is s.copies (let are = line.copies_are in let few = line.few in omega (arith, are, few))))
  busy_later came (Copied f copies ticks) next busy line = by (s.copies == 4) refl
    where
      four_fails : (s.copies == 4) ≡ true → (l : List ℕ) → sent_in s ≡ l → list_any (fails_by count) (failing_in s) ≡ false
      four_fails four (tick ∷ more) sent =
          none_fails (ap (λ (l : List ℕ). if (s.copies == 4) && are_none l then failing_by (counted s) s.last ∷ [] else []) sent ∙ neither (s.copies == 4))
        where
          neither : (b : Bool) → (if b && false then failing_by (counted s) s.last ∷ [] else []) ≡ []
          neither true = refl
          neither false = refl
      four_fails four [] unsent =
          ap (λ (l : List Failing). list_any (fails_by count) l)
          (failing_four s four unsent ∙ ap (λ (l : List Answer). failing_by l s.last ∷ []) (counted_copied s now count came f copies ticks four line))
          ∙ came_later came next

      by : (b : Bool) → (s.copies == 4) ≡ b → list_any (fails_by count) (failing_in s) ≡ false
      by true four = four_fails four (sent_in s) refl
      by false few = none_fails (failing_few s few)

  under_later : (came : List LineUnit) (turn : Turn) (progress : Progress) → IsFrameNext came → TieLine s now count came turn → AsProgress s now turn progress → list_any (fails_by count) (failing_in s) ≡ false
  under_later came turn Submitted next line progress = busy_later came turn next progress.0 line
  under_later came turn (Sent left) next line (idle, none, other, sent, sent_is, since, some) = none_fails (failing_sent s sent sent_is)
  under_later came turn (Answered true left) next line (other, one, more, are, since, some, few, (idle, sent, sent_is, time)) = none_fails (failing_sent s sent sent_is)
  under_later came turn (Answered false left) next line (other, one, more, are, since, some, few, busy) = busy_later came turn next busy line

pub undenied_under : (past : List Entry) (now : ℕ) (came : List LineUnit) (d : Doing) → IsFrameNext came → TieAsked past now now came d → (u : UnderWay) → d.under_way ≡ Some u → is_denied past ≡ false
undenied_under past now came d next (inl nothing) u is = absurd (let none = nothing.none in let bad : None ≡ Some u = sym none ∙ is in cc)
undenied_under past now came d next (inr (was, asks)) u is =
    let s : Standing = standing_of (asked past) in
    let under = subst (TieUnderWay s now now (acknowledged past) d.turn d.id d.leaving) is asks.under_way in
    denied_is past
    ∙ and_right (not (are_none (giving_up_in s))) (list_any (fails_by (acknowledged past)) (failing_in s))
    (under_later s now (acknowledged past) came d.turn u.progress next asks.line under.0.progress)

-- ---- by its purpose

no_abort : (task : Task) (id : ℕ) → is_abort (task_request task id) ≡ false
no_abort (Plain n payload) id = refl
no_abort task id = refl

pub abort_is : (p : Purpose) (id : ℕ) → is_abort (request_of p id) ≡ true → p ≡ Abort
abort_is (Housekeeping task) id is = absurd (both_ways (is_abort (task_request task id)) (no_abort task id) is)
abort_is (Attempt n more payload) id is = absurd (let bad : false ≡ true = is in cc)
abort_is Abort id is = refl

pub abort_purpose : (past : List Entry) (p : Purpose) (id : ℕ) → request_last past ≡ request_of p id ∷ [] → is_abort_frame (asked past).frame ≡ true → p ≡ Abort
abort_purpose past p id request is = abort_is p id (only (is_abort (request_of p id)) (sym (ap (λ (l : List Request). list_any is_abort l) request) ∙ is))
  where
    only : (b : Bool) → (b || false) ≡ true → b ≡ true
    only true so = refl
    only false so = so

-- an abort carries nothing
pub abort_sends : (past : List Entry) (id : ℕ) → request_last past ≡ request_of Abort id ∷ [] → sending_in (asked past).frame ≡ []
abort_sends past id request = ap (flat_map sending_of) request

-- one that is read is a frame
pub read_framed : (unit : List ℕ) (request : Request) → request_in unit ≡ request ∷ [] → is_data unit ≡ true
read_framed unit request is = by (is_data unit) refl
  where
    by : (b : Bool) → is_data unit ≡ b → is_data unit ≡ true
    by true same = same
    by false same =
        absurd (let none : request_in unit ≡ [] = ap (λ (b : Bool). if b && (slice_index unit 2 == 0) then read_well (read_request (function_in unit) (body_in unit)) else []) same in
        let bad : [] ≡ request ∷ [] = sym none ∙ is in cc)
