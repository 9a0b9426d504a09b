-- Where the request of an attempt ends in the host it ends by its transcript, and badly there just where it is bad for the attempt in the host.
use Rattle.std.proofs.Common.{◌≡◌, ℕ, ◌==◌, ◌&&◌, ◌||◌, nat_le, nat_lt, not, Bool, true, false, if◌then◌else◌, List, [], ◌∷◌, ◌++◌, refl, sym, ap, ap₂, ◌∙◌, append-nil, arith}
use Rattle.std.specs.Prelude.{filter, slice_index}
use Rattle.std.specs.List.{AllByRecursion, flat_map, list_all, list_any}
use Rattle.std.proofs.lemmas.Bool.{and_parts, eqb-true, le-leb, or_left, or_right}
use Rattle.serial_frame.specs.Frame.{FrameParts}
use Rattle.serial_frame.specs.Items.{unit_text}
use Rattle.serial_frame.specs.declared.unit.TheConstants.{ACK, SOF}
use Rattle.serial_frame.specs.declared.unit.Unit.{Unit as LineUnit}
use Rattle.serial_frame.specs.declared.unit.Unit.TheVariants.{Framed}
use Rattle.chip_functions.specs.declared.notice.Notice.{Notice}
use Rattle.chip_functions.specs.declared.notice.Notice.TheVariants.{SendData as CalledBack}
use Rattle.chip_functions.specs.declared.notice.TransmitStatus.{TransmitStatus}
use Rattle.chip_functions.specs.declared.notice.TransmitStatus.TheVariants.{CompleteOk, NoAck, Fail, NotIdle, NoRoute}
use Rattle.chip_functions.specs.declared.response.Response.{Response}
use Rattle.chip_functions.specs.Notice.{notice_of}
use Rattle.chip_functions.specs.Response.{response_of}
use Rattle.zw_words.specs.declared.side.Side.TheVariants.{Host}
use Rattle.zw_text.specs.declared.entry.Entry.{Entry}
use Rattle.zw_text.specs.declared.entry.Entry.TheVariants as entry
use Rattle.law_transcript.specs.Units.{body_in, function_in, is_frame, notice_in, read_well}
use Rattle.law_time.specs.Attempts.{ends_badly, is_bad}
use Rattle.law_time.specs.Ends.{ending, giving_up, is_answered_here, is_before_failing, is_ending_here, refuses, silence}
use Rattle.law_time.specs.Judged.{acknowledged, is_following, judged_here, notices_here, response_in}
use Rattle.law_time.specs.Moments.{clock}
use Rattle.law_time.specs.Requests.{Judging, are_none, asked, is_response_to}
use Rattle.host_requests.specs.declared.end.How.{How}
use Rattle.host_requests.specs.declared.end.How.TheVariants.{AtCallback, AtResponse, AtUpdate, Refused, Silent, LinkFailed, AbortSent}
use Rattle.host_requests.specs.declared.task.Purpose.TheVariants.{Attempt, Abort}
use Rattle.host_model.specs.Ends.{part_end}
use Rattle.proof_queue.specs.proof_attempts.proof_requests.Asking.{WasAsked}
use Rattle.proof_queue.specs.proof_attempts.proof_requests.Ends.{EndsHere, EndsHow}
use Rattle.proof_queue.specs.proof_attempts.proof_requests.Standing.{Standing, ending_in, ends_now, failing_in, first_ending, standing_of, wait_in, with_judging}
use Rattle.proof_queue.specs.proof_attempts.proof_requests.proof_alone.Steps.{IsOfUnit}
use Rattle.proof_queue.specs.proof_attempts.proof_requests.proof_waking.Judged.{TieFrames}
use Rattle.proof_queue.proofs.proof_requests_EndsHere.{frame_here}
use Rattle.proof_queue.proofs.proof_requests_Judging.{ending_judged}
use Rattle.proof_queue.proofs.proof_requests_Judging.{or_false}
use Rattle.proof_giving.specs.Tie.{is_bad_part}
use Rattle.proof_giving.proofs.Badly.{badly_in, by_ending, is_bad_end, last_true, mid_true}
use Rattle.proof_giving.proofs.Stays.{judged_stands, judging_of}

-- ---- by a time

any_by : (ticks : List ℕ) (now : ℕ) → list_any (λ tick. tick == now) ticks ≡ true → list_any (λ tick. nat_le tick now) ticks ≡ true
any_by [] now is = is
any_by (tick ∷ ticks) now is = by (tick == now) refl is (any_by ticks now)
  where
    by : (b : Bool) → (tick == now) ≡ b → (b || list_any (λ tick. tick == now) ticks) ≡ true → (list_any (λ tick. tick == now) ticks ≡ true → list_any (λ tick. nat_le tick now) ticks ≡ true)
        → (nat_le tick now || list_any (λ tick. nat_le tick now) ticks) ≡ true
    by true same is more = or_left (nat_le tick now) _ (le-leb tick now (let at = eqb-true tick now same in omega (arith, at)))
    by false same is more = or_right (nat_le tick now) _ (more is)

at_time : (ticks : List ℕ) (time now : ℕ) → time ≡ now → list_any (λ tick. tick == time) ticks ≡ true → list_any (λ tick. nat_le tick now) ticks ≡ true
at_time ticks time now same is = any_by ticks now (ap (λ (k : ℕ). list_any (λ tick. tick == k) ticks) (sym same) ∙ is)

module _ (inner : Bool) (past : List Entry) (now : ℕ) (time : clock past ≡ now) where
  pub silent_badly : list_any (λ tick. tick == clock past) (silence (asked past)) ≡ true → ends_badly (asked past) inner now ≡ true
  silent_badly is =
      mid_true (list_any (is_bad_end inner) (ending (asked past))) (list_any (λ tick. nat_le tick now) (silence (asked past))) (list_any (λ tick. nat_le tick now) (giving_up (asked past)))
      (at_time (silence (asked past)) (clock past) now time is)

  pub given_up_badly : list_any (λ tick. tick == clock past) (giving_up (asked past)) ≡ true → ends_badly (asked past) inner now ≡ true
  given_up_badly is =
      last_true (list_any (is_bad_end inner) (ending (asked past))) (list_any (λ tick. nat_le tick now) (silence (asked past))) (list_any (λ tick. nat_le tick now) (giving_up (asked past)))
      (at_time (giving_up (asked past)) (clock past) now time is)

-- ---- by a frame

-- one among at most one is that
only_one : (ends : Bool) (one : Judging) (test some : Judging → Bool) → list_any some (filter test (if ends then one ∷ [] else [])) ≡ true → filter test (if ends then one ∷ [] else []) ≡ one ∷ []
only_one false one test some is = absurd (let bad : false ≡ true = is in cc)
only_one true one test some is = by (test one) is
  where
    by : (b : Bool) → list_any some (if b then one ∷ [] else []) ≡ true → (if b then one ∷ [] else []) ≡ one ∷ []
    by true is = refl
    by false is = absurd (let bad : false ≡ true = is in cc)

-- a unit that is a notice is no response, and one that is a response is
no_response : (unit : List ℕ) (one : Notice) → notice_in unit ≡ one ∷ [] → is_frame unit 1 ≡ false
no_response unit one is = by (is_frame unit 0) refl is
  where
    by : (b : Bool) → is_frame unit 0 ≡ b → (if b then read_well (notice_of (function_in unit) (body_in unit)) else []) ≡ one ∷ [] → is_frame unit 1 ≡ false
    by true of_chip is =
        let parts = and_parts (slice_index unit 0 == SOF) (slice_index unit 2 == 0) of_chip in
        ap₂ (λ (a : Bool) (k : ℕ). a && (k == 1)) parts.0 (eqb-true (slice_index unit 2) 0 parts.1)
    by false of_chip is = absurd (let bad : ◌≡◌ {A = List Notice} [] (one ∷ []) = is in cc)

is_response : (unit : List ℕ) → not (are_none (response_in unit)) ≡ true → is_frame unit 1 ≡ true
is_response unit some = by (is_frame unit 1) some
  where
    by : (b : Bool) → not (are_none (if b then read_well (response_of (function_in unit) (body_in unit)) else [])) ≡ true → b ≡ true
    by true some = refl
    by false some = absurd (let bad : false ≡ true = some in cc)

-- a callback is bad for an attempt just where it is for its host
bad_status : (more : Bool) (id : ℕ) (status : TransmitStatus) → is_bad more (CalledBack id status) ≡ is_bad_part (part_end more (AtCallback status))
bad_status more id CompleteOk = refl
bad_status true id NoAck = refl
bad_status false id NoAck = refl
bad_status true id Fail = refl
bad_status false id Fail = refl
bad_status true id NotIdle = refl
bad_status false id NotIdle = refl
bad_status true id NoRoute = refl
bad_status false id NoRoute = refl

bad_else : (more : Bool) → is_bad_part (part_end more Refused) ≡ true
bad_else true = refl
bad_else false = refl

module _ (past marks : List Entry) (f : FrameParts) (rest : List LineUnit) (marked : AllByRecursion IsOfUnit marks) (frames : TieFrames past (Framed f ∷ rest)) (was : WasAsked past)
    (unended : first_ending (standing_of (asked past)) ≡ []) (now : ℕ) where
  abbrev later : List Entry
  later = past ++ entry.Written Host (ACK ∷ []) ∷ marks

  abbrev one : Judging
  one = judging_of past f

  abbrev t : Standing
  t = with_judging (standing_of (asked past)) one

  -- where a frame ends it there, it is this one
  ends_one : is_ending_here later ≡ true → ending_in t ≡ one ∷ []
  ends_one ends =
      let first : first_ending t ≡ (if ends_now (standing_of (asked past)) one then one ∷ [] else []) = ending_judged (standing_of (asked past)) one unended in
      let some : list_any (λ each. each.place == acknowledged later) (ending_in t) ≡ true
      = ap (λ (s : Standing). list_any (λ each. each.place == acknowledged later) (ending_in s)) (sym (judged_stands past f rest marks marked was frames))
      ∙ (and_parts (is_following later) (list_any (λ each. each.place == acknowledged later) (ending (asked later))) ends).1 in
      ap (λ (l : List Judging). filter (λ each. list_all (nat_lt each.tick) (wait_in t) && list_all (is_before_failing each) (failing_in t)) l) first
      ∙ only_one (ends_now (standing_of (asked past)) one) one (λ each. list_all (nat_lt each.tick) (wait_in t) && list_all (is_before_failing each) (failing_in t)) (λ each. each.place == acknowledged later)
      (ap (λ (l : List Judging). list_any (λ each. each.place == acknowledged later) (filter (λ each. list_all (nat_lt each.tick) (wait_in t) && list_all (is_before_failing each) (failing_in t)) l)) (sym first) ∙ some)

  ended_as : (inner : Bool) → is_ending_here later ≡ true → ends_badly (asked later) inner now ≡ is_bad_end inner one
  ended_as inner ends = ap (λ (s : Standing). badly_in inner s now) (judged_stands past f rest marks marked was frames) ∙ by_ending inner t now one (ends_one ends)

  here : judged_here later ≡ unit_text (Framed f) ∷ []
  here = frame_here past marks f rest marked frames

  -- a callback
  called : (more : Bool) (id : ℕ) (status : TransmitStatus) → notices_here later ≡ CalledBack id status ∷ [] → is_ending_here later ≡ true
      → ends_badly (asked later) more now ≡ is_bad_part (part_end more (AtCallback status))
  called more id status notices ends =
      let read : notice_in (unit_text (Framed f)) ≡ CalledBack id status ∷ []
      = sym (append-nil (notice_in (unit_text (Framed f)))) ∙ ap (λ (l : List (List ℕ)). flat_map notice_in l) (sym here) ∙ notices in
      ended_as more ends
      ∙ ap₂ (λ (b : Bool) (l : List Notice). b || list_any (is_bad more) l) (no_response (unit_text (Framed f)) (CalledBack id status) read) read
      ∙ or_false (is_bad more (CalledBack id status)) ∙ bad_status more id status

  -- a response
  answered : (inner : Bool) → is_answered_here later ≡ true → ends_badly (asked later) inner now ≡ true
  answered inner is =
      let parts = and_parts (list_any (is_response_to (asked later).frame) (judged_here later)) (is_ending_here later) is in
      let responds : is_response_to (asked later).frame (unit_text (Framed f)) ≡ true
      = sym (or_false (is_response_to (asked later).frame (unit_text (Framed f)))) ∙ ap (λ (l : List (List ℕ)). list_any (is_response_to (asked later).frame) l) (sym here) ∙ parts.0 in
      let response : is_frame (unit_text (Framed f)) 1 ≡ true
      = is_response (unit_text (Framed f)) (and_parts (function_in (unit_text (Framed f)) == function_in (asked later).frame) (not (are_none (response_in (unit_text (Framed f))))) responds).1 in
      ended_as inner parts.1 ∙ or_left (is_frame (unit_text (Framed f)) 1) _ response

  pub frame_badly : (n id : ℕ) (more : Bool) (payload : List ℕ) (how : How) → clock later ≡ now → EndsHere later id (Attempt n more payload) how
      → ends_badly (asked later) more now ≡ is_bad_part (part_end more how)
  frame_badly n id more payload how time e = by how e.so
    where
      by : (how : How) → EndsHow later id (Attempt n more payload) how → ends_badly (asked later) more now ≡ is_bad_part (part_end more how)
      by (AtCallback status) so = called more id status so.1 so.2
      by (AtResponse response) so = answered more so.3 ∙ sym (bad_response more response)
        where
          bad_response : (more : Bool) (response : Response) → is_bad_part (part_end more (AtResponse response)) ≡ true
          bad_response true response = refl
          bad_response false response = refl
      by (AtUpdate update first) so = absurd (let bad : false ≡ true = so.0 in cc)
      by Refused so = answered more (and_parts (list_any refuses (judged_here later)) (is_answered_here later) so.1).1 ∙ sym (bad_else more)
      by Silent so = silent_badly more later now time so ∙ sym (bad_silent more)
        where
          bad_silent : (more : Bool) → is_bad_part (part_end more Silent) ≡ true
          bad_silent true = refl
          bad_silent false = refl
      by LinkFailed so = given_up_badly more later now time so ∙ sym (bad_failed more)
        where
          bad_failed : (more : Bool) → is_bad_part (part_end more LinkFailed) ≡ true
          bad_failed true = refl
          bad_failed false = refl
      by AbortSent so = absurd (let bad : Attempt n more payload ≡ Abort = so in cc)
