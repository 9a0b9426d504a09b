-- Whether the last request has ended badly, by how it stands: once it has ended that stays, later, after an answer of the chip, after a frame that is judged, and after a copy.
use Rattle.std.proofs.Common.{◌≡◌, ℕ, ◌+◌, ◌≤◌, ◌&&◌, ◌||◌, nat_le, nat_lt, Bool, true, false, if◌then◌else◌, inl, inr, List, [], ◌∷◌, refl, sym, ap, ap₂, ◌∙◌, arith}
use Rattle.std.specs.List.{flat_map, list_all, list_any}
use Rattle.std.specs.Prelude.{filter}
use Rattle.std.proofs.lemmas.Bool.{both_ways, le-leb, lt-ltb, or_left}
use Rattle.law_transcript.specs.Units.{is_frame, notice_in}
use Rattle.law_time.specs.Attempts.{ends_badly, is_bad}
use Rattle.law_time.specs.Ends.{is_abort_frame, is_before_failing, wait_by, waits_before_failing}
use Rattle.law_time.specs.Requests.{Answer, Asked, Judging, are_none}
use Rattle.proof_queue.specs.proof_attempts.proof_requests.Asking.{EndedByFrame, EndedByLine, EndedInSilence, HasEnded, Leaving}
use Rattle.proof_queue.specs.proof_attempts.proof_requests.Standing.{Standing, ending_in, failing_in, first_ending, giving_up_in, sent_in, responses_in, silence_in, standing_of, wait_in, with_answer, with_copy, with_judging}
use Rattle.proof_queue.proofs.proof_requests_Ended.{copy_stands, frame_answered, frame_judged, gave_up, given_up_later, line_answered, line_judged, sent_copied, silence_answered, silence_judged}
use Rattle.proof_queue.proofs.proof_requests_Judging.{ending_kept}
use Rattle.proof_queue.proofs.proof_attempts_Ending.{frame_ending, line_gives, silence_is}

pub last_true : (a b c : Bool) → c ≡ true → (a || b || c) ≡ true
last_true true b c is = refl
last_true false true c is = refl
last_true false false c is = is

pub mid_true : (a b c : Bool) → b ≡ true → (a || b || c) ≡ true
mid_true true b c is = refl
mid_true false true c is = refl
mid_true false false c is = absurd (let bad : false ≡ true = is in cc)

only_first : (a : Bool) → (a || false || false || false) ≡ a
only_first true = refl
only_first false = refl

-- of a request that carries a segment that others follow, or not
module _ (inner : Bool) where
  abbrev pub is_bad_end : Judging → Bool
  is_bad_end one = is_frame one.unit 1 || list_any (is_bad inner) (notice_in one.unit)

  abbrev pub badly_in : Standing → ℕ → Bool
  badly_in s now = list_any is_bad_end (ending_in s) || list_any (λ tick. nat_le tick now) (silence_in s) || list_any (λ tick. nat_le tick now) (giving_up_in s)

  pub badly_is : (a : Asked) (now : ℕ) → ends_badly a inner now ≡ badly_in (standing_of a) now
  badly_is a now = refl

  -- ---- by its end

  -- where a frame has ended it nothing else has
  pub by_ending : (s : Standing) (now : ℕ) (one : Judging) → ending_in s ≡ one ∷ [] → badly_in s now ≡ is_bad_end one
  by_ending s now one is =
      ap₂ (λ (a b : Bool). a || b)
      (ap₂ (λ (a b : Bool). a || b) (ap (λ (l : List Judging). list_any is_bad_end l) is) (ap (λ (l : List ℕ). list_any (λ tick. nat_le tick now) l) silent))
      (ap (λ (l : List ℕ). list_any (λ tick. nat_le tick now) l) given)
      ∙ only_first (is_bad_end one)
    where
      silent : silence_in s ≡ []
      silent = ap (λ (l : List Judging). if are_none l then filter (λ wait. list_all (waits_before_failing wait) (failing_in s)) (wait_in s) else []) is

      given : giving_up_in s ≡ []
      given = ap (λ (l : List Judging). if are_none l && are_none (silence_in s) then flat_map (λ fails. fails.tick ∷ []) (failing_in s) else []) is

  by_frame : (s : Standing) (now count : ℕ) (leaving : Leaving) (e : EndedByFrame s now count leaving) → badly_in s now ≡ is_bad_end e.one
  by_frame s now count leaving e = by_ending s now e.one (frame_ending s now count leaving e)

  by_wait : (s : Standing) (now : ℕ) (leaving : Leaving) (e : EndedInSilence s now leaving) → badly_in s now ≡ true
  by_wait s now leaving e =
      mid_true (list_any is_bad_end (ending_in s)) (list_any (λ tick. nat_le tick now) (silence_in s)) (list_any (λ tick. nat_le tick now) (giving_up_in s))
      (ap (λ (l : List ℕ). list_any (λ tick. nat_le tick now) l) (silence_is s now leaving e) ∙ or_left (nat_le e.tick now) false (le-leb e.tick now e.by_now))

  by_line : (s : Standing) (now count : ℕ) (leaving : Leaving) (e : EndedByLine s now count leaving) → badly_in s now ≡ true
  by_line s now count leaving e =
      let gave = gave_up s now count e.given_up in
      last_true (list_any is_bad_end (ending_in s)) (list_any (λ tick. nat_le tick now) (silence_in s)) (list_any (λ tick. nat_le tick now) (giving_up_in s))
      (ap (λ (l : List ℕ). list_any (λ tick. nat_le tick now) l) (line_gives s now count leaving e gave.fails gave.failing) ∙ or_left (nat_le gave.fails.tick now) false (le-leb gave.fails.tick now gave.by_now))

  -- ---- it stays

  same_first : (one other : Judging) (l : List Judging) → l ≡ one ∷ [] → l ≡ other ∷ [] → other ≡ one
  same_first one other l is also = let both : other ∷ [] ≡ one ∷ [] = sym also ∙ is in cc

  -- by the same frame, or by any other end
  same_frame : (s t : Standing) (now later count more : ℕ) (leaving : Leaving) (e : EndedByFrame s now count leaving) (after : EndedByFrame t later more leaving) → first_ending t ≡ e.one ∷ []
      → badly_in t later ≡ badly_in s now
  same_frame s t now later count more leaving e after first =
      by_frame t later more leaving after ∙ ap is_bad_end (same_first e.one after.one (first_ending t) first after.first) ∙ sym (by_frame s now count leaving e)

  frame_later : (s : Standing) (now later count : ℕ) (leaving : Leaving) → now ≤ later → EndedByFrame s now count leaving → EndedByFrame s later count leaving
  frame_later s now later count leaving time e = let by_now = e.by_now in record { paid = e.paid; one = e.one; brings = e.brings; first = e.first; by_now = omega (arith, by_now, time); judged = e.judged; waits = e.waits; stands = e.stands }

  wait_later : (s : Standing) (now later : ℕ) (leaving : Leaving) → now ≤ later → EndedInSilence s now leaving → EndedInSilence s later leaving
  wait_later s now later leaving time e = let by_now = e.by_now in record { tick = e.tick; owed = e.owed; nothing = e.nothing; wait = e.wait; by_now = omega (arith, by_now, time); late = e.late; stands = e.stands }

  line_later : (s : Standing) (now later count : ℕ) (leaving : Leaving) → now ≤ later → EndedByLine s now count leaving → EndedByLine s later count leaving
  line_later s now later count leaving time e =
      record { paid = e.paid; nothing = e.nothing; given_up = given_up_later s now later count count time (omega arith) e.given_up; no_frame = e.no_frame; no_wait = e.no_wait }

  pub badly_later : (s : Standing) (now later count : ℕ) (leaving : Leaving) → is_abort_frame s.frame ≡ false → now ≤ later → HasEnded s now count leaving → badly_in s later ≡ badly_in s now
  badly_later s now later count leaving other time (inl e) = same_frame s s now later count count leaving e (frame_later s now later count leaving time e) e.first
  badly_later s now later count leaving other time (inr (inl e)) = by_wait s later leaving (wait_later s now later leaving time e) ∙ sym (by_wait s now leaving e)
  badly_later s now later count leaving other time (inr (inr (inl e))) = by_line s later count leaving (line_later s now later count leaving time e) ∙ sym (by_line s now count leaving e)
  badly_later s now later count leaving other time (inr (inr (inr e))) = absurd (both_ways (is_abort_frame s.frame) other e.abort)

  pub badly_answered : (s : Standing) (answer : Answer) (now count : ℕ) (leaving : Leaving) → is_abort_frame s.frame ≡ false → answer.tick ≡ now → count ≤ answer.frames → HasEnded s now count leaving
      → badly_in (with_answer s answer) now ≡ badly_in s now
  badly_answered s answer now count leaving other tick frames (inl e) =
      same_frame s (with_answer s answer) now now count count leaving e (frame_answered s answer now count leaving tick frames e) e.first
  badly_answered s answer now count leaving other tick frames (inr (inl e)) = by_wait (with_answer s answer) now leaving (silence_answered s answer now leaving tick e) ∙ sym (by_wait s now leaving e)
  badly_answered s answer now count leaving other tick frames (inr (inr (inl e))) =
      by_line (with_answer s answer) now count leaving (line_answered s answer now count leaving tick e) ∙ sym (by_line s now count leaving e)
  badly_answered s answer now count leaving other tick frames (inr (inr (inr e))) = absurd (both_ways (is_abort_frame s.frame) other e.abort)

  pub badly_judged : (s : Standing) (one : Judging) (now count : ℕ) (leaving : Leaving) → is_abort_frame s.frame ≡ false → one.tick ≡ now → one.place ≡ count + 1 → HasEnded s now count leaving
      → badly_in (with_judging s one) now ≡ badly_in s now
  badly_judged s one now count leaving other tick place (inl e) =
      same_frame s (with_judging s one) now now count (count + 1) leaving e (frame_judged s one now count leaving tick e) (ending_kept s one e.one e.first)
  badly_judged s one now count leaving other tick place (inr (inl e)) = by_wait (with_judging s one) now leaving (silence_judged s one now leaving tick e) ∙ sym (by_wait s now leaving e)
  badly_judged s one now count leaving other tick place (inr (inr (inl e))) =
      by_line (with_judging s one) now (count + 1) leaving (line_judged s one now count leaving tick place e) ∙ sym (by_line s now count leaving e)
  badly_judged s one now count leaving other tick place (inr (inr (inr e))) = absurd (both_ways (is_abort_frame s.frame) other e.abort)

  -- a copy of one that was not acknowledged
  pub badly_copied : (s : Standing) (now count : ℕ) (leaving : Leaving) → is_abort_frame s.frame ≡ false → s.copies ≤ 3 → sent_in s ≡ [] → HasEnded s now count leaving
      → badly_in (with_copy s now) now ≡ badly_in s now
  badly_copied s now count leaving other few unsent ended = by ended
    where
      wait : wait_in (with_copy s now) ≡ wait_in s
      wait = ap (λ (l : List ℕ). if is_abort_frame s.frame then [] else wait_by l (responses_in s)) (sent_copied s now ∙ sym unsent)

      by : HasEnded s now count leaving → badly_in (with_copy s now) now ≡ badly_in s now
      by (inl e) =
          let by_now = e.by_now in
          same_frame s (with_copy s now) now now count count leaving e
          (record {
            paid = e.paid;
            one = e.one;
            brings = e.brings;
            first = e.first;
            by_now = e.by_now;
            judged = e.judged;
            waits = ap (λ (l : List ℕ). list_all (nat_lt e.one.tick) l) wait ∙ e.waits;
            stands = copy_stands s now (is_before_failing e.one) (or_left (nat_lt e.one.tick (now + 15)) false (lt-ltb e.one.tick (now + 15) (omega (arith, by_now))));
          }) e.first
      by (inr (inl e)) =
          let by_now = e.by_now in
          by_wait (with_copy s now) now leaving
          (record {
            tick = e.tick;
            owed = e.owed;
            nothing = e.nothing;
            wait = wait ∙ e.wait;
            by_now = e.by_now;
            late = e.late;
            stands = copy_stands s now (waits_before_failing e.tick) (or_left (nat_lt e.tick (now + 15)) false (lt-ltb e.tick (now + 15) (omega (arith, by_now))));
          }) ∙ sym (by_wait s now leaving e)
      by (inr (inr (inl e))) = absurd (let four = e.given_up.0 in omega (arith, four, few))
      by (inr (inr (inr e))) = absurd (both_ways (is_abort_frame s.frame) other e.abort)

  -- one that no frame has ended has ended badly
  pub unframed_badly : (s : Standing) (now count : ℕ) (leaving : Leaving) → is_abort_frame s.frame ≡ false → first_ending s ≡ [] → HasEnded s now count leaving → badly_in s now ≡ true
  unframed_badly s now count leaving other none (inl e) = absurd (let bad : [] ≡ e.one ∷ [] = sym none ∙ e.first in cc)
  unframed_badly s now count leaving other none (inr (inl e)) = by_wait s now leaving e
  unframed_badly s now count leaving other none (inr (inr (inl e))) = by_line s now count leaving e
  unframed_badly s now count leaving other none (inr (inr (inr e))) = absurd (both_ways (is_abort_frame s.frame) other e.abort)
