-- Once the last request has ended by its transcript, whether it has badly stays so, by each entry that goes on with it and later.
use Rattle.std.proofs.Common.{◌≡◌, ℕ, ◌+◌, ◌≤◌, ◌&&◌, if◌then◌else◌, Bool, true, false, inl, inr, length, List, [], ◌∷◌, ◌++◌, None, refl, sym, ap, ◌∙◌, subst, append_assoc, length-append, arith}
use Rattle.std.specs.List.{AllByRecursion}
use Rattle.zw_base.proofs.Each.{all-weaker}
use Rattle.serial_frame.specs.Frame.{FrameParts}
use Rattle.serial_frame.specs.Items.{unit_text}
use Rattle.serial_frame.specs.declared.unit.TheConstants.{ACK}
use Rattle.serial_frame.specs.declared.unit.Unit.{Unit as LineUnit}
use Rattle.serial_frame.specs.declared.unit.Unit.TheVariants.{Framed}
use Rattle.zw_words.specs.declared.side.Side.TheVariants.{Host, Chip}
use Rattle.zw_text.specs.declared.entry.Refusal.{Refusal}
use Rattle.zw_text.specs.declared.entry.Entry.{Entry}
use Rattle.zw_text.specs.declared.entry.Entry.TheVariants as entry
use Rattle.zw_text.specs.Transcript.{line_of}
use Rattle.law_transcript.specs.Restarts.{is_restart}
use Rattle.law_time.specs.Attempts.{ends_badly}
use Rattle.law_time.specs.Ends.{is_abort_frame}
use Rattle.law_time.specs.Judged.{acknowledged, frames_come, is_data, judged, last_of}
use Rattle.law_time.specs.Moments.{clock}
use Rattle.law_time.specs.Requests.{Answer, Asked, Judging, asked, is_answer, up_to_first}
use Rattle.proof_queue.specs.proof_attempts.proof_requests.Asking.{Doing, TieAsked, TieUnderWay, WasAsked}
use Rattle.proof_queue.specs.proof_attempts.proof_requests.Standing.{IsAside, Standing, standing_of, with_answer, with_entries, with_judging}
use Rattle.proof_queue.specs.proof_attempts.proof_requests.proof_alone.Steps.{ChangesFrame, DidNotCome, IsOfUnit}
use Rattle.proof_queue.specs.proof_attempts.proof_requests.proof_waking.Judged.{TieFrames, frames_of}
use Rattle.proof_queue.proofs.proof_requests_Growing.{asked_in_vain, asked_on, asked_said}
use Rattle.proof_queue.proofs.proof_requests_Standing.{come_at, stands_answered, stands_aside, stands_judged, stands_lost}
use Rattle.proof_queue.proofs.proof_requests_Telling.{IsQuiet, mark_quiet, quiet_asides, quiet_on}
use Rattle.proof_queue.proofs.proof_waking_Apart.{acknowledged_frames}
use Rattle.proof_giving.specs.Told.{LeavesAttempts}
use Rattle.proof_giving.specs.Tie.{IsOver}
use Rattle.proof_giving.proofs.Badly.{badly_answered, badly_in, badly_judged, badly_later}

pub over_of : (past : List Entry) (line_now now : ℕ) (came : List LineUnit) (d : Doing) → TieAsked past line_now now came d → d.under_way ≡ None → is_data (asked past).frame ≡ true → IsOver past line_now d
over_of past line_now now came d (inl nothing) none framed = absurd (let bad : false ≡ true = sym (ap is_data nothing.unasked) ∙ framed in cc)
over_of past line_now now came d (inr (was, asks)) none framed =
    record { was = was; ended = subst (TieUnderWay (standing_of (asked past)) line_now now (acknowledged past) d.turn d.id d.leaving) none asks.under_way }

-- how it stands once a frame of the chip is acknowledged
abbrev pub judging_of : List Entry → FrameParts → Judging
judging_of past f = record { unit = unit_text (Framed f); tick = clock past; place = acknowledged past + 1 }

pub judged_stands : (past : List Entry) (f : FrameParts) (rest : List LineUnit) (marks : List Entry) → AllByRecursion IsOfUnit marks → WasAsked past → TieFrames past (Framed f ∷ rest)
    → standing_of (asked (past ++ entry.Written Host (ACK ∷ []) ∷ marks)) ≡ with_judging (standing_of (asked past)) (judging_of past f)
judged_stands past f rest marks marked was frames =
    let acked : List Entry = past ++ entry.Written Host (ACK ∷ []) ∷ [] in
    let last = (acknowledged_frames past (Framed f ∷ rest) rest (unit_text (Framed f)) (ACK ∷ []) refl refl frames).last in
    let on : asked acked ≡ with_entries (asked past) (entry.Written Host (ACK ∷ []) ∷ []) = asked_on past (entry.Written Host (ACK ∷ []) ∷ []) refl (refl, tt) in
    let quiet : AllByRecursion IsQuiet marks = all-weaker IsOfUnit IsQuiet mark_quiet marks marked in
    ap (λ (l : List Entry). standing_of (asked l)) (sym (append_assoc past (entry.Written Host (ACK ∷ []) ∷ []) marks))
    ∙ ap standing_of (quiet_on acked marks quiet)
    ∙ stands_aside (asked acked) marks (ap (λ (a : Asked). is_data a.frame) on ∙ was.framed) (quiet_asides marks quiet)
    ∙ ap standing_of on
    ∙ stands_judged (asked past) (unit_text (Framed f)) was.framed (ap (λ (l : List Entry). last_of (judged (l ++ entry.Written Host (ACK ∷ []) ∷ []))) was.whole ∙ last)
    ∙ ap (λ (l : List Entry). with_judging (standing_of (asked past)) (record { unit = unit_text (Framed f); tick = clock l; place = acknowledged l + 1 })) was.whole

-- a unit of the chip that was lost, or changed, is nothing to it
pub record IsMissed (past : List Entry) (text : List ℕ) (marks : List Entry) : Type 0 where
  pub on : asked (past ++ entry.Written Chip text ∷ marks) ≡ with_entries (asked past) (entry.Written Chip text ∷ marks)
  pub leaves : AllByRecursion LeavesAttempts marks
  pub stands : is_data (asked past).frame ≡ true → standing_of (with_entries (asked past) (entry.Written Chip text ∷ marks)) ≡ standing_of (asked past)

never_answers : (answers : Bool) (answer : Answer) → ((if answers && false then answer ∷ [] else []) ++ []) ≡ []
never_answers true answer = refl
never_answers false answer = refl

pub missed_lost : (past : List Entry) (text : List ℕ) (marks : List Entry) → DidNotCome marks → ChangesFrame text marks → IsMissed past text marks
missed_lost past text (entry.Dropped Chip ∷ []) did changes = record {
  on = asked_on past (entry.Written Chip text ∷ (entry.Dropped Chip ∷ [])) refl (tt, (tt, tt));
  leaves = (tt, tt);
  stands = λ framed. stands_lost (asked past) (entry.Written Chip text ∷ (entry.Dropped Chip ∷ [])) framed (tt, (tt, tt)) refl (never_answers (is_answer text) (come_at (up_to_first (asked past) ++ (asked past).following) text)) refl;
}
missed_lost past text (entry.Overrun Chip ∷ []) did changes = record {
  on = asked_on past (entry.Written Chip text ∷ (entry.Overrun Chip ∷ [])) refl (tt, (tt, tt));
  leaves = (tt, tt);
  stands = λ framed. stands_lost (asked past) (entry.Written Chip text ∷ (entry.Overrun Chip ∷ [])) framed (tt, (tt, tt)) refl (never_answers (is_answer text) (come_at (up_to_first (asked past) ++ (asked past).following) text)) refl;
}
missed_lost past text (entry.Garbled Chip unit ∷ []) did changes = record {
  on = asked_on past (entry.Written Chip text ∷ (entry.Garbled Chip unit ∷ [])) refl (tt, (tt, tt));
  leaves = (tt, tt);
  stands = λ framed. stands_aside (asked past) (entry.Written Chip text ∷ (entry.Garbled Chip unit ∷ [])) framed (changes.0, (tt, tt));
}
missed_lost past text (entry.Garbled Chip unit ∷ entry.Overrun Chip ∷ []) did changes = record {
  on = asked_on past (entry.Written Chip text ∷ (entry.Garbled Chip unit ∷ (entry.Overrun Chip ∷ []))) refl (tt, (tt, (tt, tt)));
  leaves = (tt, (tt, tt));
  stands = λ framed.
      stands_lost (asked past) (entry.Written Chip text ∷ (entry.Garbled Chip unit ∷ (entry.Overrun Chip ∷ []))) framed (tt, (tt, (tt, tt))) refl
      (ap (λ (b : Bool). (if b && true then come_at (up_to_first (asked past) ++ (asked past).following) text ∷ [] else []) ++ []) changes.0) refl;
}
missed_lost past text marks did changes = absurd did

module _ (inner : Bool) (past : List Entry) (now : ℕ) where
  abbrev Stays : List Entry → Type 0
  Stays told = ends_badly (asked (past ++ told)) inner now ≡ ends_badly (asked past) inner now

  -- ---- entries that its rules do not look at

  pub stays_on : (told : List Entry) → is_data (asked past).frame ≡ true → asked (past ++ told) ≡ with_entries (asked past) told → AllByRecursion IsAside told → Stays told
  stays_on told framed on all = ap (λ (a : Asked). ends_badly a inner now) on ∙ ap (λ (s : Standing). badly_in inner s now) (stands_aside (asked past) told framed all)

  pub stays_quiet : (told : List Entry) → is_data (asked past).frame ≡ true → AllByRecursion IsQuiet told → Stays told
  stays_quiet told framed all = stays_on told framed (quiet_on past told all) (quiet_asides told all)

  pub stays_said : (words : List ℕ) → is_data (asked past).frame ≡ true → is_restart (line_of (entry.Said words)) ≡ false → Stays (entry.Said words ∷ [])
  stays_said words framed goes_on = stays_on (entry.Said words ∷ []) framed (asked_said past words goes_on) (tt, tt)

  pub stays_in_vain : (words : List ℕ) (refusal : Refusal) → is_data (asked past).frame ≡ true → Stays (entry.Said words ∷ (entry.Refused refusal ∷ []))
  stays_in_vain words refusal framed = stays_on (entry.Said words ∷ (entry.Refused refusal ∷ [])) framed (asked_in_vain past words refusal) (tt, (tt, tt))

  -- ---- once it has ended

  module _ (d : Doing) (over : IsOver past now d) (frame : is_abort_frame (asked past).frame ≡ false) where
    pub stays_later : (later : ℕ) → now ≤ later → ends_badly (asked past) inner later ≡ ends_badly (asked past) inner now
    stays_later later time = badly_later inner (standing_of (asked past)) now later (acknowledged past) d.leaving frame time over.ended

    -- an answer of the chip
    pub stays_answered : (unit : List ℕ) (came : List LineUnit) → is_answer unit ≡ true → clock past ≡ now → TieFrames past came → Stays (entry.Written Chip unit ∷ [])
    stays_answered unit came answers time frames =
        let told : List Entry = entry.Written Chip unit ∷ [] in
        let answer : Answer = record { unit = unit; tick = clock past; frames = length (frames_come past) } in
        let all = ap length frames.come ∙ length-append frames.done (frames_of came) in
        let count = frames.count in
        ap (λ (a : Asked). ends_badly a inner now) (asked_on past told refl (tt, tt))
        ∙ ap (λ (s : Standing). badly_in inner s now)
        (stands_answered (asked past) unit over.was.framed answers
        ∙ ap (λ (l : List Entry). with_answer (standing_of (asked past)) (record { unit = unit; tick = clock l; frames = length (frames_come l) })) over.was.whole)
        ∙ badly_answered inner (standing_of (asked past)) answer now (acknowledged past) d.leaving frame time (omega (arith, all, count)) over.ended

    -- a frame of the chip is acknowledged
    pub stays_judged : (f : FrameParts) (rest : List LineUnit) (marks : List Entry) → AllByRecursion IsOfUnit marks → clock past ≡ now → TieFrames past (Framed f ∷ rest)
        → Stays (entry.Written Host (ACK ∷ []) ∷ marks)
    stays_judged f rest marks marked time frames =
        ap (λ (s : Standing). badly_in inner s now) (judged_stands past f rest marks marked over.was frames)
        ∙ badly_judged inner (standing_of (asked past)) (judging_of past f) now (acknowledged past) d.leaving frame time refl over.ended
