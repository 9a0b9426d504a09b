-- The host's side of the line goes on as the transcript tells: where a unit of the chip comes, where one is judged, at a tick, and where a frame is submitted.
use Rattle.std.proofs.Common.{◌≡◌, ◌≤◌, ◌<◌, ℕ, ◌+◌, ◌==◌, Bool, true, false, if◌then◌else◌, inl, inr, List, [], ◌∷◌, ◌++◌, take, refl, sym, ap, ◌∙◌, append_assoc, arith}
use Rattle.std.proofs.lemmas.Bool.{eqb-false, eqb-true}
use Rattle.zw_base.proofs.Each.{all-append}
use Rattle.serial_frame.specs.Frame.{FrameParts}
use Rattle.serial_frame.specs.Items.{unit_text}
use Rattle.serial_frame.specs.declared.unit.Unit.{Unit as LineUnit}
use Rattle.serial_frame.specs.declared.unit.Unit.TheVariants.{Ack, Nak, Can, Framed}
use Rattle.serial_link.specs.State.{IsBusy, pause_after, turn_refused, turn_ticked}
use Rattle.serial_link.specs.declared.turn.Turn.{Turn}
use Rattle.serial_link.specs.declared.turn.Turn.TheVariants.{Idle, Copied, Paused}
use Rattle.proof_waking.specs.law_time.Judged.{is_acknowledgement}
use Rattle.proof_waking.specs.law_time.Requests.{Answer, Judging}
use Rattle.proof_waking.specs.proof_alone.Steps.{AreFrames}
use Rattle.proof_requests.specs.Standing.{Prior, Standing, first_standing, sent_in, ticks_sent, with_answer, with_copy, with_judging}
use Rattle.proof_requests.specs.Asking.{IsCopied, IsPaused, TieLine, WasDenied, WasGivenUp, WasIgnored, WasSent, frames_among, to_come}
use Rattle.proof_requests.proofs.Line.{counted_copied, counted_few, few_is, four_is, none_to_come, ticks_more, ticks_none}
use Rattle.proof_requests.proofs.Ended.{given_up_answered, given_up_judged, given_up_later, sent_answered, sent_later}

-- ---- a unit comes

abbrev behind : ℕ → LineUnit → ℕ → Answer
behind now unit count = record { unit = unit_text unit; tick = now; frames = count }

frame_to_come : (now count : ℕ) (came : List LineUnit) (f : FrameParts) → to_come now count (came ++ Framed f ∷ []) ≡ to_come now count came
frame_to_come now count [] f = refl
frame_to_come now count (Framed g ∷ came) f = frame_to_come now (count + 1) came f
frame_to_come now count (Ack ∷ came) f = ap (λ (l : List Answer). behind now Ack count ∷ l) (frame_to_come now count came f)
frame_to_come now count (Nak ∷ came) f = ap (λ (l : List Answer). behind now Nak count ∷ l) (frame_to_come now count came f)
frame_to_come now count (Can ∷ came) f = ap (λ (l : List Answer). behind now Can count ∷ l) (frame_to_come now count came f)

pub line_frame_comes : (s : Standing) (now count : ℕ) (came : List LineUnit) (f : FrameParts) (turn : Turn) → TieLine s now count came turn → TieLine s now count (came ++ Framed f ∷ []) turn
line_frame_comes s now count came f Idle tie = tie
line_frame_comes s now count came f (Copied g copies ticks) tie =
    record { frame = tie.frame; copies_are = tie.copies_are; since = tie.since; answers = tie.answers ∙ sym (frame_to_come now count came f); early = tie.early; few = tie.few }
line_frame_comes s now count came f (Paused g copies ticks) tie = record {
  frame = tie.frame;
  copies_are = tie.copies_are;
  few = tie.few;
  gone = tie.gone;
  answers = tie.answers ∙ ap (λ (l : List Answer). tie.gone ++ l) (sym (frame_to_come now count came f));
  denied = tie.denied;
}

-- an answer: behind so many frames
abbrev pub IsAnswer : LineUnit → Type 0
IsAnswer (Framed f) = ⊥
IsAnswer unit = Unit {0}

abbrev pub coming : ℕ → ℕ → List LineUnit → LineUnit → Answer
coming now count came unit = behind now unit (count + frames_among came)

same_place : (now count more : ℕ) (unit : LineUnit) → behind now unit ((count + 1) + more) ≡ behind now unit (count + (1 + more))
same_place now count more unit =
    let same : (count + 1) + more ≡ count + (1 + more) = omega arith in
    ap (λ (n : ℕ). behind now unit n) same

no_more : (now count : ℕ) (unit : LineUnit) → behind now unit count ≡ behind now unit (count + 0)
no_more now count unit =
    let same : count ≡ count + 0 = omega arith in
    ap (λ (n : ℕ). behind now unit n) same

answer_to_come : (now count : ℕ) (came : List LineUnit) (unit : LineUnit) → IsAnswer unit → to_come now count (came ++ unit ∷ []) ≡ to_come now count came ++ coming now count came unit ∷ []
answer_to_come now count [] Ack is = ap (λ (a : Answer). a ∷ []) (no_more now count Ack)
answer_to_come now count [] Nak is = ap (λ (a : Answer). a ∷ []) (no_more now count Nak)
answer_to_come now count [] Can is = ap (λ (a : Answer). a ∷ []) (no_more now count Can)
answer_to_come now count [] (Framed f) is = absurd is
answer_to_come now count (Framed g ∷ came) unit is =
    answer_to_come now (count + 1) came unit is ∙ ap (λ (a : Answer). to_come now (count + 1) came ++ a ∷ []) (same_place now count (frames_among came) unit)
answer_to_come now count (Ack ∷ came) unit is = ap (λ (l : List Answer). behind now Ack count ∷ l) (answer_to_come now count came unit is)
answer_to_come now count (Nak ∷ came) unit is = ap (λ (l : List Answer). behind now Nak count ∷ l) (answer_to_come now count came unit is)
answer_to_come now count (Can ∷ came) unit is = ap (λ (l : List Answer). behind now Can count ∷ l) (answer_to_come now count came unit is)

pub line_answer_comes : (s : Standing) (now count : ℕ) (came : List LineUnit) (unit : LineUnit) (turn : Turn) → IsAnswer unit → TieLine s now count came turn
    → TieLine (with_answer s (coming now count came unit)) now count (came ++ unit ∷ []) turn
line_answer_comes s now count came unit Idle is (inl sent) = inl (sent_answered s (coming now count came unit) now sent)
line_answer_comes s now count came unit Idle is (inr given_up) = inr (given_up_answered s (coming now count came unit) now count refl given_up)
line_answer_comes s now count came unit (Copied g copies ticks) is tie = record {
  frame = tie.frame;
  copies_are = tie.copies_are;
  since = tie.since;
  answers = ap (λ (l : List Answer). l ++ coming now count came unit ∷ []) tie.answers ∙ sym (answer_to_come now count came unit is);
  early = tie.early;
  few = tie.few;
}
line_answer_comes s now count came unit (Paused g copies ticks) is tie = record {
  frame = tie.frame;
  copies_are = tie.copies_are;
  few = tie.few;
  gone = tie.gone;
  answers = ap (λ (l : List Answer). l ++ coming now count came unit ∷ []) tie.answers
      ∙ append_assoc tie.gone (to_come now count came) (coming now count came unit ∷ [])
      ∙ ap (λ (l : List Answer). tie.gone ++ l) (sym (answer_to_come now count came unit is));
  denied = tie.denied;
}

-- ---- one is judged

-- a frame leaves the line as it is
pub line_framed : (s : Standing) (one : Judging) (now count : ℕ) (rest : List LineUnit) (f : FrameParts) (turn : Turn) → TieLine s now count (Framed f ∷ rest) turn
    → TieLine (with_judging s one) now (count + 1) rest turn
line_framed s one now count rest f Idle (inl sent) = inl (record { tick = sent.tick; sent = sent.sent; by_now = sent.by_now })
line_framed s one now count rest f Idle (inr given_up) = inr (given_up_judged s one now count given_up)
line_framed s one now count rest f (Copied g copies ticks) tie =
    record { frame = tie.frame; copies_are = tie.copies_are; since = tie.since; answers = tie.answers; early = tie.early; few = tie.few }
line_framed s one now count rest f (Paused g copies ticks) tie =
    record { frame = tie.frame; copies_are = tie.copies_are; few = tie.few; gone = tie.gone; answers = tie.answers; denied = tie.denied }

-- an acknowledgement: the frame was sent
sent_now : (s : Standing) (now : ℕ) → sent_in s ≡ now ∷ [] → WasSent s now
sent_now s now is = record { tick = now; sent = is; by_now = omega arith }

-- while the frame is on it, it was acknowledged now
pub acknowledged_now : (s : Standing) (now count : ℕ) (rest : List LineUnit) (turn : Turn) → IsBusy turn → TieLine s now count (Ack ∷ rest) turn → sent_in s ≡ now ∷ []
acknowledged_now s now count rest Idle busy tie = absurd busy
acknowledged_now s now count rest (Copied f copies ticks) busy tie = by (s.copies == 4) refl
  where
    by : (b : Bool) → (s.copies == 4) ≡ b → sent_in s ≡ now ∷ []
    by true four = ap (λ (l : List Answer). take 1 (ticks_sent l)) (counted_copied s now count (Ack ∷ rest) f copies ticks four tie)
    by false few = ap (λ (l : List Answer). take 1 (ticks_sent l)) (counted_few s few ∙ tie.answers)
acknowledged_now s now count rest (Paused f copies ticks) busy tie =
    ap (λ (l : List Answer). take 1 (ticks_sent l)) (counted_few s (few_is s.copies (let are = tie.copies_are in let few = tie.few in omega (arith, are, few))) ∙ tie.answers)
    ∙ ap (λ (l : List ℕ). take 1 l) (ticks_more tie.gone (to_come now count (Ack ∷ rest)))
    ∙ ap (λ (l : List ℕ). take 1 (l ++ ticks_sent (to_come now count (Ack ∷ rest)))) (ticks_none tie.gone tie.denied)

pub line_acknowledged : (s : Standing) (now count : ℕ) (rest : List LineUnit) (turn : Turn) → TieLine s now count (Ack ∷ rest) turn → TieLine s now count rest Idle
line_acknowledged s now count rest Idle tie = tie
line_acknowledged s now count rest (Copied f copies ticks) tie = inl (sent_now s now (acknowledged_now s now count rest (Copied f copies ticks) tt tie))
line_acknowledged s now count rest (Paused f copies ticks) tie = inl (sent_now s now (acknowledged_now s now count rest (Paused f copies ticks) tt tie))

-- NAK and CAN end a copy: the fourth is given up, and a pause follows another
module _ (unit : LineUnit) (text : List ℕ) (denies : is_acknowledgement text ≡ false) where
  abbrev denial : ℕ → ℕ → Answer
  denial now count = record { unit = text; tick = now; frames = count }

  -- the fourth is given up, then and there
  pub was_denied : (s : Standing) (now count : ℕ) (rest : List LineUnit) (f : FrameParts) (copies ticks : ℕ) → to_come now count (unit ∷ rest) ≡ denial now count ∷ to_come now count rest
      → (copies == 4) ≡ true → IsCopied s now count (unit ∷ rest) f copies ticks → (s.copies ≡ 4) × (denied : WasDenied s now count) × (denied.answer.tick ≡ now)
  was_denied s now count rest f copies ticks first is tie =
      let four : s.copies ≡ 4 = tie.copies_are ∙ eqb-true copies 4 is in (
        four,
        record {
          answer = denial now count;
          first = counted_copied s now count (unit ∷ rest) f copies ticks (four_is s.copies four) tie ∙ ap (λ (l : List Answer). take 1 l) first;
          denies = denies;
          by_now = omega arith;
          judged = omega arith;
        },
        refl,
      )

  pub denied_four : (s : Standing) (now count : ℕ) (rest : List LineUnit) (f : FrameParts) (copies ticks : ℕ) → to_come now count (unit ∷ rest) ≡ denial now count ∷ to_come now count rest
      → (copies == 4) ≡ true → IsCopied s now count (unit ∷ rest) f copies ticks → WasGivenUp s now count
  denied_four s now count rest f copies ticks first is tie =
      let (four, denied, now_is) = was_denied s now count rest f copies ticks first is tie in (four, inl denied)

  pub line_denied : (s : Standing) (now count : ℕ) (rest : List LineUnit) (turn : Turn) → to_come now count (unit ∷ rest) ≡ denial now count ∷ to_come now count rest
      → TieLine s now count (unit ∷ rest) turn → TieLine s now count rest (turn_refused turn)
  line_denied s now count rest Idle first tie = tie
  line_denied s now count rest (Copied f copies ticks) first tie = by (copies == 4) refl
    where
      by : (b : Bool) → (copies == 4) ≡ b → TieLine s now count rest (if b then Idle else Paused f copies 0)
      by true is = inr (denied_four s now count rest f copies ticks first is tie)
      by false is =
          let few = tie.few in
          let not_four = eqb-false copies 4 is in
          record {
            frame = tie.frame;
            copies_are = tie.copies_are;
            few = few_but copies few not_four;
            gone = denial now count ∷ [];
            answers = tie.answers ∙ first;
            denied = (denies, tt);
          }
        where
          few_but : (n : ℕ) → n ≤ 4 → (n ≡ 4 → ⊥) → n ≤ 3
          few_but n few other = omega (arith, few, other)
  line_denied s now count rest (Paused f copies ticks) first tie = record {
    frame = tie.frame;
    copies_are = tie.copies_are;
    few = tie.few;
    gone = tie.gone ++ denial now count ∷ [];
    answers = tie.answers ∙ ap (λ (l : List Answer). tie.gone ++ l) first ∙ sym (append_assoc tie.gone (denial now count ∷ []) (to_come now count rest));
    denied = all-append (λ answer. is_acknowledgement answer.unit ≡ false) tie.gone (denial now count ∷ []) tie.denied (denies, tt);
  }

-- ---- a tick

-- in a pause no answer acknowledges the frame, where none is to come
pub paused_unsent : (s : Standing) (now count : ℕ) (came : List LineUnit) (f : FrameParts) (copies : ℕ) → AreFrames came → IsPaused s now count came f copies → sent_in s ≡ []
paused_unsent s now count came f copies frames tie =
    ap (λ (l : List Answer). take 1 (ticks_sent l)) (counted_few s (few_is s.copies (let are = tie.copies_are in let few = tie.few in omega (arith, are, few))) ∙ tie.answers)
    ∙ ap (λ (l : List ℕ). take 1 l) (ticks_more tie.gone (to_come now count came))
    ∙ ap (λ (l : List ℕ). take 1 (l ++ ticks_sent (to_come now count came))) (ticks_none tie.gone tie.denied)
    ∙ ap (λ (l : List Answer). take 1 (ticks_sent l)) (none_to_come now count came frames)

-- whether a tick writes a copy
abbrev pub copies_now : Turn → Bool
copies_now Idle = false
copies_now (Copied f copies ticks) = false
copies_now (Paused f copies ticks) = ticks + 1 == pause_after copies

abbrev pub standing_ticked : Turn → Standing → ℕ → Standing
standing_ticked turn s now = if copies_now turn then with_copy s now else s

both_none : (now later count : ℕ) (came : List LineUnit) → AreFrames came → to_come now count came ≡ to_come later count came
both_none now later count came frames = none_to_come now count came frames ∙ sym (none_to_come later count came frames)

-- the fourth copy is given up at its fifteenth tick
pub ignored_four : (s : Standing) (before now count : ℕ) (came : List LineUnit) (f : FrameParts) (copies ticks : ℕ) → now ≡ before + 1 → AreFrames came → (ticks == 14) ≡ true → (copies == 4) ≡ true
    → IsCopied s before count came f copies ticks → (s.copies ≡ 4) × WasIgnored s now
ignored_four s before now count came f copies ticks next frames is four_so tie =
    let four : s.copies ≡ 4 = tie.copies_are ∙ eqb-true copies 4 four_so in
    let last : ticks ≡ 14 = eqb-true ticks 14 is in
    let since = tie.since in (
      four,
      record {
        none = counted_copied s before count came f copies ticks (four_is s.copies four) tie ∙ ap (λ (l : List Answer). take 1 l) (none_to_come before count came frames);
        by_now = omega (arith, since, next, last);
      },
    )

pub line_ticks : (s : Standing) (before now count : ℕ) (came : List LineUnit) (turn : Turn) → now ≡ before + 1 → AreFrames came → TieLine s before count came turn
    → TieLine (standing_ticked turn s now) now count came (turn_ticked turn)
line_ticks s before now count came Idle next frames (inl sent) = inl (sent_later s before now (omega (arith, next)) sent)
line_ticks s before now count came Idle next frames (inr given_up) = inr (given_up_later s before now count count (omega (arith, next)) (omega arith) given_up)
line_ticks s before now count came (Copied f copies ticks) next frames tie = by (ticks == 14) (copies == 4) refl refl
  where
    since : s.last + ticks ≡ before
    since = tie.since

    by : (last four : Bool) → (ticks == 14) ≡ last → (copies == 4) ≡ four → TieLine s now count came (if last then (if four then Idle else Paused f copies 0) else Copied f copies (ticks + 1))
    by true true is four_so = let ignored = ignored_four s before now count came f copies ticks next frames is four_so tie in inr (ignored.0, inr ignored.1)
    by true false is four_so = record {
      frame = tie.frame;
      copies_are = tie.copies_are;
      few = few_but copies tie.few (eqb-false copies 4 four_so);
      gone = [];
      answers = tie.answers ∙ both_none before now count came frames;
      denied = tt;
    }
      where
        few_but : (n : ℕ) → n ≤ 4 → (n ≡ 4 → ⊥) → n ≤ 3
        few_but n few other = omega (arith, few, other)
    by false four is four_so = record {
      frame = tie.frame;
      copies_are = tie.copies_are;
      since = omega (arith, since, next);
      answers = tie.answers ∙ both_none before now count came frames;
      early = soon ticks tie.early (eqb-false ticks 14 is);
      few = tie.few;
    }
      where
        soon : (n : ℕ) → n < 15 → (n ≡ 14 → ⊥) → n + 1 < 15
        soon n few other = omega (arith, few, other)
line_ticks s before now count came (Paused f copies ticks) next frames tie = by (ticks + 1 == pause_after copies)
  where
    more : s.copies + 1 ≡ copies + 1
    more = ap (λ (n : ℕ). n + 1) tie.copies_are

    by : (b : Bool) → TieLine (if b then with_copy s now else s) now count came (if b then Copied f (copies + 1) 0 else Paused f copies (ticks + 1))
    by true = record {
      frame = tie.frame;
      copies_are = more;
      since = omega arith;
      answers = sym (none_to_come now count came frames);
      early = omega arith;
      few = let few = tie.few in omega (arith, few);
    }
    by false = record {
      frame = tie.frame;
      copies_are = tie.copies_are;
      few = tie.few;
      gone = tie.gone;
      answers = tie.answers ∙ ap (λ (l : List Answer). tie.gone ++ l) (both_none before now count came frames);
      denied = tie.denied;
    }

-- ---- a frame is submitted

pub line_submitted : (f : FrameParts) (now count : ℕ) (prior : Prior) (came : List LineUnit) → AreFrames came → TieLine (first_standing (unit_text (Framed f)) now prior) now count came (Copied f 1 0)
line_submitted f now count prior came frames = record {
  frame = refl;
  copies_are = refl;
  since = omega arith;
  answers = sym (none_to_come now count came frames);
  early = omega arith;
  few = omega arith;
}
