-- A wait that ends at a tick, and a frame that the line gives up, end the last request by the transcript at that very time.
use Rattle.std.proofs.Common.{◌≡◌, ◌≤◌, ℕ, ◌+◌, ◌-◌, ◌==◌, Bool, true, false, if◌then◌else◌, inl, inr, List, [], ◌∷◌, refl, sym, ap, ◌∙◌, subst, arith}
use Rattle.std.specs.Prelude.{Some, None, nat_lt}
use Rattle.std.specs.List.{list_any}
use Rattle.std.proofs.lemmas.Bool.{eq-eqb, eqb-true, ltb-false}
use Rattle.serial_frame.specs.Frame.{FrameParts}
use Rattle.serial_frame.specs.declared.unit.Unit.{Unit as LineUnit}
use Rattle.serial_link.specs.State.{pause_after, turn_refused, turn_ticked}
use Rattle.serial_link.specs.declared.turn.Turn.{Turn}
use Rattle.serial_link.specs.declared.turn.Turn.TheVariants.{Idle, Copied, Paused}
use Rattle.zw_text.specs.declared.entry.Entry.{Entry}
use Rattle.proof_waking.specs.law_time.Moments.{clock}
use Rattle.proof_waking.specs.law_time.Judged.{acknowledged, is_acknowledgement}
use Rattle.proof_waking.specs.law_time.Requests.{asked}
use Rattle.proof_waking.specs.law_time.Ends.{giving_up, is_silent, silence}
use Rattle.host_requests.specs.Next.{at_tick, on_with}
use Rattle.host_requests.specs.declared.end.How.{How}
use Rattle.host_requests.specs.declared.end.How.TheVariants.{LinkFailed, Silent}
use Rattle.host_requests.specs.declared.next.Next.TheVariants.{Ends}
use Rattle.host_requests.specs.declared.task.Purpose.{Purpose}
use Rattle.host_requests.specs.declared.under_way.Progress.{Progress}
use Rattle.host_requests.specs.declared.under_way.Progress.TheVariants.{Submitted, Sent, Answered}
use Rattle.host_requests.specs.declared.under_way.UnderWay.{UnderWay}
use Rattle.proof_messages.specs.host_model.After.{gives_up}
use Rattle.proof_waking.specs.proof_alone.Steps.{AreFrames}
use Rattle.proof_requests.specs.Effects.{denied_at}
use Rattle.proof_requests.specs.Standing.{Standing, giving_up_in, responses_in, standing_of}
use Rattle.proof_requests.specs.Asking.{AsProgress, Doing, IsCopied, IsUnderWay, Leaving, TieAsked, TieLine, TieUnderWay, nothing_left, to_come}
use Rattle.proof_requests.specs.Ends.{EndsHere, EndsHow, GivenUp}
use Rattle.proof_requests.proofs.Ended.{denied_fails, gave_up, ignored_fails}
use Rattle.proof_requests.proofs.Ending.{line_gives, silence_is}
use Rattle.proof_requests.proofs.EndsHere.{cannot_end}
use Rattle.proof_requests.proofs.Judging.{or_false}
use Rattle.proof_requests.proofs.Moving.{waits_on}
use Rattle.proof_requests.proofs.OnLine.{denied_four, ignored_four, was_denied}
use Rattle.proof_requests.proofs.UnderWay.{Over, SilentNow, answered_ends, line_ends, line_held, line_ignores, progress_over, sent_ends}

pub silent_so : (how : How) → Ends Silent ≡ Ends how → Silent ≡ how
silent_so how is = cc

-- ---- a wait

-- it ends so, and at this tick
record IsSilentNow (s : Standing) (now : ℕ) (how : How) : Type 0 where
  so : Silent ≡ how
  leaving : Leaving
  now_is : SilentNow s now leaving

module _ (s : Standing) (before now count : ℕ) (came : List LineUnit) (d : Doing) (next : now ≡ before + 1) (line : TieLine s now count came d.turn) where
  last_left : (left : ℕ) → nat_lt 1 left ≡ false → 1 ≤ left → left ≡ 1
  last_left left few some = let less = ltb-false 1 left few in omega (arith, less, some)

  some_left : (sent : Bool) (left : ℕ) → AsProgress s before d.turn (Answered sent left) → 1 ≤ left
  some_left true left (other, one, more, are, since, some, few, by) = some
  some_left false left (other, one, more, are, since, some, few, by) = some

  sent_silent : (p : Purpose) (left : ℕ) (how : How) (more : Bool) → nat_lt 1 left ≡ more → IsUnderWay s before d.turn d.id (record { purpose = p; progress = Sent left })
      → on_with (if more then Some (Sent (left - 1)) else None) ≡ Ends how → IsSilentNow s now how
  sent_silent p left how true so is ends = absurd (cannot_end (Sent (left - 1)) how ends)
  sent_silent p left how false so is ends =
      let one : left ≡ 1 = last_left left so is.progress.6 in
      record {
        so = silent_so how ends;
        leaving = nothing_left;
        now_is = sent_ends s before now count d.turn next is.unended (subst (λ (n : ℕ). AsProgress s before d.turn (Sent n)) one is.progress);
      }

  answered_silent : (p : Purpose) (sent : Bool) (left : ℕ) (how : How) (more : Bool) → nat_lt 1 left ≡ more → IsUnderWay s before d.turn d.id (record { purpose = p; progress = Answered sent left })
      → on_with (if more then Some (Answered sent (left - 1)) else None) ≡ Ends how → IsSilentNow s now how
  answered_silent p sent left how true so is ends = absurd (cannot_end (Answered sent (left - 1)) how ends)
  answered_silent p sent left how false so is ends =
      let one : left ≡ 1 = last_left left so (some_left sent left is.progress) in
      record {
        so = silent_so how ends;
        leaving = _;
        now_is = answered_ends s before now count d.turn sent next is.unended (line_held s now count came d.turn line)
            (subst (λ (n : ℕ). AsProgress s before d.turn (Answered sent n)) one is.progress);
      }

  silent_now : (p : Purpose) (progress : Progress) (how : How) → IsUnderWay s before d.turn d.id (record { purpose = p; progress = progress })
      → at_tick (record { purpose = p; progress = progress }) ≡ Ends how → IsSilentNow s now how
  silent_now p Submitted how is ends = absurd (cannot_end Submitted how ends)
  silent_now p (Sent left) how is ends = sent_silent p left how (nat_lt 1 left) refl is ends
  silent_now p (Answered sent left) how is ends = answered_silent p sent left how (nat_lt 1 left) refl is ends

ends_silent : (past : List Entry) (now : ℕ) (leaving : Leaving) → clock past ≡ now → SilentNow (standing_of (asked past)) now leaving → is_silent past ≡ true
ends_silent past now leaving time (e, now_is) =
    let ticks : silence (asked past) ≡ e.tick ∷ [] = silence_is (standing_of (asked past)) now leaving e in
    ap (λ (l : List ℕ). list_any (λ tick. tick == clock past) l) ticks ∙ or_false (e.tick == clock past) ∙ eq-eqb e.tick (clock past) (now_is ∙ sym time)

none_some : (u : UnderWay) → None ≡ Some u → ⊥
none_some u is = cc

-- at a tick of the request
pub silent_here : (past : List Entry) (before now : ℕ) (came : List LineUnit) (d : Doing) → now ≡ before + 1 → clock past ≡ now → TieAsked past now before came d → (u : UnderWay) → d.under_way ≡ Some u
    → (how : How) → at_tick u ≡ Ends how → EndsHere past d.id u.purpose how
silent_here past before now came d next time (inl nothing) u is how ends = absurd (none_some u (sym nothing.none ∙ is))
silent_here past before now came d next time (inr (was, asks)) u is how ends =
    by (subst (TieUnderWay (standing_of (asked past)) now before (acknowledged past) d.turn d.id d.leaving) is asks.under_way)
  where
    by : TieUnderWay (standing_of (asked past)) now before (acknowledged past) d.turn d.id d.leaving (Some u) → EndsHere past d.id u.purpose how
    by (under_way, kept) =
        let silent = silent_now (standing_of (asked past)) before now (acknowledged past) came d next asks.line u.purpose u.progress how under_way ends in
        record {
          request = under_way.request;
          follows = kept.2;
          carries = kept.3;
          so = subst (EndsHow past d.id u.purpose) silent.so (ends_silent past now silent.leaving time silent.now_is);
        }

-- ---- the line

module _ (s : Standing) (before now count id : ℕ) (came : List LineUnit) (u : UnderWay) (next : now ≡ before + 1) (frames : AreFrames came) where
  ignored_gives : (f : FrameParts) (copies ticks : ℕ) → (ticks == 14) ≡ true → (copies == 4) ≡ true → IsCopied s before count came f copies ticks → IsUnderWay s before (Copied f copies ticks) id u
      → giving_up_in s ≡ now ∷ []
  ignored_gives f copies ticks last four line is =
      let ignored = ignored_four s before now count came f copies ticks next frames last four line in
      let gave = gave_up s now count (ignored.0, inr ignored.1) in
      let fourteen : ticks ≡ 14 = eqb-true ticks 14 last in
      let since = line.since in
      let tick_is : s.last + 15 ≡ now = omega (arith, since, fourteen, next) in
      line_gives s now count nothing_left
      (line_ignores s now count is.unended ignored.0 ignored.1 (waits_on s before now (Copied f copies ticks) u.progress next gave.unsent is.progress))
      (record { tick = s.last + 15; at_answer = false; frames = 0 }) (ignored_fails s now ignored.0 ignored.1)
      ∙ ap (λ (n : ℕ). n ∷ []) tick_is

  ticked_gives : (turn : Turn) → gives_up turn (turn_ticked turn) ≡ true → TieLine s before count came turn → IsUnderWay s before turn id u → giving_up_in s ≡ now ∷ []
  ticked_gives Idle gives line is = absurd (let bad : false ≡ true = gives in cc)
  ticked_gives (Copied f copies ticks) gives line is = by (ticks == 14) (copies == 4) refl refl gives
    where
      by : (last four : Bool) → (ticks == 14) ≡ last → (copies == 4) ≡ four → gives_up (Copied f copies ticks) (if last then (if four then Idle else Paused f copies 0) else Copied f copies (ticks + 1)) ≡ true
          → giving_up_in s ≡ now ∷ []
      by true true last_is four_is gives = ignored_gives f copies ticks last_is four_is line is
      by true false last_is four_is gives = absurd (let bad : false ≡ true = gives in cc)
      by false four last_is four_is gives = absurd (let bad : false ≡ true = gives in cc)
  ticked_gives (Paused f copies ticks) gives line is = by (ticks + 1 == pause_after copies) gives
    where
      by : (b : Bool) → gives_up (Paused f copies ticks) (if b then Copied f (copies + 1) 0 else Paused f copies (ticks + 1)) ≡ true → giving_up_in s ≡ now ∷ []
      by true gives = absurd (let bad : false ≡ true = gives in cc)
      by false gives = absurd (let bad : false ≡ true = gives in cc)

-- at a tick of the line
pub given_up_here : (past : List Entry) (before now : ℕ) (came : List LineUnit) (d : Doing) → now ≡ before + 1 → clock past ≡ now → AreFrames came → gives_up d.turn (turn_ticked d.turn) ≡ true
    → TieAsked past before before came d → (u : UnderWay) → d.under_way ≡ Some u → EndsHere past d.id u.purpose LinkFailed
given_up_here past before now came d next time frames gives (inl nothing) u is = absurd (none_some u (sym nothing.none ∙ is))
given_up_here past before now came d next time frames gives (inr (was, asks)) u is =
    by (subst (TieUnderWay (standing_of (asked past)) before before (acknowledged past) d.turn d.id d.leaving) is asks.under_way)
  where
    by : TieUnderWay (standing_of (asked past)) before before (acknowledged past) d.turn d.id d.leaving (Some u) → EndsHere past d.id u.purpose LinkFailed
    by (under_way, kept) =
        let gone : giving_up (asked past) ≡ now ∷ [] = ticked_gives (standing_of (asked past)) before now (acknowledged past) d.id came u next frames d.turn gives asks.line under_way in
        record {
          request = under_way.request;
          follows = kept.2;
          carries = kept.3;
          so = ap (λ (l : List ℕ). list_any (λ tick. tick == clock past) l) gone ∙ or_false (now == clock past) ∙ eq-eqb now (clock past) (sym time);
        }

-- where NAK or CAN is judged
module _ (unit : LineUnit) (text : List ℕ) (denies : is_acknowledgement text ≡ false) where
  denied_gives : (s : Standing) (now count id : ℕ) (rest : List LineUnit) (u : UnderWay) → to_come now count (unit ∷ rest) ≡ record { unit = text; tick = now; frames = count } ∷ to_come now count rest
      → (turn : Turn) → gives_up turn (turn_refused turn) ≡ true → TieLine s now count (unit ∷ rest) turn → IsUnderWay s now turn id u → giving_up_in s ≡ now ∷ []
  denied_gives s now count id rest u first Idle gives line is = absurd (let bad : false ≡ true = gives in cc)
  denied_gives s now count id rest u first (Paused f copies ticks) gives line is = absurd (let bad : false ≡ true = gives in cc)
  denied_gives s now count id rest u first (Copied f copies ticks) gives line is = by (copies == 4) refl gives
    where
      by : (four : Bool) → (copies == 4) ≡ four → gives_up (Copied f copies ticks) (if four then Idle else Paused f copies 0) ≡ true → giving_up_in s ≡ now ∷ []
      by true four gives =
          let given_up = denied_four unit text denies s now count rest f copies ticks first four line in
          let (copies_are, denied, now_is) = was_denied unit text denies s now count rest f copies ticks first four line in
          let over = subst (λ (l : List ℕ). Over now l (responses_in s)) (gave_up s now count given_up).unsent
          (progress_over s now count (Copied f copies ticks) u.progress (line_held s now count (unit ∷ rest) (Copied f copies ticks) line) is.progress) in
          line_gives s now count nothing_left (line_ends s now count is.unended given_up over) (denied_at denied.answer) (denied_fails s now count copies_are denied)
          ∙ ap (λ (n : ℕ). n ∷ []) now_is
      by false four gives = absurd (let bad : false ≡ true = gives in cc)

  pub denied_here : (past : List Entry) (now : ℕ) (rest : List LineUnit) (d : Doing)
      → to_come now (acknowledged past) (unit ∷ rest) ≡ record { unit = text; tick = now; frames = acknowledged past } ∷ to_come now (acknowledged past) rest
      → gives_up d.turn (turn_refused d.turn) ≡ true → TieAsked past now now (unit ∷ rest) d → (u : UnderWay) → d.under_way ≡ Some u → GivenUp past now d.id u.purpose
  denied_here past now rest d first gives (inl nothing) u is = absurd (none_some u (sym nothing.none ∙ is))
  denied_here past now rest d first gives (inr (was, asks)) u is =
      by (subst (TieUnderWay (standing_of (asked past)) now now (acknowledged past) d.turn d.id d.leaving) is asks.under_way)
    where
      by : TieUnderWay (standing_of (asked past)) now now (acknowledged past) d.turn d.id d.leaving (Some u) → GivenUp past now d.id u.purpose
      by (under_way, kept) = record {
        framed = was.framed;
        request = under_way.request;
        follows = kept.2;
        carries = kept.3;
        gives_up = denied_gives (standing_of (asked past)) now (acknowledged past) d.id rest u first d.turn gives asks.line under_way;
      }
