-- Where the last request is over by the transcript, the host has none under way and its line is free.
use Rattle.std.proofs.Common.{◌≡◌, ℕ, ◌+◌, ◌==◌, ◌&&◌, ◌||◌, not, Bool, true, false, inl, inr, List, [], ◌∷◌, take, refl, sym, ap, ap₂, ◌∙◌, arith}
use Rattle.std.specs.Prelude.{Option, Some, None, is_none, nat_le}
use Rattle.std.specs.List.{list_any}
use Rattle.std.proofs.lemmas.Bool.{and_parts, lt-leb}
use Rattle.serial_frame.specs.Frame.{FrameParts}
use Rattle.serial_frame.specs.declared.unit.Unit.{Unit as LineUnit}
use Rattle.serial_link.specs.declared.turn.Turn.{Turn}
use Rattle.serial_link.specs.declared.turn.Turn.TheVariants.{Idle, Copied, Paused}
use Rattle.zw_text.specs.declared.entry.Entry.{Entry}
use Rattle.host_requests.specs.declared.under_way.UnderWay.{UnderWay}
use Rattle.host_model.specs.State.{HostState}
use Rattle.host_model.specs.After.{is_busy}
use Rattle.host_model.specs.May.{IsFree}
use Rattle.proof_nonces.specs.proof_work.law_time.Judged.{acknowledged, is_data}
use Rattle.proof_nonces.specs.proof_work.law_time.Requests.{Answer, Failing, are_none, asked, failing_by}
use Rattle.proof_nonces.specs.proof_work.law_time.Ends.{has_ended, is_line_free, is_over}
use Rattle.proof_nonces.specs.proof_attempts.proof_requests.proof_alone.Steps.{AreFrames}
use Rattle.proof_nonces.specs.proof_attempts.proof_requests.Standing.{Standing, counted, failing_in, sent_in, standing_of, ticks_sent}
use Rattle.proof_nonces.specs.proof_attempts.proof_requests.Asking.{IsCopied, IsPaused, TieAsked, TieLine, doing_of}
use Rattle.proof_nonces.proofs.Ending.{told_of_host}
use Rattle.proof_nonces.proofs.Line.{counted_copied, counted_few, failing_few, failing_four, few_is, less_than_due, none_to_come}
use Rattle.proof_nonces.proofs.OnLine.{paused_unsent}

-- ---- the line

-- whether it is free, by how the request stands
abbrev is_free_in : Standing → ℕ → Bool
is_free_in s now = not (are_none (sent_in s)) || list_any (λ fails. nat_le fails.tick now) (failing_in s)

busy_so : (s : Standing) (now : ℕ) (fails : List Failing) → sent_in s ≡ [] → failing_in s ≡ fails → list_any (λ one. nat_le one.tick now) fails ≡ false → is_free_in s now ≡ false
busy_so s now fails sent failing later =
    ap₂ (λ (l : List ℕ) (k : List Failing). not (are_none l) || list_any (λ one. nat_le one.tick now) k) sent failing ∙ later

module _ (s : Standing) (now count : ℕ) (came : List LineUnit) (frames : AreFrames came) where
  copied_none : (f : FrameParts) (copies ticks : ℕ) → IsCopied s now count came f copies ticks → counted s ≡ []
  copied_none f copies ticks tie = by (s.copies == 4) refl
    where
      by : (b : Bool) → (s.copies == 4) ≡ b → counted s ≡ []
      by true four = counted_copied s now count came f copies ticks four tie ∙ ap (λ (l : List Answer). take 1 l) (none_to_come now count came frames)
      by false few = counted_few s few ∙ tie.answers ∙ none_to_come now count came frames

  copied_busy : (f : FrameParts) (copies ticks : ℕ) → IsCopied s now count came f copies ticks → is_free_in s now ≡ false
  copied_busy f copies ticks tie = by (s.copies == 4) refl
    where
      none : counted s ≡ []
      none = copied_none f copies ticks tie

      sent : sent_in s ≡ []
      sent = ap (λ (l : List Answer). take 1 (ticks_sent l)) none

      by : (b : Bool) → (s.copies == 4) ≡ b → is_free_in s now ≡ false
      by true four =
          busy_so s now (failing_by [] s.last ∷ []) sent (failing_four s four sent ∙ ap (λ (l : List Answer). failing_by l s.last ∷ []) none)
          (ap (λ (b : Bool). b || false) (lt-leb (s.last + 15) now (less_than_due s now count came f copies ticks tie)))
      by false few = busy_so s now [] sent (failing_few s few) refl

  paused_busy : (f : FrameParts) (copies : ℕ) → IsPaused s now count came f copies → is_free_in s now ≡ false
  paused_busy f copies tie =
      busy_so s now [] (paused_unsent s now count came f copies frames tie)
      (failing_few s (few_is s.copies (let are = tie.copies_are in let few = tie.few in omega (arith, are, few)))) refl

  line_frees : (turn : Turn) → TieLine s now count came turn → is_free_in s now ≡ true → is_busy turn ≡ false
  line_frees Idle tie free = refl
  line_frees (Copied f copies ticks) tie free = absurd (let busy = copied_busy f copies ticks tie in let bad : false ≡ true = sym busy ∙ free in cc)
  line_frees (Paused f copies ticks) tie free = absurd (let busy = paused_busy f copies tie in let bad : false ≡ true = sym busy ∙ free in cc)

-- ---- the request

none_is : (o : Option UnderWay) → is_none o ≡ true → o ≡ None
none_is None none = refl
none_is (Some u) none = absurd (let bad : false ≡ true = none in cc)

asked_some : (frame : List ℕ) → is_data frame ≡ true → are_none frame ≡ false
asked_some [] framed = absurd (let bad : false ≡ true = framed in cc)
asked_some (byte ∷ bytes) framed = refl

pub frees : (past : List Entry) (now : ℕ) (came : List LineUnit) (h : HostState) → AreFrames came → TieAsked past now now came (doing_of h) → is_over (asked past) now ≡ true → IsFree h
frees past now came h frames (inl nothing) over = record { none_under_way = nothing.none; free_line = ap is_busy nothing.idle }
frees past now came h frames (inr (was, asks)) over =
    let both : (is_line_free (asked past) now && has_ended (asked past) now) ≡ true
    = sym (ap (λ (b : Bool). b || (is_line_free (asked past) now && has_ended (asked past) now)) (asked_some (asked past).frame was.framed)) ∙ over in
    let parts = and_parts (is_line_free (asked past) now) (has_ended (asked past) now) both in record {
      none_under_way = none_is h.requests.under_way (sym ((told_of_host past now came (doing_of h) (inr (was, asks))).ended was frames) ∙ parts.1);
      free_line = line_frees (standing_of (asked past)) now (acknowledged past) came frames h.side.turn asks.line parts.0;
    }
