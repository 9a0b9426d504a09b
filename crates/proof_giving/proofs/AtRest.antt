-- Where a host rests no third attempt is over: of a node whose attempts are as they are told.
use Rattle.std.proofs.Common.{◌≡◌, ◌⊎◌, inl, inr, sym, ℕ, ◌≤◌, ◌==◌, ◌&&◌, ◌||◌, Bool, true, false, if◌then◌else◌, List, [], ◌∷◌, Option, Some, None, refl, ap, ◌∙◌, arith}
use Rattle.std.specs.Prelude.{is_none}
use Rattle.std.specs.List.{list_any}
use Rattle.std.proofs.lemmas.Bool.{and_left, and_right, ne_eqb}
use Rattle.serial_frame.specs.declared.unit.Unit.{Unit as LineUnit}
use Rattle.zw_text.specs.declared.entry.Entry.{Entry}
use Rattle.law_time.specs.Attempts.{Attempts, attempt_is_over}
use Rattle.law_time.specs.Ends.{has_ended}
use Rattle.law_time.specs.Heeds.{Heeds}
use Rattle.law_time.specs.Requests.{asked}
use Rattle.law_time.specs.Sessions.{is_open, last_command}
use Rattle.law_time.specs.Unanswered.{third_is_over, to_give_up}
use Rattle.host_requests.specs.declared.under_way.UnderWay.{UnderWay}
use Rattle.host_node.specs.Facts.{NodeFacts, SeriesFacts}
use Rattle.host_node.specs.declared.series.Series.{Series}
use Rattle.host_node.specs.declared.series.Series.TheVariants.{Idle, Due, Running}
use Rattle.host_model.specs.State.{HostState, node_of}
use Rattle.proof_queue.specs.proof_attempts.Attempts.{begun_of, has_ended_badly, is_over_by}
use Rattle.proof_queue.specs.proof_attempts.proof_requests.Asking.{TieAsked, doing_of}
use Rattle.proof_queue.specs.proof_attempts.proof_requests.proof_alone.Steps.{AreFrames}
use Rattle.proof_queue.proofs.AttemptsGo.{running_not_over, unended_well}
use Rattle.proof_queue.proofs.Late.{unended_at}
use Rattle.proof_giving.specs.Told.{attempts_so_far}
use Rattle.proof_giving.specs.Tie.{AttemptsSo, is_badly_over}
use Rattle.proof_giving.proofs.Asking.{over_as}
use Rattle.proof_giving.proofs.Told.{each_is, node_is}

-- while the request is under way it has not ended, so not badly
pub as_masked : (heeds : Heeds) (n : ℕ) (past : List Entry) (now : ℕ) (came : List LineUnit) (h : HostState) → AreFrames came ⊎ (h.requests.under_way ≡ None) → TieAsked past now now came (doing_of h)
    → has_ended_badly heeds past (asked past) now n ≡ is_badly_over heeds n past h now
as_masked heeds n past now came h either tie = by h.requests.under_way refl
  where
    by : (o : Option UnderWay) → h.requests.under_way ≡ o → has_ended_badly heeds past (asked past) now n ≡ (is_none o && has_ended_badly heeds past (asked past) now n)
    by None is = refl
    by (Some u) is = unended_well (asked past) _ now (unended either)
      where
        unended : AreFrames came ⊎ (h.requests.under_way ≡ None) → has_ended (asked past) now ≡ false
        unended (inl frames) = unended_at past now came h frames tie u is
        unended (inr none) = absurd (let bad : None ≡ Some u = sym none ∙ is in cc)

module _ (heeds : Heeds) (n : ℕ) (past : List Entry) (now : ℕ) (came : List LineUnit) (h : HostState) (either : AreFrames came ⊎ (h.requests.under_way ≡ None))
    (tie : TieAsked past now now came (doing_of h)) (facts : NodeFacts (node_of h n)) (so : AttemptsSo heeds n past h now now) where
  abbrev told : Attempts
  told = attempts_so_far heeds n past

  -- whether the last one is over
  over_at : attempt_is_over heeds past (asked past) now told ≡ is_over_by now (is_badly_over heeds n past h now) told
  over_at = over_as heeds n past (asked past) now told (node_is heeds n past) ∙ ap (λ (b : Bool). is_over_by now b told) (as_masked heeds n past now came h either tie)

  third_not : third_is_over heeds past now told ≡ false
  third_not = by (node_of h n).series refl facts.series
    where
      few : (k : ℕ) → told.begun ≡ k → k ≤ 2 → third_is_over heeds past now told ≡ false
      few k is most = and_left (told.begun == 3) (attempt_is_over heeds past (asked past) now told) (ne_eqb told.begun 3 (λ three. absurd (omega (arith, is, most, three))))

      begun : (s : Series) → (node_of h n).series ≡ s → told.begun ≡ begun_of s (node_of h n).book.attempts
      begun s is = so.node.are.begun ∙ ap (λ (x : Series). begun_of x (node_of h n).book.attempts) is

      by : (s : Series) → (node_of h n).series ≡ s
          → SeriesFacts s (node_of h n).book (node_of h n).attempt_wait (node_of h n).again_wait (node_of h n).next_segment (node_of h n).segments (node_of h n).text (node_of h n).pending
          → third_is_over heeds past now told ≡ false
      by Idle is facts = few 0 (begun Idle is) (omega arith)
      by Due is facts = few (node_of h n).book.attempts (begun Due is) facts.0.fewer
      by Running is facts =
          and_right (told.begun == 3) (attempt_is_over heeds past (asked past) now told)
          (over_at ∙ running_not_over told (node_of h n) now (is_badly_over heeds n past h now) so.node.are is)

  -- so no command is to be given up for it
  pub none_over_at : to_give_up heeds past now n ≡ []
  none_over_at =
      ap (λ (l : List Attempts). if is_open n past && list_any (third_is_over heeds past now) l then last_command n past else []) (each_is heeds (n ∷ []) past)
      ∙ ap (λ (b : Bool). if is_open n past && (b || false) then last_command n past else []) third_not ∙ by (is_open n past)
    where
      by : (b : Bool) → (if b && false then last_command n past else []) ≡ []
      by true = refl
      by false = refl

-- where no answer is to come
pub over_is : (heeds : Heeds) (n : ℕ) (past : List Entry) (now : ℕ) (came : List LineUnit) (h : HostState) → AreFrames came → TieAsked past now now came (doing_of h) → NodeFacts (node_of h n)
    → AttemptsSo heeds n past h now now → attempt_is_over heeds past (asked past) now (attempts_so_far heeds n past) ≡ is_over_by now (is_badly_over heeds n past h now) (attempts_so_far heeds n past)
over_is heeds n past now came h frames = over_at heeds n past now came h (inl frames)

pub none_is_over : (heeds : Heeds) (n : ℕ) (past : List Entry) (now : ℕ) (came : List LineUnit) (h : HostState) → AreFrames came → TieAsked past now now came (doing_of h) → NodeFacts (node_of h n)
    → AttemptsSo heeds n past h now now → to_give_up heeds past now n ≡ []
none_is_over heeds n past now came h frames = none_over_at heeds n past now came h (inl frames)
