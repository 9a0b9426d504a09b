-- Where a request has ended with nothing to note, the course that has not gone so far yet comes to that end in a tick, or where the host has heard an answer.
use Rattle.std.proofs.Common.{◌≡◌, ◌⊎◌, ℕ, Bool, true, false, inl, inr, List, [], ◌∷◌, ◌++◌, map, refl, sym, ap, ap₂, ◌∙◌, subst, append-nil}
use Rattle.std.specs.Prelude.{nat_le}
use Rattle.std.specs.List.{AllByRecursion, list_any}
use Rattle.zw_text.specs.declared.entry.Done.{Done as HowDone}
use Rattle.zw_text.specs.declared.entry.Done.TheVariants as done
use Rattle.zw_text.specs.declared.entry.Entry.{Entry}
use Rattle.zw_text.specs.declared.entry.Entry.TheVariants as entry
use Rattle.law_transcript.specs.Units.{Carried, sending_in}
use Rattle.law_time.specs.Ends.{giving_up, silence}
use Rattle.law_time.specs.Heeds.{Heeds}
use Rattle.law_time.specs.Moments.{clock}
use Rattle.law_time.specs.Requests.{asked}
use Rattle.proof_ends.specs.proof_requests.law_host.Course.{Course, each_in_turn, with_notes}
use Rattle.proof_ends.specs.proof_requests.law_host.Ends.{done_notes, ends_badly, ends_sealing, ends_without, failed_notes, gives_up, gives_up_late, sleep_notes, to_give_up_by_end}
use Rattle.proof_ends.specs.proof_requests.law_host.Ticks.{denies, is_denied, nodes_in_order, ticks}
use Rattle.proof_following.specs.Quiet.{NoneGone, NothingOf, ended_silently}
use Rattle.proof_following.proofs.Ending.{sealing_due}
use Rattle.proof_following.proofs.Ticking.{denied, given_ticks, none_gone, silent_ticks}

module _ (heeds : Heeds) (past : List Entry) (now : ℕ) where
  quietly : (sent : List Carried) (c : Course) → c.due ≡ [] → AllByRecursion (λ (one : Carried). to_give_up_by_end heeds past now one.node ≡ []) sent
      → each_in_turn (ends_badly heeds past now) sent c ≡ each_in_turn ends_sealing sent c
  quietly [] c none all = refl
  quietly (one ∷ sent) c none all =
      ap (λ (d : Course). each_in_turn (ends_badly heeds past now) sent d) same ∙ quietly sent (ends_sealing one c) (sealing_due one c ∙ none) all.1
    where
      at : past ++ (ends_sealing one c).due ≡ past
      at = ap (λ (l : List Entry). past ++ l) (sealing_due one c ∙ none) ∙ append-nil past

      same : ends_badly heeds past now one c ≡ ends_sealing one c
      same = ap (λ (l : List ℕ). each_in_turn (gives_up past one.node) l (ends_sealing one c)) (ap (λ (l : List Entry). to_give_up_by_end heeds l now one.node) at ∙ all.0)

  pub quiet_without : (how : HowDone) (c : Course) → c.due ≡ [] → NothingOf heeds past now → ends_without heeds past now how c ≡ ended_silently past c
  quiet_without how c none nothing =
      ap (λ (l : List Entry). each_in_turn (ends_badly heeds past now) (sending_in (asked past).frame) (with_notes l (record c { over = true }))) notes
      ∙ ap (λ (l : List Entry). each_in_turn (ends_badly heeds past now) (sending_in (asked past).frame) (record c { over = true; due = l })) (append-nil c.due)
      ∙ quietly (sending_in (asked past).frame) (record c { over = true }) none nothing.sent
    where
      notes : done_notes heeds past how ++ sleep_notes past ++ failed_notes past ≡ []
      notes =
          ap₂ (λ (a b : List Entry). a ++ b) (ap₂ (λ (a b : List Entry). a ++ b) (ap (map (λ (node : ℕ). entry.Done node how)) nothing.errands) nothing.sleeps)
          (ap (map entry.InterviewFailed) nothing.interviews)

  all_due : (sent : List Carried) (c : Course) → (each_in_turn ends_sealing sent c).due ≡ c.due
  all_due [] c = refl
  all_due (one ∷ sent) c = all_due sent (ends_sealing one c) ∙ sealing_due one c

  silent_at : (c : Course) → (ended_silently past c).due ≡ c.due
  silent_at c = all_due (sending_in (asked past).frame) (record c { over = true })

  -- no node gives up then
  then_none : (c d : Course) → c.due ≡ [] → NothingOf heeds past now → d ≡ ended_silently past (record c { ticked = now }) → each_in_turn (gives_up_late heeds past now) (nodes_in_order past) d
      ≡ ended_silently past (record c { ticked = now })
  then_none c d none nothing is =
      ap (λ (x : Course). each_in_turn (gives_up_late heeds past now) (nodes_in_order past) x) is
      ∙ none_gone heeds past now (nodes_in_order past) (ended_silently past (record c { ticked = now }))
      (subst (λ (l : List Entry). NoneGone heeds now l (nodes_in_order past))
      (sym (ap (λ (l : List Entry). past ++ l) (silent_at (record c { ticked = now }) ∙ none) ∙ append-nil past)) nothing.nodes)

  -- in a tick the line has given it up, or its wait has ended
  pub silently_ticks : (c : Course) → c.over ≡ false → c.due ≡ [] → NothingOf heeds past now
      → (list_any (λ tick. nat_le tick now) (giving_up (asked past)) ≡ true) ⊎ (list_any (λ tick. nat_le tick now) (silence (asked past)) ≡ true)
      → ticks heeds past now c ≡ ended_silently past (record c { ticked = now })
  silently_ticks c running none nothing ends = by (list_any (λ tick. nat_le tick now) (giving_up (asked past))) refl ends
    where
      by : (b : Bool) → list_any (λ tick. nat_le tick now) (giving_up (asked past)) ≡ b
          → (list_any (λ tick. nat_le tick now) (giving_up (asked past)) ≡ true) ⊎ (list_any (λ tick. nat_le tick now) (silence (asked past)) ≡ true)
          → ticks heeds past now c ≡ ended_silently past (record c { ticked = now })
      by true given either =
          given_ticks heeds past now c running given
          ∙ then_none c (ends_without heeds past now done.LinkFailed (record c { ticked = now })) none nothing (quiet_without done.LinkFailed (record c { ticked = now }) none nothing)
      by false given (inl bad) = absurd (let wrong : false ≡ true = sym given ∙ bad in cc)
      by false given (inr silent) =
          silent_ticks heeds past now c running given silent
          ∙ then_none c (ends_without heeds past now done.Silent (record c { ticked = now })) none nothing (quiet_without done.Silent (record c { ticked = now }) none nothing)

-- at an answer
pub silently_denied : (heeds : Heeds) (past : List Entry) (c : Course) → c.over ≡ false → c.due ≡ [] → NothingOf heeds past (clock past) → is_denied past ≡ true → denies heeds past c ≡ ended_silently past c
silently_denied heeds past c running none nothing is = denied heeds past (clock past) c running is ∙ quiet_without heeds past (clock past) done.LinkFailed c none nothing
