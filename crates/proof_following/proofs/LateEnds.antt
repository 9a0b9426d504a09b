-- What a tick makes of the course of notes where the request under way ends in it: what the host notes of that end is due, and then what its nodes give up.
use Rattle.std.proofs.Common.{◌≡◌, ℕ, ◌==◌, ◌&&◌, ◌||◌, Bool, true, false, if◌then◌else◌, List, [], ◌∷◌, ◌++◌, refl, ap, ◌∙◌, subst, arith}
use Rattle.std.specs.Prelude.{nat_le}
use Rattle.std.specs.List.{flat_map, list_any}
use Rattle.std.proofs.lemmas.Bool.{eqb-true, le-leb, or_left, or_right}
use Rattle.zw_text.specs.declared.entry.Entry.{Entry}
use Rattle.law_time.specs.Heeds.{Heeds}
use Rattle.law_time.specs.Ends.{ending, giving_up, silence}
use Rattle.law_time.specs.Moments.{clock}
use Rattle.law_time.specs.Requests.{are_none, asked, failing}
use Rattle.host_requests.specs.declared.end.How.{How}
use Rattle.host_requests.specs.declared.end.How.TheVariants.{Silent, LinkFailed}
use Rattle.host_requests.specs.declared.task.Purpose.{Purpose}
use Rattle.host_model.specs.State.{HostState}
use Rattle.host_model.specs.Ends.{done_of}
use Rattle.proof_ends.specs.proof_requests.Ends.{EndsHere}
use Rattle.proof_ends.specs.proof_requests.law_host.Course.{Course, each_in_turn}
use Rattle.proof_ends.specs.proof_requests.law_host.Ends.{ends_without, gives_up_late}
use Rattle.proof_ends.specs.proof_requests.law_host.Ticks.{nodes_in_order, ticks}
use Rattle.proof_following.specs.Ended.{AreGone, EndingOf, EndsInTick, IsLate, noted_by, outcome_entries}
use Rattle.proof_following.proofs.Ending.{ends_late}
use Rattle.proof_following.proofs.Framing.{noted_so}
use Rattle.proof_following.proofs.Ticking.{given_ticks, silent_ticks}

-- ---- by this time

le_itself : (n : ℕ) → nat_le n n ≡ true
le_itself n = le-leb n n (omega arith)

pub any_by : (now : ℕ) (ticks : List ℕ) → list_any (λ tick. tick == now) ticks ≡ true → list_any (λ tick. nat_le tick now) ticks ≡ true
any_by now [] is = absurd (let bad : false ≡ true = is in cc)
any_by now (tick ∷ ticks) is = by (tick == now) refl (λ more. any_by now ticks more) is
  where
    by : (b : Bool) → (tick == now) ≡ b → (list_any (λ tick. tick == now) ticks ≡ true → list_any (λ tick. nat_le tick now) ticks ≡ true)
        → (b || list_any (λ tick. tick == now) ticks) ≡ true → (nat_le tick now || list_any (λ tick. nat_le tick now) ticks) ≡ true
    by true same more is = or_left (nat_le tick now) (list_any (λ tick. nat_le tick now) ticks) (ap (λ (n : ℕ). nat_le n now) (eqb-true tick now same) ∙ le_itself now)
    by false same more is = or_right (nat_le tick now) (list_any (λ tick. nat_le tick now) ticks) (more is)

-- what ends in silence is not given up
pub silent_ungiven : (past : List Entry) (now : ℕ) → list_any (λ tick. tick == now) (silence (asked past)) ≡ true → giving_up (asked past) ≡ []
silent_ungiven past now is = by (are_none (ending (asked past))) (silence (asked past)) is
  where
    by : (b : Bool) (l : List ℕ) → list_any (λ tick. tick == now) l ≡ true → (if b && are_none l then flat_map (λ fails. fails.tick ∷ []) (failing (asked past)) else []) ≡ []
    by b [] is = absurd (let bad : false ≡ true = is in cc)
    by true (tick ∷ l) is = refl
    by false (tick ∷ l) is = refl

-- ---- the end

module _ (heeds : Heeds) (past : List Entry) (now : ℕ) (g : HostState) (p : Purpose) (id : ℕ) (c : Course) (time : clock past ≡ now) (running : c.over ≡ false) (of : EndingOf heeds past g id p) where
  made : (how : How) → IsLate how → AreGone heeds (past ++ (noted_by g p how (record c { ticked = now })).due) now p id (outcome_entries g p how)
      → ticks heeds past now c ≡ each_in_turn (gives_up_late heeds past now) (nodes_in_order past) (ends_without heeds past now (done_of how) (record c { ticked = now }))
      → EndsInTick heeds past now g p how id c
  made how late gone goes =
      let ends = ends_late heeds past g id p how now (record c { ticked = now }) late of gone in
      record { mid = ends_without heeds past now (done_of how) (record c { ticked = now }); goes = goes; ended = ends; noted = noted_so heeds past g id p how (record c { ticked = now }) (ends_without heeds past now (done_of how) (record c { ticked = now })) ends }

  at_now : (l : List ℕ) → list_any (λ tick. tick == clock past) l ≡ true → list_any (λ tick. tick == now) l ≡ true
  at_now l is = subst (λ (n : ℕ). list_any (λ tick. tick == n) l ≡ true) time is

  pub ends_in_tick : (how : How) → IsLate how → EndsHere past id p how → AreGone heeds (past ++ (noted_by g p how (record c { ticked = now })).due) now p id (outcome_entries g p how)
      → EndsInTick heeds past now g p how id c
  ends_in_tick LinkFailed late e gone = made LinkFailed late gone (given_ticks heeds past now c running (any_by now (giving_up (asked past)) (at_now (giving_up (asked past)) e.so)))
  ends_in_tick Silent late e gone =
      made Silent late gone
      (silent_ticks heeds past now c running (ap (λ (l : List ℕ). list_any (λ tick. nat_le tick now) l) (silent_ungiven past now (at_now (silence (asked past)) e.so)))
      (any_by now (silence (asked past)) (at_now (silence (asked past)) e.so)))
  ends_in_tick how late e gone = absurd late
