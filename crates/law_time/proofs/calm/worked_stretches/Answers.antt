use Rattle.std.proofs.Common.{◌≡◌, ℕ, [], ◌∷◌, refl, ◌∙◌, arith}
use Rattle.law_wire.proofs.Walks.{direct, is_linked, one_route, over_one}
use Rattle.law_time.proofs.Computing.{computing}
use Rattle.law_time.proofs.calm.worked_stretches.Goals as goal

pub returns-clause-one : goal.returns-clause-one
unfolding computing
returns-clause-one c = record { quiet = refl; kept = refl; reached = (record { repeaters = []; route = direct _ _ _ refl; live = is_linked _ _ 1 2 ∙ refl; back = []; way = (direct _ _ _ refl).walk }, tt) }

pub returns-clause-one_in_time : goal.returns-clause-one_in_time
unfolding computing
returns-clause-one_in_time c = refl

pub returns-clause-one_answered : goal.returns-clause-one_answered
unfolding computing
returns-clause-one_answered c = record { alone = λ calm stretch one time. refl; asleep = λ calm stretch plain time. refl; together = λ calm stretch plain time. refl }

pub returns-clause-two : goal.returns-clause-two
unfolding computing
returns-clause-two c = record {
  quiet = refl;
  kept = refl;
  reached = (
    record { repeaters = []; route = direct _ _ _ refl; live = is_linked _ _ 1 2 ∙ refl; back = []; way = (direct _ _ _ refl).walk },
    (
      record {
        repeaters = [];
        route = direct _ _ _ refl;
        live = is_linked _ _ 1 10 ∙ refl;
        back = [];
        way = (direct _ _ _ refl).walk;
      },
      tt,
    ),
  );
}

pub returns-clause-two_plain : goal.returns-clause-two_plain
unfolding computing
returns-clause-two_plain c = refl

pub returns-clause-two_in_time : goal.returns-clause-two_in_time
unfolding computing
returns-clause-two_in_time c = refl

pub returns-clause-two_answered : goal.returns-clause-two_answered
unfolding computing
returns-clause-two_answered c = record { alone = λ calm stretch one time. refl; asleep = λ calm stretch plain time. refl; together = λ calm stretch plain time. refl }

pub returns-clause-sleeper : goal.returns-clause-sleeper
unfolding computing
returns-clause-sleeper c = record { quiet = refl; kept = refl; reached = (record { repeaters = []; route = direct _ _ _ refl; live = is_linked _ _ 1 5 ∙ refl; back = []; way = (direct _ _ _ refl).walk }, tt) }

pub returns-clause-sleeper_alone : goal.returns-clause-sleeper_alone
unfolding computing
returns-clause-sleeper_alone c = refl

pub returns-clause-sleeper_in_time : goal.returns-clause-sleeper_in_time
unfolding computing
returns-clause-sleeper_in_time c = refl

pub returns-clause-sleeper_plain : goal.returns-clause-sleeper_plain
unfolding computing
returns-clause-sleeper_plain c = refl

pub returns-clause-sleeper_long_enough : goal.returns-clause-sleeper_long_enough
unfolding computing
returns-clause-sleeper_long_enough c = refl

pub returns-clause-sleeper_answered : goal.returns-clause-sleeper_answered
unfolding computing
returns-clause-sleeper_answered c = record { alone = λ calm stretch one time. refl; asleep = λ calm stretch plain time. refl; together = λ calm stretch plain time. refl }

pub returns-clause-failing : goal.returns-clause-failing
unfolding computing
returns-clause-failing c = record { quiet = refl; kept = refl; reached = (record { repeaters = []; route = direct _ _ _ refl; live = is_linked _ _ 1 6 ∙ refl; back = []; way = (direct _ _ _ refl).walk }, tt) }

pub returns-clause-failing_in_time : goal.returns-clause-failing_in_time
unfolding computing
returns-clause-failing_in_time c = refl

pub returns-clause-failing_answered : goal.returns-clause-failing_answered
unfolding computing
returns-clause-failing_answered c = record { alone = λ calm stretch one time. refl; asleep = λ calm stretch plain time. refl; together = λ calm stretch plain time. refl }

one_two : ◌≡◌ {A = ℕ} 2 1 → ⊥
one_two e = omega (arith, e)

ten_two : ◌≡◌ {A = ℕ} 2 10 → ⊥
ten_two e = omega (arith, e)

pub returns-clause-repeated : goal.returns-clause-repeated
unfolding computing
returns-clause-repeated c = record {
  quiet = refl;
  kept = refl;
  reached = (
    record {
      repeaters = 2 ∷ [];
      route = one_route _ _ 10 2 (over_one _ _ 10 2 one_two ten_two refl refl refl) refl ((λ a b. refl), ((λ a b. refl), tt));
      live = (is_linked _ _ 1 2 ∙ refl, is_linked _ _ 2 10 ∙ refl);
      back = 2 ∷ [];
      way = over_one _ _ 10 2 one_two ten_two refl refl refl;
    },
    tt,
  );
}

pub returns-clause-repeated_in_time : goal.returns-clause-repeated_in_time
unfolding computing
returns-clause-repeated_in_time c = refl

pub returns-clause-repeated_answered : goal.returns-clause-repeated_answered
unfolding computing
returns-clause-repeated_answered c = record { alone = λ calm stretch one time. refl; asleep = λ calm stretch plain time. refl; together = λ calm stretch plain time. refl }

pub returns-clause-sixteen : goal.returns-clause-sixteen
unfolding computing
returns-clause-sixteen c = refl

pub returns-clause-known : goal.returns-clause-known
unfolding computing
returns-clause-known c = refl

pub returns-clause-quiet_lines : goal.returns-clause-quiet_lines
unfolding computing
returns-clause-quiet_lines c = refl

pub returns-clause-succeeded : goal.returns-clause-succeeded
unfolding computing
returns-clause-succeeded c = refl

pub returns-clause-cancelled : goal.returns-clause-cancelled
unfolding computing
returns-clause-cancelled c = refl

pub returns-clause-sixth_failed : goal.returns-clause-sixth_failed
unfolding computing
returns-clause-sixth_failed c = refl

pub returns-clause-sixth_before : goal.returns-clause-sixth_before
unfolding computing
returns-clause-sixth_before c = refl

pub returns-clause-no_end_point : goal.returns-clause-no_end_point
unfolding computing
returns-clause-no_end_point c = refl

pub returns-clause-dimmed : goal.returns-clause-dimmed
unfolding computing
returns-clause-dimmed c = refl

pub returns-clause-begun : goal.returns-clause-begun
unfolding computing
returns-clause-begun c = refl

pub returns-clause-two_long_enough : goal.returns-clause-two_long_enough
unfolding computing
returns-clause-two_long_enough c = refl
