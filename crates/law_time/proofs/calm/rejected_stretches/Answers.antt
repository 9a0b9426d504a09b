use Rattle.std.proofs.Common.{[], ◌∷◌, refl, sym, ◌∙◌}
use Rattle.zw_text.specs.Transcript.{lines_run}
use Rattle.law_wire.specs.law_transcript.Nodes.{always, listing_of}
use Rattle.law_wire.specs.law_transcript.Restarts.{ticks_asked}
use Rattle.law_wire.specs.law_transcript.Worked.{the_switch}
use Rattle.law_wire.proofs.Walks.{apart, direct, is_linked}
use Rattle.law_time.proofs.Computing.{computing}
use Rattle.law_wire.proofs.Deciding.{not_true}
use Rattle.law_time.specs.Calm.{IsCalm}
use Rattle.law_time.specs.Stretches.{IsStretch}
use Rattle.law_time.specs.WrongWaits.{left_in_time}
use Rattle.law_time.proofs.calm.rejected_stretches.Goals as goal

pub returns-clause-lossy : goal.returns-clause-lossy
unfolding computing
returns-clause-lossy c = refl

pub returns-clause-other_key : goal.returns-clause-other_key
unfolding computing
returns-clause-other_key c = refl

pub returns-clause-other_device : goal.returns-clause-other_device
unfolding computing
returns-clause-other_device c = refl

pub returns-clause-out_of_reach : goal.returns-clause-out_of_reach
unfolding computing
returns-clause-out_of_reach c = λ law. apart _ _ _ law.reached.0.way

pub returns-clause-unwoken : goal.returns-clause-unwoken
unfolding computing
returns-clause-unwoken c = refl

pub returns-clause-idly_woken : goal.returns-clause-idly_woken
unfolding computing
returns-clause-idly_woken c = refl

pub returns-clause-too_soon : goal.returns-clause-too_soon
unfolding computing
returns-clause-too_soon c = refl

-- the moment and the stretch of a switch that is left out
switch_calm : IsCalm (always (listing_of (the_switch ∷ []))) (the_switch ∷ []) [] (ticks_asked (lines_run []))
unfolding computing
switch_calm = record {
  still = record { marks = refl; judged = refl; host = refl; chip = refl; called = refl; settled = refl; air = refl; idle = refl; asleep = refl; working = refl };
  to_come = refl;
}

switch_stretch : IsStretch [] (the_switch ∷ []) [] left_in_time
unfolding computing
switch_stretch = record {
  quiet = refl;
  kept = refl;
  reached = (record { repeaters = []; route = direct _ _ _ refl; live = is_linked _ _ 1 2 ∙ refl; back = []; way = (direct _ _ _ refl).walk }, tt);
}

pub returns-clause-missing : goal.returns-clause-missing
unfolding computing
returns-clause-missing c = λ law. not_true (law.alone switch_calm switch_stretch refl refl)

pub returns-clause-missing_together : goal.returns-clause-missing_together
unfolding computing
returns-clause-missing_together c = λ law. not_true (law.together switch_calm switch_stretch refl refl)

pub returns-clause-missing_openly : goal.returns-clause-missing_openly
unfolding computing
returns-clause-missing_openly c = λ law. not_true (law switch_calm switch_stretch refl refl)

pub returns-clause-missing_asleep : goal.returns-clause-missing_asleep
unfolding computing
returns-clause-missing_asleep c = λ law. not_true (law.asleep
    (record {
      still = record { marks = refl; judged = refl; host = refl; chip = refl; called = refl; settled = refl; air = refl; idle = refl; asleep = refl; working = refl };
      to_come = refl;
    })
    (record {
      quiet = refl;
      kept = refl;
      reached = (
        record { repeaters = []; route = direct _ _ _ refl; live = is_linked _ _ 1 5 ∙ refl; back = []; way = (direct _ _ _ refl).walk },
        tt,
      );
    })
    refl refl)

pub returns-clause-not_asleep : goal.returns-clause-not_asleep
unfolding computing
returns-clause-not_asleep c = refl

pub returns-clause-succeeded : goal.returns-clause-succeeded
unfolding computing
returns-clause-succeeded c = λ law. not_true (law.alone
    (record {
      still = record { marks = refl; judged = refl; host = refl; chip = refl; called = refl; settled = refl; air = refl; idle = refl; asleep = refl; working = refl };
      to_come = refl;
    })
    (record {
      quiet = refl;
      kept = refl;
      reached = (
        record { repeaters = []; route = direct _ _ _ refl; live = is_linked _ _ 1 6 ∙ refl; back = []; way = (direct _ _ _ refl).walk },
        tt,
      );
    })
    refl refl)

pub returns-clause-failed : goal.returns-clause-failed
unfolding computing
returns-clause-failed c = λ law. not_true (law.alone
    (record {
      still = record { marks = refl; judged = refl; host = refl; chip = refl; called = refl; settled = refl; air = refl; idle = refl; asleep = refl; working = refl };
      to_come = refl;
    })
    (record {
      quiet = refl;
      kept = refl;
      reached = (
        record { repeaters = []; route = direct _ _ _ refl; live = is_linked _ _ 1 6 ∙ refl; back = []; way = (direct _ _ _ refl).walk },
        tt,
      );
    })
    refl refl)

pub returns-clause-too_many : goal.returns-clause-too_many
unfolding computing
returns-clause-too_many c = refl

pub returns-clause-no_device : goal.returns-clause-no_device
unfolding computing
returns-clause-no_device c = refl

pub returns-clause-other_classes : goal.returns-clause-other_classes
unfolding computing
returns-clause-other_classes c = refl

pub returns-clause-other_list : goal.returns-clause-other_list
unfolding computing
returns-clause-other_list c = refl

pub returns-clause-woken_before : goal.returns-clause-woken_before
unfolding computing
returns-clause-woken_before c = refl

pub returns-clause-woken_twice : goal.returns-clause-woken_twice
unfolding computing
returns-clause-woken_twice c = refl

pub returns-clause-not_alone : goal.returns-clause-not_alone
unfolding computing
returns-clause-not_alone c = refl

pub returns-clause-not_open : goal.returns-clause-not_open
unfolding computing
returns-clause-not_open c = refl

pub returns-clause-not_plain : goal.returns-clause-not_plain
unfolding computing
returns-clause-not_plain c = refl

pub returns-clause-sealed : goal.returns-clause-sealed
unfolding computing
returns-clause-sealed c = refl

pub returns-clause-taken_to_listen : goal.returns-clause-taken_to_listen
unfolding computing
returns-clause-taken_to_listen c = refl

pub returns-clause-unjoined : goal.returns-clause-unjoined
unfolding computing
returns-clause-unjoined c = refl

pub returns-clause-ordered_late : goal.returns-clause-ordered_late
unfolding computing
returns-clause-ordered_late c = refl

pub returns-clause-woken_late : goal.returns-clause-woken_late
unfolding computing
returns-clause-woken_late c = refl

pub returns-clause-sixth_taken : goal.returns-clause-sixth_taken
unfolding computing
returns-clause-sixth_taken c = refl

pub returns-clause-failed_end_point : goal.returns-clause-failed_end_point
unfolding computing
returns-clause-failed_end_point c = refl

pub returns-clause-taken_back : goal.returns-clause-taken_back
unfolding computing
returns-clause-taken_back c = refl

pub returns-clause-in_segments : goal.returns-clause-in_segments
unfolding computing
returns-clause-in_segments c = refl

pub returns-clause-unkept : goal.returns-clause-unkept
unfolding computing
returns-clause-unkept c = λ stretch. not_true (sym stretch.kept)

pub returns-clause-order_unkept : goal.returns-clause-order_unkept
unfolding computing
returns-clause-order_unkept c = λ stretch. not_true (sym stretch.kept)

pub returns-clause-not_long_enough : goal.returns-clause-not_long_enough
unfolding computing
returns-clause-not_long_enough c = refl
