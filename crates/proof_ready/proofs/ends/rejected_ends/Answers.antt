-- The lines are quiet, the device takes commands in sessions, and the command has a final outcome: not the one that is due. Or it has none in a stretch.
use Rattle.std.proofs.Common.{[], ◌∷◌, inl, inr, refl, ◌∙◌}
use Rattle.std.specs.Prelude.{codes}
use Rattle.zw_text.specs.declared.entry.Entry.TheVariants.{Said}
use Rattle.zw_text.specs.Transcript.{lines_run}
use Rattle.law_wire.specs.law_transcript.Nodes.{always, listing_of}
use Rattle.law_wire.specs.law_transcript.Restarts.{ticks_asked}
use Rattle.law_wire.specs.law_transcript.Worked.{the_switch}
use Rattle.law_wire.proofs.Walks.{direct, is_linked}
use Rattle.law_time.specs.Calm.{IsCalm}
use Rattle.law_time.specs.Stretches.{IsStretch}
use Rattle.law_time.specs.WrongWaits.{left_in_time}
use Rattle.law_wire.proofs.Deciding.{not_true}
use Rattle.law_time.specs.WorkedStretches.{the_thermostat, with_other}
use Rattle.law_time.proofs.Computing.{computing}
use Rattle.proof_ready.proofs.ends.rejected_ends.Goals as goal

pub returns-clause-succeeded : goal.returns-clause-succeeded
unfolding computing
returns-clause-succeeded c = λ law. not_true (law refl 6 1 the_thermostat refl refl (inl refl) refl)

pub returns-clause-failed : goal.returns-clause-failed
unfolding computing
returns-clause-failed c = λ law. not_true (law refl 6 2 the_thermostat refl refl (inr (inl refl)) refl)

-- the moment and the stretch of a switch that is left out
switch_calm : IsCalm (always (listing_of (the_switch ∷ []))) (the_switch ∷ []) [] (ticks_asked (lines_run []))
unfolding computing
switch_calm = record {
  still = record { marks = refl; judged = refl; host = refl; chip = refl; called = refl; settled = refl; air = refl; idle = refl; asleep = refl; working = refl };
  to_come = refl;
}

switch_stretch : IsStretch [] (the_switch ∷ []) [] (with_other 8 (Said (codes "tick 149")) left_in_time)
unfolding computing
switch_stretch = record {
  quiet = refl;
  kept = refl;
  reached = (record { repeaters = []; route = direct _ _ _ refl; live = is_linked _ _ 1 2 ∙ refl; back = []; way = (direct _ _ _ refl).walk }, tt);
}

pub returns-clause-left : goal.returns-clause-left
unfolding computing
returns-clause-left c = λ law. not_true (law switch_calm switch_stretch 2 (inl refl) refl)
