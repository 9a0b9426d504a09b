use Rattle.law_time.specs.Heeds.{heeds_of}
use Rattle.std.proofs.Common.{[], ◌∷◌, refl}
use Rattle.law_time.specs.Queue.{may_queue}
use Rattle.law_time.specs.Choice.{may_follow, may_number, may_send}
use Rattle.law_time.specs.Unanswered.{may_give_up}
use Rattle.law_time.specs.Rests.{may_rest}
use Rattle.law_wire.specs.law_transcript.Worked.{plain_exchange, the_switch}
use Rattle.law_time.proofs.Computing.{computing}
use Rattle.law_wire.proofs.Deciding.{kept}
use Rattle.law_time.proofs.waits.worked_prompt.Goals as goal

pub returns : goal.returns
unfolding computing
returns c = record {
  fits = kept (may_queue (heeds_of (the_switch ∷ []))) plain_exchange refl;
  turn = kept (may_send (heeds_of (the_switch ∷ []))) plain_exchange refl;
  one_by_one = kept may_follow plain_exchange refl;
  numbers = kept may_number plain_exchange refl;
  begins = (tt, (tt, (tt, (refl, (tt, (tt, (tt, (tt, (tt, (tt, (tt, (tt, (tt, (tt, (tt, (tt, (tt, (tt, (tt, (tt, (tt, (tt, tt))))))))))))))))))))));
  gives_up = record { between = kept (may_give_up (heeds_of (the_switch ∷ []))) plain_exchange refl; in_the_end = λ whole. refl };
  rests = record { between = kept (may_rest (heeds_of (the_switch ∷ []))) plain_exchange refl; in_the_end = λ whole. refl };
}
