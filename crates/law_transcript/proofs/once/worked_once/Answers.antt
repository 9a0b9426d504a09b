use Rattle.std.proofs.Common.{refl, inl, arith}
use Rattle.law_transcript.proofs.Computing.{computing}
use Rattle.law_transcript.proofs.Headlines.{plain_device, repeated_device, lossy_device, cancelled_device, restarted_device, sleeping_device, sealed_device, cut_device}
use Rattle.law_transcript.proofs.once.worked_once.Goals as goal

pub returns-clause-plain : goal.returns-clause-plain
returns-clause-plain c = plain_device.once

pub returns-clause-repeated : goal.returns-clause-repeated
returns-clause-repeated c = repeated_device.once

pub returns-clause-lossy : goal.returns-clause-lossy
returns-clause-lossy c = lossy_device.once

pub returns-clause-cancelled : goal.returns-clause-cancelled
returns-clause-cancelled c = cancelled_device.once

pub returns-clause-restarted : goal.returns-clause-restarted
returns-clause-restarted c = restarted_device.once

pub returns-clause-sleeping : goal.returns-clause-sleeping
returns-clause-sleeping c = sleeping_device.once

pub returns-clause-sealed : goal.returns-clause-sealed
returns-clause-sealed c = sealed_device.once

pub returns-clause-cut : goal.returns-clause-cut
returns-clause-cut c = cut_device.once

pub returns-clause-unanswered : goal.returns-clause-unanswered
unfolding computing
returns-clause-unanswered c = record {
  changes = record {
    sessions_rise = (tt, tt);
    sessions_begun = ((omega arith, omega arith), tt);
    settings = ((refl, tt), tt);
    never_plain = (λ by. cc, tt);
  };
  carries = record {
    commands_rise = (tt, tt);
    commands_accepted = (inl refl, tt);
  };
  ends = record {
    successful = (λ success. absurd cc, tt);
    undone = (λ undone has. undone, tt);
  };
}

pub returns-clause-unchanged : goal.returns-clause-unchanged
unfolding computing
returns-clause-unchanged c = record {
  changes = record {
    sessions_rise = tt;
    sessions_begun = tt;
    settings = tt;
    never_plain = tt;
  };
  carries = record {
    commands_rise = (tt, tt);
    commands_accepted = (inl refl, tt);
  };
  ends = record {
    successful = (λ success. absurd cc, tt);
    undone = (λ undone has. undone, tt);
  };
}
