use Rattle.std.proofs.Common.{◌≡◌, [], ◌∷◌, true, false, refl, inl, inr}
use Rattle.std.specs.Prelude.{codes}
use Rattle.zw_text.specs.declared.entry.Refusal.TheVariants as refusals
use Rattle.law_transcript.specs.Worked.{the_switch}
use Rattle.law_transcript.specs.WorkedCases.{cancel_unkept}
use Rattle.law_transcript.specs.WorkedWrongHost.{unanswered_at_last}
use Rattle.law_transcript.specs.WorkedWrongLines.{refused_so}
use Rattle.law_transcript.proofs.Entries.{answers}
use Rattle.law_transcript.proofs.Computing.{computing}
use Rattle.law_transcript.proofs.host.worked_choices.Goals as goal

not_true : false ≡ true → ⊥
not_true same = cc

pub returns-clause-stopped : goal.returns-clause-stopped
unfolding computing
returns-clause-stopped c = record {
  between = answers (the_switch ∷ []) unanswered_at_last tt;
  in_the_end = λ whole. not_true whole;
}

pub returns-clause-order_unkept : goal.returns-clause-order_unkept
unfolding computing
returns-clause-order_unkept c = record {
  between = answers (the_switch ∷ []) (refused_so (codes "set 2 on") refusals.KeeperFault) (inr (tt, refl), tt);
  in_the_end = λ whole. tt;
}

pub returns-clause-cancel_unkept : goal.returns-clause-cancel_unkept
unfolding computing
returns-clause-cancel_unkept c = record {
  between = answers (the_switch ∷ []) cancel_unkept (inl refl, (tt, tt));
  in_the_end = λ whole. tt;
}

pub returns-clause-join_unkept : goal.returns-clause-join_unkept
unfolding computing
returns-clause-join_unkept c = record {
  between = answers (the_switch ∷ []) (refused_so (codes "join 5") refusals.KeeperFault) (refl, tt);
  in_the_end = λ whole. tt;
}

pub returns-clause-restart_unkept : goal.returns-clause-restart_unkept
unfolding computing
returns-clause-restart_unkept c = record {
  between = answers (the_switch ∷ []) (refused_so (codes "restart") refusals.KeeperFault) (refl, tt);
  in_the_end = λ whole. tt;
}

pub returns-clause-bad : goal.returns-clause-bad
unfolding computing
returns-clause-bad c = record {
  between = answers (the_switch ∷ []) (refused_so (codes "restart") (refusals.BadRecord 3)) (refl, tt);
  in_the_end = λ whole. tt;
}

pub returns-clause-send : goal.returns-clause-send
unfolding computing
returns-clause-send c = record {
  between = answers (the_switch ∷ []) (refused_so (codes "send 2 on") (refusals.QueueFull 64)) ((refl, refl), tt);
  in_the_end = λ whole. tt;
}

pub returns-clause-get : goal.returns-clause-get
unfolding computing
returns-clause-get c = record {
  between = answers (the_switch ∷ []) (refused_so (codes "get 2") (refusals.QueueFull 64)) ((refl, refl), tt);
  in_the_end = λ whole. tt;
}

pub returns-clause-interview : goal.returns-clause-interview
unfolding computing
returns-clause-interview c = record {
  between = answers (the_switch ∷ []) (refused_so (codes "interview 2") (refusals.QueueFull 64)) ((refl, refl), tt);
  in_the_end = λ whole. tt;
}

pub returns-clause-discover : goal.returns-clause-discover
unfolding computing
returns-clause-discover c = record {
  between = answers (the_switch ∷ []) (refused_so (codes "discover") (refusals.QueueFull 64)) ((refl, refl), tt);
  in_the_end = λ whole. tt;
}

pub returns-clause-neighbours : goal.returns-clause-neighbours
unfolding computing
returns-clause-neighbours c = record {
  between = answers (the_switch ∷ []) (refused_so (codes "neighbours 2") (refusals.QueueFull 64)) ((refl, refl), tt);
  in_the_end = λ whole. tt;
}

pub returns-clause-failed : goal.returns-clause-failed
unfolding computing
returns-clause-failed c = record {
  between = answers (the_switch ∷ []) (refused_so (codes "failed 2") (refusals.QueueFull 64)) ((refl, refl), tt);
  in_the_end = λ whole. tt;
}

pub returns-clause-probe : goal.returns-clause-probe
unfolding computing
returns-clause-probe c = record {
  between = answers (the_switch ∷ []) (refused_so (codes "probe") (refusals.QueueFull 64)) ((refl, refl), tt);
  in_the_end = λ whole. tt;
}
