use Rattle.std.proofs.Common.{[], ◌∷◌, refl, inl}
use Rattle.law_transcript.specs.Worked.{plain_exchange, repeated_exchange, lossy_exchange, cancelled_order, restarted_host, sleeping_node, sealed_exchange, long_message, refused_lines, the_switch, the_sensor, the_lock, the_plug}
use Rattle.law_transcript.proofs.Entries.{answers}
use Rattle.law_transcript.proofs.Computing.{computing}
use Rattle.law_transcript.proofs.host.worked_answers.Goals as goal

pub returns-clause-plain : goal.returns-clause-plain
unfolding computing
returns-clause-plain c = record {
  between = answers (the_switch ∷ []) plain_exchange (inl refl, (tt, tt));
  in_the_end = λ whole. tt;
}

pub returns-clause-repeated : goal.returns-clause-repeated
unfolding computing
returns-clause-repeated c = record {
  between = answers (the_switch ∷ []) repeated_exchange (tt, (inl refl, (tt, tt)));
  in_the_end = λ whole. tt;
}

pub returns-clause-lossy : goal.returns-clause-lossy
unfolding computing
returns-clause-lossy c = record {
  between = answers (the_switch ∷ []) lossy_exchange (tt, (inl refl, (tt, (inl refl, (tt, tt)))));
  in_the_end = λ whole. tt;
}

pub returns-clause-cancelled : goal.returns-clause-cancelled
unfolding computing
returns-clause-cancelled c = record {
  between = answers (the_switch ∷ []) cancelled_order (inl refl, (inl refl, (refl, (refl, (tt, tt)))));
  in_the_end = λ whole. tt;
}

pub returns-clause-restarted : goal.returns-clause-restarted
unfolding computing
returns-clause-restarted c = record {
  between = answers (the_switch ∷ []) restarted_host (inl refl, (tt, (tt, tt)));
  in_the_end = λ whole. tt;
}

pub returns-clause-sleeping : goal.returns-clause-sleeping
unfolding computing
returns-clause-sleeping c = record {
  between = answers (the_sensor ∷ []) sleeping_node (tt, (tt, (tt, (tt, (tt, (inl refl, (tt, (tt, (inl refl, (tt, tt))))))))));
  in_the_end = λ whole. tt;
}

pub returns-clause-sealed : goal.returns-clause-sealed
unfolding computing
returns-clause-sealed c = record {
  between = answers (the_lock ∷ []) sealed_exchange (tt, (tt, (tt, (tt, (inl refl, (tt, (tt, (tt, (tt, tt)))))))));
  in_the_end = λ whole. tt;
}

pub returns-clause-cut : goal.returns-clause-cut
unfolding computing
returns-clause-cut c = record {
  between = answers (the_plug ∷ []) long_message (tt, (tt, (tt, (tt, (inl refl, (tt, tt))))));
  in_the_end = λ whole. tt;
}

pub returns-clause-refused : goal.returns-clause-refused
unfolding computing
returns-clause-refused c = record {
  between = answers (the_switch ∷ []) refused_lines (inl refl, (tt, (inl refl, (inl refl, (refl, (refl, (refl, (refl, (refl, tt)))))))));
  in_the_end = λ whole. tt;
}
