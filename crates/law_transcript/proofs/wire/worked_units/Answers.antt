use Rattle.std.proofs.Common.{refl, inl}
use Rattle.law_transcript.specs.Worked.{plain_exchange, repeated_exchange, lossy_exchange, cancelled_order, restarted_host, sleeping_node, sealed_exchange, long_message}
use Rattle.law_transcript.specs.WorkedCases.{aired_as_changed}
use Rattle.law_transcript.proofs.Entries.{carries_units}
use Rattle.law_transcript.proofs.Computing.{computing}
use Rattle.law_transcript.proofs.wire.worked_units.Goals as goal

pub returns-clause-plain : goal.returns-clause-plain
unfolding computing
returns-clause-plain c = carries_units plain_exchange (inl (refl, tt), (inl (refl, tt), tt))

pub returns-clause-repeated : goal.returns-clause-repeated
unfolding computing
returns-clause-repeated c = carries_units repeated_exchange (inl (refl, tt), (inl (refl, tt), (inl (refl, inl (refl, tt)), (inl (refl, inl (refl, tt)), tt))))

pub returns-clause-lossy : goal.returns-clause-lossy
unfolding computing
returns-clause-lossy c = carries_units lossy_exchange (
  inl (refl, tt),
  (
    inl (refl, inl (refl, tt)),
    (
      inl (refl, inl (refl, inl (refl, tt))),
      (
        inl (refl, inl (refl, inl (refl, inl (refl, tt)))),
        (
          inl (refl, inl (refl, inl (refl, inl (refl, tt)))),
          (
            inl (refl, inl (refl, inl (refl, inl (refl, inl (refl, tt))))),
            (inl (refl, inl (refl, inl (refl, inl (refl, inl (refl, tt))))), tt),
          ),
        ),
      ),
    ),
  ),
)

pub returns-clause-cancelled : goal.returns-clause-cancelled
unfolding computing
returns-clause-cancelled c = carries_units cancelled_order (inl (refl, tt), (inl (refl, tt), tt))

pub returns-clause-restarted : goal.returns-clause-restarted
unfolding computing
returns-clause-restarted c = carries_units restarted_host (inl (refl, tt), (inl (refl, tt), tt))

pub returns-clause-sleeping : goal.returns-clause-sleeping
unfolding computing
returns-clause-sleeping c = carries_units sleeping_node (tt, (inl (refl, tt), (inl (refl, tt), (inl (refl, inl (refl, tt)), (inl (refl, inl (refl, tt)), (inl (refl, inl (refl, inl (refl, tt))), tt))))))

pub returns-clause-sealed : goal.returns-clause-sealed
unfolding computing
returns-clause-sealed c = carries_units sealed_exchange (
  inl (refl, tt),
  (
    inl (refl, tt),
    (
      inl (refl, inl (refl, tt)),
      (
        inl (refl, inl (refl, tt)),
        (
          inl (refl, inl (refl, inl (refl, tt))),
          (
            inl (refl, inl (refl, inl (refl, tt))),
            (
              inl (refl, inl (refl, inl (refl, inl (refl, tt)))),
              (inl (refl, inl (refl, inl (refl, inl (refl, tt)))), tt),
            ),
          ),
        ),
      ),
    ),
  ),
)

pub returns-clause-cut : goal.returns-clause-cut
unfolding computing
returns-clause-cut c = carries_units long_message (inl (refl, tt), (inl (refl, inl (refl, tt)), (inl (refl, inl (refl, tt)), (inl (refl, inl (refl, tt)), tt))))

pub returns-clause-changed : goal.returns-clause-changed
unfolding computing
returns-clause-changed c = carries_units aired_as_changed (inl (refl, tt), tt)
