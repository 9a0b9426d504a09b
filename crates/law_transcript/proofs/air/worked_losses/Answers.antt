use Rattle.std.proofs.Common.{[], ◌∷◌, refl}
use Rattle.law_transcript.specs.Worked.{plain_exchange, repeated_exchange, lossy_exchange, cancelled_order, restarted_host, sleeping_node, sealed_exchange, long_message}
use Rattle.law_transcript.specs.WorkedCases.{lost_repeated}
use Rattle.law_transcript.proofs.Entries.{loses_marked, not_among}
use Rattle.law_transcript.proofs.Computing.{computing}
use Rattle.law_transcript.proofs.air.worked_losses.Goals as goal

pub returns-clause-plain : goal.returns-clause-plain
unfolding computing
returns-clause-plain c = loses_marked plain_exchange ((λ first has. absurd has), ((λ first has. absurd has), tt))

pub returns-clause-repeated : goal.returns-clause-repeated
unfolding computing
returns-clause-repeated c = loses_marked repeated_exchange ((λ first has. absurd has), ((λ first has. absurd has), ((λ first has. absurd has), ((λ first has. absurd has), tt))))

pub returns-clause-lossy : goal.returns-clause-lossy
unfolding computing
returns-clause-lossy c = loses_marked lossy_exchange (
  (λ first has. not_among (1 ∷ 2 ∷ 3 ∷ []) 4 refl has),
  (
    (λ first has. not_among (1 ∷ 2 ∷ 3 ∷ []) 5 refl has),
    ((λ first has. not_among (1 ∷ 2 ∷ 3 ∷ []) 6 refl has), ((λ first has. not_among (1 ∷ 2 ∷ 3 ∷ []) 7 refl has), tt)),
  ),
)

pub returns-clause-cancelled : goal.returns-clause-cancelled
unfolding computing
returns-clause-cancelled c = loses_marked cancelled_order ((λ first has. absurd has), ((λ first has. absurd has), tt))

pub returns-clause-restarted : goal.returns-clause-restarted
unfolding computing
returns-clause-restarted c = loses_marked restarted_host ((λ first has. absurd has), ((λ first has. absurd has), tt))

pub returns-clause-sleeping : goal.returns-clause-sleeping
unfolding computing
returns-clause-sleeping c = loses_marked sleeping_node (
  (λ first has. absurd has),
  (
    (λ first has. absurd has),
    (
      (λ first has. absurd has),
      (
        (λ first has. absurd has),
        ((λ first has. absurd has), ((λ first has. absurd has), tt)),
      ),
    ),
  ),
)

pub returns-clause-sealed : goal.returns-clause-sealed
unfolding computing
returns-clause-sealed c = loses_marked sealed_exchange (
  (λ first has. absurd has),
  (
    (λ first has. not_among (2 ∷ []) 3 refl has),
    (
      (λ first has. not_among (2 ∷ []) 4 refl has),
      (
        (λ first has. not_among (2 ∷ []) 5 refl has),
        (
          (λ first has. not_among (2 ∷ []) 6 refl has),
          (
            (λ first has. not_among (2 ∷ []) 7 refl has),
            ((λ first has. not_among (2 ∷ []) 8 refl has), ((λ first has. absurd first), tt)),
          ),
        ),
      ),
    ),
  ),
)

pub returns-clause-cut : goal.returns-clause-cut
unfolding computing
returns-clause-cut c = loses_marked long_message ((λ first has. absurd has), ((λ first has. absurd has), ((λ first has. absurd has), ((λ first has. absurd has), tt))))

pub returns-clause-again : goal.returns-clause-again
unfolding computing
returns-clause-again c = loses_marked lost_repeated ((λ first has. absurd first), tt)
