use Rattle.std.proofs.Common.{refl, [], ◌∷◌}
use Rattle.std.specs.Prelude.{true}
use Rattle.law_transcript.specs.Worked.{plain_exchange, repeated_exchange, lossy_exchange, cancelled_order, restarted_host, sleeping_node, sealed_exchange, long_message, the_switch, the_sensor, the_lock, the_plug}
use Rattle.law_wire.specs.Serial.{ended}
use Rattle.law_wire.specs.Asked.{course_of}
use Rattle.law_wire.specs.WorkedCourses.{chip_history, without_copies, passed_in_repeated, passed_in_lossy, passed_in_cancelled, passed_in_restarted, passed_in_sleeping, passed_in_sealed, passed_in_cut}
use Rattle.law_wire.proofs.Computing.{reckoning}
use Rattle.law_wire.proofs.Entries.{drops_when_few}
use Rattle.law_wire.proofs.Judging.{keeps_link}
use Rattle.law_wire.proofs.Linked.{plain_chip, repeated_chip, lossy_chip, cancelled_chip, restarted_chip, sleeping_chip, sealed_chip, cut_chip}
use Rattle.law_wire.proofs.Plain.{plain_collides, plain_airs, plain_answers}
use Rattle.law_wire.proofs.Serving.{serves, airs_to_the_end, repeated_collides, repeated_airs, repeated_answers, lossy_collides, lossy_airs, lossy_answers, cancelled_collides, cancelled_airs, cancelled_answers, restarted_collides, restarted_airs, restarted_answers, sleeping_collides, sleeping_airs, sleeping_answers, sealed_collides, sealed_airs, sealed_answers, cut_collides, cut_airs, cut_answers}
use Rattle.law_wire.proofs.links.worked_service.Goals as goal

pub returns-clause-plain : goal.returns-clause-plain
unfolding reckoning keeps_link plain_chip
returns-clause-plain c =
    serves (the_switch ∷ []) plain_exchange (course_of chip_history) plain_chip refl plain_collides
    (airs_to_the_end (the_switch ∷ []) (course_of chip_history) plain_exchange plain_airs tt) plain_answers
    (drops_when_few (the_switch ∷ []) (course_of chip_history) (ended true plain_exchange) refl refl)
    (refl, (refl, (refl, (refl, (refl, tt)))))

pub returns-clause-repeated : goal.returns-clause-repeated
unfolding reckoning keeps_link repeated_chip
returns-clause-repeated c =
    serves (the_switch ∷ []) repeated_exchange (without_copies passed_in_repeated repeated_exchange) repeated_chip refl repeated_collides
    (airs_to_the_end (the_switch ∷ []) (without_copies passed_in_repeated repeated_exchange) repeated_exchange repeated_airs tt) repeated_answers
    (drops_when_few (the_switch ∷ []) (without_copies passed_in_repeated repeated_exchange) (ended true repeated_exchange) refl refl)
    (refl, (refl, (refl, (refl, (refl, (refl, (refl, tt)))))))

pub returns-clause-lossy : goal.returns-clause-lossy
unfolding reckoning keeps_link lossy_chip
returns-clause-lossy c =
    serves (the_switch ∷ []) lossy_exchange (without_copies passed_in_lossy lossy_exchange) lossy_chip refl lossy_collides
    (airs_to_the_end (the_switch ∷ []) (without_copies passed_in_lossy lossy_exchange) lossy_exchange lossy_airs tt) lossy_answers
    (drops_when_few (the_switch ∷ []) (without_copies passed_in_lossy lossy_exchange) (ended true lossy_exchange) refl refl)
    (refl, (refl, (refl, (refl, (refl, (refl, (refl, (refl, (refl, (refl, (refl, (refl, (refl, tt)))))))))))))

pub returns-clause-cancelled : goal.returns-clause-cancelled
unfolding reckoning keeps_link cancelled_chip
returns-clause-cancelled c =
    serves (the_switch ∷ []) cancelled_order (without_copies passed_in_cancelled cancelled_order) cancelled_chip refl cancelled_collides
    (airs_to_the_end (the_switch ∷ []) (without_copies passed_in_cancelled cancelled_order) cancelled_order cancelled_airs tt) cancelled_answers
    (drops_when_few (the_switch ∷ []) (without_copies passed_in_cancelled cancelled_order) (ended true cancelled_order) refl refl)
    (refl, (refl, (refl, (refl, (refl, (refl, (refl, (refl, tt))))))))

pub returns-clause-restarted : goal.returns-clause-restarted
unfolding reckoning keeps_link restarted_chip
returns-clause-restarted c =
    serves (the_switch ∷ []) restarted_host (without_copies passed_in_restarted restarted_host) restarted_chip refl restarted_collides
    (airs_to_the_end (the_switch ∷ []) (without_copies passed_in_restarted restarted_host) restarted_host restarted_airs tt) restarted_answers
    (drops_when_few (the_switch ∷ []) (without_copies passed_in_restarted restarted_host) (ended true restarted_host) refl refl)
    (refl, (refl, (refl, (refl, (refl, (refl, tt))))))

pub returns-clause-sleeping : goal.returns-clause-sleeping
unfolding reckoning keeps_link sleeping_chip
returns-clause-sleeping c =
    serves (the_sensor ∷ []) sleeping_node (without_copies passed_in_sleeping sleeping_node) sleeping_chip refl sleeping_collides
    (airs_to_the_end (the_sensor ∷ []) (without_copies passed_in_sleeping sleeping_node) sleeping_node sleeping_airs tt) sleeping_answers
    (drops_when_few (the_sensor ∷ []) (without_copies passed_in_sleeping sleeping_node) (ended true sleeping_node) refl refl)
    (refl, (refl, (refl, (refl, (refl, (refl, (refl, (refl, (refl, (refl, (refl, (refl, (refl, (refl, (refl, (refl, (refl, tt)))))))))))))))))

pub returns-clause-sealed : goal.returns-clause-sealed
unfolding reckoning keeps_link sealed_chip
returns-clause-sealed c =
    serves (the_lock ∷ []) sealed_exchange (without_copies passed_in_sealed sealed_exchange) sealed_chip refl sealed_collides
    (airs_to_the_end (the_lock ∷ []) (without_copies passed_in_sealed sealed_exchange) sealed_exchange sealed_airs tt) sealed_answers
    (drops_when_few (the_lock ∷ []) (without_copies passed_in_sealed sealed_exchange) (ended true sealed_exchange) refl refl)
    (refl, (refl, (refl, (refl, (refl, (refl, (refl, (refl, (refl, (refl, (refl, (refl, (refl, (refl, (refl, (refl, (refl, (refl, (refl, (refl, tt))))))))))))))))))))

pub returns-clause-cut : goal.returns-clause-cut
unfolding reckoning keeps_link cut_chip
returns-clause-cut c =
    serves (the_plug ∷ []) long_message (without_copies passed_in_cut long_message) cut_chip refl cut_collides
    (airs_to_the_end (the_plug ∷ []) (without_copies passed_in_cut long_message) long_message cut_airs tt) cut_answers
    (drops_when_few (the_plug ∷ []) (without_copies passed_in_cut long_message) (ended true long_message) refl refl)
    (refl, (refl, (refl, (refl, (refl, (refl, (refl, (refl, (refl, (refl, (refl, tt)))))))))))
