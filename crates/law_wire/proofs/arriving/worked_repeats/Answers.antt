use Rattle.std.proofs.Common.{refl, [], ◌∷◌}
use Rattle.law_transcript.specs.Worked.{plain_exchange, repeated_exchange, lossy_exchange, cancelled_order, restarted_host, sleeping_node, sealed_exchange, long_message, the_lock, the_plug, the_sensor, the_switch}
use Rattle.law_wire.proofs.Entries.{repeats_what_is_asked}
use Rattle.law_wire.proofs.Computing.{reckoning}
use Rattle.law_wire.proofs.arriving.worked_repeats.Goals as goal

pub returns-clause-twice : goal.returns-clause-twice
unfolding reckoning
returns-clause-twice c = (
  tt,
  (
    tt,
    (
      tt,
      (
        tt,
        (
          tt,
          (
            tt,
            (
              tt,
              (
                tt,
                (
                  tt,
                  (
                    tt,
                    (
                      tt,
                      (
                        tt,
                        (
                          tt,
                          (
                            tt,
                            (
                              tt,
                              (
                                tt,
                                (
                                  tt,
                                  (
                                    tt,
                                    (
                                      tt,
                                      (
                                        tt,
                                        (
                                          tt,
                                          (
                                            tt,
                                            (
                                              tt,
                                              (
                                                tt,
                                                (
                                                  tt,
                                                  (
                                                    tt,
                                                    (λ fresh hears. refl, (tt, tt)),
                                                  ),
                                                ),
                                              ),
                                            ),
                                          ),
                                        ),
                                      ),
                                    ),
                                  ),
                                ),
                              ),
                            ),
                          ),
                        ),
                      ),
                    ),
                  ),
                ),
              ),
            ),
          ),
        ),
      ),
    ),
  ),
)

pub returns-clause-plain : goal.returns-clause-plain
unfolding reckoning
returns-clause-plain c = repeats_what_is_asked (the_switch ∷ []) plain_exchange tt

pub returns-clause-repeated : goal.returns-clause-repeated
unfolding reckoning
returns-clause-repeated c = repeats_what_is_asked (the_switch ∷ []) repeated_exchange tt

pub returns-clause-lossy : goal.returns-clause-lossy
unfolding reckoning
returns-clause-lossy c = repeats_what_is_asked (the_switch ∷ []) lossy_exchange tt

pub returns-clause-cancelled : goal.returns-clause-cancelled
unfolding reckoning
returns-clause-cancelled c = repeats_what_is_asked (the_switch ∷ []) cancelled_order tt

pub returns-clause-restarted : goal.returns-clause-restarted
unfolding reckoning
returns-clause-restarted c = repeats_what_is_asked (the_switch ∷ []) restarted_host tt

pub returns-clause-sleeping : goal.returns-clause-sleeping
unfolding reckoning
returns-clause-sleeping c = repeats_what_is_asked (the_sensor ∷ []) sleeping_node tt

pub returns-clause-sealed : goal.returns-clause-sealed
unfolding reckoning
returns-clause-sealed c = repeats_what_is_asked (the_lock ∷ []) sealed_exchange ((λ fresh hears. refl), tt)

pub returns-clause-cut : goal.returns-clause-cut
unfolding reckoning
returns-clause-cut c = repeats_what_is_asked (the_plug ∷ []) long_message tt
