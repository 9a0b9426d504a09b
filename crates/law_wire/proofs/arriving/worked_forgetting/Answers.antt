use Rattle.std.proofs.Common.{refl}
use Rattle.law_transcript.specs.Worked.{plain_exchange, repeated_exchange, lossy_exchange, cancelled_order, restarted_host, sleeping_node, sealed_exchange, long_message}
use Rattle.law_wire.proofs.Entries.{forgets_dead_hops}
use Rattle.law_wire.proofs.Computing.{reckoning}
use Rattle.law_wire.proofs.arriving.worked_forgetting.Goals as goal

pub returns-clause-rerouted : goal.returns-clause-rerouted
unfolding reckoning
returns-clause-rerouted c = (
  tt,
  (
    tt,
    (
      tt,
      (
        tt,
        (
          tt,
          (
            tt,
            (
              tt,
              (
                tt,
                (
                  tt,
                  (
                    tt,
                    (
                      tt,
                      (
                        tt,
                        (
                          tt,
                          (
                            tt,
                            (
                              tt,
                              (
                                tt,
                                (
                                  tt,
                                  (
                                    tt,
                                    (
                                      tt,
                                      (
                                        tt,
                                        (
                                          tt,
                                          (
                                            tt,
                                            (
                                              tt,
                                              (
                                                tt,
                                                (
                                                  tt,
                                                  (
                                                    tt,
                                                    (
                                                      tt,
                                                      (
                                                        tt,
                                                        (
                                                          tt,
                                                          (
                                                            tt,
                                                            (
                                                              tt,
                                                              (
                                                                refl,
                                                                (
                                                                  tt,
                                                                  (
                                                                    tt,
                                                                    (
                                                                      tt,
                                                                      (
                                                                        tt,
                                                                        (
                                                                          tt,
                                                                          (
                                                                            tt,
                                                                            (
                                                                              tt,
                                                                              (
                                                                                tt,
                                                                                (
                                                                                  tt,
                                                                                  (
                                                                                    tt,
                                                                                    (
                                                                                      tt,
                                                                                      (
                                                                                        tt,
                                                                                        (
                                                                                          tt,
                                                                                          (
                                                                                            tt,
                                                                                            (
                                                                                              tt,
                                                                                              (
                                                                                                tt,
                                                                                                (
                                                                                                  tt,
                                                                                                  (
                                                                                                    tt,
                                                                                                    (
                                                                                                      tt,
                                                                                                      tt,
                                                                                                    ),
                                                                                                  ),
                                                                                                ),
                                                                                              ),
                                                                                            ),
                                                                                          ),
                                                                                        ),
                                                                                      ),
                                                                                    ),
                                                                                  ),
                                                                                ),
                                                                              ),
                                                                            ),
                                                                          ),
                                                                        ),
                                                                      ),
                                                                    ),
                                                                  ),
                                                                ),
                                                              ),
                                                            ),
                                                          ),
                                                        ),
                                                      ),
                                                    ),
                                                  ),
                                                ),
                                              ),
                                            ),
                                          ),
                                        ),
                                      ),
                                    ),
                                  ),
                                ),
                              ),
                            ),
                          ),
                        ),
                      ),
                    ),
                  ),
                ),
              ),
            ),
          ),
        ),
      ),
    ),
  ),
)

pub returns-clause-asleep : goal.returns-clause-asleep
unfolding reckoning
returns-clause-asleep c = (
  tt,
  (
    tt,
    (
      tt,
      (
        tt,
        (
          tt,
          (
            tt,
            (
              tt,
              (
                tt,
                (
                  tt,
                  (
                    tt,
                    (
                      tt,
                      (
                        tt,
                        (
                          tt,
                          (
                            tt,
                            (
                              tt,
                              (
                                tt,
                                (
                                  tt,
                                  (
                                    tt,
                                    (
                                      tt,
                                      (
                                        tt,
                                        (
                                          tt,
                                          (
                                            tt,
                                            (
                                              tt,
                                              (
                                                tt,
                                                (
                                                  tt,
                                                  (
                                                    tt,
                                                    (
                                                      tt,
                                                      (
                                                        tt,
                                                        (
                                                          tt,
                                                          (tt, (tt, (tt, (tt, (tt, (tt, (tt, (tt, (tt, (tt, (tt, (tt, (tt, (tt, (tt, tt))))))))))))))),
                                                        ),
                                                      ),
                                                    ),
                                                  ),
                                                ),
                                              ),
                                            ),
                                          ),
                                        ),
                                      ),
                                    ),
                                  ),
                                ),
                              ),
                            ),
                          ),
                        ),
                      ),
                    ),
                  ),
                ),
              ),
            ),
          ),
        ),
      ),
    ),
  ),
)

pub returns-clause-plain : goal.returns-clause-plain
unfolding reckoning
returns-clause-plain c = forgets_dead_hops plain_exchange tt

pub returns-clause-repeated : goal.returns-clause-repeated
unfolding reckoning
returns-clause-repeated c = forgets_dead_hops repeated_exchange tt

pub returns-clause-lossy : goal.returns-clause-lossy
unfolding reckoning
returns-clause-lossy c = forgets_dead_hops lossy_exchange tt

pub returns-clause-cancelled : goal.returns-clause-cancelled
unfolding reckoning
returns-clause-cancelled c = forgets_dead_hops cancelled_order tt

pub returns-clause-restarted : goal.returns-clause-restarted
unfolding reckoning
returns-clause-restarted c = forgets_dead_hops restarted_host tt

pub returns-clause-sleeping : goal.returns-clause-sleeping
unfolding reckoning
returns-clause-sleeping c = forgets_dead_hops sleeping_node tt

pub returns-clause-sealed : goal.returns-clause-sealed
unfolding reckoning
returns-clause-sealed c = forgets_dead_hops sealed_exchange tt

pub returns-clause-cut : goal.returns-clause-cut
unfolding reckoning
returns-clause-cut c = forgets_dead_hops long_message tt
