use Rattle.std.proofs.Common.{refl, arith}
use Rattle.law_transcript.specs.Worked.{plain_exchange, repeated_exchange, lossy_exchange, cancelled_order, restarted_host, sleeping_node, sealed_exchange, long_message}
use Rattle.law_transcript.specs.WorkedCases.{repeated_on}
use Rattle.law_transcript.proofs.Entries.{fares_in_turn}
use Rattle.law_transcript.proofs.Computing.{computing}
use Rattle.law_transcript.proofs.air.worked_fates.Goals as goal

pub returns-clause-plain : goal.returns-clause-plain
unfolding computing
returns-clause-plain c = fares_in_turn plain_exchange (refl, (refl, (refl, ((refl, omega arith), (refl, ((refl, omega arith), tt))))))

pub returns-clause-repeated : goal.returns-clause-repeated
unfolding computing
returns-clause-repeated c = fares_in_turn repeated_exchange (refl, (refl, (refl, (refl, ((refl, omega arith), (refl, ((refl, omega arith), ((refl, omega arith), (refl, ((refl, omega arith), tt))))))))))

pub returns-clause-lossy : goal.returns-clause-lossy
unfolding computing
returns-clause-lossy c = fares_in_turn lossy_exchange (
  refl,
  (
    refl,
    (
      refl,
      (
        refl,
        (
          (refl, omega arith),
          (
            refl,
            (
              (refl, omega arith),
              (
                refl,
                (
                  (refl, omega arith),
                  (
                    refl,
                    (
                      refl,
                      (
                        refl,
                        ((refl, omega arith), (refl, ((refl, omega arith), (refl, ((refl, omega arith), (refl, ((refl, omega arith), tt))))))),
                      ),
                    ),
                  ),
                ),
              ),
            ),
          ),
        ),
      ),
    ),
  ),
)

pub returns-clause-cancelled : goal.returns-clause-cancelled
unfolding computing
returns-clause-cancelled c = fares_in_turn cancelled_order (refl, (refl, (refl, (refl, (refl, (refl, ((refl, omega arith), (refl, ((refl, omega arith), tt)))))))))

pub returns-clause-restarted : goal.returns-clause-restarted
unfolding computing
returns-clause-restarted c = fares_in_turn restarted_host (refl, (refl, (refl, (refl, ((refl, omega arith), (refl, ((refl, omega arith), tt)))))))

pub returns-clause-sleeping : goal.returns-clause-sleeping
unfolding computing
returns-clause-sleeping c = fares_in_turn sleeping_node (
  refl,
  (
    refl,
    (
      refl,
      (
        refl,
        (
          refl,
          (
            refl,
            (
              (refl, omega arith),
              (
                refl,
                (
                  (refl, omega arith),
                  (
                    refl,
                    (
                      refl,
                      (
                        refl,
                        (
                          refl,
                          ((refl, omega arith), (refl, ((refl, omega arith), (refl, ((refl, omega arith), (refl, (refl, (refl, ((refl, omega arith), tt))))))))),
                        ),
                      ),
                    ),
                  ),
                ),
              ),
            ),
          ),
        ),
      ),
    ),
  ),
)

pub returns-clause-sealed : goal.returns-clause-sealed
unfolding computing
returns-clause-sealed c = fares_in_turn sealed_exchange (
  refl,
  (
    refl,
    (
      refl,
      (
        refl,
        (
          refl,
          (
            refl,
            (
              refl,
              (
                refl,
                (
                  refl,
                  (
                    (refl, omega arith),
                    (
                      refl,
                      (
                        refl,
                        (
                          (refl, omega arith),
                          (
                            refl,
                            (
                              refl,
                              (
                                (refl, omega arith),
                                (
                                  refl,
                                  (
                                    (refl, omega arith),
                                    (
                                      refl,
                                      (
                                        (refl, omega arith),
                                        (
                                          refl,
                                          (
                                            (refl, omega arith),
                                            (
                                              refl,
                                              (
                                                (refl, omega arith),
                                                (
                                                  refl,
                                                  (
                                                    (refl, omega arith),
                                                    (refl, ((refl, refl), tt)),
                                                  ),
                                                ),
                                              ),
                                            ),
                                          ),
                                        ),
                                      ),
                                    ),
                                  ),
                                ),
                              ),
                            ),
                          ),
                        ),
                      ),
                    ),
                  ),
                ),
              ),
            ),
          ),
        ),
      ),
    ),
  ),
)

pub returns-clause-cut : goal.returns-clause-cut
unfolding computing
returns-clause-cut c = fares_in_turn long_message (
  refl,
  (
    refl,
    (
      refl,
      (
        refl,
        (
          refl,
          (
            refl,
            (
              refl,
              (
                refl,
                (
                  (refl, omega arith),
                  (
                    refl,
                    (
                      (refl, omega arith),
                      (
                        refl,
                        ((refl, omega arith), ((refl, omega arith), tt)),
                      ),
                    ),
                  ),
                ),
              ),
            ),
          ),
        ),
      ),
    ),
  ),
)

pub returns-clause-again : goal.returns-clause-again
unfolding computing
returns-clause-again c = fares_in_turn repeated_on (refl, ((refl, omega arith), (refl, ((refl, refl), (refl, (refl, tt))))))
