use Rattle.std.proofs.Common.{refl}
use Rattle.law_transcript.specs.Worked.{plain_exchange, repeated_exchange, lossy_exchange, cancelled_order, restarted_host, sleeping_node, sealed_exchange, long_message}
use Rattle.law_wire.specs.Worked.{changed_in_turn}
use Rattle.law_wire.proofs.Entries.{marks_units}
use Rattle.law_wire.proofs.Computing.{reckoning}
use Rattle.law_wire.proofs.marks.worked_marks.Goals as goal

pub returns-clause-copied : goal.returns-clause-copied
unfolding reckoning
returns-clause-copied c = (
  tt,
  (
    tt,
    (
      tt,
      (
        tt,
        (
          tt,
          (
            tt,
            (
              tt,
              (
                tt,
                (
                  tt,
                  (
                    tt,
                    (
                      tt,
                      (
                        tt,
                        (
                          tt,
                          (
                            tt,
                            (
                              tt,
                              (
                                tt,
                                (
                                  refl,
                                  (
                                    tt,
                                    (
                                      tt,
                                      (
                                        tt,
                                        (
                                          tt,
                                          (
                                            tt,
                                            (
                                              tt,
                                              (
                                                tt,
                                                (
                                                  tt,
                                                  (
                                                    tt,
                                                    tt,
                                                  ),
                                                ),
                                              ),
                                            ),
                                          ),
                                        ),
                                      ),
                                    ),
                                  ),
                                ),
                              ),
                            ),
                          ),
                        ),
                      ),
                    ),
                  ),
                ),
              ),
            ),
          ),
        ),
      ),
    ),
  ),
)

pub returns-clause-garbled : goal.returns-clause-garbled
unfolding reckoning
returns-clause-garbled c = (
  tt,
  (
    tt,
    (
      tt,
      (
        tt,
        (
          tt,
          (
            refl,
            (
              tt,
              (
                tt,
                (
                  tt,
                  (
                    tt,
                    (
                      tt,
                      (
                        tt,
                        (
                          tt,
                          (
                            tt,
                            (
                              tt,
                              (
                                tt,
                                (
                                  tt,
                                  (
                                    tt,
                                    (
                                      tt,
                                      (
                                        tt,
                                        (
                                          tt,
                                          (
                                            tt,
                                            (
                                              tt,
                                              (
                                                tt,
                                                (
                                                  tt,
                                                  (
                                                    tt,
                                                    tt,
                                                  ),
                                                ),
                                              ),
                                            ),
                                          ),
                                        ),
                                      ),
                                    ),
                                  ),
                                ),
                              ),
                            ),
                          ),
                        ),
                      ),
                    ),
                  ),
                ),
              ),
            ),
          ),
        ),
      ),
    ),
  ),
)

pub returns-clause-plain : goal.returns-clause-plain
unfolding reckoning
returns-clause-plain c = marks_units plain_exchange tt

pub returns-clause-repeated : goal.returns-clause-repeated
unfolding reckoning
returns-clause-repeated c = marks_units repeated_exchange tt

pub returns-clause-lossy : goal.returns-clause-lossy
unfolding reckoning
returns-clause-lossy c = marks_units lossy_exchange tt

pub returns-clause-cancelled : goal.returns-clause-cancelled
unfolding reckoning
returns-clause-cancelled c = marks_units cancelled_order tt

pub returns-clause-restarted : goal.returns-clause-restarted
unfolding reckoning
returns-clause-restarted c = marks_units restarted_host tt

pub returns-clause-sleeping : goal.returns-clause-sleeping
unfolding reckoning
returns-clause-sleeping c = marks_units sleeping_node tt

pub returns-clause-sealed : goal.returns-clause-sealed
unfolding reckoning
returns-clause-sealed c = marks_units sealed_exchange tt

pub returns-clause-cut : goal.returns-clause-cut
unfolding reckoning
returns-clause-cut c = marks_units long_message tt

pub returns-clause-in_turn : goal.returns-clause-in_turn
unfolding reckoning
returns-clause-in_turn c = marks_units changed_in_turn (refl, (refl, tt))
