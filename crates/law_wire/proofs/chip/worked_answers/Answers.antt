use Rattle.std.proofs.Common.{[], refl, inl, inr}
use Rattle.law_wire.proofs.Computing.{reckoning}
use Rattle.law_wire.proofs.Serving.{repeated_answers, lossy_answers, cancelled_answers, restarted_answers, sleeping_answers, sealed_answers, cut_answers}
use Rattle.law_wire.proofs.Plain.{plain_answers}
use Rattle.law_wire.proofs.Walks.{direct, cannot_tell}
use Rattle.law_wire.proofs.chip.worked_answers.Goals as goal

pub returns-clause-plain : goal.returns-clause-plain
returns-clause-plain c = plain_answers

pub returns-clause-unroutable : goal.returns-clause-unroutable
unfolding reckoning
returns-clause-unroutable c = (
  tt,
  (
    tt,
    (
      tt,
      (
        tt,
        (
          (refl, tt),
          (
            tt,
            (
              tt,
              (
                tt,
                (
                  tt,
                  (
                    tt,
                    (
                      tt,
                      (
                        (refl, (refl, tt)),
                        (
                          tt,
                          (
                            tt,
                            (
                              tt,
                              (
                                (refl, (refl, (refl, tt))),
                                (
                                  tt,
                                  (
                                    tt,
                                    (
                                      tt,
                                      ((refl, (refl, (refl, (refl, tt)))), (tt, tt)),
                                    ),
                                  ),
                                ),
                              ),
                            ),
                          ),
                        ),
                      ),
                    ),
                  ),
                ),
              ),
            ),
          ),
        ),
      ),
    ),
  ),
)

pub returns-clause-untold : goal.returns-clause-untold
unfolding reckoning
returns-clause-untold c = (
  tt,
  (
    tt,
    (
      tt,
      (
        tt,
        (
          (refl, tt),
          (
            tt,
            (
              tt,
              (
                tt,
                (
                  (refl, (refl, tt)),
                  (
                    tt,
                    (
                      tt,
                      (
                        tt,
                        ((refl, (refl, (inr ((λ can. cannot_tell _ can.way can.route), refl), tt))), (tt, (tt, tt))),
                      ),
                    ),
                  ),
                ),
              ),
            ),
          ),
        ),
      ),
    ),
  ),
)

pub returns-clause-asleep : goal.returns-clause-asleep
unfolding reckoning
returns-clause-asleep c = (
  tt,
  (
    tt,
    (
      tt,
      (
        tt,
        (
          tt,
          (
            tt,
            (
              tt,
              (
                (refl, tt),
                (
                  tt,
                  (
                    tt,
                    (
                      tt,
                      (
                        (refl, (refl, tt)),
                        (
                          tt,
                          (
                            tt,
                            (
                              tt,
                              (
                                tt,
                                (
                                  (refl, (refl, (refl, tt))),
                                  (
                                    tt,
                                    (
                                      tt,
                                      (
                                        (refl, (refl, (refl, (inl (record { joined = refl; way = []; route = (direct _ _ 5 refl).walk; awake = refl }, refl), tt)))),
                                        (
                                          tt,
                                          (
                                            tt,
                                            (
                                              tt,
                                              (
                                                tt,
                                                (
                                                  (refl, (refl, (refl, (inl (record { joined = refl; way = []; route = (direct _ _ 5 refl).walk; awake = refl }, refl), (refl, tt))))),
                                                  (
                                                    tt,
                                                    (
                                                      tt,
                                                      (
                                                        tt,
                                                        (
                                                          tt,
                                                          (
                                                            (refl, (refl, (refl, (inl (record { joined = refl; way = []; route = (direct _ _ 5 refl).walk; awake = refl }, refl), (refl, (refl, tt)))))),
                                                            (
                                                              tt,
                                                              (
                                                                tt,
                                                                (
                                                                  tt,
                                                                  (
                                                                    tt,
                                                                    (
                                                                      tt,
                                                                      (
                                                                        (refl, (refl, (refl, (inl (record { joined = refl; way = []; route = (direct _ _ 5 refl).walk; awake = refl }, refl), (refl, (refl, (refl, tt))))))),
                                                                        (
                                                                          tt,
                                                                          (
                                                                            tt,
                                                                            (
                                                                              tt,
                                                                              (
                                                                                tt,
                                                                                (
                                                                                  tt,
                                                                                  (
                                                                                    (refl, (refl, (refl, (inl (record { joined = refl; way = []; route = (direct _ _ 5 refl).walk; awake = refl }, refl), (refl, (refl, (refl, (refl, tt)))))))),
                                                                                    (tt, (tt, tt)),
                                                                                  ),
                                                                                ),
                                                                              ),
                                                                            ),
                                                                          ),
                                                                        ),
                                                                      ),
                                                                    ),
                                                                  ),
                                                                ),
                                                              ),
                                                            ),
                                                          ),
                                                        ),
                                                      ),
                                                    ),
                                                  ),
                                                ),
                                              ),
                                            ),
                                          ),
                                        ),
                                      ),
                                    ),
                                  ),
                                ),
                              ),
                            ),
                          ),
                        ),
                      ),
                    ),
                  ),
                ),
              ),
            ),
          ),
        ),
      ),
    ),
  ),
)

pub returns-clause-restarted : goal.returns-clause-restarted
returns-clause-restarted c = restarted_answers

pub returns-clause-aborted : goal.returns-clause-aborted
unfolding reckoning
returns-clause-aborted c =
    (tt, (tt, (tt, (tt, (tt, ((refl, tt), (tt, (tt, (tt, (tt, ((refl, (refl, tt)), (tt, (tt, (tt, (tt, (tt, (tt, tt)))))))))))))))))

pub returns-clause-questions : goal.returns-clause-questions
unfolding reckoning
returns-clause-questions c = (
  tt,
  (
    tt,
    (
      tt,
      (
        tt,
        (
          tt,
          (
            (refl, tt),
            (
              tt,
              (
                tt,
                (
                  tt,
                  (
                    tt,
                    (
                      (refl, (refl, tt)),
                      (
                        tt,
                        (
                          tt,
                          (
                            tt,
                            (
                              tt,
                              (
                                tt,
                                (
                                  (refl, (refl, (refl, tt))),
                                  (
                                    tt,
                                    (
                                      tt,
                                      (
                                        tt,
                                        (
                                          tt,
                                          (
                                            tt,
                                            (
                                              (refl, (refl, (refl, (refl, tt)))),
                                              (
                                                tt,
                                                (
                                                  tt,
                                                  (
                                                    tt,
                                                    (
                                                      (refl, (refl, (refl, (refl, (refl, tt))))),
                                                      (
                                                        tt,
                                                        (
                                                          tt,
                                                          (
                                                            tt,
                                                            ((refl, (refl, (refl, (refl, (refl, (refl, tt)))))), (tt, tt)),
                                                          ),
                                                        ),
                                                      ),
                                                    ),
                                                  ),
                                                ),
                                              ),
                                            ),
                                          ),
                                        ),
                                      ),
                                    ),
                                  ),
                                ),
                              ),
                            ),
                          ),
                        ),
                      ),
                    ),
                  ),
                ),
              ),
            ),
          ),
        ),
      ),
    ),
  ),
)

pub returns-clause-copied : goal.returns-clause-copied
unfolding reckoning
returns-clause-copied c = (
  tt,
  (
    tt,
    (
      tt,
      (
        tt,
        (
          tt,
          (
            (refl, tt),
            (
              tt,
              (
                tt,
                (
                  tt,
                  (
                    tt,
                    (
                      tt,
                      (
                        tt,
                        (
                          tt,
                          (
                            tt,
                            (
                              (refl, (refl, tt)),
                              (
                                tt,
                                (
                                  tt,
                                  (
                                    tt,
                                    (
                                      tt,
                                      (
                                        tt,
                                        (
                                          tt,
                                          (
                                            tt,
                                            ((refl, (refl, (refl, tt))), (tt, (tt, (tt, tt)))),
                                          ),
                                        ),
                                      ),
                                    ),
                                  ),
                                ),
                              ),
                            ),
                          ),
                        ),
                      ),
                    ),
                  ),
                ),
              ),
            ),
          ),
        ),
      ),
    ),
  ),
)

pub returns-clause-repeated : goal.returns-clause-repeated
returns-clause-repeated c = repeated_answers

pub returns-clause-lossy : goal.returns-clause-lossy
returns-clause-lossy c = lossy_answers

pub returns-clause-cancelled : goal.returns-clause-cancelled
returns-clause-cancelled c = cancelled_answers

pub returns-clause-sleeping : goal.returns-clause-sleeping
returns-clause-sleeping c = sleeping_answers

pub returns-clause-sealed : goal.returns-clause-sealed
returns-clause-sealed c = sealed_answers

pub returns-clause-cut : goal.returns-clause-cut
returns-clause-cut c = cut_answers
