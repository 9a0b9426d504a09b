use Rattle.std.proofs.Common.{refl, [], ◌∷◌}
use Rattle.law_transcript.specs.Worked.{plain_exchange, repeated_exchange, lossy_exchange, cancelled_order, restarted_host, sleeping_node, sealed_exchange, long_message, the_plug, the_sensor, the_switch}
use Rattle.law_wire.proofs.Entries.{meets_what_is_due}
use Rattle.std.specs.Prelude.{take}
use Rattle.zw_text.specs.declared.entry.Entry.TheVariants.{Heard}
use Rattle.law_transcript.specs.WorkedDevices.{the_keyed_lock}
use Rattle.law_wire.specs.Arriving.{MayMeet}
use Rattle.law_wire.specs.Listening.{IsUp}
use Rattle.law_wire.proofs.Listening.{listener_hears, listener_hears_again}
use Rattle.transport_segments.specs.Places.{written, IsFull}
use Rattle.transport_segments.specs.Taking.{taken_at, kept_after}
use Rattle.law_transcript.specs.device_stack.Hearing.{hears_in_segments, hears_segment}
use Rattle.law_wire.proofs.Computing.{reckoning}
use Rattle.law_wire.proofs.arriving.worked_arrivals.Goals as goal

pub returns-clause-rerouted : goal.returns-clause-rerouted
unfolding reckoning
returns-clause-rerouted c = (
  tt,
  (
    tt,
    (
      tt,
      (
        tt,
        (
          tt,
          (
            tt,
            (
              tt,
              (
                tt,
                (
                  tt,
                  (
                    tt,
                    (
                      tt,
                      (
                        tt,
                        (
                          tt,
                          (
                            tt,
                            (
                              tt,
                              (
                                tt,
                                (
                                  tt,
                                  (
                                    tt,
                                    (
                                      tt,
                                      (
                                        tt,
                                        (
                                          tt,
                                          (
                                            tt,
                                            (
                                              tt,
                                              (
                                                tt,
                                                (
                                                  tt,
                                                  (
                                                    tt,
                                                    (
                                                      tt,
                                                      (
                                                        tt,
                                                        (
                                                          tt,
                                                          (
                                                            tt,
                                                            (
                                                              refl,
                                                              (
                                                                tt,
                                                                (
                                                                  tt,
                                                                  (
                                                                    tt,
                                                                    (
                                                                      tt,
                                                                      (
                                                                        tt,
                                                                        (
                                                                          tt,
                                                                          (
                                                                            tt,
                                                                            (
                                                                              tt,
                                                                              (
                                                                                tt,
                                                                                (
                                                                                  refl,
                                                                                  (
                                                                                    tt,
                                                                                    (
                                                                                      tt,
                                                                                      (
                                                                                        tt,
                                                                                        (
                                                                                          tt,
                                                                                          (
                                                                                            tt,
                                                                                            (
                                                                                              refl,
                                                                                              (
                                                                                                tt,
                                                                                                (
                                                                                                  tt,
                                                                                                  (
                                                                                                    tt,
                                                                                                    (
                                                                                                      tt,
                                                                                                      tt,
                                                                                                    ),
                                                                                                  ),
                                                                                                ),
                                                                                              ),
                                                                                            ),
                                                                                          ),
                                                                                        ),
                                                                                      ),
                                                                                    ),
                                                                                  ),
                                                                                ),
                                                                              ),
                                                                            ),
                                                                          ),
                                                                        ),
                                                                      ),
                                                                    ),
                                                                  ),
                                                                ),
                                                              ),
                                                            ),
                                                          ),
                                                        ),
                                                      ),
                                                    ),
                                                  ),
                                                ),
                                              ),
                                            ),
                                          ),
                                        ),
                                      ),
                                    ),
                                  ),
                                ),
                              ),
                            ),
                          ),
                        ),
                      ),
                    ),
                  ),
                ),
              ),
            ),
          ),
        ),
      ),
    ),
  ),
)

pub returns-clause-cut_off : goal.returns-clause-cut_off
unfolding reckoning
returns-clause-cut_off c =
    (tt, (tt, (tt, (tt, (tt, (tt, (refl, tt)))))))

pub returns-clause-asleep : goal.returns-clause-asleep
unfolding reckoning
returns-clause-asleep c = (
  tt,
  (
    tt,
    (
      tt,
      (
        tt,
        (
          tt,
          (
            tt,
            (
              tt,
              (
                tt,
                (
                  tt,
                  (
                    tt,
                    (
                      tt,
                      (
                        tt,
                        (
                          tt,
                          (
                            tt,
                            (
                              tt,
                              (
                                refl,
                                (
                                  tt,
                                  (
                                    tt,
                                    (
                                      tt,
                                      (
                                        tt,
                                        (
                                          tt,
                                          (
                                            tt,
                                            (
                                              tt,
                                              (
                                                tt,
                                                (
                                                  tt,
                                                  (
                                                    tt,
                                                    (
                                                      tt,
                                                      (
                                                        tt,
                                                        (refl, (tt, (tt, (tt, (tt, (tt, (tt, (tt, (tt, (tt, (tt, (tt, (refl, (tt, (tt, (tt, tt)))))))))))))))),
                                                      ),
                                                    ),
                                                  ),
                                                ),
                                              ),
                                            ),
                                          ),
                                        ),
                                      ),
                                    ),
                                  ),
                                ),
                              ),
                            ),
                          ),
                        ),
                      ),
                    ),
                  ),
                ),
              ),
            ),
          ),
        ),
      ),
    ),
  ),
)

pub returns-clause-twice : goal.returns-clause-twice
unfolding reckoning
returns-clause-twice c = (
  tt,
  (
    tt,
    (
      tt,
      (
        tt,
        (
          tt,
          (
            tt,
            (
              tt,
              (
                tt,
                (
                  tt,
                  (
                    tt,
                    (
                      tt,
                      (
                        tt,
                        (
                          tt,
                          (
                            tt,
                            (
                              refl,
                              (
                                tt,
                                (
                                  tt,
                                  (
                                    tt,
                                    (
                                      tt,
                                      (
                                        tt,
                                        (
                                          refl,
                                          (
                                            tt,
                                            (
                                              tt,
                                              (
                                                tt,
                                                (
                                                  tt,
                                                  (
                                                    tt,
                                                    (
                                                      refl,
                                                      (
                                                        tt,
                                                        tt,
                                                      ),
                                                    ),
                                                  ),
                                                ),
                                              ),
                                            ),
                                          ),
                                        ),
                                      ),
                                    ),
                                  ),
                                ),
                              ),
                            ),
                          ),
                        ),
                      ),
                    ),
                  ),
                ),
              ),
            ),
          ),
        ),
      ),
    ),
  ),
)

pub returns-clause-plain : goal.returns-clause-plain
unfolding reckoning
returns-clause-plain c = meets_what_is_due (the_switch ∷ []) plain_exchange (refl, (refl, tt))

pub returns-clause-repeated : goal.returns-clause-repeated
unfolding reckoning
returns-clause-repeated c = meets_what_is_due (the_switch ∷ []) repeated_exchange (refl, (refl, (refl, (refl, tt))))

pub returns-clause-lossy : goal.returns-clause-lossy
unfolding reckoning
returns-clause-lossy c = meets_what_is_due (the_switch ∷ []) lossy_exchange (refl, (refl, (refl, (refl, (refl, (refl, (refl, tt)))))))

pub returns-clause-cancelled : goal.returns-clause-cancelled
unfolding reckoning
returns-clause-cancelled c = meets_what_is_due (the_switch ∷ []) cancelled_order (refl, (refl, tt))

pub returns-clause-restarted : goal.returns-clause-restarted
unfolding reckoning
returns-clause-restarted c = meets_what_is_due (the_switch ∷ []) restarted_host (refl, (refl, tt))

pub returns-clause-sleeping : goal.returns-clause-sleeping
unfolding reckoning
returns-clause-sleeping c = meets_what_is_due (the_sensor ∷ []) sleeping_node (refl, (refl, (refl, (refl, (refl, (refl, tt))))))

-- the lock hears whatever has come to it before, and whatever that opened to
lock_is_up : IsUp the_keyed_lock
lock_is_up = record { is_listening = refl; awake = refl }

heard_1 : MayMeet (the_keyed_lock ∷ []) (take 27 sealed_exchange) (Heard 1)
unfolding reckoning
heard_1 = listener_hears (the_keyed_lock ∷ []) (take 27 sealed_exchange) 1 _ the_keyed_lock refl refl refl refl refl lock_is_up

heard_3 : MayMeet (the_keyed_lock ∷ []) (take 41 sealed_exchange) (Heard 3)
unfolding reckoning
heard_3 = listener_hears (the_keyed_lock ∷ []) (take 41 sealed_exchange) 3 _ the_keyed_lock refl refl refl refl refl lock_is_up

heard_5 : MayMeet (the_keyed_lock ∷ []) (take 55 sealed_exchange) (Heard 5)
unfolding reckoning
heard_5 = listener_hears (the_keyed_lock ∷ []) (take 55 sealed_exchange) 5 _ the_keyed_lock refl refl refl refl refl lock_is_up

heard_7 : MayMeet (the_keyed_lock ∷ []) (take 70 sealed_exchange) (Heard 7)
unfolding reckoning
heard_7 = listener_hears (the_keyed_lock ∷ []) (take 70 sealed_exchange) 7 _ the_keyed_lock refl refl refl refl refl lock_is_up

repeat_heard : MayMeet (the_keyed_lock ∷ []) (take 81 sealed_exchange) (Heard 5)
unfolding reckoning
repeat_heard = listener_hears_again (the_keyed_lock ∷ []) (take 81 sealed_exchange) 5 _ the_keyed_lock refl refl refl lock_is_up

pub returns-clause-sealed : goal.returns-clause-sealed
unfolding reckoning
returns-clause-sealed c =
    meets_what_is_due (the_keyed_lock ∷ []) sealed_exchange
    (heard_1, (refl, (heard_3, (refl, (heard_5, (refl, (heard_7, (refl, (repeat_heard, tt)))))))))

pub returns-clause-cut : goal.returns-clause-cut
unfolding reckoning hears_in_segments hears_segment taken_at kept_after written IsFull
returns-clause-cut c = meets_what_is_due (the_plug ∷ []) long_message (refl, (refl, (refl, (refl, tt))))
