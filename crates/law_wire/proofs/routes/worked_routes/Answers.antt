use Rattle.std.proofs.Common.{◌≡◌, ℕ, true, false, refl, inl, arith, [], ◌∷◌}
use Rattle.law_transcript.specs.Worked.{plain_exchange, repeated_exchange, lossy_exchange, cancelled_order, restarted_host, sleeping_node, sealed_exchange, long_message, the_lock, the_plug, the_sensor, the_switch}
use Rattle.law_wire.proofs.Entries.{goes_by_route}
use Rattle.law_wire.proofs.Computing.{reckoning}
use Rattle.law_wire.proofs.Walks.{direct, over_one, one_route}
use Rattle.law_wire.proofs.routes.worked_routes.Goals as goal

not_so : false ≡ true → ⊥
not_so e = cc

one_two : ◌≡◌ {A = ℕ} 2 1 → ⊥
one_two e = omega (arith, e)

ten_two : ◌≡◌ {A = ℕ} 2 10 → ⊥
ten_two e = omega (arith, e)

one_eighteen : ◌≡◌ {A = ℕ} 18 1 → ⊥
one_eighteen e = omega (arith, e)

ten_eighteen : ◌≡◌ {A = ℕ} 18 10 → ⊥
ten_eighteen e = omega (arith, e)

pub returns-clause-rerouted : goal.returns-clause-rerouted
unfolding reckoning
returns-clause-rerouted c = (
  tt,
  (
    tt,
    (
      tt,
      (
        tt,
        (
          tt,
          (
            tt,
            (
              tt,
              (
                tt,
                (
                  tt,
                  (
                    tt,
                    (
                      tt,
                      (
                        tt,
                        (
                          tt,
                          (
                            tt,
                            (
                              tt,
                              (
                                tt,
                                (
                                  tt,
                                  (
                                    tt,
                                    (
                                      tt,
                                      (
                                        tt,
                                        (
                                          tt,
                                          (
                                            tt,
                                            (
                                              tt,
                                              (
                                                tt,
                                                (
                                                  tt,
                                                  (
                                                    tt,
                                                    (
                                                      one_route _ _ 10 2 (over_one _ _ 10 2 one_two ten_two refl refl refl) refl ((λ a b. refl), ((λ a b. refl), ((λ a b. refl), tt))),
                                                      (
                                                        tt,
                                                        (
                                                          tt,
                                                          (
                                                            tt,
                                                            (
                                                              tt,
                                                              (
                                                                tt,
                                                                (
                                                                  tt,
                                                                  (
                                                                    tt,
                                                                    (
                                                                      tt,
                                                                      (
                                                                        tt,
                                                                        (
                                                                          tt,
                                                                          (
                                                                            one_route _ _ 10 18 (over_one _ _ 10 18 one_eighteen ten_eighteen refl refl refl) refl ((λ a b. absurd (not_so b)), ((λ a b. absurd (not_so a)), ((λ a b. refl), tt))),
                                                                            (
                                                                              tt,
                                                                              (
                                                                                tt,
                                                                                (
                                                                                  tt,
                                                                                  (
                                                                                    tt,
                                                                                    (
                                                                                      (refl, inl (one_route _ _ 10 18 (over_one _ _ 10 18 one_eighteen ten_eighteen refl refl refl) refl ((λ a b. absurd (not_so b)), ((λ a b. absurd (not_so a)), ((λ a b. refl), tt))))),
                                                                                      (tt, (tt, (tt, (tt, (tt, (tt, (tt, (tt, tt)))))))),
                                                                                    ),
                                                                                  ),
                                                                                ),
                                                                              ),
                                                                            ),
                                                                          ),
                                                                        ),
                                                                      ),
                                                                    ),
                                                                  ),
                                                                ),
                                                              ),
                                                            ),
                                                          ),
                                                        ),
                                                      ),
                                                    ),
                                                  ),
                                                ),
                                              ),
                                            ),
                                          ),
                                        ),
                                      ),
                                    ),
                                  ),
                                ),
                              ),
                            ),
                          ),
                        ),
                      ),
                    ),
                  ),
                ),
              ),
            ),
          ),
        ),
      ),
    ),
  ),
)

pub returns-clause-plain : goal.returns-clause-plain
unfolding reckoning
returns-clause-plain c = goes_by_route (the_switch ∷ []) plain_exchange (direct _ _ _ refl, ((refl, inl (direct _ _ _ refl)), tt))

pub returns-clause-repeated : goal.returns-clause-repeated
unfolding reckoning
returns-clause-repeated c = goes_by_route (the_switch ∷ []) repeated_exchange (direct _ _ _ refl, ((refl, inl (direct _ _ _ refl)), (direct _ _ _ refl, ((refl, inl (direct _ _ _ refl)), tt))))

pub returns-clause-lossy : goal.returns-clause-lossy
unfolding reckoning
returns-clause-lossy c = goes_by_route (the_switch ∷ []) lossy_exchange (
  direct _ _ _ refl,
  (
    direct _ _ _ refl,
    (
      direct _ _ _ refl,
      (
        direct _ _ _ refl,
        ((refl, inl (direct _ _ _ refl)), (direct _ _ _ refl, ((refl, inl (direct _ _ _ refl)), tt))),
      ),
    ),
  ),
)

pub returns-clause-cancelled : goal.returns-clause-cancelled
unfolding reckoning
returns-clause-cancelled c = goes_by_route (the_switch ∷ []) cancelled_order (direct _ _ _ refl, ((refl, inl (direct _ _ _ refl)), tt))

pub returns-clause-restarted : goal.returns-clause-restarted
unfolding reckoning
returns-clause-restarted c = goes_by_route (the_switch ∷ []) restarted_host (direct _ _ _ refl, ((refl, inl (direct _ _ _ refl)), tt))

pub returns-clause-sleeping : goal.returns-clause-sleeping
unfolding reckoning
returns-clause-sleeping c = goes_by_route (the_sensor ∷ []) sleeping_node (
  (refl, inl (direct _ _ _ refl)),
  (
    direct _ _ _ refl,
    (
      (refl, inl (direct _ _ _ refl)),
      (
        direct _ _ _ refl,
        ((refl, inl (direct _ _ _ refl)), (direct _ _ _ refl, tt)),
      ),
    ),
  ),
)

pub returns-clause-sealed : goal.returns-clause-sealed
unfolding reckoning
returns-clause-sealed c = goes_by_route (the_lock ∷ []) sealed_exchange (
  direct _ _ _ refl,
  (
    (refl, inl (direct _ _ _ refl)),
    (
      direct _ _ _ refl,
      (
        (refl, inl (direct _ _ _ refl)),
        (direct _ _ _ refl, ((refl, inl (direct _ _ _ refl)), (direct _ _ _ refl, ((refl, inl (direct _ _ _ refl)), tt)))),
      ),
    ),
  ),
)

pub returns-clause-cut : goal.returns-clause-cut
unfolding reckoning
returns-clause-cut c = goes_by_route (the_plug ∷ []) long_message (direct _ _ _ refl, (direct _ _ _ refl, ((refl, inl (direct _ _ _ refl)), ((refl, inl (direct _ _ _ refl)), tt))))
