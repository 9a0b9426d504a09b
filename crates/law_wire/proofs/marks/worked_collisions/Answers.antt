use Rattle.std.proofs.Common.{refl, arith}
use Rattle.law_wire.proofs.Computing.{reckoning}
use Rattle.law_wire.proofs.Serving.{repeated_collides, lossy_collides, cancelled_collides, restarted_collides, sleeping_collides, sealed_collides, cut_collides}
use Rattle.law_wire.proofs.Plain.{plain_collides}
use Rattle.law_wire.proofs.marks.worked_collisions.Goals as goal

pub returns-clause-plain : goal.returns-clause-plain
returns-clause-plain c = plain_collides

pub returns-clause-twice : goal.returns-clause-twice
unfolding reckoning
returns-clause-twice c = (
  tt,
  (
    tt,
    (
      tt,
      (
        tt,
        (
          tt,
          (
            omega arith,
            (
              tt,
              (
                tt,
                (
                  tt,
                  (
                    refl,
                    (
                      tt,
                      (
                        tt,
                        (
                          tt,
                          (
                            tt,
                            (
                              tt,
                              (
                                tt,
                                (
                                  tt,
                                  (
                                    tt,
                                    (
                                      tt,
                                      (
                                        tt,
                                        (
                                          tt,
                                          (
                                            tt,
                                            (
                                              tt,
                                              (
                                                tt,
                                                (
                                                  tt,
                                                  (
                                                    tt,
                                                    (
                                                      tt,
                                                      (tt, tt),
                                                    ),
                                                  ),
                                                ),
                                              ),
                                            ),
                                          ),
                                        ),
                                      ),
                                    ),
                                  ),
                                ),
                              ),
                            ),
                          ),
                        ),
                      ),
                    ),
                  ),
                ),
              ),
            ),
          ),
        ),
      ),
    ),
  ),
)

pub returns-clause-repeated : goal.returns-clause-repeated
returns-clause-repeated c = repeated_collides

pub returns-clause-lossy : goal.returns-clause-lossy
returns-clause-lossy c = lossy_collides

pub returns-clause-cancelled : goal.returns-clause-cancelled
returns-clause-cancelled c = cancelled_collides

pub returns-clause-restarted : goal.returns-clause-restarted
returns-clause-restarted c = restarted_collides

pub returns-clause-sleeping : goal.returns-clause-sleeping
returns-clause-sleeping c = sleeping_collides

pub returns-clause-sealed : goal.returns-clause-sealed
returns-clause-sealed c = sealed_collides

pub returns-clause-cut : goal.returns-clause-cut
returns-clause-cut c = cut_collides
