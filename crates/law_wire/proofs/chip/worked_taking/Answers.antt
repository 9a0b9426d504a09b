use Rattle.law_wire.proofs.Computing.{reckoning}
use Rattle.law_wire.proofs.Serving.{repeated_airs, lossy_airs, cancelled_airs, restarted_airs, sleeping_airs, sealed_airs, cut_airs}
use Rattle.law_wire.proofs.Plain.{plain_airs}
use Rattle.law_wire.proofs.Walks.{apart}
use Rattle.law_wire.proofs.chip.worked_taking.Goals as goal

pub returns-clause-plain : goal.returns-clause-plain
returns-clause-plain c = plain_airs

pub returns-clause-unroutable : goal.returns-clause-unroutable
unfolding reckoning
returns-clause-unroutable c = (
  tt,
  (
    tt,
    (
      tt,
      (
        tt,
        (
          tt,
          (
            tt,
            (
              tt,
              (
                tt,
                (
                  tt,
                  (
                    tt,
                    (
                      tt,
                      (
                        tt,
                        (
                          (apart _ 2, tt),
                          (
                            tt,
                            (
                              tt,
                              (
                                tt,
                                (
                                  tt,
                                  (
                                    tt,
                                    (
                                      tt,
                                      (
                                        tt,
                                        (
                                          (apart _ 2, tt),
                                          tt,
                                        ),
                                      ),
                                    ),
                                  ),
                                ),
                              ),
                            ),
                          ),
                        ),
                      ),
                    ),
                  ),
                ),
              ),
            ),
          ),
        ),
      ),
    ),
  ),
)

pub returns-clause-restarted : goal.returns-clause-restarted
returns-clause-restarted c = restarted_airs

pub returns-clause-repeated : goal.returns-clause-repeated
returns-clause-repeated c = repeated_airs

pub returns-clause-lossy : goal.returns-clause-lossy
returns-clause-lossy c = lossy_airs

pub returns-clause-cancelled : goal.returns-clause-cancelled
returns-clause-cancelled c = cancelled_airs

pub returns-clause-sleeping : goal.returns-clause-sleeping
returns-clause-sleeping c = sleeping_airs

pub returns-clause-sealed : goal.returns-clause-sealed
returns-clause-sealed c = sealed_airs

pub returns-clause-cut : goal.returns-clause-cut
returns-clause-cut c = cut_airs
