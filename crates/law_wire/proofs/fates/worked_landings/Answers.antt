use Rattle.std.proofs.Common.{refl}
use Rattle.law_wire.proofs.Computing.{reckoning}
use Rattle.law_wire.proofs.fates.worked_landings.Goals as goal

pub returns-clause-plain : goal.returns-clause-plain
unfolding reckoning
returns-clause-plain c = (
  refl,
  (
    tt,
    (
      tt,
      (
        tt,
        (
          tt,
          (
            tt,
            (
              tt,
              (
                tt,
                (refl, (refl, (tt, (tt, (tt, (tt, (tt, (refl, (tt, (tt, (tt, (tt, (tt, (refl, tt)))))))))))))),
              ),
            ),
          ),
        ),
      ),
    ),
  ),
)

pub returns-clause-flying : goal.returns-clause-flying
unfolding reckoning
returns-clause-flying c = (refl, (refl, (tt, (refl, (refl, tt)))))
