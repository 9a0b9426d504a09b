-- At first no tick has begun and nothing was sent.
use Rattle.std.proofs.Common.{false, true, ◌≡◌, ◌≤◌, refl, arith}
use Rattle.air_frames.specs.Frames.{no_frames}
use Rattle.proof_walk.specs.outside_model.State.{first_outer}
use Rattle.proof_air.proofs.LandingWalk.{landing_walk}
use Rattle.proof_air.proofs.landing.landings_go_on.Goals as goal

pub returns-clause-walk : goal.returns-clause-walk
returns-clause-walk c = landing_walk

pub returns-clause-first : goal.returns-clause-first
unfolding first_outer no_frames
returns-clause-first c = λ keys records devices. record {
  before = 0;
  sent = (
    record {
      begun = let none : 0 ≤ 0 = omega arith in none;
      now = λ is. refl;
      earlier = refl;
      all = λ time above. refl;
      waits = λ is. absurd (let none : false ≡ true = is in cc);
      apart = λ is. absurd (let none : false ≡ true = is in cc);
    },
    tt,
  );
  fated = refl;
  due = refl;
}
