-- One walk over quiet lines, from any machine on which the request is tied and few frames are on the air.
use Rattle.std.proofs.Common.{◌≡◌, ℕ, zero, suc, inr, List, [], ◌∷◌, refl, arith}
use Rattle.device_sim.specs.State.{State}
use Rattle.air_frames.specs.Frames.{no_frames}
use Rattle.outside_model.specs.State.{first_outer}
use Rattle.proof_calm.proofs.Where.{where_whole}
use Rattle.proof_calm.specs.proof_work.Phases.{AsksNothing}
use Rattle.proof_calm.proofs.proof_traffic_Parts.{Airs}
use Rattle.proof_answered.specs.Few.{AreIdle, KnowFew, work_at}
use Rattle.proof_answered.specs.Outward.{IsSentTo}
use Rattle.proof_answered.proofs.Walking.{begins_known, few_walk}
use Rattle.proof_answered.proofs.few.few_frames_fly.Goals as goal

idle_work : (devices : List State) (place : ℕ) → AreIdle devices → work_at devices place ≡ 0
idle_work [] place idle = refl
idle_work (device ∷ devices) zero idle = idle.0
idle_work (device ∷ devices) (suc place) idle = idle_work devices place idle.1

pub returns-clause-first : goal.returns-clause-first
unfolding first_outer no_frames
returns-clause-first c = λ keys records devices idle. record {
  fly = omega arith;
  work = record { within = λ place. let none = idle_work devices place idle in omega (arith, none); apart = λ a b same. inr (idle_work devices a idle) };
}

pub returns-clause-walk : goal.returns-clause-walk
returns-clause-walk c = λ these. few_walk airs c.when_changes_come.ensures.heard these (c.requests_stay_tied.ensures.walk these)
  where
    airs : Airs
    airs = record {
      goes = c.frames_fly_in_order.ensures.goes;
      next = c.frames_fly_in_order.ensures.next;
      lands = c.frames_fly_in_order.ensures.lands;
      count = c.frames_fly_in_order.ensures.count;
      begins = c.frames_fly_in_order.ensures.begins;
    }

pub returns-clause-lines : goal.returns-clause-lines
returns-clause-lines c = λ these m lines are whole sent stretched tied few.
    let known = where_whole (IsSentTo these) AsksNothing (KnowFew these) (returns-clause-walk c these) [] m lines are whole sent (λ is. begins_known m tied few) stretched in
    let at = known.tied stretched.quiet in (
      record { rests = at.0; awaits = at.1; routed = at.3; on_line = at.4; pumped = at.5; tie = at.6; peopled = at.7 },
      record { fly = let fly = known.few.fly in let told = known.told in omega (arith, fly, told); work = known.few.work },
    )
