-- Devices that are not at work have no ticks left to work.
use Rattle.std.proofs.Common.{◌≡◌, ℕ, zero, suc, ◌+◌, ◌-◌, ◌≤◌, ◌==◌, true, inr, List, [], ◌∷◌, length, refl, arith}
use Rattle.std.proofs.lemmas.Bool.{and_parts, eqb-true}
use Rattle.std.specs.Prelude.{Some}
use Rattle.std.specs.List.{list_all}
use Rattle.law_time.specs.Calm.{is_not_working}
use Rattle.proof_rests.specs.proof_attempts.proof_host.device_sim.State.{State}
use Rattle.proof_chip.specs.proof_line.world_model.State.{first_machine}
use Rattle.proof_chip.specs.proof_world.world_lines.Spoken.{after_all}
use Rattle.proof_in_time.specs.proof_answered.Few.{work_at}
use Rattle.proof_ready.proofs.air.calm_machines_have_few_frames.Goals as goal

idle_work : (devices : List State) (place : ℕ) → list_all is_not_working devices ≡ true → work_at devices place ≡ 0
idle_work [] place idle = refl
idle_work (device ∷ devices) zero idle = eqb-true device.work_left 0 (and_parts (device.work_left == 0) (list_all is_not_working devices) idle).0
idle_work (device ∷ devices) (suc place) idle = idle_work devices place (and_parts (device.work_left == 0) (list_all is_not_working devices) idle).1

pub returns : goal.returns
returns c = λ keys devices lines are whole is idle.
    let m = after_all (first_machine keys (Some []) devices) lines in
    let landed = (c.calm_air_is_empty.ensures keys devices lines are whole is).landed in
    record {
      fly = none m.outside.outer.air.frames.sent m.outside.outer.air.frames.landed (length m.outside.outer.calls) landed;
      work = record { within = λ place. let none = idle_work m.outside.devices place idle in omega (arith, none); apart = λ a b same. inr (idle_work m.outside.devices a idle) };
    }
  where
    none : (sent landed calls : ℕ) → landed ≡ sent → (sent - landed) + 0 ≤ calls + 3
    none sent landed calls same = omega (arith, same)
