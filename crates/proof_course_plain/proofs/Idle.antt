-- Devices of a node that nobody speaks to: they stay idle, and made nothing.
use Rattle.std.proofs.Common.{◌≡◌, ◌≢◌, ℕ, ◌==◌, true, Some, List, [], refl, arith}
use Rattle.std.specs.Prelude.{slice_get, slice_set}
use Rattle.std.proofs.lemmas.Bool.{eq-eqb}
use Rattle.device_stack.specs.Ticking.{ticked}
use Rattle.device_sim.specs.State.{State}
use Rattle.device_sim.specs.Event.{Ticks, outcome_of, device_after, device_replies}
use Rattle.proof_course_plain.specs.Meaning.{Asked}
use Rattle.proof_course_plain.specs.Making.{Makes}
use Rattle.proof_course_plain.specs.Device.{IsIdle, OthersAreIdle}
use Rattle.proof_course_plain.proofs.MadeSettings.{set_holds}

idle_by : (device : State) → IsIdle device → device.work_left == 0 ≡ true → IsIdle (ticked device).device × ((ticked device).replies ≡ [])
unfolding ticked
idle_by device is n = (record { no_work = rw n is.no_work; no_change = rw n is.no_change; no_segments = rw n is.no_segments }, rw n refl)

pub idle_ticks : (device : State) (drawn : List ℕ) → IsIdle device → IsIdle (device_after device (Ticks drawn)) × (device_replies device (Ticks drawn) ≡ [])
unfolding device_after device_replies outcome_of
idle_ticks device drawn is = idle_by device is (eq-eqb device.work_left 0 is.no_work)

pub idle_makes : (orders : List Asked) (commands : List ℕ) (device : State) → IsIdle device → Makes orders commands device
idle_makes orders commands device is = record {
  changes = rw is.no_change tt;
  work = λ some. absurd (let none = is.no_work in omega (arith, some, none));
  answer = λ some. absurd (let none = is.no_work in omega (arith, some, none));
  keeps = rw is.no_segments tt;
}

-- the others stay idle where the device at the place is another, or one elsewhere that is idle or of another node
pub others_set : (node : ℕ) (devices : List State) (own place : ℕ) (device new : State) → slice_get devices place ≡ Some device → (new.node ≡ node → place ≢ own → IsIdle new) → OthersAreIdle node devices own
    → OthersAreIdle node (slice_set devices place new) own
others_set node devices own place device new stood idle others = set_holds (λ (at : ℕ) (one : State). one.node ≡ node → at ≢ own → IsIdle one) devices place device new stood idle others
