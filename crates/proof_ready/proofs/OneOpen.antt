-- A stretch for one node alone: it has had its own ticks where each of its commands has had 500; and one that sleeps takes no segments.
use Rattle.std.proofs.Common.{◌≡◌, ◌≤◌, ◌+◌, ◌*◌, ◌==◌, ◌||◌, ℕ, suc, Bool, true, false, List, [], ◌∷◌, length, refl, sym, ap, ◌∙◌, arith}
use Rattle.std.proofs.lemmas.Bool.{false≢true, leb-true}
use Rattle.std.specs.Prelude.{Option, Some, None}
use Rattle.std.specs.List.{list_any}
use Rattle.device_kinds.specs.Kind.{classes_of, listens as kind_listens}
use Rattle.device_kinds.specs.declared.kind.Kind.{Kind}
use Rattle.device_kinds.specs.declared.kind.Kind.TheVariants.{Relay, Switch, Dimmer, Lock, Sensor, Thermostat, Strip, Configurable}
use Rattle.zw_text.specs.declared.entry.Entry.{Entry}
use Rattle.zw_text.specs.Transcript.{lines_run}
use Rattle.law_wire.specs.law_transcript.Lists.{Has}
use Rattle.law_wire.specs.law_transcript.Nodes.{device_of, listed_by}
use Rattle.law_time.specs.Interviews.{listens}
use Rattle.law_time.specs.Questions.{same_bool}
use Rattle.law_time.specs.Stretches.{commands_in, is_time, knows_device, lists_a_layer, waited, work_of, workers}
use Rattle.proof_rests.specs.proof_attempts.proof_host.device_sim.State.{State}
use Rattle.proof_in_time.specs.Waited.{waited_for}
use Rattle.proof_in_time.proofs.LastOrder.{waited_fewer}

-- ---- ticks

has_some : (l : List ℕ) (c : ℕ) → Has l c → 1 ≤ length l
has_some [] c has = absurd has
has_some (one ∷ l) c has = omega arith

-- each command of the one node has had 500 ticks
each_long : (past stretch : List Entry) (n : ℕ) → workers past stretch ≡ n ∷ [] → is_time past stretch ≡ true → 500 * length (commands_in past stretch n) ≤ waited stretch
each_long past stretch n one time =
    let work : work_of past stretch (workers past stretch) ≡ length (commands_in past stretch n) + 0 = ap (λ (l : List ℕ). work_of past stretch l) one in
    let far : 500 * work_of past stretch (workers past stretch) ≤ waited stretch = leb-true (500 * work_of past stretch (workers past stretch)) (waited stretch) time in
    omega (arith, work, far)

-- so it has had its own, where it has a command
pub own_long : (past stretch : List Entry) (n c : ℕ) → workers past stretch ≡ n ∷ [] → Has (commands_in past stretch n) c → is_time past stretch ≡ true
    → 101 + 30 * suc (length (commands_in past stretch n)) ≤ waited_for n stretch
own_long past stretch n c one has time =
    let some : 1 ≤ length (commands_in past stretch n) = has_some (commands_in past stretch n) c has in
    let far = each_long past stretch n one time in
    let fewer : waited stretch ≤ waited_for n stretch = waited_fewer n 0 0 (lines_run stretch) (omega arith) in
    omega (arith, some, far, fewer)

-- ---- kinds

sleeper_kind : (kind : Kind) → kind_listens kind ≡ false → list_any (λ class. (class == 0x55) || (class == 0x98)) (classes_of kind) ≡ false
sleeper_kind Sensor sleeps = refl
sleeper_kind Relay sleeps = absurd (false≢true (sym sleeps))
sleeper_kind Switch sleeps = absurd (false≢true (sym sleeps))
sleeper_kind Dimmer sleeps = absurd (false≢true (sym sleeps))
sleeper_kind Lock sleeps = absurd (false≢true (sym sleeps))
sleeper_kind Thermostat sleeps = absurd (false≢true (sym sleeps))
sleeper_kind Strip sleeps = absurd (false≢true (sym sleeps))
sleeper_kind Configurable sleeps = absurd (false≢true (sym sleeps))

-- so one whose device sleeps lists neither Transport Service nor Security 0
pub sleeper_plain : (devices : List State) (n : ℕ) (device : State) → device_of n devices ≡ Some device → kind_listens device.kind ≡ false → lists_a_layer devices n ≡ false
sleeper_plain devices n device is sleeps = ap (λ o. list_any (λ class. (class == 0x55) || (class == 0x98)) (listed_by o)) is ∙ sleeper_kind device.kind sleeps

-- what lists neither does not list Security 0
pub no_security : (classes : List ℕ) → list_any (λ class. (class == 0x55) || (class == 0x98)) classes ≡ false → list_any (λ class. class == 0x98) classes ≡ false
no_security [] none = refl
no_security (class ∷ classes) none = by (class == 0x55) (class == 0x98) (list_any (λ one. (one == 0x55) || (one == 0x98)) classes) none (no_security classes)
  where
    by : (a b rest : Bool) → (a || b) || rest ≡ false → (rest ≡ false → list_any (λ one. one == 0x98) classes ≡ false) → b || list_any (λ one. one == 0x98) classes ≡ false
    by true b rest none later = absurd (false≢true (sym none))
    by false true rest none later = absurd (false≢true (sym none))
    by false false rest none later = later none

-- ---- its device

-- the device is there that is known, and listens where the host takes it to
pub device_known : (devices : List State) (past : List Entry) (n : ℕ) (b : Bool) → listens n past ≡ b → knows_device devices n past (device_of n devices) ≡ true
    → (device : State) × ((device_of n devices ≡ Some device) × (kind_listens device.kind ≡ b))
device_known devices past n b hears known = by (device_of n devices) refl
  where
    same_is : (a c : Bool) → same_bool a c ≡ true → c ≡ a
    same_is true c is = is
    same_is false true is = absurd (false≢true is)
    same_is false false is = refl

    by : (o : Option State) → device_of n devices ≡ o → (device : State) × ((device_of n devices ≡ Some device) × (kind_listens device.kind ≡ b))
    by None is = absurd (false≢true (sym (ap (λ (o : Option State). knows_device devices n past o) is) ∙ known))
    by (Some device) is = (
      device,
      (
        is,
        same_is b (kind_listens device.kind)
            (sym (ap (λ (c : Bool). same_bool c (kind_listens device.kind)) hears) ∙ (sym (ap (λ (o : Option State). knows_device devices n past o) is) ∙ known)),
      ),
    )
