use Rattle.std.proofs.Common.{arith, refl, sym, ap, map, ◌∙◌}
use Rattle.run_devices.specs.declared.devices.TheConstants.{KEY}
use Rattle.zwave_console.specs.contracts.run_over_standard.{dyn-1-ghosts}
use Rattle.zwave_console.proofs.run_with_devices.OwnLists.{own-1, lawful-own-1, at-1-1, at-1-2, at-1-3, at-1-4, at-1-5, at-1-6, at-1-7, at-1-8, at-1-9}
use denote.Param.Object.{read_made}
use Rattle.device_sim.specs.State.{State}
use Rattle.proof_commands.specs.Mesh.{device_at}
use Rattle.zwave_console.proofs.Making.{devices-none, made_more}
use Rattle.zwave_console.proofs.run_with_devices.Goals.{in-Recorder, in-Configurable, in-Relay, in-Switch, in-Dimmer, in-Lock, in-Sensor, in-Thermostat, in-Strip}
use Rattle.zwave_console.proofs.run_with_devices.Goals as goal

pub loop-number-init : goal.loop-number-init
loop-number-init c = ap (λ xs. map (λ d. ((dyn-1-ghosts (own-1, lawful-own-1)).0.entry d.vtable).1.state d.value) xs) c.new-devices.ensures.items ∙ sym (devices-none KEY 2)

pub loop-number-preserved-in_default : goal.loop-number-preserved-in_default
loop-number-preserved-in_default c = absurd (c.in_default.ensures (omega (arith, c.loop-number.auto.number), c.loop-number-test.true))

pub loop-number-preserved : goal.loop-number-preserved
loop-number-preserved c =
    made_more (λ d. ((dyn-1-ghosts (own-1, lawful-own-1)).0.entry d.vtable).1.state d.value) KEY c.loop-number.number c.loop-number.devices.items c.push.new.self.items
    c.match-branch-2.device (omega (arith, c.loop-number.auto.number)) c.loop-number.invariant c.in_ok-push.ensures.items
    (elim c.match-branch-2.branch [
      | in-Recorder w ↦ ap (λ d. ((dyn-1-ghosts (own-1, lawful-own-1)).0.entry d.vtable).1.state d.value) w.device-is ∙ read_made own-1 (own-1.entry at-1-1) at-1-1 refl State (λ j. j.1.state) w.into_dyn_box.result.vtable w.into_dyn_box.result.value w.in-Recorder.device.value w.into_dyn_box.ensures.1 ∙ (rw w.in-Recorder.is at c.in_ok-device.ensures) ∙ ap (λ n. device_at KEY n) c.in-Some.ensures.1
      | in-Configurable w ↦ ap (λ d. ((dyn-1-ghosts (own-1, lawful-own-1)).0.entry d.vtable).1.state d.value) w.device-is ∙ read_made own-1 (own-1.entry at-1-2) at-1-2 refl State (λ j. j.1.state) w.into_dyn_box-in-Configurable.result.vtable w.into_dyn_box-in-Configurable.result.value w.in-Configurable.device.value w.into_dyn_box-in-Configurable.ensures.1 ∙ (rw w.in-Configurable.is at c.in_ok-device.ensures) ∙ ap (λ n. device_at KEY n) c.in-Some.ensures.1
      | in-Relay w ↦ ap (λ d. ((dyn-1-ghosts (own-1, lawful-own-1)).0.entry d.vtable).1.state d.value) w.device-is ∙ read_made own-1 (own-1.entry at-1-3) at-1-3 refl State (λ j. j.1.state) w.into_dyn_box-in-Relay.result.vtable w.into_dyn_box-in-Relay.result.value w.in-Relay.device.value w.into_dyn_box-in-Relay.ensures.1 ∙ (rw w.in-Relay.is at c.in_ok-device.ensures) ∙ ap (λ n. device_at KEY n) c.in-Some.ensures.1
      | in-Switch w ↦ ap (λ d. ((dyn-1-ghosts (own-1, lawful-own-1)).0.entry d.vtable).1.state d.value) w.device-is ∙ read_made own-1 (own-1.entry at-1-4) at-1-4 refl State (λ j. j.1.state) w.into_dyn_box-in-Switch.result.vtable w.into_dyn_box-in-Switch.result.value w.in-Switch.device.value w.into_dyn_box-in-Switch.ensures.1 ∙ (rw w.in-Switch.is at c.in_ok-device.ensures) ∙ ap (λ n. device_at KEY n) c.in-Some.ensures.1
      | in-Dimmer w ↦ ap (λ d. ((dyn-1-ghosts (own-1, lawful-own-1)).0.entry d.vtable).1.state d.value) w.device-is ∙ read_made own-1 (own-1.entry at-1-5) at-1-5 refl State (λ j. j.1.state) w.into_dyn_box-in-Dimmer.result.vtable w.into_dyn_box-in-Dimmer.result.value w.in-Dimmer.device.value w.into_dyn_box-in-Dimmer.ensures.1 ∙ (rw w.in-Dimmer.is at c.in_ok-device.ensures) ∙ ap (λ n. device_at KEY n) c.in-Some.ensures.1
      | in-Lock w ↦ ap (λ d. ((dyn-1-ghosts (own-1, lawful-own-1)).0.entry d.vtable).1.state d.value) w.device-is ∙ read_made own-1 (own-1.entry at-1-6) at-1-6 refl State (λ j. j.1.state) w.into_dyn_box-in-Lock.result.vtable w.into_dyn_box-in-Lock.result.value w.in-Lock.device.value w.into_dyn_box-in-Lock.ensures.1 ∙ (rw w.in-Lock.is at c.in_ok-device.ensures) ∙ ap (λ n. device_at KEY n) c.in-Some.ensures.1
      | in-Sensor w ↦ ap (λ d. ((dyn-1-ghosts (own-1, lawful-own-1)).0.entry d.vtable).1.state d.value) w.device-is ∙ read_made own-1 (own-1.entry at-1-7) at-1-7 refl State (λ j. j.1.state) w.into_dyn_box-in-Sensor.result.vtable w.into_dyn_box-in-Sensor.result.value w.in-Sensor.device.value w.into_dyn_box-in-Sensor.ensures.1 ∙ (rw w.in-Sensor.is at c.in_ok-device.ensures) ∙ ap (λ n. device_at KEY n) c.in-Some.ensures.1
      | in-Thermostat w ↦ ap (λ d. ((dyn-1-ghosts (own-1, lawful-own-1)).0.entry d.vtable).1.state d.value) w.device-is ∙ read_made own-1 (own-1.entry at-1-8) at-1-8 refl State (λ j. j.1.state) w.into_dyn_box-in-Thermostat.result.vtable w.into_dyn_box-in-Thermostat.result.value w.in-Thermostat.device.value w.into_dyn_box-in-Thermostat.ensures.1 ∙ (rw w.in-Thermostat.is at c.in_ok-device.ensures) ∙ ap (λ n. device_at KEY n) c.in-Some.ensures.1
      | in-Strip w ↦ ap (λ d. ((dyn-1-ghosts (own-1, lawful-own-1)).0.entry d.vtable).1.state d.value) w.device-is ∙ read_made own-1 (own-1.entry at-1-9) at-1-9 refl State (λ j. j.1.state) w.into_dyn_box-in-Strip.result.vtable w.into_dyn_box-in-Strip.result.value w.in-Strip.device.value w.into_dyn_box-in-Strip.ensures.1 ∙ (rw w.in-Strip.is at c.in_ok-device.ensures) ∙ ap (λ n. device_at KEY n) c.in-Some.ensures.1
    ])
