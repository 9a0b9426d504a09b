-- What the devices of the program are to the mesh (this project's own): the state of each, whatever its type is.
use Rattle.device_sim.specs.State.{State}
use Rattle.run_devices.specs.declared.devices.Made.{Made}
use Rattle.run_devices.specs.declared.devices.Made.TheVariants.{Recorder, Configurable, Relay, Switch, Dimmer, Lock, Sensor, Thermostat, Strip}

-- the state of a device that was made
abbrev pub state_made : Made → State
state_made (Recorder device) = device.value.inner.stack
state_made (Configurable device) = device.value.stack
state_made (Relay device) = device.value.stack
state_made (Switch device) = device.value.stack
state_made (Dimmer device) = device.value.stack
state_made (Lock device) = device.value.stack
state_made (Sensor device) = device.value.stack
state_made (Thermostat device) = device.value.stack
state_made (Strip device) = device.value.stack
