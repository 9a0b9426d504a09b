-- A scene of the machine by its parts (this project's own): calls of both sides tell of one whatever the keys are.
use Rattle.std.specs.Prelude.{List}
use Rattle.s0_crypto.specs.declared.key_pair.Keys.{Keys}
use Rattle.device_sim.specs.State.{State}
use Rattle.zw_text.specs.declared.entry.Entry.{Entry}
use Rattle.host_keep.specs.Keeping.{Shelf}
use Rattle.host_model.specs.State.{HostParts}
use Rattle.outside_model.specs.State.{OuterState}
use Rattle.world_model.specs.State.{machine}
use Rattle.world_model.specs.Did.{Scene}

-- the keys of the network, the host and what is outside it, the devices, what a keeper holds, and the entries so far
abbrev pub scene_of : Keys → HostParts → OuterState → List State → Shelf → List Entry → Scene
scene_of keys host outer devices shelf entries = record { machine = machine keys host outer shelf.records devices; entries = entries; faults = shelf.faults }
