-- Which event a call is, where its answer says that (this project's own rule).
use Rattle.std.specs.Prelude.{Bool, true, false}
use Rattle.host_model.specs.State.{HostState}
use Rattle.host_model.specs.Events.{HostEvent}
use Rattle.host_model.specs.After.{after}

-- the one event where a record was kept, the other one where it was not
abbrev pub chosen : Bool → HostEvent → HostEvent → HostEvent
chosen true kept unkept = kept
chosen false kept unkept = unkept

-- the host after an event whose record was kept, and as it was where it was not
abbrev pub after_if : Bool → HostState → HostEvent → HostState
after_if true h event = after h event
after_if false h event = h
