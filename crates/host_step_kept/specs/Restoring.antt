-- What the answer of taking up a record says (this project's own rule).
use Rattle.std.specs.Prelude.{Bool, true, false}
use Rattle.host_keep.specs.declared.record.Record.{Record}
use Rattle.host_model.specs.State.{HostState}
use Rattle.host_model.specs.Restoring.{restored}

-- the host with the record taken up, or as it was
abbrev pub restored_if : Bool → HostState → Record → HostState
restored_if true h one = restored h one
restored_if false h one = h
