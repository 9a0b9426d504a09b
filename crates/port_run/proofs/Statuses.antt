-- Which end a status is of.
use Rattle.std.proofs.Common.{◌≡◌, refl}
use Rattle.run_lines.specs.declared.status.Status.TheVariants as status
use Rattle.host_core.specs.declared.opening.OpenFault.TheVariants as opening
use Rattle.port_run.specs.declared.ending.Served.{Served}
use Rattle.port_run.specs.declared.ending.Served.TheVariants as served
use Rattle.port_run.specs.Ending.{status_of}

pub read_fault_only : (end : Served) → status_of end ≡ status.ReadFault → end ≡ served.ReadFault
read_fault_only served.ReadFault same = refl
read_fault_only served.Ok same = absurd (cc same)
read_fault_only (served.Undone number) same = absurd (cc same)
read_fault_only (served.BadLine number fault) same = absurd (cc same)
read_fault_only (served.Opening opening.KeeperFault) same = absurd (cc same)
read_fault_only (served.Opening (opening.BadRecord at)) same = absurd (cc same)
read_fault_only (served.Opening opening.NoMemory) same = absurd (cc same)
read_fault_only served.WriteFault same = absurd (cc same)
read_fault_only served.InputTooLong same = absurd (cc same)
read_fault_only served.NoMemory same = absurd (cc same)

pub write_fault_only : (end : Served) → status_of end ≡ status.WriteFault → end ≡ served.WriteFault
write_fault_only served.WriteFault same = refl
write_fault_only served.Ok same = absurd (cc same)
write_fault_only (served.Undone number) same = absurd (cc same)
write_fault_only (served.BadLine number fault) same = absurd (cc same)
write_fault_only (served.Opening opening.KeeperFault) same = absurd (cc same)
write_fault_only (served.Opening (opening.BadRecord at)) same = absurd (cc same)
write_fault_only (served.Opening opening.NoMemory) same = absurd (cc same)
write_fault_only served.ReadFault same = absurd (cc same)
write_fault_only served.InputTooLong same = absurd (cc same)
write_fault_only served.NoMemory same = absurd (cc same)

pub keeper_fault_only : (end : Served) → status_of end ≡ status.KeeperFault → end ≡ served.Opening opening.KeeperFault
keeper_fault_only (served.Opening opening.KeeperFault) same = refl
keeper_fault_only (served.Opening (opening.BadRecord at)) same = absurd (cc same)
keeper_fault_only (served.Opening opening.NoMemory) same = absurd (cc same)
keeper_fault_only served.Ok same = absurd (cc same)
keeper_fault_only (served.Undone number) same = absurd (cc same)
keeper_fault_only (served.BadLine number fault) same = absurd (cc same)
keeper_fault_only served.ReadFault same = absurd (cc same)
keeper_fault_only served.WriteFault same = absurd (cc same)
keeper_fault_only served.InputTooLong same = absurd (cc same)
keeper_fault_only served.NoMemory same = absurd (cc same)
