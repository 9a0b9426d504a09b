-- The status that ends a session (Z-Wave Supervision Command Class: Supervision Report).
use Rattle.std.specs.Prelude.{ℕ, ◌==◌, if◌then◌else◌, Option, Some, None}
use Rattle.host_keep.specs.declared.final_status.FinalStatus.{FinalStatus}
use Rattle.host_keep.specs.declared.final_status.FinalStatus.TheVariants.{NoSupport, Fail, Success}

-- its byte
abbrev pub status_byte : FinalStatus → ℕ
status_byte NoSupport = 0
status_byte Fail = 2
status_byte Success = 255

-- the status with this byte, where there is one
abbrev pub status_of : ℕ → Option FinalStatus
status_of byte =
    if byte == 0 then Some NoSupport
    else if byte == 2 then Some Fail
    else if byte == 255 then Some Success
    else None
