-- What a supervised device keeps, and what it makes of a session id (this project's own rule over the Supervision Get
-- of the Supervision Command Class).
use Rattle.std.specs.Prelude.{ℕ, ◌+◌, Bool, ◌==◌, ◌&&◌, not, nat_lt, if◌then◌else◌}
use Rattle.supervision.specs.Session.{wire_id}
use Rattle.supervision.specs.declared.session.TheConstants.{WORKING, SUCCESS}
use Rattle.supervision.specs.declared.device_book.Heard.{Heard}
use Rattle.supervision.specs.declared.device_book.Heard.TheVariants.{New, Again, Old}

-- how many sessions the device has taken, and the status of the last of them
pub record Taken : Type 0 where
  pub taken : ℕ
  pub status : ℕ

-- nothing taken
abbrev pub none_taken : Taken
none_taken = record { taken = 0; status = SUCCESS }

-- the id names the session after the last one taken, and the device is not at work on that one
abbrev pub is_new : Taken → ℕ → Bool
is_new device id = id == wire_id (device.taken + 1) && not (device.status == WORKING)

-- the id names the last session taken
abbrev pub is_again : Taken → ℕ → Bool
is_again device id = nat_lt 0 device.taken && id == wire_id device.taken

-- what the device makes of a Supervision Get with this id
abbrev pub heard_of : Taken → ℕ → Heard
heard_of device id =
    if is_new device id then New (device.taken + 1) else (if is_again device id then Again device.status else Old)

-- the device after it
abbrev pub after_get : Taken → ℕ → Taken
after_get device id =
    if is_new device id then record { taken = device.taken + 1; status = WORKING } else device

-- the device once the commands of its last session have this status
abbrev pub finished : Taken → ℕ → Taken
finished device status = record device { status = status }
