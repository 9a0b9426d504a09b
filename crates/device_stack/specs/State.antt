-- All that a simulated device is (this project's own model), whatever its kind.
use Rattle.std.specs.Prelude.{ℕ, List, [], ◌∷◌, ◌++◌, Bool, true, None}
use Rattle.zw_base.specs.declared.property.Property.{Property}
use Rattle.zw_base.specs.declared.property.By.{By}
use Rattle.zw_base.specs.declared.property.Setting.{Setting}
use Rattle.supervision.specs.Device.{Taken, none_taken}
use Rattle.s0_session.specs.declared.account.Account.{Account}
use Rattle.s0_session.specs.Nonces.{unused}
use Rattle.s0_session.specs.Sending.{Sending}
use Rattle.transport_segments.specs.Kept.{Reassembly, Empty}
use Rattle.device_kinds.specs.declared.kind.Kind.{Kind}
use Rattle.device_kinds.specs.declared.change.Change.{Change}
use Rattle.device_stack.specs.declared.work.Work.{Work}
use Rattle.device_kinds.specs.Kind.{host_node}
use Rattle.device_kinds.specs.Effects.{value_in, level_in}

-- no work
abbrev pub idle : Work
idle = record { settings = []; answer = None }

-- a device: its place and key; its sessions; the work that it is at, and in how many ticks it is done; the nonces that it
-- gave the host, and what it seals for it; the datagram that comes in segments; how many ticks it lived, and when it was
-- last active; whether it is awake; and the changes that it made, in order
pub record State : Type 0 where
  pub node : ℕ
  pub kind : Kind
  pub key : List ℕ
  pub sessions : Taken
  pub work_left : ℕ
  pub work : Work
  pub given : Account
  pub sealing : Sending
  pub reassembly : Reassembly
  pub clock : ℕ
  pub active_at : ℕ
  pub awake : Bool
  pub journal : List Change

-- as its maker leaves it
abbrev pub fresh : ℕ → Kind → List ℕ → State
fresh node kind key = record {
  node = node;
  kind = kind;
  key = key;
  sessions = none_taken;
  work_left = 0;
  work = idle;
  given = unused;
  sealing = record { ends = record { sender = node; receiver = host_node }; seen = 0; pending = None };
  reassembly = Empty;
  clock = 0;
  active_at = 0;
  awake = true;
  journal = [];
}

-- the value of a property
abbrev pub value_of : State → Property → ℕ
value_of device property = value_in device.journal property

-- the last level above 0 of a dimmer
abbrev pub last_level_of : State → ℕ
last_level_of device = level_in device.journal

-- the device with one change more
abbrev pub with_change : State → By → List Setting → State
with_change device by settings = record device { journal = device.journal ++ record { by = by; settings = settings } ∷ [] }

-- what an event makes of a device: the device after it, and the payloads that it sends, in their order
pub record Outcome : Type 0 where
  pub device : State
  pub replies : List (List ℕ)

-- nothing is sent
abbrev pub silent : State → Outcome
silent device = record { device = device; replies = [] }
