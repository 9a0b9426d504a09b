-- What became of a Security message (Z-Wave Security 0 Command Class; that the nonce is spent first is this project's own rule).
use Rattle.std.specs.Prelude.{ℕ, Bool, true, false, List, Option, Some, None}
use Rattle.host_heard.specs.declared.told.Told.{Told}
use Rattle.host_model.specs.State.{HostState}
use Rattle.host_model.specs.Events.{HostEvent, Is_unkept, Spends, Spends_unread}
use Rattle.host_model.specs.Taking.{OpensTo, OpensInVain}
use Rattle.host_step_kept.specs.declared.opening.Opened.{Opened}
use Rattle.host_step_kept.specs.declared.opening.Opened.TheVariants.{Unkept, InVain, Opens}

-- the event that it was
abbrev pub opening : ℕ → List ℕ → Opened → HostEvent
opening n payload Unkept = Is_unkept n
opening n payload InVain = Spends_unread n payload
opening n payload (Opens messages) = Spends n

-- whether the record was kept
abbrev pub is_kept : Opened → Bool
is_kept Unkept = false
is_kept InVain = true
is_kept (Opens messages) = true

-- these messages are what it tells, or it tells nothing
abbrev pub Tells : HostState → ℕ → List ℕ → List ℕ → Option (List Told) → Type 0
Tells h n nonce payload (Some messages) = OpensTo h n nonce payload messages
Tells h n nonce payload None = OpensInVain h n nonce payload

-- where the nonce was spent, that is so
abbrev pub OpensBy : HostState → ℕ → List ℕ → List ℕ → Opened → Type 0
OpensBy h n nonce payload Unkept = Unit {0}
OpensBy h n nonce payload InVain = Tells h n nonce payload None
OpensBy h n nonce payload (Opens messages) = Tells h n nonce payload (Some messages)
