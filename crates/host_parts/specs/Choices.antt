-- What is answered to an order (this project's own rule).
use Rattle.std.specs.Prelude.{◌≡◌, ◌⊎◌, ℕ, Option, Some, None, Result, Ok, Err}
use Rattle.zw_base.specs.declared.order.Order.{Order}
use Rattle.host_orders.specs.declared.refused.Refused.{Refused}
use Rattle.host_orders.specs.declared.refused.Refused.TheVariants.{NoMemory, KeeperFault}
use Rattle.host_model.specs.State.{HostState}
use Rattle.host_model.specs.Events.{Accepts}
use Rattle.host_model.specs.After.{after}
use Rattle.host_model.specs.Asking.{carriage_for}
use Rattle.host_model.specs.May.{May}

-- an order is taken where no rule refuses it, and else refused by the first that does. There may be no memory at any time, and
-- the keeper may fail once no rule refuses it
abbrev pub Judges : Result ℕ Refused → Option Refused → Type 0
Judges (Ok number) refusal = refusal ≡ None
Judges (Err refused) refusal = (refusal ≡ Some refused) ⊎ ((refused ≡ NoMemory) ⊎ ((refused ≡ KeeperFault) × (refusal ≡ None)))

-- an order may become a command, carried as its node takes it, and the host after that
abbrev pub MayAccept : HostState → Order → Type 0
MayAccept h order = May h (Accepts order (carriage_for h order))

abbrev pub accepted : HostState → Order → HostState
accepted h order = after h (Accepts order (carriage_for h order))
