-- Devices as their maker leaves them.
use Rattle.std.proofs.Common.{ℕ, List, [], ◌∷◌, ap, sym, subst}
use Rattle.std.specs.List.{AllByRecursion}
use Rattle.zw_text.specs.declared.entry.Entry.{Entry}
use Rattle.proof_serial.specs.device_kinds.declared.kind.Kind.{Kind}
use Rattle.proof_host.specs.device_sim.State.{State, fresh}
use Rattle.proof_host.specs.device_sim.Laws.{IsInOrder}
use Rattle.proof_host.specs.law_transcript.Headline.{IsAsMade}
use Rattle.proof_device.specs.GoingOn.{AreInOrder, TakesOnce, TakeOnce}
use Rattle.proof_device.specs.Showing.{AreUnchanged, IsShown}
use Rattle.proof_world.specs.Devices.{GroupsSessions}

pub made_in_order : ((node : ℕ) (kind : Kind) (key : List ℕ) → IsInOrder (fresh node kind key)) → (key : List ℕ) (devices : List State) → AllByRecursion (IsAsMade key) devices → AreInOrder devices
made_in_order fresh_is key [] made = tt
made_in_order fresh_is key (d ∷ devices) made =
    (subst (λ (s : State). IsInOrder s) (sym made.0.made) (fresh_is d.node d.kind key), made_in_order fresh_is key devices made.1)

pub made_unchanged : (key : List ℕ) (devices : List State) → AllByRecursion (IsAsMade key) devices → AreUnchanged devices
made_unchanged key [] made = tt
made_unchanged key (d ∷ devices) made = (ap (λ (s : State). s.journal) made.0.made, made_unchanged key devices made.1)

pub all_group : (T : List Entry) → ((device : State) → IsShown T device → TakesOnce device → GroupsSessions T device) → (devices : List State)
    → AllByRecursion (IsShown T) devices → TakeOnce devices → AllByRecursion (GroupsSessions T) devices
all_group T groups [] shown once = tt
all_group T groups (d ∷ devices) shown once = (groups d shown.0 once.0, all_group T groups devices shown.1 once.1)
