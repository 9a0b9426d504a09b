-- What is entered outside the host tells no interview.
use Rattle.std.proofs.Common.{◌≡◌, true, List}
use Rattle.std.specs.List.{AllByRecursion}
use Rattle.zw_base.proofs.Each.{all-weaker}
use Rattle.zw_text.specs.declared.entry.Entry.{Entry}
use Rattle.zw_text.specs.declared.entry.Entry.TheVariants.{Interviewed}
use Rattle.serial_frame.specs.declared.unit.Unit.{Unit as LineUnit}
use Rattle.proof_once.specs.outside_model.State.{OuterState, Outside}
use Rattle.proof_once.specs.outside_model.Events.{OuterEvent, Host_writes, is_own, stamp, ticked_entry, entries}
use Rattle.proof_world.proofs.Aside.{IsOutside, AreOutside, ticked_are, stamp_are, own_outside, write_outside}

-- an entry that tells no interview that ended well
abbrev pub IsForeign : Entry → Type 0
IsForeign (Interviewed node) = ⊥
IsForeign _ = Unit {0}

abbrev pub AreForeign : List Entry → Type 0
AreForeign entries = AllByRecursion IsForeign entries

outside_foreign : (entry : Entry) → IsOutside entry → IsForeign entry
outside_foreign (Interviewed node) is = absurd is
outside_foreign _ is = tt

foreign_of : (entries : List Entry) → AreOutside entries → AreForeign entries
foreign_of entries are = all-weaker IsOutside IsForeign outside_foreign entries are

pub ticked_foreign : (o : OuterState) → AreForeign (ticked_entry o)
ticked_foreign o = ticked_are IsForeign (λ tick. tt) o

pub stamp_foreign : (o : OuterState) (told : List Entry) → AreForeign told → AreForeign (stamp o told)
stamp_foreign o told foreign = stamp_are IsForeign (λ tick. tt) o told foreign

-- an event that is not the host's
pub own_foreign : (w : Outside) (event : OuterEvent) → is_own event ≡ true → AreForeign (entries w event)
own_foreign w event own = foreign_of (entries w event) (own_outside w event own)

-- a unit that the host writes
pub write_foreign : (w : Outside) (unit : LineUnit) → AreForeign (entries w (Host_writes unit))
write_foreign w unit = foreign_of (entries w (Host_writes unit)) (write_outside w unit)
