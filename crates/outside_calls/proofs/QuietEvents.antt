-- Events that tell nothing and move no device, and entries of the host.
use Rattle.std.proofs.Common.{◌≡◌, ℕ, ◌+◌, Bool, true, false, List, [], ◌∷◌, refl, ap, sym, ◌∙◌, subst}
use Rattle.std.specs.Prelude.{max}
use Rattle.serial_frame.specs.declared.unit.Unit.{Unit as LineUnit}
use Rattle.chip_sim.specs.Events.{Collides}
use Rattle.chip_sim.specs.Events as chip
use Rattle.device_sim.specs.State.{State}
use Rattle.mesh_sim.specs.Air.{linking}
use Rattle.mesh_sim.specs.Fates.{place_of}
use Rattle.serial_pipes.specs.State.{WayState}
use Rattle.serial_pipes.specs.Events.{Takes, Loses as loses_unit, Changes as changes_frame, Writes, told}
use Rattle.serial_pipes.specs.Events as way
use Rattle.serial_pipes.specs.declared.marks.Garble.{Garble}
use Rattle.zw_words.specs.declared.side.Side.{Side}
use Rattle.zw_words.specs.declared.side.Side.TheVariants.{Host}
use Rattle.zw_text.specs.declared.entry.Entry.{Entry}
use Rattle.outside_model.specs.State.{OuterState, outside, tells, with_chip, is_stalled}
use Rattle.outside_model.specs.Results.{device_at}
use Rattle.outside_model.specs.Chip.{chip_ticks}
use Rattle.outside_model.specs.Nodes.{joins, listens_at, discovers}
use Rattle.outside_model.specs.Events.{Begins_line, Begins_tick, Host_writes, Host_takes, Host_notes, Host_begins, Chip_ticks, Joins, Discovers, Links, Loses, Loses_acks, Marks_loss, Marks_change, Clears_pipe, Collides_next, Stalls, Cuts, way_of, with_way, clears, begins, outcome, devices_after, May}
use Rattle.outside_model.specs.Did.{Goes, GoesFor, Enters}
use Rattle.outside_model.specs.Schedules.{IsOne}
use Rattle.outside_calls.proofs.Single.{run_one, goes_one, enters_silent}

pub goes_line : (o new : OuterState) → new ≡ record o { in_tick = false } → Goes (Begins_line ∷ []) o new [] []
unfolding outcome devices_after May
goes_line o new is = goes_one Begins_line o new [] [] (λ ds. tt) (λ ds. enters_silent (record o { in_tick = false }) new [] is) (λ ds. refl)

pub goes_tick : (o new : OuterState) → new ≡ record o { clock = o.clock + 1; in_tick = true; stamped = false } → Goes (Begins_tick ∷ []) o new [] []
unfolding outcome devices_after May
goes_tick o new is = goes_one Begins_tick o new [] [] (λ ds. tt) (λ ds. enters_silent (record o { clock = o.clock + 1; in_tick = true; stamped = false }) new [] is) (λ ds. refl)

pub goes_takes : (o : OuterState) (way_left : WayState) (count : ℕ) → is_stalled o ≡ false → way_left ≡ way.after o.to_host (Takes count) → Goes (Host_takes count ∷ []) o (record o { to_host = way_left }) [] []
unfolding outcome devices_after May
goes_takes o way_left count may is =
    goes_one (Host_takes count) o (record o { to_host = way_left }) [] [] (λ ds. may)
    (λ ds. enters_silent (record o { to_host = way.after o.to_host (Takes count) }) (record o { to_host = way_left }) [] (ap (λ (x : WayState). record o { to_host = x }) is)) (λ ds. refl)

-- the same, of what a call answers
pub goes_took : (o new : OuterState) (count : ℕ) → is_stalled o ≡ false → new ≡ record o { to_host = way.after o.to_host (Takes count) } → Goes (Host_takes count ∷ []) o new [] []
goes_took o new count may is = subst (λ (x : OuterState). Goes (Host_takes count ∷ []) o x [] []) (sym is) (goes_takes o (way.after o.to_host (Takes count)) count may refl)

pub goes_begins : (o new : OuterState) (node sessions : ℕ) → new ≡ record o { air = begins o.air node sessions } → Goes (Host_begins node sessions ∷ []) o new [] []
unfolding outcome devices_after May
goes_begins o new node sessions is = goes_one (Host_begins node sessions) o new [] [] (λ ds. tt) (λ ds. enters_silent (record o { air = begins o.air node sessions }) new [] is) (λ ds. refl)

pub goes_discovers : (o new : OuterState) → new ≡ discovers o → Goes (Discovers ∷ []) o new [] []
unfolding outcome devices_after May
goes_discovers o new is = goes_one Discovers o new [] [] (λ ds. tt) (λ ds. enters_silent (discovers o) new [] is) (λ ds. refl)

pub goes_links : (o new : OuterState) (a b : ℕ) (live : Bool) → new ≡ record o { air = linking o.air a b live } → Goes (Links a b live ∷ []) o new [] []
unfolding outcome devices_after May
goes_links o new a b live is = goes_one (Links a b live) o new [] [] (λ ds. tt) (λ ds. enters_silent (record o { air = linking o.air a b live }) new [] is) (λ ds. refl)

pub goes_loses : (o new : OuterState) (count : ℕ) → new ≡ record o { air = record o.air { losing = o.air.losing + count } } → Goes (Loses count ∷ []) o new [] []
unfolding outcome devices_after May
goes_loses o new count is = goes_one (Loses count) o new [] [] (λ ds. tt) (λ ds. enters_silent (record o { air = record o.air { losing = o.air.losing + count } }) new [] is) (λ ds. refl)

pub goes_loses_acks : (o new : OuterState) (count : ℕ) → new ≡ record o { air = record o.air { ack_losing = o.air.ack_losing + count } } → Goes (Loses_acks count ∷ []) o new [] []
unfolding outcome devices_after May
goes_loses_acks o new count is = goes_one (Loses_acks count) o new [] [] (λ ds. tt) (λ ds. enters_silent (record o { air = record o.air { ack_losing = o.air.ack_losing + count } }) new [] is) (λ ds. refl)

pub goes_loss : (o new : OuterState) (side : Side) → new ≡ with_way o side (way.after (way_of o side) loses_unit) → Goes (Marks_loss side ∷ []) o new [] []
unfolding outcome devices_after May
goes_loss o new side is = goes_one (Marks_loss side) o new [] [] (λ ds. tt) (λ ds. enters_silent (with_way o side (way.after (way_of o side) loses_unit)) new [] is) (λ ds. refl)

pub goes_change : (o new : OuterState) (side : Side) (garble : Garble) → new ≡ with_way o side (way.after (way_of o side) (changes_frame garble)) → Goes (Marks_change side garble ∷ []) o new [] []
unfolding outcome devices_after May
goes_change o new side garble is = goes_one (Marks_change side garble) o new [] [] (λ ds. tt) (λ ds. enters_silent (with_way o side (way.after (way_of o side) (changes_frame garble))) new [] is) (λ ds. refl)

pub goes_collides : (o new : OuterState) → new ≡ with_chip o (chip.after o.chip.state Collides) → Goes (Collides_next ∷ []) o new [] []
unfolding outcome devices_after May
goes_collides o new is = goes_one Collides_next o new [] [] (λ ds. tt) (λ ds. enters_silent (with_chip o (chip.after o.chip.state Collides)) new [] is) (λ ds. refl)

pub goes_stalls : (o new : OuterState) (ticks : ℕ) → new ≡ record o { stalled_until = max o.stalled_until (o.clock + ticks) } → Goes (Stalls ticks ∷ []) o new [] []
unfolding outcome devices_after May
goes_stalls o new ticks is = goes_one (Stalls ticks) o new [] [] (λ ds. tt) (λ ds. enters_silent (record o { stalled_until = max o.stalled_until (o.clock + ticks) }) new [] is) (λ ds. refl)

pub goes_cuts : (o new : OuterState) (size : ℕ) → new ≡ record o { piece = size } → Goes (Cuts size ∷ []) o new [] []
unfolding outcome devices_after May
goes_cuts o new size is = goes_one (Cuts size) o new [] [] (λ ds. tt) (λ ds. enters_silent (record o { piece = size }) new [] is) (λ ds. refl)

-- with entries
pub goes_notes : (o new : OuterState) (entry : Entry) (before all : List Entry) → Enters (tells o (entry ∷ [])) new before all → Goes (Host_notes entry ∷ []) o new before all
unfolding outcome devices_after May
goes_notes o new entry before all done = goes_one (Host_notes entry) o new before all (λ ds. tt) (λ ds. done) (λ ds. refl)

pub goes_writes : (o new : OuterState) (unit : LineUnit) (before all : List Entry)
    → Enters (record { outer = record o { to_chip = way.after o.to_chip (Writes unit) }; entries = told Host o.to_chip unit }) new before all → Goes (Host_writes unit ∷ []) o new before all
unfolding outcome devices_after May
goes_writes o new unit before all done = goes_one (Host_writes unit) o new before all (λ ds. tt) (λ ds. done) (λ ds. refl)

pub goes_clears : (o new : OuterState) (side : Side) (before all : List Entry) → Enters (clears o side) new before all → Goes (Clears_pipe side ∷ []) o new before all
unfolding outcome devices_after May
goes_clears o new side before all done = goes_one (Clears_pipe side) o new before all (λ ds. tt) (λ ds. done) (λ ds. refl)

pub goes_chip_ticks : (o new : OuterState) (before all : List Entry) → Enters (chip_ticks o) new before all → Goes (Chip_ticks ∷ []) o new before all
unfolding outcome devices_after May
goes_chip_ticks o new before all done = goes_one Chip_ticks o new before all (λ ds. tt) (λ ds. done) (λ ds. refl)

-- a node joined
pub goes_joins : (o new : OuterState) (ds : List State) (node : ℕ) (listening : Bool) → listening ≡ listens_at (device_at ds (place_of node ds)) → new ≡ joins o node listening
    → GoesFor ds (IsOne (Joins node)) o new [] []
unfolding outcome devices_after May
goes_joins o new ds node listening told is = (
  Joins node ∷ [],
  refl,
  run_one (Joins node) (outside o ds) new ds [] [] tt
      (enters_silent (joins o node (listens_at (device_at ds (place_of node ds)))) new [] (is ∙ ap (λ (b : Bool). joins o node b) told)) refl,
)
