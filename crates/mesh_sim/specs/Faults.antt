-- The faults of a repeat by their causes.
use Rattle.std.specs.Prelude.{◌≡◌, Option, Some, None}
use Rattle.air_frames.specs.declared.ages.Refusal.{Refusal}
use Rattle.air_frames.specs.declared.ages.Refusal.TheVariants.{NeverSent, Forgotten, Stale}
use Rattle.mesh_sim.specs.declared.event.RepeatFault.{RepeatFault}
use Rattle.mesh_sim.specs.declared.event.RepeatFault.TheVariants as fault

abbrev pub fault_of : Refusal → RepeatFault
fault_of NeverSent = fault.NeverSent
fault_of Forgotten = fault.Forgotten
fault_of (Stale count) = fault.Stale count

abbrev pub no_memory : RepeatFault
no_memory = fault.NoMemory

-- the answer where a repeat is refused, or else finds no memory
abbrev pub IsFault : Option Refusal → RepeatFault → Type 0
IsFault None given = given ≡ no_memory
IsFault (Some refusal) given = given ≡ fault_of refusal
