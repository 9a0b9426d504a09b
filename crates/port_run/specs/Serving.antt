-- What was read and written at steps (this project's own rule).
use Rattle.std.specs.Prelude.{◌≡◌, ℕ, ◌+◌, ◌<◌, ◌≤◌, List, [], ◌∷◌, ◌++◌, length, Option}
use Rattle.std.specs.List.{flat_map}
use Rattle.std.specs.Io.KnownBytes.{Keeps, Consumes, Appends, IsAtEnd}
use Rattle.run_lines.specs.declared.reader.TheConstants.{PIECE, MAX_INPUT}
use Rattle.serial_frame.specs.Items.{unit_text}
use Rattle.host_model.specs.Did.{Did}
use Rattle.host_model.specs.Events.{HostEvent}
use Rattle.host_model.specs.declared.out.HostOut.{HostOut}
use Rattle.host_model.specs.declared.out.HostOut.TheVariants.{Write, Note}
use Rattle.run_lines.specs.Writing.{AppendsPrefix}
use Rattle.port_run.specs.declared.stop.Stop.{Stop}
use Rattle.port_run.specs.declared.stop.Stop.TheVariants.{ReadFault, WriteFault, InputTooLong, NoMemory}
use Rattle.port_run.specs.Steps.{Place, Step, Asks, Takes, Rests, Ticks, Pumps, AllRan}

-- ---- what is written

-- the bytes of the units that a host puts out; its notes are not written
abbrev pub unit_bytes : HostOut → List ℕ
unit_bytes (Write unit) = unit_text unit
unit_bytes (Note entry) = []

abbrev pub units_of : List HostOut → List ℕ
units_of outs = flat_map unit_bytes outs

-- a write failed, and a prefix of the bytes of a unit was written; or there was no memory for it, and none of them was
abbrev pub WritesPart : Stop → Option (List ℕ) → Option (List ℕ) → List ℕ → Type 0
WritesPart ReadFault sink sink' bytes = ⊥
WritesPart InputTooLong sink sink' bytes = ⊥
WritesPart WriteFault sink sink' bytes = AppendsPrefix sink sink' bytes
WritesPart NoMemory sink sink' bytes = sink' ≡ sink

-- the units of the first of these were written, each whole
abbrev pub WritesFirst : Option (List ℕ) → Option (List ℕ) → List HostOut → Type 0
WritesFirst sink sink' outs = (prefix rest : List HostOut) × (outs ≡ prefix ++ rest) × Appends sink sink' (units_of prefix)

-- a write failed, and a prefix of the bytes of all units was written; or there was no memory for one, and those before it were written
abbrev pub WritesSome : Stop → Option (List ℕ) → Option (List ℕ) → List HostOut → Type 0
WritesSome ReadFault sink sink' outs = ⊥
WritesSome InputTooLong sink sink' outs = ⊥
WritesSome WriteFault sink sink' outs = AppendsPrefix sink sink' (units_of outs)
WritesSome NoMemory sink sink' outs = WritesFirst sink sink' outs

-- steps were done, and the units that the host put out were written
pub record Wrote (steps : List Step) (old new : Place) (sink sink' : Option (List ℕ)) : Type 0 where
  pub outs : List HostOut
  pub ran : AllRan steps old new outs
  pub written : Appends sink sink' (units_of outs)

-- steps were done, and a prefix of the units was written
pub record WrotePrefix (steps : List Step) (old new : Place) (sink sink' : Option (List ℕ)) : Type 0 where
  pub outs : List HostOut
  pub ran : AllRan steps old new outs
  pub written : AppendsPrefix sink sink' (units_of outs)

-- steps were done, then events of the next one, and then there was no memory; the first of the units were written, each whole
pub record Stopped (steps : List Step) (old new : Place) (sink sink' : Option (List ℕ)) : Type 0 where
  pub mid : Place
  pub some : List HostOut
  pub all : List HostOut
  pub ran : AllRan steps old mid some
  pub events : List HostEvent
  pub did : Did events mid.host.state new.host.state some all mid.shelf new.shelf
  pub written : WritesFirst sink sink' all

abbrev pub Halts : Stop → List Step → Place → Place → Option (List ℕ) → Option (List ℕ) → Type 0
Halts ReadFault steps old new sink sink' = Wrote steps old new sink sink'
Halts InputTooLong steps old new sink sink' = Wrote steps old new sink sink'
Halts WriteFault steps old new sink sink' = WrotePrefix steps old new sink sink'
Halts NoMemory steps old new sink sink' = Stopped steps old new sink sink'

-- ---- what is read

-- the bytes that were taken
abbrev pub bytes_at : Step → List ℕ
bytes_at (Takes bytes) = bytes
bytes_at step = []

abbrev pub bytes_of : List Step → List ℕ
bytes_of steps = flat_map bytes_at steps

-- what the source had left at each step: bytes that were taken were read there, and none were left where a read gave none
abbrev pub Reads : List Step → Option (List ℕ) → Option (List ℕ) → Type 0
Reads [] left left' = Keeps left left'
Reads (Takes bytes ∷ steps) left left' = (mid : Option (List ℕ)) × Consumes left mid bytes × Reads steps mid left'
Reads (Rests ∷ steps) left left' = (mid : Option (List ℕ)) × Consumes left mid [] × IsAtEnd mid × Reads steps mid left'
Reads (Asks line answer ∷ steps) left left' = Reads steps left left'
Reads (Ticks ∷ steps) left left' = Reads steps left left'
Reads (Pumps ∷ steps) left left' = Reads steps left left'

-- ---- both

-- steps were done with what was read and written at them; so many bytes were read before and after
pub record Went (steps : List Step) (old new : Place) (sink sink' left left' : Option (List ℕ)) (taken taken' : ℕ) : Type 0 where
  pub wrote : Wrote steps old new sink sink'
  pub reads : Reads steps left left'
  pub count : taken' ≡ taken + length (bytes_of steps)

-- what was read besides, where so many bytes were taken
abbrev pub EndsReading : Stop → ℕ → List ℕ → Type 0
EndsReading ReadFault taken rest = rest ≡ []
EndsReading WriteFault taken rest = rest ≡ []
EndsReading InputTooLong taken rest = MAX_INPUT < taken + length rest
EndsReading NoMemory taken rest = taken + length rest ≤ MAX_INPUT

-- Steps of this kind were done, and then no further one for this reason. Of the bytes of the last read all or some were not taken where
-- there was no memory, or where there came too many.
pub record Broke (Cut : Stop → List Step → Type 0) (stop : Stop) (old new : Place) (sink sink' left left' : Option (List ℕ)) (taken : ℕ) : Type 0 where
  pub steps : List Step
  pub cut : Cut stop steps
  pub halts : Halts stop steps old new sink sink'
  pub mid : Option (List ℕ)
  pub reads : Reads steps left mid
  pub rest : List ℕ
  pub consumed : Consumes mid left' rest
  pub short : length rest ≤ PIECE
  pub within : taken + length (bytes_of steps) ≤ MAX_INPUT
  pub ends : EndsReading stop (taken + length (bytes_of steps)) rest
