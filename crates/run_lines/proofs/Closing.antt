-- Last lines that are told in other words.
use Rattle.std.proofs.Common.{ℕ, List, Option}
use Rattle.run_lines.specs.Run.{Closes, ClosesWell}
use Rattle.run_lines.specs.declared.running.LinesEnd.{LinesEnd}
use Rattle.run_lines.specs.declared.running.LinesEnd.TheVariants.{All, Bad, ReadFailed, TooMuch, WriteFailed, NoMemory}
use Rattle.run_lines.specs.declared.status.Status.{Status}
use Rattle.run_lines.specs.declared.status.Status.TheVariants.{Ok, Usage, BadLine, ReadFault, WriteFault, NoMemory as no_memory, InputTooLong, BadHex, Undone, KeeperFault, BadRecord, No}

module _ {X Y : Type 0} (ends : X → List (List ℕ) → Type 0) (ends' : Y → List (List ℕ) → Type 0) (x : X) (y : Y) (told : (last : List (List ℕ)) → ends x last → ends' y last)
    (sink sink' : Option (List ℕ)) where
  well : (status : Status) → ClosesWell ends status x sink sink' → ClosesWell ends' status y sink sink'
  well Ok c = (c.0, told c.0 c.1, c.2)
  well WriteFault c = (c.0, told c.0 c.1, c.2)
  well no_memory c = c
  well Usage c = absurd c
  well (BadLine line fault) c = absurd c
  well ReadFault c = absurd c
  well InputTooLong c = absurd c
  well (BadHex place) c = absurd c
  well (Undone word) c = absurd c
  well KeeperFault c = absurd c
  well (BadRecord place) c = absurd c
  well (No line) c = absurd c

  pub closes-as : (end : LinesEnd) (status : Status) → Closes ends end status x sink sink' → Closes ends' end status y sink sink'
  closes-as All status c = well status c
  closes-as (Bad number fault) status c = c
  closes-as ReadFailed status c = c
  closes-as TooMuch status c = c
  closes-as WriteFailed status c = c
  closes-as NoMemory status c = c
