-- What a command of the program is given and leaves (this project's own rule).
use Rattle.std.specs.Prelude.{ℕ, List, Option}
use Rattle.device_sim.specs.State.{State}
use Rattle.host_keep.specs.Keeping.{Shelf}

-- the bytes that the source has left and how often it failed, what the sink was given and how often it failed, the devices, and how many
-- records the keeper holds, which, how often it failed, and how many were read: bytes and records where they are told
pub record Around : Type 0 where
  pub left : Option (List ℕ)
  pub read_faults : ℕ
  pub written : Option (List ℕ)
  pub write_faults : ℕ
  pub devices : List State
  pub kept : ℕ
  pub records : Option (List (List ℕ))
  pub keeper_faults : ℕ
  pub keeper_reads : ℕ

abbrev pub around : Option (List ℕ) → ℕ → Option (List ℕ) → ℕ → List State → ℕ → Shelf → ℕ → Around
around left read_faults written write_faults devices kept shelf keeper_reads = record {
  left = left;
  read_faults = read_faults;
  written = written;
  write_faults = write_faults;
  devices = devices;
  kept = kept;
  records = shelf.records;
  keeper_faults = shelf.faults;
  keeper_reads = keeper_reads;
}

-- what its keeper holds
abbrev pub shelf_in : Around → Shelf
shelf_in around = record { records = around.records; faults = around.keeper_faults }
