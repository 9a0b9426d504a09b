-- A host that starts from the records of a keeper (this project's own rule, docs/RECORDS.md).
use Rattle.std.specs.Prelude.{◌≡◌, ℕ, true, false, List, length, Option, Some, None}
use Rattle.serial_frame.specs.Stream.{no_rest}
use Rattle.s0_crypto.specs.declared.key_pair.Keys.{Keys}
use Rattle.host_keep.specs.declared.record.Record.{Record}
use Rattle.host_keep.specs.Keeping.{IsKeptAt}
use Rattle.host_keep.specs.RecordText.{IsTextOf, IsNoText}
use Rattle.host_keep.specs.Legal.{AreTextsOf, AreLegal}
use Rattle.host_model.specs.State.{HostState, HostParts}
use Rattle.host_model.specs.Restoring.{may_restore, restored}
use Rattle.host_model.specs.Opening.{opened}

-- records have the texts that a keeper tells. Of one that does not tell them, nothing is said
abbrev pub AreTold : List Record → Option (List (List ℕ)) → Type 0
AreTold records None = Unit {0}
AreTold records (Some texts) = AreTextsOf records texts

-- The host is the one that starts from legal records, which are as many as the keeper holds, and have the texts that it tells.
pub record Opens (keys : Keys) (number : ℕ) (told : Option (List (List ℕ))) (host : HostParts) : Type 0 where
  pub records : List Record
  pub many : length records ≡ number
  pub are : AreTold records told
  pub legal : AreLegal records
  pub state : host ≡ record { decoder = no_rest; state = opened keys records }

-- ---- one record

-- the record of a place
abbrev pub IsRecordAt : Option (List (List ℕ)) → ℕ → Record → Type 0
IsRecordAt told at one = (text : List ℕ) × IsKeptAt told at text × IsTextOf one text

-- the text of a place is that of no record
abbrev pub IsNoneAt : Option (List (List ℕ)) → ℕ → Type 0
IsNoneAt told at = (text : List ℕ) × IsKeptAt told at text × IsNoText text

-- the record of a place was taken up
abbrev pub Takes : Option (List (List ℕ)) → ℕ → HostParts → HostParts → Type 0
Takes told at old new =
    (one : Record) × IsRecordAt told at one × (may_restore old.state one ≡ true) × (new ≡ record old { state = restored old.state one })

-- the text of a place is that of no record that a host may take up
abbrev pub MayTakeNone : Option (List (List ℕ)) → ℕ → HostState → Type 0
MayTakeNone told at h = (text : List ℕ) × IsKeptAt told at text × ((one : Record) → IsTextOf one text → may_restore h one ≡ false)
