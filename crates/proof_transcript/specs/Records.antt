-- What the keeper has of what a transcript shows (this project's own).
use Rattle.std.specs.Prelude.{◌≡◌, ℕ, List, [], ◌∷◌, Option, Some}
use Rattle.std.specs.List.{flat_map}
use Rattle.zw_text.specs.declared.entry.Entry.{Entry}
use Rattle.zw_text.specs.Transcript.{shown}
use Rattle.law_host.specs.law_transcript.Records.{KeepsRecords, cancelled_at}
use Rattle.host_keep.specs.Legal.{AreTextsOf}
use Rattle.host_keep.specs.declared.record.Record.{Record}
use Rattle.host_keep.specs.declared.record.Record.TheVariants.{Cancelled}

-- the keeper tells its records, and they are what the transcript shows
abbrev pub HasRecords : List Entry → Option (List (List ℕ)) → Type 0
HasRecords transcript records = (texts : List (List ℕ)) × (records ≡ Some texts) × KeepsRecords transcript texts

-- the command of a record that says that it was cancelled
abbrev pub cancelled_by : Record → List ℕ
cancelled_by (Cancelled command) = command ∷ []
cancelled_by _ = []

-- the keeper tells its records, and the commands that they cancel are those that the transcript shows to be taken back, in the same order
pub record TellsCancelled (past : List Entry) (records : Option (List (List ℕ))) : Type 0 where
  pub texts : List (List ℕ)
  pub told : records ≡ Some texts
  pub kept : List Record
  pub are : AreTextsOf kept texts
  pub cancelled : flat_map cancelled_by kept ≡ shown cancelled_at past
