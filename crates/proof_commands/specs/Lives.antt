-- A host that goes on from earlier lives, whose records its keeper holds (this project's own rule).
use Rattle.std.specs.Prelude.{◌≡◌, ℕ, List, [], ◌∷◌, Option, Some, None}
use Rattle.s0_crypto.specs.declared.key_pair.Keys.{Keys}
use Rattle.zw_text.specs.declared.entry.Entry.{Entry}
use Rattle.host_keep.specs.Legal.{AreTextsOf}
use Rattle.host_keep.specs.declared.record.Record.{Record}
use Rattle.host_model.specs.State.{HostState}
use Rattle.host_model.specs.Events.{HostEvent}
use Rattle.host_model.specs.Opening.{opened}
use Rattle.proof_host.specs.Lives.{AreLives, entries_of_lives, with_records}

-- the records of lives, after those that there were before
abbrev pub records_from : Keys → HostState → List Record → List (List HostEvent) → List Record
records_from keys h records [] = records
records_from keys h records (events ∷ more) = records_from keys (opened keys (with_records h records events)) (with_records h records events) more

-- lives of a host that starts without records
abbrev pub AreLivesOf : Keys → List (List HostEvent) → Type 0
AreLivesOf keys lives = AreLives keys (opened keys []) [] lives

-- their records, and what the host noted in them
abbrev pub records_of : Keys → List (List HostEvent) → List Record
records_of keys lives = records_from keys (opened keys []) [] lives

abbrev pub entries_of : Keys → List (List HostEvent) → List Entry
entries_of keys lives = entries_of_lives keys (opened keys []) [] lives

-- a keeper that holds so many records holds these: it tells their texts; or it tells none, and there are none
abbrev pub HasRecords : ℕ → Option (List (List ℕ)) → List Record → Type 0
HasRecords number None records = (number ≡ 0) × (records ≡ [])
HasRecords number (Some texts) records = AreTextsOf records texts

-- the keeper holds the records of these earlier lives of a host; there may be none
pub record GoesOn (keys : Keys) (number : ℕ) (told : Option (List (List ℕ))) (lives : List (List HostEvent)) : Type 0 where
  pub are : AreLivesOf keys lives
  pub kept : HasRecords number told (records_of keys lives)
