-- What the keeper of the program tells: what the one tells that it is (this project's own rule).
use Rattle.std.specs.Prelude.{◌≡◌, ℕ, List, Some, length}
use Rattle.host_keep.specs.Keeping.{Shelf, length-told}
use Rattle.run_records.specs.declared.records.Records.{Records}
use Rattle.run_records.specs.declared.records.Records.TheVariants.{Memory, File}

-- the records
abbrev pub texts_of : Records → List (List ℕ)
texts_of (Memory keeper) = keeper.records
texts_of (File keeper) = keeper.records

-- how many there are
abbrev pub number_of : Records → ℕ
number_of records = length (texts_of records)

-- how often it failed
abbrev pub faults_of : Records → ℕ
faults_of (Memory keeper) = 0
faults_of (File keeper) = keeper.faults

-- the records, which both tell, and that
abbrev pub shelf_of : Records → Shelf
shelf_of records = record { records = Some (texts_of records); faults = faults_of records }

-- how many records were read
abbrev pub reads_of : Records → ℕ
reads_of (Memory keeper) = keeper.reads
reads_of (File keeper) = keeper.reads

-- the records that are told are as many as there are
pub told_are_all : (records : Records) (told : List (List ℕ)) → (shelf_of records).records ≡ Some told → number_of records ≡ length told
told_are_all records told e = length-told e
