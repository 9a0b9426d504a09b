-- What is known of the records that a keeper holds (this project's own rule).
use Rattle.std.specs.Prelude.{◌≡◌, ℕ, Bool, true, false, List, [], ◌∷◌, ◌++◌, length, slice_get, Option, Some, None}
use Rattle.zw_base.specs.Faults.{Rose}

-- what a keeper holds, where it tells that, and how often it failed
pub record Shelf : Type 0 where
  pub records : Option (List (List ℕ))
  pub faults : ℕ

-- from the records before to those after these were added, where they are told; a keeper goes on telling or not
abbrev pub OptAdds : Option (List (List ℕ)) → Option (List (List ℕ)) → List (List ℕ) → Type 0
OptAdds None after texts = after ≡ None
OptAdds (Some before) after texts = after ≡ Some (before ++ texts)

-- this is the record at that place, where they are told
abbrev pub IsKeptAt : Option (List (List ℕ)) → ℕ → List ℕ → Type 0
IsKeptAt None at bytes = Unit {0}
IsKeptAt (Some records) at bytes = slice_get records at ≡ Some bytes

-- these records are added to what a keeper holds
abbrev pub Adds : List (List ℕ) → Shelf → Shelf → Type 0
Adds texts before after = OptAdds before.records after.records texts

-- a keeper failed, and counted that
abbrev pub Fails : Shelf → Shelf → Type 0
Fails before after = Rose before.faults after.faults

-- a record that was to be kept is added; or it is not, and the keeper failed
abbrev pub Kept : Bool → List ℕ → Shelf → Shelf → Type 0
Kept true bytes before after = Adds (bytes ∷ []) before after
Kept false bytes before after = Adds [] before after × Fails before after

-- one record more, where it was kept
abbrev pub added : Bool → ℕ
added true = 1
added false = 0

-- records that are told are those
pub length-told : {records told : List (List ℕ)} → Some records ≡ Some told → length records ≡ length told
length-told e = cc
