-- What a binary search finds among entries in order.
use Rattle.std.proofs.Common.{ℕ, length, Result, Ok, Err, IfOk, IfErr, arith}
use Rattle.std.specs.List.Sorted.{IsSearchInRange, IsBinarySearchResult}
use Rattle.value_store.specs.Values.{Key, key_cmp}
use Rattle.value_store.specs.Entries.{Entries, IsGapFor, IsInOrder, IsPlaceOf}
use Rattle.value_store.proofs.Keys.{key_total}
use Rattle.value_store.proofs.Sorted.{rises}

pub searched : (entries : Entries) → IsInOrder entries → (key : Key) (r : Result ℕ ℕ)
    → IsSearchInRange r (length entries) → IsBinarySearchResult (λ e. key_cmp e.0 key) entries r
    → record { found : IfOk r (IsPlaceOf entries key); absent : IfErr r (IsGapFor entries key) }
searched entries order key (Ok at) within is = record { found = record { within = within; same = is }; absent = tt }
searched entries order key (Err at) within is =
    let parts = is (rises key_total entries order key) in
    record {
      found = tt;
      absent = record {
        within = within;
        lower = λ j d under. parts.0 j d (omega arith) under;
        greater = parts.1;
      };
    }
