-- The numbers of a JSON array, one after another.
use Rattle.std.proofs.Common.{◌≡◌, ℕ, zero, suc, ◌+◌, ◌<◌, ◌≤◌, List, [], ◌∷◌, ◌++◌, length, get_or, take, map, Option, Some, None, option_and_then, refl, sym, ap, ◌∙◌, arith, add-one}
use Rattle.serde_json.specs.Data.{Data, Items, no_items, item, array}
use Rattle.serde_json.specs.Find.{as_array, as_number, as_u64}
use Rattle.serde_json.specs.View.{items_of}
use Rattle.host_keep.specs.RecordText.{number_data, row_data}

abbrev list_of : Items → List Data
list_of no_items = []
list_of (item d ds) = d ∷ list_of ds

list_of-items_of : (ds : List Data) → list_of (items_of ds) ≡ ds
list_of-items_of [] = refl
list_of-items_of (d ∷ ds) = ap (λ es. d ∷ es) (list_of-items_of ds)

same_some : (a b : Items) → Some a ≡ Some b → a ≡ b
same_some a b e = cc

-- the items of a row
pub row_items : (value : Data) (ds : List Data) (ns : List ℕ) → Some (items_of ds) ≡ as_array value → value ≡ row_data ns → ds ≡ map number_data ns
row_items value ds ns e row =
    let same = same_some (items_of ds) (items_of (map number_data ns)) (e ∙ ap as_array row) in
    sym (list_of-items_of ds) ∙ ap list_of same ∙ list_of-items_of (map number_data ns)

-- the item at a place is that number
pub number_there : {V : Type 0} (f : V → Data) (vs : List V) (ns : List ℕ) (i : ℕ) (d : V) → map f vs ≡ map number_data ns → i < length vs
    → option_and_then as_u64 (as_number (f (get_or vs i d))) ≡ Some (get_or ns i 0)
number_there f [] ns i d e h = absurd (omega arith)
number_there f (v ∷ vs) [] i d e h = absurd cc
number_there f (v ∷ vs) (n ∷ ns) zero d e h = let first : f v ≡ number_data n = cc in rw first refl
number_there f (v ∷ vs) (n ∷ ns) (suc i) d e h = let rest : map f vs ≡ map number_data ns = cc in number_there f vs ns i d rest (omega arith)

same_length : {V : Type 0} (f : V → Data) (vs : List V) (ns : List ℕ) → map f vs ≡ map number_data ns → length vs ≡ length ns
same_length f [] [] e = refl
same_length f [] (n ∷ ns) e = absurd cc
same_length f (v ∷ vs) [] e = absurd cc
same_length f (v ∷ vs) (n ∷ ns) e = let rest : map f vs ≡ map number_data ns = cc in ap suc (same_length f vs ns rest)

take_more : (ns : List ℕ) (i : ℕ) → i < length ns → take (i + 1) ns ≡ take i ns ++ get_or ns i 0 ∷ []
take_more ns i h = rw add-one (take_suc ns i h)
  where
    take_suc : (ns : List ℕ) (i : ℕ) → i < length ns → take (suc i) ns ≡ take i ns ++ get_or ns i 0 ∷ []
    take_suc [] i h = absurd (omega arith)
    take_suc (n ∷ ns) zero h = refl
    take_suc (n ∷ ns) (suc i) h = ap (λ ms. n ∷ ms) (take_suc ns i (omega arith))

-- one number more is found
pub found_more : {V : Type 0} (f : V → Data) (vs : List V) (ns found : List ℕ) (i n : ℕ) → map f vs ≡ map number_data ns → i < length vs → found ≡ take i ns → n ≡ get_or ns i 0
    → found ++ n ∷ [] ≡ take (i + 1) ns
found_more f vs ns found i n e h so is =
    ap (λ xs. xs ++ n ∷ []) so ∙ ap (λ m. take i ns ++ m ∷ []) is ∙ sym (take_more ns i (omega (arith, same_length f vs ns e)))

pub none_number : (n : ℕ) → (let o : Option ℕ = None in o) ≡ Some n → ⊥
none_number n e = cc

pub same_number : (m n : ℕ) → Some m ≡ Some n → m ≡ n
same_number m n e = cc

take_past : (ns : List ℕ) (i : ℕ) → length ns ≤ i → take i ns ≡ ns
take_past [] zero h = refl
take_past [] (suc i) h = refl
take_past (n ∷ ns) zero h = absurd (omega arith)
take_past (n ∷ ns) (suc i) h = ap (λ ms. n ∷ ms) (take_past ns i (omega arith))

-- all numbers are found
pub found_all : {V : Type 0} (f : V → Data) (vs : List V) (ns : List ℕ) (i : ℕ) → map f vs ≡ map number_data ns → length vs ≤ i → take i ns ≡ ns
found_all f vs ns i e h = take_past ns i (omega (arith, same_length f vs ns e))
