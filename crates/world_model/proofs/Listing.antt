-- Node after node, as the final table lists them.
use Rattle.std.proofs.Common.{◌≡◌, ℕ, zero, suc, ◌+◌, Bool, true, false, List, [], ◌∷◌, ◌++◌, refl, ap, sym, ◌∙◌, subst, append_assoc, arith, add-one}
use Rattle.std.specs.Prelude.{filter, if◌then◌else◌}
use Rattle.std.specs.List.{range_with_len, flat_map}
use Rattle.std.proofs.lemmas.List.{append-nil}
use Rattle.std.proofs.lemmas.Grind.{flat_map-append}
use Rattle.zw_text.specs.declared.entry.Entry.{Entry}

-- a range with one more number
longer : (n a m : ℕ) → a + n ≡ m → range_with_len a (suc n) ≡ range_with_len a n ++ m ∷ []
longer zero a m e = let same : a ≡ m = omega (arith, e) in ap (λ (j : ℕ). j ∷ []) same
longer (suc n) a m e = ap (λ (l : List ℕ). a ∷ l) (longer n (a + 1) m (omega (arith, e)))

-- those that pass a test, one after another
flat_filter : {A : Type 0} (f : ℕ → List A) (p : ℕ → Bool) (xs : List ℕ) → flat_map f (filter p xs) ≡ flat_map (λ n. if p n then f n else []) xs
flat_filter f p [] = refl
flat_filter f p (x ∷ xs) = by_test (p x) (flat_filter f p xs)
  where
    by_test : (b : Bool) → flat_map f (filter p xs) ≡ flat_map (λ n. if p n then f n else []) xs
        → flat_map f (if b then x ∷ filter p xs else filter p xs) ≡ (if b then f x else []) ++ flat_map (λ n. if p n then f n else []) xs
    by_test true ih = ap (λ l. f x ++ l) ih
    by_test false ih = ih

-- an entry, and what is listed of the first nodes
abbrev pub listing : Entry → (ℕ → List Entry) → ℕ → List Entry
listing head listed k = head ∷ flat_map listed (range_with_len 1 k)

pub listing_more : (head : Entry) (listed : ℕ → List Entry) (k node : ℕ) (before some all : List Entry) → node ≡ k + 1 → some ≡ before ++ listing head listed k → all ≡ some ++ listed node
    → all ≡ before ++ listing head listed (k + 1)
listing_more head listed k node before some all next so_far more =
    let done = flat_map listed (range_with_len 1 k) in
    let with_next : flat_map listed (range_with_len 1 (k + 1)) ≡ done ++ listed node =
    ap (λ (j : ℕ). flat_map listed (range_with_len 1 j)) (add-one k)
    ∙ (ap (λ (l : List ℕ). flat_map listed l) (longer k 1 node (omega (arith, next)))
    ∙ (flat_map-append listed (range_with_len 1 k) (node ∷ []) ∙ ap (λ (l : List Entry). done ++ l) (append-nil (listed node)))) in
    more
    ∙ (ap (λ (l : List Entry). l ++ listed node) so_far
    ∙ (append_assoc before (listing head listed k) (listed node) ∙ ap (λ (l : List Entry). before ++ (head ∷ l)) (sym with_next)))

-- where all nodes were listed that pass a test
pub listing_whole : (head : Entry) (entries : ℕ → List Entry) (is_listed : ℕ → Bool) (k : ℕ) (before all : List Entry) → k ≡ 232
    → all ≡ before ++ listing head (λ n. if is_listed n then entries n else []) k → all ≡ before ++ (head ∷ flat_map entries (filter is_listed (range_with_len 1 232)))
listing_whole head entries is_listed k before all full so_far =
    subst (λ (n : ℕ). all ≡ before ++ listing head (λ n. if is_listed n then entries n else []) n) full so_far
    ∙ ap (λ (l : List Entry). before ++ (head ∷ l)) (sym (flat_filter entries is_listed (range_with_len 1 232)))
