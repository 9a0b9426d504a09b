-- The loops over numbers of one size and over nodes: what is taken so far, and what is left to take.
use Rattle.std.proofs.Common.{◌≡◌, ℕ, suc, ◌+◌, ◌-◌, ◌*◌, ◌<◌, ◌≤◌, true, false, List, [], ◌∷◌, ◌++◌, length, get_or, drop, add-one, refl, sym, ap, ◌∙◌, append_assoc, length-append, arith, Result, Ok, Err}
use Rattle.std.proofs.lemmas.List.{append-nil}
use Rattle.std.proofs.Math.Seq.{drop-cons}
use Rattle.std.proofs.Math.ListN.{drop_of_length-le}
use Rattle.class_core.specs.declared.fault.ClassFault.{ClassFault}
use Rattle.class_core.specs.declared.fault.ClassFault.TheVariants.{BadValue}
use Rattle.class_core.specs.declared.number.Size.{Size}
use Rattle.class_core.specs.declared.number.Size.TheVariants.{One, Two, Four}
use Rattle.class_core.specs.Ranges.{bytes_in, is_node, size_of, value_of, sized}
use Rattle.class_core.specs.Reading.{◌>>=◌, number_in, numbers_in, nodes_of}

pub size_of-sized : (size : Size) (n : ℕ) → size_of (sized size n) ≡ size
size_of-sized One n = refl
size_of-sized Two n = refl
size_of-sized Four n = refl

pub value_of-sized : (size : Size) (n : ℕ) → value_of (sized size n) ≡ n
value_of-sized One n = refl
value_of-sized Two n = refl
value_of-sized Four n = refl

-- what is taken of so many numbers is as long as the index, and with those that are left it is all of them
pub record IsTaken (size : Size) (count at : ℕ) (bytes prefix : List ℕ) (i : ℕ) : Type 0 where
  pub so_many : length prefix ≡ i
  pub all : prefix ++ numbers_in size (count - i) (at + i * bytes_in size) bytes ≡ numbers_in size count at bytes

pub taken_one : (size : Size) (count at : ℕ) (bytes prefix : List ℕ) (i n : ℕ) → i < count → n ≡ number_in size (at + i * bytes_in size) bytes → IsTaken size count at bytes prefix i → IsTaken size count at bytes (prefix ++ n ∷ []) (i + 1)
taken_one size count at bytes prefix i n lt e t =
    let k : count - i ≡ suc (count - (i + 1)) = omega arith in
    let next : at + (i + 1) * bytes_in size ≡ at + i * bytes_in size + bytes_in size = omega arith in
    let unrolled : numbers_in size (count - i) (at + i * bytes_in size) bytes ≡ n ∷ numbers_in size (count - (i + 1)) (at + (i + 1) * bytes_in size) bytes = rw (k, next, e) refl in
    record {
      so_many = omega (arith, length-append prefix (n ∷ []), t.so_many);
      all = append_assoc prefix (n ∷ []) _ ∙ ap (λ (x : List ℕ). prefix ++ x) (sym unrolled) ∙ t.all;
    }

-- nodes that are taken already, and what reading gives after them
abbrev pub following : List ℕ → Result (List ℕ) ClassFault → Result (List ℕ) ClassFault
following prefix (Ok others) = Ok (prefix ++ others)
following prefix (Err fault) = Err fault

regrouped : (prefix : List ℕ) (b : ℕ) (r : Result (List ℕ) ClassFault) → following prefix (r >>= λ others. Ok (b ∷ others)) ≡ following (prefix ++ b ∷ []) r
regrouped prefix b (Ok others) = ap (λ (x : List ℕ). Ok x) (sym (append_assoc prefix (b ∷ []) others))
regrouped prefix b (Err f) = refl

-- the nodes so far, with what reading gives from the index on, are what reading gives
abbrev pub IsNodesSoFar : ℕ → List ℕ → List ℕ → ℕ → Type 0
IsNodesSoFar at bytes prefix i = following prefix (nodes_of i (drop i bytes)) ≡ nodes_of at (drop at bytes)

pub nodes_begin : (at : ℕ) (bytes : List ℕ) → IsNodesSoFar at bytes [] at
nodes_begin at bytes = same (nodes_of at (drop at bytes))
  where
    same : (r : Result (List ℕ) ClassFault) → following [] r ≡ r
    same (Ok x) = refl
    same (Err f) = refl

pub nodes_one : (at : ℕ) (bytes prefix : List ℕ) (i b : ℕ) → i < length bytes → b ≡ get_or bytes i 0 → is_node b ≡ true → IsNodesSoFar at bytes prefix i → IsNodesSoFar at bytes (prefix ++ b ∷ []) (i + 1)
nodes_one at bytes prefix i b lt e good so_far =
    let cut : drop i bytes ≡ b ∷ drop (i + 1) bytes = rw (e, add-one) (drop-cons bytes i 0 lt) in
    let one : following prefix (nodes_of i (drop i bytes)) ≡ following (prefix ++ b ∷ []) (nodes_of (i + 1) (drop (i + 1) bytes)) = rw (cut, good) (regrouped prefix b (nodes_of (i + 1) (drop (i + 1) bytes))) in
    sym one ∙ so_far

pub nodes_bad : (at : ℕ) (bytes prefix : List ℕ) (i b : ℕ) → i < length bytes → b ≡ get_or bytes i 0 → is_node b ≡ false → IsNodesSoFar at bytes prefix i → nodes_of at (drop at bytes) ≡ Err (BadValue i)
nodes_bad at bytes prefix i b lt e bad so_far =
    let cut : drop i bytes ≡ b ∷ drop (i + 1) bytes = rw (e, add-one) (drop-cons bytes i 0 lt) in
    let one : following prefix (nodes_of i (drop i bytes)) ≡ Err (BadValue i) = rw (cut, bad) refl in
    sym so_far ∙ one

pub nodes_end : (at : ℕ) (bytes prefix : List ℕ) (i : ℕ) → length bytes ≤ i → IsNodesSoFar at bytes prefix i → nodes_of at (drop at bytes) ≡ Ok prefix
nodes_end at bytes prefix i le so_far =
    let one : following prefix (nodes_of i (drop i bytes)) ≡ Ok prefix = rw (drop_of_length-le bytes le) (ap (λ (x : List ℕ). Ok x) (append-nil prefix)) in
    sym so_far ∙ one
