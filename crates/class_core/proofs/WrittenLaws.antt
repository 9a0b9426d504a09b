-- What is written stands in the bytes that are written.
use Rattle.std.proofs.Common.{◌≡◌, ℕ, ◌+◌, ◌<◌, Bool, true, false, Some, List, [], ◌∷◌, ◌++◌, length, refl, sym, subst, arith, append_assoc, length-append}
use Rattle.std.specs.Prelude.{slice_get, ◌&&◌}
use Rattle.std.specs.List.{list_all}
use Rattle.std.proofs.lemmas.Option.{slice_get_past}
use Rattle.class_core.specs.declared.number.Size.{Size}
use Rattle.class_core.specs.declared.number.Size.TheVariants.{One, Two, Four}
use Rattle.class_core.specs.declared.number.Number.{Number}
use Rattle.class_core.specs.declared.number.Number.TheVariants as number_of
use Rattle.class_core.specs.Ranges.{bytes_in, is_node, size_of, value_of, Scaled, IsScaled}
use Rattle.class_core.specs.Cell.{Cell, Whole, Limited, Divided, End, HasParts, byte_of, Stand, written, HasAll}
use Rattle.class_core.specs.Fields.{part, flag, number, numbers, scaled, nodes}

following_all : (prefix : List ℕ) (v : ℕ) (rest : List ℕ) → slice_get (prefix ++ v ∷ rest) (length prefix) ≡ Some v
following_all [] v rest = refl
following_all (x ∷ prefix) v rest = following_all prefix v rest

-- the cells stand where the prefix ends, so they stand one further after one byte more
moved : (cs : List Cell) (prefix : List ℕ) (v : ℕ) (rest : List ℕ) → Stand cs (length (prefix ++ v ∷ [])) ((prefix ++ v ∷ []) ++ rest) → Stand cs (length prefix + 1) (prefix ++ v ∷ rest)
moved cs prefix v rest s =
    subst (λ (bytes : List ℕ). Stand cs (length prefix + 1) bytes) (append_assoc prefix (v ∷ []) rest)
    (subst (λ (at : ℕ). Stand cs at ((prefix ++ v ∷ []) ++ rest)) (length-append prefix (v ∷ [])) s)

-- what is written after a prefix stands there
pub written_stand : (cs : List Cell) (prefix : List ℕ) → HasAll cs → Stand cs (length prefix) (prefix ++ written cs)
written_stand [] prefix h = tt
written_stand (Whole v ∷ cs) prefix h = (following_all prefix v (written cs), moved cs prefix v (written cs) (written_stand cs (prefix ++ v ∷ []) h.1))
written_stand (Limited allowed v ∷ cs) prefix h = ((following_all prefix v (written cs), h.0), moved cs prefix v (written cs) (written_stand cs (prefix ++ v ∷ []) h.1))
written_stand (Divided parts ∷ cs) prefix h = ((byte_of parts, following_all prefix (byte_of parts) (written cs), h.0), moved cs prefix (byte_of parts) (written cs) (written_stand cs (prefix ++ byte_of parts ∷ []) h.1))
written_stand (End ∷ cs) prefix h =
    subst (λ (x : List Cell). Stand (End ∷ x) (length prefix) (prefix ++ written x)) (sym h)
    (slice_get_past (prefix ++ []) (length prefix) (omega (arith, length-append prefix [])), tt)

pub has_number : (size : Size) (n : ℕ) (cs : List Cell) → HasAll cs → HasAll (number size n ++ cs)
has_number One n cs h = (tt, h)
has_number Two n cs h = (tt, (tt, h))
has_number Four n cs h = (tt, (tt, (tt, (tt, h))))

-- a number alone
pub has_number_last : (size : Size) (n : ℕ) → HasAll (number size n)
has_number_last One n = (tt, tt)
has_number_last Two n = (tt, (tt, tt))
has_number_last Four n = (tt, (tt, (tt, (tt, tt))))

pub has_numbers : (size : Size) (ns : List ℕ) → HasAll (numbers size ns)
has_numbers size [] = tt
has_numbers size (n ∷ ns) = has_number size n (numbers size ns) (has_numbers size ns)

pub has_nodes : (ns : List ℕ) → list_all is_node ns ≡ true → HasAll (nodes ns)
has_nodes [] h = refl
has_nodes (n ∷ ns) h = let parts = both (is_node n) (list_all is_node ns) h in (parts.0, has_nodes ns parts.1)
  where
    both : (a b : Bool) → (a && b) ≡ true → (a ≡ true) × (b ≡ true)
    both true b e = (refl, e)
    both false b e = absurd cc

pub has_default : (default : Bool) (size : Size) → HasParts (part 7 1 (flag default) ∷ part 0 3 (bytes_in size) ∷ []) (byte_of (part 7 1 (flag default) ∷ part 0 3 (bytes_in size) ∷ []))
has_default true One = (refl, (refl, tt))
has_default true Two = (refl, (refl, tt))
has_default true Four = (refl, (refl, tt))
has_default false One = (refl, (refl, tt))
has_default false Two = (refl, (refl, tt))
has_default false Four = (refl, (refl, tt))

divided : (p s z : ℕ) → p < 8 → s < 4 → z < 8 → HasParts (part 5 3 p ∷ part 3 2 s ∷ part 0 3 z ∷ []) (byte_of (part 5 3 p ∷ part 3 2 s ∷ part 0 3 z ∷ []))
divided p s z lp ls lz = (omega arith, (omega arith, (omega arith, tt)))

small_size : (size : Size) → bytes_in size < 8
small_size One = omega arith
small_size Two = omega arith
small_size Four = omega arith

pub has_scaled : (d : Scaled) → IsScaled d → HasAll (scaled d)
has_scaled d h = (divided d.precision d.scale (bytes_in (size_of d.number)) h.0 h.1 (small_size (size_of d.number)), has_number_last (size_of d.number) (value_of d.number))
