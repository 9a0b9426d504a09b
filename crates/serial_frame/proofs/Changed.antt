-- One byte of a frame is changed.
use Rattle.std.proofs.Common.{◌≡◌, ◌≢◌, ℕ, zero, suc, ◌+◌, ◌<◌, ◌≤◌, List, [], ◌∷◌, ◌++◌, length, get_or, refl, ap, sym, ◌∙◌, subst, inl, inr, arith, length-append}
use Rattle.std.proofs.Math.ListN.{set, length-set}
use Rattle.std.proofs.Math.Seq.{set-append_seam, get_or-append_seam}
use Rattle.std.proofs.lemmas.List.{append-nil, set-append_left, get_or_append_left}
use Rattle.std.specs.Prelude.{bit_xor}
use Rattle.std.specs.Int.Bits.{xor_assoc, xor_self, xor_zero_l}
use Rattle.std.proofs.lemmas.Nat.{xor_comm}
use Rattle.std.proofs.lemmas.Bool.{cases_lt}
use Rattle.serial_frame.specs.Frame.{FrameParts, xor_all, checksum, framed}
use Rattle.serial_frame.specs.Items.{counted_of, unit_text, IsCounted}
use Rattle.serial_frame.specs.Stream.{Reads}
use Rattle.serial_frame.specs.declared.unit.Unit.TheVariants.{Framed}
use Rattle.serial_frame.specs.declared.item.Item.TheVariants.{Refused}
use Rattle.serial_frame.specs.declared.item.Refusal.TheVariants.{BadSum}

-- exclusive or with one byte is undone by the same byte
pub xor_back : (a b : ℕ) → bit_xor a (bit_xor a b) ≡ b
xor_back a b = sym (xor_assoc a a b) ∙ ap (λ (t : ℕ). bit_xor t b) (xor_self a) ∙ xor_zero_l b

xor_same : (a b c : ℕ) → bit_xor a b ≡ bit_xor a c → b ≡ c
xor_same a b c e = sym (xor_back a b) ∙ ap (λ (t : ℕ). bit_xor a t) e ∙ xor_back a c

xor_same_right : (s t x : ℕ) → bit_xor s x ≡ bit_xor t x → s ≡ t
xor_same_right s t x e = xor_same x s t (xor_comm x s ∙ e ∙ xor_comm t x)

-- sums of the same bytes that agree began alike
start_same : (s t : ℕ) (xs : List ℕ) → xor_all s xs ≡ xor_all t xs → s ≡ t
start_same s t [] e = e
start_same s t (x ∷ xs) e = xor_same_right s t x (start_same (bit_xor s x) (bit_xor t x) xs e)

-- one byte decides the sum
sum_differs : (s b : ℕ) (xs : List ℕ) (j : ℕ) → j < length xs → b ≢ get_or xs j 0 → xor_all s (set xs j b) ≡ xor_all s xs → ⊥
sum_differs s b [] j lt ne e = absurd (omega arith)
sum_differs s b (x ∷ xs) zero lt ne e = ne (xor_same s b x (start_same (bit_xor s b) (bit_xor s x) xs e))
sum_differs s b (x ∷ xs) (suc j) lt ne e = sum_differs (bit_xor s x) b xs j (omega arith) ne e

-- the checksum itself is changed
pub last_changed : (counted : List ℕ) (b : ℕ) → IsCounted counted → b ≢ checksum counted → Reads (framed counted b) (Refused (BadSum (checksum counted) b) ∷ []) []
last_changed counted b counts ne =
    (framed counted b, [], (counted, counts, refl, ne, refl), sym (append-nil (framed counted b)), (tt, refl))

-- another byte is changed
pub byte_changed : (counted : List ℕ) (j b : ℕ) → IsCounted counted → j < length counted → b ≢ get_or counted j 0
    → Reads (1 ∷ (length counted + 1) ∷ (set counted j b ++ checksum counted ∷ [])) (Refused (BadSum (checksum (set counted j b)) (checksum counted)) ∷ []) []
byte_changed counted j b counts lt ne =
    let len : length (set counted j b) ≡ length counted = length-set counted j b in
    let same : 1 ∷ (length counted + 1) ∷ (set counted j b ++ checksum counted ∷ []) ≡ framed (set counted j b) (checksum counted) =
    ap (λ (n : ℕ). 1 ∷ (n + 1) ∷ (set counted j b ++ checksum counted ∷ [])) (sym len)
    in
    let differs : checksum counted ≢ checksum (set counted j b) =
    (λ e. sum_differs (bit_xor 255 (length counted + 1)) b counted j lt ne
    (ap (λ (n : ℕ). xor_all (bit_xor 255 (n + 1)) (set counted j b)) (sym len) ∙ sym e))
    in (
      framed (set counted j b) (checksum counted),
      [],
      (set counted j b, (omega (arith, len, counts.0), omega (arith, len, counts.1)), refl, differs, refl),
      same ∙ sym (append-nil (framed (set counted j b) (checksum counted))),
      (tt, refl),
    )

-- either of them
pub changed : (counted : List ℕ) (j b : ℕ) → IsCounted counted → j < length counted + 1 → b ≢ get_or (counted ++ checksum counted ∷ []) j 0
    → (want : ℕ) × (got : ℕ) × Reads (1 ∷ (length counted + 1) ∷ set (counted ++ checksum counted ∷ []) j b) (Refused (BadSum want got) ∷ []) []
changed counted j b counts lt ne =
    elim (cases_lt j (length counted)) [
      | inr last ↦
          (let at : j ≡ length counted = omega arith in
          let seam : set (counted ++ checksum counted ∷ []) j b ≡ counted ++ b ∷ [] = ap (λ (n : ℕ). set (counted ++ checksum counted ∷ []) n b) at ∙ set-append_seam counted (checksum counted) [] b in
          let other : b ≢ checksum counted = (λ e. ne (e ∙ sym (ap (λ (n : ℕ). get_or (counted ++ checksum counted ∷ []) n 0) at ∙ get_or-append_seam counted (checksum counted) [] 0))) in (
            checksum counted,
            b,
            subst (λ (t : List ℕ). Reads (1 ∷ (length counted + 1) ∷ t) (Refused (BadSum (checksum counted) b) ∷ []) []) (sym seam) (last_changed counted b counts other),
          ))
      | inl before ↦
          (let left : set (counted ++ checksum counted ∷ []) j b ≡ set counted j b ++ checksum counted ∷ [] = set-append_left counted (checksum counted ∷ []) j b before in
          let other : b ≢ get_or counted j 0 = (λ e. ne (e ∙ sym (get_or_append_left counted (checksum counted ∷ []) 0 j before))) in (
            checksum (set counted j b),
            checksum counted,
            subst (λ (t : List ℕ). Reads (1 ∷ (length counted + 1) ∷ t) (Refused (BadSum (checksum (set counted j b)) (checksum counted)) ∷ []) []) (sym left) (byte_changed counted j b counts before other),
          ))
    ]

-- a byte from the type on of a frame
pub frame_changed : (f : FrameParts) (i b : ℕ) → length f.body ≤ 252 → 2 ≤ i → i < length (unit_text (Framed f)) → b ≢ get_or (unit_text (Framed f)) i 0
    → (want : ℕ) × (got : ℕ) × Reads (set (unit_text (Framed f)) i b) (Refused (BadSum want got) ∷ []) []
frame_changed f zero b fits from lt ne = absurd (omega arith)
frame_changed f (suc zero) b fits from lt ne = absurd (omega arith)
frame_changed f (suc (suc j)) b fits from lt ne =
    changed (counted_of f) j b (omega arith, omega arith) (omega (arith, length-append (counted_of f) (checksum (counted_of f) ∷ []))) ne
