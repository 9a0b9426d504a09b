-- Each field both ways: what is read stands in the bytes, and what stands there is read.
use Rattle.std.proofs.Common.{◌≡◌, ℕ, zero, suc, ◌+◌, ◌*◌, ◌/◌, ◌%◌, ◌^◌, ◌<◌, ◌≤◌, Bool, true, false, cond, eqb, Some, None, Ok, Err, List, [], ◌∷◌, ◌++◌, length, get_or, drop, refl, sym, ap, subst, ◌∙◌, inl, inr, arith, add-one}
use Rattle.std.specs.Prelude.{slice_get}
use Rattle.std.proofs.lemmas.Bool.{eqb-true}
use Rattle.std.proofs.lemmas.Option.{slice_get-get_or, get_or_from_slice_get, slice_get_within}
use Rattle.class_core.specs.declared.fault.ClassFault.TheVariants.{BadValue}
use Rattle.class_core.specs.declared.switch.Switch.{Switch}
use Rattle.class_core.specs.declared.switch.Switch.TheVariants.{Off, On}
use Rattle.class_core.specs.declared.switch.LockMode.{LockMode}
use Rattle.class_core.specs.declared.switch.LockMode.TheVariants.{Unsecured, Secured}
use Rattle.class_core.specs.declared.number.Size.{Size}
use Rattle.class_core.specs.declared.number.Size.TheVariants.{One, Two, Four}
use Rattle.class_core.specs.declared.number.Number.{Number}
use Rattle.class_core.specs.declared.number.Number.TheVariants as numbers_v
use Rattle.class_core.specs.Ranges.{bytes_in, is_node, size_of, value_of, sized, Scaled, Numbers}
use Rattle.class_core.specs.Cell.{Cell, Whole, Limited, StandsAt, Stand, bits}
use Rattle.class_core.specs.Fields.{switch_byte, lock_byte, flag, word, three, number, numbers, scaled, nodes}
use Rattle.class_core.specs.Reading.{byte_at, limited_at, bits_at, switch_of, switch_at, lock_of, lock_at, word_in, three_in, word_at, three_at, number_in, number_at, numbers_in, numbers_at, size_of_bytes, size_at, size_byte_at, flag_at, scaled_at, nodes_of, nodes_at}
use Rattle.class_core.proofs.Steps.{bind_ok, chosen, ok_is, not_ok, some_is, ok_or_takes, made_of, whole_takes, whole_again}
use Rattle.class_core.proofs.ListSteps.{size_of-sized, value_of-sized}

-- each byte is below 256
abbrev pub IsBytes : List ℕ → Type 0
IsBytes bytes = (i : ℕ) → get_or bytes i 0 < 256

-- ---- one byte

pub byte_takes : (at : ℕ) (bytes : List ℕ) (v : ℕ) → byte_at at bytes ≡ Ok v → slice_get bytes at ≡ Some v
unfolding byte_at
byte_takes at bytes v e = ok_or_takes (slice_get bytes at) _ v e

pub byte_again : (at : ℕ) (bytes : List ℕ) (v : ℕ) → slice_get bytes at ≡ Some v → byte_at at bytes ≡ Ok v
unfolding byte_at
byte_again at bytes v e = rw e refl

pub limited_takes : (allowed : ℕ → Bool) (at : ℕ) (bytes : List ℕ) (v : ℕ) → limited_at allowed at bytes ≡ Ok v → StandsAt (Limited allowed v) at bytes
unfolding limited_at
limited_takes allowed at bytes v e =
    let a = bind_ok (byte_at at bytes) (λ byte. cond (allowed byte) (Ok byte) (Err (BadValue at))) v e in
    elim (chosen (allowed a.0) _ _ _ a.2) [
      | inl p ↦ let s = ok_is a.0 v p.1 in (byte_takes at bytes a.0 a.1 ∙ ap Some s, ap allowed (sym s) ∙ p.0)
      | inr p ↦ absurd (not_ok (BadValue at) v p.1)
    ]

pub limited_again : (allowed : ℕ → Bool) (at : ℕ) (bytes : List ℕ) (v : ℕ) → StandsAt (Limited allowed v) at bytes → limited_at allowed at bytes ≡ Ok v
unfolding limited_at
limited_again allowed at bytes v s = rw (byte_again at bytes v s.0, s.1) refl

pub switch_takes : (at : ℕ) (bytes : List ℕ) (v : Switch) → switch_at at bytes ≡ Ok v → StandsAt (Whole (switch_byte v)) at bytes
unfolding switch_at
switch_takes at bytes v e =
    let a = bind_ok (byte_at at bytes) (switch_of at) v e in
    let b = byte_takes at bytes a.0 a.1 in
    elim (chosen (eqb a.0 0) _ _ _ a.2) [
      | inl p ↦ b ∙ ap Some (eqb-true _ _ p.0 ∙ ap switch_byte (ok_is Off v p.1))
      | inr p ↦ elim (chosen (eqb a.0 255) _ _ _ p.1) [
        | inl q ↦ b ∙ ap Some (eqb-true _ _ q.0 ∙ ap switch_byte (ok_is On v q.1))
        | inr q ↦ absurd (not_ok (BadValue at) v q.1)
      ]
    ]

pub switch_again : (at : ℕ) (bytes : List ℕ) (v : Switch) → StandsAt (Whole (switch_byte v)) at bytes → switch_at at bytes ≡ Ok v
unfolding switch_at
switch_again at bytes Off s = rw (byte_again at bytes 0 s) refl
switch_again at bytes On s = rw (byte_again at bytes 255 s) refl

pub lock_takes : (at : ℕ) (bytes : List ℕ) (v : LockMode) → lock_at at bytes ≡ Ok v → StandsAt (Whole (lock_byte v)) at bytes
unfolding lock_at
lock_takes at bytes v e =
    let a = bind_ok (byte_at at bytes) (lock_of at) v e in
    let b = byte_takes at bytes a.0 a.1 in
    elim (chosen (eqb a.0 0) _ _ _ a.2) [
      | inl p ↦ b ∙ ap Some (eqb-true _ _ p.0 ∙ ap lock_byte (ok_is Unsecured v p.1))
      | inr p ↦ elim (chosen (eqb a.0 255) _ _ _ p.1) [
        | inl q ↦ b ∙ ap Some (eqb-true _ _ q.0 ∙ ap lock_byte (ok_is Secured v q.1))
        | inr q ↦ absurd (not_ok (BadValue at) v q.1)
      ]
    ]

pub lock_again : (at : ℕ) (bytes : List ℕ) (v : LockMode) → StandsAt (Whole (lock_byte v)) at bytes → lock_at at bytes ≡ Ok v
unfolding lock_at
lock_again at bytes Unsecured s = rw (byte_again at bytes 0 s) refl
lock_again at bytes Secured s = rw (byte_again at bytes 255 s) refl

-- ---- some bits of a byte

-- the byte at an offset has this number in these bits
pub record HasBits (low width at : ℕ) (bytes : List ℕ) (v : ℕ) : Type 0 where
  pub byte : ℕ
  pub stands : slice_get bytes at ≡ Some byte
  pub has : bits low width byte ≡ v

pub bits_takes : (low width at : ℕ) (bytes : List ℕ) (v : ℕ) → bits_at low width at bytes ≡ Ok v → HasBits low width at bytes v
unfolding bits_at
bits_takes low width at bytes v e =
    let a = made_of (byte_at at bytes) (λ byte. bits low width byte) v e in
    record { byte = a.0; stands = byte_takes at bytes a.0 a.1; has = a.2 }

pub bits_again : (low width at : ℕ) (bytes : List ℕ) (byte v : ℕ) → slice_get bytes at ≡ Some byte → bits low width byte ≡ v → bits_at low width at bytes ≡ Ok v
unfolding bits_at
bits_again low width at bytes byte v s e = rw (byte_again at bytes byte s) (ap (λ (x : ℕ). Ok x) e)

-- the same byte has them
pub has_of : (low width at : ℕ) (bytes : List ℕ) (v byte : ℕ) → HasBits low width at bytes v → slice_get bytes at ≡ Some byte → bits low width byte ≡ v
has_of low width at bytes v byte h s = ap (bits low width) (some_is byte h.byte (sym s ∙ h.stands)) ∙ h.has

pub size_is : (at n : ℕ) (size : Size) → size_of_bytes at n ≡ Ok size → n ≡ bytes_in size
size_is at n size e = elim (chosen (eqb n 1) _ _ _ e) [
  | inl p ↦ eqb-true _ _ p.0 ∙ ap bytes_in (ok_is One size p.1)
  | inr p ↦ elim (chosen (eqb n 2) _ _ _ p.1) [
    | inl q ↦ eqb-true _ _ q.0 ∙ ap bytes_in (ok_is Two size q.1)
    | inr q ↦ elim (chosen (eqb n 4) _ _ _ q.1) [
      | inl r ↦ eqb-true _ _ r.0 ∙ ap bytes_in (ok_is Four size r.1)
      | inr r ↦ absurd (not_ok (BadValue at) size r.1)
    ]
  ]
]

pub size_back : (at : ℕ) (size : Size) → size_of_bytes at (bytes_in size) ≡ Ok size
size_back at One = refl
size_back at Two = refl
size_back at Four = refl

pub size_takes : (at : ℕ) (bytes : List ℕ) (size : Size) → size_at at bytes ≡ Ok size → HasBits 0 3 at bytes (bytes_in size)
unfolding size_at
size_takes at bytes size e =
    let a = bind_ok (bits_at 0 3 at bytes) (size_of_bytes at) size e in
    let h = bits_takes 0 3 at bytes a.0 a.1 in
    record { byte = h.byte; stands = h.stands; has = h.has ∙ size_is at a.0 size a.2 }

pub size_again : (at : ℕ) (bytes : List ℕ) (byte : ℕ) (size : Size) → slice_get bytes at ≡ Some byte → bits 0 3 byte ≡ bytes_in size → size_at at bytes ≡ Ok size
unfolding size_at
size_again at bytes byte size s e = rw (bits_again 0 3 at bytes byte (bytes_in size) s e) (size_back at size)

pub size_byte_takes : (at : ℕ) (bytes : List ℕ) (size : Size) → size_byte_at at bytes ≡ Ok size → StandsAt (Whole (bytes_in size)) at bytes
unfolding size_byte_at
size_byte_takes at bytes size e =
    let a = bind_ok (byte_at at bytes) (size_of_bytes at) size e in
    byte_takes at bytes a.0 a.1 ∙ ap Some (size_is at a.0 size a.2)

pub size_byte_again : (at : ℕ) (bytes : List ℕ) (size : Size) → StandsAt (Whole (bytes_in size)) at bytes → size_byte_at at bytes ≡ Ok size
unfolding size_byte_at
size_byte_again at bytes size s = rw (byte_again at bytes (bytes_in size) s) (size_back at size)

flag_of : (bit : ℕ) (b : Bool) → bit < 2 → eqb bit 1 ≡ b → bit ≡ flag b
flag_of zero false lt e = refl
flag_of zero true lt e = absurd cc
flag_of (suc zero) true lt e = refl
flag_of (suc zero) false lt e = absurd cc
flag_of (suc (suc n)) b lt e = absurd (omega arith)

flag_back : (b : Bool) → eqb (flag b) 1 ≡ b
flag_back true = refl
flag_back false = refl

pub flag_takes : (low at : ℕ) (bytes : List ℕ) (b : Bool) → flag_at low at bytes ≡ Ok b → HasBits low 1 at bytes (flag b)
unfolding flag_at
flag_takes low at bytes b e =
    let a = made_of (bits_at low 1 at bytes) (λ bit. eqb bit 1) b e in
    let h = bits_takes low 1 at bytes a.0 a.1 in
    let bit_is : h.byte / 2 ^ low % 2 ≡ a.0 = h.has in
    record { byte = h.byte; stands = h.stands; has = h.has ∙ flag_of a.0 b (omega arith) a.2 }

pub flag_again : (low at : ℕ) (bytes : List ℕ) (byte : ℕ) (b : Bool) → slice_get bytes at ≡ Some byte → bits low 1 byte ≡ flag b → flag_at low at bytes ≡ Ok b
unfolding flag_at
flag_again low at bytes byte b s e = rw (bits_again low 1 at bytes byte (flag b) s e) (ap (λ (x : Bool). Ok x) (flag_back b))

-- ---- numbers of several bytes

cell_at : (bytes : List ℕ) (at v : ℕ) → at < length bytes → get_or bytes at 0 ≡ v → slice_get bytes at ≡ Some v
cell_at bytes at v lt e = slice_get-get_or bytes at 0 lt ∙ ap Some e

value_at : (bytes : List ℕ) (at v : ℕ) → slice_get bytes at ≡ Some v → get_or bytes at 0 ≡ v
value_at bytes at v s = get_or_from_slice_get bytes at v 0 s

twice : (at : ℕ) → at + 1 + 1 ≡ at + 2
twice at = omega arith

thrice : (at : ℕ) → at + 1 + 1 + 1 ≡ at + 3
thrice at = omega arith

pub word_stands : (at : ℕ) (bytes : List ℕ) (n : ℕ) → IsBytes bytes → at + 2 ≤ length bytes → n ≡ word_in at bytes → Stand (word n) at bytes
word_stands at bytes n fits le e = (
  cell_at bytes at (n / 256) (omega arith) (omega (arith, fits (at + 1), e)),
  (cell_at bytes (at + 1) (n % 256) (omega arith) (omega (arith, fits (at + 1), e)), tt),
)

pub word_back : (at : ℕ) (bytes : List ℕ) (n : ℕ) → Stand (word n) at bytes → (at + 2 ≤ length bytes) × (word_in at bytes ≡ n)
word_back at bytes n s =
    let high = value_at bytes at (n / 256) s.0 in
    let low = value_at bytes (at + 1) (n % 256) s.1.0 in
    let within = slice_get_within bytes (at + 1) (n % 256) s.1.0 in
    (omega arith, omega arith)

pub word_takes : (at : ℕ) (bytes : List ℕ) (n : ℕ) → IsBytes bytes → word_at at bytes ≡ Ok n → Stand (word n) at bytes
unfolding word_at
word_takes at bytes n fits e =
    let w = whole_takes (at + 2) bytes (word_in at bytes) n e in
    word_stands at bytes n fits w.0 (sym w.1)

pub word_again : (at : ℕ) (bytes : List ℕ) (n : ℕ) → Stand (word n) at bytes → word_at at bytes ≡ Ok n
unfolding word_at
word_again at bytes n s =
    let b = word_back at bytes n s in
    whole_again (at + 2) bytes (word_in at bytes) n b.0 b.1

pub three_takes : (at : ℕ) (bytes : List ℕ) (n : ℕ) → IsBytes bytes → three_at at bytes ≡ Ok n → Stand (three n) at bytes
unfolding three_at
three_takes at bytes n fits e =
    let w = whole_takes (at + 3) bytes (three_in at bytes) n e in
    let third : slice_get bytes (at + 2) ≡ Some (n % 256) = cell_at bytes (at + 2) (n % 256) (omega arith) (omega (arith, fits (at + 1), fits (at + 2), w.1)) in (
      cell_at bytes at (n / 65536) (omega arith) (omega (arith, fits (at + 1), fits (at + 2), w.1)),
      (
        cell_at bytes (at + 1) (n / 256 % 256) (omega arith) (omega (arith, fits (at + 1), fits (at + 2), w.1)),
        (ap (slice_get bytes) (twice at) ∙ third, tt),
      ),
    )

pub three_again : (at : ℕ) (bytes : List ℕ) (n : ℕ) → Stand (three n) at bytes → three_at at bytes ≡ Ok n
unfolding three_at
three_again at bytes n s =
    let third : slice_get bytes (at + 2) ≡ Some (n % 256) = sym (ap (slice_get bytes) (twice at)) ∙ s.1.1.0 in
    let high = value_at bytes at (n / 65536) s.0 in
    let middle = value_at bytes (at + 1) (n / 256 % 256) s.1.0 in
    let low = value_at bytes (at + 2) (n % 256) third in
    let within = slice_get_within bytes (at + 2) (n % 256) third in
    whole_again (at + 3) bytes (three_in at bytes) n (omega arith) (omega arith)

pub number_stands : (size : Size) (at : ℕ) (bytes : List ℕ) (n : ℕ) → IsBytes bytes → at + bytes_in size ≤ length bytes → n ≡ number_in size at bytes → Stand (number size n) at bytes
number_stands One at bytes n fits le e = (cell_at bytes at n (omega arith) (sym e), tt)
number_stands Two at bytes n fits le e = word_stands at bytes n fits le e
number_stands Four at bytes n fits le e =
    let third : slice_get bytes (at + 2) ≡ Some (n / 256 % 256) = cell_at bytes (at + 2) (n / 256 % 256) (omega arith) (omega (arith, fits (at + 1), fits (at + 2), fits (at + 3), e)) in
    let fourth : slice_get bytes (at + 3) ≡ Some (n % 256) = cell_at bytes (at + 3) (n % 256) (omega arith) (omega (arith, fits (at + 1), fits (at + 2), fits (at + 3), e)) in (
      cell_at bytes at (n / 16777216) (omega arith) (omega (arith, fits (at + 1), fits (at + 2), fits (at + 3), e)),
      (
        cell_at bytes (at + 1) (n / 65536 % 256) (omega arith) (omega (arith, fits (at + 1), fits (at + 2), fits (at + 3), e)),
        (ap (slice_get bytes) (twice at) ∙ third, (ap (slice_get bytes) (thrice at) ∙ fourth, tt)),
      ),
    )

pub number_back : (size : Size) (at : ℕ) (bytes : List ℕ) (n : ℕ) → Stand (number size n) at bytes → (at + bytes_in size ≤ length bytes) × (number_in size at bytes ≡ n)
number_back One at bytes n s =
    let within = slice_get_within bytes at n s.0 in
    (omega arith, value_at bytes at n s.0)
number_back Two at bytes n s = word_back at bytes n s
number_back Four at bytes n s =
    let third : slice_get bytes (at + 2) ≡ Some (n / 256 % 256) = sym (ap (slice_get bytes) (twice at)) ∙ s.1.1.0 in
    let fourth : slice_get bytes (at + 3) ≡ Some (n % 256) = sym (ap (slice_get bytes) (thrice at)) ∙ s.1.1.1.0 in
    let v0 = value_at bytes at (n / 16777216) s.0 in
    let v1 = value_at bytes (at + 1) (n / 65536 % 256) s.1.0 in
    let v2 = value_at bytes (at + 2) (n / 256 % 256) third in
    let v3 = value_at bytes (at + 3) (n % 256) fourth in
    let within = slice_get_within bytes (at + 3) (n % 256) fourth in
    (omega arith, omega arith)

-- a number of its size
pub record TakesNumber (size : Size) (at : ℕ) (bytes : List ℕ) (v : Number) : Type 0 where
  pub stands : Stand (number (size_of v) (value_of v)) at bytes
  pub size_is : size_of v ≡ size

pub number_takes : (size : Size) (at : ℕ) (bytes : List ℕ) (v : Number) → IsBytes bytes → number_at size at bytes ≡ Ok v → TakesNumber size at bytes v
unfolding number_at
number_takes size at bytes v fits e =
    let n = number_in size at bytes in
    let w = whole_takes (at + bytes_in size) bytes (sized size n) v e in
    let s = number_stands size at bytes n fits w.0 refl in
    let own : Stand (number (size_of (sized size n)) (value_of (sized size n))) at bytes = rw (size_of-sized size n, value_of-sized size n) s in
    record {
      stands = subst (λ (x : Number). Stand (number (size_of x) (value_of x)) at bytes) w.1 own;
      size_is = ap size_of (sym w.1) ∙ size_of-sized size n;
    }

sized_own : (v : Number) → sized (size_of v) (value_of v) ≡ v
sized_own (numbers_v.One n) = refl
sized_own (numbers_v.Two n) = refl
sized_own (numbers_v.Four n) = refl

pub number_again : (at : ℕ) (bytes : List ℕ) (v : Number) → Stand (number (size_of v) (value_of v)) at bytes → number_at (size_of v) at bytes ≡ Ok v
unfolding number_at
number_again at bytes v s =
    let b = number_back (size_of v) at bytes (value_of v) s in
    whole_again (at + bytes_in (size_of v)) bytes (sized (size_of v) (number_in (size_of v) at bytes)) v b.0 (ap (sized (size_of v)) b.1 ∙ sized_own v)

-- ---- a number with precision and scale

pub scaled_takes : (at : ℕ) (bytes : List ℕ) (d : Scaled) → IsBytes bytes → scaled_at at bytes ≡ Ok d → Stand (scaled d) at bytes
unfolding scaled_at
scaled_takes at bytes d fits e =
    let p = bind_ok (bits_at 5 3 at bytes) _ d e in
    let s = bind_ok (bits_at 3 2 at bytes) _ d p.2 in
    let z = bind_ok (size_at at bytes) _ d s.2 in
    let n = made_of (number_at z.0 (at + 1) bytes) (λ (x : Number). let made : Scaled = record { precision = p.0; scale = s.0; number = x } in made) d z.2 in
    let has_p = bits_takes 5 3 at bytes p.0 p.1 in
    let has_s = bits_takes 3 2 at bytes s.0 s.1 in
    let has_z = size_takes at bytes z.0 z.1 in
    let t = number_takes z.0 (at + 1) bytes n.0 fits n.1 in
    let size_has : bits 0 3 has_p.byte ≡ bytes_in (size_of n.0) = has_of 0 3 at bytes (bytes_in z.0) has_p.byte has_z has_p.stands ∙ ap bytes_in (sym t.size_is) in
    let made : Scaled = record { precision = p.0; scale = s.0; number = n.0 } in
    let stands : Stand (scaled made) at bytes = ((has_p.byte, has_p.stands, (has_p.has, (has_of 3 2 at bytes s.0 has_p.byte has_s has_p.stands, (size_has, tt)))), t.stands) in
    subst (λ (x : Scaled). Stand (scaled x) at bytes) n.2 stands

pub scaled_again : (at : ℕ) (bytes : List ℕ) (d : Scaled) → Stand (scaled d) at bytes → scaled_at at bytes ≡ Ok d
unfolding scaled_at
scaled_again at bytes d s =
    let byte = s.0.0 in
    rw (bits_again 5 3 at bytes byte d.precision s.0.1 s.0.2.0, bits_again 3 2 at bytes byte d.scale s.0.1 s.0.2.1.0, size_again at bytes byte (size_of d.number) s.0.1 s.0.2.1.1.0, number_again (at + 1) bytes d.number s.1) refl

-- ---- numbers of one size

pub stand_append : (cs ds : List Cell) (at : ℕ) (bytes : List ℕ) → Stand cs at bytes → Stand ds (at + length cs) bytes → Stand (cs ++ ds) at bytes
stand_append [] ds at bytes s t = subst (λ (p : ℕ). Stand ds p bytes) (omega arith) t
stand_append (c ∷ cs) ds at bytes s t = (s.0, stand_append cs ds (at + 1) bytes s.1 (subst (λ (p : ℕ). Stand ds p bytes) (omega arith) t))

pub stand_parts : (cs ds : List Cell) (at : ℕ) (bytes : List ℕ) → Stand (cs ++ ds) at bytes → Stand cs at bytes × Stand ds (at + length cs) bytes
stand_parts [] ds at bytes s = (tt, subst (λ (p : ℕ). Stand ds p bytes) (omega arith) s)
stand_parts (c ∷ cs) ds at bytes s =
    let rest = stand_parts cs ds (at + 1) bytes s.1 in
    ((s.0, rest.0), subst (λ (p : ℕ). Stand ds p bytes) (omega arith) rest.1)

number_len : (size : Size) (n : ℕ) → length (number size n) ≡ bytes_in size
number_len One n = refl
number_len Two n = refl
number_len Four n = refl

pub numbers_stand : (size : Size) (count at : ℕ) (bytes : List ℕ) → IsBytes bytes → at + count * bytes_in size ≤ length bytes → Stand (numbers size (numbers_in size count at bytes)) at bytes
numbers_stand size zero at bytes fits le = tt
numbers_stand size (suc count) at bytes fits le =
    let n = number_in size at bytes in
    let total : suc count * bytes_in size ≡ bytes_in size + count * bytes_in size = omega arith in
    let first = number_stands size at bytes n fits (omega arith) refl in
    let others = numbers_stand size count (at + bytes_in size) bytes fits (omega arith) in
    stand_append (number size n) (numbers size (numbers_in size count (at + bytes_in size) bytes)) at bytes first
    (subst (λ (k : ℕ). Stand (numbers size (numbers_in size count (at + bytes_in size) bytes)) (at + k) bytes) (sym (number_len size n)) others)

pub numbers_back : (size : Size) (ns : List ℕ) (at : ℕ) (bytes : List ℕ) → at ≤ length bytes → Stand (numbers size ns) at bytes → (at + length ns * bytes_in size ≤ length bytes) × (numbers_in size (length ns) at bytes ≡ ns)
numbers_back size [] at bytes le s = (omega arith, refl)
numbers_back size (n ∷ ns) at bytes le s =
    let parts = stand_parts (number size n) (numbers size ns) at bytes s in
    let first = number_back size at bytes n parts.0 in
    let moved : Stand (numbers size ns) (at + bytes_in size) bytes = subst (λ (k : ℕ). Stand (numbers size ns) (at + k) bytes) (number_len size n) parts.1 in
    let rest = numbers_back size ns (at + bytes_in size) bytes first.0 moved in
    let total : suc (length ns) * bytes_in size ≡ bytes_in size + length ns * bytes_in size = omega arith in
    (omega arith, rw (first.1, rest.1) refl)

pub record TakesNumbers (size : Size) (count at : ℕ) (bytes : List ℕ) (v : Numbers) : Type 0 where
  pub stands : Stand (numbers v.size v.items) at bytes
  pub size_is : v.size ≡ size
  pub so_many : length v.items ≡ count

numbers_len : (size : Size) (count at : ℕ) (bytes : List ℕ) → length (numbers_in size count at bytes) ≡ count
numbers_len size zero at bytes = refl
numbers_len size (suc count) at bytes = ap suc (numbers_len size count (at + bytes_in size) bytes)

pub numbers_take : (size : Size) (count at : ℕ) (bytes : List ℕ) (v : Numbers) → IsBytes bytes → numbers_at size count at bytes ≡ Ok v → TakesNumbers size count at bytes v
unfolding numbers_at
numbers_take size count at bytes v fits e =
    let made : Numbers = record { size = size; items = numbers_in size count at bytes } in
    let w = whole_takes (at + count * bytes_in size) bytes made v e in
    let own : TakesNumbers size count at bytes made = record { stands = numbers_stand size count at bytes fits w.0; size_is = refl; so_many = numbers_len size count at bytes } in
    subst (λ (x : Numbers). TakesNumbers size count at bytes x) w.1 own

pub numbers_again : (at : ℕ) (bytes : List ℕ) (v : Numbers) → at ≤ length bytes → Stand (numbers v.size v.items) at bytes → numbers_at v.size (length v.items) at bytes ≡ Ok v
unfolding numbers_at
numbers_again at bytes v le s =
    let b = numbers_back v.size v.items at bytes le s in
    let made : Numbers = record { size = v.size; items = numbers_in v.size (length v.items) at bytes } in
    whole_again (at + length v.items * bytes_in v.size) bytes made v b.0 (ap (λ (x : List ℕ). let y : Numbers = record { size = v.size; items = x } in y) b.1)

-- ---- nodes up to the end

at_prefix : (at : ℕ) (bytes : List ℕ) → slice_get bytes at ≡ slice_get (drop at bytes) 0
at_prefix zero bytes = refl
at_prefix (suc at) [] = refl
at_prefix (suc at) (b ∷ bytes) = at_prefix at bytes

following_leading : (at : ℕ) (bytes : List ℕ) (b : ℕ) (rest : List ℕ) → drop at bytes ≡ b ∷ rest → drop (suc at) bytes ≡ rest
following_leading zero [] b rest e = absurd cc
following_leading zero (c ∷ bytes) b rest e = cc
following_leading (suc at) [] b rest e = absurd cc
following_leading (suc at) (c ∷ bytes) b rest e = following_leading at bytes b rest e

cut_at : (at : ℕ) (bytes : List ℕ) (b : ℕ) → slice_get bytes at ≡ Some b → drop at bytes ≡ b ∷ drop (suc at) bytes
cut_at at [] b e = absurd cc
cut_at zero (c ∷ bytes) b e = ap (λ (x : ℕ). x ∷ bytes) (some_is c b e)
cut_at (suc at) (c ∷ bytes) b e = cut_at at bytes b e

ended_at : (at : ℕ) (bytes : List ℕ) → slice_get bytes at ≡ None → drop at bytes ≡ []
ended_at zero [] e = refl
ended_at (suc at) [] e = refl
ended_at zero (c ∷ bytes) e = absurd cc
ended_at (suc at) (c ∷ bytes) e = ended_at at bytes e

nodes_stand : (rest : List ℕ) (at : ℕ) (bytes ns : List ℕ) → drop at bytes ≡ rest → nodes_of at rest ≡ Ok ns → Stand (nodes ns) at bytes
nodes_stand [] at bytes ns cut e =
    let ended : slice_get bytes at ≡ None = at_prefix at bytes ∙ ap (λ (x : List ℕ). slice_get x 0) cut in
    subst (λ (x : List ℕ). Stand (nodes x) at bytes) (ok_is [] ns e) (ended, tt)
nodes_stand (b ∷ rest) at bytes ns cut e = elim (chosen (is_node b) _ _ _ e) [
  | inl p ↦
      let others = made_of (nodes_of (at + 1) rest) (λ (x : List ℕ). b ∷ x) ns p.1 in
      let first : slice_get bytes at ≡ Some b = at_prefix at bytes ∙ ap (λ (x : List ℕ). slice_get x 0) cut in
      let next : drop (at + 1) bytes ≡ rest = rw add-one (following_leading at bytes b rest cut) in
      subst (λ (x : List ℕ). Stand (nodes x) at bytes) others.2 ((first, p.0), nodes_stand rest (at + 1) bytes others.0 next others.1)
  | inr p ↦ absurd (not_ok (BadValue at) ns p.1)
]

nodes_back : (ns : List ℕ) (at : ℕ) (bytes : List ℕ) → Stand (nodes ns) at bytes → nodes_of at (drop at bytes) ≡ Ok ns
nodes_back [] at bytes s = rw (ended_at at bytes s.0) refl
nodes_back (n ∷ ns) at bytes s =
    let cut : drop at bytes ≡ n ∷ drop (at + 1) bytes = rw add-one (cut_at at bytes n s.0.0) in
    rw (cut, s.0.1, nodes_back ns (at + 1) bytes s.1) refl

pub nodes_take : (at : ℕ) (bytes ns : List ℕ) → nodes_at at bytes ≡ Ok ns → Stand (nodes ns) at bytes
unfolding nodes_at
nodes_take at bytes ns e = nodes_stand (drop at bytes) at bytes ns refl e

pub nodes_again : (at : ℕ) (bytes ns : List ℕ) → Stand (nodes ns) at bytes → nodes_at at bytes ≡ Ok ns
unfolding nodes_at
nodes_again at bytes ns s = nodes_back ns at bytes s
