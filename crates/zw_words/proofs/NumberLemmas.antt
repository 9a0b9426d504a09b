-- The number that digits make, one digit after another.
use Rattle.std.proofs.Common.{◌≡◌, ℕ, zero, suc, ◌+◌, ◌-◌, ◌*◌, ◌<◌, ◌≤◌, ◌^◌, Bool, true, false, cond, Some, None, List, [], ◌∷◌, length, get_or, drop, arith, ap, refl, ◌∙◌, add-one, drop-cons, ltb, ◌&&◌}
use Rattle.std.specs.Str.{all_ascii_digits}
use Rattle.std.specs.Char.{is_ascii_digit}
use Rattle.std.proofs.lemmas.Bool.{le-ltb, lt-ltb}
use Rattle.zw_words.specs.Forms.{digits_after, digits_in}

-- more digits make no smaller number
digits-grow : (n : ℕ) (bs : List ℕ) → n ≤ digits_after n bs
digits-grow n [] = omega arith
digits-grow n (b ∷ bs) = omega (arith, digits-grow (n * 10 + (b - 48)) bs)

-- a digit
digits-cons : (n b : ℕ) (bs : List ℕ) → is_ascii_digit b ≡ true → digits_in n (b ∷ bs) ≡ digits_in (n * 10 + (b - 48)) bs
unfolding digits_in
digits-cons n b bs digit =
    ap (λ t. cond ((t && all_ascii_digits bs) && ltb (digits_after (n * 10 + (b - 48)) bs) (2 ^ 64)) (Some (digits_after (n * 10 + (b - 48)) bs)) None) digit

-- another byte
digits-other : (n b : ℕ) (bs : List ℕ) → is_ascii_digit b ≡ false → digits_in n (b ∷ bs) ≡ None
unfolding digits_in
digits-other n b bs other =
    ap (λ t. cond ((t && all_ascii_digits bs) && ltb (digits_after (n * 10 + (b - 48)) bs) (2 ^ 64)) (Some (digits_after (n * 10 + (b - 48)) bs)) None) other

-- a number that is too great stays so
over : (t : Bool) {A : Type 0} (x : A) → cond (t && false) (Some x) None ≡ None
over true x = refl
over false x = refl

digits-over : (n : ℕ) (bs : List ℕ) → 2 ^ 64 ≤ n → digits_in n bs ≡ None
unfolding digits_in
digits-over n bs great =
    ap (λ t. cond (all_ascii_digits bs && t) (Some (digits_after n bs)) None) (le-ltb (digits_after n bs) (2 ^ 64) (omega (arith, digits-grow n bs, great)))
    ∙ over (all_ascii_digits bs) (digits_after n bs)

-- no more digits
digits-done : (n : ℕ) → n < 2 ^ 64 → digits_in n [] ≡ Some n
unfolding digits_in
digits-done n small = ap (λ t. cond t (Some n) None) (lt-ltb n (2 ^ 64) small)

-- the same, at a place of the word
pub digits-next : (word : List ℕ) (n i : ℕ) → i < length word → is_ascii_digit (get_or word i 0) ≡ true → digits_in n (drop i word) ≡ digits_in (n * 10 + (get_or word i 0 - 48)) (drop (i + 1) word)
digits-next word n i below digit =
    rw (add-one i) (ap (digits_in n) (drop-cons word i 0 below) ∙ digits-cons n (get_or word i 0) (drop (suc i) word) digit)

pub digits-stop : (word : List ℕ) (n i : ℕ) → i < length word → is_ascii_digit (get_or word i 0) ≡ false → digits_in n (drop i word) ≡ None
digits-stop word n i below other =
    ap (digits_in n) (drop-cons word i 0 below) ∙ digits-other n (get_or word i 0) (drop (suc i) word) other

pub digits-great : (word : List ℕ) (n i : ℕ) → i < length word → is_ascii_digit (get_or word i 0) ≡ true → 2 ^ 64 ≤ n * 10 + (get_or word i 0 - 48) → digits_in n (drop i word) ≡ None
digits-great word n i below digit great =
    digits-next word n i below digit ∙ digits-over (n * 10 + (get_or word i 0 - 48)) (drop (i + 1) word) great

pub digits-end : (word : List ℕ) (n i : ℕ) → length word ≤ i → n < 2 ^ 64 → digits_in n (drop i word) ≡ Some n
digits-end [] n zero past small = digits-done n small
digits-end [] n (suc i) past small = digits-done n small
digits-end (b ∷ bs) n zero past small = absurd (omega (arith, past))
digits-end (b ∷ bs) n (suc i) past small = digits-end bs n i (omega (arith, past)) small
