-- Texts that are joined by a byte, and what words they come apart into.
use Rattle.std.proofs.Common.{◌≡◌, ℕ, zero, suc, ◌-◌, ◌/◌, ◌%◌, ◌<◌, ◌≤◌, ◌^◌, eqb, ltb, Bool, true, false, not, List, [], ◌∷◌, ◌++◌, length, get_or, map, decimal, arith, ap, refl, ◌∙◌, sym, eq-eqb, ne_eqb, lt-ltb, ltb-true}
use Rattle.std.specs.List.{AllByRecursion, join_with_byte, list_all}
use Rattle.std.proofs.Common.{take, length-append, Bor}
use Rattle.std.proofs.Math.Seq.{take-append_seam}
use Rattle.zw_parse.specs.Reading.{at, but_last, hex_back, last_of, ok_or_none, parts}
use Rattle.std.proofs.lemmas.Bool.{and_from, and_parts, not-true as not_that}
use Rattle.std.proofs.lemmas.Fmt.{decimal_is_IsNumeral}
use Rattle.std.proofs.lemmas.List.Elements.{All-from_recursion}
use Rattle.std.proofs.lemmas.List.Splits.{slice_split_at, slice_split_none}
use Rattle.std.proofs.lemmas.Str.Parse.{digit_at}
use Rattle.hex.specs.Hex.{encode_upper, encode_with, upper_digits}
use Rattle.hex.proofs.HexLemmas.{decode_of-encode_upper}

-- a text in which each byte is another than c
abbrev pub Lacks : ℕ → List ℕ → Type 0
Lacks c text = list_all (λ b. not (eqb b c)) text ≡ true

apart : (c : ℕ) (text : List ℕ) → Lacks c text → AllByRecursion (λ b. eqb b c ≡ false) text
apart c [] lacks = tt
apart c (b ∷ bs) lacks =
    let halves = and_parts (not (eqb b c)) (list_all (λ x. not (eqb x c)) bs) lacks in
    (not_that (eqb b c) halves.0, apart c bs halves.1)

pub parts-none : (c : ℕ) (text : List ℕ) → Lacks c text → parts c text ≡ text ∷ []
parts-none c text lacks = slice_split_none (λ b. eqb b c) text (All-from_recursion (λ b. eqb b c ≡ false) text (apart c text lacks))

pub parts-at : (c : ℕ) (prefix rest : List ℕ) → Lacks c prefix → parts c (prefix ++ (c ∷ rest)) ≡ prefix ∷ parts c rest
parts-at c prefix rest lacks =
    slice_split_at (λ b. eqb b c) prefix c rest (All-from_recursion (λ b. eqb b c ≡ false) prefix (apart c prefix lacks)) (eq-eqb c c refl)

-- words that are joined come apart again
pub parts-joined : (c : ℕ) (w : List ℕ) (ws : List (List ℕ)) → AllByRecursion (Lacks c) (w ∷ ws) → parts c (join_with_byte c (w ∷ ws)) ≡ w ∷ ws
parts-joined c w [] lack = parts-none c w lack.0
parts-joined c w (v ∷ vs) lack =
    parts-at c w (join_with_byte c (v ∷ vs)) lack.0 ∙ ap (λ (ps : List (List ℕ)). w ∷ ps) (parts-joined c v vs lack.1)

-- two texts in one
pub lacks-append : (p : ℕ → Bool) (xs ys : List ℕ) → list_all p xs ≡ true → list_all p ys ≡ true → list_all p (xs ++ ys) ≡ true
lacks-append p [] ys e f = f
lacks-append p (x ∷ xs) ys e f =
    let halves = and_parts (p x) (list_all p xs) e in
    and_from (p x) (list_all p (xs ++ ys)) halves.0 (lacks-append p xs ys halves.1 f)

-- what passes one test passes another
pub weaker : (p q : ℕ → Bool) → ((b : ℕ) → p b ≡ true → q b ≡ true) → (text : List ℕ) → list_all p text ≡ true → list_all q text ≡ true
weaker p q step [] e = refl
weaker p q step (x ∷ xs) e =
    let halves = and_parts (p x) (list_all p xs) e in
    and_from (q x) (list_all q xs) (step x halves.0) (weaker p q step xs halves.1)

-- words without a space or a control byte
abbrev pub Solid : List ℕ → Type 0
Solid text = list_all (λ b. ltb 32 b) text ≡ true

other : (c b : ℕ) → c ≤ 32 → ltb 32 b ≡ true → not (eqb b c) ≡ true
other c b low e = ap not (ne_eqb b c (λ same. omega (arith, ltb-true 32 b e, low, same)))

pub solid-lacks : (c : ℕ) → c ≤ 32 → (text : List ℕ) → Solid text → Lacks c text
solid-lacks c low text solid = weaker (λ b. ltb 32 b) (λ b. not (eqb b c)) (λ b e. other c b low e) text solid

pub all-lack : (c : ℕ) → c ≤ 32 → (ws : List (List ℕ)) → AllByRecursion Solid ws → AllByRecursion (Lacks c) ws
all-lack c low [] solid = tt
all-lack c low (w ∷ ws) solid = (solid-lacks c low w solid.0, all-lack c low ws solid.1)

-- ---- numbers

-- a test that digits pass
digits-pass : (p : ℕ → Bool) → ((b : ℕ) → 48 ≤ b → b ≤ 57 → p b ≡ true) → (text : List ℕ) → ((k : ℕ) → k < length text → (48 ≤ get_or text k 0) × (get_or text k 0 ≤ 57)) → list_all p text ≡ true
digits-pass p good [] in_range = refl
digits-pass p good (b ∷ bs) in_range =
    let here = in_range 0 (omega arith) in
    and_from (p b) (list_all p bs) (good b here.0 here.1) (digits-pass p good bs (λ k below. in_range (suc k) (omega (arith, below))))

pub number-passes : (p : ℕ → Bool) → ((b : ℕ) → 48 ≤ b → b ≤ 57 → p b ≡ true) → (n : ℕ) → n < 2 ^ 64 → list_all p (decimal n) ≡ true
number-passes p good n small =
    digits-pass p good (decimal n) (λ k below.
    let digit = digit_at (decimal n) k ((decimal_is_IsNumeral n small).0.1) below in (omega (arith, digit), omega (arith, digit)))

pub number-solid : (n : ℕ) → n < 2 ^ 64 → Solid (decimal n)
number-solid n small = number-passes (λ b. ltb 32 b) (λ b low high. lt-ltb 32 b (omega (arith, low))) n small

pub number-lacks : (c n : ℕ) → 57 < c → n < 2 ^ 64 → Lacks c (decimal n)
number-lacks c n above small =
    number-passes (λ b. not (eqb b c)) (λ b low high. ap not (ne_eqb b c (λ same. omega (arith, high, above, same)))) n small

pub slash-lacks : (n : ℕ) → n < 2 ^ 64 → Lacks 47 (decimal n)
slash-lacks n small =
    number-passes (λ b. not (eqb b 47)) (λ b low high. ap not (ne_eqb b 47 (λ same. omega (arith, low, same)))) n small

-- ---- hex

below : (bytes : List ℕ) → AllByRecursion (λ n. n < 256) bytes → (i : ℕ) → get_or bytes i 0 < 256
below [] are i = omega arith
below (b ∷ bs) are zero = are.0
below (b ∷ bs) are (suc i) = below bs are.1 i

pub hex-back : (bytes : List ℕ) → AllByRecursion (λ n. n < 256) bytes → hex_back (encode_upper bytes) ≡ bytes
unfolding hex_back
hex-back bytes are = ap ok_or_none (decode_of-encode_upper bytes (below bytes are))

-- each digit is solid
digit-solid : (d : ℕ) → d < 16 → ltb 32 (get_or upper_digits d 0) ≡ true
digit-solid zero low = refl
digit-solid (suc zero) low = refl
digit-solid (suc (suc zero)) low = refl
digit-solid (suc (suc (suc zero))) low = refl
digit-solid (suc (suc (suc (suc zero)))) low = refl
digit-solid (suc (suc (suc (suc (suc zero))))) low = refl
digit-solid (suc (suc (suc (suc (suc (suc zero)))))) low = refl
digit-solid (suc (suc (suc (suc (suc (suc (suc zero))))))) low = refl
digit-solid (suc (suc (suc (suc (suc (suc (suc (suc zero)))))))) low = refl
digit-solid (suc (suc (suc (suc (suc (suc (suc (suc (suc zero))))))))) low = refl
digit-solid (suc (suc (suc (suc (suc (suc (suc (suc (suc (suc zero)))))))))) low = refl
digit-solid (suc (suc (suc (suc (suc (suc (suc (suc (suc (suc (suc zero))))))))))) low = refl
digit-solid (suc (suc (suc (suc (suc (suc (suc (suc (suc (suc (suc (suc zero)))))))))))) low = refl
digit-solid (suc (suc (suc (suc (suc (suc (suc (suc (suc (suc (suc (suc (suc zero))))))))))))) low = refl
digit-solid (suc (suc (suc (suc (suc (suc (suc (suc (suc (suc (suc (suc (suc (suc zero)))))))))))))) low = refl
digit-solid (suc (suc (suc (suc (suc (suc (suc (suc (suc (suc (suc (suc (suc (suc (suc zero))))))))))))))) low = refl
digit-solid (suc (suc (suc (suc (suc (suc (suc (suc (suc (suc (suc (suc (suc (suc (suc (suc d)))))))))))))))) low = absurd (omega (arith, low))

pub hex-solid : (bytes : List ℕ) → AllByRecursion (λ n. n < 256) bytes → Solid (encode_upper bytes)
unfolding encode_with
hex-solid [] are = refl
hex-solid (b ∷ bs) are =
    let high : b / 16 < 16 = omega (arith, are.0) in
    let low : b % 16 < 16 = omega arith in
    and_from (ltb 32 (get_or upper_digits (b / 16) 0)) _ (digit-solid (b / 16) high)
    (and_from (ltb 32 (get_or upper_digits (b % 16) 0)) _ (digit-solid (b % 16) low) (hex-solid bs are.1))

-- ---- lists

pub but-last : (xs : List (List ℕ)) (x : List ℕ) → but_last (xs ++ (x ∷ [])) ≡ xs
but-last xs x =
    let short : length (xs ++ (x ∷ [])) - 1 ≡ length xs = omega (arith, length-append xs (x ∷ [])) in
    ap (λ n. take n (xs ++ (x ∷ []))) short ∙ take-append_seam xs (x ∷ [])

at-end : (xs : List (List ℕ)) (x : List ℕ) → at (length xs) (xs ++ (x ∷ [])) ≡ x
at-end [] x = refl
at-end (a ∷ xs) x = at-end xs x

pub last-of : (xs : List (List ℕ)) (x : List ℕ) → last_of (xs ++ (x ∷ [])) ≡ x
last-of xs x =
    let short : length (xs ++ (x ∷ [])) - 1 ≡ length xs = omega (arith, length-append xs (x ∷ [])) in
    ap (λ n. at n (xs ++ (x ∷ []))) short ∙ at-end xs x

-- what words say, but the last
take-over : {A B : Type 0} (f : A → B) (n : ℕ) (xs : List A) → map f (take n xs) ≡ take n (map f xs)
take-over f zero [] = refl
take-over f zero (x ∷ xs) = refl
take-over f (suc n) [] = refl
take-over {A} {B} f (suc n) (x ∷ xs) = ap (λ (ys : List B). f x ∷ ys) (take-over f n xs)

length-over : {A B : Type 0} (f : A → B) (xs : List A) → length (map f xs) ≡ length xs
length-over f [] = refl
length-over f (x ∷ xs) = omega (arith, length-over f xs)

pub prefix-over : (words : List (Bor (List ℕ))) → map (λ x. x.now) (take (length words - 1) words) ≡ but_last (map (λ x. x.now) words)
prefix-over words =
    take-over (λ x. x.now) (length words - 1) words
    ∙ ap (λ n. take (n - 1) (map (λ x. x.now) words)) (sym (length-over (λ x. x.now) words))
