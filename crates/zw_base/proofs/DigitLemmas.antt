-- Numbers that are written digit by digit.
use Rattle.std.proofs.Common.{◌≡◌, ℕ, ◌+◌, ◌/◌, ◌%◌, ◌^◌, ◌<◌, ◌≤◌, List, [], ◌∷◌, ◌++◌, Result, Ok, Err, OnOk, is_ok, if◌then◌else◌, sym, ◌∙◌, ap, append_assoc, decimal, arith}
use Rattle.std.proofs.lemmas.Fmt.{decimal_digit, decimal_step}

-- the code of a digit was added
pub put_digit : {V E : Type 0} (r : Result V E) (before after text : List ℕ) (code n : ℕ) → n < 10 → code ≡ 48 + n → (code < 128 → text ≡ code ∷ [])
    → after ≡ (if is_ok r then before ++ text else before) → OnOk r (after ≡ before ++ decimal n)
put_digit (Ok v) before after text code n small is ascii put =
    put ∙ ap (λ (l : List ℕ). before ++ l) (ascii (omega (arith, is, small)) ∙ (ap (λ (x : ℕ). x ∷ []) is ∙ sym (decimal_digit n small)))
put_digit (Err e) before after text code n small is ascii put = tt

-- the last digit of a number was added after the others
pub put_last : {V E : Type 0} (r : Result V E) (before mid after : List ℕ) (n : ℕ) → 10 ≤ n → n < 2 ^ 64 → mid ≡ before ++ decimal (n / 10)
    → OnOk r (after ≡ mid ++ decimal (n % 10)) → OnOk r (after ≡ before ++ decimal n)
put_last (Ok v) before mid after n more fits first last =
    let digits : decimal n ≡ decimal (n / 10) ++ decimal (n % 10) =
    decimal_step n more fits ∙ ap (λ (l : List ℕ). decimal (n / 10) ++ l) (sym (decimal_digit (n % 10) (omega arith))) in
    last ∙ (ap (λ (l : List ℕ). l ++ decimal (n % 10)) first ∙ (append_assoc before (decimal (n / 10)) (decimal (n % 10)) ∙ ap (λ (l : List ℕ). before ++ l) (sym digits)))
put_last (Err e) before mid after n more fits first last = tt
