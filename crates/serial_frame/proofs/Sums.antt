-- Sums and whole frames in parts.
use Rattle.std.proofs.Common.{◌≡◌, ℕ, ◌<◌, List, [], ◌∷◌, ◌++◌, get_or, refl, ap, sym, ◌∙◌, arith}
use Rattle.std.specs.Prelude.{bit_xor}
use Rattle.serial_frame.specs.Frame.{xor_all, checksum, framed}
use Rattle.serial_frame.specs.Items.{IsCounted, ItemText}
use Rattle.serial_frame.specs.declared.item.Item.TheVariants.{Refused}
use Rattle.serial_frame.specs.declared.item.Refusal.TheVariants.{BadKind}

-- a sum is carried on
pub xor_all-append : (start : ℕ) (xs ys : List ℕ) → xor_all start (xs ++ ys) ≡ xor_all (xor_all start xs) ys
xor_all-append start [] ys = refl
xor_all-append start (x ∷ xs) ys = xor_all-append (bit_xor start x) xs ys

-- the sum of a frame whose bytes come in two parts
pub sum_in_parts : (start sum r : ℕ) (xs ys : List ℕ) → sum ≡ xor_all start xs → r ≡ xor_all sum ys → r ≡ xor_all start (xs ++ ys)
sum_in_parts start sum r xs ys s e = e ∙ ap (λ t. xor_all t ys) s ∙ sym (xor_all-append start xs ys)

-- a frame with the right sum and a type above 1
pub bad_kind : (cs : List ℕ) (x got : ℕ) → IsCounted cs → x ≡ get_or cs 0 0 → 1 < x → got ≡ checksum cs → ItemText (Refused (BadKind x)) (framed cs got)
bad_kind [] x got counted e lt s = absurd (omega arith)
bad_kind (k ∷ more) x got counted e lt s =
    (more, lt, counted, ap (λ g. framed (k ∷ more) g) s ∙ ap (λ t. framed (t ∷ more) (checksum (t ∷ more))) (sym e))
