-- The body of a frame is what stands between its head and its checksum.
use Rattle.std.proofs.Common.{◌≡◌, ℕ, ◌+◌, ◌-◌, List, [], ◌∷◌, ◌++◌, length, take, ap, ◌∙◌, arith}
use Rattle.std.proofs.Math.Seq.{take-append_seam}

pub body_is : (body : List ℕ) (func sum : ℕ) → take (length (0 ∷ func ∷ body) + 1 - 3) (body ++ sum ∷ []) ≡ body
body_is body func sum =
    let count : length (0 ∷ func ∷ body) + 1 - 3 ≡ length body = omega arith in
    ap (λ (k : ℕ). take k (body ++ sum ∷ [])) count ∙ take-append_seam body (sum ∷ [])
