-- What is cut off the bytes that are held of a line and those of a piece.
use Rattle.std.proofs.Common.{◌≡◌, ℕ, suc, ◌+◌, ◌-◌, ◌<◌, ◌≤◌, List, [], ◌∷◌, ◌++◌, length, get_or, take, drop, refl, sym, ap, ◌∙◌, subst, arith, append_assoc, length-append}
use Rattle.std.specs.Prelude.{slice_range}
use Rattle.std.proofs.Math.Seq.{take-append-add}
use Rattle.std.proofs.lemmas.List.{take-take, drop-drop, length-take, get_or-take, length-drop}
use Rattle.run_lines.specs.SourceLines.{IsOneLine, IsOpen, IsCut, IsTooLong}
use Rattle.run_lines.proofs.Feeds.{one_line-append, take_around}

-- a line feed stands among the first bytes of the piece
pub cut_line : (prefix d : List ℕ) (k n count : ℕ) → IsOneLine prefix → k < length (take count d) → get_or (take count d) k 0 ≡ 10
    → IsOneLine (take k (take count d)) → count ≤ n → length prefix + count ≤ 1025
    → IsCut (prefix ++ take n d) (prefix ++ take k d) (take (n - suc k) (drop (suc k) d))
cut_line prefix d k n count one within at clean fits short =
    let len : length (take count d) ≤ count = grind (arith, length-take) in
    let len_d : length (take count d) ≤ length d = grind (arith, length-take) in
    let below : k < count = omega (arith, within, len) in
    let same : take k (take count d) ≡ take k d = grind (arith, take-take) in
    let at_d : get_or d k 0 ≡ 10 = grind (arith, get_or-take) in
    let around : take n d ≡ take k d ++ 10 ∷ take (n - suc k) (drop (suc k) d) = take_around d k n 10 (omega (arith, below, fits)) (omega (arith, within, len_d)) at_d in
    record {
      one = one_line-append prefix (take k d) one (subst IsOneLine same clean);
      short = grind (arith, length-append, length-take);
      parts = ap (λ t. prefix ++ t) around ∙ sym (append_assoc prefix (take k d) (10 ∷ take (n - suc k) (drop (suc k) d)));
    }

-- all that is left of the piece was looked at, and a line could still end in what is to be read
pub open_left : (text piece : List ℕ) (from to held count : ℕ) → IsOneLine (take held text) → from ≤ to → held ≤ 1024
    → IsOneLine (slice_range piece from (from + count)) → count ≤ to - from → to - from ≤ count → count < 1025 - held
    → IsOpen (take held text ++ slice_range piece from to)
open_left text piece from to held count one order fits clean below above few =
    let same : from + count - from ≡ to - from = omega (arith, below, above) in
    let len : length (take held text) ≤ held = grind (arith, length-take) in
    let len_d : length (take (to - from) (drop from piece)) ≤ to - from = grind (arith, length-take) in
    record {
      one = one_line-append (take held text) (slice_range piece from to) one (subst (λ n. IsOneLine (take n (drop from piece))) same clean);
      short = omega (arith, length-append (take held text) (slice_range piece from to), len, len_d, few, above, fits);
    }

-- no line feed stands among as many bytes as a line may have, and one more
pub too_long : (text piece : List ℕ) (from to held count : ℕ) → IsOneLine (take held text) → length text ≡ 1024 → to ≤ length piece → held ≤ 1024
    → IsOneLine (slice_range piece from (from + count)) → count ≤ to - from → count ≡ 1025 - held
    → IsTooLong (take held text ++ slice_range piece from to)
too_long text piece from to held count one text_len piece_len fits clean below most =
    let prefix : length (take held text) ≡ held = grind (arith, length-take) in
    let rest : length (take (to - from) (drop from piece)) ≡ to - from = grind (arith, length-take, length-drop) in
    let same : from + count - from ≡ 1025 - held = omega (arith, most) in
    let xs : List ℕ = take held text in
    let ys : List ℕ = take (to - from) (drop from piece) in
    let whole : length xs + (1025 - held) ≡ 1025 = omega (arith, prefix, fits) in
    let shorter : take (1025 - held) ys ≡ take (1025 - held) (drop from piece) = take-take (1025 - held) (to - from) (drop from piece) (omega (arith, below, most)) in
    let joined : take 1025 (xs ++ ys) ≡ xs ++ take (1025 - held) (drop from piece) =
    ap (λ n. take n (xs ++ ys)) (sym whole) ∙ take-append-add xs ys (1025 - held) ∙ ap (λ l. xs ++ l) shorter
    in
    record {
      long = omega (arith, length-append (take held text) (slice_range piece from to), prefix, rest, below, most, fits);
      one = subst IsOneLine (sym joined) (one_line-append (take held text) (take (1025 - held) (drop from piece)) one
          (subst (λ n. IsOneLine (take n (drop from piece))) same clean));
    }

take-zero : (xs : List ℕ) → take 0 xs ≡ []
take-zero [] = refl
take-zero (x ∷ xs) = refl

-- the line that is cut off
pub cut_off : (text text' piece : List ℕ) (from to held count at : ℕ) → IsOneLine (take held text) → held ≤ 1024
    → at < length (slice_range piece from (from + count)) → get_or (slice_range piece from (from + count)) at 0 ≡ 10
    → IsOneLine (take at (slice_range piece from (from + count))) → count ≤ to - from → count ≤ 1025 - held
    → take (held + at) text' ≡ take held text ++ slice_range piece from (from + at)
    → IsCut (take held text ++ slice_range piece from to) (take (held + at) text') (take 0 text' ++ slice_range piece (from + (at + 1)) to)
cut_off text text' piece from to held count at one fits within feed clean below most appended =
    let d : List ℕ = drop from piece in
    let c_is : from + count - from ≡ count = omega arith in
    let a_is : from + at - from ≡ at = omega arith in
    let len : length (take held text) ≤ held = grind (arith, length-take) in
    let cut : IsCut (take held text ++ take (to - from) d) (take held text ++ take at d) (take (to - from - suc at) (drop (suc at) d)) =
    cut_line (take held text) d at (to - from) count one (subst (λ n. at < length (take n d)) c_is within)
    (subst (λ n. get_or (take n d) at 0 ≡ 10) c_is feed) (subst (λ n. IsOneLine (take at (take n d))) c_is clean) below (omega (arith, len, most, fits))
    in
    let line : take (held + at) text' ≡ take held text ++ take at d = appended ∙ ap (λ n. take held text ++ take n d) a_is in
    let left : take 0 text' ++ slice_range piece (from + (at + 1)) to ≡ take (to - from - suc at) (drop (suc at) d) = left_is text' piece from to at in
    subst (λ l. IsCut (take held text ++ take (to - from) d) l (take 0 text' ++ slice_range piece (from + (at + 1)) to)) (sym line)
    (subst (λ r. IsCut (take held text ++ take (to - from) d) (take held text ++ take at d) r) (sym left) cut)
  where
    left_is : (text' piece : List ℕ) (from to at : ℕ) → take 0 text' ++ slice_range piece (from + (at + 1)) to ≡ take (to - from - suc at) (drop (suc at) (drop from piece))
    left_is text' piece from to at =
        let n : to - (from + (at + 1)) ≡ to - from - suc at = omega arith in
        let m : from + (at + 1) ≡ from + suc at = omega arith in
        ap (λ l. l ++ slice_range piece (from + (at + 1)) to) (take-zero text') ∙ ap (λ k. take k (drop (from + (at + 1)) piece)) n
        ∙ ap (λ k. take (to - from - suc at) (drop k piece)) m ∙ ap (λ l. take (to - from - suc at) l) (sym (drop-drop (suc at) from piece))
