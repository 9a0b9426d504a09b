-- Bytes that are written one piece after another.
use Rattle.std.proofs.Common.{ℕ, ◌+◌, ◌-◌, ◌≤◌, List, [], ◌++◌, length, take, drop, Option, Some, None, Result, Ok, Err, OnErr, refl, ap, subst, sym, ◌∙◌, append_assoc, append-nil, take-append-drop, length-drop, arith}
use Rattle.std.proofs.lemmas.List.{take_rest}
use Rattle.std.proofs.Math.Seq.{take-add}
use Rattle.std.specs.Io.KnownBytes.{Appends, Keeps}
use Rattle.run_lines.specs.Writing.{AppendsPrefix}

pub Appends-append : (a b c : Option (List ℕ)) (xs ys : List ℕ) → Appends a b xs → Appends b c ys → Appends a c (xs ++ ys)
Appends-append None b c xs ys p q = tt
Appends-append (Some x) None c xs ys p q = absurd p
Appends-append (Some x) (Some y) None xs ys p q = absurd q
Appends-append (Some x) (Some y) (Some z) xs ys p q = q ∙ ap (λ l. l ++ ys) p ∙ append_assoc x xs ys

pub Appends-none : (a b : Option (List ℕ)) → Keeps a b → Appends a b []
Appends-none None b p = tt
Appends-none (Some x) None p = absurd p
Appends-none (Some x) (Some y) p = p ∙ sym (append-nil x)

-- a prefix of what is written later, after what was written
pub AppendsPrefix-append : (a b c : Option (List ℕ)) (xs ys : List ℕ) → Appends a b xs → AppendsPrefix b c ys → AppendsPrefix a c (xs ++ ys)
AppendsPrefix-append a b c xs ys p (prefix, (rest, whole), q) =
    (xs ++ prefix, (rest, ap (λ l. xs ++ l) whole ∙ sym (append_assoc xs prefix rest)), Appends-append a b c xs prefix p q)

-- what was written whole is a prefix of it and more
pub AppendsPrefix-whole : (a b : Option (List ℕ)) (xs ys : List ℕ) → Appends a b xs → AppendsPrefix a b (xs ++ ys)
AppendsPrefix-whole a b xs ys p = (xs, (ys, refl), p)

-- a prefix of a part is a prefix of the whole
pub AppendsPrefix-more : (a b : Option (List ℕ)) (xs ys : List ℕ) → AppendsPrefix a b xs → AppendsPrefix a b (xs ++ ys)
AppendsPrefix-more a b xs ys (prefix, (rest, whole), q) =
    (prefix, (rest ++ ys, ap (λ l. l ++ ys) whole ∙ append_assoc prefix rest ys), q)

-- after a write that took n bytes of what is left of a piece
pub written_more : (a b c : Option (List ℕ)) (done n : ℕ) (piece : List ℕ) → Appends a b (take done piece)
    → Appends b c (take n (take (length piece - done) (drop done piece))) → Appends a c (take (done + n) piece)
written_more a b c done n piece p q =
    let q' = subst (λ (rest : List ℕ). Appends b c (take n rest)) (take_rest piece done) q in
    subst (λ (bytes : List ℕ). Appends a c bytes) (sym (take-add done n piece)) (Appends-append a b c (take done piece) (take n (drop done piece)) p q')

-- after a write that failed
pub written_prefix : (a b c : Option (List ℕ)) (done : ℕ) (piece : List ℕ) → Appends a b (take done piece) → Keeps b c → AppendsPrefix a c piece
written_prefix a b c done piece p q = (
  take done piece,
  (drop done piece, sym (take-append-drop done piece)),
  subst (λ (bytes : List ℕ). Appends a c bytes) (append-nil (take done piece)) (Appends-append a b c (take done piece) [] p (Appends-none b c q)),
)

-- what is left of a piece bounds what a write takes
pub written_within : (done n : ℕ) (piece : List ℕ) → done ≤ length piece → n ≤ length (take (length piece - done) (drop done piece)) → done + n ≤ length piece
written_within done n piece within at_most =
    let rest : n ≤ length (drop done piece) = subst (λ (xs : List ℕ). n ≤ length xs) (take_rest piece done) at_most in
    omega (arith, length-drop done piece)

-- what holds at any rate holds at an error
pub OnErr-always : {T E : Type 0} (r : Result T E) (P : Type 0) → P → OnErr r P
OnErr-always (Ok x) P p = tt
OnErr-always (Err e) P p = p
