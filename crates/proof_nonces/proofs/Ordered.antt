-- Lists in order, one item more; the last item of a list; and what entries show, some more of them.
use Rattle.std.proofs.Common.{◌≡◌, inl, inr, List, [], ◌∷◌, ◌++◌, refl, sym, ap, ◌∙◌, append-nil, append_assoc}
use Rattle.std.specs.List.{AllByRecursion}
use Rattle.zw_base.proofs.Each.{all-append, all-left}
use Rattle.law_transcript.specs.Lists.{Has, shown_after}
use Rattle.proof_nonces.specs.Giving.{Ordered}

pub ordered-last : {A : Type 0} (Before : A → A → Type 0) (xs : List A) (y : A) → Ordered Before xs → AllByRecursion (λ x. Before x y) xs → Ordered Before (xs ++ y ∷ [])
ordered-last Before [] y ordered all = (tt, tt)
ordered-last Before (x ∷ xs) y ordered all = (all-append (Before x) xs (y ∷ []) ordered.0 (all.0, tt), ordered-last Before xs y ordered.1 all.1)

pub ordered-left : {A : Type 0} (Before : A → A → Type 0) (xs ys : List A) → Ordered Before (xs ++ ys) → Ordered Before xs
ordered-left Before [] ys ordered = tt
ordered-left Before (x ∷ xs) ys ordered = (all-left (Before x) xs ys ordered.0, ordered-left Before xs ys ordered.1)

pub has-last : {A : Type 0} (xs : List A) (y : A) → Has (xs ++ y ∷ []) y
has-last [] y = inl refl
has-last (x ∷ xs) y = inr (has-last xs y)

pub shown-both : {A B : Type 0} (shows : List A → A → List B) (past xs ys : List A) → shown_after shows past (xs ++ ys) ≡ shown_after shows past xs ++ shown_after shows (past ++ xs) ys
shown-both shows past [] ys = ap (λ (p : List _). shown_after shows p ys) (sym (append-nil past))
shown-both shows past (x ∷ xs) ys =
    ap (λ (l : List _). shows past x ++ l)
    (shown-both shows (past ++ x ∷ []) xs ys ∙ ap (λ (p : List _). shown_after shows (past ++ x ∷ []) xs ++ shown_after shows p ys) (append_assoc past (x ∷ []) xs))
    ∙ sym (append_assoc (shows past x) (shown_after shows (past ++ x ∷ []) xs) (shown_after shows (past ++ x ∷ xs) ys))
