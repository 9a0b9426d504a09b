-- What is shown of a list, where each item is judged by those before it, over one list after another.
use Rattle.std.proofs.Common.{◌≡◌, List, [], ◌∷◌, ◌++◌, sym, ap, ◌∙◌, append_assoc, append-nil}
use Rattle.proof_host.specs.law_transcript.Lists.{shown_after}

pub shown_both : {A B : Type 0} (shows : List A → A → List B) (before xs ys : List A) → shown_after shows before (xs ++ ys) ≡ shown_after shows before xs ++ shown_after shows (before ++ xs) ys
shown_both {A} {B} shows before [] ys = ap (λ (l : List A). shown_after shows l ys) (sym (append-nil before))
shown_both {A} {B} shows before (x ∷ xs) ys =
    ap (λ (l : List B). shows before x ++ l)
    (shown_both shows (before ++ x ∷ []) xs ys ∙ ap (λ (l : List A). shown_after shows (before ++ x ∷ []) xs ++ shown_after shows l ys) (append_assoc before (x ∷ []) xs))
    ∙ sym (append_assoc (shows before x) (shown_after shows (before ++ x ∷ []) xs) (shown_after shows (before ++ x ∷ xs) ys))

pub shown_one : {A B : Type 0} (shows : List A → A → List B) (before past : List A) (x : A) → shown_after shows before (past ++ x ∷ []) ≡ shown_after shows before past ++ shows (before ++ past) x
shown_one {A} {B} shows before past x =
    shown_both shows before past (x ∷ []) ∙ ap (λ (l : List B). shown_after shows before past ++ l) (append-nil (shows (before ++ past) x))
