-- How what a transcript shows grows by an entry.
use Rattle.std.proofs.Common.{◌≡◌, ℕ, zero, suc, Bool, true, false, List, [], ◌∷◌, ◌++◌, length, get_or, ap, refl, sym, ◌∙◌, append-nil, replicate}
use Rattle.std.specs.Prelude.{◌||◌}
use Rattle.std.specs.List.{list_any}
use Rattle.std.proofs.lemmas.Grind.{flat_map-append}
use Rattle.zw_text.specs.declared.entry.Ended.{Ended}
use Rattle.zw_text.specs.declared.entry.Entry.{Entry}
use Rattle.zw_text.specs.Transcript.{shown, folded}
use Rattle.audit_books.specs.declared.endings.Ending.{Ending}
use Rattle.audit_books.specs.Ending.{ended_so, is_failure, no_ending}
use Rattle.audit_books.specs.Keeping.{ending_from}
use Rattle.audit_books.specs.SessionRule.{is_final}

-- what each entry shows by itself
pub shown-more : {A : Type 0} (view : Entry → List A) (past : List Entry) (entry : Entry) → shown view (past ++ (entry ∷ [])) ≡ shown view past ++ view entry
shown-more view past entry = flat_map-append view past (entry ∷ []) ∙ ap (λ z. shown view past ++ z) (append-nil (view entry))

-- what entries show one after another
pub folded-more : {S : Type 0} (step : S → Entry → S) (start : S) (past : List Entry) (entry : Entry) → folded step start (past ++ (entry ∷ [])) ≡ step (folded step start past) entry
folded-more step start [] entry = refl
folded-more step start (first ∷ past) entry = folded-more step (step start first) past entry

-- one ending more
pub ending-more : (before : Ending) (xs : List Ended) (x : Ended) → ending_from before (xs ++ (x ∷ [])) ≡ ended_so (ending_from before xs) x
ending-more before [] x = refl
ending-more before (y ∷ xs) x = ending-more (ended_so before y) xs x

or-assoc : (a b c : Bool) → ((a || b) || c) ≡ (a || (b || c))
or-assoc true b c = refl
or-assoc false b c = refl

pub or-false : (a : Bool) → (a || false) ≡ a
or-false true = refl
or-false false = refl

final-from : (before : Ending) (xs : List Ended) → (ending_from before xs).is_final ≡ (before.is_final || list_any is_final xs)
final-from before [] = sym (or-false before.is_final)
final-from before (x ∷ xs) = final-from (ended_so before x) xs ∙ or-assoc before.is_final (is_final x) (list_any is_final xs)

-- a final report was among the endings
pub final-is : (xs : List Ended) → (ending_from no_ending xs).is_final ≡ list_any is_final xs
final-is xs = final-from no_ending xs

failed-from : (before : Ending) (xs : List Ended) → (ending_from before xs).has_failed ≡ (before.has_failed || list_any is_failure xs)
failed-from before [] = sym (or-false before.has_failed)
failed-from before (x ∷ xs) = failed-from (ended_so before x) xs ∙ or-assoc before.has_failed (is_failure x) (list_any is_failure xs)

-- fail or no support was among the endings
pub failed-is : (xs : List Ended) → (ending_from no_ending xs).has_failed ≡ list_any is_failure xs
failed-is xs = failed-from no_ending xs

-- a list of the same items
pub same-at : {A : Type 0} (d : A) (k n : ℕ) → get_or (replicate k d) n d ≡ d
same-at d zero n = refl
same-at d (suc k) zero = refl
same-at d (suc k) (suc n) = same-at d k n

pub length-same : {A : Type 0} (d : A) (k : ℕ) → length (replicate k d) ≡ k
length-same d zero = refl
length-same d (suc k) = ap suc (length-same d k)
