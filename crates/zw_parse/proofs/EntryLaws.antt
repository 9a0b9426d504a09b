-- No two entries have one text, and no two transcripts.
use Rattle.std.proofs.Common.{◌≡◌, ℕ, cond, eqb, not, List, [], ◌∷◌, ◌++◌, map, arith, ap, ap₂, refl, ◌∙◌, sym, append_assoc}
use Rattle.std.specs.List.{list_all}
use Rattle.std.proofs.lemmas.Bool.{and_parts, not-true as not_that}
use Rattle.std.proofs.lemmas.List.Sums.{sum_by-cons}
use Rattle.zw_text.specs.Entry.{entry_text, transcript_text}
use Rattle.zw_text.specs.Fits.{EntryFits, IsOneLine, feeds}
use Rattle.zw_text.specs.declared.entry.Entry.{Entry}
use Rattle.zw_parse.specs.Reading.{parts, text_back}
use Rattle.zw_parse.specs.Lines.{AreLines}
use Rattle.zw_parse.proofs.Pieces.{Lacks, parts-at}
use Rattle.zw_parse.proofs.Back.{one_if, taken}

pub one-entry : (first second : Entry) → EntryFits first → EntryFits second → entry_text first ≡ entry_text second → first ≡ second
one-entry first second a b same = sym (taken first a).comes ∙ ap text_back same ∙ (taken second b).comes

-- the texts of a transcript, and the nothing after the last line feed
parts-of : (entries : List Entry) → AreLines entries → parts 10 (transcript_text entries) ≡ map entry_text entries ++ ([] ∷ [])
parts-of [] are = refl
parts-of (e ∷ es) are =
    ap (parts 10) (append_assoc (entry_text e) (10 ∷ []) (transcript_text es))
    ∙ parts-at 10 (entry_text e) (transcript_text es) ((taken e are.0.0).feedless are.0.1)
    ∙ ap (λ (ps : List (List ℕ)). entry_text e ∷ ps) (parts-of es are.1)

entries-of : (entries : List Entry) → AreLines entries → map text_back (map entry_text entries) ≡ entries
entries-of [] are = refl
entries-of (e ∷ es) are = ap₂ ◌∷◌ (taken e are.0.0).comes (entries-of es are.1)

-- all but the last
abbrev prefix : {A : Type 0} → List A → List A
prefix [] = []
prefix (x ∷ []) = []
prefix (x ∷ y ∷ xs) = x ∷ prefix (y ∷ xs)

prefix-of : {A : Type 0} (xs : List A) (x : A) → prefix (xs ++ (x ∷ [])) ≡ xs
prefix-of [] x = refl
prefix-of (a ∷ []) x = refl
prefix-of {A} (a ∷ b ∷ xs) x = ap (λ (ys : List A). a ∷ ys) (prefix-of (b ∷ xs) x)

-- the entries of a text
abbrev transcript_back : List ℕ → List Entry
transcript_back text = map text_back (prefix (parts 10 text))

again : (entries : List Entry) → AreLines entries → transcript_back (transcript_text entries) ≡ entries
again entries are =
    ap (λ (ps : List (List ℕ)). map text_back (prefix ps)) (parts-of entries are)
    ∙ ap (map text_back) (prefix-of (map entry_text entries) [])
    ∙ entries-of entries are

pub one-transcript : (first second : List Entry) → AreLines first → AreLines second → transcript_text first ≡ transcript_text second → first ≡ second
one-transcript first second a b same = sym (again first a) ∙ ap transcript_back same ∙ again second b

-- a text that lacks line feeds has none
pub feeds-none : (text : List ℕ) → Lacks 10 text → feeds text ≡ 0
feeds-none [] lacks = refl
feeds-none (b ∷ bs) lacks =
    let halves = and_parts (not (eqb b 10)) (list_all (λ x. not (eqb x 10)) bs) lacks in
    omega (arith, sum_by-cons (λ y. cond (eqb y 10) 1 0) b bs, ap one_if (not_that (eqb b 10) halves.0), feeds-none bs halves.1)

pub without-feed : (entry : Entry) → EntryFits entry → IsOneLine entry → feeds (entry_text entry) ≡ 0
without-feed entry fits one = feeds-none (entry_text entry) ((taken entry fits).feedless one)

-- what a text is taken for, where it is that of an entry
pub read-again : (text : List ℕ) (found entry : Entry) → found ≡ text_back text → EntryFits entry → text ≡ entry_text entry → found ≡ entry
read-again text found entry is fits same = is ∙ ap text_back same ∙ (taken entry fits).comes

-- it is then printed as that text
pub read-printed : (text printed : List ℕ) (found entry : Entry) → found ≡ text_back text → printed ≡ entry_text found → EntryFits entry → text ≡ entry_text entry → printed ≡ text
read-printed text printed found entry is prints fits same = prints ∙ ap entry_text (read-again text found entry is fits same) ∙ sym same
