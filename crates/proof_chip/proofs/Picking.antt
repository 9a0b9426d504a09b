-- The frames that the chip has begun and the places of those that were dropped, by the transcript and by which of its units are first copies: a course that goes on tells the same of the
-- entries so far.
use Rattle.std.proofs.Common.{◌≡◌, ◌≤◌, ℕ, zero, suc, ◌+◌, Bool, true, false, if◌then◌else◌, List, [], ◌∷◌, ◌++◌, length, drop, refl, sym, ap, ap₂, ◌∙◌, subst, append_assoc, length-append, arith}
use Rattle.std.specs.Prelude.{slice_index_or}
use Rattle.std.specs.List.{AllByRecursion}
use Rattle.zw_words.specs.declared.side.Side.TheVariants.{Host as by_host, Chip as by_chip}
use Rattle.zw_text.specs.declared.entry.Entry.{Entry}
use Rattle.zw_text.specs.declared.entry.Entry.TheVariants as entry
use Rattle.zw_text.specs.Transcript.{unit_at, written}
use Rattle.zw_text.proofs.Views.{shown-append}
use Rattle.law_transcript.specs.Lists.{shown_after}
use Rattle.law_wire.specs.Asked.{Course}
use Rattle.law_wire.specs.Answering.{begun, begun_at, drops, dropped_at, most_waiting}
pub use Rattle.proof_air.proofs.Shown.{shown_both}

-- ---- what entries show, judged by those before them

-- ---- units that are first copies

abbrev pub picked : List Bool → List (List ℕ) → List (List ℕ)
picked [] units = []
picked (first ∷ firsts) [] = []
picked (first ∷ firsts) (unit ∷ units) = (if first then unit ∷ [] else []) ++ picked firsts units

picked_none : (firsts : List Bool) → picked firsts [] ≡ []
picked_none [] = refl
picked_none (first ∷ firsts) = refl

pub picked_both : (fs gs : List Bool) (xs ys : List (List ℕ)) → length fs ≡ length xs → picked (fs ++ gs) (xs ++ ys) ≡ picked fs xs ++ picked gs ys
picked_both [] gs [] ys same = refl
picked_both [] gs (x ∷ xs) ys same = absurd (omega (arith, same))
picked_both (a ∷ fs) gs [] ys same = absurd (omega (arith, same))
picked_both (a ∷ fs) gs (x ∷ xs) ys same =
    ap (λ (l : List (List ℕ)). (if a then x ∷ [] else []) ++ l) (picked_both fs gs xs ys (omega (arith, same)))
    ∙ sym (append_assoc (if a then x ∷ [] else []) (picked fs xs) (picked gs ys))

-- what comes after them tells nothing of these
picked_few : (fs gs : List Bool) (xs : List (List ℕ)) → length xs ≤ length fs → picked (fs ++ gs) xs ≡ picked fs xs
picked_few fs gs [] few = picked_none (fs ++ gs) ∙ sym (picked_none fs)
picked_few [] gs (x ∷ xs) few = absurd (omega (arith, few))
picked_few (a ∷ fs) gs (x ∷ xs) few = ap (λ (l : List (List ℕ)). (if a then x ∷ [] else []) ++ l) (picked_few fs gs xs (omega (arith, few)))

abbrev pub IsCopy : Bool → Type 0
IsCopy first = first ≡ false

pub picks_none : (firsts : List Bool) → AllByRecursion IsCopy firsts → (units : List (List ℕ)) → picked firsts units ≡ []
picks_none [] copies units = refl
picks_none (first ∷ firsts) copies [] = refl
picks_none (true ∷ firsts) copies (unit ∷ units) = absurd (let is : true ≡ false = copies.0 in cc)
picks_none (false ∷ firsts) copies (unit ∷ units) = picks_none firsts copies.1 units

-- ---- frames that were begun

picks_at : (firsts : List Bool) (at : ℕ) (unit : List ℕ) (units : List (List ℕ))
    → (if slice_index_or firsts at false then unit ∷ [] else []) ++ picked (drop (suc at) firsts) units ≡ picked (drop at firsts) (unit ∷ units)
picks_at [] zero unit units = refl
picks_at [] (suc at) unit units = refl
picks_at (first ∷ firsts) zero unit units = refl
picks_at (first ∷ firsts) (suc at) unit units = picks_at firsts at unit units

-- how many units of the chip stand before
abbrev units_before : List Entry → ℕ
units_before past = length (written by_chip past)

units_later : (past told : List Entry) → units_before (past ++ told) ≡ units_before past + units_before told
units_later past told = ap length (shown-append (unit_at by_chip) past told) ∙ length-append (written by_chip past) (written by_chip told)

module _ (course : Course) where
  abbrev Picks : List Entry → List Entry → Type 0
  Picks before told = shown_after (begun_at course) before told ≡ picked (drop (units_before before) course.firsts) (written by_chip told)

  -- an entry that is no unit of the chip
  skip : (before : List Entry) (e : Entry) (told : List Entry) → begun_at course before e ≡ [] → unit_at by_chip e ≡ [] → Picks (before ++ e ∷ []) told → Picks before (e ∷ told)
  skip before e told none no_unit rest =
      let same : units_before (before ++ e ∷ []) ≡ units_before before =
      ap length (shown-append (unit_at by_chip) before (e ∷ [])) ∙ length-append (written by_chip before) (unit_at by_chip e ++ [])
      ∙ ap (λ (l : List (List ℕ)). units_before before + length (l ++ [])) no_unit ∙ plus_none (units_before before) in
      ap (λ (l : List (List ℕ)). l ++ shown_after (begun_at course) (before ++ e ∷ []) told) none
      ∙ rest
      ∙ ap (λ (at : ℕ). picked (drop at course.firsts) (written by_chip told)) same
      ∙ ap (λ (l : List (List ℕ)). picked (drop (units_before before) course.firsts) (l ++ written by_chip told)) (sym no_unit)
    where
      plus_none : (n : ℕ) → n + 0 ≡ n
      plus_none n = omega arith

  picks : (told before : List Entry) → Picks before told
  picks [] before = sym (picked_none (drop (units_before before) course.firsts))
  picks (entry.Written by_chip unit ∷ told) before =
      let next : units_before (before ++ entry.Written by_chip unit ∷ []) ≡ suc (units_before before) =
      units_later before (entry.Written by_chip unit ∷ []) ∙ one_more (units_before before) in
      ap (λ (l : List (List ℕ)). begun_at course before (entry.Written by_chip unit) ++ l)
      (picks told (before ++ entry.Written by_chip unit ∷ []) ∙ ap (λ (at : ℕ). picked (drop at course.firsts) (written by_chip told)) next)
      ∙ picks_at course.firsts (units_before before) unit (written by_chip told)
    where
      one_more : (n : ℕ) → n + 1 ≡ suc n
      one_more n = omega arith
  picks (entry.Written by_host unit ∷ told) before = skip before (entry.Written by_host unit) told refl refl (picks told (before ++ entry.Written by_host unit ∷ []))
  picks (e ∷ told) before = skip before e told refl refl (picks told (before ++ e ∷ []))

  pub begun_picked : (past : List Entry) → begun course past ≡ picked course.firsts (written by_chip past)
  begun_picked past = picks past []

-- ---- a course that goes on

few_before : (past told : List Entry) (count : ℕ) → units_before (past ++ told) ≤ count → units_before past ≤ count
few_before past told count few = let both = units_later past told in omega (arith, few, both)

module _ (now later : Course) (more : List Bool) (is : later.firsts ≡ now.firsts ++ more) where
  pub begun_later : (past : List Entry) → length (written by_chip past) ≤ length now.firsts → begun later past ≡ begun now past
  begun_later past few =
      begun_picked later past
      ∙ ap (λ (l : List Bool). picked l (written by_chip past)) is
      ∙ picked_few now.firsts more (written by_chip past) few
      ∙ sym (begun_picked now past)

  place_later : (before : List Entry) (e : Entry) → units_before before ≤ length now.firsts → dropped_at later before e ≡ dropped_at now before e
  place_later before entry.ChipFull few = ap (λ (l : List (List ℕ)). (length l + drops before + most_waiting) ∷ []) (begun_later before few)
  place_later before e few = refl

  pub dropped_later : (told before : List Entry) → length (written by_chip (before ++ told)) ≤ length now.firsts
      → shown_after (dropped_at later) before told ≡ shown_after (dropped_at now) before told
  dropped_later [] before few = refl
  dropped_later (e ∷ told) before few =
      ap₂ (λ (a b : List ℕ). a ++ b) (place_later before e (few_before before (e ∷ told) (length now.firsts) few))
      (dropped_later told (before ++ e ∷ []) (subst (λ (l : List Entry). length (written by_chip l) ≤ length now.firsts) (sym (append_assoc before (e ∷ []) told)) few))
