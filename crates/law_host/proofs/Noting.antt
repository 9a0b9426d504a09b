-- The law of notes, where it is computed to hold, and where it is computed to fail.
use Rattle.std.proofs.Common.{◌≡◌, Bool, true, false, ℕ, List, [], ◌∷◌, ◌++◌, ◌&&◌, refl, sym, ◌∙◌}
use Rattle.std.specs.Prelude.{replicate}
use Rattle.std.specs.List.{AllByRecursion}
use Rattle.zw_text.specs.declared.entry.Entry.{Entry}
use Rattle.law_time.specs.Heeds.{Heeds}
use Rattle.law_time.specs.Requests.{are_none}
use Rattle.law_time.proofs.Deciding.{first_of, second_of, not_true}
use Rattle.law_host.specs.Course.{Choices, Course}
use Rattle.law_host.specs.Following.{ended_whole}
use Rattle.law_host.specs.Notes.{NotesWhatHappens, Start, course_of}

-- all entries may stand, also at the end, and no nonce was given, opened for or used
abbrev pub is_plain : Course → Course → Bool
is_plain course end = course.fits && (end.fits && (are_none course.offered && (are_none course.opened && are_none course.sealed)))

pub none_of : {A : Type 0} (P : A → Type 0) (items : List A) → are_none items ≡ true → AllByRecursion P items
none_of P [] none = tt
none_of P (item ∷ items) none = cc

unfoldable pub noted : (key : List ℕ) (heeds : Heeds) (start : Start) (heard : List Entry) (choices : Choices)
    → is_plain (course_of heeds start heard choices) (ended_whole heeds (start.before ++ heard) (course_of heeds start heard choices)) ≡ true
    → NotesWhatHappens key heeds start true heard
noted key heeds start heard choices is =
    let course : Course = course_of heeds start heard choices in
    let rest = second_of course.fits _ is in
    let last = second_of (ended_whole heeds (start.before ++ heard) course).fits _ rest in
    let claims = second_of (are_none course.offered) _ last in
    record {
      choices = choices;
      drawn = λ node number. replicate 7 0;
      fits = first_of _ _ is;
      in_the_end = λ whole. first_of _ _ rest;
      nonces = record {
        seven = λ node number. refl;
        offered = none_of _ _ (first_of _ _ last);
        opened = none_of _ _ (first_of _ _ claims);
        sealed = none_of _ _ (second_of (are_none course.opened) _ claims);
      };
    }

-- whatever was kept, some entry may not stand
pub unfit : (key : List ℕ) (heeds : Heeds) (start : Start) (heard : List Entry)
    → ((choices : Choices) → (course_of heeds start heard choices).fits ≡ false) → NotesWhatHappens key heeds start true heard → ⊥
unfit key heeds start heard fails law = not_true (sym (fails law.choices) ∙ law.fits)

-- or something is to be noted at the end
pub unended : (key : List ℕ) (heeds : Heeds) (start : Start) (heard : List Entry)
    → ((choices : Choices) → (ended_whole heeds (start.before ++ heard) (course_of heeds start heard choices)).fits ≡ false)
    → NotesWhatHappens key heeds start true heard → ⊥
unended key heeds start heard fails law = not_true (sym (fails law.choices) ∙ law.in_the_end refl)
