-- Entries of which none breaks a rule, one by one.
use Rattle.std.proofs.Common.{◌≡◌, ℕ, ◌+◌, eqb, true, length, List, [], ◌∷◌, ◌++◌, Some, None, arith, refl, sym, subst, append-nil, length-append}
use Rattle.std.proofs.lemmas.Bool.{eqb-true}
use Rattle.std.proofs.lemmas.List.{append_assoc}
use Rattle.zw_text.specs.declared.entry.Entry.{Entry}
use Rattle.audit_books.specs.Lines.{IsNext}
use Rattle.audit.specs.Breaking.{Examined, IsBroken, IsJudged, Keeps}
use Rattle.audit.specs.Keeping.{IsKeptOf, IsTaken, Kept}
use Rattle.audit.specs.declared.breaks.Break.{Break}
use Rattle.audit.specs.declared.breaks.Break.TheVariants.{Air, Once, Payload, Sessions, Store, Table, Text}

-- one entry more
pub keeps-more : (past : List Entry) (text : List ℕ) (entries : List Entry) (left : List ℕ) (entry : Entry) (rest : List ℕ) → Keeps past text entries left →
    IsNext left entry rest → IsJudged (past ++ entries) entry rest None → Keeps past text (entries ++ (entry ∷ [])) rest
keeps-more past text [] left entry rest keeps next judged =
    (rest, subst (λ t. IsNext t entry rest) (sym keeps) next, subst (λ p. IsJudged p entry rest None) (append-nil past) judged, refl)
keeps-more past text (first ∷ entries) left entry rest (more, begins, kept, later) next judged =
    (more, begins, kept, keeps-more (past ++ (first ∷ [])) more entries left entry rest later next (subst (λ p. IsJudged p entry rest None) (sym (append_assoc past (first ∷ []) entries)) judged))

-- a line that breaks a rule of entries
pub broken-line : (past : List Entry) (text : List ℕ) (broken : Break) (entry : Entry) (more : List ℕ) → (Some broken ≡ Some Text → ⊥) →
    IsNext text entry more → IsJudged past entry more (Some broken) → IsBroken past text broken
broken-line past text Text entry more not-text next judged = absurd (not-text refl)
broken-line past text Sessions entry more not-text next judged = (entry, more, next, judged)
broken-line past text Once entry more not-text next judged = (entry, more, next, judged)
broken-line past text Air entry more not-text next judged = (entry, more, next, judged)
broken-line past text Payload entry more not-text next judged = (entry, more, next, judged)
broken-line past text Store entry more not-text next judged = (entry, more, next, judged)
broken-line past text Table entry more not-text next judged = (entry, more, next, judged)

pub found-none : (text left : List ℕ) (entries : List Entry) → Keeps [] text entries left → left ≡ [] → Examined text None
found-none text left entries keeps is = record { entries = entries; rest = left; keeps = keeps; ends = is }

-- the line of an entry more
pub takes-line : (text left rest : List ℕ) (entries : List Entry) (kept : Kept) (line next : ℕ) → Keeps [] text entries left → IsTaken entries left rest kept → line ≡ length entries + 1 →
    next ≡ line + 1 → (longer : List Entry) × Keeps [] text longer rest × IsKeptOf kept longer × (next ≡ length longer + 1)
takes-line text left rest entries kept line next keeps taken is more = (
  entries ++ (taken.entry ∷ []),
  keeps-more [] text entries left taken.entry rest keeps taken.next taken.judged,
  taken.keeps,
  omega (arith, is, more, length-append entries (taken.entry ∷ [])),
)

pub empty-is : (text : List ℕ) → true ≡ eqb (length text) 0 → text ≡ []
empty-is [] e = refl
empty-is (x ∷ text) e = absurd (omega (arith, eqb-true (length (x ∷ text)) 0 (sym e)))
