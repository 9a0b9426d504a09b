-- The settings that a text goes on with are read in one way.
use Rattle.std.proofs.Common.{◌≡◌, ℕ, List, [], ◌∷◌, ◌++◌, Option, Some, None, ap, ap₂, refl, sym, subst, ◌∙◌, append-nil}
use Rattle.std.proofs.lemmas.List.{append_assoc}
use Rattle.zw_base.specs.declared.property.Setting.{Setting}
use Rattle.zw_text.specs.declared.entry.Entry.{Entry}
use Rattle.audit_books.specs.Lines.{IsNext}
use Rattle.audit_books.specs.declared.group.Maker.{Maker}
use Rattle.audit_books.specs.Groups.{BeginsWith, EndsGroup, IsGroup, setting_by}
use Rattle.audit_books.proofs.Cuts.{next-entry, next-rest}

abbrev some_or : {A : Type 0} → A → Option A → A
some_or d None = d
some_or d (Some x) = x

abbrev is-none : {A : Type 0} → Option A → Type 0
is-none None = Unit {0}
is-none (Some x) = ⊥

none-not-some : {A : Type 0} (o : Option A) (x : A) → o ≡ None → o ≡ Some x → ⊥
none-not-some o x e f = subst is-none (sym e ∙ f) tt

not-both : (maker : Maker) (text : List ℕ) (setting : Setting) (rest : List ℕ) → EndsGroup maker text → BeginsWith maker text setting rest → ⊥
not-both maker text setting rest ends begins = none-not-some (setting_by maker begins.entry) setting (ends begins.entry rest begins.next) begins.made

same-setting : (maker : Maker) (text : List ℕ) (a b : Setting) (r s : List ℕ) → BeginsWith maker text a r → BeginsWith maker text b s → a ≡ b
same-setting maker text a b r s x y =
    ap (some_or a) (sym x.made ∙ ap (setting_by maker) (next-entry text x.entry y.entry r s x.next y.next) ∙ y.made)

pub group-once : (maker : Maker) (text : List ℕ) (a b : List Setting) → IsGroup maker text a → IsGroup maker text b → a ≡ b
group-once maker text [] [] x y = refl
group-once maker text [] (t ∷ b) x (s, begins, rest) = absurd (not-both maker text t s x begins)
group-once maker text (t ∷ a) [] (r, begins, rest) y = absurd (not-both maker text t r y begins)
group-once maker text (t ∷ a) (u ∷ b) (r, begin, rest) (s, begins, more) =
    ap₂ ◌∷◌ (same-setting maker text t u r s begin begins)
    (group-once maker s a b (subst (λ z. IsGroup maker z a) (next-rest text begin.entry begins.entry r s begin.next begins.next) rest) more)

-- what is read from here on is read from the beginning on
pub group-more : (maker : Maker) (text left rest : List ℕ) (setting : Setting) (some : List Setting) →
    BeginsWith maker left setting rest → ((more : List Setting) → IsGroup maker left more → IsGroup maker text (some ++ more)) →
    (more : List Setting) → IsGroup maker rest more → IsGroup maker text ((some ++ (setting ∷ [])) ++ more)
group-more maker text left rest setting some begins whole more goes =
    subst (IsGroup maker text) (sym (append_assoc some (setting ∷ []) more)) (whole (setting ∷ more) (rest, begins, goes))

pub group-end : (maker : Maker) (text left : List ℕ) (some : List Setting) →
    EndsGroup maker left → ((more : List Setting) → IsGroup maker left more → IsGroup maker text (some ++ more)) → IsGroup maker text some
group-end maker text left some ends whole = subst (IsGroup maker text) (append-nil some) (whole [] ends)

pub ends-group : (maker : Maker) (text : List ℕ) (found : Entry) (more : List ℕ) → IsNext text found more → setting_by maker found ≡ None → EndsGroup maker text
ends-group maker text found more next none entry rest begins =
    ap (setting_by maker) (next-entry text entry found rest more begins next) ∙ none
