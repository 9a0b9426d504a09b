-- What was told asks for no record, no interview may end there, and no command waits.
use Rattle.std.proofs.Common.{◌≡◌, ◌⊎◌, Bool, true, false, List, [], ◌∷◌, ◌++◌, inl, inr, ap, ◌∙◌}
use Rattle.zw_base.specs.declared.property.Name.TheVariants as names
use Rattle.host_orders.specs.Settings.{setting}
use Rattle.zw_text.specs.declared.entry.Entry.{Entry}
use Rattle.zw_text.specs.declared.entry.Entry.TheVariants.{Report, Unkept}
use Rattle.proof_attempts.proofs.Computing.{computing}
use Rattle.proof_notes.proofs.worked.rejected_unkept.Goals as goal

never : false ≡ true → ⊥
never is = cc

neither : (false ≡ true) ⊎ (false ≡ true) → ⊥
neither (inl is) = never is
neither (inr is) = never is

-- the notes of the payload begin with another entry
begins_so : (e : Entry) → ((rest more : List Entry) → Unkept 2 ∷ rest ≡ e ∷ more → ⊥)
    → ((rest : List Entry) × ((first more : List Entry) × (Unkept 2 ∷ rest ≡ first ++ more) × (first ≡ e ∷ []) × (more ≡ []))) → ⊥
begins_so e other (rest, (first, more, are, is, none)) = other rest more (are ∙ ap (λ (l : List Entry). l ++ more) is)

told_so : (e : Entry) → ((rest more : List Entry) → Unkept 2 ∷ rest ≡ e ∷ more → ⊥)
    → (((rest : List Entry) × ((first more : List Entry) × (Unkept 2 ∷ rest ≡ first ++ more) × (first ≡ e ∷ []) × (more ≡ []))) ⊎ ⊥)
    ⊎ ((false ≡ true) ⊎ (false ≡ true)) → ⊥
told_so e other (inl (inl notes)) = begins_so e other notes
told_so e other (inl (inr bad)) = bad
told_so e other (inr bad) = neither bad

none_told : ⊥ ⊎ ((false ≡ true) ⊎ (false ≡ true)) → ⊥
none_told (inl bad) = bad
none_told (inr bad) = neither bad

reported : (rest more : List Entry) → Unkept 2 ∷ rest ≡ Report 2 (setting 0 names.Switch 0) ∷ more → ⊥
reported rest more is = cc

pub returns-clause-value : goal.returns-clause-value
unfolding computing
returns-clause-value c = λ keys law. told_so (Report 2 (setting 0 names.Switch 0)) reported law.1.1.1.1.1.1.1.1.1.1.1.1.1.0

pub returns-clause-delivered : goal.returns-clause-delivered
unfolding computing
returns-clause-delivered c = λ keys law. none_told law.1.1.1.1.1.1.1.1.1.0
