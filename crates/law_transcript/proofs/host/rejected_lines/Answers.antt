use Rattle.std.proofs.Common.{◌≡◌, ℕ, true, false, List, [], ◌∷◌, ◌++◌, refl, ap, sym, subst, inl, inr}
use Rattle.std.specs.Prelude.{codes}
use Rattle.std.proofs.lemmas.List.{append-nil, append_assoc}
use Rattle.zw_text.specs.declared.entry.Refusal.{Refusal}
use Rattle.zw_text.specs.declared.entry.Refusal.TheVariants as refusals
use Rattle.zw_text.specs.declared.entry.Entry.{Entry}
use Rattle.zw_text.specs.declared.entry.Entry.TheVariants.{Said, Accepted, Refused}
use Rattle.law_transcript.specs.Lists.{EachAfter}
use Rattle.law_transcript.specs.Worked.{the_switch}
use Rattle.law_transcript.specs.WorkedWrongLines.{many_reported}
use Rattle.law_transcript.proofs.Computing.{computing}
use Rattle.law_transcript.proofs.Dues.{differ}
use Rattle.law_transcript.proofs.Entries.{MayAnswerOf}
use Rattle.law_transcript.proofs.host.rejected_lines.Goals as goal

-- whether an entry refuses
abbrev refuses : Entry → ℕ
refuses (Refused refusal) = 1
refuses _ = 0

abbrev first_refuses : List Entry → ℕ
first_refuses [] = 0
first_refuses (entry ∷ rest) = refuses entry

not_true : false ≡ true → ⊥
not_true e = cc

-- numbers that tell the rules apart by which entries refuse
abbrev rule_of : Refusal → ℕ
rule_of refusals.NotJoined = 1
rule_of refusals.NotInterviewed = 2
rule_of (refusals.Unsupported class) = 3
rule_of refusals.Secured = 4
rule_of _ = 0

abbrev rule_in : Entry → ℕ
rule_in (Refused refusal) = rule_of refusal
rule_in _ = 0

abbrev first_rule : List Entry → ℕ
first_rule [] = 0
first_rule (entry ∷ rest) = rule_in entry

-- what stands after one entry that comes after others may stand there
following : {A : Type 0} (May : List A → A → Type 0) (past prefix : List A) (first second : A) → EachAfter May past (prefix ++ first ∷ second ∷ [])
    → May ((past ++ prefix) ++ first ∷ []) second
following {A} May past [] first second after = subst (λ (before : List A). May (before ++ first ∷ []) second) (sym (append-nil past)) after.1.0
following {A} May past (item ∷ prefix) first second after =
    subst (λ (before : List A). May (before ++ first ∷ []) second) (append_assoc past (item ∷ []) prefix) (following May (past ++ item ∷ []) prefix first second after.1)

pub returns-clause-joined : goal.returns-clause-joined
unfolding computing
returns-clause-joined c = λ law. elim (law.between.1.1.0) [ inl same ↦ differ 1 0 refl (ap first_refuses same) | inr kept ↦ kept.0 ]

pub returns-clause-known : goal.returns-clause-known
unfolding computing
returns-clause-known c = λ law. elim (law.between.1.1.0) [ inl same ↦ differ 2 3 refl (ap first_rule same) | inr kept ↦ kept.0 ]

pub returns-clause-value : goal.returns-clause-value
unfolding computing
returns-clause-value c = λ law. elim (law.between.1.0) [ inl same ↦ differ 1 0 refl (ap first_refuses same) | inr kept ↦ kept.0 ]

pub returns-clause-unsupported : goal.returns-clause-unsupported
unfolding computing
returns-clause-unsupported c = λ law. elim (law.between.1.0) [ inl same ↦ differ 1 0 refl (ap first_refuses same) | inr kept ↦ kept.0 ]

pub returns-clause-unsupervised : goal.returns-clause-unsupervised
unfolding computing
returns-clause-unsupervised c = λ law. elim (law.between.1.1.1.0) [ inl same ↦ differ 1 0 refl (ap first_refuses same) | inr kept ↦ kept.0 ]

pub returns-clause-long : goal.returns-clause-long
unfolding computing
returns-clause-long c = λ law. elim (law.between.1.1.1.0) [ inl same ↦ differ 1 0 refl (ap first_refuses same) | inr kept ↦ kept.0 ]

pub returns-clause-send_secured : goal.returns-clause-send_secured
unfolding computing
returns-clause-send_secured c = λ law. differ 4 3 refl (ap rule_in law.between.1.1.1.0)

pub returns-clause-get_secured : goal.returns-clause-get_secured
unfolding computing
returns-clause-get_secured c = λ law. differ 1 0 refl (ap refuses law.between.1.1.1.0)

pub returns-clause-full : goal.returns-clause-full
unfolding computing
returns-clause-full c = λ law. elim (law.between.1.1.1.1.1.1.1.1.1.1.1.1.1.1.1.1.1.1.1.1.1.1.1.1.1.1.1.1.1.1.1.1.1.0) [ inl same ↦ differ 1 0 refl (ap first_refuses same) | inr kept ↦ kept.0 ]

pub returns-clause-store : goal.returns-clause-store
unfolding computing
returns-clause-store c = λ law. elim (following (MayAnswerOf (the_switch ∷ [])) [] (many_reported 512) (Said (codes "set 2 on")) (Accepted 1 2) law.between)
    [ inl same ↦ differ 1 0 refl (ap first_refuses same) | inr kept ↦ kept.0 ]

pub returns-clause-cancel : goal.returns-clause-cancel
unfolding computing
returns-clause-cancel c = λ law. differ 1 0 refl (ap refuses law.between.1.0)

pub returns-clause-interview : goal.returns-clause-interview
unfolding computing
returns-clause-interview c = λ law. differ 1 0 refl (ap refuses law.between.1.0)

pub returns-clause-repeat : goal.returns-clause-repeat
unfolding computing
returns-clause-repeat c = λ law. differ 1 0 refl (ap refuses law.between.1.0)

pub returns-clause-wake : goal.returns-clause-wake
unfolding computing
returns-clause-wake c = λ law. differ 1 0 refl (ap refuses law.between.1.0)

pub returns-clause-local : goal.returns-clause-local
unfolding computing
returns-clause-local c = λ law. differ 1 0 refl (ap refuses law.between.1.0)

pub returns-clause-show : goal.returns-clause-show
unfolding computing
returns-clause-show c = λ law. differ 1 0 refl (ap refuses law.between.1.0)

pub returns-clause-queue : goal.returns-clause-queue
unfolding computing
returns-clause-queue c = λ law. differ 63 64 refl law.between.1.0.1

pub returns-clause-keeper : goal.returns-clause-keeper
unfolding computing
returns-clause-keeper c = λ law. not_true law.between.1.0

pub returns-clause-bad : goal.returns-clause-bad
unfolding computing
returns-clause-bad c = λ law. not_true law.between.1.0

pub returns-clause-joined_first : goal.returns-clause-joined_first
unfolding computing
returns-clause-joined_first c = λ law. elim (law.between.1.0) [ inl same ↦ differ 1 2 refl (ap first_rule same) | inr kept ↦ kept.0 ]

pub returns-clause-send_joined : goal.returns-clause-send_joined
unfolding computing
returns-clause-send_joined c = λ law. differ 1 0 refl (ap refuses law.between.1.1.0)

pub returns-clause-send_known : goal.returns-clause-send_known
unfolding computing
returns-clause-send_known c = λ law. differ 2 3 refl (ap rule_in law.between.1.1.0)

pub returns-clause-send_unsupported : goal.returns-clause-send_unsupported
unfolding computing
returns-clause-send_unsupported c = λ law. differ 1 0 refl (ap refuses law.between.1.1.1.0)

pub returns-clause-send_value : goal.returns-clause-send_value
unfolding computing
returns-clause-send_value c = λ law. differ 1 0 refl (ap refuses law.between.1.0)

pub returns-clause-get_joined : goal.returns-clause-get_joined
unfolding computing
returns-clause-get_joined c = λ law. differ 1 0 refl (ap refuses law.between.1.1.0)

pub returns-clause-get_known : goal.returns-clause-get_known
unfolding computing
returns-clause-get_known c = λ law. differ 2 3 refl (ap rule_in law.between.1.1.0)

pub returns-clause-get_unsupported : goal.returns-clause-get_unsupported
unfolding computing
returns-clause-get_unsupported c = λ law. differ 1 0 refl (ap refuses law.between.1.1.1.0)

pub returns-clause-get_end : goal.returns-clause-get_end
unfolding computing
returns-clause-get_end c = λ law. differ 1 0 refl (ap refuses law.between.1.0)

pub returns-clause-cancel_begun : goal.returns-clause-cancel_begun
unfolding computing
returns-clause-cancel_begun c = λ law. differ 1 0 refl (ap refuses law.between.1.1.1.1.0)

pub returns-clause-join : goal.returns-clause-join
unfolding computing
returns-clause-join c = λ law. differ 1 0 refl (ap refuses law.between.1.0)

pub returns-clause-queue_unasked : goal.returns-clause-queue_unasked
unfolding computing
returns-clause-queue_unasked c = λ law. not_true law.between.1.0.0

pub returns-clause-refused_join : goal.returns-clause-refused_join
unfolding computing
returns-clause-refused_join c = λ law. elim (law.between.1.1.1.1.0) [ inl same ↦ differ 1 0 refl (ap first_refuses same) | inr kept ↦ kept.0 ]

pub returns-clause-failed_interview : goal.returns-clause-failed_interview
unfolding computing
returns-clause-failed_interview c = λ law. elim (law.between.1.1.1.0) [ inl same ↦ differ 1 0 refl (ap first_refuses same) | inr kept ↦ kept.0 ]
