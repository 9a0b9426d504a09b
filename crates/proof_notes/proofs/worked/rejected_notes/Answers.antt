-- What stands after the payload begins otherwise than with its notes, or goes on so.
use Rattle.std.proofs.Common.{◌≡◌, ◌⊎◌, ℕ, List, [], ◌∷◌, ◌++◌, inl, inr, refl, sym, ap, ◌∙◌, subst}
use Rattle.std.specs.List.{AllByRecursion}
use Rattle.zw_base.specs.declared.property.Name.TheVariants as names
use Rattle.host_orders.specs.Settings.{setting}
use Rattle.zw_text.specs.declared.entry.Ended.TheVariants as endings
use Rattle.zw_text.specs.declared.entry.Entry.{Entry}
use Rattle.zw_text.specs.declared.entry.Entry.TheVariants.{Old, Out, Report, Unkept, Unread}
use Rattle.proof_attempts.proofs.Computing.{computing}
use Rattle.proof_notes.specs.Full.{IsElse}
use Rattle.proof_notes.proofs.worked.rejected_notes.Goals as goal

-- where the notes are one, and others after it
begins : (e : Entry) (some notes more first rest : List Entry) → some ≡ notes ++ more → notes ≡ first ++ rest → first ≡ e ∷ [] → some ≡ e ∷ (rest ++ more)
begins e some notes more first rest are noted is = are ∙ ap (λ (l : List Entry). l ++ more) (noted ∙ ap (λ (l : List Entry). l ++ rest) is)

not_none : (e : Entry) (l : List Entry) → [] ≡ e ∷ l → ⊥
not_none e l is = cc

failed : (l rest : List Entry) → Out 1 endings.Success ∷ rest ≡ Out 1 endings.Fail ∷ l → ⊥
failed l rest is = cc

unkept : (l rest : List Entry) → Out 1 endings.Success ∷ rest ≡ Unkept 2 ∷ l → ⊥
unkept l rest is = cc

unread : (payload : List ℕ) (l rest : List Entry) → Out 1 endings.Success ∷ rest ≡ Unread 4 payload ∷ l → ⊥
unread payload l rest is = cc

abbrev value_in : List Entry → ℕ
value_in (Report node setting ∷ l) = setting.value
value_in l = 0

another : ◌≡◌ {A = ℕ} 255 0 → ⊥
another is = cc

rest_is : (e : Entry) (l more : List Entry) → e ∷ l ≡ e ∷ more → l ≡ more
rest_is e l more is = cc

pub returns-clause-unended : goal.returns-clause-unended
unfolding computing
returns-clause-unended c = λ keys law.
    let (notes, more, are, (first, rest, noted, is, none), all) = (law.in_the_end refl).0 in
    by notes more first rest are noted is
  where
    by : (notes more first rest : List Entry) → [] ≡ notes ++ more → notes ≡ first ++ rest → (first ≡ Out 1 endings.Fail ∷ []) ⊎ (first ≡ Unkept 2 ∷ []) → ⊥
    by notes more first rest are noted (inl is) = not_none (Out 1 endings.Fail) (rest ++ more) (begins (Out 1 endings.Fail) [] notes more first rest are noted is)
    by notes more first rest are noted (inr is) = not_none (Unkept 2) (rest ++ more) (begins (Unkept 2) [] notes more first rest are noted is)

pub returns-clause-otherwise : goal.returns-clause-otherwise
unfolding computing
returns-clause-otherwise c = λ keys law.
    let (later, (notes, more, are, (first, rest, noted, is, none), all)) = law.between.1.1.1.1.1.0.0 in
    by later notes more first rest are noted is
  where
    by : (later notes more first rest : List Entry) → Out 1 endings.Success ∷ later ≡ notes ++ more → notes ≡ first ++ rest
        → (first ≡ Out 1 endings.Fail ∷ []) ⊎ (first ≡ Unkept 2 ∷ []) → ⊥
    by later notes more first rest are noted (inl is) =
        failed (rest ++ more) later (begins (Out 1 endings.Fail) (Out 1 endings.Success ∷ later) notes more first rest are noted is)
    by later notes more first rest are noted (inr is) = unkept (rest ++ more) later (begins (Unkept 2) (Out 1 endings.Success ∷ later) notes more first rest are noted is)

pub returns-clause-old : goal.returns-clause-old
unfolding computing
returns-clause-old c = λ keys law.
    let (notes, more, are, (first, rest, noted, is, none), all) = (law.in_the_end refl).0 in
    not_none (Old 2 2) (rest ++ more) (begins (Old 2 2) [] notes more first rest are noted is)

pub returns-clause-left_out : goal.returns-clause-left_out
unfolding computing
returns-clause-left_out c = λ keys law.
    let (notes, more, are, (first, rest, noted, is, none), all) = (law.in_the_end refl).0 in
    let e : Entry = Report 2 (setting 0 names.Switch 0) in
    not_none e (rest ++ more) (begins e [] notes more first rest are noted is)

pub returns-clause-twice : goal.returns-clause-twice
unfolding computing
returns-clause-twice c = λ keys law.
    let (later, (notes, more, are, (first, rest, noted, is, none), all)) = law.between.1.1.1.1.1.1.1.1.1.1.1.1.1.1.0.0 in
    let e : Entry = Report 2 (setting 0 names.Switch 0) in
    let same : e ∷ later ≡ rest ++ more = rest_is e (e ∷ later) (rest ++ more) (begins e (e ∷ e ∷ later) notes more first rest are noted is) in
    (subst (AllByRecursion IsElse) (sym (same ∙ ap (λ (l : List Entry). l ++ more) none)) all).0

pub returns-clause-as_another : goal.returns-clause-as_another
unfolding computing
returns-clause-as_another c = λ keys law.
    let (later, (notes, more, are, (first, rest, noted, is, none), all)) = law.between.1.1.1.1.1.1.1.1.1.1.1.1.1.0.0 in
    let e : Entry = Report 2 (setting 0 names.Switch 0) in
    another (ap value_in (begins e (Report 2 (setting 0 names.Switch 255) ∷ later) notes more first rest are noted is))

pub returns-clause-believed : goal.returns-clause-believed
unfolding computing
returns-clause-believed c = λ keys law.
    let (later, (notes, more, are, (first, rest, noted, is, none), all)) = law.between.1.1.1.1.1.1.1.1.1.1.0.0 in
    let payload : List ℕ = 0x6C ∷ 0x02 ∷ 0x01 ∷ 0xFF ∷ 0x00 ∷ [] in
    unread payload (rest ++ more) later (begins (Unread 4 payload) (Out 1 endings.Success ∷ later) notes more first rest are noted is)
