-- What is over stays: a command with a final outcome, or one that was taken back, has that outcome for good.
use Rattle.std.proofs.Common.{◌≡◌, ℕ, List, [], ◌∷◌, ◌++◌, inl, inr, sym, ap, subst, ◌∙◌, append_assoc, append-nil}
use Rattle.std.proofs.lemmas.Bool.{cases_eq}
use Rattle.zw_text.specs.declared.entry.Ended.{Ended}
use Rattle.zw_text.specs.declared.entry.Ended.TheVariants as ended
use Rattle.zw_text.specs.declared.entry.Entry.{Entry}
use Rattle.zw_text.specs.declared.entry.Entry.TheVariants.{Accepted, Begin, Out}
use Rattle.zw_text.specs.declared.entry.Outcome.{Outcome}
use Rattle.zw_text.specs.declared.entry.Outcome.TheVariants.{Waiting, Begun, Success, Fail, NoSupport, Unanswered, Cancelled}
use Rattle.zw_text.specs.Transcript.{outcome}
use Rattle.law_transcript.specs.Lists.{EachAfter}
use Rattle.proof_host.specs.Laws.{IsOver, IsUnderWay, MayCarry, MayEnd, HostLaws}
use Rattle.proof_host.proofs.Views.{outcome-silent, outcome-other, outcome-begun_other, outcome-accepted}

pub each-right : {A : Type 0} (Allowed : List A → A → Type 0) (past xs ys : List A) → EachAfter Allowed past (xs ++ ys) → EachAfter Allowed (past ++ xs) ys
each-right Allowed past [] ys all = subst (λ (p : List _). EachAfter Allowed p ys) (sym (append-nil past)) all
each-right Allowed past (x ∷ xs) ys all = subst (λ (p : List _). EachAfter Allowed p ys) (append_assoc past (x ∷ []) xs) (each-right Allowed (past ++ x ∷ []) xs ys all.1)

over_waits : (o : Outcome) → IsOver o → o ≡ Waiting → ⊥
over_waits Waiting over e = over
over_waits Begun over e = over
over_waits Unanswered over e = over
over_waits Success over e = cc
over_waits Fail over e = cc
over_waits NoSupport over e = cc
over_waits Cancelled over e = cc

over_runs : (o : Outcome) → IsOver o → IsUnderWay o → ⊥
over_runs Waiting over u = over
over_runs Begun over u = over
over_runs Unanswered over u = over
over_runs Success over u = u
over_runs Fail over u = u
over_runs NoSupport over u = u
over_runs Cancelled over u = u

ends_not_over : (T : List Entry) (c : ℕ) (how : Ended) → IsOver (outcome c T) → MayEnd T (Out c how) → ⊥
ends_not_over T c ended.Success over may = over_runs (outcome c T) over may
ends_not_over T c ended.Fail over may = over_runs (outcome c T) over may
ends_not_over T c ended.NoSupport over may = over_runs (outcome c T) over may
ends_not_over T c ended.Unanswered over may = over_runs (outcome c T) over may
ends_not_over T c ended.Cancelled over may = over_waits (outcome c T) over may.1

one_stays : (T : List Entry) (number : ℕ) (e : Entry) → IsOver (outcome number T) → MayCarry T e → MayEnd T e → outcome number (T ++ e ∷ []) ≡ outcome number T
one_stays T number (Accepted c n) over carry end = outcome-accepted T c n number
one_stays T number (Begin n s c) over carry end = elim (cases_eq number c) [
  | inl same ↦ absurd (over_waits (outcome c T) (subst (λ (i : ℕ). IsOver (outcome i T)) same over) carry.1)
  | inr other ↦ outcome-begun_other T n s c number other
]
one_stays T number (Out c how) over carry end = elim (cases_eq number c) [
  | inl same ↦ absurd (ends_not_over T c how (subst (λ (i : ℕ). IsOver (outcome i T)) same over) end)
  | inr other ↦ outcome-other T c how [] tt number other
]
one_stays T number e over carry end = outcome-silent T (e ∷ []) (tt, tt) number

stays : (T more : List Entry) (number : ℕ) → IsOver (outcome number T) → EachAfter MayCarry T more → EachAfter MayEnd T more → outcome number (T ++ more) ≡ outcome number T
stays T [] number over carry end = ap (λ (l : List Entry). outcome number l) (append-nil T)
stays T (e ∷ more) number over carry end =
    let same = one_stays T number e over carry.0 end.0 in
    ap (λ (l : List Entry). outcome number l) (sym (append_assoc T (e ∷ []) more))
    ∙ stays (T ++ e ∷ []) more number (subst IsOver (sym same) over) carry.1 end.1 ∙ same

pub over_stays : (past more : List Entry) (number : ℕ) → HostLaws (past ++ more) → IsOver (outcome number past) → outcome number (past ++ more) ≡ outcome number past
over_stays past more number laws over = stays past more number over (each-right MayCarry [] past more laws.carries) (each-right MayEnd [] past more laws.ends)
