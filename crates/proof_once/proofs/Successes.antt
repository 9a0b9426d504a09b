-- The sessions that ended with success.
use Rattle.std.proofs.Common.{◌≡◌, ℕ, zero, suc, ◌+◌, ◌<◌, ◌≤◌, ◌==◌, Bool, true, false, if◌then◌else◌, List, [], ◌∷◌, length, Some, inl, inr, refl, ap, subst, arith}
use Rattle.std.specs.Prelude.{slice_get}
use Rattle.std.specs.List.{AllByRecursion}
use Rattle.std.proofs.lemmas.Bool.{eq-eqb, eqb-true}
use Rattle.std.proofs.lemmas.Option.{slice_get_within}
use Rattle.zw_base.proofs.Each.{all-weaker}
use Rattle.supervision.specs.Host.{command_at}
use Rattle.supervision.specs.declared.session.TheConstants.{SUCCESS}
use Rattle.proof_course.specs.Parts.{successes}
use Rattle.proof_host.specs.law_transcript.Lists.{Has, Rises}
use Rattle.proof_host.proofs.Having.{all_of}
use Rattle.proof_course.proofs.Parts.{successes_from}

-- ---- which they are

later_or : (b : Bool) (at session : ℕ) (later : List ℕ) → Has later session → Has (if b then at ∷ later else later) session
later_or true at session later has = inr has
later_or false at session later has = has

first_or : (b : Bool) (at : ℕ) (later : List ℕ) → b ≡ true → Has (if b then at ∷ later else later) at
first_or true at later e = inl refl
first_or false at later e = absurd (grind arith)

success_at : (at : ℕ) (finals : List ℕ) (before : ℕ) → slice_get finals before ≡ Some SUCCESS → Has (successes at finals) (at + before)
success_at at [] before e = absurd (grind arith)
success_at at (status ∷ more) zero e =
    let same : status ≡ SUCCESS = cc in
    subst (λ (n : ℕ). Has (successes at (status ∷ more)) n) (omega arith) (first_or (status == SUCCESS) at (successes (at + 1) more) (eq-eqb status SUCCESS same))
success_at at (status ∷ more) (suc before) e =
    subst (λ (n : ℕ). Has (successes at (status ∷ more)) n) (omega arith) (later_or (status == SUCCESS) at (at + 1 + before) (successes (at + 1) more) (success_at (at + 1) more before e))

pub success_has : (finals : List ℕ) (session : ℕ) → command_at finals session ≡ Some SUCCESS → Has (successes 1 finals) session
success_has finals zero e = absurd (grind arith)
success_has finals (suc before) e = subst (λ (n : ℕ). Has (successes 1 finals) n) (omega arith) (success_at 1 finals before e)

-- a number among them is of a status of success, so far on
record IsAt (at : ℕ) (finals : List ℕ) (session : ℕ) : Type 0 where
  pub before : ℕ
  pub is : session ≡ at + before
  pub status : slice_get finals before ≡ Some SUCCESS

at_next : (at status : ℕ) (more : List ℕ) (session : ℕ) → IsAt (at + 1) more session → IsAt at (status ∷ more) session
at_next at status more session one = let is = one.is in record { before = suc one.before; is = omega (arith, is); status = one.status }

has_or : (b : Bool) (at status : ℕ) (more : List ℕ) (session : ℕ) → (status == SUCCESS) ≡ b → ((has : Has (successes (at + 1) more) session) → IsAt (at + 1) more session)
    → Has (if b then at ∷ successes (at + 1) more else successes (at + 1) more) session → IsAt at (status ∷ more) session
has_or true at status more session e next (inl here) = record { before = 0; is = omega (arith, here); status = ap Some (eqb-true status SUCCESS e) }
has_or true at status more session e next (inr there) = at_next at status more session (next there)
has_or false at status more session e next there = at_next at status more session (next there)

has_at : (at : ℕ) (finals : List ℕ) (session : ℕ) → Has (successes at finals) session → IsAt at finals session
has_at at [] session has = absurd has
has_at at (status ∷ more) session has = has_or (status == SUCCESS) at status more session refl (has_at (at + 1) more session) has

pub has_success : (finals : List ℕ) (session : ℕ) → Has (successes 1 finals) session → command_at finals session ≡ Some SUCCESS
has_success finals session has =
    let one = has_at 1 finals session has in
    let is = one.is in
    let same : suc one.before ≡ session = omega (arith, is) in
    subst (λ (n : ℕ). command_at finals n ≡ Some SUCCESS) same one.status

-- ---- they rise

rise_or : (b : Bool) (at : ℕ) (later : List ℕ) → AllByRecursion (λ n. at + 1 ≤ n) later → Rises later → Rises (if b then at ∷ later else later)
rise_or true at later all rises = (all-weaker (λ n. at + 1 ≤ n) (λ n. at < n) (λ n more. omega (arith, more)) later all, rises)
rise_or false at later all rises = rises

pub successes_rise : (at : ℕ) (finals : List ℕ) → Rises (successes at finals)
successes_rise at [] = tt
successes_rise at (status ∷ more) = rise_or (status == SUCCESS) at (successes (at + 1) more) (successes_from (at + 1) more) (successes_rise (at + 1) more)

-- ---- there are as many sessions at least

pub successes_within : (finals : List ℕ) → AllByRecursion (λ session. (1 ≤ session) × (session ≤ length finals)) (successes 1 finals)
successes_within finals = all_of (λ session. (1 ≤ session) × (session ≤ length finals)) (successes 1 finals) (λ session has.
    let one = has_at 1 finals session has in
    let is = one.is in
    let less = slice_get_within finals one.before SUCCESS one.status in
    (omega (arith, is), omega (arith, is, less)))
