-- Devices at work, no two of them for as many ticks: one hears something, and all tick.
use Rattle.std.proofs.Common.{◌≡◌, ◌≤◌, ℕ, zero, suc, ◌-◌, inl, inr, List, [], ◌∷◌, refl, sym, ap, ◌∙◌, arith}
use Rattle.std.proofs.lemmas.Bool.{cases_eq}
use Rattle.std.specs.Prelude.{◌⊎◌, Some, slice_get, slice_set}
use Rattle.device_sim.specs.State.{State}
use Rattle.proof_answered.specs.Few.{AreApart, WorkApart, work_of, work_at}

-- ---- one device of the list is another

pub set_here : (devices : List State) (place : ℕ) (device later : State) → slice_get devices place ≡ Some device → work_at (slice_set devices place later) place ≡ later.work_left
set_here [] place device later there = absurd cc
set_here (first ∷ devices) zero device later there = refl
set_here (first ∷ devices) (suc place) device later there = set_here devices place device later there

pub set_else : (devices : List State) (place a : ℕ) (later : State) → (a ≡ place → ⊥) → work_at (slice_set devices place later) a ≡ work_at devices a
set_else [] place a later other = refl
set_else (first ∷ devices) zero zero later other = absurd (other refl)
set_else (first ∷ devices) zero (suc a) later other = refl
set_else (first ∷ devices) (suc place) zero later other = refl
set_else (first ∷ devices) (suc place) (suc a) later other = set_else devices place a later (λ same. other (ap suc same))

-- ---- its work

-- where more is allowed
pub more_apart : (left : ℕ → ℕ) → AreApart 4 left → AreApart 5 left
more_apart left is = record { within = λ a. let few = is.within a in omega (arith, few); apart = is.apart }

same_apart : (most : ℕ) (left later : ℕ → ℕ) → ((a : ℕ) → later a ≡ left a) → AreApart most left → AreApart most later
same_apart most left later same is = record {
  within = λ a. let few = is.within a in let e = same a in omega (arith, few, e);
  apart = λ a b equal. by a b (is.apart a b (sym (same a) ∙ equal ∙ same b));
}
  where
    by : (a b : ℕ) → (a ≡ b) ⊎ (left a ≡ 0) → (a ≡ b) ⊎ (later a ≡ 0)
    by a b (inl one) = inl one
    by a b (inr none) = inr (same a ∙ none)

-- it has as much as it had
pub kept_apart : (most : ℕ) (devices : List State) (place : ℕ) (device later : State) → slice_get devices place ≡ Some device → later.work_left ≡ device.work_left → WorkApart most devices
    → WorkApart most (slice_set devices place later)
kept_apart most devices place device later there kept is = same_apart most (λ a. work_at devices a) (λ a. work_at (slice_set devices place later) a) same is
  where
    same : (a : ℕ) → work_at (slice_set devices place later) a ≡ work_at devices a
    same a = by (cases_eq a place)
      where
        by : (a ≡ place) ⊎ (a ≡ place → ⊥) → work_at (slice_set devices place later) a ≡ work_at devices a
        by (inl here) =
            ap (λ (n : ℕ). work_at (slice_set devices place later) n) here ∙ set_here devices place device later there ∙ kept ∙ sym (ap work_of there)
            ∙ sym (ap (λ (n : ℕ). work_at devices n) here)
        by (inr other) = set_else devices place a later other

-- one has work anew, that no other has so much of
pub anew_apart : (left later : ℕ → ℕ) (place : ℕ) → later place ≡ 5 → ((a : ℕ) → (a ≡ place → ⊥) → later a ≡ left a) → AreApart 4 left → AreApart 5 later
anew_apart left later place anew others is = record {
  within = λ a. within a (cases_eq a place);
  apart = λ a b equal. apart a b equal (cases_eq a place) (cases_eq b place);
}
  where
    within : (a : ℕ) → (a ≡ place) ⊎ (a ≡ place → ⊥) → later a ≤ 5
    within a (inl here) = let most : later a ≡ 5 = ap later here ∙ anew in omega (arith, most)
    within a (inr other) = let few = is.within a in let same = others a other in omega (arith, few, same)

    -- one has work anew, and another has as much
    never : (a b : ℕ) → a ≡ place → (b ≡ place → ⊥) → later a ≡ later b → ⊥
    never a b here other equal =
        let most : later a ≡ 5 = ap later here ∙ anew in
        let few = is.within b in
        let same = others b other in
        absurd (let no : 5 ≤ 4 = omega (arith, most, few, same, equal) in omega (arith, no))

    apart : (a b : ℕ) → later a ≡ later b → (a ≡ place) ⊎ (a ≡ place → ⊥) → (b ≡ place) ⊎ (b ≡ place → ⊥) → (a ≡ b) ⊎ (later a ≡ 0)
    apart a b equal (inl here) (inl there) = inl (here ∙ sym there)
    apart a b equal (inl here) (inr other) = absurd (never a b here other equal)
    apart a b equal (inr other) (inl there) = absurd (never b a there other (sym equal))
    apart a b equal (inr other) (inr another) = by (is.apart a b (sym (others a other) ∙ equal ∙ others b another))
      where
        by : (a ≡ b) ⊎ (left a ≡ 0) → (a ≡ b) ⊎ (later a ≡ 0)
        by (inl one) = inl one
        by (inr none) = inr (others a other ∙ none)

-- so where it heard something
pub heard_apart : (devices : List State) (place : ℕ) (device later : State) → slice_get devices place ≡ Some device → (later.work_left ≡ device.work_left) ⊎ (later.work_left ≡ 5)
    → WorkApart 4 devices → WorkApart 5 (slice_set devices place later)
heard_apart devices place device later there (inl kept) is = more_apart (λ a. work_at (slice_set devices place later) a) (kept_apart 4 devices place device later there kept is)
heard_apart devices place device later there (inr anew) is =
    anew_apart (λ a. work_at devices a) (λ a. work_at (slice_set devices place later) a) place (set_here devices place device later there ∙ anew) (λ a other. set_else devices place a later other) is

-- ---- all tick

positive : (n : ℕ) → (n ≡ 0 → ⊥) → 1 ≤ n
positive zero some = absurd (some refl)
positive (suc n) some = omega arith

-- where both have some left after a tick, they had as much before it
as_before : (x y u v : ℕ) → u ≡ x - 1 → v ≡ y - 1 → u ≡ v → 1 ≤ u → x ≡ y
as_before x y u v e f equal some = omega (arith, e, f, equal, some)

-- each for a tick less
pub less_apart : (before later : ℕ → ℕ) → ((a : ℕ) → later a ≡ before a - 1) → AreApart 5 before → AreApart 4 later
less_apart before later less is = record {
  within = λ a. let few = is.within a in let e = less a in omega (arith, few, e);
  apart = λ a b equal. by a b equal (cases_eq (later a) 0);
}
  where
    by : (a b : ℕ) → later a ≡ later b → (later a ≡ 0) ⊎ (later a ≡ 0 → ⊥) → (a ≡ b) ⊎ (later a ≡ 0)
    by a b equal (inl none) = inr none
    by a b equal (inr some) = or_none (is.apart a b (as_before (before a) (before b) (later a) (later b) (less a) (less b) equal (positive (later a) some)))
      where
        or_none : (a ≡ b) ⊎ (before a ≡ 0) → (a ≡ b) ⊎ (later a ≡ 0)
        or_none (inl one) = inl one
        or_none (inr none) = inr (let e = less a in omega (arith, e, none))
