-- The first of events outside the host, and what kinds of calls are made of.
use Rattle.std.proofs.Common.{◌≡◌, ℕ, zero, suc, ◌+◌, List, [], ◌∷◌, ◌++◌, map, refl, ap, sym, subst}
use Rattle.std.specs.List.{AllByRecursion}
use Rattle.proof_device.specs.outside_model.Events.{OuterEvent, Gives}
use Rattle.proof_device.specs.outside_model.Schedules.{Arrivals, Givings, DeviceTicks}
use Rattle.proof_device.specs.world_model.Events.{Event, Outside_does}
use Rattle.proof_traffic.proofs.Outside.{IsFree}

-- the first of events outside the host are such, and others follow
pub record Parts (events : List Event) (all : List OuterEvent) : Type 0 where
  pub inner : List OuterEvent
  pub later : List OuterEvent
  pub all_are : all ≡ inner ++ later
  pub are : events ≡ map Outside_does inner

pub outside_parts : (events rest : List Event) (all : List OuterEvent) → events ++ rest ≡ map Outside_does all → Parts events all
outside_parts [] rest all are = record { inner = []; later = all; all_are = refl; are = refl }
outside_parts (event ∷ events) rest [] are = absurd cc
outside_parts (event ∷ events) rest (one ∷ all) are =
    let parts : Parts events all = outside_parts events rest all cc in
    let same : event ≡ Outside_does one = cc in
    record {
      inner = one ∷ parts.inner;
      later = parts.later;
      all_are = ap (λ (l : List OuterEvent). one ∷ l) parts.all_are;
      are = subst (λ (e : Event). e ∷ events ≡ Outside_does one ∷ map Outside_does parts.inner) (sym same) (ap (λ (l : List Event). Outside_does one ∷ l) parts.are);
    }

pub all_first : (P : OuterEvent → Type 0) (a b : List OuterEvent) → AllByRecursion P (a ++ b) → AllByRecursion P a
all_first P [] b all = tt
all_first P (event ∷ a) b all = (all.0, all_first P a b all.1)

-- ---- calls

pub arrivals_free : (count : ℕ) (all : List OuterEvent) → Arrivals count all → AllByRecursion IsFree all
arrivals_free zero all is = subst (λ (l : List OuterEvent). AllByRecursion IsFree l) (sym is) tt
arrivals_free (suc count) all (drawn, route, rest, are, more) = subst (λ (l : List OuterEvent). AllByRecursion IsFree l) (sym are) (tt, arrivals_free count rest more)

pub device_ticks_free : (place count : ℕ) (all : List OuterEvent) → DeviceTicks place count all → AllByRecursion IsFree all
device_ticks_free place zero all is = subst (λ (l : List OuterEvent). AllByRecursion IsFree l) (sym is) tt
device_ticks_free place (suc count) all (drawn, route, rest, are, more) = subst (λ (l : List OuterEvent). AllByRecursion IsFree l) (sym are) (tt, device_ticks_free (place + 1) count rest more)

-- a result is given
abbrev pub IsGiving : OuterEvent → Type 0
IsGiving (Gives route) = Unit {0}
IsGiving event = ⊥

pub givings_give : (count : ℕ) (all : List OuterEvent) → Givings count all → AllByRecursion IsGiving all
givings_give zero all is = subst (λ (l : List OuterEvent). AllByRecursion IsGiving l) (sym is) tt
givings_give (suc count) all (route, rest, are, more) = subst (λ (l : List OuterEvent). AllByRecursion IsGiving l) (sym are) (tt, givings_give count rest more)
