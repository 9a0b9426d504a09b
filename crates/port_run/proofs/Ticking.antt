-- Ticks that are each followed by a pump.
use Rattle.std.proofs.Common.{◌≡◌, ℕ, zero, suc, ◌+◌, ◌-◌, ◌<◌, List, [], ◌∷◌, ◌++◌, refl, ap, sym, ◌∙◌, subst, append_assoc, arith}
use Rattle.port_run.specs.declared.stop.Stop.{Stop}
use Rattle.port_run.specs.Steps.{Step, Ticks, Pumps}
use Rattle.std.specs.Prelude.{Option}
use Rattle.port_run.specs.Steps.{Place}
use Rattle.port_run.specs.Schedule.{tick_steps, IsFirst, CutIn}
use Rattle.port_run.specs.Serving.{Went}
use Rattle.port_run.proofs.StepLists.{went_both, broke_after}
use Rattle.port_run.proofs.Joining.{WentStill, BrokeStill}

pub ticks-add : (i k n : ℕ) → i + k ≡ n → tick_steps n ≡ tick_steps i ++ tick_steps k
ticks-add zero k n same = ap tick_steps (omega (arith, same))
ticks-add (suc i) k zero same = absurd (omega (arith, same))
ticks-add (suc i) k (suc n) same = ap (λ (l : List Step). Ticks ∷ Pumps ∷ l) (ticks-add i k n (omega (arith, same)))

-- steps are the first of a whole that has them in its middle
pub first-in : (before steps whole after all : List Step) → IsFirst steps whole → all ≡ before ++ (whole ++ after) → IsFirst (before ++ steps) all
first-in before steps whole after all (rest, are) parts =
    (rest ++ after, parts ∙ ap (λ (l : List Step). before ++ (l ++ after)) are ∙ ap (λ (l : List Step). before ++ l) (append_assoc steps rest after) ∙ sym (append_assoc before steps (rest ++ after)))

pub cut-in : (before whole after all steps : List Step) (stop : Stop) → CutIn whole stop steps → all ≡ before ++ (whole ++ after) → CutIn all stop (before ++ steps)
cut-in before whole after all steps stop (late, first) parts = (late, first-in before steps whole after all first parts)

ticks-split : (i n : ℕ) → i < n → tick_steps n ≡ tick_steps i ++ (Ticks ∷ Pumps ∷ tick_steps (n - i - 1))
ticks-split i n within =
    let whole : i + suc (n - i - 1) ≡ n = omega (arith, within) in
    ticks-add i (suc (n - i - 1)) n whole

-- so many ticks, and one more
pub ticks_went : (i : ℕ) (a b c : Place) (s t u : Option (List ℕ)) → WentStill (tick_steps i) a b s t → WentStill (Ticks ∷ Pumps ∷ []) b c t u → WentStill (tick_steps (i + 1)) a c s u
ticks_went i a b c s t u one two = λ l n.
    subst (λ (st : List Step). Went st a c s u l l n n) (sym (ticks-add i 1 (i + 1) refl)) (went_both (tick_steps i) (Ticks ∷ Pumps ∷ []) a b c s t u l l l n n n (one l n) (two l n))

pub ticks_broke : (i n : ℕ) (stop : Stop) (a b c : Place) (s t u : Option (List ℕ)) → i < n → WentStill (tick_steps i) a b s t → BrokeStill (CutIn (Ticks ∷ Pumps ∷ [])) stop b c t u
    → BrokeStill (CutIn (tick_steps n)) stop a c s u
ticks_broke i n stop a b c s t u within one two = λ l m short.
    broke_after (CutIn (Ticks ∷ Pumps ∷ [])) (CutIn (tick_steps n)) stop (tick_steps i) a b c s t u l l l m m (one l m) (two l m short)
    (λ later cut. cut-in (tick_steps i) (Ticks ∷ Pumps ∷ []) (tick_steps (n - i - 1)) (tick_steps n) later stop cut (ticks-split i n within))

pub ticks_all : (i n : ℕ) (a b : Place) (s t : Option (List ℕ)) → i ≡ n → WentStill (tick_steps i) a b s t → WentStill (tick_steps n) a b s t
ticks_all i n a b s t same one = subst (λ (k : ℕ). WentStill (tick_steps k) a b s t) same one
