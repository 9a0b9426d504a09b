-- Calls one after another, as they answer.
use Rattle.std.proofs.Common.{ℕ, ◌≤◌, List, ◌++◌, Result, Ok, Err, ap, sym, ◌∙◌, append_assoc}
use Rattle.std.specs.Prelude.{Option, OnOk, IfErr}
use Rattle.run_lines.specs.declared.reader.TheConstants.{MAX_INPUT}
use Rattle.port_run.specs.declared.stop.Stop.{Stop}
use Rattle.port_run.specs.Steps.{Place, Step}
use Rattle.port_run.specs.Schedule.{CutIn}
use Rattle.port_run.specs.Serving.{Went, Broke}
use Rattle.port_run.proofs.StepLists.{went_both, broke_after, broke_as}

-- steps that read nothing were done, whatever was read before; or they broke off
abbrev pub WentStill : List Step → Place → Place → Option (List ℕ) → Option (List ℕ) → Type 0
WentStill steps a b s t = (l : Option (List ℕ)) (n : ℕ) → Went steps a b s t l l n n

abbrev pub BrokeStill : (Stop → List Step → Type 0) → Stop → Place → Place → Option (List ℕ) → Option (List ℕ) → Type 0
BrokeStill Cut stop a b s t = (l : Option (List ℕ)) (n : ℕ) → n ≤ MAX_INPUT → Broke Cut stop a b s t l l n

module _ {T : Type 0} (answer : Result T Stop) (first later : List Step) (Cut Whole : Stop → List Step → Type 0) (a b c : Place) (s t u : Option (List ℕ)) where
  pub still_ok : WentStill first a b s t → OnOk answer (WentStill later b c t u) → OnOk answer (WentStill (first ++ later) a c s u)
  still_ok one two = go answer two
    where
      go : (answer' : Result T Stop) → OnOk answer' (WentStill later b c t u) → OnOk answer' (WentStill (first ++ later) a c s u)
      go (Ok value) two' = λ l n. went_both first later a b c s t u l l l n n n (one l n) (two' l n)
      go (Err fault) two' = tt

  pub still_err : WentStill first a b s t → ((stop : Stop) (steps : List Step) → Cut stop steps → Whole stop (first ++ steps)) → IfErr answer (λ stop. BrokeStill Cut stop b c t u)
      → IfErr answer (λ stop. BrokeStill Whole stop a c s u)
  still_err one so two = go answer two
    where
      go : (answer' : Result T Stop) → IfErr answer' (λ stop. BrokeStill Cut stop b c t u) → IfErr answer' (λ stop. BrokeStill Whole stop a c s u)
      go (Ok value) two' = tt
      go (Err stop) two' = λ l n within. broke_after Cut Whole stop first a b c s t u l l l n n (one l n) (two' l n within) (so stop)

pub broke_still : (Cut Whole : Stop → List Step → Type 0) (stop : Stop) (a b : Place) (s t : Option (List ℕ)) → ((steps : List Step) → Cut stop steps → Whole stop steps) → BrokeStill Cut stop a b s t
    → BrokeStill Whole stop a b s t
broke_still Cut Whole stop a b s t so one = λ l n within. broke_as Cut Whole stop a b s t l l n (one l n within) so

-- a prefix of a prefix
pub cut-prefix : (whole after : List Step) (stop : Stop) (steps : List Step) → CutIn whole stop steps → CutIn (whole ++ after) stop steps
cut-prefix whole after stop steps (late, (rest, are)) = (late, (rest ++ after, ap (λ (l : List Step). l ++ after) are ∙ append_assoc steps rest after))

-- what comes after
pub cut-following : (before whole : List Step) (stop : Stop) (steps : List Step) → CutIn whole stop steps → CutIn (before ++ whole) stop (before ++ steps)
cut-following before whole stop steps (late, (rest, are)) = (late, (rest, ap (λ (l : List Step). before ++ l) are ∙ sym (append_assoc before steps rest)))

pub still_both : (first later : List Step) (a b c : Place) (s t u : Option (List ℕ)) → WentStill first a b s t → WentStill later b c t u → WentStill (first ++ later) a c s u
still_both first later a b c s t u one two = λ l n. went_both first later a b c s t u l l l n n n (one l n) (two l n)

pub still_broke : (first : List Step) (Cut Whole : Stop → List Step → Type 0) (stop : Stop) (a b c : Place) (s t u : Option (List ℕ)) → WentStill first a b s t → BrokeStill Cut stop b c t u
    → ((steps : List Step) → Cut stop steps → Whole stop (first ++ steps)) → BrokeStill Whole stop a c s u
still_broke first Cut Whole stop a b c s t u one two so = λ l n within. broke_after Cut Whole stop first a b c s t u l l l n n (one l n) (two l n within) so
