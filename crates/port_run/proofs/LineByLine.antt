-- Lines, one after another.
use Rattle.std.proofs.Common.{◌≡◌, ℕ, suc, ◌+◌, ◌≤◌, ◌<◌, List, [], ◌∷◌, ◌++◌, length, take, drop, get_or, take-append-drop, Result, Ok, Err, inl, inr, refl, ap, sym, ◌∙◌, subst, append-nil, arith}
use Rattle.std.specs.Prelude.{Option, OnOk, IfOk, IfErr}
use Rattle.std.proofs.lemmas.List.{take_more, drop_all}
use Rattle.std.proofs.Math.Seq.{drop-cons}
use Rattle.run_lines.specs.declared.reader.TheConstants.{MAX_INPUT}
use Rattle.port_run.specs.declared.asking.Answer.{Answer}
use Rattle.zw_text.specs.declared.line.Line.{Line}
use Rattle.port_run.specs.declared.line.PortLine.{PortLine}
use Rattle.port_run.specs.declared.line.PortLine.TheVariants.{Plain}
use Rattle.port_run.specs.declared.stop.Stop.{Stop}
use Rattle.port_run.specs.Steps.{Place, Step, Asks, Pumps}
use Rattle.port_run.specs.Schedule.{Telling, LineSteps, AllSteps, RunSteps, CutIn, CutPlain, CutLine, CutLines, CutRun}
use Rattle.port_run.specs.Serving.{Went, Broke}
use Rattle.port_run.proofs.StepLists.{went_nothing, went_both, broke_after, broke_as}
use Rattle.port_run.proofs.Joining.{WentStill, BrokeStill}
use Rattle.port_run.proofs.Turning.{lines-more, cut_lines}

abbrev pub LinesSoFar : Telling → List PortLine → List Answer → Place → Place → Option (List ℕ) → Option (List ℕ) → Option (List ℕ) → Option (List ℕ) → ℕ → Type 0
LinesSoFar Tells lines answers a b s t l m k = (steps : List Step) × AllSteps Tells lines answers steps × Went steps a b s t l m 0 k

pub no_line : (Tells : Telling) (answers : List Answer) (a : Place) (s l : Option (List ℕ)) → answers ≡ [] → LinesSoFar Tells [] answers a a s s l l 0
no_line Tells answers a s l none = ([], (none, refl), went_nothing a s l 0)

pub one_line : (Tells : Telling) (lines : List PortLine) (i : ℕ) (line : PortLine) (answers answers' : List Answer) (answer : Answer) (a b c : Place) (s t u l m o : Option (List ℕ)) (j k : ℕ) → i < length lines
    → line ≡ get_or lines i line → LinesSoFar Tells (take i lines) answers a b s t l m j → answers' ≡ answers ++ answer ∷ [] → ((steps : List Step) × LineSteps Tells line answer steps × Went steps b c t u m o j k)
    → LinesSoFar Tells (take (i + 1) lines) answers' a c s u l o k
one_line Tells lines i line answers answers' answer a b c s t u l m o j k within at (steps, all, went) are (later, own, more) =
    let whole : take (i + 1) lines ≡ take i lines ++ line ∷ [] = take_more lines i line within ∙ ap (λ (x : PortLine). take i lines ++ x ∷ []) (sym at) in (
      steps ++ later,
      subst (λ (x : List PortLine). AllSteps Tells x answers' (steps ++ later)) (sym whole)
          (subst (λ (x : List Answer). AllSteps Tells (take i lines ++ line ∷ []) x (steps ++ later)) (sym are) (lines-more Tells (take i lines) line answers answer steps later all own)),
      went_both steps later a b c s t u l m o 0 j k went more,
    )

pub lines_broke : (Tells : Telling) (lines : List PortLine) (i : ℕ) (line : PortLine) (answers : List Answer) (stop : Stop) (a b c : Place) (s t u l m o : Option (List ℕ)) (j : ℕ) → i < length lines
    → line ≡ get_or lines i line → LinesSoFar Tells (take i lines) answers a b s t l m j → Broke (CutLine Tells line) stop b c t u m o j → Broke (CutLines Tells lines) stop a c s u l o 0
lines_broke Tells lines i line answers stop a b c s t u l m o j within at (steps, all, went) broke =
    let whole : lines ≡ take i lines ++ line ∷ drop (suc i) lines =
    sym (take-append-drop i lines) ∙ ap (λ (x : List PortLine). take i lines ++ x) (drop-cons lines i line within) ∙ ap (λ (x : PortLine). take i lines ++ (x ∷ drop (suc i) lines)) (sym at) in
    broke_after (CutLine Tells line) (CutLines Tells lines) stop steps a b c s t u l m o 0 j went broke
    (λ later cut. cut_lines Tells lines (take i lines) (drop (suc i) lines) line answers stop steps later whole all cut)

pub lines_over : (Tells : Telling) (lines : List PortLine) (i : ℕ) (answers : List Answer) (a b : Place) (s t l m : Option (List ℕ)) (k : ℕ) → length lines ≤ i → k ≤ MAX_INPUT
    → LinesSoFar Tells (take i lines) answers a b s t l m k → (steps : List Step) × (taken : ℕ) × AllSteps Tells lines answers steps × Went steps a b s t l m 0 taken × (taken ≤ MAX_INPUT)
lines_over Tells lines i answers a b s t l m k over within (steps, all, went) =
    let whole : take i lines ≡ lines = sym (append-nil (take i lines)) ∙ ap (λ (x : List PortLine). take i lines ++ x) (sym (drop_all i lines over)) ∙ take-append-drop i lines in
    (steps, k, subst (λ (x : List PortLine). AllSteps Tells x answers steps) whole all, went, within)

-- a line but `wait`
module _ (Tells : Telling) (answer : Result Answer Stop) (line : PortLine) (own : Line) (is : line ≡ Plain own) (a b : Place) (s t l : Option (List ℕ)) (n : ℕ) where
  pub plain_ok : IfOk answer (λ taken. WentStill (Asks own taken ∷ Pumps ∷ []) a b s t) → IfOk answer (λ taken. (steps : List Step) × LineSteps Tells line taken steps × Went steps a b s t l l n n)
  plain_ok one = go answer one
    where
      go : (answer' : Result Answer Stop) → IfOk answer' (λ taken. WentStill (Asks own taken ∷ Pumps ∷ []) a b s t) → IfOk answer' (λ taken. (steps : List Step) × LineSteps Tells line taken steps × Went steps a b s t l l n n)
      go (Ok taken) one' = (Asks own taken ∷ Pumps ∷ [], subst (λ (p : PortLine). LineSteps Tells p taken (Asks own taken ∷ Pumps ∷ [])) (sym is) refl, one' l n)
      go (Err stop) one' = tt

  pub plain_err : n ≤ MAX_INPUT → IfErr answer (λ stop. BrokeStill (CutPlain own) stop a b s t) → IfErr answer (λ stop. Broke (CutLine Tells line) stop a b s t l l n)
  plain_err within one = go answer one
    where
      go : (answer' : Result Answer Stop) → IfErr answer' (λ stop. BrokeStill (CutPlain own) stop a b s t) → IfErr answer' (λ stop. Broke (CutLine Tells line) stop a b s t l l n)
      go (Ok value) one' = tt
      go (Err stop) one' = broke_as (CutPlain own) (CutLine Tells line) stop a b s t l l n (one' l n within) (λ steps cut. subst (λ (p : PortLine). CutLine Tells p stop steps) (sym is) cut)

-- ---- a run

module _ (Tells : Telling) (lines : List PortLine) (answers : List Answer) (a b c : Place) (s t u l m : Option (List ℕ)) where
  pub run_ok : {T E : Type 0} (answer : Result T E) → WentStill (Pumps ∷ []) a b s t
      → OnOk answer ((steps : List Step) × (taken : ℕ) × AllSteps Tells lines answers steps × Went steps b c t u l m 0 taken × (taken ≤ MAX_INPUT))
      → OnOk answer ((steps : List Step) × (taken : ℕ) × RunSteps Tells lines answers steps × Went steps a c s u l m 0 taken × (taken ≤ MAX_INPUT))
  run_ok (Ok value) one (steps, taken, all, went, within) =
      (Pumps ∷ steps, taken, (steps, all, refl), went_both (Pumps ∷ []) steps a b c s t u l l m 0 0 taken (one l 0) went, within)
  run_ok (Err fault) one more = tt

  pub run_err : {T : Type 0} (answer : Result T Stop) → WentStill (Pumps ∷ []) a b s t → IfErr answer (λ stop. Broke (CutLines Tells lines) stop b c t u l m 0)
      → IfErr answer (λ stop. Broke (CutRun Tells lines) stop a c s u l m 0)
  run_err (Ok value) one broke = tt
  run_err (Err stop) one broke =
      broke_after (CutLines Tells lines) (CutRun Tells lines) stop (Pumps ∷ []) a b c s t u l l m 0 0 (one l 0) broke (λ later cut. inr (later, refl, cut))

pub start_broke : (Tells : Telling) (lines : List PortLine) (stop : Stop) (a b : Place) (s t l : Option (List ℕ)) → BrokeStill (CutIn (Pumps ∷ [])) stop a b s t → Broke (CutRun Tells lines) stop a b s t l l 0
start_broke Tells lines stop a b s t l one = broke_as (CutIn (Pumps ∷ [])) (CutRun Tells lines) stop a b s t l l 0 (one l 0 (omega arith)) (λ steps cut. inl cut)
