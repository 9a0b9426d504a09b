-- Turns of a wait, and lines, one after another.
use Rattle.std.proofs.Common.{◌≡◌, ℕ, ◌-◌, ◌<◌, List, [], ◌∷◌, ◌++◌, refl, ap, sym, ◌∙◌, subst, append_assoc, append-nil}
use Rattle.std.proofs.lemmas.Grind.{flat_map-append}
use Rattle.port_run.specs.declared.asking.Answer.{Answer}
use Rattle.port_run.specs.declared.line.PortLine.{PortLine}
use Rattle.port_run.specs.declared.stop.Stop.{Stop}
use Rattle.port_run.specs.Steps.{Step}
use Rattle.port_run.specs.Schedule.{Telling, Turn, IsTurn, turn_steps, Turns, steps_of, Waited, CutTurn, CutWait, LineSteps, AllSteps, CutLine, CutLines}

turns-more : (Tells : Telling) (from mid : ℕ) (turns : List Turn) (turn : Turn) → Turns Tells from turns mid → 0 < mid → IsTurn Tells mid turn → Turns Tells from (turns ++ turn ∷ []) (mid - turn.ticks)
turns-more Tells from mid [] turn same some is =
    subst (λ (m : ℕ). Turns Tells m (turn ∷ []) (mid - turn.ticks)) same (some, is, refl)
turns-more Tells from mid (one ∷ turns) turn (first, is_one, more) some is = (first, is_one, turns-more Tells (from - one.ticks) mid turns turn more some is)

pub waited_nothing : (Tells : Telling) (from : ℕ) → Waited Tells from from []
waited_nothing Tells from = record { turns = []; are = refl; steps_are = refl }

pub waited_more : (Tells : Telling) (from mid : ℕ) (steps : List Step) (turn : Turn) (to : ℕ) → Waited Tells from mid steps → 0 < mid → IsTurn Tells mid turn → to ≡ mid - turn.ticks
    → Waited Tells from to (steps ++ turn_steps turn)
waited_more Tells from mid steps turn to so_far some is left = record {
  turns = so_far.turns ++ turn ∷ [];
  are = subst (λ (t : ℕ). Turns Tells from (so_far.turns ++ turn ∷ []) t) (sym left) (turns-more Tells from mid so_far.turns turn so_far.are some is);
  steps_are = ap (λ (l : List Step). l ++ turn_steps turn) so_far.steps_are
      ∙ ap (λ (l : List Step). steps_of so_far.turns ++ l) (sym (append-nil (turn_steps turn)))
      ∙ sym (flat_map-append turn_steps so_far.turns (turn ∷ []));
}

pub cut_wait : (Tells : Telling) (ticks left : ℕ) (stop : Stop) (first last : List Step) → Waited Tells ticks left first → 0 < left → CutTurn Tells left stop last → CutWait Tells ticks stop (first ++ last)
cut_wait Tells ticks left stop first last so_far some cut =
    record { left = left; first = first; last = last; parts = refl; waited = so_far; more = some; cut = cut }

pub lines-more : (Tells : Telling) (lines : List PortLine) (line : PortLine) (answers : List Answer) (answer : Answer) (first later : List Step) → AllSteps Tells lines answers first → LineSteps Tells line answer later
    → AllSteps Tells (lines ++ line ∷ []) (answers ++ answer ∷ []) (first ++ later)
lines-more Tells [] line answers answer first later (none, nothing) steps =
    (answer, [], later, [], steps, (refl, refl), ap (λ (l : List Answer). l ++ answer ∷ []) none, ap (λ (l : List Step). l ++ later) nothing ∙ sym (append-nil later))
lines-more Tells (one ∷ lines) line answers answer first later (own, more, a, b, steps_one, all, answers_are, steps_are) steps = (
  own,
  more ++ answer ∷ [],
  a,
  b ++ later,
  steps_one,
  lines-more Tells lines line more answer b later all steps,
  ap (λ (l : List Answer). l ++ answer ∷ []) answers_are,
  ap (λ (l : List Step). l ++ later) steps_are ∙ append_assoc a b later,
)

pub cut_lines : (Tells : Telling) (lines done later : List PortLine) (line : PortLine) (answers : List Answer) (stop : Stop) (first last : List Step) → lines ≡ done ++ line ∷ later → AllSteps Tells done answers first
    → CutLine Tells line stop last → CutLines Tells lines stop (first ++ last)
cut_lines Tells lines done later line answers stop first last are before cut =
    record { done = done; line = line; later = later; lines_are = are; answers = answers; first = first; last = last; parts = refl; before = before; cut = cut }
