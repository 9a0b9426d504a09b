-- The steps of lines of `host` are orderly: each but a read without bytes is followed by a pump, but for the last where they were cut short.
use Rattle.std.proofs.Common.{◌≡◌, ℕ, zero, suc, Bool, true, false, inl, inr, List, [], ◌∷◌, ◌++◌, refl, sym, subst, append_assoc, append-nil}
use Rattle.std.specs.List.{AllByRecursion}
use Rattle.zw_base.proofs.Each.{all-left, all-right}
use Rattle.port_run.specs.Steps.{Step, Asks, Takes, Rests, Ticks, Pumps}
use Rattle.port_run.specs.Schedule.{AllSteps, CutIn, CutLine, CutLines, CutPiece, CutRun, CutSteps, CutTaking, CutTurn, LineSteps, RunSteps, Telling, Turn, Waited, piece_steps, steps_of, tick_steps, turn_steps}
use Rattle.port_run.specs.declared.asking.Answer.{Answer}
use Rattle.port_run.specs.declared.line.PortLine.{PortLine}
use Rattle.port_run.specs.declared.line.PortLine.TheVariants.{Plain, Wait}
use Rattle.port_run.specs.declared.stop.Stop.{Stop}
use Rattle.port_run.specs.declared.stop.Stop.TheVariants.{ReadFault, WriteFault, InputTooLong, NoMemory}
use Rattle.proof_replay.specs.HostSteps.{AreOrderly, IsRunSteps, IsServedLine}

-- ---- first steps

first_orderly : (first rest : List Step) → AreOrderly false (first ++ rest) → AreOrderly false first
first_orderly [] rest orderly = tt
first_orderly (Rests ∷ first) rest orderly = first_orderly first rest orderly
first_orderly (Asks line answer ∷ []) rest orderly = refl
first_orderly (Takes bytes ∷ []) rest orderly = refl
first_orderly (Ticks ∷ []) rest orderly = refl
first_orderly (Pumps ∷ []) rest orderly = refl
first_orderly (Asks line answer ∷ Pumps ∷ first) rest orderly = (orderly.0, first_orderly first rest orderly.1)
first_orderly (Takes bytes ∷ Pumps ∷ first) rest orderly = (orderly.0, first_orderly first rest orderly.1)
first_orderly (Ticks ∷ Pumps ∷ first) rest orderly = (orderly.0, first_orderly first rest orderly.1)
first_orderly (Pumps ∷ Pumps ∷ first) rest orderly = absurd orderly.0
first_orderly (one ∷ other ∷ first) rest orderly = absurd orderly

cut_in : (whole : List Step) (stop : Stop) (steps : List Step) → AreOrderly false whole → CutIn whole stop steps → AreOrderly false steps
cut_in whole stop steps orderly (late, (rest, are)) = first_orderly steps rest (subst (AreOrderly false) are orderly)

-- ---- what others follow in order

module _ (whole : Bool) where
  -- before orderly steps they are orderly
  abbrev Leads : List Step → Type 0
  Leads steps = (more : List Step) → AreOrderly whole more → AreOrderly whole (steps ++ more)

  both_lead : (a b : List Step) → Leads a → Leads b → Leads (a ++ b)
  both_lead a b first later more orderly = subst (AreOrderly whole) (sym (append_assoc a b more)) (first (b ++ more) (later more orderly))

  are_orderly : (steps : List Step) → Leads steps → AreOrderly whole steps
  are_orderly steps leads = subst (AreOrderly whole) (append-nil steps) (leads [] tt)

  ticks_lead : (ticks : ℕ) → Leads (tick_steps ticks)
  ticks_lead zero more orderly = orderly
  ticks_lead (suc ticks) more orderly = (tt, ticks_lead ticks more orderly)

  piece_leads : (bytes : List ℕ) → Leads (piece_steps bytes)
  piece_leads [] more orderly = orderly
  piece_leads (byte ∷ bytes) more orderly = (tt, orderly)

  turns_lead : (turns : List Turn) → Leads (steps_of turns)
  turns_lead [] more orderly = orderly
  turns_lead (turn ∷ turns) more orderly =
      both_lead (turn_steps turn) (steps_of turns) (both_lead (piece_steps turn.piece) (tick_steps turn.ticks) (piece_leads turn.piece) (ticks_lead turn.ticks)) (turns_lead turns) more orderly

  waited_leads : (Tells : Telling) (left left' : ℕ) (steps : List Step) → Waited Tells left left' steps → Leads steps
  waited_leads Tells left left' steps waited = subst Leads (sym waited.steps_are) (turns_lead waited.turns)

  line_leads : (Tells : Telling) (line : PortLine) (answer : Answer) (steps : List Step) → IsServedLine line → LineSteps Tells line answer steps → Leads steps
  line_leads Tells (Plain line) answer steps served are = subst Leads (sym are) (λ more orderly. (served, orderly))
  line_leads Tells (Wait ticks) answer steps served are = waited_leads Tells ticks 0 steps are.1

  lines_lead : (Tells : Telling) (lines : List PortLine) (answers : List Answer) (steps : List Step) → AllByRecursion IsServedLine lines → AllSteps Tells lines answers steps → Leads steps
  lines_lead Tells [] answers steps served are = subst Leads (sym are.1) (λ more orderly. orderly)
  lines_lead Tells (line ∷ lines) answers steps served (answer, others, first, later, one, more, answers_are, steps_are) =
      subst Leads (sym steps_are) (both_lead first later (line_leads Tells line answer first served.0 one) (lines_lead Tells lines others later served.1 more))

-- ---- all of a run

pub run_orderly : (Tells : Telling) (lines : List PortLine) (answers : List Answer) (steps : List Step) → AllByRecursion IsServedLine lines → RunSteps Tells lines answers steps → IsRunSteps true steps
run_orderly Tells lines answers steps served (more, all, are) =
    subst (IsRunSteps true) (sym are) (are_orderly true more (lines_lead true Tells lines answers more served all))

-- ---- a run that was cut short

taking_cut : (bytes : List ℕ) (stop : Stop) (steps : List Step) → CutTaking bytes stop steps → AreOrderly false steps
taking_cut bytes ReadFault steps cut = absurd cut
taking_cut bytes InputTooLong steps cut = absurd cut
taking_cut bytes WriteFault steps cut = subst (AreOrderly false) (sym cut) refl
taking_cut bytes NoMemory steps (prefix, rest, parts, are) = subst (AreOrderly false) (sym are) refl

piece_cut : (bytes : List ℕ) (stop : Stop) (steps : List Step) → CutPiece bytes stop steps → AreOrderly false steps
piece_cut bytes stop steps (inl cut) = cut_in (Takes bytes ∷ Pumps ∷ []) stop steps (tt, tt) cut
piece_cut bytes stop steps (inr cut) = taking_cut bytes stop steps cut

steps_cut : (turn : Turn) (stop : Stop) (steps : List Step) → CutSteps turn stop steps → AreOrderly false steps
steps_cut turn stop steps (inl (some, cut)) = piece_cut turn.piece stop steps cut
steps_cut turn stop steps (inr (ticks, are, cut)) =
    subst (AreOrderly false) (sym are)
    (piece_leads false turn.piece ticks (cut_in (tick_steps turn.ticks) stop ticks (are_orderly false (tick_steps turn.ticks) (ticks_lead false turn.ticks)) cut))

turn_cut : (Tells : Telling) (left : ℕ) (stop : Stop) (steps : List Step) → CutTurn Tells left stop steps → AreOrderly false steps
turn_cut Tells left ReadFault steps cut = subst (AreOrderly false) (sym cut) tt
turn_cut Tells left InputTooLong steps cut = subst (AreOrderly false) (sym cut) tt
turn_cut Tells left WriteFault steps (turn, is, cut) = steps_cut turn WriteFault steps cut
turn_cut Tells left NoMemory steps (turn, is, cut) = steps_cut turn NoMemory steps cut

line_cut : (Tells : Telling) (line : PortLine) (stop : Stop) (steps : List Step) → IsServedLine line → CutLine Tells line stop steps → AreOrderly false steps
line_cut Tells (Plain line) stop steps served (answer, cut) = cut_in (Asks line answer ∷ Pumps ∷ []) stop steps (served, tt) cut
line_cut Tells (Wait ticks) stop steps served cut =
    subst (AreOrderly false) (sym cut.parts) (waited_leads false Tells ticks cut.left cut.first cut.waited cut.last (turn_cut Tells cut.left stop cut.last cut.cut))

lines_cut : (Tells : Telling) (lines : List PortLine) (stop : Stop) (steps : List Step) → AllByRecursion IsServedLine lines → CutLines Tells lines stop steps → AreOrderly false steps
lines_cut Tells lines stop steps served cut =
    let all = subst (AllByRecursion IsServedLine) cut.lines_are served in
    let later = all-right IsServedLine cut.done (cut.line ∷ cut.later) all in
    subst (AreOrderly false) (sym cut.parts)
    (lines_lead false Tells cut.done cut.answers cut.first (all-left IsServedLine cut.done (cut.line ∷ cut.later) all) cut.before cut.last
    (line_cut Tells cut.line stop cut.last later.0 cut.cut))

pump_cut : (steps rest : List Step) → Pumps ∷ [] ≡ steps ++ rest → IsRunSteps false steps
pump_cut [] rest are = refl
pump_cut (Pumps ∷ []) rest are = tt
pump_cut (Pumps ∷ one ∷ steps) rest are = absurd cc
pump_cut (Asks line answer ∷ steps) rest are = absurd cc
pump_cut (Takes bytes ∷ steps) rest are = absurd cc
pump_cut (Rests ∷ steps) rest are = absurd cc
pump_cut (Ticks ∷ steps) rest are = absurd cc

pub cut_orderly : (Tells : Telling) (lines : List PortLine) (stop : Stop) (steps : List Step) → AllByRecursion IsServedLine lines → CutRun Tells lines stop steps → IsRunSteps false steps
cut_orderly Tells lines stop steps served (inl (late, (rest, are))) = pump_cut steps rest are
cut_orderly Tells lines stop steps served (inr (more, are, cut)) = subst (IsRunSteps false) (sym are) (lines_cut Tells lines stop more served cut)
