-- With a clock that takes a quiet moment for a tick, each tick comes right after a read of no bytes.
use Rattle.std.proofs.Common.{◌≡◌, ℕ, zero, suc, ◌-◌, ◌≤◌, inl, inr, Bool, true, false, List, [], ◌∷◌, ◌++◌, length, refl, ap, sym, ◌∙◌, subst, append_assoc, arith}
use Rattle.std.specs.Prelude.{Option, Some, None}
use Rattle.std.proofs.lemmas.Bool.Decides.{nat_tests}
use Rattle.s0_crypto.specs.declared.key_pair.Keys.{Keys}
use Rattle.port_run.specs.declared.asking.Answer.{Answer}
use Rattle.port_run.specs.declared.ending.Served.{Served}
use Rattle.port_run.specs.declared.line.PortLine.{PortLine}
use Rattle.port_run.specs.declared.line.PortLine.TheVariants.{Plain, Wait}
use Rattle.port_run.specs.declared.stop.Stop.{Stop}
use Rattle.port_run.specs.declared.stop.Stop.TheVariants.{ReadFault, WriteFault, InputTooLong, NoMemory}
use Rattle.port_run.specs.Steps.{Step, Asks, Takes, Rests, Ticks, Pumps}
use Rattle.port_run.specs.Schedule.{Turn, IsTurn, is_quiet, quiet_ticks, due, piece_steps, tick_steps, turn_steps, Turns, steps_of, Waited, LineSteps, AllSteps, RunSteps, CutIn, CutTaking, CutRead, CutSteps, CutTurn, CutWait, CutLine, CutLines, CutRun}
use Rattle.port_run.specs.Serving.{bytes_of, Reads}
use Rattle.port_run.specs.Ending.{Desk, RanAll, RanSome}
use Rattle.port_run.specs.Quiet.{TicksComeLast}

-- each tick comes right after a read of no bytes; a first one may, where such a read was just before
abbrev Follow : Bool → List Step → Type 0
Follow rested [] = Unit {0}
Follow rested (Ticks ∷ steps) = (rested ≡ true) × Follow false steps
Follow rested (Rests ∷ steps) = Follow true steps
Follow rested (Asks line answer ∷ steps) = Follow false steps
Follow rested (Takes bytes ∷ steps) = Follow false steps
Follow rested (Pumps ∷ steps) = Follow false steps

follow_weaker : (rested : Bool) (steps : List Step) → Follow false steps → Follow rested steps
follow_weaker rested [] follow = tt
follow_weaker rested (Ticks ∷ steps) follow = absurd (cc follow.0)
follow_weaker rested (Rests ∷ steps) follow = follow
follow_weaker rested (Asks line answer ∷ steps) follow = follow
follow_weaker rested (Takes bytes ∷ steps) follow = follow
follow_weaker rested (Pumps ∷ steps) follow = follow

follow_both : (rested : Bool) (first later : List Step) → Follow rested first → Follow false later → Follow rested (first ++ later)
follow_both rested [] later one two = follow_weaker rested later two
follow_both rested (Ticks ∷ first) later one two = (one.0, follow_both false first later one.1 two)
follow_both rested (Rests ∷ first) later one two = follow_both true first later one two
follow_both rested (Asks line answer ∷ first) later one two = follow_both false first later one two
follow_both rested (Takes bytes ∷ first) later one two = follow_both false first later one two
follow_both rested (Pumps ∷ first) later one two = follow_both false first later one two

follow_first : (rested : Bool) (first later : List Step) → Follow rested (first ++ later) → Follow rested first
follow_first rested [] later both = tt
follow_first rested (Ticks ∷ first) later both = (both.0, follow_first false first later both.1)
follow_first rested (Rests ∷ first) later both = follow_first true first later both
follow_first rested (Asks line answer ∷ first) later both = follow_first false first later both
follow_first rested (Takes bytes ∷ first) later both = follow_first false first later both
follow_first rested (Pumps ∷ first) later both = follow_first false first later both

follow_in : (whole : List Step) (stop : Stop) (steps : List Step) → Follow false whole → CutIn whole stop steps → Follow false steps
follow_in whole stop steps follow (late, (rest, are)) = follow_first false steps rest (subst (λ (l : List Step). Follow false l) are follow)

follow_after : (before whole : List Step) (stop : Stop) (steps : List Step) → Follow false (before ++ whole) → CutIn whole stop steps → Follow false (before ++ steps)
follow_after before whole stop steps follow (late, (rest, are)) =
    follow_first false (before ++ steps) rest (subst (λ (l : List Step). Follow false l) (ap (λ (l : List Step). before ++ l) are ∙ sym (append_assoc before steps rest)) follow)

-- ---- turns

quiet_some : (n : ℕ) → quiet_ticks (suc n) ≡ 0
quiet_some n = grind (arith, nat_tests)

due_some : (n left : ℕ) → due (suc n) 0 left ≡ 0
due_some n left = grind (arith, nat_tests)

-- no bytes are one tick at most, and bytes are none
ticks_follow : (ticks : ℕ) → ticks ≤ 1 → Follow true (tick_steps ticks)
ticks_follow zero few = tt
ticks_follow (suc zero) few = (refl, tt)
ticks_follow (suc (suc more)) few = absurd (omega (arith, few))

turn_follows : (left : ℕ) (piece : List ℕ) (ticks : ℕ) → IsTurn is_quiet left (record { piece = piece; ticks = ticks }) → Follow false (turn_steps (record { piece = piece; ticks = ticks }))
turn_follows left [] ticks turn =
    let told : turn.passed ≡ 1 = turn.told in
    let few : ticks ≤ 1 = omega (arith, subst (λ (p : ℕ). ticks ≡ due 0 p left) told turn.ticks_are) in
    ticks_follow ticks few
turn_follows left (byte ∷ bytes) ticks turn =
    let told : turn.passed ≡ 0 = turn.told ∙ quiet_some (length bytes) in
    let none : ticks ≡ 0 = subst (λ (p : ℕ). ticks ≡ due (suc (length bytes)) p left) told turn.ticks_are ∙ due_some (length bytes) left in
    subst (λ (t : ℕ). Follow false (Takes (byte ∷ bytes) ∷ Pumps ∷ tick_steps t)) (sym none) tt

turns_follow : (left : ℕ) (turns : List Turn) (left' : ℕ) → Turns is_quiet left turns left' → Follow false (steps_of turns)
turns_follow left [] left' are = tt
turns_follow left (turn ∷ turns) left' (some, is, more) =
    follow_both false (turn_steps turn) (steps_of turns) (turn_follows left turn.piece turn.ticks is) (turns_follow (left - turn.ticks) turns left' more)

waited_follows : (left left' : ℕ) (steps : List Step) → Waited is_quiet left left' steps → Follow false steps
waited_follows left left' steps waited = subst (λ (l : List Step). Follow false l) (sym waited.steps_are) (turns_follow left waited.turns left' waited.are)

-- ---- lines

line_follows : (line : PortLine) (answer : Answer) (steps : List Step) → LineSteps is_quiet line answer steps → Follow false steps
line_follows (Plain line) answer steps are = subst (λ (l : List Step). Follow false l) (sym are) tt
line_follows (Wait ticks) answer steps are = waited_follows ticks 0 steps are.1

lines_follow : (lines : List PortLine) (answers : List Answer) (steps : List Step) → AllSteps is_quiet lines answers steps → Follow false steps
lines_follow [] answers steps are = subst (λ (l : List Step). Follow false l) (sym are.1) tt
lines_follow (line ∷ lines) answers steps (answer, more, first, later, one, all, answers_are, steps_are) =
    subst (λ (l : List Step). Follow false l) (sym steps_are) (follow_both false first later (line_follows line answer first one) (lines_follow lines more later all))

run_follows : (lines : List PortLine) (answers : List Answer) (steps : List Step) → RunSteps is_quiet lines answers steps → Follow false steps
run_follows lines answers steps (more, all, are) = subst (λ (l : List Step). Follow false l) (sym are) (lines_follow lines answers more all)

-- ---- where no further step is done

taking_follows : (bytes : List ℕ) (stop : Stop) (steps : List Step) → CutTaking bytes stop steps → Follow false steps
taking_follows bytes ReadFault steps cut = absurd cut
taking_follows bytes InputTooLong steps cut = absurd cut
taking_follows bytes WriteFault steps cut = subst (λ (l : List Step). Follow false l) (sym cut) tt
taking_follows bytes NoMemory steps (prefix, rest, parts, cut) = subst (λ (l : List Step). Follow false l) (sym cut) tt

read_follows : (bytes : List ℕ) (stop : Stop) (steps : List Step) → CutRead bytes stop steps → Follow false steps
read_follows bytes stop steps (some, inl cut) = follow_in (Takes bytes ∷ Pumps ∷ []) stop steps tt cut
read_follows bytes stop steps (some, inr cut) = taking_follows bytes stop steps cut

in_turn_follows : (left : ℕ) (turn : Turn) (stop : Stop) (steps : List Step) → IsTurn is_quiet left turn → CutSteps turn stop steps → Follow false steps
in_turn_follows left turn stop steps is (inl cut) = read_follows turn.piece stop steps cut
in_turn_follows left turn stop steps is (inr (ticks, are, cut)) =
    subst (λ (l : List Step). Follow false l) (sym are) (follow_after (piece_steps turn.piece) (tick_steps turn.ticks) stop ticks (turn_follows left turn.piece turn.ticks is) cut)

cut_turn_follows : (left : ℕ) (stop : Stop) (steps : List Step) → CutTurn is_quiet left stop steps → Follow false steps
cut_turn_follows left ReadFault steps cut = subst (λ (l : List Step). Follow false l) (sym cut) tt
cut_turn_follows left InputTooLong steps cut = subst (λ (l : List Step). Follow false l) (sym cut) tt
cut_turn_follows left WriteFault steps (turn, is, cut) = in_turn_follows left turn WriteFault steps is cut
cut_turn_follows left NoMemory steps (turn, is, cut) = in_turn_follows left turn NoMemory steps is cut

cut_wait_follows : (ticks : ℕ) (stop : Stop) (steps : List Step) → CutWait is_quiet ticks stop steps → Follow false steps
cut_wait_follows ticks stop steps cut =
    subst (λ (l : List Step). Follow false l) (sym cut.parts) (follow_both false cut.first cut.last (waited_follows ticks cut.left cut.first cut.waited) (cut_turn_follows cut.left stop cut.last cut.cut))

cut_line_follows : (line : PortLine) (stop : Stop) (steps : List Step) → CutLine is_quiet line stop steps → Follow false steps
cut_line_follows (Plain line) stop steps (answer, cut) = follow_in (Asks line answer ∷ Pumps ∷ []) stop steps tt cut
cut_line_follows (Wait ticks) stop steps cut = cut_wait_follows ticks stop steps cut

cut_lines_follow : (lines : List PortLine) (stop : Stop) (steps : List Step) → CutLines is_quiet lines stop steps → Follow false steps
cut_lines_follow lines stop steps cut =
    subst (λ (l : List Step). Follow false l) (sym cut.parts) (follow_both false cut.first cut.last (lines_follow cut.done cut.answers cut.first cut.before) (cut_line_follows cut.line stop cut.last cut.cut))

cut_run_follows : (lines : List PortLine) (stop : Stop) (steps : List Step) → CutRun is_quiet lines stop steps → Follow false steps
cut_run_follows lines stop steps (inl cut) = follow_in (Pumps ∷ []) stop steps tt cut
cut_run_follows lines stop steps (inr (more, are, cut)) = subst (λ (l : List Step). Follow false l) (sym are) (cut_lines_follow lines stop more cut)

-- ---- what was read

-- at each tick nothing is left of the bytes
abbrev AreRead : List Step → List ℕ → Type 0
AreRead [] xs = Unit {0}
AreRead (Takes bytes ∷ steps) xs = (ys : List ℕ) × (xs ≡ bytes ++ ys) × AreRead steps ys
AreRead (Ticks ∷ steps) xs = ([] ≡ xs) × AreRead steps xs
AreRead (Rests ∷ steps) xs = AreRead steps xs
AreRead (Asks line answer ∷ steps) xs = AreRead steps xs
AreRead (Pumps ∷ steps) xs = AreRead steps xs

are_read : (rested : Bool) (steps : List Step) (xs : List ℕ) (m : Option (List ℕ)) → (rested ≡ true → [] ≡ xs) → Follow rested steps → Reads steps (Some xs) m → AreRead steps xs
are_read rested [] xs m none follow reads = tt
are_read rested (Ticks ∷ steps) xs m none follow reads = (none follow.0, are_read false steps xs m (λ e. absurd (cc e)) follow.1 reads)
are_read rested (Takes bytes ∷ steps) xs m none follow (None, took, reads) = absurd took
are_read rested (Takes bytes ∷ steps) xs m none follow (Some ys, took, reads) = (ys, took, are_read false steps ys m (λ e. absurd (cc e)) follow reads)
are_read rested (Rests ∷ steps) xs m none follow (None, took, ended, reads) = absurd took
are_read rested (Rests ∷ steps) xs m none follow (Some ys, took, ended, reads) =
    are_read true steps xs m (λ e. sym ended ∙ sym took) follow (subst (λ (l : List ℕ). Reads steps (Some l) m) (sym took) reads)
are_read rested (Asks line answer ∷ steps) xs m none follow reads = are_read false steps xs m (λ e. absurd (cc e)) follow reads
are_read rested (Pumps ∷ steps) xs m none follow reads = are_read false steps xs m (λ e. absurd (cc e)) follow reads

ticks_last : (before : List Step) (steps after : List Step) (xs : List ℕ) → AreRead steps xs → steps ≡ before ++ Ticks ∷ after → bytes_of before ≡ xs
ticks_last [] steps after xs read are = (subst (λ (l : List Step). AreRead l xs) are read).0
ticks_last (Ticks ∷ before) steps after xs read are = ticks_last before (before ++ Ticks ∷ after) after xs (subst (λ (l : List Step). AreRead l xs) are read).1 refl
ticks_last (Takes bytes ∷ before) steps after xs read are =
    let taken : AreRead (Takes bytes ∷ (before ++ Ticks ∷ after)) xs = subst (λ (l : List Step). AreRead l xs) are read in
    ap (λ (l : List ℕ). bytes ++ l) (ticks_last before (before ++ Ticks ∷ after) after taken.0 taken.2 refl) ∙ sym taken.1
ticks_last (Rests ∷ before) steps after xs read are = ticks_last before (before ++ Ticks ∷ after) after xs (subst (λ (l : List Step). AreRead l xs) are read) refl
ticks_last (Asks line answer ∷ before) steps after xs read are = ticks_last before (before ++ Ticks ∷ after) after xs (subst (λ (l : List Step). AreRead l xs) are read) refl
ticks_last (Pumps ∷ before) steps after xs read are = ticks_last before (before ++ Ticks ∷ after) after xs (subst (λ (l : List Step). AreRead l xs) are read) refl

come_last : (steps : List Step) (left m : Option (List ℕ)) (input : List ℕ) → left ≡ Some input → Follow false steps → Reads steps left m → TicksComeLast steps input
come_last steps left m input told follow reads = λ before after are.
    ticks_last before steps after input (are_read false steps input m (λ e. absurd (cc e)) follow (subst (λ (o : Option (List ℕ)). Reads steps o m) told reads)) are

module _ (keys : Keys) (number : ℕ) (texts : List (List ℕ)) (old new : Desk) (input : List ℕ) (told : old.left ≡ Some input) where
  pub all_come_last : (end : Served) (ran : RanAll end is_quiet keys number texts old new) → TicksComeLast ran.steps input
  all_come_last end ran = come_last ran.steps old.left new.left input told (run_follows ran.started.lines ran.answers ran.steps ran.are) ran.went.reads

  pub some_come_last : (reason : Stop) (ran : RanSome reason is_quiet keys number texts old new) → TicksComeLast ran.broke.steps input
  some_come_last reason ran = come_last ran.broke.steps old.left ran.broke.mid input told (cut_run_follows ran.started.lines reason ran.broke.steps ran.broke.cut) ran.broke.reads
