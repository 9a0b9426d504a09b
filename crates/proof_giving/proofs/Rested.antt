-- Where a host alone rests, and while the number of a tick is to be entered, no command is to be given up, by what its transcript shows then.
use Rattle.std.proofs.Common.{◌≡◌, ℕ, ◌+◌, ◌-◌, ◌≤◌, true, false, List, [], ◌∷◌, ◌++◌, refl, sym, ap, ap₂, ◌∙◌, subst, append-nil, arith}
use Rattle.std.specs.Prelude.{Option, Some, None, Result, Ok, Err}
use Rattle.std.specs.List.{AllByRecursion, flat_map}
use Rattle.std.proofs.lemmas.Bool.{both_ways}
use Rattle.zw_base.proofs.Each.{all-append}
use Rattle.zw_words.specs.declared.fault.LineFault.{LineFault}
use Rattle.zw_text.specs.Line.{LineText, line_at}
use Rattle.zw_text.specs.declared.line.Line.{Line}
use Rattle.zw_text.specs.declared.line.Line.TheVariants as lines
use Rattle.zw_text.specs.declared.entry.Entry.{Entry}
use Rattle.zw_text.specs.declared.entry.Entry.TheVariants as entry
use Rattle.zw_text.specs.Transcript.{Doing, doing_step, folded, join_of, joined, line_of, lines_done, read_as}
use Rattle.zw_text.proofs.TextLaws.{line_takes}
use Rattle.host_heard.specs.declared.told.Told.{Told}
use Rattle.law_transcript.specs.Units.{Carried}
use Rattle.law_time.specs.Heeds.{Heeds}
use Rattle.law_time.specs.Requests.{are_none}
use Rattle.law_time.specs.Unanswered.{none_to_give_up, to_give_up}
use Rattle.proof_host.specs.Facts.{Facts}
use Rattle.proof_queue.specs.Heeding.{AllSteps, HeedsAs, HeedsSo}
use Rattle.proof_queue.specs.proof_attempts.proof_requests.Walking.{Ground as RequestsGround}
use Rattle.proof_queue.specs.proof_attempts.proof_requests.law_host.Heard.{heeds_alone}
use Rattle.proof_queue.specs.proof_attempts.proof_requests.proof_alone.Careful.{Careful}
use Rattle.proof_queue.specs.proof_attempts.proof_requests.proof_alone.Phases.{Phase, Resting, May}
use Rattle.proof_queue.specs.proof_attempts.proof_requests.proof_alone.Runs.{Run}
use Rattle.proof_queue.specs.proof_attempts.proof_requests.proof_alone.Runs.Run.{Begins, Turned, Stepped}
use Rattle.proof_queue.specs.proof_attempts.proof_requests.proof_alone.State.{HostMachine}
use Rattle.proof_queue.specs.proof_attempts.proof_requests.proof_alone.Steps.{Step, Tells, Comes, Misses, Says, Says_nothing, Asks, Refuses, Shows, Restarts, Begins_tick, Numbers, Judges, Does, entries, happens}
use Rattle.proof_giving.specs.Walking.{Grounds, KnowsAttempts}
use Rattle.proof_giving.proofs.AtRest.{none_is_over}
use Rattle.chip_functions.specs.Field.{IsNode}

-- ---- the nodes that joined are nodes

abbrev JoinsNode : Line → Type 0
JoinsNode (lines.Join n) = IsNode n
JoinsNode line = Unit {0}

read_joins : (words : List ℕ) (read : Result (Option Line) LineFault) → line_at words ≡ read → AllByRecursion JoinsNode (read_as read)
read_joins words (Ok (Some (lines.Join n))) is = let text : LineText words (lines.Join n) = line_takes words (Some (lines.Join n)) is in (text.stands.0, tt)
read_joins words (Ok (Some line)) is = (tt, tt)
read_joins words (Ok None) is = tt
read_joins words (Err fault) is = tt

line_joins : (e : Entry) → AllByRecursion JoinsNode (line_of e)
line_joins (entry.Said words) = read_joins words (line_at words) refl
line_joins e = tt

record JoinNodes (done : Doing) : Type 0 where
  earlier : AllByRecursion JoinsNode done.earlier
  last : AllByRecursion JoinsNode done.last

step_joins : (done : Doing) (e : Entry) → JoinNodes done → JoinNodes (doing_step done e)
step_joins done (entry.Refused refusal) so = record { earlier = so.earlier; last = tt }
step_joins done e so = record { earlier = all-append JoinsNode done.earlier done.last so.earlier so.last; last = line_joins e }

all_join : (past : List Entry) (done : Doing) → JoinNodes done → JoinNodes (folded doing_step done past)
all_join [] done so = so
all_join (e ∷ past) done so = all_join past (doing_step done e) (step_joins done e so)

nodes_of : (done : List Line) → AllByRecursion JoinsNode done → AllByRecursion IsNode (flat_map join_of done)
nodes_of [] all = tt
nodes_of (lines.Join n ∷ done) all = (all.0, nodes_of done all.1)
nodes_of (line ∷ done) all = nodes_of done all.1

pub joined_nodes : (past : List Entry) → AllByRecursion IsNode (joined past)
joined_nodes past =
    let nothing : Doing = record { earlier = []; last = [] } in
    let so : JoinNodes (folded doing_step nothing past) = all_join past nothing (record { earlier = tt; last = tt }) in
    ((omega arith, omega arith), nodes_of (lines_done past) (all-append JoinsNode (folded doing_step nothing past).earlier (folded doing_step nothing past).last so.earlier so.last))

-- ---- at rest

-- for each of them none is
none_for : (heeds : Heeds) (past : List Entry) (now : ℕ) → ((n : ℕ) → 1 ≤ n → n ≤ 232 → to_give_up heeds past now n ≡ []) → (nodes : List ℕ) → AllByRecursion IsNode nodes
    → flat_map (to_give_up heeds past now) nodes ≡ []
none_for heeds past now each [] all = refl
none_for heeds past now each (n ∷ nodes) all =
    ap₂ (λ (one more : List ℕ). one ++ more) (each n all.0.0 all.0.1) (none_for heeds past now each nodes all.1)

pub rests_without : (heeds : Heeds) (past : List Entry) (m : HostMachine) → Grounds heeds Resting past m → KnowsAttempts heeds Resting past m → none_to_give_up heeds past m.clock ≡ true
rests_without heeds past m g known =
    let ground : RequestsGround Resting past m = g.sleep.0.0.0.1.0 in
    let facts : Facts past m.state = ground.0.0.0.0.0.facts in
    ap are_none
    (none_for heeds past m.clock
    (λ n from to. none_is_over heeds n past m.clock m.came m.state ground.0.1 g.sleep.0.0.0.1.1 (facts.host.nodes.facts n) (known n from to)) (joined past) (joined_nodes past))

-- ---- while the number of a tick is to be entered

abbrev pub IsRest : Phase → Type 0
IsRest Resting = Unit {0}
IsRest here = ⊥

-- what holds of the entries so far and a time, and of those of a rest at the time then, held at a rest, one tick before
module _ (P : List Entry → ℕ → Type 0) where
  same_entries : (told more : List Entry) (now : ℕ) → more ≡ [] → P told now → P (told ++ more) now
  same_entries told more now none so = subst (λ (l : List Entry). P l now) (sym (ap (λ (l : List Entry). told ++ l) none ∙ append-nil told)) so

  step_at : (here next : Phase) (told : List Entry) (m : HostMachine) (step : Step) → May here m step next → (m.awaits ≡ true → P told (m.clock - 1)) → (here ≡ Resting → P told m.clock)
      → (happens m step).awaits ≡ true → P (told ++ entries m step) ((happens m step).clock - 1)
  step_at here next told m (Tells e) may before rests awaits = absurd (both_ways m.awaits may.2 awaits)
  step_at here next told m (Comes unit) may before rests awaits = absurd (both_ways m.awaits may.1 awaits)
  step_at here next told m (Misses text marks) may before rests awaits = absurd (both_ways m.awaits may.2 awaits)
  step_at here next told m (Says words line) may before rests awaits = absurd (let bad : false ≡ true = awaits in cc)
  step_at here next told m (Says_nothing words) may before rests awaits = absurd (let bad : false ≡ true = awaits in cc)
  step_at here next told m (Asks event) may before rests awaits = same_entries told (entries m (Asks event)) (m.clock - 1) (may.4 awaits) (before awaits)
  step_at here next told m (Refuses refusal) may before rests awaits = absurd (both_ways m.awaits may.3 awaits)
  step_at here next told m (Shows node) may before rests awaits = absurd (both_ways m.awaits may.1 awaits)
  step_at here next told m (Restarts state) may before rests awaits = same_entries told [] (m.clock - 1) refl (before awaits)
  step_at here next told m (Begins_tick left) may before rests awaits =
      same_entries told [] (m.clock + 1 - 1) refl (subst (λ (now : ℕ). P told now) (sym (less m.clock)) (rests may.0))
    where
      less : (n : ℕ) → n + 1 - 1 ≡ n
      less n = omega arith
  step_at here next told m Numbers may before rests awaits = absurd (let bad : false ≡ true = awaits in cc)
  step_at here next told m (Judges item rest behind put) may before rests awaits = same_entries told put (m.clock - 1) (may.1.numbered awaits) (before awaits)
  step_at here next told m (Does event put) may before rests awaits = same_entries told put (m.clock - 1) (may.3 awaits) (before awaits)

  module _ (taken : List Entry → Carried → List Told) (start : HostMachine) (numbered : start.awaits ≡ false)
      (rest : (told : List Entry) (m : HostMachine) → (run : Run start Resting told m) → Careful run → AllSteps (HeedsSo (heeds_alone taken)) run → AllSteps (HeedsAs (heeds_alone taken)) run → P told m.clock) where
    rests_at : (here : Phase) (told : List Entry) (m : HostMachine) → (run : Run start here told m) → Careful run → AllSteps (HeedsSo (heeds_alone taken)) run → AllSteps (HeedsAs (heeds_alone taken)) run
        → here ≡ Resting → P told m.clock
    rests_at Resting told m run careful sure heeded is = rest told m run careful sure heeded
    rests_at here told m run careful sure heeded is = absurd (subst IsRest (sym is) tt)

    pub before_number : {here : Phase} {told : List Entry} {m : HostMachine} → (run : Run start here told m) → Careful run → AllSteps (HeedsSo (heeds_alone taken)) run → AllSteps (HeedsAs (heeds_alone taken)) run
        → m.awaits ≡ true → P told (m.clock - 1)
    before_number Begins careful sure heeded awaits = absurd (both_ways start.awaits numbered awaits)
    before_number (Turned turns run) careful sure heeded awaits = before_number run careful.0 sure heeded awaits
    before_number {here = next} {m = later} (Stepped {here = here} {told = told} {m = m} step may all_is later_is run) careful sure heeded awaits =
        subst (λ (l : List Entry). P l (later.clock - 1)) (sym all_is)
        (subst (λ (k : HostMachine). P (told ++ entries m step) (k.clock - 1)) (sym later_is)
        (step_at here next told m step may (λ yet. before_number run careful.0 sure.0 heeded.0 yet) (rests_at here told m run careful.0 sure.0 heeded.0)
        (subst (λ (k : HostMachine). k.awaits ≡ true) later_is awaits)))
