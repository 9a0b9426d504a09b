-- A tie that pays what it owes goes on along each run of a host alone.
use Rattle.std.proofs.Common.{◌≡◌, ℕ, ◌+◌, true, false, inl, inr, List, [], ◌∷◌, ◌++◌, refl, sym, ap, ◌∙◌, subst, append-nil, append_assoc}
use Rattle.std.specs.List.{AllByRecursion}
use Rattle.std.specs.Prelude.{Some}
use Rattle.s0_crypto.specs.declared.key_pair.Keys.{Keys}
use Rattle.std.proofs.lemmas.Bool.{both_ways}
use Rattle.zw_words.specs.declared.side.Side.TheVariants.{Chip}
use Rattle.zw_text.specs.declared.line.Line.{Line}
use Rattle.zw_text.specs.declared.line.Line.TheVariants as lines
use Rattle.zw_text.specs.declared.entry.Refusal.{Refusal}
use Rattle.zw_text.specs.declared.entry.Entry.{Entry}
use Rattle.zw_text.specs.declared.entry.Entry.TheVariants as entry
use Rattle.proof_work.specs.law_transcript.Lists.{EachAfter}
use Rattle.proof_work.specs.law_transcript.Restarts.{is_restart}
use Rattle.proof_requests.specs.host_model.State.{HostState}
use Rattle.proof_work.specs.world_model.Events.{shown_values}
use Rattle.proof_requests.specs.proof_alone.State.{HostMachine, first_alone}
use Rattle.proof_requests.specs.proof_alone.Steps.{DidNotCome, IsOfOthers, Step, Tells, Comes, Misses, Says, Says_nothing, Asks, Refuses, Shows, Restarts, Begins_tick, Numbers, Judges, Does, entries, happens}
use Rattle.proof_requests.specs.proof_alone.Phases.{Phase, Resting, Asked, Risen, Ticking, Open, Behind, Sleeping, Submitting, May, Turns}
use Rattle.proof_requests.specs.proof_alone.Runs.{Knowledge, Run, Walk, WalkOver, both_know}
use Rattle.proof_requests.specs.proof_alone.Runs.Run.{Begins, Turned, Stepped}
use Rattle.proof_requests.proofs.Running.{run_keeps}
use Rattle.proof_requests.proofs.proof_waking_Judging.{asked_on, nothing_on}
pub use Rattle.proof_requests.proofs.proof_waking_Judging.{between_else, by_else}
use Rattle.proof_attempts.specs.Since.{AlongRuns, BeforeWords, IsElse, IsLoose, KnowsSince, Lasts, TieOf, WalkBoth}

-- ---- entries

pub others_loose : (e : Entry) → IsOfOthers e → IsLoose e
others_loose (entry.Air frame sender receiver repeaters payload) others = tt
others_loose (entry.Heard frame) others = tt
others_loose (entry.Lost frame) others = tt
others_loose (entry.Unheard frame) others = tt
others_loose (entry.Dev node by setting) others = tt
others_loose (entry.Device node setting) others = tt
others_loose (entry.Forget first second) others = tt
others_loose entry.ChipFull others = tt
others_loose (entry.Cleared side count) others = tt
others_loose e others = absurd others

pub missed_loose : (marks : List Entry) → DidNotCome marks → AllByRecursion IsLoose marks
missed_loose (entry.Dropped Chip ∷ []) did = (tt, tt)
missed_loose (entry.Overrun Chip ∷ []) did = (tt, tt)
missed_loose (entry.Garbled Chip unit ∷ []) did = (tt, tt)
missed_loose (entry.Garbled Chip unit ∷ entry.Overrun Chip ∷ []) did = (tt, (tt, tt))
missed_loose marks did = absurd did

-- ---- phases but the one where a line is asked

module _ (Tie : TieOf) where
  pub rest_of : (here : Phase) (past : List Entry) (m : HostMachine) → IsElse here → KnowsSince Tie here past m → Tie here past m.state m.clock
  rest_of (Asked line) past m other known = absurd other
  rest_of here past m other known = known

  pub of_rest : (here : Phase) (past : List Entry) (m : HostMachine) → IsElse here → Tie here past m.state m.clock → KnowsSince Tie here past m
  of_rest (Asked line) past m other rest = absurd other
  of_rest here past m other rest = rest

  pub leads_to : (next to : Phase) (past : List Entry) (m : HostMachine) → IsElse to → next ≡ to → Tie to past m.state m.clock → KnowsSince Tie next past m
  leads_to next to past m other is rest = subst (λ (p : Phase). KnowsSince Tie p past m) (sym is) (of_rest to past m other rest)

  pub as_known : (here is : Phase) (past : List Entry) (m : HostMachine) → here ≡ is → KnowsSince Tie here past m → KnowsSince Tie is past m
  as_known here is past m same known = subst (λ (p : Phase). KnowsSince Tie p past m) same known

  pub numbered_else : (here : Phase) (past : List Entry) (m : HostMachine) → m.awaits ≡ true → KnowsSince Tie here past m → IsElse here
  numbered_else (Asked line) past m awaits known = absurd (both_ways m.awaits known.unnumbered awaits)
  numbered_else here past m awaits known = tt

  module _ (Ground : Knowledge) (lasts : Lasts Ground Tie) where
    -- ---- lines

    refuses_tie : (past : List Entry) (words : List ℕ) (line : Line) (m : HostMachine) (refusal : Refusal) → m.left ≡ 0 → Ground Resting past m
        → Ground (Asked line) (past ++ entry.Said words ∷ []) (happens m (Says words line)) → Tie Resting past m.state m.clock
        → Tie Open ((past ++ entry.Said words ∷ []) ++ entry.Refused refusal ∷ []) m.state m.clock
    refuses_tie past words line m refusal none ground later known =
        subst (λ (l : List Entry). Tie Open l m.state m.clock) (sym (append_assoc past (entry.Said words ∷ []) (entry.Refused refusal ∷ []))) (lasts.refused past words line refusal m none ground later known)

    -- ---- steps

    loose_goes : (here next : Phase) (past : List Entry) (m : HostMachine) (one : Step) → IsElse here → next ≡ here → (happens m one).state ≡ m.state → (happens m one).clock ≡ m.clock
        → AllByRecursion IsLoose (entries m one) → m.awaits ≡ false → Ground here past m → KnowsSince Tie here past m → KnowsSince Tie next (past ++ entries m one) (happens m one)
    loose_goes here next past m one other is same at all numbered ground known =
        leads_to next here (past ++ entries m one) (happens m one) other is
        (subst (λ (h : HostState). Tie here (past ++ entries m one) h (happens m one).clock) (sym same)
        (subst (λ (clock : ℕ). Tie here (past ++ entries m one) m.state clock) (sym at)
        (lasts.loose here here past (entries m one) m all numbered ground (rest_of here past m other known))))

    step_goes : (here next : Phase) (past : List Entry) (m : HostMachine) (one : Step) → May here m one next → Ground here past m → Ground next (past ++ entries m one) (happens m one)
        → KnowsSince Tie here past m → KnowsSince Tie next (past ++ entries m one) (happens m one)
    step_goes here next past m (Tells e) may ground later known = loose_goes here next past m (Tells e) (between_else here may.0) may.3 refl refl (others_loose e may.1, tt) may.2 ground known
    step_goes here next past m (Comes unit) may ground later known = loose_goes here next past m (Comes unit) (between_else here may.0) may.2 refl refl (tt, tt) may.1 ground known
    step_goes here next past m (Misses text marks) may ground later known =
        loose_goes here next past m (Misses text marks) (between_else here may.0) may.3 refl refl (tt, missed_loose marks may.1) may.2 ground known
    step_goes here next past m (Says words line) may ground later known =
        let rest : Tie Resting past m.state m.clock = rest_of Resting past m tt (as_known here Resting past m may.0 known) in
        let at : Ground Resting past m = subst (λ (p : Phase). Ground p past m) may.0 ground in
        let asked : Ground (Asked line) (past ++ entry.Said words ∷ []) (happens m (Says words line))
        = subst (λ (p : Phase). Ground p (past ++ entry.Said words ∷ []) (happens m (Says words line))) may.3 later in
        subst (λ (p : Phase). KnowsSince Tie p (past ++ entry.Said words ∷ []) (happens m (Says words line))) (sym may.3)
        (record {
          before = past;
          words = words;
          are = refl;
          read = may.2;
          unnumbered = refl;
          tie = rest;
          goes_on = λ other. lasts.said past words m may.1 at (ap is_restart may.2 ∙ other) rest;
          in_vain = λ refusal. refuses_tie past words line m refusal may.1 at asked rest;
        })
    step_goes here next past m (Says_nothing words) may ground later known =
        leads_to next Resting (past ++ entry.Said words ∷ []) (happens m (Says_nothing words)) tt (may.3 ∙ may.0)
        (lasts.said past words m may.1 (subst (λ (p : Phase). Ground p past m) may.0 ground) (ap is_restart may.2) (rest_of Resting past m tt (as_known here Resting past m may.0 known)))
    step_goes here next past m (Asks event) (line, here_is, is, may, numbered, to_is) ground later known =
        leads_to next Open (past ++ entries m (Asks event)) (happens m (Asks event)) tt to_is
        (lasts.asked line past m event is may numbered (subst (λ (p : Phase). Ground p past m) here_is ground)
        (subst (λ (p : Phase). Ground p (past ++ entries m (Asks event)) (happens m (Asks event))) to_is later)
        ((as_known here (Asked line) past m here_is known).goes_on (asked_on line m.state event is)))
    step_goes here next past m (Refuses refusal) (line, here_is, why, numbered, to_is) ground later known =
        leads_to next Open (past ++ entry.Refused refusal ∷ []) (happens m (Refuses refusal)) tt to_is ((as_known here (Asked line) past m here_is known).in_vain refusal)
    step_goes here next past m (Shows node) may ground later known =
        leads_to next Open (past ++ shown_values m.state node ∷ []) (happens m (Shows node)) tt may.2
        (lasts.loose Open (Asked (lines.Store node)) past (shown_values m.state node ∷ []) m (tt, tt) may.1 (subst (λ (p : Phase). Ground p past m) may.0 ground)
        (lasts.opens past m.state m.clock ((as_known here (Asked (lines.Store node)) past m may.0 known).goes_on refl)))
    step_goes here next past m (Restarts state) may ground later known =
        let at : BeforeWords Tie lines.Restart past m = as_known here (Asked lines.Restart) past m may.0 known in
        let asked : Ground (Asked lines.Restart) past m = subst (λ (p : Phase). Ground p past m) may.0 ground in
        let opened : Ground Open past (happens m (Restarts state))
        = subst (λ (l : List Entry). Ground Open l (happens m (Restarts state))) (append-nil past) (subst (λ (p : Phase). Ground p (past ++ []) (happens m (Restarts state))) may.2 later) in
        leads_to next Open (past ++ []) (happens m (Restarts state)) tt may.2
        (subst (λ (l : List Entry). Tie Open l state m.clock) (sym (append-nil past))
        (subst (λ (l : List Entry). Tie Open l state m.clock) (sym at.are)
        (lasts.starts at.before at.words m state may.1 (ap is_restart at.read) (subst (λ (l : List Entry). Ground (Asked lines.Restart) l m) at.are asked)
        (subst (λ (l : List Entry). Ground Open l (happens m (Restarts state))) at.are opened))))
    step_goes here next past m (Begins_tick left) may ground later known =
        leads_to next Risen (past ++ []) (happens m (Begins_tick left)) tt may.2
        (subst (λ (l : List Entry). Tie Risen l m.state (m.clock + 1)) (sym (append-nil past))
        (lasts.rises past m (subst (λ (p : Phase). Ground p past m) may.0 ground) (rest_of Resting past m tt (as_known here Resting past m may.0 known))))
    step_goes here next past m Numbers may ground later known =
        let other : IsElse here = numbered_else here past m may.0 known in
        leads_to next here (past ++ entries m Numbers) (happens m Numbers) other may.1
        (lasts.numbers here past m other ground (subst (λ (p : Phase). Ground p (past ++ entries m Numbers) (happens m Numbers)) may.1 later) (rest_of here past m other known))
    step_goes here next past m (Judges item rest behind told) may ground later known =
        leads_to next (Behind behind) (past ++ told) (happens m (Judges item rest behind told)) tt may.2
        (lasts.judges past m item rest behind told may.1 (subst (λ (p : Phase). Ground p past m) may.0 ground)
        (subst (λ (p : Phase). Ground p (past ++ told) (happens m (Judges item rest behind told))) may.2 later) (rest_of Open past m tt (as_known here Open past m may.0 known)))
    step_goes here next past m (Does event told) may ground later known =
        let else_so = by_else here next m.state event may.0 in
        of_rest next (past ++ told) (happens m (Does event told)) else_so.1 (lasts.does here next past m event told may ground later (rest_of here past m else_so.0 known))

    turn_goes : (here next : Phase) (past : List Entry) (m : HostMachine) → Turns here m next → Ground here past m → KnowsSince Tie here past m → KnowsSince Tie next past m
    turn_goes Resting next past m is ground known = leads_to next Open past m tt is (lasts.opens past m.state m.clock known)
    turn_goes (Asked line) next past m (inl (nothing, is)) ground known =
        leads_to next Open past m tt is (lasts.opens past m.state m.clock (known.goes_on (nothing_on line nothing)))
    turn_goes (Asked line) next past m (inr (ticks, line_is, is)) ground known =
        leads_to next Resting past m tt is (known.goes_on (ap (λ (l : Line). is_restart (l ∷ [])) line_is))
    turn_goes Risen next past m is ground known = leads_to next (Ticking _) past m tt is (lasts.turn Risen (Ticking _) past m tt refl ground known)
    turn_goes (Ticking []) next past m is ground known = leads_to next Open past m tt is (lasts.turn (Ticking []) Open past m tt refl ground known)
    turn_goes (Ticking (event ∷ left)) next past m is ground known = absurd is
    turn_goes Open next past m is ground known = leads_to next Sleeping past m tt is (lasts.turn Open Sleeping past m tt refl ground known)
    turn_goes (Behind []) next past m is ground known = leads_to next Open past m tt is (lasts.turn (Behind []) Open past m tt refl ground known)
    turn_goes (Behind (event ∷ left)) next past m is ground known = absurd is
    turn_goes Sleeping next past m is ground known = leads_to next Submitting past m tt is.1 (lasts.turn Sleeping Submitting past m tt (is.0, refl, is.2) ground known)
    turn_goes Submitting next past m is ground known = leads_to next Resting past m tt is.1 (lasts.turn Submitting Resting past m tt (is.0, refl) ground known)

    pub since_walk : WalkBoth Ground (KnowsSince Tie)
    since_walk = record {
      step = λ here next past m one may ground later known. step_goes here next past m one may ground later known;
      turn = λ here next past m turns ground known. turn_goes here next past m turns ground known;
    }

-- the ground goes on with it
pub over_both : (Law : List Entry → Entry → Type 0) (Ground Know : Knowledge) → Walk Law Ground → WalkBoth Ground Know → Walk Law (both_know Ground Know)
over_both Law Ground Know ground walk = record {
  step = λ here next past m one may known.
      let base = ground.step here next past m one may known.0 in (base.0, (base.1, walk.step here next past m one may known.0 base.1 known.1));
  turn = λ here next past m turns known. (ground.turn here next past m turns known.0, walk.turn here next past m turns known.0 known.1);
}

-- ---- along runs

module _ (keys : Keys) (Ground Know : Knowledge) (grounds : AlongRuns keys Ground) where
  -- what lasts on a ground that holds along them
  pub along : WalkBoth Ground Know → Know Resting [] (first_alone keys (Some [])) → AlongRuns keys Know
  along walk first here told m run = by run
    where
      by : {here : Phase} {told : List Entry} {m : HostMachine} → Run (first_alone keys (Some [])) here told m → Know here told m
      by Begins = first
      by {here = next} {told = told} {m = m} (Turned {here = here} turns run) = walk.turn here next told m turns (grounds here told m run) (by run)
      by {here = next} {m = later} (Stepped {here = here} {told = told} {m = m} one may all_is later_is run) =
          subst (λ (l : List Entry). Know next l later) (sym all_is)
          (subst (λ (k : HostMachine). Know next (told ++ entries m one) k) (sym later_is)
          (walk.step here next told m one may (grounds here told m run) (grounds next (told ++ entries m one) (happens m one) (Stepped one may refl refl run)) (by run)))

  each_any : (past told : List Entry) → EachAfter (λ past e. Unit {0}) past told
  each_any past [] = tt
  each_any past (e ∷ told) = (tt, each_any (past ++ e ∷ []) told)

  -- and a law over it
  pub law_along : (Law : List Entry → Entry → Type 0) → WalkOver Ground (λ past e. Unit {0}) Law Know → Know Resting [] (first_alone keys (Some [])) → (here : Phase) (told : List Entry) (m : HostMachine)
      → Run (first_alone keys (Some [])) here told m → EachAfter Law [] told × Know here told m
  law_along Law walk first here told m run = let got = run_keeps Law (both_know (λ here past m. Run (first_alone keys (Some [])) here past m) Know) reached [] run (Begins, first) in (got.0, got.1.1)
    where
      reached : Walk Law (both_know (λ here past m. Run (first_alone keys (Some [])) here past m) Know)
      reached = record {
        step = λ here next past m one may known.
            let got = walk.step here next past m one may (grounds here past m known.0) (each_any past (entries m one)) known.1 in (got.0, (Stepped one may refl refl known.0, got.1));
        turn = λ here next past m turns known. (Turned turns known.0, walk.turn here next past m turns (grounds here past m known.0) known.1);
      }
