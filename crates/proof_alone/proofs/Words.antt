-- Where a host alone is asked, the words of the line stand last.
use Rattle.std.proofs.Common.{◌≡◌, true, false, inl, inr, List, [], ◌∷◌, ◌++◌, refl, sym, ◌∙◌, subst}
use Rattle.zw_text.specs.declared.entry.Entry.{Entry}
use Rattle.zw_text.specs.declared.entry.Entry.TheVariants as entry
use Rattle.proof_line.specs.host_model.State.{HostState}
use Rattle.proof_line.specs.host_model.Events.{HostEvent}
use Rattle.proof_line.proofs.ByLine.{last_is}
use Rattle.proof_alone.specs.State.{HostMachine}
use Rattle.proof_alone.specs.Steps.{Step, Tells, Comes, Misses, Says, Says_nothing, Asks, Refuses, Shows, Restarts, Begins_tick, Numbers, Judges, Does, entries, happens}
use Rattle.proof_alone.specs.Phases.{Phase, Resting, Asked, Risen, Ticking, Open, Behind, Sleeping, Submitting, GoesBy, IsBetween, May, Turns}
use Rattle.proof_alone.specs.Runs.{Walk}
use Rattle.proof_alone.specs.Words.{KnowsWords}
use Rattle.proof_alone.specs.Reading.{Anything}
use Rattle.proof_alone.proofs.ReadingWalk.{anything}

-- in another phase nothing is known
elsewhere : (next other : Phase) (past : List Entry) (m : HostMachine) → next ≡ other → KnowsWords other past m → KnowsWords next past m
elsewhere next other past m is known = subst (λ (p : Phase). KnowsWords p past m) (sym is) known

words_between : (here : Phase) (past : List Entry) (m : HostMachine) → IsBetween here → KnowsWords here past m
words_between Resting past m between = tt
words_between Risen past m between = tt
words_between Open past m between = tt
words_between here past m between = absurd between

words_numbered : (here : Phase) (past told : List Entry) (m later : HostMachine) → m.awaits ≡ true → KnowsWords here past m → KnowsWords here told later
words_numbered (Asked line) past told m later awaits known = absurd (let bad : true ≡ false = sym awaits ∙ known.1 in cc)
words_numbered here past told m later awaits known = tt

words_by : (here next : Phase) (h : HostState) (event : HostEvent) (past : List Entry) (m : HostMachine) → GoesBy here h event next → KnowsWords next past m
words_by (Ticking (first ∷ left)) next h event past m goes = elsewhere next (Ticking left) past m goes.1 tt
words_by (Behind (first ∷ left)) next h event past m goes = elsewhere next (Behind left) past m goes.1 tt
words_by Sleeping next h event past m (node, wants, is, next_is) = elsewhere next Sleeping past m next_is tt
words_by Submitting next h event past m goes = elsewhere next Submitting past m goes.1 tt
words_by here next h event past m goes = absurd goes

words_after : (here next : Phase) (past : List Entry) (m : HostMachine) (one : Step) → May here m one next → KnowsWords here past m → KnowsWords next (past ++ entries m one) (happens m one)
words_after here next past m (Tells e) may known = elsewhere next here (past ++ e ∷ []) m may.3 (words_between here (past ++ e ∷ []) m may.0)
words_after here next past m (Comes unit) may known = elsewhere next here _ _ may.2 (words_between here _ _ may.0)
words_after here next past m (Misses text marks) may known = elsewhere next here _ _ may.3 (words_between here _ _ may.0)
words_after here next past m (Says words line) may known = elsewhere next (Asked line) _ _ may.3 (last_is past (entry.Said words) ∙ may.2, refl)
words_after here next past m (Says_nothing words) may known = elsewhere next Resting _ _ (may.3 ∙ may.0) tt
words_after here next past m (Asks event) may known = elsewhere next Open _ _ may.5 tt
words_after here next past m (Refuses refusal) may known = elsewhere next Open _ _ may.4 tt
words_after here next past m (Shows node) may known = elsewhere next Open _ _ may.2 tt
words_after here next past m (Restarts state) may known = elsewhere next Open _ _ may.2 tt
words_after here next past m (Begins_tick left) may known = elsewhere next Risen _ _ may.2 tt
words_after here next past m Numbers may known =
    elsewhere next here (past ++ entry.Time m.clock ∷ []) (happens m Numbers) may.1 (words_numbered here past (past ++ entry.Time m.clock ∷ []) m (happens m Numbers) may.0 known)
words_after here next past m (Judges item rest behind told) may known = elsewhere next (Behind behind) _ _ may.2 tt
words_after here next past m (Does event told) may known = words_by here next m.state event (past ++ told) (happens m (Does event told)) may.0

words_turn : (here next : Phase) (past : List Entry) (m : HostMachine) → Turns here m next → KnowsWords next past m
words_turn Resting next past m is = elsewhere next Open past m is tt
words_turn (Asked line) next past m (inl (nothing, is)) = elsewhere next Open past m is tt
words_turn (Asked line) next past m (inr (ticks, line_is, is)) = elsewhere next Resting past m is tt
words_turn Risen next past m is = elsewhere next (Ticking _) past m is tt
words_turn (Ticking []) next past m is = elsewhere next Open past m is tt
words_turn Open next past m is = elsewhere next Sleeping past m is tt
words_turn (Behind []) next past m is = elsewhere next Open past m is tt
words_turn Sleeping next past m (wants, is, frames) = elsewhere next Submitting past m is tt
words_turn Submitting next past m (pumped, is) = elsewhere next Resting past m is tt
words_turn here next past m turns = absurd turns

pub words_walk : Walk Anything KnowsWords
words_walk = record {
  step = λ here next past m one may known. (anything past (entries m one), words_after here next past m one may known);
  turn = λ here next past m turns known. words_turn here next past m turns;
}
