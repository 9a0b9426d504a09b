-- What a host alone heard of a run is told by a run too: entries of others and refusals of their lines are left out, and units of the chip are as they came.
use Rattle.std.proofs.Common.{◌≡◌, ℕ, Bool, true, false, if◌then◌else◌, inl, List, [], ◌∷◌, ◌++◌, refl, sym, ap, ap₂, ◌∙◌, subst, append-nil, append_assoc}
use Rattle.std.specs.List.{AllByRecursion}
use Rattle.serial_frame.specs.Items.{unit_text}
use Rattle.zw_words.specs.declared.side.Side.TheVariants.{Host, Chip}
use Rattle.zw_text.specs.declared.line.Line.{Line}
use Rattle.zw_text.specs.declared.entry.Refusal.{Refusal}
use Rattle.zw_text.specs.declared.entry.Entry.{Entry}
use Rattle.zw_text.specs.declared.entry.Entry.TheVariants as entry
use Rattle.zw_text.specs.Transcript.{folded, line_after, line_last, line_of}
use Rattle.law_host.specs.Heard.{come_as, heard_as, heard_by_host, heard_from, is_of_others, is_refusal_of_others}
use Rattle.proof_line.specs.host_model.State.{HostState}
use Rattle.proof_line.specs.host_model.Events.{HostEvent, Accepts, Cancels, Hears}
use Rattle.proof_line.specs.host_model.Outs.{answers, outs}
use Rattle.proof_line.specs.host_model.declared.out.HostOut.{HostOut}
use Rattle.proof_line.specs.host_model.declared.out.HostOut.TheVariants.{Note, Write}
use Rattle.proof_line.specs.proof_walk.Outside.{IsHostNote}
use Rattle.proof_line.proofs.HostNotes.{NoteOuts, all_outs_note}
use Rattle.proof_line.proofs.Holding.{NoMark}
use Rattle.proof_alone.specs.State.{HostMachine}
use Rattle.proof_alone.specs.Steps.{AreTold, ChangesFrame, DidNotCome, IsOfUnit, Step, Tells, Comes, Misses, Says, Says_nothing, Asks, Refuses, Shows, Restarts, Begins_tick, Numbers, Judges, Does, entries, happens}
use Rattle.proof_alone.specs.Phases.{Phase, Asked, Risen, IsBetween, May}
use Rattle.proof_alone.specs.Runs.{Run}
use Rattle.proof_alone.specs.Runs.Run.{Begins, Stepped, Turned}
use Rattle.proof_alone.specs.Careful.{Careful, MayHear, MayMeet, RunCarefully, Stage, StepsWell, TurnsWell, stage_after, stage_of, stage_turned}
use Rattle.proof_alone.proofs.ReadingLines.{others_ask_nothing}
use Rattle.proof_alone.specs.Reading.{Anything}
use Rattle.proof_alone.specs.Words.{KnowsWords}
use Rattle.proof_alone.proofs.Running.{run_keeps}
use Rattle.proof_alone.proofs.Words.{words_walk}

-- ---- lists

none_come : (unit : List ℕ) (told : List Entry) → NoMark told → come_as unit told ≡ come_as unit []
none_come unit [] none = refl
none_come unit (entry.Dropped side ∷ told) none = absurd none
none_come unit (entry.Garbled side other ∷ told) none = absurd none
none_come unit (entry.Overrun side ∷ told) none = absurd none
none_come unit (e ∷ told) none = refl

changed_come : (unit other : List ℕ) (told : List Entry) → NoMark told → come_as unit (entry.Garbled Chip other ∷ told) ≡ come_as unit (entry.Garbled Chip other ∷ [])
changed_come unit other [] none = refl
changed_come unit other (entry.Overrun side ∷ told) none = absurd none
changed_come unit other (e ∷ told) none = refl

then_come : (unit other : List ℕ) (e : Entry) (past told : List Entry) → come_as unit (entry.Garbled Chip other ∷ (e ∷ (past ++ told))) ≡ come_as unit (entry.Garbled Chip other ∷ (e ∷ past))
then_come unit other (entry.Overrun Chip) past told = refl
then_come unit other (entry.Overrun Host) past told = refl
then_come unit other e past told = refl

same_come : (unit : List ℕ) (past told : List Entry) → NoMark told → come_as unit (past ++ told) ≡ come_as unit past
same_come unit [] told none = none_come unit told none
same_come unit (entry.Garbled Chip other ∷ []) told none = changed_come unit other told none
same_come unit (entry.Garbled Chip other ∷ (e ∷ past)) told none = then_come unit other e past told
same_come unit (entry.Garbled Host other ∷ past) told none = refl
same_come unit (entry.Dropped Chip ∷ past) told none = refl
same_come unit (entry.Dropped Host ∷ past) told none = refl
same_come unit (entry.Overrun Chip ∷ past) told none = refl
same_come unit (entry.Overrun Host ∷ past) told none = refl
same_come unit (e ∷ past) told none = refl

same_heard : (e : Entry) (past told : List Entry) → NoMark told → heard_as e (past ++ told) ≡ heard_as e past
same_heard (entry.Written Chip unit) past told none = same_come unit past told none
same_heard (entry.Written Host unit) past told none = refl
same_heard e past told none = refl

abbrev as_heard : List Line → Entry → List Entry → List Entry
as_heard before e rest = if is_refusal_of_others before e then [] else heard_as e rest

heard_both : (before : List Line) (past told : List Entry) → NoMark told → heard_from before (past ++ told) ≡ heard_from before past ++ heard_from (folded line_after before past) told
heard_both before [] told none = refl
heard_both before (e ∷ past) told none =
    ap₂ (λ (x y : List Entry). (if is_refusal_of_others before e then [] else x) ++ y) (same_heard e past told none) (heard_both (line_of e) past told none)
    ∙ sym (append_assoc (as_heard before e past) (heard_from (line_of e) past) (heard_from (folded line_after (line_of e) past) told))

-- ---- what is heard as it was told

-- whatever line stands before it
abbrev IsHeard : List Entry → Type 0
IsHeard told = (before : List Line) → heard_from before told ≡ told

note_heard : (before : List Line) (e : Entry) (rest : List Entry) → IsHostNote e → as_heard before e rest ≡ e ∷ []
note_heard before (entry.Said words) rest is = absurd is
note_heard before (entry.Accepted command node) rest is = absurd is
note_heard before (entry.Refused refusal) rest is = absurd is
note_heard before (entry.Written side unit) rest is = absurd is
note_heard before (entry.Dropped side) rest is = absurd is
note_heard before (entry.Garbled side unit) rest is = absurd is
note_heard before (entry.Overrun side) rest is = absurd is
note_heard before (entry.Cleared side count) rest is = absurd is
note_heard before (entry.Air frame sender receiver repeaters payload) rest is = absurd is
note_heard before (entry.Heard frame) rest is = absurd is
note_heard before (entry.Lost frame) rest is = absurd is
note_heard before (entry.Unheard frame) rest is = absurd is
note_heard before (entry.Dev node by setting) rest is = absurd is
note_heard before (entry.Forget first second) rest is = absurd is
note_heard before entry.ChipFull rest is = absurd is
note_heard before (entry.Device node setting) rest is = absurd is
note_heard before e rest is = refl

note_apart : (e : Entry) (rest : List Entry) → IsHostNote e → NoMark (e ∷ rest)
note_apart (entry.Dropped side) rest is = absurd is
note_apart (entry.Garbled side unit) rest is = absurd is
note_apart (entry.Overrun side) rest is = absurd is
note_apart e rest is = tt

marks_heard : (marks rest : List Entry) → AllByRecursion IsOfUnit marks → IsHeard rest → IsHeard (marks ++ rest)
marks_heard [] rest all heard before = heard before
marks_heard (entry.Dropped Host ∷ marks) rest all heard before = ap (λ (l : List Entry). entry.Dropped Host ∷ l) (marks_heard marks rest all.1 heard [])
marks_heard (entry.Garbled Host unit ∷ marks) rest all heard before = ap (λ (l : List Entry). entry.Garbled Host unit ∷ l) (marks_heard marks rest all.1 heard [])
marks_heard (entry.Overrun Host ∷ marks) rest all heard before = ap (λ (l : List Entry). entry.Overrun Host ∷ l) (marks_heard marks rest all.1 heard [])
marks_heard (e ∷ marks) rest all heard before = absurd all.0

told_heard : (puts : List HostOut) (told : List Entry) → NoteOuts puts → AreTold puts told → IsHeard told
told_heard [] told notes is before = subst (λ (l : List Entry). heard_from before l ≡ l) (sym is) refl
told_heard (Note e ∷ puts) told notes (rest, is, more) before =
    subst (λ (l : List Entry). heard_from before l ≡ l) (sym is)
    (ap₂ (λ (x y : List Entry). x ++ y) (note_heard before e rest notes.0) (told_heard puts rest notes.1 more (line_of e)))
told_heard (Write unit ∷ puts) told notes (marks, rest, is, all, more) before =
    subst (λ (l : List Entry). heard_from before l ≡ l) (sym is)
    (ap (λ (l : List Entry). entry.Written Host (unit_text unit) ∷ l) (marks_heard marks rest all (told_heard puts rest notes.1 more) []))

told_apart : (puts : List HostOut) (told : List Entry) → NoteOuts puts → AreTold puts told → NoMark told
told_apart [] told notes is = subst NoMark (sym is) tt
told_apart (Note e ∷ puts) told notes (rest, is, more) = subst NoMark (sym is) (note_apart e rest notes.0)
told_apart (Write unit ∷ puts) told notes (marks, rest, is, all, more) = subst NoMark (sym is) tt

pub event_notes : (h : HostState) (event : HostEvent) → NoteOuts (outs h event)
event_notes h event = subst NoteOuts (append-nil (outs h event)) (all_outs_note h (event ∷ []))

answers_heard : (h : HostState) (event : HostEvent) → IsHeard (answers h event)
answers_heard h (Accepts order carriage) before = refl
answers_heard h (Cancels command) before = refl
answers_heard h event before = refl

answers_apart : (h : HostState) (event : HostEvent) → NoMark (answers h event)
answers_apart h (Accepts order carriage) = tt
answers_apart h (Cancels command) = tt
answers_apart h event = tt

-- a unit that was changed comes as it was changed to
changed_hears : (here : Phase) (text changed : List ℕ) → MayHear here (Misses text (entry.Garbled Chip changed ∷ [])) → MayHear here (Misses changed (entry.Garbled Chip changed ∷ []))
changed_hears Risen text changed hears = (hears.1, hears.1)
changed_hears here text changed hears = tt

-- ---- along a run

module _ (start : HostMachine) where
  -- a run, at this stage, that is careful if this is so
  record RunIf (Fine : Type 0) (stage : Stage) (here : Phase) (told : List Entry) (m : HostMachine) : Type 0 where
    run : Run start here told m
    careful : Fine → Careful run
    at : stage_of run ≡ stage

  -- what is heard by a step more
  abbrev Goes : Type 0 → Stage → (here next : Phase) → List Entry → HostMachine → Step → Type 0
  Goes Fine stage here next past m one = RunIf (Fine × StepsWell stage here one) (stage_after stage one) next (heard_by_host (past ++ entries m one)) (happens m one)

  -- what is heard of entries after others
  after_it : (past told : List Entry) → NoMark told → heard_by_host (past ++ told) ≡ heard_by_host past ++ heard_from (line_last past) told
  after_it past told none = heard_both [] past told none

  -- the step is heard as it is
  kept : (Fine : Type 0) (stage : Stage) (here next : Phase) (past : List Entry) (m : HostMachine) (one : Step) → May here m one next → NoMark (entries m one)
      → heard_from (line_last past) (entries m one) ≡ entries m one → RunIf Fine stage here (heard_by_host past) m → Goes Fine stage here next past m one
  kept Fine stage here next past m one may none heard ran = record {
    run = Stepped one may (after_it past (entries m one) none ∙ ap (λ (l : List Entry). heard_by_host past ++ l) heard) refl ran.run;
    careful = λ both. (ran.careful both.0, subst (λ (s : Stage). StepsWell s here one) (sym ran.at) both.1);
    at = ap (λ (s : Stage). stage_after s one) ran.at;
  }

  -- nothing of these is heard
  left_out : (Fine More : Type 0) (stage : Stage) (here next : Phase) (past told : List Entry) (m : HostMachine) → NoMark told → heard_from (line_last past) told ≡ [] → next ≡ here
      → RunIf Fine stage here (heard_by_host past) m → RunIf (Fine × More) stage next (heard_by_host (past ++ told)) m
  left_out Fine More stage here next past told m none heard is ran =
      let there : RunIf Fine stage next (heard_by_host (past ++ told)) m =
      subst (λ (q : Phase). RunIf Fine stage q (heard_by_host (past ++ told)) m) (sym is)
      (subst (λ (l : List Entry). RunIf Fine stage here l m) (sym (after_it past told none ∙ ap (λ (l : List Entry). heard_by_host past ++ l) heard ∙ append-nil (heard_by_host past))) ran) in
      record { run = there.run; careful = λ both. there.careful both.0; at = there.at }

  module _ (Fine : Type 0) (stage : Stage) (here next : Phase) (past : List Entry) (m : HostMachine) where
    abbrev Before : Type 0
    Before = RunIf Fine stage here (heard_by_host past) m

    -- an entry that is not heard
    unheard : (e : Entry) → NoMark (e ∷ []) → heard_from (line_last past) (e ∷ []) ≡ [] → next ≡ here → Before → Goes Fine stage here next past m (Tells e)
    unheard e none heard is ran = left_out Fine (StepsWell stage here (Tells e)) stage here next past (e ∷ []) m none heard is ran

    aside_run : (e : Entry) → May here m (Tells e) next → Before → Goes Fine stage here next past m (Tells e)
    aside_run (entry.Air frame sender receiver repeaters payload) may ran = unheard (entry.Air frame sender receiver repeaters payload) tt refl may.3 ran
    aside_run (entry.Heard frame) may ran = unheard (entry.Heard frame) tt refl may.3 ran
    aside_run (entry.Lost frame) may ran = unheard (entry.Lost frame) tt refl may.3 ran
    aside_run (entry.Unheard frame) may ran = unheard (entry.Unheard frame) tt refl may.3 ran
    aside_run (entry.Dev node by setting) may ran = unheard (entry.Dev node by setting) tt refl may.3 ran
    aside_run (entry.Device node setting) may ran = unheard (entry.Device node setting) tt refl may.3 ran
    aside_run (entry.Forget first second) may ran = unheard (entry.Forget first second) tt refl may.3 ran
    aside_run entry.ChipFull may ran = unheard entry.ChipFull tt refl may.3 ran
    aside_run (entry.Cleared side count) may ran = unheard (entry.Cleared side count) tt refl may.3 ran
    aside_run e may ran = absurd may.1

    -- a unit that did not come
    misses_run : (text : List ℕ) (marks : List Entry) → IsBetween here → m.awaits ≡ false → next ≡ here → DidNotCome marks → ChangesFrame text marks → Before
        → Goes Fine stage here next past m (Misses text marks)
    misses_run text (entry.Dropped Chip ∷ []) between awaits is none changes ran =
        left_out Fine (StepsWell stage here (Misses text (entry.Dropped Chip ∷ []))) stage here next past (entry.Written Chip text ∷ entry.Dropped Chip ∷ []) m tt refl is ran
    misses_run text (entry.Overrun Chip ∷ []) between awaits is none changes ran =
        left_out Fine (StepsWell stage here (Misses text (entry.Overrun Chip ∷ []))) stage here next past (entry.Written Chip text ∷ entry.Overrun Chip ∷ []) m tt refl is ran
    misses_run text (entry.Garbled Chip changed ∷ []) between awaits is none changes ran = record {
      run = Stepped (Misses changed (entry.Garbled Chip changed ∷ [])) (between, tt, awaits, is, (changes.1, changes.1))
          (after_it past (entry.Written Chip text ∷ entry.Garbled Chip changed ∷ []) tt) refl ran.run;
      careful = λ both. (ran.careful both.0, (subst MayMeet (sym ran.at) both.1.0, changed_hears here text changed both.1.1));
      at = ran.at;
    }
    misses_run text (entry.Garbled Chip changed ∷ entry.Overrun Chip ∷ []) between awaits is none changes ran =
        left_out Fine (StepsWell stage here (Misses text (entry.Garbled Chip changed ∷ entry.Overrun Chip ∷ []))) stage here next past (entry.Written Chip text ∷ entry.Garbled Chip changed ∷ entry.Overrun Chip ∷ []) m tt refl is ran
    misses_run text marks between awaits is none changes ran = absurd none

    -- a refusal: that of a line of others is not heard
    refusal_goes : (refused : Refusal) → May here m (Refuses refused) next → KnowsWords here past m → Before → Goes Fine stage here next past m (Refuses refused)
    refusal_goes refused (line, here_is, why, awaits, next_is) words ran = by (is_of_others (line ∷ [])) refl
      where
        told : List Entry
        told = entry.Refused refused ∷ []

        line_is : line_last past ≡ line ∷ []
        line_is = (subst (λ (q : Phase). KnowsWords q past m) here_is words).0

        by : (b : Bool) → is_of_others (line ∷ []) ≡ b → Goes Fine stage here next past m (Refuses refused)
        by true is =
            let heard : heard_from (line_last past) told ≡ [] = ap (λ (ls : List Line). (if is_of_others ls then [] else told) ++ []) line_is ∙ ap (λ (b : Bool). (if b then [] else told) ++ []) is in
            let there : RunIf Fine stage (Asked line) (heard_by_host past) m = subst (λ (q : Phase). RunIf Fine stage q (heard_by_host past) m) here_is ran in
            let opened : RunIf Fine stage next (heard_by_host past) m =
            record { run = Turned (inl (others_ask_nothing line is, next_is)) there.run; careful = λ fine. (there.careful fine, tt); at = there.at } in
            left_out Fine (StepsWell stage here (Refuses refused)) stage next next past told m tt heard refl opened
        by false is =
            kept Fine stage here next past m (Refuses refused) (line, here_is, why, awaits, next_is) tt
            (ap (λ (ls : List Line). (if is_of_others ls then [] else told) ++ []) line_is ∙ ap (λ (b : Bool). (if b then [] else told) ++ []) is) ran

    step_goes : (one : Step) → May here m one next → KnowsWords here past m → Before → Goes Fine stage here next past m one
    step_goes (Tells e) may words ran = aside_run e may ran
    step_goes (Comes unit) may words ran = kept Fine stage here next past m (Comes unit) may tt refl ran
    step_goes (Misses text marks) may words ran = misses_run text marks may.0 may.2 may.3 may.1 may.4 ran
    step_goes (Says words line) may known ran = kept Fine stage here next past m (Says words line) may tt refl ran
    step_goes (Says_nothing words) may known ran = kept Fine stage here next past m (Says_nothing words) may tt refl ran
    step_goes (Asks event) may words ran = kept Fine stage here next past m (Asks event) may (answers_apart m.state event) (answers_heard m.state event (line_last past)) ran
    step_goes (Refuses refused) may words ran = refusal_goes refused may words ran
    step_goes (Shows node) may words ran = kept Fine stage here next past m (Shows node) may tt refl ran
    step_goes (Restarts state) may words ran = kept Fine stage here next past m (Restarts state) may tt refl ran
    step_goes (Begins_tick left) may words ran = kept Fine stage here next past m (Begins_tick left) may tt refl ran
    step_goes Numbers may words ran = kept Fine stage here next past m Numbers may tt refl ran
    step_goes (Judges item rest behind told) may words ran =
        let notes = event_notes m.state (Hears item) in
        kept Fine stage here next past m (Judges item rest behind told) may (told_apart (outs m.state (Hears item)) told notes may.1.told_so)
        (told_heard (outs m.state (Hears item)) told notes may.1.told_so (line_last past)) ran
    step_goes (Does event told) may words ran =
        let notes = event_notes m.state event in
        kept Fine stage here next past m (Does event told) may (told_apart (outs m.state event) told notes may.2) (told_heard (outs m.state event) told notes may.2 (line_last past)) ran

  -- the words of a line are known along a run
  words_known : {here : Phase} {told : List Entry} {m : HostMachine} → Run start here told m → KnowsWords here told m
  words_known run = (run_keeps Anything KnowsWords words_walk [] run tt).1

  hears : {here : Phase} {told : List Entry} {m : HostMachine} → (run : Run start here told m) → RunIf (Careful run) (stage_of run) here (heard_by_host told) m
  hears Begins = record { run = Begins; careful = λ fine. fine; at = refl }
  hears {m = m} (Turned {here = here} turns run) =
      let before = hears run in
      record {
        run = Turned turns before.run;
        careful = λ fine. (before.careful fine.0, subst (λ (s : Stage). TurnsWell s here m) (sym before.at) fine.1);
        at = ap (λ (s : Stage). stage_turned s here) before.at;
      }
  hears {here = next} {m = later} (Stepped {here = here} {told = told} {m = m} step may all_is later_is run) =
      let one = step_goes (Careful run) (stage_of run) here next told m step may (words_known run) (hears run) in
      subst (λ (l : List Entry). RunIf (Careful run × StepsWell (stage_of run) here step) (stage_after (stage_of run) step) next (heard_by_host l) later) (sym all_is)
      (subst (λ (n : HostMachine). RunIf (Careful run × StepsWell (stage_of run) here step) (stage_after (stage_of run) step) next (heard_by_host (told ++ entries m step)) n) (sym later_is) one)

  pub is_heard : {here : Phase} {told : List Entry} {m : HostMachine} → Run start here told m → Run start here (heard_by_host told) m
  is_heard run = (hears run).run

  pub heard_carefully : {here : Phase} {told : List Entry} {m : HostMachine} → (run : Run start here told m) → Careful run → RunCarefully start here (heard_by_host told) m
  heard_carefully run fine = let heard = hears run in (heard.run, heard.careful fine)
