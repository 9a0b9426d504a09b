-- A course ties both ends, and a host that starts again is tied as the one before.
use Rattle.std.proofs.Common.{◌≡◌, ℕ, ◌≤◌, List, length, Some, inl, inr, sym, ap, subst, ◌∙◌, arith}
use Rattle.std.specs.List.{AllByRecursion}
use Rattle.std.proofs.lemmas.Bool.{cases_eq}
use Rattle.zw_base.proofs.Each.{all-weaker}
use Rattle.supervision.specs.Host.{HostBook, begun_of, command_at as session_at}
use Rattle.supervision.specs.Device.{Taken as TakenBy}
use Rattle.supervision.specs.declared.session.TheConstants.{WORKING}
use Rattle.proof_course.specs.Sessions.{Course}
use Rattle.proof_course.specs.SessionFacts.{AreEnds, CourseFacts}
use Rattle.device_kinds.specs.declared.change.Change.{Change}
use Rattle.proof_messages.specs.device_sim.State.{State}
use Rattle.proof_messages.specs.Ending.{HasEnded}
use Rattle.zw_text.specs.declared.entry.Outcome.{Outcome}
use Rattle.zw_text.specs.Transcript.{by_session}
use Rattle.proof_host.specs.law_transcript.Once.{carried_by}
use Rattle.host_keep.specs.declared.final_status.FinalStatus.TheVariants as final
use Rattle.host_node.specs.TableState.{node_of}
use Rattle.proof_host.specs.host_model.State.{HostState, Command}
use Rattle.proof_host.specs.Facts.{StartsAs}
use Rattle.proof_host.specs.Tables.{outcome_in, recorded, taken_at}
use Rattle.proof_once.specs.Tied.{AreOutcomes, IsTied, IsToldAs, MakesWhatIsTaken, settings_taken}
use Rattle.proof_once.proofs.TieSteps.{over_recorded}

-- ---- a course

-- a device came to no more final statuses than it took sessions
ends_taken : (device : TakenBy) (ends : List ℕ) → AreEnds device ends → length ends ≤ device.taken
ends_taken device ends are = elim (cases_eq device.status WORKING) [
  | inl works ↦ let more = are.works works in omega (arith, more)
  | inr rests ↦ let all = are.rests rests in omega (arith, all)
]

pub course_ties : (c : Course) (commands : List Command) (device : State) → CourseFacts c → HasEnded device c.ends → AreOutcomes commands c.host.commands c.told
    → AllByRecursion (MakesWhatIsTaken commands c.host.commands) device.journal → IsTied commands c.host device c.ends c.told
course_ties c commands device facts ended outcomes made =
    let taken = ends_taken c.device c.ends facts.ends_are in
    let begun = facts.agree.not_ahead in
    record { ended = ended; begun = omega (arith, taken, begun); told_are = facts.told_are; outcomes = outcomes; made = made }

-- ---- a restart

told_again : (status : ℕ) (outcome again : Outcome) → again ≡ recorded outcome → IsToldAs status outcome → IsToldAs status again
told_again status outcome again e is =
    record { final = is.final; status_is = is.status_is; outcome_is = e ∙ ap recorded is.outcome_is ∙ over_recorded is.final }

module _ (old new : HostState) (node : ℕ) (device : State) (finals told : List ℕ) (starts : StartsAs old new)
    (tied : IsTied old.commands (node_of old.nodes node).book device finals told) where
  abbrev was : HostBook
  was = (node_of old.nodes node).book

  abbrev now : HostBook
  now = (node_of new.nodes node).book

  made_again : (change : Change) → MakesWhatIsTaken old.commands was.commands change → MakesWhatIsTaken new.commands now.commands change
  made_again change makes =
      subst (λ (l : List ℕ). AllByRecursion (λ number. change.settings ≡ settings_taken (taken_at new.commands number)) (carried_by l (by_session change.by))) (sym (starts.begun node))
      (all-weaker (λ number. change.settings ≡ settings_taken (taken_at old.commands number)) (λ number. change.settings ≡ settings_taken (taken_at new.commands number))
      (λ number is. is ∙ ap settings_taken (sym (starts.taken number))) (carried_by was.commands (by_session change.by)) makes)

  pub tied_again : IsTied new.commands now device finals told
  tied_again =
      let same = starts.begun node in
      let count : begun_of now ≡ begun_of was = ap (λ (l : List ℕ). length l) same in
      let within = tied.begun in
      record {
        ended = tied.ended;
        begun = omega (arith, within, count);
        told_are = record {
          rest = tied.told_are.rest;
          prefix = tied.told_are.prefix;
          closed = λ none. tied.told_are.closed (sym (starts.opened node) ∙ none) ∙ sym count;
          opened = λ session some. tied.told_are.opened session (sym (starts.opened node) ∙ some) ∙ sym count;
        };
        outcomes = λ session number status at is.
            told_again status (outcome_in old.commands number) (outcome_in new.commands number) (starts.outcomes number)
            (tied.outcomes session number status (subst (λ (l : List ℕ). session_at l session ≡ Some number) same at) is);
        made = all-weaker (MakesWhatIsTaken old.commands was.commands) (MakesWhatIsTaken new.commands now.commands) made_again device.journal tied.made;
      }
