-- How a run ends, from what its calls answer.
use Rattle.std.proofs.Common.{◌≡◌, ℕ, ◌≤◌, List, [], Result, Ok, Err, inl, inr, refl, sym, subst, arith}
use Rattle.std.specs.Prelude.{Option, OnOk, IfErr, MatchResult}
use Rattle.run_lines.specs.declared.reader.TheConstants.{MAX_INPUT}
use Rattle.s0_crypto.specs.declared.key_pair.Keys.{Keys}
use Rattle.host_keep.specs.Keeping.{OptAdds, Shelf}
use Rattle.host_model.proofs.EventLists.{none_added}
use Rattle.host_model.specs.State.{HostParts}
use Rattle.host_core.specs.Opening.{Opens}
use Rattle.port_run.specs.declared.asking.Answer.{Answer}
use Rattle.port_run.specs.declared.line.PortLine.{PortLine}
use Rattle.port_run.specs.declared.line.LinesFault.{LinesFault}
use Rattle.port_run.specs.declared.line.LinesFault.TheVariants as lines_fault
use Rattle.port_run.specs.declared.stop.Stop.{Stop}
use Rattle.port_run.specs.declared.stop.Stop.TheVariants as stop
use Rattle.port_run.specs.declared.ending.Served.{Served}
use Rattle.port_run.specs.declared.ending.Served.TheVariants as served
use Rattle.port_run.specs.Lines.{AreRead, FailsBy}
use Rattle.port_run.specs.Steps.{place, Step}
use Rattle.port_run.specs.Schedule.{Telling, RunSteps, CutRun}
use Rattle.port_run.specs.Serving.{Went, Broke}
use Rattle.port_run.specs.Ending.{Desk, JudgedBy, desk, IsUntouched, Started, RanAll, RanSome, Ended, unread_of, served_of}

-- nothing was done
pub untouched : (l s : Option (List ℕ)) (a b : Shelf) → OptAdds a.records b.records [] → a.faults ≤ b.faults → IsUntouched (desk l s a) (desk l s b)
untouched l s a b same falls = record { left = refl; written = refl; records = same; never_falls = falls }

pub unchanged : (l s : Option (List ℕ)) (shelf : Shelf) → IsUntouched (desk l s shelf) (desk l s shelf)
unchanged l s shelf = untouched l s shelf shelf (none_added shelf.records) (omega arith)

-- words are not lines
pub ended_unread : (end : Served) (fault : LinesFault) (Tells : Telling) (keys : Keys) (number : ℕ) (texts : List (List ℕ)) (old new : Desk) → end ≡ unread_of fault → FailsBy fault texts → IsUntouched old new
    → Ended end Tells keys number texts old new
ended_unread end fault Tells keys number texts old new is fails still = subst (λ (e : Served). Ended e Tells keys number texts old new) (sym is) (go fault fails)
  where
    go : (fault' : LinesFault) → FailsBy fault' texts → Ended (unread_of fault') Tells keys number texts old new
    go (lines_fault.Bad line why) fails' = (fails', still)
    go lines_fault.NoMemory fails' = inl still

module _ (Tells : Telling) (keys : Keys) (texts : List (List ℕ)) (lines : List PortLine) (read : AreRead texts lines) (h h' : HostParts) (l l' s s' : Option (List ℕ)) (n : ℕ) (first mid last : Shelf)
    (opens : Opens keys n first.records h) (same : OptAdds first.records mid.records []) (falls : first.faults ≤ mid.faults) where
  started : Started keys n texts (desk l s first)
  started = record { lines = lines; read = read; host = h; opens = opens; shelf = mid; records = same; never_falls = falls }

  -- all lines were run
  pub ended_all : (end : Served) (answers : List Answer)
      → ((steps : List Step) × (taken : ℕ) × RunSteps Tells lines answers steps × Went steps (place h mid) (place h' last) s s' l l' 0 taken × (taken ≤ MAX_INPUT)) → JudgedBy end h'.state answers
      → Ended end Tells keys n texts (desk l s first) (desk l' s' last)
  unfolding started
  ended_all end answers (steps, taken, are, went, within) judged = go end judged
    where
      all : (end' : Served) → JudgedBy end' h'.state answers → RanAll end' Tells keys n texts (desk l s first) (desk l' s' last)
      all end' judged' = record { started = started; host = h'; answers = answers; steps = steps; are = are; taken = taken; went = went; within = within; judged = judged' }

      go : (end' : Served) → JudgedBy end' h'.state answers → Ended end' Tells keys n texts (desk l s first) (desk l' s' last)
      go served.Ok judged' = all served.Ok judged'
      go (served.Undone number) judged' = all (served.Undone number) judged'
      go (served.BadLine number fault) judged' = absurd judged'
      go (served.Opening fault) judged' = absurd judged'
      go served.ReadFault judged' = absurd judged'
      go served.WriteFault judged' = absurd judged'
      go served.InputTooLong judged' = absurd judged'
      go served.NoMemory judged' = absurd judged'

  -- no further step was done
  pub ended_some : (end : Served) (reason : Stop) → end ≡ served_of reason → Broke (CutRun Tells lines) reason (place h mid) (place h' last) s s' l l' 0 → Ended end Tells keys n texts (desk l s first) (desk l' s' last)
  unfolding started
  ended_some end reason is broke =
      subst (λ (e : Served). Ended e Tells keys n texts (desk l s first) (desk l' s' last)) (sym is) (go reason broke)
    where
      some : (reason' : Stop) → Broke (CutRun Tells lines) reason' (place h mid) (place h' last) s s' l l' 0 → RanSome reason' Tells keys n texts (desk l s first) (desk l' s' last)
      some reason' broke' = record { started = started; host = h'; broke = broke' }

      go : (reason' : Stop) → Broke (CutRun Tells lines) reason' (place h mid) (place h' last) s s' l l' 0 → Ended (served_of reason') Tells keys n texts (desk l s first) (desk l' s' last)
      go stop.ReadFault broke' = some stop.ReadFault broke'
      go stop.WriteFault broke' = some stop.WriteFault broke'
      go stop.InputTooLong broke' = some stop.InputTooLong broke'
      go stop.NoMemory broke' = inr (some stop.NoMemory broke')

  module _ (given : List PortLine) (alike : given ≡ lines) (answers shown : List Answer) (equal : shown ≡ answers) (end : Served) where
    pub ended : {T : Type 0} (run : Result T Stop) → MatchResult run (λ value. JudgedBy end h'.state shown) (λ reason. end ≡ served_of reason)
        → OnOk run ((steps : List Step) × (taken : ℕ) × RunSteps Tells given answers steps × Went steps (place h mid) (place h' last) s s' l l' 0 taken × (taken ≤ MAX_INPUT))
        → IfErr run (λ reason. Broke (CutRun Tells given) reason (place h mid) (place h' last) s s' l l' 0) → Ended end Tells keys n texts (desk l s first) (desk l' s' last)
    ended (Ok value) judged (steps, taken, are, went, within) some =
        ended_all end answers (steps, taken, subst (λ (p : List PortLine). RunSteps Tells p answers steps) alike are, went, within) (subst (λ (a : List Answer). JudgedBy end h'.state a) equal judged)
    ended (Err reason) judged all some =
        ended_some end reason judged (subst (λ (p : List PortLine). Broke (CutRun Tells p) reason (place h mid) (place h' last) s s' l l' 0) alike some)
