-- Careful runs of a host alone that have started again after what stood before, from these records, go on as careful runs do.
use Rattle.std.proofs.Common.{◌≡◌, ℕ, inl, inr, List, [], ◌++◌, refl, sym, ap, ◌∙◌, subst}
use Rattle.std.specs.Prelude.{Some}
use Rattle.zw_text.specs.declared.entry.Entry.{Entry}
use Rattle.zw_text.specs.declared.line.Line.TheVariants as lines
use Rattle.host_model.specs.State.{HostState}
use Rattle.proof_asking.specs.proof_requests.proof_alone.State.{HostMachine}
use Rattle.proof_asking.specs.proof_requests.proof_alone.Steps.{Restarts}
use Rattle.proof_asking.specs.proof_requests.proof_alone.Phases.{Phase, Asked, May, Open}
use Rattle.proof_asking.specs.proof_requests.proof_alone.Runs.{Run}
use Rattle.proof_asking.specs.proof_requests.proof_alone.Runs.Run.{Turned, Stepped}
use Rattle.proof_asking.specs.proof_requests.proof_alone.Careful.{Careful, CarefulRun, Stage, StepsWell, TurnsWell, stage_after, stage_of, stage_turned}
use Rattle.proof_asking.proofs.Carefully.{Leads}
use Rattle.proof_noting.specs.Starts.{HasStarted}

module _ (start : HostMachine) (before : List Entry) (records : List (List ℕ)) where
  pub record Started (stage : Stage) (here : Phase) (told : List Entry) (m : HostMachine) : Type 0 where
    pub run : Run start here told m
    pub careful : Careful run
    pub at : stage_of run ≡ stage
    pub has : HasStarted before records run

  pub started_leads : Leads Started
  started_leads = record {
    steps = λ stage led here next told all m later step may well leads all_is later_is so. record {
      run = Stepped step may all_is later_is so.run;
      careful = (so.careful, subst (λ (s : Stage). StepsWell s here step) (sym so.at) well);
      at = ap (λ (s : Stage). stage_after s step) so.at ∙ sym leads;
      has = inr so.has;
    };
    turns = λ stage led here next told m turns well leads so. record {
      run = Turned turns so.run;
      careful = (so.careful, subst (λ (s : Stage). TurnsWell s here m) (sym so.at) well);
      at = ap (λ (s : Stage). stage_turned s here) so.at ∙ sym leads;
      has = so.has;
    };
  }

  -- it starts again, where the words of the line stand last
  pub starts_anew : (stage : Stage) (m : HostMachine) (state : HostState) → May (Asked lines.Restart) m (Restarts state) Open → m.records ≡ Some records → CarefulRun start stage (Asked lines.Restart) before m
      → (told : List Entry) → told ≡ before ++ [] → Started stage Open told (record m { state = state; came = [] })
  starts_anew stage m state may are words told told_is =
      record { run = Stepped (Restarts state) may told_is refl words.run; careful = (words.careful, (tt, tt)); at = words.at; has = inl (refl, are) }
