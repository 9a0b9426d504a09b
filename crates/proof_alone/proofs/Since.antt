-- What goes on along each run of a host alone goes on from a start from records, where it is known there.
use Rattle.std.proofs.Common.{◌≡◌, ℕ, inl, inr, List, [], ◌++◌, sym, ap, ◌∙◌, subst, append-nil, append_assoc}
use Rattle.zw_text.specs.declared.entry.Entry.{Entry}
use Rattle.zw_text.specs.declared.line.Line.TheVariants as lines
use Rattle.law_host.specs.law_transcript.Lists.{EachAfter}
use Rattle.proof_line.proofs.Lists.{each-append}
use Rattle.proof_alone.specs.State.{HostMachine}
use Rattle.proof_alone.specs.Steps.{Step, Restarts, entries, happens}
use Rattle.proof_alone.specs.Phases.{Phase, Asked, Open, May}
use Rattle.proof_alone.specs.Runs.{Knowledge, Run, Walk}
use Rattle.proof_alone.specs.Runs.Run.{Begins, Turned, Stepped}
use Rattle.proof_alone.specs.Starts.{HasStarted, KnownThere, Since, StartsAt}

module _ (Law : List Entry → Entry → Type 0) (Know : Knowledge) (walk : Walk Law Know) (start : HostMachine) (story before : List Entry) (records : List (List ℕ))
    (there : KnownThere Know start story before records) where
  -- the step that starts it
  begins : (here next : Phase) (told all : List Entry) (m later : HostMachine) (step : Step) → May here m step next → all ≡ told ++ entries m step → later ≡ happens m step
      → Run start here told m → StartsAt before records told m step → Since Law Know story before next all later
  begins here next told all m later (Restarts state) (here_is, opens, next_is) all_is later_is run (at, are) =
      let all_at : all ≡ before = all_is ∙ append-nil told ∙ at in
      let asked : Run start (Asked lines.Restart) before m
      = subst (λ (p : Phase). Run start p before m) here_is (subst (λ (l : List Entry). Run start here l m) at run) in
      record {
        heard = [];
        split = all_at ∙ sym (append-nil before);
        lawful = tt;
        known = subst (λ (p : Phase). Know p (story ++ all) later) (sym next_is)
            (subst (λ (l : List Entry). Know Open (story ++ l) later) (sym all_at)
            (subst (λ (n : HostMachine). Know Open (story ++ before) n) (sym later_is) (there m state asked opens are)));
      }
  begins here next told all m later step may all_is later_is run starts = absurd starts

  -- one step more
  goes : (here next : Phase) (told all : List Entry) (m later : HostMachine) (step : Step) → May here m step next → all ≡ told ++ entries m step → later ≡ happens m step
      → Since Law Know story before here told m → Since Law Know story before next all later
  goes here next told all m later step may all_is later_is got =
      let one = walk.step here next (story ++ told) m step may got.known in
      record {
        heard = got.heard ++ entries m step;
        split = all_is ∙ ap (λ (l : List Entry). l ++ entries m step) got.split ∙ append_assoc before got.heard (entries m step);
        lawful = each-append Law (story ++ before) got.heard (entries m step) got.lawful
            (subst (λ (l : List Entry). EachAfter Law l (entries m step)) (ap (λ (l : List Entry). story ++ l) got.split ∙ sym (append_assoc story before got.heard)) one.0);
        known = subst (λ (l : List Entry). Know next (story ++ l) later) (sym all_is)
            (subst (λ (n : HostMachine). Know next (story ++ (told ++ entries m step)) n) (sym later_is)
            (subst (λ (l : List Entry). Know next l (happens m step)) (append_assoc story told (entries m step)) one.1));
      }

  pub since_start : {here : Phase} {told : List Entry} {m : HostMachine} → (run : Run start here told m) → HasStarted before records run → Since Law Know story before here told m
  since_start Begins has = absurd has
  since_start {here = next} {told = told} {m = m} (Turned {here = here} turns run) has =
      let got = since_start run has in
      record { heard = got.heard; split = got.split; lawful = got.lawful; known = walk.turn here next (story ++ told) m turns got.known }
  since_start {here = next} {told = all} {m = later} (Stepped {here = here} {told = told} {m = m} step may all_is later_is run) (inl starts) =
      begins here next told all m later step may all_is later_is run starts
  since_start {here = next} {told = all} {m = later} (Stepped {here = here} {told = told} {m = m} step may all_is later_is run) (inr earlier) =
      goes here next told all m later step may all_is later_is (since_start run earlier)
