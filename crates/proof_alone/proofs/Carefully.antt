-- Careful runs, a step or a part at a time, and the stages to which they lead.
use Rattle.std.proofs.Common.{◌≡◌, List, [], ◌∷◌, ◌++◌, refl, sym, ap, ◌∙◌, subst}
use Rattle.serial_frame.specs.declared.item.Item.{Item}
use Rattle.serial_frame.specs.declared.unit.Unit.{Unit as LineUnit}
use Rattle.zw_text.specs.declared.entry.Entry.{Entry}
use Rattle.proof_alone.specs.State.{HostMachine}
use Rattle.proof_alone.specs.Steps.{Step, Tells, Misses, entries, happens}
use Rattle.proof_alone.specs.Phases.{Phase, Resting, Risen, May, Turns}
use Rattle.proof_alone.specs.Runs.{Run}
use Rattle.proof_alone.specs.Runs.Run.{Begins, Turned, Stepped}
use Rattle.proof_alone.specs.Careful.{Careful, CarefulRun, Stage, Fresh, Reading, Read, Looked, Judging, MayHear, MayJudge, MayPump, StepsWell, TurnsWell, stage_after, stage_judged, stage_of, stage_pumped, stage_turned}

pub starts : (start : HostMachine) → CarefulRun start Looked Resting [] start
starts start = record { run = Begins; careful = tt; at = refl }

-- one that is known, at the stage where it has led
pub found : {start : HostMachine} {here : Phase} {told : List Entry} {m : HostMachine} → (run : Run start here told m) → Careful run → CarefulRun start (stage_of run) here told m
found run fine = record { run = run; careful = fine; at = refl }

pub stepped : {start : HostMachine} {stage led : Stage} {here next : Phase} {told all : List Entry} {m later : HostMachine} → (step : Step) → May here m step next → StepsWell stage here step
    → led ≡ stage_after stage step → all ≡ told ++ entries m step → later ≡ happens m step → CarefulRun start stage here told m → CarefulRun start led next all later
stepped {here = here} step may well leads all_is later_is before = record {
  run = Stepped step may all_is later_is before.run;
  careful = (before.careful, subst (λ (s : Stage). StepsWell s here step) (sym before.at) well);
  at = ap (λ (s : Stage). stage_after s step) before.at ∙ sym leads;
}

pub turned : {start : HostMachine} {stage led : Stage} {here next : Phase} {told : List Entry} {m : HostMachine} → Turns here m next → TurnsWell stage here m → led ≡ stage_turned stage here
    → CarefulRun start stage here told m → CarefulRun start led next told m
turned {here = here} {m = m} turns well leads before = record {
  run = Turned turns before.run;
  careful = (before.careful, subst (λ (s : Stage). TurnsWell s here m) (sym before.at) well);
  at = ap (λ (s : Stage). stage_turned s here) before.at ∙ sym leads;
}

-- ---- what goes on as careful runs do

-- Of what has led here nothing is asked but that it goes on with each step, and where a part is over: so more may be known of a run than that it is careful.
pub record Leads (Led : Stage → Phase → List Entry → HostMachine → Type 0) : Type 0 where
  pub steps : (stage led : Stage) (here next : Phase) (told all : List Entry) (m later : HostMachine) (step : Step) → May here m step next → StepsWell stage here step
      → led ≡ stage_after stage step → all ≡ told ++ entries m step → later ≡ happens m step → Led stage here told m → Led led next all later
  pub turns : (stage led : Stage) (here next : Phase) (told : List Entry) (m : HostMachine) → Turns here m next → TurnsWell stage here m → led ≡ stage_turned stage here
      → Led stage here told m → Led led next told m

pub careful_leads : (start : HostMachine) → Leads (CarefulRun start)
careful_leads start = record {
  steps = λ stage led here next told all m later step may well leads all_is later_is before. stepped step may well leads all_is later_is before;
  turns = λ stage led here next told m turns well leads before. turned turns well leads before;
}

pub goes_on : {Led : Stage → Phase → List Entry → HostMachine → Type 0} {stage led : Stage} {here next : Phase} {told all : List Entry} {m later : HostMachine} → Leads Led → (step : Step)
    → May here m step next → StepsWell stage here step → led ≡ stage_after stage step → all ≡ told ++ entries m step → later ≡ happens m step → Led stage here told m → Led led next all later
goes_on {stage = stage} {led = led} {here = here} {next = next} {told = told} {all = all} {m = m} {later = later} leads step may well leads_to all_is later_is before =
    leads.steps stage led here next told all m later step may well leads_to all_is later_is before

pub turns_on : {Led : Stage → Phase → List Entry → HostMachine → Type 0} {stage led : Stage} {here next : Phase} {told : List Entry} {m : HostMachine} → Leads Led → Turns here m next
    → TurnsWell stage here m → led ≡ stage_turned stage here → Led stage here told m → Led led next told m
turns_on {stage = stage} {led = led} {here = here} {next = next} {told = told} {m = m} leads turns well leads_to before = leads.turns stage led here next told m turns well leads_to before

-- ---- steps that are heard anywhere

-- nothing of others is told
abbrev pub IsElse : Step → Type 0
IsElse (Tells e) = ⊥
IsElse (Misses text marks) = ⊥
IsElse step = Unit {0}

pub else_hears : (here : Phase) (step : Step) → IsElse step → MayHear here step
else_hears here (Tells e) is = absurd is
else_hears here (Misses text marks) is = absurd is
else_hears Risen step is = tt
else_hears here step is = tt

-- ---- items that are judged

abbrev pub all_judged : Stage → List Item → Stage
all_judged stage [] = stage
all_judged stage (item ∷ items) = all_judged (stage_judged stage) items

pub still_judges : (stage : Stage) → MayJudge stage → MayJudge (stage_judged stage)
still_judges Fresh may = may
still_judges Reading may = may
still_judges Read may = may
still_judges Looked may = tt
still_judges Judging may = may

-- those of a read leave its stage
pub still_reads : (items : List Item) → all_judged Reading items ≡ Reading
still_reads [] = refl
still_reads (item ∷ items) = still_reads items

-- ---- the pump behind them, where nothing is left of what came

pub may_pump : (stage : Stage) (came : List LineUnit) → came ≡ [] → MayPump stage came
may_pump Fresh came none = tt
may_pump Reading came none = tt
may_pump Read came none = tt
may_pump Looked came none = tt
may_pump Judging came none = none

-- it leads where it would have led before them
judged_pumps : (stage : Stage) → stage_pumped (stage_judged stage) ≡ stage_pumped stage
judged_pumps Fresh = refl
judged_pumps Reading = refl
judged_pumps Read = refl
judged_pumps Looked = refl
judged_pumps Judging = refl

pub all_pump : (items : List Item) (stage : Stage) → stage_pumped (all_judged stage items) ≡ stage_pumped stage
all_pump [] stage = refl
all_pump (item ∷ items) stage = all_pump items (stage_judged stage) ∙ judged_pumps stage
