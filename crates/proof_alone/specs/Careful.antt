-- Runs of a host alone that judge what has come as programs do (this project's own rule): after each line and tick the host pumps before it judges; what comes in one read it judges whole
-- before it pumps; and else it judges all that has come before it pumps again, and nothing comes meanwhile. In a tick before the host's part nothing comes but frames, and no device is shown.
use Rattle.std.specs.Prelude.{◌≡◌, true, List, [], ◌∷◌}
use Rattle.serial_frame.specs.declared.unit.Unit.{Unit as LineUnit}
use Rattle.zw_text.specs.declared.entry.Entry.{Entry}
use Rattle.zw_text.specs.declared.entry.Entry.TheVariants as entry
use Rattle.law_host.specs.law_time.Judged.{is_data}
use Rattle.proof_alone.specs.State.{HostMachine}
use Rattle.proof_alone.specs.Steps.{AreFrames, Step, Tells, Comes, Misses, Says, Says_nothing, Begins_tick, Judges}
use Rattle.proof_alone.specs.Phases.{Phase, Open, Risen}
use Rattle.proof_alone.specs.Runs.{Knowledge, Run}
use Rattle.proof_alone.specs.Runs.Run.{Begins, Turned, Stepped}

pub data Stage : Type 0 where
  -- a line was said, or a tick has begun, and it has not pumped since
  Fresh : Stage
  -- words were said that are no line: a read, after which it has not pumped, or has
  Reading : Stage
  Read : Stage
  -- it has pumped; and since then it has judged
  Looked : Stage
  Judging : Stage

-- ---- where a run leads

abbrev pub stage_judged : Stage → Stage
stage_judged Looked = Judging
stage_judged stage = stage

abbrev pub stage_pumped : Stage → Stage
stage_pumped Fresh = Looked
stage_pumped Reading = Read
stage_pumped Judging = Looked
stage_pumped stage = stage

-- by a step; and where a part is over: behind the open one it pumps
abbrev pub stage_after : Stage → Step → Stage
stage_after stage (Says words line) = Fresh
stage_after stage (Says_nothing words) = Reading
stage_after stage (Begins_tick left) = Fresh
stage_after stage (Judges item rest behind told) = stage_judged stage
stage_after stage step = stage

abbrev pub stage_turned : Stage → Phase → Stage
stage_turned stage Open = stage_pumped stage
stage_turned stage here = stage

abbrev pub stage_of : {start : HostMachine} {here : Phase} {told : List Entry} {m : HostMachine} → Run start here told m → Stage
stage_of Begins = Looked
stage_of (Turned {here = here} turns run) = stage_turned (stage_of run) here
stage_of (Stepped step may all_is later_is run) = stage_after (stage_of run) step

-- ---- careful runs

-- before the first pump of a line or tick, and after that of a read, nothing is judged
abbrev pub MayJudge : Stage → Type 0
MayJudge Fresh = ⊥
MayJudge Read = ⊥
MayJudge stage = Unit {0}

-- while it judges what has come nothing comes
abbrev pub MayMeet : Stage → Type 0
MayMeet Judging = ⊥
MayMeet stage = Unit {0}

-- and it pumps again when all is judged
abbrev pub MayPump : Stage → List LineUnit → Type 0
MayPump Judging came = came ≡ []
MayPump stage came = Unit {0}

abbrev pub MayStep : Stage → Step → Type 0
MayStep stage (Judges item rest behind told) = MayJudge stage
MayStep stage (Comes unit) = MayMeet stage
MayStep stage (Misses text marks) = MayMeet stage
MayStep stage step = Unit {0}

abbrev pub IsNoDevice : Entry → Type 0
IsNoDevice (entry.Device node setting) = ⊥
IsNoDevice e = Unit {0}

-- what a frame was changed into begins as one
abbrev pub StaysFrame : List Entry → Type 0
StaysFrame (entry.Garbled side unit ∷ more) = is_data unit ≡ true
StaysFrame marks = Unit {0}

-- in a tick before the host's part
abbrev pub MayHear : Phase → Step → Type 0
MayHear Risen (Tells e) = IsNoDevice e
MayHear Risen (Misses text marks) = (is_data text ≡ true) × StaysFrame marks
MayHear here step = Unit {0}

abbrev pub StepsWell : Stage → Phase → Step → Type 0
StepsWell stage here step = MayStep stage step × MayHear here step

-- a pump begins only where no answer is left to be judged
abbrev pub TurnsWell : Stage → Phase → HostMachine → Type 0
TurnsWell stage Open m = MayPump stage m.came × AreFrames m.came
TurnsWell stage here m = Unit {0}

abbrev pub Careful : {start : HostMachine} {here : Phase} {told : List Entry} {m : HostMachine} → Run start here told m → Type 0
Careful Begins = Unit {0}
Careful (Turned {here = here} {m = m} turns run) = Careful run × TurnsWell (stage_of run) here m
Careful (Stepped {here = here} step may all_is later_is run) = Careful run × StepsWell (stage_of run) here step

-- a run to here that is careful; some such run has these entries
abbrev pub RunCarefully : HostMachine → Knowledge
RunCarefully start here told m = (run : Run start here told m) × Careful run

abbrev pub ToldCarefully : HostMachine → List Entry → Type 0
ToldCarefully start told = (here : Phase) × (m : HostMachine) × (run : Run start here told m) × Careful run

-- a careful run that has led to this stage
pub record CarefulRun (start : HostMachine) (stage : Stage) (here : Phase) (told : List Entry) (m : HostMachine) : Type 0 where
  pub run : Run start here told m
  pub careful : Careful run
  pub at : stage_of run ≡ stage
