-- A run of `host` is heard: its steps are those of its lines, and its host started from the records that its keeper held.
use Rattle.std.proofs.Common.{ℕ, Bool, true, false, inl, inr, List}
use Rattle.std.specs.Prelude.{Option}
use Rattle.std.specs.List.{AllByRecursion}
use Rattle.zw_text.specs.declared.entry.Entry.{Entry}
use Rattle.s0_crypto.specs.declared.key_pair.Keys.{Keys}
use Rattle.host_model.specs.declared.out.HostOut.{HostOut}
use Rattle.run_all.specs.port_run.declared.asking.Answer.{Answer}
use Rattle.run_all.specs.port_run.declared.ending.Served.{Served}
use Rattle.run_all.specs.port_run.declared.ending.Served.TheVariants.{Ok, Undone, BadLine, Opening, ReadFault, WriteFault, InputTooLong, NoMemory}
use Rattle.run_all.specs.port_run.declared.line.PortLine.{PortLine}
use Rattle.run_all.specs.port_run.declared.stop.Stop.{Stop}
use Rattle.run_all.specs.port_run.declared.stop.Stop.TheVariants as stop
use Rattle.run_all.specs.port_run.Steps.{AllRan, Place, Step}
use Rattle.run_all.specs.port_run.Schedule.{CutRun, RunSteps, is_quiet}
use Rattle.run_all.specs.port_run.Serving.{Halts}
use Rattle.run_all.specs.port_run.Ending.{Desk, Ended, RanAll, RanSome, Started, start_of}
use Rattle.proof_replay.specs.HostSteps.{HearsMore, IsRunSteps, IsServedLine}
use Rattle.proof_commands.specs.Port.{HearsAll, HearsSo, HearsSome, reached}
use Rattle.proof_commands.proofs.PortWords.{served_lines}

-- the steps of a run that stopped were done up to there
halts_ran : (reason : Stop) (steps : List Step) (old new : Place) (sink sink' : Option (List ℕ)) (halts : Halts reason steps old new sink sink')
    → (outs : List HostOut) × AllRan steps old (reached reason steps old new sink sink' halts) outs
halts_ran stop.ReadFault steps old new sink sink' halts = (halts.outs, halts.ran)
halts_ran stop.InputTooLong steps old new sink sink' halts = (halts.outs, halts.ran)
halts_ran stop.WriteFault steps old new sink sink' halts = (halts.outs, halts.ran)
halts_ran stop.NoMemory steps old new sink sink' halts = (halts.some, halts.ran)

module _ (runs : (lines : List PortLine) (answers : List Answer) (steps : List Step) → AllByRecursion IsServedLine lines → RunSteps is_quiet lines answers steps → IsRunSteps true steps)
    (cuts : (lines : List PortLine) (reason : Stop) (steps : List Step) → AllByRecursion IsServedLine lines → CutRun is_quiet lines reason steps → IsRunSteps false steps)
    (keys : Keys) (number : ℕ) (texts : List (List ℕ)) (old new : Desk) (past : List Entry) (clock : ℕ)
    (goes : (started : Started keys number texts old) (whole : Bool) (steps : List Step) (last : Place) (outs : List HostOut) → IsRunSteps whole steps → AllRan steps (start_of started) last outs
    → HearsMore keys past clock whole steps (start_of started) last) where
  all_heard : (end : Served) (ran : RanAll end is_quiet keys number texts old new) → HearsAll end is_quiet keys number texts old new ran past clock
  all_heard end ran =
      goes ran.started true ran.steps (record { host = ran.host; shelf = new.shelf }) ran.went.wrote.outs
      (runs ran.started.lines ran.answers ran.steps (served_lines texts ran.started.lines ran.started.read) ran.are) ran.went.wrote.ran

  some_heard : (reason : Stop) (ran : RanSome reason is_quiet keys number texts old new) → HearsSome reason is_quiet keys number texts old new ran past clock
  some_heard reason ran =
      let last : Place = record { host = ran.host; shelf = new.shelf } in
      let done = halts_ran reason ran.broke.steps (start_of ran.started) last old.written new.written ran.broke.halts in
      goes ran.started false ran.broke.steps (reached reason ran.broke.steps (start_of ran.started) last old.written new.written ran.broke.halts) done.0
      (cuts ran.started.lines reason ran.broke.steps (served_lines texts ran.started.lines ran.started.read) ran.broke.cut) done.1

  pub heard_so : (end : Served) (ended : Ended end is_quiet keys number texts old new) → HearsSo end is_quiet keys number texts old new ended past clock
  heard_so Ok ran = all_heard Ok ran
  heard_so (Undone line) ran = all_heard (Undone line) ran
  heard_so (BadLine line fault) ran = tt
  heard_so (Opening fault) ran = tt
  heard_so ReadFault ran = some_heard stop.ReadFault ran
  heard_so WriteFault ran = some_heard stop.WriteFault ran
  heard_so InputTooLong ran = some_heard stop.InputTooLong ran
  heard_so NoMemory (inl untouched) = tt
  heard_so NoMemory (inr ran) = some_heard stop.NoMemory ran
