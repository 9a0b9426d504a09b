-- The steps of a run are events of the host, one after another.
use Rattle.std.proofs.Common.{◌≡◌, ℕ, inl, inr, List, [], ◌∷◌, ◌++◌, Option, refl, sym, ap, subst, arith}
use Rattle.zw_text.specs.declared.line.Line.{Line}
use Rattle.host_model.specs.Events.{HostEvent}
use Rattle.host_model.specs.State.{HostParts}
use Rattle.host_model.specs.Did.{Did}
use Rattle.host_model.specs.declared.out.HostOut.{HostOut}
use Rattle.host_model.proofs.EventLists.{did_both, did_nothing, none_added}
use Rattle.run_all.specs.host_core.Network.{keys_of}
use Rattle.run_lines.specs.declared.status.Status.{Status}
use Rattle.s0_crypto.specs.declared.key_pair.Keys.{Keys}
use Rattle.run_all.specs.port_run.declared.asking.Answer.{Answer}
use Rattle.run_all.specs.port_run.declared.asking.Answer.TheVariants.{Taken, Command, Refused}
use Rattle.run_all.specs.port_run.declared.stop.Stop.{Stop}
use Rattle.run_all.specs.port_run.declared.stop.Stop.TheVariants as stop
use Rattle.run_all.specs.port_run.declared.ending.Served.{Served}
use Rattle.run_all.specs.port_run.declared.ending.Served.TheVariants.{Ok, Undone, BadLine, Opening, ReadFault, WriteFault, InputTooLong, NoMemory}
use Rattle.run_all.specs.port_run.Steps.{Place, Step, Asks, Takes, Rests, Ticks, Pumps, Asked, Ran, AllRan}
use Rattle.run_all.specs.port_run.Schedule.{Telling, is_quiet}
use Rattle.run_all.specs.port_run.Serving.{Halts}
use Rattle.run_all.specs.port_run.Ending.{Desk, start_of, RanAll, RanSome, Ended, HostRan, IsUntouched, status_of}
use Rattle.proof_commands.specs.Port.{Story, ToldAll, ToldSome, Tells, StillOr, outs_by}
use Rattle.proof_replay.proofs.Serving.{added}

-- what happened from one place to another
abbrev Goes : Place → Place → List HostOut → Type 0
Goes old new outs = (events : List HostEvent) × Did events old.host.state new.host.state [] outs old.shelf new.shelf

stands : (place : Place) (outs : List HostOut) → outs ≡ [] → Goes place place outs
stands place outs none = ([], did_nothing place.host.state place.host.state [] outs place.shelf place.shelf refl none (none_added place.shelf.records) (omega arith))

asked : (line : Line) (answer : Answer) (old new : Place) (outs : List HostOut) → outs ≡ [] → Asked line answer old new → Goes old new outs
asked line Refused old new outs none ran =
    ([], did_nothing old.host.state new.host.state [] outs old.shelf new.shelf (ap (λ (h : HostParts). h.state) ran.0.host) none ran.0.records ran.0.never_falls)
asked line Taken old new outs none ran =
    subst (λ (l : List HostOut). Goes old new l) (sym none) (ran.does.events, ran.does.did)
asked line (Command number) old new outs none ran =
    subst (λ (l : List HostOut). Goes old new l) (sym none) (ran.does.events, ran.does.did)

step : (one : Step) (old new : Place) (outs : List HostOut) → Ran one old new outs → Goes old new outs
step (Asks line answer) old new outs ran = asked line answer old new outs ran.1 ran.0
step (Takes bytes) old new outs ran = (ran.events, ran.did)
step Rests old new outs ran = subst (λ (p : Place). Goes old p outs) (sym ran.0) (stands old outs ran.1)
step Ticks old new outs ran = (ran.0.events, ran.0.did)
step Pumps old new outs ran = (ran.0.events, ran.0.did)

both : (old mid new : Place) (outs more : List HostOut) → Goes old mid outs → Goes mid new more → Goes old new (outs ++ more)
both old mid new outs more (a, first) (b, later) =
    (a ++ b, did_both a b old.host.state mid.host.state new.host.state [] outs (outs ++ more) old.shelf mid.shelf new.shelf first (added b mid new outs more later))

steps_go : (steps : List Step) (old new : Place) (outs : List HostOut) → AllRan steps old new outs → Goes old new outs
steps_go [] old new outs ran = subst (λ (p : Place). Goes old p outs) (sym ran.0) (stands old outs ran.1)
steps_go (one ∷ steps) old new outs ran =
    let (mid, first, later, now, rest, are) = ran in
    subst (λ (l : List HostOut). Goes old new l) (sym are) (both old mid new first later (step one old mid first now) (steps_go steps mid new later rest))

-- ---- where it stopped

halts_go : (reason : Stop) (steps : List Step) (old new : Place) (sink sink' : Option (List ℕ)) (halts : Halts reason steps old new sink sink')
    → Goes old new (outs_by reason steps old new sink sink' halts)
halts_go stop.ReadFault steps old new sink sink' halts = steps_go steps old new halts.outs halts.ran
halts_go stop.InputTooLong steps old new sink sink' halts = steps_go steps old new halts.outs halts.ran
halts_go stop.WriteFault steps old new sink sink' halts = steps_go steps old new halts.outs halts.ran
halts_go stop.NoMemory steps old new sink sink' halts =
    let (events, did) = steps_go steps old halts.mid halts.some halts.ran in (
      events ++ halts.events,
      did_both events halts.events old.host.state halts.mid.host.state new.host.state [] halts.some halts.all old.shelf halts.mid.shelf new.shelf did halts.did,
    )

-- ---- stories

all_told : (end : Served) (telling : Telling) (keys : Keys) (number : ℕ) (texts : List (List ℕ)) (old new : Desk) → RanAll end telling keys number texts old new
    → (story : Story) × ToldAll end telling keys number texts old new story
all_told end telling keys number texts old new ran =
    let (events, did) = steps_go ran.steps (start_of ran.started) (record { host = ran.host; shelf = new.shelf }) ran.went.wrote.outs ran.went.wrote.ran in
    (record { records = ran.started.opens.records; events = events }, (ran, record { records = refl; did = did }))

some_told : (reason : Stop) (telling : Telling) (keys : Keys) (number : ℕ) (texts : List (List ℕ)) (old new : Desk) → RanSome reason telling keys number texts old new
    → (story : Story) × ToldSome reason telling keys number texts old new story
some_told reason telling keys number texts old new ran =
    let (events, did) = halts_go reason ran.broke.steps (start_of ran.started) (record { host = ran.host; shelf = new.shelf }) old.written new.written ran.broke.halts in
    (record { records = ran.started.opens.records; events = events }, (ran, record { records = refl; did = did }))

-- the story of a run that ended so
abbrev ToldOf : List ℕ → ℕ → List (List ℕ) → Desk → Desk → Served → Type 0
ToldOf key number texts old new end = (story : Story) × Tells (status_of end) key number texts old new story

module _ (key : List ℕ) (number : ℕ) (texts : List (List ℕ)) (old new : Desk) where
  is_told : (end : Served) → Ended end is_quiet (keys_of key) number texts old new → StillOr end (IsUntouched old new) (ToldOf key number texts old new end)
  is_told Ok ran = let (story, is) = all_told Ok is_quiet (keys_of key) number texts old new ran in (story, record { end = Ok; status_is = refl; is = is })
  is_told (Undone line) ran =
      let (story, is) = all_told (Undone line) is_quiet (keys_of key) number texts old new ran in (story, record { end = Undone line; status_is = refl; is = is })
  is_told (BadLine line fault) ran = ran.1
  is_told (Opening fault) ran = ran.1
  is_told ReadFault ran =
      let (story, is) = some_told stop.ReadFault is_quiet (keys_of key) number texts old new ran in (story, record { end = ReadFault; status_is = refl; is = is })
  is_told WriteFault ran =
      let (story, is) = some_told stop.WriteFault is_quiet (keys_of key) number texts old new ran in (story, record { end = WriteFault; status_is = refl; is = is })
  is_told InputTooLong ran =
      let (story, is) = some_told stop.InputTooLong is_quiet (keys_of key) number texts old new ran in (story, record { end = InputTooLong; status_is = refl; is = is })
  is_told NoMemory (inl untouched) = inl untouched
  is_told NoMemory (inr ran) =
      let (story, is) = some_told stop.NoMemory is_quiet (keys_of key) number texts old new ran in inr (story, record { end = NoMemory; status_is = refl; is = is })

pub has_story : (ended : Status) (key : List ℕ) (number : ℕ) (texts : List (List ℕ)) (old new : Desk) (ran : HostRan ended key number texts old new)
    → StillOr ran.end (IsUntouched old new) ((story : Story) × Tells ended key number texts old new story)
has_story ended key number texts old new ran =
    subst (λ (s : Status). StillOr ran.end (IsUntouched old new) ((story : Story) × Tells s key number texts old new story)) (sym ran.status_is)
    (is_told key number texts old new ran.end ran.ended)
