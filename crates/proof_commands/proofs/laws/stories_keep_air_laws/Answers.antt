-- The lines of a story were said, and the laws of the air and of the serial line are of lines that were said.
use Rattle.std.proofs.Common.{ℕ, Bool, true, List, [], ◌∷◌, ◌⊎◌, inl, inr, Some, subst, sym}
use Rattle.std.specs.List.{AllByRecursion}
use Rattle.zw_text.specs.declared.entry.Entry.{Entry}
use Rattle.law_transcript.specs.Carrying.{BringsWhatWasHeard, CarriesUnits}
use Rattle.law_transcript.specs.Fates.{FaresInTurn, LosesMarked, NumbersFrames}
use Rattle.law_transcript.specs.Sessions.{KeepsSessions}
use Rattle.law_wire.specs.Clearing.{ClearsLine}
use Rattle.law_wire.specs.Links.{KeepsLinks}
use Rattle.law_wire.specs.Marks.{CollidesWhenAsked, MarksUnits}
use Rattle.law_wire.specs.Arriving.{ForgetsDeadHops, LandsInTime, MeetsWhatIsDue, RepeatsWhatIsAsked}
use Rattle.law_wire.specs.Pipes.{OverrunsWhenFull}
use Rattle.law_wire.specs.Serial.{ended}
use Rattle.law_wire.specs.Routes.{GoesByRoute}
use Rattle.law_wire.specs.Times.{TellsTime}
use Rattle.proof_replay.specs.proof_sending.Line.{ClearsAtRestarts, ClearsNowhereElse, OverrunsOnlyWhenFull}
use Rattle.proof_host.specs.Laws.{HostLaws}
use Rattle.world_model.specs.State.{first_machine}
use Rattle.world_lines.specs.Spoken.{transcript_of}
use Rattle.proof_audit.specs.Transcript.{RepeatsNone}
use Rattle.run_all.specs.host_core.Network.{keys_of}
use Rattle.run_all.specs.Around.{Around}
use Rattle.proof_commands.specs.Laws.{Ran, AreSchedules, RepeatsNothing, KeepsRecords, first, transcript}
use Rattle.proof_commands.proofs.AsSaid.{as_run, of_any, of_new, of_telling}
use Rattle.proof_commands.proofs.Speaking.{all_said, same_transcript}
use Rattle.proof_commands.proofs.Told.{fresh}
use Rattle.proof_commands.proofs.laws.stories_keep_air_laws.Goals as goal

pub returns-clause-numbers : goal.returns-clause-numbers
returns-clause-numbers c = λ key old new story unentered is.
    of_any c.lines_are_read_as_said.ensures key old new story unentered is NumbersFrames
    (λ done runs. c.lines_number_frames.ensures (keys_of key) old.records old.devices (all_said story) done)

pub returns-clause-loses : goal.returns-clause-loses
returns-clause-loses c = λ key old new story unentered is.
    of_any c.lines_are_read_as_said.ensures key old new story unentered is LosesMarked
    (λ done runs. c.lines_lose_marked_frames.ensures (keys_of key) old.records old.devices (all_said story) done)

-- in either case
may_fare : (told : List Entry) (None Kept : Type 0) → (None → FaresInTurn told) → (Kept → FaresInTurn told) → None ⊎ Kept → FaresInTurn told
may_fare told None Kept once again (inl none) = once none
may_fare told None Kept once again (inr kept) = again kept

-- they repeat none either
none_said : (story : List Ran) → RepeatsNothing story → AllByRecursion RepeatsNone (all_said story)
none_said [] none = tt
none_said (ran ∷ more) none = (none.0, none_said more none.1)

-- sessions keep their law in the lines as they were said
sessions_said : (key : List ℕ) (old : Around) (story : List Ran) → HostLaws (transcript key old story) → KeepsSessions (transcript_of (first key old) (all_said story))
sessions_said key old story laws = subst KeepsSessions (sym (same_transcript (first key old) story)) laws.sessions_keep

pub returns-clause-fares : goal.returns-clause-fares
returns-clause-fares c = λ key old new story unentered is may whole all.
    of_any c.lines_are_read_as_said.ensures key old new story unentered is (λ (T : List Entry). FaresInTurn (ended whole T))
    (λ done runs.
    let sessions = (λ (well : KeepsRecords key old story). sessions_said key old story (c.stories_keep_laws.ensures.orders key old new story unentered is well)) in
    let told = transcript_of (first key old) (all_said story) in
    as_run (λ (b : Bool) (T : List Entry). FaresInTurn (ended b T)) told (AreSchedules (first key old) story)
    (may_fare told (RepeatsNothing story) (KeepsRecords key old story)
    (λ none. c.ticks_decide_each_frame.ensures.once (keys_of key) old.records old.devices (all_said story) (none_said story none) done)
    (λ well. c.ticks_decide_each_frame.ensures.again (keys_of key) old.records old.devices (all_said story) done (sessions well))
    may)
    (λ schedules. may_fare (ended true told) (RepeatsNothing story) (KeepsRecords key old story)
    (λ none. c.all_frames_land_in_the_end.ensures.once (keys_of key) old.records old.devices (all_said story) (none_said story none) done (runs schedules))
    (λ well. c.all_frames_land_in_the_end.ensures.again (keys_of key) old.records old.devices (all_said story) done (runs schedules) (sessions well))
    may)
    whole all)

pub returns-clause-brings : goal.returns-clause-brings
returns-clause-brings c = λ key old new story unentered is.
    of_any c.lines_are_read_as_said.ensures key old new story unentered is BringsWhatWasHeard
    (λ done runs. c.lines_bring_what_was_heard.ensures (keys_of key) old.records old.devices (all_said story) done)

pub returns-clause-collides : goal.returns-clause-collides
returns-clause-collides c = λ key old new story unentered is.
    of_any c.lines_are_read_as_said.ensures key old new story unentered is CollidesWhenAsked
    (λ done runs. c.lines_collide_when_asked.ensures (keys_of key) old.records old.devices (all_said story) done)

pub returns-clause-marks : goal.returns-clause-marks
returns-clause-marks c = λ key old new story unentered is whole all.
    of_any c.lines_are_read_as_said.ensures key old new story unentered is (λ (T : List Entry). MarksUnits (ended whole T))
    (λ done runs. c.lines_mark_units.ensures (keys_of key) old.records old.devices (all_said story) whole done (λ is_whole. runs (all is_whole)))

pub returns-clause-overruns : goal.returns-clause-overruns
returns-clause-overruns c = λ key old new story unentered is.
    of_any c.lines_are_read_as_said.ensures key old new story unentered is OverrunsOnlyWhenFull
    (λ done runs. c.lines_overrun_only_when_full.ensures (keys_of key) old.records old.devices (all_said story) done)

pub returns-clause-clears : goal.returns-clause-clears
returns-clause-clears c = λ key old new story unentered is.
    of_any c.lines_are_read_as_said.ensures key old new story unentered is ClearsAtRestarts
    (λ done runs. c.lines_clear_at_restarts.ensures (keys_of key) old.records old.devices (all_said story) done)

pub returns-clause-nowhere : goal.returns-clause-nowhere
returns-clause-nowhere c = λ key old new story unentered is whole.
    of_any c.lines_are_read_as_said.ensures key old new story unentered is (ClearsNowhereElse whole)
    (λ done runs. c.lines_clear_nowhere_else.ensures (keys_of key) old.records old.devices (all_said story) done whole)

pub returns-clause-ticks : goal.returns-clause-ticks
returns-clause-ticks c = λ key old new story unentered is whole all.
    of_any c.lines_are_read_as_said.ensures key old new story unentered is (λ (T : List Entry). TellsTime (ended whole T))
    (λ done runs. c.ticks_are_told.ensures (keys_of key) old.records old.devices (all_said story) whole done (λ is_whole. runs (all is_whole)))

pub returns-clause-routes : goal.returns-clause-routes
returns-clause-routes c = λ key old new story unentered is tells.
    of_telling c.lines_are_read_as_said.ensures key old new story unentered is tells (GoesByRoute old.devices)
    (λ texts done runs. c.frames_go_by_route.ensures (keys_of key) texts old.devices (all_said story) done)

pub returns-clause-forgets : goal.returns-clause-forgets
returns-clause-forgets c = λ key old new story unentered is tells whole all.
    of_telling c.lines_are_read_as_said.ensures key old new story unentered is tells (λ (T : List Entry). ForgetsDeadHops (ended whole T))
    (λ texts done runs. as_run (λ (b : Bool) (T : List Entry). ForgetsDeadHops (ended b T)) (transcript_of (first_machine (keys_of key) (Some texts) old.devices) (all_said story)) (AreSchedules (first key old) story)
    (c.dead_hops_are_forgotten.ensures (keys_of key) texts old.devices (all_said story) done)
    (λ schedules. c.dead_hops_are_forgotten_in_the_end.ensures (keys_of key) texts old.devices (all_said story) done (runs schedules)) whole all)

pub returns-clause-carries : goal.returns-clause-carries
returns-clause-carries c = λ key old new story unentered is tells.
    of_new c.lines_are_read_as_said.ensures key old new story unentered is tells CarriesUnits
    (λ done runs. c.lines_carry_units.ensures (keys_of key) old.devices (all_said story) done)

pub returns-clause-lands : goal.returns-clause-lands
returns-clause-lands c = λ key old new story unentered is whole all.
    of_any c.lines_are_read_as_said.ensures key old new story unentered is (λ (T : List Entry). LandsInTime (ended whole T))
    (λ done runs. c.lines_land_in_time.ensures (keys_of key) old.records old.devices (all_said story) whole done (λ is_whole. runs (all is_whole)))

pub returns-clause-repeats : goal.returns-clause-repeats
returns-clause-repeats c = λ key old new story unentered is well whole all.
    of_any c.lines_are_read_as_said.ensures key old new story unentered is (λ (T : List Entry). RepeatsWhatIsAsked old.devices (ended whole T))
    (λ done runs.
    let numbers = c.lines_number_frames.ensures (keys_of key) old.records old.devices (all_said story) done in
    let sessions = sessions_said key old story (c.stories_keep_laws.ensures.orders key old new story unentered is well) in
    as_run (λ (b : Bool) (T : List Entry). RepeatsWhatIsAsked old.devices (ended b T)) (transcript_of (first key old) (all_said story)) (AreSchedules (first key old) story)
    (c.lines_repeat_what_is_asked.ensures.cut (keys_of key) old.records old.devices (all_said story) done numbers sessions)
    (λ schedules. c.lines_repeat_what_is_asked.ensures.whole (keys_of key) old.records old.devices (all_said story) done (runs schedules) numbers sessions) whole all)

pub returns-clause-meets : goal.returns-clause-meets
returns-clause-meets c = λ key old new story unentered is tells.
    of_telling c.lines_are_read_as_said.ensures key old new story unentered is tells (MeetsWhatIsDue old.devices)
    (λ texts done runs. c.lines_meet_what_is_due.ensures (keys_of key) texts old.devices (all_said story) done
    (c.lines_number_frames.ensures (keys_of key) (Some texts) old.devices (all_said story) done))

pub returns-clause-overrun : goal.returns-clause-overrun
returns-clause-overrun c = λ key old new story unentered is tells whole all.
    of_new c.lines_are_read_as_said.ensures key old new story unentered is tells (λ (T : List Entry). OverrunsWhenFull (ended whole T))
    (λ done runs. c.lines_overrun_when_full.ensures (keys_of key) old.devices (all_said story) whole done (λ is_whole. runs (all is_whole)))

pub returns-clause-links : goal.returns-clause-links
returns-clause-links c = λ key old new story unentered is tells whole all.
    of_new c.lines_are_read_as_said.ensures key old new story unentered is tells (KeepsLinks whole)
    (λ done runs. as_run KeepsLinks (transcript_of (fresh key old) (all_said story)) (AreSchedules (first key old) story)
    (c.lines_keep_links.ensures.cut (keys_of key) old.devices (all_said story) done)
    (λ schedules. c.lines_keep_links.ensures.whole (keys_of key) old.devices (all_said story) done (runs schedules)) whole all)

pub returns-clause-clears_line : goal.returns-clause-clears_line
returns-clause-clears_line c = λ key old new story unentered is tells whole all.
    of_new c.lines_are_read_as_said.ensures key old new story unentered is tells (ClearsLine whole)
    (λ done runs. as_run ClearsLine (transcript_of (fresh key old) (all_said story)) (AreSchedules (first key old) story)
    (c.lines_clear_the_line.ensures.cut (keys_of key) old.devices (all_said story) done)
    (λ schedules. c.lines_clear_the_line.ensures.whole (keys_of key) old.devices (all_said story) done (runs schedules)) whole all)
