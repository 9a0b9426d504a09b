-- At each step of a host alone the records of its keeper cancel the commands that its transcript shows to be taken back.
use Rattle.std.proofs.Common.{◌≡◌, List, [], ◌∷◌, ◌++◌, refl, sym, ap, ◌∙◌, append-nil}
use Rattle.std.specs.List.{AllByRecursion, flat_map}
use Rattle.zw_words.specs.declared.side.Side.TheVariants.{Chip}
use Rattle.zw_text.specs.declared.entry.Entry.{Entry}
use Rattle.zw_text.specs.declared.entry.Entry.TheVariants as entry
use Rattle.zw_text.specs.Transcript.{shown}
use Rattle.proof_transcript.specs.law_transcript.Records.{cancelled_at}
use Rattle.proof_transcript.specs.law_time.Moments.{Allows}
use Rattle.proof_transcript.specs.law_time.Waking.{may_wake}
use Rattle.host_keep.specs.declared.record.Record.{Record}
use Rattle.proof_waking.specs.host_model.State.{HostState}
use Rattle.proof_waking.specs.host_model.Did.{MayAll}
use Rattle.proof_waking.specs.host_model.Events.{HostEvent, Hears}
use Rattle.proof_waking.specs.host_model.Outs.{answers, outs}
use Rattle.proof_waking.specs.host_model.Records.{records_at}
use Rattle.proof_waking.specs.host_model.declared.out.HostOut.{HostOut}
use Rattle.proof_transcript.specs.world_model.Events.{shown_values}
use Rattle.proof_transcript.specs.proof_host.Entries.{notes_of}
use Rattle.proof_transcript.specs.Records.{TellsCancelled, cancelled_by}
use Rattle.proof_transcript.proofs.CancelledRecords.{event_cancels}
use Rattle.proof_transcript.proofs.RecordsWalking.{host_adds, silent}
use Rattle.proof_waking.specs.proof_alone.State.{HostMachine, done}
use Rattle.proof_waking.specs.proof_alone.Steps.{AreTold, IsOfOthers, Step, Tells, Comes, Misses, Says, Says_nothing, Asks, Refuses, Shows, Restarts, Begins_tick, Numbers, Judges, Does, entries, happens}
use Rattle.proof_waking.specs.proof_alone.Phases.{Phase, May}
use Rattle.proof_waking.specs.proof_alone.Runs.{WalkOver}
use Rattle.proof_waking.specs.proof_alone.Tables.{KnowsTables}
use Rattle.proof_waking.proofs.proof_alone_Apart.{AreOfLine, missed_are}
use Rattle.proof_waking.proofs.InOrder.{asked_puts, event_in_part, is_asked}
use Rattle.proof_known.specs.Known.{KnowsCancelled, KnowsNodes}
use Rattle.proof_known.proofs.Events.{none_shown, told_shown}

-- ---- entries that take no command back

abbrev TakesNone : Entry → Type 0
TakesNone e = cancelled_at e ≡ []

others_none : (e : Entry) → IsOfOthers e → TakesNone e
others_none (entry.Out command how) others = absurd others
others_none e others = refl

line_none : AreOfLine TakesNone
line_none = record { written = λ side text. refl; dropped = λ side. refl; garbled = λ side text. refl; overrun = λ side. refl }

quiet_tells : (past told : List Entry) (m : HostMachine) → AllByRecursion TakesNone told → TellsCancelled past m.records → TellsCancelled (past ++ told) m.records
quiet_tells past told m all tells = silent past told m.records (none_shown cancelled_at told all) tells

-- ---- events

-- the records of an event cancel what its answer and its notes show
event_same : (h : HostState) (event : HostEvent) → flat_map cancelled_by (records_at h event ++ []) ≡ shown cancelled_at (answers h event ++ notes_of (outs h event))
event_same h event = ap (λ (l : List Record). flat_map cancelled_by l) (append-nil (records_at h event)) ∙ event_cancels h event

told_tells : (past told : List Entry) (m : HostMachine) (event : HostEvent) → MayAll m.state (event ∷ []) → answers m.state event ≡ [] → AreTold (outs m.state event) told → TellsCancelled past m.records
    → TellsCancelled (past ++ told) (done m event).records
told_tells past told m event may none are tells =
    let h : HostState = m.state in
    host_adds past told m.records h (event ∷ []) may
    (event_same h event ∙ ap (λ (l : List Entry). shown cancelled_at (l ++ notes_of (outs h event))) none ∙ sym (told_shown cancelled_at line_none (outs h event) told are)) tells

asked_tells : (past : List Entry) (m : HostMachine) (event : HostEvent) → MayAll m.state (event ∷ []) → outs m.state event ≡ [] → TellsCancelled past m.records
    → TellsCancelled (past ++ answers m.state event) (done m event).records
asked_tells past m event may none tells =
    let h : HostState = m.state in
    host_adds past (answers h event) m.records h (event ∷ []) may
    (event_same h event ∙ ap (λ (l : List HostOut). shown cancelled_at (answers h event ++ notes_of l)) none ∙ ap (λ (l : List Entry). shown cancelled_at l) (append-nil (answers h event))) tells

-- ---- the walk

step_goes : (here next : Phase) (past : List Entry) (m : HostMachine) (one : Step) → May here m one next → KnowsTables here past m → TellsCancelled past m.records
    → TellsCancelled (past ++ entries m one) (happens m one).records
step_goes here next past m (Tells e) may tables tells = quiet_tells past (e ∷ []) m (others_none e may.1, tt) tells
step_goes here next past m (Comes unit) may tables tells = quiet_tells past _ m (refl, tt) tells
step_goes here next past m (Misses text marks) may tables tells = quiet_tells past (entry.Written Chip text ∷ marks) m (refl, missed_are TakesNone line_none marks may.1) tells
step_goes here next past m (Says words line) may tables tells = quiet_tells past _ m (refl, tt) tells
step_goes here next past m (Says_nothing words) may tables tells = quiet_tells past _ m (refl, tt) tells
step_goes here next past m (Asks event) (line, here_is, asked, may, numbered, is) tables tells = asked_tells past m event may (asked_puts m.state event (is_asked line m.state event asked)) tells
step_goes here next past m (Refuses refusal) may tables tells = quiet_tells past _ m (refl, tt) tells
step_goes here next past m (Shows node) may tables tells = quiet_tells past (shown_values m.state node ∷ []) m (refl, tt) tells
step_goes here next past m (Restarts state) may tables tells = quiet_tells past [] m tt tells
step_goes here next past m (Begins_tick left) may tables tells = quiet_tells past [] m tt tells
step_goes here next past m Numbers may tables tells = quiet_tells past _ m (refl, tt) tells
step_goes here next past m (Judges item rest behind told) may tables tells = told_tells past told m (Hears item) may.1.may refl may.1.told_so tells
step_goes here next past m (Does event told) may tables tells =
    told_tells past told m event may.1 (event_in_part here next m.state event may.0 tables.1).silent may.2 tells

pub cancelled_walk : WalkOver KnowsNodes (Allows may_wake) (Allows may_wake) KnowsCancelled
cancelled_walk = record {
  step = λ here next past m one may ground stand tells. (stand, step_goes here next past m one may ground.0.0 tells);
  turn = λ here next past m turns ground tells. tells;
}
