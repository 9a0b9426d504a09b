-- Each event of the whole machine, in the courses of a lock.
use Rattle.std.proofs.Common.{◌≡◌, ℕ, ◌<◌, true, Option, List, [], ◌∷◌, ◌++◌, drop, ap, sym, ◌∙◌, subst, append-nil}
use Rattle.std.specs.List.{AllByRecursion}
use Rattle.serial_frame.specs.Items.{IsUnit}
use Rattle.serial_frame.specs.Stream.{Rest, no_rest, after_tick}
use Rattle.serial_frame.specs.declared.item.Item.{Item}
use Rattle.serial_link.specs.declared.turn.Turn.{Turn}
use Rattle.serial_pipes.specs.State.{WayState}
use Rattle.chip_sim.specs.State.{ChipParts}
use Rattle.chip_sim.specs.Rules.{WaitsWell}
use Rattle.zw_words.specs.declared.side.Side.TheVariants as side
use Rattle.zw_text.specs.declared.entry.Entry.{Entry}
use Rattle.zw_text.specs.declared.entry.Entry.TheVariants.{Refused}
use Rattle.device_sim.specs.State.{State}
use Rattle.mesh_sim.specs.Air.{AirState}
use Rattle.outside_model.specs.State.{Outside}
use Rattle.outside_model.specs.Events.{OuterEvent, Host_takes as host_takes, Host_notes, is_own, mesh_of, May as MayOutside, happens as happens_outside}
use Rattle.outside_model.specs.Did.{happens_all as happens_all_outside}
use Rattle.host_model.specs.State.{HostState}
use Rattle.host_model.specs.Events.{HostEvent}
use Rattle.host_model.specs.After.{after as after_host}
use Rattle.host_model.specs.Outs.{outs, answers}
use Rattle.host_model.specs.Did.{after_all, outs_all, MayAll as MayAllHost}
use Rattle.host_model.specs.May.{May as MayHost}
use Rattle.host_model.specs.Facts.{HostFacts}
use Rattle.host_model.specs.Taking.{AreJudged}
use Rattle.host_model.specs.declared.out.HostOut.{HostOut}
use Rattle.world_model.specs.State.{Machine, with_outside, routed}
use Rattle.world_model.specs.Events.{Event, Outside_does, Host_does, Host_takes, Decoder_ticks, Refuses, Shows_values, Restarts, notes, shown_values, MayTake, May, happens}
use Rattle.world_model.specs.Did.{happens_all, MayAll}
use Rattle.proof_course_plain.specs.proof_serial.Way.{Carries}
use Rattle.proof_course_plain.specs.proof_serial.Line.{host_units, WritesWell, AllWriteWell, OuterAtRest, IsAtRest, AllAtRest}
use Rattle.proof_course_plain.specs.proof_serial.Chip.{HasFrames}
use Rattle.proof_course_plain.proofs.proof_serial_Outer.{Written}
use Rattle.proof_course_plain.proofs.EndedItems.{LeftOf}
use Rattle.proof_course_plain.proofs.Ways.{carries_left}
use Rattle.proof_course_plain.specs.Restarts.{StartsWell, KeepsWell, AllKeepWell, IsHeld}
use Rattle.proof_course_plain.specs.OnAir.{OuterStaysFew, EventStaysFew, AlwaysFew}
use Rattle.proof_course_plain.specs.Tied.{AreOutcomes}
use Rattle.proof_course_plain.specs.Lines.{OnWay}
use Rattle.proof_course_plain.specs.Outside.{Rests}
use Rattle.proof_course_plain.specs.Told.{HasPast}
use Rattle.proof_course_plain.specs.HostGoing.{AllWell}
use Rattle.proof_course_plain.proofs.HostActs.{SameAir, note_air}
use Rattle.proof_course_plain.proofs.Told.{PastLaws, past_kept}
use Rattle.proof_course_plain.proofs.Whole.{note_written, units_each, fed_outside, rests_of}
use Rattle.proof_course_sealed.specs.Courses.{Courses, CoursesFacts}
use Rattle.proof_course_sealed.specs.Meaning.{Past}
use Rattle.proof_course_sealed.specs.Mesh.{InMesh}
use Rattle.proof_course_sealed.specs.Lines.{Tells}
use Rattle.proof_course_sealed.specs.Outside.{Follows, OuterGoes}
use Rattle.proof_course_sealed.specs.Host.{AsksFitly}
use Rattle.proof_course_sealed.specs.HostGoing.{HostFollows, HostGoes, IsUnheard}
use Rattle.proof_course_sealed.specs.World.{WorldFollows, WorldGoes, IsFitly, HearsInPipe}
use Rattle.proof_course_sealed.proofs.CourseSteps.{FactLaws, facts_go, goes_nowhere, goes_on, grows_none, grows_then, gives_grows}
use Rattle.proof_course_sealed.proofs.KeptMeanings.{host_same}
use Rattle.proof_course_sealed.proofs.Restarts.{Laws as RestartLaws, restart_goes}

-- ---- entries alone

module _ (node : ℕ) where
  mesh_same : (past : Past) (c : Courses) (w v : Outside) → SameAir w v → InMesh past node c (mesh_of w) → InMesh past node c (mesh_of v)
  mesh_same past c w v same is =
      subst (λ (ds : List State). InMesh past node c (record { air = v.outer.air; devices = ds })) (sym same.devices)
      (subst (λ (a : AirState). InMesh past node c (record { air = a; devices = w.devices })) (sym same.air) is)

  -- what is outside is as before
  host_stays : (past : Past) (c : Courses) (rest : Rest) (up yet down : List Item) (h : HostState) (w v : Outside) → SameAir w v → Written [] w.outer v.outer → HostFollows past node c rest up yet down h w → HostFollows past node c rest up yet down h v
  host_stays past c rest up yet down h w v same written f = record {
    text = f.text;
    tasks = f.tasks;
    mesh = mesh_same past c w v same f.mesh;
    to_chip = subst (λ (y : WayState). Carries v.outer.chip.decoder y up) (sym written.to_chip) (subst (λ (r : Rest). Carries r w.outer.to_chip up) (sym (ap (λ (x : ChipParts). x.decoder) written.chip)) f.to_chip);
    to_host = subst (λ (y : WayState). Carries rest y down) (sym written.to_host) f.to_host;
    frames = subst (λ (x : ChipParts). HasFrames x.state.port) (sym written.chip) f.frames;
    waits = subst (λ (x : ChipParts). WaitsWell x.state.port) (sym written.chip) f.waits;
    carried = f.carried;
    go_up = f.go_up;
    messages = f.messages;
    late = f.late;
    go_down = f.go_down;
    reports = subst (λ (x : ChipParts). OnWay (Tells past node) f.late (yet ++ down) x.state.port.side.turn x.state.port.waiting) (sym written.chip) f.reports;
    host = f.host;
    outcomes = f.outcomes;
  }

  note_goes : (past : Past) (c : Courses) (rest : Rest) (down : List Item) (h : HostState) (w : Outside) (e : Entry) → HostGoes past node c rest [] down h w → HostGoes past node c rest [] down h (happens_outside w (Host_notes e))
  note_goes past c rest down h w e g = record {
    later_past = g.later_past;
    later = g.later;
    grows = g.grows;
    goes = g.goes;
    up = g.up;
    follows = host_stays g.later_past g.later rest g.up [] down h w (happens_outside w (Host_notes e)) (note_air w e) (note_written w e) g.follows;
  }

  notes_go : (past : Past) (c : Courses) (rest : Rest) (down : List Item) (h : HostState) (w : Outside) (entries : List Entry) → HostGoes past node c rest [] down h w → HostGoes past node c rest [] down h (happens_all_outside w (notes entries))
  notes_go past c rest down h w [] g = g
  notes_go past c rest down h w (e ∷ entries) g = notes_go past c rest down h (happens_outside w (Host_notes e)) entries (note_goes past c rest down h w e g)

  -- ---- the host beside what is outside

  at_host : (past : Past) (c : Courses) (up down : List Item) (m : Machine) → WorldFollows past node c up down m → HostFollows past node c m.host.decoder up [] down m.host.state m.outside
  at_host past c up down m f = record {
    text = f.text;
    tasks = f.tasks;
    mesh = f.outside.mesh;
    to_chip = f.outside.to_chip;
    to_host = f.outside.to_host;
    frames = f.outside.frames;
    waits = f.outside.waits;
    carried = f.outside.carried;
    go_up = f.outside.go_up;
    messages = f.outside.messages;
    late = f.outside.late;
    go_down = f.outside.go_down;
    reports = f.outside.reports;
    host = f.host;
    outcomes = f.outcomes;
  }

  in_world : FactLaws → (past : Past) (c : Courses) (down : List Item) (m : Machine) → m.keys ≡ past.keys → CoursesFacts c → HasPast m.host.state → HostGoes past node c m.host.decoder [] down m.host.state m.outside → WorldGoes past node c m
  in_world laws past c down m keys course recorded g = record {
    later_past = g.later_past;
    later = g.later;
    grows = g.grows;
    goes = g.goes;
    up = g.up;
    down = down;
    follows = record {
      keys = keys ∙ sym g.grows.keys;
      text = g.follows.text;
      tasks = g.follows.tasks;
      outside = record {
        mesh = g.follows.mesh;
        to_chip = g.follows.to_chip;
        to_host = g.follows.to_host;
        frames = g.follows.frames;
        waits = g.follows.waits;
        carried = g.follows.carried;
        go_up = g.follows.go_up;
        messages = g.follows.messages;
        late = g.follows.late;
        go_down = g.follows.go_down;
        reports = g.follows.reports;
      };
      host = g.follows.host;
      facts = recorded.facts.host;
      recorded = recorded;
      course = facts_go laws c g.later course g.goes;
      outcomes = g.follows.outcomes;
    };
  }

  still : (past : Past) (c : Courses) (up down : List Item) (m : Machine) → WorldFollows past node c up down m → HostGoes past node c m.host.decoder [] down m.host.state m.outside
  still past c up down m f = record { later_past = past; later = c; grows = grows_none past; goes = goes_nowhere c; up = up; follows = at_host past c up down m f }

  -- ---- the host takes bytes out of its pipe

  pub fed_follows : (past : Past) (c : Courses) (up down : List Item) (m : Machine) (count : ℕ) (rest : Rest) (items : List Item) (left : LeftOf rest (drop count m.outside.outer.to_host.bytes) down items) → WorldFollows past node c up down m
      → HostFollows past node c rest up items left.left m.host.state (happens_outside m.outside (host_takes count))
  fed_follows past c up down m count rest items left f = subst (λ (u : Outside). HostFollows past node c rest up items left.left m.host.state u) (sym (fed_outside m.outside count)) (record {
    text = f.text;
    tasks = f.tasks;
    mesh = f.outside.mesh;
    to_chip = f.outside.to_chip;
    to_host = left.feeds;
    frames = f.outside.frames;
    waits = f.outside.waits;
    carried = f.outside.carried;
    go_up = f.outside.go_up;
    messages = f.outside.messages;
    late = f.outside.late;
    go_down = f.outside.go_down;
    reports = subst (λ (ds : List Item). OnWay (Tells past node) f.outside.late ds m.outside.outer.chip.state.port.side.turn m.outside.outer.chip.state.port.waiting) left.parts f.outside.reports;
    host = f.host;
    outcomes = f.outcomes;
  })

-- ---- every event

-- the laws that are used
pub record Laws : Type 0 where
  pub outside : (past : Past) (node : ℕ) (c : Courses) (text : Option ℕ) (tasks : List ℕ) (rest : Rest) (turn : Turn) (up down : List Item) (w : Outside) (event : OuterEvent) → node < 233 → CoursesFacts c → Follows past node c text tasks rest turn up down w →
      is_own event ≡ true → MayOutside w event → Rests rest w event → OuterStaysFew w.outer event → OuterGoes past node c text tasks rest turn (happens_outside w event)
  pub does : (past : Past) (node : ℕ) (c : Courses) (rest : Rest) (up yet down : List Item) (h : HostState) (w : Outside) (event : HostEvent) → node < 233 → HostFollows past node c rest up yet down h w → HasPast h → CoursesFacts c → MayHost h event →
      AsksFitly node event → IsUnheard node event → AllByRecursion IsUnit (host_units (outs h event)) → HostGoes past node c rest yet down (after_host h event) (happens_all_outside w (routed (outs h event)))
  pub judges : (past : Past) (node : ℕ) (c : Courses) (rest : Rest) (up down items : List Item) (h : HostState) (w : Outside) (events : List HostEvent) → node < 233 → HostFollows past node c rest up items down h w → HasPast h → CoursesFacts c →
      AllWell h events → AreJudged h items events → HostGoes past node c rest [] down (after_all h events) (happens_all_outside w (routed (outs_all h events)))
  pub recorded : PastLaws
  pub facts : FactLaws
  pub restart : RestartLaws
  pub held : (m : Machine) (event : Event) → HostFacts m.host.state → IsHeld m.host.state m.records → May m event → KeepsWell m event → StartsWell m event × IsHeld (happens m event).host.state (happens m event).records

module _ (laws : Laws) (node : ℕ) (within : node < 233) where
  past_all : (h : HostState) (events : List HostEvent) → HasPast h → MayAllHost h events → HasPast (after_all h events)
  past_all h [] recorded may = recorded
  past_all h (event ∷ events) recorded may = past_all (after_host h event) events (past_kept laws.recorded h event recorded may.0) may.1

  outside_goes : (past : Past) (c : Courses) (up down : List Item) (m : Machine) (event : OuterEvent) → WorldFollows past node c up down m → is_own event ≡ true → MayOutside m.outside event → OuterAtRest m event → OuterStaysFew m.outside.outer event
      → WorldGoes past node c (with_outside m (happens_outside m.outside event))
  outside_goes past c up down m event f own may rests few =
      let g : OuterGoes past node c f.text f.tasks m.host.decoder m.host.state.side.turn (happens_outside m.outside event) =
      laws.outside past node c f.text f.tasks m.host.decoder m.host.state.side.turn up down m.outside event within f.course f.outside own may (rests_of m event rests) few in
      record {
        later_past = g.later_past;
        later = g.later;
        grows = gives_grows past g.later_past g.gives;
        goes = g.goes;
        up = g.up;
        down = g.down;
        follows = record {
          keys = f.keys ∙ sym (gives_grows past g.later_past g.gives).keys;
          text = f.text;
          tasks = f.tasks;
          outside = g.follows;
          host = host_same past g.later_past node c g.later f.text f.tasks m.host.state g.gives g.books f.host;
          facts = f.facts;
          recorded = f.recorded;
          course = facts_go laws.facts c g.later f.course g.goes;
          outcomes = subst (λ (told : List ℕ). AreOutcomes m.host.state.commands g.later.sessions.host.commands told) (sym g.books.told)
              (subst (λ (cs : List ℕ). AreOutcomes m.host.state.commands cs c.sessions.told) (sym (ap (λ b. b.commands) g.books.host)) f.outcomes);
        };
      }

  host_goes : (past : Past) (c : Courses) (up down : List Item) (m : Machine) (event : HostEvent) → WorldFollows past node c up down m → MayHost m.host.state event → AsksFitly node event → IsUnheard node event
      → AllByRecursion IsUnit (host_units (outs_all m.host.state (event ∷ []))) → WorldGoes past node c (happens m (Host_does event))
  unfolding happens
  host_goes past c up down m event f may asks unheard units =
      let h : HostState = m.host.state in
      let one : AllByRecursion IsUnit (host_units (outs h event)) = subst (λ (os : List HostOut). AllByRecursion IsUnit (host_units os)) (append-nil (outs h event)) units in
      let g : HostGoes past node c m.host.decoder [] down (after_host h event) (happens_all_outside m.outside (routed (outs h event))) =
      laws.does past node c m.host.decoder up [] down h m.outside event within (at_host node past c up down m f) f.recorded f.course may asks unheard one in
      let same : HostGoes past node c m.host.decoder [] down (after_host h event) (happens_all_outside m.outside (routed (outs_all h (event ∷ [])))) =
      subst (λ (os : List HostOut). HostGoes past node c m.host.decoder [] down (after_host h event) (happens_all_outside m.outside (routed os))) (sym (append-nil (outs h event))) g in
      in_world node laws.facts past c down (happens m (Host_does event)) f.keys f.course (past_kept laws.recorded h event f.recorded may)
      (notes_go node past c m.host.decoder down (after_host h event) (happens_all_outside m.outside (routed (outs_all h (event ∷ [])))) (answers h event) same)

  takes_goes : (past : Past) (c : Courses) (up down : List Item) (m : Machine) (count : ℕ) (rest : Rest) (items : List Item) (events : List HostEvent) → WorldFollows past node c up down m → MayTake m count rest items events
      → AllByRecursion IsUnit (host_units (outs_all m.host.state events)) → WorldGoes past node c (happens m (Host_takes count rest items events))
  unfolding happens
  takes_goes past c up down m count rest items events f may units =
      let h : HostState = m.host.state in
      let left = carries_left m.host.decoder rest count m.outside.outer.to_host down items may.feeds f.outside.to_host in
      in_world node laws.facts past c left.left (happens m (Host_takes count rest items events)) f.keys f.course (past_all h events f.recorded may.may)
      (laws.judges past node c rest up left.left items h (happens_outside m.outside (host_takes count)) events within (fed_follows node past c up down m count rest items left f) f.recorded f.course
      (record { may = may.may; units = units_each h events units }) may.judged)

  ticks_goes : (past : Past) (c : Courses) (up down : List Item) (m : Machine) → WorldFollows past node c up down m → m.host.decoder ≡ no_rest → WorldGoes past node c (happens m Decoder_ticks)
  unfolding happens
  ticks_goes past c up down m f rests =
      let same : m.host.decoder ≡ after_tick m.host.decoder = rests ∙ sym (ap after_tick rests) in
      record {
        later_past = past;
        later = c;
        grows = grows_none past;
        goes = goes_nowhere c;
        up = up;
        down = down;
        follows = record {
          keys = f.keys;
          text = f.text;
          tasks = f.tasks;
          outside = subst (λ (r : Rest). Follows past node c f.text f.tasks r m.host.state.side.turn up down m.outside) same f.outside;
          host = f.host;
          facts = f.facts;
          recorded = f.recorded;
          course = f.course;
          outcomes = f.outcomes;
        };
      }

  enters_goes : (past : Past) (c : Courses) (up down : List Item) (m : Machine) (e : Entry) → WorldFollows past node c up down m → WorldGoes past node c (with_outside m (happens_outside m.outside (Host_notes e)))
  enters_goes past c up down m e f =
      in_world node laws.facts past c down (with_outside m (happens_outside m.outside (Host_notes e))) f.keys f.course f.recorded (note_goes node past c m.host.decoder down m.host.state m.outside e (still node past c up down m f))

  pub event_goes : (past : Past) (c : Courses) (up down : List Item) (m : Machine) (event : Event) → WorldFollows past node c up down m → IsHeld m.host.state m.records → May m event → IsAtRest m event → WritesWell m event
      → EventStaysFew m event → KeepsWell m event → IsFitly node event → HearsInPipe node event → WorldGoes past node c (happens m event)
  unfolding happens May
  event_goes past c up down m (Outside_does event) f held may rests well few keeps sealed unheard = outside_goes past c up down m event f may.0 may.1 rests few
  event_goes past c up down m (Host_does event) f held may rests well few keeps sealed unheard = host_goes past c up down m event f may.0 sealed unheard well
  event_goes past c up down m (Host_takes count rest items events) f held may rests well few keeps sealed unheard = takes_goes past c up down m count rest items events f may well
  event_goes past c up down m Decoder_ticks f held may rests well few keeps sealed unheard = ticks_goes past c up down m f rests
  event_goes past c up down m (Refuses line refusal) f held may rests well few keeps sealed unheard = enters_goes past c up down m (Refused refusal) f
  event_goes past c up down m (Shows_values n) f held may rests well few keeps sealed unheard = enters_goes past c up down m (shown_values m.host.state n) f
  event_goes past c up down m (Restarts state) f held may rests well few keeps sealed unheard =
      let next : StartsWell m (Restarts state) × IsHeld (happens m (Restarts state)).host.state (happens m (Restarts state)).records = laws.held m (Restarts state) f.facts held may keeps in
      restart_goes laws.restart node past c up down m state f rests may keeps held next.1 next.0

  pub events_go : (past : Past) (c : Courses) (up down : List Item) (m : Machine) (events : List Event) → WorldFollows past node c up down m → IsHeld m.host.state m.records → MayAll m events → AllAtRest m events → AllWriteWell m events
      → AlwaysFew m events → AllKeepWell m events → AllByRecursion (IsFitly node) events → AllByRecursion (HearsInPipe node) events → WorldGoes past node c (happens_all m events)
  events_go past c up down m [] f held may rests well few keeps sealed unheard = record { later_past = past; later = c; grows = grows_none past; goes = goes_nowhere c; up = up; down = down; follows = f }
  events_go past c up down m (event ∷ events) f held may rests well few keeps sealed unheard =
      let one : WorldGoes past node c (happens m event) = event_goes past c up down m event f held may.0 rests.0 well.0 few.1 keeps.0 sealed.0 unheard.0 in
      let next : StartsWell m event × IsHeld (happens m event).host.state (happens m event).records = laws.held m event f.facts held may.0 keeps.0 in
      let more : WorldGoes one.later_past node one.later (happens_all (happens m event) events) =
      events_go one.later_past one.later one.up one.down (happens m event) events one.follows next.1 may.1 rests.1 well.1 few.2 keeps.1 sealed.1 unheard.1 in
      record {
        later_past = more.later_past;
        later = more.later;
        grows = grows_then past one.later_past more.later_past one.grows more.grows;
        goes = goes_on c one.later more.later one.goes more.goes;
        up = more.up;
        down = more.down;
        follows = more.follows;
      }
