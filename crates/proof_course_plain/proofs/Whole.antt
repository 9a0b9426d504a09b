-- Each event of the whole machine, in the course of one node.
use Rattle.std.proofs.Common.{◌≡◌, ℕ, ◌<◌, true, List, [], ◌∷◌, ◌++◌, drop, refl, ap, sym, ◌∙◌, subst, append-nil}
use Rattle.std.proofs.lemmas.Grind.{flat_map-append}
use Rattle.std.specs.List.{AllByRecursion}
use Rattle.zw_base.proofs.Each.{all-left, all-right}
use Rattle.supervision.specs.Host.{HostBook}
use Rattle.proof_course.specs.Sessions.{Course}
use Rattle.proof_course.specs.SessionFacts.{CourseFacts}
use Rattle.serial_frame.specs.Items.{IsUnit}
use Rattle.serial_frame.specs.Stream.{Rest, no_rest, after_tick}
use Rattle.serial_frame.specs.declared.unit.Unit.{Unit as LineUnit}
use Rattle.serial_frame.specs.declared.item.Item.{Item}
use Rattle.serial_link.specs.declared.turn.Turn.{Turn}
use Rattle.serial_pipes.specs.State.{WayState}
use Rattle.chip_sim.specs.State.{ChipParts}
use Rattle.chip_sim.specs.Rules.{WaitsWell}
use Rattle.zw_words.specs.declared.side.Side.TheVariants as side
use Rattle.zw_text.specs.declared.entry.Entry.{Entry}
use Rattle.zw_text.specs.declared.entry.Entry.TheVariants.{Refused}
use Rattle.device_sim.specs.State.{State}
use Rattle.mesh_sim.specs.Air.{AirState}
use Rattle.outside_model.specs.State.{Outside}
use Rattle.outside_model.specs.Events.{OuterEvent, Host_takes as host_takes, Host_notes, Chip_ticks, Clears_pipe, is_own, outcome, devices_after, May as MayOutside, happens as happens_outside}
use Rattle.outside_model.specs.Did.{happens_all as happens_all_outside}
use Rattle.host_model.specs.State.{HostState}
use Rattle.host_model.specs.Events.{HostEvent}
use Rattle.host_model.specs.After.{after as after_host}
use Rattle.host_model.specs.Outs.{outs, answers}
use Rattle.host_model.specs.Did.{after_all, outs_all, MayAll as MayAllHost}
use Rattle.host_model.specs.May.{May as MayHost}
use Rattle.host_model.specs.Facts.{HostFacts}
use Rattle.host_model.specs.Taking.{AreJudged}
use Rattle.host_model.specs.declared.out.HostOut.{HostOut}
use Rattle.world_model.specs.State.{Machine, with_outside, routed}
use Rattle.world_model.specs.Events.{Event, Outside_does, Host_does, Host_takes, Decoder_ticks, Refuses, Shows_values, Restarts, notes, shown_values, MayTake, May, happens}
use Rattle.world_model.specs.Did.{happens_all, MayAll}
use Rattle.proof_world.specs.proof_serial.Way.{Carries}
use Rattle.proof_world.specs.proof_serial.Line.{host_unit, host_units, WritesWell, AllWriteWell, OuterAtRest, IsAtRest, AllAtRest}
use Rattle.proof_world.specs.proof_serial.Chip.{HasFrames}
use Rattle.proof_world.proofs.Outer.{Written}
use Rattle.proof_world.proofs.EndedItems.{LeftOf}
use Rattle.proof_world.proofs.Ways.{carries_left}
use Rattle.proof_world.specs.Restarts.{StartsWell, KeepsWell, AllKeepWell, IsHeld}
use Rattle.proof_traffic.specs.OnAir.{OuterStaysFew, EventStaysFew, AlwaysFew}
use Rattle.proof_course_plain.specs.Meaning.{Asked}
use Rattle.proof_course_plain.specs.Air.{OnAir}
use Rattle.proof_course_plain.specs.Making.{AllMake}
use Rattle.proof_course_plain.specs.Mesh.{HasDevice}
use Rattle.proof_course_plain.specs.Lines.{Tells, OnWay}
use Rattle.proof_course_plain.specs.Outside.{Follows, OuterGoes, Rests}
use Rattle.proof_course_plain.specs.Host.{AtHost, AsksPlainly}
use Rattle.proof_once.specs.Tied.{AreOutcomes}
use Rattle.proof_course_plain.specs.Told.{HasPast}
use Rattle.proof_course_plain.specs.HostGoing.{HostFollows, HostGoes, EndsNone, UnitsAll, AllWell}
use Rattle.proof_course_plain.specs.World.{WorldFollows, WorldGoes, IsPlainly, EndsByHearing}
use Rattle.proof_course_plain.proofs.ThinnedWays.{CourseLaw, course_goes, goes_nowhere, goes_on}
use Rattle.proof_course_plain.proofs.HostActs.{SameAir, note_air}
use Rattle.proof_course_plain.proofs.Told.{PastLaws, past_kept}
use Rattle.proof_course_plain.proofs.Restarts.{Laws as RestartLaws, restart_goes}

-- ---- entries alone

pub note_written : (w : Outside) (e : Entry) → Written [] w.outer (happens_outside w (Host_notes e)).outer
unfolding outcome devices_after
note_written w e = record { chip = refl; to_host = refl; to_chip = refl }

module _ (node : ℕ) where
  -- what is outside is as before
  host_stays : (orders : List Asked) (c : Course) (rest : Rest) (up yet down : List Item) (h : HostState) (w v : Outside) → SameAir w v → Written [] w.outer v.outer → HostFollows node orders c rest up yet down h w → HostFollows node orders c rest up yet down h v
  host_stays orders c rest up yet down h w v same written f = record {
    mesh = record {
      log = f.mesh.log;
      flights = f.mesh.flights;
      on_air = subst (λ (a : AirState). OnAir node orders c.host c.air c.old f.mesh.log f.mesh.flights a.frames) (sym same.air) f.mesh.on_air;
      device = subst (λ (ds : List State). HasDevice node c ds) (sym same.devices) f.mesh.device;
      made = subst (λ (ds : List State). AllMake node orders c.host.commands ds) (sym same.devices) f.mesh.made;
    };
    to_chip = subst (λ (y : WayState). Carries v.outer.chip.decoder y up) (sym written.to_chip) (subst (λ (r : Rest). Carries r w.outer.to_chip up) (sym (ap (λ (x : ChipParts). x.decoder) written.chip)) f.to_chip);
    to_host = subst (λ (y : WayState). Carries rest y down) (sym written.to_host) f.to_host;
    frames = subst (λ (x : ChipParts). HasFrames x.state.port) (sym written.chip) f.frames;
    waits = subst (λ (x : ChipParts). WaitsWell x.state.port) (sym written.chip) f.waits;
    messages = f.messages;
    reports = subst (λ (x : ChipParts). OnWay (Tells node) c.down (yet ++ down) x.state.port.side.turn x.state.port.waiting) (sym written.chip) f.reports;
    host = f.host;
    outcomes = f.outcomes;
  }

  note_goes : (c : Course) (rest : Rest) (down : List Item) (h : HostState) (w : Outside) (e : Entry) → HostGoes node c rest [] down h w → HostGoes node c rest [] down h (happens_outside w (Host_notes e))
  note_goes c rest down h w e g = record {
    orders = g.orders;
    later = g.later;
    goes = g.goes;
    up = g.up;
    follows = host_stays g.orders g.later rest g.up [] down h w (happens_outside w (Host_notes e)) (note_air w e) (note_written w e) g.follows;
  }

  notes_go : (c : Course) (rest : Rest) (down : List Item) (h : HostState) (w : Outside) (entries : List Entry) → HostGoes node c rest [] down h w → HostGoes node c rest [] down h (happens_all_outside w (notes entries))
  notes_go c rest down h w [] g = g
  notes_go c rest down h w (e ∷ entries) g = notes_go c rest down h (happens_outside w (Host_notes e)) entries (note_goes c rest down h w e g)

  -- ---- the host beside what is outside

  at_host : (orders : List Asked) (c : Course) (up down : List Item) (m : Machine) → WorldFollows node orders c up down m → HostFollows node orders c m.host.decoder up [] down m.host.state m.outside
  at_host orders c up down m f = record {
    mesh = f.outside.mesh;
    to_chip = f.outside.to_chip;
    to_host = f.outside.to_host;
    frames = f.outside.frames;
    waits = f.outside.waits;
    messages = f.outside.messages;
    reports = f.outside.reports;
    host = f.host;
    outcomes = f.outcomes;
  }

  in_world : CourseLaw → (c : Course) (down : List Item) (m : Machine) → CourseFacts c → HasPast m.host.state → HostGoes node c m.host.decoder [] down m.host.state m.outside → WorldGoes node c m
  in_world law c down m course past g = record {
    orders = g.orders;
    later = g.later;
    goes = g.goes;
    up = g.up;
    down = down;
    follows = record {
      outside = record {
        mesh = g.follows.mesh;
        to_chip = g.follows.to_chip;
        to_host = g.follows.to_host;
        frames = g.follows.frames;
        waits = g.follows.waits;
        messages = g.follows.messages;
        reports = g.follows.reports;
      };
      host = g.follows.host;
      facts = past.facts.host;
      past = past;
      course = course_goes law c g.later course g.goes;
      outcomes = g.follows.outcomes;
    };
  }

  still : (orders : List Asked) (c : Course) (up down : List Item) (m : Machine) → WorldFollows node orders c up down m → HostGoes node c m.host.decoder [] down m.host.state m.outside
  still orders c up down m f = record { orders = orders; later = c; goes = goes_nowhere c; up = up; follows = at_host orders c up down m f }

-- ---- the host takes bytes out of its pipe

pub units_each : (h : HostState) (events : List HostEvent) → AllByRecursion IsUnit (host_units (outs_all h events)) → UnitsAll h events
units_each h [] all = tt
units_each h (event ∷ events) all =
    let first : List LineUnit = host_units (outs h event) in
    let later : List LineUnit = host_units (outs_all (after_host h event) events) in
    let both : AllByRecursion IsUnit (first ++ later) = subst (λ (us : List LineUnit). AllByRecursion IsUnit us) (flat_map-append host_unit (outs h event) (outs_all (after_host h event) events)) all in
    (all-left IsUnit first later both, units_each (after_host h event) events (all-right IsUnit first later both))

abbrev pub taken_outside : Outside → ℕ → Outside
taken_outside w count = record w { outer = record w.outer { to_host = record w.outer.to_host { bytes = drop count w.outer.to_host.bytes } } }

pub fed_outside : (w : Outside) (count : ℕ) → happens_outside w (host_takes count) ≡ taken_outside w count
unfolding outcome devices_after
fed_outside w count = refl

pub fed_follows : (node : ℕ) (orders : List Asked) (c : Course) (up down : List Item) (m : Machine) (count : ℕ) (rest : Rest) (items : List Item) (left : LeftOf rest (drop count m.outside.outer.to_host.bytes) down items) → WorldFollows node orders c up down m
    → HostFollows node orders c rest up items left.left m.host.state (happens_outside m.outside (host_takes count))
fed_follows node orders c up down m count rest items left f = subst (λ (u : Outside). HostFollows node orders c rest up items left.left m.host.state u) (sym (fed_outside m.outside count)) (record {
  mesh = f.outside.mesh;
  to_chip = f.outside.to_chip;
  to_host = left.feeds;
  frames = f.outside.frames;
  waits = f.outside.waits;
  messages = f.outside.messages;
  reports = subst (λ (ds : List Item). OnWay (Tells node) c.down ds m.outside.outer.chip.state.port.side.turn m.outside.outer.chip.state.port.waiting) left.parts f.outside.reports;
  host = f.host;
  outcomes = f.outcomes;
})

-- ---- every event

pub rests_of : (m : Machine) (event : OuterEvent) → OuterAtRest m event → Rests m.host.decoder m.outside event
rests_of m Chip_ticks e = e
rests_of m (Clears_pipe side.Host) e = e
rests_of m (Clears_pipe side.Chip) e = e
rests_of m event e = tt

-- the laws that are used
pub record Laws : Type 0 where
  pub outside : (node : ℕ) (orders : List Asked) (c : Course) (rest : Rest) (turn : Turn) (up down : List Item) (w : Outside) (event : OuterEvent) → node < 233 → CourseFacts c → Follows node orders c rest turn up down w →
      is_own event ≡ true → MayOutside w event → Rests rest w event → OuterStaysFew w.outer event → OuterGoes node orders c rest turn (happens_outside w event)
  pub does : (node : ℕ) (orders : List Asked) (c : Course) (rest : Rest) (up down : List Item) (h : HostState) (w : Outside) (event : HostEvent) → HostFollows node orders c rest up [] down h w → HasPast h → CourseFacts c → MayHost h event →
      AsksPlainly node event → EndsNone node event → AllByRecursion IsUnit (host_units (outs h event)) → HostGoes node c rest [] down (after_host h event) (happens_all_outside w (routed (outs h event)))
  pub judges : (node : ℕ) (orders : List Asked) (c : Course) (rest : Rest) (up down items : List Item) (h : HostState) (w : Outside) (events : List HostEvent) → node < 233 → HostFollows node orders c rest up items down h w → HasPast h → CourseFacts c →
      AllWell h events → AreJudged h items events → HostGoes node c rest [] down (after_all h events) (happens_all_outside w (routed (outs_all h events)))
  pub past : PastLaws
  pub restart : RestartLaws
  pub held : (m : Machine) (event : Event) → HostFacts m.host.state → IsHeld m.host.state m.records → May m event → KeepsWell m event → StartsWell m event × IsHeld (happens m event).host.state (happens m event).records

module _ (laws : Laws) (node : ℕ) (within : node < 233) where
  past_all : (h : HostState) (events : List HostEvent) → HasPast h → MayAllHost h events → HasPast (after_all h events)
  past_all h [] past may = past
  past_all h (event ∷ events) past may = past_all (after_host h event) events (past_kept laws.past h event past may.0) may.1

  outside_goes : (orders : List Asked) (c : Course) (up down : List Item) (m : Machine) (event : OuterEvent) → WorldFollows node orders c up down m → is_own event ≡ true → MayOutside m.outside event → OuterAtRest m event → OuterStaysFew m.outside.outer event
      → WorldGoes node c (with_outside m (happens_outside m.outside event))
  outside_goes orders c up down m event f own may rests few =
      let g : OuterGoes node orders c m.host.decoder m.host.state.side.turn (happens_outside m.outside event) =
      laws.outside node orders c m.host.decoder m.host.state.side.turn up down m.outside event within f.course f.outside own may (rests_of m event rests) few in
      record {
        orders = orders;
        later = g.later;
        goes = g.goes;
        up = g.up;
        down = g.down;
        follows = record {
          outside = g.follows;
          host = subst (λ (b : HostBook). AtHost node orders b m.host.state) (sym g.host) f.host;
          facts = f.facts;
          past = f.past;
          course = course_goes laws.restart.course c g.later f.course g.goes;
          outcomes = subst (λ (told : List ℕ). AreOutcomes m.host.state.commands g.later.host.commands told) (sym g.told)
              (subst (λ (b : HostBook). AreOutcomes m.host.state.commands b.commands c.told) (sym g.host) f.outcomes);
        };
      }

  host_goes : (orders : List Asked) (c : Course) (up down : List Item) (m : Machine) (event : HostEvent) → WorldFollows node orders c up down m → MayHost m.host.state event → AsksPlainly node event → EndsNone node event
      → AllByRecursion IsUnit (host_units (outs_all m.host.state (event ∷ []))) → WorldGoes node c (happens m (Host_does event))
  unfolding happens
  host_goes orders c up down m event f may asks none units =
      let h : HostState = m.host.state in
      let one : AllByRecursion IsUnit (host_units (outs h event)) = subst (λ (os : List HostOut). AllByRecursion IsUnit (host_units os)) (append-nil (outs h event)) units in
      let g : HostGoes node c m.host.decoder [] down (after_host h event) (happens_all_outside m.outside (routed (outs h event))) =
      laws.does node orders c m.host.decoder up down h m.outside event (at_host node orders c up down m f) f.past f.course may asks none one in
      let same : HostGoes node c m.host.decoder [] down (after_host h event) (happens_all_outside m.outside (routed (outs_all h (event ∷ [])))) =
      subst (λ (os : List HostOut). HostGoes node c m.host.decoder [] down (after_host h event) (happens_all_outside m.outside (routed os))) (sym (append-nil (outs h event))) g in
      in_world node laws.restart.course c down (happens m (Host_does event)) f.course (past_kept laws.past h event f.past may)
      (notes_go node c m.host.decoder down (after_host h event) (happens_all_outside m.outside (routed (outs_all h (event ∷ [])))) (answers h event) same)

  takes_goes : (orders : List Asked) (c : Course) (up down : List Item) (m : Machine) (count : ℕ) (rest : Rest) (items : List Item) (events : List HostEvent) → WorldFollows node orders c up down m → MayTake m count rest items events
      → AllByRecursion IsUnit (host_units (outs_all m.host.state events)) → WorldGoes node c (happens m (Host_takes count rest items events))
  unfolding happens
  takes_goes orders c up down m count rest items events f may units =
      let h : HostState = m.host.state in
      let left = carries_left m.host.decoder rest count m.outside.outer.to_host down items may.feeds f.outside.to_host in
      in_world node laws.restart.course c left.left (happens m (Host_takes count rest items events)) f.course (past_all h events f.past may.may)
      (laws.judges node orders c rest up left.left items h (happens_outside m.outside (host_takes count)) events within (fed_follows node orders c up down m count rest items left f) f.past f.course
      (record { may = may.may; units = units_each h events units }) may.judged)

  ticks_goes : (orders : List Asked) (c : Course) (up down : List Item) (m : Machine) → WorldFollows node orders c up down m → m.host.decoder ≡ no_rest → WorldGoes node c (happens m Decoder_ticks)
  unfolding happens
  ticks_goes orders c up down m f rests =
      let same : m.host.decoder ≡ after_tick m.host.decoder = rests ∙ sym (ap after_tick rests) in
      record {
        orders = orders;
        later = c;
        goes = goes_nowhere c;
        up = up;
        down = down;
        follows = record { outside = subst (λ (r : Rest). Follows node orders c r m.host.state.side.turn up down m.outside) same f.outside; host = f.host; facts = f.facts; past = f.past; course = f.course; outcomes = f.outcomes };
      }

  enters_goes : (orders : List Asked) (c : Course) (up down : List Item) (m : Machine) (e : Entry) → WorldFollows node orders c up down m → WorldGoes node c (with_outside m (happens_outside m.outside (Host_notes e)))
  enters_goes orders c up down m e f =
      in_world node laws.restart.course c down (with_outside m (happens_outside m.outside (Host_notes e))) f.course f.past (note_goes node c m.host.decoder down m.host.state m.outside e (still node orders c up down m f))

  pub event_goes : (orders : List Asked) (c : Course) (up down : List Item) (m : Machine) (event : Event) → WorldFollows node orders c up down m → IsHeld m.host.state m.records → May m event → IsAtRest m event → WritesWell m event
      → EventStaysFew m event → KeepsWell m event → IsPlainly node event → EndsByHearing node event → WorldGoes node c (happens m event)
  unfolding happens May
  event_goes orders c up down m (Outside_does event) f held may rests well few keeps plain none = outside_goes orders c up down m event f may.0 may.1 rests few
  event_goes orders c up down m (Host_does event) f held may rests well few keeps plain none = host_goes orders c up down m event f may.0 plain none well
  event_goes orders c up down m (Host_takes count rest items events) f held may rests well few keeps plain none = takes_goes orders c up down m count rest items events f may well
  event_goes orders c up down m Decoder_ticks f held may rests well few keeps plain none = ticks_goes orders c up down m f rests
  event_goes orders c up down m (Refuses line refusal) f held may rests well few keeps plain none = enters_goes orders c up down m (Refused refusal) f
  event_goes orders c up down m (Shows_values n) f held may rests well few keeps plain none = enters_goes orders c up down m (shown_values m.host.state n) f
  event_goes orders c up down m (Restarts state) f held may rests well few keeps plain none =
      let next : StartsWell m (Restarts state) × IsHeld (happens m (Restarts state)).host.state (happens m (Restarts state)).records = laws.held m (Restarts state) f.facts held may keeps in
      restart_goes laws.restart node orders c up down m state f rests may keeps held next.1 next.0

  pub events_go : (orders : List Asked) (c : Course) (up down : List Item) (m : Machine) (events : List Event) → WorldFollows node orders c up down m → IsHeld m.host.state m.records → MayAll m events → AllAtRest m events → AllWriteWell m events
      → AlwaysFew m events → AllKeepWell m events → AllByRecursion (IsPlainly node) events → AllByRecursion (EndsByHearing node) events → WorldGoes node c (happens_all m events)
  events_go orders c up down m [] f held may rests well few keeps plain none = record { orders = orders; later = c; goes = goes_nowhere c; up = up; down = down; follows = f }
  events_go orders c up down m (event ∷ events) f held may rests well few keeps plain none =
      let one : WorldGoes node c (happens m event) = event_goes orders c up down m event f held may.0 rests.0 well.0 few.1 keeps.0 plain.0 none.0 in
      let next : StartsWell m event × IsHeld (happens m event).host.state (happens m event).records = laws.held m event f.facts held may.0 keeps.0 in
      let more : WorldGoes node one.later (happens_all (happens m event) events) =
      events_go one.orders one.later one.up one.down (happens m event) events one.follows next.1 may.1 rests.1 well.1 few.2 keeps.1 plain.1 none.1 in
      record { orders = more.orders; later = more.later; goes = goes_on c one.later more.later one.goes more.goes; up = more.up; down = more.down; follows = more.follows }
