-- Each success that the host is told of a node is true: at every event of the machine, and over lines from the first on.
use Rattle.std.proofs.Common.{ℕ, ◌<◌, Option, List, [], ◌∷◌, ap, subst}
use Rattle.std.specs.List.{AllByRecursion}
use Rattle.s0_crypto.specs.declared.key_pair.Keys.{Keys}
use Rattle.proof_course.specs.Sessions.{Course, first_course}
use Rattle.proof_course.specs.SessionFacts.{CourseFacts}
use Rattle.serial_frame.specs.Items.{IsUnit}
use Rattle.serial_frame.specs.Stream.{Rest}
use Rattle.serial_frame.specs.declared.item.Item.{Item}
use Rattle.device_sim.specs.State.{State}
use Rattle.zw_text.specs.declared.line.Line.{Line}
use Rattle.outside_model.specs.State.{Outside}
use Rattle.outside_model.specs.Events.{Host_takes as host_takes, happens as happens_outside}
use Rattle.proof_traffic.specs.OutsideTraffic.{AreNodes}
use Rattle.host_model.specs.State.{HostState, first_host}
use Rattle.host_model.specs.Events.{HostEvent}
use Rattle.host_model.specs.Did.{outs_all}
use Rattle.host_model.specs.Taking.{AreJudged}
use Rattle.world_model.specs.State.{Machine, first_machine}
use Rattle.world_model.specs.Events.{Event, Host_does, Host_takes, MayTake, May, happens}
use Rattle.world_model.specs.Did.{MayAll}
use Rattle.proof_world.specs.proof_serial.Line.{host_units, WritesWell, AllWriteWell, IsAtRest, AllAtRest, AreLines, Stays}
use Rattle.proof_world.specs.proof_serial.Host.{AllAskWell}
use Rattle.proof_world.proofs.Ways.{carries_left}
use Rattle.host_model.specs.Facts.{HostFacts}
use Rattle.proof_world.specs.Restarts.{AllKeepWell, BeginsEmpty, IsHeld, KeepsWell, StartsWell}
use Rattle.proof_traffic.specs.OnAir.{EventStaysFew, AlwaysFew}
use Rattle.proof_once.specs.Truly.{TellTruly, IsTrue, AreTrue}
use Rattle.proof_course_plain.specs.Meaning.{Asked}
use Rattle.proof_course_plain.specs.Mesh.{HasDevice}
use Rattle.proof_course_plain.specs.Told.{HasPast}
use Rattle.proof_course_plain.specs.HostGoing.{HostFollows, AllWell}
use Rattle.proof_course_plain.specs.World.{WorldFollows, WorldGoes, IsPlainly, EndsByHearing}
use Rattle.proof_course_plain.proofs.TrueSuccesses.{none_true}
use Rattle.proof_course_plain.proofs.Whole.{units_each, fed_outside, fed_follows}
use Rattle.proof_course_plain.proofs.Runs.{nodes_of}

-- ---- one event

-- the law of items
abbrev pub Judges : Type 0
Judges = (node : ℕ) (orders : List Asked) (c : Course) (rest : Rest) (up down items : List Item) (h : HostState) (w : Outside) (events : List HostEvent) → node < 233 → HostFollows node orders c rest up items down h w → HasPast h → CourseFacts c → AllWell h events
    → AreJudged h items events → TellTruly node h w.devices events

module _ (judges : Judges) (node : ℕ) (within : node < 233) where
  takes_true : (orders : List Asked) (c : Course) (up down : List Item) (m : Machine) (count : ℕ) (rest : Rest) (items : List Item) (events : List HostEvent) → WorldFollows node orders c up down m → MayTake m count rest items events
      → AllByRecursion IsUnit (host_units (outs_all m.host.state events)) → TellTruly node m.host.state m.outside.devices events
  takes_true orders c up down m count rest items events f may units =
      let h : HostState = m.host.state in
      let left = carries_left m.host.decoder rest count m.outside.outer.to_host down items may.feeds f.outside.to_host in
      subst (λ (ds : List State). TellTruly node h ds events) (ap (λ (w : Outside). w.devices) (fed_outside m.outside count))
      (judges node orders c rest up left.left items h (happens_outside m.outside (host_takes count)) events within (fed_follows node orders c up down m count rest items left f) f.past f.course
      (record { may = may.may; units = units_each h events units }) may.judged)

  pub event_true : (orders : List Asked) (c : Course) (up down : List Item) (m : Machine) (event : Event) → WorldFollows node orders c up down m → May m event → WritesWell m event → EndsByHearing node event → IsTrue node m event
  unfolding May
  event_true orders c up down m (Host_does event) f may well none = none_true node m.host.state m.outside.devices event none
  event_true orders c up down m (Host_takes count rest items events) f may well none = takes_true orders c up down m count rest items events f may well
  event_true orders c up down m event f may well none = tt

-- ---- events one after another

-- the laws that are used: of one event, and that it makes steps of the course
pub record EventLaws : Type 0 where
  pub goes : (node : ℕ) (orders : List Asked) (c : Course) (up down : List Item) (m : Machine) (event : Event) → node < 233 → WorldFollows node orders c up down m → IsHeld m.host.state m.records → May m event → IsAtRest m event →
      WritesWell m event → EventStaysFew m event → KeepsWell m event → IsPlainly node event → EndsByHearing node event → WorldGoes node c (happens m event)
  pub held : (m : Machine) (event : Event) → HostFacts m.host.state → IsHeld m.host.state m.records → May m event → KeepsWell m event → StartsWell m event × IsHeld (happens m event).host.state (happens m event).records
  pub judges : Judges

module _ (laws : EventLaws) (node : ℕ) (within : node < 233) where
  pub events_true : (orders : List Asked) (c : Course) (up down : List Item) (m : Machine) (events : List Event) → WorldFollows node orders c up down m → IsHeld m.host.state m.records → MayAll m events → AllAtRest m events → AllWriteWell m events
      → AlwaysFew m events → AllKeepWell m events → AllByRecursion (IsPlainly node) events → AllByRecursion (EndsByHearing node) events → AreTrue node m events
  events_true orders c up down m [] f held may rests well few keeps plain none = tt
  events_true orders c up down m (event ∷ events) f held may rests well few keeps plain none =
      let one : WorldGoes node c (happens m event) = laws.goes node orders c up down m event within f held may.0 rests.0 well.0 few.1 keeps.0 plain.0 none.0 in
      let next = laws.held m event f.facts held may.0 keeps.0 in (
        event_true laws.judges node within orders c up down m event f may.0 well.0 none.0,
        events_true one.orders one.later one.up one.down (happens m event) events one.follows next.1 may.1 rests.1 well.1 few.2 keeps.1 plain.1 none.1,
      )

-- ---- lines

pub record LineLaws : Type 0 where
  pub events : (node : ℕ) (orders : List Asked) (c : Course) (up down : List Item) (m : Machine) (events : List Event) → node < 233 → WorldFollows node orders c up down m → IsHeld m.host.state m.records → MayAll m events →
      AllAtRest m events → AllWriteWell m events → AlwaysFew m events → AllKeepWell m events → AllByRecursion (IsPlainly node) events → AllByRecursion (EndsByHearing node) events → AreTrue node m events
  pub held_first : (keys : Keys) (records : Option (List (List ℕ))) → BeginsEmpty records → IsHeld (first_host keys) records
  pub first : (node : ℕ) (keys : Keys) (records : Option (List (List ℕ))) (devices : List State) → node < 233 → HasDevice node first_course devices → WorldFollows node [] first_course [] [] (first_machine keys records devices)
  pub stays : (keys : Keys) (records : Option (List (List ℕ))) (devices : List State) (lines : List Line) (events : List Event) → AreLines lines (first_machine keys records devices) events → MayAll (first_machine keys records devices) events →
      AllWriteWell (first_machine keys records devices) events → Stays (first_machine keys records devices) events
  pub writes : (keys : Keys) (records : Option (List (List ℕ))) (devices : List State) (events : List Event) → MayAll (first_machine keys records devices) events → AllAskWell (first_machine keys records devices) events →
      AllWriteWell (first_machine keys records devices) events
  pub few : (keys : Keys) (records : Option (List (List ℕ))) (devices : List State) (lines : List Line) (events : List Event) → AreNodes devices → AreLines lines (first_machine keys records devices) events →
      MayAll (first_machine keys records devices) events → AllAskWell (first_machine keys records devices) events → AlwaysFew (first_machine keys records devices) events
  pub ends : (node : ℕ) (lines : List Line) (m : Machine) (events : List Event) → AreLines lines m events → AllByRecursion (EndsByHearing node) events

module _ (laws : LineLaws) (node : ℕ) (within : node < 233) (keys : Keys) (records : Option (List (List ℕ))) (devices : List State) (has : HasDevice node first_course devices) where
  abbrev first : Machine
  first = first_machine keys records devices

  pub lines_true : (lines : List Line) (events : List Event) → BeginsEmpty records → AreLines lines first events → MayAll first events → AllAskWell first events → AllKeepWell first events → AllByRecursion (IsPlainly node) events
      → AreTrue node first events
  lines_true lines events empty are may asks keeps plain =
      let well : AllWriteWell first events = laws.writes keys records devices events may asks in
      let rests : Stays first events = laws.stays keys records devices lines events are may well in
      let few : AlwaysFew first events = laws.few keys records devices lines events (nodes_of devices has.nodes) are may asks in
      laws.events node [] first_course [] [] first events within (laws.first node keys records devices within has) (laws.held_first keys records empty) may rests.at_rest well few keeps plain (laws.ends node lines first events are)
