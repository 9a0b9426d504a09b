-- Each success that the host is told of a lock is true, at every event of the machine.
use Rattle.std.proofs.Common.{ℕ, ◌<◌, List, [], ◌∷◌, ap, subst}
use Rattle.std.specs.List.{AllByRecursion}
use Rattle.serial_frame.specs.Items.{IsUnit}
use Rattle.serial_frame.specs.Stream.{Rest}
use Rattle.serial_frame.specs.declared.item.Item.{Item}
use Rattle.device_sim.specs.State.{State}
use Rattle.outside_model.specs.State.{Outside}
use Rattle.outside_model.specs.Events.{Host_takes as host_takes, happens as happens_outside}
use Rattle.host_model.specs.State.{HostState}
use Rattle.host_model.specs.Events.{HostEvent}
use Rattle.host_model.specs.Did.{outs_all}
use Rattle.host_model.specs.Taking.{AreJudged}
use Rattle.world_model.specs.State.{Machine}
use Rattle.world_model.specs.Events.{Event, Host_does, Host_takes, MayTake, May, happens}
use Rattle.world_model.specs.Did.{MayAll}
use Rattle.proof_course_plain.specs.proof_serial.Line.{host_units, WritesWell, AllWriteWell, AllAtRest}
use Rattle.proof_course_plain.proofs.Ways.{carries_left}
use Rattle.proof_course_plain.specs.Restarts.{AllKeepWell, IsHeld}
use Rattle.proof_course_plain.specs.OnAir.{AlwaysFew}
use Rattle.proof_course_plain.specs.Truly.{TellTruly, IsTrue, AreTrue}
use Rattle.proof_course_plain.specs.Told.{HasPast}
use Rattle.proof_course_plain.specs.HostGoing.{AllWell}
use Rattle.proof_course_plain.proofs.TrueSuccesses.{none_true}
use Rattle.proof_course_plain.proofs.Whole.{units_each, fed_outside}
use Rattle.proof_course_sealed.specs.Courses.{Courses, CoursesFacts}
use Rattle.proof_course_sealed.specs.Meaning.{Past}
use Rattle.proof_course_sealed.specs.HostGoing.{HostFollows}
use Rattle.proof_course_sealed.specs.World.{WorldFollows, WorldGoes, IsFitly, HearsInPipe}
use Rattle.proof_course_sealed.proofs.Whole.{Laws, fed_follows, event_goes}
use Rattle.proof_course_sealed.proofs.TrueSuccesses.{aside_ends}

-- the law of items
abbrev pub Judges : Type 0
Judges = (past : Past) (node : ℕ) (c : Courses) (rest : Rest) (up down items : List Item) (h : HostState) (w : Outside) (events : List HostEvent) → node < 233 → HostFollows past node c rest up items down h w → HasPast h → CoursesFacts c → AllWell h events
    → AreJudged h items events → TellTruly node h w.devices events

module _ (judges : Judges) (node : ℕ) (within : node < 233) where
  takes_true : (past : Past) (c : Courses) (up down : List Item) (m : Machine) (count : ℕ) (rest : Rest) (items : List Item) (events : List HostEvent) → WorldFollows past node c up down m → MayTake m count rest items events
      → AllByRecursion IsUnit (host_units (outs_all m.host.state events)) → TellTruly node m.host.state m.outside.devices events
  takes_true past c up down m count rest items events f may units =
      let h : HostState = m.host.state in
      let left = carries_left m.host.decoder rest count m.outside.outer.to_host down items may.feeds f.outside.to_host in
      subst (λ (ds : List State). TellTruly node h ds events) (ap (λ (w : Outside). w.devices) (fed_outside m.outside count))
      (judges past node c rest up left.left items h (happens_outside m.outside (host_takes count)) events within (fed_follows node past c up down m count rest items left f) f.recorded f.course
      (record { may = may.may; units = units_each h events units }) may.judged)

  pub event_true : (past : Past) (c : Courses) (up down : List Item) (m : Machine) (event : Event) → WorldFollows past node c up down m → May m event → WritesWell m event → HearsInPipe node event → IsTrue node m event
  unfolding May
  event_true past c up down m (Host_does event) f may well unheard = none_true node m.host.state m.outside.devices event (aside_ends node event unheard)
  event_true past c up down m (Host_takes count rest items events) f may well unheard = takes_true past c up down m count rest items events f may well
  event_true past c up down m event f may well unheard = tt

  -- events one after another
  module _ (laws : Laws) where
    pub events_true : (past : Past) (c : Courses) (up down : List Item) (m : Machine) (events : List Event) → WorldFollows past node c up down m → IsHeld m.host.state m.records → MayAll m events → AllAtRest m events → AllWriteWell m events
        → AlwaysFew m events → AllKeepWell m events → AllByRecursion (IsFitly node) events → AllByRecursion (HearsInPipe node) events → AreTrue node m events
    events_true past c up down m [] f held may rests well few keeps sealed unheard = tt
    events_true past c up down m (event ∷ events) f held may rests well few keeps sealed unheard =
        let one : WorldGoes past node c (happens m event) = event_goes laws node within past c up down m event f held may.0 rests.0 well.0 few.1 keeps.0 sealed.0 unheard.0 in
        let next = laws.held m event f.facts held may.0 keeps.0 in (
          event_true past c up down m event f may.0 well.0 unheard.0,
          events_true one.later_past one.later one.up one.down (happens m event) events one.follows next.1 may.1 rests.1 well.1 few.2 keeps.1 sealed.1 unheard.1,
        )
