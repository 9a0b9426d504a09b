-- The machine at first, and lines from there on, in the course of one node.
use Rattle.std.proofs.Common.{◌≡◌, ℕ, zero, suc, ◌<◌, Option, Some, List, [], ◌∷◌, refl, sym, subst, arith}
use Rattle.std.specs.Prelude.{slice_get}
use Rattle.std.specs.List.{AllByRecursion}
use Rattle.s0_crypto.specs.declared.key_pair.Keys.{Keys}
use Rattle.supervision.specs.Host.{command_at as session_at}
use Rattle.proof_course.specs.Sessions.{Course, Step, first_course, after_all, MayAll as MayAllSteps}
use Rattle.proof_course.specs.SessionFacts.{CourseFacts}
use Rattle.proof_course.specs.SessionLaws.{IsDone, IsApplied}
use Rattle.serial_frame.specs.Stream.{no_rest}
use Rattle.serial_frame.specs.declared.item.Item.{Item}
use Rattle.serial_link.specs.declared.turn.Turn.TheVariants as turns
use Rattle.zw_text.specs.declared.line.Line.{Line}
use Rattle.device_sim.specs.State.{State}
use Rattle.host_model.specs.State.{first_host}
use Rattle.proof_once.specs.proof_host.Facts.{Facts}
use Rattle.outside_model.specs.State.{outside, first_outer}
use Rattle.proof_traffic.specs.OutsideTraffic.{AreNodes}
use Rattle.world_model.specs.State.{Machine, first_machine}
use Rattle.world_model.specs.Events.{Event}
use Rattle.world_model.specs.Did.{happens_all, MayAll}
use Rattle.proof_world.specs.proof_serial.Line.{AllWriteWell, AllAtRest, AreLines, Stays}
use Rattle.proof_world.specs.proof_serial.Host.{AllAskWell}
use Rattle.proof_world.specs.Restarts.{AllKeepWell, BeginsEmpty, IsHeld}
use Rattle.proof_traffic.specs.OnAir.{AlwaysFew}
use Rattle.proof_course_plain.specs.Meaning.{Asked}
use Rattle.proof_course_plain.specs.Making.{MakesAsked}
use Rattle.proof_course_plain.specs.Mesh.{HasDevice}
use Rattle.proof_course_plain.specs.Outside.{Follows}
use Rattle.proof_course_plain.specs.World.{WorldFollows, WorldGoes, HasCourse, IsPlainly, EndsByHearing}
use Rattle.proof_course_plain.proofs.Restarts.{first_as}
use Rattle.proof_course_plain.proofs.Taken.{changes_taken}

-- ---- at first

pub none_told : (session status : ℕ) → session_at [] session ≡ Some status → ⊥
none_told zero status e = absurd (grind (arith, e))
none_told (suc before) status e = absurd (grind (arith, e))

-- the laws that are used
pub record Laws : Type 0 where
  pub outside_first : (node : ℕ) (devices : List State) → HasDevice node first_course devices → Follows node [] first_course no_rest turns.Idle [] [] (outside first_outer devices)
  pub facts_first : (keys : Keys) → Facts [] (first_host keys)
  pub held_first : (keys : Keys) (records : Option (List (List ℕ))) → BeginsEmpty records → IsHeld (first_host keys) records
  pub events : (node : ℕ) (orders : List Asked) (c : Course) (up down : List Item) (m : Machine) (events : List Event) → node < 233 → WorldFollows node orders c up down m → IsHeld m.host.state m.records → MayAll m events → AllAtRest m events →
      AllWriteWell m events → AlwaysFew m events → AllKeepWell m events → AllByRecursion (IsPlainly node) events → AllByRecursion (EndsByHearing node) events → WorldGoes node c (happens_all m events)
  pub stays : (keys : Keys) (records : Option (List (List ℕ))) (devices : List State) (lines : List Line) (events : List Event) → AreLines lines (first_machine keys records devices) events → MayAll (first_machine keys records devices) events →
      AllWriteWell (first_machine keys records devices) events → Stays (first_machine keys records devices) events
  pub writes : (keys : Keys) (records : Option (List (List ℕ))) (devices : List State) (events : List Event) → MayAll (first_machine keys records devices) events → AllAskWell (first_machine keys records devices) events →
      AllWriteWell (first_machine keys records devices) events
  pub few : (keys : Keys) (records : Option (List (List ℕ))) (devices : List State) (lines : List Line) (events : List Event) → AreNodes devices → AreLines lines (first_machine keys records devices) events →
      MayAll (first_machine keys records devices) events → AllAskWell (first_machine keys records devices) events → AlwaysFew (first_machine keys records devices) events
  pub course_first : CourseFacts first_course
  pub course_all : (c : Course) (steps : List Step) → CourseFacts c → MayAllSteps c steps → CourseFacts (after_all c steps)
  pub done : (steps : List Step) → MayAllSteps first_course steps → IsDone (after_all first_course steps)
  pub applied : (steps : List Step) → MayAllSteps first_course steps → IsApplied (after_all first_course steps)
  pub ends : (node : ℕ) (lines : List Line) (m : Machine) (events : List Event) → AreLines lines m events → AllByRecursion (EndsByHearing node) events

pub nodes_of : (devices : List State) → ((other : ℕ) (one : State) → slice_get devices other ≡ Some one → one.node < 233) → AreNodes devices
nodes_of [] all = tt
nodes_of (device ∷ devices) all = (all 0 device refl, nodes_of devices (λ other one e. all (suc other) one e))

module _ (laws : Laws) (node : ℕ) (within : node < 233) (keys : Keys) (records : Option (List (List ℕ))) (devices : List State) (has : HasDevice node first_course devices) where
  abbrev first : Machine
  first = first_machine keys records devices

  pub first_follows : WorldFollows node [] first_course [] [] first
  first_follows = record {
    outside = laws.outside_first node devices has;
    host = record { node_as = first_as keys node; orders_are = refl; plain = tt; queue = tt };
    facts = (laws.facts_first keys).host;
    past = record { past = []; facts = laws.facts_first keys };
    course = laws.course_first;
    outcomes = λ session number status at is. absurd (none_told session status is);
  }

  pub lines_have : (lines : List Line) (events : List Event) → BeginsEmpty records → AreLines lines first events → MayAll first events → AllAskWell first events → AllKeepWell first events → AllByRecursion (IsPlainly node) events
      → HasCourse node (happens_all first events)
  lines_have lines events empty are may asks keeps plain =
      let well : AllWriteWell first events = laws.writes keys records devices events may asks in
      let rests : Stays first events = laws.stays keys records devices lines events are may well in
      let few : AlwaysFew first events = laws.few keys records devices lines events (nodes_of devices has.nodes) are may asks in
      let g : WorldGoes node first_course (happens_all first events) = laws.events node [] first_course [] [] first events within first_follows (laws.held_first keys records empty) may rests.at_rest well few keeps plain (laws.ends node lines first events are) in
      record {
        orders = g.orders;
        course = g.later;
        up = g.up;
        down = g.down;
        follows = g.follows;
        facts = subst (λ (c : Course). CourseFacts c) (sym g.goes.is) (laws.course_all first_course g.goes.steps laws.course_first g.goes.may);
        done = subst (λ (c : Course). IsDone c) (sym g.goes.is) (laws.done g.goes.steps g.goes.may);
        applied = subst (λ (c : Course). IsApplied c) (sym g.goes.is) (laws.applied g.goes.steps g.goes.may);
        outcomes = g.follows.outcomes;
        made = λ place device stands own.
            let makes : AllByRecursion (MakesAsked g.orders g.later.host.commands) device.journal = (g.follows.outside.mesh.made place device stands own).changes in
            changes_taken (happens_all first events).host.state.commands g.later.host.commands device.journal
            (subst (λ (os : List Asked). AllByRecursion (MakesAsked os g.later.host.commands) device.journal) g.follows.host.orders_are makes);
      }
