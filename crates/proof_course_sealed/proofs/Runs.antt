-- The machine at first, and lines from there on, in the courses of a lock.
use Rattle.std.proofs.Common.{◌≡◌, ℕ, zero, suc, ◌<◌, true, false, get_or, replicate, Option, Some, None, List, [], refl, sym, ◌∙◌, subst}
use Rattle.std.specs.List.{AllByRecursion}
use Rattle.s0_crypto.specs.declared.key_pair.Keys.{Keys}
use Rattle.s0_session.specs.Nonces.{account_of, unused}
use Rattle.s0_session.specs.declared.account.Account.{Account}
use Rattle.proof_course.specs.Sessions.{Course, Step, first_course, after_all, MayAll as MayAllSteps}
use Rattle.proof_course.specs.SessionLaws.{IsDone}
use Rattle.serial_frame.specs.Stream.{no_rest}
use Rattle.serial_link.specs.declared.turn.Turn.TheVariants as turns
use Rattle.serial_frame.specs.declared.item.Item.{Item}
use Rattle.zw_text.specs.declared.line.Line.{Line}
use Rattle.device_sim.specs.State.{State}
use Rattle.host_node.specs.State.{NodeState, unknown}
use Rattle.host_node.specs.Events.{after as after_node}
use Rattle.host_node.specs.Events.NodeEvent.{Joins, Interviews}
use Rattle.host_node.specs.TableState.{unknown_nodes, unknown_from}
use Rattle.host_model.specs.State.{HostState, first_nodes, first_classes, first_host, node_of}
use Rattle.host_model.specs.After.{node_does}
use Rattle.proof_course_plain.specs.proof_host.Facts.{Facts}
use Rattle.outside_model.specs.State.{outside, first_outer}
use Rattle.proof_course_plain.specs.OutsideTraffic.{AreNodes}
use Rattle.world_model.specs.State.{Machine, first_machine}
use Rattle.world_model.specs.Events.{Event}
use Rattle.world_model.specs.Did.{happens_all, MayAll}
use Rattle.proof_course_plain.specs.proof_serial.Line.{AllWriteWell, AllAtRest, AreLines, Stays}
use Rattle.proof_course_plain.specs.proof_serial.Host.{AllAskWell}
use Rattle.proof_course_plain.specs.Restarts.{AllKeepWell, BeginsEmpty, IsHeld}
use Rattle.proof_course_plain.specs.OnAir.{AlwaysFew}
use Rattle.proof_course_plain.specs.Truly.{AreTrue}
use Rattle.proof_course_plain.specs.Meaning.{Asked}
use Rattle.proof_course_plain.specs.Making.{MakesAsked}
use Rattle.proof_course_plain.proofs.KeptHosts.{get_set}
use Rattle.proof_course_plain.proofs.Restarts.{first_as}
use Rattle.proof_course_plain.proofs.Runs.{nodes_of, none_told}
use Rattle.proof_course_plain.proofs.Taken.{changes_taken}
use Rattle.proof_messages.specs.Numbers.{HasGiven}
use Rattle.proof_course_sealed.specs.Courses.{Courses, CoursesFacts, first_courses}
use Rattle.proof_course_sealed.specs.Meaning.{Past, first_past}
use Rattle.proof_course_sealed.specs.Mesh.{HasLock}
use Rattle.proof_course_sealed.specs.Outside.{Follows}
use Rattle.proof_course_sealed.specs.Host.{TextIs}
use Rattle.proof_course_sealed.specs.World.{WorldFollows, WorldGoes, HasCourses, IsFitly, HearsInPipe}
use Rattle.proof_course_sealed.proofs.Restarts.{none_pending}

-- the laws that are used
pub record Laws : Type 0 where
  pub outside_first : (keys : Keys) (node : ℕ) (devices : List State) → HasLock (first_past keys) node first_courses devices → Follows (first_past keys) node first_courses None [] no_rest turns.Idle [] [] (outside first_outer devices)
  pub facts_first : (keys : Keys) → Facts [] (first_host keys)
  pub held_first : (keys : Keys) (records : Option (List (List ℕ))) → BeginsEmpty records → IsHeld (first_host keys) records
  pub given_first : HasGiven [] 0 false unused
  pub course_first : CoursesFacts first_courses
  pub events : (past : Past) (node : ℕ) (c : Courses) (up down : List Item) (m : Machine) (events : List Event) → node < 233 → WorldFollows past node c up down m → IsHeld m.host.state m.records → MayAll m events → AllAtRest m events →
      AllWriteWell m events → AlwaysFew m events → AllKeepWell m events → AllByRecursion (IsFitly node) events → AllByRecursion (HearsInPipe node) events → WorldGoes past node c (happens_all m events)
  pub truths : (past : Past) (node : ℕ) (c : Courses) (up down : List Item) (m : Machine) (events : List Event) → node < 233 → WorldFollows past node c up down m → IsHeld m.host.state m.records → MayAll m events → AllAtRest m events →
      AllWriteWell m events → AlwaysFew m events → AllKeepWell m events → AllByRecursion (IsFitly node) events → AllByRecursion (HearsInPipe node) events → AreTrue node m events
  pub stays : (keys : Keys) (records : Option (List (List ℕ))) (devices : List State) (lines : List Line) (events : List Event) → AreLines lines (first_machine keys records devices) events → MayAll (first_machine keys records devices) events →
      AllWriteWell (first_machine keys records devices) events → Stays (first_machine keys records devices) events
  pub writes : (keys : Keys) (records : Option (List (List ℕ))) (devices : List State) (events : List Event) → MayAll (first_machine keys records devices) events → AllAskWell (first_machine keys records devices) events →
      AllWriteWell (first_machine keys records devices) events
  pub few : (keys : Keys) (records : Option (List (List ℕ))) (devices : List State) (lines : List Line) (events : List Event) → AreNodes devices → AreLines lines (first_machine keys records devices) events →
      MayAll (first_machine keys records devices) events → AllAskWell (first_machine keys records devices) events → AlwaysFew (first_machine keys records devices) events
  pub done : (steps : List Step) → MayAllSteps first_course steps → IsDone (after_all first_course steps)
  pub hears : (node : ℕ) (lines : List Line) (m : Machine) (events : List Event) → AreLines lines m events → AllByRecursion (HearsInPipe node) events

-- ---- at first

unused_at : (count at : ℕ) → get_or (replicate count unused) at unused ≡ unused
unused_at zero at = refl
unused_at (suc count) zero = refl
unused_at (suc count) (suc at) = unused_at count at

first_unused : (keys : Keys) (node : ℕ) → account_of (first_host keys).nonces node ≡ unused
first_unused keys node = unused_at 233 node

abbrev SawNone : NodeState → Type 0
SawNone n = n.seen ≡ 0

seen_from : (start count at : ℕ) → SawNone (get_or (unknown_from start count) at (unknown 0))
seen_from start zero at = refl
seen_from start (suc count) zero = refl
seen_from start (suc count) (suc at) = seen_from (suc start) count at

seen_at : (at : ℕ) → SawNone (get_or unknown_nodes at (unknown 0))
unfolding unknown_nodes
seen_at zero = refl
seen_at (suc at) = seen_from 1 232 at

first_seen : (keys : Keys) (node : ℕ) → (node_of (first_host keys) node).seen ≡ 0
unfolding first_nodes
first_seen keys node =
    let base : HostState = record (first_host keys) { nodes = unknown_nodes } in
    let joined : HostState = node_does base 2 Joins in
    let one : (at : ℕ) → SawNone (node_of joined at) = λ at. get_set SawNone base.nodes 2 at (after_node (node_of base 2) Joins) (unknown 0) (seen_at at) (λ e. seen_at 2) in
    get_set SawNone joined.nodes 2 node (after_node (node_of joined 2) (Interviews true first_classes)) (unknown 0) (one node) (λ e. one 2)

module _ (laws : Laws) (node : ℕ) (within : node < 233) (keys : Keys) (records : Option (List (List ℕ))) (devices : List State) (has : HasLock (first_past keys) node first_courses devices) where
  abbrev first : Machine
  first = first_machine keys records devices

  pub first_follows : WorldFollows (first_past keys) node first_courses [] [] first
  first_follows = record {
    keys = refl;
    text = None;
    tasks = [];
    outside = laws.outside_first keys node devices has;
    host = record {
      keys = refl;
      book = ((first_as keys node).0, (first_as keys node).1.0);
      commands = refl;
      orders = refl;
      ends = tt;
      gave = subst (λ (a : Account). HasGiven [] 0 false a) (sym (first_unused keys node)) laws.given_first;
      saw = record { count = first_seen keys node; waiting = λ some. none_pending first_courses (node_of (first_host keys) node).pending (first_as keys node).1.1.1 some };
      pending = λ plain is. absurd (let bad : ◌≡◌ {A = Option (List ℕ)} None (Some plain) = sym (first_as keys node).1.1.1 ∙ is in cc);
      texts = subst (λ (t : Option (List ℕ)). TextIs (first_past keys) node t None) (sym (first_as keys node).1.1.0) tt;
      marks = [];
      queue = tt;
      numbers = refl;
    };
    facts = (laws.facts_first keys).host;
    recorded = record { past = []; facts = laws.facts_first keys };
    course = laws.course_first;
    outcomes = λ session number status at is. absurd (none_told session status is);
  }

  -- ---- lines

  record Runs (events : List Event) : Type 0 where
    well : AllWriteWell first events
    rests : Stays first events
    few : AlwaysFew first events

  runs : (lines : List Line) (events : List Event) → AreLines lines first events → MayAll first events → AllAskWell first events → Runs events
  runs lines events are may asks =
      let well : AllWriteWell first events = laws.writes keys records devices events may asks in
      record { well = well; rests = laws.stays keys records devices lines events are may well; few = laws.few keys records devices lines events (nodes_of devices has.nodes) are may asks }

  pub lines_have : (lines : List Line) (events : List Event) → BeginsEmpty records → AreLines lines first events → MayAll first events → AllAskWell first events → AllKeepWell first events → AllByRecursion (IsFitly node) events
      → HasCourses node (happens_all first events)
  lines_have lines events empty are may asks keeps fit =
      let r : Runs events = runs lines events are may asks in
      let g : WorldGoes (first_past keys) node first_courses (happens_all first events) =
      laws.events (first_past keys) node first_courses [] [] first events within first_follows (laws.held_first keys records empty) may r.rests.at_rest r.well r.few keeps fit (laws.hears node lines first events are) in
      record {
        past = g.later_past;
        courses = g.later;
        up = g.up;
        down = g.down;
        follows = g.follows;
        done = subst (λ (c : Course). IsDone c) (sym g.goes.sessions.is) (laws.done g.goes.sessions.steps g.goes.sessions.may);
        made = λ place device stands own.
            let makes : AllByRecursion (MakesAsked g.later_past.orders g.later_past.commands) device.journal = (g.follows.outside.mesh.made place device stands own).changes in
            changes_taken (happens_all first events).host.state.commands g.later.sessions.host.commands device.journal
            (subst (λ (os : List Asked). AllByRecursion (MakesAsked os g.later.sessions.host.commands) device.journal) g.follows.host.orders
            (subst (λ (cs : List ℕ). AllByRecursion (MakesAsked g.later_past.orders cs) device.journal) g.follows.host.commands makes));
      }

  pub lines_true : (lines : List Line) (events : List Event) → BeginsEmpty records → AreLines lines first events → MayAll first events → AllAskWell first events → AllKeepWell first events → AllByRecursion (IsFitly node) events
      → AreTrue node first events
  lines_true lines events empty are may asks keeps fit =
      let r : Runs events = runs lines events are may asks in
      laws.truths (first_past keys) node first_courses [] [] first events within first_follows (laws.held_first keys records empty) may r.rests.at_rest r.well r.few keeps fit (laws.hears node lines first events are)
