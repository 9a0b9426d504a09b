-- What the events to come make of a course of sessions: that of a node whose orders go unsealed, or that of a lock.
use Rattle.std.proofs.Common.{ℕ, ◌<◌, List, [], ◌∷◌, ◌++◌, subst}
use Rattle.std.specs.List.{AllByRecursion}
use Rattle.serial_frame.specs.declared.item.Item.{Item}
use Rattle.host_model.specs.Facts.{HostFacts}
use Rattle.world_model.specs.Did.{happens_all}
use Rattle.world_model.specs.Events.{Event, happens, May}
use Rattle.world_model.specs.State.{Machine}
use Rattle.proof_course.specs.Sessions.{Course}
use Rattle.proof_spoken.specs.Restarts.{IsHeld, KeepsWell, StartsWell}
use Rattle.proof_spoken.specs.proof_serial.Line.{IsAtRest, WritesWell}
use Rattle.proof_course_plain.specs.Judged.{IsNoHand, JudgesAt}
use Rattle.proof_course_plain.specs.Meaning.{Asked}
use Rattle.proof_course_plain.specs.OnAir.{EventStaysFew}
use Rattle.proof_course_plain.specs.World.{EndsByHearing, IsPlainly as IsAskedPlainly, WorldFollows, WorldGoes}
use Rattle.proof_course_sealed.specs.Courses.{Courses}
use Rattle.proof_course_sealed.specs.Meaning.{Past}
use Rattle.proof_course_sealed.specs.World.{HearsInPipe, IsFitly, WorldFollows as LockFollows, WorldGoes as LockGoes}
use Rattle.proof_in_time.proofs.EndedSessions.{EndsMore, goes_more}
use Rattle.proof_in_time.proofs.FromFirst.{Can, can_then}
use Rattle.proof_in_time.proofs.JudgedSessions.{At}
use Rattle.proof_in_time.proofs.Stepping.{Laws as CourseLaws}

-- ---- events

-- one event may happen, and leads the course on: the device makes of its sessions what its kind says, where it is not set by hand
pub record Next (n : ℕ) (m : Machine) (event : Event) (at : At n m) : Type 0 where
  pub now : At n (happens m event)
  pub may : May m event
  pub more : EndsMore at.course now.course
  pub starts : StartsWell m event
  pub judged : IsNoHand n event → JudgesAt n at.orders at.course.host.commands m.outside.devices (happens m event).outside.devices

-- and so each of these, one after another
abbrev pub GoesOn : (n : ℕ) (m : Machine) → At n m → List Event → Type 0
GoesOn n m at [] = Unit {0}
GoesOn n m at (event ∷ events) = (next : Next n m event at) × GoesOn n (happens m event) next.now events

-- the first of them lead to where the others go on
pub leads : (n : ℕ) (m : Machine) (first rest : List Event) (at : At n m) → GoesOn n m at (first ++ rest) → (later : At n (happens_all m first)) × GoesOn n (happens_all m first) later rest
leads n m [] rest at on = (at, on)
leads n m (event ∷ first) rest at on = leads n (happens m event) first rest on.0.now on.1

-- ---- orders go unsealed

pub record Laws : Type 0 where
  pub course : CourseLaws
  pub judged : (n : ℕ) (orders : List Asked) (c : Course) (up down : List Item) (m : Machine) (event : Event) → n < 233 → WorldFollows n orders c up down m → IsNoHand n event
      → JudgesAt n orders c.host.commands m.outside.devices (happens m event).outside.devices

abbrev pub at_open : (n : ℕ) (orders : List Asked) (c : Course) (up down : List Item) (m : Machine) → WorldFollows n orders c up down m → At n m
at_open n orders c up down m follows = record {
  orders = orders;
  course = c;
  place = follows.outside.mesh.device.place;
  device = follows.outside.mesh.device.device;
  first = follows.outside.mesh.device.first;
  stands = follows.outside.mesh.device.stands;
  others = follows.outside.mesh.device.others;
  sessions = follows.outside.mesh.device.at.sessions;
  ends = follows.outside.mesh.device.at.ended;
  booked = (follows.host.node_as.0, follows.host.node_as.1.0);
  orders_are = follows.host.orders_are;
  lawful = follows.course;
  outcomes = follows.outcomes;
}

pub open_goes : Laws → (n : ℕ) → n < 233 → (orders : List Asked) (c : Course) (up down : List Item) (m : Machine) (events : List Event) (follows : WorldFollows n orders c up down m) → Can m events
    → AllByRecursion (IsAskedPlainly n) events → AllByRecursion (EndsByHearing n) events → GoesOn n m (at_open n orders c up down m follows) events
open_goes laws n within orders c up down m [] follows can plain ends = tt
open_goes laws n within orders c up down m (event ∷ events) follows can plain ends =
    let held = laws.course.held m event follows.facts can.held can.may.0 can.keeps.0 in
    let one : WorldGoes n c (happens m event) = laws.course.event n orders c up down m event within follows can.held can.may.0 can.rests.0 can.well.0 can.few.1 can.keeps.0 plain.0 ends.0 in (
      record {
        now = at_open n one.orders one.later one.up one.down (happens m event) one.follows;
        may = can.may.0;
        more = goes_more c one.later one.goes;
        starts = held.0;
        judged = laws.judged n orders c up down m event within follows;
      },
      open_goes laws n within one.orders one.later one.up one.down (happens m event) events one.follows (can_then m event events held.1 can) plain.1 ends.1,
    )

-- ---- a lock

pub record LockLaws : Type 0 where
  pub event : (past : Past) (n : ℕ) (c : Courses) (up down : List Item) (m : Machine) (event : Event) → n < 233 → LockFollows past n c up down m → IsHeld m.host.state m.records → May m event → IsAtRest m event → WritesWell m event
      → EventStaysFew m event → KeepsWell m event → IsFitly n event → HearsInPipe n event → LockGoes past n c (happens m event)
  pub held : (m : Machine) (event : Event) → HostFacts m.host.state → IsHeld m.host.state m.records → May m event → KeepsWell m event → StartsWell m event × IsHeld (happens m event).host.state (happens m event).records
  pub judged : (past : Past) (n : ℕ) (c : Courses) (up down : List Item) (m : Machine) (event : Event) → n < 233 → LockFollows past n c up down m → IsNoHand n event
      → JudgesAt n past.orders past.commands m.outside.devices (happens m event).outside.devices

abbrev pub at_lock : (past : Past) (n : ℕ) (c : Courses) (up down : List Item) (m : Machine) → LockFollows past n c up down m → At n m
at_lock past n c up down m follows = record {
  orders = past.orders;
  course = c.sessions;
  place = follows.outside.mesh.device.place;
  device = follows.outside.mesh.device.device;
  first = follows.outside.mesh.device.first;
  stands = follows.outside.mesh.device.stands;
  others = follows.outside.mesh.device.others;
  sessions = follows.outside.mesh.device.at.sessions;
  ends = follows.outside.mesh.device.at.ended;
  booked = follows.host.book;
  orders_are = follows.host.orders;
  lawful = follows.course.sessions;
  outcomes = follows.outcomes;
}

pub lock_goes : LockLaws → (n : ℕ) → n < 233 → (past : Past) (c : Courses) (up down : List Item) (m : Machine) (events : List Event) (follows : LockFollows past n c up down m) → Can m events
    → AllByRecursion (IsFitly n) events → AllByRecursion (HearsInPipe n) events → GoesOn n m (at_lock past n c up down m follows) events
lock_goes laws n within past c up down m [] follows can fit hears = tt
lock_goes laws n within past c up down m (event ∷ events) follows can fit hears =
    let held = laws.held m event follows.facts can.held can.may.0 can.keeps.0 in
    let one : LockGoes past n c (happens m event) = laws.event past n c up down m event within follows can.held can.may.0 can.rests.0 can.well.0 can.few.1 can.keeps.0 fit.0 hears.0 in (
      record {
        now = at_lock one.later_past n one.later one.up one.down (happens m event) one.follows;
        may = can.may.0;
        more = goes_more c.sessions one.later.sessions one.goes.sessions;
        starts = held.0;
        judged = λ none. subst (λ (commands : List ℕ). JudgesAt n past.orders commands m.outside.devices (happens m event).outside.devices) follows.host.commands
            (laws.judged past n c up down m event within follows none);
      },
      lock_goes laws n within one.later_past one.later one.up one.down (happens m event) events one.follows (can_then m event events held.1 can) fit.1 hears.1,
    )
