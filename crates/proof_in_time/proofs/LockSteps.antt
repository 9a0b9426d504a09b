-- A lock is in step with the host at each event of lines, and the orders for it are for end points that have numbers on the wire.
use Rattle.std.proofs.Common.{◌≡◌, ◌<◌, ℕ, List, [], ◌∷◌, length, ap, arith}
use Rattle.std.specs.List.{AllByRecursion}
use Rattle.supervision.specs.Device.{Taken}
use Rattle.supervision.specs.Host.{begun_of}
use Rattle.serial_frame.specs.declared.item.Item.{Item}
use Rattle.device_sim.specs.State.{State}
use Rattle.host_model.specs.Events.{HostEvent, Accepts}
use Rattle.host_model.specs.State.{node_of}
use Rattle.world_model.specs.Did.{AllAlong}
use Rattle.world_model.specs.Events.{Event, Host_does, happens}
use Rattle.world_model.specs.State.{Machine}
use Rattle.proof_course_sealed.specs.Courses.{Courses}
use Rattle.proof_course_sealed.specs.Host.{AsksFitly}
use Rattle.proof_course_sealed.specs.Lock.{AtLock}
use Rattle.proof_course_sealed.specs.Meaning.{Past}
use Rattle.proof_course_sealed.specs.World.{HearsInPipe, IsFitly, WorldFollows, WorldGoes}
use Rattle.proof_in_time.specs.Answering.{IsDone}
use Rattle.proof_in_time.specs.InStep.{IsNear, IsNearAt}
use Rattle.proof_in_time.specs.Locks.{LockGoes, LockInStep}
use Rattle.proof_in_time.proofs.FromFirst.{Can, can_then}
use Rattle.proof_in_time.proofs.JudgedCourses.{LockLaws}
use Rattle.proof_in_time.proofs.Stepping.{done_steps, next_or_last}

near : (n : ℕ) (event : HostEvent) → AsksFitly n event → IsNear n event
near n (Accepts order carriage) fit = fit
near n event fit = tt

near_at : (n : ℕ) (event : Event) → IsFitly n event → IsNearAt n event
near_at n (Host_does event) fit = near n event fit
near_at n event fit = tt

-- a lock is at no work
lock_done : (past : Past) (c : Courses) (device : State) → AtLock past c device → IsDone device
lock_done past c device at = record { over = at.ended.at_rest at.lock.idle; no_work = at.lock.idle }

in_step : (past : Past) (n : ℕ) (c : Courses) (up down : List Item) (m : Machine) → WorldFollows past n c up down m → LockInStep n m
in_step past n c up down m follows =
    let device : State = follows.outside.mesh.device.device in
    let at : AtLock past c device = follows.outside.mesh.device.at in
    let begun : begun_of (node_of m.host.state n).book ≡ begun_of c.sessions.host = ap (λ (l : List ℕ). length l) follows.host.book.0 in
    let taken : device.sessions.taken ≡ c.sessions.device.taken = ap (λ (t : Taken). t.taken) at.sessions in
    let ahead = follows.course.sessions.agree.not_ahead in
    let after = follows.course.sessions.agree.one_after in
    record {
      past = past;
      courses = c;
      up = up;
      down = down;
      follows = follows;
      step = λ some. done_steps device (begun_of (node_of m.host.state n).book) (lock_done past c device at) some
          (next_or_last device.sessions.taken (begun_of (node_of m.host.state n).book) (omega (arith, begun, taken, ahead)) (omega (arith, begun, taken, after)));
    }

pub locks_along : LockLaws → (n : ℕ) → n < 233 → (past : Past) (c : Courses) (up down : List Item) (m : Machine) (events : List Event) → WorldFollows past n c up down m → Can m events
    → AllByRecursion (IsFitly n) events → AllByRecursion (HearsInPipe n) events → AllAlong (LockGoes n) m events
locks_along laws n within past c up down m [] follows can fit hears = tt
locks_along laws n within past c up down m (event ∷ events) follows can fit hears =
    let held = laws.held m event follows.facts can.held can.may.0 can.keeps.0 in
    let one : WorldGoes past n c (happens m event) = laws.event past n c up down m event within follows can.held can.may.0 can.rests.0 can.well.0 can.few.1 can.keeps.0 fit.0 hears.0 in (
      record { step = in_step past n c up down m follows; near = near_at n event fit.0 },
      locks_along laws n within one.later_past one.later one.up one.down (happens m event) events one.follows (can_then m event events held.1 can) fit.1 hears.1,
    )
