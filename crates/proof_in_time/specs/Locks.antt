-- A lock in step with the host (this project's own rule): its courses, and the session that it is to take next or took last.
use Rattle.std.specs.Prelude.{ℕ, ◌≤◌, List}
use Rattle.supervision.specs.Host.{begun_of}
use Rattle.serial_frame.specs.declared.item.Item.{Item}
use Rattle.host_model.specs.State.{node_of}
use Rattle.world_model.specs.Events.{Event}
use Rattle.world_model.specs.State.{Machine}
use Rattle.proof_course_sealed.specs.Courses.{Courses}
use Rattle.proof_course_sealed.specs.Meaning.{Past}
use Rattle.proof_course_sealed.specs.World.{WorldFollows}
use Rattle.proof_in_time.specs.Answering.{IsInStep}
use Rattle.proof_in_time.specs.InStep.{IsNearAt}

-- the courses are where the machine is; once the host has begun a session, its last is the last that the lock took, or the next, and the lock is at no work
pub record LockInStep (n : ℕ) (m : Machine) : Type 0 where
  pub past : Past
  pub courses : Courses
  pub up : List Item
  pub down : List Item
  pub follows : WorldFollows past n courses up down m
  pub step : 1 ≤ begun_of (node_of m.host.state n).book → IsInStep (begun_of (node_of m.host.state n).book) follows.outside.mesh.device.device

-- so it is as an event comes, and an order for the node is for an end point that has a number on the wire
pub record LockGoes (n : ℕ) (m : Machine) (event : Event) : Type 0 where
  pub step : LockInStep n m
  pub near : IsNearAt n event
