-- The courses of a lock are where the machine is, its sessions among them, which tie it to the host.
use Rattle.std.proofs.Common.{ℕ}
use Rattle.world_model.specs.State.{Machine}
use Rattle.proof_course_sealed.specs.World.{HasCourses}
use Rattle.proof_headline.proofs.PlainTying.{IsAt}

pub lock_at : (node : ℕ) (m : Machine) (has : HasCourses node m) → IsAt node m has.courses.sessions
lock_at node m has =
    let there = has.follows.outside.mesh.device in
    record {
      facts = has.follows.course.sessions;
      device = there.device;
      place = there.place;
      first = there.first;
      stands = there.stands;
      ended = there.at.ended;
      commands = has.follows.host.book.0;
      outcome = has.follows.host.book.1;
      outcomes = has.follows.outcomes;
      made = has.made;
    }
