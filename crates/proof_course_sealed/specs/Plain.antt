-- What is said of courses of unsealed commands, as the crate below defines it, for whoever depends on both kinds.
pub use Rattle.proof_course_plain.specs.Device.{AtDevice, IsIdle, OthersAreIdle}
pub use Rattle.proof_course_plain.specs.Mesh.{HasDevice}
pub use Rattle.proof_course_plain.specs.World.{HasCourse, NamesEnd, OrderPlain, OrdersPlain}
