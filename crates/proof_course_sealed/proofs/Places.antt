-- Where a device stands in the list, as the crate below proves it, for whoever depends on both kinds of course.
pub use Rattle.proof_course_plain.proofs.Replies.{one_place, one_stands}
