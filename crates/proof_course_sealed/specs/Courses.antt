-- The three courses of a lock beside each other (this project's own rule): its sessions, the nonces that it gives and those that the host gives it.
use Rattle.std.specs.Prelude.{◌≡◌, ℕ, Bool, true, List, ◌++◌, map, Option, is_some}
use Rattle.std.specs.Option.{option_to_list}
use Rattle.proof_course.specs.Flying.{Flight}
use Rattle.proof_course.specs.Sessions.{Course, first_course, Cargo as SessionCargo}
use Rattle.proof_course.specs.SessionFacts.{CourseFacts}
use Rattle.proof_course.specs.NodeNonces as node
use Rattle.proof_course.specs.NodeNonceFacts.{NonceFacts as NodeFacts}
use Rattle.proof_course.specs.HostNonces as host
use Rattle.proof_course.specs.HostNonceFacts.{NonceFacts as HostFacts}
use Rattle.proof_course_plain.specs.Ways.{Goes}
use Rattle.proof_course_sealed.specs.Labels.{Sent, Held, Late, picked, message_of, sealed_for, offer_of, report_of, shown_by, answers_for, as_session, as_node, as_host}

pub record Courses : Type 0 where
  pub sessions : Course
  pub node : node.Nonces
  pub host : host.Nonces

pub record CoursesFacts (c : Courses) : Type 0 where
  pub sessions : CourseFacts c.sessions
  pub node : NodeFacts c.node
  pub host : HostFacts c.host

abbrev pub first_courses : Courses
first_courses = record { sessions = first_course; node = node.first_nonces; host = host.first_nonces }

-- an end that seals saw so many nonces; and a text waits for one only where the course has it so, but not the other way round: an attempt that ends drops its text, and no step of a course does
pub record HasSeen (seen : ℕ) (waits : Bool) (seen_now : ℕ) (pending : Option (List ℕ)) : Type 0 where
  pub count : seen_now ≡ seen
  pub waiting : is_some pending ≡ true → waits ≡ true

-- ---- steps

pub record NodeGoes (old new : node.Nonces) : Type 0 where
  pub steps : List node.Step
  pub may : node.MayAll old steps
  pub is : new ≡ node.after_all old steps

pub record HostGoes (old new : host.Nonces) : Type 0 where
  pub steps : List host.Step
  pub may : host.MayAll old steps
  pub is : new ≡ host.after_all old steps

-- steps of each that may be made lead from the old to the new
pub record CoursesGo (old new : Courses) : Type 0 where
  pub sessions : Goes old.sessions new.sessions
  pub node : NodeGoes old.node new.node
  pub host : HostGoes old.host new.host

-- ---- what is on its way

-- on the way to the chip; after that what is sealed and not written yet, and the nonces that wait to be written
pub record GoUp (c : Courses) (carried : List Sent) (text : Option ℕ) (tasks : List ℕ) : Type 0 where
  pub messages : c.sessions.up ≡ picked message_of carried
  pub sealed : c.node.up ≡ picked sealed_for carried ++ option_to_list text
  pub offers : c.host.up ≡ picked offer_of carried ++ tasks

-- on the way to the host
pub record GoDown (c : Courses) (carried : List Late) : Type 0 where
  pub reports : c.sessions.down ≡ picked report_of carried
  pub nonces : c.node.down ≡ picked (λ (late : Late). shown_by late.said) carried
  pub answers : c.host.down ≡ picked (λ (late : Late). answers_for late.said) carried

-- a frame as all three have it: what it holds, how many sessions had begun as it went on the air, how many nonces the node had given, and which of the host's was the last on the air
pub record Aloft : Type 0 where
  pub held : Held
  pub begun : ℕ
  pub given : ℕ
  pub shown : ℕ

abbrev pub of_sessions : Aloft → Flight SessionCargo
of_sessions aloft = record { cargo = as_session aloft.held; since = aloft.begun }

abbrev pub of_node : Aloft → Flight node.Cargo
of_node aloft = record { cargo = as_node aloft.held; since = aloft.given }

abbrev pub of_host : Aloft → Flight host.Cargo
of_host aloft = record { cargo = as_host aloft.held; since = aloft.shown }

-- the frames on the air, and all that ever were there
pub record Fly (c : Courses) (air old : List Aloft) : Type 0 where
  pub sessions : (c.sessions.air ≡ map of_sessions air) × (c.sessions.old ≡ map of_sessions old)
  pub node : (c.node.air ≡ map of_node air) × (c.node.old ≡ map of_node old)
  pub host : (c.host.air ≡ map of_host air) × (c.host.old ≡ map of_host old)

-- ---- the courses with other things on their ways

abbrev pub with_up : Courses → List Sent → Option ℕ → List ℕ → Courses
with_up c carried text tasks = record {
  sessions = record c.sessions { up = picked message_of carried };
  node = record c.node { up = picked sealed_for carried ++ option_to_list text };
  host = record c.host { up = picked offer_of carried ++ tasks };
}

abbrev pub with_down : Courses → List Late → Courses
with_down c carried = record {
  sessions = record c.sessions { down = picked report_of carried };
  node = record c.node { down = picked (λ (late : Late). shown_by late.said) carried };
  host = record c.host { down = picked (λ (late : Late). answers_for late.said) carried };
}

-- ---- what steps leave

-- what the host knows of the courses stays
pub record SameBooks (old new : Courses) : Type 0 where
  pub host : new.sessions.host ≡ old.sessions.host
  pub told : new.sessions.told ≡ old.sessions.told
  pub seen : new.node.seen ≡ old.node.seen
  pub waits : new.node.waits ≡ old.node.waits
  pub given : new.host.given ≡ old.host.given
  pub is_live : new.host.is_live ≡ old.host.is_live

-- what is on the way to the chip, or is to be, stays
pub record SameUp (old new : Courses) : Type 0 where
  pub messages : new.sessions.up ≡ old.sessions.up
  pub sealed : new.node.up ≡ old.node.up
  pub offers : new.host.up ≡ old.host.up

-- these are on their way to the host after the others
pub record AddsDown (old new : Courses) (more : List Late) : Type 0 where
  pub reports : new.sessions.down ≡ old.sessions.down ++ picked report_of more
  pub nonces : new.node.down ≡ old.node.down ++ picked (λ (late : Late). shown_by late.said) more
  pub answers : new.host.down ≡ old.host.down ++ picked (λ (late : Late). answers_for late.said) more
