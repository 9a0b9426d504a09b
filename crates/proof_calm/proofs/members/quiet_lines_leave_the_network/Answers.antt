-- One walk over quiet lines, for any network.
use Rattle.std.proofs.Common.{[], refl}
use Rattle.proof_work.specs.proof_walk.Walk.{Walk}
use Rattle.proof_work.proofs.ByLine.{walk_of}
use Rattle.proof_work.proofs.Lines.{lines_lead}
use Rattle.proof_work.specs.Phases.{AsksNothing}
use Rattle.proof_calm.specs.Networks.{Members, members, HasMembers, KnowMembers}
use Rattle.proof_calm.specs.Quiet.{InQuiet, AtQuiet, DoingQuiet}
use Rattle.proof_calm.proofs.Links.{event_members}
use Rattle.proof_calm.proofs.Quiet.{by_quiet_lines}
use Rattle.proof_calm.proofs.members.quiet_lines_leave_the_network.Goals as goal

members_walk : (these : Members) → Walk AsksNothing (KnowMembers these)
members_walk these =
    walk_of AsksNothing (AtQuiet (HasMembers these)) (AtQuiet (HasMembers these)) (DoingQuiet (HasMembers these)) (InQuiet (HasMembers these)) (by_quiet_lines (HasMembers these) (event_members these))

pub returns-clause-walk : goal.returns-clause-walk
returns-clause-walk c = members_walk

pub returns-clause-lines : goal.returns-clause-lines
returns-clause-lines c = λ m lines are whole quiet.
    (lines_lead AsksNothing (KnowMembers (members m.outside.outer)) (members_walk (members m.outside.outer)) [] m lines are whole (λ said. refl)).1 quiet
