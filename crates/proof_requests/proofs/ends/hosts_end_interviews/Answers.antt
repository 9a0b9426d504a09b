-- Each entry that tells of an end ends an interview as it may.
use Rattle.std.specs.Prelude.{[]}
use Rattle.proof_waking.specs.law_time.Moments.{Allows}
use Rattle.proof_waking.specs.law_time.Interviews.{may_end}
use Rattle.proof_waking.proofs.Lists.{each-weaker}
use Rattle.proof_requests.specs.Ends.{TellsEnd}
use Rattle.proof_requests.proofs.Interviews.{interviews_may}
use Rattle.proof_requests.proofs.ends.hosts_end_interviews.Goals as goal

pub returns : goal.returns
returns c = λ keys told run. each-weaker TellsEnd (Allows may_end) interviews_may [] told (c.hosts_tell_of_ends.ensures.told keys told run)
