-- What leaves the sessions of a node at the host as they are: those of a node whose commands go unsealed.
use Rattle.std.proofs.Common.{◌≡◌, ℕ, true, false, None, List, refl}
use Rattle.std.specs.List.{AllByRecursion}
use Rattle.zw_base.proofs.Each.{all-append, all-weaker}
use Rattle.host_requests.specs.declared.task.Task.{Task}
use Rattle.host_requests.specs.declared.task.Task.TheVariants.{Segment}
use Rattle.proof_course_plain.specs.Meaning.{Asked}
use Rattle.proof_course_plain.specs.Host.{IsOtherTask, IsTaskFor}
use Rattle.proof_course_plain.proofs.KeptHosts.{Course}

-- what is asked for is no segment
pub other_task : (node : ℕ) (asked : List Asked) (commands : List ℕ) (task : Task) → IsOtherTask node task → IsTaskFor node asked commands task
other_task node asked commands (Segment n payload) apart = λ own. absurd (apart own)
other_task node asked commands _ is = is

-- the tasks that wait bring the node what they brought
abbrev pub plain_course : ℕ → Course
plain_course node = record {
  node = node;
  Is = λ cs o commands outcome text pending. (commands ≡ cs) × ((outcome ≡ o) × ((text ≡ None) × (pending ≡ None)));
  seals = false;
  sent = λ cs o commands outcome text pending is. (is.0, (is.1.0, (refl, is.1.1.1)));
  bare = λ cs o commands outcome text pending is. (is.0, (is.1.0, (refl, refl)));
  sealed = λ seals. absurd (let none : false ≡ true = seals in cc);
  IsOther = IsOtherTask node;
  asks = λ n. (tt, (tt, tt));
  probes = (tt, (tt, (tt, tt)));
  Leaves = λ old new. (asked : List Asked) (commands : List ℕ) → AllByRecursion (IsTaskFor node asked commands) old → AllByRecursion (IsTaskFor node asked commands) new;
  same = λ queue asked commands all. all;
  both = λ first next last one later asked commands all. later asked commands (one asked commands all);
  more = λ queue added others asked commands all.
      all-append (IsTaskFor node asked commands) queue added all (all-weaker (IsOtherTask node) (IsTaskFor node asked commands) (other_task node asked commands) added others);
  taken = λ task rest asked commands all. all.1;
  forgotten = λ queue asked commands all. tt;
}
