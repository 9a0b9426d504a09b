-- What leaves the host as the courses of a lock have it: the books of its nodes, its orders and the tasks that wait.
use Rattle.std.proofs.Common.{◌≡◌, ℕ, true, Option, Some, None, List, [], ◌∷◌, ◌++◌, map, refl, ap, sym, ◌∙◌, subst, append-nil}
use Rattle.std.specs.List.{AllByRecursion}
use Rattle.std.specs.Option.{option_to_list}
use Rattle.host_requests.specs.declared.task.Task.{Task}
use Rattle.host_requests.specs.declared.task.Task.TheVariants as task
use Rattle.proof_course_plain.specs.Ways.{Beside, Thinned}
use Rattle.proof_course_plain.specs.Mesh.{labels}
use Rattle.proof_course_plain.proofs.Flights.{beside-weaker}
use Rattle.proof_course_plain.proofs.KeptHosts.{Course}
use Rattle.proof_course_plain.proofs.WayLabels.{thinned_same, thinned_after, thinned_then, labels-append, beside-both}
use Rattle.proof_course_sealed.specs.Meaning.{Past, Grows}
use Rattle.proof_course_sealed.specs.Host.{IsOtherTask, TaskIs}
use Rattle.proof_course_sealed.proofs.Meanings.{nonce_stays}

-- ---- tasks that wait

-- of the nonces that these tasks bring the node these are left
pub record TasksLeft (past : Past) (node : ℕ) (marks : List (Option ℕ)) (queue : List Task) : Type 0 where
  pub now : List (Option ℕ)
  pub beside : Beside (TaskIs past node) queue now
  pub thin : Thinned (labels marks) (labels now)

module _ (past : Past) (node : ℕ) where
  pub all_left : (marks : List (Option ℕ)) (queue : List Task) → Beside (TaskIs past node) queue marks → TasksLeft past node marks queue
  all_left marks queue all = record { now = marks; beside = all; thin = thinned_same (labels marks) }

  pub left_then : (marks : List (Option ℕ)) (a b : List Task) (first : TasksLeft past node marks a) → TasksLeft past node first.now b → TasksLeft past node marks b
  left_then marks a b first later = record { now = later.now; beside = later.beside; thin = thinned_then (labels marks) (labels first.now) (labels later.now) first.thin later.thin }

  unmarked : (asked : Task) → IsOtherTask node asked → TaskIs past node asked None
  unmarked (task.Plain n payload) is = is
  unmarked (task.Offer n nonce) is = is
  unmarked (task.Segment n payload) is = is
  unmarked (task.NoMore n) is = is
  unmarked (task.First n) is = is
  unmarked (task.Second n) is = is
  unmarked task.Members is = is
  unmarked (task.Neighbours n) is = is
  unmarked (task.IsFailed n) is = is
  unmarked task.Version is = is
  unmarked task.MemoryId is = is
  unmarked task.Capabilities is = is

  no_marks : List Task → List (Option ℕ)
  no_marks added = map (λ _. None) added

  nothing_marked : (added : List Task) → labels (no_marks added) ≡ []
  unfolding no_marks
  nothing_marked [] = refl
  nothing_marked (asked ∷ added) = nothing_marked added

  none_beside : (added : List Task) → AllByRecursion (IsOtherTask node) added → Beside (TaskIs past node) added (no_marks added)
  unfolding no_marks
  none_beside [] all = tt
  none_beside (asked ∷ added) all = (unmarked asked all.0, none_beside added all.1)

  -- these wait after the others
  pub following : (marks : List (Option ℕ)) (queue added : List Task) → Beside (TaskIs past node) queue marks → AllByRecursion (IsOtherTask node) added → TasksLeft past node marks (queue ++ added)
  following marks queue added all others = record {
    now = marks ++ no_marks added;
    beside = beside-both (TaskIs past node) queue added marks (no_marks added) all (none_beside added others);
    thin = subst (λ (l : List ℕ). Thinned (labels marks) l) (sym (labels-append marks (no_marks added) ∙ (ap (λ l. labels marks ++ l) (nothing_marked added) ∙ append-nil (labels marks)))) (thinned_same (labels marks));
  }

  pub first_left : (marks : List (Option ℕ)) (asked : Task) (rest : List Task) → Beside (TaskIs past node) (asked ∷ rest) marks → TasksLeft past node marks rest
  first_left [] asked rest all = absurd all
  first_left (mark ∷ marks) asked rest all = record { now = marks; beside = all.1; thin = thinned_after (option_to_list mark) (labels marks) (labels marks) (thinned_same (labels marks)) }

-- a nonce keeps its number as more was
task_stays : (past later : Past) (node : ℕ) (asked : Task) (mark : Option ℕ) → Grows past later → TaskIs past node asked mark → TaskIs later node asked mark
task_stays past later node (task.Offer n nonce) (Some number) grows is = (is.0, nonce_stays past.shown later.shown number nonce grows.shown is.1)
task_stays past later node (task.Offer n nonce) None grows is = is
task_stays past later node (task.Plain n payload) None grows is = is
task_stays past later node (task.Plain n payload) (Some number) grows is = absurd is
task_stays past later node (task.Segment n payload) None grows is = is
task_stays past later node (task.Segment n payload) (Some number) grows is = absurd is
task_stays past later node (task.NoMore n) None grows is = is
task_stays past later node (task.NoMore n) (Some number) grows is = absurd is
task_stays past later node (task.First n) None grows is = is
task_stays past later node (task.First n) (Some number) grows is = absurd is
task_stays past later node (task.Second n) None grows is = is
task_stays past later node (task.Second n) (Some number) grows is = absurd is
task_stays past later node task.Members None grows is = is
task_stays past later node task.Members (Some number) grows is = absurd is
task_stays past later node (task.Neighbours n) None grows is = is
task_stays past later node (task.Neighbours n) (Some number) grows is = absurd is
task_stays past later node (task.IsFailed n) None grows is = is
task_stays past later node (task.IsFailed n) (Some number) grows is = absurd is
task_stays past later node task.Version None grows is = is
task_stays past later node task.Version (Some number) grows is = absurd is
task_stays past later node task.MemoryId None grows is = is
task_stays past later node task.MemoryId (Some number) grows is = absurd is
task_stays past later node task.Capabilities None grows is = is
task_stays past later node task.Capabilities (Some number) grows is = absurd is

pub tasks_stay : (past later : Past) (node : ℕ) (queue : List Task) (marks : List (Option ℕ)) → Grows past later → Beside (TaskIs past node) queue marks → Beside (TaskIs later node) queue marks
tasks_stay past later node queue marks grows all = beside-weaker (TaskIs past node) (TaskIs later node) (λ asked mark. task_stays past later node asked mark grows) queue marks all

-- ---- the course

-- of the nonces that the tasks that wait bring the node some are left
abbrev pub lock_course : ℕ → Course
lock_course node = record {
  node = node;
  Is = λ cs o commands outcome text pending. (commands ≡ cs) × (outcome ≡ o);
  seals = true;
  sent = λ cs o commands outcome text pending is. is;
  bare = λ cs o commands outcome text pending is. is;
  sealed = λ seals cs o commands outcome text pending later waiting is. is;
  IsOther = IsOtherTask node;
  asks = λ n. (tt, (tt, tt));
  probes = (tt, (tt, (tt, tt)));
  Leaves = λ old new. (past : Past) (marks : List (Option ℕ)) → Beside (TaskIs past node) old marks → TasksLeft past node marks new;
  same = λ queue past marks all. all_left past node marks queue all;
  both = λ first next last one later past marks all.
      let left = one past marks all in left_then past node marks next last left (later past left.now left.beside);
  more = λ queue added others past marks all. following past node marks queue added all others;
  taken = λ asked rest past marks all. first_left past node marks asked rest all;
  forgotten = λ queue past marks all. record { now = []; beside = tt; thin = tt };
}
