-- A lock as its maker left it, at the beginning of its courses.
use Rattle.std.proofs.Common.{◌≡◌, ℕ, List, Some, refl, sym, ap, subst, ◌∙◌}
use Rattle.std.specs.List.{AllByRecursion}
use Rattle.device_kinds.specs.declared.kind.Kind.{Kind}
use Rattle.device_kinds.specs.declared.kind.Kind.TheVariants as kinds
use Rattle.s0_crypto.specs.Sealing.{keys_of}
use Rattle.device_sim.specs.State.{State, fresh}
use Rattle.law_transcript.specs.Headline.{IsAsMade}
use Rattle.law_transcript.specs.Nodes.{device_of}
use Rattle.proof_course_plain.specs.Device.{IsIdle}
use Rattle.proof_course_sealed.specs.Courses.{first_courses}
use Rattle.proof_course_sealed.specs.Meaning.{first_past}
use Rattle.proof_course_sealed.specs.Lock.{AtLock}
use Rattle.proof_course_plain.proofs.AsMade.{stand_as_made}
use Rattle.proof_course_sealed.specs.LockNodes.{IsLockKind, IsLockNode}

-- the only kind that lists both
is_lock : (kind : Kind) → IsLockKind kind → kind ≡ kinds.Lock
is_lock kinds.Relay lock = let none = lock.supervised in absurd cc
is_lock kinds.Switch lock = let none = lock.sealed in absurd cc
is_lock kinds.Dimmer lock = let none = lock.sealed in absurd cc
is_lock kinds.Lock lock = refl
is_lock kinds.Sensor lock = let none = lock.sealed in absurd cc
is_lock kinds.Thermostat lock = let none = lock.sealed in absurd cc
is_lock kinds.Strip lock = let none = lock.sealed in absurd cc
is_lock kinds.Configurable lock = let none = lock.sealed in absurd cc

module _ (idle : (node : ℕ) (kind : Kind) (key : List ℕ) → IsIdle (fresh node kind key)) (begins : (node : ℕ) (key : List ℕ) → AtLock (first_past (keys_of key)) first_courses (fresh node kinds.Lock key)) where
  lock_begins : (key : List ℕ) (device : State) → device ≡ fresh device.node device.kind key → device.kind ≡ kinds.Lock → AtLock (first_past (keys_of key)) first_courses device
  lock_begins key device made lock =
      let is : device ≡ fresh device.node kinds.Lock key = made ∙ ap (λ (kind : Kind). fresh device.node kind key) lock in
      subst (AtLock (first_past (keys_of key)) first_courses) (sym is) (begins device.node key)

  pub begin_courses : (key : List ℕ) (devices : List State) (node : ℕ) (device : State) → AllByRecursion (IsAsMade key) devices → device_of node devices ≡ Some device → IsLockKind device.kind
      → IsLockNode (keys_of key) devices node
  begin_courses key devices node device all found lock =
      let at = stand_as_made idle key devices node device all found in
      record {
        within = at.within;
        device = record {
          device = device;
          place = at.place;
          first = at.first;
          stands = at.stands;
          at = lock_begins key device at.made (is_lock device.kind lock);
          others = at.others;
          nodes = at.nodes;
        };
      }
