-- A node whose first device listens, or sleeps, and a host that knows of it that it does not list Security 0; so it takes by its kind what is not sealed.
use Rattle.std.proofs.Common.{◌≡◌, ◌<◌, ℕ, ◌==◌, ◌||◌, not, Bool, true, false, List, [], ◌∷◌, refl, sym, ap, subst, ◌∙◌, arith}
use Rattle.std.proofs.lemmas.Bool.{false≢true, or_parts}
use Rattle.std.specs.Prelude.{Option, Some, None}
use Rattle.std.specs.List.{AllByRecursion, list_any}
use Rattle.zw_base.proofs.Each.{all-get, all-weaker}
use Rattle.std.proofs.lemmas.Slice.Eq.{bytes_eq-Decides}
use Rattle.device_kinds.specs.Kind.{classes_of, lists as kind_lists, listens as kind_listens}
use Rattle.device_kinds.specs.declared.kind.Kind.{Kind}
use Rattle.host_orders.specs.Classes.{lists}
use Rattle.host_node.specs.declared.series.Series.TheVariants.{Idle}
use Rattle.zw_text.specs.declared.entry.Entry.{Entry}
use Rattle.law_wire.specs.law_transcript.Headline.{IsAsMade}
use Rattle.law_wire.specs.law_transcript.Nodes.{always, device_of, known_classes, listed_by, listing_of}
use Rattle.law_time.specs.Interviews.{listens}
use Rattle.law_time.specs.Stretches.{are_listed, lists_a_layer, lists_security}
use Rattle.proof_rests.specs.proof_attempts.proof_host.device_sim.State.{State, fresh}
use Rattle.proof_rests.specs.proof_requests.host_model.State.{node_of}
use Rattle.proof_rests.specs.proof_attempts.world_model.State.{Machine}
use Rattle.proof_rests.specs.proof_attempts.proof_walk.proof_device.GoingOn.{AreSame}
use Rattle.proof_in_time.specs.proof_answered.Listening.{HasListener, IsUp}
use Rattle.proof_in_time.specs.LockNodes.{IsLockKind}
use Rattle.proof_in_time.specs.proof_answered.Sleepers.{HasSleeper, IsAlone}
use Rattle.proof_chip.specs.proof_line.proof_traffic.OutsideTraffic.{AreNodes}
use Rattle.proof_in_time.specs.proof_answered.proof_calm.proof_waking.proof_walk.Phases.{Between}
use Rattle.proof_in_time.specs.Coming.{ListOpenly, WaitsFor, is_listed}
use Rattle.proof_in_time.specs.InStep.{IsOpenByKind, IsPlainByKind}
use Rattle.proof_in_time.specs.Open.{TakesCut}
use Rattle.proof_in_time.specs.Openly.{ListUnsealed}
use Rattle.proof_in_time.proofs.AsMade.{finds}
use Rattle.proof_in_time.proofs.JudgedOutcomes.{same_device, same_listing}
use Rattle.proof_ready.specs.Ready.{AreUp, IsKnown, ListPlainly}
use Rattle.proof_ready.proofs.OneOpen.{device_known}
use Rattle.proof_ready.proofs.Reading.{not_so}

-- ---- its device

pub listener_at : (n : ℕ) (devices : List State) → AreUp devices → (device : State) → device_of n devices ≡ Some device → kind_listens device.kind ≡ true → HasListener n devices
listener_at n devices up device is is_listening =
    let at = finds n devices device is in
    record {
      place = at.place;
      device = device;
      first = at.first;
      stands = at.stands;
      is_up = record { is_listening = is_listening; awake = all-get (λ (one : State). kind_listens one.kind ≡ true → one.awake ≡ true) devices at.place device up at.stands is_listening };
    }

-- one whose first device sleeps had one that did, and so at every moment, since its kind stays
abbrev sleeps_there : Option State → Bool
sleeps_there None = false
sleeps_there (Some device) = not (kind_listens device.kind)

pub sleeper_at : (n : ℕ) (olds news : List State) → AreSame olds news → (device : State) → device_of n olds ≡ Some device → kind_listens device.kind ≡ false → HasSleeper n news
sleeper_at n olds news same device is sleeps =
    found (device_of n news) refl
    (same_device sleeps_there (λ old new kept. ap (λ kind. not (kind_listens kind)) kept.kind) n olds news same ∙ (ap sleeps_there is ∙ ap not sleeps))
  where
    found : (o : Option State) → device_of n news ≡ o → sleeps_there o ≡ true → HasSleeper n news
    found None at so = absurd (false≢true so)
    found (Some one) at so =
        let there = finds n news one at in
        record { place = there.place; device = one; first = there.first; stands = there.stands; sleeps = not_so (kind_listens one.kind) so }

-- ---- its classes

not_layered : (classes : List ℕ) → list_any (λ class. (class == 0x55) || (class == 0x98)) classes ≡ false → lists classes 0x98 || lists classes 0x55 ≡ false
unfolding lists
not_layered [] none = refl
not_layered (class ∷ classes) none =
    by (class == 0x55) (class == 0x98) (list_any (λ class. (class == 0x55) || (class == 0x98)) classes) (list_any (λ listed. listed == 0x98) classes) (list_any (λ listed. listed == 0x55) classes) none
    (not_layered classes)
  where
    by : (a b rest sealed cut : Bool) → (a || b) || rest ≡ false → (rest ≡ false → sealed || cut ≡ false) → (b || sealed) || (a || cut) ≡ false
    by true b rest sealed cut none later = absurd (false≢true (sym none))
    by false true rest sealed cut none later = absurd (false≢true (sym none))
    by false false rest sealed cut none later = later none

not_secure : (classes : List ℕ) → list_any (λ class. class == 0x98) classes ≡ false → lists classes 0x98 ≡ false
unfolding lists
not_secure classes none = none

-- what lists one of the two and not Security 0 lists Transport Service
pub lists_segments : (classes : List ℕ) → list_any (λ class. (class == 0x55) || (class == 0x98)) classes ≡ true → list_any (λ class. class == 0x98) classes ≡ false → lists classes 0x55 ≡ true
unfolding lists
lists_segments [] some none = absurd (false≢true some)
lists_segments (class ∷ classes) some none =
    by (class == 0x55) (class == 0x98) (list_any (λ one. (one == 0x55) || (one == 0x98)) classes) (list_any (λ one. one == 0x98) classes) (list_any (λ listed. listed == 0x55) classes) some none
    (lists_segments classes)
  where
    by : (a b rest sealed cut : Bool) → (a || b) || rest ≡ true → b || sealed ≡ false → (rest ≡ true → sealed ≡ false → cut ≡ true) → a || cut ≡ true
    by true b rest sealed cut some none later = refl
    by false true rest sealed cut some none later = absurd (false≢true (sym none))
    by false false rest sealed cut some none later = later some none

-- what the host knows is what the device lists
pub known_list : (devices : List State) (past : List Entry) (n : ℕ) → IsKnown devices past n → known_classes (always (listing_of devices)) past n ≡ Some (listing_of devices n)
known_list devices past n known = by (known_classes (always (listing_of devices)) past n) known.classes
  where
    by : (o : Option (List ℕ)) → are_listed devices n o ≡ true → o ≡ Some (listing_of devices n)
    by None listed = absurd (false≢true listed)
    by (Some classes) listed = ap (λ (l : List ℕ). Some l) ((bytes_eq-Decides classes (listing_of devices n)).0 listed)

-- so the host takes plain reports of it where its device lets them be taken
pub waits_for : (whole : Bool) (devices : List State) (past : List Entry) (m : Machine) (n most : ℕ) → IsKnown devices past n
    → (node_of m.host.state n).classes ≡ known_classes (always (listing_of devices)) past n → is_listed whole (Some (listing_of devices n)) ≡ false → (node_of m.host.state n).series ≡ Idle
    → WaitsFor whole n most Between m
waits_for whole devices past m n most known classes none idle = record {
  openly = ap (λ (o : Option (List ℕ)). is_listed whole o) (classes ∙ known_list devices past n known) ∙ none;
  once = omega arith;
  bounded = λ runs. absurd (let bad = sym idle ∙ runs in cc);
}

pub lists_openly : (these : List Bool) (devices : List State) → ListPlainly these devices → ListOpenly these devices
lists_openly these devices plain n marked = not_layered (listing_of devices n) (plain n marked)

pub lists_unsealed : (these : List Bool) (devices : List State) (node : ℕ) → IsAlone these node → lists_security devices node ≡ false → ListUnsealed these devices
lists_unsealed these devices node alone unsealed n marked = not_secure (listing_of devices n) (subst (λ (k : ℕ). lists_security devices k ≡ false) (sym (alone.only n marked)) unsealed)

pub lists_sealed : (devices : List State) (n : ℕ) → lists_security devices n ≡ true → lists (listing_of devices n) 0x98 ≡ true
unfolding lists
lists_sealed devices n sealed = sealed

-- ---- its kind

same_lists : (kind : Kind) (class : ℕ) → kind_lists kind class ≡ lists (classes_of kind) class
unfolding lists
same_lists kind class = refl

none_lists : lists [] 0x55 ≡ false
unfolding lists
none_lists = refl

-- one that takes segments did at first
pub cutter_at : (n : ℕ) (olds news : List State) → AreSame olds news → lists (listing_of olds n) 0x55 ≡ true → TakesCut n news
cutter_at n olds news same cuts = found (device_of n news) refl (ap (λ (l : List ℕ). lists l 0x55) (same_listing n olds news same) ∙ cuts)
  where
    found : (o : Option State) → device_of n news ≡ o → lists (listing_of news n) 0x55 ≡ true → TakesCut n news
    found None at so = absurd (false≢true (sym none_lists ∙ (ap (λ (o : Option State). lists (listed_by o) 0x55) (sym at) ∙ so)))
    found (Some one) at so =
        let there = finds n news one at in
        record { place = there.place; device = one; first = there.first; stands = there.stands; cut = same_lists one.kind 0x55 ∙ (ap (λ (o : Option State). lists (listed_by o) 0x55) (sym at) ∙ so) }

-- it takes commands in sessions, not sealed
pub open_by_kind : (devices : List State) (past : List Entry) (n : ℕ) → IsKnown devices past n → lists (listing_of devices n) 0x6C ≡ true → lists_security devices n ≡ false → IsOpenByKind devices n
open_by_kind devices past n known supervised unsealed =
    let has = device_known devices past n (listens n past) refl known.device in
    let kind : Kind = has.0.kind in
    let listing : listing_of devices n ≡ classes_of kind = ap (λ (o : Option State). listed_by o) has.1.0 in
    record {
      device = has.0;
      first = has.1.0;
      supervised = same_lists kind 0x6C ∙ (ap (λ (l : List ℕ). lists l 0x6C) (sym listing) ∙ supervised);
      unsealed = same_lists kind 0x98 ∙ (ap (λ (l : List ℕ). lists l 0x98) (sym listing) ∙ not_secure (listing_of devices n) unsealed);
    }

-- or sealed
pub lock_by_kind : (devices : List State) (past : List Entry) (n : ℕ) → IsKnown devices past n → lists (listing_of devices n) 0x6C ≡ true → lists_security devices n ≡ true
    → (device : State) × ((device_of n devices ≡ Some device) × IsLockKind device.kind)
lock_by_kind devices past n known supervised sealed =
    let has = device_known devices past n (listens n past) refl known.device in
    let kind : Kind = has.0.kind in
    let listing : listing_of devices n ≡ classes_of kind = ap (λ (o : Option State). listed_by o) has.1.0 in (
      has.0,
      (
        has.1.0,
        record {
          supervised = same_lists kind 0x6C ∙ (ap (λ (l : List ℕ). lists l 0x6C) (sym listing) ∙ supervised);
          sealed = same_lists kind 0x98 ∙ (ap (λ (l : List ℕ). lists l 0x98) (sym listing) ∙ lists_sealed devices n sealed);
        },
      ),
    )

-- one that is not sealed takes commands whole
pub plain_by_kind : (devices : List State) (n : ℕ) → IsOpenByKind devices n → lists_a_layer devices n ≡ false → IsPlainByKind devices n
plain_by_kind devices n is plain =
    let listing : listing_of devices n ≡ classes_of is.device.kind = ap (λ (o : Option State). listed_by o) is.first in
    record {
      device = is.device;
      first = is.first;
      supervised = is.supervised;
      unsealed = is.unsealed;
      whole = same_lists is.device.kind 0x55
          ∙ (ap (λ (l : List ℕ). lists l 0x55) (sym listing) ∙ (or_parts (lists (listing_of devices n) 0x98) (lists (listing_of devices n) 0x55) (not_layered (listing_of devices n) plain)).1);
    }

-- ---- as their makers left them

pub made_up : ((node : ℕ) (kind : Kind) (key : List ℕ) → kind_listens kind ≡ true → IsUp (fresh node kind key)) → (key : List ℕ) (devices : List State) → AllByRecursion (IsAsMade key) devices → AreUp devices
made_up up key devices made =
    all-weaker (IsAsMade key) (λ (device : State). kind_listens device.kind ≡ true → device.awake ≡ true)
    (λ one is is_listening. subst (λ (s : State). s.awake ≡ true) (sym is.made) (up one.node one.kind key is_listening).awake) devices made

pub made_nodes : (key : List ℕ) (devices : List State) → AllByRecursion (IsAsMade key) devices → AreNodes devices
made_nodes key devices made = all-weaker (IsAsMade key) (λ (device : State). device.node < 233) (λ one is. let most = is.to_max in omega (arith, most)) devices made
