-- The device of a node is in step with the host at each event of lines, and the orders for it are for end points that have numbers on the wire.
use Rattle.std.proofs.Common.{◌≡◌, ◌≤◌, ◌<◌, ℕ, zero, suc, ◌+◌, nat_lt, inl, inr, Bool, true, false, List, [], ◌∷◌, length, refl, sym, ap, ◌∙◌, subst, arith}
use Rattle.std.proofs.lemmas.Bool.Decides.{nat_tests}
use Rattle.std.proofs.lemmas.List.{length-append}
use Rattle.std.specs.Prelude.{◌⊎◌, Option, Some, None}
use Rattle.std.specs.List.{AllByRecursion}
use Rattle.supervision.specs.Host.{begun_of, open_session}
use Rattle.supervision.specs.Device.{Taken}
use Rattle.supervision.specs.declared.session.TheConstants.{WORKING}
use Rattle.serial_frame.specs.declared.item.Item.{Item}
use Rattle.device_sim.specs.State.{State}
use Rattle.host_model.specs.Events.{HostEvent, Accepts}
use Rattle.host_model.specs.Facts.{HostFacts}
use Rattle.host_model.specs.State.{node_of}
use Rattle.world_model.specs.Did.{AllAlong, MayAll}
use Rattle.world_model.specs.Events.{Event, Host_does, happens, May}
use Rattle.world_model.specs.State.{Machine}
use Rattle.proof_course.specs.SessionFacts.{CourseFacts}
use Rattle.proof_course.specs.Sessions.{Course, first_course}
use Rattle.proof_messages.specs.Ending.{HasEnded}
use Rattle.proof_spoken.specs.Restarts.{AllKeepWell, IsHeld, KeepsWell, StartsWell}
use Rattle.proof_spoken.specs.proof_device.GoingOn.{AreSame, GoOn, IsSame}
use Rattle.proof_spoken.specs.proof_serial.Line.{AllAtRest, AllWriteWell, IsAtRest, WritesWell}
use Rattle.proof_spoken.proofs.DevicePlaces.{go_then}
use Rattle.proof_course_plain.specs.Host.{AsksPlainly}
use Rattle.proof_course_plain.specs.Making.{AllMake, KeepsNext, Makes}
use Rattle.proof_course_plain.specs.Meaning.{Asked}
use Rattle.proof_course_plain.specs.Mesh.{HasDevice}
use Rattle.proof_course_plain.specs.OnAir.{AlwaysFew, EventStaysFew}
use Rattle.proof_course_plain.specs.World.{EndsByHearing, IsPlainly as IsAskedPlainly, WorldFollows, WorldGoes}
use Rattle.proof_course_plain.proofs.ChangesOutside.{place_is}
use Rattle.proof_course_plain.proofs.Replies.{one_place, one_stands}
use Rattle.proof_answered.proofs.Listeners.{same_place, stands_now}
use Rattle.proof_in_time.specs.Answering.{IsDone, IsDoneOrAtWork, IsInStep, Last, Next}
use Rattle.proof_in_time.specs.InStep.{HasInStep, IsNear, IsNearAt, IsPlainDevice}
use Rattle.proof_in_time.specs.Untold.{NoneEnds}
use Rattle.proof_in_time.proofs.Untold.{none_ends}

-- ---- the number of sessions

pub next_or_last : (taken begun : ℕ) → taken ≤ begun → begun ≤ taken + 1 → (begun ≡ taken + 1) ⊎ (begun ≡ taken)
next_or_last taken begun ahead after = by (nat_lt taken begun) refl
  where
    by : (b : Bool) → nat_lt taken begun ≡ b → (begun ≡ taken + 1) ⊎ (begun ≡ taken)
    by true e = let less : taken < begun = grind (arith, nat_tests, e) in inl (omega (arith, less, after))
    by false e = let most : begun ≤ taken = grind (arith, nat_tests, e) in inr (omega (arith, most, ahead))

-- a device at work is at the last session that the host began: it was told the ends of those before, and of each that it was told the device has ended
last_at_work : (c : Course) → CourseFacts c → c.device.status ≡ WORKING → begun_of c.host ≡ c.device.taken
last_at_work c facts working =
    let ended = facts.ends_are.works working in
    let both : length c.ends ≡ length c.told + length facts.told_are.rest = ap (λ (l : List ℕ). length l) facts.told_are.prefix ∙ length-append c.told facts.told_are.rest in
    let ahead = facts.agree.not_ahead in
    let few = told_most (open_session c.host) refl in
    omega (arith, ended, both, ahead, few)
  where
    told_most : (o : Option ℕ) → open_session c.host ≡ o → begun_of c.host ≤ length c.told + 1
    told_most None is = let told = facts.told_are.closed is in omega (arith, told)
    told_most (Some session) is = let told = facts.told_are.opened session is in omega (arith, told)

pub done_steps : (device : State) (begun : ℕ) → IsDone device → 1 ≤ begun → (begun ≡ device.sessions.taken + 1) ⊎ (begun ≡ device.sessions.taken) → IsInStep begun device
done_steps device begun done some (inl next) = Next next done
done_steps device begun done some (inr last) = Last last some (inl done)

steps_in : (device : State) (begun : ℕ) → device.sessions.taken ≤ begun → begun ≤ device.sessions.taken + 1 → (device.sessions.status ≡ WORKING → begun ≡ device.sessions.taken) → 1 ≤ begun → IsDoneOrAtWork device → IsInStep begun device
steps_in device begun ahead after last some (inl done) = done_steps device begun done some (next_or_last device.sessions.taken begun ahead after)
steps_in device begun ahead after last some (inr work) = Last (last work.working) some (inr work)

-- it is at work as its course says, and is to tell the end
work_of_course : (orders : List Asked) (commands finals : List ℕ) (device : State) → HasEnded device finals → Makes orders commands device → IsDoneOrAtWork device
work_of_course orders commands finals device ended makes = by device.work_left refl
  where
    by : (left : ℕ) → device.work_left ≡ left → IsDoneOrAtWork device
    by zero none = inl (record { over = ended.at_rest none; no_work = none })
    by (suc left) is =
        let some : 0 < device.work_left = omega (arith, is) in
        let told = makes.answer some in
        inr (record { working = ended.at_work some; some = omega (arith, some); few = told.few; plan = told.plan; told = told.told })

-- ---- orders

near : (n : ℕ) (event : HostEvent) → AsksPlainly n event → IsNear n event
near n (Accepts order carriage) plain = λ own. (plain own).1
near n event plain = tt

near_at : (n : ℕ) (event : Event) → IsAskedPlainly n event → IsNearAt n event
near_at n (Host_does event) plain = near n event plain
near_at n event plain = tt

-- ---- over events

-- what is proved of the course of a node, of records and of devices
pub record Laws : Type 0 where
  pub event : (n : ℕ) (orders : List Asked) (c : Course) (up down : List Item) (m : Machine) (event : Event) → n < 233 → WorldFollows n orders c up down m → IsHeld m.host.state m.records → May m event → IsAtRest m event → WritesWell m event →
      EventStaysFew m event → KeepsWell m event → IsAskedPlainly n event → EndsByHearing n event → WorldGoes n c (happens m event)
  pub held : (m : Machine) (event : Event) → HostFacts m.host.state → IsHeld m.host.state m.records → May m event → KeepsWell m event → StartsWell m event × IsHeld (happens m event).host.state (happens m event).records
  pub go : (m : Machine) (event : Event) → GoOn m.outside.devices (happens m event).outside.devices
  pub same : (olds news : List State) → GoOn olds news → AreSame olds news

module _ (laws : Laws) (n : ℕ) (within : n < 233) (devices : List State) (has : HasDevice n first_course devices) where
  -- the device of the course, where devices went on to here
  now_is : (orders : List Asked) (c : Course) (m : Machine) (now : HasDevice n c m.outside.devices) → AllMake n orders c.host.commands m.outside.devices → IsPlainDevice now.device
  now_is orders c m now made = record {
    openly = now.at.is_open;
    can = now.at.can;
    at = work_of_course orders c.host.commands c.ends now.device now.at.ended (made now.place now.device now.stands (place_is n m.outside.devices now.place now.device now.first now.stands));
  }

  -- is of the kind that it was of
  kind_now : (c : Course) (m : Machine) (now : HasDevice n c m.outside.devices) → GoOn devices m.outside.devices → has.device.kind ≡ now.device.kind
  kind_now c m now go =
      let same : AreSame devices m.outside.devices = laws.same devices m.outside.devices go in
      let place : has.place ≡ now.place = one_place n m.outside.devices has.place now.place (same_place n devices m.outside.devices same ∙ has.first) now.first in
      let kept = stands_now IsSame devices m.outside.devices same has.place has.device has.stands in
      let is_kept : kept.0 ≡ now.device = one_stands m.outside.devices has.place now.place kept.0 now.device kept.1.0 now.stands place in
      sym (ap (λ (d : State). d.kind) (sym is_kept) ∙ kept.1.1.kind)

  pub follows_in_step : (orders : List Asked) (c : Course) (up down : List Item) (m : Machine) → WorldFollows n orders c up down m → GoOn devices m.outside.devices → (is : HasInStep n m) × (has.device.kind ≡ is.device.kind)
  follows_in_step orders c up down m follows go =
      let now : HasDevice n c m.outside.devices = follows.outside.mesh.device in
      let is : IsPlainDevice now.device = now_is orders c m now follows.outside.mesh.made in
      let begun : begun_of (node_of m.host.state n).book ≡ begun_of c.host = ap (λ (l : List ℕ). length l) follows.host.node_as.0 in
      let taken : now.device.sessions.taken ≡ c.device.taken = ap (λ (t : Taken). t.taken) now.at.sessions in
      let ahead = follows.course.agree.not_ahead in
      let after = follows.course.agree.one_after in (
        record {
          place = now.place;
          device = now.device;
          first = now.first;
          stands = now.stands;
          plain = is;
          others = now.others;
          keeps = subst (λ (os : List Asked). KeepsNext os (node_of m.host.state n).book.commands (now.device.sessions.taken + 1) now.device.reassembly) follows.host.orders_are
              (subst (λ (cs : List ℕ). KeepsNext orders cs (now.device.sessions.taken + 1) now.device.reassembly) (sym follows.host.node_as.0)
              (follows.outside.mesh.made now.place now.device now.stands (place_is n m.outside.devices now.place now.device now.first now.stands)).keeps);
          step = λ some. steps_in now.device (begun_of (node_of m.host.state n).book) (omega (arith, begun, taken, ahead)) (omega (arith, begun, taken, after))
              (λ working. begun ∙ (last_at_work c follows.course (ap (λ (t : Taken). t.status) (sym now.at.sessions) ∙ working) ∙ sym taken)) some is.at;
          unsealed = follows.host.node_as.1.1.0;
          untold = λ node next. subst (λ (session : ℕ). NoneEnds n session m) (sym begun) (none_ends n orders c up down m node follows (omega (arith, begun, taken, next)));
        },
        kind_now c m now go,
      )

  module _ (Stays : Machine → Event → Type 0) (stays : (m : Machine) (event : Event) (is : HasInStep n m) → has.device.kind ≡ is.device.kind → IsNearAt n event → Stays m event) where
    pub along : (orders : List Asked) (c : Course) (up down : List Item) (m : Machine) (events : List Event) → WorldFollows n orders c up down m → IsHeld m.host.state m.records → MayAll m events → AllAtRest m events → AllWriteWell m events
        → AlwaysFew m events → AllKeepWell m events → AllByRecursion (IsAskedPlainly n) events → AllByRecursion (EndsByHearing n) events → GoOn devices m.outside.devices → AllAlong Stays m events
    along orders c up down m [] follows held may rests well few keeps plain ends go = tt
    along orders c up down m (event ∷ events) follows held may rests well few keeps plain ends go =
        let one : WorldGoes n c (happens m event) = laws.event n orders c up down m event within follows held may.0 rests.0 well.0 few.1 keeps.0 plain.0 ends.0 in
        let next : StartsWell m event × IsHeld (happens m event).host.state (happens m event).records = laws.held m event follows.facts held may.0 keeps.0 in (
          (let is = follows_in_step orders c up down m follows go in stays m event is.0 is.1 (near_at n event plain.0)),
          along one.orders one.later one.up one.down (happens m event) events one.follows next.1 may.1 rests.1 well.1 few.2 keeps.1 plain.1 ends.1
              (go_then devices m.outside.devices (happens m event).outside.devices go (laws.go m event)),
        )
