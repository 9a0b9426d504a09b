-- The parts of a line: what settles and what ticks, but for the tick itself, and the effects of all lines but three.
use Rattle.std.proofs.Common.{◌≡◌, ℕ, zero, suc, ◌+◌, ◌-◌, Bool, true, false, List, [], ◌∷◌, ◌++◌, length, map, inl, inr, refl, sym, subst, ap, ◌∙◌, arith}
use Rattle.std.specs.Prelude.{Option, Some, None}
use Rattle.std.specs.List.{AllByRecursion}
use Rattle.zw_base.proofs.Each.{all-append, all-left}
use Rattle.zw_text.specs.declared.line.Line.{Line}
use Rattle.zw_text.specs.declared.line.Line.TheVariants.{Command, Tick, Cut, Stall, Drop, Garble, Collide, Send, Get, Join, Interview, Lose, LoseAck, Repeat, Wake, Cancel, Link, Unlink, Discover, Neighbours, Failed, Probe, Local, Show, Store, Restart}
use Rattle.host_orders.specs.declared.refused.Refused.{Refused}
use Rattle.host_orders.specs.Refusals.{classes_of}
use Rattle.host_orders.specs.Errands.{send_refusal, send_text, get_refusal, get_text}
use Rattle.host_requests.specs.declared.task.Task.TheVariants as task
use Rattle.proof_air.specs.host_model.State.{node_of}
use Rattle.proof_air.specs.host_model.Events.{HostEvent, Joins, Queues, Queues_interview, Queues_probe, IsOwn}
use Rattle.proof_air.specs.host_model.May.{known_of}
use Rattle.proof_air.specs.host_model.Asking.{places_refusal, interview_refusal}
use Rattle.proof_air.specs.host_model.Ticking.{tick_events}
use Rattle.proof_air.specs.outside_model.State.{is_stalled}
use Rattle.proof_air.specs.outside_model.Events.{OuterEvent, Begins_tick}
use Rattle.proof_air.specs.outside_model.Schedules.{TakesBy as ChipTakesBy, Arrivals, Givings, DeviceTicks, IsRepeat, IsWake, IsSet}
use Rattle.proof_air.specs.world_model.State.{Machine}
use Rattle.proof_air.specs.world_model.Events.{Event, Outside_does, Host_does, happens}
use Rattle.proof_air.specs.world_model.Did.{happens_all, MayAll, Schedule, Then}
use Rattle.proof_air.specs.world_model.Settling.{Outside, IsPump, IsChipPart, IsHostPart, IsMove, IfMoved, Passes, Settles, TakesBy}
use Rattle.proof_air.specs.world_model.Ticking.{IsDelivery, IsGiving, IsDeviceTick, IsChipTick, IsOutsideTick, IsHostTick, IsTick, Ticks}
use Rattle.proof_air.specs.world_model.Lines.{IsRefusal, IsDone, Asks, IsDiscovery, IsEffect}
use Rattle.proof_air.proofs.Own.{pump_own, tick_own}
use Rattle.proof_air.proofs.Pieces.{Of, Law, of_then}
use Rattle.proof_transcript.proofs.Outer.{IsMildOuter}
use Rattle.proof_transcript.proofs.Hosts.{IsNoJoin, LeavesRecords}
use Rattle.proof_transcript.proofs.TicksBegun.{IsMild, AreMild, Goes, goes_none, goes_both, mild_goes, tick_goes}

-- ---- a settling

abbrev Still : Schedule
Still m events = AreMild false events

law : Law Still
law = record { none = λ m. tt; both = λ m a b first later. all-append (IsMild false) a b first later; prefix = λ m a b all. all-left (IsMild false) a b all }

these : (refusals : Bool) (events are : List Event) → events ≡ are → AreMild refusals are → AreMild refusals events
these refusals events are is mild = subst (AreMild refusals) (sym is) mild

own_joins_none : (event : HostEvent) → IsOwn event → IsNoJoin event
own_joins_none (Joins n) own = absurd own
own_joins_none event own = tt

own_mild : (events : List HostEvent) → AllByRecursion IsOwn events → AreMild false (map Host_does events)
own_mild [] own = tt
own_mild (event ∷ events) own = (own_joins_none event own.0, own_mild events own.1)

outer_mild : (refusals : Bool) (events : List OuterEvent) → AllByRecursion (IsMildOuter refusals) events → AreMild refusals (map Outside_does events)
outer_mild refusals [] mild = tt
outer_mild refusals (event ∷ events) mild = (mild.0, outer_mild refusals events mild.1)

pump : Of Still IsPump
pump m events (inner, pumps, are) = these false events _ are (own_mild inner (pump_own m.host.state inner pumps))

chip_takes : (m : Machine) (stalled : Bool) (bytes : List ℕ) (inner : List OuterEvent) → ChipTakesBy stalled bytes m.outside.outer inner → AllByRecursion (IsMildOuter false) inner
chip_takes m true bytes inner is = subst (AllByRecursion (IsMildOuter false)) (sym is) tt
chip_takes m false [] inner is = subst (AllByRecursion (IsMildOuter false)) (sym is) tt
chip_takes m false (byte ∷ bytes) inner is = subst (AllByRecursion (IsMildOuter false)) (sym is.are) (tt, tt)

chip_part : Of Still IsChipPart
chip_part m events (inner, is, are) = these false events _ are (outer_mild false inner (chip_takes m (is_stalled m.outside.outer) m.outside.outer.to_chip.bytes inner is))

host_takes : (stalled : Bool) (bytes : List ℕ) (events : List Event) → TakesBy stalled bytes events → AreMild false events
host_takes true bytes events is = these false events [] is tt
host_takes false [] events is = these false events [] is tt
host_takes false (byte ∷ bytes) events (rest, items, inner, are) = these false events _ are (tt, tt)

host_part : Of Still IsHostPart
host_part m events is = host_takes (is_stalled m.outside.outer) m.outside.outer.to_host.bytes events is

move : Of Still IsMove
move = of_then Still law IsChipPart IsHostPart chip_part host_part

if_moved : (moved : List Event) (More : Schedule) → Of Still More → Of Still (IfMoved moved More)
if_moved [] More more m events is = these false events [] is tt
if_moved (one ∷ moved) More more m events is = more m events is

passes : (count : ℕ) → Of Still (Passes count)
passes zero m events is = these false events [] is tt
passes (suc more) m events (moves, rest, are, moved, later) =
    these false events (moves ++ rest) are
    (all-append (IsMild false) moves rest (move m moves moved)
    (of_then Still law IsPump (IfMoved moves (Passes more)) pump (if_moved moves (Passes more) (passes more)) (happens_all m moves) rest later))

pub settling_mild : Of Still Settles
settling_mild = of_then Still law IsPump (Passes 64) pump (passes 64)

-- ---- a tick, once it has begun

arrivals : (count : ℕ) (inner : List OuterEvent) → Arrivals count inner → AllByRecursion (IsMildOuter false) inner
arrivals zero inner is = subst (AllByRecursion (IsMildOuter false)) (sym is) tt
arrivals (suc count) inner (drawn, route, rest, are, more) = subst (AllByRecursion (IsMildOuter false)) (sym are) (tt, arrivals count rest more)

givings : (count : ℕ) (inner : List OuterEvent) → Givings count inner → AllByRecursion (IsMildOuter false) inner
givings zero inner is = subst (AllByRecursion (IsMildOuter false)) (sym is) tt
givings (suc count) inner (route, rest, are, more) = subst (AllByRecursion (IsMildOuter false)) (sym are) (tt, givings count rest more)

device_ticks : (place count : ℕ) (inner : List OuterEvent) → DeviceTicks place count inner → AllByRecursion (IsMildOuter false) inner
device_ticks place zero inner is = subst (AllByRecursion (IsMildOuter false)) (sym is) tt
device_ticks place (suc count) inner (drawn, route, rest, are, more) = subst (AllByRecursion (IsMildOuter false)) (sym are) (tt, device_ticks (place + 1) count rest more)

delivery : Of Still IsDelivery
delivery m events (inner, is, are) = these false events _ are (outer_mild false inner (arrivals (m.outside.outer.air.frames.sent - m.outside.outer.air.frames.landed) inner is))

giving : Of Still IsGiving
giving m events (inner, is, are) = these false events _ are (outer_mild false inner (givings (length m.outside.outer.due) inner is))

device_tick : Of Still IsDeviceTick
device_tick m events (inner, is, are) = these false events _ are (outer_mild false inner (device_ticks 0 (length m.outside.devices) inner is))

chip_tick : Of Still IsChipTick
chip_tick m events are = these false events _ are (tt, tt)

host_tick : Of Still IsHostTick
host_tick m events are = these false events _ are (tt, own_mild (tick_events m.host.state) (tick_own m.host.state))

begun_tick : Of Still (Then IsOutsideTick (Then IsHostTick Settles))
begun_tick =
    of_then Still law IsOutsideTick (Then IsHostTick Settles)
    (of_then Still law IsDelivery (Then IsGiving (Then IsDeviceTick IsChipTick)) delivery
    (of_then Still law IsGiving (Then IsDeviceTick IsChipTick) giving (of_then Still law IsDeviceTick IsChipTick device_tick chip_tick)))
    (of_then Still law IsHostTick Settles host_tick settling_mild)

pub may_both : (m : Machine) (a b : List Event) → MayAll m (a ++ b) → MayAll m a × MayAll (happens_all m a) b
may_both m [] b may = (tt, may)
may_both m (event ∷ a) b may = let more = may_both (happens m event) a b may.1 in ((may.0, more.0), more.1)

module _ (records : LeavesRecords) where
  one_tick : (m : Machine) (events : List Event) → IsTick m events → MayAll m events → Goes false 1 m events
  one_tick m events (begins, later, are, is, rest) may =
      let all : events ≡ Outside_does Begins_tick ∷ later = are ∙ ap (λ (l : List Event). l ++ later) is in
      let begun = Outside_does Begins_tick ∷ [] in
      let may_all : MayAll m (begun ++ later) = subst (MayAll m) all may in
      subst (Goes false 1 m) (sym all)
      (goes_both false 1 0 m begun later (tick_goes m)
      (mild_goes records false (happens_all m begun) later
      (begun_tick (happens_all m begun) later (subst (λ (l : List Event). Then IsOutsideTick (Then IsHostTick Settles) (happens_all m l) later) is rest)) may_all.1))

  pub ticks_go : (count : ℕ) (m : Machine) (events : List Event) → Ticks count m events → MayAll m events → Goes false count m events
  ticks_go zero m events is may = subst (Goes false 0 m) (sym is) (goes_none false m)
  ticks_go (suc count) m events (first, rest, are, tick, more) may =
      let both = may_both m first rest (subst (MayAll m) are may) in
      let next : 1 + count ≡ suc count = omega arith in
      subst (λ (k : ℕ). Goes false k m events) next
      (subst (Goes false (1 + count) m) (sym are) (goes_both false 1 count m first rest (one_tick m first tick both.0) (ticks_go count (happens_all m first) rest more both.1)))

-- ---- effects

-- a line that begins no tick, lets no node join and starts no host again
abbrev pub IsOther : Line → Type 0
IsOther (Tick count) = ⊥
IsOther (Join node) = ⊥
IsOther Restart = ⊥
IsOther line = Unit {0}

refused : (line : Line) (events : List Event) → IsRefusal line events → AreMild true events
refused line events (refusal, are) = these true events _ are (refl, tt)

done : (line : Line) (event : HostEvent) (events : List Event) → IsNoJoin event → IsDone line (Host_does event ∷ []) events → AreMild true events
done line event events none (inl are) = these true events _ are (none, tt)
done line event events none (inr refusal) = refused line events refusal

asks : (rule : Option Refused) (line : Line) (event : HostEvent) (events : List Event) → IsNoJoin event → Asks rule line event events → AreMild true events
asks None line event events none are = these true events _ are (none, tt)
asks (Some rule) line event events none (refusal, shown, are) = these true events _ are (refl, tt)

one : (event : OuterEvent) (events : List Event) → events ≡ Outside_does event ∷ [] → IsMildOuter true event → AreMild true events
one event events are mild = these true events _ are (mild, tt)

some : (Kind : List OuterEvent → Type 0) → ((inner : List OuterEvent) → Kind inner → AllByRecursion (IsMildOuter true) inner) → (events : List Event) → Outside Kind events → AreMild true events
some Kind mild events (inner, is, are) = these true events _ are (outer_mild true inner (mild inner is))

discovery : (m : Machine) (events : List Event) → IsDiscovery m events → AreMild true events
discovery m events (asked, ask, are) = these true events _ are (tt, asks (places_refusal m.host.state 1) Discover (Queues task.Members) asked tt ask)

pub effect_mild : (line : Line) → IsOther line → (m : Machine) (events : List Event) → IsEffect line m events → AreMild true events
effect_mild (Command order) other m events is = done (Command order) _ events tt is
effect_mild (Tick count) other m events is = absurd other
effect_mild (Cut size) other m events is = one _ events is tt
effect_mild (Stall ticks) other m events is = one _ events is tt
effect_mild (Drop by) other m events is = one _ events is tt
effect_mild (Garble by place xor) other m events is = one _ events is tt
effect_mild Collide other m events is = one _ events is tt
effect_mild (Send node word) other m events is =
    asks (send_refusal (known_of (node_of m.host.state node)) (length m.host.state.requests.queue) word) (Send node word)
    (Queues (task.Plain node (send_text (classes_of (known_of (node_of m.host.state node))) word))) events tt is
effect_mild (Get node end) other m events is =
    asks (get_refusal (known_of (node_of m.host.state node)) (length m.host.state.requests.queue) end) (Get node end)
    (Queues (task.Plain node (get_text (classes_of (known_of (node_of m.host.state node))) end))) events tt is
effect_mild (Join node) other m events is = absurd other
effect_mild (Interview node) other m events is = asks (interview_refusal m.host.state node) (Interview node) (Queues_interview node) events tt is
effect_mild (Lose count) other m events is = one _ events is tt
effect_mild (LoseAck count) other m events is = one _ events is tt
effect_mild (Repeat frame) other m events is = some (IsRepeat frame) (λ inner is. subst (AllByRecursion (IsMildOuter true)) (sym is.2) (refl, tt)) events is
effect_mild (Wake node) other m events is = some (IsWake node) (λ inner is. subst (AllByRecursion (IsMildOuter true)) (sym is.1) (refl, tt)) events is
effect_mild (Cancel command) other m events is = done (Cancel command) _ events tt is
effect_mild (Link first second) other m events is = one _ events is tt
effect_mild (Unlink first second) other m events is = one _ events is tt
effect_mild Discover other m events is = discovery m events is
effect_mild (Neighbours node) other m events is = asks (places_refusal m.host.state 1) (Neighbours node) (Queues (task.Neighbours node)) events tt is
effect_mild (Failed node) other m events is = asks (places_refusal m.host.state 1) (Failed node) (Queues (task.IsFailed node)) events tt is
effect_mild Probe other m events is = asks (places_refusal m.host.state 3) Probe Queues_probe events tt is
effect_mild (Local node value) other m events is = some (IsSet node value) (λ inner is. subst (AllByRecursion (IsMildOuter true)) (sym is.1) (refl, tt)) events is
effect_mild (Show node) other m events is = one _ events is refl
effect_mild (Store node) other m events is = these true events _ is (tt, tt)
effect_mild Restart other m events is = absurd other
