-- The ways of a sealed exchange with a lock alone, from phase to phase: what goes to the lock is as near, or nearer, or the lock hears it; what goes to the host is, or the host judges it; and where nothing goes, nothing does then.
use Rattle.std.proofs.Common.{◌≡◌, ◌≢◌, ◌≤◌, ◌<◌, ℕ, zero, suc, inl, inr, Bool, true, false, List, ◌∷◌, length, refl, sym, ap, ◌∙◌, subst, arith}
use Rattle.std.specs.Prelude.{◌⊎◌, Some, Option}
use Rattle.std.specs.List.{AllByRecursion}
use Rattle.zw_text.specs.declared.line.Line.{Line}
use Rattle.serial_frame.specs.Stream.{Rest}
use Rattle.serial_frame.specs.declared.item.Item.{Item}
use Rattle.route_table.specs.declared.route.Route.{Route}
use Rattle.chip_functions.specs.Field.{IsNode}
use Rattle.chip_sim.specs.Nodes.{is_marked}
use Rattle.air_frames.specs.Flown.{Flown}
use Rattle.air_frames.specs.Frames.{next_of}
use Rattle.air_frames.specs.declared.frame.Heading.TheVariants.{Homeward, Outward}
use Rattle.host_model.specs.Events.{HostEvent}
use Rattle.outside_model.specs.Events.{Arrives, Chip_takes, Cuts, Shows, Wakes_device, mesh_of}
use Rattle.world_model.specs.Events.{Event, Outside_does, Host_does, Host_takes, Refuses, Shows_values, happens}
use Rattle.world_model.specs.State.{Machine}
use Rattle.proof_course_sealed.specs.Mesh.{HasLock}
use Rattle.proof_answered.specs.proof_calm.proof_traffic.OnAir.{on_air}
use Rattle.proof_answered.specs.proof_calm.proof_work.proof_walk.Phases.{Phase, Between, Said_line, Doing, To_tick, Arriving, Giving, Ticking_devices, Ticking_chip, Ticking_decoder, Ticking_host, Sleeping, Submitting, Moving, Moved, Goes, Turns}
use Rattle.proof_answered.specs.proof_calm.Awaited.{AwaitsAt}
use Rattle.proof_answered.specs.proof_calm.Resting.{IsEffect, LineAt}
use Rattle.proof_answered.specs.proof_calm.Tied.{TieAt, on_line, unheard}
use Rattle.proof_answered.specs.Outward.{IsOf}
use Rattle.proof_answered.specs.Sleepers.{IsAlone}
use Rattle.proof_answered.proofs.Outwards.{next_is_live}
use Rattle.proof_answered.proofs.Tying.{rests_unheard}
use Rattle.proof_answered.proofs.proof_traffic_Parts.{Airs}
use Rattle.proof_in_time.specs.Coming.{Has, IsAsking, brings}
use Rattle.proof_in_time.specs.Exchange.{Aired, Flies, Given, GoesAlone, GoesHome, GoesOut, HearsOut, IsSilentIn, IsThere, NoneFly, NoneGo, NoneTold, OutAlone, Told}
use Rattle.proof_in_time.specs.Owed.{IsOwed}
use Rattle.proof_in_time.proofs.ExchangeAlone.{LeavesAlone, home_alone, none_go, out_alone}
use Rattle.proof_in_time.proofs.ExchangeHome.{IsApartAt, StillOr, TakesHomeAt, home_arrives, home_judged, judged_air, none_first, none_judged, none_judges, none_told}
use Rattle.proof_in_time.proofs.ExchangeKept.{HasLeft, as_it_is, event_leaves, turn_leaves}
use Rattle.proof_in_time.proofs.ExchangeOut.{given_taken, out_arrives}
use Rattle.proof_in_time.proofs.ExchangeWaysAround.{AroundLock, out_some}
use Rattle.proof_in_time.proofs.Grown.{arrives_there}
use Rattle.proof_in_time.proofs.InTurn.{GoesByItself, has_in}
use Rattle.proof_in_time.proofs.Lasting.{most_then, none_asked}

-- where something is owed, nothing of the host is on its way to the chip
pub owed_silent : (here : Phase) (m : Machine) → IsOwed here m → IsSilentIn here m
owed_silent (Submitting passes ticks) m owed = owed.silent
owed_silent (Moving passes ticks) m owed = owed.silent
owed_silent here m owed = tt

-- what is so of what is on its way to the node
pub out_now : (n later : ℕ) (here : Phase) (m : Machine) (Is Now : List ℕ → Type 0) → ((payload : List ℕ) → Is payload → Now payload) → OutAlone n Is later here m → OutAlone n Now later here m
out_now n later here m Is Now also o = by o.out o.alone
  where
    by : (out : GoesOut n Is later here m) → GoesAlone n Is later here m out → OutAlone n Now later here m
    by (Given request payload asking under_way gives line is few) only = record { out = Given request payload asking under_way gives line (also payload is) few; alone = only; told = o.told }
    by (Aired at few) only = record {
      out = Aired (record { before = at.before; frame = at.frame; behind = at.behind; are = at.are; is = record { node = at.is.node; out = at.is.out; is = also at.frame.payload at.is.is } }) few;
      alone = only;
      told = o.told;
    }

module _ (airs : Airs) (these : List Bool) (many : length these ≡ 233) (n : ℕ) (alone : IsAlone these n) (is_node : IsNode n) where
  within : n < 233
  within = let few = is_node.1 in omega (arith, few)

  -- the frame that arrives is of the node, or for it
  arrived_own : (here next : Phase) (m : Machine) (event : Event) (a : AroundLock these n here next m event) (frame : Flown) (rest : List Flown) → on_air m.outside.outer.air.frames ≡ frame ∷ rest → frame.node ≡ n
  arrived_own here next m event a frame rest were = alone.only frame.node (subst (AllByRecursion (IsOf these)) were a.speak.frames).0

  -- a frame of the node that arrives is for no device
  never_out : (m : Machine) (frame : Flown) → next_of m.outside.outer.air.frames ≡ Some frame → frame.heading ≡ Homeward → (other : Flown) → next_of m.outside.outer.air.frames ≡ Some other → other.heading ≡ Outward → other.node ≢ n
  never_out m frame next home other other_next out =
      let both : Some other ≡ Some frame = sym other_next ∙ next in
      let same : other ≡ frame = cc in
      let wrong : Outward ≡ Homeward = sym out ∙ (ap (λ (f : Flown). f.heading) same ∙ home) in
      absurd cc

  -- the lock stands there
  lock_at : (here next : Phase) (m : Machine) (event : Event) → AroundLock these n here next m event → IsThere n m.outside.devices
  lock_at here next m event a =
      let has : HasLock a.step.past n a.step.courses (mesh_of m.outside).devices = a.step.follows.outside.mesh.device in
      record { place = has.place; device = has.device; first = has.first; stands = has.stands }

  -- ---- where no frame arrives and the host judges nothing, the lock hears nothing, and nothing of it is judged

  abbrev pub IsOther : Phase → Type 0
  IsOther (Arriving (suc frames) ticks) = ⊥
  IsOther (Moved moved passes ticks) = ⊥
  IsOther here = Unit {0}

  effect_apart : (m : Machine) (event : Event) → IsEffect event → IsApartAt n m event
  effect_apart m (Outside_does (Wakes_device node route)) is = (tt, tt)
  effect_apart m (Outside_does (Shows node)) is = (tt, tt)
  effect_apart m (Outside_does (Cuts size)) is = (tt, tt)
  effect_apart m (Outside_does event) is = absurd is
  effect_apart m (Host_does event) is = (tt, tt)
  effect_apart m (Refuses of refusal) is = (tt, tt)
  effect_apart m (Shows_values node) is = (tt, tt)
  effect_apart m event is = absurd is

  apart_is : (m : Machine) (event is : Event) → event ≡ is → IsApartAt n m is → IsApartAt n m event
  apart_is m event is same apart = subst (λ (e : Event). IsApartAt n m e) (sym same) apart

  other_apart : (here next : Phase) (m : Machine) (event : Event) → Goes here m event next → IsOther here → AroundLock these n here next m event → IsApartAt n m event
  other_apart (Said_line line) next m event (is, to) other a = apart_is m event _ is (tt, tt)
  other_apart (Doing line (first ∷ others)) next m event (is, to) other a = apart_is m event first is (effect_apart m first a.line.0.0)
  other_apart (To_tick (suc ticks)) next m event (is, to) other a = apart_is m event _ is (tt, tt)
  other_apart (Arriving (suc frames) ticks) next m event goes other a = absurd other
  other_apart (Giving (suc results) ticks) next m event (route, is, to) other a = apart_is m event _ is (tt, tt)
  other_apart (Ticking_devices place (suc count) ticks) next m event (drawn, route, is, to) other a = apart_is m event _ is (tt, tt)
  other_apart (Ticking_chip ticks) next m event (is, to) other a = apart_is m event _ is (tt, tt)
  other_apart (Ticking_decoder ticks) next m event (is, to) other a = apart_is m event _ is (tt, tt)
  other_apart (Ticking_host (first ∷ events) ticks) next m event (is, to) other a = apart_is m event _ is (tt, tt)
  other_apart (Sleeping passes ticks) next m event (k, wants, is, to) other a = apart_is m event _ is (tt, tt)
  other_apart (Submitting passes ticks) next m event (asked, next_is, is, to) other a = apart_is m event _ is (tt, tt)
  other_apart (Moving passes ticks) next m event (rest, ways, is, to) other a = apart_is m event _ is (tt, tt)
  other_apart (Moved moved passes ticks) next m event goes other a = absurd other
  other_apart here next m event goes other a = absurd goes

  -- ---- nothing is on its way

  none_arrives : (frames ticks : ℕ) (m : Machine) (drawn : List ℕ) (route : Option Route) → AroundLock these n (Arriving (suc frames) ticks) (Arriving frames ticks) m (Outside_does (Arrives drawn route)) → NoneFly n (on_air m.outside.outer.air.frames) → ⊥
  none_arrives frames ticks m drawn route a none =
      let at = arrives_there airs m a.awaits.awaits drawn route a.may in
      none_first n at.frame at.rest (on_air m.outside.outer.air.frames) at.were (arrived_own (Arriving (suc frames) ticks) (Arriving frames ticks) m (Outside_does (Arrives drawn route)) a at.frame at.rest at.were) none

  has_one : (here : Phase) → HasLeft 1 here
  has_one (To_tick (suc ticks)) = omega arith
  has_one here = tt

  abbrev NoneBy : Machine → Phase → Event → Type 0
  NoneBy m next event = NoneGo n (happens m event) × IsApartAt n m event

  pub none_on : (here next : Phase) (m : Machine) (event : Event) → Goes here m event next → GoesByItself here → AroundLock these n here next m event → IsSilentIn here m → NoneGo n m → NoneGo n (happens m event) × IsApartAt n m event
  none_on (Arriving (suc frames) ticks) next m event (drawn, route, is, to) itself a silent none =
      as_it_is these n (NoneBy m) (Arriving (suc frames) ticks) next (Arriving frames ticks) m event _ is to (λ b. absurd (none_arrives frames ticks m drawn route b none.flies)) a
  none_on (Moved moved passes ticks) next m event (rest, items, done, is, to) itself a silent none =
      as_it_is these n (NoneBy m) (Moved moved passes ticks) next (Sleeping passes ticks) m event _ is to
      (λ b. (none_judged airs n moved passes ticks m rest items done b.may b.line b.tie none, (tt, none_judges airs n moved passes ticks m rest items done b.may b.line b.tie none.told))) a
  none_on (Submitting passes ticks) next m event goes itself a silent none = absurd itself
  none_on (Moving passes ticks) next m event goes itself a silent none = (
    none_go n 1 1 (Moving passes ticks) next m (happens m event) (event_leaves airs these many n alone is_node 1 (Moving passes ticks) next m event goes (inl silent) tt a) none,
    other_apart (Moving passes ticks) next m event goes tt a,
  )
  none_on here next m event goes itself a silent none =
      (none_go n 1 (most_then 1 here) here next m (happens m event) (event_leaves airs these many n alone is_node 1 here next m event goes tt (has_one here) a) none, other_apart here next m event goes tt a)

  -- ---- homeward

  module _ (Is : List ℕ → Type 0) (left : ℕ) where
    pub home_left : (here : Phase) (m : Machine) → GoesHome n Is left here m → HasLeft left here
    home_left (To_tick (suc ticks)) m (Flies at front behind none silent few) = omega (arith, few)
    home_left (To_tick (suc ticks)) m (Told payload is none only silent few) = omega (arith, few)
    home_left here m home = tt

    home_silent : (here : Phase) (m : Machine) → GoesHome n Is left here m → IsSilentIn here m
    home_silent here m (Flies at front behind none silent few) = silent
    home_silent here m (Told payload is none only silent few) = silent

    abbrev HomeBy : ℕ → Machine → Phase → Event → Type 0
    HomeBy then_left m next event = (GoesHome n Is then_left next (happens m event) × IsApartAt n m event) ⊎ TakesHomeAt n Is m event

    home_comes : ((payload : List ℕ) → Is payload → (1 ≤ length payload) × (length payload ≤ 46)) → (frames ticks : ℕ) (m : Machine) (drawn : List ℕ) (route : Option Route)
        → AroundLock these n (Arriving (suc frames) ticks) (Arriving frames ticks) m (Outside_does (Arrives drawn route)) → GoesHome n Is left (Arriving (suc frames) ticks) m
        → GoesHome n Is left (Arriving frames ticks) (happens m (Outside_does (Arrives drawn route))) × IsApartAt n m (Outside_does (Arrives drawn route))
    home_comes fits frames ticks m drawn route a home =
        let at = arrives_there airs m a.awaits.awaits drawn route a.may in
        let room = a.room in
        let own = arrived_own (Arriving (suc frames) ticks) (Arriving frames ticks) m (Outside_does (Arrives drawn route)) a at.frame at.rest at.were in
        let homes = home_arrives airs m a.awaits.awaits drawn route at n left frames ticks Is own a.line a.then_line (omega (arith, room))
        (next_is_live these m.outside.outer a.peopled.live at.frame at.next (λ home_is. subst (λ (k : ℕ). is_marked these k ≡ true) (sym own) alone.marked)) fits home in
        (homes.0, (never_out m at.frame at.next homes.1, tt))

    home_taken : (moved : Bool) (passes ticks : ℕ) (m : Machine) (rest : Rest) (items : List Item) (done : List HostEvent)
        → AroundLock these n (Moved moved passes ticks) (Sleeping passes ticks) m (Host_takes (length m.outside.outer.to_host.bytes) rest items done) → GoesHome n Is left (Moved moved passes ticks) m
        → HomeBy left m (Sleeping passes ticks) (Host_takes (length m.outside.outer.to_host.bytes) rest items done)
    home_taken moved passes ticks m rest items done a home = by (home_judged airs n moved passes ticks m rest items done a.may left Is a.line a.tie home)
      where
        by : StillOr airs n moved passes ticks m rest items done a.may left Is → HomeBy left m (Sleeping passes ticks) (Host_takes (length m.outside.outer.to_host.bytes) rest items done)
        by (inl (still, none)) = inl (still, (tt, none))
        by (inr takes) = inr (record { count = length m.outside.outer.to_host.bytes; rest = rest; items = items; events = done; event_is = refl; takes = takes })

    pub home_on : ((payload : List ℕ) → Is payload → (1 ≤ length payload) × (length payload ≤ 46)) → (here next : Phase) (m : Machine) (event : Event) → Goes here m event next → GoesByItself here → AroundLock these n here next m event → GoesHome n Is left here m
        → (GoesHome n Is (most_then left here) next (happens m event) × IsApartAt n m event) ⊎ TakesHomeAt n Is m event
    home_on fits (Arriving (suc frames) ticks) next m event (drawn, route, is, to) itself a home =
        as_it_is these n (HomeBy left m) (Arriving (suc frames) ticks) next (Arriving frames ticks) m event _ is to (λ b. inl (home_comes fits frames ticks m drawn route b home)) a
    home_on fits (Moved moved passes ticks) next m event (rest, items, done, is, to) itself a home =
        as_it_is these n (HomeBy left m) (Moved moved passes ticks) next (Sleeping passes ticks) m event _ is to (λ b. home_taken moved passes ticks m rest items done b home) a
    home_on fits (Submitting passes ticks) next m event goes itself a home = absurd itself
    home_on fits (Moving passes ticks) next m event goes itself a home =
        inl (
          home_alone n left left (Moving passes ticks) next m (happens m event) (event_leaves airs these many n alone is_node left (Moving passes ticks) next m event goes (inl (home_silent (Moving passes ticks) m home)) tt a) Is home,
          other_apart (Moving passes ticks) next m event goes tt a,
        )
    home_on fits here next m event goes itself a home =
        inl (
          home_alone n left (most_then left here) here next m (happens m event) (event_leaves airs these many n alone is_node left here next m event goes tt (home_left here m home) a) Is home,
          other_apart here next m event goes tt a,
        )

    pub home_turn : (here next : Phase) (m : Machine) → Turns here m next → AwaitsAt here m → LineAt here m → LineAt next m → GoesHome n Is left here m → GoesHome n Is left next m
    home_turn (Submitting zero ticks) next m (pumped, same) awaits line_at line_next home = subst (λ (q : Phase). GoesHome n Is left q m) (sym same) (by (subst (λ (q : Phase). LineAt q m) same line_next) home)
      where
        by : LineAt (To_tick ticks) m → GoesHome n Is left (Submitting zero ticks) m → GoesHome n Is left (To_tick ticks) m
        by rests (Flies at front behind none silent few) = Flies at front behind none tt (omega (arith, few))
        by rests (Told payload is none only silent few) = absurd (subst (Has (brings n payload)) (sym only.are ∙ rests_unheard m rests) (has_in (brings n payload) only.before only.behind))
    home_turn here next m turns awaits line_at line_next home = home_alone n left left here next m m (turn_leaves airs these many n alone is_node left here next m turns awaits line_at tt) Is home

    pub home_said : (line : Line) (m : Machine) → GoesHome n Is left Between m → GoesHome n Is left (Said_line line) m
    home_said line m (Flies at front behind none silent few) = Flies at front behind none tt few
    home_said line m (Told payload is none only silent few) = Told payload is none only tt few

    -- ---- outward

    pub out_left : (here : Phase) (m : Machine) → GoesOut n Is left here m → HasLeft left here
    out_left (To_tick (suc ticks)) m (Given request payload asking under_way gives line is some) = absurd asking
    out_left (To_tick (suc ticks)) m (Aired at few) = omega (arith, few)
    out_left here m out = tt

    abbrev OutBy : ℕ → Machine → Phase → Event → Type 0
    OutBy then_left m next event = (OutAlone n Is then_left next (happens m event) × IsApartAt n m event) ⊎ HearsOut n Is next m event

    -- where no request of the host is on its way to the chip, it is on the air
    aired_on : (then_left : ℕ) (here next : Phase) (m later : Machine) → (IsAsking here → ⊥) → LeavesAlone n left then_left here next m later → (out : GoesOut n Is left here m) → GoesAlone n Is left here m out → NoneTold n (unheard m.outside.outer)
        → OutAlone n Is then_left next later
    aired_on then_left here next m later apart leaves (Given request payload asking under_way gives line is some) only told = absurd (apart asking)
    aired_on then_left here next m later apart leaves (Aired at few) only told = out_alone n left then_left here next m later leaves Is at few only.0 only.1 told

    moved_on : (passes ticks : ℕ) (m : Machine) (rest : Rest) (ways : List (Item × Option Route)) → AroundLock these n (Moving passes ticks) (Moved true passes ticks) m (Outside_does (Chip_takes (length m.outside.outer.to_chip.bytes) rest ways))
        → (out : GoesOut n Is left (Moving passes ticks) m) → GoesAlone n Is left (Moving passes ticks) m out → NoneTold n (unheard m.outside.outer) → OutBy left m (Moved true passes ticks) (Outside_does (Chip_takes (length m.outside.outer.to_chip.bytes) rest ways))
    moved_on passes ticks m rest ways a (Given request payload asking under_way gives line is some) only told =
        inl (given_taken airs these n alone within left passes ticks m rest ways a Is request payload under_way gives line is some only told, (tt, tt))
    moved_on passes ticks m rest ways a (Aired at few) only told =
        inl (
          out_alone n left left (Moving passes ticks) (Moved true passes ticks) m (happens m (Outside_does (Chip_takes (length m.outside.outer.to_chip.bytes) rest ways)))
              (event_leaves airs these many n alone is_node left (Moving passes ticks) (Moved true passes ticks) m (Outside_does (Chip_takes (length m.outside.outer.to_chip.bytes) rest ways)) (rest, ways, refl, refl) (inr (out_some n Is (on_air m.outside.outer.air.frames) at)) tt a)
              Is at few only.0 only.1 told,
          (tt, tt),
        )

    judged_on : (moved : Bool) (passes ticks : ℕ) (m : Machine) (rest : Rest) (items : List Item) (done : List HostEvent)
        → AroundLock these n (Moved moved passes ticks) (Sleeping passes ticks) m (Host_takes (length m.outside.outer.to_host.bytes) rest items done) → (out : GoesOut n Is left (Moved moved passes ticks) m) → GoesAlone n Is left (Moved moved passes ticks) m out
        → NoneTold n (unheard m.outside.outer) → OutBy left m (Sleeping passes ticks) (Host_takes (length m.outside.outer.to_host.bytes) rest items done)
    judged_on moved passes ticks m rest items done a (Given request payload asking under_way gives line is some) only told = absurd asking
    judged_on moved passes ticks m rest items done a (Aired at few) only told =
        inl (
          record {
            out = Aired (record { before = at.before; frame = at.frame; behind = at.behind; are = judged_air airs n moved passes ticks m rest items done a.may ∙ at.are; is = at.is }) (omega (arith, few));
            alone = only;
            told = none_told airs n moved passes ticks m rest items done a.may a.line a.tie told;
          },
          (tt, none_judges airs n moved passes ticks m rest items done a.may a.line a.tie told),
        )

    out_comes : (frames ticks : ℕ) (m : Machine) (drawn : List ℕ) (route : Option Route) → AroundLock these n (Arriving (suc frames) ticks) (Arriving frames ticks) m (Outside_does (Arrives drawn route)) → OutAlone n Is left (Arriving (suc frames) ticks) m
        → HearsOut n Is (Arriving frames ticks) m (Outside_does (Arrives drawn route))
    out_comes frames ticks m drawn route a o =
        let at = arrives_there airs m a.awaits.awaits drawn route a.may in
        let own = arrived_own (Arriving (suc frames) ticks) (Arriving frames ticks) m (Outside_does (Arrives drawn route)) a at.frame at.rest at.were in
        out_arrives airs m a.awaits.awaits drawn route at n left frames ticks Is a.line a.then_line a.may a.heard (lock_at (Arriving (suc frames) ticks) (Arriving frames ticks) m (Outside_does (Arrives drawn route)) a) a.joined within o.told own o

    pub out_on : (here next : Phase) (m : Machine) (event : Event) → Goes here m event next → GoesByItself here → AroundLock these n here next m event → OutAlone n Is left here m
        → (OutAlone n Is (most_then left here) next (happens m event) × IsApartAt n m event) ⊎ HearsOut n Is next m event
    out_on (Arriving (suc frames) ticks) next m event (drawn, route, is, to) itself a o =
        as_it_is these n (OutBy left m) (Arriving (suc frames) ticks) next (Arriving frames ticks) m event _ is to (λ b. inr (out_comes frames ticks m drawn route b o)) a
    out_on (Moved moved passes ticks) next m event (rest, items, done, is, to) itself a o =
        as_it_is these n (OutBy left m) (Moved moved passes ticks) next (Sleeping passes ticks) m event _ is to (λ b. judged_on moved passes ticks m rest items done b o.out o.alone o.told) a
    out_on (Submitting passes ticks) next m event goes itself a o = absurd itself
    out_on (Moving passes ticks) next m event (rest, ways, is, to) itself a o =
        as_it_is these n (OutBy left m) (Moving passes ticks) next (Moved true passes ticks) m event _ is to (λ b. moved_on passes ticks m rest ways b o.out o.alone o.told) a
    out_on here next m event goes itself a o =
        inl (
          aired_on (most_then left here) here next m (happens m event) (λ asking. absurd asking) (event_leaves airs these many n alone is_node left here next m event goes tt (out_left here m o.out) a) o.out o.alone o.told,
          other_apart here next m event goes tt a,
        )

    pub out_turn : (here next : Phase) (m : Machine) → Turns here m next → AwaitsAt here m → LineAt here m → TieAt here m → LineAt next m → TieAt next m → OutAlone n Is left here m → OutAlone n Is left next m
    out_turn (Submitting zero ticks) next m (pumped, same) awaits line_at tie line_next tie_next o = subst (λ (q : Phase). OutAlone n Is left q m) (sym same) (by (subst (λ (q : Phase). LineAt q m) same line_next) o.out o.alone)
      where
        by : LineAt (To_tick ticks) m → (out : GoesOut n Is left (Submitting zero ticks) m) → GoesAlone n Is left (Submitting zero ticks) m out → OutAlone n Is left (To_tick ticks) m
        by rests (Given request payload asking under_way gives line is some) only = absurd (let wrong = sym (ap on_line rests.at_host.turn_is) ∙ line in cc)
        by rests (Aired at few) only = record { out = Aired at (omega (arith, few)); alone = only; told = o.told }
    out_turn (Submitting (suc passes) ticks) next m (pumped, same) awaits line_at tie line_next tie_next o = subst (λ (q : Phase). OutAlone n Is left q m) (sym same) (by o.out o.alone)
      where
        by : (out : GoesOut n Is left (Submitting (suc passes) ticks) m) → GoesAlone n Is left (Submitting (suc passes) ticks) m out → OutAlone n Is left (Moving passes ticks) m
        by (Given request payload asking under_way gives line is some) only = record { out = Given request payload tt under_way gives line is some; alone = only; told = o.told }
        by (Aired at few) only = record { out = Aired at few; alone = only; told = o.told }
    out_turn (Moving passes ticks) next m (none, same) awaits line_at tie line_next tie_next o = subst (λ (q : Phase). OutAlone n Is left q m) (sym same) (by (subst (λ (q : Phase). TieAt q m) same tie_next) o.out o.alone)
      where
        by : TieAt (Moved false passes ticks) m → (out : GoesOut n Is left (Moving passes ticks) m) → GoesAlone n Is left (Moving passes ticks) m out → OutAlone n Is left (Moved false passes ticks) m
        by later (Given request payload asking under_way gives line is some) only = absurd (none_asked m request under_way line tie later)
        by later (Aired at few) only = record { out = Aired at few; alone = only; told = o.told }
    out_turn here next m turns awaits line_at tie line_next tie_next o = aired_on left here next m m (λ asking. absurd asking) (turn_leaves airs these many n alone is_node left here next m turns awaits line_at tt) o.out o.alone o.told

    pub out_said : (line : Line) (m : Machine) → OutAlone n Is left Between m → OutAlone n Is left (Said_line line) m
    out_said line m o = by o.out o.alone
      where
        by : (out : GoesOut n Is left Between m) → GoesAlone n Is left Between m out → OutAlone n Is left (Said_line line) m
        by (Given request payload asking under_way gives line_is is some) only = absurd asking
        by (Aired at few) only = record { out = Aired at few; alone = only; told = o.told }
