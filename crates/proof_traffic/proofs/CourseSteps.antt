-- Events of one list after another are steps of the course, one part after the other.
use Rattle.std.proofs.Common.{◌≡◌, ℕ, ◌<◌, List, [], ◌∷◌, ◌++◌, sym, subst, append_assoc, inl, inr}
use Rattle.std.proofs.lemmas.List.{append-nil}
use Rattle.serial_frame.specs.declared.item.Item.{Item}
use Rattle.air_frames.specs.History.{Mark}
use Rattle.proof_device.specs.device_sim.State.{State}
use Rattle.proof_traffic.specs.Requests.{Traffic}
use Rattle.proof_traffic.specs.Requests as course
use Rattle.proof_traffic.specs.OutsideTraffic.{AreNodes}
use Rattle.proof_device.specs.GoingOn.{AreSame}
use Rattle.proof_device.proofs.DevicePlaces.{run_goes, go_same}
use Rattle.proof_device.specs.world_model.State.{Machine}
use Rattle.proof_device.specs.world_model.Events.{Event, May, happens}
use Rattle.proof_device.specs.world_model.Did.{happens_all, MayAll, Schedule, Then, Nothing, PrefixOf, ThenPrefix}
use Rattle.proof_device.proofs.EventLists.{happens_all-append}
use Rattle.proof_serial.specs.Host.{AsksWell, AllAskWell}
use Rattle.proof_serial.specs.Line.{IsWhole, WritesWell, AllWriteWell}
use Rattle.proof_traffic.specs.OnAir.{IsFew, AlwaysFew}
use Rattle.proof_traffic.specs.Course.{Follows, Goes}
use Rattle.proof_traffic.proofs.Flights.{hosts_few}
use Rattle.proof_traffic.proofs.JudgedItems.{steps-append as steps_both, may-append as may_both}

-- ---- what is assumed of events

pub record Fair (m : Machine) (event : Event) : Type 0 where
  pub may : May m event
  pub well : WritesWell m event
  pub asks : AsksWell m event

abbrev pub AllFair : Machine → List Event → Type 0
AllFair m [] = Unit {0}
AllFair m (event ∷ events) = Fair m event × AllFair (happens m event) events

pub all_fair : (m : Machine) (events : List Event) → MayAll m events → AllWriteWell m events → AllAskWell m events → AllFair m events
all_fair m [] may well asks = tt
all_fair m (event ∷ events) may well asks = (record { may = may.0; well = well.0; asks = asks.0 }, all_fair (happens m event) events may.1 well.1 asks.1)

pub fair_may : (m : Machine) (events : List Event) → AllFair m events → MayAll m events
fair_may m [] fair = tt
fair_may m (event ∷ events) fair = (fair.0.may, fair_may (happens m event) events fair.1)

pub fair_well : (m : Machine) (events : List Event) → AllFair m events → AllWriteWell m events
fair_well m [] fair = tt
fair_well m (event ∷ events) fair = (fair.0.well, fair_well (happens m event) events fair.1)

pub fair_first : (m : Machine) (a b : List Event) → AllFair m (a ++ b) → AllFair m a
fair_first m [] b fair = tt
fair_first m (event ∷ a) b fair = (fair.0, fair_first (happens m event) a b fair.1)

pub fair_later : (m : Machine) (a b : List Event) → AllFair m (a ++ b) → AllFair (happens_all m a) b
fair_later m [] b fair = fair
fair_later m (event ∷ a) b fair = fair_later (happens m event) a b fair.1

-- ---- devices keep their nodes

nodes_same : (old new : List State) → AreSame old new → AreNodes old → AreNodes new
nodes_same [] [] same nodes = tt
nodes_same [] (y ∷ new) same nodes = absurd same
nodes_same (x ∷ old) [] same nodes = absurd same
nodes_same (x ∷ old) (y ∷ new) same nodes = (subst (λ (n : ℕ). n < 233) (sym same.0.node) nodes.0, nodes_same old new same.1 nodes.1)

pub nodes_kept : (m : Machine) (events : List Event) → AreNodes m.outside.devices → AreNodes (happens_all m events).outside.devices
nodes_kept m events nodes =
    nodes_same m.outside.devices (happens_all m events).outside.devices (go_same m.outside.devices (happens_all m events).outside.devices (run_goes m events)) nodes

-- ---- steps

few_both : (m : Machine) (a b : List Event) → AlwaysFew m a → AlwaysFew (happens_all m a) b → AlwaysFew m (a ++ b)
few_both m [] b first later = later
few_both m (event ∷ a) b first later = (first.0, first.1, few_both (happens m event) a b first.2 later)

-- at any moment
pub few_at : (m : Machine) (before later : List Event) → AlwaysFew m (before ++ later) → IsFew (happens_all m before).outside.outer
few_at m [] [] few = few
few_at m [] (event ∷ later) few = few.0
few_at m (event ∷ before) later few = few_at (happens m event) before later few.2

-- ---- the course goes on

unfoldable pub goes_nowhere : (t : Traffic) (log : List Mark) (up down : List Item) (m : Machine) → Follows t log up down m → Goes t log m []
goes_nowhere t log up down m f = record {
  steps = [];
  may = tt;
  more = [];
  up = up;
  down = down;
  follows = subst (λ (l : List Mark). Follows t l up down m) (sym (append-nil log)) f;
  few = hosts_few t log _ m.outside.outer f.outside f.facts;
}

pub goes_both : (t : Traffic) (log : List Mark) (m : Machine) (a b : List Event) (first : Goes t log m a) → Goes (course.after_all t first.steps) (log ++ first.more) (happens_all m a) b → Goes t log m (a ++ b)
goes_both t log m a b first later = record {
  steps = first.steps ++ later.steps;
  may = may_both t first.steps later.steps first.may later.may;
  more = first.more ++ later.more;
  up = later.up;
  down = later.down;
  follows = subst (λ (u : Traffic). Follows u (log ++ (first.more ++ later.more)) later.up later.down (happens_all m (a ++ b))) (sym (steps_both t first.steps later.steps))
      (subst (λ (l : List Mark). Follows (course.after_all (course.after_all t first.steps) later.steps) l later.up later.down (happens_all m (a ++ b))) (append_assoc log first.more later.more)
      (subst (λ (n : Machine). Follows (course.after_all (course.after_all t first.steps) later.steps) ((log ++ first.more) ++ later.more) later.up later.down n) (sym (happens_all-append m a b)) later.follows));
  few = few_both m a b first.few later.few;
}

pub whole_of : (t : Traffic) (log : List Mark) (up down : List Item) (m : Machine) → Follows t log up down m → IsWhole m
whole_of t log up down m f = record { up = up; down = down; carried = f.carried; frames = f.frames }

-- ---- schedules

-- the events of a schedule are steps of the course
abbrev pub GoesOf : Schedule → Type 0
GoesOf Kind = (t : Traffic) (log : List Mark) (up down : List Item) (m : Machine) (events : List Event) → Follows t log up down m → Kind m events → AllFair m events → Goes t log m events

-- one list after another
pub goes_parts : (t : Traffic) (log : List Mark) (m : Machine) (a b all : List Event) → all ≡ a ++ b → AllFair m all → (first : AllFair m a → Goes t log m a)
    → ((g : Goes t log m a) → AllFair (happens_all m a) b → Goes (course.after_all t g.steps) (log ++ g.more) (happens_all m a) b) → Goes t log m all
goes_parts t log m a b all are fair first later =
    let split : AllFair m (a ++ b) = subst (λ (l : List Event). AllFair m l) are fair in
    let g : Goes t log m a = first (fair_first m a b split) in
    subst (λ (l : List Event). Goes t log m l) (sym are) (goes_both t log m a b g (later g (fair_later m a b split)))

pub goes_then : (First Second : Schedule) → GoesOf First → GoesOf Second → GoesOf (Then First Second)
goes_then First Second first second t log up down m events f (a, b, are, is_first, is_second) fair =
    goes_parts t log m a b events are fair (λ fair_a. first t log up down m a f is_first fair_a)
    (λ g fair_b. second (course.after_all t g.steps) (log ++ g.more) g.up g.down (happens_all m a) b g.follows is_second fair_b)

-- these events
pub goes_as : (t : Traffic) (log : List Mark) (m : Machine) (events these : List Event) → events ≡ these → AllFair m events → (AllFair m these → Goes t log m these) → Goes t log m events
goes_as t log m events these are fair go = subst (λ (l : List Event). Goes t log m l) (sym are) (go (subst (λ (l : List Event). AllFair m l) are fair))

-- ---- where memory ran out

pub goes_none : GoesOf Nothing
goes_none t log up down m events f are fair = goes_as t log m events [] are fair (λ fair. goes_nowhere t log up down m f)

pub goes_then_prefix : (FirstPrefix First SecondPrefix : Schedule) → GoesOf FirstPrefix → GoesOf First → GoesOf SecondPrefix → GoesOf (ThenPrefix FirstPrefix First SecondPrefix)
goes_then_prefix FirstPrefix First SecondPrefix prefix first second t log up down m events f (inl is) fair = prefix t log up down m events f is fair
goes_then_prefix FirstPrefix First SecondPrefix prefix first second t log up down m events f (inr is) fair = goes_then First SecondPrefix first second t log up down m events f is fair

-- these would go on to be events of the schedule
abbrev pub Begun : Schedule → Schedule
Begun Kind m events = (rest : List Event) × Kind m (events ++ rest)

pub goes_whole : (Kind : Schedule) → GoesOf (Begun Kind) → GoesOf Kind
goes_whole Kind begun t log up down m events f is fair = begun t log up down m events f ([], subst (λ (l : List Event). Kind m l) (sym (append-nil events)) is) fair

pub goes_prefix : (Kind : Schedule) → GoesOf (Begun Kind) → GoesOf (PrefixOf Kind)
goes_prefix Kind begun t log up down m events f (inl none) fair = goes_none t log up down m events f none fair
goes_prefix Kind begun t log up down m events f (inr is) fair = begun t log up down m events f is fair
