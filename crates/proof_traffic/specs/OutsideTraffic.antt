-- What is outside the host has to do with the course of the host's requests (this project's own rule): the frames that the chip judges, the payload that it
-- sends, the calls that it owes, and the frames on the air for them.
use Rattle.std.specs.Prelude.{◌<◌, ◌≡◌, ℕ, ◌+◌, Bool, true, false, List, [], ◌∷◌, ◌++◌, length, map}
use Rattle.std.specs.Option.{is_some}
use Rattle.std.specs.List.{AllByRecursion, flat_map}
use Rattle.serial_frame.specs.declared.item.Item.{Item}
use Rattle.serial_frame.specs.declared.item.Item.TheVariants.{Good, Refused}
use Rattle.air_frames.specs.declared.frame.Heading.{Heading}
use Rattle.air_frames.specs.declared.frame.Heading.TheVariants.{Outward, Homeward}
use Rattle.air_frames.specs.Flown.{Flown}
use Rattle.air_frames.specs.History.{Mark}
use Rattle.proof_traffic.specs.Flights.{Fly}
use Rattle.proof_device.specs.outside_model.declared.waits.Due.{Due}
use Rattle.proof_device.specs.outside_model.declared.waits.Due.TheVariants.{Info, NoRoute as no_route_due}
use Rattle.proof_device.specs.outside_model.declared.waits.Call.{Call}
use Rattle.proof_device.specs.outside_model.declared.waits.Call.TheVariants.{OfFrame, NoRoute as no_route_call}
use Rattle.proof_device.specs.device_sim.State.{State}
use Rattle.proof_device.specs.outside_model.State.{OuterState}
use Rattle.proof_device.specs.outside_model.Events.{OuterEvent, Gives, Chip_takes, Host_begins}
use Rattle.proof_traffic.specs.Requests.{Word, Traffic, Step}
use Rattle.proof_traffic.specs.Requests as course
use Rattle.proof_traffic.specs.Facts.{flying_in}
use Rattle.proof_traffic.specs.HostTraffic.{words_in}

-- ---- words

-- the word of an item, where it is a frame
abbrev pub words_of : Item → List Word
words_of (Good unit) = words_in unit
words_of (Refused refusal) = []

abbrev pub words_all : List Item → List Word
words_all items = flat_map words_of items

-- ---- calls

-- whether a frame is on the air for a call
abbrev pub of_frame : Call → Bool
of_frame OfFrame = true
of_frame no_route_call = false

abbrev pub flags : List Call → List Bool
flags calls = map of_frame calls

-- how many of these frames are the host's
abbrev pub one_outward : Heading → ℕ
one_outward Outward = 1
one_outward Homeward = 0

abbrev pub outward : List Flown → ℕ
outward [] = 0
outward (flight ∷ flights) = one_outward flight.heading + outward flights

-- how many results without a route are due, and how many calls wait for one
abbrev pub one_due : Due → ℕ
one_due no_route_due = 1
one_due (Info node) = 0

abbrev pub no_routes_due : List Due → ℕ
no_routes_due [] = 0
no_routes_due (due ∷ more) = one_due due + no_routes_due more

abbrev pub one_unless : Bool → ℕ
one_unless true = 0
one_unless false = 1

abbrev pub without_frame : List Bool → ℕ
without_frame [] = 0
without_frame (flies ∷ calls) = one_unless flies + without_frame calls

-- ---- what the course knows

-- the payload that the chip sends, those that were given up, and the calls to come
pub record Knows (t : Traffic) (o : OuterState) : Type 0 where
  pub aborted : t.aborted ≡ o.chip.state.aborted
  pub sending : t.sending ≡ is_some o.chip.state.sending
  pub calls : t.calls ≡ flags o.calls

-- each call that comes of a frame has one of the host on the air, and each that comes of none has a result that is due
pub record Await (flights : List Flown) (o : OuterState) : Type 0 where
  pub frames : outward flights ≡ flying_in (flags o.calls)
  pub results : no_routes_due o.due ≡ without_frame (flags o.calls)

-- all of it, with the frames on the air and their history; the tables of the chip have a place for each node
pub record Follows (t : Traffic) (log : List Mark) (flights : List Flown) (o : OuterState) : Type 0 where
  pub knows : Knows t o
  pub await : Await flights o
  pub fly : Fly log flights o.air.frames
  pub joined : length o.chip.state.joined ≡ 233

-- the steps are none of the host's
pub record HostStays (old new : Traffic) : Type 0 where
  pub link : new.link ≡ old.link
  pub pending : new.pending ≡ old.pending
  pub owes : new.owes ≡ old.owes

-- steps of the course lead to what it knows of another outside, of which these words are still on their way
pub record Goes (t : Traffic) (log : List Mark) (flights : List Flown) (o : OuterState) (up : List Word) : Type 0 where
  pub steps : List Step
  pub may : course.MayAll t steps
  pub more : List Mark
  pub now : List Flown
  pub follows : Follows (course.after_all t steps) (log ++ more) now o
  pub up_is : (course.after_all t steps).up ≡ up
  pub host : HostStays t (course.after_all t steps)

-- ---- devices

-- each device is of a node that has a place in the tables
abbrev pub AreNodes : List State → Type 0
AreNodes devices = AllByRecursion (λ (device : State). device.node < 233) devices

-- a result is given only while no frame of the host is on the air
abbrev pub InTurn : List Flown → OuterEvent → Type 0
InTurn flights (Gives route) = outward flights ≡ 0
InTurn flights (Chip_takes count rest ways) = ⊥
InTurn flights (Host_begins node sessions) = node < 233
InTurn flights event = Unit {0}
