-- The course of the host's requests, beside the whole machine (this project's own).
use Rattle.std.specs.Prelude.{◌≡◌, List, ◌++◌}
use Rattle.serial_frame.specs.declared.item.Item.{Item}
use Rattle.air_frames.specs.History.{Mark}
use Rattle.proof_traffic.specs.Requests.{Traffic, Step, after_all, MayAll}
use Rattle.proof_traffic.specs.Facts.{RequestFacts}
use Rattle.proof_traffic.specs.HostTraffic.{Knows}
use Rattle.proof_traffic.specs.OutsideTraffic.{AreNodes, words_all}
use Rattle.proof_traffic.specs.OutsideTraffic as outer
use Rattle.proof_device.specs.world_model.State.{Machine}
use Rattle.proof_device.specs.world_model.Events.{Event}
use Rattle.proof_device.specs.world_model.Did.{happens_all}
use Rattle.proof_serial.specs.Chip.{HasFrames}
use Rattle.proof_serial.specs.Line.{Carried, AreAtRest}
use Rattle.proof_traffic.specs.OnAir.{on_air, AlwaysFew}

-- The course is where the machine is: it knows the host and its requests, the chip and its calls; its frames are those on the air, and what is on its way in it are the frames on the serial line. Both sides of the line have
-- nothing unfinished, and each device has a place in the tables.
pub record Follows (t : Traffic) (log : List Mark) (up down : List Item) (m : Machine) : Type 0 where
  pub host : Knows t m.host.state
  pub outside : outer.Follows t log (on_air m.outside.outer.air.frames) m.outside.outer
  pub carried : Carried m up down
  pub frames : HasFrames m.outside.outer.chip.state.port
  pub rests : AreAtRest m
  pub up_is : t.up ≡ words_all up
  pub facts : RequestFacts t
  pub nodes : AreNodes m.outside.devices

-- these events are steps of the course, which is where the machine is then; and at every moment of them at most two frames of the host are on the air
pub record Goes (t : Traffic) (log : List Mark) (m : Machine) (events : List Event) : Type 0 where
  pub steps : List Step
  pub may : MayAll t steps
  pub more : List Mark
  pub up : List Item
  pub down : List Item
  pub follows : Follows (after_all t steps) (log ++ more) up down (happens_all m events)
  pub few : AlwaysFew m events
