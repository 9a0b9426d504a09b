-- What is proved of frames on the air, of requests, of hosts and of what is outside them.
use Rattle.std.specs.Prelude.{◌≡◌, ℕ, ◌-◌, ◌<◌, ◌≤◌, List, [], ◌∷◌, ◌++◌, Option, Some, length, map, replicate, slice_set}
use Rattle.serial_frame.specs.declared.item.Item.{Item}
use Rattle.serial_frame.specs.Stream.{Rest}
use Rattle.route_table.specs.declared.route.Route.{Route}
use Rattle.air_frames.specs.declared.frame.Departure.{Departure}
use Rattle.air_frames.specs.Flown.{Flown}
use Rattle.air_frames.specs.Frames.{FramesState, peer_of, putting, landing, next_of}
use Rattle.air_frames.specs.History.{Mark, Goes as goes_mark, Begins as begins_mark}
use Rattle.proof_traffic.specs.Flights.{Fly, flown_now}
use Rattle.proof_serial.specs.host_model.State.{HostState}
use Rattle.proof_serial.specs.host_model.Events.{HostEvent}
use Rattle.proof_serial.specs.host_model.Pumping.{Pumps}
use Rattle.proof_serial.specs.host_model.Taking.{AreJudged}
use Rattle.proof_serial.specs.host_model.Ticking.{tick_events}
use Rattle.proof_device.specs.outside_model.State.{OuterState, Outside}
use Rattle.proof_device.specs.outside_model.Chip.{chip_takes}
use Rattle.proof_device.specs.outside_model.Events.{OuterEvent, May, happens}
use Rattle.proof_traffic.specs.Requests.{Word, Traffic, Step}
use Rattle.proof_traffic.specs.Requests as course
use Rattle.proof_traffic.specs.Facts.{RequestFacts}
use Rattle.proof_traffic.specs.HostTraffic.{Knows, Goes as HostGoes}
use Rattle.proof_traffic.specs.OutsideTraffic.{Follows, Goes as OuterGoes, AreNodes, InTurn, words_all}

-- frames on the air, one after another
pub record Airs : Type 0 where
  pub goes : (log : List Mark) (flights : List Flown) (frames : FramesState) (departure : Departure) → departure.node < 233 → Fly log flights frames →
      Fly (log ++ goes_mark departure ∷ []) (flights ++ flown_now log departure ∷ []) (putting frames departure)
  pub next : (log : List Mark) (flight : Flown) (later : List Flown) (frames : FramesState) → Fly log (flight ∷ later) frames → next_of frames ≡ Some flight
  pub lands : (log : List Mark) (flight : Flown) (later : List Flown) (frames : FramesState) → Fly log (flight ∷ later) frames → Fly log later (landing frames)
  pub count : (log : List Mark) (flights : List Flown) (frames : FramesState) → Fly log flights frames → length flights ≡ frames.sent - frames.landed
  pub begins : (log : List Mark) (flights : List Flown) (frames : FramesState) (node sessions : ℕ) → node < 233 → (peer_of frames node).begun ≤ sessions → Fly log flights frames →
      Fly (log ++ replicate (sessions - (peer_of frames node).begun) (begins_mark node)) flights
      (record frames { peers = slice_set frames.peers node (record (peer_of frames node) { begun = sessions }) })

-- the course of requests; what a host makes of it; and what is outside the host
pub record Laws : Type 0 where
  pub air : Airs
  pub keeps : (t : Traffic) (steps : List Step) → RequestFacts t → course.MayAll t steps → RequestFacts (course.after_all t steps)
  pub pump : (t : Traffic) (h : HostState) (events : List HostEvent) → Knows t h → Pumps h events → HostGoes t h events
  pub judges : (t : Traffic) (h : HostState) (items : List Item) (events : List HostEvent) → Knows t h → AreJudged h items events → t.up ≡ [] → HostGoes t h events
  pub tick : (t : Traffic) (h : HostState) → Knows t h → t.calls ≡ [] → HostGoes t h (tick_events h)
  pub outer : (t : Traffic) (log : List Mark) (flights : List Flown) (w : Outside) (event : OuterEvent) → Follows t log flights w.outer → AreNodes w.devices → May w event → InTurn flights event →
      OuterGoes t log flights (happens w event).outer t.up
  pub takes : (t : Traffic) (log : List Mark) (flights : List Flown) (o : OuterState) (count : ℕ) (rest : Rest) (ways : List (Item × Option Route)) (later : List Word) →
      Follows t log flights o → t.up ≡ words_all (map (λ w. w.0) ways) ++ later → OuterGoes t log flights (chip_takes o count rest ways).outer later
