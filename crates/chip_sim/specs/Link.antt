-- The chip's events as those of its link, and the units that it writes (Serial API: acknowledgement and retransmission).
use Rattle.std.specs.Prelude.{List, [], ◌∷◌, ◌++◌, map}
use Rattle.serial_frame.specs.declared.unit.Unit.{Unit as LineUnit}
use Rattle.std.specs.List.{flat_map}
use Rattle.serial_link.specs.State.{hear_outs}
use Rattle.serial_link.specs.Rules.{Step, heard as hears, asked as asks_collision, outs_of}
use Rattle.serial_link.specs.Calls.{submit_step, tick_step}
use Rattle.serial_link.specs.declared.out.LinkOut.{LinkOut}
use Rattle.serial_link.specs.declared.out.LinkOut.TheVariants.{Write as Writes, Got, Sent, Failed, Bad}
use Rattle.chip_sim.specs.State.{ChipState}
use Rattle.chip_sim.specs.Events.{ChipEvent, Judged, Ticked, Heard, Done, Informed, Joined, Linked, Forgets, Collides}
use Rattle.chip_sim.specs.Rules.{begun_at}
use Rattle.chip_sim.specs.declared.out.ChipOut.{ChipOut}
use Rattle.chip_sim.specs.declared.out.ChipOut.TheVariants.{Write, OnAir, NoRoute, AskInfo, Full}

-- what happens to the link at an event, before frames are submitted
abbrev pub link_event : ChipState → ChipEvent → List Step
link_event s (Judged item way) = record { event = hears item; outs = hear_outs s.port.side item } ∷ []
link_event s Ticked = tick_step s.port.side ∷ []
link_event s (Heard n payload) = []
link_event s (Done status) = []
link_event s (Informed n profile) = []
link_event s (Joined n listening) = []
link_event s (Linked a b live) = []
link_event s (Forgets a b) = []
link_event s Collides = record { event = asks_collision; outs = [] } ∷ []

-- the steps of the link at an event: the frames that are submitted come last
abbrev pub link_steps : ChipState → ChipEvent → List Step
link_steps s e = link_event s e ++ map (λ f. submit_step f) (begun_at s e)

-- the units that are written
abbrev pub chip_unit : ChipOut → List LineUnit
chip_unit (Write u) = u ∷ []
chip_unit (OnAir to route payload) = []
chip_unit NoRoute = []
chip_unit (AskInfo n) = []
chip_unit Full = []

abbrev pub link_unit : LinkOut → List LineUnit
link_unit (Writes u) = u ∷ []
link_unit (Got f) = []
link_unit Sent = []
link_unit (Failed copies) = []
link_unit (Bad refusal) = []

abbrev pub chip_units : List ChipOut → List LineUnit
chip_units outs = flat_map chip_unit outs

abbrev pub link_units : List Step → List LineUnit
link_units steps = flat_map link_unit (outs_of steps)
