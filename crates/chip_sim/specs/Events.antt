-- The chip one event at a time: what may happen to it, what it is then, and what it puts out (this project's own).
use Rattle.std.specs.Prelude.{◌≡◌, ℕ, ◌+◌, ◌-◌, ◌<◌, ◌≤◌, ◌^◌, ◌==◌, ◌⊎◌, Bool, true, false, nat_lt, nat_eq, Option, Some, None, IsSome, List, [], ◌∷◌, ◌++◌, length, slice_set, if◌then◌else◌}
use Rattle.std.specs.FinSet as set
use Rattle.serial_frame.specs.Frame.{FrameParts}
use Rattle.serial_frame.specs.declared.item.Item.{Item}
use Rattle.route_table.specs.Network.{Network, link_of}
use Rattle.route_table.specs.declared.route.Route.{Route}
use Rattle.chip_functions.specs.declared.notice.Notice.TheVariants.{ApplicationCommandHandler, ApplicationUpdate}
use Rattle.chip_functions.specs.declared.notice.Update.{Update}
use Rattle.chip_functions.specs.declared.notice.Update.TheVariants.{Received, RequestFailed}
use Rattle.chip_functions.specs.declared.notice.TransmitStatus.{TransmitStatus}
use Rattle.zw_base.specs.declared.profile.Profile.{Profile}
use Rattle.chip_sim.specs.Waiting.{PortState, queued_outs, served, ticked, ticked_outs}
use Rattle.chip_sim.specs.State.{ChipState, owed_calls}
use Rattle.chip_sim.specs.Answers.{notice_frame}
use Rattle.chip_sim.specs.Requests.{IsWay, passed, answer_outs, given, callback_frame, closed, heard, judged_frame, judged_outs, JudgedWay}
use Rattle.chip_sim.specs.declared.out.Sending.{Sending}
use Rattle.chip_sim.specs.declared.out.ChipOut.{ChipOut}

-- what happens to the chip
pub data ChipEvent : Type 0 where
  -- its link judges an item of the host; with the way of a SendData that is taken by it
  Judged : (item : Item) (way : Option Route) → ChipEvent
  -- its link counts a tick
  Ticked : ChipEvent
  -- it hears a payload of a node
  Heard : (node : ℕ) (payload : List ℕ) → ChipEvent
  -- what became of the oldest payload that it gave for the air, or of the oldest without a route
  Done : TransmitStatus → ChipEvent
  -- the information of a node came, or did not
  Informed : (node : ℕ) (profile : Option Profile) → ChipEvent
  -- a node joins
  Joined : (node : ℕ) (listening : Bool) → ChipEvent
  -- a link of its table is set
  Linked : (a b : ℕ) (live : Bool) → ChipEvent
  -- a link leaves its table
  Forgets : (a b : ℕ) → ChipEvent
  -- the next good frame is to be answered CAN
  Collides : ChipEvent

-- a collision is asked for
abbrev pub collides : ChipState → Bool
collides s = nat_lt 0 s.port.side.collisions

-- the information of a node, or that it did not come; the device classes are the same for all nodes
abbrev pub update_of : ℕ → Option Profile → Update
update_of n None = RequestFailed
update_of n (Some profile) = Received n 4 0 0 profile.classes

-- the table with a link set; a node has none to itself
abbrev pub with_link : Network → ℕ → ℕ → Bool → Network
with_link net a b false = record net { links = set.remove net.links (link_of a b) }
with_link net a b true = if nat_eq a b then net else record net { links = set.insert net.links (link_of a b) }

-- the table with a repeater, or without it
abbrev pub with_repeater : Network → ℕ → Bool → Network
with_repeater net n true = record net { repeaters = set.insert net.repeaters n }
with_repeater net n false = record net { repeaters = set.remove net.repeaters n }

-- the SendData under way ends, where its call has come
abbrev pub ended : Option Sending → ChipState → TransmitStatus → ChipState
ended None s status = s
ended (Some sending) s status = closed (given s (callback_frame sending status)) sending status

abbrev pub ended_outs : Option Sending → ChipState → TransmitStatus → List ChipOut
ended_outs None s status = []
ended_outs (Some sending) s status = queued_outs s.port (callback_frame sending status)

-- the chip after an event
abbrev pub after : ChipState → ChipEvent → ChipState
after s (Judged item way) = judged_frame (passed (collides s) item) (heard s item)
after s Ticked = record s { port = served (ticked s.port) }
after s (Heard n payload) = given s (notice_frame (ApplicationCommandHandler 0 n payload))
after s (Done status) = if s.aborted == 0 then ended s.sending s status else record s { aborted = s.aborted - 1 }
after s (Informed n profile) = given s (notice_frame (ApplicationUpdate (update_of n profile)))
after s (Joined n listening) = record s { joined = slice_set s.joined n true; listening = slice_set s.listening n listening; table = with_repeater s.table n listening }
after s (Linked a b live) = record s { table = with_link s.table a b live }
after s (Forgets a b) = record s { table = with_link s.table a b false }
after s Collides = record s { port = record s.port { side = record s.port.side { collisions = s.port.side.collisions + 1 } } }

-- what the chip puts out at an event
abbrev pub outs : ChipState → ChipEvent → List ChipOut
outs s (Judged item way) = answer_outs (collides s) item ++ judged_outs (passed (collides s) item) (heard s item) way
outs s Ticked = ticked_outs s.port
outs s (Heard n payload) = queued_outs s.port (notice_frame (ApplicationCommandHandler 0 n payload))
outs s (Done status) = if s.aborted == 0 then ended_outs s.sending s status else []
outs s (Informed n profile) = queued_outs s.port (notice_frame (ApplicationUpdate (update_of n profile)))
outs s (Joined n listening) = []
outs s (Linked a b live) = []
outs s (Forgets a b) = []
outs s Collides = []

-- a profile that an ApplicationUpdate can tell
abbrev pub FitsProfile : Option Profile → Type 0
FitsProfile None = Unit {0}
FitsProfile (Some profile) = length profile.classes ≤ 246

-- a call of `done` is to come
abbrev pub OwesCall : ChipState → Type 0
OwesCall s = (0 < s.aborted) ⊎ IsSome s.sending

-- when an event may happen
abbrev pub May : ChipState → ChipEvent → Type 0
May s (Judged item way) = JudgedWay (passed (collides s) item) (heard s item) way
May s Ticked = Unit {0}
May s (Heard n payload) = (1 ≤ length payload) × (length payload ≤ 46)
May s (Done status) = OwesCall s
May s (Informed n profile) = FitsProfile profile
May s (Joined n listening) = Unit {0}
May s (Linked a b live) = Unit {0}
May s (Forgets a b) = Unit {0}
May s Collides = Unit {0}
