-- The history of the air that a transcript shows, and that the machine keeps the same (this project's own rule).
use Rattle.std.specs.Prelude.{◌≡◌, ◌≢◌, ℕ, ◌-◌, ◌==◌, false, if◌then◌else◌, List, [], ◌∷◌, ◌++◌, length, replicate}
use Rattle.std.specs.List.{AllByRecursion}
use Rattle.air_frames.specs.declared.frame.Departure.{Departure}
use Rattle.air_frames.specs.declared.frame.Heading.TheVariants.{Outward, Homeward}
use Rattle.air_frames.specs.History.{Mark, Goes, Begins, begins_in, IsOf}
use Rattle.proof_walk.specs.mesh_sim.declared.event.AirEvent.{AirEvent}
use Rattle.proof_walk.specs.mesh_sim.declared.event.AirEvent.TheVariants as air_event
use Rattle.proof_walk.specs.mesh_sim.Air.{no_route, is_joined}
use Rattle.zw_text.specs.declared.entry.Entry.{Entry}
use Rattle.zw_text.specs.declared.entry.Entry.TheVariants.{Air, Begin}
use Rattle.zw_text.specs.Transcript.{folded}
use Rattle.law_wire.specs.law_transcript.Nodes.{controller}
use Rattle.proof_walk.specs.outside_model.State.{Outside}
use Rattle.proof_walk.specs.Outside.{Pending, Judging, Dealing}

-- ---- what a transcript shows

-- a frame with these ends; over which route, and whether it arrives, is left out
abbrev pub departure_of : ℕ → ℕ → List ℕ → Departure
departure_of sender receiver payload = record {
  node = if receiver == controller then sender else receiver;
  heading = if receiver == controller then Homeward else Outward;
  route = no_route;
  lost = false;
  payload = payload;
}

-- one entry more: a frame, or as many sessions of a node as its number says
abbrev pub mark_step : List Mark → Entry → List Mark
mark_step log (Air frame sender receiver repeaters payload) = log ++ Goes (departure_of sender receiver payload) ∷ []
mark_step log (Begin node session command) = log ++ replicate (session - begins_in node log) (Begins node)
mark_step log _ = log

abbrev pub log_of : List Entry → List Mark
log_of past = folded mark_step [] past

-- ---- what the air keeps

-- a history without routes and without what arrives
abbrev pub plain : Departure → Departure
plain departure = record departure { route = no_route; lost = false }

abbrev pub plain_mark : Mark → Mark
plain_mark (Goes departure) = Goes (plain departure)
plain_mark (Begins node) = Begins node

abbrev pub plain_log : List Mark → List Mark
plain_log [] = []
plain_log (mark ∷ log) = plain_mark mark ∷ plain_log log

-- the frames that are still to be entered
abbrev pub sent_marks : List AirEvent → List Mark
sent_marks [] = []
sent_marks (air_event.Sent frame from to route payload ∷ events) = Goes (departure_of from to payload) ∷ sent_marks events
sent_marks (event ∷ events) = sent_marks events

abbrev pub pending_marks : Pending → List Mark
pending_marks (Judging ways) = []
pending_marks (Dealing events) = sent_marks events

-- no frame is of the controller alone
abbrev pub IsApart : Mark → Type 0
IsApart (Goes departure) = departure.node ≢ controller
IsApart (Begins node) = Unit {0}

-- the history that the air keeps is that of the transcript, and then what is still to be entered; the tables have a place for each node, and the
-- controller is none that joined
pub record Tie (pending : Pending) (past : List Entry) (w : Outside) : Type 0 where
  pub log : List Mark
  pub kept : IsOf log w.outer.air.frames
  pub shown : plain_log log ≡ log_of past ++ pending_marks pending
  pub apart : AllByRecursion IsApart log
  pub chip : length w.outer.chip.state.joined ≡ 233
  pub air : length w.outer.air.joined ≡ 233
  pub home : is_joined w.outer.air controller ≡ false
