-- What a side does in a worked transcript, read off it: it answers the frames that come in order, ticks when it has to, and hears the rest before the line
-- or tick ends.
use Rattle.std.proofs.Common.{ℕ, ◌==◌, ◌&&◌, Bool, true, false, not, if◌then◌else◌, List, [], ◌∷◌, ◌++◌, map, length}
use Rattle.std.specs.Prelude.{◌-◌, is_some, take, drop, slice_index}
use Rattle.std.specs.List.{flat_map, list_any}
use Rattle.serial_frame.specs.Frame.{FrameParts}
use Rattle.serial_frame.specs.declared.frame.Kind.TheVariants.{Request, Response}
use Rattle.serial_frame.specs.declared.item.Item.{Item}
use Rattle.serial_frame.specs.declared.item.Item.TheVariants.{Good}
use Rattle.serial_frame.specs.declared.unit.Unit.TheVariants.{Ack, Nak, Can, Framed}
use Rattle.serial_link.specs.State.{Side as LinkSide, copy_due}
use Rattle.serial_link.specs.Rules.{Event, heard, ticked, submitted, item_of}
use Rattle.serial_link.specs.declared.turn.Turn.{Turn}
use Rattle.serial_link.specs.declared.turn.Turn.TheVariants.{Idle}
use Rattle.zw_words.specs.declared.side.Side.{Side}
use Rattle.zw_words.specs.declared.side.Side.TheVariants.{Chip}
use Rattle.zw_text.specs.declared.entry.Entry.{Entry}
use Rattle.zw_text.specs.Transcript.{same_side}
use Rattle.law_wire.specs.Serial.{SerialEvent, serial_events}
use Rattle.law_wire.specs.Serial.SerialEvent.{Line_begins, Tick_begins, Writes}
use Rattle.law_wire.specs.Links.{other, arrival_of}
use Rattle.law_wire.proofs.Machine.{first_link, link_after, renewed}

-- the frame of a unit, and the item that a good unit is
abbrev pub frame_in : List ℕ → FrameParts
frame_in unit = record {
  kind = if slice_index unit 2 == 0 then Request else Response;
  func = slice_index unit 3;
  body = drop 4 (take (length unit - 1) unit);
}

abbrev pub answer_in : ℕ → Item
answer_in byte = if byte == 6 then Good Ack else (if byte == 21 then Good Nak else Good Can)

abbrev pub item_in : List ℕ → Item
item_in unit = if length unit == 1 then answer_in (slice_index unit 0) else Good (Framed (frame_in unit))

-- the items up to the first frame, and those before it
abbrev pub is_frame : Item → Bool
is_frame (Good (Framed f)) = true
is_frame _ = false

abbrev pub up_to_frame : List Item → List Item
up_to_frame [] = []
up_to_frame (item ∷ items) = if is_frame item then item ∷ [] else item ∷ up_to_frame items

abbrev pub before_frame : List Item → List Item
before_frame [] = []
before_frame (item ∷ items) = if is_frame item then [] else item ∷ before_frame items

-- where a side stands: its link, what is ahead of it, and whether it has to tick
pub record Standing : Type 0 where
  pub link : LinkSide
  pub ahead : List Item
  pub has_to_tick : Bool

abbrev pub at_first : Standing
at_first = record { link = first_link; ahead = []; has_to_tick = false }

abbrev pub hearing : List Item → List Event
hearing items = map (λ item. heard item) items

abbrev pub ticking : Bool → List Event
ticking true = ticked ∷ []
ticking false = []

-- the chip submits at once where its link is free
abbrev pub is_free : Side → Turn → Bool
is_free Chip Idle = true
is_free _ _ = false

-- what makes it write a frame: its tick, where that writes a copy
abbrev pub acts_for_frame : Side → Standing → FrameParts → List Event
acts_for_frame side now f =
    if now.has_to_tick && is_some (copy_due now.link.turn) then ticked ∷ []
    else (if is_free side now.link.turn then submitted f ∷ [] else ticking now.has_to_tick ++ (hearing (before_frame now.ahead) ++ submitted f ∷ []))

abbrev pub acts_for : Side → Standing → List ℕ → List Event
acts_for side now unit =
    if length unit == 1 then ticking now.has_to_tick ++ hearing (up_to_frame now.ahead) else acts_for_frame side now (frame_in unit)

abbrev pub acts_at : Side → Standing → SerialEvent → List Event
acts_at side now (Writes on unit arriving lacking) = if same_side side on then acts_for side now unit else []
acts_at side now _ = ticking now.has_to_tick ++ hearing now.ahead

-- and where it stands then
abbrev pub is_tick : Event → Bool
is_tick ticked = true
is_tick _ = false

abbrev pub hearing_of : List Event → List Item
hearing_of acts = flat_map item_of acts

abbrev pub ahead_after : Side → List Item → SerialEvent → List Event → List Item
ahead_after side ahead (Writes on unit arriving lacking) acts =
    drop (length (hearing_of acts)) ahead ++ map item_in (arrival_of (other side) (Writes on unit arriving lacking))
ahead_after side ahead _ acts = []

abbrev pub has_to_tick_after : Bool → SerialEvent → List Event → Bool
has_to_tick_after before (Writes on unit arriving lacking) acts = before && not (list_any is_tick acts)
has_to_tick_after before Tick_begins acts = true
has_to_tick_after before (Line_begins line) acts = false

abbrev pub standing_after : Side → Standing → SerialEvent → List Event → Standing
standing_after side now event acts = record {
  link = renewed side event (link_after now.link acts);
  ahead = ahead_after side now.ahead event acts;
  has_to_tick = has_to_tick_after now.has_to_tick event acts;
}

abbrev pub acts_from : Side → Standing → List SerialEvent → List (List Event)
acts_from side now [] = []
acts_from side now (event ∷ events) =
    acts_at side now event ∷ acts_from side (standing_after side now event (acts_at side now event)) events

abbrev pub acts_of : Side → List Entry → List (List Event)
acts_of side transcript = acts_from side at_first (serial_events transcript)
