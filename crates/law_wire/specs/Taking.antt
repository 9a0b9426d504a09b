-- Which frames the controller puts on the air (Serial API: SendData): directly after the answer to a SendData that is taken stands
-- its frame, where the chip's table has a route, and nowhere else.
use Rattle.std.specs.Prelude.{◌≡◌, ℕ, ◌+◌, ◌==◌, ◌&&◌, ◌||◌, not, Bool, true, false, if◌then◌else◌, List, [], filter, length, ⊤}
use Rattle.std.specs.List.{AllByRecursion}
use Rattle.law_transcript.specs.device_sim.State.{State}
use Rattle.zw_words.specs.declared.side.Side.TheVariants.{Chip}
use Rattle.zw_text.specs.declared.entry.Entry.{Entry}
use Rattle.zw_text.specs.declared.entry.Entry.TheVariants.{Written, Dropped, Garbled, Overrun, Air, ChipFull}
use Rattle.zw_text.specs.Transcript.{folded}
use Rattle.law_transcript.specs.Lists.{EachAfter, Has}
use Rattle.law_transcript.specs.Nodes.{controller}
use Rattle.law_wire.specs.Networks.{chip_network}
use Rattle.law_wire.specs.Routes.{HasNoRoute}
use Rattle.law_wire.specs.Asked.{Course, Sending, is_ack, acks, last_sending}

-- whether an entry is an ACK of the chip
abbrev pub begins_answer : Entry → Bool
begins_answer (Written Chip unit) = is_ack unit
begins_answer _ = false

-- whether an entry may stand after it and belong to the same answer: a frame of the chip, and what becomes of it
abbrev pub goes_on : Entry → Bool
goes_on (Written Chip unit) = not (length unit == 1)
goes_on (Dropped Chip) = true
goes_on (Garbled Chip unit) = true
goes_on (Overrun Chip) = true
goes_on ChipFull = true
goes_on _ = false

-- whether the chip is still at its last answer
abbrev pub answer_step : Bool → Entry → Bool
answer_step before entry = begins_answer entry || (before && goes_on entry)

abbrev pub is_answering : List Entry → Bool
is_answering past = folded answer_step false past

-- the SendData that the last answer took, while the chip is at that answer
abbrev pub to_air : Course → List Entry → List Sending
to_air course past =
    if is_answering past then filter (λ sending. sending.place + 1 == acks past) (last_sending course past) else []

-- a SendData asks for a frame to a node
pub record AsksFor (node : ℕ) (payload : List ℕ) (sendings : List Sending) : Type 0 where
  pub sending : Sending
  pub taken : Has sendings sending
  pub to_node : sending.node ≡ node
  pub with_payload : sending.payload ≡ payload

-- where the answer is over, there is no route for a frame that was not put on the air
abbrev pub IsPassedOver : Bool → List State → Course → List Entry → Type 0
IsPassedOver true devices course past = ⊤
IsPassedOver false devices course past = AllByRecursion (λ sending. HasNoRoute (chip_network devices past) sending.node) (to_air course past)

-- a frame of the controller is one that a SendData asks for
abbrev pub IsAsked : Bool → List State → Course → List Entry → ℕ → List ℕ → Type 0
IsAsked true devices course past receiver payload = AsksFor receiver payload (to_air course past)
IsAsked false devices course past receiver payload = IsPassedOver false devices course past

abbrev pub MayAir : List State → Course → List Entry → Entry → Type 0
MayAir devices course past (Air frame sender receiver repeaters payload) =
    IsAsked (sender == controller) devices course past receiver payload
MayAir devices course past entry = IsPassedOver (goes_on entry) devices course past

abbrev pub AirsWhatIsTaken : List State → Course → List Entry → Type 0
AirsWhatIsTaken devices course transcript = EachAfter (MayAir devices course) [] transcript
