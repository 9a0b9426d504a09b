-- What the links of worked transcripts heard and wrote, step by step, and what they passed up.
use Rattle.std.specs.Prelude.{ℕ, ◌==◌, not, true, false, List, [], ◌∷◌, map, length, codes}
use Rattle.serial_frame.specs.Frame.{FrameParts}
use Rattle.serial_frame.specs.declared.frame.Kind.TheVariants.{Request, Response}
use Rattle.serial_frame.specs.declared.unit.Unit.TheVariants.{Ack, Can, Framed}
use Rattle.serial_frame.specs.declared.item.Item.TheVariants.{Good}
use Rattle.serial_link.specs.Rules.{Step, heard, ticked}
use Rattle.serial_link.specs.Calls.{submit_step}
use Rattle.serial_link.specs.declared.out.LinkOut.TheVariants.{Write, Got, Sent}
use Rattle.zw_words.specs.declared.side.Side.TheVariants.{Chip}
use Rattle.zw_text.specs.declared.entry.Entry.{Entry}
use Rattle.zw_text.specs.Transcript.{written}
use Rattle.law_transcript.specs.Worked.{bytes}
use Rattle.law_wire.specs.Asked.{Course}

-- a request and a response with these bodies, in hex digits
abbrev pub request : ℕ → List ℕ → FrameParts
request function digits = record { kind = Request; func = function; body = bytes digits }

abbrev pub response : ℕ → List ℕ → FrameParts
response function digits = record { kind = Response; func = function; body = bytes digits }

-- a good frame is heard, and answered ACK; an ACK is heard, for a frame under way; a tick with which nothing is written
abbrev pub hears_frame : FrameParts → Step
hears_frame frame = record { event = heard (Good (Framed frame)); outs = Write Ack ∷ Got frame ∷ [] }

abbrev pub hears_ack : Step
hears_ack = record { event = heard (Good Ack); outs = Sent ∷ [] }

abbrev pub quiet_tick : Step
quiet_tick = record { event = ticked; outs = [] }

-- the frames of the plain exchange: a SendData, its response, its callback, and the report of the switch
abbrev pub switching_on : FrameParts
switching_on = request 0x13 (codes "02076C0101032501FF2501")

abbrev pub taking_it : FrameParts
taking_it = response 0x13 (codes "01")

abbrev pub calling_back : FrameParts
calling_back = request 0x13 (codes "0100")

abbrev pub reporting : FrameParts
reporting = request 0x04 (codes "0002056C0201FF00")

-- the chip's link in the plain exchange
abbrev pub chip_history : List Step
chip_history =
    hears_frame switching_on ∷ submit_step taking_it ∷ hears_ack ∷ submit_step calling_back ∷ quiet_tick ∷ hears_ack
    ∷ submit_step reporting ∷ quiet_tick ∷ hears_ack ∷ []

-- ---- courses in which no frame of the chip is written twice

abbrev pub without_copies : List FrameParts → List Entry → Course
without_copies passed transcript = record { passed = passed; firsts = map (λ unit. not (length unit == 1)) (written Chip transcript) }

-- the frames that the chip passes up where no route is there, and where a node has no link
abbrev pub passed_in_unroutable : List FrameParts
passed_in_unroutable = request 0x02 [] ∷ switching_on ∷ request 0x13 (codes "02076C0101032501FF2502") ∷ []

abbrev pub passed_in_untold : List FrameParts
passed_in_untold = request 0x41 (codes "05") ∷ request 0x60 (codes "05") ∷ []

-- where a sensor falls asleep, where the host starts again, and where it takes a SendData back
abbrev pub passed_in_asleep : List FrameParts
passed_in_asleep =
    request 0x41 (codes "05") ∷ request 0x60 (codes "05") ∷ request 0x13 (codes "050284082501") ∷ request 0x13 (codes "050231042502") ∷ []

abbrev pub passed_in_restarted : List FrameParts
passed_in_restarted =
    switching_on ∷ switching_on ∷ request 0x13 (codes "02076C0101032501FF2502") ∷ request 0x13 (codes "02076C0101032501FF2503") ∷ []

abbrev pub passed_in_aborted : List FrameParts
passed_in_aborted = switching_on ∷ request 0x16 [] ∷ []

-- in the worked transcripts of hosts and nodes
abbrev pub passed_in_repeated : List FrameParts
passed_in_repeated =
    request 0x13 (codes "02076C0101032501FF2501") ∷ request 0x13 (codes "02076C0101032501FF2502") ∷ []

abbrev pub passed_in_lossy : List FrameParts
passed_in_lossy =
    request 0x13 (codes "02076C0101032501FF2501") ∷ request 0x13 (codes "02076C0101032501FF2502")
    ∷ request 0x13 (codes "02076C0101032501FF2503") ∷ request 0x13 (codes "02076C0101032501FF2504")
    ∷ request 0x13 (codes "02076C0102032501002505") ∷ []

abbrev pub passed_in_cancelled : List FrameParts
passed_in_cancelled =
    request 0x13 (codes "02076C0101032501FF2501") ∷ []

abbrev pub passed_in_sleeping : List FrameParts
passed_in_sleeping =
    request 0x41 (codes "05") ∷ request 0x60 (codes "05") ∷ request 0x13 (codes "050284082501")
    ∷ request 0x13 (codes "050A6C010106840400012C012502") ∷ request 0x13 (codes "050284082503") ∷ []

abbrev pub passed_in_sealed : List FrameParts
passed_in_sealed =
    request 0x41 (codes "04") ∷ request 0x60 (codes "04") ∷ request 0x13 (codes "040298402501") ∷ request 0x13 (codes "040298402502")
    ∷ request 0x13 (codes "041B98816B71E54E0F8EE3186CCEA9D132AB2C95018A573A88D6BE287E2503")
    ∷ request 0x13 (codes "040A9880019E0A1249BB594F2504") ∷ []

abbrev pub passed_in_cut : List FrameParts
passed_in_cut =
    request 0x41 (codes "08") ∷ request 0x60 (codes "08")
    ∷ request 0x13 (codes "082D55C02F106C01012B70070000250101010101010101010101010101010101010101010101010101010101014E7A2501")
    ∷ request 0x13 (codes "080F55E02F102701010101010101018A772502") ∷ []

-- where the chip is asked what it knows
abbrev pub passed_in_questions : List FrameParts
passed_in_questions =
    request 0x02 [] ∷ request 0x80 (codes "0A000000") ∷ request 0x62 (codes "0A") ∷ request 0x15 [] ∷ request 0x20 [] ∷ request 0x07 [] ∷ []

-- ---- a course in which the callback is written twice

abbrev pub copied_course : Course
copied_course = record { passed = switching_on ∷ []; firsts = false ∷ true ∷ true ∷ false ∷ true ∷ [] }

-- the same as steps of the chip's link: the copy is written with a tick
abbrev pub copied_history : List Step
copied_history =
    hears_frame switching_on ∷ submit_step taking_it ∷ hears_ack ∷ submit_step calling_back ∷ record { event = ticked; outs = Write (Framed calling_back) ∷ [] } ∷ hears_ack
    ∷ submit_step reporting ∷ []

-- a frame that is answered CAN is not passed up
abbrev pub collided_history : List Step
collided_history = record { event = heard (Good (Framed switching_on)); outs = Write Can ∷ [] } ∷ []
