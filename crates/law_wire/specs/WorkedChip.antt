-- Short pasts of the chip, by hand: what stands before a frame that the chip writes or puts on the air, and that may stand there or may not.
use Rattle.std.specs.Prelude.{ℕ, List, [], ◌∷◌, ◌++◌, codes, replicate}
use Rattle.serial_frame.specs.Frame.{FrameParts}
use Rattle.serial_frame.specs.Items.{unit_text}
use Rattle.serial_frame.specs.declared.frame.Kind.TheVariants.{Request}
use Rattle.serial_frame.specs.declared.unit.Unit.TheVariants.{Ack, Nak, Framed}
use Rattle.law_transcript.specs.device_stack.State.{State}
use Rattle.zw_words.specs.declared.side.Side.TheVariants.{Host, Chip}
use Rattle.zw_text.specs.declared.entry.Entry.{Entry}
use Rattle.zw_text.specs.declared.entry.Entry.TheVariants.{Said, Written, Heard, Lost, Unheard, Forget}
use Rattle.law_wire.specs.Asked.{Course}
use Rattle.law_wire.specs.Answering.{MayAnswer}
use Rattle.law_wire.specs.WorkedCourses.{request, response, switching_on, taking_it, without_copies}
use Rattle.law_wire.specs.WorkedAir.{going_out, coming_home, a_tick}

-- ---- courses

-- a course in which these frames are passed up, where no more is asked of it
abbrev pub passing : List FrameParts → Course
passing passed = record { passed = passed; firsts = [] }

-- the chip is asked by a frame, and writes one that the host acknowledges
abbrev pub asks : FrameParts → List Entry
asks frame = Written Host (unit_text (Framed frame)) ∷ Written Chip (unit_text Ack) ∷ []

abbrev pub tells : FrameParts → List Entry
tells frame = Written Chip (unit_text (Framed frame)) ∷ Written Host (unit_text Ack) ∷ []

-- the chip may write a frame after a past, where these were passed up and no frame was written twice
abbrev pub MayTell : List State → List FrameParts → List Entry → FrameParts → Type 0
MayTell devices passed past frame =
    MayAnswer devices (without_copies passed (past ++ tells frame)) past (Written Chip (unit_text (Framed frame)))

-- ---- frames

-- a second SendData, one to a node that has not joined, and one with a payload of so many bytes; an abort
abbrev pub switching_again : FrameParts
switching_again = request 0x13 (codes "02076C0101032501FF2502")

abbrev pub to_a_stranger : FrameParts
to_a_stranger = request 0x13 (codes "0501002501")

abbrev pub with_payload_of : ℕ → FrameParts
with_payload_of count = record { kind = Request; func = 0x13; body = 2 ∷ count ∷ (replicate count 0 ++ 0x25 ∷ 1 ∷ []) }

abbrev pub withdrawing : FrameParts
withdrawing = request 0x16 []

-- a request for the home id with its response, one for the information of node 5, and a request that is cut short
abbrev pub asking_home : FrameParts
asking_home = request 0x20 []

abbrev pub telling_home : FrameParts
telling_home = response 0x20 (codes "0000000101")

abbrev pub asking_five : FrameParts
asking_five = request 0x60 (codes "05")

abbrev pub cut_short : FrameParts
cut_short = request 0x13 (codes "02")

-- a SendData is refused; the callback of an id with a status; a value that node 2 told
abbrev pub refusing : FrameParts
refusing = response 0x13 (codes "00")

abbrev pub called_back : ℕ → ℕ → FrameParts
called_back id status = record { kind = Request; func = 0x13; body = id ∷ status ∷ [] }

abbrev pub reported : ℕ → FrameParts
reported value = record { kind = Request; func = 0x04; body = 0 ∷ 2 ∷ 3 ∷ 0x25 ∷ 3 ∷ value ∷ [] }

-- the information of node 5, and that it did not come
abbrev pub informing : FrameParts
informing = request 0x49 (codes "8405070400003180846C")

abbrev pub not_informing : FrameParts
not_informing = request 0x49 (codes "810000")

-- ---- a SendData that has a frame

-- it is refused with NAK; it is answered, and its frame is on the air; it arrives; it is heard, lost or unheard
abbrev pub refused_whole : List Entry
refused_whole = Written Host (unit_text (Framed switching_on)) ∷ Written Chip (unit_text Nak) ∷ []

abbrev pub asked_to_send : List Entry
asked_to_send = asks switching_on ++ Written Chip (unit_text (Framed taking_it)) ∷ []

abbrev pub sent : List Entry
sent = asked_to_send ++ going_out 1 ∷ Written Host (unit_text Ack) ∷ []

abbrev pub in_flight : List Entry
in_flight = sent ++ a_tick 1

abbrev pub heard_there : List Entry
heard_there = in_flight ++ Heard 1 ∷ []

abbrev pub lost_on_its_way : List Entry
lost_on_its_way = in_flight ++ Lost 1 ∷ []

abbrev pub unheard_there : List Entry
unheard_there = in_flight ++ Unheard 1 ∷ []

-- it has been called back
abbrev pub over_and_done : List Entry
over_and_done = heard_there ++ tells (called_back 1 0)

-- it is aborted while its frame is on the air; then another one is taken, and the first frame is heard
abbrev pub aborting : List Entry
aborting = sent ++ asks withdrawing

abbrev pub withdrawn : List Entry
withdrawn = aborting ++ tells (called_back 1 2)

abbrev pub first_heard : List Entry
first_heard =
    withdrawn ++ asks switching_again ++ Written Chip (unit_text (Framed taking_it)) ∷ going_out 2 ∷ Written Host (unit_text Ack) ∷ (a_tick 1 ++ Heard 1 ∷ [])

-- its frame is heard again where a line repeats it
abbrev pub heard_once_more : List Entry
heard_once_more = over_and_done ++ Said (codes "repeat 1") ∷ Heard 1 ∷ []

-- a second request stands after the first, in the same tick
abbrev pub home_asked : List Entry
home_asked = sent ++ asks asking_home

abbrev pub home_told : List Entry
home_told = home_asked ++ Written Chip (unit_text (Framed telling_home)) ∷ []

abbrev pub asked_again : List Entry
asked_again = sent ++ asks switching_again

abbrev pub refused_again : List Entry
refused_again = asked_again ++ Written Chip (unit_text (Framed refusing)) ∷ []

-- ---- a SendData that has none

-- the chip's table has no link; a frame of node 2 is on the air too, and arrives; it is heard
abbrev pub without_a_way : List Entry
without_a_way = Forget 1 2 ∷ (asks switching_on ++ tells taking_it)

abbrev pub beside_another : List Entry
beside_another = without_a_way ++ Said (codes "local 2 1") ∷ coming_home 1 255 ∷ a_tick 1

abbrev pub another_heard : List Entry
another_heard = beside_another ++ Heard 1 ∷ tells (reported 255)

-- another SendData is refused meanwhile, and the first has been called back; it is aborted
abbrev pub refused_and_called : List Entry
refused_and_called = without_a_way ++ asks switching_again ++ tells refusing ++ a_tick 1 ++ tells (called_back 1 4)

abbrev pub withdrawn_without : List Entry
withdrawn_without = without_a_way ++ asks withdrawing ++ tells (called_back 1 2) ++ a_tick 1

-- ---- what the chip hears, and information

-- node 2 is set by hand, and the chip hears so
abbrev pub heard_home : List Entry
heard_home = Said (codes "local 2 1") ∷ coming_home 1 255 ∷ (a_tick 1 ++ Heard 1 ∷ [])

-- two such frames
abbrev pub two_heard : List Entry
two_heard = coming_home 1 255 ∷ coming_home 2 0 ∷ (a_tick 1 ++ Heard 1 ∷ Heard 2 ∷ [])

-- node 5 is asked for its information, and a tick begins
abbrev pub five_asked : List Entry
five_asked =
    Said (codes "link 1 5") ∷ Said (codes "join 5") ∷ (asks asking_five ++ tells (response 0x60 (codes "01")) ++ a_tick 1)

-- the tick shows nothing, and the next line cuts its link
abbrev pub cut_after_tick : List Entry
cut_after_tick =
    Said (codes "link 1 5") ∷ Said (codes "join 5") ∷
    (asks asking_five ++ Written Chip (unit_text (Framed (response 0x60 (codes "01")))) ∷ Said (codes "tick 1") ∷ Said (codes "unlink 1 5") ∷ Written Host (unit_text Ack) ∷ [])
