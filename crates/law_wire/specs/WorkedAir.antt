-- Short pasts of the air, by hand: what stands before a frame, a fate, a hearing or a forgotten hop that may stand there or may not.
use Rattle.std.specs.Prelude.{ℕ, List, [], ◌∷◌, ◌++◌, codes, take}
use Rattle.law_transcript.specs.device_kinds.declared.kind.Kind.TheVariants as kinds
use Rattle.law_transcript.specs.device_stack.State.{State, fresh}
use Rattle.zw_text.specs.declared.entry.Entry.{Entry}
use Rattle.zw_text.specs.declared.entry.Entry.TheVariants.{Said, Air, Heard, Lost, Unheard, Time}
use Rattle.law_transcript.specs.Worked.{bytes, plain_exchange, the_sensor}

-- a frame of the controller to node 2, over repeaters to node 10, and one of node 2 that tells its value
abbrev pub going_out : ℕ → Entry
going_out number = Air number 1 2 [] (bytes (codes "6C0101032501FF"))

abbrev pub going_over : List ℕ → ℕ → Entry
going_over repeaters node = Air 1 1 node repeaters (bytes (codes "6C0101032501FF"))

abbrev pub coming_home : ℕ → ℕ → Entry
coming_home number value = Air number 2 1 [] (0x25 ∷ 3 ∷ value ∷ [])

-- one of another node that tells its value, over repeaters
abbrev pub home_from : ℕ → List ℕ → Entry
home_from node repeaters = Air 1 node 1 repeaters (bytes (codes "2503FF"))

-- a line that asks for a tick, and its beginning
abbrev pub a_tick : ℕ → List Entry
a_tick number = Said (codes "tick 1") ∷ Time number ∷ []

-- ---- routes

-- node 10 hears the controller and node 2, which no longer hear each other, and the chip has learned so
abbrev pub beside : List Entry
beside = Said (codes "unlink 1 2") ∷ Said (codes "link 1 10") ∷ Said (codes "link 2 10") ∷ Said (codes "join 10") ∷ Said (codes "discover") ∷ []

abbrev pub other_switch : State
other_switch = fresh 10 kinds.Switch []

abbrev pub other_sensor : State
other_sensor = fresh 10 kinds.Sensor []

-- five nodes in a row after node 2, which all join
abbrev pub in_a_row : List Entry
in_a_row =
    Said (codes "link 2 3") ∷ Said (codes "link 3 4") ∷ Said (codes "link 4 5") ∷ Said (codes "link 5 6") ∷ Said (codes "link 6 7") ∷
    Said (codes "join 3") ∷ Said (codes "join 4") ∷ Said (codes "join 5") ∷ Said (codes "join 6") ∷ Said (codes "join 7") ∷ []

abbrev pub switches_in_a_row : List State
switches_in_a_row =
    fresh 2 kinds.Switch [] ∷ fresh 3 kinds.Switch [] ∷ fresh 4 kinds.Switch [] ∷ fresh 5 kinds.Switch [] ∷ fresh 6 kinds.Switch [] ∷ fresh 7 kinds.Switch [] ∷ []

-- node 10 hears the controller and node 2; two repeaters lead to it; and it lies after two nodes
abbrev pub near : List Entry
near = Said (codes "link 1 10") ∷ Said (codes "link 2 10") ∷ Said (codes "join 10") ∷ []

abbrev pub between_two : List Entry
between_two =
    Said (codes "link 2 10") ∷ Said (codes "link 1 18") ∷ Said (codes "link 18 10") ∷ Said (codes "join 10") ∷ Said (codes "join 18") ∷ []

abbrev pub after_two : List Entry
after_two = Said (codes "link 2 10") ∷ Said (codes "link 10 18") ∷ Said (codes "join 10") ∷ Said (codes "join 18") ∷ []

-- node 10 joins before it hears node 2: the chip has not learned that link
abbrev pub linked_late : List Entry
linked_late = Said (codes "join 10") ∷ Said (codes "link 2 10") ∷ []

-- ---- fates

-- a frame to node 2 arrives; its link was cut before it was sent, and after it
abbrev pub arriving : List Entry
arriving = going_out 1 ∷ a_tick 1

abbrev pub cut_before : List Entry
cut_before = Said (codes "unlink 1 2") ∷ going_out 1 ∷ a_tick 1

abbrev pub cut_after : List Entry
cut_after = going_out 1 ∷ Said (codes "unlink 1 2") ∷ a_tick 1

-- one of node 2 arrives; the link was not there when it was sent and is there now, and the other way round
abbrev pub home_linked_after : List Entry
home_linked_after = Said (codes "unlink 1 2") ∷ coming_home 1 255 ∷ Said (codes "link 1 2") ∷ a_tick 1

abbrev pub home_cut_after : List Entry
home_cut_after = coming_home 1 255 ∷ Said (codes "unlink 1 2") ∷ a_tick 1

-- of two frames the first was marked, and is lost
abbrev pub first_marked : List Entry
first_marked = Said (codes "lose 1") ∷ going_out 1 ∷ going_out 2 ∷ (a_tick 1 ++ Lost 1 ∷ [])

-- a frame to a sensor arrives; the sensor was woken before
abbrev pub to_sensor : List Entry
to_sensor = Said (codes "link 1 5") ∷ Said (codes "join 5") ∷ Air 1 1 5 [] (bytes (codes "3104")) ∷ a_tick 1

abbrev pub to_woken : List Entry
to_woken =
    Said (codes "link 1 5") ∷ Said (codes "join 5") ∷ Said (codes "wake 5") ∷ Air 1 5 1 [] (bytes (codes "8407")) ∷
    Air 2 1 5 [] (bytes (codes "3104")) ∷ (a_tick 1 ++ Heard 1 ∷ [])

-- it arrives when the sensor has lived a tick; with that tick one that has been still for 199 falls asleep
abbrev pub to_sensor_later : List Entry
to_sensor_later =
    Said (codes "link 1 5") ∷ Said (codes "join 5") ∷ Said (codes "tick 1") ∷ Air 1 1 5 [] (bytes (codes "3104")) ∷ a_tick 2

abbrev pub long_still : State
long_still = record the_sensor { clock = 199 }

-- ---- repeats

-- a frame that was heard is repeated, and its link has been cut; one of node 2 is; and one that was never sent
abbrev pub repeating : List Entry
repeating = arriving ++ Heard 1 ∷ Said (codes "repeat 1") ∷ []

abbrev pub cut_and_repeating : List Entry
cut_and_repeating = arriving ++ Heard 1 ∷ Said (codes "unlink 1 2") ∷ Said (codes "repeat 1") ∷ []

abbrev pub repeating_home : List Entry
repeating_home = coming_home 1 255 ∷ (a_tick 1 ++ Heard 1 ∷ Said (codes "repeat 1") ∷ [])

abbrev pub repeating_another : List Entry
repeating_another = arriving ++ Heard 1 ∷ Said (codes "repeat 9") ∷ []

-- ---- what the chip forgets

-- a frame was not heard: its link is dead; the chip has learned so already; and the frame was marked
abbrev pub unheard_after : List Entry
unheard_after = cut_after ++ Unheard 1 ∷ []

abbrev pub unheard_and_learned : List Entry
unheard_and_learned = going_out 1 ∷ Said (codes "unlink 1 2") ∷ Said (codes "discover") ∷ (a_tick 1 ++ Unheard 1 ∷ [])

abbrev pub lost_after : List Entry
lost_after = Said (codes "lose 1") ∷ going_out 1 ∷ Said (codes "unlink 1 2") ∷ (a_tick 1 ++ Lost 1 ∷ [])

-- one of node 2 was not heard, and one to a sensor that sleeps
abbrev pub unheard_at_end : List Entry
unheard_at_end = home_cut_after ++ Unheard 1 ∷ []

abbrev pub unheard_in_sleep : List Entry
unheard_in_sleep = to_sensor ++ Unheard 1 ∷ []

-- a frame over node 2 was not heard: both its links are dead; the chip has learned so of the first
abbrev pub both_dead : List Entry
both_dead =
    Said (codes "link 2 10") ∷ Said (codes "join 10") ∷ going_over (2 ∷ []) 10 ∷ Said (codes "unlink 1 2") ∷
    Said (codes "unlink 2 10") ∷ (a_tick 1 ++ Unheard 1 ∷ [])

abbrev pub first_learned : List Entry
first_learned =
    Said (codes "link 2 10") ∷ Said (codes "join 10") ∷ going_over (2 ∷ []) 10 ∷ Said (codes "unlink 1 2") ∷
    Said (codes "discover") ∷ Said (codes "unlink 2 10") ∷ (a_tick 1 ++ Unheard 1 ∷ [])

-- ---- fates in time

-- a line that asks for two ticks after the message of the plain exchange has gone on the air: it lands in neither of them, or in the second
abbrev pub never_landed : List Entry
never_landed = take 8 plain_exchange ++ Said (codes "tick 2") ∷ []

abbrev pub landed_late : List Entry
landed_late = never_landed ++ Time 2 ∷ Heard 1 ∷ []

-- after ticks without an entry a line puts a frame on the air, and the next line comes before its tick
abbrev pub still_flying : List Entry
still_flying = Said (codes "tick 3") ∷ Said (codes "local 2 1") ∷ coming_home 1 255 ∷ Said (codes "cut 0") ∷ []
