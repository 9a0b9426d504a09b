-- Worked transcripts of the chip and of the air, as the program prints them, before the table at the end; those by hand, and lines
-- alone, say so.
use Rattle.std.specs.Prelude.{false, List, [], ◌∷◌, ◌++◌, codes, take}
use Rattle.zw_base.specs.declared.property.Name.TheVariants as names
use Rattle.zw_base.specs.declared.property.By.TheVariants.{Session, Local}
use Rattle.zw_words.specs.declared.side.Side.TheVariants.{Host, Chip}
use Rattle.law_transcript.specs.host_orders.Settings.{setting}
use Rattle.law_transcript.specs.device_kinds.declared.kind.Kind.TheVariants as kinds
use Rattle.law_transcript.specs.device_stack.State.{State, fresh}
use Rattle.zw_text.specs.declared.entry.Ended.TheVariants as endings
use Rattle.zw_text.specs.declared.entry.Done.TheVariants as ends
use Rattle.zw_text.specs.declared.entry.Entry.{Entry}
use Rattle.zw_text.specs.declared.entry.Entry.TheVariants.{Said, Accepted, Begin, Written, Dropped, Garbled, Air, Heard, Lost, Unheard, Dev, Forget, Out, Store, Awake, Asleep, Interviewed, InterviewFailed, Done, Neighbours, Failed, Time}
use Rattle.law_transcript.specs.Worked.{bytes, plain_exchange}

-- two routes of one repeater each; the first has lost a link, which is found and forgotten
abbrev pub rerouted : List Entry
rerouted =
    Said (codes "link 2 10") ∷ Said (codes "link 1 18") ∷ Said (codes "link 18 10") ∷ Said (codes "join 10") ∷
    Said (codes "join 18") ∷ Said (codes "interview 10") ∷ Written Host (bytes (codes "010400410AB0")) ∷
    Written Chip (bytes (codes "06")) ∷ Written Chip (bytes (codes "0109014180000004000032")) ∷
    Written Host (bytes (codes "06")) ∷ Written Host (bytes (codes "010400600A91")) ∷ Written Chip (bytes (codes "06")) ∷
    Written Chip (bytes (codes "01040160019B")) ∷ Written Host (bytes (codes "06")) ∷ Said (codes "tick 3") ∷ Time 1 ∷
    Written Chip (bytes (codes "010C0049840A0604000025856CFA")) ∷ Written Host (bytes (codes "06")) ∷ Interviewed 10 ∷
    Said (codes "unlink 2 10") ∷ Said (codes "set 10 on") ∷ Accepted 1 10 ∷ Begin 10 1 1 ∷
    Written Host (bytes (codes "010E00130A076C0101032501FF25017F")) ∷ Written Chip (bytes (codes "06")) ∷
    Written Chip (bytes (codes "0104011301E8")) ∷ Air 1 1 10 (2 ∷ []) (bytes (codes "6C0101032501FF")) ∷
    Written Host (bytes (codes "06")) ∷ Said (codes "tick 4") ∷ Time 4 ∷ Unheard 1 ∷ Forget 2 10 ∷
    Written Chip (bytes (codes "010500130101E9")) ∷ Written Host (bytes (codes "06")) ∷
    Written Host (bytes (codes "010E00130A076C0101032501FF25027C")) ∷ Written Chip (bytes (codes "06")) ∷
    Written Chip (bytes (codes "0104011301E8")) ∷ Air 2 1 10 (18 ∷ []) (bytes (codes "6C0101032501FF")) ∷
    Written Host (bytes (codes "06")) ∷ Time 5 ∷ Heard 2 ∷ Dev 10 (Session 1) (setting 0 names.Switch 255) ∷
    Air 3 10 1 (18 ∷ []) (bytes (codes "6C0201FF00")) ∷ Written Chip (bytes (codes "010500130200EB")) ∷
    Written Host (bytes (codes "06")) ∷ Time 6 ∷ Heard 3 ∷ Written Chip (bytes (codes "010B0004000A056C0201FF006F")) ∷
    Written Host (bytes (codes "06")) ∷ Out 1 endings.Success ∷ Store 10 (setting 0 names.Switch 255) ∷ []

-- `unlink 1 2`, `discover`, `set 2 on`, `tick 1`: the chip knows no route
abbrev pub unroutable : List Entry
unroutable =
    Said (codes "unlink 1 2") ∷ Said (codes "discover") ∷ Written Host (bytes (codes "01030002FE")) ∷
    Written Chip (bytes (codes "06")) ∷
    Written Chip (bytes (codes "0125010205001D03000000000000000000000000000000000000000000000000000000000700C5")) ∷
    Written Host (bytes (codes "06")) ∷ Said (codes "set 2 on") ∷ Accepted 1 2 ∷ Begin 2 1 1 ∷
    Written Host (bytes (codes "010E001302076C0101032501FF250177")) ∷ Written Chip (bytes (codes "06")) ∷
    Written Chip (bytes (codes "0104011301E8")) ∷ Written Host (bytes (codes "06")) ∷ Said (codes "tick 1") ∷ Time 1 ∷
    Written Chip (bytes (codes "010500130104EC")) ∷ Written Host (bytes (codes "06")) ∷
    Written Host (bytes (codes "010E001302076C0101032501FF250274")) ∷ Written Chip (bytes (codes "06")) ∷
    Written Chip (bytes (codes "0104011301E8")) ∷ Written Host (bytes (codes "06")) ∷ []

-- `join 5`, `interview 5`, `tick 1`: a node without a link does not tell its information
abbrev pub untold : List Entry
untold =
    Said (codes "join 5") ∷ Said (codes "interview 5") ∷ Written Host (bytes (codes "0104004105BF")) ∷
    Written Chip (bytes (codes "06")) ∷ Written Chip (bytes (codes "01090141000000040000B2")) ∷
    Written Host (bytes (codes "06")) ∷ Written Host (bytes (codes "01040060059E")) ∷ Written Chip (bytes (codes "06")) ∷
    Written Chip (bytes (codes "01040160019B")) ∷ Written Host (bytes (codes "06")) ∷ Said (codes "tick 1") ∷ Time 1 ∷
    Written Chip (bytes (codes "0106004981000031")) ∷ Written Host (bytes (codes "06")) ∷ InterviewFailed 5 ∷ []

-- `link 1 5`, `join 5`, `wake 5`, `interview 5`, `tick 2`, `get 5`, `tick 1`: a sensor that sleeps does not hear
abbrev pub asleep : List Entry
asleep =
    Said (codes "link 1 5") ∷ Said (codes "join 5") ∷ Said (codes "wake 5") ∷ Air 1 5 1 [] (bytes (codes "8407")) ∷
    Said (codes "interview 5") ∷ Written Host (bytes (codes "0104004105BF")) ∷ Written Chip (bytes (codes "06")) ∷
    Written Chip (bytes (codes "01090141000000040000B2")) ∷ Written Host (bytes (codes "06")) ∷
    Written Host (bytes (codes "01040060059E")) ∷ Written Chip (bytes (codes "06")) ∷
    Written Chip (bytes (codes "01040160019B")) ∷ Written Host (bytes (codes "06")) ∷ Said (codes "tick 2") ∷ Time 1 ∷ Heard 1 ∷
    Written Chip (bytes (codes "01080004000502840777")) ∷ Written Host (bytes (codes "06")) ∷ Awake 5 ∷
    Written Chip (bytes (codes "010D00498405070400003180846C60")) ∷ Written Host (bytes (codes "06")) ∷ Interviewed 5 ∷
    Written Host (bytes (codes "010900130502840825014A")) ∷ Written Chip (bytes (codes "06")) ∷
    Written Chip (bytes (codes "0104011301E8")) ∷ Air 2 1 5 [] (bytes (codes "8408")) ∷ Written Host (bytes (codes "06")) ∷
    Time 2 ∷ Heard 2 ∷ Written Chip (bytes (codes "010500130100E8")) ∷ Written Host (bytes (codes "06")) ∷ Asleep 5 ∷
    Said (codes "get 5") ∷ Written Host (bytes (codes "01090013050231042502F0")) ∷ Written Chip (bytes (codes "06")) ∷
    Written Chip (bytes (codes "0104011301E8")) ∷ Air 3 1 5 [] (bytes (codes "3104")) ∷ Written Host (bytes (codes "06")) ∷
    Said (codes "tick 1") ∷ Time 3 ∷ Unheard 3 ∷ Written Chip (bytes (codes "010500130201EA")) ∷
    Written Host (bytes (codes "06")) ∷ Done 5 ends.NoAck ∷ []

-- `collide`, `set 2 on`, `tick 3`, `repeat 1`: the chip answers CAN, and a frame is heard again
abbrev pub heard_twice : List Entry
heard_twice =
    Said (codes "collide") ∷ Said (codes "set 2 on") ∷ Accepted 1 2 ∷ Begin 2 1 1 ∷
    Written Host (bytes (codes "010E001302076C0101032501FF250177")) ∷ Written Chip (bytes (codes "18")) ∷ Said (codes "tick 3") ∷
    Time 1 ∷ Written Host (bytes (codes "010E001302076C0101032501FF250177")) ∷ Written Chip (bytes (codes "06")) ∷
    Written Chip (bytes (codes "0104011301E8")) ∷ Air 1 1 2 [] (bytes (codes "6C0101032501FF")) ∷
    Written Host (bytes (codes "06")) ∷ Time 2 ∷ Heard 1 ∷ Dev 2 (Session 1) (setting 0 names.Switch 255) ∷
    Air 2 2 1 [] (bytes (codes "6C0201FF00")) ∷ Written Chip (bytes (codes "010500130100E8")) ∷
    Written Host (bytes (codes "06")) ∷ Time 3 ∷ Heard 2 ∷ Written Chip (bytes (codes "010B00040002056C0201FF0067")) ∷
    Written Host (bytes (codes "06")) ∷ Out 1 endings.Success ∷ Store 2 (setting 0 names.Switch 255) ∷ Said (codes "repeat 1") ∷
    Heard 1 ∷ Air 3 2 1 [] (bytes (codes "6C0201FF00")) ∷ []

-- `unlink 1 2`, `local 2 1`, `tick 1`: a device has no way to the controller
abbrev pub cut_off : List Entry
cut_off =
    Said (codes "unlink 1 2") ∷ Said (codes "local 2 1") ∷ Dev 2 Local (setting 0 names.Switch 255) ∷
    Air 1 2 1 [] (bytes (codes "2503FF")) ∷ Said (codes "tick 1") ∷ Time 1 ∷ Lost 1 ∷ []

-- `link 2 10`, `join 10`, `discover`, `neighbours 10`, `failed 10`, `probe`: the chip is asked what it knows
abbrev pub questions : List Entry
questions =
    Said (codes "link 2 10") ∷ Said (codes "join 10") ∷ Said (codes "discover") ∷ Written Host (bytes (codes "01030002FE")) ∷
    Written Chip (bytes (codes "06")) ∷
    Written Chip (bytes (codes "0125010205001D03020000000000000000000000000000000000000000000000000000000700C7")) ∷
    Written Host (bytes (codes "06")) ∷ Said (codes "neighbours 10") ∷ Written Host (bytes (codes "010700800A00000072")) ∷
    Written Chip (bytes (codes "06")) ∷
    Written Chip (bytes (codes "0120018002000000000000000000000000000000000000000000000000000000005C")) ∷
    Written Host (bytes (codes "06")) ∷ Neighbours 10 (2 ∷ []) ∷ Said (codes "failed 10") ∷
    Written Host (bytes (codes "010400620A93")) ∷ Written Chip (bytes (codes "06")) ∷
    Written Chip (bytes (codes "010401620098")) ∷ Written Host (bytes (codes "06")) ∷ Failed 10 false ∷ Said (codes "probe") ∷
    Written Host (bytes (codes "01030015E9")) ∷ Written Chip (bytes (codes "06")) ∷
    Written Chip (bytes (codes "011001155A2D5761766520302E3030000196")) ∷ Written Host (bytes (codes "06")) ∷
    Written Host (bytes (codes "01030020DC")) ∷ Written Chip (bytes (codes "06")) ∷
    Written Chip (bytes (codes "010801200000000101D6")) ∷ Written Host (bytes (codes "06")) ∷
    Written Host (bytes (codes "01030007FB")) ∷ Written Chip (bytes (codes "06")) ∷
    Written Chip (bytes (codes "012B010701000000000000004A003480000000000101008002000080000000000000000000000000000000002F")) ∷
    Written Host (bytes (codes "06")) ∷ []

-- `set 2 on`, `drop h`, `tick 20`: the ACK of a callback is lost, so that it is written again and a report waits
abbrev pub copied : List Entry
copied =
    Said (codes "set 2 on") ∷ Accepted 1 2 ∷ Begin 2 1 1 ∷ Written Host (bytes (codes "010E001302076C0101032501FF250177")) ∷
    Written Chip (bytes (codes "06")) ∷ Written Chip (bytes (codes "0104011301E8")) ∷
    Air 1 1 2 [] (bytes (codes "6C0101032501FF")) ∷ Written Host (bytes (codes "06")) ∷ Said (codes "drop h") ∷
    Said (codes "tick 20") ∷ Time 1 ∷ Heard 1 ∷ Dev 2 (Session 1) (setting 0 names.Switch 255) ∷
    Air 2 2 1 [] (bytes (codes "6C0201FF00")) ∷ Written Chip (bytes (codes "010500130100E8")) ∷
    Written Host (bytes (codes "06")) ∷ Dropped Host ∷ Time 2 ∷ Heard 2 ∷ Time 16 ∷
    Written Chip (bytes (codes "010500130100E8")) ∷ Written Host (bytes (codes "06")) ∷
    Written Chip (bytes (codes "010B00040002056C0201FF0067")) ∷ Written Host (bytes (codes "06")) ∷ Out 1 endings.Success ∷
    Store 2 (setting 0 names.Switch 255) ∷ []

-- `garble h 3 1`, `set 2 on`, `tick 3`: a byte of the SendData is changed, and the chip answers NAK
abbrev pub garbled_frame : List Entry
garbled_frame =
    Said (codes "garble h 3 1") ∷ Said (codes "set 2 on") ∷ Accepted 1 2 ∷ Begin 2 1 1 ∷
    Written Host (bytes (codes "010E001302076C0101032501FF250177")) ∷
    Garbled Host (bytes (codes "010E001302066C0101032501FF250177")) ∷ Written Chip (bytes (codes "15")) ∷ Said (codes "tick 3") ∷
    Time 1 ∷ Written Host (bytes (codes "010E001302076C0101032501FF250177")) ∷ Written Chip (bytes (codes "06")) ∷
    Written Chip (bytes (codes "0104011301E8")) ∷ Air 1 1 2 [] (bytes (codes "6C0101032501FF")) ∷
    Written Host (bytes (codes "06")) ∷ Time 2 ∷ Heard 1 ∷ Dev 2 (Session 1) (setting 0 names.Switch 255) ∷
    Air 2 2 1 [] (bytes (codes "6C0201FF00")) ∷ Written Chip (bytes (codes "010500130100E8")) ∷
    Written Host (bytes (codes "06")) ∷ Time 3 ∷ Heard 2 ∷ Written Chip (bytes (codes "010B00040002056C0201FF0067")) ∷
    Written Host (bytes (codes "06")) ∷ Out 1 endings.Success ∷ Store 2 (setting 0 names.Switch 255) ∷ []

-- by hand: two changes are asked for, and two frames are changed, by the older first
abbrev pub changed_in_turn : List Entry
changed_in_turn =
    Said (codes "garble h 3 1") ∷ Said (codes "garble h 3 2") ∷ Written Host (bytes (codes "010E001302076C0101032501FF250177")) ∷
    Garbled Host (bytes (codes "010E001302066C0101032501FF250177")) ∷ Written Host (bytes (codes "010E001302076C0101032501FF250177")) ∷
    Garbled Host (bytes (codes "010E001302056C0101032501FF250177")) ∷ []

-- by hand: the host takes back a SendData of which the frame is on the air
abbrev pub aborted : List Entry
aborted =
    take 8 plain_exchange ++ Written Host (bytes (codes "01030016EA")) ∷ Written Chip (bytes (codes "06")) ∷
    Written Chip (bytes (codes "010500130102EA")) ∷ Written Host (bytes (codes "06")) ∷ Said (codes "tick 1") ∷ Time 1 ∷ Heard 1 ∷
    Dev 2 (Session 1) (setting 0 names.Switch 255) ∷ Air 2 2 1 [] (bytes (codes "6C0201FF00")) ∷ []

-- the devices of these runs, as their makers leave them
abbrev pub the_switches : List State
the_switches = fresh 2 kinds.Switch [] ∷ fresh 10 kinds.Switch [] ∷ fresh 18 kinds.Switch [] ∷ []

-- lines by which a node joins that hears another one alone
abbrev pub over_two : List Entry
over_two = Said (codes "link 2 10") ∷ Said (codes "join 10") ∷ []

-- lines by which a node joins before it has a link, and by which one comes to be heard over another one alone: the chip has not learned these links
abbrev pub not_learned : List Entry
not_learned = Said (codes "join 5") ∷ Said (codes "link 1 5") ∷ []

abbrev pub moved_away : List Entry
moved_away = over_two ++ Said (codes "link 1 10") ∷ Said (codes "unlink 1 2") ∷ []

-- lines by which a sensor can tell its information: it has a link, joins and is woken
abbrev pub tellable : List Entry
tellable = Said (codes "link 1 5") ∷ Said (codes "join 5") ∷ Said (codes "wake 5") ∷ []
