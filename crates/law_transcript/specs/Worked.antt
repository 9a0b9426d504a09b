-- Worked transcripts, in the form in which the program prints them, before the table at the end. The long message and the lines that are
-- refused were written by hand, the others are taken from scenarios.
use Rattle.std.specs.Prelude.{ℕ, List, [], ◌∷◌, ◌++◌, codes, map, replicate}
use Rattle.std.specs.List.{range_with_len}
use Rattle.zw_base.specs.declared.property.Name.{Name}
use Rattle.zw_base.specs.declared.property.Name.TheVariants as names
use Rattle.zw_base.specs.declared.property.By.TheVariants.{Session}
use Rattle.zw_words.specs.declared.side.Side.TheVariants.{Host, Chip}
use Rattle.host_orders.specs.Settings.{setting, config_settings}
use Rattle.device_sim.specs.device_kinds.declared.change.Change.{Change}
use Rattle.device_sim.specs.device_kinds.declared.kind.Kind.TheVariants as kinds
use Rattle.device_sim.specs.device_stack.State.{State, fresh}
use Rattle.zw_text.specs.declared.entry.Ended.TheVariants as endings
use Rattle.zw_text.specs.declared.entry.Refusal.TheVariants as refusals
use Rattle.zw_text.specs.declared.entry.Entry.{Entry}
use Rattle.zw_text.specs.declared.entry.Entry.TheVariants.{Said, Accepted, Refused, Begin, Written, Air, Heard, Lost, Dev, Out, Store, Old, Awake, Asleep, Interviewed, Time}
use Rattle.hex.specs.Hex.{decode_of}
use Rattle.hex.specs.declared.error.FromHexError.{FromHexError}
use Rattle.std.specs.Prelude.{Result, Ok, Err}

-- the bytes that hex digits stand for
abbrev pub bytes_by : Result (List ℕ) FromHexError → List ℕ
bytes_by (Ok bytes) = bytes
bytes_by (Err error) = []

abbrev pub bytes : List ℕ → List ℕ
bytes digits = bytes_by (decode_of digits)

-- `set 2 on`, `tick 2`: a switch is turned on
abbrev pub plain_exchange : List Entry
plain_exchange =
    Said (codes "set 2 on") ∷ Accepted 1 2 ∷ Begin 2 1 1 ∷
    Written Host (bytes (codes "010E001302076C0101032501FF250177")) ∷ Written Chip (bytes (codes "06")) ∷
    Written Chip (bytes (codes "0104011301E8")) ∷ Air 1 1 2 [] (bytes (codes "6C0101032501FF")) ∷
    Written Host (bytes (codes "06")) ∷ Said (codes "tick 2") ∷ Time 1 ∷ Heard 1 ∷
    Dev 2 (Session 1) (setting 0 names.Switch 255) ∷ Air 2 2 1 [] (bytes (codes "6C0201FF00")) ∷
    Written Chip (bytes (codes "010500130100E8")) ∷ Written Host (bytes (codes "06")) ∷ Time 2 ∷ Heard 2 ∷
    Written Chip (bytes (codes "010B00040002056C0201FF0067")) ∷ Written Host (bytes (codes "06")) ∷
    Out 1 endings.Success ∷ Store 2 (setting 0 names.Switch 255) ∷ []

-- `loseack 1`, `set 2 on`, `tick 4`: the message is heard, though not its acknowledgement, and is heard again
abbrev pub repeated_exchange : List Entry
repeated_exchange =
    Said (codes "loseack 1") ∷ Said (codes "set 2 on") ∷ Accepted 1 2 ∷ Begin 2 1 1 ∷
    Written Host (bytes (codes "010E001302076C0101032501FF250177")) ∷ Written Chip (bytes (codes "06")) ∷
    Written Chip (bytes (codes "0104011301E8")) ∷ Air 1 1 2 [] (bytes (codes "6C0101032501FF")) ∷
    Written Host (bytes (codes "06")) ∷ Said (codes "tick 4") ∷ Time 1 ∷ Heard 1 ∷
    Dev 2 (Session 1) (setting 0 names.Switch 255) ∷ Air 2 2 1 [] (bytes (codes "6C0201FF00")) ∷
    Written Chip (bytes (codes "010500130101E9")) ∷ Written Host (bytes (codes "06")) ∷
    Written Host (bytes (codes "010E001302076C0101032501FF250274")) ∷ Written Chip (bytes (codes "06")) ∷
    Written Chip (bytes (codes "0104011301E8")) ∷ Air 3 1 2 [] (bytes (codes "6C0101032501FF")) ∷
    Written Host (bytes (codes "06")) ∷ Time 2 ∷ Heard 2 ∷ Written Chip (bytes (codes "010B00040002056C0201FF0067")) ∷
    Heard 3 ∷ Air 4 2 1 [] (bytes (codes "6C0201FF00")) ∷ Written Host (bytes (codes "06")) ∷ Out 1 endings.Success ∷
    Store 2 (setting 0 names.Switch 255) ∷ Written Chip (bytes (codes "010500130200EB")) ∷
    Written Host (bytes (codes "06")) ∷ Time 3 ∷ Heard 4 ∷ Written Chip (bytes (codes "010B00040002056C0201FF0067")) ∷
    Written Host (bytes (codes "06")) ∷ Old 2 1 ∷ []

-- `lose 3`, `set 2 on`, `tick 5`, `set 2 off`, `tick 5`: three attempts are lost, and a later one brings the message
abbrev pub lossy_exchange : List Entry
lossy_exchange =
    Said (codes "lose 3") ∷ Said (codes "set 2 on") ∷ Accepted 1 2 ∷ Begin 2 1 1 ∷
    Written Host (bytes (codes "010E001302076C0101032501FF250177")) ∷ Written Chip (bytes (codes "06")) ∷
    Written Chip (bytes (codes "0104011301E8")) ∷ Air 1 1 2 [] (bytes (codes "6C0101032501FF")) ∷
    Written Host (bytes (codes "06")) ∷ Said (codes "tick 5") ∷ Time 1 ∷ Lost 1 ∷
    Written Chip (bytes (codes "010500130101E9")) ∷ Written Host (bytes (codes "06")) ∷
    Written Host (bytes (codes "010E001302076C0101032501FF250274")) ∷ Written Chip (bytes (codes "06")) ∷
    Written Chip (bytes (codes "0104011301E8")) ∷ Air 2 1 2 [] (bytes (codes "6C0101032501FF")) ∷
    Written Host (bytes (codes "06")) ∷ Time 2 ∷ Lost 2 ∷ Written Chip (bytes (codes "010500130201EA")) ∷
    Written Host (bytes (codes "06")) ∷ Written Host (bytes (codes "010E001302076C0101032501FF250375")) ∷
    Written Chip (bytes (codes "06")) ∷ Written Chip (bytes (codes "0104011301E8")) ∷
    Air 3 1 2 [] (bytes (codes "6C0101032501FF")) ∷ Written Host (bytes (codes "06")) ∷ Time 3 ∷ Lost 3 ∷
    Written Chip (bytes (codes "010500130301EB")) ∷ Written Host (bytes (codes "06")) ∷ Out 1 endings.Unanswered ∷
    Said (codes "set 2 off") ∷ Accepted 2 2 ∷ Written Host (bytes (codes "010E001302076C0101032501FF250472")) ∷
    Written Chip (bytes (codes "06")) ∷ Written Chip (bytes (codes "0104011301E8")) ∷
    Air 4 1 2 [] (bytes (codes "6C0101032501FF")) ∷ Written Host (bytes (codes "06")) ∷ Said (codes "tick 5") ∷
    Time 6 ∷ Heard 4 ∷ Dev 2 (Session 1) (setting 0 names.Switch 255) ∷ Air 5 2 1 [] (bytes (codes "6C0201FF00")) ∷
    Written Chip (bytes (codes "010500130400ED")) ∷ Written Host (bytes (codes "06")) ∷ Time 7 ∷ Heard 5 ∷
    Written Chip (bytes (codes "010B00040002056C0201FF0067")) ∷ Written Host (bytes (codes "06")) ∷
    Out 1 endings.Success ∷ Store 2 (setting 0 names.Switch 255) ∷ Begin 2 2 2 ∷
    Written Host (bytes (codes "010E001302076C01020325010025058F")) ∷ Written Chip (bytes (codes "06")) ∷
    Written Chip (bytes (codes "0104011301E8")) ∷ Air 6 1 2 [] (bytes (codes "6C010203250100")) ∷
    Written Host (bytes (codes "06")) ∷ Time 8 ∷ Heard 6 ∷ Dev 2 (Session 2) (setting 0 names.Switch 0) ∷
    Air 7 2 1 [] (bytes (codes "6C0202FF00")) ∷ Written Chip (bytes (codes "010500130500EC")) ∷
    Written Host (bytes (codes "06")) ∷ Time 9 ∷ Heard 7 ∷ Written Chip (bytes (codes "010B00040002056C0202FF0064")) ∷
    Written Host (bytes (codes "06")) ∷ Out 2 endings.Success ∷ Store 2 (setting 0 names.Switch 0) ∷ []

-- `set 2 on`, `set 2 off`, `cancel 2`, `cancel 1`, `tick 2`: the second order is taken back before it begins
abbrev pub cancelled_order : List Entry
cancelled_order =
    Said (codes "set 2 on") ∷ Accepted 1 2 ∷ Begin 2 1 1 ∷
    Written Host (bytes (codes "010E001302076C0101032501FF250177")) ∷ Written Chip (bytes (codes "06")) ∷
    Written Chip (bytes (codes "0104011301E8")) ∷ Air 1 1 2 [] (bytes (codes "6C0101032501FF")) ∷
    Written Host (bytes (codes "06")) ∷ Said (codes "set 2 off") ∷ Accepted 2 2 ∷ Said (codes "cancel 2") ∷
    Out 2 endings.Cancelled ∷ Said (codes "cancel 1") ∷ Refused (refusals.NotWaiting 1) ∷ Said (codes "tick 2") ∷
    Time 1 ∷ Heard 1 ∷ Dev 2 (Session 1) (setting 0 names.Switch 255) ∷ Air 2 2 1 [] (bytes (codes "6C0201FF00")) ∷
    Written Chip (bytes (codes "010500130100E8")) ∷ Written Host (bytes (codes "06")) ∷ Time 2 ∷ Heard 2 ∷
    Written Chip (bytes (codes "010B00040002056C0201FF0067")) ∷ Written Host (bytes (codes "06")) ∷
    Out 1 endings.Success ∷ Store 2 (setting 0 names.Switch 255) ∷ []

-- `set 2 on`, `restart`, `tick 4`: the host restarts while a message is on the air
abbrev pub restarted_host : List Entry
restarted_host =
    Said (codes "set 2 on") ∷ Accepted 1 2 ∷ Begin 2 1 1 ∷
    Written Host (bytes (codes "010E001302076C0101032501FF250177")) ∷ Written Chip (bytes (codes "06")) ∷
    Written Chip (bytes (codes "0104011301E8")) ∷ Air 1 1 2 [] (bytes (codes "6C0101032501FF")) ∷
    Written Host (bytes (codes "06")) ∷ Said (codes "restart") ∷
    Written Host (bytes (codes "010E001302076C0101032501FF250177")) ∷ Written Chip (bytes (codes "06")) ∷
    Written Chip (bytes (codes "0104011300E9")) ∷ Written Host (bytes (codes "06")) ∷
    Written Host (bytes (codes "010E001302076C0101032501FF250274")) ∷ Written Chip (bytes (codes "06")) ∷
    Written Chip (bytes (codes "0104011300E9")) ∷ Written Host (bytes (codes "06")) ∷
    Written Host (bytes (codes "010E001302076C0101032501FF250375")) ∷ Written Chip (bytes (codes "06")) ∷
    Written Chip (bytes (codes "0104011300E9")) ∷ Written Host (bytes (codes "06")) ∷ Out 1 endings.Unanswered ∷
    Said (codes "tick 4") ∷ Time 1 ∷ Heard 1 ∷ Dev 2 (Session 1) (setting 0 names.Switch 255) ∷
    Air 2 2 1 [] (bytes (codes "6C0201FF00")) ∷ Written Chip (bytes (codes "010500130100E8")) ∷
    Written Host (bytes (codes "06")) ∷ Time 2 ∷ Heard 2 ∷ Written Chip (bytes (codes "010B00040002056C0201FF0067")) ∷
    Written Host (bytes (codes "06")) ∷ Out 1 endings.Success ∷ Store 2 (setting 0 names.Switch 255) ∷ []

-- `link 1 5`, `join 5`, `wake 5`, `interview 5`, `tick 4`, `interval 5 300`, `wake 5`, `tick 3`, `interval 5 600`, `tick 2`
abbrev pub sleeping_node : List Entry
sleeping_node =
    Said (codes "link 1 5") ∷ Said (codes "join 5") ∷ Said (codes "wake 5") ∷ Air 1 5 1 [] (bytes (codes "8407")) ∷
    Said (codes "interview 5") ∷ Written Host (bytes (codes "0104004105BF")) ∷ Written Chip (bytes (codes "06")) ∷
    Written Chip (bytes (codes "01090141000000040000B2")) ∷ Written Host (bytes (codes "06")) ∷
    Written Host (bytes (codes "01040060059E")) ∷ Written Chip (bytes (codes "06")) ∷
    Written Chip (bytes (codes "01040160019B")) ∷ Written Host (bytes (codes "06")) ∷ Said (codes "tick 4") ∷ Time 1 ∷
    Heard 1 ∷ Written Chip (bytes (codes "01080004000502840777")) ∷ Written Host (bytes (codes "06")) ∷ Awake 5 ∷
    Written Chip (bytes (codes "010D00498405070400003180846C60")) ∷ Written Host (bytes (codes "06")) ∷
    Interviewed 5 ∷ Written Host (bytes (codes "010900130502840825014A")) ∷ Written Chip (bytes (codes "06")) ∷
    Written Chip (bytes (codes "0104011301E8")) ∷ Air 2 1 5 [] (bytes (codes "8408")) ∷
    Written Host (bytes (codes "06")) ∷ Time 2 ∷ Heard 2 ∷ Written Chip (bytes (codes "010500130100E8")) ∷
    Written Host (bytes (codes "06")) ∷ Asleep 5 ∷ Said (codes "interval 5 300") ∷ Accepted 1 5 ∷
    Said (codes "wake 5") ∷ Air 3 5 1 [] (bytes (codes "8407")) ∷ Said (codes "tick 3") ∷ Time 5 ∷ Heard 3 ∷
    Written Chip (bytes (codes "01080004000502840777")) ∷ Written Host (bytes (codes "06")) ∷ Awake 5 ∷ Begin 5 1 1 ∷
    Written Host (bytes (codes "01110013050A6C010106840400012C01250213")) ∷ Written Chip (bytes (codes "06")) ∷
    Written Chip (bytes (codes "0104011301E8")) ∷ Air 4 1 5 [] (bytes (codes "6C010106840400012C01")) ∷
    Written Host (bytes (codes "06")) ∷ Time 6 ∷ Heard 4 ∷ Dev 5 (Session 1) (setting 0 names.Interval 300) ∷
    Air 5 5 1 [] (bytes (codes "6C0201FF00")) ∷ Written Chip (bytes (codes "010500130200EB")) ∷
    Written Host (bytes (codes "06")) ∷ Time 7 ∷ Heard 5 ∷ Written Chip (bytes (codes "010B00040005056C0201FF0060")) ∷
    Written Host (bytes (codes "06")) ∷ Out 1 endings.Success ∷ Store 5 (setting 0 names.Interval 300) ∷
    Written Host (bytes (codes "0109001305028408250348")) ∷ Written Chip (bytes (codes "06")) ∷
    Written Chip (bytes (codes "0104011301E8")) ∷ Air 6 1 5 [] (bytes (codes "8408")) ∷
    Written Host (bytes (codes "06")) ∷ Said (codes "interval 5 600") ∷ Accepted 2 5 ∷ Said (codes "tick 2") ∷
    Time 8 ∷ Heard 6 ∷ Written Chip (bytes (codes "010500130300EA")) ∷ Written Host (bytes (codes "06")) ∷ Asleep 5 ∷ []

-- `link 1 4`, `join 4`, `interview 4`, `tick 2`, `set 4 on`, `lose 1`, `tick 1`, `tick 110`, `repeat 5`: a lock
abbrev pub sealed_exchange : List Entry
sealed_exchange =
    Said (codes "link 1 4") ∷ Said (codes "join 4") ∷ Said (codes "interview 4") ∷
    Written Host (bytes (codes "0104004104BE")) ∷ Written Chip (bytes (codes "06")) ∷
    Written Chip (bytes (codes "0109014180000004000032")) ∷ Written Host (bytes (codes "06")) ∷
    Written Host (bytes (codes "01040060049F")) ∷ Written Chip (bytes (codes "06")) ∷
    Written Chip (bytes (codes "01040160019B")) ∷ Written Host (bytes (codes "06")) ∷ Said (codes "tick 2") ∷ Time 1 ∷
    Written Chip (bytes (codes "010C004984040604000062986CAE")) ∷ Written Host (bytes (codes "06")) ∷ Interviewed 4 ∷
    Said (codes "set 4 on") ∷ Accepted 1 4 ∷ Begin 4 1 1 ∷ Written Host (bytes (codes "010900130402984025011F")) ∷
    Written Chip (bytes (codes "06")) ∷ Written Chip (bytes (codes "0104011301E8")) ∷
    Air 1 1 4 [] (bytes (codes "9840")) ∷ Written Host (bytes (codes "06")) ∷ Said (codes "lose 1") ∷
    Said (codes "tick 1") ∷ Time 3 ∷ Heard 1 ∷ Air 2 4 1 [] (bytes (codes "988001ED7E19638089D9")) ∷
    Written Chip (bytes (codes "010500130100E8")) ∷ Written Host (bytes (codes "06")) ∷ Said (codes "tick 110") ∷
    Time 4 ∷ Lost 2 ∷ Time 103 ∷ Written Host (bytes (codes "010900130402984025021C")) ∷
    Written Chip (bytes (codes "06")) ∷ Written Chip (bytes (codes "0104011301E8")) ∷
    Air 3 1 4 [] (bytes (codes "9840")) ∷ Written Host (bytes (codes "06")) ∷ Time 104 ∷ Heard 3 ∷
    Air 4 4 1 [] (bytes (codes "988001ED7E19638089D9")) ∷ Written Chip (bytes (codes "010500130200EB")) ∷
    Written Host (bytes (codes "06")) ∷ Time 105 ∷ Heard 4 ∷
    Written Chip (bytes (codes "0110000400040A988001ED7E19638089D9C5")) ∷ Written Host (bytes (codes "06")) ∷
    Written Host (bytes (codes "01220013041B98816B71E54E0F8EE3186CCEA9D132AB2C95018A573A88D6BE287E25038F")) ∷
    Written Chip (bytes (codes "06")) ∷ Written Chip (bytes (codes "0104011301E8")) ∷
    Air 5 1 4 [] (bytes (codes "98816B71E54E0F8EE3186CCEA9D132AB2C95018A573A88D6BE287E")) ∷
    Written Host (bytes (codes "06")) ∷ Time 106 ∷ Heard 5 ∷ Dev 4 (Session 1) (setting 0 names.Lock 255) ∷
    Air 6 4 1 [] (bytes (codes "9840")) ∷ Written Chip (bytes (codes "010500130300EA")) ∷
    Written Host (bytes (codes "06")) ∷ Time 107 ∷ Heard 6 ∷ Written Chip (bytes (codes "0108000400040298402D")) ∷
    Written Host (bytes (codes "06")) ∷ Written Host (bytes (codes "01110013040A9880019E0A1249BB594F2504A9")) ∷
    Written Chip (bytes (codes "06")) ∷ Written Chip (bytes (codes "0104011301E8")) ∷
    Air 7 1 4 [] (bytes (codes "9880019E0A1249BB594F")) ∷ Written Host (bytes (codes "06")) ∷ Time 108 ∷ Heard 7 ∷
    Air 8 4 1 [] (bytes (codes "98810AED115731C616E72C1D6945BFE201FE761C24E5DCC41E")) ∷
    Written Chip (bytes (codes "010500130400ED")) ∷ Written Host (bytes (codes "06")) ∷ Time 109 ∷ Heard 8 ∷
    Written Chip (bytes (codes "011F000400041998810AED115731C616E72C1D6945BFE201FE761C24E5DCC41E55")) ∷
    Written Host (bytes (codes "06")) ∷ Out 1 endings.Success ∷ Store 4 (setting 0 names.Lock 255) ∷
    Said (codes "repeat 5") ∷ Heard 5 ∷ []

-- orders and other lines that are refused
abbrev pub refused_lines : List Entry
refused_lines =
    Said (codes "set 3 on") ∷ Refused refusals.NotJoined ∷ Said (codes "join 3") ∷ Said (codes "set 3 on") ∷
    Refused refusals.NotInterviewed ∷ Said (codes "set 2 40") ∷ Refused refusals.BadValue ∷ Said (codes "join 3") ∷
    Refused refusals.AlreadyJoined ∷ Said (codes "repeat 1") ∷ Refused refusals.NeverSent ∷ Said (codes "wake 7") ∷
    Refused refusals.NoDevice ∷ Said (codes "cancel 1") ∷ Refused (refusals.NotWaiting 1) ∷ Said (codes "send 3 on") ∷
    Refused refusals.NotInterviewed ∷ []

-- 37 values of node 8, as changes of the device, and as values that are confirmed
abbrev pub values_made : List Entry
values_made = map (λ number. Dev 8 (Session 1) (setting 0 (names.Config number) 1)) (range_with_len 0 37)

abbrev pub values_stored : List Entry
values_stored = map (λ number. Store 8 (setting 0 (names.Config number) 1)) (range_with_len 0 37)

-- `link 1 8`, `join 8`, `interview 8`, `tick 2`, `bulk 8 0 ..`, `tick 4`: these values, in two segments, up to where the second is heard; and all of it
abbrev pub segments_heard : List Entry
segments_heard =
    Said (codes "link 1 8") ∷ Said (codes "join 8") ∷ Said (codes "interview 8") ∷
    Written Host (bytes (codes "0104004108B2")) ∷ Written Chip (bytes (codes "06")) ∷
    Written Chip (bytes (codes "0109014180000004000032")) ∷ Written Host (bytes (codes "06")) ∷
    Written Host (bytes (codes "010400600893")) ∷ Written Chip (bytes (codes "06")) ∷
    Written Chip (bytes (codes "01040160019B")) ∷ Written Host (bytes (codes "06")) ∷ Said (codes "tick 2") ∷ Time 1 ∷
    Written Chip (bytes (codes "010C004984080604000070556C7D")) ∷ Written Host (bytes (codes "06")) ∷ Interviewed 8 ∷
    Said (codes "bulk 8 0 01010101010101010101010101010101010101010101010101010101010101010101010101") ∷
    Accepted 1 8 ∷ Begin 8 1 1 ∷
    Written Host (bytes (codes "01340013082D55C02F106C01012B70070000250101010101010101010101010101010101010101010101010101010101014E7A250152")) ∷
    Written Chip (bytes (codes "06")) ∷ Written Chip (bytes (codes "0104011301E8")) ∷
    Air 1 1 8 [] (bytes (codes "55C02F106C01012B70070000250101010101010101010101010101010101010101010101010101010101014E7A")) ∷
    Written Host (bytes (codes "06")) ∷ Said (codes "tick 4") ∷ Time 3 ∷ Heard 1 ∷
    Written Chip (bytes (codes "010500130100E8")) ∷ Written Host (bytes (codes "06")) ∷
    Written Host (bytes (codes "01160013080F55E02F102701010101010101018A7725028A")) ∷
    Written Chip (bytes (codes "06")) ∷ Written Chip (bytes (codes "0104011301E8")) ∷
    Air 2 1 8 [] (bytes (codes "55E02F102701010101010101018A77")) ∷ Written Host (bytes (codes "06")) ∷ Time 4 ∷
    Heard 2 ∷ []

abbrev pub long_message : List Entry
long_message =
    segments_heard ++ (values_made ++ Air 3 8 1 [] (bytes (codes "55E810")) ∷
    Air 4 8 1 [] (bytes (codes "6C0201FF00")) ∷ Written Chip (bytes (codes "010500130200EB")) ∷
    Written Host (bytes (codes "06")) ∷ Time 5 ∷ Heard 3 ∷ Written Chip (bytes (codes "0109000400080355E81054")) ∷
    Heard 4 ∷ Written Host (bytes (codes "06")) ∷ Written Chip (bytes (codes "010B00040008056C0201FF006D")) ∷
    Written Host (bytes (codes "06")) ∷ Out 1 endings.Success ∷ values_stored)

-- the network key of these runs
abbrev pub network_key : List ℕ
network_key = bytes (codes "000102030405060708090A0B0C0D0E0F")

-- the devices of these runs, as their makers leave them; the lock without its key, of which most laws say nothing
abbrev pub the_switch : State
the_switch = fresh 2 kinds.Switch []

abbrev pub the_sensor : State
the_sensor = fresh 5 kinds.Sensor []

abbrev pub the_lock : State
the_lock = fresh 4 kinds.Lock []

abbrev pub the_plug : State
the_plug = fresh 8 kinds.Configurable []

-- what such a device has changed
abbrev pub with_journal : State → List Change → State
with_journal device journal = record device { journal = journal }

-- the change of one property of the device itself, by a session
abbrev pub changed : ℕ → Name → ℕ → Change
changed session name value = record { by = Session session; settings = setting 0 name value ∷ [] }

abbrev pub turned_on : List Change
turned_on = changed 1 names.Switch 255 ∷ []

abbrev pub turned_on_and_off : List Change
turned_on_and_off = changed 1 names.Switch 255 ∷ changed 2 names.Switch 0 ∷ []

abbrev pub set_apart : List Change
set_apart = changed 1 names.Interval 300 ∷ []

abbrev pub secured : List Change
secured = changed 1 names.Lock 255 ∷ []

abbrev pub configured : List Change
configured = record { by = Session 1; settings = config_settings 0 0 (replicate 37 1) } ∷ []
