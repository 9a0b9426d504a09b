-- What happened to the devices of worked transcripts, the records of a plain exchange, small transcripts of devices, and others with one thing wrong.
use Rattle.std.specs.Prelude.{ℕ, true, false, List, [], ◌∷◌, ◌++◌, map, codes, replicate, take, drop, Option, Some, None}
use Rattle.zw_base.specs.declared.property.Name.TheVariants as names
use Rattle.zw_base.specs.declared.property.Setting.{Setting}
use Rattle.zw_base.specs.declared.property.By.TheVariants.{Local}
use Rattle.zw_base.specs.declared.order.Word.TheVariants.{On}
use Rattle.zw_base.specs.declared.order.What.TheVariants.{Value}
use Rattle.encap.specs.declared.plan.Outer.TheVariants.{None as no_outer}
use Rattle.host_orders.specs.Settings.{setting}
use Rattle.device_sim.specs.State.{State}
use Rattle.device_sim.specs.Event.{DeviceEvent}
use Rattle.device_sim.specs.Event.DeviceEvent.{Hears, Ticks, Wakes, Sets}
use Rattle.host_keep.specs.declared.final_status.FinalStatus.{FinalStatus}
use Rattle.host_keep.specs.declared.final_status.FinalStatus.TheVariants.{Fail, Success}
use Rattle.host_keep.specs.declared.record.Record.{Record}
use Rattle.host_keep.specs.declared.record.Record.TheVariants as records
use Rattle.host_keep.specs.Kept.{KeptNode, Interview, blank_node, kept_of, node_of}
use Rattle.zw_text.specs.declared.entry.Entry.{Entry}
use Rattle.zw_text.specs.declared.entry.Entry.TheVariants.{Said, Air, Heard, Dev, Time, TableEnd, TableNode, TableValue, Device}
use Rattle.law_transcript.specs.Devices.{after_events}
use Rattle.law_transcript.specs.Worked.{bytes, plain_exchange, network_key, the_switch, the_sensor, the_lock}

-- a tick, and a payload that is heard; nothing is drawn
abbrev pub tick : DeviceEvent
tick = Ticks []

abbrev pub hear : List ℕ → DeviceEvent
hear digits = Hears (bytes digits) []

-- the switch hears the message
abbrev pub one_heard : List DeviceEvent
one_heard = hear (codes "6C0101032501FF") ∷ []

-- and two ticks pass
abbrev pub switch_events : List DeviceEvent
switch_events = hear (codes "6C0101032501FF") ∷ tick ∷ tick ∷ []

-- the switch hears the message twice; it hears two messages; and it hears one, in a run of four ticks
abbrev pub repeated_events : List DeviceEvent
repeated_events =
    hear (codes "6C0101032501FF") ∷ tick ∷ hear (codes "6C0101032501FF") ∷ tick ∷ tick ∷ tick ∷ []

abbrev pub lossy_events : List DeviceEvent
lossy_events =
    tick ∷ tick ∷ tick ∷ tick ∷ tick ∷ hear (codes "6C0101032501FF") ∷ tick ∷ tick ∷ hear (codes "6C010203250100") ∷ tick ∷ tick ∷ tick ∷ []

abbrev pub restarted_events : List DeviceEvent
restarted_events =
    hear (codes "6C0101032501FF") ∷ tick ∷ tick ∷ tick ∷ tick ∷ []

-- a configurable device hears a message in two segments
abbrev pub cut_events : List DeviceEvent
cut_events =
    tick ∷ tick ∷ hear (codes "55C02F106C01012B70070000250101010101010101010101010101010101010101010101010101010101014E7A") ∷ tick
    ∷ hear (codes "55E02F102701010101010101018A77") ∷ tick ∷ tick ∷ tick ∷ []

-- the sensor is woken twice, told twice that there is no more, and set once, in nine ticks
abbrev pub sensor_events : List DeviceEvent
sensor_events =
    Wakes ∷ tick ∷ hear (codes "8408") ∷ tick ∷ tick ∷ tick ∷ Wakes ∷ tick ∷ hear (codes "6C010106840400012C01") ∷ tick ∷ tick
    ∷ hear (codes "8408") ∷ tick ∷ tick ∷ []

-- the lock of these runs, which has the network key
abbrev pub the_keyed_lock : State
the_keyed_lock = record the_lock { key = network_key }

-- what the host sealed for it
abbrev pub sealed_set : List ℕ
sealed_set = bytes (codes "98816B71E54E0F8EE3186CCEA9D132AB2C95018A573A88D6BE287E")

-- it is asked for a nonce, which it draws, and again, where it gives the same one; up to what the host sealed
abbrev pub lock_begins : List DeviceEvent
lock_begins =
    replicate 2 tick ++ (Hears (bytes (codes "9840")) (bytes (codes "01ED7E19638089D9")) ∷ replicate 101 tick) ++ (hear (codes "9840") ∷ replicate 2 tick)

-- and after that: it is given a nonce, for which it seals its report under one that it draws, and hears again what was sealed
abbrev pub lock_goes_on : List DeviceEvent
lock_goes_on =
    replicate 2 tick ++ (Hears (bytes (codes "9880019E0A1249BB594F")) (bytes (codes "0AED115731C616E7")) ∷ replicate 6 tick) ++ Hears sealed_set [] ∷ []

abbrev pub lock_events : List DeviceEvent
lock_events = lock_begins ++ Hears sealed_set [] ∷ lock_goes_on

-- the records of the plain exchange
abbrev pub plain_records : List Record
plain_records =
    records.Accepted 1 (record { node = 2; end = 0; what = Value On }) ∷ records.Begun 2 1 1 ∷ records.Final 2 1 Success ∷ []

-- what is kept of the switch by these records
abbrev pub plain_kept : KeptNode
plain_kept = node_of (kept_of plain_records) 2

-- ---- tables

-- the table with the switch alone: the clock, the commands of its sessions, and its value, which is confirmed
abbrev pub switch_table : ℕ → List ℕ → ℕ → List Entry
switch_table clock commands value =
    TableEnd clock ∷ TableNode 2 commands ∷ TableValue 2 (record { end = 0; name = names.Switch }) (Some value) None
    ∷ Device 2 (setting 0 names.Switch value) ∷ []

-- the table with the device of another node alone, which had one command: what was confirmed of it, and what it shows; node 2 has no device
abbrev pub table_with : ℕ → ℕ → List Setting → List Setting → List Entry
table_with clock node confirmed shown =
    TableEnd clock ∷ TableNode 2 [] ∷ TableNode node (1 ∷ [])
    ∷ (map (λ setting. TableValue node setting.property (Some setting.value) None) confirmed ++ map (Device node) shown)

-- ---- by lines alone

-- `local 2 1`: a switch is turned on by hand, and tells it
abbrev pub by_hand : List Entry
by_hand = Said (codes "local 2 1") ∷ Dev 2 Local (setting 0 names.Switch 255) ∷ Air 1 2 1 [] (bytes (codes "2503FF")) ∷ []

abbrev pub hand_events : List DeviceEvent
hand_events = Sets 1 ∷ []

-- `tick 1`: a tick passes
abbrev pub one_tick : List Entry
one_tick = Said (codes "tick 1") ∷ []

-- `wake 5`, `join 5`: a sensor that has not joined is woken, and says so on no air
abbrev pub woken_apart : List Entry
woken_apart = Said (codes "wake 5") ∷ Said (codes "join 5") ∷ []

-- and `wake 5` again: now it says so on the air
abbrev pub woken_joined : List Entry
woken_joined =
    Said (codes "wake 5") ∷ Said (codes "link 1 5") ∷ Said (codes "join 5") ∷ Said (codes "wake 5") ∷ Air 1 5 1 [] (bytes (codes "8407")) ∷ []

-- a switch that was at work when the run began is done in its tick, and tells the host so
abbrev pub switch_at_work : State
switch_at_work = record the_switch {
  sessions = record the_switch.sessions { taken = 1 };
  work_left = 1;
  work = record {
    settings = [];
    answer = Some (record { batch = false; session = Some (record { updates = false; id = 1 }); channel = None; outer = no_outer });
  };
}

abbrev pub worked_out : List Entry
worked_out = Said (codes "tick 1") ∷ Time 1 ∷ Air 1 2 1 [] (bytes (codes "6C0201FF00")) ∷ []

-- a sensor that is asleep
abbrev pub sleeping_sensor : State
sleeping_sensor = record the_sensor { awake = false }

-- ---- what is kept of nodes

-- the switch, with its one session ended so
abbrev pub kept_ended : Option FinalStatus → KeptNode
kept_ended ended = record plain_kept { sessions = record { command = 1; ended = ended } ∷ [] }

-- what an interview of the sensor said, and what is kept of the sensor of the sleeping node with such an interview
abbrev pub sensor_said : Interview
sensor_said = record { listens = false; classes = 0x31 ∷ 0x80 ∷ 0x84 ∷ 0x6C ∷ [] }

abbrev pub kept_sensor : Option Interview → KeptNode
kept_sensor interview = record {
  joined = true;
  interview = interview;
  waiting = 2 ∷ [];
  sessions = record { command = 1; ended = Some Success } ∷ [];
  given = 0;
  live = None;
  seen = 0;
}

-- `wake 5`, `tick 1`: a sensor that has not joined is woken before the tick
abbrev pub woken_then_ticked : List Entry
woken_then_ticked = Said (codes "wake 5") ∷ Said (codes "tick 1") ∷ []

-- ---- with one thing wrong

-- a line turns the switch off by hand, and a message that turns it off is heard
abbrev pub set_otherwise : List Entry
set_otherwise = Said (codes "local 2 0") ∷ []

abbrev pub heard_otherwise : List Entry
heard_otherwise = Air 1 1 2 [] (bytes (codes "6C010103250100")) ∷ Heard 1 ∷ []

-- a line sets the switch of another node by hand, or wakes another node, and a message to another node is heard
abbrev pub set_elsewhere : List Entry
set_elsewhere = Said (codes "local 3 1") ∷ []

abbrev pub woken_elsewhere : List Entry
woken_elsewhere = Said (codes "wake 6") ∷ []

abbrev pub heard_elsewhere : List Entry
heard_elsewhere = Air 1 1 3 [] (bytes (codes "6C0101032501FF")) ∷ Heard 1 ∷ []

-- the switch that was turned on by hand has fallen asleep
abbrev pub gone_asleep : State
gone_asleep = record (after_events the_switch hand_events) { awake = false }

-- no line turns the switch on
abbrev pub not_by_hand : List Entry
not_by_hand = drop 1 by_hand

-- the plain exchange without the entry of the change
abbrev pub unshown : List Entry
unshown = take 11 plain_exchange ++ drop 12 plain_exchange

-- what is kept says that the switch has not joined, was not interviewed, waits for its command, carries another one, and that it failed
abbrev pub kept_apart : KeptNode
kept_apart = record plain_kept { joined = false }

abbrev pub kept_unknown : KeptNode
kept_unknown = record plain_kept { interview = None }

abbrev pub kept_waiting : KeptNode
kept_waiting = record plain_kept { waiting = 1 ∷ [] }

abbrev pub kept_otherwise : KeptNode
kept_otherwise = record plain_kept { sessions = record { command = 2; ended = Some Success } ∷ [] }

abbrev pub kept_failed : KeptNode
kept_failed = kept_ended (Some Fail)

-- an interview is kept of a node that has not joined
abbrev pub kept_stranger : KeptNode
kept_stranger = record blank_node { interview = Some sensor_said }

-- the switch does not tell that it was turned on
abbrev pub kept_silent : List Entry
kept_silent = take 2 by_hand

-- a sensor that has joined is woken, and does not say so
abbrev pub woken_silent : List Entry
woken_silent = take 4 woken_joined
