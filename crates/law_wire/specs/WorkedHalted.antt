-- The plain exchange, ended by an allocation failure in its last line: when the message was heard and the change is not entered yet, and when
-- its change is entered and the answer is not on the air; and small transcripts of a sensor that sleeps, which show too much or too little.
use Rattle.std.specs.Prelude.{false, List, [], ◌∷◌, codes, take}
use Rattle.zw_base.specs.declared.property.Name.TheVariants as names
use Rattle.zw_base.specs.declared.property.By.TheVariants.{Local}
use Rattle.law_transcript.specs.host_orders.Settings.{setting}
use Rattle.law_transcript.specs.device_sim.State.{State}
use Rattle.law_transcript.specs.device_sim.Event.{DeviceEvent}
use Rattle.zw_text.specs.declared.entry.Entry.{Entry}
use Rattle.zw_text.specs.declared.entry.Entry.TheVariants.{Said, Air, Dev}
use Rattle.law_transcript.specs.Worked.{bytes, plain_exchange, the_sensor}
use Rattle.law_transcript.specs.WorkedDevices.{hear, switch_events}

abbrev pub heard_alone : List Entry
heard_alone = take 11 plain_exchange

abbrev pub not_answered : List Entry
not_answered = take 12 plain_exchange

-- what the switch has done then: it heard the message
abbrev pub events_halted : List DeviceEvent
events_halted = take 1 switch_events

-- ---- with one thing wrong

-- a sensor that sleeps; one that was active later than it has lived, and one that has lived a tick
abbrev pub sleeper : State
sleeper = record the_sensor { awake = false }

abbrev pub stirred : State
stirred = record sleeper { active_at = 1 }

abbrev pub grown_old : State
grown_old = record sleeper { clock = 1 }

-- a last line that brings a device nothing
abbrev pub quiet_line : List Entry
quiet_line = Said (codes "discover") ∷ []

-- before it a sensor is set by hand, a tick passes, and a sensor that joined is woken and does not say so
abbrev pub set_before : List Entry
set_before = Said (codes "local 5 1") ∷ quiet_line

abbrev pub ticked_before : List Entry
ticked_before = Said (codes "tick 1") ∷ quiet_line

abbrev pub woken_before : List Entry
woken_before = Said (codes "join 5") ∷ Said (codes "wake 5") ∷ quiet_line

-- in the last line a sensor is set to another value than is asked for, and one that is woken says something else
abbrev pub set_otherwise : List Entry
set_otherwise = Said (codes "local 5 1") ∷ Dev 5 Local (setting 0 names.Sensor 2) ∷ []

abbrev pub woken_otherwise : List Entry
woken_otherwise = Said (codes "join 5") ∷ Said (codes "wake 5") ∷ Air 1 5 1 [] (bytes (codes "8408")) ∷ []

-- two messages that turn a switch on and off
abbrev pub two_messages : List DeviceEvent
two_messages = hear (codes "6C0101032501FF") ∷ hear (codes "6C010203250100") ∷ []
