-- What a message does to a device, once it is out of its wraps, by the device's kind, the changes that it made and the
-- sessions that it took (this project's own kinds; the once-only rule is that of the crate supervision).
use Rattle.std.specs.Prelude.{ℕ, ◌+◌, ◌^◌, ◌<◌, ◌&&◌, not, if◌then◌else◌, List, IsTrue, Result, Ok, Err, Option, Some, None}
use Rattle.zw_base.specs.declared.property.Property.{Property}
use Rattle.supervision.specs.Device.{Taken, is_new, heard_of}
use Rattle.supervision.specs.declared.device_book.Heard.{Heard}
use Rattle.supervision.specs.declared.device_book.Heard.TheVariants.{New, Again, Old}
use Rattle.class_core.specs.declared.fault.ClassFault.{ClassFault}
use Rattle.class_core.specs.declared.message.CoreMessage.TheVariants.{SwitchBinarySet}
use Rattle.class_info.specs.declared.message.InfoMessage.{InfoMessage}
use Rattle.class_info.specs.declared.message.InfoMessage.TheVariants.{Core, WakeUpNoMoreInformation}
use Rattle.class_info.specs.InfoReading.{info_at}
use Rattle.encap.specs.Written.{only_of}
use Rattle.encap.specs.declared.plan.Plan.{Plan}
use Rattle.encap.specs.declared.plan.Ends.{Ends}
use Rattle.encap.specs.declared.plan.Supervised.{Supervised}
use Rattle.device_kinds.specs.declared.change.Change.{Change}
use Rattle.device_kinds.specs.declared.kind.Kind.{Kind}
use Rattle.device_kinds.specs.declared.verdict.Verdict.{Verdict}
use Rattle.device_kinds.specs.declared.verdict.Verdict.TheVariants.{NoSupport, Fails, Makes, Works}
use Rattle.device_kinds.specs.Kind.{listens, lists, has_end}
use Rattle.device_kinds.specs.Values.{value_after, level_after}
use Rattle.device_kinds.specs.Judging.{judged_message, judged_set}
use Rattle.device_kinds.specs.Telling.{told, IsAnswer}
use Rattle.device_kinds.specs.declared.effect.Effect.{Effect}
use Rattle.device_kinds.specs.declared.effect.Effect.TheVariants.{Ignores, Sleeps, Tells, Sets, Repeats, Takes}

-- the value of a property after changes: every one is 0 at first
abbrev pub value_in : List Change → Property → ℕ
value_in journal property = value_after journal property 0

-- the last level above 0 of a dimmer after changes: 99 per cent where there was none
abbrev pub level_in : List Change → ℕ
level_in journal = level_after journal 99

-- the end point that a message is for
abbrev pub end_of : Option Ends → ℕ
end_of (Some ends) = ends.target
end_of None = 0

-- a Set that is not supervised changes the kind alone that knows no Supervision
abbrev pub set_plainly : Kind → ℕ → Verdict → Effect
set_plainly kind end (Makes settings) = if not (lists kind 0x6C) && has_end kind end then Sets settings else Ignores
set_plainly kind end (Works settings) = Ignores
set_plainly kind end Fails = Ignores
set_plainly kind end NoSupport = Ignores

-- what a command does that asks for nothing
abbrev pub effect_untold : Kind → List Change → ℕ → InfoMessage → Effect
effect_untold kind journal end (Core (SwitchBinarySet value)) =
    set_plainly kind end (judged_set kind (value_in journal) (level_in journal) end (SwitchBinarySet value))
effect_untold kind journal end WakeUpNoMoreInformation =
    if not (listens kind) && has_end kind end then Sleeps else Ignores
effect_untold kind journal end _ = Ignores

-- what answers a Get, if anything does
abbrev pub telling : Option InfoMessage → Effect → Effect
telling (Some report) other = Tells report
telling None other = other

-- one command that is not supervised
abbrev pub effect_alone : Kind → List Change → ℕ → Result InfoMessage ClassFault → Effect
effect_alone kind journal end (Ok message) = telling (told kind (value_in journal) end message) (effect_untold kind journal end message)
effect_alone kind journal end (Err fault) = Ignores

-- commands of a session
abbrev pub effect_in_session : Kind → List Change → Plan → List (List ℕ) → Heard → Effect
effect_in_session kind journal plan commands (New session) =
    Takes (judged_message kind (value_in journal) (level_in journal) (end_of plan.channel) plan.batch commands)
effect_in_session kind journal plan commands (Again status) = Repeats status
effect_in_session kind journal plan commands Old = Ignores

-- a message: supervised it is taken once, alone it is a question; a batch that is not supervised is neither
abbrev pub effect_by : Kind → List Change → Taken → Plan → List (List ℕ) → Option Supervised → Effect
effect_by kind journal sessions plan commands (Some asked) =
    if lists kind 0x6C then effect_in_session kind journal plan commands (heard_of sessions asked.id) else Ignores
effect_by kind journal sessions plan commands None =
    if plan.batch then Ignores else effect_alone kind journal (end_of plan.channel) (info_at (only_of commands))

-- an effect that may come about: a session is taken as the next one and counted, one that is told again has its id
abbrev pub IsDue : Taken → Option Supervised → Effect → Type 0
IsDue sessions (Some asked) (Takes verdict) = IsTrue (is_new sessions asked.id) × (sessions.taken + 1 < 2 ^ 64)
IsDue sessions None (Takes verdict) = ⊥
IsDue sessions (Some asked) (Repeats status) = asked.id < 64
IsDue sessions None (Repeats status) = ⊥
IsDue sessions session (Tells report) = IsAnswer report
IsDue sessions session (Sets settings) = Unit {0}
IsDue sessions session Sleeps = Unit {0}
IsDue sessions session Ignores = Unit {0}
