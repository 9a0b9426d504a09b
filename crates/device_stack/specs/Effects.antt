-- What a message makes of a device, once it is out of its wraps, and what it answers.
use Rattle.std.specs.Prelude.{ℕ, ◌+◌, false, if◌then◌else◌, Option, Some, None}
use Rattle.zw_base.specs.declared.property.By.TheVariants.{Session, Plain}
use Rattle.class_info.specs.declared.message.InfoMessage.{InfoMessage}
use Rattle.encap.specs.Opening.{Message}
use Rattle.encap.specs.declared.plan.Plan.{Plan}
use Rattle.encap.specs.declared.plan.Supervised.{Supervised}
use Rattle.transport_segments.specs.Kept.{Empty}
use Rattle.device_kinds.specs.declared.verdict.Verdict.{Verdict}
use Rattle.device_kinds.specs.declared.verdict.Verdict.TheVariants.{NoSupport, Fails, Makes, Works}
use Rattle.device_kinds.specs.Judging.{status_of}
use Rattle.device_kinds.specs.declared.effect.Effect.{Effect}
use Rattle.device_kinds.specs.declared.effect.Effect.TheVariants.{Ignores, Sleeps, Tells, Sets, Repeats, Takes}
use Rattle.device_kinds.specs.Effects.{effect_by}
use Rattle.device_stack.specs.State.{State, with_change}
use Rattle.device_stack.specs.Answers.{status_report}

-- how many ticks the work of a dimmer takes
abbrev pub work_ticks : ℕ
work_ticks = 5

-- what a message does to the device
unfoldable pub effect_of : State → Message → Effect
effect_of device message = effect_by device.kind device.journal device.sessions message.plan message.commands message.plan.session

-- the device once the next session is taken with that verdict, but for what its commands make
abbrev pub session_taken : State → Verdict → State
session_taken device verdict = record device {
  sessions = record { taken = device.sessions.taken + 1; status = status_of verdict };
  reassembly = Empty;
}

-- where the end of the work is to be told, the wraps of what asked for it
abbrev pub late_answer : Plan → Supervised → Option Plan
late_answer plan asked = if asked.updates then Some plan else None

-- the device after it took the next session with that verdict
abbrev pub takes : State → Plan → Supervised → Verdict → State
takes device plan asked (Makes settings) =
    with_change (session_taken device (Makes settings)) (Session (device.sessions.taken + 1)) settings
takes device plan asked (Works settings) =
    record (session_taken device (Works settings)) { work_left = work_ticks; work = record { settings = settings; answer = late_answer plan asked } }
takes device plan asked Fails = session_taken device Fails
takes device plan asked NoSupport = session_taken device NoSupport

-- the device after what a message does to it
abbrev pub after_effect : State → Plan → Effect → State
after_effect device plan Ignores = device
after_effect device plan Sleeps = record device { awake = false }
after_effect device plan (Tells report) = device
after_effect device plan (Sets settings) = with_change device Plain settings
after_effect device plan (Repeats status) = device
after_effect device plan (Takes verdict) = taken_by plan.session
  where
    taken_by : Option Supervised → State
    taken_by (Some asked) = takes device plan asked verdict
    taken_by None = device

-- what answers a message with this plan: the report of a status
abbrev pub status_answer : State → Option Supervised → ℕ → Option InfoMessage
status_answer device (Some asked) status = Some (status_report device asked status)
status_answer device None status = None

-- what it answers then, out of wraps
abbrev pub answer_of : State → Plan → Effect → Option InfoMessage
answer_of device plan Ignores = None
answer_of device plan Sleeps = None
answer_of device plan (Tells report) = Some report
answer_of device plan (Sets settings) = None
answer_of device plan (Repeats status) = status_answer device plan.session status
answer_of device plan (Takes verdict) = status_answer device plan.session (status_of verdict)
