-- What a tick, a wake-up and a value set by hand make of a device (this project's own kinds; Wake Up Notification is that
-- of the Z-Wave Management Command Class Specification).
use Rattle.std.specs.Prelude.{ℕ, ◌+◌, ◌-◌, ◌%◌, Bool, true, false, ◌==◌, ◌&&◌, ◌||◌, nat_lt, if◌then◌else◌, min, [], ◌∷◌, Option, None}
use Rattle.std.specs.Option.{option_map, option_to_list}
use Rattle.zw_base.specs.declared.property.Name.{Name}
use Rattle.zw_base.specs.declared.property.Name.TheVariants as names
use Rattle.zw_base.specs.declared.property.By.TheVariants.{Session, Local}
use Rattle.supervision.specs.Device.{finished}
use Rattle.supervision.specs.declared.session.TheConstants.{SUCCESS}
use Rattle.class_info.specs.declared.message.InfoMessage.{InfoMessage}
use Rattle.class_info.specs.declared.message.InfoMessage.TheVariants.{WakeUpNotification}
use Rattle.class_info.specs.InfoSpelling.{form}
use Rattle.device_kinds.specs.declared.kind.Kind.{Kind}
use Rattle.device_kinds.specs.declared.kind.Kind.TheVariants.{Configurable}
use Rattle.device_kinds.specs.Kind.{listens, main_name_of, tells}
use Rattle.device_kinds.specs.Answers.{answer_plan, worded}
use Rattle.device_stack.specs.State.{State, Outcome, silent, idle, with_change}
use Rattle.device_kinds.specs.Judging.{setting_of}
use Rattle.device_kinds.specs.Telling.{report_of}
use Rattle.device_stack.specs.Answers.{final_report}

-- ---- a tick

-- for how many ticks a device that does not listen stays awake after it was active
abbrev pub awake_ticks : ℕ
awake_ticks = 200

-- the device one tick older, and asleep if that was the last one
abbrev pub aged : State → State
aged device = record device {
  clock = device.clock + 1;
  awake = device.awake && (listens device.kind || nat_lt (device.clock + 1 - device.active_at) awake_ticks);
}

-- the work is done: its change is made, and told where that was asked for
abbrev pub works_out : State → Outcome
works_out device = record {
  device = with_change
      (record device { sessions = finished device.sessions SUCCESS; work_left = 0; work = idle })
      (Session device.sessions.taken) device.work.settings;
  replies = option_to_list (option_map (λ plan. worded (answer_plan plan) (final_report device)) device.work.answer);
}

unfoldable pub ticked : State → Outcome
ticked device =
    if device.work_left == 0 then silent (aged device)
    else if device.work_left == 1 then works_out (aged device)
    else silent (record (aged device) { work_left = device.work_left - 1 })

-- ---- a wake-up

-- a device that does not listen is awake and says so
unfoldable pub woken : State → Outcome
woken device =
    if listens device.kind then silent device
    else record { device = record device { awake = true; active_at = device.clock }; replies = form WakeUpNotification ∷ [] }

-- ---- by hand

-- the value that a number means for the main property
abbrev pub by_hand : Name → ℕ → ℕ
by_hand names.Switch value = if value == 0 then 0 else 255
by_hand names.Lock value = if value == 0 then 0 else 255
by_hand names.Level value = min value 99
by_hand names.Mode value = value % 3
by_hand _ value = value

-- whether the kind tells of it unasked: a lock tells nothing, so it need not be named
abbrev pub tells_by_hand : Kind → Bool
tells_by_hand Configurable = false
tells_by_hand _ = true

-- what it tells of its main property when that has a new value
abbrev pub main_told : State → ℕ → Option InfoMessage
main_told device value =
    if device.awake && tells_by_hand device.kind && tells device.kind (main_name_of device.kind)
    then report_of (main_name_of device.kind) value
    else None

-- the main property has the value that the number means
unfoldable pub set_by_hand : State → ℕ → Outcome
set_by_hand device value =
    let meant = by_hand (main_name_of device.kind) value in
    record {
      device = with_change device Local (setting_of 0 (main_name_of device.kind) meant ∷ []);
      replies = option_to_list (option_map (λ report. form report) (main_told device meant));
    }
