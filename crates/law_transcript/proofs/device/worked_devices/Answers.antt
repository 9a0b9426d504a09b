use Rattle.std.proofs.Common.{◌≡◌, ℕ, List, [], ◌∷◌, ◌++◌, ◌∙◌, refl, ap, sym}
use Rattle.std.specs.Prelude.{Some, None, codes, take, drop}
use Rattle.std.specs.List.{flat_map}
use Rattle.std.proofs.lemmas.List.{append_assoc}
use Rattle.zw_base.specs.declared.property.Name.TheVariants as names
use Rattle.zw_base.specs.declared.property.By.TheVariants.{Local}
use Rattle.host_orders.specs.Settings.{setting}
use Rattle.device_sim.specs.State.{State, Outcome}
use Rattle.device_sim.specs.Event.{DeviceEvent, outcome_of, device_after, device_replies}
use Rattle.device_sim.specs.Event.DeviceEvent.{Hears, Wakes}
use Rattle.zw_text.specs.Transcript.{made, lines_run}
use Rattle.law_transcript.specs.Devices.{after_events, events_unjoined, replies_in, replies_joined, comings, brought, ticks_lived, made_by, sent_from}
use Rattle.law_transcript.specs.Restarts.{ticks_asked}
use Rattle.law_transcript.proofs.Sealing.{set_plain, report_with, report_code, opened_set, sealed_report}
use Rattle.law_transcript.specs.Worked.{bytes, sealed_exchange, turned_on, turned_on_and_off, set_apart, secured, configured}
use Rattle.law_transcript.specs.WorkedDevices.{tick, switch_events, repeated_events, lossy_events, restarted_events, cut_events, sensor_events, the_keyed_lock, sealed_set, lock_begins, lock_goes_on, lock_events, hand_events, switch_at_work}
use Rattle.transport_segments.specs.Places.{written, IsFull}
use Rattle.transport_segments.specs.Taking.{taken_at, kept_after}
use Rattle.device_sim.specs.device_stack.Hearing.{hears_in_segments, hears_segment, hears_plain, hears_sealed, hears_securely, active}
use Rattle.class_core.specs.MessageReading.{configuration_bulk_at}
use Rattle.class_core.specs.Reading.{size_at, numbers_at}
use Rattle.class_info.specs.InfoReading.{nonce_at}
use Rattle.law_transcript.proofs.Computing.{computing, computing_devices}
use Rattle.law_transcript.proofs.device.worked_devices.Goals as goal

pub returns-clause-plain : goal.returns-clause-plain
unfolding computing_devices
returns-clause-plain c = record {
  events = switch_events;
  runs = refl;
  comes = record { came = refl; ticked = refl };
  shows = record { changes = turned_on; changed = refl; entered = refl };
  answered = refl;
}

pub returns-clause-turned_on : goal.returns-clause-turned_on
unfolding computing_devices
returns-clause-turned_on c = refl

pub returns-clause-sleeping : goal.returns-clause-sleeping
unfolding computing_devices
returns-clause-sleeping c = record {
  events = sensor_events;
  runs = refl;
  comes = record { came = refl; ticked = refl };
  shows = record { changes = set_apart; changed = refl; entered = refl };
  answered = refl;
}

pub returns-clause-set_apart : goal.returns-clause-set_apart
unfolding computing_devices
returns-clause-set_apart c = refl

pub returns-clause-by_hand : goal.returns-clause-by_hand
unfolding computing_devices
returns-clause-by_hand c = record {
  events = hand_events;
  runs = refl;
  comes = record { came = refl; ticked = refl };
  shows = record { changes = record { by = Local; settings = setting 0 names.Switch 255 ∷ [] } ∷ []; changed = refl; entered = refl };
  answered = refl;
}

pub returns-clause-ticked : goal.returns-clause-ticked
unfolding computing_devices
returns-clause-ticked c = record {
  events = tick ∷ [];
  runs = refl;
  comes = record { came = refl; ticked = refl };
  shows = record { changes = []; changed = refl; entered = refl };
  answered = refl;
}

pub returns-clause-apart : goal.returns-clause-apart
unfolding computing_devices
returns-clause-apart c = record {
  events = Wakes ∷ [];
  runs = refl;
  comes = record { came = refl; ticked = refl };
  shows = record { changes = []; changed = refl; entered = refl };
  answered = refl;
}

pub returns-clause-joined : goal.returns-clause-joined
unfolding computing_devices
returns-clause-joined c = record {
  events = Wakes ∷ Wakes ∷ [];
  runs = refl;
  comes = record { came = refl; ticked = refl };
  shows = record { changes = []; changed = refl; entered = refl };
  answered = refl;
}

pub returns-clause-working : goal.returns-clause-working
unfolding computing_devices
returns-clause-working c = record {
  events = tick ∷ [];
  runs = refl;
  comes = record { came = refl; ticked = refl };
  shows = record { changes = (after_events switch_at_work (tick ∷ [])).journal; changed = refl; entered = refl };
  answered = refl;
}

pub returns-clause-repeated : goal.returns-clause-repeated
unfolding computing_devices
returns-clause-repeated c = record {
  events = repeated_events;
  runs = refl;
  comes = record { came = refl; ticked = refl };
  shows = record { changes = turned_on; changed = refl; entered = refl };
  answered = refl;
}

pub returns-clause-lossy : goal.returns-clause-lossy
unfolding computing_devices
returns-clause-lossy c = record {
  events = lossy_events;
  runs = refl;
  comes = record { came = refl; ticked = refl };
  shows = record { changes = turned_on_and_off; changed = refl; entered = refl };
  answered = refl;
}

pub returns-clause-cancelled : goal.returns-clause-cancelled
unfolding computing_devices
returns-clause-cancelled c = record {
  events = switch_events;
  runs = refl;
  comes = record { came = refl; ticked = refl };
  shows = record { changes = turned_on; changed = refl; entered = refl };
  answered = refl;
}

pub returns-clause-restarted : goal.returns-clause-restarted
unfolding computing_devices
returns-clause-restarted c = record {
  events = restarted_events;
  runs = refl;
  comes = record { came = refl; ticked = refl };
  shows = record { changes = turned_on; changed = refl; entered = refl };
  answered = refl;
}

pub returns-clause-cut : goal.returns-clause-cut
unfolding computing_devices hears_in_segments hears_segment taken_at kept_after written IsFull configuration_bulk_at size_at numbers_at
returns-clause-cut c = record {
  events = cut_events;
  runs = refl;
  comes = record { came = refl; ticked = refl };
  shows = record { changes = configured; changed = refl; entered = refl };
  answered = refl;
}

-- ---- the lock

-- events after others, of which one has this outcome
after_joined : (device : State) (before : List DeviceEvent) (event : DeviceEvent) (following : List DeviceEvent) (outcome : Outcome)
    → outcome_of (after_events device before) event ≡ outcome → after_events device (before ++ event ∷ following) ≡ after_events outcome.device following
unfolding device_after
after_joined device [] event following outcome is = ap (λ (outcome : Outcome). after_events outcome.device following) is
after_joined device (first ∷ before) event following outcome is = after_joined (device_after device first) before event following outcome is

replies_split : (device : State) (before : List DeviceEvent) (event : DeviceEvent) (following : List DeviceEvent) (outcome : Outcome)
    → outcome_of (after_events device before) event ≡ outcome
    → replies_in device (before ++ event ∷ following) ≡ replies_in device before ++ (outcome.replies ++ replies_in outcome.device following)
unfolding device_after device_replies
replies_split device [] event following outcome is = ap (λ (outcome : Outcome). outcome.replies ++ replies_in outcome.device following) is
replies_split device (first ∷ before) event following outcome is =
    ap (λ (replies : List (List ℕ)). device_replies device first ++ replies) (replies_split (device_after device first) before event following outcome is)
    ∙ sym (append_assoc (device_replies device first) _ _)

-- the lock when it hears what the host sealed, and its nonce is spent
abbrev asked : State
asked = after_events the_keyed_lock lock_begins

abbrev spent : State
spent = record (active asked) { given = record asked.given { live = None } }

-- what that makes of it
abbrev opened : Outcome
opened = hears_plain spent (Some set_plain)

opening : outcome_of asked (Hears sealed_set []) ≡ opened
unfolding computing_devices hears_securely hears_sealed nonce_at
opening = ap (hears_plain spent) opened_set

-- and what is after it
journal_after : (after_events opened.device lock_goes_on).journal ≡ secured
unfolding computing_devices hears_securely hears_sealed nonce_at
journal_after = refl

replies_before : replies_in the_keyed_lock lock_begins ≡ bytes (codes "988001ED7E19638089D9") ∷ bytes (codes "988001ED7E19638089D9") ∷ []
unfolding computing_devices hears_securely hears_sealed nonce_at
replies_before = refl

replies_after : opened.replies ++ replies_in opened.device lock_goes_on ≡ bytes (codes "9840") ∷ report_with report_code ∷ []
unfolding computing_devices hears_securely hears_sealed nonce_at
replies_after = ap (λ (report : List ℕ). bytes (codes "9840") ∷ report ∷ []) sealed_report

journal_is : (after_events the_keyed_lock lock_events).journal ≡ secured
journal_is = ap (λ (device : State). device.journal) (after_joined the_keyed_lock lock_begins (Hears sealed_set []) lock_goes_on opened opening) ∙ journal_after

replies_are : replies_in the_keyed_lock lock_events ≡ replies_in the_keyed_lock lock_begins ++ (bytes (codes "9840") ∷ report_with report_code ∷ [])
replies_are =
    replies_split the_keyed_lock lock_begins (Hears sealed_set []) lock_goes_on opened opening
    ∙ ap (λ (replies : List (List ℕ)). replies_in the_keyed_lock lock_begins ++ replies) replies_after

-- by the transcript
lock_came : comings lock_events ≡ brought 4 sealed_exchange
unfolding computing
lock_came = refl

lock_ticked : ticks_lived lock_events ≡ ticks_asked (lines_run sealed_exchange)
unfolding computing
lock_ticked = refl

lock_entered : made 4 sealed_exchange ≡ flat_map made_by secured
unfolding computing
lock_entered = refl

lock_sent : sent_from 4 sealed_exchange
    ≡ (bytes (codes "988001ED7E19638089D9") ∷ bytes (codes "988001ED7E19638089D9") ∷ []) ++ (bytes (codes "9840") ∷ report_with report_code ∷ [])
unfolding computing
lock_sent = refl

-- nothing came to the lock and no tick passed before its node joined
lock_unjoined : events_unjoined 4 sealed_exchange ≡ 0
unfolding computing
lock_unjoined = refl

lock_joined : replies_joined 4 sealed_exchange the_keyed_lock lock_events ≡ replies_in the_keyed_lock lock_events
lock_joined =
    ap (λ (before : ℕ). replies_in (after_events the_keyed_lock (take before lock_events)) (drop before lock_events)) lock_unjoined

pub returns-clause-sealed : goal.returns-clause-sealed
returns-clause-sealed c = record {
  events = lock_events;
  runs = refl;
  comes = record { came = lock_came; ticked = lock_ticked };
  shows = record { changes = secured; changed = journal_is; entered = lock_entered };
  answered = lock_sent ∙ sym (lock_joined ∙ (replies_are
      ∙ ap (λ (replies : List (List ℕ)). replies ++ (bytes (codes "9840") ∷ report_with report_code ∷ [])) replies_before));
}

pub returns-clause-secured : goal.returns-clause-secured
returns-clause-secured c = journal_is
