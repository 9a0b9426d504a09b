-- What the host enters at its events begins no session, but where one begins.
use Rattle.std.proofs.Common.{◌≡◌, None, refl}
use Rattle.std.specs.List.{AllByRecursion}
use Rattle.zw_base.proofs.Each.{all-weaker}
use Rattle.zw_text.specs.declared.entry.Entry.{Entry}
use Rattle.host_model.specs.State.{HostState}
use Rattle.host_model.specs.Outs.{outs}
use Rattle.host_model.specs.Events.{HostEvent, Accepts, Cancels, Interviews, Interview_unkept, Unreads, Is_unkept, Reports_old, Finishes, Spends_unread, Notifies, Hears_value, Has_no_room, Begins, Begin_unkept}
use Rattle.host_model.specs.declared.out.HostOut.{HostOut}
use Rattle.host_model.specs.declared.out.HostOut.TheVariants.{Write, Note}
use Rattle.world_model.specs.State.{begun_in}
use Rattle.proof_traffic.proofs.HostOuts.{OutIs, OwnIs, SharedAre, outs_are}
use Rattle.proof_course_plain.specs.HostGoing.{IsNoBegin}
use Rattle.proof_course_plain.proofs.HostActs.{BeginsNone}

-- an entry at which no session begins
abbrev EntersNone : Entry → Type 0
EntersNone e = begun_in e ≡ None

shared_none : SharedAre EntersNone
shared_none = record {
  unanswered = λ command. refl;
  asleep = λ n. refl;
  done = λ n how. refl;
  uninterviewed = λ n. refl;
  neighbours = λ n nodes. refl;
  failed = λ n is_failed. refl;
  stored = λ n setting. refl;
  held = λ n. refl;
  full = λ n. refl;
}

own_none : (event : HostEvent) → IsNoBegin event → OwnIs EntersNone event
own_none (Accepts order carriage) is = λ number. refl
own_none (Cancels command) is = refl
own_none (Interviews n listens classes update) is = refl
own_none (Interview_unkept n update) is = refl
own_none (Unreads n payload) is = refl
own_none (Is_unkept n) is = refl
own_none (Reports_old n id) is = refl
own_none (Finishes n session id command status wake_request) is = refl
own_none (Spends_unread n payload) is = refl
own_none (Notifies n) is = refl
own_none (Hears_value n setting) is = refl
own_none (Has_no_room n property) is = refl
own_none (Begins n session command) is = absurd is
own_none (Begin_unkept n) is = refl
own_none event is = tt

out_none : (out : HostOut) → OutIs EntersNone out → BeginsNone out
out_none (Write unit) none = tt
out_none (Note entry) none = none

pub event_begins_none : (h : HostState) (event : HostEvent) → IsNoBegin event → AllByRecursion BeginsNone (outs h event)
event_begins_none h event is = all-weaker (OutIs EntersNone) BeginsNone out_none (outs h event) (outs_are EntersNone shared_none h event (own_none event is))
