-- The host submits a request to send a payload: it is on its way to the chip.
use Rattle.std.proofs.Common.{◌≡◌, ◌≢◌, ◌≤◌, ℕ, Bool, true, false, if◌then◌else◌, List, [], ◌∷◌, refl, sym, ap, ◌∙◌, subst}
use Rattle.std.proofs.lemmas.Bool.{eq-eqb}
use Rattle.std.specs.Prelude.{Some, None}
use Rattle.serial_frame.specs.Frame.{FrameParts}
use Rattle.serial_link.specs.declared.turn.Turn.{Turn}
use Rattle.serial_link.specs.declared.turn.Turn.TheVariants.{Idle, Copied, Paused}
use Rattle.chip_functions.specs.declared.function.TheConstants.{SEND_DATA}
use Rattle.chip_sim.specs.State.{ChipState}
use Rattle.host_requests.specs.Events.{task_begun}
use Rattle.host_requests.specs.Frames.{frame_of, function_of, request_of, send}
use Rattle.host_requests.specs.State.{RequestsState, id_after, next_id}
use Rattle.host_requests.specs.declared.task.Task.{Task}
use Rattle.host_requests.specs.declared.task.Task.TheVariants.{Plain, Offer, Segment, NoMore, First, Second, Members, Neighbours, IsFailed, Version, MemoryId, Capabilities}
use Rattle.host_requests.specs.declared.task.Purpose.{Purpose}
use Rattle.host_requests.specs.declared.task.Purpose.TheVariants.{Housekeeping, Attempt, Abort}
use Rattle.host_requests.specs.declared.under_way.Progress.TheVariants.{Submitted}
use Rattle.host_model.specs.After.{after, is_busy, task_purpose}
use Rattle.host_model.specs.Events.{HostEvent, Submits_front, Starts, Gives_text, Gives_segment}
use Rattle.host_model.specs.May.{May}
use Rattle.host_model.specs.Pumping.{IsNext}
use Rattle.host_model.specs.State.{HostState}
use Rattle.host_model.proofs.Submitted.{SubmittedAre, next_is}
use Rattle.proof_calm.specs.Known.{AsksToSend}
use Rattle.proof_calm.specs.Tied.{on_line, AsksAt, Tied, Nowhere, On_way, At_chip, Called}
use Rattle.proof_calm.proofs.Following.{kept}
use Rattle.proof_calm.proofs.Judging.{ends_by, TieBy}

-- what is proved of callback ids
pub record Ids : Type 0 where
  pub from_one : (last : ℕ) → 1 ≤ next_id last
  pub to_max : (last : ℕ) → next_id last ≤ 255

-- such a request is a SendData
sends_of : (purpose : Purpose) (id node : ℕ) (payload : List ℕ) → request_of purpose id ≡ send node payload id → function_of purpose ≡ SEND_DATA
sends_of (Housekeeping (Plain n text)) id node payload is = refl
sends_of (Housekeeping (Offer n nonce)) id node payload is = refl
sends_of (Housekeeping (Segment n text)) id node payload is = refl
sends_of (Housekeeping (NoMore n)) id node payload is = refl
sends_of (Housekeeping (First n)) id node payload is = absurd cc
sends_of (Housekeeping (Second n)) id node payload is = absurd cc
sends_of (Housekeeping Members) id node payload is = absurd cc
sends_of (Housekeeping (Neighbours n)) id node payload is = absurd cc
sends_of (Housekeeping (IsFailed n)) id node payload is = absurd cc
sends_of (Housekeeping Version) id node payload is = absurd cc
sends_of (Housekeeping MemoryId) id node payload is = absurd cc
sends_of (Housekeeping Capabilities) id node payload is = absurd cc
sends_of (Attempt n more text) id node payload is = refl
sends_of Abort id node payload is = absurd cc

-- ---- a purpose is submitted

pub record IsBegun (h g : HostState) (purpose : Purpose) : Type 0 where
  pub under_way : g.requests.under_way ≡ Some (record { purpose = purpose; progress = Submitted })
  pub last : g.requests.last_id ≡ id_after h.requests.last_id purpose
  pub owes : g.requests.owes ≡ h.requests.owes
  pub turn : g.side.turn ≡ Copied (frame_of purpose (next_id h.requests.last_id)) 1 0

begun_tied : (ids : Ids) (s : ChipState) (h g : HostState) (purpose : Purpose) (pending : List FrameParts) → IsBegun h g purpose → AsksToSend s.joined purpose (next_id h.requests.last_id) → h.requests.under_way ≡ None
    → TieBy true (kept h) s pending [] → TieBy true (kept g) s pending (on_line g.side.turn)
begun_tied ids s h g purpose pending begun asks none tie = record { paid = begun.owes ∙ tie.paid; tied = by tie.tied }
  where
    id : ℕ
    id = next_id h.requests.last_id

    sends : function_of purpose ≡ SEND_DATA
    sends = sends_of purpose id asks.node asks.payload asks.is

    last_is : g.requests.last_id ≡ id
    last_is = begun.last ∙ ap (λ (b : Bool). if b then id else h.requests.last_id) (eq-eqb (function_of purpose) SEND_DATA sends)

    by : Tied true (ends_by (kept h) s) pending [] → Tied true (ends_by (kept g) s) pending (on_line g.side.turn)
    by (On_way u of fresh is) = absurd (let no : Some u ≡ None = sym of.under_way ∙ none in cc)
    by (At_chip u of fresh is) = absurd (let no : Some u ≡ None = sym of.under_way ∙ none in cc)
    by (Called u of fresh is) = absurd (let no : Some u ≡ None = sym of.under_way ∙ none in cc)
    by (Nowhere is) = On_way (record { purpose = purpose; progress = Submitted }) (record { under_way = begun.under_way; sends = sends }) tt (record {
      idle = is.idle;
      leave = is.leave;
      asked = ap on_line begun.turn ∙ ap (λ (of : ℕ). frame_of purpose of ∷ []) (sym last_is);
      asks = subst (AsksToSend s.joined purpose) (sym last_is) asks;
      from = subst (λ (of : ℕ). 1 ≤ of) (sym last_is) (ids.from_one h.requests.last_id);
      to = subst (λ (of : ℕ). of ≤ 255) (sym last_is) (ids.to_max h.requests.last_id);
    })

-- the task that waited longest
record FrontIs (r : RequestsState) (tasks : List Task) : Type 0 where
  under_way : (task_begun r tasks).under_way ≡ Some (record { purpose = task_purpose tasks; progress = Submitted })
  last : (task_begun r tasks).last_id ≡ id_after r.last_id (task_purpose tasks)
  owes : (task_begun r tasks).owes ≡ r.owes

front_is : (r : RequestsState) (tasks : List Task) → tasks ≢ [] → FrontIs r tasks
front_is r [] some = absurd (some refl)
front_is r (task ∷ tasks) some = record { under_way = refl; last = refl; owes = refl }

-- ---- what the host submits next

free_line : (turn : Turn) → is_busy turn ≡ false → on_line turn ≡ []
free_line Idle free = refl
free_line (Copied f copies ticks) free = absurd cc
free_line (Paused f copies ticks) free = absurd cc

pub next_tied : (ids : Ids) (s : ChipState) (h : HostState) (event : HostEvent) (pending : List FrameParts) → IsNext h event → May h event → AsksAt s.joined h event → TieBy true (kept h) s pending (on_line h.side.turn)
    → TieBy true (kept (after h event)) s pending (on_line (after h event).side.turn)
next_tied ids s h event pending next may asks tie = next_is Is each h event next may asks
  where
    Is : HostEvent → Type 0
    Is e = May h e → AsksAt s.joined h e → TieBy true (kept (after h e)) s pending (on_line (after h e).side.turn)

    free : TieBy true (kept h) s pending []
    free = subst (TieBy true (kept h) s pending) (free_line h.side.turn next.0.free_line) tie

    begins : (g : HostState) (purpose : Purpose) → IsBegun h g purpose → AsksToSend s.joined purpose (next_id h.requests.last_id) → TieBy true (kept g) s pending (on_line g.side.turn)
    begins g purpose begun asks_it = begun_tied ids s h g purpose pending begun asks_it next.0.none_under_way free

    each : SubmittedAre Is
    each = record {
      abort = λ may_it asks_it. absurd (let paid = tie.paid in let owes = may_it.1 in cc);
      front = λ may_it asks_it. let is = front_is h.requests h.requests.queue may_it.2 in begins (after h Submits_front) (task_purpose h.requests.queue) (record { under_way = is.under_way; last = is.last; owes = is.owes; turn = refl }) asks_it;
      starts = λ n plan more payload may_it asks_it. begins (after h (Starts n plan more payload)) (Attempt n more payload) (record { under_way = refl; last = refl; owes = refl; turn = refl }) asks_it;
      text = λ n payload may_it asks_it. begins (after h (Gives_text n payload)) (Attempt n false payload) (record { under_way = refl; last = refl; owes = refl; turn = refl }) asks_it;
      segment = λ n more payload may_it asks_it. begins (after h (Gives_segment n more payload)) (Attempt n more payload) (record { under_way = refl; last = refl; owes = refl; turn = refl }) asks_it;
      begins = λ n session command may_it asks_it. tie;
      unkept = λ n may_it asks_it. tie;
    }
