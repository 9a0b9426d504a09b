-- What a host alone does of itself, for a line and for an item is in order, and answers no line but the one that asks.
use Rattle.std.proofs.Common.{◌≡◌, Bool, true, false, if◌then◌else◌, List, [], ◌∷◌, refl, sym, subst, append-nil}
use Rattle.std.specs.Prelude.{Option, Some, None}
use Rattle.zw_base.proofs.Each.{all-weaker}
use Rattle.serial_frame.specs.declared.item.Item.{Item}
use Rattle.zw_text.specs.declared.line.Line.{Line}
use Rattle.zw_text.specs.declared.line.Line.TheVariants as lines
use Rattle.host_orders.specs.declared.refused.Refused.{Refused}
use Rattle.host_orders.specs.declared.refused.Refused.TheVariants.{NotJoined}
use Rattle.host_orders.specs.Refusals.{classes_of}
use Rattle.proof_line.specs.host_model.State.{HostState, node_of}
use Rattle.proof_line.specs.host_model.Events.{HostEvent, Accepts, Cancels, Joins, Queues_probe, Hears, Queues, Queues_interview, Requests_do, IsOwn}
use Rattle.proof_line.specs.host_model.After.{after}
use Rattle.proof_line.specs.host_model.May.{known_of}
use Rattle.proof_line.specs.host_model.Asking.{places_refusal}
use Rattle.proof_line.specs.host_model.Outs.{answers, outs}
use Rattle.proof_line.specs.host_model.Taking.{AreJudged, IsFollowed}
use Rattle.proof_line.specs.host_model.Ticking.{tick_events}
use Rattle.proof_line.proofs.Own.{tick_own}
use Rattle.proof_line.proofs.Submitted.{SleepersAre, SubmittedAre, next_is as submitted_is, no_more_is}
use Rattle.proof_line.proofs.Silence.{judged_silent, tick_silent}
use Rattle.proof_line.specs.Lines.{AsksNothing}
use Rattle.proof_line.proofs.Errands.{get_short, send_short}
use Rattle.proof_line.proofs.Heard.{all_judged_in_order}
use Rattle.proof_line.specs.proof_walk.ByLine.{IsAsked}
use Rattle.proof_line.proofs.ByLine.{next_silent, no_more_silent}
use Rattle.proof_alone.specs.Steps.{IsAskedBy}
use Rattle.proof_alone.specs.Phases.{Phase, Resting, Asked, Risen, Ticking, Open, Behind, Sleeping, Submitting, GoesBy}
use Rattle.proof_alone.specs.Tables.{AlwaysInOrder, AreInOrder, IsInOrder, to_come}

-- ---- lists

pub none_to_come : AreInOrder []
none_to_come = record { silent = tt; ordered = tt }

-- ---- what it does of itself

own_ordered : (event : HostEvent) → IsOwn event → AlwaysInOrder event
own_ordered (Requests_do event moment) own = λ h. subst AsksNothing (sym own) tt
own_ordered (Queues task) own = absurd own
own_ordered (Queues_interview n) own = absurd own
own_ordered event own = λ h. tt

pub tick_in_order : (h : HostState) → AreInOrder (tick_events h)
tick_in_order h = record { silent = tick_silent h; ordered = all-weaker IsOwn AlwaysInOrder own_ordered (tick_events h) (tick_own h) }

sleepers_ordered : SleepersAre AlwaysInOrder
sleepers_ordered = record { queues = λ n h. tt; drops = λ n h. tt }

submitted_ordered : SubmittedAre AlwaysInOrder
submitted_ordered = record {
  abort = λ h. tt;
  front = λ h. tt;
  starts = λ n plan more payload h. tt;
  text = λ n payload h. tt;
  segment = λ n more payload h. tt;
  begins = λ n session command h. tt;
  unkept = λ n h. tt;
}

-- ---- behind an item

pub behind_in_order : (h : HostState) (item : Item) (behind : List HostEvent) → IsFollowed (after h (Hears item)) h.side.turn item behind → AreInOrder behind
behind_in_order h item behind followed =
    let judged : AreJudged h (item ∷ []) (Hears item ∷ behind) = (Hears item ∷ behind, [], sym (append-nil (Hears item ∷ behind)), (behind, refl, followed), refl) in
    let silent = judged_silent h (item ∷ []) (Hears item ∷ behind) judged in
    let ordered = all_judged_in_order h (item ∷ []) (Hears item ∷ behind) judged in record { silent = silent.1; ordered = ordered.1 }

-- ---- one event of a part

pub record IsInPart (next : Phase) (h : HostState) (event : HostEvent) : Type 0 where
  pub silent : answers h event ≡ []
  pub ordered : IsInOrder h event
  pub left : AreInOrder (to_come next)

of_these : (at : List HostEvent → Phase) → ((l : List HostEvent) → to_come (at l) ≡ l) → (next : Phase) (h : HostState) (event first : HostEvent) (left : List HostEvent)
    → event ≡ first → next ≡ at left → AreInOrder (first ∷ left) → IsInPart next h event
of_these at is next h event first left event_is next_is order = record {
  silent = subst (λ (e : HostEvent). answers h e ≡ []) (sym event_is) (order.silent.0 h);
  ordered = subst (λ (e : HostEvent). IsInOrder h e) (sym event_is) (order.ordered.0 h);
  left = subst (λ (p : Phase). AreInOrder (to_come p)) (sym next_is) (subst AreInOrder (sym (is left)) (record { silent = order.silent.1; ordered = order.ordered.1 }));
}

pub event_in_part : (here next : Phase) (h : HostState) (event : HostEvent) → GoesBy here h event next → AreInOrder (to_come here) → IsInPart next h event
event_in_part (Ticking []) next h event goes order = absurd goes
event_in_part (Ticking (first ∷ left)) next h event goes order = of_these Ticking (λ l. refl) next h event first left goes.0 goes.1 order
event_in_part (Behind []) next h event goes order = absurd goes
event_in_part (Behind (first ∷ left)) next h event goes order = of_these Behind (λ l. refl) next h event first left goes.0 goes.1 order
event_in_part Sleeping next h event (node, wants, is, next_is) order = record {
  silent = subst (λ (e : HostEvent). answers h e ≡ []) (sym is) ((no_more_silent h node).0 h);
  ordered = subst (λ (e : HostEvent). IsInOrder h e) (sym is) (no_more_is AlwaysInOrder sleepers_ordered h node h);
  left = subst (λ (p : Phase). AreInOrder (to_come p)) (sym next_is) none_to_come;
}
event_in_part Submitting next h event (is, next_is) order = record {
  silent = (next_silent h event is).0 h;
  ordered = submitted_is AlwaysInOrder submitted_ordered h event is h;
  left = subst (λ (p : Phase). AreInOrder (to_come p)) (sym next_is) none_to_come;
}
event_in_part Resting next h event goes order = absurd goes
event_in_part (Asked line) next h event goes order = absurd goes
event_in_part Risen next h event goes order = absurd goes
event_in_part Open next h event goes order = absurd goes

-- ---- what lines ask

-- an interview that no rule refuses is of a node that is joined
of_joined : (joined : Bool) (places : Option Refused) → (if joined then places else Some NotJoined) ≡ None → joined ≡ true
of_joined true places none = refl
of_joined false places none = absurd cc

as_asked : (h : HostState) (event these : HostEvent) → event ≡ these → IsInOrder h these → IsInOrder h event
as_asked h event these is ordered = subst (λ (e : HostEvent). IsInOrder h e) (sym is) ordered

pub asked_in_order : (line : Line) (h : HostState) (event : HostEvent) → IsAskedBy line h event → IsInOrder h event
asked_in_order (lines.Command order) h event is = as_asked h event _ is tt
asked_in_order (lines.Send node word) h event is = as_asked h event _ is.1 (send_short (classes_of (known_of (node_of h node))) word)
asked_in_order (lines.Get node end) h event is = as_asked h event _ is.1 (get_short (classes_of (known_of (node_of h node))) end)
asked_in_order (lines.Join node) h event is = as_asked h event _ is tt
asked_in_order (lines.Interview node) h event is = as_asked h event _ is.1 (of_joined (node_of h node).joined (places_refusal h 2) is.0)
asked_in_order (lines.Cancel command) h event is = as_asked h event _ is tt
asked_in_order lines.Discover h event is = as_asked h event _ is.1 tt
asked_in_order (lines.Neighbours node) h event is = as_asked h event _ is.1 tt
asked_in_order (lines.Failed node) h event is = as_asked h event _ is.1 tt
asked_in_order lines.Probe h event is = as_asked h event _ is.1 tt
asked_in_order line h event is = absurd is

-- what a line asks of the host
pub is_asked : (line : Line) (h : HostState) (event : HostEvent) → IsAskedBy line h event → IsAsked event
is_asked (lines.Command order) h event is = subst IsAsked (sym is) tt
is_asked (lines.Send node word) h event is = subst IsAsked (sym is.1) tt
is_asked (lines.Get node end) h event is = subst IsAsked (sym is.1) tt
is_asked (lines.Join node) h event is = subst IsAsked (sym is) tt
is_asked (lines.Interview node) h event is = subst IsAsked (sym is.1) tt
is_asked (lines.Cancel command) h event is = subst IsAsked (sym is) tt
is_asked lines.Discover h event is = subst IsAsked (sym is.1) tt
is_asked (lines.Neighbours node) h event is = subst IsAsked (sym is.1) tt
is_asked (lines.Failed node) h event is = subst IsAsked (sym is.1) tt
is_asked lines.Probe h event is = subst IsAsked (sym is.1) tt
is_asked line h event is = absurd is

-- it makes the host put out nothing
pub asked_puts : (h : HostState) (event : HostEvent) → IsAsked event → outs h event ≡ []
asked_puts h (Accepts order carriage) asked = refl
asked_puts h (Cancels command) asked = refl
asked_puts h (Joins node) asked = refl
asked_puts h (Queues task) asked = refl
asked_puts h (Queues_interview node) asked = refl
asked_puts h Queues_probe asked = refl
asked_puts h event asked = absurd asked
