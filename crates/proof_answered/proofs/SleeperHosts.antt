-- At each event of the host, a node that sleeps counts as asleep, and the host has nothing to do with it; or counts as awake, and stays so until it was told that there is no more.
use Rattle.std.proofs.Common.{◌≡◌, ◌≢◌, ◌<◌, ℕ, ◌==◌, Bool, true, false, List, [], length, refl, sym, ap, ◌∙◌, subst}
use Rattle.std.proofs.lemmas.Bool.{eq-eqb, eqb-true}
use Rattle.std.proofs.lemmas.List.{get_or-set_other, get_or-set_same, length-set}
use Rattle.std.specs.Prelude.{Option, Some, None, option_map}
use Rattle.serial_link.specs.declared.turn.Turn.{Turn}
use Rattle.serial_link.specs.declared.turn.Turn.TheVariants.{Idle as no_turn}
use Rattle.serial_link.specs.State.{Side, turn_ticked}
use Rattle.host_keep.specs.declared.final_status.FinalStatus.{FinalStatus}
use Rattle.host_requests.specs.Events.{RequestsEvent, end_at}
use Rattle.host_requests.specs.Events.RequestsEvent.{CallsBack, Fails, IsSent, Responds, Ticks as request_ticks, Updates}
use Rattle.host_requests.specs.Next.{at_callback, at_response, at_sent, at_tick, at_update, end_from, end_of, finished, next_from, went_on}
use Rattle.host_requests.specs.State.{RequestsState}
use Rattle.host_requests.specs.declared.end.How.{How}
use Rattle.host_requests.specs.declared.end.How.TheVariants.{LinkFailed}
use Rattle.host_requests.specs.declared.next.Next.{Next}
use Rattle.host_requests.specs.declared.next.Next.TheVariants as next
use Rattle.host_requests.specs.declared.task.Purpose.{Purpose}
use Rattle.host_requests.specs.declared.task.Purpose.TheVariants.{Abort, Attempt, Housekeeping}
use Rattle.host_requests.specs.declared.task.Task.{Task}
use Rattle.host_requests.specs.declared.task.Task.TheVariants.{NoMore}
use Rattle.host_requests.specs.declared.under_way.UnderWay.{UnderWay}
use Rattle.host_node.specs.Events.{NodeEvent, after as after_node}
use Rattle.host_node.specs.Events.NodeEvent.{Ends_no_more, Succeeds, Ticks as node_ticks}
use Rattle.host_node.specs.State.{NodeState, unknown}
use Rattle.host_node.specs.Steps.{after_no_more_end, after_sign, tick_end}
use Rattle.host_node.specs.TableState.{node_of as node_among, with_node as with_node_among}
use Rattle.host_node.specs.declared.attempt.Moment.{Moment}
use Rattle.host_node.specs.declared.no_more.NoMore.TheVariants.{Queued}
use Rattle.host_model.specs.After.{after, failing_if, finishing, gives_up, holding, is_held, line_ticked, node_does}
use Rattle.host_model.specs.Ends.{PartEnd, after_end, after_end_if, after_part, after_task, part_end}
use Rattle.host_model.specs.Events.{HostEvent, Finishes, Has_no_room, Hears, Hears_value, Is_unkept, Line_ticks, Node_ticks, Reports_old, Requests_do, Takes_nonce, Unreads, Works}
use Rattle.host_model.specs.Sessions.{open_command}
use Rattle.host_model.specs.State.{HostState, node_of, with_node}
use Rattle.proof_calm.specs.proof_work.Doing.{IsTold}
use Rattle.proof_answered.specs.Sleepers.{HasLeft, IsDown, IsTelling, IsUpAt, Is_queued, Is_sent, NoMoreAt, Not_asked, request_purpose}
use Rattle.proof_answered.proofs.AttemptEnds.{EndsSo, EndsWell, LastsAt, part_well}
use Rattle.proof_calm.proofs.Following.{attempt_asks, held_asks}
use Rattle.proof_answered.proofs.NodeSteps.{AllowsAt, AllowsWaking, IsAside, event_wakes}
use Rattle.proof_answered.proofs.SleeperNodes.{DownNode, GoesDown, GoesUp, UpNode, aside_down, aside_up, goes_down, goes_up, told_down_so}

-- ---- one node of a table

pub record PlaceIs (P : NodeState → Type 0) (n : ℕ) (nodes : List NodeState) : Type 0 where
  pub places : length nodes ≡ 233
  pub is : P (node_among nodes n)

-- what may happen to it
abbrev pub OfNode : (NodeState → NodeEvent → Type 0) → ℕ → ℕ → NodeState → NodeEvent → Type 0
OfNode Goes n k x event = k ≡ n → Goes x event

pub set_place : (P : NodeState → Type 0) (n : ℕ) (nodes : List NodeState) (y : NodeState) → n < 233 → length nodes ≡ 233 → P y → PlaceIs P n (with_node_among nodes n y)
set_place P n nodes y within places is = record {
  places = length-set nodes n y ∙ places;
  is = subst P (sym (get_or-set_same nodes n y (unknown 0) (subst (λ (l : ℕ). n < l) (sym places) within))) is;
}

module _ (P : NodeState → Type 0) (Goes : NodeState → NodeEvent → Type 0) (aside : (x : NodeState) (event : NodeEvent) → IsAside event → Goes x event)
    (goes : (x : NodeState) (event : NodeEvent) → Goes x event → P x → P (after_node x event)) (n : ℕ) (within : n < 233) where
  pub each_place : (nodes : List NodeState) (k : ℕ) (event : NodeEvent) → OfNode Goes n k (node_among nodes k) event → PlaceIs P n nodes → PlaceIs P n (with_node_among nodes k (after_node (node_among nodes k) event))
  each_place nodes k event allows at = by (k == n) refl
    where
      new : NodeState
      new = after_node (node_among nodes k) event

      by : (b : Bool) → (k == n) ≡ b → PlaceIs P n (with_node_among nodes k new)
      by true is =
          let same : k ≡ n = eqb-true k n is in
          subst (λ (j : ℕ). PlaceIs P n (with_node_among nodes j new)) (sym same)
          (set_place P n nodes new within at.places (goes (node_among nodes k) event (allows same) (subst (λ (j : ℕ). P (node_among nodes j)) (sym same) at.is)))
      by false is = record {
        places = length-set nodes k new ∙ at.places;
        is = subst P (sym (get_or-set_other nodes k n new (unknown 0) (λ e. let wrong : true ≡ false = sym (eq-eqb k n (sym e)) ∙ is in cc))) at.is;
      }

  pub on_place : (h : HostState) (event : HostEvent) → AllowsAt (OfNode Goes n) h event → AllowsWaking (OfNode Goes n) h event → PlaceIs P n h.nodes → PlaceIs P n (after h event).nodes
  on_place h event allows wakes at = event_wakes (OfNode Goes n) (PlaceIs P n) (λ k x one is same. aside x one is) each_place h event allows wakes at

-- ---- where it counts as asleep

pub record DownAt (Empty : Type 0) (n : ℕ) (h : HostState) : Type 0 where
  pub places : length h.nodes ≡ 233
  pub down : IsDown n h
  pub unasked : (node_of h n).no_more ≢ Queued
  pub nothing : Empty → HasLeft (node_of h n) → ⊥

-- ---- where it counts as awake: it does so still, or was told that there is no more

pub data Alive (Telling : Type 0) (n : ℕ) (h : HostState) : Type 0 where
  Still_up : length h.nodes ≡ 233 → IsUpAt n h → (Telling → IsTelling n h) → Alive Telling n h
  Gone : DownAt (Unit {0}) n h → Alive Telling n h

-- what follows a frame that is heard quietly
abbrev pub IsJudgedQuietly : HostEvent → Type 0
IsJudgedQuietly (Hears item) = Unit {0}
IsJudgedQuietly (Requests_do event moment) = IsTold event
IsJudgedQuietly (Unreads n payload) = Unit {0}
IsJudgedQuietly (Is_unkept n) = Unit {0}
IsJudgedQuietly (Reports_old n id) = Unit {0}
IsJudgedQuietly (Works n id) = Unit {0}
IsJudgedQuietly (Finishes n session id command status wake) = Unit {0}
IsJudgedQuietly (Takes_nonce n seen text) = Unit {0}
IsJudgedQuietly (Hears_value n setting) = Unit {0}
IsJudgedQuietly (Has_no_room n property) = Unit {0}
IsJudgedQuietly event = ⊥

abbrev purposes : Option UnderWay → Option Purpose
purposes o = option_map (λ (request : UnderWay). request.purpose) o

same_purpose : (h g : HostState) → g.requests ≡ h.requests → request_purpose g ≡ request_purpose h
same_purpose h g same = ap (λ (r : RequestsState). option_map (λ (request : UnderWay). request.purpose) r.under_way) same

finished_requests : (h : HostState) (n id command : ℕ) (status : FinalStatus) (wake : Bool) → (holding (finishing h n id command status) n (is_held h n wake)).requests ≡ h.requests
finished_requests h n id command status wake = ap (λ (p : Side × RequestsState). p.1) (held_asks (finishing h n id command status) n (is_held h n wake))

ticked_requests : (h : HostState) (k : ℕ) → (after h (Node_ticks k)).requests ≡ h.requests
ticked_requests h k = ap (λ (p : Side × RequestsState). p.1) (attempt_asks (node_does h k node_ticks) (tick_end (node_of h k)) (open_command (node_of h k)))

module _ (n : ℕ) (within : n < 233) where
  module _ (Empty : Type 0) where
    abbrev IsSo : HostState → Type 0
    IsSo h = DownAt Empty n h

    abbrev Mine : ℕ → NodeState → NodeEvent → Type 0
    Mine = OfNode (GoesDown Empty) n

    pub down_apart : (h : HostState) (event : HostEvent) → AllowsAt Mine h event → AllowsWaking Mine h event → (after h event).requests ≡ h.requests → IsSo h → IsSo (after h event)
    down_apart h event allows wakes requests d =
        let p = on_place (DownNode Empty) (GoesDown Empty) (aside_down Empty) (goes_down Empty) n within h event allows wakes
        (record { places = d.places; is = record { sleeps = d.down.sleeps; asleep = d.down.asleep; idle = d.down.idle; unasked = d.unasked; nothing = d.nothing } }) in
        record {
          places = p.places;
          down = record {
            sleeps = p.is.sleeps;
            asleep = p.is.asleep;
            idle = p.is.idle;
            no_request = ap (λ (r : RequestsState). r.under_way) requests ∙ d.down.no_request;
            no_task = ap (λ (r : RequestsState). r.queue) requests ∙ d.down.no_task;
          };
          unasked = p.is.unasked;
          nothing = p.is.nothing;
        }

    -- none of its requests is under way
    next_down : (h : HostState) (step : UnderWay → Next) (moment : Moment) → IsSo h → IsSo (after_end_if (record h { requests = next_from h.requests step h.requests.under_way }) (end_from step h.requests.under_way) moment)
    next_down h step moment d =
        subst (λ (o : Option UnderWay). IsSo (after_end_if (record h { requests = next_from h.requests step o }) (end_from step o) moment)) (sym d.down.no_request)
        (record {
          places = d.places;
          down = record { sleeps = d.down.sleeps; asleep = d.down.asleep; idle = d.down.idle; no_request = d.down.no_request; no_task = d.down.no_task };
          unasked = d.unasked;
          nothing = d.nothing;
        })

    pub request_down : (h : HostState) (event : RequestsEvent) (moment : Moment) → IsTold event → IsSo h → IsSo (after h (Requests_do event moment))
    request_down h IsSent moment told d = next_down h at_sent moment d
    request_down h Fails moment told d = next_down h (λ u. next.Ends LinkFailed) moment d
    request_down h (Responds response) moment told d = next_down h (at_response response) moment d
    request_down h (CallsBack id status) moment told d = next_down h (at_callback h.requests.last_id id status) moment d
    request_down h (Updates update) moment told d = next_down h (at_update h.requests.first update) moment d
    request_down h request_ticks moment told d = next_down h at_tick moment d
    request_down h event moment told d = absurd told

    pub quietly_down : (h : HostState) (event : HostEvent) → IsJudgedQuietly event → IsSo h → IsSo (after h event)
    quietly_down h (Hears item) quiet d = down_apart h (Hears item) tt tt refl d
    quietly_down h (Requests_do event moment) quiet d = request_down h event moment quiet d
    quietly_down h (Unreads k payload) quiet d = d
    quietly_down h (Is_unkept k) quiet d = d
    quietly_down h (Reports_old k id) quiet d = d
    quietly_down h (Works k id) quiet d = down_apart h (Works k id) tt tt refl d
    quietly_down h (Finishes k session id command status wake) quiet d = down_apart h (Finishes k session id command status wake) tt tt (finished_requests h k id command status wake) d
    quietly_down h (Takes_nonce k seen text) quiet d = down_apart h (Takes_nonce k seen text) tt tt refl d
    quietly_down h (Hears_value k setting) quiet d = down_apart h (Hears_value k setting) tt tt refl d
    quietly_down h (Has_no_room k property) quiet d = d
    quietly_down h event quiet d = absurd quiet

    -- a tick
    pub line_down : (h : HostState) → h.side.turn ≡ no_turn → IsSo h → IsSo (after h Line_ticks)
    line_down h idle d =
        subst (λ (t : Turn). IsSo (failing_if (gives_up t (turn_ticked t)) (line_ticked h))) (sym idle)
        (record {
          places = d.places;
          down = record { sleeps = d.down.sleeps; asleep = d.down.asleep; idle = d.down.idle; no_request = d.down.no_request; no_task = d.down.no_task };
          unasked = d.unasked;
          nothing = d.nothing;
        })

    pub node_down : (h : HostState) (k : ℕ) → (node_of h k).attempt_wait ≢ 1 → IsSo h → IsSo (after h (Node_ticks k))
    node_down h k lasts d = down_apart h (Node_ticks k) (λ same. lasts) tt (ticked_requests h k) d

  -- ---- while it counts as awake

  module _ (Telling : Type 0) where
    abbrev Is : HostState → Type 0
    Is h = Alive Telling n h

    abbrev MineUp : ℕ → NodeState → NodeEvent → Type 0
    MineUp = OfNode GoesUp n

    up_place : (Told_it : Type 0) (h : HostState) (event : HostEvent) → AllowsAt MineUp h event → AllowsWaking MineUp h event → PlaceIs (UpNode Told_it) n h.nodes → PlaceIs (UpNode Told_it) n (after h event).nodes
    up_place Told_it h event allows wakes at = on_place (UpNode Told_it) GoesUp aside_up (goes_up Told_it) n within h event allows wakes at

    module _ (h : HostState) (places : length h.nodes ≡ 233) (up : IsUpAt n h) (tells : Telling → IsTelling n h) where
      here : (Told_it : Type 0) → (Told_it → (node_of h n).no_more ≡ Queued) → PlaceIs (UpNode Told_it) n h.nodes
      here Told_it asked = record { places = places; is = record { sleeps = up.sleeps; kept = up.kept; asked = asked } }

      -- where its node may have changed, and its requests are as they were
      still : (g : HostState) → g.requests.queue ≡ h.requests.queue → request_purpose g ≡ request_purpose h
          → ((Told_it : Type 0) → (Told_it → (node_of h n).no_more ≡ Queued) → PlaceIs (UpNode Told_it) n g.nodes) → Is g
      still g queue purpose place = by up.no_more
        where
          by : NoMoreAt n h → Is g
          by (Not_asked empty not) =
              let p = place ⊥ (λ none. absurd none) in
              Still_up p.places (record { sleeps = p.is.sleeps; kept = p.is.kept; no_more = Not_asked (queue ∙ empty) (λ t. not (sym purpose ∙ t)) }) (λ t. purpose ∙ tells t)
          by (Is_queued waits not asked) =
              let p = place (Unit {0}) (λ one. asked) in
              Still_up p.places (record { sleeps = p.is.sleeps; kept = p.is.kept; no_more = Is_queued (queue ∙ waits) (λ t. not (sym purpose ∙ t)) (p.is.asked tt) }) (λ t. purpose ∙ tells t)
          by (Is_sent empty told asked) =
              let p = place (Unit {0}) (λ one. asked) in
              Still_up p.places (record { sleeps = p.is.sleeps; kept = p.is.kept; no_more = Is_sent (queue ∙ empty) (purpose ∙ told) (p.is.asked tt) }) (λ t. purpose ∙ tells t)

      -- another request is under way then, or none
      other : (g : HostState) → (IsTelling n h → ⊥) → g.requests.queue ≡ h.requests.queue → (IsTelling n g → ⊥)
          → ((Told_it : Type 0) → (Told_it → (node_of h n).no_more ≡ Queued) → PlaceIs (UpNode Told_it) n g.nodes) → Is g
      other g not_before queue not_then place = by up.no_more
        where
          by : NoMoreAt n h → Is g
          by (Not_asked empty not) =
              let p = place ⊥ (λ none. absurd none) in Still_up p.places (record { sleeps = p.is.sleeps; kept = p.is.kept; no_more = Not_asked (queue ∙ empty) not_then }) (λ t. absurd (not_before (tells t)))
          by (Is_queued waits not asked) =
              let p = place (Unit {0}) (λ one. asked) in
              Still_up p.places (record { sleeps = p.is.sleeps; kept = p.is.kept; no_more = Is_queued (queue ∙ waits) not_then (p.is.asked tt) }) (λ t. absurd (not_before (tells t)))
          by (Is_sent empty told asked) = absurd (not_before told)

      pub up_apart : (event : HostEvent) → AllowsAt MineUp h event → AllowsWaking MineUp h event → (after h event).requests ≡ h.requests → Is (after h event)
      up_apart event allows wakes requests =
          still (after h event) (ap (λ (r : RequestsState). r.queue) requests) (same_purpose h (after h event) requests) (λ Told_it asked. up_place Told_it h event allows wakes (here Told_it asked))

      -- a part of an attempt is submitted
      pub up_submits : (event : HostEvent) → AllowsAt MineUp h event → AllowsWaking MineUp h event → (IsTelling n h → ⊥) → (after h event).requests.queue ≡ h.requests.queue → (IsTelling n (after h event) → ⊥) → Is (after h event)
      up_submits event allows wakes not_before queue not_then = other (after h event) not_before queue not_then (λ Told_it asked. up_place Told_it h event allows wakes (here Told_it asked))

      -- ---- its request ends

      module _ (u : UnderWay) (is : h.requests.under_way ≡ Some u) (how : How) (moment : Moment) where
        abbrev over : HostState
        over = record h { requests = finished h.requests u how }

        purpose_is : request_purpose h ≡ Some u.purpose
        purpose_is = ap purposes is

        none_told : (g : HostState) → g.requests ≡ over.requests → IsTelling n g → ⊥
        none_told g same told = let none : request_purpose g ≡ None = same_purpose over g same in let wrong : None ≡ Some (Housekeeping (NoMore n)) = sym none ∙ told in absurd cc

        signed : (k : ℕ) → (IsTelling n h → ⊥) → Is (with_node over k (after_sign (node_of over k)))
        signed k not =
            other (with_node over k (after_sign (node_of over k))) not refl (none_told (with_node over k (after_sign (node_of over k))) refl)
            (λ Told_it asked. each_place (UpNode Told_it) GoesUp aside_up (goes_up Told_it) n within h.nodes k Succeeds (λ same. tt) (here Told_it asked))

        ends_task : (task : Task) → u.purpose ≡ Housekeeping task → (IsTelling n h → ⊥) → Is (after_task over task)
        ends_task (NoMore k) task_is not =
            other (with_node over k (after_no_more_end (node_of over k))) not refl (none_told (with_node over k (after_no_more_end (node_of over k))) refl)
            (λ Told_it asked. each_place (UpNode Told_it) GoesUp aside_up (goes_up Told_it) n within h.nodes k Ends_no_more
            (λ same. not (purpose_is ∙ ap Some (task_is ∙ ap (λ (j : ℕ). Housekeeping (NoMore j)) same))) (here Told_it asked))
        ends_task task task_is not = other over not refl (none_told over refl) (λ Told_it asked. here Told_it asked)

        ends_other : (purpose : Purpose) → u.purpose ≡ purpose → EndsSo purpose how → (IsTelling n h → ⊥) → Is (after_end over (record { purpose = purpose; how = how }) moment)
        ends_other (Attempt k more payload) purpose so not =
            subst (λ (w : How). Is (after_part over k (part_end more w) moment)) (sym so) (subst (λ (end : PartEnd). Is (after_part over k end moment)) (sym (part_well more)) (signed k not))
        ends_other (Housekeeping task) purpose so not = ends_task task purpose not
        ends_other Abort purpose so not = other over not refl (none_told over refl) (λ Told_it asked. here Told_it asked)

        gone : h.requests.queue ≡ [] → (node_of h n).no_more ≡ Queued → Is (with_node over n (after_no_more_end (node_of over n)))
        gone empty asked =
            let p = set_place (DownNode (Unit {0})) n h.nodes (after_no_more_end (node_of h n)) within places (told_down_so (node_of h n) up.sleeps up.kept asked) in
            Gone (record { places = p.places; down = record { sleeps = p.is.sleeps; asleep = p.is.asleep; idle = p.is.idle; no_request = refl; no_task = empty }; unasked = p.is.unasked; nothing = p.is.nothing })

        ended : EndsSo u.purpose how → Is (after_end over (record { purpose = u.purpose; how = how }) moment)
        ended so = by up.no_more
          where
            by : NoMoreAt n h → Is (after_end over (record { purpose = u.purpose; how = how }) moment)
            by (Not_asked empty not) = ends_other u.purpose refl so not
            by (Is_queued waits not asked) = ends_other u.purpose refl so not
            by (Is_sent empty told asked) =
                let both : Some u.purpose ≡ Some (Housekeeping (NoMore n)) = sym purpose_is ∙ told in
                let purpose : u.purpose ≡ Housekeeping (NoMore n) = cc in
                subst (λ (p : Purpose). Is (after_end over (record { purpose = p; how = how }) moment)) (sym purpose) (gone empty asked)

      next_alive : (step : UnderWay → Next) (moment : Moment) → EndsWell (end_from step h.requests.under_way)
          → Is (after_end_if (record h { requests = next_from h.requests step h.requests.under_way }) (end_from step h.requests.under_way) moment)
      next_alive step moment lasts = by h.requests.under_way refl lasts
        where
          went : (u : UnderWay) → h.requests.under_way ≡ Some u → (x : Next) → EndsWell (end_of u x) → Is (after_end_if (record h { requests = went_on h.requests u x }) (end_of u x) moment)
          went u is (next.GoesOn progress) so = still (record h { requests = went_on h.requests u (next.GoesOn progress) }) refl (sym (ap purposes is)) (λ Told_it asked. here Told_it asked)
          went u is (next.Ends how) so = ended u is how moment so

          by : (o : Option UnderWay) → h.requests.under_way ≡ o → EndsWell (end_from step o) → Is (after_end_if (record h { requests = next_from h.requests step o }) (end_from step o) moment)
          by None is so = still (record h { requests = next_from h.requests step None }) refl refl (λ Told_it asked. here Told_it asked)
          by (Some u) is so = went u is (step u) so

      pub request_alive : (event : RequestsEvent) (moment : Moment) → IsTold event → EndsWell (end_at h.requests event) → Is (after h (Requests_do event moment))
      request_alive IsSent moment told lasts = next_alive at_sent moment lasts
      request_alive Fails moment told lasts = next_alive (λ u. next.Ends LinkFailed) moment lasts
      request_alive (Responds response) moment told lasts = next_alive (at_response response) moment lasts
      request_alive (CallsBack id status) moment told lasts = next_alive (at_callback h.requests.last_id id status) moment lasts
      request_alive (Updates update) moment told lasts = next_alive (at_update h.requests.first update) moment lasts
      request_alive request_ticks moment told lasts = next_alive at_tick moment lasts
      request_alive event moment told lasts = absurd told

      up_quietly : (event : HostEvent) → IsJudgedQuietly event → LastsAt h event → Is (after h event)
      up_quietly (Hears item) quiet lasts = up_apart (Hears item) tt tt refl
      up_quietly (Requests_do event moment) quiet lasts = request_alive event moment quiet lasts
      up_quietly (Unreads k payload) quiet lasts = Still_up places up tells
      up_quietly (Is_unkept k) quiet lasts = Still_up places up tells
      up_quietly (Reports_old k id) quiet lasts = Still_up places up tells
      up_quietly (Works k id) quiet lasts = up_apart (Works k id) tt tt refl
      up_quietly (Finishes k session id command status wake) quiet lasts = up_apart (Finishes k session id command status wake) tt tt (finished_requests h k id command status wake)
      up_quietly (Takes_nonce k seen text) quiet lasts = up_apart (Takes_nonce k seen text) tt tt refl
      up_quietly (Hears_value k setting) quiet lasts = up_apart (Hears_value k setting) tt tt refl
      up_quietly (Has_no_room k property) quiet lasts = Still_up places up tells
      up_quietly event quiet lasts = absurd quiet

      up_line : h.side.turn ≡ no_turn → Is (after h Line_ticks)
      up_line idle =
          subst (λ (t : Turn). Is (failing_if (gives_up t (turn_ticked t)) (line_ticked h))) (sym idle) (still (line_ticked h) refl refl (λ Told_it asked. here Told_it asked))

      up_node : (k : ℕ) → (node_of h k).attempt_wait ≢ 1 → Is (after h (Node_ticks k))
      up_node k lasts = up_apart (Node_ticks k) (λ same. lasts) tt (ticked_requests h k)

    pub quietly_alive : (h : HostState) (event : HostEvent) → IsJudgedQuietly event → LastsAt h event → Is h → Is (after h event)
    quietly_alive h event quiet lasts (Still_up places up tells) = up_quietly h places up tells event quiet lasts
    quietly_alive h event quiet lasts (Gone d) = Gone (quietly_down (Unit {0}) h event quiet d)

    pub line_alive : (h : HostState) → h.side.turn ≡ no_turn → Is h → Is (after h Line_ticks)
    line_alive h idle (Still_up places up tells) = up_line h places up tells idle
    line_alive h idle (Gone d) = Gone (line_down (Unit {0}) h idle d)

    pub node_alive : (h : HostState) (k : ℕ) → (node_of h k).attempt_wait ≢ 1 → Is h → Is (after h (Node_ticks k))
    node_alive h k lasts (Still_up places up tells) = up_node h places up tells k lasts
    node_alive h k lasts (Gone d) = Gone (node_down (Unit {0}) h k lasts d)

    pub ticks_alive : (h : HostState) (moment : Moment) → EndsWell (end_at h.requests request_ticks) → Is h → Is (after h (Requests_do request_ticks moment))
    ticks_alive h moment lasts (Still_up places up tells) = request_alive h places up tells request_ticks moment tt lasts
    ticks_alive h moment lasts (Gone d) = Gone (request_down (Unit {0}) h request_ticks moment tt d)
