-- Segments stay on their way at an event of the host that accepts an order, or is of its tick.
use Rattle.std.proofs.Common.{◌≡◌, ◌≤◌, ◌<◌, ℕ, zero, suc, ◌+◌, Bool, List, [], ◌∷◌, ◌++◌, length, refl, sym, ap, ◌∙◌, subst, arith}
use Rattle.std.proofs.lemmas.List.{append-nil}
use Rattle.std.specs.Prelude.{Option, Some, None}
use Rattle.zw_base.specs.declared.order.Order.{Order}
use Rattle.zw_text.specs.declared.line.Line.{Line}
use Rattle.serial_frame.specs.Frame.{FrameParts}
use Rattle.serial_link.specs.declared.turn.Turn.TheVariants.{Idle as no_turn}
use Rattle.supervision.specs.Host.{command_at as command_of_session}
use Rattle.host_keep.specs.Kept.{Taken}
use Rattle.host_orders.specs.Wrapping.{form_of, message_of}
use Rattle.host_orders.specs.declared.carriage.Carriage.{Carriage}
use Rattle.host_requests.specs.Events.RequestsEvent.{Ticks as request_ticks}
use Rattle.host_node.specs.declared.attempt.Moment.TheVariants.{BeforeItsTick}
use Rattle.host_node.specs.declared.series.Series.TheVariants as series
use Rattle.host_model.specs.After.{after}
use Rattle.host_model.specs.Events.{HostEvent, Accepts, Line_ticks, Node_ticks, Requests_do}
use Rattle.host_model.specs.State.{Command, HostState, command_at, node_of}
use Rattle.world_model.specs.Events.{Event, Host_does, happens}
use Rattle.world_model.specs.State.{Machine}
use Rattle.world_model.proofs.Hosting.{devices_host-all}
use Rattle.proof_messages.specs.Reporting.{TellsPlainly}
use Rattle.proof_course_plain.specs.proof_host.Tables.{taken_at, taken_by}
use Rattle.proof_spoken.proofs.Orders.{event_kept}
use Rattle.proof_answered.specs.proof_calm.proof_traffic.OnAir.{on_air}
use Rattle.proof_answered.specs.proof_calm.proof_work.proof_walk.Phases.{Phase, Doing, Ticking_host}
use Rattle.proof_answered.specs.proof_calm.Tied.{All, IsNodeTick, Nodes, Request, TickLeft, unheard}
use Rattle.proof_answered.specs.Workers.{IsFromSaying}
use Rattle.proof_answered.proofs.Calm.{does_calm}
use Rattle.proof_answered.proofs.Unheard.{does_says}
use Rattle.proof_answered.proofs.proof_traffic_Parts.{Airs}
use Rattle.proof_in_time.specs.Coming.{IsAsking, one_later, ticks_left}
use Rattle.proof_in_time.specs.Owed.{IsFreeIn, IsOwed}
use Rattle.proof_in_time.specs.Parts.{IsCut, Parts}
use Rattle.proof_in_time.proofs.PartsCarried.{AllHome, GivesIn, SameFor, Wraps, itself_wraps, wraps_pile}
use Rattle.proof_in_time.proofs.PartsKept.{GivesAs, LeavesAsked, LeavesParts, event_as, event_on, gives_itself}
use Rattle.proof_in_time.proofs.PartsPhases.{parts_stay, same_first}

-- ---- the command of a session

pub host_then : (m : Machine) (event : HostEvent) → (happens m (Host_does event)).host.state ≡ after m.host.state event
unfolding happens
host_then m event = refl

-- where each order is as it was taken
pub cut_same : (n session : ℕ) (message : List ℕ) (old new : HostState) → ((number : ℕ) → taken_at new.commands number ≡ taken_at old.commands number) → (node_of new n).book.commands ≡ (node_of old n).book.commands → IsCut n session message old
    → IsCut n session message new
cut_same n session message old new same books cut = by (command_at new.commands cut.number) refl
  where
    was : taken_at new.commands cut.number ≡ Some (record { order = cut.command.order; carriage = cut.command.carriage })
    was = same cut.number ∙ ap taken_by cut.found

    by : (found : Option Command) → command_at new.commands cut.number ≡ found → IsCut n session message new
    by None is = absurd (let wrong : taken_by None ≡ Some (record { order = cut.command.order; carriage = cut.command.carriage }) = sym (ap taken_by is) ∙ was in cc)
    by (Some command) is =
        let both : taken_by (Some command) ≡ Some (record { order = cut.command.order; carriage = cut.command.carriage }) = sym (ap taken_by is) ∙ was in
        let one : ◌≡◌ {A = Taken} (record { order = command.order; carriage = command.carriage }) (record { order = cut.command.order; carriage = cut.command.carriage }) = cc in
        record {
          number = cut.number;
          command = command;
          carried = ap (λ (cs : List ℕ). command_of_session cs session) books ∙ cut.carried;
          found = is;
          form = ap (λ (t : Taken). form_of t.carriage.outer) one ∙ cut.form;
          text = cut.text ∙ ap (λ (t : Taken). message_of t.carriage t.order session) (sym one);
        }

found_more : (commands more : List Command) (number : ℕ) (command : Command) → command_at commands number ≡ Some command → command_at (commands ++ more) number ≡ Some command
found_more commands more zero command found = absurd cc
found_more [] more (suc before) command found = absurd cc
found_more (first ∷ commands) more (suc zero) command found = found
found_more (first ∷ commands) more (suc (suc before)) command found = found_more commands more (suc before) command found

pub cut_stays : (n session : ℕ) (message : List ℕ) (h : HostState) (event : HostEvent) → (node_of (after h event) n).book.commands ≡ (node_of h n).book.commands → IsCut n session message h → IsCut n session message (after h event)
cut_stays n session message h (Accepts order carriage) books cut = record {
  number = cut.number;
  command = cut.command;
  carried = ap (λ (cs : List ℕ). command_of_session cs session) books ∙ cut.carried;
  found = found_more h.commands _ cut.number cut.command cut.found;
  form = cut.form;
  text = cut.text;
}
cut_stays n session message h event books cut = cut_same n session message h (after h event) (event_kept h event tt).taken books cut

-- ---- an event of the host

module _ (airs : Airs) (these : List Bool) (n session : ℕ) (within : n < 233) (here to : Phase) (m : Machine) (event : HostEvent) (calm : IsAsking here → ⊥) (leaves : LeavesParts m.host.state event) (asks : LeavesAsked event)
    (places : length m.host.state.nodes ≡ 233) (running : (node_of (after m.host.state event) n).series ≡ series.Running) where
  abbrev then_done : Machine
  then_done = happens m (Host_does event)

  abbrev Comes : FrameParts → Type 0
  Comes frame = IsFromSaying these TellsPlainly frame

  pub gives : GivesAs (node_of m.host.state n) (node_of (after m.host.state event) n).book.commands (node_of (after m.host.state event) n).next_segment (node_of (after m.host.state event) n).segments (node_of (after m.host.state event) n).text (node_of (after m.host.state event) n).pending
  gives = (event_on n within (node_of m.host.state n) m.host.state event leaves (record { places = places; gives = gives_itself (node_of m.host.state n) })).gives running

  pub same : SameFor n here m.host.state (happens m (Host_does event)).host.state
  same =
      subst (SameFor n here m.host.state) (sym (host_then m event))
      (record {
        queue = (event_as m.host.state event leaves asks).0;
        last_id = (event_as m.host.state event leaves asks).1;
        next_is = gives.next_is;
        count = gives.count;
        text_is = gives.text_is;
        pending_is = gives.pending_is;
        asked = λ asking. absurd (calm asking);
      })

  pub host_on : (IsOwed here m → IsOwed to then_done) → (IsFreeIn here m → AllHome (on_air m.outside.outer.air.frames) → IsFreeIn to then_done) → ((place : ℕ) → ticks_left to + one_later to place ≤ ticks_left here + one_later here place) → (GivesIn here m × GivesIn to then_done → (place : ℕ) → one_later here place ≡ 1 → one_later to place ≡ 1) → ((first second : ℕ) → first < second → second < length (on_air m.outside.outer.air.frames) → one_later here second ≤ one_later here first → one_later to second ≤ one_later to first) → (left : ℕ)
      → Parts these n session left here m → Parts these n session left to then_done
  host_on owed free joint apart level left parts =
      parts_stay these n session here to m then_done same
      (λ message cut. subst (IsCut n session message) (sym (host_then m event)) (cut_stays n session message m.host.state event gives.commands_are cut)) (λ is due. owed is) free (λ asking frame on. absurd (calm asking))
      (does_says Comes (Wraps Comes (unheard m.outside.outer)) (wraps_pile Comes (unheard m.outside.outer)) airs m event (itself_wraps Comes (unheard m.outside.outer)))
      (record { more = []; are = (does_calm airs m event).on ∙ sym (append-nil (on_air m.outside.outer.air.frames)); plain = tt }) (same_first n m.outside.devices then_done.outside.devices (devices_host-all m (event ∷ []))) left
      (λ place in_it. joint place) apart level parts

-- what an event of the tick leaves
pub tick_asks : (h : HostState) (counted : Bool) (first : HostEvent) (events : List HostEvent) → TickLeft counted (first ∷ events) → h.side.turn ≡ no_turn → LeavesParts h first × LeavesAsked first
tick_asks h counted first events (All nodes are is none) turn = let one : first ≡ Line_ticks = cc in (subst (LeavesParts h) (sym one) turn, subst LeavesAsked (sym one) tt)
tick_asks h counted first events (Request nodes are is none) turn = let one : first ≡ Requests_do request_ticks BeforeItsTick = cc in (subst (LeavesParts h) (sym one) tt, subst LeavesAsked (sym one) tt)
tick_asks h counted first events (Nodes nodes done) turn = node first nodes.0
  where
    node : (event : HostEvent) → IsNodeTick event → LeavesParts h event × LeavesAsked event
    node (Node_ticks k) is = (tt, tt)
    node event is = absurd is

-- ---- an order, and a tick

module _ (airs : Airs) (these : List Bool) (n session : ℕ) (within : n < 233) where
  pub accepts_parts : (line : Line) (more : List Event) (order : Order) (carriage : Carriage) (m : Machine) (left : ℕ) → length m.host.state.nodes ≡ 233 → (node_of (after m.host.state (Accepts order carriage)) n).series ≡ series.Running
      → Parts these n session left (Doing line (Host_does (Accepts order carriage) ∷ more)) m → Parts these n session left (Doing line more) (happens m (Host_does (Accepts order carriage)))
  accepts_parts line more order carriage m left places running parts =
      host_on airs these n session within (Doing line (Host_does (Accepts order carriage) ∷ more)) (Doing line more) m (Accepts order carriage) (λ asking. asking) tt tt places running (λ is. absurd is) (λ is home. tt) (λ place. omega arith) (λ gives place one. one) (λ first second before in_it level. omega arith) left parts

  -- an event of the tick
  ticked_on : (first : HostEvent) (events : List HostEvent) (ticks : ℕ) (m : Machine) (left : ℕ) → LeavesParts m.host.state first → LeavesAsked first → length m.host.state.nodes ≡ 233 → (node_of (after m.host.state first) n).series ≡ series.Running
      → Parts these n session left (Ticking_host (first ∷ events) ticks) m → Parts these n session left (Ticking_host events ticks) (happens m (Host_does first))
  ticked_on first events ticks m left leaves asks places running parts =
      host_on airs these n session within (Ticking_host (first ∷ events) ticks) (Ticking_host events ticks) m first (λ asking. asking) leaves asks places running (λ is. tt) (λ is home. tt) (λ place. omega arith) (λ gives place one. refl) (λ first second before in_it level. omega arith) left parts

  pub tick_parts : (counted : Bool) (first : HostEvent) (events : List HostEvent) (ticks : ℕ) (m : Machine) (left : ℕ) → TickLeft counted (first ∷ events) → m.host.state.side.turn ≡ no_turn → length m.host.state.nodes ≡ 233
      → (node_of (after m.host.state first) n).series ≡ series.Running → Parts these n session left (Ticking_host (first ∷ events) ticks) m → Parts these n session left (Ticking_host events ticks) (happens m (Host_does first))
  tick_parts counted first events ticks m left tick_left turn places running parts =
      let leaves = tick_asks m.host.state counted first events tick_left turn in ticked_on first events ticks m left leaves.0 leaves.1 places running parts
