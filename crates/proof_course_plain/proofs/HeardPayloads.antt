-- In a line the host makes something of a payload only where it has taken it out of its pipe, and what it is asked to send beside orders is what Sets and Gets are.
use Rattle.std.proofs.Common.{◌≡◌, ℕ, List, [], ◌∷◌, sym, subst, ◌≤◌}
use Rattle.std.specs.List.{AllByRecursion}
use Rattle.zw_text.specs.declared.line.Line.{Line}
use Rattle.zw_text.specs.declared.line.Line.TheVariants.{Command, Send, Get, Join, Interview, Cancel, Discover, Neighbours, Failed, Probe}
use Rattle.zw_base.specs.declared.order.Word.{Word}
use Rattle.host_orders.specs.Refusals.{classes_of}
use Rattle.host_orders.specs.Errands.{send_text, get_text}
use Rattle.host_model.specs.State.{node_of}
use Rattle.host_model.specs.May.{known_of}
use Rattle.host_model.specs.Events.{HostEvent, Accepts, Queues, Requests_do, Finishes, Offers, Gives, Spends, Spends_unread, Takes_nonce, Resends, IsOwn}
use Rattle.world_model.specs.State.{Machine}
use Rattle.world_model.specs.Events.{Event, Host_does}
use Rattle.world_model.specs.Did.{AllAlong}
use Rattle.world_model.specs.Lines.{IsEffect}
use Rattle.world_model.specs.Prefixes.{IsLineBefore}
use Rattle.world_model.proofs.Pieces.{Of, Law, Pieces, of_none, of_then, of_line_before}
use Rattle.world_model.proofs.Along.{IsAskedBy, IsOfPart, IsOfEffect, along, pieces_along, effect_along, anywhere}
use Rattle.proof_world.specs.proof_serial.Line.{AreLines}
use Rattle.proof_course_plain.specs.World.{NamesEnd, PushesNone, IsOfLine, ComesOfLine}

module _ (Near : Type 0) (Is : List ℕ → Type 0) (sends : (classes : List ℕ) (word : Word) → Is (send_text classes word)) (gets : (classes : List ℕ) (end : ℕ) → end ≤ 127 → Is (get_text classes end)) (node : ℕ) where
  -- ---- what the host does of itself

  own_ends : (event : HostEvent) → IsOwn event → IsOfLine Near Is node event
  own_ends (Requests_do event moment) own = subst PushesNone (sym own) tt
  own_ends (Accepts order carriage) own = absurd own
  own_ends (Queues task) own = absurd own
  own_ends (Finishes n session id command status wake_request) own = absurd own
  own_ends (Offers n) own = absurd own
  own_ends (Gives n drawn) own = absurd own
  own_ends (Spends n) own = absurd own
  own_ends (Spends_unread n payload) own = absurd own
  own_ends (Takes_nonce n seen text) own = absurd own
  own_ends (Resends n payload) own = absurd own
  own_ends event own = tt

  -- it comes of a line, whatever the machine is
  abbrev Comes : Machine → Event → Type 0
  Comes m event = ComesOfLine Near Is node event

  part_ends : (m : Machine) (event : Event) → IsOfPart m event → Comes m event
  part_ends m (Host_does event) own = own_ends event own
  part_ends m event is = tt

  -- ---- what lines ask

  as_ends : (event these : HostEvent) → event ≡ these → IsOfLine Near Is node these → IsOfLine Near Is node event
  as_ends event these is ends = subst (λ (e : HostEvent). IsOfLine Near Is node e) (sym is) ends

  host_ends : (line : Line) → (Near → NamesEnd line) → (m : Machine) (event : HostEvent) → IsAskedBy line m event → IsOfLine Near Is node event
  host_ends (Command order) names m event is = as_ends event _ is names
  host_ends (Send n word) names m event asks = as_ends event _ asks.is (λ near own. sends (classes_of (known_of (node_of m.host.state n))) word)
  host_ends (Get n end) names m event asks = as_ends event _ asks.is (λ near own. gets (classes_of (known_of (node_of m.host.state n))) end (names near))
  host_ends (Join n) names m event is = as_ends event _ is tt
  host_ends (Interview n) names m event asks = as_ends event _ asks.is tt
  host_ends (Cancel command) names m event is = as_ends event _ is tt
  host_ends Discover names m event is = as_ends event _ is (λ near. tt)
  host_ends (Neighbours n) names m event is = as_ends event _ is (λ near. tt)
  host_ends (Failed n) names m event is = as_ends event _ is (λ near. tt)
  host_ends Probe names m event is = as_ends event _ is tt
  host_ends line names m event is = absurd is

  effect_ends : (line : Line) → (Near → NamesEnd line) → (m : Machine) (event : Event) → IsOfEffect line m event → Comes m event
  effect_ends line names m (Host_does event) is = host_ends line names m event is
  effect_ends line names m event is = tt

  -- ---- lines

  law : Law (AllAlong Comes)
  law = along Comes

  pieces : Pieces (AllAlong Comes)
  pieces = pieces_along Comes part_ends

  effect : (line : Line) → (Near → NamesEnd line) → Of (AllAlong Comes) (IsEffect line)
  effect line names = effect_along Comes line (effect_ends line names)

  lines_come : (lines : List Line) → (Near → AllByRecursion NamesEnd lines) → Of (AllAlong Comes) (AreLines lines)
  lines_come [] names m events is = of_none (AllAlong Comes) law m events is
  lines_come (line ∷ lines) names m events is =
      of_then (AllAlong Comes) law (IsLineBefore lines line) (AreLines lines) (of_line_before (AllAlong Comes) law pieces lines line (effect line (λ near. (names near).0)))
      (lines_come lines (λ near. (names near).1)) m events is

  -- each event comes of a line
  pub lines_end : (lines : List Line) → (Near → AllByRecursion NamesEnd lines) → (m : Machine) (events : List Event) → AreLines lines m events → AllByRecursion (ComesOfLine Near Is node) events
  lines_end lines names m events are = anywhere (ComesOfLine Near Is node) m events (lines_come lines names m events are)
