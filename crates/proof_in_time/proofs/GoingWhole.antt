-- Where the devices of some nodes list neither Security 0 nor Transport Service, the host takes these to list none of the two at any event, and so the orders for them go whole. Where they do not list
-- Security 0, these go unsealed.
use Rattle.std.proofs.Common.{◌≡◌, ℕ, zero, suc, Bool, true, false, if◌then◌else◌, ◌==◌, List, [], ◌∷◌, ◌++◌, refl, sym, ap, ◌∙◌}
use Rattle.std.specs.Prelude.{◌≢◌, ◌≤◌, Option, Some, None}
use Rattle.std.specs.List.{AllByRecursion}
use Rattle.zw_base.specs.declared.order.Order.{Order}
use Rattle.zw_text.specs.declared.entry.Entry.{Entry}
use Rattle.law_transcript.specs.Nodes.{always, first_node, is_interviewed, known_at_first}
use Rattle.chip_sim.specs.Nodes.{is_marked}
use Rattle.device_kinds.specs.Kind.{classes_of as kind_classes}
use Rattle.device_kinds.specs.declared.kind.Kind.TheVariants.{Switch}
use Rattle.host_orders.specs.Classes.{lists}
use Rattle.host_orders.specs.Wrapping.{form_of}
use Rattle.host_orders.specs.declared.carriage.Carriage.{Carriage}
use Rattle.host_orders.specs.declared.carriage.Form.{Form}
use Rattle.host_orders.specs.declared.carriage.Form.TheVariants.{Plain, Sealed}
use Rattle.host_model.specs.Events.{HostEvent, Accepts}
use Rattle.host_model.specs.May.{IsAccepted, May as MayHost}
use Rattle.host_model.specs.State.{HostState, node_of}
use Rattle.host_model.specs.Taking.{is_secure}
use Rattle.world_model.specs.Did.{MayAll, happens_all}
use Rattle.world_model.specs.Events.{Event, Host_does, entries, happens, May}
use Rattle.world_model.specs.State.{Machine}
use Rattle.proof_course_plain.specs.World.{ComesOfLine, IsOfLine, OrderPlain, OrdersPlain}
use Rattle.proof_spoken.specs.Restarts.{AllStartWell}
use Rattle.proof_spoken.specs.Said.{AllTell, KnowsListing, Tells}
use Rattle.proof_in_time.specs.Coming.{GoesWhole, is_layered}
use Rattle.proof_in_time.specs.InStep.{IsNear}
use Rattle.proof_in_time.specs.Openly.{GoesOpenly}
use Rattle.proof_in_time.proofs.Commands.{AllGo, AreFree, AreNearAt, accepted_openly, accepted_whole, machine_goes}

-- ---- what lines ask

-- a payload may be any
abbrev pub IsAnything : List ℕ → Type 0
IsAnything payload = Unit {0}

near_of : (event : HostEvent) → IsOfLine (Unit {0}) IsAnything 0 event → (n : ℕ) → IsNear n event
near_of (Accepts order carriage) comes n = λ own. comes tt
near_of event comes n = tt

pub comes_near : (these : List Bool) (event : Event) → ComesOfLine (Unit {0}) IsAnything 0 event → AreNearAt these event
comes_near these (Host_does event) comes = λ n marked. near_of event comes n
comes_near these event comes = λ n marked. tt

-- ---- what the host takes a node to list

-- before an interview, a switch
first_open : (is_first : Bool) → is_layered (if is_first then Some (kind_classes Switch) else None) ≡ false
unfolding lists
first_open true = refl
first_open false = refl

first_bare : (is_first : Bool) → is_secure (if is_first then Some (kind_classes Switch) else None) ≡ false
unfolding lists
first_bare true = refl
first_bare false = refl

-- ---- over events

-- no command was accepted
pub none_go : (Goes : Order → Carriage → Type 0) (these : List Bool) → AllGo Goes these []
none_go Goes these zero command found marked = absurd cc
none_go Goes these (suc place) command found marked = absurd cc

-- an event keeps what the host knows of what nodes list
abbrev pub KeepsKnowing : (ℕ → List ℕ) → Type 0
KeepsKnowing listing =
    (past : List Entry) (m : Machine) (event : Event) → May m event → Tells listing m event → KnowsListing (always listing) past m.host.state → KnowsListing (always listing) (past ++ entries m event) (happens m event).host.state

-- where it lists no class of some, an order that is accepted goes so, and unsealed
pub record Rule (Goes : Order → Carriage → Type 0) (listed : Option (List ℕ) → Bool) : Type 0 where
  pub accepted : (h : HostState) (order : Order) (carriage : Carriage) → IsAccepted h order carriage → listed (node_of h order.node).classes ≡ false → order.end ≤ 127 → Goes order carriage
  pub unsealed : (order : Order) (carriage : Carriage) → Goes order carriage → form_of carriage.outer ≢ Sealed
  pub at_first : (is_first : Bool) → listed (if is_first then Some (kind_classes Switch) else None) ≡ false

module _ (Goes : Order → Carriage → Type 0) (listed : Option (List ℕ) → Bool) (rule : Rule Goes listed) (these : List Bool) where
  known_free : (listing : ℕ → List ℕ) (told : List Entry) (h : HostState) (n : ℕ) → KnowsListing (always listing) told h → listed (Some (listing n)) ≡ false → listed (node_of h n).classes ≡ false
  known_free listing told h n knows openly = ap listed (knows n) ∙ by (is_interviewed told n)
    where
      by : (b : Bool) → listed (if b then Some (listing n) else known_at_first n) ≡ false
      by true = openly
      by false = rule.at_first (n == first_node)

  order_plain : (h : HostState) (event : HostEvent) → MayHost h event → AreFree listed these h → ((n : ℕ) → is_marked these n ≡ true → IsNear n event) → (n : ℕ) → is_marked these n ≡ true → OrderPlain n event
  order_plain h (Accepts order carriage) may bare near n marked =
      λ own. rule.unsealed order carriage (rule.accepted h order carriage may (bare order.node (ap (is_marked these) own ∙ marked)) (near n marked own))
  order_plain h event may bare near n marked = tt

  machine_plain : (m : Machine) (event : Event) → May m event → AreFree listed these m.host.state → AreNearAt these event → (n : ℕ) → is_marked these n ≡ true → OrdersPlain n event
  unfolding May
  machine_plain m (Host_does event) may bare near n marked = order_plain m.host.state event may.0 bare near n marked
  machine_plain m event may bare near n marked = tt

  module _ (listing : ℕ → List ℕ) (law : KeepsKnowing listing) (openly : (n : ℕ) → is_marked these n ≡ true → listed (Some (listing n)) ≡ false) where
    -- the orders of these events go unsealed, and after them each command goes so
    pub all_go : (told : List Entry) (m : Machine) (events : List Event) → MayAll m events → AllStartWell m events → AllTell listing m events → AllByRecursion (AreNearAt these) events → KnowsListing (always listing) told m.host.state
        → AllGo Goes these m.host.state.commands → AllGo Goes these (happens_all m events).host.state.commands × ((n : ℕ) → is_marked these n ≡ true → AllByRecursion (OrdersPlain n) events)
    all_go told m [] may starts tells near knows go = (go, λ n marked. tt)
    all_go told m (event ∷ events) may starts tells near knows go =
        let bare : AreFree listed these m.host.state = λ n marked. known_free listing told m.host.state n knows (openly n marked) in
        let rest = all_go (told ++ entries m event) (happens m event) events may.1 starts.1 tells.1 near.1 (law told m event may.0 tells.0 knows) (machine_goes Goes listed rule.accepted these m event starts.0 may.0 bare near.0 go) in
        (rest.0, λ n marked. (machine_plain m event may.0 bare near.0 n marked, rest.1 n marked))

-- ---- whole, and unsealed

pub rule_whole : Rule GoesWhole is_layered
rule_whole = record { accepted = accepted_whole; unsealed = λ order carriage goes sealed. absurd (let wrong : ◌≡◌ {A = Form} Plain Sealed = sym goes.plain ∙ sealed in cc); at_first = first_open }

pub rule_openly : Rule GoesOpenly is_secure
rule_openly = record { accepted = accepted_openly; unsealed = λ order carriage goes. goes.unsealed; at_first = first_bare }
