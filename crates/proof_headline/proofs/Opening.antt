-- The host never takes a node whose device is of a plain kind to list Security 0, so its orders go unsealed.
use Rattle.std.proofs.Common.{◌≡◌, ℕ, ◌==◌, Bool, true, false, if◌then◌else◌, List, Option, Some, None, refl, sym, ap, subst, ◌∙◌}
use Rattle.device_kinds.specs.Kind.{classes_of as kind_classes}
use Rattle.device_kinds.specs.declared.kind.Kind.{Kind}
use Rattle.device_kinds.specs.declared.kind.Kind.TheVariants.{Switch}
use Rattle.device_sim.specs.State.{State}
use Rattle.host_orders.specs.Classes.{lists}
use Rattle.host_model.specs.State.{HostState}
use Rattle.host_model.specs.Events.{HostEvent, Accepts}
use Rattle.host_model.specs.May.{May as MayHost}
use Rattle.law_transcript.specs.Nodes.{device_of, known_at_first, listed_by, listing_of}
use Rattle.world_model.specs.State.{Machine}
use Rattle.world_model.specs.Events.{Event, Host_does, May}
use Rattle.proof_spoken.proofs.Classes.{classes_of}
use Rattle.proof_course_sealed.specs.Plain.{OrderPlain, OrdersPlain}
use Rattle.proof_headline.specs.Plain.{IsOpenList, IsPlainKind}
use Rattle.proof_messages.proofs.LockSessions.{some_same}
use Rattle.proof_headline.proofs.Carrying.{goes_unsealed}

-- ---- lists

-- what a plain kind lists
kind_open : (kind : Kind) → IsPlainKind kind → IsOpenList (kind_classes kind)
unfolding lists
kind_open kind plain = record { unsealed = plain.unsealed }

pub listing_open : (devices : List State) (node : ℕ) (device : State) → device_of node devices ≡ Some device → IsPlainKind device.kind → IsOpenList (listing_of devices node)
listing_open devices node device found plain = subst (λ (o : Option State). IsOpenList (listed_by o)) (sym found) (kind_open device.kind plain)

first_by : (hit : Bool) (classes : List ℕ) → (if hit then Some (kind_classes Switch) else None) ≡ Some classes → IsOpenList classes
unfolding lists
first_by true classes e = subst IsOpenList (some_same (kind_classes Switch) classes e) (record { unsealed = refl })
first_by false classes e = absurd cc

pub first_open : (node : ℕ) (known : Option (List ℕ)) → known ≡ known_at_first node → (classes : List ℕ) → known ≡ Some classes → IsOpenList classes
first_open node known is classes e = first_by (node == 2) classes (sym is ∙ e)

-- ---- orders

module _ (node : ℕ) where
  abbrev KnowsOpen : HostState → Type 0
  KnowsOpen h = (classes : List ℕ) → classes_of h.nodes node ≡ Some classes → IsOpenList classes

  order_plain : (h : HostState) (event : HostEvent) → MayHost h event → KnowsOpen h → OrderPlain node event
  order_plain h (Accepts order carriage) may knows = λ own. goes_unsealed h order carriage may (λ classes is. knows classes (ap (λ (k : ℕ). classes_of h.nodes k) (sym own) ∙ is))
  order_plain h event may knows = tt

  pub event_plain : (m : Machine) (event : Event) → May m event → KnowsOpen m.host.state → OrdersPlain node event
  unfolding May
  event_plain m (Host_does event) may knows = order_plain m.host.state event may.0 knows
  event_plain m event may knows = tt
