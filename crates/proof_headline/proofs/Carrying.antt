-- An order that is accepted for a node without Security 0 goes unsealed.
use Rattle.std.proofs.Common.{◌≡◌, ◌≢◌, ℕ, ◌&&◌, nat_lt, nat_le, ◌+◌, Bool, true, false, if◌then◌else◌, List, Some, ap, sym, subst}
use Rattle.zw_base.specs.declared.order.Order.{Order}
use Rattle.encap.specs.declared.plan.Outer.{Outer}
use Rattle.encap.specs.declared.plan.Outer.TheVariants.{None as no_outer, Crc16, Security, Transport}
use Rattle.host_orders.specs.Classes.{lists, actuator_of}
use Rattle.host_orders.specs.Wrapping.{form_of, wrapped_len}
use Rattle.host_orders.specs.declared.carriage.Carriage.{Carriage}
use Rattle.host_orders.specs.declared.carriage.Form.TheVariants.{Sealed}
use Rattle.host_node.specs.TableState.{node_of}
use Rattle.host_model.specs.State.{HostState}
use Rattle.host_model.specs.May.{IsAccepted}
use Rattle.proof_headline.specs.Plain.{IsOpenList}

unsealed_by : (sealed long crc : Bool) → sealed ≡ false → form_of (if sealed then Security else if long then Transport else if crc then Crc16 else no_outer) ≢ Sealed
unsealed_by true long crc unsealed = absurd cc
unsealed_by false true crc unsealed = λ e. absurd cc
unsealed_by false false true unsealed = λ e. absurd cc
unsealed_by false false false unsealed = λ e. absurd cc

pub goes_unsealed : (h : HostState) (order : Order) (carriage : Carriage) → IsAccepted h order carriage → ((classes : List ℕ) → (node_of h.nodes order.node).classes ≡ Some classes → IsOpenList classes)
    → form_of carriage.outer ≢ Sealed
goes_unsealed h order carriage accepted opens =
    let classes = accepted.classes in
    let wrapped = wrapped_len (actuator_of classes) order in
    subst (λ (outer : Outer). form_of outer ≢ Sealed) (sym (ap (λ (c : Carriage). c.outer) accepted.carried))
    (unsealed_by (lists classes 0x98) (nat_lt 46 wrapped) (lists classes 0x56 && nat_le (wrapped + 4) 46) (opens classes accepted.listed).unsealed)
