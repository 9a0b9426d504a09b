-- A node listens by the devices of the beginning as it does by those that these have become.
use Rattle.std.proofs.Common.{◌≡◌, ℕ, suc, ◌==◌, ◌||◌, Bool, true, false, if◌then◌else◌, List, [], ◌∷◌, refl, sym, ap, ◌∙◌}
use Rattle.std.proofs.lemmas.Bool.{ne_eqb}
use Rattle.std.specs.Prelude.{Option, Some, None}
use Rattle.std.specs.Option.{option_map}
use Rattle.device_kinds.specs.declared.kind.Kind.{Kind}
use Rattle.device_sim.specs.Kind.{listens}
use Rattle.device_sim.specs.State.{State}
use Rattle.mesh_sim.specs.Fates.{place_of}
use Rattle.zw_text.specs.declared.entry.Entry.{Entry}
use Rattle.law_wire.specs.law_transcript.Nodes.{first_node, is_joined, device_of}
use Rattle.law_wire.specs.Networks.{is_listener, listens_at}
use Rattle.outside_model.specs.Results.{device_at}
use Rattle.outside_model.specs.Nodes.{listens_at as listens_now}
use Rattle.proof_walk.specs.proof_device.GoingOn.{AreSame}

later_place : (device : State) (devices : List State) (place : Option ℕ) → device_at (device ∷ devices) (option_map suc place) ≡ device_at devices place
later_place device devices None = refl
later_place device devices (Some place) = refl

pub listener_same : (old new : List State) → AreSame old new → (node : ℕ) → listens_now (device_at new (place_of node new)) ≡ is_listener (device_of node old)
listener_same [] [] same node = refl
listener_same [] (y ∷ new) same node = absurd same
listener_same (x ∷ old) [] same node = absurd same
listener_same (x ∷ old) (y ∷ new) same node =
    ap (λ (b : Bool). listens_now (device_at (y ∷ new) (if b then Some 0 else option_map suc (place_of node new)))) (ap (λ (n : ℕ). n == node) same.0.node)
    ∙ by (x.node == node) (listener_same old new same.1 node)
  where
    by : (b : Bool) → listens_now (device_at new (place_of node new)) ≡ is_listener (device_of node old)
        → listens_now (device_at (y ∷ new) (if b then Some 0 else option_map suc (place_of node new))) ≡ is_listener (if b then Some x else device_of node old)
    by true rest = ap (λ (k : Kind). listens k) same.0.kind
    by false rest = ap listens_now (later_place y new (place_of node new)) ∙ rest

-- a node that is not joined is not the first
pub new_listens : (devices now : List State) (past : List Entry) → AreSame devices now → (node : ℕ) → is_joined past node ≡ false → listens_now (device_at now (place_of node now)) ≡ listens_at devices node
new_listens devices now past same node fresh =
    listener_same devices now same node ∙ sym (ap (λ (b : Bool). b || is_listener (device_of node devices)) (ne_eqb node first_node (λ is. first (ap (λ (n : ℕ). is_joined past n) (sym is) ∙ fresh))))
  where
    first : is_joined past first_node ≡ false → ⊥
    first none = let bad : true ≡ false = none in cc
