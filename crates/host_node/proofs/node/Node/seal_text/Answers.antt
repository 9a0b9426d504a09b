-- What seals the pending plain text fits a payload.
use Rattle.std.proofs.Common.{◌≡◌, ℕ, ◌≤◌, Option, Some, None, Ok, IsSome, List, length, refl, ap, sym, subst, ◌∙◌}
use Rattle.std.specs.Option.{SomeIff}
use Rattle.s0_crypto.specs.declared.ends.SealEnds.{SealEnds}
use Rattle.s0_crypto.specs.Seal.{Seals}
use Rattle.host_node.specs.State.{NodeState, ends_to}
use Rattle.host_node.proofs.node.Node.seal_text.Goals as goal

some_of : {X : Type 0} (P : Type 0) (o : Option X) (v : X) → SomeIff o P v → P → IsSome o
some_of P (Some x) v iff p = refl
some_of P None v iff p = absurd (iff p)

value_of : {X : Type 0} (P : Type 0) {o : Option X} {x : X} (v : X) → o ≡ Some x → SomeIff o P v → x ≡ v
value_of {X} P {o} {x} v e iff = (let there : SomeIff (Some x) P v = subst (λ (w : Option X). SomeIff w P v) e iff in there.1)

pub unwrap-requires : goal.unwrap-requires
unwrap-requires c =
    let short : length c.unwrap-bytes.result ≤ 46
    = c.in_ok-seal_pending.ensures.short c.unwrap-bytes.result (ap (λ (o : Option (List ℕ)). Ok o) c.unwrap-bytes.ensures) in
    some_of (length c.as_slice.result.now ≤ 46) c.of.result _ c.of.ensures (subst (λ (bytes : List ℕ). length bytes ≤ 46) (sym c.as_slice.ensures) short)

pub returns : goal.returns
returns c =
    let would = c.in_ok-seal_pending.ensures.sealed c.unwrap-bytes.result (ap (λ (o : Option (List ℕ)). Ok o) c.unwrap-bytes.ensures) in
    let same : c.unwrap-bytes.result ≡ c.unwrap.result = sym (value_of (length c.as_slice.result.now ≤ 46) _ c.unwrap.ensures c.of.ensures ∙ c.as_slice.ensures) in
    let number : c.self.inside.node ≡ c.args.self.now.node = ap (λ (n : NodeState). n.node) c.self.view_is in
    let ends : c.self.inside.sender.ends ≡ ends_to c.args.self.now.node = c.self.invariant.ends ∙ ap ends_to number in
    record {
      plain = would.plain;
      is_pending = sym (ap (λ (n : NodeState). n.pending) c.self.view_is) ∙ would.is_pending;
      seals =
          subst (λ (bytes : List ℕ). Seals c.args.keys.now c.args.drawn c.args.nonce (ends_to c.args.self.now.node) would.plain bytes) same
          (subst (λ (e : SealEnds). Seals c.args.keys.now c.args.drawn c.args.nonce e would.plain c.unwrap-bytes.result) ends would.seals);
    }
