use Rattle.std.proofs.Common.{◌≡◌, ◌+◌, ◌<◌, ◌≤◌, ◌++◌, ◌∷◌, [], ℕ, List, take, length, Bool, sym, ◌∙◌, ap, subst, arith, length-append}
use Rattle.std.specs.Prelude.{filter, not, ◌==◌}
use Rattle.zw_base.specs.declared.property.Name.TheVariants as names
use Rattle.zw_base.specs.declared.property.Property.{Property}
use Rattle.device_kinds.specs.Kind.{all_nodes, nodes_from}
use Rattle.device_kinds.specs.Values.{value_after}
use Rattle.device_kinds.specs.Telling.{is_member_of, members_of}
use Rattle.device_kinds.proofs.NodeLemmas.{members_in, members_out, members_full, members_done, not_zero, is_zero}
use Rattle.device_kinds.proofs.telling.members.Goals as goal
use Rattle.device_kinds.proofs.telling.members.Goals.{then-value-ne0+then-len-from+in_ok-push, else-value-ne0, else-value-ne0-via-then-value-ne0+else-len-from, else-value-ne0-via-else-value-ne0}

pub loop-before-preserved : goal.loop-before-preserved
loop-before-preserved c =
    let values : Property → ℕ = λ property. value_after c.args.journal.now property 0 in
    let at : ℕ → Property = λ n. record { end = c.args.end; name = names.Member c.args.group n } in
    let p : ℕ → Bool = is_member_of values c.args.end c.args.group in
    let all : List ℕ = take 5 (filter p all_nodes) in
    let less : c.loop-before.before < 232 = c.loop-before-test.true in
    let value : c.value.result ≡ values (at (c.loop-before.before + 1)) = c.value.ensures ∙ ap (λ (n : ℕ). values (at n)) c.node-member.ensures in
    let tests : not (c.value.result == 0) ≡ p (c.loop-before.before + 1) = ap (λ (v : ℕ). not (v == 0)) value in
    elim c.if-value-ne0.branch [
      | then-value-ne0+then-len-from+in_ok-push w ↦
          let more : c.if-value-ne0.nodes ≡ c.loop-before.nodes ++ (c.loop-before.before + 1) ∷ [] =
          w.nodes-is ∙ w.in_ok-push.ensures.ok ∙ ap (λ (n : ℕ). c.loop-before.nodes ++ n ∷ []) c.node-member.ensures in
          record {
            found =
                ap (λ (x : List ℕ). take 5 (x ++ filter p (nodes_from (c.loop-before.before + 1)))) more
                ∙ members_in p c.loop-before.before c.loop-before.nodes all less (sym tests ∙ not_zero c.value.result w.if-value-ne0.true) c.loop-before.invariant.found;
            few =
                let long : length c.if-value-ne0.nodes ≡ length (c.loop-before.nodes ++ (c.loop-before.before + 1) ∷ []) = ap length more in
                let one = length-append c.loop-before.nodes ((c.loop-before.before + 1) ∷ []) in
                omega (arith, w.len.ensures, w.from.ensures);
          }
      | else-value-ne0 w ↦ elim w.else-value-ne0.branch [
        | else-value-ne0-via-then-value-ne0+else-len-from v ↦
            let five : length c.loop-before.nodes ≡ 5 = omega (arith, v.len.ensures, v.from.ensures, c.loop-before.invariant.few) in
            record {
              found =
                  ap (λ (x : List ℕ). take 5 (x ++ filter p (nodes_from (c.loop-before.before + 1)))) w.nodes-is
                  ∙ members_full p c.loop-before.before c.loop-before.nodes all five c.loop-before.invariant.found;
              few = subst (λ (x : List ℕ). length x ≤ 5) (sym w.nodes-is) c.loop-before.invariant.few;
            }
        | else-value-ne0-via-else-value-ne0 v ↦ record {
          found =
              ap (λ (x : List ℕ). take 5 (x ++ filter p (nodes_from (c.loop-before.before + 1)))) w.nodes-is
              ∙ members_out p c.loop-before.before c.loop-before.nodes all less (sym tests ∙ is_zero c.value.result v.if-value-ne0.false) c.loop-before.invariant.found;
          few = subst (λ (x : List ℕ). length x ≤ 5) (sym w.nodes-is) c.loop-before.invariant.few;
        }
      ]
    ]

pub returns-clause-value : goal.returns-clause-value
unfolding members_of
returns-clause-value c =
    let values : Property → ℕ = λ property. value_after c.args.journal.now property 0 in
    let p : ℕ → Bool = is_member_of values c.args.end c.args.group in
    let full : 232 ≡ c.loop-before.before = omega arith in
    members_done p c.loop-before.nodes (take 5 (filter p all_nodes)) c.loop-before.invariant.few
    (ap (λ (n : ℕ). take 5 (c.loop-before.nodes ++ filter p (nodes_from n))) full ∙ c.loop-before.invariant.found)
