use Rattle.std.proofs.Common.{◌≡◌, ℕ, ◌+◌, ◌-◌, ◌<◌, List, ◌++◌, sym, ◌∙◌, ap, arith}
use Rattle.std.specs.Prelude.{Option}
use Rattle.std.specs.List.{range_with_len, filter_map}
use Rattle.zw_base.specs.declared.property.Property.{Property}
use Rattle.zw_base.specs.declared.property.Setting.{Setting}
use Rattle.device_kinds.specs.Kind.{property_count, property_at}
use Rattle.device_stack.specs.State.{State}
use Rattle.device_stack.specs.Showing.{shown_at}
use Rattle.device_stack.proofs.ShowingLemmas.{shown_in, shown_out}
use Rattle.device_stack.proofs.stack.Stack.show.Goals as goal
use Rattle.device_stack.proofs.stack.Stack.show.Goals.{in-Some+in_ok-push-in-Some, in-None}

pub loop-at-preserved : goal.loop-at-preserved
loop-at-preserved c =
    let f : ℕ → Option Setting = λ at. shown_at c.args.self.now (property_at c.args.self.now.kind at) in
    let n : ℕ = property_count c.args.self.now.kind in
    let total : List Setting = filter_map f (range_with_len 0 n) in
    let rest : List Setting = filter_map f (range_with_len (0 + (c.loop-at.at + 1)) (n - (c.loop-at.at + 1))) in
    let counted : c.property_count-at-end.result ≡ n = c.property_count-at-end.ensures ∙ ap (λ (s : State). property_count s.kind) c.self.view_is in
    let less : c.loop-at.at < n = omega (arith, c.loop-at-test.true, counted) in
    let here : c.shown.result ≡ f c.loop-at.at =
    c.shown.ensures
    ∙ ap (λ (p : Property). shown_at c.args.self.now p) (c.property-property.ensures ∙ ap (λ (s : State). property_at s.kind c.loop-at.at) c.self.view_is) in
    elim c.match-shown.branch [
      | in-Some+in_ok-push-in-Some w ↦
          ap (λ (x : List Setting). x ++ rest) (ap (λ x. x.items) w.shown-is ∙ w.in_ok-push-in-Some.ensures.ok)
          ∙ shown_in Setting f n c.loop-at.at c.loop-at.shown.items total w.in-Some.setting less (sym here ∙ w.in-Some.is) c.loop-at.invariant
      | in-None w ↦
          ap (λ (x : List Setting). x ++ rest) (ap (λ x. x.items) w.shown-is)
          ∙ shown_out Setting f n c.loop-at.at c.loop-at.shown.items total less (sym here ∙ w.in-None.is) c.loop-at.invariant
    ]
