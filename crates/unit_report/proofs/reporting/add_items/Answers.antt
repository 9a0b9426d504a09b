use Rattle.std.proofs.Common.{◌≡◌, List, ℕ, ◌++◌, ◌∙◌, ap, sym, subst, string_bytes}
use Rattle.unit_report.proofs.Lines.{SoFar, so_far-more, so_far-end}
use Rattle.unit_report.proofs.reporting.add_items.Goals as goal

pub returns-in_default : goal.returns-in_default
returns-in_default c =
    so_far-end _ _ _ _ _ _ _ _ _ c.loop-found.invariant (rw c.in_default.is at c.in_ok-found.ensures.feeds) c.rest.ensures.bytes

pub loop-found-preserved-in_ok-extend : goal.loop-found-preserved-in_ok-extend
loop-found-preserved-in_ok-extend c =
    let new : c.extend.new.self ≡ c.loop-found.out ++ string_bytes c.in_ok-lines.lines =
    c.in_ok-extend.ensures.ok ∙ ap (λ (t : List ℕ). c.loop-found.out ++ t) c.as_bytes.ensures.value in
    subst (λ (t : List ℕ). SoFar c.args.from c.args.bytes.now c.args.out.now t (c.next_item.new.self.bytes ++ c.in_ok-found.after.now)) (sym new)
    (so_far-more _ _ _ _ _ _ _ _ _ _ c.loop-found.invariant (rw c.in-Some.is at c.in_ok-found.ensures.feeds) c.in_ok-lines.ensures)

pub loop-found-preserved-in_ok-extend-2 : goal.loop-found-preserved-in_ok-extend-2
loop-found-preserved-in_ok-extend-2 c =
    let new : c.extend.new.self ≡ c.loop-found.out ++ string_bytes c.in_ok-lines.lines =
    c.in_ok-extend.ensures.ok ∙ ap (λ (t : List ℕ). c.loop-found.out ++ t) c.as_bytes.ensures.value in
    subst (λ (t : List ℕ). SoFar c.args.from c.args.bytes.now c.args.out.now t (c.next_item.new.self.bytes ++ c.in_ok-found.after.now)) (sym new)
    (so_far-more _ _ _ _ _ _ _ _ _ _ c.loop-found.invariant (rw c.in-Some.is at c.in_ok-found.ensures.feeds) c.in_ok-lines.ensures)

pub loop-found-preserved : goal.loop-found-preserved
loop-found-preserved c =
    let new : c.extend.new.self ≡ c.loop-found.out ++ string_bytes c.in_ok-lines.lines =
    c.in_ok-extend.ensures.ok ∙ ap (λ (t : List ℕ). c.loop-found.out ++ t) c.as_bytes.ensures.value in
    subst (λ (t : List ℕ). SoFar c.args.from c.args.bytes.now c.args.out.now t (c.next_item.new.self.bytes ++ c.in_ok-found.after.now)) (sym new)
    (so_far-more _ _ _ _ _ _ _ _ _ _ c.loop-found.invariant (rw c.in-Some.is at c.in_ok-found.ensures.feeds) c.in_ok-lines.ensures)
