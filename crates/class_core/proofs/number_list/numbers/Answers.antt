use Rattle.std.proofs.Common.{◌≡◌, ℕ, ◌+◌, ◌*◌, ◌∙◌, ◌∷◌, [], ◌++◌, ap, sym, subst, arith}
use Rattle.class_core.specs.Ranges.{Numbers, value_of, bytes_in}
use Rattle.class_core.specs.Reading.{number_in}
use Rattle.class_core.proofs.ListSteps.{IsTaken, taken_one, value_of-sized}
use Rattle.class_core.proofs.number_list.numbers.Goals as goal

pub loop-i-preserved : goal.loop-i-preserved
loop-i-preserved c =
    let pushed : c.push.new.self ≡ record { size = c.loop-i.list.size; items = c.loop-i.list.items ++ c.value.result ∷ [] } = c.in_ok-push.ensures.ok in
    let read : c.value.result ≡ number_in c.args.size (c.args.at + c.loop-i.i * bytes_in c.args.size) c.args.bytes.now =
    c.value.ensures.value ∙ ap value_of c.number_in.ensures ∙ value_of-sized _ _ ∙ ap (λ (p : ℕ). number_in c.args.size p c.args.bytes.now) (omega arith) in
    subst (λ (s : Numbers). (s.size ≡ c.args.size) × IsTaken c.args.size c.args.count c.args.at c.args.bytes.now s.items (c.loop-i.i + 1)) (sym pushed)
    (c.loop-i.invariant.0, taken_one c.args.size c.args.count c.args.at c.args.bytes.now c.loop-i.list.items c.loop-i.i c.value.result c.loop-i-test.true read c.loop-i.invariant.1)
