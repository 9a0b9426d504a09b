use Rattle.std.proofs.Common.{◌<◌, length, refl, ◌∙◌, sym, eqb-true, arith}
use Rattle.std.proofs.lemmas.Bool.{eqb-false}
use Rattle.mesh_sim.proofs.Lists.{seen_at, place_found, place_passed, place_none}
use Rattle.mesh_sim.proofs.devices.place_in.Goals as goal

pub returns-then-eq-clause-value : goal.returns-then-eq-clause-value
returns-then-eq-clause-value g c =
    let within : c.loop-place.place < length c.args.devices.now.items = omega arith in
    sym (place_found c.args.node _ c.loop-place.place _ c.loop-place.invariant
    (seen_at _ c.args.devices.now.items c.loop-place.place c.index.result.now within c.index.ensures)
    (sym c.node_of.ensures ∙ eqb-true _ _ (sym c.if-eq.ensures)))

pub loop-place-init : goal.loop-place-init
loop-place-init g c = refl

pub loop-place-preserved : goal.loop-place-preserved
loop-place-preserved g c =
    let within : c.loop-place.place < length c.args.devices.now.items = omega arith in
    place_passed c.args.node _ c.loop-place.place _ c.loop-place.invariant
    (seen_at _ c.args.devices.now.items c.loop-place.place c.index.result.now within c.index.ensures)
    (λ same. eqb-false _ _ (sym c.if-eq.ensures) (c.node_of.ensures ∙ same))

pub returns-clause-value : goal.returns-clause-value
returns-clause-value g c = sym (place_none _ c.args.node c.args.devices.now.items c.loop-place.place (omega arith) c.loop-place.invariant)
