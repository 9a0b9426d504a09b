use Rattle.std.proofs.Common.{◌≡◌, ℕ, ◌+◌, length, map, set, get_or, Some, sym, ◌∙◌, ap, arith}
use Rattle.std.specs.Prelude.{Option, List}
use Rattle.std.proofs.Math.Seq.{paste}
use Rattle.std.proofs.lemmas.List.{get_or-map, length-map}
use Rattle.std.proofs.lemmas.List.Edits.{paste_more, paste_all}
use Rattle.transport_segments.specs.Places.{written}
use Rattle.transport_segments.proofs.places.write.Goals as goal

pub loop-i-preserved : goal.loop-i-preserved
loop-i-preserved c =
    let item : get_or (map Some c.args.payload.now) c.loop-i.i (Some 0) ≡ Some (get_or c.args.payload.now c.loop-i.i 0) =
    get_or-map Some c.args.payload.now c.loop-i.i 0 (Some 0) c.loop-i-test.true in
    let more = paste_more c.args.places.now c.args.offset (map Some c.args.payload.now) c.loop-i.i (Some 0) (omega arith) (omega (arith, length-map {A = ℕ} {B = Option ℕ})) in
    ap (λ (x : List (Option ℕ)). set x (c.args.offset + c.loop-i.i) (Some (get_or c.args.payload.now c.loop-i.i 0))) c.loop-i.invariant
    ∙ ap (λ (x : Option ℕ). set (paste c.args.places.now c.args.offset (map Some c.args.payload.now) c.loop-i.i) (c.args.offset + c.loop-i.i) x) (sym item)
    ∙ more

pub returns : goal.returns
unfolding written
returns c =
    let n : c.loop-i.i ≡ length c.args.payload.now = omega arith in
    let all = paste_all c.args.places.now c.args.offset (map Some c.args.payload.now) (length c.args.payload.now) (omega (arith, length-map {A = ℕ} {B = Option ℕ})) in
    c.loop-i.invariant ∙ ap (λ (x : ℕ). paste c.args.places.now c.args.offset (map Some c.args.payload.now) x) n ∙ all
