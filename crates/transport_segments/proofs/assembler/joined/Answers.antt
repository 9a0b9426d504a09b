use Rattle.std.proofs.Common.{◌≡◌, ℕ, ◌+◌, ◌-◌, ◌++◌, List, length, take, drop, map, Some, true, false, refl, ap, sym, ◌∙◌, arith, length-drop}
use Rattle.std.specs.Prelude.{Option}
use Rattle.std.proofs.lemmas.List.{take_all}
use Rattle.transport_segments.specs.Places.{present}
use Rattle.transport_segments.proofs.PlacesLemmas.{around_full, written_bytes}
use Rattle.transport_segments.proofs.assembler.joined.Goals as goal

pub returns-then-not-is_full_around : goal.returns-then-not-is_full_around
returns-then-not-is_full_around c = λ full.
    let full_there : false ≡ true = c.if-not-is_full_around.ensures.1 (around_full c.args.places.now c.args.offset c.args.payload.now full) in absurd (cc)

pub returns : goal.returns
returns c =
    let end : ℕ = c.args.offset + length c.args.payload.now in
    let around = c.if-not-is_full_around.ensures.0 refl in
    let rest : take (length c.args.places.now - (c.args.offset + length c.args.payload.now)) (drop (c.args.offset + length c.args.payload.now) c.args.places.now) ≡ drop (c.args.offset + length c.args.payload.now) c.args.places.now =
    take_all _ _ (omega (arith, length-drop (c.args.offset + length c.args.payload.now) c.args.places.now)) in
    let bytes : c.append_present-2.new.bytes ≡ (present (take c.args.offset c.args.places.now) ++ c.args.payload.now) ++ present (drop (c.args.offset + length c.args.payload.now) c.args.places.now) =
    c.in_ok-append_present-2.ensures
    ∙ ap (λ (x : List ℕ). x ++ present (take (length c.args.places.now - end) (drop end c.args.places.now)))
    (c.in_ok-extend.ensures.ok ∙ ap (λ (x : List ℕ). x ++ c.args.payload.now)
    (c.in_ok-append_present.ensures ∙ ap (λ (x : List ℕ). x ++ present (take c.args.offset c.args.places.now)) (c.reserve.ensures ∙ c.new-datagram.ensures)))
    ∙ ap (λ (x : List (Option ℕ)). (present (take c.args.offset c.args.places.now) ++ c.args.payload.now) ++ present x) rest in
    written_bytes c.args.places.now c.args.offset c.args.payload.now around.0 around.1 ∙ ap (map Some) (sym bytes)
