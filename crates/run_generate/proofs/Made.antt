-- The lines of a scenario that is made from a number, turn by turn.
use Rattle.std.proofs.Common.{◌≡◌, ℕ, ◌+◌, List, ◌++◌, map, sym, ap, ◌∙◌, arith}
use Rattle.std.specs.List.{flat_map, range_with_len}
use Rattle.std.proofs.lemmas.List.{flat_map_more}
use Rattle.std.proofs.lemmas.List.Folds.{flat_map-map}
use Rattle.std.proofs.lemmas.List.FromFn.{map-range_with_len_more}
use Rattle.zw_text.specs.declared.line.Line.{Line}
use Rattle.run_generate.specs.Generate.{command_lines}

abbrev same : ℕ → ℕ
same turn = turn

-- one more turn
pub one_more_turn : (first old new : List Line) (turn : ℕ) → old ≡ first ++ flat_map command_lines (range_with_len 0 turn) → new ≡ old ++ command_lines turn
    → new ≡ first ++ flat_map command_lines (range_with_len 0 (turn + 1))
one_more_turn first old new turn is more =
    let turns : List ℕ = range_with_len 0 turn in
    more
    ∙ ap (λ (l : List Line). l ++ command_lines turn) (is ∙ ap (λ (l : List Line). first ++ l) (sym (flat_map-map command_lines same turns)))
    ∙ flat_map_more command_lines first (map same turns) turn
    ∙ ap (λ (ns : List ℕ). first ++ flat_map command_lines ns) (sym (map-range_with_len_more same 0 turn turn (omega arith)))
    ∙ ap (λ (l : List Line). first ++ l) (flat_map-map command_lines same (range_with_len 0 (turn + 1)))
