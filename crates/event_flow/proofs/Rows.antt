-- The rows of the table, one node after another.
use Rattle.std.proofs.Common.{◌≡◌, ℕ, ◌+◌, ◌<◌, List, [], ◌∷◌, ◌++◌, length, take, get_or, ap, sym, ◌∙◌, append_assoc, append-nil, arith}
use Rattle.std.proofs.lemmas.List.{take_more}
use Rattle.std.proofs.Common.{length-take-le}
use Rattle.std.specs.Prelude.{slice_get, Some}
use Rattle.std.proofs.lemmas.Option.{get_or_from_slice_get, slice_get_within}
use Rattle.event_flow.specs.declared.entry.EventEntry.{EventEntry}
use Rattle.event_flow.specs.State.{NodeState, silent}
use Rattle.event_flow.specs.Steps.{row_by, rows_from}

rows-append : (from : ℕ) (xs ys : List NodeState) → rows_from from (xs ++ ys) ≡ rows_from from xs ++ rows_from (from + length xs) ys
rows-append from [] ys = ap (λ n. rows_from n ys) (omega arith)
rows-append from (x ∷ xs) ys =
    ap (λ t. row_by from x x.queued ++ t) (rows-append (from + 1) xs ys ∙ ap (λ n. rows_from (from + 1) xs ++ rows_from n ys) (omega arith))
    ∙ sym (append_assoc (row_by from x x.queued) (rows_from (from + 1) xs) (rows_from (from + length (x ∷ xs)) ys))

pub rows-more : (xs : List NodeState) (i : ℕ) (x : NodeState) → i < length xs → get_or xs i silent ≡ x → rows_from 1 (take (i + 1) xs) ≡ rows_from 1 (take i xs) ++ row_by (i + 1) x x.queued
rows-more xs i x within is =
    let prefix : length (take i xs) ≡ i = length-take-le i xs (omega arith) in
    ap (rows_from 1) (take_more xs i silent within)
    ∙ rows-append 1 (take i xs) (get_or xs i silent ∷ [])
    ∙ ap (λ n. rows_from 1 (take i xs) ++ rows_from n (get_or xs i silent ∷ [])) (omega (arith, prefix))
    ∙ ap (λ y. rows_from 1 (take i xs) ++ rows_from (i + 1) (y ∷ [])) is
    ∙ ap (λ t. rows_from 1 (take i xs) ++ t) (append-nil (row_by (i + 1) x x.queued))

-- one more row is entered
pub row-added : (start rows entered : List EventEntry) (xs : List NodeState) (i node : ℕ) (x : NodeState)
    → entered ≡ rows ++ row_by node x x.queued → rows ≡ start ++ rows_from 1 (take i xs) → node ≡ i + 1 → slice_get xs i ≡ Some x
    → entered ≡ start ++ rows_from 1 (take (i + 1) xs)
row-added start rows entered xs i node x one before number at =
    one
    ∙ ap (λ n. rows ++ row_by n x x.queued) number
    ∙ ap (λ t. t ++ row_by (i + 1) x x.queued) before
    ∙ append_assoc start (rows_from 1 (take i xs)) (row_by (i + 1) x x.queued)
    ∙ ap (λ t. start ++ t) (sym (rows-more xs i x (slice_get_within xs i x at) (get_or_from_slice_get xs i x silent at)))
