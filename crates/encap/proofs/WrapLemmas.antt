-- Lists of commands as they are measured and written.
use Rattle.std.proofs.Common.{◌≡◌, ℕ, zero, suc, ◌+◌, ◌<◌, ◌≤◌, List, [], ◌∷◌, ◌++◌, length, take, get_or, None, sym, ◌∙◌, ap, arith, append-nil, add-one}
use Rattle.std.specs.Prelude.{nat_lt}
use Rattle.std.proofs.Math.Seq.{take-suc}
use Rattle.std.proofs.lemmas.Bool.{ltb-false}
use Rattle.encap.specs.Wraps.{listed}
use Rattle.encap.specs.Written.{first_long}
use Rattle.encap.proofs.BatchLemmas.{listed-push}
use Rattle.encap.proofs.FormLemmas.{none_of as long_cases}

-- where none is long, each fits its length
pub fit_at : (commands : List (List ℕ)) (at : ℕ) → first_long commands ≡ None → at < length commands → length (get_or commands at []) ≤ 255
fit_at [] at none within = absurd (omega arith)
fit_at (command ∷ commands) zero none within = ltb-false 255 (length command) (long_cases (nat_lt 255 (length command)) (length command) (first_long commands) none).0
fit_at (command ∷ commands) (suc at) none within =
    fit_at commands at (long_cases (nat_lt 255 (length command)) (length command) (first_long commands) none).1 (omega arith)

-- one more is listed after the others
pub listed-take : (commands : List (List ℕ)) (at : ℕ) → at < length commands
    → listed (take (at + 1) commands) ≡ listed (take at commands) ++ (length (get_or commands at []) ∷ get_or commands at [])
listed-take commands at within =
    let command : List ℕ = get_or commands at [] in
    let more : take (at + 1) commands ≡ take at commands ++ get_or commands at [] ∷ [] = rw add-one (take-suc commands at [] within) in
    ap listed more
    ∙ sym (append-nil (listed (take at commands ++ command ∷ [])))
    ∙ listed-push (take at commands) command []
    ∙ ap (λ (x : List ℕ). listed (take at commands) ++ (length command ∷ x)) (append-nil command)

-- an item of a list, whatever is read past its end
pub same_item : (commands : List (List ℕ)) (at : ℕ) (item : List ℕ) → at < length commands → item ≡ get_or commands at item → item ≡ get_or commands at []
same_item [] at item within e = absurd (omega arith)
same_item (command ∷ commands) zero item within e = e
same_item (command ∷ commands) (suc at) item within e = same_item commands at item (omega arith) e
