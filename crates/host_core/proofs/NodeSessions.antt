-- Sessions of a node, as the final table lists them.
use Rattle.std.proofs.Common.{◌≡◌, ℕ, ◌+◌, List, [], ◌∷◌, ◌++◌, take, ap, sym, ◌∙◌, add-one}
use Rattle.std.specs.Prelude.{Some, slice_get}
use Rattle.std.proofs.lemmas.Option.{slice_get_within, get_or_from_slice_get}
use Rattle.std.proofs.lemmas.List.{take_more}
use Rattle.supervision.specs.Host.{command_at}

-- one session more
pub session_more : (commands sessions new : List ℕ) (k command : ℕ) → sessions ≡ take k commands → command_at commands (k + 1) ≡ Some command → new ≡ sessions ++ command ∷ [] → new ≡ take (k + 1) commands
session_more commands sessions new k command so_far found put =
    let at : slice_get commands k ≡ Some command = ap (λ (n : ℕ). command_at commands n) (sym (add-one k)) ∙ found in
    put
    ∙ (ap (λ (l : List ℕ). l ++ command ∷ []) so_far
    ∙ (ap (λ (c : ℕ). take k commands ++ c ∷ []) (sym (get_or_from_slice_get commands k command 0 at))
    ∙ sym (take_more commands k 0 (slice_get_within commands k command at))))
