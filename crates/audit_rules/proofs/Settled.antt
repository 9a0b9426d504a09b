-- What the last unit asks for stands after what was asked for before.
use Rattle.std.proofs.Common.{◌≡◌, ℕ, ◌≤◌, ◌+◌, Bool, List, [], ◌∷◌, ◌++◌, length, drop, Option, Some, None, ap, ap₂, refl, sym, subst, ◌∙◌}
use Rattle.std.proofs.lemmas.List.{drop-append-le}
use Rattle.law_transcript.specs.Units.{Carried}
use Rattle.audit_rules.specs.Sending.{settled}

pub settled-push : (passed : ℕ) (items items' : List Carried) (last last' unmet : Option Carried) (one : Carried) (written : Bool) →
    passed ≤ length items → items' ≡ items ++ (one ∷ []) → last ≡ Some one → last' ≡ None → unmet ≡ None →
    record { left = drop passed items'; last = last'; unmet = unmet; written = written }
    ≡ settled (record { left = drop passed items; last = last; unmet = unmet; written = written })
settled-push passed items items' last last' unmet one written low more there taken none =
    ap₂ (λ (l : List Carried) (o : Option Carried). record { left = l; last = o; unmet = unmet; written = written }) (ap (drop passed) more ∙ drop-append-le passed items (one ∷ []) low) taken
    ∙ subst (λ (u : Option Carried). Pushed u last) (sym none) (subst (λ (l : Option Carried). Pushed None l) (sym there) refl)
  where
    Pushed : Option Carried → Option Carried → Type 0
    Pushed u l =
        record { left = drop passed items ++ (one ∷ []); last = None; unmet = u; written = written }
        ≡ settled (record { left = drop passed items; last = l; unmet = u; written = written })
