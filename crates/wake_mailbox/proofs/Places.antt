-- Taking out what stands at the first place of a command.
use Rattle.std.proofs.Common.{◌≡◌, ℕ, suc, ◌<◌, ◌==◌, List, ◌∷◌, ◌++◌, length, get_or, take, drop, Some, refl, sym, ap, ◌∙◌, arith, position, remove}
use Rattle.std.proofs.lemmas.Bool.Decides.{nat_tests}
use Rattle.std.proofs.lemmas.List.{take-append-drop, get_or-take, length-take-le}
use Rattle.std.proofs.lemmas.List.Quantifiers.{position-Some}
use Rattle.std.proofs.Math.Seq.{drop-cons}
use Rattle.wake_mailbox.specs.Mailbox.{TakesOut}

pub takes_out : (xs : List ℕ) (k x : ℕ) → position (λ w. w == x) xs ≡ Some k → TakesOut xs (remove xs k) x
takes_out xs k x e =
    let at = position-Some (λ (w : ℕ). w == x) xs k x e in
    let is_x : get_or xs k x ≡ x = grind (arith, nat_tests, at.1) in
    record {
      before = take k xs;
      after = drop (suc k) xs;
      stood = sym (take-append-drop k xs) ∙ ap (λ (ys : List ℕ). take k xs ++ ys) (drop-cons xs k x at.0 ∙ ap (λ (y : ℕ). y ∷ drop (suc k) xs) is_x);
      stay = refl;
      first = λ within.
          let shorter : length (take k xs) ≡ k = length-take-le k xs (omega arith) in
          let below : within.0 < k = omega (arith, within.1) in
          let same : get_or xs within.0 x ≡ x = sym (get_or-take k xs within.0 x below) ∙ within.2 in
          absurd (grind (arith, nat_tests, same, at.2 within.0 below));
    }
