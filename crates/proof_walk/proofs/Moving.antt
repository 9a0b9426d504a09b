-- What is known outside the host, over one list of entries after another.
use Rattle.std.proofs.Common.{◌≡◌, Bool, true, List, [], ◌∷◌, ◌++◌, refl, sym, subst, append_assoc, append-nil}
use Rattle.zw_text.specs.declared.entry.Entry.{Entry}
use Rattle.proof_host.proofs.Lists.{each-append}
use Rattle.proof_device.specs.outside_model.State.{Outside}
use Rattle.proof_walk.specs.Outside.{Knowing, Moves}

-- where two lists are none together, each is
pub both_none : {A : Type 0} (xs ys : List A) → xs ++ ys ≡ [] → (xs ≡ []) × (ys ≡ [])
both_none [] ys none = (refl, none)
both_none (x ∷ xs) ys none = let is : x ∷ (xs ++ ys) ≡ [] = none in absurd cc

module _ (Asks : List Entry → Entry → Type 0) where
  -- nothing is entered
  pub moves_silent : (Before After : Knowing) (w later : Outside) → ((awaits : Bool) (past : List Entry) → Before awaits past w → After awaits past later)
      → Moves Asks Before w [] After later
  moves_silent Before After w later goes awaits past none knows = (tt, subst (λ (l : List Entry). After awaits l later) (sym (append-nil past)) (goes awaits past knows))

  pub moves_none : (Knows : Knowing) (w : Outside) → Moves Asks Knows w [] Knows w
  moves_none Knows w = moves_silent Knows Knows w w (λ awaits past knows. knows)

  pub moves_both : (Before Between After : Knowing) (w u v : Outside) (xs ys : List Entry) → Moves Asks Before w xs Between u → Moves Asks Between u ys After v
      → Moves Asks Before w (xs ++ ys) After v
  moves_both Before Between After w u v xs ys first later awaits past none knows =
      let one = first awaits past (λ (is : awaits ≡ true). (both_none xs ys (none is)).0) knows in
      let two = later awaits (past ++ xs) (λ (is : awaits ≡ true). (both_none xs ys (none is)).1) one.1 in
      (each-append Asks past xs ys one.0 two.0, subst (λ (l : List Entry). After awaits l v) (append_assoc past xs ys) two.1)

  -- more is known then
  pub moves_then : (Before Between After : Knowing) (w u v : Outside) (xs : List Entry) → Moves Asks Before w xs Between u
      → ((awaits : Bool) (past : List Entry) → Between awaits past u → After awaits past v) → Moves Asks Before w xs After v
  moves_then Before Between After w u v xs first goes awaits past none knows =
      let one = first awaits past none knows in (one.0, goes awaits (past ++ xs) one.1)
