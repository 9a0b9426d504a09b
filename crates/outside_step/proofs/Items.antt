-- Loops over the items of a list.
use Rattle.std.proofs.Common.{◌≡◌, ℕ, ◌+◌, ◌<◌, ◌≤◌, All, List, [], ◌∷◌, ◌++◌, length, take, get_or, ap, sym, ◌∙◌, subst, add-one}
use Rattle.device_kinds.specs.declared.change.Change.{Change}
use Rattle.std.proofs.Math.Seq.{take-suc}
use Rattle.std.proofs.lemmas.List.{take_all}
use Rattle.zw_text.specs.declared.entry.Entry.{Entry}
use Rattle.outside_model.specs.State.{OuterState, Outcome, each, Does}
use Rattle.outside_step.proofs.Outcomes.{each_more}

module _ {X : Type 0} (xs ys : List X) (i : ℕ) (x : X) (same : ys ≡ xs) (lt : i < length ys) (is : x ≡ get_or ys i x) where
  -- what is true of all items is true of this one
  pub all_item : (P : X → Type 0) → All P xs → P x
  all_item P all = subst (λ (y : X). P y) (sym is) (subst (λ (l : List X). All P l) (sym same) all i x lt)

  -- one item more
  pub take_item : take (i + 1) xs ≡ take i xs ++ x ∷ []
  take_item =
      let lt' : i < length xs = subst (λ (l : List X). i < length l) same lt in
      let is' : x ≡ get_or xs i x = subst (λ (l : List X). x ≡ get_or l i x) same is in
      ap (λ n. take n xs) (add-one i) ∙ (take-suc xs i x lt' ∙ ap (λ (y : X). take i xs ++ y ∷ []) (sym is'))

  -- it was done too
  pub each_item : (step : OuterState → X → Outcome) (o mid new : OuterState) (before some all : List Entry)
      → Does (each step o (take i xs)) mid before some → Does (step mid x) new some all → Does (each step o (take (i + 1) xs)) new before all
  each_item step o mid new before some all done later =
      subst (λ (l : List X). Does (each step o l) new before all) (sym take_item) (each_more step (take i xs) x o mid new before some all done later)

-- all items
module _ {X : Type 0} (xs ys : List X) (i : ℕ) (same : ys ≡ xs) (past : length ys ≤ i) where
  pub take_whole : take i xs ≡ xs
  take_whole = take_all i xs (subst (λ (l : List X). length l ≤ i) same past)

  pub each_whole : (step : OuterState → X → Outcome) (o new : OuterState) (before all : List Entry)
      → Does (each step o (take i xs)) new before all → Does (each step o xs) new before all
  each_whole step o new before all done = subst (λ (l : List X). Does (each step o l) new before all) take_whole done
