-- What was done and told, one thing after another.
use Rattle.std.proofs.Common.{◌≡◌, List, [], ◌∷◌, ◌++◌, refl, ap, sym, ◌∙◌, append_assoc}
use Rattle.std.proofs.lemmas.List.{append-nil}
use Rattle.zw_text.specs.declared.entry.Entry.{Entry}
use Rattle.outside_model.specs.State.{OuterState, Outcome, silent, and_then, each, Does}

-- nothing was done
pub does_nothing : (o : OuterState) (all : List Entry) → Does (silent o) o all all
does_nothing o all = record { outer = refl; entries = sym (append-nil all) }

-- one thing was done, and then another
pub does_then : (first : Outcome) (next : OuterState → Outcome) (mid new : OuterState) (before some all : List Entry)
    → Does first mid before some → Does (next mid) new some all → Does (and_then first next) new before all
does_then first next mid new before some all done later = record {
  outer = later.outer ∙ ap (λ (o : OuterState). (next o).outer) done.outer;
  entries = later.entries ∙ (ap (λ (l : List Entry). l ++ (next mid).entries) done.entries
      ∙ (append_assoc before first.entries (next mid).entries
      ∙ ap (λ (o : OuterState). before ++ (first.entries ++ (next o).entries)) done.outer));
}

-- what was done first may be left out of what was told
pub does_rest : (first : Outcome) (next : OuterState → Outcome) (new : OuterState) (before all : List Entry)
    → Does (and_then first next) new before all → Does (next first.outer) new (before ++ first.entries) all
does_rest first next new before all done =
    record { outer = done.outer; entries = done.entries ∙ sym (append_assoc before first.entries (next first.outer).entries) }

pub does_whole : (first : Outcome) (next : OuterState → Outcome) (new : OuterState) (before all : List Entry)
    → Does (next first.outer) new (before ++ first.entries) all → Does (and_then first next) new before all
does_whole first next new before all done =
    record { outer = done.outer; entries = done.entries ∙ append_assoc before first.entries (next first.outer).entries }

module _ {X : Type 0} (step : OuterState → X → Outcome) where
  -- one item more
  pub each_more : (xs : List X) (x : X) (o mid new : OuterState) (before some all : List Entry)
      → Does (each step o xs) mid before some → Does (step mid x) new some all → Does (each step o (xs ++ x ∷ [])) new before all
  each_more [] x o mid new before some all done later =
      does_then (step o x) (λ p. silent p) new new before all all
      (let at : o ≡ mid = sym done.outer in
      let told : some ≡ before = done.entries ∙ append-nil before in
      record {
        outer = later.outer ∙ ap (λ (p : OuterState). (step p x).outer) done.outer;
        entries = later.entries ∙ (ap (λ (l : List Entry). l ++ (step mid x).entries) told ∙ ap (λ (p : OuterState). before ++ (step p x).entries) done.outer);
      })
      (does_nothing new all)
  each_more (y ∷ xs) x o mid new before some all done later =
      does_whole (step o y) (λ p. each step p (xs ++ x ∷ [])) new before all
      (each_more xs x (step o y).outer mid new (before ++ (step o y).entries) some all
      (does_rest (step o y) (λ p. each step p xs) mid before some done) later)

  -- items, and then others
  pub each-append : (xs ys : List X) (o mid new : OuterState) (before some all : List Entry)
      → Does (each step o xs) mid before some → Does (each step mid ys) new some all → Does (each step o (xs ++ ys)) new before all
  each-append [] ys o mid new before some all done later =
      let told : some ≡ before = done.entries ∙ append-nil before in
      record {
        outer = later.outer ∙ ap (λ (p : OuterState). (each step p ys).outer) done.outer;
        entries = later.entries ∙ (ap (λ (l : List Entry). l ++ (each step mid ys).entries) told ∙ ap (λ (p : OuterState). before ++ (each step p ys).entries) done.outer);
      }
  each-append (y ∷ xs) ys o mid new before some all done later =
      does_whole (step o y) (λ p. each step p (xs ++ ys)) new before all
      (each-append xs ys (step o y).outer mid new (before ++ (step o y).entries) some all
      (does_rest (step o y) (λ p. each step p xs) mid before some done) later)
