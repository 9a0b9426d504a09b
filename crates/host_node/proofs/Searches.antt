-- The first number that passes: what it is, and when a search answers it.
use Rattle.std.proofs.Common.{◌≡◌, ℕ, zero, suc, ◌+◌, ◌-◌, ◌<◌, ◌≤◌, Bool, true, false, if◌then◌else◌, Option, Some, None, refl, sym, ap, ◌∙◌, inl, inr, arith}
use Rattle.std.proofs.lemmas.Bool.{cases_eq}
use Rattle.host_node.specs.Search.{first_from, least_above}

-- the number passes, and no lower one from the start on does
pub record IsFirstFrom (passes : ℕ → Bool) (start count node : ℕ) : Type 0 where
  pub from : start ≤ node
  pub to : node < start + count
  pub is_one : passes node ≡ true
  pub before : (other : ℕ) → start ≤ other → other < node → passes other ≡ false

-- no number of those passes
pub record HasNone (passes : ℕ → Bool) (start count : ℕ) : Type 0 where
  pub all : (other : ℕ) → start ≤ other → other < start + count → passes other ≡ false

-- ---- a search answers the first

here : (b : Bool) (n : ℕ) (more : Option ℕ) → b ≡ true → (if b then Some n else more) ≡ Some n
here true n more e = refl
here false n more e = cc

later : (b : Bool) (n : ℕ) (more : Option ℕ) → b ≡ false → (if b then Some n else more) ≡ more
later true n more e = cc
later false n more e = refl

pub first_is_found : (passes : ℕ → Bool) (start count node : ℕ) → IsFirstFrom passes start count node → first_from passes start count ≡ Some node
first_is_found passes start zero node f = absurd (omega (arith, f.from, f.to))
first_is_found passes start (suc more) node f =
    elim (cases_eq node start) [
      | inl same ↦ here (passes start) start (first_from passes (suc start) more) (ap passes (sym same) ∙ f.is_one) ∙ ap (λ n. Some n) (sym same)
      | inr other ↦
          later (passes start) start (first_from passes (suc start) more) (f.before start (omega arith) (omega (arith, f.from, other)))
          ∙ first_is_found passes (suc start) more node (record {
            from = omega (arith, f.from, other);
            to = omega (arith, f.to);
            is_one = f.is_one;
            before = λ o above below. f.before o (omega (arith, above)) below;
          })
    ]

pub none_is_found : (passes : ℕ → Bool) (start count : ℕ) → HasNone passes start count → first_from passes start count ≡ None
none_is_found passes start zero h = refl
none_is_found passes start (suc more) h =
    later (passes start) start (first_from passes (suc start) more) (h.all start (omega arith) (omega arith))
    ∙ none_is_found passes (suc start) more (record { all = λ o above below. h.all o (omega (arith, above)) (omega (arith, below)) })

-- ---- what a search answers is the first

found_by : (b : Bool) (passes : ℕ → Bool) (start more node : ℕ) → passes start ≡ b
    → ((f : first_from passes (suc start) more ≡ Some node) → IsFirstFrom passes (suc start) more node)
    → (if b then Some start else first_from passes (suc start) more) ≡ Some node → IsFirstFrom passes start (suc more) node
found_by true passes start more node is rest e =
    let same : start ≡ node = cc in
    record {
      from = omega (arith, same);
      to = omega (arith, same);
      is_one = ap passes (sym same) ∙ is;
      before = λ o above below. absurd (omega (arith, same, above, below));
    }
found_by false passes start more node is rest e =
    let f = rest e in
    record {
      from = omega (arith, f.from);
      to = omega (arith, f.to);
      is_one = f.is_one;
      before = λ o above below. elim (cases_eq o start) [
        | inl same ↦ ap passes same ∙ is
        | inr other ↦ f.before o (omega (arith, above, other)) below
      ];
    }

pub found_is_first : (passes : ℕ → Bool) (start count node : ℕ) → first_from passes start count ≡ Some node → IsFirstFrom passes start count node
found_is_first passes start zero node e = cc
found_is_first passes start (suc more) node e =
    found_by (passes start) passes start more node refl (found_is_first passes (suc start) more node) e

none_by : (b : Bool) (passes : ℕ → Bool) (start more : ℕ) → passes start ≡ b
    → ((f : first_from passes (suc start) more ≡ None) → HasNone passes (suc start) more)
    → (if b then Some start else first_from passes (suc start) more) ≡ None → HasNone passes start (suc more)
none_by true passes start more is rest e = cc
none_by false passes start more is rest e =
    let h = rest e in
    record {
      all = λ o above below. elim (cases_eq o start) [
        | inl same ↦ ap passes same ∙ is
        | inr other ↦ h.all o (omega (arith, above, other)) (omega (arith, below))
      ];
    }

pub none_is_none : (passes : ℕ → Bool) (start count : ℕ) → first_from passes start count ≡ None → HasNone passes start count
none_is_none passes start zero e = record { all = λ o above below. absurd (omega (arith, above, below)) }
none_is_none passes start (suc more) e = none_by (passes start) passes start more refl (none_is_none passes (suc start) more) e

-- ---- the same tests find the same

same_first : (b : Bool) (n : ℕ) (m k : Option ℕ) → m ≡ k → (if b then Some n else m) ≡ (if b then Some n else k)
same_first b n m k e = ap (λ (o : Option ℕ). if b then Some n else o) e

pub first_by_same : (p q : ℕ → Bool) (start count : ℕ) → ((n : ℕ) → p n ≡ q n) → first_from p start count ≡ first_from q start count
first_by_same p q start zero same = refl
first_by_same p q start (suc more) same = rw (same start) (same_first (q start) start _ _ (first_by_same p q (suc start) more same))

pub least_by_same : (p q : ℕ → Bool) (number : ℕ) → ((n : ℕ) → p n ≡ q n) → least_above p number ≡ least_above q number
unfolding least_above
least_by_same p q number same = first_by_same p q (suc number) (232 - number) same

-- ---- the least node above a number

pub least_is_found : (passes : ℕ → Bool) (number node : ℕ) → number < node → node ≤ 232 → passes node ≡ true
    → ((other : ℕ) → number < other → other < node → passes other ≡ false) → least_above passes number ≡ Some node
unfolding least_above
least_is_found passes number node above within it before =
    first_is_found passes (suc number) (232 - number) node (record {
      from = omega (arith, above);
      to = omega (arith, above, within);
      is_one = it;
      before = λ o over below. before o (omega (arith, over)) below;
    })

pub no_least_is_found : (passes : ℕ → Bool) (number : ℕ) → ((other : ℕ) → number < other → other ≤ 232 → passes other ≡ false) → least_above passes number ≡ None
unfolding least_above
no_least_is_found passes number none =
    none_is_found passes (suc number) (232 - number) (record { all = λ o over below. none o (omega (arith, over)) (omega (arith, over, below)) })

pub what_is_least : (passes : ℕ → Bool) (number node : ℕ) → least_above passes number ≡ Some node → IsFirstFrom passes (suc number) (232 - number) node
unfolding least_above
what_is_least passes number node e = found_is_first passes (suc number) (232 - number) node e

pub where_is_none : (passes : ℕ → Bool) (number : ℕ) → least_above passes number ≡ None → HasNone passes (suc number) (232 - number)
unfolding least_above
where_is_none passes number e = none_is_none passes (suc number) (232 - number) e
