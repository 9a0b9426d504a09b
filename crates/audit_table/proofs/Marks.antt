-- The lines of nodes, one after another.
use Rattle.std.proofs.Common.{◌≡◌, ℕ, zero, suc, ◌<◌, ◌≤◌, ◌+◌, cond, Bool, true, false, List, [], ◌∷◌, ◌++◌, get_or, Option, Some, None, arith, add-one, ap, ap₂, refl, sym, ◌∙◌, append-nil}
use Rattle.std.specs.List.{flat_map}
use Rattle.std.specs.Prelude.{is_some, option_map}
use Rattle.std.proofs.lemmas.List.{append_assoc}
use Rattle.std.proofs.lemmas.Bool.{false≢true}
use Rattle.zw_base.specs.declared.order.Order.{Order}
use Rattle.zw_text.specs.declared.line.Line.{Line}
use Rattle.zw_text.specs.declared.entry.Entry.{Entry}
use Rattle.zw_text.specs.declared.entry.Entry.TheVariants.{TableEnd, TableNode}
use Rattle.audit_books.specs.declared.endings.Ending.{Ending}
use Rattle.audit_books.specs.Beginning.{sessions_of}
use Rattle.audit_table.specs.Knowing.{Closing, Knowns, after_line, all_rows, closing_after, closing_shown, confirmed_of, ends_with, known_lines, lines_of_node, marked, no_values, nodes_marked, values_of, with_commands}

-- the rows so far, and those of the marks that are left, are all of them
pub record IsLeft {A : Type 0} (f : ℕ → List A) (marks : List Bool) (place : ℕ) (rows all : List A) : Type 0 where
  pub left : ℕ
  pub places : place + left ≡ 233
  pub goes_on : rows ++ flat_map f (marked marks place left) ≡ all

rows-begin : {A : Type 0} (f : ℕ → List A) (marks : List Bool) (place left : ℕ) (rows : List A) → place + left ≡ 233 → rows ≡ [] → IsLeft f marks place rows (flat_map f (marked marks place left))
rows-begin f marks place left rows places none = record { left = left; places = places; goes_on = ap (λ l. l ++ flat_map f (marked marks place left)) none }

pub rows-first : {A : Type 0} (f : ℕ → List A) (marks : List Bool) (rows : List A) → rows ≡ [] → IsLeft f marks 1 rows (flat_map f (nodes_marked marks))
unfolding nodes_marked
rows-first f marks rows none = rows-begin f marks 1 232 rows (omega arith) none

step : {A : Type 0} (f : ℕ → List A) (marks : List Bool) (place left : ℕ) (b : Bool) (rows rows' all : List A) → place < 233 → place + left ≡ 233 → get_or marks place false ≡ b →
    rows' ≡ rows ++ cond b (f place) [] → rows ++ flat_map f (marked marks place left) ≡ all → IsLeft f marks (place + 1) rows' all
step f marks place zero b rows rows' all low places is more goes = absurd (omega (arith, low, places))
step f marks place (suc left) b rows rows' all low places is more goes = record {
  left = left;
  places = omega (arith, places);
  goes_on =
      ap₂ (λ l (n : ℕ). l ++ flat_map f (marked marks n left)) more (add-one place)
      ∙ by b ∙ ap (λ c. rows ++ flat_map f (cond c (place ∷ marked marks (suc place) left) (marked marks (suc place) left))) (sym is) ∙ goes;
}
  where
    by : (c : Bool) → (rows ++ cond c (f place) []) ++ flat_map f (marked marks (suc place) left) ≡ rows ++ flat_map f (cond c (place ∷ marked marks (suc place) left) (marked marks (suc place) left))
    by true = append_assoc rows (f place) (flat_map f (marked marks (suc place) left))
    by false = append_assoc rows [] (flat_map f (marked marks (suc place) left))

-- a node that is marked, and one that is not
pub rows-marked : {A : Type 0} (f : ℕ → List A) (marks : List Bool) (place : ℕ) (rows rows' all : List A) → place < 233 → IsLeft f marks place rows all → get_or marks place false ≡ true →
    rows' ≡ rows ++ f place → IsLeft f marks (place + 1) rows' all
rows-marked f marks place rows rows' all low is mark more = step f marks place is.left true rows rows' all low is.places mark more is.goes_on

pub rows-unmarked : {A : Type 0} (f : ℕ → List A) (marks : List Bool) (place : ℕ) (rows rows' all : List A) → place < 233 → IsLeft f marks place rows all → get_or marks place false ≡ false →
    rows' ≡ rows → IsLeft f marks (place + 1) rows' all
rows-unmarked f marks place rows rows' all low is mark same = step f marks place is.left false rows rows' all low is.places mark (same ∙ sym (append-nil rows)) is.goes_on

pub rows-end : {A : Type 0} (f : ℕ → List A) (marks : List Bool) (place : ℕ) (rows all : List A) → 233 ≤ place → IsLeft f marks place rows all → rows ≡ all
rows-end f marks place rows all past is = by is.left is.places is.goes_on
  where
    by : (left : ℕ) → place + left ≡ 233 → rows ++ flat_map f (marked marks place left) ≡ all → rows ≡ all
    by zero places goes = sym (append-nil rows) ∙ goes
    by (suc left) places goes = absurd (omega (arith, places, past))

pub lines-same : (values others : List Knowns) (endings : ℕ → Ending) (orders : List (Option Order)) (nodes : List (List ℕ)) (node at : ℕ) →
    node ≡ at → values_of values at ≡ values_of others at → lines_of_node values endings orders nodes node ≡ lines_of_node others endings orders nodes at
lines-same values others endings orders nodes node at place same =
    ap (λ n. lines_of_node values endings orders nodes n) place
    ∙ ap (λ known. TableNode at (sessions_of nodes at) ∷ known_lines at (with_commands known (confirmed_of endings orders) (sessions_of nodes at))) same

-- ---- the table begins

pub ends-begin : (closing : Closing) (heard : List Knowns) (made all : List Entry) → closing.rows ≡ None → heard ≡ no_values → made ≡ all →
    record closing { heard = heard; rows = Some made } ≡ ends_with closing closing.rows all
ends-begin closing heard made all none blank is =
    ap₂ (λ (h : List Knowns) (r : List Entry). record closing { heard = h; rows = Some r }) blank is ∙ ap (λ (r : Option (List Entry)). ends_with closing r all) (sym none)

pub none-mapped : {A B : Type 0} (f : A → B) (o : Option A) → is_some o ≡ false → option_map f o ≡ None
none-mapped f None e = refl
none-mapped f (Some x) e = absurd (false≢true (sym e))

pub ends-after : (closing after ended : Closing) (line line' : Option Line) (endings : ℕ → Ending) (orders : List (Option Order)) (nodes : List (List ℕ)) (entry : Entry) (ticks : ℕ) →
    entry ≡ TableEnd ticks → line' ≡ line → after ≡ after_line closing line' entry → ended ≡ ends_with after after.rows (all_rows after endings orders nodes) →
    ended ≡ closing_after closing line endings orders nodes entry
ends-after closing after ended line line' endings orders nodes entry ticks is same runs ends =
    ends ∙ ap (λ (k : Closing). ends_with k k.rows (all_rows k endings orders nodes)) (runs ∙ ap (λ l. after_line closing l entry) same)
    ∙ ap (λ e. closing_shown (after_line closing line entry) (all_rows (after_line closing line entry) endings orders nodes) e) (sym is)
