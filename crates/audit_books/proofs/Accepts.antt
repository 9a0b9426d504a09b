-- How the accepted commands grow by an entry.
use Rattle.std.proofs.Common.{◌≡◌, ◌≢◌, ℕ, zero, suc, ◌<◌, ◌≤◌, ◌+◌, ◌-◌, cond, eqb, Bool, true, false, List, [], ◌∷◌, ◌++◌, length, Option, Some, None, arith, ap, ap₂, refl, sym, ◌∙◌, ⊎_elim}
use Rattle.std.specs.Prelude.{slice_get}
use Rattle.std.specs.List.{flat_map}
use Rattle.std.proofs.lemmas.Option.{slice_get_past}
use Rattle.std.proofs.Math.Dec.{eqb-suc-zero}
use Rattle.std.proofs.lemmas.Bool.{false≢true, cases_eq, cases_lt, eq-eqb, ne_eqb, eqb-true, eqb-false}
use Rattle.zw_base.specs.declared.order.Order.{Order}
use Rattle.zw_text.specs.declared.line.Line.{Line}
use Rattle.zw_text.specs.declared.line.Line.TheVariants as lines
use Rattle.zw_text.specs.Transcript.{Command, order_for, numbered}
use Rattle.audit_books.specs.Accepting.{order_to, order_there, order_at, to_node}
use Rattle.audit_books.specs.Keeping.{lines_of}
use Rattle.audit_books.specs.SessionRule.{order_among}

-- the first that is there
abbrev either : {A : Type 0} → Option A → Option A → Option A
either None b = b
either (Some a) b = Some a

either-none : {A : Type 0} (a : Option A) → either a None ≡ a
either-none None = refl
either-none (Some a) = refl

among-cons : (b : Bool) (order : Order) (x y z : Option Order) → x ≡ either y z → cond b (Some order) x ≡ either (cond b (Some order) y) z
among-cons true order x y z e = refl
among-cons false order x y z e = e

among-append : (i : ℕ) (xs ys : List Command) → order_among i (xs ++ ys) ≡ either (order_among i xs) (order_among i ys)
among-append i [] ys = refl
among-append i (x ∷ xs) ys = among-cons (eqb x.number i) x.order (order_among i (xs ++ ys)) (order_among i xs) (order_among i ys) (among-append i xs ys)

-- ---- the list by numbers

get-left : {A : Type 0} (xs ys : List A) (k : ℕ) → k < length xs → slice_get (xs ++ ys) k ≡ slice_get xs k
get-left [] ys k h = absurd (omega (arith, h))
get-left (x ∷ xs) ys zero h = refl
get-left (x ∷ xs) ys (suc k) h = get-left xs ys k (omega (arith, h))

get-seam : {A : Type 0} (xs : List A) (y : A) (k : ℕ) → k ≡ length xs → slice_get (xs ++ (y ∷ [])) k ≡ Some y
get-seam [] y zero e = refl
get-seam [] y (suc k) e = absurd (omega (arith, e))
get-seam (x ∷ xs) y zero e = absurd (omega (arith, e))
get-seam (x ∷ xs) y (suc k) e = get-seam xs y k (omega (arith, e))

get-beyond : {A : Type 0} (xs : List A) (y : A) (k : ℕ) → length xs < k → slice_get (xs ++ (y ∷ [])) k ≡ None
get-beyond [] y zero e = absurd (omega (arith, e))
get-beyond [] y (suc k) e = refl
get-beyond (x ∷ xs) y zero e = absurd (omega (arith, e))
get-beyond (x ∷ xs) y (suc k) e = get-beyond xs y k (omega (arith, e))

pub at-suc : (orders : List (Option Order)) (k : ℕ) → order_at orders (suc k) ≡ order_there (slice_get orders k)
at-suc orders k =
    let e : suc k - 1 ≡ k = omega arith in
    ap₂ (λ b j. cond b None (order_there (slice_get orders j))) (eqb-suc-zero k) e

at-beyond : (orders : List (Option Order)) (i : ℕ) → i ≡ length orders + 1 → order_at orders i ≡ None
at-beyond orders zero e = absurd (omega (arith, e))
at-beyond orders (suc k) e = at-suc orders k ∙ ap order_there (slice_get_past orders k (omega (arith, e)))

pub at-new : (orders : List (Option Order)) (o : Option Order) (i : ℕ) → i ≡ length orders + 1 → order_at (orders ++ (o ∷ [])) i ≡ o
at-new orders o zero e = absurd (omega (arith, e))
at-new orders o (suc k) e = at-suc (orders ++ (o ∷ [])) k ∙ ap order_there (get-seam orders o k (omega (arith, e)))

at-old : (orders : List (Option Order)) (o : Option Order) (i : ℕ) → (i ≡ length orders + 1 → ⊥) → order_at (orders ++ (o ∷ [])) i ≡ order_at orders i
at-old orders o zero ne = refl
at-old orders o (suc k) ne =
    at-suc (orders ++ (o ∷ [])) k
    ∙ ⊎_elim (λ (low : k < length orders). ap order_there (get-left orders (o ∷ []) k low))
    (λ (high : length orders ≤ k).
    let ne' : k ≢ length orders = λ e. ne (omega (arith, e)) in
    ap order_there (get-beyond orders o k (omega (arith, high, ne')) ∙ sym (slice_get_past orders k high)))
    (cases_lt k (length orders))
    ∙ sym (at-suc orders k)

-- ---- one command more

-- what an entry shows for a node
abbrev shows : ℕ → ℕ → ℕ → Option Line → List Command
shows n node c line = cond (eqb node n) (numbered c (flat_map (order_for n) (lines_of line))) []

numbered-none : (c i : ℕ) (orders : List Order) → eqb c i ≡ false → order_among i (numbered c orders) ≡ None
numbered-none c i [] e = refl
numbered-none c i (o ∷ os) e = ap (λ b. cond b (Some o) (order_among i (numbered c os))) e ∙ numbered-none c i os e

among-cond : (b : Bool) (i : ℕ) (xs : List Command) → order_among i xs ≡ None → order_among i (cond b xs []) ≡ None
among-cond true i xs e = e
among-cond false i xs e = refl

shows-other : (n node c i : ℕ) (line : Option Line) → (i ≡ c → ⊥) → order_among i (shows n node c line) ≡ None
shows-other n node c i line ne =
    among-cond (eqb node n) i (numbered c (flat_map (order_for n) (lines_of line)))
    (numbered-none c i (flat_map (order_for n) (lines_of line)) (ne_eqb c i (λ e. ne (sym e))))

none-shown : (b : Bool) (c : ℕ) → order_among c (cond b (numbered c []) []) ≡ None
none-shown true c = refl
none-shown false c = refl

-- an order for the node that the entry names, and for the one that is asked about
order-shown : (b1 b2 b3 : Bool) (c : ℕ) (o : Order) → (b1 ≡ true → b3 ≡ b2) → (b1 ≡ false → b3 ≡ true → b2 ≡ false) →
    order_among c (cond b1 (numbered c (cond b2 (o ∷ []) [] ++ [])) []) ≡ cond b3 (cond b2 (Some o) None) None
order-shown true true true c o p q = ap (λ b. cond b (Some o) None) (eq-eqb c c refl)
order-shown true true false c o p q = absurd (false≢true (p refl))
order-shown true false true c o p q = refl
order-shown true false false c o p q = refl
order-shown false true true c o p q = absurd (false≢true (sym (q refl refl)))
order-shown false true false c o p q = refl
order-shown false false true c o p q = refl
order-shown false false false c o p q = refl

to-node-cond : (b : Bool) (n : ℕ) (o : Order) → to_node n (cond b (Some o) None) ≡ cond b (cond (eqb o.node n) (Some o) None) None
to-node-cond true n o = refl
to-node-cond false n o = refl

shows-new : (n node c : ℕ) (line : Option Line) → order_among c (shows n node c line) ≡ to_node n (order_to node line)
shows-new n node c None = none-shown (eqb node n) c
shows-new n node c (Some (lines.Command o)) =
    order-shown (eqb node n) (eqb o.node n) (eqb o.node node) c o
    (λ e. ap (λ m. eqb o.node m) (eqb-true node n e))
    (λ e f. ne_eqb o.node n (λ g. eqb-false node n e (sym (eqb-true o.node node f) ∙ g)))
    ∙ sym (to-node-cond (eqb o.node node) n o)
shows-new n node c (Some other) = none-shown (eqb node n) c

pub accepts-more : (orders : List (Option Order)) (line : Option Line) (known : List Command) (n node c : ℕ) → c ≡ length orders + 1 →
    ((i : ℕ) → order_among i known ≡ to_node n (order_at orders i)) →
    (i : ℕ) → order_among i (known ++ shows n node c line) ≡ to_node n (order_at (orders ++ (order_to node line ∷ [])) i)
accepts-more orders line known n node c next is i =
    among-append i known (shows n node c line)
    ∙ ⊎_elim
    (λ (e : i ≡ c).
    let last : i ≡ length orders + 1 = omega (arith, e, next) in
    ap₂ either (is i ∙ ap (to_node n) (at-beyond orders i last)) (ap (λ j. order_among j (shows n node c line)) e ∙ shows-new n node c line)
    ∙ ap (to_node n) (sym (at-new orders (order_to node line) i last)))
    (λ (ne : i ≡ c → ⊥).
    ap₂ either (is i) (shows-other n node c i line ne) ∙ either-none (to_node n (order_at orders i))
    ∙ ap (to_node n) (sym (at-old orders (order_to node line) i (λ e. ne (omega (arith, e, next))))))
    (cases_eq i c)
