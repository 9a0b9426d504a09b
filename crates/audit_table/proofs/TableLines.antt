-- The lines of the table are those that the transcript gives.
use Rattle.std.proofs.Common.{◌≡◌, ℕ, zero, suc, ◌<◌, ◌≤◌, ◌+◌, cond, eqb, ltb, Bool, true, false, List, [], ◌∷◌, ◌++◌, Option, arith, ap, ap₂, refl, sym, ◌∙◌, ⊎_elim}
use Rattle.std.specs.Prelude.{◌||◌, filter, slice_index_or}
use Rattle.std.specs.List.{flat_map, list_any, AllByRecursion}
use Rattle.std.specs.declared.cmp.Ordering.TheVariants.{Less, Equal, Greater}
use Rattle.std.specs.Ordering.{nat_cmp}
use Rattle.std.specs.Map.{keys_of}
use Rattle.std.proofs.lemmas.Bool.{cases_eq, eq-eqb, ne_eqb}
use Rattle.std.proofs.lemmas.Bool.Decides.{leb_tells}
use Rattle.zw_base.specs.declared.property.Property.{Property}
use Rattle.zw_base.specs.declared.property.Setting.{Setting}
use Rattle.zw_base.specs.declared.order.Order.{Order}
use Rattle.host_keep.specs.Kept.{or_else, value_among}
use Rattle.host_orders.specs.Settings.{properties_of}
use Rattle.zw_text.specs.declared.entry.Ended.{Ended}
use Rattle.zw_text.specs.declared.entry.Entry.{Entry}
use Rattle.zw_text.specs.declared.entry.Entry.TheVariants.{TableNode}
use Rattle.zw_text.specs.Transcript.{endings, joined, reported, sessions}
use Rattle.law_transcript.specs.Restarts.{since_restart}
use Rattle.law_transcript.specs.Stores.{heard_value}
use Rattle.law_transcript.specs.Table.{compare_properties, in_order, put_in_order, value_line}
use Rattle.law_transcript.specs.Values.{last_given}
use Rattle.audit_books.specs.declared.endings.Ending.{Ending}
use Rattle.audit_books.specs.Accepting.{order_at}
use Rattle.audit_books.specs.Asking.{is_setting}
use Rattle.audit_books.specs.Beginning.{sessions_of}
use Rattle.audit_books.specs.Ending.{ended_so, no_ending}
use Rattle.audit_books.specs.Keeping.{ending_from}
use Rattle.audit_table.specs.OrdersGiven.{accepting_at, settings_by}
use Rattle.audit_table.specs.TableRule.{confirmed, confirmed_by, ends_well, node_rows, properties_known, rows}
use Rattle.audit_table.specs.Knowing.{Closing, Knowns, all_rows, confirmed_of, known_at, known_line, known_lines, lines_of_node, marked, nodes_marked, values_of, with_commands}
use Rattle.audit_table.specs.Keeping.{AreLast}
use Rattle.audit_table.proofs.Ordered.{in-order-append, putting}
use Rattle.audit_table.proofs.Knows.{commands-confirmed, commands-keys, commands-last, exact, total}

-- ---- numbers that are marked, in order

nat-less : (x y : ℕ) → x < y → nat_cmp x y ≡ Less
nat-less x y h = ap (λ b. cond b Less (cond (eqb x y) Equal Greater)) (by (ltb x y) refl)
  where
    by : (b : Bool) → ltb x y ≡ b → ltb x y ≡ true
    by true e = e
    by false e = absurd (grind (arith, e, h, leb_tells (suc x) y))

nat-same : (x : ℕ) → nat_cmp x x ≡ Equal
nat-same x =
    ap₂ (λ b c. cond b Less (cond c Equal Greater)) (by (ltb x x) refl) (eq-eqb x x refl)
  where
    by : (b : Bool) → ltb x x ≡ b → ltb x x ≡ false
    by false e = e
    by true e = absurd (grind (arith, e, leb_tells (suc x) x))

nat-greater : (x y : ℕ) → y < x → nat_cmp x y ≡ Greater
nat-greater x y h = ap₂ (λ b c. cond b Less (cond c Equal Greater)) (by (ltb x y) refl) (ne_eqb x y (λ e. omega (arith, e, h)))
  where
    by : (b : Bool) → ltb x y ≡ b → ltb x y ≡ false
    by false e = e
    by true e = absurd (grind (arith, e, h, leb_tells (suc x) y))

put-less : (a x : ℕ) (l : List ℕ) → a < x → put_in_order nat_cmp a (x ∷ l) ≡ a ∷ x ∷ l
put-less a x l h = rw (nat-less a x h) refl

put-same : (a : ℕ) (l : List ℕ) → put_in_order nat_cmp a (a ∷ l) ≡ a ∷ l
put-same a l = rw (nat-same a) refl

put-greater : (a x : ℕ) (l : List ℕ) → x < a → put_in_order nat_cmp a (x ∷ l) ≡ x ∷ put_in_order nat_cmp a l
put-greater a x l h = rw (nat-greater a x h) refl

-- numbers from one on, so many, of which a test holds
abbrev chosen : (ℕ → Bool) → ℕ → ℕ → List ℕ
chosen test at zero = []
chosen test at (suc count) = cond (test at) (at ∷ chosen test (suc at) count) (chosen test (suc at) count)

chosen-same : (test other : ℕ → Bool) (at count : ℕ) → ((n : ℕ) → at ≤ n → n < at + count → test n ≡ other n) → chosen test at count ≡ chosen other at count
chosen-same test other at zero same = refl
chosen-same test other at (suc count) same =
    ap₂ (λ b l. cond b (at ∷ l) l) (same at (omega arith) (omega arith))
    (chosen-same test other (suc at) count (λ n low high. same n (omega (arith, low)) (omega (arith, high))))

chosen-none : (test : ℕ → Bool) (at count : ℕ) → ((n : ℕ) → test n ≡ false) → chosen test at count ≡ []
chosen-none test at zero none = refl
chosen-none test at (suc count) none = ap (λ b. cond b (at ∷ chosen test (suc at) count) (chosen test (suc at) count)) (none at) ∙ chosen-none test (suc at) count none

put-before : (x : ℕ) (test : ℕ → Bool) (at count : ℕ) → x < at → put_in_order nat_cmp x (chosen test at count) ≡ x ∷ chosen test at count
put-before x test at zero low = refl
put-before x test at (suc count) low = by (test at) (put-before x test (suc at) count (omega (arith, low)))
  where
    by : (b : Bool) → put_in_order nat_cmp x (chosen test (suc at) count) ≡ x ∷ chosen test (suc at) count →
        put_in_order nat_cmp x (cond b (at ∷ chosen test (suc at) count) (chosen test (suc at) count)) ≡ x ∷ cond b (at ∷ chosen test (suc at) count) (chosen test (suc at) count)
    by true later = put-less x at (chosen test (suc at) count) low
    by false later = later

abbrev with_one : ℕ → (ℕ → Bool) → ℕ → Bool
with_one x test n = eqb x n || test n

later-same : (x : ℕ) (test : ℕ → Bool) (at count : ℕ) → x < at → chosen test at count ≡ chosen (with_one x test) at count
later-same x test at count low =
    chosen-same test (with_one x test) at count (λ n above high. ap (λ b. b || test n) (sym (ne_eqb x n (λ e. omega (arith, e, low, above)))))

put-chosen : (x : ℕ) (test : ℕ → Bool) (at count : ℕ) → at ≤ x → x < at + count → put_in_order nat_cmp x (chosen test at count) ≡ chosen (with_one x test) at count
put-chosen x test at zero low high = absurd (omega (arith, low, high))
put-chosen x test at (suc count) low high = ⊎_elim here (later (λ h. put-chosen x test (suc at) count (omega (arith, h)) (omega (arith, high)))) (cases_eq x at)
  where
    first : (b : Bool) (y : ℕ) → y ≡ at → put_in_order nat_cmp y (cond b (at ∷ chosen test (suc at) count) (chosen test (suc at) count)) ≡ at ∷ chosen test (suc at) count
    first true y e = ap (λ z. put_in_order nat_cmp z (at ∷ chosen test (suc at) count)) e ∙ put-same at (chosen test (suc at) count)
    first false y e =
        ap (λ z. put_in_order nat_cmp z (chosen test (suc at) count)) e ∙ put-before at test (suc at) count (omega arith)

    here : x ≡ at → put_in_order nat_cmp x (chosen test at (suc count)) ≡ chosen (with_one x test) at (suc count)
    here e =
        first (test at) x e ∙ ap (λ l. at ∷ l) (later-same x test (suc at) count (omega (arith, e)))
        ∙ ap (λ b. cond b (at ∷ chosen (with_one x test) (suc at) count) (chosen (with_one x test) (suc at) count)) (sym (ap (λ b. b || test at) (eq-eqb x at e)))

    other : (b : Bool) → at < x → put_in_order nat_cmp x (chosen test (suc at) count) ≡ chosen (with_one x test) (suc at) count → put_in_order nat_cmp x (cond b (at ∷ chosen test (suc at) count) (chosen test (suc at) count)) ≡ cond b (at ∷ chosen (with_one x test) (suc at) count) (chosen (with_one x test) (suc at) count)
    other true h more = put-greater x at (chosen test (suc at) count) h ∙ ap (λ l. at ∷ l) more
    other false h more = more

    later : (at < x → put_in_order nat_cmp x (chosen test (suc at) count) ≡ chosen (with_one x test) (suc at) count) →
        (x ≡ at → ⊥) → put_in_order nat_cmp x (chosen test at (suc count)) ≡ chosen (with_one x test) at (suc count)
    later more ne =
        other (test at) (omega (arith, low, ne)) (more (omega (arith, low, ne)))
        ∙ ap (λ b. cond b (at ∷ chosen (with_one x test) (suc at) count) (chosen (with_one x test) (suc at) count)) (sym (ap (λ b. b || test at) (ne_eqb x at ne)))

-- numbers in order are those of a range that are among them
order-chosen : (first count : ℕ) (xs : List ℕ) → AllByRecursion (λ x. (first ≤ x) × (x < first + count)) xs → in_order nat_cmp xs ≡ chosen (λ n. list_any (λ x. eqb x n) xs) first count
order-chosen first count [] all = sym (chosen-none (λ n. false) first count (λ n. refl))
order-chosen first count (x ∷ xs) all =
    ap (put_in_order nat_cmp x) (order-chosen first count xs all.1) ∙ put-chosen x (λ n. list_any (λ y. eqb y n) xs) first count all.0.0 all.0.1

marked-chosen : (marks : List Bool) (at count : ℕ) → marked marks at count ≡ chosen (λ n. slice_index_or marks n false) at count
marked-chosen marks at zero = refl
marked-chosen marks at (suc count) = ap (λ l. cond (slice_index_or marks at false) (at ∷ l) l) (marked-chosen marks (suc at) count)

pub joined-order : (marks : List Bool) (xs : List ℕ) → AllByRecursion (λ x. (1 ≤ x) × (x < 233)) xs →
    ((n : ℕ) → n < 233 → slice_index_or marks n false ≡ list_any (λ x. eqb x n) xs) → marked marks 1 232 ≡ in_order nat_cmp xs
joined-order marks xs all are =
    marked-chosen marks 1 232
    ∙ chosen-same (λ n. slice_index_or marks n false) (λ n. list_any (λ x. eqb x n) xs) 1 232 (λ n low high. are n high)
    ∙ sym (order-chosen 1 232 xs all)

-- ---- what commands confirm

ends-from : (before : Ending) (xs : List Ended) → (ending_from before xs).succeeds ≡ ends_well before.succeeds xs
ends-from before [] = refl
ends-from before (ended ∷ xs) = ends-from (ended_so before ended) xs

pub confirmed-same : (endings_by : ℕ → Ending) (orders : List (Option Order)) (past : List Entry) (command : ℕ) →
    endings_by command ≡ ending_from no_ending (endings command past) → orders ≡ (accepting_at past).orders →
    confirmed_of endings_by orders command ≡ confirmed_by past command
confirmed-same endings_by orders past command ended ordered =
    ap₂ (λ b o. cond b (filter is_setting (settings_by (order_at o command))) []) (ap (λ (e : Ending). e.succeeds) ended ∙ ends-from no_ending (endings command past)) ordered

given-same : (f g : ℕ → List Setting) (property : Property) (commands : List ℕ) → ((c : ℕ) → f c ≡ g c) →
    last_given (λ c. value_among (f c) property) commands ≡ last_given (λ c. value_among (g c) property) commands
given-same f g property [] same = refl
given-same f g property (c ∷ commands) same =
    ap₂ (λ a s. or_else a (value_among s property)) (given-same f g property commands same) (same c)

flat-same : {A B : Type 0} (f g : A → List B) (xs : List A) → ((x : A) → f x ≡ g x) → flat_map f xs ≡ flat_map g xs
flat-same f g [] same = refl
flat-same f g (x ∷ xs) same = ap₂ (λ a b. a ++ b) (same x) (flat-same f g xs same)

-- ---- the lines of a node

pub node-rows : (values : List Knowns) (endings_by : ℕ → Ending) (orders : List (Option Order)) (nodes : List (List ℕ)) (past : List Entry) (node : ℕ) →
    sessions_of nodes node ≡ sessions node past → ((command : ℕ) → confirmed_of endings_by orders command ≡ confirmed_by past command) →
    AreLast (values_of values node) (reported node (since_restart past)) →
    lines_of_node values endings_by orders nodes node ≡ node_rows past node
node-rows values endings_by orders nodes past node begun confirms are =
    let f = confirmed_of endings_by orders in
    let es = values_of values node in
    let commands = sessions node past in
    let known = with_commands es f commands in
    let confirmed-are : (property : Property) → (known_at known property).confirmed ≡ confirmed past node property =
    λ property. commands-confirmed es f commands property (are.confirmed property) ∙ given-same f (confirmed_by past) property commands confirms in
    let last-are : (property : Property) → (known_at known property).last ≡ heard_value past node property =
    λ property. commands-last es f commands property ∙ are.last property in
    let keys-are : keys_of known ≡ properties_known past node =
    commands-keys es f commands
    ∙ ap₂ (putting compare_properties) (flat-same (λ c. properties_of (f c)) (λ c. properties_of (confirmed_by past c)) commands (λ c. ap properties_of (confirms c))) are.keys
    ∙ sym (in-order-append total exact (flat_map (λ c. properties_of (confirmed_by past c)) commands) (properties_of (reported node (since_restart past)))) in
    ap (λ c. TableNode node c ∷ known_lines node (with_commands es f c)) begun
    ∙ ap (λ l. TableNode node commands ∷ l)
    (ap (flat_map (known_line node known)) keys-are
    ∙ flat-same (known_line node known) (λ property. value_line node property (confirmed past node property) (heard_value past node property)) (properties_known past node)
    (λ property. ap₂ (value_line node property) (confirmed-are property) (last-are property)))

within-flat : {B : Type 0} (f g : ℕ → List B) (xs : List ℕ) → AllByRecursion (λ x. (1 ≤ x) × (x < 233)) xs → ((x : ℕ) → x < 233 → f x ≡ g x) → flat_map f xs ≡ flat_map g xs
within-flat f g [] all same = refl
within-flat f g (x ∷ xs) all same = ap₂ (λ a b. a ++ b) (same x all.0.1) (within-flat f g xs all.1 same)

chosen-within : (test : ℕ → Bool) (at count : ℕ) → 1 ≤ at → at + count ≤ 233 → AllByRecursion (λ x. (1 ≤ x) × (x < 233)) (chosen test at count)
chosen-within test at zero low high = tt
chosen-within test at (suc count) low high = by (test at) (chosen-within test (suc at) count (omega arith) (omega (arith, high)))
  where
    by : (b : Bool) → AllByRecursion (λ x. (1 ≤ x) × (x < 233)) (chosen test (suc at) count) →
        AllByRecursion (λ x. (1 ≤ x) × (x < 233)) (cond b (at ∷ chosen test (suc at) count) (chosen test (suc at) count))
    by true more = ((low, omega (arith, high)), more)
    by false more = more

nodes-chosen : (marks : List Bool) → nodes_marked marks ≡ chosen (λ n. slice_index_or marks n false) 1 232
unfolding nodes_marked
nodes-chosen marks = marked-chosen marks 1 232

-- the lines of all joined nodes
pub rows-are : (closing : Closing) (endings_by : ℕ → Ending) (orders : List (Option Order)) (nodes : List (List ℕ)) (past : List Entry) →
    ((node : ℕ) → node < 233 → sessions_of nodes node ≡ sessions node past) → ((command : ℕ) → endings_by command ≡ ending_from no_ending (endings command past)) →
    orders ≡ (accepting_at past).orders →
    AllByRecursion (λ x. (1 ≤ x) × (x < 233)) (joined past) → ((node : ℕ) → node < 233 → slice_index_or closing.joined node false ≡ list_any (λ x. eqb x node) (joined past)) →
    ((node : ℕ) → node < 233 → AreLast (values_of closing.heard node) (reported node (since_restart past))) →
    all_rows closing endings_by orders nodes ≡ rows past
rows-are closing endings_by orders nodes past begun ended ordered within joins heard =
    ap (flat_map (lines_of_node closing.heard endings_by orders nodes)) (nodes-chosen closing.joined)
    ∙ within-flat (lines_of_node closing.heard endings_by orders nodes) (node_rows past) (chosen (λ n. slice_index_or closing.joined n false) 1 232)
    (chosen-within (λ n. slice_index_or closing.joined n false) 1 232 (omega arith) (omega arith))
    (λ node below. node-rows closing.heard endings_by orders nodes past node (begun node below) (λ command. confirmed-same endings_by orders past command (ended command) ordered) (heard node below))
    ∙ ap (flat_map (node_rows past)) (sym (marked-chosen closing.joined 1 232) ∙ joined-order closing.joined (joined past) within joins)
