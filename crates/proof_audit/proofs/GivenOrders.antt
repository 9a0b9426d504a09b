-- The order of an accepted command is that of the line before it, by both ways to look for it.
use Rattle.std.proofs.Common.{◌≡◌, ℕ, zero, suc, ◌+◌, ◌-◌, ◌<◌, ◌≤◌, cond, eqb, Bool, true, false, List, [], ◌∷◌, ◌++◌, length, Option, Some, None, inl, inr, arith, refl, sym, ap, ap₂, subst, ◌∙◌, append_assoc, append-nil, length-append}
use Rattle.std.specs.Prelude.{slice_get}
use Rattle.std.specs.List.{AllByRecursion, flat_map}
use Rattle.std.proofs.lemmas.Bool.{eq-eqb, eqb-true, ne_eqb}
use Rattle.zw_base.proofs.Each.{all-append, all-left, all-right, all-weaker}
use Rattle.zw_base.specs.declared.order.Order.{Order}
use Rattle.zw_text.specs.Line.{line_at}
use Rattle.zw_text.specs.declared.line.Line.{Line}
use Rattle.zw_text.specs.declared.line.Line.TheVariants.{Command as Commanded}
use Rattle.zw_text.specs.declared.entry.Entry.{Entry}
use Rattle.zw_text.specs.declared.entry.Entry.TheVariants.{Accepted, Said}
use Rattle.zw_text.specs.Transcript.{Accepting, Command, accepted, accepted_at, accepted_number, accepted_numbers, accepting, folded, line_after, line_last, line_of, not_accepting, numbered, order_for}
use Rattle.zw_text.proofs.Views.{folded-append, shown-append}
use Rattle.law_transcript.specs.Lists.{EachAfter, Has}
use Rattle.law_transcript.specs.Stores.{node_at}
use Rattle.law_transcript.proofs.Having.{shown_has}
use Rattle.proof_host.specs.Laws.{MayAccept, accepted_for}
use Rattle.audit_books.specs.Accepting.{order_at, order_there, order_to, orders_after}
use Rattle.audit_books.specs.Keeping.{lines_of}
use Rattle.audit_books.specs.SessionRule.{order_among}
use Rattle.audit_table.specs.OrdersGiven.{Accepting as Given, accepting_after, accepting_at, line_shown, order_of}
use Rattle.proof_audit.specs.Books.{AreAsked, IsAsked, MayBeAsked}
use Rattle.proof_audit.proofs.Cutting.{Stands, each-before, each-cut, stands}
use Rattle.audit_books.proofs.Accepts.{at-suc as order-at-next, at-new as order-last}
use Rattle.audit_books.proofs.Follows.{read-same, line-kept}
use Rattle.audit.proofs.Kept.{accepting-more as given-more}

-- ---- accepted commands grow

-- what more entries show, after these lines
abbrev more_accepted : ℕ → List Line → List Entry → List Command
more_accepted n lines entries = (folded (accepting n) (record { commands = []; line = lines }) entries).commands

accepted-from : (n : ℕ) (so_far : Accepting) (entries : List Entry) → (folded (accepting n) so_far entries).commands ≡ so_far.commands ++ more_accepted n so_far.line entries
accepted-from n so_far [] = sym (append-nil so_far.commands)
accepted-from n so_far (entry ∷ rest) =
    let here = accepted_at n so_far.line entry in
    accepted-from n (accepting n so_far entry) rest
    ∙ (append_assoc so_far.commands here (more_accepted n (line_of entry) rest)
    ∙ ap (λ (l : List Command). so_far.commands ++ l) (sym (accepted-from n (accepting n (record { commands = []; line = so_far.line }) entry) rest)))

pub accepted-grows : (n : ℕ) (past more : List Entry) → accepted n (past ++ more) ≡ accepted n past ++ more_accepted n (line_last past) more
accepted-grows n past more =
    ap (λ (one : Accepting). one.commands) (folded-append (accepting n) not_accepting past more)
    ∙ (accepted-from n (folded (accepting n) not_accepting past) more
    ∙ ap (λ (lines : List Line). accepted n past ++ more_accepted n lines more) (line-kept n past not_accepting [] refl))

-- ---- commands among others

pub among-left : (number : ℕ) (xs ys : List Command) (order : Order) → order_among number xs ≡ Some order → order_among number (xs ++ ys) ≡ Some order
among-left number [] ys order is = absurd cc
among-left number (x ∷ xs) ys order is = by (eqb x.number number) is (among-left number xs ys order)
  where
    by : (b : Bool) → cond b (Some x.order) (order_among number xs) ≡ Some order → (order_among number xs ≡ Some order → order_among number (xs ++ ys) ≡ Some order)
        → cond b (Some x.order) (order_among number (xs ++ ys)) ≡ Some order
    by true is next = is
    by false is next = next is

among-right : (number : ℕ) (xs ys : List Command) → order_among number xs ≡ None → order_among number (xs ++ ys) ≡ order_among number ys
among-right number [] ys none = refl
among-right number (x ∷ xs) ys none = by (eqb x.number number) none (among-right number xs ys)
  where
    by : (b : Bool) → cond b (Some x.order) (order_among number xs) ≡ None → (order_among number xs ≡ None → order_among number (xs ++ ys) ≡ order_among number ys)
        → cond b (Some x.order) (order_among number (xs ++ ys)) ≡ order_among number ys
    by true none next = absurd cc
    by false none next = next none

-- ---- the orders by number

get-left : (orders more : List (Option Order)) (k : ℕ) (order : Order) → order_there (slice_get orders k) ≡ Some order → order_there (slice_get (orders ++ more) k) ≡ Some order
get-left [] more k order is = absurd cc
get-left (first ∷ orders) more zero order is = is
get-left (first ∷ orders) more (suc k) order is = get-left orders more k order is

-- and keeps it
order-left : (orders more : List (Option Order)) (command : ℕ) (order : Order) → order_at orders command ≡ Some order → order_at (orders ++ more) command ≡ Some order
order-left orders more zero order is = absurd cc
order-left orders more (suc k) order is = order-at-next (orders ++ more) k ∙ get-left orders more k order (sym (order-at-next orders k) ∙ is)

-- the orders of more entries, after this line
abbrev more_orders : Option Line → List Entry → List (Option Order)
more_orders line entries = (folded accepting_after (record { orders = []; line = line }) entries).orders

orders-from : (given : Given) (entries : List Entry) → (folded accepting_after given entries).orders ≡ given.orders ++ more_orders given.line entries
orders-from given [] = sym (append-nil given.orders)
orders-from given (entry ∷ rest) =
    let here = orders_after [] given.line entry in
    orders-from (accepting_after given entry) rest
    ∙ (ap (λ (l : List (Option Order)). l ++ more_orders (line_shown entry) rest) (after-none given.orders given.line entry)
    ∙ (append_assoc given.orders here (more_orders (line_shown entry) rest)
    ∙ ap (λ (l : List (Option Order)). given.orders ++ l) (sym (orders-from (accepting_after (record { orders = []; line = given.line }) entry) rest))))
  where
    after-none : (orders : List (Option Order)) (line : Option Line) (entry : Entry) → orders_after orders line entry ≡ orders ++ orders_after [] line entry
    after-none orders line (Accepted command node) = refl
    after-none orders line entry = sym (append-nil orders)

orders-grow : (past more : List Entry) → (accepting_at (past ++ more)).orders ≡ (accepting_at past).orders ++ more_orders (accepting_at past).line more
orders-grow past more =
    ap (λ (one : Given). one.orders) (folded-append accepting_after (record { orders = []; line = None }) past more)
    ∙ orders-from (folded accepting_after (record { orders = []; line = None }) past) more

shown-same : (entry : Entry) → lines_of (line_shown entry) ≡ line_of entry
shown-same (Said words) = read-same (line_at words)
shown-same other = refl

-- both ways count the same of these entries, and see the same line
pub record AreGiven (past : List Entry) : Type 0 where
  pub count : length (accepting_at past).orders ≡ length (accepted_numbers past)
  pub line : lines_of (accepting_at past).line ≡ line_last past

accepted-one : (n : ℕ) (past : List Entry) (entry : Entry) (lines : List Line) → lines ≡ line_last past → accepted n (past ++ (entry ∷ [])) ≡ accepted n past ++ accepted_at n lines entry
accepted-one n past entry lines same = accepted-grows n past (entry ∷ []) ∙ ap (λ (l : List Line). accepted n past ++ accepted_at n l entry) (sym same)

count-one : (given : Given) (past : List Entry) (entry : Entry) → length given.orders ≡ length (accepted_numbers past)
    → length (orders_after given.orders given.line entry) ≡ length (accepted_numbers past ++ accepted_number entry)
count-one given past (Accepted command node) same =
    length-append given.orders (order_to node given.line ∷ []) ∙ ap (λ (n : ℕ). n + 1) same ∙ sym (length-append (accepted_numbers past) (command ∷ []))
count-one given past entry same = same ∙ ap length (sym (append-nil (accepted_numbers past)))

given-one : (past : List Entry) (entry : Entry) → AreGiven past → AreGiven (past ++ (entry ∷ []))
given-one past entry given = record {
  count =
      ap (λ (one : Given). length one.orders) (given-more past entry)
      ∙ (count-one (accepting_at past) past entry given.count ∙ ap length (sym (shown-append accepted_number past (entry ∷ []) ∙ ap (λ (l : List ℕ). accepted_numbers past ++ l) (append-nil (accepted_number entry)))));
  line =
      ap (λ (one : Given). lines_of one.line) (given-more past entry) ∙ (shown-same entry ∙ sym (folded-append line_after [] past (entry ∷ [])));
}

given-from : (past rest : List Entry) → AreGiven past → AreGiven (past ++ rest)
given-from past [] given = subst (λ (l : List Entry). AreGiven l) (sym (append-nil past)) given
given-from past (entry ∷ rest) given =
    subst (λ (l : List Entry). AreGiven l) (append_assoc past (entry ∷ []) rest) (given-from (past ++ (entry ∷ [])) rest (given-one past entry given))

pub are-given : (past : List Entry) → AreGiven past
are-given past = given-from [] past (record { count = refl; line = refl })

-- ---- numbers so far

pub numbers-one : (past : List Entry) (entry : Entry) → accepted_numbers (past ++ (entry ∷ [])) ≡ accepted_numbers past ++ accepted_number entry
numbers-one past entry = shown-append accepted_number past (entry ∷ []) ∙ ap (λ (l : List ℕ). accepted_numbers past ++ l) (append-nil (accepted_number entry))

-- each number is at most how many there are
abbrev AreUpTo : ℕ → List ℕ → Type 0
AreUpTo count numbers = AllByRecursion (λ number. number ≤ count) numbers

up-to-more : (numbers : List ℕ) (next : ℕ) → next ≡ length numbers + 1 → AreUpTo (length numbers) numbers → AreUpTo (length (numbers ++ (next ∷ []))) (numbers ++ (next ∷ []))
up-to-more numbers next is below =
    subst (λ (count : ℕ). AreUpTo count (numbers ++ (next ∷ []))) (sym (length-append numbers (next ∷ [])))
    (all-append (λ number. number ≤ length numbers + 1) numbers (next ∷ [])
    (all-weaker (λ number. number ≤ length numbers) (λ number. number ≤ length numbers + 1) (λ number low. omega (arith, low)) numbers below) (omega (arith, is), tt))

up-to-one : (past : List Entry) (entry : Entry) → MayAccept past entry → AreUpTo (length (accepted_numbers past)) (accepted_numbers past)
    → AreUpTo (length (accepted_numbers past ++ accepted_number entry)) (accepted_numbers past ++ accepted_number entry)
up-to-one past (Accepted command node) may below = up-to-more (accepted_numbers past) command may below
up-to-one past entry may below = subst (λ (l : List ℕ). AreUpTo (length l) l) (sym (append-nil (accepted_numbers past))) below

up-to-from : (past rest : List Entry) → EachAfter MayAccept past rest → AreUpTo (length (accepted_numbers past)) (accepted_numbers past)
    → AreUpTo (length (accepted_numbers (past ++ rest))) (accepted_numbers (past ++ rest))
up-to-from past [] all below = subst (λ (l : List Entry). AreUpTo (length (accepted_numbers l)) (accepted_numbers l)) (sym (append-nil past)) below
up-to-from past (entry ∷ rest) all below =
    subst (λ (l : List Entry). AreUpTo (length (accepted_numbers l)) (accepted_numbers l)) (append_assoc past (entry ∷ []) rest)
    (up-to-from (past ++ (entry ∷ [])) rest all.1 (subst (λ (l : List ℕ). AreUpTo (length l) l) (sym (numbers-one past entry)) (up-to-one past entry all.0 below)))

pub are-up-to : (past : List Entry) → EachAfter MayAccept [] past → AllByRecursion (λ number. number ≤ length (accepted_numbers past)) (accepted_numbers past)
are-up-to past all = up-to-from [] past all tt

-- ---- a number that is not among commands

among-none : (number : ℕ) (commands : List Command) → AllByRecursion (λ (one : Command). one.number < number) commands → order_among number commands ≡ None
among-none number [] all = refl
among-none number (one ∷ commands) all =
    ap (λ (b : Bool). cond b (Some one.order) (order_among number commands)) (ne_eqb one.number number (λ same. omega (arith, all.0, same))) ∙ among-none number commands all.1

numbered-below : (limit command : ℕ) (orders : List Order) → command < limit → AllByRecursion (λ (one : Command). one.number < limit) (numbered command orders)
numbered-below limit command [] low = tt
numbered-below limit command (order ∷ orders) low = (low, numbered-below limit command orders low)

at-below : (limit n : ℕ) (lines : List Line) (entry : Entry) → AllByRecursion (λ number. number < limit) (accepted_number entry) → AllByRecursion (λ (one : Command). one.number < limit) (accepted_at n lines entry)
at-below limit n lines (Accepted command node) low = by (eqb node n)
  where
    by : (b : Bool) → AllByRecursion (λ (one : Command). one.number < limit) (cond b (numbered command (flat_map (order_for n) lines)) [])
    by true = numbered-below limit command (flat_map (order_for n) lines) low.0
    by false = tt
at-below limit n lines entry low = tt

all-below : (limit n : ℕ) (so_far : Accepting) (entries : List Entry) → AllByRecursion (λ (one : Command). one.number < limit) so_far.commands → AllByRecursion (λ number. number < limit) (accepted_numbers entries)
    → AllByRecursion (λ (one : Command). one.number < limit) (folded (accepting n) so_far entries).commands
all-below limit n so_far [] so low = so
all-below limit n so_far (entry ∷ entries) so low =
    all-below limit n (accepting n so_far entry) entries
    (all-append (λ (one : Command). one.number < limit) so_far.commands (accepted_at n so_far.line entry) so
    (at-below limit n so_far.line entry (all-left (λ number. number < limit) (accepted_number entry) (accepted_numbers entries) low)))
    (all-right (λ number. number < limit) (accepted_number entry) (accepted_numbers entries) low)

-- ---- where a command was accepted

accepted-entry : (command node : ℕ) (entry : Entry) → Has (node_at command entry) node → entry ≡ Accepted command node
accepted-entry command node (Accepted number of) has = by (eqb number command) refl has
  where
    by : (b : Bool) → eqb number command ≡ b → Has (cond b (of ∷ []) []) node → Accepted number of ≡ Accepted command node
    by true same (inl is) = ap₂ (λ (a b : ℕ). Accepted a b) (eqb-true number command same) is
    by true same (inr none) = absurd none
    by false same has = absurd has
accepted-entry command node entry has = absurd has

pub accepted-stands : (past : List Entry) (command node : ℕ) → Has (accepted_for command past) node → Stands past (Accepted command node)
accepted-stands past command node has =
    let one = shown_has (node_at command) past node has in
    stands past (Accepted command node) (subst (λ (e : Entry). Has past e) (accepted-entry command node one.by one.shows) one.among)

-- the order of an accepted command, and what is known of it
pub record IsGiven (listing : ℕ → List ℕ) (past : List Entry) (command node : ℕ) : Type 0 where
  pub before : List Entry
  pub later : List Entry
  pub is : past ≡ before ++ Accepted command node ∷ later
  pub asked : IsAsked listing before node
  pub among : order_among command (accepted node past) ≡ Some asked.order
  pub found : order_of past command ≡ Some asked.order

-- the order of the line for the node
order-listed : (n node : ℕ) (order : Order) (lines : List Line) → lines ≡ Commanded order ∷ [] → order.node ≡ node → node ≡ n → flat_map (order_for n) lines ≡ order ∷ []
order-listed n node order lines is of here =
    ap (λ (l : List Line). flat_map (order_for n) l) is ∙ ap (λ (b : Bool). cond b (order ∷ []) [] ++ []) (eq-eqb order.node n (of ∙ here))

first-order : (before : List Entry) (command node : ℕ) (order : Order) → EachAfter MayAccept [] before → command ≡ length (accepted_numbers before) + 1 → line_last before ≡ Commanded order ∷ []
    → order.node ≡ node → order_among command (accepted node (before ++ (Accepted command node ∷ []))) ≡ Some order
first-order before command node order accepts next said of =
    let below = all-weaker (λ number. number ≤ length (accepted_numbers before)) (λ number. number < command) (λ number low. omega (arith, low, next)) (accepted_numbers before) (are-up-to before accepts) in
    ap (order_among command) (accepted-one node before (Accepted command node) (line_last before) refl)
    ∙ (among-right command (accepted node before) (accepted_at node (line_last before) (Accepted command node)) (among-none command (accepted node before) (all-below command node not_accepting before tt below))
    ∙ (ap (λ (b : Bool). order_among command (cond b (numbered command (flat_map (order_for node) (line_last before))) [])) (eq-eqb node node refl)
    ∙ (ap (λ (l : List Order). order_among command (numbered command l)) (order-listed node node order (line_last before) said of refl)
    ∙ ap (λ (b : Bool). cond b (Some order) None) (eq-eqb command command refl))))

-- the same by the list of all orders
line-is : (line : Option Line) (order : Order) → lines_of line ≡ Commanded order ∷ [] → line ≡ Some (Commanded order)
line-is None order is = absurd cc
line-is (Some one) order is = let same : one ≡ Commanded order = cc in ap Some same

first-found : (before : List Entry) (command node : ℕ) (order : Order) → command ≡ length (accepted_numbers before) + 1 → line_last before ≡ Commanded order ∷ [] → order.node ≡ node
    → order_of (before ++ (Accepted command node ∷ [])) command ≡ Some order
first-found before command node order next said of =
    let given = are-given before in
    let line = line-is (accepting_at before).line order (given.line ∙ said) in
    ap (λ (one : Given). order_at one.orders command) (given-more before (Accepted command node))
    ∙ (order-last (accepting_at before).orders (order_to node (accepting_at before).line) command (next ∙ ap (λ (n : ℕ). n + 1) (sym given.count))
    ∙ (ap (order_to node) line ∙ ap (λ (b : Bool). cond b (Some order) None) (eq-eqb order.node node of)))

module _ (listing : ℕ → List ℕ) (past : List Entry) (accepts : EachAfter MayAccept [] past) (asked : AreAsked listing past) where
  pub is-given : (command node : ℕ) → Stands past (Accepted command node) → IsGiven listing past command node
  is-given command node where_is =
      let before = where_is.before in
      let one : IsAsked listing before node = each-cut (MayBeAsked listing) past before (Accepted command node) where_is.later where_is.is asked in
      let next = each-cut MayAccept past before (Accepted command node) where_is.later where_is.is accepts in
      let first = first-order before command node one.order (each-before MayAccept past before (Accepted command node ∷ where_is.later) where_is.is accepts) next one.said one.of_node in
      let there : order_among command (accepted node past) ≡ Some one.order =
      ap (λ (l : List Entry). order_among command (accepted node l)) (where_is.is ∙ sym (append_assoc before (Accepted command node ∷ []) where_is.later))
      ∙ (ap (order_among command) (accepted-grows node (before ++ (Accepted command node ∷ [])) where_is.later)
      ∙ among-left command (accepted node (before ++ (Accepted command node ∷ []))) _ one.order first) in
      record {
        before = before;
        later = where_is.later;
        is = where_is.is;
        asked = one;
        among = there;
        found =
            ap (λ (l : List Entry). order_of l command) (where_is.is ∙ sym (append_assoc before (Accepted command node ∷ []) where_is.later))
            ∙ (ap (λ (l : List (Option Order)). order_at l command) (orders-grow (before ++ (Accepted command node ∷ [])) where_is.later)
            ∙ order-left (accepting_at (before ++ (Accepted command node ∷ []))).orders _ command one.order (first-found before command node one.order next one.said one.of_node));
      }

  pub is-given-for : (command node : ℕ) → accepted_for command past ≡ node ∷ [] → IsGiven listing past command node
  is-given-for command node for_it = is-given command node (accepted-stands past command node (subst (λ (l : List ℕ). Has l node) (sym for_it) (inl refl)))
