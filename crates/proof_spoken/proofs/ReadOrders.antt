-- What the transcript shows of the orders of a node is what the table says.
use Rattle.std.proofs.Common.{◌≡◌, ℕ, ◌==◌, Bool, true, false, if◌then◌else◌, List, [], ◌∷◌, ◌++◌, Option, Some, None, inl, inr, refl, sym, ap, ap₂, subst, ◌∙◌, append_assoc, append-nil}
use Rattle.std.specs.List.{AllByRecursion, flat_map}
use Rattle.std.proofs.lemmas.Bool.{eq-eqb, eqb-true, eqb-false}
use Rattle.std.proofs.lemmas.List.{map-append}
use Rattle.zw_base.proofs.Each.{all-append}
use Rattle.zw_base.specs.declared.order.Order.{Order}
use Rattle.zw_text.specs.declared.line.Line.{Line}
use Rattle.zw_text.specs.declared.line.Line.TheVariants.{Command as Commanded}
use Rattle.zw_text.specs.declared.entry.Entry.{Entry}
use Rattle.zw_text.specs.declared.entry.Entry.TheVariants.{Accepted}
use Rattle.zw_text.specs.Transcript.{Accepting, Command as Shown, accepted, accepted_at, accepted_number, accepted_numbers, accepting, folded, line_after, line_last, not_accepting, numbered, order_for}
use Rattle.zw_text.proofs.Views.{folded-append}
use Rattle.proof_once.specs.law_transcript.Commands.{before_accepted, classes_for, numbers_of, order_of, settings_by, settings_for}
use Rattle.proof_once.specs.law_transcript.Lists.{EachAfter, Has}
use Rattle.proof_once.specs.law_transcript.Stores.{node_at}
use Rattle.host_keep.specs.Kept.{Taken}
use Rattle.host_orders.specs.Settings.{settings}
use Rattle.host_orders.specs.Wrapping.{carriage_of}
use Rattle.host_orders.specs.declared.carriage.Carriage.{Carriage}
use Rattle.proof_world.specs.host_model.State.{Command, HostState, command_at}
use Rattle.proof_once.specs.proof_host.Facts.{Facts}
use Rattle.proof_once.specs.proof_host.Laws.{accepted_for, number_for, numbers_for}
use Rattle.proof_once.specs.proof_host.Tables.{nodes_by, taken_at}
use Rattle.proof_once.specs.ByTable.{IsTable}
use Rattle.proof_once.specs.Tied.{settings_taken}
use Rattle.proof_once.proofs.Having.{all_of, has_left, has_right, has_shown, shown_has}
use Rattle.proof_once.proofs.BegunCommands.{accepted_here}
use Rattle.proof_spoken.specs.Said.{AreSaid, IsSaid, MayAnswer}

module _ (listing : List Entry → ℕ → List ℕ) (commands : List Command) where
  -- ---- the commands of a node, as the transcript shows them

  -- the table has the order of a command
  abbrev HasOrder : Shown → Type 0
  HasOrder command = (carriage : Carriage) × (taken_at commands command.number ≡ Some (record { order = command.order; carriage = carriage }))

  -- these are the commands of such numbers, and the table has the order of each
  record AreOf (shown : List Shown) (numbers : List ℕ) : Type 0 where
    pub numbers_are : numbers_of shown ≡ numbers
    pub orders : AllByRecursion HasOrder shown

  order_listed : (n node : ℕ) (order : Order) (lines : List Line) → lines ≡ Commanded order ∷ [] → order.node ≡ node → node ≡ n → flat_map (order_for n) lines ≡ order ∷ []
  order_listed n node order lines is of here =
      ap (λ (l : List Line). flat_map (order_for n) l) is ∙ ap (λ (b : Bool). (if b then order ∷ [] else []) ++ []) (eq-eqb order.node n (of ∙ here))

  one_of : (n command node : ℕ) (past : List Entry) (lines : List Line) (b : Bool) → (node == n) ≡ b → lines ≡ line_last past → IsSaid listing commands past command node
      → AreOf (if b then numbered command (flat_map (order_for n) lines) else []) (if b then command ∷ [] else [])
  one_of n command node past lines true e following is =
      let alone = order_listed n node is.order lines (following ∙ is.said) is.of_node (eqb-true node n e) in
      subst (λ (l : List Order). AreOf (numbered command l) (command ∷ [])) (sym alone) (record { numbers_are = refl; orders = ((is.carriage, is.taken), tt) })
  one_of n command node past lines false e following is = record { numbers_are = refl; orders = tt }

  entry_of : (n : ℕ) (past : List Entry) (lines : List Line) (entry : Entry) → lines ≡ line_last past → MayAnswer listing commands past entry
      → AreOf (accepted_at n lines entry) (number_for n entry)
  entry_of n past lines (Accepted command node) following is = one_of n command node past lines (node == n) refl following is
  entry_of n past lines entry following is = record { numbers_are = refl; orders = tt }

  of_both : (first later : List Shown) (ones others : List ℕ) → AreOf first ones → AreOf later others → AreOf (first ++ later) (ones ++ others)
  of_both first later ones others one other = record {
    numbers_are = map-append (λ (command : Shown). command.number) first later ∙ ap₂ (λ (a b : List ℕ). a ++ b) one.numbers_are other.numbers_are;
    orders = all-append HasOrder first later one.orders other.orders;
  }

  all_of_node : (n : ℕ) (past rest : List Entry) (so_far : Accepting) (numbers : List ℕ) → so_far.line ≡ line_last past → EachAfter (MayAnswer listing commands) past rest
      → AreOf so_far.commands numbers → AreOf (folded (accepting n) so_far rest).commands (numbers ++ numbers_for n rest)
  all_of_node n past [] so_far numbers following each are = subst (λ (l : List ℕ). AreOf so_far.commands l) (sym (append-nil numbers)) are
  all_of_node n past (entry ∷ rest) so_far numbers following each are =
      let next = of_both so_far.commands (accepted_at n so_far.line entry) numbers (number_for n entry) are (entry_of n past so_far.line entry following each.0) in
      subst (λ (l : List ℕ). AreOf (folded (accepting n) (accepting n so_far entry) rest).commands l) (append_assoc numbers (number_for n entry) (numbers_for n rest))
      (all_of_node n (past ++ entry ∷ []) rest (accepting n so_far entry) (numbers ++ number_for n entry) (sym (folded-append line_after [] past (entry ∷ []))) each.1 next)

  -- an order of a number among them
  record IsFound (shown : List Shown) (number : ℕ) : Type 0 where
    pub order : Order
    pub carriage : Carriage
    pub is : order_of number shown ≡ Some order
    pub taken : taken_at commands number ≡ Some (record { order = order; carriage = carriage })

  found_or : (b : Bool) (first : Shown) (more : List Shown) (number : ℕ) → (first.number == number) ≡ b → HasOrder first → ((first.number ≡ number → ⊥) → IsFound more number)
      → (carriage : Carriage) × (order : Order) × ((if b then Some first.order else order_of number more) ≡ Some order)
      × (taken_at commands number ≡ Some (record { order = order; carriage = carriage }))
  found_or true first more number e has next =
      (has.0, first.order, refl, subst (λ (k : ℕ). taken_at commands k ≡ Some (record { order = first.order; carriage = has.0 })) (eqb-true first.number number e) has.1)
  found_or false first more number e has next = let later = next (eqb-false first.number number e) in (later.carriage, later.order, later.is, later.taken)

  found : (shown : List Shown) (number : ℕ) → AllByRecursion HasOrder shown → Has (numbers_of shown) number → IsFound shown number
  found [] number all has = absurd has
  found (first ∷ more) number all has =
      let one = found_or (first.number == number) first more number refl all.0 (λ other. found more number all.1 (rest_has other has)) in
      record { order = one.1; carriage = one.0; is = one.2; taken = one.3 }
    where
      rest_has : (first.number ≡ number → ⊥) → Has (numbers_of (first ∷ more)) number → Has (numbers_of more) number
      rest_has other (inl e) = absurd (other e)
      rest_has other (inr has) = has

  -- ---- the classes that were known then

  -- where a number was accepted first
  record IsFirst (past rest : List Entry) (number : ℕ) : Type 0 where
    pub node : ℕ
    pub is : IsSaid listing commands (past ++ before_accepted number rest) number node
    pub among : Has (accepted_for number rest) node

  later_first : (past : List Entry) (entry : Entry) (rest : List Entry) (number : ℕ) → before_accepted number (entry ∷ rest) ≡ entry ∷ before_accepted number rest
      → IsFirst (past ++ entry ∷ []) rest number → IsFirst past (entry ∷ rest) number
  later_first past entry rest number same first = record {
    node = first.node;
    is = subst (λ (l : List Entry). IsSaid listing commands l number first.node)
        (append_assoc past (entry ∷ []) (before_accepted number rest) ∙ ap (λ (l : List Entry). past ++ l) (sym same)) first.is;
    among = has_right (node_at number entry) (accepted_for number rest) first.node first.among;
  }

  here_or : (past : List Entry) (command node : ℕ) (rest : List Entry) (number : ℕ) (b : Bool) → (command == number) ≡ b → IsSaid listing commands past command node
      → Has (command ∷ accepted_numbers rest) number → (Has (accepted_numbers rest) number → IsFirst (past ++ Accepted command node ∷ []) rest number)
      → IsFirst past (Accepted command node ∷ rest) number
  here_or past command node rest number true e is has next =
      let same = eqb-true command number e in
      record {
        node = node;
        is = subst (λ (l : List Entry). IsSaid listing commands l number node)
            (sym (ap (λ (b : Bool). past ++ (if b then [] else Accepted command node ∷ before_accepted number rest)) e ∙ append-nil past))
            (subst (λ (k : ℕ). IsSaid listing commands past k node) same is);
        among = has_left (node_at number (Accepted command node)) (accepted_for number rest) node
            (subst (λ (b : Bool). Has (if b then node ∷ [] else []) node) (sym e) (inl refl));
      }
  here_or past command node rest number false e is (inl same) next = absurd (eqb-false command number e same)
  here_or past command node rest number false e is (inr has) next =
      later_first past (Accepted command node) rest number
      (ap (λ (b : Bool). if b then [] else Accepted command node ∷ before_accepted number rest) e) (next has)

  first_of : (past rest : List Entry) (number : ℕ) → EachAfter (MayAnswer listing commands) past rest → Has (accepted_numbers rest) number → IsFirst past rest number
  first_of past [] number each has = absurd has
  first_of past (Accepted command node ∷ rest) number each has =
      here_or past command node rest number (command == number) refl each.0 has (first_of (past ++ Accepted command node ∷ []) rest number each.1)
  first_of past (entry ∷ rest) number each has = later_first past entry rest number refl (first_of (past ++ entry ∷ []) rest number each.1 has)

-- ---- of one node

number_here : (n number : ℕ) (entry : Entry) → Has (number_for n entry) number → Has (accepted_number entry) number
number_here n number (Accepted command node) has = by (node == n) has
  where
    by : (b : Bool) → Has (if b then command ∷ [] else []) number → Has (command ∷ []) number
    by true has = has
    by false has = absurd has
number_here n number entry has = absurd has

one_node : (o : Option Command) (a b : ℕ) → Has (nodes_by o) a → Has (nodes_by o) b → a ≡ b
one_node None a b one other = absurd one
one_node (Some command) a b (inl one) (inl other) = sym one ∙ other
one_node (Some command) a b (inr one) other = absurd one
one_node (Some command) a b (inl one) (inr other) = absurd other

same_order : (a b : Order) (c d : Carriage) (taken : Option Taken) → taken ≡ Some (record { order = a; carriage = c }) → taken ≡ Some (record { order = b; carriage = d }) → a ≡ b
same_order a b c d taken first later = some_order (record { order = a; carriage = c }) (record { order = b; carriage = d }) (sym first ∙ later)
  where
    some_order : (x y : Taken) → Some x ≡ Some y → x.order ≡ y.order
    some_order x y e = cc

module _ (listing : List Entry → ℕ → List ℕ) (past : List Entry) (h : HostState) (node : ℕ) (facts : Facts past h) (said : AreSaid listing h.commands past) where
  shown : AreOf listing h.commands (accepted node past) (numbers_for node past)
  shown = all_of_node listing h.commands node [] past not_accepting [] refl said (record { numbers_are = refl; orders = tt })

  -- a number that was accepted for the node: its order by the transcript and by the table, and how that is carried
  record IsTakenAs (number : ℕ) : Type 0 where
    pub order : Order
    pub carriage : Carriage
    pub is : order_of number (accepted node past) ≡ Some order
    pub taken : taken_at h.commands number ≡ Some (record { order = order; carriage = carriage })
    pub carried : carriage ≡ carriage_of (classes_for listing past node number) order

  taken_as : (number : ℕ) → Has (numbers_for node past) number → IsTakenAs number
  taken_as number has =
      let one = shown_has (number_for node) past number has in
      let first = first_of listing h.commands [] past number said (has_shown accepted_number past one.by number one.among (number_here node number one.by one.shows)) in
      let here : Has (accepted_for number past) node = has_shown (node_at number) past one.by node one.among (accepted_here node number one.by one.shows) in
      let table = facts.accepted.nodes number in
      let same : first.node ≡ node = one_node (command_at h.commands number) first.node node (subst (λ (l : List ℕ). Has l first.node) table first.among) (subst (λ (l : List ℕ). Has l node) table here) in
      let order = found listing h.commands (accepted node past) number shown.orders (subst (λ (l : List ℕ). Has l number) (sym shown.numbers_are) has) in
      let alike = same_order order.order first.is.order order.carriage first.is.carriage (taken_at h.commands number) order.taken first.is.taken in
      record {
        order = first.is.order;
        carriage = first.is.carriage;
        is = order.is ∙ ap Some alike;
        taken = first.is.taken;
        carried = subst (λ (n : ℕ). first.is.carriage ≡ carriage_of (classes_for listing past n number) first.is.order) same first.is.carried;
      }

  asked : (number : ℕ) → Has (numbers_for node past) number → settings_for listing past node number ≡ settings_taken (taken_at h.commands number)
  asked number has =
      let one = taken_as number has in
      ap (λ (o : Option Order). settings_by (classes_for listing past node number) o) one.is
      ∙ ap (λ (c : Carriage). settings c.actuator one.order) (sym one.carried)
      ∙ ap settings_taken (sym one.taken)

  some_taken : (a b : Taken) → Some a ≡ Some b → a ≡ b
  some_taken a b e = cc

  -- so whatever the table has of it
  pub carried_is : (number : ℕ) (taken : Taken) → Has (numbers_for node past) number → taken_at h.commands number ≡ Some taken
      → (order_of number (accepted node past) ≡ Some taken.order) × (taken.carriage ≡ carriage_of (classes_for listing past node number) taken.order)
  carried_is number taken has at =
      let one = taken_as number has in
      subst (λ (t : Taken). (order_of number (accepted node past) ≡ Some t.order) × (t.carriage ≡ carriage_of (classes_for listing past node number) t.order))
      (some_taken (record { order = one.order; carriage = one.carriage }) taken (sym one.taken ∙ at)) (one.is, one.carried)

  pub table_is : IsTable listing h.commands node past
  table_is = record {
    numbers = shown.numbers_are;
    settings = all_of (λ number. settings_for listing past node number ≡ settings_taken (taken_at h.commands number)) (numbers_for node past) asked;
  }
