-- What an accepted command asks for is the same by the classes that the host knew of its node and by the kind of the node.
use Rattle.std.proofs.Common.{◌≡◌, ◌⊎◌, ℕ, zero, suc, ◌+◌, ◌-◌, ◌<◌, ◌≤◌, cond, eqb, Bool, true, false, List, [], ◌∷◌, ◌++◌, length, length-append, Option, Some, None, inl, inr, arith, refl, sym, ap, ap₂, subst, ◌∙◌, append_assoc, append-nil}
use Rattle.std.specs.Prelude.{slice_get}
use Rattle.std.specs.List.{AllByRecursion}
use Rattle.std.proofs.lemmas.Bool.{cases_eq, eq-eqb, ne_eqb}
use Rattle.std.proofs.lemmas.Option.{slice_get_past}
use Rattle.std.proofs.Math.Dec.{eqb-suc-zero}
use Rattle.zw_base.proofs.Each.{all-weaker}
use Rattle.zw_base.specs.declared.order.Order.{Order}
use Rattle.zw_text.specs.declared.entry.Entry.{Entry}
use Rattle.zw_text.specs.declared.entry.Entry.TheVariants.{Accepted}
use Rattle.zw_text.specs.Transcript.{Command, accepted, accepted_number, accepted_numbers}
use Rattle.zw_text.proofs.Views.{shown-append}
use Rattle.host_orders.specs.Settings.{settings}
use Rattle.host_orders.specs.declared.actuator.Actuator.{Actuator}
use Rattle.law_transcript.specs.Commands.{before_accepted, order_of as order_in, settings_by as settings_with, settings_for}
use Rattle.law_transcript.specs.Lists.{EachAfter}
use Rattle.law_transcript.specs.Nodes.{host_list, always}
use Rattle.law_transcript.specs.Stores.{node_at}
use Rattle.proof_host.specs.Laws.{MayAccept, accepted_for}
use Rattle.audit_books.specs.Accepting.{order_there}
use Rattle.audit_books.specs.Asking.{actuator_by, kind_at, settings_asked}
use Rattle.audit_books.specs.SessionRule.{order_among}
use Rattle.audit_table.specs.OrdersGiven.{accepting_at, order_of}
use Rattle.proof_audit.proofs.Cutting.{each-before, each-cut}
use Rattle.proof_audit.proofs.GivenOrders.{IsGiven, are-given, are-up-to, numbers-one}

-- ---- numbers of accepted commands

nodes-one : (command : ℕ) (past : List Entry) (entry : Entry) → accepted_for command (past ++ (entry ∷ [])) ≡ accepted_for command past ++ node_at command entry
nodes-one command past entry = shown-append (node_at command) past (entry ∷ []) ∙ ap (λ (l : List ℕ). accepted_for command past ++ l) (append-nil (node_at command entry))

-- ---- the classes that were known then

before-first : (before : List Entry) (command node : ℕ) (later : List Entry) → AllByRecursion (λ number. number < command) (accepted_numbers before)
    → before_accepted command (before ++ Accepted command node ∷ later) ≡ before
before-first [] command node later all = ap (λ (b : Bool). cond b [] (Accepted command node ∷ before_accepted command later)) (eq-eqb command command refl)
before-first (Accepted number of ∷ before) command node later all =
    ap (λ (b : Bool). cond b [] (Accepted number of ∷ before_accepted command (before ++ Accepted command node ∷ later))) (ne_eqb number command (λ same. omega (arith, all.0, same)))
    ∙ ap (λ (l : List Entry). Accepted number of ∷ l) (before-first before command node later all.1)
before-first (entry ∷ before) command node later all = ap (λ (l : List Entry). entry ∷ l) (before-first before command node later all)

same-order : (command : ℕ) (commands : List Command) → order_in command commands ≡ order_among command commands
same-order command [] = refl
same-order command (one ∷ commands) = ap (λ (o : Option Order). cond (eqb one.number command) (Some one.order) o) (same-order command commands)

-- what the laws say that a command asks for is what its order asks of a device of the node's kind
pub settings-are : (listing : ℕ → List ℕ) (past : List Entry) (command node : ℕ) → EachAfter MayAccept [] past → (given : IsGiven listing past command node)
    → settings_for (always listing) past node command ≡ settings_asked given.asked.order
settings-are listing past command node accepts given =
    let order = given.asked.order in
    let next = each-cut MayAccept past given.before (Accepted command node) given.later given.is accepts in
    let below = all-weaker (λ number. number ≤ length (accepted_numbers given.before)) (λ number. number < command) (λ number low. omega (arith, low, next)) (accepted_numbers given.before)
    (are-up-to given.before (each-before MayAccept past given.before (Accepted command node ∷ given.later) given.is accepts)) in
    let front : before_accepted command past ≡ given.before = ap (before_accepted command) given.is ∙ before-first given.before command node given.later below in
    ap₂ (λ (l : List Entry) (o : Option Order). settings_with (host_list (always listing) l node) o) front (same-order command (accepted node past) ∙ given.among)
    ∙ ap (λ (a : Actuator). settings a order) given.asked.known
    ∙ ap (λ (n : ℕ). settings (actuator_by (kind_at n)) order) (sym given.asked.of_node)

-- ---- whether a number was accepted

-- a number was accepted once, or is none of those so far and has no order
abbrev IsCounted : List Entry → ℕ → Type 0
IsCounted past command =
    (((command ≡ 0) ⊎ (length (accepted_numbers past) < command)) × (accepted_for command past ≡ []))
    ⊎ ((node : ℕ) × (accepted_for command past ≡ node ∷ []) × (command ≤ length (accepted_numbers past)))

counted-same : (past : List Entry) (entry : Entry) (command : ℕ) → accepted_number entry ≡ [] → node_at command entry ≡ [] → IsCounted past command → IsCounted (past ++ (entry ∷ [])) command
counted-same past entry command none no_node is =
    let numbers : accepted_numbers (past ++ (entry ∷ [])) ≡ accepted_numbers past =
    numbers-one past entry ∙ ap (λ (l : List ℕ). accepted_numbers past ++ l) none ∙ append-nil (accepted_numbers past) in
    let nodes : accepted_for command (past ++ (entry ∷ [])) ≡ accepted_for command past =
    nodes-one command past entry ∙ ap (λ (l : List ℕ). accepted_for command past ++ l) no_node ∙ append-nil (accepted_for command past) in
    subst (λ (l : List ℕ). (((command ≡ 0) ⊎ (length (accepted_numbers (past ++ (entry ∷ []))) < command)) × (l ≡ [])) ⊎ ((node : ℕ) × (l ≡ node ∷ []) × (command ≤ length (accepted_numbers (past ++ (entry ∷ [])))))) (sym nodes)
    (subst (λ (l : List ℕ). (((command ≡ 0) ⊎ (length l < command)) × (accepted_for command past ≡ [])) ⊎ ((node : ℕ) × (accepted_for command past ≡ node ∷ []) × (command ≤ length l))) (sym numbers) is)

counted-accepted : (past : List Entry) (number of command : ℕ) → number ≡ length (accepted_numbers past) + 1 → IsCounted past command → IsCounted (past ++ (Accepted number of ∷ [])) command
counted-accepted past number of command next is = elim (cases_eq number command) [
  | inl same ↦ here same is
  | inr other ↦ there other is
]
  where
    count : length (accepted_numbers (past ++ (Accepted number of ∷ []))) ≡ length (accepted_numbers past) + 1
    count = ap length (numbers-one past (Accepted number of)) ∙ length-append (accepted_numbers past) (number ∷ [])

    nodes : (b : Bool) → eqb number command ≡ b → accepted_for command (past ++ (Accepted number of ∷ [])) ≡ accepted_for command past ++ cond b (of ∷ []) []
    nodes b is = nodes-one command past (Accepted number of) ∙ ap (λ (c : Bool). accepted_for command past ++ cond c (of ∷ []) []) is

    here : number ≡ command → IsCounted past command → IsCounted (past ++ (Accepted number of ∷ [])) command
    here same (inl (apart, none)) =
        inr (of, nodes true (eq-eqb number command same) ∙ ap (λ (l : List ℕ). l ++ (of ∷ [])) none, omega (arith, count, same, next))
    here same (inr (node, one, low)) = absurd (omega (arith, same, next, low))

    there : (number ≡ command → ⊥) → IsCounted past command → IsCounted (past ++ (Accepted number of ∷ [])) command
    there other (inl (inl zero_is, none)) = inl (inl zero_is, nodes false (ne_eqb number command other) ∙ append-nil (accepted_for command past) ∙ none)
    there other (inl (inr above, none)) =
        inl (inr (omega (arith, count, above, next, other)), nodes false (ne_eqb number command other) ∙ append-nil (accepted_for command past) ∙ none)
    there other (inr (node, one, low)) =
        inr (node, nodes false (ne_eqb number command other) ∙ append-nil (accepted_for command past) ∙ one, omega (arith, count, low))

counted-one : (past : List Entry) (entry : Entry) (command : ℕ) → MayAccept past entry → IsCounted past command → IsCounted (past ++ (entry ∷ [])) command
counted-one past (Accepted number of) command may is = counted-accepted past number of command may is
counted-one past entry command may is = counted-same past entry command refl refl is

counted-from : (past rest : List Entry) (command : ℕ) → EachAfter MayAccept past rest → IsCounted past command → IsCounted (past ++ rest) command
counted-from past [] command all is = subst (λ (l : List Entry). IsCounted l command) (sym (append-nil past)) is
counted-from past (entry ∷ rest) command all is =
    subst (λ (l : List Entry). IsCounted l command) (append_assoc past (entry ∷ []) rest) (counted-from (past ++ (entry ∷ [])) rest command all.1 (counted-one past entry command all.0 is))

at-first : (command : ℕ) → IsCounted [] command
at-first zero = inl (inl refl, refl)
at-first (suc k) = inl (inr (omega arith), refl)

-- a number beyond the last has no order
no-order : (past : List Entry) (command : ℕ) → EachAfter MayAccept [] past → (command ≡ 0) ⊎ (length (accepted_numbers past) < command) → order_of past command ≡ None
no-order past command accepts (inl none) = ap (order_of past) none
no-order past zero accepts (inr above) = refl
no-order past (suc k) accepts (inr above) =
    let at : suc k - 1 ≡ k = omega arith in
    let count = (are-given past).count in
    ap₂ (λ (b : Bool) (j : ℕ). cond b None (order_there (slice_get (accepting_at past).orders j))) (eqb-suc-zero k) at
    ∙ ap order_there (slice_get_past (accepting_at past).orders k (omega (arith, count, above)))

-- a command was accepted for one node, or has no order
pub accepted-or-none : (past : List Entry) (command : ℕ) → EachAfter MayAccept [] past
    → ((accepted_for command past ≡ []) × (order_of past command ≡ None)) ⊎ ((node : ℕ) × (accepted_for command past ≡ node ∷ []))
accepted-or-none past command accepts = by (counted-from [] past command accepts (at-first command))
  where
    by : IsCounted past command → ((accepted_for command past ≡ []) × (order_of past command ≡ None)) ⊎ ((node : ℕ) × (accepted_for command past ≡ node ∷ []))
    by (inl (apart, none)) = inl (none, no-order past command accepts apart)
    by (inr (node, one, low)) = inr (node, one)
