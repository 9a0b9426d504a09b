-- What the table of the host has of a command that succeeded is what the transcript says that it asks for.
use Rattle.law_transcript.specs.Nodes.{always}
use Rattle.std.proofs.Common.{◌≡◌, ℕ, List, [], ◌∷◌, ◌++◌, map, inl, inr, refl, sym, ap, ap₂, subst, ◌∙◌, append_assoc, append-nil}
use Rattle.std.specs.List.{flat_map}
use Rattle.std.proofs.lemmas.Bool.{cases_eq}
use Rattle.zw_base.specs.declared.order.Order.{Order}
use Rattle.zw_text.specs.declared.line.Line.TheVariants.{Command as Commanded}
use Rattle.zw_text.specs.declared.entry.Ended.{Ended}
use Rattle.zw_text.specs.declared.entry.Ended.TheVariants as ended
use Rattle.zw_text.specs.declared.entry.Entry.{Entry}
use Rattle.zw_text.specs.declared.entry.Entry.TheVariants.{Accepted, Begin, Out, Store}
use Rattle.zw_text.specs.declared.entry.Outcome.TheVariants.{Waiting}
use Rattle.zw_text.specs.Transcript.{outcome}
use Rattle.zw_text.proofs.Views.{shown-append}
use Rattle.host_orders.specs.Settings.{settings}
use Rattle.host_orders.specs.declared.actuator.Actuator.{Actuator}
use Rattle.host_orders.specs.declared.carriage.Carriage.{Carriage}
use Rattle.host_model.specs.State.{Command}
use Rattle.law_transcript.specs.Lists.{EachAfter}
use Rattle.law_transcript.specs.Stores.{node_at, stores_of}
use Rattle.proof_host.specs.Laws.{HostLaws, IsUnderWay, MayAccept, MayCarry, MayEnd, accepted_for}
use Rattle.proof_host.specs.Stores.{stores_by as stored_by}
use Rattle.proof_host.specs.Tables.{taken_at}
use Rattle.proof_host.proofs.Views.{outcome-accepted, outcome-begun_other, outcome-other, outcome-silent}
use Rattle.proof_transcript.specs.Said.{AreSaid, IsSaid, MayAnswer}
use Rattle.audit_books.specs.Asking.{actuator_by, kind_at}
use Rattle.audit_table.specs.OrdersGiven.{order_of}
use Rattle.proof_audit.specs.Books.{AreAsked, MayBeAsked}
use Rattle.proof_audit.specs.Tables.{IsToStore, StoresDirectly, to_store, to_store_step}
use Rattle.proof_audit.proofs.AskedSettings.{accepted-or-none}
use Rattle.proof_audit.proofs.Cutting.{each-before, each-cut, stands-on}
use Rattle.proof_audit.proofs.GivenOrders.{IsGiven, is-given-for}
use Rattle.proof_audit.proofs.StoredDirectly.{stores_by, success-due, to-store-one}
use Rattle.proof_audit.proofs.StoringHost.{AreInPlace, IsStored, asks_by, due_step}

-- ---- a command that was not accepted waits

left-none : {A : Type 0} (xs ys : List A) → xs ++ ys ≡ [] → xs ≡ []
left-none [] ys is = refl
left-none (x ∷ xs) ys is = absurd cc

waits-on : (past : List Entry) (entry : Entry) (command : ℕ) → accepted_for command past ≡ [] → outcome command past ≡ Waiting → MayCarry past entry → MayEnd past entry
    → outcome command (past ++ entry ∷ []) ≡ Waiting
waits-on past (Accepted number node) command none waits carry end = outcome-accepted past number node command ∙ waits
waits-on past (Begin node session number) command none waits carry end = elim (cases_eq command number) [
  | inl same ↦ absurd (let one : accepted_for command past ≡ node ∷ [] = subst (λ (n : ℕ). accepted_for n past ≡ node ∷ []) (sym same) carry.0 in let never : [] ≡ node ∷ [] = sym none ∙ one in cc)
  | inr other ↦ outcome-begun_other past node session number command other ∙ waits
]
waits-on past (Out number how) command none waits carry end = elim (cases_eq command number) [
  | inl same ↦ absurd (never how (subst (λ (n : ℕ). MayEnd past (Out n how)) (sym same) end))
  | inr other ↦ outcome-other past number how [] tt command other ∙ waits
]
  where
    open-so : IsUnderWay (outcome command past) → ⊥
    open-so under = subst IsUnderWay waits under

    never : (how : Ended) → MayEnd past (Out command how) → ⊥
    never ended.Success may = open-so may
    never ended.Fail may = open-so may
    never ended.NoSupport may = open-so may
    never ended.Unanswered may = open-so may
    never ended.Cancelled may = let never : [] ≡ may.0.0 ∷ [] = sym none ∙ may.0.1 in cc
waits-on past entry command none waits carry end = outcome-silent past (entry ∷ []) (tt, tt) command ∙ waits

waits-from : (past rest : List Entry) (command : ℕ) → accepted_for command (past ++ rest) ≡ [] → EachAfter MayCarry past rest → EachAfter MayEnd past rest → outcome command past ≡ Waiting
    → outcome command (past ++ rest) ≡ Waiting
waits-from past [] command none carries ends waits = ap (outcome command) (append-nil past) ∙ waits
waits-from past (entry ∷ rest) command none carries ends waits =
    let first : accepted_for command past ≡ [] = left-none (accepted_for command past) (accepted_for command (entry ∷ rest)) (sym (shown-append (node_at command) past (entry ∷ rest)) ∙ none) in
    ap (outcome command) (sym (append_assoc past (entry ∷ []) rest))
    ∙ waits-from (past ++ (entry ∷ [])) rest command (ap (accepted_for command) (append_assoc past (entry ∷ []) rest) ∙ none) carries.1 ends.1 (waits-on past entry command first waits carries.0 ends.0)

-- ---- what a success asks for

module _ (listing : ℕ → List ℕ) (commands : List Command) (transcript : List Entry) (laws : HostLaws transcript) (asked : AreAsked listing transcript) (said : AreSaid (always listing) commands transcript) where
  -- by its line
  asks-alike : (past rest : List Entry) (command node : ℕ) → transcript ≡ past ++ rest → (given : IsGiven listing past command node) → stored_by (taken_at commands command) ≡ stores_by (order_of past command)
  asks-alike past rest command node is given =
      let told : IsSaid (always listing) commands given.before command node =
      each-cut (MayAnswer (always listing) commands) transcript given.before (Accepted command node) (given.later ++ rest) (stands-on transcript past rest given.before given.later (Accepted command node) is given.is) said in
      let order = given.asked.order in
      let lines : Commanded told.order ∷ [] ≡ Commanded order ∷ [] = sym told.said ∙ given.asked.said in
      let same : told.order ≡ order = cc in
      ap stored_by told.taken
      ∙ (ap₂ (λ (o : Order) (a : Actuator). map (Store o.node) (settings a o)) same (ap (λ (c : Carriage). c.actuator) told.carried ∙ given.asked.known)
      ∙ (ap (λ (n : ℕ). map (Store order.node) (settings (actuator_by (kind_at n)) order)) (sym given.asked.of_node)
      ∙ sym (ap stores_by given.found)))

  success-alike : (past rest : List Entry) (command : ℕ) → transcript ≡ past ++ Out command ended.Success ∷ rest → flat_map (stores_of (always listing) past command) (accepted_for command past) ≡ asks_by commands command
  success-alike past rest command is =
      let entry = Out command ended.Success in
      let accepts = each-before MayAccept transcript past (entry ∷ rest) is laws.accepts in
      let asks = each-before (MayBeAsked listing) transcript past (entry ∷ rest) is asked in
      elim (accepted-or-none past command accepts) [
        | inl (none, no_order) ↦ absurd (never none)
        | inr (node, one) ↦ success-due listing past command accepts asks ∙ sym (asks-alike past (entry ∷ rest) command node is (is-given-for listing past accepts asks command node one))
      ]
    where
      never : accepted_for command past ≡ [] → ⊥
      never none =
          let entry = Out command ended.Success in
          let waits = waits-from [] past command none (each-before MayCarry transcript past (entry ∷ rest) is laws.carries) (each-before MayEnd transcript past (entry ∷ rest) is laws.ends) refl in
          let under : IsUnderWay (outcome command past) = each-cut MayEnd transcript past entry rest is laws.ends in
          subst IsUnderWay waits under

  step-alike : (past due : List Entry) (entry : Entry) (rest : List Entry) → transcript ≡ past ++ entry ∷ rest → to_store_step listing past due entry ≡ due_step (asks_by commands) due entry
  step-alike past due (Out command ended.Success) rest is = success-alike past rest command is
  step-alike past due (Out command ended.Fail) rest is = refl
  step-alike past due (Out command ended.NoSupport) rest is = refl
  step-alike past due (Out command ended.Unanswered) rest is = refl
  step-alike past due (Out command ended.Cancelled) rest is = refl
  step-alike past due (Store node setting) rest is = refl
  step-alike past due entry rest is = refl

  -- ---- entry by entry

  record Rest (past rest : List Entry) : Type 0 where
    pub each : EachAfter (λ before entry. IsToStore (to_store listing before) entry) past rest
    pub ends : to_store listing (past ++ rest) ≡ []

  rest-stands : (past rest due : List Entry) → transcript ≡ past ++ rest → to_store listing past ≡ due → AreInPlace (asks_by commands) due rest → Rest past rest
  rest-stands past [] due is due_is are = record { each = tt; ends = ap (to_store listing) (append-nil past) ∙ (due_is ∙ are) }
  rest-stands past (entry ∷ rest) due is due_is are =
      let next : to_store listing (past ++ (entry ∷ [])) ≡ due_step (asks_by commands) due entry =
      to-store-one listing past entry ∙ (ap (λ (l : List Entry). to_store_step listing past l entry) due_is ∙ step-alike past due entry rest is) in
      let later = rest-stands (past ++ (entry ∷ [])) rest (due_step (asks_by commands) due entry) (is ∙ sym (append_assoc past (entry ∷ []) rest)) next are.1 in
      record {
        each = (subst (λ (l : List Entry). IsToStore l entry) (sym due_is) are.0, later.each);
        ends = ap (to_store listing) (sym (append_assoc past (entry ∷ []) rest)) ∙ later.ends;
      }

  pub stores-directly : IsStored commands transcript → StoresDirectly listing transcript
  stores-directly stored = let all = rest-stands [] transcript [] refl refl stored.are in record { each = all.each; in_the_end = all.ends }
