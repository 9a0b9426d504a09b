-- A transcript in which each success has its values directly after it keeps the rule of confirmed values.
use Rattle.law_transcript.specs.Nodes.{always}
use Rattle.std.proofs.Common.{◌≡◌, ℕ, zero, suc, ◌+◌, eqb, not, false, List, [], ◌∷◌, ◌++◌, map, drop, drop-drop, Option, Some, None, inl, inr, refl, sym, ap, ap₂, subst, ◌∙◌, append_assoc, append-nil}
use Rattle.std.specs.Prelude.{slice_get}
use Rattle.std.specs.List.{flat_map}
use Rattle.std.proofs.lemmas.Bool.{and_from, eq-eqb}
use Rattle.zw_base.specs.declared.order.Order.{Order}
use Rattle.zw_base.specs.declared.property.Setting.{Setting}
use Rattle.zw_text.specs.declared.entry.Ended.{Ended}
use Rattle.zw_text.specs.declared.entry.Ended.TheVariants as ended
use Rattle.zw_text.specs.declared.entry.Entry.{Entry}
use Rattle.zw_text.specs.declared.entry.Entry.TheVariants.{Out, Store}
use Rattle.zw_text.proofs.Views.{folded-append}
use Rattle.law_transcript.specs.Lists.{EachAfter}
use Rattle.law_transcript.specs.Stores.{stores_of}
use Rattle.proof_host.specs.Laws.{MayAccept, accepted_for}
use Rattle.audit_books.specs.Accepting.{order_at}
use Rattle.audit_books.specs.Asking.{is_there, settings_asked}
use Rattle.audit_books.specs.SessionRule.{EachKeeps}
use Rattle.audit_table.specs.OrdersGiven.{Accepting as Given, order_of}
use Rattle.audit_table.specs.StoreRule.{breaks_next, breaks_order, breaks_store, breaks_storing, is_store, one_more, storing_after, storing_last}
use Rattle.audit_table.specs.declared.stores.Storing.{Storing}
use Rattle.proof_audit.specs.Books.{AreAsked, MayBeAsked}
use Rattle.proof_audit.specs.Tables.{IsToStore, to_store, to_store_from, to_store_step}
use Rattle.proof_audit.proofs.AskedSettings.{accepted-or-none, settings-are}
use Rattle.proof_audit.proofs.Cutting.{each-before, each-cut, keeps-each}
use Rattle.proof_audit.proofs.GivenOrders.{is-given-for}
use Rattle.audit.proofs.Kept.{accepting-more as given-one}
use Rattle.proof_audit.proofs.SameSettings.{setting-itself}

-- ---- values from a place on

drop-here : {A B : Type 0} (f : A → B) (items : List A) (at : ℕ) (item : A) → slice_get items at ≡ Some item → drop at (map f items) ≡ f item ∷ drop (suc at) (map f items)
drop-here f [] at item is = absurd cc
drop-here f (first ∷ items) zero item is = let same : first ≡ item = cc in ap (λ (one : _). f one ∷ map f items) same
drop-here f (first ∷ items) (suc at) item is = drop-here f items at item is

drop-past : {A B : Type 0} (f : A → B) (items : List A) (at : ℕ) → slice_get items at ≡ None → drop at (map f items) ≡ []
drop-past f [] zero is = refl
drop-past f [] (suc at) is = refl
drop-past f (first ∷ items) zero is = absurd cc
drop-past f (first ∷ items) (suc at) is = drop-past f items at is

-- ---- what is due, by the last success

-- the values that an order confirms
abbrev pub stores_by : Option Order → List Entry
stores_by None = []
stores_by (Some order) = map (Store order.node) (settings_asked order)

drop-none : (count : ℕ) → drop count (stores_by None) ≡ []
drop-none zero = refl
drop-none (suc count) = refl

-- what is due is what the success before it has left
abbrev IsDueBy : Option Storing → (ℕ → Option Order) → List Entry → Type 0
IsDueBy None order due = due ≡ []
IsDueBy (Some storing) order due = due ≡ drop storing.count (stores_by (order storing.command))

to-store-from : (listing : ℕ → List ℕ) (due past entries : List Entry) (entry : Entry)
    → to_store_from listing due past (entries ++ (entry ∷ [])) ≡ to_store_step listing (past ++ entries) (to_store_from listing due past entries) entry
to-store-from listing due past [] entry = ap (λ (l : List Entry). to_store_step listing l due entry) (sym (append-nil past))
to-store-from listing due past (first ∷ entries) entry =
    to-store-from listing (to_store_step listing past due first) (past ++ (first ∷ [])) entries entry
    ∙ ap (λ (l : List Entry). to_store_step listing l (to_store_from listing (to_store_step listing past due first) (past ++ (first ∷ [])) entries) entry) (append_assoc past (first ∷ []) entries)

pub to-store-one : (listing : ℕ → List ℕ) (past : List Entry) (entry : Entry) → to_store listing (past ++ (entry ∷ [])) ≡ to_store_step listing past (to_store listing past) entry
to-store-one listing past entry = to-store-from listing [] [] past entry

storing-one : (past : List Entry) (entry : Entry) → storing_last (past ++ (entry ∷ [])) ≡ storing_after (storing_last past) entry
storing-one past entry = folded-append storing_after None past (entry ∷ [])

-- an entry that accepts nothing leaves the orders
orders-out : (past : List Entry) (number : ℕ) (how : Ended) (command : ℕ) → order_of (past ++ (Out number how ∷ [])) command ≡ order_of past command
orders-out past number how command = ap (λ (one : Given). order_at one.orders command) (given-one past (Out number how))

orders-store : (past : List Entry) (node : ℕ) (setting : Setting) (command : ℕ) → order_of (past ++ (Store node setting ∷ [])) command ≡ order_of past command
orders-store past node setting command = ap (λ (one : Given). order_at one.orders command) (given-one past (Store node setting))

module _ (listing : ℕ → List ℕ) where
  -- the values of a success
  pub success-due : (past : List Entry) (command : ℕ) → EachAfter MayAccept [] past → AreAsked listing past
      → flat_map (stores_of (always listing) past command) (accepted_for command past) ≡ stores_by (order_of past command)
  success-due past command accepts asked = elim (accepted-or-none past command accepts) [
    | inl (none, no_order) ↦ ap (flat_map (stores_of (always listing) past command)) none ∙ sym (ap stores_by no_order)
    | inr (node, one) ↦ of_node node one
  ]
    where
      of_node : (node : ℕ) → accepted_for command past ≡ node ∷ [] → flat_map (stores_of (always listing) past command) (accepted_for command past) ≡ stores_by (order_of past command)
      of_node node one =
          let given = is-given-for listing past accepts asked command node one in
          ap (flat_map (stores_of (always listing) past command)) one
          ∙ append-nil (stores_of (always listing) past command node)
          ∙ ap₂ (λ (n : ℕ) (l : List Setting). map (Store n) l) (sym given.asked.of_node) (settings-are listing past command node accepts given)
          ∙ sym (ap stores_by given.found)

  due-store : (last : Option Storing) (order order' : ℕ → Option Order) (due : List Entry) → ((command : ℕ) → order' command ≡ order command) → IsDueBy last order due
      → IsDueBy (one_more last) order' (drop 1 due)
  due-store None order order' due same is = ap (drop 1) is
  due-store (Some storing) order order' due same is =
      ap (drop 1) is
      ∙ (drop-drop 1 storing.count (stores_by (order storing.command))
      ∙ ap (λ (o : Option Order). drop (storing.count + 1) (stores_by o)) (sym (same storing.command)))

  due-one : (past : List Entry) (entry : Entry) → EachAfter MayAccept [] past → AreAsked listing past → IsDueBy (storing_last past) (order_of past) (to_store listing past)
      → IsDueBy (storing_after (storing_last past) entry) (order_of (past ++ (entry ∷ []))) (to_store_step listing past (to_store listing past) entry)
  due-one past (Out command ended.Success) accepts asked is =
      success-due past command accepts asked ∙ ap stores_by (sym (orders-out past command ended.Success command))
  due-one past (Out command ended.Fail) accepts asked is = refl
  due-one past (Out command ended.NoSupport) accepts asked is = refl
  due-one past (Out command ended.Unanswered) accepts asked is = refl
  due-one past (Out command ended.Cancelled) accepts asked is = refl
  due-one past (Store node setting) accepts asked is =
      due-store (storing_last past) (order_of past) (order_of (past ++ (Store node setting ∷ []))) (to_store listing past) (orders-store past node setting) is
  due-one past entry accepts asked is = refl

  due-next : (past : List Entry) (entry : Entry) → EachAfter MayAccept [] past → AreAsked listing past → IsDueBy (storing_last past) (order_of past) (to_store listing past)
      → IsDueBy (storing_last (past ++ (entry ∷ []))) (order_of (past ++ (entry ∷ []))) (to_store listing (past ++ (entry ∷ [])))
  due-next past entry accepts asked is =
      subst (λ (last : Option Storing). IsDueBy last (order_of (past ++ (entry ∷ []))) (to_store listing (past ++ (entry ∷ [])))) (sym (storing-one past entry))
      (subst (λ (due : List Entry). IsDueBy (storing_after (storing_last past) entry) (order_of (past ++ (entry ∷ []))) due) (sym (to-store-one listing past entry))
      (due-one past entry accepts asked is))

  due-from : (whole past rest : List Entry) → whole ≡ past ++ rest → EachAfter MayAccept [] whole → AreAsked listing whole → IsDueBy (storing_last past) (order_of past) (to_store listing past)
      → IsDueBy (storing_last whole) (order_of whole) (to_store listing whole)
  due-from whole past [] is accepts asked due =
      subst (λ (l : List Entry). IsDueBy (storing_last l) (order_of l) (to_store listing l)) (sym (is ∙ append-nil past)) due
  due-from whole past (entry ∷ rest) is accepts asked due =
      due-from whole (past ++ (entry ∷ [])) rest (is ∙ sym (append_assoc past (entry ∷ []) rest)) accepts asked
      (due-next past entry (each-before MayAccept whole past (entry ∷ rest) is accepts) (each-before (MayBeAsked listing) whole past (entry ∷ rest) is asked) due)

  pub is-due : (past : List Entry) → EachAfter MayAccept [] past → AreAsked listing past → IsDueBy (storing_last past) (order_of past) (to_store listing past)
  is-due past accepts asked = due-from past [] past refl accepts asked refl

-- ---- what is due stands

not-store : (entry : Entry) → IsToStore [] entry → is_store entry ≡ false
not-store (Store node setting) stands = absurd stands
not-store entry stands = refl

next-stands : (order : Order) (count : ℕ) (entry : Entry) (due : List Entry) (there : Option Setting) → slice_get (settings_asked order) count ≡ there
    → due ≡ drop count (map (Store order.node) (settings_asked order)) → IsToStore due entry → breaks_next there order.node entry ≡ false
next-stands order count entry due None is due_is stands =
    not-store entry (subst (λ (l : List Entry). IsToStore l entry) (due_is ∙ drop-past (Store order.node) (settings_asked order) count is) stands)
next-stands order count entry due (Some setting) is due_is stands =
    let same : entry ≡ Store order.node setting =
    subst (λ (l : List Entry). IsToStore l entry) (due_is ∙ drop-here (Store order.node) (settings_asked order) count setting is) stands in
    ap (λ (e : Entry). breaks_next (Some setting) order.node e) same
    ∙ ap not (and_from (eqb order.node order.node) (is_there (Some setting) setting) (eq-eqb order.node order.node refl) (setting-itself setting))

keeps-order : (found : Option Order) (count : ℕ) (entry : Entry) (due : List Entry) → due ≡ drop count (stores_by found) → IsToStore due entry → breaks_order found count entry ≡ false
keeps-order None count entry due is stands = not-store entry (subst (λ (l : List Entry). IsToStore l entry) (is ∙ drop-none count) stands)
keeps-order (Some order) count entry due is stands = next-stands order count entry due (slice_get (settings_asked order) count) refl is stands

keeps-storing : (last : Option Storing) (order : ℕ → Option Order) (entry : Entry) (due : List Entry) → IsDueBy last order due → IsToStore due entry → breaks_storing last order entry ≡ false
keeps-storing None order entry due is stands = refl
keeps-storing (Some storing) order entry due is stands = keeps-order (order storing.command) storing.count entry due is stands

pub keeps-stores : (listing : ℕ → List ℕ) (transcript : List Entry) → EachAfter MayAccept [] transcript → AreAsked listing transcript
    → EachAfter (λ past entry. IsToStore (to_store listing past) entry) [] transcript → EachKeeps breaks_store [] transcript
keeps-stores listing transcript accepts asked each = keeps-each breaks_store [] transcript (λ past entry rest is.
    keeps-storing (storing_last past) (order_of past) entry (to_store listing past)
    (is-due listing past (each-before MayAccept transcript past (entry ∷ rest) is accepts) (each-before (MayBeAsked listing) transcript past (entry ∷ rest) is asked))
    (each-cut (λ before one. IsToStore (to_store listing before) one) transcript past entry rest is each))
