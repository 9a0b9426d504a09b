-- The values of the nodes are the same by the rule of the table and by the law of the table.
use Rattle.law_transcript.specs.Nodes.{always}
use Rattle.std.proofs.Common.{◌≡◌, ◌⊎◌, ℕ, cond, eqb, Bool, true, false, List, [], ◌∷◌, ◌++◌, Option, Some, None, inl, inr, refl, sym, ap, ap₂, subst, ◌∙◌}
use Rattle.std.specs.Prelude.{filter}
use Rattle.std.specs.List.{AllByRecursion, flat_map}
use Rattle.std.proofs.lemmas.Bool.{eqb-true}
use Rattle.zw_base.specs.declared.property.Property.{Property}
use Rattle.zw_base.specs.declared.property.Setting.{Setting}
use Rattle.zw_text.specs.declared.entry.Ended.{Ended}
use Rattle.zw_text.specs.declared.entry.Ended.TheVariants as ended
use Rattle.zw_text.specs.declared.entry.Entry.{Entry}
use Rattle.zw_text.specs.declared.entry.Entry.TheVariants.{Accepted}
use Rattle.zw_text.specs.declared.entry.Outcome.{Outcome}
use Rattle.zw_text.specs.Transcript.{carried, endings, last_outcome, outcome, outcome_begun, outcome_of, reported, sessions}
use Rattle.host_keep.specs.Kept.{or_else, value_among}
use Rattle.host_orders.specs.Settings.{properties_of}
use Rattle.law_transcript.specs.Commands.{settings_for}
use Rattle.law_transcript.specs.Lists.{Has}
use Rattle.law_transcript.specs.Restarts.{since_restart}
use Rattle.law_transcript.specs.Stores.{heard_value}
use Rattle.law_transcript.specs.Table.{properties_known as properties_by, value_line, value_lines}
use Rattle.law_transcript.specs.Values.{confirmed as confirmed_law, confirmed_by as confirmed_one, is_success as is_successful_outcome, last_given}
use Rattle.law_transcript.proofs.Having.{all_has, all_of, has_either, has_left, has_right, has_shown, shown_has}
use Rattle.proof_host.specs.Laws.{HostLaws, number_for, numbers_for}
use Rattle.proof_transcript.proofs.Ordered.{Agree, has_in_order, in_order_has, in_order_sorted, same_shown}
use Rattle.proof_transcript.proofs.Values.{among_has, flat_same, last_gives, last_has, property_total}
use Rattle.value_store.proofs.Keys.{property_exact}
use Rattle.audit_books.specs.Asking.{is_setting, settings_asked}
use Rattle.audit_books.specs.Ending.{is_success}
use Rattle.audit_table.specs.OrdersGiven.{settings_by, settings_of}
use Rattle.audit_table.specs.TableRule.{confirmed, confirmed_by, ends_well, is_successful, properties_known}
use Rattle.proof_audit.specs.Books.{AreAsked}
use Rattle.proof_audit.proofs.AskedSettings.{settings-are}
use Rattle.proof_audit.proofs.Cutting.{stands}
use Rattle.proof_audit.proofs.GivenOrders.{IsGiven, is-given}

-- ---- a command of a session

accepted-number : (node command : ℕ) (entry : Entry) → Has (number_for node entry) command → entry ≡ Accepted command node
accepted-number node command (Accepted number of) has = by (eqb of node) refl has
  where
    by : (b : Bool) → eqb of node ≡ b → Has (cond b (number ∷ []) []) command → Accepted number of ≡ Accepted command node
    by true same (inl is) = ap₂ (λ (a b : ℕ). Accepted a b) is (eqb-true of node same)
    by true same (inr none) = absurd none
    by false same has = absurd has
accepted-number node command entry has = absurd has

pub session-given : (listing : ℕ → List ℕ) (transcript : List Entry) → HostLaws transcript → AreAsked listing transcript → (node command : ℕ) → Has (sessions node transcript) command
    → IsGiven listing transcript command node
session-given listing transcript laws asked node command has =
    let numbered = all_has (Has (numbers_for node transcript)) (sessions node transcript) command (laws.accepted node) has in
    let one = shown_has (number_for node) transcript command numbered in
    is-given listing transcript laws.accepts asked command node
    (stands transcript (Accepted command node) (subst (λ (e : Entry). Has transcript e) (accepted-number node command one.by one.shows) one.among))

-- ---- success

ends-alike : (before : Outcome) (good : Bool) (all : List Ended) → is_successful_outcome before ≡ good → is_successful_outcome (last_outcome before all) ≡ ends_well good all
ends-alike before good [] same = same
ends-alike before good (one ∷ all) same = ends-alike (outcome_of one) (is_success one) all (by one)
  where
    by : (one : Ended) → is_successful_outcome (outcome_of one) ≡ is_success one
    by ended.Success = refl
    by ended.Fail = refl
    by ended.NoSupport = refl
    by ended.Unanswered = refl
    by ended.Cancelled = refl

begun-unsuccessful : (carrying : List ℕ) → is_successful_outcome (outcome_begun carrying) ≡ false
begun-unsuccessful [] = refl
begun-unsuccessful (session ∷ more) = refl

successful-alike : (transcript : List Entry) (command : ℕ) → is_successful transcript command ≡ is_successful_outcome (outcome command transcript)
successful-alike transcript command =
    sym (ends-alike (outcome_begun (carried command transcript)) false (endings command transcript) (begun-unsuccessful (carried command transcript)))

-- ---- what a command confirms

all-named : (made : List Setting) → AllByRecursion (λ (one : Setting). is_setting one ≡ true) made → filter is_setting made ≡ made
all-named [] all = refl
all-named (one ∷ made) all =
    ap (λ (b : Bool). cond b (one ∷ filter is_setting made) (filter is_setting made)) all.0 ∙ ap (λ (l : List Setting). one ∷ l) (all-named made all.1)

confirms-alike : (listing : ℕ → List ℕ) (transcript : List Entry) (node command : ℕ) → HostLaws transcript → IsGiven listing transcript command node
    → confirmed_by transcript command ≡ cond (is_successful_outcome (outcome command transcript)) (settings_for (always listing) transcript node command) []
confirms-alike listing transcript node command laws given =
    let order = given.asked.order in
    let asks : filter is_setting (settings_of transcript command) ≡ settings_for (always listing) transcript node command =
    ap (λ (o : Option _). filter is_setting (settings_by o)) given.found
    ∙ (all-named (settings_asked order) given.asked.named ∙ sym (settings-are listing transcript command node laws.accepts given)) in
    ap₂ (λ (b : Bool) (l : List Setting). cond b l []) (successful-alike transcript command) asks

value-if : (b : Bool) (made : List Setting) (property : Property) → value_among (cond b made []) property ≡ cond b (value_among made property) None
value-if true made property = refl
value-if false made property = refl

given-alike : (first later : ℕ → Option ℕ) (numbers : List ℕ) → AllByRecursion (λ number. first number ≡ later number) numbers → last_given first numbers ≡ last_given later numbers
given-alike first later [] all = refl
given-alike first later (number ∷ numbers) all = ap₂ or_else (given-alike first later numbers all.1) all.0

-- ---- the lines of a node

module _ (listing : ℕ → List ℕ) (transcript : List Entry) (laws : HostLaws transcript) (asked : AreAsked listing transcript) (node : ℕ) where
  abbrev Begun : List ℕ
  Begun = sessions node transcript

  confirms-of : (command : ℕ) → Has Begun command → confirmed_by transcript command ≡ cond (is_successful_outcome (outcome command transcript)) (settings_for (always listing) transcript node command) []
  confirms-of command has = confirms-alike listing transcript node command laws (session-given listing transcript laws asked node command has)

  confirmed-alike : (property : Property) → confirmed transcript node property ≡ confirmed_law (always listing) transcript node property
  confirmed-alike property =
      given-alike (λ command. value_among (confirmed_by transcript command) property) (confirmed_one (always listing) transcript node property) Begun
      (all_of (λ command. value_among (confirmed_by transcript command) property ≡ confirmed_one (always listing) transcript node property command) Begun (λ command has.
      ap (λ (l : List Setting). value_among l property) (confirms-of command has)
      ∙ value-if (is_successful_outcome (outcome command transcript)) (settings_for (always listing) transcript node command) property))

  abbrev line_law : Property → List Entry
  line_law property = value_line node property (confirmed_law (always listing) transcript node property) (heard_value transcript node property)

  abbrev line_rule : Property → List Entry
  line_rule property = value_line node property (confirmed transcript node property) (heard_value transcript node property)

  abbrev by_rule : List Property
  by_rule = flat_map (λ command. properties_of (confirmed_by transcript command)) Begun

  abbrev by_law : List Property
  by_law = flat_map (λ command. properties_of (settings_for (always listing) transcript node command)) Begun

  abbrev heard_since : List Property
  heard_since = properties_of (reported node (since_restart transcript))

  -- what is confirmed is asked for
  rule-in-law : (property : Property) → Has by_rule property → Has by_law property
  rule-in-law property has =
      let one = shown_has (λ command. properties_of (confirmed_by transcript command)) Begun property has in
      has_shown (λ command. properties_of (settings_for (always listing) transcript node command)) Begun one.by property one.among
      (if_has (is_successful_outcome (outcome one.by transcript)) (settings_for (always listing) transcript node one.by)
      (subst (λ (l : List Setting). Has (properties_of l) property) (confirms-of one.by one.among) one.shows))
    where
      if_has : (b : Bool) (made : List Setting) → Has (properties_of (cond b made [])) property → Has (properties_of made) property
      if_has true made has = has
      if_has false made has = absurd has

  known-in-law : (property : Property) → Has (properties_known transcript node) property → Has (properties_by (always listing) transcript node) property
  known-in-law property has =
      in_order_has property_total property_exact (by_law ++ heard_since) property
      (by (has_either by_rule heard_since property (has_in_order property_total property_exact (by_rule ++ heard_since) property has)))
    where
      by : Has by_rule property ⊎ Has heard_since property → Has (by_law ++ heard_since) property
      by (inl here) = has_left by_law heard_since property (rule-in-law property here)
      by (inr there) = has_right by_law heard_since property there

  -- what has a value is known
  valued-known : (property : Property) → (line_law property ≡ []) ⊎ Has (properties_known transcript node) property
  valued-known property = by (confirmed_law (always listing) transcript node property) (heard_value transcript node property) refl refl
    where
      known : Has (by_rule ++ heard_since) property → Has (properties_known transcript node) property
      known has = in_order_has property_total property_exact (by_rule ++ heard_since) property has

      is-confirmed : (value : ℕ) → confirmed transcript node property ≡ Some value → Has by_rule property
      is-confirmed value is =
          let one = last_gives (λ command. value_among (confirmed_by transcript command) property) Begun value is in
          has_shown (λ command. properties_of (confirmed_by transcript command)) Begun one.number property one.among (among_has (confirmed_by transcript one.number) property one.value one.gives)

      is-heard : (value : ℕ) → (None ≡ Some value) ⊎ Has heard_since property → Has heard_since property
      is-heard value (inl none) = absurd cc
      is-heard value (inr has) = has

      by : (c h : Option ℕ) → confirmed_law (always listing) transcript node property ≡ c → heard_value transcript node property ≡ h
          → (value_line node property c h ≡ []) ⊎ Has (properties_known transcript node) property
      by None None first later = inl refl
      by (Some c) h first later = inr (known (has_left by_rule heard_since property (is-confirmed c (confirmed-alike property ∙ first))))
      by None (Some h) first later =
          inr (known (has_right by_rule heard_since property (is-heard h (last_has None (reported node (since_restart transcript)) property h later))))

  -- the lines of the values are the same
  pub values-alike : flat_map line_rule (properties_known transcript node) ≡ value_lines (always listing) transcript node
  values-alike =
      let agree : Agree property_total property_exact line_law (properties_known transcript node) (properties_by (always listing) transcript node) = record {
        sorted = in_order_sorted property_total property_exact (by_rule ++ heard_since);
        too = in_order_sorted property_total property_exact (by_law ++ heard_since);
        there = λ property has. inr (known-in-law property has);
        back = λ property has. valued-known property;
      } in
      flat_same line_rule line_law (properties_known transcript node) (λ property. ap (λ (c : Option ℕ). value_line node property c (heard_value transcript node property)) (confirmed-alike property))
      ∙ same_shown property_total property_exact line_law (properties_known transcript node) (properties_by (always listing) transcript node) agree
