-- A transcript with its table keeps the rule of the table.
use Rattle.std.proofs.Common.{◌≡◌, ℕ, zero, suc, cond, eqb, not, Bool, true, false, List, [], ◌∷◌, ◌++◌, length, length-append, map, drop, add-one, Option, Some, None, unwrap_or, refl, sym, ap, ap₂, subst, ◌∙◌, append_assoc, append-nil, true≢false}
use Rattle.std.specs.Prelude.{◌&&◌, bytes_eq, filter, slice_get}
use Rattle.std.specs.List.{AllByRecursion, flat_map}
use Rattle.std.specs.Ordering.{nat_cmp}
use Rattle.std.proofs.lemmas.Bool.{and_from, eq-eqb, or_parts, or_right}
use Rattle.std.proofs.lemmas.List.Elements.{filter-append}
use Rattle.std.proofs.lemmas.List.Folds.{list_any-append}
use Rattle.zw_base.proofs.Each.{all-append}
use Rattle.zw_base.specs.PropertyOrder.{same_property}
use Rattle.zw_base.specs.declared.property.Property.{Property}
use Rattle.zw_base.specs.declared.property.Setting.{Setting}
use Rattle.zw_text.specs.declared.entry.Entry.{Entry}
use Rattle.zw_text.specs.declared.entry.Entry.TheVariants.{Device, TableEnd, TableNode, TableValue}
use Rattle.zw_text.specs.Transcript.{Made, joined, made, made_at, sessions}
use Rattle.zw_text.proofs.Views.{shown-append}
use Rattle.device_stack.specs.State.{State}
use Rattle.device_stack.specs.Showing.{shown_of}
use Rattle.law_transcript.specs.Nodes.{device_of, always}
use Rattle.law_transcript.specs.Stores.{last_value}
use Rattle.law_transcript.specs.Table.{device_lines, in_order, node_lines, table_of, value_line, value_lines}
use Rattle.value_store.proofs.Keys.{same_property_laws}
use Rattle.audit_books.specs.SessionRule.{EachKeeps}
use Rattle.audit_table.specs.TableRule.{before_end, breaks_end, breaks_row, breaks_table, following_end, has_end, is_end, is_row, next_row, node_rows, properties_known, confirmed, rows, same_option, same_row, settings_made, value_shown}
use Rattle.law_transcript.specs.Stores.{heard_value}
use Rattle.proof_audit.specs.Tables.{IsOfTable}
use Rattle.proof_audit.proofs.Cutting.{keeps-each}
use Rattle.proof_audit.proofs.ShownValues.{IsLastShown}

-- ---- a line is the same as itself

bytes-themselves : (bytes : List ℕ) → bytes_eq bytes bytes ≡ true
bytes-themselves [] = refl
bytes-themselves (byte ∷ bytes) = and_from (eqb byte byte) (bytes_eq bytes bytes) (eq-eqb byte byte refl) (bytes-themselves bytes)

option-itself : (o : Option ℕ) → same_option o o ≡ true
option-itself None = refl
option-itself (Some n) = eq-eqb n n refl

-- an entry that is a line of the table by itself
record IsLine (entry : Entry) : Type 0 where
  pub row : is_row entry ≡ true
  pub same : same_row entry entry ≡ true
  pub of_table : IsOfTable entry

node-line : (node : ℕ) (commands : List ℕ) → IsLine (TableNode node commands)
node-line node commands = record {
  row = refl;
  same = and_from (eqb node node) (bytes_eq commands commands) (eq-eqb node node refl) (bytes-themselves commands);
  of_table = tt;
}

value-line : (node : ℕ) (property : Property) (confirmed heard : Option ℕ) → IsLine (TableValue node property confirmed heard)
value-line node property confirmed heard = record {
  row = refl;
  same =
      and_from (eqb node node) (same_property property property && (same_option confirmed confirmed && same_option heard heard)) (eq-eqb node node refl)
      (and_from (same_property property property) (same_option confirmed confirmed && same_option heard heard) (same_property_laws.refl property)
      (and_from (same_option confirmed confirmed) (same_option heard heard) (option-itself confirmed) (option-itself heard)));
  of_table = tt;
}

one-value : (node : ℕ) (property : Property) (confirmed heard : Option ℕ) → AllByRecursion IsLine (value_line node property confirmed heard)
one-value node property None None = tt
one-value node property None (Some heard) = (value-line node property None (Some heard), tt)
one-value node property (Some confirmed) None = (value-line node property (Some confirmed) None, tt)
one-value node property (Some confirmed) (Some heard) = (value-line node property (Some confirmed) (Some heard), tt)

all-values : (node : ℕ) (stored heard : Property → Option ℕ) (properties : List Property) → AllByRecursion IsLine (flat_map (λ property. value_line node property (stored property) (heard property)) properties)
all-values node stored heard [] = tt
all-values node stored heard (property ∷ properties) =
    all-append IsLine (value_line node property (stored property) (heard property)) (flat_map (λ one. value_line node one (stored one) (heard one)) properties)
    (one-value node property (stored property) (heard property)) (all-values node stored heard properties)

all-rows : (transcript : List Entry) (node : ℕ) → AllByRecursion IsLine (node_rows transcript node)
all-rows transcript node = (node-line node (sessions node transcript), all-values node (confirmed transcript node) (heard_value transcript node) (properties_known transcript node))

-- ---- lists from a place on

drop-get : {A : Type 0} (items : List A) (at : ℕ) (item : A) (rest : List A) → drop at items ≡ item ∷ rest → slice_get items at ≡ Some item
drop-get [] zero item rest is = absurd cc
drop-get [] (suc at) item rest is = absurd cc
drop-get (first ∷ items) zero item rest is = let same : first ≡ item = cc in ap Some same
drop-get (first ∷ items) (suc at) item rest is = drop-get items at item rest is

drop-next : {A : Type 0} (items : List A) (at : ℕ) (item : A) (rest : List A) → drop at items ≡ item ∷ rest → drop (suc at) items ≡ rest
drop-next [] zero item rest is = absurd cc
drop-next [] (suc at) item rest is = absurd cc
drop-next (first ∷ items) zero item rest is = let same : items ≡ rest = cc in same
drop-next (first ∷ items) (suc at) item rest is = drop-next items at item rest is

-- ---- the table has begun

before-end-is : (transcript done : List Entry) (ticks : ℕ) → has_end transcript ≡ false → before_end (transcript ++ TableEnd ticks ∷ done) ≡ transcript
before-end-is [] done ticks none = refl
before-end-is (entry ∷ transcript) done ticks none =
    let both = or_parts (is_end entry) (has_end transcript) none in
    ap (λ (b : Bool). cond b [] (entry ∷ before_end (transcript ++ TableEnd ticks ∷ done))) both.0 ∙ ap (λ (l : List Entry). entry ∷ l) (before-end-is transcript done ticks both.1)

following-end-is : (transcript done : List Entry) (ticks : ℕ) → has_end transcript ≡ false → following_end (transcript ++ TableEnd ticks ∷ done) ≡ done
following-end-is [] done ticks none = refl
following-end-is (entry ∷ transcript) done ticks none =
    let both = or_parts (is_end entry) (has_end transcript) none in
    ap (λ (b : Bool). cond b (transcript ++ TableEnd ticks ∷ done) (following_end (transcript ++ TableEnd ticks ∷ done))) both.0 ∙ following-end-is transcript done ticks both.1

has-end-now : (transcript done : List Entry) (ticks : ℕ) → has_end (transcript ++ TableEnd ticks ∷ done) ≡ true
has-end-now [] done ticks = refl
has-end-now (entry ∷ transcript) done ticks = or_right (is_end entry) (has_end (transcript ++ TableEnd ticks ∷ done)) (has-end-now transcript done ticks)

none-made : (node : ℕ) (entries : List Entry) → AllByRecursion IsOfTable entries → made node entries ≡ []
none-made node [] all = refl
none-made node (TableEnd ticks ∷ entries) all = none-made node entries all.1
none-made node (TableNode at commands ∷ entries) all = none-made node entries all.1
none-made node (TableValue at property confirmed heard ∷ entries) all = none-made node entries all.1
none-made node (Device at setting ∷ entries) all = none-made node entries all.1
none-made node (entry ∷ entries) all = absurd all.0

pub each-end : (breaks : List Entry → Entry → Bool) (before xs ys : List Entry) → EachKeeps breaks before xs → EachKeeps breaks (before ++ xs) ys → EachKeeps breaks before (xs ++ ys)
each-end breaks before [] ys first later = subst (λ (l : List Entry). EachKeeps breaks l ys) (append-nil before) later
each-end breaks before (entry ∷ xs) ys first later =
    (first.0, each-end breaks (before ++ (entry ∷ [])) xs ys first.1 (subst (λ (l : List Entry). EachKeeps breaks l ys) (sym (append_assoc before (entry ∷ []) xs)) later))

-- ---- the lines of the table

module _ (transcript : List Entry) (ticks : ℕ) (none : has_end transcript ≡ false) where
  -- the transcript, and these lines of the table
  abbrev upto : List Entry → List Entry
  upto done = transcript ++ TableEnd ticks ∷ done

  upto-one : (done : List Entry) (entry : Entry) → upto done ++ (entry ∷ []) ≡ upto (done ++ (entry ∷ []))
  upto-one done entry = append_assoc transcript (TableEnd ticks ∷ done) (entry ∷ [])

  -- these lines are still due
  abbrev Left : List Entry → List Entry → Type 0
  Left done due = drop (length (filter is_row done)) (rows transcript) ≡ due

  judged-row : (past : List Entry) (entry : Entry) → is_row entry ≡ true → breaks_end past entry ≡ breaks_row (next_row past) entry
  judged-row past (TableNode node commands) is = refl
  judged-row past (TableValue node property confirmed heard) is = refl
  judged-row past entry is = absurd (true≢false (sym is))

  next-is : (done : List Entry) (entry : Entry) (due : List Entry) → Left done (entry ∷ due) → next_row (upto done) ≡ Some entry
  next-is done entry due left =
      ap₂ (λ (before following : List Entry). slice_get (rows before) (length (filter is_row following))) (before-end-is transcript done ticks none) (following-end-is transcript done ticks none)
      ∙ drop-get (rows transcript) (length (filter is_row done)) entry due left

  row-keeps : (done : List Entry) (entry : Entry) (due : List Entry) → IsLine entry → Left done (entry ∷ due) → breaks_table (upto done) entry ≡ false
  row-keeps done entry due line left =
      ap₂ ◌&&◌ (has-end-now transcript done ticks) (judged-row (upto done) entry line.row ∙ ap (λ (o : Option Entry). breaks_row o entry) (next-is done entry due left))
      ∙ ap not line.same

  left-row : (done : List Entry) (entry : Entry) (due : List Entry) → is_row entry ≡ true → Left done (entry ∷ due) → Left (done ++ (entry ∷ [])) due
  left-row done entry due is left =
      let more : length (filter is_row (done ++ (entry ∷ []))) ≡ suc (length (filter is_row done)) =
      ap length (filter-append is_row done (entry ∷ []) ∙ ap (λ (b : Bool). filter is_row done ++ cond b (entry ∷ []) []) is)
      ∙ (length-append (filter is_row done) (entry ∷ []) ∙ add-one (length (filter is_row done))) in
      ap (λ (n : ℕ). drop n (rows transcript)) more ∙ drop-next (rows transcript) (length (filter is_row done)) entry due left

  -- lines that are rows
  rows-keep : (some : List Entry) (rest done due : List Entry) → AllByRecursion IsLine some → Left done (some ++ due) → AllByRecursion IsOfTable done
      → ((now : List Entry) → Left now due → AllByRecursion IsOfTable now → EachKeeps breaks_table (upto now) rest) → EachKeeps breaks_table (upto done) (some ++ rest)
  rows-keep [] rest done due all left of_table then_keeps = then_keeps done left of_table
  rows-keep (entry ∷ some) rest done due all left of_table then_keeps = (
    row-keeps done entry (some ++ due) all.0 left,
    subst (λ (l : List Entry). EachKeeps breaks_table l (some ++ rest)) (sym (upto-one done entry))
        (rows-keep some rest (done ++ (entry ∷ [])) due all.1 (left-row done entry (some ++ due) all.0.row left) (all-append IsOfTable done (entry ∷ []) of_table (all.0.of_table, tt)) then_keeps),
  )

  -- the last value is the same while the table is told
  shown-same : (done : List Entry) (node : ℕ) (property : Property) → AllByRecursion IsOfTable done → value_shown (upto done) node property ≡ value_shown transcript node property
  shown-same done node property of_table =
      ap (λ (l : List Made). unwrap_or (last_value None (settings_made l) property) 0)
      (shown-append (made_at node) transcript (TableEnd ticks ∷ done) ∙ ap (λ (l : List Made). made node transcript ++ l) (none-made node done of_table) ∙ append-nil (made node transcript))

  device-keeps : (done : List Entry) (node : ℕ) (setting : Setting) → IsLastShown transcript node setting → AllByRecursion IsOfTable done → breaks_table (upto done) (Device node setting) ≡ false
  device-keeps done node setting last of_table =
      ap₂ (λ (b : Bool) (n : ℕ). b && not (eqb n setting.value)) (has-end-now transcript done ticks) (shown-same done node setting.property of_table ∙ last)
      ∙ ap not (eq-eqb setting.value setting.value refl)

  left-device : (done due : List Entry) (node : ℕ) (setting : Setting) → Left done due → Left (done ++ (Device node setting ∷ [])) due
  left-device done due node setting left =
      ap (λ (l : List Entry). drop (length l) (rows transcript)) (filter-append is_row done (Device node setting ∷ []) ∙ append-nil (filter is_row done)) ∙ left

  -- lines of a device
  devices-keep : (node : ℕ) (settings : List Setting) (rest done due : List Entry) → AllByRecursion (IsLastShown transcript node) settings → Left done due → AllByRecursion IsOfTable done
      → ((now : List Entry) → Left now due → AllByRecursion IsOfTable now → EachKeeps breaks_table (upto now) rest) → EachKeeps breaks_table (upto done) (map (Device node) settings ++ rest)
  devices-keep node [] rest done due all left of_table then_keeps = then_keeps done left of_table
  devices-keep node (setting ∷ settings) rest done due all left of_table then_keeps = (
    device-keeps done node setting all.0 of_table,
    subst (λ (l : List Entry). EachKeeps breaks_table l (map (Device node) settings ++ rest)) (sym (upto-one done (Device node setting)))
        (devices-keep node settings rest (done ++ (Device node setting ∷ [])) due all.1 (left-device done due node setting left) (all-append IsOfTable done (Device node setting ∷ []) of_table (tt, tt)) then_keeps),
  )

  module _ (listing : ℕ → List ℕ) (devices : List State)
      (alike : (node : ℕ) → node_rows transcript node ≡ TableNode node (sessions node transcript) ∷ value_lines (always listing) transcript node)
      (shows : (node : ℕ) (device : State) → device_of node devices ≡ Some device → AllByRecursion (IsLastShown transcript node) (shown_of device)) where
    device-lines-keep : (node : ℕ) (found : Option State) → device_of node devices ≡ found → (rest done due : List Entry) → Left done due → AllByRecursion IsOfTable done
        → ((now : List Entry) → Left now due → AllByRecursion IsOfTable now → EachKeeps breaks_table (upto now) rest) → EachKeeps breaks_table (upto done) (device_lines node found ++ rest)
    device-lines-keep node None is rest done due left of_table then_keeps = then_keeps done left of_table
    device-lines-keep node (Some device) is rest done due left of_table then_keeps = devices-keep node (shown_of device) rest done due (shows node device is) left of_table then_keeps

    node-split : (node : ℕ) (rest : List Entry) → node_lines (always listing) transcript devices node ++ rest ≡ node_rows transcript node ++ (device_lines node (device_of node devices) ++ rest)
    node-split node rest =
        ap (λ (l : List Entry). TableNode node (sessions node transcript) ∷ l) (append_assoc (value_lines (always listing) transcript node) (device_lines node (device_of node devices)) rest)
        ∙ ap (λ (l : List Entry). l ++ (device_lines node (device_of node devices) ++ rest)) (sym (alike node))

    nodes-keep : (nodes : List ℕ) (done : List Entry) → Left done (flat_map (node_rows transcript) nodes) → AllByRecursion IsOfTable done
        → EachKeeps breaks_table (upto done) (flat_map (node_lines (always listing) transcript devices) nodes)
    nodes-keep [] done left of_table = tt
    nodes-keep (node ∷ nodes) done left of_table =
        let rest = flat_map (node_lines (always listing) transcript devices) nodes in
        let due = flat_map (node_rows transcript) nodes in
        subst (λ (l : List Entry). EachKeeps breaks_table (upto done) l) (sym (node-split node rest))
        (rows-keep (node_rows transcript node) (device_lines node (device_of node devices) ++ rest) done due (all-rows transcript node) left of_table
        (λ now still told. device-lines-keep node (device_of node devices) refl rest now due still told (λ later so_far all. nodes-keep nodes later so_far all)))

    -- no entry of the run is judged
    run-keeps : EachKeeps breaks_table [] transcript
    run-keeps = keeps-each breaks_table [] transcript (λ past entry rest is.
        ap (λ (b : Bool). b && breaks_end past entry)
        (or_parts (has_end past) (has_end (entry ∷ rest)) (sym (list_any-append is_end past (entry ∷ rest)) ∙ (sym (ap has_end is) ∙ none))).0)

    pub keeps-table : EachKeeps breaks_table [] (transcript ++ table_of (always listing) ticks transcript devices)
    keeps-table =
        each-end breaks_table [] transcript (table_of (always listing) ticks transcript devices) run-keeps
        (ap (λ (b : Bool). b && false) none, nodes-keep (in_order nat_cmp (joined transcript)) [] refl tt)
