-- What a transcript keeps, it keeps with the lines of the table after it.
use Rattle.std.proofs.Common.{◌≡◌, ℕ, Bool, false, List, [], ◌∷◌, ◌++◌, map, drop, Option, Some, None, refl, sym, ap, subst, ◌∙◌, append_assoc, append-nil}
use Rattle.std.specs.Prelude.{option_map}
use Rattle.std.specs.List.{AllByRecursion, flat_map}
use Rattle.std.specs.Ordering.{nat_cmp}
use Rattle.std.proofs.lemmas.Bool.{or_from}
use Rattle.zw_base.proofs.Each.{all-append}
use Rattle.zw_base.specs.declared.property.Property.{Property}
use Rattle.zw_base.specs.declared.property.Setting.{Setting}
use Rattle.device_stack.specs.State.{State}
use Rattle.device_stack.specs.Showing.{shown_of}
use Rattle.zw_text.specs.declared.line.Line.{Line}
use Rattle.zw_text.specs.declared.line.Line.TheVariants as lines
use Rattle.zw_text.specs.declared.entry.Entry.{Entry}
use Rattle.zw_text.specs.declared.entry.Entry.TheVariants.{Device, Said, TableEnd, TableNode, TableValue}
use Rattle.zw_text.specs.Transcript.{joined, line_of}
use Rattle.law_transcript.specs.Lists.{EachAfter}
use Rattle.law_transcript.specs.Nodes.{device_of, always}
use Rattle.law_transcript.specs.Stores.{heard_value}
use Rattle.law_transcript.specs.Table.{device_lines, in_order, node_lines, properties_known, table_of, value_line, value_lines}
use Rattle.law_transcript.specs.Values.{confirmed}
use Rattle.law_wire.specs.Shown.{IsToShow, ShowsDevices, as_entered, asked_to_show, to_show, to_show_from, to_show_step}
use Rattle.proof_host.specs.Laws.{MayAccept}
use Rattle.proof_host.proofs.Lists.{each-anywhere, each-append}
use Rattle.audit_books.specs.Groups.{group_of, maker_at, setting_by, with_setting}
use Rattle.audit_books.specs.OnceRule.{breaks_once}
use Rattle.audit_books.specs.SessionRule.{EachKeeps, breaks_sessions}
use Rattle.audit_books.specs.declared.group.Maker.{Maker}
use Rattle.audit_table.specs.StoreRule.{breaks_store}
use Rattle.audit_table.specs.TableRule.{has_end, is_end}
use Rattle.proof_audit.specs.Books.{AreAsked, MayBeAsked}
use Rattle.proof_audit.specs.Tables.{IsOfTable, IsToStore, StoresDirectly, to_store, to_store_step}
use Rattle.proof_audit.specs.Whole.{EachKeepsOnce, following_by, following_of}
use Rattle.proof_audit.proofs.StoredDirectly.{keeps-stores, to-store-one}
use Rattle.proof_audit.proofs.TableRows.{each-end}

-- ---- the table is its lines

device-table : (node : ℕ) (settings : List Setting) → AllByRecursion IsOfTable (map (Device node) settings)
device-table node [] = tt
device-table node (setting ∷ settings) = (tt, device-table node settings)

device-lines-table : (node : ℕ) (found : Option State) → AllByRecursion IsOfTable (device_lines node found)
device-lines-table node None = tt
device-lines-table node (Some device) = device-table node (shown_of device)

value-table : (node : ℕ) (property : Property) (stored heard : Option ℕ) → AllByRecursion IsOfTable (value_line node property stored heard)
value-table node property None None = tt
value-table node property None (Some heard) = (tt, tt)
value-table node property (Some stored) None = (tt, tt)
value-table node property (Some stored) (Some heard) = (tt, tt)

values-table : (node : ℕ) (stored heard : Property → Option ℕ) (properties : List Property) → AllByRecursion IsOfTable (flat_map (λ property. value_line node property (stored property) (heard property)) properties)
values-table node stored heard [] = tt
values-table node stored heard (property ∷ properties) =
    all-append IsOfTable (value_line node property (stored property) (heard property)) (flat_map (λ one. value_line node one (stored one) (heard one)) properties)
    (value-table node property (stored property) (heard property)) (values-table node stored heard properties)

nodes-table : (listing : ℕ → List ℕ) (transcript : List Entry) (devices : List State) (nodes : List ℕ) → AllByRecursion IsOfTable (flat_map (node_lines (always listing) transcript devices) nodes)
nodes-table listing transcript devices [] = tt
nodes-table listing transcript devices (node ∷ nodes) =
    all-append IsOfTable (node_lines (always listing) transcript devices node) (flat_map (node_lines (always listing) transcript devices) nodes) (
      tt,
      all-append IsOfTable (value_lines (always listing) transcript node) (device_lines node (device_of node devices))
          (values-table node (confirmed (always listing) transcript node) (heard_value transcript node) (properties_known (always listing) transcript node)) (device-lines-table node (device_of node devices)),
    )
    (nodes-table listing transcript devices nodes)

pub table-is-lines : (listing : ℕ → List ℕ) (ticks : ℕ) (transcript : List Entry) (devices : List State) → AllByRecursion IsOfTable (table_of (always listing) ticks transcript devices)
table-is-lines listing ticks transcript devices = (tt, nodes-table listing transcript devices (in_order nat_cmp (joined transcript)))

-- ---- rules that a line of the table does not concern

pub table-keeps : (breaks : List Entry → Entry → Bool) → ((past : List Entry) (entry : Entry) → IsOfTable entry → breaks past entry ≡ false) → (past table : List Entry) → AllByRecursion IsOfTable table
    → EachKeeps breaks past table
table-keeps breaks free past [] all = tt
table-keeps breaks free past (entry ∷ table) all = (free past entry all.0, table-keeps breaks free (past ++ (entry ∷ [])) table all.1)

no-session : (past : List Entry) (entry : Entry) → IsOfTable entry → breaks_sessions past entry ≡ false
no-session past (TableEnd ticks) is = refl
no-session past (TableNode node commands) is = refl
no-session past (TableValue node property stored heard) is = refl
no-session past (Device node setting) is = refl
no-session past entry is = absurd is

pub sessions-with-table : (transcript table : List Entry) → AllByRecursion IsOfTable table → EachKeeps breaks_sessions [] transcript → EachKeeps breaks_sessions [] (transcript ++ table)
sessions-with-table transcript table all keeps = each-end breaks_sessions [] transcript table keeps (table-keeps breaks_sessions no-session transcript table all)

-- ---- the once-only rule

no-setting : (maker : Maker) (entry : Entry) → IsOfTable entry → setting_by maker entry ≡ None
no-setting maker (TableEnd ticks) is = refl
no-setting maker (TableNode node commands) is = refl
no-setting maker (TableValue node property stored heard) is = refl
no-setting maker (Device node setting) is = refl
no-setting maker entry is = absurd is

group-ends : (maker : Maker) (table : List Entry) → AllByRecursion IsOfTable table → group_of maker table ≡ []
group-ends maker [] all = refl
group-ends maker (entry ∷ table) all = ap (λ (o : Option Setting). with_setting o (group_of maker table)) (no-setting maker entry all.0)

group-same : (maker : Maker) (rest table : List Entry) → AllByRecursion IsOfTable table → group_of maker (rest ++ table) ≡ group_of maker rest
group-same maker [] table all = group-ends maker table all
group-same maker (entry ∷ rest) table all = ap (with_setting (setting_by maker entry)) (group-same maker rest table all)

following-same : (maker : Option Maker) (rest table : List Entry) → AllByRecursion IsOfTable table → following_by maker (rest ++ table) ≡ following_by maker rest
following-same None rest table all = refl
following-same (Some maker) rest table all = group-same maker rest table all

no-change : (past : List Entry) (entry : Entry) (rest : List Entry) → IsOfTable entry → breaks_once past entry (following_of entry rest) ≡ false
no-change past (TableEnd ticks) rest is = refl
no-change past (TableNode node commands) rest is = refl
no-change past (TableValue node property stored heard) rest is = refl
no-change past (Device node setting) rest is = refl
no-change past entry rest is = absurd is

once-of-table : (past table : List Entry) → AllByRecursion IsOfTable table → EachKeepsOnce past table
once-of-table past [] all = tt
once-of-table past (entry ∷ table) all = (no-change past entry table all.0, once-of-table (past ++ (entry ∷ [])) table all.1)

once-from : (past rest table : List Entry) → AllByRecursion IsOfTable table → EachKeepsOnce past rest → EachKeepsOnce past (rest ++ table)
once-from past [] table all keeps = once-of-table past table all
once-from past (entry ∷ rest) table all keeps =
    (ap (breaks_once past entry) (following-same (maker_at entry) rest table all) ∙ keeps.0, once-from (past ++ (entry ∷ [])) rest table all keeps.1)

pub once-with-table : (transcript table : List Entry) → AllByRecursion IsOfTable table → EachKeepsOnce [] transcript → EachKeepsOnce [] (transcript ++ table)
once-with-table transcript table all keeps = once-from [] transcript table all keeps

-- ---- confirmed values

no-accept : (past : List Entry) (entry : Entry) → IsOfTable entry → MayAccept past entry
no-accept past (TableEnd ticks) is = tt
no-accept past (TableNode node commands) is = tt
no-accept past (TableValue node property stored heard) is = tt
no-accept past (Device node setting) is = tt
no-accept past entry is = absurd is

no-order : (listing : ℕ → List ℕ) (past : List Entry) (entry : Entry) → IsOfTable entry → MayBeAsked listing past entry
no-order listing past (TableEnd ticks) is = tt
no-order listing past (TableNode node commands) is = tt
no-order listing past (TableValue node property stored heard) is = tt
no-order listing past (Device node setting) is = tt
no-order listing past entry is = absurd is

no-store : (entry : Entry) → IsOfTable entry → IsToStore [] entry
no-store (TableEnd ticks) is = tt
no-store (TableNode node commands) is = tt
no-store (TableValue node property stored heard) is = tt
no-store (Device node setting) is = tt
no-store entry is = absurd is

none-due : (listing : ℕ → List ℕ) (past due : List Entry) (entry : Entry) → IsOfTable entry → to_store_step listing past due entry ≡ []
none-due listing past due (TableEnd ticks) is = refl
none-due listing past due (TableNode node commands) is = refl
none-due listing past due (TableValue node property stored heard) is = refl
none-due listing past due (Device node setting) is = refl
none-due listing past due entry is = absurd is

table-stands : (listing : ℕ → List ℕ) (past table : List Entry) → to_store listing past ≡ [] → AllByRecursion IsOfTable table → EachAfter (λ before entry. IsToStore (to_store listing before) entry) past table
table-stands listing past [] none all = tt
table-stands listing past (entry ∷ table) none all = (
  subst (λ (due : List Entry). IsToStore due entry) (sym none) (no-store entry all.0),
  table-stands listing (past ++ (entry ∷ [])) table (to-store-one listing past entry ∙ none-due listing past (to_store listing past) entry all.0) all.1,
)

pub stores-with-table : (listing : ℕ → List ℕ) (transcript table : List Entry) → AllByRecursion IsOfTable table → EachAfter MayAccept [] transcript → AreAsked listing transcript
    → StoresDirectly listing transcript → EachKeeps breaks_store [] (transcript ++ table)
stores-with-table listing transcript table all accepts asked stores =
    keeps-stores listing (transcript ++ table)
    (each-append MayAccept [] transcript table accepts (each-anywhere MayAccept IsOfTable no-accept transcript table all))
    (each-append (MayBeAsked listing) [] transcript table asked (each-anywhere (MayBeAsked listing) IsOfTable (no-order listing) transcript table all))
    (each-append (λ before entry. IsToStore (to_store listing before) entry) [] transcript table stores.each (table-stands listing transcript table stores.in_the_end all))

-- ---- no table stands in a run

abbrev IsOfDevice : Entry → Type 0
IsOfDevice (Device node setting) = Unit {0}
IsOfDevice _ = ⊥

of-device : (node : ℕ) (settings : List Setting) → AllByRecursion IsOfDevice (map (Device node) settings)
of-device node [] = tt
of-device node (setting ∷ settings) = (tt, of-device node settings)

of-found : (node : ℕ) (found : Option State) → AllByRecursion IsOfDevice (device_lines node found)
of-found node None = tt
of-found node (Some device) = of-device node (shown_of device)

of-asked : (devices : List State) (past : List Entry) (line : List Line) → AllByRecursion IsOfDevice (asked_to_show devices past line)
of-asked devices past (lines.Show node ∷ more) = of-found node (option_map (as_entered past) (device_of node devices))
of-asked devices past _ = tt

of-drop : (due : List Entry) → AllByRecursion IsOfDevice due → AllByRecursion IsOfDevice (drop 1 due)
of-drop [] all = tt
of-drop (one ∷ due) all = all.1

of-step : (devices : List State) (past due : List Entry) (entry : Entry) → AllByRecursion IsOfDevice due → AllByRecursion IsOfDevice (to_show_step devices past due entry)
of-step devices past due (Said words) all = of-asked devices past (line_of (Said words))
of-step devices past due entry all = of-drop due all

to-show-from : (devices : List State) (due past entries : List Entry) (entry : Entry)
    → to_show_from devices due past (entries ++ (entry ∷ [])) ≡ to_show_step devices (past ++ entries) (to_show_from devices due past entries) entry
to-show-from devices due past [] entry = ap (λ (l : List Entry). to_show_step devices l due entry) (sym (append-nil past))
to-show-from devices due past (first ∷ entries) entry =
    to-show-from devices (to_show_step devices past due first) (past ++ (first ∷ [])) entries entry
    ∙ ap (λ (l : List Entry). to_show_step devices l (to_show_from devices (to_show_step devices past due first) (past ++ (first ∷ [])) entries) entry) (append_assoc past (first ∷ []) entries)

not-end : (due : List Entry) (entry : Entry) → AllByRecursion IsOfDevice due → IsToShow due entry → is_end entry ≡ false
not-end [] (TableEnd ticks) all is = absurd is
not-end [] entry all is = refl
not-end (Device node setting ∷ due) entry all is = ap is_end is
not-end (one ∷ due) entry all is = absurd all.0

no-end-from : (devices : List State) (past rest : List Entry) → AllByRecursion IsOfDevice (to_show devices past) → EachAfter (λ before entry. IsToShow (to_show devices before) entry) past rest → has_end rest ≡ false
no-end-from devices past [] all each = refl
no-end-from devices past (entry ∷ rest) all each =
    or_from (is_end entry) (has_end rest) (not-end (to_show devices past) entry all each.0)
    (no-end-from devices (past ++ (entry ∷ [])) rest
    (subst (AllByRecursion IsOfDevice) (sym (to-show-from devices [] [] past entry)) (of-step devices past (to_show devices past) entry all)) each.1)

pub no-end : (devices : List State) (transcript : List Entry) → ShowsDevices devices transcript → has_end transcript ≡ false
no-end devices transcript shows = no-end-from devices [] transcript tt shows
