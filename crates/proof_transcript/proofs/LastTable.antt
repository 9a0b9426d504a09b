-- Over lines that were run whole, and the table at their end.
use Rattle.std.proofs.Common.{◌≡◌, ℕ, if◌then◌else◌, List, [], ◌∷◌, ◌++◌, map, Option, Some, None, refl, sym, ap, ap₂, subst, ◌∙◌, append_assoc, append-nil}
use Rattle.std.specs.List.{AllByRecursion, flat_map}
use Rattle.std.specs.Ordering.{nat_cmp}
use Rattle.zw_base.specs.declared.property.Property.{Property}
use Rattle.zw_base.specs.declared.property.Setting.{Setting}
use Rattle.zw_text.specs.declared.entry.Entry.{Entry}
use Rattle.zw_text.specs.declared.entry.Entry.TheVariants.{Json, TableEnd, TableNode}
use Rattle.zw_text.specs.Transcript.{joined, lines_run, outcome, sessions}
use Rattle.law_host.specs.law_transcript.Commands.{settings_for}
use Rattle.law_host.specs.law_transcript.Lists.{Has}
use Rattle.law_host.specs.law_transcript.Restarts.{ticks_asked}
use Rattle.law_host.specs.law_transcript.Stores.{heard_value}
use Rattle.law_host.specs.law_transcript.Table.{in_order, node_lines, table_of, value_lines}
use Rattle.law_host.specs.law_transcript.Values.{confirmed, confirmed_by, is_success}
use Rattle.law_host.proofs.Having.{all_has, all_of}
use Rattle.law_host.specs.HostLegal.{held_in, values_now}
use Rattle.value_store.specs.ValueText.{values_text}
use Rattle.value_store.specs.Values.{held_of, stored_of}
use Rattle.value_store.specs.declared.stored.Held.{Held}
use Rattle.host_keep.specs.Kept.{Taken, value_among, value_by}
use Rattle.proof_air.specs.host_model.State.{HostState}
use Rattle.proof_air.specs.proof_host.Facts.{AreShown}
use Rattle.proof_air.specs.proof_host.Laws.{HostLaws, numbers_for}
use Rattle.proof_air.specs.proof_host.Stores.{StoresLaw, given_by}
use Rattle.proof_air.specs.proof_host.Tables.{taken_at}
use Rattle.proof_air.proofs.Confirmed.{last_agree}
use Rattle.proof_air.specs.world_model.State.{Machine}
use Rattle.proof_air.specs.world_model.Did.{AllAlong}
use Rattle.proof_air.specs.world_model.Events.{shown_values}
use Rattle.proof_air.specs.host_model.Listing.{value_entry}
use Rattle.proof_air.specs.world_model.Table.{node_entries, table_entries}
use Rattle.proof_spoken.specs.proof_once.ByTable.{IsTable}
use Rattle.proof_spoken.specs.proof_once.Tied.{settings_taken}
use Rattle.proof_air.specs.world_lines.Spoken.{Spoken, after, after_all, entries_of, transcript_of}
use Rattle.proof_air.specs.world_lines.Done.{AreDone, IsRead, events_of}
use Rattle.proof_air.specs.world_lines.Whole.{AreWhole}
use Rattle.proof_air.proofs.Where.{along_parts}
use Rattle.proof_transcript.proofs.Hosts.{LeavesRecords}
use Rattle.proof_transcript.specs.Told.{IsTold}
use Rattle.proof_transcript.proofs.ToldState.{GoesOn, line_told}
use Rattle.proof_transcript.proofs.Nodes.{devices_are, nodes_are}
use Rattle.proof_transcript.proofs.Values.{flat_same, values_are}

-- ---- lines, one after another

pub lines_told : LeavesRecords → (past : List Entry) (m : Machine) (lines : List Spoken) → AreDone m lines → AreWhole m lines → AllByRecursion IsRead (map (λ (spoken : Spoken). spoken.line) lines)
    → AllAlong GoesOn m (events_of lines) → IsTold past m → IsTold (past ++ transcript_of m lines) (after_all m lines)
lines_told law past m [] are whole read along told = subst (λ (l : List Entry). IsTold l m) (sym (append-nil past)) told
lines_told law past m (spoken ∷ more) are whole read along told =
    let both = along_parts GoesOn m spoken.events (events_of more) along in
    let one = line_told law past m spoken.words told spoken.line spoken.events are.0.read read.0 both.0 whole.0 are.0.may in
    let later = after m spoken in
    subst (λ (l : List Entry). IsTold l (after_all later more)) (append_assoc past (entries_of m spoken) (transcript_of later more))
    (lines_told law (past ++ entries_of m spoken) later more are.1 whole.1 read.1 both.1 one)

-- ---- the table

-- what an order that was taken gives a property is what its settings give
value_settings : (taken : Option Taken) (p : Property) → value_by taken p ≡ value_among (settings_taken taken) p
value_settings None p = refl
value_settings (Some taken) p = refl

-- the values of a node in a line of the table are those that it has
held_back : (node : ℕ) (held : List Held) → flat_map held_in (map (value_entry node) held) ≡ held
held_back node [] = refl
held_back node (one ∷ held) = ap (λ (l : List Held). one ∷ l) (held_back node held)

module _ (listing : List Entry → ℕ → List ℕ) (past : List Entry) (h : HostState) (laws : HostLaws past) (stores : StoresLaw past h) (by_table : (node : ℕ) → IsTable listing h.commands node past) where
  -- a command of a session asks for what the table says
  asked : (node number : ℕ) → Has (sessions node past) number → settings_for listing past node number ≡ settings_taken (taken_at h.commands number)
  asked node number has =
      all_has (λ k. settings_for listing past node k ≡ settings_taken (taken_at h.commands k)) (numbers_for node past) number (by_table node).settings
      (all_has (Has (numbers_for node past)) (sessions node past) number (laws.accepted node) has)

  gives_same : (node : ℕ) (p : Property) (number : ℕ) → Has (sessions node past) number → given_by h.commands (λ k. outcome k past) p number ≡ confirmed_by listing past node p number
  gives_same node p number has =
      ap (λ (o : Option ℕ). if is_success (outcome number past) then o else None)
      (value_settings (taken_at h.commands number) p ∙ ap (λ (l : List Setting). value_among l p) (sym (asked node number has)))

  confirmed_is : (node : ℕ) (p : Property) → (stored_of h.store node p).confirmed ≡ confirmed listing past node p
  confirmed_is node p =
      stores.confirmed node p
      ∙ sym (last_agree (given_by h.commands (λ k. outcome k past) p) (confirmed_by listing past node p) (sessions node past)
      (all_of (λ k. confirmed_by listing past node p k ≡ given_by h.commands (λ j. outcome j past) p k) (sessions node past) (λ k has. sym (gives_same node p k has))))

  -- where what was heard is too, the values of a node are those that the transcript gives, and so they are shown
  module _ (heard : (node : ℕ) (p : Property) → (stored_of h.store node p).heard ≡ heard_value past node p) where
    values_kept : (node : ℕ) → map (value_entry node) (held_of h.store node) ≡ value_lines listing past node
    values_kept node = values_are listing past node h.store (confirmed_is node) (heard node)

    pub shown_kept : (node : ℕ) → values_now listing past node ≡ shown_values h node
    shown_kept node =
        ap (λ (l : List Entry). Json (values_text node (flat_map held_in l))) (sym (values_kept node)) ∙ ap (λ (l : List Held). Json (values_text node l)) (held_back node (held_of h.store node))

module _ (listing : List Entry → ℕ → List ℕ) (past : List Entry) (m : Machine) (told : IsTold past m) (laws : HostLaws past) (tables : AreShown past m.host.state) (stores : StoresLaw past m.host.state)
    (by_table : (node : ℕ) → IsTable listing m.host.state.commands node past) where
  -- the values of a node
  values_so : (node : ℕ) → map (value_entry node) (held_of m.host.state.store node) ≡ value_lines listing past node
  values_so node = values_kept listing past m.host.state laws stores by_table told.heard node

  -- the lines of a node
  node_is : (node : ℕ) → node_entries m node ≡ node_lines listing past m.outside.devices node
  node_is node =
      ap₂ (λ (a : List ℕ) (b : List Entry). TableNode node a ∷ b) (tables.sessions_are node)
      (ap₂ (λ (a b : List Entry). a ++ b) (values_so node) (devices_are node m.outside.devices))

  pub table_is : table_entries m ≡ table_of listing (ticks_asked (lines_run past)) past m.outside.devices
  table_is =
      ap₂ (λ (a : ℕ) (b : List Entry). TableEnd a ∷ b) told.clock
      (nodes_are (node_entries m) past m.host.state told.are_joined told.within
      ∙ flat_same (node_entries m) (node_lines listing past m.outside.devices) (in_order nat_cmp (joined past)) node_is)
