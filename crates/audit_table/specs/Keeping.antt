-- That what is kept for the table is that of a transcript.
use Rattle.std.specs.Prelude.{◌≡◌, ℕ, ◌<◌, ◌≤◌, ◌==◌, ◌&&◌, not, Bool, true, false, if◌then◌else◌, List, [], ◌∷◌, ◌++◌, length, filter, slice_index_or, Some, None}
use Rattle.std.specs.List.{flat_map, list_any, AllByRecursion}
use Rattle.std.specs.Map.{keys_of}
use Rattle.zw_base.specs.declared.property.Property.{Property}
use Rattle.zw_base.specs.declared.property.Setting.{Setting}
use Rattle.host_orders.specs.Settings.{properties_of}
use Rattle.zw_text.specs.declared.line.Line.{Line}
use Rattle.zw_text.specs.declared.entry.Entry.{Entry}
use Rattle.zw_text.specs.declared.entry.Entry.TheVariants.{Refused}
use Rattle.zw_text.specs.Transcript.{Doing, doing_step, folded, join_of, line_of, made, reported}
use Rattle.law_transcript.specs.Restarts.{is_restart}
use Rattle.law_transcript.specs.Stores.{last_value}
use Rattle.law_transcript.specs.Table.{compare_properties, in_order}
use Rattle.audit_table.specs.TableRule.{before_end, following_end, has_end, is_row, rows, settings_made}
use Rattle.audit_table.specs.Knowing.{Closing, Knowns, known_at, values_of}

abbrev pub is_refusal : Entry → Bool
is_refusal (Refused refusal) = true
is_refusal _ = false

-- the lines that have been done, and the one of which it is not known yet
abbrev pub doing : List Entry → Doing
doing past = folded doing_step (record { earlier = []; last = [] }) past

-- the entries since the last restart of which it is known that it was not refused, and the line of the last entry
pub record Since : Type 0 where
  pub entries : List Entry
  pub line : List Line

abbrev pub since_after : Since → Entry → Since
since_after before entry = record {
  entries = (if is_restart before.line && not (is_refusal entry) then [] else before.entries) ++ (entry ∷ []);
  line = line_of entry;
}

abbrev pub since : List Entry → Since
since past = folded since_after (record { entries = []; line = [] }) past

-- what is known of properties is what these settings show, and nothing is confirmed
pub record AreLast (knowns : Knowns) (settings : List Setting) : Type 0 where
  pub keys : keys_of knowns ≡ in_order compare_properties (properties_of settings)
  pub last : (property : Property) → (known_at knowns property).last ≡ last_value None settings property
  pub confirmed : (property : Property) → (known_at knowns property).confirmed ≡ None

abbrev pub is_joined : List Entry → ℕ → Bool
is_joined past node = list_any (λ one. one == node) (2 ∷ flat_map join_of (doing past).earlier)

pub record AreClosingOf (closing : Closing) (past : List Entry) : Type 0 where
  pub joined_places : length closing.joined ≡ 233
  pub heard_places : length closing.heard ≡ 233
  pub made_places : length closing.made ≡ 233
  pub joined_are : (node : ℕ) → node < 233 → slice_index_or closing.joined node false ≡ is_joined past node
  pub joins : AllByRecursion (λ node. (1 ≤ node) × (node < 233)) (flat_map join_of (doing past).earlier)
  pub made_are : (node : ℕ) → node < 233 → AreLast (values_of closing.made node) (settings_made (made node past))
  pub heard_are : closing.rows ≡ None → (node : ℕ) → node < 233 → AreLast (values_of closing.heard node) (reported node (since past).entries)
  pub rows_are : closing.rows ≡ (if has_end past then Some (rows (before_end past)) else None)
  pub shown_are : closing.shown ≡ length (filter is_row (following_end past))
