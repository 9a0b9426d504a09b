-- The clock, the joined nodes and the values heard, as the transcript shows them (this project's own).
use Rattle.std.specs.Prelude.{◌≡◌, ℕ, List}
use Rattle.std.specs.List.{AllByRecursion}
use Rattle.zw_base.specs.declared.property.Property.{Property}
use Rattle.zw_text.specs.Line.{IsNode}
use Rattle.zw_text.specs.declared.entry.Entry.{Entry}
use Rattle.zw_text.specs.Transcript.{joined, lines_run}
use Rattle.law_host.specs.law_transcript.Nodes.{is_joined}
use Rattle.law_host.specs.law_transcript.Restarts.{ticks_asked}
use Rattle.law_host.specs.law_transcript.Stores.{heard_value}
use Rattle.value_store.specs.Values.{stored_of}
use Rattle.proof_air.specs.host_model.State.{node_of}
use Rattle.proof_air.specs.world_model.State.{Machine}

-- the clock counts the ticks that lines asked for; the joined nodes are node 2 and those of `join` lines that were not refused; what was heard of a
-- property is what was reported since the last restart
pub record IsTold (past : List Entry) (m : Machine) : Type 0 where
  pub clock : m.outside.outer.clock ≡ ticks_asked (lines_run past)
  pub are_joined : (node : ℕ) → (node_of m.host.state node).joined ≡ is_joined past node
  pub within : AllByRecursion (IsNode 1) (joined past)
  pub heard : (node : ℕ) (property : Property) → (stored_of m.host.state.store node property).heard ≡ heard_value past node property
