-- What is known of a host alone where it takes a message, by its transcript (this project's own rule): its facts, what nodes listed, which listen and have an open session, how many properties it
-- keeps of each, and that its tables are what was said.
use Rattle.std.specs.Prelude.{◌≡◌, ℕ, List, [], ◌∷◌}
use Rattle.std.specs.Set.{distinct_count}
use Rattle.zw_base.specs.PropertyOrder.{same_property}
use Rattle.zw_base.specs.declared.property.Property.{Property}
use Rattle.value_store.specs.Values.{count_with}
use Rattle.zw_text.specs.declared.entry.Entry.{Entry}
use Rattle.law_transcript.specs.Answers.{properties_kept}
use Rattle.proof_attempts.specs.law_time.Sessions.{is_open}
use Rattle.host_node.specs.State.{is_open as has_open}
use Rattle.host_model.specs.State.{HostState, node_of}
use Rattle.proof_attempts.specs.proof_host.Facts.{Facts}
use Rattle.proof_known.specs.law_host.Heard.{listing_heard}
use Rattle.proof_known.specs.proof_alone.Listening.{ListensAsTold}
use Rattle.proof_known.specs.proof_transcript.proof_once.ByTable.{IsTable}
use Rattle.proof_known.specs.proof_transcript.proof_spoken.Said.{KnowsListing}

pub record Ties (past : List Entry) (h : HostState) : Type 0 where
  pub facts : Facts past h
  pub lists_so : KnowsListing listing_heard past h
  pub hears : ListensAsTold past h
  pub opened : (n : ℕ) → is_open n past ≡ has_open (node_of h n)
  pub rooms : (n : ℕ) (p : Property) → count_with h.store n (p ∷ []) ≡ distinct_count same_property (p ∷ properties_kept listing_heard past n)
  pub tables : (n : ℕ) → IsTable listing_heard h.commands n past
