-- What the keeper's records say is what the transcript shows (this project's own rule).
use Rattle.std.specs.Prelude.{◌≡◌, ℕ, ◌==◌, ◌||◌, List, [], ◌∷◌, map, Option, Some, None, is_some}
use Rattle.std.specs.List.{flat_map}
use Rattle.zw_base.specs.declared.order.Order.{Order}
use Rattle.host_keep.specs.Kept.{Kept, KeptNode, node_of}
use Rattle.host_keep.specs.Legal.{Give}
use Rattle.host_keep.specs.declared.final_status.FinalStatus.{FinalStatus}
use Rattle.host_keep.specs.declared.final_status.FinalStatus.TheVariants as final
use Rattle.zw_text.specs.declared.line.Line.{Line}
use Rattle.zw_text.specs.declared.line.Line.TheVariants.{Command as Commanded}
use Rattle.zw_text.specs.declared.entry.Ended.TheVariants as endings
use Rattle.zw_text.specs.declared.entry.Entry.{Entry}
use Rattle.zw_text.specs.declared.entry.Entry.TheVariants.{Accepted, Out}
use Rattle.zw_text.specs.declared.entry.Outcome.{Outcome}
use Rattle.zw_text.specs.declared.entry.Outcome.TheVariants as outcomes
use Rattle.zw_text.specs.Transcript.{line_last, shown, sessions, outcome}
use Rattle.law_transcript.specs.Lists.{shown_after}
use Rattle.law_transcript.specs.Nodes.{first_node, is_joined, is_interviewed}
use Rattle.law_transcript.specs.Commands.{waiting}

-- the orders that were accepted, in order
abbrev pub order_at : Line → List Order
order_at (Commanded order) = order ∷ []
order_at _ = []

abbrev pub accepted_order : List Entry → Entry → List Order
accepted_order past (Accepted command node) = flat_map order_at (line_last past)
accepted_order past _ = []

abbrev pub orders_accepted : List Entry → List Order
orders_accepted transcript = shown_after accepted_order [] transcript

-- the commands that were taken back, in order
abbrev pub cancelled_at : Entry → List ℕ
cancelled_at (Out command endings.Cancelled) = command ∷ []
cancelled_at _ = []

-- the final status of an outcome, where it is one
abbrev pub final_of : Outcome → Option FinalStatus
final_of outcomes.Success = Some final.Success
final_of outcomes.Fail = Some final.Fail
final_of outcomes.NoSupport = Some final.NoSupport
final_of _ = None

-- what is kept of a node is what the transcript shows of it: whether it is joined and interviewed, which commands wait, and
-- its sessions with their final outcomes
pub record ShowsNode (transcript : List Entry) (node : ℕ) (kept : KeptNode) : Type 0 where
  pub joined : kept.joined ≡ is_joined transcript node
  pub interviewed : is_some kept.interview ≡ (is_interviewed transcript node || (node == first_node))
  pub waits : kept.waiting ≡ waiting node transcript
  pub begun : map (λ session. session.command) kept.sessions ≡ sessions node transcript
  pub ended : map (λ session. session.ended) kept.sessions ≡ map (λ number. final_of (outcome number transcript)) (sessions node transcript)

-- what is kept is what the transcript shows
pub record Shows (transcript : List Entry) (kept : Kept) : Type 0 where
  pub orders : map (λ taken. taken.order) kept.commands ≡ orders_accepted transcript
  pub cancelled : kept.cancelled ≡ shown cancelled_at transcript
  pub nodes : (node : ℕ) → ShowsNode transcript node (node_of kept node)

-- the records are legal, and give what the transcript shows
pub record KeepsRecords (transcript : List Entry) (records : List (List ℕ)) : Type 0 where
  pub kept : Kept
  pub gives : Give records kept
  pub shows : Shows transcript kept
