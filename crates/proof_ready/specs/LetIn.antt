-- An order that is let in (this project's own rule): by the transcript before it the node is joined, and the host takes it to list Supervision.
use Rattle.std.specs.Prelude.{◌≡◌, ℕ, ◌+◌, true, List, length}
use Rattle.zw_text.specs.declared.entry.Entry.{Entry}
use Rattle.zw_text.specs.declared.entry.Entry.TheVariants.{Accepted}
use Rattle.zw_text.specs.Transcript.{accepted_numbers}
use Rattle.host_orders.specs.Classes.{lists}
use Rattle.law_wire.specs.law_transcript.Nodes.{always, host_list, is_joined}

-- the classes are those of a Node Information Frame; commands are numbered one by one
pub record IsLetIn (listing : ℕ → List ℕ) (past : List Entry) (command n : ℕ) : Type 0 where
  pub joined : is_joined past n ≡ true
  pub supervised : lists (host_list (always listing) past n) 0x6C ≡ true
  pub number : command ≡ length (accepted_numbers past) + 1

-- so where it is accepted
abbrev pub MayBeLetIn : (ℕ → List ℕ) → List Entry → Entry → Type 0
MayBeLetIn listing past (Accepted command n) = IsLetIn listing past command n
MayBeLetIn listing past entry = Unit {0}
