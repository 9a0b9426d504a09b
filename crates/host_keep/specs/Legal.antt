-- Which record may follow others (this project's own rule).
use Rattle.std.specs.Prelude.{◌≡◌, ℕ, suc, ◌+◌, ◌%◌, ◌==◌, ◌&&◌, ◌<◌, not, if◌then◌else◌, Bool, true, false, List, [], ◌∷◌, ◌++◌, length, take, slice_get, slice_index, Option, Some, None, is_none, is_some, option_map}
use Rattle.std.specs.Set.{distinct_count}
use Rattle.zw_base.specs.PropertyOrder.{same_property}
use Rattle.zw_base.specs.declared.order.Order.{Order}
use Rattle.host_orders.specs.Classes.{actuator_of}
use Rattle.host_orders.specs.Settings.{settings, properties_of}
use Rattle.host_orders.specs.Refusals.{Known, refusal_of}
use Rattle.host_keep.specs.Kept.{Kept, KeptNode, node_of, node_with, command_of, classes_said, listed_by, is_open, is_among, after, kept_of, first_kept, kept_properties}
use Rattle.host_keep.specs.RecordText.{IsTextOf}
use Rattle.host_keep.specs.declared.record.Record.{Record}
use Rattle.host_keep.specs.declared.record.Record.TheVariants.{Accepted, Joined, Classes, Begun, Final, Cancelled, Given, Spent, Seen}

-- what is known of a node when an order for it is judged
abbrev pub known_of : KeptNode → Known
known_of node = record { joined = node.joined; classes = classes_said node.interview; waiting = length node.waiting }

-- how many properties a node would have with those that an order sets
abbrev pub properties_with : Kept → Order → ℕ
properties_with kept order =
    distinct_count same_property (
    properties_of (settings (actuator_of (listed_by (node_of kept order.node).interview)) order)
    ++ kept_properties kept order.node)

-- the rules by which an order is refused let it be taken, with the next number
abbrev pub may_take : Kept → ℕ → Order → Bool
may_take kept command order =
    (command == length kept.commands + 1)
    && is_none (refusal_of (known_of (node_of kept order.node)) (properties_with kept order) order)

-- a node joins that is not joined; the controller never does
abbrev pub may_join : KeptNode → ℕ → Bool
may_join state node = not state.joined && not (node == 1)

-- whether this command waits longest
abbrev pub is_first : List ℕ → ℕ → Bool
is_first [] command = false
is_first (oldest ∷ more) command = oldest == command

-- the next session begins, for the command that waits longest, once the one before has ended
abbrev pub may_begin : KeptNode → ℕ → ℕ → Bool
may_begin node session command =
    (session == length node.sessions + 1) && not (is_open node.sessions) && is_first node.waiting command

-- the last session ends, which has not ended
abbrev pub may_end : KeptNode → ℕ → Bool
may_end node session = (session == length node.sessions) && is_open node.sessions

-- a command is cancelled that waits
abbrev pub may_cancel : Kept → ℕ → Bool
may_cancel kept command = is_among (node_of kept (node_with (command_of kept.commands command))).waiting command

-- the next nonce is given where none is live; its first byte counts
abbrev pub may_give : KeptNode → ℕ → List ℕ → Bool
may_give node given nonce = (given == node.given + 1) && is_none node.live && (slice_index nonce 0 == given % 256)

-- whether a record may follow those that gave this
abbrev pub is_legal : Kept → Record → Bool
is_legal kept (Accepted command order) = may_take kept command order
is_legal kept (Joined node) = may_join (node_of kept node) node
is_legal kept (Classes node listens classes) = (node_of kept node).joined
is_legal kept (Begun node session command) = may_begin (node_of kept node) session command
is_legal kept (Final node session status) = may_end (node_of kept node) session
is_legal kept (Cancelled command) = may_cancel kept command
is_legal kept (Given node given nonce) = may_give (node_of kept node) given nonce
is_legal kept (Spent node) = is_some (node_of kept node).live
is_legal kept (Seen node seen) = seen == (node_of kept node).seen + 1

-- the place, from 0, of the first record that may not follow those before it
unfoldable pub first_illegal : Kept → List Record → Option ℕ
first_illegal kept [] = None
first_illegal kept (one ∷ more) = if is_legal kept one then option_map suc (first_illegal (after kept one) more) else Some 0

-- each record may follow those before it
abbrev pub AreLegal : List Record → Type 0
AreLegal records = first_illegal first_kept records ≡ None

-- ---- over the texts of records

-- these are the texts of these records
abbrev pub AreTextsOf : List Record → List (List ℕ) → Type 0
AreTextsOf [] [] = Unit {0}
AreTextsOf [] (text ∷ texts) = ⊥
AreTextsOf (one ∷ more) [] = ⊥
AreTextsOf (one ∷ more) (text ∷ texts) = IsTextOf one text × AreTextsOf more texts

-- the texts are of legal records, which give this
pub record Give (texts : List (List ℕ)) (kept : Kept) : Type 0 where
  pub records : List Record
  pub are : AreTextsOf records texts
  pub legal : AreLegal records
  pub gives : kept ≡ kept_of records

-- at this place, from 0, stands the first text that is of no record, or of one that may not follow those before it
pub record IsFirstBad (texts : List (List ℕ)) (at : ℕ) : Type 0 where
  pub text : List ℕ
  pub stands : slice_get texts at ≡ Some text
  pub before : Kept
  pub gave : Give (take at texts) before
  pub bad : (one : Record) → IsTextOf one text → is_legal before one ≡ false
