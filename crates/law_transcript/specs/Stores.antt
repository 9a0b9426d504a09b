-- Which values are entered as confirmed, and which value was heard (this project's own rule).
use Rattle.std.specs.Prelude.{◌≡◌, ℕ, Bool, true, if◌then◌else◌, List, [], ◌∷◌, map, Option, Some, None, ⊤}
use Rattle.std.specs.List.{flat_map}
use Rattle.zw_base.specs.PropertyOrder.{same_property}
use Rattle.zw_base.specs.declared.property.Property.{Property}
use Rattle.zw_base.specs.declared.property.Setting.{Setting}
use Rattle.zw_text.specs.declared.entry.Ended.TheVariants.{Success as Succeeds}
use Rattle.zw_text.specs.declared.entry.Entry.{Entry}
use Rattle.zw_text.specs.declared.entry.Entry.TheVariants.{Accepted, Out, Store}
use Rattle.zw_text.specs.Transcript.{shown, where_same, reported}
use Rattle.law_transcript.specs.Lists.{EachAfter, IsPrefixOf}
use Rattle.law_transcript.specs.Commands.{settings_for}
use Rattle.law_transcript.specs.Restarts.{since_restart}

-- the values entered as confirmed, in order
abbrev pub store_at : Entry → List Entry
store_at (Store node setting) = Store node setting ∷ []
store_at _ = []

-- the node that a command was accepted for
abbrev pub node_at : ℕ → Entry → List ℕ
node_at number (Accepted command node) = where_same command number node
node_at number _ = []

-- the values that a command confirms at its node
abbrev pub stores_of : (List Entry → ℕ → List ℕ) → List Entry → ℕ → ℕ → List Entry
stores_of listing transcript number node = map (Store node) (settings_for listing transcript node number)

-- the values that an entry asks to be entered: at a success, those that the command asks for
abbrev pub stores_asked_at : (List Entry → ℕ → List ℕ) → List Entry → Entry → List Entry
stores_asked_at listing transcript (Out number Succeeds) = flat_map (stores_of listing transcript number) (shown (node_at number) transcript)
stores_asked_at listing transcript _ = []

abbrev pub stores_asked : (List Entry → ℕ → List ℕ) → List Entry → List Entry
stores_asked listing transcript = shown (stores_asked_at listing transcript) transcript

-- after a success, or another value of it
abbrev pub FollowsSuccess : List Entry → Type 0
FollowsSuccess [] = ⊥
FollowsSuccess (Out number Succeeds ∷ []) = ⊤
FollowsSuccess (Store node setting ∷ []) = ⊤
FollowsSuccess (entry ∷ []) = ⊥
FollowsSuccess (entry ∷ next ∷ rest) = FollowsSuccess (next ∷ rest)

abbrev pub MayStore : List Entry → Entry → Type 0
MayStore past (Store node setting) = FollowsSuccess past
MayStore past _ = ⊤

-- the values entered as confirmed are those that the successful commands ask for, in order, each after its success; where
-- the run did not end whole the last ones may lack
pub record StoresConfirmed (whole : Bool) (listing : List Entry → ℕ → List ℕ) (transcript : List Entry) : Type 0 where
  pub asked : IsPrefixOf (shown store_at transcript) (stores_asked listing transcript)
  pub all : whole ≡ true → shown store_at transcript ≡ stores_asked listing transcript
  pub following : EachAfter MayStore [] transcript

-- the last value that settings give a property, else the one before
abbrev pub last_value : Option ℕ → List Setting → Property → Option ℕ
last_value before [] property = before
last_value before (setting ∷ settings) property =
    last_value (if same_property setting.property property then Some setting.value else before) settings property

-- the heard value of a property of a node: that of its last report since the last restart
abbrev pub heard_value : List Entry → ℕ → Property → Option ℕ
heard_value transcript node property = last_value None (reported node (since_restart transcript)) property
