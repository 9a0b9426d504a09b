-- The values of a node as JSON (RFC 8259; the members and the words are this project's own rule).
use Rattle.std.specs.Prelude.{ℕ, List, Option, Some, None, map, codes}
use Rattle.serde_json.specs.Data.{Data, null, number, unsigned, string, array, object, member, no_members}
use Rattle.serde_json.specs.View.{items_of}
use Rattle.serde_json.specs.Written.{compact_text}
use Rattle.zw_base.specs.PropertyWord.{property_word}
use Rattle.value_store.specs.declared.stored.Held.{Held}

-- a value, or null where there is none
abbrev pub value_data : Option ℕ → Data
value_data None = null
value_data (Some value) = number (unsigned value)

-- a property with its values
abbrev pub held_data : Held → Data
held_data held =
    object (member (codes "confirmed") (value_data held.stored.confirmed)
    (member (codes "heard") (value_data held.stored.heard)
    (member (codes "property") (string (property_word held.property)) no_members)))

-- a node and its properties
abbrev pub node_data : ℕ → List Held → Data
node_data node helds =
    object (member (codes "node") (number (unsigned node))
    (member (codes "values") (array (items_of (map held_data helds))) no_members))

-- the text with no space and the keys in order
abbrev pub values_text : ℕ → List Held → List ℕ
values_text node helds = compact_text (node_data node helds)
