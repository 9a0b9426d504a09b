-- The adding of a node (Serial API: Add Node To Network; which modes, statuses and lengths there are is this project's own profile).
use Rattle.std.specs.Prelude.{ℕ, List, [], ◌∷◌, Option, Some, None, Ok, Err, nat_lt, ◌==◌, if◌then◌else◌}
use Rattle.chip_functions.specs.declared.fault.BodyFault.TheVariants.{BadField}
use Rattle.chip_functions.specs.declared.add_node.AddMode.{AddMode}
use Rattle.chip_functions.specs.declared.add_node.AddMode.TheVariants.{Any, Stop}
use Rattle.chip_functions.specs.declared.add_node.AddStatus.{AddStatus}
use Rattle.chip_functions.specs.declared.add_node.AddStatus.TheVariants.{LearnReady, NodeFound, AddingSlave, AddingController, ProtocolDone, Done, Failed}
use Rattle.chip_functions.specs.declared.add_node.AddedNode.{AddedNode}
use Rattle.chip_functions.specs.declared.add_node.AddedNode.TheVariants.{Unnamed, Named, Described}
use Rattle.chip_functions.specs.Place.{Place, Reading, ◌>>=◌, byte_from}
use Rattle.chip_functions.specs.Field.{Field, byte, byte_within, IsNode, mark, coded, ◌then◌, read_as}
use Rattle.chip_functions.specs.Classes.{classes, classes_after}

-- the byte of a mode
abbrev pub mode_code : AddMode → ℕ
mode_code Any = 1
mode_code Stop = 5

-- the mode of a byte
abbrev pub mode_of : ℕ → Option AddMode
mode_of b =
    if b == 1 then Some Any else
    if b == 5 then Some Stop else
    None

-- a request to add: a mode and a callback id that is not 0
abbrev pub add_request : Field (AddMode × ℕ)
add_request = coded mode_code mode_of then byte_within 1 255

-- the byte of a status
abbrev pub status_code : AddStatus → ℕ
status_code LearnReady = 1
status_code NodeFound = 2
status_code AddingSlave = 3
status_code AddingController = 4
status_code ProtocolDone = 5
status_code Done = 6
status_code Failed = 7

-- the status of a byte
abbrev pub status_of : ℕ → Option AddStatus
status_of b =
    if b == 1 then Some LearnReady else
    if b == 2 then Some NodeFound else
    if b == 3 then Some AddingSlave else
    if b == 4 then Some AddingController else
    if b == 5 then Some ProtocolDone else
    if b == 6 then Some Done else
    if b == 7 then Some Failed else
    None

-- a node, or 0, and then a length, which is 0 or that of the node's information after it
abbrev pub added_spelling : AddedNode → List ℕ
added_spelling Unnamed = 0 ∷ 0 ∷ []
added_spelling (Named n) = n ∷ 0 ∷ []
added_spelling (Described n b g s list) = n ∷ classes.spell (b, (g, (s, list)))

-- after 0 stands the length 0
unfoldable pub unnamed_at : Place → Reading AddedNode
unnamed_at p = read_as (λ _. Unnamed) ((mark 0).read p)

-- after a node stands a length, and the information where it is not 0
unfoldable pub named_at : ℕ → Place → Reading AddedNode
named_at n p = byte_from p.before p.rest >>= λ len.
    if len.0 == 0 then Ok (Named n, len.1) else
    read_as (λ x. Described n x.0 x.1.0 x.1.1.0 x.1.1.1) (classes_after p.before len.0 len.1)

-- what is said of the node that is added
abbrev pub added : Field AddedNode
added = record {
  spell = added_spelling;
  read = λ p. byte_from p.before p.rest >>= λ n.
      if n.0 == 0 then unnamed_at n.1 else
      if nat_lt 232 n.0 then Err (BadField p.before) else
      named_at n.0 n.1;
}

-- a notice of the adding: its callback id, how far it has come, and what is said of the node
abbrev pub add_notice : Field (ℕ × (AddStatus × AddedNode))
add_notice = byte then coded status_code status_of then added

-- the node, where one is said, is a node
abbrev pub IsAdded : AddedNode → Type 0
IsAdded Unnamed = Unit {0}
IsAdded (Named n) = IsNode n
IsAdded (Described n b g s list) = IsNode n
