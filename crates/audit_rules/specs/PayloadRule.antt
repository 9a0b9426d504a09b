-- The rule of payloads: what the controller sends is what the host asked for, each once and in order (Serial API: SendData; the rest is this
-- project's own rule).
use Rattle.std.specs.Prelude.{◌==◌, ◌&&◌, not, bytes_eq, Bool, true, false, if◌then◌else◌, List, [], ◌∷◌, ◌++◌}
use Rattle.zw_text.specs.declared.entry.Entry.{Entry}
use Rattle.zw_text.specs.declared.entry.Entry.TheVariants.{Air}
use Rattle.law_transcript.specs.Carrying.{asked, sent_out}
use Rattle.law_transcript.specs.Nodes.{controller}
use Rattle.law_transcript.specs.Units.{Carried}

-- whether two payloads are the same, to the same node
abbrev pub same_carried : Carried → Carried → Bool
same_carried first second = (first.node == second.node) && bytes_eq first.payload second.payload

-- whether the first items are some of the second, in order
abbrev pub are_picked : List Carried → List Carried → Bool
are_picked [] items = true
are_picked (one ∷ more) [] = false
are_picked (one ∷ more) (item ∷ items) = if same_carried one item then are_picked more items else are_picked (one ∷ more) items

-- whether a line breaks the rule
abbrev pub breaks_payload : List Entry → Entry → Bool
breaks_payload past (Air frame sender receiver repeaters payload) =
    (sender == controller) && not (are_picked (sent_out past ++ (record { node = receiver; payload = payload } ∷ [])) (asked past))
breaks_payload past _ = false
