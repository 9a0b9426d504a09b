-- What is kept of the host's units and the controller's frames, in place of their lists (this project's own rule).
use Rattle.std.specs.Prelude.{ℕ, ◌==◌, ◌&&◌, ◌||◌, not, Bool, true, false, if◌then◌else◌, List, [], ◌∷◌, ◌++◌, Option, Some, None, is_none, is_some}
use Rattle.zw_words.specs.declared.side.Side.TheVariants.{Host}
use Rattle.zw_text.specs.declared.entry.Entry.{Entry}
use Rattle.zw_text.specs.declared.entry.Entry.TheVariants.{Written, Dropped, Garbled, Overrun, Air}
use Rattle.law_transcript.specs.Carrying.{asked_by}
use Rattle.law_transcript.specs.Nodes.{controller}
use Rattle.law_transcript.specs.Units.{Carried}
use Rattle.audit_rules.specs.PayloadRule.{same_carried}

-- what the units before the last one ask for, after the last that was sent; what the last one asks for; the last frame of the
-- controller, where only the last unit can have asked for it; and whether there is a unit
pub record Sendings : Type 0 where
  pub left : List Carried
  pub last : Option Carried
  pub unmet : Option Carried
  pub written : Bool

abbrev pub no_sendings : Sendings
no_sendings = record { left = []; last = None; unmet = None; written = false }

-- the only one of these
abbrev pub first_of : List Carried → Option Carried
first_of [] = None
first_of (one ∷ more) = Some one

-- what a unit asks for
abbrev pub asked_for : List ℕ → Option Carried
asked_for unit = first_of (asked_by unit)

-- what stands after the first that is that one
abbrev pub following : Carried → List Carried → Option (List Carried)
following one [] = None
following one (item ∷ items) = if same_carried one item then Some items else following one items

-- whether that one is there
abbrev pub is_that : Option Carried → Carried → Bool
is_that None one = false
is_that (Some last) one = same_carried one last

-- whether the controller may send this: it was asked for, after all that was sent
abbrev pub may_send : Sendings → Carried → Bool
may_send sendings one = is_none sendings.unmet && (is_that sendings.last one || is_some (following one sendings.left))

abbrev pub breaks_sending : Sendings → Entry → Bool
breaks_sending sendings (Air frame sender receiver repeaters payload) =
    (sender == controller) && not (may_send sendings (record { node = receiver; payload = payload }))
breaks_sending sendings _ = false

-- after the controller has sent this
abbrev pub sent_found : Sendings → Carried → Option (List Carried) → Sendings
sent_found sendings one None = record sendings { left = []; unmet = Some one }
sent_found sendings one (Some rest) = record sendings { left = rest }

abbrev pub sent : Sendings → Carried → Sendings
sent sendings one = sent_found sendings one (following one sendings.left)

-- what the last unit asks for stands
abbrev pub kept_unmet : Option Carried → Carried → Option Carried
kept_unmet last one = if is_that last one then None else Some one

abbrev pub joined_to : List Carried → Option Carried → List Carried
joined_to left None = left
joined_to left (Some last) = left ++ (last ∷ [])

abbrev pub settled_by : Sendings → Option Carried → Sendings
settled_by sendings None = record sendings { left = joined_to sendings.left sendings.last; last = None }
settled_by sendings (Some one) = record sendings { last = None; unmet = kept_unmet sendings.last one }

abbrev pub settled : Sendings → Sendings
settled sendings = settled_by sendings sendings.unmet

-- after a unit
abbrev pub wrote : Sendings → List ℕ → Sendings
wrote sendings unit = record (settled sendings) { last = asked_for unit; written = true }

-- after the last unit has become another, or none
abbrev pub changed : Sendings → Option Carried → Sendings
changed sendings last = if sendings.written then record sendings { last = last } else sendings

abbrev pub sent_by : Sendings → (sender receiver : ℕ) → List ℕ → Sendings
sent_by sendings sender receiver payload =
    if sender == controller then sent sendings (record { node = receiver; payload = payload }) else sendings

-- after one more entry
abbrev pub sendings_after : Sendings → Entry → Sendings
sendings_after sendings (Written Host unit) = wrote sendings unit
sendings_after sendings (Garbled Host unit) = changed sendings (asked_for unit)
sendings_after sendings (Dropped Host) = changed sendings None
sendings_after sendings (Overrun Host) = changed sendings None
sendings_after sendings (Air frame sender receiver repeaters payload) = sent_by sendings sender receiver payload
sendings_after sendings _ = sendings
