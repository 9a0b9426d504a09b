-- That what is kept of the payloads is that of a transcript.
use Rattle.std.specs.Prelude.{◌≡◌, Bool, true, false, if◌then◌else◌, List, [], ◌∷◌}
use Rattle.zw_words.specs.declared.side.Side.TheVariants.{Host}
use Rattle.zw_text.specs.declared.entry.Entry.{Entry}
use Rattle.zw_text.specs.Transcript.{Unit_on, units}
use Rattle.law_transcript.specs.Carrying.{asked_in, sent_out}
use Rattle.law_transcript.specs.Lists.{listed}
use Rattle.law_transcript.specs.Units.{Carried}
use Rattle.audit_rules.specs.PayloadRule.{same_carried}
use Rattle.audit_rules.specs.Sending.{Sendings}

-- the first of these that the items do not have in order, and the rest, and the items after the last that they have
pub record Picked : Type 0 where
  pub wanted : List Carried
  pub left : List Carried

abbrev pub picking : List Carried → List Carried → Picked
picking [] items = record { wanted = []; left = items }
picking (one ∷ more) [] = record { wanted = one ∷ more; left = [] }
picking (one ∷ more) (item ∷ items) = if same_carried one item then picking more items else picking (one ∷ more) items

-- units without the last one, and that one
abbrev pub but_last : List Unit_on → List Unit_on
but_last [] = []
but_last (unit ∷ []) = []
but_last (unit ∷ next ∷ more) = unit ∷ but_last (next ∷ more)

abbrev pub last_unit : List Unit_on → List Unit_on
last_unit [] = []
last_unit (unit ∷ []) = unit ∷ []
last_unit (unit ∷ next ∷ more) = last_unit (next ∷ more)

abbrev pub has_unit : List Unit_on → Bool
has_unit [] = false
has_unit (unit ∷ more) = true

pub record AreSendingsOf (sendings : Sendings) (past : List Entry) : Type 0 where
  pub picked : picking (sent_out past) (asked_in (but_last (units Host past))) ≡ record { wanted = listed sendings.unmet; left = sendings.left }
  pub last : listed sendings.last ≡ asked_in (last_unit (units Host past))
  pub written : sendings.written ≡ has_unit (units Host past)
