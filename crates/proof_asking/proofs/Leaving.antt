-- Entries that leave what came of the chip as it is, and units of the chip that come or do not: what came before has come.
use Rattle.std.proofs.Common.{◌≡◌, ℕ, true, false, inl, List, [], ◌∷◌, ◌++◌, refl, sym, ap, ◌∙◌, subst}
use Rattle.std.specs.List.{AllByRecursion}
use Rattle.zw_base.proofs.Each.{all-append, all-weaker}
use Rattle.serial_frame.specs.Items.{unit_text}
use Rattle.serial_frame.specs.declared.unit.Unit.{Unit as LineUnit}
use Rattle.zw_words.specs.declared.side.Side.TheVariants.{Host, Chip}
use Rattle.zw_text.specs.declared.entry.Entry.{Entry}
use Rattle.zw_text.specs.declared.entry.Entry.TheVariants as entry
use Rattle.zw_text.specs.Transcript.{Unit_on, folded, unit_step, units}
use Rattle.zw_text.specs.Transcript.Way.{Whole, Missed}
use Rattle.zw_text.proofs.Views.{folded-append}
use Rattle.law_transcript.specs.Lists.{Has}
use Rattle.law_transcript.specs.Units.{arrived}
use Rattle.law_transcript.proofs.Having.{has_left, has_right}
use Rattle.proof_sending.specs.Arriving.{ArrivesMore}
use Rattle.proof_sending.proofs.Arrivals.{Became, arrive, became, other_became, whole_became, with_last}
use Rattle.proof_known.specs.proof_alone.Steps.{DidNotCome}
use Rattle.proof_asking.specs.Asking.{HaveCome}

-- of no unit of the chip
abbrev pub LeavesChip : Entry → Type 0
LeavesChip (entry.Written Chip unit) = ⊥
LeavesChip (entry.Dropped Chip) = ⊥
LeavesChip (entry.Garbled Chip unit) = ⊥
LeavesChip (entry.Overrun Chip) = ⊥
LeavesChip e = Unit {0}

leaves_unit : (some : List Unit_on) (e : Entry) → LeavesChip e → unit_step Chip some e ≡ some
leaves_unit some (entry.Written Host unit) leaves = refl
leaves_unit some (entry.Written Chip unit) leaves = absurd leaves
leaves_unit some (entry.Dropped Host) leaves = refl
leaves_unit some (entry.Dropped Chip) leaves = absurd leaves
leaves_unit some (entry.Garbled Host unit) leaves = refl
leaves_unit some (entry.Garbled Chip unit) leaves = absurd leaves
leaves_unit some (entry.Overrun Host) leaves = refl
leaves_unit some (entry.Overrun Chip) leaves = absurd leaves
leaves_unit some e leaves = refl

leaves_units : (some : List Unit_on) (told : List Entry) → AllByRecursion LeavesChip told → folded (unit_step Chip) some told ≡ some
leaves_units some [] all = refl
leaves_units some (e ∷ told) all = ap (λ (u : List Unit_on). folded (unit_step Chip) u told) (leaves_unit some e all.0) ∙ leaves_units some told all.1

-- ---- what came before has come

grown : (past told : List Entry) → arrived Chip (past ++ told) ≡ arrive (folded (unit_step Chip) (units Chip past) told)
grown past told = ap arrive (folded-append (unit_step Chip) [] past told)

pub leaves_more : (past told : List Entry) → AllByRecursion LeavesChip told → ArrivesMore past (past ++ told)
leaves_more past told all text has = subst (λ (l : List (List ℕ)). Has l text) (sym (grown past told ∙ ap arrive (leaves_units (units Chip past) told all))) has

-- a unit that comes
come_is : (past : List Entry) (unit : List ℕ) → arrived Chip (past ++ entry.Written Chip unit ∷ []) ≡ arrived Chip past ++ unit ∷ []
come_is past unit = grown past (entry.Written Chip unit ∷ []) ∙ with_last (units Chip past) unit Whole

pub come_more : (past : List Entry) (unit : List ℕ) → ArrivesMore past (past ++ entry.Written Chip unit ∷ [])
come_more past unit text has = subst (λ (l : List (List ℕ)). Has l text) (sym (come_is past unit)) (has_left (arrived Chip past) (unit ∷ []) text has)

pub come_has : (past : List Entry) (unit : List ℕ) → Has (arrived Chip (past ++ entry.Written Chip unit ∷ [])) unit
come_has past unit = subst (λ (l : List (List ℕ)). Has l unit) (sym (come_is past unit)) (has_right (arrived Chip past) (unit ∷ []) unit (inl refl))

-- and one that does not
missed_became : (some : List Unit_on) (text : List ℕ) (marks : List Entry) → DidNotCome marks → Became some text marks
missed_became some text (entry.Dropped Chip ∷ []) did = became some text Whole Missed
missed_became some text (entry.Overrun Chip ∷ []) did = whole_became some text false
missed_became some text (entry.Garbled Chip unit ∷ []) did = other_became some text unit true
missed_became some text (entry.Garbled Chip unit ∷ entry.Overrun Chip ∷ []) did = other_became some text unit false
missed_became some text marks did = absurd did

pub missed_more : (past : List Entry) (unit : List ℕ) (marks : List Entry) → DidNotCome marks → ArrivesMore past (past ++ entry.Written Chip unit ∷ marks)
missed_more past unit marks did text has =
    subst (λ (l : List (List ℕ)). Has l text) (sym (grown past (entry.Written Chip unit ∷ marks) ∙ missed_became (units Chip past) unit marks did))
    (has_left (arrived Chip past) _ text has)

-- ---- units that wait

pub have_more : (past later : List Entry) (came : List LineUnit) → ArrivesMore past later → HaveCome past came → HaveCome later came
have_more past later came more have =
    all-weaker (λ unit. Has (arrived Chip past) (unit_text unit)) (λ unit. Has (arrived Chip later) (unit_text unit)) (λ unit has. more (unit_text unit) has) came have

pub have_one : (past : List Entry) (came : List LineUnit) (unit : LineUnit) → HaveCome past came → HaveCome (past ++ entry.Written Chip (unit_text unit) ∷ []) (came ++ unit ∷ [])
have_one past came unit have =
    let later : List Entry = past ++ entry.Written Chip (unit_text unit) ∷ [] in
    all-append (λ unit. Has (arrived Chip later) (unit_text unit)) came (unit ∷ []) (have_more past later came (come_more past (unit_text unit)) have) (come_has past (unit_text unit), tt)
