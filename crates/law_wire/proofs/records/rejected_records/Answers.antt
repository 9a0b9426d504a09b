use Rattle.std.proofs.Common.{◌≡◌, ℕ, List, [], ◌∷◌, map, length, Option, Some, None, sym, ap, subst, ◌∙◌, arith}
use Rattle.zw_base.specs.declared.order.Order.{Order}
use Rattle.zw_base.specs.declared.order.Word.{Word}
use Rattle.zw_base.specs.declared.order.Word.TheVariants.{On}
use Rattle.zw_base.specs.declared.order.What.{What}
use Rattle.zw_base.specs.declared.order.What.TheVariants.{Value}
use Rattle.law_transcript.specs.host_keep.Kept.{Kept, Session, Taken, node_of, first_kept}
use Rattle.law_transcript.specs.host_keep.Legal.{AreLegal, AreTextsOf, first_illegal}
use Rattle.law_transcript.specs.host_keep.RecordText.{row_text, record_text, IsTextOf}
use Rattle.law_transcript.specs.host_keep.declared.record.Record.{Record}
use Rattle.law_transcript.specs.host_keep.declared.record.Record.TheVariants as records
use Rattle.law_transcript.specs.host_keep.declared.final_status.FinalStatus.{FinalStatus}
use Rattle.law_transcript.specs.host_keep.declared.final_status.FinalStatus.TheVariants.{Success}
use Rattle.law_transcript.proofs.RecordLists.{give_one}
use Rattle.law_transcript.proofs.RowsBack.{one_record}
use Rattle.law_transcript.specs.WorkedDevices.{plain_records}
use Rattle.law_wire.specs.WorkedRecords.{spent_ungiven}
use Rattle.law_wire.proofs.Computing.{reckoning}
use Rattle.law_wire.proofs.ShownRecords.{spent_well, gives_begun, gives_cancelling, gives_otherwise}
use Rattle.law_wire.proofs.records.rejected_records.Goals as goal

-- whether the first order turns something on
abbrev word_on : Word → ℕ
word_on On = 1
word_on _ = 0

abbrev turns_on : What → ℕ
turns_on (Value word) = word_on word
turns_on _ = 0

abbrev first_on : List Order → ℕ
first_on [] = 0
first_on (order ∷ orders) = turns_on order.what

none_one : ◌≡◌ {A = ℕ} 0 1 → ⊥
none_one e = omega (arith, e)

-- how the sessions of node 2 ended, and how many commands are taken back
endings : Kept → List (Option FinalStatus)
endings kept = map (λ (session : Session). session.ended) (node_of kept 2).sessions

abbrev taken_back : Kept → ℕ
taken_back kept = length kept.cancelled

none_success : ◌≡◌ {A = List (Option FinalStatus)} (None ∷ []) (Some Success ∷ []) → ⊥
none_success e = cc

one_none : ◌≡◌ {A = ℕ} 1 0 → ⊥
one_none e = omega (arith, e)

place_none : ◌≡◌ {A = Option ℕ} (Some 0) None → ⊥
place_none e = cc

-- no nonce can be used at first
not_legal : ((one other : Record) (text : List ℕ) → IsTextOf one text → IsTextOf other text → one ≡ other)
    → (kept : List Record) → AreTextsOf kept (map record_text spent_ungiven) → AreLegal kept → ⊥
unfolding reckoning first_illegal
not_legal same [] are legal = are
not_legal same (one ∷ more) are legal =
    place_none (subst (λ (first : Record). first_illegal first_kept (first ∷ more) ≡ None) (same one (records.Spent 2) _ are.0 spent_well) legal)

-- the text of a record is not empty
abbrev first_byte : List ℕ → ℕ
first_byte [] = 0
first_byte (byte ∷ bytes) = byte

none_bracket : ◌≡◌ {A = ℕ} 0 91 → ⊥
none_bracket e = omega (arith, e)

not_text : (kept : List Record) → AreTextsOf kept ([] ∷ map record_text plain_records) → ⊥
unfolding reckoning row_text
not_text [] are = are
not_text (one ∷ more) are = none_bracket (ap first_byte are.0.text)

pub returns-clause-lacking : goal.returns-clause-lacking
unfolding reckoning endings
returns-clause-lacking c = λ law.
    none_success (sym (ap endings (give_one _ _ _ law.gives gives_begun)) ∙ (law.shows.nodes 2).ended)

pub returns-clause-ordered : goal.returns-clause-ordered
unfolding reckoning
returns-clause-ordered c = λ law.
    none_one (sym (ap (λ (kept : Kept). first_on (map (λ (taken : Taken). taken.order) kept.commands)) (give_one _ _ _ law.gives gives_otherwise))
    ∙ ap first_on law.shows.orders)

pub returns-clause-illegal : goal.returns-clause-illegal
returns-clause-illegal c = λ law. not_legal one_record law.gives.records law.gives.are law.gives.legal

pub returns-clause-unread : goal.returns-clause-unread
returns-clause-unread c = λ law. not_text law.gives.records law.gives.are

pub returns-clause-unkept : goal.returns-clause-unkept
unfolding reckoning
returns-clause-unkept c = λ law.
    none_one (sym (ap taken_back (give_one _ _ _ law.gives gives_begun)) ∙ ap length law.shows.cancelled)

pub returns-clause-unshown : goal.returns-clause-unshown
unfolding reckoning
returns-clause-unshown c = λ law.
    one_none (sym (ap taken_back (give_one _ _ _ law.gives gives_cancelling)) ∙ ap length law.shows.cancelled)
