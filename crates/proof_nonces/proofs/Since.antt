-- What a host asked of a node, and what the node told since, stays with further entries at which nothing is sealed for it; and entries that are no new request seal nothing.
use Rattle.std.proofs.Common.{◌≡◌, ℕ, ◌&&◌, not, Bool, true, false, List, [], ◌∷◌, ◌++◌, refl, sym, ap, ◌∙◌, subst, append-nil, append_assoc}
use Rattle.std.specs.List.{AllByRecursion}
use Rattle.std.proofs.lemmas.Bool.{both_ways}
use Rattle.zw_base.proofs.Each.{all-weaker}
use Rattle.s0_crypto.specs.declared.key_pair.Keys.{Keys}
use Rattle.serial_frame.specs.Frame.{FrameParts}
use Rattle.serial_frame.specs.Items.{unit_text}
use Rattle.serial_frame.specs.declared.item.Item.{Item}
use Rattle.serial_frame.specs.declared.unit.Unit.{Unit as LineUnit}
use Rattle.serial_frame.specs.declared.unit.Unit.TheVariants.{Ack, Nak, Framed}
use Rattle.zw_words.specs.declared.side.Side.TheVariants.{Host, Chip}
use Rattle.zw_text.specs.declared.entry.Entry.{Entry}
use Rattle.zw_text.specs.declared.entry.Entry.TheVariants as entry
use Rattle.law_transcript.specs.Lists.{EachAfter}
use Rattle.law_transcript.specs.Units.{Carried, sending_in}
use Rattle.proof_notes.specs.law_time.Judged.{is_data}
use Rattle.proof_notes.specs.law_time.Requests.{asked, is_copy, is_new}
use Rattle.host_model.specs.Events.{HostEvent}
use Rattle.host_model.specs.State.{HostState}
use Rattle.host_model.specs.Outs.{answer_to, answers}
use Rattle.host_model.specs.declared.out.HostOut.TheVariants.{Write}
use Rattle.proof_notes.proofs.proof_requests_Telling.{IsQuiet}
use Rattle.proof_notes.specs.proof_known.proof_alone.Steps.{AreTold, DidNotCome, IsOfOthers, IsOfUnit}
use Rattle.proof_notes.proofs.Events.{answers_are}
use Rattle.proof_notes.proofs.Lists.{each-append}
use Rattle.proof_notes.proofs.Parts.{item_told, unit_told}
use Rattle.proof_nonces.specs.Sealing.{HasAsked, IsSealedSo, IsToldSince, MaySeal, SealsNothing, is_sealed}

-- ---- further entries

pub asked_on : (node : ℕ) (past told : List Entry) → EachAfter (SealsNothing node) past told → HasAsked node past → HasAsked node (past ++ told)
asked_on node past told none asks =
    let upto : List Entry = asks.before ++ entry.Written Host asks.unit ∷ [] in
    record {
      before = asks.before;
      unit = asks.unit;
      since = asks.since ++ told;
      are = ap (λ (l : List Entry). l ++ told) asks.are ∙ append_assoc upto asks.since told;
      new = asks.new;
      asks = asks.asks;
      unused = each-append (SealsNothing node) upto asks.since told asks.unused (subst (λ (l : List Entry). EachAfter (SealsNothing node) l told) asks.are none);
    }

pub told_on : (keys : Keys) (node : ℕ) (upto since told : List Entry) (nonce : List ℕ) → IsToldSince keys node upto since nonce → IsToldSince keys node upto (since ++ told) nonce
told_on keys node upto since told nonce was = record {
  first = was.first;
  later = was.later ++ told;
  are = ap (λ (l : List Entry). l ++ told) was.are ∙ append_assoc was.first was.later told;
  one = was.one;
  brought = was.brought;
  of = was.of;
  tells = was.tells;
}

pub sealed_on : (keys : Keys) (past told : List Entry) (carried : Carried) → EachAfter (SealsNothing carried.node) past told → IsSealedSo keys past carried → IsSealedSo keys (past ++ told) carried
unfolding asked_on
sealed_on keys past told carried none so = record {
  question = asked_on carried.node past told none so.question;
  own = so.own;
  nonce = so.nonce;
  text = so.text;
  own_eight = so.own_eight;
  seals = so.seals;
  told = told_on keys carried.node (so.question.before ++ entry.Written Host so.question.unit ∷ []) so.question.since told so.nonce so.told;
}

-- ---- entries that are no new request

abbrev pub NoRequest : Entry → Type 0
NoRequest (entry.Written Host unit) = is_data unit ≡ false
NoRequest e = Unit {0}

pub not_new : (past : List Entry) (unit : List ℕ) → is_data unit ≡ false → is_new (asked past) unit ≡ false
not_new past unit none = ap (λ (b : Bool). b && not (is_copy (asked past) unit)) none

quiet_nothing : (node : ℕ) (past : List Entry) (e : Entry) → NoRequest e → SealsNothing node past e
quiet_nothing node past (entry.Written Host unit) none = λ new. absurd (both_ways (is_new (asked past) unit) (not_new past unit none) new)
quiet_nothing node past e none = tt

quiet_may : (keys : Keys) (past : List Entry) (e : Entry) → NoRequest e → MaySeal keys past e
quiet_may keys past (entry.Written Host unit) none = λ new. absurd (both_ways (is_new (asked past) unit) (not_new past unit none) new)
quiet_may keys past e none = tt

pub all_nothing : (node : ℕ) (past told : List Entry) → AllByRecursion NoRequest told → EachAfter (SealsNothing node) past told
all_nothing node past [] all = tt
all_nothing node past (e ∷ told) all = (quiet_nothing node past e all.0, all_nothing node (past ++ e ∷ []) told all.1)

pub all_may : (keys : Keys) (past told : List Entry) → AllByRecursion NoRequest told → EachAfter (MaySeal keys) past told
all_may keys past [] all = tt
all_may keys past (e ∷ told) all = (quiet_may keys past e all.0, all_may keys (past ++ e ∷ []) told all.1)

-- ---- which are none

quiet_none : (e : Entry) → IsQuiet e → NoRequest e
quiet_none (entry.Written Host unit) quiet = ap is_data quiet
quiet_none e quiet = tt

pub quiets_none : (told : List Entry) → AllByRecursion IsQuiet told → AllByRecursion NoRequest told
quiets_none told all = all-weaker IsQuiet NoRequest quiet_none told all

mark_none : (e : Entry) → IsOfUnit e → NoRequest e
mark_none (entry.Written side unit) mark = absurd mark
mark_none e mark = tt

pub marks_none : (marks : List Entry) → AllByRecursion IsOfUnit marks → AllByRecursion NoRequest marks
marks_none marks all = all-weaker IsOfUnit NoRequest mark_none marks all

pub others_none : (e : Entry) → IsOfOthers e → NoRequest e
others_none (entry.Written side unit) of = absurd of
others_none e of = tt

pub missed_none : (marks : List Entry) → DidNotCome marks → AllByRecursion NoRequest marks
missed_none (entry.Dropped Chip ∷ []) did = (tt, tt)
missed_none (entry.Overrun Chip ∷ []) did = (tt, tt)
missed_none (entry.Garbled Chip unit ∷ []) did = (tt, tt)
missed_none (entry.Garbled Chip unit ∷ entry.Overrun Chip ∷ []) did = (tt, (tt, tt))
missed_none marks did = absurd did

pub answers_none : (h : HostState) (event : HostEvent) → AllByRecursion NoRequest (answers h event)
answers_none h event = answers_are NoRequest (record { accepted = λ command node. tt; taken_back = λ command. tt }) h event

answer_none : (unit : LineUnit) (told : List Entry) → is_data (unit_text unit) ≡ false → AreTold (Write unit ∷ []) told → AllByRecursion NoRequest told
answer_none unit told none are = unit_told NoRequest mark_none unit told none are

-- what answers an item
pub item_none : (item : Item) (told : List Entry) → AreTold (answer_to item) told → AllByRecursion NoRequest told
item_none item told are = item_told (AllByRecursion NoRequest) (λ l is. answer_none Ack l refl is) (λ l is. answer_none Nak l refl is) tt item told are

-- ---- a unit that is written

-- after it stands what became of it
pub record IsWritten (unit : List ℕ) (told : List Entry) : Type 0 where
  pub marks : List Entry
  pub are : told ≡ entry.Written Host unit ∷ marks
  pub none : AllByRecursion NoRequest marks

pub written_so : (f : FrameParts) (told : List Entry) → AreTold (Write (Framed f) ∷ []) told → IsWritten (unit_text (Framed f)) told
written_so f told (marks, rest, is, all, none) =
    let unit : List ℕ = unit_text (Framed f) in
    record {
      marks = marks;
      are = is ∙ ap (λ (l : List Entry). entry.Written Host unit ∷ (marks ++ l)) none ∙ ap (λ (l : List Entry). entry.Written Host unit ∷ l) (append-nil marks);
      none = marks_none marks all;
    }

pub unit_nothing : (node : ℕ) (past told : List Entry) (unit : List ℕ) → IsWritten unit told
    → (is_new (asked past) unit ≡ true → AllByRecursion (λ carried. carried.node ≡ node → is_sealed carried.payload ≡ false) (sending_in unit)) → EachAfter (SealsNothing node) past told
unit_nothing node past told unit written none =
    subst (λ (l : List Entry). EachAfter (SealsNothing node) past l) (sym written.are) (none, all_nothing node (past ++ entry.Written Host unit ∷ []) written.marks written.none)

pub unit_may : (keys : Keys) (past told : List Entry) (unit : List ℕ) → IsWritten unit told
    → (is_new (asked past) unit ≡ true → AllByRecursion (λ carried. is_sealed carried.payload ≡ true → IsSealedSo keys past carried) (sending_in unit)) → EachAfter (MaySeal keys) past told
unit_may keys past told unit written may =
    subst (λ (l : List Entry). EachAfter (MaySeal keys) past l) (sym written.are) (may, all_may keys (past ++ entry.Written Host unit ∷ []) written.marks written.none)
