-- The items that end in bytes are those that came, by all bytes of each, and what is refused answers no frame.
use Rattle.std.proofs.Common.{◌≡◌, ℕ, ◌+◌, Bool, true, false, List, [], ◌∷◌, ◌++◌, drop, length, take, refl, sym, ap, ap₂, ◌∙◌, length-append}
use Rattle.std.proofs.lemmas.Slice.Eq.{bytes_eq-Decides}
use Rattle.std.specs.Prelude.{◌≢◌, ◌||◌, bytes_eq}
use Rattle.serial_frame.specs.declared.unit.TheConstants.{ACK, NAK, CAN}
use Rattle.serial_frame.specs.Items.{ItemText, RefusedText}
use Rattle.serial_frame.specs.Stream.{Reads}
use Rattle.serial_frame.specs.declared.item.Item.{Item}
use Rattle.serial_frame.specs.declared.item.Item.TheVariants.{Good, Refused}
use Rattle.serial_frame.specs.declared.item.Refusal.{Refusal}
use Rattle.serial_frame.specs.declared.item.Refusal.TheVariants.{Aborted, BadKind, BadLength, BadSum, Stray}
use Rattle.zw_text.specs.declared.entry.Entry.{Entry}
use Rattle.law_time.specs.Requests.{is_answer}
use Rattle.proof_asking.specs.proof_line.Arrivals.{AreTexts}
use Rattle.proof_replay.specs.Heard.{came_as, came_of, item_text}
use Rattle.proof_replay.proofs.LineHeard.{came_so}

-- ---- the bytes of an item

take_whole : (xs ys : List ℕ) → take (length xs) (xs ++ ys) ≡ xs
take_whole [] ys = refl
take_whole (x ∷ xs) ys = ap (λ (l : List ℕ). x ∷ l) (take_whole xs ys)

drop_whole : (xs ys : List ℕ) → drop (length xs) (xs ++ ys) ≡ ys
drop_whole [] ys = refl
drop_whole (x ∷ xs) ys = drop_whole xs ys

-- a frame, by its length
frame_text : (counted more : List ℕ) (sum : ℕ) → take (length counted + 1) ((counted ++ sum ∷ []) ++ more) ≡ counted ++ sum ∷ []
frame_text counted more sum =
    ap (λ (n : ℕ). take n ((counted ++ sum ∷ []) ++ more)) (sym (length-append counted (sum ∷ []))) ∙ take_whole (counted ++ sum ∷ []) more

refused_is : (refusal : Refusal) (text more : List ℕ) → RefusedText refusal text → item_text (Refused refusal) (text ++ more) ≡ text
refused_is (Stray byte) text more (none, is) = sym is
refused_is (BadLength count) text more (few, is) = sym is
refused_is (BadSum want got) text more (counted, whole, right, wrong, is) =
    ap (λ (l : List ℕ). item_text (Refused (BadSum want got)) (l ++ more)) is ∙ ap (λ (l : List ℕ). 1 ∷ (length counted + 1) ∷ l) (frame_text counted more got) ∙ sym is
refused_is (BadKind kind) text more (rest, large, whole, is) =
    let counted : List ℕ = kind ∷ rest in
    ap (λ (l : List ℕ). item_text (Refused (BadKind kind)) (l ++ more)) is ∙ ap (λ (l : List ℕ). 1 ∷ (length counted + 1) ∷ l) (frame_text counted more _) ∙ sym is
refused_is Aborted text more none = absurd none

text_is : (item : Item) (text more : List ℕ) → ItemText item text → item_text item (text ++ more) ≡ text
text_is (Good unit) text more is = sym is.1
text_is (Refused refusal) text more is = refused_is refusal text more is

-- ---- all of them

pub came_texts : (items : List Item) (stream rest : List ℕ) → Reads stream items rest → (texts : List (List ℕ)) × AreTexts items texts × (came_of items stream ≡ came_so items texts)
came_texts [] stream rest reads = ([], tt, refl)
came_texts (item ∷ items) stream rest (text, more, is, parts, reads) =
    let (texts, are, came) = came_texts items more rest reads in
    let same : item_text item stream ≡ text = ap (λ (l : List ℕ). item_text item l) parts ∙ text_is item text more is in
    let left : drop (length (item_text item stream)) stream ≡ more =
    ap₂ (λ (t l : List ℕ). drop (length t) l) same parts ∙ drop_whole text more in
    (text ∷ texts, (is, are), ap₂ (λ (t l : List ℕ). came_as item t ++ came_of items l) same left ∙ ap (λ (l : List Entry). came_as item text ++ l) came)

-- ---- what is refused answers no frame

not_that : (byte other : ℕ) → byte ≢ other → bytes_eq (byte ∷ []) (other ∷ []) ≡ false
not_that byte other differ = by (bytes_eq (byte ∷ []) (other ∷ [])) refl
  where
    by : (b : Bool) → bytes_eq (byte ∷ []) (other ∷ []) ≡ b → bytes_eq (byte ∷ []) (other ∷ []) ≡ false
    by false is = is
    by true is =
        let same : byte ∷ [] ≡ other ∷ [] = (bytes_eq-Decides (byte ∷ []) (other ∷ [])).0 is in
        let is_that : byte ≡ other = cc in
        absurd (differ is_that)

pub refused_answers : (refusal : Refusal) (text : List ℕ) → RefusedText refusal text → is_answer text ≡ false
refused_answers (Stray byte) text (none, is) =
    ap (λ (l : List ℕ). is_answer l) is
    ∙ ap (λ (b : Bool). b || bytes_eq (byte ∷ []) (NAK ∷ []) || bytes_eq (byte ∷ []) (CAN ∷ [])) (not_that byte ACK none.1)
    ∙ ap (λ (b : Bool). b || bytes_eq (byte ∷ []) (CAN ∷ [])) (not_that byte NAK none.2) ∙ not_that byte CAN none.3
refused_answers (BadLength count) text (few, is) = ap (λ (l : List ℕ). is_answer l) is
refused_answers (BadSum want got) text (counted, whole, right, wrong, is) = ap (λ (l : List ℕ). is_answer l) is
refused_answers (BadKind kind) text (rest, large, whole, is) = ap (λ (l : List ℕ). is_answer l) is
refused_answers Aborted text none = absurd none
