-- The texts of lines that are written with their line feeds.
use Rattle.std.proofs.Common.{◌≡◌, ◌≢◌, ℕ, zero, suc, List, [], ◌∷◌, ◌++◌, Some, None, Ok, Err, refl, sym, ap, ◌∙◌, subst, append_assoc, append-nil, codes}
use Rattle.std.specs.Prelude.{decimal}
use Rattle.std.specs.List.{join_with_byte}
use Rattle.zw_words.specs.declared.side.Side.{Side}
use Rattle.serial_frame.specs.declared.item.Item.{Item}
use Rattle.chip_functions.specs.declared.fault.BodyFault.{BodyFault}
use Rattle.chip_functions.specs.declared.fault.BodyFault.TheVariants.{UnknownFunction, Short, BadField, NoMemory}
use Rattle.unit_report.specs.Words.{body_words}
use Rattle.unit_report.specs.Named.{said, item_line, lines_text, AreOfItems, AreBelowItem, Shows, rest_lines, BodyReading, AreBelow, IsLineOf, form_of}

lines_text-one : (line : List ℕ) → lines_text (line ∷ []) ≡ line ++ 10 ∷ []
lines_text-one line = append-nil (line ++ 10 ∷ [])

pub rest-shown : (left : ℕ) (text : List ℕ) → left ≢ 0 → text ≡ codes "unfinished " ++ (decimal left ++ (10 ∷ [])) → text ≡ lines_text (rest_lines left)
rest-shown zero text some is = absurd (some refl)
rest-shown (suc left) text some is = is ∙ sym (lines_text-one (said (codes "unfinished" ∷ decimal (suc left) ∷ [])))

pub item-shown : (side : Side) (item : Item) (line below text : List ℕ) → line ≡ item_line item → Shows (AreBelowItem side item) below
    → text ≡ line ++ (10 ∷ below) → Shows (AreOfItems side (item ∷ [])) text
item-shown side item line below text is shown whole = record {
  lines = item_line item ∷ shown.lines;
  are = (shown.lines, [], shown.are, refl, sym (append-nil (item_line item ∷ shown.lines)));
  text_is = whole ∙ ap (λ (l : List ℕ). l ++ (10 ∷ below)) is ∙ ap (λ (b : List ℕ). item_line item ++ (10 ∷ b)) shown.text_is
      ∙ sym (append_assoc (item_line item) (10 ∷ []) (lines_text shown.lines));
}

pub below-none : (reading : BodyReading) (text : List ℕ) → reading ≡ Ok None → text ≡ codes "  body ok" ++ (10 ∷ []) → Shows (AreBelow reading) text
below-none reading text read is =
    subst (λ (r : BodyReading). Shows (AreBelow r) text) (sym read)
    (record { lines = said (codes "  body" ∷ codes "ok" ∷ []) ∷ []; are = refl; text_is = is })

pub below-payload : (reading : BodyReading) (payload line text : List ℕ) → reading ≡ Ok (Some payload) → IsLineOf (form_of payload) payload line
    → text ≡ codes "  body ok" ++ (10 ∷ (line ++ (10 ∷ []))) → Shows (AreBelow reading) text
below-payload reading payload line text read of is =
    subst (λ (r : BodyReading). Shows (AreBelow r) text) (sym read)
    (record {
      lines = said (codes "  body" ∷ codes "ok" ∷ []) ∷ line ∷ [];
      are = (line, of, refl);
      text_is = is ∙ ap (λ (l : List ℕ). codes "  body ok" ++ (10 ∷ l)) (sym (lines_text-one line));
    })

body_line : (fault : BodyFault) (words : List ℕ) → words ≡ join_with_byte 32 (body_words fault) → said (codes "  body" ∷ body_words fault) ≡ codes "  body " ++ words
body_line (UnknownFunction func) words is = ap (λ (w : List ℕ). codes "  body " ++ w) (sym is)
body_line (Short need got) words is = ap (λ (w : List ℕ). codes "  body " ++ w) (sym is)
body_line (BadField place) words is = ap (λ (w : List ℕ). codes "  body " ++ w) (sym is)
body_line NoMemory words is = ap (λ (w : List ℕ). codes "  body " ++ w) (sym is)

pub below-fault : (reading : BodyReading) (fault : BodyFault) (words text : List ℕ) → reading ≡ Err fault → words ≡ join_with_byte 32 (body_words fault)
    → text ≡ codes "  body " ++ (words ++ (10 ∷ [])) → Shows (AreBelow reading) text
below-fault reading fault words text read said_so is =
    subst (λ (r : BodyReading). Shows (AreBelow r) text) (sym read)
    (record {
      lines = said (codes "  body" ∷ body_words fault) ∷ [];
      are = refl;
      text_is = is ∙ sym (append_assoc (codes "  body ") words (10 ∷ [])) ∙ ap (λ (l : List ℕ). l ++ (10 ∷ [])) (sym (body_line fault words said_so))
          ∙ sym (lines_text-one (said (codes "  body" ∷ body_words fault)));
    })
