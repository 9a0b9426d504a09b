-- Lines that are added item by item.
use Rattle.std.proofs.Common.{◌≡◌, ℕ, length, List, [], ◌∷◌, ◌++◌, Some, None, refl, sym, ap, ◌∙◌, subst, append_assoc, append-nil}
use Rattle.std.proofs.lemmas.Grind.{flat_map-append}
use Rattle.zw_words.specs.declared.side.Side.{Side}
use Rattle.serial_frame.specs.Stream.{Reads, Rest, FeedsOne}
use Rattle.serial_frame.specs.declared.item.Item.{Item}
use Rattle.unit_report.specs.Named.{item_line, lines_text, AreOfItems, Shows, Named, rest_lines}
use Rattle.unit_report.specs.Report.{AddsItems}

pub lines_text-append : (first later : List (List ℕ)) → lines_text (first ++ later) ≡ lines_text first ++ lines_text later
lines_text-append first later = flat_map-append (λ (line : List ℕ). line ++ 10 ∷ []) first later

-- the lines of items after those of others
pub of_items-append : (side : Side) (items others : List Item) (lines more : List (List ℕ)) → AreOfItems side items lines → AreOfItems side others more
    → AreOfItems side (items ++ others) (lines ++ more)
of_items-append side [] others lines more none p = subst (λ (ls : List (List ℕ)). AreOfItems side others (ls ++ more)) (sym none) p
of_items-append side (item ∷ items) others lines more one p = (
  one.0,
  one.1 ++ more,
  one.2,
  of_items-append side items others one.1 more one.3 p,
  ap (λ (ls : List (List ℕ)). ls ++ more) one.4 ∙ append_assoc (item_line item ∷ one.0) one.1 more,
)

-- an item that ends in a piece, and what the rest of it reads as
reads-one : (held prefix rest left : List ℕ) (item : Item) (items : List Item) (end : List ℕ) → Reads (held ++ prefix) (item ∷ []) rest
    → Reads (rest ++ left) items end → Reads (held ++ (prefix ++ left)) (item ∷ items) end
reads-one held prefix rest left item items end one more = (
  one.0,
  rest ++ left,
  one.2,
  sym (append_assoc held prefix left) ∙ ap (λ (b : List ℕ). b ++ left) (one.3 ∙ ap (λ (m : List ℕ). one.0 ++ m) one.4.1) ∙ append_assoc one.0 rest left,
  more,
)

-- the lines of the first items of the bytes were added, and these bytes are still to be split
pub record SoFar (side : Side) (bytes old new pending : List ℕ) : Type 0 where
  pub items : List Item
  pub above : List (List ℕ)
  pub of_items : AreOfItems side items above
  pub added : new ≡ old ++ lines_text above
  pub reads : (later : List Item) (rest : List ℕ) → Reads pending later rest → Reads bytes (items ++ later) rest

pub so_far-more : (side : Side) (bytes old new text left piece : List ℕ) (held next : Rest) (item : Item) → SoFar side bytes old new (held.bytes ++ piece)
    → FeedsOne held piece next (Some item) left → Shows (AreOfItems side (item ∷ [])) text → SoFar side bytes old (new ++ text) (next.bytes ++ left)
so_far-more side bytes old new text left piece held next item s fed shown = record {
  items = s.items ++ item ∷ [];
  above = s.above ++ shown.lines;
  of_items = of_items-append side s.items (item ∷ []) s.above shown.lines s.of_items shown.are;
  added = ap (λ (t : List ℕ). t ++ text) s.added ∙ append_assoc old (lines_text s.above) text
      ∙ ap (λ (t : List ℕ). old ++ t) (ap (λ (t : List ℕ). lines_text s.above ++ t) shown.text_is ∙ sym (lines_text-append s.above shown.lines));
  reads = λ later rest reads.
      subst (λ (all : List Item). Reads bytes all rest) (sym (append_assoc s.items (item ∷ []) later))
      (s.reads (item ∷ later) rest
      (subst (λ (p : List ℕ). Reads (held.bytes ++ p) (item ∷ later) rest) (sym fed.1)
      (reads-one held.bytes fed.0 next.bytes left item later rest fed.2.reads reads)));
}

pub so_far-end : (side : Side) (bytes old new left piece : List ℕ) (held next : Rest) (count : ℕ) → SoFar side bytes old new (held.bytes ++ piece)
    → FeedsOne held piece next None left → count ≡ length next.bytes → AddsItems side bytes old new count
so_far-end side bytes old new left piece held next count s fed counted = record {
  items = s.items;
  rest = next.bytes;
  above = s.above;
  reads = subst (λ (all : List Item). Reads bytes all next.bytes) (append-nil s.items) (s.reads [] next.bytes fed.1.reads);
  of_items = s.of_items;
  left_is = counted;
  added = s.added;
}

-- the lines of bytes, after those of their items
pub named-all : (side : Side) (bytes new text : List ℕ) (count : ℕ) → AddsItems side bytes [] new count → text ≡ lines_text (rest_lines count)
    → Shows (Named side bytes) (new ++ text)
named-all side bytes new text count a is = record {
  lines = a.above ++ rest_lines (length a.rest);
  are = record { items = a.items; rest = a.rest; above = a.above; reads = a.reads; of_items = a.of_items; lines_are = refl };
  text_is = ap (λ (t : List ℕ). t ++ text) a.added
      ∙ ap (λ (t : List ℕ). lines_text a.above ++ t) (is ∙ ap (λ (n : ℕ). lines_text (rest_lines n)) a.left_is)
      ∙ sym (lines_text-append a.above (rest_lines (length a.rest)));
}
