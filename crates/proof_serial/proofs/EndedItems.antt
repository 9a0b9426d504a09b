-- Bytes that end items: a prefix of them ends a prefix of the items, and the text of an item after them ends that item.
use Rattle.std.proofs.Common.{◌≡◌, ℕ, List, [], ◌∷◌, ◌++◌, length, refl, ap, ap₂, sym, ◌∙◌, subst, append_assoc, arith}
use Rattle.std.specs.Prelude.{take, drop}
use Rattle.std.proofs.lemmas.List.{append-nil, take-append-drop, take_all}
use Rattle.serial_frame.specs.Items.{ItemText}
use Rattle.serial_frame.specs.Stream.{IsUnfinished, Reads, Rest, Feeds, no_rest, ticks_after}
use Rattle.serial_frame.specs.declared.item.Item.{Item}
use Rattle.serial_frame.proofs.First.{one_item, one_reading, whole_not_unfinished}
use Rattle.serial_frame.proofs.Streams.{no_ticks, same_rest}

-- items are added after
pub reads_more : (bytes : List ℕ) (items : List Item) (text : List ℕ) (item : Item) → Reads bytes items [] → ItemText item text
    → Reads (bytes ++ text) (items ++ item ∷ []) []
reads_more bytes [] text item reads is =
    (text, [], is, ap (λ (t : List ℕ). t ++ text) reads.1 ∙ sym (append-nil text), (tt, refl))
reads_more bytes (one ∷ items) text item (prefix, more, whole, e, reads) is =
    (prefix, more ++ text, whole, ap (λ (t : List ℕ). t ++ text) e ∙ append_assoc prefix more text, reads_more more items text item reads is)

-- what is left when a prefix of the bytes was taken
pub record Left (items judged : List Item) (rest more : List ℕ) : Type 0 where
  pub left : List Item
  pub parts : items ≡ judged ++ left
  pub reads : Reads (rest ++ more) left []

pub reads_left : (bytes more : List ℕ) (judged items : List Item) (rest : List ℕ) → Reads bytes judged rest → Reads (bytes ++ more) items [] → Left items judged rest more
reads_left bytes more [] items rest prefix all =
    record { left = items; parts = refl; reads = subst (λ (t : List ℕ). Reads (t ++ more) items []) prefix.1 all }
reads_left bytes more (one ∷ judged) [] rest (text, later, whole, e, reads) all =
    let same : text ++ (later ++ more) ≡ [] = sym (append_assoc text later more) ∙ ap (λ (t : List ℕ). t ++ more) (sym e) ∙ all.1 in
    absurd (whole_not_unfinished one text (later ++ more) whole (subst IsUnfinished (sym same) tt))
reads_left bytes more (one ∷ judged) (two ∷ items) rest (text, later, whole, e, reads) (text', later', whole', e', reads') =
    let cut : text ++ (later ++ more) ≡ text' ++ later' = sym (append_assoc text later more) ∙ ap (λ (t : List ℕ). t ++ more) (sym e) ∙ e' in
    let same = one_item one two text text' (later ++ more) later' whole whole' cut in
    let rest_left = reads_left later more judged items rest reads (subst (λ (t : List ℕ). Reads t items []) (sym same.1) reads') in
    record {
      left = rest_left.left;
      parts = ap₂ (λ (i : Item) (l : List Item). i ∷ l) (sym same.0) rest_left.parts;
      reads = rest_left.reads;
    }

-- ---- with what is unfinished

ticks_snoc : (ticks : ℕ) (items : List Item) (item : Item) → ticks_after ticks (items ++ item ∷ []) ≡ 0
ticks_snoc ticks [] item = refl
ticks_snoc ticks (one ∷ items) item = refl

-- the text of one more item
pub feeds_more : (rest : Rest) (bytes : List ℕ) (items : List Item) (text : List ℕ) (item : Item) → Feeds rest bytes no_rest items → ItemText item text
    → Feeds rest (bytes ++ text) no_rest (items ++ item ∷ [])
feeds_more rest bytes items text item feeds is =
    record {
      reads = subst (λ (t : List ℕ). Reads t (items ++ item ∷ []) []) (append_assoc rest.bytes bytes text) (reads_more (rest.bytes ++ bytes) items text item feeds.reads is);
      ticks = sym (ticks_snoc rest.ticks items item);
    }

ticks_left : (ticks new : ℕ) (judged left : List Item) → new ≡ ticks_after ticks judged → 0 ≡ ticks_after ticks (judged ++ left) → 0 ≡ ticks_after new left
ticks_left ticks new [] left e all = all ∙ ap (λ (t : ℕ). ticks_after t left) (sym e)
ticks_left ticks new (one ∷ judged) left e all = sym (ap (λ (t : ℕ). ticks_after t left) e ∙ no_ticks left)

-- a prefix of the bytes was taken
pub record LeftOf (new : Rest) (bytes : List ℕ) (items judged : List Item) : Type 0 where
  pub left : List Item
  pub parts : items ≡ judged ++ left
  pub feeds : Feeds new bytes no_rest left

feeds_parts : (old new : Rest) (prefix more : List ℕ) (items judged : List Item) → Feeds old prefix new judged → Feeds old (prefix ++ more) no_rest items → LeftOf new more items judged
feeds_parts old new prefix more items judged taken all =
    let reads : Reads ((old.bytes ++ prefix) ++ more) items [] = subst (λ (t : List ℕ). Reads t items []) (sym (append_assoc old.bytes prefix more)) all.reads in
    let l = reads_left (old.bytes ++ prefix) more judged items new.bytes taken.reads reads in
    record {
      left = l.left;
      parts = l.parts;
      feeds = record {
        reads = l.reads;
        ticks = ticks_left old.ticks new.ticks judged l.left taken.ticks (all.ticks ∙ ap (λ (t : List Item). ticks_after old.ticks t) l.parts);
      };
    }

pub feeds_left : (old new : Rest) (count : ℕ) (bytes : List ℕ) (items judged : List Item) → Feeds old (take count bytes) new judged → Feeds old bytes no_rest items
    → LeftOf new (drop count bytes) items judged
feeds_left old new count bytes items judged taken all =
    feeds_parts old new (take count bytes) (drop count bytes) items judged taken (subst (λ (t : List ℕ). Feeds old t no_rest items) (sym (take-append-drop count bytes)) all)

-- all of the bytes are taken: all items are judged, and nothing is unfinished
pub record AllOf (new : Rest) (items judged : List Item) : Type 0 where
  pub all : judged ≡ items
  pub rest : new ≡ no_rest

pub feeds_all : (old new : Rest) (bytes : List ℕ) (items judged : List Item) → Feeds old (take (length bytes) bytes) new judged → Feeds old bytes no_rest items
    → AllOf new items judged
feeds_all old new bytes items judged taken all =
    let reads : Reads (old.bytes ++ bytes) judged new.bytes = subst (λ (t : List ℕ). Reads (old.bytes ++ t) judged new.bytes) (take_all (length bytes) bytes (omega arith)) taken.reads in
    let same = one_reading (old.bytes ++ bytes) judged items new.bytes [] reads all.reads in
    record {
      all = same.0;
      rest = same_rest new no_rest same.1 (taken.ticks ∙ ap (λ (l : List Item). ticks_after old.ticks l) same.0 ∙ sym all.ticks);
    }
