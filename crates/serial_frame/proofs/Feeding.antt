-- What a decoder's fields say of its unfinished frame.
use Rattle.std.proofs.Common.{◌≡◌, ℕ, ◌≤◌, List, [], ◌∷◌, ◌++◌, length, take, refl, ap, sym, ◌∙◌, subst, inl, inr}
use Rattle.std.proofs.lemmas.List.{length-take-le, append-nil}
use Rattle.std.specs.Prelude.{◌≢◌}
use Rattle.serial_frame.specs.Items.{ItemText}
use Rattle.serial_frame.specs.Stream.{IsUnfinished, Reads, Rest, Feeds, GoesOn, piece_of}
use Rattle.serial_frame.specs.declared.item.Item.{Item}
use Rattle.serial_frame.proofs.First.{one_reading, whole_not_unfinished}
use Rattle.serial_frame.proofs.Streams.{cut_twice, goes-feed}

-- all of the piece is of the unfinished frame
pub feeds_part : (old new : Rest) (held piece : List ℕ) → held ≡ old.bytes → IsUnfinished (held ++ piece)
    → new ≡ record { bytes = old.bytes ++ piece; ticks = old.ticks } → Feeds old piece new []
feeds_part old new held piece same unfinished e =
    let bytes : old.bytes ++ piece ≡ new.bytes = sym (ap (λ (r : Rest). r.bytes) e) in
    record {
      reads = (subst (λ (t : List ℕ). IsUnfinished t) (ap (λ (t : List ℕ). t ++ piece) same ∙ bytes) unfinished, bytes);
      ticks = ap (λ (r : Rest). r.ticks) e;
    }

-- an item ends in the piece, and others may
pub feeds_whole : (old new : Rest) (held piece : List ℕ) (item : Item) (rest tail : List ℕ) (added : List Item) (text : List ℕ)
    → held ≡ old.bytes → new ≡ record { bytes = tail; ticks = 0 } → ItemText item text → held ++ piece ≡ text ++ rest → Reads rest added tail
    → Feeds old piece new (item ∷ added)
feeds_whole old new held piece item rest tail added text same e whole cut reads =
    record {
      reads = (text, rest, whole, ap (λ (t : List ℕ). t ++ piece) (sym same) ∙ cut, subst (λ (t : List ℕ). Reads rest added t) (sym (ap (λ (r : Rest). r.bytes) e)) reads);
      ticks = ap (λ (r : Rest). r.ticks) e;
    }

pub nothing_held : (len : ℕ) (held bytes : List ℕ) → take len held ≡ bytes → len ≡ 0 → bytes ≡ []
nothing_held len held bytes e none = sym e ∙ ap (λ (n : ℕ). take n held) none

pub something_held : (len : ℕ) (held bytes : List ℕ) → take len held ≡ bytes → len ≤ length held → (len ≡ 0 → ⊥) → bytes ≢ []
something_held len held bytes e room some none =
    let none_taken : length (take len held) ≡ 0 = ap length (e ∙ none) in
    some (sym (length-take-le len held room) ∙ none_taken)

-- no other items are added
pub only_added : (old : Rest) (piece : List ℕ) (new : Rest) (added before after : List Item) → after ≡ before ++ added → Feeds old piece new added
    → (items : List Item) (rest : List ℕ) → Reads (old.bytes ++ piece) items rest → (after ≡ before ++ items) × (new.bytes ≡ rest)
only_added old piece new added before after e feeds items rest reads =
    let same = one_reading (old.bytes ++ piece) added items new.bytes rest feeds.reads reads in
    (e ∙ ap (λ (t : List Item). before ++ t) same.0, same.1)

-- a prefix of the piece ends the item
pub item_prefix : (old new : Rest) (held piece text rest : List ℕ) (item : Item) → held ≡ old.bytes → IsUnfinished held → ItemText item text
    → held ++ piece ≡ text ++ rest → new ≡ record { bytes = []; ticks = 0 } → (prefix : List ℕ) × (piece ≡ prefix ++ rest) × Feeds old prefix new (item ∷ []) × GoesOn old (piece_of prefix) new (item ∷ [])
item_prefix old new held piece text rest item same unfinished whole cut e =
    elim (cut_twice held piece text rest cut) [
      | inl w ↦
          (let feeds = feeds_whole old new held w.between item [] [] [] text same e whole (sym w.longer ∙ sym (append-nil text)) (tt, refl) in
          (w.between, w.left, feeds, goes-feed old w.between new (item ∷ []) feeds))
      | inr w ↦ absurd (whole_not_unfinished item text w.between whole (subst (λ (t : List ℕ). IsUnfinished t) w.longer unfinished))
    ]
