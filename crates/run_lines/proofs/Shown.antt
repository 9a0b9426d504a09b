-- The text of the pieces of entries.
use Rattle.std.proofs.Common.{◌≡◌, ℕ, Bool, true, false, not, List, [], ◌∷◌, ◌++◌, refl, sym, ap, ◌∙◌, subst, arith}
use Rattle.std.specs.List.{flat_map}
use Rattle.std.proofs.lemmas.Grind.{flat_map-append}
use Rattle.zw_text.specs.Entry.{is_loud, transcript_text}
use Rattle.zw_text.specs.declared.entry.Entry.{Entry}
use Rattle.run_lines.specs.Writing.{text_of}
use Rattle.run_lines.specs.Pieces.{entry_line, piece_of, pieces_of, shown_of}

pub pieces-append : (quiet : Bool) (a b : List Entry) → pieces_of quiet (a ++ b) ≡ pieces_of quiet a ++ pieces_of quiet b
pieces-append quiet a b = flat_map-append (piece_of quiet) a b

-- one entry before others
in_prefix : (entry : Entry) (entries : List Entry) (loud : Bool) → is_loud entry ≡ loud → text_of (pieces_of true entries) ≡ transcript_text (shown_of true entries)
    → text_of (pieces_of true (entry ∷ entries)) ≡ transcript_text (shown_of true (entry ∷ entries))
in_prefix entry entries true is more = rw is more
in_prefix entry entries false is more = rw is (ap (λ (text : List ℕ). entry_line entry ++ text) more)

-- the text of the pieces is that of what is shown
pub pieces_text : (quiet : Bool) (entries : List Entry) → text_of (pieces_of quiet entries) ≡ transcript_text (shown_of quiet entries)
pieces_text true [] = refl
pieces_text true (entry ∷ entries) = in_prefix entry entries (is_loud entry) refl (pieces_text true entries)
pieces_text false [] = refl
pieces_text false (entry ∷ entries) = ap (λ (text : List ℕ). entry_line entry ++ text) (pieces_text false entries)
