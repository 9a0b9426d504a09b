-- What becomes of the bytes that a store holds.
use Rattle.std.proofs.Common.{◌≡◌, ℕ, ◌+◌, List, [], ◌∷◌, ◌++◌, length, take, drop, refl, sym, ap, ◌∙◌, subst, arith, length-append}
use Rattle.std.specs.Prelude.{Option, Some, None}
use Rattle.std.specs.Io.KnownBytes.{append_known}
use Rattle.std.proofs.Math.Seq.{take-append_seam, take-length}
use Rattle.std.proofs.lemmas.List.{take-append-le, length-take-le, append-nil, take-append-drop}
use Rattle.file_keeper.specs.Lines.{line_of, lines_of}
use Rattle.file_keeper.specs.Holding.{Holds, IsWithin, cut_known, AppendsSome, HasLines, IsKept}
use Rattle.file_keeper.proofs.Splits.{lines_of-more}

-- a prefix of the bytes was added, or nothing was
pub prefix_added : (old new bytes : List ℕ) (n : ℕ) → new ≡ old ++ take n bytes → AppendsSome (Some old) (Some new) bytes
prefix_added old new bytes n e = record { prefix = take n bytes; rest = drop n bytes; parts = sym (take-append-drop n bytes); added = ap Some e }

pub nothing_added : (old new bytes : List ℕ) → new ≡ old → AppendsSome (Some old) (Some new) bytes
nothing_added old new bytes e = record { prefix = []; rest = bytes; parts = refl; added = ap Some (e ∙ sym (append-nil old)) }

-- what was cut to a size holds so many bytes
pub within_cut : (size : ℕ) (old new : Option (List ℕ)) → IsWithin size old → new ≡ cut_known size old → IsWithin size new
within_cut size None new within cut = rw cut tt
within_cut size (Some held) new within cut = rw cut (rw (length-take-le size held within) (omega arith))

-- and more are at least as many
pub within_added : (size : ℕ) (old new : Option (List ℕ)) (bytes : List ℕ) → IsWithin size old → AppendsSome old new bytes → IsWithin size new
within_added size None new bytes within some = rw some.added tt
within_added size (Some held) new bytes within some = rw some.added (rw (length-append held some.prefix) (omega (arith, within)))

-- cut to that size again it is as it was after the first cut
pub cut_again : (size : ℕ) (old cut added new : Option (List ℕ)) (bytes : List ℕ) → IsWithin size old → cut ≡ cut_known size old → AppendsSome cut added bytes
    → new ≡ cut_known size added → new ≡ cut_known size old
cut_again size None cut added new bytes within first some again = rw (again, some.added, first) refl
cut_again size (Some held) cut added new bytes within first some again =
    let len : length (take size held) ≡ size = length-take-le size held within in
    let back : take size (take size held ++ some.prefix) ≡ take size held = take-append-le size (take size held) some.prefix (omega (arith, len)) ∙ take_itself size (take size held) len in
    rw (again, some.added, first) (ap Some back)
  where
    take_itself : (n : ℕ) (l : List ℕ) → length l ≡ n → take n l ≡ l
    take_itself n l e = subst (λ k. take k l ≡ l) e (take-length l)

-- what is held begins with the lines of records
pub size_within : (held : Option (List ℕ)) (records : List (List ℕ)) (torn : List ℕ) (size : ℕ) → Holds held (lines_of records ++ torn) → size ≡ length (lines_of records) → IsWithin size held
size_within None records torn size holds is = tt
size_within (Some bytes) records torn size holds is = rw (holds, length-append (lines_of records) torn) (omega (arith, is))

-- cut to their size it is those lines
pub cut_to_lines : (held new : Option (List ℕ)) (records : List (List ℕ)) (torn : List ℕ) (size : ℕ) → Holds held (lines_of records ++ torn) → size ≡ length (lines_of records)
    → new ≡ cut_known size held → Holds new (lines_of records)
cut_to_lines None new records torn size holds is cut = rw cut tt
cut_to_lines (Some bytes) new records torn size holds is cut = rw (cut, holds, is) (take-append_seam (lines_of records) torn)

-- and with one more it is the lines of one record more
pub line_added : (held new : Option (List ℕ)) (records : List (List ℕ)) (torn text : List ℕ) (size : ℕ) → Holds held (lines_of records ++ torn) → size ≡ length (lines_of records)
    → new ≡ append_known (cut_known size held) (line_of text) → Holds new (lines_of (records ++ text ∷ []))
line_added None new records torn text size holds is added = rw added tt
line_added (Some bytes) new records torn text size holds is added =
    rw (added, holds, is) (ap (λ l. l ++ line_of text) (take-append_seam (lines_of records) torn) ∙ sym (lines_of-more records text))

-- what was synced is what is held
pub has_lines : (held synced : Option (List ℕ)) (records : List (List ℕ)) → Holds held (lines_of records) → synced ≡ held → HasLines held synced records
has_lines held synced records holds same = record { lines = holds; saved = subst (λ s. Holds s (lines_of records)) (sym same) holds }

holds_nil : (held : Option (List ℕ)) (text : List ℕ) → Holds held text → Holds held (text ++ [])
holds_nil held text holds = subst (Holds held) (sym (append-nil text)) holds

-- lines and nothing else are kept
pub kept_lines : (held synced : Option (List ℕ)) (records : List (List ℕ)) → HasLines held synced records → IsKept held synced records
kept_lines held synced records has = record {
  torn = [];
  lines = holds_nil held (lines_of records) has.lines;
  saved = holds_nil synced (lines_of records) has.saved;
  unfinished = tt;
  could = tt;
}
