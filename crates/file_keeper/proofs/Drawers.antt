-- What is true inside a keeper, after each thing that it does.
use Rattle.std.proofs.Common.{◌≡◌, ℕ, ◌+◌, ◌-◌, Bool, true, false, List, [], ◌∷◌, ◌++◌, length, refl, sym, ap, ◌∙◌, subst, arith, length-append}
use Rattle.std.specs.Prelude.{Option}
use Rattle.std.specs.Io.KnownBytes.{append_known}
use Rattle.file_keeper.specs.Lines.{IsOneLine, IsSplit, line_of, lines_of}
use Rattle.file_keeper.specs.Holding.{Holds, IsWithin, cut_known, HasLines, IsKept, IsOpenedAs}
use Rattle.file_keeper.specs.Inside.{IsDrawer}
use Rattle.file_keeper.proofs.Splits.{lines-more, lines_of-more}
use Rattle.file_keeper.proofs.Written.{size_within, cut_to_lines, line_added, has_lines, kept_lines}

-- while it is open its store holds what is said
pub drawer_kept : (held synced : Option (List ℕ)) (b : Bool) (records : List (List ℕ)) (n : ℕ) → IsDrawer held synced b records n → b ≡ true → IsKept held synced records
drawer_kept held synced b records n d on = d.kept on

-- and so many bytes as its records' lines have
pub drawer_within : (held synced : Option (List ℕ)) (b : Bool) (records : List (List ℕ)) (n : ℕ) → IsDrawer held synced b records n → b ≡ true → IsWithin n held
drawer_within held synced b records n d on =
    let kept = d.kept on in
    size_within held records kept.torn n kept.lines d.size

-- nothing is asked of the store of one that is not open
pub drawer_closed : (held synced held' synced' : Option (List ℕ)) (b : Bool) (records : List (List ℕ)) (n : ℕ) → IsDrawer held synced b records n → IsDrawer held' synced' false records n
drawer_closed held synced held' synced' b records n d = record { kept = λ e. absurd cc; size = d.size; each = d.each }

-- nothing was read yet
pub drawer_new : (held synced : Option (List ℕ)) (records : List (List ℕ)) → records ≡ [] → IsDrawer held synced false records 0
unfolding lines_of
drawer_new held synced records none = record { kept = λ e. absurd cc; size = rw none refl; each = rw none tt }

-- a line was added
pub drawer_has_lines : (held synced held' synced' : Option (List ℕ)) (b : Bool) (records : List (List ℕ)) (text : List ℕ) (n : ℕ) → IsDrawer held synced b records n → b ≡ true
    → held' ≡ append_known (cut_known n held) (line_of text) → synced' ≡ held' → HasLines held' synced' (records ++ text ∷ [])
drawer_has_lines held synced held' synced' b records text n d on added same =
    let kept = d.kept on in
    has_lines held' synced' (records ++ text ∷ []) (line_added held held' records kept.torn text n kept.lines d.size added) same

pub drawer_added : (held synced held' synced' : Option (List ℕ)) (b : Bool) (records : List (List ℕ)) (text : List ℕ) (n more : ℕ) → IsDrawer held synced b records n → b ≡ true
    → IsOneLine text → held' ≡ append_known (cut_known n held) (line_of text) → synced' ≡ held' → more ≡ n + length (line_of text) → IsDrawer held' synced' b (records ++ text ∷ []) more
drawer_added held synced held' synced' b records text n more d on one added same sum = record {
  kept = λ _. kept_lines held' synced' (records ++ text ∷ []) (drawer_has_lines held synced held' synced' b records text n d on added same);
  size = sum ∙ ap (λ k. k + length (line_of text)) d.size ∙ sym (length-append (lines_of records) (line_of text)) ∙ sym (ap length (lines_of-more records text));
  each = lines-more records text d.each one;
}

-- what was added was taken off again
pub drawer_undone : (held synced held' synced' : Option (List ℕ)) (b : Bool) (records : List (List ℕ)) (n : ℕ) → IsDrawer held synced b records n → b ≡ true
    → held' ≡ cut_known n held → synced' ≡ held' → IsDrawer held' synced' b records n
drawer_undone held synced held' synced' b records n d on cut same =
    let kept = d.kept on in
    record {
      kept = λ _. kept_lines held' synced' records (has_lines held' synced' records (cut_to_lines held held' records kept.torn n kept.lines d.size cut) same);
      size = d.size;
      each = d.each;
    }

-- the lines were read
pub drawer_opened : (held held' synced' : Option (List ℕ)) (records : List (List ℕ)) (n : ℕ) → IsOpenedAs held records → held' ≡ held → synced' ≡ held' → n ≡ length (lines_of records)
    → IsDrawer held' synced' true records n
drawer_opened held held' synced' records n opened same saved sum =
    let whole : Holds held (lines_of records ++ opened.torn) = subst (Holds held) opened.split.parts opened.told in
    let whole' : Holds held' (lines_of records ++ opened.torn) = subst (λ h. Holds h (lines_of records ++ opened.torn)) (sym same) whole in
    record {
      kept = λ _. record {
        torn = opened.torn;
        lines = whole';
        saved = subst (λ h. Holds h (lines_of records ++ opened.torn)) (sym saved) whole';
        unfinished = opened.split.unfinished;
        could = opened.could;
      };
      size = sum;
      each = opened.split.each;
    }

-- how long the lines are
pub size_of_lines : (bytes : List ℕ) (records : List (List ℕ)) (torn : List ℕ) → IsSplit bytes records torn → length bytes - length torn ≡ length (lines_of records)
size_of_lines bytes records torn s = omega (arith, ap length s.parts, length-append (lines_of records) torn)

-- what the writing of a line comes to
pub ruleset writing = (drawer_added, drawer_undone, drawer_closed, drawer_has_lines, drawer_within)
