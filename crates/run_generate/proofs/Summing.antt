-- Lines that are run one after another from a world at its beginning, some of them where there is no memory, and their summary.
use Rattle.std.proofs.Common.{◌≡◌, ℕ, zero, suc, ◌+◌, ◌<◌, inl, inr, List, [], ◌∷◌, ◌++◌, Option, Result, OnErr, length, take, get_or, arith, refl, sym, ap, ◌∙◌, subst}
use Rattle.std.proofs.lemmas.List.{take_more}
use Rattle.zw_text.specs.declared.line.Line.{Line}
use Rattle.zw_text.specs.declared.entry.Entry.{Entry}
use Rattle.device_sim.specs.State.{State}
use Rattle.world_model.specs.Did.{Scene, Does, Stops}
use Rattle.world_model.specs.Lines.{IsLine}
use Rattle.world_model.specs.Prefixes.{LinePrefix}
use Rattle.world_model.specs.Table.{table_entries}
use Rattle.world_model.proofs.EventLists.{stopped_now}
use Rattle.zw_world.specs.World.{WorldState, first_world, machine_of, scene}
use Rattle.run_lines.proofs.Pieces.{OnErr-always}
use Rattle.run_generate.specs.Generate.{AllDone, IsCutShort, SomeDone, SumsUp, generated_lines, summary_text}
use Rattle.host_keep.specs.Keeping.{Shelf}

done-more : (lines : List Line) (line : Line) (old mid new : Scene) → AllDone lines old mid → Does (IsLine line) mid new → AllDone (lines ++ line ∷ []) old new
done-more [] line old mid new done does = (new, subst (λ (s : Scene). Does (IsLine line) s new) done does, refl)
done-more (first ∷ lines) line old mid new done does = (done.0, done.1, done-more lines line done.0 mid new done.2 does)

-- one more line of a list was run
pub done_next : (lines : List Line) (i : ℕ) (line : Line) (old mid new : Scene) → i < length lines → line ≡ get_or lines i line → AllDone (take i lines) old mid
    → Does (IsLine line) mid new → AllDone (take (i + 1) lines) old new
done_next lines i line old mid new within is done does =
    subst (λ (ls : List Line). AllDone ls old new) (ap (λ (l : Line). take i lines ++ l ∷ []) is ∙ sym (take_more lines i line within))
    (done-more (take i lines) line old mid new done does)

-- ---- where there is no memory

-- no line was run
pub none_done : (lines : List Line) (s : Scene) → SomeDone lines s s
none_done [] s = refl
none_done (line ∷ lines) s = inl (stopped_now (LinePrefix line) s (inl refl))

-- all of them were
pub all_done : (lines : List Line) (old new : Scene) → AllDone lines old new → SomeDone lines old new
all_done [] old new done = done
all_done (line ∷ lines) old new done = inr (done.0, done.1, all_done lines done.0 new done.2)

-- the line of a place was cut short
pub stopped_at : (lines : List Line) (i : ℕ) (line : Line) (old mid new : Scene) → i < length lines → line ≡ get_or lines i line → AllDone (take i lines) old mid
    → Stops (LinePrefix line) mid new → SomeDone lines old new
stopped_at [] i line old mid new within is done stops = absurd (omega (arith, within))
stopped_at (first ∷ lines) zero line old mid new within is done stops =
    inl (subst (λ (s : Scene). Stops (LinePrefix first) s new) done (subst (λ (l : Line). Stops (LinePrefix l) mid new) is stops))
stopped_at (first ∷ lines) (suc i) line old mid new within is done stops =
    inr (done.0, done.1, stopped_at lines i line done.0 mid new (omega (arith, within)) is done.2 stops)

-- ---- the scenario, from a world at its beginning

-- it was cut short
pub cut_short : (hundreds : ℕ) (key : List ℕ) (before after : List State) (shelf shelf' : Shelf)
    (world world' : WorldState) (lines : List Line) (none entries : List Entry) → lines ≡ generated_lines hundreds → world ≡ first_world key → none ≡ []
    → SomeDone lines (scene world before shelf none) (scene world' after shelf' entries)
    → IsCutShort hundreds key before after shelf shelf'
cut_short hundreds key before after shelf shelf' world world' lines none entries are first empty done = record {
  last = scene world' after shelf' entries;
  done = subst (λ (ls : List Line). SomeDone ls (scene (first_world key) before shelf []) (scene world' after shelf' entries)) are
      (subst (λ (w : WorldState). SomeDone lines (scene w before shelf []) (scene world' after shelf' entries)) first
      (subst (λ (es : List Entry). SomeDone lines (scene world before shelf es) (scene world' after shelf' entries)) empty done));
  devices = refl;
  records_are = refl;
  faults_are = refl;
}

-- nothing was done
pub not_begun : (hundreds : ℕ) (key : List ℕ) (devices : List State) (shelf : Shelf)
    → IsCutShort hundreds key devices devices shelf shelf
not_begun hundreds key devices shelf = record {
  last = scene (first_world key) devices shelf [];
  done = none_done (generated_lines hundreds) (scene (first_world key) devices shelf []);
  devices = refl;
  records_are = refl;
  faults_are = refl;
}

-- at an error, whatever the key is
module _ {T E : Type 0} (r : Result T E) (hundreds : ℕ) (before : List State) (shelf : Shelf) (world : WorldState) where
  abbrev IsCut : List State → Shelf → Type 0
  IsCut after shelf' = (key : List ℕ) → world ≡ first_world key → IsCutShort hundreds key before after shelf shelf'

  pub cut_at_err : (after : List State) (shelf' : Shelf) (world' : WorldState) (lines : List Line) (none entries : List Entry)
      → lines ≡ generated_lines hundreds → none ≡ []
      → SomeDone lines (scene world before shelf none) (scene world' after shelf' entries) → OnErr r (IsCut after shelf')
  cut_at_err after shelf' world' lines none entries are empty done = OnErr-always r (IsCut after shelf')
      (λ key first. cut_short hundreds key before after shelf shelf' world world' lines none entries are first empty done)

  pub not_begun_at_err : OnErr r (IsCut before shelf)
  not_begun_at_err = OnErr-always r (IsCut before shelf) (λ key first. not_begun hundreds key before shelf)

-- it was run whole, and summed up
module _ (hundreds : ℕ) (key : List ℕ) (before after : List State) (shelf shelf' : Shelf)
    (world world' : WorldState) (lines run : List Line) (none entries seen no_table table shown : List Entry) where
  pub sums_up : lines ≡ generated_lines hundreds → run ≡ lines → world ≡ first_world key → none ≡ []
      → AllDone run (scene world before shelf none) (scene world' after shelf' entries)
      → no_table ≡ [] → ((kept : Option (List (List ℕ))) → table ≡ no_table ++ table_entries (machine_of world' after kept))
      → seen ≡ entries → shown ≡ table → (text : List ℕ) → text ≡ summary_text seen shown
      → SumsUp hundreds key before after shelf shelf' text
  sums_up are of_them first empty done begun listed all whole text is = record {
    last = scene world' after shelf' entries;
    done = subst (λ (ls : List Line). AllDone ls (scene (first_world key) before shelf []) (scene world' after shelf' entries)) (of_them ∙ are)
        (subst (λ (w : WorldState). AllDone run (scene w before shelf []) (scene world' after shelf' entries)) first
        (subst (λ (es : List Entry). AllDone run (scene world before shelf es) (scene world' after shelf' entries)) empty done));
    devices = refl;
    records_are = refl;
    faults_are = refl;
    text_is = is ∙ ap (λ (es : List Entry). summary_text es shown) all
        ∙ ap (λ (es : List Entry). summary_text entries es) (whole ∙ listed shelf'.records ∙ ap (λ (es : List Entry). es ++ table_entries (machine_of world' after shelf'.records)) begun);
  }
