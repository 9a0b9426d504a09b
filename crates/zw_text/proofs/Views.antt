-- How views of a transcript grow with it.
use Rattle.std.proofs.Common.{◌≡◌, List, [], ◌∷◌, ◌++◌, refl}
use Rattle.std.specs.Prelude.{not}
use Rattle.std.proofs.lemmas.Grind.{flat_map-append}
use Rattle.std.proofs.lemmas.List.Elements.{filter-append}
use Rattle.zw_text.specs.Entry.{is_loud}
use Rattle.zw_text.specs.Transcript.{folded, quiet, shown}
use Rattle.zw_text.specs.declared.entry.Entry.{Entry}

pub shown-append : {A : Type 0} (view : Entry → List A) (before added : List Entry) → shown view (before ++ added) ≡ shown view before ++ shown view added
shown-append view before added = flat_map-append view before added

pub folded-append : {S : Type 0} (step : S → Entry → S) (start : S) (before added : List Entry) → folded step start (before ++ added) ≡ folded step (folded step start before) added
folded-append step start [] added = refl
folded-append step start (entry ∷ before) added = folded-append step (step start entry) before added

pub quiet-append : (before added : List Entry) → quiet (before ++ added) ≡ quiet before ++ quiet added
quiet-append before added = filter-append (λ entry. not (is_loud entry)) before added
