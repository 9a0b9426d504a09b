-- Bytes that are the texts of units are read as those units.
use Rattle.std.proofs.Common.{◌≡◌, ℕ, List, [], ◌∷◌, map, length, take, refl, sym, ap, ◌∙◌, subst, arith}
use Rattle.std.proofs.lemmas.List.{take_all}
use Rattle.std.specs.List.{AllByRecursion}
use Rattle.serial_frame.specs.Items.{unit_text, IsUnit}
use Rattle.serial_frame.specs.Stream.{Reads, Rest, Feeds, no_rest, ticks_after}
use Rattle.serial_frame.specs.declared.item.Item.{Item}
use Rattle.serial_frame.specs.declared.item.Item.TheVariants.{Good}
use Rattle.serial_frame.specs.declared.unit.Unit.{Unit as LineUnit}
use Rattle.serial_frame.proofs.First.{one_reading}
use Rattle.serial_frame.proofs.Streams.{same_rest}
use Rattle.proof_calm.specs.Passes.{texts}

abbrev pub goods : List LineUnit → List Item
goods units = map (λ unit. Good unit) units

reads_units : (units : List LineUnit) → AllByRecursion IsUnit units → Reads (texts units) (goods units) []
reads_units [] are = (tt, refl)
reads_units (unit ∷ units) are = (unit_text unit, texts units, (are.0, refl), refl, reads_units units are.1)

-- from nothing unfinished, they are these items, and leave nothing unfinished
pub fed_units : (unit : LineUnit) (units : List LineUnit) (bytes : List ℕ) (start rest : Rest) (items : List Item) → AllByRecursion IsUnit (unit ∷ units) → start ≡ no_rest → bytes ≡ texts (unit ∷ units)
    → Feeds start (take (length bytes) bytes) rest items → (items ≡ goods (unit ∷ units)) × (rest ≡ no_rest)
fed_units unit units bytes start rest items are starts is fed =
    let all : take (length bytes) bytes ≡ texts (unit ∷ units) = take_all (length bytes) bytes (omega arith) ∙ is in
    let here : Feeds no_rest (texts (unit ∷ units)) rest items = subst (λ (r : Rest). Feeds r (texts (unit ∷ units)) rest items) starts (subst (λ (bs : List ℕ). Feeds start bs rest items) all fed) in
    let same = one_reading (texts (unit ∷ units)) (goods (unit ∷ units)) items [] rest.bytes (reads_units (unit ∷ units) are) here.reads in
    (sym same.0, same_rest rest no_rest (sym same.1) (here.ticks ∙ ap (ticks_after 0) (sym same.0)))
