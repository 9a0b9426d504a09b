-- Of what the host writes some may be lost: then the course loses it too.
use Rattle.std.proofs.Common.{◌≡◌, Bool, true, false, if◌then◌else◌, List, [], ◌∷◌, ◌++◌, length, refl, ap, sym, ◌∙◌, subst, inl, inr, append_assoc}
use Rattle.std.specs.Prelude.{nat_lt, ◌==◌}
use Rattle.std.specs.List.{remove, flat_map}
use Rattle.std.proofs.lemmas.List.Concat.{flat_map-append}
use Rattle.serial_frame.specs.Frame.{FrameParts}
use Rattle.serial_frame.specs.Items.{unit_text}
use Rattle.serial_frame.specs.declared.unit.Unit.{Unit as LineUnit}
use Rattle.serial_frame.specs.declared.unit.Unit.TheVariants.{Ack, Nak, Can, Framed}
use Rattle.serial_frame.specs.declared.item.Item.{Item}
use Rattle.serial_pipes.specs.State.{WayState, fits}
use Rattle.serial_pipes.specs.Events.{after, Writes as writes_unit}
use Rattle.serial_pipes.specs.declared.marks.Garble.{Garble}
use Rattle.proof_course.specs.Parts.{IsPart}
use Rattle.proof_serial.specs.host_model.declared.out.HostOut.{HostOut}
use Rattle.proof_serial.specs.host_model.declared.out.HostOut.TheVariants.{Write, Note}
use Rattle.proof_traffic.specs.Requests.{Word, Traffic, Step, Loses}
use Rattle.proof_traffic.specs.Requests as course
use Rattle.proof_traffic.specs.HostTraffic.{words_in, words_out}
use Rattle.proof_traffic.specs.OutsideTraffic.{words_of, words_all}
use Rattle.proof_serial.specs.Way.{unit_item, changed_item, items_of, items_all}
use Rattle.proof_serial.specs.Line.{host_units}

-- ---- parts

part_later : (part whole : List Word) (first : Word) → IsPart part whole → IsPart part (first ∷ whole)
part_later [] whole first is = tt
part_later (word ∷ part) whole first is = inr is

pub part_both : (a x b y : List Word) → IsPart a x → IsPart b y → IsPart (a ++ b) (x ++ y)
part_both [] [] b y first later = later
part_both [] (word ∷ x) b y first later = part_later b (x ++ y) word (part_both [] x b y tt later)
part_both (word ∷ a) [] b y first later = absurd first
part_both (word ∷ a) (head ∷ x) b y (inl is) later = inl (is.0, part_both a x b y is.1 later)
part_both (word ∷ a) (head ∷ x) b y (inr is) later = inr (part_both (word ∷ a) x b y is later)

-- ---- what is written is on its way, or lost

-- the words of units
abbrev pub words_written : List LineUnit → List Word
words_written units = flat_map words_in units

changed_part : (garble : Garble) (f : FrameParts) → IsPart (words_all (changed_item garble f ∷ [])) (words_in (Framed f))
changed_part garble f = by (garble.xor == 0) refl
  where
    by : (b : Bool) → (garble.xor == 0) ≡ b → IsPart (words_all (changed_item garble f ∷ [])) (words_in (Framed f))
    by true e = rw e (inl (refl, tt))
    by false e = rw e tt

unit_part : (garbles : List Garble) (unit : LineUnit) → IsPart (words_all (unit_item garbles unit ∷ [])) (words_in unit)
unit_part garbles Ack = tt
unit_part garbles Nak = tt
unit_part garbles Can = tt
unit_part [] (Framed f) = inl (refl, tt)
unit_part (garble ∷ garbles) (Framed f) = changed_part garble f

items_part : (way : WayState) (unit : LineUnit) → IsPart (words_all (items_of way unit)) (words_in unit)
items_part way unit = by (fits way.bytes (unit_text unit)) (nat_lt 0 way.marks.drops)
  where
    by : (room lost : Bool) → IsPart (words_all (if room then (if lost then [] else unit_item way.marks.garbles unit ∷ []) else [])) (words_in unit)
    by true true = tt
    by true false = unit_part way.marks.garbles unit
    by false lost = tt

pub words_both : (a b : List Item) → words_all (a ++ b) ≡ words_all a ++ words_all b
words_both a b = flat_map-append words_of a b

pub written_part : (way : WayState) (units : List LineUnit) → IsPart (words_all (items_all way units)) (words_written units)
written_part way [] = tt
written_part way (unit ∷ units) =
    subst (λ (l : List Word). IsPart l (words_written (unit ∷ units))) (sym (words_both (items_of way unit) (items_all (after way (writes_unit unit)) units)))
    (part_both (words_all (items_of way unit)) (words_in unit) (words_all (items_all (after way (writes_unit unit)) units)) (words_written units) (items_part way unit)
    (written_part (after way (writes_unit unit)) units))

pub host_words : (outs : List HostOut) → words_written (host_units outs) ≡ words_out outs
host_words [] = refl
host_words (Write unit ∷ outs) = ap (λ (l : List Word). words_in unit ++ l) (host_words outs)
host_words (Note entry ∷ outs) = host_words outs

-- ---- the course loses it

-- steps lead to where only what is on its way is another
pub record Lost (t : Traffic) (up : List Word) : Type 0 where
  pub steps : List Step
  pub may : course.MayAll t steps
  pub is : course.after_all t steps ≡ record t { up = up }

removed : (prefix : List Word) (word : Word) (back : List Word) → remove (prefix ++ (word ∷ back)) (length prefix) ≡ prefix ++ back
removed [] word back = refl
removed (first ∷ prefix) word back = ap (λ (l : List Word). first ∷ l) (removed prefix word back)

module _ (t : Traffic) where
  nothing_lost : (up : List Word) → t.up ≡ up → Lost t up
  nothing_lost up is = record { steps = []; may = tt; is = ap (λ (l : List Word). record t { up = l }) is }

one_lost : (t : Traffic) (prefix : List Word) (word : Word) (back up : List Word) → t.up ≡ prefix ++ (word ∷ back) → Lost (record t { up = prefix ++ back }) up → Lost t up
one_lost t prefix word back up is later =
    let there : course.after t (Loses (length prefix)) ≡ record t { up = prefix ++ back } = ap (λ (l : List Word). record t { up = l }) (ap (λ (l : List Word). remove l (length prefix)) is ∙ removed prefix word back) in
    record {
      steps = Loses (length prefix) ∷ later.steps;
      may = (tt, subst (λ (u : Traffic). course.MayAll u later.steps) (sym there) later.may);
      is = ap (λ (u : Traffic). course.after_all u later.steps) there ∙ later.is;
    }

pub loses : (t : Traffic) (prefix part whole : List Word) → t.up ≡ prefix ++ whole → IsPart part whole → Lost t (prefix ++ part)
loses t prefix [] [] is part = nothing_lost t (prefix ++ []) is
loses t prefix [] (word ∷ whole) is part = one_lost t prefix word whole (prefix ++ []) is (loses (record t { up = prefix ++ whole }) prefix [] whole refl tt)
loses t prefix (first ∷ part) [] is bad = absurd bad
loses t prefix (first ∷ part) (word ∷ whole) is (inl same) =
    subst (λ (l : List Word). Lost t l) (append_assoc prefix (word ∷ []) part ∙ ap (λ (w : Word). prefix ++ (w ∷ part)) (sym same.0))
    (loses t (prefix ++ word ∷ []) part whole (is ∙ sym (append_assoc prefix (word ∷ []) whole)) same.1)
loses t prefix (first ∷ part) (word ∷ whole) is (inr later) =
    one_lost t prefix word whole (prefix ++ (first ∷ part)) is (loses (record t { up = prefix ++ whole }) prefix (first ∷ part) whole refl later)
