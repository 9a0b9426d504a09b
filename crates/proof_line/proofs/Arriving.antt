-- What arrives of the units of a side, by the transcript, goes on with entries; and what is judged and on its way is that.
use Rattle.std.proofs.Common.{◌≡◌, ℕ, ◌&&◌, ◌||◌, not, nat_lt, nat_le, ◌+◌, Bool, true, false, if◌then◌else◌, List, [], ◌∷◌, ◌++◌, length, refl, sym, ap, ap₂, subst, ◌∙◌, append-nil, append_assoc}
use Rattle.std.specs.List.{AllByRecursion, flat_map, list_all, list_any}
use Rattle.std.proofs.lemmas.Grind.{flat_map-append}
use Rattle.serial_frame.specs.Items.{unit_text, IsUnit, ItemText}
use Rattle.serial_frame.specs.Stream.{no_rest, Feeds}
use Rattle.serial_frame.specs.declared.item.Item.{Item}
use Rattle.serial_frame.specs.declared.item.Item.TheVariants.{Good}
use Rattle.serial_frame.specs.declared.unit.Unit.{Unit as LineUnit}
use Rattle.serial_frame.specs.declared.unit.Unit.TheVariants.{Ack, Nak, Can, Framed}
use Rattle.serial_pipes.specs.State.{WayState, fits, mark_for, change_for, garbled}
use Rattle.serial_pipes.specs.Events.{told, told_by, passing, Writes, after}
use Rattle.serial_pipes.specs.declared.pipe.TheConstants.{CAPACITY}
use Rattle.serial_pipes.specs.declared.marks.Garble.{Garble}
use Rattle.serial_pipes.specs.declared.marks.Mark.{Mark}
use Rattle.serial_pipes.specs.declared.marks.Mark.TheVariants.{Free, Lost, Changed}
use Rattle.zw_words.specs.declared.side.Side.{Side}
use Rattle.zw_text.specs.declared.entry.Entry.{Entry}
use Rattle.zw_text.specs.declared.entry.Entry.TheVariants as entry
use Rattle.zw_text.specs.Transcript.{line_of, same_side}
use Rattle.law_wire.specs.law_transcript.Restarts.{is_restart, begins_refused}
use Rattle.law_wire.specs.Serial.{arriving_of, changed_or_not, is_overrun, lacking_of}
use Rattle.law_wire.specs.Serial.SerialEvent.{Writes as by_side}
use Rattle.law_wire.specs.Links.{has_room, is_let_in, other}
use Rattle.proof_walk.proofs.Entered.{IsMark, told_by_marks}
use Rattle.proof_world.specs.proof_serial.Way.{items_of, unit_item, changed_item}
use Rattle.proof_world.proofs.ChangedUnits.{changed_text, garbled_long}
use Rattle.proof_world.proofs.Ways.{carries_more}
use Rattle.proof_line.specs.Arrivals.{arrived_step, arrived_from, arrived, AreTexts, Comes}
use Rattle.proof_line.proofs.Standing.{same_itself}
use Rattle.proof_line.proofs.Holding.{NoMark, Joins, TellsNothing, lost_same, refused_then, apart_mark}
use Rattle.proof_world.proofs.Outer.{wrong as no_refusal}

-- ---- what stands next may say what became of the last

changed_none : (side : Side) (unit : List ℕ) (told : List Entry) → NoMark told → changed_or_not side unit told ≡ unit
changed_none side unit [] none = refl
changed_none side unit (entry.Garbled on bytes ∷ told) none = absurd none
changed_none side unit (e ∷ told) none = refl

changed_same : (side : Side) (unit : List ℕ) (past told : List Entry) → NoMark told → changed_or_not side unit (past ++ told) ≡ changed_or_not side unit past
changed_same side unit [] told none = changed_none side unit told none
changed_same side unit (entry.Garbled on bytes ∷ past) told none = refl
changed_same side unit (e ∷ past) told none = refl

pub arriving_same : (side : Side) (unit : List ℕ) (past told : List Entry) → NoMark told → arriving_of side unit (past ++ told) ≡ arriving_of side unit past
arriving_same side unit past told none = ap₂ (λ (b : Bool) (t : List ℕ). if b then [] else t ∷ []) (lost_same side past told none) (changed_same side unit past told none)

overrun_none : (side : Side) (told : List Entry) → NoMark told → is_overrun side told ≡ false
overrun_none side [] none = refl
overrun_none side (entry.Dropped on ∷ told) none = absurd none
overrun_none side (entry.Garbled on unit ∷ told) none = absurd none
overrun_none side (entry.Overrun on ∷ told) none = absurd none
overrun_none side (e ∷ told) none = refl

changed_fits : (side on : Side) (unit : List ℕ) (told : List Entry) → NoMark told → is_overrun side (entry.Garbled on unit ∷ told) ≡ false
changed_fits side on unit [] none = refl
changed_fits side on unit (entry.Overrun of ∷ told) none = absurd none
changed_fits side on unit (e ∷ told) none = refl

overrun_then : (side on : Side) (unit : List ℕ) (e : Entry) (xs ys : List Entry) → is_overrun side (entry.Garbled on unit ∷ (e ∷ xs)) ≡ is_overrun side (entry.Garbled on unit ∷ (e ∷ ys))
overrun_then side on unit (entry.Overrun of) xs ys = refl
overrun_then side on unit e xs ys = refl

overrun_same : (side : Side) (past told : List Entry) → NoMark told → is_overrun side (past ++ told) ≡ is_overrun side past
overrun_same side [] told none = overrun_none side told none
overrun_same side (entry.Overrun on ∷ past) told none = refl
overrun_same side (entry.Garbled on unit ∷ []) told none = changed_fits side on unit told none
overrun_same side (entry.Garbled on unit ∷ (e ∷ past)) told none = overrun_then side on unit e (past ++ told) past
overrun_same side (e ∷ past) told none = refl

pub lacking_same : (side : Side) (unit : List ℕ) (past told : List Entry) → NoMark told → lacking_of side unit (past ++ told) ≡ lacking_of side unit past
lacking_same side unit past told none = ap₂ (λ (b : Bool) (t : List ℕ). if b then t ∷ [] else []) (overrun_same side past told none) (changed_same side unit past told none)

step_more : (side : Side) (texts : List (List ℕ)) (e next : Entry) (past told : List Entry) → NoMark told → arrived_step side texts e (next ∷ (past ++ told)) ≡ arrived_step side texts e (next ∷ past)
step_more side texts (entry.Written on unit) next past told none =
    ap (λ (l : List (List ℕ)). texts ++ (if same_side side on then l else [])) (arriving_same on unit (next ∷ past) told none)
step_more side texts (entry.Said words) next past told none =
    ap (λ (b : Bool). if is_restart (line_of (entry.Said words)) && not b then [] else texts) (refused_then next (past ++ told) past)
step_more side texts e next past told none = refl

step_last : (side : Side) (texts : List (List ℕ)) (e : Entry) (told : List Entry) → NoMark told → Joins (e ∷ []) told → arrived_step side texts e told ≡ arrived_step side texts e []
step_last side texts (entry.Written on unit) told none joins = ap (λ (l : List (List ℕ)). texts ++ (if same_side side on then l else [])) (arriving_same on unit [] told none)
step_last side texts (entry.Said words) told none joins = by (begins_refused told) refl
  where
    by : (b : Bool) → begins_refused told ≡ b → arrived_step side texts (entry.Said words) told ≡ arrived_step side texts (entry.Said words) []
    by true is =
        ap (λ (r : Bool). if r && not (begins_refused told) then [] else texts) (joins is)
        ∙ sym (ap (λ (r : Bool). if r && not false then [] else texts) (joins is))
    by false is = ap (λ (b : Bool). if is_restart (line_of (entry.Said words)) && not b then [] else texts) is
step_last side texts e told none joins = refl

pub arrived_grows : (side : Side) (texts : List (List ℕ)) (past told : List Entry) → NoMark told → Joins past told → arrived_from side texts (past ++ told) ≡ arrived_from side (arrived_from side texts past) told
arrived_grows side texts [] told none joins = refl
arrived_grows side texts (e ∷ []) told none joins = ap (λ (l : List (List ℕ)). arrived_from side l told) (step_last side texts e told none joins)
arrived_grows side texts (e ∷ (next ∷ past)) told none joins =
    ap (λ (l : List (List ℕ)). arrived_from side l (next ∷ (past ++ told))) (step_more side texts e next past told none)
    ∙ arrived_grows side (arrived_step side texts e (next ∷ past)) (next ∷ past) told none joins

-- ---- entries of no unit

apart_arrived : (side : Side) (texts : List (List ℕ)) (e : Entry) → TellsNothing e → arrived_from side texts (e ∷ []) ≡ texts
apart_arrived side texts (entry.Said words) apart = absurd apart
apart_arrived side texts (entry.Written on unit) apart = absurd apart
apart_arrived side texts e apart = refl

pub apart_same : (side : Side) (past : List Entry) (e : Entry) → TellsNothing e → Joins past (e ∷ []) → arrived side (past ++ e ∷ []) ≡ arrived side past
apart_same side past e apart joins = arrived_grows side [] past (e ∷ []) (apart_mark e apart) joins ∙ apart_arrived side (arrived side past) e apart

pub time_same : (side : Side) (past : List Entry) (tick : ℕ) → arrived side (past ++ entry.Time tick ∷ []) ≡ arrived side past
time_same side past tick = arrived_grows side [] past (entry.Time tick ∷ []) tt no_refusal

marks_pass : (side : Side) (texts : List (List ℕ)) (marks : List Entry) → AllByRecursion IsMark marks → arrived_from side texts marks ≡ texts
marks_pass side texts [] all = refl
marks_pass side texts (entry.Dropped on ∷ marks) all = marks_pass side texts marks all.1
marks_pass side texts (entry.Garbled on unit ∷ marks) all = marks_pass side texts marks all.1
marks_pass side texts (entry.Overrun on ∷ marks) all = marks_pass side texts marks all.1
marks_pass side texts (e ∷ marks) all = absurd all.0

-- ---- a unit

-- what is told of it
abbrev pub marks_of : Side → WayState → LineUnit → List Entry
marks_of side way unit = told_by side way.bytes (mark_for way.marks unit) (unit_text unit)

own_arrived : (side : Side) (way : WayState) (unit : LineUnit) (past : List Entry) → arrived side (past ++ told side way unit) ≡ arrived side past ++ arriving_of side (unit_text unit) (marks_of side way unit)
own_arrived side way unit past =
    let marks : List Entry = marks_of side way unit in
    arrived_grows side [] past (told side way unit) tt no_refusal
    ∙ marks_pass side (arrived_step side (arrived side past) (entry.Written side (unit_text unit)) marks) marks (told_by_marks side way.bytes (mark_for way.marks unit) (unit_text unit))
    ∙ ap (λ (b : Bool). arrived side past ++ (if b then arriving_of side (unit_text unit) marks else [])) (same_itself side)

pub other_arrived : (side other : Side) → same_side other side ≡ false → (way : WayState) (unit : LineUnit) (past : List Entry) → arrived other (past ++ told side way unit) ≡ arrived other past
other_arrived side other apart way unit past =
    let marks : List Entry = marks_of side way unit in
    arrived_grows other [] past (told side way unit) tt no_refusal
    ∙ marks_pass other (arrived_step other (arrived other past) (entry.Written side (unit_text unit)) marks) marks (told_by_marks side way.bytes (mark_for way.marks unit) (unit_text unit))
    ∙ ap (λ (b : Bool). arrived other past ++ (if b then arriving_of side (unit_text unit) marks else [])) apart
    ∙ append-nil (arrived other past)

pub texts_both : (xs ys : List Item) (ts us : List (List ℕ)) → AreTexts xs ts → AreTexts ys us → AreTexts (xs ++ ys) (ts ++ us)
texts_both [] ys [] us first later = later
texts_both [] ys (t ∷ ts) us first later = absurd first
texts_both (x ∷ xs) ys [] us first later = absurd first
texts_both (x ∷ xs) ys (t ∷ ts) us first later = (first.0, texts_both xs ys ts us first.1 later)

-- what arrives of it is what is then on its way of it
module _ (side : Side) (way : WayState) (unit : LineUnit) where
  abbrev Is : Mark → List Item → Type 0
  Is mark items = AreTexts items (arriving_of side (unit_text unit) (told_by side way.bytes mark (unit_text unit)))

  -- nothing
  none_arrives : (lost : Bool) (t : List ℕ) → lost ≡ true → AreTexts [] (if lost then [] else t ∷ [])
  none_arrives lost t is = subst (λ (b : Bool). AreTexts [] (if b then [] else t ∷ [])) (sym is) tt

  lost_is : (room : Bool) → Is Lost (if room then [] else [])
  lost_is true = none_arrives (same_side side side) (unit_text unit) (same_itself side)
  lost_is false = none_arrives (same_side side side) (unit_text unit) (same_itself side)

  free_is : (item : Item) → ItemText item (unit_text unit) → Is Free (if fits way.bytes (unit_text unit) then item ∷ [] else [])
  free_is item is = by (fits way.bytes (unit_text unit))
    where
      by : (b : Bool) → AreTexts (if b then item ∷ [] else []) (arriving_of side (unit_text unit) (if b then [] else entry.Overrun side ∷ []))
      by true = (is, tt)
      by false = none_arrives (same_side side side) (unit_text unit) (same_itself side)

  changed_is : (garble : Garble) (item : Item) → ItemText item (garbled garble (unit_text unit)) → Is (Changed garble) (if fits way.bytes (unit_text unit) then item ∷ [] else [])
  changed_is garble item is =
      let t : List ℕ = garbled garble (unit_text unit) in
      subst (λ (b : Bool). Is (Changed garble) (if b then item ∷ [] else [])) (ap (λ (n : ℕ). nat_le (length way.bytes + n) CAPACITY) (garbled_long garble (unit_text unit))) (by t is (fits way.bytes t))
    where
      by : (t : List ℕ) → ItemText item t → (b : Bool)
          → AreTexts (if b then item ∷ [] else []) (arriving_of side (unit_text unit) (entry.Garbled side t ∷ (if b then [] else entry.Overrun side ∷ [])))
      by t is true = subst (λ (b : Bool). AreTexts (item ∷ []) ((if b then t else unit_text unit) ∷ [])) (sym (same_itself side)) (is, tt)
      by t is false = none_arrives (same_side side side) (if same_side side side then t else unit_text unit) (same_itself side)

-- by the change that waits
change_is : (side : Side) (way : WayState) (unit : LineUnit) (garbles : List Garble) → IsUnit unit
    → Is side way unit (change_for garbles unit) (if fits way.bytes (unit_text unit) then unit_item garbles unit ∷ [] else [])
change_is side way Ack garbles is = free_is side way Ack (Good Ack) (tt, refl)
change_is side way Nak garbles is = free_is side way Nak (Good Nak) (tt, refl)
change_is side way Can garbles is = free_is side way Can (Good Can) (tt, refl)
change_is side way (Framed f) [] is = free_is side way (Framed f) (Good (Framed f)) (is, refl)
change_is side way (Framed f) (garble ∷ garbles) is = changed_is side way (Framed f) garble (changed_item garble f) (changed_text f garble is)

pub items_arrive : (side : Side) (way : WayState) (unit : LineUnit) → IsUnit unit → AreTexts (items_of way unit) (arriving_of side (unit_text unit) (marks_of side way unit))
items_arrive side way unit is = by (nat_lt 0 way.marks.drops)
  where
    by : (b : Bool)
        → Is side way unit (if b then Lost else change_for way.marks.garbles unit)
        (if fits way.bytes (unit_text unit) then (if b then [] else unit_item way.marks.garbles unit ∷ []) else [])
    by true = lost_is side way unit (fits way.bytes (unit_text unit))
    by false = change_is side way unit way.marks.garbles is

-- and its bytes are added to those on their way
abbrev pub flat : List (List ℕ) → List ℕ
flat texts = flat_map (λ text. text) texts

module _ (side : Side) (way : WayState) (unit : LineUnit) where
  abbrev pub Joins_it : Mark → Type 0
  Joins_it mark = (passing way mark (unit_text unit)).bytes ≡ way.bytes ++ flat (arriving_of side (unit_text unit) (told_by side way.bytes mark (unit_text unit)))

  none_joins : (lost : Bool) (t : List ℕ) → lost ≡ true → way.bytes ≡ way.bytes ++ flat (if lost then [] else t ∷ [])
  none_joins lost t is = subst (λ (b : Bool). way.bytes ≡ way.bytes ++ flat (if b then [] else t ∷ [])) (sym is) (sym (append-nil way.bytes))

  text_joins : (t u : List ℕ) → t ≡ u → way.bytes ++ t ≡ way.bytes ++ flat (u ∷ [])
  text_joins t u is = ap (λ (l : List ℕ). way.bytes ++ l) (is ∙ sym (append-nil u))

  pub joins_by : (mark : Mark) → Joins_it mark
  joins_by Free = by (fits way.bytes (unit_text unit))
    where
      by : (b : Bool) → (if b then way.bytes ++ unit_text unit else way.bytes) ≡ way.bytes ++ flat (arriving_of side (unit_text unit) (if b then [] else entry.Overrun side ∷ []))
      by true = text_joins (unit_text unit) (unit_text unit) refl
      by false = none_joins (same_side side side) (unit_text unit) (same_itself side)
  joins_by Lost = none_joins (same_side side side) (unit_text unit) (same_itself side)
  joins_by (Changed garble) = by (garbled garble (unit_text unit)) (fits way.bytes (garbled garble (unit_text unit)))
    where
      by : (t : List ℕ) (b : Bool)
          → (if b then way.bytes ++ t else way.bytes) ≡ way.bytes ++ flat (arriving_of side (unit_text unit) (entry.Garbled side t ∷ (if b then [] else entry.Overrun side ∷ [])))
      by t true = text_joins t (if same_side side side then t else unit_text unit) (sym (ap (λ (b : Bool). if b then t else unit_text unit) (same_itself side)))
      by t false = none_joins (same_side side side) (if same_side side side then t else unit_text unit) (same_itself side)

-- a unit has room, or has none, by what is on its way
module _ (side : Side) (units : List (List ℕ)) where
  abbrev IsRight : List ℕ → List Entry → Type 0
  IsRight t marks = (list_all (has_room units) (arriving_of side t marks) && not (list_any (has_room units) (lacking_of side t marks))) ≡ true

  -- one that arrives, and one that is told to have none
  arrives_right : (has : Bool) → has ≡ true → ((has && true) && true) ≡ true
  arrives_right has is = ap (λ (b : Bool). (b && true) && true) is

  lacks_right : (same : Bool) (t : List ℕ) → has_room units t ≡ false → same ≡ true
      → (list_all (has_room units) (if same then [] else t ∷ []) && not (list_any (has_room units) (if same then t ∷ [] else []))) ≡ true
  lacks_right true t is same = ap (λ (b : Bool). not (b || false)) is
  lacks_right false t is same = absurd (let none : false ≡ true = same in cc)

  by_mark : (bytes t : List ℕ) (mark : Mark) → bytes ≡ flat units → IsRight t (told_by side bytes mark t)
  by_mark bytes t Free is = by (fits bytes t) (ap (λ (l : List ℕ). nat_le (length l + length t) CAPACITY) (sym is))
    where
      by : (b : Bool) → has_room units t ≡ b → IsRight t (if b then [] else entry.Overrun side ∷ [])
      by true has = arrives_right (has_room units t) has
      by false has = lacks_right (same_side side side) t has (same_itself side)
  by_mark bytes t Lost is = ap (λ (b : Bool). list_all (has_room units) (if b then [] else t ∷ []) && true) (same_itself side)
  by_mark bytes t (Changed garble) is = by (garbled garble t) (fits bytes (garbled garble t)) (ap (λ (l : List ℕ). nat_le (length l + length (garbled garble t)) CAPACITY) (sym is))
    where
      by : (u : List ℕ) (b : Bool) → has_room units u ≡ b → IsRight t (entry.Garbled side u ∷ (if b then [] else entry.Overrun side ∷ []))
      by u true has = arrives_right (has_room units (if same_side side side then u else t)) (ap (λ (b : Bool). has_room units (if b then u else t)) (same_itself side) ∙ has)
      by u false has =
          lacks_right (same_side side side) (if same_side side side then u else t) (ap (λ (b : Bool). has_room units (if b then u else t)) (same_itself side) ∙ has)
          (same_itself side)

or_right : (b c : Bool) → c ≡ true → (b || c) ≡ true
or_right true c is = refl
or_right false c is = is

pub let_in : (side : Side) (units : List (List ℕ)) (way : WayState) (unit : LineUnit) → way.bytes ≡ flat units
    → is_let_in side units
    (by_side (other side) (unit_text unit) (arriving_of (other side) (unit_text unit) (marks_of (other side) way unit)) (lacking_of (other side) (unit_text unit) (marks_of (other side) way unit)))
    ≡ true
let_in side units way unit is = or_right (same_side side (other side)) _ (by_mark (other side) units way.bytes (unit_text unit) (mark_for way.marks unit) is)

pub unit_comes : (side : Side) (way : WayState) (unit : LineUnit) (past : List Entry) → IsUnit unit → Comes way (arrived side past) → Comes (after way (Writes unit)) (arrived side (past ++ told side way unit))
unit_comes side way unit past is comes =
    let more : List (List ℕ) = arriving_of side (unit_text unit) (marks_of side way unit) in
    record {
      earlier = comes.earlier;
      ahead = comes.ahead ++ more;
      parts = own_arrived side way unit past ∙ ap (λ (l : List (List ℕ)). l ++ more) comes.parts ∙ append_assoc comes.earlier comes.ahead more;
      judged = comes.judged;
      items = comes.items ++ items_of way unit;
      carries = carries_more no_rest way unit comes.items comes.carries is;
      heard = comes.heard;
      coming = texts_both comes.items (items_of way unit) comes.ahead more comes.coming (items_arrive side way unit is);
      bytes = joins_by side way unit (mark_for way.marks unit) ∙ ap (λ (l : List ℕ). l ++ flat more) comes.bytes ∙ sym (flat_map-append (λ (text : List ℕ). text) comes.ahead more);
    }

-- ---- where nothing is written

-- only the bytes matter
pub comes_same : (way later : WayState) (texts : List (List ℕ)) → later.bytes ≡ way.bytes → Comes way texts → Comes later texts
comes_same way later texts same comes = record {
  earlier = comes.earlier;
  ahead = comes.ahead;
  parts = comes.parts;
  judged = comes.judged;
  items = comes.items;
  carries = subst (λ (l : List ℕ). Feeds no_rest l no_rest comes.items) (sym same) comes.carries;
  heard = comes.heard;
  coming = comes.coming;
  bytes = same ∙ comes.bytes;
}

-- nothing is on its way
pub none_carries : (way : WayState) → way.bytes ≡ [] → Feeds no_rest way.bytes no_rest []
none_carries way none = subst (λ (l : List ℕ). Feeds no_rest l no_rest []) (sym none) (record { reads = (tt, refl); ticks = refl })

-- all of it is judged
pub comes_taken : (way later : WayState) (texts : List (List ℕ)) → later.bytes ≡ [] → Comes way texts → Comes later texts
comes_taken way later texts none comes = record {
  earlier = comes.earlier ++ comes.ahead;
  ahead = [];
  parts = comes.parts ∙ sym (append-nil (comes.earlier ++ comes.ahead));
  judged = comes.judged ++ comes.items;
  items = [];
  carries = none_carries later none;
  heard = texts_both comes.judged comes.items comes.earlier comes.ahead comes.heard comes.coming;
  coming = tt;
  bytes = none;
}

-- nothing has arrived
pub comes_none : (way : WayState) → way.bytes ≡ [] → Comes way []
comes_none way none = record { earlier = []; ahead = []; parts = refl; judged = []; items = []; carries = none_carries way none; heard = tt; coming = tt; bytes = none }

-- these are the same texts
pub comes_at : (way : WayState) (old new : List (List ℕ)) → new ≡ old → Comes way old → Comes way new
comes_at way old new same comes = subst (λ (l : List (List ℕ)). Comes way l) (sym same) comes
