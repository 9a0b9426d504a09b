-- What is judged is of what was written.
use Rattle.std.proofs.Common.{◌≡◌, Bool, true, false, List, [], ◌∷◌, ◌++◌, refl, ap, sym, ◌∙◌, subst, inl, inr, append_assoc}
use Rattle.std.specs.Prelude.{◌⊎◌, ◌==◌, nat_lt, if◌then◌else◌}
use Rattle.std.proofs.lemmas.List.{append-nil}
use Rattle.serial_frame.specs.Frame.{FrameParts}
use Rattle.serial_frame.specs.Items.{unit_text}
use Rattle.serial_frame.specs.declared.unit.Unit.{Unit as LineUnit}
use Rattle.serial_frame.specs.declared.unit.Unit.TheVariants.{Ack, Nak, Can, Framed}
use Rattle.serial_frame.specs.declared.item.Item.{Item}
use Rattle.serial_frame.specs.declared.item.Item.TheVariants.{Good, Refused}
use Rattle.serial_frame.specs.declared.item.Refusal.TheVariants.{BadSum}
use Rattle.world_model.specs.serial_pipes.State.{WayState, fits, garbled}
use Rattle.world_model.specs.serial_pipes.Events.{after, Writes}
use Rattle.world_model.specs.serial_pipes.declared.marks.Garble.{Garble}
use Rattle.zw_words.specs.declared.side.Side.TheVariants.{Host, Chip}
use Rattle.world_model.specs.chip_sim.State.{ChipState}
use Rattle.world_model.specs.chip_sim.Events.{ChipEvent}
use Rattle.world_model.specs.chip_sim.Did.{MayAll as MayAllChip, after_all, outs_all}
use Rattle.world_model.specs.chip_sim.Link.{chip_units}
use Rattle.world_model.proofs.chip_sim_EventLists.{after_all-append, outs_all-append, may_all-append}
use Rattle.proof_course.specs.Parts.{IsPart}
use Rattle.world_model.specs.outside_model.Events.{Chip_takes, Clears_pipe}
use Rattle.world_model.specs.State.{Machine}
use Rattle.world_model.specs.Events.{Event, Outside_does, Host_does, Host_takes, happens}
use Rattle.world_model.specs.Did.{happens_all, MayAll}
use Rattle.proof_serial.specs.Way.{wanted_sum, found_sum, items_of, unit_item, items_all}
use Rattle.proof_serial.specs.Chip.{HasFrames}
use Rattle.proof_serial.specs.Line.{Carried, ChipDid, chip_writes, chip_judges, host_judges, host_writes, host_writes_all, Change, Grows, Judges, Vanishes, Becomes, up_change, down_change, AllAtRest, AllWriteWell}
use Rattle.proof_serial.specs.Units.{IsOf, AreOf, good_unit, good_units, unit_frame, frames_of, chip_judged, host_judged, JudgesUnits, JudgesFrames}
use Rattle.proof_serial.proofs.ChipWays.{units-append}
use Rattle.proof_serial.proofs.Events.{event_after}

-- ---- items of units

are_skip : (items : List Item) (unit : LineUnit) (units : List LineUnit) → AreOf items units → AreOf items (unit ∷ units)
are_skip [] unit units are = tt
are_skip (item ∷ items) unit units are = inr are

are_both : (items news : List Item) (units more : List LineUnit) → AreOf items units → AreOf news more → AreOf (items ++ news) (units ++ more)
are_both [] news [] more are later = later
are_both [] news (unit ∷ units) more are later = are_skip news unit (units ++ more) (are_both [] news units more tt later)
are_both (item ∷ items) news [] more are later = absurd are
are_both (item ∷ items) news (unit ∷ units) more (inl here) later = inl (here.0, are_both items news units more here.1 later)
are_both (item ∷ items) news (unit ∷ units) more (inr there) later = inr (are_both (item ∷ items) news units more there later)

are_more : (items : List Item) (units more : List LineUnit) → AreOf items units → AreOf items (units ++ more)
are_more items units more are = subst (λ (l : List Item). AreOf l (units ++ more)) (append-nil items) (are_both items [] units more are tt)

pub are_prefix : (items news : List Item) (units : List LineUnit) → AreOf (items ++ news) units → AreOf items units
are_prefix [] news units are = tt
are_prefix (item ∷ items) news [] are = absurd are
are_prefix (item ∷ items) news (unit ∷ units) (inl here) = inl (here.0, are_prefix items news units here.1)
are_prefix (item ∷ items) news (unit ∷ units) (inr there) = inr (are_prefix (item ∷ items) news units there)

-- ---- what becomes of units

item_is_of : (garbles : List Garble) (unit : LineUnit) → IsOf (unit_item garbles unit) unit
item_is_of garbles Ack = refl
item_is_of garbles Nak = refl
item_is_of garbles Can = refl
item_is_of [] (Framed f) = refl
item_is_of (garble ∷ garbles) (Framed f) = by (garble.xor == 0)
  where
    by : (b : Bool) → IsOf (if b then Good (Framed f) else Refused (BadSum (wanted_sum (garbled garble (unit_text (Framed f)))) (found_sum (garbled garble (unit_text (Framed f)))))) (Framed f)
    by true = refl
    by false = tt

one_is_of : (way : WayState) (unit : LineUnit) → AreOf (items_of way unit) (unit ∷ [])
one_is_of way unit = by (fits way.bytes (unit_text unit)) (nat_lt 0 way.marks.drops)
  where
    by : (room lost : Bool) → AreOf (if room then (if lost then [] else unit_item way.marks.garbles unit ∷ []) else []) (unit ∷ [])
    by true true = tt
    by true false = inl (item_is_of way.marks.garbles unit, tt)
    by false lost = tt

all_are_of : (way : WayState) (units : List LineUnit) → AreOf (items_all way units) units
all_are_of way [] = tt
all_are_of way (unit ∷ units) = are_both (items_of way unit) (items_all (after way (Writes unit)) units) (unit ∷ []) units (one_is_of way unit) (all_are_of (after way (Writes unit)) units)

-- ---- one change of what is on its way

judged_by : Change → List Item
judged_by (Grows units) = []
judged_by (Judges items) = items
judged_by Vanishes = []

written_by : Change → List LineUnit
written_by (Grows units) = units
written_by (Judges items) = []
written_by Vanishes = []

change_goes : (change : Change) (way : WayState) (past old new : List Item) (written : List LineUnit) → Becomes change way old new → AreOf (past ++ old) written
    → AreOf ((past ++ judged_by change) ++ new) (written ++ written_by change)
unfolding judged_by written_by
change_goes (Grows units) way past old new written is are =
    subst (λ (l : List Item). AreOf l (written ++ units))
    (append_assoc past old (items_all way units) ∙ ap (λ (l : List Item). past ++ l) (sym is) ∙ ap (λ (l : List Item). l ++ new) (sym (append-nil past)))
    (are_both (past ++ old) (items_all way units) written units are (all_are_of way units))
change_goes (Judges items) way past old new written is are =
    subst (λ (l : List Item). AreOf l (written ++ [])) (ap (λ (l : List Item). past ++ l) is ∙ sym (append_assoc past items new)) (are_more (past ++ old) written [] are)
change_goes Vanishes way past old new written is are =
    subst (λ (l : List Item). AreOf l (written ++ [])) (sym (append-nil past) ∙ sym (append-nil (past ++ [])) ∙ ap (λ (l : List Item). (past ++ []) ++ l) (sym is))
    (are_more past written [] (are_prefix past old written are))

-- ---- one event

up_judged : (m : Machine) (event : Event) → judged_by (up_change m event) ≡ chip_judges event
unfolding judged_by
up_judged m (Outside_does (Chip_takes count rest ways)) = refl
up_judged m (Outside_does (Clears_pipe Host)) = refl
up_judged m (Outside_does (Clears_pipe Chip)) = refl
up_judged m (Outside_does _) = refl
up_judged m (Host_does event) = refl
up_judged m (Host_takes count rest items events) = refl
up_judged m _ = refl

up_written : (m : Machine) (event : Event) → written_by (up_change m event) ≡ host_writes m event
unfolding written_by
up_written m (Outside_does (Chip_takes count rest ways)) = refl
up_written m (Outside_does (Clears_pipe Host)) = refl
up_written m (Outside_does (Clears_pipe Chip)) = refl
up_written m (Outside_does _) = refl
up_written m (Host_does event) = refl
up_written m (Host_takes count rest items events) = refl
up_written m _ = refl

down_judged : (event : Event) (units : List LineUnit) → judged_by (down_change event units) ≡ host_judges event
unfolding judged_by
down_judged (Outside_does (Clears_pipe Host)) units = refl
down_judged (Outside_does (Clears_pipe Chip)) units = refl
down_judged (Outside_does _) units = refl
down_judged (Host_takes count rest items events) units = refl
down_judged _ units = refl

-- what is judged or lost leaves what was written
down_written : (event : Event) (units : List LineUnit) → (written_by (down_change event units) ≡ units) ⊎ (written_by (down_change event units) ≡ [])
unfolding written_by
down_written (Outside_does (Clears_pipe Host)) units = inl refl
down_written (Outside_does (Clears_pipe Chip)) units = inr refl
down_written (Outside_does _) units = inl refl
down_written (Host_takes count rest items events) units = inr refl
down_written _ units = inl refl

up_goes : (m : Machine) (event : Event) (past old new : List Item) (written : List LineUnit) → Becomes (up_change m event) m.outside.outer.to_chip old new → AreOf (past ++ old) written
    → AreOf ((past ++ chip_judges event) ++ new) (written ++ host_writes m event)
up_goes m event past old new written is are =
    subst (λ (l : List LineUnit). AreOf ((past ++ chip_judges event) ++ new) (written ++ l)) (up_written m event)
    (subst (λ (l : List Item). AreOf ((past ++ l) ++ new) (written ++ written_by (up_change m event))) (up_judged m event)
    (change_goes (up_change m event) m.outside.outer.to_chip past old new written is are))

down_goes : (m : Machine) (event : Event) (units : List LineUnit) (past old new : List Item) (written : List LineUnit) → Becomes (down_change event units) m.outside.outer.to_host old new
    → AreOf (past ++ old) written → AreOf ((past ++ host_judges event) ++ new) (written ++ units)
down_goes m event units past old new written is are =
    let goes = subst (λ (l : List Item). AreOf ((past ++ l) ++ new) (written ++ written_by (down_change event units))) (down_judged event units)
    (change_goes (down_change event units) m.outside.outer.to_host past old new written is are) in
    let items = (past ++ host_judges event) ++ new in
    elim (down_written event units) [
      | inl all ↦ subst (λ (l : List LineUnit). AreOf items (written ++ l)) all goes
      | inr none ↦ are_more items written units (subst (λ (l : List LineUnit). AreOf items l) (ap (λ (l : List LineUnit). written ++ l) none ∙ append-nil written) goes)
    ]

-- ---- events one after another

did_both : (m n p : Machine) (a b : List ChipEvent) → ChipDid a m n → ChipDid b n p → ChipDid (a ++ b) m p
did_both m n p a b first later =
    let s = m.outside.outer.chip.state in
    record {
      may = may_all-append s a b first.may (subst (λ (t : ChipState). MayAllChip t b) first.state later.may);
      state = later.state ∙ ap (λ (t : ChipState). after_all t b) first.state ∙ sym (after_all-append s a b);
    }

writes_both : (m n : Machine) (a b : List ChipEvent) → ChipDid a m n → chip_writes m (a ++ b) ≡ chip_writes m a ++ chip_writes n b
writes_both m n a b first =
    let s = m.outside.outer.chip.state in
    ap chip_units (outs_all-append s a b) ∙ units-append (outs_all s a) (outs_all (after_all s a) b)
    ∙ ap (λ (t : ChipState). chip_units (outs_all s a) ++ chip_units (outs_all t b)) (sym first.state)

-- what these events judge and leave, after what was judged and written before
pub record GoesOn (m : Machine) (events : List Event) (up_past down_past : List Item) (up_written down_written : List LineUnit) : Type 0 where
  pub chip_events : List ChipEvent
  pub chip : ChipDid chip_events m (happens_all m events)
  pub up : List Item
  pub down : List Item
  pub carried : Carried (happens_all m events) up down
  pub up_are : AreOf ((up_past ++ chip_judged events) ++ up) (up_written ++ host_writes_all m events)
  pub down_are : AreOf ((down_past ++ host_judged events) ++ down) (down_written ++ chip_writes m chip_events)

pub goes_on : (m : Machine) (events : List Event) (up down up_past down_past : List Item) (up_written down_written : List LineUnit) → Carried m up down
    → HasFrames m.outside.outer.chip.state.port → MayAll m events → AllAtRest m events → AllWriteWell m events → AreOf (up_past ++ up) up_written → AreOf (down_past ++ down) down_written
    → GoesOn m events up_past down_past up_written down_written
goes_on m [] up down up_past down_past up_written down_written carried has may rests well up_are down_are = record {
  chip_events = [];
  chip = record { may = tt; state = refl };
  up = up;
  down = down;
  carried = carried;
  up_are = subst (λ (l : List LineUnit). AreOf ((up_past ++ []) ++ up) l) (sym (append-nil up_written)) (subst (λ (l : List Item). AreOf (l ++ up) up_written) (sym (append-nil up_past)) up_are);
  down_are = subst (λ (l : List LineUnit). AreOf ((down_past ++ []) ++ down) l) (sym (append-nil down_written)) (subst (λ (l : List Item). AreOf (l ++ down) down_written) (sym (append-nil down_past)) down_are);
}
goes_on m (event ∷ events) up down up_past down_past up_written down_written carried has may rests well up_are down_are =
    let n = happens m event in
    let one = event_after m event up down carried has may.0 rests.0 well.0 in
    let units = chip_writes m one.chip_events in
    let more = goes_on n events one.up_after one.down_after (up_past ++ chip_judges event) (down_past ++ host_judges event) (up_written ++ host_writes m event) (down_written ++ units)
    one.carried one.frames may.1 rests.1 well.1
    (up_goes m event up_past up one.up_after up_written one.up_is up_are) (down_goes m event units down_past down one.down_after down_written one.down_is down_are) in
    record {
      chip_events = one.chip_events ++ more.chip_events;
      chip = did_both m n (happens_all n events) one.chip_events more.chip_events one.chip more.chip;
      up = more.up;
      down = more.down;
      carried = more.carried;
      up_are = subst (λ (l : List Item). AreOf (l ++ more.up) (up_written ++ (host_writes m event ++ host_writes_all n events))) (append_assoc up_past (chip_judges event) (chip_judged events))
          (subst (λ (l : List LineUnit). AreOf (((up_past ++ chip_judges event) ++ chip_judged events) ++ more.up) l) (append_assoc up_written (host_writes m event) (host_writes_all n events)) more.up_are);
      down_are = subst (λ (l : List Item). AreOf (l ++ more.down) (down_written ++ chip_writes m (one.chip_events ++ more.chip_events))) (append_assoc down_past (host_judges event) (host_judged events))
          (subst (λ (l : List LineUnit). AreOf (((down_past ++ host_judges event) ++ host_judged events) ++ more.down) l)
          (append_assoc down_written units (chip_writes n more.chip_events) ∙ ap (λ (l : List LineUnit). down_written ++ l) (sym (writes_both m n one.chip_events more.chip_events one.chip))) more.down_are);
    }

-- from a machine with nothing on its way
pub judges_units : (m : Machine) (events : List Event) → Carried m [] [] → HasFrames m.outside.outer.chip.state.port → MayAll m events → AllAtRest m events → AllWriteWell m events → JudgesUnits m events
judges_units m events carried has may rests well =
    let all = goes_on m events [] [] [] [] [] [] carried has may rests well tt tt in
    record { chip_events = all.chip_events; chip = all.chip; up = all.up; down = all.down; carried = all.carried; up_are = all.up_are; down_are = all.down_are }

-- ---- frames

part_skip : (part whole : List FrameParts) (f : FrameParts) → IsPart part whole → IsPart part (f ∷ whole)
part_skip [] whole f is = tt
part_skip (first ∷ part) whole f is = inr is

unit_skip : (unit : LineUnit) (part whole : List FrameParts) → IsPart part whole → IsPart part (unit_frame unit ++ whole)
unit_skip Ack part whole is = is
unit_skip Nak part whole is = is
unit_skip Can part whole is = is
unit_skip (Framed f) part whole is = part_skip part whole f is

unit_keeps : (unit : LineUnit) (part whole : List FrameParts) → IsPart part whole → IsPart (unit_frame unit ++ part) (unit_frame unit ++ whole)
unit_keeps Ack part whole is = is
unit_keeps Nak part whole is = is
unit_keeps Can part whole is = is
unit_keeps (Framed f) part whole is = inl (refl, is)

item_part : (item : Item) (unit : LineUnit) (part whole : List FrameParts) → IsOf item unit → IsPart part whole → IsPart (frames_of (good_unit item) ++ part) (unit_frame unit ++ whole)
item_part (Good good) unit part whole is here =
    subst (λ (u : LineUnit). IsPart (frames_of (good ∷ []) ++ part) (unit_frame u ++ whole)) is
    (subst (λ (l : List FrameParts). IsPart (l ++ part) (unit_frame good ++ whole)) (sym (append-nil (unit_frame good))) (unit_keeps good part whole here))
item_part (Refused refusal) unit part whole is here = unit_skip unit part whole here

frames-append : (a b : List LineUnit) → frames_of (a ++ b) ≡ frames_of a ++ frames_of b
frames-append [] b = refl
frames-append (u ∷ a) b = ap (λ (l : List FrameParts). unit_frame u ++ l) (frames-append a b) ∙ sym (append_assoc (unit_frame u) (frames_of a) (frames_of b))

pub frames_part : (items : List Item) (units : List LineUnit) → AreOf items units → IsPart (frames_of (good_units items)) (frames_of units)
frames_part [] units are = tt
frames_part (item ∷ items) [] are = absurd are
frames_part (item ∷ items) (unit ∷ units) (inl here) =
    subst (λ (l : List FrameParts). IsPart l (unit_frame unit ++ frames_of units)) (sym (frames-append (good_unit item) (good_units items)))
    (item_part item unit (frames_of (good_units items)) (frames_of units) here.0 (frames_part items units here.1))
frames_part (item ∷ items) (unit ∷ units) (inr there) = unit_skip unit (frames_of (good_units (item ∷ items))) (frames_of units) (frames_part (item ∷ items) units there)

pub judges_frames : (m : Machine) (events : List Event) → JudgesUnits m events → JudgesFrames m events
judges_frames m events all = record {
  chip_events = all.chip_events;
  chip = all.chip;
  to_chip = frames_part (chip_judged events) (host_writes_all m events) (are_prefix (chip_judged events) all.up (host_writes_all m events) all.up_are);
  to_host = frames_part (host_judged events) (chip_writes m all.chip_events) (are_prefix (host_judged events) all.down (chip_writes m all.chip_events) all.down_are);
}
