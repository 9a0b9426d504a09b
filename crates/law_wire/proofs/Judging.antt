-- The laws of a link as tests, by which worked transcripts are computed to keep them.
use Rattle.std.proofs.Common.{◌≡◌, ℕ, ◌==◌, ◌&&◌, Bool, true, false, not, if◌then◌else◌, List, [], ◌∷◌, ◌++◌, length, refl, subst}
use Rattle.std.specs.Prelude.{bytes_eq, nat_le}
use Rattle.std.specs.List.{AllByRecursion}
use Rattle.std.proofs.lemmas.Bool.{leb-true}
use Rattle.std.proofs.lemmas.Bool.Decides.{Decides-eqb}
use Rattle.std.proofs.lemmas.Slice.Eq.{bytes_eq-Decides}
use Rattle.serial_frame.specs.Items.{unit_text, ItemText}
use Rattle.serial_frame.specs.declared.item.Item.{Item}
use Rattle.serial_frame.specs.declared.item.Item.TheVariants.{Good, Refused}
use Rattle.serial_frame.specs.declared.unit.Unit.TheVariants.{Ack, Nak, Can, Framed}
use Rattle.serial_link.specs.Rules.{Event, heard, ticked, submitted, asked, Step, items_of, ticks_of, asks_of}
use Rattle.zw_words.specs.declared.side.Side.{Side}
use Rattle.zw_words.specs.declared.side.Side.TheVariants.{Host, Chip}
use Rattle.zw_text.specs.declared.entry.Entry.{Entry}
use Rattle.law_transcript.specs.Lists.{EachAfter}
use Rattle.law_transcript.proofs.Deciding.{first_of, second_of}
use Rattle.law_wire.specs.Serial.{ended, serial_events}
use Rattle.law_wire.specs.Links.{Moment, moments_of, steps_in, round_of, ends_round, is_stalled, texts_of, WriteLast, unit_by, WritesThere, ahead, AreFirst, left_ahead, most_left, LeavesFew, HearsInTime, end_quietly, MayDoInTick, MayDoInLine, MayDo, HasTicked, TicksInTime, asked_for, CollidesAsTold, is_let_in, FindsRoom, KeepsLink, KeepsLinks}
use Rattle.law_wire.proofs.Machine.{first_link, parts_of, obeys_all}

-- each item is judged by the ones before it
abbrev pub each_well : {A : Type 0} → (List A → A → Bool) → List A → List A → Bool
each_well well past [] = true
each_well well past (item ∷ rest) = well past item && each_well well (past ++ item ∷ []) rest

pub each_after : {A : Type 0} (Allowed : List A → A → Type 0) (well : List A → A → Bool) → ((past : List A) (item : A) → well past item ≡ true → Allowed past item)
    → (past rest : List A) → each_well well past rest ≡ true → EachAfter Allowed past rest
each_after Allowed well sound past [] are = tt
each_after Allowed well sound past (item ∷ rest) are =
    (sound past item (first_of _ _ are), each_after Allowed well sound (past ++ item ∷ []) rest (second_of (well past item) _ are))

-- ---- writing

abbrev pub same_texts : List (List ℕ) → List (List ℕ) → Bool
same_texts [] [] = true
same_texts (one ∷ more) (other ∷ others) = bytes_eq one other && same_texts more others
same_texts _ _ = false

same_from : (one other : List (List ℕ)) → same_texts one other ≡ true → one ≡ other
same_from [] [] are = refl
same_from [] (second ∷ others) are = cc
same_from (first ∷ more) [] are = cc
same_from (first ∷ more) (second ∷ others) are =
    subst (λ (text : List ℕ). first ∷ more ≡ text ∷ others) ((bytes_eq-Decides first second).0 (first_of _ _ are))
    (subst (λ (texts : List (List ℕ)). first ∷ more ≡ first ∷ texts) (same_from more others (second_of (bytes_eq first second) _ are)) refl)

abbrev pub writes_last : List Step → List (List ℕ) → Bool
writes_last [] units = same_texts [] units
writes_last (step ∷ []) units = same_texts (texts_of step) units
writes_last (step ∷ next ∷ steps) units = same_texts (texts_of step) [] && writes_last (next ∷ steps) units

write_last : (steps : List Step) (units : List (List ℕ)) → writes_last steps units ≡ true → WriteLast steps units
write_last [] [] are = refl
write_last [] (unit ∷ units) are = cc
write_last (step ∷ []) units are = same_from (texts_of step) units are
write_last (step ∷ next ∷ steps) units are =
    (same_from (texts_of step) [] (first_of _ _ are), write_last (next ∷ steps) units (second_of (same_texts (texts_of step) []) _ are))

abbrev pub all_written : Side → List Moment → Bool
all_written side [] = true
all_written side (one ∷ moments) = writes_last one.steps (unit_by side one.event) && all_written side moments

pub write_all : (side : Side) (moments : List Moment) → all_written side moments ≡ true → AllByRecursion (WritesThere side) moments
write_all side [] are = tt
write_all side (one ∷ moments) are = (
  write_last one.steps (unit_by side one.event) (first_of _ _ are),
  write_all side moments (second_of (writes_last one.steps (unit_by side one.event)) _ are),
)

-- ---- hearing

-- whether a unit is read as this item; of what is refused this is not told
abbrev pub reads_as : Item → List ℕ → Bool
reads_as (Good Ack) unit = bytes_eq unit (unit_text Ack)
reads_as (Good Nak) unit = bytes_eq unit (unit_text Nak)
reads_as (Good Can) unit = bytes_eq unit (unit_text Can)
reads_as (Good (Framed f)) unit = nat_le (length f.body) 252 && bytes_eq unit (unit_text (Framed f))
reads_as (Refused r) unit = false

is_text : (item : Item) (unit : List ℕ) → reads_as item unit ≡ true → ItemText item unit
is_text (Good Ack) unit is = (tt, (bytes_eq-Decides unit (unit_text Ack)).0 is)
is_text (Good Nak) unit is = (tt, (bytes_eq-Decides unit (unit_text Nak)).0 is)
is_text (Good Can) unit is = (tt, (bytes_eq-Decides unit (unit_text Can)).0 is)
is_text (Good (Framed f)) unit is =
    (leb-true _ _ (first_of _ _ is), (bytes_eq-Decides unit (unit_text (Framed f))).0 (second_of (nat_le (length f.body) 252) _ is))
is_text (Refused r) unit is = cc

abbrev pub are_read : List Item → List (List ℕ) → Bool
are_read [] units = true
are_read (item ∷ items) [] = false
are_read (item ∷ items) (unit ∷ units) = reads_as item unit && are_read items units

are_first : (items : List Item) (units : List (List ℕ)) → are_read items units ≡ true → AreFirst items units
are_first [] units are = tt
are_first (item ∷ items) [] are = cc
are_first (item ∷ items) (unit ∷ units) are = (is_text item unit (first_of _ _ are), are_first items units (second_of (reads_as item unit) _ are))

abbrev pub few_left : Bool → ℕ → ℕ → Bool
few_left true left most = nat_le left most
few_left false left most = true

leaves_few : (over : Bool) (left most : ℕ) → few_left over left most ≡ true → LeavesFew over left most
leaves_few true left most few = leb-true _ _ few
leaves_few false left most few = tt

abbrev pub hears_well : Side → List Moment → Moment → Bool
hears_well side past one =
    are_read (items_of one.steps) (if is_stalled past then [] else ahead side past)
    && few_left (ends_round one.event && not (is_stalled past)) (length (left_ahead side past one)) (most_left side past)

pub hears_in_time : (side : Side) (past : List Moment) (one : Moment) → hears_well side past one ≡ true → HearsInTime side past one
hears_in_time side past one well = (
  are_first (items_of one.steps) (if is_stalled past then [] else ahead side past) (first_of _ _ well),
  leaves_few (ends_round one.event && not (is_stalled past)) (length (left_ahead side past one)) (most_left side past)
      (second_of (are_read (items_of one.steps) (if is_stalled past then [] else ahead side past)) _ well),
)

-- ---- ticks

abbrev pub is_first : List Step → Bool
is_first [] = true
is_first (step ∷ steps) = false

abbrev pub does_in_tick : Side → List Step → Event → Bool
does_in_tick side before (heard item) = ticks_of before == 1
does_in_tick side before ticked = ticks_of before == 0
does_in_tick Host before (submitted f) = ticks_of before == 1
does_in_tick Chip before (submitted f) = not (end_quietly before)
does_in_tick side before asked = false

abbrev pub does_in_line : List Step → Event → Bool
does_in_line before (heard item) = true
does_in_line before ticked = false
does_in_line before (submitted f) = true
does_in_line before asked = is_first before

abbrev pub does_well : Side → Bool → List Step → Step → Bool
does_well side true before step = does_in_tick side before step.event
does_well side false before step = does_in_line before step.event

not_so : (is : Bool) → not is ≡ true → is ≡ false
not_so true are = cc
not_so false are = refl

none_before : (before : List Step) → is_first before ≡ true → before ≡ []
none_before [] is = refl
none_before (step ∷ steps) is = cc

may_do_in_tick : (side : Side) (before : List Step) (event : Event) → does_in_tick side before event ≡ true → MayDoInTick side before event
may_do_in_tick Host before (heard item) does = (Decides-eqb (ticks_of before) 1).0 does
may_do_in_tick Chip before (heard item) does = (Decides-eqb (ticks_of before) 1).0 does
may_do_in_tick Host before ticked does = (Decides-eqb (ticks_of before) 0).0 does
may_do_in_tick Chip before ticked does = (Decides-eqb (ticks_of before) 0).0 does
may_do_in_tick Host before (submitted f) does = (Decides-eqb (ticks_of before) 1).0 does
may_do_in_tick Chip before (submitted f) does = not_so (end_quietly before) does
may_do_in_tick Host before asked does = cc
may_do_in_tick Chip before asked does = cc

may_do_in_line : (before : List Step) (event : Event) → does_in_line before event ≡ true → MayDoInLine before event
may_do_in_line before (heard item) does = tt
may_do_in_line before ticked does = cc
may_do_in_line before (submitted f) does = tt
may_do_in_line before asked does = none_before before does

may_do : (side : Side) (is_tick : Bool) (before : List Step) (step : Step) → does_well side is_tick before step ≡ true → MayDo side is_tick before step
may_do side true before step does = may_do_in_tick side before step.event does
may_do side false before step does = may_do_in_line before step.event does

abbrev pub ticks_once : Bool → List Step → Bool
ticks_once true steps = ticks_of steps == 1
ticks_once false steps = true

has_ticked : (over : Bool) (steps : List Step) → ticks_once over steps ≡ true → HasTicked over steps
has_ticked true steps once = (Decides-eqb (ticks_of steps) 1).0 once
has_ticked false steps once = tt

abbrev pub ticks_well : Side → List Moment → Moment → Bool
ticks_well side past one =
    each_well (does_well side (round_of past).is_tick) (steps_in (round_of past).moments) one.steps
    && ticks_once (ends_round one.event && (round_of past).is_tick) (steps_in (round_of past).moments ++ one.steps)

pub ticks_in_time : (side : Side) (past : List Moment) (one : Moment) → ticks_well side past one ≡ true → TicksInTime side past one
ticks_in_time side past one well = (
  each_after (MayDo side (round_of past).is_tick) (does_well side (round_of past).is_tick) (may_do side (round_of past).is_tick)
      (steps_in (round_of past).moments) one.steps (first_of _ _ well),
  has_ticked (ends_round one.event && (round_of past).is_tick) (steps_in (round_of past).moments ++ one.steps)
      (second_of (each_well (does_well side (round_of past).is_tick) (steps_in (round_of past).moments) one.steps) _ well),
)

-- ---- collisions

abbrev pub collides_well : Side → List Moment → Moment → Bool
collides_well side past one = asks_of one.steps == asked_for side past

pub collides_as_told : (side : Side) (past : List Moment) (one : Moment) → collides_well side past one ≡ true → CollidesAsTold side past one
collides_as_told side past one well = (Decides-eqb (asks_of one.steps) (asked_for side past)).0 well

-- ---- all of it

-- where a side does at each event of the serial line what these events ask of its machine, and that is computed to be right, it keeps the laws
unfoldable pub keeps_link : (side : Side) (transcript : List Entry) (acts : List (List Event))
    → length (parts_of side first_link (serial_events transcript) acts) ≡ length (serial_events transcript)
    → all_written side (moments_of (serial_events transcript) (parts_of side first_link (serial_events transcript) acts)) ≡ true
    → each_well (hears_well side) [] (moments_of (serial_events transcript) (parts_of side first_link (serial_events transcript) acts)) ≡ true
    → each_well (ticks_well side) [] (moments_of (serial_events transcript) (parts_of side first_link (serial_events transcript) acts)) ≡ true
    → each_well (collides_well side) [] (moments_of (serial_events transcript) (parts_of side first_link (serial_events transcript) acts)) ≡ true
    → KeepsLink side transcript
keeps_link side transcript acts each writes hears ticks collides =
    let events = serial_events transcript in
    let parts = parts_of side first_link events acts in
    record {
      parts = parts;
      each = each;
      obeys = obeys_all side events acts;
      writes = write_all side (moments_of events parts) writes;
      hears = each_after (HearsInTime side) (hears_well side) (hears_in_time side) [] (moments_of events parts) hears;
      ticks = each_after (TicksInTime side) (ticks_well side) (ticks_in_time side) [] (moments_of events parts) ticks;
      collides = each_after (CollidesAsTold side) (collides_well side) (collides_as_told side) [] (moments_of events parts) collides;
    }

-- ---- both sides

abbrev pub finds_well : Side → List Moment → Moment → Bool
finds_well side past one = is_let_in side (left_ahead side past one) one.event

-- where both do, and just what has no room finds none
unfoldable pub both_links : (whole : Bool) (transcript : List Entry) (chip : KeepsLink Chip (ended whole transcript)) (host : KeepsLink Host (ended whole transcript))
    → each_well (finds_well Chip) [] (moments_of (serial_events (ended whole transcript)) chip.parts) ≡ true
    → each_well (finds_well Host) [] (moments_of (serial_events (ended whole transcript)) host.parts) ≡ true → KeepsLinks whole transcript
both_links whole transcript chip host up down = record {
  chip = chip;
  host = host;
  up = each_after (FindsRoom Chip) (finds_well Chip) (λ past one is. is) [] (moments_of (serial_events (ended whole transcript)) chip.parts) up;
  down = each_after (FindsRoom Host) (finds_well Host) (λ past one is. is) [] (moments_of (serial_events (ended whole transcript)) host.parts) down;
}
