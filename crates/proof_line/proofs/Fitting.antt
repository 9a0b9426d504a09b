-- A unit that is not overrun fits where its pipe surely holds no more than is there; and what it makes of the pipes that the transcript shows, and of what is on its way.
use Rattle.std.proofs.Common.{◌≡◌, ◌≤◌, ◌<◌, ◌⊎◌, ℕ, ◌+◌, ◌-◌, ◌==◌, ◌&&◌, nat_lt, nat_le, Bool, true, false, if◌then◌else◌, List, [], ◌∷◌, ◌++◌, length, take, drop, inl, inr, refl, sym, ap, subst, ◌∙◌, append-nil, append_assoc, arith}
use Rattle.std.specs.List.{flat_map, list_all}
use Rattle.std.proofs.lemmas.Bool.{leb-true, le-leb}
use Rattle.std.proofs.lemmas.List.{length-append, take_at}
use Rattle.serial_frame.specs.Frame.{FrameParts}
use Rattle.serial_frame.specs.Items.{unit_text, IsUnit}
use Rattle.serial_frame.specs.Stream.{no_rest}
use Rattle.serial_frame.specs.declared.item.Item.{Item}
use Rattle.serial_frame.specs.declared.item.Item.TheVariants.{Good, Refused}
use Rattle.serial_frame.specs.declared.item.Refusal.TheVariants.{BadSum}
use Rattle.serial_frame.specs.declared.unit.Unit.{Unit as LineUnit}
use Rattle.serial_frame.specs.declared.unit.Unit.TheVariants.{Ack, Nak, Can, Framed}
use Rattle.serial_pipes.specs.State.{WayState, fits, mark_for, change_for, garbled}
use Rattle.serial_pipes.specs.Events.{told, told_by, passing, Writes, after}
use Rattle.serial_pipes.specs.declared.pipe.TheConstants.{CAPACITY}
use Rattle.serial_pipes.specs.declared.marks.Garble.{Garble}
use Rattle.serial_pipes.specs.declared.marks.Mark.{Mark}
use Rattle.serial_pipes.specs.declared.marks.Mark.TheVariants.{Free, Lost, Changed}
use Rattle.zw_words.specs.declared.side.Side.{Side}
use Rattle.zw_words.specs.declared.side.Side.TheVariants.{Host as by_host, Chip as by_chip}
use Rattle.zw_text.specs.declared.entry.Entry.{Entry}
use Rattle.zw_text.specs.declared.entry.Entry.TheVariants as entry
use Rattle.zw_text.specs.Transcript.{same_side}
use Rattle.law_wire.specs.law_transcript.Lists.{EachAfter}
use Rattle.law_wire.specs.Pipes.{Pipe, empty_pipe, with_unit, with_answer, gone_on, is_lost, pipe_from, sum_of, bytes_surely, Unit_last, unit_last, unit_by, may_fit}
use Rattle.law_wire.specs.Links.{other}
use Rattle.proof_world.specs.proof_serial.Way.{items_of, unit_item, changed_item, wanted_sum, found_sum}
use Rattle.proof_world.proofs.ChangedUnits.{garbled_long}
use Rattle.proof_world.proofs.Ways.{carries_more}
use Rattle.proof_line.specs.Rooms.{MayFit, LastFits, HasUnanswered, answers_due, Fills}
use Rattle.proof_line.proofs.Standing.{last_only, but_last, same_itself, frame_long}
use Rattle.proof_line.proofs.Holding.{pipe_grows, own_pipe, other_pipe, sum_more}
use Rattle.proof_world.proofs.Outer.{wrong as no_refusal}

-- ---- the unit that stands last

-- only an entry of a unit has one
one_last : (past : List Entry) (e : Entry) → unit_last (past ++ e ∷ []) ≡ unit_by (past ++ e ∷ []) e ++ []
one_last past e = ap (λ (l : List Entry). flat_map (unit_by (past ++ e ∷ [])) l) (last_only past e)

last_fits : (past : List Entry) (e : Entry) → list_all may_fit (unit_by (past ++ e ∷ []) e ++ []) ≡ true → LastFits (past ++ e ∷ [])
last_fits past e fit = ap (list_all may_fit) (one_last past e) ∙ fit

-- after any other entry none does
pub apart_fits : (past : List Entry) (e : Entry) → unit_by (past ++ e ∷ []) e ≡ [] → LastFits (past ++ e ∷ [])
apart_fits past e none = last_fits past e (ap (λ (l : List Unit_last). list_all may_fit (l ++ [])) none)

-- ---- a unit

-- the number of answers that a unit is, and of those that it is due
abbrev pub answers_in : LineUnit → ℕ
answers_in Ack = 1
answers_in Nak = 1
answers_in Can = 1
answers_in (Framed f) = 0

abbrev pub due_to : LineUnit → ℕ
due_to Ack = 0
due_to Nak = 0
due_to Can = 0
due_to (Framed f) = 1

either_due : (b : Bool) (f : FrameParts) (want got : ℕ) → answers_due ((if b then Good (Framed f) else Refused (BadSum want got)) ∷ []) ≡ 1
either_due true f want got = refl
either_due false f want got = refl

changed_due : (garble : Garble) (f : FrameParts) → answers_due (changed_item garble f ∷ []) ≡ 1
changed_due garble f = either_due (garble.xor == 0) f (wanted_sum (garbled garble (unit_text (Framed f)))) (found_sum (garbled garble (unit_text (Framed f))))

item_due : (garbles : List Garble) (unit : LineUnit) → answers_due (unit_item garbles unit ∷ []) ≡ due_to unit
item_due garbles Ack = refl
item_due garbles Nak = refl
item_due garbles Can = refl
item_due [] (Framed f) = refl
item_due (garble ∷ garbles) (Framed f) = changed_due garble f

module _ (side : Side) (way : WayState) (unit : LineUnit) where
  abbrev text : List ℕ
  text = unit_text unit

  -- it is lost, or on its way
  abbrev Arrives : Bool → List ℕ → List Item → Type 0
  Arrives lost bytes items =
      ((lost ≡ true) × (length bytes ≡ length way.bytes) × (items ≡ []))
      ⊎ ((lost ≡ false) × (length bytes ≡ length way.bytes + length text) × (answers_due items ≡ due_to unit) × (length way.bytes + length text ≤ 4096))

  -- a text that finds room, or none
  joins : (t : List ℕ) (room : Bool) → length t ≡ length text → fits way.bytes t ≡ room
      → Arrives (is_lost side (if room then [] else entry.Overrun side ∷ [])) (if room then way.bytes ++ t else way.bytes) (if room then unit_item way.marks.garbles unit ∷ [] else [])
  joins t true long is =
      let few = leb-true (length way.bytes + length t) 4096 is in
      inr (refl, length-append way.bytes t ∙ ap (λ (n : ℕ). length way.bytes + n) long, item_due way.marks.garbles unit, subst (λ (n : ℕ). length way.bytes + n ≤ 4096) long few)
  joins t false long is = inl (same_itself side, refl, refl)

  changed_joins : (t : List ℕ) (room : Bool) → length t ≡ length text → fits way.bytes t ≡ room
      → Arrives (is_lost side (entry.Garbled side t ∷ (if room then [] else entry.Overrun side ∷ []))) (if room then way.bytes ++ t else way.bytes)
      (if room then unit_item way.marks.garbles unit ∷ [] else [])
  changed_joins t true long is =
      let few = leb-true (length way.bytes + length t) 4096 is in
      inr (refl, length-append way.bytes t ∙ ap (λ (n : ℕ). length way.bytes + n) long, item_due way.marks.garbles unit, subst (λ (n : ℕ). length way.bytes + n ≤ 4096) long few)
  changed_joins t false long is = inl (same_itself side, refl, refl)

  -- by its mark
  abbrev ArrivesBy : Mark → List Item → Type 0
  ArrivesBy mark items = Arrives (is_lost side (told_by side way.bytes mark text)) (passing way mark text).bytes items

  lost_arrives : (room : Bool) → ArrivesBy Lost (if room then [] else [])
  lost_arrives true = inl (same_itself side, refl, refl)
  lost_arrives false = inl (same_itself side, refl, refl)

  free_arrives : ArrivesBy Free (if fits way.bytes text then unit_item way.marks.garbles unit ∷ [] else [])
  free_arrives = joins text (fits way.bytes text) refl refl

  changed_arrives : (garble : Garble) → ArrivesBy (Changed garble) (if fits way.bytes text then unit_item way.marks.garbles unit ∷ [] else [])
  changed_arrives garble =
      let t : List ℕ = garbled garble text in
      subst (λ (b : Bool). ArrivesBy (Changed garble) (if b then unit_item way.marks.garbles unit ∷ [] else []))
      (ap (λ (n : ℕ). nat_le (length way.bytes + n) CAPACITY) (garbled_long garble text))
      (changed_joins t (fits way.bytes t) (garbled_long garble text) refl)

-- by the change that waits
change_arrives : (side : Side) (way : WayState) (unit : LineUnit) (garbles : List Garble) → way.marks.garbles ≡ garbles
    → ArrivesBy side way unit (change_for garbles unit) (if fits way.bytes (unit_text unit) then unit_item way.marks.garbles unit ∷ [] else [])
change_arrives side way Ack garbles is = free_arrives side way Ack
change_arrives side way Nak garbles is = free_arrives side way Nak
change_arrives side way Can garbles is = free_arrives side way Can
change_arrives side way (Framed f) [] is = free_arrives side way (Framed f)
change_arrives side way (Framed f) (garble ∷ garbles) is = changed_arrives side way (Framed f) garble

arrives : (side : Side) (way : WayState) (unit : LineUnit) → ArrivesBy side way unit (mark_for way.marks unit) (items_of way unit)
arrives side way unit = by (nat_lt 0 way.marks.drops)
  where
    by : (b : Bool)
        → ArrivesBy side way unit (if b then Lost else change_for way.marks.garbles unit)
        (if fits way.bytes (unit_text unit) then (if b then [] else unit_item way.marks.garbles unit ∷ []) else [])
    by true = lost_arrives side way unit (fits way.bytes (unit_text unit))
    by false = change_arrives side way unit way.marks.garbles refl

-- ---- what it makes of the pipe of its side

due_both : (xs ys : List Item) → answers_due (xs ++ ys) ≡ answers_due xs + answers_due ys
due_both [] ys = omega arith
due_both (x ∷ xs) ys = let more = due_both xs ys in omega (arith, more)

-- a unit in its pipe: an answer, or a frame of some bytes
pub record Adds (unit : LineUnit) (old new : Pipe) : Type 0 where
  pub frames : length new.frames ≡ length old.frames + due_to unit
  pub sum : sum_of new.frames + answers_in unit ≡ sum_of old.frames + length (unit_text unit)
  pub answers : new.answers ≡ old.answers + answers_in unit
  pub long : sum_of old.frames + (due_to unit + due_to unit) ≤ sum_of new.frames
  pub written : new.has_written ≡ true

frame_adds : (f : FrameParts) (pipe : Pipe) → Adds (Framed f) pipe (with_unit (length (unit_text (Framed f))) pipe)
frame_adds f pipe =
    subst (λ (p : Pipe). Adds (Framed f) pipe p) (sym (ap (λ (b : Bool). if b then one else other) (frame_long f))) (
    record {
      frames = length-append pipe.frames (length (unit_text (Framed f)) ∷ []);
      sum = let more = sum_more pipe.frames (length (unit_text (Framed f))) in omega (arith, more);
      answers = omega arith;
      long = let more = sum_more pipe.frames (length (unit_text (Framed f))) in omega (arith, more);
      written = refl;
    }
    )
  where
    one : Pipe
    one = record pipe { answers = pipe.answers + 1; has_written = true }

    other : Pipe
    other = record pipe { frames = pipe.frames ++ length (unit_text (Framed f)) ∷ []; has_written = true }

answer_adds : (unit : LineUnit) (pipe : Pipe) → length (unit_text unit) ≡ 1 → answers_in unit ≡ 1 → due_to unit ≡ 0 → Adds unit pipe (with_unit 1 pipe)
answer_adds unit pipe one answer none = record {
  frames = omega (arith, none);
  sum = omega (arith, one, answer);
  answers = omega (arith, answer);
  long = omega (arith, none);
  written = refl;
}

pub adds : (unit : LineUnit) (pipe : Pipe) → Adds unit pipe (with_unit (length (unit_text unit)) pipe)
adds Ack pipe = answer_adds Ack pipe refl refl refl
adds Nak pipe = answer_adds Nak pipe refl refl refl
adds Can pipe = answer_adds Can pipe refl refl refl
adds (Framed f) pipe = frame_adds f pipe

-- it is lost, or in the pipe and on its way
pub record IsLostOf (way : WayState) (unit : LineUnit) (old new : Pipe) : Type 0 where
  pub pipe : new ≡ old
  pub bytes : length (after way (Writes unit)).bytes ≡ length way.bytes
  pub items : items_of way unit ≡ []

pub record IsThere (way : WayState) (unit : LineUnit) (old new : Pipe) : Type 0 where
  pub pipe : Adds unit old new
  pub bytes : length (after way (Writes unit)).bytes ≡ length way.bytes + length (unit_text unit)
  pub items : answers_due (items_of way unit) ≡ due_to unit
  pub room : length way.bytes + length (unit_text unit) ≤ 4096

pub unit_goes : (side : Side) (way : WayState) (unit : LineUnit) (past : List Entry)
    → IsLostOf way unit (pipe_from side empty_pipe past) (pipe_from side empty_pipe (past ++ told side way unit))
    ⊎ IsThere way unit (pipe_from side empty_pipe past) (pipe_from side empty_pipe (past ++ told side way unit))
unit_goes side way unit past = by (arrives side way unit)
  where
    old : Pipe
    old = pipe_from side empty_pipe past

    new : Pipe
    new = pipe_from side empty_pipe (past ++ told side way unit)

    is_lost_one : Bool
    is_lost_one = is_lost side (told_by side way.bytes (mark_for way.marks unit) (unit_text unit))

    new_is : new ≡ (if is_lost_one then old else with_unit (length (unit_text unit)) old)
    new_is = pipe_grows side empty_pipe past (told side way unit) tt no_refusal ∙ own_pipe side way unit old

    by : ArrivesBy side way unit (mark_for way.marks unit) (items_of way unit) → IsLostOf way unit old new ⊎ IsThere way unit old new
    by (inl (lost, bytes, items)) = inl (record { pipe = new_is ∙ ap (λ (b : Bool). if b then old else with_unit (length (unit_text unit)) old) lost; bytes = bytes; items = items })
    by (inr (there, bytes, items, room)) =
        inr (record {
          pipe = subst (λ (p : Pipe). Adds unit old p) (sym (new_is ∙ ap (λ (b : Bool). if b then old else with_unit (length (unit_text unit)) old) there)) (adds unit old);
          bytes = bytes;
          items = items;
          room = room;
        })

-- what is on its way goes on
pub unit_fills : (side : Side) (way : WayState) (unit : LineUnit) (past : List Entry) → IsUnit unit → Fills way (pipe_from side empty_pipe past)
    → Fills (after way (Writes unit)) (pipe_from side empty_pipe (past ++ told side way unit))
unit_fills side way unit past is fills = by (unit_goes side way unit past)
  where
    old : Pipe
    old = pipe_from side empty_pipe past

    new : Pipe
    new = pipe_from side empty_pipe (past ++ told side way unit)

    both : answers_due (fills.items ++ items_of way unit) ≡ answers_due fills.items + answers_due (items_of way unit)
    both = due_both fills.items (items_of way unit)

    none_due : items_of way unit ≡ [] → answers_due (items_of way unit) ≡ 0
    none_due none = ap (λ (l : List Item). answers_due l) none

    ended : new.has_written ≡ true → new.has_written ≡ false → new.answers ≡ 0
    ended written none = absurd (let bad : true ≡ false = sym written ∙ none in cc)

    by : IsLostOf way unit old new ⊎ IsThere way unit old new → Fills (after way (Writes unit)) new
    by (inl lost) = record {
      items = fills.items ++ items_of way unit;
      carries = carries_more no_rest way unit fills.items fills.carries is;
      many = let same = ap (λ (p : Pipe). length p.frames) lost.pipe in let none = none_due lost.items in let many = fills.many in omega (arith, same, none, many, both);
      few = let same = ap (λ (p : Pipe). sum_of p.frames) lost.pipe in let few = fills.few in let bytes = lost.bytes in omega (arith, same, few, bytes);
      long = subst (λ (p : Pipe). length p.frames + length p.frames ≤ sum_of p.frames) (sym lost.pipe) fills.long;
      room = let room = fills.room in let bytes = lost.bytes in omega (arith, room, bytes);
      idle = subst (λ (p : Pipe). p.has_written ≡ false → p.answers ≡ 0) (sym lost.pipe) fills.idle;
    }
    by (inr there) =
        let frames = there.pipe.frames in
        let sum = there.pipe.sum in
        let longer = there.pipe.long in
        let bytes = there.bytes in
        let few = fills.few in
        let long = fills.long in
        let many = fills.many in
        let due = there.items in
        let room = there.room in
        record {
          items = fills.items ++ items_of way unit;
          carries = carries_more no_rest way unit fills.items fills.carries is;
          many = omega (arith, frames, many, due, both);
          few = omega (arith, sum, few, bytes);
          long = omega (arith, frames, longer, long);
          room = omega (arith, bytes, room);
          idle = ended there.pipe.written;
        }

-- how much more it surely holds than is there does not grow
pub unit_loose : (side : Side) (way : WayState) (unit : LineUnit) (past : List Entry) (more : ℕ)
    → sum_of (pipe_from side empty_pipe past).frames + (pipe_from side empty_pipe past).answers ≤ length way.bytes + more
    → sum_of (pipe_from side empty_pipe (past ++ told side way unit)).frames + (pipe_from side empty_pipe (past ++ told side way unit)).answers ≤ length (after way (Writes unit)).bytes + more
unit_loose side way unit past more loose = by (unit_goes side way unit past)
  where
    old : Pipe
    old = pipe_from side empty_pipe past

    new : Pipe
    new = pipe_from side empty_pipe (past ++ told side way unit)

    by : IsLostOf way unit old new ⊎ IsThere way unit old new → sum_of new.frames + new.answers ≤ length (after way (Writes unit)).bytes + more
    by (inl lost) = subst (λ (p : Pipe). sum_of p.frames + p.answers ≤ length (after way (Writes unit)).bytes + more) (sym lost.pipe) (let bytes = lost.bytes in omega (arith, loose, bytes))
    by (inr there) = let sum = there.pipe.sum in let answers = there.pipe.answers in let bytes = there.bytes in omega (arith, loose, sum, answers, bytes)

-- no more bytes are on their way than it has
pub unit_grows_few : (side : Side) (way : WayState) (unit : LineUnit) (past : List Entry) → length (after way (Writes unit)).bytes ≤ length way.bytes + length (unit_text unit)
unit_grows_few side way unit past = by (unit_goes side way unit past)
  where
    by : IsLostOf way unit (pipe_from side empty_pipe past) (pipe_from side empty_pipe (past ++ told side way unit))
        ⊎ IsThere way unit (pipe_from side empty_pipe past) (pipe_from side empty_pipe (past ++ told side way unit))
        → length (after way (Writes unit)).bytes ≤ length way.bytes + length (unit_text unit)
    by (inl lost) = let bytes = lost.bytes in omega (arith, bytes)
    by (inr there) = let bytes = there.bytes in omega (arith, bytes)

-- it has given at most one answer more
pub unit_answers : (side : Side) (way : WayState) (unit : LineUnit) (past : List Entry)
    → (pipe_from side empty_pipe (past ++ told side way unit)).answers ≤ (pipe_from side empty_pipe past).answers + answers_in unit
unit_answers side way unit past = by (unit_goes side way unit past)
  where
    old : Pipe
    old = pipe_from side empty_pipe past

    new : Pipe
    new = pipe_from side empty_pipe (past ++ told side way unit)

    by : IsLostOf way unit old new ⊎ IsThere way unit old new → new.answers ≤ old.answers + answers_in unit
    by (inl lost) = subst (λ (p : Pipe). p.answers ≤ old.answers + answers_in unit) (sym lost.pipe) (omega arith)
    by (inr there) = let answers = there.pipe.answers in omega (arith, answers)

-- ---- and of the other

drop_answer : (unit : LineUnit) (pipe : Pipe) → with_answer (length (unit_text unit)) pipe ≡ record pipe { frames = drop (answers_in unit) pipe.frames }
drop_answer Ack pipe = refl
drop_answer Nak pipe = refl
drop_answer Can pipe = refl
drop_answer (Framed f) pipe = ap (λ (b : Bool). if b then record pipe { frames = drop 1 pipe.frames } else pipe) (frame_long f)

-- an answer takes a frame away, and what the other side had answered is gone
pub record IsAnswered (n : ℕ) (old new : Pipe) : Type 0 where
  pub frames : new.frames ≡ drop n old.frames
  pub answers : new.answers ≤ old.answers
  pub idle : new.has_written ≡ false → new.answers ≡ 0
  pub gone : new.answers ≡ 0

going : (pipe : Pipe) (written : Bool) → pipe.has_written ≡ written → (pipe.has_written ≡ false → pipe.answers ≡ 0)
    → ((if written then record pipe { answers = 0; older = 0 } else pipe).frames ≡ pipe.frames) × ((if written then record pipe { answers = 0; older = 0 } else pipe).answers ≡ 0)
going pipe true is idle = (refl, refl)
going pipe false is idle = (refl, idle is)

pub other_answered : (side other : Side) → same_side other side ≡ false → (way : WayState) (unit : LineUnit) (past : List Entry)
    → ((pipe_from other empty_pipe past).has_written ≡ false → (pipe_from other empty_pipe past).answers ≡ 0)
    → IsAnswered (answers_in unit) (pipe_from other empty_pipe past) (pipe_from other empty_pipe (past ++ told side way unit))
other_answered side other apart way unit past idle =
    let old : Pipe = pipe_from other empty_pipe past in
    let went = going old old.has_written refl idle in
    let new_is = pipe_grows other empty_pipe past (told side way unit) tt no_refusal ∙ other_pipe side way unit other old apart ∙ drop_answer unit (gone_on old) in
    subst (λ (p : Pipe). IsAnswered (answers_in unit) old p) (sym new_is) (
    record {
      frames = ap (λ (l : List ℕ). drop (answers_in unit) l) went.0;
      answers = let none = went.1 in omega (arith, none);
      idle = λ none. went.1;
      gone = went.1;
    }
    )

opposite : (side oth : Side) → same_side oth side ≡ false → other side ≡ oth
opposite by_host by_host apart = absurd (let none : true ≡ false = apart in cc)
opposite by_host by_chip apart = refl
opposite by_chip by_host apart = refl
opposite by_chip by_chip apart = absurd (let none : true ≡ false = apart in cc)

-- an answer is a unit of one byte
one_answers : (unit : LineUnit) → length (unit_text unit) ≡ 1 → answers_in unit ≡ 1
one_answers Ack one = refl
one_answers Nak one = refl
one_answers Can one = refl
one_answers (Framed f) one = absurd (omega (arith, one))

pub answers_one : (side oth : Side) → same_side oth side ≡ false → (unit : LineUnit) (past : List Entry) → answers_in unit ≤ length (pipe_from oth empty_pipe past).frames → length (unit_text unit) ≡ 1
    → HasUnanswered side past
answers_one side oth apart unit past due one =
    subst (λ (s : Side). 0 < length (pipe_from s empty_pipe past).frames) (sym (opposite side oth apart)) (let answer = one_answers unit one in omega (arith, due, answer))

-- ---- it fits

module _ (side : Side) (way : WayState) (unit : LineUnit) (past : List Entry)
    (room : length way.bytes + length (unit_text unit) ≤ 4096 → sum_of (pipe_from side empty_pipe past).frames + (pipe_from side empty_pipe past).answers + length (unit_text unit) ≤ 4096) where
  abbrev words : List ℕ
  words = unit_text unit

  abbrev written : List Entry
  written = past ++ entry.Written side words ∷ []

  -- so many bytes fit after these entries
  surely : (bytes : List ℕ) (before : List Entry) → length bytes ≡ length words → before ≡ past → fits way.bytes bytes ≡ true
      → may_fit (record { side = side; count = length bytes; before = before }) && true ≡ true
  surely bytes before same is fit =
      let few = leb-true (length way.bytes + length bytes) 4096 fit in
      let holds = room (subst (λ (n : ℕ). length way.bytes + n ≤ 4096) same few) in
      let here : bytes_surely side before + length bytes ≤ 4096
      = subst (λ (l : List Entry). bytes_surely side l + length bytes ≤ 4096) (sym is) (subst (λ (n : ℕ). bytes_surely side past + n ≤ 4096) (sym same) holds) in
      ap (λ (b : Bool). b && true) (le-leb (bytes_surely side before + length bytes) 4096 here)

  written_fits : fits way.bytes words ≡ true → LastFits written
  written_fits fit = last_fits past (entry.Written side words) (surely words (take (length written - 1) written) refl (but_last past (entry.Written side words)) fit)

  changed_fits : (bytes : List ℕ) → length bytes ≡ length words → fits way.bytes bytes ≡ true → LastFits (written ++ entry.Garbled side bytes ∷ [])
  changed_fits bytes same fit =
      last_fits written (entry.Garbled side bytes)
      (surely bytes (take (length (written ++ entry.Garbled side bytes ∷ []) - 2) (written ++ entry.Garbled side bytes ∷ [])) same before fit)
    where
      two : List Entry
      two = entry.Written side words ∷ entry.Garbled side bytes ∷ []

      two_less : length (past ++ two) ≡ length past + 2 → length past ≡ length (past ++ two) - 2
      two_less is = omega (arith, is)

      before : take (length (written ++ entry.Garbled side bytes ∷ []) - 2) (written ++ entry.Garbled side bytes ∷ []) ≡ past
      before =
          ap (λ (l : List Entry). take (length l - 2) l) (append_assoc past (entry.Written side words ∷ []) (entry.Garbled side bytes ∷ []))
          ∙ take_at past two (length (past ++ two) - 2) (two_less (length-append past two))

  -- with what is told of it
  marks_fit : (mark : Mark) → EachAfter MayFit written (told_by side way.bytes mark words) × LastFits (written ++ told_by side way.bytes mark words)
  marks_fit Free = by (fits way.bytes words) refl
    where
      by : (b : Bool) → fits way.bytes words ≡ b → EachAfter MayFit written (if b then [] else entry.Overrun side ∷ []) × LastFits (written ++ (if b then [] else entry.Overrun side ∷ []))
      by true is = (tt, subst LastFits (sym (append-nil written)) (written_fits is))
      by false is = ((tt, tt), apart_fits written (entry.Overrun side) refl)
  marks_fit Lost = ((refl, tt), apart_fits written (entry.Dropped side) refl)
  marks_fit (Changed garble) =
      let got = by (fits way.bytes (garbled garble words)) refl in
      ((refl, got.0), subst LastFits (append_assoc written (entry.Garbled side (garbled garble words) ∷ []) (told_rest (fits way.bytes (garbled garble words)))) got.1)
    where
      told_rest : Bool → List Entry
      told_rest b = if b then [] else entry.Overrun side ∷ []

      changed : List Entry
      changed = written ++ entry.Garbled side (garbled garble words) ∷ []

      by : (b : Bool) → fits way.bytes (garbled garble words) ≡ b → EachAfter MayFit changed (told_rest b) × LastFits (changed ++ told_rest b)
      by true is = (tt, subst LastFits (sym (append-nil changed)) (changed_fits (garbled garble words) (garbled_long garble words) is))
      by false is = ((tt, tt), apart_fits changed (entry.Overrun side) refl)

  pub unit_fits : (length (unit_text unit) ≡ 1 → HasUnanswered side past) → LastFits past → EachAfter MayFit past (told side way unit) × LastFits (past ++ told side way unit)
  unit_fits due before =
      let marks = marks_fit (mark_for way.marks unit) in
      (((before, due), marks.0), subst LastFits (append_assoc past (entry.Written side words ∷ []) (told_by side way.bytes (mark_for way.marks unit) words)) marks.1)
