-- What the host of `sim` heard has the events of the serial line that the run has, but for the units of the chip of which nothing came.
use Rattle.std.proofs.Common.{◌≡◌, ◌⊎◌, ℕ, zero, suc, ◌+◌, ◌-◌, nat_lt, ◌==◌, Bool, true, false, if◌then◌else◌, inl, inr, List, [], ◌∷◌, ◌++◌, length, replicate, map, take, refl, sym, ap, ◌∙◌, subst, append_assoc, append-nil}
use Rattle.std.specs.Prelude.{Option, Some, None, Result, Ok, Err}
use Rattle.std.specs.List.{flat_map}
use Rattle.zw_words.specs.declared.fault.LineFault.{LineFault}
use Rattle.zw_words.specs.declared.side.Side.TheVariants.{Chip, Host}
use Rattle.zw_text.specs.Line.{line_at}
use Rattle.zw_text.specs.declared.line.Line.{Line}
use Rattle.zw_text.specs.declared.line.Line.TheVariants as lines
use Rattle.zw_text.specs.declared.entry.Refusal.{Refusal}
use Rattle.zw_text.specs.declared.entry.Entry.{Entry}
use Rattle.zw_text.specs.declared.entry.Entry.TheVariants as entry
use Rattle.zw_text.specs.Transcript.{line_last, line_of, read_as}
use Rattle.law_transcript.specs.Answers.{Follows, MayAnswer, before_last}
use Rattle.law_transcript.specs.Lists.{EachAfter}
use Rattle.law_transcript.specs.Restarts.{begins_refused, is_restart, ticks_asked}
use Rattle.law_wire.specs.Marks.{Changing, IsMarked, Marks, becomes, becomes_by, changed_by, marks_of, to_stand}
use Rattle.law_wire.specs.Serial.{SerialEvent, arriving_of, beginning_of, done_line, lacking_of, serial_events_from, ticks_up_to}
use Rattle.law_wire.specs.Serial.SerialEvent.{Line_begins, Tick_begins, Writes}
use Rattle.law_wire.specs.Links.{arrival_of, ends_round, line_in, stall_by, tick_of, unit_by}
use Rattle.proof_asking.specs.proof_requests.law_host.Heard.{come_as, heard_from, is_of_others, is_of_outside}
use Rattle.proof_asking.proofs.ByLine.{last_is}
use Rattle.proof_asking.proofs.Standing.{last_only}

-- ---- events

-- a unit of the chip of which nothing arrives
abbrev pub is_unheard : SerialEvent → Bool
is_unheard (Writes Chip unit [] lacking) = true
is_unheard _ = false

-- to the host they are the same
pub record IsAlike (one other : SerialEvent) : Type 0 where
  pub restarts : is_restart (line_in one) ≡ is_restart (line_in other)
  pub stalls : (clock : ℕ) → flat_map (stall_by clock) (line_in one) ≡ flat_map (stall_by clock) (line_in other)
  pub ticks : length (tick_of one) ≡ length (tick_of other)
  pub units : unit_by Host one ≡ unit_by Host other
  pub arrivals : arrival_of Chip one ≡ arrival_of Chip other
  pub ends : ends_round one ≡ ends_round other

same_alike : (one : SerialEvent) → IsAlike one one
same_alike one = record { restarts = refl; stalls = λ clock. refl; ticks = refl; units = refl; arrivals = refl; ends = refl }

-- these are heard of those: all but such units
abbrev pub AreHeard : List SerialEvent → List SerialEvent → Type 0
AreHeard [] others = others ≡ []
AreHeard (one ∷ events) others =
    ((is_unheard one ≡ true) × AreHeard events others)
    ⊎ ((other : SerialEvent) × (more : List SerialEvent) × (others ≡ other ∷ more) × IsAlike one other × AreHeard events more)

-- ---- ticks and lines

ticks_first : (count : ℕ) (events others : List SerialEvent) → AreHeard events others → AreHeard (replicate count Tick_begins ++ events) (replicate count Tick_begins ++ others)
ticks_first zero events others are = are
ticks_first (suc count) events others are =
    inr (Tick_begins, replicate count Tick_begins ++ others, refl, same_alike Tick_begins, ticks_first count events others are)

-- ticks, and then a line
pub ticks_then : (now due : ℕ) (first second events others : List SerialEvent) → AreHeard (first ++ events) (second ++ others)
    → AreHeard ((ticks_up_to now due ++ first) ++ events) ((ticks_up_to now due ++ second) ++ others)
ticks_then now due first second events others are =
    let ticks : List SerialEvent = ticks_up_to now due in
    subst (λ (l : List SerialEvent). AreHeard l ((ticks ++ second) ++ others)) (sym (append_assoc ticks first events))
    (subst (λ (l : List SerialEvent). AreHeard (ticks ++ (first ++ events)) l) (sym (append_assoc ticks second others))
    (ticks_first (due - now) (first ++ events) (second ++ others) are))

pub line_first : (line : List Line) (events others : List SerialEvent) → AreHeard events others → AreHeard (beginning_of line ++ events) (beginning_of line ++ others)
line_first [] events others are = inr (Line_begins [], others, refl, same_alike (Line_begins []), are)
line_first (lines.Tick count ∷ more) events others are = are
line_first (line ∷ more) events others are = inr (Line_begins (line ∷ more), others, refl, same_alike (Line_begins (line ∷ more)), are)

-- words are a line, or none
abbrev IsOne : List Line → Type 0
IsOne line = (line ≡ []) ⊎ ((one : Line) × (line ≡ one ∷ []))

words_one : (words : List ℕ) → IsOne (line_of (entry.Said words))
words_one words = by (line_at words)
  where
    by : (result : Result (Option Line) LineFault) → IsOne (read_as result)
    by (Ok (Some line)) = inr (line, refl)
    by (Ok None) = inl refl
    by (Err fault) = inl refl

-- a line for others begins, whether it is refused or not
abbrev BeginsAlike : Line → Type 0
BeginsAlike line = (beginning_of (line ∷ []) ≡ Line_begins (line ∷ []) ∷ []) × IsAlike (Line_begins []) (Line_begins (line ∷ []))

others_begin : (line : Line) → is_of_others (line ∷ []) ≡ true → BeginsAlike line
others_begin (lines.Repeat frame) is = (refl, record { restarts = refl; stalls = λ clock. refl; ticks = refl; units = refl; arrivals = refl; ends = refl })
others_begin (lines.Wake node) is = (refl, record { restarts = refl; stalls = λ clock. refl; ticks = refl; units = refl; arrivals = refl; ends = refl })
others_begin (lines.Local node value) is = (refl, record { restarts = refl; stalls = λ clock. refl; ticks = refl; units = refl; arrivals = refl; ends = refl })
others_begin (lines.Show node) is = (refl, record { restarts = refl; stalls = λ clock. refl; ticks = refl; units = refl; arrivals = refl; ends = refl })
others_begin line is = absurd (let bad : false ≡ true = is in cc)

others_first : (line : List Line) (events others : List SerialEvent) → IsOne line → is_of_others line ≡ true → AreHeard events others
    → AreHeard (beginning_of [] ++ events) (beginning_of line ++ others)
others_first line events others (inl none) is are = absurd (let bad : false ≡ true = sym (ap is_of_others none) ∙ is in cc)
others_first line events others (inr (one, same)) is are =
    let (begins, alike) = others_begin one (sym (ap is_of_others same) ∙ is) in
    subst (λ (l : List Line). AreHeard (Line_begins [] ∷ events) (beginning_of l ++ others)) (sym same)
    (subst (λ (l : List SerialEvent). AreHeard (Line_begins [] ∷ events) (l ++ others)) (sym begins)
    (inr (Line_begins (one ∷ []), others, refl, alike, are)))

-- ---- units of the chip

came : (unit other text : List ℕ) (after behind : List Entry) (events others : List SerialEvent) → arriving_of Chip unit after ≡ text ∷ [] → arriving_of Chip other behind ≡ text ∷ []
    → AreHeard events others
    → AreHeard (Writes Chip unit (arriving_of Chip unit after) (lacking_of Chip unit after) ∷ events) (Writes Chip other (arriving_of Chip other behind) (lacking_of Chip other behind) ∷ others)
came unit other text after behind events others first second are =
    inr (
      Writes Chip other (arriving_of Chip other behind) (lacking_of Chip other behind),
      others,
      refl,
      record { restarts = refl; stalls = λ clock. refl; ticks = refl; units = refl; arrivals = first ∙ sym second; ends = refl },
      are,
    )

missed : (unit : List ℕ) (after : List Entry) (events others : List SerialEvent) → arriving_of Chip unit after ≡ [] → AreHeard events others
    → AreHeard (Writes Chip unit (arriving_of Chip unit after) (lacking_of Chip unit after) ∷ events) others
missed unit after events others none are = inl (ap (λ (l : List (List ℕ)). is_unheard (Writes Chip unit l (lacking_of Chip unit after))) none, are)

-- entries that begin with what became of a unit of the chip, or of a change of one of the host
abbrev pub begins_marked : List Entry → Bool
begins_marked (entry.Dropped Chip ∷ rest) = true
begins_marked (entry.Overrun Chip ∷ rest) = true
begins_marked (entry.Garbled side unit ∷ rest) = true
begins_marked _ = false

arrives : (unit : List ℕ) (after : List Entry) → begins_marked after ≡ false → arriving_of Chip unit after ≡ unit ∷ []
arrives unit [] plain = refl
arrives unit (entry.Dropped Chip ∷ after) plain = absurd (let bad : true ≡ false = plain in cc)
arrives unit (entry.Dropped Host ∷ after) plain = refl
arrives unit (entry.Overrun Chip ∷ after) plain = absurd (let bad : true ≡ false = plain in cc)
arrives unit (entry.Overrun Host ∷ after) plain = refl
arrives unit (entry.Garbled side changed ∷ after) plain = absurd (let bad : true ≡ false = plain in cc)
arrives unit (e ∷ after) plain = refl

changed_arrives : (unit changed : List ℕ) (after : List Entry) → begins_marked after ≡ false → arriving_of Chip unit (entry.Garbled Chip changed ∷ after) ≡ changed ∷ []
changed_arrives unit changed [] plain = refl
changed_arrives unit changed (entry.Overrun Chip ∷ after) plain = absurd (let bad : true ≡ false = plain in cc)
changed_arrives unit changed (entry.Overrun Host ∷ after) plain = refl
changed_arrives unit changed (e ∷ after) plain = refl

-- ---- where entries stand

-- a refusal stands directly after a line, and that a unit of the host was changed directly after one
abbrev pub StandsWell : List Line → Bool → Entry → Type 0
StandsWell before after (entry.Refused refusal) = before ≡ [] → ⊥
StandsWell before after (entry.Garbled Host unit) = after ≡ true
StandsWell before after e = Unit {0}

abbrev pub is_of_host : Entry → Bool
is_of_host (entry.Written Host unit) = true
is_of_host _ = false

abbrev pub StandWell : List Line → Bool → List Entry → Type 0
StandWell before after [] = Unit {0}
StandWell before after (e ∷ told) = StandsWell before after e × StandWell (line_of e) (is_of_host e) told

-- so it is where lines are answered and units are told to be changed by marks
chip_marks : (marks : Marks) (unit changed : List ℕ) → IsMarked (becomes Chip marks unit) (entry.Garbled Host changed) → ⊥
chip_marks marks unit changed marked = by (nat_lt 0 marks.drops) (length unit == 1) marks.changes marked
  where
    by : (lost short : Bool) (changes : List Changing)
        → IsMarked (if lost then entry.Dropped Chip ∷ [] else if short then [] else map (λ change. entry.Garbled Chip (changed_by change unit)) (take 1 changes)) (entry.Garbled Host changed) → ⊥
    by true short changes is = let bad : entry.Garbled Host changed ≡ entry.Dropped Chip = is in cc
    by false true changes is = is
    by false false [] is = is
    by false false (change ∷ changes) is = let bad : entry.Garbled Host changed ≡ entry.Garbled Chip (changed_by change unit) = is in cc

abbrev ChangedAfter : List Entry → Bool → Type 0
ChangedAfter past after = (changed : List ℕ) → IsMarked (to_stand past) (entry.Garbled Host changed) → after ≡ true

changed_next : (past : List Entry) (e : Entry) → ChangedAfter (past ++ e ∷ []) (is_of_host e)
changed_next past e changed marked =
    let is : to_stand (past ++ e ∷ []) ≡ becomes_by (past ++ e ∷ []) e = ap (flat_map (becomes_by (past ++ e ∷ []))) (last_only past e) ∙ append-nil (becomes_by (past ++ e ∷ []) e) in
    by e (subst (λ (l : List Entry). IsMarked l (entry.Garbled Host changed)) is marked)
  where
    by : (one : Entry) → IsMarked (becomes_by (past ++ e ∷ []) one) (entry.Garbled Host changed) → is_of_host one ≡ true
    by (entry.Written Host unit) is = refl
    by (entry.Written Chip unit) is = absurd (chip_marks (marks_of Chip (past ++ e ∷ [])) unit changed is)
    by one is = absurd is

stands_well : (listing : List Entry → ℕ → List ℕ) (refusals : List Entry → Line → List Entry) (before : List Line) (after : Bool) (past : List Entry) (e : Entry) → line_last past ≡ before
    → ChangedAfter past after → MayAnswer listing refusals past e → IsMarked (to_stand past) e → StandsWell before after e
stands_well listing refusals before after past (entry.Refused refusal) last changed may marked = λ none. by (line_last past) (last ∙ none) may
  where
    by : (line : List Line) → line ≡ [] → Follows listing refusals (before_last past) line (entry.Refused refusal) → ⊥
    by [] none follows = follows
    by (one ∷ more) none follows = let bad : one ∷ more ≡ [] = none in cc
stands_well listing refusals before after past (entry.Garbled Host unit) last changed may marked = changed unit marked
stands_well listing refusals before after past (entry.Garbled Chip unit) last changed may marked = tt
stands_well listing refusals before after past e last changed may marked = tt

pub stand_well : (listing : List Entry → ℕ → List ℕ) (refusals : List Entry → Line → List Entry) (before : List Line) (after : Bool) (past told : List Entry) → line_last past ≡ before
    → ChangedAfter past after → EachAfter (MayAnswer listing refusals) past told → EachAfter (λ (l : List Entry) (e : Entry). IsMarked (to_stand l) e) past told → StandWell before after told
stand_well listing refusals before after past [] last changed answers marks = tt
stand_well listing refusals before after past (e ∷ told) last changed answers marks = (
  stands_well listing refusals before after past e last changed answers.0 marks.0,
  stand_well listing refusals (line_of e) (is_of_host e) (past ++ e ∷ []) told (last_is past e) (changed_next past e) answers.1 marks.1,
)

-- ---- what is heard, up to an end

-- it begins neither with a mark nor with a refusal, and is heard whole
pub record IsEnd (end : List Entry) : Type 0 where
  pub unmarked : begins_marked end ≡ false
  pub unrefused : begins_refused end ≡ false
  pub heard : (now due : ℕ) → AreHeard (serial_events_from now due end) (serial_events_from now due end)

module _ (end : List Entry) (ends : IsEnd end) where
  -- a test of the first entry that no unit of the chip passes
  abbrev Heads : (List Entry → Bool) → Type 0
  Heads test = (unit : List ℕ) (rest : List Entry) → test (entry.Written Chip unit ∷ rest) ≡ false

  come_free : (test : List Entry → Bool) (unit : List ℕ) (told later : List Entry) → Heads test → test (later ++ end) ≡ false → test ((come_as unit told ++ later) ++ end) ≡ false
  come_free test unit [] later units free = units unit (later ++ end)
  come_free test unit (entry.Dropped Chip ∷ told) later units free = free
  come_free test unit (entry.Dropped Host ∷ told) later units free = units unit (later ++ end)
  come_free test unit (entry.Overrun Chip ∷ told) later units free = free
  come_free test unit (entry.Overrun Host ∷ told) later units free = units unit (later ++ end)
  come_free test unit (entry.Garbled Chip changed ∷ []) later units free = units changed (entry.Garbled Chip changed ∷ (later ++ end))
  come_free test unit (entry.Garbled Chip changed ∷ (entry.Overrun Chip ∷ told)) later units free = free
  come_free test unit (entry.Garbled Chip changed ∷ (entry.Overrun Host ∷ told)) later units free = units changed (entry.Garbled Chip changed ∷ (later ++ end))
  come_free test unit (entry.Garbled Chip changed ∷ (e ∷ told)) later units free = units changed (entry.Garbled Chip changed ∷ (later ++ end))
  come_free test unit (entry.Garbled Host changed ∷ told) later units free = units unit (later ++ end)
  come_free test unit (e ∷ told) later units free = units unit (later ++ end)

  kept_free : (test : List Entry → Bool) (outside : Bool) (e : Entry) (later : List Entry) → test (e ∷ (later ++ end)) ≡ false → test (later ++ end) ≡ false
      → test (((if outside then [] else e ∷ []) ++ later) ++ end) ≡ false
  kept_free test true e later first free = free
  kept_free test false e later first free = first

  -- what was heard begins with no mark, where the last entry before it was no unit of the host
  unmarked : (before : List Line) (told : List Entry) → StandWell before false told → begins_marked (heard_from before told ++ end) ≡ false
  unmarked before [] well = ends.unmarked
  unmarked before (entry.Written Chip unit ∷ told) well = come_free begins_marked unit told (heard_from [] told) (λ text rest. refl) (unmarked [] told well.1)
  unmarked before (entry.Written Host unit ∷ told) well = refl
  unmarked before (entry.Dropped Chip ∷ told) well = unmarked [] told well.1
  unmarked before (entry.Dropped Host ∷ told) well = refl
  unmarked before (entry.Overrun Chip ∷ told) well = unmarked [] told well.1
  unmarked before (entry.Overrun Host ∷ told) well = refl
  unmarked before (entry.Garbled Chip unit ∷ told) well = unmarked [] told well.1
  unmarked before (entry.Garbled Host unit ∷ told) well = absurd (let bad : false ≡ true = well.0 in cc)
  unmarked before (entry.Refused refusal ∷ told) well = kept_free begins_marked (is_of_others before) (entry.Refused refusal) (heard_from [] told) refl (unmarked [] told well.1)
  unmarked before (e ∷ told) well = kept_free begins_marked (is_of_outside e) e (heard_from (line_of e) told) refl (unmarked (line_of e) told well.1)

  -- nor with a refusal, where what was told does not
  none_refused : (after : Bool) (told : List Entry) → StandWell [] after told → begins_refused told ≡ false
  none_refused after [] well = refl
  none_refused after (entry.Refused refusal ∷ told) well = absurd (well.0 refl)
  none_refused after (e ∷ told) well = refl

  unrefused : (before : List Line) (after : Bool) (told : List Entry) → begins_refused told ≡ false → StandWell before after told → begins_refused (heard_from before told ++ end) ≡ false
  unrefused before after [] none well = ends.unrefused
  unrefused before after (entry.Refused refusal ∷ told) none well = absurd (let bad : true ≡ false = none in cc)
  unrefused before after (entry.Said words ∷ told) none well = refl
  unrefused before after (entry.Written Chip unit ∷ told) none well =
      come_free begins_refused unit told (heard_from [] told) (λ text rest. refl) (unrefused [] false told (none_refused false told well.1) well.1)
  unrefused before after (entry.Written Host unit ∷ told) none well = refl
  unrefused before after (e ∷ told) none well =
      kept_free begins_refused (is_of_outside e) e (heard_from [] told) refl (unrefused [] (is_of_host e) told (none_refused (is_of_host e) told well.1) well.1)

  -- ---- a line

  -- it is refused in what was heard too; or it is for others
  abbrev IsRefusedSo : List Line → List Entry → Type 0
  IsRefusedSo line told =
      (begins_refused (told ++ end) ≡ begins_refused (heard_from line told ++ end))
      ⊎ ((begins_refused (told ++ end) ≡ true) × (begins_refused (heard_from line told ++ end) ≡ false) × (is_of_others line ≡ true))

  abbrev IsRefusedBy : List Line → Refusal → List Entry → Bool → Type 0
  IsRefusedBy line refusal heard others =
      (true ≡ begins_refused (((if others then [] else entry.Refused refusal ∷ []) ++ heard) ++ end))
      ⊎ ((true ≡ true) × (begins_refused (((if others then [] else entry.Refused refusal ∷ []) ++ heard) ++ end) ≡ false) × (is_of_others line ≡ true))

  refused_by : (line : List Line) (refusal : Refusal) (told : List Entry) → StandWell [] false told → (others : Bool) → is_of_others line ≡ others
      → IsRefusedBy line refusal (heard_from [] told) others
  refused_by line refusal told well true is = inr (refl, unrefused [] false told (none_refused false told well) well, is)
  refused_by line refusal told well false is = inl refl

  refused_so : (line : List Line) (told : List Entry) → StandWell line false told → IsRefusedSo line told
  refused_so line [] well = inl refl
  refused_so line (entry.Refused refusal ∷ told) well = refused_by line refusal told well.1 (is_of_others line) refl
  refused_so line (e ∷ told) well = inl (sym (unrefused line false (e ∷ told) refl well))

  line_heard : (line : List Line) (told : List Entry) (events others : List SerialEvent) → IsOne line → StandWell line false told → AreHeard events others
      → AreHeard (beginning_of (done_line line (told ++ end)) ++ events) (beginning_of (done_line line (heard_from line told ++ end)) ++ others)
  line_heard line told events others one well are = by (refused_so line told well)
    where
      by : IsRefusedSo line told → AreHeard (beginning_of (done_line line (told ++ end)) ++ events) (beginning_of (done_line line (heard_from line told ++ end)) ++ others)
      by (inl same) =
          subst (λ (b : Bool). AreHeard (beginning_of (done_line line (told ++ end)) ++ events) (beginning_of (if b then [] else line) ++ others)) same
          (line_first (done_line line (told ++ end)) events others are)
      by (inr (refused, heard, is)) =
          subst (λ (b : Bool). AreHeard (beginning_of (if b then [] else line) ++ events) (beginning_of (done_line line (heard_from line told ++ end)) ++ others)) (sym refused)
          (subst (λ (b : Bool). AreHeard (beginning_of [] ++ events) (beginning_of (if b then [] else line) ++ others)) (sym heard) (others_first line events others one is are))

  -- ---- a unit of the chip

  unit_heard : (now due : ℕ) (unit : List ℕ) (told later : List Entry) → StandWell [] false told → begins_marked (later ++ end) ≡ false
      → AreHeard (serial_events_from now due (told ++ end)) (serial_events_from now due (later ++ end))
      → AreHeard (serial_events_from now due (entry.Written Chip unit ∷ (told ++ end))) (serial_events_from now due ((come_as unit told ++ later) ++ end))
  unit_heard now due unit [] later well plain are =
      came unit unit unit end (later ++ end) (serial_events_from now due end) (serial_events_from now due (later ++ end)) (arrives unit end ends.unmarked)
      (arrives unit (later ++ end) plain) are
  unit_heard now due unit (entry.Dropped Chip ∷ told) later well plain are =
      missed unit (entry.Dropped Chip ∷ (told ++ end)) (serial_events_from now due (told ++ end)) (serial_events_from now due (later ++ end)) refl are
  unit_heard now due unit (entry.Dropped Host ∷ told) later well plain are =
      came unit unit unit (entry.Dropped Host ∷ (told ++ end)) (later ++ end) (serial_events_from now due (told ++ end)) (serial_events_from now due (later ++ end)) refl
      (arrives unit (later ++ end) plain) are
  unit_heard now due unit (entry.Overrun Chip ∷ told) later well plain are =
      missed unit (entry.Overrun Chip ∷ (told ++ end)) (serial_events_from now due (told ++ end)) (serial_events_from now due (later ++ end)) refl are
  unit_heard now due unit (entry.Overrun Host ∷ told) later well plain are =
      came unit unit unit (entry.Overrun Host ∷ (told ++ end)) (later ++ end) (serial_events_from now due (told ++ end)) (serial_events_from now due (later ++ end)) refl
      (arrives unit (later ++ end) plain) are
  unit_heard now due unit (entry.Garbled Chip changed ∷ []) later well plain are =
      came unit changed changed (entry.Garbled Chip changed ∷ end) (entry.Garbled Chip changed ∷ (later ++ end)) (serial_events_from now due end)
      (serial_events_from now due (later ++ end)) (changed_arrives unit changed end ends.unmarked) (changed_arrives changed changed (later ++ end) plain) are
  unit_heard now due unit (entry.Garbled Chip changed ∷ (entry.Overrun Chip ∷ told)) later well plain are =
      missed unit (entry.Garbled Chip changed ∷ (entry.Overrun Chip ∷ (told ++ end))) (serial_events_from now due (told ++ end)) (serial_events_from now due (later ++ end)) refl are
  unit_heard now due unit (entry.Garbled Chip changed ∷ (entry.Overrun Host ∷ told)) later well plain are =
      came unit changed changed (entry.Garbled Chip changed ∷ (entry.Overrun Host ∷ (told ++ end))) (entry.Garbled Chip changed ∷ (later ++ end))
      (serial_events_from now due (told ++ end)) (serial_events_from now due (later ++ end)) refl (changed_arrives changed changed (later ++ end) plain) are
  unit_heard now due unit (entry.Garbled Chip changed ∷ (e ∷ told)) later well plain are =
      came unit changed changed (entry.Garbled Chip changed ∷ (e ∷ (told ++ end))) (entry.Garbled Chip changed ∷ (later ++ end))
      (serial_events_from now due (e ∷ (told ++ end))) (serial_events_from now due (later ++ end)) refl (changed_arrives changed changed (later ++ end) plain) are
  unit_heard now due unit (entry.Garbled Host changed ∷ told) later well plain are = absurd (let bad : false ≡ true = well.0 in cc)
  unit_heard now due unit (e ∷ told) later well plain are =
      came unit unit unit (e ∷ (told ++ end)) (later ++ end) (serial_events_from now due (e ∷ (told ++ end))) (serial_events_from now due (later ++ end)) refl
      (arrives unit (later ++ end) plain) are

  -- ---- all of it

  -- an entry beside the line, heard or not
  beside_heard : (now due : ℕ) (outside : Bool) (e : Entry) (later : List Entry) (events : List SerialEvent)
      → serial_events_from now due (e ∷ (later ++ end)) ≡ serial_events_from now due (later ++ end) → AreHeard events (serial_events_from now due (later ++ end))
      → AreHeard events (serial_events_from now due (((if outside then [] else e ∷ []) ++ later) ++ end))
  beside_heard now due true e later events same are = are
  beside_heard now due false e later events same are = subst (λ (l : List SerialEvent). AreHeard events l) (sym same) are

  pub events_heard : (now due : ℕ) (before : List Line) (after : Bool) (told : List Entry) → StandWell before after told
      → AreHeard (serial_events_from now due (told ++ end)) (serial_events_from now due (heard_from before told ++ end))
  events_heard now due before after [] well = ends.heard now due
  events_heard now due before after (entry.Said words ∷ told) well =
      let line : List Line = line_of (entry.Said words) in
      let later : ℕ = due + ticks_asked line in
      ticks_then now due (beginning_of (done_line line (told ++ end))) (beginning_of (done_line line (heard_from line told ++ end))) (serial_events_from due later (told ++ end))
      (serial_events_from due later (heard_from line told ++ end))
      (line_heard line told (serial_events_from due later (told ++ end)) (serial_events_from due later (heard_from line told ++ end)) (words_one words) well.1
      (events_heard due later line false told well.1))
  events_heard now due before after (entry.Time tick ∷ told) well = ticks_first (tick - now) (serial_events_from tick due (told ++ end)) (serial_events_from tick due (heard_from [] told ++ end))
      (events_heard tick due [] false told well.1)
  events_heard now due before after (entry.Written Chip unit ∷ told) well =
      unit_heard now due unit told (heard_from [] told) well.1 (unmarked [] told well.1) (events_heard now due [] false told well.1)
  events_heard now due before after (entry.Written Host unit ∷ told) well =
      inr (
        Writes Host unit (arriving_of Host unit (heard_from [] told ++ end)) (lacking_of Host unit (heard_from [] told ++ end)),
        serial_events_from now due (heard_from [] told ++ end),
        refl,
        record { restarts = refl; stalls = λ clock. refl; ticks = refl; units = refl; arrivals = refl; ends = refl },
        events_heard now due [] true told well.1,
      )
  events_heard now due before after (entry.Refused refusal ∷ told) well =
      beside_heard now due (is_of_others before) (entry.Refused refusal) (heard_from [] told) (serial_events_from now due (told ++ end)) refl (events_heard now due [] false told well.1)
  events_heard now due before after (e ∷ told) well =
      beside_heard now due (is_of_outside e) e (heard_from [] told) (serial_events_from now due (told ++ end)) refl (events_heard now due [] false told well.1)
