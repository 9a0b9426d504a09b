-- The acknowledgements that stand after the last data frame of the chip, and after bytes of the host were last lost, have arrived for the chip by the events of the serial line.
use Rattle.std.proofs.Common.{◌≡◌, ◌⊎◌, ℕ, zero, suc, ◌+◌, ◌-◌, ◌≤◌, ◌&&◌, ◌||◌, not, Bool, true, false, if◌then◌else◌, inl, inr, List, [], ◌∷◌, ◌++◌, length, map, replicate, refl, sym, ap, ap₂, ◌∙◌, subst, append-nil, append_assoc, length-append, true≢false, arith}
use Rattle.std.proofs.lemmas.Grind.{flat_map-append}
use Rattle.std.specs.List.{AllByRecursion, flat_map}
use Rattle.zw_words.specs.declared.side.Side.TheVariants.{Host, Chip}
use Rattle.zw_text.specs.declared.line.Line.{Line}
use Rattle.zw_text.specs.declared.line.Line.TheVariants as lines
use Rattle.zw_text.specs.declared.entry.Entry.{Entry}
use Rattle.zw_text.specs.declared.entry.Entry.TheVariants as entry
use Rattle.zw_text.specs.Transcript.{Unit_on, Way, folded, last_with, line_of, shown, unit_step, units}
use Rattle.zw_text.specs.Transcript.Way.{Whole, Missed, Changed}
use Rattle.zw_text.proofs.Views.{folded-append, shown-append}
use Rattle.law_wire.specs.law_transcript.Restarts.{begins_refused, is_restart, ticks_asked}
use Rattle.law_wire.specs.Clearing.{Cleared_there, cleared, clears, clears_first, goes_on_after, to_clear}
use Rattle.law_wire.specs.Pipes.{is_lost}
use Rattle.law_wire.specs.Serial.{SerialEvent, arriving_of, beginning_of, changed_or_not, done_line, serial_events, serial_events_from, ticks_up_to}
use Rattle.law_wire.specs.Serial.SerialEvent.{Tick_begins}
use Rattle.law_time.specs.Calm.{after_frame, chip_frame_at}
use Rattle.law_time.specs.Judged.{acknowledgement_whole, acknowledgements_come, is_data}
use Rattle.proof_chip.specs.proof_line.outside_model.Events.{ticked_entry}
use Rattle.proof_chip.specs.proof_line.outside_model.State.{OuterState}
use Rattle.proof_ready.proofs.Ahead.{acks_in, came_from, has_frame, kept_by}

-- ---- units with what became of them

abbrev whole_in : List Unit_on → ℕ
whole_in us = length (flat_map (λ unit. acknowledgement_whole unit.bytes unit.way) us)

whole-append : (us vs : List Unit_on) → whole_in (us ++ vs) ≡ whole_in us + whole_in vs
whole-append us vs =
    ap (λ (l : List (List ℕ)). length l) (flat_map-append (λ (unit : Unit_on). acknowledgement_whole unit.bytes unit.way) us vs)
    ∙ length-append (flat_map (λ (unit : Unit_on). acknowledgement_whole unit.bytes unit.way) us) (flat_map (λ (unit : Unit_on). acknowledgement_whole unit.bytes unit.way) vs)

last_is : (way : Way) (us : List Unit_on) (u : Unit_on) → last_with way (us ++ u ∷ []) ≡ us ++ record { bytes = u.bytes; way = way } ∷ []
last_is way [] u = refl
last_is way (first ∷ []) u = refl
last_is way (first ∷ (next ∷ us)) u = ap (λ (l : List Unit_on). first ∷ l) (last_is way (next ∷ us) u)

-- one that is lost or changed comes whole no more
module _ (way : Way) (none : (bytes : List ℕ) → acknowledgement_whole bytes way ≡ []) where
  alone_none : (bytes : List ℕ) → whole_in (record { bytes = bytes; way = way } ∷ []) ≡ 0
  alone_none bytes = ap (λ (l : List (List ℕ)). length (l ++ [])) (none bytes)

  less_whole : (us : List Unit_on) → whole_in (last_with way us) ≤ whole_in us
  less_whole [] = omega arith
  less_whole (u ∷ []) = let gone = alone_none u.bytes in omega (arith, gone)
  less_whole (u ∷ (next ∷ us)) =
      let fewer = less_whole (next ∷ us) in
      let before = whole-append (u ∷ []) (last_with way (next ∷ us)) in
      let after = whole-append (u ∷ []) (next ∷ us) in
      omega (arith, fewer, before, after)

  doomed_whole : (us : List Unit_on) (u : Unit_on) → whole_in (last_with way (us ++ u ∷ [])) ≡ whole_in us
  doomed_whole us u =
      let is : whole_in (last_with way (us ++ u ∷ [])) ≡ whole_in us + whole_in (record { bytes = u.bytes; way = way } ∷ []) =
      ap whole_in (last_is way us u) ∙ whole-append us (record { bytes = u.bytes; way = way } ∷ []) in
      let gone = alone_none u.bytes in
      omega (arith, is, gone)

-- ---- what stands next

abbrev begins_changed : List Entry → Bool
begins_changed (entry.Garbled Host unit ∷ rest) = true
begins_changed _ = false

abbrev begins_cleared : List Entry → Bool
begins_cleared (entry.Cleared Host count ∷ rest) = true
begins_cleared _ = false

-- whether it says that the unit that stands last does not arrive as it is
abbrev is_doomed : List Entry → Bool
is_doomed es = is_lost Host es || begins_changed es

record Doomed (us : List Unit_on) (count : ℕ) (es : List Entry) : Type 0 where
  before : List Unit_on
  last : Unit_on
  are : us ≡ before ++ last ∷ []
  few : whole_in before ≤ count
  lost : is_doomed es ≡ true

-- of these units no more have come whole, the last one left out if it does not arrive so; or they are about to be forgotten
abbrev IsFew : List Unit_on → ℕ → List Entry → Type 0
IsFew us count es = (whole_in us ≤ count) ⊎ (Doomed us count es ⊎ (begins_cleared es ≡ true))

few_now : (us : List Unit_on) (count : ℕ) (es : List Entry) → is_doomed es ≡ false → begins_cleared es ≡ false → IsFew us count es → whole_in us ≤ count
few_now us count es arrives keeps (inl few) = few
few_now us count es arrives keeps (inr (inl doomed)) = absurd (true≢false (sym doomed.lost ∙ arrives))
few_now us count es arrives keeps (inr (inr forgets)) = absurd (true≢false (sym forgets ∙ keeps))

few_lost : (way : Way) → ((bytes : List ℕ) → acknowledgement_whole bytes way ≡ []) → (us : List Unit_on) (count : ℕ) (es : List Entry) → begins_cleared es ≡ false → IsFew us count es → whole_in (last_with way us) ≤ count
few_lost way none us count es keeps (inl few) = let fewer = less_whole way none us in omega (arith, few, fewer)
few_lost way none us count es keeps (inr (inl doomed)) =
    let same : whole_in (last_with way us) ≡ whole_in doomed.before = ap (λ (l : List Unit_on). whole_in (last_with way l)) doomed.are ∙ doomed_whole way none doomed.before doomed.last in
    let few = doomed.few in
    omega (arith, same, few)
few_lost way none us count es keeps (inr (inr forgets)) = absurd (true≢false (sym forgets ∙ keeps))

-- a unit of the host arrives as it is, unless what stands next says otherwise
arrives_whole : (unit : List ℕ) (rest : List Entry) → is_doomed rest ≡ false → arriving_of Host unit rest ≡ unit ∷ []
arrives_whole unit rest none = by (is_lost Host rest) (begins_changed rest) none refl refl
  where
    same : (es : List Entry) → begins_changed es ≡ false → changed_or_not Host unit es ≡ unit
    same [] none = refl
    same (entry.Garbled Host changed ∷ es) none = absurd (true≢false none)
    same (entry.Garbled Chip changed ∷ es) none = refl
    same (e ∷ es) none = refl

    by : (lost changed : Bool) → (lost || changed) ≡ false → is_lost Host rest ≡ lost → begins_changed rest ≡ changed → arriving_of Host unit rest ≡ unit ∷ []
    by true changed none lost_is changed_is = absurd (true≢false none)
    by false true none lost_is changed_is = absurd (true≢false none)
    by false false none lost_is changed_is =
        ap (λ (b : Bool). if b then [] else changed_or_not Host unit rest ∷ []) lost_is ∙ ap (λ (u : List ℕ). u ∷ []) (same rest changed_is)

few_wrote : (us : List Unit_on) (count : ℕ) (unit : List ℕ) (rest : List Entry) → whole_in us ≤ count → IsFew (us ++ record { bytes = unit; way = Whole } ∷ []) (count + acks_in (arriving_of Host unit rest)) rest
few_wrote us count unit rest few = by (is_doomed rest) refl
  where
    by : (b : Bool) → is_doomed rest ≡ b → IsFew (us ++ record { bytes = unit; way = Whole } ∷ []) (count + acks_in (arriving_of Host unit rest)) rest
    by true is = inr (inl (record { before = us; last = record { bytes = unit; way = Whole }; are = refl; few = omega (arith, few); lost = is }))
    by false is =
        let all = whole-append us (record { bytes = unit; way = Whole } ∷ []) in
        let come : acks_in (arriving_of Host unit rest) ≡ whole_in (record { bytes = unit; way = Whole } ∷ []) = ap acks_in (arrives_whole unit rest is) in
        inl (omega (arith, few, all, come))

-- a change of the chip's unit says nothing of the host's
few_other : (us : List Unit_on) (count : ℕ) (unit : List ℕ) (rest : List Entry) → IsFew us count (entry.Garbled Chip unit ∷ rest) → IsFew us count rest
few_other us count unit rest (inl few) = inl few
few_other us count unit rest (inr (inl doomed)) = inr (inl (record { before = doomed.before; last = doomed.last; are = doomed.are; few = doomed.few; lost = next rest doomed.lost }))
  where
    next : (es : List Entry) → is_doomed (entry.Garbled Chip unit ∷ es) ≡ true → is_doomed es ≡ true
    next [] is = absurd (true≢false (sym is))
    next (entry.Overrun side ∷ es) is = is
    next (e ∷ es) is = absurd (true≢false (sym is))
few_other us count unit rest (inr (inr forgets)) = absurd (true≢false (sym forgets))

-- ---- what restarts lost

-- the bytes of the host that were lost, by what stands after a restart
abbrev pub host_lost : List Entry → ℕ
host_lost (entry.Cleared Host count ∷ rest) = count
host_lost _ = 0

abbrev lost_of : List Cleared_there → List ℕ
lost_of all = map (λ (entries : List Entry). host_lost entries) (map (λ (one : Cleared_there). one.entries) all)

abbrev pub lost_in : List Entry → List ℕ
lost_in past = lost_of (clears past)

-- these are what the chip had not heard
pub lost_is : (ups downs : List ℕ) → length ups ≡ length downs → map (λ (entries : List Entry). host_lost entries) (to_clear ups downs) ≡ ups
lost_is [] [] same = refl
lost_is [] (down ∷ downs) same = absurd (let wrong = same in omega (arith, wrong))
lost_is (up ∷ ups) [] same = absurd (let wrong = same in omega (arith, wrong))
lost_is (up ∷ ups) (down ∷ downs) same =
    let fewer : suc (length ups) ≡ suc (length downs) = same in
    ap₂ (λ (n : ℕ) (l : List ℕ). n ∷ l) (first up down) (lost_is ups downs (omega (arith, fewer)))
  where
    first : (up down : ℕ) → host_lost (cleared Host up ++ cleared Chip down) ≡ up
    first zero zero = refl
    first zero (suc down) = refl
    first (suc up) down = refl

none_first : (rest : List Entry) → begins_cleared rest ≡ false → host_lost (clears_first rest) ≡ 0
none_first [] keeps = refl
none_first (entry.Cleared Host count ∷ rest) keeps = absurd (true≢false keeps)
none_first (entry.Cleared Chip count ∷ rest) keeps = refl
none_first (e ∷ rest) keeps = refl

-- ---- the events of entries

ticks_pass : (ticks count : ℕ) (more : List SerialEvent) (lost : List ℕ) → came_from count (replicate ticks Tick_begins ++ more) lost ≡ came_from count more lost
ticks_pass zero count more lost = refl
ticks_pass (suc ticks) count more lost = ticks_pass ticks count more lost

-- the words of a line: only a restart that is not refused says what was lost
abbrev restarts_so : List Line → Bool → Bool
restarts_so line refused = is_restart line && not refused

words_pass : (line : List Line) (refused : Bool) (here : Cleared_there) (later : List Cleared_there) (count : ℕ) (more : List SerialEvent)
    → came_from count (beginning_of (if refused then [] else line) ++ more) (lost_of (if restarts_so line refused then here ∷ later else later))
    ≡ came_from (if restarts_so line refused then kept_by count (host_lost here.entries) else count) more (lost_of later)
words_pass [] true here later count more = refl
words_pass [] false here later count more = refl
words_pass (lines.Restart ∷ others) true here later count more = refl
words_pass (lines.Restart ∷ others) false here later count more = refl
words_pass (lines.Tick ticks ∷ others) true here later count more = refl
words_pass (lines.Tick ticks ∷ others) false here later count more = refl
words_pass (line ∷ others) true here later count more = refl
words_pass (line ∷ others) false here later count more = refl

few_said : (us : List Unit_on) (count : ℕ) (rest : List Entry) (restarts : Bool) → whole_in us ≤ count → IsFew us (if restarts then kept_by count (host_lost (clears_first rest)) else count) rest
few_said us count rest false few = inl few
few_said us count rest true few = by (begins_cleared rest) refl
  where
    by : (b : Bool) → begins_cleared rest ≡ b → IsFew us (kept_by count (host_lost (clears_first rest))) rest
    by true is = inr (inr is)
    by false is = inl (subst (λ (n : ℕ). whole_in us ≤ kept_by count n) (sym (none_first rest is)) few)

-- ---- over all entries

abbrev us_of : List Entry → List Unit_on
us_of following = units Host following

units_step : (following : List Entry) (e : Entry) → us_of (following ++ e ∷ []) ≡ unit_step Host (us_of following) e
units_step following e = folded-append (unit_step Host) [] following (e ∷ [])

-- one that changes nothing of the host's units
few_same : (following : List Entry) (count : ℕ) (e : Entry) → unit_step Host (us_of following) e ≡ us_of following → whole_in (us_of following) ≤ count → whole_in (us_of (following ++ e ∷ [])) ≤ count
few_same following count e same few = subst (λ (us : List Unit_on). whole_in us ≤ count) (sym (units_step following e ∙ same)) few

few_step : (following : List Entry) (count : ℕ) (e : Entry) (rest : List Entry) → IsFew (unit_step Host (us_of following) e) count rest → IsFew (us_of (following ++ e ∷ [])) count rest
few_step following count e rest few = subst (λ (us : List Unit_on). IsFew us count rest) (sym (units_step following e)) few

answers : (es following : List Entry) (now due count : ℕ) → IsFew (us_of following) count es → whole_in (us_of (folded after_frame following es)) ≤ came_from count (serial_events_from now due es) (lost_in es)
answers [] following now due count few = few_now (us_of following) count [] refl refl few
answers (entry.Said words ∷ rest) following now due count few =
    let line : List Line = line_of (entry.Said words) in
    let refused : Bool = begins_refused rest in
    let e : Entry = entry.Said words in
    let more : List SerialEvent = serial_events_from due (due + ticks_asked line) rest in
    let begins : List SerialEvent = beginning_of (done_line line rest) in
    let next : ℕ = if restarts_so line refused then kept_by count (host_lost (clears_first rest)) else count in
    let kept = few_same following count e refl (few_now (us_of following) count (e ∷ rest) refl refl few) in
    let got = answers rest (following ++ e ∷ []) due (due + ticks_asked line) next (few_said (us_of (following ++ e ∷ [])) count rest (restarts_so line refused) kept) in
    let same : came_from count ((ticks_up_to now due ++ begins) ++ more) (lost_in (e ∷ rest)) ≡ came_from next more (lost_in rest) =
    ap (λ (l : List SerialEvent). came_from count l (lost_in (e ∷ rest))) (append_assoc (ticks_up_to now due) begins more)
    ∙ ticks_pass (due - now) count (begins ++ more) (lost_in (e ∷ rest))
    ∙ words_pass line refused (record { entries = clears_first rest; is_over = goes_on_after rest }) (clears rest) count more in
    subst (λ (n : ℕ). whole_in (us_of (folded after_frame (following ++ e ∷ []) rest)) ≤ n) (sym same) got
answers (entry.Time tick ∷ rest) following now due count few =
    let e : Entry = entry.Time tick in
    let more : List SerialEvent = serial_events_from tick due rest in
    subst (λ (n : ℕ). whole_in (us_of (folded after_frame (following ++ e ∷ []) rest)) ≤ n) (sym (ticks_pass (tick - now) count more (lost_in rest)))
    (answers rest (following ++ e ∷ []) tick due count (inl (few_same following count e refl (few_now (us_of following) count (e ∷ rest) refl refl few))))
answers (entry.Written Host unit ∷ rest) following now due count few =
    answers rest (following ++ entry.Written Host unit ∷ []) now due (count + acks_in (arriving_of Host unit rest))
    (few_step following (count + acks_in (arriving_of Host unit rest)) (entry.Written Host unit) rest
    (few_wrote (us_of following) count unit rest (few_now (us_of following) count (entry.Written Host unit ∷ rest) refl refl few)))
answers (entry.Written Chip unit ∷ rest) following now due count few =
    answers rest (if is_data unit then [] else following ++ entry.Written Chip unit ∷ []) now due (if is_data unit then 0 else count) (by (is_data unit))
  where
    by : (b : Bool) → IsFew (us_of (if b then [] else following ++ entry.Written Chip unit ∷ [])) (if b then 0 else count) rest
    by true = inl (omega arith)
    by false = inl (few_same following count (entry.Written Chip unit) refl (few_now (us_of following) count (entry.Written Chip unit ∷ rest) refl refl few))
answers (entry.Dropped Host ∷ rest) following now due count few =
    answers rest (following ++ entry.Dropped Host ∷ []) now due count
    (few_step following count (entry.Dropped Host) rest (inl (few_lost Missed (λ bytes. refl) (us_of following) count (entry.Dropped Host ∷ rest) refl few)))
answers (entry.Dropped Chip ∷ rest) following now due count few =
    answers rest (following ++ entry.Dropped Chip ∷ []) now due count
    (inl (few_same following count (entry.Dropped Chip) refl (few_now (us_of following) count (entry.Dropped Chip ∷ rest) refl refl few)))
answers (entry.Overrun Host ∷ rest) following now due count few =
    answers rest (following ++ entry.Overrun Host ∷ []) now due count
    (few_step following count (entry.Overrun Host) rest (inl (few_lost Missed (λ bytes. refl) (us_of following) count (entry.Overrun Host ∷ rest) refl few)))
answers (entry.Overrun Chip ∷ rest) following now due count few =
    answers rest (following ++ entry.Overrun Chip ∷ []) now due count
    (inl (few_same following count (entry.Overrun Chip) refl (few_now (us_of following) count (entry.Overrun Chip ∷ rest) refl refl few)))
answers (entry.Garbled Host unit ∷ rest) following now due count few =
    answers rest (following ++ entry.Garbled Host unit ∷ []) now due count
    (few_step following count (entry.Garbled Host unit) rest (inl (few_lost (Changed unit) (λ bytes. refl) (us_of following) count (entry.Garbled Host unit ∷ rest) refl few)))
answers (entry.Garbled Chip unit ∷ rest) following now due count few =
    answers rest (following ++ entry.Garbled Chip unit ∷ []) now due count (few_step following count (entry.Garbled Chip unit) rest (few_other (us_of following) count unit rest few))
answers (entry.Cleared Host bytes ∷ rest) following now due count few = answers rest [] now due count (inl (omega arith))
answers (entry.Cleared Chip bytes ∷ rest) following now due count few =
    answers rest (following ++ entry.Cleared Chip bytes ∷ []) now due count
    (inl (few_same following count (entry.Cleared Chip bytes) refl (few_now (us_of following) count (entry.Cleared Chip bytes ∷ rest) refl refl few)))
answers (e ∷ rest) following now due count few =
    answers rest (following ++ e ∷ []) now due count (inl (few_same following count e refl (few_now (us_of following) count (e ∷ rest) refl refl few)))

-- ---- where the chip wrote no data frame

abbrev Silent : List SerialEvent → Type 0
Silent events = AllByRecursion (λ event. has_frame event ≡ false) events

silent_ticks : (ticks : ℕ) (more : List SerialEvent) → Silent more → Silent (replicate ticks Tick_begins ++ more)
silent_ticks zero more silent = silent
silent_ticks (suc ticks) more silent = (refl, silent_ticks ticks more silent)

silent_words : (line : List Line) (more : List SerialEvent) → Silent more → Silent (beginning_of line ++ more)
silent_words [] more silent = (refl, silent)
silent_words (lines.Tick ticks ∷ others) more silent = silent
silent_words (line ∷ others) more silent = (refl, silent)

silent_events : (es : List Entry) (now due : ℕ) → shown chip_frame_at es ≡ [] → Silent (serial_events_from now due es)
silent_events [] now due none = tt
silent_events (entry.Said words ∷ rest) now due none =
    let line : List Line = line_of (entry.Said words) in
    let more : List SerialEvent = serial_events_from due (due + ticks_asked line) rest in
    subst Silent (sym (append_assoc (ticks_up_to now due) (beginning_of (done_line line rest)) more))
    (silent_ticks (due - now) (beginning_of (done_line line rest) ++ more) (silent_words (done_line line rest) more (silent_events rest due (due + ticks_asked line) none)))
silent_events (entry.Time tick ∷ rest) now due none = silent_ticks (tick - now) (serial_events_from tick due rest) (silent_events rest tick due none)
silent_events (entry.Written Host unit ∷ rest) now due none = (refl, silent_events rest now due none)
silent_events (entry.Written Chip unit ∷ rest) now due none = by (is_data unit) none (silent_events rest now due)
  where
    by : (b : Bool) → (if b then unit ∷ [] else []) ++ shown chip_frame_at rest ≡ [] → (shown chip_frame_at rest ≡ [] → Silent (serial_events_from now due rest))
        → (((b || false) ≡ false) × Silent (serial_events_from now due rest))
    by true none later = absurd (let bad : unit ∷ shown chip_frame_at rest ≡ [] = none in cc)
    by false none later = (refl, later none)
silent_events (e ∷ rest) now due none = silent_events rest now due none

-- ---- once the number of the running tick is entered

units_timed : (timed : Bool) (past : List Entry) (clock : ℕ) → us_of (folded after_frame [] (past ++ (if timed then entry.Time clock ∷ [] else []))) ≡ us_of (folded after_frame [] past)
units_timed true past clock = ap us_of (folded-append after_frame [] past (entry.Time clock ∷ [])) ∙ units_step (folded after_frame [] past) (entry.Time clock)
units_timed false past clock = ap (λ (l : List Entry). us_of (folded after_frame [] l)) (append-nil past)

pub answers_come : (past : List Entry) (o : OuterState) (lost : List ℕ) → lost_in (past ++ ticked_entry o) ≡ lost → acknowledgements_come Host (folded after_frame [] past) ≤ came_from 0 (serial_events (past ++ ticked_entry o)) lost
answers_come past o lost is =
    subst (λ (us : List Unit_on). whole_in us ≤ came_from 0 (serial_events (past ++ ticked_entry o)) lost) (units_timed (o.in_tick && not o.stamped) past o.clock)
    (subst (λ (l : List ℕ). whole_in (us_of (folded after_frame [] (past ++ ticked_entry o))) ≤ came_from 0 (serial_events (past ++ ticked_entry o)) l) is
    (answers (past ++ ticked_entry o) [] 0 0 0 (inl (omega arith))))

frames_timed : (timed : Bool) (past : List Entry) (clock : ℕ) → shown chip_frame_at (past ++ (if timed then entry.Time clock ∷ [] else [])) ≡ shown chip_frame_at past
frames_timed true past clock = shown-append chip_frame_at past (entry.Time clock ∷ []) ∙ append-nil (shown chip_frame_at past)
frames_timed false past clock = ap (λ (l : List Entry). shown chip_frame_at l) (append-nil past)

pub chip_silent : (past : List Entry) (o : OuterState) → shown chip_frame_at past ≡ [] → AllByRecursion (λ event. has_frame event ≡ false) (serial_events (past ++ ticked_entry o))
chip_silent past o none = silent_events (past ++ ticked_entry o) 0 0 (frames_timed (o.in_tick && not o.stamped) past o.clock ∙ none)
