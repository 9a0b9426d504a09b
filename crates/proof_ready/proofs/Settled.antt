-- Since a line or tick began, by the events of the serial line, no more units of the host have arrived for the chip than stand since the last line, or the last tick of which there is an entry.
use Rattle.std.proofs.Common.{◌≡◌, ◌⊎◌, ℕ, zero, suc, ◌+◌, ◌-◌, ◌≤◌, ◌<◌, max, Bool, true, false, if◌then◌else◌, inl, inr, List, [], ◌∷◌, ◌++◌, length, take, replicate, refl, sym, ap, ◌∙◌, subst, append-nil, append_assoc, length-append, arith}
use Rattle.std.specs.Prelude.{Option, Some, None, Result, Ok, Err}
use Rattle.std.specs.List.{AllByRecursion}
use Rattle.zw_words.specs.declared.fault.LineFault.{LineFault}
use Rattle.zw_words.specs.declared.side.Side.TheVariants.{Host, Chip}
use Rattle.zw_text.specs.declared.line.Line.{Line}
use Rattle.zw_text.specs.declared.line.Line.TheVariants as lines
use Rattle.zw_text.specs.declared.entry.Entry.{Entry}
use Rattle.zw_text.specs.declared.entry.Entry.TheVariants as entry
use Rattle.zw_text.specs.Line.{LineText, line_at}
use Rattle.zw_text.specs.Transcript.{folded, last_number, line_last, line_of, lines_run, read_as, shown, tick_at, ticks, time_of}
use Rattle.zw_text.proofs.TextLaws.{line_takes}
use Rattle.zw_text.proofs.Views.{shown-append}
use Rattle.law_wire.specs.law_transcript.Lists.{EachAfter}
use Rattle.law_wire.specs.law_transcript.Restarts.{begins_refused, ticks_asked}
use Rattle.law_wire.specs.Asked.{clock_of as clock_begun, lines_before}
use Rattle.law_wire.specs.Pipes.{is_lost}
use Rattle.law_wire.specs.Serial.{SerialEvent, arriving_of, beginning_of, changed_or_not, done_line, serial_events, serial_events_from, ticks_up_to}
use Rattle.law_wire.specs.Serial.SerialEvent.{Line_begins, Tick_begins, Writes}
use Rattle.law_wire.specs.Times.{MayBeTold, TellsTime}
use Rattle.law_time.specs.Calm.{host_unit_at, since_begun}
use Rattle.proof_chip.specs.proof_line.proof_walk.Outside.{HasNoWords}
use Rattle.proof_chip.proofs.Alone.{all_wordless}
use Rattle.proof_chip.proofs.Untimed.{IsUntimed, same_lines}
use Rattle.proof_chip.proofs.Clock.{asked-append, last_of_more}
use Rattle.proof_chip.proofs.ByLine.{last_is}
use Rattle.proof_chip.specs.proof_line.Links.{tick_told, told_from}
use Rattle.proof_chip.specs.proof_line.outside_model.Events.{ticked_entry}
use Rattle.proof_chip.specs.proof_line.outside_model.State.{OuterState}
use Rattle.proof_chip.specs.proof_line.world_model.State.{Machine}
use Rattle.proof_chip.specs.proof_line.world_model.Did.{entries_all}
use Rattle.proof_chip.specs.proof_world.world_lines.Spoken.{Spoken, after, transcript_of}
use Rattle.proof_chip.specs.proof_world.world_lines.Done.{AreDone}
use Rattle.proof_chip.proofs.LinkTime.{timed_serials}
use Rattle.proof_chip.proofs.proof_line_Standing.{but_last}
use Rattle.proof_chip.proofs.SentBefore.{same_clock}
use Rattle.proof_ready.specs.Ease.{arrived_from}

-- ---- each words that stand are those of a line

abbrev pub IsRead : Entry → Type 0
IsRead (entry.Said words) = (line : Line) × (line_of (entry.Said words) ≡ line ∷ [])
IsRead e = Unit {0}

wordless_read : (es rest : List Entry) → AllByRecursion HasNoWords es → AllByRecursion IsRead rest → AllByRecursion IsRead (es ++ rest)
wordless_read [] rest none read = read
wordless_read (entry.Said words ∷ es) rest none read = absurd none.0
wordless_read (e ∷ es) rest none read = (tt, wordless_read es rest none.1 read)

pub lines_read : (m : Machine) (spoken : List Spoken) → AreDone m spoken → AllByRecursion IsRead (transcript_of m spoken)
lines_read m [] are = tt
lines_read m (line ∷ more) are = (
  (line.line, are.0.read),
  wordless_read (entries_all m line.events) (transcript_of (after m line) more) (all_wordless m line.events are.0.may) (lines_read (after m line) more are.1),
)

-- a `tick` line asks for some
ticks_some : (words : List ℕ) (count : ℕ) (more : List Line) (read : Result (Option Line) LineFault) → line_at words ≡ read → read_as read ≡ lines.Tick count ∷ more → 1 ≤ count
ticks_some words count more (Ok (Some line)) is are =
    let same : line ≡ lines.Tick count = cc in
    let text : LineText words (lines.Tick count) = line_takes words (Some (lines.Tick count)) (subst (λ (l : Line). line_at words ≡ Ok (Some l)) same is) in
    text.stands.0.0
ticks_some words count more (Ok None) is are = absurd (let bad : [] ≡ lines.Tick count ∷ more = are in cc)
ticks_some words count more (Err fault) is are = absurd (let bad : [] ≡ lines.Tick count ∷ more = are in cc)

-- ---- what forgets the units that have arrived

-- ticks that begin
record AfterTicks (count_ticks count : ℕ) (more : List SerialEvent) : Type 0 where
  left : ℕ
  few : left ≤ count
  none : 1 ≤ count_ticks → left ≡ 0
  is : arrived_from count (replicate count_ticks Tick_begins ++ more) ≡ arrived_from left more

after_ticks : (count_ticks count : ℕ) (more : List SerialEvent) → AfterTicks count_ticks count more
after_ticks zero count more = record { left = count; few = omega arith; none = λ some. absurd (omega (arith, some)); is = refl }
after_ticks (suc count_ticks) count more =
    let rest = after_ticks count_ticks 0 more in
    let small = rest.few in
    record { left = rest.left; few = omega (arith, small); none = λ some. omega (arith, small); is = rest.is }

-- what the words of a line begin, unless they are those of a `tick`
record AfterWords (line : List Line) (count : ℕ) (more : List SerialEvent) : Type 0 where
  left : ℕ
  is : arrived_from count (beginning_of line ++ more) ≡ arrived_from left more
  none : (left ≡ 0) ⊎ ((ticks : ℕ) × (others : List Line) × (line ≡ lines.Tick ticks ∷ others))

after_words : (line : List Line) (count : ℕ) (more : List SerialEvent) → AfterWords line count more
after_words [] count more = record { left = 0; is = refl; none = inl refl }
after_words (lines.Tick ticks ∷ others) count more = record { left = count; is = refl; none = inr (ticks, others, refl) }
after_words (line ∷ others) count more = record { left = 0; is = refl; none = inl refl }

arrived-append : (count : ℕ) (events more : List SerialEvent) → arrived_from count (events ++ more) ≡ arrived_from (arrived_from count events) more
arrived-append count [] more = refl
arrived-append count (Writes side unit arriving lacking ∷ events) more = arrived-append _ events more
arrived-append count (Line_begins line ∷ events) more = arrived-append 0 events more
arrived-append count (Tick_begins ∷ events) more = arrived-append 0 events more

arrives_one : (lost : Bool) (text : List ℕ) → length (if lost then [] else text ∷ []) ≤ 1
arrives_one true text = omega arith
arrives_one false text = omega arith

-- ---- what stands before an entry

abbrev units_in : List Entry → ℕ
units_in following = length (shown host_unit_at following)

units_more : (following : List Entry) (e : Entry) → units_in (following ++ e ∷ []) ≡ units_in following + units_in (e ∷ [])
units_more following e = ap (λ (l : List (List ℕ)). length l) (shown-append host_unit_at following (e ∷ [])) ∙ length-append (shown host_unit_at following) (shown host_unit_at (e ∷ []))

-- Lines have asked for these ticks; the one that was told last has begun by the text too; and so many units have arrived at most, or the words of a `tick` stand last.
record Stands (past following : List Entry) (now due count : ℕ) : Type 0 where
  asked : due ≡ ticks_asked (lines_run past)
  behind : now ≤ clock_begun past
  few : (count ≤ units_in following) ⊎ ((now < due) × (1 ≤ ticks_asked (line_last past)))

max_first : (a b c : ℕ) → c ≡ a → c ≤ max a b
max_first a b c is = omega (arith, is)

max_last : (a b c : ℕ) → c ≡ b → c ≤ max a b
max_last a b c is = omega (arith, is)

none_few : (n : ℕ) → n ≡ 0 → n ≤ 0
none_few n none = omega (arith, none)

-- words of a line
module _ (past following rest : List Entry) (words : List ℕ) (now due count left : ℕ) (stands : Stands past following now due count) (read : IsRead (entry.Said words))
    (none : (left ≡ 0) ⊎ ((ticks : ℕ) × (others : List Line) × (done_line (line_of (entry.Said words)) rest ≡ lines.Tick ticks ∷ others))) where
  abbrev later : List Entry
  later = past ++ entry.Said words ∷ []

  said_asked : due + ticks_asked (line_of (entry.Said words)) ≡ ticks_asked (lines_run later)
  said_asked =
      let was = stands.asked in
      let sum : ticks_asked (lines_run later) ≡ ticks_asked (lines_run past) + ticks_asked (line_of (entry.Said words)) =
      ap ticks_asked (shown-append line_of past (entry.Said words ∷ []) ∙ ap (λ (l : List Line). lines_run past ++ l) (append-nil (line_of (entry.Said words))))
      ∙ asked-append (lines_run past) (line_of (entry.Said words)) in
      omega (arith, was, sum)

  said_behind : due ≤ clock_begun later
  said_behind =
      let run : lines_run later ≡ lines_run past ++ read.0 ∷ [] = shown-append line_of past (entry.Said words ∷ []) ∙ ap (λ (l : List Line). lines_run past ++ (l ++ [])) read.1 in
      let before : ticks_asked (lines_before later) ≡ ticks_asked (lines_run past) =
      ap (λ (l : List Line). ticks_asked (take (length l - 1) l)) run ∙ ap ticks_asked (but_last (lines_run past) read.0) in
      max_last (time_of later) (ticks_asked (lines_before later)) due (stands.asked ∙ sym before)

  of_line : (refused : Bool) (ticks : ℕ) (others : List Line) → (if refused then [] else line_of (entry.Said words)) ≡ lines.Tick ticks ∷ others → line_of (entry.Said words) ≡ lines.Tick ticks ∷ others
  of_line true ticks others is = absurd (let bad : [] ≡ lines.Tick ticks ∷ others = is in cc)
  of_line false ticks others is = is

  said_few : (left ≤ units_in []) ⊎ ((due < due + ticks_asked (line_of (entry.Said words))) × (1 ≤ ticks_asked (line_last later)))
  said_few = by none
    where
      by : (left ≡ 0) ⊎ ((ticks : ℕ) × (others : List Line) × (done_line (line_of (entry.Said words)) rest ≡ lines.Tick ticks ∷ others))
          → (left ≤ units_in []) ⊎ ((due < due + ticks_asked (line_of (entry.Said words))) × (1 ≤ ticks_asked (line_last later)))
      by (inl zero_is) = inl (none_few left zero_is)
      by (inr (ticks, others, is)) =
          let are = of_line (begins_refused rest) ticks others is in
          let some = ticks_some words ticks others (line_at words) refl are in
          let here : ticks_asked (line_of (entry.Said words)) ≡ ticks + ticks_asked others = ap ticks_asked are in
          let more : 1 ≤ ticks_asked (line_of (entry.Said words)) = omega (arith, some, here) in
          inr (omega (arith, more), subst (λ (l : List Line). 1 ≤ ticks_asked l) (sym (last_is past (entry.Said words))) more)

  said_stands : Stands later [] due (due + ticks_asked (line_of (entry.Said words))) left
  said_stands = record { asked = said_asked; behind = said_behind; few = said_few }

-- the number of a tick
time_stands : (past following : List Entry) (tick now due count left : ℕ) → left ≡ 0 → Stands past following now due count → Stands (past ++ entry.Time tick ∷ []) [] tick due left
time_stands past following tick now due count left none stands =
    let later : List Entry = past ++ entry.Time tick ∷ [] in
    let is : time_of later ≡ tick = ap (last_number 0) (shown-append tick_at past (entry.Time tick ∷ [])) ∙ last_of_more 0 (ticks past) tick in
    record {
      asked = stands.asked ∙ sym (ap ticks_asked (shown-append line_of past (entry.Time tick ∷ []) ∙ append-nil (lines_run past)));
      behind = max_first (time_of later) (ticks_asked (lines_before later)) tick (sym is);
      few = inl (none_few left none);
    }

-- another entry, where the words of a `tick` do not stand last
other_stands : (past following : List Entry) (e : Entry) (now due count new : ℕ) → IsUntimed e → ticks_asked (line_last past) ≡ 0 → new ≤ count + units_in (e ∷ []) → Stands past following now due count
    → Stands (past ++ e ∷ []) (following ++ e ∷ []) now due new
other_stands past following e now due count new untimed none most stands =
    record {
      asked = stands.asked ∙ sym (ap ticks_asked (same_lines past (e ∷ []) (untimed, tt)));
      behind = subst (λ (n : ℕ). now ≤ n) (sym (same_clock past (e ∷ []) (untimed, tt))) stands.behind;
      few = by stands.few;
    }
  where
    by : (count ≤ units_in following) ⊎ ((now < due) × (1 ≤ ticks_asked (line_last past))) → (new ≤ units_in (following ++ e ∷ [])) ⊎ ((now < due) × (1 ≤ ticks_asked (line_last (past ++ e ∷ []))))
    by (inl few) = let more = units_more following e in inl (omega (arith, most, few, more))
    by (inr (below, some)) = absurd (omega (arith, some, none))

-- ---- over all entries

same_left : {P : Type 0} (a b most : ℕ) → a ≡ b → (b ≤ most) ⊎ P → (a ≤ most) ⊎ P
same_left a b most same (inl few) = inl (omega (arith, same, few))
same_left a b most same (inr other) = inr other

later_some : (now clock tick : ℕ) → now ≤ clock → clock < tick → 1 ≤ tick - now
later_some now clock tick behind later = omega (arith, behind, later)

one_most : (n count : ℕ) → n ≤ 1 → count + n ≤ count + 1
one_most n count few = omega (arith, few)

module _ (whole : List Entry) where
  abbrev IsFew : ℕ → ℕ → List Entry → Type 0
  IsFew count now following = (count ≤ units_in following) ⊎ (now < ticks_asked (lines_run whole))

  at_end : (past following : List Entry) (now due count : ℕ) → past ++ [] ≡ whole → Stands past following now due count → IsFew count now following
  at_end past following now due count is stands = by stands.few
    where
      by : (count ≤ units_in following) ⊎ ((now < due) × (1 ≤ ticks_asked (line_last past))) → IsFew count now following
      by (inl few) = inl few
      by (inr (below, some)) = inr (subst (λ (l : List Entry). now < ticks_asked (lines_run l)) (sym (append-nil past) ∙ is) (subst (λ (n : ℕ). now < n) stands.asked below))

  counted : (rest past following : List Entry) (now due count : ℕ) → past ++ rest ≡ whole → Stands past following now due count → EachAfter MayBeTold past rest → AllByRecursion IsRead rest
      → IsFew (arrived_from count (serial_events_from now due rest)) (told_from now due rest) (folded since_begun following rest)
  counted [] past following now due count is stands may read = at_end past following now due count is stands
  counted (entry.Said words ∷ rest) past following now due count is stands may read =
      let line : List Line = line_of (entry.Said words) in
      let more : List SerialEvent = serial_events_from due (due + ticks_asked line) rest in
      let begins : List SerialEvent = beginning_of (done_line line rest) in
      let ticked = after_ticks (due - now) count (begins ++ more) in
      let said = after_words (done_line line rest) ticked.left more in
      same_left (arrived_from count ((ticks_up_to now due ++ begins) ++ more)) (arrived_from said.left more) (units_in (folded since_begun [] rest))
      (ap (λ (l : List SerialEvent). arrived_from count l) (append_assoc (ticks_up_to now due) begins more) ∙ ticked.is ∙ said.is)
      (counted rest (past ++ entry.Said words ∷ []) [] due (due + ticks_asked line) said.left (append_assoc past (entry.Said words ∷ []) rest ∙ is)
      (said_stands past following rest words now due count said.left stands read.0 said.none) may.1 read.1)
  counted (entry.Time tick ∷ rest) past following now due count is stands may read =
      let more : List SerialEvent = serial_events_from tick due rest in
      let ticked = after_ticks (tick - now) count more in
      same_left (arrived_from count (ticks_up_to now tick ++ more)) (arrived_from ticked.left more) (units_in (folded since_begun [] rest)) ticked.is
      (counted rest (past ++ entry.Time tick ∷ []) [] tick due ticked.left (append_assoc past (entry.Time tick ∷ []) rest ∙ is)
      (time_stands past following tick now due count ticked.left (ticked.none (later_some now (clock_begun past) tick stands.behind may.0.later)) stands) may.1 read.1)
  counted (entry.Written Host unit ∷ rest) past following now due count is stands may read =
      let arriving : List (List ℕ) = arriving_of Host unit rest in
      counted rest (past ++ entry.Written Host unit ∷ []) (following ++ entry.Written Host unit ∷ []) now due (count + length arriving) (append_assoc past (entry.Written Host unit ∷ []) rest ∙ is)
      (other_stands past following (entry.Written Host unit) now due count (count + length arriving) tt may.0 (one_most (length arriving) count (arrives_one (is_lost Host rest) (changed_or_not Host unit rest))) stands) may.1 read.1
  counted (entry.Written Chip unit ∷ rest) past following now due count is stands may read =
      counted rest (past ++ entry.Written Chip unit ∷ []) (following ++ entry.Written Chip unit ∷ []) now due (count + 0) (append_assoc past (entry.Written Chip unit ∷ []) rest ∙ is)
      (other_stands past following (entry.Written Chip unit) now due count (count + 0) tt may.0 (omega arith) stands) may.1 read.1
  counted (e ∷ rest) past following now due count is stands may read =
      counted rest (past ++ e ∷ []) (following ++ e ∷ []) now due count (append_assoc past (e ∷ []) rest ∙ is) (other_stands past following e now due count count tt may.0 (omega arith) stands) may.1 read.1

-- so once the number of the running tick is entered, where all ticks that lines asked for have begun
pub few_arrive : (past : List Entry) (o : OuterState) → TellsTime past → AllByRecursion IsRead past → tick_told (past ++ ticked_entry o) ≡ o.clock → o.clock ≡ ticks_asked (lines_run past)
    → arrived_from 0 (serial_events (past ++ ticked_entry o)) ≤ length (shown host_unit_at (folded since_begun [] past))
few_arrive past o times read told clock =
    let first : Stands [] [] 0 0 0 = record { asked = refl; behind = omega arith; few = inl (omega arith) } in
    subst (λ (events : List SerialEvent). arrived_from 0 events ≤ units_in (folded since_begun [] past)) (sym (timed_serials past o told)) (by (counted past past [] [] 0 0 0 refl first times read))
  where
    by : (arrived_from 0 (serial_events past) ≤ units_in (folded since_begun [] past)) ⊎ (tick_told past < ticks_asked (lines_run past))
        → arrived_from 0 (serial_events past ++ ticks_up_to (tick_told past) o.clock) ≤ units_in (folded since_begun [] past)
    by few_or =
        let before : ℕ = arrived_from 0 (serial_events past) in
        let ticked = after_ticks (o.clock - tick_told past) before [] in
        let same : arrived_from 0 (serial_events past ++ ticks_up_to (tick_told past) o.clock) ≡ ticked.left =
        arrived-append 0 (serial_events past) (ticks_up_to (tick_told past) o.clock) ∙ ap (λ (l : List SerialEvent). arrived_from before l) (sym (append-nil (ticks_up_to (tick_told past) o.clock))) ∙ ticked.is in
        let small = ticked.few in
        elim few_or [
          | inl few ↦ omega (arith, same, small, few)
          | inr below ↦ let none = ticked.none (omega (arith, below, clock)) in omega (arith, same, none)
        ]
