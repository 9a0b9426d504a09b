-- That links cannot have done what some transcripts show: leave a frame unanswered, answer CAN unasked, write a copy too early or too late, keep a report, and find no room in an empty pipe.
use Rattle.std.proofs.Common.{◌≡◌, ℕ, List, [], ◌∷◌, ◌++◌, length, refl, ap, subst, arith}
use Rattle.std.specs.Prelude.{false, true, codes, zero, suc, ◌≤◌, take, drop}
use Rattle.std.specs.List.{AllByRecursion}
use Rattle.serial_link.specs.Rules.{Step, items_of, asks_of}
use Rattle.serial_link.proofs.Counting.{asks_of-append}
use Rattle.zw_words.specs.declared.side.Side.TheVariants.{Chip, Host}
use Rattle.zw_text.specs.declared.entry.Entry.{Entry}
use Rattle.law_transcript.specs.Lists.{EachAfter}
use Rattle.law_transcript.specs.Worked.{bytes, the_switch}
use Rattle.law_wire.specs.Answering.{IsIdleAfter, steps_up_to, waiting, ServesHost}
use Rattle.law_wire.specs.Asked.{course_of}
use Rattle.law_wire.specs.Links.{Moment, Obeys, moments_of, joined, steps_in, AreFirst, CollidesAsTold, FindsRoom, is_let_in, KeepsLink}
use Rattle.law_wire.specs.Serial.{SerialEvent, serial_events, ended}
use Rattle.law_wire.specs.Serial.SerialEvent.{Writes}
use Rattle.law_wire.specs.WorkedLinks.{unanswered, refused_by_host, copied_in, overrun_alone}
use Rattle.law_wire.specs.WorkedWrong.{kept_to_itself}
use Rattle.law_wire.proofs.Apart.{AreWithin, clocks_of, events_are, within}
use Rattle.law_wire.proofs.Computing.{reckoning}
use Rattle.law_wire.proofs.Overspeaking.{AreTimed, Stamp, stamps, writes_timed}
use Rattle.law_wire.proofs.Parts.{first_part, fill, filled_same, all_texts, texts_written, none_arrive, nothing_heard, is_heard}
use Rattle.law_wire.proofs.Replies.{IsNoCan, answers_first, answers_later, heard_short, no_can}
use Rattle.law_wire.proofs.Silence.{idle}

-- ---- answers

seven_two : 7 ≤ 2 → ⊥
seven_two few = omega (arith, few)

pub no_answer : KeepsLink Host (ended true unanswered) → ⊥
unfolding reckoning fill
no_answer given =
    let link = fill Host (ended true unanswered) given in
    let call : List ℕ = bytes (codes "010500130100E8") in
    let first : List Step = first_part given.parts in
    let last : List Step = first_part (drop 1 given.parts) in
    let before : length (items_of (first ++ [])) ≡ 0 =
    ap length (nothing_heard Host [] (take 1 (moments_of (serial_events (ended true unanswered)) link.parts)) refl (link.hears.0, tt))
    in
    let heard = is_heard (items_of last) call
    (subst (λ (n : ℕ). AreFirst (items_of last) (drop n (call ∷ []))) before link.hears.1.0.0)
    (subst (λ (n : ℕ). length (drop (length (items_of last)) (drop n (call ∷ []))) ≤ 0) before link.hears.1.0.1)
    in
    seven_two (heard_short first last call (answers_first first last [] (answers_later [] first (last ++ []) link.obeys.0.1.answers))
    (texts_written last [] link.writes.1.0) heard)

host_asks_none : (past moments : List Moment) → EachAfter (CollidesAsTold Host) past moments → asks_of (steps_in moments) ≡ 0
host_asks_none past [] asks = refl
host_asks_none past (one ∷ moments) asks =
    omega (arith, asks_of-append one.steps (steps_in moments), asks.0, host_asks_none (past ++ one ∷ []) moments asks.1)

pub no_collision : KeepsLink Host refused_by_host → ⊥
unfolding reckoning fill
no_collision given =
    let link = fill Host refused_by_host given in
    let moments : List Moment = moments_of (serial_events refused_by_host) link.parts in
    (subst (λ (units : List (List ℕ)). AllByRecursion IsNoCan units) (all_texts Host moments link.writes)
    (no_can [] (steps_in moments) link.obeys.0.1.answers refl (host_asks_none [] moments link.collides))).0 refl

-- ---- room

none_dropped : (count : ℕ) → ◌≡◌ {A = List (List ℕ)} (drop count []) []
none_dropped zero = refl
none_dropped (suc count) = refl

false_true : false ≡ true → ⊥
false_true same = cc

pub no_overrun : (parts : List (List Step)) → length parts ≡ 1 → EachAfter (FindsRoom Chip) [] (moments_of (serial_events overrun_alone) parts) → ⊥
unfolding reckoning
no_overrun [] one room = absurd (omega (arith, one))
no_overrun (first ∷ parts) one room =
    let get : List ℕ = bytes (codes "01090013020225022501E6") in
    false_true (subst (λ (units : List (List ℕ)). is_let_in Chip units (Writes Host get [] (get ∷ [])) ≡ true) (none_dropped (length (items_of first))) room.0)

-- ---- copies

-- what the chip writes where nothing comes are copies, each in the tick in which it stands
pub record AreTold (transcript : List Entry) : Type 0 where
  pub all : List Stamp
  pub timed : AreTimed all
  pub within : AreWithin (clocks_of Chip 0 (serial_events transcript)) all

told : (transcript : List Entry) (link : KeepsLink Chip transcript) → none_arrive Chip [] (moments_of (serial_events transcript) link.parts) ≡ true
    → (obeys : Obeys (moments_of (serial_events transcript) link.parts)) → AreTold transcript
told transcript link none obeys =
    let moments : List Moment = moments_of (serial_events transcript) link.parts in
    record {
      all = stamps 0 (steps_in moments);
      timed = writes_timed (steps_in moments) obeys.0.turn obeys.1.answers obeys.1.turns (nothing_heard Chip [] moments none link.hears);
      within = subst (λ (events : List SerialEvent). AreWithin (clocks_of Chip 0 events) (stamps 0 (steps_in moments)))
          (events_are (serial_events transcript) link.parts link.each)
          (within Chip 0 0 [] moments (record { all = refl; here = omega arith }) link.writes link.ticks);
    }

-- the first unit stands in a line, and so the next ones come with these ticks
second_at : (tick : ℕ) (clocks : List ℕ) (all : List Stamp) → AreTimed all → AreWithin (0 ∷ tick ∷ clocks) all → tick ≡ 16
second_at tick clocks (first ∷ second ∷ more) (copy, later) (start, from, (at, before, rest)) = omega (arith, start, at, before, copy.before, copy.at)
second_at tick clocks (first ∷ []) timed (start, from, never) = absurd never
second_at tick clocks [] timed never = absurd never

third_at : (second tick : ℕ) (clocks : List ℕ) (all : List Stamp) → AreTimed all → AreWithin (0 ∷ second ∷ tick ∷ clocks) all → tick ≡ 42
third_at second tick clocks (first ∷ next ∷ third ∷ more) (one, (copy, later)) (start, from, (again, since, (at, before, rest))) =
    omega (arith, start, at, before, one.at, copy.before, copy.at)
third_at second tick clocks (first ∷ next ∷ []) timed (start, from, (again, since, never)) = absurd never
third_at second tick clocks (first ∷ []) timed (start, from, never) = absurd never
third_at second tick clocks [] timed never = absurd never

fourth_at : (second third tick : ℕ) (clocks : List ℕ) (all : List Stamp) → AreTimed all → AreWithin (0 ∷ second ∷ third ∷ tick ∷ clocks) all → tick ≡ 78
fourth_at second third tick clocks (first ∷ next ∷ later ∷ fourth ∷ more) (one, (two, (copy, rest))) (start, from, (again, since, (once, so, (at, before, others)))) =
    omega (arith, start, at, before, one.at, two.at, copy.before, copy.at)
fourth_at second third tick clocks (first ∷ next ∷ later ∷ []) timed (start, from, (again, since, (once, so, never))) = absurd never
fourth_at second third tick clocks (first ∷ next ∷ []) timed (start, from, (again, since, never)) = absurd never
fourth_at second third tick clocks (first ∷ []) timed (start, from, never) = absurd never
fourth_at second third tick clocks [] timed never = absurd never

-- a tick too early, and a tick too late
pub too_early : KeepsLink Chip (copied_in (15 ∷ [])) → ⊥
unfolding reckoning fill
too_early given =
    let link = fill Chip (copied_in (15 ∷ [])) given in
    let d = told (copied_in (15 ∷ [])) link refl link.obeys.0 in
    omega (arith, second_at 15 [] d.all d.timed d.within)

pub too_late : KeepsLink Chip (copied_in (17 ∷ [])) → ⊥
unfolding reckoning fill
too_late given =
    let link = fill Chip (copied_in (17 ∷ [])) given in
    let d = told (copied_in (17 ∷ [])) link refl link.obeys.0 in
    omega (arith, second_at 17 [] d.all d.timed d.within)

-- so the third copy
pub third_early : KeepsLink Chip (copied_in (16 ∷ 41 ∷ [])) → ⊥
unfolding reckoning fill
third_early given =
    let link = fill Chip (copied_in (16 ∷ 41 ∷ [])) given in
    let d = told (copied_in (16 ∷ 41 ∷ [])) link refl link.obeys.0 in
    omega (arith, third_at 16 41 [] d.all d.timed d.within)

pub third_late : KeepsLink Chip (copied_in (16 ∷ 43 ∷ [])) → ⊥
unfolding reckoning fill
third_late given =
    let link = fill Chip (copied_in (16 ∷ 43 ∷ [])) given in
    let d = told (copied_in (16 ∷ 43 ∷ [])) link refl link.obeys.0 in
    omega (arith, third_at 16 43 [] d.all d.timed d.within)

-- and the fourth
pub fourth_early : KeepsLink Chip (copied_in (16 ∷ 42 ∷ 77 ∷ [])) → ⊥
unfolding reckoning fill
fourth_early given =
    let link = fill Chip (copied_in (16 ∷ 42 ∷ 77 ∷ [])) given in
    let d = told (copied_in (16 ∷ 42 ∷ 77 ∷ [])) link refl link.obeys.0 in
    omega (arith, fourth_at 16 42 77 [] d.all d.timed d.within)

pub fourth_late : KeepsLink Chip (copied_in (16 ∷ 42 ∷ 79 ∷ [])) → ⊥
unfolding reckoning fill
fourth_late given =
    let link = fill Chip (copied_in (16 ∷ 42 ∷ 79 ∷ [])) given in
    let d = told (copied_in (16 ∷ 42 ∷ 79 ∷ [])) link refl link.obeys.0 in
    omega (arith, fourth_at 16 42 79 [] d.all d.timed d.within)

-- ---- a report that is kept back

one_none : ◌≡◌ {A = ℕ} 1 0 → ⊥
one_none e = omega (arith, e)

-- the chip's link wrote nothing, so it is idle, and yet a report waits
pub kept_waits : ServesHost true (the_switch ∷ []) kept_to_itself → ⊥
unfolding reckoning fill
kept_waits law =
    let link = fill Chip (ended true kept_to_itself) law.link in
    let moments : List Moment = moments_of (serial_events (ended true kept_to_itself)) link.parts in
    let same : law.link.parts ≡ link.parts = filled_same 3 law.link.parts law.link.each in
    one_none (subst
    (λ (parts : List (List Step)). IsIdleAfter (steps_up_to parts (ended true kept_to_itself)) → waiting (the_switch ∷ []) (course_of (joined parts)) kept_to_itself ≡ 0)
    same law.waits.1.1.1.1.1.0
    (link.obeys.0.0, link.obeys.0.1, idle (steps_in moments) link.obeys.0.0.turn link.obeys.0.1.turns (all_texts Chip moments link.writes)))
