-- The clock of a host alone is that of the transcript.
use Rattle.std.proofs.Common.{◌≡◌, ◌≤◌, ◌⊎◌, ℕ, suc, ◌+◌, Bool, true, false, if◌then◌else◌, inl, inr, List, [], ◌∷◌, ◌++◌, refl, sym, ap, ap₂, ◌∙◌, subst, append-nil, arith}
use Rattle.std.specs.Prelude.{nat_lt}
use Rattle.std.proofs.lemmas.Bool.{ltb-true, ltb-false}
use Rattle.zw_text.specs.declared.line.Line.{Line}
use Rattle.zw_text.specs.declared.entry.Entry.{Entry}
use Rattle.zw_text.specs.declared.entry.Entry.TheVariants as entry
use Rattle.zw_text.specs.Transcript.{folded, last_number, line_of, lines_run, tick_at, ticks, time_of}
use Rattle.zw_text.proofs.Views.{folded-append, shown-append}
use Rattle.law_host.specs.law_transcript.Lists.{EachAfter}
use Rattle.law_host.specs.law_transcript.Restarts.{ticks_asked, ticks_of}
use Rattle.law_host.specs.law_time.Moments.{Passing, clock, passing_step}
use Rattle.proof_line.proofs.Lists.{each-anywhere}
use Rattle.proof_line.specs.host_model.State.{HostState}
use Rattle.proof_line.specs.host_model.Events.{HostEvent, Accepts, Cancels, Hears}
use Rattle.proof_line.specs.host_model.Outs.{answers, outs}
use Rattle.proof_line.specs.proof_walk.Outside.{IsHostNote}
use Rattle.proof_line.specs.proof_walk.Time.{MayCount}
use Rattle.proof_line.proofs.Clock.{asked-append, last_of_more}
use Rattle.proof_line.proofs.Untimed.{AreUntimed, IsUntimed, same_lines, same_time}
use Rattle.proof_alone.specs.State.{HostMachine}
use Rattle.proof_alone.specs.Steps.{AreTold, IsOfOthers, Step, Tells, Comes, Misses, Says, Says_nothing, Asks, Refuses, Shows, Restarts, Begins_tick, Numbers, Judges, Does, entries, happens}
use Rattle.proof_alone.specs.Phases.{Phase, May}
use Rattle.proof_alone.specs.Runs.{Walk}
use Rattle.proof_alone.specs.Time.{KnowsClock, TieClock, passing}
use Rattle.proof_alone.proofs.Apart.{AreOfLine, missed_are, told_are}
use Rattle.proof_alone.proofs.Hearing.{event_notes}

-- ---- entries that tell no time

pub passing_untimed : (start : Passing) (told : List Entry) → AreUntimed told → folded passing_step start told ≡ start
passing_untimed start [] all = refl
passing_untimed start (entry.Said words ∷ told) all = absurd all.0
passing_untimed start (e ∷ told) all = passing_untimed start told all.1

same_passing : (past told : List Entry) → AreUntimed told → passing (past ++ told) ≡ passing past
same_passing past told all = folded-append passing_step (record { before = 0; asked = 0 }) past told ∙ passing_untimed (passing past) told all

may_stand : (past : List Entry) (e : Entry) → IsUntimed e → MayCount past e
may_stand past (entry.Said words) untimed = absurd untimed
may_stand past (entry.Time tick) untimed = absurd untimed
may_stand past e untimed = tt

all_stand : (past told : List Entry) → AreUntimed told → EachAfter MayCount past told
all_stand past told all = each-anywhere MayCount IsUntimed may_stand past told all

-- ---- of a host alone

aside_untimed : (e : Entry) → IsOfOthers e → IsUntimed e
aside_untimed (entry.Said words) aside = absurd aside
aside_untimed (entry.Time tick) aside = absurd aside
aside_untimed e aside = tt

note_untimed : (e : Entry) → IsHostNote e → IsUntimed e
note_untimed (entry.Said words) note = absurd note
note_untimed (entry.Time tick) note = absurd note
note_untimed e note = tt

line_untimed : AreOfLine IsUntimed
line_untimed = record { written = λ side text. tt; dropped = λ side. tt; garbled = λ side text. tt; overrun = λ side. tt }

pub told_untimed : (h : HostState) (event : HostEvent) (told : List Entry) → AreTold (outs h event) told → AreUntimed told
told_untimed h event told are = told_are IsUntimed line_untimed note_untimed (outs h event) told (event_notes h event) are

answers_untimed : (h : HostState) (event : HostEvent) → AreUntimed (answers h event)
answers_untimed h (Accepts order carriage) = (tt, tt)
answers_untimed h (Cancels command) = (tt, tt)
answers_untimed h event = tt

-- ---- the tie

-- the same clock, and nothing that tells of time
still : (past told : List Entry) (m later : HostMachine) → later.clock ≡ m.clock → later.left ≡ m.left → later.awaits ≡ m.awaits → AreUntimed told → TieClock past m → TieClock (past ++ told) later
still past told m later clock_is left_is awaits_is all tie =
    let lines = same_lines past told all in
    let time = same_time past told all in
    let pass = same_passing past told all in
    let asked = tie.asked in
    let whole = tie.all in
    let begun = tie.begun in
    let shown = tie.shown in
    let before : (passing (past ++ told)).before ≡ (passing past).before = ap (λ (p : Passing). p.before) pass in
    record {
      asked = ap₂ (λ (a b : ℕ). a + b) clock_is left_is ∙ asked ∙ ap ticks_asked (sym lines);
      all = ap (λ (p : Passing). p.before + p.asked) pass ∙ whole ∙ ap ticks_asked (sym lines);
      begun = omega (arith, begun, before, clock_is);
      shown = omega (arith, shown, time, clock_is);
      later = λ awaits. let less = tie.later (sym awaits_is ∙ awaits) in omega (arith, less, time, clock_is);
      now = λ awaits. by (tie.now (sym awaits_is ∙ awaits)) before time;
    }
  where
    by : (m.clock ≡ (passing past).before) ⊎ (m.clock ≡ time_of past) → (passing (past ++ told)).before ≡ (passing past).before → time_of (past ++ told) ≡ time_of past
        → (later.clock ≡ (passing (past ++ told)).before) ⊎ (later.clock ≡ time_of (past ++ told))
    by (inl is) before time = inl (clock_is ∙ is ∙ sym before)
    by (inr is) before time = inr (clock_is ∙ is ∙ sym time)

abbrev Goes : Phase → List Entry → HostMachine → Step → Type 0
Goes next past m one = EachAfter MayCount past (entries m one) × KnowsClock next (past ++ entries m one) (happens m one)

untimed_goes : (next : Phase) (past : List Entry) (m : HostMachine) (one : Step) → (happens m one).clock ≡ m.clock → (happens m one).left ≡ m.left → (happens m one).awaits ≡ m.awaits
    → AreUntimed (entries m one) → KnowsClock next past m → Goes next past m one
untimed_goes next past m one clock_is left_is awaits_is all tie = (all_stand past (entries m one) all, still past (entries m one) m (happens m one) clock_is left_is awaits_is all tie)

-- words are said, once all ticks that were asked for have begun
words_said : (past : List Entry) (m later : HostMachine) (words : List ℕ) → m.left ≡ 0 → later.clock ≡ m.clock → later.left ≡ ticks_asked (line_of (entry.Said words)) → later.awaits ≡ false
    → TieClock past m → TieClock (past ++ entry.Said words ∷ []) later
words_said past m later words none clock_is left_is awaits tie =
    let read : List Line = line_of (entry.Said words) in
    let total : ticks_asked (lines_run (past ++ entry.Said words ∷ [])) ≡ ticks_asked (lines_run past) + ticks_asked read =
    ap ticks_asked (shown-append line_of past (entry.Said words ∷ []) ∙ ap (λ (l : List Line). lines_run past ++ l) (append-nil read)) ∙ asked-append (lines_run past) read in
    let pass : passing (past ++ entry.Said words ∷ []) ≡ record { before = (passing past).before + (passing past).asked; asked = ticks_asked read } =
    folded-append passing_step (record { before = 0; asked = 0 }) past (entry.Said words ∷ []) in
    let time : time_of (past ++ entry.Said words ∷ []) ≡ time_of past = ap (last_number 0) (shown-append tick_at past (entry.Said words ∷ []) ∙ append-nil (ticks past)) in
    let asked = tie.asked in
    let whole = tie.all in
    let shown = tie.shown in
    let before : (passing (past ++ entry.Said words ∷ [])).before ≡ (passing past).before + (passing past).asked = ap (λ (p : Passing). p.before) pass in
    let more : (passing (past ++ entry.Said words ∷ [])).asked ≡ ticks_asked read = ap (λ (p : Passing). p.asked) pass in
    record {
      asked = omega (arith, asked, none, clock_is, left_is, total);
      all = omega (arith, before, more, whole, total);
      begun = omega (arith, before, whole, asked, none, clock_is);
      shown = omega (arith, shown, time, clock_is);
      later = λ is. absurd (let bad : false ≡ true = sym awaits ∙ is in cc);
      now = λ is. inl (omega (arith, before, whole, asked, none, clock_is));
    }

tick_begins : (past : List Entry) (m later : HostMachine) → m.left ≡ suc later.left → later.clock ≡ m.clock + 1 → later.awaits ≡ true → TieClock past m → TieClock (past ++ []) later
tick_begins past m later left_is clock_is awaits tie =
    let asked = tie.asked in
    let begun = tie.begun in
    let shown = tie.shown in
    subst (λ (l : List Entry). TieClock l later) (sym (append-nil past)) (record {
      asked = omega (arith, asked, left_is, clock_is);
      all = tie.all;
      begun = omega (arith, begun, clock_is);
      shown = omega (arith, shown, clock_is);
      later = λ is. omega (arith, shown, clock_is);
      now = λ is. absurd (let bad : true ≡ false = sym awaits ∙ is in cc);
    })

number_entered : (past : List Entry) (m later : HostMachine) → later.clock ≡ m.clock → later.left ≡ m.left → later.awaits ≡ false → TieClock past m
    → TieClock (past ++ entry.Time m.clock ∷ []) later
number_entered past m later clock_is left_is awaits tie =
    let lines : lines_run (past ++ entry.Time m.clock ∷ []) ≡ lines_run past = shown-append line_of past (entry.Time m.clock ∷ []) ∙ append-nil (lines_run past) in
    let pass : passing (past ++ entry.Time m.clock ∷ []) ≡ passing past = folded-append passing_step (record { before = 0; asked = 0 }) past (entry.Time m.clock ∷ []) in
    let time : time_of (past ++ entry.Time m.clock ∷ []) ≡ m.clock = ap (last_number 0) (shown-append tick_at past (entry.Time m.clock ∷ [])) ∙ last_of_more 0 (ticks past) m.clock in
    let begun = tie.begun in
    let before : (passing (past ++ entry.Time m.clock ∷ [])).before ≡ (passing past).before = ap (λ (p : Passing). p.before) pass in
    record {
      asked = ap₂ (λ (a b : ℕ). a + b) clock_is left_is ∙ tie.asked ∙ ap ticks_asked (sym lines);
      all = ap (λ (p : Passing). p.before + p.asked) pass ∙ tie.all ∙ ap ticks_asked (sym lines);
      begun = omega (arith, begun, before, clock_is);
      shown = omega (arith, time, clock_is);
      later = λ is. absurd (let bad : false ≡ true = sym awaits ∙ is in cc);
      now = λ is. inr (clock_is ∙ sym time);
    }

-- the number of a tick is above those before it, and lines have asked for so many
number_counts : (past : List Entry) (m : HostMachine) → m.awaits ≡ true → TieClock past m → MayCount past (entry.Time m.clock)
number_counts past m awaits tie = (tie.later awaits, few (tie.asked))
  where
    few : m.clock + m.left ≡ ticks_asked (lines_run past) → m.clock ≤ ticks_asked (lines_run past)
    few is = omega (arith, is)

-- ---- the walk

step_goes : (here next : Phase) (past : List Entry) (m : HostMachine) (one : Step) → May here m one next → KnowsClock here past m → Goes next past m one
step_goes here next past m (Tells e) may tie = untimed_goes next past m (Tells e) refl refl refl (aside_untimed e may.1, tt) tie
step_goes here next past m (Comes unit) may tie = untimed_goes next past m (Comes unit) refl refl refl (tt, tt) tie
step_goes here next past m (Misses text marks) may tie = untimed_goes next past m (Misses text marks) refl refl refl (tt, missed_are IsUntimed line_untimed marks may.1) tie
step_goes here next past m (Says words line) may tie =
    let one : ticks_of line ≡ ticks_asked (line ∷ []) = omega arith in
    ((tt, tt), words_said past m (happens m (Says words line)) words may.1 refl (one ∙ sym (ap ticks_asked may.2)) refl tie)
step_goes here next past m (Says_nothing words) may tie = ((tt, tt), words_said past m (happens m (Says_nothing words)) words may.1 refl (may.1 ∙ sym (ap ticks_asked may.2)) refl tie)
step_goes here next past m (Asks event) may tie = untimed_goes next past m (Asks event) refl refl refl (answers_untimed m.state event) tie
step_goes here next past m (Refuses refused) may tie = untimed_goes next past m (Refuses refused) refl refl refl (tt, tt) tie
step_goes here next past m (Shows node) may tie = untimed_goes next past m (Shows node) refl refl refl (tt, tt) tie
step_goes here next past m (Restarts state) may tie = untimed_goes next past m (Restarts state) refl refl refl tt tie
step_goes here next past m (Begins_tick left) may tie = (tt, tick_begins past m (happens m (Begins_tick left)) may.1 refl refl tie)
step_goes here next past m Numbers may tie = ((number_counts past m may.0 tie, tt), number_entered past m (happens m Numbers) refl refl refl tie)
step_goes here next past m (Judges item rest behind told) may tie =
    untimed_goes next past m (Judges item rest behind told) refl refl refl (told_untimed m.state (Hears item) told may.1.told_so) tie
step_goes here next past m (Does event told) may tie =
    untimed_goes next past m (Does event told) refl refl refl (told_untimed m.state event told may.2) tie

pub clock_walk : Walk MayCount KnowsClock
clock_walk = record { step = step_goes; turn = λ here next past m turns tie. tie }

-- ---- the clock

pub clock_is : (past : List Entry) (m : HostMachine) → TieClock past m → m.awaits ≡ false → clock past ≡ m.clock
clock_is past m tie awaits = by (nat_lt (passing past).before (time_of past)) refl (tie.now awaits) tie.begun tie.shown
  where
    by : (b : Bool) → nat_lt (passing past).before (time_of past) ≡ b → (m.clock ≡ (passing past).before) ⊎ (m.clock ≡ time_of past) → (passing past).before ≤ m.clock → time_of past ≤ m.clock
        → clock past ≡ m.clock
    by true less (inl is) begun shown = absurd (let more = ltb-true (passing past).before (time_of past) less in omega (arith, more, is, shown))
    by true less (inr is) begun shown = ap (λ (b : Bool). if b then time_of past else (passing past).before) less ∙ sym is
    by false less (inl is) begun shown = ap (λ (b : Bool). if b then time_of past else (passing past).before) less ∙ sym is
    by false less (inr is) begun shown =
        let more = ltb-false (passing past).before (time_of past) less in
        let same : (passing past).before ≡ m.clock = omega (arith, more, is, begun) in
        ap (λ (b : Bool). if b then time_of past else (passing past).before) less ∙ same

pub first_clock : (m : HostMachine) → m.clock ≡ 0 → m.left ≡ 0 → m.awaits ≡ false → TieClock [] m
first_clock m none no_more awaits = record {
  asked = omega (arith, none, no_more);
  all = refl;
  begun = omega arith;
  shown = omega arith;
  later = λ is. absurd (let bad : false ≡ true = sym awaits ∙ is in cc);
  now = λ is. inl none;
}
