-- Bytes are stalled no longer than a line asked for: a stall begins at the clock of what stands before its line.
use Rattle.std.proofs.Common.{◌≡◌, ℕ, ◌+◌, ◌≤◌, ◌||◌, max, Bool, false, inl, inr, ◌⊎◌, List, [], ◌∷◌, ◌++◌, nat_lt, refl, sym, ap, ◌∙◌, subst, append-nil, append_assoc, arith}
use Rattle.std.proofs.lemmas.Bool.{le-ltb, ltb-false, or_parts}
use Rattle.std.proofs.lemmas.List.Folds.{list_any-append}
use Rattle.std.specs.Prelude.{Some}
use Rattle.std.specs.List.{flat_map, list_any, AllByRecursion}
use Rattle.s0_crypto.specs.declared.key_pair.Keys.{Keys}
use Rattle.zw_text.specs.declared.line.Line.{Line}
use Rattle.zw_text.specs.declared.line.Line.TheVariants as lines
use Rattle.zw_text.specs.declared.entry.Entry.{Entry}
use Rattle.zw_text.specs.declared.entry.Entry.TheVariants.{Said, Refused}
use Rattle.zw_text.specs.Transcript.{line_of, lines_run}
use Rattle.law_wire.specs.Links.{stall_by}
use Rattle.proof_rests.specs.proof_attempts.proof_host.device_sim.State.{State}
use Rattle.law_wire.specs.law_transcript.Lists.{EachAfter, shown_after}
use Rattle.law_wire.specs.law_transcript.Restarts.{ticks_asked}
use Rattle.law_time.specs.Calm.{is_stalled as is_stalled_told}
use Rattle.proof_chip.specs.proof_line.outside_model.State.{first_outer, is_stalled}
use Rattle.proof_chip.specs.proof_line.outside_model.Events.{OuterEvent, Begins_line, Host_notes, Host_takes as host_takes, Stalls, outcome, devices_after}
use Rattle.proof_chip.specs.proof_line.world_model.State.{Machine, first_machine}
use Rattle.proof_chip.specs.proof_line.world_model.Events.{Event, Outside_does, Host_does, Host_takes, Decoder_ticks, Refuses, Shows_values, Restarts, happens, entries, shown_values, May}
use Rattle.proof_chip.specs.proof_line.world_model.Lines.{IsEffect}
use Rattle.proof_chip.specs.proof_world.world_lines.Spoken.{Spoken, after_all, transcript_of}
use Rattle.proof_chip.specs.proof_world.world_lines.Done.{AreDone}
use Rattle.proof_chip.specs.proof_world.world_lines.Whole.{AreWhole}
use Rattle.proof_chip.proofs.HostTelling.{does_tells, takes_tells}
use Rattle.proof_chip.proofs.LinkEvents.{until_stays}
use Rattle.proof_chip.specs.proof_line.proof_walk.ByLine.{Asked, CoversLine, IsOfTick, KnownOf, Opened, TiedByLine, begun, by_line}
use Rattle.proof_chip.specs.proof_line.proof_walk.Outside.{CoversOuter}
use Rattle.proof_chip.specs.proof_line.proof_walk.Phases.{Phase, Between}
use Rattle.proof_chip.specs.proof_line.proof_walk.Time.{KnowTime, MayCount}
use Rattle.proof_chip.specs.proof_line.proof_walk.Walk.{TiedWalk, Walk}
use Rattle.proof_chip.proofs.ByLine.{common_covered, effect_covered, opens, tied_walk_of}
use Rattle.proof_chip.proofs.Lines.{all_tied, lines_lead, tied_lead}
use Rattle.proof_chip.proofs.Shown.{shown_one}
use Rattle.proof_in_time.specs.proof_answered.proof_calm.proof_work.Phases.{AsksNothing}
use Rattle.proof_in_time.proofs.Unmarked.{nothing_asked}
use Rattle.proof_ready.specs.Ease.{clock_of}

-- ---- what lines stall

abbrev stall_at : List Entry → Entry → List ℕ
stall_at before one = flat_map (stall_by (ticks_asked (lines_run before))) (line_of one)

abbrev stalls : List Entry → List ℕ
stalls past = shown_after stall_at [] past

-- a time at which none of them lasts is not before this one
abbrev Ends : List Entry → ℕ → Type 0
Ends past until = (time : ℕ) → list_any (nat_lt time) (stalls past) ≡ false → nat_lt time until ≡ false

-- of entries, some of which come later
parts : (time : ℕ) (past : List Entry) (e : Entry) → list_any (nat_lt time) (stalls (past ++ e ∷ [])) ≡ false
    → (list_any (nat_lt time) (stalls past) ≡ false) × (list_any (nat_lt time) (stall_at past e) ≡ false)
parts time past e none =
    or_parts (list_any (nat_lt time) (stalls past)) (list_any (nat_lt time) (stall_at past e))
    (sym (list_any-append (nat_lt time) (stalls past) (stall_at past e)) ∙ (sym (ap (λ (l : List ℕ). list_any (nat_lt time) l) (shown_one stall_at [] past e)) ∙ none))

later_one : (past : List Entry) (e : Entry) (until : ℕ) → Ends past until → Ends (past ++ e ∷ []) until
later_one past e until is time none = is time (parts time past e none).0

later : (told past : List Entry) (until : ℕ) → Ends past until → Ends (past ++ told) until
later [] past until is = subst (λ (l : List Entry). Ends l until) (sym (append-nil past)) is
later (e ∷ told) past until is = subst (λ (l : List Entry). Ends l until) (append_assoc past (e ∷ []) told) (later told (past ++ e ∷ []) until (later_one past e until is))

-- the words of a line that stalls them
not_below : (time a b : ℕ) → nat_lt time a ≡ false → nat_lt time b ≡ false → nat_lt time (max a b) ≡ false
not_below time a b first second =
    le-ltb time (max a b) (both (ltb-false time a first) (ltb-false time b second))
  where
    both : a ≤ time → b ≤ time → max a b ≤ time
    both one two = omega (arith, one, two)

stalled : (before : List Entry) (words : List ℕ) (ticks until clock : ℕ) → line_of (Said words) ≡ lines.Stall ticks ∷ [] → clock ≡ ticks_asked (lines_run before) → Ends before until
    → Ends (before ++ Said words ∷ []) (max until (clock + ticks))
stalled before words ticks until clock read now is time none = not_below time until (clock + ticks) (is time both.0) (subst (λ (n : ℕ). nat_lt time (n + ticks) ≡ false) (sym now) (or_parts _ false here).0)
  where
    both : (list_any (nat_lt time) (stalls before) ≡ false) × (list_any (nat_lt time) (stall_at before (Said words)) ≡ false)
    both = parts time before (Said words) none

    here : (nat_lt time (ticks_asked (lines_run before) + ticks) || false) ≡ false
    here = sym (ap (λ (l : List Line). list_any (nat_lt time) (flat_map (stall_by (ticks_asked (lines_run before))) l)) read) ∙ both.1

-- ---- events

abbrev IsNoStall : OuterEvent → Type 0
IsNoStall (Stalls ticks) = ⊥
IsNoStall event = Unit {0}

abbrev until_of : Machine → ℕ
until_of m = m.outside.outer.stalled_until

outside_stays : (m : Machine) (event : OuterEvent) → IsNoStall event → until_of (happens m (Outside_does event)) ≡ until_of m
outside_stays m (Stalls ticks) none = absurd none
outside_stays m event none = until_stays m event tt

event_stays : (m : Machine) (event : Event) → CoversOuter IsNoStall event → until_of (happens m event) ≡ until_of m
unfolding happens
event_stays m (Outside_does event) none = outside_stays m event none
event_stays m (Host_does event) none = ap (λ (t : Bool × ℕ × ℕ). t.2) (does_tells m event).time
event_stays m (Host_takes count rest items events) none = ap (λ (t : Bool × ℕ × ℕ). t.2) (takes_tells m count rest items events).time ∙ until_stays m (host_takes count) tt
event_stays m Decoder_ticks none = refl
event_stays m (Refuses line refusal) none = until_stays m (Host_notes (Refused refusal)) tt
event_stays m (Shows_values node) none = until_stays m (Host_notes (shown_values m.host.state node)) tt
event_stays m (Restarts state) none = refl

begun_until : (m : Machine) → until_of (begun m) ≡ until_of m
begun_until m = until_stays m Begins_line tt

begun_clock : (m : Machine) → (begun m).outside.outer.clock ≡ m.outside.outer.clock
unfolding happens outcome devices_after
begun_clock m = refl

stalls_until : (m : Machine) (ticks : ℕ) → until_of (happens m (Outside_does (Stalls ticks))) ≡ max (until_of m) (m.outside.outer.clock + ticks)
unfolding happens outcome devices_after
stalls_until m ticks = refl

-- ---- a line

abbrev IsTimed : KnownOf
IsTimed past m = m.outside.outer.clock ≡ ticks_asked (lines_run past)

abbrev Else : KnownOf
Else past m = Ends past (until_of m)

abbrev Both : KnownOf
Both past m = IsTimed past m × Else past m

-- bytes are to be stalled, or they are not any more
abbrev Left : Line → List Event → KnownOf
Left line left past m =
    ((ticks : ℕ) × (left ≡ Outside_does (Stalls ticks) ∷ []) × Ends past (max (until_of m) (m.outside.outer.clock + ticks))) ⊎ (AllByRecursion (CoversOuter IsNoStall) left × Else past m)

abbrev IsOther : Line → Type 0
IsOther (lines.Stall ticks) = ⊥
IsOther line = Unit {0}

covers_line : (line : Line) → IsOther line → CoversLine IsNoStall line
covers_line (lines.Stall ticks) other = absurd other
covers_line (lines.Repeat frame) other = λ drawn route. tt
covers_line (lines.Wake node) other = λ route. tt
covers_line (lines.Local node value) other = λ route. tt
covers_line lines.Restart other = (tt, tt)
covers_line line other = tt

opened_ends : (line : Line) (past : List Entry) (m : Machine) → Opened Both line past m → Else past m
opened_ends line past m (first, asked, is) =
    subst (λ (l : List Entry). Ends l (until_of m)) (sym asked.is)
    (subst (λ (n : ℕ). Ends (asked.before ++ Said asked.words ∷ []) n) (sym (ap (λ (n : Machine). until_of n) is ∙ begun_until first)) (later_one asked.before (Said asked.words) (until_of first) asked.ties.1))

stall_to_come : (ticks : ℕ) (past : List Entry) (m : Machine) → Opened Both (lines.Stall ticks) past m → Ends past (max (until_of m) (m.outside.outer.clock + ticks))
stall_to_come ticks past m (first, asked, is) =
    subst (λ (l : List Entry). Ends l (max (until_of m) (m.outside.outer.clock + ticks))) (sym asked.is)
    (subst (λ (n : Machine). Ends (asked.before ++ Said asked.words ∷ []) (max (until_of n) (n.outside.outer.clock + ticks))) (sym is)
    (subst (λ (n : ℕ). Ends (asked.before ++ Said asked.words ∷ []) (max n ((begun first).outside.outer.clock + ticks))) (sym (begun_until first))
    (subst (λ (n : ℕ). Ends (asked.before ++ Said asked.words ∷ []) (max (until_of first) (n + ticks))) (sym (begun_clock first))
    (stalled asked.before asked.words ticks (until_of first) first.outside.outer.clock asked.read asked.ties.0 asked.ties.1))))

doing : (line : Line) (past : List Entry) (m : Machine) (events : List Event) → IsEffect line m events → Opened Both line past m → Left line events past m
doing (lines.Stall ticks) past m events is opened = inl (ticks, is, stall_to_come ticks past m opened)
doing line past m events is opened = inr (effect_covered IsNoStall line m events (covers_line line tt) is, opened_ends line past m opened)

kept : (past : List Entry) (m : Machine) (event : Event) → CoversOuter IsNoStall event → Else past m
    → EachAfter AsksNothing past (entries m event) × Else (past ++ entries m event) (happens m event)
kept past m event none is =
    (nothing_asked past (entries m event), later (entries m event) past (until_of (happens m event)) (subst (Ends past) (sym (event_stays m event none)) is))

stalls_now : (ticks : ℕ) (past : List Entry) (m : Machine) → Ends past (max (until_of m) (m.outside.outer.clock + ticks))
    → EachAfter AsksNothing past (entries m (Outside_does (Stalls ticks))) × Else (past ++ entries m (Outside_does (Stalls ticks))) (happens m (Outside_does (Stalls ticks)))
stalls_now ticks past m is = (
  nothing_asked past (entries m (Outside_does (Stalls ticks))),
  later (entries m (Outside_does (Stalls ticks))) past (until_of (happens m (Outside_does (Stalls ticks)))) (subst (Ends past) (sym (stalls_until m ticks)) is),
)

does : (line : Line) (first : Event) (left : List Event) (past : List Entry) (m : Machine) → May m first → Left line (first ∷ left) past m
    → EachAfter AsksNothing past (entries m first) × Left line left (past ++ entries m first) (happens m first)
does line first left past m may (inl (ticks, are, is)) =
    let head : first ≡ Outside_does (Stalls ticks) = cc in
    let tail : left ≡ [] = cc in
    let got = stalls_now ticks past m is in
    subst (λ (e : Event). EachAfter AsksNothing past (entries m e) × Left line left (past ++ entries m e) (happens m e)) (sym head)
    (got.0, inr (subst (λ (l : List Event). AllByRecursion (CoversOuter IsNoStall) l) (sym tail) tt, got.1))
does line first left past m may (inr (none, is)) = let got = kept past m first none.0 is in (got.0, inr (none.1, got.1))

done : (line : Line) (past : List Entry) (m : Machine) → Left line [] past m → Else past m
done line past m (inl (ticks, are, is)) = absurd cc
done line past m (inr (none, is)) = is

of_tick : (event : OuterEvent) → IsOfTick event → IsNoStall event
of_tick (Stalls ticks) tick = absurd tick
of_tick event tick = tt

-- ---- lines

abbrev KnowEnds : Phase → List Entry → Machine → Type 0
KnowEnds = by_line (Asked Both) (Opened Both) Left Else

by_lines : TiedByLine IsTimed AsksNothing (Asked Both) (Opened Both) Left Else
by_lines = record {
  said = λ past m words line read timed is. (tt, record { before = past; words = words; is = refl; read = read; ties = (timed, is) });
  in_line = record {
    begins = opens AsksNothing Both;
    effect = doing;
    does = does;
    done = done;
    ticks = λ count past m opened. opened_ends (lines.Tick count) past m opened;
    common = λ past m event common may is. kept past m event (common_covered IsNoStall of_tick event common) is;
  };
}

stalls_walk : TiedWalk IsTimed AsksNothing KnowEnds
stalls_walk = tied_walk_of AsksNothing (Asked Both) (Opened Both) Left Else IsTimed by_lines

module _ (time : Walk MayCount KnowTime) (keys : Keys) (devices : List State) (first : KnowTime Between [] (first_machine keys (Some []) devices)) where
  abbrev start : Machine
  start = first_machine keys (Some []) devices

  timed : (lines : List Spoken) → AreDone start lines → AreWhole start lines → IsTimed (transcript_of start lines) (after_all start lines)
  timed lines are whole = none_left (after_all start lines).outside.outer.clock (lines_lead MayCount KnowTime time [] start lines are whole first).1.0.0.clock
    where
      none_left : {asked : ℕ} (clock : ℕ) → clock + 0 ≡ asked → clock ≡ asked
      none_left clock is = omega (arith, is)

  begins : Ends [] (until_of start)
  unfolding first_outer
  begins time none = le-ltb time 0 (omega arith)

  -- where by the transcript none lasts, bytes move
  pub stalls_end : (lines : List Spoken) → AreDone start lines → AreWhole start lines → is_stalled_told (transcript_of start lines) (clock_of (transcript_of start lines)) ≡ false
      → is_stalled (after_all start lines).outside.outer ≡ false
  stalls_end lines are whole none =
      ap (λ (n : ℕ). nat_lt n (until_of (after_all start lines))) (timed lines are whole)
      ∙ (tied_lead IsTimed AsksNothing KnowEnds stalls_walk [] start lines are whole (all_tied IsTimed [] start lines are (λ front done whole. timed front done whole)) begins).1
      (clock_of (transcript_of start lines)) none
