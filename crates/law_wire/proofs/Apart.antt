-- In which tick a side wrote each of its units, by its steps.
use Rattle.std.proofs.Common.{◌≡◌, ℕ, suc, ◌&&◌, Bool, true, false, if◌then◌else◌, List, [], ◌∷◌, ◌++◌, map, length, refl, sym, ap, subst, ◌∙◌, arith}
use Rattle.std.specs.Prelude.{◌+◌, ◌≤◌, ⊤}
use Rattle.std.specs.List.{AllByRecursion}
use Rattle.serial_link.specs.Rules.{Event, heard, ticked, submitted, asked, Step, tick_count, ticks_of}
use Rattle.serial_link.proofs.Counting.{ticks_of-append}
use Rattle.zw_words.specs.declared.side.Side.{Side}
use Rattle.zw_words.specs.declared.side.Side.TheVariants.{Host, Chip}
use Rattle.zw_text.specs.Transcript.{same_side}
use Rattle.law_transcript.specs.Lists.{EachAfter}
use Rattle.law_wire.specs.Serial.{SerialEvent}
use Rattle.law_wire.specs.Serial.SerialEvent.{Line_begins, Tick_begins, Writes}
use Rattle.law_wire.specs.Links.{Moment, Round, moments_of, steps_in, round_of, round_from, round_step, ends_round, tick_of, unit_by, WriteLast, MayDoInTick, MayDoInLine, MayDo, HasTicked, TicksInTime, WritesThere}
use Rattle.law_wire.proofs.Overspeaking.{Stamp, stamp, stamps, stamps-append}
use Rattle.law_wire.proofs.Silence.{not_empty}

-- ---- the stamps of a part

no_stamps : (count : ℕ) (steps : List Step) → WriteLast steps [] → stamps count steps ≡ []
no_stamps count [] last = refl
no_stamps count (step ∷ []) last = ap (λ (units : List (List ℕ)). map (stamp count step.event) units ++ []) last
no_stamps count (step ∷ next ∷ steps) last =
    ap (λ (units : List (List ℕ)). map (stamp count step.event) units ++ stamps (count + tick_count step.event) (next ∷ steps)) last.0
    ∙ no_stamps (count + tick_count step.event) (next ∷ steps) last.1

pub record OneStamp (count : ℕ) (steps : List Step) : Type 0 where
  pub one : Stamp
  pub are : stamps count steps ≡ one ∷ []
  pub at : one.at ≡ count + ticks_of steps
  pub before : count ≤ one.before

one_stamp : (count : ℕ) (steps : List Step) (unit : List ℕ) → WriteLast steps (unit ∷ []) → OneStamp count steps
one_stamp count [] unit last = absurd (not_empty _ _ last)
one_stamp count (step ∷ []) unit last = record {
  one = stamp count step.event unit;
  are = ap (λ (units : List (List ℕ)). map (stamp count step.event) units ++ []) last;
  at = omega arith;
  before = omega arith;
}
one_stamp count (step ∷ next ∷ steps) unit last =
    let later = one_stamp (count + tick_count step.event) (next ∷ steps) unit last.1 in
    record {
      one = later.one;
      are = ap (λ (units : List (List ℕ)). map (stamp count step.event) units ++ stamps (count + tick_count step.event) (next ∷ steps)) last.0 ∙ later.are;
      at = omega (arith, later.at);
      before = omega (arith, later.before);
    }

-- ---- no tick in a line, and one at most in a tick

-- none in a line
no_tick_in_line : (before : List Step) (event : Event) → MayDoInLine before event → tick_count event ≡ 0
no_tick_in_line before (heard item) may = refl
no_tick_in_line before ticked may = absurd may
no_tick_in_line before (submitted f) may = refl
no_tick_in_line before asked may = refl

pub none_in_line : (side : Side) (before steps : List Step) → EachAfter (MayDo side false) before steps → ticks_of steps ≡ 0
none_in_line side before [] may = refl
none_in_line side before (step ∷ steps) may =
    let here : tick_count step.event ≡ 0 = no_tick_in_line before step.event may.0 in
    let later : ticks_of steps ≡ 0 = none_in_line side (before ++ step ∷ []) steps may.1 in
    omega (arith, here, later)

-- and one at most in a tick
few_at_tick : (side : Side) (before : List Step) → MayDoInTick side before ticked → ticks_of before ≡ 0
few_at_tick Host before may = may
few_at_tick Chip before may = may

few_more : (side : Side) (before : List Step) (event : Event) → MayDoInTick side before event → ticks_of before ≤ 1 → ticks_of before + tick_count event ≤ 1
few_more side before (heard item) may few = omega (arith, few)
few_more side before ticked may few = omega (arith, few_at_tick side before may)
few_more side before (submitted f) may few = omega (arith, few)
few_more side before asked may few = omega (arith, few)

pub one_in_tick : (side : Side) (before steps : List Step) → ticks_of before ≤ 1 → EachAfter (MayDo side true) before steps → ticks_of before + ticks_of steps ≤ 1
one_in_tick side before [] few may = omega (arith, few)
one_in_tick side before (step ∷ steps) few may =
    let sum : ticks_of (before ++ step ∷ []) ≡ ticks_of before + (tick_count step.event + 0) = ticks_of-append before (step ∷ []) in
    let here : ticks_of before + tick_count step.event ≤ 1 = few_more side before step.event may.0 few in
    let later : ticks_of (before ++ step ∷ []) + ticks_of steps ≤ 1 = one_in_tick side (before ++ step ∷ []) steps (omega (arith, sum, here)) may.1 in
    omega (arith, sum, later)

-- ---- how many ticks there were

abbrev pub open_ticks : Bool → ℕ
open_ticks true = 1
open_ticks false = 0

few_here : (side : Side) (is_tick : Bool) (before steps : List Step) → ticks_of before ≤ open_ticks is_tick → EachAfter (MayDo side is_tick) before steps
    → ticks_of before + ticks_of steps ≤ open_ticks is_tick
few_here side true before steps few may = one_in_tick side before steps few may
few_here side false before steps few may = omega (arith, few, none_in_line side before steps may)

ended_here : (is_tick : Bool) (steps : List Step) → ticks_of steps ≤ open_ticks is_tick → HasTicked is_tick steps → ticks_of steps ≡ open_ticks is_tick
ended_here true steps few once = once
ended_here false steps few once = omega (arith, few)

open_least : (is_tick : Bool) → open_ticks is_tick ≤ 1
open_least true = omega arith
open_least false = omega arith

-- a side has had as many ticks as have begun, but perhaps for that of a tick that goes on
pub record HasHad (ticks clock : ℕ) (round : Round) : Type 0 where
  pub all : ticks + open_ticks round.is_tick ≡ clock + ticks_of (steps_in round.moments)
  pub here : ticks_of (steps_in round.moments) ≤ open_ticks round.is_tick

steps_more : (moments : List Moment) (one : Moment) → ticks_of (steps_in (moments ++ one ∷ [])) ≡ ticks_of (steps_in moments) + ticks_of one.steps
steps_more [] one = omega (arith, ticks_of-append one.steps [])
steps_more (first ∷ moments) one =
    omega (arith, ticks_of-append first.steps (steps_in (moments ++ one ∷ [])), ticks_of-append first.steps (steps_in moments), steps_more moments one)

abbrev pub begun_by : SerialEvent → ℕ
begun_by event = length (tick_of event)

goes_on : (side : Side) (ticks clock : ℕ) (round : Round) (one : Moment) (event : SerialEvent) → HasHad ticks clock round
    → EachAfter (MayDo side round.is_tick) (steps_in round.moments) one.steps
    → HasTicked (ends_round event && round.is_tick) (steps_in round.moments ++ one.steps)
    → HasHad (ticks + ticks_of one.steps) (clock + begun_by event) (round_step round one event)
goes_on side ticks clock round one (Writes on unit arriving lacking) had may once =
    let few = few_here side round.is_tick (steps_in round.moments) one.steps had.here may in
    record { all = omega (arith, had.all, steps_more round.moments one); here = omega (arith, few, steps_more round.moments one) }
goes_on side ticks clock round one (Line_begins line) had may once =
    let few = few_here side round.is_tick (steps_in round.moments) one.steps had.here may in
    let sum : ticks_of (steps_in round.moments ++ one.steps) ≡ ticks_of (steps_in round.moments) + ticks_of one.steps = ticks_of-append (steps_in round.moments) one.steps in
    let whole : ticks_of (steps_in round.moments ++ one.steps) ≡ open_ticks round.is_tick =
    ended_here round.is_tick (steps_in round.moments ++ one.steps) (omega (arith, few, sum)) once
    in
    record { all = omega (arith, had.all, sum, whole); here = omega arith }
goes_on side ticks clock round one Tick_begins had may once =
    let few = few_here side round.is_tick (steps_in round.moments) one.steps had.here may in
    let sum : ticks_of (steps_in round.moments ++ one.steps) ≡ ticks_of (steps_in round.moments) + ticks_of one.steps = ticks_of-append (steps_in round.moments) one.steps in
    let whole : ticks_of (steps_in round.moments ++ one.steps) ≡ open_ticks round.is_tick =
    ended_here round.is_tick (steps_in round.moments ++ one.steps) (omega (arith, few, sum)) once
    in
    record { all = omega (arith, had.all, sum, whole); here = omega arith }

round_more : (round : Round) (past : List Moment) (one : Moment) → round_from round (past ++ one ∷ []) ≡ round_step (round_from round past) one one.event
round_more round [] one = refl
round_more round (first ∷ past) one = round_more (round_step round first first.event) past one

-- ---- when a side wrote its units

-- in which tick each unit of a side was written
abbrev pub clock_at : Side → ℕ → SerialEvent → List ℕ
clock_at side clock (Writes on unit arriving lacking) = if same_side side on then clock ∷ [] else []
clock_at side clock _ = []

abbrev pub clocks_of : Side → ℕ → List SerialEvent → List ℕ
clocks_of side clock [] = []
clocks_of side clock (event ∷ events) = clock_at side clock event ++ clocks_of side (clock + begun_by event) events

-- each stamp is of its tick: as many ticks have been, or it comes before that tick's own
abbrev pub AreWithin : List ℕ → List Stamp → Type 0
AreWithin [] [] = ⊤
AreWithin (clock ∷ clocks) (one ∷ more) = (one.at ≤ clock) × (clock ≤ suc one.before) × AreWithin clocks more
AreWithin _ _ = ⊥

nothing_there : (clocks : List ℕ) (here more : List Stamp) → here ≡ [] → AreWithin clocks more → AreWithin clocks (here ++ more)
nothing_there clocks here more none are = subst (λ (here : List Stamp). AreWithin clocks (here ++ more)) (sym none) are

one_there : (ticks clock : ℕ) (clocks : List ℕ) (steps : List Step) (unit : List ℕ) (more : List Stamp) → WriteLast steps (unit ∷ [])
    → ticks + ticks_of steps ≤ clock → clock ≤ suc ticks → AreWithin clocks more → AreWithin (clock ∷ clocks) (stamps ticks steps ++ more)
one_there ticks clock clocks steps unit more writes late early are =
    let a = one_stamp ticks steps unit writes in
    subst (λ (here : List Stamp). AreWithin (clock ∷ clocks) (here ++ more)) (sym a.are) (omega (arith, late, a.at), omega (arith, early, a.before), are)

here_within : (side : Side) (ticks clock : ℕ) (clocks : List ℕ) (one : Moment) (event : SerialEvent) (more : List Stamp)
    → WriteLast one.steps (unit_by side event) → ticks + ticks_of one.steps ≤ clock → clock ≤ suc ticks → AreWithin clocks more
    → AreWithin (clock_at side clock event ++ clocks) (stamps ticks one.steps ++ more)
here_within side ticks clock clocks one (Line_begins line) more writes late early are = nothing_there clocks _ more (no_stamps ticks one.steps writes) are
here_within side ticks clock clocks one Tick_begins more writes late early are = nothing_there clocks _ more (no_stamps ticks one.steps writes) are
here_within side ticks clock clocks one (Writes on unit arriving lacking) more writes late early are = by (same_side side on) writes
  where
    by : (is : Bool) → WriteLast one.steps (if is then unit ∷ [] else []) → AreWithin ((if is then clock ∷ [] else []) ++ clocks) (stamps ticks one.steps ++ more)
    by true writes = one_there ticks clock clocks one.steps unit more writes late early are
    by false writes = nothing_there clocks _ more (no_stamps ticks one.steps writes) are

pub within : (side : Side) (ticks clock : ℕ) (past rest : List Moment) → HasHad ticks clock (round_of past) → AllByRecursion (WritesThere side) rest
    → EachAfter (TicksInTime side) past rest → AreWithin (clocks_of side clock (map (λ (one : Moment). one.event) rest)) (stamps ticks (steps_in rest))
within side ticks clock past [] had writes in_time = tt
within side ticks clock past (one ∷ rest) had writes in_time =
    let round : Round = round_of past in
    let few = few_here side round.is_tick (steps_in round.moments) one.steps had.here in_time.0.0 in
    let next : HasHad (ticks + ticks_of one.steps) (clock + begun_by one.event) (round_of (past ++ one ∷ [])) =
    subst (λ (round : Round). HasHad (ticks + ticks_of one.steps) (clock + begun_by one.event) round) (sym (round_more (record { is_tick = false; moments = [] }) past one))
    (goes_on side ticks clock round one one.event had in_time.0.0 in_time.0.1)
    in
    let later = within side (ticks + ticks_of one.steps) (clock + begun_by one.event) (past ++ one ∷ []) rest next writes.1 in_time.1 in
    subst (AreWithin (clocks_of side clock (map (λ (one : Moment). one.event) (one ∷ rest)))) (sym (stamps-append (λ outs. outs) ticks one.steps (steps_in rest)))
    (here_within side ticks clock _ one one.event _ writes.0 (omega (arith, had.all, few)) (omega (arith, had.all, open_least round.is_tick)) later)

pub events_are : (events : List SerialEvent) (parts : List (List Step)) → length parts ≡ length events
    → map (λ (one : Moment). one.event) (moments_of events parts) ≡ events
events_are [] parts same = refl
events_are (event ∷ events) [] same = absurd (omega (arith, same))
events_are (event ∷ events) (part ∷ parts) same = ap (λ (more : List SerialEvent). event ∷ more) (events_are events parts (omega (arith, same)))
