-- What is known of a link goes on with steps, units and events of the serial line, and in the end is the law.
use Rattle.std.proofs.Common.{◌≡◌, ◌≤◌, ℕ, ◌+◌, ◌-◌, ◌&&◌, ◌||◌, not, nat_lt, Bool, true, false, if◌then◌else◌, List, [], ◌∷◌, ◌++◌, map, length, refl, sym, ap, ◌∙◌, subst, append-nil, append_assoc, length-append, arith}
use Rattle.std.specs.List.{AllByRecursion, flat_map, list_all, list_any}
use Rattle.zw_base.proofs.Each.{all-append}
use Rattle.serial_frame.specs.Items.{unit_text}
use Rattle.serial_frame.specs.declared.unit.Unit.{Unit as LineUnit}
use Rattle.serial_link.specs.State.{Side as LinkSide}
use Rattle.serial_link.specs.declared.turn.Turn.TheVariants.{Idle}
use Rattle.serial_link.specs.Rules.{Step, SideObeys, Event, heard, ticked, submitted, asked, item_of, ticks_of}
use Rattle.serial_pipes.specs.State.{WayState, mark_for}
use Rattle.serial_pipes.specs.Events.{told}
use Rattle.zw_words.specs.declared.side.Side.{Side}
use Rattle.zw_words.specs.declared.side.Side.TheVariants.{Host, Chip}
use Rattle.zw_text.specs.declared.entry.Entry.{Entry}
use Rattle.zw_text.specs.declared.entry.Entry.TheVariants as entry
use Rattle.zw_text.specs.declared.line.Line.{Line}
use Rattle.law_wire.specs.law_transcript.Lists.{EachAfter}
use Rattle.law_wire.specs.law_transcript.Restarts.{is_restart}
use Rattle.law_wire.specs.Clearing.{lost_by}
use Rattle.law_wire.specs.law_transcript.Lists.{shown_after}
use Rattle.law_wire.specs.Serial.{SerialEvent, arriving_of, serial_events, lacking_of}
use Rattle.law_wire.specs.Serial.SerialEvent.{Line_begins, Tick_begins, Writes}
use Rattle.law_wire.specs.Links.{HasTicked, KeepsLink, LeavesFew, Moment, Round, WriteLast, arrivals_of, ends_round, most_left, stall_by, MayDo, Obeys, WritesThere, arrival_of, clock_in, is_stalled, joined, moments_of, other, round_of, steps_in, texts_of, unit_by, FindsRoom, has_room, is_let_in}
use Rattle.proof_line.specs.Links.{Does, Hears, IsAt, IsMute, KeepsSoFar, KnowsEvents, KnowsLink, LinkNow, MayEnd, MayEndNow, MayHear, MayStep, ObeysThere, TakesTexts, begun_line, begun_tick, life_of, most_of, round_steps, stalls_in, start_at, stepped, with_arriving, KnowsSide}
use Rattle.proof_walk.proofs.Entered.{IsMark, told_by_marks}
use Rattle.proof_walk.proofs.Lists.{each-append}
use Rattle.proof_line.proofs.Moments.{arrivals_one, moments_one, round_one}
use Rattle.proof_line.proofs.Serials.{beside_serials, written_serials}
use Rattle.proof_line.proofs.Standing.{same_itself}
use Rattle.proof_line.proofs.Arriving.{flat, let_in, marks_of}
use Rattle.proof_line.proofs.Tellings.{IsBeside}
use Rattle.proof_line.proofs.LinkSteps.{asks_by, clock_one, does_more, does_on, ends_part, hears_next, hears_on, hears_same, life_same, lost_same, mute_last, round_same, stalls_one, starts_next, starts_same, unit_may_end, writes_last, hears_now}

-- ---- moments

pub one_more : (all : List SerialEvent) (parts : List (List Step)) (event : SerialEvent) (steps : List Step) → length parts ≡ length all → length (parts ++ steps ∷ []) ≡ length (all ++ event ∷ [])
one_more all parts event steps same =
    let left : length (parts ++ steps ∷ []) ≡ length parts + 1 = length-append parts (steps ∷ []) in
    let right : length (all ++ event ∷ []) ≡ length all + 1 = length-append all (event ∷ []) in
    omega (arith, left, right, same)

-- ---- the law

pub keeps_link : {piped : Bool} (side : Side) (past : List Entry) (now : LinkNow) → KnowsSide piped side past now → KeepsLink side past
keeps_link side past now knows = record {
  parts = knows.parts;
  each = knows.each;
  obeys = knows.keeps.obeys;
  writes = knows.keeps.writes;
  hears = knows.keeps.hears;
  ticks = knows.keeps.ticks;
  collides = knows.keeps.collides;
}

-- and just the units of the other side found no room that had none
pub keeps_room : (side : Side) (past : List Entry) (now : LinkNow) (knows : KnowsLink side past now)
    → EachAfter (FindsRoom side) [] (moments_of (serial_events past) (keeps_link side past now knows).parts)
unfolding keeps_link
keeps_room side past now knows = knows.room refl

-- and with these steps it obeyed at each event
pub keeps_ever : (side : Side) (past : List Entry) (now : LinkNow) (knows : KnowsLink side past now)
    → EachAfter (ObeysThere side) [] (moments_of (serial_events past) (keeps_link side past now knows).parts)
unfolding keeps_link
keeps_ever side past now knows = knows.keeps.ever

-- and with these steps the bytes that each restart lost are those
pub keeps_lost : (side : Side) (past : List Entry) (now : LinkNow) (knows : KnowsLink side past now) → lost_by side past (keeps_link side past now knows).parts ≡ now.lost
unfolding keeps_link
keeps_lost side past now knows = knows.at.lost

-- the parts are what it did, but for what it did since the last event
parts_again : (events : List SerialEvent) (parts : List (List Step)) → length parts ≡ length events → map (λ (one : Moment). one.steps) (moments_of events parts) ≡ parts
parts_again [] [] same = refl
parts_again [] (part ∷ parts) same = absurd (omega (arith, same))
parts_again (event ∷ events) [] same = absurd (omega (arith, same))
parts_again (event ∷ events) (part ∷ parts) same = ap (λ (l : List (List Step)). part ∷ l) (parts_again events parts (omega (arith, same)))

pub keeps_parts : (past : List Entry) (now : LinkNow) (knows : KnowsLink Chip past now) → now.life ≡ joined (keeps_link Chip past now knows).parts ++ knows.steps
unfolding keeps_link
keeps_parts past now knows = sym knows.at.life ∙ ap (λ (l : List (List Step)). joined l ++ knows.steps) (parts_again (serial_events past) knows.parts knows.each)

-- and where each line or tick began it had done just these
pub keeps_starts : (side : Side) (past : List Entry) (now : LinkNow) (knows : KnowsLink side past now)
    → shown_after (start_at side) [] (moments_of (serial_events past) (keeps_link side past now knows).parts) ≡ now.starts
unfolding keeps_link
keeps_starts side past now knows = knows.at.starts

-- ---- a step

at_step : (side : Side) (past : List Moment) (steps : List Step) (now : LinkNow) (step : Step) (new : LinkSide) (left : List (List ℕ)) → IsAt side past steps now
    → IsAt side past (steps ++ step ∷ []) (stepped now step new left)
at_step side past steps now step new left at = record {
  is_tick = at.is_tick;
  brought = at.brought;
  clock = at.clock;
  until = at.until;
  life = sym (append_assoc (steps_in (life_of side past)) steps (step ∷ [])) ∙ ap (λ (l : List Step). l ++ step ∷ []) at.life;
  round = sym (append_assoc (steps_in (round_of past).moments) steps (step ∷ [])) ∙ ap (λ (l : List Step). l ++ step ∷ []) at.round;
  lost = at.lost;
  starts = at.starts;
}

-- what it hears, if it hears, is the first of what comes
hears_step : (side : Side) (past : List Moment) (steps : List Step) (coming left : List (List ℕ)) (step : Step) (event : Event) → step.event ≡ event → TakesTexts (item_of event) coming left
    → (is_stalled past ≡ true → item_of event ≡ []) → Hears side past steps coming → Hears side past (steps ++ step ∷ []) left
hears_step side past steps [] left step (heard item) is texts still hears = absurd texts
hears_step side past steps (text ∷ coming) left step (heard item) is texts still hears =
    subst (λ (l : List (List ℕ)). Hears side past (steps ++ step ∷ []) l) texts.1
    (hears_next side past steps text coming step item (ap (λ (e : Event). item_of e) is) texts.0 (by (is_stalled past) still) hears)
  where
    by : (b : Bool) → (b ≡ true → item ∷ [] ≡ []) → b ≡ false
    by true none = absurd (let is_none : item ∷ [] ≡ [] = none refl in cc)
    by false none = refl
hears_step side past steps coming left step ticked is texts still hears =
    subst (λ (l : List (List ℕ)). Hears side past (steps ++ step ∷ []) l) texts (hears_same side past steps coming step (ap (λ (e : Event). item_of e) is) hears)
hears_step side past steps coming left step (submitted f) is texts still hears =
    subst (λ (l : List (List ℕ)). Hears side past (steps ++ step ∷ []) l) texts (hears_same side past steps coming step (ap (λ (e : Event). item_of e) is) hears)
hears_step side past steps coming left step asked is texts still hears =
    subst (λ (l : List (List ℕ)). Hears side past (steps ++ step ∷ []) l) texts (hears_same side past steps coming step (ap (λ (e : Event). item_of e) is) hears)

stalled_at : (side : Side) (past : List Moment) (steps : List Step) (now : LinkNow) → IsAt side past steps now → is_stalled past ≡ nat_lt now.clock now.until
stalled_at side past steps now at = at.until (clock_in past) ∙ ap (λ (n : ℕ). nat_lt n now.until) at.clock

module _ {piped : Bool} (side : Side) (events : List SerialEvent) (now : LinkNow) (knows : KnowsEvents piped side events now) where
  abbrev Past : List Moment
  Past = moments_of events knows.parts

  step_does : (new : LinkSide) (step : Step) → MayStep side now step new → Does side Past (knows.steps ++ step ∷ []) new
  step_does new step goes =
      does_more side Past knows.steps now.link new step knows.does (subst (λ (l : List Step). SideObeys (l ++ step ∷ []) new) (sym knows.at.life) goes.obeys)
      (subst (λ (b : Bool). MayDo side b (round_steps Past knows.steps) step) (sym knows.at.is_tick) (subst (λ (l : List Step). MayDo side now.is_tick l step) (sym knows.at.round) goes.may)) goes.none

  step_hears : (step : Step) (left : List (List ℕ)) → MayHear now (item_of step.event) left → Hears side Past (knows.steps ++ step ∷ []) left
  step_hears step left hears =
      hears_step side Past knows.steps now.coming left step step.event refl hears.0 (λ stalls. hears.1 (sym (stalled_at side Past knows.steps now knows.at) ∙ stalls)) knows.hears

  -- that writes nothing
  pub step_known : (new : LinkSide) (step : Step) (left : List (List ℕ)) → MayStep side now step new → MayHear now (item_of step.event) left → texts_of step ≡ []
      → KnowsEvents piped side events (stepped now step new left)
  step_known new step left goes hears quiet = record {
    parts = knows.parts;
    steps = knows.steps ++ step ∷ [];
    each = knows.each;
    keeps = knows.keeps;
    does = step_does new step goes;
    mute = all-append IsMute knows.steps (step ∷ []) knows.mute (quiet, tt);
    hears = step_hears step left hears;
    at = at_step side Past knows.steps now step new left knows.at;
    room = knows.room;
  }

-- the link may be told otherwise, where it obeyed all the same
pub relinked : {piped : Bool} (side : Side) (events : List SerialEvent) (now : LinkNow) (new : LinkSide) → SideObeys now.life new → KnowsEvents piped side events now
    → KnowsEvents piped side events (record now { link = new })
relinked side events now new obeys knows = record {
  parts = knows.parts;
  steps = knows.steps;
  each = knows.each;
  keeps = knows.keeps;
  does = record { obeys = subst (λ (l : List Step). SideObeys l new) (sym knows.at.life) obeys; may = knows.does.may; asks = knows.does.asks };
  mute = knows.mute;
  hears = knows.hears;
  at = record { is_tick = knows.at.is_tick; brought = knows.at.brought; clock = knows.at.clock; until = knows.at.until; life = knows.at.life; round = knows.at.round; lost = knows.at.lost; starts = knows.at.starts };
  room = knows.room;
}

-- ---- an event ends what is open

pub no_steps : Obeys []
no_steps = (
  record { turn = Idle; collisions = 0 },
  record { answers = tt; collisions = refl; turns = record { past = []; now = []; parts = refl; are_past = tt; stands = tt } },
)

-- nothing is open since the last of these events
just_known : {piped : Bool} (side : Side) (events : List SerialEvent) (parts : List (List Step)) (now : LinkNow) → length parts ≡ length events → KeepsSoFar side (moments_of events parts)
    → (piped ≡ true → EachAfter (FindsRoom side) [] (moments_of events parts)) → Does side (moments_of events parts) [] now.link → Hears side (moments_of events parts) [] now.coming
    → IsAt side (moments_of events parts) [] now → KnowsEvents piped side events now
just_known side events parts now same keeps room does hears at =
    record { parts = parts; steps = []; each = same; keeps = keeps; does = does; mute = tt; hears = hears; at = at; room = room }

-- no collision is asked for by a unit
units_ask_none : (side on : Side) (unit : List ℕ) (arriving lacking : List (List ℕ)) → asks_by side (Writes on unit arriving lacking) ≡ 0
units_ask_none Host on unit arriving lacking = refl
units_ask_none Chip on unit arriving lacking = refl

-- where a unit is written
at_unit : (side on : Side) (past : List Moment) (steps : List Step) (now : LinkNow) (unit : List ℕ) (arriving lacking : List (List ℕ)) → IsAt side past steps now
    → IsAt side (past ++ record { event = Writes on unit arriving lacking; steps = steps } ∷ []) [] (with_arriving now (arrival_of (other side) (Writes on unit arriving lacking)))
at_unit side on past steps now unit arriving lacking at =
    let one : Moment = record { event = Writes on unit arriving lacking; steps = steps } in
    let more : List (List ℕ) = arrival_of (other side) (Writes on unit arriving lacking) in
    let all : arrivals_of (other side) (round_of (past ++ one ∷ [])).moments ≡ arrivals_of (other side) (round_of past).moments ++ more
    = ap (λ (r : Round). arrivals_of (other side) r.moments) (round_one past one) ∙ arrivals_one (other side) (round_of past).moments one in
    let same = round_same past on unit arriving lacking steps in
    let clock : clock_in (past ++ one ∷ []) ≡ clock_in past + 0 = clock_one past one in
    let before : clock_in past ≡ now.clock = at.clock in
    record {
      is_tick = same.1 ∙ at.is_tick;
      brought = ap (λ (l : List (List ℕ)). length l) all ∙ length-append (arrivals_of (other side) (round_of past).moments) more ∙ ap (λ (n : ℕ). n + length more) at.brought;
      clock = omega (arith, clock, before);
      until = λ time. ap (λ (l : List ℕ). list_any (nat_lt time) l) (stalls_one past one ∙ append-nil (stalls_in past)) ∙ at.until time;
      life = life_same side past one refl ∙ at.life;
      round = same.0 ∙ at.round;
      lost = lost_same side past one refl ∙ at.lost;
      starts = starts_same side past one refl ∙ at.starts;
    }

most_is : (side : Side) (past : List Moment) (brought : ℕ) → length (arrivals_of (other side) (round_of past).moments) ≡ brought → most_left side past ≡ most_of side brought
most_is Host past brought is = refl
most_is Chip past brought is = ap (λ (n : ℕ). n - 63) is

module _ {piped : Bool} (side : Side) (events : List SerialEvent) (now : LinkNow) (knows : KnowsEvents piped side events now) where
  abbrev pub Before : List Moment
  Before = moments_of events knows.parts

  -- with these steps at last, of which this link comes, and this is left on its way
  pub event_known : (event : SerialEvent) (steps : List Step) (last : LinkSide) (left : List (List ℕ)) (next : LinkNow) → Does side Before steps last → Hears side Before steps left
      → WritesThere side (record { event = event; steps = steps }) → (piped ≡ true → is_let_in side left event ≡ true) → MayEnd side Before steps left event
      → Does side (Before ++ record { event = event; steps = steps } ∷ []) [] next.link → Hears side (Before ++ record { event = event; steps = steps } ∷ []) [] next.coming
      → IsAt side (Before ++ record { event = event; steps = steps } ∷ []) [] next → KnowsEvents piped side (events ++ event ∷ []) next
  event_known event steps last left next does hears writes room may later_does later_hears at =
      let one : Moment = record { event = event; steps = steps } in
      let is : Before ++ one ∷ [] ≡ moments_of (events ++ event ∷ []) (knows.parts ++ steps ∷ []) = sym (moments_one events knows.parts event steps knows.each) in
      just_known side (events ++ event ∷ []) (knows.parts ++ steps ∷ []) next (one_more events knows.parts event steps knows.each)
      (subst (λ (l : List Moment). KeepsSoFar side l) is (ends_part side Before one last left no_steps knows.keeps does hears writes may))
      (λ in_pipe. subst (λ (l : List Moment). EachAfter (FindsRoom side) [] l) is
      (each-append (FindsRoom side) [] Before (one ∷ []) (knows.room in_pipe)
      (subst (λ (l : List (List ℕ)). is_let_in side l event ≡ true) (sym (hears_now side Before steps left hears).1) (room in_pipe), tt)))
      (subst (λ (l : List Moment). Does side l [] next.link) is later_does)
      (subst (λ (l : List Moment). Hears side l [] next.coming) is later_hears)
      (subst (λ (l : List Moment). IsAt side l [] next) is at)

  -- by where it is now
  pub may_end : (event : SerialEvent) → ends_round event ≡ true → MayEndNow side now → MayEnd side Before knows.steps now.coming event
  may_end event ends may = record {
    few = by_few (ends_round event) (is_stalled Before) (λ moves. few_at (may.few (sym (stalled_at side Before knows.steps now knows.at) ∙ moves)));
    ticked = by_tick (ends_round event) (round_of Before).is_tick
        (λ ticks. ap (λ (l : List Step). ticks_of l) knows.at.round ∙ may.ticked (sym knows.at.is_tick ∙ ticks));
  }
    where
      few_at : length now.coming ≤ most_of side now.brought → length now.coming ≤ most_left side Before
      few_at few = subst (λ (n : ℕ). length now.coming ≤ n) (sym (most_is side Before now.brought knows.at.brought)) few

      by_few : (ends stalled : Bool) → (stalled ≡ false → length now.coming ≤ most_left side Before) → LeavesFew (ends && not stalled) (length now.coming) (most_left side Before)
      by_few true false few = few refl
      by_few true true few = tt
      by_few false stalled few = tt

      by_tick : (ends ticks : Bool) → (ticks ≡ true → ticks_of (round_steps Before knows.steps) ≡ 1) → HasTicked (ends && ticks) (round_steps Before knows.steps)
      by_tick true true once = once refl
      by_tick true false once = tt
      by_tick false ticks once = tt

  -- a line that is no restart and asks for no collision, and what it stalls
  pub line_known : (line : List Line) (until : ℕ) → is_restart line ≡ false → asks_by side (Line_begins line) ≡ 0
      → ((time : ℕ) → list_any (nat_lt time) (stalls_in Before ++ flat_map (stall_by (clock_in Before)) line) ≡ nat_lt time until) → MayEndNow side now
      → KnowsEvents piped side (events ++ Line_begins line ∷ []) (begun_line now until)
  line_known line until plain none stalls may =
      let event : SerialEvent = Line_begins line in
      let steps : List Step = knows.steps in
      let one : Moment = record { event = event; steps = steps } in
      let next : LinkNow = begun_line now until in
      let begins = round_one Before one in
      let clock : clock_in (Before ++ one ∷ []) ≡ clock_in Before + 0 = clock_one Before one in
      let before : clock_in Before ≡ now.clock = knows.at.clock in
      event_known event steps now.link now.coming next knows.does knows.hears (mute_last steps knows.mute) (λ in_pipe. refl) (may_end event refl may) (does_on side Before one now.link plain none knows.does)
      (subst (λ (l : List (List ℕ)). Hears side (Before ++ one ∷ []) [] l) (append-nil now.coming) (hears_on side Before one now.coming plain knows.hears))
      (record {
        is_tick = ap (λ (r : Round). r.is_tick) begins;
        brought = ap (λ (r : Round). length (arrivals_of (other side) r.moments)) begins;
        clock = omega (arith, clock, before);
        until = λ time. ap (λ (l : List ℕ). list_any (nat_lt time) l) (stalls_one Before one) ∙ stalls time;
        life = life_same side Before one plain ∙ knows.at.life;
        round = ap (λ (r : Round). steps_in r.moments ++ []) begins;
        lost = lost_same side Before one plain ∙ knows.at.lost;
        starts = starts_next side Before one now.starts now.life refl knows.at.starts knows.at.life;
      })

  -- a unit of either side
  unit_ends : (on : Side) (unit : List ℕ) (arriving lacking : List (List ℕ)) (steps : List Step) (later : LinkNow) → Does side Before steps later.link
      → Hears side Before steps later.coming → IsAt side Before steps later → WritesThere side (record { event = Writes on unit arriving lacking; steps = steps })
      → (piped ≡ true → is_let_in side later.coming (Writes on unit arriving lacking) ≡ true)
      → KnowsEvents piped side (events ++ Writes on unit arriving lacking ∷ []) (with_arriving later (arrival_of (other side) (Writes on unit arriving lacking)))
  unit_ends on unit arriving lacking steps later does hears at writes room =
      let event : SerialEvent = Writes on unit arriving lacking in
      let one : Moment = record { event = event; steps = steps } in
      event_known event steps later.link later.coming (with_arriving later (arrival_of (other side) event)) does hears writes room (unit_may_end side on Before steps later.coming unit arriving lacking)
      (does_on side Before one later.link refl (units_ask_none side on unit arriving lacking) does) (hears_on side Before one later.coming refl hears)
      (at_unit side on Before steps later unit arriving lacking at)

  -- a tick
  pub tick_known : MayEndNow side now → KnowsEvents piped side (events ++ Tick_begins ∷ []) (begun_tick now)
  tick_known may =
      let steps : List Step = knows.steps in
      let one : Moment = record { event = Tick_begins; steps = steps } in
      let begins = round_one Before one in
      event_known Tick_begins steps now.link now.coming (begun_tick now) knows.does knows.hears (mute_last steps knows.mute) (λ in_pipe. refl) (may_end Tick_begins refl may)
      (does_on side Before one now.link refl (ticks_ask_none side) knows.does)
      (subst (λ (l : List (List ℕ)). Hears side (Before ++ one ∷ []) [] l) (append-nil now.coming) (hears_on side Before one now.coming refl knows.hears))
      (record {
        is_tick = ap (λ (r : Round). r.is_tick) begins;
        brought = ap (λ (r : Round). length (arrivals_of (other side) r.moments)) begins;
        clock = clock_one Before one ∙ ap (λ (n : ℕ). n + 1) knows.at.clock;
        until = λ time. ap (λ (l : List ℕ). list_any (nat_lt time) l) (stalls_one Before one ∙ append-nil (stalls_in Before)) ∙ knows.at.until time;
        life = life_same side Before one refl ∙ knows.at.life;
        round = ap (λ (r : Round). steps_in r.moments ++ []) begins;
        lost = lost_same side Before one refl ∙ knows.at.lost;
        starts = starts_next side Before one now.starts now.life refl knows.at.starts knows.at.life;
      })
    where
      ticks_ask_none : (side : Side) → asks_by side Tick_begins ≡ 0
      ticks_ask_none Host = refl
      ticks_ask_none Chip = refl

-- ---- with entries

own_arrival : (side : Side) (unit : List ℕ) (arriving lacking : List (List ℕ)) → arrival_of (other side) (Writes side unit arriving lacking) ≡ []
own_arrival Host unit arriving lacking = refl
own_arrival Chip unit arriving lacking = refl

none_arriving : {piped : Bool} (side : Side) (events : List SerialEvent) (now : LinkNow) → KnowsEvents piped side events (with_arriving now []) → KnowsEvents piped side events now
none_arriving {piped} side events now knows =
    subst (λ (n : ℕ). KnowsEvents piped side events (record now { brought = n })) plus_none
    (subst (λ (l : List (List ℕ)). KnowsEvents piped side events (record now { coming = l; brought = now.brought + 0 })) (append-nil now.coming) knows)
  where
    plus_none : now.brought + 0 ≡ now.brought
    plus_none = omega arith

other_arrival : (side : Side) (unit : List ℕ) (arriving lacking : List (List ℕ))
    → (arrival_of (other side) (Writes (other side) unit arriving lacking) ≡ arriving) × (unit_by side (Writes (other side) unit arriving lacking) ≡ [])
other_arrival Host unit arriving lacking = (refl, refl)
other_arrival Chip unit arriving lacking = (refl, refl)

-- of its own units a side says nothing
own_room : (side : Side) (units : List (List ℕ)) (unit : List ℕ) (arriving lacking : List (List ℕ)) → is_let_in side units (Writes side unit arriving lacking) ≡ true
own_room side units unit arriving lacking =
    ap (λ (b : Bool). b || (list_all (has_room units) arriving && not (list_any (has_room units) lacking))) (same_itself side)

-- a unit that a step of the side writes, with what became of it
pub written_known : {piped : Bool} (side : Side) (past : List Entry) (now : LinkNow) (new : LinkSide) (left : List (List ℕ)) (step : Step) (unit : List ℕ) (marks : List Entry) → AllByRecursion IsMark marks
    → KnowsSide piped side past now → MayStep side now step new → MayHear now (item_of step.event) left → texts_of step ≡ unit ∷ []
    → KnowsSide piped side (past ++ entry.Written side unit ∷ marks) (stepped now step new left)
written_known {piped} side past now new left step unit marks are knows goes hears is =
    let events : List SerialEvent = serial_events past in
    let arriving : List (List ℕ) = arriving_of side unit marks in
    let lacking : List (List ℕ) = lacking_of side unit marks in
    let event : SerialEvent = Writes side unit arriving lacking in
    let later : LinkNow = stepped now step new left in
    let got =
    unit_ends side events now knows side unit arriving lacking (knows.steps ++ step ∷ []) later (step_does side events now knows new step goes)
    (step_hears side events now knows step left hears) (at_step side (moments_of events knows.parts) knows.steps now step new left knows.at)
    (subst (λ (b : Bool). WriteLast (knows.steps ++ step ∷ []) (if b then unit ∷ [] else [])) (sym (same_itself side)) (writes_last knows.steps step (unit ∷ []) knows.mute is))
    (λ in_pipe. own_room side left unit arriving lacking) in
    subst (λ (l : List SerialEvent). KnowsEvents piped side l later) (sym (written_serials side unit marks past are).0)
    (none_arriving side (events ++ event ∷ []) later
    (subst (λ (l : List (List ℕ)). KnowsEvents piped side (events ++ event ∷ []) (with_arriving later l)) (own_arrival side unit arriving lacking) got))

-- a unit that the other side writes
pub came_known : {piped : Bool} (side : Side) (past : List Entry) (now : LinkNow) (unit : List ℕ) (marks : List Entry) → AllByRecursion IsMark marks
    → (piped ≡ true → is_let_in side now.coming (Writes (other side) unit (arriving_of (other side) unit marks) (lacking_of (other side) unit marks)) ≡ true) → KnowsSide piped side past now
    → KnowsSide piped side (past ++ entry.Written (other side) unit ∷ marks) (with_arriving now (arriving_of (other side) unit marks))
came_known {piped} side past now unit marks are room knows =
    let events : List SerialEvent = serial_events past in
    let arriving : List (List ℕ) = arriving_of (other side) unit marks in
    let lacking : List (List ℕ) = lacking_of (other side) unit marks in
    let event : SerialEvent = Writes (other side) unit arriving lacking in
    let both = other_arrival side unit arriving lacking in
    let got =
    unit_ends side events now knows (other side) unit arriving lacking knows.steps now knows.does knows.hears knows.at
    (subst (λ (l : List (List ℕ)). WriteLast knows.steps l) (sym both.1) (mute_last knows.steps knows.mute)) room in
    subst (λ (l : List SerialEvent). KnowsEvents piped side l (with_arriving now arriving)) (sym (written_serials (other side) unit marks past are).0)
    (subst (λ (l : List (List ℕ)). KnowsEvents piped side (events ++ event ∷ []) (with_arriving now l)) both.0 got)

-- that finds room in a pipe with the bytes that come, or none
pub other_known : (side : Side) (past : List Entry) (now : LinkNow) (way : WayState) (unit : LineUnit) → way.bytes ≡ flat now.coming → KnowsLink side past now
    → KnowsLink side (past ++ told (other side) way unit) (with_arriving now (arriving_of (other side) (unit_text unit) (marks_of (other side) way unit)))
other_known side past now way unit bytes knows =
    came_known side past now (unit_text unit) (marks_of (other side) way unit) (told_by_marks (other side) way.bytes (mark_for way.marks unit) (unit_text unit)) (λ in_pipe. let_in side now.coming way unit bytes) knows

-- an entry beside the line
pub beside_known : {piped : Bool} (side : Side) (past : List Entry) (now : LinkNow) (e : Entry) → IsBeside e → KnowsSide piped side past now → KnowsSide piped side (past ++ e ∷ []) now
beside_known {piped} side past now e is knows = subst (λ (l : List SerialEvent). KnowsEvents piped side l now) (sym (beside_serials past e is).0) knows
