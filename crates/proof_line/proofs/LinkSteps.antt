-- A link goes on by a step; an event of the serial line ends what is open, and what follows it is open then.
use Rattle.std.proofs.Common.{◌≡◌, ℕ, ◌+◌, ◌&&◌, not, Bool, true, false, if◌then◌else◌, List, [], ◌∷◌, ◌++◌, length, drop, map, refl, sym, ap, ap₂, ◌∙◌, subst, append-nil, append_assoc, length-append, arith}
use Rattle.std.specs.List.{AllByRecursion, flat_map}
use Rattle.std.proofs.lemmas.Grind.{flat_map-append}
use Rattle.zw_base.proofs.Each.{all-append}
use Rattle.serial_frame.specs.Items.{ItemText}
use Rattle.serial_frame.specs.declared.item.Item.{Item}
use Rattle.serial_link.specs.State.{Side as LinkSide}
use Rattle.serial_link.specs.Rules.{Step, SideObeys, asked, ask_count, asks_of, item_of, items_of}
use Rattle.serial_link.proofs.Counting.{asks_of-append}
use Rattle.zw_words.specs.declared.side.Side.{Side}
use Rattle.zw_words.specs.declared.side.Side.TheVariants.{Host, Chip}
use Rattle.zw_text.specs.declared.line.Line.{Line}
use Rattle.zw_text.specs.declared.line.Line.TheVariants as lines
use Rattle.law_wire.specs.law_transcript.Lists.{EachAfter, last_or, shown_after}
use Rattle.law_wire.specs.Marks.{collision_of}
use Rattle.law_wire.specs.Clearing.{lost_at}
use Rattle.law_wire.specs.Serial.{SerialEvent}
use Rattle.law_wire.specs.Serial.SerialEvent.{Line_begins, Writes}
use Rattle.law_wire.specs.Links.{Moment, Round, AreFirst, CollidesAsTold, HearsInTime, LeavesFew, MayDo, Obeys, TicksInTime, WriteLast, WritesThere, ahead, arrival_of, arrivals_of, asked_for, bytes_in, clock_in, ends_round, is_stalled, left_ahead, line_in, lives, most_left, other, round_of, since_start, stall_by, steps_in, texts_of, tick_of}
use Rattle.proof_walk.proofs.Lists.{each-append}
use Rattle.proof_line.specs.Arrivals.{AreTexts}
use Rattle.proof_line.specs.Links.{Does, Hears, IsMute, KeepsSoFar, MayEnd, ObeysThere, life_of, life_steps, round_steps, stalls_in, start_at}
use Rattle.proof_line.proofs.Arriving.{texts_both}
use Rattle.proof_line.proofs.Moments.{all_lives, arrivals_one, life_after, restarts_at, round_one, start_one, steps_one}
use Rattle.proof_walk.proofs.Shown.{shown_one as shown_last}

-- ---- lists

items-append : (a b : List Step) → items_of (a ++ b) ≡ items_of a ++ items_of b
items-append a b = flat_map-append (λ (s : Step). item_of s.event) a b

-- one step more
items_last : (a b : List Step) (step : Step) → items_of (a ++ (b ++ step ∷ [])) ≡ items_of (a ++ b) ++ item_of step.event
items_last a b step =
    ap (λ (l : List Step). items_of l) (sym (append_assoc a b (step ∷ []))) ∙ items-append (a ++ b) (step ∷ [])
    ∙ ap (λ (l : List Item). items_of (a ++ b) ++ l) (append-nil (item_of step.event))

-- ---- time and stalls

pub stalls_one : (past : List Moment) (one : Moment) → stalls_in (past ++ one ∷ []) ≡ stalls_in past ++ flat_map (stall_by (clock_in past)) (line_in one.event)
stalls_one past one = shown_last (λ (before : List Moment) (m : Moment). flat_map (stall_by (clock_in before)) (line_in m.event)) [] past one

pub clock_one : (past : List Moment) (one : Moment) → clock_in (past ++ one ∷ []) ≡ clock_in past + length (tick_of one.event)
clock_one past one =
    ap (λ (l : List SerialEvent). length l) (flat_map-append (λ (m : Moment). tick_of m.event) past (one ∷ []))
    ∙ length-append (flat_map (λ (m : Moment). tick_of m.event) past) (tick_of one.event ++ [])
    ∙ ap (λ (l : List SerialEvent). clock_in past + length l) (append-nil (tick_of one.event))

-- ---- what was heard, and what is left

text_first : (ys : List Item) (earlier more : List (List ℕ)) → AreTexts ys earlier → AreFirst ys (earlier ++ more) × (drop (length ys) (earlier ++ more) ≡ more)
text_first [] [] more texts = (tt, refl)
text_first [] (t ∷ earlier) more texts = absurd texts
text_first (y ∷ ys) [] more texts = absurd texts
text_first (y ∷ ys) (t ∷ earlier) more texts = let rest = text_first ys earlier more texts.1 in ((texts.0, rest.0), rest.1)

texts_first : (xs ys : List Item) (earlier more : List (List ℕ)) → AreTexts (xs ++ ys) earlier
    → AreFirst ys (drop (length xs) (earlier ++ more)) × (drop (length ys) (drop (length xs) (earlier ++ more)) ≡ more)
texts_first [] ys earlier more texts = text_first ys earlier more texts
texts_first (x ∷ xs) ys [] more texts = absurd texts
texts_first (x ∷ xs) ys (t ∷ earlier) more texts = texts_first xs ys earlier more texts.1

pub hears_now : (side : Side) (past : List Moment) (steps : List Step) (coming : List (List ℕ)) → Hears side past steps coming
    → AreFirst (items_of steps) (if is_stalled past then [] else ahead side past) × (drop (length (items_of steps)) (ahead side past) ≡ coming)
hears_now side past steps coming hears =
    let life : List Step = steps_in (since_start past) in
    let got = texts_first (items_of life) (items_of steps) hears.earlier coming (subst (λ (l : List Item). AreTexts l hears.earlier) (items-append life steps) hears.texts) in
    let is : ahead side past ≡ drop (length (items_of life)) (hears.earlier ++ coming) = ap (λ (l : List (List ℕ)). drop (length (items_of life)) l) hears.parts in (
      by (is_stalled past) (subst (λ (l : List (List ℕ)). AreFirst (items_of steps) l) (sym is) got.0) hears.still,
      ap (λ (l : List (List ℕ)). drop (length (items_of steps)) l) is ∙ got.1,
    )
  where
    by : (b : Bool) → AreFirst (items_of steps) (ahead side past) → (b ≡ true → items_of steps ≡ []) → AreFirst (items_of steps) (if b then [] else ahead side past)
    by true first still = subst (λ (l : List Item). AreFirst l []) (sym (still refl)) tt
    by false first still = first

-- ---- what restarts lost

pub lost_same : (side : Side) (past : List Moment) (one : Moment) → restarts_at one ≡ false → shown_after (lost_at side) [] (past ++ one ∷ []) ≡ shown_after (lost_at side) [] past
lost_same side past one plain =
    shown_last (lost_at side) [] past one ∙ ap (λ (b : Bool). shown_after (lost_at side) [] past ++ (if b then bytes_in (left_ahead side past one) ∷ [] else [])) plain
    ∙ append-nil (shown_after (lost_at side) [] past)

pub lost_again : (side : Side) (past : List Moment) (one : Moment) (coming : List (List ℕ)) → restarts_at one ≡ true → Hears side past one.steps coming
    → shown_after (lost_at side) [] (past ++ one ∷ []) ≡ shown_after (lost_at side) [] past ++ bytes_in coming ∷ []
lost_again side past one coming restarts hears =
    shown_last (lost_at side) [] past one ∙ ap (λ (b : Bool). shown_after (lost_at side) [] past ++ (if b then bytes_in (left_ahead side past one) ∷ [] else [])) restarts
    ∙ ap (λ (l : List (List ℕ)). shown_after (lost_at side) [] past ++ bytes_in l ∷ []) (hears_now side past one.steps coming hears).1

-- ---- where lines and ticks began

pub starts_same : (side : Side) (past : List Moment) (one : Moment) → ends_round one.event ≡ false → shown_after (start_at side) [] (past ++ one ∷ []) ≡ shown_after (start_at side) [] past
starts_same side past one none =
    shown_last (start_at side) [] past one ∙ ap (λ (b : Bool). shown_after (start_at side) [] past ++ (if b then life_steps side past one.steps ∷ [] else [])) none
    ∙ append-nil (shown_after (start_at side) [] past)

pub starts_next : (side : Side) (past : List Moment) (one : Moment) (starts : List (List Step)) (life : List Step) → ends_round one.event ≡ true → shown_after (start_at side) [] past ≡ starts
    → life_steps side past one.steps ≡ life → shown_after (start_at side) [] (past ++ one ∷ []) ≡ starts ++ life ∷ []
starts_next side past one starts life ends before is =
    shown_last (start_at side) [] past one ∙ ap (λ (b : Bool). shown_after (start_at side) [] past ++ (if b then life_steps side past one.steps ∷ [] else [])) ends
    ∙ ap₂ (λ (l : List (List Step)) (steps : List Step). l ++ steps ∷ []) before is

-- ---- a step

pub does_more : (side : Side) (past : List Moment) (steps : List Step) (link new : LinkSide) (step : Step) → Does side past steps link → SideObeys (life_steps side past steps ++ step ∷ []) new
    → MayDo side (round_of past).is_tick (round_steps past steps) step → ask_count step.event ≡ 0 → Does side past (steps ++ step ∷ []) new
does_more side past steps link new step does obeys may none =
    let more : asks_of (steps ++ step ∷ []) ≡ asks_of steps + (ask_count step.event + 0) = asks_of-append steps (step ∷ []) in
    let before : asks_of steps ≡ asked_for side past = does.asks in
    record {
      obeys = subst (λ (l : List Step). SideObeys l new) (append_assoc (steps_in (life_of side past)) steps (step ∷ [])) obeys;
      may = each-append (MayDo side (round_of past).is_tick) (steps_in (round_of past).moments) steps (step ∷ []) does.may (may, tt);
      asks = omega (arith, more, before, none);
    }

-- one that hears nothing
pub hears_same : (side : Side) (past : List Moment) (steps : List Step) (coming : List (List ℕ)) (step : Step) → item_of step.event ≡ [] → Hears side past steps coming
    → Hears side past (steps ++ step ∷ []) coming
hears_same side past steps coming step none hears = record {
  earlier = hears.earlier;
  parts = hears.parts;
  texts = subst (λ (l : List Item). AreTexts l hears.earlier) (sym (same (steps_in (since_start past)))) hears.texts;
  still = λ stalls. same [] ∙ hears.still stalls;
}
  where
    same : (before : List Step) → items_of (before ++ (steps ++ step ∷ [])) ≡ items_of (before ++ steps)
    same before = items_last before steps step ∙ ap (λ (l : List Item). items_of (before ++ steps) ++ l) none ∙ append-nil (items_of (before ++ steps))

-- one that hears the first of what comes
pub hears_next : (side : Side) (past : List Moment) (steps : List Step) (text : List ℕ) (coming : List (List ℕ)) (step : Step) (item : Item) → item_of step.event ≡ item ∷ [] → ItemText item text
    → is_stalled past ≡ false → Hears side past steps (text ∷ coming) → Hears side past (steps ++ step ∷ []) coming
hears_next side past steps text coming step item is by_text moves hears = record {
  earlier = hears.earlier ++ text ∷ [];
  parts = hears.parts ∙ sym (append_assoc hears.earlier (text ∷ []) coming);
  texts = subst (λ (l : List Item). AreTexts l (hears.earlier ++ text ∷ []))
      (sym (items_last life steps step ∙ ap (λ (l : List Item). items_of (life ++ steps) ++ l) is))
      (texts_both (items_of (life ++ steps)) (item ∷ []) hears.earlier (text ∷ []) hears.texts (by_text, tt));
  still = λ stalls. absurd (let none : true ≡ false = sym stalls ∙ moves in cc);
}
  where
    life : List Step
    life = steps_in (since_start past)

-- ---- an event ends what is open

pub mute_last : (steps : List Step) → AllByRecursion IsMute steps → WriteLast steps []
mute_last [] mute = refl
mute_last (step ∷ []) mute = mute.0
mute_last (step ∷ next ∷ steps) mute = (mute.0, mute_last (next ∷ steps) mute.1)

pub writes_last : (steps : List Step) (step : Step) (units : List (List ℕ)) → AllByRecursion IsMute steps → texts_of step ≡ units → WriteLast (steps ++ step ∷ []) units
writes_last [] step units mute is = is
writes_last (first ∷ []) step units mute is = (mute.0, is)
writes_last (first ∷ next ∷ steps) step units mute is = (mute.0, writes_last (next ∷ steps) step units mute.1 is)

lives_end : (side : Side) (past : List Moment) (one : Moment) (link : LinkSide) → Obeys [] → AllByRecursion Obeys (lives side past) → SideObeys (life_steps side past one.steps) link
    → AllByRecursion Obeys (lives side (past ++ one ∷ []))
lives_end Host past one link empty all obeys = all_lives past one empty all (link, subst (λ (l : List Step). SideObeys l link) (sym (steps_one (since_start past) one)) obeys)
lives_end Chip past one link empty all obeys = ((link, subst (λ (l : List Step). SideObeys l link) (sym (steps_one past one)) obeys), tt)

pub ends_part : (side : Side) (past : List Moment) (one : Moment) (link : LinkSide) (coming : List (List ℕ)) → Obeys [] → KeepsSoFar side past → Does side past one.steps link
    → Hears side past one.steps coming → WritesThere side one → MayEnd side past one.steps coming one.event → KeepsSoFar side (past ++ one ∷ [])
ends_part side past one link coming empty keeps does hears writes may =
    let now = hears_now side past one.steps coming hears in
    record {
      ever = each-append (ObeysThere side) [] past (one ∷ []) keeps.ever ((link, subst (λ (l : List Step). SideObeys l link) (sym (steps_one (life_of side past) one)) does.obeys), tt);
      obeys = lives_end side past one link empty keeps.obeys does.obeys;
      writes = all-append (WritesThere side) past (one ∷ []) keeps.writes (writes, tt);
      hears = each-append (HearsInTime side) [] past (one ∷ []) keeps.hears
          ((now.0, subst (λ (l : List (List ℕ)). LeavesFew (ends_round one.event && not (is_stalled past)) (length l) (most_left side past)) (sym now.1) may.few), tt);
      ticks = each-append (TicksInTime side) [] past (one ∷ []) keeps.ticks ((does.may, may.ticked), tt);
      collides = each-append (CollidesAsTold side) [] past (one ∷ []) keeps.collides (does.asks, tt);
    }

-- a unit ends no line or tick
pub unit_may_end : (side on : Side) (past : List Moment) (steps : List Step) (coming : List (List ℕ)) (unit : List ℕ) (arriving lacking : List (List ℕ))
    → MayEnd side past steps coming (Writes on unit arriving lacking)
unit_may_end side on past steps coming unit arriving lacking = record { few = tt; ticked = tt }

-- ---- and what follows it is open

start_same : (past : List Moment) (one : Moment) → restarts_at one ≡ false → since_start (past ++ one ∷ []) ≡ since_start past ++ one ∷ []
start_same past one plain = start_one past one ∙ ap (λ (b : Bool). life_after b (since_start past ++ one ∷ [])) plain

pub start_again : (past : List Moment) (one : Moment) → restarts_at one ≡ true → since_start (past ++ one ∷ []) ≡ []
start_again past one restarts = start_one past one ∙ ap (λ (b : Bool). life_after b (since_start past ++ one ∷ [])) restarts

-- its life goes on where the host does not start again
pub life_same : (side : Side) (past : List Moment) (one : Moment) → restarts_at one ≡ false → life_steps side (past ++ one ∷ []) [] ≡ life_steps side past one.steps
life_same Host past one plain =
    append-nil (steps_in (since_start (past ++ one ∷ []))) ∙ ap (λ (l : List Moment). steps_in l) (start_same past one plain) ∙ steps_one (since_start past) one
life_same Chip past one plain = append-nil (steps_in (past ++ one ∷ [])) ∙ steps_one past one

-- and so does its line or tick, where a unit is written
pub round_same : (past : List Moment) (on : Side) (unit : List ℕ) (arriving lacking : List (List ℕ)) (steps : List Step)
    → (round_steps (past ++ record { event = Writes on unit arriving lacking; steps = steps } ∷ []) [] ≡ round_steps past steps)
    × ((round_of (past ++ record { event = Writes on unit arriving lacking; steps = steps } ∷ [])).is_tick ≡ (round_of past).is_tick)
round_same past on unit arriving lacking steps =
    let one : Moment = record { event = Writes on unit arriving lacking; steps = steps } in
    let is = round_one past one in (
      append-nil (steps_in (round_of (past ++ one ∷ [])).moments) ∙ ap (λ (r : Round). steps_in r.moments) is ∙ steps_one (round_of past).moments one,
      ap (λ (r : Round). r.is_tick) is,
    )

last_line : (before : List Line) (past : List Moment) (one : Moment) → last_or before (map (λ (m : Moment). line_in m.event) (past ++ one ∷ [])) ≡ line_in one.event
last_line before [] one = refl
last_line before (first ∷ past) one = last_line (line_in first.event) past one

-- the collisions that are asked for after an event
abbrev pub asks_by : Side → SerialEvent → ℕ
asks_by Host event = 0
asks_by Chip event = length (flat_map collision_of (line_in event))

pub asked_next : (side : Side) (past : List Moment) (one : Moment) → asked_for side (past ++ one ∷ []) ≡ asks_by side one.event
asked_next Host past one = refl
asked_next Chip past one = ap (λ (l : List Line). length (flat_map collision_of l)) (last_line [] past one)

pub does_on : (side : Side) (past : List Moment) (one : Moment) (link : LinkSide) → restarts_at one ≡ false → asks_by side one.event ≡ 0 → Does side past one.steps link → Does side (past ++ one ∷ []) [] link
does_on side past one link plain none does = record {
  obeys = subst (λ (l : List Step). SideObeys l link) (sym (life_same side past one plain)) does.obeys;
  may = tt;
  asks = sym (asked_next side past one ∙ none);
}

pub hears_on : (side : Side) (past : List Moment) (one : Moment) (coming : List (List ℕ)) → restarts_at one ≡ false → Hears side past one.steps coming
    → Hears side (past ++ one ∷ []) [] (coming ++ arrival_of (other side) one.event)
hears_on side past one coming plain hears =
    let more : List (List ℕ) = arrival_of (other side) one.event in
    record {
      earlier = hears.earlier;
      parts = ap (λ (l : List Moment). arrivals_of (other side) l) (start_same past one plain) ∙ arrivals_one (other side) (since_start past) one
          ∙ ap (λ (l : List (List ℕ)). l ++ more) hears.parts ∙ append_assoc hears.earlier coming more;
      texts = subst (λ (l : List Step). AreTexts (items_of l) hears.earlier) (sym (life_same Host past one plain)) hears.texts;
      still = λ stalls. refl;
    }

-- where the host starts again, nothing has arrived
pub hears_again : (side : Side) (past : List Moment) (one : Moment) → restarts_at one ≡ true → Hears side (past ++ one ∷ []) [] []
hears_again side past one restarts = record {
  earlier = [];
  parts = ap (λ (l : List Moment). arrivals_of (other side) l) (start_again past one restarts);
  texts = subst (λ (l : List Moment). AreTexts (items_of (steps_in l ++ [])) []) (sym (start_again past one restarts)) tt;
  still = λ stalls. refl;
}

pub does_again : (past : List Moment) (one : Moment) (new : LinkSide) → restarts_at one ≡ true → SideObeys [] new → Does Host (past ++ one ∷ []) [] new
does_again past one new restarts obeys =
    record { obeys = subst (λ (l : List Moment). SideObeys (steps_in l ++ []) new) (sym (start_again past one restarts)) obeys; may = tt; asks = refl }

-- where a line asks for a collision, the chip's link is asked for it before all else
pub does_asked : (past : List Moment) (steps : List Step) (link new : LinkSide) (step : Step) → Does Chip past steps link → step.event ≡ asked
    → SideObeys (life_steps Chip past steps ++ step ∷ []) new → Does Chip (past ++ record { event = Line_begins (lines.Collide ∷ []); steps = steps } ∷ []) (step ∷ []) new
does_asked past steps link new step does is obeys =
    let one : Moment = record { event = Line_begins (lines.Collide ∷ []); steps = steps } in
    let life : steps_in (past ++ one ∷ []) ++ step ∷ [] ≡ life_steps Chip past steps ++ step ∷ [] = ap (λ (l : List Step). l ++ step ∷ []) (steps_one past one) in
    let round = round_one past one in
    record {
      obeys = subst (λ (l : List Step). SideObeys l new) (sym life) obeys;
      may = subst (λ (r : Round). EachAfter (MayDo Chip r.is_tick) (steps_in r.moments) (step ∷ [])) (sym round) (subst (λ (e : _). MayDo Chip false [] (record { event = e; outs = step.outs })) (sym is) refl, tt);
      asks = ap (λ (e : _). ask_count e + 0) is ∙ sym (asked_next Chip past one);
    }
