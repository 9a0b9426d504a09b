-- The link of the host of `sim` keeps the rules over what it heard: what it did up to a unit that did not come, it did up to the next event that it heard of.
use Rattle.std.proofs.Common.{◌≡◌, ◌⊎◌, ℕ, zero, suc, ◌+◌, nat_lt, ◌&&◌, not, Bool, true, false, if◌then◌else◌, inl, inr, List, [], ◌∷◌, ◌++◌, length, drop, refl, sym, ap, ap₂, ◌∙◌, subst, append-nil, append_assoc, arith}
use Rattle.std.specs.List.{AllByRecursion, flat_map, list_any}
use Rattle.std.proofs.lemmas.Grind.{flat_map-append}
use Rattle.zw_base.proofs.Each.{all-append}
use Rattle.serial_frame.specs.declared.item.Item.{Item}
use Rattle.serial_link.specs.State.{Side as LinkSide}
use Rattle.serial_link.specs.Rules.{SideObeys, Step, asks_of, item_of, items_of}
use Rattle.serial_link.proofs.Counting.{asks_of-append}
use Rattle.zw_words.specs.declared.side.Side.TheVariants.{Chip, Host}
use Rattle.zw_text.specs.declared.entry.Entry.{Entry}
use Rattle.zw_text.specs.declared.entry.Entry.TheVariants.{Said}
use Rattle.zw_text.specs.Transcript.{line_of}
use Rattle.law_transcript.specs.Lists.{EachAfter}
use Rattle.law_transcript.specs.Restarts.{is_restart}
use Rattle.law_wire.specs.Serial.{SerialEvent, beginning_of, done_line, ended, serial_events}
use Rattle.law_wire.specs.Serial.SerialEvent.{Line_begins, Tick_begins, Writes}
use Rattle.law_wire.specs.Links.{AreFirst, CollidesAsTold, HasTicked, HearsInTime, KeepsLink, LeavesFew, MayDo, Moment, Obeys, Round, TicksInTime, WriteLast, WritesThere, ahead, arrival_of, arrivals_of, between_restarts, clock_in, ends_round, is_stalled, left_ahead, line_in, moments_of, round_of, round_step, since_start, stall_by, steps_in, tick_of, unit_by}
use Rattle.proof_asking.specs.proof_line.Linked.{HostObeyed}
use Rattle.proof_asking.specs.proof_line.Links.{IsMute, ObeysThere, stalls_in}
use Rattle.proof_asking.proofs.Lists.{each-append}
use Rattle.proof_asking.proofs.LinkKnown.{no_steps}
use Rattle.proof_asking.proofs.LinkSteps.{clock_one, stalls_one}
use Rattle.proof_asking.proofs.Moments.{all_lives, arrivals_one, life_after, restarts_at, round_one, start_one, steps_one}
use Rattle.proof_asking.specs.proof_requests.law_host.Heard.{heard_by_host}
use Rattle.proof_replay.proofs.HeardEvents.{AreHeard, IsAlike, IsEnd, StandWell, events_heard, is_unheard, line_first, ticks_then}

-- ---- lists

drop_none : {A : Type 0} (count : ℕ) → ◌≡◌ {A = List A} (drop count []) []
drop_none zero = refl
drop_none (suc count) = refl

drop_both : {A B : Type 0} (xs ys : List A) (all : List B) → drop (length (xs ++ ys)) all ≡ drop (length ys) (drop (length xs) all)
drop_both [] ys all = refl
drop_both (x ∷ xs) ys [] = sym (drop_none (length ys))
drop_both (x ∷ xs) ys (one ∷ all) = drop_both xs ys all

first_both : (xs ys : List Item) (units : List (List ℕ)) → AreFirst xs units → AreFirst ys (drop (length xs) units) → AreFirst (xs ++ ys) units
first_both [] ys units first later = later
first_both (x ∷ xs) ys [] first later = absurd first
first_both (x ∷ xs) ys (unit ∷ units) first later = (first.0, first_both xs ys units first.1 later)

-- also in a stall
heard_both : (stalled : Bool) (xs ys : List Item) (units : List (List ℕ)) → AreFirst xs (if stalled then [] else units) → AreFirst ys (if stalled then [] else drop (length xs) units)
    → AreFirst (xs ++ ys) (if stalled then [] else units)
heard_both true xs ys units first later = first_both xs ys [] first (subst (λ (l : List (List ℕ)). AreFirst ys l) (sym (drop_none (length xs))) later)
heard_both false xs ys units first later = first_both xs ys units first later

items_both : (a b : List Step) → items_of (a ++ b) ≡ items_of a ++ items_of b
items_both a b = flat_map-append (λ (s : Step). item_of s.event) a b

-- steps that write nothing, before others and alone
writes_both : (mute steps : List Step) (units : List (List ℕ)) → AllByRecursion IsMute mute → WriteLast steps units → WriteLast (mute ++ steps) units
writes_both [] steps units silent writes = writes
writes_both (step ∷ []) [] units silent writes = silent.0 ∙ sym writes
writes_both (step ∷ []) (next ∷ steps) units silent writes = (silent.0, writes)
writes_both (step ∷ (next ∷ mute)) steps units silent writes = (silent.0, writes_both (next ∷ mute) steps units silent.1 writes)

all_mute : (steps : List Step) → WriteLast steps [] → AllByRecursion IsMute steps
all_mute [] writes = tt
all_mute (step ∷ []) writes = (writes, tt)
all_mute (step ∷ (next ∷ steps)) writes = (writes.0, all_mute (next ∷ steps) writes.1)

-- ---- what an event says

-- a unit that did not come says nothing to the host
record SaysNothing (event : SerialEvent) : Type 0 where
  restarts : is_restart (line_in event) ≡ false
  stalls : (clock : ℕ) → flat_map (stall_by clock) (line_in event) ≡ []
  ticks : length (tick_of event) ≡ 0
  units : unit_by Host event ≡ []
  arrivals : arrival_of Chip event ≡ []
  ends : ends_round event ≡ false

says_nothing : (event : SerialEvent) → is_unheard event ≡ true → SaysNothing event
says_nothing (Writes Chip unit [] lacking) is = record { restarts = refl; stalls = λ clock. refl; ticks = refl; units = refl; arrivals = refl; ends = refl }
says_nothing (Writes Chip unit (text ∷ more) lacking) is = absurd (let bad : false ≡ true = is in cc)
says_nothing (Writes Host unit arriving lacking) is = absurd (let bad : false ≡ true = is in cc)
says_nothing (Line_begins line) is = absurd (let bad : false ≡ true = is in cc)
says_nothing Tick_begins is = absurd (let bad : false ≡ true = is in cc)

-- the round goes on, or another begins
same_round : (round : Round) (one : Moment) (event : SerialEvent) → ends_round event ≡ false → round_step round one event ≡ record round { moments = round.moments ++ one ∷ [] }
same_round round one (Line_begins line) ends = absurd (let bad : true ≡ false = ends in cc)
same_round round one Tick_begins ends = absurd (let bad : true ≡ false = ends in cc)
same_round round one (Writes side unit arriving lacking) ends = refl

new_round : (round : Round) (one : Moment) (event : SerialEvent) → ends_round event ≡ true → round_step round one event ≡ record { is_tick = nat_lt 0 (length (tick_of event)); moments = [] }
new_round round one (Line_begins line) ends = refl
new_round round one Tick_begins ends = refl
new_round round one (Writes side unit arriving lacking) ends = absurd (let bad : false ≡ true = ends in cc)

-- ---- moments that were heard

-- of each the steps since the one before it, with those of the units that did not come
abbrev AreHeardAfter : List Step → List Moment → List Moment → Type 0
AreHeardAfter loose [] others = others ≡ []
AreHeardAfter loose (one ∷ rest) others =
    ((is_unheard one.event ≡ true) × AreHeardAfter (loose ++ one.steps) rest others)
    ⊎ ((event : SerialEvent) × (more : List Moment) × (others ≡ record { event = event; steps = loose ++ one.steps } ∷ more) × IsAlike one.event event × AreHeardAfter [] rest more)

-- steps up to each event that was heard
record HasParts (loose : List Step) (past : List Moment) (others : List SerialEvent) : Type 0 where
  parts : List (List Step)
  each : length parts ≡ length others
  are : AreHeardAfter loose past (moments_of others parts)

parts_heard : (loose : List Step) (events others : List SerialEvent) (parts : List (List Step)) → length parts ≡ length events → AreHeard events others
    → HasParts loose (moments_of events parts) others
parts_heard loose [] others parts each are = subst (λ (l : List SerialEvent). HasParts loose [] l) (sym are) (record { parts = []; each = refl; are = refl })
parts_heard loose (one ∷ events) others [] each are = absurd (omega (arith, each))
parts_heard loose (one ∷ events) others (part ∷ parts) each (inl (is, are)) =
    let rest = parts_heard (loose ++ part) events others parts (omega (arith, each)) are in record { parts = rest.parts; each = rest.each; are = inl (is, rest.are) }
parts_heard loose (one ∷ events) others (part ∷ parts) each (inr (other, more, same, alike, are)) =
    let rest = parts_heard [] events more parts (omega (arith, each)) are in
    subst (λ (l : List SerialEvent). HasParts loose (record { event = one; steps = part } ∷ moments_of events parts) l) (sym same)
    (record { parts = (loose ++ part) ∷ rest.parts; each = ap suc rest.each; are = inr (other, moments_of more rest.parts, refl, alike, rest.are) })

-- ---- what the laws look at

-- of what was told and of what was heard, with these steps open in that
record Stand (past seen : List Moment) (loose : List Step) : Type 0 where
  life : steps_in (since_start past) ≡ steps_in (since_start seen) ++ loose
  came : arrivals_of Chip (since_start past) ≡ arrivals_of Chip (since_start seen)
  is_tick : (round_of past).is_tick ≡ (round_of seen).is_tick
  round : steps_in (round_of past).moments ≡ steps_in (round_of seen).moments ++ loose
  clock : clock_in past ≡ clock_in seen
  stalls : stalls_in past ≡ stalls_in seen
  mute : AllByRecursion IsMute loose
  heard : AreFirst (items_of loose) (if is_stalled seen then [] else ahead Host seen)
  may : EachAfter (MayDo Host (round_of seen).is_tick) (steps_in (round_of seen).moments) loose
  asks : asks_of loose ≡ 0

-- of the running line or tick, where nothing is open
record RoundsStand (told heard : Round) : Type 0 where
  is_tick : told.is_tick ≡ heard.is_tick
  steps : steps_in told.moments ≡ steps_in heard.moments ++ []

-- the laws of the host's link in a moment, and in those that follow
record Law (past : List Moment) (one : Moment) : Type 0 where
  ever : ObeysThere Host past one
  writes : WritesThere Host one
  hears : HearsInTime Host past one
  ticks : TicksInTime Host past one
  collides : CollidesAsTold Host past one

record Laws (past rest : List Moment) : Type 0 where
  ever : EachAfter (ObeysThere Host) past rest
  writes : AllByRecursion (WritesThere Host) rest
  hears : EachAfter (HearsInTime Host) past rest
  ticks : EachAfter (TicksInTime Host) past rest
  collides : EachAfter (CollidesAsTold Host) past rest

obeyed_so : (told heard : List Moment) → steps_in told ≡ steps_in heard → Obeys told → Obeys heard
obeyed_so told heard same obeys = subst (λ (l : List Step). (end : LinkSide) × SideObeys l end) same obeys

life_on : (past : List Moment) (one : Moment) → restarts_at one ≡ false → since_start (past ++ one ∷ []) ≡ since_start past ++ one ∷ []
life_on past one plain = start_one past one ∙ ap (λ (b : Bool). life_after b (since_start past ++ one ∷ [])) plain

-- the steps of a moment more, behind those that are open
steps_behind : (told seen : List Moment) (loose : List Step) (one : Moment) → steps_in told ≡ steps_in seen ++ loose → steps_in (told ++ one ∷ []) ≡ steps_in seen ++ (loose ++ one.steps)
steps_behind told seen loose one same = steps_one told one ∙ ap (λ (l : List Step). l ++ one.steps) same ∙ append_assoc (steps_in seen) loose one.steps

module _ (past seen : List Moment) (loose : List Step) (stand : Stand past seen loose) (one : Moment) (law : Law past one) where
  abbrev all_steps : List Step
  all_steps = loose ++ one.steps

  stalled : is_stalled past ≡ is_stalled seen
  stalled = ap₂ (λ (now : ℕ) (l : List ℕ). list_any (nat_lt now) l) stand.clock stand.stalls

  -- what is ahead of it is what is ahead there, without what it heard in the open steps
  ahead_is : ahead Host past ≡ drop (length (items_of loose)) (ahead Host seen)
  ahead_is =
      ap₂ (λ (l : List Step) (units : List (List ℕ)). drop (length (items_of l)) units) stand.life stand.came
      ∙ ap (λ (l : List Item). drop (length l) (arrivals_of Chip (since_start seen))) (items_both (steps_in (since_start seen)) loose)
      ∙ drop_both (items_of (steps_in (since_start seen))) (items_of loose) (arrivals_of Chip (since_start seen))

  hears_all : AreFirst (items_of all_steps) (if is_stalled seen then [] else ahead Host seen)
  hears_all =
      subst (λ (l : List Item). AreFirst l (if is_stalled seen then [] else ahead Host seen)) (sym (items_both loose one.steps))
      (heard_both (is_stalled seen) (items_of loose) (items_of one.steps) (ahead Host seen) stand.heard
      (subst (λ (l : List (List ℕ)). AreFirst (items_of one.steps) (if is_stalled seen then [] else l)) ahead_is
      (subst (λ (b : Bool). AreFirst (items_of one.steps) (if b then [] else ahead Host past)) stalled law.hears.0)))

  may_all : EachAfter (MayDo Host (round_of seen).is_tick) (steps_in (round_of seen).moments) all_steps
  may_all =
      each-append (MayDo Host (round_of seen).is_tick) (steps_in (round_of seen).moments) loose one.steps stand.may
      (subst (λ (b : Bool). EachAfter (MayDo Host b) (steps_in (round_of seen).moments ++ loose) one.steps) stand.is_tick
      (subst (λ (l : List Step). EachAfter (MayDo Host (round_of past).is_tick) l one.steps) stand.round law.ticks.0))

  asks_none : asks_of all_steps ≡ 0
  asks_none =
      let sum : asks_of (loose ++ one.steps) ≡ asks_of loose + asks_of one.steps = asks_of-append loose one.steps in
      let before : asks_of loose ≡ 0 = stand.asks in
      let here : asks_of one.steps ≡ 0 = law.collides in
      omega (arith, sum, before, here)

  -- a unit that did not come leaves its steps open
  passes : is_unheard one.event ≡ true → Stand (past ++ one ∷ []) seen all_steps
  passes is =
      let says = says_nothing one.event is in
      let round = round_one past one ∙ same_round (round_of past) one one.event says.ends in
      let ticks : clock_in (past ++ one ∷ []) ≡ clock_in past + length (tick_of one.event) = clock_one past one in
      let none : length (tick_of one.event) ≡ 0 = says.ticks in
      let before : clock_in past ≡ clock_in seen = stand.clock in
      record {
        life = ap (λ (l : List Moment). steps_in l) (life_on past one says.restarts) ∙ steps_behind (since_start past) (since_start seen) loose one stand.life;
        came = ap (λ (l : List Moment). arrivals_of Chip l) (life_on past one says.restarts) ∙ arrivals_one Chip (since_start past) one
            ∙ ap (λ (l : List (List ℕ)). arrivals_of Chip (since_start past) ++ l) says.arrivals ∙ append-nil (arrivals_of Chip (since_start past)) ∙ stand.came;
        is_tick = ap (λ (r : Round). r.is_tick) round ∙ stand.is_tick;
        round = ap (λ (r : Round). steps_in r.moments) round ∙ steps_behind (round_of past).moments (round_of seen).moments loose one stand.round;
        clock = omega (arith, ticks, none, before);
        stalls = stalls_one past one ∙ ap (λ (l : List ℕ). stalls_in past ++ l) (says.stalls (clock_in past)) ∙ append-nil (stalls_in past) ∙ stand.stalls;
        mute = all-append IsMute loose one.steps stand.mute (all_mute one.steps (subst (λ (l : List (List ℕ)). WriteLast one.steps l) says.units law.writes));
        heard = hears_all;
        may = may_all;
        asks = asks_none;
      }

  module _ (event : SerialEvent) (alike : IsAlike one.event event) where
    abbrev other : Moment
    other = record { event = event; steps = loose ++ one.steps }

    left_is : left_ahead Host seen other ≡ left_ahead Host past one
    left_is =
        ap (λ (l : List Item). drop (length l) (ahead Host seen)) (items_both loose one.steps) ∙ drop_both (items_of loose) (items_of one.steps) (ahead Host seen)
        ∙ ap (λ (l : List (List ℕ)). drop (length (items_of one.steps)) l) (sym ahead_is)

    -- one that was heard keeps the laws with them
    keeps : Law seen other
    keeps = record {
      ever = obeyed_so (since_start past ++ one ∷ []) (since_start seen ++ other ∷ [])
          (steps_behind (since_start past) (since_start seen) loose one stand.life ∙ sym (steps_one (since_start seen) other)) law.ever;
      writes = subst (λ (l : List (List ℕ)). WriteLast (loose ++ one.steps) l) alike.units (writes_both loose one.steps (unit_by Host one.event) stand.mute law.writes);
      hears = (
        hears_all,
        subst (λ (n : ℕ). LeavesFew (ends_round event && not (is_stalled seen)) n 0) (sym (ap (λ (l : List (List ℕ)). length l) left_is))
            (subst (λ (b : Bool). LeavesFew (ends_round event && not b) (length (left_ahead Host past one)) 0) stalled
            (subst (λ (b : Bool). LeavesFew (b && not (is_stalled past)) (length (left_ahead Host past one)) 0) alike.ends law.hears.1)),
      );
      ticks = (
        may_all,
        subst (λ (l : List Step). HasTicked (ends_round event && (round_of seen).is_tick) l)
            (ap (λ (l : List Step). l ++ one.steps) stand.round ∙ append_assoc (steps_in (round_of seen).moments) loose one.steps)
            (subst (λ (b : Bool). HasTicked (ends_round event && b) (steps_in (round_of past).moments ++ one.steps)) stand.is_tick
            (subst (λ (b : Bool). HasTicked (b && (round_of past).is_tick) (steps_in (round_of past).moments ++ one.steps)) alike.ends law.ticks.1)),
      );
      collides = asks_none;
    }

    -- and nothing is open after it
    steps_after : (told heard : List Moment) → steps_in told ≡ steps_in heard ++ loose → steps_in (told ++ one ∷ []) ≡ steps_in (heard ++ other ∷ []) ++ []
    steps_after told heard same = steps_behind told heard loose one same ∙ sym (append-nil (steps_in (heard ++ other ∷ [])) ∙ steps_one heard other)

    life_next : (again : Bool) → steps_in (life_after again (since_start past ++ one ∷ [])) ≡ steps_in (life_after again (since_start seen ++ other ∷ [])) ++ []
    life_next true = refl
    life_next false = steps_after (since_start past) (since_start seen) stand.life

    came_next : (again : Bool) → arrivals_of Chip (life_after again (since_start past ++ one ∷ [])) ≡ arrivals_of Chip (life_after again (since_start seen ++ other ∷ []))
    came_next true = refl
    came_next false =
        arrivals_one Chip (since_start past) one ∙ ap₂ (λ (l more : List (List ℕ)). l ++ more) stand.came alike.arrivals ∙ sym (arrivals_one Chip (since_start seen) other)

    life_is : since_start (seen ++ other ∷ []) ≡ life_after (restarts_at one) (since_start seen ++ other ∷ [])
    life_is = start_one seen other ∙ ap (λ (b : Bool). life_after b (since_start seen ++ other ∷ [])) (sym alike.restarts)

    -- in this line or tick, or in one that begins
    rounds_next : (ends : Bool) → ends_round one.event ≡ ends → RoundsStand (round_step (round_of past) one one.event) (round_step (round_of seen) other event)
    rounds_next true ends =
        let told = new_round (round_of past) one one.event ends in
        let heard = new_round (round_of seen) other event (sym alike.ends ∙ ends) in
        record {
          is_tick = ap (λ (r : Round). r.is_tick) told ∙ ap (λ (n : ℕ). nat_lt 0 n) alike.ticks ∙ sym (ap (λ (r : Round). r.is_tick) heard);
          steps = ap (λ (r : Round). steps_in r.moments) told ∙ sym (ap (λ (r : Round). steps_in r.moments ++ []) heard);
        }
    rounds_next false ends =
        let told = same_round (round_of past) one one.event ends in
        let heard = same_round (round_of seen) other event (sym alike.ends ∙ ends) in
        record {
          is_tick = ap (λ (r : Round). r.is_tick) told ∙ stand.is_tick ∙ sym (ap (λ (r : Round). r.is_tick) heard);
          steps = ap (λ (r : Round). steps_in r.moments) told ∙ steps_after (round_of past).moments (round_of seen).moments stand.round
              ∙ sym (ap (λ (r : Round). steps_in r.moments ++ []) heard);
        }

    goes_on : Stand (past ++ one ∷ []) (seen ++ other ∷ []) []
    goes_on =
        let rounds = rounds_next (ends_round one.event) refl in
        let told : clock_in (past ++ one ∷ []) ≡ clock_in past + length (tick_of one.event) = clock_one past one in
        let heard : clock_in (seen ++ other ∷ []) ≡ clock_in seen + length (tick_of event) = clock_one seen other in
        let same : length (tick_of one.event) ≡ length (tick_of event) = alike.ticks in
        let before : clock_in past ≡ clock_in seen = stand.clock in
        record {
          life = ap (λ (l : List Moment). steps_in l) (start_one past one) ∙ life_next (restarts_at one) ∙ sym (ap (λ (l : List Moment). steps_in l ++ []) life_is);
          came = ap (λ (l : List Moment). arrivals_of Chip l) (start_one past one) ∙ came_next (restarts_at one) ∙ sym (ap (λ (l : List Moment). arrivals_of Chip l) life_is);
          is_tick = ap (λ (r : Round). r.is_tick) (round_one past one) ∙ rounds.is_tick ∙ sym (ap (λ (r : Round). r.is_tick) (round_one seen other));
          round = ap (λ (r : Round). steps_in r.moments) (round_one past one) ∙ rounds.steps ∙ sym (ap (λ (r : Round). steps_in r.moments ++ []) (round_one seen other));
          clock = omega (arith, told, heard, same, before);
          stalls = stalls_one past one
              ∙ ap₂ (λ (l more : List ℕ). l ++ more) stand.stalls (ap (λ (n : ℕ). flat_map (stall_by n) (line_in one.event)) stand.clock ∙ alike.stalls (clock_in seen))
              ∙ sym (stalls_one seen other);
          mute = tt;
          heard = tt;
          may = tt;
          asks = refl;
        }

-- ---- all of them

first_law : (past : List Moment) (one : Moment) (rest : List Moment) → Laws past (one ∷ rest) → Law past one
first_law past one rest laws = record { ever = laws.ever.0; writes = laws.writes.0; hears = laws.hears.0; ticks = laws.ticks.0; collides = laws.collides.0 }

later_laws : (past : List Moment) (one : Moment) (rest : List Moment) → Laws past (one ∷ rest) → Laws (past ++ one ∷ []) rest
later_laws past one rest laws = record { ever = laws.ever.1; writes = laws.writes.1; hears = laws.hears.1; ticks = laws.ticks.1; collides = laws.collides.1 }

laws_kept : (past seen : List Moment) (loose : List Step) (rest others : List Moment) → Stand past seen loose → AreHeardAfter loose rest others → Laws past rest → Laws seen others
laws_kept past seen loose [] others stand none laws =
    subst (λ (l : List Moment). Laws seen l) (sym none) (record { ever = tt; writes = tt; hears = tt; ticks = tt; collides = tt })
laws_kept past seen loose (one ∷ rest) others stand (inl (is, are)) laws =
    laws_kept (past ++ one ∷ []) seen (loose ++ one.steps) rest others (passes past seen loose stand one (first_law past one rest laws) is) are (later_laws past one rest laws)
laws_kept past seen loose (one ∷ rest) others stand (inr (event, more, same, alike, are)) laws =
    let law = first_law past one rest laws in
    let other : Moment = record { event = event; steps = loose ++ one.steps } in
    let here = keeps past seen loose stand one law event alike in
    let later = laws_kept (past ++ one ∷ []) (seen ++ other ∷ []) [] rest more (goes_on past seen loose stand one law event alike) are (later_laws past one rest laws) in
    subst (λ (l : List Moment). Laws seen l) (sym same)
    (record { ever = (here.ever, later.ever); writes = (here.writes, later.writes); hears = (here.hears, later.hears); ticks = (here.ticks, later.ticks); collides = (here.collides, later.collides) })

-- each life obeyed
lives_obey : (seen others : List Moment) → AllByRecursion Obeys (between_restarts [] seen) → EachAfter (ObeysThere Host) seen others
    → AllByRecursion Obeys (between_restarts [] (seen ++ others))
lives_obey seen [] before ever = subst (λ (l : List Moment). AllByRecursion Obeys (between_restarts [] l)) (sym (append-nil seen)) before
lives_obey seen (one ∷ others) before ever =
    subst (λ (l : List Moment). AllByRecursion Obeys (between_restarts [] l)) (append_assoc seen (one ∷ []) others)
    (lives_obey (seen ++ one ∷ []) others (all_lives seen one no_steps before ever.0) ever.1)

-- ---- over what was heard

first_stand : Stand [] [] []
first_stand = record { life = refl; came = refl; is_tick = refl; round = refl; clock = refl; stalls = refl; mute = tt; heard = tt; may = tt; asks = refl }

-- up to an end
link_heard : (told end : List Entry) → IsEnd end → StandWell [] false told → HostObeyed (told ++ end) → KeepsLink Host (heard_by_host told ++ end)
link_heard told end ends well obeyed =
    let link : KeepsLink Host (told ++ end) = obeyed.link in
    let events : List SerialEvent = serial_events (told ++ end) in
    let others : List SerialEvent = serial_events (heard_by_host told ++ end) in
    let got = parts_heard [] events others link.parts link.each (events_heard end ends 0 0 [] false told well) in
    let kept = laws_kept [] [] [] (moments_of events link.parts) (moments_of others got.parts) first_stand got.are
    (record { ever = obeyed.ever; writes = link.writes; hears = link.hears; ticks = link.ticks; collides = link.collides })
    in
    record {
      parts = got.parts;
      each = got.each;
      obeys = lives_obey [] (moments_of others got.parts) (no_steps, tt) kept.ever;
      writes = kept.writes;
      hears = kept.hears;
      ticks = kept.ticks;
      collides = kept.collides;
    }

-- where a whole run ends a line begins, and elsewhere nothing
abbrev end_begins : List SerialEvent
end_begins = beginning_of (done_line (line_of (Said [])) [])

whole_end : IsEnd (Said [] ∷ [])
whole_end = record { unmarked = refl; unrefused = refl; heard = λ now due. ticks_then now due end_begins end_begins [] [] (line_first (done_line (line_of (Said [])) []) [] [] refl) }

no_end : IsEnd []
no_end = record { unmarked = refl; unrefused = refl; heard = λ now due. refl }

pub links_heard : (whole : Bool) (told : List Entry) → StandWell [] false told → HostObeyed (ended whole told) → KeepsLink Host (ended whole (heard_by_host told))
links_heard true told well obeyed = link_heard told (Said [] ∷ []) whole_end well obeyed
links_heard false told well obeyed =
    subst (λ (l : List Entry). KeepsLink Host l) (append-nil (heard_by_host told))
    (link_heard told [] no_end well (subst (λ (l : List Entry). HostObeyed l) (sym (append-nil told)) obeyed))
