-- Events that are done: one, one after another, and a prefix of them.
use Rattle.std.proofs.Common.{◌≡◌, ℕ, suc, ◌+◌, ◌-◌, ◌<◌, ◌≤◌, Option, Some, None, Result, OnErr, List, [], ◌∷◌, ◌++◌, length, map, refl, ap, sym, subst, ◌∙◌, append_assoc, length-append, arith}
use Rattle.std.proofs.lemmas.List.{append-nil, map-append}
use Rattle.zw_base.proofs.Results.{on_err}
use Rattle.include_text.specs.declared.entry.IncludeEntry.{IncludeEntry}
use Rattle.include_text.specs.declared.line.IncludeLine.{IncludeLine}
use Rattle.include_text.specs.declared.line.IncludeLine.TheVariants.{Add, Reset, Lose, Repeat, Tick}
use Rattle.include_text.specs.declared.entry.IncludeRefusal.{IncludeRefusal}
use Rattle.include_text.specs.declared.entry.IncludeRefusal.TheVariants.{Secure as HostSecure}
use Rattle.inclusion.specs.declared.exchange.Exchange.{Exchange}
use Rattle.inclusion.specs.Messages.{scheme_get}
use Rattle.std.proofs.lemmas.Bool.{cond_both}
use Rattle.air_frames.specs.declared.frame.Heading.TheVariants.{Outward, Homeward}
use Rattle.air_frames.specs.declared.frame.Heading.{Heading}
use Rattle.include_world.specs.declared.air.Coming.{Coming}
use Rattle.inclusion.specs.Joining.{joiner_takes}
use Rattle.inclusion.specs.Including.{includer_takes, is_secure}
use Rattle.include_world.specs.Air.{AirState, arriving, flying, departing, flight_at, refusal_of}
use Rattle.include_world.specs.World.{WorldState, Doing, adds, begins, refused, repeats, IncludeEvent, Says, Passes, Lands, Ends, Did, AllDrawn, AllSent, IsDrawn, does, passes, ends, after_all, entries_all, hears, hears_by, lands_by, joiner_of}
use Rattle.include_world.specs.Line.{IsTick, IsTicks, IsLine, ticks_of}
use Rattle.include_world.proofs.Sending.{Grows, sending_grows, departing_grows}

pub after_all-append : (w : WorldState) (xs ys : List IncludeEvent) → after_all w (xs ++ ys) ≡ after_all (after_all w xs) ys
after_all-append w [] ys = refl
after_all-append w (x ∷ xs) ys = after_all-append (does w x).world xs ys

pub entries_all-append : (w : WorldState) (xs ys : List IncludeEvent) → entries_all w (xs ++ ys) ≡ entries_all w xs ++ entries_all (after_all w xs) ys
entries_all-append w [] ys = refl
entries_all-append w (x ∷ xs) ys =
    ap (λ l. (does w x).entries ++ l) (entries_all-append (does w x).world xs ys)
    ∙ sym (append_assoc (does w x).entries (entries_all (does w x).world xs) (entries_all (after_all (does w x).world xs) ys))

pub AllDrawn-append : (xs ys : List IncludeEvent) → AllDrawn xs → AllDrawn ys → AllDrawn (xs ++ ys)
AllDrawn-append [] ys a b = b
AllDrawn-append (x ∷ xs) ys a b = (a.0, AllDrawn-append xs ys a.1 b)

-- nothing was done
pub did_nothing : (old new : WorldState) (before all : List IncludeEntry) → new ≡ old → all ≡ before → Did [] old new before all
did_nothing old new before all same told = record { drawn = tt; arrives = λ h. subst (λ (w : WorldState). AllSent w) (sym same) h; state = same; entries = told ∙ sym (append-nil before) }

-- one event was done
pub did_one : (event : IncludeEvent) (old new : WorldState) (before all : List IncludeEntry) → IsDrawn event → (AllSent old → AllSent (does old event).world) → new ≡ (does old event).world → all ≡ before ++ (does old event).entries → Did (event ∷ []) old new before all
did_one event old new before all eight arrives moves tells = record { drawn = (eight, tt); arrives = λ h. subst (λ (w : WorldState). AllSent w) (sym moves) (arrives h); state = moves; entries = tells ∙ ap (λ l. before ++ l) (sym (append-nil (does old event).entries)) }

-- events were done after others
pub did_both : (xs ys : List IncludeEvent) (a b c : WorldState) (before mid all : List IncludeEntry) → Did xs a b before mid → Did ys b c mid all → Did (xs ++ ys) a c before all
did_both xs ys a b c before mid all first more = record {
  drawn = AllDrawn-append xs ys first.drawn more.drawn;
  arrives = λ h. more.arrives (first.arrives h);
  state = more.state ∙ (ap (λ (w : WorldState). after_all w ys) first.state ∙ sym (after_all-append a xs ys));
  entries = more.entries ∙ (ap (λ l. l ++ entries_all b ys) first.entries ∙ (append_assoc before (entries_all a xs) (entries_all b ys)
      ∙ ap (λ l. before ++ l) (ap (λ (w : WorldState). entries_all a xs ++ entries_all w ys) first.state ∙ sym (entries_all-append a xs ys))));
}

-- what holds holds at an error too
-- some events were done
abbrev pub Some_did : WorldState → WorldState → List IncludeEntry → List IncludeEntry → Type 0
Some_did old new before all = (events : List IncludeEvent) × Did events old new before all

-- a call that stopped before its first event
pub nothing_at : {T E : Type 0} (r : Result T E) (old new : WorldState) (before all : List IncludeEntry) → new ≡ old → all ≡ before → OnErr r (Some_did old new before all)
nothing_at r old new before all same told = on_err {P = Some_did old new before all} r ([], did_nothing old new before all same told)

pub nothing_then : (a b c : WorldState) (before mid all : List IncludeEntry) (xs : List IncludeEvent) → Did xs a b before mid → c ≡ b → all ≡ mid → Some_did a c before all
nothing_then a b c before mid all xs first same told = (xs, record { drawn = first.drawn; arrives = λ h. subst (λ (w : WorldState). AllSent w) (sym same) (first.arrives h); state = same ∙ first.state; entries = told ∙ first.entries })

pub some_then : (a b c : WorldState) (before mid all : List IncludeEntry) (xs : List IncludeEvent) → Did xs a b before mid → Some_did b c mid all → Some_did a c before all
some_then a b c before mid all xs first more = (xs ++ more.0, did_both xs more.0 a b c before mid all first more.1)

-- ---- frames that arrive

hears_grows : (w : WorldState) (coming : Coming) (drawn : List ℕ) (heading : Heading) → Grows w.air (hears_by w coming drawn heading).world.air
hears_grows w coming drawn Outward = sending_grows w.air coming.node Homeward (joiner_takes (joiner_of w coming.node) coming.payload drawn).replies
hears_grows w coming drawn Homeward = sending_grows w.air coming.node Outward (includer_takes w.includer coming.node coming.payload drawn).replies

pub lands_grows : (w : WorldState) (o : Option Coming) (drawn : List ℕ) → Grows w.air (lands_by w o drawn).world.air
unfolding hears
lands_grows w None drawn = record { landed = refl; frames = omega arith }
lands_grows w (Some coming) drawn = hears_grows w coming drawn coming.heading

-- a frame that was on the air still is when it was heard
pub still_flying : (w : WorldState) (drawn : List ℕ) (new : WorldState) → w.air.landed < length w.air.frames → new ≡ (lands_by w (arriving w.air) drawn).world
    → new.air.landed < length new.air.frames
still_flying w drawn new flies same =
    let grows = lands_grows w (arriving w.air) drawn in
    let at : new.air.landed ≡ (lands_by w (arriving w.air) drawn).world.air.landed = ap (λ (x : WorldState). x.air.landed) same in
    let some : length new.air.frames ≡ length (lands_by w (arriving w.air) drawn).world.air.frames = ap (λ (x : WorldState). length x.air.frames) same in
    omega (arith, at, some, grows.landed, grows.frames, flies)

-- so many frames arrived
pub record Arrived (count : ℕ) (old new : WorldState) (before all : List IncludeEntry) : Type 0 where
  pub draws : List (List ℕ)
  pub each : length draws ≡ count
  pub did : Did (map Lands draws) old new before all
  pub landed : new.air.landed ≡ old.air.landed + count
  pub frames : length old.air.frames ≤ length new.air.frames

pub none_arrived : (w : WorldState) (all : List IncludeEntry) → Arrived 0 w w all all
none_arrived w all = record { draws = []; each = refl; did = did_nothing w w all all refl refl; landed = omega arith; frames = omega arith }

pub one_arrived : (count : ℕ) (old mid new : WorldState) (before told all : List IncludeEntry) (drawn : List ℕ) → Arrived count old mid before told
    → length drawn ≡ 8 → count + 1 ≤ flying old.air → new ≡ (does mid (Lands drawn)).world → all ≡ told ++ (does mid (Lands drawn)).entries → Arrived (count + 1) old new before all
unfolding does
one_arrived count old mid new before told all drawn a eight enough moves tells =
    let grows = lands_grows mid (arriving mid.air) drawn in
    let at : new.air.landed ≡ (lands_by mid (arriving mid.air) drawn).world.air.landed + 1 = ap (λ (w : WorldState). w.air.landed) moves in
    let some : length new.air.frames ≡ length (lands_by mid (arriving mid.air) drawn).world.air.frames = ap (λ (w : WorldState). length w.air.frames) moves in
    record {
      draws = a.draws ++ drawn ∷ [];
      each = length-append a.draws (drawn ∷ []) ∙ omega (arith, a.each);
      did = subst (λ (es : List IncludeEvent). Did es old new before all) (sym (map-append Lands a.draws (drawn ∷ []))) (did_both (map Lands a.draws) (Lands drawn ∷ []) old mid new before told all a.did (did_one (Lands drawn) mid new told all eight (λ h. omega (arith, grows.landed, grows.frames, a.landed, a.frames, enough)) moves tells));
      landed = omega (arith, at, grows.landed, a.landed);
      frames = omega (arith, some, grows.frames, a.frames);
    }

-- ---- ticks

-- a tick, from its parts
pub tick_is : (a b c d : WorldState) (before one two all : List IncludeEntry) (draws : List (List ℕ)) → Did (Passes ∷ []) a b before one → length draws ≡ flying a.air
    → Did (map Lands draws) b c one two → Did (Ends ∷ []) c d two all → (events : List IncludeEvent) × IsTick a events × Did events a d before all
tick_is a b c d before one two all draws passed each arrived ended =
    let prefix = did_both (Passes ∷ []) (map Lands draws) a b c before one two passed arrived in
    (Passes ∷ map Lands draws ++ Ends ∷ [], record { draws = draws; each = each; are = refl }, did_both (Passes ∷ map Lands draws) (Ends ∷ []) a c d before two all prefix ended)

-- ticks were done; any that follow make them whole
pub record Ticked (count done : ℕ) (old new : WorldState) (before all : List IncludeEntry) : Type 0 where
  pub prefix : List IncludeEvent
  pub did : Did prefix old new before all
  pub completes : (more : List IncludeEvent) → IsTicks (count - done) new more → IsTicks count old (prefix ++ more)

pub not_ticked : (count : ℕ) (w : WorldState) (all : List IncludeEntry) → Ticked count 0 w w all all
not_ticked count w all = record {
  prefix = [];
  did = did_nothing w w all all refl refl;
  completes = λ more is. let all : count - 0 ≡ count = omega arith in subst (λ (n : ℕ). IsTicks n w more) all is;
}

one_less : (count done : ℕ) → done + 1 ≤ count → (k : ℕ) × (count - done ≡ suc k) × (count - (done + 1) ≡ k)
one_less count done enough = (count - (done + 1), omega arith, refl)

pub ticked_more : (count done : ℕ) (old mid new : WorldState) (before told all : List IncludeEntry) → done + 1 ≤ count → Ticked count done old mid before told
    → (events : List IncludeEvent) × IsTick mid events × Did events mid new told all → Ticked count (done + 1) old new before all
ticked_more count done old mid new before told all enough t tick =
    let k = one_less count done enough in
    record {
      prefix = t.prefix ++ tick.0;
      did = did_both t.prefix tick.0 old mid new before told all t.did tick.2;
      completes = λ more is.
          let next : IsTicks (suc k.0) mid (tick.0 ++ more) = (tick.0, more, refl, tick.1, subst (λ (w : WorldState). IsTicks k.0 w more) tick.2.state (subst (λ (n : ℕ). IsTicks n new more) k.2 is)) in
          subst (λ (es : List IncludeEvent). IsTicks count old es) (sym (append_assoc t.prefix tick.0 more)) (t.completes (tick.0 ++ more) (subst (λ (n : ℕ). IsTicks n mid (tick.0 ++ more)) (sym k.1) next));
    }

pub all_ticked : (count done : ℕ) (old new : WorldState) (before all : List IncludeEntry) → count ≤ done → Ticked count done old new before all
    → (events : List IncludeEvent) × IsTicks count old events × Did events old new before all
all_ticked count done old new before all past t =
    let none : count - done ≡ 0 = omega arith in
    let whole : IsTicks count old (t.prefix ++ []) = t.completes [] (subst (λ (n : ℕ). IsTicks n new []) (sym none) refl) in
    (t.prefix, subst (λ (es : List IncludeEvent). IsTicks count old es) (append-nil t.prefix) whole, t.did)

-- a line, from its own effect and its ticks
pub line_is : (line : IncludeLine) (drawn : List ℕ) (a b c : WorldState) (before mid all : List IncludeEntry) → Did (Says line drawn ∷ []) a b before mid
    → (events : List IncludeEvent) × IsTicks (ticks_of line) b events × Did events b c mid all → (events : List IncludeEvent) × IsLine line a events × Did events a c before all
line_is line drawn a b c before mid all said ticks = (
  Says line drawn ∷ ticks.0,
  record { drawn = drawn; rest = ticks.0; are = refl; ticks = subst (λ (w : WorldState). IsTicks (ticks_of line) w ticks.0) said.state ticks.1 },
  did_both (Says line drawn ∷ []) ticks.0 a b c before mid all said ticks.2,
)

-- a line without ticks
pub no_ticks : (line : IncludeLine) (w : WorldState) (all : List IncludeEntry) → ticks_of line ≡ 0 → (events : List IncludeEvent) × IsTicks (ticks_of line) w events × Did events w w all all
no_ticks line w all none = ([], subst (λ (n : ℕ). IsTicks n w []) (sym none) refl, did_nothing w w all all refl refl)

-- ---- what a line says

grown_sent : (old new : AirState) → Grows old new → old.landed ≤ length old.frames → new.landed ≤ length new.frames
grown_sent old new g h = omega (arith, g.landed, g.frames, h)

heard_sent : (w : WorldState) (coming : Coming) (drawn : List ℕ) → AllSent w → AllSent (hears w coming drawn).world
unfolding hears
heard_sent w coming drawn h = grown_sent w.air (hears_by w coming drawn coming.heading).world.air (hears_grows w coming drawn coming.heading) h

repeats_sent : (w : WorldState) (number : ℕ) (drawn : List ℕ) (o : Option IncludeRefusal) → AllSent w → AllSent (repeats w number drawn o).world
repeats_sent w number drawn (Some refusal) h = h
repeats_sent w number drawn None h = heard_sent w (flight_at w.air number) drawn h

adds_sent : (w : WorldState) (node : ℕ) (o : Option Exchange) → AllSent w → AllSent (adds w node o).world
adds_sent w node (Some exchange) h = h
adds_sent w node None h =
    cond_both (is_secure w.includer node) (refused w HostSecure) (begins w node) (λ (d : Doing). AllSent d.world) (λ e. h)
    (λ e. grown_sent w.air (departing w.air node Outward scheme_get) (departing_grows w.air node Outward scheme_get) h)

pub says_sent : (w : WorldState) (line : IncludeLine) (drawn : List ℕ) → AllSent w → AllSent (does w (Says line drawn)).world
unfolding does
says_sent w (Add node) drawn h = adds_sent w node w.includer.exchange h
says_sent w (Reset node) drawn h = h
says_sent w (Lose count) drawn h = h
says_sent w (Repeat number) drawn h = repeats_sent w number drawn (refusal_of w.air number) h
says_sent w (Tick count) drawn h = h

-- ---- calls

-- a tick, from what its three calls say
pub tick_of : (a b c d : WorldState) (before one two all : List IncludeEntry) → b ≡ (passes a).world → one ≡ before ++ (passes a).entries
    → (draws : List (List ℕ)) × (length draws ≡ flying b.air) × Did (map Lands draws) b c one two → d ≡ (ends c).world → all ≡ two ++ (ends c).entries
    → (events : List IncludeEvent) × IsTick a events × Did events a d before all
unfolding does
tick_of a b c d before one two all passed told delivered ended said =
    tick_is a b c d before one two all delivered.0 (did_one Passes a b before one tt (λ h. h) passed told) (delivered.1 ∙ ap (λ (w : WorldState). flying w.air) passed) delivered.2
    (did_one Ends c d two all tt (λ h. h) ended said)

-- a tick that stopped while frames arrived, or at its end
pub stopped_delivering : (a b c : WorldState) (before one all : List IncludeEntry) → b ≡ (passes a).world → one ≡ before ++ (passes a).entries
    → (draws : List (List ℕ)) × Did (map Lands draws) b c one all → Some_did a c before all
unfolding does
stopped_delivering a b c before one all passed told stopped =
    some_then a b c before one all (Passes ∷ []) (did_one Passes a b before one tt (λ h. h) passed told) (map Lands stopped.0, stopped.1)

pub stopped_ending : (a b c d : WorldState) (before one two all : List IncludeEntry) → b ≡ (passes a).world → one ≡ before ++ (passes a).entries
    → (draws : List (List ℕ)) × (length draws ≡ flying b.air) × Did (map Lands draws) b c one two → d ≡ c → all ≡ two → Some_did a d before all
unfolding does
stopped_ending a b c d before one two all passed told delivered same quiet =
    some_then a b d before one all (Passes ∷ []) (did_one Passes a b before one tt (λ h. h) passed told)
    (nothing_then b c d one two all (map Lands delivered.0) delivered.2 same quiet)

-- a line, from what its two calls say
pub line_of_calls : (line : IncludeLine) (drawn : List ℕ) (count : ℕ) (a b c : WorldState) (before mid all : List IncludeEntry) → length drawn ≡ 8 → count ≡ ticks_of line
    → b ≡ (does a (Says line drawn)).world → mid ≡ before ++ (does a (Says line drawn)).entries
    → (events : List IncludeEvent) × IsTicks count b events × Did events b c mid all → (events : List IncludeEvent) × IsLine line a events × Did events a c before all
line_of_calls line drawn count a b c before mid all eight counted said told ticks =
    line_is line drawn a b c before mid all (did_one (Says line drawn) a b before mid eight (says_sent a line drawn) said told)
    (ticks.0, subst (λ (n : ℕ). IsTicks n b ticks.0) counted ticks.1, ticks.2)

-- a line that stopped in its ticks
pub stopped_ticking : (line : IncludeLine) (drawn : List ℕ) (a b c : WorldState) (before mid all : List IncludeEntry)
    → length drawn ≡ 8 → b ≡ (does a (Says line drawn)).world → mid ≡ before ++ (does a (Says line drawn)).entries → Some_did b c mid all → Some_did a c before all
stopped_ticking line drawn a b c before mid all eight said told stopped =
    some_then a b c before mid all (Says line drawn ∷ []) (did_one (Says line drawn) a b before mid eight (says_sent a line drawn) said told) stopped

-- frames that arrived, at the end of the loop
pub delivered : (count : ℕ) (old new : WorldState) (before all : List IncludeEntry) → flying old.air ≤ count → count ≤ flying old.air → Arrived count old new before all
    → (draws : List (List ℕ)) × (length draws ≡ flying old.air) × Did (map Lands draws) old new before all
delivered count old new before all past within a = (a.draws, omega (arith, a.each), a.did)
