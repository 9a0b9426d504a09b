-- The link of a host alone keeps the rules of the serial line over what it heard, through words, bytes, ticks and pumps.
use Rattle.std.proofs.Common.{◌≡◌, ◌≤◌, ◌<◌, ℕ, suc, ◌+◌, nat_lt, Bool, true, false, if◌then◌else◌, List, [], ◌∷◌, ◌++◌, length, map, refl, sym, ap, ap₂, ◌∙◌, subst, append-nil, append_assoc, arith}
use Rattle.std.specs.List.{AllByRecursion}
use Rattle.std.proofs.lemmas.Bool.{ltb-true}
use Rattle.std.proofs.lemmas.Grind.{flat_map-append}
use Rattle.std.proofs.lemmas.List.{map-append}
use Rattle.zw_base.proofs.Each.{all-append}
use Rattle.serial_frame.specs.declared.item.Item.{Item}
use Rattle.serial_frame.specs.declared.item.Item.TheVariants.{Good, Refused as refused_item}
use Rattle.serial_frame.specs.declared.unit.Unit.{Unit as LineUnit}
use Rattle.serial_link.specs.Rules.{Step, item_of, items_of, ticks_of}
use Rattle.serial_link.proofs.Counting.{ticks_of-append}
use Rattle.s0_crypto.specs.declared.key_pair.Keys.{Keys}
use Rattle.chip_sim.specs.Link.{link_units}
use Rattle.zw_words.specs.Words.{line_words, words}
use Rattle.zw_words.specs.declared.side.Side.TheVariants.{Host, Chip}
use Rattle.zw_text.specs.declared.line.Line.{Line}
use Rattle.zw_text.specs.declared.line.Line.TheVariants as lines
use Rattle.zw_text.specs.declared.entry.Entry.{Entry}
use Rattle.zw_text.specs.declared.entry.Entry.TheVariants as entry
use Rattle.zw_text.specs.declared.entry.Refusal.{Refusal}
use Rattle.zw_text.specs.Transcript.{line_of}
use Rattle.law_transcript.specs.Restarts.{ticks_asked}
use Rattle.law_wire.specs.Links.{KeepsLink}
use Rattle.law_wire.specs.Serial.{SerialEvent, beginning_of, done_line, ended, serial_events, ticks_up_to}
use Rattle.law_wire.specs.Serial.SerialEvent.{Line_begins, Tick_begins}
use Rattle.host_keep.specs.declared.record.Record.{Record}
use Rattle.host_model.specs.State.{HostState, first_host}
use Rattle.host_model.specs.Opening.{opened}
use Rattle.host_model.specs.Events.{HostEvent, Accepts, Cancels, Drops_no_more, Hears, Joins, Line_ticks, Node_ticks, Queues, Queues_interview, Queues_no_more, Queues_probe, Requests_do}
use Rattle.host_model.specs.After.{after, is_full}
use Rattle.host_model.specs.Did.{MayAll, after_all, outs_all}
use Rattle.host_model.specs.May.{May as MayHost}
use Rattle.host_model.specs.Outs.{answers, outs}
use Rattle.host_model.specs.Pumping.{LetsSleep, Pumps, Submits, no_more_event}
use Rattle.host_model.specs.Taking.{AreJudged}
use Rattle.host_model.specs.Ticking.{first_ticks, tick_events, ticking_nodes}
use Rattle.host_model.specs.declared.out.HostOut.{HostOut}
use Rattle.host_model.specs.declared.out.HostOut.TheVariants.{Note, Write}
use Rattle.proof_serial.specs.Line.{host_units}
use Rattle.host_requests.specs.Events.RequestsEvent.{Ticks as request_ticks}
use Rattle.host_node.specs.declared.attempt.Moment.TheVariants.{BeforeItsTick}
use Rattle.run_replay.specs.Machine.{entries_of, entry_of, timed}
use Rattle.world_model.specs.State.{Machine}
use Rattle.world_model.specs.Refusals.{IsRefused}
use Rattle.proof_asking.specs.proof_requests.proof_alone.Steps.{IsAskedBy}
use Rattle.proof_asking.proofs.InOrder.{is_asked}
use Rattle.proof_asking.specs.proof_line.proof_walk.ByLine.{IsAsked}
use Rattle.proof_noting.proofs.HostNotes.{NoteOuts, all_outs_note}
use Rattle.proof_asking.proofs.Untimed.{AreUntimed, IsUntimed}
use Rattle.proof_asking.specs.proof_line.proof_walk.Outside.{IsHostNote}
use Rattle.proof_asking.specs.proof_line.Arrivals.{AreTexts}
use Rattle.proof_asking.specs.proof_line.Pipes.{HearsNothing}
use Rattle.proof_asking.specs.proof_line.Links.{KnowsEvents, KnowsSide, LinkNow, MayEndNow, TakesTexts, TicksNot, begun_line, begun_tick, due_from, gone, tick_told, told_from, with_arriving}
use Rattle.proof_asking.specs.proof_line.proof_traffic.Links.{KeepsItsLink, host_link_steps, host_link_steps_all}
use Rattle.proof_asking.proofs.proof_line_Hosting.{next_apart, next_nothing}
use Rattle.proof_asking.proofs.HostTelling.{answers_beside, beside_note, judged_items, judged_ticks}
use Rattle.proof_asking.proofs.LinkBegins.{AreOrdinary, IsOrdinary, ordinary_begins, ordinary_on}
use Rattle.proof_asking.proofs.LinkHost.{all_keep, all_quiet, host_known, host_tick_known}
use Rattle.proof_asking.proofs.LinkKnown.{came_known, keeps_link, tick_known}
use Rattle.proof_asking.proofs.LinkLines.{TellsNone, host_restarts, restarted, says}
use Rattle.proof_asking.proofs.LinkTime.{tick_serials, timed_serials}
use Rattle.proof_asking.proofs.LinkTold.{besides_known}
use Rattle.proof_asking.proofs.LinkWalk.{first_link, first_now}
use Rattle.proof_asking.proofs.Serials.{due_grows, told_grows}
use Rattle.proof_asking.proofs.Tellings.{IsBeside, TellsSome}
use Rattle.proof_replay.specs.Heard.{came_as}
use Rattle.proof_replay.specs.Linked.{KnowsLine, LineAsked, LineRests, number_at}
use Rattle.proof_replay.proofs.Putting.{awaiting, clock_at}

-- ---- times

-- entries that tell no time, and no line
untimed : (now due : ℕ) (told : List Entry) → AreUntimed told → (told_from now due told ≡ now) × (due_from due told ≡ due)
untimed now due [] none = (refl, refl)
untimed now due (entry.Said words ∷ told) none = absurd none.0
untimed now due (entry.Time tick ∷ told) none = absurd none.0
untimed now due (e ∷ told) none = untimed now due told none.1

time_stays : (past told : List Entry) → AreUntimed told → tick_told (past ++ told) ≡ tick_told past
time_stays past told none = told_grows 0 0 past told ∙ (untimed (told_from 0 0 past) (due_from 0 past) told none).0

due_stays : (past told : List Entry) → AreUntimed told → due_from 0 (past ++ told) ≡ due_from 0 past
due_stays past told none = due_grows 0 past told ∙ (untimed 0 (due_from 0 past) told none).1

-- the ticks that have begun are told once the number of the running one is
numbered : (awaits : Bool) (past : List Entry) (clock : ℕ) → tick_told (past ++ number_at awaits clock) ≡ clock
    → serial_events (past ++ number_at awaits clock) ≡ serial_events past ++ ticks_up_to (tick_told past) clock
numbered true past clock on_time = timed_serials past (clock_at clock true) on_time
numbered false past clock on_time = timed_serials past (clock_at clock false) on_time

next_serials : (awaits : Bool) (past : List Entry) (clock : ℕ) → tick_told (past ++ number_at awaits clock) ≡ clock → tick_told past ≤ clock
    → serial_events (past ++ number_at awaits clock) ++ Tick_begins ∷ [] ≡ serial_events (past ++ entry.Time (clock + 1) ∷ [])
next_serials true past clock on_time behind = tick_serials past (clock_at clock true) on_time behind
next_serials false past clock on_time behind = tick_serials past (clock_at clock false) on_time behind

number_due : (awaits : Bool) (past : List Entry) (clock : ℕ) → due_from 0 (past ++ number_at awaits clock) ≡ due_from 0 past
number_due true past clock = due_grows 0 past (entry.Time clock ∷ [])
number_due false past clock = ap (λ (l : List Entry). due_from 0 l) (append-nil past)

-- ---- what the host puts out

note_untimed : (e : Entry) → IsHostNote e → IsUntimed e
note_untimed (entry.Said words) note = absurd note
note_untimed (entry.Time tick) note = absurd note
note_untimed e note = tt

outs_untimed : (puts : List HostOut) → NoteOuts puts → AreUntimed (entries_of puts)
outs_untimed [] notes = tt
outs_untimed (Write unit ∷ puts) notes = (tt, outs_untimed puts notes.1)
outs_untimed (Note e ∷ puts) notes = (note_untimed e notes.0, outs_untimed puts notes.1)

tells_after : (e : Entry) → IsBeside e → (units : List LineUnit) (told : List Entry) → TellsSome IsBeside Host units told → TellsSome IsBeside Host units (e ∷ told)
tells_after e beside [] told tells = (beside, tells)
tells_after e beside (unit ∷ units) told (before, marks, rest, is, all, marked, more) = (e ∷ before, marks, rest, ap (λ (l : List Entry). e ∷ l) is, (beside, all), marked, more)

outs_tell : (puts : List HostOut) → NoteOuts puts → TellsSome IsBeside Host (host_units puts) (entries_of puts)
outs_tell [] notes = tt
outs_tell (Write unit ∷ puts) notes = ([], [], entries_of puts, refl, tt, tt, outs_tell puts notes.1)
outs_tell (Note e ∷ puts) notes = tells_after e (beside_note e notes.0) (host_units puts) (entries_of puts) (outs_tell puts notes.1)

-- ---- which events hear an item, and which tick

no_heard : (h : HostState) (event : HostEvent) → HearsNothing event → items_of (host_link_steps h event) ≡ []
no_heard h (Hears item) nothing = absurd nothing
no_heard h event nothing = refl

none_heard : (events : List HostEvent) (h : HostState) → AllByRecursion HearsNothing events → items_of (host_link_steps_all h events) ≡ []
none_heard [] h nothing = refl
none_heard (event ∷ events) h nothing =
    flat_map-append (λ (step : Step). item_of step.event) (host_link_steps h event) (host_link_steps_all (after h event) events)
    ∙ ap₂ (λ (a b : List Item). a ++ b) (no_heard h event nothing.0) (none_heard events (after h event) nothing.1)

abbrev IsAlone : HostEvent → Type 0
IsAlone event = HearsNothing event × TicksNot event

no_more_alone : (h : HostState) (node : ℕ) → IsAlone (no_more_event h node)
no_more_alone h node = by (is_full h)
  where
    by : (b : Bool) → IsAlone (if b then Drops_no_more node else Queues_no_more node)
    by true = (tt, tt)
    by false = (tt, tt)

lets_alone : (events : List HostEvent) (h : HostState) → LetsSleep h events → AllByRecursion IsAlone events
lets_alone [] h lets = tt
lets_alone (event ∷ events) h (node, wants, is, more) = (subst IsAlone (sym is) (no_more_alone h node), lets_alone events (after h event) more)

submits_alone : (events : List HostEvent) (h : HostState) → Submits h events → AllByRecursion IsAlone events
submits_alone [] h pumped = tt
submits_alone (event ∷ events) h (is, more) = ((next_nothing h event is, next_apart h event is), submits_alone events (after h event) more)

pumps_alone : (events : List HostEvent) (h : HostState) → Pumps h events → AllByRecursion IsAlone events
pumps_alone events h (first, rest, are, lets, submits) =
    subst (λ (l : List HostEvent). AllByRecursion IsAlone l) (sym are) (all-append IsAlone first rest (lets_alone first h lets) (submits_alone rest (after_all h first) submits))

nodes_alone : (nodes : List ℕ) → AllByRecursion IsAlone (map Node_ticks nodes)
nodes_alone [] = tt
nodes_alone (node ∷ nodes) = ((tt, tt), nodes_alone nodes)

nothing_of : (events : List HostEvent) → AllByRecursion IsAlone events → AllByRecursion HearsNothing events
nothing_of [] all = tt
nothing_of (event ∷ events) all = (all.0.0, nothing_of events all.1)

apart_of : (events : List HostEvent) → AllByRecursion IsAlone events → AllByRecursion TicksNot events
apart_of [] all = tt
apart_of (event ∷ events) all = (all.0.1, apart_of events all.1)

-- ---- what a line asks for

asked_is_alone : (event : HostEvent) → IsAsked event → IsAlone event
asked_is_alone (Accepts order carriage) asked = (tt, tt)
asked_is_alone (Cancels command) asked = (tt, tt)
asked_is_alone (Joins node) asked = (tt, tt)
asked_is_alone (Queues task) asked = (tt, tt)
asked_is_alone (Queues_interview node) asked = (tt, tt)
asked_is_alone Queues_probe asked = (tt, tt)
asked_is_alone event asked = absurd asked

pub asked_alone : (line : Line) (h : HostState) (event : HostEvent) → IsAskedBy line h event → IsAlone event
asked_alone line h event asked = asked_is_alone event (is_asked line h event asked)

pub asked_plain : (line : Line) (h : HostState) (event : HostEvent) → IsAskedBy line h event → IsOrdinary line
asked_plain (lines.Tick count) h event asked = absurd asked
asked_plain (lines.Stall ticks) h event asked = absurd asked
asked_plain lines.Collide h event asked = absurd asked
asked_plain lines.Restart h event asked = absurd asked
asked_plain line h event asked = tt

pub asked_ticks : (line : Line) (h : HostState) (event : HostEvent) → IsAskedBy line h event → ticks_asked (line ∷ []) ≡ 0
asked_ticks (lines.Tick count) h event asked = absurd asked
asked_ticks line h event asked = refl

pub refused_ticks : (line : Line) (m : Machine) (refusal : Refusal) → IsRefused m line refusal → ticks_asked (line ∷ []) ≡ 0
refused_ticks (lines.Tick count) m refusal refused = absurd refused
refused_ticks line m refusal refused = refl

-- ---- what came

-- the entries of items that came, by their texts
abbrev pub came_so : List Item → List (List ℕ) → List Entry
came_so [] texts = []
came_so (item ∷ items) [] = []
came_so (item ∷ items) (text ∷ texts) = came_as item text ++ came_so items texts

-- one more text comes, and nothing else is otherwise
pub record Comes (now later : LinkNow) (texts : List (List ℕ)) : Type 0 where
  pub coming : later.coming ≡ now.coming ++ texts
  pub life : later.life ≡ now.life
  pub round : later.round ≡ now.round
  pub is_tick : later.is_tick ≡ now.is_tick
  pub until : later.until ≡ now.until

unpiped : {A : Type 0} → false ≡ true → A
unpiped bad = absurd cc

one_comes : (item : Item) (text : List ℕ) (past : List Entry) (now : LinkNow) → KnowsSide false Host past now → KnowsSide false Host (past ++ came_as item text) (with_arriving now (text ∷ []))
one_comes (Good unit) text past now knows = came_known Host past now text [] tt unpiped knows
one_comes (refused_item refusal) text past now knows = came_known Host past now text (entry.Garbled Chip text ∷ []) (tt, tt) unpiped knows

all_come : (items : List Item) (texts : List (List ℕ)) (past : List Entry) (now : LinkNow) → AreTexts items texts → KnowsSide false Host past now
    → (later : LinkNow) × KnowsSide false Host (past ++ came_so items texts) later × Comes now later texts
all_come [] [] past now are knows = (
  now,
  subst (λ (l : List Entry). KnowsSide false Host l now) (sym (append-nil past)) knows,
  record { coming = sym (append-nil now.coming); life = refl; round = refl; is_tick = refl; until = refl },
)
all_come [] (text ∷ texts) past now are knows = absurd are
all_come (item ∷ items) [] past now are knows = absurd are
all_come (item ∷ items) (text ∷ texts) past now are knows =
    let next : LinkNow = with_arriving now (text ∷ []) in
    let (later, known, comes) = all_come items texts (past ++ came_as item text) next are.1 (one_comes item text past now knows) in (
      later,
      subst (λ (l : List Entry). KnowsSide false Host l later) (append_assoc past (came_as item text) (came_so items texts)) known,
      record {
        coming = comes.coming ∙ append_assoc now.coming (text ∷ []) texts;
        life = comes.life;
        round = comes.round;
        is_tick = comes.is_tick;
        until = comes.until;
      },
    )

came_untimed : (item : Item) (text : List ℕ) → AreUntimed (came_as item text)
came_untimed (Good unit) text = (tt, tt)
came_untimed (refused_item refusal) text = (tt, (tt, tt))

all_untimed : (items : List Item) (texts : List (List ℕ)) → AreUntimed (came_so items texts)
all_untimed [] texts = tt
all_untimed (item ∷ items) [] = tt
all_untimed (item ∷ items) (text ∷ texts) = all-append IsUntimed (came_as item text) (came_so items texts) (came_untimed item text) (all_untimed items texts)

-- all of them are taken
takes_all : (items : List Item) (texts : List (List ℕ)) → AreTexts items texts → TakesTexts items texts []
takes_all [] [] are = refl
takes_all [] (text ∷ texts) are = absurd are
takes_all (item ∷ items) [] are = absurd are
takes_all (item ∷ items) (text ∷ texts) are = (are.0, takes_all items texts are.1)

never_stalls : (now : LinkNow) → now.until ≡ 0 → nat_lt now.clock now.until ≡ true → ⊥
never_stalls now moves stalls = let less : now.clock < now.until = ltb-true now.clock now.until stalls in omega (arith, less, moves)

-- ---- what every host does as a link

pub record HostsObey : Type 0 where
  pub first : (keys : Keys) → KeepsItsLink [] (first_host keys)
  pub opened : (keys : Keys) (records : List Record) → KeepsItsLink [] (opened keys records)
  pub each : (h : HostState) (event : HostEvent) (steps : List Step) → KeepsItsLink steps h → MayHost h event → KeepsItsLink (steps ++ host_link_steps h event) (after h event)
  pub units : (h : HostState) (event : HostEvent) → h.side.collisions ≡ 0 → host_units (outs h event) ≡ link_units (host_link_steps h event)

pub obeys : ((keys : Keys) → KeepsItsLink [] (first_host keys)) → ((keys : Keys) (records : List Record) → KeepsItsLink [] (opened keys records))
    → ((h : HostState) (event : HostEvent) (steps : List Step) → KeepsItsLink steps h → MayHost h event → KeepsItsLink (steps ++ host_link_steps h event) (after h event))
    → ((h : HostState) (event : HostEvent) → h.side.collisions ≡ 0 → host_units (outs h event) ≡ link_units (host_link_steps h event)) → HostsObey
obeys first opened each units = record { first = first; opened = opened; each = each; units = units }

module _ (obey : HostsObey) where
  -- ---- events

  -- they hear all that came
  ran_line : (events : List HostEvent) (h : HostState) (past : List Entry) (clock left : ℕ) (now : LinkNow) → KnowsSide false Host past now → KeepsItsLink now.life h → now.until ≡ 0
      → (now.is_tick ≡ true → ticks_of now.round ≡ 1) → tick_told past ≡ clock → due_from 0 past ≡ clock + left → MayAll h events → AllByRecursion TicksNot events
      → TakesTexts (items_of (host_link_steps_all h events)) now.coming [] → KnowsLine (past ++ entries_of (outs_all h events)) clock left (after_all h events)
  ran_line events h past clock left now knows keeps moves ticked time due may apart takes =
      let steps : List Step = host_link_steps_all h events in
      let notes : NoteOuts (outs_all h events) = all_outs_note h events in
      let none : AreUntimed (entries_of (outs_all h events)) = outs_untimed (outs_all h events) notes in
      let quiet : ticks_of steps ≡ 0 = all_quiet events h apart in
      let count : ticks_of (now.round ++ steps) ≡ ticks_of now.round + ticks_of steps = ticks_of-append now.round steps in
      let same : ticks_of (now.round ++ steps) ≡ ticks_of now.round = omega (arith, quiet, count) in
      record {
        now = gone now steps (after_all h events).side [];
        knows = host_known obey.each obey.units events h past now [] (entries_of (outs_all h events)) knows keeps may apart ticked (takes, λ stalls. absurd (never_stalls now moves stalls))
            (outs_tell (outs_all h events) notes);
        keeps = all_keep obey.each obey.units events h now.life keeps may;
        heard = refl;
        moves = moves;
        ticked = λ tick. same ∙ ticked tick;
        time = time_stays past (entries_of (outs_all h events)) none ∙ time;
        due = due_stays past (entries_of (outs_all h events)) none ∙ due;
      }

  -- they hear nothing
  pub alone_line : (events : List HostEvent) (h : HostState) (past : List Entry) (clock left : ℕ) → AllByRecursion IsAlone events → MayAll h events → KnowsLine past clock left h
      → KnowsLine (past ++ entries_of (outs_all h events)) clock left (after_all h events)
  alone_line events h past clock left alone may line =
      ran_line events h past clock left line.now line.knows line.keeps line.moves line.ticked line.time line.due may (apart_of events alone)
      (subst (λ (l : List Item). TakesTexts l line.now.coming []) (sym (none_heard events h (nothing_of events alone))) line.heard)

  -- a pump
  pub pump_line : (pumped : List HostEvent) (h : HostState) (past : List Entry) (clock left : ℕ) → Pumps h pumped → MayAll h pumped → KnowsLine past clock left h
      → KnowsLine (past ++ entries_of (outs_all h pumped)) clock left (after_all h pumped)
  pump_line pumped h past clock left pumps may line = alone_line pumped h past clock left (pumps_alone pumped h pumps) may line

  -- bytes
  pub bytes_line : (items : List Item) (texts : List (List ℕ)) (events : List HostEvent) (h : HostState) (past : List Entry) (clock left : ℕ) → AreTexts items texts → AreJudged h items events
      → MayAll h events → KnowsLine past clock left h → KnowsLine ((past ++ came_so items texts) ++ entries_of (outs_all h events)) clock left (after_all h events)
  bytes_line items texts events h past clock left are judged may line =
      let (now, known, comes) = all_come items texts past line.now are line.knows in
      let none : AreUntimed (came_so items texts) = all_untimed items texts in
      let coming : now.coming ≡ texts = comes.coming ∙ ap (λ (l : List (List ℕ)). l ++ texts) line.heard in
      ran_line events h (past ++ came_so items texts) clock left now known (subst (λ (l : List Step). KeepsItsLink l h) (sym comes.life) line.keeps) (comes.until ∙ line.moves)
      (λ tick. ap (λ (l : List Step). ticks_of l) comes.round ∙ line.ticked (sym comes.is_tick ∙ tick)) (time_stays past (came_so items texts) none ∙ line.time)
      (due_stays past (came_so items texts) none ∙ line.due) may (judged_ticks h items events judged)
      (subst (λ (l : List Item). TakesTexts l now.coming []) (sym (judged_items h items events judged)) (subst (λ (l : List (List ℕ)). TakesTexts items l []) (sym coming) (takes_all items texts are)))

  -- ---- rest

  ends_now : (past : List Entry) (clock left : ℕ) (h : HostState) (line : KnowsLine past clock left h) → MayEndNow Host line.now
  ends_now past clock left h line = record {
    few = λ moves. let none : length line.now.coming ≡ 0 = ap (λ (l : List (List ℕ)). length l) line.heard in omega (arith, none);
    ticked = line.ticked;
  }

  -- where no number is to be entered
  pub rests_at : (past : List Entry) (clock left : ℕ) (h : HostState) → KnowsLine past clock left h → LineRests past false clock left h
  rests_at past clock left h line = record {
    line = subst (λ (l : List Entry). KnowsLine l clock left h) (sym (append-nil past)) line;
    behind = let time : tick_told past ≡ clock = line.time in omega (arith, time);
    link = keeps_link Host past line.now line.knows;
  }

  pub first_rests : (keys : Keys) → LineRests [] false 0 0 (first_host keys)
  first_rests keys = rests_at [] 0 0 (first_host keys) (record {
    now = first_now (first_host keys).side;
    knows = first_link Host (first_host keys).side (obey.first keys).obeys;
    keeps = obey.first keys;
    heard = refl;
    moves = refl;
    ticked = λ tick. absurd cc;
    time = refl;
    due = refl;
  })

  -- ---- words

  module _ (past : List Entry) (awaits : Bool) (clock : ℕ) (h : HostState) (rests : LineRests past awaits clock 0 h) where
    abbrev timed_past : List Entry
    timed_past = past ++ number_at awaits clock

    due_now : due_from 0 past ≡ clock
    due_now =
        let due : due_from 0 timed_past ≡ clock + 0 = rests.line.due in
        let same : due_from 0 timed_past ≡ due_from 0 past = number_due awaits past clock in
        omega (arith, due, same)

    -- what is told from the words on, up to what asks for more
    words_due : (words : List ℕ) (told : List Entry) (left : ℕ) → AreUntimed told → ticks_asked (line_of (entry.Said words)) ≡ left → due_from 0 (past ++ entry.Said words ∷ told) ≡ clock + left
    words_due words told left none asks =
        let here : ℕ = due_from 0 past + ticks_asked (line_of (entry.Said words)) in
        due_grows 0 past (entry.Said words ∷ told) ∙ (untimed 0 here told none).1 ∙ ap₂ (λ (a b : ℕ). a + b) due_now asks

    -- a line begins that is no tick and no restart
    pub words_line : (words : List ℕ) (told : List Entry) (line : List Line) → AreOrdinary line → done_line (line_of (entry.Said words)) told ≡ line → TellsNone told → AreUntimed told
        → ticks_asked (line_of (entry.Said words)) ≡ 0 → KnowsLine (past ++ entry.Said words ∷ told) clock 0 h
    words_line words told line plain done none untold asks =
        let k = rests.line in
        let all : List Entry = past ++ entry.Said words ∷ told in
        let said = says past words told line clock done none due_now in
        let serials : serial_events all ≡ serial_events timed_past ++ Line_begins line ∷ [] =
        said.serials ∙ ap (λ (l : List SerialEvent). l ++ beginning_of line) (sym (numbered awaits past clock k.time))
        ∙ ap (λ (l : List SerialEvent). serial_events timed_past ++ l) (ordinary_begins line plain) in
        record {
          now = begun_line k.now k.now.until;
          knows = ordinary_on Host timed_past all k.now k.knows (ends_now timed_past clock 0 h k) line plain serials;
          keeps = k.keeps;
          heard = k.heard;
          moves = k.moves;
          ticked = λ tick. absurd (let bad : false ≡ true = tick in cc);
          time = said.time;
          due = words_due words told 0 untold asks;
        }

    -- a `tick`, which begins nothing
    pub ticks_line : (words : List ℕ) (count : ℕ) → line_of (entry.Said words) ≡ lines.Tick count ∷ [] → KnowsLine (past ++ entry.Said words ∷ []) clock count h
    ticks_line words count read =
        let k = rests.line in
        let all : List Entry = past ++ entry.Said words ∷ [] in
        let said = says past words [] (lines.Tick count ∷ []) clock read (λ now due. (refl, refl)) due_now in
        let serials : serial_events all ≡ serial_events timed_past =
        said.serials ∙ append-nil (serial_events past ++ ticks_up_to (tick_told past) clock) ∙ sym (numbered awaits past clock k.time) in
        let asks : ticks_asked (line_of (entry.Said words)) ≡ count = ap ticks_asked read ∙ plus_none count in
        record {
          now = k.now;
          knows = subst (λ (l : List SerialEvent). KnowsEvents false Host l k.now) (sym serials) k.knows;
          keeps = k.keeps;
          heard = k.heard;
          moves = k.moves;
          ticked = k.ticked;
          time = said.time;
          due = words_due words [] count tt asks;
        }
      where
        plus_none : (n : ℕ) → n + 0 ≡ n
        plus_none n = omega arith

    -- a restart
    pub restart_line : (words : List ℕ) (state : HostState) → line_of (entry.Said words) ≡ lines.Restart ∷ [] → KeepsItsLink [] state → KnowsLine (past ++ entry.Said words ∷ []) clock 0 state
    restart_line words state read keeps =
        let k = rests.line in
        let all : List Entry = past ++ entry.Said words ∷ [] in
        let said = says past words [] (lines.Restart ∷ []) clock read (λ now due. (refl, refl)) due_now in
        let serials : serial_events timed_past ++ Line_begins (lines.Restart ∷ []) ∷ [] ≡ serial_events all =
        ap (λ (l : List SerialEvent). l ++ Line_begins (lines.Restart ∷ []) ∷ []) (numbered awaits past clock k.time) ∙ sym said.serials in
        record {
          now = restarted k.now [] state.side;
          knows = subst (λ (l : List SerialEvent). KnowsEvents false Host l (restarted k.now [] state.side)) serials
              (host_restarts (serial_events timed_past) k.now state.side keeps.obeys (ends_now timed_past clock 0 h k) k.knows);
          keeps = keeps;
          heard = refl;
          moves = k.moves;
          ticked = λ tick. absurd (let bad : false ≡ true = tick in cc);
          time = said.time;
          due = words_due words [] 0 tt (ap ticks_asked read);
        }

  -- a line that is refused
  pub refused_line : (line : Line) (past : List Entry) (clock : ℕ) (h : HostState) (refusal : Refusal) → ticks_asked (line ∷ []) ≡ 0 → LineAsked line past clock h
      → KnowsLine (past ++ entry.Refused refusal ∷ []) clock 0 h
  refused_line line past clock h refusal none k =
      let told : List Entry = entry.Refused refusal ∷ [] in
      subst (λ (l : List Entry). KnowsLine l clock 0 h) (sym (append_assoc k.before (entry.Said k.words ∷ []) told) ∙ ap (λ (l : List Entry). l ++ told) (sym k.is))
      (words_line k.before k.awaits clock h k.rests k.words told [] tt refl (λ now due. (refl, refl)) (tt, tt) (ap ticks_asked k.read ∙ none))

  -- the answer to a line
  pub told_line : (event : HostEvent) (g h : HostState) (past : List Entry) (clock left : ℕ) → KnowsLine past clock left h → KnowsLine (past ++ answers g event) clock left h
  told_line event g h past clock left line =
      let told : List Entry = answers g event in
      let none : AreUntimed told = answers_untimed g event in
      record {
        now = line.now;
        knows = besides_known Host past line.now told (answers_beside g event) line.knows;
        keeps = line.keeps;
        heard = line.heard;
        moves = line.moves;
        ticked = line.ticked;
        time = time_stays past told none ∙ line.time;
        due = due_stays past told none ∙ line.due;
      }
    where
      answers_untimed : (g : HostState) (event : HostEvent) → AreUntimed (answers g event)
      answers_untimed g (Accepts order carriage) = (tt, tt)
      answers_untimed g (Cancels command) = (tt, tt)
      answers_untimed g event = tt

  -- ---- ticks

  -- a tick, and the pump that follows
  pub tick_line : (pumped : List HostEvent) (past : List Entry) (awaits : Bool) (clock left : ℕ) (h : HostState) → Pumps (after_all h (tick_events h)) pumped → MayAll h (tick_events h ++ pumped)
      → LineRests past awaits clock (suc left) h
      → LineRests (past ++ timed (clock + 1) (outs_all h (tick_events h ++ pumped))) (awaiting (outs_all h (tick_events h ++ pumped))) (clock + 1) left (after_all h (tick_events h ++ pumped))
  tick_line pumped past awaits clock left h pumps may rests =
      rest_of (outs_all h (tick_events h ++ pumped)) all
    where
      k : KnowsLine (past ++ number_at awaits clock) clock (suc left) h
      k = rests.line

      begun : List Entry
      begun = past ++ entry.Time (clock + 1) ∷ []

      now : LinkNow
      now = begun_tick k.now

      known : KnowsSide false Host begun now
      known =
          subst (λ (l : List SerialEvent). KnowsEvents false Host l now) (next_serials awaits past clock k.time rests.behind)
          (tick_known Host (serial_events (past ++ number_at awaits clock)) k.now k.knows (ends_now (past ++ number_at awaits clock) clock (suc left) h k))

      due : due_from 0 begun ≡ (clock + 1) + left
      due =
          let whole : due_from 0 (past ++ number_at awaits clock) ≡ clock + suc left = k.due in
          let same : due_from 0 (past ++ number_at awaits clock) ≡ due_from 0 past = number_due awaits past clock in
          let grown : due_from 0 begun ≡ due_from 0 past = due_grows 0 past (entry.Time (clock + 1) ∷ []) in
          omega (arith, whole, same, grown)

      later : List HostEvent
      later = Requests_do request_ticks BeforeItsTick ∷ (map Node_ticks (ticking_nodes (after_all h first_ticks)) ++ pumped)

      may_first : MayHost h Line_ticks
      may_first = may.0

      first_outs : List HostOut
      first_outs = outs h Line_ticks

      first_line : KnowsLine (begun ++ entries_of first_outs) (clock + 1) left (after h Line_ticks)
      first_line =
          let steps : List Step = host_link_steps h Line_ticks in
          let notes : NoteOuts (first_outs ++ []) = all_outs_note h (Line_ticks ∷ []) in
          let noted : NoteOuts first_outs = subst NoteOuts (append-nil first_outs) notes in
          let none : AreUntimed (entries_of first_outs) = outs_untimed first_outs noted in
          record {
            now = gone now steps (after h Line_ticks).side now.coming;
            knows = host_tick_known obey.each obey.units h begun now (entries_of first_outs) known k.keeps may_first refl refl (outs_tell first_outs noted);
            keeps = obey.each h Line_ticks now.life k.keeps may_first;
            heard = k.heard;
            moves = k.moves;
            ticked = λ tick. refl;
            time = time_stays begun (entries_of first_outs) none ∙ told_grows 0 0 past (entry.Time (clock + 1) ∷ []);
            due = due_stays begun (entries_of first_outs) none ∙ due;
          }

      alone : AllByRecursion IsAlone later
      alone = (
        (tt, tt),
        all-append IsAlone (map Node_ticks (ticking_nodes (after_all h first_ticks))) pumped (nodes_alone (ticking_nodes (after_all h first_ticks)))
            (pumps_alone pumped (after_all h (tick_events h)) pumps),
      )

      all : KnowsLine (begun ++ entries_of (outs_all h (tick_events h ++ pumped))) (clock + 1) left (after_all h (tick_events h ++ pumped))
      all =
          let more = alone_line later (after h Line_ticks) (begun ++ entries_of first_outs) (clock + 1) left alone may.1 first_line in
          subst (λ (l : List Entry). KnowsLine l (clock + 1) left (after_all h (tick_events h ++ pumped)))
          (append_assoc begun (entries_of first_outs) (entries_of (outs_all (after h Line_ticks) later))
          ∙ ap (λ (l : List Entry). begun ++ l) (sym (map-append entry_of first_outs (outs_all (after h Line_ticks) later)))) more

      rest_of : (puts : List HostOut) → KnowsLine (begun ++ entries_of puts) (clock + 1) left (after_all h (tick_events h ++ pumped))
          → LineRests (past ++ timed (clock + 1) puts) (awaiting puts) (clock + 1) left (after_all h (tick_events h ++ pumped))
      rest_of [] line = record {
        line = subst (λ (l : List Entry). KnowsLine l (clock + 1) left (after_all h (tick_events h ++ pumped)))
            (append-nil begun ∙ ap (λ (l : List Entry). l ++ entry.Time (clock + 1) ∷ []) (sym (append-nil past))) line;
        behind =
            let before : tick_told past ≤ clock = rests.behind in
            let same : tick_told (past ++ []) ≡ tick_told past = ap (λ (l : List Entry). tick_told l) (append-nil past) in
            omega (arith, before, same);
        link = subst (λ (l : List Entry). KeepsLink Host l) (sym (append-nil past)) rests.link;
      }
      rest_of (one ∷ puts) line =
          rests_at (past ++ timed (clock + 1) (one ∷ puts)) (clock + 1) left (after_all h (tick_events h ++ pumped))
          (subst (λ (l : List Entry). KnowsLine l (clock + 1) left (after_all h (tick_events h ++ pumped))) (append_assoc past (entry.Time (clock + 1) ∷ []) (entries_of (one ∷ puts))) line)

  -- ---- the law

  -- where the host came to rest, up to the end
  pub link_kept : (whole : Bool) (past : List Entry) (awaits : Bool) (clock : ℕ) (h : HostState) → LineRests past awaits clock 0 h → KeepsLink Host (ended whole past)
  unfolding words line_words
  link_kept false past awaits clock h rests = rests.link
  link_kept true past awaits clock h rests =
      let line = words_line past awaits clock h rests [] [] [] tt refl (λ now due. (refl, refl)) tt refl in keeps_link Host (past ++ entry.Said [] ∷ []) line.now line.knows

  pub open_kept : (past : List Entry) (clock left : ℕ) (h : HostState) → KnowsLine past clock left h → KeepsLink Host past
  open_kept past clock left h line = keeps_link Host past line.now line.knows
