-- What is known of both links at each phase of a line goes on with each event, where time is known too; so it is known where the events of lines end.
use Rattle.std.proofs.Common.{◌≡◌, ◌≤◌, ℕ, zero, suc, ◌+◌, nat_lt, true, false, inl, inr, List, [], ◌∷◌, ◌++◌, length, refl, sym, ap, ◌∙◌, subst, append-nil, arith, Bool, ◌<◌}
use Rattle.std.specs.Prelude.{Option}
use Rattle.serial_frame.specs.Stream.{Rest}
use Rattle.serial_frame.specs.declared.item.Item.{Item}
use Rattle.route_table.specs.declared.route.Route.{Route}
use Rattle.std.proofs.lemmas.Bool.{ltb-true}
use Rattle.s0_crypto.specs.declared.key_pair.Keys.{Keys}
use Rattle.proof_world.specs.device_sim.State.{State}
use Rattle.serial_link.specs.State.{Side as LinkSide}
use Rattle.serial_link.specs.Rules.{Step, SideObeys}
use Rattle.serial_link.specs.declared.turn.Turn.TheVariants.{Idle}
use Rattle.chip_sim.specs.Link.{link_steps, link_units}
use Rattle.chip_sim.specs.Did.{judged_all}
use Rattle.chip_sim.specs.Rules.{over}
use Rattle.zw_words.specs.declared.side.Side.{Side}
use Rattle.zw_words.specs.declared.side.Side.TheVariants.{Host, Chip}
use Rattle.zw_text.specs.declared.line.Line.{Line}
use Rattle.zw_text.specs.declared.line.Line.TheVariants as lines
use Rattle.zw_text.specs.declared.entry.Entry.{Entry}
use Rattle.zw_text.specs.declared.entry.Entry.TheVariants.{Said, Time}
use Rattle.zw_text.specs.Transcript.{line_of}
use Rattle.law_wire.specs.law_transcript.Lists.{EachAfter}
use Rattle.host_keep.specs.declared.record.Record.{Record}
use Rattle.proof_world.specs.host_model.Opening.{opened}
use Rattle.proof_world.specs.host_model.State.{HostState, first_host}
use Rattle.proof_world.specs.host_model.Events.{HostEvent}
use Rattle.proof_world.specs.host_model.After.{after as host_after}
use Rattle.proof_world.specs.host_model.May.{May as MayHost}
use Rattle.proof_world.specs.host_model.Outs.{outs as host_outs}
use Rattle.proof_world.specs.host_model.Ticking.{tick_events}
use Rattle.proof_walk.specs.outside_model.State.{OuterState, first_outer}
use Rattle.proof_walk.specs.outside_model.Events.{OuterEvent, Begins_line, Begins_tick, Arrives, Chip_takes, Gives, Device_ticks, Chip_ticks, Collides_next, Stalls}
use Rattle.proof_walk.specs.world_model.State.{Machine, first_machine}
use Rattle.proof_walk.specs.world_model.Events.{Event, Outside_does, Host_does, Host_takes, Decoder_ticks, entries, May}
use Rattle.proof_walk.specs.world_model.Lines.{IsEffect}
use Rattle.proof_world.specs.proof_serial.Line.{host_units}
use Rattle.proof_world.proofs.First.{first_at_rest, first_frames}
use Rattle.proof_traffic.specs.Links.{KeepsItsLink, host_link_steps}
use Rattle.proof_walk.specs.Phases.{Phase, Between, Said_line, Begun, Doing, To_tick, Ticked, Arriving, Giving, Ticking_devices, Ticking_chip, Ticking_decoder, Ticking_host, Sleeping, Submitting, Moving, Moved, Turns, Goes}
use Rattle.proof_walk.specs.Time.{KnowTime, MayCount}
use Rattle.proof_walk.specs.Walk.{Walk, WalkWhere}
use Rattle.proof_line.specs.Links.{AtLine, KeepsSoFar, LinkNow, MayEndNow, due_from, most_of, tick_told, KnowsSide}
use Rattle.proof_line.specs.Linked.{◌⊕◌, began, did_at, flags_of, rounds_in, said, BeginsLast, BeginsSaid, Did, Cuts, IsOrderly, KnowCuts, KnowLinks, KnowsBoth, LinksBegun, LinksDone, LinksLeft, HaveTickedOnce, InTick, Round, Anything, KnowAll}
use Rattle.proof_line.proofs.LinkKnown.{no_steps}
use Rattle.proof_line.proofs.LinkTold.{brings_none}
use Rattle.proof_line.proofs.ChipAccounts.{event_steps, outer_steps}
use Rattle.proof_line.proofs.LinkEnds.{line_cuts}
use Rattle.proof_line.proofs.LinkTicks.{Then, arrives, begins_tick, chip_ticks, decoder_ticks, host_ticks}
use Rattle.proof_line.proofs.LinkSettles.{chip_moves, chip_still, ends, host_moves, host_still, passes_on, settles, sleeps, submits}
use Rattle.law_wire.specs.Serial.{SerialEvent, beginning_of, serial_events}
use Rattle.law_wire.specs.Serial.SerialEvent.{Line_begins, Tick_begins}
use Rattle.proof_line.proofs.LinkBegins.{alone_said, begins_line, begun_serials}
use Rattle.proof_line.proofs.LinkTime.{tick_serials}
use Rattle.proof_walk.specs.outside_model.Events.{ticked_entry}
use Rattle.proof_line.proofs.LinkEffects.{effect_plain}
use Rattle.proof_line.proofs.LinkPlain.{plain_done, plain_goes, then_more}
use Rattle.proof_line.proofs.LinkRestarts.{restart_done, restart_goes}
use Rattle.proof_line.proofs.LinkStarts.{starts_many}
use Rattle.proof_line.proofs.LinkOnes.{collide_goes, due_is, ended_cuts, one_done, stall_goes, ticks_begun, words_cut}

-- ---- all entries may stand

all_stand : (past told : List Entry) → EachAfter Anything past told
all_stand past [] = tt
all_stand past (e ∷ told) = (tt, all_stand (past ++ e ∷ []) told)

-- ---- with time

-- the ticks that lines have asked for have begun
due_now : (past : List Entry) (m : Machine) → KnowTime Between past m → due_from 0 past ≡ m.outside.outer.clock
due_now past m time =
    let is = due_is 0 past in
    let clock = time.0.0.clock in
    let same : due_from 0 past ≡ m.outside.outer.clock = omega (arith, is, clock) in
    same

pub said_steps : (line : Line) (did : Did) → (said line did).steps ≡ did.steps
said_steps (lines.Tick count) did = refl
said_steps line did = refl

pub said_knows : {did : Did} (past : List Entry) (m : Machine) (words : List ℕ) (line : Line) → line_of (Said words) ≡ line ∷ [] → KnowTime Between past m → KnowCuts did Between past m
    → KnowCuts (said line did) (Said_line line) (past ++ Said words ∷ []) m
said_knows {did} past m words line read time (cuts, (is_tick, (up, down, both, may))) =
    let due = due_now past m time in (
      words_cut past m is_tick up down both may due words line read,
      record { before = past; words = words; read = read; is = refl; is_tick = is_tick; earlier = did; counts = refl; both = (up, down, both, may); due = due },
    )

-- at the end of a whole run
pub ended_known : (did : Did) (past : List Entry) (m : Machine) → KnowTime Between past m → KnowCuts did Between past m → Cuts (began did) (past ++ Said [] ∷ [])
ended_known did past m time (cuts, (is_tick, (up, down, both, may))) = ended_cuts past m is_tick up down both may (due_now past m time)

-- ---- lines and ticks begin

-- at most one
abbrev pub IsOneLine : List Line → Type 0
IsOneLine [] = Unit {0}
IsOneLine (line ∷ []) = Unit {0}
IsOneLine (line ∷ next ∷ more) = ⊥

pub said_begins : (did : Did) (past : List Entry) (m : Machine) (words : List ℕ) (line : List Line) → line_of (Said words) ≡ line → KnowTime Between past m → KnowCuts did Between past m → IsOneLine line
    → BeginsSaid line did (past ++ Said words ∷ [])
said_begins did past m words line read time (cuts, (is_tick, (up, down, both, may))) one =
    let due = due_now past m time in
    let o : OuterState = m.outside.outer in
    by line one (begun_serials past m is_tick up down both may (Said words ∷ []) line (alone_said past words line o.clock read due))
    (sym (ap (λ (l : List (List Step)). length l) both.starts) ∙ starts_many true Chip (serial_events (past ++ ticked_entry o)) up both.line.chip)
  where
    front : List SerialEvent
    front = serial_events (past ++ ticked_entry m.outside.outer)

    by : (line : List Line) → IsOneLine line → serial_events (past ++ Said words ∷ []) ≡ front ++ beginning_of line → length did.starts ≡ rounds_in (flags_of front)
        → BeginsSaid line did (past ++ Said words ∷ [])
    by [] one events many = record { front = front; event = Line_begins []; events = events; begins = refl; many = many }
    by (lines.Tick count ∷ []) one events many = many ∙ ap (λ (l : List SerialEvent). rounds_in (flags_of l)) (sym (append-nil front) ∙ sym events)
    by (line ∷ []) one events many = record { front = front; event = Line_begins (line ∷ []); events = events; begins = refl; many = many }
    by (line ∷ next ∷ more) one events many = absurd one

pub tick_begins : (did : Did) (ticks : ℕ) (past : List Entry) (m : Machine) → KnowCuts did (To_tick ticks) past m → BeginsLast did (past ++ Time (m.outside.outer.clock + 1) ∷ [])
tick_begins did ticks past m (cuts, (is_tick, (up, down, both, may))) =
    let o : OuterState = m.outside.outer in
    record {
      front = serial_events (past ++ ticked_entry o);
      event = Tick_begins;
      events = sym (tick_serials past o (both.line.time ∙ both.chip_time.clock) both.behind);
      begins = refl;
      many = sym (ap (λ (l : List (List Step)). length l) both.starts) ∙ starts_many true Chip (serial_events (past ++ ticked_entry o)) up both.line.chip;
    }

-- the number of a tick is above those before it
pub tick_later : (did : Did) (ticks : ℕ) (past : List Entry) (m : Machine) → KnowCuts did (To_tick ticks) past m → tick_told past < m.outside.outer.clock + 1
tick_later did ticks past m (cuts, (is_tick, (up, down, both, may))) = let behind = both.behind in omega (arith, behind)

-- ---- phases

-- what is known after an event of the steps that the chip's link then did
abbrev Steps : Did → Phase → Phase → List Entry → Machine → Event → Type 0
Steps did here next past m event = Then (did_at here did (event_steps m event)) (KnowLinks (did_at here did (event_steps m event)) next) past m event

-- the event is this one, and the phase after it
event_is : (did : Did) (here next to : Phase) (event is : Event) (past : List Entry) (m : Machine) → event ≡ is → next ≡ to → Steps did here to past m is → Steps did here next past m event
event_is did here next to event is past m event_same next_same known =
    subst (λ (e : Event). Steps did here next past m e) (sym event_same) (subst (λ (q : Phase). Steps did here q past m is) (sym next_same) known)

abbrev More : Did → Phase → List Entry → Machine → Event → Type 0
More did next past m event = Then (did ⊕ event_steps m event) (KnowLinks (did ⊕ event_steps m event) next) past m event

-- and the chip's link does nothing at it
event_still : (did : Did) (here : Phase) → ((more : List Step) → did_at here did more ≡ did ⊕ more) → (next to : Phase) (event is : Event) (past : List Entry) (m : Machine) → event ≡ is → next ≡ to
    → event_steps m is ≡ [] → Then did (KnowLinks did to) past m is → Steps did here next past m event
event_still did here apart next to event is past m event_same next_same none known =
    event_is did here next to event is past m event_same next_same
    (subst (λ (d : Did). Then d (KnowLinks d to) past m is) (sym (apart (event_steps m is))) (then_more (λ d. KnowLinks d to) (event_steps m is) past m is none known))

pub line_none : (m : Machine) → event_steps m (Outside_does Begins_line) ≡ []
unfolding event_steps outer_steps
line_none m = refl

pub tick_none : (m : Machine) → event_steps m (Outside_does Begins_tick) ≡ []
unfolding event_steps outer_steps
tick_none m = refl

host_none : (m : Machine) (event : HostEvent) → event_steps m (Host_does event) ≡ []
unfolding event_steps
host_none m event = refl

takes_none : (m : Machine) (count : ℕ) (rest : Rest) (items : List Item) (events : List HostEvent) → event_steps m (Host_takes count rest items events) ≡ []
unfolding event_steps
takes_none m count rest items events = refl

decoder_none : (m : Machine) → event_steps m Decoder_ticks ≡ []
unfolding event_steps
decoder_none m = refl

outer_is : (m : Machine) (event : OuterEvent) → event_steps m (Outside_does event) ≡ outer_steps m.outside event
unfolding event_steps
outer_is m event = refl

takes_is : (m : Machine) (count : ℕ) (rest : Rest) (ways : List (Item × Option Route)) → event_steps m (Outside_does (Chip_takes count rest ways)) ≡ over link_steps m.outside.outer.chip.state (judged_all ways)
unfolding event_steps outer_steps
takes_is m count rest ways = refl

-- an event outside the host
outer_goes : (did : Did) (next : Phase) (past : List Entry) (m : Machine) (event : OuterEvent)
    → Then (did ⊕ outer_steps m.outside event) (KnowLinks (did ⊕ outer_steps m.outside event) next) past m (Outside_does event) → More did next past m (Outside_does event)
outer_goes did next past m event known = subst (λ (l : List Step). Then (did ⊕ l) (KnowLinks (did ⊕ l) next) past m (Outside_does event)) (sym (outer_is m event)) known

to : (did : Did) (next phase : Phase) (past : List Entry) (m : Machine) → next ≡ phase → KnowLinks did phase past m → KnowLinks did next past m
to did next phase past m is known = subst (λ (q : Phase). KnowLinks did q past m) (sym is) known

-- the effect of a line
begins_effect : {did : Did} (line : Line) (past : List Entry) (m : Machine) (events : List Event) → IsEffect line m events → LinksBegun did line past m → LinksLeft did line events past m
begins_effect (lines.Tick count) past m events is begun = absurd is
begins_effect lines.Restart past m events is begun = inl (is, begun)
begins_effect lines.Collide past m events is begun = inl (is, begun)
begins_effect (lines.Stall ticks) past m events is begun = inl (is, begun)
begins_effect line past m events is begun = inl (effect_plain line m events tt is, begun)

effect_done : {did : Did} (line : Line) (past : List Entry) (m : Machine) → LinksLeft did line [] past m → LinksDone did past m
effect_done lines.Restart past m known = restart_done past m known
effect_done lines.Collide past m known = one_done (Outside_does Collides_next) lines.Collide past m known
effect_done (lines.Stall ticks) past m known = one_done (Outside_does (Stalls ticks)) (lines.Stall ticks) past m known
effect_done (lines.Tick count) past m known = absurd known
effect_done line past m known = plain_done line past m tt known

ticked_once : {did : Did} (past : List Entry) (m : Machine) → InTick did 1 1 past m → Round did HaveTickedOnce past m
ticked_once past m ((up, down, both, ticked), runs) = (up, down, both, (λ tick. ticked.0, λ tick. ticked.1))

-- as the host obeys at each event
module _ (each : (h : HostState) (event : HostEvent) (steps : List Step) → KeepsItsLink steps h → MayHost h event → KeepsItsLink (steps ++ host_link_steps h event) (host_after h event))
    (units : (h : HostState) (event : HostEvent) → h.side.collisions ≡ 0 → host_units (host_outs h event) ≡ link_units (host_link_steps h event))
    (opened_keeps : (keys : Keys) (records : List Record) → KeepsItsLink [] (opened keys records)) where
  effect_goes : (did : Did) (line : Line) (first : Event) (left : List Event) (past : List Entry) (m : Machine) → May m first → IsOrderly m first → Cuts did past → LinksLeft did line (first ∷ left) past m
      → Then (did ⊕ event_steps m first) (LinksLeft (did ⊕ event_steps m first) line left) past m first
  effect_goes did (lines.Tick count) first left past m may orderly cuts known = absurd known
  effect_goes did lines.Restart first left past m may orderly cuts known = restart_goes opened_keeps first left past m may orderly cuts known
  effect_goes did lines.Collide first left past m may orderly cuts known = collide_goes first left past m cuts known
  effect_goes did (lines.Stall ticks) first left past m may orderly cuts known = stall_goes ticks first left past m cuts known
  effect_goes did line first left past m may orderly cuts known = plain_goes each units line first left past m tt may orderly cuts known

  pub event_knows : (did : Did) (here next : Phase) (past : List Entry) (m : Machine) (event : Event) → Goes here m event next → May m event → IsOrderly m event → KnowCuts did here past m → Steps did here next past m event
  event_knows did (Said_line line) next past m event (same, next_is) may orderly (cuts, known) =
      event_still did (Said_line line) (λ more. refl) next (Begun line) event (Outside_does Begins_line) past m same next_is (line_none m) (begins_line line past m cuts known)
  event_knows did (Doing line (first ∷ left)) next past m event (same, next_is) may orderly (cuts, known) =
      event_is did (Doing line (first ∷ left)) next (Doing line left) event first past m same next_is (effect_goes did line first left past m (subst (May m) same may) (subst (IsOrderly m) same orderly) cuts known)
  event_knows did (To_tick (suc ticks)) next past m event (same, next_is) may orderly (cuts, known) =
      event_is did (To_tick (suc ticks)) next (Ticked ticks) event (Outside_does Begins_tick) past m same next_is (begins_tick past m cuts known)
  event_knows did (Arriving (suc frames) ticks) next past m event (drawn, route, same, next_is) may orderly (cuts, known) =
      event_is did (Arriving (suc frames) ticks) next (Arriving frames ticks) event (Outside_does (Arrives drawn route)) past m same next_is
      (outer_goes did (Arriving frames ticks) past m (Arrives drawn route) (arrives past m (Arrives drawn route) tt (subst (May m) same may) (subst (IsOrderly m) same orderly) cuts known))
  event_knows did (Giving (suc results) ticks) next past m event (route, same, next_is) may orderly (cuts, known) =
      event_is did (Giving (suc results) ticks) next (Giving results ticks) event (Outside_does (Gives route)) past m same next_is
      (outer_goes did (Giving results ticks) past m (Gives route) (arrives past m (Gives route) tt (subst (May m) same may) (subst (IsOrderly m) same orderly) cuts known))
  event_knows did (Ticking_devices place (suc count) ticks) next past m event (drawn, route, same, next_is) may orderly (cuts, known) =
      event_is did (Ticking_devices place (suc count) ticks) next (Ticking_devices (place + 1) count ticks) event (Outside_does (Device_ticks place drawn route)) past m same next_is
      (outer_goes did (Ticking_devices (place + 1) count ticks) past m (Device_ticks place drawn route)
      (arrives past m (Device_ticks place drawn route) tt (subst (May m) same may) (subst (IsOrderly m) same orderly) cuts known))
  event_knows did (Ticking_chip ticks) next past m event (same, next_is) may orderly (cuts, known) =
      event_is did (Ticking_chip ticks) next (Ticking_decoder ticks) event (Outside_does Chip_ticks) past m same next_is
      (outer_goes did (Ticking_decoder ticks) past m Chip_ticks (chip_ticks past m (subst (May m) same may) (subst (IsOrderly m) same orderly) cuts known))
  event_knows did (Ticking_decoder ticks) next past m event (same, next_is) may orderly (cuts, known) =
      event_still did (Ticking_decoder ticks) (λ more. refl) next (Ticking_host (tick_events m.host.state) ticks) event Decoder_ticks past m same next_is (decoder_none m)
      (decoder_ticks past m (subst (May m) same may) (subst (IsOrderly m) same orderly) cuts known)
  event_knows did (Ticking_host (first ∷ events) ticks) next past m event (same, next_is) may orderly (cuts, known) =
      event_still did (Ticking_host (first ∷ events) ticks) (λ more. refl) next (Ticking_host events ticks) event (Host_does first) past m same next_is (host_none m first)
      (host_ticks each units past m first events (subst (May m) same may) (subst (IsOrderly m) same orderly) cuts known)
  event_knows did (Sleeping passes ticks) next past m event (node, wants, same, next_is) may orderly (cuts, known) =
      event_still did (Sleeping passes ticks) (λ more. refl) next (Sleeping passes ticks) event _ past m same next_is (host_none m _) (sleeps each units passes past m node wants (subst (May m) same may) (subst (IsOrderly m) same orderly) cuts known)
  event_knows did (Submitting passes ticks) next past m event (asked, is, same, next_is) may orderly (cuts, known) =
      event_still did (Submitting passes ticks) (λ more. refl) next (Submitting passes ticks) event (Host_does asked) past m same next_is (host_none m asked)
      (submits each units passes past m asked is (subst (May m) same may) (subst (IsOrderly m) same orderly) cuts known)
  event_knows did (Moving passes ticks) next past m event (rest, ways, same, next_is) may orderly (cuts, known) =
      event_is did (Moving passes ticks) next (Moved true passes ticks) event _ past m same next_is
      (subst (λ (l : List Step). Then (did ⊕ l) (KnowLinks (did ⊕ l) (Moved true passes ticks)) past m (Outside_does (Chip_takes (length m.outside.outer.to_chip.bytes) rest ways)))
      (sym (takes_is m (length m.outside.outer.to_chip.bytes) rest ways)) (chip_moves passes past m rest ways (subst (May m) same may) (subst (IsOrderly m) same orderly) cuts known))
  event_knows did (Moved has_moved passes ticks) next past m event (rest, items, done, same, next_is) may orderly (cuts, known) =
      event_still did (Moved has_moved passes ticks) (λ more. refl) next (Sleeping passes ticks) event _ past m same next_is (takes_none m _ rest items done)
      (host_moves each units has_moved passes past m rest items done (subst (May m) same may) (subst (IsOrderly m) same orderly) cuts known)
  event_knows did here next past m event goes may orderly known = absurd goes

  pub turn_knows : (did : Did) (here next : Phase) (past : List Entry) (m : Machine) → Turns here m next → KnowLinks did here past m → KnowLinks did next past m
  turn_knows did (Begun line) next past m (inl (events, is, next_is)) known = to did next (Doing line events) past m next_is (begins_effect line past m events is known)
  turn_knows did (Begun line) next past m (inr (ticks, line_is, next_is)) known =
      to did next (To_tick ticks) past m next_is (ticks_begun ticks past m (subst (λ (l : Line). LinksBegun did l past m) line_is known))
  turn_knows did (Doing line []) next past m next_is known = to did next (Sleeping 64 0) past m next_is (settles past m (effect_done line past m known).0)
  turn_knows did (To_tick zero) next past m next_is known = to did next Between past m next_is known
  turn_knows did (Ticked ticks) next past m next_is known = to did next _ past m next_is known
  turn_knows did (Arriving zero ticks) next past m next_is known = to did next _ past m next_is known
  turn_knows did (Giving zero ticks) next past m next_is known = to did next _ past m next_is known
  turn_knows did (Ticking_devices place zero ticks) next past m next_is known = to did next _ past m next_is known
  turn_knows did (Ticking_host [] ticks) next past m next_is known = to did next (Sleeping 64 ticks) past m next_is (settles past m (ticked_once past m known.0))
  turn_knows did (Sleeping passes ticks) next past m (wants, next_is) known = to did next (Submitting passes ticks) past m next_is (known, inr wants)
  turn_knows did (Submitting zero ticks) next past m (pumped, next_is) known = to did next (To_tick ticks) past m next_is (ends past m known.0)
  turn_knows did (Submitting (suc passes) ticks) next past m (pumped, next_is) known = to did next (Moving passes ticks) past m next_is (passes_on passes past m pumped known)
  turn_knows did (Moving passes ticks) next past m (still, next_is) known = to did next (Moved false passes ticks) past m next_is (chip_still passes past m still known)
  turn_knows did (Moved has_moved passes ticks) next past m (still, next_is) known = to did next (Sleeping _ ticks) past m next_is (host_still has_moved passes past m still known)
  turn_knows did here next past m turns known = absurd turns

  pub links_walk : Walk MayCount KnowTime → WalkWhere IsOrderly Anything KnowAll
  links_walk time = record {
    said = λ past m words line read known.
        let one = time.said past m words line read known.0 in
        (tt, (one.1, (said line known.1.0, said_knows past m words line read known.0 known.1.1)));
    event = λ here next past m event goes may orderly known.
        (all_stand past (entries m event), ((time.event here next past m event goes may known.0).1, (did_at here known.1.0 (event_steps m event), event_knows known.1.0 here next past m event goes may orderly known.1.1)));
    turn = λ here next past m turns known. (time.turn here next past m turns known.0, (known.1.0, (known.1.1.0, turn_knows known.1.0 here next past m turns known.1.1.1)));
  }

-- ---- at first

first_keeps : (side : Side) → KeepsSoFar side []
first_keeps Host = record { ever = tt; obeys = (no_steps, tt); writes = tt; hears = tt; ticks = tt; collides = tt }
first_keeps Chip = record { ever = tt; obeys = (no_steps, tt); writes = tt; hears = tt; ticks = tt; collides = tt }

abbrev pub first_now : LinkSide → LinkNow
first_now link = record { is_tick = false; brought = 0; clock = 0; until = 0; life = []; round = []; link = link; coming = []; lost = []; starts = [] }

below_none : (time : ℕ) → false ≡ nat_lt time 0
below_none time = by (nat_lt time 0) refl
  where
    by : (b : Bool) → nat_lt time 0 ≡ b → false ≡ b
    by true is = absurd (let none : time < 0 = ltb-true time 0 is in omega (arith, none))
    by false is = refl

pub first_link : {piped : Bool} (side : Side) (link : LinkSide) → SideObeys [] link → KnowsSide piped side [] (first_now link)
first_link Host link obeys = record {
  parts = [];
  steps = [];
  each = refl;
  keeps = first_keeps Host;
  does = record { obeys = obeys; may = tt; asks = refl };
  mute = tt;
  hears = record { earlier = []; parts = refl; texts = tt; still = λ stalls. refl };
  at = record { is_tick = refl; brought = refl; clock = refl; until = below_none; life = refl; round = refl; lost = refl; starts = refl };
  room = λ in_pipe. tt;
}
first_link Chip link obeys = record {
  parts = [];
  steps = [];
  each = refl;
  keeps = first_keeps Chip;
  does = record { obeys = obeys; may = tt; asks = refl };
  mute = tt;
  hears = record { earlier = []; parts = refl; texts = tt; still = λ stalls. refl };
  at = record { is_tick = refl; brought = refl; clock = refl; until = below_none; life = refl; round = refl; lost = refl; starts = refl };
  room = λ in_pipe. tt;
}

idle_obeys : SideObeys [] (record { turn = Idle; collisions = 0 })
idle_obeys = record { answers = tt; collisions = refl; turns = record { past = []; now = []; parts = refl; are_past = tt; stands = tt } }

abbrev pub nothing_did : Did
nothing_did = record { steps = []; starts = [] }

pub links_first : (keys : Keys) (records : Option (List (List ℕ))) (devices : List State) → KeepsItsLink [] (first_host keys) → KnowCuts nothing_did Between [] (first_machine keys records devices)
unfolding first_outer
links_first keys records devices keeps =
    let m : Machine = first_machine keys records devices in
    let up : LinkNow = first_now (record { turn = Idle; collisions = 0 }) in
    let down : LinkNow = first_now (first_host keys).side in
    let line : AtLine [] m.outside.outer up down =
    record {
      chip = first_link Chip (record { turn = Idle; collisions = 0 }) idle_obeys;
      host = first_link Host (first_host keys).side keeps.obeys;
      link = refl;
      waits = record { busy = refl; few = omega arith };
      way = brings_none m.outside.outer.to_host refl;
      time = refl;
      many = refl;
      clears = refl;
    } in
    let known : KnowsBoth nothing_did false [] m up down =
    record {
      line = line;
      behind = omega arith;
      chip_way = brings_none m.outside.outer.to_chip refl;
      chip_time = record { clock = refl; until = refl };
      host_time = record { clock = refl; until = refl };
      life = refl;
      starts = refl;
      chip_round = refl;
      host_round = refl;
      host_link = refl;
      keeps = keeps;
      frames = first_frames keys records devices;
      rests = first_at_rest keys records devices;
    } in
    (line_cuts [] m.outside.outer up down line, (false, (up, down, known, (first_ends Chip up refl refl, first_ends Host down refl refl))))
  where
    first_ends : (side : Side) (now : LinkNow) → now.coming ≡ [] → now.is_tick ≡ false → MayEndNow side now
    first_ends side now none quiet = record {
      few = λ moves. none_left side now none;
      ticked = λ tick. absurd (let bad : true ≡ false = sym tick ∙ quiet in cc);
    }
      where
        none_left : (side : Side) (now : LinkNow) → now.coming ≡ [] → length now.coming ≤ most_of side now.brought
        none_left side now none = let is : length now.coming ≡ 0 = ap (λ (l : List (List ℕ)). length l) none in omega (arith, is)
