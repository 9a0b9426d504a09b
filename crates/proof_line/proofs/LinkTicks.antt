-- What is known of both links in a tick, up to its settling.
use Rattle.std.proofs.Common.{◌≡◌, ℕ, ◌+◌, Bool, true, List, [], ◌∷◌, ◌++◌, map, refl, sym, ap, ap₂, ◌∙◌, subst, append-nil, arith}
use Rattle.std.specs.List.{AllByRecursion}
use Rattle.serial_frame.specs.Stream.{after_tick}
use Rattle.serial_frame.specs.declared.unit.Unit.{Unit as LineUnit}
use Rattle.serial_frame.specs.declared.item.Item.{Item}
use Rattle.serial_link.specs.Rules.{Step, items_of, ticks_of}
use Rattle.serial_link.proofs.Counting.{ticks_of-append}
use Rattle.serial_pipes.specs.State.{WayState}
use Rattle.chip_sim.specs.Link.{chip_units, link_steps, link_units}
use Rattle.chip_sim.specs.State.{ChipState}
use Rattle.chip_sim.specs.Events.{Ticked as chip_ticked, after, outs}
use Rattle.chip_sim.specs.Rules.{WaitsWell, begun_at}
use Rattle.chip_sim.proofs.Histories.{well_all}
use Rattle.zw_words.specs.declared.side.Side.{Side}
use Rattle.zw_words.specs.declared.side.Side.TheVariants.{Host, Chip}
use Rattle.zw_text.specs.declared.entry.Entry.{Entry}
use Rattle.zw_text.specs.declared.entry.Entry.TheVariants as entry
use Rattle.law_wire.specs.Serial.{serial_events}
use Rattle.law_wire.specs.Serial.SerialEvent.{Tick_begins}
use Rattle.law_wire.specs.Serial.{SerialEvent}
use Rattle.proof_world.specs.host_model.State.{HostState}
use Rattle.proof_world.specs.host_model.Events.{HostEvent, Hears, Line_ticks, Node_ticks}
use Rattle.proof_world.specs.host_model.After.{after as host_after}
use Rattle.proof_world.specs.host_model.Did.{after_all}
use Rattle.proof_world.specs.host_model.May.{May as MayHost}
use Rattle.proof_world.specs.host_model.Outs.{outs as host_outs}
use Rattle.proof_world.specs.host_model.Ticking.{tick_events, ticking_nodes, first_ticks}
use Rattle.proof_walk.specs.outside_model.State.{OuterState, Outcome}
use Rattle.proof_walk.specs.outside_model.Chip.{chip_does}
use Rattle.proof_walk.specs.outside_model.Events.{OuterEvent, Begins_tick, Chip_ticks, Stalls, outcome, devices_after, ticked_entry}
use Rattle.proof_walk.specs.world_model.State.{Machine}
use Rattle.proof_walk.specs.world_model.Events.{Event, Outside_does, Host_does, Decoder_ticks, happens, entries, May}
use Rattle.proof_world.specs.proof_serial.Line.{host_units, host_writes}
use Rattle.proof_traffic.specs.Links.{KeepsItsLink, host_link_steps, host_link_steps_all}
use Rattle.proof_walk.specs.ByLine.{KnownOf}
use Rattle.proof_walk.proofs.Times.{does_chip}
use Rattle.proof_line.specs.Pipes.{HearsNothing}
use Rattle.proof_line.specs.Links.{AtLine, Brings, KnowsEvents, KnowsLink, LinkNow, MayEndNow, TakesTexts, TicksNot, begun_tick, gone, with_arriving}
use Rattle.proof_line.specs.Linked.{◌⊕◌, began, Cuts, Did, HaveTicked, InTick, IsOrderly, KnowsBoth, LinksEnded, Round, TicksFirst, host_ticked}
use Rattle.proof_line.proofs.Hosting.{tick_nothing}
use Rattle.proof_line.proofs.Rooming.{arriving_whole, arriving_within}
use Rattle.proof_line.proofs.ChipTelling.{IsArriving, arriving_tells, does_tell, tick_fit}
use Rattle.proof_line.proofs.HostTelling.{HostTells, does_tells, hosts_time}
use Rattle.proof_line.proofs.Tellings.{IsBeside, TellsSome, tells_some}
use Rattle.proof_line.proofs.LinkUntil.{StallsNot}
use Rattle.proof_line.proofs.LinkEnds.{cuts_began}
use Rattle.proof_line.proofs.LinkKnown.{tick_known}
use Rattle.proof_line.proofs.LinkTime.{tick_serials, time_clears, timed_clears}
use Rattle.proof_line.proofs.Serials.{time_serials}
use Rattle.proof_line.proofs.LinkTold.{arriving_all}
use Rattle.proof_line.proofs.ChipAccounts.{outer_steps}
use Rattle.proof_line.proofs.LinkChip.{chip_event_known, does_mute, submits_hear_none, submits_tick_none}
use Rattle.proof_line.proofs.LinkGiven.{arriving_given}
use Rattle.proof_line.proofs.LinkHost.{all_keep, all_quiet, host_known, host_tick_known}
use Rattle.proof_line.proofs.LinkEvents.{chip_writes_both, given_both, host_writes_both, later_both, tick_stays}

-- an event, after which this is known
abbrev pub Then : Did → KnownOf → List Entry → Machine → Event → Type 0
Then did Known past m event = Cuts did (past ++ entries m event) × Known (past ++ entries m event) (happens m event)

-- ---- a tick begins

ticks_on : (side : Side) (timed all : List Entry) (now : LinkNow) → KnowsLink side timed now → MayEndNow side now → serial_events timed ++ Tick_begins ∷ [] ≡ serial_events all
    → KnowsLink side all (begun_tick now)
ticks_on side timed all now knows may serials =
    subst (λ (l : List SerialEvent). KnowsEvents true side l (begun_tick now)) serials (tick_known side (serial_events timed) now knows may)

pub begins_tick : {did : Did} (past : List Entry) (m : Machine) → Cuts did past → LinksEnded did past m → Then (began did) (InTick (began did) 0 0) past m (Outside_does Begins_tick)
unfolding happens entries outcome devices_after
begins_tick {did} past m cuts (is_tick, (up, down, both, may)) =
    let o : OuterState = m.outside.outer in
    let n : Machine = happens m (Outside_does Begins_tick) in
    let timed : List Entry = past ++ ticked_entry o in
    let all : List Entry = past ++ entry.Time (o.clock + 1) ∷ [] in
    let clock : up.clock ≡ o.clock = both.chip_time.clock in
    let behind = both.behind in
    let serials : serial_events timed ++ Tick_begins ∷ [] ≡ serial_events all = tick_serials past o (both.line.time ∙ clock) behind in
    let line : AtLine all n.outside.outer (begun_tick up) (begun_tick down) =
    record {
      chip = ticks_on Chip timed all up both.line.chip may.0 serials;
      host = ticks_on Host timed all down both.line.host may.1 serials;
      link = both.line.link;
      waits = both.line.waits;
      way = both.line.way;
      time = (time_serials past (o.clock + 1)).1 ∙ ap (λ (k : ℕ). k + 1) (sym clock);
      many = both.line.many;
      clears = time_clears past (o.clock + 1) ∙ sym (timed_clears past o) ∙ both.line.clears;
    } in
    let known : KnowsBoth (began did) true past n (begun_tick up) (begun_tick down) =
    record {
      line = line;
      behind = omega (arith, behind);
      chip_way = both.chip_way;
      chip_time = record { clock = ap (λ (k : ℕ). k + 1) clock; until = both.chip_time.until };
      host_time = record { clock = ap (λ (k : ℕ). k + 1) both.host_time.clock; until = both.host_time.until };
      life = both.life;
      starts = ap₂ (λ (l : List (List Step)) (steps : List Step). l ++ steps ∷ []) both.starts both.life;
      chip_round = refl;
      host_round = refl;
      host_link = both.host_link;
      keeps = both.keeps;
      frames = both.frames;
      rests = record { host = both.rests.host; chip = both.rests.chip };
    } in (
      subst (Cuts (began did)) (sym (append-nil past)) (cuts_began did past cuts),
      (subst (λ (l : List Entry). Round (began did) (HaveTicked 0 0) l n) (sym (append-nil past)) (begun_tick up, begun_tick down, known, (refl, refl)), refl),
    )

-- in a round as the machine has it then
pub in_round : {did : Did} (is_tick : Bool) (past : List Entry) (n : Machine) (up down : LinkNow) → n.outside.outer.in_tick ≡ is_tick → KnowsBoth did is_tick past n up down
    → KnowsBoth did n.outside.outer.in_tick past n up down
in_round {did} is_tick past n up down is both = subst (λ (b : Bool). KnowsBoth did b past n up down) (sym is) both

-- ---- before the chip's tick

pub arrives : {did : Did} (past : List Entry) (m : Machine) (event : OuterEvent) → IsArriving event → May m (Outside_does event) → IsOrderly m (Outside_does event) → Cuts did past → InTick did 0 0 past m
    → Then (did ⊕ outer_steps m.outside event) (InTick (did ⊕ outer_steps m.outside event) 0 0) past m (Outside_does event)
arrives past m event arriving may orderly cuts ((up, down, both, ticked), runs) =
    let n : Machine = happens m (Outside_does event) in
    let all : List Entry = past ++ entries m (Outside_does event) in
    let within = arriving_within event arriving in
    let whole = later_both m.outside.outer.in_tick past m (Outside_does event) up down both may (arriving_whole m event arriving) orderly.writes in
    let (later, after_it, known, up_grows, down_grows) =
    given_both (outer_steps m.outside event) m.outside.outer.in_tick past m event up down within (apart event arriving) both cuts (λ tick. ticked.0) (arriving_given m.outside event arriving)
    (arriving_tells m.outside event arriving).to_chip whole in
    let same = tick_stays m event within in (
      known.0,
      (
        (
          later,
          after_it,
          in_round m.outside.outer.in_tick all n later after_it same known.1,
          (up_grows.ticks ∙ ticked.0, ap (λ (l : List Step). ticks_of l) down_grows.round ∙ ticked.1),
        ),
        same ∙ runs,
      ),
    )
  where
    apart : (event : OuterEvent) → IsArriving event → StallsNot event
    apart (Stalls ticks) arriving = absurd arriving
    apart event arriving = tt

-- ---- the chip's tick

pub chip_ticks : {did : Did} (past : List Entry) (m : Machine) → May m (Outside_does Chip_ticks) → IsOrderly m (Outside_does Chip_ticks) → Cuts did past → InTick did 0 0 past m
    → Then (did ⊕ outer_steps m.outside Chip_ticks) (InTick (did ⊕ outer_steps m.outside Chip_ticks) 1 0) past m (Outside_does Chip_ticks)
unfolding outcome outer_steps
chip_ticks past m may orderly cuts ((up, down, both, ticked), runs) =
    let o : OuterState = m.outside.outer in
    let s : ChipState = o.chip.state in
    let p : OuterState = record o { chip = record { decoder = after_tick o.chip.decoder; state = s } } in
    let x : Outcome = chip_does p chip_ticked in
    let n : Machine = happens m (Outside_does Chip_ticks) in
    let timed : List Entry = past ++ ticked_entry o in
    let steps : List Step = link_steps s chip_ticked in
    let units : List LineUnit = chip_units (outs s chip_ticked) in
    let later : LinkNow = gone up steps (after s chip_ticked).port.side up.coming in
    let is : x.outer.chip.state ≡ after s chip_ticked = does_chip p chip_ticked in
    let says = does_tell p chip_ticked in
    let none : items_of steps ≡ [] = submits_hear_none (begun_at s chip_ticked) in
    let chip : KnowsLink Chip (timed ++ x.entries) later =
    chip_event_known p chip_ticked timed up up.coming both.line.chip both.line.link both.line.waits (both.chip_round ∙ runs, ticked.0)
    (subst (λ (l : List Item). TakesTexts l up.coming up.coming) (sym none) refl, λ stalls. none) in
    let whole = later_both o.in_tick past m (Outside_does Chip_ticks) up down both may tt orderly.writes in
    let got =
    chip_writes_both o.in_tick past m Chip_ticks up later down units tt tt both cuts (record { more = steps; is = refl; quiet = does_mute p chip_ticked }) (ap (λ (l : List Step). l ++ steps) both.life) chip (record {
      tells = says.told;
      to_host = says.to_host;
      fit = tick_fit s both.frames;
      way = subst (λ (w : WayState). Brings w up.coming) (sym says.to_chip) both.chip_way;
      link = sym (ap (λ (t : ChipState). t.port.side) is);
      waits = subst (λ (t : ChipState). WaitsWell t.port) (sym is) (well_all s (chip_ticked ∷ []) both.line.waits);
    }) (record { is_tick = refl; clock = refl; until = refl; starts = refl }) refl whole in
    let count : ticks_of (up.round ++ steps) ≡ ticks_of up.round + ticks_of steps = ticks_of-append up.round steps in
    let submits = submits_tick_none (begun_at s chip_ticked) in
    let before = ticked.0 in
    let once : ticks_of (up.round ++ steps) ≡ 1 = omega (arith, count, submits, before) in
    let same = tick_stays m Chip_ticks tt in
    (got.0, ((later, with_arriving down (arriving_all Chip o.to_host units), in_round o.in_tick (past ++ entries m (Outside_does Chip_ticks)) n later _ same got.1, (once, ticked.1)), same ∙ runs))

-- ---- what is unfinished at the host

nodes_apart : (nodes : List ℕ) → AllByRecursion TicksNot (map Node_ticks nodes)
nodes_apart [] = tt
nodes_apart (node ∷ nodes) = (tt, nodes_apart nodes)

-- the host is about to tick
abbrev pub HostTicks : Did → List HostEvent → KnownOf
HostTicks did events past m = InTick did 1 (host_ticked events) past m × AllByRecursion HearsNothing events × TicksFirst events

pub decoder_ticks : {did : Did} (past : List Entry) (m : Machine) → May m Decoder_ticks → IsOrderly m Decoder_ticks → Cuts did past → InTick did 1 0 past m
    → Then did (HostTicks did (tick_events m.host.state)) past m Decoder_ticks
unfolding happens entries
decoder_ticks {did} past m may orderly cuts ((up, down, both, ticked), runs) =
    let n : Machine = happens m Decoder_ticks in
    let whole = later_both m.outside.outer.in_tick past m Decoder_ticks up down both may tt orderly.writes in
    let known : KnowsBoth did m.outside.outer.in_tick past n up down =
    record {
      line = both.line;
      behind = both.behind;
      chip_way = both.chip_way;
      chip_time = both.chip_time;
      host_time = both.host_time;
      life = both.life;
      starts = both.starts;
      chip_round = both.chip_round;
      host_round = both.host_round;
      host_link = both.host_link;
      keeps = both.keeps;
      frames = whole.0;
      rests = whole.1;
    } in (
      subst (Cuts did) (sym (append-nil past)) cuts,
      (
        (subst (λ (l : List Entry). Round did (HaveTicked 1 0) l n) (sym (append-nil past)) (up, down, known, ticked), runs),
        tick_nothing m.host.state,
        (tt, nodes_apart (ticking_nodes (after_all m.host.state first_ticks))),
      ),
    )

-- ---- events of the host

-- whether a tick runs stays
pub does_tick : (m : Machine) (event : HostEvent) → hosts_time (happens m (Host_does event)).outside.outer ≡ hosts_time m.outside.outer
does_tick m event = (does_tells m event).time

none_heard : (h : HostState) (event : HostEvent) → HearsNothing event → items_of (host_link_steps h event) ≡ []
none_heard h (Hears item) nothing = absurd nothing
none_heard h event nothing = refl

-- as the host obeys at each event
module _ (each : (h : HostState) (event : HostEvent) (steps : List Step) → KeepsItsLink steps h → MayHost h event → KeepsItsLink (steps ++ host_link_steps h event) (host_after h event))
    (units : (h : HostState) (event : HostEvent) → h.side.collisions ≡ 0 → host_units (host_outs h event) ≡ link_units (host_link_steps h event)) where
  -- of itself, or where a line asks for it
  pub host_does_both : {did : Did} (is_tick : Bool) (past : List Entry) (m : Machine) (event : HostEvent) (up down : LinkNow) → TicksNot event → HearsNothing event → May m (Host_does event) → IsOrderly m (Host_does event)
      → KnowsBoth did is_tick past m up down → Cuts did past → (down.is_tick ≡ true → ticks_of down.round ≡ 1)
      → Cuts did (past ++ entries m (Host_does event))
      × KnowsBoth did is_tick (past ++ entries m (Host_does event)) (happens m (Host_does event)) (with_arriving up (arriving_all Host m.outside.outer.to_chip (host_writes m (Host_does event))))
      (gone down (host_link_steps_all m.host.state (event ∷ [])) (after_all m.host.state (event ∷ [])).side down.coming)
  unfolding happens May
  host_does_both is_tick past m event up down apart nothing may orderly both cuts once =
      let h : HostState = m.host.state in
      let o : OuterState = m.outside.outer in
      let n : Machine = happens m (Host_does event) in
      let timed : List Entry = past ++ ticked_entry o in
      let steps : List Step = host_link_steps_all h (event ∷ []) in
      let says : HostTells m.outside n.outside (host_writes m (Host_does event)) (entries m (Host_does event)) = does_tells m event in
      let none : items_of steps ≡ [] = ap (λ (l : List Step). items_of l) (append-nil (host_link_steps h event)) ∙ none_heard h event nothing in
      let known : KnowsLink Host (timed ++ says.told) (gone down steps (after_all h (event ∷ [])).side down.coming) =
      host_known each units (event ∷ []) h timed down down.coming says.told both.line.host both.keeps may (apart, tt) once
      (subst (λ (l : List Item). TakesTexts l down.coming down.coming) (sym none) refl, λ stalls. none)
      (tells_some IsBeside Host o.to_chip (host_writes m (Host_does event)) says.told says.tells) in
      host_writes_both is_tick past m n up down (gone down steps (after_all h (event ∷ [])).side down.coming) (host_writes m (Host_does event)) (entries m (Host_does event)) says.told both cuts
      (record { tells = says.tells; enters = says.enters; time = says.time; chip = says.chip; to_chip = says.to_chip; fit = orderly.writes }) known (record { is_tick = refl; clock = refl; until = refl; starts = refl }) refl refl
      (all_keep each units (event ∷ []) h down.life both.keeps may) (subst (λ (w : WayState). Brings w down.coming) (sym says.to_host) both.line.way)
      (later_both is_tick past m (Host_does event) up down both may tt orderly.writes)

  -- its link ticks
  host_ticks_both : {did : Did} (past : List Entry) (m : Machine) → May m (Host_does Line_ticks) → IsOrderly m (Host_does Line_ticks) → Cuts did past → InTick did 1 0 past m
      → Then did (InTick did 1 1) past m (Host_does Line_ticks)
  unfolding happens May
  host_ticks_both past m may orderly cuts ((up, down, both, ticked), runs) =
      let h : HostState = m.host.state in
      let o : OuterState = m.outside.outer in
      let n : Machine = happens m (Host_does Line_ticks) in
      let timed : List Entry = past ++ ticked_entry o in
      let steps : List Step = host_link_steps h Line_ticks in
      let written : List LineUnit = host_writes m (Host_does Line_ticks) in
      let says : HostTells m.outside n.outside written (entries m (Host_does Line_ticks)) = does_tells m Line_ticks in
      let later : LinkNow = gone down steps (host_after h Line_ticks).side down.coming in
      let all : host_units (host_outs h Line_ticks ++ []) ≡ host_units (host_outs h Line_ticks) = ap (λ (l : List _). host_units l) (append-nil (host_outs h Line_ticks)) in
      let known : KnowsLink Host (timed ++ says.told) later =
      host_tick_known each units h timed down says.told both.line.host both.keeps may.0 (both.host_round ∙ runs) ticked.1
      (subst (λ (l : List LineUnit). TellsSome IsBeside Host l says.told) all (tells_some IsBeside Host o.to_chip written says.told says.tells)) in
      let got =
      host_writes_both o.in_tick past m n up down later written (entries m (Host_does Line_ticks)) says.told both cuts
      (record { tells = says.tells; enters = says.enters; time = says.time; chip = says.chip; to_chip = says.to_chip; fit = orderly.writes }) known (record { is_tick = refl; clock = refl; until = refl; starts = refl }) refl refl
      (each h Line_ticks down.life both.keeps may.0) (subst (λ (w : WayState). Brings w down.coming) (sym says.to_host) both.line.way)
      (later_both o.in_tick past m (Host_does Line_ticks) up down both may tt orderly.writes) in
      let count : ticks_of (down.round ++ steps) ≡ ticks_of down.round + ticks_of steps = ticks_of-append down.round steps in
      let before = ticked.1 in
      let once : ticks_of (down.round ++ steps) ≡ 1 = omega (arith, count, before) in
      let same : n.outside.outer.in_tick ≡ o.in_tick = ap (λ (t : Bool × ℕ × ℕ). t.0) says.time in
      (got.0, ((with_arriving up (arriving_all Host o.to_chip written), later, in_round o.in_tick (past ++ entries m (Host_does Line_ticks)) n _ later same got.1, (ticked.0, once)), same ∙ runs))

  -- it does something else
  host_apart : {did : Did} (past : List Entry) (m : Machine) (event : HostEvent) → TicksNot event → HearsNothing event → May m (Host_does event) → IsOrderly m (Host_does event) → Cuts did past
      → InTick did 1 1 past m → Then did (InTick did 1 1) past m (Host_does event)
  host_apart past m event apart nothing may orderly cuts ((up, down, both, ticked), runs) =
      let o : OuterState = m.outside.outer in
      let n : Machine = happens m (Host_does event) in
      let steps : List Step = host_link_steps_all m.host.state (event ∷ []) in
      let got = host_does_both o.in_tick past m event up down apart nothing may orderly both cuts (λ tick. ticked.1) in
      let count : ticks_of (down.round ++ steps) ≡ ticks_of down.round + ticks_of steps = ticks_of-append down.round steps in
      let quiet : ticks_of steps ≡ 0 = all_quiet (event ∷ []) m.host.state (apart, tt) in
      let before = ticked.1 in
      let once : ticks_of (down.round ++ steps) ≡ 1 = omega (arith, count, quiet, before) in
      let same : n.outside.outer.in_tick ≡ o.in_tick = ap (λ (t : Bool × ℕ × ℕ). t.0) (does_tick m event) in
      (got.0, ((_, _, in_round o.in_tick (past ++ entries m (Host_does event)) n _ _ same got.1, (ticked.0, once)), same ∙ runs))

  later_ticked : (events : List HostEvent) → AllByRecursion TicksNot events → (host_ticked events ≡ 1) × TicksFirst events
  later_ticked [] apart = (refl, tt)
  later_ticked (Line_ticks ∷ events) apart = absurd apart.0
  later_ticked (event ∷ events) apart = (refl, apart)

  then_apart : {did : Did} (events : List HostEvent) (past : List Entry) (m : Machine) → AllByRecursion HearsNothing events → AllByRecursion TicksNot events → InTick did 1 1 past m → HostTicks did events past m
  then_apart {did} events past m nothing apart known =
      let is = later_ticked events apart in (subst (λ (n : ℕ). InTick did 1 n past m) (sym is.0) known, nothing, is.1)

  pub host_ticks : {did : Did} (past : List Entry) (m : Machine) (first : HostEvent) (events : List HostEvent) → May m (Host_does first) → IsOrderly m (Host_does first) → Cuts did past
      → HostTicks did (first ∷ events) past m → Then did (HostTicks did events) past m (Host_does first)
  host_ticks past m Line_ticks events may orderly cuts known =
      let got = host_ticks_both past m may orderly cuts known.0 in (got.0, then_apart events _ _ known.1.1 known.2 got.1)
  host_ticks past m first events may orderly cuts known =
      let got = host_apart past m first known.2.0 known.1.0 may orderly cuts known.0 in (got.0, then_apart events _ _ known.1.1 known.2.1 got.1)
