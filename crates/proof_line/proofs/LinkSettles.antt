-- What is known of both links in a settling: pumps, and passes in which bytes move, of which each but the first takes a unit of the round.
use Rattle.std.proofs.Common.{◌≡◌, ◌≤◌, ◌<◌, ℕ, suc, ◌+◌, ◌-◌, ◌⊎◌, nat_lt, if◌then◌else◌, Bool, true, false, inl, inr, List, [], ◌∷◌, ◌++◌, length, take, refl, sym, ap, ap₂, ◌∙◌, subst, length-append, arith}
use Rattle.std.specs.Prelude.{Option, Some}
use Rattle.std.specs.List.{AllByRecursion}
use Rattle.std.proofs.lemmas.Bool.{ltb-true, ltb-false}
use Rattle.serial_frame.specs.Stream.{Rest, Feeds, no_rest}
use Rattle.serial_frame.specs.declared.unit.Unit.{Unit as LineUnit}
use Rattle.serial_frame.specs.declared.item.Item.{Item}
use Rattle.serial_link.specs.Rules.{Step, items_of, ticks_of}
use Rattle.serial_link.proofs.Counting.{ticks_of-append}
use Rattle.serial_pipes.specs.State.{WayState}
use Rattle.serial_pipes.specs.Events.{Takes}
use Rattle.serial_pipes.specs.Events as way
use Rattle.route_table.specs.declared.route.Route.{Route}
use Rattle.chip_sim.specs.Link.{link_units, link_steps}
use Rattle.chip_sim.specs.State.{ChipState}
use Rattle.chip_sim.specs.Did.{judged_all, after_all as chip_after_all}
use Rattle.chip_sim.specs.Rules.{WaitsWell, over}
use Rattle.chip_sim.proofs.Histories.{well_all}
use Rattle.zw_words.specs.declared.side.Side.TheVariants.{Host, Chip}
use Rattle.zw_text.specs.declared.entry.Entry.{Entry}
use Rattle.host_node.specs.Search.{first_wanting}
use Rattle.proof_world.specs.host_model.State.{HostState}
use Rattle.proof_world.specs.host_model.Events.{HostEvent, Drops_no_more, Queues_no_more}
use Rattle.proof_world.specs.host_model.After.{after as host_after, is_full}
use Rattle.proof_world.specs.host_model.Did.{after_all}
use Rattle.proof_world.specs.host_model.May.{May as MayHost}
use Rattle.proof_world.specs.host_model.Outs.{outs as host_outs}
use Rattle.proof_world.specs.host_model.Pumping.{IsNext, IsPumped, no_more_event}
use Rattle.proof_walk.specs.outside_model.State.{OuterState, Outcome, is_stalled}
use Rattle.proof_walk.specs.outside_model.Chip.{MayTake, chip_takes}
use Rattle.proof_walk.specs.outside_model.Events.{OuterEvent, Chip_takes, outcome, ticked_entry, May as MayOutside}
use Rattle.proof_walk.specs.world_model.State.{Machine}
use Rattle.proof_walk.specs.world_model.Events.{Event, Outside_does, Host_does, Host_takes, fed, happens, entries, May}
use Rattle.proof_world.specs.proof_serial.Line.{host_units, host_writes}
use Rattle.proof_traffic.specs.Links.{KeepsItsLink, host_link_steps, host_link_steps_all}
use Rattle.proof_walk.specs.Phases.{IsStill, passes_after}
use Rattle.proof_line.specs.Pipes.{HearsNothing}
use Rattle.proof_line.specs.Arrivals.{AreTexts}
use Rattle.proof_line.specs.Links.{Brings, KnowsLink, LinkNow, MayHear, TicksNot, gone, with_arriving}
use Rattle.proof_line.specs.Linked.{◌⊕◌, Cuts, Did, HaveHeard, HaveMoved, HaveTickedOnce, IsOrderly, IsQuiet, IsTimed, LinksEnded, Passing, Round, Settling, WantsNone}
use Rattle.proof_line.proofs.Filling.{never}
use Rattle.proof_line.proofs.Hosting.{next_apart, next_nothing, no_more_nothing}
use Rattle.proof_line.proofs.Chipping.{drop_whole}
use Rattle.proof_line.proofs.Roomy.{none_carried}
use Rattle.proof_line.proofs.HostTelling.{HostTells, hosts_time, judged_items, judged_ticks, takes_tells}
use Rattle.proof_line.proofs.ChipTelling.{takes_tell}
use Rattle.proof_line.proofs.Tellings.{IsBeside, tells_some}
use Rattle.proof_line.proofs.LinkTold.{arriving_all, brings_none, brings_taken}
use Rattle.proof_line.proofs.LinkChip.{Judges, chip_takes_known, each_state, judged_mute}
use Rattle.proof_line.proofs.LinkHost.{all_keep, all_quiet, host_known}
use Rattle.proof_line.proofs.LinkEvents.{chip_writes_both, host_writes_both, later_both, tick_stays}
use Rattle.proof_line.proofs.LinkTicks.{Then, does_tick, host_does_both, in_round}
use Rattle.proof_line.proofs.LinkWants.{next_refuted, next_wants, no_more_quiet, pumped_quiet}

-- ---- what is on its way

coming_none : (way : WayState) (coming : List (List ℕ)) → Brings way coming → way.bytes ≡ [] → coming ≡ []
coming_none way coming brings none = by brings.items coming (none_carried way brings.items none brings.carries) brings.texts
  where
    by : (items : List Item) (texts : List (List ℕ)) → items ≡ [] → AreTexts items texts → texts ≡ []
    by [] [] is all = refl
    by [] (text ∷ texts) is all = absurd all
    by (item ∷ items) texts is all = absurd cc

coming_some : (way : WayState) (coming : List (List ℕ)) → Brings way coming → (way.bytes ≡ [] → ⊥) → 1 ≤ length coming
coming_some way [] brings some = absurd (some brings.bytes)
coming_some way (text ∷ coming) brings some = omega arith

-- whether bytes are stalled, by time
stalled_same : (o n : OuterState) → hosts_time n ≡ hosts_time o → is_stalled n ≡ is_stalled o
stalled_same o n same = ap (λ (t : Bool × ℕ × ℕ). nat_lt t.1 t.2) same

stalled_now : (o : OuterState) (now : LinkNow) → IsTimed o now → nat_lt now.clock now.until ≡ is_stalled o
stalled_now o now timed = ap₂ (λ (a b : ℕ). nat_lt a b) timed.clock timed.until

-- ---- it begins and ends

-- after all that a line or tick does
pub settles : {did : Did} (past : List Entry) (m : Machine) → Round did HaveTickedOnce past m → Settling did 64 past m
settles past m (up, down, both, once) = (up, down, both, (once, λ few. absurd (let none : 64 < 64 = few in omega (arith, none))))

pub ends : {did : Did} (past : List Entry) (m : Machine) → Settling did 0 past m → LinksEnded did past m
ends past m (up, down, both, (once, heard)) = (
  m.outside.outer.in_tick,
  (
    up,
    down,
    both,
    (
      record { few = λ moves. few_up 0 (heard (omega arith) (sym (stalled_now m.outside.outer up both.chip_time) ∙ moves)).1 refl; ticked = once.0 },
      record { few = λ moves. none_down (heard (omega arith) (sym (stalled_now m.outside.outer down both.host_time) ∙ moves)).0; ticked = once.1 },
    ),
  ),
)
  where
    few_up : (passes : ℕ) → ((63 - passes) + length up.coming ≤ up.brought) ⊎ ((up.coming ≡ []) × (passes ≡ 0) × IsQuiet m.host.state) → passes ≡ 0 → length up.coming ≤ up.brought - 63
    few_up passes (inl few) none_left = omega (arith, few, none_left)
    few_up passes (inr (none, zero_so, quiet)) none_left = let is : length up.coming ≡ 0 = ap (λ (l : List (List ℕ)). length l) none in omega (arith, is)

    none_down : down.coming ≡ [] → length down.coming ≤ 0
    none_down none = let is : length down.coming ≡ 0 = ap (λ (l : List (List ℕ)). length l) none in omega (arith, is)

-- ---- a pass

-- in each pass but the first a unit of the round is taken
took_one : (passes : ℕ) (m : Machine) (up down : LinkNow) → HaveHeard (suc passes) m up down → is_stalled m.outside.outer ≡ false → 1 ≤ length up.coming → 63 - passes ≤ up.brought
took_one passes m up down heard moves some = by (nat_lt (suc passes) 64) refl
  where
    counted : suc passes < 64 → ((63 - suc passes) + length up.coming ≤ up.brought) ⊎ ((up.coming ≡ []) × (suc passes ≡ 0) × IsQuiet m.host.state) → 63 - passes ≤ up.brought
    counted few (inl many) = omega (arith, few, many, some)
    counted few (inr (none, zero_so, quiet)) = omega (arith, zero_so)

    by : (b : Bool) → nat_lt (suc passes) 64 ≡ b → 63 - passes ≤ up.brought
    by true is = let few : suc passes < 64 = ltb-true (suc passes) 64 is in counted few (heard few moves).1
    by false is = let many : 64 ≤ suc passes = ltb-false (suc passes) 64 is in omega (arith, many)

abbrev pub HasMoved : Did → Bool → ℕ → List Entry → Machine → Type 0
HasMoved did has_moved passes past m = Round did (λ up down. HaveTickedOnce up down × HaveMoved has_moved passes m up down) past m

-- the chip takes its bytes
pub chip_moves : {did : Did} (passes : ℕ) (past : List Entry) (m : Machine) (rest : Rest) (ways : List (Item × Option Route)) → May m (Outside_does (Chip_takes (length m.outside.outer.to_chip.bytes) rest ways))
    → IsOrderly m (Outside_does (Chip_takes (length m.outside.outer.to_chip.bytes) rest ways)) → Cuts did past → Passing did passes past m
    → Then (did ⊕ over link_steps m.outside.outer.chip.state (judged_all ways)) (HasMoved (did ⊕ over link_steps m.outside.outer.chip.state (judged_all ways)) true passes) past m
    (Outside_does (Chip_takes (length m.outside.outer.to_chip.bytes) rest ways))
unfolding May MayOutside outcome
chip_moves passes past m rest ways may orderly cuts ((up, down, both, (once, heard)), quiet) =
    let o : OuterState = m.outside.outer in
    let s : ChipState = o.chip.state in
    let event : OuterEvent = Chip_takes (length o.to_chip.bytes) rest ways in
    let x : Outcome = chip_takes o (length o.to_chip.bytes) rest ways in
    let n : Machine = happens m (Outside_does event) in
    let timed : List Entry = past ++ ticked_entry o in
    let may_take : MayTake o (length o.to_chip.bytes) rest ways = may.1 in
    let did_more : List Step = over link_steps s (judged_all ways) in
    let judges : Judges did_more (timed ++ x.entries) up (chip_after_all s (judged_all ways)).port.side [] =
    chip_takes_known o (length o.to_chip.bytes) rest ways timed up both.line.chip both.line.link both.line.waits once.0 both.chip_way (stalled_now o up both.chip_time ∙ may_take.moves) both.rests.chip refl may_take in
    let tells = takes_tell m.outside (length o.to_chip.bytes) rest ways both.frames may_take.judges in
    let later : LinkNow = judges.later in
    let state : x.outer.chip.state ≡ chip_after_all s (judged_all ways) = each_state (judged_all ways) (record o { to_chip = way.after o.to_chip (Takes (length o.to_chip.bytes)); chip = record { decoder = rest; state = s } }) in
    let empty : x.outer.to_chip.bytes ≡ [] = tells.to_chip ∙ drop_whole o.to_chip.bytes in
    let whole = later_both o.in_tick past m (Outside_does event) up down both may refl orderly.writes in
    let got =
    chip_writes_both o.in_tick past m event up later down tells.units tt tt both cuts
    (record { more = did_more; is = refl; quiet = judged_mute ways (record o { to_chip = way.after o.to_chip (Takes (length o.to_chip.bytes)); chip = record { decoder = rest; state = s } }) })
    (judges.life ∙ ap (λ (l : List Step). l ++ did_more) both.life) judges.knows (record {
      tells = tells.told;
      to_host = tells.to_host;
      fit = tells.fit;
      way = subst (λ (l : List (List ℕ)). Brings x.outer.to_chip l) (sym judges.left) (brings_none x.outer.to_chip empty);
      link = judges.link ∙ sym (ap (λ (t : ChipState). t.port.side) state);
      waits = subst (λ (t : ChipState). WaitsWell t.port) (sym state) (well_all s (judged_all ways) both.line.waits);
    }) (record { is_tick = judges.stays.is_tick; clock = judges.stays.clock; until = judges.stays.until; starts = judges.stays.starts }) judges.stays.lost whole in
    let none : length later.coming ≡ 0 = ap (λ (l : List (List ℕ)). length l) judges.left in
    let brought = judges.stays.brought in
    let taken : 63 - passes ≤ up.brought = took_one passes m up down heard may_take.moves (coming_some o.to_chip up.coming both.chip_way orderly.takes) in (
      got.0,
      (
        later,
        with_arriving down (arriving_all Chip o.to_host tells.units),
        in_round o.in_tick (past ++ entries m (Outside_does event)) n later _ (tick_stays m event tt) got.1,
        ((λ tick. judges.stays.ticks ∙ once.0 (sym judges.stays.is_tick ∙ tick), once.1), omega (arith, none, brought, taken)),
      ),
    )

-- none move to it
pub chip_still : {did : Did} (passes : ℕ) (past : List Entry) (m : Machine) → IsStill (is_stalled m.outside.outer) m.outside.outer.to_chip.bytes → Passing did passes past m → HasMoved did false passes past m
chip_still passes past m still ((up, down, both, (once, heard)), quiet) =
    (up, down, both, (once, (quiet, λ moves. (none still moves, λ few. (heard (omega (arith, few)) moves).0))))
  where
    none : IsStill (is_stalled m.outside.outer) m.outside.outer.to_chip.bytes → is_stalled m.outside.outer ≡ false → up.coming ≡ []
    none (inl stalled) moves = never (is_stalled m.outside.outer) moves stalled
    none (inr empty) moves = coming_none m.outside.outer.to_chip up.coming both.chip_way empty

-- none move to the host
host_none : (o : OuterState) (coming : List (List ℕ)) → IsStill (is_stalled o) o.to_host.bytes → Brings o.to_host coming → is_stalled o ≡ false → coming ≡ []
host_none o coming (inl stalled) way moves = never (is_stalled o) moves stalled
host_none o coming (inr empty) way moves = coming_none o.to_host coming way empty

pub host_still : {did : Did} (has_moved : Bool) (passes : ℕ) (past : List Entry) (m : Machine) → IsStill (is_stalled m.outside.outer) m.outside.outer.to_host.bytes → HasMoved did has_moved passes past m
    → Settling did (passes_after has_moved passes) past m
host_still true passes past m still (up, down, both, (once, many)) =
    (up, down, both, (once, λ few moves. (host_none m.outside.outer down.coming still both.line.way moves, inl many)))
host_still false passes past m still (up, down, both, (once, moved)) =
    (up, down, both, (once, λ few moves. (host_none m.outside.outer down.coming still both.line.way moves, inr ((moved.1 moves).0, refl, moved.0))))

-- so many were brought before the host takes its bytes
before_host : (has_moved : Bool) (passes : ℕ) (m : Machine) (up down : LinkNow) → HaveMoved has_moved passes m up down → is_stalled m.outside.outer ≡ false → 1 ≤ length down.coming
    → (63 - passes) + length up.coming ≤ up.brought
before_host true passes m up down many moves some = many
before_host false passes m up down moved moves some = by (nat_lt passes 63) refl
  where
    none : length up.coming ≡ 0
    none = ap (λ (l : List (List ℕ)). length l) (moved.1 moves).0

    by : (b : Bool) → nat_lt passes 63 ≡ b → (63 - passes) + length up.coming ≤ up.brought
    by true is =
        let few : passes < 63 = ltb-true passes 63 is in
        let empty : length down.coming ≡ 0 = ap (λ (l : List (List ℕ)). length l) ((moved.1 moves).1 few) in
        omega (arith, empty, some)
    by false is = let many : 63 ≤ passes = ltb-false passes 63 is in omega (arith, many, none)

-- as the host obeys at each event
module _ (each : (h : HostState) (event : HostEvent) (steps : List Step) → KeepsItsLink steps h → MayHost h event → KeepsItsLink (steps ++ host_link_steps h event) (host_after h event))
    (units : (h : HostState) (event : HostEvent) → h.side.collisions ≡ 0 → host_units (host_outs h event) ≡ link_units (host_link_steps h event)) where
  -- the host takes its bytes
  pub host_moves : {did : Did} (has_moved : Bool) (passes : ℕ) (past : List Entry) (m : Machine) (rest : Rest) (items : List Item) (events : List HostEvent)
      → May m (Host_takes (length m.outside.outer.to_host.bytes) rest items events) → IsOrderly m (Host_takes (length m.outside.outer.to_host.bytes) rest items events) → Cuts did past → HasMoved did has_moved passes past m
      → Then did (Settling did passes) past m (Host_takes (length m.outside.outer.to_host.bytes) rest items events)
  unfolding May happens outcome
  host_moves has_moved passes past m rest items events may orderly cuts (up, down, both, (once, moved)) =
      let h : HostState = m.host.state in
      let o : OuterState = m.outside.outer in
      let event : Event = Host_takes (length o.to_host.bytes) rest items events in
      let n : Machine = happens m event in
      let timed : List Entry = past ++ ticked_entry o in
      let steps : List Step = host_link_steps_all h events in
      let written : List LineUnit = host_writes m event in
      let later : LinkNow = gone down steps (after_all h events).side [] in
      let arriving : List (List ℕ) = arriving_all Host o.to_chip written in
      let says : HostTells (fed m (length o.to_host.bytes) rest).outside n.outside written (entries m event) = takes_tells m (length o.to_host.bytes) rest items events in
      let apart : AllByRecursion TicksNot events = judged_ticks h items events may.judged in
      let hears : items_of steps ≡ items = judged_items h items events may.judged in
      let fed_so : Feeds no_rest (take (length o.to_host.bytes) o.to_host.bytes) rest items =
      subst (λ (r : Rest). Feeds r (take (length o.to_host.bytes) o.to_host.bytes) rest items) both.rests.host may.feeds in
      let may_hear : MayHear down (items_of steps) [] =
      subst (λ (l : List Item). MayHear down l []) (sym hears)
      (brings_taken o.to_host down.coming rest items both.line.way fed_so, λ stalls. never (nat_lt down.clock down.until) (stalled_now o down both.host_time ∙ may.moves) stalls) in
      let known : KnowsLink Host (timed ++ says.told) later =
      host_known each units events h timed down [] says.told both.line.host both.keeps may.may apart once.1 may_hear (tells_some IsBeside Host o.to_chip written says.told says.tells) in
      let empty : n.outside.outer.to_host.bytes ≡ [] = ap (λ (w : WayState). w.bytes) says.to_host ∙ drop_whole o.to_host.bytes in
      let got =
      host_writes_both o.in_tick past m n up down later written (entries m event) says.told both cuts
      (record { tells = says.tells; enters = says.enters; time = says.time; chip = says.chip; to_chip = says.to_chip; fit = orderly.writes }) known (record { is_tick = refl; clock = refl; until = refl; starts = refl }) refl refl
      (all_keep each units events h down.life both.keeps may.may) (brings_none n.outside.outer.to_host empty) (later_both o.in_tick past m event up down both may refl orderly.writes) in
      let count : ticks_of (down.round ++ steps) ≡ ticks_of down.round + ticks_of steps = ticks_of-append down.round steps in
      let quiet : ticks_of steps ≡ 0 = all_quiet events h apart in
      let same : ticks_of (down.round ++ steps) ≡ ticks_of down.round = omega (arith, count, quiet) in
      let many : (63 - passes) + length up.coming ≤ up.brought = before_host has_moved passes m up down moved may.moves (coming_some o.to_host down.coming both.line.way orderly.takes) in
      let long : length (up.coming ++ arriving) ≡ length up.coming + length arriving = length-append up.coming arriving in (
        got.0,
        (
          with_arriving up arriving,
          later,
          in_round o.in_tick (past ++ entries m event) n _ later (ap (λ (t : Bool × ℕ × ℕ). t.0) says.time) got.1,
          ((once.0, λ tick. same ∙ once.1 tick), λ few moves. (refl, inl (omega (arith, many, long)))),
        ),
      )

  -- ---- a pump

  pump_moves : {did : Did} (passes : ℕ) (past : List Entry) (m : Machine) (event : HostEvent) → TicksNot event → HearsNothing event → (IsQuiet m.host.state → (host_writes m (Host_does event) ≡ []) × IsQuiet (happens m (Host_does event)).host.state)
      → May m (Host_does event) → IsOrderly m (Host_does event) → Cuts did past → Settling did passes past m → Then did (Settling did passes) past m (Host_does event)
  pump_moves passes past m event apart nothing quiet may orderly cuts (up, down, both, (once, heard)) =
      let o : OuterState = m.outside.outer in
      let n : Machine = happens m (Host_does event) in
      let steps : List Step = host_link_steps_all m.host.state (event ∷ []) in
      let arriving : List (List ℕ) = arriving_all Host o.to_chip (host_writes m (Host_does event)) in
      let got = host_does_both each units o.in_tick past m event up down apart nothing may orderly both cuts once.1 in
      let count : ticks_of (down.round ++ steps) ≡ ticks_of down.round + ticks_of steps = ticks_of-append down.round steps in
      let none : ticks_of steps ≡ 0 = all_quiet (event ∷ []) m.host.state (apart, tt) in
      let same : ticks_of (down.round ++ steps) ≡ ticks_of down.round = omega (arith, count, none) in
      let time : hosts_time n.outside.outer ≡ hosts_time o = does_tick m event in (
        got.0,
        (
          with_arriving up arriving,
          gone down steps (after_all m.host.state (event ∷ [])).side down.coming,
          in_round o.in_tick (past ++ entries m (Host_does event)) n _ _ (ap (λ (t : Bool × ℕ × ℕ). t.0) time) got.1,
          (
            (once.0, λ tick. same ∙ once.1 tick),
            λ few moves. let old = heard few (sym (stalled_same o n.outside.outer time) ∙ moves) in (old.0, still arriving refl old.1),
          ),
        ),
      )
    where
      still : (arriving : List (List ℕ)) → arriving ≡ arriving_all Host m.outside.outer.to_chip (host_writes m (Host_does event))
          → ((63 - passes) + length up.coming ≤ up.brought) ⊎ ((up.coming ≡ []) × (passes ≡ 0) × IsQuiet m.host.state)
          → ((63 - passes) + length (up.coming ++ arriving) ≤ up.brought + length arriving) ⊎ ((up.coming ++ arriving ≡ []) × (passes ≡ 0) × IsQuiet (happens m (Host_does event)).host.state)
      still arriving is (inl many) =
          let long : length (up.coming ++ arriving) ≡ length up.coming + length arriving = length-append up.coming arriving in
          inl (omega (arith, many, long))
      still arriving is (inr (none, zero_so, was)) =
          let (mute, later) = quiet was in
          inr (ap₂ (λ (a b : List (List ℕ)). a ++ b) none (is ∙ ap (λ (us : List LineUnit). arriving_all Host m.outside.outer.to_chip us) mute), zero_so, later)

  -- it lets a node sleep
  no_more_apart : (h : HostState) (node : ℕ) → TicksNot (no_more_event h node)
  no_more_apart h node = by (is_full h)
    where
      by : (b : Bool) → TicksNot (if b then Drops_no_more node else Queues_no_more node)
      by true = tt
      by false = tt

  pub sleeps : {did : Did} (passes : ℕ) (past : List Entry) (m : Machine) (node : ℕ) → first_wanting m.host.state.nodes ≡ Some node → May m (Host_does (no_more_event m.host.state node))
      → IsOrderly m (Host_does (no_more_event m.host.state node)) → Cuts did past → Settling did passes past m → Then did (Settling did passes) past m (Host_does (no_more_event m.host.state node))
  unfolding happens
  sleeps passes past m node wants may orderly cuts known =
      pump_moves passes past m (no_more_event m.host.state node) (no_more_apart m.host.state node) (no_more_nothing m.host.state node) (no_more_quiet m.host.state node wants) may orderly cuts known

  -- it submits a request
  pub submits : {did : Did} (passes : ℕ) (past : List Entry) (m : Machine) (asked : HostEvent) → IsNext m.host.state asked → May m (Host_does asked) → IsOrderly m (Host_does asked) → Cuts did past
      → Settling did passes past m × WantsNone m.host.state → Then did (λ all n. Settling did passes all n × WantsNone n.host.state) past m (Host_does asked)
  unfolding happens
  submits passes past m asked is may orderly cuts known =
      let got =
      pump_moves passes past m asked (next_apart m.host.state asked is) (next_nothing m.host.state asked is) (λ quiet. next_refuted m.host.state asked is quiet) may orderly cuts known.0 in
      (got.0, (got.1, next_wants m.host.state asked is known.1))

-- and then bytes may move
pub passes_on : {did : Did} (passes : ℕ) (past : List Entry) (m : Machine) → IsPumped m.host.state → Settling did (suc passes) past m × WantsNone m.host.state → Passing did passes past m
passes_on passes past m pumped known = (known.0, pumped_quiet m.host.state pumped known.1)
