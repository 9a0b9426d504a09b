-- What is known of both links goes on with the effect of a line that neither restarts nor stalls bytes nor asks for a collision.
use Rattle.std.proofs.Common.{◌≡◌, ◌⊎◌, ℕ, Bool, true, false, inl, inr, List, [], ◌∷◌, ◌++◌, refl, sym, ap, ◌∙◌, subst, append-nil, append_assoc}
use Rattle.std.specs.List.{AllByRecursion}
use Rattle.serial_link.specs.Rules.{ticks_of}
use Rattle.serial_pipes.specs.State.{WayState}
use Rattle.chip_sim.specs.Link.{link_units}
use Rattle.chip_sim.specs.Waiting.{PortState}
use Rattle.chip_sim.specs.Rules.{WaitsWell}
use Rattle.serial_link.specs.Rules.{Step}
use Rattle.zw_text.specs.declared.line.Line.{Line}
use Rattle.zw_text.specs.declared.entry.Entry.{Entry}
use Rattle.zw_text.specs.declared.entry.Entry.TheVariants as entry
use Rattle.zw_text.specs.declared.entry.Refusal.{Refusal}
use Rattle.law_wire.specs.law_transcript.Restarts.{is_restart}
use Rattle.proof_world.specs.host_model.State.{HostParts, HostState}
use Rattle.proof_world.specs.host_model.Events.{HostEvent, Accepts, Cancels, Joins as joins_host, Queues, Queues_interview, Queues_probe}
use Rattle.proof_world.specs.host_model.After.{after as host_after}
use Rattle.proof_world.specs.host_model.May.{May as MayHost}
use Rattle.proof_world.specs.host_model.Outs.{outs as host_outs}
use Rattle.proof_walk.specs.outside_model.State.{OuterState, Outcome, tells}
use Rattle.proof_walk.specs.outside_model.Events.{OuterEvent, Discovers, Joins, Stalls, Collides_next, has_entered, outcome, stamp, ticked_entry}
use Rattle.proof_walk.specs.world_model.State.{Machine}
use Rattle.proof_walk.specs.world_model.Events.{Event, Outside_does, Host_does, Host_takes, Decoder_ticks, Refuses, Restarts, Shows_values, shown_values, happens, entries, May}
use Rattle.proof_world.specs.proof_serial.Chip.{HasFrames}
use Rattle.proof_world.specs.proof_serial.Line.{AreAtRest, host_units}
use Rattle.proof_traffic.specs.Links.{KeepsItsLink, host_link_steps}
use Rattle.proof_walk.specs.ByLine.{IsAsked, KnownOf}
use Rattle.proof_walk.proofs.Times.{IsWithin}
use Rattle.proof_line.specs.Pipes.{HearsNothing, IsByHand}
use Rattle.proof_line.specs.Links.{LinkNow, TicksNot, begun_line, cleared_in}
use Rattle.proof_line.specs.Linked.{◌⊕◌, began, said, ArePlain, Cuts, Did, IsBegun, IsHandPlain, IsLater, IsOrderly, IsPlain, KnowsBoth, LinksBefore, LinksBegun, LinksDone}
use Rattle.proof_line.proofs.Piping.{stamp_quiet}
use Rattle.proof_line.proofs.Rooming.{hand_whole, hand_within}
use Rattle.proof_line.proofs.Colliding.{discovers_port}
use Rattle.proof_line.proofs.Numbering.{outer_enters}
use Rattle.proof_line.proofs.ChipTelling.{line_tells}
use Rattle.proof_line.proofs.LinkUntil.{StallsNot}
use Rattle.proof_line.proofs.LinkGiven.{GoesGiven, HandGoes, hand_goes, joins_given, line_beside, line_other}
use Rattle.proof_line.proofs.ChipAccounts.{event_steps, outer_steps}
use Rattle.proof_line.proofs.LinkEnds.{cuts_as}
use Rattle.proof_line.proofs.LinkEvents.{none_more, given_both, goes_both, later_both, no_more, tick_stays}
use Rattle.proof_line.proofs.LinkTicks.{Then, host_does_both, does_tick}
use Rattle.proof_line.proofs.LinkLines.{Says}
use Rattle.proof_line.proofs.LinkBegins.{counts_so, ordinary_said, AreOrdinary, IsOrdinary, alone_said, begins_both, begins_cuts, done_of, ordinary, ordinary_restarts, refused_clears, refused_said, said_clears}
use Rattle.proof_line.proofs.LinkEffects.{plain_first}

-- ---- no step more

pub then_more : {did : Did} (Known : Did → KnownOf) (more : List Step) (past : List Entry) (m : Machine) (event : Event) → more ≡ [] → Then did (Known did) past m event
    → Then (did ⊕ more) (Known (did ⊕ more)) past m event
then_more {did} Known more past m event none then = subst (λ (d : Did). Then d (Known d) past m event) (sym (ap (λ (l : List Step). did ⊕ l) none ∙ none_more did)) then

discovers_none : (m : Machine) → event_steps m (Outside_does Discovers) ≡ []
unfolding event_steps outer_steps
discovers_none m = refl

-- ---- a machine at which a line has begun

-- with other entries, and other links that the chip knows
entered_begun : (first m n : Machine) (told : List Entry) → IsBegun first m → n.outside.outer ≡ has_entered m.outside.outer told → n.host ≡ m.host → IsBegun first n
entered_begun first m n told begun is host = by told is
  where
    by : (told : List Entry) → n.outside.outer ≡ has_entered m.outside.outer told → IsBegun first n
    by [] same = record {
      quiet = ap (λ (o : OuterState). o.in_tick) same ∙ begun.quiet;
      clock = ap (λ (o : OuterState). o.clock) same ∙ begun.clock;
      until = ap (λ (o : OuterState). o.stalled_until) same ∙ begun.until;
      to_chip = ap (λ (o : OuterState). o.to_chip) same ∙ begun.to_chip;
      to_host = ap (λ (o : OuterState). o.to_host) same ∙ begun.to_host;
      port = ap (λ (o : OuterState). o.chip.state.port) same ∙ begun.port;
      decoder = ap (λ (o : OuterState). o.chip.decoder) same ∙ begun.decoder;
      host = host ∙ begun.host;
    }
    by (e ∷ rest) same = record {
      quiet = ap (λ (o : OuterState). o.in_tick) same ∙ begun.quiet;
      clock = ap (λ (o : OuterState). o.clock) same ∙ begun.clock;
      until = ap (λ (o : OuterState). o.stalled_until) same ∙ begun.until;
      to_chip = ap (λ (o : OuterState). o.to_chip) same ∙ begun.to_chip;
      to_host = ap (λ (o : OuterState). o.to_host) same ∙ begun.to_host;
      port = ap (λ (o : OuterState). o.chip.state.port) same ∙ begun.port;
      decoder = ap (λ (o : OuterState). o.chip.decoder) same ∙ begun.decoder;
      host = host ∙ begun.host;
    }

pub begun_whole : {did : Did} (is_tick : Bool) (before : List Entry) (first n : Machine) (up down : LinkNow) → KnowsBoth did is_tick before first up down → IsBegun first n → HasFrames n.outside.outer.chip.state.port × AreAtRest n
begun_whole is_tick before first n up down both begun = (
  subst HasFrames (sym begun.port) both.frames,
  record { host = ap (λ (h : HostParts). h.decoder) begun.host ∙ both.rests.host; chip = begun.decoder ∙ both.rests.chip },
)

-- the line is counted, by these entries from its words on
counted : {did : Did} (line : Line) (past : List Entry) (first n : Machine) (just : LinksBefore did line past first) (tail : List Entry) (words : List Line) → IsBegun first n → said line just.earlier ≡ began just.earlier → AreOrdinary words
    → Says just.before tail words first.outside.outer.clock → cleared_in (just.before ++ tail) ≡ cleared_in just.before
    → Cuts did (just.before ++ tail) × ((up : LinkNow) × (down : LinkNow) × KnowsBoth did false (just.before ++ tail) n up down)
counted {did} line past first n just tail words begun begins_it plain says clears =
    let (up, down, both, may) = just.both in
    let counts = counts_so did just.earlier up up.until (just.counts ∙ begins_it) both.life both.starts in
    let begins = ordinary just.before first just.is_tick up down both may tail words plain says clears in
    let up_later : LinkNow = begun_line up up.until in
    let down_later : LinkNow = begun_line down down.until in (
      cuts_as up_later did (just.before ++ tail) counts.life counts.starts (begins_cuts just.before first just.is_tick up down both may tail up_later down_later begins),
      (
        up_later,
        down_later,
        begins_both just.before first just.is_tick up down both may tail n did up_later down_later counts.life counts.starts begins begun.quiet begun.clock (ap (λ (w : WayState). w.bytes) begun.to_chip)
            (ap (λ (w : WayState). w.bytes) begun.to_host) (both.chip_time.until ∙ sym begun.until) (both.host_time.until ∙ sym begun.until)
            (both.line.link ∙ sym (ap (λ (p : PortState). p.side) begun.port)) (subst WaitsWell (sym begun.port) both.line.waits)
            (both.host_link ∙ sym (ap (λ (h : HostParts). h.state.side) begun.host)) (subst (λ (h : HostParts). KeepsItsLink down.life h.state) (sym begun.host) both.keeps)
            (begun_whole just.is_tick just.before first n up down both begun),
      ),
    )

-- it is not refused
pub ordinary_counted : {did : Did} (line : Line) (past : List Entry) (m : Machine) → IsOrdinary line → LinksBegun did line past m → (up : LinkNow) × (down : LinkNow) × KnowsBoth did false past m up down
ordinary_counted {did} line past m plain (first, just, begun) =
    let got =
    counted line past first m just (entry.Said just.words ∷ []) (line ∷ []) begun (ordinary_said line plain just.earlier) plain (alone_said just.before just.words (line ∷ []) first.outside.outer.clock just.read just.due)
    (said_clears just.before just.words (ap is_restart just.read ∙ ordinary_restarts (line ∷ []) plain)) in
    subst (λ (l : List Entry). (up : LinkNow) × (down : LinkNow) × KnowsBoth did false l m up down) (sym just.is) got.1

-- it is
pub refused_counted : {did : Did} (line : Line) (past : List Entry) (first n : Machine) (refusal : Refusal) (just : LinksBefore did line past first) → IsBegun first n → said line just.earlier ≡ began just.earlier
    → Cuts did (past ++ entry.Refused refusal ∷ []) × LinksDone did (past ++ entry.Refused refusal ∷ []) n
refused_counted {did} line past first n refusal just begun begins_it =
    let tail : List Entry = entry.Said just.words ∷ entry.Refused refusal ∷ [] in
    let is : past ++ entry.Refused refusal ∷ [] ≡ just.before ++ tail =
    ap (λ (l : List Entry). l ++ entry.Refused refusal ∷ []) just.is ∙ append_assoc just.before (entry.Said just.words ∷ []) (entry.Refused refusal ∷ []) in
    let (cuts, (up, down, both)) = counted line past first n just tail [] begun begins_it tt (refused_said just.before just.words refusal first.outside.outer.clock just.due) (refused_clears just.before just.words refusal) in
    subst (λ (l : List Entry). Cuts did l × LinksDone did l n) (sym is) (cuts, done_of (just.before ++ tail) n up down begun.quiet both)

-- ---- events

hand_plain : (event : OuterEvent) → IsHandPlain event → IsByHand event × StallsNot event
hand_plain (Stalls ticks) plain = absurd plain
hand_plain Collides_next plain = absurd plain
hand_plain event plain = (plain, stalls_not event plain)
  where
    stalls_not : (event : OuterEvent) → IsHandPlain event → StallsNot event
    stalls_not (Stalls ticks) plain = absurd plain
    stalls_not event plain = tt

-- something outside, in a line that is counted
outside_goes : {did : Did} (steps : List Step) (past : List Entry) (m : Machine) (event : OuterEvent) (up down : LinkNow) → IsHandPlain event → GoesGiven steps m.outside.outer (outcome m.outside event)
    → May m (Outside_does event) → IsOrderly m (Outside_does event) → Cuts did past → m.outside.outer.in_tick ≡ false → KnowsBoth did false past m up down
    → Then (did ⊕ steps) (LinksDone (did ⊕ steps)) past m (Outside_does event)
outside_goes steps past m event up down plain goes may orderly cuts quiet both =
    let by_hand = hand_plain event plain in
    let within : IsWithin event = hand_within event by_hand.0 in
    let whole = later_both false past m (Outside_does event) up down both may (hand_whole m event by_hand.0) orderly.writes in
    let early : up.is_tick ≡ true → ticks_of up.round ≡ 0 = λ tick. absurd (let none : true ≡ false = sym tick ∙ both.chip_round in cc) in
    let (later, after_it, known, up_grows, down_grows) =
    given_both steps false past m event up down within by_hand.1 both cuts early goes (line_tells m.outside event by_hand.0).to_chip whole in
    (known.0, done_of (past ++ entries m (Outside_does event)) (happens m (Outside_does event)) later after_it (tick_stays m event within ∙ quiet) known.1)

-- it is refused
outside_refused : {did : Did} (line : Line) (past : List Entry) (first m : Machine) (event : OuterEvent) (refusal : Refusal) → outcome m.outside event ≡ tells m.outside.outer (entry.Refused refusal ∷ [])
    → (just : LinksBefore did line past first) → IsBegun first m → said line just.earlier ≡ began just.earlier → Then did (LinksDone did) past m (Outside_does event)
unfolding happens entries
outside_refused {did} line past first m event refusal is just begun begins_it =
    let n : Machine = happens m (Outside_does event) in
    let same : n.outside.outer ≡ has_entered m.outside.outer (entry.Refused refusal ∷ []) = ap (λ (x : Outcome). has_entered x.outer x.entries) is in
    let alone : entries m (Outside_does event) ≡ entry.Refused refusal ∷ [] = ap (λ (x : Outcome). stamp x.outer x.entries) is ∙ stamp_quiet m.outside.outer (entry.Refused refusal ∷ []) begun.quiet in
    subst (λ (l : List Entry). Cuts did (past ++ l) × LinksDone did (past ++ l) n) (sym alone)
    (refused_counted line past first n refusal just (entered_begun first m n (entry.Refused refusal ∷ []) begun same refl) begins_it)

-- it is refused by the world
pub refuses : {did : Did} (line : Line) (past : List Entry) (m : Machine) (refused : Line) (refusal : Refusal) → ((d : Did) → said line d ≡ began d) → LinksBegun did line past m → Then did (LinksDone did) past m (Refuses refused refusal)
unfolding happens entries outcome
refuses {did} line past m refused refusal begins_it (first, just, begun) =
    let n : Machine = happens m (Refuses refused refusal) in
    let alone : entries m (Refuses refused refusal) ≡ entry.Refused refusal ∷ [] = stamp_quiet m.outside.outer (entry.Refused refusal ∷ []) begun.quiet in
    subst (λ (l : List Entry). Cuts did (past ++ l) × LinksDone did (past ++ l) n) (sym alone)
    (refused_counted line past first n refusal just (entered_begun first m n (entry.Refused refusal ∷ []) begun refl refl) (begins_it just.earlier))

-- stored values are shown
shows_goes : {did : Did} (past : List Entry) (m : Machine) (node : ℕ) (up down : LinkNow) → May m (Shows_values node) → IsOrderly m (Shows_values node) → Cuts did past → m.outside.outer.in_tick ≡ false
    → KnowsBoth did false past m up down → Then did (LinksDone did) past m (Shows_values node)
unfolding happens entries outcome
shows_goes {did} past m node up down may orderly cuts quiet both =
    let o : OuterState = m.outside.outer in
    let n : Machine = happens m (Shows_values node) in
    let told : List Entry = shown_values m.host.state node ∷ [] in
    let timed : List Entry = past ++ ticked_entry o in
    let got =
    goes_both false past told m n (stamp o told) up up down down both cuts (no_more did told) both.life (outer_enters o o told refl) refl refl
    (line_other (timed ++ told) o up down n.outside.outer refl refl (line_beside timed o up down told ((tt, refl), tt) both.line)) (record { is_tick = refl; clock = refl; until = refl; starts = refl })
    (record { is_tick = refl; clock = refl; until = refl; starts = refl }) both.chip_way both.host_link both.keeps (later_both false past m (Shows_values node) up down both may tt orderly.writes) in
    (got.0, done_of (past ++ entries m (Shows_values node)) n up down quiet got.1)

asked_alone : (event : HostEvent) → IsAsked event → TicksNot event × HearsNothing event
asked_alone (Accepts order carriage) asked = (tt, tt)
asked_alone (Cancels command) asked = (tt, tt)
asked_alone (joins_host node) asked = (tt, tt)
asked_alone (Queues request) asked = (tt, tt)
asked_alone (Queues_interview node) asked = (tt, tt)
asked_alone Queues_probe asked = (tt, tt)
asked_alone event asked = absurd asked

-- as the host obeys at each event
module _ (each : (h : HostState) (event : HostEvent) (steps : List Step) → KeepsItsLink steps h → MayHost h event → KeepsItsLink (steps ++ host_link_steps h event) (host_after h event))
    (units : (h : HostState) (event : HostEvent) → h.side.collisions ≡ 0 → host_units (host_outs h event) ≡ link_units (host_link_steps h event)) where
  host_goes : {did : Did} (past : List Entry) (m : Machine) (event : HostEvent) (up down : LinkNow) → IsAsked event → May m (Host_does event) → IsOrderly m (Host_does event) → Cuts did past
      → m.outside.outer.in_tick ≡ false → KnowsBoth did false past m up down → Then did (LinksDone did) past m (Host_does event)
  host_goes past m event up down asked may orderly cuts quiet both =
      let alone = asked_alone event asked in
      let once : down.is_tick ≡ true → ticks_of down.round ≡ 1 = λ tick. absurd (let none : true ≡ false = sym tick ∙ both.host_round in cc) in
      let got = host_does_both each units false past m event up down alone.0 alone.1 may orderly both cuts once in
      (got.0, done_of (past ++ entries m (Host_does event)) (happens m (Host_does event)) _ _ (ap (λ (t : Bool × ℕ × ℕ). t.0) (does_tick m event) ∙ quiet) got.1)

  -- the first event that may enter something
  first_goes : {did : Did} (line : Line) (past : List Entry) (m : Machine) (event : Event) → IsOrdinary line → IsPlain event → May m event → IsOrderly m event → Cuts did past → LinksBegun did line past m
      → Then (did ⊕ event_steps m event) (LinksDone (did ⊕ event_steps m event)) past m event
  unfolding event_steps
  first_goes {did} line past m (Outside_does event) ordinary_so plain may orderly cuts begun = by (hand_goes m.outside event plain)
    where
      by : HandGoes (outer_steps m.outside event) m.outside.outer (outcome m.outside event) → Then (did ⊕ outer_steps m.outside event) (LinksDone (did ⊕ outer_steps m.outside event)) past m (Outside_does event)
      by (inl (refusal, is, none)) = then_more (λ l. LinksDone l) (outer_steps m.outside event) past m (Outside_does event) none (outside_refused line past begun.0 m event refusal is begun.1 begun.2 (ordinary_said line ordinary_so begun.1.earlier))
      by (inr goes) =
          let (up, down, both) = ordinary_counted line past m ordinary_so begun in outside_goes (outer_steps m.outside event) past m event up down plain goes may orderly cuts begun.2.quiet both
  first_goes {did} line past m (Host_does event) ordinary_so plain may orderly cuts begun =
      let (up, down, both) = ordinary_counted line past m ordinary_so begun in
      then_more (λ l. LinksDone l) [] past m (Host_does event) refl (host_goes past m event up down plain may orderly cuts begun.2.quiet both)
  first_goes line past m (Host_takes count rest items events) ordinary_so plain may orderly cuts begun = absurd plain
  first_goes line past m Decoder_ticks ordinary_so plain may orderly cuts begun = absurd plain
  first_goes {did} line past m (Refuses refused refusal) ordinary_so plain may orderly cuts begun =
      then_more (λ l. LinksDone l) [] past m (Refuses refused refusal) refl (refuses line past m refused refusal (ordinary_said line ordinary_so) begun)
  first_goes {did} line past m (Shows_values node) ordinary_so plain may orderly cuts begun =
      let (up, down, both) = ordinary_counted line past m ordinary_so begun in
      then_more (λ l. LinksDone l) [] past m (Shows_values node) refl (shows_goes past m node up down may orderly cuts begun.2.quiet both)
  first_goes line past m (Restarts state) ordinary_so plain may orderly cuts begun = absurd plain

  -- the chip learns all links, and nothing is entered
  discovers_goes : {did : Did} (line : Line) (past : List Entry) (m : Machine) → Cuts did past → LinksBegun did line past m → Then did (LinksBegun did line) past m (Outside_does Discovers)
  unfolding happens entries outcome
  discovers_goes {did} line past m cuts (first, just, begun) = (
    subst (Cuts did) (sym (append-nil past)) cuts,
    (
      first,
      record { before = just.before; words = just.words; read = just.read; is = append-nil past ∙ just.is; is_tick = just.is_tick; earlier = just.earlier; counts = just.counts; both = just.both; due = just.due },
      record {
        quiet = begun.quiet;
        clock = begun.clock;
        until = begun.until;
        to_chip = begun.to_chip;
        to_host = begun.to_host;
        port = discovers_port m.outside.outer ∙ begun.port;
        decoder = begun.decoder;
        host = begun.host;
      },
    ),
  )

  -- one that is to come after it
  later_goes : {did : Did} (past : List Entry) (m : Machine) (event : Event) → IsLater event → May m event → IsOrderly m event → Cuts did past → LinksDone did past m
      → Then (did ⊕ event_steps m event) (LinksDone (did ⊕ event_steps m event)) past m event
  unfolding event_steps outer_steps
  later_goes {did} past m (Outside_does (Joins node)) later may orderly cuts ((up, down, both, once), quiet) =
      outside_goes [] past m (Joins node) up down tt (joins_given m.outside node) may orderly cuts quiet (subst (λ (b : Bool). KnowsBoth did b past m up down) quiet both)
  later_goes past m event later may orderly cuts done = absurd later

  -- the next event
  abbrev pub LeftPlain : Did → Line → List Event → List Entry → Machine → Type 0
  LeftPlain did line left past m = (ArePlain left × LinksBegun did line past m) ⊎ (AllByRecursion IsLater left × LinksDone did past m)

  pub plain_goes : {did : Did} (line : Line) (first : Event) (left : List Event) (past : List Entry) (m : Machine) → IsOrdinary line → May m first → IsOrderly m first → Cuts did past
      → LeftPlain did line (first ∷ left) past m → Then (did ⊕ event_steps m first) (LeftPlain (did ⊕ event_steps m first) line left) past m first
  plain_goes {did} line first left past m ordinary_so may orderly cuts (inl (plain, begun)) = by (plain_first first left plain)
    where
      by : ((first ≡ Outside_does Discovers) × ArePlain left) ⊎ (IsPlain first × AllByRecursion IsLater left) → Then (did ⊕ event_steps m first) (LeftPlain (did ⊕ event_steps m first) line left) past m first
      by (inl (is, more)) =
          let got = discovers_goes line past m cuts begun in
          subst (λ (e : Event). Then (did ⊕ event_steps m e) (LeftPlain (did ⊕ event_steps m e) line left) past m e) (sym is)
          (then_more (λ l. LeftPlain l line left) (event_steps m (Outside_does Discovers)) past m (Outside_does Discovers) (discovers_none m) (got.0, inl (more, got.1)))
      by (inr (one, later)) = let got = first_goes line past m first ordinary_so one may orderly cuts begun in (got.0, inr (later, got.1))
  plain_goes line first left past m ordinary_so may orderly cuts (inr (later, done)) = let got = later_goes past m first later.0 may orderly cuts done in (got.0, inr (later.1, got.1))

-- the effect is over
pub plain_done : {did : Did} (line : Line) (past : List Entry) (m : Machine) → IsOrdinary line → (ArePlain [] × LinksBegun did line past m) ⊎ (AllByRecursion IsLater [] × LinksDone did past m)
    → LinksDone did past m
plain_done line past m ordinary_so (inl (plain, begun)) = let (up, down, both) = ordinary_counted line past m ordinary_so begun in done_of past m up down begun.2.quiet both
plain_done line past m ordinary_so (inr (later, done)) = done
