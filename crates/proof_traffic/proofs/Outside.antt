-- Events outside the host are steps of the course.
use Rattle.std.proofs.Common.{◌≡◌, ℕ, ◌+◌, Option, List, [], ◌∷◌, ◌++◌, length, map, refl, ap, sym, ◌∙◌, subst, append_assoc, length-append, arith}
use Rattle.std.specs.Prelude.{take}
use Rattle.std.proofs.lemmas.List.{append-nil, map-append}
use Rattle.serial_frame.specs.Stream.{Rest, Feeds}
use Rattle.serial_frame.specs.declared.item.Item.{Item}
use Rattle.route_table.specs.declared.route.Route.{Route}
use Rattle.air_frames.specs.Flown.{Flown}
use Rattle.air_frames.specs.History.{Mark}
use Rattle.proof_traffic.specs.Flights.{Fly}
use Rattle.chip_sim.specs.State.{ChipState}
use Rattle.chip_sim.specs.Events.{Judged}
use Rattle.chip_sim.specs.Did.{judged_all}
use Rattle.proof_serial.specs.host_model.State.{HostState}
use Rattle.proof_device.specs.outside_model.declared.waits.Call.{Call}
use Rattle.proof_device.specs.outside_model.State.{OuterState, each}
use Rattle.proof_device.specs.outside_model.Chip.{chip_does, chip_takes}
use Rattle.proof_device.specs.outside_model.Events.{OuterEvent, Chip_takes, Clears_pipe, Gives, Host_begins, outcome, happens as happens_outside, May as MayOutside}
use Rattle.std.specs.Option.{is_some}
use Rattle.proof_traffic.specs.Requests.{Word, Traffic}
use Rattle.proof_traffic.specs.Requests as course
use Rattle.proof_traffic.specs.Facts.{RequestFacts, flying_in}
use Rattle.proof_traffic.specs.HostTraffic.{Knows}
use Rattle.proof_traffic.specs.OutsideTraffic.{flags, no_routes_due, without_frame, words_all, HostStays, InTurn, Goes as OuterGoes}
use Rattle.proof_traffic.specs.OutsideTraffic as outer
use Rattle.proof_device.specs.world_model.State.{Machine}
use Rattle.proof_device.specs.world_model.Events.{Event, Outside_does, May, happens}
use Rattle.proof_device.specs.world_model.Settling.{OuterTakesAll}
use Rattle.proof_serial.specs.Line.{LineAfter, Change, Grows, Becomes, outer_up}
use Rattle.proof_serial.proofs.EndedItems.{feeds_all}
use Rattle.proof_serial.proofs.Events.{event_after, at_rest, rests_after}
use Rattle.proof_traffic.specs.OnAir.{on_air, IsFew, StaysFew, fed_chip, OuterStaysFew}
use Rattle.proof_traffic.specs.Course.{Follows, Goes}
use Rattle.proof_traffic.proofs.Parts.{Laws}
use Rattle.proof_traffic.proofs.Flights.{hosts_few, follows_on_air}
use Rattle.proof_traffic.proofs.LostUnits.{words_both}
use Rattle.proof_traffic.proofs.Calm.{Calm, calm_entered}
use Rattle.proof_traffic.proofs.CourseSteps.{Fair, whole_of, nodes_kept}

-- ---- words

-- the course knows the host still where only what is outside it moved
host_knows : (t u : Traffic) (h : HostState) → HostStays t u → Knows t h → Knows u h
host_knows t u h stays knows = record { link = stays.link ∙ knows.link; pending = stays.pending ∙ knows.pending; owes = stays.owes ∙ knows.owes; order = knows.order }

-- it follows another outside that is as the one before but for sessions that began
pub follows_calm : (t : Traffic) (log more : List Mark) (flights : List Flown) (o p : OuterState) → Calm o p → Fly (log ++ more) flights p.air.frames → outer.Follows t log flights o → outer.Follows t (log ++ more) flights p
follows_calm t log more flights o p calm fly f = record {
  knows = record {
    aborted = f.knows.aborted ∙ ap (λ (s : ChipState). s.aborted) (sym calm.chip);
    sending = f.knows.sending ∙ ap (λ (s : ChipState). is_some s.sending) (sym calm.chip);
    calls = f.knows.calls ∙ ap flags (sym calm.calls);
  };
  await = record {
    frames = f.await.frames ∙ ap (λ (c : List Call). flying_in (flags c)) (sym calm.calls);
    results = ap no_routes_due calm.due ∙ f.await.results ∙ ap (λ (c : List Call). without_frame (flags c)) (sym calm.calls);
  };
  fly = fly;
  joined = ap (λ (s : ChipState). length s.joined) calm.chip ∙ f.joined;
}

pub may_outside : (m : Machine) (event : OuterEvent) → May m (Outside_does event) → MayOutside m.outside event
unfolding May
may_outside m event may = may.1

-- nothing is after what is all of it
none_following : (all judged left : List Item) → all ≡ judged ++ left → judged ≡ all → left ≡ []
none_following all judged left parts same = by left (short (length all) (length judged) (length left) (ap length parts ∙ length-append judged left) (ap length same))
  where
    short : (a b c : ℕ) → a ≡ b + c → b ≡ a → c ≡ 0
    short a b c x y = omega arith

    by : (items : List Item) → length items ≡ 0 → items ≡ []
    by [] e = refl
    by (item ∷ items) e = absurd (grind (arith, e))

-- ---- an event at which the chip takes nothing, nothing on its way to it is lost, and no result is given

abbrev pub IsFree : OuterEvent → Type 0
IsFree (Chip_takes count rest ways) = ⊥
IsFree (Clears_pipe by) = ⊥
IsFree (Gives route) = ⊥
IsFree (Host_begins node sessions) = ⊥
IsFree event = Unit {0}

free_grows : (event : OuterEvent) → IsFree event → outer_up event ≡ Grows []
free_grows (Chip_takes count rest ways) free = absurd free
free_grows (Clears_pipe by) free = absurd free
free_grows event free = refl

free_takes : (m : Machine) (event : OuterEvent) → IsFree event → OuterTakesAll m event
free_takes m (Chip_takes count rest ways) free = absurd free
free_takes m event free = tt

free_turn : (flights : List Flown) (event : OuterEvent) → IsFree event → InTurn flights event
free_turn flights (Chip_takes count rest ways) free = absurd free
free_turn flights (Gives route) free = absurd free
free_turn flights (Host_begins node sessions) free = absurd free
free_turn flights event free = tt

free_few : (o : OuterState) (event : OuterEvent) → IsFree event → OuterStaysFew o event
free_few o (Chip_takes count rest ways) free = absurd free
free_few o event free = tt

module _ (laws : Laws) (t : Traffic) (log : List Mark) (up down : List Item) (m : Machine) (f : Follows t log up down m) where
  -- ---- an event at which the chip takes nothing

  grown_none : (event : OuterEvent) (later : List Item) → outer_up event ≡ Grows [] → Becomes (outer_up event) m.outside.outer.to_chip up later → words_all up ≡ words_all later
  grown_none event later grows is =
      let same : later ≡ up ++ [] = subst (λ (c : Change). Becomes c m.outside.outer.to_chip up later) grows is in
      ap words_all (sym (same ∙ append-nil up))

  pub outside_goes : (event : OuterEvent) → Fair m (Outside_does event) → outer_up event ≡ Grows [] → OuterTakesAll m event → InTurn (on_air m.outside.outer.air.frames) event → OuterStaysFew m.outside.outer event
      → Goes t log m (Outside_does event ∷ [])
  unfolding happens
  outside_goes event fair grows takes turn few =
      let e : Event = Outside_does event in
      let o : OuterState = m.outside.outer in
      let p : OuterState = (happens_outside m.outside event).outer in
      let line : LineAfter m e up down = event_after m e up down f.carried f.frames fair.may (at_rest m e f.rests) fair.well in
      let g : OuterGoes t log (on_air o.air.frames) p t.up = laws.outer t log (on_air o.air.frames) m.outside event f.outside f.nodes (may_outside m event fair.may) turn in
      let facts : RequestFacts (course.after_all t g.steps) = laws.keeps t g.steps f.facts g.may in
      record {
        steps = g.steps;
        may = g.may;
        more = g.more;
        up = line.up_after;
        down = line.down_after;
        follows = record {
          host = host_knows t (course.after_all t g.steps) m.host.state g.host f.host;
          outside = follows_on_air (course.after_all t g.steps) (log ++ g.more) g.now p g.follows;
          carried = line.carried;
          frames = line.frames;
          rests = rests_after m e (whole_of t log up down m f) f.rests fair.may takes fair.well;
          up_is = g.up_is ∙ f.up_is ∙ grown_none event line.up_after grows line.up_is;
          facts = facts;
          nodes = nodes_kept m (e ∷ []) f.nodes;
        };
        few = (hosts_few t log (on_air o.air.frames) o f.outside f.facts, few, hosts_few (course.after_all t g.steps) (log ++ g.more) g.now p g.follows facts);
      }

  pub free_goes : (event : OuterEvent) → IsFree event → Fair m (Outside_does event) → Goes t log m (Outside_does event ∷ [])
  free_goes event free fair = outside_goes event fair (free_grows event free) (free_takes m event free) (free_turn (on_air m.outside.outer.air.frames) event free) (free_few m.outside.outer event free)

  -- ---- the chip takes all bytes that are there

  module _ (count : ℕ) (rest : Rest) (later : List Word) where
    -- after each item that it judges few are on the air
    judged_one_more : (prefix : List (Item × Option Route)) (way : Item × Option Route) (o : OuterState)
        → (each chip_does o (judged_all (prefix ++ way ∷ []))).outer ≡ (chip_does (each chip_does o (judged_all prefix)).outer (Judged way.0 way.1)).outer
    judged_one_more [] way o = refl
    judged_one_more (first ∷ prefix) way o = judged_one_more prefix way (chip_does o (Judged first.0 first.1)).outer

    items_both : (prefix back : List (Item × Option Route)) → words_all (map (λ w. w.0) (prefix ++ back)) ≡ words_all (map (λ w. w.0) prefix) ++ words_all (map (λ w. w.0) back)
    items_both prefix back = ap words_all (map-append (λ (w : Item × Option Route). w.0) prefix back) ∙ words_both (map (λ w. w.0) prefix) (map (λ w. w.0) back)

    prefix_few : (prefix back : List (Item × Option Route)) → t.up ≡ words_all (map (λ w. w.0) (prefix ++ back)) ++ later → IsFew (chip_takes m.outside.outer count rest prefix).outer
    prefix_few prefix back is =
        let g : OuterGoes t log (on_air m.outside.outer.air.frames) (chip_takes m.outside.outer count rest prefix).outer (words_all (map (λ w. w.0) back) ++ later) =
        laws.takes t log (on_air m.outside.outer.air.frames) m.outside.outer count rest prefix (words_all (map (λ w. w.0) back) ++ later) f.outside
        (is ∙ ap (λ (l : List Word). l ++ later) (items_both prefix back) ∙ append_assoc (words_all (map (λ w. w.0) prefix)) (words_all (map (λ w. w.0) back)) later) in
        hosts_few (course.after_all t g.steps) (log ++ g.more) g.now (chip_takes m.outside.outer count rest prefix).outer g.follows (laws.keeps t g.steps f.facts g.may)

    takes_few : (prefix back : List (Item × Option Route)) → t.up ≡ words_all (map (λ w. w.0) (prefix ++ back)) ++ later → StaysFew (chip_takes m.outside.outer count rest prefix).outer back
    takes_few prefix [] is = tt
    takes_few prefix (way ∷ back) is =
        let longer : List (Item × Option Route) = prefix ++ way ∷ [] in
        let there : t.up ≡ words_all (map (λ w. w.0) (longer ++ back)) ++ later = is ∙ ap (λ (l : List (Item × Option Route)). words_all (map (λ w. w.0) l) ++ later) (sym (append_assoc prefix (way ∷ []) back)) in
        let same : (chip_takes m.outside.outer count rest longer).outer ≡ (chip_does (chip_takes m.outside.outer count rest prefix).outer (Judged way.0 way.1)).outer =
        judged_one_more prefix way (fed_chip m.outside.outer count rest) in (
          subst IsFew same (prefix_few longer back there),
          subst (λ (o : OuterState). StaysFew o back) same (takes_few longer back there),
        )

  -- all of them: nothing is on its way then
  pub record TakesAll (events : List Event) : Type 0 where
    pub goes : Goes t log m events
    pub none : goes.up ≡ []

  pub chip_goes : (rest : Rest) (ways : List (Item × Option Route)) → Fair m (Outside_does (Chip_takes (length m.outside.outer.to_chip.bytes) rest ways))
      → TakesAll (Outside_does (Chip_takes (length m.outside.outer.to_chip.bytes) rest ways) ∷ [])
  unfolding happens outcome MayOutside
  chip_goes rest ways fair =
      let count : ℕ = length m.outside.outer.to_chip.bytes in
      let event : OuterEvent = Chip_takes count rest ways in
      let e : Event = Outside_does event in
      let o : OuterState = m.outside.outer in
      let taken : OuterState = (chip_takes o count rest ways).outer in
      let p : OuterState = (happens_outside m.outside event).outer in
      let line : LineAfter m e up down = event_after m e up down f.carried f.frames fair.may (at_rest m e f.rests) fair.well in
      let fed : Feeds o.chip.decoder (take count o.to_chip.bytes) rest (map (λ w. w.0) ways) = (may_outside m event fair.may).feeds in
      let none : line.up_after ≡ [] = none_following up (map (λ w. w.0) ways) line.up_after line.up_is (feeds_all o.chip.decoder rest o.to_chip.bytes up (map (λ w. w.0) ways) fed f.carried.to_chip).all in
      let words : t.up ≡ words_all (map (λ w. w.0) ways) ++ words_all line.up_after = f.up_is ∙ ap words_all line.up_is ∙ words_both (map (λ w. w.0) ways) line.up_after in
      let g : OuterGoes t log (on_air o.air.frames) taken (words_all line.up_after) = laws.takes t log (on_air o.air.frames) o count rest ways (words_all line.up_after) f.outside words in
      let entered : Calm taken p = calm_entered taken (outcome m.outside event).entries in
      let facts : RequestFacts (course.after_all t g.steps) = laws.keeps t g.steps f.facts g.may in
      let after : outer.Follows (course.after_all t g.steps) ((log ++ g.more) ++ (entered.begins (log ++ g.more) g.now g.follows.fly).0) g.now p =
      follows_calm (course.after_all t g.steps) (log ++ g.more) (entered.begins (log ++ g.more) g.now g.follows.fly).0 g.now taken p entered (entered.begins (log ++ g.more) g.now g.follows.fly).1 g.follows in
      let more : List Mark = g.more ++ (entered.begins (log ++ g.more) g.now g.follows.fly).0 in
      let outside : outer.Follows (course.after_all t g.steps) (log ++ more) g.now p =
      subst (λ (l : List Mark). outer.Follows (course.after_all t g.steps) l g.now p) (append_assoc log g.more (entered.begins (log ++ g.more) g.now g.follows.fly).0) after in
      record {
        goes = record {
          steps = g.steps;
          may = g.may;
          more = more;
          up = line.up_after;
          down = line.down_after;
          follows = record {
            host = host_knows t (course.after_all t g.steps) m.host.state g.host f.host;
            outside = follows_on_air (course.after_all t g.steps) (log ++ more) g.now p outside;
            carried = line.carried;
            frames = line.frames;
            rests = rests_after m e (whole_of t log up down m f) f.rests fair.may refl fair.well;
            up_is = g.up_is;
            facts = facts;
            nodes = nodes_kept m (e ∷ []) f.nodes;
          };
          few = (
            hosts_few t log (on_air o.air.frames) o f.outside f.facts,
            takes_few count rest (words_all line.up_after) [] ways words,
            hosts_few (course.after_all t g.steps) (log ++ more) g.now p outside facts,
          );
        };
        none = none;
      }
