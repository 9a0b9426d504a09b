-- What the host does is steps of the course: of itself, when it takes bytes, when a line asks it, and when it starts again.
use Rattle.std.proofs.Common.{◌≡◌, ◌≤◌, ℕ, Bool, true, false, List, [], ◌∷◌, ◌++◌, length, map, refl, ap, sym, ◌∙◌, subst, append_assoc}
use Rattle.std.specs.Prelude.{Option, Some, None, IsSome}
use Rattle.std.proofs.lemmas.List.{append-nil}
use Rattle.std.proofs.lemmas.List.Concat.{flat_map-append}
use Rattle.s0_crypto.specs.declared.key_pair.Keys.{Keys}
use Rattle.serial_frame.specs.Stream.{Rest}
use Rattle.serial_frame.specs.declared.unit.Unit.{Unit as LineUnit}
use Rattle.serial_frame.specs.declared.item.Item.{Item}
use Rattle.serial_link.specs.State.{Side}
use Rattle.zw_words.specs.declared.side.Side.{Side as LineSide}
use Rattle.zw_words.specs.declared.side.Side.TheVariants as side
use Rattle.zw_text.specs.declared.line.Line.{Line}
use Rattle.zw_text.specs.declared.entry.Entry.TheVariants.{Refused}
use Rattle.zw_text.specs.declared.entry.Refusal.{Refusal}
use Rattle.air_frames.specs.History.{Mark}
use Rattle.proof_traffic.specs.Flights.{Fly}
use Rattle.proof_course.specs.Parts.{IsPart}
use Rattle.host_keep.specs.declared.record.Record.{Record}
use Rattle.host_keep.specs.declared.record.Record.TheVariants as kept
use Rattle.host_requests.specs.State.{RequestsState}
use Rattle.host_requests.specs.declared.under_way.UnderWay.{UnderWay}
use Rattle.proof_serial.specs.host_model.Opening.{restored_all, opened}
use Rattle.proof_serial.specs.host_model.Restoring.{restored, ending}
use Rattle.proof_serial.specs.host_model.State.{HostState, first_host}
use Rattle.proof_serial.specs.host_model.After.{after}
use Rattle.proof_serial.specs.host_model.Outs.{outs}
use Rattle.proof_serial.specs.host_model.Did.{after_all, outs_all}
use Rattle.proof_serial.specs.host_model.Events.{HostEvent, Accepts, Cancels, Joins, Queues, Queues_interview, Queues_probe}
use Rattle.proof_serial.specs.host_model.Taking.{AreJudged}
use Rattle.proof_serial.specs.host_model.declared.out.HostOut.{HostOut}
use Rattle.host_keep.specs.declared.final_status.FinalStatus.{FinalStatus}
use Rattle.proof_device.specs.outside_model.State.{OuterState, Outside}
use Rattle.proof_device.specs.outside_model.Events.{Clears_pipe, outcome, happens as happens_outside}
use Rattle.proof_traffic.specs.Requests.{Word, Traffic, Step, Restarts as starts_anew}
use Rattle.proof_traffic.specs.Requests as course
use Rattle.proof_traffic.specs.Facts.{RequestFacts}
use Rattle.proof_traffic.specs.HostTraffic.{word_on, pending_of, InOrder, words_put, words_out, Knows, Writes, Goes as HostGoes}
use Rattle.proof_traffic.specs.OutsideTraffic.{outward, words_all}
use Rattle.proof_traffic.specs.OutsideTraffic as outer
use Rattle.proof_device.specs.world_model.State.{Machine}
use Rattle.proof_device.specs.world_model.Events.{Event, Outside_does, Host_does, Host_takes, Decoder_ticks, Refuses, Shows_values, Restarts, OpensFrom, shown_values, May, happens}
use Rattle.proof_device.specs.world_model.Did.{happens_all}
use Rattle.proof_device.specs.world_model.Lines.{restart_events}
use Rattle.proof_serial.specs.Chip.{HasFrames}
use Rattle.proof_serial.specs.Way.{items_all}
use Rattle.proof_device.specs.world_model.Settling.{TakesWhole}
use Rattle.proof_serial.specs.Line.{Carried, IsWhole, AreAtRest, LineAfter, Change, Grows, Becomes, up_change, host_writes}
use Rattle.proof_serial.proofs.Events.{event_after, at_rest, rests_after, all_stay}
use Rattle.proof_traffic.specs.OnAir.{on_air, IsFew, EventStaysFew, AlwaysFew}
use Rattle.proof_traffic.specs.Course.{Follows, Goes}
use Rattle.proof_traffic.proofs.Parts.{Airs, Laws}
use Rattle.proof_traffic.proofs.Flights.{hosts_few, follows_on_air}
use Rattle.proof_traffic.proofs.LostUnits.{words_written, words_both, written_part, host_words, part_both, Lost, loses}
use Rattle.proof_traffic.proofs.Calm.{Calm, calm_same, calm_both, calm_entered, does_calm, takes_calm, enters_calm}
use Rattle.proof_traffic.proofs.CourseSteps.{Fair, AllFair, fair_may, fair_well, whole_of, nodes_kept, goes_both}
use Rattle.proof_traffic.proofs.JudgedItems.{may-append as may_both}
use Rattle.proof_traffic.proofs.JudgedItems.{steps-append as steps_both}
use Rattle.proof_traffic.proofs.Outside.{follows_calm, outside_goes}

-- ---- events at which only the host writes

-- nothing but sessions that begin changes of the chip and the air, and these words are written, of which some may be lost
record Went (up : List Item) (words : List Word) (m : Machine) (events : List Event) : Type 0 where
  up_after : List Item
  down_after : List Item
  carried : Carried (happens_all m events) up_after down_after
  frames : HasFrames (happens_all m events).outside.outer.chip.state.port
  rests : AreAtRest (happens_all m events)
  calm : Calm m.outside.outer (happens_all m events).outside.outer
  part : List Word
  up_is : words_all up_after ≡ words_all up ++ part
  is_part : IsPart part words
  few : IsFew m.outside.outer → AlwaysFew m events

few_on : (o p : OuterState) → Calm o p → IsFew o → IsFew p
few_on o p calm few = subst (λ (n : ℕ). n ≤ 2) (ap outward (sym calm.on)) few

went_nowhere : (up down : List Item) (m : Machine) → Carried m up down → HasFrames m.outside.outer.chip.state.port → AreAtRest m → Went up [] m []
went_nowhere up down m carried frames rests = record {
  up_after = up;
  down_after = down;
  carried = carried;
  frames = frames;
  rests = rests;
  calm = calm_same m.outside.outer m.outside.outer refl refl refl refl;
  part = [];
  up_is = sym (append-nil (words_all up));
  is_part = tt;
  few = λ few. few;
}

went_one : (up down : List Item) (m : Machine) (event : Event) → Carried m up down → HasFrames m.outside.outer.chip.state.port → AreAtRest m → Fair m event → TakesWhole m event
    → up_change m event ≡ Grows (host_writes m event) → EventStaysFew m event → Calm m.outside.outer (happens m event).outside.outer → Went up (words_written (host_writes m event)) m (event ∷ [])
went_one up down m event carried frames rests fair takes grows stays calm =
    let whole : IsWhole m = record { up = up; down = down; carried = carried; frames = frames } in
    let line : LineAfter m event up down = event_after m event up down carried frames fair.may (at_rest m event rests) fair.well in
    let put : List Item = items_all m.outside.outer.to_chip (host_writes m event) in
    let grown : line.up_after ≡ up ++ put = subst (λ (c : Change). Becomes c m.outside.outer.to_chip up line.up_after) grows line.up_is in
    record {
      up_after = line.up_after;
      down_after = line.down_after;
      carried = line.carried;
      frames = line.frames;
      rests = rests_after m event whole rests fair.may takes fair.well;
      calm = calm;
      part = words_all put;
      up_is = ap words_all grown ∙ words_both up put;
      is_part = written_part m.outside.outer.to_chip (host_writes m event);
      few = λ few. (few, stays, few_on m.outside.outer (happens m event).outside.outer calm few);
    }

few_then : (m : Machine) (event : Event) (events : List Event) → AlwaysFew m (event ∷ []) → (IsFew (happens m event).outside.outer → AlwaysFew (happens m event) events) → AlwaysFew m (event ∷ events)
few_then m event events first later = (first.0, first.1, later first.2)

went_then : (up : List Item) (a b : List Word) (m : Machine) (event : Event) (events : List Event) (first : Went up a m (event ∷ [])) → Went first.up_after b (happens m event) events → Went up (a ++ b) m (event ∷ events)
went_then up a b m event events first later = record {
  up_after = later.up_after;
  down_after = later.down_after;
  carried = later.carried;
  frames = later.frames;
  rests = later.rests;
  calm = calm_both m.outside.outer (happens m event).outside.outer (happens_all (happens m event) events).outside.outer first.calm later.calm;
  part = first.part ++ later.part;
  up_is = later.up_is ∙ ap (λ (l : List Word). l ++ later.part) first.up_is ∙ append_assoc (words_all up) first.part later.part;
  is_part = part_both first.part a later.part b first.is_part later.is_part;
  few = λ few. few_then m event events (first.few few) later.few;
}

-- ---- the host of the machine

host_after : (m : Machine) (event : HostEvent) → (happens m (Host_does event)).host.state ≡ after m.host.state event
unfolding happens
host_after m event = refl

hosts_after : (m : Machine) (events : List HostEvent) → (happens_all m (map Host_does events)).host.state ≡ after_all m.host.state events
hosts_after m [] = refl
hosts_after m (event ∷ events) = hosts_after (happens m (Host_does event)) events ∙ ap (λ (h : HostState). after_all h events) (host_after m event)

takes_after : (m : Machine) (count : ℕ) (rest : Rest) (items : List Item) (events : List HostEvent) → (happens m (Host_takes count rest items events)).host.state ≡ after_all m.host.state events
unfolding happens
takes_after m count rest items events = refl

one_word : (h : HostState) (event : HostEvent) (events : List HostEvent) → words_out (outs_all h (event ∷ [])) ++ words_out (outs_all (after h event) events) ≡ words_out (outs_all h (event ∷ events))
one_word h event events =
    ap (λ (l : List HostOut). words_out l ++ words_out (outs_all (after h event) events)) (append-nil (outs h event)) ∙ sym (flat_map-append words_put (outs h event) (outs_all (after h event) events))

module _ (air : Airs) where
  -- events of the host, one after another
  went_host : (up down : List Item) (m : Machine) (event : HostEvent) → Carried m up down → HasFrames m.outside.outer.chip.state.port → AreAtRest m → Fair m (Host_does event)
      → Went up (words_out (outs_all m.host.state (event ∷ []))) m (Host_does event ∷ [])
  went_host up down m event carried frames rests fair =
      subst (λ (l : List Word). Went up l m (Host_does event ∷ [])) (host_words (outs_all m.host.state (event ∷ [])))
      (went_one up down m (Host_does event) carried frames rests fair tt refl tt (does_calm air m event))

  went_hosts : (up down : List Item) (m : Machine) (events : List HostEvent) → Carried m up down → HasFrames m.outside.outer.chip.state.port → AreAtRest m → AllFair m (map Host_does events)
      → Went up (words_out (outs_all m.host.state events)) m (map Host_does events)
  went_hosts up down m [] carried frames rests fair = went_nowhere up down m carried frames rests
  went_hosts up down m (event ∷ events) carried frames rests fair =
      let n : Machine = happens m (Host_does event) in
      let first : Went up (words_out (outs_all m.host.state (event ∷ []))) m (Host_does event ∷ []) = went_host up down m event carried frames rests fair.0 in
      let later : Went first.up_after (words_out (outs_all n.host.state events)) n (map Host_does events) = went_hosts first.up_after first.down_after n events first.carried first.frames first.rests fair.1 in
      subst (λ (l : List Word). Went up l m (map Host_does (event ∷ events)))
      (ap (λ (h : HostState). words_out (outs_all m.host.state (event ∷ [])) ++ words_out (outs_all h events)) (host_after m event) ∙ one_word m.host.state event events)
      (went_then up (words_out (outs_all m.host.state (event ∷ []))) (words_out (outs_all n.host.state events)) m (Host_does event) (map Host_does events) first later)

-- ---- a host that starts again

-- its line and its requests are those of another
record IsStill (h g : HostState) : Type 0 where
  side : g.side ≡ h.side
  requests : g.requests ≡ h.requests

ending_still : (h : HostState) (n session : ℕ) (status : FinalStatus) (command : Option ℕ) → IsStill h (ending h n session status command)
ending_still h n session status None = record { side = refl; requests = refl }
ending_still h n session status (Some command) = record { side = refl; requests = refl }

restored_still : (h : HostState) (one : Record) → IsStill h (restored h one)
restored_still h (kept.Final n session status) = ending_still h n session status _
restored_still h _ = record { side = refl; requests = refl }

all_still : (h : HostState) (records : List Record) → IsStill h (restored_all h records)
unfolding restored_all
all_still h [] = record { side = refl; requests = refl }
all_still h (one ∷ more) =
    let first : IsStill h (restored h one) = restored_still h one in
    let later : IsStill (restored h one) (restored_all (restored h one) more) = all_still (restored h one) more in
    record { side = later.side ∙ first.side; requests = later.requests ∙ first.requests }

-- a course that starts anew knows it
opened_knows : (t : Traffic) (keys : Keys) (records : List Record) → Knows (course.after t starts_anew) (opened keys records)
opened_knows t keys records =
    let still : IsStill (first_host keys) (restored_all (first_host keys) records) = all_still (first_host keys) records in
    record {
      link = ap (λ (s : Side). word_on s.turn) (sym still.side);
      pending = ap (λ (r : RequestsState). pending_of r.under_way) (sym still.requests);
      owes = ap (λ (r : RequestsState). r.owes) (sym still.requests);
      order = subst (λ (r : RequestsState). InOrder r.under_way r.owes) (sym still.requests) tt;
    }

opens_knows : (t : Traffic) (keys : Keys) (records : Option (List (List ℕ))) (state : HostState) → OpensFrom keys records state → IsSome records → Knows (course.after t starts_anew) state
opens_knows t keys None state opens some = let bad : false ≡ true = some in absurd cc
opens_knows t keys (Some texts) state (records, are, legal, is) some = subst (λ (h : HostState). Knows (course.after t starts_anew) h) (sym is) (opened_knows t keys records)

-- ---- what a line asks of the host

abbrev pub IsAsked : HostEvent → Type 0
IsAsked (Accepts order carriage) = Unit {0}
IsAsked (Cancels command) = Unit {0}
IsAsked (Joins node) = Unit {0}
IsAsked (Queues task) = Unit {0}
IsAsked (Queues_interview node) = Unit {0}
IsAsked Queues_probe = Unit {0}
IsAsked _ = ⊥

-- the course knows a host with the same line and the same requests under way
known_same : (t : Traffic) (h g : HostState) → g.side ≡ h.side → g.requests.under_way ≡ h.requests.under_way → g.requests.owes ≡ h.requests.owes → Knows t h → Knows t g
known_same t h g side under_way owes knows = record {
  link = knows.link ∙ ap (λ (s : Side). word_on s.turn) (sym side);
  pending = knows.pending ∙ ap pending_of (sym under_way);
  owes = knows.owes ∙ sym owes;
  order = subst (λ (u : Option UnderWay). InOrder u g.requests.owes) (sym under_way) (subst (λ (b : Bool). InOrder h.requests.under_way b) (sym owes) knows.order);
}

-- ---- the course goes with it

module _ (laws : Laws) (t : Traffic) (log : List Mark) (up down : List Item) (m : Machine) (f : Follows t log up down m) where
  -- the course writes the words, and loses those that were lost
  went_goes : (words : List Word) (events : List Event) (steps : List Step) → course.MayAll t steps → Knows (course.after_all t steps) (happens_all m events).host.state
      → Writes t (course.after_all t steps) words → Went up words m events → Goes t log m events
  went_goes words events steps may knows writes went =
      let o : OuterState = m.outside.outer in
      let n : Machine = happens_all m events in
      let p : OuterState = n.outside.outer in
      let u : Traffic = course.after_all t steps in
      let lost : Lost u (words_all up ++ went.part) = loses u (words_all up) went.part words (writes.up ∙ ap (λ (l : List Word). l ++ words) f.up_is) went.is_part in
      let v : Traffic = record u { up = words_all up ++ went.part } in
      let there : course.after_all t (steps ++ lost.steps) ≡ v = steps_both t steps lost.steps ∙ lost.is in
      let all : course.MayAll t (steps ++ lost.steps) = may_both t steps lost.steps may lost.may in
      let facts : RequestFacts v = subst RequestFacts there (laws.keeps t (steps ++ lost.steps) f.facts all) in
      let begun : (more : List Mark) × Fly (log ++ more) (on_air o.air.frames) p.air.frames = went.calm.begins log (on_air o.air.frames) f.outside.fly in
      let before : outer.Follows v log (on_air o.air.frames) o = record {
        knows = record { aborted = writes.aborted ∙ f.outside.knows.aborted; sending = writes.sending ∙ f.outside.knows.sending; calls = writes.calls ∙ f.outside.knows.calls };
        await = f.outside.await;
        fly = f.outside.fly;
        joined = f.outside.joined;
      } in
      let after : outer.Follows v (log ++ begun.0) (on_air o.air.frames) p = follows_calm v log begun.0 (on_air o.air.frames) o p went.calm begun.1 before in
      record {
        steps = steps ++ lost.steps;
        may = all;
        more = begun.0;
        up = went.up_after;
        down = went.down_after;
        follows = subst (λ (x : Traffic). Follows x (log ++ begun.0) went.up_after went.down_after n) (sym there)
            (record {
              host = record { link = knows.link; pending = knows.pending; owes = knows.owes; order = knows.order };
              outside = follows_on_air v (log ++ begun.0) (on_air o.air.frames) p after;
              carried = went.carried;
              frames = went.frames;
              rests = went.rests;
              up_is = sym went.up_is;
              facts = facts;
              nodes = nodes_kept m events f.nodes;
            });
        few = went.few (hosts_few t log (on_air o.air.frames) o f.outside f.facts);
      }

  -- the host does these
  pub host_goes : (events : List HostEvent) → HostGoes t m.host.state events → AllFair m (map Host_does events) → Goes t log m (map Host_does events)
  host_goes events g fair =
      went_goes (words_out (outs_all m.host.state events)) (map Host_does events) g.steps g.may (subst (λ (h : HostState). Knows (course.after_all t g.steps) h) (sym (hosts_after m events)) g.knows) g.writes
      (went_hosts laws.air up down m events f.carried f.frames f.rests fair)

  -- the host takes all bytes that are there, while nothing of its own is on its way
  pub takes_goes : (rest : Rest) (items : List Item) (events : List HostEvent) → up ≡ [] → Fair m (Host_takes (length m.outside.outer.to_host.bytes) rest items events)
      → Goes t log m (Host_takes (length m.outside.outer.to_host.bytes) rest items events ∷ [])
  unfolding May
  takes_goes rest items events none fair =
      let event : Event = Host_takes (length m.outside.outer.to_host.bytes) rest items events in
      let judged : AreJudged m.host.state items events = fair.may.judged in
      let g : HostGoes t m.host.state events = laws.judges t m.host.state items events f.host judged (f.up_is ∙ ap words_all none) in
      went_goes (words_out (outs_all m.host.state events)) (event ∷ []) g.steps g.may (subst (λ (h : HostState). Knows (course.after_all t g.steps) h) (sym (takes_after m (length m.outside.outer.to_host.bytes) rest items events)) g.knows) g.writes
      (subst (λ (l : List Word). Went up l m (event ∷ [])) (host_words (outs_all m.host.state events))
      (went_one up down m event f.carried f.frames f.rests fair refl refl tt (takes_calm laws.air m (length m.outside.outer.to_host.bytes) rest items events)))

  -- ---- events that touch no request

  nothing_written : Writes t t []
  nothing_written = record { up = sym (append-nil t.up); aborted = refl; sending = refl; calls = refl }

  -- what a line asks of the host leaves its own frame and its request under way, and nothing is put out
  asked_goes : (event : HostEvent) → IsAsked event → HostGoes t m.host.state (event ∷ [])
  asked_goes (Accepts order carriage) asked = record { steps = []; may = tt; knows = known_same t m.host.state (after m.host.state (Accepts order carriage)) refl refl refl f.host; writes = nothing_written }
  asked_goes (Cancels command) asked = record { steps = []; may = tt; knows = known_same t m.host.state (after m.host.state (Cancels command)) refl refl refl f.host; writes = nothing_written }
  asked_goes (Joins node) asked = record { steps = []; may = tt; knows = known_same t m.host.state (after m.host.state (Joins node)) refl refl refl f.host; writes = nothing_written }
  asked_goes (Queues task) asked = record { steps = []; may = tt; knows = known_same t m.host.state (after m.host.state (Queues task)) refl refl refl f.host; writes = nothing_written }
  asked_goes (Queues_interview node) asked = record { steps = []; may = tt; knows = known_same t m.host.state (after m.host.state (Queues_interview node)) refl refl refl f.host; writes = nothing_written }
  asked_goes Queues_probe asked = record { steps = []; may = tt; knows = known_same t m.host.state (after m.host.state Queues_probe) refl refl refl f.host; writes = nothing_written }
  asked_goes _ asked = absurd asked

  pub asks_go : (event : HostEvent) → IsAsked event → Fair m (Host_does event) → Goes t log m (Host_does event ∷ [])
  asks_go event asked fair = host_goes (event ∷ []) (asked_goes event asked) (fair, tt)

  -- only an entry, or a tick of what is unfinished
  still_goes : (event : Event) → Fair m event → TakesWhole m event → up_change m event ≡ Grows (host_writes m event) → EventStaysFew m event → Calm m.outside.outer (happens m event).outside.outer
      → host_writes m event ≡ [] → (happens m event).host.state ≡ m.host.state → Goes t log m (event ∷ [])
  still_goes event fair takes grows stays calm none same_host =
      went_goes [] (event ∷ []) [] tt (subst (λ (h : HostState). Knows t h) (sym same_host) f.host) nothing_written
      (subst (λ (units : List LineUnit). Went up (words_written units) m (event ∷ [])) none (went_one up down m event f.carried f.frames f.rests fair takes grows stays calm))

  pub refuses_goes : (line : Line) (refusal : Refusal) → Fair m (Refuses line refusal) → Goes t log m (Refuses line refusal ∷ [])
  unfolding happens
  refuses_goes line refusal fair = still_goes (Refuses line refusal) fair tt refl tt (enters_calm laws.air m (Refused refusal)) refl refl

  pub shows_goes : (node : ℕ) → Fair m (Shows_values node) → Goes t log m (Shows_values node ∷ [])
  unfolding happens
  shows_goes node fair = still_goes (Shows_values node) fair tt refl tt (enters_calm laws.air m (shown_values m.host.state node)) refl refl

  pub decoder_goes : Fair m Decoder_ticks → Goes t log m (Decoder_ticks ∷ [])
  unfolding happens
  decoder_goes fair = still_goes Decoder_ticks fair tt refl tt (calm_same m.outside.outer m.outside.outer refl refl refl refl) refl refl

  -- ---- the host starts again

  clears_calm : (w : Outside) (by : LineSide) → Calm w.outer (happens_outside w (Clears_pipe by)).outer
  unfolding outcome
  clears_calm w side.Host =
      calm_both w.outer (outcome w (Clears_pipe side.Host)).outer (happens_outside w (Clears_pipe side.Host)).outer (calm_same w.outer (outcome w (Clears_pipe side.Host)).outer refl refl refl refl)
      (calm_entered (outcome w (Clears_pipe side.Host)).outer (outcome w (Clears_pipe side.Host)).entries)
  clears_calm w side.Chip =
      calm_both w.outer (outcome w (Clears_pipe side.Chip)).outer (happens_outside w (Clears_pipe side.Chip)).outer (calm_same w.outer (outcome w (Clears_pipe side.Chip)).outer refl refl refl refl)
      (calm_entered (outcome w (Clears_pipe side.Chip)).outer (outcome w (Clears_pipe side.Chip)).entries)

  clears_one : (n : Machine) (by : LineSide) → Calm n.outside.outer (happens n (Outside_does (Clears_pipe by))).outside.outer
  unfolding happens
  clears_one n by = clears_calm n.outside by

  starts_one : (state : HostState) → Calm m.outside.outer (happens m (Restarts state)).outside.outer
  unfolding happens
  starts_one state = calm_same m.outside.outer m.outside.outer refl refl refl refl

  started_host : (state : HostState) → (happens_all m (Restarts state ∷ Outside_does (Clears_pipe side.Host) ∷ [])).host.state ≡ state
  unfolding happens
  started_host state = refl

  opens_from : (state : HostState) → May m (Restarts state) → OpensFrom m.keys m.records state
  unfolding May
  opens_from state may = may

  -- it begins with no request, and what is on its way to the chip is lost
  pub restart_begins : (state : HostState) → AllFair m (Restarts state ∷ Outside_does (Clears_pipe side.Host) ∷ []) → Goes t log m (Restarts state ∷ Outside_does (Clears_pipe side.Host) ∷ [])
  restart_begins state fair =
      let starts : Event = Restarts state in
      let clears : Event = Outside_does (Clears_pipe side.Host) in
      let events : List Event = starts ∷ clears ∷ [] in
      let new : Traffic = course.after t starts_anew in
      let o : OuterState = m.outside.outer in
      let n : Machine = happens m starts in
      let p : OuterState = (happens n clears).outside.outer in
      let one : Calm o n.outside.outer = starts_one state in
      let all : Calm o p = calm_both o n.outside.outer p one (clears_one n side.Host) in
      let begun : (more : List Mark) × Fly (log ++ more) (on_air o.air.frames) p.air.frames = all.begins log (on_air o.air.frames) f.outside.fly in
      let before : outer.Follows new log (on_air o.air.frames) o = record {
        knows = record { aborted = f.outside.knows.aborted; sending = f.outside.knows.sending; calls = f.outside.knows.calls };
        await = f.outside.await;
        fly = f.outside.fly;
        joined = f.outside.joined;
      } in
      let few : IsFew o = hosts_few t log (on_air o.air.frames) o f.outside f.facts in
      let rests : AreAtRest n = rests_after m starts (whole_of t log up down m f) f.rests fair.0.may tt fair.0.well in
      let started : LineAfter m starts up down = event_after m starts up down f.carried f.frames fair.0.may (at_rest m starts f.rests) fair.0.well in
      let cleared : LineAfter n clears started.up_after started.down_after =
      event_after n clears started.up_after started.down_after started.carried started.frames fair.1.0.may (at_rest n clears rests) fair.1.0.well in
      record {
        steps = starts_anew ∷ [];
        may = (tt, tt);
        more = begun.0;
        up = [];
        down = cleared.down_after;
        follows = record {
          host = subst (λ (h : HostState). Knows new h) (sym (started_host state)) (opens_knows t m.keys m.records state (opens_from state fair.0.may) fair.0.asks);
          outside = follows_on_air new (log ++ begun.0) (on_air o.air.frames) p (follows_calm new log begun.0 (on_air o.air.frames) o p all begun.1 before);
          carried = subst (λ (l : List Item). Carried (happens_all m events) l cleared.down_after) cleared.up_is cleared.carried;
          frames = cleared.frames;
          rests = (all_stay m events (whole_of t log up down m f) f.rests (fair_may m events fair) (tt, (tt, tt)) (fair_well m events fair)).rests;
          up_is = refl;
          facts = laws.keeps t (starts_anew ∷ []) f.facts (tt, tt);
          nodes = nodes_kept m events f.nodes;
        };
        few = (few, tt, (few_on o n.outside.outer one few, tt, few_on o p all few));
      }

  -- and then what is on its way to the host
  pub restart_goes : (state : HostState) → AllFair m (restart_events state) → Goes t log m (restart_events state)
  restart_goes state fair =
      let prefix : List Event = Restarts state ∷ Outside_does (Clears_pipe side.Host) ∷ [] in
      let first : Goes t log m prefix = restart_begins state (fair.0, (fair.1.0, tt)) in
      goes_both t log m prefix (Outside_does (Clears_pipe side.Chip) ∷ []) first
      (outside_goes laws (course.after_all t first.steps) (log ++ first.more) first.up first.down (happens_all m prefix) first.follows (Clears_pipe side.Chip) fair.1.1.0 refl tt tt tt)
