-- The reading of the simulator's machine goes on through the effect of each line.
use Rattle.std.proofs.Common.{◌≡◌, ℕ, Bool, true, false, inl, inr, List, [], ◌∷◌, ◌++◌, length, map, refl, sym, ap, ◌∙◌, subst, append-nil}
use Rattle.std.specs.Prelude.{Option, Some, None, slice_get}
use Rattle.std.specs.List.{AllByRecursion}
use Rattle.zw_base.proofs.Each.{all-weaker}
use Rattle.zw_base.specs.declared.property.Setting.{Setting}
use Rattle.serial_frame.specs.declared.unit.Unit.{Unit as LineUnit}
use Rattle.route_table.specs.declared.route.Route.{Route}
use Rattle.zw_words.specs.declared.side.Side.{Side}
use Rattle.zw_words.specs.declared.side.Side.TheVariants.{Host, Chip}
use Rattle.zw_text.specs.declared.line.Line.{Line}
use Rattle.zw_text.specs.declared.line.Line.TheVariants as lines
use Rattle.zw_text.specs.declared.entry.Refusal.{Refusal}
use Rattle.zw_text.specs.declared.entry.Refusal.TheVariants as refusal
use Rattle.zw_text.specs.declared.entry.Entry.{Entry}
use Rattle.zw_text.specs.declared.entry.Entry.TheVariants as entry
use Rattle.law_host.specs.law_transcript.Restarts.{ticks_of}
use Rattle.law_host.specs.Heard.{is_of_others}
use Rattle.air_frames.specs.Ages.{refusal_of}
use Rattle.air_frames.specs.declared.ages.Refusal.{Refusal as RepeatRefusal}
use Rattle.air_frames.specs.declared.ages.Refusal.TheVariants.{NeverSent, Forgotten, Stale}
use Rattle.law_host.specs.device_sim.State.{State}
use Rattle.law_host.specs.device_sim.Event.{DeviceEvent, Sets, Wakes}
use Rattle.law_host.specs.device_stack.Showing.{shown_of}
use Rattle.proof_line.specs.mesh_sim.Fates.{place_of}
use Rattle.proof_line.specs.mesh_sim.Steps as mesh
use Rattle.s0_crypto.specs.declared.key_pair.Keys.{Keys}
use Rattle.host_orders.specs.declared.refused.Refused.{Refused}
use Rattle.host_orders.specs.Errands.{get_refusal, get_text, send_refusal, send_text}
use Rattle.host_orders.specs.Refusals.{classes_of}
use Rattle.host_requests.specs.declared.task.Task.TheVariants as task
use Rattle.proof_line.specs.host_model.State.{HostState, node_of}
use Rattle.proof_line.specs.host_model.Events.{HostEvent, Accepts, Cancels, Joins as joins_host, Queues, Queues_interview, Queues_probe}
use Rattle.proof_line.specs.host_model.After.{after}
use Rattle.proof_line.specs.host_model.Asking.{carriage_for, interview_refusal, places_refusal}
use Rattle.proof_line.specs.host_model.Did.{MayAll}
use Rattle.proof_line.specs.host_model.May.{known_of}
use Rattle.proof_line.specs.host_model.Outs.{answers}
use Rattle.proof_line.specs.outside_model.State.{OuterState, Outside, Outcome, tells}
use Rattle.proof_line.specs.outside_model.Devices.{acts_at, acts_by_hand, shown_entries}
use Rattle.proof_line.specs.outside_model.Events.{OuterEvent, Clears_pipe, Collides_next, Cuts, Discovers, Joins, Links, Loses, Loses_acks, Marks_change, Marks_loss, Repeats, Sets_device, Shows, Stalls, Wakes_device, MayRepeat, cleared_entries, devices_after, has_entered, outcome, repeats, stamp, IsCleared}
use Rattle.proof_line.specs.outside_model.Events.{May as MayOutside}
use Rattle.proof_line.specs.outside_model.Events as outer
use Rattle.proof_line.specs.outside_model.Results.{device_at}
use Rattle.proof_line.specs.world_model.State.{Machine}
use Rattle.proof_line.specs.world_model.Refusals.{IsRefused}
use Rattle.proof_line.specs.world_model.Events.{Event, Host_does, Outside_does, Refuses, Restarts, Shows_values, May, entries, happens, shown_values}
use Rattle.proof_line.specs.world_model.Lines.{Asks, IsDone, IsEffect, restart_events}
use Rattle.proof_line.proofs.Entered.{all_cleared}
use Rattle.proof_line.specs.proof_serial.Line.{LineAfter}
use Rattle.proof_line.specs.proof_serial.Units.{good_units}
use Rattle.proof_line.proofs.Events.{event_after}
use Rattle.proof_line.specs.proof_walk.ByLine.{IsAsked}
use Rattle.proof_line.proofs.Times.{IsWithin, time_of}
use Rattle.proof_line.specs.Marks.{LeftMarks, Marked}
use Rattle.proof_alone.specs.State.{HostMachine, host_machine, with_world}
use Rattle.proof_alone.specs.Steps.{AreFrames, AsksNothing, IsOfOthers, IsAskedBy}
use Rattle.proof_alone.specs.Steps as step
use Rattle.proof_alone.specs.Phases.{Asked, Open}
use Rattle.proof_alone.specs.Reading.{EffectReads, IsByHand, IsFine, IsSilent, LeavesHost, Reads, ReadsCleared, read_of}
use Rattle.proof_alone.specs.Reading.EffectReads.{Asks_host, Refuses_line, Shows_node, Starts_again, Does_silently, Does_by_hand, Begins_discovery, Goes_on_asking, Clears_both, Clears_one, Is_done}
use Rattle.proof_alone.specs.Careful.{CarefulRun, Fresh}
use Rattle.proof_alone.proofs.Carefully.{careful_leads, stepped, turned}
use Rattle.proof_alone.proofs.Coming.{AllChange, any_told, asides_run, at_time, stamp_run}
use Rattle.proof_alone.proofs.Hosting.{kept}
use Rattle.proof_alone.proofs.InOrder.{is_asked}
use Rattle.proof_alone.proofs.Others.{acts_aside, repeats_told}
use Rattle.proof_alone.proofs.Reading.{may_one, quiet_reads, same_way, told_reads}
use Rattle.proof_alone.proofs.Stamps.{Time3}

-- ---- lists of events

pub head_is : (first e : Event) (left rest : List Event) → first ∷ left ≡ e ∷ rest → first ≡ e
head_is first e left rest is = cc

pub tail_is : (first e : Event) (left rest : List Event) → first ∷ left ≡ e ∷ rest → left ≡ rest
tail_is first e left rest is = cc

-- ---- lines of others

pub others_ask_nothing : (line : Line) → is_of_others (line ∷ []) ≡ true → AsksNothing line
others_ask_nothing (lines.Repeat frame) is = tt
others_ask_nothing (lines.Wake node) is = tt
others_ask_nothing (lines.Local node value) is = tt
others_ask_nothing (lines.Show node) is = tt
others_ask_nothing line is = absurd (let bad : false ≡ true = is in cc)

pub marked_of : (line : Line) (left : List Event) (past : List Entry) (m : Machine) → is_of_others (line ∷ []) ≡ true → LeftMarks line left past m → Marked past m
marked_of (lines.Repeat frame) left past m is known = known.1
marked_of (lines.Wake node) left past m is known = known.1
marked_of (lines.Local node value) left past m is known = known.1
marked_of (lines.Show node) left past m is known = known.1
marked_of line left past m is known = absurd (let bad : false ≡ true = is in cc)

-- ---- events at which nothing is entered and written

silent_within : (event : OuterEvent) → IsSilent event → IsWithin event
silent_within outer.Begins_line silent = absurd silent
silent_within outer.Begins_tick silent = absurd silent
silent_within event silent = tt

silent_entries : (w : Outside) (event : OuterEvent) → IsSilent event → AllByRecursion IsOfOthers (outcome w event).entries
unfolding outcome
silent_entries w (Joins node) silent = tt
silent_entries w Discovers silent = tt
silent_entries w (Links a b live) silent = tt
silent_entries w (Loses count) silent = tt
silent_entries w (Loses_acks count) silent = tt
silent_entries w (Marks_loss side) silent = tt
silent_entries w (Marks_change side garble) silent = tt
silent_entries w Collides_next silent = tt
silent_entries w (Stalls ticks) silent = tt
silent_entries w (Cuts size) silent = tt
silent_entries w event silent = absurd silent

silent_bytes : (w : Outside) (event : OuterEvent) → IsSilent event → (outcome w event).outer.to_host.bytes ≡ w.outer.to_host.bytes
unfolding outcome
silent_bytes w (Joins node) silent = refl
silent_bytes w Discovers silent = refl
silent_bytes w (Links a b live) silent = refl
silent_bytes w (Loses count) silent = refl
silent_bytes w (Loses_acks count) silent = refl
silent_bytes w (Marks_loss Host) silent = refl
silent_bytes w (Marks_loss Chip) silent = refl
silent_bytes w (Marks_change Host garble) silent = refl
silent_bytes w (Marks_change Chip garble) silent = refl
silent_bytes w Collides_next silent = refl
silent_bytes w (Stalls ticks) silent = refl
silent_bytes w (Cuts size) silent = refl
silent_bytes w event silent = absurd silent

-- ---- refusals

-- they are of the host and its records alone
same_refused : (m : Machine) (line : Line) (refused : Refusal) (came : List LineUnit) (clock left : ℕ) (awaits : Bool) → IsRefused m line refused
    → IsRefused (with_world (host_machine m.keys m.records m.host.state came clock left awaits)) line refused
same_refused m (lines.Command order) refused came clock left awaits is = is
same_refused m (lines.Send node word) refused came clock left awaits is = is
same_refused m (lines.Get node end) refused came clock left awaits is = is
same_refused m (lines.Join node) refused came clock left awaits is = is
same_refused m (lines.Interview node) refused came clock left awaits is = is
same_refused m (lines.Cancel command) refused came clock left awaits is = is
same_refused m lines.Discover refused came clock left awaits is = is
same_refused m (lines.Neighbours node) refused came clock left awaits is = is
same_refused m (lines.Failed node) refused came clock left awaits is = is
same_refused m lines.Probe refused came clock left awaits is = is
same_refused m lines.Restart refused came clock left awaits is = is
same_refused m line refused came clock left awaits is = absurd is

-- its answer is entered, with the number of a tick where one is to be entered, and it writes nothing
pub record Answered (m : Machine) (event : HostEvent) : Type 0 where
  pub entered : entries m (Host_does event) ≡ stamp m.outside.outer (answers m.host.state event)
  pub time : time_of (happens m (Host_does event)).outside.outer ≡ time_of (has_entered m.outside.outer (answers m.host.state event))
  pub decoder : (happens m (Host_does event)).host.decoder ≡ m.host.decoder
  pub to_host : (happens m (Host_does event)).outside.outer.to_host.bytes ≡ m.outside.outer.to_host.bytes
  pub keys : (happens m (Host_does event)).keys ≡ m.keys
  pub state : (happens m (Host_does event)).host.state ≡ after m.host.state event
  pub records : (happens m (Host_does event)).records ≡ kept m.records m.host.state (event ∷ [])

answered : (m : Machine) (event : HostEvent) → IsAsked event → Answered m event
unfolding happens entries outcome devices_after
answered m (Accepts order carriage) asked = record {
  entered = append-nil (stamp m.outside.outer (answers m.host.state (Accepts order carriage)));
  time = refl;
  decoder = refl;
  to_host = refl;
  keys = refl;
  state = refl;
  records = refl;
}
answered m (Cancels command) asked = record {
  entered = append-nil (stamp m.outside.outer (answers m.host.state (Cancels command)));
  time = refl;
  decoder = refl;
  to_host = refl;
  keys = refl;
  state = refl;
  records = refl;
}
answered m (joins_host node) asked = record { entered = refl; time = refl; decoder = refl; to_host = refl; keys = refl; state = refl; records = refl }
answered m (Queues what) asked = record { entered = refl; time = refl; decoder = refl; to_host = refl; keys = refl; state = refl; records = refl }
answered m (Queues_interview node) asked = record { entered = refl; time = refl; decoder = refl; to_host = refl; keys = refl; state = refl; records = refl }
answered m Queues_probe asked = record { entered = refl; time = refl; decoder = refl; to_host = refl; keys = refl; state = refl; records = refl }
answered m event asked = absurd asked

-- what a discovery asks for once it has begun
same_places : (m : Machine) (asked : List Event) → Asks (places_refusal m.host.state 1) lines.Discover (Queues task.Members) asked
    → Asks (places_refusal (happens m (Outside_does Discovers)).host.state 1) lines.Discover (Queues task.Members) asked
unfolding happens
same_places m asked asks = asks

module _ (start : HostMachine) where
  -- ---- where a line has begun

  opens : (line : Line) (past : List Entry) (m : Machine) → AsksNothing line → Reads start Fresh (Asked line) 0 past m → Reads start Fresh Open 0 past m
  opens line past m nothing reads = record { up = reads.up; down = reads.down; carried = reads.carried; frames = reads.frames; rests = reads.rests; only = reads.only; run = turned (inl (nothing, refl)) tt refl reads.run }

  silent_reads : (past : List Entry) (m : Machine) (event : OuterEvent) → IsSilent event → May m (Outside_does event) → IsFine m (Outside_does event) → Reads start Fresh Open 0 past m
      → Reads start Fresh Open 0 (past ++ entries m (Outside_does event)) (happens m (Outside_does event))
  silent_reads past m event silent may fine reads =
      quiet_reads start Fresh 0 past m event (silent_within event silent) may fine (silent_entries m.outside event silent) (silent_bytes m.outside event silent) reads

  -- the same while the host is still to be asked
  discovery_reads : (past : List Entry) (m : Machine) → May m (Outside_does Discovers) → IsFine m (Outside_does Discovers) → Reads start Fresh (Asked lines.Discover) 0 past m
      → Reads start Fresh (Asked lines.Discover) 0 (past ++ entries m (Outside_does Discovers)) (happens m (Outside_does Discovers))
  unfolding happens entries outcome devices_after
  discovery_reads past m may fine reads =
      let event : Event = Outside_does Discovers in
      let after_it : LineAfter m event reads.up reads.down = event_after m event reads.up reads.down reads.carried reads.frames may fine.0 fine.1 in
      record {
        up = after_it.up_after;
        down = reads.down;
        carried = record { to_chip = after_it.carried.to_chip; to_host = reads.carried.to_host };
        frames = after_it.frames;
        rests = reads.rests;
        only = reads.only;
        run = subst (λ (l : List Entry). CarefulRun start Fresh (Asked lines.Discover) l (read_of 0 m (good_units reads.down))) (sym (append-nil past)) reads.run;
      }

  -- ---- what a line is answered

  asked_run : (line : Line) (past : List Entry) (m : Machine) (event : HostEvent) → IsAskedBy line m.host.state event → MayAll m.host.state (event ∷ []) → (came : List LineUnit)
      → CarefulRun start Fresh (Asked line) past (read_of 0 m came)
      → CarefulRun start Fresh Open (past ++ stamp m.outside.outer (answers m.host.state event))
      (at_time m.keys (kept m.records m.host.state (event ∷ [])) (after m.host.state event) came 0 (time_of (has_entered m.outside.outer (answers m.host.state event))))
  asked_run line past m event asked may came run =
      stamp_run (CarefulRun start) (careful_leads start) Fresh Fresh m.outside.outer (Asked line) Open m.keys m.records (kept m.records m.host.state (event ∷ [])) m.host.state (after m.host.state event) came came 0 past
      (answers m.host.state event) run
      (λ awaits all numbered there. stepped (step.Asks event) (line, refl, asked, may, numbered, refl) (tt, tt) refl refl refl there)

  asked_reads : (line : Line) (past : List Entry) (m : Machine) (event : HostEvent) → IsAskedBy line m.host.state event → May m (Host_does event) → IsFine m (Host_does event)
      → Reads start Fresh (Asked line) 0 past m → Reads start Fresh Open 0 (past ++ entries m (Host_does event)) (happens m (Host_does event))
  asked_reads line past m event asked may fine reads =
      let n : Machine = happens m (Host_does event) in
      let after_it : LineAfter m (Host_does event) reads.up reads.down = event_after m (Host_does event) reads.up reads.down reads.carried reads.frames may fine.0 fine.1 in
      let got = answered m event (is_asked line m.host.state event asked) in
      let came : List LineUnit = good_units reads.down in
      let said : List Entry = past ++ entries m (Host_does event) in
      record {
        up = after_it.up_after;
        down = reads.down;
        carried = same_way m n reads.up after_it.up_after reads.down after_it.carried.to_chip got.decoder got.to_host reads.carried;
        frames = after_it.frames;
        rests = after_it.at_host ∙ reads.rests;
        only = reads.only;
        run = subst (λ (k : Keys). CarefulRun start Fresh Open said (at_time k n.records n.host.state came 0 (time_of n.outside.outer))) (sym got.keys)
            (subst (λ (r : Option (List (List ℕ))). CarefulRun start Fresh Open said (at_time m.keys r n.host.state came 0 (time_of n.outside.outer))) (sym got.records)
            (subst (λ (h : HostState). CarefulRun start Fresh Open said (at_time m.keys (kept m.records m.host.state (event ∷ [])) h came 0 (time_of n.outside.outer))) (sym got.state)
            (subst (λ (t : Time3). CarefulRun start Fresh Open said (at_time m.keys (kept m.records m.host.state (event ∷ [])) (after m.host.state event) came 0 t)) (sym got.time)
            (subst (λ (l : List Entry).
            CarefulRun start Fresh Open (past ++ l)
            (at_time m.keys (kept m.records m.host.state (event ∷ [])) (after m.host.state event) came 0 (time_of (has_entered m.outside.outer (answers m.host.state event)))))
            (sym got.entered) (asked_run line past m event asked (may_one m event may) came reads.run)))));
      }

  -- one entry answers it
  told_run : (line : Line) (past : List Entry) (o : OuterState) (m : Machine) (came : List LineUnit) (one : Entry)
      → ((all : List Entry) → CarefulRun start Fresh (Asked line) all (host_machine m.keys m.records m.host.state came o.clock 0 false)
      → CarefulRun start Fresh Open (all ++ one ∷ []) (host_machine m.keys m.records m.host.state came o.clock 0 false))
      → CarefulRun start Fresh (Asked line) past (at_time m.keys m.records m.host.state came 0 (time_of o))
      → CarefulRun start Fresh Open (past ++ stamp o (one ∷ [])) (at_time m.keys m.records m.host.state came 0 (time_of (has_entered o (one ∷ []))))
  told_run line past o m came one goes run =
      stamp_run (CarefulRun start) (careful_leads start) Fresh Fresh o (Asked line) Open m.keys m.records m.records m.host.state m.host.state came came 0 past (one ∷ []) run by
    where
      by : (awaits : Bool) (all : List Entry) → (awaits ≡ true → one ∷ [] ≡ []) → CarefulRun start Fresh (Asked line) all (host_machine m.keys m.records m.host.state came o.clock 0 awaits)
          → CarefulRun start Fresh Open (all ++ one ∷ []) (host_machine m.keys m.records m.host.state came o.clock 0 awaits)
      by true all numbered there = absurd (let bad : one ∷ [] ≡ [] = numbered refl in cc)
      by false all numbered there = goes all there

  -- the host and its keeper refuse it
  refused_reads : (line : Line) (past : List Entry) (m : Machine) (refused : Refusal) → May m (Refuses line refused) → IsFine m (Refuses line refused) → Reads start Fresh (Asked line) 0 past m
      → Reads start Fresh Open 0 (past ++ entries m (Refuses line refused)) (happens m (Refuses line refused))
  unfolding happens entries outcome devices_after May
  refused_reads line past m refused may fine reads =
      let event : Event = Refuses line refused in
      let after_it : LineAfter m event reads.up reads.down = event_after m event reads.up reads.down reads.carried reads.frames may fine.0 fine.1 in
      let came : List LineUnit = good_units reads.down in
      record {
        up = after_it.up_after;
        down = reads.down;
        carried = record { to_chip = after_it.carried.to_chip; to_host = reads.carried.to_host };
        frames = after_it.frames;
        rests = reads.rests;
        only = reads.only;
        run = told_run line past m.outside.outer m came (entry.Refused refused)
            (λ all there. stepped (step.Refuses refused) (line, refl, inl (same_refused m line refused came m.outside.outer.clock 0 false may), refl, refl) (tt, tt) refl refl refl there) reads.run;
      }

  -- the stored values of a node are shown
  shows_reads : (node : ℕ) (past : List Entry) (m : Machine) → May m (Shows_values node) → IsFine m (Shows_values node) → Reads start Fresh (Asked (lines.Store node)) 0 past m
      → Reads start Fresh Open 0 (past ++ entries m (Shows_values node)) (happens m (Shows_values node))
  unfolding happens entries outcome devices_after
  shows_reads node past m may fine reads =
      let event : Event = Shows_values node in
      let after_it : LineAfter m event reads.up reads.down = event_after m event reads.up reads.down reads.carried reads.frames may fine.0 fine.1 in
      record {
        up = after_it.up_after;
        down = reads.down;
        carried = record { to_chip = after_it.carried.to_chip; to_host = reads.carried.to_host };
        frames = after_it.frames;
        rests = reads.rests;
        only = reads.only;
        run = told_run (lines.Store node) past m.outside.outer m (good_units reads.down) (shown_values m.host.state node)
            (λ all there. stepped (step.Shows node) (refl, refl, refl) (tt, tt) refl refl refl there) reads.run;
      }

  -- ---- a restart

  starts_reads : (past : List Entry) (m : Machine) (state : HostState) → May m (Restarts state) → IsFine m (Restarts state) → Reads start Fresh (Asked lines.Restart) 0 past m
      → ReadsCleared start (past ++ entries m (Restarts state)) (happens m (Restarts state))
  unfolding happens entries May
  starts_reads past m state may fine reads =
      let event : Event = Restarts state in
      let after_it : LineAfter m event reads.up reads.down = event_after m event reads.up reads.down reads.carried reads.frames may fine.0 fine.1 in
      record {
        up = after_it.up_after;
        down = after_it.down_after;
        carried = after_it.carried;
        frames = after_it.frames;
        rests = after_it.at_host ∙ reads.rests;
        run = stepped (step.Restarts state) (refl, may, refl) (tt, tt) refl refl refl reads.run;
      }

  cleared_aside : (side : Side) (count : ℕ) → AllByRecursion IsOfOthers (cleared_entries side count)
  cleared_aside side count = all-weaker IsCleared IsOfOthers one (cleared_entries side count) (all_cleared side count)
    where
      one : (e : Entry) → IsCleared e → IsOfOthers e
      one (entry.Cleared by count) cleared = tt
      one e cleared = absurd cleared

  -- bytes on their way are lost, which is told
  clear_run : (past : List Entry) (m : Machine) (o : OuterState) (told : List Entry) → AllByRecursion IsOfOthers told → time_of o ≡ time_of m.outside.outer
      → CarefulRun start Fresh Open past (at_time m.keys m.records m.host.state [] 0 (time_of m.outside.outer))
      → CarefulRun start Fresh Open (past ++ stamp o told) (at_time m.keys m.records m.host.state [] 0 (time_of (has_entered o told)))
  clear_run past m o told asides same run =
      stamp_run (CarefulRun start) (careful_leads start) Fresh Fresh o Open Open m.keys m.records m.records m.host.state m.host.state [] [] 0 past told
      (subst (λ (t : Time3). CarefulRun start Fresh Open past (at_time m.keys m.records m.host.state [] 0 t)) (sym same) run) by
    where
      by : (awaits : Bool) (all : List Entry) → (awaits ≡ true → told ≡ []) → CarefulRun start Fresh Open all (host_machine m.keys m.records m.host.state [] o.clock 0 awaits)
          → CarefulRun start Fresh Open (all ++ told) (host_machine m.keys m.records m.host.state [] o.clock 0 awaits)
      by true all numbered there =
          subst (λ (l : List Entry). CarefulRun start Fresh Open l (host_machine m.keys m.records m.host.state [] o.clock 0 true)) (sym (ap (λ (l : List Entry). all ++ l) (numbered refl) ∙ append-nil all)) there
      by false all numbered there = asides_run (CarefulRun start) (careful_leads start) Fresh m.keys m.records m.host.state 0 Open tt o.clock told all [] (any_told told asides) there

  clears_up : (past : List Entry) (m : Machine) → May m (Outside_does (Clears_pipe Host)) → IsFine m (Outside_does (Clears_pipe Host)) → ReadsCleared start past m
      → ReadsCleared start (past ++ entries m (Outside_does (Clears_pipe Host))) (happens m (Outside_does (Clears_pipe Host)))
  unfolding happens entries outcome devices_after
  clears_up past m may fine reads =
      let event : Event = Outside_does (Clears_pipe Host) in
      let after_it : LineAfter m event reads.up reads.down = event_after m event reads.up reads.down reads.carried reads.frames may fine.0 fine.1 in
      let x : Outcome = outcome m.outside (Clears_pipe Host) in
      record {
        up = after_it.up_after;
        down = after_it.down_after;
        carried = after_it.carried;
        frames = after_it.frames;
        rests = after_it.at_host ∙ reads.rests;
        run = clear_run past m x.outer x.entries (cleared_aside Host (length m.outside.outer.to_chip.bytes)) refl reads.run;
      }

  clears_down : (past : List Entry) (m : Machine) → May m (Outside_does (Clears_pipe Chip)) → IsFine m (Outside_does (Clears_pipe Chip)) → ReadsCleared start past m
      → Reads start Fresh Open 0 (past ++ entries m (Outside_does (Clears_pipe Chip))) (happens m (Outside_does (Clears_pipe Chip)))
  unfolding happens entries outcome devices_after
  clears_down past m may fine reads =
      let event : Event = Outside_does (Clears_pipe Chip) in
      let after_it : LineAfter m event reads.up reads.down = event_after m event reads.up reads.down reads.carried reads.frames may fine.0 fine.1 in
      let x : Outcome = outcome m.outside (Clears_pipe Chip) in
      record {
        up = after_it.up_after;
        down = after_it.down_after;
        carried = after_it.carried;
        frames = after_it.frames;
        rests = after_it.at_host ∙ reads.rests;
        only = subst AreFrames (sym (ap good_units after_it.down_is)) tt;
        run = subst (λ (l : List LineUnit). CarefulRun start Fresh Open (past ++ entries m event) (read_of 0 (happens m event) l)) (sym (ap good_units after_it.down_is))
            (clear_run past m x.outer x.entries (cleared_aside Chip (length m.outside.outer.to_host.bytes)) refl reads.run);
      }

  -- ---- by hand

  -- it is refused outside
  turned_away : (line : Line) (past : List Entry) (m : Machine) (event : OuterEvent) (refused : Refusal) → is_of_others (line ∷ []) ≡ true
      → outcome m.outside event ≡ tells m.outside.outer (entry.Refused refused ∷ []) → May m (Outside_does event) → IsFine m (Outside_does event) → Reads start Fresh (Asked line) 0 past m
      → Reads start Fresh Open 0 (past ++ entries m (Outside_does event)) (happens m (Outside_does event))
  unfolding happens entries
  turned_away line past m event refused others is may fine reads =
      let n : Machine = happens m (Outside_does event) in
      let after_it : LineAfter m (Outside_does event) reads.up reads.down = event_after m (Outside_does event) reads.up reads.down reads.carried reads.frames may fine.0 fine.1 in
      let came : List LineUnit = good_units reads.down in
      let ran =
      told_run line past m.outside.outer m came (entry.Refused refused) (λ all there. stepped (step.Refuses refused) (line, refl, inr others, refl, refl) (tt, tt) refl refl refl there) reads.run in
      record {
        up = after_it.up_after;
        down = reads.down;
        carried = same_way m n reads.up after_it.up_after reads.down after_it.carried.to_chip refl (ap (λ (y : Outcome). (has_entered y.outer y.entries).to_host.bytes) is) reads.carried;
        frames = after_it.frames;
        rests = after_it.at_host ∙ reads.rests;
        only = reads.only;
        run = subst (λ (y : Outcome). CarefulRun start Fresh Open (past ++ stamp y.outer y.entries) (at_time m.keys m.records m.host.state came 0 (time_of (has_entered y.outer y.entries)))) (sym is) ran;
      }

  acts_bytes : (o : OuterState) (found : Option State) (event : DeviceEvent) (route : Option Route) → (acts_at o found event route).outer.to_host.bytes ≡ o.to_host.bytes
  acts_bytes o None event route = refl
  acts_bytes o (Some device) event route = refl

  module _ (line : Line) (others : is_of_others (line ∷ []) ≡ true) (past : List Entry) (m : Machine) (reads : Reads start Fresh (Asked line) 0 past m) where
    abbrev Goes : OuterEvent → Type 0
    Goes event = May m (Outside_does event) → IsFine m (Outside_does event) → Reads start Fresh Open 0 (past ++ entries m (Outside_does event)) (happens m (Outside_does event))

    opened : Reads start Fresh Open 0 past m
    opened = opens line past m (others_ask_nothing line others) reads

    -- a device does something, or there is none
    device_reads : (event : OuterEvent) (does : DeviceEvent) (route : Option Route) (place : Option ℕ) → IsWithin event
        → outcome m.outside event ≡ acts_by_hand m.outside.outer m.outside.devices place does route → Goes event
    device_reads event does route None within is may fine = turned_away line past m event refusal.NoDevice others is may fine reads
    device_reads event does route (Some place) within is may fine =
        let found : Option State = slice_get m.outside.devices place in
        quiet_reads start Fresh 0 past m event within may fine (subst (λ (y : Outcome). AllByRecursion IsOfOthers y.entries) (sym is) (acts_aside m.outside.outer found does route))
        (ap (λ (y : Outcome). y.outer.to_host.bytes) is ∙ acts_bytes m.outside.outer found does route) opened

    settings_aside : (node : ℕ) (settings : List Setting) → AllByRecursion IsOfOthers (map (λ (setting : Setting). entry.Device node setting) settings)
    settings_aside node [] = tt
    settings_aside node (setting ∷ settings) = (tt, settings_aside node settings)

    shown_reads : (node : ℕ) (device : Option State) → outcome m.outside (Shows node) ≡ tells m.outside.outer (shown_entries node device) → Goes (Shows node)
    shown_reads node None is may fine = turned_away line past m (Shows node) refusal.NoDevice others is may fine reads
    shown_reads node (Some device) is may fine =
        quiet_reads start Fresh 0 past m (Shows node) tt may fine (subst (λ (y : Outcome). AllByRecursion IsOfOthers y.entries) (sym is) (settings_aside node (shown_of device)))
        (ap (λ (y : Outcome). y.outer.to_host.bytes) is) opened

    heard_again : (number : ℕ) (drawn : List ℕ) (route : Option Route) (refused : Option RepeatRefusal) → AllChange m.outside.outer.to_host.marks.garbles
        → outcome m.outside (Repeats number drawn route) ≡ repeats m.outside refused (mesh.Repeats number drawn route) → MayRepeat m.outside refused (mesh.Repeats number drawn route)
        → Goes (Repeats number drawn route)
    heard_again number drawn route None changes is happens_so may fine =
        told_reads start Fresh tt Open 0 past m (Repeats number drawn route) tt tt may fine changes (repeats_told m.outside number drawn route (ap (λ (y : Outcome). y.entries) is) happens_so) opened
    heard_again number drawn route (Some NeverSent) changes is happens_so may fine = turned_away line past m (Repeats number drawn route) refusal.NeverSent others is may fine reads
    heard_again number drawn route (Some Forgotten) changes is happens_so may fine = turned_away line past m (Repeats number drawn route) refusal.Forgotten others is may fine reads
    heard_again number drawn route (Some (Stale later)) changes is happens_so may fine = turned_away line past m (Repeats number drawn route) (refusal.Stale later) others is may fine reads

    may_repeat : (number : ℕ) (drawn : List ℕ) (route : Option Route) → May m (Outside_does (Repeats number drawn route))
        → MayRepeat m.outside (refusal_of m.outside.outer.air.frames number) (mesh.Repeats number drawn route)
    unfolding May MayOutside
    may_repeat number drawn route may = may.1

    hand_reads : (event : OuterEvent) → IsByHand event → AllChange m.outside.outer.to_host.marks.garbles → Goes event
    unfolding outcome
    hand_reads (Repeats number drawn route) by_hand changes may fine =
        heard_again number drawn route (refusal_of m.outside.outer.air.frames number) changes refl (may_repeat number drawn route may) may fine
    hand_reads (Wakes_device node route) by_hand changes may fine = device_reads (Wakes_device node route) Wakes route (place_of node m.outside.devices) tt refl may fine
    hand_reads (Sets_device node value route) by_hand changes may fine = device_reads (Sets_device node value route) (Sets value) route (place_of node m.outside.devices) tt refl may fine
    hand_reads (Shows node) by_hand changes may fine = shown_reads node (device_at m.outside.devices (place_of node m.outside.devices)) refl may fine
    hand_reads event by_hand changes may fine = absurd by_hand

  -- ---- which effect a line has

  module _ (past : List Entry) (m : Machine) where
    abbrev Effect : Line → List Event → Type 0
    Effect line events = EffectReads start line events past m

    asks_reads : (refused : Option Refused) (line : Line) (event : HostEvent) (events : List Event) → (refused ≡ None → IsAskedBy line m.host.state event) → Reads start Fresh (Asked line) 0 past m
        → Asks refused line event events → Effect line events
    asks_reads None line event events asked reads is = Asks_host event [] is tt (asked refl) reads
    asks_reads (Some one) line event events asked reads (refused, shown, is) = Refuses_line refused is reads

    done_reads : (line : Line) (event : HostEvent) (rest events : List Event) → AllByRecursion LeavesHost rest → IsAskedBy line m.host.state event → Reads start Fresh (Asked line) 0 past m
        → IsDone line (Host_does event ∷ rest) events → Effect line events
    done_reads line event rest events leaves asked reads (inl is) = Asks_host event rest is leaves asked reads
    done_reads line event rest events leaves asked reads (inr (refused, is)) = Refuses_line refused is reads

    inner_is : (event : OuterEvent) (inner : List OuterEvent) (events : List Event) → inner ≡ event ∷ [] → events ≡ map Outside_does inner → events ≡ Outside_does event ∷ []
    inner_is event inner events one are = are ∙ ap (λ (l : List OuterEvent). map Outside_does l) one

    pub effect_reads : (line : Line) (events : List Event) → IsEffect line m events → Reads start Fresh (Asked line) (ticks_of line) past m → Effect line events
    effect_reads (lines.Command order) events is reads = done_reads (lines.Command order) (Accepts order (carriage_for m.host.state order)) [] events tt refl reads is
    effect_reads (lines.Tick count) events is reads = absurd is
    effect_reads (lines.Cut size) events is reads = Does_silently (Cuts size) is tt tt reads
    effect_reads (lines.Stall ticks) events is reads = Does_silently (Stalls ticks) is tt tt reads
    effect_reads (lines.Drop by) events is reads = Does_silently (Marks_loss by) is tt tt reads
    effect_reads (lines.Garble by place xor) events is reads = Does_silently (Marks_change by (record { place = place; xor = xor })) is tt tt reads
    effect_reads lines.Collide events is reads = Does_silently Collides_next is tt tt reads
    effect_reads (lines.Send node word) events is reads =
        asks_reads (send_refusal (known_of (node_of m.host.state node)) (length m.host.state.requests.queue) word) (lines.Send node word)
        (Queues (task.Plain node (send_text (classes_of (known_of (node_of m.host.state node))) word))) events (λ none. (none, refl)) reads is
    effect_reads (lines.Get node end) events is reads =
        asks_reads (get_refusal (known_of (node_of m.host.state node)) (length m.host.state.requests.queue) end) (lines.Get node end)
        (Queues (task.Plain node (get_text (classes_of (known_of (node_of m.host.state node))) end))) events (λ none. (none, refl)) reads is
    effect_reads (lines.Join node) events is reads = done_reads (lines.Join node) (joins_host node) (Outside_does (Joins node) ∷ []) events (tt, tt) refl reads is
    effect_reads (lines.Interview node) events is reads =
        asks_reads (interview_refusal m.host.state node) (lines.Interview node) (Queues_interview node) events (λ none. (none, refl)) reads is
    effect_reads (lines.Lose count) events is reads = Does_silently (Loses count) is tt tt reads
    effect_reads (lines.LoseAck count) events is reads = Does_silently (Loses_acks count) is tt tt reads
    effect_reads (lines.Repeat frame) events (inner, (drawn, route, one), are) reads =
        Does_by_hand (Repeats frame drawn route) (inner_is (Repeats frame drawn route) inner events one are) tt refl reads
    effect_reads (lines.Wake node) events (inner, (route, one), are) reads = Does_by_hand (Wakes_device node route) (inner_is (Wakes_device node route) inner events one are) tt refl reads
    effect_reads (lines.Cancel command) events is reads = done_reads (lines.Cancel command) (Cancels command) [] events tt refl reads is
    effect_reads (lines.Link first second) events is reads = Does_silently (Links first second true) is tt tt reads
    effect_reads (lines.Unlink first second) events is reads = Does_silently (Links first second false) is tt tt reads
    effect_reads lines.Discover events (asked, asks, are) reads = Begins_discovery asked refl are asks reads
    effect_reads (lines.Neighbours node) events is reads =
        asks_reads (places_refusal m.host.state 1) (lines.Neighbours node) (Queues (task.Neighbours node)) events (λ none. (none, refl)) reads is
    effect_reads (lines.Failed node) events is reads =
        asks_reads (places_refusal m.host.state 1) (lines.Failed node) (Queues (task.IsFailed node)) events (λ none. (none, refl)) reads is
    effect_reads lines.Probe events is reads = asks_reads (places_refusal m.host.state 3) lines.Probe Queues_probe events (λ none. (none, refl)) reads is
    effect_reads (lines.Local node value) events (inner, (route, one), are) reads =
        Does_by_hand (Sets_device node value route) (inner_is (Sets_device node value route) inner events one are) tt refl reads
    effect_reads (lines.Show node) events is reads = Does_by_hand (Shows node) is tt refl reads
    effect_reads (lines.Store node) events is reads = Shows_node node refl is reads
    effect_reads lines.Restart events (inl (state, is)) reads = Starts_again state refl is reads
    effect_reads lines.Restart events (inr (refused, is)) reads = Refuses_line refused is reads

    -- ---- its events, one after another

    -- the next is this one
    module _ (line : Line) (first : Event) (left : List Event) (may : May m first) (fine : IsFine m first) where
      abbrev Next : Event → List Event → Type 0
      Next e rest = EffectReads start line rest (past ++ entries m e) (happens m e)

      as_next : (e : Event) (rest : List Event) → first ∷ left ≡ e ∷ rest → (May m e → IsFine m e → Next e rest) → Next first left
      as_next e rest is goes =
          let head = head_is first e left rest is in
          let tail = tail_is first e left rest is in
          subst (λ (l : List Event). Next first l) (sym tail) (subst (λ (x : Event). Next x rest) (sym head) (goes (subst (May m) head may) (subst (IsFine m) head fine)))

      done_next : (rest : List Event) (e : Event) → AllByRecursion LeavesHost rest → (May m e → IsFine m e → Reads start Fresh Open 0 (past ++ entries m e) (happens m e)) → May m e → IsFine m e → Next e rest
      done_next rest e leaves goes may fine = Is_done leaves (goes may fine)

      -- a line of which only silent events outside are left
      leaves_next : (event : Event) (rest : List Event) → first ∷ left ≡ event ∷ rest → LeavesHost event → AllByRecursion LeavesHost rest → Reads start Fresh Open 0 past m → Next first left
      leaves_next (Outside_does event) rest is silent leaves reads = as_next (Outside_does event) rest is (done_next rest (Outside_does event) leaves (λ may fine. silent_reads past m event silent may fine reads))
      leaves_next event rest is silent leaves reads = absurd silent

      pub effect_next : (is_of_others (line ∷ []) ≡ true → AllChange m.outside.outer.to_host.marks.garbles) → Effect line (first ∷ left) → Next first left
      effect_next changes (Asks_host event rest is leaves asked reads) =
          as_next (Host_does event) rest is (done_next rest (Host_does event) leaves (λ may fine. asked_reads line past m event asked may fine reads))
      effect_next changes (Refuses_line refused is reads) =
          as_next (Refuses line refused) [] is (done_next [] (Refuses line refused) tt (λ may fine. refused_reads line past m refused may fine reads))
      effect_next changes (Shows_node node line_is is reads) =
          as_next (Shows_values node) [] is
          (done_next [] (Shows_values node) tt (λ may fine. shows_reads node past m may fine (subst (λ (l : Line). Reads start Fresh (Asked l) 0 past m) line_is reads)))
      effect_next changes (Starts_again state line_is is reads) =
          as_next (Restarts state) (Outside_does (Clears_pipe Host) ∷ Outside_does (Clears_pipe Chip) ∷ []) is
          (λ may fine. Clears_both refl (starts_reads past m state may fine (subst (λ (l : Line). Reads start Fresh (Asked l) 0 past m) line_is reads)))
      effect_next changes (Does_silently event is silent nothing reads) =
          as_next (Outside_does event) [] is (done_next [] (Outside_does event) tt (λ may fine. silent_reads past m event silent may fine (opens line past m nothing reads)))
      effect_next changes (Does_by_hand event is by_hand others reads) =
          as_next (Outside_does event) [] is (done_next [] (Outside_does event) tt (λ may fine. hand_reads line others past m reads event by_hand (changes others) may fine))
      effect_next changes (Begins_discovery asked line_is is asks reads) =
          as_next (Outside_does Discovers) asked is
          (λ may fine.
          Goes_on_asking line_is (same_places m asked asks)
          (subst (λ (l : Line). Reads start Fresh (Asked l) 0 (past ++ entries m (Outside_does Discovers)) (happens m (Outside_does Discovers))) (sym line_is)
          (discovery_reads past m may fine (subst (λ (l : Line). Reads start Fresh (Asked l) 0 past m) line_is reads))))
      effect_next changes (Goes_on_asking line_is asks reads) = by (places_refusal m.host.state 1) refl asks
        where
          there : Reads start Fresh (Asked lines.Discover) 0 past m
          there = subst (λ (l : Line). Reads start Fresh (Asked l) 0 past m) line_is reads

          by : (rule : Option Refused) → places_refusal m.host.state 1 ≡ rule → Asks rule lines.Discover (Queues task.Members) (first ∷ left) → Next first left
          by None none is =
              as_next (Host_does (Queues task.Members)) [] is
              (done_next [] (Host_does (Queues task.Members)) tt (λ may fine. asked_reads lines.Discover past m (Queues task.Members) (none, refl) may fine there))
          by (Some one) none (refused, shown, is) =
              as_next (Refuses lines.Discover refused) [] is (done_next [] (Refuses lines.Discover refused) tt (λ may fine. refused_reads lines.Discover past m refused may fine there))
      effect_next changes (Clears_both is reads) = as_next (Outside_does (Clears_pipe Host)) (Outside_does (Clears_pipe Chip) ∷ []) is (λ may fine. Clears_one refl (clears_up past m may fine reads))
      effect_next changes (Clears_one is reads) = as_next (Outside_does (Clears_pipe Chip)) [] is (done_next [] (Outside_does (Clears_pipe Chip)) tt (λ may fine. clears_down past m may fine reads))
      effect_next changes (Is_done leaves reads) = leaves_next first left refl leaves.0 leaves.1 reads

    -- all are done
    pub effect_done : (line : Line) → Effect line [] → Reads start Fresh Open 0 past m
    effect_done line (Asks_host event rest is leaves asked reads) = absurd (let bad : [] ≡ Host_does event ∷ rest = is in cc)
    effect_done line (Refuses_line refused is reads) = absurd (let bad : [] ≡ Refuses line refused ∷ [] = is in cc)
    effect_done line (Shows_node node line_is is reads) = absurd (let bad : [] ≡ Shows_values node ∷ [] = is in cc)
    effect_done line (Starts_again state line_is is reads) = absurd (let bad : [] ≡ restart_events state = is in cc)
    effect_done line (Does_silently event is silent nothing reads) = absurd (let bad : [] ≡ Outside_does event ∷ [] = is in cc)
    effect_done line (Does_by_hand event is by_hand others reads) = absurd (let bad : [] ≡ Outside_does event ∷ [] = is in cc)
    effect_done line (Begins_discovery asked line_is is asks reads) = absurd (let bad : [] ≡ Outside_does Discovers ∷ asked = is in cc)
    effect_done line (Goes_on_asking line_is asks reads) = absurd (none_asked (places_refusal m.host.state 1) asks)
      where
        none_asked : (refused : Option Refused) → Asks refused lines.Discover (Queues task.Members) [] → ⊥
        none_asked None is = let bad : [] ≡ Host_does (Queues task.Members) ∷ [] = is in cc
        none_asked (Some one) (refused, shown, is) = let bad : [] ≡ Refuses lines.Discover refused ∷ [] = is in cc
    effect_done line (Clears_both is reads) = absurd (let bad : [] ≡ Outside_does (Clears_pipe Host) ∷ Outside_does (Clears_pipe Chip) ∷ [] = is in cc)
    effect_done line (Clears_one is reads) = absurd (let bad : [] ≡ Outside_does (Clears_pipe Chip) ∷ [] = is in cc)
    effect_done line (Is_done leaves reads) = reads
