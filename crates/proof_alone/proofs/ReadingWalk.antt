-- So the machine of the simulator is read as a host alone, over all lines.
use Rattle.std.proofs.Common.{◌≡◌, ◌⊎◌, ℕ, zero, suc, ◌+◌, Bool, true, false, inl, inr, List, [], ◌∷◌, ◌++◌, length, refl, sym, ◌∙◌, subst, append-nil}
use Rattle.std.specs.Prelude.{Option}
use Rattle.serial_frame.specs.Stream.{Feeds, Rest, no_rest}
use Rattle.serial_frame.specs.declared.item.Item.{Item}
use Rattle.serial_frame.specs.declared.unit.Unit.{Unit as LineUnit}
use Rattle.route_table.specs.declared.route.Route.{Route}
use Rattle.chip_sim.specs.Did.{judged_all}
use Rattle.chip_sim.specs.Events.{ChipEvent, after, outs}
use Rattle.chip_sim.specs.declared.out.ChipOut.{ChipOut}
use Rattle.chip_sim.specs.declared.out.ChipOut.TheVariants as chip_out
use Rattle.zw_words.specs.declared.side.Side.TheVariants.{Chip}
use Rattle.zw_text.specs.declared.line.Line.{Line}
use Rattle.zw_text.specs.declared.line.Line.TheVariants as lines
use Rattle.zw_text.specs.declared.entry.Entry.{Entry}
use Rattle.zw_text.specs.declared.entry.Entry.TheVariants.{Said}
use Rattle.zw_text.specs.Transcript.{line_of}
use Rattle.law_host.specs.law_transcript.Lists.{EachAfter}
use Rattle.law_host.specs.law_transcript.Restarts.{ticks_of}
use Rattle.proof_line.specs.host_model.Pumping.{no_more_event}
use Rattle.proof_line.specs.host_model.Ticking.{tick_events}
use Rattle.proof_line.proofs.Silence.{tick_silent}
use Rattle.proof_line.specs.outside_model.Events.{OuterEvent, Arrives, Begins_line, Begins_tick, Chip_takes, Chip_ticks, Device_ticks, Gives, devices_after, has_entered, is_own, outcome}
use Rattle.proof_line.specs.outside_model.Events.{May as MayOutside}
use Rattle.s0_crypto.specs.declared.key_pair.Keys.{Keys}
use Rattle.law_host.specs.device_sim.State.{State}
use Rattle.proof_line.specs.outside_model.State.{OuterState, Outcome, Outside, first_outer, is_stalled, with_chip}
use Rattle.proof_line.specs.outside_model.Chip.{chip_does, put_out}
use Rattle.proof_line.specs.world_model.State.{Machine, first_machine}
use Rattle.proof_line.specs.world_model.Did.{AllAlong}
use Rattle.proof_line.specs.world_model.Events.{Event, Decoder_ticks, Host_does, Host_takes, Outside_does, May, entries, happens}
use Rattle.proof_line.specs.proof_serial.Line.{AllAtRest, AllWriteWell, LineAfter}
use Rattle.proof_line.specs.proof_serial.Units.{good_units}
use Rattle.proof_line.proofs.EndedItems.{feeds_all}
use Rattle.proof_line.proofs.Events.{event_after}
use Rattle.proof_line.proofs.First.{first_carried, first_frames}
use Rattle.proof_line.specs.proof_walk.ByLine.{begun}
use Rattle.proof_line.specs.proof_walk.Phases.{Phase, Between, Said_line, Begun, Doing, To_tick, Ticked, Arriving, Giving, Ticking_devices, Ticking_chip, Ticking_decoder, Ticking_host, Sleeping, Submitting, Moving, Moved, Goes, IsStill, Turns, passes_after}
use Rattle.proof_line.specs.proof_walk.Walk.{Walk, WalkWhere}
use Rattle.proof_line.proofs.ByLine.{next_silent, no_more_silent}
use Rattle.proof_line.proofs.Stepping.{Steps, event_then}
use Rattle.proof_line.proofs.Times.{IsWithin, each_keeps}
use Rattle.proof_line.specs.Marks.{KnowMarks, Marked, MayMark}
use Rattle.proof_line.proofs.ChipTelling.{IsArriving}
use Rattle.proof_alone.specs.State.{HostMachine, first_alone}
use Rattle.proof_alone.specs.Steps as step
use Rattle.proof_alone.specs.Phases as alone
use Rattle.proof_alone.specs.Steps.{AreFrames}
use Rattle.proof_alone.specs.Reading.{Anything, EffectReads, HostKnows, KnowsAs, IsFine, OnlyThen, Reads, ReadsAt, ReadsAtRest, ReadsMarked, ReadsWith, read_of}
use Rattle.proof_alone.specs.Reading.EffectReads.{Asks_host, Refuses_line, Shows_node, Starts_again, Does_silently, Does_by_hand, Begins_discovery, Goes_on_asking, Clears_both, Clears_one, Is_done}
use Rattle.proof_alone.specs.Runs.{Knowledge}
use Rattle.proof_alone.specs.Careful.{CarefulRun, Fresh, Looked, RunCarefully, Stage, ToldCarefully, TurnsWell, stage_turned}
use Rattle.proof_alone.proofs.Carefully.{all_judged, all_pump, may_pump, starts, stepped, turned as turned_run}
use Rattle.proof_alone.proofs.Changing.{all_change}
use Rattle.proof_alone.proofs.Coming.{AllChange}
use Rattle.proof_alone.proofs.Others.{IsOfChip, arriving_told, takes_told, tick_told}
use Rattle.proof_alone.proofs.Reading.{NoneCame, answered_reads, does_reads, same_way, takes_reads, tick_reads, told_reads}
use Rattle.proof_alone.proofs.ReadingLines.{effect_done, effect_next, effect_reads, marked_of}

pub anything : (past told : List Entry) → EachAfter Anything past told
anything past [] = tt
anything past (e ∷ told) = (tt, anything (past ++ e ∷ []) told)

-- ---- a stall

-- what the chip puts out leaves the time, and how long the line is stalled
put_leaves : (o : OuterState) (out : ChipOut) → is_stalled (put_out o out).outer ≡ is_stalled o
put_leaves o (chip_out.Write unit) = refl
put_leaves o (chip_out.OnAir to route payload) = refl
put_leaves o chip_out.NoRoute = refl
put_leaves o (chip_out.AskInfo node) = refl
put_leaves o chip_out.Full = refl

does_leaves : (o : OuterState) (event : ChipEvent) → is_stalled (chip_does o event).outer ≡ is_stalled o
unfolding chip_does
does_leaves o event = each_keeps is_stalled put_out put_leaves (with_chip o (after o.chip.state event)) (outs o.chip.state event)

takes_leaves : (w : Outside) (count : ℕ) (rest : Rest) (ways : List (Item × Option Route)) → is_stalled (outcome w (Chip_takes count rest ways)).outer ≡ is_stalled w.outer
unfolding outcome
takes_leaves w count rest ways = each_keeps is_stalled chip_does does_leaves _ (judged_all ways)

entered_leaves : (o : OuterState) (told : List Entry) → is_stalled (has_entered o told) ≡ is_stalled o
entered_leaves o [] = refl
entered_leaves o (e ∷ told) = refl

-- bytes have moved, and may move on
moves_on : (m : Machine) (count : ℕ) (rest : Rest) (ways : List (Item × Option Route)) → May m (Outside_does (Chip_takes count rest ways))
    → is_stalled (happens m (Outside_does (Chip_takes count rest ways))).outside.outer ≡ false
unfolding happens May MayOutside
moves_on m count rest ways may =
    let x : Outcome = outcome m.outside (Chip_takes count rest ways) in
    entered_leaves x.outer x.entries ∙ takes_leaves m.outside count rest ways ∙ may.1.moves

-- where marks are known, each change that waits is one
changes_of : (past : List Entry) (m : Machine) → Marked past m → AllChange m.outside.outer.to_host.marks.garbles
changes_of past m known = all_change past m.outside.outer.to_host (known.0.0 Chip)

module _ (start : HostMachine) where
  abbrev At : Phase → List Entry → Machine → Type 0
  At = ReadsAt start

  abbrev Keeps : Phase → List Entry → Machine → Event → Type 0
  Keeps = Steps Anything At

  -- ---- parts

  -- one is over, and of what has come this is so then
  part_over : (Such Later : List LineUnit → Type 0) (stage led : Stage) (here next : alone.Phase) (left : ℕ) (past : List Entry) (m : Machine)
      → ((came : List LineUnit) → Such came → alone.Turns here (read_of left m came) next × TurnsWell stage here (read_of left m came) × Later came) → led ≡ stage_turned stage here
      → ReadsWith Such start stage here left past m → ReadsWith Later start led next left past m
  part_over Such Later stage led here next left past m turns leads reads =
      let fits = turns (good_units reads.down) reads.only in
      record {
        up = reads.up;
        down = reads.down;
        carried = reads.carried;
        frames = reads.frames;
        rests = reads.rests;
        only = fits.2;
        run = turned_run fits.0 fits.1 leads reads.run;
      }

  turned : (stage led : Stage) (here next : alone.Phase) (left : ℕ) (past : List Entry) (m : Machine)
      → ((came : List LineUnit) → AreFrames came → alone.Turns here (read_of left m came) next × TurnsWell stage here (read_of left m came)) → led ≡ stage_turned stage here
      → Reads start stage here left past m → Reads start led next left past m
  turned stage led here next left past m turns leads reads =
      part_over AreFrames AreFrames stage led here next left past m (λ came only. let fits = turns came only in (fits.0, fits.1, only)) leads reads

  said_reads : (stage : Stage) (past : List Entry) (m : Machine) (words : List ℕ) (line : Line) → line_of (Said words) ≡ line ∷ [] → Reads start stage alone.Resting 0 past m
      → Reads start Fresh (alone.Asked line) (ticks_of line) (past ++ Said words ∷ []) (begun m)
  unfolding happens outcome devices_after
  said_reads stage past m words line read reads = record {
    up = reads.up;
    down = reads.down;
    carried = record { to_chip = reads.carried.to_chip; to_host = reads.carried.to_host };
    frames = reads.frames;
    rests = reads.rests;
    only = reads.only;
    run = stepped (step.Says words line) (refl, refl, read, refl) (tt, tt) refl refl refl reads.run;
  }

  begins_reads : (line : Line) (past : List Entry) (m : Machine) → Reads start Fresh (alone.Asked line) (ticks_of line) past (begun m) → Keeps (Begun line) past m (Outside_does Begins_line)
  unfolding entries outcome
  begins_reads line past m reads = (tt, subst (λ (l : List Entry). Reads start Fresh (alone.Asked line) (ticks_of line) l (begun m)) (sym (append-nil past)) reads)

  decoder_reads : (ticks : ℕ) (past : List Entry) (m : Machine) → May m Decoder_ticks → IsFine m Decoder_ticks → Reads start Fresh alone.Risen ticks past m
      → Reads start Fresh (alone.Ticking (tick_events m.host.state)) ticks (past ++ entries m Decoder_ticks) (happens m Decoder_ticks)
  unfolding happens entries
  decoder_reads ticks past m may fine reads =
      let n : Machine = happens m Decoder_ticks in
      let after : LineAfter m Decoder_ticks reads.up reads.down = event_after m Decoder_ticks reads.up reads.down reads.carried reads.frames may fine.0 fine.1 in
      record {
        up = after.up_after;
        down = reads.down;
        carried = same_way m n reads.up after.up_after reads.down after.carried.to_chip after.at_host refl reads.carried;
        frames = after.frames;
        rests = after.at_host ∙ reads.rests;
        only = reads.only;
        run = turned_run refl tt refl (subst (λ (l : List Entry). CarefulRun start Fresh alone.Risen l (read_of ticks m (good_units reads.down))) (sym (append-nil past)) reads.run);
      }

  outside_may : (m : Machine) (event : OuterEvent) → May m (Outside_does event) → MayOutside m.outside event
  unfolding May
  outside_may m event may = may.1

  arriving_reads : (ticks : ℕ) (past : List Entry) (m : Machine) (event : OuterEvent) → IsArriving event → IsOfChip event → is_own event ≡ true → IsWithin event → May m (Outside_does event)
      → IsFine m (Outside_does event) → Marked past m → Reads start Fresh alone.Risen ticks past m
      → Reads start Fresh alone.Risen ticks (past ++ entries m (Outside_does event)) (happens m (Outside_does event))
  arriving_reads ticks past m event arriving of_chip own within may fine known reads =
      told_reads start Fresh tt alone.Risen ticks past m event tt within may fine (changes_of past m known) (arriving_told m.outside event arriving of_chip own (outside_may m event may)) reads

  -- ---- events

  -- it is this one, and leads there
  comes : (next to : Phase) (event is : Event) (past : List Entry) (m : Machine) → event ≡ is → next ≡ to → May m event → IsFine m event
      → (May m is → IsFine m is → At to (past ++ entries m is) (happens m is)) → Keeps next past m event
  comes next to event is past m event_is next_is may fine goes =
      event_then Anything At next to event is past m event_is next_is (anything past (entries m is), goes (subst (May m) event_is may) (subst (IsFine m) event_is fine))

  event_keeps : (here next : Phase) (past : List Entry) (m : Machine) (event : Event) → Goes here m event next → May m event → IsFine m event → KnowMarks here past m → At here past m
      → Keeps next past m event
  event_keeps (Said_line line) next past m event (event_is, next_is) may fine marks reads =
      event_then Anything At next (Begun line) event (Outside_does Begins_line) past m event_is next_is (begins_reads line past m reads)
  event_keeps (Doing line (first ∷ left)) next past m event (event_is, next_is) may fine marks reads =
      comes next (Doing line left) event first past m event_is next_is may fine
      (λ may_it fine_it. effect_next start past m line first left may_it fine_it (λ others. changes_of past m (marked_of line (first ∷ left) past m others marks)) reads)
  event_keeps (To_tick (suc ticks)) next past m event (event_is, next_is) may fine marks reads =
      comes next (Ticked ticks) event (Outside_does Begins_tick) past m event_is next_is may fine (λ may_it fine_it. tick_reads start reads.0 ticks past m may_it fine_it reads.1)
  event_keeps (Arriving (suc frames) ticks) next past m event (drawn, route, event_is, next_is) may fine marks reads =
      comes next (Arriving frames ticks) event (Outside_does (Arrives drawn route)) past m event_is next_is may fine
      (λ may_it fine_it. arriving_reads ticks past m (Arrives drawn route) tt tt refl tt may_it fine_it marks reads)
  event_keeps (Giving (suc results) ticks) next past m event (route, event_is, next_is) may fine marks reads =
      comes next (Giving results ticks) event (Outside_does (Gives route)) past m event_is next_is may fine
      (λ may_it fine_it. arriving_reads ticks past m (Gives route) tt tt refl tt may_it fine_it marks reads)
  event_keeps (Ticking_devices place (suc count) ticks) next past m event (drawn, route, event_is, next_is) may fine marks reads =
      comes next (Ticking_devices (place + 1) count ticks) event (Outside_does (Device_ticks place drawn route)) past m event_is next_is may fine
      (λ may_it fine_it. arriving_reads ticks past m (Device_ticks place drawn route) tt tt refl tt may_it fine_it marks reads)
  event_keeps (Ticking_chip ticks) next past m event (event_is, next_is) may fine marks reads =
      comes next (Ticking_decoder ticks) event (Outside_does Chip_ticks) past m event_is next_is may fine
      (λ may_it fine_it.
      told_reads start Fresh tt alone.Risen ticks past m Chip_ticks tt tt may_it fine_it (changes_of past m marks) (tick_told m.outside reads.frames (outside_may m Chip_ticks may_it)) reads)
  event_keeps (Ticking_decoder ticks) next past m event (event_is, next_is) may fine marks reads =
      comes next (Ticking_host (tick_events m.host.state) ticks) event Decoder_ticks past m event_is next_is may fine
      (λ may_it fine_it. (tick_silent m.host.state, decoder_reads ticks past m may_it fine_it reads))
  event_keeps (Ticking_host (first ∷ events) ticks) next past m event (event_is, next_is) may fine marks reads =
      comes next (Ticking_host events ticks) event (Host_does first) past m event_is next_is may fine
      (λ may_it fine_it.
      (reads.0.1, does_reads start Fresh (alone.Ticking (first ∷ events)) (alone.Ticking events) ticks past m first (refl, refl) (reads.0.0 m.host.state) may_it fine_it reads.1))
  event_keeps (Sleeping passes ticks) next past m event (node, wants, event_is, next_is) may fine marks reads =
      comes next (Sleeping passes ticks) event (Host_does (no_more_event m.host.state node)) past m event_is next_is may fine
      (λ may_it fine_it.
      does_reads start Looked alone.Sleeping alone.Sleeping ticks past m (no_more_event m.host.state node) (node, wants, refl, refl) ((no_more_silent m.host.state node).0 m.host.state) may_it fine_it reads)
  event_keeps (Submitting passes ticks) next past m event (asked, is, event_is, next_is) may fine marks reads =
      comes next (Submitting passes ticks) event (Host_does asked) past m event_is next_is may fine
      (λ may_it fine_it.
      does_reads start Looked alone.Submitting alone.Submitting ticks past m asked (is, refl) ((next_silent m.host.state asked is).0 m.host.state) may_it fine_it
      reads)
  event_keeps (Moving passes ticks) next past m event (rest, ways, event_is, next_is) may fine marks reads =
      let count : ℕ = length m.outside.outer.to_chip.bytes in
      comes next (Moved true passes ticks) event (Outside_does (Chip_takes count rest ways)) past m event_is next_is may fine
      (λ may_it fine_it.
      answered_reads start Looked tt (OnlyThen true (happens m (Outside_does (Chip_takes count rest ways)))) ticks past m (Chip_takes count rest ways) tt may_it fine_it (changes_of past m marks)
      (takes_told m.outside count rest ways reads.frames (outside_may m (Chip_takes count rest ways) may_it)) (λ came. moves_on m count rest ways may_it)
      (turned Looked Looked alone.Resting alone.Open ticks past m (λ came only. (refl, tt)) refl reads))
  event_keeps (Moved has_moved passes ticks) next past m event (rest, items, done, event_is, next_is) may fine marks reads =
      let taken : Event = Host_takes (length m.outside.outer.to_host.bytes) rest items done in
      comes next (Sleeping passes ticks) event taken past m event_is next_is may fine
      (λ may_it fine_it.
      part_over NoneCame AreFrames (all_judged Looked items) Looked alone.Open alone.Sleeping ticks (past ++ entries m taken) (happens m taken)
      (λ came none. (refl, (may_pump (all_judged Looked items) came none, subst AreFrames (sym none) tt), subst AreFrames (sym none) tt)) (sym (all_pump items Looked))
      (takes_reads start Looked tt (OnlyThen has_moved m) ticks past m rest items done may_it fine_it reads))
  event_keeps here next past m event goes may fine marks reads = absurd goes

  -- ---- parts that begin

  to : (next phase : Phase) (past : List Entry) (m : Machine) → next ≡ phase → At phase past m → At next past m
  to next phase past m is reads = subst (λ (q : Phase). At q past m) (sym is) reads

  moved_not : (left : ℕ) (past : List Entry) (m : Machine) → Reads start Looked alone.Open left past m → ReadsWith (OnlyThen false m) start Looked alone.Open left past m
  moved_not left past m reads =
      record { up = reads.up; down = reads.down; carried = reads.carried; frames = reads.frames; rests = reads.rests; only = reads.only; run = reads.run }

  -- where no byte can move no answer waits
  settles : (has_moved : Bool) (left : ℕ) (past : List Entry) (m : Machine) → IsStill (is_stalled m.outside.outer) m.outside.outer.to_host.bytes
      → ReadsWith (OnlyThen has_moved m) start Looked alone.Open left past m → Reads start Looked alone.Sleeping left past m
  settles has_moved left past m still reads =
      turned Looked Looked alone.Open alone.Sleeping left past m (λ came only. (refl, (tt, only))) refl
      (record { up = reads.up; down = reads.down; carried = reads.carried; frames = reads.frames; rests = reads.rests; only = by has_moved reads.only still; run = reads.run })
    where
      by : (moved : Bool) → OnlyThen moved m (good_units reads.down) → IsStill (is_stalled m.outside.outer) m.outside.outer.to_host.bytes → AreFrames (good_units reads.down)
      by false frames still = frames
      by true moves (inl stalled) = absurd (let bad : true ≡ false = sym stalled ∙ moves in cc)
      by true moves (inr none) =
          let carried : Feeds no_rest [] no_rest reads.down =
          subst (λ (l : List ℕ). Feeds no_rest l no_rest reads.down) none (subst (λ (r : Rest). Feeds r m.outside.outer.to_host.bytes no_rest reads.down) reads.rests reads.carried.to_host) in
          subst (λ (l : List Item). AreFrames (good_units l)) (feeds_all no_rest no_rest [] reads.down [] (record { reads = (tt, refl); ticks = refl }) carried).all tt

  turn_keeps : (here next : Phase) (past : List Entry) (m : Machine) → Turns here m next → At here past m → At next past m
  turn_keeps (Begun line) next past m (inl (events, is, next_is)) reads = to next (Doing line events) past m next_is (effect_reads start past m line events is reads)
  turn_keeps (Begun line) next past m (inr (ticks, line_is, next_is)) reads =
      to next (To_tick ticks) past m next_is
      (Fresh, turned Fresh Fresh (alone.Asked (lines.Tick ticks)) alone.Resting ticks past m (λ came only. (inr (ticks, refl, refl), tt)) refl (subst (λ (l : Line). Reads start Fresh (alone.Asked l) (ticks_of l) past m) line_is reads))
  turn_keeps (Doing line []) next past m next_is reads = to next (Sleeping 64 0) past m next_is (turned Fresh Looked alone.Open alone.Sleeping 0 past m (λ came only. (refl, (tt, only))) refl (effect_done start past m line reads))
  turn_keeps (To_tick zero) next past m next_is reads = to next Between past m next_is reads
  turn_keeps (Ticked ticks) next past m next_is reads = to next _ past m next_is reads
  turn_keeps (Arriving zero ticks) next past m next_is reads = to next _ past m next_is reads
  turn_keeps (Giving zero ticks) next past m next_is reads = to next _ past m next_is reads
  turn_keeps (Ticking_devices place zero ticks) next past m next_is reads = to next _ past m next_is reads
  turn_keeps (Ticking_host [] ticks) next past m next_is reads =
      to next (Sleeping 64 ticks) past m next_is
      (turned Fresh Looked alone.Open alone.Sleeping ticks past m (λ came only. (refl, (tt, only))) refl
      (turned Fresh Fresh (alone.Ticking []) alone.Open ticks past m (λ came only. (refl, tt)) refl reads.1))
  turn_keeps (Sleeping passes ticks) next past m (wants, next_is) reads =
      to next (Submitting passes ticks) past m next_is (turned Looked Looked alone.Sleeping alone.Submitting ticks past m (λ came only. ((wants, refl, only), tt)) refl reads)
  turn_keeps (Submitting zero ticks) next past m (pumped, next_is) reads =
      to next (To_tick ticks) past m next_is (Looked, turned Looked Looked alone.Submitting alone.Resting ticks past m (λ came only. ((pumped, refl), tt)) refl reads)
  turn_keeps (Submitting (suc passes) ticks) next past m (pumped, next_is) reads =
      to next (Moving passes ticks) past m next_is (turned Looked Looked alone.Submitting alone.Resting ticks past m (λ came only. ((pumped, refl), tt)) refl reads)
  turn_keeps (Moving passes ticks) next past m (still, next_is) reads =
      to next (Moved false passes ticks) past m next_is (moved_not ticks past m (turned Looked Looked alone.Resting alone.Open ticks past m (λ came only. (refl, tt)) refl reads))
  turn_keeps (Moved has_moved passes ticks) next past m (still, next_is) reads =
      to next (Sleeping (passes_after has_moved passes) ticks) past m next_is (settles has_moved ticks past m still reads)
  turn_keeps here next past m turns reads = absurd turns

  pub reading_walk : Walk MayMark KnowMarks → WalkWhere IsFine Anything (ReadsMarked start)
  reading_walk marks = record {
    said = λ past m words line read known. (tt, ((marks.said past m words line read known.0).1, said_reads known.1.0 past m words line read known.1.1));
    event = λ here next past m event goes may fine known.
        let one = event_keeps here next past m event goes may fine known.0 known.1 in
        (one.0, ((marks.event here next past m event goes may known.0).1, one.1));
    turn = λ here next past m turns known. (marks.turn here next past m turns known.0, turn_keeps here next past m turns known.1);
  }

  -- ---- what was read so far

  told_by : {Such : List LineUnit → Type 0} {stage : Stage} (here : alone.Phase) (left : ℕ) (past : List Entry) (m : Machine) → ReadsWith Such start stage here left past m → ToldCarefully start past
  told_by here left past m reads = (here, read_of left m (good_units reads.down), reads.run.run, reads.run.careful)

  effect_told : (line : Line) (left : List Event) (past : List Entry) (m : Machine) → EffectReads start line left past m → ToldCarefully start past
  effect_told line left past m (Asks_host event rest is leaves asked reads) = told_by (alone.Asked line) 0 past m reads
  effect_told line left past m (Refuses_line refused is reads) = told_by (alone.Asked line) 0 past m reads
  effect_told line left past m (Shows_node node line_is is reads) = told_by (alone.Asked line) 0 past m reads
  effect_told line left past m (Starts_again state line_is is reads) = told_by (alone.Asked line) 0 past m reads
  effect_told line left past m (Does_silently event is silent nothing reads) = told_by (alone.Asked line) 0 past m reads
  effect_told line left past m (Does_by_hand event is by_hand others reads) = told_by (alone.Asked line) 0 past m reads
  effect_told line left past m (Begins_discovery asked line_is is asks reads) = told_by (alone.Asked line) 0 past m reads
  effect_told line left past m (Goes_on_asking line_is asks reads) = told_by (alone.Asked line) 0 past m reads
  effect_told line left past m (Clears_both is reads) = (alone.Open, read_of 0 m [], reads.run.run, reads.run.careful)
  effect_told line left past m (Clears_one is reads) = (alone.Open, read_of 0 m [], reads.run.run, reads.run.careful)
  effect_told line left past m (Is_done leaves reads) = told_by alone.Open 0 past m reads

  pub all_told : (here : Phase) (past : List Entry) (m : Machine) → At here past m → ToldCarefully start past
  all_told Between past m reads = told_by alone.Resting 0 past m reads.1
  all_told (Said_line line) past m reads = told_by (alone.Asked line) (ticks_of line) past (begun m) reads
  all_told (Begun line) past m reads = told_by (alone.Asked line) (ticks_of line) past m reads
  all_told (Doing line left) past m reads = effect_told line left past m reads
  all_told (To_tick ticks) past m reads = told_by alone.Resting ticks past m reads.1
  all_told (Ticked ticks) past m reads = told_by alone.Risen ticks past m reads
  all_told (Arriving frames ticks) past m reads = told_by alone.Risen ticks past m reads
  all_told (Giving results ticks) past m reads = told_by alone.Risen ticks past m reads
  all_told (Ticking_devices place count ticks) past m reads = told_by alone.Risen ticks past m reads
  all_told (Ticking_chip ticks) past m reads = told_by alone.Risen ticks past m reads
  all_told (Ticking_decoder ticks) past m reads = told_by alone.Risen ticks past m reads
  all_told (Ticking_host events ticks) past m reads = told_by (alone.Ticking events) ticks past m reads.1
  all_told (Sleeping passes ticks) past m reads = told_by alone.Sleeping ticks past m reads
  all_told (Submitting passes ticks) past m reads = told_by alone.Submitting ticks past m reads
  all_told (Moving passes ticks) past m reads = told_by alone.Resting ticks past m reads
  all_told (Moved has_moved passes ticks) past m reads = told_by {Such = OnlyThen has_moved m} alone.Open ticks past m reads

-- ---- all lines

pub first_reads : (keys : Keys) (records : Option (List (List ℕ))) (devices : List State) → ReadsAtRest (first_alone keys records) 0 [] (first_machine keys records devices)
unfolding first_outer
first_reads keys records devices = (
  Looked,
  record {
    up = [];
    down = [];
    carried = first_carried keys records devices;
    frames = first_frames keys records devices;
    rests = refl;
    only = tt;
    run = starts (first_alone keys records);
  },
)

pub all_fine : (m : Machine) (events : List Event) → AllAtRest m events → AllWriteWell m events → AllAlong IsFine m events
all_fine m [] rests writes = tt
all_fine m (event ∷ events) rests writes = ((rests.0, writes.0), all_fine (happens m event) events rests.1 writes.1)

pub keeper_told : (start : HostMachine) (past : List Entry) (m : Machine) → ReadsAtRest start 0 past m
    → (n : HostMachine) × RunCarefully start alone.Resting past n × (n.records ≡ m.records) × (n.left ≡ 0)
keeper_told start past m (stage, reads) = (read_of 0 m (good_units reads.down), (reads.run.run, reads.run.careful), refl, refl)

-- ---- what is known of a host

module _ (start : HostMachine) (Know : Knowledge) (each : (stage : Stage) (here : alone.Phase) (told : List Entry) (m : HostMachine) → CarefulRun start stage here told m → Know here told m) where
  as_run : {stage : Stage} (here : alone.Phase) (left : ℕ) (past : List Entry) (m : Machine) (came : List LineUnit) → CarefulRun start stage here past (read_of left m came) → KnowsAs Know here left past m
  as_run {stage = stage} here left past m came run = (came, each stage here past (read_of left m came) run)

  as_read : {Such : List LineUnit → Type 0} {stage : Stage} (here : alone.Phase) (left : ℕ) (past : List Entry) (m : Machine) → ReadsWith Such start stage here left past m → KnowsAs Know here left past m
  as_read here left past m reads = as_run here left past m (good_units reads.down) reads.run

  effect_known : (line : Line) (left : List Event) (past : List Entry) (m : Machine) → EffectReads start line left past m → KnowsAs Know (alone.Asked line) 0 past m ⊎ KnowsAs Know alone.Open 0 past m
  effect_known line left past m (Asks_host event rest are leaves asked reads) = inl (as_read (alone.Asked line) 0 past m reads)
  effect_known line left past m (Refuses_line refusal are reads) = inl (as_read (alone.Asked line) 0 past m reads)
  effect_known line left past m (Shows_node node is are reads) = inl (as_read (alone.Asked line) 0 past m reads)
  effect_known line left past m (Starts_again state is are reads) = inl (as_read (alone.Asked line) 0 past m reads)
  effect_known line left past m (Does_silently event are silent asks reads) = inl (as_read (alone.Asked line) 0 past m reads)
  effect_known line left past m (Does_by_hand event are hand others reads) = inl (as_read (alone.Asked line) 0 past m reads)
  effect_known line left past m (Begins_discovery asked is are asks reads) = inl (as_read (alone.Asked line) 0 past m reads)
  effect_known line left past m (Goes_on_asking is asks reads) = inl (as_read (alone.Asked line) 0 past m reads)
  effect_known line left past m (Clears_both are reads) = inr (as_run alone.Open 0 past m [] reads.run)
  effect_known line left past m (Clears_one are reads) = inr (as_run alone.Open 0 past m [] reads.run)
  effect_known line left past m (Is_done leaves reads) = inr (as_read alone.Open 0 past m reads)

  pub host_knows : (here : Phase) (past : List Entry) (m : Machine) → ReadsAt start here past m → HostKnows Know here past m
  host_knows Between past m reads = as_read alone.Resting 0 past m reads.1
  host_knows (Said_line line) past m reads = as_read (alone.Asked line) (ticks_of line) past (begun m) reads
  host_knows (Begun line) past m reads = as_read (alone.Asked line) (ticks_of line) past m reads
  host_knows (Doing line left) past m reads = effect_known line left past m reads
  host_knows (To_tick ticks) past m reads = as_read alone.Resting ticks past m reads.1
  host_knows (Ticked ticks) past m reads = as_read alone.Risen ticks past m reads
  host_knows (Arriving frames ticks) past m reads = as_read alone.Risen ticks past m reads
  host_knows (Giving results ticks) past m reads = as_read alone.Risen ticks past m reads
  host_knows (Ticking_devices place count ticks) past m reads = as_read alone.Risen ticks past m reads
  host_knows (Ticking_chip ticks) past m reads = as_read alone.Risen ticks past m reads
  host_knows (Ticking_decoder ticks) past m reads = as_read alone.Risen ticks past m reads
  host_knows (Ticking_host events ticks) past m reads = as_read (alone.Ticking events) ticks past m reads.1
  host_knows (Sleeping passes ticks) past m reads = as_read alone.Sleeping ticks past m reads
  host_knows (Submitting passes ticks) past m reads = as_read alone.Submitting ticks past m reads
  host_knows (Moving passes ticks) past m reads = as_read alone.Resting ticks past m reads
  host_knows (Moved has_moved passes ticks) past m reads = as_read {Such = OnlyThen has_moved m} alone.Open ticks past m reads
