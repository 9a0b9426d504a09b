-- The reading of the simulator's machine goes on: with what happens outside the host, with what the host does, and where it takes bytes.
use Rattle.std.proofs.Common.{◌≡◌, ℕ, suc, Bool, true, false, inl, inr, List, [], ◌∷◌, ◌++◌, length, refl, sym, ap, ◌∙◌, subst, append-nil}
use Rattle.std.specs.List.{AllByRecursion}
use Rattle.zw_base.proofs.Each.{all-append, all-weaker}
use Rattle.serial_frame.specs.Stream.{Feeds, Rest, no_rest}
use Rattle.serial_frame.specs.declared.item.Item.{Item}
use Rattle.serial_frame.specs.declared.unit.Unit.{Unit as LineUnit}
use Rattle.serial_pipes.specs.State.{WayState}
use Rattle.zw_words.specs.declared.side.Side.TheVariants.{Chip}
use Rattle.zw_text.specs.declared.entry.Entry.{Entry}
use Rattle.chip_sim.specs.State.{ChipParts}
use Rattle.proof_line.specs.host_model.Events.{HostEvent}
use Rattle.proof_line.specs.host_model.Did.{MayAll, outs_all}
use Rattle.proof_line.specs.host_model.Outs.{answers}
use Rattle.proof_line.specs.outside_model.State.{OuterState, Outcome, Outside}
use Rattle.proof_line.specs.outside_model.Events.{OuterEvent, Begins_tick, devices_after, has_entered, outcome, stamp}
use Rattle.proof_line.specs.outside_model.Did.{entries_all, happens_all}
use Rattle.proof_line.specs.world_model.State.{Machine, host_does, host_entries}
use Rattle.proof_line.specs.world_model.Events.{Event, Host_does, Host_takes, Outside_does, May, entries, fed, happens, notes}
use Rattle.proof_line.specs.proof_serial.Chip.{HasFrames}
use Rattle.proof_line.specs.proof_serial.Line.{Carried, LineAfter}
use Rattle.proof_line.specs.proof_serial.Units.{good_units}
use Rattle.proof_line.specs.proof_serial.Way.{Carries, items_all, written_all}
use Rattle.proof_line.proofs.EndedItems.{feeds_all}
use Rattle.proof_line.proofs.Events.{event_after}
use Rattle.proof_line.proofs.Outer.{entered_still}
use Rattle.proof_line.proofs.Ways.{carries_all}
use Rattle.proof_line.proofs.Times.{IsWithin, outcome_time}
use Rattle.proof_line.proofs.Tellings.{Tells, tells_none, tells_weaker}
use Rattle.proof_alone.specs.State.{HostMachine, host_machine}
use Rattle.proof_alone.specs.Steps as step
use Rattle.proof_alone.specs.Steps.{AreFrames, IsFramed, IsOfOthers}
use Rattle.proof_alone.specs.Phases.{GoesBy, IsBetween, MayCome, Open, Phase, Resting, Risen}
use Rattle.proof_alone.specs.Reading.{IsFine, Reads, ReadsWith, read_of}
use Rattle.proof_alone.specs.Careful.{CarefulRun, Fresh, MayJudge, MayMeet, Stage}
use Rattle.proof_alone.proofs.Carefully.{all_judged, careful_leads, stepped}
use Rattle.proof_alone.proofs.Coming.{AllChange, MayTell, any_told, asides_run, at_time, framed_items, good_both, stamp_run, tells_run}
use Rattle.proof_alone.proofs.Hosting.{does_run, items_run, outside_at, outside_enters, outside_next, outside_put}
use Rattle.proof_alone.proofs.Others.{IsAside, ToldFrames, ToldOutside}
use Rattle.proof_alone.proofs.Stamps.{Time3, outs_told, same_entered, same_stamp}

-- the way to the host is as it was
pub same_way : (m n : Machine) (up up_after down : List Item) → Carries n.outside.outer.chip.decoder n.outside.outer.to_chip up_after → n.host.decoder ≡ m.host.decoder
    → n.outside.outer.to_host.bytes ≡ m.outside.outer.to_host.bytes → Carried m up down → Carried n up_after down
same_way m n up up_after down to_chip decoder bytes carried = record {
  to_chip = to_chip;
  to_host = subst (λ (l : List ℕ). Feeds n.host.decoder l no_rest down) (sym bytes) (subst (λ (r : Rest). Feeds r m.outside.outer.to_host.bytes no_rest down) (sym decoder) carried.to_host);
}

-- the host may do it
pub may_one : (m : Machine) (event : HostEvent) → May m (Host_does event) → MayAll m.host.state (event ∷ [])
unfolding May
may_one m event may = may

-- any unit may come where items are judged
any_come : (units : List LineUnit) → AllByRecursion (MayCome Open) units
any_come [] = tt
any_come (unit ∷ units) = (inr refl, any_come units)

-- and entries of others wherever they may, but for those of a device that is shown
aside_told : (here : Phase) (e : Entry) → IsAside e → MayTell here e
aside_told Risen e aside = aside
aside_told here e aside = (aside.0, tt)

may_tell : (here : Phase) (way : WayState) (units : List LineUnit) (entries : List Entry) → Tells IsAside Chip way units entries → Tells (MayTell here) Chip way units entries
may_tell here way units entries tells = tells_weaker IsAside (MayTell here) (aside_told here) Chip way units entries tells

-- all that came was judged
abbrev pub NoneCame : List LineUnit → Type 0
NoneCame came = came ≡ []

-- all items that were on their way were judged
none_left : (items left : List Item) → items ≡ items ++ left → left ≡ []
none_left [] left is = sym is
none_left (item ∷ items) left is = none_left items left cc

module _ (start : HostMachine) (stage : Stage) where
  -- ---- outside the host

  -- what is known of its entries is enough to run on with them, where no number is to be entered
  pub outer_reads : (Such : Entry → Type 0) (Only Later : List LineUnit → Type 0) (here : Phase) (left : ℕ) (past : List Entry) (m : Machine) (event : OuterEvent) → IsBetween here → IsWithin event
      → May m (Outside_does event) → IsFine m (Outside_does event) → (reads : ReadsWith Only start stage here left past m) (tells : ToldOutside Such m.outside event)
      → ((came : List LineUnit) → Only came → Later (came ++ good_units (items_all m.outside.outer.to_host tells.units)))
      → ((all : List Entry) → CarefulRun start stage here all (host_machine m.keys m.records m.host.state (good_units reads.down) m.outside.outer.clock left false)
      → CarefulRun start stage here (all ++ (outcome m.outside event).entries)
      (host_machine m.keys m.records m.host.state (good_units reads.down ++ good_units (items_all m.outside.outer.to_host tells.units)) m.outside.outer.clock left false))
      → ReadsWith Later start stage here left (past ++ entries m (Outside_does event)) (happens m (Outside_does event))
  unfolding happens entries
  outer_reads Such Only Later here left past m event between within may fine reads tells grows runs =
      let after : LineAfter m (Outside_does event) reads.up reads.down = event_after m (Outside_does event) reads.up reads.down reads.carried reads.frames may fine.0 fine.1 in
      let still = entered_still x.outer said in
      let fit = tells.fit (subst (λ (c : ChipParts). HasFrames c.state.port) still.chip after.frames) in
      let bytes : (has_entered x.outer said).to_host.bytes ≡ (written_all o.to_host tells.units).bytes = ap (λ (y : WayState). y.bytes) still.to_host ∙ tells.to_host in
      let same = outcome_time m.outside event within in
      let ran = stamp_run (CarefulRun start) (careful_leads start) stage stage o here here m.keys m.records m.records m.host.state m.host.state came (came ++ good_units more) left past said reads.run goes in
      record {
        up = after.up_after;
        down = reads.down ++ more;
        carried = record {
          to_chip = after.carried.to_chip;
          to_host = subst (λ (l : List ℕ). Feeds m.host.decoder l no_rest (reads.down ++ more)) (sym bytes) (carries_all m.host.decoder o.to_host tells.units reads.down reads.carried.to_host fit);
        };
        frames = after.frames;
        rests = after.at_host ∙ reads.rests;
        only = subst Later (sym (good_both reads.down more)) (grows came reads.only);
        run = subst (λ (l : List LineUnit). CarefulRun start stage here (past ++ stamp x.outer said) (read_of left (happens m (Outside_does event)) l)) (sym (good_both reads.down more))
            (subst (λ (l : List Entry). CarefulRun start stage here (past ++ l) (read_of left (happens m (Outside_does event)) (came ++ good_units more))) (sym (same_stamp o x.outer said same))
            (subst (λ (t : Time3). CarefulRun start stage here (past ++ stamp o said) (at_time m.keys m.records m.host.state (came ++ good_units more) left t)) (sym (same_entered o x.outer said same)) ran));
      }
    where
      o : OuterState
      o = m.outside.outer

      x : Outcome
      x = outcome m.outside event

      said : List Entry
      said = x.entries

      more : List Item
      more = items_all o.to_host tells.units

      came : List LineUnit
      came = good_units reads.down

      -- nothing is told while the number is to be entered
      none : (all : List Entry) → said ≡ [] → CarefulRun start stage here all (host_machine m.keys m.records m.host.state came o.clock left true)
          → CarefulRun start stage here (all ++ said) (host_machine m.keys m.records m.host.state (came ++ good_units more) o.clock left true)
      none all is run =
          let no_units : tells.units ≡ [] = tells_none Such Chip o.to_host tells.units (subst (λ (l : List Entry). Tells Such Chip o.to_host tells.units l) is tells.told) in
          let no_more : came ++ good_units more ≡ came = ap (λ (l : List LineUnit). came ++ good_units (items_all o.to_host l)) no_units ∙ append-nil came in
          subst (λ (l : List LineUnit). CarefulRun start stage here (all ++ said) (host_machine m.keys m.records m.host.state l o.clock left true)) (sym no_more)
          (subst (λ (l : List Entry). CarefulRun start stage here l (host_machine m.keys m.records m.host.state came o.clock left true)) (sym (ap (λ (l : List Entry). all ++ l) is ∙ append-nil all)) run)

      goes : (awaits : Bool) (all : List Entry) → (awaits ≡ true → said ≡ []) → CarefulRun start stage here all (host_machine m.keys m.records m.host.state came o.clock left awaits)
          → CarefulRun start stage here (all ++ said) (host_machine m.keys m.records m.host.state (came ++ good_units more) o.clock left awaits)
      goes true all silent run = none all (silent refl) run
      goes false all silent run = runs all run

  -- frames of the chip among entries of others, where each change that waits changes its frame
  pub told_reads : MayMeet stage → (here : Phase) (left : ℕ) (past : List Entry) (m : Machine) (event : OuterEvent) → IsBetween here → IsWithin event → May m (Outside_does event) → IsFine m (Outside_does event)
      → AllChange m.outside.outer.to_host.marks.garbles → ToldFrames m.outside event → Reads start stage here left past m
      → Reads start stage here left (past ++ entries m (Outside_does event)) (happens m (Outside_does event))
  told_reads meets here left past m event between within may fine changes tells reads =
      outer_reads IsAside AreFrames AreFrames here left past m event between within may fine reads tells.all
      (λ came all. all-append IsFramed came (good_units (items_all m.outside.outer.to_host tells.all.units)) all (framed_items m.outside.outer.to_host tells.all.units tells.framed))
      (λ all run.
      tells_run (CarefulRun start) (careful_leads start) stage m.keys m.records m.host.state left here between m.outside.outer.clock meets tells.all.units (outcome m.outside event).entries all (good_units reads.down) m.outside.outer.to_host
      (all-weaker IsFramed (MayCome here) (λ unit framed. inl framed) tells.all.units tells.framed) changes
      (may_tell here m.outside.outer.to_host tells.all.units (outcome m.outside event).entries tells.all.told) run)

  -- any units of it, where they may be judged
  pub answered_reads : MayMeet stage → (Later : List LineUnit → Type 0) (left : ℕ) (past : List Entry) (m : Machine) (event : OuterEvent) → IsWithin event → May m (Outside_does event) → IsFine m (Outside_does event)
      → AllChange m.outside.outer.to_host.marks.garbles → ToldOutside IsAside m.outside event → ((came : List LineUnit) → Later came) → Reads start stage Open left past m
      → ReadsWith Later start stage Open left (past ++ entries m (Outside_does event)) (happens m (Outside_does event))
  answered_reads meets Later left past m event within may fine changes tells later reads =
      outer_reads IsAside AreFrames Later Open left past m event tt within may fine reads tells (λ came all. later (came ++ good_units (items_all m.outside.outer.to_host tells.units)))
      (λ all run.
      tells_run (CarefulRun start) (careful_leads start) stage m.keys m.records m.host.state left Open tt m.outside.outer.clock meets tells.units (outcome m.outside event).entries all (good_units reads.down) m.outside.outer.to_host (any_come tells.units) changes
      (may_tell Open m.outside.outer.to_host tells.units (outcome m.outside event).entries tells.told) run)

  -- entries of others alone, any where items are judged
  pub quiet_reads : (left : ℕ) (past : List Entry) (m : Machine) (event : OuterEvent) → IsWithin event → May m (Outside_does event) → IsFine m (Outside_does event)
      → AllByRecursion IsOfOthers (outcome m.outside event).entries → (outcome m.outside event).outer.to_host.bytes ≡ m.outside.outer.to_host.bytes → Reads start stage Open left past m
      → Reads start stage Open left (past ++ entries m (Outside_does event)) (happens m (Outside_does event))
  quiet_reads left past m event within may fine asides bytes reads =
      outer_reads IsOfOthers AreFrames AreFrames Open left past m event tt within may fine reads (record { units = []; told = asides; to_host = bytes; fit = λ has. tt })
      (λ came all. subst AreFrames (sym (append-nil came)) all)
      (λ all run.
      subst (λ (l : List LineUnit). CarefulRun start stage Open (all ++ (outcome m.outside event).entries) (host_machine m.keys m.records m.host.state l m.outside.outer.clock left false))
      (sym (append-nil (good_units reads.down)))
      (asides_run (CarefulRun start) (careful_leads start) stage m.keys m.records m.host.state left Open tt m.outside.outer.clock (outcome m.outside event).entries all (good_units reads.down)
      (any_told (outcome m.outside event).entries asides) run))

  -- a tick begins
  pub tick_reads : (left : ℕ) (past : List Entry) (m : Machine) → May m (Outside_does Begins_tick) → IsFine m (Outside_does Begins_tick) → Reads start stage Resting (suc left) past m
      → Reads start Fresh Risen left (past ++ entries m (Outside_does Begins_tick)) (happens m (Outside_does Begins_tick))
  unfolding happens entries outcome devices_after
  tick_reads left past m may fine reads =
      let after : LineAfter m (Outside_does Begins_tick) reads.up reads.down = event_after m (Outside_does Begins_tick) reads.up reads.down reads.carried reads.frames may fine.0 fine.1 in
      record {
        up = after.up_after;
        down = reads.down;
        carried = record { to_chip = after.carried.to_chip; to_host = reads.carried.to_host };
        frames = after.frames;
        rests = reads.rests;
        only = reads.only;
        run = stepped (step.Begins_tick left) (refl, refl, refl) (tt, tt) refl refl refl reads.run;
      }

  -- ---- the host

  -- an event that answers no line
  silent_entries : (m : Machine) (event : HostEvent) → answers m.host.state event ≡ [] → entries m (Host_does event) ≡ host_entries m (event ∷ [])
  unfolding entries
  silent_entries m event none =
      ap (λ (l : List Entry). host_entries m (event ∷ []) ++ entries_all (host_does m (event ∷ [])).outside (notes l)) none ∙ append-nil (host_entries m (event ∷ []))

  silent_happens : (m : Machine) (event : HostEvent) → answers m.host.state event ≡ [] → happens m (Host_does event) ≡ host_does m (event ∷ [])
  unfolding happens
  silent_happens m event none =
      ap (λ (l : List Entry). record (host_does m (event ∷ [])) { outside = happens_all (host_does m (event ∷ [])).outside (notes l) }) none

  pub does_reads : (here next : Phase) (left : ℕ) (past : List Entry) (m : Machine) (event : HostEvent) → GoesBy here m.host.state event next → answers m.host.state event ≡ []
      → May m (Host_does event) → IsFine m (Host_does event) → Reads start stage here left past m → Reads start stage next left (past ++ entries m (Host_does event)) (happens m (Host_does event))
  does_reads here next left past m event goes none may fine reads =
      let after : LineAfter m (Host_does event) reads.up reads.down = event_after m (Host_does event) reads.up reads.down reads.carried reads.frames may fine.0 fine.1 in
      let same = silent_happens m event none in
      let n : Machine = happens m (Host_does event) in
      let ran = does_run Outside outside_at outside_put outside_next outside_enters (CarefulRun start) (careful_leads start) m.keys left stage here next past m.records m.host.state (good_units reads.down) m.outside event goes (may_one m event may) reads.run in
      record {
        up = after.up_after;
        down = reads.down;
        carried = same_way m n reads.up after.up_after reads.down after.carried.to_chip (ap (λ (k : Machine). k.host.decoder) same)
            (ap (λ (k : Machine). k.outside.outer.to_host.bytes) same ∙ ap (λ (y : WayState). y.bytes) (way_stays m event)) reads.carried;
        frames = after.frames;
        rests = after.at_host ∙ reads.rests;
        only = reads.only;
        run = subst (λ (l : List Entry). CarefulRun start stage next (past ++ l) (read_of left n (good_units reads.down))) (sym (silent_entries m event none))
            (subst (λ (k : Machine). CarefulRun start stage next (past ++ host_entries m (event ∷ [])) (read_of left k (good_units reads.down))) (sym same) ran);
      }
    where
      way_stays : (m : Machine) (event : HostEvent) → (host_does m (event ∷ [])).outside.outer.to_host ≡ m.outside.outer.to_host
      way_stays m event = (outs_told (outs_all m.host.state (event ∷ [])) m.outside).to_host

  -- it takes all bytes, and judges the items that end in them
  pub takes_reads : MayJudge stage → (Only : List LineUnit → Type 0) (left : ℕ) (past : List Entry) (m : Machine) (rest : Rest) (items : List Item) (events : List HostEvent)
      → May m (Host_takes (length m.outside.outer.to_host.bytes) rest items events) → IsFine m (Host_takes (length m.outside.outer.to_host.bytes) rest items events) → ReadsWith Only start stage Open left past m
      → ReadsWith NoneCame start (all_judged stage items) Open left (past ++ entries m (Host_takes (length m.outside.outer.to_host.bytes) rest items events)) (happens m (Host_takes (length m.outside.outer.to_host.bytes) rest items events))
  unfolding happens entries outcome devices_after May
  takes_reads judging Only left past m rest items events may fine reads =
      let count : ℕ = length m.outside.outer.to_host.bytes in
      let event : Event = Host_takes count rest items events in
      let all = feeds_all m.host.decoder rest m.outside.outer.to_host.bytes reads.down items may.feeds reads.carried.to_host in
      let after : LineAfter m event reads.up reads.down = event_after m event reads.up reads.down reads.carried reads.frames may fine.0 fine.1 in
      let came : good_units reads.down ≡ good_units items ++ good_units after.down_after = ap good_units after.down_is ∙ good_both items after.down_after in
      record {
        up = after.up_after;
        down = after.down_after;
        carried = after.carried;
        frames = after.frames;
        rests = all.rest;
        only = ap good_units (none_left items after.down_after (all.all ∙ after.down_is));
        run = items_run Outside outside_at outside_put outside_next outside_enters (CarefulRun start) (careful_leads start) m.keys left stage items events past m.records m.host.state (good_units after.down_after)
            (fed m count rest).outside judging may.judged may.may
            (subst (λ (l : List LineUnit). CarefulRun start stage Open past (read_of left m l)) came reads.run);
      }
