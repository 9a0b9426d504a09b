-- Lines of `replay` are runs of a host alone.
use Rattle.std.proofs.Common.{◌≡◌, ℕ, zero, suc, ◌+◌, Bool, true, false, inl, inr, List, [], ◌∷◌, ◌++◌, refl, sym, ap, ◌∙◌, subst, append-nil, append_assoc}
use Rattle.std.specs.Prelude.{Option, Some, None, length}
use Rattle.std.specs.List.{flat_map}
use Rattle.serial_frame.specs.Stream.{Rest}
use Rattle.serial_frame.specs.declared.item.Item.{Item}
use Rattle.serial_frame.specs.declared.item.Item.TheVariants.{Good, Refused as refused_item}
use Rattle.serial_frame.specs.declared.unit.Unit.{Unit as LineUnit}
use Rattle.s0_crypto.specs.declared.key_pair.Keys.{Keys}
use Rattle.zw_words.specs.declared.side.Side.TheVariants.{Chip as by_chip}
use Rattle.zw_text.specs.Line.{first_word, is_replayed}
use Rattle.zw_text.specs.Transcript.{line_of}
use Rattle.zw_text.specs.declared.line.Line.{Line}
use Rattle.zw_text.specs.declared.line.Line.TheVariants as lines
use Rattle.zw_text.specs.declared.line.ReplayLine.{ReplayLine}
use Rattle.zw_text.specs.declared.line.ReplayLine.TheVariants.{Plain, Chip}
use Rattle.zw_text.specs.declared.entry.Refusal.{Refusal}
use Rattle.zw_text.specs.declared.entry.Entry.{Entry}
use Rattle.zw_text.specs.declared.entry.Entry.TheVariants as entry
use Rattle.law_transcript.specs.Restarts.{ticks_asked, ticks_of}
use Rattle.host_orders.specs.Errands.{get_refusal, send_refusal}
use Rattle.host_orders.specs.declared.refused.Refused.{Refused}
use Rattle.host_model.specs.State.{HostState, node_of}
use Rattle.host_model.specs.Events.{HostEvent, Accepts, Cancels, Joins, Queues, Queues_interview, Queues_probe}
use Rattle.host_model.specs.Asking.{carriage_for, interview_refusal, places_refusal}
use Rattle.host_model.specs.Did.{after_all, outs_all, records_all, texts_of}
use Rattle.host_model.specs.May.{known_of}
use Rattle.host_model.specs.Outs.{answers}
use Rattle.host_model.specs.Pumping.{Pumps}
use Rattle.host_model.specs.Ticking.{tick_events}
use Rattle.host_model.specs.declared.out.HostOut.{HostOut}
use Rattle.host_requests.specs.declared.task.Task.TheVariants as task
use Rattle.outside_model.specs.State.{OuterState}
use Rattle.world_model.specs.State.{with_texts}
use Rattle.world_model.specs.Events.{Event as WorldEvent, shown_values}
use Rattle.world_model.specs.Lines.{Asks as WorldAsks}
use Rattle.world_model.specs.Refusals.{IsRefused}
use Rattle.proof_serial.specs.Units.{good_units}
use Rattle.run_replay.specs.Machine.{Lone, Event, Does_asked, Does_itself, Takes, Ticks, Refuses, Shows_values, May, MayAll, alone, Then, entries, entries_of, happens, happens_all}
use Rattle.run_replay.specs.Lines.{AreTicks, IsEffect, IsLine, IsPlain, IsPump, IsReplayed, IsTaking, by_host}
use Rattle.run_replay.proofs.EventLists.{happens_all-append}
use Rattle.proof_asking.specs.proof_requests.proof_alone.State.{HostMachine, host_machine, with_world}
use Rattle.proof_asking.specs.proof_requests.proof_alone.Steps as step
use Rattle.proof_asking.specs.proof_requests.proof_alone.Steps.{IsAskedBy}
use Rattle.proof_asking.specs.proof_requests.proof_alone.Phases.{Phase, Resting, Asked, Risen, Open}
use Rattle.proof_asking.specs.proof_requests.proof_alone.Careful.{Fresh, Looked, Read, Reading, Stage, stage_pumped}
use Rattle.proof_asking.proofs.Carefully.{Leads, all_judged, goes_on, still_reads, turns_on}
use Rattle.proof_asking.proofs.InOrder.{asked_puts, is_asked}
use Rattle.proof_asking.proofs.Hosting.{items_run, kept, pump_run, tick_and_pump}
use Rattle.proof_asking.specs.proof_line.Arrivals.{AreTexts}
use Rattle.proof_replay.specs.Heard.{AreReplayed, IsRun, Replayed, heard_all, heard_at, heard_of, lone_after, plain_of}
use Rattle.proof_replay.specs.Linked.{KnowsLine, KnowsLineAt}
use Rattle.proof_replay.proofs.CameItems.{came_texts, refused_answers}
use Rattle.proof_replay.proofs.LineHeard.{HostsObey, alone_line, asked_alone, asked_plain, asked_ticks, bytes_line, came_so, pump_line, refused_line, refused_ticks, rests_at, tick_line, ticks_line, told_line, words_line}
use Rattle.proof_replay.proofs.Putting.{alone_at, alone_enters, alone_next, alone_put, awaiting, clock_at, in_tick, untimed}

-- ---- lists of events

heard_both : (m : Lone) (a b : List Event) → heard_all m (a ++ b) ≡ heard_all m a ++ heard_all (happens_all m a) b
heard_both m [] b = refl
heard_both m (event ∷ a) b =
    ap (λ (l : List Entry). heard_at m event ++ l) (heard_both (happens m event) a b)
    ∙ sym (append_assoc (heard_at m event) (heard_all (happens m event) a) (heard_all (happens_all (happens m event) a) b))

may_first : (m : Lone) (a b : List Event) → MayAll m (a ++ b) → MayAll m a
may_first m [] b may = tt
may_first m (event ∷ a) b may = (may.0, may_first (happens m event) a b may.1)

may_rest : (m : Lone) (a b : List Event) → MayAll m (a ++ b) → MayAll (happens_all m a) b
may_rest m [] b may = may
may_rest m (event ∷ a) b may = may_rest (happens m event) a b may.1

-- No line reads the records. So those of the run need not be the keeper's, but they stand so to them, and go on doing so.
module _ (Led : Stage → Phase → List Entry → HostMachine → Type 0) (leads : Leads Led) (keys : Keys) (Beside : Option (List (List ℕ)) → Option (List (List ℕ)) → Type 0)
    (grows : (records held : Option (List (List ℕ))) (texts : List (List ℕ)) → Beside records held → Beside (with_texts records texts) (with_texts held texts)) (obey : HostsObey) where
  -- a careful run to here, with nothing that came left, and what is known of the line
  abbrev pub At : Stage → Phase → ℕ → Bool → List Entry → Lone → Type 0
  At stage here left awaits past m =
      (held : Option (List (List ℕ))) × Beside m.records held × Led stage here past (host_machine keys held m.host.state [] m.clock left awaits)
      × KnowsLineAt here left awaits past m.clock m.host.state

  -- with the records of what was done
  grown : (m : Lone) (held : Option (List (List ℕ))) (events : List HostEvent) → Beside m.records held → Beside (kept m.records m.host.state events) (kept held m.host.state events)
  grown m held events beside = grows m.records held (texts_of (records_all m.host.state events)) beside

  abbrev pub Rests : ℕ → List Entry → Lone → Type 0
  Rests left past m = (awaits : Bool) × (stage : Stage) × At stage Resting left awaits past m

  -- one event, and then no more
  heard_one : (stage : Stage) (here : Phase) (past : List Entry) (m : Lone) (event : Event) (events : List Event) → events ≡ event ∷ []
      → At stage here 0 false (past ++ heard_at m event) (happens m event) → At stage here 0 false (past ++ heard_all m events) (happens_all m events)
  heard_one stage here past m event events are run =
      subst (λ (l : List Event). At stage here 0 false (past ++ heard_all m l) (happens_all m l)) (sym are)
      (subst (λ (l : List Entry). At stage here 0 false (past ++ l) (happens m event)) (sym (append-nil (heard_at m event))) run)

  may_one : (m : Lone) (event : Event) (events : List Event) → events ≡ event ∷ [] → MayAll m events → May m event
  may_one m event events are may = (subst (MayAll m) are may).0

  rests_one : (left : ℕ) (past : List Entry) (m : Lone) (event : Event) (events : List Event) → events ≡ event ∷ [] → Rests left (past ++ heard_at m event) (happens m event)
      → Rests left (past ++ heard_all m events) (happens_all m events)
  rests_one left past m event events are rests =
      subst (λ (l : List Event). Rests left (past ++ heard_all m l) (happens_all m l)) (sym are)
      (subst (λ (l : List Entry). Rests left (past ++ l) (happens m event)) (sym (append-nil (heard_at m event))) rests)

  joined : (stage : Stage) (here : Phase) (left : ℕ) (awaits : Bool) (past : List Entry) (m : Lone) (first rest events : List Event) → events ≡ first ++ rest
      → At stage here left awaits ((past ++ heard_all m first) ++ heard_all (happens_all m first) rest) (happens_all (happens_all m first) rest)
      → At stage here left awaits (past ++ heard_all m events) (happens_all m events)
  joined stage here left awaits past m first rest events are run =
      let texts : (past ++ heard_all m first) ++ heard_all (happens_all m first) rest ≡ past ++ heard_all m (first ++ rest) =
      append_assoc past (heard_all m first) (heard_all (happens_all m first) rest) ∙ ap (λ (l : List Entry). past ++ l) (sym (heard_both m first rest)) in
      subst (λ (l : List Event). At stage here left awaits (past ++ heard_all m l) (happens_all m l)) (sym are)
      (subst (λ (n : Lone). At stage here left awaits (past ++ heard_all m (first ++ rest)) n) (sym (happens_all-append m first rest))
      (subst (λ (l : List Entry). At stage here left awaits l (happens_all (happens_all m first) rest)) texts run))

  -- ---- a pump

  pub pumped_run : (stage : Stage) (past : List Entry) (m : Lone) (pumped : List HostEvent) → Pumps m.host.state pumped → May m (Does_itself pumped) → At stage Open 0 false past m
      → At (stage_pumped stage) Resting 0 false (past ++ heard_at m (Does_itself pumped)) (happens m (Does_itself pumped))
  unfolding happens entries May
  pumped_run stage past m pumped pumps may (held, beside, run, line) =
      let n : Lone = happens m (Does_itself pumped) in
      let now : Option (List (List ℕ)) = kept held m.host.state pumped in (
        now,
        grown m held pumped beside,
        untimed Led (stage_pumped stage) keys now n.host.state [] 0 m.clock Resting past (entries_of (outs_all m.host.state pumped))
            (pump_run OuterState alone_at alone_put alone_next alone_enters Led leads keys 0 stage pumped past held m.host.state (clock_at m.clock false) pumps may run),
        rests_at obey (past ++ entries_of (outs_all m.host.state pumped)) m.clock 0 n.host.state (pump_line obey pumped m.host.state past m.clock 0 pumps may line),
      )

  pump_goes : (stage : Stage) (past : List Entry) (m : Lone) (events : List Event) → IsPump m events → MayAll m events → At stage Open 0 false past m
      → At (stage_pumped stage) Resting 0 false (past ++ heard_all m events) (happens_all m events)
  pump_goes stage past m events (pumped, pumps, are) may run =
      heard_one (stage_pumped stage) Resting past m (Does_itself pumped) events are (pumped_run stage past m pumped pumps (may_one m (Does_itself pumped) events are may) run)

  -- ---- bytes of the chip

  comes_run : (items : List Item) (texts : List (List ℕ)) (past : List Entry) (came : List LineUnit) (held : Option (List (List ℕ))) (m : Lone) → AreTexts items texts
      → Led Reading Open past (host_machine keys held m.host.state came m.clock 0 false)
      → Led Reading Open (past ++ came_so items texts) (host_machine keys held m.host.state (came ++ good_units items) m.clock 0 false)
  comes_run [] [] past came held m are run =
      subst (λ (l : List Entry). Led Reading Open l (host_machine keys held m.host.state (came ++ []) m.clock 0 false)) (sym (append-nil past))
      (subst (λ (l : List LineUnit). Led Reading Open past (host_machine keys held m.host.state l m.clock 0 false)) (sym (append-nil came)) run)
  comes_run [] (text ∷ texts) past came held m are run = absurd are
  comes_run (item ∷ items) [] past came held m are run = absurd are
  comes_run (Good unit ∷ items) (text ∷ texts) past came held m are run =
      let told : List Entry = entry.Written by_chip text ∷ [] in
      let one : Led Reading Open (past ++ told) (host_machine keys held m.host.state (came ++ unit ∷ []) m.clock 0 false) =
      goes_on leads (step.Comes unit) (tt, refl, refl, inr refl) (tt, tt) refl (ap (λ (t : List ℕ). past ++ entry.Written by_chip t ∷ []) are.0.1) refl run in
      let all = comes_run items texts (past ++ told) (came ++ unit ∷ []) held m are.1 one in
      subst (λ (l : List Entry). Led Reading Open l (host_machine keys held m.host.state (came ++ unit ∷ good_units items) m.clock 0 false)) (append_assoc past told (came_so items texts))
      (subst (λ (l : List LineUnit). Led Reading Open ((past ++ told) ++ came_so items texts) (host_machine keys held m.host.state l m.clock 0 false)) (append_assoc came (unit ∷ []) (good_units items)) all)
  comes_run (refused_item refusal ∷ items) (text ∷ texts) past came held m are run =
      let told : List Entry = entry.Written by_chip text ∷ entry.Garbled by_chip text ∷ [] in
      let none = refused_answers refusal text are.0 in
      let one : Led Reading Open (past ++ told) (host_machine keys held m.host.state came m.clock 0 false) =
      goes_on leads (step.Misses text (entry.Garbled by_chip text ∷ [])) (tt, tt, refl, refl, (none, none)) (tt, tt) refl refl refl run in
      subst (λ (l : List Entry). Led Reading Open l (host_machine keys held m.host.state (came ++ good_units items) m.clock 0 false)) (append_assoc past told (came_so items texts))
      (comes_run items texts (past ++ told) came held m are.1 one)

  pub taken_run : (past : List Entry) (m : Lone) (bytes : List ℕ) (rest : Rest) (items : List Item) (judged : List HostEvent) → May m (Takes bytes rest items judged) → At Reading Open 0 false past m
      → At Reading Open 0 false (past ++ heard_at m (Takes bytes rest items judged)) (happens m (Takes bytes rest items judged))
  unfolding happens entries May
  taken_run past m bytes rest items judged may (held, beside, run, line) =
      let n : Lone = happens m (Takes bytes rest items judged) in
      let now : Option (List (List ℕ)) = kept held m.host.state judged in
      let units : List LineUnit = good_units items in
      let stream : List ℕ = m.host.decoder.bytes ++ bytes in
      let puts : List Entry = entries_of (outs_all m.host.state judged) in
      let (texts, are, same) = came_texts items stream rest.bytes may.feeds.reads in
      let came : Led Reading Open (past ++ came_so items texts) (host_machine keys held m.host.state units m.clock 0 false) = comes_run items texts past [] held m are run in
      let all : Led Reading Open ((past ++ came_so items texts) ++ puts) (host_machine keys now n.host.state [] m.clock 0 false) =
      subst (λ (s : Stage). Led s Open ((past ++ came_so items texts) ++ puts) (host_machine keys now n.host.state [] m.clock 0 false)) (still_reads items)
      (untimed Led (all_judged Reading items) keys now n.host.state [] 0 m.clock Open (past ++ came_so items texts) puts
      (items_run OuterState alone_at alone_put alone_next alone_enters Led leads keys 0 Reading items judged (past ++ came_so items texts) held m.host.state [] (clock_at m.clock false) tt may.judged may.may
      (subst (λ (l : List LineUnit). Led Reading Open (past ++ came_so items texts) (host_machine keys held m.host.state l m.clock 0 false)) (sym (append-nil units)) came))) in
      let known = bytes_line obey items texts judged m.host.state past m.clock 0 are may.judged may.may line in
      subst (λ (l : List Entry). At Reading Open 0 false (past ++ (l ++ puts)) n) (sym same)
      (subst (λ (l : List Entry). At Reading Open 0 false l n) (append_assoc past (came_so items texts) puts) (now, grown m held judged beside, all, known))

  take_goes : (bytes : List ℕ) (past : List Entry) (m : Lone) (events : List Event) → IsTaking bytes m events → MayAll m events → At Reading Open 0 false past m
      → At Reading Open 0 false (past ++ heard_all m events) (happens_all m events)
  take_goes bytes past m events (rest, items, judged, are) may run =
      heard_one Reading Open past m (Takes bytes rest items judged) events are (taken_run past m bytes rest items judged (may_one m (Takes bytes rest items judged) events are may) run)

  -- ---- what a line asks for

  abbrev Goes : Line → List Entry → Lone → List Event → Type 0
  Goes line past m events = MayAll m events → At Fresh (Asked line) 0 false past m → At Fresh Open 0 false (past ++ heard_all m events) (happens_all m events)

  pub asked_says : (line : Line) (past : List Entry) (m : Lone) (event : HostEvent) → IsAskedBy line m.host.state event → May m (Does_asked event) → At Fresh (Asked line) 0 false past m
      → At Fresh Open 0 false (past ++ answers m.host.state event) (happens m (Does_asked event))
  unfolding happens entries May
  asked_says line past m event asked may (held, beside, run, line_asked) =
      let h : HostState = m.host.state in
      let k = line_asked in
      let none : ticks_asked (line_of (entry.Said k.words)) ≡ 0 = ap ticks_asked k.read ∙ asked_ticks line h event asked in
      let begun : KnowsLine (k.before ++ entry.Said k.words ∷ []) m.clock 0 h =
      words_line obey k.before k.awaits m.clock h k.rests k.words [] (line ∷ []) (asked_plain line h event asked) k.read (λ now due. (refl, refl)) tt none in
      let same : entries_of (outs_all h (event ∷ [])) ≡ [] = ap (λ (l : List HostOut). entries_of (l ++ [])) (asked_puts h event (is_asked line h event asked)) in
      let done : KnowsLine ((k.before ++ entry.Said k.words ∷ []) ++ []) m.clock 0 (after_all h (event ∷ [])) =
      subst (λ (l : List Entry). KnowsLine ((k.before ++ entry.Said k.words ∷ []) ++ l) m.clock 0 (after_all h (event ∷ []))) same
      (alone_line obey (event ∷ []) h (k.before ++ entry.Said k.words ∷ []) m.clock 0 (asked_alone line h event asked, tt) may begun) in
      let there : KnowsLine past m.clock 0 (after_all h (event ∷ [])) =
      subst (λ (l : List Entry). KnowsLine l m.clock 0 (after_all h (event ∷ []))) (append-nil (k.before ++ entry.Said k.words ∷ []) ∙ sym k.is) done in (
        kept held m.host.state (event ∷ []),
        grown m held (event ∷ []) beside,
        goes_on leads (step.Asks event) (line, refl, asked, may, (λ (bad : false ≡ true). absurd cc), refl) (tt, tt) refl refl refl run,
        told_line obey event h (after_all h (event ∷ [])) past m.clock 0 there,
      )

  asked_run : (line : Line) (past : List Entry) (m : Lone) (event : HostEvent) → IsAskedBy line m.host.state event → May m (Does_asked event) → At Fresh (Asked line) 0 false past m
      → At Fresh Open 0 false (past ++ heard_at m (Does_asked event)) (happens m (Does_asked event))
  unfolding entries
  asked_run line past m event asked may run =
      let h : HostState = m.host.state in
      let none : entries_of (outs_all h (event ∷ [])) ++ answers h event ≡ answers h event =
      ap (λ (l : List HostOut). entries_of (l ++ []) ++ answers h event) (asked_puts h event (is_asked line h event asked)) in
      subst (λ (l : List Entry). At Fresh Open 0 false (past ++ l) (happens m (Does_asked event))) (sym none) (asked_says line past m event asked may run)

  asks_goes : (line : Line) (past : List Entry) (m : Lone) (event : HostEvent) (events : List Event) → events ≡ Does_asked event ∷ [] → IsAskedBy line m.host.state event → Goes line past m events
  asks_goes line past m event events are asked may run = heard_one Fresh Open past m (Does_asked event) events are (asked_run line past m event asked (may_one m (Does_asked event) events are may) run)

  -- its refusal is of the host alone, whatever its records
  abbrev Same : Line → Lone → Type 0
  Same line m =
      (held : Option (List (List ℕ))) (refusal : Refusal) → IsRefused (alone m) line refusal → IsRefused (with_world (host_machine keys held m.host.state [] m.clock 0 false)) line refusal

  refused_run : (line : Line) (past : List Entry) (m : Lone) (refusal : Refusal) → Same line m → May m (Refuses line refusal) → At Fresh (Asked line) 0 false past m
      → At Fresh Open 0 false (past ++ heard_at m (Refuses line refusal)) (happens m (Refuses line refusal))
  unfolding happens entries May
  refused_run line past m refusal same may (held, beside, run, asked) = (
    held,
    beside,
    goes_on leads (step.Refuses refusal) (line, refl, inl (same held refusal may), refl, refl) (tt, tt) refl refl refl run,
    refused_line obey line past m.clock m.host.state refusal (refused_ticks line (alone m) refusal may) asked,
  )

  refused_goes : (line : Line) (past : List Entry) (m : Lone) (refusal : Refusal) (events : List Event) → events ≡ Refuses line refusal ∷ [] → Same line m → Goes line past m events
  refused_goes line past m refusal events are same may run =
      heard_one Fresh Open past m (Refuses line refusal) events are (refused_run line past m refusal same (may_one m (Refuses line refusal) events are may) run)

  shown_run : (past : List Entry) (m : Lone) (node : ℕ) → At Fresh (Asked (lines.Store node)) 0 false past m → At Fresh Open 0 false (past ++ heard_at m (Shows_values node)) (happens m (Shows_values node))
  unfolding happens entries
  shown_run past m node (held, beside, run, k) =
      let told : List Entry = shown_values m.host.state node ∷ [] in
      let known : KnowsLine (k.before ++ entry.Said k.words ∷ told) m.clock 0 m.host.state =
      words_line obey k.before k.awaits m.clock m.host.state k.rests k.words told (lines.Store node ∷ []) tt k.read (λ now due. (refl, refl)) (tt, tt) (ap ticks_asked k.read) in
      let is : k.before ++ entry.Said k.words ∷ told ≡ past ++ told = sym (append_assoc k.before (entry.Said k.words ∷ []) told) ∙ ap (λ (l : List Entry). l ++ told) (sym k.is) in
      (held, beside, goes_on leads (step.Shows node) (refl, refl, refl) (tt, tt) refl refl refl run, subst (λ (l : List Entry). KnowsLine l m.clock 0 m.host.state) is known)

  by_rule : (line : Line) (past : List Entry) (m : Lone) (event : HostEvent) (rule : Option Refused) (there : List WorldEvent) (events : List Event) → WorldAsks rule line event there
      → events ≡ flat_map by_host there → (rule ≡ None → IsAskedBy line m.host.state event) → Same line m → Goes line past m events
  by_rule line past m event None there events is are asked same = asks_goes line past m event events (are ∙ ap (λ (l : List WorldEvent). flat_map by_host l) is) (asked refl)
  by_rule line past m event (Some refused) there events (refusal, shown, is) are asked same =
      refused_goes line past m refusal events (are ∙ ap (λ (l : List WorldEvent). flat_map by_host l) is) same

  unreplayed : false ≡ true → ⊥
  unreplayed bad = cc

  effect_goes : (line : Line) (past : List Entry) (m : Lone) (events : List Event) → IsEffect line m events → is_replayed (first_word line) ≡ true → Goes line past m events
  effect_goes (lines.Command order) past m events (there, inl is, are) replayed =
      asks_goes (lines.Command order) past m (Accepts order (carriage_for m.host.state order)) events (are ∙ ap (λ (l : List WorldEvent). flat_map by_host l) is) refl
  effect_goes (lines.Command order) past m events (there, inr (refusal, is), are) replayed =
      refused_goes (lines.Command order) past m refusal events (are ∙ ap (λ (l : List WorldEvent). flat_map by_host l) is) (λ held r x. x)
  effect_goes (lines.Join node) past m events (there, inl is, are) replayed =
      asks_goes (lines.Join node) past m (Joins node) events (are ∙ ap (λ (l : List WorldEvent). flat_map by_host l) is) refl
  effect_goes (lines.Join node) past m events (there, inr (refusal, is), are) replayed =
      refused_goes (lines.Join node) past m refusal events (are ∙ ap (λ (l : List WorldEvent). flat_map by_host l) is) (λ held r x. x)
  effect_goes (lines.Cancel command) past m events (there, inl is, are) replayed =
      asks_goes (lines.Cancel command) past m (Cancels command) events (are ∙ ap (λ (l : List WorldEvent). flat_map by_host l) is) refl
  effect_goes (lines.Cancel command) past m events (there, inr (refusal, is), are) replayed =
      refused_goes (lines.Cancel command) past m refusal events (are ∙ ap (λ (l : List WorldEvent). flat_map by_host l) is) (λ held r x. x)
  effect_goes (lines.Send node word) past m events (there, is, are) replayed =
      by_rule (lines.Send node word) past m _ (send_refusal (known_of (node_of m.host.state node)) (length m.host.state.requests.queue) word) there events is are (λ none. (none, refl)) (λ held r x. x)
  effect_goes (lines.Get node end) past m events (there, is, are) replayed =
      by_rule (lines.Get node end) past m _ (get_refusal (known_of (node_of m.host.state node)) (length m.host.state.requests.queue) end) there events is are (λ none. (none, refl)) (λ held r x. x)
  effect_goes (lines.Interview node) past m events (there, is, are) replayed =
      by_rule (lines.Interview node) past m (Queues_interview node) (interview_refusal m.host.state node) there events is are (λ none. (none, refl)) (λ held r x. x)
  effect_goes (lines.Neighbours node) past m events (there, is, are) replayed =
      by_rule (lines.Neighbours node) past m (Queues (task.Neighbours node)) (places_refusal m.host.state 1) there events is are (λ none. (none, refl)) (λ held r x. x)
  effect_goes (lines.Failed node) past m events (there, is, are) replayed =
      by_rule (lines.Failed node) past m (Queues (task.IsFailed node)) (places_refusal m.host.state 1) there events is are (λ none. (none, refl)) (λ held r x. x)
  effect_goes lines.Probe past m events (there, is, are) replayed =
      by_rule lines.Probe past m Queues_probe (places_refusal m.host.state 3) there events is are (λ none. (none, refl)) (λ held r x. x)
  effect_goes (lines.Store node) past m events (there, is, are) replayed =
      λ may run. heard_one Fresh Open past m (Shows_values node) events (are ∙ ap (λ (l : List WorldEvent). flat_map by_host l) is) (shown_run past m node run)
  effect_goes (lines.Tick count) past m events (there, is, are) replayed = absurd is
  effect_goes line past m events effect replayed = absurd (unreplayed replayed)

  effect_then : (line : Line) (past : List Entry) (m : Lone) (events : List Event) → Then (IsEffect line) IsPump m events → is_replayed (first_word line) ≡ true → MayAll m events
      → At Fresh (Asked line) 0 false past m → At Looked Resting 0 false (past ++ heard_all m events) (happens_all m events)
  effect_then line past m events (first, rest, are, effect, pump) replayed may run =
      let both : MayAll m (first ++ rest) = subst (MayAll m) are may in
      joined Looked Resting 0 false past m first rest events are
      (pump_goes Fresh (past ++ heard_all m first) (happens_all m first) rest pump (may_rest m first rest both)
      (effect_goes line past m first effect replayed (may_first m first rest both) run))

  -- ---- ticks

  pub tick_one : (past : List Entry) (m : Lone) (pumped : List HostEvent) (more : ℕ) → Pumps (after_all m.host.state (tick_events m.host.state)) pumped
      → May m (Ticks (tick_events m.host.state ++ pumped)) → Rests (suc more) past m
      → Rests more (past ++ heard_at m (Ticks (tick_events m.host.state ++ pumped))) (happens m (Ticks (tick_events m.host.state ++ pumped)))
  unfolding happens entries May
  tick_one past m pumped more pumps may (awaits, stage, (held, beside, run, line)) =
      let h : HostState = m.host.state in
      let n : Lone = happens m (Ticks (tick_events h ++ pumped)) in
      let now : Option (List (List ℕ)) = kept held h (tick_events h ++ pumped) in
      let begun : Led Fresh Risen past (host_machine keys held h [] (m.clock + 1) more true) =
      goes_on leads (step.Begins_tick more) (refl, refl, refl) (tt, tt) refl (sym (append-nil past)) refl run in
      let puts : List HostOut = outs_all h (tick_events h ++ pumped) in (
        awaiting puts,
        Looked,
        (
          now,
          grown m held (tick_events h ++ pumped) beside,
          in_tick Led Looked keys now n.host.state [] more (m.clock + 1) past puts
              (tick_and_pump OuterState alone_at alone_put alone_next alone_enters Led leads keys more pumped past held h (clock_at (m.clock + 1) true) pumps may begun),
          tick_line obey pumped past awaits m.clock more h pumps may line,
        ),
      )

  ticks_goes : (count : ℕ) (past : List Entry) (m : Lone) (events : List Event) → AreTicks count m events → MayAll m events → Rests count past m
      → Rests 0 (past ++ heard_all m events) (happens_all m events)
  ticks_goes zero past m events are may rests =
      subst (λ (l : List Event). Rests 0 (past ++ heard_all m l) (happens_all m l)) (sym are) (subst (λ (l : List Entry). Rests 0 l m) (sym (append-nil past)) rests)
  ticks_goes (suc more) past m events (first, rest, are, (pumped, pumps, first_is), others) may rests =
      let both : MayAll m (first ++ rest) = subst (MayAll m) are may in
      let ticks : Event = Ticks (tick_events m.host.state ++ pumped) in
      let one : Rests more (past ++ heard_all m first) (happens_all m first) =
      rests_one more past m ticks first first_is (tick_one past m pumped more pumps (may_one m ticks first first_is (may_first m first rest both)) rests) in
      let all = ticks_goes more (past ++ heard_all m first) (happens_all m first) rest others (may_rest m first rest both) one in
      (all.0, all.1, joined all.1 Resting 0 all.0 past m first rest events are all.2)

  -- ---- lines

  plain_goes : (line : Line) (past : List Entry) (m : Lone) (events : List Event) → IsPlain line m events → is_replayed (first_word line) ≡ true → MayAll m events
      → At Fresh (Asked line) (ticks_of line) false past m → Rests 0 (past ++ heard_all m events) (happens_all m events)
  plain_goes (lines.Tick count) past m events is replayed may (held, beside, run, k) =
      let line : KnowsLine past m.clock count m.host.state =
      subst (λ (l : List Entry). KnowsLine l m.clock count m.host.state) (sym k.is) (ticks_line obey k.before k.awaits m.clock m.host.state k.rests k.words count k.read) in
      ticks_goes count past m events is may (false, Fresh, (held, beside, turns_on leads (inr (count, refl, refl)) tt refl run, rests_at obey past m.clock count m.host.state line))
  plain_goes line past m events is replayed may run = (false, Looked, effect_then line past m events is replayed may run)

  line_goes : (past : List Entry) (m : Lone) (said : Replayed) → IsRun m said → Rests 0 past m
      → Rests 0 (past ++ entry.Said said.words ∷ heard_all m said.events) (happens_all m said.events)
  line_goes past m said is (awaits, stage, (held, beside, run, rests)) = by said.line is.read is.replayed is.is
    where
      words : List Entry
      words = entry.Said said.words ∷ []

      after_words : Rests 0 ((past ++ words) ++ heard_all m said.events) (happens_all m said.events) → Rests 0 (past ++ entry.Said said.words ∷ heard_all m said.events) (happens_all m said.events)
      after_words rests = subst (λ (l : List Entry). Rests 0 l (happens_all m said.events)) (append_assoc past words (heard_all m said.events)) rests

      by : (line : ReplayLine) → line_of (entry.Said said.words) ≡ plain_of line → IsReplayed line → IsLine line m said.events
          → Rests 0 (past ++ entry.Said said.words ∷ heard_all m said.events) (happens_all m said.events)
      by (Plain line) read replayed these =
          after_words
          (plain_goes line (past ++ words) m said.events these replayed is.may (
            held,
            beside,
            goes_on leads (step.Says said.words line) (refl, refl, read, refl) (tt, tt) refl refl refl run,
            record { before = past; words = said.words; awaits = awaits; is = refl; read = read; rests = rests },
          ))
      by (Chip bytes) read replayed (first, rest, are, taking, pump) =
          let both : MayAll m (first ++ rest) = subst (MayAll m) are is.may in
          let there : At Reading Open 0 false (past ++ words) m = (
            held,
            beside,
            turns_on leads refl tt refl (goes_on leads (step.Says_nothing said.words) (refl, refl, read, refl) (tt, tt) refl refl refl run),
            words_line obey past awaits m.clock m.host.state rests said.words [] [] tt read (λ now due. (refl, refl)) tt (ap ticks_asked read),
          ) in
          after_words (
            false,
            Read,
            joined Read Resting 0 false (past ++ words) m first rest said.events are
                (pump_goes Reading ((past ++ words) ++ heard_all m first) (happens_all m first) rest pump (may_rest m first rest both)
                (take_goes bytes (past ++ words) m first taking (may_first m first rest both) there)),
          )

  pub all_go : (past : List Entry) (m : Lone) (lines : List Replayed) → AreReplayed m lines → Rests 0 past m → Rests 0 (past ++ heard_of m lines) (lone_after m lines)
  all_go past m [] are rests = subst (λ (l : List Entry). Rests 0 l m) (sym (append-nil past)) rests
  all_go past m (said ∷ more) are rests =
      let one : List Entry = entry.Said said.words ∷ heard_all m said.events in
      let later : Lone = happens_all m said.events in
      subst (λ (l : List Entry). Rests 0 l (lone_after later more)) (append_assoc past one (heard_of later more))
      (all_go (past ++ one) later more are.1 (line_goes past m said are.0 rests))
