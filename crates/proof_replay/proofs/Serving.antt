-- Steps of `host` are runs of a host alone: each begins with words, and a pump follows it.
use Rattle.std.proofs.Common.{◌≡◌, ℕ, ◌+◌, Bool, true, false, inl, inr, length, List, [], ◌∷◌, ◌++◌, refl, sym, ap, ◌∙◌, subst, append_assoc, append-nil}
use Rattle.std.specs.Prelude.{◌≢◌, Option, Some, None, ⊤}
use Rattle.std.specs.List.{flat_map}
use Rattle.s0_crypto.specs.declared.key_pair.Keys.{Keys}
use Rattle.zw_words.specs.Fields.{ends, last, next}
use Rattle.zw_words.specs.Forms.{between_in, digits_in, number_in}
use Rattle.zw_words.specs.Words.{line_words, words}
use Rattle.zw_text.specs.Line.{first_word, line_by, line_word_in}
use Rattle.zw_text.specs.Transcript.{line_of}
use Rattle.zw_text.specs.declared.line.Line.{Line}
use Rattle.zw_text.specs.declared.line.Line.TheVariants as lines
use Rattle.zw_text.specs.declared.entry.Entry.{Entry}
use Rattle.zw_text.specs.declared.entry.Entry.TheVariants.{Said}
use Rattle.zw_text.specs.declared.entry.Entry.TheVariants as entry
use Rattle.zw_text.specs.declared.entry.Refusal.{Refusal}
use Rattle.zw_text.specs.declared.entry.Refusal.TheVariants as refusal
use Rattle.host_orders.specs.Errands.{get_refusal, send_refusal}
use Rattle.host_orders.specs.declared.refused.Refused.{Refused as Rule}
use Rattle.host_orders.specs.declared.refused.Refused.TheVariants as refused
use Rattle.law_transcript.specs.Restarts.{ticks_asked, ticks_of}
use Rattle.host_keep.specs.Keeping.{OptAdds}
use Rattle.host_model.specs.State.{HostParts, HostState, node_of}
use Rattle.host_model.specs.Asking.{interview_refusal, join_refusal, places_refusal, refusal_for}
use Rattle.host_model.specs.May.{known_of}
use Rattle.host_model.specs.Events.{HostEvent}
use Rattle.host_model.specs.Did.{Did, after_all, outs_all, records_all, texts_of}
use Rattle.host_model.specs.Outs.{answers}
use Rattle.host_model.specs.Pumping.{Pumps as pump_events}
use Rattle.host_model.specs.Taking.{Fed}
use Rattle.host_model.specs.Ticking.{tick_events}
use Rattle.host_model.specs.declared.out.HostOut.{HostOut}
use Rattle.host_model.proofs.EventLists.{did_both}
use Rattle.world_model.specs.State.{with_texts}
use Rattle.world_model.specs.Refusals.{IsRefused, IsRefusedBy, IsRefusedOrUnkept, shown}
use Rattle.world_model.proofs.Hosting.{adds_is}
use Rattle.port_run.specs.Lines.{is_served}
use Rattle.port_run.specs.Steps.{Place, Step, Asks, Takes, Rests, Ticks, Pumps, AllRan, IsTaken, Ran, asked_by, is_recorded, refusal_by}
use Rattle.port_run.specs.Steps as port
use Rattle.port_run.specs.declared.asking.Answer.{Answer}
use Rattle.port_run.specs.declared.asking.Answer.TheVariants.{Taken, Command, Refused}
use Rattle.run_replay.specs.Machine.{Lone, alone, entries, entries_of, happens, May, timed}
use Rattle.proof_asking.specs.proof_requests.proof_alone.State.{HostMachine, host_machine, with_world}
use Rattle.proof_asking.specs.proof_requests.proof_alone.Steps as step
use Rattle.proof_asking.specs.proof_requests.proof_alone.Steps.{IsAskedBy}
use Rattle.proof_asking.specs.proof_requests.proof_alone.Phases.{Phase, Resting, Asked, Open}
use Rattle.proof_asking.specs.proof_requests.proof_alone.Careful.{Fresh, Reading, Stage, stage_pumped}
use Rattle.proof_asking.proofs.Carefully.{Leads, goes_on, turns_on}
use Rattle.proof_replay.specs.Heard.{came_of}
use Rattle.proof_replay.specs.HostSteps.{AreOrderly, HearsPart, HearsSteps, IsServed, WithPump, chip_word, clock_after, lone_at, restart_word, tick_words}
use Rattle.proof_replay.specs.Linked.{KnowsLine, KnowsLineAt}
use Rattle.proof_replay.proofs.LineHeard.{HostsObey, refused_line, refused_ticks, rests_at, ticks_line, words_line}
use Rattle.proof_replay.proofs.Replaying.{asked_says, pumped_run, taken_run, tick_one}
use Rattle.proof_replay.proofs.Replaying as replaying

-- ---- words

-- what is unfolded to compute what a text is read as
unfoldable reading : ⊤
unfolding next ends last digits_in number_in between_in words line_words line_word_in line_by
reading = tt

pub chip_is : line_of (Said chip_word) ≡ []
unfolding reading
chip_is = refl

pub tick_is : line_of (Said tick_words) ≡ lines.Tick 1 ∷ []
unfolding reading
tick_is = refl

pub restart_is : line_of (Said restart_word) ≡ lines.Restart ∷ []
unfolding reading
restart_is = refl

-- ---- what a line asks for, where no rule refuses it

record AsksOne (line : Line) (h : HostState) : Type 0 where
  event : HostEvent
  are : asked_by h line ≡ event ∷ []
  asked : IsAskedBy line h event
  no_ticks : ticks_of line ≡ 0

unserved : false ≡ true → ⊥
unserved bad = cc

asks_one : (line : Line) (h : HostState) → is_served (first_word line) ≡ true → refusal_by h line ≡ None → AsksOne line h
asks_one (lines.Command order) h served none = record { event = _; are = refl; asked = refl; no_ticks = refl }
asks_one (lines.Send node word) h served none = record { event = _; are = refl; asked = (none, refl); no_ticks = refl }
asks_one (lines.Get node end) h served none = record { event = _; are = refl; asked = (none, refl); no_ticks = refl }
asks_one (lines.Join node) h served none = record { event = _; are = refl; asked = refl; no_ticks = refl }
asks_one (lines.Interview node) h served none = record { event = _; are = refl; asked = (none, refl); no_ticks = refl }
asks_one lines.Probe h served none = record { event = _; are = refl; asked = (none, refl); no_ticks = refl }
asks_one line h served none = absurd (unserved served)

served_ticks : (line : Line) → is_served (first_word line) ≡ true → ticks_of line ≡ 0
served_ticks (lines.Tick ticks) served = absurd (unserved served)
served_ticks line served = refl

-- ---- how a line is refused

shown_for : (rule : Rule) → rule ≢ refused.NoMemory → (entered : Refusal) × (shown rule ≡ Some entered)
shown_for refused.NotJoined some = (refusal.NotJoined, refl)
shown_for refused.NotInterviewed some = (refusal.NotInterviewed, refl)
shown_for (refused.Unsupported class) some = (refusal.Unsupported class, refl)
shown_for refused.BadValue some = (refusal.BadValue, refl)
shown_for refused.Unsupervised some = (refusal.Unsupervised, refl)
shown_for (refused.TooLong bytes) some = (refusal.TooLong bytes, refl)
shown_for (refused.MailboxFull waiting) some = (refusal.MailboxFull waiting, refl)
shown_for (refused.StoreFull properties) some = (refusal.StoreFull properties, refl)
shown_for refused.Secured some = (refusal.Secured, refl)
shown_for (refused.QueueFull waiting) some = (refusal.QueueFull waiting, refl)
shown_for refused.AlreadyJoined some = (refusal.AlreadyJoined, refl)
shown_for refused.KeeperFault some = (refusal.KeeperFault, refl)
shown_for refused.NoMemory some = absurd (some refl)

by_rule : (rule : Option Rule) (faults faults' : ℕ) → port.IsRefusedBy false rule faults faults' → (entered : Refusal) × IsRefusedBy rule entered
by_rule None faults faults' by = absurd (unserved by.0)
by_rule (Some rule) faults faults' by = shown_for rule by

by_keeper : (rule : Option Rule) (faults faults' : ℕ) → port.IsRefusedBy true rule faults faults' → (entered : Refusal) × IsRefusedOrUnkept rule entered
by_keeper None faults faults' by = (refusal.KeeperFault, inr (refl, refl))
by_keeper (Some rule) faults faults' by = let (entered, is) = shown_for rule by in (entered, inl is)

-- and so the host alone refuses it, whatever its records
record Refuses (line : Line) (m : Lone) : Type 0 where
  entered : Refusal
  is : IsRefused (alone m) line entered
  whatever : (keys : Keys) (held : Option (List (List ℕ))) → IsRefused (with_world (host_machine keys held m.host.state [] m.clock 0 false)) line entered

refuses : (line : Line) (m : Lone) (faults faults' : ℕ) → is_served (first_word line) ≡ true → port.IsRefusedBy (is_recorded line) (refusal_by m.host.state line) faults faults' → Refuses line m
refuses (lines.Command order) m faults faults' served by =
    let (entered, is) = by_keeper (refusal_for m.host.state order) faults faults' by in record { entered = entered; is = is; whatever = λ keys held. is }
refuses (lines.Join node) m faults faults' served by =
    let (entered, is) = by_keeper (join_refusal m.host.state node) faults faults' by in record { entered = entered; is = is; whatever = λ keys held. is }
refuses (lines.Send node word) m faults faults' served by =
    let (entered, is) = by_rule (send_refusal (known_of (node_of m.host.state node)) (length m.host.state.requests.queue) word) faults faults' by in
    record { entered = entered; is = is; whatever = λ keys held. is }
refuses (lines.Get node end) m faults faults' served by =
    let (entered, is) = by_rule (get_refusal (known_of (node_of m.host.state node)) (length m.host.state.requests.queue) end) faults faults' by in
    record { entered = entered; is = is; whatever = λ keys held. is }
refuses (lines.Interview node) m faults faults' served by =
    let (entered, is) = by_rule (interview_refusal m.host.state node) faults faults' by in record { entered = entered; is = is; whatever = λ keys held. is }
refuses lines.Probe m faults faults' served by =
    let (entered, is) = by_rule (places_refusal m.host.state 3) faults faults' by in record { entered = entered; is = is; whatever = λ keys held. is }
refuses line m faults faults' served by = absurd (unserved served)

-- ---- places

pub none_added : (records later : Option (List (List ℕ))) → OptAdds records later [] → later ≡ records
none_added None later adds = adds
none_added (Some texts) later adds = adds ∙ ap (λ (l : List (List ℕ)). Some l) (append-nil texts)

-- outs that were added to others
pub added : (events : List HostEvent) (old new : Place) (before outs : List HostOut) → Did events old.host.state new.host.state [] outs old.shelf new.shelf
    → Did events old.host.state new.host.state before (before ++ outs) old.shelf new.shelf
added events old new before outs did = record {
  may = did.may;
  state = did.state;
  outs = ap (λ (l : List HostOut). before ++ l) did.outs;
  records = did.records;
  rose = did.rose;
  never_falls = did.never_falls;
}

module _ (Led : Stage → Phase → List Entry → HostMachine → Type 0) (leads : Leads Led) (keys : Keys) (Beside : Option (List (List ℕ)) → Option (List (List ℕ)) → Type 0)
    (grows : (records held : Option (List (List ℕ))) (texts : List (List ℕ)) → Beside records held → Beside (with_texts records texts) (with_texts held texts)) (obey : HostsObey) where
  abbrev At : Stage → Phase → List Entry → Place → ℕ → Type 0
  At stage here past place clock = replaying.At Led leads keys Beside grows obey stage here 0 false past (lone_at place clock)

  abbrev pub Rests0 : List Entry → Lone → Type 0
  Rests0 past m = replaying.Rests Led leads keys Beside grows obey 0 past m

  -- from what events make of a host to the place where they led
  moved : (stage : Stage) (here : Phase) (past : List Entry) (clock : ℕ) (awaits : Bool) (old new : Place) (events : List HostEvent) (outs : List HostOut)
      → Did events old.host.state new.host.state [] outs old.shelf new.shelf
      → (held : Option (List (List ℕ))) × Beside (with_texts old.shelf.records (texts_of (records_all old.host.state events))) held
      × Led stage here past (host_machine keys held (after_all old.host.state events) [] clock 0 awaits) × KnowsLineAt here 0 awaits past clock (after_all old.host.state events)
      → (held : Option (List (List ℕ))) × Beside new.shelf.records held × Led stage here past (host_machine keys held new.host.state [] clock 0 awaits)
      × KnowsLineAt here 0 awaits past clock new.host.state
  moved stage here past clock awaits old new events outs did (held, beside, run, line) = (
    held,
    subst (λ (r : Option (List (List ℕ))). Beside r held) (sym (adds_is old.shelf.records new.shelf.records (texts_of (records_all old.host.state events)) did.records)) beside,
    subst (λ (s : HostState). Led stage here past (host_machine keys held s [] clock 0 awaits)) (sym did.state) run,
    subst (λ (s : HostState). KnowsLineAt here 0 awaits past clock s) (sym did.state) line,
  )

  -- ---- a pump

  pub pump_part : (stage : Stage) (past : List Entry) (clock : ℕ) (old new : Place) (outs : List HostOut) → Ran Pumps old new outs → At stage Open past old clock → Rests0 (past ++ entries_of outs) (lone_at new clock)
  unfolding happens entries May
  pump_part stage past clock old new outs (does, decoder) at =
      let m : Lone = lone_at old clock in
      let run = pumped_run Led leads keys Beside grows obey stage past m does.events does.are does.did.may at in (
        false,
        stage_pumped stage,
        subst (λ (l : List HostOut). At (stage_pumped stage) Resting (past ++ entries_of l) new clock) (sym does.did.outs)
            (moved (stage_pumped stage) Resting (past ++ entries_of (outs_all old.host.state does.events)) clock false old new does.events outs does.did run),
      )

  -- ---- a step

  abbrev Part : ℕ → (one : Step) (old new : Place) → WithPump one old new → List Entry → Type 0
  Part clock one old new both past = (part : List Entry) × HearsPart clock one old new both part × Rests0 (past ++ part) (lone_at new (clock_after one clock))

  -- words that are no line
  none_said : (past : List Entry) (clock : ℕ) (place : Place) (said : List ℕ) → line_of (Said said) ≡ [] → Rests0 past (lone_at place clock)
      → At Reading Open (past ++ Said said ∷ []) place clock
  none_said past clock place said none (awaits, stage, (held, beside, run, rests)) = (
    held,
    beside,
    turns_on leads refl tt refl (goes_on leads (step.Says_nothing said) (refl, refl, none, refl) (tt, tt) refl refl refl run),
    words_line obey past awaits clock place.host.state rests said [] [] tt none (λ now due. (refl, refl)) tt (ap ticks_asked none),
  )

  -- the words of a line
  line_said : (past : List Entry) (clock : ℕ) (place : Place) (line : Line) (said : List ℕ) → line_of (Said said) ≡ line ∷ [] → ticks_of line ≡ 0 → Rests0 past (lone_at place clock)
      → At Fresh (Asked line) (past ++ Said said ∷ []) place clock
  line_said past clock place line said read none (awaits, stage, (held, beside, run, rests)) = (
    held,
    beside,
    subst (λ (n : ℕ). Led Fresh (Asked line) (past ++ Said said ∷ []) (host_machine keys held place.host.state [] clock n false)) none
        (goes_on leads (step.Says said line) (refl, refl, read, refl) (tt, tt) refl refl refl run),
    record { before = past; words = said; awaits = awaits; is = refl; read = read; rests = rests },
  )

  refused_part : (past : List Entry) (clock : ℕ) (line : Line) (old new : Place) (both : WithPump (Asks line Refused) old new) → IsServed line → Rests0 past (lone_at old clock)
      → Part clock (Asks line Refused) old new both past
  refused_part past clock line old new both (said, read, served) rests =
      let still = both.ran.0.0 in
      let by : Refuses line (lone_at old clock) = refuses line (lone_at old clock) old.shelf.faults both.mid.shelf.faults served both.ran.0.1 in
      let asked : List Entry = past ++ Said said ∷ [] in
      let before : List Entry = asked ++ entry.Refused by.entered ∷ [] in
      let (held, beside, run, k) = line_said past clock old line said read (served_ticks line served) rests in
      let none : ticks_asked (line ∷ []) ≡ 0 = refused_ticks line (alone (lone_at old clock)) by.entered by.is in
      let told : Led Fresh Open before (host_machine keys held old.host.state [] clock 0 false) =
      goes_on leads (step.Refuses by.entered) (line, refl, inl (by.whatever keys held), refl, refl) (tt, tt) refl refl refl run in
      let there : At Fresh Open before both.mid clock = (
        held,
        subst (λ (r : Option (List (List ℕ))). Beside r held) (sym (none_added old.shelf.records both.mid.shelf.records still.records)) beside,
        subst (λ (p : HostParts). Led Fresh Open before (host_machine keys held p.state [] clock 0 false)) (sym still.host) told,
        subst (λ (p : HostParts). KnowsLine before clock 0 p.state) (sym still.host) (refused_line obey line asked clock old.host.state by.entered none k),
      ) in (
        Said said ∷ (entry.Refused by.entered ∷ entries_of both.rest),
        (said, read, by.entered, by.is, refl),
        subst (λ (l : List Entry). Rests0 l (lone_at new clock))
            (append_assoc asked (entry.Refused by.entered ∷ []) (entries_of both.rest) ∙ append_assoc past (Said said ∷ []) (entry.Refused by.entered ∷ entries_of both.rest))
            (pump_part Fresh before clock both.mid new both.rest both.pumped there),
      )

  taken_part : (past : List Entry) (clock : ℕ) (line : Line) (answer : Answer) (old mid new : Place) (rest : List HostOut) → IsServed line → IsTaken line answer old mid → Ran Pumps mid new rest
      → Rests0 past (lone_at old clock)
      → (part : List Entry) × ((said : List ℕ) × (line_of (Said said) ≡ line ∷ []) × (part ≡ Said said ∷ (flat_map (answers old.host.state) (asked_by old.host.state line) ++ entries_of rest)))
      × Rests0 (past ++ part) (lone_at new clock)
  unfolding happens May
  taken_part past clock line answer old mid new rest (said, read, served) taken pumped rests =
      let h : HostState = old.host.state in
      let before : List Entry = past ++ Said said ∷ [] in
      let told : List Entry = flat_map (answers h) (asked_by h line) in
      let one : AsksOne line h = asks_one line h served taken.unrefused in
      let did : Did (one.event ∷ []) h mid.host.state [] [] old.shelf mid.shelf =
      subst (λ (l : List HostEvent). Did l h mid.host.state [] [] old.shelf mid.shelf) (taken.does.are ∙ one.are) taken.does.did in
      let same : answers h one.event ≡ told = sym (append-nil (answers h one.event)) ∙ ap (λ (l : List HostEvent). flat_map (answers h) l) (sym one.are) in
      let there : At Fresh Open (before ++ told) mid clock =
      subst (λ (l : List Entry). At Fresh Open (before ++ l) mid clock) same
      (moved Fresh Open (before ++ answers h one.event) clock false old mid (one.event ∷ []) [] did
      (asked_says Led leads keys Beside grows obey line before (lone_at old clock) one.event one.asked did.may (line_said past clock old line said read one.no_ticks rests))) in (
        Said said ∷ (told ++ entries_of rest),
        (said, read, refl),
        subst (λ (l : List Entry). Rests0 l (lone_at new clock)) (append_assoc before told (entries_of rest) ∙ append_assoc past (Said said ∷ []) (told ++ entries_of rest))
            (pump_part Fresh (before ++ told) clock mid new rest pumped there),
      )

  bytes_part : (past : List Entry) (clock : ℕ) (bytes : List ℕ) (old new : Place) (both : WithPump (Takes bytes) old new) → Rests0 past (lone_at old clock) → Part clock (Takes bytes) old new both past
  unfolding happens entries May
  bytes_part past clock bytes old new both rests =
      let fed : Fed old.host bytes both.mid.host [] both.first old.shelf both.mid.shelf = both.ran in
      let before : List Entry = past ++ Said chip_word ∷ [] in
      let came : List Entry = came_of fed.items (old.host.decoder.bytes ++ bytes) in
      let first : List Entry = entries_of both.first in
      let rest : List Entry = entries_of both.rest in
      let taken =
      taken_run Led leads keys Beside grows obey before (lone_at old clock) bytes both.mid.host.decoder fed.items fed.events
      (record { feeds = fed.feeds; stream = fed.stream; judged = fed.judged; may = fed.did.may }) (none_said past clock old chip_word chip_is rests) in
      let there : At Reading Open (before ++ (came ++ first)) both.mid clock =
      subst (λ (l : List HostOut). At Reading Open (before ++ (came ++ entries_of l)) both.mid clock) (sym fed.did.outs)
      (moved Reading Open (before ++ (came ++ entries_of (outs_all old.host.state fed.events))) clock false old both.mid fed.events both.first fed.did taken) in (
        Said chip_word ∷ (came ++ (first ++ rest)),
        refl,
        subst (λ (l : List Entry). Rests0 l (lone_at new clock))
            (append_assoc before (came ++ first) rest ∙ (ap (λ (l : List Entry). before ++ l) (append_assoc came first rest) ∙ append_assoc past (Said chip_word ∷ []) (came ++ (first ++ rest))))
            (pump_part Reading (before ++ (came ++ first)) clock both.mid new both.rest both.pumped there),
      )

  tick_part : (past : List Entry) (clock : ℕ) (old new : Place) (both : WithPump Ticks old new) → Rests0 past (lone_at old clock) → Part clock Ticks old new both past
  unfolding happens entries May
  tick_part past clock old new both (awaits, stage, (held, beside, run, rests)) =
      let h : HostState = old.host.state in
      let before : List Entry = past ++ Said tick_words ∷ [] in
      let outs : List HostOut = both.first ++ both.rest in
      let ticked = both.ran.0 in
      let pumped = both.pumped.0 in
      let first : Did (tick_events h) h both.mid.host.state [] both.first old.shelf both.mid.shelf =
      subst (λ (l : List HostEvent). Did l h both.mid.host.state [] both.first old.shelf both.mid.shelf) ticked.are ticked.did in
      let did : Did (tick_events h ++ pumped.events) h new.host.state [] outs old.shelf new.shelf =
      did_both (tick_events h) pumped.events h both.mid.host.state new.host.state [] both.first outs old.shelf both.mid.shelf new.shelf first
      (added pumped.events both.mid new both.first both.rest pumped.did) in
      let pumps : pump_events (after_all h (tick_events h)) pumped.events = subst (λ (s : HostState). pump_events s pumped.events) first.state pumped.are in
      let (awaits', led, there) =
      tick_one Led leads keys Beside grows obey before (lone_at old clock) pumped.events 0 pumps did.may (
        false,
        Fresh,
        (
          held,
          beside,
          turns_on leads (inr (1, refl, refl)) tt refl (goes_on leads (step.Says tick_words (lines.Tick 1)) (refl, refl, tick_is, refl) (tt, tt) refl refl refl run),
          rests_at obey before clock 1 h (ticks_line obey past awaits clock h rests tick_words 1 tick_is),
        ),
      ) in (
        Said tick_words ∷ timed (clock + 1) outs,
        refl,
        (
          awaits',
          led,
          subst (λ (l : List Entry). replaying.At Led leads keys Beside grows obey led Resting 0 awaits' l (lone_at new (clock + 1))) (append_assoc past (Said tick_words ∷ []) (timed (clock + 1) outs))
              (subst (λ (l : List HostOut). replaying.At Led leads keys Beside grows obey led Resting 0 awaits' (before ++ timed (clock + 1) l) (lone_at new (clock + 1))) (sym did.outs)
              (moved led Resting (before ++ timed (clock + 1) (outs_all h (tick_events h ++ pumped.events))) (clock + 1) awaits' old new (tick_events h ++ pumped.events) outs did there)),
        ),
      )

  -- ---- steps

  -- this is heard of them, and the host is at rest where the last one with its pump was done
  abbrev pub Heard : (List Entry → Type 0) → Bool → List Entry → Place → Type 0
  Heard Hears whole past new = (heard : List Entry) × Hears heard × (m : Lone) × Rests0 (past ++ heard) m × (whole ≡ true → m.records ≡ new.shelf.records)

  none_more : (whole : Bool) (past : List Entry) (clock : ℕ) (old new : Place) (Hears : List Entry → Type 0) → Hears [] → (whole ≡ true → old.shelf.records ≡ new.shelf.records)
      → Rests0 past (lone_at old clock) → Heard Hears whole past new
  none_more whole past clock old new Hears hears records rests =
      ([], hears, lone_at old clock, subst (λ (l : List Entry). Rests0 l (lone_at old clock)) (sym (append-nil past)) rests, records)

  cut : (whole : Bool) (A : Type 0) → whole ≡ false → whole ≡ true → A
  cut whole A not_whole is = let bad : false ≡ true = sym not_whole ∙ is in absurd (unserved bad)

  abbrev More : Bool → ℕ → (one : Step) → List Step → List Entry → Place → Place → Type 0
  More whole clock one steps past old new =
      Heard (λ heard. (mid : Place) × (both : WithPump one old mid) × (part more : List Entry) × HearsPart clock one old mid both part
      × HearsSteps (clock_after one clock) steps mid new more × (heard ≡ part ++ more)) whole past new

  and_more : (whole : Bool) (clock : ℕ) (one : Step) (steps : List Step) (past : List Entry) (old mid new : Place) (both : WithPump one old mid) (first : Part clock one old mid both past)
      → Heard (HearsSteps (clock_after one clock) steps mid new) whole (past ++ first.0) new → More whole clock one steps past old new
  and_more whole clock one steps past old mid new both (part, hears, rests) (more, later, m, last, records) = (
    part ++ more,
    (mid, both, part, more, hears, later, refl),
    m,
    subst (λ (l : List Entry). Rests0 l m) (append_assoc past part more) last,
    records,
  )

  part_of : (past : List Entry) (clock : ℕ) (line : Line) (answer : Answer) (old new : Place) (both : WithPump (Asks line answer) old new) → IsServed line → Rests0 past (lone_at old clock)
      → Part clock (Asks line answer) old new both past
  part_of past clock line Refused old new both served rests = refused_part past clock line old new both served rests
  part_of past clock line Taken old new both served rests = taken_part past clock line Taken old both.mid new both.rest served both.ran.0 both.pumped rests
  part_of past clock line (Command number) old new both served rests = taken_part past clock line (Command number) old both.mid new both.rest served both.ran.0 both.pumped rests

  pub steps_go : (whole : Bool) (steps : List Step) (past : List Entry) (clock : ℕ) (old new : Place) (outs : List HostOut) → AreOrderly whole steps → AllRan steps old new outs
      → Rests0 past (lone_at old clock) → Heard (HearsSteps clock steps old new) whole past new
  steps_go whole [] past clock old new outs orderly ran rests =
      none_more whole past clock old new (HearsSteps clock [] old new) (ran.0, refl) (λ is. ap (λ (p : Place). p.shelf.records) (sym ran.0)) rests
  steps_go whole (Rests ∷ steps) past clock old new outs orderly (mid, first, later, one, more, are) rests =
      steps_go whole steps past clock old new later orderly (subst (λ (p : Place). AllRan steps p new later) one.0 more) rests
  steps_go whole (Asks line answer ∷ Pumps ∷ steps) past clock old new outs orderly (mid, first, later, one, (next, rest, others, pumped, more, are), all) rests =
      let both : WithPump (Asks line answer) old next = record { mid = mid; first = first; rest = rest; ran = one; pumped = pumped } in
      let part = part_of past clock line answer old next both orderly.0 rests in
      and_more whole clock (Asks line answer) steps past old next new both part (steps_go whole steps (past ++ part.0) clock next new others orderly.1 more part.2)
  steps_go whole (Takes bytes ∷ Pumps ∷ steps) past clock old new outs orderly (mid, first, later, one, (next, rest, others, pumped, more, are), all) rests =
      let both : WithPump (Takes bytes) old next = record { mid = mid; first = first; rest = rest; ran = one; pumped = pumped } in
      let part = bytes_part past clock bytes old next both rests in
      and_more whole clock (Takes bytes) steps past old next new both part (steps_go whole steps (past ++ part.0) clock next new others orderly.1 more part.2)
  steps_go whole (Ticks ∷ Pumps ∷ steps) past clock old new outs orderly (mid, first, later, one, (next, rest, others, pumped, more, are), all) rests =
      let both : WithPump Ticks old next = record { mid = mid; first = first; rest = rest; ran = one; pumped = pumped } in
      let part = tick_part past clock old next both rests in
      and_more whole clock Ticks steps past old next new both part (steps_go whole steps (past ++ part.0) (clock + 1) next new others orderly.1 more part.2)
  steps_go whole (Pumps ∷ Pumps ∷ steps) past clock old new outs orderly ran rests = absurd orderly.0
  steps_go whole (Asks line answer ∷ []) past clock old new outs orderly ran rests =
      none_more whole past clock old new (HearsSteps clock (Asks line answer ∷ []) old new) refl (cut whole (old.shelf.records ≡ new.shelf.records) orderly) rests
  steps_go whole (Takes bytes ∷ []) past clock old new outs orderly ran rests =
      none_more whole past clock old new (HearsSteps clock (Takes bytes ∷ []) old new) refl (cut whole (old.shelf.records ≡ new.shelf.records) orderly) rests
  steps_go whole (Ticks ∷ []) past clock old new outs orderly ran rests =
      none_more whole past clock old new (HearsSteps clock (Ticks ∷ []) old new) refl (cut whole (old.shelf.records ≡ new.shelf.records) orderly) rests
  steps_go whole (Pumps ∷ []) past clock old new outs orderly ran rests =
      none_more whole past clock old new (HearsSteps clock (Pumps ∷ []) old new) refl (cut whole (old.shelf.records ≡ new.shelf.records) orderly) rests
  steps_go whole (one ∷ other ∷ steps) past clock old new outs orderly ran rests = absurd orderly
