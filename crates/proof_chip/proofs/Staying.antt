-- Over the phases of a line: where each line or tick began none waited if the link was idle; so it is at once where one begins, for no more frames were had than the chip was given.
use Rattle.std.proofs.Common.{◌≡◌, ◌+◌, ℕ, zero, suc, Bool, true, false, inl, inr, List, [], ◌∷◌, ◌++◌, length, refl, sym, ap, ◌∙◌, subst, append-nil, append_assoc, arith}
use Rattle.serial_link.specs.Rules.{Step}
use Rattle.chip_sim.specs.Waiting.{PortState}
use Rattle.zw_words.specs.Words.{words, line_words}
use Rattle.zw_text.specs.declared.line.Line.{Line}
use Rattle.zw_text.specs.declared.line.Line.TheVariants as lines
use Rattle.zw_text.specs.declared.entry.Entry.{Entry}
use Rattle.zw_text.specs.declared.entry.Entry.TheVariants as entry
use Rattle.zw_text.specs.Transcript.{line_last, line_of}
use Rattle.law_transcript.specs.Lists.{EachAfter}
use Rattle.law_wire.specs.Serial.{SerialEvent, serial_events}
use Rattle.host_model.specs.Ticking.{tick_events}
use Rattle.outside_model.specs.Devices.{State}
use Rattle.outside_model.specs.State.{Outside}
use Rattle.outside_model.specs.Events.{Begins_line, Begins_tick, outcome, devices_after, ticked_entry}
use Rattle.world_model.specs.State.{Machine}
use Rattle.world_model.specs.Events.{Event, Outside_does, May, entries, happens}
use Rattle.world_model.specs.Lines.{IsEffect}
use Rattle.proof_host.proofs.Lists.{each-append}
use Rattle.proof_air.specs.proof_walk.Outside.{CoversOuter, Link, Moves, awaits_number}
use Rattle.proof_air.specs.proof_walk.Phases.{Phase, Between, Said_line, Begun, Doing, To_tick, Ticked, Arriving, Giving, Ticking_devices, Ticking_chip, Ticking_decoder, Ticking_host, Sleeping, Submitting, Moving, Moved, Goes, Turns}
use Rattle.proof_air.specs.proof_walk.Time.{KnowTime}
use Rattle.proof_air.proofs.ByLine.{last_is}
use Rattle.proof_air.proofs.Linking.{of_link}
use Rattle.proof_air.proofs.Machines.{machine_keeps}
use Rattle.proof_air.proofs.Untimed.{AreUntimed, IsUntimed, untimed_law, untimed_line}
use Rattle.proof_line.specs.Linked.{◌⊕◌, began, did_at, flags_of, rounds_in, said, BeginsLast, BeginsSaid, Did, IsTickLine, KnowCuts}
use Rattle.proof_line.proofs.ChipAccounts.{event_steps}
use Rattle.proof_line.proofs.LinkEvents.{none_more}
use Rattle.proof_line.proofs.LinkWalk.{IsOneLine, line_none, said_begins, tick_begins, tick_later}
use Rattle.proof_air.proofs.LandingWalk.{hosts}
use Rattle.proof_air.proofs.Times.{IsWithin}
use Rattle.proof_chip.specs.Knowing.{AnyEntry}
use Rattle.proof_chip.specs.Staying.{AreBegun, BeganSo, KnowStays, SaidSo, Started, Stays, TieStays}
use Rattle.proof_chip.specs.Tally.{IsOfLine, KnowTally, Outlook, TallyNow, TallySo, outlook}
use Rattle.proof_chip.proofs.Judged.{goes_back}
use Rattle.proof_chip.proofs.Standing.{none_stand}
use Rattle.proof_chip.proofs.Learning.{any_each}

-- ---- outside the host

-- words of no line, or of another line, stand last
untimed_apart : (past : List Entry) (e : Entry) → IsUntimed e → IsTickLine (line_last (past ++ e ∷ [])) → ⊥
untimed_apart past e untimed says = subst IsTickLine (last_is past e ∙ untimed_line e untimed) says

told_apart : (past told : List Entry) → AreUntimed told → (IsTickLine (line_last past) → ⊥) → IsTickLine (line_last (past ++ told)) → ⊥
told_apart past [] none apart says = apart (subst (λ (l : List Entry). IsTickLine (line_last l)) (append-nil past) says)
told_apart past (e ∷ told) none apart says =
    told_apart (past ++ e ∷ []) told none.1 (untimed_apart past e none.0) (subst (λ (l : List Entry). IsTickLine (line_last l)) (sym (append_assoc past (e ∷ []) told)) says)

module _ (devices : List State) (did : Did) where
  untimed_began : (past : List Entry) (e : Entry) → IsUntimed e → (IsTickLine (line_last past) → ⊥) → BeganSo devices did past e
  untimed_began past (entry.Said words) untimed apart = absurd untimed
  untimed_began past (entry.Time tick) untimed apart = absurd untimed
  untimed_began past e untimed apart = apart

  untimed_each : (past told : List Entry) → AreUntimed told → (IsTickLine (line_last past) → ⊥) → EachAfter (BeganSo devices did) past told
  untimed_each past [] none apart = tt
  untimed_each past (e ∷ told) none apart = (untimed_began past e none.0 apart, untimed_each (past ++ e ∷ []) told none.1 (untimed_apart past e none.0))

  untimed_stays : (w later : Outside) (told : List Entry) → AreUntimed told → later.outer.clock ≡ w.outer.clock → Moves AnyEntry (TieStays devices did) w told (TieStays devices did) later
  untimed_stays w later told none same awaits past silent tie = (any_each past told, by awaits silent tie)
    where
      by : (awaits : Bool) → (awaits ≡ true → told ≡ []) → TieStays devices did awaits past w → TieStays devices did awaits (past ++ told) later
      by true silent tie =
          let is : past ++ told ≡ past = ap (λ (l : List Entry). past ++ l) (silent refl) ∙ append-nil past in
          record {
            begun = subst (λ (l : List Entry). AreBegun devices did l) (sym is) tie.begun;
            number = λ waits.
                subst (λ (l : List Entry). BeganSo devices did l (entry.Time later.outer.clock)) (sym is)
                (subst (λ (n : ℕ). BeganSo devices did past (entry.Time n)) (sym same) (tie.number refl));
            apart = λ waits. absurd (let no : true ≡ false = waits in cc);
          }
      by false silent tie = record {
        begun = each-append (BeganSo devices did) [] past told tie.begun (untimed_each past told none (tie.apart refl));
        number = λ waits. absurd (let no : false ≡ true = waits in cc);
        apart = λ waits. told_apart past told none (tie.apart refl);
      }

  number_stays : (past : List Entry) (w : Outside) → TieStays devices did true past w → TieStays devices did false (past ++ entry.Time w.outer.clock ∷ []) w
  number_stays past w tie = record {
    begun = each-append (BeganSo devices did) [] past (entry.Time w.outer.clock ∷ []) tie.begun (tie.number refl, tt);
    number = λ waits. absurd (let no : false ≡ true = waits in cc);
    apart = λ waits says. subst IsTickLine (last_is past (entry.Time w.outer.clock)) says;
  }

  stays_law : Link AnyEntry (TieStays devices did) IsWithin
  stays_law = untimed_law AnyEntry (TieStays devices did) IsWithin untimed_stays (λ covers. covers) (λ covers. absurd covers) number_stays

  stays_keeps : (past : List Entry) (m : Machine) (event : Event) → CoversOuter IsWithin event → May m event → TieStays devices did (awaits_number m.outside.outer) past m.outside
      → TieStays devices did (awaits_number (happens m event).outside.outer) (past ++ entries m event) (happens m event).outside
  stays_keeps past m event covers may tie =
      (machine_keeps AnyEntry (λ pending. TieStays devices did) IsWithin (of_link AnyEntry (TieStays devices did) IsWithin stays_law) hosts m event covers may past
      (tie, any_each past (ticked_entry m.outside.outer))).1.0

-- the effect of a line begins neither a line nor a tick
pub covers_within : (event : Event) → CoversOuter IsOfLine event → CoversOuter IsWithin event
covers_within (Outside_does Begins_line) of_line = absurd of_line
covers_within (Outside_does Begins_tick) of_line = absurd of_line
covers_within event of_line = tt

-- ---- with more steps, and where one begins

module _ (devices : List State) (did now : Did) (goes : (events : List SerialEvent) (past : List Entry) → Started devices did events past → Started devices now events past) where
  stays_so : (past all : List Entry) → Stays devices did past all → Stays devices now past all
  stays_so past all stays = record { front = stays.front; event = stays.event; events = stays.events; begins = stays.begins; started = goes stays.front past stays.started }

  said_so : (line : List Line) (past all : List Entry) → SaidSo devices did line past all → SaidSo devices now line past all
  said_so (lines.Tick count ∷ more) past all started = goes (serial_events all) past started
  said_so [] past all stays = stays_so past all stays
  said_so (line ∷ more) past all stays = stays_so past all stays

  began_so : (past : List Entry) (e : Entry) → BeganSo devices did past e → BeganSo devices now past e
  began_so past (entry.Said words) so = said_so (line_of (entry.Said words)) past (past ++ entry.Said words ∷ []) so
  began_so past (entry.Time tick) (stays, later) = (stays_so past (past ++ entry.Time tick ∷ []) stays, later)
  began_so past e apart = apart

  each_so : (past rest : List Entry) → EachAfter (BeganSo devices did) past rest → EachAfter (BeganSo devices now) past rest
  each_so past [] each = tt
  each_so past (e ∷ rest) each = (began_so past e each.0, each_so (past ++ e ∷ []) rest each.1)

  tie_so : (awaits : Bool) (past : List Entry) (w : Outside) → TieStays devices did awaits past w → TieStays devices now awaits past w
  tie_so awaits past w tie = record { begun = each_so [] past tie.begun; number = λ waits. began_so past (entry.Time w.outer.clock) (tie.number waits); apart = tie.apart }

module _ (devices : List State) (did : Did) where
  started_more : (more : List Step) (events : List SerialEvent) (past : List Entry) → Started devices did events past → Started devices (did ⊕ more) events past
  started_more more events past started = record {
    before = started.before;
    life = started.life;
    after = started.after;
    starts = started.starts;
    many = started.many;
    side = started.side;
    obeys = started.obeys;
    none = λ later goes. started.none later (goes_back did.steps more later goes);
  }

  started_began : (events : List SerialEvent) (past : List Entry) → Started devices did events past → Started devices (began did) events past
  started_began events past started = record {
    before = started.before;
    life = started.life;
    after = started.after ++ did.steps ∷ [];
    starts = ap (λ (l : List (List Step)). l ++ did.steps ∷ []) started.starts ∙ append_assoc started.before (started.life ∷ started.after) (did.steps ∷ []);
    many = started.many;
    side = started.side;
    obeys = started.obeys;
    none = started.none;
  }

  -- one begins here, where no results are to come
  started_new : (v : Outlook) (awaits : Bool) (events : List SerialEvent) (past : List Entry) (port : PortState) → TallySo (TallyNow devices v awaits 0) did.steps past port
      → length did.starts ≡ rounds_in (flags_of events) → Started devices (began did) events past
  started_new v awaits events past port (given_frames, serves, are) many_so = record {
    before = did.starts;
    life = did.steps;
    after = [];
    starts = refl;
    many = many_so;
    side = port.side;
    obeys = serves.obeys;
    none = λ later goes idle. let many = (are later goes).many in none_stand devices did.steps given_frames past port serves later goes (omega (arith, many)) idle;
  }

  stays_new : (v : Outlook) (awaits : Bool) (past all : List Entry) (port : PortState) → TallySo (TallyNow devices v awaits 0) did.steps past port → BeginsLast did all → Stays devices (began did) past all
  stays_new v awaits past all port tally last =
      record { front = last.front; event = last.event; events = last.events; begins = last.begins; started = started_new v awaits last.front past port tally last.many }

  said_new : (v : Outlook) (awaits : Bool) (line : List Line) (past all : List Entry) (port : PortState) → TallySo (TallyNow devices v awaits 0) did.steps past port → BeginsSaid line did all
      → SaidSo devices (began did) line past all
  said_new v awaits (lines.Tick count ∷ more) past all port tally many = started_new v awaits (serial_events all) past port tally many
  said_new v awaits [] past all port tally last = stays_new v awaits past all port tally last
  said_new v awaits (line ∷ more) past all port tally last = stays_new v awaits past all port tally last

  -- what the link did so far may count as a start
  tie_began : (awaits : Bool) (past : List Entry) (w : Outside) → TieStays devices did awaits past w → AreBegun devices (began did) past
  tie_began awaits past w tie = each_so devices did (began did) started_began [] past tie.begun

  -- ---- at each event

  abbrev Steps : Phase → Phase → List Entry → Machine → Event → Type 0
  Steps here next past m event = KnowStays devices (did_at here did (event_steps m event)) next (past ++ entries m event) (happens m event)

  event_is : (here next to : Phase) (event is : Event) (past : List Entry) (m : Machine) → event ≡ is → next ≡ to → Steps here to past m is → Steps here next past m event
  event_is here next to event is past m event_same next_same known =
      subst (λ (e : Event). Steps here next past m e) (sym event_same) (subst (λ (q : Phase). Steps here q past m is) (sym next_same) known)

  -- one that begins none
  stays : (past : List Entry) (m : Machine) (event is : Event) → event ≡ is → CoversOuter IsWithin is → May m event → TieStays devices did (awaits_number m.outside.outer) past m.outside
      → TieStays devices (did ⊕ event_steps m is) (awaits_number (happens m is).outside.outer) (past ++ entries m is) (happens m is).outside
  stays past m event is event_same covers may tie =
      tie_so devices did (did ⊕ event_steps m is) (started_more (event_steps m is)) (awaits_number (happens m is).outside.outer) (past ++ entries m is) (happens m is).outside
      (stays_keeps devices did past m is covers (subst (May m) event_same may) tie)

  line_stays : (line : Line) (past : List Entry) (m : Machine) → KnowStays devices did (Said_line line) past m
      → KnowStays devices did (Begun line) (past ++ entries m (Outside_does Begins_line)) (happens m (Outside_does Begins_line))
  unfolding happens entries outcome
  line_stays (lines.Tick count) past m known = subst (λ (l : List Entry). AreBegun devices (began did) l) (sym (append-nil past)) known
  line_stays line past m known = record {
    begun = subst (λ (l : List Entry). AreBegun devices did l) (sym (append-nil past)) known.begun;
    number = λ waits. absurd (let no : false ≡ true = waits in cc);
    apart = λ waits. subst (λ (l : List Entry). IsTickLine (line_last l) → ⊥) (sym (append-nil past)) (known.apart refl);
  }

  tick_stays : (past : List Entry) (m : Machine) → AreBegun devices (began did) past → BeganSo devices (began did) past (entry.Time (m.outside.outer.clock + 1))
      → TieStays devices (began did) (awaits_number (happens m (Outside_does Begins_tick)).outside.outer) (past ++ entries m (Outside_does Begins_tick)) (happens m (Outside_does Begins_tick)).outside
  unfolding happens entries outcome devices_after
  tick_stays past m begun here = record {
    begun = subst (λ (l : List Entry). AreBegun devices (began did) l) (sym (append-nil past)) begun;
    number = λ waits. subst (λ (l : List Entry). BeganSo devices (began did) l (entry.Time (m.outside.outer.clock + 1))) (sym (append-nil past)) here;
    apart = λ waits. absurd (let no : true ≡ false = waits in cc);
  }

  pub stays_event : (here next : Phase) (past : List Entry) (m : Machine) (event : Event) → Goes here m event next → May m event → KnowCuts did here past m
      → KnowTally devices did.steps here past m → KnowStays devices did here past m → Steps here next past m event
  stays_event (Said_line line) next past m event (same, next_is) may cuts tally known =
      let is : Event = Outside_does Begins_line in
      event_is (Said_line line) next (Begun line) event is past m same next_is
      (subst (λ (d : Did). KnowStays devices d (Begun line) (past ++ entries m is) (happens m is)) (sym (ap (λ (l : List Step). did ⊕ l) (line_none m) ∙ none_more did)) (line_stays line past m known))
  stays_event (Doing line (first ∷ left)) next past m event (same, next_is) may cuts tally known =
      event_is (Doing line (first ∷ left)) next (Doing line left) event first past m same next_is (stays past m event first same (covers_within first tally.1.0) may known)
  stays_event (To_tick (suc ticks)) next past m event (same, next_is) may cuts tally known =
      let o = m.outside.outer in
      event_is (To_tick (suc ticks)) next (Ticked ticks) event (Outside_does Begins_tick) past m same next_is
      (tick_stays past m known (
        stays_new (outlook o) (awaits_number o) past (past ++ entry.Time (o.clock + 1) ∷ []) o.chip.state.port tally.0 (tick_begins did (suc ticks) past m cuts),
        tick_later did (suc ticks) past m cuts,
      ))
  stays_event (Arriving (suc frames) ticks) next past m event (drawn, route, same, next_is) may cuts tally known =
      event_is (Arriving (suc frames) ticks) next (Arriving frames ticks) event _ past m same next_is (stays past m event _ same tt may known)
  stays_event (Giving (suc results) ticks) next past m event (route, same, next_is) may cuts tally known =
      event_is (Giving (suc results) ticks) next (Giving results ticks) event _ past m same next_is (stays past m event _ same tt may known)
  stays_event (Ticking_devices place (suc count) ticks) next past m event (drawn, route, same, next_is) may cuts tally known =
      event_is (Ticking_devices place (suc count) ticks) next (Ticking_devices (place + 1) count ticks) event _ past m same next_is (stays past m event _ same tt may known)
  stays_event (Ticking_chip ticks) next past m event (same, next_is) may cuts tally known =
      event_is (Ticking_chip ticks) next (Ticking_decoder ticks) event _ past m same next_is (stays past m event _ same tt may known)
  stays_event (Ticking_decoder ticks) next past m event (same, next_is) may cuts tally known =
      event_is (Ticking_decoder ticks) next (Ticking_host (tick_events m.host.state) ticks) event _ past m same next_is (stays past m event _ same tt may known)
  stays_event (Ticking_host (first ∷ events) ticks) next past m event (same, next_is) may cuts tally known =
      event_is (Ticking_host (first ∷ events) ticks) next (Ticking_host events ticks) event _ past m same next_is (stays past m event _ same tt may known)
  stays_event (Sleeping passes ticks) next past m event (node, wants, same, next_is) may cuts tally known =
      event_is (Sleeping passes ticks) next (Sleeping passes ticks) event _ past m same next_is (stays past m event _ same tt may known)
  stays_event (Submitting passes ticks) next past m event (asked, is, same, next_is) may cuts tally known =
      event_is (Submitting passes ticks) next (Submitting passes ticks) event _ past m same next_is (stays past m event _ same tt may known)
  stays_event (Moving passes ticks) next past m event (rest, ways, same, next_is) may cuts tally known =
      event_is (Moving passes ticks) next (Moved true passes ticks) event _ past m same next_is (stays past m event _ same tt may known)
  stays_event (Moved has_moved passes ticks) next past m event (rest, items, done, same, next_is) may cuts tally known =
      event_is (Moved has_moved passes ticks) next (Sleeping passes ticks) event _ past m same next_is (stays past m event _ same tt may known)
  stays_event here next past m event goes may cuts tally known = absurd goes

  -- ---- a part begins

  to : (next phase : Phase) (past : List Entry) (m : Machine) → next ≡ phase → KnowStays devices did phase past m → KnowStays devices did next past m
  to next phase past m is known = subst (λ (q : Phase). KnowStays devices did q past m) (sym is) known

  effect_stays : (line : Line) (events : List Event) (past : List Entry) (m : Machine) → IsEffect line m events → KnowStays devices did (Begun line) past m → KnowStays devices did (Doing line events) past m
  effect_stays (lines.Tick count) events past m is known = absurd is
  effect_stays line events past m is known = known

  pub stays_turn : (here next : Phase) (past : List Entry) (m : Machine) → Turns here m next → KnowStays devices did here past m → KnowStays devices did next past m
  stays_turn (Begun line) next past m (inl (events, is, next_is)) known = to next (Doing line events) past m next_is (effect_stays line events past m is known)
  stays_turn (Begun line) next past m (inr (ticks, line_is, next_is)) known = to next (To_tick ticks) past m next_is (subst (λ (l : Line). KnowStays devices did (Begun l) past m) line_is known)
  stays_turn (Doing line []) next past m next_is known = to next (Sleeping 64 0) past m next_is known
  stays_turn (To_tick zero) next past m next_is known = to next Between past m next_is known
  stays_turn (Ticked ticks) next past m next_is known = to next _ past m next_is known
  stays_turn (Arriving zero ticks) next past m next_is known = to next _ past m next_is known
  stays_turn (Giving zero ticks) next past m next_is known = to next _ past m next_is known
  stays_turn (Ticking_devices place zero ticks) next past m next_is known = to next _ past m next_is known
  stays_turn (Ticking_host [] ticks) next past m next_is known = to next (Sleeping 64 ticks) past m next_is known
  stays_turn (Sleeping passes ticks) next past m (wants, next_is) known = to next (Submitting passes ticks) past m next_is known
  stays_turn (Submitting zero ticks) next past m (pumped, next_is) known = to next (To_tick ticks) past m next_is (tie_began (awaits_number m.outside.outer) past m.outside known)
  stays_turn (Submitting (suc passes) ticks) next past m (pumped, next_is) known = to next (Moving passes ticks) past m next_is known
  stays_turn (Moving passes ticks) next past m (still, next_is) known = to next (Moved false passes ticks) past m next_is known
  stays_turn (Moved has_moved passes ticks) next past m (still, next_is) known = to next (Sleeping _ ticks) past m next_is known
  stays_turn here next past m turns known = absurd turns

  -- ---- the words of a line

  pub stays_said : (past : List Entry) (m : Machine) (word : List ℕ) (line : Line) → line_of (entry.Said word) ≡ line ∷ [] → KnowTime Between past m → KnowCuts did Between past m
      → KnowTally devices did.steps Between past m → KnowStays devices did Between past m → KnowStays devices (said line did) (Said_line line) (past ++ entry.Said word ∷ []) m
  stays_said past m word line read time cuts tally known =
      by line (last_is past (entry.Said word) ∙ read)
      (each-append (BeganSo devices (began did)) [] past (entry.Said word ∷ []) known (
        said_new (outlook m.outside.outer) (awaits_number m.outside.outer) (line_of (entry.Said word)) past (past ++ entry.Said word ∷ []) m.outside.outer.chip.state.port tally.0
            (said_begins did past m word (line_of (entry.Said word)) refl time cuts (subst IsOneLine (sym read) tt)),
        tt,
      ))
    where
      by : (line : Line) → line_last (past ++ entry.Said word ∷ []) ≡ line ∷ [] → AreBegun devices (began did) (past ++ entry.Said word ∷ [])
          → KnowStays devices (said line did) (Said_line line) (past ++ entry.Said word ∷ []) m
      by (lines.Tick count) last begun = begun
      by line last begun = record { begun = begun; number = λ waits. absurd (let no : false ≡ true = waits in cc); apart = λ waits says. subst IsTickLine last says }

-- ---- where a run is over

pub stays_ended : (devices : List State) (did : Did) (past : List Entry) (m : Machine) → KnowTime Between past m → KnowCuts did Between past m → KnowTally devices did.steps Between past m
    → KnowStays devices did Between past m → AreBegun devices (began did) (past ++ entry.Said [] ∷ [])
unfolding words line_words
stays_ended devices did past m time cuts tally known =
    each-append (BeganSo devices (began did)) [] past (entry.Said [] ∷ []) known
    (stays_new devices did (outlook m.outside.outer) (awaits_number m.outside.outer) past (past ++ entry.Said [] ∷ []) m.outside.outer.chip.state.port tally.0 (said_begins did past m [] [] refl time cuts tt), tt)

-- ---- where it is cut short

pub stays_cut : (devices : List State) (did : Did) (here : Phase) (past : List Entry) (m : Machine) → KnowStays devices did here past m → AreBegun devices (began did) past
stays_cut devices did Between past m known = known
stays_cut devices did (Said_line (lines.Tick count)) past m known = known
stays_cut devices did (Said_line line) past m known = tie_began devices did false past m.outside known
stays_cut devices did (Begun (lines.Tick count)) past m known = known
stays_cut devices did (To_tick ticks) past m known = known
stays_cut devices did here past m known = tie_began devices did (awaits_number m.outside.outer) past m.outside known
