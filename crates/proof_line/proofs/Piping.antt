-- Neither pipe holds more than the transcript shows that it may, at each phase of a line.
use Rattle.std.proofs.Common.{◌≡◌, ◌≤◌, ℕ, zero, suc, ◌+◌, ◌&&◌, not, nat_lt, Bool, true, false, if◌then◌else◌, List, [], ◌∷◌, ◌++◌, length, inl, inr, refl, sym, ap, subst, ◌∙◌, append-nil, append_assoc}
use Rattle.std.specs.Prelude.{Option}
use Rattle.std.proofs.lemmas.Bool.{ltb-true}
use Rattle.serial_frame.specs.Stream.{Rest}
use Rattle.serial_frame.specs.Items.{unit_text}
use Rattle.serial_frame.specs.declared.item.Item.{Item}
use Rattle.serial_frame.specs.declared.unit.Unit.{Unit as LineUnit}
use Rattle.serial_frame.specs.declared.unit.Unit.TheVariants.{Ack, Nak, Can, Framed}
use Rattle.route_table.specs.declared.route.Route.{Route}
use Rattle.zw_words.specs.declared.side.Side.{Side}
use Rattle.zw_words.specs.declared.side.Side.TheVariants.{Host as by_host, Chip as by_chip}
use Rattle.zw_text.specs.declared.line.Line.{Line}
use Rattle.zw_text.specs.declared.line.Line.TheVariants as lines
use Rattle.zw_text.specs.declared.entry.Entry.{Entry}
use Rattle.zw_text.specs.declared.entry.Entry.TheVariants as entry
use Rattle.zw_text.specs.declared.entry.Refusal.{Refusal}
use Rattle.zw_text.specs.Transcript.{line_of, line_after, line_last}
use Rattle.zw_text.proofs.Views.{folded-append}
use Rattle.law_wire.specs.law_transcript.Lists.{EachAfter}
use Rattle.law_wire.specs.law_transcript.Restarts.{is_restart}
use Rattle.law_wire.specs.Pipes.{Pipe, empty_pipe, with_answer, gone_on, with_turn, pipe_from, sum_of, bytes_perhaps}
use Rattle.proof_world.specs.host_model.State.{HostState}
use Rattle.proof_world.specs.host_model.Events.{HostEvent}
use Rattle.proof_world.specs.host_model.Did.{outs_all}
use Rattle.proof_world.specs.host_model.Outs.{answers}
use Rattle.proof_world.specs.host_model.Ticking.{tick_events}
use Rattle.proof_walk.specs.outside_model.State.{OuterState, Outside, first_outer, is_stalled}
use Rattle.proof_walk.specs.outside_model.Events.{OuterEvent, Begins_line, Begins_tick, Arrives, Gives, Device_ticks, Chip_ticks, Chip_takes, Clears_pipe, Host_takes as host_takes, outcome, devices_after, cleared_entries, May as MayOutside, happens as happens_outside, stamp, has_entered}
use Rattle.proof_walk.specs.outside_model.Did.{happens_all as happens_all_outside, entries_all as entries_all_outside}
use Rattle.proof_walk.specs.world_model.State.{Machine, routed, host_does}
use Rattle.proof_walk.specs.world_model.Events.{Event, Outside_does, Host_does, Host_takes, Decoder_ticks, Refuses, Shows_values, Restarts, notes, shown_values, happens, entries, May}
use Rattle.proof_walk.specs.world_model.Lines.{IsEffect}
use Rattle.proof_walk.specs.Outside.{awaits_number}
use Rattle.proof_walk.specs.Phases.{Phase, Between, Said_line, Begun, Doing, To_tick, Ticked, Arriving, Giving, Ticking_devices, Ticking_chip, Ticking_decoder, Ticking_host, Sleeping, Submitting, Moving, Moved, Turns, Goes, IsStill}
use Rattle.proof_walk.specs.Walk.{Walk}
use Rattle.proof_walk.specs.ByLine.{CoversLine, IsAsked, OfEffect}
use Rattle.proof_walk.proofs.ByLine.{effect_asks}
use Rattle.proof_walk.proofs.Stepping.{Steps, event_then}
use Rattle.proof_line.specs.Pipes.{MayLack, MayClear, MayTell, Mode, most, Resting, Turned, Waits, AtMost, Heard, Held, JustSaid, IsByHand, HasCleared, Restarts_next, LeftRestart, LeftPipes, InTick, HasMoved, HearsNothing, KnowPipes}
use Rattle.proof_line.proofs.Standing.{frame_long}
use Rattle.proof_line.proofs.Holding.{Grown, pipe_grows}
use Rattle.proof_line.proofs.Filling.{Up, Down, held_empty, held_same, held_weaker, none_held, few_frames, never, resting_empty, turned_empty, heard_empty, turn_turned, turn_heard, resting_host, heard_host}
use Rattle.proof_world.proofs.Outer.{wrong as no_refusal}
use Rattle.proof_line.proofs.Chipping.{IsFrame, IsGoing, going_keeps, drop_whole, takes_keep}
use Rattle.proof_line.proofs.Hosting.{NoUnit, frames_alone, asked_none, no_more_nothing, tick_nothing, next_nothing, keeps_none, keeps_both, note_keeps, host_keeps, answer_keeps}
use Rattle.proof_walk.proofs.Machines.{any_units as any_of}

-- ---- between modes

at_rest : (past : List Entry) (o : OuterState) → Held Turned past o → Held Resting past o
at_rest = held_weaker Turned Resting (λ up down a b turned. turned.0)

in_turn : (awaits : Bool) (past : List Entry) (o : OuterState) → Held Turned past o → Held (Waits awaits false) past o
in_turn true past o held = held
in_turn false past o held = held

of_turn : (awaits : Bool) (past : List Entry) (o : OuterState) → Held (Waits awaits false) past o → Held Turned past o
of_turn true past o held = held
of_turn false past o held = held

of_tick : (awaits : Bool) (past : List Entry) (o : OuterState) → Held (Waits awaits true) past o → Held Resting past o
of_tick true past o held = held
of_tick false past o held = at_rest past o held

at_most : (awaits : Bool) (past : List Entry) (o : OuterState) → Held Resting past o → Held (AtMost awaits) past o
at_most awaits = held_weaker Resting (AtMost awaits) (λ up down a b resting. (resting.0, (few_frames down (length b) resting.1, λ waits. resting.1)))

-- ---- the host

turn_rest : (up down : Pipe) (a b : List ℕ) → Resting up down a b → Resting (with_turn by_host up) (with_turn by_chip down) a b
turn_rest up down a b resting = (turn_turned up down a b resting).0

turn_turn : (up down : Pipe) (a b : List ℕ) → Turned up down a b → Turned (with_turn by_host up) (with_turn by_chip down) a b
turn_turn up down a b turned = turn_turned up down a b turned.0

rest_writes : (unit : LineUnit) → IsFrame unit → (up later down : Pipe) (a after b : List ℕ) → Grown (length (unit_text unit)) up later a after → Resting up down a b
    → Resting later (with_answer (length (unit_text unit)) (gone_on down)) after b
rest_writes Ack is = absurd is
rest_writes Nak is = absurd is
rest_writes Can is = absurd is
rest_writes (Framed f) is = λ up later down a after b grown resting. resting_host (length (unit_text (Framed f))) up later down a after b (frame_long f) grown resting

abbrev Keeps : Mode → Machine → Event → List Entry → Type 0
Keeps mode m event past = EachAfter MayTell past (entries m event) × Held mode (past ++ entries m event) (happens m event).outside.outer

-- of itself
host_goes : (m : Machine) (event : HostEvent) → HearsNothing event → (past : List Entry) → Held Resting past m.outside.outer → Keeps Resting m (Host_does event) past
unfolding happens entries
host_goes m event nothing past held =
    let later : Outside = (host_does m (event ∷ [])).outside in
    keeps_both Resting resting_empty turn_rest m.outside later (happens_all_outside later (notes (answers m.host.state event)))
    (entries_all_outside m.outside (routed (outs_all m.host.state (event ∷ [])))) (entries_all_outside later (notes (answers m.host.state event)))
    (host_keeps Resting resting_empty turn_rest IsFrame (λ up down a b resting. resting.0) rest_writes m.outside m.host.state (event ∷ []) (frames_alone m.host.state event nothing))
    (answer_keeps Resting resting_empty turn_rest IsFrame (λ up down a b resting. resting.0) rest_writes later m.host.state event) past held

-- where a line asks for it
asked_goes : (m : Machine) (event : HostEvent) → IsAsked event → (past : List Entry) → Held Turned past m.outside.outer → Keeps Turned m (Host_does event) past
unfolding happens entries
asked_goes m event asked past held =
    let later : Outside = (host_does m (event ∷ [])).outside in
    keeps_both Turned turned_empty turn_turn m.outside later (happens_all_outside later (notes (answers m.host.state event)))
    (entries_all_outside m.outside (routed (outs_all m.host.state (event ∷ [])))) (entries_all_outside later (notes (answers m.host.state event)))
    (host_keeps Turned turned_empty turn_turn NoUnit (λ up down a b turned. turned.0.0) (λ unit none. absurd none) m.outside m.host.state (event ∷ []) (asked_none m.host.state event asked))
    (answer_keeps Turned turned_empty turn_turn NoUnit (λ up down a b turned. turned.0.0) (λ unit none. absurd none) later m.host.state event) past held

-- it takes all bytes, and answers
heard_goes : (m : Machine) (rest : Rest) (items : List Item) (events : List HostEvent) (past : List Entry) → length m.outside.outer.to_chip.bytes ≤ most (Up past)
    → (is_restart (line_last past) ≡ true → m.outside.outer.to_chip.bytes ≡ [])
    → Keeps Resting m (Host_takes (length m.outside.outer.to_host.bytes) rest items events) past
unfolding happens entries outcome devices_after
heard_goes m rest items events past few fresh =
    let later : Outside = happens_outside m.outside (host_takes (length m.outside.outer.to_host.bytes)) in
    let held : Held Heard past later.outer = record { holds = (drop_whole m.outside.outer.to_host.bytes, few); fresh = λ is. (fresh is, drop_whole m.outside.outer.to_host.bytes) } in
    let got =
    host_keeps Heard heard_empty turn_heard (λ unit. Unit {0}) (λ up down a b heard. heard.1) (λ unit is up later down a after b grown heard. heard_host (length (unit_text unit)) up later down a after b grown heard)
    later m.host.state events (any_of (outs_all m.host.state events)) past held in
    (got.0, heard_rests _ _ got.1)
  where
    heard_rests : (past : List Entry) (o : OuterState) → Held Heard past o → Held Resting past o
    heard_rests = held_weaker Heard Resting (λ up down a b heard. (heard.1, subst (λ (l : List ℕ). length l ≤ sum_of down.frames) (sym heard.0) (none_held (sum_of down.frames))))

-- ---- the words of a line

said : (past : List Entry) (m : Machine) (words : List ℕ) (line : Line) → line_of (entry.Said words) ≡ line ∷ [] → Held Resting past m.outside.outer
    → MayTell past (entry.Said words) × JustSaid line (past ++ entry.Said words ∷ []) m.outside.outer
said past m words line read held = (tt, record { before = past; words = words; read = read; is = refl; held = held })

begins_line : (line : Line) (past : List Entry) (m : Machine) → JustSaid line past m.outside.outer
    → EachAfter MayTell past (entries m (Outside_does Begins_line)) × KnowPipes (Begun line) (past ++ entries m (Outside_does Begins_line)) (happens m (Outside_does Begins_line))
unfolding happens entries outcome devices_after
begins_line line past m just =
    let later : OuterState = (happens m (Outside_does Begins_line)).outside.outer in (
      tt,
      (
        record {
          before = just.before;
          words = just.words;
          read = just.read;
          is = append-nil past ∙ just.is;
          held = held_same Resting just.before m.outside.outer later refl refl just.held;
        },
        refl,
      ),
    )

-- the entries before a line, and then it with what stands directly after it
module _ (before told : List Entry) (words : List ℕ) where
  abbrev all : List Entry
  all = before ++ entry.Said words ∷ told

  -- each side has its turn
  turned_after : (o : OuterState) → Held Resting before o
      → ((side : Side) (pipe : Pipe) → pipe_from side pipe (entry.Said words ∷ told) ≡ with_turn side pipe) → is_restart (line_last all) ≡ false → Held Turned all o
  turned_after o held turns unsaid = record {
    holds =
        subst (λ (p : Pipe). Turned p (Down all) o.to_chip.bytes o.to_host.bytes) (sym (pipe_grows by_host empty_pipe before (entry.Said words ∷ told) tt no_refusal ∙ turns by_host (Up before)))
        (subst (λ (p : Pipe). Turned (with_turn by_host (Up before)) p o.to_chip.bytes o.to_host.bytes)
        (sym (pipe_grows by_chip empty_pipe before (entry.Said words ∷ told) tt no_refusal ∙ turns by_chip (Down before)))
        (turn_turned (Up before) (Down before) o.to_chip.bytes o.to_host.bytes held.holds));
    fresh = λ is. never (is_restart (line_last all)) unsaid is;
  }

-- a line that is no restart
said_turned : (line : Line) (past : List Entry) (o : OuterState) → is_restart (line ∷ []) ≡ false → JustSaid line past o → Held Turned past o
said_turned line past o other just =
    let none : is_restart (line_of (entry.Said just.words)) ≡ false = ap is_restart just.read ∙ other in
    subst (λ (l : List Entry). Held Turned l o) (sym just.is)
    (turned_after just.before [] just.words o just.held (λ side pipe. ap (λ (b : Bool). if b && not false then empty_pipe else with_turn side pipe) none)
    (ap is_restart (folded-append line_after [] just.before (entry.Said just.words ∷ [])) ∙ none))

-- a restart that is refused
refused_turned : (past : List Entry) (o : OuterState) (refusal : Refusal) → JustSaid lines.Restart past o → Held Turned (past ++ entry.Refused refusal ∷ []) o
refused_turned past o refusal just =
    let two : List Entry = entry.Said just.words ∷ entry.Refused refusal ∷ [] in
    subst (λ (l : List Entry). Held Turned l o) (sym (append_assoc just.before (entry.Said just.words ∷ []) (entry.Refused refusal ∷ [])) ∙ ap (λ (l : List Entry). l ++ entry.Refused refusal ∷ []) (sym just.is))
    (turned_after just.before (entry.Refused refusal ∷ []) just.words o just.held (λ side pipe. kept side pipe (is_restart (line_of (entry.Said just.words))))
    (ap is_restart (folded-append line_after [] just.before two)))
  where
    kept : (side : Side) (pipe : Pipe) (b : Bool) → (if b && not true then empty_pipe else with_turn side pipe) ≡ with_turn side pipe
    kept side pipe true = refl
    kept side pipe false = refl

-- ---- the effect of a line

hand_going : (event : OuterEvent) → IsByHand event → IsGoing event
hand_going (Arrives drawn route) by_hand = tt
hand_going (Gives route) by_hand = tt
hand_going (Device_ticks place drawn route) by_hand = tt
hand_going Chip_ticks by_hand = tt
hand_going event by_hand = by_hand

effect_keeps : (past : List Entry) (m : Machine) (event : Event) → OfEffect IsByHand event → Held Turned past m.outside.outer → Keeps Turned m event past
unfolding happens entries
effect_keeps past m (Outside_does event) of_effect held =
    let got = going_keeps false m.outside event (hand_going event of_effect) past (in_turn (awaits_number m.outside.outer) past m.outside.outer held) in
    (got.0, of_turn _ _ _ got.1)
effect_keeps past m (Host_does event) of_effect held = asked_goes m event of_effect past held
effect_keeps past m (Host_takes count rest items events) of_effect held = absurd of_effect
effect_keeps past m Decoder_ticks of_effect held = absurd of_effect
effect_keeps past m (Refuses line refusal) of_effect held = note_keeps Turned turned_empty turn_turn m.outside (entry.Refused refusal) tt refl past held
effect_keeps past m (Shows_values node) of_effect held = note_keeps Turned turned_empty turn_turn m.outside (shown_values m.host.state node) tt refl past held
effect_keeps past m (Restarts state) of_effect held = keeps_none Turned turned_empty turn_turn m.outside past held

-- the bytes that are on their way, and whether a tick runs
abbrev pub bytes_of : OuterState → List ℕ × List ℕ × Bool
bytes_of o = (o.to_chip.bytes, o.to_host.bytes, o.in_tick)

pub entered_same : (o : OuterState) (told : List Entry) → bytes_of (has_entered o told) ≡ bytes_of o
entered_same o [] = refl
entered_same o (e ∷ told) = refl

-- outside a tick no number stands before what is told
pub stamp_quiet : (o : OuterState) (told : List Entry) → o.in_tick ≡ false → stamp o told ≡ told
stamp_quiet o [] quiet = refl
stamp_quiet o (e ∷ told) quiet = ap (λ (b : Bool). (if b && not o.stamped then entry.Time o.clock ∷ [] else []) ++ e ∷ told) quiet

abbrev Restarted : List Event → List Entry → Machine → Event → Type 0
Restarted left past m event = EachAfter MayTell past (entries m event) × LeftRestart left (past ++ entries m event) (happens m event)

refuses : (past : List Entry) (m : Machine) (refusal : Refusal) → Restarts_next past m → Restarted [] past m (Refuses lines.Restart refusal)
unfolding happens entries outcome devices_after
refuses past m refusal known =
    let o : OuterState = m.outside.outer in
    let later : OuterState = (happens m (Refuses lines.Restart refusal)).outside.outer in
    let alone : entries m (Refuses lines.Restart refusal) ≡ entry.Refused refusal ∷ [] = stamp_quiet o (entry.Refused refusal ∷ []) known.1 in
    let held : Held Resting (past ++ entry.Refused refusal ∷ []) later =
    held_same Resting (past ++ entry.Refused refusal ∷ []) o later refl refl (at_rest (past ++ entry.Refused refusal ∷ []) o (refused_turned past o refusal known.0)) in (
      subst (λ (l : List Entry). EachAfter MayTell past l) (sym alone) (tt, tt),
      inr (inr (inr (inr (refl, subst (λ (l : List Entry). Held Resting (past ++ l) later) (sym alone) held)))),
    )

-- the same entries before it
just_later : (line : Line) (past : List Entry) (o p : OuterState) → p.to_chip.bytes ≡ o.to_chip.bytes → p.to_host.bytes ≡ o.to_host.bytes → JustSaid line past o → JustSaid line (past ++ []) p
just_later line past o p up down just =
    record { before = just.before; words = just.words; read = just.read; is = append-nil past ∙ just.is; held = held_same Resting just.before o p up down just.held }

starts_again : (past : List Entry) (m : Machine) (state : HostState) (left : List Event) → left ≡ Outside_does (Clears_pipe by_host) ∷ Outside_does (Clears_pipe by_chip) ∷ [] → Restarts_next past m
    → Restarted left past m (Restarts state)
unfolding happens entries
starts_again past m state left is known =
    (tt, inr (inr (inl (is, (just_later lines.Restart past m.outside.outer (happens m (Restarts state)).outside.outer refl refl known.0, known.1)))))

-- what was on its way to the chip is lost
module _ (past : List Entry) (o : OuterState) (just : JustSaid lines.Restart past o) (quiet : o.in_tick ≡ false) where
  few_up : length o.to_chip.bytes ≤ bytes_perhaps by_host just.before
  few_up = just.held.holds.0

  few_down : length o.to_host.bytes ≤ bytes_perhaps by_chip just.before
  few_down = few_frames (Down just.before) (length o.to_host.bytes) just.held.holds.1

  clears_up : (some : Bool) (later : OuterState) → nat_lt 0 (length o.to_chip.bytes) ≡ some → later.to_host.bytes ≡ o.to_host.bytes → later.to_chip.bytes ≡ [] → later.in_tick ≡ false
      → let told : List Entry = if some then entry.Cleared by_host (length o.to_chip.bytes) ∷ [] else [] in EachAfter MayTell past told × HasCleared (past ++ told) later
  clears_up true later some same none still = (
    (
      record {
        before = just.before;
        words = just.words;
        told = [];
        is = just.is;
        restarts = just.read;
        ahead = refl;
        some = ltb-true 0 (length o.to_chip.bytes) some;
        few = few_up;
      },
      tt,
    ),
    record {
      before = just.before;
      words = just.words;
      told = entry.Cleared by_host (length o.to_chip.bytes) ∷ [];
      is =
          ap (λ (l : List Entry). l ++ entry.Cleared by_host (length o.to_chip.bytes) ∷ []) just.is
          ∙ append_assoc just.before (entry.Said just.words ∷ []) (entry.Cleared by_host (length o.to_chip.bytes) ∷ []);
      restarts = just.read;
      ahead = inr (length o.to_chip.bytes, refl);
      few = subst (λ (l : List ℕ). length l ≤ bytes_perhaps by_chip just.before) (sym same) few_down;
      none = none;
      quiet = still;
    },
  )
  clears_up false later some same none still = (
    tt,
    record {
      before = just.before;
      words = just.words;
      told = [];
      is = append-nil past ∙ just.is;
      restarts = just.read;
      ahead = inl refl;
      few = subst (λ (l : List ℕ). length l ≤ bytes_perhaps by_chip just.before) (sym same) few_down;
      none = none;
      quiet = still;
    },
  )

-- and then what was on its way to the host
clears_down : (past : List Entry) (o : OuterState) (some : Bool) → nat_lt 0 (length o.to_host.bytes) ≡ some → HasCleared past o
    → EachAfter MayTell past (if some then entry.Cleared by_chip (length o.to_host.bytes) ∷ [] else [])
clears_down past o true some known = (
  record {
    before = known.before;
    words = known.words;
    told = known.told;
    is = known.is;
    restarts = known.restarts;
    ahead = known.ahead;
    some = ltb-true 0 (length o.to_host.bytes) some;
    few = known.few;
  },
  tt,
)
clears_down past o false some known = tt

clears_host : (past : List Entry) (m : Machine) (left : List Event) → left ≡ Outside_does (Clears_pipe by_chip) ∷ [] → Restarts_next past m → Restarted left past m (Outside_does (Clears_pipe by_host))
unfolding happens entries outcome devices_after
clears_host past m left is known =
    let o : OuterState = m.outside.outer in
    let told : List Entry = cleared_entries by_host (length o.to_chip.bytes) in
    let x : OuterState = (outcome m.outside (Clears_pipe by_host)).outer in
    let later : OuterState = has_entered x told in
    let same = entered_same x told in
    let got =
    clears_up past o known.0 known.1 (nat_lt 0 (length o.to_chip.bytes)) later refl (ap (λ (l : List ℕ × List ℕ × Bool). l.1) same) (ap (λ (l : List ℕ × List ℕ × Bool). l.0) same)
    (ap (λ (l : List ℕ × List ℕ × Bool). l.2) same ∙ known.1) in
    subst (λ (l : List Entry). EachAfter MayTell past l × LeftRestart left (past ++ l) (happens m (Outside_does (Clears_pipe by_host)))) (sym (stamp_quiet x told known.1))
    (got.0, inr (inr (inr (inl (is, got.1)))))

clears_chip : (past : List Entry) (m : Machine) → HasCleared past m.outside.outer → Restarted [] past m (Outside_does (Clears_pipe by_chip))
unfolding happens entries outcome devices_after
clears_chip past m known =
    let o : OuterState = m.outside.outer in
    let told : List Entry = cleared_entries by_chip (length o.to_host.bytes) in
    let x : OuterState = (outcome m.outside (Clears_pipe by_chip)).outer in
    let same = entered_same x told in
    subst (λ (l : List Entry). EachAfter MayTell past l × LeftRestart [] (past ++ l) (happens m (Outside_does (Clears_pipe by_chip)))) (sym (stamp_quiet x told known.quiet)) (
      clears_down past o (nat_lt 0 (length o.to_host.bytes)) refl known,
      inr (inr (inr (inr (
        refl,
        held_empty Resting resting_empty (past ++ told) (has_entered x told) (ap (λ (l : List ℕ × List ℕ × Bool). l.0) same ∙ known.none) (ap (λ (l : List ℕ × List ℕ × Bool). l.1) same),
      )))),
    )

as_first : (left : List Event) (first is : Event) (past : List Entry) (m : Machine) → first ≡ is → Restarted left past m is → Restarted left past m first
as_first left first is past m first_is restarted = subst (λ (e : Event). Restarted left past m e) (sym first_is) restarted

as_none : (left : List Event) (past : List Entry) (m : Machine) (event : Event) → left ≡ [] → Restarted [] past m event → Restarted left past m event
as_none left past m event none restarted = subst (λ (l : List Event). Restarted l past m event) (sym none) restarted

does_restart : (first : Event) (left : List Event) (past : List Entry) (m : Machine) → LeftRestart (first ∷ left) past m → Restarted left past m first
does_restart first left past m (inl (refusal, is, known)) =
    let head : first ≡ Refuses lines.Restart refusal = cc in
    let tail : left ≡ [] = cc in
    as_first left first (Refuses lines.Restart refusal) past m head (as_none left past m (Refuses lines.Restart refusal) tail (refuses past m refusal known))
does_restart first left past m (inr (inl (state, is, known))) =
    let head : first ≡ Restarts state = cc in
    let tail : left ≡ Outside_does (Clears_pipe by_host) ∷ Outside_does (Clears_pipe by_chip) ∷ [] = cc in
    as_first left first (Restarts state) past m head (starts_again past m state left tail known)
does_restart first left past m (inr (inr (inl (is, known)))) =
    let head : first ≡ Outside_does (Clears_pipe by_host) = cc in
    let tail : left ≡ Outside_does (Clears_pipe by_chip) ∷ [] = cc in
    as_first left first (Outside_does (Clears_pipe by_host)) past m head (clears_host past m left tail known)
does_restart first left past m (inr (inr (inr (inl (is, known))))) =
    let head : first ≡ Outside_does (Clears_pipe by_chip) = cc in
    let tail : left ≡ [] = cc in
    as_first left first (Outside_does (Clears_pipe by_chip)) past m head (as_none left past m (Outside_does (Clears_pipe by_chip)) tail (clears_chip past m known))
does_restart first left past m (inr (inr (inr (inr (is, held))))) = absurd cc

-- the next event
does : (line : Line) (first : Event) (left : List Event) (past : List Entry) (m : Machine) → LeftPipes line (first ∷ left) past m
    → EachAfter MayTell past (entries m first) × LeftPipes line left (past ++ entries m first) (happens m first)
does lines.Restart first left past m known = does_restart first left past m known
does line first left past m known = let got = effect_keeps past m first known.0.0 known.1 in (got.0, (known.0.1, got.1))

-- which events it has
pub covers_line : (line : Line) → is_restart (line ∷ []) ≡ false → CoversLine IsByHand line
covers_line (lines.Repeat frame) other = λ drawn route. tt
covers_line (lines.Wake node) other = λ route. tt
covers_line (lines.Local node value) other = λ route. tt
covers_line lines.Restart other = absurd (let none : true ≡ false = other in cc)
covers_line line other = tt

effect : (line : Line) (past : List Entry) (m : Machine) (events : List Event) → IsEffect line m events → KnowPipes (Begun line) past m → LeftPipes line events past m
effect lines.Restart past m events (inl (state, is)) known = inr (inl (state, is, known))
effect lines.Restart past m events (inr (refusal, is)) known = inl (refusal, is, known)
effect line past m events is known = (effect_asks IsByHand line m events (covers_line line refl) is, said_turned line past m.outside.outer refl known.0)

done : (line : Line) (past : List Entry) (m : Machine) → LeftPipes line [] past m → Held Resting past m.outside.outer
done lines.Restart past m (inl (refusal, is, known)) = absurd cc
done lines.Restart past m (inr (inl (state, is, known))) = absurd cc
done lines.Restart past m (inr (inr (inl (is, known)))) = absurd cc
done lines.Restart past m (inr (inr (inr (inl (is, known))))) = absurd cc
done lines.Restart past m (inr (inr (inr (inr (is, held))))) = held
done line past m known = at_rest past m.outside.outer known.1

-- ---- ticks and passes

begins_tick : (ticks : ℕ) (past : List Entry) (m : Machine) → Held Resting past m.outside.outer
    → EachAfter MayTell past (entries m (Outside_does Begins_tick)) × KnowPipes (Ticked ticks) (past ++ entries m (Outside_does Begins_tick)) (happens m (Outside_does Begins_tick))
unfolding happens entries outcome devices_after
begins_tick ticks past m held =
    let later : OuterState = (happens m (Outside_does Begins_tick)).outside.outer in
    (tt, held_same Resting (past ++ []) m.outside.outer later refl refl (subst (λ (l : List Entry). Held Resting l m.outside.outer) (sym (append-nil past)) held))

in_tick : (past : List Entry) (m : Machine) (event : OuterEvent) → IsGoing event → InTick past m
    → EachAfter MayTell past (entries m (Outside_does event)) × InTick (past ++ entries m (Outside_does event)) (happens m (Outside_does event))
unfolding happens entries
in_tick past m event going known = going_keeps true m.outside event going past known

decoder : (past : List Entry) (m : Machine) → Held Resting past m.outside.outer → Keeps Resting m Decoder_ticks past
unfolding happens entries
decoder past m held = (tt, subst (λ (l : List Entry). Held Resting l m.outside.outer) (sym (append-nil past)) held)

chip_takes : (past : List Entry) (m : Machine) (rest : Rest) (ways : List (Item × Option Route)) → May m (Outside_does (Chip_takes (length m.outside.outer.to_chip.bytes) rest ways))
    → Held Resting past m.outside.outer
    → EachAfter MayTell past (entries m (Outside_does (Chip_takes (length m.outside.outer.to_chip.bytes) rest ways)))
    × HasMoved true (past ++ entries m (Outside_does (Chip_takes (length m.outside.outer.to_chip.bytes) rest ways))) (happens m (Outside_does (Chip_takes (length m.outside.outer.to_chip.bytes) rest ways)))
unfolding happens entries May MayOutside
chip_takes past m rest ways may held = takes_keep m.outside rest ways may.1.moves past (at_most (awaits_number m.outside.outer) past m.outside.outer held)

host_takes_all : (has_moved : Bool) (past : List Entry) (m : Machine) (rest : Rest) (items : List Item) (events : List HostEvent) → HasMoved has_moved past m
    → Keeps Resting m (Host_takes (length m.outside.outer.to_host.bytes) rest items events) past
host_takes_all true past m rest items events known =
    heard_goes m rest items events past (subst (λ (l : List ℕ). length l ≤ most (Up past)) (sym known.0.holds.0) (none_held (most (Up past)))) (λ is. known.0.holds.0)
host_takes_all false past m rest items events known = heard_goes m rest items events past known.holds.0 (λ is. (known.fresh is).0)

-- no byte moves to the host, though one may have moved to the chip
stays_still : (has_moved : Bool) (past : List Entry) (m : Machine) → IsStill (is_stalled m.outside.outer) m.outside.outer.to_host.bytes → HasMoved has_moved past m → Held Resting past m.outside.outer
stays_still true past m (inl stalled) known = never (is_stalled m.outside.outer) known.1 stalled
stays_still true past m (inr none) known = held_empty Resting resting_empty past m.outside.outer known.0.holds.0 none
stays_still false past m still known = known

-- ---- phases

abbrev Next : Phase → List Entry → Machine → Event → Type 0
Next = Steps MayTell KnowPipes

event_keeps : (here next : Phase) (past : List Entry) (m : Machine) (event : Event) → Goes here m event next → May m event → KnowPipes here past m → Next next past m event
event_keeps (Said_line line) next past m event (event_is, next_is) may known = event_then MayTell KnowPipes next (Begun line) event (Outside_does Begins_line) past m event_is next_is (begins_line line past m known)
event_keeps (Doing line (first ∷ left)) next past m event (event_is, next_is) may known = event_then MayTell KnowPipes next (Doing line left) event first past m event_is next_is (does line first left past m known)
event_keeps (To_tick (suc ticks)) next past m event (event_is, next_is) may known = event_then MayTell KnowPipes next (Ticked ticks) event (Outside_does Begins_tick) past m event_is next_is (begins_tick ticks past m known)
event_keeps (Arriving (suc frames) ticks) next past m event (drawn, route, event_is, next_is) may known =
    event_then MayTell KnowPipes next (Arriving frames ticks) event (Outside_does (Arrives drawn route)) past m event_is next_is (in_tick past m (Arrives drawn route) tt known)
event_keeps (Giving (suc results) ticks) next past m event (route, event_is, next_is) may known =
    event_then MayTell KnowPipes next (Giving results ticks) event (Outside_does (Gives route)) past m event_is next_is (in_tick past m (Gives route) tt known)
event_keeps (Ticking_devices place (suc count) ticks) next past m event (drawn, route, event_is, next_is) may known =
    event_then MayTell KnowPipes next (Ticking_devices (place + 1) count ticks) event (Outside_does (Device_ticks place drawn route)) past m event_is next_is (in_tick past m (Device_ticks place drawn route) tt known)
event_keeps (Ticking_chip ticks) next past m event (event_is, next_is) may known =
    let got = in_tick past m Chip_ticks tt known in
    event_then MayTell KnowPipes next (Ticking_decoder ticks) event (Outside_does Chip_ticks) past m event_is next_is (got.0, of_tick _ _ _ got.1)
event_keeps (Ticking_decoder ticks) next past m event (event_is, next_is) may known =
    let got = decoder past m known in
    event_then MayTell KnowPipes next (Ticking_host (tick_events m.host.state) ticks) event Decoder_ticks past m event_is next_is (got.0, (got.1, tick_nothing m.host.state))
event_keeps (Ticking_host (first ∷ events) ticks) next past m event (event_is, next_is) may known =
    let got = host_goes m first known.1.0 past known.0 in
    event_then MayTell KnowPipes next (Ticking_host events ticks) event (Host_does first) past m event_is next_is (got.0, (got.1, known.1.1))
event_keeps (Sleeping passes ticks) next past m event (node, wants, event_is, next_is) may known =
    event_then MayTell KnowPipes next (Sleeping passes ticks) event _ past m event_is next_is (host_goes m _ (no_more_nothing m.host.state node) past known)
event_keeps (Submitting passes ticks) next past m event (asked, is, event_is, next_is) may known =
    event_then MayTell KnowPipes next (Submitting passes ticks) event (Host_does asked) past m event_is next_is (host_goes m asked (next_nothing m.host.state asked is) past known)
event_keeps (Moving passes ticks) next past m event (rest, ways, event_is, next_is) may known =
    event_then MayTell KnowPipes next (Moved true passes ticks) event _ past m event_is next_is (chip_takes past m rest ways (subst (May m) event_is may) known)
event_keeps (Moved has_moved passes ticks) next past m event (rest, items, done, event_is, next_is) may known =
    event_then MayTell KnowPipes next (Sleeping passes ticks) event _ past m event_is next_is (host_takes_all has_moved past m rest items done known)
event_keeps here next past m event goes may known = absurd goes

to : (next phase : Phase) (past : List Entry) (m : Machine) → next ≡ phase → KnowPipes phase past m → KnowPipes next past m
to next phase past m is known = subst (λ (q : Phase). KnowPipes q past m) (sym is) known

turn_keeps : (here next : Phase) (past : List Entry) (m : Machine) → Turns here m next → KnowPipes here past m → KnowPipes next past m
turn_keeps (Begun line) next past m (inl (events, is, next_is)) known = to next (Doing line events) past m next_is (effect line past m events is known)
turn_keeps (Begun line) next past m (inr (ticks, line_is, next_is)) known =
    to next (To_tick ticks) past m next_is
    (at_rest past m.outside.outer (said_turned (lines.Tick ticks) past m.outside.outer refl (subst (λ (l : Line). JustSaid l past m.outside.outer) line_is known.0)))
turn_keeps (Doing line []) next past m next_is known = to next (Sleeping 64 0) past m next_is (done line past m known)
turn_keeps (To_tick zero) next past m next_is known = to next Between past m next_is known
turn_keeps (Ticked ticks) next past m next_is known = to next _ past m next_is known
turn_keeps (Arriving zero ticks) next past m next_is known = to next _ past m next_is known
turn_keeps (Giving zero ticks) next past m next_is known = to next _ past m next_is known
turn_keeps (Ticking_devices place zero ticks) next past m next_is known = to next _ past m next_is known
turn_keeps (Ticking_host [] ticks) next past m next_is known = to next (Sleeping 64 ticks) past m next_is known.0
turn_keeps (Sleeping passes ticks) next past m (wants, next_is) known = to next (Submitting passes ticks) past m next_is known
turn_keeps (Submitting zero ticks) next past m (pumped, next_is) known = to next (To_tick ticks) past m next_is known
turn_keeps (Submitting (suc passes) ticks) next past m (pumped, next_is) known = to next (Moving passes ticks) past m next_is known
turn_keeps (Moving passes ticks) next past m (still, next_is) known = to next (Moved false passes ticks) past m next_is known
turn_keeps (Moved has_moved passes ticks) next past m (still, next_is) known = to next (Sleeping _ ticks) past m next_is (stays_still has_moved past m still known)
turn_keeps here next past m turns known = absurd turns

pub pipe_walk : Walk MayTell KnowPipes
pipe_walk = record { said = said; event = event_keeps; turn = turn_keeps }

pub pipes_first : (m : Machine) → m.outside.outer ≡ first_outer → KnowPipes Between [] m
unfolding first_outer
pipes_first m is =
    held_empty Resting resting_empty [] m.outside.outer (ap (λ (o : OuterState). o.to_chip.bytes) is) (ap (λ (o : OuterState). o.to_host.bytes) is)

-- ---- each of both

pub tells_lack : (past : List Entry) (e : Entry) → MayTell past e → MayLack past e
tells_lack past (entry.Overrun side) tells = tells
tells_lack past e tells = tt

pub tells_clear : (past : List Entry) (e : Entry) → MayTell past e → MayClear past e
tells_clear past (entry.Cleared side count) tells = tells
tells_clear past e tells = tt
