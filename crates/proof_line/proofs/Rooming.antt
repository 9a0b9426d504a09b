-- The pipes surely hold no more than is on its way, at each phase of a line; so a unit that is not overrun fits.
use Rattle.std.proofs.Common.{◌≡◌, ◌⊎◌, ℕ, zero, suc, ◌&&◌, not, Bool, true, false, if◌then◌else◌, List, [], ◌∷◌, ◌++◌, length, inl, inr, refl, sym, ap, subst, ◌∙◌, append-nil, append_assoc}
use Rattle.std.specs.Prelude.{◌+◌, nat_lt, Some}
use Rattle.std.specs.List.{AllByRecursion}
use Rattle.zw_base.proofs.Each.{all-append}
use Rattle.s0_crypto.specs.declared.key_pair.Keys.{Keys}
use Rattle.proof_world.specs.device_sim.State.{State}
use Rattle.zw_words.specs.declared.side.Side.{Side}
use Rattle.zw_words.specs.declared.side.Side.TheVariants.{Host as by_host, Chip as by_chip}
use Rattle.zw_text.specs.declared.line.Line.{Line}
use Rattle.zw_text.specs.declared.line.Line.TheVariants as lines
use Rattle.zw_text.specs.declared.entry.Entry.{Entry}
use Rattle.zw_text.specs.declared.entry.Entry.TheVariants as entry
use Rattle.zw_text.specs.declared.entry.Refusal.{Refusal}
use Rattle.zw_text.specs.Transcript.{line_of}
use Rattle.law_wire.specs.law_transcript.Lists.{EachAfter}
use Rattle.law_wire.specs.law_transcript.Restarts.{is_restart, begins_refused}
use Rattle.law_wire.specs.Pipes.{Pipe, empty_pipe, with_turn, pipe_from, may_overrun}
use Rattle.proof_world.specs.host_model.State.{HostState}
use Rattle.proof_world.specs.host_model.Events.{HostEvent}
use Rattle.proof_world.specs.host_model.Did.{outs_all}
use Rattle.proof_world.specs.host_model.Ticking.{tick_events}
use Rattle.proof_world.specs.host_model.declared.out.HostOut.{HostOut}
use Rattle.proof_world.specs.host_model.declared.out.HostOut.TheVariants.{Write, Note}
use Rattle.proof_walk.specs.outside_model.State.{OuterState, Outside, first_outer, is_stalled}
use Rattle.proof_walk.specs.outside_model.Events.{OuterEvent, Begins_line, Begins_tick, Arrives, Gives, Device_ticks, Chip_ticks, Chip_takes, Clears_pipe, Host_notes, outcome, cleared_entries, way_of, happens as happens_outside, entries as entries_outside, IsCleared}
use Rattle.proof_walk.specs.world_model.State.{Machine, first_machine}
use Rattle.proof_walk.specs.world_model.Events.{Event, Outside_does, Host_does, Host_takes, Decoder_ticks, Refuses, Shows_values, Restarts, shown_values, happens, entries, May}
use Rattle.proof_walk.specs.world_model.Did.{AllAlong}
use Rattle.proof_walk.specs.world_model.Lines.{IsEffect}
use Rattle.proof_walk.specs.world_model.Settling.{OuterTakesAll}
use Rattle.proof_walk.proofs.Entered.{all_cleared}
use Rattle.proof_world.specs.proof_serial.Line.{AreAtRest, WritesWell, AllWriteWell, host_writes}
use Rattle.proof_world.specs.proof_serial.Chip.{HasFrames}
use Rattle.proof_world.proofs.Events.{at_rest, whole_after, rests_after}
use Rattle.proof_world.proofs.First.{first_frames, first_at_rest}
use Rattle.proof_walk.specs.Outside.{awaits_number}
use Rattle.proof_walk.specs.Phases.{Phase, Between, Said_line, Begun, Doing, To_tick, Ticked, Arriving, Giving, Ticking_devices, Ticking_chip, Ticking_decoder, Ticking_host, Sleeping, Submitting, Moving, Moved, Turns, Goes}
use Rattle.proof_walk.specs.Walk.{WalkWhere}
use Rattle.proof_walk.specs.ByLine.{OfEffect}
use Rattle.proof_walk.proofs.ByLine.{effect_asks}
use Rattle.proof_walk.proofs.Machines.{UnitsAre}
use Rattle.proof_walk.proofs.Stepping.{Steps, event_then}
use Rattle.proof_walk.proofs.Times.{IsWithin}
use Rattle.proof_line.specs.Pipes.{IsByHand, MayLack}
use Rattle.proof_line.specs.Arrivals.{arrived_from, arrived, Comes}
use Rattle.proof_line.specs.Rooms.{MayFit, LastFits, Fills, Shown, ShownBefore, BegunShown, IsClearing, StartsClearing, EndsClearing, LeftClearing, LeftShown, HasGone, InTickShown, SettlingShown, KnowRooms}
use Rattle.proof_walk.proofs.ByLine.{last_is as line_then}
use Rattle.proof_line.proofs.Holding.{TellsNothing, pipe_grows}
use Rattle.proof_world.proofs.Outer.{wrong as no_refusal}
use Rattle.proof_line.proofs.Hosting.{NoUnit, frames_alone, asked_none, tick_nothing}
use Rattle.proof_line.proofs.Chipping.{IsFrame}
use Rattle.proof_line.proofs.Piping.{covers_line, entered_same, stamp_quiet}
use Rattle.proof_line.proofs.Fitting.{apart_fits}
use Rattle.proof_line.proofs.Arriving.{arrived_grows, comes_same, comes_at, comes_none}
use Rattle.proof_line.proofs.Tellings.{IsBeside}
use Rattle.proof_line.proofs.HostTelling.{does_tells, frames_unanswered}
use Rattle.proof_line.proofs.ChipTelling.{OutcomeTells, IsArriving, arriving_tells, tick_tells, line_tells, quietly}
use Rattle.proof_line.proofs.Goings.{fills_none, side_turned, fills_turned}
use Rattle.proof_line.proofs.Roomy.{Any, any_stays, beside_nothing, beside_joins, Unsaid, unsaid_stays, apart_nothing, unsaid_joins, whole_of, later, Kept, kept_of, shown_of, outside_goes, host_goes, unanswered_settles, chip_takes_all, host_takes_all, PumpsAt, pump_goes, no_more_pumps, next_pumps}

abbrev Next : Phase → List Entry → Machine → Event → Type 0
Next = Steps MayFit KnowRooms

abbrev Up : List Entry → Pipe
Up past = pipe_from by_host empty_pipe past

abbrev Down : List Entry → Pipe
Down past = pipe_from by_chip empty_pipe past

-- ---- an event at which nothing is entered and nothing moves

same_shown : (past : List Entry) (m n : Machine) → n.outside.outer.to_chip ≡ m.outside.outer.to_chip → n.outside.outer.to_host ≡ m.outside.outer.to_host
    → HasFrames n.outside.outer.chip.state.port → AreAtRest n → Shown past m → Shown past n
same_shown past m n to_chip to_host has rests shown = record {
  up = subst (λ (w : _). Fills w (Up past)) (sym to_chip) shown.up;
  down = subst (λ (w : _). Fills w (Down past)) (sym to_host) shown.down;
  up_comes = subst (λ (w : _). Comes w (arrived by_host past)) (sym to_chip) shown.up_comes;
  down_comes = subst (λ (w : _). Comes w (arrived by_chip past)) (sym to_host) shown.down_comes;
  frames = has;
  rests = rests;
  fits = shown.fits;
}

nothing_more : (P : List Entry → Type 0) (past : List Entry) → P past → P (past ++ [])
nothing_more P past known = subst P (sym (append-nil past)) known

-- outside a tick no number is to be entered
pub not_awaited : (o : OuterState) → o.in_tick ≡ false → awaits_number o ≡ false
not_awaited o quiet = ap (λ (b : Bool). b && not o.stamped) quiet

-- what is told of bytes that are lost then, and that no tick runs
pub quiet_cleared : (side : Side) (m : Machine) → m.outside.outer.in_tick ≡ false
    → AllByRecursion IsCleared (entries m (Outside_does (Clears_pipe side))) × ((happens m (Outside_does (Clears_pipe side))).outside.outer.in_tick ≡ false)
    × (entries m (Outside_does (Clears_pipe side)) ≡ cleared_entries side (length (way_of m.outside.outer side).bytes))
unfolding happens entries outcome
quiet_cleared by_host m quiet =
    let x : OuterState = (outcome m.outside (Clears_pipe by_host)).outer in
    let told : List Entry = cleared_entries by_host (length m.outside.outer.to_chip.bytes) in
    (subst (AllByRecursion IsCleared) (sym (stamp_quiet x told quiet)) (all_cleared by_host (length m.outside.outer.to_chip.bytes)), ap (λ (l : List ℕ × List ℕ × Bool). l.2) (entered_same x told) ∙ quiet, stamp_quiet x told quiet)
quiet_cleared by_chip m quiet =
    let x : OuterState = (outcome m.outside (Clears_pipe by_chip)).outer in
    let told : List Entry = cleared_entries by_chip (length m.outside.outer.to_host.bytes) in
    (subst (AllByRecursion IsCleared) (sym (stamp_quiet x told quiet)) (all_cleared by_chip (length m.outside.outer.to_host.bytes)), ap (λ (l : List ℕ × List ℕ × Bool). l.2) (entered_same x told) ∙ quiet, stamp_quiet x told quiet)

-- the bytes that are then on their way
pub host_cleared : (m : Machine)
    → ((happens m (Outside_does (Clears_pipe by_host))).outside.outer.to_chip.bytes ≡ [])
    × ((happens m (Outside_does (Clears_pipe by_host))).outside.outer.to_host.bytes ≡ m.outside.outer.to_host.bytes)
unfolding happens outcome
host_cleared m =
    let same = entered_same (outcome m.outside (Clears_pipe by_host)).outer (outcome m.outside (Clears_pipe by_host)).entries in
    (ap (λ (l : List ℕ × List ℕ × Bool). l.0) same, ap (λ (l : List ℕ × List ℕ × Bool). l.1) same)

pub chip_cleared : (m : Machine)
    → ((happens m (Outside_does (Clears_pipe by_chip))).outside.outer.to_host.bytes ≡ [])
    × ((happens m (Outside_does (Clears_pipe by_chip))).outside.outer.to_chip.bytes ≡ m.outside.outer.to_chip.bytes)
unfolding happens outcome
chip_cleared m =
    let same = entered_same (outcome m.outside (Clears_pipe by_chip)).outer (outcome m.outside (Clears_pipe by_chip)).entries in
    (ap (λ (l : List ℕ × List ℕ × Bool). l.1) same, ap (λ (l : List ℕ × List ℕ × Bool). l.0) same)

-- ---- the words of a line

said : (past : List Entry) (m : Machine) (words : List ℕ) (line : Line) → line_of (entry.Said words) ≡ line ∷ [] → Shown past m
    → MayFit past (entry.Said words) × ShownBefore line (past ++ entry.Said words ∷ []) m
said past m words line read shown = (shown.fits, record { before = past; words = words; read = read; is = refl; shown = shown })

begins_line : (line : Line) (past : List Entry) (m : Machine) → ShownBefore line past m → Next (Begun line) past m (Outside_does Begins_line)
unfolding happens entries outcome
begins_line line past m just = (
  tt,
  (
    record {
      before = just.before;
      words = just.words;
      read = just.read;
      is = append-nil past ∙ just.is;
      shown = same_shown just.before m (happens m (Outside_does Begins_line)) refl refl just.shown.frames (record { host = just.shown.rests.host; chip = just.shown.rests.chip }) just.shown;
    },
    refl,
  ),
)

-- where each side has its turn, with what stands directly after the line
turned_shown : (before told : List Entry) (words : List ℕ) (m : Machine) → Shown before m → ((side : Side) (pipe : Pipe) → pipe_from side pipe (entry.Said words ∷ told) ≡ with_turn side pipe)
    → ((side : Side) (texts : List (List ℕ)) → arrived_from side texts (entry.Said words ∷ told) ≡ texts) → LastFits (before ++ entry.Said words ∷ told) → InTickShown (before ++ entry.Said words ∷ told) m
turned_shown before told words m shown turns keeps fits =
    let all : List Entry = before ++ entry.Said words ∷ told in
    let up : Up all ≡ with_turn by_host (Up before) = pipe_grows by_host empty_pipe before (entry.Said words ∷ told) tt no_refusal ∙ turns by_host (Up before) in
    let down : Down all ≡ with_turn by_chip (Down before) = pipe_grows by_chip empty_pipe before (entry.Said words ∷ told) tt no_refusal ∙ turns by_chip (Down before) in
    let up_turned = side_turned by_host (Up before) in
    let down_turned = side_turned by_chip (Down before) in (
      record {
        up = subst (λ (p : Pipe). Fills m.outside.outer.to_chip p) (sym up) (fills_turned m.outside.outer.to_chip (Up before) (with_turn by_host (Up before)) up_turned shown.up);
        down = subst (λ (p : Pipe). Fills m.outside.outer.to_host p) (sym down) (fills_turned m.outside.outer.to_host (Down before) (with_turn by_chip (Down before)) down_turned shown.down);
        up_comes = comes_at m.outside.outer.to_chip (arrived by_host before) (arrived by_host all) (texts by_host) shown.up_comes;
        down_comes = comes_at m.outside.outer.to_host (arrived by_chip before) (arrived by_chip all) (texts by_chip) shown.down_comes;
        frames = shown.frames;
        rests = shown.rests;
        fits = fits;
      },
      λ is. record { of_host = ap (λ (p : Pipe). p.answers) up ∙ up_turned.answers; of_chip = ap (λ (p : Pipe). p.answers) down ∙ down_turned.answers },
    )
  where
    texts : (side : Side) → arrived side (before ++ entry.Said words ∷ told) ≡ arrived side before
    texts side = arrived_grows side [] before (entry.Said words ∷ told) tt no_refusal ∙ keeps side (arrived side before)

-- a line that is no restart
said_shown : (line : Line) (past : List Entry) (m : Machine) → is_restart (line ∷ []) ≡ false → ShownBefore line past m → InTickShown past m × Unsaid past
said_shown line past m other just =
    let none : is_restart (line_of (entry.Said just.words)) ≡ false = ap is_restart just.read ∙ other in
    subst (λ (l : List Entry). InTickShown l m × Unsaid l) (sym just.is) (
      turned_shown just.before [] just.words m just.shown (λ side pipe. ap (λ (b : Bool). if b && not false then empty_pipe else with_turn side pipe) none)
          (λ side texts. ap (λ (b : Bool). if b && not false then [] else texts) none)
          (apart_fits just.before (entry.Said just.words) refl),
      ap is_restart (line_then just.before (entry.Said just.words)) ∙ none,
    )

-- a restart that is refused
refused_shown : (past : List Entry) (m : Machine) (refusal : Refusal) → ShownBefore lines.Restart past m → InTickShown (past ++ entry.Refused refusal ∷ []) m
refused_shown past m refusal just =
    let two : List Entry = entry.Said just.words ∷ entry.Refused refusal ∷ [] in
    let is : past ++ entry.Refused refusal ∷ [] ≡ just.before ++ two =
    ap (λ (l : List Entry). l ++ entry.Refused refusal ∷ []) just.is ∙ append_assoc just.before (entry.Said just.words ∷ []) (entry.Refused refusal ∷ []) in
    subst (λ (l : List Entry). InTickShown l m) (sym is)
    (turned_shown just.before (entry.Refused refusal ∷ []) just.words m just.shown (λ side pipe. kept side pipe (is_restart (line_of (entry.Said just.words))))
    (λ side texts. left texts (is_restart (line_of (entry.Said just.words))))
    (subst LastFits is (apart_fits past (entry.Refused refusal) refl)))
  where
    kept : (side : Side) (pipe : Pipe) (b : Bool) → (if b && not true then empty_pipe else with_turn side pipe) ≡ with_turn side pipe
    kept side pipe true = refl
    kept side pipe false = refl

    left : (texts : List (List ℕ)) (b : Bool) → (if b && not true then [] else texts) ≡ texts
    left texts true = refl
    left texts false = refl

-- ---- the effect of a line

none_frames : (outs : List HostOut) → UnitsAre NoUnit outs → UnitsAre IsFrame outs
none_frames [] are = tt
none_frames (Write unit ∷ outs) are = absurd are.0
none_frames (Note e ∷ outs) are = none_frames outs are

pub hand_whole : (m : Machine) (event : OuterEvent) → IsByHand event → OuterTakesAll m event
hand_whole m (Chip_takes count rest ways) by_hand = absurd by_hand
hand_whole m event by_hand = tt

pub hand_within : (event : OuterEvent) → IsByHand event → IsWithin event
hand_within Begins_line by_hand = absurd by_hand
hand_within Begins_tick by_hand = absurd by_hand
hand_within event by_hand = tt

-- outside
hand_goes : (past : List Entry) (m : Machine) (event : OuterEvent) → IsByHand event → May m (Outside_does event) → WritesWell m (Outside_does event) → InTickShown past m → Unsaid past
    → EachAfter MayFit past (entries m (Outside_does event)) × InTickShown (past ++ entries m (Outside_does event)) (happens m (Outside_does event)) × Unsaid (past ++ entries m (Outside_does event))
unfolding happens entries
hand_goes past m event by_hand may well known unsaid_so =
    let after_it = later past m (Outside_does event) known.0 may (hand_whole m event by_hand) well in
    let got =
    outside_goes TellsNothing apart_nothing Unsaid unsaid_stays unsaid_joins m.outside event (hand_within event by_hand) (line_tells m.outside event by_hand) after_it.0 past
    (kept_of TellsNothing apart_nothing Unsaid unsaid_stays unsaid_joins past m known unsaid_so) in (
      got.0,
      shown_of TellsNothing apart_nothing Unsaid unsaid_stays unsaid_joins (past ++ entries m (Outside_does event)) (happens m (Outside_does event)) got.1 after_it.0 after_it.1,
      got.1.good,
    )

-- an entry that answers a line
abbrev KeptLoose : List Entry → Outside → Type 0
KeptLoose past w = Kept TellsNothing apart_nothing Unsaid unsaid_stays unsaid_joins past w

noted : (w : Outside) (e : Entry) → TellsNothing e → OutcomeTells TellsNothing w.outer (outcome w (Host_notes e))
unfolding outcome
noted w e apart = quietly w.outer (outcome w (Host_notes e)) (apart, tt) refl refl

note_goes : (past : List Entry) (m n : Machine) (e : Entry) → TellsNothing e → n.outside ≡ happens_outside m.outside (Host_notes e) → HasFrames n.outside.outer.chip.state.port → AreAtRest n → InTickShown past m → Unsaid past
    → EachAfter MayFit past (entries_outside m.outside (Host_notes e)) × InTickShown (past ++ entries_outside m.outside (Host_notes e)) n × Unsaid (past ++ entries_outside m.outside (Host_notes e))
note_goes past m n e apart is has rests known unsaid_so =
    let got =
    outside_goes TellsNothing apart_nothing Unsaid unsaid_stays unsaid_joins m.outside (Host_notes e) tt (noted m.outside e apart) (subst (λ (w : Outside). HasFrames w.outer.chip.state.port) is has) past
    (kept_of TellsNothing apart_nothing Unsaid unsaid_stays unsaid_joins past m known unsaid_so) in
    let all : List Entry = past ++ entries_outside m.outside (Host_notes e) in (
      got.0,
      shown_of TellsNothing apart_nothing Unsaid unsaid_stays unsaid_joins all n (subst (λ (w : Outside). KeptLoose all w) (sym is) got.1) has rests,
      got.1.good,
    )

-- of the host
host_step : (Good : List Entry → Type 0) (stays : (past : List Entry) (e : Entry) → line_of e ≡ [] → Good past → Good (past ++ e ∷ [])) (past : List Entry) (m : Machine) (event : HostEvent)
    → UnitsAre IsFrame (outs_all m.host.state (event ∷ [])) → May m (Host_does event) → WritesWell m (Host_does event) → InTickShown past m → Good past
    → EachAfter MayFit past (entries m (Host_does event)) × InTickShown (past ++ entries m (Host_does event)) (happens m (Host_does event)) × Good (past ++ entries m (Host_does event))
host_step Good stays past m event frames may well known good =
    let n : Machine = happens m (Host_does event) in
    let after_it = later past m (Host_does event) known.0 may tt well in
    let got =
    host_goes Good stays m.outside n.outside (host_writes m (Host_does event)) (entries m (Host_does event)) (does_tells m event) (frames_unanswered (outs_all m.host.state (event ∷ [])) frames) well past
    (kept_of IsBeside beside_nothing Good stays (beside_joins Good) past m known good) in
    (got.0, shown_of IsBeside beside_nothing Good stays (beside_joins Good) (past ++ entries m (Host_does event)) n got.1 after_it.0 after_it.1, got.1.good)

abbrev EffectGoes : List Entry → Machine → Event → Type 0
EffectGoes past m event =
    EachAfter MayFit past (entries m event) × InTickShown (past ++ entries m event) (happens m event) × Unsaid (past ++ entries m event)

effect_goes : (past : List Entry) (m : Machine) (event : Event) → OfEffect IsByHand event → May m event → WritesWell m event → InTickShown past m → Unsaid past → EffectGoes past m event
unfolding happens entries
effect_goes past m (Outside_does event) of_effect may well known good = hand_goes past m event of_effect may well known good
effect_goes past m (Host_does event) of_effect may well known good =
    host_step Unsaid unsaid_stays past m event (none_frames (outs_all m.host.state (event ∷ [])) (asked_none m.host.state event of_effect)) may well known good
effect_goes past m (Host_takes count rest items events) of_effect may well known good = absurd of_effect
effect_goes past m Decoder_ticks of_effect may well known good = absurd of_effect
effect_goes past m (Refuses line refusal) of_effect may well known good =
    let after_it = later past m (Refuses line refusal) known.0 may tt well in
    note_goes past m (happens m (Refuses line refusal)) (entry.Refused refusal) tt refl after_it.0 after_it.1 known good
effect_goes past m (Shows_values node) of_effect may well known good =
    let after_it = later past m (Shows_values node) known.0 may tt well in
    note_goes past m (happens m (Shows_values node)) (shown_values m.host.state node) tt refl after_it.0 after_it.1 known good
effect_goes past m (Restarts state) of_effect may well known good =
    let n : Machine = happens m (Restarts state) in
    let after_it = later past m (Restarts state) known.0 may tt well in (
      tt,
      nothing_more (λ (l : List Entry). InTickShown l n) past (same_shown past m n refl refl after_it.0 after_it.1 known.0, known.1),
      nothing_more Unsaid past good,
    )

-- ---- a restart

abbrev Cleared : List Event → List Entry → Machine → Event → Type 0
Cleared left past m event = EachAfter MayFit past (entries m event) × LeftClearing left (past ++ entries m event) (happens m event)

refuses : (past : List Entry) (m : Machine) (refusal : Refusal) → May m (Refuses lines.Restart refusal) → WritesWell m (Refuses lines.Restart refusal) → BegunShown lines.Restart past m → Cleared [] past m (Refuses lines.Restart refusal)
unfolding happens entries outcome
refuses past m refusal may well known =
    let n : Machine = happens m (Refuses lines.Restart refusal) in
    let after_it = later known.0.before m (Refuses lines.Restart refusal) known.0.shown may tt well in
    let alone : entries m (Refuses lines.Restart refusal) ≡ entry.Refused refusal ∷ [] = stamp_quiet m.outside.outer (entry.Refused refusal ∷ []) known.1 in
    let fits : LastFits past = subst LastFits (sym known.0.is) (apart_fits known.0.before (entry.Said known.0.words) refl) in
    let shown = refused_shown past m refusal known.0 in
    let still : InTickShown (past ++ entry.Refused refusal ∷ []) n = (
      same_shown (past ++ entry.Refused refusal ∷ []) m n refl refl after_it.0 after_it.1 shown.0,
      λ is. shown.1 (not_awaited m.outside.outer known.1),
    ) in
    subst (λ (l : List Entry). EachAfter MayFit past l × LeftClearing [] (past ++ l) n) (sym alone) ((fits, tt), inr (inr (inr (inr (refl, still)))))

starts_again : (past : List Entry) (m : Machine) (state : HostState) (left : List Event) → left ≡ Outside_does (Clears_pipe by_host) ∷ Outside_does (Clears_pipe by_chip) ∷ [] → May m (Restarts state)
    → WritesWell m (Restarts state) → BegunShown lines.Restart past m → Cleared left past m (Restarts state)
unfolding happens entries
starts_again past m state left is may well known =
    let whole = whole_of known.0.before m known.0.shown in (
      tt,
      inr (inr (inl (
        is,
        (
          record {
            before = known.0.before;
            words = known.0.words;
            told = [];
            is = append-nil past ∙ known.0.is;
            restarts = known.0.read;
            cleared = tt;
            whole = whole_after m (Restarts state) whole may (at_rest m (Restarts state) known.0.shown.rests) well;
            rests = rests_after m (Restarts state) whole known.0.shown.rests may tt well;
            fits = subst LastFits (sym (append-nil past ∙ known.0.is)) (apart_fits known.0.before (entry.Said known.0.words) refl);
            quiet = known.1;
          },
          known.0.shown.up_comes,
          known.0.shown.down_comes,
        ),
      ))),
    )

-- bytes that were lost
cleared_stand : (past : List Entry) (side : Side) (count : ℕ) → LastFits past → EachAfter MayFit past (cleared_entries side count) × LastFits (past ++ cleared_entries side count)
cleared_stand past side count fits = by (nat_lt 0 count)
  where
    by : (b : Bool) → EachAfter MayFit past (if b then entry.Cleared side count ∷ [] else []) × LastFits (past ++ (if b then entry.Cleared side count ∷ [] else []))
    by true = ((fits, tt), apart_fits past (entry.Cleared side count) refl)
    by false = (tt, subst LastFits (sym (append-nil past)) fits)

cleared_passes : (side : Side) (pipe : Pipe) (told : List Entry) → AllByRecursion IsCleared told → pipe_from side pipe told ≡ pipe
cleared_passes side pipe [] all = refl
cleared_passes side pipe (entry.Cleared on count ∷ told) all = cleared_passes side pipe told all.1
cleared_passes side pipe (e ∷ told) all = absurd all.0

cleared_arrive : (side : Side) (texts : List (List ℕ)) (told : List Entry) → AllByRecursion IsCleared told → arrived_from side texts told ≡ texts
cleared_arrive side texts [] all = refl
cleared_arrive side texts (entry.Cleared on count ∷ told) all = cleared_arrive side texts told all.1
cleared_arrive side texts (e ∷ told) all = absurd all.0

pub unrefused : (told : List Entry) → AllByRecursion IsCleared told → begins_refused told ≡ false
unrefused [] all = refl
unrefused (entry.Cleared side count ∷ told) all = refl
unrefused (e ∷ told) all = absurd all.0

-- one of both ways is cleared: the other is to be, or none is
clears_one : (side : Side) (past : List Entry) (m : Machine) → (known : IsClearing past m) → Comes (way_of m.outside.outer side) (arrived side known.before) → May m (Outside_does (Clears_pipe side))
    → WritesWell m (Outside_does (Clears_pipe side)) → EachAfter MayFit past (entries m (Outside_does (Clears_pipe side))) × IsClearing (past ++ entries m (Outside_does (Clears_pipe side))) (happens m (Outside_does (Clears_pipe side)))
clears_one side past m known comes may well =
    let event : Event = Outside_does (Clears_pipe side) in
    let told = quiet_cleared side m known.quiet in
    let count : ℕ = length (way_of m.outside.outer side).bytes in
    let stand = subst (λ (l : List Entry). EachAfter MayFit past l × LastFits (past ++ l)) (sym told.2) (cleared_stand past side count known.fits) in (
      stand.0,
      record {
        before = known.before;
        words = known.words;
        told = known.told ++ entries m event;
        is = ap (λ (l : List Entry). l ++ entries m event) known.is ∙ append_assoc known.before (entry.Said known.words ∷ known.told) (entries m event);
        restarts = known.restarts;
        cleared = all-append IsCleared known.told (entries m event) known.cleared told.0;
        whole = whole_after m event known.whole may (at_rest m event known.rests) well;
        rests = rests_after m event known.whole known.rests may tt well;
        fits = stand.1;
        quiet = told.1;
      },
    )

-- both are
all_cleared_shown : (past : List Entry) (m : Machine) → IsClearing past m → m.outside.outer.to_chip.bytes ≡ [] → m.outside.outer.to_host.bytes ≡ [] → InTickShown past m
all_cleared_shown past m known up down = (
  record {
    up = fills_none m.outside.outer.to_chip (Up past) up (ap (λ (p : Pipe). p.frames) (none by_host)) (λ is. ap (λ (p : Pipe). p.answers) (none by_host));
    down = fills_none m.outside.outer.to_host (Down past) down (ap (λ (p : Pipe). p.frames) (none by_chip)) (λ is. ap (λ (p : Pipe). p.answers) (none by_chip));
    up_comes = comes_at m.outside.outer.to_chip [] (arrived by_host past) (no_texts by_host) (comes_none m.outside.outer.to_chip up);
    down_comes = comes_at m.outside.outer.to_host [] (arrived by_chip past) (no_texts by_chip) (comes_none m.outside.outer.to_host down);
    frames = known.whole.frames;
    rests = known.rests;
    fits = known.fits;
  },
  λ is. record { of_host = ap (λ (p : Pipe). p.answers) (none by_host); of_chip = ap (λ (p : Pipe). p.answers) (none by_chip) },
)
  where
    emptied : (side : Side) (pipe : Pipe) (a b : Bool) → a ≡ true → b ≡ false → (if a && not b then empty_pipe else with_turn side pipe) ≡ empty_pipe
    emptied side pipe true false one two = refl
    emptied side pipe false b one two = absurd cc
    emptied side pipe true true one two = absurd cc

    none : (side : Side) → pipe_from side empty_pipe past ≡ empty_pipe
    none side =
        let tail : List Entry = entry.Said known.words ∷ known.told in
        let before : Pipe = pipe_from side empty_pipe known.before in
        ap (λ (l : List Entry). pipe_from side empty_pipe l) known.is ∙ pipe_grows side empty_pipe known.before tail tt no_refusal
        ∙ ap (λ (p : Pipe). pipe_from side p known.told) (emptied side before (is_restart (line_of (entry.Said known.words))) (begins_refused known.told) (ap is_restart known.restarts) (unrefused known.told known.cleared))
        ∙ cleared_passes side empty_pipe known.told known.cleared

    none_left : (texts : List (List ℕ)) (a b : Bool) → a ≡ true → b ≡ false → (if a && not b then [] else texts) ≡ []
    none_left texts true false one two = refl
    none_left texts false b one two = absurd cc
    none_left texts true true one two = absurd cc

    no_texts : (side : Side) → arrived side past ≡ []
    no_texts side =
        let tail : List Entry = entry.Said known.words ∷ known.told in
        let before : List (List ℕ) = arrived side known.before in
        ap (λ (l : List Entry). arrived side l) known.is ∙ arrived_grows side [] known.before tail tt no_refusal
        ∙ ap (λ (l : List (List ℕ)). arrived_from side l known.told) (none_left before (is_restart (line_of (entry.Said known.words))) (begins_refused known.told) (ap is_restart known.restarts) (unrefused known.told known.cleared))
        ∙ cleared_arrive side [] known.told known.cleared

as_first : (left : List Event) (first is : Event) (past : List Entry) (m : Machine) → first ≡ is → Cleared left past m is → Cleared left past m first
as_first left first is past m first_is cleared = subst (λ (e : Event). Cleared left past m e) (sym first_is) cleared

as_none : (left : List Event) (past : List Entry) (m : Machine) (event : Event) → left ≡ [] → Cleared [] past m event → Cleared left past m event
as_none left past m event none cleared = subst (λ (l : List Event). Cleared l past m event) (sym none) cleared

clears_host : (past : List Entry) (m : Machine) (left : List Event) → left ≡ Outside_does (Clears_pipe by_chip) ∷ [] → StartsClearing past m → May m (Outside_does (Clears_pipe by_host))
    → WritesWell m (Outside_does (Clears_pipe by_host)) → Cleared left past m (Outside_does (Clears_pipe by_host))
unfolding clears_one
clears_host past m left is (known, up, down) may well =
    let got = clears_one by_host past m known up may well in
    let same = host_cleared m in
    (got.0, inr (inr (inr (inl (is, (got.1, same.0, comes_same m.outside.outer.to_host (happens m (Outside_does (Clears_pipe by_host))).outside.outer.to_host (arrived by_chip known.before) same.1 down))))))

clears_chip : (past : List Entry) (m : Machine) → EndsClearing past m → May m (Outside_does (Clears_pipe by_chip)) → WritesWell m (Outside_does (Clears_pipe by_chip))
    → Cleared [] past m (Outside_does (Clears_pipe by_chip))
clears_chip past m (known, none, down) may well =
    let event : Event = Outside_does (Clears_pipe by_chip) in
    let got = clears_one by_chip past m known down may well in
    let empty = chip_cleared m in
    (got.0, inr (inr (inr (inr (refl, all_cleared_shown (past ++ entries m event) (happens m event) got.1 (empty.1 ∙ none) empty.0)))))

does_restart : (first : Event) (left : List Event) (past : List Entry) (m : Machine) → May m first → WritesWell m first → LeftClearing (first ∷ left) past m → Cleared left past m first
does_restart first left past m may well (inl (refusal, is, known)) =
    let head : first ≡ Refuses lines.Restart refusal = cc in
    let tail : left ≡ [] = cc in
    as_first left first (Refuses lines.Restart refusal) past m head
    (as_none left past m (Refuses lines.Restart refusal) tail (refuses past m refusal (subst (May m) head may) (subst (WritesWell m) head well) known))
does_restart first left past m may well (inr (inl (state, is, known))) =
    let head : first ≡ Restarts state = cc in
    let tail : left ≡ Outside_does (Clears_pipe by_host) ∷ Outside_does (Clears_pipe by_chip) ∷ [] = cc in
    as_first left first (Restarts state) past m head (starts_again past m state left tail (subst (May m) head may) (subst (WritesWell m) head well) known)
does_restart first left past m may well (inr (inr (inl (is, known)))) =
    let head : first ≡ Outside_does (Clears_pipe by_host) = cc in
    let tail : left ≡ Outside_does (Clears_pipe by_chip) ∷ [] = cc in
    as_first left first (Outside_does (Clears_pipe by_host)) past m head (clears_host past m left tail known (subst (May m) head may) (subst (WritesWell m) head well))
does_restart first left past m may well (inr (inr (inr (inl (is, known))))) =
    let head : first ≡ Outside_does (Clears_pipe by_chip) = cc in
    let tail : left ≡ [] = cc in
    as_first left first (Outside_does (Clears_pipe by_chip)) past m head
    (as_none left past m (Outside_does (Clears_pipe by_chip)) tail (clears_chip past m known (subst (May m) head may) (subst (WritesWell m) head well)))
does_restart first left past m may well (inr (inr (inr (inr (is, known))))) = absurd cc

-- the next event
does : (line : Line) (first : Event) (left : List Event) (past : List Entry) (m : Machine) → May m first → WritesWell m first → LeftShown line (first ∷ left) past m
    → EachAfter MayFit past (entries m first) × LeftShown line left (past ++ entries m first) (happens m first)
does lines.Restart first left past m may well known = does_restart first left past m may well known
does line first left past m may well known =
    let got = effect_goes past m first known.0.0 may well known.1 known.2 in (got.0, (known.0.1, got.1, got.2))

effect : (line : Line) (past : List Entry) (m : Machine) (events : List Event) → IsEffect line m events → BegunShown line past m → LeftShown line events past m
effect lines.Restart past m events (inl (state, is)) known = inr (inl (state, is, known))
effect lines.Restart past m events (inr (refusal, is)) known = inl (refusal, is, known)
effect line past m events is known = let got = said_shown line past m refl known.0 in (effect_asks IsByHand line m events (covers_line line refl) is, got.0, got.1)

settles : (past : List Entry) (m : Machine) → InTickShown past m → SettlingShown past m
settles past m known =
    (known.0, λ is. let none = known.1 is in unanswered_settles m.host.state (Up past) (Down past) m.outside.outer.to_chip m.outside.outer.to_host known.0.up none.of_host none.of_chip)

done : (line : Line) (past : List Entry) (m : Machine) → LeftShown line [] past m → SettlingShown past m
done lines.Restart past m (inl (refusal, is, known)) = absurd cc
done lines.Restart past m (inr (inl (state, is, known))) = absurd cc
done lines.Restart past m (inr (inr (inl (is, known)))) = absurd cc
done lines.Restart past m (inr (inr (inr (inl (is, known))))) = absurd cc
done lines.Restart past m (inr (inr (inr (inr (is, known))))) = settles past m known
done line past m known = settles past m known.1

-- ---- ticks

begins_tick : (ticks : ℕ) (past : List Entry) (m : Machine) → Shown past m → Next (Ticked ticks) past m (Outside_does Begins_tick)
unfolding happens entries outcome
begins_tick ticks past m shown =
    let n : Machine = happens m (Outside_does Begins_tick) in (
      tt,
      nothing_more (λ (l : List Entry). InTickShown l n) past (
        same_shown past m n refl refl shown.frames (record { host = shown.rests.host; chip = shown.rests.chip }) shown,
        λ is. absurd (let bad : true ≡ false = is in cc),
      ),
    )

pub arriving_within : (event : OuterEvent) → IsArriving event → IsWithin event
arriving_within Begins_line arriving = absurd arriving
arriving_within Begins_tick arriving = absurd arriving
arriving_within event arriving = tt

pub arriving_whole : (m : Machine) (event : OuterEvent) → IsArriving event → OuterTakesAll m event
arriving_whole m (Chip_takes count rest ways) arriving = absurd arriving
arriving_whole m event arriving = tt

-- an event outside in a tick
in_tick : (past : List Entry) (m : Machine) (event : OuterEvent) → IsWithin event → OuterTakesAll m event → OutcomeTells IsBeside m.outside.outer (outcome m.outside event) → May m (Outside_does event) → WritesWell m (Outside_does event)
    → InTickShown past m → EachAfter MayFit past (entries m (Outside_does event)) × InTickShown (past ++ entries m (Outside_does event)) (happens m (Outside_does event))
unfolding happens entries
in_tick past m event within takes tells may well known =
    let after_it = later past m (Outside_does event) known.0 may takes well in
    let got =
    outside_goes IsBeside beside_nothing Any any_stays (beside_joins Any) m.outside event within tells after_it.0 past (kept_of IsBeside beside_nothing Any any_stays (beside_joins Any) past m known tt) in
    (got.0, shown_of IsBeside beside_nothing Any any_stays (beside_joins Any) (past ++ entries m (Outside_does event)) (happens m (Outside_does event)) got.1 after_it.0 after_it.1)

arrives : (past : List Entry) (m : Machine) (event : OuterEvent) → IsArriving event → May m (Outside_does event) → WritesWell m (Outside_does event) → InTickShown past m
    → EachAfter MayFit past (entries m (Outside_does event)) × InTickShown (past ++ entries m (Outside_does event)) (happens m (Outside_does event))
arrives past m event arriving may well known =
    in_tick past m event (arriving_within event arriving) (arriving_whole m event arriving) (arriving_tells m.outside event arriving) may well known

decoder : (past : List Entry) (m : Machine) → May m Decoder_ticks → WritesWell m Decoder_ticks → InTickShown past m
    → EachAfter MayFit past (entries m Decoder_ticks) × InTickShown (past ++ entries m Decoder_ticks) (happens m Decoder_ticks)
unfolding happens entries
decoder past m may well known =
    let n : Machine = happens m Decoder_ticks in
    let after_it = later past m Decoder_ticks known.0 may tt well in
    (tt, nothing_more (λ (l : List Entry). InTickShown l n) past (same_shown past m n refl refl after_it.0 after_it.1 known.0, known.1))

-- ---- phases

pumps : (past : List Entry) (m : Machine) (event : HostEvent) → PumpsAt m.host.state event → May m (Host_does event) → WritesWell m (Host_does event) → SettlingShown past m
    → EachAfter MayFit past (entries m (Host_does event)) × SettlingShown (past ++ entries m (Host_does event)) (happens m (Host_does event))
unfolding happens
pumps past m event pumped may well known = pump_goes past m event may well (pumped well) known

gone_still : (past : List Entry) (m : Machine) (bytes : List ℕ) → bytes ≡ m.outside.outer.to_chip.bytes → (is_stalled m.outside.outer ≡ true) ⊎ (bytes ≡ []) → HasGone past m
gone_still past m bytes same (inl stalled) = inr stalled
gone_still past m bytes same (inr none) = inl (sym same ∙ none)

event_fits : (here next : Phase) (past : List Entry) (m : Machine) (event : Event) → Goes here m event next → May m event → WritesWell m event → KnowRooms here past m → Next next past m event
event_fits (Said_line line) next past m event (event_is, next_is) may well known = event_then MayFit KnowRooms next (Begun line) event (Outside_does Begins_line) past m event_is next_is (begins_line line past m known)
event_fits (Doing line (first ∷ left)) next past m event (event_is, next_is) may well known =
    event_then MayFit KnowRooms next (Doing line left) event first past m event_is next_is (does line first left past m (subst (May m) event_is may) (subst (WritesWell m) event_is well) known)
event_fits (To_tick (suc ticks)) next past m event (event_is, next_is) may well known = event_then MayFit KnowRooms next (Ticked ticks) event (Outside_does Begins_tick) past m event_is next_is (begins_tick ticks past m known)
event_fits (Arriving (suc frames) ticks) next past m event (drawn, route, event_is, next_is) may well known =
    event_then MayFit KnowRooms next (Arriving frames ticks) event (Outside_does (Arrives drawn route)) past m event_is next_is
    (arrives past m (Arrives drawn route) tt (subst (May m) event_is may) (subst (WritesWell m) event_is well) known)
event_fits (Giving (suc results) ticks) next past m event (route, event_is, next_is) may well known =
    event_then MayFit KnowRooms next (Giving results ticks) event (Outside_does (Gives route)) past m event_is next_is
    (arrives past m (Gives route) tt (subst (May m) event_is may) (subst (WritesWell m) event_is well) known)
event_fits (Ticking_devices place (suc count) ticks) next past m event (drawn, route, event_is, next_is) may well known =
    event_then MayFit KnowRooms next (Ticking_devices (place + 1) count ticks) event (Outside_does (Device_ticks place drawn route)) past m event_is next_is
    (arrives past m (Device_ticks place drawn route) tt (subst (May m) event_is may) (subst (WritesWell m) event_is well) known)
event_fits (Ticking_chip ticks) next past m event (event_is, next_is) may well known =
    event_then MayFit KnowRooms next (Ticking_decoder ticks) event (Outside_does Chip_ticks) past m event_is next_is
    (in_tick past m Chip_ticks tt tt (tick_tells m.outside known.0.frames) (subst (May m) event_is may) (subst (WritesWell m) event_is well) known)
event_fits (Ticking_decoder ticks) next past m event (event_is, next_is) may well known =
    let got = decoder past m (subst (May m) event_is may) (subst (WritesWell m) event_is well) known in
    event_then MayFit KnowRooms next (Ticking_host (tick_events m.host.state) ticks) event Decoder_ticks past m event_is next_is (got.0, (got.1, tick_nothing m.host.state))
event_fits (Ticking_host (first ∷ events) ticks) next past m event (event_is, next_is) may well known =
    let got = host_step Any any_stays past m first (frames_alone m.host.state first known.1.0) (subst (May m) event_is may) (subst (WritesWell m) event_is well) known.0 tt in
    event_then MayFit KnowRooms next (Ticking_host events ticks) event (Host_does first) past m event_is next_is (got.0, (got.1, known.1.1))
event_fits (Sleeping passes ticks) next past m event (node, wants, event_is, next_is) may well known =
    event_then MayFit KnowRooms next (Sleeping passes ticks) event _ past m event_is next_is (pumps past m _ (no_more_pumps m.host.state node) (subst (May m) event_is may) (subst (WritesWell m) event_is well) known)
event_fits (Submitting passes ticks) next past m event (asked, is, event_is, next_is) may well known =
    event_then MayFit KnowRooms next (Submitting passes ticks) event (Host_does asked) past m event_is next_is
    (pumps past m asked (next_pumps m.host.state asked is) (subst (May m) event_is may) (subst (WritesWell m) event_is well) known)
event_fits (Moving passes ticks) next past m event (rest, ways, event_is, next_is) may well known =
    event_then MayFit KnowRooms next (Moved true passes ticks) event _ past m event_is next_is (chip_takes_all past m rest ways (subst (May m) event_is may) (subst (WritesWell m) event_is well) known)
event_fits (Moved has_moved passes ticks) next past m event (rest, items, done_events, event_is, next_is) may well known =
    event_then MayFit KnowRooms next (Sleeping passes ticks) event _ past m event_is next_is
    (host_takes_all past m rest items done_events (subst (May m) event_is may) (subst (WritesWell m) event_is well) known.0 known.1)
event_fits here next past m event goes may well known = absurd goes

to : (next phase : Phase) (past : List Entry) (m : Machine) → next ≡ phase → KnowRooms phase past m → KnowRooms next past m
to next phase past m is known = subst (λ (q : Phase). KnowRooms q past m) (sym is) known

turn_fits : (here next : Phase) (past : List Entry) (m : Machine) → Turns here m next → KnowRooms here past m → KnowRooms next past m
turn_fits (Begun line) next past m (inl (events, is, next_is)) known = to next (Doing line events) past m next_is (effect line past m events is known)
turn_fits (Begun line) next past m (inr (ticks, line_is, next_is)) known =
    to next (To_tick ticks) past m next_is (said_shown (lines.Tick ticks) past m refl (subst (λ (l : Line). ShownBefore l past m) line_is known.0)).0.0
turn_fits (Doing line []) next past m next_is known = to next (Sleeping 64 0) past m next_is (done line past m known)
turn_fits (To_tick zero) next past m next_is known = to next Between past m next_is known
turn_fits (Ticked ticks) next past m next_is known = to next _ past m next_is known
turn_fits (Arriving zero ticks) next past m next_is known = to next _ past m next_is known
turn_fits (Giving zero ticks) next past m next_is known = to next _ past m next_is known
turn_fits (Ticking_devices place zero ticks) next past m next_is known = to next _ past m next_is known
turn_fits (Ticking_host [] ticks) next past m next_is known = to next (Sleeping 64 ticks) past m next_is (settles past m known.0)
turn_fits (Sleeping passes ticks) next past m (wants, next_is) known = to next (Submitting passes ticks) past m next_is known
turn_fits (Submitting zero ticks) next past m (pumped, next_is) known = to next (To_tick ticks) past m next_is known.0
turn_fits (Submitting (suc passes) ticks) next past m (pumped, next_is) known = to next (Moving passes ticks) past m next_is known
turn_fits (Moving passes ticks) next past m (still, next_is) known = to next (Moved false passes ticks) past m next_is (known, gone_still past m m.outside.outer.to_chip.bytes refl still)
turn_fits (Moved has_moved passes ticks) next past m (still, next_is) known = to next (Sleeping _ ticks) past m next_is known.0
turn_fits here next past m turns known = absurd turns

pub room_walk : WalkWhere WritesWell MayFit KnowRooms
room_walk = record { said = λ past m words line read known. said past m words line read known; event = event_fits; turn = turn_fits }

pub rooms_first : (keys : Keys) (devices : List State) → KnowRooms Between [] (first_machine keys (Some []) devices)
unfolding first_outer
rooms_first keys devices = record {
  up = fills_none _ empty_pipe refl refl (λ is. refl);
  down = fills_none _ empty_pipe refl refl (λ is. refl);
  up_comes = comes_none _ refl;
  down_comes = comes_none _ refl;
  frames = first_frames keys (Some []) devices;
  rests = first_at_rest keys (Some []) devices;
  fits = refl;
}

-- ---- the whole law

one_overruns : (past : List Entry) (e : Entry) → MayLack past e → MayFit past e → may_overrun past e ≡ true
one_overruns past (entry.Overrun side) lack fit = lack
one_overruns past (entry.Written side unit) lack fit = fit.0
one_overruns past e lack fit = fit

pub overruns : (past told : List Entry) → EachAfter MayLack past told → EachAfter MayFit past told → EachAfter (λ before e. may_overrun before e ≡ true) past told
overruns past [] lack fit = tt
overruns past (e ∷ told) lack fit = (one_overruns past e lack.0 fit.0, overruns (past ++ e ∷ []) told lack.1 fit.1)

pub all_write : (m : Machine) (events : List Event) → AllWriteWell m events → AllAlong WritesWell m events
all_write m [] well = tt
all_write m (event ∷ events) well = (well.0, all_write (happens m event) events well.1)
