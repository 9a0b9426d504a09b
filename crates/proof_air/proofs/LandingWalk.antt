-- Over the phases of a line: those frames have had their fate that were sent before the last tick that has begun, but for those that are still to arrive in it.
use Rattle.std.proofs.Common.{◌≡◌, ◌≤◌, ◌<◌, ℕ, zero, suc, ◌+◌, ◌-◌, ◌&&◌, not, Bool, true, false, if◌then◌else◌, List, [], ◌∷◌, ◌++◌, length, map, inl, inr, refl, sym, ap, subst, ◌∙◌, append-nil, arith}
use Rattle.std.specs.Prelude.{Option}
use Rattle.std.specs.List.{AllByRecursion}
use Rattle.route_table.specs.declared.route.Route.{Route}
use Rattle.air_frames.specs.History.{goes_in}
use Rattle.zw_text.specs.declared.line.Line.{Line}
use Rattle.zw_text.specs.declared.line.Line.TheVariants as lines
use Rattle.zw_text.specs.declared.entry.Entry.{Entry}
use Rattle.zw_text.specs.declared.entry.Entry.TheVariants as entry
use Rattle.zw_text.specs.Transcript.{folded, frames, line_after, line_last, line_of, lines_run}
use Rattle.zw_text.proofs.Views.{folded-append}
use Rattle.law_wire.specs.law_transcript.Fates.{first_fates}
use Rattle.law_wire.specs.law_transcript.Lists.{EachAfter}
use Rattle.law_wire.specs.law_transcript.Restarts.{is_repeat, repeats, ticks_asked}
use Rattle.law_wire.specs.Arriving.{HaveLanded, MayLand, sent_before}
use Rattle.proof_walk.proofs.Lists.{each-anywhere}
use Rattle.proof_walk.specs.host_model.Ticking.{tick_events}
use Rattle.proof_walk.specs.outside_model.State.{OuterState, Outside}
use Rattle.proof_walk.specs.outside_model.Events.{OuterEvent, Begins_line, Begins_tick, Arrives, Repeats, outcome, devices_after, ticked_entry, is_own}
use Rattle.proof_walk.specs.world_model.State.{Machine}
use Rattle.proof_walk.specs.world_model.Events.{Event, Outside_does, happens, entries, May}
use Rattle.proof_walk.specs.world_model.Lines.{IsEffect}
use Rattle.proof_walk.specs.Outside.{Link, Moves, CoversOuter, nothing}
use Rattle.proof_walk.specs.Phases.{Phase, Between, Said_line, Begun, Doing, To_tick, Ticked, Arriving, Giving, Ticking_devices, Ticking_chip, Ticking_decoder, Ticking_host, Sleeping, Submitting, Moving, Moved, Turns, Goes, passes_after}
use Rattle.proof_walk.specs.ByLine.{CoversLine}
use Rattle.proof_walk.specs.Time.{KnowTime}
use Rattle.proof_walk.specs.Walk.{WalkOver, both_know}
use Rattle.proof_walk.proofs.ByLine.{effect_covered, last_is}
use Rattle.proof_walk.proofs.Linking.{of_link}
use Rattle.proof_walk.proofs.Machines.{machine_keeps}
use Rattle.proof_walk.proofs.Stepping.{Steps, event_then}
use Rattle.proof_walk.proofs.Times.{IsWithin}
use Rattle.proof_walk.proofs.Untimed.{IsUntimed, AreUntimed, untimed_law, untimed_line}
use Rattle.proof_air.specs.Hearing.{KnowAir}
use Rattle.proof_air.specs.Logs.{Tie, log_of}
use Rattle.proof_air.specs.Landing.{KnowLanding, KnownSent, Landed, Landing, LandsNone, Opened, Repeating, Saying, Sent, TieSent}
use Rattle.proof_air.proofs.Counting.{frames_sent, no_frame}
use Rattle.proof_air.proofs.Fated.{again_fates, arrival_fates, same_fates}
use Rattle.proof_air.proofs.Fateless.{machine_fateless, machine_landed}
use Rattle.proof_air.proofs.Handling.{tie_here}
use Rattle.proof_air.proofs.Logs.{plain_sent}
use Rattle.proof_air.proofs.SentBefore.{number_clock, said_clock, same_clock, same_sent, still_all, still_earlier}
use Rattle.proof_air.proofs.Silent.{words_last}

-- ---- the last entry

pub folded_last : (before : List Line) (told : List Entry) → AreUntimed told → is_repeat before ≡ false → is_repeat (folded line_after before told) ≡ false
folded_last before [] untimed none = none
folded_last before (e ∷ told) untimed none = folded_last (line_of e) told untimed.1 (ap is_repeat (untimed_line e untimed.0))

pub still_apart : (past told : List Entry) → AreUntimed told → repeats past ≡ false → repeats (past ++ told) ≡ false
still_apart past told untimed none = ap is_repeat (folded-append line_after [] past told) ∙ folded_last (line_last past) told untimed none

pub number_apart : (past : List Entry) (n : ℕ) → repeats (past ++ entry.Time n ∷ []) ≡ false
number_apart past n = ap is_repeat (last_is past (entry.Time n))

-- ---- the law outside the host

untimed_stands : (past : List Entry) (e : Entry) → IsUntimed e → MayLand past e
untimed_stands past (entry.Said words) untimed = absurd untimed
untimed_stands past (entry.Time tick) untimed = absurd untimed
untimed_stands past e untimed = tt

no_more : (m n : ℕ) → m ≡ n → m ≤ n
no_more m n is = omega (arith, is)

-- what the host does of itself begins neither a line nor a tick
pub hosts : (event : OuterEvent) → is_own event ≡ false → IsWithin event
hosts Begins_line own = absurd (let none : true ≡ false = own in cc)
hosts Begins_tick own = absurd (let none : true ≡ false = own in cc)
hosts event own = tt

module _ (before : ℕ) (ticking : Bool) where
  -- the clock stays
  sent_moves : (w later : Outside) (told : List Entry) → AreUntimed told → later.outer.clock ≡ w.outer.clock → Moves MayLand (Sent before ticking) w told (Sent before ticking) later
  sent_moves w later told untimed same awaits past silent tie = by awaits silent tie
    where
      at : (b : Bool) (all : List Entry) → TieSent before ticking b all w.outer.clock → TieSent before ticking b all later.outer.clock
      at b all known = subst (λ (n : ℕ). TieSent before ticking b all n) (sym same) known

      by : (b : Bool) → (b ≡ true → told ≡ []) → TieSent before ticking b past w.outer.clock → EachAfter MayLand past told × TieSent before ticking b (past ++ told) later.outer.clock
      by true silent known =
          subst (λ (l : List Entry). EachAfter MayLand past l × TieSent before ticking true (past ++ l) later.outer.clock) (sym (silent refl))
          (tt, subst (λ (l : List Entry). TieSent before ticking true l later.outer.clock) (sym (append-nil past)) (at true past known))
      by false silent known =
          let now = known.now refl in (
            each-anywhere MayLand IsUntimed untimed_stands past told untimed,
            at false (past ++ told) (record {
              begun = no_more _ _ (same_clock past told untimed ∙ now);
              now = λ is. same_clock past told untimed ∙ now;
              earlier = still_earlier w.outer.clock past told untimed now ∙ known.earlier;
              all = λ time above. still_all w.outer.clock time above past told untimed now (known.all time above);
              waits = λ is. absurd (let none : false ≡ true = is in cc);
              apart = λ is quiet. still_apart past told untimed (known.apart is quiet);
            }),
          )

  -- the number is entered
  number_goes : (past : List Entry) (w : Outside) → Sent before ticking true past w → Sent before ticking false (past ++ entry.Time w.outer.clock ∷ []) w
  number_goes past w known =
      let clock : ℕ = w.outer.clock in
      let now = number_clock past clock known.begun in
      record {
        begun = no_more _ _ now;
        now = λ is. now;
        earlier = same_sent clock past (entry.Time clock) refl ∙ known.earlier;
        all = λ time above. same_sent time past (entry.Time clock) refl ∙ (known.all time above ∙ sym (no_frame past (entry.Time clock) refl));
        waits = λ is. absurd (let none : false ≡ true = is in cc);
        apart = λ is quiet. number_apart past clock;
      }

  sent_law : Link MayLand (Sent before ticking) IsWithin
  sent_law = untimed_law MayLand (Sent before ticking) IsWithin sent_moves (λ covers. covers) (λ covers. absurd covers) number_goes

  -- ---- an event of the machine

  sent_kept : (past : List Entry) (m : Machine) (event : Event) → CoversOuter IsWithin event → May m event → KnownSent before ticking past m
      → EachAfter MayLand past (entries m event) × KnownSent before ticking (past ++ entries m event) (happens m event)
  sent_kept past m event within may known =
      machine_keeps MayLand (λ pending. Sent before ticking) IsWithin (of_link MayLand (Sent before ticking) IsWithin sent_law) hosts m event within may past known

within_one : (event : OuterEvent) → LandsNone event → IsWithin event
within_one Begins_line none = absurd none
within_one Begins_tick none = absurd none
within_one event none = tt

within : (event : Event) → CoversOuter LandsNone event → CoversOuter IsWithin event
within (Outside_does event) none = within_one event none
within event none = tt

-- ---- what is known

plus_none : (n : ℕ) → n + 0 ≡ n
plus_none n = omega arith

-- all that were sent before the tick of the clock have had their fate
pub landed_now : (past : List Entry) (m : Machine) → Landed past m → HaveLanded m.outside.outer.clock past
landed_now past m known = known.fated ∙ (sym (plus_none m.outside.outer.air.frames.landed) ∙ (known.due ∙ sym known.sent.0.earlier))

pub landed_asked : (past : List Entry) (m : Machine) → KnowTime Between past m → Landed past m → HaveLanded (ticks_asked (lines_run past)) past
landed_asked past m time known =
    landed_now past m known ∙ ap (λ (n : ℕ). sent_before n past) (sym (plus_none m.outside.outer.clock) ∙ time.0.0.clock)

-- as many frames are shown as were sent
pub sent_frames : (past : List Entry) (w : Outside) → Tie nothing past w → length (frames past) ≡ w.outer.air.frames.sent
sent_frames past w tie =
    sym (frames_sent past) ∙ (ap goes_in (sym (tie.shown ∙ append-nil (log_of past))) ∙ (plain_sent tie.log ∙ sym tie.kept.sent))

-- no line repeats anything in a tick
pub relaxed : (left : ℕ) (past : List Entry) (m : Machine) → Landing left true past m → Landing left false past m
relaxed left past m known =
    let tie = known.sent.0 in
    record {
      before = known.before;
      sent = (
        record {
          begun = tie.begun;
          now = tie.now;
          earlier = tie.earlier;
          all = tie.all;
          waits = tie.waits;
          apart = λ is. absurd (let none : false ≡ true = is in cc);
        },
        known.sent.1,
      );
      fated = known.fated;
      due = known.due;
    }

-- ---- events by which no frame has its fate

rest_kept : (past : List Entry) (m : Machine) (event : Event) → CoversOuter LandsNone event → May m event → Landed past m
    → EachAfter MayLand past (entries m event) × Landed (past ++ entries m event) (happens m event)
rest_kept past m event none may known =
    let got = sent_kept known.before false past m event (within event none) may known.sent in
    let lands = machine_landed m event none may in (
      got.0,
      record {
        before = known.before;
        sent = got.1;
        fated = ap length (same_fates past (entries m event) (machine_fateless m event none may)) ∙ (known.fated ∙ sym lands);
        due = ap (λ (n : ℕ). n + 0) lands ∙ known.due;
      },
    )

-- ---- the words of a line, and its beginning

said : (past : List Entry) (m : Machine) (words : List ℕ) (line : Line) → line_of (entry.Said words) ≡ line ∷ [] → KnowTime Between past m → Landed past m
    → MayLand past (entry.Said words) × Saying line (past ++ entry.Said words ∷ []) m
said past m words line read time known =
    let clock : ℕ = m.outside.outer.clock in
    let asked : ticks_asked (lines_run past) ≡ clock = sym time.0.0.clock ∙ plus_none clock in (
      landed_asked past m time known,
      record {
        last = words_last past words line read;
        now = said_clock past words line clock read time.0.0.shown asked;
        all = λ later above. same_sent later past (entry.Said words) refl ∙ (known.sent.0.all later above ∙ sym (no_frame past (entry.Said words) refl));
        fated = ap length (same_fates past (entry.Said words ∷ []) (tt, tt)) ∙ known.fated;
        due = sym (plus_none m.outside.outer.air.frames.landed) ∙ (known.due ∙ (sym known.sent.0.earlier ∙ sym (same_sent clock past (entry.Said words) refl)));
      },
    )

begins_line : (line : Line) (past : List Entry) (m : Machine) → Saying line past m
    → EachAfter MayLand past (entries m (Outside_does Begins_line)) × Opened line (past ++ entries m (Outside_does Begins_line)) (happens m (Outside_does Begins_line))
unfolding happens entries outcome devices_after
begins_line line past m known =
    let later : Machine = happens m (Outside_does Begins_line) in
    let saying : Saying line past later = record { last = known.last; now = known.now; all = known.all; fated = known.fated; due = known.due } in
    (tt, subst (λ (l : List Entry). Opened line l later) (sym (append-nil past)) (saying, refl))

-- no number is to be entered then
no_number : (past : List Entry) (o : OuterState) → o.in_tick ≡ false → EachAfter MayLand past (ticked_entry o)
no_number past o out = subst (λ (b : Bool). EachAfter MayLand past (if b && not o.stamped then entry.Time o.clock ∷ [] else [])) (sym out) tt

no_wait : (stamped tick : Bool) → tick ≡ false → tick && not stamped ≡ true → ⊥
no_wait stamped true out waits = cc
no_wait stamped false out waits = let none : false ≡ true = waits in cc

opened_landed : (line : Line) (past : List Entry) (m : Machine) → Opened line past m → Landed past m
opened_landed line past m (known, out) = record {
  before = sent_before m.outside.outer.clock past;
  sent = (
    record {
      begun = no_more _ _ known.now;
      now = λ is. known.now;
      earlier = refl;
      all = known.all;
      waits = λ is. absurd (no_wait m.outside.outer.stamped m.outside.outer.in_tick out is);
      apart = λ is. absurd (let none : false ≡ true = is in cc);
    },
    no_number past m.outside.outer out,
  );
  fated = known.fated;
  due = plus_none m.outside.outer.air.frames.landed ∙ known.due;
}

-- ---- a tick begins

one_more : (m n : ℕ) → m ≤ n → m ≤ n + 1
one_more m n below = omega (arith, below)

still_above : (n time : ℕ) → n + 1 < time → n < time
still_above n time above = omega (arith, above)

next_above : (n : ℕ) → n < n + 1
next_above n = omega arith

less_one : (n : ℕ) → n ≡ (n + 1) - 1
less_one n = omega arith

all_due : (landed sent before : ℕ) → landed ≤ sent → before ≡ sent → landed + (sent - landed) ≡ before
all_due landed sent before order is = omega (arith, order, is)

begins_tick : (ticks : ℕ) (past : List Entry) (m : Machine) → Tie nothing past m.outside → Landed past m
    → EachAfter MayLand past (entries m (Outside_does Begins_tick)) × KnowLanding (Ticked ticks) (past ++ entries m (Outside_does Begins_tick)) (happens m (Outside_does Begins_tick))
unfolding happens entries outcome devices_after
begins_tick ticks past m air known =
    let later : Machine = happens m (Outside_does Begins_tick) in
    let clock : ℕ = m.outside.outer.clock in
    let tie = known.sent.0 in
    let waits : length (first_fates past) ≡ sent_before ((clock + 1) - 1) past = landed_now past m known ∙ ap (λ (n : ℕ). sent_before n past) (less_one clock) in
    let landing : KnowLanding (Ticked ticks) past later = record {
      before = sent_before (clock + 1) past;
      sent = (
        record {
          begun = one_more _ clock tie.begun;
          now = λ is. absurd (let none : true ≡ false = is in cc);
          earlier = refl;
          all = λ time above. tie.all time (still_above clock time above);
          waits = λ is. waits;
          apart = λ is quiet. absurd (let none : true ≡ false = quiet in cc);
        },
        (waits, tt),
      );
      fated = known.fated;
      due = all_due m.outside.outer.air.frames.landed m.outside.outer.air.frames.sent (sent_before (clock + 1) past) air.kept.order
          (tie.all (clock + 1) (next_above clock) ∙ sent_frames past m.outside air);
    } in
    (tt, subst (λ (l : List Entry). KnowLanding (Ticked ticks) l later) (sym (append-nil past)) landing)

-- ---- a frame arrives, or is heard again

-- with the number before it, nothing answers a `repeat`
apart_here : (before : ℕ) (past : List Entry) (o : OuterState) → TieSent before true (o.in_tick && not o.stamped) past o.clock → repeats (past ++ ticked_entry o) ≡ false
apart_here before past o known = by (o.in_tick && not o.stamped) known
  where
    by : (b : Bool) → TieSent before true b past o.clock → repeats (past ++ (if b then entry.Time o.clock ∷ [] else [])) ≡ false
    by true known = number_apart past o.clock
    by false known = ap repeats (append-nil past) ∙ known.apart refl refl

one_less : (landed now left before : ℕ) → now ≡ landed + 1 → landed + suc left ≡ before → now + left ≡ before
one_less landed now left before more due = omega (arith, more, due)

arrives : (left : ℕ) (past : List Entry) (m : Machine) (drawn : List ℕ) (route : Option Route) → May m (Outside_does (Arrives drawn route)) → Landing (suc left) true past m
    → EachAfter MayLand past (entries m (Outside_does (Arrives drawn route))) × Landing left true (past ++ entries m (Outside_does (Arrives drawn route))) (happens m (Outside_does (Arrives drawn route)))
unfolding happens entries May
arrives left past m drawn route may known =
    let got = sent_kept known.before true past m (Outside_does (Arrives drawn route)) tt may known.sent in
    let fates = arrival_fates past m.outside drawn route may.1 (apart_here known.before past m.outside.outer known.sent.0) in (
      got.0,
      record {
        before = known.before;
        sent = got.1;
        fated = fates.0 ∙ (ap (λ (n : ℕ). n + 1) known.fated ∙ sym fates.1);
        due = one_less m.outside.outer.air.frames.landed _ left known.before fates.1 known.due;
      },
    )

again : (number : ℕ) (drawn : List ℕ) (route : Option Route) (past : List Entry) (m : Machine) → May m (Outside_does (Repeats number drawn route)) → Opened (lines.Repeat number) past m
    → EachAfter MayLand past (entries m (Outside_does (Repeats number drawn route))) × Landed (past ++ entries m (Outside_does (Repeats number drawn route))) (happens m (Outside_does (Repeats number drawn route)))
unfolding happens entries
again number drawn route past m may opened =
    let known : Landed past m = opened_landed (lines.Repeat number) past m opened in
    let got = sent_kept known.before false past m (Outside_does (Repeats number drawn route)) tt may known.sent in
    let fates = again_fates past m.outside number drawn route (ap is_repeat opened.0.last) opened.1 in (
      got.0,
      record {
        before = known.before;
        sent = got.1;
        fated = ap length fates.0 ∙ (known.fated ∙ sym fates.1);
        due = ap (λ (n : ℕ). n + 0) fates.1 ∙ known.due;
      },
    )

-- ---- phases

abbrev Ground : Phase → List Entry → Machine → Type 0
Ground = both_know KnowAir KnowTime

abbrev Keeps : Phase → List Entry → Machine → Event → Type 0
Keeps = Steps MayLand KnowLanding

-- the next event of an effect
does_again : (line : Line) (first : Event) (left : List Event) (past : List Entry) (m : Machine) → May m first → Repeating (first ∷ left) past m → Keeps (Doing line left) past m first
does_again line first left past m may known =
    let all = known.is in
    let is : first ≡ Outside_does (Repeats known.number known.drawn known.route) = cc in
    let none : left ≡ [] = cc in
    let got = again known.number known.drawn known.route past m (subst (May m) is may) known.opened in
    subst (λ (e : Event). Keeps (Doing line left) past m e) (sym is) (got.0, inr (subst (λ (l : List Event). AllByRecursion (CoversOuter LandsNone) l) (sym none) tt, got.1))

-- an event by which no frame has its fate
rests : (next to : Phase) (event is : Event) (past : List Entry) (m : Machine) → event ≡ is → next ≡ to → CoversOuter LandsNone is → May m event → Landed past m
    → ((later : List Entry) (n : Machine) → Landed later n → KnowLanding to later n) → Keeps next past m event
rests next to event is past m event_is next_is none may known there =
    let got = rest_kept past m is none (subst (May m) event_is may) known in
    event_then MayLand KnowLanding next to event is past m event_is next_is (got.0, there (past ++ entries m is) (happens m is) got.1)

event_keeps : (here next : Phase) (past : List Entry) (m : Machine) (event : Event) → Goes here m event next → May m event → Ground here past m → KnowLanding here past m → Keeps next past m event
event_keeps (Said_line line) next past m event (event_is, next_is) may ground known =
    event_then MayLand KnowLanding next (Begun line) event (Outside_does Begins_line) past m event_is next_is (begins_line line past m known)
event_keeps (Doing line (first ∷ left)) next past m event (event_is, next_is) may ground (inl repeating) =
    event_then MayLand KnowLanding next (Doing line left) event first past m event_is next_is (does_again line first left past m (subst (May m) event_is may) repeating)
event_keeps (Doing line (first ∷ left)) next past m event (event_is, next_is) may ground (inr (none, known)) =
    rests next (Doing line left) event first past m event_is next_is none.0 may known (λ p n k. inr (none.1, k))
event_keeps (To_tick (suc ticks)) next past m event (event_is, next_is) may ground known =
    event_then MayLand KnowLanding next (Ticked ticks) event (Outside_does Begins_tick) past m event_is next_is (begins_tick ticks past m (tie_here (To_tick (suc ticks)) past m ground.0) known)
event_keeps (Arriving (suc left) ticks) next past m event (drawn, route, event_is, next_is) may ground known =
    event_then MayLand KnowLanding next (Arriving left ticks) event (Outside_does (Arrives drawn route)) past m event_is next_is (arrives left past m drawn route (subst (May m) event_is may) known)
event_keeps (Giving (suc results) ticks) next past m event (route, event_is, next_is) may ground known =
    rests next (Giving results ticks) event _ past m event_is next_is tt may known (λ p n k. k)
event_keeps (Ticking_devices place (suc count) ticks) next past m event (drawn, route, event_is, next_is) may ground known =
    rests next (Ticking_devices (place + 1) count ticks) event _ past m event_is next_is tt may known (λ p n k. k)
event_keeps (Ticking_chip ticks) next past m event (event_is, next_is) may ground known = rests next (Ticking_decoder ticks) event _ past m event_is next_is tt may known (λ p n k. k)
event_keeps (Ticking_decoder ticks) next past m event (event_is, next_is) may ground known =
    rests next (Ticking_host (tick_events m.host.state) ticks) event _ past m event_is next_is tt may known (λ p n k. k)
event_keeps (Ticking_host (first ∷ events) ticks) next past m event (event_is, next_is) may ground known = rests next (Ticking_host events ticks) event _ past m event_is next_is tt may known (λ p n k. k)
event_keeps (Sleeping passes ticks) next past m event (node, wants, event_is, next_is) may ground known = rests next (Sleeping passes ticks) event _ past m event_is next_is tt may known (λ p n k. k)
event_keeps (Submitting passes ticks) next past m event (asked, is, event_is, next_is) may ground known = rests next (Submitting passes ticks) event _ past m event_is next_is tt may known (λ p n k. k)
event_keeps (Moving passes ticks) next past m event (rest, ways, event_is, next_is) may ground known = rests next (Moved true passes ticks) event _ past m event_is next_is tt may known (λ p n k. k)
event_keeps (Moved has_moved passes ticks) next past m event (rest, items, done, event_is, next_is) may ground known =
    rests next (Sleeping passes ticks) event _ past m event_is next_is tt may known (λ p n k. k)
event_keeps here next past m event goes may ground known = absurd goes

-- ---- each part that begins

-- a line that repeats no frame
abbrev IsOther : Line → Type 0
IsOther (lines.Repeat number) = ⊥
IsOther line = Unit {0}

covers_line : (line : Line) → IsOther line → CoversLine LandsNone line
covers_line (lines.Repeat number) other = absurd other
covers_line (lines.Wake node) other = λ route. tt
covers_line (lines.Local node value) other = λ route. tt
covers_line lines.Restart other = (tt, tt)
covers_line line other = tt

begins_effect : (line : Line) (events : List Event) (past : List Entry) (m : Machine) → IsEffect line m events → Opened line past m → KnowLanding (Doing line events) past m
begins_effect (lines.Repeat number) events past m (inner, (drawn, route, one), are) opened =
    inl (record { number = number; drawn = drawn; route = route; is = are ∙ ap (λ (l : List OuterEvent). map Outside_does l) one; opened = opened })
begins_effect line events past m is opened = inr (effect_covered LandsNone line m events (covers_line line tt) is, opened_landed line past m opened)

effect_done : (line : Line) (past : List Entry) (m : Machine) → KnowLanding (Doing line []) past m → Landed past m
effect_done line past m (inl repeating) = let all = repeating.is in absurd cc
effect_done line past m (inr (none, known)) = known

to : (next phase : Phase) (past : List Entry) (m : Machine) → next ≡ phase → KnowLanding phase past m → KnowLanding next past m
to next phase past m is known = subst (λ (q : Phase). KnowLanding q past m) (sym is) known

turn_keeps : (here next : Phase) (past : List Entry) (m : Machine) → Turns here m next → Ground here past m → KnowLanding here past m → KnowLanding next past m
turn_keeps (Begun line) next past m (inl (events, is, next_is)) ground known = to next (Doing line events) past m next_is (begins_effect line events past m is known)
turn_keeps (Begun line) next past m (inr (ticks, line_is, next_is)) ground known = to next (To_tick ticks) past m next_is (opened_landed line past m known)
turn_keeps (Doing line []) next past m next_is ground known = to next (Sleeping 64 0) past m next_is (effect_done line past m known)
turn_keeps (To_tick zero) next past m next_is ground known = to next Between past m next_is known
turn_keeps (Ticked ticks) next past m next_is ground known = to next (Arriving (m.outside.outer.air.frames.sent - m.outside.outer.air.frames.landed) ticks) past m next_is known
turn_keeps (Arriving zero ticks) next past m next_is ground known = to next (Giving (length m.outside.outer.due) ticks) past m next_is (relaxed 0 past m known)
turn_keeps (Giving zero ticks) next past m next_is ground known = to next (Ticking_devices 0 (length m.outside.devices) ticks) past m next_is known
turn_keeps (Ticking_devices place zero ticks) next past m next_is ground known = to next (Ticking_chip ticks) past m next_is known
turn_keeps (Ticking_host [] ticks) next past m next_is ground known = to next (Sleeping 64 ticks) past m next_is known
turn_keeps (Sleeping passes ticks) next past m (wants, next_is) ground known = to next (Submitting passes ticks) past m next_is known
turn_keeps (Submitting zero ticks) next past m (pumped, next_is) ground known = to next (To_tick ticks) past m next_is known
turn_keeps (Submitting (suc passes) ticks) next past m (pumped, next_is) ground known = to next (Moving passes ticks) past m next_is known
turn_keeps (Moving passes ticks) next past m (still, next_is) ground known = to next (Moved false passes ticks) past m next_is known
turn_keeps (Moved has_moved passes ticks) next past m (still, next_is) ground known = to next (Sleeping (passes_after has_moved passes) ticks) past m next_is known
turn_keeps here next past m turns ground known = absurd turns

pub landing_walk : WalkOver (both_know KnowAir KnowTime) MayLand KnowLanding
landing_walk = record { said = λ past m words line read ground known. said past m words line read ground.1 known; event = event_keeps; turn = turn_keeps }
