-- The chip's part of a pass in which something moves: from each state of the line to what the host takes next.
use Rattle.std.proofs.Common.{◌≡◌, ◌≤◌, ℕ, ◌+◌, ◌&&◌, Bool, true, false, List, [], ◌∷◌, ◌++◌, map, length, drop, refl, sym, ap, ◌∙◌, subst, arith, append-nil}
use Rattle.std.proofs.lemmas.List.{drop_all}
use Rattle.std.proofs.lemmas.List.Concat.{flat_map-append}
use Rattle.std.specs.Prelude.{Option, Some, None}
use Rattle.std.specs.Option.{is_some}
use Rattle.std.specs.List.{AllByRecursion}
use Rattle.serial_frame.specs.Frame.{FrameParts}
use Rattle.serial_frame.specs.Items.{unit_text}
use Rattle.serial_frame.specs.Stream.{Rest, no_rest}
use Rattle.serial_frame.specs.declared.item.Item.{Item}
use Rattle.serial_frame.specs.declared.item.Item.TheVariants.{Good}
use Rattle.serial_frame.specs.declared.unit.Unit.{Unit as LineUnit}
use Rattle.serial_frame.specs.declared.unit.Unit.TheVariants.{Ack, Framed}
use Rattle.serial_link.specs.declared.turn.Turn.{Turn}
use Rattle.serial_link.specs.declared.turn.Turn.TheVariants.{Idle, Copied}
use Rattle.serial_pipes.specs.State.{WayState}
use Rattle.serial_pipes.specs.Events.{Takes}
use Rattle.serial_pipes.specs.Events as way
use Rattle.route_table.specs.declared.route.Route.{Route}
use Rattle.chip_sim.specs.State.{ChipState}
use Rattle.chip_sim.specs.Answers.{is_idle}
use Rattle.chip_sim.specs.Events.{Judged}
use Rattle.chip_sim.specs.Did.{judged_all}
use Rattle.chip_sim.specs.declared.out.Sending.{Sending}
use Rattle.zw_text.specs.declared.entry.Entry.{Entry}
use Rattle.outside_model.specs.State.{OuterState, Outcome, each}
use Rattle.outside_model.specs.Chip.{chip_does, chip_takes, MayTake}
use Rattle.outside_model.specs.Events.{Chip_takes, outcome, has_entered, May as MayOutside}
use Rattle.world_model.specs.State.{Machine}
use Rattle.world_model.specs.Events.{Outside_does, happens, May}
use Rattle.proof_serial.specs.Chip.{IsFrame, HasFrame, HasFrames}
use Rattle.proof_serial.proofs.Frames.{events_have}
use Rattle.proof_serial.proofs.ChipWays.{does_each}
use Rattle.proof_work.proofs.Times.{does_chip}
use Rattle.proof_calm.specs.Marks.{HasNoMarks, IsUnmarked}
use Rattle.proof_calm.proofs.Unmarked.{does_none}
use Rattle.proof_calm.proofs.Room.{unit_short}
use Rattle.proof_calm.specs.Passes.{chip_taken, ChipMayTake, texts, IsPlain, AtChip, AtHost, OnLine, IsTakenBy, TakesEach, turn_after, answers, frames_in, next_turn, next_down}
use Rattle.proof_calm.specs.Settling.{Nothing, An_ack, HasMoved, for_request, is_sending}
use Rattle.proof_calm.proofs.Reading.{fed_units}
use Rattle.proof_calm.proofs.ChipTurns.{Acked, acked, acked_at, judges_ack, one_way, entered_chip, chip_turns}
use Rattle.proof_calm.proofs.ChipAsked.{Asked, response, idle_takes, busy_takes}
use Rattle.proof_calm.proofs.Unmarked.{event_unmarked}

-- ---- bytes

pub two_ways : (ways : List (Item × Option Route)) (one two : Item) → map (λ (w : Item × Option Route). w.0) ways ≡ one ∷ two ∷ []
    → (a : Option Route) × (b : Option Route) × (ways ≡ (one, a) ∷ (two, b) ∷ [])
two_ways [] one two is = absurd cc
two_ways (way ∷ []) one two is = absurd cc
two_ways (way ∷ (next ∷ [])) one two is =
    let first : way.0 ≡ one = cc in
    let second : next.0 ≡ two = cc in
    (way.1, next.1, ap (λ (i : Item). (i, way.1) ∷ next ∷ []) first ∙ ap (λ (i : Item). (one, way.1) ∷ (i, next.1) ∷ []) second)
two_ways (way ∷ (next ∷ (more ∷ ways))) one two is = absurd cc

-- the chip has taken all bytes
abbrev pub taken : OuterState → Rest → OuterState
taken o rest = record o { to_chip = way.after o.to_chip (Takes (length o.to_chip.bytes)); chip = record { decoder = rest; state = o.chip.state } }

pub empty : (o : OuterState) (rest : Rest) → (taken o rest).to_chip.bytes ≡ []
empty o rest = drop_all (length o.to_chip.bytes) o.to_chip.bytes (omega arith)

pub marks_of : (o : OuterState) (rest : Rest) → HasNoMarks o → HasNoMarks (taken o rest)
marks_of o rest none = record { to_chip = none.to_chip; to_host = none.to_host; frames = none.frames; acknowledgements = none.acknowledgements; link = none.link; moves = none.moves }

-- what is so once it has judged them, where it took a payload to send
pub record Took (down : List LineUnit) (turn : Turn) (most : ℕ) (n : OuterState) : Type 0 where
  pub up_bytes : n.to_chip.bytes ≡ []
  pub down_bytes : n.to_host.bytes ≡ texts down
  pub decoder : n.chip.decoder ≡ no_rest
  pub turn_is : n.chip.state.port.side.turn ≡ turn
  pub few : length n.chip.state.port.waiting ≤ most
  pub sends : is_some n.chip.state.sending ≡ true
  pub none_given_up : n.chip.state.aborted ≡ 0

asked_took : (down more : List LineUnit) (turn : Turn) (most : ℕ) (p n : OuterState) → Asked more turn most p n → p.to_chip.bytes ≡ [] → p.to_host.bytes ≡ texts down → p.chip.decoder ≡ no_rest → p.chip.state.aborted ≡ 0
    → Took (down ++ more) turn most n
asked_took down more turn most p n asked up bytes rest kept = record {
  up_bytes = ap (λ (w : WayState). w.bytes) asked.up_bytes ∙ up;
  down_bytes = asked.down_bytes ∙ ap (λ (bs : List ℕ). bs ++ texts more) bytes ∙ sym (flat_map-append unit_text down more);
  decoder = asked.decoder ∙ rest;
  turn_is = asked.turn_is;
  few = asked.few;
  sends = asked.sends;
  none_given_up = asked.given_up ∙ kept;
}

-- the chip sends nothing where it takes a payload
not_sending : (s : ChipState) (frame : FrameParts) → IsTakenBy s frame → is_some s.sending ≡ false
not_sending s frame taken = by s.sending _ taken.taken
  where
    by : (sending : Option Sending) (rest : Bool) → (is_idle sending && rest) ≡ true → is_some sending ≡ false
    by None rest is = refl
    by (Some sending) rest is = absurd cc

few_bytes : (bytes : List ℕ) (units : List LineUnit) → bytes ≡ texts units → length (texts units) ≤ 600 → length bytes ≤ 600
few_bytes bytes units is few = let same = ap (λ (bs : List ℕ). length bs) is in omega (arith, same, few)

frame_few : (frame : FrameParts) → IsFrame frame → length (texts (Framed frame ∷ [])) ≤ 600
frame_few frame fits =
    let short = unit_short (Framed frame) fits in
    let same : length (texts (Framed frame ∷ [])) ≡ length (unit_text (Framed frame)) = ap (λ (bs : List ℕ). length bs) (append-nil (unit_text (Framed frame))) in
    omega (arith, short, same)

-- what that is after the acknowledgement of its frame, with these that waited
abbrev pub TookAfter : List FrameParts → OuterState → Type 0
TookAfter [] n = Took (Ack ∷ Framed response ∷ []) (Copied response 1 0) 0 n
TookAfter (frame ∷ frames) n = Took (Framed frame ∷ Ack ∷ []) (Copied frame 1 0) (length frames + 1) n

-- ---- by what is on its way to it

pub asks_took : (o : OuterState) (asked : FrameParts) (rest : Rest) (ways : List (Item × Option Route)) → HasNoMarks o → IsFrame asked → AtChip (Framed asked ∷ []) [] Idle [] o.to_chip o.to_host o.chip
    → MayTake o (length o.to_chip.bytes) rest ways → TakesEach o.chip.state ways
    → Took (Ack ∷ Framed response ∷ []) (Copied response 1 0) 0 (chip_takes o (length o.to_chip.bytes) rest ways).outer × (is_some o.chip.state.sending ≡ false)
asks_took o asked rest ways none fits at may takes_each =
    let fed = fed_units (Framed asked) [] o.to_chip.bytes o.chip.decoder rest (map (λ (w : Item × Option Route). w.0) ways) (fits, tt) at.decoder at.up_bytes may.feeds in
    let one = one_way ways (Good (Framed asked)) fed.0 in
    let p : OuterState = taken o rest in
    let is_taken : IsTakenBy o.chip.state asked = (subst (TakesEach o.chip.state) one.1 takes_each).0 in
    let here = idle_takes p asked one.0 (marks_of o rest none) (few_bytes o.to_host.bytes [] at.down_bytes (omega arith)) at.turn_is at.waiting is_taken in
    let is : (chip_takes o (length o.to_chip.bytes) rest ways).outer ≡ (chip_does p (Judged (Good (Framed asked)) one.0)).outer =
    ap (λ (l : List (Item × Option Route)). (each chip_does p (judged_all l)).outer) one.1 in (
      subst (Took (Ack ∷ Framed response ∷ []) (Copied response 1 0) 0) (sym is)
          (asked_took [] (Ack ∷ Framed response ∷ []) (Copied response 1 0) 0 p (chip_does p (Judged (Good (Framed asked)) one.0)).outer here (empty o rest) at.down_bytes fed.1 at.none_given_up),
      not_sending o.chip.state asked is_taken,
    )

pub sent_asks_took : (o : OuterState) (asked frame : FrameParts) (ticks : ℕ) (frames : List FrameParts) (rest : Rest) (ways : List (Item × Option Route)) → HasNoMarks o → IsFrame asked → IsFrame frame
    → AtChip (Framed asked ∷ []) (Framed frame ∷ []) (Copied frame 1 ticks) frames o.to_chip o.to_host o.chip → MayTake o (length o.to_chip.bytes) rest ways → TakesEach o.chip.state ways
    → Took (Framed frame ∷ Ack ∷ []) (Copied frame 1 ticks) (length frames + 1) (chip_takes o (length o.to_chip.bytes) rest ways).outer × (is_some o.chip.state.sending ≡ false)
sent_asks_took o asked frame ticks frames rest ways none fits fit at may takes_each =
    let fed = fed_units (Framed asked) [] o.to_chip.bytes o.chip.decoder rest (map (λ (w : Item × Option Route). w.0) ways) (fits, tt) at.decoder at.up_bytes may.feeds in
    let one = one_way ways (Good (Framed asked)) fed.0 in
    let p : OuterState = taken o rest in
    let is_taken : IsTakenBy o.chip.state asked = (subst (TakesEach o.chip.state) one.1 takes_each).0 in
    let here = busy_takes p asked frame 1 ticks one.0 (marks_of o rest none) (few_bytes o.to_host.bytes (Framed frame ∷ []) at.down_bytes (frame_few frame fit)) at.turn_is is_taken in
    let many : length o.chip.state.port.waiting ≡ length frames = ap (λ (l : List FrameParts). length l) at.waiting in
    let is : (chip_takes o (length o.to_chip.bytes) rest ways).outer ≡ (chip_does p (Judged (Good (Framed asked)) one.0)).outer =
    ap (λ (l : List (Item × Option Route)). (each chip_does p (judged_all l)).outer) one.1 in (
      subst (Took (Framed frame ∷ Ack ∷ []) (Copied frame 1 ticks) (length frames + 1)) (sym is)
          (subst (λ (most : ℕ). Took (Framed frame ∷ Ack ∷ []) (Copied frame 1 ticks) (most + 1) (chip_does p (Judged (Good (Framed asked)) one.0)).outer) many
          (asked_took (Framed frame ∷ []) (Ack ∷ []) (Copied frame 1 ticks) (length o.chip.state.port.waiting + 1) p (chip_does p (Judged (Good (Framed asked)) one.0)).outer here (empty o rest) at.down_bytes fed.1 at.none_given_up)),
      not_sending o.chip.state asked is_taken,
    )

-- once the acknowledgement was judged
then_asks : (q : OuterState) (asked : FrameParts) (route : Option Route) (frames : List FrameParts) → HasNoMarks q → AtChip [] (next_down frames) (next_turn frames) (drop 1 frames) q.to_chip q.to_host q.chip
    → IsTakenBy q.chip.state asked → TookAfter frames (chip_does q (Judged (Good (Framed asked)) route)).outer
then_asks q asked route [] none at is_taken =
    asked_took [] (Ack ∷ Framed response ∷ []) (Copied response 1 0) 0 q (chip_does q (Judged (Good (Framed asked)) route)).outer
    (idle_takes q asked route none (few_bytes q.to_host.bytes [] at.down_bytes (omega arith)) at.turn_is at.waiting is_taken) at.up_bytes at.down_bytes at.decoder at.none_given_up
then_asks q asked route (frame ∷ frames) none at is_taken =
    let many : length q.chip.state.port.waiting ≡ length frames = ap (λ (l : List FrameParts). length l) at.waiting in
    let fit : IsFrame frame = subst HasFrame at.turn_is at.fit.turn in
    subst (λ (most : ℕ). Took (Framed frame ∷ Ack ∷ []) (Copied frame 1 0) (most + 1) (chip_does q (Judged (Good (Framed asked)) route)).outer) many
    (asked_took (Framed frame ∷ []) (Ack ∷ []) (Copied frame 1 0) (length q.chip.state.port.waiting + 1) q (chip_does q (Judged (Good (Framed asked)) route)).outer
    (busy_takes q asked frame 1 0 route none (few_bytes q.to_host.bytes (Framed frame ∷ []) at.down_bytes (frame_few frame fit)) at.turn_is is_taken) at.up_bytes at.down_bytes at.decoder at.none_given_up)

pub heard_asks_took : (o : OuterState) (asked frame : FrameParts) (ticks : ℕ) (frames : List FrameParts) (rest : Rest) (ways : List (Item × Option Route)) → HasNoMarks o → IsFrame asked
    → AtChip (Ack ∷ Framed asked ∷ []) [] (Copied frame 1 ticks) frames o.to_chip o.to_host o.chip → MayTake o (length o.to_chip.bytes) rest ways → TakesEach o.chip.state ways
    → TookAfter frames (chip_takes o (length o.to_chip.bytes) rest ways).outer × (is_some o.chip.state.sending ≡ false)
heard_asks_took o asked frame ticks frames rest ways none fits at may takes_each =
    let fed = fed_units Ack (Framed asked ∷ []) o.to_chip.bytes o.chip.decoder rest (map (λ (w : Item × Option Route). w.0) ways) (tt, (fits, tt)) at.decoder at.up_bytes may.feeds in
    let two = two_ways ways (Good Ack) (Good (Framed asked)) fed.0 in
    let p : OuterState = taken o rest in
    let marks : HasNoMarks p = marks_of o rest none in
    let q : OuterState = (chip_does p (Judged (Good Ack) two.0)).outer in
    let has : HasFrames (record { side = o.chip.state.port.side; waiting = frames }) =
    subst (λ (fs : List FrameParts). HasFrames (record { side = o.chip.state.port.side; waiting = fs })) at.waiting (record { turn = at.fit.turn; waiting = at.fit.waiting }) in
    let one : Acked frames p q =
    subst (Acked frames p) (sym (judges_ack p two.0 ∙ ap (acked p) at.waiting)) (acked_at p frames marks (empty o rest) at.down_bytes fed.1 has at.none_given_up) in
    let is_taken : IsTakenBy q.chip.state asked =
    subst (λ (s : ChipState). IsTakenBy s asked) (sym (does_chip p (Judged (Good Ack) two.0))) (subst (TakesEach o.chip.state) two.2 takes_each).1.0 in
    let is : (chip_takes o (length o.to_chip.bytes) rest ways).outer ≡ (chip_does q (Judged (Good (Framed asked)) two.1)).outer =
    ap (λ (l : List (Item × Option Route)). (each chip_does p (judged_all l)).outer) two.2 in (
      subst (TookAfter frames) (sym is) (then_asks q asked two.1 frames (does_none p (Judged (Good Ack) two.0) tt marks) one.at is_taken),
      ap (λ (sending : Option Sending). is_some sending) (sym one.same.sending) ∙ not_sending q.chip.state asked is_taken,
    )

-- ---- the machine

pub entered_state : (o : OuterState) (told : List Entry) → (has_entered o told).chip.state ≡ o.chip.state
entered_state o [] = refl
entered_state o (entry ∷ told) = refl

-- the frames that wait there fit still
still_fit : (o : OuterState) (count : ℕ) (rest : Rest) (ways : List (Item × Option Route)) → HasFrames o.chip.state.port → MayTake o count rest ways → HasFrames (chip_takes o count rest ways).outer.chip.state.port
still_fit o count rest ways has may =
    let p : OuterState = record o { to_chip = way.after o.to_chip (Takes count); chip = record { decoder = rest; state = o.chip.state } } in
    subst (λ (s : ChipState). HasFrames s.port) (sym (does_each p (judged_all ways) may.judges).state) (events_have o.chip.state (judged_all ways) has may.judges)

-- it took a payload
pub took_moved : (m : Machine) (rest : Rest) (ways : List (Item × Option Route)) (passes most ticks : ℕ) (host : Turn) (down : List LineUnit) (frame : FrameParts) → IsUnmarked m → AtHost host m.host
    → HasFrames m.outside.outer.chip.state.port → ChipMayTake m rest ways → Took down (Copied frame 1 ticks) most (chip_takes m.outside.outer (length m.outside.outer.to_chip.bytes) rest ways).outer
    → AllByRecursion IsPlain down → length down ≤ 99 → turn_after host down ≡ Idle → answers down ≡ Ack ∷ [] → frames_in down ≡ frame ∷ [] → most + 2 ≤ passes → HasMoved true passes (chip_taken m rest ways)
unfolding happens May MayOutside outcome
took_moved m rest ways passes most ticks host down frame unmarked at_host has may took plain few over ack carries enough =
    let o : OuterState = m.outside.outer in
    let count : ℕ = length o.to_chip.bytes in
    let x : Outcome = chip_takes o count rest ways in
    let n : Machine = chip_taken m rest ways in
    let sends : is_sending n ≡ true = ap (λ (s : ChipState). is_some s.sending) (entered_state x.outer x.entries) ∙ took.sends in
    let nothing : for_request (is_sending n) ≡ 0 = ap for_request sends in
    let at : AtChip [] down (Copied frame 1 ticks) x.outer.chip.state.port.waiting x.outer.to_chip x.outer.to_host x.outer.chip =
    record { up_bytes = took.up_bytes; down_bytes = took.down_bytes; decoder = took.decoder; turn_is = took.turn_is; waiting = refl; fit = still_fit o count rest ways has may.1; none_given_up = took.none_given_up } in
    let waits = took.few in
    record {
      down = down;
      host = host;
      turn = Copied frame 1 ticks;
      frames = x.outer.chip.state.port.waiting;
      line = record { unmarked = event_unmarked m (Outside_does (Chip_takes count rest ways)) tt may unmarked; at_chip = entered_chip x.outer x.entries at; at_host = at_host };
      plain = plain;
      few = few;
      over = over;
      left = length x.outer.chip.state.port.waiting + 1;
      leaves = An_ack frame ticks ack carries refl refl;
      enough = omega (arith, nothing, waits, enough);
      some = λ not_moved. absurd cc;
    }

-- it took none: its next frame is on its way, or nothing is
pub heard_moved : (m : Machine) (frame : FrameParts) (ticks : ℕ) (frames : List FrameParts) (rest : Rest) (ways : List (Item × Option Route)) (passes : ℕ) → OnLine (Ack ∷ []) [] Idle (Copied frame 1 ticks) frames m
    → ChipMayTake m rest ways → length frames + 1 + for_request (is_sending m) ≤ passes → HasMoved true passes (chip_taken m rest ways)
heard_moved m frame ticks frames rest ways passes line may enough =
    let turned = chip_turns m Idle (Copied frame 1 ticks) frames rest ways line may in
    by frames turned.0 (ap (λ (sending : Option Sending). for_request (is_some sending)) turned.1.sending) enough
  where
    n : Machine
    n = chip_taken m rest ways

    by : (fs : List FrameParts) → OnLine [] (next_down fs) Idle (next_turn fs) (drop 1 fs) n → for_request (is_sending n) ≡ for_request (is_sending m) → length fs + 1 + for_request (is_sending m) ≤ passes
        → HasMoved true passes n
    by [] there same few = record {
      down = [];
      host = Idle;
      turn = Idle;
      frames = [];
      line = there;
      plain = tt;
      few = omega arith;
      over = refl;
      left = 0;
      leaves = Nothing refl refl refl refl;
      enough = omega (arith, same, few);
      some = λ not_moved. absurd cc;
    }
    by (next ∷ more) there same few = record {
      down = Framed next ∷ [];
      host = Idle;
      turn = Copied next 1 0;
      frames = more;
      line = there;
      plain = (subst HasFrame there.at_chip.turn_is there.at_chip.fit.turn, tt);
      few = omega arith;
      over = refl;
      left = length more + 1;
      leaves = An_ack next 0 refl refl refl refl;
      enough = omega (arith, same, few);
      some = λ not_moved. absurd cc;
    }
