-- The chip takes the acknowledgement of its frame: the first of its frames that wait is written, and nothing else changes.
use Rattle.std.proofs.Common.{◌≡◌, ℕ, Bool, true, false, List, [], ◌∷◌, ◌++◌, map, length, drop, refl, sym, ap, ◌∙◌, subst, arith, append-nil}
use Rattle.std.proofs.lemmas.List.{drop_all}
use Rattle.std.specs.Prelude.{Option}
use Rattle.serial_frame.specs.Frame.{FrameParts}
use Rattle.serial_frame.specs.Items.{unit_text}
use Rattle.serial_frame.specs.Stream.{Rest, no_rest}
use Rattle.serial_frame.specs.declared.item.Item.{Item}
use Rattle.serial_frame.specs.declared.item.Item.TheVariants.{Good}
use Rattle.serial_frame.specs.declared.unit.Unit.{Unit as LineUnit}
use Rattle.serial_frame.specs.declared.unit.Unit.TheVariants.{Ack, Framed}
use Rattle.serial_link.specs.State.{Side}
use Rattle.serial_link.specs.declared.turn.Turn.{Turn}
use Rattle.serial_link.specs.declared.turn.Turn.TheVariants.{Idle}
use Rattle.serial_pipes.specs.Events.{Takes}
use Rattle.serial_pipes.specs.Events as way
use Rattle.route_table.specs.declared.route.Route.{Route}
use Rattle.chip_sim.specs.Waiting.{PortState, next_at, served_at, written}
use Rattle.chip_sim.specs.Requests.{passed, heard, answer_outs, judged_frame, judged_outs}
use Rattle.chip_sim.specs.Events.{Judged, collides}
use Rattle.chip_sim.specs.Did.{judged_all}
use Rattle.zw_text.specs.declared.entry.Entry.{Entry}
use Rattle.outside_model.specs.State.{OuterState, Outcome, with_chip, each}
use Rattle.outside_model.specs.Chip.{put_out, chip_does, chip_takes, MayTake}
use Rattle.outside_model.specs.Events.{Chip_takes, outcome, has_entered, May as MayOutside}
use Rattle.world_model.specs.State.{Machine}
use Rattle.world_model.specs.Events.{Outside_does, happens, May}
use Rattle.proof_serial.specs.Chip.{HasFrames}
use Rattle.proof_calm.specs.Marks.{HasNoMarks}
use Rattle.proof_calm.specs.Passes.{AtChip, OnLine, next_turn, next_down, SameChip}
use Rattle.proof_calm.proofs.Reading.{fed_units}
use Rattle.proof_calm.proofs.Room.{written_bytes}
use Rattle.proof_calm.proofs.Unmarked.{event_unmarked}

-- ---- entries

pub entered_chip : {up down : List LineUnit} {turn : Turn} {frames : List FrameParts} (o : OuterState) (told : List Entry) → AtChip up down turn frames o.to_chip o.to_host o.chip
    → AtChip up down turn frames (has_entered o told).to_chip (has_entered o told).to_host (has_entered o told).chip
entered_chip o [] at = at
entered_chip o (entry ∷ told) at = at

pub entered_same : (o p : OuterState) (told : List Entry) → SameChip o p → SameChip o (has_entered p told)
entered_same o p [] same = same
entered_same o p (entry ∷ told) same = record { sending = same.sending; aborted = same.aborted; due = same.due; calls = same.calls; air = same.air }

-- ---- the acknowledgement

-- the link is free
abbrev freed : PortState → Side
freed port = record { turn = Idle; collisions = port.side.collisions }

-- and writes the next of these frames
abbrev pub acked : OuterState → List FrameParts → OuterState
acked o frames =
    (each put_out (with_chip o (record o.chip.state { port = served_at Idle frames (freed o.chip.state.port) })) (written (next_at Idle frames))).outer

pub judges_ack : (o : OuterState) (way : Option Route) → (chip_does o (Judged (Good Ack) way)).outer ≡ acked o o.chip.state.port.waiting
unfolding chip_does
judges_ack o way = by (collides o.chip.state)
  where
    by : (b : Bool) → (each put_out (with_chip o (judged_frame (passed b (Good Ack)) (heard o.chip.state (Good Ack))))
        (answer_outs b (Good Ack) ++ judged_outs (passed b (Good Ack)) (heard o.chip.state (Good Ack)) way)).outer ≡ acked o o.chip.state.port.waiting
    by true = refl
    by false = refl

-- what is so of it then
pub record Acked (frames : List FrameParts) (o n : OuterState) : Type 0 where
  pub at : AtChip [] (next_down frames) (next_turn frames) (drop 1 frames) n.to_chip n.to_host n.chip
  pub same : SameChip o n

pub acked_at : (o : OuterState) (frames : List FrameParts) → HasNoMarks o → o.to_chip.bytes ≡ [] → o.to_host.bytes ≡ [] → o.chip.decoder ≡ no_rest
    → HasFrames (record { side = o.chip.state.port.side; waiting = frames }) → o.chip.state.aborted ≡ 0 → Acked frames o (acked o frames)
acked_at o [] none up down rest has kept = record {
  at = record { up_bytes = up; down_bytes = down; decoder = rest; turn_is = refl; waiting = refl; fit = record { turn = tt; waiting = tt }; none_given_up = kept };
  same = record { sending = refl; aborted = refl; due = refl; calls = refl; air = refl };
}
acked_at o (frame ∷ frames) none up down rest has kept =
    let empty : length o.to_host.bytes ≡ 0 = ap (λ (bs : List ℕ). length bs) down in
    record {
      at = record {
        up_bytes = up;
        down_bytes =
            written_bytes o.to_host (Framed frame) none.to_host has.waiting.0 (omega (arith, empty)) ∙ ap (λ (bs : List ℕ). bs ++ unit_text (Framed frame)) down
            ∙ sym (append-nil (unit_text (Framed frame)));
        decoder = rest;
        turn_is = refl;
        waiting = refl;
        fit = record { turn = has.waiting.0; waiting = has.waiting.1 };
        none_given_up = kept;
      };
      same = record { sending = refl; aborted = refl; due = refl; calls = refl; air = refl };
    }

-- ---- the bytes

pub one_way : (ways : List (Item × Option Route)) (item : Item) → map (λ (w : Item × Option Route). w.0) ways ≡ item ∷ [] → (way : Option Route) × (ways ≡ (item, way) ∷ [])
one_way [] item is = absurd cc
one_way (way ∷ []) item is = let same : way.0 ≡ item = cc in (way.1, ap (λ (i : Item). (i, way.1) ∷ []) same)
one_way (way ∷ (next ∷ ways)) item is = absurd cc

took_ack : (o : OuterState) (turn : Turn) (frames : List FrameParts) (rest : Rest) (ways : List (Item × Option Route)) → HasNoMarks o → AtChip (Ack ∷ []) [] turn frames o.to_chip o.to_host o.chip
    → MayTake o (length o.to_chip.bytes) rest ways → Acked frames o (chip_takes o (length o.to_chip.bytes) rest ways).outer
took_ack o turn frames rest ways none at may =
    let fed = fed_units Ack [] o.to_chip.bytes o.chip.decoder rest (map (λ (w : Item × Option Route). w.0) ways) (tt, tt) at.decoder at.up_bytes may.feeds in
    let one = one_way ways (Good Ack) fed.0 in
    let count : ℕ = length o.to_chip.bytes in
    let p : OuterState = record o { to_chip = way.after o.to_chip (Takes count); chip = record { decoder = rest; state = o.chip.state } } in
    let empty : p.to_chip.bytes ≡ [] = drop_all count o.to_chip.bytes (omega arith) in
    let marks : HasNoMarks p = record { to_chip = none.to_chip; to_host = none.to_host; frames = none.frames; acknowledgements = none.acknowledgements; link = none.link; moves = none.moves } in
    let fits : HasFrames (record { side = o.chip.state.port.side; waiting = frames }) =
    subst (λ (fs : List FrameParts). HasFrames (record { side = o.chip.state.port.side; waiting = fs })) at.waiting (record { turn = at.fit.turn; waiting = at.fit.waiting }) in
    let then : Acked frames p (acked p frames) = acked_at p frames marks empty at.down_bytes fed.1 fits at.none_given_up in
    let is : (chip_takes o count rest ways).outer ≡ acked p frames =
    ap (λ (l : List (Item × Option Route)). (each chip_does p (judged_all l)).outer) one.1 ∙ judges_ack p one.0 ∙ ap (acked p) at.waiting in
    let at_then : Acked frames o (acked p frames) = record { at = then.at; same = record { sending = then.same.sending; aborted = then.same.aborted; due = then.same.due; calls = then.same.calls; air = then.same.air } } in
    subst (λ (n : OuterState). Acked frames o n) (sym is) at_then

-- ---- the machine

pub chip_turns : (m : Machine) (host turn : Turn) (frames : List FrameParts) (rest : Rest) (ways : List (Item × Option Route)) → OnLine (Ack ∷ []) [] host turn frames m
    → May m (Outside_does (Chip_takes (length m.outside.outer.to_chip.bytes) rest ways))
    → let n : Machine = happens m (Outside_does (Chip_takes (length m.outside.outer.to_chip.bytes) rest ways)) in
    OnLine [] (next_down frames) host (next_turn frames) (drop 1 frames) n × SameChip m.outside.outer n.outside.outer × (n.host ≡ m.host)
unfolding happens May MayOutside outcome
chip_turns m host turn frames rest ways line may =
    let o : OuterState = m.outside.outer in
    let count : ℕ = length o.to_chip.bytes in
    let x : Outcome = chip_takes o count rest ways in
    let then : Acked frames o x.outer = took_ack o turn frames rest ways line.unmarked line.at_chip may.1 in (
      record {
        unmarked = event_unmarked m (Outside_does (Chip_takes count rest ways)) tt may line.unmarked;
        at_chip = entered_chip x.outer x.entries then.at;
        at_host = line.at_host;
      },
      entered_same o x.outer x.entries then.same,
      refl,
    )
