-- Each part of a pass: from each state of the line to the next, with a pass less.
use Rattle.std.proofs.Common.{◌≡◌, ◌≢◌, ◌≤◌, ℕ, suc, ◌+◌, Bool, true, false, inl, inr, List, [], ◌∷◌, length, refl, sym, ap, ◌∙◌, subst, arith}
use Rattle.std.specs.Prelude.{Option}
use Rattle.std.specs.Option.{is_some}
use Rattle.std.specs.List.{AllByRecursion}
use Rattle.serial_frame.specs.Frame.{FrameParts}
use Rattle.serial_frame.specs.Stream.{Rest}
use Rattle.serial_frame.specs.declared.item.Item.{Item}
use Rattle.serial_frame.specs.declared.unit.Unit.{Unit as LineUnit}
use Rattle.serial_frame.specs.declared.unit.Unit.TheVariants.{Ack, Nak, Can, Framed}
use Rattle.serial_link.specs.declared.turn.Turn.{Turn}
use Rattle.serial_link.specs.declared.turn.Turn.TheVariants.{Idle, Copied}
use Rattle.route_table.specs.declared.route.Route.{Route}
use Rattle.chip_sim.specs.State.{ChipState, ChipParts}
use Rattle.chip_sim.specs.declared.out.Sending.{Sending}
use Rattle.host_requests.specs.declared.task.Task.{Task}
use Rattle.host_model.specs.State.{HostState}
use Rattle.host_model.specs.Events.{HostEvent}
use Rattle.host_model.specs.After.{is_busy}
use Rattle.host_model.specs.Pumping.{IsNext, IsNextOf, IsNextOfNodes, IsPumped}
use Rattle.outside_model.specs.Events.{May as MayOutside}
use Rattle.world_model.specs.State.{Machine}
use Rattle.world_model.specs.Events.{Host_does, Host_takes, happens, May}
use Rattle.proof_serial.specs.Chip.{IsFrame, HasFrame, HasFrames}
use Rattle.proof_serial.specs.Line.{WritesWell}
use Rattle.proof_waking.proofs.proof_traffic_Parts.{Airs}
use Rattle.proof_calm.specs.Passes.{chip_taken, ChipMayTake, texts, IsPlain, OnLine, TakesEach, answers, turn_after}
use Rattle.proof_calm.specs.Settling.{Line, Free, Asks, Heard, Heard_asks, Sent, Sent_asks, Leaves, Nothing, An_ack, HasMoved, IsLive, Moves, for_request, for_made, passes_of, is_sending}
use Rattle.proof_calm.specs.Resting.{Stands}
use Rattle.proof_calm.proofs.HostTurns.{host_turns}
use Rattle.proof_calm.proofs.Submitting.{Mute, Submits, Either, next_either, mute_line, submitted_line, same_chip, unit_fits}
use Rattle.proof_calm.proofs.ChipPart.{asks_took, sent_asks_took, heard_asks_took, took_moved, heard_moved}
use Rattle.proof_calm.proofs.Idle.{chip_idles, host_idles}

-- ---- the chip's part

made : (sending : Bool) → sending ≡ false → for_made sending ≡ 2
made sending none = ap for_made none

fits_on : {up down : List LineUnit} {host : Turn} {frame : FrameParts} {ticks : ℕ} {frames : List FrameParts} {m : Machine} → OnLine up down host (Copied frame 1 ticks) frames m → IsFrame frame
fits_on line = subst HasFrame line.at_chip.turn_is line.at_chip.fit.turn

heard_asks_moved : (m : Machine) (asked frame : FrameParts) (ticks : ℕ) (frames : List FrameParts) (fits : IsFrame asked) (rest : Rest) (ways : List (Item × Option Route)) (passes : ℕ)
    → OnLine (Ack ∷ Framed asked ∷ []) [] (Copied asked 1 0) (Copied frame 1 ticks) frames m → ChipMayTake m rest ways → TakesEach m.outside.outer.chip.state ways
    → length frames + 1 + for_made (is_sending m) + 1 ≤ suc passes → HasMoved true passes (chip_taken m rest ways)
unfolding May MayOutside
heard_asks_moved m asked frame ticks [] fits rest ways passes line may served enough =
    let took = heard_asks_took m.outside.outer asked frame ticks [] rest ways line.unmarked fits line.at_chip may.1 served in
    let two = made (is_sending m) took.1 in
    took_moved m rest ways passes 0 0 (Copied asked 1 0) _ _ line.unmarked line.at_host line.at_chip.fit may took.0 (tt, (omega arith, tt)) (omega arith) refl refl refl (omega (arith, two, enough))
heard_asks_moved m asked frame ticks (next ∷ frames) fits rest ways passes line may served enough =
    let took = heard_asks_took m.outside.outer asked frame ticks (next ∷ frames) rest ways line.unmarked fits line.at_chip may.1 served in
    let two = made (is_sending m) took.1 in
    let here : HasFrames (record { side = m.outside.outer.chip.state.port.side; waiting = next ∷ frames }) =
    subst (λ (fs : List FrameParts). HasFrames (record { side = m.outside.outer.chip.state.port.side; waiting = fs })) line.at_chip.waiting
    (record { turn = line.at_chip.fit.turn; waiting = line.at_chip.fit.waiting }) in
    took_moved m rest ways passes (length frames + 1) 0 (Copied asked 1 0) (Framed next ∷ Ack ∷ []) next line.unmarked line.at_host line.at_chip.fit may took.0 (here.waiting.0, (tt, tt)) (omega arith) refl refl refl
    (omega (arith, two, enough))

pub chip_part : (m : Machine) (line : Line m) (rest : Rest) (ways : List (Item × Option Route)) (passes : ℕ) → Moves line → ChipMayTake m rest ways → TakesEach m.outside.outer.chip.state ways
    → passes_of line (is_sending m) + 1 ≤ suc passes → HasMoved true passes (chip_taken m rest ways)
unfolding May MayOutside
chip_part m (Free line) rest ways passes moves may served enough = absurd moves
chip_part m (Asks asked fits line) rest ways passes moves may served enough =
    let took = asks_took m.outside.outer asked rest ways line.unmarked fits line.at_chip may.1 served in
    let two = made (is_sending m) took.1 in
    took_moved m rest ways passes 0 0 (Copied asked 1 0) _ _ line.unmarked line.at_host line.at_chip.fit may took.0 (tt, (omega arith, tt)) (omega arith) refl refl refl (omega (arith, two, enough))
chip_part m (Heard frame ticks frames line) rest ways passes moves may served enough = heard_moved m frame ticks frames rest ways passes line may (omega (arith, enough))
chip_part m (Heard_asks asked frame ticks frames fits line) rest ways passes moves may served enough =
    heard_asks_moved m asked frame ticks frames fits rest ways passes line may served enough
chip_part m (Sent frame ticks frames line) rest ways passes moves may served enough =
    let idle = chip_idles m (Framed frame ∷ []) Idle (Copied frame 1 ticks) frames rest ways line may in
    let same = ap (λ (c : ChipState). for_request (is_some c.sending)) idle.1 in
    record {
      down = Framed frame ∷ [];
      host = Idle;
      turn = Copied frame 1 ticks;
      frames = frames;
      line = idle.0;
      plain = (fits_on line, tt);
      few = omega arith;
      over = refl;
      left = length frames + 1;
      leaves = An_ack frame ticks refl refl refl refl;
      enough = omega (arith, same, enough);
      some = λ not_moved. absurd cc;
    }
chip_part m (Sent_asks asked frame ticks frames fits line) rest ways passes moves may served enough =
    let took = sent_asks_took m.outside.outer asked frame ticks frames rest ways line.unmarked fits (fits_on line) line.at_chip may.1 served in
    let two = made (is_sending m) took.1 in
    took_moved m rest ways passes (length frames + 1) ticks (Copied asked 1 0) (Framed frame ∷ Ack ∷ []) frame line.unmarked line.at_host line.at_chip.fit may took.0 (fits_on line, (tt, tt)) (omega arith) refl refl refl
    (omega (arith, two, enough))

-- where nothing can move to the chip
pub none_up : (unit : LineUnit) (units : List LineUnit) → texts (unit ∷ units) ≢ []
none_up Ack units none = cc
none_up Nak units none = cc
none_up Can units none = cc
none_up (Framed frame) units none = cc

pub chip_still : (m : Machine) (line : Line m) (passes : ℕ) → Moves line → m.outside.outer.to_chip.bytes ≡ [] → passes_of line (is_sending m) + 1 ≤ suc passes → HasMoved false passes m
chip_still m (Free line) passes moves none enough = absurd moves
chip_still m (Asks asked fits line) passes moves none enough = absurd (none_up (Framed asked) [] (sym line.at_chip.up_bytes ∙ none))
chip_still m (Heard frame ticks frames line) passes moves none enough = absurd (none_up Ack [] (sym line.at_chip.up_bytes ∙ none))
chip_still m (Heard_asks asked frame ticks frames fits line) passes moves none enough = absurd (none_up Ack (Framed asked ∷ []) (sym line.at_chip.up_bytes ∙ none))
chip_still m (Sent frame ticks frames line) passes moves none enough = record {
  down = Framed frame ∷ [];
  host = Idle;
  turn = Copied frame 1 ticks;
  frames = frames;
  line = line;
  plain = (fits_on line, tt);
  few = omega arith;
  over = refl;
  left = length frames + 1;
  leaves = An_ack frame ticks refl refl refl refl;
  enough = omega (arith, enough);
  some = λ not_moved none. absurd cc;
}
chip_still m (Sent_asks asked frame ticks frames fits line) passes moves none enough = absurd (none_up (Framed asked) [] (sym line.at_chip.up_bytes ∙ none))

-- ---- the host's part

left_stands : (m : Machine) (passes : ℕ) (down : List LineUnit) (host turn : Turn) (frames : List FrameParts) (left : ℕ) → OnLine (answers down) [] host turn frames m → host ≡ Idle → Leaves down turn frames left
    → left + for_request (is_sending m) + 1 ≤ passes → Stands passes m
left_stands m passes down host turn frames left line over (Nothing none free empty is) enough = record {
  live = record {
    line = Free (subst (λ (fs : List FrameParts). OnLine [] [] Idle Idle fs m) empty (subst (λ (t : Turn). OnLine [] [] Idle t frames m) free
        (subst (λ (t : Turn). OnLine [] [] t turn frames m) over (subst (λ (us : List LineUnit). OnLine us [] host turn frames m) none line))));
    enough = omega (arith, is, enough);
  };
  turn = line.at_host.turn_is ∙ over;
}
left_stands m passes down host turn frames left line over (An_ack frame ticks one carries busy is) enough = record {
  live = record {
    line = Heard frame ticks frames (subst (λ (t : Turn). OnLine (Ack ∷ []) [] Idle t frames m) busy
        (subst (λ (t : Turn). OnLine (Ack ∷ []) [] t turn frames m) over (subst (λ (us : List LineUnit). OnLine us [] host turn frames m) one line)));
    enough = omega (arith, is, enough);
  };
  turn = line.at_host.turn_is ∙ over;
}

-- nothing was on its way
empty_stands : (m : Machine) (passes : ℕ) (host turn : Turn) (frames : List FrameParts) (left : ℕ) → OnLine [] [] host turn frames m → host ≡ Idle → Leaves [] turn frames left
    → left + for_request (is_sending m) + 1 ≤ passes → Stands passes m
empty_stands m passes host turn frames left line over leaves enough = left_stands m passes [] host turn frames left line over leaves enough

module _ (air : Airs) where
  pub host_part : (m : Machine) (b : Bool) (passes : ℕ) (rest : Rest) (items : List Item) (events : List HostEvent) → HasMoved b passes m → May m (Host_takes (length m.outside.outer.to_host.bytes) rest items events)
      → Stands passes (happens m (Host_takes (length m.outside.outer.to_host.bytes) rest items events))
  host_part m b passes rest items events has may = by has.down has.line has.plain has.few has.over has.leaves
    where
      n : Machine
      n = happens m (Host_takes (length m.outside.outer.to_host.bytes) rest items events)

      by : (down : List LineUnit) → OnLine [] down has.host has.turn has.frames m → AllByRecursion IsPlain down → length down ≤ 99 → turn_after has.host down ≡ Idle → Leaves down has.turn has.frames has.left
          → Stands passes n
      by [] line plain few over leaves =
          let idle = host_idles m has.host has.turn has.frames rest items events line may in
          let same = ap (λ (c : ChipParts). for_request (is_some c.state.sending)) idle.1 in
          let enough = has.enough in
          empty_stands n passes has.host has.turn has.frames has.left idle.0 over leaves (omega (arith, same, enough))
      by (unit ∷ units) line plain few over leaves =
          let turned = host_turns air m unit units has.host has.turn has.frames rest items events plain (omega (arith, few)) line may in
          let same = ap (λ (sending : Option Sending). for_request (is_some sending)) turned.1.sending in
          let enough = has.enough in
          left_stands n passes (unit ∷ units) (turn_after has.host (unit ∷ units)) has.turn has.frames has.left turned.0 over leaves (omega (arith, same, enough))

-- where nothing can move to the host either
pub host_still : (m : Machine) (passes : ℕ) → HasMoved true passes m → m.outside.outer.to_host.bytes ≡ [] → Stands passes m
host_still m passes has none = by has.down has.line has.over has.leaves
  where
    by : (down : List LineUnit) → OnLine [] down has.host has.turn has.frames m → turn_after has.host down ≡ Idle → Leaves down has.turn has.frames has.left → Stands passes m
    by [] line over leaves = empty_stands m passes has.host has.turn has.frames has.left line over leaves has.enough
    by (unit ∷ units) line over leaves = absurd (none_up unit units (sym line.at_chip.down_bytes ∙ none))

pub never_still : (m : Machine) (passes : ℕ) → HasMoved false passes m → m.outside.outer.to_host.bytes ≡ [] → ⊥
never_still m passes has none = by has.down has.line (has.some refl)
  where
    by : (down : List LineUnit) → OnLine [] down has.host has.turn has.frames m → down ≢ [] → ⊥
    by [] line some = some refl
    by (unit ∷ units) line some = none_up unit units (sym line.at_chip.down_bytes ∙ none)

-- ---- the host pumps

-- a host that has pumped submits nothing
pub none_next : (h : HostState) (event : HostEvent) → IsPumped h → IsNext h event → ⊥
none_next h event (inl busy) next = busy next.0
none_next h event (inr nothing) next =
    subst (λ (o : Option ℕ). IsNextOfNodes h o event) nothing.no_work
    (subst (λ (tasks : List Task). IsNextOf h false tasks event) nothing.no_task (subst (λ (b : Bool). IsNextOf h b h.requests.queue event) nothing.paid next.1))

module _ (air : Airs) where
  same_sending : (m : Machine) (event : HostEvent) → is_sending (happens m (Host_does event)) ≡ is_sending m
  same_sending m event = ap is_some (same_chip air m event).sending

  -- it does something that leaves the line
  pub mute_live : (m : Machine) (event : HostEvent) (passes : ℕ) → May m (Host_does event) → Mute m.host.state event → IsLive passes m → IsLive passes (happens m (Host_does event))
  mute_live m event passes may mute live = by live.line live.enough
    where
      n : Machine
      n = happens m (Host_does event)

      requests : for_request (is_sending n) ≡ for_request (is_sending m)
      requests = ap for_request (same_sending m event)

      mades : for_made (is_sending n) ≡ for_made (is_sending m)
      mades = ap for_made (same_sending m event)

      by : (line : Line m) → passes_of line (is_sending m) + 1 ≤ passes → IsLive passes n
      by (Free line) enough = record { line = Free (mute_line air m event [] [] Idle Idle [] line may mute); enough = omega (arith, requests, enough) }
      by (Asks asked fits line) enough =
          record { line = Asks asked fits (mute_line air m event (Framed asked ∷ []) [] (Copied asked 1 0) Idle [] line may mute); enough = omega (arith, mades, enough) }
      by (Heard frame ticks frames line) enough =
          record { line = Heard frame ticks frames (mute_line air m event (Ack ∷ []) [] Idle (Copied frame 1 ticks) frames line may mute); enough = omega (arith, requests, enough) }
      by (Heard_asks asked frame ticks frames fits line) enough = record {
        line = Heard_asks asked frame ticks frames fits (mute_line air m event (Ack ∷ Framed asked ∷ []) [] (Copied asked 1 0) (Copied frame 1 ticks) frames line may mute);
        enough = omega (arith, mades, enough);
      }
      by (Sent frame ticks frames line) enough =
          record { line = Sent frame ticks frames (mute_line air m event [] (Framed frame ∷ []) Idle (Copied frame 1 ticks) frames line may mute); enough = omega (arith, requests, enough) }
      by (Sent_asks asked frame ticks frames fits line) enough = record {
        line = Sent_asks asked frame ticks frames fits (mute_line air m event (Framed asked ∷ []) (Framed frame ∷ []) (Copied asked 1 0) (Copied frame 1 ticks) frames line may mute);
        enough = omega (arith, mades, enough);
      }

  -- it submits a request
  fewer : (sending : Bool) → for_made sending ≤ for_request sending
  fewer true = omega arith
  fewer false = omega arith

  not_free : (turn : Turn) (asked : FrameParts) → turn ≡ Copied asked 1 0 → is_busy turn ≡ false → ⊥
  not_free turn asked busy free = absurd (let is : true ≡ false = ap is_busy (sym busy) ∙ free in cc)

  submits_live : (m : Machine) (event : HostEvent) (frame : FrameParts) (passes : ℕ) → May m (Host_does event) → WritesWell m (Host_does event) → Submits m.host.state event frame
      → is_busy m.host.state.side.turn ≡ false → IsFrame frame → IsLive passes m → IsLive passes (happens m (Host_does event))
  submits_live m event frame passes may well submits free fit live = by live.line live.enough
    where
      n : Machine
      n = happens m (Host_does event)

      mades : for_made (is_sending n) ≤ for_request (is_sending m)
      mades = subst (λ (b : Bool). for_made b ≤ for_request (is_sending m)) (sym (same_sending m event)) (fewer (is_sending m))

      by : (line : Line m) → passes_of line (is_sending m) + 1 ≤ passes → IsLive passes n
      by (Free line) enough = record { line = Asks frame fit (submitted_line air m event frame [] [] Idle Idle [] line may well (omega arith) submits); enough = omega (arith, mades, enough) }
      by (Asks asked fits line) enough = absurd (not_free m.host.state.side.turn asked line.at_host.turn_is free)
      by (Heard first ticks frames line) enough = record {
        line = Heard_asks frame first ticks frames fit (submitted_line air m event frame (Ack ∷ []) [] Idle (Copied first 1 ticks) frames line may well (omega arith) submits);
        enough = omega (arith, mades, enough);
      }
      by (Heard_asks asked first ticks frames fits line) enough = absurd (not_free m.host.state.side.turn asked line.at_host.turn_is free)
      by (Sent first ticks frames line) enough = record {
        line = Sent_asks frame first ticks frames fit (submitted_line air m event frame [] (Framed first ∷ []) Idle (Copied first 1 ticks) frames line may well (omega arith) submits);
        enough = omega (arith, mades, enough);
      }
      by (Sent_asks asked first ticks frames fits line) enough = absurd (not_free m.host.state.side.turn asked line.at_host.turn_is free)

  pub next_live : (m : Machine) (event : HostEvent) (passes : ℕ) → May m (Host_does event) → WritesWell m (Host_does event) → IsNext m.host.state event → IsLive passes m → IsLive passes (happens m (Host_does event))
  next_live m event passes may well next live = by (next_either m.host.state event next)
    where
      by : Either m.host.state event → IsLive passes (happens m (Host_does event))
      by (inl mute) = mute_live m event passes may mute live
      by (inr (frame, submits)) = submits_live m event frame passes may well submits next.0.free_line (unit_fits air m event frame well submits) live
