-- The host takes what is on its way to it: it acknowledges each frame, its own frame is over where it is acknowledged, and nothing else of the line changes.
use Rattle.std.proofs.Common.{◌≡◌, ◌≤◌, ℕ, ◌+◌, Bool, true, false, List, [], ◌∷◌, ◌++◌, length, refl, sym, ap, ◌∙◌, subst, arith, append-nil, append_assoc}
use Rattle.std.proofs.lemmas.List.{drop_all, length_push}
use Rattle.std.proofs.lemmas.List.Concat.{flat_map-append}
use Rattle.std.specs.List.{AllByRecursion}
use Rattle.zw_base.proofs.Each.{all-weaker}
use Rattle.serial_frame.specs.Frame.{FrameParts}
use Rattle.serial_frame.specs.Items.{unit_text, IsUnit}
use Rattle.serial_frame.specs.Stream.{Rest}
use Rattle.serial_frame.specs.declared.item.Item.{Item}
use Rattle.serial_frame.specs.declared.item.Item.TheVariants.{Good}
use Rattle.serial_frame.specs.declared.unit.Unit.{Unit as LineUnit}
use Rattle.serial_frame.specs.declared.unit.Unit.TheVariants.{Ack, Nak, Can, Framed}
use Rattle.serial_link.specs.State.{Side, turn_heard}
use Rattle.serial_link.specs.declared.turn.Turn.{Turn}
use Rattle.serial_link.specs.declared.turn.Turn.TheVariants.{Idle}
use Rattle.serial_pipes.specs.State.{WayState}
use Rattle.serial_pipes.specs.Events.{Takes, Writes}
use Rattle.serial_pipes.specs.Events as way
use Rattle.chip_sim.specs.State.{ChipState, ChipParts}
use Rattle.host_model.specs.State.{HostState}
use Rattle.host_model.specs.Events.{HostEvent, Hears}
use Rattle.host_model.specs.After.{after, is_busy}
use Rattle.host_model.proofs.EventLists.{after_all-append, outs_all-append}
use Rattle.host_requests.specs.Events.RequestsEvent.{IsSent as request_is_sent}
use Rattle.host_model.specs.Did.{after_all, outs_all}
use Rattle.host_model.specs.Taking.{told_if, IsJudged, AreJudged}
use Rattle.outside_model.specs.State.{OuterState}
use Rattle.outside_model.specs.Events.{outcome}
use Rattle.world_model.specs.State.{Machine}
use Rattle.world_model.specs.Events.{Host_takes, fed, happens, May}
use Rattle.proof_serial.specs.Way.{written_all}
use Rattle.proof_serial.specs.Chip.{HasFrames}
use Rattle.proof_serial.specs.Line.{host_unit, host_units}
use Rattle.proof_serial.proofs.Outer.{routed_all}
use Rattle.proof_waking.proofs.proof_traffic_Parts.{Airs}
use Rattle.proof_waking.proofs.Calm.{Calm, takes_calm}
use Rattle.proof_calm.specs.Marks.{no_marks}
use Rattle.proof_calm.specs.Passes.{texts, IsPlain, answers, turn_after, OnLine, SameChip}
use Rattle.proof_calm.proofs.Unmarked.{written_unmarked}
use Rattle.proof_calm.proofs.Reading.{goods, fed_units}
use Rattle.proof_calm.proofs.Room.{written_bytes}
use Rattle.proof_calm.proofs.Unmarked.{event_unmarked}
use Rattle.proof_calm.proofs.Following.{AreOff, all_side, all_mute, frame_off}

-- ---- what it judges

-- after these events its own frame is so, and it has written these units
pub record Judged (h : HostState) (turn : Turn) (written : List LineUnit) (events : List HostEvent) : Type 0 where
  pub turn_is : (after_all h events).side.turn ≡ turn
  pub writes : host_units (outs_all h events) ≡ written

none_judged : (h : HostState) (events : List HostEvent) → events ≡ [] → Judged h h.side.turn [] events
none_judged h events none = subst (λ (l : List HostEvent). Judged h h.side.turn [] l) (sym none) (record { turn_is = refl; writes = refl })

told_off : (busy : Bool) → AreOff (told_if busy request_is_sent)
told_off true = (tt, tt)
told_off false = tt

one_judged : (h : HostState) (unit : LineUnit) (events : List HostEvent) → IsPlain unit → IsJudged h (Good unit) events → Judged h (turn_heard h.side.turn (Good unit)) (answers (unit ∷ [])) events
one_judged h Ack events plain (more, are, follow) =
    let heard : HostState = after h (Hears (Good Ack)) in
    let off : AreOff more = subst AreOff (sym follow) (told_off (is_busy h.side.turn)) in
    subst (Judged h Idle []) (sym are) (record { turn_is = ap (λ (s : Side). s.turn) (all_side heard more off); writes = all_mute heard more off })
one_judged h Nak events plain judged = absurd plain
one_judged h Can events plain judged = absurd plain
one_judged h (Framed f) events plain (more, are, follow) =
    let heard : HostState = after h (Hears (Good (Framed f))) in
    let off : AreOff more = frame_off heard f more follow in
    subst (Judged h h.side.turn (Ack ∷ [])) (sym are) (record { turn_is = ap (λ (s : Side). s.turn) (all_side heard more off); writes = ap (λ (l : List LineUnit). Ack ∷ l) (all_mute heard more off) })

answers-append : (unit : LineUnit) (units : List LineUnit) → answers (unit ∷ []) ++ answers units ≡ answers (unit ∷ units)
answers-append Ack units = refl
answers-append Nak units = refl
answers-append Can units = refl
answers-append (Framed f) units = refl

pub all_judged : (h : HostState) (units : List LineUnit) (events : List HostEvent) → AllByRecursion IsPlain units → AreJudged h (goods units) events → Judged h (turn_after h.side.turn units) (answers units) events
all_judged h [] events plain judged = none_judged h events judged
all_judged h (unit ∷ units) events plain (first, rest, are, one, others) =
    let here = one_judged h unit first plain.0 one in
    let later = all_judged (after_all h first) units rest plain.1 others in
    subst (Judged h (turn_after h.side.turn (unit ∷ units)) (answers (unit ∷ units))) (sym are)
    (record {
      turn_is = ap (λ (g : HostState). g.side.turn) (after_all-append h first rest) ∙ later.turn_is ∙ ap (λ (turn : Turn). turn_after turn units) here.turn_is;
      writes =
          ap host_units (outs_all-append h first rest) ∙ flat_map-append host_unit (outs_all h first) (outs_all (after_all h first) rest)
          ∙ ap (λ (l : List LineUnit). l ++ host_units (outs_all (after_all h first) rest)) here.writes ∙ ap (λ (l : List LineUnit). answers (unit ∷ []) ++ l) later.writes
          ∙ answers-append unit units;
    })

-- what it leaves of its pipe
pub record Took (m : Machine) (count : ℕ) (rest : Rest) : Type 0 where
  pub to_host : (fed m count rest).outside.outer.to_host ≡ way.after m.outside.outer.to_host (Takes count)
  pub to_chip : (fed m count rest).outside.outer.to_chip ≡ m.outside.outer.to_chip
  pub chip : (fed m count rest).outside.outer.chip ≡ m.outside.outer.chip

pub took : (m : Machine) (count : ℕ) (rest : Rest) → Took m count rest
unfolding outcome
took m count rest = record { to_host = refl; to_chip = refl; chip = refl }

pub same_of_calm : (o p : OuterState) → Calm o p → SameChip o p
same_of_calm o p calm = record {
  sending = ap (λ (s : ChipState). s.sending) calm.chip;
  aborted = ap (λ (s : ChipState). s.aborted) calm.chip;
  due = calm.due;
  calls = calm.calls;
  air = calm.on;
}

-- ---- what it writes

-- its acknowledgements go on their way whole
acks_written : (w : WayState) (units : List LineUnit) → w.marks ≡ no_marks → length w.bytes + length units ≤ 3000 → (written_all w (answers units)).bytes ≡ w.bytes ++ texts (answers units)
acks_written w [] none few = sym (append-nil w.bytes)
acks_written w (Ack ∷ units) none few = acks_written w units none (omega (arith, few))
acks_written w (Nak ∷ units) none few = acks_written w units none (omega (arith, few))
acks_written w (Can ∷ units) none few = acks_written w units none (omega (arith, few))
acks_written w (Framed f ∷ units) none few =
    let v : WayState = way.after w (Writes Ack) in
    let one : v.bytes ≡ w.bytes ++ unit_text Ack = written_bytes w Ack none tt (omega (arith, few)) in
    let long : length v.bytes ≡ length w.bytes + 1 = ap (λ (bs : List ℕ). length bs) one ∙ length_push w.bytes 6 in
    acks_written v units (written_unmarked w Ack none) (omega (arith, long, few)) ∙ ap (λ (bs : List ℕ). bs ++ texts (answers units)) one ∙ append_assoc w.bytes (unit_text Ack) (texts (answers units))

pub plain_units : (units : List LineUnit) → AllByRecursion IsPlain units → AllByRecursion IsUnit units
plain_units units plain = all-weaker IsPlain IsUnit by units plain
  where
    by : (unit : LineUnit) → IsPlain unit → IsUnit unit
    by Ack plain = tt
    by Nak plain = absurd plain
    by Can plain = absurd plain
    by (Framed f) plain = plain

module _ (air : Airs) where
  pub host_turns : (m : Machine) (unit : LineUnit) (units : List LineUnit) (host turn : Turn) (frames : List FrameParts) (rest : Rest) (items : List Item) (events : List HostEvent)
      → AllByRecursion IsPlain (unit ∷ units) → length units ≤ 99 → OnLine [] (unit ∷ units) host turn frames m → May m (Host_takes (length m.outside.outer.to_host.bytes) rest items events)
      → let n : Machine = happens m (Host_takes (length m.outside.outer.to_host.bytes) rest items events) in
      OnLine (answers (unit ∷ units)) [] (turn_after host (unit ∷ units)) turn frames n × SameChip m.outside.outer n.outside.outer × (items ≡ goods (unit ∷ units)) × (n.host.state ≡ after_all m.host.state events)
  unfolding happens May
  host_turns m unit units host turn frames rest items events plain few line may =
      let h : HostState = m.host.state in
      let o : OuterState = m.outside.outer in
      let count : ℕ = length o.to_host.bytes in
      let n : Machine = happens m (Host_takes count rest items events) in
      let read = fed_units unit units o.to_host.bytes m.host.decoder rest items (plain_units (unit ∷ units) plain) line.at_host.decoder line.at_chip.down_bytes may.feeds in
      let judged = all_judged h (unit ∷ units) events plain (subst (λ (l : List Item). AreJudged h l events) read.0 may.judged) in
      let there = took m count rest in
      let written = routed_all (fed m count rest).outside (outs_all h events) in
      let chip : n.outside.outer.chip ≡ o.chip = written.chip ∙ there.chip in
      let to_host : n.outside.outer.to_host ≡ way.after o.to_host (Takes count) = written.to_host ∙ there.to_host in
      let to_chip : n.outside.outer.to_chip ≡ written_all o.to_chip (answers (unit ∷ units)) =
      written.to_chip ∙ ap (λ (w : WayState). written_all w (host_units (outs_all h events))) there.to_chip ∙ ap (λ (us : List LineUnit). written_all o.to_chip us) judged.writes in
      let empty : length o.to_chip.bytes ≡ 0 = ap (λ (bs : List ℕ). length bs) line.at_chip.up_bytes in (
        record {
          unmarked = event_unmarked m (Host_takes count rest items events) tt may line.unmarked;
          at_chip = record {
            up_bytes =
                ap (λ (w : WayState). w.bytes) to_chip ∙ acks_written o.to_chip (unit ∷ units) line.unmarked.to_chip (omega (arith, empty, few))
                ∙ ap (λ (bs : List ℕ). bs ++ texts (answers (unit ∷ units))) line.at_chip.up_bytes;
            down_bytes = ap (λ (w : WayState). w.bytes) to_host ∙ drop_all count o.to_host.bytes (omega arith);
            decoder = ap (λ (c : ChipParts). c.decoder) chip ∙ line.at_chip.decoder;
            turn_is = ap (λ (c : ChipParts). c.state.port.side.turn) chip ∙ line.at_chip.turn_is;
            waiting = ap (λ (c : ChipParts). c.state.port.waiting) chip ∙ line.at_chip.waiting;
            fit = subst (λ (c : ChipParts). HasFrames c.state.port) (sym chip) line.at_chip.fit;
            none_given_up = ap (λ (c : ChipParts). c.state.aborted) chip ∙ line.at_chip.none_given_up;
          };
          at_host = record { decoder = read.1; turn_is = judged.turn_is ∙ ap (λ (t : Turn). turn_after t (unit ∷ units)) line.at_host.turn_is };
        },
        same_of_calm o n.outside.outer (takes_calm air m count rest items events),
        read.0,
        refl,
      )
