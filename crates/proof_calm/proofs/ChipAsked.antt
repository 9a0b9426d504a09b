-- The chip judges a request to send a payload that it takes: it acknowledges it, answers it at once or once its other frames were taken, and sends.
use Rattle.std.proofs.Common.{◌≡◌, ◌≤◌, ℕ, ◌+◌, Bool, true, false, if◌then◌else◌, List, [], ◌∷◌, ◌++◌, length, refl, sym, ap, ◌∙◌, subst, arith, append-nil, append_assoc}
use Rattle.std.proofs.lemmas.List.{length_push}
use Rattle.std.specs.Prelude.{Option, Some, None, nat_lt}
use Rattle.std.specs.Option.{is_some}
use Rattle.serial_frame.specs.Frame.{FrameParts}
use Rattle.serial_frame.specs.Items.{unit_text}
use Rattle.serial_frame.specs.declared.item.Item.TheVariants.{Good}
use Rattle.serial_frame.specs.declared.unit.Unit.{Unit as LineUnit}
use Rattle.serial_frame.specs.declared.unit.Unit.TheVariants.{Ack, Framed}
use Rattle.serial_link.specs.declared.turn.Turn.{Turn}
use Rattle.serial_link.specs.declared.turn.Turn.TheVariants.{Idle, Copied}
use Rattle.serial_pipes.specs.State.{WayState}
use Rattle.serial_pipes.specs.Events.{Writes}
use Rattle.serial_pipes.specs.Events as way
use Rattle.route_table.specs.declared.route.Route.{Route}
use Rattle.chip_functions.specs.declared.request.Request.{Request}
use Rattle.chip_functions.specs.declared.response.Response.TheVariants.{SendData as SendDataAnswer}
use Rattle.chip_sim.specs.State.{ChipState}
use Rattle.chip_sim.specs.Answers.{response_frame, takes}
use Rattle.chip_sim.specs.Waiting.{is_full, queued_at, queued_outs_at}
use Rattle.chip_sim.specs.Requests.{passed, asked, heard, answer_outs, judged_frame, judged_outs, requested, requested_outs, sent}
use Rattle.chip_sim.specs.Events.{Judged, collides}
use Rattle.chip_sim.specs.declared.out.ChipOut.TheVariants.{Write, Full}
use Rattle.outside_model.specs.State.{OuterState, with_chip, each}
use Rattle.outside_model.specs.Chip.{put_out, chip_does}
use Rattle.proof_calm.specs.Marks.{no_marks, HasNoMarks}
use Rattle.proof_calm.specs.Passes.{texts, IsTakenBy}
use Rattle.proof_calm.proofs.Unmarked.{written_unmarked}
use Rattle.proof_calm.proofs.Room.{written_bytes}

-- its answer
abbrev pub response : FrameParts
response = response_frame (SendDataAnswer 1)

-- what the line is then; the fit of its frames is said apart
pub record Asked (down : List LineUnit) (turn : Turn) (most : ℕ) (o n : OuterState) : Type 0 where
  pub up_bytes : n.to_chip ≡ o.to_chip
  pub down_bytes : n.to_host.bytes ≡ o.to_host.bytes ++ texts down
  pub turn_is : n.chip.state.port.side.turn ≡ turn
  pub few : length n.chip.state.port.waiting ≤ most
  pub decoder : n.chip.decoder ≡ o.chip.decoder
  pub sends : is_some n.chip.state.sending ≡ true
  pub given_up : n.chip.state.aborted ≡ o.chip.state.aborted

-- the outcome, by the link's frame
abbrev pub by_turn : OuterState → FrameParts → ℕ → List ℕ → ℕ → Option Route → Turn → OuterState
by_turn o f node payload id route turn =
    let hs : ChipState = heard o.chip.state (Good (Framed f)) in
    (each put_out (with_chip o (record (record hs { port = queued_at turn hs.port response }) { sending = Some (record { node = node; callback_id = id }) }))
    (Write Ack ∷ (queued_outs_at turn hs.port response ++ sent node payload route))).outer

pub is_by_turn : (o : OuterState) (f : FrameParts) (route : Option Route) → HasNoMarks o → (taken : IsTakenBy o.chip.state f)
    → (chip_does o (Judged (Good (Framed f)) route)).outer ≡ by_turn o f taken.node taken.payload taken.id route o.chip.state.port.side.turn
unfolding chip_does
is_by_turn o f route none taken =
    by_passing (collides o.chip.state) (ap (λ (n : ℕ). nat_lt 0 n) none.link) ∙ ap by_request taken.is ∙ by_answer (takes o.chip.state taken.node taken.payload) taken.taken
  where
    hs : ChipState
    hs = heard o.chip.state (Good (Framed f))

    by_request : Option Request → OuterState
    by_request request = (each put_out (with_chip o (requested request hs)) (Write Ack ∷ requested_outs request hs route)).outer

    by_passing : (b : Bool) → b ≡ false
        → (each put_out (with_chip o (judged_frame (passed b (Good (Framed f))) hs)) (answer_outs b (Good (Framed f)) ++ judged_outs (passed b (Good (Framed f))) hs route)).outer ≡ by_request (asked f)
    by_passing false is = refl
    by_passing true is = absurd cc

    by_answer : (b : Bool) → b ≡ true
        → (each put_out (with_chip o
        (if b then record (record hs { port = queued_at o.chip.state.port.side.turn hs.port (response_frame (SendDataAnswer (if b then 1 else 0))) }) { sending = Some (record { node = taken.node; callback_id = taken.id }) }
        else record hs { port = queued_at o.chip.state.port.side.turn hs.port (response_frame (SendDataAnswer (if b then 1 else 0))) }))
        (Write Ack ∷ (queued_outs_at o.chip.state.port.side.turn hs.port (response_frame (SendDataAnswer (if b then 1 else 0))) ++ (if b then sent taken.node taken.payload route else [])))).outer
        ≡ by_turn o f taken.node taken.payload taken.id route o.chip.state.port.side.turn
    by_answer true is = refl
    by_answer false is = absurd cc

-- ---- the bytes

written_once : (w : WayState) → w.marks ≡ no_marks → length w.bytes ≤ 600 → (way.after w (Writes Ack)).bytes ≡ w.bytes ++ unit_text Ack
written_once w none few = written_bytes w Ack none tt (omega (arith, few))

written_twice : (w : WayState) → w.marks ≡ no_marks → length w.bytes ≤ 600
    → (way.after (way.after w (Writes Ack)) (Writes (Framed response))).bytes ≡ w.bytes ++ texts (Ack ∷ Framed response ∷ [])
written_twice w none few =
    let v : WayState = way.after w (Writes Ack) in
    let one : v.bytes ≡ w.bytes ++ unit_text Ack = written_once w none few in
    let long : length v.bytes ≡ length w.bytes + 1 = ap (λ (bs : List ℕ). length bs) one ∙ length_push w.bytes 6 in
    written_bytes v (Framed response) (written_unmarked w Ack none) (omega arith) (omega (arith, long, few)) ∙ ap (λ (bs : List ℕ). bs ++ unit_text (Framed response)) one
    ∙ append_assoc w.bytes (unit_text Ack) (unit_text (Framed response)) ∙ ap (λ (bs : List ℕ). w.bytes ++ (6 ∷ bs)) (sym (append-nil (unit_text (Framed response))))

-- ---- a free link answers at once

idle_asked : (o : OuterState) (f : FrameParts) (node : ℕ) (payload : List ℕ) (id : ℕ) (route : Option Route) → HasNoMarks o → length o.to_host.bytes ≤ 600 → o.chip.state.port.waiting ≡ []
    → Asked (Ack ∷ Framed response ∷ []) (Copied response 1 0) 0 o (by_turn o f node payload id route Idle)
idle_asked o f node payload id None none few free = record {
  up_bytes = refl;
  down_bytes = written_twice o.to_host none.to_host few;
  turn_is = refl;
  few = let empty = ap (λ (l : List FrameParts). length l) free in omega (arith, empty);
  decoder = refl;
  sends = refl;
  given_up = refl;
}
idle_asked o f node payload id (Some route) none few free = record {
  up_bytes = refl;
  down_bytes = written_twice o.to_host none.to_host few;
  turn_is = refl;
  few = let empty = ap (λ (l : List FrameParts). length l) free in omega (arith, empty);
  decoder = refl;
  sends = refl;
  given_up = refl;
}

-- ---- a busy one later

busy_asked : (o : OuterState) (f g : FrameParts) (copies ticks : ℕ) (node : ℕ) (payload : List ℕ) (id : ℕ) (route : Option Route) → HasNoMarks o → length o.to_host.bytes ≤ 600
    → o.chip.state.port.side.turn ≡ Copied g copies ticks
    → Asked (Ack ∷ []) (Copied g copies ticks) (length o.chip.state.port.waiting + 1) o (by_turn o f node payload id route (Copied g copies ticks))
busy_asked o f g copies ticks node payload id route none few busy = by (is_full o.chip.state.port.waiting) route
  where
    hs : ChipState
    hs = heard o.chip.state (Good (Framed f))

    by : (b : Bool) (r : Option Route) → Asked (Ack ∷ []) (Copied g copies ticks) (length o.chip.state.port.waiting + 1) o
        (each put_out (with_chip o (record (record hs { port = if b then hs.port else record { side = hs.port.side; waiting = hs.port.waiting ++ response ∷ [] } }) { sending = Some (record { node = node; callback_id = id }) }))
        (Write Ack ∷ ((if b then Full ∷ [] else []) ++ sent node payload r))).outer
    by true None = record { up_bytes = refl; down_bytes = written_once o.to_host none.to_host few; turn_is = busy; few = omega arith; decoder = refl; sends = refl; given_up = refl }
    by true (Some way) = record { up_bytes = refl; down_bytes = written_once o.to_host none.to_host few; turn_is = busy; few = omega arith; decoder = refl; sends = refl; given_up = refl }
    by false None = record { up_bytes = refl; down_bytes = written_once o.to_host none.to_host few; turn_is = busy; few = let one = length_push o.chip.state.port.waiting response in omega (arith, one); decoder = refl; sends = refl; given_up = refl }
    by false (Some way) = record { up_bytes = refl; down_bytes = written_once o.to_host none.to_host few; turn_is = busy; few = let one = length_push o.chip.state.port.waiting response in omega (arith, one); decoder = refl; sends = refl; given_up = refl }

-- ---- both

pub idle_takes : (o : OuterState) (f : FrameParts) (route : Option Route) → HasNoMarks o → length o.to_host.bytes ≤ 600 → o.chip.state.port.side.turn ≡ Idle → o.chip.state.port.waiting ≡ [] → IsTakenBy o.chip.state f
    → Asked (Ack ∷ Framed response ∷ []) (Copied response 1 0) 0 o (chip_does o (Judged (Good (Framed f)) route)).outer
idle_takes o f route none few free empty taken =
    subst (Asked (Ack ∷ Framed response ∷ []) (Copied response 1 0) 0 o) (sym (is_by_turn o f route none taken ∙ ap (by_turn o f taken.node taken.payload taken.id route) free))
    (idle_asked o f taken.node taken.payload taken.id route none few empty)

pub busy_takes : (o : OuterState) (f g : FrameParts) (copies ticks : ℕ) (route : Option Route) → HasNoMarks o → length o.to_host.bytes ≤ 600 → o.chip.state.port.side.turn ≡ Copied g copies ticks
    → IsTakenBy o.chip.state f → Asked (Ack ∷ []) (Copied g copies ticks) (length o.chip.state.port.waiting + 1) o (chip_does o (Judged (Good (Framed f)) route)).outer
busy_takes o f g copies ticks route none few busy taken =
    subst (Asked (Ack ∷ []) (Copied g copies ticks) (length o.chip.state.port.waiting + 1) o) (sym (is_by_turn o f route none taken ∙ ap (by_turn o f taken.node taken.payload taken.id route) busy))
    (busy_asked o f g copies ticks taken.node taken.payload taken.id route none few busy)
