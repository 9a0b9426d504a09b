-- A payload that was heard on its way to the controller stays so as the transcript grows; and the frames that the air keeps for the controller are those that the
-- transcript shows.
use Rattle.std.proofs.Common.{◌≡◌, ℕ, zero, suc, ◌+◌, ◌-◌, ◌==◌, ◌&&◌, ◌⊎◌, Bool, true, false, if◌then◌else◌, List, [], ◌∷◌, ◌++◌, length, length-drop, refl, sym, ap, ap₂, subst, ◌∙◌, append-nil, nat_lt, nat_le, inl, inr, arith}
use Rattle.std.proofs.lemmas.Bool.{ltb-true, leb-true}
use Rattle.std.specs.Prelude.{Option, Some, None, slice_get}
use Rattle.std.specs.Option.{option_map}
use Rattle.circular_buffer.proofs.Places.{slice_get-drop}
use Rattle.zw_base.proofs.Each.{all-weaker}
use Rattle.serial_frame.specs.Frame.{FrameParts}
use Rattle.serial_frame.specs.Items.{unit_text}
use Rattle.serial_frame.specs.declared.unit.Unit.TheVariants.{Framed}
use Rattle.serial_link.specs.declared.turn.Turn.{Turn}
use Rattle.serial_link.specs.declared.turn.Turn.TheVariants.{Idle, Copied, Paused}
use Rattle.air_frames.specs.declared.frame.Departure.{Departure}
use Rattle.air_frames.specs.declared.frame.Heading.TheVariants.{Outward, Homeward}
use Rattle.air_frames.specs.Flown.{Flown}
use Rattle.air_frames.specs.Frames.{FramesState, kept, next_of, remembered}
use Rattle.air_frames.specs.History.{Mark, Goes, Begins, departure_at, stamped}
use Rattle.air_frames.proofs.Logs.{length-stamped}
use Rattle.chip_sim.specs.Waiting.{PortState}
use Rattle.proof_walk.specs.mesh_sim.declared.event.AirEvent.{AirEvent}
use Rattle.proof_walk.specs.mesh_sim.declared.event.AirEvent.TheVariants as air_event
use Rattle.zw_text.specs.declared.entry.Entry.{Entry}
use Rattle.zw_text.specs.Transcript.{AirFrame, frames, frame_at, heard, heard_at}
use Rattle.zw_text.proofs.Views.{shown-append}
use Rattle.law_wire.specs.law_transcript.Lists.{Has}
use Rattle.law_wire.specs.law_transcript.Nodes.{controller}
use Rattle.law_wire.specs.law_transcript.Repeats.{frame_of}
use Rattle.law_wire.specs.law_transcript.Units.{Carried, bringing_in}
use Rattle.law_wire.specs.law_transcript.Carrying.{ArePicked, homeward, heard_home, WereHeard}
use Rattle.law_wire.proofs.Having.{has_left, has_right, has_either, has_shown, shown_has}
use Rattle.proof_walk.specs.outside_model.State.{Outside}
use Rattle.proof_walk.specs.Outside.{nothing}
use Rattle.proof_air.specs.Logs.{log_of, plain, plain_log, Tie}
use Rattle.proof_air.specs.Carrying.{Brings, TurnHas, PortHas, IsHome, Come}
use Rattle.proof_air.proofs.Counting.{departure, frame_sent, at_its_place}
use Rattle.proof_air.proofs.Logs.{plain_at}

-- ---- one of a list

one_picked : {A : Type 0} (xs : List A) (one : A) → Has xs one → ArePicked (one ∷ []) xs
one_picked [] one has = absurd has
one_picked (x ∷ xs) one (inl same) = inl (sym same, tt)
one_picked (x ∷ xs) one (inr later) = inr (one_picked xs one later)

picked_has : {A : Type 0} (xs : List A) (one : A) → ArePicked (one ∷ []) xs → Has xs one
picked_has [] one picked = absurd picked
picked_has (x ∷ xs) one (inl (same, none)) = inl (sym same)
picked_has (x ∷ xs) one (inr later) = inr (picked_has xs one later)

-- ---- the transcript grows

pub get_stays : {A : Type 0} (xs ys : List A) (at : ℕ) (x : A) → slice_get xs at ≡ Some x → slice_get (xs ++ ys) at ≡ Some x
get_stays [] ys at x is = absurd cc
get_stays (first ∷ xs) ys zero x is = is
get_stays (first ∷ xs) ys (suc at) x is = get_stays xs ys at x is

module _ (past told : List Entry) where
  frame_stays : (number : ℕ) (frame : AirFrame) → frame_of past number ≡ Some frame → frame_of (past ++ told) number ≡ Some frame
  frame_stays number frame is = by (nat_lt 0 number) is
    where
      by : (b : Bool) → (if b then slice_get (frames past) (number - 1) else None) ≡ Some frame → (if b then slice_get (frames (past ++ told)) (number - 1) else None) ≡ Some frame
      by true found = ap (λ (l : List AirFrame). slice_get l (number - 1)) (shown-append frame_at past told) ∙ get_stays (frames past) (frames told) (number - 1) frame found
      by false none = absurd cc

  -- what a frame for the controller carries
  carries_on : (number : ℕ) (carried : Carried) → Has (homeward (frame_of past number)) carried → Has (homeward (frame_of (past ++ told) number)) carried
  carries_on number carried has = by (frame_of past number) refl has
    where
      by : (found : Option AirFrame) → frame_of past number ≡ found → Has (homeward found) carried → Has (homeward (frame_of (past ++ told) number)) carried
      by None is none = absurd none
      by (Some frame) is here = subst (λ (o : Option AirFrame). Has (homeward o) carried) (sym (frame_stays number frame is)) here

  home_stays : (number node : ℕ) (payload : List ℕ) → IsHome past number node payload → IsHome (past ++ told) number node payload
  home_stays number node payload home = by (frame_of past number) refl home
    where
      by : (found : Option AirFrame) → frame_of past number ≡ found → homeward found ≡ record { node = node; payload = payload } ∷ []
          → homeward (frame_of (past ++ told) number) ≡ record { node = node; payload = payload } ∷ []
      by None is none = absurd cc
      by (Some frame) is here = ap homeward (frame_stays number frame is) ∙ here

  number_stays : (number : ℕ) → Has (heard past) number → Has (heard (past ++ told)) number
  number_stays number has = subst (λ (l : List ℕ). Has l number) (sym (shown-append heard_at past told)) (has_left (heard past) (heard told) number has)

  one_stays : (carried : Carried) → Has (heard_home past) carried → Has (heard_home (past ++ told)) carried
  one_stays carried has =
      let shown = shown_has (λ (number : ℕ). homeward (frame_of past number)) (heard past) carried has in
      has_shown (λ (number : ℕ). homeward (frame_of (past ++ told) number)) (heard (past ++ told)) shown.by carried (number_stays shown.by shown.among) (carries_on shown.by carried shown.shows)

  were_heard : (brought : List Carried) → WereHeard (heard_home past) brought → WereHeard (heard_home (past ++ told)) brought
  were_heard [] were = tt
  were_heard (carried ∷ brought) were =
      (one_picked (heard_home (past ++ told)) carried (one_stays carried (picked_has (heard_home past) carried were.0)), were_heard brought were.1)

  pub brings_stays : (f : FrameParts) → Brings past f → Brings (past ++ told) f
  brings_stays f brings = were_heard (bringing_in (unit_text (Framed f))) brings

  turn_stays : (turn : Turn) → TurnHas (Brings past) turn → TurnHas (Brings (past ++ told)) turn
  turn_stays Idle has = tt
  turn_stays (Copied f copies ticks) has = brings_stays f has
  turn_stays (Paused f copies ticks) has = brings_stays f has

  pub port_stays : (port : PortState) → PortHas (Brings past) port → PortHas (Brings (past ++ told)) port
  port_stays port has = record { turn = turn_stays port.side.turn has.turn; waiting = all-weaker (Brings past) (Brings (past ++ told)) brings_stays port.waiting has.waiting }

  -- the payloads that are to come
  come_stay : (numbers later : List ℕ) → ((number : ℕ) → Has numbers number → Has later number) → (events : List AirEvent) → Come past numbers events → Come (past ++ told) later events
  come_stay numbers later all [] come = tt
  come_stay numbers later all (air_event.Heard frame ∷ events) come = come_stay (numbers ++ frame ∷ []) (later ++ frame ∷ []) more events come
    where
      more : (number : ℕ) → Has (numbers ++ frame ∷ []) number → Has (later ++ frame ∷ []) number
      more number has = by (has_either numbers (frame ∷ []) number has)
        where
          by : Has numbers number ⊎ Has (frame ∷ []) number → Has (later ++ frame ∷ []) number
          by (inl before) = has_left later (frame ∷ []) number (all number before)
          by (inr here) = has_right later (frame ∷ []) number here
  come_stay numbers later all (air_event.Lost frame ∷ events) come = come_stay numbers later all events come
  come_stay numbers later all (air_event.Unheard frame ∷ events) come = come_stay numbers later all events come
  come_stay numbers later all (air_event.Sent frame from to route payload ∷ events) come = come_stay numbers later all events come
  come_stay numbers later all (air_event.Changed node at ∷ events) come = come_stay numbers later all events come
  come_stay numbers later all (air_event.ToChip frame from payload ∷ events) come =
      ((all frame come.0.0, home_stays frame from payload come.0.1), come_stay numbers later all events come.1)
  come_stay numbers later all (air_event.Done frame status dead ∷ events) come = come_stay numbers later all events come

  -- what is told hears all that these events were to hear before
  pub come_on : (before : List ℕ) → ((number : ℕ) → Has before number → Has (heard (past ++ told)) number) → (events : List AirEvent) → Come past before events
      → Come (past ++ told) (heard (past ++ told)) events
  come_on before all events come = come_stay before (heard (past ++ told)) all events come

  pub come_after : (events : List AirEvent) → Come past (heard past) events → Come (past ++ told) (heard (past ++ told)) events
  come_after events come = come_on (heard past) number_stays events come

-- such a frame that was heard
pub heard_picked : (past : List Entry) (number node : ℕ) (payload : List ℕ) → Has (heard past) number → IsHome past number node payload
    → ArePicked (record { node = node; payload = payload } ∷ []) (heard_home past)
heard_picked past number node payload has home =
    let carried : Carried = record { node = node; payload = payload } in
    let here : Has (homeward (frame_of past number)) carried = subst (λ (l : List Carried). Has l carried) (sym home) (inl refl) in
    one_picked (heard_home past) carried (has_shown (λ (k : ℕ). homeward (frame_of past k)) (heard past) number carried has here)

-- ---- the frames that the air keeps

-- the frame at a place went on the air so
pub record Departs (log : List Mark) (at : ℕ) (frame : Flown) : Type 0 where
  pub departs : Departure
  pub there : departure_at log at ≡ Some departs
  pub node : departs.node ≡ frame.node
  pub heading : departs.heading ≡ frame.heading
  pub payload : departs.payload ≡ frame.payload

departs_so : (before log : List Mark) (at : ℕ) (frame : Flown) → slice_get (stamped before log) at ≡ Some frame → Departs log at frame
departs_so before [] at frame is = absurd cc
departs_so before (Begins node ∷ log) at frame is =
    let rest = departs_so (before ++ Begins node ∷ []) log at frame is in
    record { departs = rest.departs; there = rest.there; node = rest.node; heading = rest.heading; payload = rest.payload }
departs_so before (Goes one ∷ log) zero frame is =
    let node : Some one.node ≡ Some frame.node = ap (option_map (λ (f : Flown). f.node)) is in
    let heading : Some one.heading ≡ Some frame.heading = ap (option_map (λ (f : Flown). f.heading)) is in
    let payload : Some one.payload ≡ Some frame.payload = ap (option_map (λ (f : Flown). f.payload)) is in
    record { departs = one; there = refl; node = cc; heading = cc; payload = cc }
departs_so before (Goes one ∷ log) (suc at) frame is =
    let rest = departs_so (before ++ Goes one ∷ []) log at frame is in
    record { departs = rest.departs; there = rest.there; node = rest.node; heading = rest.heading; payload = rest.payload }

-- the transcript's frame at a place, which heads for the controller
end_home : (b : Bool) (sender receiver node : ℕ) (sent payload : List ℕ) → (if b then Homeward else Outward) ≡ Homeward → (if b then sender else receiver) ≡ node → sent ≡ payload
    → if◌then◌else◌ {A = List Carried} b (record { node = sender; payload = sent } ∷ []) [] ≡ record { node = node; payload = payload } ∷ []
end_home true sender receiver node sent payload heads same carries = ap₂ (λ (n : ℕ) (p : List ℕ). record { node = n; payload = p } ∷ []) same carries
end_home false sender receiver node sent payload heads same carries = absurd cc

found_home : (found : Option AirFrame) (one : Departure) (node : ℕ) (payload : List ℕ) → option_map departure found ≡ Some one → one.heading ≡ Homeward → one.node ≡ node
    → one.payload ≡ payload → homeward found ≡ record { node = node; payload = payload } ∷ []
found_home None one node payload is heads same carries = absurd cc
found_home (Some frame) one node payload is heads same carries =
    let alike : departure frame ≡ one = cc in
    end_home (frame.receiver == controller) frame.sender frame.receiver node frame.payload payload (ap (λ (d : Departure). d.heading) alike ∙ heads)
    (ap (λ (d : Departure). d.node) alike ∙ same) (ap (λ (d : Departure). d.payload) alike ∙ carries)

module _ (past : List Entry) (w : Outside) (tie : Tie nothing past w) where
  abbrev state : FramesState
  state = w.outer.air.frames

  -- the frame at a place, and how the transcript shows it
  pub went_so : (at : ℕ) (frame : Flown) → slice_get (stamped [] tie.log) at ≡ Some frame → Departs tie.log at frame
  went_so at frame is = departs_so [] tie.log at frame is

  pub shown_so : (at : ℕ) (frame : Flown) (is : slice_get (stamped [] tie.log) at ≡ Some frame) → option_map departure (slice_get (frames past) at) ≡ Some (plain (went_so at frame is).departs)
  shown_so at frame is =
      let same : log_of past ≡ plain_log tie.log = sym (tie.shown ∙ append-nil (log_of past)) in
      sym (frame_sent past at) ∙ (ap (λ (l : List Mark). departure_at l at) same ∙ (plain_at tie.log at ∙ ap (option_map plain) (went_so at frame is).there))

  at_home : (at : ℕ) (frame : Flown) → slice_get (stamped [] tie.log) at ≡ Some frame → frame.heading ≡ Homeward → IsHome past (suc at) frame.node frame.payload
  at_home at frame is heads =
      let went = went_so at frame is in
      ap homeward (at_its_place past at)
      ∙ found_home (slice_get (frames past) at) (plain went.departs) frame.node frame.payload (shown_so at frame is) (went.heading ∙ heads) went.node went.payload

  -- the last frames of the history
  long : length (stamped [] tie.log) ≡ state.sent
  long = length-stamped [] tie.log ∙ sym tie.kept.sent

  few : length state.frames ≡ state.sent - (state.sent - kept state.sent state.landed)
  few = ap length tie.kept.frames ∙ (length-drop (state.sent - kept state.sent state.landed) (stamped [] tie.log) ∙ ap (λ (n : ℕ). n - (state.sent - kept state.sent state.landed)) long)

  at_place : (at place : ℕ) (frame : Flown) → place ≡ (state.sent - kept state.sent state.landed) + at → slice_get state.frames at ≡ Some frame → slice_get (stamped [] tie.log) place ≡ Some frame
  at_place at place frame same is =
      sym (ap (λ (l : List Flown). slice_get l at) tie.kept.frames ∙ slice_get-drop (state.sent - kept state.sent state.landed) (stamped [] tie.log) at place same) ∙ is

  -- the next one to arrive
  pub next_stands : (frame : Flown) → next_of state ≡ Some frame → slice_get (stamped [] tie.log) state.landed ≡ Some frame
  next_stands frame next = by (nat_lt state.landed state.sent) refl next
    where
      by : (b : Bool) → nat_lt state.landed state.sent ≡ b → (if b then slice_get state.frames (state.landed - (state.sent - length state.frames)) else None) ≡ Some frame
          → slice_get (stamped [] tie.log) state.landed ≡ Some frame
      by true below found =
          let flying = ltb-true state.landed state.sent below in
          let count = few in
          let order = tie.kept.order in
          let place : state.landed ≡ (state.sent - kept state.sent state.landed) + (state.landed - (state.sent - length state.frames)) = omega arith in
          at_place (state.landed - (state.sent - length state.frames)) state.landed frame place found
      by false below found = absurd cc

  pub next_home : (frame : Flown) → next_of state ≡ Some frame → frame.heading ≡ Homeward → IsHome past (state.landed + 1) frame.node frame.payload
  next_home frame next heads =
      let number : suc state.landed ≡ state.landed + 1 = omega arith in
      subst (λ (n : ℕ). IsHome past n frame.node frame.payload) number (at_home state.landed frame (next_stands frame next) heads)

  -- one that may be repeated
  pub again_stands : (at : ℕ) (frame : Flown) → remembered state (suc at) ≡ Some frame → slice_get (stamped [] tie.log) at ≡ Some frame
  again_stands at frame is = by (nat_lt 0 (suc at)) (nat_le (suc at) state.sent) (nat_le (state.sent - suc at) 4096) refl refl is
    where
      by : (some sent late : Bool) → nat_le (suc at) state.sent ≡ sent → nat_le (state.sent - suc at) 4096 ≡ late
          → (if some && (sent && late) then slice_get state.frames (length state.frames - (state.sent - suc at) - 1) else None) ≡ Some frame → slice_get (stamped [] tie.log) at ≡ Some frame
      by true true true within recent found =
          let below = leb-true (suc at) state.sent within in
          let near = leb-true (state.sent - suc at) 4096 recent in
          let count = few in
          let order = tie.kept.order in
          let place : at ≡ (state.sent - kept state.sent state.landed) + (length state.frames - (state.sent - suc at) - 1) = omega arith in
          at_place (length state.frames - (state.sent - suc at) - 1) at frame place found
      by false sent late within recent found = absurd cc
      by true false late within recent found = absurd cc
      by true true false within recent found = absurd cc

  pub again_home : (number : ℕ) (frame : Flown) → remembered state number ≡ Some frame → frame.heading ≡ Homeward → IsHome past number frame.node frame.payload
  again_home zero frame is heads = absurd cc
  again_home (suc at) frame is heads = at_home at frame (again_stands at frame is) heads
