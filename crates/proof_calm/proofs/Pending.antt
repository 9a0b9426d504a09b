-- What the chip is given in a tick stands behind what it has for the host: its call ends the payload that it sends.
use Rattle.std.proofs.Common.{◌≡◌, ◌≤◌, ℕ, ◌-◌, ◌==◌, Bool, true, false, if◌then◌else◌, inl, inr, List, [], ◌∷◌, ◌++◌, length, refl, sym, ap, ◌∙◌, subst, arith, append_assoc}
use Rattle.std.proofs.lemmas.List.{length_push}
use Rattle.std.specs.Prelude.{◌⊎◌, Option, Some, None}
use Rattle.zw_base.proofs.Each.{all-append}
use Rattle.host_requests.specs.Next.{is_answered}
use Rattle.proof_calm.specs.Calls.{answer_taken}
use Rattle.serial_frame.specs.Frame.{FrameParts}
use Rattle.serial_link.specs.State.{turn_ticked}
use Rattle.serial_link.specs.declared.turn.Turn.{Turn}
use Rattle.serial_link.specs.declared.turn.Turn.TheVariants.{Idle, Copied, Paused}
use Rattle.route_table.specs.declared.route.Route.{Route}
use Rattle.chip_functions.specs.declared.notice.TransmitStatus.{TransmitStatus}
use Rattle.chip_functions.specs.declared.notice.Notice.TheVariants.{SendData}
use Rattle.chip_sim.specs.Answers.{notice_frame}
use Rattle.chip_sim.specs.Events.{ChipEvent, Heard as chip_hears, Done, Informed, after, ended, update_of}
use Rattle.chip_sim.specs.Requests.{callback_frame}
use Rattle.chip_sim.specs.State.{ChipState}
use Rattle.chip_sim.specs.Waiting.{PortState, is_full, queued, queued_at, served, served_at, ticked}
use Rattle.chip_sim.specs.declared.out.Sending.{Sending}
use Rattle.device_sim.specs.State.{State}
use Rattle.mesh_sim.specs.Steps.{AirStep, mesh_after, mesh_outs}
use Rattle.mesh_sim.specs.declared.event.AirEvent.{AirEvent}
use Rattle.mesh_sim.specs.declared.event.AirEvent.TheVariants as air_event
use Rattle.outside_model.specs.declared.waits.Due.{Due}
use Rattle.outside_model.specs.State.{OuterState, Outside, Outcome, silent, each}
use Rattle.outside_model.specs.Air.{deals, to_chip}
use Rattle.outside_model.specs.Events.{mesh_of, steps}
use Rattle.outside_model.specs.Results.{frame_ends, gives}
use Rattle.proof_work.proofs.Results.{Calls, IsResult, due_goes, end_goes}
use Rattle.std.specs.List.{AllByRecursion}
use Rattle.std.specs.Prelude.{◌&&◌, nat_le}
use Rattle.outside_model.specs.Chip.{chip_does}
use Rattle.proof_serial.proofs.ChipWays.{short_payload}
use Rattle.proof_work.proofs.Times.{does_chip}
use Rattle.proof_calm.specs.Known.{IsMember}
use Rattle.proof_calm.specs.Networks.{Members}
use Rattle.proof_calm.proofs.Links.{deals_members}
use Rattle.proof_calm.specs.Resting.{HasFor, Nothing, First}
use Rattle.proof_calm.specs.Tied.{HasAnswer, on_line, unheard, unheard_by, LeavesIt, Brings, Informs, Ends, Tied, Nowhere, On_way, At_chip, Called}
use Rattle.proof_calm.proofs.Ending.{OfHost}
use Rattle.proof_calm.proofs.Judging.{ends_by, TieBy}

-- ---- the frames of a port

-- that on the line, and those that wait
abbrev pub line_of : PortState → List FrameParts
line_of port = on_line port.side.turn ++ port.waiting

-- nothing waits while the line is free
abbrev pub IsServed : PortState → Type 0
IsServed port = port.side.turn ≡ Idle → port.waiting ≡ []

-- where the chip has frames for the host on a free line, those are all that the host has not judged
pub has_unheard : (ticks : ℕ) (o : OuterState) → HasFor ticks o → unheard o ≡ line_of o.chip.state.port
has_unheard ticks o (Nothing at) =
    ap (λ (bs : List ℕ). unheard_by bs o.chip.state.port) at.down_bytes ∙ sym (ap (λ (t : Turn). on_line t ++ o.chip.state.port.waiting) at.turn_is)
has_unheard ticks o (First frame frames few at) = ap (λ (bs : List ℕ). unheard_by bs o.chip.state.port) at.down_bytes

pub has_served : (ticks : ℕ) (o : OuterState) → HasFor ticks o → IsServed o.chip.state.port
has_served ticks o (Nothing at) = λ idle. at.waiting
has_served ticks o (First frame frames few at) = λ idle. absurd (let no : Copied frame 1 ticks ≡ Idle = sym at.turn_is ∙ idle in cc)

pub has_kept : (ticks : ℕ) (o : OuterState) → HasFor ticks o → o.chip.state.aborted ≡ 0
has_kept ticks o (Nothing at) = at.none_given_up
has_kept ticks o (First frame frames few at) = at.none_given_up

-- a frame more stands behind them
line_at : (t : Turn) (port : PortState) (frame : FrameParts) → port.side.turn ≡ t → IsServed port → is_full port.waiting ≡ false → line_of (queued_at t port frame) ≡ (on_line t ++ port.waiting) ++ frame ∷ []
line_at Idle port frame is free room =
    let none : port.waiting ≡ [] = free is in
    ap (λ (ws : List FrameParts). frame ∷ ws) none ∙ sym (ap (λ (ws : List FrameParts). ws ++ frame ∷ []) none)
line_at (Copied g copies ticks) port frame is free room =
    ap (λ (b : Bool). line_of (if b then port else record { side = port.side; waiting = port.waiting ++ frame ∷ [] })) room ∙ ap (λ (t : Turn). on_line t ++ (port.waiting ++ frame ∷ [])) is
line_at (Paused g copies ticks) port frame is free room =
    ap (λ (b : Bool). line_of (if b then port else record { side = port.side; waiting = port.waiting ++ frame ∷ [] })) room ∙ ap (λ (t : Turn). on_line t ++ (port.waiting ++ frame ∷ [])) is

pub line_more : (port : PortState) (frame : FrameParts) → IsServed port → is_full port.waiting ≡ false → line_of (queued port frame) ≡ line_of port ++ frame ∷ []
line_more port frame free room = line_at port.side.turn port frame refl free room

served_at_turn : (t : Turn) (port : PortState) (frame : FrameParts) → port.side.turn ≡ t → IsServed (queued_at t port frame)
served_at_turn Idle port frame is = λ idle. absurd (let no : Copied frame 1 0 ≡ Idle = idle in cc)
served_at_turn (Copied g copies ticks) port frame is = by (is_full port.waiting)
  where
    by : (b : Bool) → IsServed (if b then port else record { side = port.side; waiting = port.waiting ++ frame ∷ [] })
    by true = λ idle. absurd (let no : Copied g copies ticks ≡ Idle = sym is ∙ idle in cc)
    by false = λ idle. absurd (let no : Copied g copies ticks ≡ Idle = sym is ∙ idle in cc)
served_at_turn (Paused g copies ticks) port frame is = by (is_full port.waiting)
  where
    by : (b : Bool) → IsServed (if b then port else record { side = port.side; waiting = port.waiting ++ frame ∷ [] })
    by true = λ idle. absurd (let no : Paused g copies ticks ≡ Idle = sym is ∙ idle in cc)
    by false = λ idle. absurd (let no : Paused g copies ticks ≡ Idle = sym is ∙ idle in cc)

pub queued_served : (port : PortState) (frame : FrameParts) → IsServed (queued port frame)
queued_served port frame = served_at_turn port.side.turn port frame refl

waits_at : (t : Turn) (port : PortState) (frame : FrameParts) → length port.waiting ≤ length (queued_at t port frame).waiting
waits_at Idle port frame = omega arith
waits_at (Copied g copies ticks) port frame = by (is_full port.waiting)
  where
    by : (b : Bool) → length port.waiting ≤ length (if b then port else record { side = port.side; waiting = port.waiting ++ frame ∷ [] }).waiting
    by true = omega arith
    by false = let one = length_push port.waiting frame in omega (arith, one)
waits_at (Paused g copies ticks) port frame = by (is_full port.waiting)
  where
    by : (b : Bool) → length port.waiting ≤ length (if b then port else record { side = port.side; waiting = port.waiting ++ frame ∷ [] }).waiting
    by true = omega arith
    by false = let one = length_push port.waiting frame in omega (arith, one)

waits_more : (port : PortState) (frame : FrameParts) → length port.waiting ≤ length (queued port frame).waiting
waits_more port frame = waits_at port.side.turn port frame

pub has_room : (waiting : List FrameParts) → length waiting ≤ 31 → is_full waiting ≡ false
has_room waiting few = grind (arith, few)

-- ---- one more for the host

has_before : (pending more : List FrameParts) → HasAnswer pending → HasAnswer (pending ++ more)
has_before [] more has = absurd has
has_before (frame ∷ pending) more (inl is) = inl is
has_before (frame ∷ pending) more (inr has) = inr (has_before pending more has)

pub has_last : (pending : List FrameParts) → HasAnswer (pending ++ answer_taken ∷ [])
has_last [] = inl refl
has_last (frame ∷ pending) = inr (has_last pending)

pub tied_more : (counted : Bool) (e : Ends) (pending asking : List FrameParts) (frame : FrameParts) → LeavesIt e.joined frame → Tied counted e pending asking → Tied counted e (pending ++ frame ∷ []) asking
tied_more counted e pending asking frame leaves (Nowhere is) =
    Nowhere (record { none = is.none; idle = is.idle; leave = all-append (LeavesIt e.joined) pending (frame ∷ []) is.leave (leaves, tt); nothing = is.nothing })
tied_more counted e pending asking frame leaves (On_way u of fresh is) =
    On_way u of fresh (record { idle = is.idle; leave = all-append (LeavesIt e.joined) pending (frame ∷ []) is.leave (leaves, tt); asked = is.asked; asks = is.asks; from = is.from; to = is.to })
tied_more counted e pending asking frame leaves (At_chip u of fresh is) =
    At_chip u of fresh (record { asks = is.asks; is_sending = is.is_sending; answered = answers is.answered; leave = all-append (LeavesIt e.joined) pending (frame ∷ []) is.leave (leaves, tt); nothing = is.nothing })
  where
    answers : (is_answered u.progress ≡ true) ⊎ HasAnswer pending → (is_answered u.progress ≡ true) ⊎ HasAnswer (pending ++ frame ∷ [])
    answers (inl answered) = inl answered
    answers (inr has) = inr (has_before pending (frame ∷ []) has)
tied_more counted e pending asking frame leaves (Called u of fresh is) =
    Called u of fresh (record {
      idle = is.idle;
      before = is.before;
      status = is.status;
      behind = is.behind ++ frame ∷ [];
      are = ap (λ (fs : List FrameParts). fs ++ frame ∷ []) is.are ∙ append_assoc is.before (notice_frame (SendData e.last_id is.status) ∷ is.behind) (frame ∷ []);
      before_leave = is.before_leave;
      behind_leave = all-append (LeavesIt e.joined) is.behind (frame ∷ []) is.behind_leave (leaves, tt);
      nothing = is.nothing;
    })

deals_joined : (devices : List State) (o : OuterState) (event : AirEvent) → (deals devices o event).outer.chip.state.joined ≡ o.chip.state.joined
deals_joined devices o event = ap (λ (m : Members). m.of_chip) (deals_members devices o event)

-- ---- which payloads come to the chip

-- each that does is so
abbrev pub IsFromAs : (ℕ → List ℕ → Type 0) → AirEvent → Type 0
IsFromAs Is (air_event.ToChip frame from payload) = Is from payload
IsFromAs Is event = Unit {0}

-- only those of joined nodes
abbrev pub IsFromOf : List Bool → AirEvent → Type 0
IsFromOf joined = IsFromAs (λ from payload. IsMember joined from)

-- ---- events of the chip in a tick

module _ (k : OfHost) where
  pub record ChipTied (s : ChipState) : Type 0 where
    pub kept_all : s.aborted ≡ 0
    pub is_served : IsServed s.port
    pub tie : TieBy false k s (line_of s.port) []

  -- no fewer frames wait then, and where at most 31 do, the request is where it was, or its call has come
  abbrev Step : ChipState → ChipState → Type 0
  Step s t = (length s.port.waiting ≤ length t.port.waiting) × (length t.port.waiting ≤ 31 → ChipTied s → ChipTied t)

  step_both : (s t r : ChipState) → Step s t → Step t r → Step s r
  step_both s t r first later =
      let one = first.0 in
      let two = later.0 in
      (omega (arith, one, two), λ few tied. later.1 few (first.1 (omega (arith, two, few)) tied))

  same_step : (s t : ChipState) → t ≡ s → Step s t
  same_step s t same = subst (λ (r : ChipState). Step s r) (sym same) (omega arith, λ few tied. tied)

  given_step : (s : ChipState) (frame : FrameParts) → LeavesIt s.joined frame → Step s (record s { port = queued s.port frame })
  given_step s frame leaves = (waits_more s.port frame, leads)
    where
      leads : length (queued s.port frame).waiting ≤ 31 → ChipTied s → ChipTied (record s { port = queued s.port frame })
      leads few tied =
          let more = waits_more s.port frame in
          let room = has_room s.port.waiting (omega (arith, more, few)) in
          record {
            kept_all = tied.kept_all;
            is_served = queued_served s.port frame;
            tie = subst (λ (fs : List FrameParts). TieBy false k s fs []) (sym (line_more s.port frame tied.is_served room))
                (record { paid = tied.tie.paid; tied = tied_more false (ends_by k s) (line_of s.port) [] frame leaves tied.tie.tied });
          }

  -- the payload that it sends has its call
  ended_step : (s : ChipState) (sending : Option Sending) (status : TransmitStatus) → s.sending ≡ sending → Step s (ended sending s status)
  ended_step s None status is = (omega arith, λ few tied. tied)
  ended_step s (Some sent) status is = (waits_more s.port (callback_frame sent status), leads)
    where
      leads : length (queued s.port (callback_frame sent status)).waiting ≤ 31 → ChipTied s → ChipTied (ended (Some sent) s status)
      leads few tied =
          let more = waits_more s.port (callback_frame sent status) in
          let room = has_room s.port.waiting (omega (arith, more, few)) in
          record {
            kept_all = tied.kept_all;
            is_served = queued_served s.port (callback_frame sent status);
            tie = subst (λ (fs : List FrameParts). TieBy false k (ended (Some sent) s status) fs []) (sym (line_more s.port (callback_frame sent status) tied.is_served room))
                (record { paid = tied.tie.paid; tied = by tied.tie.tied });
          }
        where
          by : Tied false (ends_by k s) (line_of s.port) [] → Tied false (ends_by k (ended (Some sent) s status)) (line_of s.port ++ callback_frame sent status ∷ []) []
          by (Nowhere at) = absurd (let no : Some sent ≡ None = sym is ∙ at.idle in cc)
          by (On_way u of fresh at) = absurd (let no : Some sent ≡ None = sym is ∙ at.idle in cc)
          by (Called u of fresh at) = absurd (let no : Some sent ≡ None = sym is ∙ at.idle in cc)
          by (At_chip u of fresh at) =
              let same : sent ≡ record { node = at.asks.node; callback_id = k.3 } = let both : Some sent ≡ Some (record { node = at.asks.node; callback_id = k.3 }) = sym is ∙ at.is_sending in cc in
              Called u (record { under_way = of.under_way; sends = of.sends }) fresh (record {
                idle = refl;
                before = line_of s.port;
                status = status;
                behind = [];
                are = ap (λ (one : Sending). line_of s.port ++ callback_frame one status ∷ []) same;
                before_leave = at.leave;
                behind_leave = tt;
                nothing = refl;
              })

  -- a result comes to it
  event_step : (s : ChipState) (event : ChipEvent) → IsResult event → Step s (after s event)
  event_step s (Informed n profile) result = given_step s _ (Informs (update_of n profile) refl)
  event_step s (Done status) result = by (s.aborted == 0) refl
    where
      by : (b : Bool) → (s.aborted == 0) ≡ b → Step s (if b then ended s.sending s status else record s { aborted = s.aborted - 1 })
      by true is = ended_step s s.sending status refl
      by false is = (omega arith, λ few tied. absurd (let none = tied.kept_all in grind (arith, none, is)))
  event_step s event result = absurd result

  -- ---- outside the chip

  abbrev Leaves : OuterState → Outcome → Type 0
  Leaves o x = Step o.chip.state x.outer.chip.state

  calls : Calls Leaves
  calls = record {
    still = λ o p is. same_step o.chip.state p.chip.state is.chip;
    both = λ o first next one later. step_both o.chip.state first.outer.chip.state (next first.outer).outer.chip.state one (later first.outer);
    later = λ o p x is goes. subst (λ (s : ChipState). Step s x.outer.chip.state) is.chip goes;
    result = λ o event is. subst (λ (t : ChipState). Step o.chip.state t) (sym (does_chip o event)) (event_step o.chip.state event is);
  }

  ends_step : (o : OuterState) (status : ℕ) (dead : Option (ℕ × ℕ)) → Leaves o (frame_ends o status dead)
  ends_step = end_goes Leaves calls (λ o a b. (omega arith, λ few tied. record { kept_all = tied.kept_all; is_served = tied.is_served; tie = tied.tie }))

  -- a payload of a joined node
  hears_step : (o : OuterState) (from : ℕ) (payload : List ℕ) → IsMember o.chip.state.joined from → Leaves o (to_chip o from payload)
  hears_step o from payload member = by (nat_le 1 (length payload) && nat_le (length payload) 46) refl
    where
      by : (b : Bool) → (nat_le 1 (length payload) && nat_le (length payload) 46) ≡ b → Leaves o (if b then chip_does o (chip_hears from payload) else silent o)
      by true short =
          subst (λ (t : ChipState). Step o.chip.state t) (sym (does_chip o (chip_hears from payload))) (given_step o.chip.state _ (Brings from payload member (short_payload payload short).0 refl))
      by false long = same_step o.chip.state o.chip.state refl

  deals_step : (devices : List State) (o : OuterState) (event : AirEvent) → IsFromOf o.chip.state.joined event → Leaves o (deals devices o event)
  deals_step devices o (air_event.ToChip frame from payload) member = hears_step o from payload member
  deals_step devices o (air_event.Done frame status dead) member = ends_step o status dead
  deals_step devices o (air_event.Heard frame) member = same_step o.chip.state o.chip.state refl
  deals_step devices o (air_event.Lost frame) member = same_step o.chip.state o.chip.state refl
  deals_step devices o (air_event.Unheard frame) member = same_step o.chip.state o.chip.state refl
  deals_step devices o (air_event.Sent frame from to route payload) member = same_step o.chip.state o.chip.state refl
  deals_step devices o (air_event.Changed node at) member = same_step o.chip.state o.chip.state refl

  deal_all : (devices : List State) (o : OuterState) (events : List AirEvent) → AllByRecursion (IsFromOf o.chip.state.joined) events → Leaves o (each (deals devices) o events)
  deal_all devices o [] members = same_step o.chip.state o.chip.state refl
  deal_all devices o (event ∷ events) members =
      step_both o.chip.state (deals devices o event).outer.chip.state (each (deals devices) (deals devices o event).outer events).outer.chip.state (deals_step devices o event members.0)
      (deal_all devices (deals devices o event).outer events (subst (λ (joined : List Bool). AllByRecursion (IsFromOf joined) events) (sym (deals_joined devices o event)) members.1))

  -- a frame arrives; a result is given
  pub steps_step : (w : Outside) (step : AirStep) → AllByRecursion (IsFromOf w.outer.chip.state.joined) (mesh_outs (mesh_of w) step) → length (steps w step).outer.chip.state.port.waiting ≤ 31 → ChipTied w.outer.chip.state
      → ChipTied (steps w step).outer.chip.state
  steps_step w step members few tied = (deal_all (mesh_after (mesh_of w) step).devices (record w.outer { air = (mesh_after (mesh_of w) step).air }) (mesh_outs (mesh_of w) step) members).1 few tied

  pub gives_step : (o : OuterState) (devices : List State) (due : List Due) (route : Option Route) → length (gives o devices due route).outer.chip.state.port.waiting ≤ 31 → ChipTied o.chip.state
      → ChipTied (gives o devices due route).outer.chip.state
  gives_step o devices due route few tied = (due_goes Leaves calls o devices due route).1 few tied

-- ---- its link counts

abbrev counted_from : Turn → List FrameParts → ℕ → List FrameParts
counted_from t waiting collisions = line_of (served_at (turn_ticked t) waiting (record { turn = turn_ticked t; collisions = collisions }))

served_few : (t : Turn) (port : PortState) → length (served_at t port.waiting (record { turn = t; collisions = port.side.collisions })).waiting ≤ length port.waiting
served_few t port = by t port.waiting
  where
    by : (u : Turn) (waiting : List FrameParts) → length (served_at u waiting (record { turn = u; collisions = port.side.collisions })).waiting ≤ length waiting
    by Idle [] = omega arith
    by Idle (frame ∷ waiting) = omega arith
    by (Copied f copies ticks) waiting = omega arith
    by (Paused f copies ticks) waiting = omega arith

pub counted_few : (port : PortState) → length (served (ticked port)).waiting ≤ length port.waiting
counted_few port = served_few (turn_ticked port.side.turn) port

pub counted_line : (o : OuterState) → HasFor 0 o → line_of (served (ticked o.chip.state.port)) ≡ line_of o.chip.state.port
counted_line o (Nothing at) =
    ap (λ (t : Turn). counted_from t o.chip.state.port.waiting o.chip.state.port.side.collisions) at.turn_is ∙ ap (λ (ws : List FrameParts). counted_from Idle ws o.chip.state.port.side.collisions) at.waiting
    ∙ sym (ap (λ (t : Turn). on_line t ++ o.chip.state.port.waiting) at.turn_is ∙ at.waiting)
counted_line o (First frame frames few at) =
    ap (λ (t : Turn). counted_from t o.chip.state.port.waiting o.chip.state.port.side.collisions) at.turn_is ∙ sym (ap (λ (t : Turn). on_line t ++ o.chip.state.port.waiting) at.turn_is)
