-- What host and chip do at an event are steps that their links may do: each writes at most one unit, and comes where its side may.
use Rattle.std.proofs.Common.{◌≡◌, ℕ, ◌+◌, ◌==◌, Bool, true, false, if◌then◌else◌, List, [], ◌∷◌, ◌++◌, length, map, inl, inr, refl, sym, ap, ap₂, ◌∙◌, subst, append-nil, append_assoc, arith}
use Rattle.std.specs.Prelude.{Option, Some, None, nat_lt}
use Rattle.std.specs.List.{flat_map}
use Rattle.std.proofs.lemmas.Grind.{flat_map-append}
use Rattle.serial_frame.specs.Frame.{FrameParts}
use Rattle.serial_frame.specs.declared.unit.Unit.{Unit as LineUnit}
use Rattle.serial_frame.specs.declared.unit.Unit.TheVariants.{Ack, Nak, Can, Framed}
use Rattle.serial_frame.specs.declared.item.Item.{Item}
use Rattle.serial_frame.specs.declared.item.Item.TheVariants.{Good, Refused}
use Rattle.serial_frame.specs.declared.item.Refusal.TheVariants.{Stray, BadLength, BadSum, BadKind, Aborted}
use Rattle.serial_link.specs.State.{Side as LinkSide, answer, hear, hear_outs, outs_ended, outs_heard, outs_ticked, pause_after, tick_side, turn_ended, turn_ticked}
use Rattle.serial_link.specs.Rules.{Step, SideObeys, heard as hears, ticked as ticks, asked as asks_collision, submitted, tick_count, ticks_of}
use Rattle.serial_link.specs.Calls.{submit_step, tick_step}
use Rattle.serial_link.specs.declared.turn.Turn.{Turn}
use Rattle.serial_link.specs.declared.turn.Turn.TheVariants.{Idle, Copied, Paused}
use Rattle.serial_link.specs.declared.out.LinkOut.{LinkOut}
use Rattle.serial_link.specs.declared.out.LinkOut.TheVariants.{Write, Failed}
use Rattle.serial_link.proofs.RulesKept.{side_hears_all, side_ticks_after}
use Rattle.chip_sim.specs.Link.{link_unit, link_steps, link_event}
use Rattle.chip_sim.specs.Waiting.{next_at, ticked}
use Rattle.chip_sim.specs.State.{ChipState}
use Rattle.chip_sim.specs.Events.{ChipEvent, Judged, Ticked, Heard, Done, Informed, Joined, Linked, Forgets, Collides, after, collides, update_of}
use Rattle.chip_sim.specs.Rules.{WaitsWell, WaitsWhileBusy, begun_at, begun_posts, ended_posts, judged_begun, listed}
use Rattle.chip_functions.specs.declared.notice.Notice.TheVariants.{ApplicationCommandHandler, ApplicationUpdate}
use Rattle.chip_functions.specs.declared.notice.TransmitStatus.{TransmitStatus}
use Rattle.chip_sim.specs.Answers.{notice_frame}
use Rattle.chip_sim.specs.Requests.{asked, callback_frame, passed, reply_if, heard as judges}
use Rattle.chip_sim.specs.declared.out.Sending.{Sending}
use Rattle.chip_sim.proofs.Links.{obeys_event, units_own as none_heard}
use Rattle.zw_words.specs.declared.side.Side.{Side}
use Rattle.zw_words.specs.declared.side.Side.TheVariants.{Host, Chip}
use Rattle.law_wire.specs.Links.{MayDo, MayDoInTick, end_quietly, is_quiet_tick}
use Rattle.proof_line.specs.Links.{IsOne, LinkNow, MayGo, MayOfChip, MayStep, stepped}

-- ---- each step writes at most one unit

none_ended : (copies : ℕ) → flat_map link_unit (outs_ended copies) ≡ []
none_ended copies = by (copies == 4)
  where
    by : (b : Bool) → flat_map link_unit (if b then outs_ended 4 else []) ≡ []
    by true = refl
    by false = refl

one_answer : (collision : Bool) (item : Item) → IsOne (flat_map link_unit (answer collision item))
one_answer collision (Good Ack) = inl refl
one_answer collision (Good Nak) = inl refl
one_answer collision (Good Can) = inl refl
one_answer true (Good (Framed f)) = inr (Can, refl)
one_answer false (Good (Framed f)) = inr (Ack, refl)
one_answer collision (Refused (Stray x)) = inl refl
one_answer collision (Refused (BadLength n)) = inl refl
one_answer collision (Refused (BadSum want got)) = inr (Nak, refl)
one_answer collision (Refused (BadKind x)) = inr (Nak, refl)
one_answer collision (Refused Aborted) = inl refl

pub one_heard : (side : LinkSide) (item : Item) → IsOne (flat_map link_unit (hear_outs side item))
one_heard side item =
    let here : List LinkOut = answer (nat_lt 0 side.collisions) item in
    subst IsOne
    (sym (flat_map-append link_unit here (outs_heard side.turn item) ∙ ap (λ (l : List LineUnit). flat_map link_unit here ++ l) (none_heard side.turn item) ∙ append-nil (flat_map link_unit here)))
    (one_answer (nat_lt 0 side.collisions) item)

pub one_ticked : (turn : Turn) → IsOne (flat_map link_unit (outs_ticked turn))
one_ticked Idle = inl refl
one_ticked (Copied f copies count) = by (count == 14)
  where
    by : (b : Bool) → IsOne (flat_map link_unit (if b then outs_ended copies else []))
    by true = inl (none_ended copies)
    by false = inl refl
one_ticked (Paused f copies count) = by (count + 1 == pause_after copies)
  where
    by : (b : Bool) → IsOne (flat_map link_unit (if b then Write (Framed f) ∷ [] else []))
    by true = inr (Framed f, refl)
    by false = inl refl

-- ---- few steps

pub none_go : (side : Side) (now : LinkNow) (new : LinkSide) → SideObeys (now.life ++ []) new → MayGo side now [] new
none_go side now new obeys = subst (λ (l : List Step). SideObeys l new) (append-nil now.life) obeys

pub one_goes : (side : Side) (now : LinkNow) (step : Step) (new : LinkSide) → MayStep side now step new → IsOne (flat_map link_unit step.outs) → MayGo side now (step ∷ []) new
one_goes side now step new may one = (new, may, one, may.obeys)

-- a frame that is submitted, if one is
submits_go : (side : Side) (now : LinkNow) (frame : Option FrameParts) (new : LinkSide) → SideObeys (now.life ++ map (λ (f : FrameParts). submit_step f) (listed frame)) new
    → ((f : FrameParts) → frame ≡ Some f → MayDo side now.is_tick now.round (submit_step f)) → MayGo side now (map (λ (f : FrameParts). submit_step f) (listed frame)) new
submits_go side now None new obeys may = none_go side now new obeys
submits_go side now (Some f) new obeys may = one_goes side now (submit_step f) new (record { obeys = obeys; may = may f refl; none = refl }) (inr (Framed f, refl))

-- ---- where a side may do its steps

-- before its own tick a round has none, and ends with none
quiet_before : (steps : List Step) → ticks_of steps ≡ 0 → end_quietly steps ≡ false
quiet_before [] none = refl
quiet_before (step ∷ []) none = by step step.event refl none
  where
    by : (s : Step) (e : _) → s.event ≡ e → ticks_of (s ∷ []) ≡ 0 → is_quiet_tick s s.event ≡ false
    by s (hears item) is none = ap (λ (e : _). is_quiet_tick s e) is
    by s ticks is none = absurd (let one : ticks_of (s ∷ []) ≡ 1 = ap (λ (e : _). tick_count e + 0) is in omega (arith, one, none))
    by s (submitted f) is none = ap (λ (e : _). is_quiet_tick s e) is
    by s asks_collision is none = ap (λ (e : _). is_quiet_tick s e) is
quiet_before (step ∷ next ∷ steps) none = quiet_before (next ∷ steps) (omega (arith, none))

-- a step that is heard, or a tick with which something was put out, ends no round quietly
pub ends_with : (before : List Step) (step : Step) → end_quietly (before ++ step ∷ []) ≡ is_quiet_tick step step.event
ends_with [] step = refl
ends_with (first ∷ []) step = refl
ends_with (first ∷ next ∷ before) step = ends_with (next ∷ before) step

-- a frame that the chip is given, in a line or before its tick
pub chip_may_submit : (now : LinkNow) (f : FrameParts) → (now.is_tick ≡ true → end_quietly now.round ≡ false) → MayDo Chip now.is_tick now.round (submit_step f)
chip_may_submit now f may = by now.is_tick may
  where
    by : (b : Bool) → (b ≡ true → end_quietly now.round ≡ false) → MayDo Chip b now.round (submit_step f)
    by true may = may refl
    by false may = tt

pub may_hear : (side : Side) (now : LinkNow) (item : Item) (outs : List LinkOut) → (now.is_tick ≡ true → ticks_of now.round ≡ 1) → MayDo side now.is_tick now.round (record { event = hears item; outs = outs })
may_hear side now item outs may = by now.is_tick may
  where
    in_tick : (side : Side) → ticks_of now.round ≡ 1 → MayDoInTick side now.round (hears item)
    in_tick Host once = once
    in_tick Chip once = once

    by : (b : Bool) → (b ≡ true → ticks_of now.round ≡ 1) → MayDo side b now.round (record { event = hears item; outs = outs })
    by true may = in_tick side (may refl)
    by false may = tt

-- ---- the chip

-- an event submits at most one frame
begun_listed : (turn : Turn) (o : Option FrameParts) → (frame : Option FrameParts) × (begun_posts turn (listed o) ≡ listed frame)
begun_listed Idle o = (o, refl)
begun_listed (Copied f copies count) o = (None, refl)
begun_listed (Paused f copies count) o = (None, refl)

done_listed : (turn : Turn) (b : Bool) (sending : Option Sending) (status : TransmitStatus)
    → (frame : Option FrameParts) × (begun_posts turn (if b then ended_posts sending status else []) ≡ listed frame)
done_listed turn false sending status = begun_listed turn None
done_listed turn true None status = begun_listed turn None
done_listed turn true (Some sending) status = begun_listed turn (Some (callback_frame sending status))

judged_listed : (f : Option FrameParts) (s : ChipState) → (frame : Option FrameParts) × (judged_begun f s ≡ listed frame)
judged_listed None s = (next_at s.port.side.turn s.port.waiting, refl)
judged_listed (Some f) s = begun_listed s.port.side.turn (reply_if s (asked f))

begun_one : (s : ChipState) (e : ChipEvent) → (frame : Option FrameParts) × (begun_at s e ≡ listed frame)
begun_one s (Judged item way) = judged_listed (passed (collides s) item) (judges s item)
begun_one s Ticked = (next_at (ticked s.port).side.turn s.port.waiting, refl)
begun_one s (Heard n payload) = begun_listed s.port.side.turn (Some (notice_frame (ApplicationCommandHandler 0 n payload)))
begun_one s (Done status) = done_listed s.port.side.turn (s.aborted == 0) s.sending status
begun_one s (Informed n profile) = begun_listed s.port.side.turn (Some (notice_frame (ApplicationUpdate (update_of n profile))))
begun_one s (Joined n listening) = (None, refl)
begun_one s (Linked a b live) = (None, refl)
begun_one s (Forgets a b) = (None, refl)
begun_one s Collides = (None, refl)

-- only the frame, if one is submitted
given_go : (s : ChipState) (e : ChipEvent) (now : LinkNow) → link_event s e ≡ [] → SideObeys now.life s.port.side → (now.is_tick ≡ true → ticks_of now.round ≡ 0)
    → MayGo Chip now (link_steps s e) (after s e).port.side
given_go s e now none obeys may =
    let begun = begun_one s e in
    let is : link_steps s e ≡ map (λ (f : FrameParts). submit_step f) (listed begun.0)
    = ap₂ (λ (a : List Step) (l : List FrameParts). a ++ map (λ (f : FrameParts). submit_step f) l) none begun.1 in
    subst (λ (l : List Step). MayGo Chip now l (after s e).port.side) (sym is)
    (submits_go Chip now begun.0 (after s e).port.side (subst (λ (l : List Step). SideObeys (now.life ++ l) (after s e).port.side) is (obeys_event s e now.life obeys))
    (λ f some. chip_may_submit now f (λ tick. quiet_before now.round (may tick))))

-- a step, and then the frame
first_go : (s : ChipState) (e : ChipEvent) (now : LinkNow) (step : Step) (mid : LinkSide) → link_event s e ≡ step ∷ [] → SideObeys now.life s.port.side → MayStep Chip now step mid
    → IsOne (flat_map link_unit step.outs) → ((f : FrameParts) → begun_at s e ≡ f ∷ [] → is_quiet_tick step step.event ≡ false) → MayGo Chip now (link_steps s e) (after s e).port.side
first_go s e now step mid first obeys may one loud =
    let begun = begun_one s e in
    let submits : List Step = map (λ (f : FrameParts). submit_step f) (listed begun.0) in
    let is : link_steps s e ≡ step ∷ submits = ap₂ (λ (a : List Step) (l : List FrameParts). a ++ map (λ (f : FrameParts). submit_step f) l) first begun.1 in
    let next : LinkNow = stepped now step mid now.coming in
    subst (λ (l : List Step). MayGo Chip now l (after s e).port.side) (sym is) (
      mid,
      may,
      one,
      submits_go Chip next begun.0 (after s e).port.side
          (subst (λ (l : List Step). SideObeys l (after s e).port.side) (sym (append_assoc now.life (step ∷ []) submits))
          (subst (λ (l : List Step). SideObeys (now.life ++ l) (after s e).port.side) is (obeys_event s e now.life obeys)))
          (λ f some. chip_may_submit next f (λ tick. ends_with now.round step ∙ loud f (begun.1 ∙ ap (λ (o : Option FrameParts). listed o) some))),
    )

-- a tick after which a waiting frame is submitted has put out that the one before it failed
tick_shows : (turn : Turn) (waiting : List FrameParts) (f : FrameParts) → WaitsWhileBusy turn waiting → listed (next_at (turn_ticked turn) waiting) ≡ f ∷ [] → (length (outs_ticked turn) == 0) ≡ false
tick_shows Idle waiting f none some = absurd (let is : [] ≡ f ∷ [] = sym (ap (λ (l : List FrameParts). listed (next_at Idle l)) none) ∙ some in cc)
tick_shows (Copied g copies count) waiting f busy some = by (count == 14) some
  where
    ended : (c : Bool) → listed (next_at (if c then Idle else Paused g copies 0) waiting) ≡ f ∷ [] → (length (if c then Failed 4 ∷ [] else []) == 0) ≡ false
    ended true some = refl
    ended false some = absurd (let is : [] ≡ f ∷ [] = some in cc)

    by : (b : Bool) → listed (next_at (if b then turn_ended g copies else Copied g copies (count + 1)) waiting) ≡ f ∷ [] → (length (if b then outs_ended copies else []) == 0) ≡ false
    by true some = ended (copies == 4) some
    by false some = absurd (let is : [] ≡ f ∷ [] = some in cc)
tick_shows (Paused g copies count) waiting f busy some = absurd (by (count + 1 == pause_after copies) some)
  where
    by : (b : Bool) → listed (next_at (if b then Copied g (copies + 1) 0 else Paused g copies (count + 1)) waiting) ≡ f ∷ [] → ⊥
    by true some = let is : [] ≡ f ∷ [] = some in cc
    by false some = let is : [] ≡ f ∷ [] = some in cc

pub may_tick : (side : Side) (now : LinkNow) (outs : List LinkOut) → now.is_tick ≡ true → ticks_of now.round ≡ 0 → MayDo side now.is_tick now.round (record { event = ticks; outs = outs })
may_tick side now outs tick none = subst (λ (b : Bool). MayDo side b now.round (record { event = ticks; outs = outs })) (sym tick) (by side)
  where
    by : (side : Side) → MayDoInTick side now.round ticks
    by Host = none
    by Chip = none

pub chip_goes : (s : ChipState) (e : ChipEvent) (now : LinkNow) → SideObeys now.life s.port.side → WaitsWell s.port → MayOfChip now e → MayGo Chip now (link_steps s e) (after s e).port.side
chip_goes s (Judged item way) now obeys waits may =
    let step : Step = record { event = hears item; outs = hear_outs s.port.side item } in
    first_go s (Judged item way) now step (hear s.port.side item) refl obeys
    (record { obeys = side_hears_all now.life s.port.side (item ∷ []) obeys; may = may_hear Chip now item (hear_outs s.port.side item) may; none = refl })
    (one_heard s.port.side item) (λ f some. refl)
chip_goes s Ticked now obeys waits may =
    first_go s Ticked now (tick_step s.port.side) (tick_side s.port.side) refl obeys
    (record { obeys = side_ticks_after now.life s.port.side [] obeys; may = may_tick Chip now (outs_ticked s.port.side.turn) may.0 may.1; none = refl })
    (one_ticked s.port.side.turn) (λ f some. tick_shows s.port.side.turn s.port.waiting f waits.busy some)
chip_goes s (Heard n payload) now obeys waits may = given_go s (Heard n payload) now refl obeys may
chip_goes s (Done status) now obeys waits may = given_go s (Done status) now refl obeys may
chip_goes s (Informed n profile) now obeys waits may = given_go s (Informed n profile) now refl obeys may
chip_goes s (Joined n listening) now obeys waits may = given_go s (Joined n listening) now refl obeys may
chip_goes s (Linked a b live) now obeys waits may = given_go s (Linked a b live) now refl obeys may
chip_goes s (Forgets a b) now obeys waits may = given_go s (Forgets a b) now refl obeys may
chip_goes s Collides now obeys waits may = absurd may
