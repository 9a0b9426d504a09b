-- The host at the line: what its link does at events is what it may, and what is known of both links goes on with them.
use Rattle.std.proofs.Common.{◌≡◌, ℕ, ◌+◌, Bool, true, false, List, [], ◌∷◌, ◌++◌, inr, refl, sym, ap, ap₂, ◌∙◌, subst, append-nil, append_assoc, arith}
use Rattle.std.specs.List.{AllByRecursion, flat_map}
use Rattle.std.proofs.lemmas.Grind.{flat_map-append}
use Rattle.serial_frame.specs.Frame.{FrameParts}
use Rattle.serial_frame.specs.declared.unit.Unit.{Unit as LineUnit}
use Rattle.serial_frame.specs.declared.unit.Unit.TheVariants.{Framed}
use Rattle.serial_link.specs.State.{Side as LinkSide, hear_outs, outs_ticked}
use Rattle.serial_link.specs.Rules.{Step, SideObeys, ticks_of, outs_of, items_of}
use Rattle.serial_link.specs.Calls.{submit_step}
use Rattle.serial_link.proofs.Counting.{ticks_of-append}
use Rattle.chip_sim.specs.Link.{link_unit, link_units}
use Rattle.zw_words.specs.declared.side.Side.{Side}
use Rattle.zw_words.specs.declared.side.Side.TheVariants.{Host}
use Rattle.zw_text.specs.declared.entry.Entry.{Entry}
use Rattle.host_requests.specs.declared.task.Purpose.TheVariants.{Attempt, Abort}
use Rattle.host_requests.specs.Frames.{frame_of}
use Rattle.host_requests.specs.State.{next_id}
use Rattle.proof_world.specs.host_model.State.{HostState}
use Rattle.proof_world.specs.host_model.Events.{HostEvent, Hears, Line_ticks, Submits_abort, Submits_front, Starts, Gives_text, Gives_segment}
use Rattle.proof_world.specs.host_model.After.{after, task_purpose}
use Rattle.proof_world.specs.host_model.May.{May as MayHost}
use Rattle.proof_world.specs.host_model.Outs.{outs}
use Rattle.proof_world.specs.host_model.Did.{after_all, outs_all, MayAll}
use Rattle.law_wire.specs.Links.{MayDo}
use Rattle.proof_world.specs.proof_serial.Line.{host_units}
use Rattle.proof_traffic.specs.Links.{KeepsItsLink, host_link_steps, host_link_steps_all}
use Rattle.proof_line.specs.Links.{KnowsSide, LinkNow, MayGo, MayHear, MayOfHost, TicksNot, gone, stepped}
use Rattle.proof_line.proofs.HostTelling.{units_both}
use Rattle.proof_line.proofs.Tellings.{IsBeside, TellsSome}
use Rattle.proof_line.proofs.LinkTold.{steps_known}
use Rattle.proof_line.proofs.LinkGoes.{may_hear, may_tick, none_go, one_goes, one_heard, one_ticked}

-- ---- one event

host_may_submit : (now : LinkNow) (f : FrameParts) → (now.is_tick ≡ true → ticks_of now.round ≡ 1) → MayDo Host now.is_tick now.round (submit_step f)
host_may_submit now f may = by now.is_tick may
  where
    by : (b : Bool) → (b ≡ true → ticks_of now.round ≡ 1) → MayDo Host b now.round (submit_step f)
    by true may = may refl
    by false may = tt

submit_goes : (now : LinkNow) (f : FrameParts) (new : LinkSide) → SideObeys (now.life ++ submit_step f ∷ []) new → (now.is_tick ≡ true → ticks_of now.round ≡ 1) → MayGo Host now (submit_step f ∷ []) new
submit_goes now f new obeys may = one_goes Host now (submit_step f) new (record { obeys = obeys; may = host_may_submit now f may; none = refl }) (inr (Framed f, refl))

pub host_goes : (h : HostState) (event : HostEvent) (now : LinkNow) → SideObeys (now.life ++ host_link_steps h event) (after h event).side → MayOfHost now event
    → MayGo Host now (host_link_steps h event) (after h event).side
host_goes h (Hears item) now obeys may =
    one_goes Host now _ (after h (Hears item)).side (record { obeys = obeys; may = may_hear Host now item (hear_outs h.side item) may; none = refl }) (one_heard h.side item)
host_goes h Line_ticks now obeys may =
    one_goes Host now _ (after h Line_ticks).side (record { obeys = obeys; may = may_tick Host now (outs_ticked h.side.turn) may.0 may.1; none = refl }) (one_ticked h.side.turn)
host_goes h Submits_abort now obeys may = submit_goes now (frame_of Abort (next_id h.requests.last_id)) (after h Submits_abort).side obeys may
host_goes h Submits_front now obeys may = submit_goes now (frame_of (task_purpose h.requests.queue) (next_id h.requests.last_id)) (after h Submits_front).side obeys may
host_goes h (Starts n plan more payload) now obeys may = submit_goes now (frame_of (Attempt n more payload) (next_id h.requests.last_id)) (after h (Starts n plan more payload)).side obeys may
host_goes h (Gives_text n payload) now obeys may = submit_goes now (frame_of (Attempt n false payload) (next_id h.requests.last_id)) (after h (Gives_text n payload)).side obeys may
host_goes h (Gives_segment n more payload) now obeys may = submit_goes now (frame_of (Attempt n more payload) (next_id h.requests.last_id)) (after h (Gives_segment n more payload)).side obeys may
host_goes h event now obeys may = none_go Host now (after h event).side obeys

-- ---- events one after another

-- only the steps before matter to what a link may do
go_at : (side : Side) (now later : LinkNow) (steps : List Step) (new : LinkSide) → later.is_tick ≡ now.is_tick → later.life ≡ now.life → later.round ≡ now.round → MayGo side later steps new
    → MayGo side now steps new
go_at side now later [] new tick life round go = subst (λ (l : List Step). SideObeys l new) life go
go_at side now later (step ∷ steps) new tick life round (next, may, one, more) = (
  next,
  record {
    obeys = subst (λ (l : List Step). SideObeys (l ++ step ∷ []) next) life may.obeys;
    may = subst (λ (b : Bool). MayDo side b now.round step) tick (subst (λ (l : List Step). MayDo side later.is_tick l step) round may.may);
    none = may.none;
  },
  one,
  go_at side (stepped now step next now.coming) (stepped later step next later.coming) steps new tick (ap (λ (l : List Step). l ++ step ∷ []) life) (ap (λ (l : List Step). l ++ step ∷ []) round) more,
)

pub go_both : (side : Side) (now : LinkNow) (first later : List Step) (mid new : LinkSide) → MayGo side now first mid → MayGo side (gone now first mid now.coming) later new → MayGo side now (first ++ later) new
go_both side now [] later mid new go more = go_at side now (gone now [] mid now.coming) later new refl (append-nil now.life) (append-nil now.round) more
go_both side now (step ∷ first) later mid new (next, may, one, go) more = (
  next,
  may,
  one,
  go_both side (stepped now step next now.coming) first later mid new go
      (go_at side (gone (stepped now step next now.coming) first mid now.coming) (gone now (step ∷ first) mid now.coming) later new refl (sym (append_assoc now.life (step ∷ []) first))
      (sym (append_assoc now.round (step ∷ []) first)) more),
)

quiet_steps : (h : HostState) (event : HostEvent) → TicksNot event → ticks_of (host_link_steps h event) ≡ 0
quiet_steps h Line_ticks apart = absurd apart
quiet_steps h (Hears item) apart = refl
quiet_steps h event apart = refl

pub all_quiet : (events : List HostEvent) (h : HostState) → AllByRecursion TicksNot events → ticks_of (host_link_steps_all h events) ≡ 0
all_quiet [] h apart = refl
all_quiet (event ∷ events) h apart =
    let here : ticks_of (host_link_steps h event) ≡ 0 = quiet_steps h event apart.0 in
    let rest : ticks_of (host_link_steps_all (after h event) events) ≡ 0 = all_quiet events (after h event) apart.1 in
    let both : ticks_of (host_link_steps_all h (event ∷ events)) ≡ ticks_of (host_link_steps h event) + ticks_of (host_link_steps_all (after h event) events)
    = ticks_of-append (host_link_steps h event) (host_link_steps_all (after h event) events) in
    omega (arith, here, rest, both)

may_of : (now : LinkNow) (event : HostEvent) → TicksNot event → (now.is_tick ≡ true → ticks_of now.round ≡ 1) → MayOfHost now event
may_of now Line_ticks apart may = absurd apart
may_of now event apart may = may

-- as the host obeys at each event
module _ (each : (h : HostState) (event : HostEvent) (steps : List Step) → KeepsItsLink steps h → MayHost h event → KeepsItsLink (steps ++ host_link_steps h event) (after h event))
    (units : (h : HostState) (event : HostEvent) → h.side.collisions ≡ 0 → host_units (outs h event) ≡ link_units (host_link_steps h event)) where
  pub all_go : (events : List HostEvent) (h : HostState) (now : LinkNow) → KeepsItsLink now.life h → MayAll h events → AllByRecursion TicksNot events
      → (now.is_tick ≡ true → ticks_of now.round ≡ 1) → MayGo Host now (host_link_steps_all h events) (after_all h events).side
  all_go [] h now keeps may quiet once = keeps.obeys
  all_go (event ∷ events) h now keeps may quiet once =
      let steps : List Step = host_link_steps h event in
      let later : HostState = after h event in
      let kept = each h event now.life keeps may.0 in
      let next : LinkNow = gone now steps later.side now.coming in
      let none : ticks_of steps ≡ 0 = quiet_steps h event quiet.0 in
      let count : ticks_of (now.round ++ steps) ≡ ticks_of now.round + ticks_of steps = ticks_of-append now.round steps in
      let same : ticks_of next.round ≡ ticks_of now.round = omega (arith, none, count) in
      go_both Host now steps (host_link_steps_all later events) later.side (after_all later events).side (host_goes h event now kept.obeys (may_of now event quiet.0 once))
      (all_go events later next kept may.1 quiet.1 (λ tick. same ∙ once tick))

  pub all_units : (events : List HostEvent) (h : HostState) (steps : List Step) → KeepsItsLink steps h → MayAll h events → host_units (outs_all h events) ≡ link_units (host_link_steps_all h events)
  all_units [] h steps keeps may = refl
  all_units (event ∷ events) h steps keeps may =
      let kept = each h event steps keeps may.0 in
      units_both (outs h event) (outs_all (after h event) events)
      ∙ ap₂ (λ (a b : List LineUnit). a ++ b) (units h event keeps.asked_none) (all_units events (after h event) (steps ++ host_link_steps h event) kept may.1)
      ∙ sym (ap (λ (l : List _). flat_map link_unit l) (flat_map-append (λ (s : Step). s.outs) (host_link_steps h event) (host_link_steps_all (after h event) events))
      ∙ flat_map-append link_unit (outs_of (host_link_steps h event)) (outs_of (host_link_steps_all (after h event) events)))

  pub all_keep : (events : List HostEvent) (h : HostState) (steps : List Step) → KeepsItsLink steps h → MayAll h events → KeepsItsLink (steps ++ host_link_steps_all h events) (after_all h events)
  all_keep [] h steps keeps may = subst (λ (l : List Step). KeepsItsLink l h) (sym (append-nil steps)) keeps
  all_keep (event ∷ events) h steps keeps may =
      subst (λ (l : List Step). KeepsItsLink l (after_all (after h event) events)) (append_assoc steps (host_link_steps h event) (host_link_steps_all (after h event) events))
      (all_keep events (after h event) (steps ++ host_link_steps h event) (each h event steps keeps may.0) may.1)

  -- events that are no tick of the line, with what is told of them
  pub host_known : {piped : Bool} (events : List HostEvent) (h : HostState) (past : List Entry) (now : LinkNow) (left : List (List ℕ)) (told : List Entry) → KnowsSide piped Host past now
      → KeepsItsLink now.life h → MayAll h events → AllByRecursion TicksNot events → (now.is_tick ≡ true → ticks_of now.round ≡ 1) → MayHear now (items_of (host_link_steps_all h events)) left
      → TellsSome IsBeside Host (host_units (outs_all h events)) told → KnowsSide piped Host (past ++ told) (gone now (host_link_steps_all h events) (after_all h events).side left)
  host_known events h past now left told knows keeps may quiet once hears tells =
      steps_known (host_link_steps_all h events) Host past now (after_all h events).side left told knows (all_go events h now keeps may quiet once) hears
      (subst (λ (l : List LineUnit). TellsSome IsBeside Host l told) (all_units events h now.life keeps may) tells)

  -- a tick of the line
  pub host_tick_known : {piped : Bool} (h : HostState) (past : List Entry) (now : LinkNow) (told : List Entry) → KnowsSide piped Host past now → KeepsItsLink now.life h → MayHost h Line_ticks
      → now.is_tick ≡ true → ticks_of now.round ≡ 0 → TellsSome IsBeside Host (host_units (outs h Line_ticks)) told
      → KnowsSide piped Host (past ++ told) (gone now (host_link_steps h Line_ticks) (after h Line_ticks).side now.coming)
  host_tick_known h past now told knows keeps may tick none tells =
      steps_known (host_link_steps h Line_ticks) Host past now (after h Line_ticks).side now.coming told knows
      (host_goes h Line_ticks now (each h Line_ticks now.life keeps may).obeys (tick, none)) (refl, λ stalls. refl)
      (subst (λ (l : List LineUnit). TellsSome IsBeside Host l told) (units h Line_ticks keeps.asked_none) tells)
