-- The chip at the line: what is known of both links goes on with its events, and with all items that it judges, one after another.
use Rattle.std.proofs.Common.{length, take, Bool, false, nat_lt, ◌≡◌, ℕ, ◌+◌, true, List, [], ◌∷◌, ◌++◌, map, refl, sym, ap, ◌∙◌, subst, append-nil, append_assoc, arith}
use Rattle.std.specs.Prelude.{Option}
use Rattle.std.specs.List.{AllByRecursion}
use Rattle.zw_base.proofs.Each.{all-append}
use Rattle.serial_frame.specs.Frame.{FrameParts}
use Rattle.serial_frame.specs.declared.unit.Unit.{Unit as LineUnit}
use Rattle.serial_frame.specs.declared.item.Item.{Item}
use Rattle.serial_link.specs.State.{Side as LinkSide}
use Rattle.serial_link.specs.Rules.{Step, SideObeys, items_of, ticks_of}
use Rattle.serial_link.specs.Calls.{submit_step}
use Rattle.serial_link.proofs.Counting.{ticks_of-append}
use Rattle.route_table.specs.declared.route.Route.{Route}
use Rattle.chip_sim.specs.Link.{chip_units, link_steps, link_units}
use Rattle.chip_sim.specs.State.{ChipState}
use Rattle.chip_sim.specs.Events.{ChipEvent, Judged, after, outs}
use Rattle.chip_sim.specs.Did.{after_all, judged_all}
use Rattle.chip_sim.specs.Rules.{WaitsWell, begun_at, over}
use Rattle.chip_sim.proofs.Histories.{well_all}
use Rattle.chip_sim.proofs.Links.{units_event}
use Rattle.zw_words.specs.declared.side.Side.{Side}
use Rattle.zw_words.specs.declared.side.Side.TheVariants.{Host, Chip}
use Rattle.zw_text.specs.declared.entry.Entry.{Entry}
use Rattle.law_wire.specs.Serial.{SerialEvent}
use Rattle.proof_walk.specs.outside_model.State.{OuterState, Outcome, each}
use Rattle.serial_frame.specs.Stream.{Rest, Feeds, no_rest}
use Rattle.serial_pipes.specs.Events.{Takes}
use Rattle.serial_pipes.specs.Events as way
use Rattle.proof_walk.specs.outside_model.Chip.{chip_does, chip_takes, MayTake}
use Rattle.proof_walk.proofs.Times.{does_chip}
use Rattle.proof_line.specs.Links.{Brings, IsMute, KnowsEvents, KnowsLink, LinkNow, MayHear, MayOfChip, gone, with_arriving}
use Rattle.proof_line.proofs.Tellings.{IsBeside, Tells, TellsSome, tells_none, tells_some}
use Rattle.proof_line.proofs.ChipTelling.{does_tell}
use Rattle.proof_line.proofs.LinkTold.{arriving_all, brings_taken, others_known, steps_known, takes_split}
use Rattle.proof_walk.proofs.Moving.{both_none as none_first}
use Rattle.proof_line.proofs.LinkGoes.{chip_goes}
use Rattle.proof_line.proofs.LinkCourse.{mute_of}

pub obeyed : {piped : Bool} (side : Side) (events : List SerialEvent) (now : LinkNow) → KnowsEvents piped side events now → SideObeys now.life now.link
obeyed side events now knows = subst (λ (l : List Step). SideObeys l now.link) knows.at.life knows.does.obeys

-- ---- one event

-- of its own link
pub chip_event_known : (o : OuterState) (e : ChipEvent) (past : List Entry) (now : LinkNow) (left : List (List ℕ)) → KnowsLink Chip past now → now.link ≡ o.chip.state.port.side
    → WaitsWell o.chip.state.port → MayOfChip now e → MayHear now (items_of (link_steps o.chip.state e)) left
    → KnowsLink Chip (past ++ (chip_does o e).entries) (gone now (link_steps o.chip.state e) (after o.chip.state e).port.side left)
chip_event_known o e past now left knows link waits may hears =
    let s : ChipState = o.chip.state in
    steps_known (link_steps s e) Chip past now (after s e).port.side left (chip_does o e).entries knows
    (chip_goes s e now (subst (λ (l : LinkSide). SideObeys now.life l) link (obeyed Chip _ now knows)) waits may) hears
    (subst (λ (l : List LineUnit). TellsSome IsBeside Chip l (chip_does o e).entries) (units_event s e)
    (tells_some IsBeside Chip o.to_host (chip_units (outs s e)) (chip_does o e).entries (does_tell o e).told))

-- and of the host's: what arrives of the units that the chip writes
pub chip_event_arrives : (o : OuterState) (e : ChipEvent) (past : List Entry) (now : LinkNow) → Brings o.to_host now.coming → KnowsLink Host past now
    → KnowsLink Host (past ++ (chip_does o e).entries) (with_arriving now (arriving_all Chip o.to_host (chip_units (outs o.chip.state e))))
chip_event_arrives o e past now way knows = others_known (chip_units (outs o.chip.state e)) Host past now o.to_host (chip_does o e).entries way.bytes knows (does_tell o e).told

-- where nothing is told nothing was written
pub does_mute : (o : OuterState) (e : ChipEvent) → (chip_does o e).entries ≡ [] → AllByRecursion IsMute (link_steps o.chip.state e)
does_mute o e none =
    mute_of (link_steps o.chip.state e)
    (tells_none IsBeside Chip o.to_host (link_units (link_steps o.chip.state e))
    (subst (λ (l : List Entry). Tells IsBeside Chip o.to_host (link_units (link_steps o.chip.state e)) l) none
    (subst (λ (l : List LineUnit). Tells IsBeside Chip o.to_host l (chip_does o e).entries) (units_event o.chip.state e) (does_tell o e).told)))

pub judged_mute : (ways : List (Item × Option Route)) (o : OuterState) → (each chip_does o (judged_all ways)).entries ≡ [] → AllByRecursion IsMute (over link_steps o.chip.state (judged_all ways))
judged_mute [] o none = tt
judged_mute (way ∷ ways) o none =
    let e : ChipEvent = Judged way.0 way.1 in
    let one : Outcome = chip_does o e in
    let both = none_first one.entries (each chip_does one.outer (judged_all ways)).entries none in
    all-append IsMute (link_steps o.chip.state e) (over link_steps (after o.chip.state e) (judged_all ways)) (does_mute o e both.0)
    (subst (λ (t : ChipState). AllByRecursion IsMute (over link_steps t (judged_all ways))) (does_chip o e) (judged_mute ways one.outer both.1))

-- ---- items that are judged, one after another

pub submits_hear_none : (frames : List FrameParts) → items_of (map (λ (f : FrameParts). submit_step f) frames) ≡ []
submits_hear_none [] = refl
submits_hear_none (f ∷ frames) = submits_hear_none frames

pub submits_tick_none : (frames : List FrameParts) → ticks_of (map (λ (f : FrameParts). submit_step f) frames) ≡ 0
submits_tick_none [] = refl
submits_tick_none (f ∷ frames) = let rest = submits_tick_none frames in omega (arith, rest)

-- the round goes on with no tick of the side
pub record StaysInRound (old new : LinkNow) : Type 0 where
  pub is_tick : new.is_tick ≡ old.is_tick
  pub brought : new.brought ≡ old.brought
  pub clock : new.clock ≡ old.clock
  pub until : new.until ≡ old.until
  pub lost : new.lost ≡ old.lost
  pub ticks : ticks_of new.round ≡ ticks_of old.round
  pub starts : new.starts ≡ old.starts

-- with these steps this is left on its way, and the link is that of the chip
pub record Judges (steps : List Step) (past : List Entry) (now : LinkNow) (side : LinkSide) (rest : List (List ℕ)) : Type 0 where
  pub later : LinkNow
  pub life : later.life ≡ now.life ++ steps
  pub knows : KnowsLink Chip past later
  pub link : later.link ≡ side
  pub left : later.coming ≡ rest
  pub stays : StaysInRound now later

pub chip_judges_known : (ways : List (Item × Option Route)) (o : OuterState) (past : List Entry) (now : LinkNow) (left : List (List ℕ)) → KnowsLink Chip past now → now.link ≡ o.chip.state.port.side
    → WaitsWell o.chip.state.port → (now.is_tick ≡ true → ticks_of now.round ≡ 1) → MayHear now (map (λ (w : Item × Option Route). w.0) ways) left
    → Judges (over link_steps o.chip.state (judged_all ways)) (past ++ (each chip_does o (judged_all ways)).entries) now (after_all o.chip.state (judged_all ways)).port.side left
chip_judges_known [] o past now left knows link waits may hears = record {
  later = now;
  life = sym (append-nil now.life);
  knows = subst (λ (l : List Entry). KnowsLink Chip l now) (sym (append-nil past)) knows;
  link = link;
  left = hears.0;
  stays = record { is_tick = refl; brought = refl; clock = refl; until = refl; lost = refl; ticks = refl; starts = refl };
}
chip_judges_known (way ∷ ways) o past now left knows link waits may hears =
    let s : ChipState = o.chip.state in
    let e : ChipEvent = Judged way.0 way.1 in
    let one : Outcome = chip_does o e in
    let steps : List Step = link_steps s e in
    let rest_items : List Item = map (λ (w : Item × Option Route). w.0) ways in
    let (mid, takes, more) = takes_split (way.0 ∷ []) rest_items now.coming left hears.0 in
    let heard : items_of steps ≡ way.0 ∷ [] = ap (λ (l : List Item). way.0 ∷ l) (submits_hear_none (begun_at s e)) in
    let next : LinkNow = gone now steps (after s e).port.side mid in
    let first : KnowsLink Chip (past ++ one.entries) next =
    chip_event_known o e past now mid knows link waits may
    (subst (λ (l : List Item). MayHear now l mid) (sym heard) (takes, λ stalls. (none_first (way.0 ∷ []) rest_items (hears.1 stalls)).0)) in
    let quiet : ticks_of steps ≡ 0 = judged_tick_none s in
    let count : ticks_of (now.round ++ steps) ≡ ticks_of now.round + ticks_of steps = ticks_of-append now.round steps in
    let same : ticks_of next.round ≡ ticks_of now.round = omega (arith, quiet, count) in
    let is : one.outer.chip.state ≡ after s e = does_chip o e in
    let later =
    chip_judges_known ways one.outer (past ++ one.entries) next left first (sym (ap (λ (t : ChipState). t.port.side) is))
    (subst (λ (t : ChipState). WaitsWell t.port) (sym is) (well_all s (e ∷ []) waits)) (λ tick. same ∙ may tick)
    (more, λ stalls. (none_first (way.0 ∷ []) rest_items (hears.1 stalls)).1) in
    record {
      later = later.later;
      life = later.life ∙ ap (λ (t : ChipState). (now.life ++ steps) ++ over link_steps t (judged_all ways)) is ∙ append_assoc now.life steps (over link_steps (after s e) (judged_all ways));
      knows = subst (λ (l : List Entry). KnowsLink Chip l later.later) (append_assoc past one.entries (each chip_does one.outer (judged_all ways)).entries) later.knows;
      link = later.link ∙ ap (λ (t : ChipState). (after_all t (judged_all ways)).port.side) is;
      left = later.left;
      stays = record { is_tick = later.stays.is_tick; brought = later.stays.brought; clock = later.stays.clock; until = later.stays.until; lost = later.stays.lost; ticks = later.stays.ticks ∙ same; starts = later.stays.starts };
    }
  where
    judged_tick_none : (s : ChipState) → ticks_of (link_steps s (Judged way.0 way.1)) ≡ 0
    judged_tick_none s = let none = submits_tick_none (begun_at s (Judged way.0 way.1)) in omega (arith, none)

-- the chip's state after events one after another
pub each_state : (events : List ChipEvent) (o : OuterState) → (each chip_does o events).outer.chip.state ≡ after_all o.chip.state events
each_state [] o = refl
each_state (event ∷ events) o = each_state events (chip_does o event).outer ∙ ap (λ (t : ChipState). after_all t events) (does_chip o event)

-- all that is on its way to it
pub chip_takes_known : (o : OuterState) (count : ℕ) (rest : Rest) (ways : List (Item × Option Route)) (past : List Entry) (now : LinkNow) → KnowsLink Chip past now
    → now.link ≡ o.chip.state.port.side → WaitsWell o.chip.state.port → (now.is_tick ≡ true → ticks_of now.round ≡ 1) → Brings o.to_chip now.coming → nat_lt now.clock now.until ≡ false
    → o.chip.decoder ≡ no_rest → count ≡ length o.to_chip.bytes → MayTake o count rest ways
    → Judges (over link_steps o.chip.state (judged_all ways)) (past ++ (chip_takes o count rest ways).entries) now (after_all o.chip.state (judged_all ways)).port.side []
chip_takes_known o count rest ways past now knows link waits once brings moves rests whole may =
    let started : OuterState = record o { to_chip = way.after o.to_chip (Takes count); chip = record { decoder = rest; state = o.chip.state } } in
    let items : List Item = map (λ (w : Item × Option Route). w.0) ways in
    let fed : Feeds no_rest (take (length o.to_chip.bytes) o.to_chip.bytes) rest items =
    subst (λ (r : Rest). Feeds r (take (length o.to_chip.bytes) o.to_chip.bytes) rest items) rests (subst (λ (n : ℕ). Feeds o.chip.decoder (take n o.to_chip.bytes) rest items) whole may.feeds) in
    chip_judges_known ways started past now [] knows link waits once (brings_taken o.to_chip now.coming rest items brings fed, λ stalls. absurd (let none : true ≡ false = sym stalls ∙ moves in cc))
