-- What the chip is given, in a line or before its own tick: what is known of both links goes on with it.
use Rattle.std.proofs.Common.{◌≡◌, ◌⊎◌, inl, inr, ℕ, ◌+◌, true, List, [], ◌∷◌, ◌++◌, map, refl, sym, ap, ◌∙◌, subst, append-nil, append_assoc, arith}
use Rattle.std.specs.Prelude.{Option, Some, None, slice_get}
use Rattle.std.specs.List.{AllByRecursion}
use Rattle.zw_base.specs.declared.property.Setting.{Setting}
use Rattle.zw_base.proofs.Each.{all-append, all-weaker}
use Rattle.serial_frame.specs.Frame.{FrameParts}
use Rattle.serial_frame.specs.Stream.{Feeds, no_rest}
use Rattle.serial_frame.specs.declared.unit.Unit.{Unit as LineUnit}
use Rattle.serial_frame.specs.declared.item.Item.{Item}
use Rattle.serial_link.specs.Rules.{Step, items_of, ticks_of}
use Rattle.serial_link.specs.Calls.{submit_step}
use Rattle.serial_link.proofs.Counting.{ticks_of-append}
use Rattle.route_table.specs.declared.route.Route.{Route}
use Rattle.serial_pipes.specs.State.{WayState}
use Rattle.chip_sim.specs.Link.{chip_units, link_event, link_steps}
use Rattle.chip_sim.specs.Waiting.{PortState}
use Rattle.chip_sim.specs.State.{ChipState}
use Rattle.chip_sim.specs.Events.{ChipEvent, Heard, Done, Informed, after, outs}
use Rattle.chip_sim.specs.Rules.{WaitsWell, begun_at}
use Rattle.chip_sim.proofs.Histories.{well_all}
use Rattle.proof_world.specs.device_sim.State.{State}
use Rattle.proof_world.specs.device_sim.Event.{DeviceEvent, Ticks, Wakes, Sets}
use Rattle.air_frames.specs.Ages.{refusal_of}
use Rattle.air_frames.specs.declared.ages.Refusal.{Refusal as RepeatRefusal}
use Rattle.air_frames.specs.declared.ages.Refusal.TheVariants.{NeverSent, Forgotten, Stale}
use Rattle.proof_walk.specs.mesh_sim.Air.{AirState}
use Rattle.proof_walk.specs.mesh_sim.Fates.{place_of}
use Rattle.proof_walk.specs.mesh_sim.Steps.{AirStep}
use Rattle.proof_walk.specs.mesh_sim.Steps as mesh
use Rattle.zw_words.specs.declared.side.Side.TheVariants.{Host, Chip}
use Rattle.zw_text.specs.declared.entry.Entry.{Entry}
use Rattle.zw_text.specs.declared.entry.Entry.TheVariants as entry
use Rattle.zw_text.specs.declared.entry.Refusal.{Refusal}
use Rattle.zw_text.specs.declared.entry.Refusal.TheVariants as refusal
use Rattle.proof_walk.specs.outside_model.State.{OuterState, Outside, Outcome, and_then, silent, tells}
use Rattle.proof_walk.specs.outside_model.Chip.{chip_does}
use Rattle.proof_walk.specs.outside_model.Nodes.{listens_at}
use Rattle.proof_walk.specs.outside_model.Results.{device_at}
use Rattle.proof_walk.specs.outside_model.Devices.{acts_at, acts_by_hand, shown_entries}
use Rattle.proof_walk.specs.outside_model.Events.{OuterEvent, Arrives, Device_ticks, Gives, Repeats, Wakes_device, Sets_device, Shows, Joins, Discovers, Links, Loses, Loses_acks, Marks_loss, Marks_change, Cuts, outcome, repeats}
use Rattle.proof_walk.proofs.Results.{IsGiven, IsSameChip}
use Rattle.proof_world.specs.proof_serial.Chip.{HasFrames}
use Rattle.proof_walk.specs.Outside.{IsOfAir}
use Rattle.proof_walk.proofs.Times.{does_chip}
use Rattle.proof_line.specs.Links.{AtLine, Brings, IsMute, LinkNow, MayOfChip, TakesTexts}
use Rattle.proof_line.specs.Linked.{IsHandPlain}
use Rattle.proof_line.proofs.Colliding.{discovers_port, joins_port}
use Rattle.proof_line.proofs.ChipTelling.{IsArriving, beside_air, does_tell, given_back}
use Rattle.proof_line.proofs.ChipAccounts.{Account, Still, Both, Later, Does, Forgotten as ForgottenLink, Of_air, In_air, at_account, at_none, gives_account, outer_steps, repeat_steps, steps_account, steps_by}
use Rattle.proof_line.proofs.LinkTime.{Apart, tells_apart}
use Rattle.proof_line.proofs.LinkTold.{arriving_all, besides_known, brings_more}
use Rattle.proof_walk.proofs.Moving.{both_none as none_first}
use Rattle.proof_line.proofs.LinkChip.{chip_event_arrives, chip_event_known, does_mute, submits_hear_none, submits_tick_none}
use Rattle.proof_line.proofs.Tellings.{IsBeside}

-- ---- what is known

pub record AtChip (past : List Entry) (o : OuterState) (up down : LinkNow) : Type 0 where
  pub line : AtLine past o up down
  pub early : up.is_tick ≡ true → ticks_of up.round ≡ 0

-- of the chip's, only what it did grows, by these steps; of the host's, what is on its way
pub record GrowsChip (steps : List Step) (old new : LinkNow) : Type 0 where
  pub life : new.life ≡ old.life ++ steps
  pub is_tick : new.is_tick ≡ old.is_tick
  pub clock : new.clock ≡ old.clock
  pub until : new.until ≡ old.until
  pub coming : new.coming ≡ old.coming
  pub ticks : ticks_of new.round ≡ ticks_of old.round
  pub starts : new.starts ≡ old.starts

pub record GrowsHost (old new : LinkNow) : Type 0 where
  pub is_tick : new.is_tick ≡ old.is_tick
  pub starts : new.starts ≡ old.starts
  pub clock : new.clock ≡ old.clock
  pub until : new.until ≡ old.until
  pub life : new.life ≡ old.life
  pub round : new.round ≡ old.round
  pub link : new.link ≡ old.link

pub record AfterGiven (steps : List Step) (all : List Entry) (o : OuterState) (up down : LinkNow) : Type 0 where
  pub up_later : LinkNow
  pub down_later : LinkNow
  pub at : AtChip all o up_later down_later
  pub chip_grows : GrowsChip steps up up_later
  pub host_grows : GrowsHost down down_later

-- by these steps of the chip's link, where the frames that the chip then has are such as the format carries; where nothing is told nothing was written
pub record GoesGiven (steps : List Step) (o : OuterState) (x : Outcome) : Type 0 where
  pub quiet : x.entries ≡ [] → AllByRecursion IsMute steps
  pub back : HasFrames x.outer.chip.state.port → HasFrames o.chip.state.port
  pub goes : (past : List Entry) (up down : LinkNow) → HasFrames x.outer.chip.state.port → AtChip past o up down → AfterGiven steps (past ++ x.entries) x.outer up down

-- ---- lists

-- what is on its way is a matter of bytes
pub brings_same : (way later : WayState) (coming : List (List ℕ)) → later.bytes ≡ way.bytes → Brings way coming → Brings later coming
brings_same way later coming same brings = record {
  items = brings.items;
  carries = subst (λ (l : List ℕ). Feeds no_rest l no_rest brings.items) (sym same) brings.carries;
  texts = brings.texts;
  bytes = same ∙ brings.bytes;
}

module _ (past : List Entry) (o : OuterState) (up down : LinkNow) where
  -- it is at another, of the same port and with the same bytes on their way to the host
  pub line_other : (p : OuterState) → p.chip.state.port ≡ o.chip.state.port → p.to_host.bytes ≡ o.to_host.bytes → AtLine past o up down → AtLine past p up down
  line_other p port to_host line = record {
    chip = line.chip;
    host = line.host;
    link = line.link ∙ sym (ap (λ (q : PortState). q.side) port);
    waits = subst WaitsWell (sym port) line.waits;
    way = brings_same o.to_host p.to_host down.coming to_host line.way;
    time = line.time;
    many = line.many;
    clears = line.clears;
  }

  at_other : (p : OuterState) → p.chip.state.port ≡ o.chip.state.port → p.to_host.bytes ≡ o.to_host.bytes → AtChip past o up down → AtChip past p up down
  at_other p port to_host at = record { line = line_other p port to_host at.line; early = at.early }

  -- entries beside the line
  pub line_beside : (told : List Entry) → AllByRecursion IsBeside told → AtLine past o up down → AtLine (past ++ told) o up down
  line_beside told beside line =
      let apart : Apart past (past ++ told) = tells_apart [] Chip o.to_host past told beside in
      record {
        chip = besides_known Chip past up told beside line.chip;
        host = besides_known Host past down told beside line.host;
        link = line.link;
        waits = line.waits;
        way = line.way;
        time = apart.time ∙ line.time;
        many = line.many;
        clears = apart.clears ∙ line.clears;
      }

  -- nothing grows
  just : (told : List Entry) → AtChip (past ++ told) o up down → AfterGiven [] (past ++ told) o up down
  just told at = record {
    up_later = up;
    down_later = down;
    at = at;
    chip_grows = record { life = sym (append-nil up.life); is_tick = refl; clock = refl; until = refl; coming = refl; ticks = refl; starts = refl };
    host_grows = record { is_tick = refl; clock = refl; until = refl; life = refl; round = refl; link = refl; starts = refl };
  }

-- one after the other
then_given : (one more : List Step) (middle all : List Entry) (p q : OuterState) (up down : LinkNow) (first : AfterGiven one middle p up down) → AfterGiven more all q first.up_later first.down_later
    → AfterGiven (one ++ more) all q up down
then_given one more middle all p q up down first later =
    let a : GrowsChip one up first.up_later = first.chip_grows in
    let b : GrowsChip more first.up_later later.up_later = later.chip_grows in
    let c : GrowsHost down first.down_later = first.host_grows in
    let d : GrowsHost first.down_later later.down_later = later.host_grows in
    record {
      up_later = later.up_later;
      down_later = later.down_later;
      at = later.at;
      chip_grows = record {
        life = b.life ∙ ap (λ (l : List Step). l ++ more) a.life ∙ append_assoc up.life one more;
        is_tick = b.is_tick ∙ a.is_tick;
        clock = b.clock ∙ a.clock;
        until = b.until ∙ a.until;
        coming = b.coming ∙ a.coming;
        ticks = b.ticks ∙ a.ticks;
        starts = b.starts ∙ a.starts;
      };
      host_grows = record {
        is_tick = d.is_tick ∙ c.is_tick;
        clock = d.clock ∙ c.clock;
        until = d.until ∙ c.until;
        life = d.life ∙ c.life;
        round = d.round ∙ c.round;
        link = d.link ∙ c.link;
        starts = d.starts ∙ c.starts;
      };
    }

-- entries beside the line, where the chip's port and the bytes on their way to the host stay
pub beside_given : (o : OuterState) (x : Outcome) → AllByRecursion IsBeside x.entries → x.outer.to_host.bytes ≡ o.to_host.bytes → x.outer.chip.state.port ≡ o.chip.state.port → GoesGiven [] o x
beside_given o x beside to_host port = record {
  quiet = λ none. tt;
  back = λ has. subst HasFrames port has;
  goes = λ past up down has at.
      just past x.outer up down x.entries (at_other (past ++ x.entries) o up down x.outer port to_host (record { line = line_beside past o up down x.entries beside at.line; early = at.early }));
}

-- ---- an event that it is given

event_given : (o : OuterState) (e : ChipEvent) → IsGiven e → link_event o.chip.state e ≡ [] → ((up : LinkNow) → (up.is_tick ≡ true → ticks_of up.round ≡ 0) → MayOfChip up e) → GoesGiven (link_steps o.chip.state e) o (chip_does o e)
event_given o e given none may =
    let s : ChipState = o.chip.state in
    let x : Outcome = chip_does o e in
    let units : List LineUnit = chip_units (outs s e) in
    let is : x.outer.chip.state ≡ after s e = does_chip o e in
    let steps : List Step = link_steps s e in
    let submits : List Step = map (λ (f : FrameParts). submit_step f) (begun_at s e) in
    let are : steps ≡ submits = ap (λ (l : List Step). l ++ submits) none in
    let mute : items_of steps ≡ [] = ap (λ (l : List Step). items_of l) are ∙ submits_hear_none (begun_at s e) in
    let quiet : ticks_of steps ≡ 0 = ap (λ (l : List Step). ticks_of l) are ∙ submits_tick_none (begun_at s e) in
    record {
      quiet = does_mute o e;
      back = λ has. (given_back s e given (subst (λ (t : ChipState). HasFrames t.port) is has)).0;
      goes = λ past up down has at.
          let line = at.line in
          let fit = (given_back s e given (subst (λ (t : ChipState). HasFrames t.port) is has)).1 in
          let chip = chip_event_known o e past up up.coming line.chip line.link line.waits (may up at.early) (hears_none up (items_of steps) mute, λ stalls. mute) in
          let host = chip_event_arrives o e past down line.way line.host in
          let apart : Apart past (past ++ x.entries) = tells_apart units Chip o.to_host past x.entries (does_tell o e).told in
          let count : ticks_of (up.round ++ steps) ≡ ticks_of up.round + ticks_of steps = ticks_of-append up.round steps in
          let same : ticks_of (up.round ++ steps) ≡ ticks_of up.round = omega (arith, quiet, count) in
          record {
            up_later = _;
            down_later = _;
            at = record {
              line = record {
                chip = chip;
                host = host;
                link = sym (ap (λ (t : ChipState). t.port.side) is);
                waits = subst (λ (t : ChipState). WaitsWell t.port) (sym is) (well_all s (e ∷ []) line.waits);
                way = subst (λ (w : WayState). Brings w (down.coming ++ arriving_all Chip o.to_host units)) (sym (does_tell o e).to_host) (brings_more Chip units o.to_host down.coming fit line.way);
                time = apart.time ∙ line.time;
                many = line.many;
                clears = apart.clears ∙ line.clears;
              };
              early = λ tick. same ∙ at.early tick;
            };
            chip_grows = record { life = refl; is_tick = refl; clock = refl; until = refl; coming = refl; ticks = same; starts = refl };
            host_grows = record { is_tick = refl; clock = refl; until = refl; life = refl; round = refl; link = refl; starts = refl };
          };
    }
  where
    hears_none : (up : LinkNow) (items : List Item) → items ≡ [] → TakesTexts items up.coming up.coming
    hears_none up items is_none = subst (λ (l : List Item). TakesTexts l up.coming up.coming) (sym is_none) refl

given_goes : (o : OuterState) (event : ChipEvent) → IsGiven event → GoesGiven (link_steps o.chip.state event) o (chip_does o event)
given_goes o (Heard n payload) given = event_given o (Heard n payload) given refl (λ up early. early)
given_goes o (Done status) given = event_given o (Done status) given refl (λ up early. early)
given_goes o (Informed n profile) given = event_given o (Informed n profile) given refl (λ up early. early)
given_goes o event given = absurd given

-- ---- all that it may be given

both_given : (one more : List Step) (o : OuterState) (first : Outcome) (next : OuterState → Outcome) → GoesGiven one o first → GoesGiven more first.outer (next first.outer)
    → GoesGiven (one ++ more) o (and_then first next)
both_given one more o first next before later = record {
  quiet = λ none.
      let both = none_first first.entries (next first.outer).entries none in
      all-append IsMute one more (before.quiet both.0) (later.quiet both.1);
  back = λ has. before.back (later.back has);
  goes = λ past up down has at.
      let here = before.goes past up down (later.back has) at in
      let after_it = later.goes (past ++ first.entries) here.up_later here.down_later has here.at in
      then_given one more (past ++ first.entries) (past ++ (first.entries ++ (next first.outer).entries)) first.outer (next first.outer).outer up down here
      (subst (λ (l : List Entry). AfterGiven more l (next first.outer).outer here.up_later here.down_later) (append_assoc past first.entries (next first.outer).entries) after_it);
}

later_given : (steps : List Step) (o p : OuterState) (x : Outcome) → IsSameChip o p → GoesGiven steps p x → GoesGiven steps o x
later_given steps o p x is goes = record {
  quiet = goes.quiet;
  back = λ has. subst HasFrames (ap (λ (s : ChipState). s.port) is.chip) (goes.back has);
  goes = λ past up down has at. goes.goes past up down has (at_other past o up down p (ap (λ (s : ChipState). s.port) is.chip) (ap (λ (w : WayState). w.bytes) is.to_host) at);
}

in_air_given : (steps : List Step) (o : OuterState) (air : AirState) (x : Outcome) → GoesGiven steps (record o { air = air }) x → GoesGiven steps o x
in_air_given steps o air x goes = record {
  quiet = goes.quiet;
  back = λ has. goes.back has;
  goes = λ past up down has at. goes.goes past up down has (at_other past o up down (record o { air = air }) refl refl at);
}

given_by : {o : OuterState} {x : Outcome} (account : Account o x) → GoesGiven (steps_by account) o x
given_by (Still o p is) = beside_given o (silent p) tt (ap (λ (w : WayState). w.bytes) is.to_host) (ap (λ (s : ChipState). s.port) is.chip)
given_by (Both o first next one later) = both_given (steps_by one) (steps_by later) o first next (given_by one) (given_by later)
given_by (Later o p x is account) = later_given (steps_by account) o p x is (given_by account)
given_by (Does o event given) = given_goes o event given
given_by (ForgottenLink o a b) = beside_given o _ ((tt, refl), tt) refl refl
given_by (Of_air o x of_air to_host to_chip port) =
    beside_given o x (all-weaker IsOfAir IsBeside beside_air x.entries of_air) (ap (λ (w : WayState). w.bytes) to_host) port
given_by (In_air o air x account) = in_air_given (steps_by account) o air x (given_by account)

at_given : (o : OuterState) (found : Option State) (event : DeviceEvent) (route : Option Route) → GoesGiven [] o (acts_at o found event route)
at_given o found event route = subst (λ (l : List Step). GoesGiven l o (acts_at o found event route)) (at_none o found event route) (given_by (at_account o found event route))

-- in a tick
pub arriving_given : (w : Outside) (event : OuterEvent) → IsArriving event → GoesGiven (outer_steps w event) w.outer (outcome w event)
unfolding outcome outer_steps
arriving_given w (Arrives drawn route) arriving = given_by (steps_account w (mesh.Arrives drawn route))
arriving_given w (Gives route) arriving = given_by (gives_account w route)
arriving_given w (Device_ticks place drawn route) arriving = at_given w.outer (slice_get w.devices place) (Ticks drawn) route
arriving_given w event arriving = absurd arriving

-- ---- by hand

-- what happens is refused, and nothing else; or it goes on by these steps
abbrev pub HandGoes : List Step → OuterState → Outcome → Type 0
HandGoes steps o x = ((refused : Refusal) × (x ≡ tells o (entry.Refused refused ∷ [])) × (steps ≡ [])) ⊎ GoesGiven steps o x

repeats_go : (w : Outside) (refused : Option RepeatRefusal) (step : AirStep) → HandGoes (repeat_steps w refused step) w.outer (repeats w refused step)
repeats_go w None step = inr (given_by (steps_account w step))
repeats_go w (Some NeverSent) step = inl (refusal.NeverSent, refl, refl)
repeats_go w (Some Forgotten) step = inl (refusal.Forgotten, refl, refl)
repeats_go w (Some (Stale later)) step = inl (refusal.Stale later, refl, refl)

hand_acts : (w : Outside) (place : Option ℕ) (event : DeviceEvent) (route : Option Route) → HandGoes [] w.outer (acts_by_hand w.outer w.devices place event route)
hand_acts w None event route = inl (refusal.NoDevice, refl, refl)
hand_acts w (Some place) event route = inr (at_given w.outer (slice_get w.devices place) event route)

shows : (o : OuterState) (node : ℕ) (device : Option State) → HandGoes [] o (tells o (shown_entries node device))
shows o node None = inl (refusal.NoDevice, refl, refl)
shows o node (Some device) = inr (beside_given o (tells o (shown_entries node (Some device))) (settings _) refl refl)
  where
    settings : (l : List Setting) → AllByRecursion IsBeside (map (λ (setting : Setting). entry.Device node setting) l)
    settings [] = tt
    settings (one ∷ l) = ((tt, refl), settings l)

pub joins_given : (w : Outside) (node : ℕ) → GoesGiven [] w.outer (outcome w (Joins node))
unfolding outcome
joins_given w node = beside_given w.outer (outcome w (Joins node)) tt refl (joins_port w.outer node (listens_at (device_at w.devices (place_of node w.devices))))

pub hand_goes : (w : Outside) (event : OuterEvent) → IsHandPlain event → HandGoes (outer_steps w event) w.outer (outcome w event)
unfolding outcome outer_steps
hand_goes w (Repeats number drawn route) plain = repeats_go w (refusal_of w.outer.air.frames number) (mesh.Repeats number drawn route)
hand_goes w (Wakes_device node route) plain = hand_acts w (place_of node w.devices) Wakes route
hand_goes w (Sets_device node value route) plain = hand_acts w (place_of node w.devices) (Sets value) route
hand_goes w (Shows node) plain = shows w.outer node (device_at w.devices (place_of node w.devices))
hand_goes w (Joins node) plain = inr (joins_given w node)
hand_goes w Discovers plain = inr (beside_given w.outer (outcome w Discovers) tt refl (discovers_port w.outer))
hand_goes w (Links a b live) plain = inr (beside_given w.outer (outcome w (Links a b live)) tt refl refl)
hand_goes w (Loses count) plain = inr (beside_given w.outer (outcome w (Loses count)) tt refl refl)
hand_goes w (Loses_acks count) plain = inr (beside_given w.outer (outcome w (Loses_acks count)) tt refl refl)
hand_goes w (Marks_loss Host) plain = inr (beside_given w.outer (outcome w (Marks_loss Host)) tt refl refl)
hand_goes w (Marks_loss Chip) plain = inr (beside_given w.outer (outcome w (Marks_loss Chip)) tt refl refl)
hand_goes w (Marks_change Host garble) plain = inr (beside_given w.outer (outcome w (Marks_change Host garble)) tt refl refl)
hand_goes w (Marks_change Chip garble) plain = inr (beside_given w.outer (outcome w (Marks_change Chip garble)) tt refl refl)
hand_goes w (Cuts size) plain = inr (beside_given w.outer (outcome w (Cuts size)) tt refl refl)
hand_goes w event plain = absurd plain
