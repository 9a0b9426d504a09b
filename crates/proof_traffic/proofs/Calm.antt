-- What the host does at the line, and what is entered: the chip, its calls, what is due and the frames on the air are as they were; only sessions may have begun.
use Rattle.std.proofs.Common.{◌≡◌, ℕ, ◌≤◌, Bool, true, false, Option, Some, None, List, [], ◌∷◌, ◌++◌, length, replicate, refl, ap, sym, ◌∙◌, subst, append_assoc, arith}
use Rattle.std.specs.Prelude.{◌-◌, nat_le, nat_lt, slice_set}
use Rattle.std.proofs.Math.Seq.{set_out}
use Rattle.std.proofs.lemmas.List.{append-nil}
use Rattle.zw_text.specs.declared.entry.Entry.{Entry}
use Rattle.serial_frame.specs.Stream.{Rest}
use Rattle.serial_frame.specs.declared.item.Item.{Item}
use Rattle.serial_frame.specs.declared.unit.Unit.{Unit as LineUnit}
use Rattle.air_frames.specs.Flown.{Flown}
use Rattle.air_frames.specs.Frames.{FramesState, peer_of}
use Rattle.air_frames.specs.declared.peer.Peer.{Peer}
use Rattle.air_frames.specs.History.{Mark, Begins as begins_mark}
use Rattle.proof_traffic.specs.Flights.{Fly}
use Rattle.proof_device.specs.mesh_sim.Air.{AirState, beginning}
use Rattle.proof_serial.specs.host_model.Did.{outs_all}
use Rattle.proof_serial.specs.host_model.Events.{HostEvent}
use Rattle.proof_serial.specs.host_model.declared.out.HostOut.{HostOut}
use Rattle.proof_serial.specs.host_model.declared.out.HostOut.TheVariants.{Write, Note}
use Rattle.proof_serial.specs.host_model.Outs.{answers}
use Rattle.proof_device.specs.outside_model.State.{OuterState, Outside}
use Rattle.proof_device.specs.outside_model.Events.{Host_writes, Host_notes, Host_begins, begins, outcome, has_entered, happens as happens_outside}
use Rattle.proof_device.specs.outside_model.Did.{happens_all as happens_all_outside}
use Rattle.proof_device.specs.world_model.State.{Machine, routed, noted_by, begun_in, host_does}
use Rattle.proof_device.specs.world_model.Events.{Host_does, Host_takes, notes, fed, enters, happens}
use Rattle.proof_traffic.specs.OnAir.{on_air}
use Rattle.proof_traffic.proofs.Parts.{Airs}

-- the same but for sessions that began
pub record Calm (o p : OuterState) : Type 0 where
  pub chip : p.chip.state ≡ o.chip.state
  pub calls : p.calls ≡ o.calls
  pub due : p.due ≡ o.due
  pub on : on_air p.air.frames ≡ on_air o.air.frames
  pub begins : (log : List Mark) (flights : List Flown) → Fly log flights o.air.frames → (more : List Mark) × Fly (log ++ more) flights p.air.frames

no_more : (log : List Mark) (flights : List Flown) (frames : FramesState) → Fly log flights frames → (more : List Mark) × Fly (log ++ more) flights frames
no_more log flights frames fly = ([], subst (λ (l : List Mark). Fly l flights frames) (sym (append-nil log)) fly)

pub calm_both : (o p q : OuterState) → Calm o p → Calm p q → Calm o q
calm_both o p q first later = record {
  chip = later.chip ∙ first.chip;
  calls = later.calls ∙ first.calls;
  due = later.due ∙ first.due;
  on = later.on ∙ first.on;
  begins = λ log flights fly.
      let one : (more : List Mark) × Fly (log ++ more) flights p.air.frames = first.begins log flights fly in
      let two : (more : List Mark) × Fly ((log ++ one.0) ++ more) flights q.air.frames = later.begins (log ++ one.0) flights one.1 in
      (one.0 ++ two.0, subst (λ (l : List Mark). Fly l flights q.air.frames) (append_assoc log one.0 two.0) two.1);
}

-- only the line, the clock or whether a tick was told of
pub calm_same : (o p : OuterState) → p.chip.state ≡ o.chip.state → p.calls ≡ o.calls → p.due ≡ o.due → p.air ≡ o.air → Calm o p
calm_same o p chip calls due air = record {
  chip = chip;
  calls = calls;
  due = due;
  on = ap (λ (a : AirState). on_air a.frames) air;
  begins = λ log flights fly. no_more log flights p.air.frames (subst (λ (a : AirState). Fly log flights a.frames) (sym air) fly);
}

pub calm_entered : (o : OuterState) (entries : List Entry) → Calm o (has_entered o entries)
calm_entered o [] = calm_same o o refl refl refl refl
calm_entered o (entry ∷ entries) = calm_same o (has_entered o (entry ∷ entries)) refl refl refl refl

-- ---- sessions that begin

module _ (air : Airs) where
  -- a node without a place has no sessions
  nowhere : (node : ℕ) (peer : Peer) (log : List Mark) (flights : List Flown) (frames : FramesState) → nat_lt node 233 ≡ false → Fly log flights frames
      → Fly log flights (record frames { peers = slice_set frames.peers node peer })
  nowhere node peer log flights frames out fly =
      let many : length frames.peers ≡ 233 = fly.history.peers in
      let far : length frames.peers ≤ node = grind (arith, out, many) in
      subst (λ (ps : List Peer). Fly log flights (record frames { peers = ps })) (sym (set_out frames.peers node peer far)) fly

  begun_fly : (node sessions : ℕ) (log : List Mark) (flights : List Flown) (a : AirState) → (peer_of a.frames node).begun ≤ sessions → Fly log flights a.frames
      → (more : List Mark) × Fly (log ++ more) flights (beginning a node sessions).frames
  begun_fly node sessions log flights a more fly = by (nat_lt node 233) refl
    where
      by : (b : Bool) → nat_lt node 233 ≡ b → (more : List Mark) × Fly (log ++ more) flights (beginning a node sessions).frames
      by true e = (replicate (sessions - (peer_of a.frames node).begun) (begins_mark node), air.begins log flights a.frames node sessions (grind (arith, e)) more fly)
      by false e = no_more log flights (beginning a node sessions).frames (nowhere node (record (peer_of a.frames node) { begun = sessions }) log flights a.frames e fly)

  begins_calm : (o : OuterState) (node sessions : ℕ) → Calm o (record o { air = begins o.air node sessions })
  unfolding on_air
  begins_calm o node sessions = by (nat_le (peer_of o.air.frames node).begun sessions) refl
    where
      by : (b : Bool) → nat_le (peer_of o.air.frames node).begun sessions ≡ b → Calm o (record o { air = begins o.air node sessions })
      by true e = rw e (record {
        chip = refl;
        calls = refl;
        due = refl;
        on = refl;
        begins = λ log flights fly. begun_fly node sessions log flights o.air (grind (arith, e)) fly;
      })
      by false e = rw e (calm_same o o refl refl refl refl)

  -- ---- each event of the host at the line

  writes_calm : (w : Outside) (unit : LineUnit) → Calm w.outer (happens_outside w (Host_writes unit)).outer
  unfolding outcome
  writes_calm w unit =
      let o : OuterState = (outcome w (Host_writes unit)).outer in
      calm_both w.outer o (happens_outside w (Host_writes unit)).outer (calm_same w.outer o refl refl refl refl) (calm_entered o (outcome w (Host_writes unit)).entries)

  notes_calm : (w : Outside) (entry : Entry) → Calm w.outer (happens_outside w (Host_notes entry)).outer
  unfolding outcome
  notes_calm w entry = calm_same w.outer (happens_outside w (Host_notes entry)).outer refl refl refl refl

  starts_calm : (w : Outside) (node sessions : ℕ) → Calm w.outer (happens_outside w (Host_begins node sessions)).outer
  unfolding outcome
  starts_calm w node sessions = begins_calm w.outer node sessions

  pub all_noted : (w : Outside) (entries : List Entry) → Calm w.outer (happens_all_outside w (notes entries)).outer
  all_noted w [] = calm_same w.outer w.outer refl refl refl refl
  all_noted w (entry ∷ entries) =
      let v : Outside = happens_outside w (Host_notes entry) in
      calm_both w.outer v.outer (happens_all_outside v (notes entries)).outer (notes_calm w entry) (all_noted v entries)

  noted_calm : (w : Outside) (begun : Option (ℕ × ℕ)) (entry : Entry) (outs : List HostOut) → ((v : Outside) → Calm v.outer (happens_all_outside v (routed outs)).outer)
      → Calm w.outer (happens_all_outside w (noted_by begun entry ++ routed outs)).outer
  noted_calm w None entry outs more =
      let v : Outside = happens_outside w (Host_notes entry) in
      calm_both w.outer v.outer (happens_all_outside v (routed outs)).outer (notes_calm w entry) (more v)
  noted_calm w (Some begun) entry outs more =
      let u : Outside = happens_outside w (Host_begins begun.0 begun.1) in
      let v : Outside = happens_outside u (Host_notes entry) in
      calm_both w.outer u.outer (happens_all_outside v (routed outs)).outer (starts_calm w begun.0 begun.1)
      (calm_both u.outer v.outer (happens_all_outside v (routed outs)).outer (notes_calm u entry) (more v))

  routed_calm : (w : Outside) (outs : List HostOut) → Calm w.outer (happens_all_outside w (routed outs)).outer
  routed_calm w [] = calm_same w.outer w.outer refl refl refl refl
  routed_calm w (Write unit ∷ outs) =
      let v : Outside = happens_outside w (Host_writes unit) in
      calm_both w.outer v.outer (happens_all_outside v (routed outs)).outer (writes_calm w unit) (routed_calm v outs)
  routed_calm w (Note entry ∷ outs) = noted_calm w (begun_in entry) entry outs (λ v. routed_calm v outs)

  -- ---- events of the machine

  pub does_calm : (m : Machine) (event : HostEvent) → Calm m.outside.outer (happens m (Host_does event)).outside.outer
  unfolding happens
  does_calm m event =
      let base : Machine = host_does m (event ∷ []) in
      calm_both m.outside.outer base.outside.outer (happens m (Host_does event)).outside.outer (routed_calm m.outside (outs_all m.host.state (event ∷ [])))
      (all_noted base.outside (answers m.host.state event))

  fed_calm : (m : Machine) (count : ℕ) (rest : Rest) → Calm m.outside.outer (fed m count rest).outside.outer
  unfolding outcome
  fed_calm m count rest = calm_same m.outside.outer (fed m count rest).outside.outer refl refl refl refl

  pub takes_calm : (m : Machine) (count : ℕ) (rest : Rest) (items : List Item) (events : List HostEvent) → Calm m.outside.outer (happens m (Host_takes count rest items events)).outside.outer
  unfolding happens
  takes_calm m count rest items events =
      calm_both m.outside.outer (fed m count rest).outside.outer (happens m (Host_takes count rest items events)).outside.outer (fed_calm m count rest)
      (routed_calm (fed m count rest).outside (outs_all m.host.state events))

  pub enters_calm : (m : Machine) (entry : Entry) → Calm m.outside.outer (enters m entry).outside.outer
  enters_calm m entry = notes_calm m.outside entry
