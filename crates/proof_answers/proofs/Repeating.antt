-- That the chip was given just what it has for its host goes on where a frame is heard again, or its repeat refused.
use Rattle.std.proofs.Common.{◌≡◌, ℕ, ◌&&◌, not, Bool, true, false, if◌then◌else◌, List, [], ◌∷◌, ◌++◌, refl, sym, ap, ◌∙◌, subst, append-nil}
use Rattle.std.specs.Prelude.{Option, Some, None}
use Rattle.zw_base.proofs.Each.{all-weaker}
use Rattle.serial_link.specs.Rules.{Step}
use Rattle.route_table.specs.declared.route.Route.{Route}
use Rattle.device_sim.specs.Event.{DeviceEvent, Hears}
use Rattle.air_frames.specs.declared.ages.Refusal.{Refusal as RepeatRefusal}
use Rattle.air_frames.specs.Ages.{refusal_of}
use Rattle.mesh_sim.specs.declared.event.AirEvent.{AirEvent}
use Rattle.mesh_sim.specs.declared.event.AirEvent.TheVariants as tells
use Rattle.mesh_sim.specs.Air.{AirState}
use Rattle.mesh_sim.specs.Fates.{Mesh}
use Rattle.mesh_sim.specs.Steps.{heard_at, mesh_after, mesh_outs, outs_at}
use Rattle.mesh_sim.specs.Steps as mesh
use Rattle.zw_text.specs.declared.entry.Entry.{Entry}
use Rattle.zw_text.specs.declared.entry.Entry.TheVariants as entry
use Rattle.law_transcript.specs.Restarts.{repeats as answers_repeat}
use Rattle.law_wire.specs.Results.{settled_clock}
use Rattle.law_wire.specs.Given.{handlers_at}
use Rattle.outside_model.specs.Devices.{State}
use Rattle.outside_model.specs.State.{OuterState, Outcome, Outside, each}
use Rattle.outside_model.specs.Air.{deals}
use Rattle.outside_model.specs.Events.{Repeats, entries as entries_outside, happens as happens_outside, has_entered, mesh_of, outcome, repeats, stamp, steps}
use Rattle.proof_devices.specs.proof_air.proof_walk.Outside.{nothing}
use Rattle.proof_devices.specs.proof_air.Logs.{Tie}
use Rattle.proof_devices.proofs.Times.{outcome_time}
use Rattle.proof_chip.proofs.ChipAccounts.{all_account, outer_steps, repeat_steps, steps_account, steps_by}
use Rattle.proof_chip.proofs.Arriving.{ArePlain, plain_apart, plain_rests}
use Rattle.proof_chip.proofs.Asides.{IsUnrelated}
use Rattle.proof_chip.proofs.Hearing.{has_room}
use Rattle.proof_chip.proofs.Incoming.{EachAgain, done_by, done_plain, it_repeats}
use Rattle.proof_chip.proofs.Landed.{refusal_apart}
use Rattle.proof_chip.proofs.Settling.{AreIdle, IsIdle}
use Rattle.proof_chip.proofs.Telling.{IsAside}
use Rattle.proof_answers.specs.Telling.{TellSo, TellsNow}
use Rattle.proof_answers.proofs.Accounts.{aside_grows, posts_by}
use Rattle.proof_answers.proofs.Hearing.{again_tells, handlers_are, heard_frames, heard_idle, heard_owing, heard_posts}
use Rattle.proof_answers.proofs.Moving.{map_so, now_on}
use Rattle.proof_answers.proofs.Standing.{SameOwing, now_as}

-- ---- what a device does

module _ (there : List State) where
  -- the chip is given nothing of what is told of the air alone
  plain_posts : (plain : List AirEvent) (o : OuterState) → ArePlain plain → posts_by (all_account there plain o) ≡ []
  plain_posts [] o are = refl
  plain_posts (tells.Sent at from to route payload ∷ plain) o are = plain_posts plain o are.1
  plain_posts (tells.Changed node at ∷ plain) o are = plain_posts plain _ are.1
  plain_posts (tells.Heard at ∷ plain) o are = absurd are.0
  plain_posts (tells.Lost at ∷ plain) o are = absurd are.0
  plain_posts (tells.Unheard at ∷ plain) o are = absurd are.0
  plain_posts (tells.ToChip at from payload ∷ plain) o are = absurd are.0
  plain_posts (tells.Done at status dead ∷ plain) o are = absurd are.0

  plain_idle : (plain : List AirEvent) (o : OuterState) → ArePlain plain → AreIdle (each (deals there) o plain).entries
  plain_idle plain o are = all-weaker IsUnrelated IsIdle (λ e is. is.1) (each (deals there) o plain).entries (plain_apart there o plain are)

  plain_owing : (plain : List AirEvent) (o : OuterState) → ArePlain plain → SameOwing o (each (deals there) o plain).outer
  plain_owing plain o are =
      subst (λ (p : OuterState). SameOwing o p) (sym (plain_rests there o plain are)) (record { clock = refl; sending = refl; failing = refl; calls = refl; due = refl })

module _ (devices : List State) (past : List Entry) (w : Outside) (tie : Tie nothing past w) (did : List Step) (again : answers_repeat past ≡ true) (settled : settled_clock past ≡ w.outer.clock)
    (so : TellSo (TellsNow devices w.outer) did past w.outer.chip.state.port) where
  abbrev so_with : AirState → OuterState
  so_with air = record w.outer { air = air }

  so_air : (air : AirState) → TellSo (TellsNow devices (record w.outer { air = air })) did past w.outer.chip.state.port
  so_air air =
      map_so devices (TellsNow devices w.outer) (TellsNow devices (so_with air))
      (λ frames course all was. now_as devices w.outer (so_with air) (record { clock = refl; sending = refl; failing = refl; calls = refl; due = refl }) frames course all was) did past w.outer.chip.state.port so

  abbrev Goes_on : Mesh → List AirEvent → Type 0
  Goes_on m events =
      TellSo (TellsNow devices (each (deals m.devices) (so_with m.air) events).outer) (did ++ steps_by (all_account m.devices events (so_with m.air)))
      (past ++ (each (deals m.devices) (so_with m.air) events).entries) (each (deals m.devices) (so_with m.air) events).outer.chip.state.port

  by_device : (number place node : ℕ) (payload : List ℕ) (device : State) (drawn : List ℕ) (route : Option Route) → handlers_at past (entry.Heard number) ≡ []
      → Goes_on (heard_at (mesh_of w) place (Some device) node route (Hears payload drawn)) (outs_at (mesh_of w) (Some device) number node route (Hears payload drawn))
  by_device number place node payload device drawn route unhandled =
      let event : DeviceEvent = Hears payload drawn in
      let m : Mesh = heard_at (mesh_of w) place (Some device) node route event in
      let plain : List AirEvent = done_by w.outer.air node route device event in
      let are = done_plain w.outer.air node route device event tie.home in
      again_tells devices did past m.devices (so_with m.air) number again settled plain [] unhandled (plain_posts m.devices plain (so_with m.air) are) (plain_idle m.devices plain (so_with m.air) are)
      (plain_owing m.devices plain (so_with m.air) are) (so_air m.air)

  each_again : EachAgain past w Goes_on
  each_again = record {
    by_none =
        subst (λ (l : List Step). TellSo (TellsNow devices (so_with w.outer.air)) l (past ++ []) w.outer.chip.state.port) (sym (append-nil did))
        (subst (λ (l : List Entry). TellSo (TellsNow devices (so_with w.outer.air)) did l w.outer.chip.state.port) (sym (append-nil past)) (so_air w.outer.air));
    by_device = by_device;
    by_chip = λ number node payload home.
        again_tells devices did past w.devices (so_with w.outer.air) number again settled (tells.ToChip number node payload ∷ []) (heard_frames (has_room payload) node payload)
        (handlers_are past number node payload home) (heard_posts w.devices (so_with w.outer.air) number node payload)
        (heard_idle w.devices (so_with w.outer.air) number node payload) (heard_owing w.devices (so_with w.outer.air) number node payload) (so_air w.outer.air);
  }

  steps_again : (number : ℕ) (drawn : List ℕ) (route : Option Route)
      → TellSo (TellsNow devices (steps w (mesh.Repeats number drawn route)).outer) (did ++ steps_by (steps_account w (mesh.Repeats number drawn route)))
      (past ++ (steps w (mesh.Repeats number drawn route)).entries) (steps w (mesh.Repeats number drawn route)).outer.chip.state.port
  unfolding mesh_after mesh_outs steps_account
  steps_again number drawn route = it_repeats past w tie Goes_on each_again number drawn route

  repeat_by : (refused : Option RepeatRefusal) (number : ℕ) (drawn : List ℕ) (route : Option Route)
      → TellSo (TellsNow devices (repeats w refused (mesh.Repeats number drawn route)).outer) (did ++ repeat_steps w refused (mesh.Repeats number drawn route))
      (past ++ (repeats w refused (mesh.Repeats number drawn route)).entries) (repeats w refused (mesh.Repeats number drawn route)).outer.chip.state.port
  repeat_by None number drawn route = steps_again number drawn route
  repeat_by (Some refused) number drawn route =
      let told : List Entry = (repeats w (Some refused) (mesh.Repeats number drawn route)).entries in
      let apart = refusal_apart w refused (mesh.Repeats number drawn route) in
      now_on devices w.outer did [] past told w.outer.chip.state.port w.outer.chip.state.port (all-weaker IsUnrelated IsIdle (λ e is. is.1) told apart) settled
      (λ frames serves. aside_grows devices did frames past told w.outer.chip.state.port w.outer.chip.state.port (all-weaker IsUnrelated IsAside (λ e is. is.0) told apart) refl serves) so

  -- where no tick runs
  entered_on : (p : OuterState) (told : List Entry) (now : List Step) → p.in_tick ≡ false → TellSo (TellsNow devices p) now (past ++ told) p.chip.state.port
      → TellSo (TellsNow devices (has_entered p told)) now (past ++ stamp p told) (has_entered p told).chip.state.port
  entered_on p [] now out was = was
  entered_on p (first ∷ told) now out was =
      subst (λ (l : List Entry). TellSo (TellsNow devices (has_entered p (first ∷ told))) now (past ++ (l ++ first ∷ told)) p.chip.state.port)
      (sym (ap (λ (b : Bool). if b && not p.stamped then entry.Time p.clock ∷ [] else []) out))
      (map_so devices (TellsNow devices p) (TellsNow devices (has_entered p (first ∷ told)))
      (λ frames course all so_far. now_as devices p (has_entered p (first ∷ told)) (record { clock = refl; sending = refl; failing = refl; calls = refl; due = refl }) frames course all so_far) now (past ++ first ∷ told) p.chip.state.port was)

  pub repeats_tell : (number : ℕ) (drawn : List ℕ) (route : Option Route) → w.outer.in_tick ≡ false
      → TellSo (TellsNow devices (happens_outside w (Repeats number drawn route)).outer) (did ++ outer_steps w (Repeats number drawn route)) (past ++ entries_outside w (Repeats number drawn route))
      (happens_outside w (Repeats number drawn route)).outer.chip.state.port
  unfolding outcome outer_steps
  repeats_tell number drawn route out =
      let x : Outcome = outcome w (Repeats number drawn route) in
      entered_on x.outer x.entries (did ++ outer_steps w (Repeats number drawn route)) (ap (λ (t : Bool × Bool × ℕ). t.0) (outcome_time w (Repeats number drawn route) tt) ∙ out)
      (repeat_by (refusal_of w.outer.air.frames number) number drawn route)
