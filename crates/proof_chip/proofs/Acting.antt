-- What devices and the air do puts no frame of the controller on the air, since node 1 has not joined; so what is known of the law of what goes on the air goes on.
use Rattle.std.proofs.Common.{◌≡◌, ℕ, zero, suc, ◌+◌, ◌-◌, ◌==◌, ◌&&◌, nat_le, Bool, true, false, if◌then◌else◌, inl, inr, List, [], ◌∷◌, ◌++◌, length, refl, sym, ap, ◌∙◌, subst, append-nil, append_assoc}
use Rattle.std.proofs.lemmas.Bool.{leb-true}
use Rattle.std.specs.Prelude.{Option, Some, None, option_map, slice_get, slice_set}
use Rattle.std.specs.List.{AllByRecursion}
use Rattle.zw_base.proofs.Each.{all-append}
use Rattle.serial_link.specs.Rules.{Step}
use Rattle.chip_sim.specs.Events.{Heard as chip_hears, collides}
use Rattle.route_table.specs.declared.route.Route.{Route}
use Rattle.device_sim.specs.State.{State}
use Rattle.device_sim.specs.Event.{DeviceEvent, Hears, device_after, device_replies}
use Rattle.air_frames.specs.declared.frame.Heading.{Heading}
use Rattle.air_frames.specs.declared.frame.Heading.TheVariants.{Outward, Homeward}
use Rattle.air_frames.specs.Flown.{Flown}
use Rattle.air_frames.specs.Frames.{next_of, remembered}
use Rattle.mesh_sim.specs.declared.event.AirEvent.{AirEvent}
use Rattle.mesh_sim.specs.declared.event.AirEvent.TheVariants as tells
use Rattle.mesh_sim.specs.declared.fate.Fate.{Fate}
use Rattle.mesh_sim.specs.declared.fate.Fate.TheVariants.{Lost, Dead, Missed, AtChip, AtDevice}
use Rattle.mesh_sim.specs.Routes.{backwards}
use Rattle.mesh_sim.specs.Air.{AirState, departing, is_joined}
use Rattle.mesh_sim.specs.Fates.{Mesh, fate_of, listener_of}
use Rattle.mesh_sim.specs.Steps.{AirStep, acknowledged, answers, answers_if, arrival_outs_as, arrival_outs, changed, done_of, landed, mesh_after, mesh_outs, outs_again, outs_at, repeat_outs, repeat_outs_by, sent_event, status_of}
use Rattle.mesh_sim.specs.Steps as mesh
use Rattle.zw_text.specs.declared.entry.Entry.{Entry}
use Rattle.zw_text.specs.declared.entry.Entry.TheVariants.{Heard}
use Rattle.law_transcript.specs.Nodes.{controller}
use Rattle.law_wire.specs.Asked.{Sending}
use Rattle.outside_model.specs.State.{OuterState, Outcome, Outside, outside, each, silent}
use Rattle.outside_model.specs.Chip.{chip_does}
use Rattle.outside_model.specs.Air.{deals}
use Rattle.outside_model.specs.Devices.{acts}
use Rattle.outside_model.specs.Events.{mesh_of, steps}
use Rattle.proof_air.specs.proof_walk.Outside.{Comes, IsHearing}
use Rattle.proof_air.specs.Carrying.{IsHome}
use Rattle.proof_air.proofs.Judging.{both_true}
use Rattle.proof_line.proofs.ChipAccounts.{all_account, all_results, heard_account, steps_account, steps_by}
use Rattle.proof_chip.specs.Knowing.{AnyEntry}
use Rattle.proof_chip.specs.Sending.{AirSo, ComingSo, KnowsAir}
use Rattle.proof_chip.proofs.Bringing.{some_heard}
use Rattle.proof_chip.proofs.Asides.{NotHome, at_apart, other_node}
use Rattle.proof_chip.proofs.Going.{IsNotOwn, account_goes, apart_goes, apart_weaker, chip_so, deals_other, heard_so, less_so}
use Rattle.proof_chip.proofs.Homing.{IsBrought}
use Rattle.proof_chip.proofs.Passing.{IsOther}
use Rattle.proof_chip.proofs.Quieting.{unanswered}

-- ---- what the air tells

-- What is told where a frame is heard is so, where each kind of it is: a frame of a node that is so, too.
module _ (Is : AirEvent → Type 0) (Ok : ℕ → Type 0) (heard_is : (number : ℕ) → Is (tells.Heard number)) (changed_is : (node at : ℕ) → Is (tells.Changed node at))
    (to_chip_is : (number from : ℕ) (payload : List ℕ) → Is (tells.ToChip number from payload))
    (sent_is : (air : AirState) (node : ℕ) (way : Option Route) (reply : List ℕ) → Ok node → Is (sent_event air node way reply)) where
  abbrev Are : List AirEvent → Type 0
  Are events = AllByRecursion Is events

  abbrev AreOk : AirState → Type 0
  AreOk air = (node : ℕ) → is_joined air node ≡ true → Ok node

  answers_are : (air : AirState) (node : ℕ) (way : Option Route) (replies : List (List ℕ)) → Ok node → Are (answers air node way replies)
  answers_are air node way [] ok = tt
  answers_are air node way (reply ∷ replies) ok = (sent_is air node way reply ok, answers_are (departing air node Homeward way reply) node way replies ok)

  sends_are : (joined : Bool) (air : AirState) (node : ℕ) (way : Option Route) (replies : List (List ℕ)) → (joined ≡ true → Ok node) → Are (answers_if joined air node way replies)
  sends_are true air node way replies ok = answers_are air node way replies (ok refl)
  sends_are false air node way replies ok = tt

  changed_are : (node first count : ℕ) → Are (changed node first count)
  changed_are node first zero = tt
  changed_are node first (suc count) = (changed_is node first, changed_are node (first + 1) count)

  at_are : (there : Mesh) (device : Option State) (number node : ℕ) (route : Option Route) (event : DeviceEvent) → AreOk there.air → Are (outs_at there device number node route event)
  at_are there None number node route event ok = tt
  at_are there (Some device) number node route event ok = (
    heard_is number,
    all-append Is (changed node (length device.journal) (length (device_after device event).journal - length device.journal))
        (answers_if (is_joined there.air node) there.air node (option_map backwards route) (device_replies device event))
        (changed_are node (length device.journal) (length (device_after device event).journal - length device.journal))
        (sends_are (is_joined there.air node) there.air node (option_map backwards route) (device_replies device event) (ok node)),
  )

  again_are : (there : Mesh) (place : Option ℕ) (number node : ℕ) (route : Option Route) (event : DeviceEvent) → AreOk there.air → Are (outs_again there place number node route event)
  again_are there None number node route event ok = tt
  again_are there (Some place) number node route event ok = at_are there (slice_get there.devices place) number node route event ok

  repeat_are : (heading : Heading) (there : Mesh) (number : ℕ) (frame : Flown) (drawn : List ℕ) (route : Option Route) → AreOk there.air → Are (repeat_outs_by heading there number frame drawn route)
  repeat_are Homeward there number frame drawn route ok = (heard_is number, (to_chip_is number frame.node frame.payload, tt))
  repeat_are Outward there number frame drawn route ok = again_are there (listener_of frame.node there.devices) number frame.node route (Hears frame.payload drawn) ok

  pub repeats_are : (there : Mesh) (number : ℕ) (frame : Option Flown) (drawn : List ℕ) (route : Option Route) → AreOk there.air → Are (repeat_outs there number frame drawn route)
  repeats_are there number None drawn route ok = tt
  repeats_are there number (Some frame) drawn route ok = repeat_are frame.heading there number frame drawn route ok

abbrev AreNotOwn : List AirEvent → Type 0
AreNotOwn events = AllByRecursion IsNotOwn events

abbrev IsOtherNode : ℕ → Type 0
IsOtherNode node = (node == controller) ≡ false

done_own : (heading : Heading) (number status : ℕ) (dead : Option (ℕ × ℕ)) → AreNotOwn (done_of heading number status dead)
done_own Outward number status dead = (tt, tt)
done_own Homeward number status dead = tt

arrival_own : (there : Mesh) (number : ℕ) (frame : Flown) (fate : Fate) (drawn : List ℕ) (route : Option Route) → NotHome there.air → AreNotOwn (arrival_outs_as there number frame fate drawn route)
arrival_own there number frame Lost drawn route home = (tt, done_own frame.heading number 1 None)
arrival_own there number frame (Dead from to) drawn route home = (tt, done_own frame.heading number 1 (Some (from, to)))
arrival_own there number frame Missed drawn route home = (tt, done_own frame.heading number 1 None)
arrival_own there number frame AtChip drawn route home = (tt, (tt, tt))
arrival_own there number frame (AtDevice place) drawn route home =
    let heard : Mesh = record there { air = landed (acknowledged there.air) } in
    all-append IsNotOwn (outs_at heard (slice_get there.devices place) number frame.node route (Hears frame.payload drawn)) (tells.Done number (status_of there.air) None ∷ [])
    (at_are IsNotOwn IsOtherNode (λ n. tt) (λ node at. tt) (λ n from payload. tt) (λ air node way reply ok. ok) heard (slice_get there.devices place) number frame.node route (Hears frame.payload drawn)
    (λ node joins. other_node there.air node home joins)) (tt, tt)

arrivals_own : (there : Mesh) (next : Option Flown) (drawn : List ℕ) (route : Option Route) → NotHome there.air → AreNotOwn (arrival_outs there next drawn route)
arrivals_own there None drawn route home = tt
arrivals_own there (Some frame) drawn route home = arrival_own there (there.air.frames.landed + 1) frame (fate_of there.air.network there.devices frame) drawn route home

hearing_outs_own : (there : Mesh) (step : AirStep) → IsHearing step → NotHome there.air → AreNotOwn (mesh_outs there step)
unfolding mesh_outs
hearing_outs_own there (mesh.Arrives drawn route) hearing home = arrivals_own there (next_of there.air.frames) drawn route home
hearing_outs_own there (mesh.Repeats number drawn route) hearing home =
    repeats_are IsNotOwn IsOtherNode (λ n. tt) (λ node at. tt) (λ n from payload. tt) (λ air node way reply ok. ok) there number (remembered there.air.frames number) drawn route
    (λ node joins. other_node there.air node home joins)
hearing_outs_own there step hearing home = absurd hearing

-- ---- what goes on

all_other : (there : List State) (events : List AirEvent) (o : OuterState) → AreNotOwn events → AllByRecursion IsOther (each (deals there) o events).entries
all_other there [] o own = tt
all_other there (event ∷ events) o own =
    let one : Outcome = deals there o event in
    all-append IsOther one.entries (each (deals there) one.outer events).entries (deals_other there o event own.0) (all_other there events one.outer own.1)

module _ (devices : List State) (Are : List Sending → Type 0) where
  pub acts_go : (did : List Step) (w : Outside) (place : ℕ) (device : State) (event : DeviceEvent) (route : Option Route) → NotHome w.outer.air
      → Comes AnyEntry (KnowsAir devices Are did) w (acts w.outer device event route) (slice_set w.devices place (device_after device event)) (KnowsAir devices Are did)
  acts_go did w place device event route home =
      apart_goes devices Are did w (outside (acts w.outer device event route).outer (slice_set w.devices place (device_after device event))) (acts w.outer device event route).entries
      (apart_weaker (acts w.outer device event route).entries (at_apart w.outer (Some device) event route home)) refl

  abbrev AllGo : List State → List AirEvent → OuterState → List Step → List Entry → Type 0
  AllGo there events o did past =
      AirSo devices Are (did ++ steps_by (all_account there events o)) (past ++ (each (deals there) o events).entries) (each (deals there) o events).outer.chip.state.port

  -- a payload that is heard comes to the chip
  comes_so : (o : OuterState) (did : List Step) (past : List Entry) (from : ℕ) (payload : List ℕ) (b : Bool) → (nat_le 1 (length payload) && nat_le (length payload) 46) ≡ b
      → ComingSo devices Are (record { node = from; payload = payload } ∷ []) did past o.chip.state.port
      → AirSo devices Are (did ++ steps_by (heard_account b o from payload)) (past ++ (if b then chip_does o (chip_hears from payload) else silent o).entries)
      (if b then chip_does o (chip_hears from payload) else silent o).outer.chip.state.port
  comes_so o did past from payload true is knows =
      let some = leb-true 1 (length payload) (both_true (nat_le 1 (length payload)) (nat_le (length payload) 46) is).0 in
      chip_so devices Are (record { node = from; payload = payload } ∷ []) did past o (chip_hears from payload) (unanswered (collides o.chip.state) (chip_hears from payload) tt)
      (λ frames was. some_heard frames o.chip.state from payload past some was) knows
  comes_so o did past from payload false is knows =
      subst (λ (l : List Step). AirSo devices Are l (past ++ []) o.chip.state.port) (sym (append-nil did))
      (subst (λ (l : List Entry). AirSo devices Are did l o.chip.state.port) (sym (append-nil past)) (less_so devices Are (record { node = from; payload = payload } ∷ []) did past o.chip.state.port knows))

  one_so : (there : List State) (o : OuterState) (did : List Step) (past : List Entry) (number from : ℕ) (payload : List ℕ) → IsHome past number from payload → AirSo devices Are did past o.chip.state.port
      → AllGo there (tells.Heard number ∷ tells.ToChip number from payload ∷ []) o did past
  one_so there o did past number from payload home knows =
      let b : Bool = nat_le 1 (length payload) && nat_le (length payload) 46 in
      let x : Outcome = if b then chip_does o (chip_hears from payload) else silent o in
      let here : List Entry = past ++ Heard number ∷ [] in
      let got = comes_so o did here from payload b refl (heard_so devices Are did past o.chip.state.port number (record { node = from; payload = payload } ∷ []) home knows) in
      let told : here ++ x.entries ≡ past ++ (Heard number ∷ (x.entries ++ [])) =
      append_assoc past (Heard number ∷ []) x.entries ∙ ap (λ (l : List Entry). past ++ Heard number ∷ l) (sym (append-nil x.entries)) in
      subst (λ (l : List Step). AirSo devices Are (did ++ l) (past ++ (Heard number ∷ (x.entries ++ []))) x.outer.chip.state.port) (sym (append-nil (steps_by (heard_account b o from payload))))
      (subst (λ (l : List Entry). AirSo devices Are (did ++ steps_by (heard_account b o from payload)) l x.outer.chip.state.port) told got)

  all_go : (there : List State) (events : List AirEvent) (o : OuterState) (did : List Step) (past : List Entry) → AreNotOwn events → IsBrought past events → AirSo devices Are did past o.chip.state.port
      → AllGo there events o did past
  all_go there events o did past own (inl none) knows =
      (account_goes devices Are there did (all_account there events o) (all_other there events o own) (all_results there events o none) false past (λ (is : false ≡ true). absurd cc) knows).1
  all_go there events o did past own (inr one) knows =
      subst (λ (l : List AirEvent). AllGo there l o did past) (sym one.are) (one_so there o did past one.number one.from one.payload one.home knows)

  pub steps_go : (did : List Step) (w : Outside) (step : AirStep) → IsHearing step → NotHome w.outer.air → (past : List Entry) → IsBrought past (mesh_outs (mesh_of w) step)
      → AirSo devices Are did past w.outer.chip.state.port
      → AirSo devices Are (did ++ steps_by (steps_account w step)) (past ++ (steps w step).entries) (steps w step).outer.chip.state.port
  unfolding steps_account
  steps_go did w step hearing home past brought knows =
      all_go (mesh_after (mesh_of w) step).devices (mesh_outs (mesh_of w) step) (record w.outer { air = (mesh_after (mesh_of w) step).air }) did past (hearing_outs_own (mesh_of w) step hearing home) brought knows
