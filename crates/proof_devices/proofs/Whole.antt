-- Where no line runs, the first device of a node has had what the transcript shows, in the ticks that lines ask for.
use Rattle.std.proofs.Common.{◌≡◌, ◌≢◌, ℕ, suc, ◌==◌, Bool, true, false, if◌then◌else◌, List, [], ◌∷◌, refl, sym, ap, subst, ◌∙◌}
use Rattle.std.proofs.lemmas.Bool.{eqb-true}
use Rattle.std.specs.Prelude.{Some, slice_get}
use Rattle.std.specs.Option.{option_map}
use Rattle.device_sim.specs.State.{State}
use Rattle.mesh_sim.specs.Fates.{place_of}
use Rattle.zw_text.specs.declared.entry.Entry.{Entry}
use Rattle.zw_text.specs.Transcript.{lines_run, made}
use Rattle.law_transcript.specs.Devices.{CameAsShown, RanAsShown, brought, replies_joined, sent_from}
use Rattle.law_transcript.specs.Nodes.{controller, device_of}
use Rattle.law_transcript.specs.Restarts.{ticks_asked}
use Rattle.world_model.specs.State.{Machine}
use Rattle.proof_air.specs.proof_device.Showing.{AllShow}
use Rattle.proof_air.proofs.DevicePlaces.{go_same}
use Rattle.proof_devices.specs.Living.{Answers, Keeping, LivedWith, Rested, RestedWith, Simply, AllLivedAsShown}
use Rattle.proof_devices.proofs.Changes.{show_at}
use Rattle.proof_devices.proofs.Places.{same_place}

-- where the first device of a node stands
pub record StandsAt (node : ℕ) (devices : List State) (device : State) : Type 0 where
  pub place : ℕ
  pub first : place_of node devices ≡ Some place
  pub stood : slice_get devices place ≡ Some device
  pub own : device.node ≡ node

pub stands_at : (node : ℕ) (devices : List State) (device : State) → device_of node devices ≡ Some device → StandsAt node devices device
stands_at node [] device found = absurd cc
stands_at node (first ∷ devices) device found = by (first.node == node) refl (λ there. stands_at node devices device there) found
  where
    by : (b : Bool) → (first.node == node) ≡ b → (device_of node devices ≡ Some device → StandsAt node devices device) → (if b then Some first else device_of node devices) ≡ Some device → StandsAt node (first ∷ devices) device
    by true is later found =
        let one : first ≡ device = cc in
        record { place = 0; first = ap (λ (b : Bool). if b then Some 0 else option_map suc (place_of node devices)) is; stood = found; own = ap (λ (d : State). d.node) (sym one) ∙ eqb-true first.node node is }
    by false is later found =
        let rest = later found in
        record {
          place = suc rest.place;
          first = ap (λ (b : Bool). if b then Some 0 else option_map suc (place_of node devices)) is ∙ ap (option_map suc) rest.first;
          stood = rest.stood;
          own = rest.own;
        }

-- what is known of all is known of it
module _ (Also : Keeping) (olds : List State) (past : List Entry) (m : Machine) (rested : RestedWith Also olds past m) (node : ℕ) (old new : State) (apart : node ≢ controller)
    (before : device_of node olds ≡ Some old) (after : device_of node m.outside.devices ≡ Some new) where
  was : StandsAt node olds old
  was = stands_at node olds old before

  now_there : slice_get m.outside.devices was.place ≡ Some new
  now_there =
      let now = stands_at node m.outside.devices new after in
      let places : Some was.place ≡ Some now.place = sym was.first ∙ (sym (same_place node olds m.outside.devices (go_same olds m.outside.devices rested.go)) ∙ now.first) in
      let same : now.place ≡ was.place = cc in
      ap (λ (k : ℕ). slice_get m.outside.devices k) (sym same) ∙ now.stood

  lived_so : LivedWith (Also past old) m.outside.outer.clock (brought old.node past) old new
  lived_so = rested.live was.place old new was.stood (ap (λ (n : ℕ). place_of n olds) was.own ∙ was.first) (λ is. apart (sym was.own ∙ is)) now_there

  came_so : m.outside.outer.clock ≡ ticks_asked (lines_run past) → CameAsShown node past lived_so.events
  came_so time = record { came = lived_so.comes ∙ ap (λ (n : ℕ). brought n past) was.own; ticked = lived_so.ticked ∙ time }

pub whole_lived : (olds : List State) (past : List Entry) (m : Machine) → m.outside.outer.clock ≡ ticks_asked (lines_run past) → Rested olds past m → AllLivedAsShown olds past m.outside.devices
whole_lived olds past m time rested node old new apart before after =
    let lived = lived_so Simply olds past m rested node old new apart before after in
    record { events = lived.events; runs = lived.runs; comes = came_so Simply olds past m rested node old new apart before after time }

-- with its changes and its frames
pub whole_ran : (olds : List State) (past : List Entry) (m : Machine) → m.outside.outer.clock ≡ ticks_asked (lines_run past) → RestedWith Answers olds past m → AllShow past olds m.outside.devices
    → (node : ℕ) (old new : State) → node ≢ controller → device_of node olds ≡ Some old → device_of node m.outside.devices ≡ Some new → RanAsShown node past old new
whole_ran olds past m time rested shows node old new apart before after =
    let there = was Answers olds past m rested node old new apart before after in
    let lived = lived_so Answers olds past m rested node old new apart before after in
    let shown = show_at past olds m.outside.devices there.place old new shows there.stood (now_there Answers olds past m rested node old new apart before after) in
    record {
      events = lived.events;
      runs = lived.runs;
      comes = came_so Answers olds past m rested node old new apart before after time;
      shows = record { changes = shown.changes; changed = shown.changed; entered = ap (λ (n : ℕ). made n past) (sym there.own) ∙ shown.entered };
      answered = subst (λ (n : ℕ). sent_from n past ≡ replies_joined n past old lived.events) there.own lived.also.answered;
    }
