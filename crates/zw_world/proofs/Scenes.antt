-- What calls of the parts of a world are as events of the machine, beside those of `world_step`.
use Rattle.std.proofs.Common.{◌≡◌, ℕ, ◌≤◌, true, List, [], ◌∷◌, ◌++◌, refl, ap, sym, ◌∙◌, subst}
use Rattle.std.specs.Prelude.{Option, Some, None}
use Rattle.std.proofs.lemmas.List.{append-nil}
use Rattle.s0_crypto.specs.declared.key_pair.Keys.{Keys}
use Rattle.device_sim.specs.State.{State}
use Rattle.zw_text.specs.declared.line.Line.{Line}
use Rattle.zw_text.specs.declared.entry.Entry.{Entry}
use Rattle.zw_text.specs.declared.entry.Entry.TheVariants.{Refused as refused_entry}
use Rattle.zw_text.specs.declared.entry.Refusal.{Refusal}
use Rattle.host_keep.specs.Keeping.{OptAdds}
use Rattle.host_model.specs.State.{HostParts}
use Rattle.host_model.specs.Did.{RoseIf}
use Rattle.host_model.proofs.EventLists.{rose_one}
use Rattle.outside_model.specs.State.{OuterState, Outside, outside}
use Rattle.outside_model.specs.Events.{OuterEvent, Host_notes, is_own}
use Rattle.outside_model.specs.Did.{Run as RunOutside, Goes, GoesFor, PrefixOf as PrefixOfOutside, Stops as StopsOutside}
use Rattle.outside_model.specs.Schedules.{IsOne as IsOneOutside}
use Rattle.world_model.specs.State.{Machine, machine, with_outside}
use Rattle.world_model.specs.Refusals.{IsRefused}
use Rattle.world_model.specs.Events.{Event, Outside_does, Refuses, happens, entries, May}
use Rattle.world_model.specs.Did.{Schedule, Scene, Run, Does, PrefixOf, Stops, These}
use Rattle.host_model.specs.Refusals.{is_keeper_fault}
use Rattle.world_model.specs.Settling.{Outside as OutsideOf}
use Rattle.world_model.proofs.EventLists.{counted_one}
use Rattle.world_model.proofs.Outside.{ran_outside}
use Rattle.world_step.specs.Scene.{scene_of}
use Rattle.world_step.proofs.Scenes.{stopped_out, prefixes_of, prefix_of}
use Rattle.host_core.specs.Calls.{shelf_of}

-- no record was added
pub none_more : (r r' : Option (List (List ℕ))) → OptAdds r r' [] → r' ≡ r
none_more None r' adds = adds
none_more (Some kept) r' adds = adds ∙ ap (λ (l : List (List ℕ)). Some l) (append-nil kept)

-- ---- events outside the host

-- what enters nothing
pub quiet_run : (es : List OuterEvent) (w w' : Outside) (before : List Entry) → RunOutside es w w' [] [] → RunOutside es w w' before before
quiet_run es w w' before went =
    record { may = went.may; state = went.state; entries = sym (append-nil before) ∙ ap (λ (l : List Entry). before ++ l) went.entries }

-- one with these devices
pub did_run : (e : OuterEvent) (keys : Keys) (host : HostParts) (o o' : OuterState) (ds : List State) (r : Option (List (List ℕ))) (before all : List Entry) (f : ℕ)
    → is_own e ≡ true → GoesFor ds (IsOneOutside e) o o' before all
    → Does (These (Outside_does e ∷ [])) (scene_of keys host o ds (shelf_of r f) before) (scene_of keys host o' ds (shelf_of r f) all)
did_run e keys host o o' ds r before all f own (es, are, run) =
    (Outside_does e ∷ [], refl, ran_outside (e ∷ []) (machine keys host o r ds) (outside o' ds) before all f (own, tt) (subst (λ (l : List OuterEvent). RunOutside l (outside o ds) (outside o' ds) before all) are run))

-- some of a kind were done in part
pub stopped_of : (Kind : List OuterEvent → Type 0) (keys keys' : Keys) (host host' : HostParts) (o o' : OuterState) (ds ds' : List State) (r : Option (List (List ℕ))) (before all : List Entry) (f : ℕ)
    → StopsOutside (PrefixOfOutside Kind) (outside o ds) ds' before all
    → Stops (PrefixOf (λ (m : Machine) (es : List Event). OutsideOf Kind es)) (scene_of keys host o ds (shelf_of r f) before) (scene_of keys' host' o' ds' (shelf_of r f) all)
stopped_of Kind keys keys' host host' o o' ds ds' r before all f stops =
    stopped_out (PrefixOf (λ (m : Machine) (es : List Event). OutsideOf Kind es)) (PrefixOfOutside Kind) keys keys' host host' o o' ds ds' r before all f (prefixes_of Kind) (prefix_of Kind (machine keys host o r ds)) stops

-- ---- a line is refused

pub ran_refuses : (line : Line) (refusal : Refusal) (keys : Keys) (host : HostParts) (o o' : OuterState) (ds : List State) (r : Option (List (List ℕ))) (before all : List Entry) (f g : ℕ)
    → IsRefused (machine keys host o r ds) line refusal → Goes (Host_notes (refused_entry refusal) ∷ []) o o' before all → RoseIf (is_keeper_fault refusal) f g → f ≤ g
    → Run (Refuses line refusal ∷ []) (scene_of keys host o ds (shelf_of r f) before) (scene_of keys host o' ds (shelf_of r g) all)
unfolding happens entries May
ran_refuses line refusal keys host o o' ds r before all f g may goes rose falls =
    let went = goes ds in
    record {
      may = (may, tt);
      state = ap (λ (w : Outside). with_outside (machine keys host o r ds) w) went.state;
      entries = went.entries;
      counted = counted_one (Refuses line refusal) f g (rose_one (is_keeper_fault refusal) f g falls rose) falls;
    }

-- ---- a part that a call leaves alone

-- the same host and keys at the end
pub did_as : (Kind : Schedule) (s : Scene) (keys keys' : Keys) (host host' : HostParts) (o : OuterState) (ds : List State) (r : Option (List (List ℕ))) (all : List Entry) (f : ℕ)
    → keys' ≡ keys → host' ≡ host → Does Kind s (scene_of keys host o ds (shelf_of r f) all) → Does Kind s (scene_of keys' host' o ds (shelf_of r f) all)
did_as Kind s keys keys' host host' o ds r all f same_keys same_host done =
    subst (λ (k : Keys). Does Kind s (scene_of k host' o ds (shelf_of r f) all)) (sym same_keys) (subst (λ (h : HostParts). Does Kind s (scene_of keys h o ds (shelf_of r f) all)) (sym same_host) done)
