-- A host that starts from the records goes on in place of the one before.
use Rattle.std.proofs.Common.{◌≡◌, ℕ, ◌≤◌, List, [], ◌∷◌, map, refl, ap, sym, subst, inl, inr, arith}
use Rattle.std.specs.Prelude.{Option, Some, None, Result, Ok, Err, OnOk}
use Rattle.std.proofs.lemmas.List.{append-nil}
use Rattle.zw_base.specs.Faults.{Rose}
use Rattle.serial_frame.specs.Stream.{Rest}
use Rattle.s0_crypto.specs.declared.key_pair.Keys.{Keys}
use Rattle.device_sim.specs.State.{State}
use Rattle.zw_words.specs.declared.side.Side.TheVariants as side
use Rattle.zw_text.specs.declared.line.Line.TheVariants.{Restart}
use Rattle.zw_text.specs.declared.entry.Entry.{Entry}
use Rattle.zw_text.specs.declared.entry.Entry.TheVariants.{Refused as refused_entry}
use Rattle.zw_text.specs.declared.entry.Refusal.{Refusal}
use Rattle.zw_text.specs.declared.entry.Refusal.TheVariants.{KeeperFault as keeper_fault}
use Rattle.host_keep.specs.Keeping.{OptAdds}
use Rattle.host_keep.specs.Legal.{IsFirstBad}
use Rattle.host_model.specs.State.{HostParts}
use Rattle.host_model.specs.Did.{RoseIf}
use Rattle.host_core.specs.Opening.{Opens}
use Rattle.host_core.specs.declared.opening.OpenFault.{OpenFault}
use Rattle.host_core.specs.declared.opening.OpenFault.TheVariants as opening
use Rattle.outside_model.specs.State.{OuterState, outside}
use Rattle.outside_model.specs.Events.{OuterEvent, Clears_pipe, Host_notes}
use Rattle.outside_model.specs.Did.{Goes}
use Rattle.outside_model.proofs.EventLists.{ran_both as ran_both_outside}
use Rattle.world_model.specs.State.{Machine, machine}
use Rattle.world_model.specs.Refusals.{IsUnopened, HasBad}
use Rattle.world_model.specs.Events.{Event, Outside_does, Refuses, Restarts, OpensFrom, happens, entries, May}
use Rattle.world_model.specs.Did.{Nothing, Run, Does, Stops}
use Rattle.host_model.specs.Refusals.{is_keeper_fault}
use Rattle.world_model.specs.Prefixes.{RestartPrefix}
use Rattle.world_model.specs.Lines.{IsRestart, restart_events}
use Rattle.world_model.proofs.EventLists.{counted_kept, ran_both, stopped_later}
use Rattle.world_model.proofs.Outside.{ran_outside}
use Rattle.world_step.specs.Scene.{scene_of}
use Rattle.world_step.proofs.Scenes.{stopped_still}
use Rattle.zw_world.specs.Effects.{ClearsInPart, shown_unopened}
use Rattle.world_model.proofs.Hosting.{stopped_by}
use Rattle.zw_world.proofs.Scenes.{ran_refuses, none_more, did_as}
use Rattle.host_core.proofs.Refusing.{fault_in, IsNothing}
use Rattle.host_core.specs.Calls.{shelf_of}

-- ---- the new host

opens_from : (keys : Keys) (number : ℕ) (r : Option (List (List ℕ))) (host : HostParts) → Opens keys number r host → OpensFrom keys r host.state
opens_from keys number None host opens = tt
opens_from keys number (Some texts) host opens = (opens.records, opens.are, opens.legal, ap (λ (h : HostParts). h.state) opens.state)

starts : (keys : Keys) (number : ℕ) (host host' : HostParts) (o : OuterState) (ds : List State) (r : Option (List (List ℕ))) (before : List Entry) (f g : ℕ)
    → Opens keys number r host' → f ≤ g → Run (Restarts host'.state ∷ []) (scene_of keys host o ds (shelf_of r f) before) (scene_of keys host' o ds (shelf_of r g) before)
unfolding happens entries May
starts keys number host host' o ds r before f g opens falls = record {
  may = (opens_from keys number r host' opens, tt);
  state = ap (λ (d : Rest). machine keys (record { decoder = d; state = host'.state }) o r ds) (ap (λ (h : HostParts). h.decoder) opens.state);
  entries = sym (append-nil before);
  counted = counted_kept (Restarts host'.state) f g refl falls;
}

pub restarted : (keys : Keys) (number : ℕ) (host host' : HostParts) (o o' : OuterState) (ds : List State) (r r' : Option (List (List ℕ))) (before all : List Entry) (f g : ℕ)
    → Opens keys number r host' → OptAdds r r' [] → f ≤ g → Goes (Clears_pipe side.Host ∷ Clears_pipe side.Chip ∷ []) o o' before all
    → Does (λ (m : Machine) (es : List Event). IsRestart es) (scene_of keys host o ds (shelf_of r f) before) (scene_of keys host' o' ds (shelf_of r' g) all)
restarted keys number host host' o o' ds r r' before all f g opens kept falls goes =
    let es = Clears_pipe side.Host ∷ Clears_pipe side.Chip ∷ [] in
    let ran : Run (Restarts host'.state ∷ map Outside_does es) (scene_of keys host o ds (shelf_of r f) before) (scene_of keys host' o' ds (shelf_of r g) all) =
    ran_both (Restarts host'.state ∷ []) (map Outside_does es) (scene_of keys host o ds (shelf_of r f) before) (scene_of keys host' o ds (shelf_of r g) before) (scene_of keys host' o' ds (shelf_of r g) all)
    (starts keys number host host' o ds r before f g opens falls)
    (ran_outside es (machine keys host' o r ds) (outside o' ds) before all g (refl, (refl, tt)) (goes ds)) in (
      restart_events host'.state,
      inl (host'.state, refl),
      subst (λ (x : Option (List (List ℕ))). Run (restart_events host'.state) (scene_of keys host o ds (shelf_of r f) before) (scene_of keys host' o' ds (shelf_of x g) all)) (sym (none_more r r' kept)) ran,
    )

-- for lack of memory the bytes to the chip alone were lost, or none
started_alone : (keys keys' : Keys) (number : ℕ) (host host' host'' : HostParts) (o o' : OuterState) (ds : List State) (r : Option (List (List ℕ))) (before all : List Entry) (f g : ℕ)
    → Opens keys number r host' → f ≤ g → all ≡ before → Stops RestartPrefix (scene_of keys host o ds (shelf_of r f) before) (scene_of keys' host'' o' ds (shelf_of r g) all)
unfolding happens May
started_alone keys keys' number host host' host'' o o' ds r before all f g opens falls same =
    stopped_by RestartPrefix (Restarts host'.state ∷ []) (machine keys host o r ds) (machine keys' host'' o' r ds) before all f g (inl refl) (tt, tt) (opens_from keys number r host' opens, tt) refl refl same falls

cleared_one : (keys keys' : Keys) (number : ℕ) (host host' host'' : HostParts) (o mid o' : OuterState) (ds : List State) (r : Option (List (List ℕ))) (before all : List Entry) (f g : ℕ)
    → Opens keys number r host' → f ≤ g → Goes (Clears_pipe side.Host ∷ []) o mid before all → Stops RestartPrefix (scene_of keys host o ds (shelf_of r f) before) (scene_of keys' host'' o' ds (shelf_of r g) all)
cleared_one keys keys' number host host' host'' o mid o' ds r before all f g opens falls goes =
    let cleared : List Event = Outside_does (Clears_pipe side.Host) ∷ [] in
    let ran : Run (Restarts host'.state ∷ cleared) (scene_of keys host o ds (shelf_of r f) before) (scene_of keys host' mid ds (shelf_of r g) all) =
    ran_both (Restarts host'.state ∷ []) cleared (scene_of keys host o ds (shelf_of r f) before) (scene_of keys host' o ds (shelf_of r g) before) (scene_of keys host' mid ds (shelf_of r g) all)
    (starts keys number host host' o ds r before f g opens falls)
    (ran_outside (Clears_pipe side.Host ∷ []) (machine keys host' o r ds) (outside mid ds) before all g (refl, tt) (goes ds)) in
    stopped_later RestartPrefix Nothing (Restarts host'.state ∷ cleared) (scene_of keys host o ds (shelf_of r f) before) (scene_of keys host' mid ds (shelf_of r g) all) (scene_of keys' host'' o' ds (shelf_of r g) all)
    (λ events none. inr (host'.state, ap (λ (l : List Event). Restarts host'.state ∷ Outside_does (Clears_pipe side.Host) ∷ l) none)) ran
    (stopped_still Nothing keys keys' host' host'' mid o' ds r r all all g g refl refl refl (omega arith))

pub restart_stops : (keys keys' : Keys) (number : ℕ) (host host' host'' : HostParts) (o o' : OuterState) (ds : List State) (r r' : Option (List (List ℕ))) (before all : List Entry) (f g : ℕ)
    → Opens keys number r host' → OptAdds r r' [] → f ≤ g → ClearsInPart o before all
    → Stops RestartPrefix (scene_of keys host o ds (shelf_of r f) before) (scene_of keys' host'' o' ds (shelf_of r' g) all)
restart_stops keys keys' number host host' host'' o o' ds r r' before all f g opens kept falls stops =
    subst (λ (x : Option (List (List ℕ))). Stops RestartPrefix (scene_of keys host o ds (shelf_of r f) before) (scene_of keys' host'' o' ds (shelf_of x g) all)) (sym (none_more r r' kept)) (by stops)
  where
    by : ClearsInPart o before all → Stops RestartPrefix (scene_of keys host o ds (shelf_of r f) before) (scene_of keys' host'' o' ds (shelf_of r g) all)
    by (inl same) = started_alone keys keys' number host host' host'' o o' ds r before all f g opens falls same
    by (inr (mid, goes)) = cleared_one keys keys' number host host' host'' o mid o' ds r before all f g opens falls goes

-- ---- two pipes are cleared

pub clears_both : (a b : OuterEvent) (o mid o' : OuterState) (before some all : List Entry) → Goes (a ∷ []) o mid before some → Goes (b ∷ []) mid o' some all → Goes (a ∷ b ∷ []) o o' before all
clears_both a b o mid o' before some all first later ds = ran_both_outside (a ∷ []) (b ∷ []) (outside o ds) (outside mid ds) (outside o' ds) before some all (first ds) (later ds)

-- ---- no host

unopened_as : (r : Option (List (List ℕ))) (answer : OpenFault) (entered : Refusal) → shown_unopened answer ≡ Some entered
    → ((at : ℕ) (texts : List (List ℕ)) → answer ≡ opening.BadRecord at → r ≡ Some texts → IsFirstBad texts at) → IsUnopened r entered
unopened_as r opening.KeeperFault entered seen bad = inl (sym (ap given seen))
  where
    given : Option Refusal → Refusal
    given None = keeper_fault
    given (Some x) = x
unopened_as r (opening.BadRecord at) entered seen bad = inr (at, has_bad r (λ texts told. bad at texts refl told), sym (ap given seen))
  where
    given : Option Refusal → Refusal
    given None = keeper_fault
    given (Some x) = x

    has_bad : (r : Option (List (List ℕ))) → ((texts : List (List ℕ)) → r ≡ Some texts → IsFirstBad texts at) → HasBad r at
    has_bad None bad = tt
    has_bad (Some texts) bad = bad texts refl
unopened_as r opening.NoMemory entered seen bad = absurd (subst IsNothing seen tt)

unopened_rose : (fault : OpenFault) (entered : Refusal) (f g : ℕ) → shown_unopened fault ≡ Some entered → (fault ≡ opening.KeeperFault → Rose f g) → RoseIf (is_keeper_fault entered) f g
unopened_rose fault entered f g seen rose = subst (λ (x : Option Refusal). RoseIf (fault_in x) f g) seen (by_fault fault rose)
  where
    by_fault : (fault : OpenFault) → (fault ≡ opening.KeeperFault → Rose f g) → RoseIf (fault_in (shown_unopened fault)) f g
    by_fault opening.KeeperFault rose = rose refl
    by_fault (opening.BadRecord at) rose = tt
    by_fault opening.NoMemory rose = tt

pub unopened : (fault : OpenFault) (entered : Refusal) (keys : Keys) (host host' : HostParts) (o o' : OuterState) (ds : List State) (r r' : Option (List (List ℕ))) (before all : List Entry) (f g : ℕ)
    → host' ≡ host → OptAdds r r' [] → shown_unopened fault ≡ Some entered
    → ((at : ℕ) (texts : List (List ℕ)) → fault ≡ opening.BadRecord at → r ≡ Some texts → IsFirstBad texts at) → (fault ≡ opening.KeeperFault → Rose f g) → f ≤ g
    → Goes (Host_notes (refused_entry entered) ∷ []) o o' before all
    → Does (λ (m : Machine) (es : List Event). IsRestart es) (scene_of keys host o ds (shelf_of r f) before) (scene_of keys host' o' ds (shelf_of r' g) all)
unopened fault entered keys host host' o o' ds r r' before all f g same kept seen bad rose falls goes = (
  Refuses Restart entered ∷ [],
  inr (entered, refl),
  subst (λ (x : Option (List (List ℕ))). Run (Refuses Restart entered ∷ []) (scene_of keys host o ds (shelf_of r f) before) (scene_of keys host' o' ds (shelf_of x g) all)) (sym (none_more r r' kept))
      (subst (λ (x : HostParts). Run (Refuses Restart entered ∷ []) (scene_of keys host o ds (shelf_of r f) before) (scene_of keys x o' ds (shelf_of r g) all)) (sym same)
      (ran_refuses Restart entered keys host o o' ds r before all f g (unopened_as r fault entered seen bad) goes (unopened_rose fault entered f g seen rose) falls)),
)

-- ---- in all

pub restarted_all : {T E : Type 0} (answer : Result T E) (keys keys' : Keys) (number : ℕ) (host mid host' : HostParts) (o o' : OuterState) (r r' : Option (List (List ℕ))) (before all : List Entry) (f g : ℕ)
    → Opens keys number r mid → OptAdds r r' [] → f ≤ g → keys' ≡ keys → OnOk answer (Goes (Clears_pipe side.Host ∷ Clears_pipe side.Chip ∷ []) o o' before all) → OnOk answer (host' ≡ mid)
    → OnOk answer ((ds : List State) → Does (λ (m : Machine) (es : List Event). IsRestart es) (scene_of keys host o ds (shelf_of r f) before) (scene_of keys' host' o' ds (shelf_of r' g) all))
restarted_all (Err fault) keys keys' number host mid host' o o' r r' before all f g opens kept falls same_keys goes same_host = tt
restarted_all (Ok value) keys keys' number host mid host' o o' r r' before all f g opens kept falls same_keys goes same_host = λ ds.
    did_as (λ (m : Machine) (es : List Event). IsRestart es) (scene_of keys host o ds (shelf_of r f) before) keys keys' mid host' o' ds r' all g same_keys same_host
    (restarted keys number host mid o o' ds r r' before all f g opens kept falls goes)

pub unopened_all : {T E : Type 0} (answer : Result T E) (fault : OpenFault) (keys keys' : Keys) (host host' : HostParts) (o o' : OuterState) (r r' : Option (List (List ℕ))) (before all : List Entry) (f g : ℕ)
    → host' ≡ host → OptAdds r r' []
    → ((at : ℕ) (texts : List (List ℕ)) → fault ≡ opening.BadRecord at → r ≡ Some texts → IsFirstBad texts at) → (fault ≡ opening.KeeperFault → Rose f g) → f ≤ g → keys' ≡ keys
    → OnOk answer ((entered : Refusal) × (shown_unopened fault ≡ Some entered) × Goes (Host_notes (refused_entry entered) ∷ []) o o' before all)
    → OnOk answer ((ds : List State) → Does (λ (m : Machine) (es : List Event). IsRestart es) (scene_of keys host o ds (shelf_of r f) before) (scene_of keys' host' o' ds (shelf_of r' g) all))
unopened_all (Err wanting) fault keys keys' host host' o o' r r' before all f g same kept bad rose falls same_keys goes = tt
unopened_all (Ok value) fault keys keys' host host' o o' r r' before all f g same kept bad rose falls same_keys (entered, seen, goes) = λ ds.
    did_as (λ (m : Machine) (es : List Event). IsRestart es) (scene_of keys host o ds (shelf_of r f) before) keys keys' host' host' o' ds r' all g same_keys refl
    (unopened fault entered keys host host' o o' ds r r' before all f g same kept seen bad rose falls goes)
