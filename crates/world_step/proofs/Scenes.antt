-- What calls of the parts of a world are as events of the machine, whatever stands beside them.
use Rattle.std.proofs.Common.{◌≡◌, ℕ, ◌≤◌, true, List, [], ◌∷◌, ◌++◌, map, refl, ap, sym, ◌∙◌, subst, append_assoc, arith, inr}
use Rattle.std.specs.Prelude.{Option, Result, Ok, Err, OnOk, OnErr}
use Rattle.std.proofs.lemmas.List.{append-nil, map-append}
use Rattle.serial_frame.specs.Stream.{Rest, after_tick}
use Rattle.s0_crypto.specs.declared.key_pair.Keys.{Keys}
use Rattle.device_sim.specs.State.{State}
use Rattle.zw_text.specs.declared.entry.Entry.{Entry}
use Rattle.host_model.specs.Outs.{Silent}
use Rattle.host_model.specs.State.{HostState, HostParts}
use Rattle.host_model.specs.Events.{HostEvent}
use Rattle.host_model.specs.Did.{Did}
use Rattle.host_model.specs.declared.out.HostOut.{HostOut}
use Rattle.outside_model.specs.State.{OuterState, outside}
use Rattle.outside_model.specs.Events.{OuterEvent, is_own, AreOwn}
use Rattle.outside_model.specs.Did.{RunOf, Goes, GoesOf, PrefixOf as PrefixOfOutside, Stops as StopsOutside}
use Rattle.outside_model.proofs.EventLists.{ran_nothing as ran_nothing_outside}
use Rattle.world_model.specs.State.{Machine, machine, routed}
use Rattle.world_model.specs.Events.{Event, Outside_does, Host_does, Decoder_ticks, happens, entries, May}
use Rattle.world_model.specs.Did.{Schedule, Run, Does, Nothing, PrefixOf, Stops, These}
use Rattle.world_model.specs.Settling.{Outside as OutsideOf}
use Rattle.world_model.proofs.Outside.{ran_outside, stopped_outside}
use Rattle.world_model.proofs.EventLists.{counted_kept}
use Rattle.world_model.proofs.Hosting.{ran_host, stopped_host, stopped_by}
use Rattle.world_model.proofs.Schedules.{did_outside}
use Rattle.world_step.specs.Scene.{scene_of}
use Rattle.host_core.specs.Calls.{shelf_of}

-- ---- what holds is left by Ok or by Err

pub ok_then : {T E P Q : Type 0} (r : Result T E) → OnOk r P → (P → Q) → OnOk r Q
ok_then (Ok x) p go = go p
ok_then (Err e) p go = tt

pub err_then : {T E P Q : Type 0} (r : Result T E) → OnErr r P → (P → Q) → OnErr r Q
err_then (Ok x) p go = tt
err_then (Err e) p go = go p

-- nothing was done, for lack of memory
pub stopped_still : (Prefix : Schedule) (keys keys' : Keys) (host host' : HostParts) (o o' : OuterState) (ds : List State) (r r' : Option (List (List ℕ))) (before all : List Entry) (f g : ℕ)
    → Prefix (machine keys host o r ds) [] → r' ≡ r → all ≡ before → f ≤ g → Stops Prefix (scene_of keys host o ds (shelf_of r f) before) (scene_of keys' host' o' ds (shelf_of r' g) all)
stopped_still Prefix keys keys' host host' o o' ds r r' before all f g none kept same falls =
    stopped_by Prefix [] (machine keys host o r ds) (machine keys' host' o' r' ds) before all f g none tt tt refl kept same falls

-- ---- events outside the host

-- what enters nothing
pub quiet_goes : (es : List OuterEvent) (o o' : OuterState) (before : List Entry) → Goes es o o' [] [] → Goes es o o' before before
quiet_goes es o o' before goes ds =
    let went = goes ds in
    record { may = went.may; state = went.state; entries = sym (append-nil before) ∙ ap (λ (l : List Entry). before ++ l) went.entries }

pub nothing_goes : (o : OuterState) (before : List Entry) → Goes [] o o before before
nothing_goes o before ds = ran_nothing_outside (outside o ds) before

-- one event
pub did_one : (e : OuterEvent) (keys : Keys) (host : HostParts) (o o' : OuterState) (ds : List State) (r : Option (List (List ℕ))) (before all : List Entry) (f : ℕ)
    → is_own e ≡ true → Goes (e ∷ []) o o' before all
    → Does (These (Outside_does e ∷ [])) (scene_of keys host o ds (shelf_of r f) before) (scene_of keys host o' ds (shelf_of r f) all)
did_one e keys host o o' ds r before all f own goes =
    (Outside_does e ∷ [], refl, ran_outside (e ∷ []) (machine keys host o r ds) (outside o' ds) before all f (own, tt) (goes ds))

pub did_quiet : (e : OuterEvent) (keys : Keys) (host : HostParts) (o o' : OuterState) (ds : List State) (r : Option (List (List ℕ))) (before : List Entry) (f : ℕ)
    → is_own e ≡ true → Goes (e ∷ []) o o' [] []
    → Does (These (Outside_does e ∷ [])) (scene_of keys host o ds (shelf_of r f) before) (scene_of keys host o' ds (shelf_of r f) before)
did_quiet e keys host o o' ds r before f own goes = did_one e keys host o o' ds r before before f own (quiet_goes (e ∷ []) o o' before goes)

-- some of a kind
pub did_of : (Kind : List OuterEvent → Type 0) (keys : Keys) (host : HostParts) (o o' : OuterState) (ds ds' : List State) (r : Option (List (List ℕ))) (before all : List Entry) (f : ℕ)
    → ((es : List OuterEvent) → Kind es → AreOwn es) → RunOf Kind (outside o ds) (outside o' ds') before all
    → Does (λ (m : Machine) (es : List Event). OutsideOf Kind es) (scene_of keys host o ds (shelf_of r f) before) (scene_of keys host o' ds' (shelf_of r f) all)
did_of Kind keys host o o' ds ds' r before all f own run = did_outside Kind (machine keys host o r ds) (outside o' ds') before all f own run

pub did_goes_of : (Kind : List OuterEvent → Type 0) (keys : Keys) (host : HostParts) (o o' : OuterState) (ds : List State) (r : Option (List (List ℕ))) (before all : List Entry) (f : ℕ)
    → ((es : List OuterEvent) → Kind es → AreOwn es) → GoesOf Kind o o' before all
    → Does (λ (m : Machine) (es : List Event). OutsideOf Kind es) (scene_of keys host o ds (shelf_of r f) before) (scene_of keys host o' ds (shelf_of r f) all)
did_goes_of Kind keys host o o' ds r before all f own goes = did_of Kind keys host o o' ds ds r before all f own (goes.0, goes.1, goes.2 ds)

-- they were done in part
pub stopped_out : (Prefix : Schedule) (OuterPrefix : List OuterEvent → Type 0) (keys keys' : Keys) (host host' : HostParts) (o o' : OuterState) (ds ds' : List State) (r : Option (List (List ℕ))) (before all : List Entry) (f : ℕ)
    → ((a b : List OuterEvent) → OuterPrefix (a ++ b) → OuterPrefix a)
    → ((events : List OuterEvent) → OuterPrefix events → Prefix (machine keys host o r ds) (map Outside_does events))
    → StopsOutside OuterPrefix (outside o ds) ds' before all → Stops Prefix (scene_of keys host o ds (shelf_of r f) before) (scene_of keys' host' o' ds' (shelf_of r f) all)
stopped_out Prefix OuterPrefix keys keys' host host' o o' ds ds' r before all f prefixes goes stops =
    stopped_outside Prefix OuterPrefix (machine keys host o r ds) (machine keys' host' o' r ds') before all f prefixes goes refl stops

pub prefixes_of : (Kind : List OuterEvent → Type 0) (a b : List OuterEvent) → PrefixOfOutside Kind (a ++ b) → PrefixOfOutside Kind a
prefixes_of Kind a b (rest, kind) = (b ++ rest, subst Kind (append_assoc a b rest) kind)

pub prefix_of : (Kind : List OuterEvent → Type 0) (m : Machine) (events : List OuterEvent) → PrefixOfOutside Kind events → PrefixOf (λ (m : Machine) (es : List Event). OutsideOf Kind es) m (map Outside_does events)
prefix_of Kind m events (rest, kind) = inr (map Outside_does rest, (events ++ rest, kind, sym (map-append Outside_does events rest)))

-- ---- events of the host

pub ran_hosted : (es : List HostEvent) (keys : Keys) (host host' : HostParts) (o o' : OuterState) (ds : List State) (r r' : Option (List (List ℕ))) (put puts : List HostOut) (before all : List Entry) (f g : ℕ)
    → Silent es → put ≡ [] → Did es host.state host'.state put puts (record { records = r; faults = f }) (record { records = r'; faults = g })
    → host'.decoder ≡ host.decoder → Goes (routed puts) o o' before all
    → Run (map Host_does es) (scene_of keys host o ds (shelf_of r f) before) (scene_of keys host' o' ds (shelf_of r' g) all)
ran_hosted es keys host host' o o' ds r r' put puts before all f g silent none did decoder goes =
    let from_none : Did es host.state host'.state [] puts (record { records = r; faults = f }) (record { records = r'; faults = g }) =
    subst (λ (l : List HostOut). Did es host.state host'.state l puts (record { records = r; faults = f }) (record { records = r'; faults = g })) none did in
    subst (λ (d : Rest). Run (map Host_does es) (scene_of keys host o ds (shelf_of r f) before) (scene_of keys (record { decoder = d; state = host'.state }) o' ds (shelf_of r' g) all)) (sym decoder)
    (ran_host es (machine keys host o r ds) host'.state puts r' f g before all from_none o' silent goes)

-- a call of the host was done in part, or what it put out was not routed
pub stopped_hosted : (es : List HostEvent) (keys keys' : Keys) (host host' : HostParts) (o o' : OuterState) (ds : List State) (r r' : Option (List (List ℕ))) (state : HostState) (put puts : List HostOut) (before all : List Entry) (f g : ℕ)
    → Did es host.state state put puts (record { records = r; faults = f }) (record { records = r'; faults = g })
    → all ≡ before → Stops Nothing (scene_of keys host o ds (shelf_of r f) before) (scene_of keys' host' o' ds (shelf_of r' g) all)
stopped_hosted es keys keys' host host' o o' ds r r' state put puts before all f g did same =
    stopped_host Nothing es (machine keys host o r ds) (machine keys' host' o' r' ds) state put puts r' f g before all refl did refl refl same

-- ---- what is unfinished of the chip's bytes ticks

pub ran_decoder : (keys : Keys) (host : HostParts) (o : OuterState) (ds : List State) (r : Option (List (List ℕ))) (before : List Entry) (f : ℕ)
    → Run (Decoder_ticks ∷ []) (scene_of keys host o ds (shelf_of r f) before) (scene_of keys (record { decoder = after_tick host.decoder; state = host.state }) o ds (shelf_of r f) before)
unfolding happens entries May
ran_decoder keys host o ds r before f = record {
  may = (tt, tt);
  state = refl;
  entries = sym (append-nil before);
  counted = counted_kept Decoder_ticks f f refl (omega arith);
}
