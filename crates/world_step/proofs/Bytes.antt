-- Bytes that come to the chip and to the host.
use Rattle.std.proofs.Common.{◌≡◌, ℕ, ◌+◌, ◌-◌, ◌≤◌, ◌<◌, Bool, true, false, List, [], ◌∷◌, ◌++◌, map, take, drop, length, refl, ap, sym, ◌∙◌, subst, arith, length-drop}
use Rattle.std.specs.Prelude.{Option, Result, Ok, Err, OnOk, IfOk, ◌||◌, ◌&&◌, not, nat_lt}
use Rattle.std.proofs.lemmas.List.{drop-drop}
use Rattle.std.proofs.lemmas.Bool.{lt-ltb, ltb-true}
use Rattle.std.proofs.Math.Seq.{take-add}
use Rattle.s0_crypto.specs.declared.key_pair.Keys.{Keys}
use Rattle.device_sim.specs.State.{State}
use Rattle.zw_text.specs.declared.entry.Entry.{Entry}
use Rattle.serial_pipes.specs.State.{WayState}
use Rattle.serial_pipes.specs.Events.{Takes}
use Rattle.serial_pipes.specs.Events as way
use Rattle.host_model.specs.State.{HostParts}
use Rattle.host_keep.specs.Keeping.{Shelf}
use Rattle.host_model.specs.Taking.{Fed, FedPrefix}
use Rattle.host_model.specs.declared.out.HostOut.{HostOut}
use Rattle.host_model.proofs.Feeding.{fed-append, fed_prefix-append}
use Rattle.outside_model.specs.State.{OuterState, is_stalled}
use Rattle.outside_model.specs.Events.{OuterEvent, Host_takes, outcome, devices_after, May}
use Rattle.outside_model.specs.Did.{Goes, GoesOf}
use Rattle.outside_model.specs.Schedules.{ChipTakes, any_moves}
use Rattle.outside_model.specs.Schedules as chip
use Rattle.outside_calls.proofs.QuietEvents.{goes_takes}
use Rattle.world_model.specs.State.{Machine, machine, routed}
use Rattle.world_model.specs.Events.{Event, Outside_does, Host_takes as takes}
use Rattle.world_model.specs.Did.{Scene, Does, Nothing, Stops, happens_all}
use Rattle.world_model.specs.Settling.{IsChipPart, IsHostPart, IsMove, TakesAll, TakesBy}
use Rattle.world_model.proofs.EventLists.{ran_nothing, ran_both}
use Rattle.world_model.proofs.Schedules.{takes_own}
use Rattle.world_model.proofs.Taking.{ran_takes, stopped_takes, stopped_prefix}
use Rattle.world_step.specs.Scene.{scene_of}
use Rattle.world_step.specs.Moving.{are_some, ChipPart, HostPart, Moves, TakesBytes, TakesPrefix}
use Rattle.world_step.proofs.Scenes.{did_goes_of}
use Rattle.host_core.specs.Calls.{shelf_of}

-- ---- what is left in the pipe

after_takes : (n : ℕ) (o mid : OuterState) → Goes (Host_takes n ∷ []) o mid [] [] → mid ≡ record o { to_host = way.after o.to_host (Takes n) }
unfolding outcome devices_after May
after_takes n o mid goes = ap (λ (w : Rattle.outside_model.specs.State.Outside). w.outer) (goes []).state

pub moves_takes : (n : ℕ) (o mid : OuterState) → Goes (Host_takes n ∷ []) o mid [] [] → is_stalled o ≡ false
unfolding outcome devices_after May
moves_takes n o mid goes = (goes []).may.0

pub left_takes : (n : ℕ) (o mid : OuterState) → Goes (Host_takes n ∷ []) o mid [] [] → mid.to_host.bytes ≡ drop n o.to_host.bytes
left_takes n o mid goes = ap (λ (x : OuterState). x.to_host.bytes) (after_takes n o mid goes)

pub still_moves : (n : ℕ) (o mid : OuterState) → Goes (Host_takes n ∷ []) o mid [] [] → is_stalled mid ≡ false
still_moves n o mid goes = ap (λ (x : OuterState). is_stalled x) (after_takes n o mid goes) ∙ moves_takes n o mid goes

goes_both : (n k : ℕ) (o mid new : OuterState) → Goes (Host_takes n ∷ []) o mid [] [] → Goes (Host_takes k ∷ []) mid new [] [] → Goes (Host_takes (n + k) ∷ []) o new [] []
goes_both n k o mid new first later =
    let w : WayState = way.after (way.after o.to_host (Takes n)) (Takes k) in
    let is : new ≡ record o { to_host = w } =
    after_takes k mid new later ∙ ap (λ (x : OuterState). record x { to_host = way.after x.to_host (Takes k) }) (after_takes n o mid first) in
    let left : w ≡ way.after o.to_host (Takes (n + k)) = ap (λ (l : List ℕ). record { bytes = l; marks = o.to_host.marks }) (drop-drop k n o.to_host.bytes) in
    subst (λ (x : OuterState). Goes (Host_takes (n + k) ∷ []) o x [] []) (sym is) (goes_takes o w (n + k) (moves_takes n o mid first) left)

-- ---- pieces of the host

-- a piece was taken, and fed to the host
pub piece_takes : (h h' : HostParts) (o mid : OuterState) (piece : List ℕ) (x y : List HostOut) (s t : Shelf)
    → 1 ≤ length piece → length piece ≤ length o.to_host.bytes → piece ≡ take (length piece) o.to_host.bytes → Goes (Host_takes (length piece) ∷ []) o mid [] []
    → Fed h piece h' x y s t
    → (count : ℕ) × (1 ≤ count) × TakesBytes count h h' o mid x y s t
piece_takes h h' o mid piece x y s t some within read goes fed = (
  length piece,
  some,
  record {
    some = within;
    fed = subst (λ (l : List ℕ). Fed h l h' x y s t) read fed;
    goes = goes;
    left = left_takes (length piece) o mid goes;
    moves = still_moves (length piece) o mid goes;
  },
)

-- bytes, and then more bytes
fits_more : (n k : ℕ) (bytes later : List ℕ) → n ≤ length bytes → later ≡ drop n bytes → k ≤ length later → n + k ≤ length bytes
fits_more n k bytes later some is fits =
    let left : length later ≡ length bytes - n = ap (λ (l : List ℕ). length l) is ∙ length-drop n bytes in
    omega (arith, some, fits, left)

taken_more : (n k : ℕ) (bytes later : List ℕ) → later ≡ drop n bytes → take n bytes ++ take k later ≡ take (n + k) bytes
taken_more n k bytes later is = ap (λ (l : List ℕ). take n bytes ++ take k l) is ∙ sym (take-add n k bytes)

pub takes_more : (n k : ℕ) (h1 h2 h3 : HostParts) (a b c : OuterState) (x y z : List HostOut) (s t u : Shelf)
    → TakesBytes n h1 h2 a b x y s t → TakesBytes k h2 h3 b c y z t u → TakesBytes (n + k) h1 h3 a c x z s u
takes_more n k h1 h2 h3 a b c x y z s t u first later = record {
  some = fits_more n k a.to_host.bytes b.to_host.bytes first.some first.left later.some;
  fed = subst (λ (l : List ℕ). Fed h1 l h3 x z s u) (taken_more n k a.to_host.bytes b.to_host.bytes first.left)
      (fed-append h1 (take n a.to_host.bytes) h2 (take k b.to_host.bytes) h3 x y z s t u first.fed later.fed);
  goes = goes_both n k a b c first.goes later.goes;
  left = later.left ∙ (ap (λ (l : List ℕ). drop k l) first.left ∙ drop-drop k n a.to_host.bytes);
  moves = later.moves;
}

pub prefix_more : (n : ℕ) (h1 h2 h3 : HostParts) (a b : OuterState) (x y z : List HostOut) (s t u : Shelf)
    → TakesBytes n h1 h2 a b x y s t → TakesPrefix h2 h3 b y z t u → TakesPrefix h1 h3 a x z s u
prefix_more n h1 h2 h3 a b x y z s t u first later = record {
  count = n + later.count;
  some = fits_more n later.count a.to_host.bytes b.to_host.bytes first.some first.left later.some;
  fed = subst (λ (l : List ℕ). FedPrefix h1 l h3 x z s u) (taken_more n later.count a.to_host.bytes b.to_host.bytes first.left)
      (fed_prefix-append h1 (take n a.to_host.bytes) h2 (take later.count b.to_host.bytes) h3 x y z s t u first.fed later.fed);
}

-- so many so far
abbrev pub TakesSome : HostParts → HostParts → OuterState → OuterState → List HostOut → List HostOut → Shelf → Shelf → Type 0
TakesSome host host' outer outer' before all shelf shelf' = (count : ℕ) × TakesBytes count host host' outer outer' before all shelf shelf'

pub some_more : (h1 h2 h3 : HostParts) (a b c : OuterState) (x y z : List HostOut) (s t u : Shelf)
    → TakesSome h1 h2 a b x y s t → (k : ℕ) × (1 ≤ k) × TakesBytes k h2 h3 b c y z t u → TakesSome h1 h3 a c x z s u
some_more h1 h2 h3 a b c x y z s t u first later = (first.0 + later.0, takes_more first.0 later.0 h1 h2 h3 a b c x y z s t u first.1 later.2)

pub all_taken : (h1 h2 : HostParts) (a b : OuterState) (x y : List HostOut) (s t : Shelf) → length b.to_host.bytes ≤ 0 → TakesSome h1 h2 a b x y s t → TakesBytes (length a.to_host.bytes) h1 h2 a b x y s t
all_taken h1 h2 a b x y s t none (count, taken) =
    let left : length b.to_host.bytes ≡ length a.to_host.bytes - count = ap (λ (l : List ℕ). length l) taken.left ∙ length-drop count a.to_host.bytes in
    let whole : count ≡ length a.to_host.bytes = omega (arith, none, taken.some, left) in
    subst (λ n. TakesBytes n h1 h2 a b x y s t) whole taken

-- ---- the part of the host in a pass

takes_by : (b : Bool) (bytes : List ℕ) (events : List Event) → b ≡ false → 0 < length bytes → TakesAll bytes events → TakesBy b bytes events
takes_by true bytes events moves some taken = absurd (subst So moves tt)
  where
    So : Bool → Type 0
    So true = Unit {0}
    So false = ⊥
takes_by false [] events moves some taken = absurd (omega (arith, some))
takes_by false (byte ∷ bytes) events moves some taken = taken

pub host_part : (keys : Keys) (h h1 : HostParts) (o o1 o' : OuterState) (ds : List State) (r r' : Option (List (List ℕ))) (put puts : List HostOut) (before all : List Entry) (f g : ℕ)
    → 0 < length o.to_host.bytes → is_stalled o ≡ false → put ≡ []
    → TakesBytes (length o.to_host.bytes) h h1 o o1 put puts (record { records = r; faults = f }) (record { records = r'; faults = g })
    → Goes (routed puts) o1 o' before all
    → Does (HostPart true) (scene_of keys h o ds (shelf_of r f) before) (scene_of keys h1 o' ds (shelf_of r' g) all)
host_part keys h h1 o o1 o' ds r r' put puts before all f g some moves none taken goes =
    let n : ℕ = length o.to_host.bytes in
    let fed : Fed h (take n o.to_host.bytes) h1 [] puts (record { records = r; faults = f }) (record { records = r'; faults = g }) =
    subst (λ (l : List HostOut). Fed h (take n o.to_host.bytes) h1 l puts (record { records = r; faults = f }) (record { records = r'; faults = g })) none taken.fed in (
      takes n h1.decoder fed.items fed.events ∷ [],
      (takes_by (is_stalled o) o.to_host.bytes (takes n h1.decoder fed.items fed.events ∷ []) moves some (h1.decoder, fed.items, fed.events, refl), refl),
      ran_takes (machine keys h o r ds) n h1 puts r' f g before all moves fed o1 o' taken.goes goes,
    )

-- no byte moves to it
idle_by : (b : Bool) (bytes : List ℕ) → (not b && nat_lt 0 (length bytes)) ≡ false → TakesBy b bytes []
idle_by true bytes none = refl
idle_by false [] none = refl
idle_by false (byte ∷ bytes) none = absurd (subst So (sym (lt-ltb 0 (length (byte ∷ bytes)) (omega arith)) ∙ none) tt)
  where
    So : Bool → Type 0
    So true = Unit {0}
    So false = ⊥

pub host_idle : (keys : Keys) (host : HostParts) (o : OuterState) (ds : List State) (r : Option (List (List ℕ))) (before : List Entry) (f : ℕ)
    → (not (is_stalled o) && nat_lt 0 (length o.to_host.bytes)) ≡ false → Does (HostPart false) (scene_of keys host o ds (shelf_of r f) before) (scene_of keys host o ds (shelf_of r f) before)
host_idle keys host o ds r before f none = ([], (idle_by (is_stalled o) o.to_host.bytes none, refl), ran_nothing (scene_of keys host o ds (shelf_of r f) before))

pub has_some : (b : Bool) (n : ℕ) → (not b && nat_lt 0 n) ≡ true → 0 < n
has_some true n some = absurd (subst So some tt)
  where
    So : Bool → Type 0
    So true = ⊥
    So false = Unit {0}
has_some false n some = ltb-true 0 n some

pub has_moves : (b : Bool) (n : ℕ) → (not b && nat_lt 0 n) ≡ true → b ≡ false
has_moves true n some = sym some
has_moves false n some = refl

-- what it put out was not routed
pub stopped_routing : (keys : Keys) (h h1 : HostParts) (o o1 o' : OuterState) (ds : List State) (r r' : Option (List (List ℕ))) (put puts : List HostOut) (before all : List Entry) (f g : ℕ)
    → is_stalled o ≡ false → put ≡ []
    → TakesBytes (length o.to_host.bytes) h h1 o o1 put puts (record { records = r; faults = f }) (record { records = r'; faults = g })
    → all ≡ before
    → Stops Nothing (scene_of keys h o ds (shelf_of r f) before) (scene_of keys h1 o' ds (shelf_of r' g) all)
stopped_routing keys h h1 o o1 o' ds r r' put puts before all f g moves none taken same =
    let n : ℕ = length o.to_host.bytes in
    let fed : Fed h (take n o.to_host.bytes) h1 [] puts (record { records = r; faults = f }) (record { records = r'; faults = g }) =
    subst (λ (l : List HostOut). Fed h (take n o.to_host.bytes) h1 l puts (record { records = r; faults = f }) (record { records = r'; faults = g })) none taken.fed in
    stopped_takes Nothing (machine keys h o r ds) (machine keys h1 o' r' ds) n h1 puts r' f g before all refl moves fed refl refl same

-- it took a prefix of some bytes
pub stopped_taking : (keys : Keys) (h h' : HostParts) (o o' : OuterState) (ds : List State) (r r' : Option (List (List ℕ))) (put puts : List HostOut) (before all : List Entry) (f g : ℕ)
    → is_stalled o ≡ false → put ≡ []
    → TakesPrefix h h' o put puts (record { records = r; faults = f }) (record { records = r'; faults = g }) → all ≡ before
    → Stops Nothing (scene_of keys h o ds (shelf_of r f) before) (scene_of keys h' o' ds (shelf_of r' g) all)
stopped_taking keys h h' o o' ds r r' put puts before all f g moves none prefix same =
    let fed : FedPrefix h (take prefix.count o.to_host.bytes) h' [] puts (record { records = r; faults = f }) (record { records = r'; faults = g }) =
    subst (λ (l : List HostOut). FedPrefix h (take prefix.count o.to_host.bytes) h' l puts (record { records = r; faults = f }) (record { records = r'; faults = g })) none prefix.fed in
    stopped_prefix Nothing (machine keys h o r ds) (machine keys h' o' r' ds) prefix.count h' puts r' f g before all refl moves fed refl refl same

-- ---- the part of the chip

moved_is : (b : Bool) (bytes : List ℕ) (o : OuterState) (inner : List OuterEvent) → chip.TakesBy b bytes o inner → (not b && nat_lt 0 (length bytes)) ≡ are_some (map Outside_does inner)
moved_is true bytes o inner are = ap (λ (l : List OuterEvent). are_some (map Outside_does l)) (sym are)
moved_is false [] o inner are = ap (λ (l : List OuterEvent). are_some (map Outside_does l)) (sym are)
moved_is false (byte ∷ bytes) o inner taken = lt-ltb 0 (length (byte ∷ bytes)) (omega arith) ∙ ap (λ (l : List OuterEvent). are_some (map Outside_does l)) (sym taken.are)

pub chip_part : {E : Type 0} (result : Result Bool E) (host : HostParts) (o o' : OuterState) (before all : List Entry)
    → OnOk result (GoesOf (ChipTakes o) o o' before all) → IfOk result (λ moved. moved ≡ any_moves o)
    → IfOk result (λ moved. (keys : Keys) (ds : List State) (r : Option (List (List ℕ))) (f : ℕ) → Does (ChipPart moved) (scene_of keys host o ds (shelf_of r f) before) (scene_of keys host o' ds (shelf_of r f) all))
chip_part (Ok moved) host o o' before all goes are = λ keys ds r f.
    let done = did_goes_of (ChipTakes o) keys host o o' ds r before all f (takes_own (is_stalled o) o.to_chip.bytes o) goes in
    let (es, (inner, kind, is), ran) = done in
    (es, ((inner, kind, is), are ∙ (moved_is (is_stalled o) o.to_chip.bytes o inner kind ∙ ap (λ (l : List Event). are_some l) (sym is))), ran)
chip_part (Err fault) host o o' before all goes are = tt

-- ---- both

some_either : (a b : List Event) → are_some (a ++ b) ≡ (are_some a || are_some b)
some_either [] b = refl
some_either (e ∷ a) b = refl

pub both_moved : (x y : Bool) (s t u : Scene) → Does (ChipPart x) s t → Does (HostPart y) t u → Does (Moves (x || y)) s u
both_moved x y s t u (first, (chips, is_x), ran) (rest, (hosts, is_y), later) =
    let there : t.machine ≡ happens_all s.machine first = ran.state in (
      first ++ rest,
      ((first, rest, refl, chips, subst (λ (m : Machine). IsHostPart m rest) there hosts), ap (λ (b : Bool). b || y) is_x ∙ (ap (λ (b : Bool). are_some first || b) is_y ∙ sym (some_either first rest))),
      ran_both first rest s t u ran later,
    )

-- whether anything moved is told besides
pub did_move : (moved : Bool) (s t : Scene) → Does (Moves moved) s t → Does IsMove s t
did_move moved s t (events, is, ran) = (events, is.0, ran)

pub did_chip : (moved : Bool) (s t : Scene) → Does (ChipPart moved) s t → Does IsChipPart s t
did_chip moved s t (events, is, ran) = (events, is.0, ran)
