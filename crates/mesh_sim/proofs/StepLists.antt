-- Steps that are done: one, one after another, and a prefix of them.
use Rattle.std.proofs.Common.{◌≡◌, ℕ, zero, suc, ◌+◌, ◌-◌, ◌<◌, ◌≤◌, inl, inr, Bool, true, false, All, Option, Some, None, Result, Ok, Err, OnOk, OnErr, List, [], ◌∷◌, ◌++◌, length, set, slice_get, option_map, refl, ap, sym, subst, ◌∙◌, append_assoc, length-append, arith}
use Rattle.std.proofs.lemmas.List.{append-nil}
use Rattle.std.proofs.lemmas.List.Elements.{All-append, All-nil, All-cons}
use Rattle.route_table.specs.declared.route.Route.{Route}
use Rattle.device_sim.specs.State.{State}
use Rattle.device_sim.specs.Event.{DeviceEvent, Hears, device_after, device_replies}
use Rattle.air_frames.specs.declared.frame.Heading.{Heading}
use Rattle.air_frames.specs.declared.frame.Heading.TheVariants.{Outward, Homeward}
use Rattle.air_frames.specs.Flown.{Flown}
use Rattle.air_frames.specs.Frames.{putting, landing, next_of, remembered}
use Rattle.mesh_sim.specs.declared.event.AirEvent.{AirEvent}
use Rattle.mesh_sim.specs.declared.event.AirEvent.TheVariants as tells
use Rattle.mesh_sim.specs.declared.fate.Fate.{Fate}
use Rattle.mesh_sim.specs.declared.fate.Fate.TheVariants.{Lost, Dead, Missed, AtChip, AtDevice}
use Rattle.mesh_sim.specs.Routes.{IsRoute, backwards}
use Rattle.mesh_sim.specs.Air.{AirState, is_joined, departing}
use Rattle.mesh_sim.specs.Fates.{Mesh, HearsWithin, fate_of, listener_of}
use Rattle.air_frames.specs.declared.ages.Refusal.{Refusal}
use Rattle.mesh_sim.specs.Steps.{AirStep, Arrives, Repeats, mesh_after, mesh_outs, MayHappen, mesh_after_all, mesh_outs_all, MayAllHappen, Did, Stops, IsCut, IsArrival, IsRepeatOf, HasHeard, HasPerhaps, Comes, done_of, outs_at, landed, acknowledged, status_of, answered, answered_if, air_hearing, outs_hearing, heard_at, arriving, arriving_as, arrival_outs, arrival_outs_as, MayArrive, MayArriveIf, repeating, repeating_by, repeat_outs, repeat_outs_by, MayRepeat, MayRepeatBy, MayHearAgain, heard_again, outs_again, ComesAgain, IsHeardAgain, IsHeardPerhaps}

abbrev pub States : Type 0
States = List State

abbrev pub mesh : AirState → States → Mesh
mesh air devices = record { air = air; devices = devices }

-- one list of steps after another
mesh_after_all-append : (m : Mesh) (xs ys : List AirStep) → mesh_after_all m (xs ++ ys) ≡ mesh_after_all (mesh_after_all m xs) ys
mesh_after_all-append m [] ys = refl
mesh_after_all-append m (x ∷ xs) ys = mesh_after_all-append (mesh_after m x) xs ys

mesh_outs_all-append : (m : Mesh) (xs ys : List AirStep) → mesh_outs_all m (xs ++ ys) ≡ mesh_outs_all m xs ++ mesh_outs_all (mesh_after_all m xs) ys
mesh_outs_all-append m [] ys = refl
mesh_outs_all-append m (x ∷ xs) ys =
    ap (λ l. mesh_outs m x ++ l) (mesh_outs_all-append (mesh_after m x) xs ys) ∙ sym (append_assoc (mesh_outs m x) (mesh_outs_all (mesh_after m x) xs) (mesh_outs_all (mesh_after_all (mesh_after m x) xs) ys))

MayAllHappen-append : (m : Mesh) (xs ys : List AirStep) → MayAllHappen m xs → MayAllHappen (mesh_after_all m xs) ys → MayAllHappen m (xs ++ ys)
MayAllHappen-append m [] ys first more = more
MayAllHappen-append m (x ∷ xs) ys first more = (first.0, MayAllHappen-append (mesh_after m x) xs ys first.1 more)

outs_then : (before mid all xs ys : List AirEvent) → mid ≡ before ++ xs → all ≡ mid ++ ys → all ≡ before ++ (xs ++ ys)
outs_then before mid all xs ys first more = more ∙ (ap (λ l. l ++ ys) first ∙ append_assoc before xs ys)

-- nothing was done
pub did_nothing : (old : AirState) (ds : States) (all : List AirEvent) → Did [] old ds old ds all all
did_nothing old ds all = record { may = tt; mesh = refl; outs = sym (append-nil all) }

pub did_both : (xs ys : List AirStep) (a b c : AirState) (d e f : States) (before mid all : List AirEvent) → Did xs a d b e before mid → Did ys b e c f mid all → Did (xs ++ ys) a d c f before all
did_both xs ys a b c d e f before mid all first more = record {
  may = MayAllHappen-append (mesh a d) xs ys first.may (subst (λ (m : Mesh). MayAllHappen m ys) first.mesh more.may);
  mesh = more.mesh ∙ (ap (λ (m : Mesh). mesh_after_all m ys) first.mesh ∙ sym (mesh_after_all-append (mesh a d) xs ys));
  outs = outs_then before mid all (mesh_outs_all (mesh a d) xs) (mesh_outs_all (mesh b e) ys) first.outs more.outs
      ∙ ap (λ l. before ++ l) (ap (λ (m : Mesh). mesh_outs_all (mesh a d) xs ++ mesh_outs_all m ys) first.mesh ∙ sym (mesh_outs_all-append (mesh a d) xs ys));
}

-- it stops where nothing was told, and a device may have done its part
pub stop_now : (old new : AirState) (ds ds' : States) (before all : List AirEvent) → new ≡ old → all ≡ before → IsCut IsArrival (mesh old ds) ds' → Stops old ds new ds' before all
stop_now old new ds ds' before all same told cut = record {
  steps = [];
  arrivals = All-nil IsArrival;
  may = tt;
  air_is = same;
  cut = cut;
  outs = told ∙ sym (append-nil before);
}

-- after steps that were done
pub stop_then : (xs : List AirStep) (a b c : AirState) (d e f : States) (before mid all : List AirEvent) → All IsArrival xs → Did xs a d b e before mid → Stops b e c f mid all → Stops a d c f before all
stop_then xs a b c d e f before mid all arrive first more = record {
  steps = xs ++ more.steps;
  arrivals = All-append IsArrival xs more.steps arrive more.arrivals;
  may = MayAllHappen-append (mesh a d) xs more.steps first.may (subst (λ (m : Mesh). MayAllHappen m more.steps) first.mesh more.may);
  air_is = more.air_is ∙ ap (λ (m : Mesh). m.air) whole;
  cut = subst (λ (m : Mesh). IsCut IsArrival m f) whole more.cut;
  outs = outs_then before mid all (mesh_outs_all (mesh a d) xs) (mesh_outs_all (mesh b e) more.steps) first.outs more.outs
      ∙ ap (λ l. before ++ l) (ap (λ (m : Mesh). mesh_outs_all (mesh a d) xs ++ mesh_outs_all m more.steps) first.mesh ∙ sym (mesh_outs_all-append (mesh a d) xs more.steps));
}
  where
    whole : mesh_after_all (mesh b e) more.steps ≡ mesh_after_all (mesh a d) (xs ++ more.steps)
    whole = ap (λ (m : Mesh). mesh_after_all m more.steps) first.mesh ∙ sym (mesh_after_all-append (mesh a d) xs more.steps)

-- the next frame arrives
module _ (old new : AirState) (ds later : States) (frame : Flown) (fate : Fate) (drawn : List ℕ) (route : Option Route) (before all : List AirEvent)
    (next : next_of old.frames ≡ Some frame) (is : fate ≡ fate_of old.network ds frame) (eight : length drawn ≡ 8) where
  pub arrive_did : MayArrive (mesh old ds) frame fate route → mesh new later ≡ arriving_as (mesh old ds) frame fate drawn route
      → all ≡ before ++ arrival_outs_as (mesh old ds) (old.frames.landed + 1) frame fate drawn route
      → Did (Arrives drawn route ∷ []) old ds new later before all
  unfolding mesh_after mesh_outs MayHappen
  arrive_did may moves tells = record {
    may = ((subst (λ (o : Option Flown). MayArriveIf (mesh old ds) o route) (sym next) (subst (λ (f : Fate). MayArrive (mesh old ds) frame f route) is may), eight), tt);
    mesh = moves ∙ (ap (λ (f : Fate). arriving_as (mesh old ds) frame f drawn route) is ∙ ap (λ (o : Option Flown). arriving (mesh old ds) o drawn route) (sym next));
    outs = tells ∙ ap (λ l. before ++ l) (ap (λ (f : Fate). arrival_outs_as (mesh old ds) (old.frames.landed + 1) frame f drawn route) is
        ∙ (ap (λ (o : Option Flown). arrival_outs (mesh old ds) o drawn route) (sym next) ∙ sym (append-nil (arrival_outs (mesh old ds) (next_of old.frames) drawn route))));
  }

  pub arrive_cut : MayArrive (mesh old ds) frame fate route → later ≡ (arriving_as (mesh old ds) frame fate drawn route).devices → IsCut IsArrival (mesh old ds) later
  unfolding mesh_after MayHappen
  arrive_cut may moves = inr (
    Arrives drawn route,
    (drawn, route, refl),
    (subst (λ (o : Option Flown). MayArriveIf (mesh old ds) o route) (sym next) (subst (λ (f : Fate). MayArrive (mesh old ds) frame f route) is may), eight),
    moves ∙ (ap (λ (f : Fate). (arriving_as (mesh old ds) frame f drawn route).devices) is ∙ ap (λ (o : Option Flown). (arriving (mesh old ds) o drawn route).devices) (sym next)),
  )

-- a device at a place of the list hears
pub hears_at : (air new : AirState) (ds later : States) (place node number : ℕ) (old d : State) (payload drawn : List ℕ) (route : Option Route) (end before all : List AirEvent)
    → slice_get ds place ≡ Some old → later ≡ set ds place d → HasHeard air node payload drawn route old d new number end before all
    → mesh new later ≡ heard_at (mesh air ds) place (slice_get ds place) node route (Hears payload drawn)
hears_at air new ds later place node number old d payload drawn route end before all at set_is heard =
    ap (λ (a : AirState). mesh a later) heard.air_is
    ∙ (ap (λ (l : States). mesh (air_hearing air node route old (Hears payload drawn)) l) (set_is ∙ ap (λ (x : State). set ds place x) heard.device)
    ∙ ap (λ (o : Option State). heard_at (mesh air ds) place o node route (Hears payload drawn)) (sym at))

-- what stands at a place may be put there
set_same : (ds : States) (place : ℕ) (d : State) → slice_get ds place ≡ Some d → set ds place d ≡ ds
set_same [] place d at = refl
set_same (x ∷ ds) zero d at = let e : x ≡ d = cc in ap (λ (y : State). y ∷ ds) (sym e)
set_same (x ∷ ds) (suc place) d at = ap (λ l. x ∷ l) (set_same ds place d at)

-- what an arrival does to the counts of frames
one_more : (air : AirState) (node : ℕ) (way : Option Route) (reply : List ℕ) → ((departing air node Homeward way reply).frames.landed ≡ air.frames.landed) × (air.frames.sent ≤ (departing air node Homeward way reply).frames.sent)
unfolding putting
one_more air node way reply = (refl, omega arith)

counts_putting : (air : AirState) (node : ℕ) (way : Option Route) (replies : List (List ℕ))
    → ((answered air node way replies).frames.landed ≡ air.frames.landed) × (air.frames.sent ≤ (answered air node way replies).frames.sent)
counts_putting air node way [] = (refl, omega arith)
counts_putting air node way (reply ∷ replies) =
    let rest = counts_putting (departing air node Homeward way reply) node way replies in
    let one = one_more air node way reply in
    (rest.0 ∙ one.0, let a = rest.1 in let b = one.1 in omega arith)

counts_if : (b : Bool) (air : AirState) (node : ℕ) (way : Option Route) (replies : List (List ℕ))
    → ((answered_if b air node way replies).frames.landed ≡ air.frames.landed) × (air.frames.sent ≤ (answered_if b air node way replies).frames.sent)
counts_if true air node way replies = counts_putting air node way replies
counts_if false air node way replies = (refl, omega arith)

pub record Moves (old new : AirState) : Type 0 where
  pub landed : new.frames.landed ≡ old.frames.landed + 1
  pub sent : old.frames.sent ≤ new.frames.sent

landed_moves : (air : AirState) → Moves air (landed air)
unfolding landing
landed_moves air = record { landed = refl; sent = omega arith }

landed_one : (air : AirState) → (landed (acknowledged air)).frames.landed ≡ air.frames.landed + 1
unfolding landing
landed_one air = refl

sent_one : (air : AirState) → air.frames.sent ≤ (landed (acknowledged air)).frames.sent
unfolding landing
sent_one air = omega arith

heard_moves : (air : AirState) (ds : States) (place node : ℕ) (o : Option State) (route : Option Route) (event : DeviceEvent) → Moves air (heard_at (mesh (landed (acknowledged air)) ds) place o node route event).air
heard_moves air ds place node None route event = record { landed = landed_one air; sent = sent_one air }
heard_moves air ds place node (Some d) route event =
    let c = counts_if (is_joined (landed (acknowledged air)) node) (landed (acknowledged air)) node (option_map backwards route) (device_replies d event) in
    record { landed = c.0 ∙ landed_one air; sent = let a = c.1 in let b = sent_one air in omega arith }

moves_as : (air : AirState) (ds : States) (frame : Flown) (fate : Fate) (drawn : List ℕ) (route : Option Route) → Moves air (arriving_as (mesh air ds) frame fate drawn route).air
moves_as air ds frame Lost drawn route = landed_moves air
moves_as air ds frame (Dead from to) drawn route = landed_moves air
moves_as air ds frame Missed drawn route = landed_moves air
moves_as air ds frame AtChip drawn route = landed_moves air
moves_as air ds frame (AtDevice place) drawn route = heard_moves air ds place frame.node (slice_get ds place) route (Hears frame.payload drawn)

pub moves_if : (air : AirState) (ds : States) (o : Option Flown) (drawn : List ℕ) (route : Option Route) → MayArriveIf (mesh air ds) o route → Moves air (arriving (mesh air ds) o drawn route).air
moves_if air ds None drawn route may = absurd may
moves_if air ds (Some frame) drawn route may = moves_as air ds frame (fate_of air.network ds frame) drawn route

arrived : (old new : AirState) (ds later : States) (drawn : List ℕ) (route : Option Route) (before all : List AirEvent) → Did (Arrives drawn route ∷ []) old ds new later before all → Moves old new
unfolding mesh_after MayHappen
arrived old new ds later drawn route before all did =
    subst (λ (a : AirState). Moves old a) (sym (ap (λ (m : Mesh). m.air) did.mesh)) (moves_if old ds (next_of old.frames) drawn route did.may.0.0)

-- so many frames arrived
pub record Arrived (count : ℕ) (old : AirState) (ds : States) (new : AirState) (later : States) (before all : List AirEvent) : Type 0 where
  pub steps : List AirStep
  pub arrivals : All IsArrival steps
  pub each : length steps ≡ count
  pub did : Did steps old ds new later before all
  pub landed : new.frames.landed ≡ old.frames.landed + count
  pub sent : old.frames.sent ≤ new.frames.sent

pub none_arrived : (old : AirState) (ds : States) (all : List AirEvent) → Arrived 0 old ds old ds all all
none_arrived old ds all = record { steps = []; arrivals = All-nil IsArrival; each = refl; did = did_nothing old ds all; landed = omega arith; sent = omega arith }

pub one_arrived : (count : ℕ) (a b c : AirState) (d e f : States) (before mid all : List AirEvent) → Arrived count a d b e before mid
    → (drawn : List ℕ) × (route : Option Route) × Did (Arrives drawn route ∷ []) b e c f mid all → Arrived (count + 1) a d c f before all
one_arrived count a b c d e f before mid all first more =
    let moves = arrived b c e f more.0 more.1 mid all more.2 in record {
      steps = first.steps ++ Arrives more.0 more.1 ∷ [];
      arrivals = All-append IsArrival first.steps (Arrives more.0 more.1 ∷ []) first.arrivals (All-cons IsArrival (Arrives more.0 more.1) [] (more.0, more.1, refl) (All-nil IsArrival));
      each = length-append first.steps (Arrives more.0 more.1 ∷ []) ∙ ap (λ n. n + 1) first.each;
      did = did_both first.steps (Arrives more.0 more.1 ∷ []) a b c d e f before mid all first.did more.2;
      landed = let x = moves.landed in let y = first.landed in omega arith;
      sent = let x = moves.sent in let y = first.sent in omega arith;
    }

-- what may stand for what is drawn where nobody draws
abbrev pub blank : List ℕ
blank = 0 ∷ 0 ∷ 0 ∷ 0 ∷ 0 ∷ 0 ∷ 0 ∷ 0 ∷ []

-- a frame that nobody hears, or node 1 alone
module _ {V E : Type 0} (r : Result V E) (old new : AirState) (ds : States) (heading : Heading) (fate : Fate) (number node : ℕ) (payload : List ℕ) (before all : List AirEvent)
    (comes : Comes old ds heading fate number node payload) where
  abbrev Goal : Type 0
  Goal = OnOk r ((drawn : List ℕ) × (route : Option Route) × Did (Arrives drawn route ∷ []) old ds new ds before all)

  did_as : (other : Fate) (told : List AirEvent) → fate ≡ other → MayArrive (mesh old ds) comes.frame other None → mesh (landed old) ds ≡ arriving_as (mesh old ds) comes.frame other blank None
      → told ≡ arrival_outs_as (mesh old ds) (old.frames.landed + 1) comes.frame other blank None → OnOk r (new ≡ landed old) → OnOk r (all ≡ before ++ told) → Goal
  did_as other told is may moves tells = go r
    where
      go : (s : Result V E) → OnOk s (new ≡ landed old) → OnOk s (all ≡ before ++ told) → OnOk s ((drawn : List ℕ) × (route : Option Route) × Did (Arrives drawn route ∷ []) old ds new ds before all)
      go (Ok v) lands outs = (
        blank,
        None,
        arrive_did old new ds ds comes.frame other blank None before all comes.next (sym is ∙ comes.becomes) refl may
            (ap (λ (a : AirState). mesh a ds) lands ∙ moves) (outs ∙ ap (λ l. before ++ l) tells),
      )
      go (Err e) lands outs = tt

  pub lost_did : fate ≡ Lost → OnOk r (new ≡ landed old) → OnOk r (all ≡ before ++ tells.Lost number ∷ done_of heading (old.frames.landed + 1) 1 None) → Goal
  lost_did is = did_as Lost (tells.Lost number ∷ done_of heading (old.frames.landed + 1) 1 None) is tt refl
      (ap (λ n. tells.Lost n ∷ done_of heading (old.frames.landed + 1) 1 None) comes.numbered ∙ ap (λ (h : Heading). tells.Lost (old.frames.landed + 1) ∷ done_of h (old.frames.landed + 1) 1 None) comes.heads)

  pub dead_did : (from to : ℕ) → fate ≡ Dead from to → OnOk r (new ≡ landed old) → OnOk r (all ≡ before ++ tells.Unheard number ∷ done_of heading (old.frames.landed + 1) 1 (Some (from, to))) → Goal
  dead_did from to is = did_as (Dead from to) (tells.Unheard number ∷ done_of heading (old.frames.landed + 1) 1 (Some (from, to))) is tt refl
      (ap (λ n. tells.Unheard n ∷ done_of heading (old.frames.landed + 1) 1 (Some (from, to))) comes.numbered ∙ ap (λ (h : Heading). tells.Unheard (old.frames.landed + 1) ∷ done_of h (old.frames.landed + 1) 1 (Some (from, to))) comes.heads)

  pub missed_did : fate ≡ Missed → OnOk r (new ≡ landed old) → OnOk r (all ≡ before ++ tells.Unheard number ∷ done_of heading (old.frames.landed + 1) 1 None) → Goal
  missed_did is = did_as Missed (tells.Unheard number ∷ done_of heading (old.frames.landed + 1) 1 None) is tt refl
      (ap (λ n. tells.Unheard n ∷ done_of heading (old.frames.landed + 1) 1 None) comes.numbered ∙ ap (λ (h : Heading). tells.Unheard (old.frames.landed + 1) ∷ done_of h (old.frames.landed + 1) 1 None) comes.heads)

  pub chip_did : fate ≡ AtChip → OnOk r (new ≡ landed old) → OnOk r (all ≡ before ++ tells.Heard number ∷ tells.ToChip number node payload ∷ []) → Goal
  chip_did is = did_as AtChip (tells.Heard number ∷ tells.ToChip number node payload ∷ []) is tt refl
      (ap (λ n. tells.Heard n ∷ tells.ToChip n node payload ∷ []) comes.numbered
      ∙ (ap (λ n. tells.Heard (old.frames.landed + 1) ∷ tells.ToChip (old.frames.landed + 1) n payload ∷ []) comes.ends
      ∙ ap (λ p. tells.Heard (old.frames.landed + 1) ∷ tells.ToChip (old.frames.landed + 1) comes.frame.node p ∷ []) comes.carries))

-- a frame that a device hears
module _ {V E : Type 0} (r : Result V E) (old new : AirState) (ds later : States) (place : ℕ) (d d' : State) (heading : Heading) (fate : Fate) (number node : ℕ) (payload drawn : List ℕ) (before all : List AirEvent)
    (comes : Comes old ds heading fate number node payload) (is : fate ≡ AtDevice place) (at : slice_get ds place ≡ Some d) (set_is : later ≡ set ds place d') (eight : length drawn ≡ 8) where
  device_ok : (route : Option Route) → HasHeard (landed (acknowledged old)) node payload drawn route d d' new number (tells.Done number (status_of old) None ∷ []) before all
      → Did (Arrives drawn route ∷ []) old ds new later before all
  device_ok route heard =
      let moves = hears_at (landed (acknowledged old)) new ds later place node number d d' payload drawn route (tells.Done number (status_of old) None ∷ []) before all at set_is heard in
      arrive_did old new ds later comes.frame (AtDevice place) drawn route before all comes.next (sym is ∙ comes.becomes) eight
      (subst (λ n. IsRoute old.network n route) comes.ends heard.way)
      (moves ∙ (ap (λ n. heard_at (mesh (landed (acknowledged old)) ds) place (slice_get ds place) n route (Hears payload drawn)) comes.ends
      ∙ ap (λ p. heard_at (mesh (landed (acknowledged old)) ds) place (slice_get ds place) comes.frame.node route (Hears p drawn)) comes.carries))
      (heard.outs ∙ ap (λ l. before ++ l)
      (ap (λ n. outs_hearing (landed (acknowledged old)) n node route d (Hears payload drawn) ++ tells.Done n (status_of old) None ∷ []) comes.numbered
      ∙ (ap (λ n. outs_hearing (landed (acknowledged old)) (old.frames.landed + 1) n route d (Hears payload drawn) ++ tells.Done (old.frames.landed + 1) (status_of old) None ∷ []) comes.ends
      ∙ (ap (λ p. outs_hearing (landed (acknowledged old)) (old.frames.landed + 1) comes.frame.node route d (Hears p drawn) ++ tells.Done (old.frames.landed + 1) (status_of old) None ∷ []) comes.carries
      ∙ ap (λ (o : Option State). outs_at (mesh (landed (acknowledged old)) ds) o (old.frames.landed + 1) comes.frame.node route (Hears comes.frame.payload drawn) ++ tells.Done (old.frames.landed + 1) (status_of old) None ∷ []) (sym at)))))

  pub device_did : OnOk r ((route : Option Route) × HasHeard (landed (acknowledged old)) node payload drawn route d d' new number (tells.Done number (status_of old) None ∷ []) before all)
      → OnOk r ((drawn : List ℕ) × (route : Option Route) × Did (Arrives drawn route ∷ []) old ds new later before all)
  device_did = go r
    where
      go : (s : Result V E) → OnOk s ((route : Option Route) × HasHeard (landed (acknowledged old)) node payload drawn route d d' new number (tells.Done number (status_of old) None ∷ []) before all)
          → OnOk s ((drawn : List ℕ) × (route : Option Route) × Did (Arrives drawn route ∷ []) old ds new later before all)
      go (Ok v) heard = (drawn, heard.0, device_ok heard.0 heard.1)
      go (Err e) heard = tt

  device_cut : HasPerhaps old node d d' (Hears payload drawn) → IsCut IsArrival (mesh old ds) later
  device_cut (inl same) = inl (set_is ∙ (ap (λ (x : State). set ds place x) same ∙ set_same ds place d at))
  device_cut (inr (route, way, after)) =
      arrive_cut old old ds later comes.frame (AtDevice place) drawn route [] [] comes.next (sym is ∙ comes.becomes) eight
      (subst (λ n. IsRoute old.network n route) comes.ends way)
      (set_is ∙ (ap (λ (x : State). set ds place x) (after ∙ ap (λ p. device_after d (Hears p drawn)) comes.carries)
      ∙ ap (λ (o : Option State). (heard_at (mesh (landed (acknowledged old)) ds) place o comes.frame.node route (Hears comes.frame.payload drawn)).devices) (sym at)))

  pub device_stops : OnErr r (new ≡ old) → OnErr r (all ≡ before) → OnErr r (HasPerhaps old node d d' (Hears payload drawn)) → OnErr r (Stops old ds new later before all)
  device_stops = go r
    where
      go : (s : Result V E) → OnErr s (new ≡ old) → OnErr s (all ≡ before) → OnErr s (HasPerhaps old node d d' (Hears payload drawn)) → OnErr s (Stops old ds new later before all)
      go (Ok v) same told perhaps = tt
      go (Err e) same told perhaps = stop_now old new ds later before all same told (device_cut perhaps)

  pub device_is_cut : OnErr r (HasPerhaps old node d d' (Hears payload drawn)) → OnErr r (IsCut IsArrival (mesh old ds) later)
  device_is_cut = go r
    where
      go : (s : Result V E) → OnErr s (HasPerhaps old node d d' (Hears payload drawn)) → OnErr s (IsCut IsArrival (mesh old ds) later)
      go (Ok v) perhaps = tt
      go (Err e) perhaps = device_cut perhaps

-- a frame that is heard again is not refused
pub not_refused : (x : Option Refusal) (a b : States) (refusal : Refusal) → x ≡ None → x ≡ Some refusal → a ≡ b
not_refused x a b refusal none some =
    let differ : None ≡ Some refusal = sym none ∙ some in
    cc

-- a fact holds of an error, if there is one
pub heard_within : (fate : Fate) (place count : ℕ) → fate ≡ AtDevice place → HearsWithin fate count → place < count
heard_within fate place count is within = subst (λ (f : Fate). HearsWithin f count) is within

-- a frame is heard again
module _ (old new : AirState) (ds later : States) (frame_number : ℕ) (heading : Heading) (number node : ℕ) (payload drawn : List ℕ) (route : Option Route) (before all : List AirEvent)
    (comes : ComesAgain old frame_number heading number node payload) where
  again_did : (other : Heading) → heading ≡ other → length drawn ≡ 8 → MayRepeatBy other (mesh old ds) comes.frame route → mesh new later ≡ repeating_by other (mesh old ds) comes.frame drawn route
      → all ≡ before ++ repeat_outs_by other (mesh old ds) frame_number comes.frame drawn route → Did (Repeats frame_number drawn route ∷ []) old ds new later before all
  unfolding mesh_after mesh_outs MayHappen
  again_did other is eight may moves told =
      let same : other ≡ comes.frame.heading = sym is ∙ comes.heads in record {
        may = ((comes.allowed, subst (λ (o : Option Flown). MayRepeat (mesh old ds) o route) (sym comes.kept) (subst (λ (h : Heading). MayRepeatBy h (mesh old ds) comes.frame route) same may), eight), tt);
        mesh = moves ∙ (ap (λ (h : Heading). repeating_by h (mesh old ds) comes.frame drawn route) same ∙ ap (λ (o : Option Flown). repeating (mesh old ds) o drawn route) (sym comes.kept));
        outs = told ∙ ap (λ l. before ++ l) (ap (λ (h : Heading). repeat_outs_by h (mesh old ds) frame_number comes.frame drawn route) same
            ∙ (ap (λ (o : Option Flown). repeat_outs (mesh old ds) frame_number o drawn route) (sym comes.kept) ∙ sym (append-nil (repeat_outs (mesh old ds) frame_number (remembered old.frames frame_number) drawn route))));
      }

  pub chip_again : heading ≡ Homeward → length drawn ≡ 8 → mesh new later ≡ mesh old ds → all ≡ before ++ tells.Heard number ∷ tells.ToChip number node payload ∷ [] → Did (Repeats frame_number drawn route ∷ []) old ds new later before all
  chip_again is eight same told = again_did Homeward is eight tt same
      (told ∙ ap (λ l. before ++ l) (ap (λ n. tells.Heard n ∷ tells.ToChip n node payload ∷ []) comes.numbered
      ∙ (ap (λ n. tells.Heard frame_number ∷ tells.ToChip frame_number n payload ∷ []) comes.ends
      ∙ ap (λ p. tells.Heard frame_number ∷ tells.ToChip frame_number comes.frame.node p ∷ []) comes.carries)))

  pub device_again : heading ≡ Outward → IsHeardAgain old ds new later number node payload drawn route before all → Did (Repeats frame_number drawn route ∷ []) old ds new later before all
  device_again is heard = again_did Outward is heard.eight
      (subst (λ n. MayHearAgain old n (listener_of n ds) route) comes.ends heard.may)
      (heard.moves ∙ (ap (λ n. heard_again (mesh old ds) (listener_of n ds) n route (Hears payload drawn)) comes.ends
      ∙ ap (λ p. heard_again (mesh old ds) (listener_of comes.frame.node ds) comes.frame.node route (Hears p drawn)) comes.carries))
      (heard.told ∙ ap (λ l. before ++ l) (ap (λ n. outs_again (mesh old ds) (listener_of node ds) n node route (Hears payload drawn)) comes.numbered
      ∙ (ap (λ n. outs_again (mesh old ds) (listener_of n ds) frame_number n route (Hears payload drawn)) comes.ends
      ∙ ap (λ p. outs_again (mesh old ds) (listener_of comes.frame.node ds) frame_number comes.frame.node route (Hears p drawn)) comes.carries)))

  pub device_again_cut : heading ≡ Outward → IsHeardPerhaps old ds later node payload → IsCut (IsRepeatOf frame_number) (mesh old ds) later
  unfolding mesh_after MayHappen
  device_again_cut is (inl same) = inl same
  device_again_cut is (inr (drawn', route', may, moves, eight)) =
      let same : Outward ≡ comes.frame.heading = sym is ∙ comes.heads in
      inr (
        Repeats frame_number drawn' route',
        (drawn', route', refl),
        (
          comes.allowed,
          subst (λ (o : Option Flown). MayRepeat (mesh old ds) o route') (sym comes.kept) (subst (λ (h : Heading). MayRepeatBy h (mesh old ds) comes.frame route') same
              (subst (λ n. MayHearAgain old n (listener_of n ds) route') comes.ends may)),
          eight,
        ),
        moves ∙ (ap (λ n. (heard_again (mesh old ds) (listener_of n ds) n route' (Hears payload drawn')).devices) comes.ends
            ∙ (ap (λ p. (heard_again (mesh old ds) (listener_of comes.frame.node ds) comes.frame.node route' (Hears p drawn')).devices) comes.carries
            ∙ (ap (λ (h : Heading). (repeating_by h (mesh old ds) comes.frame drawn' route').devices) same ∙ ap (λ (o : Option Flown). (repeating (mesh old ds) o drawn' route').devices) (sym comes.kept)))),
      )

-- the device that hears it again, or none
pub none_again : (air : AirState) (ds : States) (number node : ℕ) (payload : List ℕ) (all : List AirEvent) → None ≡ listener_of node ds → IsHeardAgain air ds air ds number node payload blank None all all
none_again air ds number node payload all is = record {
  may = subst (λ (o : Option ℕ). MayHearAgain air node o None) is tt;
  moves = ap (λ (o : Option ℕ). heard_again (mesh air ds) o node None (Hears payload blank)) is;
  told = sym (append-nil all) ∙ ap (λ (o : Option ℕ). all ++ outs_again (mesh air ds) o number node None (Hears payload blank)) is;
  eight = refl;
}

module _ {V E : Type 0} (r : Result V E) (old new : AirState) (ds later : States) (place : ℕ) (d d' : State) (number node : ℕ) (payload drawn : List ℕ) (before all : List AirEvent)
    (is : Some place ≡ listener_of node ds) (at : slice_get ds place ≡ Some d) (set_is : later ≡ set ds place d') (eight : length drawn ≡ 8) where
  pub one_again : OnOk r ((route : Option Route) × HasHeard old node payload drawn route d d' new number [] before all)
      → OnOk r ((drawn : List ℕ) × (route : Option Route) × IsHeardAgain old ds new later number node payload drawn route before all)
  one_again = go r
    where
      go : (s : Result V E) → OnOk s ((route : Option Route) × HasHeard old node payload drawn route d d' new number [] before all)
          → OnOk s ((drawn : List ℕ) × (route : Option Route) × IsHeardAgain old ds new later number node payload drawn route before all)
      go (Err e) heard = tt
      go (Ok v) (route, heard) = (
        drawn,
        route,
        record {
          may = subst (λ (o : Option ℕ). MayHearAgain old node o route) is heard.way;
          moves = hears_at old new ds later place node number d d' payload drawn route [] before all at set_is heard
              ∙ ap (λ (o : Option ℕ). heard_again (mesh old ds) o node route (Hears payload drawn)) is;
          told = heard.outs ∙ ap (λ l. before ++ l) (append-nil (outs_hearing old number node route d (Hears payload drawn))
              ∙ (ap (λ (o : Option State). outs_at (mesh old ds) o number node route (Hears payload drawn)) (sym at)
              ∙ ap (λ (o : Option ℕ). outs_again (mesh old ds) o number node route (Hears payload drawn)) is));
          eight = eight;
        },
      )

  pub perhaps_again : OnErr r (HasPerhaps old node d d' (Hears payload drawn)) → OnErr r (IsHeardPerhaps old ds later node payload)
  perhaps_again = go r
    where
      one : HasPerhaps old node d d' (Hears payload drawn) → IsHeardPerhaps old ds later node payload
      one (inl same) = inl (set_is ∙ (ap (λ (x : State). set ds place x) same ∙ set_same ds place d at))
      one (inr (route, way, after)) = inr (
        drawn,
        route,
        subst (λ (o : Option ℕ). MayHearAgain old node o route) is way,
        set_is ∙ (ap (λ (x : State). set ds place x) after
            ∙ (ap (λ (o : Option State). (heard_at (mesh old ds) place o node route (Hears payload drawn)).devices) (sym at)
            ∙ ap (λ (o : Option ℕ). (heard_again (mesh old ds) o node route (Hears payload drawn)).devices) is)),
        eight,
      )

      go : (s : Result V E) → OnErr s (HasPerhaps old node d d' (Hears payload drawn)) → OnErr s (IsHeardPerhaps old ds later node payload)
      go (Ok v) perhaps = tt
      go (Err e) perhaps = one perhaps
