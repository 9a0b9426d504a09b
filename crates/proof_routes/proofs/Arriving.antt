-- Of a frame that arrives and is not heard, the chip forgets the first hop that the transcript shows to be dead, where its table has it, and nothing else is forgotten.
use Rattle.std.proofs.Common.{◌≡◌, ℕ, zero, suc, ◌+◌, ◌-◌, ◌==◌, ◌&&◌, not, Bool, true, false, cond, if◌then◌else◌, List, [], ◌∷◌, ◌++◌, filter, take, drop, length, slice_get, refl, sym, ap, subst, ◌∙◌, inl, append-nil, append_assoc, arith}
use Rattle.std.proofs.Math.Seq.{drop-append_seam}
use Rattle.std.proofs.lemmas.List.{length-append}
use Rattle.std.proofs.lemmas.Bool.{ne_eqb, lt-ltb}
use Rattle.std.specs.Prelude.{Option, Some, None, nat_lt}
use Rattle.std.specs.Option.{unwrap_or}
use Rattle.std.specs.List.{AllByRecursion, flat_map}
use Rattle.zw_base.proofs.Each.{all-append, all-weaker}
use Rattle.route_table.specs.Network.{Network, Link, linked}
use Rattle.route_table.specs.Route.{via}
use Rattle.route_table.specs.declared.route.Route.{Route}
use Rattle.air_frames.specs.Flown.{Flown}
use Rattle.air_frames.specs.Frames.{next_of}
use Rattle.air_frames.specs.declared.frame.Heading.{Heading}
use Rattle.air_frames.specs.declared.frame.Heading.TheVariants.{Outward, Homeward}
use Rattle.chip_functions.specs.Notice.{status_of as transmit_status}
use Rattle.chip_functions.specs.declared.notice.TransmitStatus.TheVariants.{Fail}
use Rattle.chip_sim.specs.Events.{Forgets, after}
use Rattle.device_sim.specs.State.{State}
use Rattle.device_sim.specs.Event.{Hears}
use Rattle.mesh_sim.specs.Fates.{Mesh, dead_hop, dead_hop_by, dead_hop_of, fate_by, listener_of}
use Rattle.mesh_sim.specs.Steps.{mesh_after, mesh_outs, landed, acknowledged, status_of, done_of, outs_at, arrival_outs, arrival_outs_as}
use Rattle.mesh_sim.specs.Steps as mesh
use Rattle.mesh_sim.specs.declared.event.AirEvent.{AirEvent}
use Rattle.mesh_sim.specs.declared.event.AirEvent.TheVariants as air_event
use Rattle.mesh_sim.specs.declared.fate.Fate.TheVariants as fate
use Rattle.zw_text.specs.declared.entry.Entry.{Entry}
use Rattle.zw_text.specs.declared.entry.Entry.TheVariants as entry
use Rattle.zw_text.specs.Transcript.{AirFrame, frames}
use Rattle.law_wire.specs.law_transcript.Lists.{EachAfter, listed}
use Rattle.law_wire.specs.law_transcript.Nodes.{controller}
use Rattle.law_wire.specs.law_transcript.Repeats.{frame_of}
use Rattle.law_wire.specs.Networks.{are_linked, air_links, chip_links}
use Rattle.law_wire.specs.Arriving.{Hop, hops, forgotten_of, forgotten_by, forgets, IsForgotten}
use Rattle.outside_model.specs.State.{OuterState, Outside, Outcome, each, with_chip, silent, tells, and_then}
use Rattle.outside_model.specs.Results.{call_back, no_routes, leading}
use Rattle.outside_model.specs.Air.{deals}
use Rattle.outside_model.specs.Events.{Arrives, mesh_of, stamp, outcome, entries}
use Rattle.proof_routes.specs.Networks.{HasLinks, Tie}
use Rattle.proof_routes.specs.Forgetting.{MayForget, Passage, passage_by, passage_flown, passages, IsApartFrom, HasPassages}
use Rattle.proof_routes.proofs.Books.{SameShown, same_shown, same_then, still_shown}
use Rattle.proof_routes.proofs.Passages.{GoesSo, frames_same, next_passage, passage_got}
use Rattle.proof_walk.proofs.Entering.{IsOfChip, calls_of_chip}
use Rattle.proof_routes.proofs.Mute.{IsMute, AreMute, chip_mute, AreMuteEvents, IsMuteEvent, each_mute, at_mute}

-- ---- what is to be forgotten next

last_one : (past : List Entry) (e : Entry) → drop (length (past ++ e ∷ []) - 1) (past ++ e ∷ []) ≡ e ∷ []
last_one past e = ap (λ (n : ℕ). drop n (past ++ e ∷ [])) count ∙ drop-append_seam past (e ∷ [])
  where
    count : length (past ++ e ∷ []) - 1 ≡ length past
    count = let all = length-append past (e ∷ []) in omega (arith, all)

forgets_last : (past : List Entry) (e : Entry) → forgets (past ++ e ∷ []) ≡ forgotten_by (past ++ e ∷ []) e
forgets_last past e = ap (λ (l : List Entry). flat_map (forgotten_by (past ++ e ∷ [])) l) (last_one past e) ∙ append-nil (forgotten_by (past ++ e ∷ []) e)

-- these entries may stand there, and then no hop is to be forgotten
abbrev pub ForgetsOn : List Entry → List Entry → Type 0
ForgetsOn past told = EachAfter MayForget past told × (forgets (past ++ told) ≡ [])

cons_on : (past : List Entry) (e : Entry) (told : List Entry) → MayForget past e → ForgetsOn (past ++ e ∷ []) told → ForgetsOn past (e ∷ told)
cons_on past e told may rest = ((may, rest.0), ap forgets (sym (append_assoc past (e ∷ []) told)) ∙ rest.1)

none_on : (past : List Entry) → forgets past ≡ [] → ForgetsOn past []
none_on past none = (tt, ap forgets (append-nil past) ∙ none)

mute_none : (past : List Entry) (e : Entry) → IsMute e → forgotten_by past e ≡ []
mute_none past (entry.Unheard frame) mute = absurd mute
mute_none past e mute = refl

mute_may : (e : Entry) → IsMute e → IsForgotten [] e
mute_may (entry.Forget a b) mute = absurd mute
mute_may e mute = tt

pub mute_on : (past told : List Entry) → AreMute told → forgets past ≡ [] → ForgetsOn past told
mute_on past [] mute none = none_on past none
mute_on past (e ∷ told) mute none =
    cons_on past e told (subst (λ (l : List Hop). IsForgotten l e) (sym none) (mute_may e mute.0))
    (mute_on (past ++ e ∷ []) told mute.1 (forgets_last past e ∙ mute_none (past ++ e ∷ []) e mute.0))

-- ---- dead hops

abbrev hop_listed : Option (ℕ × ℕ) → List Hop
hop_listed None = []
hop_listed (Some hop) = record { from = hop.0; to = hop.1 } ∷ []

-- the first of a way
first_dead : (net : Network) (links : List Link) → HasLinks net links → (from : ℕ) (over : List ℕ) (to : ℕ)
    → take 1 (filter (λ (hop : Hop). not (are_linked links hop.from hop.to)) (hops from over to)) ≡ hop_listed (dead_hop net from over to)
first_dead net links has from [] to =
    ap (λ (b : Bool). take 1 (cond (not b) (hops from [] to) [])) (sym (has from to)) ∙ by (linked net from to)
  where
    by : (b : Bool) → take 1 (cond (not b) (hops from [] to) []) ≡ hop_listed (if b then None else Some (from, to))
    by true = refl
    by false = refl
first_dead net links has from (next ∷ over) to =
    let rest : List Hop = filter (λ (hop : Hop). not (are_linked links hop.from hop.to)) (hops next over to) in
    ap (λ (b : Bool). take 1 (cond (not b) (hops from [] next ++ rest) rest)) (sym (has from next)) ∙ by (linked net from next) rest (first_dead net links has next over to)
  where
    by : (b : Bool) (rest : List Hop) → take 1 rest ≡ hop_listed (dead_hop net next over to)
        → take 1 (cond (not b) (hops from [] next ++ rest) rest) ≡ hop_listed (if b then dead_hop net next over to else Some (from, next))
    by true rest is = is
    by false rest is = refl

-- what is to be forgotten after a frame with that heading is not heard
abbrev due : Network → Heading → Option (ℕ × ℕ) → List Hop
due table Outward None = []
due table Outward (Some hop) = if linked table hop.0 hop.1 then record { from = hop.0; to = hop.1 } ∷ [] else []
due table Homeward dead = []

-- by its ends and its way
abbrev forgotten_as : List Entry → ℕ → ℕ → List ℕ → List Hop
forgotten_as past sender receiver over =
    if sender == controller then
    filter (λ (hop : Hop). are_linked (chip_links past) hop.from hop.to) (take 1 (filter (λ (hop : Hop). not (are_linked (air_links past) hop.from hop.to)) (hops sender over receiver)))
    else []

module _ (past : List Entry) (net table : Network) (hears : HasLinks net (air_links past)) (knows : HasLinks table (chip_links past)) where
  kept_hop : (dead : Option (ℕ × ℕ)) → filter (λ (hop : Hop). are_linked (chip_links past) hop.from hop.to) (hop_listed dead) ≡ due table Outward dead
  kept_hop None = refl
  kept_hop (Some hop) = ap (λ (b : Bool). cond b (hop_listed (Some hop)) []) (sym (knows hop.0 hop.1)) ∙ by (linked table hop.0 hop.1)
    where
      by : (b : Bool) → cond b (hop_listed (Some hop)) [] ≡ (if b then record { from = hop.0; to = hop.1 } ∷ [] else [])
      by true = refl
      by false = refl

  passage_due : (heading : Heading) (node : ℕ) (route : Route) (lost : Bool) (f : AirFrame) → GoesSo f (passage_by heading node route lost) → IsApartFrom (passage_by heading node route lost)
      → forgotten_of past f ≡ due table heading (dead_hop_by heading net node (via route))
  passage_due Outward node route lost f goes apart =
      ap (λ (s : ℕ). forgotten_as past s f.receiver f.repeaters) goes.sender
      ∙ (ap (λ (r : ℕ). forgotten_as past controller r f.repeaters) goes.receiver
      ∙ (ap (λ (l : List ℕ). forgotten_as past controller node l) goes.over
      ∙ (ap (λ (l : List Hop). filter (λ (hop : Hop). are_linked (chip_links past) hop.from hop.to) l) (first_dead net (air_links past) hears 1 (via route) node)
      ∙ kept_hop (dead_hop net 1 (via route) node))))
  passage_due Homeward node route lost f goes apart =
      ap (λ (b : Bool). if b then filter (λ (hop : Hop). are_linked (chip_links past) hop.from hop.to) (take 1 (filter (λ (hop : Hop). not (are_linked (air_links past) hop.from hop.to)) (hops f.sender f.repeaters f.receiver))) else [])
      (ap (λ (s : ℕ). s == controller) goes.sender ∙ ne_eqb node controller apart)

-- ---- a frame that is not heard

pub apart_got : (all : List Passage) (at : ℕ) (passage : Passage) → AllByRecursion IsApartFrom all → slice_get all at ≡ Some passage → IsApartFrom passage
apart_got [] at passage apart is = absurd (let none : None ≡ Some passage = is in cc)
apart_got (one ∷ all) zero passage apart is = let same : one ≡ passage = (let both : Some one ≡ Some passage = is in cc) in subst IsApartFrom same apart.0
apart_got (one ∷ all) (suc at) passage apart is = apart_got all at passage apart.1 is

pub frame_got : (l : List AirFrame) (at : ℕ) (f : AirFrame) → slice_get l at ≡ Some f → (if nat_lt 0 (at + 1) then slice_get l (at + 1 - 1) else None) ≡ Some f
frame_got l at f is =
    ap (λ (b : Bool). if b then slice_get l (at + 1 - 1) else None) (lt-ltb 0 (at + 1) (omega arith))
    ∙ (ap (λ (n : ℕ). slice_get l n) (let same : at + 1 - 1 ≡ at = omega arith in same) ∙ is)

module _ (devices : List State) (past : List Entry) (w : Outside) (tie : Tie devices past w) (has : HasPassages (passages past) w.outer.air.frames) where
  unheard_due : (frame : Flown) → next_of w.outer.air.frames ≡ Some frame → (p : List Entry) → SameShown p past → frames p ≡ frames past
      → forgets (p ++ entry.Unheard (w.outer.air.frames.landed + 1) ∷ []) ≡ due w.outer.chip.state.table frame.heading (dead_hop_of w.outer.air.network frame)
  unheard_due frame next p shown same =
      let unheard : Entry = entry.Unheard (w.outer.air.frames.landed + 1) in
      let all : List Entry = p ++ unheard ∷ [] in
      let here : SameShown all past = same_then all p past (still_shown p unheard tt (inl refl)) shown in
      let flown = (next_passage (passages past) w.outer.air.frames frame has next).1 in
      let got = passage_got [] past w.outer.air.frames.landed (passage_flown frame) flown in
      let f : AirFrame = got.0 in
      let there : frames all ≡ frames past = frames_same p (unheard ∷ []) (tt, tt) ∙ same in
      let found : frame_of all (w.outer.air.frames.landed + 1) ≡ Some f
      = frame_got (frames all) w.outer.air.frames.landed f (ap (λ (l : List AirFrame). slice_get l w.outer.air.frames.landed) there ∙ got.1) in
      forgets_last p unheard
      ∙ (ap (λ (one : Option AirFrame). flat_map (forgotten_of all) (listed one)) found
      ∙ (append-nil (forgotten_of all f)
      ∙ passage_due all w.outer.air.network w.outer.chip.state.table (subst (HasLinks w.outer.air.network) (sym here.air) tie.air_hears)
      (subst (HasLinks w.outer.chip.state.table) (sym here.chip) tie.chip_hears) frame.heading frame.node frame.route frame.lost f got.2
      (apart_got (passages past) w.outer.air.frames.landed (passage_flown frame) has.apart flown)))

  -- ---- what is entered as it arrives

  -- it may stand after a transcript that shows the same as this, and no hop is to be forgotten then
  abbrev Follows : List Entry → Type 0
  Follows told = (p : List Entry) → SameShown p past → frames p ≡ frames past → forgets p ≡ [] → ForgetsOn p told

  mute_follows : (told : List Entry) → AreMute told → Follows told
  mute_follows told mute p shown same none = mute_on p told mute none

  stamped_on : (o : OuterState) (told : List Entry) → forgets past ≡ [] → Follows told → ForgetsOn past (stamp o told)
  stamped_on o [] none follows = follows past (same_shown past past refl) refl none
  stamped_on o (e ∷ told) none follows = by (o.in_tick && not o.stamped)
    where
      by : (b : Bool) → ForgetsOn past ((if b then entry.Time o.clock ∷ [] else []) ++ e ∷ told)
      by true =
          let time : Entry = entry.Time o.clock in
          let one = mute_on past (time ∷ []) (tt, tt) none in
          cons_on past time (e ∷ told) one.0.0 (follows (past ++ time ∷ []) (still_shown past time tt (inl refl)) (frames_same past (time ∷ []) (tt, tt)) one.1)
      by false = follows past (same_shown past past refl) refl none

  module _ (there : List State) (o : OuterState) where
    -- the end of a frame, which tells the chip of a dead hop
    ends_on : (hop : ℕ × ℕ) (p : List Entry) → forgets p ≡ due o.chip.state.table Outward (Some hop) → ForgetsOn p (each (deals there) o (air_event.Done (w.outer.air.frames.landed + 1) 1 (Some hop) ∷ [])).entries
    ends_on hop p is = by (linked o.chip.state.table hop.0 hop.1) is
      where
        rest : OuterState → List Entry
        rest later = (and_then (no_routes (leading later.calls) later) (λ last. call_back last (unwrap_or (transmit_status 1) Fail))).entries

        after_it : (later : OuterState) → AreMute (rest later ++ [])
        after_it later = all-append IsMute (rest later) [] (all-weaker IsOfChip IsMute chip_mute (rest later) (calls_of_chip later 1)) tt

        by : (b : Bool) → forgets p ≡ (if b then record { from = hop.0; to = hop.1 } ∷ [] else [])
            → ForgetsOn p ((and_then (if b then tells (with_chip o (after o.chip.state (Forgets hop.0 hop.1))) (entry.Forget hop.0 hop.1 ∷ []) else silent o)
            (λ forgot. and_then (no_routes (leading forgot.calls) forgot) (λ last. call_back last (unwrap_or (transmit_status 1) Fail)))).entries ++ [])
        by true is =
            let forgot : Entry = entry.Forget hop.0 hop.1 in
            let later : OuterState = with_chip o (after o.chip.state (Forgets hop.0 hop.1)) in
            cons_on p forgot (rest later ++ []) (subst (λ (l : List Hop). IsForgotten l forgot) (sym is) refl)
            (mute_on (p ++ forgot ∷ []) (rest later ++ []) (after_it later) (forgets_last p forgot))
        by false is = mute_on p (rest o ++ []) (after_it o) is

    tail_on : (heading : Heading) (dead : Option (ℕ × ℕ)) (p : List Entry) → forgets p ≡ due o.chip.state.table heading dead
        → ForgetsOn p (each (deals there) o (done_of heading (w.outer.air.frames.landed + 1) 1 dead)).entries
    tail_on Homeward dead p is = none_on p is
    tail_on Outward None p is =
        mute_on p (each (deals there) o (air_event.Done (w.outer.air.frames.landed + 1) 1 None ∷ [])).entries (each_mute there (air_event.Done (w.outer.air.frames.landed + 1) 1 None ∷ []) o (tt, tt)) is
    tail_on Outward (Some hop) p is = ends_on hop p is

    -- that it was not heard, and its end
    unheard_follows : (heading : Heading) (dead : Option (ℕ × ℕ))
        → ((p : List Entry) → SameShown p past → frames p ≡ frames past → forgets (p ++ entry.Unheard (w.outer.air.frames.landed + 1) ∷ []) ≡ due o.chip.state.table heading dead)
        → Follows (each (deals there) o (air_event.Unheard (w.outer.air.frames.landed + 1) ∷ done_of heading (w.outer.air.frames.landed + 1) 1 dead)).entries
    unheard_follows heading dead is p shown same none =
        let unheard : Entry = entry.Unheard (w.outer.air.frames.landed + 1) in
        cons_on p unheard (each (deals there) o (done_of heading (w.outer.air.frames.landed + 1) 1 dead)).entries (subst (λ (l : List Hop). IsForgotten l unheard) (sym none) tt)
        (tail_on heading dead (p ++ unheard ∷ []) (is p shown same))

    heard_follows : (events : List AirEvent) → AreMuteEvents events → Follows (each (deals there) o events).entries
    heard_follows events mute = mute_follows (each (deals there) o events).entries (each_mute there events o mute)

    done_mute : (heading : Heading) → AreMuteEvents (done_of heading (w.outer.air.frames.landed + 1) 1 None)
    done_mute Outward = (tt, tt)
    done_mute Homeward = tt

    by_fate : (frame : Flown) (lost : Bool) (dead : Option (ℕ × ℕ)) (heading : Heading) (listener : Option ℕ) (drawn : List ℕ) (route : Option Route)
        → ((p : List Entry) → SameShown p past → frames p ≡ frames past → forgets (p ++ entry.Unheard (w.outer.air.frames.landed + 1) ∷ []) ≡ due o.chip.state.table frame.heading dead)
        → Follows (each (deals there) o (arrival_outs_as (mesh_of w) (w.outer.air.frames.landed + 1) frame (if lost then fate.Lost else fate_by dead heading listener) drawn route)).entries
    by_fate frame true dead heading listener drawn route is =
        heard_follows (air_event.Lost (w.outer.air.frames.landed + 1) ∷ done_of frame.heading (w.outer.air.frames.landed + 1) 1 None) (tt, done_mute frame.heading)
    by_fate frame false (Some hop) heading listener drawn route is = unheard_follows frame.heading (Some hop) is
    by_fate frame false None Homeward listener drawn route is =
        heard_follows (air_event.Heard (w.outer.air.frames.landed + 1) ∷ air_event.ToChip (w.outer.air.frames.landed + 1) frame.node frame.payload ∷ []) (tt, (tt, tt))
    by_fate frame false None Outward (Some place) drawn route is =
        let base : Mesh = record { air = landed (acknowledged w.outer.air); devices = w.devices } in
        let heard : List AirEvent = outs_at base (slice_get w.devices place) (w.outer.air.frames.landed + 1) frame.node route (Hears frame.payload drawn) in
        let end : List AirEvent = air_event.Done (w.outer.air.frames.landed + 1) (status_of w.outer.air) None ∷ [] in
        heard_follows (heard ++ end)
        (all-append IsMuteEvent heard end (at_mute base (slice_get w.devices place) (w.outer.air.frames.landed + 1) frame.node route (Hears frame.payload drawn)) (tt, tt))
    by_fate frame false None Outward None drawn route is = unheard_follows frame.heading None is

    found_follows : (found : Option Flown) (drawn : List ℕ) (route : Option Route) → o.chip.state.table ≡ w.outer.chip.state.table → next_of w.outer.air.frames ≡ found
        → Follows (each (deals there) o (arrival_outs (mesh_of w) found drawn route)).entries
    found_follows None drawn route table next = mute_follows [] tt
    found_follows (Some frame) drawn route table next =
        by_fate frame frame.lost (dead_hop_of w.outer.air.network frame) frame.heading (listener_of frame.node w.devices) drawn route
        (λ p shown same. unheard_due frame next p shown same ∙ ap (λ (t : Network). due t frame.heading (dead_hop_of w.outer.air.network frame)) (sym table))

  pub arrives_on : (drawn : List ℕ) (route : Option Route) → forgets past ≡ [] → ForgetsOn past (entries w (Arrives drawn route))
  unfolding outcome mesh_outs
  arrives_on drawn route none =
      let later : Mesh = mesh_after (mesh_of w) (mesh.Arrives drawn route) in
      let x : Outcome = outcome w (Arrives drawn route) in
      stamped_on x.outer x.entries none (found_follows later.devices (record w.outer { air = later.air }) (next_of w.outer.air.frames) drawn route refl refl)
