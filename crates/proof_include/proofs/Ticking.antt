-- Ticks of an exchange that goes on.
use Rattle.std.proofs.Common.{◌≡◌, ◌⊎◌, ℕ, zero, suc, ◌+◌, ◌-◌, ◌<◌, ◌≤◌, Bool, true, false, cond, leb, ◌||◌, Option, Some, None, List, [], ◌∷◌, ◌++◌, length, map, get_or, refl, ap, sym, subst, ◌∙◌, inl, inr, ⊎_elim, arith}
use Rattle.std.proofs.lemmas.Bool.{cases_eq, lt-leb}
use Rattle.inclusion.specs.declared.exchange.Exchange.{Exchange}
use Rattle.inclusion.specs.Messages.{message_of}
use Rattle.inclusion.specs.Joining.{joiner_takes}
use Rattle.inclusion.specs.Including.{is_secure, includer_takes, exchange_after}
use Rattle.air_frames.specs.declared.frame.Heading.{Heading}
use Rattle.air_frames.specs.declared.frame.Heading.TheVariants.{Outward, Homeward}
use Rattle.include_world.specs.declared.flight.Flight.{Flight}
use Rattle.include_world.specs.declared.air.Coming.{Coming}
use Rattle.include_world.specs.Air.{AirState, pair_of, departing, sending, no_flight, frame_at, flight_at, heard_if, is_forgotten, arriving, flying}
use Rattle.include_world.specs.World.{WorldState, Doing, IncludeEvent, Passes, Lands, Ends, does, hears, hears_by, lands_by, landed, ends, joiner_of, after_all, AllDrawn}
use Rattle.include_world.specs.Line.{IsTick, IsTicks}
use Rattle.include_world.proofs.DoneEvents.{lands_grows, after_all-append}
use Rattle.include_world.proofs.AirFacts.{Comes, arriving_comes}
use Rattle.include_world.proofs.HostFacts.{Hosts, host_takes}
use Rattle.include_world.proofs.WorldFacts.{Fact, does_step}
use Rattle.proof_include.proofs.NearWorld.{Near, Says_of, both_frames, near_lands, near_passes, near_ends}
use Rattle.proof_include.proofs.Stages.{Stage, SchemeAsked, SchemeTold, NonceAsked, NonceTold, KeySet, KeyTaken, NonceGiven, VerifySent, rank, IsFor, HostAt}
use Rattle.proof_include.proofs.HostStages.{Under}
use Rattle.proof_include.proofs.ExchangeSteps.{Spot, Going, Later, Heard, lock_here, lock_elsewhere, host_here, host_elsewhere}

heard_by : (key : List ℕ) (node left : ℕ) (s : Stage) (i : ℕ) (w : WorldState) (coming : Coming) (drawn : List ℕ) → length drawn ≡ 8 → Fact key node w → Near key node w → w.air.losing ≡ 0
    → is_secure w.includer node ≡ false → (h : Heading) → (coming.node ≡ node → Says_of key node w h coming.payload) → coming.heading ≡ h
    → Going node left s i w → Heard node left s i coming w (hears_by w coming drawn h).world
heard_by key node left s i w coming drawn eight f n calm insecure Outward told headed g = ⊎_elim
    (λ e. subst (λ (m : ℕ). Heard m left s i coming w (hears_by w coming drawn Outward).world) (sym e)
    (lock_here key left s i w coming drawn eight (subst (λ (m : ℕ). Fact key m w) e f) (subst (λ (m : ℕ). Near key m w) e n) calm
    (subst (λ (m : ℕ). is_secure w.includer m ≡ false) e insecure) (subst (λ (m : ℕ). Says_of key m w Outward coming.payload) e (told (sym e))) headed (subst (λ (m : ℕ). Going m left s i w) e g)))
    (λ differ. inr (inr (lock_elsewhere node left s i w coming (joiner_takes (joiner_of w coming.node) coming.payload drawn) differ g)))
    (cases_eq node coming.node)
heard_by key node left s i w coming drawn eight f n calm insecure Homeward told headed g = ⊎_elim
    (λ e. subst (λ (m : ℕ). Heard m left s i coming w (hears_by w coming drawn Homeward).world) (sym e)
    (host_here key left s i w coming drawn eight (subst (λ (m : ℕ). Fact key m w) e f) (subst (λ (m : ℕ). Near key m w) e n) calm
    (subst (λ (m : ℕ). is_secure w.includer m ≡ false) e insecure) (subst (λ (m : ℕ). Says_of key m w Homeward coming.payload) e (told (sym e))) headed (subst (λ (m : ℕ). Going m left s i w) e g)))
    (λ differ. inr (inr (host_elsewhere node left s i w coming drawn differ g)))
    (cases_eq node coming.node)

heard_at : (key : List ℕ) (node left : ℕ) (s : Stage) (i : ℕ) (w : WorldState) (coming : Coming) (drawn : List ℕ) → length drawn ≡ 8 → Fact key node w → Near key node w → w.air.losing ≡ 0
    → is_secure w.includer node ≡ false → Comes node (Says_of key node w) (Some coming) → Going node left s i w → Heard node left s i coming w (hears w coming drawn).world
unfolding hears
heard_at key node left s i w coming drawn eight f n calm insecure told g = heard_by key node left s i w coming drawn eight f n calm insecure coming.heading told refl g

-- ---- a frame lands

-- where a frame landed, the rest stays
going_landed : (node left : ℕ) (s : Stage) (i : ℕ) (did : Doing) → Going node left s i did.world → Going node left s i (landed did).world
going_landed node left s i did g = record {
  under = g.under;
  lock = g.lock;
  frame = g.frame;
  spot = record { there = g.spot.there; is = g.spot.is; kept = g.spot.kept };
  node_is = g.node_is;
  found = g.found;
  heading = g.heading;
  is_for = g.is_for;
}

abbrev Landed : ℕ → ℕ → Stage → ℕ → WorldState → WorldState → Type 0
Landed node left s i old new = (is_secure new.includer node ≡ true) ⊎ (Later node left s (length old.air.frames) new ⊎ (Going node left s i new × (old.air.landed + 1 ≤ i)))

-- its own frame is the one that lands
own_frame : (air : AirState) (node i : ℕ) (f : Flight) → Spot node i f air → i ≡ air.landed → frame_at air (air.landed + 1) ≡ f
own_frame air node i f spot e = ap (λ (k : ℕ). get_or air.frames k no_flight) (let same : air.landed + 1 - 1 ≡ i = omega (arith, e) in same) ∙ spot.is

own_heard : (air : AirState) (node i : ℕ) (f : Flight) → Spot node i f air → f.node ≡ node → f.lost ≡ false → i ≡ air.landed
    → ((frame_at air (air.landed + 1)).lost || is_forgotten air (air.landed + 1) (frame_at air (air.landed + 1))) ≡ false
own_heard air node i f spot is_node found e =
    let same = own_frame air node i f spot e in
    let kept : leb (air.landed + 1) (pair_of air node).forgotten ≡ false = lt-leb (air.landed + 1) (pair_of air node).forgotten (omega (arith, spot.kept, e)) in
    ap (λ (g : Flight). g.lost || is_forgotten air (air.landed + 1) g) same
    ∙ (ap (λ (b : Bool). b || is_forgotten air (air.landed + 1) f) found ∙ (ap (λ (m : ℕ). leb (air.landed + 1) (pair_of air m).forgotten) is_node ∙ kept))

past : (i at : ℕ) → at ≤ i → (i ≡ at → ⊥) → at + 1 ≤ i
past i at from differ = omega (arith, from, differ)

land_by : (key : List ℕ) (node left : ℕ) (s : Stage) (i : ℕ) (w : WorldState) (drawn : List ℕ) → length drawn ≡ 8 → Fact key node w → Near key node w → w.air.losing ≡ 0
    → is_secure w.includer node ≡ false → w.air.landed ≤ i → Going node left s i w
    → (b : Bool) → ((frame_at w.air (w.air.landed + 1)).lost || is_forgotten w.air (w.air.landed + 1) (frame_at w.air (w.air.landed + 1))) ≡ b
    → Comes node (Says_of key node w) (heard_if b (flight_at w.air (w.air.landed + 1)))
    → Landed node left s i w (landed (lands_by w (heard_if b (flight_at w.air (w.air.landed + 1))) drawn)).world
land_by key node left s i w drawn eight f n calm insecure from g true e comes = inr (inr (
  going_landed node left s i (lands_by w None drawn) g,
  past i w.air.landed from (λ here. absurd (let no : true ≡ false = sym e ∙ own_heard w.air node i g.frame g.spot g.node_is g.found here in cc)),
))
land_by key node left s i w drawn eight f n calm insecure from g false e comes =
    let coming : Coming = flight_at w.air (w.air.landed + 1) in
    ⊎_elim (λ secure. inl secure)
    (λ rest. inr (⊎_elim
    (λ later. inl (later.0, later.1, going_landed node left later.0 (length w.air.frames) (hears w (flight_at w.air (w.air.landed + 1)) drawn) later.2))
    (λ rests. inr (
      going_landed node left s i (hears w (flight_at w.air (w.air.landed + 1)) drawn) rests.going,
      past i w.air.landed from (λ here.
          let same = own_frame w.air node i g.frame g.spot here in
          rests.other (ap (λ (x : Flight). x.node) same ∙ g.node_is) (ap (λ (x : Flight). x.heading) same ∙ g.heading)
          (subst (λ (x : Flight). IsFor s (message_of x.payload)) (sym same) g.is_for)),
    ))
    rest))
    (heard_at key node left s i w (flight_at w.air (w.air.landed + 1)) drawn eight f n calm insecure comes g)

lands : (key : List ℕ) (node left : ℕ) (s : Stage) (i : ℕ) (w : WorldState) (drawn : List ℕ) → length drawn ≡ 8 → Fact key node w → Near key node w → w.air.losing ≡ 0
    → is_secure w.includer node ≡ false → w.air.landed ≤ i → Going node left s i w → Landed node left s i w (does w (Lands drawn)).world
unfolding does
lands key node left s i w drawn eight f n calm insecure from g =
    land_by key node left s i w drawn eight f n calm insecure from g ((frame_at w.air (w.air.landed + 1)).lost || is_forgotten w.air (w.air.landed + 1) (frame_at w.air (w.air.landed + 1))) refl
    (arriving_comes node (Says_of key node w) w.air (both_frames key node w f n))

-- ---- a node that is secure stays so

secure_by : (key : List ℕ) (node : ℕ) (w : WorldState) (coming : Coming) (drawn : List ℕ) → length drawn ≡ 8 → Fact key node w → (h : Heading) → (coming.node ≡ node → Says_of key node w h coming.payload)
    → is_secure w.includer node ≡ true → is_secure (hears_by w coming drawn h).world.includer node ≡ true
secure_by key node w coming drawn eight f Outward told secure = secure
secure_by key node w coming drawn eight f Homeward told secure =
    let h : Hosts key node (joiner_of w node) w.includer coming.node (includer_takes w.includer coming.node coming.payload drawn)
    = host_takes key node (joiner_of w node) w.includer coming.node f.key_is f.secures f.secured coming.payload drawn eight f.setting (λ e. (told e).0) in
    ⊎_elim (λ same. same ∙ secure) (λ both. both.1) h.counts

secure_heard : (key : List ℕ) (node : ℕ) (w : WorldState) (coming : Coming) (drawn : List ℕ) → length drawn ≡ 8 → Fact key node w → Comes node (Says_of key node w) (Some coming)
    → is_secure w.includer node ≡ true → is_secure (hears w coming drawn).world.includer node ≡ true
unfolding hears
secure_heard key node w coming drawn eight f told secure = secure_by key node w coming drawn eight f coming.heading told secure

secure_land : (key : List ℕ) (node : ℕ) (w : WorldState) (drawn : List ℕ) → length drawn ≡ 8 → Fact key node w → (o : Option Coming) → Comes node (Says_of key node w) o
    → is_secure w.includer node ≡ true → is_secure (lands_by w o drawn).world.includer node ≡ true
secure_land key node w drawn eight f None told secure = secure
secure_land key node w drawn eight f (Some coming) told secure = secure_heard key node w coming drawn eight f told secure

secure_lands : (key : List ℕ) (node : ℕ) (w : WorldState) (drawn : List ℕ) → length drawn ≡ 8 → Fact key node w → Near key node w → is_secure w.includer node ≡ true → is_secure (does w (Lands drawn)).world.includer node ≡ true
unfolding does
secure_lands key node w drawn eight f n secure =
    secure_land key node w drawn eight f (arriving w.air) (arriving_comes node (Says_of key node w) w.air (both_frames key node w f n)) secure

-- ---- no mark comes from what is heard

calm_departing : (air : AirState) (at : ℕ) (heading : Heading) (payload : List ℕ) → air.losing ≡ 0 → (departing air at heading payload).losing ≡ 0
unfolding departing
calm_departing air at heading payload calm = omega (arith, calm)

calm_sending : (air : AirState) (at : ℕ) (heading : Heading) (replies : List (List ℕ)) → air.losing ≡ 0 → (sending air at heading replies).losing ≡ 0
calm_sending air at heading [] calm = calm
calm_sending air at heading (payload ∷ more) calm = calm_sending (departing air at heading payload) at heading more (calm_departing air at heading payload calm)

calm_hears : (w : WorldState) (coming : Coming) (drawn : List ℕ) (h : Heading) → w.air.losing ≡ 0 → (hears_by w coming drawn h).world.air.losing ≡ 0
calm_hears w coming drawn Outward calm = calm_sending w.air coming.node Homeward (joiner_takes (joiner_of w coming.node) coming.payload drawn).replies calm
calm_hears w coming drawn Homeward calm = calm_sending w.air coming.node Outward (includer_takes w.includer coming.node coming.payload drawn).replies calm

calm_land : (w : WorldState) (o : Option Coming) (drawn : List ℕ) → w.air.losing ≡ 0 → (lands_by w o drawn).world.air.losing ≡ 0
unfolding hears
calm_land w None drawn calm = calm
calm_land w (Some coming) drawn calm = calm_hears w coming drawn coming.heading calm

-- ---- ticks

-- what holds of a world in which an exchange goes on undisturbed
pub record Calm (key : List ℕ) (node : ℕ) (w : WorldState) : Type 0 where
  pub fact : Fact key node w
  pub near : Near key node w
  pub calm : w.air.losing ≡ 0
  pub within : w.air.landed ≤ length w.air.frames

calm_lands : (key : List ℕ) (node : ℕ) (w : WorldState) (drawn : List ℕ) → length drawn ≡ 8 → Calm key node w → w.air.landed < length w.air.frames
    → Calm key node (does w (Lands drawn)).world × ((does w (Lands drawn)).world.air.landed ≡ w.air.landed + 1) × (length w.air.frames ≤ length (does w (Lands drawn)).world.air.frames)
unfolding does
calm_lands key node w drawn eight c flies =
    let grows = lands_grows w (arriving w.air) drawn in
    let step : (lands_by w (arriving w.air) drawn).world.air.landed + 1 ≡ w.air.landed + 1 = omega (arith, grows.landed) in (
      record {
        fact = (does_step key node w (Lands drawn) eight c.fact).fact;
        near = near_lands key node w drawn eight c.fact c.near;
        calm = calm_land w (arriving w.air) drawn c.calm;
        within = omega (arith, grows.landed, grows.frames, flies);
      },
      step,
      grows.frames,
    )

-- while the frames below a number land: it ended, or its frame is one of them, or it came further
abbrev Amid : ℕ → ℕ → ℕ → ℕ → WorldState → Type 0
Amid node left k most w = (is_secure w.includer node ≡ true)
    ⊎ ((s : Stage) × (i : ℕ) × Going node left s i w × (w.air.landed ≤ i) × (((i < most) × (rank s ≤ k)) ⊎ ((most ≤ i) × (rank s < k))))

amid_lands : (key : List ℕ) (node left k most : ℕ) (w : WorldState) (drawn : List ℕ) → length drawn ≡ 8 → Calm key node w → w.air.landed < most → most ≤ length w.air.frames
    → Amid node left k most w → Amid node left k most (does w (Lands drawn)).world
amid_lands key node left k most w drawn eight c flies in_all (inl secure) = inl (secure_lands key node w drawn eight c.fact c.near secure)
amid_lands key node left k most w drawn eight c flies in_all (inr x) =
    let s : Stage = x.0 in
    let i : ℕ = x.1 in
    let after = calm_lands key node w drawn eight c (omega (arith, flies, in_all)) in
    lands_by_bool (is_secure w.includer node) refl
  where
    lands_by_bool : (b : Bool) → is_secure w.includer node ≡ b → Amid node left k most (does w (Lands drawn)).world
    lands_by_bool true e = inl (secure_lands key node w drawn eight c.fact c.near e)
    lands_by_bool false e =
        let after = calm_lands key node w drawn eight c (omega (arith, flies, in_all)) in
        ⊎_elim (λ secure. inl secure)
        (λ rest. ⊎_elim
        (λ later. inr (later.0, length w.air.frames, later.2, omega (arith, after.1, flies, in_all), inr (in_all, further later.0 later.1 x.4)))
        (λ same. inr (x.0, x.1, same.0, omega (arith, after.1, same.1), x.4))
        rest)
        (lands key node left x.0 x.1 w drawn eight c.fact c.near c.calm e x.3 x.2)
      where
        further : (next : Stage) → rank next < rank x.0 → ((x.1 < most) × (rank x.0 ≤ k)) ⊎ ((most ≤ x.1) × (rank x.0 < k)) → rank next < k
        further next less (inl p) = omega (arith, less, p.1)
        further next less (inr p) = omega (arith, less, p.1)

all_land : (key : List ℕ) (node left k most : ℕ) (w : WorldState) (draws : List (List ℕ)) → AllDrawn (map Lands draws) → Calm key node w → w.air.landed + length draws ≡ most → most ≤ length w.air.frames
    → Amid node left k most w
    → Calm key node (after_all w (map Lands draws)) × ((after_all w (map Lands draws)).air.landed ≡ most) × (most ≤ length (after_all w (map Lands draws)).air.frames) × Amid node left k most (after_all w (map Lands draws))
all_land key node left k most w [] drawn c count in_all a = (c, omega (arith, count), in_all, a)
all_land key node left k most w (d ∷ draws) drawn c count in_all a =
    let flies : w.air.landed < most = omega (arith, count) in
    let after = calm_lands key node w d drawn.0 c (omega (arith, flies, in_all)) in
    all_land key node left k most (does w (Lands d)).world draws drawn.1 after.0 (omega (arith, after.1, count)) (omega (arith, after.2, in_all)) (amid_lands key node left k most w d drawn.0 c flies in_all a)

-- between ticks: it ended, or it has so many ticks to go
abbrev pub Ahead : ℕ → ℕ → ℕ → WorldState → Type 0
Ahead node left k w = (is_secure w.includer node ≡ true) ⊎ ((s : Stage) × (i : ℕ) × Going node left s i w × (w.air.landed ≤ i) × (rank s ≤ k))

at_left : (s : Stage) (x : Exchange) (n : ℕ) → HostAt s x → HostAt s (let y : Exchange = record x { left = n } in y)
at_left SchemeAsked x n h = h
at_left SchemeTold x n h = h
at_left NonceAsked x n h = h
at_left NonceTold x n h = h
at_left KeySet x n h = h
at_left KeyTaken x n h = h
at_left NonceGiven x n h = h
at_left VerifySent x n h = h

under_ends : (node left : ℕ) (s : Stage) (w : WorldState) → 2 ≤ left → Under node left s w.includer → Under node (left - 1) s (ends w).world.includer
under_ends node left s w enough u = record {
  exchange = let y : Exchange = record u.exchange { left = u.exchange.left - 1 } in y;
  under = ap exchange_after u.under ∙ ap (λ (b : Bool). cond b None (Some (let y : Exchange = record u.exchange { left = u.exchange.left - 1 } in y))) (lt-leb u.exchange.left 1 (omega (arith, enough, u.time)));
  with_it = u.with_it;
  time = omega (arith, u.time);
  at = at_left s u.exchange (u.exchange.left - 1) u.at;
}

going_ends : (node left : ℕ) (s : Stage) (i : ℕ) (w : WorldState) → 2 ≤ left → Going node left s i w → Going node (left - 1) s i (does w Ends).world
unfolding does
going_ends node left s i w enough g = record {
  under = under_ends node left s w enough g.under;
  lock = g.lock;
  frame = g.frame;
  spot = g.spot;
  node_is = g.node_is;
  found = g.found;
  heading = g.heading;
  is_for = g.is_for;
}

going_passes : (node left : ℕ) (s : Stage) (i : ℕ) (w : WorldState) → Going node left s i w → Going node left s i (does w Passes).world
unfolding does
going_passes node left s i w g = record { under = g.under; lock = g.lock; frame = g.frame; spot = g.spot; node_is = g.node_is; found = g.found; heading = g.heading; is_for = g.is_for }

pub same_air_passes : (w : WorldState) → (does w Passes).world.air ≡ w.air
unfolding does
same_air_passes w = refl

pub same_air_ends : (w : WorldState) → (does w Ends).world.air ≡ w.air
unfolding does
same_air_ends w = refl

same_secure_passes : (w : WorldState) (node : ℕ) → is_secure (does w Passes).world.includer node ≡ is_secure w.includer node
unfolding does
same_secure_passes w node = refl

same_secure_ends : (w : WorldState) (node : ℕ) → is_secure (does w Ends).world.includer node ≡ is_secure w.includer node
unfolding does
same_secure_ends w node = refl

-- one tick
ahead_amid : (node left k : ℕ) (w : WorldState) → Ahead node left k w → Amid node left k (length w.air.frames) w
ahead_amid node left k w (inl secure) = inl secure
ahead_amid node left k w (inr x) = inr (x.0, x.1, x.2, x.3, inl (x.2.spot.there, x.4))

amid_ahead : (node left k most : ℕ) (w : WorldState) → w.air.landed ≡ most → Amid node left (suc k) most w → Ahead node left k w
amid_ahead node left k most w all (inl secure) = inl secure
amid_ahead node left k most w all (inr x) = inr (x.0, x.1, x.2, x.3, ⊎_elim (λ p. absurd (omega (arith, p.0, x.3, all))) (λ p. omega (arith, p.1)) x.4)

ahead_ends : (node left k : ℕ) (w : WorldState) → 2 ≤ left → Ahead node left k w → Ahead node (left - 1) k (does w Ends).world
ahead_ends node left k w enough (inl secure) = inl (same_secure_ends w node ∙ secure)
ahead_ends node left k w enough (inr x) = inr (x.0, x.1, going_ends node left x.0 x.1 w enough x.2, subst (λ (a : AirState). a.landed ≤ x.1) (sym (same_air_ends w)) x.3, x.4)

ahead_passes : (node left k : ℕ) (w : WorldState) → Ahead node left k w → Ahead node left k (does w Passes).world
ahead_passes node left k w (inl secure) = inl (same_secure_passes w node ∙ secure)
ahead_passes node left k w (inr x) = inr (x.0, x.1, going_passes node left x.0 x.1 w x.2, subst (λ (a : AirState). a.landed ≤ x.1) (sym (same_air_passes w)) x.3, x.4)

calm_passes : (key : List ℕ) (node : ℕ) (w : WorldState) → Calm key node w → Calm key node (does w Passes).world
calm_passes key node w c = record {
  fact = (does_step key node w Passes tt c.fact).fact;
  near = near_passes key node w c.near;
  calm = ap (λ (a : AirState). a.losing) (same_air_passes w) ∙ c.calm;
  within = subst (λ (a : AirState). a.landed ≤ length a.frames) (sym (same_air_passes w)) c.within;
}

calm_ends : (key : List ℕ) (node : ℕ) (w : WorldState) → Calm key node w → Calm key node (does w Ends).world
calm_ends key node w c = record {
  fact = (does_step key node w Ends tt c.fact).fact;
  near = near_ends key node w c.near;
  calm = ap (λ (a : AirState). a.losing) (same_air_ends w) ∙ c.calm;
  within = subst (λ (a : AirState). a.landed ≤ length a.frames) (sym (same_air_ends w)) c.within;
}

pub drawn_prefix : (xs ys : List IncludeEvent) → AllDrawn (xs ++ ys) → AllDrawn xs
drawn_prefix [] ys d = tt
drawn_prefix (x ∷ xs) ys d = (d.0, drawn_prefix xs ys d.1)

pub drawn_rest : (xs ys : List IncludeEvent) → AllDrawn (xs ++ ys) → AllDrawn ys
drawn_rest [] ys d = d
drawn_rest (x ∷ xs) ys d = drawn_rest xs ys d.1

tick_by : (key : List ℕ) (node left k : ℕ) (w : WorldState) (draws : List (List ℕ)) → length draws ≡ flying w.air → AllDrawn (map Lands draws) → 2 ≤ left → Calm key node w → Ahead node left (suc k) w
    → Calm key node (after_all w (Passes ∷ map Lands draws ++ Ends ∷ [])) × Ahead node (left - 1) k (after_all w (Passes ∷ map Lands draws ++ Ends ∷ []))
tick_by key node left k w draws each drawn enough c a =
    let begun : WorldState = (does w Passes).world in
    let air = same_air_passes w in
    let c0 = calm_passes key node w c in
    let a0 = ahead_passes node left (suc k) w a in
    let count : (does w Passes).world.air.landed + length draws ≡ length (does w Passes).world.air.frames
    = omega (arith, each, c.within, ap (λ (x : AirState). x.landed) air, ap (λ (x : AirState). length x.frames) air) in
    let done = all_land key node left (suc k) (length (does w Passes).world.air.frames) (does w Passes).world draws drawn c0 count (omega arith) (ahead_amid node left (suc k) (does w Passes).world a0) in
    let last : WorldState = after_all (does w Passes).world (map Lands draws) in
    let whole : after_all w (Passes ∷ map Lands draws ++ Ends ∷ []) ≡ (does (after_all (does w Passes).world (map Lands draws)) Ends).world
    = after_all-append w (Passes ∷ map Lands draws) (Ends ∷ []) in (
      subst (λ (x : WorldState). Calm key node x) (sym whole) (calm_ends key node (after_all (does w Passes).world (map Lands draws)) done.0),
      subst (λ (x : WorldState). Ahead node (left - 1) k x) (sym whole)
          (ahead_ends node left k (after_all (does w Passes).world (map Lands draws)) enough
          (amid_ahead node left k (length (does w Passes).world.air.frames) (after_all (does w Passes).world (map Lands draws)) done.1 done.3)),
    )

tick : (key : List ℕ) (node left k : ℕ) (w : WorldState) (events : List IncludeEvent) → IsTick w events → AllDrawn events → 2 ≤ left → Calm key node w → Ahead node left (suc k) w
    → Calm key node (after_all w events) × Ahead node (left - 1) k (after_all w events)
tick key node left k w events t drawn enough c a =
    let landing_drawn : AllDrawn (map Lands t.draws) = drawn_prefix (map Lands t.draws) (Ends ∷ []) (drawn_of (subst (λ (es : List IncludeEvent). AllDrawn es) t.are drawn)) in
    subst (λ (es : List IncludeEvent). Calm key node (after_all w es) × Ahead node (left - 1) k (after_all w es)) (sym t.are)
    (tick_by key node left k w t.draws t.each landing_drawn enough c a)
  where
    drawn_of : AllDrawn (Passes ∷ map Lands t.draws ++ Ends ∷ []) → AllDrawn (map Lands t.draws ++ Ends ∷ [])
    drawn_of d = d.1

no_rank : (s : Stage) → rank s ≤ 0 → ⊥
no_rank SchemeAsked less = omega arith
no_rank SchemeTold less = omega arith
no_rank NonceAsked less = omega arith
no_rank NonceTold less = omega arith
no_rank KeySet less = omega arith
no_rank KeyTaken less = omega arith
no_rank NonceGiven less = omega arith
no_rank VerifySent less = omega arith

-- so many ticks end it
pub ticks_end : (key : List ℕ) (node left k : ℕ) (w : WorldState) (events : List IncludeEvent) → IsTicks k w events → AllDrawn events → suc k ≤ left → Calm key node w → Ahead node left k w
    → is_secure (after_all w events).includer node ≡ true
ticks_end key node left zero w events none drawn enough c (inl secure) = ap (λ (es : List IncludeEvent). is_secure (after_all w es).includer node) none ∙ secure
ticks_end key node left zero w events none drawn enough c (inr x) = absurd (no_rank x.0 x.4)
ticks_end key node left (suc k) w events ts drawn enough c a =
    let both : AllDrawn (ts.0 ++ ts.1) = subst (λ (es : List IncludeEvent). AllDrawn es) ts.2 drawn in
    let t = tick key node left k w ts.0 ts.3 (drawn_prefix ts.0 ts.1 both) (omega (arith, enough)) c a in
    ap (λ (x : WorldState). is_secure x.includer node) (ap (λ (es : List IncludeEvent). after_all w es) ts.2 ∙ after_all-append w ts.0 ts.1)
    ∙ ticks_end key node (left - 1) k (after_all w ts.0) ts.1 ts.4 (drawn_rest ts.0 ts.1 both) (omega (arith, enough)) t.0 t.1
