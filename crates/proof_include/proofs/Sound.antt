-- What holds of a node in each world that lines lead to, and that every event keeps it.
use Rattle.std.proofs.Common.{◌≡◌, ℕ, ◌+◌, ◌-◌, ◌%◌, ◌≤◌, Bool, true, false, cond, ◌||◌, Option, Some, None, List, length, refl, ap, sym, subst, ⊎_elim, arith}
use Rattle.std.proofs.lemmas.List.{get_or-set_same, get_or-set_other}
use Rattle.std.proofs.lemmas.Bool.{cases_eq, cond_both}
use Rattle.s0_session.specs.Nonces.{account_of}
use Rattle.inclusion.specs.declared.message.Message.{Message}
use Rattle.inclusion.specs.declared.exchange.Exchange.{Exchange}
use Rattle.inclusion.specs.Messages.{scheme_get}
use Rattle.inclusion.specs.Joining.{Joining, Joined, joiner_takes, fresh_joiner, forgetful}
use Rattle.inclusion.specs.Including.{Including, Included, includer_takes, is_secure}
use Rattle.include_text.specs.declared.line.IncludeLine.{IncludeLine}
use Rattle.include_text.specs.declared.line.IncludeLine.TheVariants.{Add, Reset, Lose, Repeat, Tick}
use Rattle.include_text.specs.declared.entry.IncludeRefusal.{IncludeRefusal}
use Rattle.include_text.specs.declared.entry.IncludeRefusal.TheVariants.{Secure as HostSecure}
use Rattle.air_frames.specs.declared.frame.Heading.{Heading}
use Rattle.air_frames.specs.declared.frame.Heading.TheVariants.{Outward, Homeward}
use Rattle.include_world.specs.declared.flight.Flight.{Flight}
use Rattle.include_world.specs.declared.flight.Pair.{Pair}
use Rattle.include_world.specs.Air.{pair_of, no_counts, heard_of, frame_at, flight_at, heard_if, is_forgotten, arriving, refusal_of, forgetting, landing, departing, sending}
use Rattle.include_world.specs.World.{WorldState, Doing, Says, Passes, Lands, Ends, does, says, adds, begins, refused, resets, repeats, hears, hears_by, lock_hears, host_hears, lands_by, landed, ends, joiner_of}
use Rattle.include_world.proofs.AirFacts.{frames_forgotten}
use Rattle.include_world.proofs.HostFacts.{Hosts, host_takes as host_fact}
use Rattle.include_world.proofs.KeyFacts.{Tells}
use Rattle.include_world.proofs.WorldFacts.{Fact, does_step}
use Rattle.proof_include.proofs.HostShows.{seen_of, host_away}
use Rattle.proof_include.proofs.NearFacts.{Way}
use Rattle.proof_include.proofs.ShowFacts.{Shows, Ready}
use Rattle.proof_include.proofs.NearWorld.{Near, near_lands, near_passes, near_ends}
use Rattle.proof_include.proofs.Stages.{scheme_asked}
use Rattle.proof_include.proofs.Starting.{near_reset_elsewhere, near_repeats, near_adds}
use Rattle.proof_include.proofs.Flights.{flights_map, flights_forgotten, flights_remembered, pair_elsewhere, arriving_flight, repeated_flight}
use Rattle.proof_include.proofs.Numbers.{OfByte, byte_in, Tally, Carries, Close, close_landing, close_fresh, carries_on, carries_ends, carries_most, tally, AirCounts, air_on, air_away, air_sends, air_reports, sending_away, sending_sends, LastIs}
use Rattle.proof_include.proofs.HostNumbers.{may_of, may_in, more_one, in_one, cond_less, may_away, may_ends, host_takes}
use Rattle.proof_include.proofs.LockNumbers.{lock_turns}

-- the host's count of a lock's nonces is the lock's own or one less, and each frame carries a nonce near to the last one
pub record Exact (node most : ℕ) (w : WorldState) : Type 0 where
  pub way : Way (joiner_of w node).given (seen_of w.includer node)
  pub air : AirCounts node (joiner_of w node).given.given (seen_of w.includer node) (may_of w.includer node) most w.air

-- what is near to the last nonce of a node
abbrev pub Close_to : ℕ → WorldState → Heading → List ℕ → Type 0
Close_to node w h payload = Close (joiner_of w node).given.given (seen_of w.includer node) h payload

few : (host : Including) (node : ℕ) → may_of host node ≤ seen_of host node + 1
few host node = let one = more_one host node in omega (arith, one)

-- ---- what is heard

lock_here : (key : List ℕ) (most : ℕ) (w : WorldState) (number : ℕ) (frame : Flight) (drawn : List ℕ) → length drawn ≡ 8 → Fact key frame.node w → Exact frame.node most w → Close_to frame.node w Outward frame.payload
    → Exact frame.node most (lock_hears w (heard_of number frame) (joiner_takes (joiner_of w frame.node) frame.payload drawn)).world
lock_here key most w number frame drawn eight f x close =
    let node : ℕ = frame.node in
    let old : Joining = joiner_of w frame.node in
    let did : Joined = joiner_takes (joiner_of w frame.node) frame.payload drawn in
    let seen : ℕ = seen_of w.includer frame.node in
    let may : ℕ = may_of w.includer frame.node in
    let new_is : joiner_of (lock_hears w (heard_of number frame) did).world frame.node ≡ did.joiner = get_or-set_same w.joiners frame.node did.joiner (fresh_joiner 1) f.locks in
    let back : ((j : Joining) → j ≡ did.joiner → Way j.given seen × AirCounts node j.given.given seen may most (sending w.air node Homeward did.replies)) → Exact frame.node most (lock_hears w (heard_of number frame) did).world
    = λ both. let b = both (joiner_of (lock_hears w (heard_of number frame) did).world frame.node) new_is in record { way = b.0; air = b.1 } in
    ⊎_elim
    (λ g. back (λ j e. subst (λ (k : Joining). Way k.given seen × AirCounts node k.given.given seen may most (sending w.air node Homeward did.replies)) (sym e) (
      g.way,
      subst (λ (rs : List (List ℕ)). AirCounts node did.joiner.given.given seen may most (sending w.air node Homeward rs)) (sym g.sent)
          (air_reports node old.given.given seen may most did.joiner.given.given w.air g.nonce f.pairs g.eight g.is g.more g.one g.way.within (few w.includer node) x.air),
    )))
    (λ k. back (λ j e. subst (λ (k : Joining). Way k.given seen × AirCounts node k.given.given seen may most (sending w.air node Homeward did.replies)) (sym e) (
      k.way,
      subst (λ (n : ℕ). AirCounts node n seen may most (sending w.air node Homeward did.replies)) (sym k.given)
          (sending_sends node old.given.given seen may most w.air Homeward did.replies f.pairs x.way.ahead (few w.includer node) k.sends x.air),
    )))
    (lock_turns old seen x.way frame.payload drawn eight close)

lock_elsewhere : (node most : ℕ) (w : WorldState) (number : ℕ) (frame : Flight) (did : Joined) → (node ≡ frame.node → ⊥) → Exact node most w → Exact node most (lock_hears w (heard_of number frame) did).world
lock_elsewhere node most w number frame did differ x =
    let same : joiner_of (lock_hears w (heard_of number frame) did).world node ≡ joiner_of w node = get_or-set_other w.joiners frame.node node did.joiner (fresh_joiner 1) differ in
    record {
      way = subst (λ (j : Joining). Way j.given (seen_of w.includer node)) (sym same) x.way;
      air = subst (λ (j : Joining). AirCounts node j.given.given (seen_of w.includer node) (may_of w.includer node) most (sending w.air frame.node Homeward did.replies)) (sym same)
          (sending_away node (joiner_of w node).given.given (seen_of w.includer node) (may_of w.includer node) most w.air frame.node Homeward did.replies differ x.air);
    }

host_here : (key : List ℕ) (most : ℕ) (w : WorldState) (number : ℕ) (frame : Flight) (drawn : List ℕ) → length drawn ≡ 8 → Fact key frame.node w → Near key frame.node w → Exact frame.node most w
    → Close_to frame.node w Homeward frame.payload → Exact frame.node most (host_hears w (heard_of number frame) (includer_takes w.includer frame.node frame.payload drawn)).world
host_here key most w number frame drawn eight f n x close =
    let node : ℕ = frame.node in
    let given : ℕ = (joiner_of w frame.node).given.given in
    let did : Included = includer_takes w.includer frame.node frame.payload drawn in
    let t = host_takes key frame.node (joiner_of w frame.node).given w.includer x.way n.seens f.secures frame.payload drawn eight f.setting n.counting close in
    record {
      way = t.way;
      air = sending_sends node given (seen_of did.includer node) (may_of did.includer node) most w.air Outward did.replies f.pairs t.way.ahead (few did.includer node) t.sends
          (air_on node given (seen_of w.includer node) (may_of w.includer node) most (seen_of did.includer node) (may_of did.includer node) most w.air t.taken t.may (omega arith) x.air);
    }

host_elsewhere : (node most : ℕ) (w : WorldState) (number : ℕ) (frame : Flight) (drawn : List ℕ) → (node ≡ frame.node → ⊥)
    → seen_of (includer_takes w.includer frame.node frame.payload drawn).includer node ≡ seen_of w.includer node
    → is_secure (includer_takes w.includer frame.node frame.payload drawn).includer node ≡ is_secure w.includer node
    → Exact node most w → Exact node most (host_hears w (heard_of number frame) (includer_takes w.includer frame.node frame.payload drawn)).world
host_elsewhere node most w number frame drawn differ seen secure x =
    let given : ℕ = (joiner_of w node).given.given in
    let did : Included = includer_takes w.includer frame.node frame.payload drawn in
    let may = may_away node w.includer frame.node frame.payload drawn differ seen secure in
    record {
      way = subst (λ (s : ℕ). Way (joiner_of w node).given s) (sym seen) x.way;
      air = sending_away node given (seen_of did.includer node) (may_of did.includer node) most w.air frame.node Outward did.replies differ
          (air_on node given (seen_of w.includer node) (may_of w.includer node) most (seen_of did.includer node) (may_of did.includer node) most w.air (omega (arith, seen)) may (omega arith) x.air);
    }

at_here : (key : List ℕ) (node most at : ℕ) (w next : WorldState) → node ≡ at → (Fact key at w → Near key at w → Exact at most w → Exact at most next) → Fact key node w → Near key node w → Exact node most w → Exact node most next
at_here key node most at w next e step f n x =
    subst (λ (m : ℕ). Exact m most next) (sym e) (step (subst (λ (m : ℕ). Fact key m w) e f) (subst (λ (m : ℕ). Near key m w) e n) (subst (λ (m : ℕ). Exact m most w) e x))

exact_hears : (key : List ℕ) (node most : ℕ) (w : WorldState) (number : ℕ) (frame : Flight) (drawn : List ℕ) → length drawn ≡ 8 → Fact key node w → Near key node w → Exact node most w
    → (h : Heading) → (frame.node ≡ node → Close_to node w h frame.payload) → (frame.node ≡ node → Tells key node (joiner_of w node) h frame.payload) → Exact node most (hears_by w (heard_of number frame) drawn h).world
exact_hears key node most w number frame drawn eight f n x Outward close told = ⊎_elim
    (λ e. at_here key node most frame.node w (hears_by w (heard_of number frame) drawn Outward).world e
    (λ g m y. lock_here key most w number frame drawn eight g y (subst (λ (a : ℕ). Close_to a w Outward frame.payload) e (close (sym e)))) f n x)
    (λ differ. lock_elsewhere node most w number frame (joiner_takes (joiner_of w frame.node) frame.payload drawn) differ x)
    (cases_eq node frame.node)
exact_hears key node most w number frame drawn eight f n x Homeward close told = ⊎_elim
    (λ e. at_here key node most frame.node w (hears_by w (heard_of number frame) drawn Homeward).world e
    (λ g m y. host_here key most w number frame drawn eight g m y (subst (λ (a : ℕ). Close_to a w Homeward frame.payload) e (close (sym e)))) f n x)
    (λ differ.
    let h : Hosts key node (joiner_of w node) w.includer frame.node (includer_takes w.includer frame.node frame.payload drawn)
    = host_fact key node (joiner_of w node) w.includer frame.node f.key_is f.secures f.secured frame.payload drawn eight f.setting told in
    let a = host_away node w.includer frame.node differ frame.payload drawn n.counting in
    host_elsewhere node most w number frame drawn differ a.seen (h.other differ) x)
    (cases_eq node frame.node)

exact_heard : (key : List ℕ) (node most : ℕ) (w : WorldState) (number : ℕ) (frame : Flight) (drawn : List ℕ) → length drawn ≡ 8 → Fact key node w → Near key node w → Exact node most w
    → (frame.node ≡ node → Close_to node w frame.heading frame.payload) → (frame.node ≡ node → Tells key node (joiner_of w node) frame.heading frame.payload)
    → Exact node most (hears w (heard_of number frame) drawn).world
unfolding hears
exact_heard key node most w number frame drawn eight f n x close told = exact_hears key node most w number frame drawn eight f n x frame.heading close told

-- ---- time

-- a frame that has landed
exact_landed : (node most : ℕ) (did : Doing) → Exact node most did.world → Exact node most (landed did).world
exact_landed node most did x =
    let given : ℕ = (joiner_of did.world node).given.given in
    let seen : ℕ = seen_of did.world.includer node in
    let may : ℕ = may_of did.world.includer node in
    record {
      way = x.way;
      air = record {
        last = x.air.last;
        flights = flights_map node (Carries (tally node given seen may most did.world.air)) (Carries (tally node given seen may most (landing did.world.air))) did.world.air
            (λ i f within. carries_on (tally node given seen may most did.world.air) (tally node given seen may most (landing did.world.air))
            (record { given = omega arith; taken = omega arith; may = omega arith; shows = omega arith; landed = omega arith; most = omega arith }) i f) x.air.flights;
      };
    }

below : (node most : ℕ) (w : WorldState) → Exact node most w → (joiner_of w node).given.given ≤ may_of w.includer node + 1
below node most w x = omega (arith, x.way.ahead)

land_if : (key : List ℕ) (node most : ℕ) (w : WorldState) (drawn : List ℕ) → length drawn ≡ 8 → Fact key node w → Near key node w → Exact node most w
    → (b : Bool) → ((frame_at w.air (w.air.landed + 1)).lost || is_forgotten w.air (w.air.landed + 1) (frame_at w.air (w.air.landed + 1))) ≡ b
    → Exact node most (lands_by w (heard_if b (flight_at w.air (w.air.landed + 1))) drawn).world
land_if key node most w drawn eight f n x true e = x
land_if key node most w drawn eight f n x false e =
    let t : Tally = tally node (joiner_of w node).given.given (seen_of w.includer node) (may_of w.includer node) most w.air in
    exact_heard key node most w (w.air.landed + 1) (frame_at w.air (w.air.landed + 1)) drawn eight f n x
    (λ it. close_landing t (frame_at w.air (w.air.landed + 1)) (below node most w x) (arriving_flight node (Carries t) w.air e x.air.flights it))
    (λ it. arriving_flight node (λ i g. Tells key node (joiner_of w node) g.heading g.payload) w.air e f.frames it)

exact_lands : (key : List ℕ) (node most : ℕ) (w : WorldState) (drawn : List ℕ) → length drawn ≡ 8 → Fact key node w → Near key node w → Exact node most w → Exact node most (does w (Lands drawn)).world
unfolding does
exact_lands key node most w drawn eight f n x =
    exact_landed node most (lands_by w (arriving w.air) drawn)
    (land_if key node most w drawn eight f n x ((frame_at w.air (w.air.landed + 1)).lost || is_forgotten w.air (w.air.landed + 1) (frame_at w.air (w.air.landed + 1))) refl)

exact_passes : (node most : ℕ) (w : WorldState) → Exact node most w → Exact node most (does w Passes).world
unfolding does
exact_passes node most w x = record { way = x.way; air = record { last = x.air.last; flights = x.air.flights } }

exact_ends : (node most : ℕ) (w : WorldState) → w.air.landed ≡ most → Exact node most w → Exact node (length w.air.frames) (does w Ends).world
unfolding does
exact_ends node most w all x =
    let given : ℕ = (joiner_of w node).given.given in
    let seen : ℕ = seen_of w.includer node in
    let next : WorldState = (ends w).world in
    record {
      way = x.way;
      air = record {
        last = x.air.last;
        flights = flights_map node (Carries (tally node given seen (may_of w.includer node) most w.air)) (Carries (tally node given seen (may_of next.includer node) (length w.air.frames) w.air)) w.air
            (λ i f within. carries_ends (tally node given seen (may_of w.includer node) most w.air) (tally node given seen (may_of next.includer node) (length w.air.frames) w.air)
            refl refl (may_ends w.includer node) refl refl all i f within) x.air.flights;
      };
    }

-- all frames that are there were there before
exact_most : (node most : ℕ) (w : WorldState) → Exact node most w → Exact node (length w.air.frames) w
exact_most node most w x =
    let given : ℕ = (joiner_of w node).given.given in
    let seen : ℕ = seen_of w.includer node in
    let may : ℕ = may_of w.includer node in
    record {
      way = x.way;
      air = record {
        last = x.air.last;
        flights = flights_map node (Carries (tally node given seen may most w.air)) (Carries (tally node given seen may (length w.air.frames) w.air)) w.air
            (λ i f within. carries_most (tally node given seen may most w.air) (tally node given seen may (length w.air.frames) w.air) refl refl refl refl refl i f within) x.air.flights;
      };
    }

-- ---- lines

begins_may : (w : WorldState) (at node : ℕ) → w.includer.exchange ≡ None → may_of (begins w at).world.includer node ≤ may_of w.includer node
begins_may w at node idle =
    let old : may_in w.includer.exchange node ≡ 1 = ap (λ (o : Option Exchange). may_in o node) idle in
    let new = in_one (begins w at).world.includer.exchange node in
    let less = cond_less (is_secure w.includer node) (may_in (begins w at).world.includer.exchange node) (may_in w.includer.exchange node) (omega (arith, old, new)) in
    omega (arith, less)

exact_begins : (key : List ℕ) (node most : ℕ) (w : WorldState) (at : ℕ) → Fact key node w → w.includer.exchange ≡ None → Exact node most w → Exact node most (begins w at).world
exact_begins key node most w at f idle x =
    let given : ℕ = (joiner_of w node).given.given in
    let seen : ℕ = seen_of w.includer node in
    let may : ℕ = may_of (begins w at).world.includer node in
    let before : AirCounts node given seen may most w.air = air_on node given seen (may_of w.includer node) most seen may most w.air (omega arith) (begins_may w at node idle) (omega arith) x.air in
    let one = more_one (begins w at).world.includer node in
    record {
      way = x.way;
      air = ⊎_elim
          (λ e. subst (λ (a : ℕ). AirCounts node given seen may most (departing w.air a Outward scheme_get)) e
          (air_sends node given seen may most w.air Outward scheme_get f.pairs x.way.ahead (omega (arith, one))
          (subst (λ (m : Message). OfByte (byte_in Outward scheme_get m) (λ byte. byte ≡ seen % 256)) (sym scheme_asked) tt) before))
          (λ differ. air_away node given seen may most w.air at Outward scheme_get differ before)
          (cases_eq node at);
    }

exact_adds : (key : List ℕ) (node most : ℕ) (w : WorldState) (at : ℕ) → Fact key node w → Exact node most w → (o : Option Exchange) → w.includer.exchange ≡ o → Exact node most (adds w at o).world
exact_adds key node most w at f x (Some exchange) e = x
exact_adds key node most w at f x None e =
    cond_both (is_secure w.includer at) (refused w HostSecure) (begins w at) (λ (d : Doing). Exact node most d.world) (λ s. x) (λ s. exact_begins key node most w at f e x)

exact_reset_here : (key : List ℕ) (node most : ℕ) (w : WorldState) → Fact key node w → Exact node most w → Exact node most (resets w node)
exact_reset_here key node most w f x =
    let new_is : joiner_of (resets w node) node ≡ forgetful (joiner_of w node) = get_or-set_same w.joiners node (forgetful (joiner_of w node)) (fresh_joiner 1) f.locks in
    let pair_is : (pair_of (forgetting w.air node) node).nonces.homeward ≡ (pair_of w.air node).nonces.homeward
    = ap (λ (p : Pair). p.nonces.homeward) (get_or-set_same w.air.pairs node (let p : Pair = record (pair_of w.air node) { forgotten = length w.air.frames } in p) no_counts f.pairs) in
    let seen : ℕ = seen_of w.includer node in
    let may : ℕ = may_of (resets w node).includer node in
    record {
      way = subst (λ (j : Joining). Way j.given seen) (sym new_is) x.way;
      air = subst (λ (j : Joining). AirCounts node j.given.given seen may most (forgetting w.air node)) (sym new_is) (record {
        last = subst (λ (o : Option (List ℕ)). LastIs (joiner_of w node).given.given o) (sym pair_is) x.air.last;
        flights = flights_forgotten node (Carries (tally node (joiner_of w node).given.given seen may most (forgetting w.air node))) w.air f.pairs;
      });
    }

exact_reset_elsewhere : (node most : ℕ) (w : WorldState) (at : ℕ) → (node ≡ at → ⊥) → Exact node most w → Exact node most (resets w at)
exact_reset_elsewhere node most w at differ x =
    let same : joiner_of (resets w at) node ≡ joiner_of w node = get_or-set_other w.joiners at node (forgetful (joiner_of w at)) (fresh_joiner 1) differ in
    let secure_same : is_secure (resets w at).includer node ≡ is_secure w.includer node = get_or-set_other w.includer.secure at node false false differ in
    let pair = pair_elsewhere node w.air at differ in
    let given : ℕ = (joiner_of w node).given.given in
    let seen : ℕ = seen_of w.includer node in
    let may : ℕ = may_of (resets w at).includer node in
    let may_same : may_of (resets w at).includer node ≡ may_of w.includer node = ap (λ (b : Bool). seen_of w.includer node + cond b 0 (may_in w.includer.exchange node)) secure_same in
    let old : Tally = tally node given seen (may_of w.includer node) most w.air in
    let new : Tally = tally node given seen may most (forgetting w.air at) in
    let shown : (pair_of (forgetting w.air at) node).nonces.shown ≡ (pair_of w.air node).nonces.shown = ap (λ (p : Pair). p.nonces.shown) pair in
    record {
      way = subst (λ (j : Joining). Way j.given seen) (sym same) x.way;
      air = subst (λ (j : Joining). AirCounts node j.given.given seen may most (forgetting w.air at)) (sym same) (record {
        last = subst (λ (p : Pair). LastIs given p.nonces.homeward) (sym pair) x.air.last;
        flights = flights_map node (Carries old) (Carries new) (forgetting w.air at)
            (λ i f within. carries_on old new (record { given = omega arith; taken = omega arith; may = omega (arith, may_same); shows = omega (arith, shown); landed = omega arith; most = omega arith }) i f)
            (flights_remembered node (Carries old) w.air at differ x.air.flights);
      });
    }

exact_repeats : (key : List ℕ) (node most : ℕ) (w : WorldState) (number : ℕ) (drawn : List ℕ) → length drawn ≡ 8 → Fact key node w → Near key node w → Exact node most w
    → (o : Option IncludeRefusal) → refusal_of w.air number ≡ o → Exact node most (repeats w number drawn o).world
exact_repeats key node most w number drawn eight f n x (Some refusal) e = x
exact_repeats key node most w number drawn eight f n x None e =
    let t : Tally = tally node (joiner_of w node).given.given (seen_of w.includer node) (may_of w.includer node) most w.air in
    exact_heard key node most w number (frame_at w.air number) drawn eight f n x
    (λ it. let r = repeated_flight node (Carries t) w.air number e x.air.flights it in close_fresh t (number - 1) (frame_at w.air number) r.0 r.1)
    (λ it. (repeated_flight node (λ i g. Tells key node (joiner_of w node) g.heading g.payload) w.air number e f.frames it).1)

exact_says : (key : List ℕ) (node most : ℕ) (w : WorldState) (line : IncludeLine) (drawn : List ℕ) → length drawn ≡ 8 → Fact key node w → Near key node w → Exact node most w
    → Exact node most (says w line drawn).world
exact_says key node most w (Add at) drawn eight f n x = exact_adds key node most w at f x w.includer.exchange refl
exact_says key node most w (Reset at) drawn eight f n x = ⊎_elim
    (λ e. subst (λ (m : ℕ). Exact node most (resets w m)) e (exact_reset_here key node most w f x))
    (λ differ. exact_reset_elsewhere node most w at differ x)
    (cases_eq node at)
exact_says key node most w (Lose count) drawn eight f n x = record { way = x.way; air = record { last = x.air.last; flights = x.air.flights } }
exact_says key node most w (Repeat number) drawn eight f n x = exact_repeats key node most w number drawn eight f n x (refusal_of w.air number) refl
exact_says key node most w (Tick count) drawn eight f n x = x

-- ---- what a line makes of what frames show

-- after a reset the host's count is still near to the lock's
near_reset_here : (key : List ℕ) (node most : ℕ) (w : WorldState) → Fact key node w → Near key node w → Exact node most w → Near key node (resets w node)
near_reset_here key node most w f n x =
    let new_is : joiner_of (resets w node) node ≡ forgetful (joiner_of w node) = get_or-set_same w.joiners node (forgetful (joiner_of w node)) (fresh_joiner 1) f.locks in
    let all : (pair_of (forgetting w.air node) node).forgotten ≡ length w.air.frames
    = ap (λ (p : Pair). p.forgotten) (get_or-set_same w.air.pairs node (let p : Pair = record (pair_of w.air node) { forgotten = length w.air.frames } in p) no_counts f.pairs) in
    record {
      books = n.books;
      seens = n.seens;
      ready = subst (λ (j : Joining). Ready key node (seen_of w.includer node) (is_secure (resets w node).includer node) j (account_of w.includer.book node)) (sym new_is)
          (record { ends = n.ready.ends; waiting = refl; sent = λ e. refl; out = n.ready.out; home = λ e. x.way });
      counting = n.counting;
      frames = frames_forgotten node (Shows key node (is_secure (resets w node).includer node) (joiner_of (resets w node) node) (account_of w.includer.book node)) w.air f.pairs;
      forgotten = omega (arith, all);
    }

near_says : (key : List ℕ) (node most : ℕ) (w : WorldState) (line : IncludeLine) (drawn : List ℕ) → length drawn ≡ 8 → Fact key node w → Near key node w → Exact node most w
    → Near key node (says w line drawn).world
near_says key node most w (Add at) drawn eight f n x = near_adds key node w at n w.includer.exchange
near_says key node most w (Reset at) drawn eight f n x = ⊎_elim
    (λ e. subst (λ (m : ℕ). Near key node (resets w m)) e (near_reset_here key node most w f n x))
    (λ differ. near_reset_elsewhere key node w at differ n)
    (cases_eq node at)
near_says key node most w (Lose count) drawn eight f n x = record { books = n.books; seens = n.seens; ready = n.ready; counting = n.counting; frames = n.frames; forgotten = n.forgotten }
near_says key node most w (Repeat number) drawn eight f n x = near_repeats key node w number drawn eight f n (refusal_of w.air number) refl
near_says key node most w (Tick count) drawn eight f n x = n

-- ---- all of it

-- what holds of a node; so many frames were there as the tick began
pub record Sound (key : List ℕ) (node most : ℕ) (w : WorldState) : Type 0 where
  pub fact : Fact key node w
  pub near : Near key node w
  pub exact : Exact node most w

pub sound_most : (key : List ℕ) (node most : ℕ) (w : WorldState) → Sound key node most w → Sound key node (length w.air.frames) w
sound_most key node most w s = record { fact = s.fact; near = s.near; exact = exact_most node most w s.exact }

near_said : (key : List ℕ) (node most : ℕ) (w : WorldState) (line : IncludeLine) (drawn : List ℕ) → length drawn ≡ 8 → Sound key node most w → Near key node (does w (Says line drawn)).world
unfolding does
near_said key node most w line drawn eight s = near_says key node most w line drawn eight s.fact s.near s.exact

exact_said : (key : List ℕ) (node most : ℕ) (w : WorldState) (line : IncludeLine) (drawn : List ℕ) → length drawn ≡ 8 → Sound key node most w → Exact node most (does w (Says line drawn)).world
unfolding does
exact_said key node most w line drawn eight s = exact_says key node most w line drawn eight s.fact s.near s.exact

pub sound_says : (key : List ℕ) (node most : ℕ) (w : WorldState) (line : IncludeLine) (drawn : List ℕ) → length drawn ≡ 8 → Sound key node most w → Sound key node most (does w (Says line drawn)).world
sound_says key node most w line drawn eight s = record {
  fact = (does_step key node w (Says line drawn) eight s.fact).fact;
  near = near_said key node most w line drawn eight s;
  exact = exact_said key node most w line drawn eight s;
}

pub sound_lands : (key : List ℕ) (node most : ℕ) (w : WorldState) (drawn : List ℕ) → length drawn ≡ 8 → Sound key node most w → Sound key node most (does w (Lands drawn)).world
sound_lands key node most w drawn eight s = record {
  fact = (does_step key node w (Lands drawn) eight s.fact).fact;
  near = near_lands key node w drawn eight s.fact s.near;
  exact = exact_lands key node most w drawn eight s.fact s.near s.exact;
}

pub sound_passes : (key : List ℕ) (node most : ℕ) (w : WorldState) → Sound key node most w → Sound key node most (does w Passes).world
sound_passes key node most w s = record { fact = (does_step key node w Passes tt s.fact).fact; near = near_passes key node w s.near; exact = exact_passes node most w s.exact }

pub sound_ends : (key : List ℕ) (node most : ℕ) (w : WorldState) → w.air.landed ≡ most → Sound key node most w → Sound key node (length w.air.frames) (does w Ends).world
sound_ends key node most w all s = record { fact = (does_step key node w Ends tt s.fact).fact; near = near_ends key node w s.near; exact = exact_ends node most w all s.exact }
