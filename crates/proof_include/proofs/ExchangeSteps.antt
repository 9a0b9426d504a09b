-- An exchange that goes on: each frame that is heard brings it on, or leaves it.
use Rattle.std.proofs.Common.{◌≡◌, ◌⊎◌, ℕ, ◌<◌, ◌≤◌, Bool, true, false, cond, ltb, Option, Some, List, [], ◌∷◌, length, get_or, set, refl, ap, sym, subst, ◌∙◌, inl, inr, ⊎_elim, length-append, arith}
use Rattle.std.proofs.lemmas.List.{get_or-set_same, get_or-set_other, get_or_append_left, get_or_at}
use Rattle.std.proofs.lemmas.Bool.{ne_eqb, le-ltb}
use Rattle.s0_session.specs.Nonces.{account_of}
use Rattle.inclusion.specs.declared.exchange.Exchange.{Exchange}
use Rattle.inclusion.specs.Messages.{message_of}
use Rattle.inclusion.specs.Joining.{Joining, Joined, joiner_takes, fresh_joiner}
use Rattle.inclusion.specs.Including.{Including, Included, quiet, is_secure, includer_takes, is_with, takes_message}
use Rattle.air_frames.specs.declared.frame.Heading.{Heading}
use Rattle.air_frames.specs.declared.frame.Heading.TheVariants.{Outward, Homeward}
use Rattle.include_world.specs.declared.flight.Flight.{Flight}
use Rattle.include_world.specs.declared.air.Coming.{Coming}
use Rattle.include_world.specs.Air.{AirState, pair_of, flight, departing, sending, no_flight}
use Rattle.include_world.specs.World.{WorldState, lock_hears, host_hears, joiner_of}
use Rattle.include_world.proofs.AirFacts.{departing_forgotten}
use Rattle.include_world.proofs.WorldFacts.{Fact}
use Rattle.proof_include.proofs.HostShows.{seen_of, Counting}
use Rattle.proof_include.proofs.NearWorld.{Near, Says_of}
use Rattle.proof_include.proofs.Stages.{Stage, rank, heading_of, IsFor, LockAt, lock_goes}
use Rattle.proof_include.proofs.HostStages.{Under, host_goes}

-- a frame of a node that will be heard
pub record Spot (node i : ℕ) (f : Flight) (air : AirState) : Type 0 where
  pub there : i < length air.frames
  pub is : get_or air.frames i no_flight ≡ f
  pub kept : (pair_of air node).forgotten ≤ i

spot_departing : (node i : ℕ) (f : Flight) (air : AirState) (at : ℕ) (heading : Heading) (payload : List ℕ) → Spot node i f air → Spot node i f (departing air at heading payload)
unfolding departing
spot_departing node i f air at heading payload s = record {
  there = omega (arith, s.there, length-append air.frames (flight air at heading payload ∷ []));
  is = get_or_append_left air.frames (flight air at heading payload ∷ []) no_flight i s.there ∙ s.is;
  kept = subst (λ (n : ℕ). n ≤ i) (sym (departing_forgotten air at heading payload node)) s.kept;
}

spot_sending : (node i : ℕ) (f : Flight) (air : AirState) (at : ℕ) (heading : Heading) (replies : List (List ℕ)) → Spot node i f air → Spot node i f (sending air at heading replies)
spot_sending node i f air at heading [] s = s
spot_sending node i f air at heading (payload ∷ more) s = spot_sending node i f (departing air at heading payload) at heading more (spot_departing node i f air at heading payload s)

pub spot_new : (node : ℕ) (air : AirState) (at : ℕ) (heading : Heading) (payload : List ℕ) → (pair_of air node).forgotten ≤ length air.frames
    → Spot node (length air.frames) (flight air at heading payload) (departing air at heading payload)
unfolding departing
spot_new node air at heading payload within = record {
  there = omega (arith, length-append air.frames (flight air at heading payload ∷ []));
  is = get_or_at air.frames (flight air at heading payload) [] no_flight (length air.frames) refl;
  kept = subst (λ (n : ℕ). n ≤ length air.frames) (sym (departing_forgotten air at heading payload node)) within;
}

-- the exchange with a node has come so far, and this frame carries it on
pub record Going (node left : ℕ) (s : Stage) (i : ℕ) (w : WorldState) : Type 0 where
  pub under : Under node left s w.includer
  pub lock : LockAt s (joiner_of w node)
  pub frame : Flight
  pub spot : Spot node i frame w.air
  pub node_is : frame.node ≡ node
  pub found : frame.lost ≡ false
  pub heading : frame.heading ≡ heading_of s
  pub is_for : IsFor s (message_of frame.payload)

-- it ended, or came further by a new frame, or did not for another frame than its own
abbrev pub Later : ℕ → ℕ → Stage → ℕ → WorldState → Type 0
Later node left s i w = (next : Stage) × (rank next < rank s) × Going node left next i w

pub record Rests (node left : ℕ) (s : Stage) (i : ℕ) (coming : Coming) (w : WorldState) : Type 0 where
  pub going : Going node left s i w
  pub other : coming.node ≡ node → coming.heading ≡ heading_of s → IsFor s (message_of coming.payload) → ⊥

abbrev pub Heard : ℕ → ℕ → Stage → ℕ → Coming → WorldState → WorldState → Type 0
Heard node left s i coming old new = (is_secure new.includer node ≡ true) ⊎ (Later node left s (length old.air.frames) new ⊎ Rests node left s i coming new)

pub unmarked : (air : AirState) → air.losing ≡ 0 → ltb 0 air.losing ≡ false
unmarked air calm = le-ltb 0 air.losing (omega (arith, calm))

pub lock_here : (key : List ℕ) (left : ℕ) (s : Stage) (i : ℕ) (w : WorldState) (coming : Coming) (drawn : List ℕ) → length drawn ≡ 8 → Fact key coming.node w → Near key coming.node w → w.air.losing ≡ 0
    → is_secure w.includer coming.node ≡ false → Says_of key coming.node w Outward coming.payload → coming.heading ≡ Outward
    → Going coming.node left s i w → Heard coming.node left s i coming w (lock_hears w coming (joiner_takes (joiner_of w coming.node) coming.payload drawn)).world
lock_here key left s i w coming drawn eight f n calm insecure told headed g =
    let did : Joined = joiner_takes (joiner_of w coming.node) coming.payload drawn in
    let new_is : get_or (set w.joiners coming.node (joiner_takes (joiner_of w coming.node) coming.payload drawn).joiner) coming.node (fresh_joiner 1) ≡ (joiner_takes (joiner_of w coming.node) coming.payload drawn).joiner
    = get_or-set_same w.joiners coming.node (joiner_takes (joiner_of w coming.node) coming.payload drawn).joiner (fresh_joiner 1) f.locks in
    let step = lock_goes key coming.node (seen_of w.includer coming.node) (is_secure w.includer coming.node) (joiner_of w coming.node) (account_of w.includer.book coming.node) n.ready f.one insecure
    coming.payload drawn eight f.sixteen f.node_is s g.lock told.0 told.1 in
    inr (⊎_elim
    (λ goes. inl (
      goes.next,
      goes.less,
      record {
        under = record { exchange = g.under.exchange; under = g.under.under; with_it = g.under.with_it; time = g.under.time; at = goes.host g.under.exchange g.under.at };
        lock = subst (λ (j : Joining). LockAt goes.next j) (sym new_is) goes.at;
        frame = flight w.air coming.node Homeward goes.reply;
        spot = subst (λ (rs : List (List ℕ)). Spot coming.node (length w.air.frames) (flight w.air coming.node Homeward goes.reply) (sending w.air coming.node Homeward rs)) (sym goes.sent)
            (spot_new coming.node w.air coming.node Homeward goes.reply n.forgotten);
        node_is = refl;
        found = unmarked w.air calm;
        heading = sym goes.home;
        is_for = goes.is_for;
      },
    ))
    (λ waits. inr (record {
      going = record {
        under = g.under;
        lock = subst (λ (j : Joining). LockAt s j) (sym new_is) waits.at;
        frame = g.frame;
        spot = spot_sending coming.node i g.frame w.air coming.node Homeward (joiner_takes (joiner_of w coming.node) coming.payload drawn).replies g.spot;
        node_is = g.node_is;
        found = g.found;
        heading = g.heading;
        is_for = g.is_for;
      };
      other = λ e h is_for. waits.other (sym h ∙ headed) is_for;
    }))
    step)

pub lock_elsewhere : (node left : ℕ) (s : Stage) (i : ℕ) (w : WorldState) (coming : Coming) (did : Joined) → (node ≡ coming.node → ⊥) → Going node left s i w → Rests node left s i coming (lock_hears w coming did).world
lock_elsewhere node left s i w coming did differ g = record {
  going = record {
    under = g.under;
    lock = subst (λ (j : Joining). LockAt s j) (sym (get_or-set_other w.joiners coming.node node did.joiner (fresh_joiner 1) differ)) g.lock;
    frame = g.frame;
    spot = spot_sending node i g.frame w.air coming.node Homeward did.replies g.spot;
    node_is = g.node_is;
    found = g.found;
    heading = g.heading;
    is_for = g.is_for;
  };
  other = λ e h is_for. differ (sym e);
}

pub host_here : (key : List ℕ) (left : ℕ) (s : Stage) (i : ℕ) (w : WorldState) (coming : Coming) (drawn : List ℕ) → length drawn ≡ 8 → Fact key coming.node w → Near key coming.node w → w.air.losing ≡ 0
    → is_secure w.includer coming.node ≡ false → Says_of key coming.node w Homeward coming.payload → coming.heading ≡ Homeward
    → Going coming.node left s i w → Heard coming.node left s i coming w (host_hears w coming (includer_takes w.includer coming.node coming.payload drawn)).world
host_here key left s i w coming drawn eight f n calm insecure told headed g =
    let counts = subst (λ (o : Option Exchange). Counting coming.node (seen_of w.includer coming.node) o) g.under.under n.counting in
    let step = host_goes key coming.node left (joiner_of w coming.node) w.includer g.under.exchange f.key_is f.secures n.ready insecure g.under.under g.under.with_it g.under.time (counts g.under.with_it)
    coming.payload drawn eight s g.under.at g.lock told.0 told.1 in
    ⊎_elim (λ secure. inl secure)
    (λ rest. inr (⊎_elim
    (λ goes. inl (
      goes.next,
      goes.less,
      record {
        under = goes.under;
        lock = goes.lock_at;
        frame = flight w.air coming.node Outward goes.reply;
        spot = subst (λ (rs : List (List ℕ)). Spot coming.node (length w.air.frames) (flight w.air coming.node Outward goes.reply) (sending w.air coming.node Outward rs)) (sym goes.sent)
            (spot_new coming.node w.air coming.node Outward goes.reply n.forgotten);
        node_is = refl;
        found = unmarked w.air calm;
        heading = sym goes.out;
        is_for = goes.is_for;
      },
    ))
    (λ waits. inr (record {
      going = record {
        under = waits.under;
        lock = g.lock;
        frame = g.frame;
        spot = spot_sending coming.node i g.frame w.air coming.node Outward (includer_takes w.includer coming.node coming.payload drawn).replies g.spot;
        node_is = g.node_is;
        found = g.found;
        heading = g.heading;
        is_for = g.is_for;
      };
      other = λ e h is_for. waits.other (sym h ∙ headed) is_for;
    }))
    rest))
    step

-- the host takes nothing of another node
not_with : (old : Including) (x : Exchange) (from : ℕ) (payload drawn : List ℕ) → old.exchange ≡ Some x → (from ≡ x.node → ⊥) → includer_takes old from payload drawn ≡ quiet old
unfolding includer_takes
not_with old x from payload drawn under differ =
    ap (λ (b : Bool). cond b (takes_message old from payload drawn (message_of payload)) (quiet old))
    (ap (λ (o : Option Exchange). is_with o from) under ∙ ne_eqb x.node from (λ e. differ (sym e)))

pub host_elsewhere : (node left : ℕ) (s : Stage) (i : ℕ) (w : WorldState) (coming : Coming) (drawn : List ℕ) → (node ≡ coming.node → ⊥) → Going node left s i w
    → Rests node left s i coming (host_hears w coming (includer_takes w.includer coming.node coming.payload drawn)).world
host_elsewhere node left s i w coming drawn differ g =
    subst (λ (did : Included). Rests node left s i coming (host_hears w coming did).world)
    (sym (not_with w.includer g.under.exchange coming.node coming.payload drawn g.under.under (λ e. differ (sym g.under.with_it ∙ sym e))))
    (record {
      going = record { under = g.under; lock = g.lock; frame = g.frame; spot = g.spot; node_is = g.node_is; found = g.found; heading = g.heading; is_for = g.is_for };
      other = λ e h is_for. differ (sym e);
    })
