-- What holds of both ends' counts in a world, until a lock that had a key is reset.
use Rattle.std.proofs.Common.{◌≡◌, ℕ, ◌-◌, ◌<◌, ◌≤◌, Bool, leb, Option, Some, None, List, [], ◌∷◌, length, get_or, set, sym, subst, ⊎_elim, arith}
use Rattle.std.proofs.lemmas.List.{get_or-set_same, get_or-set_other}
use Rattle.std.proofs.lemmas.Bool.{cases_eq, cond_both}
use Rattle.s0_session.specs.declared.account.Account.{Account}
use Rattle.s0_session.specs.Nonces.{account_of}
use Rattle.inclusion.specs.declared.exchange.Exchange.{Exchange}
use Rattle.inclusion.specs.Joining.{Joining, Joined, joiner_takes, fresh_joiner}
use Rattle.inclusion.specs.Including.{Including, Included, includer_takes, is_secure, exchange_after}
use Rattle.air_frames.specs.declared.frame.Heading.{Heading}
use Rattle.air_frames.specs.declared.frame.Heading.TheVariants.{Outward, Homeward}
use Rattle.include_world.specs.declared.air.Coming.{Coming}
use Rattle.include_world.specs.Air.{AirState, pair_of, departing, sending, arriving}
use Rattle.include_world.specs.World.{WorldState, Doing, Passes, Lands, Ends, does, hears, hears_by, lock_hears, host_hears, lands_by, landed, joiner_of}
use Rattle.include_world.proofs.AirFacts.{arriving_comes, Frames, Comes, frames_map, frames_sending, departing_forgotten}
use Rattle.include_world.proofs.Sending.{departing_grows}
use Rattle.include_world.proofs.KeyFacts.{Tells}
use Rattle.include_world.proofs.HostFacts.{Hosts, host_takes}
use Rattle.include_world.proofs.WorldFacts.{Fact}
use Rattle.proof_include.proofs.ShowFacts.{Shows, Ready, lock_turns}
use Rattle.proof_include.proofs.HostShows.{Counting, seen_of, host_keeps, host_away}

pub record Near (key : List ℕ) (node : ℕ) (w : WorldState) : Type 0 where
  pub books : node < length w.includer.book
  pub seens : node < length w.includer.seen
  pub ready : Ready key node (seen_of w.includer node) (is_secure w.includer node) (joiner_of w node) (account_of w.includer.book node)
  pub counting : Counting node (seen_of w.includer node) w.includer.exchange
  pub frames : Frames node (Shows key node (is_secure w.includer node) (joiner_of w node) (account_of w.includer.book node)) w.air
  pub forgotten : (pair_of w.air node).forgotten ≤ length w.air.frames

-- what was forgotten stays within
sending_within : (air : AirState) (at : ℕ) (heading : Heading) (replies : List (List ℕ)) (node : ℕ) → (pair_of air node).forgotten ≤ length air.frames
    → (pair_of (sending air at heading replies) node).forgotten ≤ length (sending air at heading replies).frames
sending_within air at heading [] node h = h
sending_within air at heading (payload ∷ more) node h = sending_within (departing air at heading payload) at heading more node (departing_within air at heading payload node h)
  where
    departing_within : (air : AirState) (at : ℕ) (heading : Heading) (payload : List ℕ) (node : ℕ) → (pair_of air node).forgotten ≤ length air.frames
        → (pair_of (departing air at heading payload) node).forgotten ≤ length (departing air at heading payload).frames
    departing_within air at heading payload node h = let same = departing_forgotten air at heading payload node in let grows = departing_grows air at heading payload in omega (arith, same, grows.frames, h)

lock_here : (key : List ℕ) (w : WorldState) (coming : Coming) (drawn : List ℕ) → length drawn ≡ 8 → Fact key coming.node w → Near key coming.node w
    → Tells key coming.node (joiner_of w coming.node) Outward coming.payload
    → Shows key coming.node (is_secure w.includer coming.node) (joiner_of w coming.node) (account_of w.includer.book coming.node) Outward coming.payload
    → Near key coming.node (lock_hears w coming (joiner_takes (joiner_of w coming.node) coming.payload drawn)).world
lock_here key w coming drawn eight f n told shown =
    let t = lock_turns key coming.node (seen_of w.includer coming.node) (is_secure w.includer coming.node) (joiner_of w coming.node) (account_of w.includer.book coming.node) n.ready f.one f.secured
    coming.payload drawn eight f.sixteen f.node_is told shown in
    let new_is : get_or (set w.joiners coming.node (joiner_takes (joiner_of w coming.node) coming.payload drawn).joiner) coming.node (fresh_joiner 1) ≡ (joiner_takes (joiner_of w coming.node) coming.payload drawn).joiner
    = get_or-set_same w.joiners coming.node (joiner_takes (joiner_of w coming.node) coming.payload drawn).joiner (fresh_joiner 1) f.locks in
    record {
      books = n.books;
      seens = n.seens;
      ready = subst (λ (j : Joining). Ready key coming.node (seen_of w.includer coming.node) (is_secure w.includer coming.node) j (account_of w.includer.book coming.node)) (sym new_is) t.ready;
      counting = n.counting;
      frames = subst (λ (j : Joining). Frames coming.node (Shows key coming.node (is_secure w.includer coming.node) j (account_of w.includer.book coming.node)) (sending w.air coming.node Homeward (joiner_takes (joiner_of w coming.node) coming.payload drawn).replies)) (sym new_is)
          (frames_sending coming.node (Shows key coming.node (is_secure w.includer coming.node) (joiner_takes (joiner_of w coming.node) coming.payload drawn).joiner (account_of w.includer.book coming.node)) w.air coming.node Homeward
          (joiner_takes (joiner_of w coming.node) coming.payload drawn).replies (λ e. t.shows)
          (frames_map coming.node (Shows key coming.node (is_secure w.includer coming.node) (joiner_of w coming.node) (account_of w.includer.book coming.node))
          (Shows key coming.node (is_secure w.includer coming.node) (joiner_takes (joiner_of w coming.node) coming.payload drawn).joiner (account_of w.includer.book coming.node)) w.air t.keeps n.frames));
      forgotten = sending_within w.air coming.node Homeward (joiner_takes (joiner_of w coming.node) coming.payload drawn).replies coming.node n.forgotten;
    }

lock_elsewhere : (key : List ℕ) (node : ℕ) (w : WorldState) (coming : Coming) (did : Joined) → (node ≡ coming.node → ⊥) → Near key node w → Near key node (lock_hears w coming did).world
lock_elsewhere key node w coming did differ n =
    let same : joiner_of (lock_hears w coming did).world node ≡ joiner_of w node = get_or-set_other w.joiners coming.node node did.joiner (fresh_joiner 1) differ in
    record {
      books = n.books;
      seens = n.seens;
      ready = subst (λ (j : Joining). Ready key node (seen_of w.includer node) (is_secure w.includer node) j (account_of w.includer.book node)) (sym same) n.ready;
      counting = n.counting;
      frames = subst (λ (j : Joining). Frames node (Shows key node (is_secure w.includer node) j (account_of w.includer.book node)) (sending w.air coming.node Homeward did.replies)) (sym same)
          (frames_sending node (Shows key node (is_secure w.includer node) (joiner_of w node) (account_of w.includer.book node)) w.air coming.node Homeward did.replies (λ e. absurd (differ (sym e))) n.frames);
      forgotten = sending_within w.air coming.node Homeward did.replies node n.forgotten;
    }

host_here : (key : List ℕ) (w : WorldState) (coming : Coming) (drawn : List ℕ) → length drawn ≡ 8 → Fact key coming.node w → Near key coming.node w
    → Tells key coming.node (joiner_of w coming.node) Homeward coming.payload
    → Shows key coming.node (is_secure w.includer coming.node) (joiner_of w coming.node) (account_of w.includer.book coming.node) Homeward coming.payload
    → Near key coming.node (host_hears w coming (includer_takes w.includer coming.node coming.payload drawn)).world
host_here key w coming drawn eight f n told shown =
    let k = host_keeps key (joiner_of w coming.node) w.includer coming.node f.key_is n.books n.seens n.ready coming.payload drawn eight f.secures f.setting n.counting told shown in
    let did : Included = includer_takes w.includer coming.node coming.payload drawn in
    record {
      books = omega (arith, n.books, k.books);
      seens = omega (arith, n.seens, k.seens);
      ready = k.ready;
      counting = k.counting;
      frames = frames_sending coming.node (Shows key coming.node (is_secure (includer_takes w.includer coming.node coming.payload drawn).includer coming.node) (joiner_of w coming.node) (account_of (includer_takes w.includer coming.node coming.payload drawn).includer.book coming.node))
          w.air coming.node Outward (includer_takes w.includer coming.node coming.payload drawn).replies k.shows
          (frames_map coming.node (Shows key coming.node (is_secure w.includer coming.node) (joiner_of w coming.node) (account_of w.includer.book coming.node))
          (Shows key coming.node (is_secure (includer_takes w.includer coming.node coming.payload drawn).includer coming.node) (joiner_of w coming.node) (account_of (includer_takes w.includer coming.node coming.payload drawn).includer.book coming.node)) w.air k.keeps n.frames);
      forgotten = sending_within w.air coming.node Outward (includer_takes w.includer coming.node coming.payload drawn).replies coming.node n.forgotten;
    }

host_elsewhere : (key : List ℕ) (node : ℕ) (w : WorldState) (coming : Coming) (drawn : List ℕ) → (node ≡ coming.node → ⊥) → Near key node w
    → is_secure (includer_takes w.includer coming.node coming.payload drawn).includer node ≡ is_secure w.includer node
    → Near key node (host_hears w coming (includer_takes w.includer coming.node coming.payload drawn)).world
host_elsewhere key node w coming drawn differ n secure_same =
    let a = host_away node w.includer coming.node differ coming.payload drawn n.counting in
    let next : Including = (includer_takes w.includer coming.node coming.payload drawn).includer in
    record {
      books = omega (arith, n.books, a.books);
      seens = omega (arith, n.seens, a.seens);
      ready = subst (λ (x : Account). Ready key node (seen_of next node) (is_secure next node) (joiner_of w node) x) (sym a.account)
          (subst (λ (b : Bool). Ready key node (seen_of next node) b (joiner_of w node) (account_of w.includer.book node)) (sym secure_same)
          (subst (λ (s : ℕ). Ready key node s (is_secure w.includer node) (joiner_of w node) (account_of w.includer.book node)) (sym a.seen) n.ready));
      counting = subst (λ (s : ℕ). Counting node s next.exchange) (sym a.seen) a.counting;
      frames = subst (λ (x : Account). Frames node (Shows key node (is_secure next node) (joiner_of w node) x) (sending w.air coming.node Outward (includer_takes w.includer coming.node coming.payload drawn).replies)) (sym a.account)
          (subst (λ (b : Bool). Frames node (Shows key node b (joiner_of w node) (account_of w.includer.book node)) (sending w.air coming.node Outward (includer_takes w.includer coming.node coming.payload drawn).replies)) (sym secure_same)
          (frames_sending node (Shows key node (is_secure w.includer node) (joiner_of w node) (account_of w.includer.book node)) w.air coming.node Outward (includer_takes w.includer coming.node coming.payload drawn).replies
          (λ e. absurd (differ (sym e))) n.frames));
      forgotten = sending_within w.air coming.node Outward (includer_takes w.includer coming.node coming.payload drawn).replies node n.forgotten;
    }

at_here : (key : List ℕ) (node at : ℕ) (w next : WorldState) → node ≡ at → (Fact key at w → Near key at w → Near key at next) → Fact key node w → Near key node w → Near key node next
at_here key node at w next e step f n = subst (λ (m : ℕ). Near key m next) (sym e) (step (subst (λ (m : ℕ). Fact key m w) e f) (subst (λ (m : ℕ). Near key m w) e n))

-- what a frame of the node that is heard tells and shows
abbrev pub Says_of : List ℕ → ℕ → WorldState → Heading → List ℕ → Type 0
Says_of key node w h payload = Tells key node (joiner_of w node) h payload × Shows key node (is_secure w.includer node) (joiner_of w node) (account_of w.includer.book node) h payload

near_hears : (key : List ℕ) (node : ℕ) (w : WorldState) (coming : Coming) (drawn : List ℕ) → length drawn ≡ 8 → Fact key node w → Near key node w
    → (h : Heading) → (coming.node ≡ node → Says_of key node w h coming.payload) → Near key node (hears_by w coming drawn h).world
near_hears key node w coming drawn eight f n Outward told = ⊎_elim
    (λ e. at_here key node coming.node w (hears_by w coming drawn Outward).world e
    (λ g m. let t = subst (λ (x : ℕ). Says_of key x w Outward coming.payload) e (told (sym e)) in lock_here key w coming drawn eight g m t.0 t.1) f n)
    (λ differ. lock_elsewhere key node w coming (joiner_takes (joiner_of w coming.node) coming.payload drawn) differ n)
    (cases_eq node coming.node)
near_hears key node w coming drawn eight f n Homeward told = ⊎_elim
    (λ e. at_here key node coming.node w (hears_by w coming drawn Homeward).world e
    (λ g m. let t = subst (λ (x : ℕ). Says_of key x w Homeward coming.payload) e (told (sym e)) in host_here key w coming drawn eight g m t.0 t.1) f n)
    (λ differ.
    let h : Hosts key node (joiner_of w node) w.includer coming.node (includer_takes w.includer coming.node coming.payload drawn)
    = host_takes key node (joiner_of w node) w.includer coming.node f.key_is f.secures f.secured coming.payload drawn eight f.setting (λ e. (told e).0) in
    host_elsewhere key node w coming drawn differ n (h.other differ))
    (cases_eq node coming.node)

pub near_heard : (key : List ℕ) (node : ℕ) (w : WorldState) (coming : Coming) (drawn : List ℕ) → length drawn ≡ 8 → Fact key node w → Near key node w
    → Comes node (Says_of key node w) (Some coming) → Near key node (hears w coming drawn).world
unfolding hears
near_heard key node w coming drawn eight f n told = near_hears key node w coming drawn eight f n coming.heading told

pub both_frames : (key : List ℕ) (node : ℕ) (w : WorldState) → Fact key node w → Near key node w → Frames node (Says_of key node w) w.air
both_frames key node w f n i within is_node kept = (f.frames i within is_node kept, n.frames i within is_node kept)

near_land : (key : List ℕ) (node : ℕ) (w : WorldState) (drawn : List ℕ) → length drawn ≡ 8 → Fact key node w → Near key node w → (o : Option Coming) → Comes node (Says_of key node w) o
    → Near key node (lands_by w o drawn).world
near_land key node w drawn eight f n None told = n
near_land key node w drawn eight f n (Some coming) told = near_heard key node w coming drawn eight f n told

near_landed : (key : List ℕ) (node : ℕ) (did : Doing) → Near key node did.world → Near key node (landed did).world
near_landed key node did n = record { books = n.books; seens = n.seens; ready = n.ready; counting = n.counting; frames = n.frames; forgotten = n.forgotten }

pub near_lands : (key : List ℕ) (node : ℕ) (w : WorldState) (drawn : List ℕ) → length drawn ≡ 8 → Fact key node w → Near key node w → Near key node (does w (Lands drawn)).world
unfolding does
near_lands key node w drawn eight f n =
    near_landed key node (lands_by w (arriving w.air) drawn)
    (near_land key node w drawn eight f n (arriving w.air) (arriving_comes node (Says_of key node w) w.air (both_frames key node w f n)))

pub near_passes : (key : List ℕ) (node : ℕ) (w : WorldState) → Near key node w → Near key node (does w Passes).world
unfolding does
near_passes key node w n = record { books = n.books; seens = n.seens; ready = n.ready; counting = n.counting; frames = n.frames; forgotten = n.forgotten }

later_counting : (node seen : ℕ) (o : Option Exchange) → Counting node seen o → Counting node seen (exchange_after o)
later_counting node seen None c = tt
later_counting node seen (Some exchange) c =
    cond_both (leb exchange.left 1) None (Some (let x : Exchange = record exchange { left = exchange.left - 1 } in x)) (λ o. Counting node seen o) (λ e. tt) (λ e. c)

pub near_ends : (key : List ℕ) (node : ℕ) (w : WorldState) → Near key node w → Near key node (does w Ends).world
unfolding does
near_ends key node w n = record {
  books = n.books;
  seens = n.seens;
  ready = n.ready;
  counting = later_counting node (seen_of w.includer node) w.includer.exchange n.counting;
  frames = n.frames;
  forgotten = n.forgotten;
}
