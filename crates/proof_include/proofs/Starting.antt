-- What a line makes of both ends' counts, while a lock has no key; and an exchange that begins.
use Rattle.std.proofs.Common.{◌≡◌, ℕ, ◌<◌, ◌≤◌, Bool, true, false, cond, eqb, Option, Some, None, List, [], ◌∷◌, ◌++◌, length, refl, ap, sym, subst, ◌∙◌, inr, ⊎_elim, append_assoc, arith}
use Rattle.std.specs.List.{flat_map}
use Rattle.std.proofs.lemmas.Grind.{flat_map-append}
use Rattle.std.proofs.lemmas.List.{get_or-set_same, get_or-set_other, get_or-replicate, length-replicate, append-nil}
use Rattle.std.proofs.lemmas.List.FromFn.{get_or-map-range_with_len}
use Rattle.std.proofs.lemmas.Bool.{cases_eq, cond_both, ne_eqb}
use Rattle.s0_session.specs.declared.account.Account.{Account}
use Rattle.s0_session.specs.Nonces.{account_of, unused}
use Rattle.inclusion.specs.declared.message.Message.{Message}
use Rattle.inclusion.specs.declared.exchange.Exchange.{Exchange}
use Rattle.inclusion.specs.Messages.{message_of, scheme_get}
use Rattle.inclusion.specs.Joining.{Joining, fresh_joiner, forgetful}
use Rattle.inclusion.specs.Including.{is_secure, fresh_includer}
use Rattle.include_text.specs.declared.line.IncludeLine.{IncludeLine}
use Rattle.include_text.specs.declared.line.IncludeLine.TheVariants.{Add, Reset, Lose, Repeat, Tick}
use Rattle.include_text.specs.declared.entry.IncludeEntry.{IncludeEntry}
use Rattle.include_text.specs.declared.entry.IncludeEntry.TheVariants.{Said, Time, Written, Air, Heard, Lost, Key, Secure, Failed, Refused, Node}
use Rattle.include_text.specs.declared.entry.IncludeRefusal.{IncludeRefusal}
use Rattle.include_text.specs.declared.entry.IncludeRefusal.TheVariants.{Secure as HostSecure}
use Rattle.include_world.specs.declared.flight.Pair.{Pair}
use Rattle.air_frames.specs.declared.frame.Heading.TheVariants.{Outward}
use Rattle.include_world.specs.Air.{AirState, pair_of, flight, departing, forgetting, refusal_of, flight_at, first_air, no_counts}
use Rattle.include_world.specs.World.{WorldState, Doing, IncludeEvent, Says, Passes, Lands, Ends, does, says, adds, begins, refused, resets, repeats, joiner_of, first_world, first_joiner, after_all, entries_all, AllDrawn, AllSent, IsDrawn}
use Rattle.include_world.specs.Added.{IsSecure, last_of, last_word, Reached}
use Rattle.proof_include.specs.Ending.{key_taken, TookNone, Accepts, AddsAndTicks}
use Rattle.include_world.proofs.DoneEvents.{says_sent}
use Rattle.include_world.proofs.AirFacts.{Frames, frames_departing, frames_forgotten, frames_remembered, repeated_comes, departing_forgotten}
use Rattle.include_world.proofs.Sending.{departing_grows}
use Rattle.include_world.proofs.Saying.{keys_in}
use Rattle.include_world.proofs.WorldFacts.{Fact, does_step}
use Rattle.include_world.proofs.Events.{Holds, holds_all, holds_more, first_holds, secure_said}
use Rattle.proof_include.proofs.NearFacts.{Way}
use Rattle.proof_include.proofs.ShowFacts.{Shows, OutShows, Ready}
use Rattle.proof_include.proofs.HostShows.{seen_of}
use Rattle.proof_include.proofs.NearWorld.{Near, Says_of, both_frames, near_heard, near_lands, near_passes, near_ends}
use Rattle.proof_include.proofs.Stages.{SchemeAsked, scheme_asked}
use Rattle.proof_include.proofs.ExchangeSteps.{Going, spot_new, unmarked}
use Rattle.proof_include.proofs.Ticking.{Calm, ticks_end}

-- ---- lines

out_scheme : (secure : Bool) (account : Account) → OutShows secure account (message_of scheme_get)
out_scheme secure account = subst (λ (m : Message). OutShows secure account m) (sym scheme_asked) tt

pub near_begins : (key : List ℕ) (node : ℕ) (w : WorldState) (at : ℕ) → Near key node w → Near key node (begins w at).world
near_begins key node w at n = record {
  books = n.books;
  seens = n.seens;
  ready = n.ready;
  counting = λ e. (ap (λ (m : ℕ). seen_of w.includer m) e, λ asked. refl);
  frames = frames_departing node (Shows key node (is_secure w.includer node) (joiner_of w node) (account_of w.includer.book node)) w.air at Outward scheme_get
      (λ e. out_scheme (is_secure w.includer node) (account_of w.includer.book node)) n.frames;
  forgotten = let same = departing_forgotten w.air at Outward scheme_get node in let grows = departing_grows w.air at Outward scheme_get in omega (arith, same, grows.frames, n.forgotten);
}

pub near_adds : (key : List ℕ) (node : ℕ) (w : WorldState) (at : ℕ) → Near key node w → (o : Option Exchange) → Near key node (adds w at o).world
near_adds key node w at n (Some exchange) = n
near_adds key node w at n None = cond_both (is_secure w.includer at) (refused w HostSecure) (begins w at) (λ (d : Doing). Near key node d.world) (λ e. n) (λ e. near_begins key node w at n)

near_reset_here : (key : List ℕ) (node : ℕ) (w : WorldState) → Fact key node w → Near key node w → (joiner_of w node).key ≡ None → Near key node (resets w node)
near_reset_here key node w f n none =
    let new_is : joiner_of (resets w node) node ≡ forgetful (joiner_of w node) = get_or-set_same w.joiners node (forgetful (joiner_of w node)) (fresh_joiner 1) f.locks in
    let not_secure : is_secure (resets w node).includer node ≡ false = get_or-set_same w.includer.secure node false false f.secures in
    let all : (pair_of (forgetting w.air node) node).forgotten ≡ length w.air.frames
    = ap (λ (p : Pair). p.forgotten) (get_or-set_same w.air.pairs node (let p : Pair = record (pair_of w.air node) { forgotten = length w.air.frames } in p) no_counts f.pairs) in
    record {
      books = n.books;
      seens = n.seens;
      ready = subst (λ (j : Joining). Ready key node (seen_of w.includer node) (is_secure (resets w node).includer node) j (account_of w.includer.book node)) (sym new_is)
          (record { ends = n.ready.ends; waiting = refl; sent = λ e. refl; out = n.ready.out; home = λ e. n.ready.home none });
      counting = n.counting;
      frames = frames_forgotten node (Shows key node (is_secure (resets w node).includer node) (joiner_of (resets w node) node) (account_of w.includer.book node)) w.air f.pairs;
      forgotten = omega (arith, all);
    }

pub near_reset_elsewhere : (key : List ℕ) (node : ℕ) (w : WorldState) (at : ℕ) → (node ≡ at → ⊥) → Near key node w → Near key node (resets w at)
near_reset_elsewhere key node w at differ n =
    let same : joiner_of (resets w at) node ≡ joiner_of w node = get_or-set_other w.joiners at node (forgetful (joiner_of w at)) (fresh_joiner 1) differ in
    let secure_same : is_secure (resets w at).includer node ≡ is_secure w.includer node = get_or-set_other w.includer.secure at node false false differ in
    let pair_same : pair_of (forgetting w.air at) node ≡ pair_of w.air node
    = get_or-set_other w.air.pairs at node (let p : Pair = record (pair_of w.air at) { forgotten = length w.air.frames } in p) no_counts differ in
    record {
      books = n.books;
      seens = n.seens;
      ready = subst (λ (j : Joining). Ready key node (seen_of w.includer node) (is_secure (resets w at).includer node) j (account_of w.includer.book node)) (sym same)
          (subst (λ (b : Bool). Ready key node (seen_of w.includer node) b (joiner_of w node) (account_of w.includer.book node)) (sym secure_same) n.ready);
      counting = n.counting;
      frames = subst (λ (j : Joining). Frames node (Shows key node (is_secure (resets w at).includer node) j (account_of w.includer.book node)) (forgetting w.air at)) (sym same)
          (subst (λ (b : Bool). Frames node (Shows key node b (joiner_of w node) (account_of w.includer.book node)) (forgetting w.air at)) (sym secure_same)
          (frames_remembered node (Shows key node (is_secure w.includer node) (joiner_of w node) (account_of w.includer.book node)) w.air at differ n.frames));
      forgotten = subst (λ (p : Pair). p.forgotten ≤ length w.air.frames) (sym pair_same) n.forgotten;
    }

near_resets : (key : List ℕ) (node : ℕ) (w : WorldState) (at : ℕ) → Fact key node w → Near key node w → (joiner_of w node).key ≡ None → Near key node (resets w at)
near_resets key node w at f n none = ⊎_elim
    (λ e. subst (λ (m : ℕ). Near key node (resets w m)) e (near_reset_here key node w f n none))
    (λ differ. near_reset_elsewhere key node w at differ n)
    (cases_eq node at)

pub near_repeats : (key : List ℕ) (node : ℕ) (w : WorldState) (number : ℕ) (drawn : List ℕ) → length drawn ≡ 8 → Fact key node w → Near key node w → (o : Option IncludeRefusal) → refusal_of w.air number ≡ o
    → Near key node (repeats w number drawn o).world
near_repeats key node w number drawn eight f n (Some refusal) e = n
near_repeats key node w number drawn eight f n None e =
    near_heard key node w (flight_at w.air number) drawn eight f n (repeated_comes node (Says_of key node w) w.air number e (both_frames key node w f n))

near_says : (key : List ℕ) (node : ℕ) (w : WorldState) (line : IncludeLine) (drawn : List ℕ) → length drawn ≡ 8 → Fact key node w → Near key node w → (joiner_of w node).key ≡ None
    → Near key node (says w line drawn).world
near_says key node w (Add at) drawn eight f n none = near_adds key node w at n w.includer.exchange
near_says key node w (Reset at) drawn eight f n none = near_resets key node w at f n none
near_says key node w (Lose count) drawn eight f n none = record { books = n.books; seens = n.seens; ready = n.ready; counting = n.counting; frames = n.frames; forgotten = n.forgotten }
near_says key node w (Repeat number) drawn eight f n none = near_repeats key node w number drawn eight f n (refusal_of w.air number) refl
near_says key node w (Tick count) drawn eight f n none = n

near_does : (key : List ℕ) (node : ℕ) (w : WorldState) (event : IncludeEvent) → IsDrawn event → Fact key node w → Near key node w → (joiner_of w node).key ≡ None → Near key node (does w event).world
unfolding does
near_does key node w (Says line drawn) eight f n none = near_says key node w line drawn eight f n none
near_does key node w Passes eight f n none = near_passes key node w n
near_does key node w (Lands drawn) eight f n none = near_lands key node w drawn eight f n
near_does key node w Ends eight f n none = near_ends key node w n

-- ---- a lock that took no key

no_prefix : {A : Type 0} (xs ys : List A) → xs ++ ys ≡ [] → xs ≡ []
no_prefix [] ys e = refl
no_prefix (x ∷ xs) ys e = absurd cc

took_prefix : (node : ℕ) (xs ys : List IncludeEntry) → TookNone node (xs ++ ys) → TookNone node xs
took_prefix node xs ys e = no_prefix (flat_map (key_taken node) xs) (flat_map (key_taken node) ys) (sym (flat_map-append (key_taken node) xs ys) ∙ e)

-- after a mark, or none
reset_mark : (b : Bool) (before : Option Bool) (rest : List Bool) → (before ≡ Some true → ⊥) → ((x : Option Bool) → (x ≡ Some true → ⊥) → last_of x rest ≡ Some true → ⊥)
    → last_of before (cond b (false ∷ []) [] ++ rest) ≡ Some true → ⊥
reset_mark true before rest other go e = go (Some false) (λ f. absurd (let same : false ≡ true = cc in cc)) e
reset_mark false before rest other go e = go before other e

key_mark : (b : Bool) (at : ℕ) (before : Option Bool) (rest : List Bool) (taken : List ℕ) → cond b (at ∷ []) [] ++ taken ≡ [] → (before ≡ Some true → ⊥)
    → (taken ≡ [] → last_of before rest ≡ Some true → ⊥) → last_of before (cond b (true ∷ []) [] ++ rest) ≡ Some true → ⊥
key_mark true at before rest taken none other go e = absurd cc
key_mark false at before rest taken none other go e = go none e

untaken : (node : ℕ) (T : List IncludeEntry) (before : Option Bool) → (before ≡ Some true → ⊥) → TookNone node T → last_of before (keys_in node T) ≡ Some true → ⊥
untaken node [] before other none e = other e
untaken node (Said (Reset at) ∷ T) before other none e = reset_mark (eqb at node) before (keys_in node T) other (λ x f g. untaken node T x f none g) e
untaken node (Said (Add at) ∷ T) before other none e = untaken node T before other none e
untaken node (Said (Lose count) ∷ T) before other none e = untaken node T before other none e
untaken node (Said (Repeat number) ∷ T) before other none e = untaken node T before other none e
untaken node (Said (Tick count) ∷ T) before other none e = untaken node T before other none e
untaken node (Key at ∷ T) before other none e = key_mark (eqb at node) at before (keys_in node T) (flat_map (key_taken node) T) none other (λ rest g. untaken node T before other rest g) e
untaken node (Time tick ∷ T) before other none e = untaken node T before other none e
untaken node (Written side unit ∷ T) before other none e = untaken node T before other none e
untaken node (Air frame from to payload ∷ T) before other none e = untaken node T before other none e
untaken node (Heard frame ∷ T) before other none e = untaken node T before other none e
untaken node (Lost frame ∷ T) before other none e = untaken node T before other none e
untaken node (Secure at ∷ T) before other none e = untaken node T before other none e
untaken node (Failed at ∷ T) before other none e = untaken node T before other none e
untaken node (Refused refusal ∷ T) before other none e = untaken node T before other none e
untaken node (Node at secure key ∷ T) before other none e = untaken node T before other none e

-- what holds while a lock took none
record Fresh (key : List ℕ) (node : ℕ) (T : List IncludeEntry) (w : WorldState) : Type 0 where
  holds : Holds key node T w
  near : Near key node w
  none : (joiner_of w node).key ≡ None

still_none : (key : List ℕ) (node : ℕ) (T : List IncludeEntry) (w : WorldState) → Holds key node T w → TookNone node T → (joiner_of w node).key ≡ None
still_none key node T w h none = ⊎_elim (λ e. e) (λ has. absurd (untaken node T None (λ e. absurd cc) none (h.taken has))) h.fact.one

fresh_all : (key : List ℕ) (node : ℕ) (T : List IncludeEntry) (w : WorldState) (events : List IncludeEvent) → AllDrawn events → TookNone node (T ++ entries_all w events) → Fresh key node T w
    → Fresh key node (T ++ entries_all w events) (after_all w events)
fresh_all key node T w [] drawn none f = subst (λ (U : List IncludeEntry). Fresh key node U w) (sym (append-nil T)) f
fresh_all key node T w (event ∷ events) drawn none f =
    let step = does_step key node w event drawn.0 f.holds.fact in
    let next = holds_more key node T w (does w event) f.holds step in
    let assoc = append_assoc T (does w event).entries (entries_all (does w event).world events) in
    let rest : TookNone node ((T ++ (does w event).entries) ++ entries_all (does w event).world events) = subst (λ (U : List IncludeEntry). TookNone node U) (sym assoc) none in
    subst (λ (U : List IncludeEntry). Fresh key node U (after_all (does w event).world events)) assoc
    (fresh_all key node (T ++ (does w event).entries) (does w event).world events drawn.1 rest (record {
      holds = next;
      near = near_does key node w event drawn.0 f.holds.fact f.near f.none;
      none = still_none key node (T ++ (does w event).entries) (does w event).world next (took_prefix node (T ++ (does w event).entries) (entries_all (does w event).world events) rest);
    }))

first_near : (key : List ℕ) (node : ℕ) → 1 ≤ node → node ≤ 232 → Near key node (first_world key) × ((joiner_of (first_world key) node).key ≡ None)
unfolding first_world fresh_includer first_air
first_near key node from to =
    let within : node < 233 = omega (arith, to) in
    let made : joiner_of (first_world key) node ≡ fresh_joiner node
    = get_or-map-range_with_len first_joiner 0 233 node node (fresh_joiner 1) within (omega arith) ∙ ap (λ (b : Bool). fresh_joiner (cond b 1 node)) (ne_eqb node 0 (λ e. omega (arith, e, from))) in
    let account : account_of (first_world key).includer.book node ≡ unused = get_or-replicate 233 node unused unused within in
    let seen : seen_of (first_world key).includer node ≡ 0 = get_or-replicate 233 node 0 0 within in
    let not_secure : is_secure (first_world key).includer node ≡ false = get_or-replicate 233 node false false within in
    let pair : pair_of (first_world key).air node ≡ no_counts = get_or-replicate 233 node no_counts no_counts within in
    let way : Way unused 0 = record { within = omega arith; ahead = omega arith; alive = omega arith } in (
      record {
        books = omega (arith, within, length-replicate 233 unused);
        seens = omega (arith, within, length-replicate {A = ℕ} 233 0);
        ready = subst (λ (j : Joining). Ready key node (seen_of (first_world key).includer node) (is_secure (first_world key).includer node) j (account_of (first_world key).includer.book node)) (sym made)
            (record {
              ends = refl;
              waiting = refl;
              sent = λ e. refl;
              out = subst (λ (a : Account). Way a 0) (sym account) way;
              home = λ e. subst (λ (n : ℕ). Way unused n) (sym seen) way;
            });
        counting = tt;
        frames = λ i there is_node kept. absurd (omega arith);
        forgotten = subst (λ (p : Pair). p.forgotten ≤ 0) (sym pair) (omega arith);
      },
      ap (λ (j : Joining). j.key) made,
    )

-- ---- an exchange begins

pub added_is : (w : WorldState) (node : ℕ) (drawn : List ℕ) → Accepts node w → (does w (Says (Add node) drawn)).world ≡ (begins w node).world
unfolding does
added_is w node drawn a =
    ap (λ (o : Option Exchange). (adds w node o).world) a.idle
    ∙ ap (λ (b : Bool). (let d : Doing = cond b (refused w HostSecure) (begins w node) in d).world) a.insecure

pub begins_going : (key : List ℕ) (node : ℕ) (w : WorldState) → Near key node w → (joiner_of w node).key ≡ None → w.air.losing ≡ 0 → Going node 100 SchemeAsked (length w.air.frames) (begins w node).world
begins_going key node w n none calm = record {
  under = record { exchange = _; under = refl; with_it = refl; time = omega arith; at = refl };
  lock = none;
  frame = flight w.air node Outward scheme_get;
  spot = spot_new node w.air node Outward scheme_get n.forgotten;
  node_is = refl;
  found = unmarked w.air calm;
  heading = refl;
  is_for = scheme_asked;
}

pub begins_calm : (air : AirState) (node : ℕ) → air.losing ≡ 0 → (departing air node Outward scheme_get).losing ≡ 0
unfolding departing
begins_calm air node calm = omega (arith, calm)

pub ends_secure : (key : List ℕ) (T : List IncludeEntry) (w : WorldState) → Reached key T w → AllSent w → (node : ℕ) → 1 ≤ node → node ≤ 232 → TookNone node T → Accepts node w
    → (events : List IncludeEvent) → AddsAndTicks node 8 w events → last_word node (T ++ entries_all w events) ≡ Some IsSecure
ends_secure key T w r sent node from to none a events t =
    let start = first_near key node from to in
    let first : Fresh key node [] (first_world key) = record { holds = first_holds key node r.sixteen from to; near = start.0; none = start.1 } in
    let untaken_here : TookNone node (entries_all (first_world key) r.events) = subst (λ (U : List IncludeEntry). TookNone node U) r.entries none in
    let reached : Fresh key node (entries_all (first_world key) r.events) (after_all (first_world key) r.events) = fresh_all key node [] (first_world key) r.events r.drawn untaken_here first in
    let here : Fresh key node T w
    = subst (λ (U : List IncludeEntry). Fresh key node U w) (sym r.entries) (subst (λ (v : WorldState). Fresh key node (entries_all (first_world key) r.events) v) (sym r.state) reached) in
    let drawn : AllDrawn (Says (Add node) t.drawn ∷ t.rest) = subst (λ (es : List IncludeEvent). AllDrawn es) t.are t.all_drawn in
    let begun = added_is w node t.drawn a in
    let calm : Calm key node (does w (Says (Add node) t.drawn)).world = record {
      fact = (does_step key node w (Says (Add node) t.drawn) drawn.0 here.holds.fact).fact;
      near = near_does key node w (Says (Add node) t.drawn) drawn.0 here.holds.fact here.near here.none;
      calm = ap (λ (v : WorldState). v.air.losing) begun ∙ begins_calm w.air node a.unmarked;
      within = says_sent w (Add node) t.drawn sent;
    } in
    let flies : (does w (Says (Add node) t.drawn)).world.air.landed ≤ length w.air.frames = subst (λ (v : WorldState). v.air.landed ≤ length w.air.frames) (sym begun) (begun_landed w.air node sent) in
    let going : Going node 100 SchemeAsked (length w.air.frames) (does w (Says (Add node) t.drawn)).world
    = subst (λ (v : WorldState). Going node 100 SchemeAsked (length w.air.frames) v) (sym begun) (begins_going key node w here.near here.none a.unmarked) in
    let secure : is_secure (after_all (does w (Says (Add node) t.drawn)).world t.rest).includer node ≡ true
    = ticks_end key node 100 8 (does w (Says (Add node) t.drawn)).world t.rest t.ticking drawn.1 (omega arith) calm (inr (SchemeAsked, length w.air.frames, going, flies, omega arith)) in
    let all = holds_all key node T w events t.all_drawn here.holds in
    secure_said (last_word node (T ++ entries_all w events)) (all.counted ∙ (ap (λ (es : List IncludeEvent). is_secure (after_all w es).includer node) t.are ∙ secure))
  where
    begun_landed : (air : AirState) (node : ℕ) → air.landed ≤ length air.frames → (departing air node Outward scheme_get).landed ≤ length air.frames
    begun_landed air node h = let grows = departing_grows air node Outward scheme_get in omega (arith, grows.landed, h)
