-- What holds of a node after every list of events: its lock, what the host counts, each frame that is still heard, and what the
-- transcript says.
use Rattle.std.proofs.Common.{◌≡◌, ◌⊎◌, ℕ, ◌+◌, ◌-◌, ◌<◌, Bool, true, false, cond, leb, Option, Some, None, List, [], ◌∷◌, ◌++◌, length, get_or, set, refl, ap, sym, subst, ◌∙◌, inl, ⊎_elim, arith}
use Rattle.std.proofs.lemmas.Grind.{flat_map-append}
use Rattle.std.proofs.lemmas.List.{get_or-set_same, get_or-set_other, append-nil}
use Rattle.std.proofs.Math.ListN.{length-set}
use Rattle.std.proofs.lemmas.Bool.{cases_eq, cond_both}
use Rattle.s0_crypto.specs.declared.ends.SealEnds.{SealEnds}
use Rattle.inclusion.specs.declared.exchange.Exchange.{Exchange}
use Rattle.inclusion.specs.Joining.{Joining, Joined, joiner_takes, fresh_joiner, forgetful}
use Rattle.inclusion.specs.Including.{Included, includer_takes, is_secure, exchange_after, failing_in}
use Rattle.inclusion.specs.Messages.{scheme_get}
use Rattle.include_text.specs.declared.line.IncludeLine.{IncludeLine}
use Rattle.include_text.specs.declared.line.IncludeLine.TheVariants.{Add, Reset, Lose, Repeat, Tick}
use Rattle.include_text.specs.declared.entry.IncludeEntry.{IncludeEntry}
use Rattle.include_text.specs.declared.entry.IncludeEntry.TheVariants.{Said, Time, Heard, Lost, Refused}
use Rattle.include_text.specs.declared.entry.IncludeRefusal.{IncludeRefusal}
use Rattle.include_text.specs.declared.entry.IncludeRefusal.TheVariants.{Busy, Secure as HostSecure}
use Rattle.air_frames.specs.declared.frame.Heading.{Heading}
use Rattle.air_frames.specs.declared.frame.Heading.TheVariants.{Outward, Homeward}
use Rattle.include_world.specs.declared.air.Coming.{Coming}
use Rattle.include_world.specs.Units.{units_of, in_order}
use Rattle.include_world.specs.Air.{air_entry, sent_entries, sending, arriving, losing_more, forgetting, refusal_of, flight_at}
use Rattle.include_world.specs.World.{WorldState, Doing, IncludeEvent, Says, Passes, Lands, Ends, does, says, adds, begins, refused, resets, repeats, hears, hears_by, lock_hears, host_hears, lands_by, landed, passes, ends, tells, key_entries, secure_entries, failed_entries, joiner_of, IsDrawn}
use Rattle.include_world.specs.Added.{Word, IsSecure, HasFailed, WasReset, of_node, word_in, key_in, last_of}
use Rattle.include_world.proofs.Saying.{words, keys_in, says_secure, Silent, silent_append, silent_air, silent_sent, not_of, just_of, key_of_other, secure_of_other, keys_no_words, secure_no_keys}
use Rattle.include_world.proofs.AirFacts.{Frames, Comes, frames_map, frames_sending, frames_departing, frames_forgotten, frames_remembered, sending_pairs, began_pairs, forgetting_pairs, arriving_comes, repeated_comes}
use Rattle.include_world.proofs.KeyFacts.{Tells, OneKey, Moves, lock_moves, out_scheme}
use Rattle.include_world.proofs.HostFacts.{Setting, Hosts, host_takes}

-- what holds of a node
pub record Fact (key : List ℕ) (node : ℕ) (w : WorldState) : Type 0 where
  pub sixteen : length key ≡ 16
  pub key_is : w.includer.key ≡ key
  pub locks : node < length w.joiners
  pub secures : node < length w.includer.secure
  pub pairs : node < length w.air.pairs
  pub node_is : (joiner_of w node).node ≡ node
  pub one : OneKey key (joiner_of w node).key
  pub secured : is_secure w.includer node ≡ true → (joiner_of w node).key ≡ Some key
  pub setting : Setting key node (is_secure w.includer node) w.includer.exchange
  pub frames : Frames node (Tells key node (joiner_of w node)) w.air

-- ---- what a doing leaves

-- what is done keeps what holds of the node, and says of it what is so
pub record Step (key : List ℕ) (node : ℕ) (w : WorldState) (did : Doing) : Type 0 where
  pub fact : Fact key node did.world
  pub counted : (before : Option Word) → says_secure before ≡ is_secure w.includer node → says_secure (last_of before (words node did.entries)) ≡ is_secure did.world.includer node
  pub taken : (before : Option Bool) → ((joiner_of w node).key ≡ Some key → before ≡ Some true)
      → (joiner_of did.world node).key ≡ Some key → last_of before (keys_in node did.entries) ≡ Some true

-- what is silent, and changes neither what is counted nor the key
quiet_step : (key : List ℕ) (node : ℕ) (w : WorldState) (did : Doing) → Fact key node did.world → Silent node did.entries
    → is_secure did.world.includer node ≡ is_secure w.includer node → ((joiner_of did.world node).key ≡ Some key → (joiner_of w node).key ≡ Some key) → Step key node w did
quiet_step key node w did fact silent same key_same = record {
  fact = fact;
  counted = λ before e. ap (λ (l : List Word). says_secure (last_of before l)) silent.no_words ∙ (e ∙ sym same);
  taken = λ before e has. ap (λ (l : List Bool). last_of before l) silent.no_keys ∙ e (key_same has);
}

-- an entry before that says nothing
after_entry : (key : List ℕ) (node : ℕ) (w : WorldState) (did : Doing) (entry : IncludeEntry) → Silent node (entry ∷ []) → Step key node w did
    → Step key node w (record { world = did.world; entries = entry ∷ did.entries })
after_entry key node w did entry silent step =
    let all_words : words node (entry ∷ did.entries) ≡ words node did.entries = flat_map-append (word_in node) (entry ∷ []) did.entries ∙ ap (λ l. l ++ words node did.entries) silent.no_words in
    let all_keys : keys_in node (entry ∷ did.entries) ≡ keys_in node did.entries = flat_map-append (key_in node) (entry ∷ []) did.entries ∙ ap (λ l. l ++ keys_in node did.entries) silent.no_keys in
    record {
      fact = step.fact;
      counted = λ before e. ap (λ (l : List Word). says_secure (last_of before l)) all_words ∙ step.counted before e;
      taken = λ before e has. ap (λ (l : List Bool). last_of before l) all_keys ∙ step.taken before e has;
    }

-- ---- a lock hears

last_key_of : (key : List ℕ) (node : ℕ) (old new : Option (List ℕ)) (before : Option Bool) → OneKey key old → (old ≡ Some key → before ≡ Some true) → new ≡ Some key
    → last_of before (keys_in node (key_entries node old new)) ≡ Some true
last_key_of key node None None before one e has = absurd cc
last_key_of key node None (Some k) before one e has = ap (λ (l : List Bool). last_of before l) (just_of node true)
last_key_of key node (Some k) new before one e has = e (⊎_elim (λ none. absurd cc) (λ same. same) one)

lock_here : (key : List ℕ) (w : WorldState) (coming : Coming) (drawn : List ℕ) → Fact key coming.node w → Tells key coming.node (joiner_of w coming.node) Outward coming.payload
    → Step key coming.node w (lock_hears w coming (joiner_takes (joiner_of w coming.node) coming.payload drawn))
lock_here key w coming drawn f told =
    let node : ℕ = coming.node in
    let old : Joining = joiner_of w coming.node in
    let did : Joined = joiner_takes (joiner_of w coming.node) coming.payload drawn in
    let m : Moves key coming.node (joiner_of w coming.node) (joiner_takes (joiner_of w coming.node) coming.payload drawn)
    = lock_moves key coming.node (joiner_of w coming.node) coming.payload drawn f.sixteen f.node_is f.one told in
    let new_is : get_or (set w.joiners coming.node (joiner_takes (joiner_of w coming.node) coming.payload drawn).joiner) coming.node (fresh_joiner 1) ≡ (joiner_takes (joiner_of w coming.node) coming.payload drawn).joiner
    = get_or-set_same w.joiners coming.node (joiner_takes (joiner_of w coming.node) coming.payload drawn).joiner (fresh_joiner 1) f.locks in
    let sent = silent_sent coming.node w.air coming.node Homeward (joiner_takes (joiner_of w coming.node) coming.payload drawn).replies in
    let marks : List IncludeEntry = Heard coming.number ∷ key_entries coming.node (joiner_of w coming.node).key (joiner_takes (joiner_of w coming.node) coming.payload drawn).joiner.key in
    let rest : List IncludeEntry = sent_entries w.air coming.node Homeward (joiner_takes (joiner_of w coming.node) coming.payload drawn).replies in
    record {
      fact = record {
        sixteen = f.sixteen;
        key_is = f.key_is;
        locks = omega (arith, f.locks, length-set w.joiners coming.node (joiner_takes (joiner_of w coming.node) coming.payload drawn).joiner);
        secures = f.secures;
        pairs = omega (arith, f.pairs, sending_pairs w.air coming.node Homeward (joiner_takes (joiner_of w coming.node) coming.payload drawn).replies);
        node_is = ap (λ (j : Joining). j.node) new_is ∙ (m.node_is ∙ f.node_is);
        one = subst (λ (j : Joining). OneKey key j.key) (sym new_is) m.one;
        secured = λ secure. ap (λ (j : Joining). j.key) new_is ∙ m.still (f.secured secure);
        setting = f.setting;
        frames = subst (λ (j : Joining). Frames coming.node (Tells key coming.node j) (sending w.air coming.node Homeward (joiner_takes (joiner_of w coming.node) coming.payload drawn).replies)) (sym new_is)
            (frames_sending coming.node (Tells key coming.node (joiner_takes (joiner_of w coming.node) coming.payload drawn).joiner) w.air coming.node Homeward
            (joiner_takes (joiner_of w coming.node) coming.payload drawn).replies (λ e. m.replies)
            (frames_map coming.node (Tells key coming.node (joiner_of w coming.node)) (Tells key coming.node (joiner_takes (joiner_of w coming.node) coming.payload drawn).joiner) w.air m.tells f.frames));
      };
      counted = λ before e.
          ap (λ (l : List Word). says_secure (last_of before l))
          (flat_map-append (word_in coming.node) marks rest ∙ (ap (λ l. l ++ words coming.node rest) (keys_no_words coming.node coming.node (joiner_of w coming.node).key (joiner_takes (joiner_of w coming.node) coming.payload drawn).joiner.key) ∙ sent.no_words)) ∙ e;
      taken = λ before e has.
          ap (λ (l : List Bool). last_of before l)
          (flat_map-append (key_in coming.node) marks rest ∙ (ap (λ l. keys_in coming.node marks ++ l) sent.no_keys ∙ append-nil (keys_in coming.node marks)))
          ∙ last_key_of key coming.node (joiner_of w coming.node).key (joiner_takes (joiner_of w coming.node) coming.payload drawn).joiner.key before f.one e (sym (ap (λ (j : Joining). j.key) new_is) ∙ has);
    }

lock_elsewhere : (key : List ℕ) (node : ℕ) (w : WorldState) (coming : Coming) (did : Joined) → (node ≡ coming.node → ⊥) → Fact key node w → Step key node w (lock_hears w coming did)
lock_elsewhere key node w coming did differ f =
    let same : joiner_of (lock_hears w coming did).world node ≡ joiner_of w node = get_or-set_other w.joiners coming.node node did.joiner (fresh_joiner 1) differ in
    quiet_step key node w (lock_hears w coming did)
    (record {
      sixteen = f.sixteen;
      key_is = f.key_is;
      locks = omega (arith, f.locks, length-set w.joiners coming.node did.joiner);
      secures = f.secures;
      pairs = omega (arith, f.pairs, sending_pairs w.air coming.node Homeward did.replies);
      node_is = ap (λ (j : Joining). j.node) same ∙ f.node_is;
      one = subst (λ (j : Joining). OneKey key j.key) (sym same) f.one;
      secured = λ secure. ap (λ (j : Joining). j.key) same ∙ f.secured secure;
      setting = f.setting;
      frames = subst (λ (j : Joining). Frames node (Tells key node j) (sending w.air coming.node Homeward did.replies)) (sym same)
          (frames_sending node (Tells key node (joiner_of w node)) w.air coming.node Homeward did.replies (λ e. absurd (differ (sym e))) f.frames);
    })
    (silent_append node (Heard coming.number ∷ key_entries coming.node (joiner_of w coming.node).key did.joiner.key) (sent_entries w.air coming.node Homeward did.replies)
    (silent_append node (Heard coming.number ∷ []) (key_entries coming.node (joiner_of w coming.node).key did.joiner.key) (record { no_words = refl; no_keys = refl })
    (key_of_other node coming.node (joiner_of w coming.node).key did.joiner.key differ)) (silent_sent node w.air coming.node Homeward did.replies))
    refl (λ has. sym (ap (λ (j : Joining). j.key) same) ∙ has)

-- ---- the host hears

last_secure_of : (node : ℕ) (was is : Bool) (before : Option Word) → (is ≡ was) ⊎ ((was ≡ false) × (is ≡ true)) → says_secure before ≡ was
    → says_secure (last_of before (words node (secure_entries node was is))) ≡ is
last_secure_of node false false before c e = e
last_secure_of node false true before c e = ap (λ (l : List Word). says_secure (last_of before l)) (just_of node IsSecure)
last_secure_of node true true before c e = e
last_secure_of node true false before c e = ⊎_elim (λ same. absurd cc) (λ both. absurd (let no : true ≡ false = both.0 in cc)) c

host_fact : (key : List ℕ) (node : ℕ) (w : WorldState) (coming : Coming) (did : Included) → Fact key node w → Hosts key node (joiner_of w node) w.includer coming.node did
    → Fact key node (host_hears w coming did).world
host_fact key node w coming did f h = record {
  sixteen = f.sixteen;
  key_is = h.key_is ∙ f.key_is;
  locks = f.locks;
  secures = omega (arith, f.secures, h.size);
  pairs = omega (arith, f.pairs, sending_pairs w.air coming.node Outward did.replies);
  node_is = f.node_is;
  one = f.one;
  secured = h.secured;
  setting = h.setting;
  frames = frames_sending node (Tells key node (joiner_of w node)) w.air coming.node Outward did.replies h.replies f.frames;
}

pub host_here : (key : List ℕ) (w : WorldState) (coming : Coming) (did : Included) → Fact key coming.node w → Hosts key coming.node (joiner_of w coming.node) w.includer coming.node did
    → Step key coming.node w (host_hears w coming did)
host_here key w coming did f h =
    let was : Bool = is_secure w.includer coming.node in
    let is : Bool = is_secure did.includer coming.node in
    let marks : List IncludeEntry = Heard coming.number ∷ secure_entries coming.node (is_secure w.includer coming.node) (is_secure did.includer coming.node) in
    let rest : List IncludeEntry = sent_entries w.air coming.node Outward did.replies in
    let sent = silent_sent coming.node w.air coming.node Outward did.replies in
    record {
      fact = host_fact key coming.node w coming did f h;
      counted = λ before e.
          ap (λ (l : List Word). says_secure (last_of before l))
          (flat_map-append (word_in coming.node) marks rest ∙ (ap (λ l. words coming.node marks ++ l) sent.no_words ∙ append-nil (words coming.node marks)))
          ∙ last_secure_of coming.node (is_secure w.includer coming.node) (is_secure did.includer coming.node) before h.counts e;
      taken = λ before e has.
          ap (λ (l : List Bool). last_of before l)
          (flat_map-append (key_in coming.node) marks rest ∙ (ap (λ l. l ++ keys_in coming.node rest) (secure_no_keys coming.node coming.node (is_secure w.includer coming.node) (is_secure did.includer coming.node)) ∙ sent.no_keys))
          ∙ e has;
    }

pub host_elsewhere : (key : List ℕ) (node : ℕ) (w : WorldState) (coming : Coming) (did : Included) → (node ≡ coming.node → ⊥) → Fact key node w → Hosts key node (joiner_of w node) w.includer coming.node did
    → Step key node w (host_hears w coming did)
host_elsewhere key node w coming did differ f h =
    quiet_step key node w (host_hears w coming did) (host_fact key node w coming did f h)
    (silent_append node (Heard coming.number ∷ secure_entries coming.node (is_secure w.includer coming.node) (is_secure did.includer coming.node)) (sent_entries w.air coming.node Outward did.replies)
    (silent_append node (Heard coming.number ∷ []) (secure_entries coming.node (is_secure w.includer coming.node) (is_secure did.includer coming.node)) (record { no_words = refl; no_keys = refl })
    (secure_of_other node coming.node (is_secure w.includer coming.node) (is_secure did.includer coming.node) differ)) (silent_sent node w.air coming.node Outward did.replies))
    (h.other differ) (λ has. has)

-- ---- a frame is heard

at_here : (key : List ℕ) (node at : ℕ) (w : WorldState) (did : Doing) → at ≡ node → (Fact key at w → Step key at w did) → Fact key node w → Step key node w did
at_here key node at w did e step f = subst (λ (n : ℕ). Step key n w did) e (step (subst (λ (n : ℕ). Fact key n w) (sym e) f))

hears_step : (key : List ℕ) (node : ℕ) (w : WorldState) (coming : Coming) (drawn : List ℕ) → length drawn ≡ 8 → Fact key node w
    → (h : Heading) → (coming.node ≡ node → Tells key node (joiner_of w node) h coming.payload) → Step key node w (hears_by w coming drawn h)
hears_step key node w coming drawn eight f Outward told = ⊎_elim
    (λ e. at_here key node coming.node w (hears_by w coming drawn Outward) (sym e)
    (λ g. lock_here key w coming drawn g (subst (λ (n : ℕ). Tells key n (joiner_of w n) Outward coming.payload) e (told (sym e)))) f)
    (λ differ. lock_elsewhere key node w coming (joiner_takes (joiner_of w coming.node) coming.payload drawn) differ f)
    (cases_eq node coming.node)
hears_step key node w coming drawn eight f Homeward told =
    let did : Included = includer_takes w.includer coming.node coming.payload drawn in
    let h : Hosts key node (joiner_of w node) w.includer coming.node (includer_takes w.includer coming.node coming.payload drawn)
    = host_takes key node (joiner_of w node) w.includer coming.node f.key_is f.secures f.secured coming.payload drawn eight f.setting told in
    ⊎_elim
    (λ e. at_here key node coming.node w (hears_by w coming drawn Homeward) (sym e)
    (λ g. host_here key w coming (includer_takes w.includer coming.node coming.payload drawn) g
    (subst (λ (n : ℕ). Hosts key n (joiner_of w n) w.includer coming.node (includer_takes w.includer coming.node coming.payload drawn)) e h)) f)
    (λ differ. host_elsewhere key node w coming (includer_takes w.includer coming.node coming.payload drawn) differ f h)
    (cases_eq node coming.node)

pub heard_step : (key : List ℕ) (node : ℕ) (w : WorldState) (coming : Coming) (drawn : List ℕ) → length drawn ≡ 8 → Fact key node w
    → Comes node (Tells key node (joiner_of w node)) (Some coming) → Step key node w (hears w coming drawn)
unfolding hears
heard_step key node w coming drawn eight f told = hears_step key node w coming drawn eight f coming.heading told

-- ---- events

same_step : (key : List ℕ) (node : ℕ) (w : WorldState) (entries : List IncludeEntry) → Fact key node w → Silent node entries → Step key node w (record { world = w; entries = entries })
same_step key node w entries f silent = quiet_step key node w (record { world = w; entries = entries }) f silent refl (λ has. has)

refused_step : (key : List ℕ) (node : ℕ) (w : WorldState) (refusal : IncludeRefusal) → Fact key node w → Step key node w (refused w refusal)
refused_step key node w refusal f = same_step key node w (Refused refusal ∷ []) f (record { no_words = refl; no_keys = refl })

-- the next frame arrives
land_step : (key : List ℕ) (node : ℕ) (w : WorldState) (drawn : List ℕ) → length drawn ≡ 8 → Fact key node w → (o : Option Coming) → Comes node (Tells key node (joiner_of w node)) o
    → Step key node w (lands_by w o drawn)
land_step key node w drawn eight f None told = same_step key node w (Lost (w.air.landed + 1) ∷ []) f (record { no_words = refl; no_keys = refl })
land_step key node w drawn eight f (Some coming) told = heard_step key node w coming drawn eight f told

landed_step : (key : List ℕ) (node : ℕ) (w : WorldState) (did : Doing) → Step key node w did → Step key node w (landed did)
landed_step key node w did s = record {
  fact = record {
    sixteen = s.fact.sixteen;
    key_is = s.fact.key_is;
    locks = s.fact.locks;
    secures = s.fact.secures;
    pairs = s.fact.pairs;
    node_is = s.fact.node_is;
    one = s.fact.one;
    secured = s.fact.secured;
    setting = s.fact.setting;
    frames = s.fact.frames;
  };
  counted = s.counted;
  taken = s.taken;
}

-- a tick of time begins, and ends
passes_step : (key : List ℕ) (node : ℕ) (w : WorldState) → Fact key node w → Step key node w (passes w)
passes_step key node w f =
    quiet_step key node w (passes w)
    (record {
      sixteen = f.sixteen;
      key_is = f.key_is;
      locks = f.locks;
      secures = f.secures;
      pairs = f.pairs;
      node_is = f.node_is;
      one = f.one;
      secured = f.secured;
      setting = f.setting;
      frames = f.frames;
    })
    (cond_both (tells w) (Time (w.time + 1) ∷ []) [] (λ es. Silent node es) (λ e. record { no_words = refl; no_keys = refl }) (λ e. record { no_words = refl; no_keys = refl }))
    refl (λ has. has)

later_setting : (key : List ℕ) (node : ℕ) (secure : Bool) (o : Option Exchange) → Setting key node secure o → Setting key node secure (exchange_after o)
later_setting key node secure None s = tt
later_setting key node secure (Some exchange) s =
    cond_both (leb exchange.left 1) None (Some (let x : Exchange = record exchange { left = exchange.left - 1 } in x)) (λ o. Setting key node secure o)
    (λ e. tt) (λ e. λ at. record { insecure = (s at).insecure; ends = (s at).ends; waits = (s at).waits })

ended : (key : List ℕ) (node : ℕ) (secure : Bool) (o : Option Exchange) → Setting key node secure o → (before : Option Word) → says_secure before ≡ secure
    → says_secure (last_of before (words node (failed_entries (failing_in o)))) ≡ secure
ended key node secure None s before e = e
ended key node secure (Some exchange) s before e =
    cond_both (leb exchange.left 1) (Some exchange.node) None (λ (n : Option ℕ). says_secure (last_of before (words node (failed_entries n))) ≡ secure)
    (λ fails. ⊎_elim
    (λ here. ap (λ (n : ℕ). says_secure (last_of before (of_node node n HasFailed ++ []))) (sym here)
    ∙ (ap (λ (l : List Word). says_secure (last_of before l)) (just_of node HasFailed) ∙ sym (s (sym here)).insecure))
    (λ differ. ap (λ (l : List Word). says_secure (last_of before l)) (not_of node exchange.node HasFailed differ) ∙ e)
    (cases_eq node exchange.node))
    (λ goes. e)

no_key_fails : (node : ℕ) (o : Option ℕ) → keys_in node (failed_entries o) ≡ []
no_key_fails node None = refl
no_key_fails node (Some at) = refl

ends_step : (key : List ℕ) (node : ℕ) (w : WorldState) → Fact key node w → Step key node w (ends w)
ends_step key node w f = record {
  fact = record {
    sixteen = f.sixteen;
    key_is = f.key_is;
    locks = f.locks;
    secures = f.secures;
    pairs = f.pairs;
    node_is = f.node_is;
    one = f.one;
    secured = f.secured;
    setting = later_setting key node (is_secure w.includer node) w.includer.exchange f.setting;
    frames = f.frames;
  };
  counted = λ before e. ended key node (is_secure w.includer node) w.includer.exchange f.setting before e;
  taken = λ before e has. ap (λ (l : List Bool). last_of before l) (no_key_fails node (failing_in w.includer.exchange)) ∙ e has;
}

-- a line is said
begins_step : (key : List ℕ) (node : ℕ) (w : WorldState) (at : ℕ) → Fact key node w → is_secure w.includer at ≡ false → Step key node w (begins w at)
begins_step key node w at f insecure =
    quiet_step key node w (begins w at)
    (record {
      sixteen = f.sixteen;
      key_is = f.key_is;
      locks = f.locks;
      secures = f.secures;
      pairs = omega (arith, f.pairs, began_pairs w.air at Outward scheme_get);
      node_is = f.node_is;
      one = f.one;
      secured = f.secured;
      setting = λ here. record { insecure = ap (λ (n : ℕ). is_secure w.includer n) (sym here) ∙ insecure; ends = ap (λ (n : ℕ). let e : SealEnds = record { sender = 1; receiver = n } in e) here; waits = tt };
      frames = frames_departing node (Tells key node (joiner_of w node)) w.air at Outward scheme_get (λ e. out_scheme key node (joiner_of w node)) f.frames;
    })
    (silent_append node (in_order (units_of at)) (air_entry w.air at Outward scheme_get ∷ []) (record { no_words = refl; no_keys = refl }) (silent_air node w.air at Outward scheme_get))
    refl (λ has. has)

add_if : (key : List ℕ) (node : ℕ) (w : WorldState) (at : ℕ) → Fact key node w → (b : Bool) → is_secure w.includer at ≡ b → Step key node w (cond b (refused w HostSecure) (begins w at))
add_if key node w at f true e = refused_step key node w HostSecure f
add_if key node w at f false e = begins_step key node w at f e

adds_step : (key : List ℕ) (node : ℕ) (w : WorldState) (at : ℕ) → Fact key node w → (o : Option Exchange) → Step key node w (adds w at o)
adds_step key node w at f (Some exchange) = refused_step key node w Busy f
adds_step key node w at f None = add_if key node w at f (is_secure w.includer at) refl

reset_setting : (key : List ℕ) (node : ℕ) (secure : Bool) (o : Option Exchange) → Setting key node secure o → Setting key node false o
reset_setting key node secure None s = tt
reset_setting key node secure (Some exchange) s = λ at. record { insecure = refl; ends = (s at).ends; waits = (s at).waits }

reset_here : (key : List ℕ) (node : ℕ) (w : WorldState) → Fact key node w → Step key node w (record { world = resets w node; entries = Said (Reset node) ∷ [] })
reset_here key node w f =
    let new_is : joiner_of (resets w node) node ≡ forgetful (joiner_of w node) = get_or-set_same w.joiners node (forgetful (joiner_of w node)) (fresh_joiner 1) f.locks in
    let not_secure : is_secure (resets w node).includer node ≡ false = get_or-set_same w.includer.secure node false false f.secures in
    let none : (joiner_of (resets w node) node).key ≡ None = ap (λ (j : Joining). j.key) new_is in
    record {
      fact = record {
        sixteen = f.sixteen;
        key_is = f.key_is;
        locks = omega (arith, f.locks, length-set w.joiners node (forgetful (joiner_of w node)));
        secures = omega (arith, f.secures, length-set w.includer.secure node false);
        pairs = omega (arith, f.pairs, forgetting_pairs w.air node);
        node_is = ap (λ (j : Joining). j.node) new_is ∙ f.node_is;
        one = inl none;
        secured = λ secure. absurd (let no : true ≡ false = sym secure ∙ not_secure in cc);
        setting = subst (λ (b : Bool). Setting key node b w.includer.exchange) (sym not_secure) (reset_setting key node (is_secure w.includer node) w.includer.exchange f.setting);
        frames = frames_forgotten node (Tells key node (joiner_of (resets w node) node)) w.air f.pairs;
      };
      counted = λ before e. ap (λ (l : List Word). says_secure (last_of before l)) (just_of node WasReset) ∙ sym not_secure;
      taken = λ before e has. absurd (let no : None ≡ Some key = sym none ∙ has in cc);
    }

reset_elsewhere : (key : List ℕ) (node : ℕ) (w : WorldState) (at : ℕ) → (node ≡ at → ⊥) → Fact key node w → Step key node w (record { world = resets w at; entries = Said (Reset at) ∷ [] })
reset_elsewhere key node w at differ f =
    let same : joiner_of (resets w at) node ≡ joiner_of w node = get_or-set_other w.joiners at node (forgetful (joiner_of w at)) (fresh_joiner 1) differ in
    let secure_same : is_secure (resets w at).includer node ≡ is_secure w.includer node = get_or-set_other w.includer.secure at node false false differ in
    quiet_step key node w (record { world = resets w at; entries = Said (Reset at) ∷ [] })
    (record {
      sixteen = f.sixteen;
      key_is = f.key_is;
      locks = omega (arith, f.locks, length-set w.joiners at (forgetful (joiner_of w at)));
      secures = omega (arith, f.secures, length-set w.includer.secure at false);
      pairs = omega (arith, f.pairs, forgetting_pairs w.air at);
      node_is = ap (λ (j : Joining). j.node) same ∙ f.node_is;
      one = subst (λ (j : Joining). OneKey key j.key) (sym same) f.one;
      secured = λ secure. ap (λ (j : Joining). j.key) same ∙ f.secured (sym secure_same ∙ secure);
      setting = subst (λ (b : Bool). Setting key node b w.includer.exchange) (sym secure_same) f.setting;
      frames = subst (λ (j : Joining). Frames node (Tells key node j) (forgetting w.air at)) (sym same) (frames_remembered node (Tells key node (joiner_of w node)) w.air at differ f.frames);
    })
    (record { no_words = not_of node at WasReset differ; no_keys = not_of node at false differ })
    secure_same (λ has. sym (ap (λ (j : Joining). j.key) same) ∙ has)

reset_step : (key : List ℕ) (node : ℕ) (w : WorldState) (at : ℕ) → Fact key node w → Step key node w (record { world = resets w at; entries = Said (Reset at) ∷ [] })
reset_step key node w at f = ⊎_elim
    (λ e. subst (λ (n : ℕ). Step key node w (record { world = resets w n; entries = Said (Reset n) ∷ [] })) e (reset_here key node w f))
    (λ differ. reset_elsewhere key node w at differ f)
    (cases_eq node at)

repeats_step : (key : List ℕ) (node : ℕ) (w : WorldState) (number : ℕ) (drawn : List ℕ) → length drawn ≡ 8 → Fact key node w → (o : Option IncludeRefusal) → refusal_of w.air number ≡ o
    → Step key node w (repeats w number drawn o)
repeats_step key node w number drawn eight f (Some refusal) e = refused_step key node w refusal f
repeats_step key node w number drawn eight f None e =
    heard_step key node w (flight_at w.air number) drawn eight f (repeated_comes node (Tells key node (joiner_of w node)) w.air number e f.frames)

marked_step : (key : List ℕ) (node : ℕ) (w : WorldState) (count : ℕ) → Fact key node w
    → Step key node w (record { world = record w { air = losing_more w.air count }; entries = Said (Lose count) ∷ [] })
marked_step key node w count f =
    quiet_step key node w (record { world = record w { air = losing_more w.air count }; entries = Said (Lose count) ∷ [] })
    (record {
      sixteen = f.sixteen;
      key_is = f.key_is;
      locks = f.locks;
      secures = f.secures;
      pairs = f.pairs;
      node_is = f.node_is;
      one = f.one;
      secured = f.secured;
      setting = f.setting;
      frames = f.frames;
    })
    (record { no_words = refl; no_keys = refl }) refl (λ has. has)

says_step : (key : List ℕ) (node : ℕ) (w : WorldState) (line : IncludeLine) (drawn : List ℕ) → length drawn ≡ 8 → Fact key node w
    → Step key node w (record { world = (says w line drawn).world; entries = Said line ∷ (says w line drawn).entries })
says_step key node w (Add at) drawn eight f =
    after_entry key node w (adds w at w.includer.exchange) (Said (Add at)) (record { no_words = refl; no_keys = refl }) (adds_step key node w at f w.includer.exchange)
says_step key node w (Reset at) drawn eight f = reset_step key node w at f
says_step key node w (Lose count) drawn eight f = marked_step key node w count f
says_step key node w (Repeat number) drawn eight f =
    after_entry key node w (repeats w number drawn (refusal_of w.air number)) (Said (Repeat number)) (record { no_words = refl; no_keys = refl })
    (repeats_step key node w number drawn eight f (refusal_of w.air number) refl)
says_step key node w (Tick count) drawn eight f = same_step key node w (Said (Tick count) ∷ []) f (record { no_words = refl; no_keys = refl })

pub does_step : (key : List ℕ) (node : ℕ) (w : WorldState) (event : IncludeEvent) → IsDrawn event → Fact key node w → Step key node w (does w event)
unfolding does
does_step key node w (Says line drawn) eight f = says_step key node w line drawn eight f
does_step key node w Passes eight f = passes_step key node w f
does_step key node w (Lands drawn) eight f =
    landed_step key node w (lands_by w (arriving w.air) drawn)
    (land_step key node w drawn eight f (arriving w.air) (arriving_comes node (Tells key node (joiner_of w node)) w.air f.frames))
does_step key node w Ends eight f = ends_step key node w f
