-- What holds after every list of events.
use Rattle.std.proofs.Common.{◌≡◌, ℕ, ◌<◌, ◌≤◌, Bool, true, false, cond, Option, Some, None, IsSome, List, [], ◌∷◌, ◌++◌, length, refl, ap, sym, subst, ◌∙◌, inl, ⊎_elim, append_assoc, arith}
use Rattle.std.proofs.lemmas.Grind.{flat_map-append}
use Rattle.std.proofs.lemmas.List.{get_or-replicate, length-replicate, append-nil}
use Rattle.std.proofs.lemmas.List.FromFn.{get_or-map-range_with_len, length-map-range_with_len}
use Rattle.std.proofs.lemmas.Bool.{ne_eqb}
use Rattle.inclusion.specs.Joining.{Joining, fresh_joiner}
use Rattle.inclusion.specs.Including.{is_secure, fresh_includer}
use Rattle.include_text.specs.declared.entry.IncludeEntry.{IncludeEntry}
use Rattle.include_world.specs.Air.{first_air, no_counts}
use Rattle.include_world.specs.World.{WorldState, Doing, IncludeEvent, does, joiner_of, first_world, first_joiner, after_all, entries_all, AllDrawn}
use Rattle.include_world.specs.Added.{Word, IsSecure, HasFailed, WasReset, word_in, key_in, last_of, last_word, last_key, AddedAt, Added, Reached}
use Rattle.include_world.proofs.KeyFacts.{OneKey}
use Rattle.include_world.proofs.Saying.{words, keys_in, says_secure}
use Rattle.include_world.proofs.WorldFacts.{Fact, Step, does_step}

-- what holds after a transcript
pub record Holds (key : List ℕ) (node : ℕ) (T : List IncludeEntry) (w : WorldState) : Type 0 where
  pub fact : Fact key node w
  pub counted : says_secure (last_word node T) ≡ is_secure w.includer node
  pub taken : (joiner_of w node).key ≡ Some key → last_key node T ≡ Some true

last_of-append : {A : Type 0} (before : Option A) (xs ys : List A) → last_of before (xs ++ ys) ≡ last_of (last_of before xs) ys
last_of-append before [] ys = refl
last_of-append before (x ∷ xs) ys = last_of-append (Some x) xs ys

pub holds_more : (key : List ℕ) (node : ℕ) (T : List IncludeEntry) (w : WorldState) (did : Doing) → Holds key node T w → Step key node w did → Holds key node (T ++ did.entries) did.world
holds_more key node T w did h s = record {
  fact = s.fact;
  counted = ap says_secure (ap (λ (l : List Word). last_of None l) (flat_map-append (word_in node) T did.entries) ∙ last_of-append None (words node T) (words node did.entries)) ∙ s.counted (last_word node T) h.counted;
  taken = λ has. ap (λ (l : List Bool). last_of None l) (flat_map-append (key_in node) T did.entries) ∙ (last_of-append None (keys_in node T) (keys_in node did.entries) ∙ s.taken (last_key node T) h.taken has);
}

pub holds_all : (key : List ℕ) (node : ℕ) (T : List IncludeEntry) (w : WorldState) (events : List IncludeEvent) → AllDrawn events → Holds key node T w → Holds key node (T ++ entries_all w events) (after_all w events)
holds_all key node T w [] drawn h = subst (λ (U : List IncludeEntry). Holds key node U w) (sym (append-nil T)) h
holds_all key node T w (event ∷ events) drawn h =
    subst (λ (U : List IncludeEntry). Holds key node U (after_all (does w event).world events)) (append_assoc T (does w event).entries (entries_all (does w event).world events))
    (holds_all key node (T ++ (does w event).entries) (does w event).world events drawn.1 (holds_more key node T w (does w event) h (does_step key node w event drawn.0 h.fact)))

pub first_holds : (key : List ℕ) (node : ℕ) → length key ≡ 16 → 1 ≤ node → node ≤ 232 → Holds key node [] (first_world key)
unfolding first_world fresh_includer first_air
first_holds key node sixteen from to =
    let within : node < 233 = omega (arith, to) in
    let lock : joiner_of (first_world key) node ≡ first_joiner node = get_or-map-range_with_len first_joiner 0 233 node node (fresh_joiner 1) within (omega arith) in
    let is_node : first_joiner node ≡ fresh_joiner node = ap (λ (b : Bool). fresh_joiner (cond b 1 node)) (ne_eqb node 0 (λ e. omega (arith, e, from))) in
    let made : joiner_of (first_world key) node ≡ fresh_joiner node = lock ∙ is_node in
    let not_secure : is_secure (first_world key).includer node ≡ false = get_or-replicate 233 node false false within in
    record {
      fact = record {
        sixteen = sixteen;
        key_is = refl;
        locks = omega (arith, within, length-map-range_with_len first_joiner 0 233);
        secures = omega (arith, within, length-replicate 233 false);
        pairs = omega (arith, within, length-replicate 233 no_counts);
        node_is = ap (λ (j : Joining). j.node) made;
        one = inl (ap (λ (j : Joining). j.key) made);
        secured = λ secure. absurd (let no : true ≡ false = sym secure ∙ not_secure in cc);
        setting = tt;
        frames = λ i there is_node kept. absurd (omega arith);
      };
      counted = sym not_secure;
      taken = λ has. absurd (let no : None ≡ Some key = sym (ap (λ (j : Joining). j.key) made) ∙ has in cc);
    }

-- ---- the law

pub secure_said : (o : Option Word) → says_secure o ≡ true → o ≡ Some IsSecure
secure_said None e = absurd cc
secure_said (Some IsSecure) e = refl
secure_said (Some HasFailed) e = absurd cc
secure_said (Some WasReset) e = absurd cc

some_key : (key : List ℕ) (o : Option (List ℕ)) → OneKey key o → IsSome o → o ≡ Some key
some_key key None one some = absurd cc
some_key key (Some k) one some = ⊎_elim (λ none. absurd cc) (λ same. same) one

added_at : (key : List ℕ) (node : ℕ) (T : List IncludeEntry) (w : WorldState) → Holds key node T w → AddedAt key node T w
added_at key node T w h = record {
  secure = λ last. h.fact.secured (sym h.counted ∙ ap says_secure last);
  one_key = h.fact.one;
  taken = λ some. h.taken (some_key key (joiner_of w node).key h.fact.one some);
  counted = (λ secure. secure_said (last_word node T) (h.counted ∙ secure), λ last. sym h.counted ∙ ap says_secure last);
  failed = λ last. sym h.counted ∙ ap says_secure last;
}

pub added : (key : List ℕ) (T : List IncludeEntry) (w : WorldState) → Reached key T w → Added key T w
added key T w r node from to =
    let h = holds_all key node [] (first_world key) r.events r.drawn (first_holds key node r.sixteen from to) in
    subst (λ (U : List IncludeEntry). AddedAt key node U w) (sym r.entries)
    (subst (λ (v : WorldState). AddedAt key node (entries_all (first_world key) r.events) v) (sym r.state)
    (added_at key node (entries_all (first_world key) r.events) (after_all (first_world key) r.events) h))
