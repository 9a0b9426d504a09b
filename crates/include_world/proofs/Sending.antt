-- Steps of the loop over replies, and what frames that go on the air leave.
use Rattle.std.proofs.Common.{◌≡◌, ℕ, zero, suc, ◌+◌, ◌≤◌, Option, Some, None, List, get_or, set, subst, ⊎_elim, [], ◌∷◌, ◌++◌, length, drop, slice_get, refl, ap, sym, ◌∙◌, append_assoc, length-append, arith}
use Rattle.std.proofs.lemmas.List.{append-nil, get_or-set_same, get_or_past}
use Rattle.std.proofs.Math.ListN.{length-set}
use Rattle.std.proofs.lemmas.Bool.{cases_lt, cond_both}
use Rattle.include_text.specs.declared.entry.IncludeEntry.{IncludeEntry}
use Rattle.air_frames.specs.declared.frame.Heading.{Heading}
use Rattle.air_frames.specs.declared.frame.Heading.TheVariants.{Outward, Homeward}
use Rattle.include_world.specs.declared.flight.Pair.{Pair}
use Rattle.air_frames.specs.declared.nonces.Nonces.{Nonces}
use Rattle.air_frames.specs.Nonces.{nonce_in, is_news, counting_nonce}
use Rattle.include_world.specs.Air.{AirState, departing, sending, sent_entries, air_entry, flight, pair_of, showing, no_counts}

-- what is left from a place on begins with what stands there
rest_at : {A : Type 0} (xs : List A) (i : ℕ) (x : A) → slice_get xs i ≡ Some x → drop i xs ≡ x ∷ drop (i + 1) xs
rest_at {A = A} xs i x at = go xs i at ∙ ap (λ n. x ∷ drop n xs) (let e : suc i ≡ i + 1 = omega arith in e)
  where
    go : (xs : List A) (i : ℕ) → slice_get xs i ≡ Some x → drop i xs ≡ x ∷ drop (suc i) xs
    go [] i at = absurd cc
    go (y ∷ ys) zero at = let same : y ≡ x = cc in ap (λ z. z ∷ ys) same
    go (y ∷ ys) (suc i) at = go ys i at

rest_none : {A : Type 0} (xs : List A) (i : ℕ) → length xs ≤ i → drop i xs ≡ []
rest_none [] zero past = refl
rest_none [] (suc i) past = refl
rest_none (x ∷ xs) zero past = absurd (omega arith)
rest_none (x ∷ xs) (suc i) past = rest_none xs i (omega arith)

module _ (air new whole : AirState) (node : ℕ) (heading : Heading) (replies : List (List ℕ)) (i : ℕ) (reply : List ℕ) (at : slice_get replies i ≡ Some reply)
    (went : new ≡ departing air node heading reply) where
  pub sent_more : sending air node heading (drop i replies) ≡ whole → sending new node heading (drop (i + 1) replies) ≡ whole
  sent_more so_far =
      ap (λ (a : AirState). sending a node heading (drop (i + 1) replies)) went
      ∙ (sym (ap (λ rs. sending air node heading rs) (rest_at replies i reply at)) ∙ so_far)

  pub told_more : (out more all : List IncludeEntry) → more ≡ out ++ air_entry air node heading reply ∷ [] → out ++ sent_entries air node heading (drop i replies) ≡ all
      → more ++ sent_entries new node heading (drop (i + 1) replies) ≡ all
  told_more out more all added so_far =
      ap (λ l. l ++ sent_entries new node heading (drop (i + 1) replies)) added
      ∙ (append_assoc out (air_entry air node heading reply ∷ []) (sent_entries new node heading (drop (i + 1) replies))
      ∙ (ap (λ (a : AirState). out ++ air_entry air node heading reply ∷ sent_entries a node heading (drop (i + 1) replies)) went
      ∙ (sym (ap (λ rs. out ++ sent_entries air node heading rs) (rest_at replies i reply at)) ∙ so_far)))

pub told_all : (air : AirState) (out all : List IncludeEntry) (node : ℕ) (heading : Heading) (replies : List (List ℕ)) (i : ℕ) → length replies ≤ i
    → out ++ sent_entries air node heading (drop i replies) ≡ all → out ≡ all
told_all air out all node heading replies i past so_far = sym (append-nil out) ∙ (sym (ap (λ rs. out ++ sent_entries air node heading rs) (rest_none replies i past)) ∙ so_far)

-- the air has at least the frames that it had, and as many have arrived
pub record Grows (old new : AirState) : Type 0 where
  pub landed : new.landed ≡ old.landed
  pub frames : length old.frames ≤ length new.frames

pub departing_grows : (air : AirState) (node : ℕ) (heading : Heading) (payload : List ℕ) → Grows air (departing air node heading payload)
unfolding departing
departing_grows air node heading payload = record { landed = refl; frames = omega (arith, length-append air.frames (flight air node heading payload ∷ [])) }

pub sending_grows : (air : AirState) (node : ℕ) (heading : Heading) (replies : List (List ℕ)) → Grows air (sending air node heading replies)
sending_grows air node heading [] = record { landed = refl; frames = omega arith }
sending_grows air node heading (payload ∷ more) =
    let first = departing_grows air node heading payload in
    let rest = sending_grows (departing air node heading payload) node heading more in
    record { landed = rest.landed ∙ first.landed; frames = omega (arith, first.frames, rest.frames) }

-- a frame shows at most one nonce
shows_one : (nonces : Nonces) (heading : Heading) (o : Option (List ℕ)) → (counting_nonce nonces heading o).shown ≤ nonces.shown + 1
shows_one nonces heading None = omega arith
shows_one nonces Outward (Some nonce) = cond_both (is_news nonces.outward nonce) (nonces.shown + 1) nonces.shown (λ n. n ≤ nonces.shown + 1) (λ e. omega arith) (λ e. omega arith)
shows_one nonces Homeward (Some nonce) = cond_both (is_news nonces.homeward nonce) (nonces.shown + 1) nonces.shown (λ n. n ≤ nonces.shown + 1) (λ e. omega arith) (λ e. omega arith)

-- what is read where it was written is that, or the default past the end
written_below : (pairs : List Pair) (i : ℕ) (p d : Pair) (bound : ℕ) → p.nonces.shown ≤ bound → d.nonces.shown ≤ bound → (get_or (set pairs i p) i d).nonces.shown ≤ bound
written_below pairs i p d bound a b = ⊎_elim
    (λ within. subst (λ (x : Pair). x.nonces.shown ≤ bound) (sym (get_or-set_same pairs i p d within)) a)
    (λ past. subst (λ (x : Pair). x.nonces.shown ≤ bound) (sym (get_or_past (set pairs i p) i d (omega (arith, length-set pairs i p)))) b)
    (cases_lt i (length pairs))

departing_counts : (air : AirState) (node : ℕ) (heading : Heading) (payload : List ℕ) → (pair_of (departing air node heading payload) node).nonces.shown ≤ (pair_of air node).nonces.shown + 1
unfolding departing
departing_counts air node heading payload =
    written_below air.pairs node (showing (pair_of air node) heading payload) no_counts ((pair_of air node).nonces.shown + 1)
    (shows_one (pair_of air node).nonces heading (nonce_in payload)) (omega arith)

pub count_more : (air new : AirState) (node : ℕ) (heading : Heading) (payload : List ℕ) → new ≡ departing air node heading payload
    → (most at : ℕ) → (pair_of air node).nonces.shown ≤ most + at → (pair_of new node).nonces.shown ≤ most + (at + 1)
count_more air new node heading payload went most at below =
    let one = departing_counts air node heading payload in
    let same : (pair_of new node).nonces.shown ≡ (pair_of (departing air node heading payload) node).nonces.shown = ap (λ (a : AirState). (pair_of a node).nonces.shown) went in
    omega (arith, one, same, below)
