-- What holds of each frame of a node that may still be heard, by its place: through all that happens on the air.
use Rattle.std.proofs.Common.{◌≡◌, ℕ, ◌+◌, ◌-◌, ◌<◌, ◌≤◌, Bool, true, false, cond, ◌||◌, Some, None, List, [], ◌∷◌, ◌++◌, length, get_or, refl, ap, sym, subst, ◌∙◌, ⊎_elim, length-append, arith}
use Rattle.std.proofs.lemmas.List.{get_or_append_left, get_or_at, get_or-set_same, get_or-set_other, get_or_past}
use Rattle.std.proofs.lemmas.Bool.{cases_lt, ltb-false, eqb-false, leb-false, true≢false, or_parts}
use Rattle.include_text.specs.declared.entry.IncludeRefusal.{IncludeRefusal}
use Rattle.air_frames.specs.declared.frame.Heading.{Heading}
use Rattle.include_world.specs.declared.flight.Flight.{Flight}
use Rattle.include_world.specs.declared.flight.Pair.{Pair}
use Rattle.include_world.specs.Air.{AirState, pair_of, flight, departing, no_counts, no_flight, frame_at, is_forgotten, nonces_since, refusal_of, forgetting}
use Rattle.include_world.proofs.AirFacts.{departing_forgotten}

-- each frame of a node that was sent after its last reset has it, by its place
abbrev pub Flights : ℕ → (ℕ → Flight → Type 0) → AirState → Type 0
Flights node P air = (i : ℕ) → i < length air.frames → (get_or air.frames i no_flight).node ≡ node → (pair_of air node).forgotten ≤ i → P i (get_or air.frames i no_flight)

appended : (node : ℕ) (P : ℕ → Flight → Type 0) (frames : List Flight) (new : Flight) (kept : ℕ → Type 0)
    → ((i : ℕ) → i < length frames → (get_or frames i no_flight).node ≡ node → kept i → P i (get_or frames i no_flight))
    → (new.node ≡ node → P (length frames) new)
    → (i : ℕ) → i < length (frames ++ new ∷ []) → (get_or (frames ++ new ∷ []) i no_flight).node ≡ node → kept i → P i (get_or (frames ++ new ∷ []) i no_flight)
appended node P frames new kept old last i within is_node k = ⊎_elim
    (λ before.
    let same = get_or_append_left frames (new ∷ []) no_flight i before in
    subst (λ (f : Flight). P i f) (sym same) (old i before (ap (λ (f : Flight). f.node) (sym same) ∙ is_node) k))
    (λ after.
    let here : length frames ≡ i = omega (arith, within, after, length-append frames (new ∷ [])) in
    let same = get_or_at frames new [] no_flight i here in
    subst (λ (f : Flight). P i f) (sym same) (subst (λ (n : ℕ). P n new) here (last (ap (λ (f : Flight). f.node) (sym same) ∙ is_node))))
    (cases_lt i (length frames))

-- a frame goes on the air
pub flights_departing : (node : ℕ) (P Q : ℕ → Flight → Type 0) (air : AirState) (at : ℕ) (heading : Heading) (payload : List ℕ)
    → ((i : ℕ) (f : Flight) → i < length air.frames → P i f → Q i f) → (at ≡ node → Q (length air.frames) (flight air at heading payload))
    → Flights node P air → Flights node Q (departing air at heading payload)
unfolding departing
flights_departing node P Q air at heading payload on new all i within is_node kept =
    appended node Q air.frames (flight air at heading payload) (λ k. (pair_of air node).forgotten ≤ k)
    (λ k there of kept. on k (get_or air.frames k no_flight) there (all k there of kept)) new i within is_node
    (subst (λ (f : ℕ). f ≤ i) (departing_forgotten air at heading payload node) kept)

pub flights_map : (node : ℕ) (P Q : ℕ → Flight → Type 0) (air : AirState) → ((i : ℕ) (f : Flight) → i < length air.frames → P i f → Q i f) → Flights node P air → Flights node Q air
flights_map node P Q air on all i within is_node kept = on i (get_or air.frames i no_flight) within (all i within is_node kept)

-- after a reset no frame of the node is left; those of another node are
pub flights_forgotten : (node : ℕ) (P : ℕ → Flight → Type 0) (air : AirState) → node < length air.pairs → Flights node P (forgetting air node)
flights_forgotten node P air within i there is_node kept =
    let all : (pair_of (forgetting air node) node).forgotten ≡ length air.frames
    = ap (λ (p : Pair). p.forgotten) (get_or-set_same air.pairs node (let p : Pair = record (pair_of air node) { forgotten = length air.frames } in p) no_counts within) in
    absurd (omega (arith, all, kept, there))

pub pair_elsewhere : (node : ℕ) (air : AirState) (at : ℕ) → (node ≡ at → ⊥) → pair_of (forgetting air at) node ≡ pair_of air node
pair_elsewhere node air at differ = get_or-set_other air.pairs at node (let p : Pair = record (pair_of air at) { forgotten = length air.frames } in p) no_counts differ

pub flights_remembered : (node : ℕ) (P : ℕ → Flight → Type 0) (air : AirState) (at : ℕ) → (node ≡ at → ⊥) → Flights node P air → Flights node P (forgetting air at)
flights_remembered node P air at differ all i within is_node kept =
    all i within is_node (subst (λ (f : ℕ). f ≤ i) (ap (λ (p : Pair). p.forgotten) (pair_elsewhere node air at differ)) kept)

-- ---- a frame that is heard

-- the frame at a number, where it is kept
pub flight_heard : (node : ℕ) (P : ℕ → Flight → Type 0) (air : AirState) (number : ℕ) → 1 ≤ number → number ≤ length air.frames → is_forgotten air number (frame_at air number) ≡ false
    → Flights node P air → (frame_at air number).node ≡ node → P (number - 1) (frame_at air number)
flight_heard node P air number from within kept all is_node =
    let later : (pair_of air (frame_at air number).node).forgotten < number = leb-false number (pair_of air (frame_at air number).node).forgotten kept in
    let same : (pair_of air (frame_at air number).node).forgotten ≡ (pair_of air node).forgotten = ap (λ (n : ℕ). (pair_of air n).forgotten) is_node in
    all (number - 1) (omega (arith, from, within)) is_node (omega (arith, from, later, same))

-- the one that arrives next, where it is heard, is the first that has not landed
pub arriving_flight : (node : ℕ) (P : ℕ → Flight → Type 0) (air : AirState) → ((frame_at air (air.landed + 1)).lost || is_forgotten air (air.landed + 1) (frame_at air (air.landed + 1))) ≡ false
    → Flights node P air → (frame_at air (air.landed + 1)).node ≡ node → P air.landed (frame_at air (air.landed + 1))
arriving_flight node P air heard all is_node =
    let parts = or_parts (frame_at air (air.landed + 1)).lost (is_forgotten air (air.landed + 1) (frame_at air (air.landed + 1))) heard in
    ⊎_elim
    (λ past.
    let no : get_or air.frames (air.landed + 1 - 1) no_flight ≡ no_flight = get_or_past air.frames (air.landed + 1 - 1) no_flight (omega (arith, past)) in
    let lost : (frame_at air (air.landed + 1)).lost ≡ true = ap (λ (f : Flight). f.lost) no in
    absurd (true≢false (sym lost ∙ parts.0)))
    (λ within.
    let here : air.landed + 1 - 1 ≡ air.landed = omega arith in
    subst (λ (n : ℕ). P n (frame_at air (air.landed + 1))) here (flight_heard node P air (air.landed + 1) (omega arith) within parts.1 all is_node))
    (cases_lt (length air.frames) (air.landed + 1))

-- no refusal, where there are three reasons for one
no_reason : (a b c : Bool) (x y z : IncludeRefusal) → cond a (Some x) (cond b (Some y) (cond c (Some z) None)) ≡ None → (a ≡ false) × (b ≡ false) × (c ≡ false)
no_reason false false false x y z e = (refl, refl, refl)
no_reason false false true x y z e = absurd cc
no_reason false true c x y z e = absurd cc
no_reason true b c x y z e = absurd cc

-- one that is repeated was shown fewer than 120 new nonces ago
pub repeated_flight : (node : ℕ) (P : ℕ → Flight → Type 0) (air : AirState) (number : ℕ) → refusal_of air number ≡ None → Flights node P air → (frame_at air number).node ≡ node
    → ((pair_of air node).nonces.shown < (frame_at air number).shown + 120) × P (number - 1) (frame_at air number)
repeated_flight node P air number none all is_node =
    let no = no_reason _ _ _ _ _ _ none in
    let parts = or_parts _ _ no.0 in
    let fresh : nonces_since air (frame_at air number) < 120 = leb-false 120 (nonces_since air (frame_at air number)) no.2 in
    let same : (pair_of air (frame_at air number).node).nonces.shown ≡ (pair_of air node).nonces.shown = ap (λ (n : ℕ). (pair_of air n).nonces.shown) is_node in (
      omega (arith, fresh, same),
      flight_heard node P air number (let e = eqb-false number 0 parts.0 in omega (arith, e)) (ltb-false (length air.frames) number parts.1) no.1 all is_node,
    )
