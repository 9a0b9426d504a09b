-- What holds of each frame between a node and the host that is still heard, through all that happens on the air.
use Rattle.std.proofs.Common.{◌≡◌, ℕ, ◌+◌, ◌-◌, ◌<◌, ◌≤◌, Bool, true, false, cond, ◌||◌, Option, Some, None, List, [], ◌∷◌, ◌++◌, length, get_or, set, refl, ap, sym, subst, ◌∙◌, ⊎_elim, length-append, arith}
use Rattle.std.proofs.lemmas.List.{get_or_append_left, get_or_at, get_or-set_same, get_or-set_other, get_or_past, set_past}
use Rattle.std.proofs.Math.ListN.{length-set}
use Rattle.std.proofs.lemmas.Bool.{cases_lt, cases_eq, ltb-false, eqb-false, leb-false, true≢false}
use Rattle.include_text.specs.declared.entry.IncludeRefusal.{IncludeRefusal}
use Rattle.air_frames.specs.declared.frame.Heading.{Heading}
use Rattle.include_world.specs.declared.flight.Flight.{Flight}
use Rattle.include_world.specs.declared.flight.Pair.{Pair}
use Rattle.include_world.specs.declared.air.Coming.{Coming}
use Rattle.include_world.specs.Air.{AirState, pair_of, flight, departing, sending, showing, no_counts, no_flight, frame_at, flight_at, heard_if, is_forgotten, arriving, refusal_of, forgetting}

-- each of some has it
abbrev pub Each : {A : Type 0} → (A → Type 0) → List A → Type 0
Each P [] = Unit {0}
Each P (x ∷ more) = P x × Each P more

-- each frame of a node that was sent after its last reset has it
abbrev pub Frames : ℕ → (Heading → List ℕ → Type 0) → AirState → Type 0
Frames node P air = (i : ℕ) → i < length air.frames → (get_or air.frames i no_flight).node ≡ node → (pair_of air node).forgotten ≤ i
    → P (get_or air.frames i no_flight).heading (get_or air.frames i no_flight).payload

pub frames_map : (node : ℕ) (P Q : Heading → List ℕ → Type 0) (air : AirState) → ((h : Heading) (payload : List ℕ) → P h payload → Q h payload) → Frames node P air → Frames node Q air
frames_map node P Q air f all i within is_node kept = f (get_or air.frames i no_flight).heading (get_or air.frames i no_flight).payload (all i within is_node kept)

-- the counts of a node that keep how far its frames are forgotten
pair_written : (pairs : List Pair) (at node : ℕ) (new : Pair) → new.forgotten ≡ (get_or pairs at no_counts).forgotten → (get_or (set pairs at new) node no_counts).forgotten ≡ (get_or pairs node no_counts).forgotten
pair_written pairs at node new same = ⊎_elim
    (λ e. subst (λ (n : ℕ). (get_or (set pairs at new) n no_counts).forgotten ≡ (get_or pairs n no_counts).forgotten) (sym e) (here pairs at new same))
    (λ differ. ap (λ (p : Pair). p.forgotten) (get_or-set_other pairs at node new no_counts differ))
    (cases_eq node at)
  where
    here : (pairs : List Pair) (at : ℕ) (new : Pair) → new.forgotten ≡ (get_or pairs at no_counts).forgotten → (get_or (set pairs at new) at no_counts).forgotten ≡ (get_or pairs at no_counts).forgotten
    here pairs at new same = ⊎_elim
        (λ within. ap (λ (p : Pair). p.forgotten) (get_or-set_same pairs at new no_counts within) ∙ same)
        (λ past. ap (λ (ps : List Pair). (get_or ps at no_counts).forgotten) (set_past pairs at new past))
        (cases_lt at (length pairs))

pub departing_forgotten : (air : AirState) (at : ℕ) (heading : Heading) (payload : List ℕ) (node : ℕ) → (pair_of (departing air at heading payload) node).forgotten ≡ (pair_of air node).forgotten
unfolding departing
departing_forgotten air at heading payload node = pair_written air.pairs at node (showing (pair_of air at) heading payload) refl

appended : (node : ℕ) (P : Heading → List ℕ → Type 0) (frames : List Flight) (new : Flight) (kept : ℕ → Type 0)
    → ((i : ℕ) → i < length frames → (get_or frames i no_flight).node ≡ node → kept i → P (get_or frames i no_flight).heading (get_or frames i no_flight).payload)
    → (new.node ≡ node → P new.heading new.payload)
    → (i : ℕ) → i < length (frames ++ new ∷ []) → (get_or (frames ++ new ∷ []) i no_flight).node ≡ node → kept i
    → P (get_or (frames ++ new ∷ []) i no_flight).heading (get_or (frames ++ new ∷ []) i no_flight).payload
appended node P frames new kept old last i within is_node k = ⊎_elim
    (λ before.
    let same = get_or_append_left frames (new ∷ []) no_flight i before in
    subst (λ (f : Flight). P f.heading f.payload) (sym same) (old i before (ap (λ (f : Flight). f.node) (sym same) ∙ is_node) k))
    (λ after.
    let here : length frames ≡ i = omega (arith, within, after, length-append frames (new ∷ [])) in
    let same = get_or_at frames new [] no_flight i here in
    subst (λ (f : Flight). P f.heading f.payload) (sym same) (last (ap (λ (f : Flight). f.node) (sym same) ∙ is_node)))
    (cases_lt i (length frames))

pub frames_departing : (node : ℕ) (P : Heading → List ℕ → Type 0) (air : AirState) (at : ℕ) (heading : Heading) (payload : List ℕ) → (at ≡ node → P heading payload)
    → Frames node P air → Frames node P (departing air at heading payload)
unfolding departing
frames_departing node P air at heading payload new all i within is_node kept =
    appended node P air.frames (flight air at heading payload) (λ k. (pair_of air node).forgotten ≤ k) all new i within is_node
    (subst (λ (f : ℕ). f ≤ i) (departing_forgotten air at heading payload node) kept)

pub frames_sending : (node : ℕ) (P : Heading → List ℕ → Type 0) (air : AirState) (at : ℕ) (heading : Heading) (replies : List (List ℕ)) → (at ≡ node → Each (P heading) replies)
    → Frames node P air → Frames node P (sending air at heading replies)
frames_sending node P air at heading [] new all = all
frames_sending node P air at heading (payload ∷ more) new all =
    frames_sending node P (departing air at heading payload) at heading more (λ e. (new e).1) (frames_departing node P air at heading payload (λ e. (new e).0) all)

-- there are as many counts as before
departing_pairs : (air : AirState) (at : ℕ) (heading : Heading) (payload : List ℕ) → length (departing air at heading payload).pairs ≡ length air.pairs
unfolding departing
departing_pairs air at heading payload = length-set air.pairs at (showing (pair_of air at) heading payload)

pub sending_pairs : (air : AirState) (at : ℕ) (heading : Heading) (replies : List (List ℕ)) → length (sending air at heading replies).pairs ≡ length air.pairs
sending_pairs air at heading [] = refl
sending_pairs air at heading (payload ∷ more) = sending_pairs (departing air at heading payload) at heading more ∙ departing_pairs air at heading payload

pub began_pairs : (air : AirState) (at : ℕ) (heading : Heading) (payload : List ℕ) → length (departing air at heading payload).pairs ≡ length air.pairs
began_pairs air at heading payload = departing_pairs air at heading payload

pub forgetting_pairs : (air : AirState) (at : ℕ) → length (forgetting air at).pairs ≡ length air.pairs
forgetting_pairs air at = length-set air.pairs at (let p : Pair = record (pair_of air at) { forgotten = length air.frames } in p)

-- after a reset no frame of the node is heard
pub frames_forgotten : (node : ℕ) (P : Heading → List ℕ → Type 0) (air : AirState) → node < length air.pairs → Frames node P (forgetting air node)
frames_forgotten node P air within i there is_node kept =
    let all : (pair_of (forgetting air node) node).forgotten ≡ length air.frames
    = ap (λ (p : Pair). p.forgotten) (get_or-set_same air.pairs node (let p : Pair = record (pair_of air node) { forgotten = length air.frames } in p) no_counts within) in
    absurd (omega (arith, all, kept, there))

pub frames_remembered : (node : ℕ) (P : Heading → List ℕ → Type 0) (air : AirState) (at : ℕ) → (node ≡ at → ⊥) → Frames node P air → Frames node P (forgetting air at)
frames_remembered node P air at differ all i within is_node kept =
    let same : (pair_of (forgetting air at) node).forgotten ≡ (pair_of air node).forgotten
    = ap (λ (p : Pair). p.forgotten) (get_or-set_other air.pairs at node (let p : Pair = record (pair_of air at) { forgotten = length air.frames } in p) no_counts differ) in
    all i within is_node (subst (λ (f : ℕ). f ≤ i) same kept)

-- ---- a frame that is heard

-- what a frame of the node that is heard has
abbrev pub Comes : ℕ → (Heading → List ℕ → Type 0) → Option Coming → Type 0
Comes node P None = Unit {0}
Comes node P (Some coming) = coming.node ≡ node → P coming.heading coming.payload

is_heard : (node : ℕ) (P : Heading → List ℕ → Type 0) (air : AirState) (number : ℕ) → 1 ≤ number → number ≤ length air.frames → is_forgotten air number (frame_at air number) ≡ false
    → Frames node P air → (frame_at air number).node ≡ node → P (frame_at air number).heading (frame_at air number).payload
is_heard node P air number from within kept all is_node =
    let later : (pair_of air (frame_at air number).node).forgotten < number = leb-false number (pair_of air (frame_at air number).node).forgotten kept in
    let same : (pair_of air (frame_at air number).node).forgotten ≡ (pair_of air node).forgotten = ap (λ (n : ℕ). (pair_of air n).forgotten) is_node in
    all (number - 1) (omega (arith, from, within)) is_node (omega (arith, from, later, same))

comes_if : (node : ℕ) (P : Heading → List ℕ → Type 0) (b : Bool) (coming : Coming) → (b ≡ false → coming.node ≡ node → P coming.heading coming.payload) → Comes node P (heard_if b coming)
comes_if node P true coming p = tt
comes_if node P false coming p = p refl

or_false : (a b : Bool) → (a || b) ≡ false → (a ≡ false) × (b ≡ false)
or_false false false e = (refl, refl)
or_false false true e = absurd cc
or_false true b e = absurd cc

pub arriving_comes : (node : ℕ) (P : Heading → List ℕ → Type 0) (air : AirState) → Frames node P air → Comes node P (arriving air)
arriving_comes node P air all =
    let number : ℕ = air.landed + 1 in
    comes_if node P ((frame_at air (air.landed + 1)).lost || is_forgotten air (air.landed + 1) (frame_at air (air.landed + 1))) (flight_at air (air.landed + 1))
    (λ heard is_node. ⊎_elim
    (λ past.
    let no : get_or air.frames (air.landed + 1 - 1) no_flight ≡ no_flight = get_or_past air.frames (air.landed + 1 - 1) no_flight (omega (arith, past)) in
    let lost : (frame_at air (air.landed + 1)).lost ≡ true = ap (λ (f : Flight). f.lost) no in
    absurd (true≢false (sym lost ∙ (or_false (frame_at air (air.landed + 1)).lost (is_forgotten air (air.landed + 1) (frame_at air (air.landed + 1))) heard).0)))
    (λ within. is_heard node P air (air.landed + 1) (omega arith) within
    (or_false (frame_at air (air.landed + 1)).lost (is_forgotten air (air.landed + 1) (frame_at air (air.landed + 1))) heard).1 all is_node)
    (cases_lt (length air.frames) (air.landed + 1)))

-- no refusal, where there are three reasons for one
no_reason : (a b c : Bool) (x y z : IncludeRefusal) → cond a (Some x) (cond b (Some y) (cond c (Some z) None)) ≡ None → (a ≡ false) × (b ≡ false)
no_reason false false c x y z e = (refl, refl)
no_reason false true c x y z e = absurd cc
no_reason true b c x y z e = absurd cc

pub repeated_comes : (node : ℕ) (P : Heading → List ℕ → Type 0) (air : AirState) (number : ℕ) → refusal_of air number ≡ None → Frames node P air → Comes node P (Some (flight_at air number))
repeated_comes node P air number none all is_node =
    let no = no_reason _ _ _ _ _ _ none in
    let parts = or_false _ _ no.0 in
    is_heard node P air number (let e = eqb-false number 0 parts.0 in omega (arith, e)) (ltb-false (length air.frames) number parts.1) no.1 all is_node
