-- What is so of each frame on the air stays so as one goes there and as one lands; and the next that arrives is one of them.
use Rattle.std.proofs.Common.{◌≡◌, ℕ, zero, suc, ◌+◌, ◌-◌, ◌<◌, ◌≤◌, Bool, true, false, if◌then◌else◌, List, [], ◌∷◌, ◌++◌, length, drop, nat_lt, refl, sym, subst, ◌∙◌, length-drop, arith}
use Rattle.std.proofs.lemmas.Bool.{ltb-true}
use Rattle.std.proofs.lemmas.List.{drop-drop, length_push}
use Rattle.std.specs.Prelude.{Some, None, slice_get}
use Rattle.std.specs.List.{AllByRecursion}
use Rattle.circular_buffer.proofs.Places.{slice_get-drop}
use Rattle.zw_base.proofs.Each.{all-append, all-get}
use Rattle.air_frames.specs.Flown.{Flown, flown}
use Rattle.air_frames.specs.Frames.{FramesState, kept, landing, next_of, peer_of, putting}
use Rattle.air_frames.specs.Peer.{showing}
use Rattle.air_frames.specs.declared.frame.Departure.{Departure}
use Rattle.proof_waking.specs.proof_traffic.OnAir.{on_air}

-- no more frames are kept than were sent
abbrev pub IsSized : FramesState → Type 0
IsSized state = length state.frames ≤ state.sent

all_left : {A : Type 0} (P : A → Type 0) (k : ℕ) (xs : List A) → AllByRecursion P xs → AllByRecursion P (drop k xs)
all_left P zero xs all = all
all_left P (suc k) [] all = tt
all_left P (suc k) (x ∷ xs) all = all_left P k xs all.1

module _ {A : Type 0} (P : A → Type 0) where
  -- behind a place, and so behind a later one
  later : (j i : ℕ) (xs : List A) → j ≤ i → AllByRecursion P (drop j xs) → AllByRecursion P (drop i xs)
  later j i xs le all =
      subst (λ (n : ℕ). AllByRecursion P (drop n xs)) (join j i le) (subst (AllByRecursion P) (drop-drop (i - j) j xs) (all_left P (i - j) (drop j xs) all))
    where
      join : (j i : ℕ) → j ≤ i → j + (i - j) ≡ i
      join j i le = omega (arith, le)

  with_last : (j : ℕ) (xs : List A) (x : A) → P x → AllByRecursion P (drop j xs) → AllByRecursion P (drop j (xs ++ x ∷ []))
  with_last zero xs x is all = all-append P xs (x ∷ []) all (is, tt)
  with_last (suc j) [] x is all = all_left P j [] tt
  with_last (suc j) (y ∷ xs) x is all = with_last j xs x is all

  -- the last of some, of those that are kept
  last_all : (j n k : ℕ) (xs : List A) → j ≤ length xs - n → AllByRecursion P (drop j xs) → AllByRecursion P (drop (length (drop (length xs - k) xs) - n) (drop (length xs - k) xs))
  last_all j n k xs few all =
      subst (AllByRecursion P) (sym (drop-drop (length (drop (length xs - k) xs) - n) (length xs - k) xs))
      (later j ((length xs - k) + (length (drop (length xs - k) xs) - n)) xs (behind (length xs) (length (drop (length xs - k) xs)) (length-drop (length xs - k) xs) few) all)
    where
      behind : (all left : ℕ) → left ≡ all - (all - k) → j ≤ all - n → j ≤ (all - k) + (left - n)
      behind all left is few = omega (arith, is, few)

-- a frame goes there
pub put_all : (P : Flown → Type 0) (state : FramesState) (d : Departure) → P (flown d (showing (peer_of state d.node) d.heading d.payload)) → AllByRecursion P (on_air state) → AllByRecursion P (on_air (putting state d))
unfolding on_air putting
put_all P state d is all =
    let frame : Flown = flown d (showing (peer_of state d.node) d.heading d.payload) in
    let xs : List Flown = state.frames ++ frame ∷ [] in
    last_all P (length state.frames - (state.sent - state.landed)) ((state.sent + 1) - state.landed) (kept (state.sent + 1) state.landed) xs
    (before (length state.frames) (length xs) state.sent state.landed (length_push state.frames frame))
    (with_last P (length state.frames - (state.sent - state.landed)) state.frames frame is all)
  where
    before : (l m sent landed : ℕ) → m ≡ l + 1 → l - (sent - landed) ≤ m - ((sent + 1) - landed)
    before l m sent landed is = omega (arith, is)

pub put_sized : (state : FramesState) (d : Departure) → IsSized (putting state d)
unfolding putting
put_sized state d =
    let xs : List Flown = state.frames ++ flown d (showing (peer_of state d.node) d.heading d.payload) ∷ [] in
    few (length xs) (length (drop (length xs - kept (state.sent + 1) state.landed) xs)) state.sent state.landed (length-drop (length xs - kept (state.sent + 1) state.landed) xs)
  where
    few : (all left sent landed : ℕ) → left ≡ all - (all - kept (sent + 1) landed) → left ≤ sent + 1
    few all left sent landed is = omega (arith, is)

-- the first lands
pub land_all : (P : Flown → Type 0) (state : FramesState) → AllByRecursion P (on_air state) → AllByRecursion P (on_air (landing state))
unfolding on_air landing
land_all P state all =
    last_all P (length state.frames - (state.sent - state.landed)) (state.sent - (state.landed + 1)) (kept state.sent (state.landed + 1)) state.frames (before (length state.frames) state.sent state.landed) all
  where
    before : (l sent landed : ℕ) → l - (sent - landed) ≤ l - (sent - (landed + 1))
    before l sent landed = omega arith

pub land_sized : (state : FramesState) → IsSized (landing state)
unfolding landing
land_sized state =
    few (length state.frames) (length (drop (length state.frames - kept state.sent (state.landed + 1)) state.frames)) state.sent state.landed
    (length-drop (length state.frames - kept state.sent (state.landed + 1)) state.frames)
  where
    few : (all left sent landed : ℕ) → left ≡ all - (all - kept sent (landed + 1)) → left ≤ sent
    few all left sent landed is = omega (arith, is)

-- the next that arrives is the first of them
pub next_all : (P : Flown → Type 0) (state : FramesState) (frame : Flown) → IsSized state → next_of state ≡ Some frame → AllByRecursion P (on_air state) → P frame
unfolding on_air
next_all P state frame sized is all = by (nat_lt state.landed state.sent) refl is
  where
    same : (l sent landed : ℕ) → l ≤ sent → landed < sent → l - (sent - landed) ≡ landed - (sent - l)
    same l sent landed few flies = omega (arith, few, flies)

    at : (i j : ℕ) → i ≡ j → j ≡ i + 0
    at i j is = omega (arith, is)

    by : (b : Bool) → nat_lt state.landed state.sent ≡ b → (if b then slice_get state.frames (state.landed - (state.sent - length state.frames)) else None) ≡ Some frame → P frame
    by true flies found =
        all-get P (drop (length state.frames - (state.sent - state.landed)) state.frames) 0 frame all
        (slice_get-drop (length state.frames - (state.sent - state.landed)) state.frames 0 (state.landed - (state.sent - length state.frames))
        (at (length state.frames - (state.sent - state.landed)) (state.landed - (state.sent - length state.frames)) (same (length state.frames) state.sent state.landed sized (ltb-true state.landed state.sent flies))) ∙ found)
    by false flies found = absurd cc
