-- Frames on the air, by the history of all of them.
use Rattle.std.proofs.Common.{◌≡◌, ℕ, ◌+◌, ◌-◌, ◌<◌, ◌≤◌, Bool, true, false, if◌then◌else◌, Some, None, List, [], ◌∷◌, ◌++◌, length, drop, replicate, refl, ap, sym, ◌∙◌, length-drop, append-nil, arith}
use Rattle.std.specs.Prelude.{slice_get, nat_lt, nat_le, ◌&&◌}
use Rattle.std.proofs.lemmas.List.{drop-drop, drop-append-le}
use Rattle.circular_buffer.proofs.Places.{slice_get-drop}
use Rattle.air_frames.specs.declared.frame.Departure.{Departure}
use Rattle.air_frames.specs.Flown.{Flown}
use Rattle.air_frames.specs.Frames.{FramesState, kept, putting, landing, next_of, remembered}
use Rattle.air_frames.specs.History.{Mark, Goes, Begins, IsOf}
use Rattle.air_frames.proofs.Logs.{stamped-append, length-stamped, stamped-begins}
use Rattle.proof_traffic.specs.Flights.{flown_in, flown_now, Fly}

all_flown : (log : List Mark) (frames : FramesState) → IsOf log frames → length (flown_in log) ≡ frames.sent
all_flown log frames h = length-stamped [] log ∙ sym h.sent

-- the first of what follows a place is what stands there
get_first : {X : Type 0} (n : ℕ) (xs : List X) (x : X) (later : List X) → x ∷ later ≡ drop n xs → slice_get xs n ≡ Some x
get_first n xs x later e = sym (slice_get-drop n xs 0 n (omega arith)) ∙ ap (λ ys. slice_get ys 0) (sym e)

pub goes : (log : List Mark) (flights : List Flown) (frames : FramesState) (departure : Departure)
    → IsOf (log ++ Goes departure ∷ []) (putting frames departure) → Fly log flights frames → Fly (log ++ Goes departure ∷ []) (flights ++ flown_now log departure ∷ []) (putting frames departure)
unfolding putting
goes log flights frames departure history fly = record {
  history = history;
  are =
      let order : frames.landed ≤ frames.sent = fly.history.order in
      let long : length (flown_in log) ≡ frames.sent = all_flown log frames fly.history in
      let all : flown_in (log ++ Goes departure ∷ []) ≡ flown_in log ++ flown_now log departure ∷ [] = stamped-append [] log (Goes departure ∷ []) in
      ap (λ (fs : List Flown). fs ++ flown_now log departure ∷ []) fly.are
      ∙ sym (drop-append-le frames.landed (flown_in log) (flown_now log departure ∷ []) (omega arith)) ∙ ap (λ (fs : List Flown). drop frames.landed fs) (sym all);
}

pub counted : (log : List Mark) (flights : List Flown) (frames : FramesState) → Fly log flights frames → length flights ≡ frames.sent - frames.landed
counted log flights frames fly = ap length fly.are ∙ length-drop frames.landed (flown_in log) ∙ ap (λ n. n - frames.landed) (all_flown log frames fly.history)

in_flight : (log : List Mark) (flight : Flown) (later : List Flown) (frames : FramesState) → Fly log (flight ∷ later) frames → frames.landed < frames.sent
in_flight log flight later frames fly = let many : length (flight ∷ later) ≡ frames.sent - frames.landed = counted log (flight ∷ later) frames fly in omega arith

-- how many frames are kept
kept_count : (log : List Mark) (frames : FramesState) → IsOf log frames → length frames.frames ≡ kept frames.sent frames.landed
kept_count log frames h =
    let order : frames.landed ≤ frames.sent = h.order in
    let long : length (flown_in log) ≡ frames.sent = all_flown log frames h in
    let some : length frames.frames ≡ frames.sent - (frames.sent - kept frames.sent frames.landed) = ap length h.frames ∙ length-drop (frames.sent - kept frames.sent frames.landed) (flown_in log) ∙ ap (λ n. n - (frames.sent - kept frames.sent frames.landed)) long in
    omega arith

-- a kept frame is the one of that place among all
kept_at : (log : List Mark) (frames : FramesState) (at place : ℕ) → IsOf log frames → place ≡ (frames.sent - length frames.frames) + at → slice_get frames.frames at ≡ slice_get (flown_in log) place
kept_at log frames at place h is =
    let some : length frames.frames ≡ kept frames.sent frames.landed = kept_count log frames h in
    ap (λ (fs : List Flown). slice_get fs at) h.frames
    ∙ slice_get-drop (frames.sent - kept frames.sent frames.landed) (flown_in log) at place (is ∙ ap (λ n. (frames.sent - n) + at) some)

pub next_is : (log : List Mark) (flight : Flown) (later : List Flown) (frames : FramesState) → Fly log (flight ∷ later) frames → next_of frames ≡ Some flight
next_is log flight later frames fly =
    let flying : frames.landed < frames.sent = in_flight log flight later frames fly in
    let some : length frames.frames ≡ kept frames.sent frames.landed = kept_count log frames fly.history in
    let test : nat_lt frames.landed frames.sent ≡ true = grind (arith, flying) in
    ap (λ b. if b then slice_get frames.frames (frames.landed - (frames.sent - length frames.frames)) else None) test
    ∙ kept_at log frames (frames.landed - (frames.sent - length frames.frames)) frames.landed fly.history (omega arith) ∙ get_first frames.landed (flown_in log) flight later fly.are

pub none_next : (log : List Mark) (frames : FramesState) → Fly log [] frames → next_of frames ≡ None
none_next log frames fly =
    let many : 0 ≡ frames.sent - frames.landed = counted log [] frames fly in
    let order : frames.landed ≤ frames.sent = fly.history.order in
    let test : nat_lt frames.landed frames.sent ≡ false = grind (arith, many, order) in
    ap (λ b. if b then slice_get frames.frames (frames.landed - (frames.sent - length frames.frames)) else None) test

pub lands : ((log : List Mark) (state : FramesState) → state.landed < state.sent → IsOf log state → IsOf log (landing state))
    → (log : List Mark) (flight : Flown) (later : List Flown) (frames : FramesState) → Fly log (flight ∷ later) frames → Fly log later (landing frames)
unfolding landing
lands law log flight later frames fly = record {
  history = law log frames (in_flight log flight later frames fly) fly.history;
  are = ap (drop 1) fly.are ∙ drop-drop 1 frames.landed (flown_in log);
}

pub begins : (log : List Mark) (flights : List Flown) (frames later : FramesState) (node count : ℕ) → later.landed ≡ frames.landed → IsOf (log ++ replicate count (Begins node)) later → Fly log flights frames
    → Fly (log ++ replicate count (Begins node)) flights later
begins log flights frames later node count same history fly = record {
  history = history;
  are =
      let all : flown_in (log ++ replicate count (Begins node)) ≡ flown_in log = stamped-append [] log (replicate count (Begins node)) ∙ ap (λ (fs : List Flown). flown_in log ++ fs) (stamped-begins log node count) ∙ append-nil (flown_in log) in
      fly.are ∙ ap (λ (fs : List Flown). drop frames.landed fs) (sym all) ∙ ap (λ n. drop n (flown_in (log ++ replicate count (Begins node)))) (sym same);
}

pub remembered_is : (log : List Mark) (flights : List Flown) (frames : FramesState) (number : ℕ) (frame : Flown) → Fly log flights frames → remembered frames (number + 1) ≡ Some frame
    → slice_get (flown_in log) number ≡ Some frame
remembered_is log flights frames number frame fly is = by (nat_lt 0 (number + 1) && (nat_le (number + 1) frames.sent && nat_le (frames.sent - (number + 1)) 4096)) refl
  where
    by : (found : Bool) → (nat_lt 0 (number + 1) && (nat_le (number + 1) frames.sent && nat_le (frames.sent - (number + 1)) 4096)) ≡ found → slice_get (flown_in log) number ≡ Some frame
    by true e =
        let order : frames.landed ≤ frames.sent = fly.history.order in
        let some : length frames.frames ≡ kept frames.sent frames.landed = kept_count log frames fly.history in
        let within : number + 1 ≤ frames.sent = grind (arith, e) in
        let near : frames.sent - (number + 1) ≤ 4096 = grind (arith, e) in
        sym (kept_at log frames (length frames.frames - (frames.sent - (number + 1)) - 1) number fly.history (omega arith))
        ∙ sym (ap (λ b. if b then slice_get frames.frames (length frames.frames - (frames.sent - (number + 1)) - 1) else None) e) ∙ is
    by false e = let none : remembered frames (number + 1) ≡ None = ap (λ b. if b then slice_get frames.frames (length frames.frames - (frames.sent - (number + 1)) - 1) else None) e in absurd (grind (arith, sym none ∙ is))
