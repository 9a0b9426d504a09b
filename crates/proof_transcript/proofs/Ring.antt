-- The frames that are kept: each that is on the air is among them, at the place of its number.
use Rattle.std.proofs.Common.{◌≡◌, ℕ, ◌+◌, ◌-◌, ◌<◌, ◌≤◌, Bool, true, false, if◌then◌else◌, Some, None, List, [], ◌∷◌, ◌++◌, length, drop, refl, ap, sym, subst, ◌∙◌, length-drop, arith}
use Rattle.std.specs.Prelude.{slice_get, nat_lt}
use Rattle.std.proofs.lemmas.List.{length-append}
use Rattle.circular_buffer.proofs.Places.{slice_get-drop, slice_get-last, slice_get-push}
use Rattle.air_frames.specs.declared.frame.Departure.{Departure}
use Rattle.air_frames.specs.Flown.{Flown, flown}
use Rattle.air_frames.specs.Frames.{FramesState, peer_of, kept, putting, landing, next_of}
use Rattle.air_frames.specs.Peer.{showing}

-- at least the frames on the air are kept, and none that was not sent
pub record IsRing (frames : FramesState) : Type 0 where
  pub order : frames.landed ≤ frames.sent
  pub enough : frames.sent ≤ length frames.frames + frames.landed
  pub few : length frames.frames ≤ frames.sent

-- the frame of a number, counted from 1, is so where it is kept
abbrev pub IsKeptSo : (Flown → Type 0) → FramesState → ℕ → Type 0
IsKeptSo Is frames number = (frame : Flown) → slice_get frames.frames ((number - 1) - (frames.sent - length frames.frames)) ≡ Some frame → Is frame

-- ---- the next frame

flies_next : (test : Bool) (frames : FramesState) (frame : Flown) → nat_lt frames.landed frames.sent ≡ test
    → (if test then slice_get frames.frames (frames.landed - (frames.sent - length frames.frames)) else None) ≡ Some frame
    → (frames.landed < frames.sent) × (slice_get frames.frames (frames.landed - (frames.sent - length frames.frames)) ≡ Some frame)
flies_next true frames frame test is = (grind (arith, test), is)
flies_next false frames frame test is = absurd cc

pub next_flies : (frames : FramesState) (frame : Flown) → next_of frames ≡ Some frame
    → (frames.landed < frames.sent) × (slice_get frames.frames (frames.landed - (frames.sent - length frames.frames)) ≡ Some frame)
next_flies frames frame is = flies_next (nat_lt frames.landed frames.sent) frames frame refl is

pub next_so : (Is : Flown → Type 0) (frames : FramesState) (frame : Flown) → next_of frames ≡ Some frame → IsKeptSo Is frames (frames.landed + 1) → Is frame
next_so Is frames frame is so =
    so frame (ap (λ (n : ℕ). slice_get frames.frames (n - (frames.sent - length frames.frames))) (let e : (frames.landed + 1) - 1 ≡ frames.landed = omega arith in e) ∙ (next_flies frames frame is).1)

-- ---- kept frames go on

-- of a list of which the last are kept
drop_so : (Is : Flown → Type 0) (xs : List Flown) (sent number away : ℕ) → away ≤ length xs → length xs ≤ sent → (sent - length xs) + away < number → number ≤ sent
    → ((frame : Flown) → slice_get xs ((number - 1) - (sent - length xs)) ≡ Some frame → Is frame)
    → (frame : Flown) → slice_get (drop away xs) ((number - 1) - (sent - length (drop away xs))) ≡ Some frame → Is frame
drop_so Is xs sent number away within few above below so frame is =
    let long : length (drop away xs) ≡ length xs - away = length-drop away xs in
    so frame (sym (slice_get-drop away xs ((number - 1) - (sent - length (drop away xs))) ((number - 1) - (sent - length xs)) (omega arith)) ∙ is)

pub lands_so : (Is : Flown → Type 0) (frames : FramesState) (number : ℕ) → IsRing frames → frames.landed < frames.sent → frames.landed + 1 < number → number ≤ frames.sent → IsKeptSo Is frames number
    → IsKeptSo Is (landing frames) number
unfolding landing
lands_so Is frames number ring flies above below so =
    let enough = ring.enough in
    let few = ring.few in
    let away : ℕ = length frames.frames - kept frames.sent (frames.landed + 1) in
    drop_so Is frames.frames frames.sent number away (omega arith) few (omega arith) below so

pub lands_ring : (frames : FramesState) → IsRing frames → frames.landed < frames.sent → IsRing (landing frames)
unfolding landing
lands_ring frames ring flies =
    let enough = ring.enough in
    let few = ring.few in
    let long : length (drop (length frames.frames - kept frames.sent (frames.landed + 1)) frames.frames) ≡ length frames.frames - (length frames.frames - kept frames.sent (frames.landed + 1)) =
    length-drop (length frames.frames - kept frames.sent (frames.landed + 1)) frames.frames in
    record { order = omega arith; enough = omega arith; few = omega arith }

module _ (frames : FramesState) (departure : Departure) (ring : IsRing frames) where
  abbrev new : Flown
  new = flown departure (showing (peer_of frames departure.node) departure.heading departure.payload)

  abbrev all : List Flown
  all = frames.frames ++ new ∷ []

  all_long : length all ≡ length frames.frames + 1
  all_long = length-append frames.frames (new ∷ [])

  pub puts_ring : IsRing (putting frames departure)
  unfolding putting
  puts_ring =
      let order = ring.order in
      let enough = ring.enough in
      let few = ring.few in
      let more = all_long in
      let away : ℕ = length all - kept (frames.sent + 1) frames.landed in
      let long : length (drop away all) ≡ length all - away = length-drop away all in
      record { order = omega arith; enough = omega arith; few = omega arith }

  put_so : (Is : Flown → Type 0) (number : ℕ) → frames.landed < number → number ≤ frames.sent + 1
      → ((frame : Flown) → slice_get all ((number - 1) - ((frames.sent + 1) - length all)) ≡ Some frame → Is frame) → IsKeptSo Is (putting frames departure) number
  unfolding putting
  put_so Is number above below so =
      let order = ring.order in
      let enough = ring.enough in
      let few = ring.few in
      let more = all_long in
      drop_so Is all (frames.sent + 1) number (length all - kept (frames.sent + 1) frames.landed) (omega arith) (omega arith) (omega arith) below so

  -- the others
  pub puts_others : (Is : Flown → Type 0) (number : ℕ) → frames.landed < number → number ≤ frames.sent → IsKeptSo Is frames number → IsKeptSo Is (putting frames departure) number
  puts_others Is number above below so =
      let few = ring.few in
      let more = all_long in
      put_so Is number above (omega arith) (λ frame is. so frame
      (ap (λ (n : ℕ). slice_get frames.frames n) (let e : (number - 1) - (frames.sent - length frames.frames) ≡ (number - 1) - ((frames.sent + 1) - length all) = omega arith in e)
      ∙ (sym (slice_get-push frames.frames new ((number - 1) - ((frames.sent + 1) - length all)) (λ e. absurd (omega (arith, e, below, above, ring.enough)))) ∙ is)))

  -- the one that is put
  pub puts_new : (Is : Flown → Type 0) → Is new → IsKeptSo Is (putting frames departure) (frames.sent + 1)
  puts_new Is so =
      let few = ring.few in
      let order = ring.order in
      let more = all_long in
      put_so Is (frames.sent + 1) (omega arith) (omega arith) (λ frame is.
      let there : Some new ≡ Some frame =
      sym (slice_get-last frames.frames new (((frames.sent + 1) - 1) - ((frames.sent + 1) - length all)) (omega arith)) ∙ is in
      let same : new ≡ frame = cc in
      subst Is same so)
