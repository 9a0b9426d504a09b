-- The ages that the counts give are those of the history.
use Rattle.std.proofs.Common.{◌≡◌, ℕ, zero, suc, ◌+◌, ◌-◌, ◌<◌, ◌≤◌, ◌&&◌, ◌⊎◌, inl, inr, ltb, leb, if◌then◌else◌, Bool, true, false, Option, Some, None, List, [], length, slice_get, refl, ap, sym, ◌∙◌, length-drop, arith}
use Rattle.std.proofs.lemmas.Bool.{lt-ltb, le-ltb}
use Rattle.std.proofs.lemmas.Bool.Decides.{leb_tells}
use Rattle.circular_buffer.proofs.Places.{slice_get-drop}
use Rattle.air_frames.specs.declared.frame.Departure.{Departure}
use Rattle.air_frames.specs.declared.ages.Refusal.{Refusal}
use Rattle.air_frames.specs.declared.ages.Refusal.TheVariants.{NeverSent, Forgotten}
use Rattle.air_frames.specs.Flown.{Flown}
use Rattle.air_frames.specs.Frames.{FramesState, peer_of, kept, remembered}
use Rattle.air_frames.specs.Ages.{stale_by, stale_of, stale_if, refusal_of}
use Rattle.air_frames.specs.History.{Mark, IsOf, goes_in, begins_in, news_after, through, since, departure_at, stamped, Later, NewNonces, stale_in, refusal_in}
use Rattle.air_frames.proofs.Logs.{length-stamped, node_within, through-since, never_sent, was_sent, StampedAt, stamped_at, news_after-append}

-- the first of two where three tests pass
all_three : (a b c : Bool) (x y : Option Flown) → a ≡ true → b ≡ true → c ≡ true → (if a && (b && c) then x else y) ≡ x
all_three a b c x y e f g = rw (e, f, g) refl

all_two : (a b : Bool) (x y : Option Refusal) → a ≡ true → b ≡ true → (if a && b then x else y) ≡ x
all_two a b x y e f = rw (e, f) refl

module _ (log : List Mark) (state : FramesState) (of : IsOf log state) (number : ℕ) where
  positive : ltb 0 (suc number) ≡ true
  positive = lt-ltb 0 (suc number) (omega arith)

  -- it was never sent
  past : state.sent ≤ number → refusal_of state (suc number) ≡ refusal_in log (suc number)
  past over =
      let e = of.sent in
      let no : leb (suc number) state.sent ≡ false = by (leb_tells (suc number) state.sent) in
      rw (positive, no) (sym (ap (λ d. stale_in log number d) (never_sent log number (omega arith))))
    where
      by : ((leb (suc number) state.sent ≡ true) × (suc number ≤ state.sent)) ⊎ ((leb (suc number) state.sent ≡ false) × (state.sent < suc number)) → leb (suc number) state.sent ≡ false
      by (inl (e, within)) = absurd (omega arith)
      by (inr (e, apart)) = e

  module _ (d : Departure) (is : departure_at log number ≡ Some d) (within : number < state.sent) where
    sent_it : leb (suc number) state.sent ≡ true
    sent_it = by (leb_tells (suc number) state.sent)
      where
        by : ((leb (suc number) state.sent ≡ true) × (suc number ≤ state.sent)) ⊎ ((leb (suc number) state.sent ≡ false) × (state.sent < suc number)) → leb (suc number) state.sent ≡ true
        by (inl (e, fits)) = e
        by (inr (e, apart)) = absurd (omega arith)

    abbrev found : StampedAt [] log number d
    found = stamped_at [] log number d is

    -- more than 4,096 later frames were sent
    forgotten : 4096 < state.sent - suc number → refusal_of state (suc number) ≡ refusal_in log (suc number)
    forgotten over =
        let e = of.sent in
        let no : leb (state.sent - suc number) 4096 ≡ false = by (leb_tells (state.sent - suc number) 4096) in
        let yes : ltb (number + 4097) (goes_in log) ≡ true = lt-ltb (number + 4097) (goes_in log) (omega arith) in
        rw (positive, sent_it, no) (sym (ap (λ x. stale_in log number x) is ∙ (let f : stale_in log number (Some d) ≡ Some Forgotten = rw yes refl in f)))
      where
        by : ((leb (state.sent - suc number) 4096 ≡ true) × (state.sent - suc number ≤ 4096)) ⊎ ((leb (state.sent - suc number) 4096 ≡ false) × (4096 < state.sent - suc number)) → leb (state.sent - suc number) 4096 ≡ false
        by (inl (e, fits)) = absurd (omega arith)
        by (inr (e, apart)) = e

    -- it is kept, and its counts give its ages
    later_is : (peer_of state d.node).begun - found.frame.begun ≡ Later log d.node number
    later_is =
        let e = of.begun d.node (node_within log number d of.nodes is) in
        let f = found.begun in
        sums (peer_of state d.node).begun found.frame.begun (begins_in d.node (since log number)) (begins_in d.node log) e f
      where
        sums : (p f s t : ℕ) → p ≡ t → f + s ≡ t → p - f ≡ s
        sums p f s t e g = omega arith

    nonces_are : (peer_of state d.node).nonces.shown - found.frame.shown ≡ NewNonces log d.node number
    nonces_are =
        sums (peer_of state d.node).nonces.shown found.frame.shown (news_after d.node [] (through log number)) (NewNonces log d.node number) (news_after d.node [] log)
        (of.shown d.node (node_within log number d of.nodes is)) found.shown
        (ap (λ l. news_after d.node [] l) (sym (through-since log number)) ∙ news_after-append d.node [] (through log number) (since log number))
      where
        sums : (p f a s t : ℕ) → p ≡ t → f ≡ a → t ≡ a + s → p - f ≡ s
        sums p f a s t e g h = omega arith

    at : state.sent - suc number ≤ 4096 → slice_get state.frames (length state.frames - (state.sent - suc number) - 1) ≡ Some found.frame
    at few =
        let o = of.order in
        let m : ℕ = state.sent - kept state.sent state.landed in
        let long : length (stamped [] log) ≡ state.sent = length-stamped [] log ∙ sym of.sent in
        let short : length state.frames ≡ state.sent - m = ap length of.frames ∙ (length-drop m (stamped [] log) ∙ ap (λ n. n - m) long) in
        let place : number ≡ m + (length state.frames - (state.sent - suc number) - 1) = omega arith in
        ap (λ fs. slice_get fs (length state.frames - (state.sent - suc number) - 1)) of.frames
        ∙ (slice_get-drop m (stamped [] log) (length state.frames - (state.sent - suc number) - 1) number place ∙ found.at)

    kept_yet : state.sent - suc number ≤ 4096 → refusal_of state (suc number) ≡ refusal_in log (suc number)
    kept_yet few =
        let e = of.sent in
        let yes : leb (state.sent - suc number) 4096 ≡ true = by (leb_tells (state.sent - suc number) 4096) in
        let no : ltb (number + 4097) (goes_in log) ≡ false = le-ltb (number + 4097) (goes_in log) (omega arith) in
        let whole : remembered state (suc number) ≡ Some found.frame = all_three _ _ _ (slice_get state.frames (length state.frames - (state.sent - suc number) - 1)) None positive sent_it yes ∙ at few in
        let left : refusal_of state (suc number) ≡ stale_of found.frame (peer_of state found.frame.node) = all_two _ _ (stale_if state (remembered state (suc number))) (Some NeverSent) positive sent_it ∙ ap (λ x. stale_if state x) whole in
        let right : stale_in log number (Some d) ≡ stale_by d.payload (Later log d.node number) (NewNonces log d.node number) = rw no refl in
        left
        ∙ (ap (λ n. stale_of found.frame (peer_of state n)) found.node
        ∙ (ap (λ p. stale_by p ((peer_of state d.node).begun - found.frame.begun) ((peer_of state d.node).nonces.shown - found.frame.shown)) found.payload
        ∙ (ap (λ k. stale_by d.payload k ((peer_of state d.node).nonces.shown - found.frame.shown)) later_is
        ∙ (ap (λ k. stale_by d.payload (Later log d.node number) k) nonces_are
        ∙ (sym right ∙ sym (ap (λ x. stale_in log number x) is))))))
      where
        by : ((leb (state.sent - suc number) 4096 ≡ true) × (state.sent - suc number ≤ 4096)) ⊎ ((leb (state.sent - suc number) 4096 ≡ false) × (4096 < state.sent - suc number)) → leb (state.sent - suc number) 4096 ≡ true
        by (inl (e, fits)) = e
        by (inr (e, apart)) = absurd (omega arith)

    sent_once : refusal_of state (suc number) ≡ refusal_in log (suc number)
    sent_once = by (leb_tells (state.sent - suc number) 4096)
      where
        by : ((leb (state.sent - suc number) 4096 ≡ true) × (state.sent - suc number ≤ 4096)) ⊎ ((leb (state.sent - suc number) 4096 ≡ false) × (4096 < state.sent - suc number)) → refusal_of state (suc number) ≡ refusal_in log (suc number)
        by (inl (e, few)) = kept_yet few
        by (inr (e, many)) = forgotten many

  by_number : refusal_of state (suc number) ≡ refusal_in log (suc number)
  by_number = by (leb_tells (suc number) state.sent)
    where
      by : ((leb (suc number) state.sent ≡ true) × (suc number ≤ state.sent)) ⊎ ((leb (suc number) state.sent ≡ false) × (state.sent < suc number)) → refusal_of state (suc number) ≡ refusal_in log (suc number)
      by (inl (e, within)) =
          let f = of.sent in
          let one = was_sent log number (let h : number < goes_in log = omega arith in h) in
          sent_once one.0 one.1 (omega arith)
      by (inr (e, apart)) = past (omega arith)

pub refusal_is : (log : List Mark) (state : FramesState) (number : ℕ) → IsOf log state → refusal_of state number ≡ refusal_in log number
refusal_is log state zero of = refl
refusal_is log state (suc number) of = by_number log state of number
