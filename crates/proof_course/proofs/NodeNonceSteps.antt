-- Each thing that happens keeps the facts of the nonces that a node gives.
use Rattle.std.proofs.Common.{◌≡◌, ◌≢◌, ℕ, ◌+◌, ◌<◌, ◌≤◌, ◌⊎◌, Bool, true, false, List, [], ◌∷◌, ◌++◌, Option, Some, None, refl, sym, subst, inl, inr, arith}
use Rattle.std.specs.Prelude.{max, slice_get, ◌&&◌, ◌%◌, not, ◌==◌}
use Rattle.std.specs.List.{AllByRecursion, remove}
use Rattle.std.proofs.lemmas.Bool.{eqb-true}
use Rattle.zw_base.proofs.Each.{all-append, all-both, all-get, all-weaker}
use Rattle.s0_session.specs.Sending.{seen_after}
use Rattle.proof_course.specs.Ways.{doubled, NeverFalls, NoneAhead}
use Rattle.proof_course.specs.Flying.{Flight, hosts, one_of, KeepsUp}
use Rattle.proof_course.specs.NodeNonces.{Nonces, Cargo, Sealed, Of_host, Offer, Of_node, is_of_host, gives, flies, hears, sends, lands, repeats, taken_as, seals, judges, first_nonces, Step, Gives, Offers, Waits, Up_loses, Up_doubles, Sends, Flies, Lands, Repeats, Down_loses, Down_doubles, Judges, MayFly, MayRepeat, May, MayAll, after, after_all}
use Rattle.proof_course.specs.NodeNonceFacts.{IsDue, FitsBy, Fits, IsOnTime, itself, NonceFacts}
use Rattle.proof_course.specs.NonceLaws.{NamesLive, TakesIt}
use Rattle.proof_course.proofs.Lists.{all-remove, all-doubled, never-remove, never-doubled, never-push, none-remove, none-doubled, none-push, none-begin}
use Rattle.proof_course.proofs.NonceNumbers.{same_of_256, first_byte_of, IsTakenFor, is_taken_for, seen_grows, where_waits}
use Rattle.proof_course.proofs.FramesOnAir.{hosts-push, keeps-begin, keeps-push, keeps-send}

pub first_facts : NonceFacts first_nonces
first_facts = record {
  one_ahead = omega arith;
  sent_seen = omega arith;
  seen_given = omega arith;
  spent = λ dead. refl;
  lives = λ live. absurd (grind arith);
  due = tt;
  in_turn = tt;
  flying = tt;
  flown = tt;
  few = omega arith;
  keeps_up = tt;
  on_time = tt;
  none_ahead = tt;
}

-- ---- a nonce is given

fits-give : (given sent since : ℕ) (cargo : Cargo) → FitsBy given sent since cargo → FitsBy (given + 1) sent since cargo
fits-give given sent since (Sealed number) fits = fits
fits-give given sent since Of_host fits = tt
fits-give given sent since (Offer number) fits = let was : number ≤ given = fits.1.0 in (fits.0, (omega arith, fits.1.1))
fits-give given sent since Of_node fits = tt

gives-step : (c : Nonces) (live : Bool) → c.is_live ≡ live → NonceFacts c → NonceFacts (gives c live)
gives-step c true is facts = facts
gives-step c false is facts =
    let sent : c.sent ≡ c.given = facts.spent is in
    let sent_seen : c.sent ≤ c.seen = facts.sent_seen in
    let seen_given : c.seen ≤ c.given = facts.seen_given in
    let new : Nonces = record c { given = c.given + 1; is_live = true } in
    record {
      one_ahead = omega arith;
      sent_seen = sent_seen;
      seen_given = omega arith;
      spent = λ dead. absurd (grind arith);
      lives = λ live. omega arith;
      due = facts.due;
      in_turn = facts.in_turn;
      flying = all-weaker (Fits c) (Fits new) (λ f fits. fits-give c.given c.sent f.since f.cargo fits) c.air facts.flying;
      flown = all-weaker (Fits c) (Fits new) (λ f fits. fits-give c.given c.sent f.since f.cargo fits) c.old facts.flown;
      few = facts.few;
      keeps_up = keeps-begin is_of_host c.given c.sent c.air (omega arith) facts.keeps_up;
      on_time = all-weaker (IsOnTime c.given c.seen) (IsOnTime (c.given + 1) c.seen) (λ (number : ℕ) is_on_time.
          let was_given : number ≤ c.given = is_on_time.was_given in
          let near : c.given ≤ number + 120 = is_on_time.near in
          let other : c.given ≢ number + 120 = λ e. let more : c.seen < c.given = is_on_time.edge e in omega arith in
          record { from_one = is_on_time.from_one; was_given = omega arith; near = omega arith; edge = λ e. omega arith }) c.down facts.on_time;
      none_ahead = none-begin itself 120 c.given c.down (all-weaker (IsOnTime c.given c.seen) (λ (number : ℕ). number ≤ c.given) (λ (number : ℕ) is_on_time. is_on_time.was_given) c.down facts.on_time);
    }

-- ---- up to the chip

waits-step : (c : Nonces) → NonceFacts c → NonceFacts (record c { waits = true })
waits-step c facts = record {
  one_ahead = facts.one_ahead;
  sent_seen = facts.sent_seen;
  seen_given = facts.seen_given;
  spent = facts.spent;
  lives = facts.lives;
  due = facts.due;
  in_turn = facts.in_turn;
  flying = facts.flying;
  flown = facts.flown;
  few = facts.few;
  keeps_up = facts.keeps_up;
  on_time = facts.on_time;
  none_ahead = facts.none_ahead;
}

up-step : (c : Nonces) (up : List ℕ) → NonceFacts c → AllByRecursion (IsDue c.sent c.seen) up → NeverFalls itself up → NonceFacts (record c { up = up })
up-step c up facts due in_turn = record {
  one_ahead = facts.one_ahead;
  sent_seen = facts.sent_seen;
  seen_given = facts.seen_given;
  spent = facts.spent;
  lives = facts.lives;
  due = due;
  in_turn = in_turn;
  flying = facts.flying;
  flown = facts.flown;
  few = facts.few;
  keeps_up = facts.keeps_up;
  on_time = facts.on_time;
  none_ahead = facts.none_ahead;
}

-- ---- on the air

fits-sent : (given sent later since : ℕ) (cargo : Cargo) → sent ≤ later → FitsBy given sent since cargo → FitsBy given later since cargo
fits-sent given sent later since (Sealed number) more fits = let was : number ≤ sent = fits.0 in (omega arith, fits.1)
fits-sent given sent later since Of_host more fits = tt
fits-sent given sent later since (Offer number) more fits = fits
fits-sent given sent later since Of_node more fits = tt

abbrev Sending : Nonces → List ℕ → ℕ → Cargo → Nonces
Sending c up sent cargo = record (flies c cargo) { up = up; sent = sent }

flying-step : (c : Nonces) (up : List ℕ) (sent : ℕ) (cargo : Cargo) → NonceFacts c → c.sent ≤ sent → sent ≤ c.seen → AllByRecursion (IsDue sent c.seen) up → NeverFalls itself up
    → (c.is_live ≡ false → sent ≡ c.given) → FitsBy c.given sent c.given cargo → hosts is_of_host c.air + one_of is_of_host cargo ≤ 2
    → KeepsUp is_of_host c.given sent (c.air ++ record { cargo = cargo; since = c.given } ∷ []) → NonceFacts (Sending c up sent cargo)
flying-step c up sent cargo facts more below due in_turn spent fits few keeps =
    let later = λ (f : Flight Cargo) (was : Fits c f). fits-sent c.given c.sent sent f.since f.cargo more was in
    let ahead : c.given ≤ c.sent + 1 = facts.one_ahead in
    let count : hosts is_of_host (c.air ++ record { cargo = cargo; since = c.given } ∷ []) ≡ hosts is_of_host c.air + one_of is_of_host cargo = hosts-push is_of_host c.air (record { cargo = cargo; since = c.given }) in
    record {
      one_ahead = omega arith;
      sent_seen = below;
      seen_given = facts.seen_given;
      spent = spent;
      lives = facts.lives;
      due = due;
      in_turn = in_turn;
      flying = all-append (Fits (Sending c up sent cargo)) c.air (record { cargo = cargo; since = c.given } ∷ [])
          (all-weaker (Fits c) (Fits (Sending c up sent cargo)) later c.air facts.flying) (fits, tt);
      flown = all-append (Fits (Sending c up sent cargo)) c.old (record { cargo = cargo; since = c.given } ∷ [])
          (all-weaker (Fits c) (Fits (Sending c up sent cargo)) later c.old facts.flown) (fits, tt);
      few = omega arith;
      keeps_up = keeps;
      on_time = facts.on_time;
      none_ahead = facts.none_ahead;
    }

other-step : (c : Nonces) (cargo : Cargo) → NonceFacts c → FitsBy c.given c.sent c.given cargo → hosts is_of_host c.air + one_of is_of_host cargo ≤ 2 → NonceFacts (flies c cargo)
other-step c cargo facts fits few =
    let sent_seen : c.sent ≤ c.seen = facts.sent_seen in
    let seen_given : c.seen ≤ c.given = facts.seen_given in
    flying-step c c.up c.sent cargo facts (omega arith) facts.sent_seen facts.due facts.in_turn facts.spent fits few
    (keeps-push is_of_host c.given c.sent c.air cargo (omega arith) facts.keeps_up)

offers-step : (c : Nonces) → NonceFacts c → c.is_live ≡ true → NonceFacts (flies c (Offer c.given))
offers-step c facts live = let few : hosts is_of_host c.air ≤ 2 = facts.few in other-step c (Offer c.given) facts (facts.lives live, (omega arith, refl)) (omega arith)

flies-step : (c : Nonces) (cargo : Cargo) → MayFly c cargo → NonceFacts c → NonceFacts (flies c cargo)
flies-step c (Sealed number) may facts = absurd may
flies-step c Of_host may facts = other-step c Of_host facts tt (omega arith)
flies-step c (Offer number) may facts = absurd may
flies-step c Of_node may facts = let few : hosts is_of_host c.air ≤ 2 = facts.few in other-step c Of_node facts tt (omega arith)

following : (sent seen first : ℕ) (up : List ℕ) → sent ≤ first → AllByRecursion (λ (later : ℕ). first ≤ later) up → AllByRecursion (IsDue sent seen) up → AllByRecursion (IsDue (max sent first) seen) up
following sent seen first [] below above due = tt
following sent seen first (number ∷ up) below above due =
    let unsent : sent ≤ number = due.0.unsent in
    let later : first ≤ number = above.0 in
    (record { from_one = due.0.from_one; unsent = omega arith; was_seen = due.0.was_seen; near = due.0.near }, following sent seen first up below above.1 due.1)

sends-step : (c : Nonces) (up : List ℕ) → c.up ≡ up → hosts is_of_host c.air ≤ 1 → NonceFacts c → NonceFacts (sends c up)
sends-step c [] are room facts = facts
sends-step c (number ∷ later) are room facts =
    let due = subst (λ (up : List ℕ). AllByRecursion (IsDue c.sent c.seen) up) are facts.due in
    let in_turn = subst (λ (up : List ℕ). NeverFalls itself up) are facts.in_turn in
    let unsent : c.sent ≤ number = due.0.unsent in
    let was_seen : number ≤ c.seen = due.0.was_seen in
    let ahead : c.given ≤ c.sent + 1 = facts.one_ahead in
    let sent_seen : c.sent ≤ c.seen = facts.sent_seen in
    let seen_given : c.seen ≤ c.given = facts.seen_given in
    flying-step c later (max c.sent number) (Sealed number) facts (omega arith) (omega arith) (following c.sent c.seen number later unsent in_turn.0 due.1) in_turn.1
    (λ dead. let all : c.sent ≡ c.given = facts.spent dead in omega arith)
    (omega arith, (omega arith, omega arith))
    (omega arith)
    (keeps-send is_of_host c.given c.sent (max c.sent number) c.air (Sealed number) (omega arith) refl facts.keeps_up)

leaves-step : (c : Nonces) (flight : Flight Cargo) (later : List (Flight Cargo)) → NonceFacts c → c.air ≡ flight ∷ later → NonceFacts (record c { air = later })
leaves-step c flight later facts are =
    let few : hosts is_of_host (flight ∷ later) ≤ 2 = subst (λ (air : List (Flight Cargo)). hosts is_of_host air ≤ 2) are facts.few in
    record {
      one_ahead = facts.one_ahead;
      sent_seen = facts.sent_seen;
      seen_given = facts.seen_given;
      spent = facts.spent;
      lives = facts.lives;
      due = facts.due;
      in_turn = facts.in_turn;
      flying = (subst (λ (air : List (Flight Cargo)). AllByRecursion (Fits c) air) are facts.flying).1;
      flown = facts.flown;
      few = omega arith;
      keeps_up = (subst (λ (air : List (Flight Cargo)). KeepsUp is_of_host c.given c.sent air) are facts.keeps_up).1.1;
      on_time = facts.on_time;
      none_ahead = facts.none_ahead;
    }

-- ---- down to the host

down-step : (c : Nonces) (down : List ℕ) → NonceFacts c → AllByRecursion (IsOnTime c.given c.seen) down → NoneAhead itself 120 c.given down → NonceFacts (record c { down = down })
down-step c down facts on_time none_ahead = record {
  one_ahead = facts.one_ahead;
  sent_seen = facts.sent_seen;
  seen_given = facts.seen_given;
  spent = facts.spent;
  lives = facts.lives;
  due = facts.due;
  in_turn = facts.in_turn;
  flying = facts.flying;
  flown = facts.flown;
  few = facts.few;
  keeps_up = facts.keeps_up;
  on_time = on_time;
  none_ahead = none_ahead;
}

-- ---- a frame is heard

dies-step : (c : Nonces) → NonceFacts c → c.sent ≡ c.given → NonceFacts (record c { is_live = false })
dies-step c facts all = record {
  one_ahead = facts.one_ahead;
  sent_seen = facts.sent_seen;
  seen_given = facts.seen_given;
  spent = λ dead. all;
  lives = λ live. absurd (grind arith);
  due = facts.due;
  in_turn = facts.in_turn;
  flying = facts.flying;
  flown = facts.flown;
  few = facts.few;
  keeps_up = facts.keeps_up;
  on_time = facts.on_time;
  none_ahead = facts.none_ahead;
}

lives-step : (c : Nonces) → NonceFacts c → c.is_live ≡ true → NonceFacts (record c { is_live = true })
lives-step c facts live = record {
  one_ahead = facts.one_ahead;
  sent_seen = facts.sent_seen;
  seen_given = facts.seen_given;
  spent = λ dead. absurd (grind arith);
  lives = λ _. facts.lives live;
  due = facts.due;
  in_turn = facts.in_turn;
  flying = facts.flying;
  flown = facts.flown;
  few = facts.few;
  keeps_up = facts.keeps_up;
  on_time = facts.on_time;
  none_ahead = facts.none_ahead;
}

-- by whether a nonce is live, and whether the message names it
spends-step : (c : Nonces) (live named : Bool) → c.is_live ≡ live → (named ≡ true → c.sent ≡ c.given) → NonceFacts c → NonceFacts (record c { is_live = live && not (live && named) })
spends-step c true true is all facts = dies-step c facts (all refl)
spends-step c true false is all facts = lives-step c facts is
spends-step c false named is all facts = dies-step c facts (facts.spent is)

-- a message that fits and is not too old is for the live nonce where it has its first byte
named_is_given : (c : Nonces) (number since : ℕ) → FitsBy c.given c.sent since (Sealed number) → NonceFacts c → c.given < since + 120 → (number % 256 == c.given % 256) ≡ true → number ≡ c.given
named_is_given c number since fits facts fresh e =
    let sent : number ≤ c.sent = fits.0 in
    let before : since ≤ number + 1 = fits.1.1 in
    let sent_seen : c.sent ≤ c.seen = facts.sent_seen in
    let seen_given : c.seen ≤ c.given = facts.seen_given in
    same_of_256 number c.given (eqb-true (number % 256) (c.given % 256) e) (omega arith) (omega arith)

heard-step : (c : Nonces) (since : ℕ) (cargo : Cargo) → NonceFacts c → FitsBy c.given c.sent since cargo → c.given < since + 120 → NonceFacts (hears c cargo)
heard-step c since (Sealed number) facts fits fresh =
    spends-step c c.is_live (number % 256 == c.given % 256) refl
    (λ e.
    let same : number ≡ c.given = named_is_given c number since fits facts fresh e in
    let sent : number ≤ c.sent = fits.0 in
    let sent_seen : c.sent ≤ c.seen = facts.sent_seen in
    let seen_given : c.seen ≤ c.given = facts.seen_given in
    omega arith) facts
heard-step c since Of_host facts fits fresh = facts
heard-step c since (Offer number) facts fits fresh =
    let was_given : number ≤ c.given = fits.1.0 in
    let is : since ≡ number = fits.1.1 in
    down-step c (c.down ++ number ∷ []) facts
    (all-append (IsOnTime c.given c.seen) c.down (number ∷ []) facts.on_time (record { from_one = fits.0; was_given = was_given; near = omega arith; edge = λ e. absurd (omega arith) }, tt))
    (none-push itself 120 c.given c.down number facts.none_ahead (omega arith))
heard-step c since Of_node facts fits fresh = facts

landing_age : (c : Nonces) (flight : Flight Cargo) (later : List (Flight Cargo)) → NonceFacts c → c.air ≡ flight ∷ later → c.given ≤ flight.since + 3
landing_age c flight later facts are =
    let few : hosts is_of_host (flight ∷ later) ≤ 2 = subst (λ (air : List (Flight Cargo)). hosts is_of_host air ≤ 2) are facts.few in
    let keeps : c.given ≤ flight.since + 1 + hosts is_of_host later = (subst (λ (air : List (Flight Cargo)). KeepsUp is_of_host c.given c.sent air) are facts.keeps_up).0 in
    omega arith

lands-step : (c : Nonces) (air : List (Flight Cargo)) (is_heard : Bool) → c.air ≡ air → NonceFacts c → NonceFacts (lands c air is_heard)
lands-step c [] is_heard are facts = facts
lands-step c (flight ∷ later) true are facts =
    let fits : Fits c flight = (subst (λ (air : List (Flight Cargo)). AllByRecursion (Fits c) air) are facts.flying).0 in
    let age : c.given ≤ flight.since + 3 = landing_age c flight later facts are in
    heard-step (record c { air = later }) flight.since flight.cargo (leaves-step c flight later facts are) fits (omega arith)
lands-step c (flight ∷ later) false are facts = leaves-step c flight later facts are

repeats-step : (c : Nonces) (at : ℕ) (found : Option (Flight Cargo)) → slice_get c.old at ≡ found → MayRepeat c found → NonceFacts c → NonceFacts (repeats c found)
repeats-step c at None are may facts = absurd may
repeats-step c at (Some flight) are may facts = heard-step c flight.since flight.cargo facts (all-get (Fits c) c.old at flight facts.flown are) may

-- ---- the host judges a nonce

taken_for : (c : Nonces) (number found : ℕ) → NonceFacts c → IsOnTime c.given c.seen number → seen_after c.seen (number % 256) ≡ Some found → IsTakenFor c.seen number found
taken_for c number found facts is e =
    let was_given : number ≤ c.given = is.was_given in
    let near : c.given ≤ number + 120 = is.near in
    let ahead : c.given ≤ c.sent + 1 = facts.one_ahead in
    let sent_seen : c.sent ≤ c.seen = facts.sent_seen in
    let seen_given : c.seen ≤ c.given = facts.seen_given in
    is_taken_for c.seen number found (omega arith) (omega arith) e

-- one that was sent or waits is as near to the nonce that is sealed for
still_due : (sent seen given number found : ℕ) → given ≤ sent + 1 → found ≤ given → (found ≡ seen) ⊎ (found ≡ seen + 1) → IsDue sent seen number → IsDue sent found number
still_due sent seen given number found ahead below (inl same) is =
    let was_seen : number ≤ seen = is.was_seen in let near : seen ≤ number + 1 = is.near in
    record { from_one = is.from_one; unsent = is.unsent; was_seen = omega arith; near = omega arith }
still_due sent seen given number found ahead below (inr next) is =
    let was_seen : number ≤ seen = is.was_seen in let unsent : sent ≤ number = is.unsent in
    record { from_one = is.from_one; unsent = is.unsent; was_seen = omega arith; near = omega arith }

seals-step : (c : Nonces) (number : ℕ) (later : List ℕ) → NonceFacts c → (number ≡ c.seen) ⊎ (number ≡ c.seen + 1) → number ≤ c.given → 0 < number
    → AllByRecursion (IsOnTime c.given c.seen) later → AllByRecursion (λ (n : ℕ). c.given ≡ n + 120 → number ≢ c.given) later → NoneAhead itself 120 c.given later
    → NonceFacts (record c { down = later; seen = number; waits = false; up = c.up ++ number ∷ [] })
seals-step c number later facts which below some on_time apart none_ahead =
    let more : c.seen ≤ number = seen_grows c.seen number which in
    let ahead : c.given ≤ c.sent + 1 = facts.one_ahead in
    let sent_seen : c.sent ≤ c.seen = facts.sent_seen in
    record {
      one_ahead = facts.one_ahead;
      sent_seen = omega arith;
      seen_given = below;
      spent = facts.spent;
      lives = facts.lives;
      due = all-append (IsDue c.sent number) c.up (number ∷ [])
          (all-weaker (IsDue c.sent c.seen) (IsDue c.sent number) (λ (n : ℕ) is. still_due c.sent c.seen c.given n number ahead below which is) c.up facts.due)
          (record { from_one = some; unsent = omega arith; was_seen = omega arith; near = omega arith }, tt);
      in_turn = never-push itself c.up number facts.in_turn
          (all-weaker (IsDue c.sent c.seen) (λ (n : ℕ). n ≤ number) (λ (n : ℕ) is. let was_seen : n ≤ c.seen = is.was_seen in omega arith) c.up facts.due);
      flying = facts.flying;
      flown = facts.flown;
      few = facts.few;
      keeps_up = facts.keeps_up;
      on_time = all-both (IsOnTime c.given c.seen) (λ (n : ℕ). c.given ≡ n + 120 → number ≢ c.given) (IsOnTime c.given number)
          (λ (n : ℕ) is other. record { from_one = is.from_one; was_given = is.was_given; near = is.near; edge = λ e. let apart_from : number ≢ c.given = other e in omega arith }) later on_time apart;
      none_ahead = none_ahead;
    }

-- by what it is taken for, where a text waits
sealed-step : (c : Nonces) (number : ℕ) (later : List ℕ) (found : Option ℕ) → seen_after c.seen (number % 256) ≡ found → NonceFacts c → IsOnTime c.given c.seen number
    → AllByRecursion (IsOnTime c.given c.seen) later → AllByRecursion (λ (n : ℕ). c.given ≡ n + 120 → number ≢ c.given) later → NoneAhead itself 120 c.given later
    → NonceFacts (seals (record c { down = later }) found)
sealed-step c number later None e facts is on_time apart none_ahead = down-step c later facts on_time none_ahead
sealed-step c number later (Some found) e facts is on_time apart none_ahead =
    let for : IsTakenFor c.seen number found = taken_for c number found facts is e in
    subst (λ (n : ℕ). NonceFacts (record c { down = later; seen = n; waits = false; up = c.up ++ n ∷ [] })) (sym for.itself)
    (seals-step c number later facts for.last_or_next is.was_given is.from_one on_time apart none_ahead)

judged-step : (c : Nonces) (number : ℕ) (later : List ℕ) (waits : Bool) → NonceFacts c → IsOnTime c.given c.seen number
    → AllByRecursion (IsOnTime c.given c.seen) later → AllByRecursion (λ (n : ℕ). c.given ≡ n + 120 → number ≢ c.given) later → NoneAhead itself 120 c.given later
    → NonceFacts (seals (record c { down = later }) (taken_as waits c.seen number))
judged-step c number later true facts is on_time apart none_ahead = sealed-step c number later (seen_after c.seen (number % 256)) refl facts is on_time apart none_ahead
judged-step c number later false facts is on_time apart none_ahead = down-step c later facts on_time none_ahead

judges-step : (c : Nonces) (down : List ℕ) → c.down ≡ down → NonceFacts c → NonceFacts (judges c down)
judges-step c [] are facts = facts
judges-step c (number ∷ later) are facts =
    let on_time = subst (λ (down : List ℕ). AllByRecursion (IsOnTime c.given c.seen) down) are facts.on_time in
    let none_ahead = subst (λ (down : List ℕ). NoneAhead itself 120 c.given down) are facts.none_ahead in
    judged-step c number later c.waits facts on_time.0 on_time.1 none_ahead.0 none_ahead.1

-- ---- every step

pub each_kept : (c : Nonces) (step : Step) → NonceFacts c → May c step → NonceFacts (after c step)
each_kept c Gives facts may = gives-step c c.is_live refl facts
each_kept c Offers facts may = offers-step c facts may
each_kept c Waits facts may = waits-step c facts
each_kept c (Up_loses at) facts may = up-step c (remove c.up at) facts (all-remove (IsDue c.sent c.seen) c.up at facts.due) (never-remove itself c.up at facts.in_turn)
each_kept c (Up_doubles at) facts may = up-step c (doubled c.up at) facts (all-doubled (IsDue c.sent c.seen) c.up at facts.due) (never-doubled itself c.up at facts.in_turn)
each_kept c Sends facts may = sends-step c c.up refl may facts
each_kept c (Flies cargo) facts may = flies-step c cargo may facts
each_kept c (Lands is_heard) facts may = lands-step c c.air is_heard refl facts
each_kept c (Repeats at) facts may = repeats-step c at (slice_get c.old at) refl may facts
each_kept c (Down_loses at) facts may = down-step c (remove c.down at) facts (all-remove (IsOnTime c.given c.seen) c.down at facts.on_time) (none-remove itself 120 c.given c.down at facts.none_ahead)
each_kept c (Down_doubles at) facts may =
    down-step c (doubled c.down at) facts (all-doubled (IsOnTime c.given c.seen) c.down at facts.on_time) (none-doubled itself 120 c.given c.down at (omega arith) facts.none_ahead)
each_kept c Judges facts may = judges-step c c.down refl facts

pub all_kept : (c : Nonces) (steps : List Step) → NonceFacts c → MayAll c steps → NonceFacts (after_all c steps)
all_kept c [] facts may = facts
all_kept c (step ∷ steps) facts may = all_kept (after c step) steps (each_kept c step facts may.0) may.1

-- ---- what a first byte names

pub landing_named : (c : Nonces) (number since : ℕ) (later : List (Flight Cargo)) → NonceFacts c → c.air ≡ record { cargo = Sealed number; since = since } ∷ later → NamesLive c number
landing_named c number since later facts are =
    let fits = (subst (λ (air : List (Flight Cargo)). AllByRecursion (Fits c) air) are facts.flying).0 in
    let age : c.given ≤ since + 3 = landing_age c (record { cargo = Sealed number; since = since }) later facts are in
    λ e. named_is_given c number since fits facts (omega arith) (first_byte_of c.is_live (number % 256 == c.given % 256) e)

pub repeated_named : (c : Nonces) (number since at : ℕ) → NonceFacts c → slice_get c.old at ≡ Some (record { cargo = Sealed number; since = since }) → c.given < since + 120 → NamesLive c number
repeated_named c number since at facts are fresh =
    λ e. named_is_given c number since (all-get (Fits c) c.old at (record { cargo = Sealed number; since = since }) facts.flown are) facts fresh
    (first_byte_of c.is_live (number % 256 == c.given % 256) e)

pub judged_named : (c : Nonces) (number : ℕ) (later : List ℕ) → NonceFacts c → c.down ≡ number ∷ later → TakesIt c number
judged_named c number later facts are =
    let on_time = subst (λ (down : List ℕ). AllByRecursion (IsOnTime c.given c.seen) down) are facts.on_time in
    λ found e. (taken_for c number found facts on_time.0 (where_waits c.waits c.seen number found e)).itself
