-- Each thing that happens keeps the facts of the nonces that the host gives.
use Rattle.std.proofs.Common.{◌≡◌, ◌≢◌, ℕ, ◌+◌, ◌<◌, ◌≤◌, Bool, true, false, List, [], ◌∷◌, ◌++◌, Option, Some, None, refl, sym, subst, arith}
use Rattle.std.specs.Prelude.{max, slice_get, ◌&&◌, ◌%◌, not, ◌==◌}
use Rattle.std.specs.List.{AllByRecursion, remove}
use Rattle.std.proofs.lemmas.Bool.{eqb-true}
use Rattle.zw_base.proofs.Each.{all-append, all-both, all-get, all-weaker}
use Rattle.s0_session.specs.Sending.{seen_after}
use Rattle.proof_course.specs.Ways.{doubled, NeverFalls, NoneAhead}
use Rattle.proof_course.specs.Flying.{Flight, hosts, one_of, KeepsUp}
use Rattle.proof_course.specs.NodeNonces.{taken_as}
use Rattle.proof_course.specs.NodeNonceFacts.{itself}
use Rattle.proof_course.specs.HostNonces.{Nonces, Cargo, Offer, Of_host, Sealed, Of_node, is_of_host, gives, flies, answers, hears, sends, lands, repeats, seals, judges, first_nonces, Step, Gives, Offers, Waits, Up_loses, Up_doubles, Sends, Flies, Lands, Repeats, Down_loses, Down_doubles, Judges, MayFly, MayRepeat, May, MayAll, after, after_all}
use Rattle.proof_course.specs.HostNonceFacts.{IsDue, FitsBy, Fits, IsOnTime, NonceFacts}
use Rattle.proof_course.specs.NonceLaws.{TakesOffer, NamesGiven}
use Rattle.proof_course.proofs.Lists.{all-remove, all-doubled, never-remove, never-doubled, never-push, none-remove, none-doubled, none-push, none-begin}
use Rattle.proof_course.proofs.NonceNumbers.{same_of_256, first_byte_of, IsTakenFor, is_taken_for, seen_grows, where_waits}
use Rattle.proof_course.proofs.FramesOnAir.{hosts-push, keeps-push, keeps-raise}

pub first_facts : NonceFacts first_nonces
first_facts = record {
  one_ahead = omega arith;
  sent_seen = omega arith;
  seen_shown = omega arith;
  shown_given = omega arith;
  spent = λ dead. refl;
  lives = λ live. absurd (grind arith);
  due = tt;
  in_turn = tt;
  flying = tt;
  flown = tt;
  few = omega arith;
  keeps_up = tt;
  on_time = tt;
  none_ahead = tt;
}

-- ---- a nonce is given

gives-step : (c : Nonces) (live : Bool) → c.is_live ≡ live → NonceFacts c → NonceFacts (gives c live)
gives-step c true is facts = facts
gives-step c false is facts =
    let sent : c.sent ≡ c.given = facts.spent is in
    let sent_seen : c.sent ≤ c.seen = facts.sent_seen in
    let seen_shown : c.seen ≤ c.shown = facts.seen_shown in
    let shown_given : c.shown ≤ c.given = facts.shown_given in
    record {
      one_ahead = omega arith;
      sent_seen = sent_seen;
      seen_shown = seen_shown;
      shown_given = omega arith;
      spent = λ dead. absurd (grind arith);
      lives = λ live. omega arith;
      due = all-weaker (IsDue c.shown c.given) (IsDue c.shown (c.given + 1)) (λ (number : ℕ) due.
          let unsent : c.shown ≤ number = due.unsent in let was_given : number ≤ c.given = due.was_given in
          record { from_one = due.from_one; unsent = unsent; was_given = omega arith; near = omega arith }) c.up facts.due;
      in_turn = facts.in_turn;
      flying = facts.flying;
      flown = facts.flown;
      few = facts.few;
      keeps_up = facts.keeps_up;
      on_time = all-weaker (IsOnTime c.given c.sent c.is_live) (IsOnTime (c.given + 1) c.sent true) (λ (number : ℕ) on_time.
          let near : c.given ≤ number + 122 = on_time.near in
          let other : c.given ≢ number + 122 = λ e. let live : c.is_live ≡ true = on_time.edge e in absurd (grind arith) in
          record { from_one = on_time.from_one; was_sent = on_time.was_sent; near = omega arith; edge = λ e. refl }) c.down facts.on_time;
      none_ahead = none-begin itself 122 c.given c.down (all-weaker (IsOnTime c.given c.sent c.is_live) (λ (number : ℕ). number ≤ c.given)
          (λ (number : ℕ) on_time. let was_sent : number ≤ c.sent = on_time.was_sent in omega arith) c.down facts.on_time);
    }

waits-step : (c : Nonces) → NonceFacts c → NonceFacts (record c { waits = true })
waits-step c facts = record {
  one_ahead = facts.one_ahead;
  sent_seen = facts.sent_seen;
  seen_shown = facts.seen_shown;
  shown_given = facts.shown_given;
  spent = facts.spent;
  lives = facts.lives;
  due = facts.due;
  in_turn = facts.in_turn;
  flying = facts.flying;
  flown = facts.flown;
  few = facts.few;
  keeps_up = facts.keeps_up;
  on_time = facts.on_time;
  none_ahead = facts.none_ahead;
}

-- ---- up to the chip

up-step : (c : Nonces) (up : List ℕ) → NonceFacts c → AllByRecursion (IsDue c.shown c.given) up → NeverFalls itself up → NonceFacts (record c { up = up })
up-step c up facts due in_turn = record {
  one_ahead = facts.one_ahead;
  sent_seen = facts.sent_seen;
  seen_shown = facts.seen_shown;
  shown_given = facts.shown_given;
  spent = facts.spent;
  lives = facts.lives;
  due = due;
  in_turn = in_turn;
  flying = facts.flying;
  flown = facts.flown;
  few = facts.few;
  keeps_up = facts.keeps_up;
  on_time = facts.on_time;
  none_ahead = facts.none_ahead;
}

offers-step : (c : Nonces) → NonceFacts c → c.is_live ≡ true → NonceFacts (record c { up = c.up ++ c.given ∷ [] })
offers-step c facts live =
    up-step c (c.up ++ c.given ∷ []) facts
    (all-append (IsDue c.shown c.given) c.up (c.given ∷ []) facts.due (record { from_one = facts.lives live; unsent = facts.shown_given; was_given = omega arith; near = omega arith }, tt))
    (never-push itself c.up c.given facts.in_turn (all-weaker (IsDue c.shown c.given) (λ (number : ℕ). number ≤ c.given) (λ (number : ℕ) due. due.was_given) c.up facts.due))

-- ---- on the air

fits-more : (shown sent later_shown later_sent since : ℕ) (cargo : Cargo) → shown ≤ later_shown → sent ≤ later_sent → FitsBy shown sent since cargo → FitsBy later_shown later_sent since cargo
fits-more shown sent later_shown later_sent since (Offer number) more more_sent fits = let was : number ≤ shown = fits.1.0 in (fits.0, (omega arith, fits.1.1))
fits-more shown sent later_shown later_sent since Of_host more more_sent fits = tt
fits-more shown sent later_shown later_sent since (Sealed number) more more_sent fits = let was : number ≤ sent = fits.1.0 in (fits.0, (omega arith, fits.1.1))
fits-more shown sent later_shown later_sent since Of_node more more_sent fits = tt

-- another frame than a nonce or a message
other-step : (c : Nonces) (cargo : Cargo) → NonceFacts c → FitsBy c.shown c.sent c.shown cargo → hosts is_of_host c.air + one_of is_of_host cargo ≤ 2 → NonceFacts (flies c cargo)
other-step c cargo facts fits few =
    let count : hosts is_of_host (c.air ++ record { cargo = cargo; since = c.shown } ∷ []) ≡ hosts is_of_host c.air + one_of is_of_host cargo = hosts-push is_of_host c.air (record { cargo = cargo; since = c.shown }) in
    record {
      one_ahead = facts.one_ahead;
      sent_seen = facts.sent_seen;
      seen_shown = facts.seen_shown;
      shown_given = facts.shown_given;
      spent = facts.spent;
      lives = facts.lives;
      due = facts.due;
      in_turn = facts.in_turn;
      flying = all-append (Fits (flies c cargo)) c.air (record { cargo = cargo; since = c.shown } ∷ []) facts.flying (fits, tt);
      flown = all-append (Fits (flies c cargo)) c.old (record { cargo = cargo; since = c.shown } ∷ []) facts.flown (fits, tt);
      few = omega arith;
      keeps_up = keeps-push is_of_host c.shown c.shown c.air cargo (omega arith) facts.keeps_up;
      on_time = facts.on_time;
      none_ahead = facts.none_ahead;
    }

flies-step : (c : Nonces) (cargo : Cargo) → MayFly c cargo → NonceFacts c → NonceFacts (flies c cargo)
flies-step c (Offer number) may facts = absurd may
flies-step c Of_host may facts = other-step c Of_host facts tt (omega arith)
flies-step c (Sealed number) may facts = absurd may
flies-step c Of_node may facts = let few : hosts is_of_host c.air ≤ 2 = facts.few in other-step c Of_node facts tt (omega arith)

following : (shown given first : ℕ) (up : List ℕ) → shown ≤ first → AllByRecursion (λ (later : ℕ). first ≤ later) up → AllByRecursion (IsDue shown given) up → AllByRecursion (IsDue (max shown first) given) up
following shown given first [] below above due = tt
following shown given first (number ∷ up) below above due =
    let unsent : shown ≤ number = due.0.unsent in
    let later : first ≤ number = above.0 in
    (record { from_one = due.0.from_one; unsent = omega arith; was_given = due.0.was_given; near = due.0.near }, following shown given first up below above.1 due.1)

sends-step : (c : Nonces) (up : List ℕ) → c.up ≡ up → hosts is_of_host c.air ≤ 1 → NonceFacts c → NonceFacts (sends c up)
sends-step c [] are room facts = facts
sends-step c (number ∷ later) are room facts =
    let due = subst (λ (up : List ℕ). AllByRecursion (IsDue c.shown c.given) up) are facts.due in
    let in_turn = subst (λ (up : List ℕ). NeverFalls itself up) are facts.in_turn in
    let unsent : c.shown ≤ number = due.0.unsent in
    let was_given : number ≤ c.given = due.0.was_given in
    let ahead : c.given ≤ c.sent + 1 = facts.one_ahead in
    let sent_seen : c.sent ≤ c.seen = facts.sent_seen in
    let seen_shown : c.seen ≤ c.shown = facts.seen_shown in
    let shown_given : c.shown ≤ c.given = facts.shown_given in
    let more : c.shown ≤ max c.shown number = omega arith in
    let new : Nonces = record (flies (record c { shown = max c.shown number }) (Offer number)) { up = later } in
    let count : hosts is_of_host (c.air ++ record { cargo = Offer number; since = max c.shown number } ∷ []) ≡ hosts is_of_host c.air + 1 = hosts-push is_of_host c.air (record { cargo = Offer number; since = max c.shown number }) in
    let fits : FitsBy (max c.shown number) c.sent (max c.shown number) (Offer number) = (due.0.from_one, (omega arith, omega arith)) in
    record {
      one_ahead = facts.one_ahead;
      sent_seen = facts.sent_seen;
      seen_shown = omega arith;
      shown_given = omega arith;
      spent = facts.spent;
      lives = facts.lives;
      due = following c.shown c.given number later unsent in_turn.0 due.1;
      in_turn = in_turn.1;
      flying = all-append (Fits new) c.air (record { cargo = Offer number; since = max c.shown number } ∷ [])
          (all-weaker (Fits c) (Fits new) (λ (f : Flight Cargo) was. fits-more c.shown c.sent (max c.shown number) c.sent f.since f.cargo more (omega arith) was) c.air facts.flying) (fits, tt);
      flown = all-append (Fits new) c.old (record { cargo = Offer number; since = max c.shown number } ∷ [])
          (all-weaker (Fits c) (Fits new) (λ (f : Flight Cargo) was. fits-more c.shown c.sent (max c.shown number) c.sent f.since f.cargo more (omega arith) was) c.old facts.flown) (fits, tt);
      few = omega arith;
      keeps_up = keeps-raise is_of_host c.shown (max c.shown number) c.air (Offer number) more (omega arith) refl facts.keeps_up;
      on_time = facts.on_time;
      none_ahead = facts.none_ahead;
    }

leaves-step : (c : Nonces) (flight : Flight Cargo) (later : List (Flight Cargo)) → NonceFacts c → c.air ≡ flight ∷ later → NonceFacts (record c { air = later })
leaves-step c flight later facts are =
    let few : hosts is_of_host (flight ∷ later) ≤ 2 = subst (λ (air : List (Flight Cargo)). hosts is_of_host air ≤ 2) are facts.few in
    record {
      one_ahead = facts.one_ahead;
      sent_seen = facts.sent_seen;
      seen_shown = facts.seen_shown;
      shown_given = facts.shown_given;
      spent = facts.spent;
      lives = facts.lives;
      due = facts.due;
      in_turn = facts.in_turn;
      flying = (subst (λ (air : List (Flight Cargo)). AllByRecursion (Fits c) air) are facts.flying).1;
      flown = facts.flown;
      few = omega arith;
      keeps_up = (subst (λ (air : List (Flight Cargo)). KeepsUp is_of_host c.shown c.shown air) are facts.keeps_up).1.1;
      on_time = facts.on_time;
      none_ahead = facts.none_ahead;
    }

-- ---- at the node

sees-step : (c : Nonces) (number : ℕ) → NonceFacts c → c.seen ≤ number → number ≤ c.shown → NonceFacts (record c { seen = number; waits = false })
sees-step c number facts more below =
    let sent_seen : c.sent ≤ c.seen = facts.sent_seen in
    record {
      one_ahead = facts.one_ahead;
      sent_seen = omega arith;
      seen_shown = below;
      shown_given = facts.shown_given;
      spent = facts.spent;
      lives = facts.lives;
      due = facts.due;
      in_turn = facts.in_turn;
      flying = facts.flying;
      flown = facts.flown;
      few = facts.few;
      keeps_up = facts.keeps_up;
      on_time = facts.on_time;
      none_ahead = facts.none_ahead;
    }

-- the message for the nonce that the node saw last
answers-step : (c : Nonces) (number : ℕ) (goes_out : Bool) → c.seen ≡ number → 0 < number → NonceFacts c → NonceFacts (answers c number goes_out)
answers-step c number false is some facts = facts
answers-step c number true is some facts =
    let ahead : c.given ≤ c.sent + 1 = facts.one_ahead in
    let sent_seen : c.sent ≤ c.seen = facts.sent_seen in
    let seen_shown : c.seen ≤ c.shown = facts.seen_shown in
    let shown_given : c.shown ≤ c.given = facts.shown_given in
    let few : hosts is_of_host c.air ≤ 2 = facts.few in
    let more : c.sent ≤ max c.sent number = omega arith in
    let new : Nonces = record (flies c (Sealed number)) { sent = max c.sent number } in
    let count : hosts is_of_host (c.air ++ record { cargo = Sealed number; since = c.shown } ∷ []) ≡ hosts is_of_host c.air + 0 = hosts-push is_of_host c.air (record { cargo = Sealed number; since = c.shown }) in
    let fits : FitsBy c.shown (max c.sent number) c.shown (Sealed number) = (some, (omega arith, (omega arith, omega arith))) in
    record {
      one_ahead = omega arith;
      sent_seen = omega arith;
      seen_shown = seen_shown;
      shown_given = shown_given;
      spent = λ dead. let all : c.sent ≡ c.given = facts.spent dead in omega arith;
      lives = facts.lives;
      due = facts.due;
      in_turn = facts.in_turn;
      flying = all-append (Fits new) c.air (record { cargo = Sealed number; since = c.shown } ∷ [])
          (all-weaker (Fits c) (Fits new) (λ (f : Flight Cargo) was. fits-more c.shown c.sent c.shown (max c.sent number) f.since f.cargo (omega arith) more was) c.air facts.flying) (fits, tt);
      flown = all-append (Fits new) c.old (record { cargo = Sealed number; since = c.shown } ∷ [])
          (all-weaker (Fits c) (Fits new) (λ (f : Flight Cargo) was. fits-more c.shown c.sent c.shown (max c.sent number) f.since f.cargo (omega arith) more was) c.old facts.flown) (fits, tt);
      few = omega arith;
      keeps_up = keeps-push is_of_host c.shown c.shown c.air (Sealed number) (omega arith) facts.keeps_up;
      on_time = all-weaker (IsOnTime c.given c.sent c.is_live) (IsOnTime c.given (max c.sent number) c.is_live) (λ (n : ℕ) on_time.
          let was_sent : n ≤ c.sent = on_time.was_sent in record { from_one = on_time.from_one; was_sent = omega arith; near = on_time.near; edge = on_time.edge }) c.down facts.on_time;
      none_ahead = facts.none_ahead;
    }

-- what the node takes a nonce for is that nonce, and the last one that it saw or the next
taken_for : (c : Nonces) (number found : ℕ) → NonceFacts c → number ≤ c.shown → c.shown < number + 120 → seen_after c.seen (number % 256) ≡ Some found → IsTakenFor c.seen number found
taken_for c number found facts below near e =
    let ahead : c.given ≤ c.sent + 1 = facts.one_ahead in
    let sent_seen : c.sent ≤ c.seen = facts.sent_seen in
    let seen_shown : c.seen ≤ c.shown = facts.seen_shown in
    let shown_given : c.shown ≤ c.given = facts.shown_given in
    is_taken_for c.seen number found (omega arith) (omega arith) e

sealed-step : (c : Nonces) (number : ℕ) (found : Option ℕ) (goes_out : Bool) → seen_after c.seen (number % 256) ≡ found → 0 < number → number ≤ c.shown → c.shown < number + 120 → NonceFacts c
    → NonceFacts (seals c found goes_out)
sealed-step c number None goes_out e some below near facts = facts
sealed-step c number (Some found) goes_out e some below near facts =
    let for : IsTakenFor c.seen number found = taken_for c number found facts below near e in
    subst (λ (n : ℕ). NonceFacts (answers (record c { seen = n; waits = false }) n goes_out)) (sym for.itself)
    (answers-step (record c { seen = number; waits = false }) number goes_out refl some (sees-step c number facts (seen_grows c.seen number for.last_or_next) below))

offered-step : (c : Nonces) (number : ℕ) (waits goes_out : Bool) → 0 < number → number ≤ c.shown → c.shown < number + 120 → NonceFacts c → NonceFacts (seals c (taken_as waits c.seen number) goes_out)
offered-step c number true goes_out some below near facts = sealed-step c number (seen_after c.seen (number % 256)) goes_out refl some below near facts
offered-step c number false goes_out some below near facts = facts

-- ---- down to the host

down-step : (c : Nonces) (down : List ℕ) → NonceFacts c → AllByRecursion (IsOnTime c.given c.sent c.is_live) down → NoneAhead itself 122 c.given down → NonceFacts (record c { down = down })
down-step c down facts on_time none_ahead = record {
  one_ahead = facts.one_ahead;
  sent_seen = facts.sent_seen;
  seen_shown = facts.seen_shown;
  shown_given = facts.shown_given;
  spent = facts.spent;
  lives = facts.lives;
  due = facts.due;
  in_turn = facts.in_turn;
  flying = facts.flying;
  flown = facts.flown;
  few = facts.few;
  keeps_up = facts.keeps_up;
  on_time = on_time;
  none_ahead = none_ahead;
}

-- ---- a frame is heard

heard-step : (c : Nonces) (since : ℕ) (cargo : Cargo) (goes_out : Bool) → NonceFacts c → FitsBy c.shown c.sent since cargo → c.shown < since + 120 → NonceFacts (hears c cargo goes_out)
heard-step c since (Offer number) goes_out facts fits fresh =
    let is : since ≡ number = fits.1.1 in
    offered-step c number c.waits goes_out fits.0 fits.1.0 (omega arith) facts
heard-step c since Of_host goes_out facts fits fresh = facts
heard-step c since (Sealed number) goes_out facts fits fresh =
    let was_sent : number ≤ c.sent = fits.1.0 in
    let before : since ≤ number + 1 = fits.1.1.1 in
    let ahead : c.given ≤ c.sent + 1 = facts.one_ahead in
    let sent_seen : c.sent ≤ c.seen = facts.sent_seen in
    let seen_shown : c.seen ≤ c.shown = facts.seen_shown in
    down-step c (c.down ++ number ∷ []) facts
    (all-append (IsOnTime c.given c.sent c.is_live) c.down (number ∷ []) facts.on_time (record { from_one = fits.0; was_sent = was_sent; near = omega arith; edge = λ e. absurd (omega arith) }, tt))
    (none-push itself 122 c.given c.down number facts.none_ahead (omega arith))
heard-step c since Of_node goes_out facts fits fresh = facts

landing_age : (c : Nonces) (flight : Flight Cargo) (later : List (Flight Cargo)) → NonceFacts c → c.air ≡ flight ∷ later → c.shown ≤ flight.since + 2
landing_age c flight later facts are =
    let few : hosts is_of_host (flight ∷ later) ≤ 2 = subst (λ (air : List (Flight Cargo)). hosts is_of_host air ≤ 2) are facts.few in
    let keeps : c.shown ≤ flight.since + hosts is_of_host later = (subst (λ (air : List (Flight Cargo)). KeepsUp is_of_host c.shown c.shown air) are facts.keeps_up).1.0 in
    omega arith

lands-step : (c : Nonces) (air : List (Flight Cargo)) (is_heard goes_out : Bool) → c.air ≡ air → NonceFacts c → NonceFacts (lands c air is_heard goes_out)
lands-step c [] is_heard goes_out are facts = facts
lands-step c (flight ∷ later) true goes_out are facts =
    let fits : Fits c flight = (subst (λ (air : List (Flight Cargo)). AllByRecursion (Fits c) air) are facts.flying).0 in
    let age : c.shown ≤ flight.since + 2 = landing_age c flight later facts are in
    heard-step (record c { air = later }) flight.since flight.cargo goes_out (leaves-step c flight later facts are) fits (omega arith)
lands-step c (flight ∷ later) false goes_out are facts = leaves-step c flight later facts are

repeats-step : (c : Nonces) (at : ℕ) (found : Option (Flight Cargo)) (goes_out : Bool) → slice_get c.old at ≡ found → MayRepeat c found → NonceFacts c → NonceFacts (repeats c found goes_out)
repeats-step c at None goes_out are may facts = absurd may
repeats-step c at (Some flight) goes_out are may facts = heard-step c flight.since flight.cargo goes_out facts (all-get (Fits c) c.old at flight facts.flown are) may

-- ---- the host judges a message

-- by whether a nonce is live, and whether the message names it
spends-step : (c : Nonces) (later : List ℕ) (number : ℕ) (live named : Bool) → c.is_live ≡ live → (named ≡ true → number ≡ c.given) → number ≤ c.sent → NonceFacts c
    → AllByRecursion (IsOnTime c.given c.sent c.is_live) later → AllByRecursion (λ (n : ℕ). c.given ≡ n + 122 → number ≢ c.given) later → NoneAhead itself 122 c.given later
    → NonceFacts (record c { down = later; is_live = live && not (live && named) })
spends-step c later number true true is named_is below facts on_time apart none_ahead =
    let same : number ≡ c.given = named_is refl in
    let sent_seen : c.sent ≤ c.seen = facts.sent_seen in
    let seen_shown : c.seen ≤ c.shown = facts.seen_shown in
    let shown_given : c.shown ≤ c.given = facts.shown_given in
    record {
      one_ahead = facts.one_ahead;
      sent_seen = facts.sent_seen;
      seen_shown = facts.seen_shown;
      shown_given = facts.shown_given;
      spent = λ dead. omega arith;
      lives = λ live. absurd (grind arith);
      due = facts.due;
      in_turn = facts.in_turn;
      flying = facts.flying;
      flown = facts.flown;
      few = facts.few;
      keeps_up = facts.keeps_up;
      on_time = all-both (IsOnTime c.given c.sent c.is_live) (λ (n : ℕ). c.given ≡ n + 122 → number ≢ c.given) (IsOnTime c.given c.sent false)
          (λ (n : ℕ) was other. record { from_one = was.from_one; was_sent = was.was_sent; near = was.near; edge = λ e. absurd (other e same) }) later on_time apart;
      none_ahead = none_ahead;
    }
spends-step c later number true false is named_is below facts on_time apart none_ahead =
    subst (λ (live : Bool). NonceFacts (record c { down = later; is_live = live })) is (down-step c later facts on_time none_ahead)
spends-step c later number false named is named_is below facts on_time apart none_ahead =
    subst (λ (live : Bool). NonceFacts (record c { down = later; is_live = live })) is (down-step c later facts on_time none_ahead)

named_given : (c : Nonces) (number : ℕ) → NonceFacts c → IsOnTime c.given c.sent c.is_live number → (number % 256 == c.given % 256) ≡ true → number ≡ c.given
named_given c number facts on_time e =
    let was_sent : number ≤ c.sent = on_time.was_sent in
    let near : c.given ≤ number + 122 = on_time.near in
    let sent_seen : c.sent ≤ c.seen = facts.sent_seen in
    let seen_shown : c.seen ≤ c.shown = facts.seen_shown in
    let shown_given : c.shown ≤ c.given = facts.shown_given in
    same_of_256 number c.given (eqb-true (number % 256) (c.given % 256) e) (omega arith) (omega arith)

judges-step : (c : Nonces) (down : List ℕ) → c.down ≡ down → NonceFacts c → NonceFacts (judges c down)
judges-step c [] are facts = facts
judges-step c (number ∷ later) are facts =
    let on_time = subst (λ (down : List ℕ). AllByRecursion (IsOnTime c.given c.sent c.is_live) down) are facts.on_time in
    let none_ahead = subst (λ (down : List ℕ). NoneAhead itself 122 c.given down) are facts.none_ahead in
    spends-step c later number c.is_live (number % 256 == c.given % 256) refl (λ e. named_given c number facts on_time.0 e) on_time.0.was_sent facts on_time.1 none_ahead.0 none_ahead.1

-- ---- every step

pub each_kept : (c : Nonces) (step : Step) → NonceFacts c → May c step → NonceFacts (after c step)
each_kept c Gives facts may = gives-step c c.is_live refl facts
each_kept c Offers facts may = offers-step c facts may
each_kept c Waits facts may = waits-step c facts
each_kept c (Up_loses at) facts may = up-step c (remove c.up at) facts (all-remove (IsDue c.shown c.given) c.up at facts.due) (never-remove itself c.up at facts.in_turn)
each_kept c (Up_doubles at) facts may = up-step c (doubled c.up at) facts (all-doubled (IsDue c.shown c.given) c.up at facts.due) (never-doubled itself c.up at facts.in_turn)
each_kept c Sends facts may = sends-step c c.up refl may facts
each_kept c (Flies cargo) facts may = flies-step c cargo may facts
each_kept c (Lands is_heard goes_out) facts may = lands-step c c.air is_heard goes_out refl facts
each_kept c (Repeats at goes_out) facts may = repeats-step c at (slice_get c.old at) goes_out refl may facts
each_kept c (Down_loses at) facts may =
    down-step c (remove c.down at) facts (all-remove (IsOnTime c.given c.sent c.is_live) c.down at facts.on_time) (none-remove itself 122 c.given c.down at facts.none_ahead)
each_kept c (Down_doubles at) facts may =
    down-step c (doubled c.down at) facts (all-doubled (IsOnTime c.given c.sent c.is_live) c.down at facts.on_time) (none-doubled itself 122 c.given c.down at (omega arith) facts.none_ahead)
each_kept c Judges facts may = judges-step c c.down refl facts

pub all_kept : (c : Nonces) (steps : List Step) → NonceFacts c → MayAll c steps → NonceFacts (after_all c steps)
all_kept c [] facts may = facts
all_kept c (step ∷ steps) facts may = all_kept (after c step) steps (each_kept c step facts may.0) may.1

-- ---- what a first byte names

offer_named : (c : Nonces) (number since : ℕ) → NonceFacts c → FitsBy c.shown c.sent since (Offer number) → c.shown < since + 120 → TakesOffer c number
offer_named c number since facts fits fresh =
    let is : since ≡ number = fits.1.1 in
    λ found e. (taken_for c number found facts fits.1.0 (omega arith) (where_waits c.waits c.seen number found e)).itself

pub landing_named : (c : Nonces) (number since : ℕ) (later : List (Flight Cargo)) → NonceFacts c → c.air ≡ record { cargo = Offer number; since = since } ∷ later → TakesOffer c number
landing_named c number since later facts are =
    let fits = (subst (λ (air : List (Flight Cargo)). AllByRecursion (Fits c) air) are facts.flying).0 in
    let age : c.shown ≤ since + 2 = landing_age c (record { cargo = Offer number; since = since }) later facts are in
    offer_named c number since facts fits (omega arith)

pub repeated_named : (c : Nonces) (number since at : ℕ) → NonceFacts c → slice_get c.old at ≡ Some (record { cargo = Offer number; since = since }) → c.shown < since + 120 → TakesOffer c number
repeated_named c number since at facts are fresh =
    offer_named c number since facts (all-get (Fits c) c.old at (record { cargo = Offer number; since = since }) facts.flown are) fresh

pub judged_named : (c : Nonces) (number : ℕ) (later : List ℕ) → NonceFacts c → c.down ≡ number ∷ later → NamesGiven c number
judged_named c number later facts are =
    let on_time = subst (λ (down : List ℕ). AllByRecursion (IsOnTime c.given c.sent c.is_live) down) are facts.on_time in
    λ e. named_given c number facts on_time.0 (first_byte_of c.is_live (number % 256 == c.given % 256) e)
