-- Which nonces the host uses (Security 0 Command Class; how nonces are counted is this project's own rule): a text is sealed for the last Nonce
-- Report that was taken while it waited, once; a Nonce Report has the nonce that was live when it was asked for.
use Rattle.std.specs.Prelude.{◌≡◌, ℕ, ◌%◌, ◌&&◌, ◌||◌, not, bytes_eq, Bool, if◌then◌else◌, List, [], ◌∷◌, ◌++◌, length, drop, take, map}
use Rattle.std.specs.List.{list_any, list_all, AllByRecursion}
use Rattle.s0_crypto.specs.Sealing.{keys_of, sealed_text, unsealed_at}
use Rattle.encap.specs.Opening.{begins_with}
use Rattle.zw_text.specs.declared.entry.Entry.{Entry}
use Rattle.law_time.specs.law_transcript.Nodes.{controller}
use Rattle.law_time.specs.law_transcript.Payloads.{nonce_get}
use Rattle.law_time.specs.law_transcript.Units.{Carried, sending_in}
use Rattle.law_time.specs.Heeds.{Heeds}
use Rattle.law_time.specs.Moments.{clock}
use Rattle.law_time.specs.Requests.{are_none}
use Rattle.law_time.specs.Sessions.{last_command, session_of}
use Rattle.law_time.specs.Attempts.{is_late as is_late_at, serving}
use Rattle.law_host.specs.Course.{Course, Giver, Offer, Opening, Ready, Seal, Sealer, each_in_turn, giver_of, sealer_of, with_giver, with_sealer}

-- the last sign of an attempt of a node is 100 ticks ago: it is over, and nothing of it waits
abbrev pub is_late : Heeds → List Entry → ℕ → Bool
is_late heeds past node = list_any (is_late_at (clock past)) (serving heeds (node ∷ []) past).each

-- ---- what a request does

-- a Nonce Get is of an attempt: the message of the session waits for a nonce
abbrev pub asks_nonce : Heeds → List Entry → ℕ → Course → Course
asks_nonce heeds past node course =
    with_sealer node (record {
      seen = (sealer_of node course).seen;
      pending = map (λ command. (session_of heeds.listing past node command).message) (last_command node past);
      ready = [];
    }) course

-- a Nonce Report shows the nonce that was offered first
abbrev pub shows_nonce : Carried → Course → Course
shows_nonce carried course =
    let giver : Giver = giver_of carried.node course in
    let offer_of : ℕ → Offer = λ number. record { node = carried.node; number = number; nonce = drop 2 carried.payload } in
    with_giver carried.node (record giver { offers = drop 1 giver.offers }) (record course { offered = course.offered ++ map offer_of (take 1 giver.offers) })

-- a sealed text uses up its nonce
abbrev pub uses_nonce : Carried → Course → Course
uses_nonce carried course =
    let sealer : Sealer = sealer_of carried.node course in
    let seal_of : Ready → Seal = λ ready. record { node = carried.node; ready = ready; payload = carried.payload } in
    with_sealer carried.node (record sealer { ready = [] }) (record course { sealed = course.sealed ++ map seal_of sealer.ready })

abbrev pub sends_carried : Heeds → List Entry → Carried → Course → Course
sends_carried heeds past carried course =
    if bytes_eq carried.payload nonce_get then asks_nonce heeds past carried.node course
    else (if begins_with carried.payload 0x98 0x80 then shows_nonce carried course
    else (if begins_with carried.payload 0x98 0x81 then uses_nonce carried course else course))

abbrev pub sends : Heeds → List Entry → List ℕ → Course → Course
sends heeds past unit course = each_in_turn (sends_carried heeds past) (sending_in unit) course

-- a Nonce Report is sent where one was asked for, and a sealed text where one has its nonce
abbrev pub may_carry : Heeds → List Entry → Course → Carried → Bool
may_carry heeds past course carried =
    not (begins_with carried.payload 0x98 0x80 && are_none (giver_of carried.node course).offers)
    && not (begins_with carried.payload 0x98 0x81 && (are_none (sealer_of carried.node course).ready || is_late heeds past carried.node))

abbrev pub may_be_sent : Heeds → List Entry → List ℕ → Course → Bool
may_be_sent heeds past unit course = list_all (may_carry heeds past course) (sending_in unit)

-- ---- which bytes

-- the nonce of a node with this number: its first byte counts, and the seven others were drawn
abbrev pub nonce_with : (ℕ → ℕ → List ℕ) → ℕ → ℕ → List ℕ
nonce_with drawn node number = number % 256 ∷ drawn node number

-- a Nonce Report has that nonce
abbrev pub IsOffer : (ℕ → ℕ → List ℕ) → Offer → Type 0
IsOffer drawn offer = offer.nonce ≡ nonce_with drawn offer.node offer.number

-- a message of a node opens to this for that nonce
abbrev pub IsOpening : List ℕ → (ℕ → ℕ → List ℕ) → Opening → Type 0
IsOpening key drawn opening =
    unsealed_at (keys_of key) (nonce_with drawn opening.node opening.number) (record { sender = opening.node; receiver = controller })
    opening.payload ≡ opening.text

-- a text is sealed for its nonce, of eight bytes, under one of the host's own
pub record IsSeal (key : List ℕ) (seal : Seal) : Type 0 where
  pub own : List ℕ
  pub own_eight : length own ≡ 8
  pub text : seal.payload ≡ sealed_text (keys_of key) own seal.ready.nonce (record { sender = controller; receiver = seal.node }) seal.ready.text

-- so it is of all that a host offered, opened and sealed
pub record UsesNonces (key : List ℕ) (drawn : ℕ → ℕ → List ℕ) (course : Course) : Type 0 where
  pub seven : (node number : ℕ) → length (drawn node number) ≡ 7
  pub offered : AllByRecursion (IsOffer drawn) course.offered
  pub opened : AllByRecursion (IsOpening key drawn) course.opened
  pub sealed : AllByRecursion (IsSeal key) course.sealed
