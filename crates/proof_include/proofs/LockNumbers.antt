-- How many nonces a lock gives, and that it spends none that the host did not take.
use Rattle.std.proofs.Common.{◌≡◌, ℕ, ◌+◌, ◌%◌, ◌≤◌, Bool, true, false, cond, eqb, leb, ◌&&◌, Option, Some, None, List, [], ◌∷◌, length, take, drop, refl, ap, ◌∙◌, inl, inr, ◌⊎◌, length-drop, arith}
use Rattle.std.specs.Prelude.{slice_index, option_and_then}
use Rattle.std.specs.Option.{option_to_list}
use Rattle.std.proofs.lemmas.Bool.{eqb-true, and_right}
use Rattle.s0_crypto.specs.declared.key_pair.Keys.{Keys}
use Rattle.s0_crypto.specs.declared.ends.SealEnds.{SealEnds}
use Rattle.s0_session.specs.declared.account.Account.{Account}
use Rattle.s0_session.specs.Nonces.{nonce_given, after_spend, nonce_spent, live_after, answer_from, given_from}
use Rattle.s0_session.specs.Sending.{Sending, taken}
use Rattle.inclusion.specs.declared.message.Message.{Message}
use Rattle.inclusion.specs.declared.message.Message.TheVariants.{SchemeGet, SchemeReport, NonceGet, NonceReport, Sealed, Other}
use Rattle.s0_crypto.specs.Sealing.{keys_of, sealed_text, unsealed_at}
use Rattle.inclusion.specs.Sealing.{sent_by}
use Rattle.inclusion.specs.Messages.{message_of, nonce_named, scheme_report, nonce_get, nonce_report, temporary_key, key_set_in}
use Rattle.inclusion.specs.Joining.{Joining, Joined, joiner_takes, takes_message, tells_scheme, gives_nonce, takes_nonce, takes_key, takes_for, from_host, silent}
use Rattle.air_frames.specs.declared.frame.Heading.TheVariants.{Outward, Homeward}
use Rattle.air_frames.specs.Nonces.{nonce_in}
use Rattle.include_world.proofs.AirFacts.{Each}
use Rattle.proof_include.proofs.NearFacts.{Way, Alive, way_give}
use Rattle.proof_include.proofs.ShowFacts.{message_of_sealed}
use Rattle.proof_include.proofs.Stages.{scheme_told, nonce_asked}
use Rattle.proof_include.proofs.Numbers.{byte_in, OfByte, Near_number, Sends}

-- what a lock did: it gave a nonce, or gave none
pub record Gives (taken : ℕ) (old : Account) (did : Joined) : Type 0 where
  pub nonce : List ℕ
  pub eight : length nonce ≡ 8
  pub is : slice_index nonce 0 ≡ did.joiner.given.given % 256
  pub more : old.given ≤ did.joiner.given.given
  pub one : did.joiner.given.given ≤ old.given + 1
  pub way : Way did.joiner.given taken
  pub sent : did.replies ≡ nonce_report nonce ∷ []

pub record Keeps (taken : ℕ) (old : Account) (did : Joined) : Type 0 where
  pub given : did.joiner.given.given ≡ old.given
  pub way : Way did.joiner.given taken
  pub sends : Each (Sends taken Homeward) did.replies

abbrev pub Turns : ℕ → Account → Joined → Type 0
Turns taken old did = Gives taken old did ⊎ Keeps taken old did

home_plain : (taken : ℕ) (payload : List ℕ) (m : Message) → message_of payload ≡ m → byte_in Homeward payload m ≡ None → nonce_in payload ≡ None → Sends taken Homeward payload
home_plain taken payload m e p n = (ap (byte_in Homeward payload) e ∙ p, n)

-- a nonce that is given has the first byte of its number
given_by : (live : Option (List ℕ)) (given seen : ℕ) (drawn : List ℕ) → length drawn ≡ 8 → Alive given seen live
    → (length (answer_from live given drawn) ≡ 8) × (slice_index (answer_from live given drawn) 0 ≡ given_from live given % 256) × (given ≤ given_from live given) × (given_from live given ≤ given + 1)
given_by None given seen drawn eight a = (omega (arith, length-drop 1 drawn, eight), refl, omega arith, omega arith)
given_by (Some nonce) given seen drawn eight a = (a.2, a.1, omega arith, omega arith)

-- what names a nonce near to the last one spends it only where the host took it
spend_if : (given seen first : ℕ) (nonce : List ℕ) (b : Bool) → eqb (slice_index nonce 0) first ≡ b → slice_index nonce 0 ≡ given % 256 → seen ≤ given → Near_number given seen first
    → Alive given seen (Some nonce) → Alive given seen (cond b None (Some nonce))
spend_if given seen first nonce true e is within near a =
    let same = eqb-true (slice_index nonce 0) first e in
    omega (arith, same, is, within, near.1, near.2, near.3)
spend_if given seen first nonce false e is within near a = a

spend_by : (given seen first : ℕ) (live : Option (List ℕ)) → seen ≤ given → Near_number given seen first → Alive given seen live → Alive given seen (live_after live first)
spend_by given seen first None within near a = a
spend_by given seen first (Some nonce) within near a = spend_if given seen first nonce (eqb (slice_index nonce 0) first) refl a.1 within near a

way_spends : (account : Account) (seen first : ℕ) → Way account seen → Near_number account.given seen first → Way (after_spend account first) seen
way_spends account seen first w near = record { within = w.within; ahead = w.ahead; alive = spend_by account.given seen first account.live w.within near w.alive }

sealed_shows_none : (keys : Keys) (own nonce : List ℕ) (ends : SealEnds) (plain : List ℕ) → nonce_in (sealed_text keys own nonce ends plain) ≡ None
unfolding sealed_text
sealed_shows_none keys own nonce ends plain =
    ap (λ (b : Bool). cond b (Some (take 8 (drop 2 (sealed_text keys own nonce ends plain)))) None)
    (and_right (leb 10 (length (sealed_text keys own nonce ends plain))) (eqb (slice_index (sealed_text keys own nonce ends plain) 0) 0x98 && eqb (slice_index (sealed_text keys own nonce ends plain) 1) 0x80) refl)

module _ (lock : Joining) (seen : ℕ) (way : Way lock.given seen) where
  rests : Turns seen lock.given (silent lock)
  rests = inr (record { given = refl; way = way; sends = tt })

  tells_turns : (o : Option (List ℕ)) → Turns seen lock.given (tells_scheme lock o)
  tells_turns None = inr (record { given = refl; way = way; sends = (home_plain seen scheme_report SchemeReport scheme_told refl refl, tt) })
  tells_turns (Some k) = rests

  gives_turns : (drawn : List ℕ) → length drawn ≡ 8 → Turns seen lock.given (gives_nonce lock drawn)
  gives_turns drawn eight =
      let g = given_by lock.given.live lock.given.given seen drawn eight way.alive in
      inl (record { nonce = nonce_given lock.given drawn; eight = g.0; is = g.1; more = g.2; one = g.3; way = way_give lock.given seen drawn eight way; sent = refl })

  sealed_sends : (keys : Keys) (sealer : Sending) (nonce drawn : List ℕ) → length drawn ≡ 8 → (o : Option ℕ) (p : Option (List ℕ)) → Each (Sends seen Homeward) (option_to_list (sent_by sealer keys nonce drawn o p))
  sealed_sends keys sealer nonce drawn eight None p = tt
  sealed_sends keys sealer nonce drawn eight (Some s) None = tt
  sealed_sends keys sealer nonce drawn eight (Some s) (Some plain) = (
    home_plain seen (sealed_text keys drawn nonce sealer.ends plain) Sealed (message_of_sealed keys drawn nonce sealer.ends plain eight) refl (sealed_shows_none keys drawn nonce sealer.ends plain),
    tt,
  )

  nonce_turns : (nonce drawn : List ℕ) → length drawn ≡ 8 → (o : Option (List ℕ)) → Turns seen lock.given (takes_nonce lock nonce drawn o)
  nonce_turns nonce drawn eight None = rests
  nonce_turns nonce drawn eight (Some k) =
      inr (record { given = refl; way = way; sends = sealed_sends (keys_of k) lock.sealing nonce drawn eight (taken lock.sealing (slice_index nonce 0)) lock.sealing.pending })

  key_turns : (payload : List ℕ) (given : Account) → given.given ≡ lock.given.given → Way given seen → (o : Option (List ℕ)) → Turns seen lock.given (takes_key (record lock { given = given }) o)
  key_turns payload given same w None = inr (record { given = same; way = w; sends = tt })
  key_turns payload given same w (Some k) = inr (record { given = same; way = w; sends = (home_plain seen nonce_get NonceGet nonce_asked refl refl, tt) })

  spent_turns : (payload : List ℕ) (given : Account) → given.given ≡ lock.given.given → Way given seen → (o k : Option (List ℕ)) → Turns seen lock.given (takes_for (record lock { given = given }) payload o k)
  spent_turns payload given same w (Some nonce) None = key_turns payload given same w (option_and_then key_set_in (unsealed_at (keys_of temporary_key) nonce (from_host lock.node) payload))
  spent_turns payload given same w None None = inr (record { given = same; way = w; sends = tt })
  spent_turns payload given same w None (Some k) = inr (record { given = same; way = w; sends = tt })
  spent_turns payload given same w (Some nonce) (Some k) = inr (record { given = same; way = w; sends = tt })

  message_turns : (payload drawn : List ℕ) → length drawn ≡ 8 → (m : Message) → OfByte (byte_in Outward payload m) (λ byte. Near_number lock.given.given seen byte)
      → Turns seen lock.given (takes_message lock payload drawn m)
  message_turns payload drawn eight SchemeGet near = tells_turns lock.key
  message_turns payload drawn eight SchemeReport near = rests
  message_turns payload drawn eight NonceGet near = gives_turns drawn eight
  message_turns payload drawn eight (NonceReport nonce) near = nonce_turns nonce drawn eight lock.key
  message_turns payload drawn eight Sealed near =
      spent_turns payload (after_spend lock.given (nonce_named payload)) refl (way_spends lock.given seen (nonce_named payload) way near) (nonce_spent lock.given (nonce_named payload)) lock.key
  message_turns payload drawn eight Other near = rests

  pub lock_turns : (payload drawn : List ℕ) → length drawn ≡ 8 → OfByte (byte_in Outward payload (message_of payload)) (λ byte. Near_number lock.given.given seen byte)
      → Turns seen lock.given (joiner_takes lock payload drawn)
  unfolding joiner_takes
  lock_turns payload drawn eight near = message_turns payload drawn eight (message_of payload) near
