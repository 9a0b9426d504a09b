-- How far an exchange has come: the frame that carries it on, and what either end waits for.
use Rattle.std.proofs.Common.{◌≡◌, ◌⊎◌, ℕ, ◌<◌, Bool, false, Option, Some, None, List, [], ◌∷◌, length, refl, ap, sym, subst, ◌∙◌, inl, inr, arith}
use Rattle.std.specs.Prelude.{slice_index}
use Rattle.std.specs.Option.{option_to_list}
use Rattle.std.proofs.lemmas.Bool.{eq-eqb, le-leb}
use Rattle.s0_session.specs.declared.account.Account.{Account}
use Rattle.s0_session.specs.Nonces.{nonce_given, after_give, after_spend, nonce_spent}
use Rattle.s0_session.specs.Sending.{taken_from, taken}
use Rattle.inclusion.specs.declared.message.Message.{Message}
use Rattle.inclusion.specs.declared.message.Message.TheVariants.{SchemeGet, SchemeReport, NonceGet, NonceReport, Sealed, Other}
use Rattle.inclusion.specs.declared.exchange.Exchange.{Exchange}
use Rattle.s0_crypto.specs.Sealing.{keys_of, sealed_text}
use Rattle.inclusion.specs.Sealing.{sealer_by, sent_by}
use Rattle.inclusion.specs.Messages.{message_of, nonce_named, scheme_get, scheme_report, nonce_get, nonce_report, key_verify}
use Rattle.inclusion.specs.Joining.{Joining, Joined, joiner_takes, takes_message, tells_scheme, gives_nonce, takes_nonce, takes_key, takes_for, takes_sealed, silent}
use Rattle.air_frames.specs.declared.frame.Heading.{Heading}
use Rattle.air_frames.specs.declared.frame.Heading.TheVariants.{Outward, Homeward}
use Rattle.include_world.proofs.KeyFacts.{OutIs, OneKey, Sets, no_some, takes_it}
use Rattle.proof_include.proofs.NearFacts.{way_taken, given_eight}
use Rattle.proof_include.proofs.ShowFacts.{OutShows, Ready, Waiting, message_of_sealed}

-- what was done last: the host asked for the scheme, the lock told it, and so on
pub data Stage : Type 0 where
  SchemeAsked : Stage
  SchemeTold : Stage
  NonceAsked : Stage
  NonceTold : Stage
  KeySet : Stage
  KeyTaken : Stage
  NonceGiven : Stage
  VerifySent : Stage

-- how many ticks it takes from there
abbrev pub rank : Stage → ℕ
rank SchemeAsked = 8
rank SchemeTold = 7
rank NonceAsked = 6
rank NonceTold = 5
rank KeySet = 4
rank KeyTaken = 3
rank NonceGiven = 2
rank VerifySent = 1

-- which way its frame goes, and what that carries
abbrev pub heading_of : Stage → Heading
heading_of SchemeAsked = Outward
heading_of SchemeTold = Homeward
heading_of NonceAsked = Outward
heading_of NonceTold = Homeward
heading_of KeySet = Outward
heading_of KeyTaken = Homeward
heading_of NonceGiven = Outward
heading_of VerifySent = Homeward

abbrev pub IsFor : Stage → Message → Type 0
IsFor SchemeAsked m = m ≡ SchemeGet
IsFor SchemeTold m = m ≡ SchemeReport
IsFor NonceAsked m = m ≡ NonceGet
IsFor NonceTold m = (nonce : List ℕ) × (m ≡ NonceReport nonce)
IsFor KeySet m = m ≡ Sealed
IsFor KeyTaken m = m ≡ NonceGet
IsFor NonceGiven m = (nonce : List ℕ) × (m ≡ NonceReport nonce)
IsFor VerifySent m = m ≡ Sealed

-- what the lock has then: no key, or a Verify that waits
abbrev pub LockAt : Stage → Joining → Type 0
LockAt SchemeAsked lock = lock.key ≡ None
LockAt SchemeTold lock = lock.key ≡ None
LockAt NonceAsked lock = lock.key ≡ None
LockAt NonceTold lock = lock.key ≡ None
LockAt KeySet lock = lock.key ≡ None
LockAt KeyTaken lock = (plain : List ℕ) × (lock.sealing.pending ≡ Some plain)
LockAt NonceGiven lock = (plain : List ℕ) × (lock.sealing.pending ≡ Some plain)
LockAt VerifySent lock = Unit {0}

-- what the host has then: a nonce to ask, or a key that waits
abbrev pub HostAt : Stage → Exchange → Type 0
HostAt SchemeAsked exchange = exchange.asked ≡ false
HostAt SchemeTold exchange = exchange.asked ≡ false
HostAt NonceAsked exchange = (plain : List ℕ) × (exchange.sender.pending ≡ Some plain)
HostAt NonceTold exchange = (plain : List ℕ) × (exchange.sender.pending ≡ Some plain)
HostAt KeySet exchange = Unit {0}
HostAt KeyTaken exchange = Unit {0}
HostAt NonceGiven exchange = Unit {0}
HostAt VerifySent exchange = Unit {0}

-- messages that are sent
pub scheme_told : message_of scheme_report ≡ SchemeReport
unfolding message_of
scheme_told = refl

pub scheme_asked : message_of scheme_get ≡ SchemeGet
unfolding message_of
scheme_asked = refl

pub nonce_asked : message_of nonce_get ≡ NonceGet
unfolding message_of
nonce_asked = refl

pub nonce_told : (nonce : List ℕ) → length nonce ≡ 8 → message_of (nonce_report nonce) ≡ NonceReport nonce
unfolding message_of
nonce_told nonce eight = rw (le-leb 2 (length (nonce_report nonce)) (omega arith), eq-eqb (length (nonce_report nonce)) 10 (omega (arith, eight))) refl

-- ---- what a lock makes of a message

-- it goes on to a later stage by one reply
pub record LockGoes (s : Stage) (did : Joined) : Type 0 where
  pub next : Stage
  pub less : rank next < rank s
  pub at : LockAt next did.joiner
  pub host : (exchange : Exchange) → HostAt s exchange → HostAt next exchange
  pub reply : List ℕ
  pub sent : did.replies ≡ reply ∷ []
  pub home : heading_of next ≡ Homeward
  pub is_for : IsFor next (message_of reply)

-- or it waits as before, for another message than this
pub record LockWaits (s : Stage) (m : Message) (did : Joined) : Type 0 where
  pub at : LockAt s did.joiner
  pub other : heading_of s ≡ Outward → IsFor s m → ⊥

abbrev pub LockStep : Stage → Message → Joined → Type 0
LockStep s m did = LockGoes s did ⊎ LockWaits s m did

module _ (key : List ℕ) (node seen : ℕ) (secure : Bool) (lock : Joining) (account : Account) (ready : Ready key node seen secure lock account) (one : OneKey key lock.key)
    (insecure : secure ≡ false) (payload drawn : List ℕ) (eight : length drawn ≡ 8) (sixteen : length key ≡ 16) (is_node : lock.node ≡ node) where
  waits : (s : Stage) (m : Message) → LockAt s lock → (heading_of s ≡ Outward → IsFor s m → ⊥) → LockStep s m (silent lock)
  waits s m at other = inr (record { at = at; other = other })

  given_stays : (s : Stage) (given : Account) → LockAt s lock → LockAt s (record lock { given = given })
  given_stays SchemeAsked given at = at
  given_stays SchemeTold given at = at
  given_stays NonceAsked given at = at
  given_stays NonceTold given at = at
  given_stays KeySet given at = at
  given_stays KeyTaken given at = at
  given_stays NonceGiven given at = at
  given_stays VerifySent given at = at

  gives : (s : Stage) → LockAt s lock → (heading_of s ≡ Outward → IsFor s NonceGet → ⊥) → LockStep s NonceGet (gives_nonce lock drawn)
  gives s at other = inr (record { at = given_stays s (after_give lock.given drawn) at; other = other })

  -- the host asks for the scheme
  tells_it : lock.key ≡ None → tells_scheme lock lock.key ≡ (let d : Joined = record { joiner = lock; replies = scheme_report ∷ [] } in d)
  tells_it none = ap (tells_scheme lock) none

  scheme_goes : lock.key ≡ None → LockGoes SchemeAsked (tells_scheme lock lock.key)
  scheme_goes none = subst (λ (d : Joined). LockGoes SchemeAsked d) (sym (tells_it none)) (record {
    next = SchemeTold;
    less = omega arith;
    at = none;
    host = λ x h. h;
    reply = scheme_report;
    sent = refl;
    home = refl;
    is_for = scheme_told;
  })

  tells_same : (s : Stage) → LockAt s lock → (heading_of s ≡ Outward → IsFor s SchemeGet → ⊥) → (o : Option (List ℕ)) → LockStep s SchemeGet (tells_scheme lock o)
  tells_same s at other None = inr (record { at = at; other = other })
  tells_same s at other (Some k) = inr (record { at = at; other = other })

  -- the host asks for a nonce
  nonce_goes : lock.key ≡ None → LockGoes NonceAsked (gives_nonce lock drawn)
  nonce_goes none = record {
    next = NonceTold;
    less = omega arith;
    at = none;
    host = λ x h. h;
    reply = nonce_report (nonce_given lock.given drawn);
    sent = refl;
    home = refl;
    is_for = (nonce_given lock.given drawn, nonce_told (nonce_given lock.given drawn) (given_eight lock.given seen drawn eight (ready.home none)));
  }

  -- the host sets the key
  key_goes : (s : Stage) → rank KeyTaken < rank s → Sets key node lock payload → lock.key ≡ None → LockGoes s (takes_sealed lock payload)
  key_goes s less sets none =
      let takes : takes_sealed lock payload ≡ takes_key (record lock { given = after_spend lock.given (nonce_named payload) }) (Some key)
      = ap (takes_for (record lock { given = after_spend lock.given (nonce_named payload) }) payload (nonce_spent lock.given (nonce_named payload))) none ∙ takes_it key node lock payload sixteen is_node none sets in
      subst (λ (d : Joined). LockGoes s d) (sym takes) (record {
        next = KeyTaken;
        less = less;
        at = (key_verify, refl);
        host = λ x h. tt;
        reply = nonce_get;
        sent = refl;
        home = refl;
        is_for = nonce_asked;
      })

  -- a lock that has the key spends the nonce alone
  spends_it : (s : Stage) → LockAt s lock → (heading_of s ≡ Outward → IsFor s Sealed → ⊥) → (o : Option (List ℕ)) (n : Option (List ℕ)) → (o ≡ None → ⊥)
      → LockStep s Sealed (takes_for (record lock { given = after_spend lock.given (nonce_named payload) }) payload n o)
  spends_it s at other None n some = absurd (some refl)
  spends_it s at other (Some k) None some = inr (record { at = given_stays s (after_spend lock.given (nonce_named payload)) at; other = other })
  spends_it s at other (Some k) (Some x) some = inr (record { at = given_stays s (after_spend lock.given (nonce_named payload)) at; other = other })

  -- a Verify waits only with a key
  has_by : (o p : Option (List ℕ)) (plain : List ℕ) → p ≡ Some plain → Waiting key o p → o ≡ None → ⊥
  has_by None p plain e w none = no_some w e
  has_by (Some k) p plain e w none = no_some none refl

  has_key : (plain : List ℕ) → lock.sealing.pending ≡ Some plain → lock.key ≡ None → ⊥
  has_key plain e = has_by lock.key lock.sealing.pending plain e ready.waiting

  -- the host gives the live nonce
  verify_by : (s : Stage) (nonce : List ℕ) → rank VerifySent < rank s → account.live ≡ Some nonce → (p : Option (List ℕ)) (plain : List ℕ) → p ≡ Some plain → lock.sealing.pending ≡ p
      → (k : List ℕ) (o : Option ℕ) → taken_from p lock.sealing.seen (slice_index nonce 0) ≡ o
      → LockGoes s (record { joiner = record lock { sealing = sealer_by lock.sealing o }; replies = option_to_list (sent_by lock.sealing (keys_of k) nonce drawn o p) })
  verify_by s nonce less live None plain e f k o g = absurd (no_some refl e)
  verify_by s nonce less live (Some x) plain e f k None g =
      absurd (no_some g (way_taken account lock.sealing.seen nonce ready.out live))
  verify_by s nonce less live (Some x) plain e f k (Some n) g = record {
    next = VerifySent;
    less = less;
    at = tt;
    host = λ y h. tt;
    reply = sealed_text (keys_of k) drawn nonce lock.sealing.ends x;
    sent = refl;
    home = refl;
    is_for = message_of_sealed (keys_of k) drawn nonce lock.sealing.ends x eight;
  }

  verify_goes : (s : Stage) (nonce plain : List ℕ) → rank VerifySent < rank s → lock.sealing.pending ≡ Some plain → OutShows secure account (NonceReport nonce) → (o : Option (List ℕ)) → lock.key ≡ o
      → LockGoes s (takes_nonce lock nonce drawn o)
  verify_goes s nonce plain less e told None none = absurd (has_key plain e none)
  verify_goes s nonce plain less e told (Some k) has =
      verify_by s nonce less (told insecure) lock.sealing.pending plain e refl k (taken lock.sealing (slice_index nonce 0)) refl

  -- a nonce that a lock without a key hears, or one whose Verify is sent
  nonce_none : (s : Stage) (nonce : List ℕ) → LockAt s lock → (heading_of s ≡ Outward → IsFor s (NonceReport nonce) → ⊥) → lock.key ≡ None → LockStep s (NonceReport nonce) (takes_nonce lock nonce drawn lock.key)
  nonce_none s nonce at other none = subst (λ (d : Joined). LockStep s (NonceReport nonce) d) (sym (ap (takes_nonce lock nonce drawn) none)) (inr (record { at = at; other = other }))

  nonce_past : (nonce : List ℕ) (o : Option (List ℕ)) → LockStep VerifySent (NonceReport nonce) (takes_nonce lock nonce drawn o)
  nonce_past nonce None = inr (record { at = tt; other = λ h f. absurd (let no : Homeward ≡ Outward = h in cc) })
  nonce_past nonce (Some k) = inr (record { at = tt; other = λ h f. absurd (let no : Homeward ≡ Outward = h in cc) })

  sealed_past : (o n : Option (List ℕ)) → Sets key node lock payload → lock.key ≡ o → LockStep VerifySent Sealed (takes_for (record lock { given = after_spend lock.given (nonce_named payload) }) payload n o)
  sealed_past o n sets e = inr (record { at = tt; other = λ h f. absurd (let no : Homeward ≡ Outward = h in cc) })

  lock_by : (s : Stage) → LockAt s lock → (m : Message) → OutIs key node lock payload m → OutShows secure account m → LockStep s m (takes_message lock payload drawn m)
  lock_by SchemeAsked at SchemeGet o t = inl (scheme_goes at)
  lock_by SchemeAsked at SchemeReport o t = waits SchemeAsked SchemeReport at (λ h f. absurd (let no : SchemeReport ≡ SchemeGet = f in cc))
  lock_by SchemeAsked at NonceGet o t = gives SchemeAsked at (λ h f. absurd (let no : NonceGet ≡ SchemeGet = f in cc))
  lock_by SchemeAsked at (NonceReport nonce) o t = nonce_none SchemeAsked nonce at (λ h f. absurd (let no : NonceReport nonce ≡ SchemeGet = f in cc)) at
  lock_by SchemeAsked at Sealed o t = inl (key_goes SchemeAsked (omega arith) o at)
  lock_by SchemeAsked at Other o t = waits SchemeAsked Other at (λ h f. absurd (let no : Other ≡ SchemeGet = f in cc))
  lock_by SchemeTold at SchemeGet o t = tells_same SchemeTold at (λ h f. absurd (let no : Homeward ≡ Outward = h in cc)) lock.key
  lock_by SchemeTold at SchemeReport o t = waits SchemeTold SchemeReport at (λ h f. absurd (let no : Homeward ≡ Outward = h in cc))
  lock_by SchemeTold at NonceGet o t = gives SchemeTold at (λ h f. absurd (let no : Homeward ≡ Outward = h in cc))
  lock_by SchemeTold at (NonceReport nonce) o t = nonce_none SchemeTold nonce at (λ h f. absurd (let no : Homeward ≡ Outward = h in cc)) at
  lock_by SchemeTold at Sealed o t = inl (key_goes SchemeTold (omega arith) o at)
  lock_by SchemeTold at Other o t = waits SchemeTold Other at (λ h f. absurd (let no : Homeward ≡ Outward = h in cc))
  lock_by NonceAsked at SchemeGet o t = tells_same NonceAsked at (λ h f. absurd (let no : SchemeGet ≡ NonceGet = f in cc)) lock.key
  lock_by NonceAsked at SchemeReport o t = waits NonceAsked SchemeReport at (λ h f. absurd (let no : SchemeReport ≡ NonceGet = f in cc))
  lock_by NonceAsked at NonceGet o t = inl (nonce_goes at)
  lock_by NonceAsked at (NonceReport nonce) o t = nonce_none NonceAsked nonce at (λ h f. absurd (let no : NonceReport nonce ≡ NonceGet = f in cc)) at
  lock_by NonceAsked at Sealed o t = inl (key_goes NonceAsked (omega arith) o at)
  lock_by NonceAsked at Other o t = waits NonceAsked Other at (λ h f. absurd (let no : Other ≡ NonceGet = f in cc))
  lock_by NonceTold at SchemeGet o t = tells_same NonceTold at (λ h f. absurd (let no : Homeward ≡ Outward = h in cc)) lock.key
  lock_by NonceTold at SchemeReport o t = waits NonceTold SchemeReport at (λ h f. absurd (let no : Homeward ≡ Outward = h in cc))
  lock_by NonceTold at NonceGet o t = gives NonceTold at (λ h f. absurd (let no : Homeward ≡ Outward = h in cc))
  lock_by NonceTold at (NonceReport nonce) o t = nonce_none NonceTold nonce at (λ h f. absurd (let no : Homeward ≡ Outward = h in cc)) at
  lock_by NonceTold at Sealed o t = inl (key_goes NonceTold (omega arith) o at)
  lock_by NonceTold at Other o t = waits NonceTold Other at (λ h f. absurd (let no : Homeward ≡ Outward = h in cc))
  lock_by KeySet at SchemeGet o t = tells_same KeySet at (λ h f. absurd (let no : SchemeGet ≡ Sealed = f in cc)) lock.key
  lock_by KeySet at SchemeReport o t = waits KeySet SchemeReport at (λ h f. absurd (let no : SchemeReport ≡ Sealed = f in cc))
  lock_by KeySet at NonceGet o t = gives KeySet at (λ h f. absurd (let no : NonceGet ≡ Sealed = f in cc))
  lock_by KeySet at (NonceReport nonce) o t = nonce_none KeySet nonce at (λ h f. absurd (let no : NonceReport nonce ≡ Sealed = f in cc)) at
  lock_by KeySet at Sealed o t = inl (key_goes KeySet (omega arith) o at)
  lock_by KeySet at Other o t = waits KeySet Other at (λ h f. absurd (let no : Other ≡ Sealed = f in cc))
  lock_by KeyTaken at SchemeGet o t = tells_same KeyTaken at (λ h f. absurd (let no : Homeward ≡ Outward = h in cc)) lock.key
  lock_by KeyTaken at SchemeReport o t = waits KeyTaken SchemeReport at (λ h f. absurd (let no : Homeward ≡ Outward = h in cc))
  lock_by KeyTaken at NonceGet o t = gives KeyTaken at (λ h f. absurd (let no : Homeward ≡ Outward = h in cc))
  lock_by KeyTaken at (NonceReport nonce) o t = inl (verify_goes KeyTaken nonce at.0 (omega arith) at.1 t lock.key refl)
  lock_by KeyTaken at Sealed o t = spends_it KeyTaken at (λ h f. absurd (let no : Homeward ≡ Outward = h in cc)) lock.key (nonce_spent lock.given (nonce_named payload)) (has_key at.0 at.1)
  lock_by KeyTaken at Other o t = waits KeyTaken Other at (λ h f. absurd (let no : Homeward ≡ Outward = h in cc))
  lock_by NonceGiven at SchemeGet o t = tells_same NonceGiven at (λ h f. absurd (let no : SchemeGet ≡ NonceReport f.0 = f.1 in cc)) lock.key
  lock_by NonceGiven at SchemeReport o t = waits NonceGiven SchemeReport at (λ h f. absurd (let no : SchemeReport ≡ NonceReport f.0 = f.1 in cc))
  lock_by NonceGiven at NonceGet o t = gives NonceGiven at (λ h f. absurd (let no : NonceGet ≡ NonceReport f.0 = f.1 in cc))
  lock_by NonceGiven at (NonceReport nonce) o t = inl (verify_goes NonceGiven nonce at.0 (omega arith) at.1 t lock.key refl)
  lock_by NonceGiven at Sealed o t = spends_it NonceGiven at (λ h f. absurd (let no : Sealed ≡ NonceReport f.0 = f.1 in cc)) lock.key (nonce_spent lock.given (nonce_named payload)) (has_key at.0 at.1)
  lock_by NonceGiven at Other o t = waits NonceGiven Other at (λ h f. absurd (let no : Other ≡ NonceReport f.0 = f.1 in cc))
  lock_by VerifySent at SchemeGet o t = tells_same VerifySent at (λ h f. absurd (let no : Homeward ≡ Outward = h in cc)) lock.key
  lock_by VerifySent at SchemeReport o t = waits VerifySent SchemeReport at (λ h f. absurd (let no : Homeward ≡ Outward = h in cc))
  lock_by VerifySent at NonceGet o t = gives VerifySent at (λ h f. absurd (let no : Homeward ≡ Outward = h in cc))
  lock_by VerifySent at (NonceReport nonce) o t = nonce_past nonce lock.key
  lock_by VerifySent at Sealed o t = sealed_past lock.key (nonce_spent lock.given (nonce_named payload)) o refl
  lock_by VerifySent at Other o t = waits VerifySent Other at (λ h f. absurd (let no : Homeward ≡ Outward = h in cc))

  pub lock_goes : (s : Stage) → LockAt s lock → OutIs key node lock payload (message_of payload) → OutShows secure account (message_of payload) → LockStep s (message_of payload) (joiner_takes lock payload drawn)
  unfolding joiner_takes
  lock_goes s at o t = lock_by s at (message_of payload) o t
