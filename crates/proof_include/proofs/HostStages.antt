-- How far an exchange comes by what the host makes of a message.
use Rattle.std.proofs.Common.{◌≡◌, ◌⊎◌, ℕ, ◌<◌, ◌≤◌, Bool, true, false, cond, Option, Some, None, List, [], ◌∷◌, length, set, refl, ap, sym, subst, ◌∙◌, inl, inr, arith}
use Rattle.std.specs.Prelude.{slice_index}
use Rattle.std.specs.Option.{option_to_list, option_map}
use Rattle.std.proofs.lemmas.List.{get_or-set_same}
use Rattle.std.proofs.lemmas.Bool.{eq-eqb}
use Rattle.s0_session.specs.Nonces.{account_of, nonce_given}
use Rattle.s0_session.specs.Sending.{seen_after, taken_from, taken}
use Rattle.inclusion.specs.declared.message.Message.{Message}
use Rattle.inclusion.specs.declared.message.Message.TheVariants.{SchemeGet, SchemeReport, NonceGet, NonceReport, Sealed, Other}
use Rattle.inclusion.specs.declared.exchange.Exchange.{Exchange}
use Rattle.s0_crypto.specs.Sealing.{keys_of, sealed_text}
use Rattle.inclusion.specs.Sealing.{sealer_by, sent_by}
use Rattle.inclusion.specs.Messages.{message_of, nonce_get, nonce_report, key_set, temporary_key}
use Rattle.inclusion.specs.Joining.{Joining}
use Rattle.inclusion.specs.Including.{Including, Included, quiet, is_secure, asking, asks, has_asked, takes_scheme, gives_nonce, takes_nonce, takes_sealed, takes_message, includer_takes, is_with, verified, spending, sealing}
use Rattle.air_frames.specs.declared.frame.Heading.TheVariants.{Outward, Homeward}
use Rattle.include_world.proofs.KeyFacts.{HomeIs, no_some}
use Rattle.proof_include.proofs.NearFacts.{way_taken, given_eight}
use Rattle.proof_include.proofs.ShowFacts.{HomeShows, Ready, message_of_sealed}
use Rattle.proof_include.proofs.HostShows.{seen_of, verify_opens}
use Rattle.proof_include.proofs.Stages.{Stage, SchemeAsked, SchemeTold, NonceAsked, NonceTold, KeySet, KeyTaken, NonceGiven, VerifySent, rank, heading_of, IsFor, LockAt, HostAt, nonce_asked, nonce_told}

-- the exchange under way with a node, with so many ticks left at least
pub record Under (node left : ℕ) (s : Stage) (host : Including) : Type 0 where
  pub exchange : Exchange
  pub under : host.exchange ≡ Some exchange
  pub with_it : exchange.node ≡ node
  pub time : left ≤ exchange.left
  pub at : HostAt s exchange

-- it goes on to a later stage by one reply
pub record HostGoes (node left : ℕ) (s : Stage) (lock : Joining) (did : Included) : Type 0 where
  pub next : Stage
  pub less : rank next < rank s
  pub under : Under node left next did.includer
  pub lock_at : LockAt next lock
  pub reply : List ℕ
  pub sent : did.replies ≡ reply ∷ []
  pub out : heading_of next ≡ Outward
  pub is_for : IsFor next (message_of reply)

-- or it waits as before, for another message than this
pub record HostWaits (node left : ℕ) (s : Stage) (m : Message) (did : Included) : Type 0 where
  pub under : Under node left s did.includer
  pub other : heading_of s ≡ Homeward → IsFor s m → ⊥

abbrev pub HostStep : ℕ → ℕ → Stage → Message → Joining → Included → Type 0
HostStep node left s m lock did = (is_secure did.includer node ≡ true) ⊎ (HostGoes node left s lock did ⊎ HostWaits node left s m did)

module _ (key : List ℕ) (node left : ℕ) (lock : Joining) (old : Including) (x : Exchange) (key_is : old.key ≡ key) (secures : node < length old.secure)
    (ready : Ready key node (seen_of old node) (is_secure old node) lock (account_of old.book node)) (insecure : is_secure old node ≡ false)
    (under : old.exchange ≡ Some x) (with_it : x.node ≡ node) (time : left ≤ x.left) (counts : (x.sender.seen ≡ seen_of old node) × (x.asked ≡ false → x.sender.pending ≡ None))
    (payload drawn : List ℕ) (eight : length drawn ≡ 8) where
  stays : (s : Stage) → HostAt s x → (host : Including) → host.exchange ≡ old.exchange → Under node left s host
  stays s at host same = record { exchange = x; under = same ∙ under; with_it = with_it; time = time; at = at }

  waits : (s : Stage) (m : Message) → HostAt s x → (heading_of s ≡ Homeward → IsFor s m → ⊥) → (did : Included) → did.includer.exchange ≡ old.exchange → HostStep node left s m lock did
  waits s m at other did same = inr (inr (record { under = stays s at did.includer same; other = other }))

  -- a scheme is told
  asks_under : (takes_scheme old).includer.exchange ≡ Some (asking old.key x x.asked)
  asks_under = ap (option_map (λ (y : Exchange). asking old.key y y.asked)) under

  scheme_goes : (s : Stage) → rank NonceAsked < rank s → x.asked ≡ false → lock.key ≡ None → HostGoes node left s lock (takes_scheme old)
  scheme_goes s less asked none = record {
    next = NonceAsked;
    less = less;
    under = record {
      exchange = asking old.key x false;
      under = asks_under ∙ ap (λ (b : Bool). Some (asking old.key x b)) asked;
      with_it = with_it;
      time = time;
      at = (key_set old.key, refl);
    };
    lock_at = none;
    reply = nonce_get;
    sent = ap (λ (o : Option Exchange). asks (has_asked o)) under ∙ ap asks asked;
    out = refl;
    is_for = nonce_asked;
  }

  asking_node : (b : Bool) → (asking old.key x b).node ≡ node
  asking_node true = with_it
  asking_node false = with_it

  asking_left : (b : Bool) → left ≤ (asking old.key x b).left
  asking_left true = time
  asking_left false = time

  asking_waits : (b : Bool) → (p : (plain : List ℕ) × (x.sender.pending ≡ Some plain)) → (plain : List ℕ) × ((asking old.key x b).sender.pending ≡ Some plain)
  asking_waits true p = p
  asking_waits false p = (key_set old.key, refl)

  scheme_waits : (s : Stage) → HostAt s (asking old.key x x.asked) → (heading_of s ≡ Homeward → IsFor s SchemeReport → ⊥) → HostStep node left s SchemeReport lock (takes_scheme old)
  scheme_waits s at other = inr (inr (record {
    under = record { exchange = asking old.key x x.asked; under = asks_under; with_it = asking_node x.asked; time = asking_left x.asked; at = at };
    other = other;
  }))

  -- a nonce is asked
  gives_goes : (p : (plain : List ℕ) × (lock.sealing.pending ≡ Some plain)) → HostGoes node left KeyTaken lock (gives_nonce old node drawn)
  gives_goes p = record {
    next = NonceGiven;
    less = omega arith;
    under = stays NonceGiven tt (gives_nonce old node drawn).includer refl;
    lock_at = p;
    reply = nonce_report (nonce_given (account_of old.book node) drawn);
    sent = refl;
    out = refl;
    is_for = (nonce_given (account_of old.book node) drawn, nonce_told (nonce_given (account_of old.book node) drawn) (given_eight (account_of old.book node) lock.sealing.seen drawn eight ready.out));
  }

  -- a nonce is given
  set_by : (s : Stage) (nonce plain : List ℕ) → rank KeySet < rank s → lock.key ≡ None → lock.given.live ≡ Some nonce → (p : Option (List ℕ)) → p ≡ Some plain → (o : Option ℕ) → taken_from p x.sender.seen (slice_index nonce 0) ≡ o
      → HostGoes node left s lock (record {
        includer = record old { seen = set old.seen x.node (sealer_by x.sender o).seen; exchange = Some (let y : Exchange = record x { sender = sealer_by x.sender o } in y) };
        replies = option_to_list (sent_by x.sender (keys_of temporary_key) nonce drawn o p);
      })
  set_by s nonce plain less none live None e o f = absurd (no_some refl e)
  set_by s nonce plain less none live (Some y) e None f =
      absurd (no_some f (ap (λ (n : ℕ). seen_after n (slice_index nonce 0)) counts.0 ∙ way_taken lock.given (seen_of old node) nonce (ready.home none) live))
  set_by s nonce plain less none live (Some y) e (Some n) f = record {
    next = KeySet;
    less = less;
    under = record { exchange = (let z : Exchange = record x { sender = sealer_by x.sender (Some n) } in z); under = refl; with_it = with_it; time = time; at = tt };
    lock_at = none;
    reply = sealed_text (keys_of temporary_key) drawn nonce x.sender.ends y;
    sent = refl;
    out = refl;
    is_for = message_of_sealed (keys_of temporary_key) drawn nonce x.sender.ends y eight;
  }

  takes_it : (nonce : List ℕ) → takes_nonce old old.exchange nonce drawn ≡ takes_nonce old (Some x) nonce drawn
  takes_it nonce = ap (λ (o : Option Exchange). takes_nonce old o nonce drawn) under

  set_goes : (s : Stage) (nonce : List ℕ) → rank KeySet < rank s → lock.key ≡ None → (lock.key ≡ None → lock.given.live ≡ Some nonce) → (p : (plain : List ℕ) × (x.sender.pending ≡ Some plain))
      → HostStep node left s (NonceReport nonce) lock (takes_nonce old old.exchange nonce drawn)
  set_goes s nonce less none told p = subst (λ (d : Included). HostStep node left s (NonceReport nonce) lock d) (sym (takes_it nonce))
      (inr (inl (set_by s nonce p.0 less none (told none) x.sender.pending p.1 (taken x.sender (slice_index nonce 0)) refl)))

  nonce_waits : (s : Stage) (nonce : List ℕ) → HostAt s (sealing x nonce) → (heading_of s ≡ Homeward → IsFor s (NonceReport nonce) → ⊥)
      → HostStep node left s (NonceReport nonce) lock (takes_nonce old old.exchange nonce drawn)
  nonce_waits s nonce at other = subst (λ (d : Included). HostStep node left s (NonceReport nonce) lock d) (sym (takes_it nonce))
      (inr (inr (record { under = record { exchange = sealing x nonce; under = refl; with_it = with_it; time = time; at = at }; other = other })))

  -- a Verify is heard
  verify_ends : (s : Stage) → HomeShows key node (is_secure old node) lock (account_of old.book node) payload Sealed → HostStep node left s Sealed lock (quiet (takes_sealed old node payload))
  verify_ends s v = inl (ap (λ (b : Bool). is_secure (verified (spending old node payload) node b) node) (verify_opens key node lock old payload key_is insecure v) ∙ get_or-set_same old.secure node true false secures)

  host_by : (s : Stage) → HostAt s x → LockAt s lock → (m : Message) → HomeIs key lock m → HomeShows key node (is_secure old node) lock (account_of old.book node) payload m
      → HostStep node left s m lock (takes_message old node payload drawn m)
  host_by SchemeAsked at lock_at SchemeGet h v = waits SchemeAsked SchemeGet at (λ h f. absurd (let no : Outward ≡ Homeward = h in cc)) (quiet old) refl
  host_by SchemeAsked at lock_at SchemeReport h v = inr (inl (scheme_goes SchemeAsked (omega arith) at lock_at))
  host_by SchemeAsked at lock_at NonceGet h v = waits SchemeAsked NonceGet at (λ h f. absurd (let no : Outward ≡ Homeward = h in cc)) (gives_nonce old node drawn) refl
  host_by SchemeAsked at lock_at (NonceReport nonce) h v = nonce_waits SchemeAsked nonce at (λ h f. absurd (let no : Outward ≡ Homeward = h in cc))
  host_by SchemeAsked at lock_at Sealed h v = verify_ends SchemeAsked v
  host_by SchemeAsked at lock_at Other h v = waits SchemeAsked Other at (λ h f. absurd (let no : Outward ≡ Homeward = h in cc)) (quiet old) refl
  host_by SchemeTold at lock_at SchemeGet h v = waits SchemeTold SchemeGet at (λ h f. absurd (let no : SchemeGet ≡ SchemeReport = f in cc)) (quiet old) refl
  host_by SchemeTold at lock_at SchemeReport h v = inr (inl (scheme_goes SchemeTold (omega arith) at lock_at))
  host_by SchemeTold at lock_at NonceGet h v = waits SchemeTold NonceGet at (λ h f. absurd (let no : NonceGet ≡ SchemeReport = f in cc)) (gives_nonce old node drawn) refl
  host_by SchemeTold at lock_at (NonceReport nonce) h v = nonce_waits SchemeTold nonce at (λ h f. absurd (let no : NonceReport nonce ≡ SchemeReport = f in cc))
  host_by SchemeTold at lock_at Sealed h v = verify_ends SchemeTold v
  host_by SchemeTold at lock_at Other h v = waits SchemeTold Other at (λ h f. absurd (let no : Other ≡ SchemeReport = f in cc)) (quiet old) refl
  host_by NonceAsked at lock_at SchemeGet h v = waits NonceAsked SchemeGet at (λ h f. absurd (let no : Outward ≡ Homeward = h in cc)) (quiet old) refl
  host_by NonceAsked at lock_at SchemeReport h v = scheme_waits NonceAsked (asking_waits x.asked at) (λ h f. absurd (let no : Outward ≡ Homeward = h in cc))
  host_by NonceAsked at lock_at NonceGet h v = waits NonceAsked NonceGet at (λ h f. absurd (let no : Outward ≡ Homeward = h in cc)) (gives_nonce old node drawn) refl
  host_by NonceAsked at lock_at (NonceReport nonce) h v = set_goes NonceAsked nonce (omega arith) lock_at h at
  host_by NonceAsked at lock_at Sealed h v = verify_ends NonceAsked v
  host_by NonceAsked at lock_at Other h v = waits NonceAsked Other at (λ h f. absurd (let no : Outward ≡ Homeward = h in cc)) (quiet old) refl
  host_by NonceTold at lock_at SchemeGet h v = waits NonceTold SchemeGet at (λ h f. absurd (let no : SchemeGet ≡ NonceReport f.0 = f.1 in cc)) (quiet old) refl
  host_by NonceTold at lock_at SchemeReport h v = scheme_waits NonceTold (asking_waits x.asked at) (λ h f. absurd (let no : SchemeReport ≡ NonceReport f.0 = f.1 in cc))
  host_by NonceTold at lock_at NonceGet h v = waits NonceTold NonceGet at (λ h f. absurd (let no : NonceGet ≡ NonceReport f.0 = f.1 in cc)) (gives_nonce old node drawn) refl
  host_by NonceTold at lock_at (NonceReport nonce) h v = set_goes NonceTold nonce (omega arith) lock_at h at
  host_by NonceTold at lock_at Sealed h v = verify_ends NonceTold v
  host_by NonceTold at lock_at Other h v = waits NonceTold Other at (λ h f. absurd (let no : Other ≡ NonceReport f.0 = f.1 in cc)) (quiet old) refl
  host_by KeySet at lock_at SchemeGet h v = waits KeySet SchemeGet at (λ h f. absurd (let no : Outward ≡ Homeward = h in cc)) (quiet old) refl
  host_by KeySet at lock_at SchemeReport h v = scheme_waits KeySet tt (λ h f. absurd (let no : Outward ≡ Homeward = h in cc))
  host_by KeySet at lock_at NonceGet h v = waits KeySet NonceGet at (λ h f. absurd (let no : Outward ≡ Homeward = h in cc)) (gives_nonce old node drawn) refl
  host_by KeySet at lock_at (NonceReport nonce) h v = nonce_waits KeySet nonce tt (λ h f. absurd (let no : Outward ≡ Homeward = h in cc))
  host_by KeySet at lock_at Sealed h v = verify_ends KeySet v
  host_by KeySet at lock_at Other h v = waits KeySet Other at (λ h f. absurd (let no : Outward ≡ Homeward = h in cc)) (quiet old) refl
  host_by KeyTaken at lock_at SchemeGet h v = waits KeyTaken SchemeGet at (λ h f. absurd (let no : SchemeGet ≡ NonceGet = f in cc)) (quiet old) refl
  host_by KeyTaken at lock_at SchemeReport h v = scheme_waits KeyTaken tt (λ h f. absurd (let no : SchemeReport ≡ NonceGet = f in cc))
  host_by KeyTaken at lock_at NonceGet h v = inr (inl (gives_goes lock_at))
  host_by KeyTaken at lock_at (NonceReport nonce) h v = nonce_waits KeyTaken nonce tt (λ h f. absurd (let no : NonceReport nonce ≡ NonceGet = f in cc))
  host_by KeyTaken at lock_at Sealed h v = verify_ends KeyTaken v
  host_by KeyTaken at lock_at Other h v = waits KeyTaken Other at (λ h f. absurd (let no : Other ≡ NonceGet = f in cc)) (quiet old) refl
  host_by NonceGiven at lock_at SchemeGet h v = waits NonceGiven SchemeGet at (λ h f. absurd (let no : Outward ≡ Homeward = h in cc)) (quiet old) refl
  host_by NonceGiven at lock_at SchemeReport h v = scheme_waits NonceGiven tt (λ h f. absurd (let no : Outward ≡ Homeward = h in cc))
  host_by NonceGiven at lock_at NonceGet h v = waits NonceGiven NonceGet at (λ h f. absurd (let no : Outward ≡ Homeward = h in cc)) (gives_nonce old node drawn) refl
  host_by NonceGiven at lock_at (NonceReport nonce) h v = nonce_waits NonceGiven nonce tt (λ h f. absurd (let no : Outward ≡ Homeward = h in cc))
  host_by NonceGiven at lock_at Sealed h v = verify_ends NonceGiven v
  host_by NonceGiven at lock_at Other h v = waits NonceGiven Other at (λ h f. absurd (let no : Outward ≡ Homeward = h in cc)) (quiet old) refl
  host_by VerifySent at lock_at SchemeGet h v = waits VerifySent SchemeGet at (λ h f. absurd (let no : SchemeGet ≡ Sealed = f in cc)) (quiet old) refl
  host_by VerifySent at lock_at SchemeReport h v = scheme_waits VerifySent tt (λ h f. absurd (let no : SchemeReport ≡ Sealed = f in cc))
  host_by VerifySent at lock_at NonceGet h v = waits VerifySent NonceGet at (λ h f. absurd (let no : NonceGet ≡ Sealed = f in cc)) (gives_nonce old node drawn) refl
  host_by VerifySent at lock_at (NonceReport nonce) h v = nonce_waits VerifySent nonce tt (λ h f. absurd (let no : NonceReport nonce ≡ Sealed = f in cc))
  host_by VerifySent at lock_at Sealed h v = verify_ends VerifySent v
  host_by VerifySent at lock_at Other h v = waits VerifySent Other at (λ h f. absurd (let no : Other ≡ Sealed = f in cc)) (quiet old) refl

  takes_if : (s : Stage) → HostAt s x → LockAt s lock → HomeIs key lock (message_of payload) → HomeShows key node (is_secure old node) lock (account_of old.book node) payload (message_of payload)
      → (b : Bool) → b ≡ true → HostStep node left s (message_of payload) lock (cond b (takes_message old node payload drawn (message_of payload)) (quiet old))
  takes_if s at lock_at h v true e = host_by s at lock_at (message_of payload) h v
  takes_if s at lock_at h v false e = absurd cc

  pub host_goes : (s : Stage) → HostAt s x → LockAt s lock → HomeIs key lock (message_of payload) → HomeShows key node (is_secure old node) lock (account_of old.book node) payload (message_of payload)
      → HostStep node left s (message_of payload) lock (includer_takes old node payload drawn)
  unfolding includer_takes
  host_goes s at lock_at h v = takes_if s at lock_at h v (is_with old.exchange node) (ap (λ (o : Option Exchange). is_with o node) under ∙ eq-eqb x.node node with_it)
