-- What each frame tells of the nonces that are live, and what a lock makes of that.
use Rattle.std.proofs.Common.{◌≡◌, ℕ, ◌≤◌, Bool, true, false, cond, Option, Some, None, List, ◌∷◌, ◌++◌, length, refl, ap, sym, subst, ◌∙◌, arith}
use Rattle.std.specs.Prelude.{slice_index}
use Rattle.std.specs.Option.{option_to_list}
use Rattle.std.proofs.lemmas.Bool.{le-leb}
use Rattle.s0_crypto.specs.declared.ends.SealEnds.{SealEnds}
use Rattle.s0_crypto.specs.declared.key_pair.Keys.{Keys}
use Rattle.s0_crypto.specs.Seal.{code_of}
use Rattle.s0_crypto.proofs.OpeningLemmas.{good_from_seals}
use Rattle.s0_session.specs.declared.account.Account.{Account}
use Rattle.s0_session.specs.Nonces.{nonce_given, after_spend, nonce_spent}
use Rattle.s0_session.specs.Sending.{taken_from, taken}
use Rattle.inclusion.specs.declared.message.Message.{Message}
use Rattle.inclusion.specs.declared.message.Message.TheVariants.{SchemeGet, SchemeReport, NonceGet, NonceReport, Sealed, Other}
use Rattle.s0_crypto.specs.Sealing.{keys_of, sealed_text}
use Rattle.inclusion.specs.Sealing.{sealer_by, sent_by}
use Rattle.inclusion.specs.Messages.{message_of, nonce_named, scheme_report, nonce_get, nonce_report, key_verify}
use Rattle.inclusion.specs.Joining.{Joining, Joined, joiner_takes, takes_message, tells_scheme, gives_nonce, takes_nonce, takes_key, takes_for, silent}
use Rattle.inclusion.specs.Including.{to_host}
use Rattle.air_frames.specs.declared.frame.Heading.{Heading}
use Rattle.air_frames.specs.declared.frame.Heading.TheVariants.{Outward, Homeward}
use Rattle.include_world.proofs.AirFacts.{Each}
use Rattle.include_world.proofs.KeyFacts.{OutIs, OneKey, Sets, report_is, seals_text, the_key, no_some, takes_it, holds_on}
use Rattle.proof_include.proofs.NearFacts.{Way, way_give, way_taken, way_all}

-- a payload is the Verify of a lock that has the key, sealed for a nonce of the host that is live while the lock is not secure
pub record Verifies (key : List ℕ) (node : ℕ) (secure : Bool) (lock : Joining) (account : Account) (payload : List ℕ) : Type 0 where
  pub own : List ℕ
  pub nonce : List ℕ
  pub eight : length own ≡ 8
  pub text : payload ≡ sealed_text (keys_of key) own nonce (to_host node) key_verify
  pub has : lock.key ≡ Some key
  pub done : lock.sealing.pending ≡ None
  pub live : secure ≡ false → (account.live ≡ Some nonce) × (account.given ≤ lock.sealing.seen)

abbrev pub HomeShows : List ℕ → ℕ → Bool → Joining → Account → List ℕ → Message → Type 0
HomeShows key node secure lock account payload Sealed = Verifies key node secure lock account payload
HomeShows key node secure lock account payload (NonceReport nonce) = Unit {0}
HomeShows key node secure lock account payload SchemeGet = Unit {0}
HomeShows key node secure lock account payload SchemeReport = Unit {0}
HomeShows key node secure lock account payload NonceGet = Unit {0}
HomeShows key node secure lock account payload Other = Unit {0}

abbrev pub OutShows : Bool → Account → Message → Type 0
OutShows secure account (NonceReport nonce) = secure ≡ false → account.live ≡ Some nonce
OutShows secure account Sealed = Unit {0}
OutShows secure account SchemeGet = Unit {0}
OutShows secure account SchemeReport = Unit {0}
OutShows secure account NonceGet = Unit {0}
OutShows secure account Other = Unit {0}

abbrev pub Shows : List ℕ → ℕ → Bool → Joining → Account → Heading → List ℕ → Type 0
Shows key node secure lock account Homeward payload = HomeShows key node secure lock account payload (message_of payload)
Shows key node secure lock account Outward payload = OutShows secure account (message_of payload)

-- a lock is of its node, and a Verify waits only where it has the key
abbrev pub Waiting : List ℕ → Option (List ℕ) → Option (List ℕ) → Type 0
Waiting key None pending = pending ≡ None
Waiting key (Some k) None = Unit {0}
Waiting key (Some k) (Some plain) = plain ≡ key_verify

-- what a lock and what is told of it
pub record Ready (key : List ℕ) (node : ℕ) (seen : ℕ) (secure : Bool) (lock : Joining) (account : Account) : Type 0 where
  pub ends : lock.sealing.ends ≡ to_host node
  pub waiting : Waiting key lock.key lock.sealing.pending
  pub sent : secure ≡ true → lock.sealing.pending ≡ None
  pub out : Way account lock.sealing.seen
  pub home : lock.key ≡ None → Way lock.given seen

-- messages that are sent show nothing
home_scheme : (key : List ℕ) (node : ℕ) (secure : Bool) (lock : Joining) (account : Account) → HomeShows key node secure lock account scheme_report (message_of scheme_report)
unfolding message_of
home_scheme key node secure lock account = tt

home_asks : (key : List ℕ) (node : ℕ) (secure : Bool) (lock : Joining) (account : Account) → HomeShows key node secure lock account nonce_get (message_of nonce_get)
unfolding message_of
home_asks key node secure lock account = tt

home_if : (key : List ℕ) (node : ℕ) (secure : Bool) (lock : Joining) (account : Account) (payload nonce : List ℕ) (b : Bool) → HomeShows key node secure lock account payload (cond b (NonceReport nonce) Other)
home_if key node secure lock account payload nonce true = tt
home_if key node secure lock account payload nonce false = tt

home_reports : (key : List ℕ) (node : ℕ) (secure : Bool) (lock : Joining) (account : Account) (nonce : List ℕ) → HomeShows key node secure lock account (nonce_report nonce) (message_of (nonce_report nonce))
home_reports key node secure lock account nonce =
    let r = report_is nonce in
    subst (λ (m : Message). HomeShows key node secure lock account (nonce_report nonce) m) (sym r.1) (home_if key node secure lock account (nonce_report nonce) nonce r.0)

-- what is sealed is a Security message
long_sealed : (rest : List ℕ) → 20 ≤ length (0x98 ∷ 0x81 ∷ rest) → message_of (0x98 ∷ 0x81 ∷ rest) ≡ Sealed
unfolding message_of
long_sealed rest long = rw (le-leb 2 (length (0x98 ∷ 0x81 ∷ rest)) (omega (arith, long)), le-leb 20 (length (0x98 ∷ 0x81 ∷ rest)) long) refl

pub message_of_sealed : (keys : Keys) (own nonce : List ℕ) (ends : SealEnds) (plain : List ℕ) → length own ≡ 8 → message_of (sealed_text keys own nonce ends plain) ≡ Sealed
message_of_sealed keys own nonce ends plain eight =
    let s = seals_text keys own nonce ends plain in
    let long = (good_from_seals keys own nonce ends plain (sealed_text keys own nonce ends plain) eight s).coded.long in
    ap message_of s.layout ∙ long_sealed (own ++ (s.cipher_text ++ slice_index nonce 0 ∷ code_of keys (own ++ nonce) ends s.cipher_text)) (subst (λ (l : List ℕ). 20 ≤ length l) s.layout long)

-- a lock took a payload
pub record Turns (key : List ℕ) (node seen : ℕ) (secure : Bool) (lock : Joining) (account : Account) (did : Joined) : Type 0 where
  pub ready : Ready key node seen secure did.joiner account
  pub keeps : (h : Heading) (payload : List ℕ) → Shows key node secure lock account h payload → Shows key node secure did.joiner account h payload
  pub shows : Each (Shows key node secure did.joiner account Homeward) did.replies

-- frames show the same of a lock whose key, whose pending text and whose count stay
home_kept : (key : List ℕ) (node : ℕ) (secure : Bool) (old new : Joining) (account : Account) → (old.key ≡ Some key → new.key ≡ Some key) → (old.key ≡ Some key → old.sealing.pending ≡ None → new.sealing.pending ≡ None)
    → (account.given ≤ old.sealing.seen → account.given ≤ new.sealing.seen)
    → (payload : List ℕ) (m : Message) → HomeShows key node secure old account payload m → HomeShows key node secure new account payload m
home_kept key node secure old new account k p s payload SchemeGet t = tt
home_kept key node secure old new account k p s payload SchemeReport t = tt
home_kept key node secure old new account k p s payload NonceGet t = tt
home_kept key node secure old new account k p s payload (NonceReport nonce) t = tt
home_kept key node secure old new account k p s payload Sealed t =
    record { own = t.own; nonce = t.nonce; eight = t.eight; text = t.text; has = k t.has; done = p t.has t.done; live = λ no. ((t.live no).0, s (t.live no).1) }
home_kept key node secure old new account k p s payload Other t = tt

kept : (key : List ℕ) (node : ℕ) (secure : Bool) (old new : Joining) (account : Account) → (old.key ≡ Some key → new.key ≡ Some key) → (old.key ≡ Some key → old.sealing.pending ≡ None → new.sealing.pending ≡ None)
    → (account.given ≤ old.sealing.seen → account.given ≤ new.sealing.seen)
    → (h : Heading) (payload : List ℕ) → Shows key node secure old account h payload → Shows key node secure new account h payload
kept key node secure old new account k p s Outward payload t = t
kept key node secure old new account k p s Homeward payload t = home_kept key node secure old new account k p s payload (message_of payload) t

module _ (key : List ℕ) (node seen : ℕ) (secure : Bool) (lock : Joining) (account : Account) (ready : Ready key node seen secure lock account) (one : OneKey key lock.key)
    (secured : secure ≡ true → lock.key ≡ Some key) where
  rests : Turns key node seen secure lock account (silent lock)
  rests = record { ready = ready; keeps = λ h payload t. t; shows = tt }

  tells_turns : (o : Option (List ℕ)) → Turns key node seen secure lock account (tells_scheme lock o)
  tells_turns None = record { ready = ready; keeps = λ h payload t. t; shows = (home_scheme key node secure lock account, tt) }
  tells_turns (Some k) = rests

  gives_turns : (drawn : List ℕ) → length drawn ≡ 8 → Turns key node seen secure lock account (gives_nonce lock drawn)
  gives_turns drawn eight = record {
    ready = record { ends = ready.ends; waiting = ready.waiting; sent = ready.sent; out = ready.out; home = λ none. way_give lock.given seen drawn eight (ready.home none) };
    keeps = kept key node secure lock (gives_nonce lock drawn).joiner account (λ e. e) (λ e f. f) (λ e. e);
    shows = (home_reports key node secure (gives_nonce lock drawn).joiner account (nonce_given lock.given drawn), tt);
  }

  -- for the live nonce of the host it seals what waits
  nonce_by : (nonce drawn k : List ℕ) → length drawn ≡ 8 → lock.key ≡ Some k → OutShows secure account (NonceReport nonce) → (p : Option (List ℕ)) → lock.sealing.pending ≡ p
      → (o : Option ℕ) → taken_from p lock.sealing.seen (slice_index nonce 0) ≡ o
      → Turns key node seen secure lock account (record { joiner = record lock { sealing = sealer_by lock.sealing o }; replies = option_to_list (sent_by lock.sealing (keys_of k) nonce drawn o p) })
  nonce_by nonce drawn k eight has told None e None f = record { ready = ready; keeps = λ h payload t. t; shows = tt }
  nonce_by nonce drawn k eight has told None e (Some s) f = absurd (no_some refl f)
  nonce_by nonce drawn k eight has told (Some plain) e None f = record { ready = ready; keeps = λ h payload t. t; shows = tt }
  nonce_by nonce drawn k eight has told (Some plain) e (Some s) f =
      let keyed : lock.key ≡ Some key = the_key key lock.key k one has in
      let same : k ≡ key = let both : Some k ≡ Some key = sym has ∙ keyed in cc in
      let insecure : secure ≡ false = not_true secure (λ t. no_some (ready.sent t) e) in
      let live = told insecure in
      let all : s ≡ account.given = let both : Some s ≡ Some account.given = sym f ∙ way_taken account lock.sealing.seen nonce ready.out live in cc in
      let is_verify : plain ≡ key_verify = waits plain e k has in
      let new : Joining = record lock { sealing = sealer_by lock.sealing (Some s) } in
      let text : List ℕ = sealed_text (keys_of k) drawn nonce lock.sealing.ends plain in
      let v : Verifies key node secure (record lock { sealing = sealer_by lock.sealing (Some s) }) account (sealed_text (keys_of k) drawn nonce lock.sealing.ends plain) = record {
        own = drawn;
        nonce = nonce;
        eight = eight;
        text = ap (λ (x : List ℕ). sealed_text (keys_of x) drawn nonce lock.sealing.ends plain) same ∙ (ap (λ (x : SealEnds). sealed_text (keys_of key) drawn nonce x plain) ready.ends
            ∙ ap (λ (x : List ℕ). sealed_text (keys_of key) drawn nonce (to_host node) x) is_verify);
        has = keyed;
        done = refl;
        live = λ no. (told no, omega (arith, all));
      } in
      record {
        ready = record {
          ends = ready.ends;
          waiting = subst (λ (o : Option (List ℕ)). Waiting key o None) (sym has) tt;
          sent = λ t. refl;
          out = subst (λ (n : ℕ). Way account n) (sym all) (way_all account lock.sealing.seen nonce ready.out live);
          home = ready.home;
        };
        keeps = kept key node secure lock (record lock { sealing = sealer_by lock.sealing (Some s) }) account (λ x. x) (λ x y. refl) (λ x. omega (arith, all));
        shows = (
          subst (λ (m : Message). HomeShows key node secure (record lock { sealing = sealer_by lock.sealing (Some s) }) account (sealed_text (keys_of k) drawn nonce lock.sealing.ends plain) m)
              (sym (message_of_sealed (keys_of k) drawn nonce lock.sealing.ends plain eight)) v,
          tt,
        );
      }
    where
      not_true : (b : Bool) → (b ≡ true → ⊥) → b ≡ false
      not_true true f = absurd (f refl)
      not_true false f = refl

      waits_by : (o p : Option (List ℕ)) (plain x : List ℕ) → o ≡ Some x → p ≡ Some plain → Waiting key o p → plain ≡ key_verify
      waits_by None p plain x a b w = absurd (no_some refl a)
      waits_by (Some y) None plain x a b w = absurd (no_some refl b)
      waits_by (Some y) (Some z) plain x a b w = let same : z ≡ plain = cc in sym same ∙ w

      waits : (plain : List ℕ) → lock.sealing.pending ≡ Some plain → (x : List ℕ) → lock.key ≡ Some x → plain ≡ key_verify
      waits plain b x a = waits_by lock.key lock.sealing.pending plain x a b ready.waiting

  nonce_turns : (nonce drawn : List ℕ) → length drawn ≡ 8 → OutShows secure account (NonceReport nonce) → (o : Option (List ℕ)) → lock.key ≡ o → Turns key node seen secure lock account (takes_nonce lock nonce drawn o)
  nonce_turns nonce drawn eight told None e = rests
  nonce_turns nonce drawn eight told (Some k) e = nonce_by nonce drawn k eight e told lock.sealing.pending refl (taken lock.sealing (slice_index nonce 0)) refl

  key_turns : (given : Account) → secure ≡ false → lock.key ≡ None → Turns key node seen secure lock account (takes_key (record lock { given = given }) (Some key))
  key_turns given insecure none = record {
    ready = record { ends = ready.ends; waiting = refl; sent = λ t. absurd (let no : true ≡ false = sym t ∙ insecure in cc); out = ready.out; home = λ e. absurd (no_some e refl) };
    keeps = kept key node secure lock (takes_key (record lock { given = given }) (Some key)).joiner account (λ e. refl) (λ e f. absurd (no_some none e)) (λ e. e);
    shows = (home_asks key node secure (takes_key (record lock { given = given }) (Some key)).joiner account, tt);
  }

  spent_turns : (given : Account) → lock.key ≡ Some key → Turns key node seen secure lock account (silent (record lock { given = given }))
  spent_turns given has = record {
    ready = record { ends = ready.ends; waiting = ready.waiting; sent = ready.sent; out = ready.out; home = λ e. absurd (no_some e has) };
    keeps = kept key node secure lock (record lock { given = given }) account (λ e. e) (λ e f. f) (λ e. e);
    shows = tt;
  }

  insecure_by : (b : Bool) → (b ≡ true → lock.key ≡ Some key) → lock.key ≡ None → b ≡ false
  insecure_by true f none = absurd (no_some none (f refl))
  insecure_by false f none = refl

  sealed_turns : (payload : List ℕ) → length key ≡ 16 → lock.node ≡ node → Sets key node lock payload → (o : Option (List ℕ)) → lock.key ≡ o
      → Turns key node seen secure lock account (takes_for (record lock { given = after_spend lock.given (nonce_named payload) }) payload (nonce_spent lock.given (nonce_named payload)) o)
  sealed_turns payload sixteen is_node s None e =
      subst (λ (did : Joined). Turns key node seen secure lock account did) (sym (takes_it key node lock payload sixteen is_node e s))
      (key_turns (after_spend lock.given (nonce_named payload)) (insecure_by secure secured e) e)
  sealed_turns payload sixteen is_node s (Some k) e =
      subst (λ (did : Joined). Turns key node seen secure lock account did) (sym (holds_on (record lock { given = after_spend lock.given (nonce_named payload) }) payload k (nonce_spent lock.given (nonce_named payload))))
      (spent_turns (after_spend lock.given (nonce_named payload)) (the_key key lock.key k one e))

  message_turns : (payload drawn : List ℕ) → length drawn ≡ 8 → length key ≡ 16 → lock.node ≡ node → (m : Message) → OutIs key node lock payload m → OutShows secure account m
      → Turns key node seen secure lock account (takes_message lock payload drawn m)
  message_turns payload drawn eight sixteen is_node SchemeGet o t = tells_turns lock.key
  message_turns payload drawn eight sixteen is_node SchemeReport o t = rests
  message_turns payload drawn eight sixteen is_node NonceGet o t = gives_turns drawn eight
  message_turns payload drawn eight sixteen is_node (NonceReport nonce) o t = nonce_turns nonce drawn eight t lock.key refl
  message_turns payload drawn eight sixteen is_node Sealed o t = sealed_turns payload sixteen is_node o lock.key refl
  message_turns payload drawn eight sixteen is_node Other o t = rests

  pub lock_turns : (payload drawn : List ℕ) → length drawn ≡ 8 → length key ≡ 16 → lock.node ≡ node → OutIs key node lock payload (message_of payload) → OutShows secure account (message_of payload)
      → Turns key node seen secure lock account (joiner_takes lock payload drawn)
  unfolding joiner_takes
  lock_turns payload drawn eight sixteen is_node o t = message_turns payload drawn eight sixteen is_node (message_of payload) o t
