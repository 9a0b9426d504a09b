-- What each frame between a lock and the host tells of the lock's key, through all that either end takes.
use Rattle.std.proofs.Common.{◌≡◌, ◌⊎◌, ℕ, ◌+◌, ◌-◌, Bool, true, false, cond, eqb, Option, Some, None, List, ◌∷◌, ◌++◌, length, refl, ap, sym, subst, ◌∙◌, inr, ⊎_elim, append_assoc, length-append, arith}
use Rattle.std.specs.Prelude.{slice_index, option_and_then}
use Rattle.std.specs.Option.{option_to_list}
use Rattle.std.proofs.lemmas.List.{get_or_at}
use Rattle.std.proofs.lemmas.Bool.{eq-eqb, le-leb}
use Rattle.s0_crypto.specs.declared.key_pair.Keys.{Keys}
use Rattle.s0_crypto.specs.declared.ends.SealEnds.{SealEnds}
use Rattle.s0_crypto.specs.Seal.{Seals, code_of}
use Rattle.s0_crypto.specs.Opening.{sender_nonce_in}
use Rattle.s0_crypto.proofs.OpeningLemmas.{good_from_seals, length-code_of, one_plain_text}
use Rattle.s0_crypto.proofs.MessageLemmas.{length_of_layout, nonce_of_layout}
use Rattle.s0_session.specs.declared.account.Account.{Account}
use Rattle.s0_session.specs.Nonces.{nonce_given, answer_from, nonce_spent, after_spend, with_first}
use Rattle.inclusion.specs.declared.message.Message.{Message}
use Rattle.inclusion.specs.declared.message.Message.TheVariants.{SchemeGet, SchemeReport, NonceGet, NonceReport, Sealed, Other}
use Rattle.s0_crypto.specs.Sealing.{keys_of, unsealed_at, sealed_text, cipher_text_of}
use Rattle.inclusion.specs.Sealing.{sent_for}
use Rattle.inclusion.specs.Messages.{message_of, nonce_named, scheme_get, scheme_report, nonce_get, nonce_report, key_set, key_set_in, temporary_key}
use Rattle.inclusion.specs.Joining.{Joining, Joined, joiner_takes, tells_scheme, gives_nonce, takes_nonce, takes_key, takes_for, takes_message, from_host, silent}
use Rattle.s0_crypto.proofs.SealingLemmas.{opened_is}
use Rattle.air_frames.specs.declared.frame.Heading.{Heading}
use Rattle.air_frames.specs.declared.frame.Heading.TheVariants.{Outward, Homeward}
use Rattle.include_world.proofs.AirFacts.{Each}

-- a payload is the key, sealed for a nonce of the lock that is live while the lock has no key
pub record Sets (key : List ℕ) (node : ℕ) (lock : Joining) (payload : List ℕ) : Type 0 where
  pub own : List ℕ
  pub nonce : List ℕ
  pub eight : length own ≡ 8
  pub text : payload ≡ sealed_text (keys_of temporary_key) own nonce (from_host node) (key_set key)
  pub live : lock.key ≡ None → lock.given.live ≡ Some nonce

-- what a message of the lock tells: a nonce is live while it has no key; and what is sealed shows that it has the key
abbrev pub HomeIs : List ℕ → Joining → Message → Type 0
HomeIs key lock (NonceReport nonce) = lock.key ≡ None → lock.given.live ≡ Some nonce
HomeIs key lock Sealed = lock.key ≡ Some key
HomeIs key lock SchemeGet = Unit {0}
HomeIs key lock SchemeReport = Unit {0}
HomeIs key lock NonceGet = Unit {0}
HomeIs key lock Other = Unit {0}

-- what a message of the host tells: what is sealed sets the key
abbrev pub OutIs : List ℕ → ℕ → Joining → List ℕ → Message → Type 0
OutIs key node lock payload Sealed = Sets key node lock payload
OutIs key node lock payload (NonceReport nonce) = Unit {0}
OutIs key node lock payload SchemeGet = Unit {0}
OutIs key node lock payload SchemeReport = Unit {0}
OutIs key node lock payload NonceGet = Unit {0}
OutIs key node lock payload Other = Unit {0}

-- what a frame tells
abbrev pub Tells : List ℕ → ℕ → Joining → Heading → List ℕ → Type 0
Tells key node lock Homeward payload = HomeIs key lock (message_of payload)
Tells key node lock Outward payload = OutIs key node lock payload (message_of payload)

-- it has that key, or none
abbrev pub OneKey : List ℕ → Option (List ℕ) → Type 0
OneKey key o = (o ≡ None) ⊎ (o ≡ Some key)

pub no_some : {A : Type 0} {x : A} {o : Option A} → o ≡ None → o ≡ Some x → ⊥
no_some e f = cc

-- ---- a lock with the key: every frame is as it should be

home_keyed : (key : List ℕ) (lock : Joining) → lock.key ≡ Some key → (m : Message) → HomeIs key lock m
home_keyed key lock has SchemeGet = tt
home_keyed key lock has SchemeReport = tt
home_keyed key lock has NonceGet = tt
home_keyed key lock has (NonceReport nonce) = λ none. absurd (no_some none has)
home_keyed key lock has Sealed = has
home_keyed key lock has Other = tt

out_keyed : (key : List ℕ) (node : ℕ) (old new : Joining) → new.key ≡ Some key → (payload : List ℕ) (m : Message) → OutIs key node old payload m → OutIs key node new payload m
out_keyed key node old new has payload SchemeGet o = tt
out_keyed key node old new has payload SchemeReport o = tt
out_keyed key node old new has payload NonceGet o = tt
out_keyed key node old new has payload (NonceReport nonce) o = tt
out_keyed key node old new has payload Sealed o = record { own = o.own; nonce = o.nonce; eight = o.eight; text = o.text; live = λ none. absurd (no_some none has) }
out_keyed key node old new has payload Other o = tt

pub tells_keyed : (key : List ℕ) (node : ℕ) (old new : Joining) → new.key ≡ Some key → (h : Heading) (payload : List ℕ) → Tells key node old h payload → Tells key node new h payload
tells_keyed key node old new has Homeward payload t = home_keyed key new has (message_of payload)
tells_keyed key node old new has Outward payload t = out_keyed key node old new has payload (message_of payload) t

-- ---- a lock whose key, and whose live nonce while it has none, stay

abbrev StaysLive : Joining → Joining → Type 0
StaysLive old new = (nonce : List ℕ) → old.key ≡ None → old.given.live ≡ Some nonce → new.given.live ≡ Some nonce

home_same : (key : List ℕ) (old new : Joining) → new.key ≡ old.key → StaysLive old new → (m : Message) → HomeIs key old m → HomeIs key new m
home_same key old new same stays SchemeGet t = tt
home_same key old new same stays SchemeReport t = tt
home_same key old new same stays NonceGet t = tt
home_same key old new same stays (NonceReport nonce) t = λ none. stays nonce (sym same ∙ none) (t (sym same ∙ none))
home_same key old new same stays Sealed t = same ∙ t
home_same key old new same stays Other t = tt

out_same : (key : List ℕ) (node : ℕ) (old new : Joining) → new.key ≡ old.key → StaysLive old new → (payload : List ℕ) (m : Message) → OutIs key node old payload m → OutIs key node new payload m
out_same key node old new same stays payload SchemeGet o = tt
out_same key node old new same stays payload SchemeReport o = tt
out_same key node old new same stays payload NonceGet o = tt
out_same key node old new same stays payload (NonceReport nonce) o = tt
out_same key node old new same stays payload Sealed o =
    record { own = o.own; nonce = o.nonce; eight = o.eight; text = o.text; live = λ none. stays o.nonce (sym same ∙ none) (o.live (sym same ∙ none)) }
out_same key node old new same stays payload Other o = tt

tells_same : (key : List ℕ) (node : ℕ) (old new : Joining) → new.key ≡ old.key → StaysLive old new → (h : Heading) (payload : List ℕ) → Tells key node old h payload → Tells key node new h payload
tells_same key node old new same stays Homeward payload t = home_same key old new same stays (message_of payload) t
tells_same key node old new same stays Outward payload t = out_same key node old new same stays payload (message_of payload) t

-- ---- messages that are sent

home_scheme : (key : List ℕ) (lock : Joining) → HomeIs key lock (message_of scheme_report)
unfolding message_of
home_scheme key lock = tt

home_asks : (key : List ℕ) (lock : Joining) → HomeIs key lock (message_of nonce_get)
unfolding message_of
home_asks key lock = tt

pub out_scheme : (key : List ℕ) (node : ℕ) (lock : Joining) → OutIs key node lock scheme_get (message_of scheme_get)
unfolding message_of
out_scheme key node lock = tt

pub out_asks : (key : List ℕ) (node : ℕ) (lock : Joining) → OutIs key node lock nonce_get (message_of nonce_get)
unfolding message_of
out_asks key node lock = tt

home_if : (key : List ℕ) (lock : Joining) (nonce : List ℕ) (b : Bool) → lock.given.live ≡ Some nonce → HomeIs key lock (cond b (NonceReport nonce) Other)
home_if key lock nonce true live = λ none. live
home_if key lock nonce false live = tt

out_if : (key : List ℕ) (node : ℕ) (lock : Joining) (payload nonce : List ℕ) (b : Bool) → OutIs key node lock payload (cond b (NonceReport nonce) Other)
out_if key node lock payload nonce true = tt
out_if key node lock payload nonce false = tt

-- a Nonce Report of eight bytes is one, and of other lengths is nothing
pub report_is : (nonce : List ℕ) → (b : Bool) × (message_of (nonce_report nonce) ≡ cond b (NonceReport nonce) Other)
unfolding message_of
report_is nonce = (eqb (length (nonce_report nonce)) 10, rw (le-leb 2 (length (nonce_report nonce)) (omega arith)) refl)

home_reports : (key : List ℕ) (lock : Joining) (nonce : List ℕ) → lock.given.live ≡ Some nonce → HomeIs key lock (message_of (nonce_report nonce))
home_reports key lock nonce live =
    let r = report_is nonce in
    subst (λ (m : Message). HomeIs key lock m) (sym r.1) (home_if key lock nonce r.0 live)

pub out_reports : (key : List ℕ) (node : ℕ) (lock : Joining) (nonce : List ℕ) → OutIs key node lock (nonce_report nonce) (message_of (nonce_report nonce))
out_reports key node lock nonce =
    let r = report_is nonce in
    subst (λ (m : Message). OutIs key node lock (nonce_report nonce) m) (sym r.1) (out_if key node lock (nonce_report nonce) nonce r.0)

pub out_sets : (key : List ℕ) (node : ℕ) (lock : Joining) (payload : List ℕ) → Sets key node lock payload → (m : Message) → OutIs key node lock payload m
out_sets key node lock payload s SchemeGet = tt
out_sets key node lock payload s SchemeReport = tt
out_sets key node lock payload s NonceGet = tt
out_sets key node lock payload s (NonceReport nonce) = tt
out_sets key node lock payload s Sealed = s
out_sets key node lock payload s Other = tt

-- ---- the key that is set opens

-- the ninth byte from the end
named_at : (own text code : List ℕ) (first : ℕ) (bytes : List ℕ) → length own ≡ 8 → length code ≡ 8 → bytes ≡ 0x98 ∷ 0x81 ∷ (own ++ (text ++ first ∷ code)) → slice_index bytes (length bytes - 9) ≡ first
named_at own text code first bytes n c e =
    let size : length bytes ≡ length text + 19 = length_of_layout own text code first n c e in
    let regroup : 0x98 ∷ 0x81 ∷ (own ++ (text ++ first ∷ code)) ≡ (0x98 ∷ 0x81 ∷ (own ++ text)) ++ first ∷ code = ap (λ l. 0x98 ∷ 0x81 ∷ l) (sym (append_assoc own text (first ∷ code))) in
    let prefix : length (0x98 ∷ 0x81 ∷ (own ++ text)) ≡ length bytes - 9 = omega (arith, size, n, length-append own text) in
    ap (λ l. slice_index l (length bytes - 9)) (e ∙ regroup) ∙ get_or_at (0x98 ∷ 0x81 ∷ (own ++ text)) first code 0 (length bytes - 9) prefix

pub seals_text : (keys : Keys) (own nonce : List ℕ) (ends : SealEnds) (plain : List ℕ) → Seals keys own nonce ends plain (sealed_text keys own nonce ends plain)
unfolding sealed_text
seals_text keys own nonce ends plain = record { cipher_text = cipher_text_of keys own nonce plain; enciphers = refl; layout = refl }

pub named_in_sealed : (keys : Keys) (own nonce : List ℕ) (ends : SealEnds) (plain : List ℕ) → length own ≡ 8 → nonce_named (sealed_text keys own nonce ends plain) ≡ slice_index nonce 0
named_in_sealed keys own nonce ends plain n =
    let s = seals_text keys own nonce ends plain in
    named_at own s.cipher_text (code_of keys (own ++ nonce) ends s.cipher_text) (slice_index nonce 0) (sealed_text keys own nonce ends plain) n (length-code_of keys (own ++ nonce) ends s.cipher_text) s.layout

pub sealed_opens : (keys : Keys) (own nonce : List ℕ) (ends : SealEnds) (plain : List ℕ) → length own ≡ 8 → unsealed_at keys nonce ends (sealed_text keys own nonce ends plain) ≡ Some plain
sealed_opens keys own nonce ends plain n =
    let bytes : List ℕ = sealed_text keys own nonce ends plain in
    let s = seals_text keys own nonce ends plain in
    let good = good_from_seals keys own nonce ends plain (sealed_text keys own nonce ends plain) n s in
    let class : slice_index (sealed_text keys own nonce ends plain) 0 ≡ 0x98 = ap (λ l. slice_index l 0) s.layout in
    let command : slice_index (sealed_text keys own nonce ends plain) 1 ≡ 0x81 = ap (λ l. slice_index l 1) s.layout in
    let is_own : sender_nonce_in (sealed_text keys own nonce ends plain) ≡ own = nonce_of_layout own s.cipher_text (code_of keys (own ++ nonce) ends s.cipher_text) (slice_index nonce 0) n s.layout in
    let again : Seals keys (sender_nonce_in (sealed_text keys own nonce ends plain)) nonce ends plain (sealed_text keys own nonce ends plain)
    = subst (λ (o : List ℕ). Seals keys o nonce ends plain (sealed_text keys own nonce ends plain)) (sym is_own) s in
    sym (opened_is keys nonce ends (sealed_text keys own nonce ends plain) plain good.coded.long class command (named_in_sealed keys own nonce ends plain n) again
    (λ o other m t. one_plain_text keys o nonce ends plain other (sealed_text keys own nonce ends plain) m (ap length is_own ∙ n) again t))

-- the key that a Network Key Set sets
key_set_is : (key : List ℕ) → length key ≡ 16 → key_set_in (key_set key) ≡ Some key
key_set_is key sixteen = rw (le-leb 2 (length (key_set key)) (omega arith), eq-eqb (length (key_set key)) 18 (omega (arith, sixteen))) refl

-- ---- what a lock makes of a payload

-- a lock took a payload: its node stays, it has the key or none, and keeps the key that it had; all frames tell what they told, and
-- those that it sends tell what they should
pub record Moves (key : List ℕ) (node : ℕ) (lock : Joining) (did : Joined) : Type 0 where
  pub node_is : did.joiner.node ≡ lock.node
  pub one : OneKey key did.joiner.key
  pub still : lock.key ≡ Some key → did.joiner.key ≡ Some key
  pub tells : (h : Heading) (payload : List ℕ) → Tells key node lock h payload → Tells key node did.joiner h payload
  pub replies : Each (Tells key node did.joiner Homeward) did.replies

stays_silent : (key : List ℕ) (node : ℕ) (lock : Joining) → OneKey key lock.key → Moves key node lock (silent lock)
stays_silent key node lock one = record { node_is = refl; one = one; still = λ e. e; tells = λ h payload t. t; replies = tt }

tells_moves : (key : List ℕ) (node : ℕ) (lock : Joining) → OneKey key lock.key → (o : Option (List ℕ)) → Moves key node lock (tells_scheme lock o)
tells_moves key node lock one None = record { node_is = refl; one = one; still = λ e. e; tells = λ h payload t. t; replies = (home_scheme key lock, tt) }
tells_moves key node lock one (Some k) = stays_silent key node lock one

answer_live : (live : Option (List ℕ)) (given : ℕ) (drawn nonce : List ℕ) → live ≡ Some nonce → Some (answer_from live given drawn) ≡ Some nonce
answer_live live given drawn nonce e = ap (λ (o : Option (List ℕ)). Some (answer_from o given drawn)) e

gives_moves : (key : List ℕ) (node : ℕ) (lock : Joining) (drawn : List ℕ) → OneKey key lock.key → Moves key node lock (gives_nonce lock drawn)
gives_moves key node lock drawn one = record {
  node_is = refl;
  one = one;
  still = λ e. e;
  tells = tells_same key node lock (gives_nonce lock drawn).joiner refl (λ nonce none live. answer_live lock.given.live lock.given.given drawn nonce live);
  replies = (home_reports key (gives_nonce lock drawn).joiner (nonce_given lock.given drawn) refl, tt);
}

each_keyed : (key : List ℕ) (node : ℕ) (lock : Joining) → lock.key ≡ Some key → (o : Option (List ℕ)) → Each (Tells key node lock Homeward) (option_to_list o)
each_keyed key node lock has None = tt
each_keyed key node lock has (Some payload) = (home_keyed key lock has (message_of payload), tt)

-- a key that a lock has is the one key
pub the_key : (key : List ℕ) (o : Option (List ℕ)) (k : List ℕ) → OneKey key o → o ≡ Some k → o ≡ Some key
the_key key o k one e = ⊎_elim (λ none. absurd (no_some none e)) (λ same. same) one

nonce_moves : (key : List ℕ) (node : ℕ) (lock : Joining) (nonce drawn : List ℕ) → OneKey key lock.key → (o : Option (List ℕ)) → lock.key ≡ o → Moves key node lock (takes_nonce lock nonce drawn o)
nonce_moves key node lock nonce drawn one None e = stays_silent key node lock one
nonce_moves key node lock nonce drawn one (Some k) e =
    let has : lock.key ≡ Some key = the_key key lock.key k one e in
    let new : Joining = (takes_nonce lock nonce drawn (Some k)).joiner in
    record {
      node_is = refl;
      one = one;
      still = λ e. e;
      tells = tells_keyed key node lock (takes_nonce lock nonce drawn (Some k)).joiner has;
      replies = each_keyed key node (takes_nonce lock nonce drawn (Some k)).joiner has (sent_for lock.sealing (keys_of k) nonce drawn);
    }

-- a lock that has a key takes no other
pub holds_on : (lock : Joining) (payload k : List ℕ) (o : Option (List ℕ)) → takes_for lock payload o (Some k) ≡ silent lock
holds_on lock payload k None = refl
holds_on lock payload k (Some nonce) = refl

-- a lock without one takes the key
pub spends : (nonce : List ℕ) (first : ℕ) (live : Option (List ℕ)) → live ≡ Some nonce → first ≡ slice_index nonce 0 → with_first live first ≡ Some nonce
spends nonce first live e f =
    ap (λ (o : Option (List ℕ)). with_first o first) e
    ∙ ap (λ (b : Bool). cond b (Some nonce) None) (eq-eqb (slice_index nonce 0) first (sym f))

pub takes_it : (key : List ℕ) (node : ℕ) (lock : Joining) (payload : List ℕ) → length key ≡ 16 → lock.node ≡ node → lock.key ≡ None → Sets key node lock payload
    → takes_for (record lock { given = after_spend lock.given (nonce_named payload) }) payload (nonce_spent lock.given (nonce_named payload)) None
    ≡ takes_key (record lock { given = after_spend lock.given (nonce_named payload) }) (Some key)
takes_it key node lock payload sixteen is_node none s =
    let old : Joining = record lock { given = after_spend lock.given (nonce_named payload) } in
    let named : nonce_named payload ≡ slice_index s.nonce 0
    = ap nonce_named s.text ∙ named_in_sealed (keys_of temporary_key) s.own s.nonce (from_host node) (key_set key) s.eight in
    let spent : nonce_spent lock.given (nonce_named payload) ≡ Some s.nonce = spends s.nonce (nonce_named payload) lock.given.live (s.live none) named in
    let opens : unsealed_at (keys_of temporary_key) s.nonce (from_host lock.node) payload ≡ Some (key_set key)
    = ap (λ (n : ℕ). unsealed_at (keys_of temporary_key) s.nonce (from_host n) payload) is_node
    ∙ (ap (unsealed_at (keys_of temporary_key) s.nonce (from_host node)) s.text ∙ sealed_opens (keys_of temporary_key) s.own s.nonce (from_host node) (key_set key) s.eight) in
    ap (λ (o : Option (List ℕ)). takes_for (record lock { given = after_spend lock.given (nonce_named payload) }) payload o None) spent
    ∙ (ap (λ (o : Option (List ℕ)). takes_key (record lock { given = after_spend lock.given (nonce_named payload) }) (option_and_then key_set_in o)) opens
    ∙ ap (takes_key (record lock { given = after_spend lock.given (nonce_named payload) })) (key_set_is key sixteen))

key_moves : (key : List ℕ) (node : ℕ) (lock : Joining) (given : Account) → Moves key node lock (takes_key (record lock { given = given }) (Some key))
key_moves key node lock given = record {
  node_is = refl;
  one = inr refl;
  still = λ e. refl;
  tells = tells_keyed key node lock (takes_key (record lock { given = given }) (Some key)).joiner refl;
  replies = (home_asks key (takes_key (record lock { given = given }) (Some key)).joiner, tt);
}

spent_moves : (key : List ℕ) (node : ℕ) (lock : Joining) (given : Account) → OneKey key lock.key → lock.key ≡ Some key → Moves key node lock (silent (record lock { given = given }))
spent_moves key node lock given one has = record {
  node_is = refl;
  one = one;
  still = λ e. e;
  tells = tells_keyed key node lock (record lock { given = given }) has;
  replies = tt;
}

sealed_moves : (key : List ℕ) (node : ℕ) (lock : Joining) (payload : List ℕ) → length key ≡ 16 → lock.node ≡ node → OneKey key lock.key → Sets key node lock payload
    → (o : Option (List ℕ)) → lock.key ≡ o
    → Moves key node lock (takes_for (record lock { given = after_spend lock.given (nonce_named payload) }) payload (nonce_spent lock.given (nonce_named payload)) o)
sealed_moves key node lock payload sixteen is_node one s None e =
    subst (λ (did : Joined). Moves key node lock did) (sym (takes_it key node lock payload sixteen is_node e s)) (key_moves key node lock (after_spend lock.given (nonce_named payload)))
sealed_moves key node lock payload sixteen is_node one s (Some k) e =
    subst (λ (did : Joined). Moves key node lock did) (sym (holds_on (record lock { given = after_spend lock.given (nonce_named payload) }) payload k (nonce_spent lock.given (nonce_named payload))))
    (spent_moves key node lock (after_spend lock.given (nonce_named payload)) one (the_key key lock.key k one e))

message_moves : (key : List ℕ) (node : ℕ) (lock : Joining) (payload drawn : List ℕ) → length key ≡ 16 → lock.node ≡ node → OneKey key lock.key
    → (m : Message) → OutIs key node lock payload m → Moves key node lock (takes_message lock payload drawn m)
message_moves key node lock payload drawn sixteen is_node one SchemeGet o = tells_moves key node lock one lock.key
message_moves key node lock payload drawn sixteen is_node one SchemeReport o = stays_silent key node lock one
message_moves key node lock payload drawn sixteen is_node one NonceGet o = gives_moves key node lock drawn one
message_moves key node lock payload drawn sixteen is_node one (NonceReport nonce) o = nonce_moves key node lock nonce drawn one lock.key refl
message_moves key node lock payload drawn sixteen is_node one Sealed o = sealed_moves key node lock payload sixteen is_node one o lock.key refl
message_moves key node lock payload drawn sixteen is_node one Other o = stays_silent key node lock one

pub lock_moves : (key : List ℕ) (node : ℕ) (lock : Joining) (payload drawn : List ℕ) → length key ≡ 16 → lock.node ≡ node → OneKey key lock.key
    → Tells key node lock Outward payload → Moves key node lock (joiner_takes lock payload drawn)
unfolding joiner_takes
lock_moves key node lock payload drawn sixteen is_node one told = message_moves key node lock payload drawn sixteen is_node one (message_of payload) told
