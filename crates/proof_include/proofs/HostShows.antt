-- What the host makes of the counts of a node, and of what frames show.
use Rattle.std.proofs.Common.{◌≡◌, ℕ, ◌<◌, ◌≤◌, Bool, true, false, cond, Option, Some, None, List, length, get_or, set, refl, ap, sym, subst, ◌∙◌}
use Rattle.std.specs.Prelude.{slice_index}
use Rattle.std.specs.Option.{option_to_list, option_map}
use Rattle.std.proofs.lemmas.List.{get_or-set_same, get_or-set_other}
use Rattle.std.proofs.Math.ListN.{length-set}
use Rattle.std.proofs.lemmas.Bool.{eqb-true}
use Rattle.s0_crypto.specs.declared.key_pair.Keys.{Keys}
use Rattle.s0_session.specs.declared.account.Account.{Account}
use Rattle.s0_session.specs.Nonces.{account_of, nonce_given, after_give, after_spend, nonce_spent, answer_from, given_from, unused}
use Rattle.s0_session.specs.Sending.{Sending, seen_after, taken_from, taken}
use Rattle.inclusion.specs.declared.message.Message.{Message}
use Rattle.inclusion.specs.declared.message.Message.TheVariants.{SchemeGet, SchemeReport, NonceGet, NonceReport, Sealed, Other}
use Rattle.inclusion.specs.declared.exchange.Exchange.{Exchange}
use Rattle.s0_crypto.specs.Sealing.{keys_of, unsealed_at}
use Rattle.inclusion.specs.Sealing.{sealer_by, sent_by}
use Rattle.inclusion.specs.Messages.{message_of, nonce_named, nonce_get, nonce_report, key_verify, temporary_key}
use Rattle.inclusion.specs.Joining.{Joining}
use Rattle.inclusion.specs.Including.{Including, Included, quiet, is_secure, asking, asks, has_asked, takes_scheme, gives_nonce, takes_nonce, takes_message, includer_takes, is_with, is_verified, held_in, verified, spending, sealing, to_host}
use Rattle.air_frames.specs.declared.frame.Heading.{Heading}
use Rattle.air_frames.specs.declared.frame.Heading.TheVariants.{Outward, Homeward}
use Rattle.include_world.proofs.AirFacts.{Each}
use Rattle.include_world.proofs.KeyFacts.{HomeIs, report_is, no_some, spends, named_in_sealed, sealed_opens}
use Rattle.include_world.proofs.HostFacts.{Setting}
use Rattle.proof_include.proofs.NearFacts.{Way, way_give, way_taken, way_all, way_spend}
use Rattle.proof_include.proofs.ShowFacts.{Verifies, HomeShows, OutShows, Shows, Ready, message_of_sealed}

-- how many nonces of a node the host has taken
abbrev pub seen_of : Including → ℕ → ℕ
seen_of host node = slice_index host.seen node

-- the exchange with a node has that count too, and nothing waits before a nonce is asked
abbrev pub Counting : ℕ → ℕ → Option Exchange → Type 0
Counting node seen None = Unit {0}
Counting node seen (Some exchange) = exchange.node ≡ node → (exchange.sender.seen ≡ seen) × (exchange.asked ≡ false → exchange.sender.pending ≡ None)

-- the host took a payload
pub record Keeps (key : List ℕ) (node : ℕ) (lock : Joining) (old : Including) (from : ℕ) (did : Included) : Type 0 where
  pub books : length did.includer.book ≡ length old.book
  pub seens : length did.includer.seen ≡ length old.seen
  pub ready : Ready key node (seen_of did.includer node) (is_secure did.includer node) lock (account_of did.includer.book node)
  pub counting : Counting node (seen_of did.includer node) did.includer.exchange
  pub keeps : (h : Heading) (payload : List ℕ) → Shows key node (is_secure old node) lock (account_of old.book node) h payload
      → Shows key node (is_secure did.includer node) lock (account_of did.includer.book node) h payload
  pub shows : from ≡ node → Each (Shows key node (is_secure did.includer node) lock (account_of did.includer.book node) Outward) did.replies

out_asks : (secure : Bool) (account : Account) → OutShows secure account (message_of nonce_get)
unfolding message_of
out_asks secure account = tt

out_if : (secure : Bool) (account : Account) (nonce : List ℕ) (b : Bool) → account.live ≡ Some nonce → OutShows secure account (cond b (NonceReport nonce) Other)
out_if secure account nonce true live = λ e. live
out_if secure account nonce false live = tt

out_reports : (secure : Bool) (account : Account) (nonce : List ℕ) → account.live ≡ Some nonce → OutShows secure account (message_of (nonce_report nonce))
out_reports secure account nonce live = let r = report_is nonce in subst (λ (m : Message). OutShows secure account m) (sym r.1) (out_if secure account nonce r.0 live)

out_secure : (account : Account) (m : Message) → OutShows true account m
out_secure account SchemeGet = tt
out_secure account SchemeReport = tt
out_secure account NonceGet = tt
out_secure account (NonceReport nonce) = λ e. absurd cc
out_secure account Sealed = tt
out_secure account Other = tt

out_given : (secure : Bool) (account : Account) (drawn : List ℕ) (m : Message) → OutShows secure account m → OutShows secure (after_give account drawn) m
out_given secure account drawn SchemeGet t = tt
out_given secure account drawn SchemeReport t = tt
out_given secure account drawn NonceGet t = tt
out_given secure account drawn (NonceReport nonce) t = λ e. ap (λ (o : Option (List ℕ)). Some (answer_from o account.given drawn)) (t e)
out_given secure account drawn Sealed t = tt
out_given secure account drawn Other t = tt

home_given : (key : List ℕ) (node : ℕ) (secure : Bool) (lock : Joining) (account : Account) (drawn payload : List ℕ) (m : Message) → HomeShows key node secure lock account payload m
    → HomeShows key node secure lock (after_give account drawn) payload m
home_given key node secure lock account drawn payload SchemeGet t = tt
home_given key node secure lock account drawn payload SchemeReport t = tt
home_given key node secure lock account drawn payload NonceGet t = tt
home_given key node secure lock account drawn payload (NonceReport nonce) t = tt
home_given key node secure lock account drawn payload Sealed t = record {
  own = t.own;
  nonce = t.nonce;
  eight = t.eight;
  text = t.text;
  has = t.has;
  done = t.done;
  live = λ e. (
    ap (λ (o : Option (List ℕ)). Some (answer_from o account.given drawn)) (t.live e).0,
    subst (λ (n : ℕ). n ≤ lock.sealing.seen) (sym (ap (λ (o : Option (List ℕ)). given_from o account.given) (t.live e).0)) (t.live e).1,
  );
}
home_given key node secure lock account drawn payload Other t = tt

home_secure : (key : List ℕ) (node : ℕ) (secure : Bool) (lock : Joining) (old new : Account) (payload : List ℕ) (m : Message) → HomeShows key node secure lock old payload m
    → HomeShows key node true lock new payload m
home_secure key node secure lock old new payload SchemeGet t = tt
home_secure key node secure lock old new payload SchemeReport t = tt
home_secure key node secure lock old new payload NonceGet t = tt
home_secure key node secure lock old new payload (NonceReport nonce) t = tt
home_secure key node secure lock old new payload Sealed t =
    record { own = t.own; nonce = t.nonce; eight = t.eight; text = t.text; has = t.has; done = t.done; live = λ e. absurd cc }
home_secure key node secure lock old new payload Other t = tt

pub shows_given : (key : List ℕ) (node : ℕ) (secure : Bool) (lock : Joining) (account : Account) (drawn : List ℕ) (h : Heading) (payload : List ℕ) → Shows key node secure lock account h payload
    → Shows key node secure lock (after_give account drawn) h payload
shows_given key node secure lock account drawn Outward payload t = out_given secure account drawn (message_of payload) t
shows_given key node secure lock account drawn Homeward payload t = home_given key node secure lock account drawn payload (message_of payload) t

pub shows_secure : (key : List ℕ) (node : ℕ) (secure : Bool) (lock : Joining) (old new : Account) (h : Heading) (payload : List ℕ) → Shows key node secure lock old h payload
    → Shows key node true lock new h payload
shows_secure key node secure lock old new Outward payload t = out_secure new (message_of payload)
shows_secure key node secure lock old new Homeward payload t = home_secure key node secure lock old new payload (message_of payload) t

-- a Verify opens for the live nonce
pub verify_opens : (key : List ℕ) (node : ℕ) (lock : Joining) (old : Including) (payload : List ℕ) → old.key ≡ key → is_secure old node ≡ false
    → Verifies key node (is_secure old node) lock (account_of old.book node) payload
    → is_verified (held_in old node payload (nonce_spent (account_of old.book node) (nonce_named payload))) ≡ true
verify_opens key node lock old payload key_is insecure v =
    let named : nonce_named payload ≡ slice_index v.nonce 0 = ap nonce_named v.text ∙ named_in_sealed (keys_of key) v.own v.nonce (to_host node) key_verify v.eight in
    let spent : nonce_spent (account_of old.book node) (nonce_named payload) ≡ Some v.nonce = spends v.nonce (nonce_named payload) (account_of old.book node).live (v.live insecure).0 named in
    let opens : unsealed_at (keys_of old.key) v.nonce (to_host node) payload ≡ Some key_verify
    = ap (λ (k : List ℕ). unsealed_at (keys_of k) v.nonce (to_host node) payload) key_is
    ∙ (ap (unsealed_at (keys_of key) v.nonce (to_host node)) v.text ∙ sealed_opens (keys_of key) v.own v.nonce (to_host node) key_verify v.eight) in
    ap (λ (o : Option (List ℕ)). is_verified (held_in old node payload o)) spent ∙ ap is_verified opens

module _ (key : List ℕ) (lock : Joining) (old : Including) (from : ℕ) (key_is : old.key ≡ key) (books : from < length old.book) (seens : from < length old.seen)
    (ready : Ready key from (seen_of old from) (is_secure old from) lock (account_of old.book from)) where
  still : Counting from (seen_of old from) old.exchange → Keeps key from lock old from (quiet old)
  still counting = record { books = refl; seens = refl; ready = ready; counting = counting; keeps = λ h payload t. t; shows = λ e. tt }

  asked_counting : (exchange : Exchange) (b : Bool) → exchange.asked ≡ b → (exchange.node ≡ from → (exchange.sender.seen ≡ seen_of old from) × (exchange.asked ≡ false → exchange.sender.pending ≡ None))
      → (asking old.key exchange b).node ≡ from → ((asking old.key exchange b).sender.seen ≡ seen_of old from) × ((asking old.key exchange b).asked ≡ false → (asking old.key exchange b).sender.pending ≡ None)
  asked_counting exchange true is c e = c e
  asked_counting exchange false is c e = ((c e).0, λ f. absurd cc)

  scheme_counting : (o : Option Exchange) → Counting from (seen_of old from) o → Counting from (seen_of old from) (option_map (λ x. asking old.key x x.asked) o)
  scheme_counting None c = tt
  scheme_counting (Some exchange) c = asked_counting exchange exchange.asked refl c

  each_asks : (b : Bool) → Each (Shows key from (is_secure old from) lock (account_of old.book from) Outward) (asks b)
  each_asks true = tt
  each_asks false = (out_asks (is_secure old from) (account_of old.book from), tt)

  scheme_keeps : Counting from (seen_of old from) old.exchange → Keeps key from lock old from (takes_scheme old)
  scheme_keeps counting = record { books = refl; seens = refl; ready = ready; counting = scheme_counting old.exchange counting; keeps = λ h payload t. t; shows = λ e. each_asks (has_asked old.exchange) }

  gives_keeps : (drawn : List ℕ) → length drawn ≡ 8 → Counting from (seen_of old from) old.exchange → Keeps key from lock old from (gives_nonce old from drawn)
  gives_keeps drawn eight counting =
      let new : account_of (set old.book from (after_give (account_of old.book from) drawn)) from ≡ after_give (account_of old.book from) drawn
      = get_or-set_same old.book from (after_give (account_of old.book from) drawn) unused books in
      record {
        books = length-set old.book from (after_give (account_of old.book from) drawn);
        seens = refl;
        ready = record {
          ends = ready.ends;
          waiting = ready.waiting;
          sent = ready.sent;
          out = subst (λ (a : Account). Way a lock.sealing.seen) (sym new) (way_give (account_of old.book from) lock.sealing.seen drawn eight ready.out);
          home = ready.home;
        };
        counting = counting;
        keeps = λ h payload t. subst (λ (a : Account). Shows key from (is_secure old from) lock a h payload) (sym new) (shows_given key from (is_secure old from) lock (account_of old.book from) drawn h payload t);
        shows = λ e. (
          out_reports (is_secure old from) (account_of (set old.book from (after_give (account_of old.book from) drawn)) from) (nonce_given (account_of old.book from) drawn)
              (ap (λ (a : Account). a.live) new),
          tt,
        );
      }

  sealed_shows : (keys : Keys) (secure : Bool) (sealer : Sending) (nonce drawn : List ℕ) → length drawn ≡ 8 → (o : Option ℕ) (p : Option (List ℕ))
      → Each (Shows key from secure lock (account_of old.book from) Outward) (option_to_list (sent_by sealer keys nonce drawn o p))
  sealed_shows keys secure sealer nonce drawn eight None p = tt
  sealed_shows keys secure sealer nonce drawn eight (Some s) None = tt
  sealed_shows keys secure sealer nonce drawn eight (Some s) (Some plain) =
      (subst (λ (m : Message). OutShows secure (account_of old.book from) m) (sym (message_of_sealed keys drawn nonce sealer.ends plain eight)) tt, tt)

  nonce_by : (exchange : Exchange) (nonce drawn : List ℕ) → length drawn ≡ 8 → exchange.node ≡ from → (lock.key ≡ None → lock.given.live ≡ Some nonce)
      → (exchange.sender.seen ≡ seen_of old from) × (exchange.asked ≡ false → exchange.sender.pending ≡ None)
      → (p : Option (List ℕ)) → exchange.sender.pending ≡ p → (o : Option ℕ) → taken_from p exchange.sender.seen (slice_index nonce 0) ≡ o
      → Keeps key from lock old from (record {
        includer = record old {
          seen = set old.seen exchange.node (sealer_by exchange.sender o).seen;
          exchange = Some (let x : Exchange = record exchange { sender = sealer_by exchange.sender o } in x);
        };
        replies = option_to_list (sent_by exchange.sender (keys_of temporary_key) nonce drawn o p);
      })
  nonce_by exchange nonce drawn eight it told c p e o f =
      let new : slice_index (set old.seen exchange.node (sealer_by exchange.sender o).seen) from ≡ (sealer_by exchange.sender o).seen
      = ap (λ (n : ℕ). get_or (set old.seen n (sealer_by exchange.sender o).seen) from 0) it ∙ get_or-set_same old.seen from (sealer_by exchange.sender o).seen 0 seens in
      record {
        books = refl;
        seens = length-set old.seen exchange.node (sealer_by exchange.sender o).seen;
        ready = record {
          ends = ready.ends;
          waiting = ready.waiting;
          sent = ready.sent;
          out = ready.out;
          home = λ none. subst (λ (n : ℕ). Way lock.given n) (sym new) (way_by p o f (ready.home none) (told none));
        };
        counting = λ at. (sym new, λ asked. quiet_by p e o f (c.1 asked));
        keeps = λ h payload t. t;
        shows = λ at. sealed_shows (keys_of temporary_key) (is_secure old from) exchange.sender nonce drawn eight o p;
      }
    where
      way_by : (p : Option (List ℕ)) (o : Option ℕ) → taken_from p exchange.sender.seen (slice_index nonce 0) ≡ o → Way lock.given (seen_of old from) → lock.given.live ≡ Some nonce
          → Way lock.given (sealer_by exchange.sender o).seen
      way_by None None f w live = subst (λ (n : ℕ). Way lock.given n) (sym c.0) w
      way_by None (Some s) f w live = absurd (no_some refl f)
      way_by (Some plain) o f w live =
          let taken_is : seen_after exchange.sender.seen (slice_index nonce 0) ≡ Some lock.given.given
          = ap (λ (n : ℕ). seen_after n (slice_index nonce 0)) c.0 ∙ way_taken lock.given (seen_of old from) nonce w live in
          subst (λ (x : Option ℕ). Way lock.given (sealer_by exchange.sender x).seen) (sym taken_is ∙ f) (way_all lock.given (seen_of old from) nonce w live)

      quiet_by : (p : Option (List ℕ)) → exchange.sender.pending ≡ p → (o : Option ℕ) → taken_from p exchange.sender.seen (slice_index nonce 0) ≡ o → exchange.sender.pending ≡ None
          → (sealer_by exchange.sender o).pending ≡ None
      quiet_by p e None f none = none
      quiet_by p e (Some s) f none = refl

  is_from : (exchange : Exchange) → is_with (Some exchange) from ≡ true → exchange.node ≡ from
  is_from exchange e = eqb-true exchange.node from e

  nonce_keeps : (nonce drawn : List ℕ) → length drawn ≡ 8 → is_with old.exchange from ≡ true → (lock.key ≡ None → lock.given.live ≡ Some nonce)
      → Counting from (seen_of old from) old.exchange → (x : Option Exchange) → old.exchange ≡ x → Keeps key from lock old from (takes_nonce old x nonce drawn)
  nonce_keeps nonce drawn eight w told c None e = still c
  nonce_keeps nonce drawn eight w told c (Some exchange) e =
      let it : exchange.node ≡ from = is_from exchange (subst (λ (o : Option Exchange). is_with o from ≡ true) e w) in
      let count : Counting from (seen_of old from) (Some exchange) = subst (λ (o : Option Exchange). Counting from (seen_of old from) o) e c in
      nonce_by exchange nonce drawn eight it told (count it) exchange.sender.pending refl (taken exchange.sender (slice_index nonce 0)) refl

  sealed_keeps : (payload : List ℕ) → from < length old.secure → is_secure old from ≡ false → Verifies key from (is_secure old from) lock (account_of old.book from) payload
      → Keeps key from lock old from (quiet (verified (spending old from payload) from true))
  sealed_keeps payload secures insecure v =
      let named : nonce_named payload ≡ slice_index v.nonce 0 = ap nonce_named v.text ∙ named_in_sealed (keys_of key) v.own v.nonce (to_host from) key_verify v.eight in
      let new : account_of (set old.book from (after_spend (account_of old.book from) (nonce_named payload))) from ≡ after_spend (account_of old.book from) (nonce_named payload)
      = get_or-set_same old.book from (after_spend (account_of old.book from) (nonce_named payload)) unused books in
      let now : is_secure (verified (spending old from payload) from true) from ≡ true = get_or-set_same old.secure from true false secures in
      record {
        books = length-set old.book from (after_spend (account_of old.book from) (nonce_named payload));
        seens = refl;
        ready = record {
          ends = ready.ends;
          waiting = ready.waiting;
          sent = λ t. v.done;
          out = subst (λ (a : Account). Way a lock.sealing.seen) (sym new)
              (subst (λ (n : ℕ). Way (after_spend (account_of old.book from) n) lock.sealing.seen) (sym named) (way_spend (account_of old.book from) lock.sealing.seen v.nonce ready.out (v.live insecure).0 (v.live insecure).1));
          home = λ none. absurd (no_some none v.has);
        };
        counting = tt;
        keeps = λ h p t. subst (λ (b : Bool). Shows key from b lock (account_of (set old.book from (after_spend (account_of old.book from) (nonce_named payload))) from) h p) (sym now)
            (shows_secure key from (is_secure old from) lock (account_of old.book from) (account_of (set old.book from (after_spend (account_of old.book from) (nonce_named payload))) from) h p t);
        shows = λ e. tt;
      }

  message_keeps : (payload drawn : List ℕ) → length drawn ≡ 8 → is_with old.exchange from ≡ true → from < length old.secure → is_secure old from ≡ false
      → Counting from (seen_of old from) old.exchange → (m : Message) → HomeIs key lock m → HomeShows key from (is_secure old from) lock (account_of old.book from) payload m
      → Keeps key from lock old from (takes_message old from payload drawn m)
  message_keeps payload drawn eight w secures insecure c SchemeGet h s = still c
  message_keeps payload drawn eight w secures insecure c SchemeReport h s = scheme_keeps c
  message_keeps payload drawn eight w secures insecure c NonceGet h s = gives_keeps drawn eight c
  message_keeps payload drawn eight w secures insecure c (NonceReport nonce) h s = nonce_keeps nonce drawn eight w h c old.exchange refl
  message_keeps payload drawn eight w secures insecure c Sealed h s =
      subst (λ (b : Bool). Keeps key from lock old from (quiet (verified (spending old from payload) from b))) (sym (verify_opens key from lock old payload key_is insecure s))
      (sealed_keeps payload secures insecure s)
  message_keeps payload drawn eight w secures insecure c Other h s = still c

  keeps_if : (payload drawn : List ℕ) → length drawn ≡ 8 → from < length old.secure → Setting key from (is_secure old from) old.exchange → Counting from (seen_of old from) old.exchange
      → HomeIs key lock (message_of payload) → HomeShows key from (is_secure old from) lock (account_of old.book from) payload (message_of payload)
      → (b : Bool) → is_with old.exchange from ≡ b → Keeps key from lock old from (cond b (takes_message old from payload drawn (message_of payload)) (quiet old))
  keeps_if payload drawn eight secures setting c h s true e = message_keeps payload drawn eight e secures (insecure_at old.exchange e setting) c (message_of payload) h s
    where
      insecure_at : (o : Option Exchange) → is_with o from ≡ true → Setting key from (is_secure old from) o → is_secure old from ≡ false
      insecure_at None w s = absurd cc
      insecure_at (Some exchange) w s = (s (is_from exchange w)).insecure
  keeps_if payload drawn eight secures setting c h s false e = still c

  pub host_keeps : (payload drawn : List ℕ) → length drawn ≡ 8 → from < length old.secure → Setting key from (is_secure old from) old.exchange → Counting from (seen_of old from) old.exchange
      → HomeIs key lock (message_of payload) → HomeShows key from (is_secure old from) lock (account_of old.book from) payload (message_of payload)
      → Keeps key from lock old from (includer_takes old from payload drawn)
  unfolding includer_takes
  host_keeps payload drawn eight secures setting c h s = keeps_if payload drawn eight secures setting c h s (is_with old.exchange from) refl

-- ---- a payload of another node

-- nothing of the node changes
pub record Away (node : ℕ) (old : Including) (did : Included) : Type 0 where
  pub books : length did.includer.book ≡ length old.book
  pub seens : length did.includer.seen ≡ length old.seen
  pub account : account_of did.includer.book node ≡ account_of old.book node
  pub seen : seen_of did.includer node ≡ seen_of old node
  pub counting : Counting node (seen_of old node) did.includer.exchange

module _ (node : ℕ) (old : Including) (from : ℕ) (differ : node ≡ from → ⊥) where
  idle : Counting node (seen_of old node) old.exchange → Away node old (quiet old)
  idle c = record { books = refl; seens = refl; account = refl; seen = refl; counting = c }

  -- an exchange with the other node is none with this one
  other : (exchange : Exchange) → exchange.node ≡ from → Counting node (seen_of old node) (Some exchange)
  other exchange it = λ at. absurd (differ (sym at ∙ it))

  asking_node : (k : List ℕ) (exchange : Exchange) (b : Bool) → (asking k exchange b).node ≡ exchange.node
  asking_node k exchange true = refl
  asking_node k exchange false = refl

  scheme_away : (o : Option Exchange) → is_with o from ≡ true → Counting node (seen_of old node) (option_map (λ x. asking old.key x x.asked) o)
  scheme_away None e = tt
  scheme_away (Some exchange) e = other (asking old.key exchange exchange.asked) (asking_node old.key exchange exchange.asked ∙ eqb-true exchange.node from e)

  nonce_away : (nonce drawn : List ℕ) → is_with old.exchange from ≡ true → Counting node (seen_of old node) old.exchange → (x : Option Exchange) → old.exchange ≡ x → Away node old (takes_nonce old x nonce drawn)
  nonce_away nonce drawn w c None e = idle c
  nonce_away nonce drawn w c (Some exchange) e =
      let it : exchange.node ≡ from = eqb-true exchange.node from (subst (λ (o : Option Exchange). is_with o from ≡ true) e w) in
      record {
        books = refl;
        seens = length-set old.seen exchange.node (sealing exchange nonce).sender.seen;
        account = refl;
        seen = get_or-set_other old.seen exchange.node node (sealing exchange nonce).sender.seen 0 (λ at. differ (at ∙ it));
        counting = other (sealing exchange nonce) it;
      }

  gives_away : (drawn : List ℕ) → Counting node (seen_of old node) old.exchange → Away node old (gives_nonce old from drawn)
  gives_away drawn c = record {
    books = length-set old.book from (after_give (account_of old.book from) drawn);
    seens = refl;
    account = get_or-set_other old.book from node (after_give (account_of old.book from) drawn) unused differ;
    seen = refl;
    counting = c;
  }

  sealed_away : (payload : List ℕ) → Counting node (seen_of old node) old.exchange → (b : Bool) → Away node old (quiet (verified (spending old from payload) from b))
  sealed_away payload c true = record {
    books = length-set old.book from (after_spend (account_of old.book from) (nonce_named payload));
    seens = refl;
    account = get_or-set_other old.book from node (after_spend (account_of old.book from) (nonce_named payload)) unused differ;
    seen = refl;
    counting = tt;
  }
  sealed_away payload c false = record {
    books = length-set old.book from (after_spend (account_of old.book from) (nonce_named payload));
    seens = refl;
    account = get_or-set_other old.book from node (after_spend (account_of old.book from) (nonce_named payload)) unused differ;
    seen = refl;
    counting = c;
  }

  message_away : (payload drawn : List ℕ) → is_with old.exchange from ≡ true → Counting node (seen_of old node) old.exchange → (m : Message) → Away node old (takes_message old from payload drawn m)
  message_away payload drawn w c SchemeGet = idle c
  message_away payload drawn w c SchemeReport = record { books = refl; seens = refl; account = refl; seen = refl; counting = scheme_away old.exchange w }
  message_away payload drawn w c NonceGet = gives_away drawn c
  message_away payload drawn w c (NonceReport nonce) = nonce_away nonce drawn w c old.exchange refl
  message_away payload drawn w c Sealed = sealed_away payload c (is_verified (held_in old from payload (nonce_spent (account_of old.book from) (nonce_named payload))))
  message_away payload drawn w c Other = idle c

  away_if : (payload drawn : List ℕ) → Counting node (seen_of old node) old.exchange → (b : Bool) → is_with old.exchange from ≡ b
      → Away node old (cond b (takes_message old from payload drawn (message_of payload)) (quiet old))
  away_if payload drawn c true e = message_away payload drawn e c (message_of payload)
  away_if payload drawn c false e = idle c

  pub host_away : (payload drawn : List ℕ) → Counting node (seen_of old node) old.exchange → Away node old (includer_takes old from payload drawn)
  unfolding includer_takes
  host_away payload drawn c = away_if payload drawn c (is_with old.exchange from) refl
