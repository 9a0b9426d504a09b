-- What the host makes of a payload, as far as it matters for the key of a lock.
use Rattle.std.proofs.Common.{◌≡◌, ◌⊎◌, ℕ, ◌<◌, Bool, true, false, cond, Option, Some, None, List, length, get_or, set, refl, ap, sym, subst, ◌∙◌, inl, inr, ⊎_elim}
use Rattle.std.specs.Prelude.{slice_index}
use Rattle.std.specs.Option.{option_to_list, option_map}
use Rattle.std.proofs.lemmas.List.{get_or-set_same, get_or-set_other}
use Rattle.std.proofs.Math.ListN.{length-set}
use Rattle.std.proofs.lemmas.Bool.{cases_eq, eqb-true}
use Rattle.s0_crypto.specs.declared.ends.SealEnds.{SealEnds}
use Rattle.s0_session.specs.Sending.{Sending, taken}
use Rattle.s0_session.specs.Nonces.{account_of, nonce_given, nonce_spent}
use Rattle.inclusion.specs.declared.message.Message.{Message}
use Rattle.inclusion.specs.declared.message.Message.TheVariants.{SchemeGet, SchemeReport, NonceGet, NonceReport, Sealed, Other}
use Rattle.inclusion.specs.declared.exchange.Exchange.{Exchange}
use Rattle.s0_crypto.specs.Sealing.{keys_of, sealed_text}
use Rattle.inclusion.specs.Sealing.{sealer_by, sent_by}
use Rattle.inclusion.specs.Messages.{message_of, nonce_named, key_set, temporary_key}
use Rattle.inclusion.specs.Joining.{Joining, from_host}
use Rattle.inclusion.specs.Including.{Including, Included, quiet, is_secure, asking, asks, has_asked, takes_scheme, gives_nonce, takes_nonce, takes_message, includer_takes, is_with, is_verified, held_in, verified, spending}
use Rattle.air_frames.specs.declared.frame.Heading.TheVariants.{Outward, Homeward}
use Rattle.include_world.proofs.AirFacts.{Each}
use Rattle.include_world.proofs.KeyFacts.{Tells, HomeIs, Sets, out_asks, out_reports, out_sets}

-- what waits to be sealed is the key that is set
abbrev pub Waits : List ℕ → Option (List ℕ) → Type 0
Waits key None = Unit {0}
Waits key (Some plain) = plain ≡ key_set key

-- an exchange with a node: the node is not secure, and the key is sealed for it
pub record HostIs (key : List ℕ) (node : ℕ) (secure : Bool) (exchange : Exchange) : Type 0 where
  pub insecure : secure ≡ false
  pub ends : exchange.sender.ends ≡ from_host node
  pub waits : Waits key exchange.sender.pending

-- the exchange under way, if it is with the node
abbrev pub Setting : List ℕ → ℕ → Bool → Option Exchange → Type 0
Setting key node secure None = Unit {0}
Setting key node secure (Some exchange) = exchange.node ≡ node → HostIs key node secure exchange

-- the host took a payload of a node
pub record Hosts (key : List ℕ) (node : ℕ) (lock : Joining) (old : Including) (from : ℕ) (did : Included) : Type 0 where
  pub key_is : did.includer.key ≡ old.key
  pub size : length did.includer.secure ≡ length old.secure
  pub setting : Setting key node (is_secure did.includer node) did.includer.exchange
  pub counts : (is_secure did.includer node ≡ is_secure old node) ⊎ ((is_secure old node ≡ false) × (is_secure did.includer node ≡ true))
  pub other : (node ≡ from → ⊥) → is_secure did.includer node ≡ is_secure old node
  pub secured : is_secure did.includer node ≡ true → lock.key ≡ Some key
  pub replies : from ≡ node → Each (Tells key node lock Outward) did.replies

module _ (key : List ℕ) (node : ℕ) (lock : Joining) (old : Including) (from : ℕ) (key_is : old.key ≡ key) (within : node < length old.secure)
    (secured : is_secure old node ≡ true → lock.key ≡ Some key) where
  stays_quiet : Setting key node (is_secure old node) old.exchange → Hosts key node lock old from (quiet old)
  stays_quiet setting = record { key_is = refl; size = refl; setting = setting; counts = inl refl; other = λ differ. refl; secured = secured; replies = λ e. tt }

  asking_host : (exchange : Exchange) (b : Bool) → (exchange.node ≡ node → HostIs key node (is_secure old node) exchange)
      → (asking old.key exchange b).node ≡ node → HostIs key node (is_secure old node) (asking old.key exchange b)
  asking_host exchange true host = host
  asking_host exchange false host = λ e. record { insecure = (host e).insecure; ends = (host e).ends; waits = ap key_set key_is }

  asking_setting : (o : Option Exchange) → Setting key node (is_secure old node) o → Setting key node (is_secure old node) (option_map (λ x. asking old.key x x.asked) o)
  asking_setting None setting = tt
  asking_setting (Some exchange) setting = asking_host exchange exchange.asked setting

  each_asks : (b : Bool) → Each (Tells key node lock Outward) (asks b)
  each_asks true = tt
  each_asks false = (out_asks key node lock, tt)

  scheme_hosts : Setting key node (is_secure old node) old.exchange → Hosts key node lock old from (takes_scheme old)
  scheme_hosts setting = record {
    key_is = refl;
    size = refl;
    setting = asking_setting old.exchange setting;
    counts = inl refl;
    other = λ differ. refl;
    secured = secured;
    replies = λ e. each_asks (has_asked old.exchange);
  }

  gives_hosts : (drawn : List ℕ) → Setting key node (is_secure old node) old.exchange → Hosts key node lock old from (gives_nonce old from drawn)
  gives_hosts drawn setting = record {
    key_is = refl;
    size = refl;
    setting = setting;
    counts = inl refl;
    other = λ differ. refl;
    secured = secured;
    replies = λ e. (out_reports key node lock (nonce_given (account_of old.book from) drawn), tt);
  }

  -- what is sealed for a nonce of the lock sets the key
  sealed_sets : (sealer : Sending) (nonce drawn : List ℕ) → sealer.ends ≡ from_host node → length drawn ≡ 8 → (lock.key ≡ None → lock.given.live ≡ Some nonce)
      → (o : Option ℕ) (pending : Option (List ℕ)) → Waits key pending → Each (Tells key node lock Outward) (option_to_list (sent_by sealer (keys_of temporary_key) nonce drawn o pending))
  sealed_sets sealer nonce drawn ends eight live None pending waits = tt
  sealed_sets sealer nonce drawn ends eight live (Some seen) None waits = tt
  sealed_sets sealer nonce drawn ends eight live (Some seen) (Some plain) waits =
      let text : List ℕ = sealed_text (keys_of temporary_key) drawn nonce sealer.ends plain in
      let s : Sets key node lock (sealed_text (keys_of temporary_key) drawn nonce sealer.ends plain) = record {
        own = drawn;
        nonce = nonce;
        eight = eight;
        text = ap (λ (e : SealEnds). sealed_text (keys_of temporary_key) drawn nonce e plain) ends ∙ ap (λ (p : List ℕ). sealed_text (keys_of temporary_key) drawn nonce (from_host node) p) waits;
        live = live;
      } in
      (out_sets key node lock (sealed_text (keys_of temporary_key) drawn nonce sealer.ends plain) s (message_of (sealed_text (keys_of temporary_key) drawn nonce sealer.ends plain)), tt)

  sealer_waits : (sealer : Sending) (o : Option ℕ) → Waits key sealer.pending → Waits key (sealer_by sealer o).pending
  sealer_waits sealer None waits = waits
  sealer_waits sealer (Some seen) waits = tt

  sealer_ends : (sealer : Sending) (o : Option ℕ) → (sealer_by sealer o).ends ≡ sealer.ends
  sealer_ends sealer None = refl
  sealer_ends sealer (Some seen) = refl

  is_from : (exchange : Exchange) → is_with (Some exchange) from ≡ true → exchange.node ≡ from
  is_from exchange e = eqb-true exchange.node from e

  nonce_hosts : (nonce drawn : List ℕ) → length drawn ≡ 8 → is_with old.exchange from ≡ true → (from ≡ node → lock.key ≡ None → lock.given.live ≡ Some nonce)
      → Setting key node (is_secure old node) old.exchange → (o : Option Exchange) → old.exchange ≡ o → Hosts key node lock old from (takes_nonce old o nonce drawn)
  nonce_hosts nonce drawn eight with_it live setting None e = stays_quiet setting
  nonce_hosts nonce drawn eight with_it live setting (Some exchange) e =
      let set : Setting key node (is_secure old node) (Some exchange) = subst (λ (o : Option Exchange). Setting key node (is_secure old node) o) e setting in
      let it : exchange.node ≡ from = is_from exchange (subst (λ (o : Option Exchange). is_with o from ≡ true) e with_it) in
      let seen : Option ℕ = taken exchange.sender (slice_index nonce 0) in
      record {
        key_is = refl;
        size = refl;
        setting = λ at. record {
          insecure = (set at).insecure;
          ends = sealer_ends exchange.sender (taken exchange.sender (slice_index nonce 0)) ∙ (set at).ends;
          waits = sealer_waits exchange.sender (taken exchange.sender (slice_index nonce 0)) (set at).waits;
        };
        counts = inl refl;
        other = λ differ. refl;
        secured = secured;
        replies = λ at. sealed_sets exchange.sender nonce drawn (set (it ∙ at)).ends eight (live at) (taken exchange.sender (slice_index nonce 0)) exchange.sender.pending (set (it ∙ at)).waits;
      }

  verify_hosts : (payload : List ℕ) → is_with old.exchange from ≡ true → (from ≡ node → lock.key ≡ Some key) → Setting key node (is_secure old node) old.exchange
      → (b : Bool) → Hosts key node lock old from (quiet (verified (spending old from payload) from b))
  verify_hosts payload with_it has setting false = record { key_is = refl; size = refl; setting = setting; counts = inl refl; other = λ differ. refl; secured = secured; replies = λ e. tt }
  verify_hosts payload with_it has setting true = record {
    key_is = refl;
    size = length-set old.secure from true;
    setting = tt;
    counts = ⊎_elim
        (λ e. inr (insecure_at (sym e) old.exchange with_it setting, ap (λ (n : ℕ). get_or (set old.secure n true) node false) (sym e) ∙ get_or-set_same old.secure node true false within))
        (λ differ. inl (get_or-set_other old.secure from node true false differ))
        (cases_eq node from);
    other = λ differ. get_or-set_other old.secure from node true false differ;
    secured = λ now. ⊎_elim
        (λ e. has (sym e))
        (λ differ. secured (sym (get_or-set_other old.secure from node true false differ) ∙ now))
        (cases_eq node from);
    replies = λ e. tt;
  }
    where
      insecure_at : from ≡ node → (o : Option Exchange) → is_with o from ≡ true → Setting key node (is_secure old node) o → is_secure old node ≡ false
      insecure_at e None w s = absurd cc
      insecure_at e (Some exchange) w s = (s (is_from exchange w ∙ e)).insecure

  message_hosts : (payload drawn : List ℕ) → length drawn ≡ 8 → is_with old.exchange from ≡ true → Setting key node (is_secure old node) old.exchange
      → (m : Message) → (from ≡ node → HomeIs key lock m) → Hosts key node lock old from (takes_message old from payload drawn m)
  message_hosts payload drawn eight with_it setting SchemeGet told = stays_quiet setting
  message_hosts payload drawn eight with_it setting SchemeReport told = scheme_hosts setting
  message_hosts payload drawn eight with_it setting NonceGet told = gives_hosts drawn setting
  message_hosts payload drawn eight with_it setting (NonceReport nonce) told = nonce_hosts nonce drawn eight with_it told setting old.exchange refl
  message_hosts payload drawn eight with_it setting Sealed told =
      verify_hosts payload with_it told setting (is_verified (held_in old from payload (nonce_spent (account_of old.book from) (nonce_named payload))))
  message_hosts payload drawn eight with_it setting Other told = stays_quiet setting

  takes_if : (payload drawn : List ℕ) → length drawn ≡ 8 → Setting key node (is_secure old node) old.exchange → (from ≡ node → Tells key node lock Homeward payload)
      → (b : Bool) → is_with old.exchange from ≡ b → Hosts key node lock old from (cond b (takes_message old from payload drawn (message_of payload)) (quiet old))
  takes_if payload drawn eight setting told true e = message_hosts payload drawn eight e setting (message_of payload) told
  takes_if payload drawn eight setting told false e = stays_quiet setting

  pub host_takes : (payload drawn : List ℕ) → length drawn ≡ 8 → Setting key node (is_secure old node) old.exchange → (from ≡ node → Tells key node lock Homeward payload)
      → Hosts key node lock old from (includer_takes old from payload drawn)
  unfolding includer_takes
  host_takes payload drawn eight setting told = takes_if payload drawn eight setting told (is_with old.exchange from) refl
