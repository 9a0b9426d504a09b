-- How many nonces of a lock the host takes, and how many more it may take before the next tick ends.
use Rattle.std.proofs.Common.{◌≡◌, ℕ, ◌+◌, ◌%◌, ◌<◌, ◌≤◌, Bool, true, false, cond, ◌&&◌, eqb, ltb, Option, Some, None, List, length, get_or, set, refl, ap, sym, subst, ◌∙◌, arith}
use Rattle.std.specs.Prelude.{slice_index}
use Rattle.std.specs.Option.{option_to_list, option_map}
use Rattle.std.proofs.lemmas.List.{get_or-set_same}
use Rattle.std.proofs.lemmas.Bool.{eqb-true, eq-eqb, ne_eqb, and_parts, cond_both}
use Rattle.s0_crypto.specs.declared.key_pair.Keys.{Keys}
use Rattle.s0_session.specs.declared.account.Account.{Account}
use Rattle.s0_session.specs.Nonces.{account_of, nonce_given, nonce_spent}
use Rattle.s0_session.specs.Sending.{Sending, seen_after, taken_from, taken}
use Rattle.inclusion.specs.declared.message.Message.{Message}
use Rattle.inclusion.specs.declared.message.Message.TheVariants.{SchemeGet, SchemeReport, NonceGet, NonceReport, Sealed, Other}
use Rattle.inclusion.specs.declared.exchange.Exchange.{Exchange}
use Rattle.s0_crypto.specs.Sealing.{keys_of, sealed_text}
use Rattle.inclusion.specs.Sealing.{sealer_by, sent_by}
use Rattle.inclusion.specs.Messages.{message_of, nonce_named, nonce_get, nonce_report, temporary_key}
use Rattle.inclusion.specs.Including.{Including, Included, quiet, is_secure, asking, asks, has_asked, takes_scheme, gives_nonce, takes_nonce, takes_message, includer_takes, is_with, is_verified, held_in, verified, spending, exchange_after}
use Rattle.air_frames.specs.declared.frame.Heading.TheVariants.{Outward, Homeward}
use Rattle.include_world.proofs.AirFacts.{Each}
use Rattle.include_world.proofs.KeyFacts.{report_is, no_some, named_in_sealed}
use Rattle.include_world.proofs.HostFacts.{Setting}
use Rattle.proof_include.proofs.HostShows.{seen_of, Counting}
use Rattle.proof_include.proofs.NearFacts.{Way, Alive}
use Rattle.proof_include.proofs.ShowFacts.{message_of_sealed}
use Rattle.proof_include.proofs.Stages.{nonce_asked}
use Rattle.proof_include.proofs.Numbers.{byte_in, OfByte, Near_number, Sends}

-- how many it may still take in an exchange: one that waits, or that was not asked yet
abbrev pub waiting : Option (List ℕ) → ℕ
waiting None = 0
waiting (Some plain) = 1

abbrev pub may_take : Exchange → ℕ
may_take exchange = cond exchange.asked (waiting exchange.sender.pending) 1

-- in that under way, or in one that may begin
abbrev pub may_in : Option Exchange → ℕ → ℕ
may_in None node = 1
may_in (Some exchange) node = cond (eqb exchange.node node) (may_take exchange) 1

abbrev pub may_more : Including → ℕ → ℕ
may_more host node = cond (is_secure host node) 0 (may_in host.exchange node)

-- how many it may have taken then
abbrev pub may_of : Including → ℕ → ℕ
may_of host node = seen_of host node + may_more host node

waiting_one : (o : Option (List ℕ)) → waiting o ≤ 1
waiting_one None = omega arith
waiting_one (Some plain) = omega arith

take_one : (exchange : Exchange) → may_take exchange ≤ 1
take_one exchange = cond_both exchange.asked (waiting exchange.sender.pending) 1 (λ n. n ≤ 1) (λ e. waiting_one exchange.sender.pending) (λ e. omega arith)

pub in_one : (o : Option Exchange) (node : ℕ) → may_in o node ≤ 1
in_one None node = omega arith
in_one (Some exchange) node = cond_both (eqb exchange.node node) (may_take exchange) 1 (λ n. n ≤ 1) (λ e. take_one exchange) (λ e. omega arith)

pub more_one : (host : Including) (node : ℕ) → may_more host node ≤ 1
more_one host node = cond_both (is_secure host node) 0 (may_in host.exchange node) (λ n. n ≤ 1) (λ e. omega arith) (λ e. in_one host.exchange node)

pub cond_less : (b : Bool) (x y : ℕ) → x ≤ y → cond b 0 x ≤ cond b 0 y
cond_less true x y h = omega arith
cond_less false x y h = h

-- with another node, one may begin
pub in_other : (exchange : Exchange) (node : ℕ) → (exchange.node ≡ node → ⊥) → may_in (Some exchange) node ≡ 1
in_other exchange node differ = ap (λ (b : Bool). cond b (may_take exchange) 1) (ne_eqb exchange.node node differ)

in_this : (exchange : Exchange) (node : ℕ) → exchange.node ≡ node → may_in (Some exchange) node ≡ may_take exchange
in_this exchange node it = ap (λ (b : Bool). cond b (may_take exchange) 1) (eq-eqb exchange.node node it)

-- ---- a count that is taken has the first byte

seen_by : (seen first s : ℕ) (a b : Bool) → (ltb 0 seen && eqb first (seen % 256)) ≡ a → eqb first ((seen + 1) % 256) ≡ b → cond a (Some seen) (cond b (Some (seen + 1)) None) ≡ Some s
    → (first ≡ s % 256) × (seen ≤ s) × (s ≤ seen + 1)
seen_by seen first s true b p q e =
    let same : seen ≡ s = cc in
    (eqb-true first (seen % 256) (and_parts (ltb 0 seen) (eqb first (seen % 256)) p).1 ∙ ap (λ (n : ℕ). n % 256) same, omega (arith, same), omega (arith, same))
seen_by seen first s false true p q e =
    let same : seen + 1 ≡ s = cc in
    (eqb-true first ((seen + 1) % 256) q ∙ ap (λ (n : ℕ). n % 256) same, omega (arith, same), omega (arith, same))
seen_by seen first s false false p q e = absurd (no_some refl e)

seen_is : (seen first s : ℕ) → seen_after seen first ≡ Some s → (first ≡ s % 256) × (seen ≤ s) × (s ≤ seen + 1)
seen_is seen first s e = seen_by seen first s (ltb 0 seen && eqb first (seen % 256)) (eqb first ((seen + 1) % 256)) refl refl e

-- where it is the next one, the lock gave it
alive_on : (given seen seen' : ℕ) (live : Option (List ℕ)) → seen ≤ seen' → Alive given seen live → Alive given seen' live
alive_on given seen seen' None more a = omega (arith, a, more)
alive_on given seen seen' (Some nonce) more a = a

way_takes : (account : Account) (seen s : ℕ) (first : ℕ) → Way account seen → Near_number account.given account.given first → (first ≡ s % 256) × (seen ≤ s) × (s ≤ seen + 1) → Way account s
way_takes account seen s first w near t = record {
  within = omega (arith, w.within, w.ahead, t.0, t.1, t.2, near.1, near.2, near.3);
  ahead = omega (arith, w.ahead, t.1);
  alive = alive_on account.given seen s account.live t.1 w.alive;
}

-- ---- what the host makes of a payload of the node

pub record Takes (node : ℕ) (account : Account) (old : Including) (did : Included) : Type 0 where
  pub way : Way account (seen_of did.includer node)
  pub taken : seen_of old node ≤ seen_of did.includer node
  pub may : may_of did.includer node ≤ may_of old node
  pub sends : Each (Sends (seen_of did.includer node) Outward) did.replies

out_plain : (taken : ℕ) (payload : List ℕ) (m : Message) → message_of payload ≡ m → OfByte (byte_in Outward payload m) (λ byte. byte ≡ taken % 256) → Sends taken Outward payload
out_plain taken payload m e p = subst (λ (x : Message). OfByte (byte_in Outward payload x) (λ byte. byte ≡ taken % 256)) (sym e) p

out_asks : (taken : ℕ) → Sends taken Outward nonce_get
out_asks taken = out_plain taken nonce_get NonceGet nonce_asked tt

out_if : (taken : ℕ) (payload nonce : List ℕ) (b : Bool) → OfByte (byte_in Outward payload (cond b (NonceReport nonce) Other)) (λ byte. byte ≡ taken % 256)
out_if taken payload nonce true = tt
out_if taken payload nonce false = tt

out_reports : (taken : ℕ) (nonce : List ℕ) → Sends taken Outward (nonce_report nonce)
out_reports taken nonce = let r = report_is nonce in out_plain taken (nonce_report nonce) (cond r.0 (NonceReport nonce) Other) r.1 (out_if taken (nonce_report nonce) nonce r.0)

module _ (key : List ℕ) (node : ℕ) (account : Account) (old : Including) (way : Way account (seen_of old node)) (seens : node < length old.seen) (secures : node < length old.secure) where
  still : Takes node account old (quiet old)
  still = record { way = way; taken = omega arith; may = omega arith; sends = tt }

  asked_in : (exchange : Exchange) (b : Bool) → exchange.asked ≡ b → may_in (Some (asking old.key exchange b)) node ≤ may_in (Some exchange) node
  asked_in exchange true e = omega arith
  asked_in exchange false e =
      let before : may_in (Some exchange) node ≡ 1
      = ap (λ (a : Bool). cond (eqb exchange.node node) (cond a (waiting exchange.sender.pending) 1) 1) e ∙ both (eqb exchange.node node) 1 in
      let after = in_one (Some (asking old.key exchange false)) node in
      omega (arith, before, after)
    where
      both : (b : Bool) (n : ℕ) → cond b n n ≡ n
      both true n = refl
      both false n = refl

  scheme_in : (o : Option Exchange) → may_in (option_map (λ x. asking old.key x x.asked) o) node ≤ may_in o node
  scheme_in None = omega arith
  scheme_in (Some exchange) = asked_in exchange exchange.asked refl

  each_asks : (taken : ℕ) (b : Bool) → Each (Sends taken Outward) (asks b)
  each_asks taken true = tt
  each_asks taken false = (out_asks taken, tt)

  scheme_takes : Takes node account old (takes_scheme old)
  scheme_takes = record {
    way = way;
    taken = omega arith;
    may = let less = cond_less (is_secure old node) (may_in (option_map (λ x. asking old.key x x.asked) old.exchange) node) (may_in old.exchange node) (scheme_in old.exchange) in omega (arith, less);
    sends = each_asks (seen_of old node) (has_asked old.exchange);
  }

  gives_takes : (drawn : List ℕ) → Takes node account old (gives_nonce old node drawn)
  gives_takes drawn = record { way = way; taken = omega arith; may = omega arith; sends = (out_reports (seen_of old node) (nonce_given (account_of old.book node) drawn), tt) }

  -- what is sealed names the nonce that was taken
  sealed_sends : (keys : Keys) (s : ℕ) (sealer : Sending) (nonce drawn plain : List ℕ) → length drawn ≡ 8 → slice_index nonce 0 ≡ s % 256 → Sends s Outward (sealed_text keys drawn nonce sealer.ends plain)
  sealed_sends keys s sealer nonce drawn plain eight is =
      out_plain s (sealed_text keys drawn nonce sealer.ends plain) Sealed (message_of_sealed keys drawn nonce sealer.ends plain eight) (named_in_sealed keys drawn nonce sealer.ends plain eight ∙ is)

  nonce_by : (exchange : Exchange) (nonce drawn : List ℕ) → length drawn ≡ 8 → exchange.node ≡ node → is_secure old node ≡ false → old.exchange ≡ Some exchange
      → Near_number account.given account.given (slice_index nonce 0)
      → (exchange.sender.seen ≡ seen_of old node) × (exchange.asked ≡ false → exchange.sender.pending ≡ None)
      → (p : Option (List ℕ)) → exchange.sender.pending ≡ p → (o : Option ℕ) → taken_from p exchange.sender.seen (slice_index nonce 0) ≡ o
      → Takes node account old (record {
        includer = record old {
          seen = set old.seen exchange.node (sealer_by exchange.sender o).seen;
          exchange = Some (let x : Exchange = record exchange { sender = sealer_by exchange.sender o } in x);
        };
        replies = option_to_list (sent_by exchange.sender (keys_of temporary_key) nonce drawn o p);
      })
  nonce_by exchange nonce drawn eight it insecure under near c p e None f =
      let new : slice_index (set old.seen exchange.node exchange.sender.seen) node ≡ exchange.sender.seen
      = ap (λ (n : ℕ). get_or (set old.seen n exchange.sender.seen) node 0) it ∙ get_or-set_same old.seen node exchange.sender.seen 0 seens in
      let same : slice_index (set old.seen exchange.node exchange.sender.seen) node ≡ seen_of old node = new ∙ c.0 in
      let more : may_in (Some exchange) node ≡ may_in old.exchange node = ap (λ (x : Option Exchange). may_in x node) (sym under) in
      let less = cond_less (is_secure old node) (may_in (Some exchange) node) (may_in old.exchange node) (omega (arith, more)) in
      record {
        way = subst (λ (n : ℕ). Way account n) (sym same) way;
        taken = omega (arith, same);
        may = omega (arith, same, less);
        sends = none_sent p;
      }
    where
      none_sent : (p : Option (List ℕ)) → Each (Sends (slice_index (set old.seen exchange.node exchange.sender.seen) node) Outward) (option_to_list (sent_by exchange.sender (keys_of temporary_key) nonce drawn None p))
      none_sent None = tt
      none_sent (Some plain) = tt
  nonce_by exchange nonce drawn eight it insecure under near c None e (Some s) f = absurd (no_some refl f)
  nonce_by exchange nonce drawn eight it insecure under near c (Some plain) e (Some s) f =
      let new : slice_index (set old.seen exchange.node s) node ≡ s = ap (λ (n : ℕ). get_or (set old.seen n s) node 0) it ∙ get_or-set_same old.seen node s 0 seens in
      let is = seen_is (seen_of old node) (slice_index nonce 0) s (ap (λ (n : ℕ). seen_after n (slice_index nonce 0)) (sym c.0) ∙ f) in
      let asked : exchange.asked ≡ true = is_asked exchange.asked refl in
      let next : Exchange = record exchange { sender = sealer_by exchange.sender (Some s) } in
      let after : may_in (Some (record exchange { sender = sealer_by exchange.sender (Some s) })) node ≡ 0
      = in_this (record exchange { sender = sealer_by exchange.sender (Some s) }) node it ∙ ap (λ (b : Bool). cond b 0 1) asked in
      let before : may_in old.exchange node ≡ 1
      = ap (λ (x : Option Exchange). may_in x node) under ∙ (in_this exchange node it ∙ (ap (λ (b : Bool). cond b (waiting exchange.sender.pending) 1) asked ∙ ap waiting e)) in
      let old_more : may_more old node ≡ 1 = ap (λ (b : Bool). cond b 0 (may_in old.exchange node)) insecure ∙ before in
      let new_more : cond (is_secure old node) 0 (may_in (Some (record exchange { sender = sealer_by exchange.sender (Some s) })) node) ≡ 0
      = ap (λ (b : Bool). cond b 0 (may_in (Some (record exchange { sender = sealer_by exchange.sender (Some s) })) node)) insecure ∙ after in
      record {
        way = subst (λ (n : ℕ). Way account n) (sym new) (way_takes account (seen_of old node) s (slice_index nonce 0) way near is);
        taken = omega (arith, new, is.1);
        may = omega (arith, new, is.2, old_more, new_more);
        sends = (
          subst (λ (n : ℕ). Sends n Outward (sealed_text (keys_of temporary_key) drawn nonce exchange.sender.ends plain)) (sym new) (sealed_sends (keys_of temporary_key) s exchange.sender nonce drawn plain eight is.0),
          tt,
        );
      }
    where
      is_asked : (b : Bool) → exchange.asked ≡ b → exchange.asked ≡ true
      is_asked true a = a
      is_asked false a = absurd (no_some (c.1 a) e)

  is_from : (exchange : Exchange) → is_with (Some exchange) node ≡ true → exchange.node ≡ node
  is_from exchange e = eqb-true exchange.node node e

  nonce_takes : (nonce drawn : List ℕ) → length drawn ≡ 8 → is_with old.exchange node ≡ true → is_secure old node ≡ false → Near_number account.given account.given (slice_index nonce 0)
      → Counting node (seen_of old node) old.exchange → (x : Option Exchange) → old.exchange ≡ x → Takes node account old (takes_nonce old x nonce drawn)
  nonce_takes nonce drawn eight w insecure near c None e = still
  nonce_takes nonce drawn eight w insecure near c (Some exchange) e =
      let it : exchange.node ≡ node = is_from exchange (subst (λ (o : Option Exchange). is_with o node ≡ true) e w) in
      let count : Counting node (seen_of old node) (Some exchange) = subst (λ (o : Option Exchange). Counting node (seen_of old node) o) e c in
      nonce_by exchange nonce drawn eight it insecure e near (count it) exchange.sender.pending refl (taken exchange.sender (slice_index nonce 0)) refl

  sealed_takes : (payload : List ℕ) (b : Bool) → Takes node account old (quiet (verified (spending old node payload) node b))
  sealed_takes payload true =
      let now : is_secure (verified (spending old node payload) node true) node ≡ true = get_or-set_same old.secure node true false secures in
      let none : may_more (verified (spending old node payload) node true) node ≡ 0 = ap (λ (b : Bool). cond b 0 1) now in
      record { way = way; taken = omega arith; may = omega (arith, none); sends = tt }
  sealed_takes payload false = record { way = way; taken = omega arith; may = omega arith; sends = tt }

  message_takes : (payload drawn : List ℕ) → length drawn ≡ 8 → is_with old.exchange node ≡ true → is_secure old node ≡ false → Counting node (seen_of old node) old.exchange
      → (m : Message) → OfByte (byte_in Homeward payload m) (λ byte. Near_number account.given account.given byte) → Takes node account old (takes_message old node payload drawn m)
  message_takes payload drawn eight w insecure c SchemeGet near = still
  message_takes payload drawn eight w insecure c SchemeReport near = scheme_takes
  message_takes payload drawn eight w insecure c NonceGet near = gives_takes drawn
  message_takes payload drawn eight w insecure c (NonceReport nonce) near = nonce_takes nonce drawn eight w insecure near c old.exchange refl
  message_takes payload drawn eight w insecure c Sealed near =
      sealed_takes payload (is_verified (held_in old node payload (nonce_spent (account_of old.book node) (nonce_named payload))))
  message_takes payload drawn eight w insecure c Other near = still

  insecure_at : (o : Option Exchange) → is_with o node ≡ true → Setting key node (is_secure old node) o → is_secure old node ≡ false
  insecure_at None w s = absurd cc
  insecure_at (Some exchange) w s = (s (is_from exchange w)).insecure

  takes_if : (payload drawn : List ℕ) → length drawn ≡ 8 → Setting key node (is_secure old node) old.exchange → Counting node (seen_of old node) old.exchange
      → OfByte (byte_in Homeward payload (message_of payload)) (λ byte. Near_number account.given account.given byte)
      → (b : Bool) → is_with old.exchange node ≡ b → Takes node account old (cond b (takes_message old node payload drawn (message_of payload)) (quiet old))
  takes_if payload drawn eight setting c near true e = message_takes payload drawn eight e (insecure_at old.exchange e setting) c (message_of payload) near
  takes_if payload drawn eight setting c near false e = still

  pub host_takes : (payload drawn : List ℕ) → length drawn ≡ 8 → Setting key node (is_secure old node) old.exchange → Counting node (seen_of old node) old.exchange
      → OfByte (byte_in Homeward payload (message_of payload)) (λ byte. Near_number account.given account.given byte) → Takes node account old (includer_takes old node payload drawn)
  unfolding includer_takes
  host_takes payload drawn eight setting c near = takes_if payload drawn eight setting c near (is_with old.exchange node) refl

-- ---- a payload of another node

with_before : (o : Option Exchange) (node from : ℕ) → (node ≡ from → ⊥) → is_with o from ≡ true → may_in o node ≡ 1
with_before None node from differ w = refl
with_before (Some exchange) node from differ w = in_other exchange node (λ it. differ (sym it ∙ eqb-true exchange.node from w))

away_if : (node : ℕ) (old : Including) (from : ℕ) (payload drawn : List ℕ) → (node ≡ from → ⊥) → (b : Bool) → is_with old.exchange from ≡ b
    → may_in (cond b (takes_message old from payload drawn (message_of payload)) (quiet old)).includer.exchange node ≤ may_in old.exchange node
away_if node old from payload drawn differ true e =
    let before = with_before old.exchange node from differ e in
    let after = in_one (takes_message old from payload drawn (message_of payload)).includer.exchange node in
    omega (arith, before, after)
away_if node old from payload drawn differ false e = omega arith

pub may_away : (node : ℕ) (old : Including) (from : ℕ) (payload drawn : List ℕ) → (node ≡ from → ⊥) → seen_of (includer_takes old from payload drawn).includer node ≡ seen_of old node
    → is_secure (includer_takes old from payload drawn).includer node ≡ is_secure old node → may_of (includer_takes old from payload drawn).includer node ≤ may_of old node
unfolding includer_takes
may_away node old from payload drawn differ seen secure =
    let next : Including = (cond (is_with old.exchange from) (takes_message old from payload drawn (message_of payload)) (quiet old)).includer in
    let less = cond_less (is_secure old node) (may_in next.exchange node) (may_in old.exchange node) (away_if node old from payload drawn differ (is_with old.exchange from) refl) in
    let same : may_more next node ≡ cond (is_secure old node) 0 (may_in next.exchange node) = ap (λ (b : Bool). cond b 0 (may_in next.exchange node)) secure in
    omega (arith, seen, same, less)

-- ---- time

pub may_ends : (host : Including) (node : ℕ) → may_of (record host { exchange = exchange_after host.exchange }) node ≤ may_of host node + 1
may_ends host node = let one = more_one (record host { exchange = exchange_after host.exchange }) node in omega (arith, one)
