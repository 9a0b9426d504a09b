-- What the host comes to as it judges a payload of a lock among what asks it for nothing: a text is sealed, a nonce waits, or the session is over.
use Rattle.std.proofs.Common.{◌≡◌, ◌≤◌, ◌<◌, ℕ, inl, inr, Some, None, List, [], ◌∷◌, ◌++◌, length, refl, sym, ap, ◌∙◌, subst, arith}
use Rattle.std.specs.Prelude.{◌⊎◌, slice_index}
use Rattle.std.specs.List.{AllByRecursion}
use Rattle.zw_base.proofs.Each.{all-left, all-right}
use Rattle.class_info.specs.InfoSpelling.{form}
use Rattle.class_info.specs.declared.message.InfoMessage.TheVariants.{NonceGet}
use Rattle.s0_crypto.specs.Sealing.{keys_of, sealed_text}
use Rattle.s0_crypto.specs.declared.key_pair.Keys.{Keys}
use Rattle.s0_session.specs.Nonces.{account_of, live_of}
use Rattle.s0_session.specs.Sending.{seen_after}
use Rattle.s0_session.specs.declared.account.Account.{Account}
use Rattle.supervision.specs.Host.{open_session}
use Rattle.supervision.specs.Session.{wire_id}
use Rattle.chip_functions.specs.Field.{IsNode}
use Rattle.device_sim.specs.State.{State}
use Rattle.host_heard.specs.Telling.{heard_at}
use Rattle.host_requests.specs.State.{RequestsState}
use Rattle.host_requests.specs.declared.task.Task.TheVariants as task
use Rattle.host_node.specs.State.{NodeState}
use Rattle.host_node.specs.TableState.{node_of as node_among}
use Rattle.host_model.specs.Did.{MayAll, after_all}
use Rattle.host_model.specs.Events.{Finishes, HostEvent, Is_unkept}
use Rattle.host_model.specs.Facts.{HostFacts}
use Rattle.host_model.specs.State.{HostState, node_of}
use Rattle.host_model.specs.Taking.{PayloadEvents, ends_from}
use Rattle.host_model.proofs.EventLists.{after_all-append}
use Rattle.proof_course.specs.HostNonces as host
use Rattle.proof_messages.specs.Numbers.{HasGiven}
use Rattle.proof_answered.proofs.Ending.{handler_payload}
use Rattle.proof_answered.proofs.Followed.{payload_all}
use Rattle.proof_in_time.specs.Coming.{IsKept}
use Rattle.proof_in_time.specs.Exchange.{EndsForLive, IsCounted, IsElse, IsForLive, ShowsLive, TextWaits}
use Rattle.proof_in_time.specs.Reporting.{EndsSealed, EndsSession, IsOver}
use Rattle.proof_in_time.specs.SealedHosts.{HasOffer, IsLost, SealsForLive}
use Rattle.proof_in_time.proofs.ExchangeOwedHost.{AsideLaw, StaysFor, all_told, quiet_calm, quiet_stays}
use Rattle.proof_in_time.proofs.InHand.{same_open}
use Rattle.proof_in_time.proofs.JudgedAmong.{AllQuiet, Among, Quiet}
use Rattle.proof_in_time.proofs.JudgedWaits.{IsTold, told_followers}
use Rattle.proof_in_time.proofs.PartsCalm.{Calm, HasPlaces, Runs, calm_asks, calm_leaves, events_keep, told_runs}
use Rattle.proof_in_time.proofs.PartsKept.{event_as}
use Rattle.proof_in_time.proofs.SealedHosts.{IsAsked, Takes, get_offers, nonce_seals, sealed_over}
use Rattle.proof_in_time.proofs.SealedReports.{Opens, sealed_ends}

-- ---- parts of what happens

may_parts : (h : HostState) (a b : List HostEvent) → MayAll h (a ++ b) → MayAll h a × MayAll (after_all h a) b
may_parts h [] b may = (tt, may)
may_parts h (event ∷ a) b may = let rest = may_parts (after_all h (event ∷ [])) a b may.1 in ((may.0, rest.0, may.2), rest.1)

all_calm : (events : List HostEvent) → AllByRecursion Quiet events → AllByRecursion Calm events
all_calm [] all = tt
all_calm (event ∷ events) all = (quiet_calm event all.0, all_calm events all.1)

-- nothing comes to wait, or goes
calm_queue : (h : HostState) (events : List HostEvent) → AllByRecursion Calm events → (after_all h events).requests.queue ≡ h.requests.queue
calm_queue h [] calm = refl
calm_queue h (event ∷ events) calm = calm_queue (after_all h (event ∷ [])) events calm.1 ∙ (event_as h event (calm_leaves h event calm.0) (calm_asks event calm.0)).0

-- ---- what the host has then

-- a text for the live nonce of the lock is to be given
pub record SealsThen (n session : ℕ) (device : State) (now : HostState) : Type 0 where
  pub payload : List ℕ
  pub queue : now.requests.queue ≡ []
  pub text : (node_of now n).text ≡ Some payload
  pub is : IsForLive session device payload

-- its own live nonce is
pub record OffersThen (n : ℕ) (now : HostState) : Type 0 where
  pub nonce : List ℕ
  pub queue : now.requests.queue ≡ task.Offer n nonce ∷ []
  pub no_text : (node_of now n).text ≡ None
  pub live : live_of now.nonces n ≡ Some nonce

-- its attempt runs on, for the same session
pub record RunsOn (n : ℕ) (old new : HostState) : Type 0 where
  pub series : (node_of new n).series ≡ (node_of old n).series
  pub book : (node_of new n).book ≡ (node_of old n).book

-- what is proved of the facts of a host over its events
abbrev pub FactsLaw : Type 0
FactsLaw = (h : HostState) (events : List HostEvent) → HostFacts h → MayAll h events → HostFacts (after_all h events)

module _ (aside : AsideLaw) (facts_law : FactsLaw) (n : ℕ) (is_node : IsNode n) (h : HostState) (events : List HostEvent) (payload : List ℕ) (some : 1 ≤ length payload) (a : Among AllQuiet n payload h events) (facts : HostFacts h) (may : MayAll h events)
    (keeps : AllByRecursion IsKept events) where
  below : n < 233
  below = let few = is_node.1 in omega (arith, few)

  -- the host that has heard it, and what follows that
  abbrev heard : HostState
  heard = after_all h a.front

  abbrev taken : HostState
  taken = after_all (after_all h a.front) a.own

  pub ends_at : after_all h events ≡ after_all (after_all (after_all h a.front) a.own) a.behind
  ends_at = ap (λ (l : List HostEvent). after_all h l) a.are ∙ (after_all-append h a.front (a.own ++ a.behind) ∙ after_all-append (after_all h a.front) a.own a.behind)

  both_may : MayAll h a.front × MayAll (after_all h a.front) (a.own ++ a.behind)
  both_may = may_parts h a.front (a.own ++ a.behind) (subst (MayAll h) a.are may)

  may_own : MayAll (after_all h a.front) a.own
  may_own = (may_parts (after_all h a.front) a.own a.behind both_may.1).0

  keeps_own : AllByRecursion IsKept a.own
  keeps_own = all-left IsKept a.own a.behind (all-right IsKept a.front (a.own ++ a.behind) (subst (AllByRecursion IsKept) a.are keeps))

  facts_heard : HostFacts (after_all h a.front)
  facts_heard = facts_law h a.front facts both_may.0

  inside : n < length (after_all h a.front).nodes
  inside = let places = facts_heard.nodes.places in let few = below in omega (arith, places, few)

  follows : PayloadEvents (after_all h a.front) n payload (heard_at payload) a.own
  follows = handler_payload (after_all h a.front) n payload a.own is_node some a.follows

  own_runs : HasPlaces (after_all (after_all h a.front) a.own) × (Runs n (after_all (after_all h a.front) a.own) → Runs n (after_all h a.front))
  own_runs = told_runs n below (after_all h a.front) a.own (payload_all IsTold n (told_followers n) (after_all h a.front) payload (heard_at payload) a.own (λ tells. tt) follows) facts_heard.nodes.places

  pub taken_places : HasPlaces (after_all (after_all h a.front) a.own)
  taken_places = own_runs.0

  -- where an attempt runs in the end, it did
  pub ran : Runs n (after_all h events) → Runs n (after_all h a.front) × Runs n (after_all (after_all h a.front) a.own)
  ran run =
      let then_run = (told_runs n below (after_all (after_all h a.front) a.own) a.behind (all_told a.behind a.last) own_runs.0).1 (subst (Runs n) ends_at run) in
      (own_runs.1 then_run, then_run)

  -- ---- what happens behind leaves what the host has then

  behind_stays : Runs n (after_all h events) → StaysFor n (after_all (after_all h a.front) a.own) (after_all h events)
  behind_stays run =
      subst (StaysFor n (after_all (after_all h a.front) a.own)) (sym ends_at) (quiet_stays aside n below (after_all (after_all h a.front) a.own) a.behind a.last own_runs.0 (subst (Runs n) ends_at run))

  pub seals_end : (session : ℕ) (device : State) → Runs n (after_all h events) → SealsThen n session device (after_all (after_all h a.front) a.own) → SealsThen n session device (after_all h events)
  seals_end session device run seals = let st = behind_stays run in record { payload = seals.payload; queue = st.queue ∙ seals.queue; text = st.text ∙ seals.text; is = seals.is }

  pub offers_end : Runs n (after_all h events) → OffersThen n (after_all (after_all h a.front) a.own) → OffersThen n (after_all h events)
  offers_end run offers =
      let st = behind_stays run in
      record { nonce = offers.nonce; queue = st.queue ∙ offers.queue; no_text = st.text ∙ offers.no_text; live = ap (λ (account : Account). account.live) st.account ∙ offers.live }

  -- and what waits to be given, where what follows it leaves that
  pub queue_end : AllByRecursion Calm a.own → (after_all h events).requests.queue ≡ h.requests.queue
  queue_end calm =
      ap (λ (g : HostState). g.requests.queue) ends_at ∙ (calm_queue (after_all (after_all h a.front) a.own) a.behind (all_calm a.behind a.last) ∙ (calm_queue (after_all h a.front) a.own calm ∙ calm_queue h a.front (all_calm a.front a.first)))

  -- ---- what it makes of it

  module _ (run_heard : Runs n (after_all h a.front)) where
    before : StaysFor n h (after_all h a.front)
    before = quiet_stays aside n below h a.front a.first facts.nodes.places run_heard

    -- it shows the live nonce of the lock, for which a message waits
    pub shown_taken : Takes → (session : ℕ) (device : State) → h.keys ≡ keys_of device.key → device.node ≡ n → IsElse n h → TextWaits n session h → (shows : ShowsLive device payload) → IsCounted n h shows.nonce
        → SealsThen n session device (after_all (after_all h a.front) a.own) × RunsOn n (after_all h a.front) (after_all (after_all h a.front) a.own)
    shown_taken takes session device keys own other waits shows counted =
        by (nonce_seals takes n session (after_all h a.front) device payload a.own facts_heard is_node.0 is_node.1 (before.keys ∙ keys) own still_waits shows still_counted follows may_own)
      where
        still_waits : TextWaits n session (after_all h a.front)
        still_waits = record { plain = waits.plain; waits = before.pending ∙ waits.waits; message = waits.message }

        still_counted : IsCounted n (after_all h a.front) shows.nonce
        still_counted = record { seen = counted.seen; counts = ap (λ (k : ℕ). seen_after k (slice_index shows.nonce 0)) before.seen ∙ counted.counts; eight = counted.eight }

        by : (a.own ≡ Is_unkept n ∷ []) ⊎ SealsForLive n session device (after_all h a.front) a.own → SealsThen n session device (after_all (after_all h a.front) a.own) × RunsOn n (after_all h a.front) (after_all (after_all h a.front) a.own)
        by (inl unkept) = absurd ((subst (AllByRecursion IsKept) unkept keeps_own).0)
        by (inr seals) = (
          record {
            payload = seals.text;
            queue = ap (λ (r : RequestsState). r.queue) seals.sealed.requests ∙ (before.queue ∙ other.no_task);
            text = ap (λ (x : NodeState). x.text) seals.sealed.node;
            is = seals.is;
          },
          record { series = ap (λ (x : NodeState). x.series) seals.sealed.node; book = ap (λ (x : NodeState). x.book) seals.sealed.node },
        )

    -- it asks for a nonce
    pub asked_taken : IsAsked → IsElse n h → payload ≡ form NonceGet → OffersThen n (after_all (after_all h a.front) a.own) × RunsOn n (after_all h a.front) (after_all (after_all h a.front) a.own)
    asked_taken asked other text = by (get_offers asked (after_all h a.front) n payload a.own facts_heard is_node.1 (before.queue ∙ other.no_task) text follows may_own)
      where
        by : (a.own ≡ Is_unkept n ∷ []) ⊎ HasOffer n (after_all h a.front) (after_all (after_all h a.front) a.own) → OffersThen n (after_all (after_all h a.front) a.own) × RunsOn n (after_all h a.front) (after_all (after_all h a.front) a.own)
        by (inl unkept) = absurd ((subst (AllByRecursion IsKept) unkept keeps_own).0)
        by (inr offers) = (
          record {
            nonce = offers.nonce;
            queue = offers.queue;
            no_text = ap (λ (nodes : List NodeState). (node_among nodes n).text) offers.nodes ∙ (before.text ∙ other.no_text);
            live = offers.live;
          },
          record { series = ap (λ (nodes : List NodeState). (node_among nodes n).series) offers.nodes; book = ap (λ (nodes : List NodeState). (node_among nodes n).book) offers.nodes },
        )

    -- it tells the end: then the attempt runs no more, and nothing comes to wait
    pub report_taken : Opens → (session : ℕ) (nonces : List (List ℕ)) (c : host.Nonces) → HasGiven nonces c.given c.is_live (account_of h.nonces n) → open_session (node_of h n).book ≡ Some session → EndsForLive n session h payload
        → IsOver (node_of (after_all (after_all h a.front) a.own) n) × AllByRecursion Calm a.own
    report_taken opens session nonces c gave opened ends = (by (sealed_over (after_all h a.front) n session a.own inside still_open ends_so), calm ends_so)
      where
        still_ends : EndsForLive n session (after_all h a.front) payload
        still_ends = record {
          plain = ends.plain;
          status = ends.status;
          over = ends.over;
          tells = ends.tells;
          few = ends.few;
          own = ends.own;
          nonce = ends.nonce;
          eight = ends.eight;
          live = ap (λ (account : Account). account.live) before.account ∙ ends.live;
          is = ends.is ∙ ap (λ (keys : Keys). sealed_text keys ends.own ends.nonce (ends_from n) ends.plain) (sym before.keys);
        }

        still_open : open_session (node_of (after_all h a.front) n).book ≡ Some session
        still_open =
            let k = events_keep n below h a.front (all_calm a.front a.first) facts.nodes.places run_heard in
            same_open (node_of h n).book (node_of (after_all h a.front) n).book k.node.commands_are k.outcome ∙ opened

        ends_so : EndsSealed n session a.own
        ends_so = sealed_ends opens n session nonces c (after_all h a.front) payload a.own (subst (HasGiven nonces c.given c.is_live) (sym before.account) gave) still_ends still_open follows

        then_calm : (rest : List HostEvent) → EndsSession n session rest → AllByRecursion Calm rest
        then_calm rest over = either over.are
          where
            either : (rest ≡ Finishes n session (wire_id session) over.command over.status over.wakes ∷ []) ⊎ (rest ≡ Is_unkept n ∷ []) → AllByRecursion Calm rest
            either (inl is) = subst (AllByRecursion Calm) (sym is) (tt, tt)
            either (inr is) = subst (AllByRecursion Calm) (sym is) (tt, tt)

        calm : EndsSealed n session a.own → AllByRecursion Calm a.own
        calm (inl unkept) = subst (AllByRecursion Calm) (sym unkept) (tt, tt)
        calm (inr (rest, (are, over))) = subst (AllByRecursion Calm) (sym are) (tt, then_calm rest over)

        by : IsLost n a.own ⊎ IsOver (node_of (after_all (after_all h a.front) a.own) n) → IsOver (node_of (after_all (after_all h a.front) a.own) n)
        by (inl (inl unkept)) = absurd ((subst (AllByRecursion IsKept) unkept keeps_own).0)
        by (inl (inr lost)) = absurd ((subst (AllByRecursion IsKept) lost keeps_own).1.0)
        by (inr over) = over
