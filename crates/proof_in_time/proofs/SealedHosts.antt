-- The host in the sealed exchange with a lock: what it submits, what it takes, and what it has then.
use Rattle.std.proofs.Common.{◌≡◌, ◌≤◌, ◌<◌, ℕ, inl, inr, Bool, true, false, if◌then◌else◌, List, [], ◌∷◌, ◌++◌, length, refl, sym, ap, ◌∙◌, subst, arith}
use Rattle.std.proofs.lemmas.List.{get_or-set_same}
use Rattle.std.specs.Prelude.{◌⊎◌, IsSome, Option, Some, None, nat_le, slice_index}
use Rattle.class_info.specs.InfoSpelling.{form}
use Rattle.class_info.specs.declared.message.InfoMessage.TheVariants.{NonceGet}
use Rattle.encap.specs.declared.plan.Outer.{Outer}
use Rattle.s0_crypto.specs.Sealing.{keys_of, sealed_text}
use Rattle.s0_crypto.specs.declared.key_pair.Keys.{Keys}
use Rattle.s0_crypto.proofs.SealingLemmas.{sealed_is}
use Rattle.s0_session.specs.Nonces.{account_of, after_give, live_of, nonce_given, unused}
use Rattle.s0_session.specs.Sending.{seen_after}
use Rattle.s0_session.specs.declared.account.Account.{Account}
use Rattle.supervision.specs.Host.{open_session}
use Rattle.supervision.specs.Session.{wire_id}
use Rattle.device_sim.specs.State.{State}
use Rattle.host_heard.specs.Telling.{heard_at}
use Rattle.host_requests.specs.Events.{task_begun}
use Rattle.host_requests.specs.Events.RequestsEvent.{Pushes}
use Rattle.host_requests.specs.Frames.{frame_of}
use Rattle.host_requests.specs.State.{next_id}
use Rattle.host_requests.specs.declared.task.Purpose.TheVariants.{Attempt, Housekeeping}
use Rattle.host_requests.specs.declared.task.Task.{Task}
use Rattle.host_requests.specs.declared.task.Task.TheVariants.{Offer}
use Rattle.host_requests.specs.declared.under_way.Progress.TheVariants.{Submitted}
use Rattle.host_node.specs.Search.{next_of}
use Rattle.host_node.specs.State.{NodeState, SealsText, ends_to, has_work, unknown}
use Rattle.host_node.specs.Steps.{after_nonce, after_start, after_text}
use Rattle.host_node.specs.declared.attempt.Plan.{Plan}
use Rattle.host_node.specs.declared.attempt.Plan.TheVariants.{Sealed}
use Rattle.host_node.specs.declared.series.Series.{Series}
use Rattle.host_node.specs.declared.series.Series.TheVariants as series
use Rattle.host_model.specs.After.{after, giving, offering, queues_if_room, requests_do, task_purpose}
use Rattle.host_model.specs.Did.{MayAll, after_all}
use Rattle.host_model.specs.Events.{HostEvent, Finishes, Gives as host_gives, Gives_text, Is_unkept, Offers as host_offers, Spends, Starts, Submits_front, Takes_nonce}
use Rattle.host_model.specs.Facts.{HostFacts}
use Rattle.host_model.specs.May.{IsStart, May}
use Rattle.host_model.specs.Pumping.{GivesNext, HasNothing, IsNext, IsNextOf, IsNextOfNodes, IsServedBy}
use Rattle.host_model.specs.Sessions.{message_for, start_by}
use Rattle.host_model.specs.State.{HostState, node_of}
use Rattle.host_model.specs.Taking.{IsKeptOr, PayloadEvents}
use Rattle.host_orders.specs.Wrapping.{form_of}
use Rattle.world_model.specs.Events.{Host_does, happens}
use Rattle.world_model.specs.State.{Machine}
use Rattle.proof_messages.specs.Payloads.{report_of}
use Rattle.proof_messages.proofs.LockSessions.{some_same}
use Rattle.proof_messages.proofs.SealedByNumber.{sealed_length}
use Rattle.proof_course_sealed.specs.Exchange.{GivesOne, Gives_new, Keeps_none, Offers_live, TakesOne}
use Rattle.proof_answered.specs.proof_calm.Tied.{on_line}
use Rattle.proof_answered.proofs.TurnOrder.{none_works}
use Rattle.proof_in_time.specs.Exchange.{By_attempt, By_offer, Given, IsCounted, IsForLive, ShowsLive, TextWaits}
use Rattle.proof_in_time.specs.Reporting.{EndsSealed, IsOver}
use Rattle.proof_in_time.specs.SealedHosts.{GoesSealed, HasOffer, HasSealed, HasSubmitted, IsLost, SealsForLive}
use Rattle.proof_in_time.proofs.Reported.{session_over}

-- ---- a part of an attempt is submitted

-- the host after an event of its own
host_then : (m : Machine) (event : HostEvent) → (happens m (Host_does event)).host.state ≡ after m.host.state event
unfolding happens
host_then m event = refl

module _ (n : ℕ) (passes ticks : ℕ) (m : Machine) (within : n < length m.host.state.nodes) (empty : m.host.state.requests.queue ≡ []) (Is : List ℕ → Type 0) (payload : List ℕ) (is : Is payload) (later : Machine) where
  abbrev Comes : NodeState → Type 0
  Comes now = HasSubmitted n Is now m.host.state passes ticks later

  -- the sealed text
  text_out : later.host.state ≡ after m.host.state (Gives_text n payload) → Comes (after_text (node_of m.host.state n))
  text_out all = record {
    out = λ left some.
        Given (record { purpose = Attempt n false payload; progress = Submitted }) payload tt (ap (λ (g : HostState). g.requests.under_way) all) (By_attempt false refl)
        (ap (λ (g : HostState). on_line g.side.turn) all ∙ ap (λ (g : HostState). frame_of (Attempt n false payload) g.requests.last_id ∷ []) (sym all)) is some;
    other = record { no_task = ap (λ (g : HostState). g.requests.queue) all ∙ empty; no_text = ap (λ (x : NodeState). x.text) node };
    node = node;
    nonces = ap (λ (g : HostState). g.nonces) all;
  }
    where
      node : node_of later.host.state n ≡ after_text (node_of m.host.state n)
      node = ap (λ (g : HostState). node_of g n) all ∙ get_or-set_same m.host.state.nodes n (after_text (node_of m.host.state n)) (unknown 0) within

  -- the Nonce Get
  start_out : (plain : List ℕ) → (node_of m.host.state n).text ≡ None → later.host.state ≡ after m.host.state (Starts n (Sealed plain) false payload) → Comes (after_start (node_of m.host.state n) (Sealed plain))
  start_out plain no_text all = record {
    out = λ left some.
        Given (record { purpose = Attempt n false payload; progress = Submitted }) payload tt (ap (λ (g : HostState). g.requests.under_way) all) (By_attempt false refl)
        (ap (λ (g : HostState). on_line g.side.turn) all ∙ ap (λ (g : HostState). frame_of (Attempt n false payload) g.requests.last_id ∷ []) (sym all)) is some;
    other = record { no_task = ap (λ (g : HostState). g.requests.queue) all ∙ empty; no_text = ap (λ (x : NodeState). x.text) node ∙ no_text };
    node = node;
    nonces = ap (λ (g : HostState). g.nonces) all;
  }
    where
      node : node_of later.host.state n ≡ after_start (node_of m.host.state n) (Sealed plain)
      node = ap (λ (g : HostState). node_of g n) all ∙ get_or-set_same m.host.state.nodes n (after_start (node_of m.host.state n) (Sealed plain)) (unknown 0) within

-- what is submitted
text_next : (n : ℕ) (h : HostState) (payload : List ℕ) (event : HostEvent) → ((k : ℕ) → next_of h.nodes h.served ≡ Some k → k ≡ n) → (node_of h n).series ≡ series.Running → h.requests.owes ≡ false → h.requests.queue ≡ []
    → (node_of h n).text ≡ Some payload → IsNext h event → event ≡ Gives_text n payload
text_next n h payload event alone running paid empty text next =
    by (next_of h.nodes h.served) refl (subst (λ (queue : List Task). IsNextOf h false queue event) empty (subst (λ (b : Bool). IsNextOf h b h.requests.queue event) paid next.1))
  where
    served : (k : ℕ) → k ≡ n → IsServedBy h k (node_of h k).series event → event ≡ Gives_text n payload
    served k same is = subst (λ (t : Option (List ℕ)). GivesNext h n t event) text (subst (λ (s : Series). IsServedBy h n s event) running (subst (λ (j : ℕ). IsServedBy h j (node_of h j).series event) same is))

    by : (found : Option ℕ) → next_of h.nodes h.served ≡ found → IsNextOfNodes h found event → event ≡ Gives_text n payload
    by None found is = absurd is
    by (Some k) found is = served k (alone k found) is

front_next : (h : HostState) (task : Task) (event : HostEvent) → h.requests.owes ≡ false → h.requests.queue ≡ task ∷ [] → IsNext h event → event ≡ Submits_front
front_next h task event paid waits next = subst (λ (queue : List Task). IsNextOf h false queue event) waits (subst (λ (b : Bool). IsNextOf h b h.requests.queue event) paid next.1)

pub text_gives : (n : ℕ) (passes ticks : ℕ) (m : Machine) (event : HostEvent) (payload : List ℕ) (Is : List ℕ → Type 0) → n < length m.host.state.nodes → ((k : ℕ) → next_of m.host.state.nodes m.host.state.served ≡ Some k → k ≡ n)
    → (node_of m.host.state n).series ≡ series.Running → m.host.state.requests.owes ≡ false → m.host.state.requests.queue ≡ [] → (node_of m.host.state n).text ≡ Some payload → Is payload → IsNext m.host.state event
    → (event ≡ Gives_text n payload) × HasSubmitted n Is (after_text (node_of m.host.state n)) m.host.state passes ticks (happens m (Host_does event))
text_gives n passes ticks m event payload Is within alone running paid empty text is next =
    let this : event ≡ Gives_text n payload = text_next n m.host.state payload event alone running paid empty text next in
    (this, text_out n passes ticks m within empty Is payload is (happens m (Host_does event)) (host_then m event ∙ ap (after m.host.state) this))

-- ---- an attempt begins

pub get_starts : (n : ℕ) (passes ticks : ℕ) (m : Machine) (plan : Plan) (more : Bool) (payload : List ℕ) → n < length m.host.state.nodes → (is : IsStart m.host.state n plan more payload)
    → GoesSealed is.command.order is.command.carriage → m.host.state.requests.queue ≡ [] → (node_of m.host.state n).text ≡ None
    → HasSubmitted n (λ given. given ≡ form NonceGet) (after_start (node_of m.host.state n) plan) m.host.state passes ticks (happens m (Host_does (Starts n plan more payload)))
    × TextWaits n is.session (happens m (Host_does (Starts n plan more payload))).host.state
get_starts n passes ticks m plan more payload within is goes empty no_text = (
  subst (λ (p : Plan). HasSubmitted n (λ given. given ≡ form NonceGet) (after_start (node_of m.host.state n) p) m.host.state passes ticks later) (sym plan_is) there,
  record {
    plain = plain;
    waits = ap (λ (x : NodeState). x.pending) there.node;
    message = record { carriage = is.command.carriage; order = is.command.order; fit = goes.fit; end = goes.end; outer = goes.outer; is = refl };
  },
)
  where
    plain : List ℕ
    plain = message_for is.command is.session

    later : Machine
    later = happens m (Host_does (Starts n plan more payload))

    plan_is : plan ≡ Sealed plain
    plan_is = is.plan_is ∙ ap (λ (o : Outer). (start_by (form_of o) is.session plain).plan) goes.outer

    more_is : more ≡ false
    more_is = is.more_is ∙ ap (λ (o : Outer). (start_by (form_of o) is.session plain).more) goes.outer

    payload_is : payload ≡ form NonceGet
    payload_is = is.payload_is ∙ ap (λ (o : Outer). (start_by (form_of o) is.session plain).payload) goes.outer

    event_is : Starts n plan more payload ≡ Starts n (Sealed plain) false payload
    event_is = ap (λ (p : Plan). Starts n p more payload) plan_is ∙ ap (λ (b : Bool). Starts n (Sealed plain) b payload) more_is

    there : HasSubmitted n (λ given. given ≡ form NonceGet) (after_start (node_of m.host.state n) (Sealed plain)) m.host.state passes ticks later
    there =
        start_out n passes ticks m within empty (λ given. given ≡ form NonceGet) payload payload_is later plain no_text (host_then m (Starts n plan more payload) ∙ ap (after m.host.state) event_is)

-- ---- the nonce of the lock is taken

-- what is sealed for it
sealed_for_live : (n session seen : ℕ) (h : HostState) (device : State) (own nonce text : List ℕ) → h.keys ≡ keys_of device.key → (node_of h n).node ≡ device.node → TextWaits n session h → device.given.live ≡ Some nonce
    → SealsText (node_of h n) h.keys own nonce text → May h (Takes_nonce n seen text) → IsForLive session device text
sealed_for_live n session seen h device own nonce text keys number waits live seals (another, other, counts, also, eight) = record {
  plain = waits.plain;
  message = waits.message;
  own = own;
  nonce = nonce;
  eight = own_eight;
  live = live;
  is =
      sealed_is h.keys own nonce (ends_to (node_of h n).node) seals.plain text seals.seals
      ∙ (ap (λ (k : Keys). sealed_text k own nonce (ends_to (node_of h n).node) seals.plain) keys
      ∙ (ap (λ (j : ℕ). sealed_text (keys_of device.key) own nonce (ends_to j) seals.plain) number ∙ ap (λ (p : List ℕ). sealed_text (keys_of device.key) own nonce (ends_to device.node) p) plain));
}
  where
    plain : seals.plain ≡ waits.plain
    plain = some_same seals.plain waits.plain (sym seals.is_pending ∙ waits.waits)

    own_eight : length own ≡ 8
    own_eight =
        let one = sealed_length h.keys own nonce (ends_to (node_of h n).node) seals.plain text seals.seals in
        let two = sealed_length h.keys other another (ends_to (node_of h n).node) also.plain text also.seals in
        let long : length seals.plain ≡ length also.plain = ap length (some_same seals.plain also.plain (sym seals.is_pending ∙ also.is_pending)) in
        omega (arith, one, two, long, eight)

-- the law of what the host takes
abbrev pub Takes : Type 0
Takes = (h : HostState) (n seen : ℕ) (plain nonce payload : List ℕ) (events : List HostEvent) → length nonce ≡ 8 → payload ≡ report_of nonce → (node_of h n).pending ≡ Some plain → seen_after (node_of h n).seen (slice_index nonce 0) ≡ Some seen
    → PayloadEvents h n payload (heard_at payload) events → TakesOne n seen nonce h events

pub nonce_seals : Takes → (n session : ℕ) (h : HostState) (device : State) (payload : List ℕ) (events : List HostEvent) → HostFacts h → 1 ≤ n → n ≤ 232 → h.keys ≡ keys_of device.key → device.node ≡ n → TextWaits n session h
    → (shows : ShowsLive device payload) → IsCounted n h shows.nonce → PayloadEvents h n payload (heard_at payload) events → MayAll h events → (events ≡ Is_unkept n ∷ []) ⊎ SealsForLive n session device h events
nonce_seals takes n session h device payload events facts from to keys own waits shows counted follows may = by taken.are
  where
    taken : TakesOne n counted.seen shows.nonce h events
    taken = takes h n counted.seen waits.plain shows.nonce payload events counted.eight shows.is waits.waits counted.counts follows

    sealed : n < length h.nodes → HasSealed n counted.seen taken.text h (after h (Takes_nonce n counted.seen taken.text))
    sealed within = record { node = get_or-set_same h.nodes n (after_nonce (node_of h n) counted.seen taken.text) (unknown 0) within; requests = refl; nonces = refl }

    by : IsKeptOr (Takes_nonce n counted.seen taken.text) (Is_unkept n) events → (events ≡ Is_unkept n ∷ []) ⊎ SealsForLive n session device h events
    by (inr unkept) = inl unkept
    by (inl kept) =
        let may_it : MayAll h (Takes_nonce n counted.seen taken.text ∷ []) = subst (λ (es : List HostEvent). MayAll h es) kept may in
        let places = facts.nodes.places in
        inr (record {
          seen = counted.seen;
          text = taken.text;
          are = kept;
          is = sealed_for_live n session counted.seen h device taken.own shows.nonce taken.text keys (facts.nodes.numbers n from to ∙ sym own) waits shows.live taken.seals may_it.0;
          sealed = subst (λ (es : List HostEvent). HasSealed n counted.seen taken.text h (after_all h es)) (sym kept) (sealed (omega (arith, places, to)));
        })

-- ---- a nonce of the host

-- a task waits where none did
queued : (h : HostState) (task : Task) → h.requests.queue ≡ [] → queues_if_room h task ≡ requests_do h (Pushes task)
queued h task empty = ap (λ (b : Bool). if b then h else requests_do h (Pushes task)) (ap (λ (tasks : List Task). nat_le 64 (length tasks)) empty)

-- the live nonce
offer_waits : (h : HostState) (n : ℕ) (nonce : List ℕ) → h.requests.queue ≡ [] → live_of h.nonces n ≡ Some nonce → HasOffer n h (offering h n (live_of h.nonces n))
offer_waits h n nonce empty live = record {
  nonce = nonce;
  queue = ap (λ (g : HostState). g.requests.queue) all ∙ ap (λ (tasks : List Task). tasks ++ Offer n nonce ∷ []) empty;
  live = ap (λ (g : HostState). live_of g.nonces n) all ∙ live;
  nodes = ap (λ (g : HostState). g.nodes) all;
  under_way = ap (λ (g : HostState). g.requests.under_way) all;
}
  where
    all : offering h n (live_of h.nonces n) ≡ requests_do h (Pushes (Offer n nonce))
    all = ap (offering h n) live ∙ queued h (Offer n nonce) empty

-- a new one
gives_waits : (h : HostState) (n : ℕ) (drawn : List ℕ) → n < length h.nonces → h.requests.queue ≡ [] → HasOffer n h (after h (host_gives n drawn))
gives_waits h n drawn within empty = record { nonce = there.nonce; queue = there.queue; live = there.live; nodes = there.nodes; under_way = there.under_way }
  where
    live : live_of (giving h n drawn).nonces n ≡ Some (nonce_given (account_of h.nonces n) drawn)
    live = ap (λ (a : Account). a.live) (get_or-set_same h.nonces n (after_give (account_of h.nonces n) drawn) unused within)

    there : HasOffer n (giving h n drawn) (after h (host_gives n drawn))
    there = offer_waits (giving h n drawn) n (nonce_given (account_of h.nonces n) drawn) empty live

-- the law of what the host makes of a Nonce Get
abbrev pub IsAsked : Type 0
IsAsked = (h : HostState) (n : ℕ) (payload : List ℕ) (events : List HostEvent) → payload ≡ form NonceGet → PayloadEvents h n payload (heard_at payload) events → GivesOne n events

pub get_offers : IsAsked → (h : HostState) (n : ℕ) (payload : List ℕ) (events : List HostEvent) → HostFacts h → n ≤ 232 → h.requests.queue ≡ [] → payload ≡ form NonceGet → PayloadEvents h n payload (heard_at payload) events → MayAll h events
    → (events ≡ Is_unkept n ∷ []) ⊎ HasOffer n h (after_all h events)
get_offers asked h n payload events facts to empty text follows may = by (asked h n payload events text follows)
  where
    live : (o : Option (List ℕ)) → live_of h.nonces n ≡ o → IsSome o → HasOffer n h (after h (host_offers n))
    live (Some nonce) is some = offer_waits h n nonce empty is
    live None is some = absurd (let wrong : false ≡ true = some in cc)

    by : GivesOne n events → (events ≡ Is_unkept n ∷ []) ⊎ HasOffer n h (after_all h events)
    by (Offers_live are) =
        let may_it : MayAll h (host_offers n ∷ []) = subst (λ (es : List HostEvent). MayAll h es) are may in
        inr (subst (λ (es : List HostEvent). HasOffer n h (after_all h es)) (sym are) (live (live_of h.nonces n) refl may_it.0))
    by (Gives_new drawn eight are) =
        let many = facts.nonces in inr (subst (λ (es : List HostEvent). HasOffer n h (after_all h es)) (sym are) (gives_waits h n drawn (omega (arith, many, to)) empty))
    by (Keeps_none are) = inl are

-- it goes as the next request
offer_out : (n : ℕ) (passes ticks : ℕ) (m : Machine) (nonce : List ℕ) (Is : List ℕ → Type 0) (later : Machine) → later.host.state ≡ after m.host.state Submits_front → m.host.state.requests.queue ≡ Offer n nonce ∷ []
    → (node_of m.host.state n).text ≡ None → Is (report_of nonce) → HasSubmitted n Is (node_of m.host.state n) m.host.state passes ticks later
offer_out n passes ticks m nonce Is later all waits no_text is = record {
  out = λ left some. Given (record { purpose = Housekeeping (Offer n nonce); progress = Submitted }) (report_of nonce) tt under_way (By_offer nonce refl refl) line is some;
  other = record { no_task = ap (λ (g : HostState). g.requests.queue) all ∙ ap (λ (tasks : List Task). (task_begun m.host.state.requests tasks).queue) waits; no_text = ap (λ (x : NodeState). x.text) node ∙ no_text };
  node = node;
  nonces = ap (λ (g : HostState). g.nonces) all;
}
  where
    node : node_of later.host.state n ≡ node_of m.host.state n
    node = ap (λ (g : HostState). node_of g n) all

    under_way : later.host.state.requests.under_way ≡ Some (record { purpose = Housekeeping (Offer n nonce); progress = Submitted })
    under_way = ap (λ (g : HostState). g.requests.under_way) all ∙ ap (λ (tasks : List Task). (task_begun m.host.state.requests tasks).under_way) waits

    last : later.host.state.requests.last_id ≡ next_id m.host.state.requests.last_id
    last = ap (λ (g : HostState). g.requests.last_id) all ∙ ap (λ (tasks : List Task). (task_begun m.host.state.requests tasks).last_id) waits

    line : on_line later.host.state.side.turn ≡ frame_of (Housekeeping (Offer n nonce)) later.host.state.requests.last_id ∷ []
    line =
        ap (λ (g : HostState). on_line g.side.turn) all
        ∙ (ap (λ (tasks : List Task). frame_of (task_purpose tasks) (next_id m.host.state.requests.last_id) ∷ []) waits ∙ ap (λ (id : ℕ). frame_of (Housekeeping (Offer n nonce)) id ∷ []) (sym last))

pub offer_goes : (n : ℕ) (passes ticks : ℕ) (m : Machine) (event : HostEvent) (nonce : List ℕ) (Is : List ℕ → Type 0) → m.host.state.requests.owes ≡ false → m.host.state.requests.queue ≡ Offer n nonce ∷ []
    → (node_of m.host.state n).text ≡ None → Is (report_of nonce) → IsNext m.host.state event → (event ≡ Submits_front) × HasSubmitted n Is (node_of m.host.state n) m.host.state passes ticks (happens m (Host_does event))
offer_goes n passes ticks m event nonce Is paid waits no_text is next =
    let this : event ≡ Submits_front = front_next m.host.state (Offer n nonce) event paid waits next in
    (this, offer_out n passes ticks m nonce Is (happens m (Host_does event)) (host_then m event ∙ ap (after m.host.state) this) waits no_text is)

-- ---- the report is taken

pub sealed_over : (h : HostState) (n session : ℕ) (events : List HostEvent) → n < length h.nodes → open_session (node_of h n).book ≡ Some session → EndsSealed n session events → IsLost n events ⊎ IsOver (node_of (after_all h events) n)
sealed_over h n session events within opened (inl unkept) = inl (inl unkept)
sealed_over h n session events within opened (inr (rest, (are, ends))) = by ends.are
  where
    by : (rest ≡ Finishes n session (wire_id session) ends.command ends.status ends.wakes ∷ []) ⊎ (rest ≡ Is_unkept n ∷ []) → IsLost n events ⊎ IsOver (node_of (after_all h events) n)
    by (inl is) =
        inr
        (subst (λ (es : List HostEvent). IsOver (node_of (after_all h es) n)) (sym (are ∙ ap (λ (l : List HostEvent). Spends n ∷ l) is))
        (session_over (after h (Spends n)) n session ends.command ends.status ends.wakes within opened))
    by (inr is) = inl (inr (are ∙ ap (λ (l : List HostEvent). Spends n ∷ l) is))

-- ---- what waits is to be submitted

text_works : (x : NodeState) (payload : List ℕ) → x.series ≡ series.Running → x.text ≡ Some payload → has_work x ≡ true
text_works x payload runs there = by x.series x.text runs there
  where
    by : (s : Series) (t : Option (List ℕ)) → s ≡ series.Running → t ≡ Some payload → has_work (record x { series = s; text = t }) ≡ true
    by series.Running (Some p) is there_is = refl
    by series.Running None is there_is = absurd cc
    by series.Idle t is there_is = absurd cc
    by series.Due t is there_is = absurd cc

pub none_waits : (h : HostState) (n : ℕ) → 1 ≤ n → n ≤ 232 → (node_of h n).series ≡ series.Running → HasNothing h → (h.requests.queue ≡ []) × ((node_of h n).text ≡ None)
none_waits h n from to runs nothing = (nothing.no_task, by (node_of h n).text refl)
  where
    by : (o : Option (List ℕ)) → (node_of h n).text ≡ o → o ≡ None
    by None is = refl
    by (Some payload) is =
        let idle = none_works h.nodes n from to h.served nothing.no_work in
        let wrong : true ≡ false = sym (text_works (node_of h n) payload runs is) ∙ idle in
        absurd cc
