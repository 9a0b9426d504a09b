-- What the effect of a line leaves to be done, and that each event of it keeps what the host has to send due.
use Rattle.proof_air.specs.law_transcript.Nodes.{always}
use Rattle.std.proofs.Common.{◌≡◌, ℕ, false, true, inl, inr, List, [], ◌∷◌, ◌++◌, refl, sym, ap, subst, ◌∙◌, append-nil, append_assoc}
use Rattle.std.specs.Prelude.{Option, Some, None, IsSome, length}
use Rattle.std.specs.List.{AllByRecursion}
use Rattle.zw_base.specs.declared.order.Order.{Order}
use Rattle.zw_base.specs.declared.order.Word.{Word}
use Rattle.s0_crypto.specs.Sealing.{keys_of}
use Rattle.s0_crypto.specs.declared.key_pair.Keys.{Keys}
use Rattle.zw_text.specs.declared.line.Line.{Line}
use Rattle.zw_text.specs.declared.line.Line.TheVariants as lines
use Rattle.zw_text.specs.declared.entry.Entry.{Entry}
use Rattle.zw_text.specs.declared.entry.Entry.TheVariants as entry
use Rattle.proof_air.specs.law_transcript.Lists.{EachAfter}
use Rattle.proof_air.specs.law_transcript.Payloads.{IsAskedFor, MayRequest}
use Rattle.host_orders.specs.Errands.{get_refusal, get_text, send_refusal, send_text}
use Rattle.host_orders.specs.Refusals.{classes_of}
use Rattle.host_orders.specs.declared.carriage.Carriage.{Carriage}
use Rattle.host_orders.specs.declared.refused.Refused.{Refused}
use Rattle.host_requests.specs.declared.task.Task.{Task}
use Rattle.host_requests.specs.declared.task.Task.TheVariants.{Plain, Offer, Segment}
use Rattle.host_model.specs.State.{HostState, node_of}
use Rattle.host_model.specs.Asking.{carriage_for}
use Rattle.host_model.specs.May.{known_of}
use Rattle.host_model.specs.Events.{HostEvent, Accepts, Cancels, Joins, Queues, Queues_interview, Queues_probe}
use Rattle.host_model.specs.Outs.{outs}
use Rattle.outside_model.specs.Events.{Begins_line, entries as entries_outside, May as MayOutside}
use Rattle.proof_air.specs.world_model.State.{Machine}
use Rattle.proof_air.specs.world_model.Events.{Event, Outside_does, Host_does, Host_takes, Decoder_ticks, Refuses, Shows_values, Restarts, OpensFrom, entered, happens, entries, shown_values, May}
use Rattle.proof_air.specs.world_model.Did.{happens_all, entries_all}
use Rattle.proof_air.specs.world_model.Lines.{IsEffect, Asks}
use Rattle.proof_air.proofs.Along.{IsAskedBy, IsOfEffect, anywhere, effect_along}
use Rattle.proof_line.specs.proof_host.Facts.{Facts}
use Rattle.proof_spoken.specs.Said.{AreSaid}
use Rattle.proof_spoken.proofs.Orders.{IsNoOrder}
use Rattle.proof_spoken.proofs.Plain.{IsPlain}
use Rattle.proof_spoken.proofs.SaidOrders.{IsSo, order_so}
use Rattle.proof_air.specs.proof_walk.ByLine.{begun}
use Rattle.proof_sending.specs.Reasons.{Reason, HasReason, IsDueTask, IsReasoned}
use Rattle.proof_sending.specs.Due.{IsShown}
use Rattle.proof_sending.specs.Arriving.{BringsMore}
use Rattle.proof_sending.specs.Knowing.{Asking, Grounded, IsRest, IsSound, IsWell, Left, NeedsNone, Opened, Ordering, Resting, RestsHost, Saying}
use Rattle.proof_sending.proofs.Arrivals.{brings_none, brings_then}
use Rattle.proof_sending.proofs.AskedLines.{get_asks, send_asks}
use Rattle.proof_sending.proofs.Grounds.{WalkLaws, ground_goes}
use Rattle.proof_sending.proofs.Growing.{event_arrives, event_brings, one_brings}
use Rattle.proof_sending.proofs.HostUnits.{FirstDue, entry_not, none_stand}
use Rattle.proof_sending.proofs.OutsideUnits.{outside_not}
use Rattle.proof_sending.proofs.Reasoned.{event_is, opened_is}
use Rattle.proof_sending.proofs.Steps.{Stands, host_stands, keys_stay, reasoned_more}
use Rattle.proof_spoken.proofs.HostRuns.{in_range}
use Rattle.proof_air.proofs.ByLine.{begins_none}

-- ---- events that need no reason

rests_plain : (event : HostEvent) → RestsHost event → IsNoOrder event
rests_plain (Accepts order carriage) rests = absurd rests
rests_plain event rests = tt

rest_plain : (event : Event) → IsRest event → IsPlain event
rest_plain (Host_does event) rests = rests_plain event rests
rest_plain event rests = tt

needs_none : (Holds : Reason → Type 0) (keys : Keys) (h : HostState) (task : Task) → NeedsNone task → IsDueTask Holds keys h task
needs_none Holds keys h (Plain node payload) none = absurd none
needs_none Holds keys h (Offer node nonce) none = absurd none
needs_none Holds keys h (Segment node payload) none = absurd none
needs_none Holds keys h task none = tt

rest_reason : (Holds : Reason → Type 0) (keys : Keys) (h : HostState) (event : HostEvent) → RestsHost event → HasReason Holds keys h event
rest_reason Holds keys h (Cancels command) rests = tt
rest_reason Holds keys h (Joins node) rests = tt
rest_reason Holds keys h (Queues task) rests = needs_none Holds keys h task rests
rest_reason Holds keys h (Queues_interview node) rests = tt
rest_reason Holds keys h Queues_probe rests = tt
rest_reason Holds keys h event rests = absurd rests

-- a host that starts from its records has nothing to send
pub opens_reasoned : (Holds : Reason → Type 0) (keys : Keys) (kept : Option (List (List ℕ))) (state : HostState) → IsSome kept → OpensFrom keys kept state → IsReasoned Holds keys state
opens_reasoned Holds keys None state some opens = absurd (let bad : false ≡ true = some in cc)
opens_reasoned Holds keys (Some texts) state some (records, are, legal, is) =
    subst (λ (h : HostState). IsReasoned Holds keys h) (sym is) (opened_is Holds keys records (in_range records texts are))

-- ---- lines whose effect is of these

-- a line that asks for no order, no Set and no Get
abbrev AsksNone : Line → Type 0
AsksNone (lines.Command order) = ⊥
AsksNone (lines.Send node word) = ⊥
AsksNone (lines.Get node end) = ⊥
AsksNone line = Unit {0}

as_rests : (event these : HostEvent) → event ≡ these → RestsHost these → RestsHost event
as_rests event these is rests = subst RestsHost (sym is) rests

host_rests : (line : Line) → AsksNone line → (m : Machine) (event : HostEvent) → IsAskedBy line m event → RestsHost event
host_rests (lines.Command order) none m event is = absurd none
host_rests (lines.Send node word) none m event asks = absurd none
host_rests (lines.Get node end) none m event asks = absurd none
host_rests (lines.Join node) none m event is = as_rests event _ is tt
host_rests (lines.Interview node) none m event asks = as_rests event _ asks.is tt
host_rests (lines.Cancel command) none m event is = as_rests event _ is tt
host_rests lines.Discover none m event is = as_rests event _ is tt
host_rests (lines.Neighbours node) none m event is = as_rests event _ is tt
host_rests (lines.Failed node) none m event is = as_rests event _ is tt
host_rests lines.Probe none m event is = as_rests event _ is tt
host_rests line none m event is = absurd is

-- wherever it happens
abbrev RestAt : Machine → Event → Type 0
RestAt m event = IsRest event

effect_rests : (line : Line) → AsksNone line → (m : Machine) (event : Event) → IsOfEffect line m event → RestAt m event
effect_rests line none m (Host_does event) is = host_rests line none m event is
effect_rests line none m (Host_takes count rest items events) is = absurd is
effect_rests line none m Decoder_ticks is = absurd is
effect_rests line none m event is = tt

rests_of : (line : Line) → AsksNone line → (m : Machine) (events : List Event) → IsEffect line m events → AllByRecursion IsRest events
rests_of line none m events is = anywhere IsRest m events (effect_along RestAt line (effect_rests line none) m events is)

-- ---- a line that begins

begins_may : (m : Machine) → May m (Outside_does Begins_line)
unfolding May MayOutside
begins_may m = (refl, tt)

head_is : (a b : Event) (more others : List Event) → a ∷ more ≡ b ∷ others → a ≡ b
head_is a b more others e = cc

tail_is : (a b : Event) (more others : List Event) → a ∷ more ≡ b ∷ others → more ≡ others
tail_is a b more others e = cc

nil_cons : (a : Event) (more : List Event) → [] ≡ a ∷ more → ⊥
nil_cons a more e = cc

module _ (listing : ℕ → List ℕ) (key : List ℕ) (laws : WalkLaws) where
  -- the reasons that stood before the words of a line still do
  later_than : (before : List Entry) (words : List ℕ) (told past : List Entry) (h : HostState) → past ≡ before ++ entry.Said words ∷ told → BringsMore before past → IsReasoned (IsShown (always listing) key before) (keys_of key) h
      → IsReasoned (IsShown (always listing) key past) (keys_of key) h
  later_than before words told past h is more reasoned =
      subst (λ (l : List Entry). IsReasoned (IsShown (always listing) key l) (keys_of key) h) (sym is)
      (reasoned_more (always listing) key before (entry.Said words ∷ told) h refl (subst (λ (l : List Entry). BringsMore before l) is more) reasoned)

  -- its words tell nothing of what arrived
  said_brings : (line : Line) (past : List Entry) (m : Machine) (saying : Saying listing key line past m) → BringsMore saying.before past
  said_brings line past m saying = subst (λ (l : List Entry). BringsMore saying.before l) (sym saying.is) (one_brings saying.before (entry.Said saying.words) tt)

  begun_ground : (past : List Entry) (n : Machine) → Grounded listing past n → Grounded listing past (begun n)
  unfolding happens
  begun_ground past n ground = record { facts = ground.facts; knows = ground.knows; said = ground.said; arrives = ground.arrives }

  resting : (line : Line) (past : List Entry) (m : Machine) (events : List Event) → Opened listing key line past m → AllByRecursion IsRest events → Resting listing key events past m
  unfolding happens
  resting line past m events (n, saying, is) rests = subst (λ (k : Machine). Resting listing key events past k) (sym is) (record {
    before = saying.before;
    words = saying.words;
    told = [];
    is = saying.is;
    ground = begun_ground past n saying.ground;
    keys = keys_stay n (Outside_does Begins_line) ∙ saying.keys;
    grows = said_brings line past n saying;
    reasoned = saying.reasoned;
    rests = rests;
  })

  pub left_done : (past : List Entry) (m : Machine) → Left listing key [] past m → IsSound listing key past m
  left_done past m (inl done) = record {
    ground = done.ground;
    keys = done.keys;
    reasoned = later_than done.before done.words done.told past m.host.state done.is done.grows done.reasoned;
  }
  left_done past m (inr (inl ordering)) = absurd (nil_cons _ _ ordering.are)
  left_done past m (inr (inr (inl asking))) = absurd (nil_cons _ _ asking.are)
  left_done past m (inr (inr (inr (none, sound)))) = sound

  pub opened_sound : (line : Line) (past : List Entry) (m : Machine) → Opened listing key line past m → IsSound listing key past m
  opened_sound line past m opened = left_done past m (inl (resting line past m [] opened tt))

  -- ---- what the effect is

  send_asked : (past : List Entry) (m : Machine) (node : ℕ) (word : Word) → Opened listing key (lines.Send node word) past m
      → IsAskedFor (always listing) past (record { node = node; payload = send_text (classes_of (known_of (node_of m.host.state node))) word })
  unfolding happens
  send_asked past m node word (n, saying, is) =
      subst (λ (k : Machine). IsAskedFor (always listing) past (record { node = node; payload = send_text (classes_of (known_of (node_of k.host.state node))) word })) (sym is)
      (subst (λ (l : List Entry). IsAskedFor (always listing) l (record { node = node; payload = send_text (classes_of (known_of (node_of n.host.state node))) word })) (sym saying.is)
      (send_asks (always listing) saying.before saying.words n.host.state node word saying.knew saying.read))

  get_asked : (past : List Entry) (m : Machine) (node end : ℕ) → Opened listing key (lines.Get node end) past m
      → IsAskedFor (always listing) past (record { node = node; payload = get_text (classes_of (known_of (node_of m.host.state node))) end })
  unfolding happens
  get_asked past m node end (n, saying, is) =
      subst (λ (k : Machine). IsAskedFor (always listing) past (record { node = node; payload = get_text (classes_of (known_of (node_of k.host.state node))) end })) (sym is)
      (subst (λ (l : List Entry). IsAskedFor (always listing) l (record { node = node; payload = get_text (classes_of (known_of (node_of n.host.state node))) end })) (sym saying.is)
      (get_asks (always listing) saying.before saying.words n.host.state node end saying.knew saying.read))

  asks_left : (refused : Option Refused) (line : Line) (node : ℕ) (payload : List ℕ) (past : List Entry) (m : Machine) (events : List Event) → Opened listing key line past m
      → IsAskedFor (always listing) past (record { node = node; payload = payload }) → Asks refused line (Queues (Plain node payload)) events → Left listing key events past m
  asks_left None line node payload past m events opened asked are =
      inr (inr (inl (record { node = node; payload = payload; sound = opened_sound line past m opened; asked = asked; are = are })))
  asks_left (Some refused) line node payload past m events opened asked (refusal, shown, are) =
      inl (resting line past m events opened (subst (λ (l : List Event). AllByRecursion IsRest l) (sym are) (tt, tt)))

  pub effect_left : (line : Line) (past : List Entry) (m : Machine) (events : List Event) → IsEffect line m events → Opened listing key line past m → Left listing key events past m
  effect_left (lines.Command order) past m events (inl are) opened = inr (inl (record { order = order; carriage = carriage_for m.host.state order; opened = opened; are = are }))
  effect_left (lines.Command order) past m events (inr (refusal, are)) opened =
      inl (resting (lines.Command order) past m events opened (subst (λ (l : List Event). AllByRecursion IsRest l) (sym are) (tt, tt)))
  effect_left (lines.Send node word) past m events is opened =
      asks_left (send_refusal (known_of (node_of m.host.state node)) (length m.host.state.requests.queue) word) (lines.Send node word) node
      (send_text (classes_of (known_of (node_of m.host.state node))) word) past m events opened (send_asked past m node word opened) is
  effect_left (lines.Get node end) past m events is opened =
      asks_left (get_refusal (known_of (node_of m.host.state node)) (length m.host.state.requests.queue) end) (lines.Get node end) node
      (get_text (classes_of (known_of (node_of m.host.state node))) end) past m events opened (get_asked past m node end opened) is
  effect_left line past m events is opened = inl (resting line past m events opened (rests_of line tt m events is))

  -- ---- an event that needs no reason

  rest_first : (past : List Entry) (h : HostState) (event : HostEvent) → RestsHost event → FirstDue (always listing) key past (outs h event)
  rest_first past h (Cancels command) rests = tt
  rest_first past h (Joins node) rests = tt
  rest_first past h (Queues task) rests = tt
  rest_first past h (Queues_interview node) rests = tt
  rest_first past h Queues_probe rests = tt
  rest_first past h event rests = absurd rests

  rest_entries : (past : List Entry) (m : Machine) (event : Event) → IsRest event → May m event → EachAfter (MayRequest (always listing) key) past (entries m event)
  unfolding entries May
  rest_entries past m (Outside_does event) rests may = none_stand (always listing) key past (entries_outside m.outside event) (outside_not m.outside event may.0 may.1)
  rest_entries past m (Host_does event) rests may = host_stands listing key laws past m event (rest_first (past ++ _) m.host.state event rests)
  rest_entries past m (Host_takes count rest items events) rests may = absurd rests
  rest_entries past m Decoder_ticks rests may = absurd rests
  rest_entries past m (Refuses line refusal) rests may = none_stand (always listing) key past (entered m (entry.Refused refusal)) (entry_not (always listing) key m.outside (entry.Refused refusal) tt)
  rest_entries past m (Shows_values node) rests may =
      none_stand (always listing) key past (entered m (shown_values m.host.state node)) (entry_not (always listing) key m.outside (shown_values m.host.state node) tt)
  rest_entries past m (Restarts state) rests may = tt

  rest_reasoned : (before past : List Entry) (m : Machine) (event : Event) → IsRest event → May m event → IsWell listing m event → Grounded listing past m → m.keys ≡ keys_of key
      → IsReasoned (IsShown (always listing) key before) (keys_of key) m.host.state → IsReasoned (IsShown (always listing) key before) (keys_of key) (happens m event).host.state
  unfolding happens May
  rest_reasoned before past m (Outside_does event) rests may well ground keys is = is
  rest_reasoned before past m (Host_does event) rests may well ground keys is =
      event_is laws.hosts (IsShown (always listing) key before) (keys_of key) past m.host.state event ground.facts may.0 (rest_reason (IsShown (always listing) key before) (keys_of key) m.host.state event rests) is
  rest_reasoned before past m (Host_takes count rest items events) rests may well ground keys is = absurd rests
  rest_reasoned before past m Decoder_ticks rests may well ground keys is = absurd rests
  rest_reasoned before past m (Refuses line refusal) rests may well ground keys is = is
  rest_reasoned before past m (Shows_values node) rests may well ground keys is = is
  rest_reasoned before past m (Restarts state) rests may well ground keys is =
      opens_reasoned (IsShown (always listing) key before) (keys_of key) m.records state well.0.1 (subst (λ (k : Keys). OpensFrom k m.records state) keys may)

  -- of the effect, this event and what is left after it
  abbrev Leaves : List Entry → Machine → Event → List Event → Type 0
  Leaves past m event left = EachAfter (MayRequest (always listing) key) past (entries m event) × Left listing key left (past ++ entries m event) (happens m event)

  rest_step : (past : List Entry) (m : Machine) (event : Event) (left : List Event) → May m event → IsWell listing m event → Resting listing key (event ∷ left) past m → Leaves past m event left
  rest_step past m event left may well is = (
    rest_entries past m event is.rests.0 may,
    inl (record {
      before = is.before;
      words = is.words;
      told = is.told ++ entries m event;
      is = ap (λ (l : List Entry). l ++ entries m event) is.is ∙ append_assoc is.before (entry.Said is.words ∷ is.told) (entries m event);
      ground = ground_goes listing laws past m event (rest_plain event is.rests.0) may well.0.0 well.1 is.ground;
      keys = keys_stay m event ∙ is.keys;
      grows = brings_then is.before past (past ++ entries m event) is.grows (event_brings past m event may is.ground.arrives);
      reasoned = rest_reasoned is.before past m event is.rests.0 may well is.ground is.keys is.reasoned;
      rests = is.rests.1;
    }),
  )

  -- ---- an order is accepted

  module _ (past : List Entry) (n : Machine) (order : Order) (carriage : Carriage) (saying : Saying listing key (lines.Command order) past n) where
    abbrev accepts : Event
    accepts = Host_does (Accepts order carriage)

    abbrev told : List Entry
    told = entries (begun n) accepts

    order_ground : May (begun n) accepts → IsWell listing (begun n) accepts → Grounded listing (past ++ told) (happens (begun n) accepts)
    order_ground may well =
        let both : List Event = Outside_does Begins_line ∷ accepts ∷ [] in
        let so : IsSo listing ((saying.before ++ entry.Said saying.words ∷ []) ++ entries_all n both) (happens_all n both)
        = order_so laws.go_on listing saying.before n saying.words order carriage saying.read saying.knew (begins_may n, (may, tt)) (tt, (tt, tt)) (record {
          facts = subst (λ (l : List Entry). Facts l n.host.state) saying.is saying.ground.facts;
          said = subst (λ (l : List Entry). AreSaid (always listing) n.host.state.commands l) saying.is saying.ground.said;
        }) in
        let same : (saying.before ++ entry.Said saying.words ∷ []) ++ entries_all n both ≡ past ++ told
        = ap (λ (l : List Entry). l ++ entries_all n both) (sym saying.is)
        ∙ ap (λ (l : List Entry). past ++ l) (ap (λ (l : List Entry). l ++ (told ++ [])) (begins_none n) ∙ append-nil told) in
        record {
          facts = subst (λ (l : List Entry). Facts l (happens (begun n) accepts).host.state) same so.facts;
          knows = laws.knows listing past (begun n) accepts may well.1 (begun_ground past n saying.ground).knows;
          said = subst (λ (l : List Entry). AreSaid (always listing) (happens (begun n) accepts).host.state.commands l) same so.said;
          arrives = event_arrives past (begun n) accepts may saying.ground.arrives;
        }

    order_reasoned : May (begun n) accepts → IsReasoned (IsShown (always listing) key saying.before) (keys_of key) (happens (begun n) accepts).host.state
    unfolding happens May
    order_reasoned may = event_is laws.hosts (IsShown (always listing) key saying.before) (keys_of key) past n.host.state (Accepts order carriage) saying.ground.facts may.0 tt saying.reasoned

    order_goes : May (begun n) accepts → IsWell listing (begun n) accepts → Stands listing key laws past (begun n) accepts
    order_goes may well = (
      host_stands listing key laws past (begun n) (Accepts order carriage) tt,
      record {
        ground = order_ground may well;
        keys = keys_stay (begun n) accepts ∙ keys_stay n (Outside_does Begins_line) ∙ saying.keys;
        reasoned = later_than saying.before saying.words told (past ++ told) (happens (begun n) accepts).host.state
            (ap (λ (l : List Entry). l ++ told) saying.is ∙ append_assoc saying.before (entry.Said saying.words ∷ []) told)
            (brings_then saying.before past (past ++ told) (said_brings (lines.Command order) past n saying) (event_brings past (begun n) accepts may saying.ground.arrives)) (order_reasoned may);
      },
    )

  -- the last event of an effect, with what stands after it
  last_step : (past : List Entry) (m : Machine) (event is : Event) (left : List Event) → event ∷ left ≡ is ∷ [] → Stands listing key laws past m is → Leaves past m event left
  last_step past m event is left are stands =
      subst (λ (e : Event). Leaves past m e left) (sym (head_is event is left [] are)) (stands.0, inr (inr (inr (tail_is event is left [] are, stands.1))))

  order_step : (past : List Entry) (m : Machine) (event : Event) (left : List Event) → May m event → IsWell listing m event → Ordering listing key (event ∷ left) past m → Leaves past m event left
  order_step past m event left may well is =
      let n : Machine = is.opened.0 in
      let accepts : Event = Host_does (Accepts is.order is.carriage) in
      let same : event ≡ accepts = head_is event accepts left [] is.are in
      let goes : May m accepts → IsWell listing m accepts → Stands listing key laws past m accepts
      = subst (λ (k : Machine). May k accepts → IsWell listing k accepts → Stands listing key laws past k accepts) (sym is.opened.2) (order_goes past n is.order is.carriage is.opened.1) in
      last_step past m event accepts left is.are (goes (subst (May m) same may) (subst (IsWell listing m) same well))

  -- ---- a Set or a Get waits

  queue_goes : (past : List Entry) (m : Machine) (node : ℕ) (payload : List ℕ) → IsSound listing key past m → IsAskedFor (always listing) past (record { node = node; payload = payload })
      → May m (Host_does (Queues (Plain node payload))) → IsWell listing m (Host_does (Queues (Plain node payload))) → Stands listing key laws past m (Host_does (Queues (Plain node payload)))
  unfolding happens entries May
  queue_goes past m node payload sound asked may well = (
    host_stands listing key laws past m (Queues (Plain node payload)) tt,
    record {
      ground = ground_goes listing laws past m (Host_does (Queues (Plain node payload))) tt may well.0.0 well.1 sound.ground;
      keys = sound.keys;
      reasoned = reasoned_more (always listing) key past [] (happens m (Host_does (Queues (Plain node payload)))).host.state refl (brings_none past)
          (event_is laws.hosts (IsShown (always listing) key past) (keys_of key) past m.host.state (Queues (Plain node payload)) sound.ground.facts may.0 asked sound.reasoned);
    },
  )

  queue_step : (past : List Entry) (m : Machine) (event : Event) (left : List Event) → May m event → IsWell listing m event → Asking listing key (event ∷ left) past m → Leaves past m event left
  queue_step past m event left may well is =
      let queues : Event = Host_does (Queues (Plain is.node is.payload)) in
      let same : event ≡ queues = head_is event queues left [] is.are in
      last_step past m event queues left is.are (queue_goes past m is.node is.payload is.sound is.asked (subst (May m) same may) (subst (IsWell listing m) same well))

  -- ---- any of these

  pub left_step : (past : List Entry) (m : Machine) (event : Event) (left : List Event) → May m event → IsWell listing m event → Left listing key (event ∷ left) past m
      → EachAfter (MayRequest (always listing) key) past (entries m event) × Left listing key left (past ++ entries m event) (happens m event)
  left_step past m event left may well (inl is) = rest_step past m event left may well is
  left_step past m event left may well (inr (inl is)) = order_step past m event left may well is
  left_step past m event left may well (inr (inr (inl is))) = queue_step past m event left may well is
  left_step past m event left may well (inr (inr (inr (none, sound)))) = absurd (nil_cons event left (sym none))
