-- The commands of these nodes go whole and unsealed, or unsealed, as they did; so an attempt gives the message of its session where they go whole.
use Rattle.std.proofs.Common.{◌≡◌, ◌⊎◌, ◌≤◌, ◌+◌, ◌&&◌, ℕ, zero, suc, inl, inr, Bool, true, false, if◌then◌else◌, nat_lt, nat_le, not, List, [], ◌∷◌, ◌++◌, length, refl, sym, ap, ◌∙◌, subst}
use Rattle.std.proofs.lemmas.Bool.{or_parts}
use Rattle.std.specs.Prelude.{◌≢◌, Option, Some, None, slice_get}
use Rattle.std.specs.List.{AllByRecursion}
use Rattle.zw_base.specs.declared.order.Order.{Order}
use Rattle.encap.specs.declared.plan.Outer.TheVariants.{None as no_outer, Crc16, Security, Transport}
use Rattle.supervision.specs.Host.{begun_of}
use Rattle.supervision.proofs.OnceLemmas.{All-slice_get}
use Rattle.host_keep.specs.Kept.{Taken}
use Rattle.std.specs.Option.{is_some}
use Rattle.host_orders.specs.Classes.{actuator_of, lists}
use Rattle.host_orders.specs.Messages.{classes_needed}
use Rattle.host_orders.specs.Refusals.{Known, classes_of, first_refusal, first_some, is_bad, known_refusal, mailbox_full, too_long, unless, unsupported}
use Rattle.host_orders.specs.Wrapping.{carriage_of, form_of, supervised_text, wrapped_len}
use Rattle.host_orders.specs.declared.refused.Refused.{Refused}
use Rattle.host_orders.specs.declared.refused.Refused.TheVariants.{BadValue, NotInterviewed, NotJoined, TooLong, Unsupervised}
use Rattle.host_orders.specs.declared.carriage.Carriage.{Carriage}
use Rattle.host_orders.specs.declared.carriage.Form.{Form}
use Rattle.host_orders.specs.declared.carriage.Form.TheVariants.{Cut, Plain, Sealed}
use Rattle.host_node.specs.declared.attempt.Plan.{Plan}
use Rattle.chip_sim.specs.Nodes.{is_marked}
use Rattle.host_model.specs.After.{after}
use Rattle.host_model.specs.Did.{after_all}
use Rattle.host_model.specs.Events.{HostEvent, Accepts, Starts}
use Rattle.host_model.specs.Facts.{HostFacts, IsCommandOf, IsSound}
use Rattle.host_model.specs.May.{IsAccepted, IsStart, known_of, May as MayHost}
use Rattle.host_model.specs.Sessions.{message_for, start_by}
use Rattle.host_model.specs.Taking.{is_secure}
use Rattle.host_model.specs.State.{Command, HostState, command_at, node_of}
use Rattle.host_model.proofs.Accepted.{holds, none_later}
use Rattle.host_model.proofs.Silence.{judged_silent}
use Rattle.world_model.specs.Events.{Event, Outside_does, Host_does, Host_takes, Decoder_ticks, Refuses, Restarts, Shows_values, happens, May}
use Rattle.world_model.specs.State.{Machine}
use Rattle.proof_course_plain.specs.proof_host.Tables.{taken_at, taken_by}
use Rattle.proof_course_plain.proofs.HostEvents.{open_is, owned}
use Rattle.proof_spoken.specs.Restarts.{StartsWell}
use Rattle.proof_spoken.proofs.Orders.{IsNoOrder, SameOrders, event_kept, restart_kept}
use Rattle.proof_spoken.proofs.Plain.{silent_none}
use Rattle.proof_answered.specs.proof_calm.Resting.{LineAt}
use Rattle.proof_answered.specs.proof_calm.proof_work.proof_walk.Phases.{Phase, Goes as Goes_phase}
use Rattle.proof_in_time.specs.InStep.{AreInStep, IsNear, IsNearAt, IsPlainly}
use Rattle.proof_in_time.specs.Coming.{GoWhole, GoesWhole, IsMessage, IsPlainStart, is_layered}
use Rattle.proof_in_time.specs.Openly.{GoOpenly, GoesOpenly}
use Rattle.proof_in_time.proofs.QuietPhases.{IsNoStart, no_start_of, quiet_at}

-- ---- they are kept

-- a property of an order and how it goes, of each command of these nodes
abbrev pub AllGo : (Order → Carriage → Type 0) → List Bool → List Command → Type 0
AllGo Goes these commands = (number : ℕ) (command : Command) → command_at commands number ≡ Some command → is_marked these command.order.node ≡ true → Goes command.order command.carriage

pushed : (commands : List Command) (one : Command) (place : ℕ) (command : Command) → slice_get (commands ++ one ∷ []) place ≡ Some command → (slice_get commands place ≡ Some command) ⊎ (one ≡ command)
pushed [] one zero command found = inr cc
pushed [] one (suc place) command found = absurd cc
pushed (first ∷ commands) one zero command found = inl found
pushed (first ∷ commands) one (suc place) command found = pushed commands one place command found

module _ (Goes : Order → Carriage → Type 0) where
  goes_as : (order with_order : Order) (carriage with_carriage : Carriage) → order ≡ with_order → carriage ≡ with_carriage → Goes order carriage → Goes with_order with_carriage
  goes_as order with_order carriage with_carriage is same goes = subst (λ (o : Order). Goes o with_carriage) is (subst (Goes order) same goes)

  pub same_at : (old new : List Command) → SameOrders old new → (number : ℕ) → ((command : Command) → command_at old number ≡ Some command → Goes command.order command.carriage)
      → (command : Command) → command_at new number ≡ Some command → Goes command.order command.carriage
  same_at old new same number go command found = by (command_at old number) refl
    where
      taken : taken_at new number ≡ Some (record { order = command.order; carriage = command.carriage })
      taken = ap taken_by found

      by : (was : Option Command) → command_at old number ≡ was → Goes command.order command.carriage
      by None is = absurd (let wrong : taken_by None ≡ Some (record { order = command.order; carriage = command.carriage }) = sym (same.taken number ∙ ap taken_by is) ∙ taken in cc)
      by (Some before) is =
          let both : taken_by (Some before) ≡ Some (record { order = command.order; carriage = command.carriage }) = sym (same.taken number ∙ ap taken_by is) ∙ taken in
          let one : ◌≡◌ {A = Taken} (record { order = before.order; carriage = before.carriage }) (record { order = command.order; carriage = command.carriage }) = cc in
          goes_as before.order command.order before.carriage command.carriage (ap (λ (t : Taken). t.order) one) (ap (λ (t : Taken). t.carriage) one) (go before is)

same_go : (Goes : Order → Carriage → Type 0) (these : List Bool) (old new : List Command) → SameOrders old new → AllGo Goes these old → AllGo Goes these new
same_go Goes these old new same go number command found marked = same_at (λ order carriage. is_marked these order.node ≡ true → Goes order carriage) old new same number (go number) command found marked

module _ (Goes : Order → Carriage → Type 0) where
  more_go : (these : List Bool) (commands : List Command) (one : Command) → (is_marked these one.order.node ≡ true → Goes one.order one.carriage) → AllGo Goes these commands → AllGo Goes these (commands ++ one ∷ [])
  more_go these commands one new go zero command found marked = absurd cc
  more_go these commands one new go (suc place) command found marked = by (pushed commands one place command found)
    where
      by : (slice_get commands place ≡ Some command) ⊎ (one ≡ command) → Goes command.order command.carriage
      by (inl was) = go (suc place) command was marked
      by (inr is) =
          let order : one.order ≡ command.order = ap (λ (c : Command). c.order) is in
          let carriage : one.carriage ≡ command.carriage = ap (λ (c : Command). c.carriage) is in
          goes_as Goes one.order command.order one.carriage command.carriage order carriage (new (ap (λ (o : Order). is_marked these o.node) order ∙ marked))

  events_go : (these : List Bool) (h : HostState) (events : List HostEvent) → AllByRecursion IsNoOrder events → AllGo Goes these h.commands → AllGo Goes these (after_all h events).commands
  events_go these h [] no_order go = go
  events_go these h (event ∷ events) no_order go = events_go these (after h event) events no_order.1 (same_go Goes these h.commands (after h event).commands (event_kept h event no_order.0) go)

-- where neither is listed, an order that is accepted fits in one payload
none_first : (o : Option Refused) (more : List (Option Refused)) → first_some (o ∷ more) ≡ None → o ≡ None
none_first None more is = refl
none_first (Some refused) more is = absurd cc

fourth : (a b c d e : Option Refused) → first_some (a ∷ b ∷ c ∷ d ∷ e ∷ []) ≡ None → d ≡ None
fourth a b c d e none = none_first d (e ∷ []) (none_later c (d ∷ e ∷ []) (none_later b (c ∷ d ∷ e ∷ []) (none_later a (b ∷ c ∷ d ∷ e ∷ []) none)))

third : (a b c : Option Refused) → first_some (a ∷ b ∷ c ∷ []) ≡ None → c ≡ None
third a b c none = none_first c [] (none_later b (c ∷ []) (none_later a (b ∷ c ∷ []) none))

-- an order that is not refused is for a node that is joined, and lists Supervision
pub passes : (known : Known) (order : Order) → first_refusal known order ≡ None → (known.joined ≡ true) × (lists (classes_of known) 0x6C ≡ true)
unfolding first_refusal known_refusal
passes known order none =
    let classes = classes_of known in
    let actuator = actuator_of classes in
    let unlisted = unsupported classes (classes_needed actuator order.what order.end) in
    let bad = unless (not (is_bad actuator order.what)) BadValue in
    let alone = unless (lists classes 0x6C) Unsupervised in
    let long = too_long classes (length (supervised_text actuator order)) (wrapped_len actuator order) in
    let full = mailbox_full known.waiting in
    let joined : unless known.joined NotJoined ≡ None = none_first (unless known.joined NotJoined) (unless (is_some known.classes) NotInterviewed ∷ known_refusal classes known.waiting order ∷ []) none in
    let rules : known_refusal classes known.waiting order ≡ None = third (unless known.joined NotJoined) (unless (is_some known.classes) NotInterviewed) (known_refusal classes known.waiting order) none in
    let supervised : alone ≡ None = none_first alone (long ∷ full ∷ []) (none_later bad (alone ∷ long ∷ full ∷ []) (none_later unlisted (bad ∷ alone ∷ long ∷ full ∷ []) rules)) in
    (holds known.joined NotJoined joined, holds (lists classes 0x6C) Unsupervised supervised)

not_long : (over secure transport long : Bool) (wide narrow : Refused) (short : Bool) → (if over then Some wide else (if (if secure then short else (not transport && long)) then Some narrow else None)) ≡ None → secure ≡ false → transport ≡ false
    → long ≡ false
not_long true secure transport long wide narrow short none bare uncut = absurd cc
not_long false true transport long wide narrow short none bare uncut = absurd cc
not_long false false true long wide narrow short none bare uncut = absurd cc
not_long false false false true wide narrow short none bare uncut = absurd cc
not_long false false false false wide narrow short none bare uncut = refl

form_plain : (secure long crc : Bool) → secure ≡ false → long ≡ false → form_of (if secure then Security else (if long then Transport else (if crc then Crc16 else no_outer))) ≡ Plain
form_plain true long crc bare short = absurd cc
form_plain false true crc bare short = absurd cc
form_plain false false true bare short = refl
form_plain false false false bare short = refl

known_plain : (classes : List ℕ) (waiting : ℕ) (order : Order) → known_refusal classes waiting order ≡ None → lists classes 0x98 ≡ false → lists classes 0x55 ≡ false → form_of (carriage_of classes order).outer ≡ Plain
unfolding known_refusal
known_plain classes waiting order none bare uncut =
    let actuator = actuator_of classes in
    let wrapped = wrapped_len actuator order in
    let len = length (supervised_text actuator order) in
    let fits : too_long classes len wrapped ≡ None =
    fourth (unsupported classes (classes_needed actuator order.what order.end)) (unless (not (is_bad actuator order.what)) BadValue) (unless (lists classes 0x6C) Unsupervised) (too_long classes len wrapped) (mailbox_full waiting) none in
    let short = not_long (nat_lt 255 len) (lists classes 0x98) (lists classes 0x55) (nat_lt 46 wrapped) (TooLong len) (TooLong wrapped) (nat_lt 26 wrapped) fits bare uncut in
    form_plain (lists classes 0x98) (nat_lt 46 wrapped) (lists classes 0x56 && nat_le (wrapped + 4) 46) bare short

refusal_plain : (known : Known) (classes : List ℕ) (order : Order) → known.classes ≡ Some classes → first_refusal known order ≡ None → is_layered (Some classes) ≡ false → form_of (carriage_of classes order).outer ≡ Plain
unfolding first_refusal
refusal_plain known classes order listed none openly =
    let passes : known_refusal (classes_of known) known.waiting order ≡ None = third (unless known.joined NotJoined) (unless (is_some known.classes) NotInterviewed) (known_refusal (classes_of known) known.waiting order) none in
    let parts = or_parts (lists classes 0x98) (lists classes 0x55) openly in
    known_plain classes known.waiting order (ap (λ (c : Option (List ℕ)). known_refusal (classes_of (record known { classes = c })) known.waiting order) (sym listed) ∙ passes) parts.0 parts.1

pub accepted_whole : (h : HostState) (order : Order) (carriage : Carriage) → IsAccepted h order carriage → is_layered (node_of h order.node).classes ≡ false → order.end ≤ 127 → GoesWhole order carriage
accepted_whole h order carriage accepted openly few = record {
  plain = ap (λ (c : Carriage). form_of c.outer) accepted.carried
      ∙ refusal_plain (known_of (node_of h order.node)) accepted.classes order accepted.listed accepted.unrefused (ap is_layered (sym accepted.listed) ∙ openly);
  end = few;
}

-- where Security 0 is not listed, none goes sealed
form_unsealed : (secure long crc : Bool) → secure ≡ false → form_of (if secure then Security else (if long then Transport else (if crc then Crc16 else no_outer))) ≢ Sealed
form_unsealed true long crc bare = absurd cc
form_unsealed false true crc bare = λ sealed. absurd (let wrong : ◌≡◌ {A = Form} Cut Sealed = sealed in cc)
form_unsealed false false true bare = λ sealed. absurd (let wrong : ◌≡◌ {A = Form} Plain Sealed = sealed in cc)
form_unsealed false false false bare = λ sealed. absurd (let wrong : ◌≡◌ {A = Form} Plain Sealed = sealed in cc)

pub accepted_openly : (h : HostState) (order : Order) (carriage : Carriage) → IsAccepted h order carriage → is_secure (node_of h order.node).classes ≡ false → order.end ≤ 127 → GoesOpenly order carriage
accepted_openly h order carriage accepted openly few =
    let wrapped = wrapped_len (actuator_of accepted.classes) order in
    let bare : lists accepted.classes 0x98 ≡ false = ap is_secure (sym accepted.listed) ∙ openly in
    record {
      unsealed = λ sealed. form_unsealed (lists accepted.classes 0x98) (nat_lt 46 wrapped) (lists accepted.classes 0x56 && nat_le (wrapped + 4) 46) bare (ap (λ (c : Carriage). form_of c.outer) (sym accepted.carried) ∙ sealed);
      end = few;
    }

-- an order for one of these nodes is for an end point that has a number on the wire
abbrev AreNear : List Bool → HostEvent → Type 0
AreNear these event = (n : ℕ) → is_marked these n ≡ true → IsNear n event

abbrev pub AreNearAt : List Bool → Event → Type 0
AreNearAt these event = (n : ℕ) → is_marked these n ≡ true → IsNearAt n event

-- what is not the begin of a host starts none
starts_well : (m : Machine) (event : Event) → IsNoStart event → StartsWell m event
starts_well m (Restarts state) none = absurd none
starts_well m event none = tt

-- ---- events

-- none of these nodes lists a class of some
abbrev pub AreFree : (Option (List ℕ) → Bool) → List Bool → HostState → Type 0
AreFree listed these h = (n : ℕ) → is_marked these n ≡ true → listed (node_of h n).classes ≡ false

module _ (Goes : Order → Carriage → Type 0) (listed : Option (List ℕ) → Bool)
    (accepted : (h : HostState) (order : Order) (carriage : Carriage) → IsAccepted h order carriage → listed (node_of h order.node).classes ≡ false → order.end ≤ 127 → Goes order carriage) where
  event_goes : (these : List Bool) (h : HostState) (event : HostEvent) → MayHost h event → AreFree listed these h → AreNear these event → AllGo Goes these h.commands → AllGo Goes these (after h event).commands
  event_goes these h (Accepts order carriage) may bare near go = more_go Goes these h.commands _ (λ marked. accepted h order carriage may (bare order.node marked) (near order.node marked refl)) go
  event_goes these h event may bare near go = same_go Goes these h.commands (after h event).commands (event_kept h event tt) go

  pub machine_goes : (these : List Bool) (m : Machine) (event : Event) → StartsWell m event → May m event → AreFree listed these m.host.state → AreNearAt these event → AllGo Goes these m.host.state.commands
      → AllGo Goes these (happens m event).host.state.commands
  unfolding happens May
  machine_goes these m (Outside_does event) starts may bare near go = go
  machine_goes these m (Host_does event) starts may bare near go = event_goes these m.host.state event may.0 bare near go
  machine_goes these m (Host_takes count rest items events) starts may bare near go = events_go Goes these m.host.state events (silent_none m.host.state events (judged_silent m.host.state items events may.judged)) go
  machine_goes these m Decoder_ticks starts may bare near go = go
  machine_goes these m (Refuses line refusal) starts may bare near go = go
  machine_goes these m (Shows_values node) starts may bare near go = go
  machine_goes these m (Restarts state) starts may bare near go = same_go Goes these m.host.state.commands state.commands (restart_kept m.host.state state starts) go

  pub goes_on : (these : List Bool) (here next : Phase) (m : Machine) (event : Event) → Goes_phase here m event next → LineAt here m → May m event → AreFree listed these m.host.state → AreNearAt these event → AllGo Goes these m.host.state.commands
      → AllGo Goes these (happens m event).host.state.commands
  goes_on these here next m event goes at may bare near go = machine_goes these m event (starts_well m event (no_start_of here next m event goes (quiet_at here m at))) may bare near go

pub on_whole : (these : List Bool) (here next : Phase) (m : Machine) (event : Event) → Goes_phase here m event next → LineAt here m → May m event → AreFree is_layered these m.host.state → IsPlainly these m event
    → GoWhole these m.host.state.commands → GoWhole these (happens m event).host.state.commands
on_whole these here next m event goes at may bare plainly go = goes_on GoesWhole is_layered accepted_whole these here next m event goes at may bare (λ n marked. (plainly n marked).near) go

pub on_openly : (these : List Bool) (here next : Phase) (m : Machine) (event : Event) → Goes_phase here m event next → LineAt here m → May m event → AreFree is_secure these m.host.state → AreInStep these m event
    → GoOpenly these m.host.state.commands → GoOpenly these (happens m event).host.state.commands
on_openly these here next m event goes at may bare steps go = goes_on GoesOpenly is_secure accepted_openly these here next m event goes at may bare (λ n marked. (steps n marked).near) go

-- ---- what an attempt gives

pub sound_at : (h : HostState) → HostFacts h → (number : ℕ) (command : Command) → command_at h.commands number ≡ Some command → IsSound h.store command
sound_at h facts zero command found = absurd cc
sound_at h facts (suc place) command found = All-slice_get (IsSound h.store) h.commands place command facts.commands found

gives_message : (these : List Bool) (h : HostState) (n : ℕ) (plan : Plan) (more : Bool) (payload : List ℕ) → HostFacts h → GoWhole these h.commands → IsStart h n plan more payload → is_marked these n ≡ true → IsMessage (begun_of (node_of h n).book) payload
gives_message these h n plan more payload facts go start marked =
    let own : IsCommandOf h.commands n start.carried.0 = owned h.commands n (node_of h n).book.commands start.session start.carried.0 (facts.owns n).sessions start.carried.1 in
    let same : own.command ≡ start.command = let both : Some own.command ≡ Some start.command = sym own.found ∙ start.carried.2 in cc in
    let node : start.command.order.node ≡ n = ap (λ (c : Command). c.order.node) (sym same) ∙ own.node in
    let goes : GoesWhole start.command.order start.command.carriage = go start.carried.0 start.command start.carried.2 (ap (is_marked these) node ∙ marked) in
    let begun : start.session ≡ begun_of (node_of h n).book = (open_is (node_of h n).book start.session start.opened).0 in
    record {
      carriage = start.command.carriage;
      order = start.command.order;
      fit = (sound_at h facts start.carried.0 start.command start.carried.2).fit;
      end = goes.end;
      is = start.payload_is ∙ (ap (λ (form : Form). (start_by form start.session (message_for start.command start.session)).payload) goes.plain ∙ ap (message_for start.command) begun);
    }

pub plain_start : (these : List Bool) (m : Machine) (event : HostEvent) → May m (Host_does event) → HostFacts m.host.state → GoWhole these m.host.state.commands → IsPlainStart these m.host.state event
unfolding May
plain_start these m (Starts n plan more payload) may facts go = gives_message these m.host.state n plan more payload facts go may.0.1
plain_start these m event may facts go = tt
