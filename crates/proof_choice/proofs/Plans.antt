-- What a running attempt has to give stays as its order is carried, by each event of a host.
use Rattle.std.proofs.Common.{◌≡◌, ℕ, zero, suc, ◌<◌, ◌≤◌, ◌==◌, Bool, true, false, if◌then◌else◌, length, List, [], Option, Some, None, refl, sym, ap, ◌∙◌, subst, arith}
use Rattle.std.proofs.lemmas.Bool.{eqb-true}
use Rattle.s0_crypto.specs.declared.key_pair.Keys.{Keys}
use Rattle.supervision.specs.Host.{HostBook, command_at as command_of_session, open_session}
use Rattle.host_keep.specs.Kept.{Taken}
use Rattle.host_orders.specs.Wrapping.{form_of}
use Rattle.host_orders.specs.declared.carriage.Form.{Form}
use Rattle.host_orders.specs.declared.carriage.Form.TheVariants.{Plain, Cut, Sealed as in_seal}
use Rattle.host_node.specs.Facts.{NodeFacts, SeriesFacts}
use Rattle.host_node.specs.declared.attempt.Plan.{Plan}
use Rattle.host_node.specs.declared.attempt.Plan.TheVariants.{Whole, Segments, Sealed}
use Rattle.host_node.specs.declared.series.Series.{Series}
use Rattle.host_node.specs.declared.series.Series.TheVariants.{Idle, Due, Running}
use Rattle.host_node.specs.State.{NodeState}
use Rattle.host_node.specs.Steps.{after_nonce, after_start}
use Rattle.host_node.specs.Events.{FitsPlan, after as after_node}
use Rattle.host_node.specs.Events.NodeEvent.{Begins as node_begins}
use Rattle.host_node.specs.TableState.{node_of as node_among, unknown_from, unknown_nodes}
use Rattle.host_model.specs.State.{Command, HostState, command_at, first_host, first_nodes, node_of}
use Rattle.host_model.specs.After.{after}
use Rattle.host_model.specs.Events.{HostEvent, Takes_nonce, Hears, Starts, Gives_text, Begins}
use Rattle.host_model.specs.Facts.{HostFacts}
use Rattle.host_model.specs.May.{IsStart, May}
use Rattle.host_model.specs.Sessions.{message_for, start_by}
use Rattle.host_model.proofs.Events.{session_owned}
use Rattle.proof_host.specs.Tables.{taken_by}
use Rattle.proof_host.proofs.Commands.{taken_set}
use Rattle.proof_giving.specs.proof_queue.proof_attempts.proof_requests.proof_alone.Phases.{Resting}
use Rattle.proof_giving.specs.proof_queue.proof_attempts.Since.{Lasts}
use Rattle.proof_giving.specs.proof_queue.proof_attempts.Waking.{KnowsWork}
use Rattle.proof_giving.proofs.Counting.{each_starts}
use Rattle.proof_giving.proofs.Doings.{did, node_after}
use Rattle.proof_giving.specs.Stays.{KeepsSessions, NoSession}
use Rattle.proof_choice.specs.Plans.{GivesAs, PlanSo, PlansAreSo}
use Rattle.proof_choice.proofs.Staying.{LeavesTexts, Stays, all_stay, due_not, event_goes, idle_not, no_some, none_of, stays_same}

-- ---- as its order is carried

gives_on : (f : Form) (s t : NodeState) → Stays true s t → t.series ≡ Running → GivesAs f s → GivesAs f t
gives_on Plain s t stays runs gives = (
  stays.segments runs ∙ gives.0,
  none_of t.text (λ x is. no_some _ s.text x gives.1 (stays.text x is)),
  none_of t.pending (λ x is. no_some _ s.pending x gives.2 (stays.pending x is)),
)
gives_on Cut s t stays runs gives = subst (λ (k : ℕ). 1 ≤ k) (sym (stays.segments runs)) gives
gives_on in_seal s t stays runs gives = stays.segments runs ∙ gives

-- the order of the session was so before, where no session begins
record HadOrder (h : HostState) (n session number : ℕ) (command : Command) : Type 0 where
  before : Command
  opened : open_session (node_of h n).book ≡ Some session
  carried : command_of_session (node_of h n).book.commands session ≡ Some number
  found : command_at h.commands number ≡ Some before
  form : form_of before.carriage.outer ≡ form_of command.carriage.outer

had_order : (h g : HostState) (n session number : ℕ) (command : Command) → HostFacts h → KeepsSessions h g n → open_session (node_of g n).book ≡ Some session
    → command_of_session (node_of g n).book.commands session ≡ Some number → command_at g.commands number ≡ Some command → HadOrder h n session number command
had_order h g n session number command facts keeps opened carried found =
    let was : command_of_session (node_of h n).book.commands session ≡ Some number = ap (λ (l : List ℕ). command_of_session l session) (sym keeps.commands) ∙ carried in
    let owned = session_owned h n session number (facts.owns n) was in
    let same : record { order = command.order; carriage = command.carriage } ≡ record { order = owned.command.order; carriage = owned.command.carriage }
    = let both : Some (record { order = command.order; carriage = command.carriage }) ≡ Some (record { order = owned.command.order; carriage = owned.command.carriage })
    = sym (ap taken_by found) ∙ keeps.orders number owned.command owned.found ∙ ap taken_by owned.found in cc in
    record {
      before = owned.command;
      opened = keeps.opens session opened;
      carried = was;
      found = owned.found;
      form = ap (λ (t : Taken). form_of t.carriage.outer) (sym same);
    }

abbrev pub SessionsKept : Type 0
SessionsKept = (h : HostState) (event : HostEvent) (n : ℕ) → n < length h.nodes → NoSession event → KeepsSessions h (after h event) n

on_with : (h g : HostState) (n : ℕ) → HostFacts h → KeepsSessions h g n → Stays true (node_of h n) (node_of g n) → PlanSo h n → PlanSo g n
on_with h g n facts keeps stays so runs session number command opened carried found =
    let had = had_order h g n session number command facts keeps opened carried found in
    subst (λ (f : Form). GivesAs f (node_of g n)) had.form
    (gives_on (form_of had.before.carriage.outer) (node_of h n) (node_of g n) stays runs (so (stays.ran runs) session number had.before had.opened had.carried had.found))

-- ---- an attempt starts

pub nothing_left : (s : NodeState) → NodeFacts s → s.series ≡ Due → (s.segments ≡ 0) × (s.text ≡ None) × (s.pending ≡ None)
nothing_left s facts due = by s.series due facts.series
  where
    by : (x : Series) → x ≡ Due → SeriesFacts x s.book s.attempt_wait s.again_wait s.next_segment s.segments s.text s.pending → (s.segments ≡ 0) × (s.text ≡ None) × (s.pending ≡ None)
    by Idle is f = absurd (let bad : Idle ≡ Due = is in cc)
    by Due is f = (f.2.no_segments, f.2.no_text, f.2.no_pending)
    by Running is f = absurd (let bad : Running ≡ Due = is in cc)

starts_as : (f : Form) (session : ℕ) (message : List ℕ) (s : NodeState) (plan : Plan) → plan ≡ (start_by f session message).plan → FitsPlan plan → (s.segments ≡ 0) × (s.text ≡ None) × (s.pending ≡ None)
    → GivesAs f (after_start s plan)
starts_as Plain session message s plan is fits left = subst (λ (p : Plan). GivesAs Plain (after_start s p)) (sym is) left
starts_as Cut session message s plan is fits left = subst (λ (p : Plan). FitsPlan p → GivesAs Cut (after_start s p)) (sym is) (λ some. some) fits
starts_as in_seal session message s plan is fits left = subst (λ (p : Plan). GivesAs in_seal (after_start s p)) (sym is) left.0

same_command : (h : HostState) (n session number : ℕ) (command : Command) (plan : Plan) (more : Bool) (payload : List ℕ) → (start : IsStart h n plan more payload) → open_session (node_of h n).book ≡ Some session
    → command_of_session (node_of h n).book.commands session ≡ Some number → command_at h.commands number ≡ Some command → start.command ≡ command
same_command h n session number command plan more payload start opened carried found =
    let sessions : start.session ≡ session = let a = start.opened in let both : Some start.session ≡ Some session = sym a ∙ opened in cc in
    let numbers : start.carried.0 ≡ number
    = let both : Some start.carried.0 ≡ Some number = sym start.carried.1 ∙ ap (λ (k : ℕ). command_of_session (node_of h n).book.commands k) sessions ∙ carried in cc in
    let both : Some start.command ≡ Some command = sym start.carried.2 ∙ ap (λ (k : ℕ). command_at h.commands k) numbers ∙ found in cc

-- ---- each event

module _ (keeps : SessionsKept) (h : HostState) (facts : HostFacts h) where
  within : (n : ℕ) → n ≤ 232 → n < length h.nodes
  within n to = let places = facts.nodes.places in omega (arith, places, to)

  abbrev Goes : HostEvent → ℕ → Type 0
  Goes event n = PlanSo (after h event) n

  -- one at which none starts and no session begins
  quiet_goes : (event : HostEvent) (n : ℕ) → n ≤ 232 → LeavesTexts true event → NoSession event → PlanSo h n → Goes event n
  quiet_goes event n to none old so =
      on_with h (after h event) n facts (keeps h event n (within n to) old) (subst (Stays true (node_of h n)) (sym (node_after h event n (within n to))) (all_stay true n (node_of h n) (did h event) (event_goes true h event none))) so

  -- of a node that the event leaves
  left_goes : (event : HostEvent) (n : ℕ) → HostFacts h → KeepsSessions h (after h event) n → node_of (after h event) n ≡ node_of h n → PlanSo h n → Goes event n
  left_goes event n facts kept same so = on_with h (after h event) n facts kept (subst (Stays true (node_of h n)) (sym same) (stays_same true (node_of h n))) so

  starts_goes : (k : ℕ) (plan : Plan) (more : Bool) (payload : List ℕ) (n : ℕ) → n ≤ 232 → May h (Starts k plan more payload) → PlanSo h n → Goes (Starts k plan more payload) n
  starts_goes k plan more payload n to may so = by (k == n) refl (node_after h (Starts k plan more payload) n (within n to))
    where
      event : HostEvent
      event = Starts k plan more payload

      kept : KeepsSessions h (after h event) n
      kept = keeps h event n (within n to) tt

      own : (k : ℕ) → k ≡ n → IsStart h k plan more payload → ((node_of h k).series ≡ Due) × FitsPlan plan → node_of (after h event) n ≡ after_start (node_of h n) plan → Goes event n
      own k same start may node runs session number command opened carried found =
          let s = node_of h n in
          let book : (node_of (after h event) n).book ≡ s.book = ap (λ (t : NodeState). t.book) node ∙ start_book s plan in
          let here : IsStart h n plan more payload = subst (λ (j : ℕ). IsStart h j plan more payload) same start in
          let due : s.series ≡ Due = subst (λ (j : ℕ). (node_of h j).series ≡ Due) same may.0 in
          let command_is : here.command ≡ command
          = same_command h n session number command plan more payload here (ap open_session (sym book) ∙ opened) (ap (λ (b : HostBook). command_of_session b.commands session) (sym book) ∙ carried) found in
          subst (λ (t : NodeState). GivesAs (form_of command.carriage.outer) t) (sym node)
          (subst (λ (c : Command). GivesAs (form_of c.carriage.outer) (after_start s plan)) command_is
          (starts_as (form_of here.command.carriage.outer) here.session (message_for here.command here.session) s plan here.plan_is may.1 (nothing_left s (facts.nodes.facts n) due)))
        where
          start_book : (s : NodeState) (plan : Plan) → (after_start s plan).book ≡ s.book
          start_book s Whole = refl
          start_book s (Segments count) = refl
          start_book s (Sealed plain) = refl

      by : (b : Bool) → (k == n) ≡ b → node_of (after h event) n ≡ (if b then after_start (node_of h n) plan else node_of h n) → Goes event n
      by true it node = own k (eqb-true k n it) may.1 may.2 node
      by false it node = left_goes event n facts kept node so

  -- a nonce is taken for a text that is to be sealed
  nonce_as : (f : Form) (s : NodeState) (seen : ℕ) (text plain : List ℕ) → s.pending ≡ Some plain → GivesAs f s → GivesAs f (after_nonce s seen text)
  nonce_as Plain s seen text plain is gives = absurd (let bad : ◌≡◌ {A = Option (List ℕ)} None (Some plain) = sym gives.2 ∙ is in cc)
  nonce_as Cut s seen text plain is gives = gives
  nonce_as in_seal s seen text plain is gives = gives

  nonce_goes : (k seen : ℕ) (text : List ℕ) (n : ℕ) → n ≤ 232 → May h (Takes_nonce k seen text) → PlanSo h n → Goes (Takes_nonce k seen text) n
  nonce_goes k seen text n to may so = by (k == n) refl (node_after h (Takes_nonce k seen text) n (within n to))
    where
      event : HostEvent
      event = Takes_nonce k seen text

      kept : KeepsSessions h (after h event) n
      kept = keeps h event n (within n to) tt

      own : k ≡ n → node_of (after h event) n ≡ after_nonce (node_of h n) seen text → Goes event n
      own same node runs session number command opened carried found =
          let (nonce, own_nonce, count, seals, eight) = may in
          let pending : (node_of h n).pending ≡ Some seals.plain = subst (λ (j : ℕ). (node_of h j).pending ≡ Some seals.plain) same seals.is_pending in
          let had = had_order h (after h event) n session number command facts kept opened carried found in
          let was : (node_of h n).series ≡ Running = ap (λ (t : NodeState). t.series) (sym node) ∙ runs in
          subst (λ (t : NodeState). GivesAs (form_of command.carriage.outer) t) (sym node)
          (subst (λ (f : Form). GivesAs f (after_nonce (node_of h n) seen text)) had.form
          (nonce_as (form_of had.before.carriage.outer) (node_of h n) seen text seals.plain pending (so was session number had.before had.opened had.carried had.found)))

      by : (b : Bool) → (k == n) ≡ b → node_of (after h event) n ≡ (if b then after_nonce (node_of h n) seen text else node_of h n) → Goes event n
      by true it node = own (eqb-true k n it) node
      by false it node = left_goes event n facts kept node so

  -- a session begins: then an attempt is due
  begins_goes : (k session command : ℕ) (n : ℕ) → n ≤ 232 → PlanSo h n → Goes (Begins k session command) n
  begins_goes k session command n to so = by (k == n) refl (node_after h (Begins k session command) n (within n to))
    where
      event : HostEvent
      event = Begins k session command

      by : (b : Bool) → (k == n) ≡ b → node_of (after h event) n ≡ (if b then after_node (node_of h n) node_begins else node_of h n) → Goes event n
      by true it node = λ runs. absurd (due_not (ap (λ (t : NodeState). t.series) (sym node) ∙ runs))
      by false it node =
          left_goes event n facts
          (record {
            commands = ap (λ (t : NodeState). t.book.commands) node;
            opens = λ s opened. ap (λ (t : NodeState). open_session t.book) (sym node) ∙ opened;
            orders = λ number c found. taken_set h.commands command _ number;
          }) node so

  pub plan_goes : (event : HostEvent) (n : ℕ) → n ≤ 232 → May h event → PlanSo h n → Goes event n
  plan_goes (Starts k plan more payload) n to may so = starts_goes k plan more payload n to may so
  plan_goes (Takes_nonce k seen text) n to may so = nonce_goes k seen text n to may so
  plan_goes (Begins k session command) n to may so = begins_goes k session command n to so
  plan_goes (Gives_text k payload) n to may so = quiet_goes (Gives_text k payload) n to refl tt so
  plan_goes event n to may so = quiet_goes event n to tt tt so

-- ---- the tie lasts

pub plans_last : SessionsKept → Lasts KnowsWork PlansAreSo
plans_last keeps = record {
  loose = λ here at past told m all numbered ground tie. tie;
  numbers = λ here past m other ground later tie. tie;
  said = λ past words m none ground goes_on tie. tie;
  refused = λ past words line refusal m none ground later tie. tie;
  asked = λ line past m event is may numbered ground later tie n from to. plan_goes keeps m.state ground.0.0.0.0.facts.host event n to may.0 (tie n from to);
  starts = λ before words m state opens anew ground later n from to runs.
      absurd (each_starts (λ s. s.series ≡ Running → ⊥) (λ s is. due_not is) (λ s is. idle_not is) (λ is. idle_not is) m.keys m.records state ground.0.0.0.0.told opens n from runs);
  opens = λ past h clock tie. tie;
  rises = λ past m ground tie. tie;
  judges = λ past m item rest behind told now ground later tie n from to. plan_goes keeps m.state ground.0.0.0.0.facts.host (Hears item) n to now.may.0 (tie n from to);
  does = λ here next past m event told may ground later tie n from to. plan_goes keeps m.state ground.0.0.0.0.facts.host event n to may.1.0 (tie n from to);
  turn = λ here next past m other turns ground tie. tie;
}

-- at first none runs
blank_idle : (number count m : ℕ) → (node_among (unknown_from number count) m).series ≡ Idle
blank_idle number zero m = refl
blank_idle number (suc count) zero = refl
blank_idle number (suc count) (suc m) = blank_idle (suc number) count m

first_idle : (m : ℕ) → (node_among first_nodes m).series ≡ Idle
unfolding first_nodes unknown_nodes
first_idle zero = refl
first_idle (suc zero) = refl
first_idle (suc (suc zero)) = refl
first_idle (suc (suc (suc m))) = blank_idle 3 230 m

pub first_plans : (keys : Keys) → PlansAreSo Resting [] (first_host keys) 0
first_plans keys n from to runs = absurd (idle_not (sym (first_idle n) ∙ runs))
