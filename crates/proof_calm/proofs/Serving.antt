-- Each node that the host serves is one of those it has to do with, and each request that it submits asks to send a payload of 1 to 46 bytes to such a node.
use Rattle.std.proofs.Common.{◌≡◌, ◌≢◌, ◌≤◌, ℕ, Bool, true, false, if◌then◌else◌, List, [], ◌∷◌, length, refl, sym, ap, ◌∙◌, subst, arith}
use Rattle.std.specs.Option.{is_none, is_some}
use Rattle.std.specs.Prelude.{◌&&◌, ◌==◌, Option, Some, None, nat_lt}
use Rattle.std.specs.List.{AllByRecursion}
use Rattle.supervision.specs.Host.{open_session}
use Rattle.chip_sim.specs.Nodes.{is_marked}
use Rattle.host_requests.specs.State.{next_id}
use Rattle.host_requests.specs.declared.task.Purpose.TheVariants.{Attempt}
use Rattle.host_requests.specs.declared.task.Task.{Task}
use Rattle.host_requests.specs.declared.task.Task.TheVariants.{NoMore, Offer, Segment}
use Rattle.host_node.specs.Search.{first_wanting, least_above, next_of}
use Rattle.host_node.specs.State.{NodeState, unknown, has_waiting, has_work, is_false, is_idle, is_unasked, is_up, wants_no_more}
use Rattle.host_node.specs.TableState.{node_of as node_among}
use Rattle.host_node.specs.declared.attempt.Plan.{Plan}
use Rattle.host_node.specs.declared.series.Series.{Series}
use Rattle.host_node.specs.declared.series.Series.TheVariants.{Idle}
use Rattle.host_node.proofs.Searches.{what_is_least}
use Rattle.host_model.specs.After.{is_full, task_purpose}
use Rattle.host_model.specs.Events.{HostEvent, Drops_no_more, Queues_no_more}
use Rattle.host_model.specs.Facts.{HostFacts}
use Rattle.host_model.specs.May.{IsStart, May}
use Rattle.host_model.specs.Pumping.{IsNext, no_more_event}
use Rattle.host_model.specs.Sessions.{open_segment}
use Rattle.host_model.specs.State.{HostState, node_of}
use Rattle.host_model.proofs.Pumps.{next_works}
use Rattle.host_model.proofs.Submitted.{SubmittedAre, next_is}
use Rattle.proof_serial.specs.Host.{FitsIn, FitsTask, HasShortText, HostFits}
use Rattle.proof_serial.proofs.HostFits.{all_at}
use Rattle.proof_calm.specs.Known.{AsksToSend, IsBlank, IsMember, IsTaskFor, KnowsMembers, KnowsThese}
use Rattle.proof_calm.specs.Tied.{AsksAt}
use Rattle.proof_calm.proofs.Knowing.{IsNamed, Resting, StaysSo, tick_so}
use Rattle.proof_calm.proofs.Rested.{all_four, range_by}

-- what is proved of what a host gives
pub record Payloads : Type 0 where
  pub starts : (h : HostState) (n : ℕ) (plan : Plan) (more : Bool) (payload : List ℕ) → HostFacts h → IsStart h n plan more payload → (1 ≤ length payload) × (length payload ≤ 46)
  pub segments : (h : HostState) (node : NodeState) (session : Option ℕ) (k : ℕ) (payload : List ℕ) → open_segment h node session k ≡ Some payload → (1 ≤ length payload) × (length payload ≤ 46)
  pub text : (h : HostState) (n : ℕ) (payload : List ℕ) → HostFacts h → (node_of h n).text ≡ Some payload → 1 ≤ length payload

-- ---- a blank node

-- no series of it is due or runs, and no command waits for it
pub none_works : (n : NodeState) → n.series ≡ Idle → n.waiting ≡ [] → has_work n ≡ true → ⊥
none_works n idle none_waits works =
    let as_idle : has_work (record n { series = Idle }) ≡ true = subst (λ (s : Series). has_work (record n { series = s }) ≡ true) idle works in
    let all = all_four (is_none (open_session n.book)) (has_waiting n) (is_up n) (is_false n.blocked) as_idle in
    let none : has_waiting n ≡ false = ap (λ (l : List ℕ). nat_lt 0 (length l)) none_waits in
    let wrong : true ≡ false = sym all.1 ∙ none in cc

-- without a class list it is told nothing
none_told : (a b c d e f g : Bool) → c ≡ false → (a && b && c && d && e && f && g) ≡ true → ⊥
none_told true true true d e f g unlisted wants = absurd (let wrong : true ≡ false = unlisted in cc)
none_told true true false d e f g unlisted wants = absurd (let wrong : false ≡ true = wants in cc)
none_told true false c d e f g unlisted wants = absurd (let wrong : false ≡ true = wants in cc)
none_told false b c d e f g unlisted wants = absurd (let wrong : false ≡ true = wants in cc)

blank_still : (n : NodeState) → IsBlank n → wants_no_more n ≡ true → ⊥
blank_still n blank wants =
    none_told n.awake (is_false n.listens) (is_some n.classes) (is_unasked n.no_more) (is_false (has_waiting n)) (is_idle n.series) (n.hold == 0) (ap (λ o. is_some o) blank.unlisted) wants

-- it stays so in a tick
blank_so : StaysSo IsBlank
blank_so = record {
  idle = λ n blank. blank.idle;
  none_waits = λ n blank. blank.none_waits;
  holds = λ n blank. record { unlisted = blank.unlisted; idle = blank.idle; none_waits = blank.none_waits };
  again = λ n ticks blank. record { unlisted = blank.unlisted; idle = blank.idle; none_waits = blank.none_waits };
  waits = λ n ticks blank. record { unlisted = blank.unlisted; idle = blank.idle; none_waits = blank.none_waits };
}

pub blank_rests : Resting IsBlank
blank_rests = record { ticks = tick_so IsBlank blank_so; works = λ n blank. none_works n blank.idle blank.none_waits; wants = blank_still }

pub listed_named : (joined : List Bool) (h : HostState) (knows : KnowsMembers joined h) (n : ℕ) (classes : List ℕ) → (node_of h n).classes ≡ Some classes → is_marked joined n ≡ true
listed_named joined h knows n classes listed = by (is_marked joined n) refl
  where
    by : (b : Bool) → is_marked joined n ≡ b → is_marked joined n ≡ true
    by true is = is
    by false is = absurd (let none = (knows.others n is).unlisted in let wrong : Some classes ≡ None = sym listed ∙ none in cc)

-- ---- nodes of which the others are at rest

module _ (Rests : NodeState → Type 0) (rests : Resting Rests) (joined : List Bool) (h : HostState) (knows : KnowsThese Rests joined h) where
  -- a node that is not at rest is one of these
  known_by : (n : ℕ) → (Rests (node_of h n) → ⊥) → is_marked joined n ≡ true
  known_by n some = by (is_marked joined n) refl
    where
      by : (b : Bool) → is_marked joined n ≡ b → is_marked joined n ≡ true
      by true is = is
      by false is = absurd (some (knows.others n is))

  pub next_member : (n : ℕ) → next_of h.nodes h.served ≡ Some n → IsMember joined n
  next_member n is =
      let works : ℕ → Bool = λ node. has_work (node_among h.nodes node) in
      record {
        is_node = range_by works h.served 0 (least_above works h.served) (least_above works 0) n refl refl is;
        is_joined = known_by n (λ at_rest. rests.works (node_of h n) at_rest (next_works h.nodes h.served n is));
      }

  wanting_member : (n : ℕ) → first_wanting h.nodes ≡ Some n → IsMember joined n
  wanting_member n is =
      let least = what_is_least (λ node. wants_no_more (node_among h.nodes node)) 0 n is in
      record { is_node = (omega (arith, least.from), omega (arith, least.to)); is_joined = known_by n (λ at_rest. rests.wants (node_of h n) at_rest least.is_one) }

  pub no_more_named : (n : ℕ) → first_wanting h.nodes ≡ Some n → IsNamed joined (no_more_event h n)
  no_more_named n is = by (is_full h)
    where
      by : (full : Bool) → IsNamed joined (if full then Drops_no_more n else Queues_no_more n)
      by true = (wanting_member n is).is_joined
      by false = wanting_member n is

  -- ---- what is submitted next

  module _ (payloads : Payloads) (facts : HostFacts h) (fits : HostFits h) where
    attempt_asks : (n id : ℕ) (more : Bool) (payload : List ℕ) → IsMember joined n → 1 ≤ length payload → length payload ≤ 46 → AsksToSend joined (Attempt n more payload) id
    attempt_asks n id more payload member some few = record { node = n; payload = payload; is = refl; is_node = member.is_node; some = some; few = few; is_joined = member.is_joined }

    front_asks : (tasks : List Task) (id : ℕ) → tasks ≢ [] → AllByRecursion (IsTaskFor joined) tasks → AllByRecursion FitsTask tasks → AsksToSend joined (task_purpose tasks) id
    front_asks [] id some are fit = absurd (some refl)
    front_asks (Offer n nonce ∷ tasks) id some are fit =
        let short = fit.0 in
        record { node = n; payload = 152 ∷ 128 ∷ nonce; is = refl; is_node = are.0.is_node; some = omega arith; few = omega (arith, short); is_joined = are.0.is_joined }
    front_asks (Segment n payload ∷ tasks) id some are fit =
        record { node = n; payload = payload; is = refl; is_node = are.0.0.is_node; some = are.0.1; few = fit.0; is_joined = are.0.0.is_joined }
    front_asks (NoMore n ∷ tasks) id some are fit =
        record { node = n; payload = 132 ∷ 8 ∷ []; is = refl; is_node = are.0.is_node; some = omega arith; few = omega arith; is_joined = are.0.is_joined }
    front_asks (task ∷ tasks) id some are fit = absurd are.0

    text_short : (n : ℕ) (payload : List ℕ) → (node_of h n).text ≡ Some payload → length payload ≤ 46
    text_short n payload is = subst (FitsIn 46) is (all_at HasShortText h.nodes n (unknown 0) fits.texts tt)

    pub next_asks : (event : HostEvent) → h.requests.owes ≡ false → IsNext h event → May h event → AsksAt joined h event × IsNamed joined event
    next_asks event paid next may = next_is Is each h event next may
      where
        id : ℕ
        id = next_id h.requests.last_id

        Is : HostEvent → Type 0
        Is e = May h e → AsksAt joined h e × IsNamed joined e

        each : SubmittedAre Is
        each = record {
          abort = λ may_it. absurd (let owes = may_it.1 in cc);
          front = λ may_it. (front_asks h.requests.queue id may_it.2 knows.tasks fits.queue, tt);
          starts = λ n plan more payload may_it.
              let short = payloads.starts h n plan more payload facts may_it.1 in
              let member = next_member n may_it.0.next in
              (attempt_asks n id more payload member short.0 short.1, member);
          text = λ n payload may_it. let member = next_member n may_it.0.next in (attempt_asks n id false payload member (payloads.text h n payload facts may_it.1) (text_short n payload may_it.1), member);
          segment = λ n more payload may_it.
              let short = payloads.segments h (node_of h n) (open_session (node_of h n).book) (node_of h n).next_segment payload may_it.2 in
              let member = next_member n may_it.0.next in
              (attempt_asks n id more payload member short.0 short.1, member);
          begins = λ n session command may_it. (tt, (next_member n may_it.0.next).is_joined);
          unkept = λ n may_it. (tt, (next_member n may_it.0.next).is_joined);
        }
