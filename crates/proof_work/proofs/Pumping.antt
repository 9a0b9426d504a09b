-- Where a pump ends nothing that is due lacks its request.
use Rattle.std.proofs.Common.{◌≡◌, ◌≢◌, ℕ, ◌+◌, ◌≤◌, ◌==◌, ◌&&◌, ◌||◌, is_some, is_none, Bool, true, false, if◌then◌else◌, Option, Some, None, List, [], ◌∷◌, refl, sym, ap, subst, inl, inr, arith}
use Rattle.std.specs.Prelude.{◌⊎◌, IsSome}
use Rattle.std.specs.Option.{option_or}
use Rattle.std.proofs.lemmas.Bool.{and_from, both_ways, cases_eq, eq-eqb, or_parts}
use Rattle.supervision.specs.Host.{open_session}
use Rattle.host_requests.specs.declared.task.Task.{Task}
use Rattle.host_node.specs.declared.series.Series.{Series}
use Rattle.host_node.specs.declared.series.Series.TheVariants.{Idle, Due, Running}
use Rattle.host_node.specs.declared.no_more.NoMore.{NoMore}
use Rattle.host_node.specs.declared.no_more.NoMore.TheVariants.{Unasked, Queued, Dropped}
use Rattle.host_node.specs.State.{NodeState, has_segment, has_waiting, has_work, is_false, is_idle, is_running, is_unasked, is_up, wants_no_more}
use Rattle.host_node.specs.Steps.{after_begin, after_block, after_segment, after_start, after_text}
use Rattle.host_node.specs.Facts.{NodeFacts, SeriesFacts}
use Rattle.host_node.specs.TableState.{node_of as node_among, with_node as with_node_among}
use Rattle.host_node.specs.Search.{first_wanting, least_above, next_of}
use Rattle.host_node.specs.declared.attempt.Plan.{Plan}
use Rattle.host_node.specs.declared.attempt.Plan.TheVariants.{Whole, Segments, Sealed}
use Rattle.host_node.proofs.Searches.{where_is_none}
use Rattle.proof_walk.specs.host_model.State.{HostState, node_of}
use Rattle.proof_walk.specs.host_model.After.{after, is_full}
use Rattle.proof_walk.specs.host_model.Did.{after_all}
use Rattle.proof_walk.specs.host_model.Events.{HostEvent, Queues_no_more, Drops_no_more}
use Rattle.proof_walk.specs.host_model.May.{May, IsFree}
use Rattle.proof_walk.specs.host_model.Pumping.{HasNothing, IsNext, IsPumped, LetsSleep, Pumps, Submits, no_more_event}
use Rattle.proof_walk.specs.host_model.Facts.{HostFacts}
use Rattle.proof_walk.proofs.Submitted.{SubmittedAre, next_is}
use Rattle.proof_walk.proofs.host_model_EventLists.{after_all-append}
use Rattle.proof_work.specs.Doing.{IsDone}
use Rattle.proof_work.specs.Work.{HostWork, NodeWork, Wakes, told_in, times_due}
use Rattle.proof_work.specs.Rests.{IsTended, NodeRests, NoneWants, Rests}
use Rattle.proof_work.proofs.Places.{set_each}
use Rattle.proof_work.proofs.Requests.{alone_each, alone_once}
use Rattle.proof_work.proofs.Hosts.{Keeps}

-- ---- no node is to be told that there is no more for it

pub none_wants : (nodes : List NodeState) → first_wanting nodes ≡ None → NoneWants nodes
none_wants nodes none n from to = (where_is_none (λ node. wants_no_more (node_among nodes node)) 0 none).all n from (omega (arith, to))

-- nor is it once one is so
none_then : (nodes : List NodeState) (n : ℕ) (state : NodeState) → (wants_no_more (node_among nodes n) ≡ false → wants_no_more state ≡ false) → NoneWants nodes → NoneWants (with_node_among nodes n state)
none_then nodes n state leaves none =
    set_each (λ (m : ℕ) (one : NodeState). 1 ≤ m → m ≤ 232 → wants_no_more one ≡ false) nodes n state
    (λ _ from to. leaves (none n from to)) (λ _ from to. refl) (λ m _. none m)

-- a series that is due or runs keeps a node awake
busy_by : (series : Series) → is_idle series ≡ false → (a b : Bool) → a && is_idle series && b ≡ false
busy_by Idle busy a b = cc
busy_by Due busy true b = refl
busy_by Due busy false b = refl
busy_by Running busy true b = refl
busy_by Running busy false b = refl

busy : (n : NodeState) → is_idle n.series ≡ false → wants_no_more n ≡ false
busy n is = busy_by n.series is (n.awake && is_false n.listens && is_some n.classes && is_unasked n.no_more && is_false (has_waiting n)) (n.hold == 0)

started_busy : (n : NodeState) (plan : Plan) → wants_no_more (after_start n plan) ≡ false
started_busy n Whole = busy (after_start n Whole) refl
started_busy n (Segments count) = busy (after_start n (Segments count)) refl
started_busy n (Sealed plain) = busy (after_start n (Sealed plain)) refl

-- ---- a turn of a pump

pub next_done : (h : HostState) (event : HostEvent) → IsNext h event → IsDone event
next_done h event next = next_is IsDone each h event next
  where
    each : SubmittedAre IsDone
    each = record {
      abort = tt;
      front = tt;
      starts = λ n plan more payload. tt;
      text = λ n payload. tt;
      segment = λ n more payload. tt;
      begins = λ n session command. tt;
      unkept = λ n. tt;
    }

-- none comes to be told by it
pub next_leaves : (h : HostState) (event : HostEvent) → IsNext h event → NoneWants h.nodes → NoneWants (after h event).nodes
next_leaves h event next none = next_is (λ (e : HostEvent). NoneWants (after h e).nodes) each h event next
  where
    each : SubmittedAre (λ (e : HostEvent). NoneWants (after h e).nodes)
    each = record {
      abort = none;
      front = none;
      starts = λ n plan more payload. none_then h.nodes n (after_start (node_of h n) plan) (λ _. started_busy (node_of h n) plan) none;
      text = λ n payload. none_then h.nodes n (after_text (node_of h n)) (λ so. so) none;
      segment = λ n more payload. none_then h.nodes n (after_segment (node_of h n)) (λ so. so) none;
      begins = λ n session command. none_then h.nodes n (after_begin (node_of h n)) (λ _. busy (after_begin (node_of h n)) refl) none;
      unkept = λ n. none_then h.nodes n (after_block (node_of h n)) (λ so. so) none;
    }

-- ---- a rest

due_works : (n : NodeState) → n.series ≡ Due → has_work n ≡ true
due_works n due = subst (λ (s : Series). has_work (record n { series = s }) ≡ true) (sym due) refl

no_part : (n : NodeState) → n.series ≡ Running → has_work n ≡ false → (is_some n.text || has_segment n) ≡ false
no_part n runs idle = subst (λ (s : Series). has_work (record n { series = s }) ≡ false) runs idle

no_begin : (n : NodeState) → n.series ≡ Idle → has_work n ≡ false → is_none (open_session n.book) && has_waiting n && is_up n && is_false n.blocked ≡ false
no_begin n is idle = subst (λ (s : Series). has_work (record n { series = s }) ≡ false) is idle

none_is : (o : Option (List ℕ)) → is_some o ≡ false → o ≡ None
none_is None e = refl
none_is (Some x) e = cc

none_test : (o : Option ℕ) → o ≡ None → is_none o ≡ true
none_test None e = refl
none_test (Some x) e = cc

-- a series that is not idle is of an open session
closed_idle : (n : NodeState) → NodeFacts n → open_session n.book ≡ None → n.series ≡ Idle
closed_idle n f closed = by n.series refl f.series
  where
    not_both : (o : Option ℕ) → o ≡ None → IsSome o → ⊥
    not_both None e some = cc
    not_both (Some x) e some = cc

    by : (s : Series) → n.series ≡ s → SeriesFacts s n.book n.attempt_wait n.again_wait n.next_segment n.segments n.text n.pending → s ≡ Idle
    by Idle is g = refl
    by Due is g = absurd (not_both (open_session n.book) closed g.0.is_open)
    by Running is g = absurd (not_both (open_session n.book) closed g.0.is_open)

blocked_by : (waits up blocked : Bool) (closed : Bool) → closed && waits && up && is_false blocked ≡ false → closed ≡ true → waits ≡ true → up ≡ true → blocked ≡ true
blocked_by waits up true closed e p q r = refl
blocked_by waits up false closed e p q r = absurd (both_ways _ e (and_from (closed && waits && up) true (and_from (closed && waits) up (and_from closed waits p q) r) refl))

woken_by : (wait : ℕ) (left : Bool) → left ≡ false → Wakes None wait left → 1 ≤ wait
woken_by wait left none (inl some) = some
woken_by wait left none (inr is) = absurd (both_ways left none is)

held_by : (hold : ℕ) (a : Bool) → a && hold == 0 ≡ false → a ≡ true → 1 ≤ hold
held_by hold a e is = elim (cases_eq hold 0) [
  | inl none ↦ absurd (both_ways _ e (and_from a (hold == 0) is (eq-eqb hold 0 none)))
  | inr some ↦ omega (arith, some)
]

-- why a node is left awake, by what it is
kept_by : (a : Bool) (m : NoMore) (waiting : Bool) (s : Series) (hold : ℕ) → a && is_unasked m && is_false waiting && is_idle s && hold == 0 ≡ false → a ≡ true → m ≢ Queued → s ≢ Due
    → (waiting ≡ true) ⊎ ((s ≡ Running) ⊎ ((1 ≤ hold) ⊎ (m ≡ Dropped)))
kept_by a Dropped waiting s hold e is unqueued begun = inr (inr (inr refl))
kept_by a Queued waiting s hold e is unqueued begun = absurd (unqueued refl)
kept_by a Unasked true s hold e is unqueued begun = inl refl
kept_by a Unasked false Running hold e is unqueued begun = inr (inl refl)
kept_by a Unasked false Due hold e is unqueued begun = absurd (begun refl)
kept_by a Unasked false Idle hold e is unqueued begun =
    inr (inr (inl (held_by hold (a && true && true && true) e (and_from (a && true && true) true (and_from (a && true) true (and_from a true is refl) refl) refl))))

interviewed : (awake listens : Bool) (classes : Option (List ℕ)) → awake ≡ true → listens ≡ false → IsSome classes → awake && is_false listens && is_some classes ≡ true
interviewed awake listens classes p q r = and_from (awake && is_false listens) (is_some classes) (and_from awake (is_false listens) p (ap is_false q)) r

node_rests : (n : NodeState) → NodeFacts n → NodeWork None n → n.no_more ≢ Queued → has_work n ≡ false → wants_no_more n ≡ false → NodeRests n
node_rests n f w unqueued idle unwanted = record {
  begun = begun;
  given = λ runs.
      let parts = or_parts (is_some n.text) (has_segment n) (no_part n runs idle) in
      (woken_by n.attempt_wait (has_segment n) parts.1 (w.alive.goes_on (ap is_running runs)), (none_is n.text parts.0, parts.1));
  served = λ waits up closed.
      blocked_by (has_waiting n) (is_up n) n.blocked (is_none (open_session n.book)) (no_begin n (closed_idle n f closed) idle) (none_test (open_session n.book) closed) waits up;
  slept = λ awake sleeps classes.
      kept_by (n.awake && is_false n.listens && is_some n.classes) n.no_more (has_waiting n) n.series n.hold unwanted (interviewed n.awake n.listens n.classes awake sleeps classes) unqueued begun;
}
  where
    begun : n.series ≢ Due
    begun due = both_ways (has_work n) idle (due_works n due)

-- no node has work where none is next
second_none : (a b : Option ℕ) → option_or a b ≡ None → b ≡ None
second_none None b e = e
second_none (Some x) b e = cc

no_work : (nodes : List NodeState) (served : ℕ) → next_of nodes served ≡ None → (n : ℕ) → 1 ≤ n → n ≤ 232 → has_work (node_among nodes n) ≡ false
no_work nodes served none n from to =
    let works : ℕ → Bool = λ node. has_work (node_among nodes node) in
    (where_is_none works 0 (second_none (least_above works served) (least_above works 0) none)).all n from (omega (arith, to))

rests : (h : HostState) → HostWork h → IsFree h → HasNothing h → NoneWants h.nodes → Rests h
rests h w free nothing none = record {
  paid = nothing.paid;
  no_task = nothing.no_task;
  each = λ n from to.
      node_rests (node_of h n) (w.host.nodes.facts n) (alone_each h.requests h.nodes free.none_under_way w.work n) (unqueued n)
      (no_work h.nodes h.served nothing.no_work n from to) (none n from to);
}
  where
    unqueued : (n : ℕ) → (node_of h n).no_more ≢ Queued
    unqueued n e =
        let once = alone_once h.requests h.nodes free.none_under_way w.work n in
        let none : 0 ≡ times_due (node_of h n).no_more = subst (λ (queue : List Task). told_in n queue + 0 ≡ times_due (node_of h n).no_more) nothing.no_task once in
        absurd (omega (arith, none, ap times_due e))

pub tended : (h : HostState) → HostWork h → NoneWants h.nodes → IsPumped h → IsTended h
tended h w none (inl busy) = record { told = none; rests = λ free. absurd (busy free) }
tended h w none (inr nothing) = record { told = none; rests = λ free. rests h w free nothing none }

-- ---- a pump

abbrev TellsOne : Type 0
TellsOne = (h : HostState) (n : ℕ) → first_wanting h.nodes ≡ Some n → May h (no_more_event h n)

abbrev MaySubmit : Type 0
MaySubmit = (h : HostState) (event : HostEvent) → HostFacts h → IsNext h event → May h event

pub no_more_done : (n : ℕ) (full : Bool) → IsDone (if full then Drops_no_more n else Queues_no_more n)
no_more_done n true = tt
no_more_done n false = tt

-- what a pump leaves
pub record Pumped (h : HostState) : Type 0 where
  pub work : HostWork h
  pub tended : IsTended h

module _ (keeps : Keeps) (tells : TellsOne) (submits : MaySubmit) where
  sleeps : (h : HostState) (events : List HostEvent) → HostWork h → LetsSleep h events → HostWork (after_all h events) × NoneWants (after_all h events).nodes
  sleeps h [] w none = (w, none_wants h.nodes none)
  sleeps h (event ∷ events) w (n, least, is, more) =
      let here = keeps h (no_more_event h n) w (no_more_done n (is_full h)) (tells h n least) in
      sleeps (after h event) events (subst (λ (e : HostEvent). HostWork (after h e)) (sym is) here) more

  turns : (h : HostState) (events : List HostEvent) → HostWork h → NoneWants h.nodes → Submits h events → Pumped (after_all h events)
  turns h [] w none pumped = record { work = w; tended = tended h w none pumped }
  turns h (event ∷ events) w none (next, more) =
      turns (after h event) events (keeps h event w (next_done h event next) (submits h event w.host next)) (next_leaves h event next none) more

  pub pumped : (h : HostState) (events : List HostEvent) → HostWork h → Pumps h events → Pumped (after_all h events)
  pumped h events w (first, rest, are, lets, submits_rest) =
      let slept = sleeps h first w lets in
      subst (λ (l : List HostEvent). Pumped (after_all h l)) (sym are)
      (subst (λ (g : HostState). Pumped g) (sym (after_all-append h first rest)) (turns (after_all h first) rest slept.0 slept.1 submits_rest))
