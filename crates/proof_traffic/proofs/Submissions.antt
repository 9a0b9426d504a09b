-- A request is submitted: its frame goes to the line.
use Rattle.std.proofs.Common.{◌≡◌, ◌≢◌, ℕ, ◌+◌, inl, inr, Bool, true, false, List, [], ◌∷◌, ◌++◌, Option, Some, None, refl, sym, ap, ◌∙◌, subst, arith}
use Rattle.std.specs.Prelude.{if◌then◌else◌, nat_lt}
use Rattle.chip_functions.specs.Request.{request_function}
use Rattle.serial_link.specs.declared.turn.Turn.{Turn}
use Rattle.serial_link.specs.declared.turn.Turn.TheVariants.{Idle, Copied, Paused}
use Rattle.host_requests.specs.declared.task.Task.{Task}
use Rattle.host_requests.specs.declared.task.Task.TheVariants.{Plain, Offer, Segment, NoMore, First, Second, Members, Neighbours, IsFailed, Version, MemoryId, Capabilities}
use Rattle.host_requests.specs.declared.task.Purpose.{Purpose}
use Rattle.host_requests.specs.declared.task.Purpose.TheVariants.{Housekeeping, Attempt, Abort as of_abort}
use Rattle.host_requests.specs.declared.under_way.UnderWay.{UnderWay}
use Rattle.host_requests.specs.declared.under_way.Progress.TheVariants.{Submitted}
use Rattle.host_requests.specs.Frames.{request_of, function_of, frame_of}
use Rattle.host_requests.specs.State.{next_id}
use Rattle.host_node.specs.declared.series.Series.{Series}
use Rattle.host_node.specs.declared.series.Series.TheVariants as series
use Rattle.host_node.specs.Search.{next_of}
use Rattle.proof_serial.specs.host_model.State.{HostState, node_of}
use Rattle.proof_serial.specs.host_model.Events.{HostEvent, Submits_abort, Submits_front, Starts, Gives_text, Gives_segment, Begins, Begin_unkept, Queues_no_more, Drops_no_more}
use Rattle.proof_serial.specs.host_model.After.{after, is_busy, is_full}
use Rattle.proof_serial.specs.host_model.Outs.{outs}
use Rattle.proof_serial.specs.host_model.Did.{after_all}
use Rattle.proof_serial.specs.host_model.May.{IsFree}
use Rattle.proof_serial.specs.host_model.Pumping.{LetsSleep, GivesNext, IsServedBy, IsNextOfNodes, IsNextOf, Submits, Pumps}
use Rattle.proof_traffic.specs.Requests.{Word, Send, Abort, Other, Pending, Traffic, MaySubmit}
use Rattle.proof_traffic.specs.Requests as course
use Rattle.proof_traffic.specs.HostTraffic.{word_of, words_out, word_on, pending_of, InOrder, Knows, Goes}
use Rattle.proof_traffic.proofs.HostSteps.{goes_nowhere, goes_on}
use Rattle.proof_traffic.proofs.Quiet.{IsQuiet, AreQuiet, quiet_goes}

-- ---- which word a request is

-- a request has its function whatever its callback id
abbrev pub HasFunction : Type 0
HasFunction = (purpose : Purpose) (id : ℕ) → request_function (request_of purpose id) ≡ function_of purpose

-- only an abort has its function
pub task_is_other : (task : Task) → word_of (function_of (Housekeeping task)) ≢ Abort
task_is_other task e = elim task as (λ t. word_of (function_of (Housekeeping t)) ≡ Abort → ⊥) [
  | Plain n payload ↦ λ e. absurd (grind arith)
  | Offer n nonce ↦ λ e. absurd (grind arith)
  | Segment n payload ↦ λ e. absurd (grind arith)
  | NoMore n ↦ λ e. absurd (grind arith)
  | First n ↦ λ e. absurd (grind arith)
  | Second n ↦ λ e. absurd (grind arith)
  | Members ↦ λ e. absurd (grind arith)
  | Neighbours n ↦ λ e. absurd (grind arith)
  | IsFailed n ↦ λ e. absurd (grind arith)
  | Version ↦ λ e. absurd (grind arith)
  | MemoryId ↦ λ e. absurd (grind arith)
  | Capabilities ↦ λ e. absurd (grind arith)
] e

pub submits_other : (word : Word) (owes : Bool) → word ≢ Abort → owes ≡ false → MaySubmit word owes
submits_other Send owes other paid = paid
submits_other Abort owes other paid = absurd (other refl)
submits_other Other owes other paid = paid

-- ---- one request

pub idle_turn : (turn : Turn) → is_busy turn ≡ false → word_on turn ≡ None
idle_turn Idle free = refl
idle_turn (Copied f copies ticks) free = absurd (grind (arith, free))
idle_turn (Paused f copies ticks) free = absurd (grind (arith, free))

-- a request that is submitted: the course knows its word, and that it is written
pub submits : (has : HasFunction) (t : Traffic) (h g : HostState) (purpose : Purpose) (id : ℕ) → Knows t h → IsFree h → MaySubmit (word_of (function_of purpose)) h.requests.owes
    → word_on g.side.turn ≡ Some (word_of (request_function (request_of purpose id))) → pending_of g.requests.under_way ≡ Some (record { word = word_of (function_of purpose); answered = false })
    → g.requests.owes ≡ false → InOrder g.requests.under_way g.requests.owes
    → course.May t (course.Submits (word_of (function_of purpose))) × Knows (course.after t (course.Submits (word_of (function_of purpose)))) g
submits has t h g purpose id knows free may link pending owes order = (
  (
    knows.pending ∙ ap pending_of free.none_under_way,
    knows.link ∙ idle_turn h.side.turn free.free_line,
    subst (λ (b : Bool). MaySubmit (word_of (function_of purpose)) b) (sym knows.owes) may,
  ),
  record { link = sym (link ∙ ap (λ (f : ℕ). Some (word_of f)) (has purpose id)); pending = sym pending; owes = sym owes; order = order },
)

-- the events of such a step
module _ (has : HasFunction) where
  submits_one : (t : Traffic) (h : HostState) (event : HostEvent) (purpose : Purpose) (id : ℕ) → Knows t h → IsFree h → MaySubmit (word_of (function_of purpose)) h.requests.owes
      → word_on (after h event).side.turn ≡ Some (word_of (request_function (request_of purpose id)))
      → pending_of (after h event).requests.under_way ≡ Some (record { word = word_of (function_of purpose); answered = false })
      → (after h event).requests.owes ≡ false → InOrder (after h event).requests.under_way (after h event).requests.owes
      → words_out (outs h event ++ []) ≡ word_of (request_function (request_of purpose id)) ∷ [] → Goes t h (event ∷ [])
  submits_one t h event purpose id knows free may link pending owes order words =
      let both = submits has t h (after h event) purpose id knows free may link pending owes order in
      record {
        steps = course.Submits (word_of (function_of purpose)) ∷ [];
        may = (both.0, tt);
        knows = both.1;
        writes = record {
          up = ap (λ (ws : List Word). t.up ++ ws) (ap (λ (f : ℕ). word_of f ∷ []) (sym (has purpose id)) ∙ sym words);
          aborted = refl;
          sending = refl;
          calls = refl;
        };
      }

  -- an abort that is owed, the task that waited longest, a part of an attempt
  abort_goes : (t : Traffic) (h : HostState) → Knows t h → IsFree h → h.requests.owes ≡ true → Goes t h (Submits_abort ∷ [])
  abort_goes t h knows free owes =
      submits_one t h Submits_abort of_abort (next_id h.requests.last_id) knows free owes refl refl refl (refl, refl) refl

  prefix_goes : (t : Traffic) (h : HostState) (task : Task) (more : List Task) → Knows t h → IsFree h → h.requests.owes ≡ false → h.requests.queue ≡ task ∷ more → Goes t h (Submits_front ∷ [])
  prefix_goes t h task more knows free paid queue =
      submits_one t h Submits_front (Housekeeping task) (next_id h.requests.last_id) knows free (submits_other (word_of (function_of (Housekeeping task))) h.requests.owes (task_is_other task) paid)
      (rw queue refl) (rw queue refl) (rw queue paid) (rw queue (paid, tt)) (rw queue refl)

  part_goes : (t : Traffic) (h : HostState) (event : HostEvent) (n : ℕ) (more : Bool) (payload : List ℕ) → Knows t h → IsFree h → h.requests.owes ≡ false
      → (after h event).side.turn ≡ Copied (frame_of (Attempt n more payload) (next_id h.requests.last_id)) 1 0
      → (after h event).requests.under_way ≡ Some (record { purpose = Attempt n more payload; progress = Submitted })
      → (after h event).requests.owes ≡ h.requests.owes
      → words_out (outs h event ++ []) ≡ word_of (request_function (request_of (Attempt n more payload) (next_id h.requests.last_id))) ∷ [] → Goes t h (event ∷ [])
  part_goes t h event n more payload knows free paid link pending owes words =
      submits_one t h event (Attempt n more payload) (next_id h.requests.last_id) knows free paid (ap word_on link) (ap pending_of pending) (owes ∙ paid)
      (subst (λ (u : Option UnderWay). InOrder u (after h event).requests.owes) (sym pending) (owes ∙ paid, tt)) words

  -- ---- the next request

  attempt_goes : (t : Traffic) (h : HostState) (n : ℕ) (s : Series) (event : HostEvent) → Knows t h → IsFree h → h.requests.owes ≡ false → IsServedBy h n s event → Goes t h (event ∷ [])
  attempt_goes t h n series.Running event knows free paid served = gives_by (node_of h n).text served
    where
      gives_by : (text : Option (List ℕ)) → GivesNext h n text event → Goes t h (event ∷ [])
      gives_by (Some text) is = subst (λ (e : HostEvent). Goes t h (e ∷ [])) (sym is) (part_goes t h (Gives_text n text) n false text knows free paid refl refl refl refl)
      gives_by None is =
          subst (λ (e : HostEvent). Goes t h (e ∷ [])) (sym is.2)
          (part_goes t h (Gives_segment n (nat_lt ((node_of h n).next_segment + 1) (node_of h n).segments) is.0) n (nat_lt ((node_of h n).next_segment + 1) (node_of h n).segments) is.0 knows free paid refl refl refl refl)
  attempt_goes t h n series.Due event knows free paid served =
      subst (λ (e : HostEvent). Goes t h (e ∷ [])) (sym served.4) (part_goes t h (Starts n served.0 served.1 served.2) n served.1 served.2 knows free paid refl refl refl refl)
  attempt_goes t h n series.Idle event knows free paid (inl is) = subst (λ (e : HostEvent). Goes t h (e ∷ [])) (sym is) (quiet_goes t h (Begins n _ _ ∷ []) (tt, tt) knows)
  attempt_goes t h n series.Idle event knows free paid (inr is) = subst (λ (e : HostEvent). Goes t h (e ∷ [])) (sym is) (quiet_goes t h (Begin_unkept n ∷ []) (tt, tt) knows)

  node_goes : (t : Traffic) (h : HostState) (n : Option ℕ) (event : HostEvent) → Knows t h → IsFree h → h.requests.owes ≡ false → IsNextOfNodes h n event → Goes t h (event ∷ [])
  node_goes t h None event knows free paid next = absurd next
  node_goes t h (Some n) event knows free paid next = attempt_goes t h n (node_of h n).series event knows free paid next

  next_goes : (t : Traffic) (h : HostState) (owes : Bool) (queue : List Task) (event : HostEvent) → h.requests.owes ≡ owes → h.requests.queue ≡ queue → Knows t h → IsFree h → IsNextOf h owes queue event
      → Goes t h (event ∷ [])
  next_goes t h true queue event owes are knows free next = subst (λ (e : HostEvent). Goes t h (e ∷ [])) (sym next) (abort_goes t h knows free owes)
  next_goes t h false (task ∷ more) event owes are knows free next = subst (λ (e : HostEvent). Goes t h (e ∷ [])) (sym next) (prefix_goes t h task more knows free owes are)
  next_goes t h false [] event owes are knows free next = node_goes t h (next_of h.nodes h.served) event knows free owes next

  submits_go : (t : Traffic) (h : HostState) (events : List HostEvent) → Knows t h → Submits h events → Goes t h events
  submits_go t h [] knows submits = goes_nowhere t h knows
  submits_go t h (event ∷ events) knows submits =
      let first : Goes t h (event ∷ []) = next_goes t h h.requests.owes h.requests.queue event refl refl knows submits.0.0 submits.0.1 in
      goes_on t h (event ∷ []) events first (submits_go (course.after_all t first.steps) (after h event) events first.knows submits.1)

  -- ---- a pump

  let_quiet : (b : Bool) (n : ℕ) → IsQuiet (if b then Drops_no_more n else Queues_no_more n)
  let_quiet true n = tt
  let_quiet false n = tt

  lets_quiet : (h : HostState) (events : List HostEvent) → LetsSleep h events → AreQuiet events
  lets_quiet h [] lets = tt
  lets_quiet h (event ∷ events) lets = (subst IsQuiet (sym lets.2) (let_quiet (is_full h) lets.0), lets_quiet (after h event) events lets.3)

  pub pump_goes : (t : Traffic) (h : HostState) (events : List HostEvent) → Knows t h → Pumps h events → Goes t h events
  pump_goes t h events knows pumps =
      let (first, rest, are, lets, submits) = pumps in
      let quiet : Goes t h first = quiet_goes t h first (lets_quiet h first lets) knows in
      subst (λ (l : List HostEvent). Goes t h l) (sym are) (goes_on t h first rest quiet (submits_go (course.after_all t quiet.steps) (after_all h first) rest quiet.knows submits))
