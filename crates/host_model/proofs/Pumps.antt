-- What a pump does next may happen, there is always something to do while a node has work, and it ends.
use Rattle.std.proofs.Common.{◌≡◌, ◌≢◌, ℕ, zero, suc, ◌+◌, ◌≤◌, ◌<◌, Bool, true, false, ◌&&◌, ◌||◌, ◌==◌, nat_lt, if◌then◌else◌, cond, Option, Some, None, is_some, is_none, IsSome, List, [], ◌∷◌, length, All, get_or, count_by, inl, inr, ◌⊎◌, refl, sym, ap, ◌∙◌, subst, arith}
use Rattle.std.specs.Prelude.{slice_index}
use Rattle.std.specs.Option.{option_or}
use Rattle.std.proofs.lemmas.Bool.{cases_lt, lt-ltb as within_holds, ltb-true as is_below}
use Rattle.std.proofs.lemmas.Bool.Decides.{nat_tests}
use Rattle.std.proofs.lemmas.List.{get_or_past}
use Rattle.std.proofs.lemmas.List.Sums.{sum_by-set, count_by-le-length}
use Rattle.std.proofs.lemmas.List.Elements.{All-get_or}
use Rattle.std.proofs.lemmas.Option.{slice_get_within, get_or_from_slice_get, slice_get-get_or}
use Rattle.supervision.specs.Host.{begun_of, open_session, command_at as command_of_session}
use Rattle.host_requests.specs.declared.task.Task.{Task}
use Rattle.host_requests.specs.declared.under_way.UnderWay.{UnderWay}
use Rattle.host_node.specs.declared.series.Series.{Series}
use Rattle.host_node.specs.declared.series.Series.TheVariants.{Idle, Due, Running}
use Rattle.host_node.specs.declared.no_more.NoMore.{NoMore}
use Rattle.host_node.specs.declared.no_more.NoMore.TheVariants.{Queued, Dropped}
use Rattle.host_node.specs.declared.attempt.Plan.{Plan}
use Rattle.host_node.specs.State.{NodeState, unknown, is_false, is_idle, is_up, is_unasked, has_segment, has_waiting, has_work, wants_no_more}
use Rattle.host_node.specs.Steps.{after_begin, after_block, after_no_more}
use Rattle.host_node.specs.Facts.{NodeFacts, SeriesFacts}
use Rattle.host_node.specs.Events.{FitsPlan, May as node_may}
use Rattle.host_node.specs.Events.NodeEvent.{Begins as node_begins}
use Rattle.host_node.specs.TableState.{node_of as node_among, with_node as with_node_among}
use Rattle.host_node.specs.Search.{least_above, next_of, first_wanting}
use Rattle.host_node.proofs.Searches.{what_is_least}
use Rattle.host_orders.specs.Wrapping.{form_of}
use Rattle.host_orders.specs.declared.carriage.Form.{Form}
use Rattle.host_orders.specs.declared.carriage.Form.TheVariants.{Plain, Cut, Sealed}
use Rattle.host_model.specs.State.{HostState, Command, node_of, command_at}
use Rattle.host_model.specs.Sessions.{message_for, segment_count, segment_at, segment_by, segment_of, start_by, start_of, command_if, open_segment}
use Rattle.host_model.specs.After.{after, is_busy, is_full}
use Rattle.host_model.specs.Events.{HostEvent, Queues_no_more, Drops_no_more, Submits_abort, Submits_front, Starts, Gives_text, Gives_segment, Begins, Begin_unkept}
use Rattle.host_model.specs.May.{May, IsFree, IsServed, IsStart}
use Rattle.host_model.specs.Pumping.{no_more_event, GivesNext, IsServedBy, IsNextOfNodes, IsNextOf, IsNext, HasNothing, may_begin, is_free, turns_left, sleepers_left}
use Rattle.host_model.specs.Facts.{FitsForm, IsSound, IsCommandOf, HasSegments, HostFacts}
use Rattle.host_node.proofs.Keeps.{first_holds, second_holds}
use Rattle.host_model.proofs.FactsKept.{wants as wants_least}

-- ---- tests

pub and_false : (a : Bool) → a && false ≡ false
and_false true = refl
and_false false = refl

other_holds : (a b : Bool) → (a || b) ≡ true → a ≡ false → b ≡ true
other_holds true b e none = cc
other_holds false b e none = e

pub none_of : {X : Type 0} (o : Option X) → is_none o ≡ true → o ≡ None
none_of None e = refl
none_of (Some x) e = cc

not_some : {X : Type 0} (o : Option X) → o ≡ None → is_some o ≡ false
not_some None e = refl
not_some (Some x) e = cc

some_of : {X : Type 0} (o : Option X) → IsSome o → (x : X) × (o ≡ Some x)
some_of None e = cc
some_of (Some x) e = (x, refl)

above_zero : (k : ℕ) → nat_lt 0 k ≡ true → 0 < k
above_zero k e = grind (arith, nat_tests)

-- ---- a count of nodes falls

count_falls : (p : NodeState → Bool) (nodes : List NodeState) (n : ℕ) (state : NodeState) → n < length nodes → p (node_among nodes n) ≡ true → p state ≡ false
    → count_by p (with_node_among nodes n state) < count_by p nodes
count_falls p nodes n state within was is =
    let sums = sum_by-set (λ (s : NodeState). cond (p s) 1 0) nodes n state (unknown 0) within in
    let number : Bool → ℕ = λ b. cond b 1 0 in
    let one : number (p (node_among nodes n)) ≡ 1 = ap number was in
    let none : number (p state) ≡ 0 = ap number is in
    omega (arith, sums, one, none)

-- a node of which something is true that is not true of an unknown one has its place
has_place : (p : NodeState → Bool) (nodes : List NodeState) (n : ℕ) → p (unknown 0) ≡ false → p (node_among nodes n) ≡ true → n < length nodes
has_place p nodes n never is = elim (cases_lt n (length nodes)) [
  | inl within ↦ within
  | inr past ↦ impossible (p (unknown 0)) never (sym (ap p (get_or_past nodes n (unknown 0) past)) ∙ is)
]
  where
    impossible : {X : Type 0} (b : Bool) → b ≡ false → b ≡ true → X
    impossible b not_it it = cc

-- ---- which node is next

next_by : (passes : ℕ → Bool) (a b : ℕ) (o o' : Option ℕ) (n : ℕ) → least_above passes a ≡ o → least_above passes b ≡ o' → option_or o o' ≡ Some n → passes n ≡ true
next_by passes a b None o' n first second e = (what_is_least passes b n (second ∙ e)).is_one
next_by passes a b (Some k) o' n first second e = (what_is_least passes a n (first ∙ e)).is_one

pub next_works : (nodes : List NodeState) (served n : ℕ) → next_of nodes served ≡ Some n → has_work (node_among nodes n) ≡ true
next_works nodes served n e =
    let works : ℕ → Bool = λ node. has_work (node_among nodes node) in
    next_by works served 0 (least_above works served) (least_above works 0) n refl refl e

-- what work it is, by the series of the node
running_work : (n : NodeState) → n.series ≡ Running → has_work n ≡ true → (is_some n.text || has_segment n) ≡ true
running_work n is works = subst (λ (s : Series). has_work (record n { series = s }) ≡ true) is works

idle_work : (n : NodeState) → n.series ≡ Idle → has_work n ≡ true → is_none (open_session n.book) && has_waiting n && is_up n && is_false n.blocked ≡ true
idle_work n is works = subst (λ (s : Series). has_work (record n { series = s }) ≡ true) is works

idle_begins : (n : NodeState) → n.series ≡ Idle → has_work n ≡ true → node_may n node_begins
idle_begins n is works =
    let all = idle_work n is works in
    let two = first_holds _ _ (first_holds _ _ all) in
    (above_zero (length n.waiting) (second_holds _ _ two), none_of (open_session n.book) (first_holds _ _ two))

idle_may_begin : (n : NodeState) → n.series ≡ Idle → has_work n ≡ true → may_begin n ≡ true
idle_may_begin n is works =
    subst (λ (s : Series). is_idle s && is_false n.blocked ≡ true) (sym is) (second_holds _ _ (idle_work n is works))

-- ---- the command of an open session

pub found_is : (P : Command → Type 0) (commands : List Command) (number : ℕ) (command : Command) → command_at commands number ≡ Some command → All P commands → P command
found_is P commands zero command e all = cc
found_is P commands (suc k) command e all =
    subst P (get_or_from_slice_get commands k command command e) (All-get_or P commands k command (slice_get_within commands k command e) all)

-- an open session has a command
carried_by : (outcome : Option ℕ) (commands : List ℕ) (attempts session : ℕ) → open_session (record { commands = commands; outcome = outcome; attempts = attempts }) ≡ Some session
    → (number : ℕ) × (command_of_session commands session ≡ Some number) × (session ≡ length commands) × (0 < length commands)
carried_by (Some status) commands attempts session e = cc
carried_by None [] attempts session e = cc
carried_by None (first ∷ rest) attempts session e =
    let last : session ≡ suc (length rest) = cc in (
      get_or (first ∷ rest) (length rest) 0,
      ap (λ k. command_of_session (first ∷ rest) k) last ∙ slice_get-get_or (first ∷ rest) (length rest) 0 (omega arith),
      last,
      omega arith,
    )

number_is : (P : ℕ → Type 0) (numbers : List ℕ) (session number : ℕ) → command_of_session numbers session ≡ Some number → All P numbers → P number
number_is P numbers zero number e all = cc
number_is P numbers (suc k) number e all =
    subst P (get_or_from_slice_get numbers k number number e) (All-get_or P numbers k number (slice_get_within numbers k number e) all)

-- the session of a node and its command, which is sound
record Opens (h : HostState) (n : ℕ) : Type 0 where
  pub session : ℕ
  pub opened : open_session (node_of h n).book ≡ Some session
  pub number : ℕ
  pub carried : command_of_session (node_of h n).book.commands session ≡ Some number
  pub command : Command
  pub found : command_at h.commands number ≡ Some command
  pub sound : IsSound h.store command

opens : (h : HostState) (n : ℕ) → HostFacts h → IsSome (open_session (node_of h n).book) → Opens h n
opens h n f is_one =
    let one = some_of (open_session (node_of h n).book) is_one in
    let book = (node_of h n).book in
    let carried = carried_by book.outcome book.commands book.attempts one.0 one.1 in
    let owned : IsCommandOf h.commands n carried.0 = number_is (IsCommandOf h.commands n) book.commands one.0 carried.0 carried.1 (f.owns n).sessions in
    record {
      session = one.0;
      opened = one.1;
      number = carried.0;
      carried = carried.1;
      command = owned.command;
      found = owned.found;
      sound = found_is (IsSound h.store) h.commands carried.0 owned.command owned.found f.commands;
    }

-- ---- an attempt that is due starts

series_at : (n : NodeState) (s : Series) → NodeFacts n → n.series ≡ s → SeriesFacts s n.book n.attempt_wait n.again_wait n.next_segment n.segments n.text n.pending
series_at n s f e = subst (λ (t : Series). SeriesFacts t n.book n.attempt_wait n.again_wait n.next_segment n.segments n.text n.pending) e f.series

pub due_starts : (h : HostState) (n : ℕ) → HostFacts h → (node_of h n).series ≡ Due → (plan : Plan) × (more : Bool) × (payload : List ℕ) × IsStart h n plan more payload
due_starts h n f due =
    let o = opens h n f (series_at (node_of h n) Due (f.nodes.facts n) due).0.is_open in
    let start = start_of o.command o.session in (
      start.plan,
      start.more,
      start.payload,
      record {
        session = o.session;
        opened = o.opened;
        command = o.command;
        carried = (o.number, o.carried, o.found);
        plan_is = refl;
        more_is = refl;
        payload_is = refl;
      },
    )

plan_fits : (form : Form) (session : ℕ) (message : List ℕ) → FitsForm form message → FitsPlan (start_by form session message).plan
plan_fits Plain session message fits = tt
plan_fits Cut session message fits = omega (arith, fits.0)
plan_fits Sealed session message fits = fits

pub start_fits : (h : HostState) (n : ℕ) (plan : Plan) (more : Bool) (payload : List ℕ) → HostFacts h → IsStart h n plan more payload → FitsPlan plan
start_fits h n plan more payload f s =
    let sound : IsSound h.store s.command = found_is (IsSound h.store) h.commands s.carried.0 s.command s.carried.2 f.commands in
    subst FitsPlan (sym s.plan_is) (plan_fits (form_of s.command.carriage.outer) s.session (message_for s.command s.session) (sound.form s.session))

-- ---- a running attempt gives its next segment

segment_there : (form : Form) (session : ℕ) (message : List ℕ) (k : ℕ) → form ≡ Cut → k < segment_count message → segment_by form session message k ≡ Some (segment_at session message k)
segment_there Plain session message k is within = cc
segment_there Cut session message k is within = ap (λ (b : Bool). if b then Some (segment_at session message k) else None) (within_holds k (segment_count message) within)
segment_there Sealed session message k is within = cc

pub segment_goes_on : (h : HostState) (n : ℕ) → HostFacts h → has_segment (node_of h n) ≡ true
    → (payload : List ℕ) × (open_segment h (node_of h n) (open_session (node_of h n).book) (node_of h n).next_segment ≡ Some payload)
segment_goes_on h n f has = by (f.owns n).segments
  where
    by : ((node_of h n).segments ≡ 0) ⊎ HasSegments h.commands (node_of h n)
        → (payload : List ℕ) × (open_segment h (node_of h n) (open_session (node_of h n).book) (node_of h n).next_segment ≡ Some payload)
    by (inl none) = absurd (omega (arith, none, is_below (node_of h n).next_segment (node_of h n).segments has))
    by (inr s) =
        let k = (node_of h n).next_segment in
        let within : k < segment_count (message_for s.command s.session) = omega (arith, s.count, is_below (node_of h n).next_segment (node_of h n).segments has) in (
          segment_at s.session (message_for s.command s.session) k,
          ap (λ (o : Option ℕ). open_segment h (node_of h n) o k) s.opened
              ∙ ap (λ (o : Option ℕ). segment_of (command_if h.commands o) s.session k) s.carried
              ∙ ap (λ (o : Option Command). segment_of o s.session k) s.found
              ∙ segment_there (form_of s.command.carriage.outer) s.session (message_for s.command s.session) k s.form within,
        )

-- ---- a turn

-- the event may happen, and fewer turns are left
pub record Turns (h : HostState) (event : HostEvent) : Type 0 where
  pub may : May h event
  pub less : turns_left (after h event) < turns_left h

free_is : (h : HostState) → IsFree h → is_free h ≡ true
free_is h free =
    let none : is_none h.requests.under_way ≡ true = ap (λ (o : Option UnderWay). is_none o) free.none_under_way in
    ap (λ (b : Bool). b && is_false (is_busy h.side.turn)) none ∙ ap (λ (b : Bool). is_false b) free.free_line

-- a request was submitted
turns_end : (h h' : HostState) → IsFree h → is_free h' ≡ false → turns_left h' < turns_left h
turns_end h h' free busy =
    let now : turns_left h' ≡ 0 = ap (λ (b : Bool). if b then suc (count_by may_begin h'.nodes) else 0) busy in
    let before : turns_left h ≡ suc (count_by may_begin h.nodes) = ap (λ (b : Bool). if b then suc (count_by may_begin h.nodes) else 0) (free_is h free) in
    omega (arith, now, before)

-- a node is idle no more, or is blocked
turns_fall : (h : HostState) (n : ℕ) (state : NodeState) (commands : List Command) → IsFree h → n < length h.nodes → may_begin (node_of h n) ≡ true → may_begin state ≡ false
    → turns_left (record h { nodes = with_node_among h.nodes n state; commands = commands }) < turns_left h
turns_fall h n state commands free within was is =
    let fewer = count_falls may_begin h.nodes n state within was is in
    let now : turns_left (record h { nodes = with_node_among h.nodes n state; commands = commands }) ≡ suc (count_by may_begin (with_node_among h.nodes n state))
    = ap (λ (b : Bool). if b then suc (count_by may_begin (with_node_among h.nodes n state)) else 0) (free_is h free) in
    let before : turns_left h ≡ suc (count_by may_begin h.nodes) = ap (λ (b : Bool). if b then suc (count_by may_begin h.nodes) else 0) (free_is h free) in
    omega (arith, fewer, now, before)

gives_turn : (h : HostState) (n : ℕ) → HostFacts h → IsServed h n → (node_of h n).series ≡ Running → (o : Option (List ℕ)) → (node_of h n).text ≡ o
    → (event : HostEvent) → GivesNext h n o event → Turns h event
gives_turn h n f served is (Some text) has event next = subst (λ (e : HostEvent). Turns h e) (sym next) (record {
  may = (served, has);
  less = turns_end h (after h (Gives_text n text)) served.free (and_false (is_none (after h (Gives_text n text)).requests.under_way));
})
gives_turn h n f served is None none event next =
    let more = nat_lt ((node_of h n).next_segment + 1) (node_of h n).segments in
    let segment : has_segment (node_of h n) ≡ true
    = other_holds (is_some (node_of h n).text) (has_segment (node_of h n)) (running_work (node_of h n) is (next_works h.nodes h.served n served.next)) (not_some (node_of h n).text none) in
    subst (λ (e : HostEvent). Turns h e) (sym next.2) (record {
      may = (served, none, next.1, refl, segment);
      less = turns_end h (after h (Gives_segment n more next.0)) served.free (and_false (is_none (after h (Gives_segment n more next.0)).requests.under_way));
    })

served_turn : (h : HostState) (n : ℕ) → HostFacts h → IsServed h n → (s : Series) → (node_of h n).series ≡ s → (event : HostEvent) → IsServedBy h n s event → Turns h event
served_turn h n f served Running is event next = gives_turn h n f served is (node_of h n).text refl event next
served_turn h n f served Due is event next =
    subst (λ (e : HostEvent). Turns h e) (sym next.4) (record {
      may = (served, next.3, (is, start_fits h n next.0 next.1 next.2 f next.3));
      less = turns_end h (after h (Starts n next.0 next.1 next.2)) served.free (and_false (is_none (after h (Starts n next.0 next.1 next.2)).requests.under_way));
    })
served_turn h n f served Idle is event next =
    let works = next_works h.nodes h.served n served.next in
    let within : n < length h.nodes = has_place has_work h.nodes n refl works in
    let was = idle_may_begin (node_of h n) is works in
    let begins = idle_begins (node_of h n) is works in
    elim next [
      | inl begun ↦ subst (λ (e : HostEvent). Turns h e) (sym begun) (record {
        may = (served, begins, refl, refl);
        less = turns_fall h n (after_begin (node_of h n)) (after h (Begins n (begun_of (node_of h n).book + 1) (slice_index (node_of h n).waiting 0))).commands served.free within was refl;
      })
      | inr unkept ↦ subst (λ (e : HostEvent). Turns h e) (sym unkept) (record {
        may = (served, begins);
        less = turns_fall h n (after_block (node_of h n)) h.commands served.free within was (and_false (is_idle (node_of h n).series));
      })
    ]

nodes_turn : (h : HostState) → HostFacts h → IsFree h → h.requests.owes ≡ false → h.requests.queue ≡ [] → (o : Option ℕ) → next_of h.nodes h.served ≡ o
    → (event : HostEvent) → IsNextOfNodes h o event → Turns h event
nodes_turn h f free paid none None is event next = absurd next
nodes_turn h f free paid none (Some n) is event next =
    served_turn h n f (record { free = free; paid = paid; no_task = none; next = is }) (node_of h n).series refl event next

not_empty : {X : Type 0} (l : List X) (x : X) (more : List X) → l ≡ x ∷ more → l ≢ []
not_empty l x more e none = cc

turn_of : (h : HostState) → HostFacts h → IsFree h → (owes : Bool) → h.requests.owes ≡ owes → (queue : List Task) → h.requests.queue ≡ queue
    → (event : HostEvent) → IsNextOf h owes queue event → Turns h event
turn_of h f free true owes queue waits event next = subst (λ (e : HostEvent). Turns h e) (sym next) (record {
  may = (free, owes);
  less = turns_end h (after h Submits_abort) free (and_false (is_none (after h Submits_abort).requests.under_way));
})
turn_of h f free false owes (task ∷ more) waits event next = subst (λ (e : HostEvent). Turns h e) (sym next) (record {
  may = (free, owes, not_empty h.requests.queue task more waits);
  less = turns_end h (after h Submits_front) free (and_false (is_none (after h Submits_front).requests.under_way));
})
turn_of h f free false owes [] waits event next = nodes_turn h f free owes waits (next_of h.nodes h.served) refl event next

pub turn : (h : HostState) (event : HostEvent) → HostFacts h → IsNext h event → Turns h event
turn h event f next = turn_of h f next.0 h.requests.owes refl h.requests.queue refl event next.1

-- ---- there is a next one, unless there is nothing to do

gives_one : (h : HostState) (n : ℕ) → HostFacts h → (is_some (node_of h n).text || has_segment (node_of h n)) ≡ true → (o : Option (List ℕ)) → (node_of h n).text ≡ o
    → (event : HostEvent) × GivesNext h n o event
gives_one h n f has (Some text) is = (Gives_text n text, refl)
gives_one h n f has None is =
    let segment = segment_goes_on h n f (other_holds (is_some (node_of h n).text) (has_segment (node_of h n)) has (not_some (node_of h n).text is)) in
    (Gives_segment n (nat_lt ((node_of h n).next_segment + 1) (node_of h n).segments) segment.0, (segment.0, segment.1, refl))

one_served : (h : HostState) (n : ℕ) → HostFacts h → has_work (node_of h n) ≡ true → (s : Series) → (node_of h n).series ≡ s → (event : HostEvent) × IsServedBy h n s event
one_served h n f works Running is = gives_one h n f (running_work (node_of h n) is works) (node_of h n).text refl
one_served h n f works Due is =
    let start = due_starts h n f is in (Starts n start.0 start.1 start.2, (start.0, start.1, start.2, start.3, refl))
one_served h n f works Idle is = (Begin_unkept n, inr refl)

next_served : (h : HostState) → HostFacts h → h.requests.owes ≡ false → h.requests.queue ≡ [] → (o : Option ℕ) → next_of h.nodes h.served ≡ o
    → HasNothing h ⊎ ((event : HostEvent) × IsNextOfNodes h o event)
next_served h f paid none None is = inl (record { paid = paid; no_task = none; no_work = is })
next_served h f paid none (Some n) is = inr (one_served h n f (next_works h.nodes h.served n is) (node_of h n).series refl)

next_there : (h : HostState) → HostFacts h → (owes : Bool) → h.requests.owes ≡ owes → (queue : List Task) → h.requests.queue ≡ queue
    → HasNothing h ⊎ ((event : HostEvent) × IsNextOf h owes queue event)
next_there h f true owes queue waits = inr (Submits_abort, refl)
next_there h f false owes (task ∷ more) waits = inr (Submits_front, refl)
next_there h f false owes [] waits = next_served h f owes waits (next_of h.nodes h.served) refl

pub there_is_a_next : (h : HostState) → HostFacts h → IsFree h → HasNothing h ⊎ ((event : HostEvent) × IsNext h event)
there_is_a_next h f free = elim (next_there h f h.requests.owes refl h.requests.queue refl) [
  | inl nothing ↦ inl nothing
  | inr one ↦ inr (one.0, (free, one.1))
]

-- ---- nodes are let sleep

-- the event may happen, and fewer nodes are left
pub record LetsOneSleep (h : HostState) (event : HostEvent) : Type 0 where
  pub may : May h event
  pub less : sleepers_left (after h event) < sleepers_left h

asked : (n : NodeState) (m : NoMore) → is_unasked m ≡ false → wants_no_more (after_no_more n m) ≡ false
asked n m e =
    let kept = n.awake && is_false n.listens && is_some n.classes in
    let so : kept && is_unasked m ≡ false = ap (λ (b : Bool). kept && b) e ∙ and_false kept in
    ap (λ (b : Bool). b && is_false (has_waiting n) && is_idle n.series && n.hold == 0) so

sleeps_by : (h : HostState) (n : ℕ) → first_wanting h.nodes ≡ Some n → (full : Bool) → is_full h ≡ full → LetsOneSleep h (if full then Drops_no_more n else Queues_no_more n)
sleeps_by h n least true full =
    let wants = wants_least h.nodes n least in
    record {
      may = (least, full);
      less = count_falls wants_no_more h.nodes n (after_no_more (node_of h n) Dropped) (has_place wants_no_more h.nodes n refl wants) wants (asked (node_of h n) Dropped refl);
    }
sleeps_by h n least false full =
    let wants = wants_least h.nodes n least in
    record {
      may = (least, full);
      less = count_falls wants_no_more h.nodes n (after_no_more (node_of h n) Queued) (has_place wants_no_more h.nodes n refl wants) wants (asked (node_of h n) Queued refl);
    }

pub one_sleeps : (h : HostState) (n : ℕ) → first_wanting h.nodes ≡ Some n → LetsOneSleep h (no_more_event h n)
one_sleeps h n least = sleeps_by h n least (is_full h) refl

-- ---- how many there are at most

pub few_turns : (h : HostState) → HostFacts h → turns_left h ≤ 234
few_turns h f = by (is_free h)
  where
    by : (b : Bool) → (if b then suc (count_by may_begin h.nodes) else 0) ≤ 234
    by true = omega (arith, count_by-le-length may_begin h.nodes, f.nodes.places)
    by false = omega arith

pub few_sleepers : (h : HostState) → HostFacts h → sleepers_left h ≤ 233
few_sleepers h f = omega (arith, count_by-le-length wants_no_more h.nodes, f.nodes.places)
