-- A node that was told that there is no more for it has slept since, by the transcript, once the request that tells it is over; and not before.
use Rattle.std.proofs.Common.{◌≡◌, ◌⊎◌, ℕ, ◌≤◌, ◌==◌, ◌||◌, not, Bool, true, false, if◌then◌else◌, inl, inr, List, [], ◌∷◌, ◌++◌, length, Option, Some, None, refl, sym, ap, ◌∙◌, ap₂, subst, append_assoc, arith}
use Rattle.std.specs.Prelude.{IsSome}
use Rattle.std.specs.List.{AllByRecursion, flat_map, list_any}
use Rattle.std.proofs.lemmas.Bool.{both_ways, eq-eqb, eqb-true, or_left, or_right}
use Rattle.std.proofs.lemmas.List.Folds.{list_any-append}
use Rattle.zw_base.proofs.Each.{all-weaker}
use Rattle.serial_frame.specs.Items.{unit_text}
use Rattle.serial_frame.specs.declared.item.Item.{Item}
use Rattle.serial_frame.specs.declared.unit.Unit.{Unit as LineUnit}
use Rattle.serial_frame.specs.declared.unit.Unit.TheVariants.{Ack, Nak, Framed}
use Rattle.serial_link.specs.State.{Side}
use Rattle.chip_functions.specs.declared.notice.Update.{Update}
use Rattle.chip_functions.specs.declared.notice.Update.TheVariants.{Received, RequestFailed}
use Rattle.chip_functions.specs.Field.{IsNode}
use Rattle.chip_functions.specs.declared.request.Request.{Request}
use Rattle.zw_words.specs.declared.side.Side.TheVariants.{Host}
use Rattle.zw_text.specs.declared.entry.Entry.{Entry}
use Rattle.zw_text.specs.declared.entry.Entry.TheVariants as entry
use Rattle.zw_text.specs.Transcript.{line_of, waking_at, wakings}
use Rattle.zw_text.proofs.Views.{shown-append}
use Rattle.proof_work.specs.law_transcript.Lists.{last_or}
use Rattle.proof_work.specs.law_transcript.Restarts.{begins_refused, is_restart}
use Rattle.proof_work.specs.law_transcript.Units.{request_in, sending_of}
use Rattle.proof_work.specs.law_time.Interviews.{listens}
use Rattle.proof_work.specs.law_time.Judged.{acknowledged, is_data}
use Rattle.proof_work.specs.law_time.Requests.{Asked as TheAsked, asked, is_new, request_last}
use Rattle.proof_work.specs.law_time.Waking.{has_slept, is_told, node_told, nodes_told}
use Rattle.host_requests.specs.Events.{interviewed_from}
use Rattle.host_requests.specs.Frames.{request_of}
use Rattle.host_requests.specs.State.{RequestsState}
use Rattle.host_requests.specs.declared.task.Purpose.{Purpose}
use Rattle.host_requests.specs.declared.task.Purpose.TheVariants.{Housekeeping, Attempt, Abort}
use Rattle.host_requests.specs.declared.task.Task.TheVariants.{Plain, Segment, NoMore}
use Rattle.host_requests.specs.declared.under_way.UnderWay.{UnderWay}
use Rattle.host_requests.specs.declared.under_way.Progress.TheVariants.{Submitted}
use Rattle.proof_requests.specs.host_model.State.{HostState, first_host, node_of}
use Rattle.proof_requests.specs.host_model.Did.{one_if}
use Rattle.proof_requests.specs.host_model.After.{after}
use Rattle.proof_requests.specs.host_model.May.{May as may_event}
use Rattle.proof_requests.specs.host_model.Outs.{answer_to, answers, outs}
use Rattle.proof_requests.specs.host_model.declared.out.HostOut.TheVariants.{Write}
use Rattle.proof_work.specs.world_model.Events.{OpensFrom}
use Rattle.proof_requests.specs.host_model.Events.{HostEvent, Accepts, Cancels, Hears, Interviews, Notifies}
use Rattle.s0_crypto.specs.declared.key_pair.Keys.{Keys}
use Rattle.proof_work.specs.Work.{HostWork, MayBeTold, times_told, told_at, told_for}
use Rattle.proof_work.proofs.HostOuts.{outs_are}
use Rattle.proof_requests.specs.proof_alone.State.{HostMachine, done}
use Rattle.proof_requests.specs.proof_alone.Steps.{AreTold, Does, IsOfUnit}
use Rattle.proof_requests.specs.proof_alone.Phases.{Phase, Resting, Submitting, GoesBy, May}
use Rattle.proof_requests.proofs.proof_waking_Apart.{IsWordless, wordless_fresh}
use Rattle.proof_requests.proofs.proof_alone_Apart.{AreOfLine}
use Rattle.proof_requests.proofs.proof_waking_Listening.{IsNoInterview, TellsNone, event_none, listens_more}
use Rattle.proof_requests.proofs.proof_waking_Parts.{IsNoWaking, unit_told, item_told}
use Rattle.proof_requests.specs.Asking.{Doing, TieAsked, TieUnderWay, doing_of}
use Rattle.proof_requests.specs.Standing.{GoesOn, standing_of, with_entries}
use Rattle.proof_requests.specs.Walking.{KnowsAsked}
use Rattle.proof_requests.proofs.Doing.{beside_same}
use Rattle.proof_requests.proofs.Growing.{asked_anew, asked_copy, asked_in_vain, asked_new, asked_on, asked_said}
use Rattle.proof_requests.proofs.Queueing.{opened_asks}
use Rattle.proof_requests.proofs.Stepping.{asked_beside}
use Rattle.proof_requests.proofs.Telling.{IsQuiet, quiet_on}
use Rattle.proof_requests.proofs.Walking.{marks_quiet}
use Rattle.proof_requests.proofs.proof_waking_Settling.{waking_shared}
pub use Rattle.proof_requests.proofs.Judging.{or_false as or_none}
use Rattle.proof_attempts.specs.Carried.{CarriesOthers, CarriesWell, IsOther, UnderWayWell, nodes_of}
use Rattle.proof_attempts.specs.Slept.{KnowsTelling, SleepsIfTold, SleptSo, TieSlept}
use Rattle.proof_attempts.specs.Since.{IsElse, IsLoose, Lasts}
use Rattle.proof_attempts.proofs.Counting.{answers_wordless, event_awake, loose_wordless, told_wordless}
use Rattle.proof_attempts.proofs.Lasting.{by_else, rest_of}
use Rattle.proof_attempts.proofs.Requested.{Unsubmitted, event_keeps, told_sleeps}
use Rattle.proof_attempts.proofs.Telling.{told_so}
use Rattle.proof_attempts.proofs.Working.{in_order}
use Rattle.proof_attempts.proofs.Wrote.{Wrote, writes}
use Rattle.proof_attempts.proofs.Wrote.Wrote.{Quietly, Again, Anew}

-- ---- which nodes a request tells

abbrev pub told_by : List Request → List ℕ
told_by requests = flat_map node_told (flat_map sending_of requests)

other_none : (n : ℕ) (payload : List ℕ) → IsOther payload → told_by (request_of (Attempt n false payload) 0 ∷ []) ≡ []
other_none n payload other = ap (λ (b : Bool). (if b then n ∷ [] else []) ++ []) other

purpose_tells : (p : Purpose) (id : ℕ) → CarriesWell p → told_by (request_of p id ∷ []) ≡ nodes_of p
purpose_tells (Housekeeping (NoMore n)) id well = refl
purpose_tells (Housekeeping (Plain n payload)) id well = other_none n payload well
purpose_tells (Housekeeping (Segment n payload)) id well = other_none n payload well
purpose_tells (Housekeeping task) id well = refl
purpose_tells (Attempt n more payload) id well = other_none n payload well.1
purpose_tells Abort id well = refl

told_purpose : (n : ℕ) (p : Purpose) → list_any (λ one. one == n) (nodes_of p) ≡ true → p ≡ Housekeeping (NoMore n)
told_purpose n (Housekeeping (NoMore k)) is = ap (λ (m : ℕ). Housekeeping (NoMore m)) (eqb-true k n (sym (or_none (k == n)) ∙ is))
told_purpose n (Housekeeping task) is = absurd (let bad : false ≡ true = is in cc)
told_purpose n (Attempt k more payload) is = absurd (let bad : false ≡ true = is in cc)
told_purpose n Abort is = absurd (let bad : false ≡ true = is in cc)

pub purpose_told : (n : ℕ) (u : UnderWay) → u.purpose ≡ Housekeeping (NoMore n) → told_at n (Some u) ≡ 1
purpose_told n u is = ap (λ (p : Purpose). told_for n p) is ∙ ap one_if (eq-eqb n n refl)

pub frame_tells : (past : List Entry) (requests : RequestsState) (u : UnderWay) → requests.under_way ≡ Some u → UnderWayWell requests.under_way
    → request_last past ≡ request_of u.purpose requests.last_id ∷ [] → nodes_told (asked past).frame ≡ nodes_of u.purpose
frame_tells past requests u is well request = ap told_by request ∙ purpose_tells u.purpose requests.last_id (subst UnderWayWell is well)

-- ---- how often it slept

pub slept_more : (n : ℕ) (some more : List Entry) → has_slept n (some ++ more) ≡ (has_slept n some || has_slept n more)
slept_more n some more = ap (λ (l : List Bool). list_any not l) (shown-append (waking_at n) some more) ∙ list_any-append not (wakings n some) (wakings n more)

-- no node falls asleep by it
abbrev pub NoneSleeps : Entry → Type 0
NoneSleeps (entry.Asleep node) = ⊥
NoneSleeps e = Unit {0}

pub none_slept : (n : ℕ) (told : List Entry) → AllByRecursion NoneSleeps told → has_slept n told ≡ false
none_slept n [] all = refl
none_slept n (entry.Asleep node ∷ told) all = absurd all.0
none_slept n (entry.Awake node ∷ told) all = by (node == n) (none_slept n told all.1)
  where
    by : (b : Bool) → list_any not (wakings n told) ≡ false → list_any not ((if b then true ∷ [] else []) ++ wakings n told) ≡ false
    by true rest = rest
    by false rest = rest
none_slept n (e ∷ told) all = none_slept n told all.1

pub mark_wakes : (e : Entry) → IsOfUnit e → NoneSleeps e
mark_wakes (entry.Asleep node) mark = absurd mark
mark_wakes e mark = tt

-- it wakes no more, and slept where it is not awake in the end
stays_asleep : (n : ℕ) (told : List Entry) → AllByRecursion IsNoWaking told → last_or false (wakings n told) ≡ false
stays_asleep n [] all = refl
stays_asleep n (entry.Awake node ∷ told) all = absurd all.0
stays_asleep n (entry.Asleep node ∷ told) all = by (node == n) (stays_asleep n told all.1)
  where
    by : (b : Bool) → last_or false (wakings n told) ≡ false → last_or false ((if b then false ∷ [] else []) ++ wakings n told) ≡ false
    by true rest = rest
    by false rest = rest
stays_asleep n (e ∷ told) all = stays_asleep n told all.1

stays_awake : (n : ℕ) (told : List Entry) → AllByRecursion IsNoWaking told → last_or true (wakings n told) ≡ true → has_slept n told ≡ false
stays_awake n [] all awake = refl
stays_awake n (entry.Awake node ∷ told) all awake = absurd all.0
stays_awake n (entry.Asleep node ∷ told) all awake = by (node == n) awake (stays_awake n told all.1)
  where
    by : (b : Bool) → last_or true ((if b then false ∷ [] else []) ++ wakings n told) ≡ true → (last_or true (wakings n told) ≡ true → has_slept n told ≡ false)
        → list_any not ((if b then false ∷ [] else []) ++ wakings n told) ≡ false
    by true awake rest = absurd (both_ways (last_or false (wakings n told)) (stays_asleep n told all.1) awake)
    by false awake rest = rest awake
stays_awake n (e ∷ told) all awake = stays_awake n told all.1 awake

fell_asleep : (l : List Bool) → last_or true l ≡ false → list_any not l ≡ true
fell_asleep [] slept = absurd (let bad : true ≡ false = slept in cc)
fell_asleep (true ∷ l) slept = fell_asleep l slept
fell_asleep (false ∷ l) slept = refl

-- ---- what is told at an event

wakes_line : AreOfLine IsNoWaking
wakes_line = record { written = λ side text. tt; dropped = λ side. tt; garbled = λ side text. tt; overrun = λ side. tt }

sleeps_line : AreOfLine NoneSleeps
sleeps_line = record { written = λ side text. tt; dropped = λ side. tt; garbled = λ side text. tt; overrun = λ side. tt }

-- where the node is awake before and after an event it has not slept in it
never_slept : (h : HostState) (event : HostEvent) (told : List Entry) (n : ℕ) → AreTold (outs h event) told → last_or true (wakings n told) ≡ true → has_slept n told ≡ false
never_slept h (Notifies k) told n are awake = none_slept n told (told_so NoneSleeps sleeps_line (outs h (Notifies k)) told (tt, tt) are)
never_slept h (Accepts order carriage) told n are awake = none_slept n told (told_so NoneSleeps sleeps_line [] told tt are)
never_slept h event told n are awake = stays_awake n told (told_so IsNoWaking wakes_line (outs h event) told (outs_are IsNoWaking waking_shared h event tt) are) awake

none_interviewed : (first : Option ℕ) (update : Update) → interviewed_from first update None ≡ None
none_interviewed first (Received n basic generic specific classes) = refl
none_interviewed first RequestFailed = refl

-- none is interviewed where no request is under way
not_interviewed : (h : HostState) (event : HostEvent) → may_event h event → h.requests.under_way ≡ None → IsNoInterview event
not_interviewed h (Interviews n listens classes update) (capability, it, says) none =
    let bad : None ≡ Some capability = sym (ap (λ (o : Option UnderWay). interviewed_from h.requests.first update o) none ∙ none_interviewed h.requests.first update) ∙ it.brought in cc
not_interviewed h event may none = tt

-- ---- entries that go on with the last request

abbrev pub On : List Entry → List Entry → Type 0
On past told = asked (past ++ told) ≡ with_entries (asked past) told

pub on_frame : (past told : List Entry) → On past told → (asked (past ++ told)).frame ≡ (asked past).frame
on_frame past told on = ap (λ (a : TheAsked). a.frame) on

pub on_slept : (n : ℕ) (past told : List Entry) → On past told → has_slept n (asked (past ++ told)).following ≡ (has_slept n (asked past).following || has_slept n told)
on_slept n past told on = ap (λ (a : TheAsked). has_slept n a.following) on ∙ slept_more n (asked past).following told

again_on : (past : List Entry) (unit : List ℕ) (rest : List Entry) → is_new (asked past) unit ≡ false → AllByRecursion IsQuiet rest → On past (entry.Written Host unit ∷ rest)
again_on past unit rest old quiet =
    ap asked (sym (append_assoc past (entry.Written Host unit ∷ []) rest)) ∙ quiet_on (past ++ entry.Written Host unit ∷ []) rest quiet
    ∙ ap (λ (a : TheAsked). with_entries a rest) (asked_copy past unit old)
    ∙ ap (λ (l : List Entry). record (asked past) { following = l }) (append_assoc (asked past).following (entry.Written Host unit ∷ []) rest)

pub new_asked : (past : List Entry) (unit : List ℕ) (marks : List Entry) → is_new (asked past) unit ≡ true → AllByRecursion IsOfUnit marks
    → asked (past ++ entry.Written Host unit ∷ marks) ≡ record { frame = unit; before = past; following = marks }
new_asked past unit marks new all =
    ap asked (sym (append_assoc past (entry.Written Host unit ∷ []) marks)) ∙ quiet_on (past ++ entry.Written Host unit ∷ []) marks (marks_quiet marks all)
    ∙ ap (λ (a : TheAsked). with_entries a marks) (asked_new past unit new)

-- nothing changes
calm_each : (n : ℕ) (past told : List Entry) (s t : RequestsState) → On past told → t.under_way ≡ s.under_way → AllByRecursion NoneSleeps told → AllByRecursion TellsNone told → SleptSo n past s
    → SleptSo n (past ++ told) t
calm_each n past told s t on same awake uninterviewed tie = record {
  over = λ none told_so. by (tie.over (sym same ∙ none) (ap (λ (f : List ℕ). is_told n f) (sym (on_frame past told on)) ∙ told_so));
  during = λ once. slept ∙ tie.during (ap (λ (o : Option UnderWay). told_at n o) (sym same) ∙ once);
}
  where
    slept : has_slept n (asked (past ++ told)).following ≡ has_slept n (asked past).following
    slept = on_slept n past told on ∙ ap (λ (b : Bool). has_slept n (asked past).following || b) (none_slept n told awake) ∙ or_none (has_slept n (asked past).following)

    by : (has_slept n (asked past).following ≡ true) ⊎ (listens n past ≡ true) → (has_slept n (asked (past ++ told)).following ≡ true) ⊎ (listens n (past ++ told) ≡ true)
    by (inl has) = inl (slept ∙ has)
    by (inr hears) = inr (listens_more n past told uninterviewed ∙ hears)

calm : (past told : List Entry) (s t : RequestsState) → On past told → t.under_way ≡ s.under_way → t.last_id ≡ s.last_id → AllByRecursion NoneSleeps told → AllByRecursion TellsNone told
    → TieSlept past s → TieSlept (past ++ told) t
calm past told s t on same id awake uninterviewed tie = record {
  request = λ u is.
      ap (λ (a : TheAsked). request_in a.frame) on ∙ tie.request u (sym same ∙ is) ∙ ap (λ (k : ℕ). request_of u.purpose k ∷ []) (sym id);
  nodes = subst (λ (f : List ℕ). AllByRecursion IsNode (nodes_told f)) (sym (on_frame past told on)) tie.nodes;
  each = λ n from to. calm_each n past told s t on same awake uninterviewed (tie.each n from to);
}

-- ---- entries of others, lines and items

loose_fresh : (told : List Entry) → AllByRecursion IsLoose told → begins_refused told ≡ false
loose_fresh told all = wordless_fresh told (all-weaker IsLoose IsWordless loose_wordless told all)

loose_goes : (e : Entry) → IsLoose e → GoesOn e
loose_goes (entry.Said words) loose = absurd loose
loose_goes (entry.Written Host unit) loose = absurd loose
loose_goes e loose = tt

loose_awake : (e : Entry) → IsLoose e → NoneSleeps e
loose_awake (entry.Asleep node) loose = absurd loose
loose_awake e loose = tt

loose_uninterviewed : (e : Entry) → IsLoose e → TellsNone e
loose_uninterviewed (entry.Interviewed node) loose = absurd loose
loose_uninterviewed e loose = tt

-- what answers a line, and an item
abbrev IsCalm : Entry → Type 0
IsCalm e = GoesOn e × (NoneSleeps e × TellsNone e)

answers_calm : (h : HostState) (event : HostEvent) → AllByRecursion IsCalm (answers h event)
answers_calm h (Accepts order carriage) = ((tt, (tt, tt)), tt)
answers_calm h (Cancels command) = ((tt, (tt, tt)), tt)
answers_calm h event = tt

mark_calm : (e : Entry) → IsOfUnit e → IsCalm e
mark_calm (entry.Dropped Host) mark = (tt, (tt, tt))
mark_calm (entry.Garbled Host unit) mark = (tt, (tt, tt))
mark_calm (entry.Overrun Host) mark = (tt, (tt, tt))
mark_calm e mark = absurd mark

one_calm : (unit : LineUnit) (told : List Entry) → is_data (unit_text unit) ≡ false → AreTold (Write unit ∷ []) told → AllByRecursion IsCalm told
one_calm unit told none are = unit_told IsCalm mark_calm unit told (none, (tt, tt)) are

item_calm : (item : Item) (told : List Entry) → AreTold (answer_to item) told → AllByRecursion IsCalm told
item_calm item told are = item_told (AllByRecursion IsCalm) (λ l is. one_calm Ack l refl is) (λ l is. one_calm Nak l refl is) tt item told are

calm_told : (past told : List Entry) (s t : RequestsState) → AllByRecursion IsWordless told → t.under_way ≡ s.under_way → t.last_id ≡ s.last_id → AllByRecursion IsCalm told → TieSlept past s
    → TieSlept (past ++ told) t
calm_told past told s t wordless same id all tie =
    calm past told s t (asked_on past told (wordless_fresh told wordless) (all-weaker IsCalm GoesOn (λ e is. is.0) told all)) same id (all-weaker IsCalm NoneSleeps (λ e is. is.1.0) told all)
    (all-weaker IsCalm TellsNone (λ e is. is.1.1) told all) tie

-- what answers an item goes on with the last request, and no node sleeps by it
pub item_on : (past : List Entry) (item : Item) (told : List Entry) → AllByRecursion IsWordless told → AreTold (answer_to item) told → On past told × AllByRecursion NoneSleeps told
item_on past item told wordless are =
    let all = item_calm item told are in
    (asked_on past told (wordless_fresh told wordless) (all-weaker IsCalm GoesOn (λ e is. is.0) told all), all-weaker IsCalm NoneSleeps (λ e is. is.1.0) told all)

-- ---- an event

-- what is known of the host, and of its transcript
record At (past : List Entry) (h : HostState) : Type 0 where
  work : HostWork h
  hears : (n : ℕ) → n ≤ 232 → listens n past ≡ (node_of h n).listens
  well : UnderWayWell h.requests.under_way

pub under_request : (past : List Entry) (now : ℕ) (came : List LineUnit) (h : HostState) (u : UnderWay) → h.requests.under_way ≡ Some u → TieAsked past now now came (doing_of h)
    → request_last past ≡ request_of u.purpose h.requests.last_id ∷ []
under_request past now came h u is (inl none) = absurd (let nothing = none.none in let bad : None ≡ Some u = sym nothing ∙ is in cc)
under_request past now came h u is (inr (was, asks)) =
    (subst (λ (o : Option UnderWay). TieUnderWay (standing_of (asked past)) now now (acknowledged past) h.side.turn h.requests.last_id (doing_of h).leaving o) is asks.under_way).0.request

purpose_nodes : (p : Purpose) → CarriesWell p → AllByRecursion IsNode (nodes_of p)
purpose_nodes (Housekeeping (NoMore n)) well = (well, tt)
purpose_nodes (Housekeeping task) well = tt
purpose_nodes (Attempt n more payload) well = tt
purpose_nodes Abort well = tt

-- it tells this node
pub tells_it : (past : List Entry) (requests : RequestsState) (n : ℕ) (u : UnderWay) → requests.under_way ≡ Some u → UnderWayWell requests.under_way
    → request_last past ≡ request_of u.purpose requests.last_id ∷ [] → is_told n (asked past).frame ≡ true → u.purpose ≡ Housekeeping (NoMore n)
tells_it past requests n u is well request told =
    told_purpose n u.purpose (ap (λ (l : List ℕ). list_any (λ one. one == n) l) (sym (frame_tells past requests u is well request)) ∙ told)

module _ (tells : (h : HostState) (n : ℕ) → HostWork h → 1 ≤ times_told n h.requests → MayBeTold (node_of h n)) where
  awake_told : (h : HostState) (n : ℕ) → HostWork h → told_at n h.requests.under_way ≡ 1 → (node_of h n).awake ≡ true
  awake_told h n work once = (tells h n work (omega (arith, once))).awake

  module _ (past told : List Entry) (h : HostState) (event : HostEvent) (on : On past told) (un : Unsubmitted event) (may : may_event h event) (are : AreTold (outs h event) told) (known : At past h)
      (later : At (past ++ told) (after h event)) (tie : TieSlept past h.requests) where
    places : length h.nodes ≡ 233
    places = known.work.host.nodes.places

    module _ (n : ℕ) (from : 1 ≤ n) (to : n ≤ 232) where
      grows : (node_of (after h event) n).awake ≡ last_or (node_of h n).awake (wakings n told)
      grows = event_awake h event told are places n from to

      -- it is no longer told
      ends_over : (u : UnderWay) → h.requests.under_way ≡ Some u → u.purpose ≡ Housekeeping (NoMore n) → (after h event).requests.under_way ≡ None
          → (has_slept n (asked (past ++ told)).following ≡ true) ⊎ (listens n (past ++ told) ≡ true)
      ends_over u is purpose none = by (told_sleeps h n u is purpose event un (let all = places in omega (arith, all, to)) none)
        where
          awake : (node_of h n).awake ≡ true
          awake = awake_told h n known.work (ap (λ (o : Option UnderWay). told_at n o) is ∙ purpose_told n u purpose)

          by : ((node_of (after h event) n).awake ≡ false) ⊎ ((node_of (after h event) n).listens ≡ true)
              → (has_slept n (asked (past ++ told)).following ≡ true) ⊎ (listens n (past ++ told) ≡ true)
          by (inl asleep) =
              inl (on_slept n past told on
              ∙ or_right (has_slept n (asked past).following) (has_slept n told) (fell_asleep (wakings n told) (ap (λ (b : Bool). last_or b (wakings n told)) (sym awake) ∙ sym grows ∙ asleep)))
          by (inr hears) = inr (later.hears n to ∙ hears)

      over_so : (after h event).requests.under_way ≡ None → is_told n (asked (past ++ told)).frame ≡ true → (has_slept n (asked (past ++ told)).following ≡ true) ⊎ (listens n (past ++ told) ≡ true)
      over_so none told_now = by h.requests.under_way refl
        where
          told_then : is_told n (asked past).frame ≡ true
          told_then = ap (λ (f : List ℕ). is_told n f) (sym (on_frame past told on)) ∙ told_now

          before : h.requests.under_way ≡ None → (has_slept n (asked past).following ≡ true) ⊎ (listens n past ≡ true)
              → (has_slept n (asked (past ++ told)).following ≡ true) ⊎ (listens n (past ++ told) ≡ true)
          before is (inl has) = inl (on_slept n past told on ∙ or_left (has_slept n (asked past).following) (has_slept n told) has)
          before is (inr hears) = inr (listens_more n past told (event_none h event told (not_interviewed h event may is) are) ∙ hears)

          by : (o : Option UnderWay) → h.requests.under_way ≡ o → (has_slept n (asked (past ++ told)).following ≡ true) ⊎ (listens n (past ++ told) ≡ true)
          by None is = before is ((tie.each n from to).over is told_then)
          by (Some u) is = ends_over u is (tells_it past h.requests n u is known.well (tie.request u is) told_then) none

      during_so : told_at n (after h event).requests.under_way ≡ 1 → has_slept n (asked (past ++ told)).following ≡ false
      during_so once = by (after h event).requests.under_way refl
        where
          by : (o : Option UnderWay) → (after h event).requests.under_way ≡ o → has_slept n (asked (past ++ told)).following ≡ false
          by None is = absurd (let bad : told_at n None ≡ 1 = ap (λ (o : Option UnderWay). told_at n o) (sym is) ∙ once in omega (arith, bad))
          by (Some u) is =
              let (v, was, same) = (event_keeps h event un).same u is in
              let before : told_at n h.requests.under_way ≡ 1
              = ap (λ (o : Option UnderWay). told_at n o) was ∙ ap (λ (p : Purpose). told_for n p) same ∙ ap (λ (o : Option UnderWay). told_at n o) (sym is) ∙ once in
              let awake = awake_told h n known.work before in
              let awake_now = awake_told (after h event) n later.work once in
              on_slept n past told on
              ∙ ap₂ (λ (a b : Bool). a || b) ((tie.each n from to).during before)
              (never_slept h event told n are (ap (λ (b : Bool). last_or b (wakings n told)) (sym awake) ∙ sym grows ∙ awake_now))

    on_tie : TieSlept (past ++ told) (after h event).requests
    on_tie = record {
      request = λ u is.
          let kept = event_keeps h event un in
          let (v, was, same) = kept.same u is in
          ap (λ (a : TheAsked). request_in a.frame) on ∙ tie.request v was ∙ ap₂ (λ (p : Purpose) (k : ℕ). request_of p k ∷ []) same (sym kept.id);
      nodes = subst (λ (f : List ℕ). AllByRecursion IsNode (nodes_told f)) (sym (on_frame past told on)) tie.nodes;
      each = λ n from to. record { over = over_so n from to; during = during_so n from to };
    }

  -- ---- a request is submitted

  new_tie : (past : List Entry) (unit : List ℕ) (marks : List Entry) (now : ℕ) (came : List LineUnit) (h : HostState) (purpose : Purpose) → is_new (asked past) unit ≡ true → AllByRecursion IsOfUnit marks
      → h.requests.under_way ≡ Some (record { purpose = purpose; progress = Submitted }) → UnderWayWell h.requests.under_way
      → TieAsked (past ++ entry.Written Host unit ∷ marks) now now came (doing_of h) → TieSlept (past ++ entry.Written Host unit ∷ marks) h.requests
  new_tie past unit marks now came h purpose new all is well asks =
      let later : List Entry = past ++ entry.Written Host unit ∷ marks in
      let u : UnderWay = record { purpose = purpose; progress = Submitted } in
      let request = λ (v : UnderWay) (v_is : h.requests.under_way ≡ Some v). under_request later now came h v v_is asks in
      record {
        request = request;
        nodes = subst (AllByRecursion IsNode) (sym (frame_tells later h.requests u is well (request u is))) (purpose_nodes purpose (subst UnderWayWell is well));
        each = λ n from to. record {
          over = λ none told. absurd (let bad : None ≡ Some u = sym none ∙ is in cc);
          during = λ once. ap (λ (a : TheAsked). has_slept n a.following) (new_asked past unit marks new all) ∙ none_slept n marks (all-weaker IsOfUnit NoneSleeps mark_wakes marks all);
        };
      }

  -- ---- at each phase

  at_of : (here : Phase) (past : List Entry) (m : HostMachine) → IsElse here → KnowsTelling here past m → At past m.state
  at_of here past m other ground = record {
    work = in_order here past m ground.0.0.0.0.1;
    hears = ground.0.0.0.1;
    well = (rest_of CarriesOthers here past m other ground.0.1).asks.under_way;
  }

  next_tied : (next : Phase) (past : List Entry) (m : HostMachine) → next ≡ Submitting → KnowsAsked next past m → TieAsked past m.clock m.clock m.came (doing_of m.state)
  next_tied next past m is known = subst (λ (p : Phase). KnowsAsked p past m) is known

  submits_to : (here next : Phase) (h : HostState) (event : HostEvent) → here ≡ Submitting → GoesBy here h event next → next ≡ Submitting
  submits_to here next h event is goes = (subst (λ (p : Phase). GoesBy p h event next) is goes).1

  does_slept : (here next : Phase) (past told : List Entry) (m : HostMachine) (event : HostEvent) → May here m (Does event told) next → KnowsTelling here past m → KnowsTelling next (past ++ told) (done m event)
      → TieSlept past m.state.requests → Wrote here past told m.state event → TieSlept (past ++ told) (after m.state event).requests
  does_slept here next past told m event may ground later tie (Quietly un quiet) =
      let others = by_else here next m.state event may.0 in
      on_tie past told m.state event (quiet_on past told quiet) un may.1.0 may.2 (at_of here past m others.0 ground) (at_of next (past ++ told) (done m event) others.1 later) tie
  does_slept here next past told m event may ground later tie (Again f rest un is old quiet) =
      let others = by_else here next m.state event may.0 in
      on_tie past told m.state event (subst (λ (l : List Entry). On past l) (sym is) (again_on past (unit_text (Framed f)) rest old quiet)) un may.1.0 may.2 (at_of here past m others.0 ground)
      (at_of next (past ++ told) (done m event) others.1 later) tie
  does_slept here next past told m event may ground later tie (Anew purpose f marks here_is free is new all now) =
      let others = by_else here next m.state event may.0 in
      let asks = next_tied next (past ++ told) (done m event) (submits_to here next m.state event here_is may.0) later.1.1 in
      subst (λ (l : List Entry). TieSlept (past ++ l) (after m.state event).requests) (sym is)
      (new_tie past (unit_text (Framed f)) marks m.clock m.came (after m.state event) purpose new all now (at_of next (past ++ told) (done m event) others.1 later).well
      (subst (λ (l : List Entry). TieAsked (past ++ l) m.clock m.clock m.came (doing_of (after m.state event))) is asks))

  -- ---- a host that starts

  none_told : (n : ℕ) → is_told n [] ≡ false
  none_told n = refl

  anew_tie : (before : List Entry) (words : List ℕ) (keys : Keys) (records : Option (List (List ℕ))) (state : HostState) → IsSome records → OpensFrom keys records state
      → is_restart (line_of (entry.Said words)) ≡ true → TieSlept (before ++ entry.Said words ∷ []) state.requests
  anew_tie before words keys records state told opens anew =
      let is = asked_anew before words anew in
      let none : state.requests.under_way ≡ None = ap (λ (p : Side × RequestsState). p.1.under_way) (opened_asks keys records state told opens) in
      record {
        request = λ u under. absurd (let bad : None ≡ Some u = sym none ∙ under in cc);
        nodes = subst (λ (a : TheAsked). AllByRecursion IsNode (nodes_told a.frame)) (sym is) tt;
        each = λ n from to. record {
          over = λ over told. absurd (let bad : false ≡ true = sym (none_told n) ∙ ap (λ (a : TheAsked). is_told n a.frame) (sym is) ∙ told in cc);
          during = λ once. absurd (let bad : told_at n None ≡ 1 = ap (λ (o : Option UnderWay). told_at n o) (sym none) ∙ once in omega (arith, bad));
        };
      }

  beside_requests : (h : HostState) (event : HostEvent) → doing_of (after h event) ≡ doing_of h
      → ((after h event).requests.under_way ≡ h.requests.under_way) × ((after h event).requests.last_id ≡ h.requests.last_id)
  beside_requests h event same = (ap (λ (d : Doing). d.under_way) same, ap (λ (d : Doing). d.id) same)

  pub slept_last : Lasts KnowsTelling SleepsIfTold
  slept_last = record {
    loose = λ here at past told m all numbered ground tie.
        calm past told m.state.requests m.state.requests (asked_on past told (loose_fresh told all) (all-weaker IsLoose GoesOn loose_goes told all)) refl refl
        (all-weaker IsLoose NoneSleeps loose_awake told all) (all-weaker IsLoose TellsNone loose_uninterviewed told all) tie;
    numbers = λ here past m other ground later tie.
        calm past (entry.Time m.clock ∷ []) m.state.requests m.state.requests (asked_on past (entry.Time m.clock ∷ []) refl (tt, tt)) refl refl (tt, tt) (tt, tt) tie;
    said = λ past words m none ground goes_on tie.
        calm past (entry.Said words ∷ []) m.state.requests m.state.requests (asked_said past words goes_on) refl refl (tt, tt) (tt, tt) tie;
    refused = λ past words line refusal m none ground later tie.
        calm past (entry.Said words ∷ (entry.Refused refusal ∷ [])) m.state.requests m.state.requests (asked_in_vain past words refusal) refl refl (tt, (tt, tt)) (tt, (tt, tt)) tie;
    asked = λ line past m event is may numbered ground later tie.
        let same = beside_requests m.state event (beside_same m.state event (asked_beside line m.state event is)) in
        calm_told past (answers m.state event) m.state.requests (after m.state event).requests (answers_wordless m.state event) same.0 same.1 (answers_calm m.state event) tie;
    starts = λ before words m state opens anew ground later. anew_tie before words m.keys m.records state ground.0.0.0.0.0.0.0.0.told opens anew;
    opens = λ past h clock tie. tie;
    rises = λ past m ground tie. tie;
    judges = λ past m item rest behind told now ground later tie.
        calm_told past told m.state.requests m.state.requests (told_wordless m.state (Hears item) told now.told_so) refl refl (item_calm item told now.told_so) tie;
    does = λ here next past m event told may ground later tie. does_slept here next past told m event may ground later tie (writes here next past told m event may ground.1.0 ground.1.1);
    turn = λ here next past m other turns ground tie. tie;
  }

pub first_slept : (keys : Keys) → SleepsIfTold Resting [] (first_host keys) 0
first_slept keys = record {
  request = λ u under. absurd (let bad = under in cc);
  nodes = tt;
  each = λ n from to. record { over = λ over told. absurd (let bad : false ≡ true = told in cc); during = λ once. absurd (let bad = once in omega (arith, bad)) };
}
