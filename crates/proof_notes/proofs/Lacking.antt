-- At each step of a host alone that a record was not kept is said only where one was asked for.
use Rattle.std.proofs.Common.{◌≡◌, ◌⊎◌, ℕ, ◌≤◌, ◌&&◌, not, Bool, true, false, inl, inr, List, [], ◌∷◌, ◌++◌, length, refl, sym, ap, ap₂, ◌∙◌, subst, append-nil, arith}
use Rattle.std.specs.Prelude.{Option, Some, None, Result, Ok, Err, is_none, is_some}
use Rattle.std.specs.Option.{option_or}
use Rattle.std.specs.List.{AllByRecursion, flat_map}
use Rattle.std.proofs.lemmas.Bool.{eq-eqb, lt-ltb}
use Rattle.zw_base.proofs.Each.{all-right}
use Rattle.s0_crypto.specs.declared.key_pair.Keys.{Keys}
use Rattle.supervision.specs.Host.{open_session}
use Rattle.serial_frame.specs.Frame.{FrameParts, checksum, framed, kind_code}
use Rattle.serial_frame.specs.Items.{unit_text}
use Rattle.serial_frame.specs.declared.frame.Kind.{Kind}
use Rattle.serial_frame.specs.declared.frame.Kind.TheVariants as kind
use Rattle.serial_frame.specs.declared.unit.Unit.TheVariants.{Framed}
use Rattle.chip_functions.specs.Notice.{notice_of}
use Rattle.chip_functions.specs.Response.{response_of}
use Rattle.chip_functions.specs.declared.fault.BodyFault.{BodyFault}
use Rattle.chip_functions.specs.declared.notice.Notice.{Notice}
use Rattle.chip_functions.specs.declared.notice.Notice.TheVariants.{ApplicationCommandHandler, SendData, ApplicationUpdate, AddNode}
use Rattle.chip_functions.specs.declared.notice.Update.{Update}
use Rattle.chip_functions.specs.declared.notice.Update.TheVariants.{Received, RequestFailed}
use Rattle.chip_functions.specs.declared.response.Response.{Response}
use Rattle.zw_words.specs.declared.side.Side.TheVariants.{Chip}
use Rattle.zw_text.specs.declared.entry.Entry.{Entry}
use Rattle.zw_text.specs.declared.entry.Entry.TheVariants as entry
use Rattle.law_transcript.specs.Commands.{waiting}
use Rattle.law_transcript.specs.Lists.{EachAfter}
use Rattle.law_transcript.specs.Units.{Carried, bringing_in, bringing_of, notice_in, read_well}
use Rattle.proof_attempts.specs.law_time.Choice.{is_to_begin}
use Rattle.proof_attempts.specs.law_time.Interviews.{informs}
use Rattle.proof_attempts.specs.law_time.Judged.{brought_here, notices_here}
use Rattle.proof_attempts.specs.law_time.Requests.{are_none}
use Rattle.proof_attempts.specs.law_time.Sessions.{is_open}
use Rattle.proof_attempts.specs.law_time.Waking.{is_up}
use Rattle.host_heard.specs.Telling.{heard_at}
use Rattle.host_node.proofs.Searches.{what_is_least}
use Rattle.host_node.specs.Facts.{SeriesFacts}
use Rattle.host_node.specs.Search.{least_above, next_of}
use Rattle.host_node.specs.State.{NodeState, has_waiting, has_work, is_false, is_up as hears}
use Rattle.host_node.specs.TableState.{node_of as node_among}
use Rattle.host_node.specs.declared.series.Series.{Series}
use Rattle.host_node.specs.declared.series.Series.TheVariants.{Idle, Due, Running}
use Rattle.host_requests.specs.Events.{interviewed_by}
use Rattle.host_model.specs.State.{HostState, node_of}
use Rattle.host_model.specs.Events as happening
use Rattle.host_model.specs.Events.{HostEvent, Is_unkept, Interviews, Interview_unkept, Begin_unkept, IsOwn}
use Rattle.host_model.specs.May.{May as MayHost, says_listens}
use Rattle.host_model.specs.Outs.{answers, outs}
use Rattle.host_model.specs.Taking.{FrameEvents, InterviewEvents, NoticeEvents, ResponseEvents}
use Rattle.host_model.specs.declared.out.HostOut.TheVariants.{Note}
use Rattle.host_model.proofs.Own.{sleepers_own, submitted_own}
use Rattle.host_model.proofs.Pumps.{next_works}
use Rattle.host_model.proofs.Submitted.{next_is, no_more_is}
use Rattle.proof_attempts.specs.proof_host.Facts.{Facts}
use Rattle.proof_attempts.specs.proof_host.Laws.{numbers_for}
use Rattle.law_transcript.specs.Commands.{numbers_of}
use Rattle.zw_text.specs.Transcript.{accepted}
use Rattle.proof_known.proofs.Bodies.{body_is}
use Rattle.proof_known.proofs.proof_device_HostOuts.{OwnIs, SharedAre, outs_are}
use Rattle.proof_attempts.specs.Series.{NodeAsTold}
use Rattle.proof_attempts.specs.Since.{KnowsSince}
use Rattle.proof_attempts.specs.Waking.{CountsAwake, TieAwake}
use Rattle.proof_attempts.specs.law_time.Interviews.{listens}
use Rattle.proof_attempts.specs.law_time.Waking.{counts_awake}
use Rattle.proof_known.specs.proof_alone.State.{HostMachine}
use Rattle.proof_known.specs.proof_alone.Steps.{AreTold, IsOfOthers, Step, Tells, Comes, Misses, Says, Says_nothing, Asks, Refuses, Shows, Restarts, Begins_tick, Numbers, Judges, Does, entries}
use Rattle.proof_known.specs.proof_alone.Phases.{Phase, Resting, Asked, Risen, Ticking, Open, Behind, Sleeping, Submitting, May}
use Rattle.proof_known.specs.proof_alone.Runs.{Knowledge, WalkOver, both_know}
use Rattle.proof_known.specs.proof_waking.Judged.{IsBehindFrame, IsOfRequest, Settled}
use Rattle.proof_known.proofs.Events.{outs_told}
use Rattle.proof_known.proofs.Always.{either, none, one}
use Rattle.proof_known.proofs.proof_alone_Apart.{AreOfLine, missed_are}
use Rattle.proof_known.proofs.Settling.{behind_brought, behind_here}
use Rattle.proof_notes.specs.Full.{SinceUnit, since_unit}
use Rattle.proof_notes.specs.Unkept.{IsAmong, MayLack}
use Rattle.proof_notes.proofs.ByMessage.{note_told}
use Rattle.proof_known.proofs.Noting.{Nothing, Rooms}
use Rattle.proof_known.proofs.Followed.{FollowersAre, payload_all}
use Rattle.proof_notes.proofs.ByEntry.{Among, notes_after}
use Rattle.proof_notes.proofs.Walking.{KnowsHost, KnowsNotes, ShowsOpen, ShowsTables, ties_of}

-- ---- entries and events that say nothing of it

abbrev IsFree : Entry → Type 0
IsFree (entry.Unkept node) = ⊥
IsFree e = Unit {0}

shared_free : SharedAre IsFree
shared_free = record {
  unanswered = λ command. tt;
  asleep = λ n. tt;
  done = λ n how. tt;
  uninterviewed = λ n. tt;
  neighbours = λ n nodes. tt;
  failed = λ n is_failed. tt;
  stored = λ n setting. tt;
  held = λ n. tt;
  full = λ n. tt;
}

line_free : AreOfLine IsFree
line_free = record { written = λ side text. tt; dropped = λ side. tt; garbled = λ side text. tt; overrun = λ side. tt }

others_free : (e : Entry) → IsOfOthers e → IsFree e
others_free (entry.Unkept node) of = absurd of
others_free e of = tt

answers_free : (h : HostState) (event : HostEvent) → AllByRecursion IsFree (answers h event)
answers_free h (happening.Accepts order carriage) = (tt, tt)
answers_free h (happening.Cancels command) = (tt, tt)
answers_free h event = tt

abbrev IsKept : HostEvent → Type 0
IsKept (Is_unkept n) = ⊥
IsKept (Interview_unkept n update) = ⊥
IsKept (Begin_unkept n) = ⊥
IsKept event = Unit {0}

kept_free : (event : HostEvent) → IsKept event → OwnIs IsFree event
kept_free (happening.Accepts order carriage) kept = λ number. tt
kept_free (Is_unkept n) kept = absurd kept
kept_free (Interview_unkept n update) kept = absurd kept
kept_free (Begin_unkept n) kept = absurd kept
kept_free event kept = tt

-- ---- what follows a frame

-- an interview of the node that the frame informs of is not kept
abbrev Informed : List Notice → HostEvent → Type 0
Informed notices (Interview_unkept n update) = informs n notices ≡ true
Informed notices event = Unit {0}

abbrev IsNoUnkept : HostEvent → Type 0
IsNoUnkept (Is_unkept n) = ⊥
IsNoUnkept event = Unit {0}

-- such events, and none is not kept but what a payload asks for
record AreAsked (notices : List Notice) (brought : List Carried) (events : List HostEvent) : Type 0 where
  informed : AllByRecursion (Informed notices) events
  asked : AllByRecursion IsNoUnkept events ⊎ ((carried : Carried) × (brought ≡ carried ∷ []))

one_says : (notices : List Notice) (brought : List Carried) (event : HostEvent) (events : List HostEvent) → Informed notices event → IsNoUnkept event → events ≡ event ∷ [] → AreAsked notices brought events
one_says notices brought event events informed unasked is = record { informed = one (Informed notices) event events informed is; asked = inl (one IsNoUnkept event events unasked is) }

none_says : (notices : List Notice) (brought : List Carried) (events : List HostEvent) → events ≡ [] → AreAsked notices brought events
none_says notices brought events is = record { informed = none (Informed notices) events is; asked = inl (none IsNoUnkept events is) }

update_says : (update : Update) (asked : Option ℕ) (events : List HostEvent) → InterviewEvents update asked events → AreAsked (ApplicationUpdate update ∷ []) [] events
update_says (Received n basic generic specific classes) (Some capability) events is =
    let notices : List Notice = ApplicationUpdate (Received n basic generic specific classes) ∷ [] in
    let well : HostEvent = Interviews n (says_listens capability) classes (Received n basic generic specific classes) in
    let lacks : HostEvent = Interview_unkept n (Received n basic generic specific classes) in
    record { informed = either (Informed notices) well lacks events tt (eq-eqb n n refl) is; asked = inl (either IsNoUnkept well lacks events tt tt is) }
update_says RequestFailed (Some capability) events is = none_says (ApplicationUpdate RequestFailed ∷ []) [] events is
update_says (Received n basic generic specific classes) None events is = one_says (ApplicationUpdate (Received n basic generic specific classes) ∷ []) [] _ events tt tt is
update_says RequestFailed None events is = one_says (ApplicationUpdate RequestFailed ∷ []) [] _ events tt tt is

payload_informs : (notices : List Notice) (n : ℕ) → FollowersAre (Informed notices) n
payload_informs notices n = record {
  unread = λ payload. tt;
  unkept = tt;
  old = λ id. tt;
  works = λ id. tt;
  finishes = λ session id command status wake. tt;
  offers = tt;
  gives = λ drawn. tt;
  spends = tt;
  in_vain = λ payload. tt;
  takes = λ seen text. tt;
  resends = λ payload. tt;
  hears = λ setting. tt;
  no_room = λ property. tt;
}

abbrev read_as : Result Notice BodyFault → List HostEvent → Type 0
read_as read events = AreAsked (read_well read) (flat_map bringing_of (read_well read)) events

notice_says : (h : HostState) (read : Result Notice BodyFault) (events : List HostEvent) → NoticeEvents h read events → read_as read events
notice_says h (Ok (ApplicationCommandHandler rx_status source payload)) events is =
    let notices : List Notice = ApplicationCommandHandler rx_status source payload ∷ [] in
    record {
      informed = payload_all (Informed notices) source (payload_informs notices source) h payload (heard_at payload) events (λ tells. tt) is;
      asked = inr (record { node = source; payload = payload }, refl);
    }
notice_says h (Ok (SendData callback_id status)) events is = one_says _ _ _ events tt tt is
notice_says h (Ok (ApplicationUpdate update)) events is = update_says update (interviewed_by h.requests update) events is
notice_says h (Ok (AddNode callback_id status information)) events is = none_says _ _ events is
notice_says h (Err fault) events is = none_says _ _ events is

response_says : (notices : List Notice) (brought : List Carried) (read : Result Response BodyFault) (events : List HostEvent) → ResponseEvents read events → AreAsked notices brought events
response_says notices brought (Ok response) events is = one_says notices brought _ events tt tt is
response_says notices brought (Err fault) events is = none_says notices brought events is

kind_says : (h : HostState) (k : Kind) (func : ℕ) (body : List ℕ) (sum : ℕ) (events : List HostEvent) → FrameEvents h k func body events
    → AreAsked (notice_in (framed (kind_code k ∷ func ∷ body) sum)) (bringing_in (framed (kind_code k ∷ func ∷ body) sum)) events
kind_says h kind.Response func body sum events is = response_says _ _ (response_of func body) events is
kind_says h kind.Request func body sum events is =
    subst (λ (b : List ℕ). read_as (notice_of func b) events) (sym (body_is body func sum)) (notice_says h (notice_of func body) events is)

frame_says : (h : HostState) (f : FrameParts) (events : List HostEvent) → FrameEvents h f.kind f.func f.body events
    → AreAsked (notice_in (unit_text (Framed f))) (bringing_in (unit_text (Framed f))) events
frame_says h f events is = kind_says h f.kind f.func f.body (checksum (kind_code f.kind ∷ f.func ∷ f.body)) events is

-- ---- a session that is to begin

some_of : (a b : Option ℕ) (n : ℕ) → option_or a b ≡ Some n → (a ≡ Some n) ⊎ (b ≡ Some n)
some_of None b n is = inr is
some_of (Some k) b n is = inl is

next_is_node : (nodes : List NodeState) (served n : ℕ) → next_of nodes served ≡ Some n → (1 ≤ n) × (n ≤ 232)
next_is_node nodes served n is = by (some_of (least_above works served) (least_above works 0) n is)
  where
    works : ℕ → Bool
    works node = has_work (node_among nodes node)

    least : (number : ℕ) → least_above works number ≡ Some n → (1 ≤ n) × (n ≤ 232)
    least number first = let f = what_is_least works number n first in (omega (arith, f.from), omega (arith, f.from, f.to))

    by : (least_above works served ≡ Some n) ⊎ (least_above works 0 ≡ Some n) → (1 ≤ n) × (n ≤ 232)
    by (inl first) = least served first
    by (inr second) = least 0 second

third : (a b c d : Bool) → (a && b && c && d) ≡ true → c ≡ true
third a b true d is = refl
third true true false d is = is
third true false false d is = is
third false b false d is = is

closed_up : (series : Series) (node : NodeState) → node.series ≡ series → SeriesFacts node.series node.book node.attempt_wait node.again_wait node.next_segment node.segments node.text node.pending
    → open_session node.book ≡ None → has_work node ≡ true → hears node ≡ true
closed_up Idle node is facts closed works = third (is_none (open_session node.book)) (has_waiting node) (hears node) (is_false node.blocked) (subst (λ (s : Series). has_work (record node { series = s }) ≡ true) is works)
closed_up Due node is facts closed works = absurd (never (subst (λ (s : Series). SeriesFacts s node.book node.attempt_wait node.again_wait node.next_segment node.segments node.text node.pending) is facts).0.is_open)
  where
    never : is_some (open_session node.book) ≡ true → ⊥
    never some = let bad : false ≡ true = ap (λ (o : Option ℕ). is_some o) (sym closed) ∙ some in cc
closed_up Running node is facts closed works = absurd (never (subst (λ (s : Series). SeriesFacts s node.book node.attempt_wait node.again_wait node.next_segment node.segments node.text node.pending) is facts).0.is_open)
  where
    never : is_some (open_session node.book) ≡ true → ⊥
    never some = let bad : false ≡ true = ap (λ (o : Option ℕ). is_some o) (sym closed) ∙ some in cc

-- what is known of a host where a session may begin
record AtBegin (past : List Entry) (h : HostState) : Type 0 where
  facts : Facts past h
  hears_so : (n : ℕ) → n ≤ 232 → listens n past ≡ (node_of h n).listens
  awake : (n : ℕ) → 1 ≤ n → n ≤ 232 → (node_of h n).awake ≡ counts_awake n past
  numbers : (n : ℕ) → numbers_of (accepted n past) ≡ numbers_for n past

abbrev pub ShowsNodes : Type 0
ShowsNodes = (past : List Entry) (h : HostState) (n : ℕ) → Facts past h → numbers_of (accepted n past) ≡ numbers_for n past → listens n past ≡ (node_of h n).listens
    → (node_of h n).awake ≡ counts_awake n past → NodeAsTold n past (node_of h n)

-- the ground: what is known of the host, the notes of its payloads, and which nodes count as awake
abbrev pub KnowsAll : Keys → Knowledge
KnowsAll keys = both_know (both_know (KnowsHost keys) (KnowsNotes keys)) (KnowsSince CountsAwake)

module _ (keys : Keys) (shows : ShowsNodes) (opens : ShowsOpen) (said : ShowsTables) (rooms : Rooms) where
  abbrev Stand : List Entry → List Entry → Type 0
  Stand past told = EachAfter (MayLack keys) past told

  free_may : (past : List Entry) (e : Entry) → IsFree e → MayLack keys past e
  free_may past (entry.Unkept node) free = absurd free
  free_may past e free = tt

  free_stand : (past told : List Entry) → AllByRecursion IsFree told → Stand past told
  free_stand past [] all = tt
  free_stand past (e ∷ told) all = (free_may past e all.0, free_stand (past ++ e ∷ []) told all.1)

  kept_stand : (past : List Entry) (h : HostState) (event : HostEvent) (told : List Entry) → IsKept event → AreTold (outs h event) told → Stand past told
  kept_stand past h event told kept are = free_stand past told (outs_told IsFree line_free (outs h event) told (outs_are IsFree shared_free h event (kept_free event kept)) are)

  -- the one note that says it
  lack_stands : (past : List Entry) (n : ℕ) (told : List Entry) → AreTold (Note (entry.Unkept n) ∷ []) told → MayLack keys past (entry.Unkept n) → Stand past told
  lack_stands past n told are may = subst (Stand past) (sym (note_told (entry.Unkept n) told are)) (may, tt)

  begin_stands : (past : List Entry) (h : HostState) (n : ℕ) (told : List Entry) → AtBegin past h → MayHost h (Begin_unkept n) → AreTold (outs h (Begin_unkept n)) told → Stand past told
  begin_stands past h n told at (served, (waits, closed)) are =
      let (from, to) = next_is_node h.nodes h.served n served.next in
      let node : NodeState = node_of h n in
      let tie : NodeAsTold n past node = shows past h n at.facts (at.numbers n) (at.hears_so n to) (at.awake n from to) in
      let up : is_up n past ≡ true = tie.up ∙ closed_up node.series node refl (at.facts.host.nodes.facts n).series closed (next_works h.nodes h.served n served.next) in
      let none_open : is_open n past ≡ false = opens past h n at.facts ∙ ap (λ (o : Option ℕ). is_some o) closed in
      let some_wait : are_none (waiting n past) ≡ false = tie.waits ∙ ap not (lt-ltb 0 (length node.waiting) waits) in
      let begins : is_to_begin n past ≡ true = ap₂ (λ (a b : Bool). a && not (is_open n past) && not b) up some_wait ∙ ap (λ (b : Bool). true && not b && not false) none_open in
      lack_stands past n told are (inr (inr begins))

  -- what a host does of itself
  own_stands : (past : List Entry) (h : HostState) (event : HostEvent) (told : List Entry) → AtBegin past h → IsOwn event → MayHost h event → AreTold (outs h event) told → Stand past told
  own_stands past h (Begin_unkept n) told at own may are = begin_stands past h n told at may are
  own_stands past h (Is_unkept n) told at own may are = absurd own
  own_stands past h (Interview_unkept n update) told at own may are = absurd own
  own_stands past h event told at own may are = kept_stand past h event told tt are

  -- ---- behind an item

  among : (since : SinceUnit) (e : Entry) (brought : List Carried) (carried : Carried) → brought ≡ carried ∷ [] → AllByRecursion (Among keys since (e ∷ [])) brought → IsAmong keys since e brought
  among since e brought carried is all =
      subst (λ (l : List Carried). AllByRecursion (Among keys since (e ∷ [])) l → IsAmong keys since e l) (sym is) (λ these. inl these.0) all

  behind_stands : (past : List Entry) (m : HostMachine) (event : HostEvent) (left : List HostEvent) (told : List Entry) → KnowsHost keys (Behind (event ∷ left)) past m
      → KnowsNotes keys (Behind (event ∷ left)) past m → AtBegin past m.state → MayHost m.state event → AreTold (outs m.state event) told → Stand past told
  behind_stands past m (Is_unkept n) left told ground (inr (requests, whole)) at may are = absurd requests.0
  behind_stands past m (Is_unkept n) left told ground (inl (unnumbered, notes)) at may are = by ground.0.0.0.0.0.0.1.1
    where
      event : HostEvent
      event = Is_unkept n

      by : IsBehindFrame past m (event ∷ left) ⊎ (AllByRecursion IsOfRequest (event ∷ left) × Settled past) → Stand past told
      by (inr (requests, settled)) = absurd requests.0
      by (inl behind) =
          let f = behind.frame in
          let says = frame_says f.first f.frame (f.gone ++ event ∷ left) f.followed in
          let told_is : told ≡ entry.Unkept n ∷ [] = note_told (entry.Unkept n) told are in
          lack_stands past n told are (inl (of_frame says.asked told_is))
        where
          of_frame : AllByRecursion IsNoUnkept (behind.frame.gone ++ event ∷ left) ⊎ ((carried : Carried) × (bringing_in (unit_text (Framed behind.frame.frame)) ≡ carried ∷ [])) → told ≡ entry.Unkept n ∷ []
              → IsAmong keys (since_unit past) (entry.Unkept n) (brought_here past)
          of_frame (inl all) told_is = absurd (all-right IsNoUnkept behind.frame.gone (event ∷ left) all).0
          of_frame (inr (carried, is)) told_is =
              among (since_unit past) (entry.Unkept n) (brought_here past) carried (behind_brought past m (event ∷ left) behind ∙ is)
              (subst (λ (l : List Entry). AllByRecursion (Among keys (since_unit past) l) (brought_here past)) told_is
              (notes_after keys past m.state event left told (ties_of keys opens said rooms (event ∷ left) past m ground) ground.0.1.1 are notes))
  behind_stands past m (Interview_unkept n update) left told ground known at may are = by ground.0.0.0.0.0.0.1.1
    where
      event : HostEvent
      event = Interview_unkept n update

      by : IsBehindFrame past m (event ∷ left) ⊎ (AllByRecursion IsOfRequest (event ∷ left) × Settled past) → Stand past told
      by (inr (requests, settled)) = absurd requests.0
      by (inl behind) =
          let f = behind.frame in
          let unit : List ℕ = unit_text (Framed f.frame) in
          let says = frame_says f.first f.frame (f.gone ++ event ∷ left) f.followed in
          let here : notices_here past ≡ notice_in unit = ap (λ (l : List (List ℕ)). flat_map notice_in l) (behind_here past m (event ∷ left) behind) ∙ append-nil (notice_in unit) in
          let informed : informs n (notice_in unit) ≡ true = (all-right (Informed (notice_in unit)) f.gone (event ∷ left) says.informed).0 in
          lack_stands past n told are (inr (inl (ap (λ (l : List Notice). informs n l) here ∙ informed)))
  behind_stands past m (Begin_unkept n) left told ground known at may are = begin_stands past m.state n told at may are
  behind_stands past m event left told ground known at may are = kept_stand past m.state event told tt are

  -- ---- the walk

  at_begin : (here : Phase) (past : List Entry) (m : HostMachine) → KnowsHost keys here past m → TieAwake past m.state → AtBegin past m.state
  at_begin here past m ground awake =
      let facts = ground.0.0.0.0.0.0.0.0.facts in
      record { facts = facts; hears_so = ground.1; awake = awake; numbers = λ n. (said past m.state n facts ground.0.0.0.0.1).numbers }

  does : (here next : Phase) (past : List Entry) (m : HostMachine) (event : HostEvent) (told : List Entry) → May here m (Does event told) next → KnowsAll keys here past m → Stand past told
  does (Ticking (first ∷ left)) next past m event told may known =
      own_stands past m.state event told (at_begin (Ticking (first ∷ left)) past m known.0.0 known.1) (subst IsOwn (sym may.0.0) known.0.0.0.0.0.0.0.0.1.0.0) may.1.0 may.2
  does (Behind (first ∷ left)) next past m event told may known =
      behind_stands past m event left told (subst (λ (e : HostEvent). KnowsHost keys (Behind (e ∷ left)) past m) (sym may.0.0) known.0.0)
      (subst (λ (e : HostEvent). KnowsNotes keys (Behind (e ∷ left)) past m) (sym may.0.0) known.0.1) (at_begin (Behind (first ∷ left)) past m known.0.0 known.1) may.1.0 may.2
  does Sleeping next past m event told may known =
      let (node, wants, is, next_phase) = may.0 in
      own_stands past m.state event told (at_begin Sleeping past m known.0.0 known.1) (subst IsOwn (sym is) (no_more_is IsOwn sleepers_own m.state node)) may.1.0 may.2
  does Submitting next past m event told may known =
      own_stands past m.state event told (at_begin Submitting past m known.0.0 known.1) (next_is IsOwn submitted_own m.state event may.0.0) may.1.0 may.2
  does (Ticking []) next past m event told may known = absurd may.0
  does (Behind []) next past m event told may known = absurd may.0
  does Resting next past m event told may known = absurd may.0
  does (Asked line) next past m event told may known = absurd may.0
  does Risen next past m event told may known = absurd may.0
  does Open next past m event told may known = absurd may.0

  step_stands : (here next : Phase) (past : List Entry) (m : HostMachine) (one : Step) → May here m one next → KnowsAll keys here past m → Stand past (entries m one)
  step_stands here next past m (Tells e) may known = free_stand past (e ∷ []) (others_free e may.1, tt)
  step_stands here next past m (Comes unit) may known = (tt, tt)
  step_stands here next past m (Misses text marks) may known = (tt, free_stand (past ++ entry.Written Chip text ∷ []) marks (missed_are IsFree line_free marks may.1))
  step_stands here next past m (Says words line) may known = (tt, tt)
  step_stands here next past m (Says_nothing words) may known = (tt, tt)
  step_stands here next past m (Asks event) may known = free_stand past (answers m.state event) (answers_free m.state event)
  step_stands here next past m (Refuses refusal) may known = (tt, tt)
  step_stands here next past m (Shows node) may known = (tt, tt)
  step_stands here next past m (Restarts state) may known = tt
  step_stands here next past m (Begins_tick left) may known = tt
  step_stands here next past m Numbers may known = (tt, tt)
  step_stands here next past m (Judges item rest behind told) may known = kept_stand past m.state (happening.Hears item) told tt may.1.told_so
  step_stands here next past m (Does event told) may known = does here next past m event told may known

  pub lack_walk : WalkOver (KnowsAll keys) (λ past e. Unit {0}) (MayLack keys) Nothing
  lack_walk = record { step = λ here next past m one may ground stand known. (step_stands here next past m one may ground, tt); turn = λ here next past m turns ground known. tt }
