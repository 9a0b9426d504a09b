-- At each step of a host alone what it notes of messages stands where they were told.
use Rattle.std.proofs.Common.{◌≡◌, ℕ, ◌%◌, ◌==◌, ◌&&◌, ◌||◌, Bool, true, false, inl, inr, List, [], ◌∷◌, ◌++◌, length, refl, sym, ap, ap₂, ◌∙◌, subst, arith}
use Rattle.std.specs.Prelude.{not, ◌≤◌, ◌<◌, unwrap_or, ◌⊎◌, if◌then◌else◌, ◌-◌, Option, Some, None, bytes_eq, drop, slice_get}
use Rattle.std.specs.List.{AllByRecursion, flat_map, list_any}
use Rattle.std.specs.Set.{distinct_count}
use Rattle.std.proofs.lemmas.Bool.{le-leb, lt-leb}
use Rattle.zw_base.specs.PropertyOrder.{same_property}
use Rattle.zw_base.specs.declared.property.Property.{Property}
use Rattle.value_store.specs.Values.{count_with}
use Rattle.proof_transcript.specs.law_transcript.Answers.{properties_kept}
use Rattle.proof_transcript.specs.law_transcript.Nodes.{known_classes}
use Rattle.proof_transcript.specs.law_host.Heard.{listing_heard}
use Rattle.host_heard.specs.declared.payload.Heard.{Heard}
use Rattle.host_heard.specs.declared.payload.Heard.TheVariants.{Messages, Sealed, Unread}
use Rattle.host_orders.specs.Classes.{lists}
use Rattle.proof_waking.specs.host_model.Did.{after_all}
use Rattle.proof_waking.specs.host_model.Taking.{is_secure}
use Rattle.proof_transcript.proofs.Classes.{LeavesRecords}
use Rattle.proof_transcript.specs.proof_spoken.Said.{AreSaid, KnowsListing}
use Rattle.proof_transcript.proofs.StoredPlaces.{KeepsNoMore}
use Rattle.std.proofs.lemmas.Bool.{eq-eqb, eqb-true, or_left, or_right}
use Rattle.zw_base.proofs.Each.{all-append, all-right, all-weaker}
use Rattle.zw_base.specs.declared.property.Setting.{Setting}
use Rattle.serial_frame.specs.Items.{unit_text}
use Rattle.serial_frame.specs.declared.unit.Unit.TheVariants.{Framed}
use Rattle.supervision.specs.Host.{HostBook, command_at as command_of_session, told_of}
use Rattle.supervision.specs.declared.host_node.Told.TheVariants.{Final, Working, Old as OldReport}
use Rattle.supervision.specs.declared.session.TheConstants.{WORKING}
use Rattle.supervision.proofs.EndsLemmas.{open_session-Some}
use Rattle.zw_words.specs.declared.side.Side.TheVariants.{Chip}
use Rattle.zw_text.specs.declared.entry.Ended.{Ended}
use Rattle.s0_crypto.specs.declared.key_pair.Keys.{Keys}
use Rattle.zw_text.specs.declared.entry.Entry.{Entry}
use Rattle.zw_text.specs.declared.entry.Entry.TheVariants as entry
use Rattle.zw_text.specs.Transcript.{sessions}
use Rattle.proof_transcript.specs.law_transcript.Lists.{EachAfter}
use Rattle.proof_transcript.specs.law_transcript.Units.{Carried, bringing_in, from_node}
use Rattle.proof_transcript.specs.law_time.Judged.{brought_here, last_of, may_tell}
use Rattle.proof_transcript.specs.law_time.Sessions.{is_last_command}
use Rattle.host_heard.specs.Telling.{heard_at}
use Rattle.host_heard.specs.declared.told.Told.{Told}
use Rattle.proof_waking.specs.proof_alone.Tables.{TieTables}
use Rattle.host_keep.specs.declared.final_status.FinalStatus.{FinalStatus}
use Rattle.host_keep.specs.declared.final_status.FinalStatus.TheVariants as final
use Rattle.proof_waking.specs.host_model.State.{HostState, command_at, node_of}
use Rattle.proof_waking.specs.host_model.Sessions.{settings_with}
use Rattle.proof_waking.specs.host_model.After.{is_held}
use Rattle.proof_waking.specs.host_model.Events as events
use Rattle.proof_waking.specs.host_model.Events.{HostEvent, Requests_do, Interviews, Interview_unkept, Unreads, Is_unkept, Reports_old, Finishes, Spends_unread, Notifies, Hears_value, Has_no_room, Hears, IsOwn}
use Rattle.proof_waking.specs.host_model.May.{May as MayHost, IsFinal}
use Rattle.proof_waking.specs.host_model.Outs.{ended_of, held_entries, noted, outs, stored_entries}
use Rattle.proof_waking.proofs.OpenSessions.{final_session}
use Rattle.proof_transcript.specs.proof_host.Facts.{Facts}
use Rattle.proof_transcript.proofs.proof_device_HostOuts.{OutsAre, SharedAre, outs_are}
use Rattle.proof_waking.specs.proof_alone.State.{HostMachine}
use Rattle.proof_waking.specs.proof_alone.Steps.{AreTold, IsOfOthers, Step, Tells, Comes, Misses, Says, Says_nothing, Asks, Refuses, Shows, Restarts, Begins_tick, Numbers, Judges, Does, entries}
use Rattle.proof_waking.specs.proof_alone.Phases.{Phase, May}
use Rattle.proof_waking.specs.proof_alone.Runs.{Knowledge, WalkOver, both_know}
use Rattle.proof_waking.proofs.proof_alone_Apart.{AreOfLine, missed_are}
use Rattle.proof_waking.specs.Judged.{IsBehindFrame, IsOfRequest, LastFrame}
pub use Rattle.proof_waking.proofs.Parts.{noted_told}
use Rattle.proof_known.specs.Known.{KnowsKeys, KnowsWhole, TieTold}
use Rattle.proof_known.proofs.Places.{no_more_places}
use Rattle.proof_known.proofs.KeptKeys.{all_keys}
use Rattle.proof_known.proofs.Telling.{by_else, rest_of}
use Rattle.proof_known.specs.Noted.{IsOpenedIf, MayOpen, OpensHere, OpensToEnd, has_room, may_count, is_ended_by, may_note, tells_end, tells_property, tells_report, tells_value}
use Rattle.proof_known.proofs.Events.{AreAnswers, answers_are, event_at, outs_told}
use Rattle.proof_known.proofs.Followers.{FollowsBy, IsQuiet, classes_kept, counts, frame_follows, known_of}

-- ---- the ground

-- how many properties of a node are kept, with one more
abbrev pub Rooms : Type 0
Rooms = (past : List Entry) (m : HostMachine) → TieTables past m.state m.records → KnowsListing listing_heard past m.state → AreSaid listing_heard m.state.commands past → TieTold past m.state
    → KeepsNoMore m.state → (n : ℕ) (p : Property) → count_with m.state.store n (p ∷ []) ≡ distinct_count same_property (p ∷ properties_kept listing_heard past n)

-- no more is known
abbrev pub Nothing : Knowledge
Nothing here past m = Unit {0}

-- what counts of a node with these classes, by its transcript too
pub secure_is : (classes : Option (List ℕ)) → is_secure classes ≡ lists (unwrap_or classes []) 0x98
unfolding lists
secure_is None = refl
secure_is (Some classes) = refl

-- with these keys of the host
module _ (keys : Keys) where
  -- ---- entries of which nothing is asked

  abbrev pub MayStand : List Entry → Entry → Type 0
  MayStand past e = (may_note past e ≡ true) × MayOpen keys past e

  abbrev IsUnasked : Entry → Type 0
  IsUnasked e = (past : List Entry) → MayStand past e

  abbrev Stand : List Entry → List Entry → Type 0
  Stand past told = EachAfter MayStand past told

  all_stand : (past told : List Entry) → AllByRecursion IsUnasked told → Stand past told
  all_stand past [] all = tt
  all_stand past (e ∷ told) all = (all.0 past, all_stand (past ++ e ∷ []) told all.1)

  others_unasked : (e : Entry) → IsOfOthers e → IsUnasked e
  others_unasked (entry.Out command ended) others past = absurd others
  others_unasked (entry.Report node setting) others past = absurd others
  others_unasked (entry.Unstored node property) others past = absurd others
  others_unasked (entry.Old node id) others past = absurd others
  others_unasked (entry.Unread node payload) others past = absurd others
  others_unasked e others past = (refl, tt)

  line_unasked : AreOfLine IsUnasked
  line_unasked = record { written = λ side text past. (refl, tt); dropped = λ side past. (refl, tt); garbled = λ side text past. (refl, tt); overrun = λ side past. (refl, tt) }

  answers_unasked : AreAnswers IsUnasked
  answers_unasked = record { accepted = λ command node past. (refl, tt); taken_back = λ command past. (refl, tt) }

  shared_unasked : SharedAre IsUnasked
  shared_unasked = record {
    unanswered = λ command past. (refl, tt);
    asleep = λ n past. (refl, tt);
    done = λ n how past. (refl, tt);
    uninterviewed = λ n past. (refl, tt);
    neighbours = λ n nodes past. (refl, tt);
    failed = λ n is_failed past. (refl, tt);
    stored = λ n setting past. (refl, tt);
    held = λ n past. (refl, tt);
    full = λ n past. (refl, tt);
  }

  -- events that note none of what is asked of
  quiet_outs : (h : HostState) (event : HostEvent) → IsQuiet event → OutsAre IsUnasked (outs h event)
  quiet_outs h (Finishes n session id command status wake) quiet = absurd quiet
  quiet_outs h (Reports_old n id) quiet = absurd quiet
  quiet_outs h (Hears_value n setting) quiet = absurd quiet
  quiet_outs h (Has_no_room n property) quiet = absurd quiet
  quiet_outs h (Unreads n payload) quiet = absurd quiet
  quiet_outs h (Spends_unread n payload) quiet = absurd quiet
  quiet_outs h (Interviews n listens classes update) quiet = outs_are IsUnasked shared_unasked h (Interviews n listens classes update) (λ past. (refl, tt))
  quiet_outs h (Interview_unkept n update) quiet = outs_are IsUnasked shared_unasked h (Interview_unkept n update) (λ past. (refl, tt))
  quiet_outs h (Is_unkept n) quiet = outs_are IsUnasked shared_unasked h (Is_unkept n) (λ past. (refl, tt))
  quiet_outs h (Notifies n) quiet = outs_are IsUnasked shared_unasked h (Notifies n) (λ past. (refl, tt))
  quiet_outs h (events.Accepts order carriage) quiet = tt
  quiet_outs h (events.Cancels command) quiet = tt
  quiet_outs h (events.Begins n session command) quiet = outs_are IsUnasked shared_unasked h (events.Begins n session command) (λ past. (refl, tt))
  quiet_outs h (events.Begin_unkept n) quiet = outs_are IsUnasked shared_unasked h (events.Begin_unkept n) (λ past. (refl, tt))
  quiet_outs h event quiet = outs_are IsUnasked shared_unasked h event tt

  own_quiet : (event : HostEvent) → IsOwn event → IsQuiet event
  own_quiet (Finishes n session id command status wake) own = absurd own
  own_quiet (Reports_old n id) own = absurd own
  own_quiet (Hears_value n setting) own = absurd own
  own_quiet (Has_no_room n property) own = absurd own
  own_quiet (Unreads n payload) own = absurd own
  own_quiet (Spends_unread n payload) own = absurd own
  own_quiet event own = tt

  request_quiet : (event : HostEvent) → IsOfRequest event → IsQuiet event
  request_quiet (Requests_do event moment) of = tt
  request_quiet event of = absurd of

  quiet_stands : (past : List Entry) (h : HostState) (event : HostEvent) (told : List Entry) → IsQuiet event → AreTold (outs h event) told → Stand past told
  quiet_stands past h event told quiet are = all_stand past told (outs_told IsUnasked line_unasked (outs h event) told (quiet_outs h event quiet) are)

  -- ---- notes

  -- the first of them is asked of, the others are not
  notes_stand : (past : List Entry) (e : Entry) (more told : List Entry) → AreTold (noted (e ∷ more)) told → MayStand past e → AllByRecursion IsUnasked more → Stand past told
  notes_stand past e more told are may all =
      subst (λ (l : List Entry). Stand past l) (sym (noted_told (e ∷ more) told are)) (may, all_stand (past ++ e ∷ []) more all)

  stored_unasked : (n : ℕ) (settings : List Setting) → AllByRecursion IsUnasked (stored_entries n settings)
  stored_unasked n [] = tt
  stored_unasked n (setting ∷ settings) = ((λ past. (refl, tt)), stored_unasked n settings)

  held_unasked : (n : ℕ) (held : Bool) → AllByRecursion IsUnasked (held_entries n held)
  held_unasked n true = ((λ past. (refl, tt)), tt)
  held_unasked n false = tt

  -- ---- the end of a session

  final_by : (named working : Bool) (last session : ℕ) → (if named then (if working then Working else Final last) else OldReport) ≡ Final session → (named ≡ true) × (last ≡ session)
  final_by true false last session is = (refl, cc)
  final_by true true last session is = cc
  final_by false working last session is = cc

  final_id : (commands : List ℕ) (outcome : Option ℕ) (attempts id status session : ℕ)
      → told_of (record { commands = commands; outcome = outcome; attempts = attempts }) id status ≡ Final session → (id == session % 64) ≡ true
  final_id [] None attempts id status session e = cc
  final_id (command ∷ more) None attempts id status session e =
      let (named, last) = final_by (id == length (command ∷ more) % 64) (status == WORKING) (length (command ∷ more)) session e in
      subst (λ (k : ℕ). (id == k % 64) ≡ true) last named
  final_id commands (Some ended) attempts id status session e = cc

  last_one : (first : ℕ) (more : List ℕ) (command : ℕ) → slice_get (first ∷ more) (length more) ≡ Some command → list_any (λ one. one == command) (drop (length more) (first ∷ more)) ≡ true
  last_one first [] command is = let same : first ≡ command = cc in ap (λ (b : Bool). b || false) (eq-eqb first command same)
  last_one first (next ∷ more) command is = last_one next more command is

  last_at : (commands : List ℕ) (command : ℕ) → command_of_session commands (length commands) ≡ Some command → list_any (λ one. one == command) (last_of commands) ≡ true
  last_at [] command is = cc
  last_at (first ∷ more) command is =
      let before : length (first ∷ more) - 1 ≡ length more = omega arith in
      ap (λ (k : ℕ). list_any (λ one. one == command) (drop k (first ∷ more))) before ∙ last_one first more command is

  -- the command is that of the last session of its node, and the report has its id
  ends_here : (past : List Entry) (h : HostState) (n session id command : ℕ) (status : FinalStatus) → Facts past h → IsFinal h n session id command status
      → (is_last_command n past command ≡ true) × ((id == length (sessions n past) % 64) ≡ true)
  ends_here past h n session id command status facts is =
      let book : HostBook = (node_of h n).book in
      let number : session ≡ length book.commands = (open_session-Some book session (final_session book id _ session is.told)).0 in
      let same : sessions n past ≡ book.commands = facts.begun n in (
        ap (λ (l : List ℕ). list_any (λ one. one == command) (last_of l)) same
            ∙ last_at book.commands command (subst (λ (k : ℕ). command_of_session book.commands k ≡ Some command) number is.carried),
        ap (λ (l : List ℕ). id == length l % 64) same
            ∙ subst (λ (k : ℕ). (id == k % 64) ≡ true) number (final_id book.commands book.outcome book.attempts id _ session is.told),
      )

  and_both : (a b : Bool) → (a && b) ≡ true → (a ≡ true) × (b ≡ true)
  and_both true b is = (refl, is)
  and_both false b is = let bad : false ≡ true = is in absurd cc

  any_weaker : (weak strong : Carried → Bool) → ((one : Carried) → strong one ≡ true → weak one ≡ true) → (l : List Carried) → list_any strong l ≡ true → list_any weak l ≡ true
  any_weaker weak strong goes [] is = is
  any_weaker weak strong goes (one ∷ l) is = by (strong one) refl is (any_weaker weak strong goes l)
    where
      by : (b : Bool) → strong one ≡ b → (b || list_any strong l) ≡ true → (list_any strong l ≡ true → list_any weak l ≡ true) → (weak one || list_any weak l) ≡ true
      by true here any more = or_left (weak one) (list_any weak l) (goes one here)
      by false here any more = or_right (weak one) (list_any weak l) (more any)

  counts_so : (past : List Entry) (n : ℕ) (classes : Option (List ℕ)) (such : Told → Bool) (heard : Heard) → classes ≡ known_classes listing_heard past n
      → counts classes such heard ≡ may_count past n such heard
  counts_so past n classes such (Messages messages) same =
      ap (λ (b : Bool). not b && list_any such messages) (secure_is classes ∙ ap (λ (o : Option (List ℕ)). lists (unwrap_or o []) 0x98) same)
  counts_so past n classes such Sealed same = refl
  counts_so past n classes such Unread same = refl

  -- what is known of each node is what its transcript lists
  abbrev Lists : List Entry → (ℕ → Option (List ℕ)) → Type 0
  Lists past known = (n : ℕ) → known n ≡ known_classes listing_heard past n

  may_end_by : (past : List Entry) (known : ℕ → Option (List ℕ)) (n id command : ℕ) (ended : Ended) → Lists past known → is_last_command n past command ≡ true
      → (id == length (sessions n past) % 64) ≡ true
      → list_any (λ carried. (carried.node == n) && counts (known n) (tells_end id ended) (heard_at carried.payload)) (brought_here past) ≡ true
      → list_any (is_ended_by past command ended) (brought_here past) ≡ true
  may_end_by past known n id command ended lists_so last number any =
      any_weaker (is_ended_by past command ended) (λ carried. (carried.node == n) && counts (known n) (tells_end id ended) (heard_at carried.payload)) goes (brought_here past) any
    where
      goes : (one : Carried) → ((one.node == n) && counts (known n) (tells_end id ended) (heard_at one.payload)) ≡ true → is_ended_by past command ended one ≡ true
      goes one is =
          let (here, tells) = and_both (one.node == n) (counts (known n) (tells_end id ended) (heard_at one.payload)) is in
          let same : n ≡ one.node = sym (eqb-true one.node n here) in
          let counted : may_count past n (tells_end id ended) (heard_at one.payload) ≡ true =
          sym (counts_so past n (known n) (tells_end id ended) (heard_at one.payload) (lists_so n)) ∙ tells in
          subst (λ (m : ℕ). (is_last_command m past command && may_count past m (tells_end (length (sessions m past) % 64) ended) (heard_at one.payload)) ≡ true) same
          (ap₂ (λ (a b : Bool). a && b) last
          (subst (λ (k : ℕ). may_count past n (tells_end k ended) (heard_at one.payload) ≡ true) (eqb-true id (length (sessions n past) % 64) number) counted))

  any_so : (one other : List ℕ → Bool) → ((text : List ℕ) → one text ≡ other text) → (l : List (List ℕ)) → list_any one l ≡ true → list_any other l ≡ true
  any_so one other same [] is = is
  any_so one other same (text ∷ l) is = by (one text) refl is (any_so one other same l)
    where
      by : (b : Bool) → one text ≡ b → (b || list_any one l) ≡ true → (list_any one l ≡ true → list_any other l ≡ true) → (other text || list_any other l) ≡ true
      by true here any more = or_left (other text) (list_any other l) (sym (same text) ∙ here)
      by false here any more = or_right (other text) (list_any other l) (more any)

  may_finish : (past : List Entry) (command : ℕ) (status : FinalStatus) → list_any (is_ended_by past command (ended_of status)) (brought_here past) ≡ true → OpensToEnd keys (ended_of status) past
      → MayStand past (entry.Out command (ended_of status))
  may_finish past command final.Success is opens = (is, opens)
  may_finish past command final.Fail is opens = (is, opens)
  may_finish past command final.NoSupport is opens = (is, opens)

  -- what is brought opens so
  opens_here : (past : List Entry) (brought : List Carried) (n : ℕ) (told : Told → Bool) (such : Carried → Told → Bool) → brought_here past ≡ brought → ((one : Carried) → one.node ≡ n → told ≡ such one)
      → AllByRecursion (λ (carried : Carried). (carried.node ≡ n) × IsOpenedIf keys told carried (heard_at carried.payload)) brought → OpensHere keys such past
  opens_here past brought n told such is same all =
      subst (AllByRecursion (λ (carried : Carried). IsOpenedIf keys (such carried) carried (heard_at carried.payload))) (sym is)
      (all-weaker (λ (carried : Carried). (carried.node ≡ n) × IsOpenedIf keys told carried (heard_at carried.payload)) (λ (carried : Carried). IsOpenedIf keys (such carried) carried (heard_at carried.payload))
      (λ one opens. subst (λ (t : Told → Bool). IsOpenedIf keys t one (heard_at one.payload)) (same one opens.0) opens.1) brought all)

  -- ---- what follows a frame

  module _ (past : List Entry) (m : HostMachine) (unit : List ℕ) (known : ℕ → Option (List ℕ)) (facts : Facts past m.state) (lists_so : Lists past known)
      (counted : (n : ℕ) (p : Property) → count_with m.state.store n (p ∷ []) ≡ distinct_count same_property (p ∷ properties_kept listing_heard past n))
      (brought : brought_here past ≡ bringing_in unit) where
    by_payloads : (test : List ℕ → Bool) (n : ℕ) → list_any test (flat_map (from_node n) (bringing_in unit)) ≡ true → list_any test (flat_map (from_node n) (brought_here past)) ≡ true
    by_payloads test n is = ap (λ (l : List Carried). list_any test (flat_map (from_node n) l)) brought ∙ is

    finished : (n session id command : ℕ) (status : FinalStatus) (wake : Bool) → MayHost m.state (Finishes n session id command status wake)
        → FollowsBy keys known unit (Finishes n session id command status wake) → MayStand past (entry.Out command (ended_of status))
    finished n session id command status wake may follows =
        let (last, number) = ends_here past m.state n session id command status facts may in
        may_finish past command status
        (may_end_by past known n id command (ended_of status) lists_so last number
        (ap (λ (l : List Carried). list_any (λ carried. (carried.node == n) && counts (known n) (tells_end id (ended_of status)) (heard_at carried.payload)) l) brought ∙ follows.0))
        (opens_here past (bringing_in unit) n (tells_end id (ended_of status)) (λ carried. tells_end (length (sessions carried.node past) % 64) (ended_of status)) brought
        (λ one same. ap (λ (k : ℕ). tells_end k (ended_of status)) (eqb-true id (length (sessions n past) % 64) number ∙ ap (λ (k : ℕ). length (sessions k past) % 64) (sym same))) follows.1)

    old_told : (n id : ℕ) → FollowsBy keys known unit (Reports_old n id) → MayStand past (entry.Old n id)
    old_told n id follows = (
      any_so (λ text. counts (known n) (tells_report id) (heard_at text)) (λ text. may_count past n (tells_report id) (heard_at text))
          (λ text. counts_so past n (known n) (tells_report id) (heard_at text) (lists_so n)) (flat_map (from_node n) (brought_here past))
          (by_payloads (λ text. counts (known n) (tells_report id) (heard_at text)) n follows.0),
      opens_here past (bringing_in unit) n (tells_report id) (λ carried. tells_report id) brought (λ one same. refl) follows.1,
    )

    room_is : (n : ℕ) (p : Property) → count_with m.state.store n (p ∷ []) ≤ 512 → has_room past n p ≡ true
    room_is n p few = le-leb (distinct_count same_property (p ∷ properties_kept listing_heard past n)) 512 (subst (λ (k : ℕ). k ≤ 512) (counted n p) few)

    no_room_is : (n : ℕ) (p : Property) → 512 < count_with m.state.store n (p ∷ []) → not (has_room past n p) ≡ true
    no_room_is n p many =
        ap not (lt-leb (distinct_count same_property (p ∷ properties_kept listing_heard past n)) 512 (subst (λ (k : ℕ). 512 < k) (counted n p) many))

    behind_stands : (event : HostEvent) (told : List Entry) → MayHost m.state event → FollowsBy keys known unit event → AreTold (outs m.state event) told → Stand past told
    behind_stands (Finishes n session id command status wake) told may follows are =
        let stored = stored_entries n (settings_with status (command_at m.state.commands command)) in
        let held = held_entries n (is_held m.state n wake) in
        notes_stand past (entry.Out command (ended_of status)) (stored ++ held) told are (finished n session id command status wake may follows)
        (all-append IsUnasked stored held (stored_unasked n (settings_with status (command_at m.state.commands command))) (held_unasked n (is_held m.state n wake)))
    behind_stands (Reports_old n id) told may follows are = notes_stand past (entry.Old n id) [] told are (old_told n id follows) tt
    behind_stands (Hears_value n setting) told may follows are =
        notes_stand past (entry.Report n setting) [] told are (
          ap₂ (λ (a b : Bool). a && b) (by_payloads (λ payload. may_tell (tells_value setting) (heard_at payload)) n follows.0) (room_is n setting.property may),
          opens_here past (bringing_in unit) n (tells_value setting) (λ carried. tells_value setting) brought (λ one same. refl) follows.1,
        ) tt
    behind_stands (Has_no_room n property) told may follows are =
        notes_stand past (entry.Unstored n property) [] told are (
          ap₂ (λ (a b : Bool). a && b) (by_payloads (λ payload. may_tell (tells_property property) (heard_at payload)) n follows.0) (no_room_is n property may),
          opens_here past (bringing_in unit) n (tells_property property) (λ carried. tells_property property) brought (λ one same. refl) follows.1,
        ) tt
    behind_stands (Unreads n payload) told may follows are = notes_stand past (entry.Unread n payload) [] told are (by_payloads (λ text. bytes_eq text payload) n follows, tt) tt
    behind_stands (Spends_unread n payload) told may follows are = notes_stand past (entry.Unread n payload) [] told are (by_payloads (λ text. bytes_eq text payload) n follows, tt) tt
    behind_stands event told may follows are = quiet_stands past m.state event told tt are

  -- ---- the walk

  module _ (law : LeavesRecords) (rooms : Rooms)
      (brought : (past : List Entry) (m : HostMachine) (left : List HostEvent) (behind : IsBehindFrame past m left) → brought_here past ≡ bringing_in (unit_text (Framed behind.frame.frame))) where
    behind_goes : (here next : Phase) (past : List Entry) (m : HostMachine) (event : HostEvent) (told : List Entry) (left : List HostEvent) → May here m (Does event told) next
        → both_know KnowsWhole (KnowsKeys keys) here past m → IsBehindFrame past m (event ∷ left) → Stand past told
    behind_goes here next past m event told left may known behind = by (classes_kept law f.first f.frame f.gone event left f.followed)
      where
        f : LastFrame past (event ∷ left)
        f = behind.frame

        unit : List ℕ
        unit = unit_text (Framed f.frame)

        -- the host has had these keys
        first_keys : f.first.keys ≡ keys
        first_keys = sym (all_keys f.first f.gone) ∙ ap (λ (h : HostState). h.keys) (sym behind.state) ∙ known.1.1

        told_so : TieTold past m.state
        told_so = rest_of here past m (by_else here next m.state event may.0).0 known.0.0.1

        counted : (n : ℕ) (p : Property) → count_with m.state.store n (p ∷ []) ≡ distinct_count same_property (p ∷ properties_kept listing_heard past n)
        counted = rooms past m known.0.0.0.0.0.0.0 known.0.0.0.0.1 known.0.0.0.1 told_so (no_more_places m.state known.0.1)

        by : IsQuiet event ⊎ ((n : ℕ) → known_of (after_all f.first f.gone) n ≡ known_of f.first n) → Stand past told
        by (inl quiet) = quiet_stands past m.state event told quiet may.2
        by (inr kept) =
            behind_stands past m unit (known_of f.first) known.0.0.0.0.0.0.0.facts
            (λ n. sym (kept n) ∙ (ap (λ (h : HostState). known_of h n) (sym behind.state) ∙ known.0.0.0.0.1 n)) counted (brought past m (event ∷ left) behind) event told may.1.0
            (subst (λ (k : Keys). FollowsBy k (known_of f.first) unit event) first_keys
            (all-right (FollowsBy f.first.keys (known_of f.first) unit) f.gone (event ∷ left) (frame_follows law f.first f.frame (f.gone ++ event ∷ left) f.followed)).0) may.2

    does : (here next : Phase) (past : List Entry) (m : HostMachine) (event : HostEvent) (told : List Entry) → May here m (Does event told) next → both_know KnowsWhole (KnowsKeys keys) here past m → Stand past told
    does here next past m event told may known = by (event_at here next past m event told may known.0.0.0.0.0.1)
      where
        by : IsOwn event ⊎ (IsOfRequest event ⊎ ((left : List HostEvent) × IsBehindFrame past m (event ∷ left))) → Stand past told
        by (inl own) = quiet_stands past m.state event told (own_quiet event own) may.2
        by (inr (inl of)) = quiet_stands past m.state event told (request_quiet event of) may.2
        by (inr (inr (left, behind))) = behind_goes here next past m event told left may known behind

    step_stands : (here next : Phase) (past : List Entry) (m : HostMachine) (one : Step) → May here m one next → both_know KnowsWhole (KnowsKeys keys) here past m → Stand past (entries m one)
    step_stands here next past m (Tells e) may known = all_stand past (e ∷ []) (others_unasked e may.1, tt)
    step_stands here next past m (Comes unit) may known = ((refl, tt), tt)
    step_stands here next past m (Misses text marks) may known = all_stand past (entry.Written Chip text ∷ marks) ((λ before. (refl, tt)), missed_are IsUnasked line_unasked marks may.1)
    step_stands here next past m (Says words line) may known = ((refl, tt), tt)
    step_stands here next past m (Says_nothing words) may known = ((refl, tt), tt)
    step_stands here next past m (Asks event) may known = all_stand past (entries m (Asks event)) (answers_are IsUnasked answers_unasked m.state event)
    step_stands here next past m (Refuses refusal) may known = ((refl, tt), tt)
    step_stands here next past m (Shows node) may known = ((refl, tt), tt)
    step_stands here next past m (Restarts state) may known = tt
    step_stands here next past m (Begins_tick left) may known = tt
    step_stands here next past m Numbers may known = ((refl, tt), tt)
    step_stands here next past m (Judges item rest behind told) may known = quiet_stands past m.state (Hears item) told tt may.1.told_so
    step_stands here next past m (Does event told) may known = does here next past m event told may known

    pub noted_walk : (First : List Entry → Entry → Type 0) → WalkOver (both_know KnowsWhole (KnowsKeys keys)) First MayStand Nothing
    noted_walk First = record { step = λ here next past m one may ground stand known. (step_stands here next past m one may ground, tt); turn = λ here next past m turns ground known. tt }
