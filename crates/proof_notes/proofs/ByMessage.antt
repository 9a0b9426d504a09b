-- What a message that a host takes has it note, by its own tables, is what the transcript asks.
use Rattle.std.proofs.Common.{◌≡◌, ◌⊎◌, ℕ, ◌%◌, ◌-◌, ◌<◌, ◌≤◌, ◌==◌, ◌&&◌, not, nat_lt, Bool, true, false, if◌then◌else◌, inl, inr, List, [], ◌∷◌, ◌++◌, length, drop, refl, sym, ap, ap₂, ◌∙◌, subst, append-nil, arith}
use Rattle.std.specs.Prelude.{Option, Some, None, is_some, slice_get, slice_index, unwrap_or}
use Rattle.std.specs.List.{AllByRecursion, flat_map}
use Rattle.std.specs.Set.{distinct_count}
use Rattle.std.proofs.lemmas.Bool.{both_ways, cases_Bool, cases_lt, eq-eqb, eqb-true, le-leb, lt-leb, ltb-false, ltb-true, ne_eqb}
use Rattle.std.proofs.lemmas.List.{get_or_past}
use Rattle.std.proofs.lemmas.List.Elements.{recursion_from_All}
use Rattle.zw_base.specs.PropertyOrder.{same_property}
use Rattle.zw_base.specs.declared.property.Setting.{Setting}
use Rattle.class_info.specs.Values.{status_byte}
use Rattle.class_info.specs.declared.report_status.ReportStatus.{ReportStatus}
use Rattle.class_info.specs.declared.report_status.ReportStatus.TheVariants as statuses
use Rattle.supervision.specs.Host.{HostBook, command_at as command_of_session, open_session, told_of}
use Rattle.supervision.specs.declared.session.TheConstants.{WORKING}
use Rattle.supervision.specs.declared.host_node.Told.{Told as TheTold}
use Rattle.supervision.specs.declared.host_node.Told.TheVariants as told
use Rattle.s0_session.specs.Nonces.{live_of}
use Rattle.value_store.specs.Values.{count_with}
use Rattle.zw_text.specs.declared.entry.Entry.{Entry}
use Rattle.zw_text.specs.declared.entry.Entry.TheVariants as entry
use Rattle.law_transcript.specs.Answers.{properties_kept}
use Rattle.law_transcript.specs.Commands.{settings_for}
use Rattle.law_transcript.specs.Lists.{Has}
use Rattle.law_transcript.specs.Nodes.{host_list}
use Rattle.law_transcript.specs.Stores.{stores_asked_at, stores_of}
use Rattle.law_transcript.proofs.Having.{all_has}
use Rattle.proof_attempts.specs.law_time.Interviews.{listens}
use Rattle.proof_attempts.specs.law_time.Judged.{last_of}
use Rattle.proof_attempts.specs.law_time.Sessions.{last_command}
use Rattle.host_heard.specs.declared.told.Told.{Told}
use Rattle.host_heard.specs.declared.told.Told.TheVariants.{Report, NonceGet, NonceReport, Notification, SegmentRequest, Values}
use Rattle.host_keep.specs.Status.{status_of}
use Rattle.host_keep.specs.declared.final_status.FinalStatus.{FinalStatus}
use Rattle.host_keep.specs.declared.final_status.FinalStatus.TheVariants as final
use Rattle.host_node.specs.State.{NodeState, count_at, is_false, unknown}
use Rattle.host_orders.specs.Classes.{lists}
use Rattle.host_model.specs.State.{Command, HostState, command_at, node_of}
use Rattle.host_model.specs.Facts.{IsCommandOf}
use Rattle.host_model.specs.Sessions.{settings_with}
use Rattle.host_model.specs.After.{is_full, is_held}
use Rattle.host_model.specs.Events.{HostEvent, Unreads, Is_unkept, Reports_old, Works, Finishes, Offers, Gives, Takes_nonce, Notifies, Resends, Hears_value, Has_no_room}
use Rattle.host_model.specs.Outs.{dropped_if, ended_of, held_entries, noted, outs, stored_entries}
use Rattle.host_model.specs.Taking.{FinalEvents, IsKeptOr, IsTaken, NonceGetEvents, NonceReportEvents, ReportEvents, is_secure, resent, value_event}
use Rattle.host_model.specs.declared.out.HostOut.TheVariants.{Note}
use Rattle.proof_attempts.specs.proof_host.Laws.{accepted_for, numbers_for}
use Rattle.proof_attempts.specs.proof_host.Tables.{nodes_by, taken_at, taken_by}
use Rattle.proof_known.proofs.Noting.{noted_told, secure_is}
use Rattle.proof_known.specs.proof_transcript.proof_once.Tied.{settings_taken}
use Rattle.proof_known.proofs.StoredValues.{number_among}
use Rattle.proof_known.specs.law_host.Heard.{listing_heard}
use Rattle.proof_known.specs.law_host.Messages.{final_notes, held_notes, is_of_open}
use Rattle.proof_known.specs.proof_alone.Steps.{AreTold}
use Rattle.proof_known.specs.Noted.{has_room}
use Rattle.proof_notes.specs.Ties.{Ties}
use Rattle.proof_notes.specs.Full.{AreNoneUnlessFull, AreUnlessUnkept, EndNotes, MessageNotes, ReportNotes, hearing_of, value_note}

-- ---- what is told

pub note_told : (e : Entry) (some : List Entry) → AreTold (Note e ∷ []) some → some ≡ e ∷ []
note_told e some are = noted_told (e ∷ []) some are

-- nothing follows, with no note; or one event, with what it puts out
abbrev pub One : (List Entry → Type 0) → HostState → List HostEvent → Type 0
One Notes h events = ((events ≡ []) × Notes []) ⊎ ((event : HostEvent) × (events ≡ event ∷ []) × ((some : List Entry) → AreTold (outs h event) some → Notes some))

unkept_or : (Notes : List Entry → Type 0) (h : HostState) (n : ℕ) (kept : HostEvent) (events : List HostEvent) → IsKeptOr kept (Is_unkept n) events
    → ((some : List Entry) → AreTold (outs h kept) some → Notes some) → ((some : List Entry) → some ≡ entry.Unkept n ∷ [] → Notes some) → One Notes h events
unkept_or Notes h n kept events (inl is) goes unkept = inr (kept, is, goes)
unkept_or Notes h n kept events (inr is) goes unkept = inr (Is_unkept n, is, λ some are. unkept some (note_told (entry.Unkept n) some are))

dropped_told : (full : Bool) (n : ℕ) (some : List Entry) → AreTold (noted (dropped_if full n)) some → AreNoneUnlessFull n some
dropped_told true n some are = inr (note_told (entry.QueueFull n) some are)
dropped_told false n some are = inl are

-- ---- a report, by the book of its node

flip : (a b : ℕ) (is : Bool) → (a == b) ≡ is → (b == a) ≡ is
flip a b true is = eq-eqb b a (sym (eqb-true a b is))
flip a b false is = ne_eqb b a (λ same. both_ways (a == b) is (eq-eqb a b (sym same)))

old_by : (named working : Bool) (k : ℕ) → (if named then (if working then told.Working else told.Final k) else told.Old) ≡ told.Old → named ≡ false
old_by true true k is = cc
old_by true false k is = cc
old_by false working k is = refl

working_by : (named working : Bool) (k : ℕ) → (if named then (if working then told.Working else told.Final k) else told.Old) ≡ told.Working → (named ≡ true) × (working ≡ true)
working_by true true k is = (refl, refl)
working_by true false k is = (refl, cc)
working_by false working k is = absurd (let bad : told.Old ≡ told.Working = is in cc)

final_by : (named working : Bool) (k session : ℕ) → (if named then (if working then told.Working else told.Final k) else told.Old) ≡ told.Final session
    → (named ≡ true) × (working ≡ false) × (k ≡ session)
final_by true false k session is = (refl, refl, cc)
final_by true true k session is = absurd (let bad : told.Working ≡ told.Final session = is in cc)
final_by false working k session is = absurd (let bad : told.Old ≡ told.Final session = is in cc)

-- the last session is open, and has the id
abbrev pub names_open : HostBook → ℕ → Bool
names_open book id = is_some (open_session book) && (length book.commands % 64 == id)

pub is_old : (commands : List ℕ) (outcome : Option ℕ) (attempts id status : ℕ) → told_of (record { commands = commands; outcome = outcome; attempts = attempts }) id status ≡ told.Old
    → names_open (record { commands = commands; outcome = outcome; attempts = attempts }) id ≡ false
is_old [] None attempts id status is = refl
is_old (first ∷ more) None attempts id status is =
    flip id (length (first ∷ more) % 64) false (old_by (id == length (first ∷ more) % 64) (status == WORKING) (length (first ∷ more)) is)
is_old commands (Some ended) attempts id status is = refl

pub is_working : (commands : List ℕ) (outcome : Option ℕ) (attempts id status : ℕ) → told_of (record { commands = commands; outcome = outcome; attempts = attempts }) id status ≡ told.Working
    → (names_open (record { commands = commands; outcome = outcome; attempts = attempts }) id ≡ true) × ((status == WORKING) ≡ true)
is_working [] None attempts id status is = absurd (let bad : told.Old ≡ told.Working = is in cc)
is_working (first ∷ more) None attempts id status is =
    let (named, working) = working_by (id == length (first ∷ more) % 64) (status == WORKING) (length (first ∷ more)) is in
    (flip id (length (first ∷ more) % 64) true named, working)
is_working commands (Some ended) attempts id status is = absurd (let bad : told.Old ≡ told.Working = is in cc)

pub last_some : (P : ℕ → Type 0) (first : ℕ) (more : List ℕ)
    → (command : ℕ) × (slice_get (first ∷ more) (length more) ≡ Some command) × (drop (length more) (first ∷ more) ≡ command ∷ []) × (AllByRecursion P (first ∷ more) → P command)
last_some P first [] = (first, refl, refl, λ all. all.0)
last_some P first (next ∷ more) = let (command, got, last, owned) = last_some P next more in (command, got, last, λ all. owned all.1)

-- the command of the session that ends
pub record IsEnded (P : ℕ → Type 0) (book : HostBook) (id status session : ℕ) : Type 0 where
  pub named : names_open book id ≡ true
  pub final : (status == WORKING) ≡ false
  pub command : ℕ
  pub carried : command_of_session book.commands session ≡ Some command
  pub last : last_of book.commands ≡ command ∷ []
  pub owned : AllByRecursion P book.commands → P command

pub is_final : (P : ℕ → Type 0) (commands : List ℕ) (outcome : Option ℕ) (attempts id status session : ℕ)
    → told_of (record { commands = commands; outcome = outcome; attempts = attempts }) id status ≡ told.Final session
    → IsEnded P (record { commands = commands; outcome = outcome; attempts = attempts }) id status session
is_final P [] None attempts id status session is = absurd (let bad : told.Old ≡ told.Final session = is in cc)
is_final P (first ∷ more) None attempts id status session is =
    let (named, final, number) = final_by (id == length (first ∷ more) % 64) (status == WORKING) (length (first ∷ more)) session is in
    let (command, got, last, owned) = last_some P first more in
    let before : length (first ∷ more) - 1 ≡ length more = omega arith in
    record {
      named = flip id (length (first ∷ more) % 64) true named;
      final = final;
      command = command;
      carried = subst (λ (k : ℕ). command_of_session (first ∷ more) k ≡ Some command) number got;
      last = ap (λ (k : ℕ). drop k (first ∷ more)) before ∙ last;
      owned = owned;
    }
is_final P commands (Some ended) attempts id status session is = absurd (let bad : told.Old ≡ told.Final session = is in cc)

-- ---- a message

abbrev pub IsNoValues : Told → Type 0
IsNoValues (Values settings) = ⊥
IsNoValues message = Unit {0}

module _ (past : List Entry) (h : HostState) (ties : Ties past h) (n : ℕ) (payload : List ℕ) where
  -- ---- reports

  pub of_open_is : (id : ℕ) (b : Bool) → names_open (node_of h n).book id ≡ b → is_of_open n past id ≡ b
  of_open_is id b is = ap₂ (λ (o : Bool) (l : List ℕ). o && (length l % 64 == id)) (ties.opened n) (ties.facts.begun n) ∙ is

  pub openly_is : (b : Bool) → is_secure (node_of h n).classes ≡ b → lists (host_list listing_heard past n) 0x98 ≡ b
  openly_is b is = sym (secure_is (node_of h n).classes ∙ ap (λ (o : Option (List ℕ)). lists (unwrap_or o []) 0x98) (ties.lists_so n)) ∙ is

  -- a node with a session has its place
  place : (command : ℕ) → last_of (node_of h n).book.commands ≡ command ∷ [] → n ≤ 232
  place command last =
      let places : length h.nodes ≡ 233 = ties.facts.host.nodes.places in
      elim (cases_lt n (length h.nodes)) [
        | inl within ↦ omega (arith, within, places)
        | inr beyond ↦ absurd (
            let none : last_of (node_of h n).book.commands ≡ [] = ap (λ (s : NodeState). last_of s.book.commands) (get_or_past h.nodes n (unknown 0) beyond) in
            let bad : [] ≡ command ∷ [] = sym none ∙ last in cc)
      ]

  held_by : (wake heard has : Bool) → heard ≡ has → (if wake && not heard then entry.Held n ∷ [] else []) ≡ held_entries n (wake && is_false has)
  held_by wake heard has same = ap (λ (b : Bool). if wake && not b then entry.Held n ∷ [] else []) same ∙ by wake has
    where
      by : (w b : Bool) → (if w && not b then entry.Held n ∷ [] else []) ≡ held_entries n (w && is_false b)
      by true true = refl
      by true false = refl
      by false b = refl

  module _ (sealed : Bool) (id : ℕ) (status : ReportStatus) (wake : Bool) (session : ℕ) (ended : IsEnded (IsCommandOf h.commands n) (node_of h n).book id (status_byte status) session) where
    owned : IsCommandOf h.commands n ended.command
    owned = ended.owned (recursion_from_All (IsCommandOf h.commands n) (node_of h n).book.commands (ties.facts.host.owns n).sessions)

    stored_so : (by : FinalStatus) → stores_asked_at listing_heard past (entry.Out ended.command (ended_of by)) ≡ stored_entries n (settings_with by (command_at h.commands ended.command))
    stored_so final.NoSupport = sym (ap (λ (o : Option Command). stored_entries n (settings_with final.NoSupport o)) owned.found)
    stored_so final.Fail = sym (ap (λ (o : Option Command). stored_entries n (settings_with final.Fail o)) owned.found)
    stored_so final.Success =
        let accepted : accepted_for ended.command past ≡ n ∷ [] =
        ties.facts.accepted.nodes ended.command ∙ ap nodes_by owned.found ∙ ap (λ (m : ℕ). m ∷ []) owned.node in
        let has = number_among past n ended.command (subst (λ (l : List ℕ). Has l n) (sym accepted) (inl refl)) in
        let made : settings_for listing_heard past n ended.command ≡ settings_taken (taken_at h.commands ended.command) =
        all_has (λ k. settings_for listing_heard past n k ≡ settings_taken (taken_at h.commands k)) (numbers_for n past) ended.command (ties.tables n).settings has in
        ap (λ (l : List ℕ). flat_map (stores_of listing_heard past ended.command) l) accepted
        ∙ append-nil (stored_entries n (settings_for listing_heard past n ended.command))
        ∙ ap (λ (l : List Setting). stored_entries n l) (made ∙ ap (λ (o : Option Command). settings_taken (taken_by o)) owned.found)
        ∙ sym (ap (λ (o : Option Command). stored_entries n (settings_with final.Success o)) owned.found)

    -- the notes that the host puts out, and those that the transcript asks
    abbrev pub put_out : FinalStatus → List Entry
    put_out by = entry.Out ended.command (ended_of by) ∷ (stored_entries n (settings_with by (command_at h.commands ended.command)) ++ held_entries n (is_held h n wake))

    abbrev pub asked_for : FinalStatus → List Entry
    asked_for by = flat_map (λ how. flat_map (final_notes (hearing_of n payload sealed) past wake how) (last_command n past)) (ended_of by ∷ [])

    pub ends_so : (by : FinalStatus) → put_out by ≡ asked_for by
    ends_so by =
        let notes : ℕ → List Entry = final_notes (hearing_of n payload sealed) past wake (ended_of by) in
        let last : last_command n past ≡ ended.command ∷ [] = ap (λ (l : List ℕ). last_of l) (ties.facts.begun n) ∙ ended.last in
        let held : held_notes n past wake ≡ held_entries n (is_held h n wake) =
        held_by wake (listens n past) (node_of h n).listens (ties.hears n (place ended.command ended.last)) in
        ap₂ (λ (a b : List Entry). entry.Out ended.command (ended_of by) ∷ (a ++ b)) (sym (stored_so by)) (sym held)
        ∙ sym (append-nil (notes ended.command)) ∙ sym (append-nil (notes ended.command ++ [])) ∙ ap (λ (l : List ℕ). flat_map notes l ++ []) (sym last)

    ends_one : (by : FinalStatus) (events : List HostEvent) → IsKeptOr (Finishes n session id ended.command by wake) (Is_unkept n) events
        → One (AreUnlessUnkept n (asked_for by)) h events
    ends_one by events is =
        unkept_or (AreUnlessUnkept n (asked_for by)) h n (Finishes n session id ended.command by wake) events is
        (λ some are. inl (noted_told (put_out by) some are ∙ ends_so by)) (λ some unkept. inr unkept)

  -- each final status is one that ends it
  final_one : (sealed : Bool) (id : ℕ) (status : ReportStatus) (wake : Bool) (session : ℕ) (ended : IsEnded (IsCommandOf h.commands n) (node_of h n).book id (status_byte status) session)
      (events : List HostEvent) → FinalEvents n session id (Some ended.command) (status_of (status_byte status)) wake events → One (EndNotes (hearing_of n payload sealed) past status wake) h events
  final_one sealed id statuses.Success wake session ended events is = ends_one sealed id statuses.Success wake session ended final.Success events is
  final_one sealed id statuses.Fail wake session ended events is = ends_one sealed id statuses.Fail wake session ended final.Fail events is
  final_one sealed id statuses.NoSupport wake session ended events is = ends_one sealed id statuses.NoSupport wake session ended final.NoSupport events is
  final_one sealed id statuses.Working wake session ended events is = absurd (let bad : true ≡ false = ended.final in cc)

  at_work : (sealed : Bool) (status : ReportStatus) (wake : Bool) (some : List Entry) → (status_byte status == WORKING) ≡ true → some ≡ [] → EndNotes (hearing_of n payload sealed) past status wake some
  at_work sealed statuses.Working wake some is none = none
  at_work sealed statuses.Success wake some is none = absurd (let bad : false ≡ true = is in cc)
  at_work sealed statuses.Fail wake some is none = absurd (let bad : false ≡ true = is in cc)
  at_work sealed statuses.NoSupport wake some is none = absurd (let bad : false ≡ true = is in cc)

  -- whether its session is open is known
  by_open : (sealed : Bool) (id : ℕ) (status : ReportStatus) (wake b : Bool) (events : List HostEvent) → is_of_open n past id ≡ b
      → One (ReportNotes (hearing_of n payload sealed) past id status wake false b) h events
      → One (ReportNotes (hearing_of n payload sealed) past id status wake false (is_of_open n past id)) h events
  by_open sealed id status wake b events is one = subst (λ (c : Bool). One (ReportNotes (hearing_of n payload sealed) past id status wake false c) h events) (sym is) one

  reported : (sealed : Bool) (id : ℕ) (status : ReportStatus) (wake : Bool) (it : TheTold) (events : List HostEvent) → told_of (node_of h n).book id (status_byte status) ≡ it
      → ReportEvents h n id status wake it events → One (ReportNotes (hearing_of n payload sealed) past id status wake false (is_of_open n past id)) h events
  reported sealed id status wake told.Old events it_is is =
      by_open sealed id status wake false events (of_open_is id false (is_old (node_of h n).book.commands (node_of h n).book.outcome (node_of h n).book.attempts id (status_byte status) it_is))
      (inr (Reports_old n id, is, λ some are. note_told (entry.Old n id) some are))
  reported sealed id status wake told.Working events it_is is =
      let (named, working) = is_working (node_of h n).book.commands (node_of h n).book.outcome (node_of h n).book.attempts id (status_byte status) it_is in
      by_open sealed id status wake true events (of_open_is id true named) (inr (Works n id, is, λ some none. at_work sealed status wake some working none))
  reported sealed id status wake (told.Final session) events it_is is =
      let ended : IsEnded (IsCommandOf h.commands n) (node_of h n).book id (status_byte status) session =
      is_final (IsCommandOf h.commands n) (node_of h n).book.commands (node_of h n).book.outcome (node_of h n).book.attempts id (status_byte status) session it_is in
      by_open sealed id status wake true events (of_open_is id true ended.named)
      (final_one sealed id status wake session ended events
      (subst (λ (o : Option ℕ). FinalEvents n session id o (status_of (status_byte status)) wake events) ended.carried is))

  openly : (id : ℕ) (status : ReportStatus) (wake : Bool) (events : List HostEvent) → IsTaken h n payload false (Report id status wake) events
      → One (ReportNotes (hearing_of n payload false) past id status wake (lists (host_list listing_heard past n) 0x98) (is_of_open n past id)) h events
  openly id status wake events is = elim (cases_Bool (is_secure (node_of h n).classes)) [
    | inl secure ↦
        subst (λ (b : Bool). One (ReportNotes (hearing_of n payload false) past id status wake b (is_of_open n past id)) h events) (sym (openly_is true secure))
        (let these : events ≡ Unreads n payload ∷ [] = rw secure at is in (inr (Unreads n payload, these, λ some are. note_told (entry.Unread n payload) some are)))
    | inr open_so ↦
        subst (λ (b : Bool). One (ReportNotes (hearing_of n payload false) past id status wake b (is_of_open n past id)) h events) (sym (openly_is false open_so))
        (reported false id status wake (told_of (node_of h n).book id (status_byte status)) events refl (rw open_so at is))
  ]

  -- ---- nonces and segments

  asked : (live : Option (List ℕ)) (events : List HostEvent) → NonceGetEvents n live events → One (λ some. AreNoneUnlessFull n some ⊎ (some ≡ entry.Unkept n ∷ [])) h events
  asked (Some nonce) events is = inr (Offers n, is, λ some are. inl (dropped_told (is_full h) n some are))
  asked None events is =
      unkept_or (λ some. AreNoneUnlessFull n some ⊎ (some ≡ entry.Unkept n ∷ [])) h n (Gives n is.0) events is.2 (λ some are. inl (dropped_told (is_full h) n some are)) (λ some unkept. inr unkept)

  given : (nonce : List ℕ) (count : Option ℕ) (events : List HostEvent) → NonceReportEvents h n nonce count events → One (AreUnlessUnkept n []) h events
  given nonce None events is = inl (is, inl refl)
  given nonce (Some seen) events is = unkept_or (AreUnlessUnkept n []) h n (Takes_nonce n seen is.1) events is.3 (λ some none. inl none) (λ some unkept. inr unkept)

  resends : (text : Option (List ℕ)) (events : List HostEvent) → events ≡ resent n text → One (AreNoneUnlessFull n) h events
  resends None events is = inl (is, inl refl)
  resends (Some text) events is = inr (Resends n text, is, λ some are. dropped_told (is_full h) n some are)

  -- ---- all but values

  pub one_message : (sealed : Bool) (message : Told) (events : List HostEvent) → IsNoValues message → IsTaken h n payload sealed message events
      → One (MessageNotes (hearing_of n payload sealed) past message) h events
  one_message true (Report id status wake) events other is = reported true id status wake (told_of (node_of h n).book id (status_byte status)) events refl is
  one_message false (Report id status wake) events other is = openly id status wake events is
  one_message sealed NonceGet events other is = asked (live_of h.nonces n) events is
  one_message sealed (NonceReport nonce) events other is = given nonce (count_at (node_of h n) (slice_index nonce 0)) events is
  one_message sealed Notification events other is = inr (Notifies n, is, λ some are. note_told (entry.Awake n) some are)
  one_message sealed (SegmentRequest id offset) events other is = resends _ events is
  one_message sealed (Values settings) events other is = absurd other

  -- ---- values

  pub value_told : (s : Setting) (some : List Entry) → AreTold (outs h (value_event h n s)) some → some ≡ value_note past n s ∷ []
  value_told s some are = by (nat_lt 512 (count_with h.store n (s.property ∷ []))) refl
    where
      kept : ℕ
      kept = distinct_count same_property (s.property ∷ properties_kept listing_heard past n)

      this : (b : Bool) → nat_lt 512 (count_with h.store n (s.property ∷ [])) ≡ b → AreTold (outs h (if b then Has_no_room n s.property else Hears_value n s)) some
      this b is = subst (λ (c : Bool). AreTold (outs h (if c then Has_no_room n s.property else Hears_value n s)) some) is are

      by : (b : Bool) → nat_lt 512 (count_with h.store n (s.property ∷ [])) ≡ b → some ≡ value_note past n s ∷ []
      by true is =
          let many : 512 < count_with h.store n (s.property ∷ []) = ltb-true 512 (count_with h.store n (s.property ∷ [])) is in
          let none : has_room past n s.property ≡ false = lt-leb kept 512 (subst (λ (k : ℕ). 512 < k) (ties.rooms n s.property) many) in
          note_told (entry.Unstored n s.property) some (this true is) ∙ sym (ap (λ (b : Bool). (if b then entry.Report n s else entry.Unstored n s.property) ∷ []) none)
      by false is =
          let few : count_with h.store n (s.property ∷ []) ≤ 512 = ltb-false 512 (count_with h.store n (s.property ∷ [])) is in
          let room : has_room past n s.property ≡ true = le-leb kept 512 (subst (λ (k : ℕ). k ≤ 512) (ties.rooms n s.property) few) in
          note_told (entry.Report n s) some (this false is) ∙ sym (ap (λ (b : Bool). (if b then entry.Report n s else entry.Unstored n s.property) ∷ []) room)
