-- What the session of a node has to send by the transcript is what the host has to give it.
use Rattle.std.proofs.Common.{◌≡◌, ◌⊎◌, ℕ, ◌+◌, ◌-◌, ◌/◌, ◌<◌, ◌≤◌, ◌==◌, ◌&&◌, ◌||◌, nat_le, nat_lt, not, Bool, true, false, if◌then◌else◌, inl, inr, Option, Some, None, length, List, [], ◌∷◌, map, refl, sym, ap, ap₂, ◌∙◌, subst, append-nil, arith}
use Rattle.std.specs.Prelude.{bytes_eq, is_none, is_some, slice_index}
use Rattle.std.specs.List.{flat_map, list_any}
use Rattle.std.proofs.lemmas.Bool.{and_from, and_left, and_right, both_ways, eq-eqb, le-leb, lt-leb, lt-ltb, ltb-false, ltb-true, or_from, or_parts}
use Rattle.std.proofs.lemmas.Slice.Eq.{bytes_eq-Decides}
use Rattle.zw_base.specs.declared.order.Order.{Order}
use Rattle.encap.specs.Opening.{begins_with}
use Rattle.supervision.specs.Host.{command_at as command_of_session, open_session}
use Rattle.zw_text.specs.declared.entry.Entry.{Entry}
use Rattle.zw_text.specs.Transcript.{accepted, sessions}
use Rattle.host_heard.specs.declared.told.Told.{Told}
use Rattle.host_orders.specs.Wrapping.{carriage_of, form_of, message_of}
use Rattle.host_orders.specs.declared.carriage.Carriage.{Carriage}
use Rattle.host_orders.specs.declared.carriage.Form.{Form}
use Rattle.host_orders.specs.declared.carriage.Form.TheVariants.{Plain, Cut, Sealed}
use Rattle.law_transcript.specs.Commands.{classes_for, message_by, message_for as message_told, order_of, waiting}
use Rattle.law_transcript.specs.Payloads.{form_by}
use Rattle.law_transcript.specs.Units.{Carried}
use Rattle.law_time.specs.Attempts.{Attempts, attempt_is_over}
use Rattle.law_time.specs.Choice.{Part, Payload, Sealed_for, first_part, further_parts, has_work, is_in_tick, is_part, is_to_begin, parts_by, parts_of, unkept_when}
use Rattle.law_time.specs.Heeds.{Heeds}
use Rattle.law_time.specs.Requests.{are_none, asked}
use Rattle.law_time.specs.Rests.{is_at_work, none_overdue, none_waits}
use Rattle.law_time.specs.Sessions.{Session, last_command, runs, segment_at as segment_told, session_of}
use Rattle.law_time.specs.Waking.{is_up}
use Rattle.host_node.specs.Facts.{NodeFacts, SeriesFacts}
use Rattle.host_node.specs.State.{NodeState, has_segment, has_waiting, has_work as works, is_false, is_idle, is_open as has_open, is_up as hears}
use Rattle.host_node.specs.declared.attempt.Plan.{Plan}
use Rattle.host_node.specs.declared.series.Series.{Series}
use Rattle.host_node.specs.declared.series.Series.TheVariants.{Idle, Due, Running}
use Rattle.host_model.specs.State.{Command, HostState, command_at, node_of}
use Rattle.host_model.specs.Facts.{FitsForm, HasSegments, HostFacts, IsSound}
use Rattle.host_model.specs.May.{IsStart}
use Rattle.host_model.specs.Sessions.{command_if, message_for, open_segment, segment_at, segment_by, segment_count, segment_of, start_by}
use Rattle.host_model.proofs.Events.{session_owned}
use Rattle.host_model.proofs.Pumps.{found_is}
use Rattle.host_model.proofs.Tests.{open_command_is}
use Rattle.proof_host.specs.Tables.{taken_by}
use Rattle.proof_following.specs.proof_ends.proof_rests.proof_nonces.proof_work.Rests.{NodeRests}
use Rattle.proof_giving.specs.proof_queue.proof_attempts.Attempts.{IsSign, is_over_by}
use Rattle.proof_giving.specs.proof_queue.proof_attempts.proof_requests.law_host.Heard.{heeds_alone, listing_heard}
use Rattle.proof_giving.proofs.Along.{is_opened}
use Rattle.proof_giving.proofs.AttemptsGo.{next_first, next_further, running_goes}
use Rattle.proof_giving.proofs.proof_queue_Segments.{open_is_last, session_last}
use Rattle.proof_giving.specs.Stays.{ShowsSessions}
use Rattle.proof_giving.specs.Tie.{SentAs, is_badly_over}
use Rattle.proof_giving.specs.Told.{attempts_so_far}
use Rattle.proof_choice.specs.Nodes.{NodeKnown}
use Rattle.proof_choice.specs.Plans.{GivesAs}

-- ---- numbers

-- how many segments there are, and the last one
count_is : (size : ℕ) → 1 ≤ size → (size + 38) / 39 ≡ (size - 1) / 39 + 1
count_is size some = omega (arith, some)

within_is : (k size : ℕ) → 1 ≤ size → k < (size + 38) / 39 → nat_le k ((size - 1) / 39) ≡ true
within_is k size some within = let count = count_is size some in le-leb k ((size - 1) / 39) (omega (arith, count, within))

beyond_is : (k size : ℕ) → 1 ≤ size → (size + 38) / 39 ≤ k → nat_le k ((size - 1) / 39) ≡ false
beyond_is k size some beyond = let count = count_is size some in lt-leb k ((size - 1) / 39) (omega (arith, count, beyond))

same_bytes : (a b : List ℕ) → a ≡ b → bytes_eq a b ≡ true
same_bytes a b is = (bytes_eq-Decides a b).1 is

none_some : (A : Type 0) (o : Option (List ℕ)) (text : List ℕ) → o ≡ None → o ≡ Some text → A
none_some A o text none some = absurd (let bad : ◌≡◌ {A = Option (List ℕ)} None (Some text) = sym none ∙ some in cc)

-- ---- the open session

module _ (taken : List Entry → Carried → List Told) (past : List Entry) (h : HostState) (n : ℕ) (facts : HostFacts h) (shows : ShowsSessions (heeds_alone taken) past h n) where
  -- by the transcript as in the host
  pub record OpenSo (s : ℕ) : Type 0 where
    pub number : ℕ
    pub command : Command
    pub carried : command_of_session (node_of h n).book.commands s ≡ Some number
    pub found : command_at h.commands number ≡ Some command
    pub last : last_command n past ≡ number ∷ []
    pub number_is : (session_of listing_heard past n number).number ≡ s
    pub message : (session_of listing_heard past n number).message ≡ message_for command s
    pub form : (session_of listing_heard past n number).form ≡ form_of command.carriage.outer

  module _ (s : ℕ) (opened : open_session (node_of h n).book ≡ Some s) where
    count : length (sessions n past) ≡ s
    count = ap (λ (l : List ℕ). length l) shows.sessions_are ∙ sym (open_is_last (node_of h n).book s opened)

    open_by : (number : ℕ) (command : Command) → command_of_session (node_of h n).book.commands s ≡ Some number → command_at h.commands number ≡ Some command → OpenSo s
    open_by number command carried found =
        let taken_so : (order_of number (accepted n past) ≡ Some command.order) × (command.carriage ≡ carriage_of (classes_for listing_heard past n number) command.order)
        = shows.carried n s number (record { order = command.order; carriage = command.carriage }) (ap (λ (l : List ℕ). command_of_session l s) shows.sessions_are ∙ carried) (ap taken_by found) in
        record {
          number = number;
          command = command;
          carried = carried;
          found = found;
          last = shows.last ∙ session_last (node_of h n).book.commands number (ap (λ (k : ℕ). command_of_session (node_of h n).book.commands k) (sym (open_is_last (node_of h n).book s opened)) ∙ carried);
          number_is = count;
          message = ap (λ (k : ℕ). message_told listing_heard past n k number) count
              ∙ ap (λ (o : Option Order). message_by (classes_for listing_heard past n number) s o) taken_so.0
              ∙ ap (λ (c : Carriage). message_of c command.order s) (sym taken_so.1);
          form = ap (λ (o : Option Order). form_by (classes_for listing_heard past n number) o) taken_so.0 ∙ ap (λ (c : Carriage). form_of c.outer) (sym taken_so.1);
        }

    pub open_so : OpenSo s
    open_so =
        let there = open_command_is (node_of h n).book s opened in
        let owned = session_owned h n s there.0 (facts.owns n) there.1 in open_by there.0 owned.command there.1 owned.found

-- ---- what it has to send

module _ (node_is : (heeds : Heeds) (n : ℕ) (past : List Entry) → (attempts_so_far heeds n past).node ≡ n) (taken : List Entry → Carried → List Told) (past : List Entry) (h : HostState) (now n : ℕ) (facts : HostFacts h)
    (known : NodeKnown (heeds_alone taken) past h now n) where
  abbrev heeds : Heeds
  heeds = heeds_alone taken

  abbrev told : Attempts
  told = attempts_so_far heeds n past

  abbrev s : NodeState
  s = node_of h n

  abbrev badly : Bool
  badly = is_badly_over heeds n past h now

  abbrev parts_now : List Part
  parts_now = parts_of heeds past (asked past) now told

  abbrev session_at : ℕ → Session
  session_at number = session_of listing_heard past n number

  pub node_facts : NodeFacts s
  node_facts = facts.nodes.facts n

  parts_at : parts_now ≡ (if runs n past now then flat_map (λ command. parts_by (attempt_is_over heeds past (asked past) now told) (session_at command) told) (last_command n past) else [])
  parts_at =
      ap (λ (k : ℕ). if runs k past now then flat_map (λ command. parts_by (attempt_is_over heeds past (asked past) now told) (session_of listing_heard past k command) told) (last_command k past) else []) (node_is heeds n past)

  pub idle_parts : s.series ≡ Idle → parts_now ≡ []
  idle_parts idle =
      parts_at
      ∙ ap (λ (b : Bool). if b then flat_map (λ command. parts_by (attempt_is_over heeds past (asked past) now told) (session_at command) told) (last_command n past) else [])
      (known.runs_so ∙ ap (λ (x : Series). not (is_idle x)) idle)

  -- where a series is due or runs, of its open session
  module _ (busy : is_idle s.series ≡ false) where
    pub opened : (session : ℕ) × (open_session s.book ≡ Some session)
    opened = is_opened s node_facts busy

    pub it : OpenSo taken past h n facts known.shows opened.0
    it = open_so taken past h n facts known.shows opened.0 opened.1

    parts_one : parts_now ≡ parts_by (is_over_by now badly told) (session_at it.number) told
    parts_one =
        parts_at
        ∙ ap₂ (λ (b : Bool) (l : List ℕ). if b then flat_map (λ command. parts_by (attempt_is_over heeds past (asked past) now told) (session_at command) told) l else []) (known.runs_so ∙ ap not busy) it.last
        ∙ append-nil (parts_by (attempt_is_over heeds past (asked past) now told) (session_at it.number) told)
        ∙ ap (λ (b : Bool). parts_by b (session_at it.number) told) known.over

    not_to_begin : is_to_begin n past ≡ false
    not_to_begin =
        ap (λ (b : Bool). is_up n past && not b && not (are_none (waiting n past))) (known.told.opened ∙ ap (λ (o : Option ℕ). is_some o) opened.1)
        ∙ and_left (is_up n past && false) (not (are_none (waiting n past))) (and_right (is_up n past) false refl)

  -- an attempt that is due
  due_busy : s.series ≡ Due → is_idle s.series ≡ false
  due_busy due = ap is_idle due

  due_facts : s.series ≡ Due → s.book.attempts ≤ 2
  due_facts due = by s.series due node_facts.series
    where
      by : (x : Series) → x ≡ Due → SeriesFacts x s.book s.attempt_wait s.again_wait s.next_segment s.segments s.text s.pending → s.book.attempts ≤ 2
      by Idle is f = absurd (let bad : Idle ≡ Due = is in cc)
      by Due is f = f.0.fewer
      by Running is f = absurd (let bad : Running ≡ Due = is in cc)

  due_parts : (due : s.series ≡ Due) → parts_now ≡ first_part (session_at (it (due_busy due)).number) (session_at (it (due_busy due)).number).form ∷ []
  due_parts due = parts_one (due_busy due) ∙ next_first told s now badly (session_at (it (due_busy due)).number) known.attempts.node.are due (due_facts due)

  -- and one that runs
  run_busy : s.series ≡ Running → is_idle s.series ≡ false
  run_busy running = ap is_idle running

  run_parts : (running : s.series ≡ Running) → parts_now ≡ further_parts (session_at (it (run_busy running)).number) (session_at (it (run_busy running)).number).form told
  run_parts running = parts_one (run_busy running) ∙ next_further told s now badly (session_at (it (run_busy running)).number) known.attempts.node.are running

  -- what an attempt of a form goes on with
  further_as : (f : Form) (session : Session) → session.form ≡ f → further_parts session session.form told ≡ further_parts session f told
  further_as f session is = ap (λ (g : Form). further_parts session g told) is

  module _ (running : s.series ≡ Running) where
    abbrev session : Session
    session = session_at (it (run_busy running)).number

    abbrev command : Command
    command = (it (run_busy running)).command

    abbrev form : Form
    form = form_of command.carriage.outer

    gives : GivesAs form s
    gives = known.plan running (opened (run_busy running)).0 (it (run_busy running)).number command (opened (run_busy running)).1 (it (run_busy running)).carried (it (run_busy running)).found

    sound : IsSound h.store command
    sound = found_is (IsSound h.store) h.commands (it (run_busy running)).number command (it (run_busy running)).found facts.commands

    fits : FitsForm form (message_for command (opened (run_busy running)).0)
    fits = sound.form (opened (run_busy running)).0

    sent : SentAs told s
    sent = known.attempts.node.sent running

    -- so many segments has its message
    counted : 1 ≤ s.segments → s.segments ≡ segment_count (message_for command (opened (run_busy running)).0)
    counted some = by (facts.owns n).segments
      where
        by : (s.segments ≡ 0) ⊎ HasSegments h.commands s → s.segments ≡ segment_count (message_for command (opened (run_busy running)).0)
        by (inl none) = absurd (omega (arith, some, none))
        by (inr has) =
            let sessions : has.session ≡ (opened (run_busy running)).0 = let both : Some has.session ≡ Some (opened (run_busy running)).0 = sym has.opened ∙ (opened (run_busy running)).1 in cc in
            let numbers : has.number ≡ (it (run_busy running)).number
            = let both : Some has.number ≡ Some (it (run_busy running)).number = sym has.carried ∙ ap (λ (k : ℕ). command_of_session s.book.commands k) sessions ∙ (it (run_busy running)).carried in cc in
            let commands : has.command ≡ command
            = let both : Some has.command ≡ Some command = sym has.found ∙ ap (λ (k : ℕ). command_at h.commands k) numbers ∙ (it (run_busy running)).found in cc in
            has.count ∙ ap₂ (λ (c : Command) (k : ℕ). segment_count (message_for c k)) commands sessions

    size : length session.message ≡ length (message_for command (opened (run_busy running)).0)
    size = ap (λ (l : List ℕ). length l) (it (run_busy running)).message

    -- it has nothing more to give
    done_by : (f : Form) → form ≡ f → FitsForm f (message_for command (opened (run_busy running)).0) → GivesAs f s → s.text ≡ None → has_segment s ≡ false → further_parts session f told ≡ []
    done_by Plain is fits gives no_text none = refl
    done_by Cut is fits gives no_text none =
        let least = ltb-false s.next_segment s.segments none in
        let given = (sent.segments gives).0 in
        let all = counted gives in
        let long = size in
        ap (λ (b : Bool). if b then Payload (segment_told session told.sent) ∷ [] else [])
        (beyond_is told.sent (length session.message) (let some = fits.0 in omega (arith, long, some)) (omega (arith, least, given, all, long)))
    done_by Sealed is fits gives no_text none = ap (λ (l : List ℕ). map (λ first. Sealed_for first) l) (known.ready.none running no_text)

    pub done_parts : s.text ≡ None → has_segment s ≡ false → parts_now ≡ []
    done_parts no_text none = run_parts running ∙ further_as form session (it (run_busy running)).form ∙ done_by form refl fits gives no_text none

    -- its sealed text
    text_by : (f : Form) → form ≡ f → GivesAs f s → (text : List ℕ) → s.text ≡ Some text → further_parts session f told ≡ Sealed_for (slice_index text (length text - 9)) ∷ []
    text_by Plain is as_form text has = none_some _ s.text text as_form.1 has
    text_by Cut is as_form text has = none_some _ s.text text (sent.segments as_form).1 has
    text_by Sealed is as_form text has = ap (λ (l : List ℕ). map (λ first. Sealed_for first) l) (known.ready.text text has)

    pub text_parts : (text : List ℕ) → s.text ≡ Some text → parts_now ≡ Sealed_for (slice_index text (length text - 9)) ∷ []
    text_parts text has = run_parts running ∙ further_as form session (it (run_busy running)).form ∙ text_by form refl gives text has

    -- its next segment
    segment_text_by : (f : Form) (payload : List ℕ) → form ≡ f → FitsForm f (message_for command (opened (run_busy running)).0) → GivesAs f s
        → segment_by f (opened (run_busy running)).0 (message_for command (opened (run_busy running)).0) s.next_segment ≡ Some payload
        → further_parts session f told ≡ Payload payload ∷ []
    segment_text_by Plain payload is fits gives there = absurd (let bad : ◌≡◌ {A = Option (List ℕ)} None (Some payload) = there in cc)
    segment_text_by Sealed payload is fits gives there = absurd (let bad : ◌≡◌ {A = Option (List ℕ)} None (Some payload) = there in cc)
    segment_text_by Cut payload is fits gives there = by (nat_lt s.next_segment (segment_count message)) refl there
      where
        message : List ℕ
        message = message_for command (opened (run_busy running)).0

        by : (b : Bool) → nat_lt s.next_segment (segment_count message) ≡ b → (if b then Some (segment_at (opened (run_busy running)).0 message s.next_segment) else None) ≡ Some payload
            → further_parts session Cut told ≡ Payload payload ∷ []
        by false less there = absurd (let bad : ◌≡◌ {A = Option (List ℕ)} None (Some payload) = there in cc)
        by true less there =
            let text : segment_at (opened (run_busy running)).0 message s.next_segment ≡ payload = cc in
            let under = ltb-true s.next_segment (segment_count message) less in
            let given = (sent.segments gives).0 in
            let long = size in
            let some = fits.0 in
            ap (λ (b : Bool). if b then Payload (segment_told session told.sent) ∷ [] else []) (within_is told.sent (length session.message) (omega (arith, long, some)) (omega (arith, under, given, long)))
            ∙ ap (λ (k : ℕ). Payload (segment_told session k) ∷ []) given
            ∙ ap₂ (λ (k : ℕ) (l : List ℕ). Payload (segment_at k l s.next_segment) ∷ []) (it (run_busy running)).number_is (it (run_busy running)).message
            ∙ ap (λ (l : List ℕ). Payload l ∷ []) text

    open_is : (payload : List ℕ) → open_segment h s (open_session s.book) s.next_segment ≡ Some payload
        → segment_by form (opened (run_busy running)).0 (message_for command (opened (run_busy running)).0) s.next_segment ≡ Some payload
    open_is payload there =
        sym (ap (λ (o : Option ℕ). open_segment h s o s.next_segment) (opened (run_busy running)).1
        ∙ ap (λ (o : Option ℕ). segment_of (command_if h.commands o) (opened (run_busy running)).0 s.next_segment) (it (run_busy running)).carried
        ∙ ap (λ (c : Option Command). segment_of c (opened (run_busy running)).0 s.next_segment) (it (run_busy running)).found)
        ∙ there

    pub segment_parts : (payload : List ℕ) → open_segment h s (open_session s.book) s.next_segment ≡ Some payload → parts_now ≡ Payload payload ∷ []
    segment_parts payload there = run_parts running ∙ further_as form session (it (run_busy running)).form ∙ segment_text_by form payload refl fits gives (open_is payload there)

    run_none : is_to_begin n past ≡ false
    run_none = not_to_begin (run_busy running)

  -- ---- whether there is work

  -- where none is in the host
  begin_is : is_to_begin n past ≡ (hears s && not (has_open s) && not (not (has_waiting s)))
  begin_is =
      ap₂ (λ (a b : Bool). a && not b && not (are_none (waiting n past))) known.told.up known.told.opened ∙ ap (λ (b : Bool). hears s && not (has_open s) && not b) known.told.waits

  begins_not : (is_to_begin n past && not (is_in_tick (unkept_when n) past now)) ≡ false → (not (are_none parts_now)) ≡ false → has_work heeds past (asked past) now told ≡ false
  begins_not none no_parts =
      ap (λ (k : ℕ). not (are_none parts_now) || (is_to_begin k past && not (is_in_tick (unkept_when k) past now))) (node_is heeds n past)
      ∙ or_from (not (are_none parts_now)) (is_to_begin n past && not (is_in_tick (unkept_when n) past now)) no_parts none

  idle_none : (opened up waits blocked : Bool) → (is_false opened && waits && up && is_false blocked) ≡ false → (blocked ≡ true → is_in_tick (unkept_when n) past now ≡ true)
      → ((up && not opened && not (not waits)) && not (is_in_tick (unkept_when n) past now)) ≡ false
  idle_none opened false waits blocked none failed = refl
  idle_none true true waits blocked none failed = refl
  idle_none false true false blocked none failed = refl
  idle_none false true true false none failed = absurd (let bad : true ≡ false = none in cc)
  idle_none false true true true none failed = ap not (failed refl)

  none_is : (o : Option ℕ) → is_none o ≡ is_false (is_some o)
  none_is None = refl
  none_is (Some one) = refl

  idle_works : s.series ≡ Idle → works s ≡ (is_false (has_open s) && has_waiting s && hears s && is_false s.blocked)
  idle_works idle = by s idle ∙ ap (λ (b : Bool). b && has_waiting s && hears s && is_false s.blocked) (none_is (open_session s.book))
    where
      by : (t : NodeState) → t.series ≡ Idle → works t ≡ (is_none (open_session t.book) && has_waiting t && hears t && is_false t.blocked)
      by t is = subst (λ (x : Series). works (record t { series = x }) ≡ (is_none (open_session t.book) && has_waiting t && hears t && is_false t.blocked)) (sym is) refl

  running_works : s.series ≡ Running → works s ≡ (is_some s.text || has_segment s)
  running_works running = by s running
    where
      by : (t : NodeState) → t.series ≡ Running → works t ≡ (is_some t.text || has_segment t)
      by t is = subst (λ (x : Series). works (record t { series = x }) ≡ (is_some t.text || has_segment t)) (sym is) refl

  due_works : s.series ≡ Due → works s ≡ true
  due_works due = by s due
    where
      by : (t : NodeState) → t.series ≡ Due → works t ≡ true
      by t is = subst (λ (x : Series). works (record t { series = x }) ≡ true) (sym is) refl

  idle_true : (opened up waits blocked : Bool) → (is_false opened && waits && up && is_false blocked) ≡ true → ((up && not opened && not (not waits)) ≡ true) × (blocked ≡ false)
  idle_true false true true false it = (refl, refl)
  idle_true false true true true it = absurd (let bad : false ≡ true = it in cc)
  idle_true false false true blocked it = absurd (let bad : false ≡ true = it in cc)
  idle_true false up false blocked it = absurd (let bad : false ≡ true = it in cc)
  idle_true true up waits blocked it = absurd (let bad : false ≡ true = it in cc)

  -- a session may begin
  pub to_begin : s.series ≡ Idle → works s ≡ true → (is_to_begin n past ≡ true) × (s.blocked ≡ false)
  to_begin idle some = let both = idle_true (has_open s) (hears s) (has_waiting s) s.blocked (sym (idle_works idle) ∙ some) in (begin_is ∙ both.0, both.1)

  no_text : (o : Option (List ℕ)) → is_some o ≡ false → o ≡ None
  no_text None is = refl
  no_text (Some text) is = absurd (let bad : true ≡ false = is in cc)

  pub no_work : works s ≡ false → has_work heeds past (asked past) now told ≡ false
  no_work none = by s.series refl
    where
      by : (x : Series) → s.series ≡ x → has_work heeds past (asked past) now told ≡ false
      by Idle is =
          begins_not
          (ap (λ (b : Bool). b && not (is_in_tick (unkept_when n) past now)) begin_is ∙ idle_none (has_open s) (hears s) (has_waiting s) s.blocked (sym (idle_works is) ∙ none) known.blocked.kept)
          (ap (λ (l : List Part). not (are_none l)) (idle_parts is))
      by Due is = absurd (both_ways (works s) none (due_works is))
      by Running is =
          let parts = or_parts (is_some s.text) (has_segment s) (sym (running_works is) ∙ none) in
          begins_not (and_left (is_to_begin n past) (not (is_in_tick (unkept_when n) past now)) (run_none is))
          (ap (λ (l : List Part). not (are_none l)) (done_parts is (no_text s.text parts.0) parts.1))

  -- ---- at rest

  module _ (rests : NodeRests s) where
    pub waits_for_none : none_waits n past now ≡ true
    waits_for_none = ap (λ (b : Bool). not b || is_in_tick (unkept_when n) past now) begin_is ∙ by (has_open s) (hears s) (has_waiting s) refl refl refl
      where
        closed : (o : Option ℕ) → is_some o ≡ false → o ≡ None
        closed None is = refl
        closed (Some session) is = absurd (let bad : true ≡ false = is in cc)

        by : (opened up waits : Bool) → has_open s ≡ opened → hears s ≡ up → has_waiting s ≡ waits → (not (up && not opened && not (not waits)) || is_in_tick (unkept_when n) past now) ≡ true
        by opened false waits open_is up_is waits_is = refl
        by true true waits open_is up_is waits_is = refl
        by false true false open_is up_is waits_is = refl
        by false true true open_is up_is waits_is = known.blocked.kept (rests.served waits_is up_is (closed (open_session s.book) open_is))

    signed : (sign : List ℕ) (wait : ℕ) → IsSign sign now wait → 1 ≤ wait → list_any (λ tick. nat_lt now (tick + 100)) sign ≡ true
    signed [] wait is some = absurd (omega (arith, is, some))
    signed (tick ∷ more) wait is some = let at = is.2 in ap (λ (b : Bool). b || list_any (λ tick. nat_lt now (tick + 100)) more) (lt-ltb now (tick + 100) (omega (arith, at, some)))

    pub overdue_none : none_overdue heeds past now told ≡ true
    overdue_none = ap (λ (k : ℕ). not (runs k past now) || is_at_work heeds past now told) (node_is heeds n past) ∙ by s.series refl
      where
        by : (x : Series) → s.series ≡ x → (not (runs n past now) || is_at_work heeds past now told) ≡ true
        by Idle is = ap (λ (b : Bool). not b || is_at_work heeds past now told) (known.runs_so ∙ ap (λ (x : Series). not (is_idle x)) is)
        by Due is = absurd (rests.begun is)
        by Running is =
            let given = rests.given is in
            ap (λ (b : Bool). not b || is_at_work heeds past now told) (known.runs_so ∙ ap (λ (x : Series). not (is_idle x)) is)
            ∙ and_from (are_none parts_now) (list_any (λ tick. nat_lt now (tick + 100)) told.sign) (ap are_none (done_parts is given.1.0 given.1.1))
            (signed told.sign s.attempt_wait (running_goes told s now badly known.attempts.node.are is).sign given.0)

  -- ---- what is chosen

  any_one : (payload : List ℕ) (part : Part) → is_part payload part ≡ true → parts_now ≡ part ∷ [] → list_any (is_part payload) parts_now ≡ true
  any_one payload part is parts = ap (λ (l : List Part). list_any (is_part payload) l) parts ∙ ap (λ (b : Bool). b || false) is

  starts_as : (f : Form) (one : Session) (session : ℕ) (message : List ℕ) → one.number ≡ session → one.message ≡ message → is_part (start_by f session message).payload (first_part one f) ≡ true
  starts_as Plain one number message numbers messages = same_bytes message one.message (sym messages)
  starts_as Cut one number message numbers messages =
      same_bytes (segment_at number message 0) (segment_told one 0) (sym (ap₂ (λ (k : ℕ) (l : List ℕ). segment_at k l 0) numbers messages))
  starts_as Sealed one number message numbers messages = refl

  pub start_chosen : (plan : Plan) (more : Bool) (payload : List ℕ) → s.series ≡ Due → IsStart h n plan more payload → list_any (is_part payload) parts_now ≡ true
  start_chosen plan more payload due start =
      let here = it (due_busy due) in
      let session : ℕ = (opened (due_busy due)).0 in
      let sessions : start.session ≡ session = let both : Some start.session ≡ Some session = sym start.opened ∙ (opened (due_busy due)).1 in cc in
      let numbers : start.carried.0 ≡ here.number
      = let both : Some start.carried.0 ≡ Some here.number = sym start.carried.1 ∙ ap (λ (k : ℕ). command_of_session s.book.commands k) sessions ∙ here.carried in cc in
      let commands : start.command ≡ here.command
      = let both : Some start.command ≡ Some here.command = sym start.carried.2 ∙ ap (λ (k : ℕ). command_at h.commands k) numbers ∙ here.found in cc in
      let one : Session = session_at here.number in
      any_one payload (first_part one one.form)
      (ap₂ (λ (l : List ℕ) (f : Form). is_part l (first_part one f)) start.payload_is here.form
      ∙ ap₂ (λ (c : Command) (k : ℕ). is_part (start_by (form_of c.carriage.outer) k (message_for c k)).payload (first_part one (form_of here.command.carriage.outer))) commands sessions
      ∙ starts_as (form_of here.command.carriage.outer) one session (message_for here.command session) here.number_is here.message)
      (due_parts due)

  pub text_chosen : (payload : List ℕ) → s.series ≡ Running → s.text ≡ Some payload → list_any (is_part payload) parts_now ≡ true
  text_chosen payload running has =
      any_one payload (Sealed_for (slice_index payload (length payload - 9)))
      (and_from (begins_with payload 0x98 0x81) (slice_index payload (length payload - 9) == slice_index payload (length payload - 9)) (known.attempts.node.text payload has)
      (eq-eqb (slice_index payload (length payload - 9)) (slice_index payload (length payload - 9)) refl)) (text_parts running payload has)

  pub segment_chosen : (payload : List ℕ) → s.series ≡ Running → open_segment h s (open_session s.book) s.next_segment ≡ Some payload → list_any (is_part payload) parts_now ≡ true
  segment_chosen payload running there = any_one payload (Payload payload) (same_bytes payload payload refl) (segment_parts running payload there)
