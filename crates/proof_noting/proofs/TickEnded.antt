-- A request that ends in a tick without a frame: what the course makes of its end is what the host notes of it, and its books are the host's; also where nothing is noted.
use Rattle.chip_functions.specs.Field.{IsNode}
use Rattle.chip_functions.specs.declared.request.Request.{Request}
use Rattle.host_heard.specs.declared.told.Told.{Told}
use Rattle.host_model.specs.Ends.{Bad, PartEnd, attempt_entries, done_of, end_entries, part_end, part_entries}
use Rattle.host_model.specs.Sessions.{open_command}
use Rattle.host_model.specs.State.{HostState, node_of}
use Rattle.host_node.specs.Events.NodeEvent.{Ends_attempt}
use Rattle.host_node.specs.State.{NodeState}
use Rattle.host_node.specs.Steps.{attempt_end}
use Rattle.host_node.specs.declared.attempt.Moment.TheVariants.{BeforeItsTick}
use Rattle.host_requests.specs.State.{RequestsState}
use Rattle.host_requests.specs.declared.end.How.{How}
use Rattle.host_requests.specs.declared.end.How.TheVariants.{LinkFailed, Silent}
use Rattle.host_requests.specs.declared.task.Purpose.{Purpose}
use Rattle.host_requests.specs.declared.task.Purpose.TheVariants.{Abort, Attempt, Housekeeping}
use Rattle.host_requests.specs.declared.task.Task.{Task}
use Rattle.host_requests.specs.declared.under_way.Progress.{Progress}
use Rattle.law_time.specs.Heeds.{Heeds}
use Rattle.law_time.specs.Moments.{KeepsAfter, clock}
use Rattle.law_time.specs.Requests.{asked}
use Rattle.law_transcript.specs.Payloads.{nonce_get}
use Rattle.law_transcript.specs.Units.{Carried, sending_in, sending_of}
use Rattle.proof_hearing.proofs.Ending.{badly_one, entries_are, late_is}
use Rattle.proof_hearing.proofs.Framing.{noted_so}
use Rattle.proof_hearing.proofs.proof_ends_Noting.{NodesSo}
use Rattle.proof_hearing.specs.proof_choice.proof_following.Ended.{EndingOf, EndsAs, GoneOf, IsLate, NotedSo, answer_entries, errand_entries, failed_entries, noted_by, outcome_entries, sent_by, sleep_entries}
use Rattle.proof_hearing.specs.proof_choice.proof_following.Ended.EndsAs.{Ends_well}
use Rattle.proof_hearing.specs.proof_choice.proof_following.Quiet.{ended_silently}
use Rattle.proof_hearing.proofs.Doings.{does_at, one_does, part_does, purpose_does}
use Rattle.proof_hearing.proofs.Told.{attempts_left}
use Rattle.proof_hearing.specs.proof_choice.proof_giving.Stays.{ShowsSessions}
use Rattle.proof_hearing.specs.proof_choice.proof_giving.Tie.{AttemptsSo, is_for}
use Rattle.proof_hearing.specs.proof_choice.proof_giving.Told.{LeavesAttempts}
use Rattle.proof_hearing.specs.proof_choice.proof_giving.Walking.{gives_up_well}
use Rattle.proof_hearing.proofs.Alike.{Alike}
use Rattle.proof_hearing.specs.Books.{BooksSo}
use Rattle.proof_hearing.specs.proof_queue.proof_attempts.proof_requests.Carrying.{CarriesSo}
use Rattle.proof_hearing.specs.proof_queue.proof_attempts.proof_requests.law_host.Course.{Course, each_in_turn, without_texts}
use Rattle.proof_hearing.specs.proof_queue.proof_attempts.proof_requests.law_host.Ends.{ends_badly, ends_sealing, ends_without, gives_up, to_give_up_by_end}
use Rattle.proof_hearing.specs.proof_queue.proof_attempts.proof_requests.law_host.Heard.{heeds_alone}
use Rattle.proof_hearing.specs.proof_queue.proof_attempts.proof_requests.law_host.Nonces.{is_late}
use Rattle.proof_host.specs.Facts.{Facts}
use Rattle.proof_noting.proofs.AsksSealed.{AskSo}
use Rattle.proof_noting.proofs.EndLeaves.{CutOff, EndLeaves, bad_left, task_left}
use Rattle.proof_noting.proofs.Sendings.{sending_nodes}
use Rattle.proof_noting.proofs.LeftBooks.{AreUnsealed, bad_books, kept_books, task_unsealed, unsealed_same}
use Rattle.proof_noting.proofs.TickEnds.{attempt_gone, gave, task_leaves, task_none}
use Rattle.serial_link.specs.State.{Side}
use Rattle.std.proofs.Common.{Bool, List, Some, [], ap, append-nil, false, if◌then◌else◌, inl, refl, subst, sym, true, ℕ, ◌++◌, ◌∙◌, ◌∷◌, ◌≡◌, ◌≤◌}
use Rattle.std.proofs.lemmas.Bool.{eq-eqb}
use Rattle.std.specs.List.{AllByRecursion, flat_map}
use Rattle.zw_text.specs.declared.entry.Entry.{Entry}

module _ (key : List ℕ) (taken : List Entry → Carried → List Told) where
  abbrev heeds : Heeds
  heeds = heeds_alone taken

  pub bad_part : (more : Bool) (how : How) → IsLate how → part_end more how ≡ Bad
  bad_part true Silent late = refl
  bad_part false Silent late = refl
  bad_part true LinkFailed late = refl
  bad_part false LinkFailed late = refl
  bad_part more how late = absurd late

  -- what is known of it, in a host in which its line and its requests have gone on, and what it makes of the host
  pub record LateEnd (past : List Entry) (h : HostState) (side : Side) (requests : RequestsState) (k : HostState) (p : Purpose) (how : How) : Type 0 where
    pub progress : Progress
    pub under : h.requests.under_way ≡ Some (record { purpose = p; progress = progress })
    pub late : IsLate how
    pub kept : EndLeaves h k
    pub node_is : (n : ℕ) → n ≤ 232 → node_of k n ≡ does_at n (node_of h n) (purpose_does p how BeforeItsTick)
    pub others : (n m : ℕ) → purpose_does p how BeforeItsTick ≡ one_does n (Ends_attempt BeforeItsTick) → (m ≡ n → ⊥) → Alike (node_of h m) (node_of k m)
    pub facts : Facts past h
    pub nodes : NodesSo past h
    pub shows : (n : ℕ) → ShowsSessions heeds past h n
    pub asks : (n : ℕ) → 1 ≤ n → n ≤ 232 → AskSo h n
    pub time : ℕ → ℕ
    pub at : ℕ
    pub counts : (n : ℕ) → 1 ≤ n → n ≤ 232 → AttemptsSo heeds n past h (time n) at
    pub carries : CarriesSo p
    pub of : EndingOf heeds past (record h { side = side; requests = requests }) h.requests.last_id p

  module _ (past : List Entry) (h : HostState) (side : Side) (requests : RequestsState) (k : HostState) where
    abbrev id : ℕ
    id = h.requests.last_id

    abbrev before : HostState
    before = record h { side = side; requests = requests }

    abbrev pub told_of : Purpose → How → List Entry
    told_of p how = end_entries before (record { purpose = p; how = how })

    -- what a tick makes of it
    abbrev pub ended : How → ℕ → Course → Course
    ended how now c = ends_without heeds past now (done_of how) (record c { ticked = now })

    abbrev all_noted : Purpose → How → ℕ → Course → Course
    all_noted p how now c = noted_by before p how (record c { ticked = now })

    -- so it is: what the host notes is due, and all else is the same; and its books are the host's at the later place
    pub record EndedSo (later : List Entry) (p : Purpose) (how : How) (now : ℕ) (c : Course) : Type 0 where
      pub noted : NotedSo (record c { ticked = now }) (told_of p how) true (ended how now c)
      pub books : BooksSo key heeds later k (ended how now c)

    module _ (p : Purpose) (how : How) (end : LateEnd past h side requests k p how) where
      sent_is : sending_in (asked past).frame ≡ sent_by p id
      sent_is = ap (λ (l : List Request). flat_map sending_of l) end.of.request

      sent_nodes : AllByRecursion (λ (one : Carried). IsNode one.node) (sent_by p id)
      sent_nodes = subst (AllByRecursion (λ (one : Carried). IsNode one.node)) sent_is (sending_nodes (asked past).frame)

      silently_as : (c : Course) → ended_silently past c ≡ each_in_turn ends_sealing (sent_by p id) (record c { over = true })
      silently_as c = ap (λ (l : List Carried). each_in_turn ends_sealing l (record c { over = true })) sent_is

      ended_is : (now : ℕ) (c : Course) → ended how now c ≡ each_in_turn (ends_badly heeds past now) (sent_by p id) (all_noted p how now c)
      ended_is now c = late_is heeds past before id p how now (record c { ticked = now }) end.late end.of

      due_is : (now : ℕ) (c : Course) → c.due ≡ [] → outcome_entries before p how ≡ [] → (all_noted p how now c).due ≡ told_of p how
      due_is now c none nothing =
          let most : List Entry = (errand_entries p how ++ (sleep_entries before p ++ answer_entries p how)) ++ failed_entries p in
          ap (λ (l : List Entry). l ++ most) none ∙ sym (append-nil most) ∙ ap (λ (l : List Entry). most ++ l) (sym nothing) ∙ sym (entries_are before p how)

      so_by : (later : List Entry) (now : ℕ) (c : Course) → EndsAs (all_noted p how now c) (sent_by p id) (outcome_entries before p how) (ended how now c) → BooksSo key heeds later k (ended how now c)
          → EndedSo later p how now c
      so_by later now c ends books = record { noted = noted_so heeds past before id p how (record c { ticked = now }) (ended how now c) ends; books = books }

      -- ---- of no attempt

      module _ (other : (n : ℕ) → is_for n p ≡ false) (sealed : AreUnsealed (sent_by p id)) (alike : (n : ℕ) → IsNode n → Alike (node_of h n) (node_of k n)) where
        badly_none : (now : ℕ) (sent : List Carried) → AreUnsealed sent → AllByRecursion (λ (one : Carried). IsNode one.node) sent → (d : Course) → AllByRecursion LeavesAttempts d.due
            → each_in_turn (ends_badly heeds past now) sent d ≡ d
        badly_none now [] sealed nodes d leaves = refl
        badly_none now (one ∷ sent) sealed nodes d leaves =
            ap (λ (e : Course). each_in_turn (ends_badly heeds past now) sent e) same ∙ badly_none now sent sealed.1 nodes.1 d leaves
          where
            unsealed : ends_sealing one d ≡ d
            unsealed = ap (λ (b : Bool). if b then without_texts one.node d else d) sealed.0

            nothing : to_give_up_by_end heeds (past ++ d.due) now one.node ≡ []
            nothing =
                task_none taken one.node past h (end.facts.host.nodes.facts one.node) (end.time one.node) end.at (end.counts one.node nodes.0.0 nodes.0.1)
                (record { purpose = p; progress = end.progress }) end.under (other one.node) (past ++ d.due) now (attempts_left taken one.node past d.due leaves)

            same : ends_badly heeds past now one d ≡ d
            same =
                ap (λ (e : Course). each_in_turn (gives_up past one.node) (to_give_up_by_end heeds (past ++ e.due) now one.node) e) unsealed
                ∙ ap (λ (l : List ℕ). each_in_turn (gives_up past one.node) l d) nothing

        module _ (start later : List Entry) (late : (n : ℕ) → IsNode n → is_late heeds start n ≡ true → is_late heeds later n ≡ true) where
          other_quiet : (c : Course) → BooksSo key heeds start h c → BooksSo key heeds later k (ended_silently past c)
          other_quiet c books =
              subst (λ (d : Course). BooksSo key heeds later k d) (sym (silently_as c ∙ unsealed_same (sent_by p id) sealed (record c { over = true })))
              (kept_books key taken start later h k end.kept (record c { over = true }) alike late books)

          other_so : (now : ℕ) (c : Course) → c.due ≡ [] → outcome_entries before p how ≡ [] → AllByRecursion LeavesAttempts (told_of p how) → BooksSo key heeds start h c → EndedSo later p how now c
          other_so now c none nothing leaves books =
              so_by later now c (Ends_well nothing same)
              (subst (λ (d : Course). BooksSo key heeds later k d) (sym same) (kept_books key taken start later h k end.kept (all_noted p how now c) alike late books))
            where
              same : ended how now c ≡ all_noted p how now c
              same =
                  ended_is now c ∙ badly_none now (sent_by p id) sealed sent_nodes (all_noted p how now c)
                  (subst (λ (l : List Entry). AllByRecursion LeavesAttempts l) (sym (due_is now c none nothing)) leaves)

    -- ---- a task

    module _ (t : Task) (how : How) (end : LateEnd past h side requests k (Housekeeping t) how) where
      task_sealed : AreUnsealed (sent_by (Housekeeping t) id)
      task_sealed =
          task_unsealed id t end.carries
          (λ n payload is.
          let node : IsNode n = (subst (λ (x : Task). AllByRecursion (λ (one : Carried). IsNode one.node) (sent_by (Housekeeping x) id)) is (sent_nodes (Housekeeping t) how end)).0 in
          (end.asks n node.0 node.1).again (record { purpose = Housekeeping t; progress = end.progress }) payload end.under (ap (λ (x : Task). Housekeeping x) is))

      task_alike : (n : ℕ) → IsNode n → Alike (node_of h n) (node_of k n)
      task_alike n is = subst (λ (s : NodeState). Alike (node_of h n) s) (sym (end.node_is n is.1)) (task_left n (node_of h n) t)

    -- ---- an attempt

    module _ (n : ℕ) (more : Bool) (payload : List ℕ) (how : How) (end : LateEnd past h side requests k (Attempt n more payload) how) where
      abbrev p : Purpose
      p = Attempt n more payload

      abbrev one : Carried
      one = record { node = n; payload = payload }

      is_node : IsNode n
      is_node = end.of.well.0

      bad : part_end more how ≡ Bad
      bad = bad_part more how end.late

      does_so : purpose_does p how BeforeItsTick ≡ one_does n (Ends_attempt BeforeItsTick)
      does_so = ap (λ (e : PartEnd). part_does n e BeforeItsTick) bad

      freed : CutOff (node_of h n) (node_of k n)
      freed =
          subst (λ (s : NodeState). CutOff (node_of h n) s) (sym (end.node_is n is_node.1 ∙ ap (λ (e : PartEnd). does_at n (node_of h n) (part_does n e BeforeItsTick)) bad))
          (bad_left n (node_of h n) BeforeItsTick (end.facts.host.nodes.facts n))

      asks_so : (plain : List ℕ) → (node_of h n).pending ≡ Some plain → payload ≡ nonce_get
      asks_so plain pending = (end.asks n is_node.0 is_node.1).asks plain pending (record { purpose = p; progress = end.progress }) more payload end.under refl

      outcome_is : outcome_entries before p how ≡ attempt_entries n (attempt_end (node_of h n)) (open_command (node_of h n))
      outcome_is = ap (λ (e : PartEnd). part_entries before n e) bad

      module _ (start later : List Entry) (others : (m : ℕ) → IsNode m → (m ≡ n → ⊥) → is_late heeds start m ≡ true → is_late heeds later m ≡ true) where
        attempt_quiet : (is_late heeds start n ≡ true → is_late heeds later n ≡ true) → (c : Course) → BooksSo key heeds start h c → BooksSo key heeds later k (ended_silently past c)
        attempt_quiet own c books =
            subst (λ (d : Course). BooksSo key heeds later k d) (sym (silently_as p how end c))
            (bad_books key taken start later h k end.kept n is_node (λ m other. end.others n m does_so other) freed others payload [] (record c { over = true }) (ends_sealing one (record c { over = true }))
            asks_so (λ nothing. own) (inl (refl, refl)) books)

        attempt_so : (now : ℕ) → clock past ≡ now → (c : Course) → c.due ≡ [] → (told_of p how ≡ [] → ⊥) → KeepsAfter [] (gives_up_well heeds) (past ++ told_of p how) → BooksSo key heeds start h c
            → EndedSo later p how now c
        attempt_so now time c none some law books =
            so_by p how end later now c
            (subst (λ (d : Course). EndsAs (all_noted p how now c) (one ∷ []) (outcome_entries before p how) d) (sym same)
            (badly_one heeds past now one (all_noted p how now c) (outcome_entries before p how) gone))
            (subst (λ (d : Course). BooksSo key heeds later k d) (sym same)
            (bad_books key taken start later h k end.kept n is_node (λ m other. end.others n m does_so other) freed others payload (outcome_entries before p how) (all_noted p how now c)
            (ends_badly heeds past now one (all_noted p how now c)) asks_so (λ nothing. absurd (some nothing)) (gave heeds past now one (all_noted p how now c) (outcome_entries before p how) gone) books))
          where
            same : ended how now c ≡ ends_badly heeds past now one (all_noted p how now c)
            same = ended_is p how end now c

            there : past ++ (all_noted p how now c).due ≡ past
            there = ap (λ (l : List Entry). past ++ (l ++ [])) none ∙ append-nil past

            gone : GoneOf (to_give_up_by_end heeds (past ++ (all_noted p how now c).due) now n) (past ++ (all_noted p how now c).due) n (outcome_entries before p how)
            gone =
                subst (λ (l : List Entry). GoneOf (to_give_up_by_end heeds l now n) l n (outcome_entries before p how)) (sym there)
                (subst (λ (l : List Entry). GoneOf (to_give_up_by_end heeds past now n) past n l) (sym outcome_is)
                (subst (λ (t : ℕ). GoneOf (to_give_up_by_end heeds past t n) past n (attempt_entries n (attempt_end (node_of h n)) (open_command (node_of h n)))) time
                (attempt_gone taken past h end.facts end.nodes n is_node (end.shows n) (end.time n) end.at (end.counts n is_node.0 is_node.1) (record { purpose = p; progress = end.progress }) end.under
                (eq-eqb n n refl) (subst (λ (l : List Entry). KeepsAfter [] (gives_up_well heeds) (past ++ l)) outcome_is law))))

    -- ---- whichever it is of

    module _ (start later : List Entry) where
      -- nothing is noted of it
      pub end_quiet : (p : Purpose) (how : How) → LateEnd past h side requests k p how → ((n : ℕ) → IsNode n → is_late heeds start n ≡ true → is_late heeds later n ≡ true)
          → (c : Course) → BooksSo key heeds start h c → BooksSo key heeds later k (ended_silently past c)
      end_quiet (Attempt n more payload) how end late c books = attempt_quiet n more payload how end start later (λ m is other. late m is) (late n end.of.well.0) c books
      end_quiet (Housekeeping t) how end late c books = other_quiet (Housekeeping t) how end (λ n. refl) (task_sealed t how end) (task_alike t how end) start later late c books
      end_quiet Abort how end late c books =
          other_quiet Abort how end (λ n. refl) tt
          (λ n is. subst (λ (s : NodeState). Alike (node_of h n) s) (sym (end.node_is n is.1)) (record { seen = refl; text = refl; pending = refl; opened = refl; commands = refl })) start later late c books

      -- which nodes have attempts that are late as before: all, or all but one whose command is given up
      abbrev pub LateBy : Purpose → Type 0
      LateBy (Attempt n more payload) = (m : ℕ) → IsNode m → (m ≡ n → ⊥) → is_late heeds start m ≡ true → is_late heeds later m ≡ true
      LateBy p = (m : ℕ) → IsNode m → is_late heeds start m ≡ true → is_late heeds later m ≡ true

      -- something is
      pub end_so : (p : Purpose) (how : How) → LateEnd past h side requests k p how → LateBy p → (now : ℕ) → clock past ≡ now → (c : Course) → c.due ≡ [] → (told_of p how ≡ [] → ⊥)
          → KeepsAfter [] (gives_up_well heeds) (past ++ told_of p how) → BooksSo key heeds start h c → EndedSo later p how now c
      end_so (Attempt n more payload) how end late now time c none some law books = attempt_so n more payload how end start later late now time c none some law books
      end_so (Housekeeping t) how end late now time c none some law books =
          other_so (Housekeeping t) how end (λ n. refl) (task_sealed t how end) (task_alike t how end) start later late now c none refl
          (task_leaves before t how) books
      end_so Abort how end late now time c none some law books = absurd (some refl)
