-- Which commands are given up in a tick, by the transcript as in the host: those of third attempts that end with their request, or whose wait is over; and of the end of a request that is of no
-- attempt none. No node joins by notes.
use Rattle.std.proofs.Common.{◌≡◌, ◌⊎◌, ℕ, ◌+◌, ◌≤◌, ◌==◌, ◌&&◌, ◌||◌, Bool, true, false, if◌then◌else◌, inl, inr, List, [], ◌∷◌, ◌++◌, map, Option, Some, None, refl, sym, ap, ap₂, ◌∙◌, subst, append-nil, append_assoc, arith}
use Rattle.std.specs.Prelude.{nat_le, nat_lt, is_some}
use Rattle.std.specs.List.{AllByRecursion, flat_map, list_any}
use Rattle.std.proofs.lemmas.Bool.{and_left, le-leb, ltb-true, ne_eqb, or_left, or_right}
use Rattle.std.proofs.lemmas.List.Elements.{recursion_from_All}
use Rattle.zw_base.proofs.Each.{all-right}
use Rattle.chip_functions.specs.Field.{IsNode}
use Rattle.chip_functions.specs.declared.response.Response.TheVariants.{GetRoutingInfo, IsFailedNode}
use Rattle.supervision.specs.Host.{open_session}
use Rattle.zw_text.specs.declared.entry.Done.{Done as HowDone}
use Rattle.zw_text.specs.declared.entry.Entry.{Entry}
use Rattle.zw_text.specs.declared.entry.Entry.TheVariants as entry
use Rattle.zw_text.specs.Transcript.{doing_lines, doing_step, join_of, joined, lines_done, shown}
use Rattle.zw_text.proofs.Views.{folded-append}
use Rattle.zw_text.specs.declared.line.Line.{Line}
use Rattle.host_heard.specs.declared.told.Told.{Told}
use Rattle.law_transcript.specs.Lists.{EachAfter}
use Rattle.law_transcript.specs.Stores.{node_at}
use Rattle.law_transcript.specs.Units.{Carried, sending_in}
use Rattle.law_time.specs.Attempts.{Attempts, attempt_is_over, is_late, serving}
use Rattle.law_time.specs.Errands.{errand}
use Rattle.law_time.specs.Heeds.{Heeds}
use Rattle.law_time.specs.Interviews.{node_interviewed}
use Rattle.law_time.specs.Moments.{KeepsAfter, clock}
use Rattle.law_time.specs.Requests.{asked, request_last}
use Rattle.law_time.specs.Sessions.{is_open, last_command}
use Rattle.law_time.specs.Unanswered.{is_to_give_up, third_is_over, to_give_up}
use Rattle.host_requests.specs.declared.end.How.{How}
use Rattle.host_requests.specs.declared.end.How.TheVariants.{AtResponse}
use Rattle.host_requests.specs.declared.task.Task.{Task}
use Rattle.host_requests.specs.declared.task.Task.TheVariants.{IsFailed, Neighbours, NoMore, Plain, Second}
use Rattle.host_requests.specs.declared.under_way.UnderWay.{UnderWay}
use Rattle.host_node.specs.Facts.{NodeFacts, SeriesFacts}
use Rattle.host_node.specs.State.{NodeState, is_running}
use Rattle.host_node.specs.Steps.{attempt_end, falls_asleep}
use Rattle.host_node.specs.declared.attempt.AttemptEnd.TheVariants.{Again, NoneRan, Unanswered}
use Rattle.host_node.specs.declared.series.Series.{Series}
use Rattle.host_node.specs.declared.series.Series.TheVariants.{Due, Idle, Running}
use Rattle.host_model.specs.State.{HostState, node_of}
use Rattle.host_model.specs.Ends.{asleep_entry, attempt_entries, failed_entry, neighbours_entry, task_entries}
use Rattle.host_model.specs.Facts.{IsCommandOf}
use Rattle.host_model.specs.Sessions.{open_command}
use Rattle.proof_host.specs.Facts.{Facts}
use Rattle.proof_host.specs.Tables.{nodes_by}
use Rattle.proof_hearing.specs.proof_choice.proof_giving.Stays.{ShowsSessions}
use Rattle.proof_hearing.specs.proof_choice.proof_giving.Tie.{AttemptsSo, is_for}
use Rattle.proof_hearing.specs.proof_choice.proof_giving.Told.{LeavesAttempts, attempts_so_far}
use Rattle.proof_hearing.specs.proof_choice.proof_giving.Walking.{gives_up_well}
use Rattle.proof_hearing.proofs.Opening.{OpenLast, open_last}
use Rattle.proof_hearing.proofs.Told.{each_is}
use Rattle.proof_hearing.specs.proof_queue.proof_attempts.Attempts.{IsSign, begun_of}
use Rattle.proof_hearing.specs.proof_queue.proof_attempts.proof_requests.law_host.Course.{Course, each_in_turn, with_notes, without_texts}
use Rattle.proof_hearing.specs.proof_queue.proof_attempts.proof_requests.law_host.Ends.{done_notes, ends_badly, ends_sealing, ends_without, failed_notes, given_up_notes, gives_up, sleep_notes, to_give_up_by_end}
use Rattle.proof_hearing.specs.proof_queue.proof_attempts.proof_requests.law_host.Following.{is_note}
use Rattle.proof_hearing.specs.proof_queue.proof_attempts.proof_requests.law_host.Heard.{heeds_alone}
use Rattle.proof_hearing.specs.proof_choice.proof_ends.Ends.{GivesUp}
use Rattle.proof_hearing.specs.proof_choice.proof_following.Ended.{GaveUp, GoneOf}
use Rattle.proof_hearing.specs.proof_choice.proof_following.Quiet.{ended_silently}
use Rattle.proof_hearing.proofs.Ending.{sealing_due}
use Rattle.proof_hearing.proofs.proof_ends_Noting.{NodesSo, gives_up_so}
use Rattle.proof_noting.proofs.Quietly.{none_by_end}

-- ---- notes

asleep_leaves : (fell : Bool) (n : ℕ) → AllByRecursion LeavesAttempts (asleep_entry fell n)
asleep_leaves true n = (tt, tt)
asleep_leaves false n = tt

neighbours_leaves : (n : ℕ) (how : How) → AllByRecursion LeavesAttempts (neighbours_entry n how)
neighbours_leaves n (AtResponse (GetRoutingInfo nodes)) = (tt, tt)
neighbours_leaves n how = tt

failed_leaves : (n : ℕ) (how : How) → AllByRecursion LeavesAttempts (failed_entry n how)
failed_leaves n (AtResponse (IsFailedNode has_failed)) = (tt, tt)
failed_leaves n how = tt

-- those of the end of a task leave the attempts of all nodes
pub task_leaves : (h : HostState) (task : Task) (how : How) → AllByRecursion LeavesAttempts (task_entries h task how)
task_leaves h (Plain n payload) how = (tt, tt)
task_leaves h (NoMore n) how = asleep_leaves (falls_asleep (node_of h n)) n
task_leaves h (Second n) how = (tt, tt)
task_leaves h (Neighbours n) how = neighbours_leaves n how
task_leaves h (IsFailed n) how = failed_leaves n how
task_leaves h task how = tt

-- no node joins by notes
lines_on : (past : List Entry) (e : Entry) → is_note e ≡ true → lines_done (past ++ e ∷ []) ≡ lines_done past
lines_on past (entry.Said words) is = absurd (let bad : false ≡ true = is in cc)
lines_on past (entry.Refused refusal) is = absurd (let bad : false ≡ true = is in cc)
lines_on past e is = ap doing_lines (folded-append doing_step (record { earlier = []; last = [] }) past (e ∷ [])) ∙ append-nil (lines_done past)

pub notes_joined : (past told : List Entry) → AllByRecursion (λ e. is_note e ≡ true) told → joined (past ++ told) ≡ joined past
notes_joined past [] all = ap joined (append-nil past)
notes_joined past (e ∷ told) all =
    ap joined (sym (append_assoc past (e ∷ []) told)) ∙ notes_joined (past ++ e ∷ []) told all.1 ∙ ap (λ (l : List Line). 2 ∷ flat_map join_of l) (lines_on past e all.0)

-- ---- entries after others

each_later : (Law : List Entry → Entry → Type 0) (past told later : List Entry) → EachAfter Law past (told ++ later) → EachAfter Law (past ++ told) later
each_later Law past [] later all = subst (λ (l : List Entry). EachAfter Law l later) (sym (append-nil past)) all
each_later Law past (e ∷ told) later all =
    subst (λ (l : List Entry). EachAfter Law l later) (append_assoc past (e ∷ []) told) (each_later Law (past ++ e ∷ []) told later all.1)

-- ---- the end of a request with nothing to note

module _ (heeds : Heeds) (past : List Entry) (now : ℕ) where
  quietly : (sent : List Carried) (c : Course) → c.due ≡ [] → AllByRecursion (λ (one : Carried). to_give_up_by_end heeds past now one.node ≡ []) sent
      → each_in_turn (ends_badly heeds past now) sent c ≡ each_in_turn ends_sealing sent c
  quietly [] c none all = refl
  quietly (one ∷ sent) c none all =
      ap (λ (d : Course). each_in_turn (ends_badly heeds past now) sent d) same ∙ quietly sent (ends_sealing one c) (sealing_due one c ∙ none) all.1
    where
      at : past ++ (ends_sealing one c).due ≡ past
      at = ap (λ (l : List Entry). past ++ l) (sealing_due one c ∙ none) ∙ append-nil past

      same : ends_badly heeds past now one c ≡ ends_sealing one c
      same = ap (λ (l : List ℕ). each_in_turn (gives_up past one.node) l (ends_sealing one c)) (ap (λ (l : List Entry). to_give_up_by_end heeds l now one.node) at ∙ all.0)

  pub quiet_end : (how : HowDone) (c : Course) → c.due ≡ [] → errand heeds.listing past ≡ [] → sleep_notes past ≡ [] → node_interviewed (request_last past) ≡ []
      → AllByRecursion (λ (one : Carried). to_give_up_by_end heeds past now one.node ≡ []) (sending_in (asked past).frame) → ends_without heeds past now how c ≡ ended_silently past c
  quiet_end how c none errands sleeps interviews sent =
      ap (λ (l : List Entry). each_in_turn (ends_badly heeds past now) (sending_in (asked past).frame) (with_notes l (record c { over = true }))) notes
      ∙ ap (λ (l : List Entry). each_in_turn (ends_badly heeds past now) (sending_in (asked past).frame) (record c { over = true; due = l })) (append-nil c.due)
      ∙ quietly (sending_in (asked past).frame) (record c { over = true }) none sent
    where
      notes : done_notes heeds past how ++ sleep_notes past ++ failed_notes past ≡ []
      notes =
          ap₂ (λ (a b : List Entry). a ++ b) (ap₂ (λ (a b : List Entry). a ++ b) (ap (map (λ (node : ℕ). entry.Done node how)) errands) sleeps)
          (ap (map entry.InterviewFailed) interviews)

  -- what was sent has ended badly: the command is given up, or not
  pub gave : (one : Carried) (c : Course) (outcome : List Entry) → GoneOf (to_give_up_by_end heeds (past ++ c.due) now one.node) (past ++ c.due) one.node outcome
      → GaveUp (ends_sealing one c) one.node outcome (ends_badly heeds past now one c)
  gave one c outcome (inl (none, nothing)) =
      inl (
        nothing,
        ap (λ (l : List ℕ). each_in_turn (gives_up past one.node) l (ends_sealing one c)) (ap (λ (l : List Entry). to_give_up_by_end heeds (past ++ l) now one.node) (sealing_due one c) ∙ none),
      )
  gave one c outcome (inr (command, is_one, is)) =
      inr
      (ap (λ (l : List ℕ). each_in_turn (gives_up past one.node) l (ends_sealing one c)) (ap (λ (l : List Entry). to_give_up_by_end heeds (past ++ l) now one.node) (sealing_due one c) ∙ is_one)
      ∙ ap (λ (l : List Entry). without_texts one.node (with_notes l (ends_sealing one c))) (ap (λ (l : List Entry). given_up_notes (past ++ l) one.node command) (sealing_due one c) ∙ sym is))

-- ---- which commands are to be given up

pub runs_or : (s : NodeState) → is_running s.series ≡ true → s.series ≡ Running
runs_or s is = by s.series refl is
  where
    by : (x : Series) → s.series ≡ x → is_running x ≡ true → s.series ≡ Running
    by Idle same is = absurd (let bad : false ≡ true = is in cc)
    by Due same is = absurd (let bad : false ≡ true = is in cc)
    by Running same is = same

module _ (taken : List Entry → Carried → List Told) where
  abbrev heeds : Heeds
  heeds = heeds_alone taken

  abbrev so_far : ℕ → List Entry → Attempts
  so_far n past = attempts_so_far heeds n past

  -- none where no third attempt has begun
  pub few_none : (later : List Entry) (now n : ℕ) → (so_far n later).begun ≤ 2 → to_give_up heeds later now n ≡ []
  few_none later now n few =
      ap (λ (l : List Attempts). if is_open n later && list_any (third_is_over heeds later now) l then last_command n later else []) (each_is heeds (n ∷ []) later)
      ∙ ap (λ (b : Bool). if is_open n later && (b || false) then last_command n later else [])
      (and_left ((so_far n later).begun == 3) (attempt_is_over heeds later (asked later) now (so_far n later)) (ne_eqb (so_far n later).begun 3 (λ three. absurd (omega (arith, few, three)))))
      ∙ by (is_open n later)
    where
      by : (b : Bool) → (if b && false then last_command n later else []) ≡ []
      by true = refl
      by false = refl

  -- by the end of the request, where it is of no attempt of the node, or is
  pub by_own : (later : List Entry) (now n : ℕ) (own : Bool) → (so_far n later).own ≡ own → to_give_up_by_end heeds later now n ≡ (if own || false then to_give_up heeds later now n else [])
  by_own later now n own is =
      ap (λ (l : List Attempts). if list_any (λ attempts. attempts.own) l then to_give_up heeds later now n else []) (each_is heeds (n ∷ []) later)
      ∙ ap (λ (b : Bool). if b || false then to_give_up heeds later now n else []) is

  -- ---- of a node whose attempts are as they are told

  module _ (n : ℕ) (past : List Entry) (h : HostState) (facts : NodeFacts (node_of h n)) (time at : ℕ) (so : AttemptsSo heeds n past h time at) where
    abbrev s : NodeState
    s = node_of h n

    begun_by : (x : Series) → s.series ≡ x → (so_far n past).begun ≡ begun_of x s.book.attempts
    begun_by x is = so.node.are.begun ∙ ap (λ (y : Series). begun_of y s.book.attempts) is

    pub few_idle : is_running s.series ≡ false → (so_far n past).begun ≤ 2
    few_idle none = by s.series refl none facts.series
      where
        by : (x : Series) → s.series ≡ x → is_running x ≡ false → SeriesFacts x s.book s.attempt_wait s.again_wait s.next_segment s.segments s.text s.pending → (so_far n past).begun ≤ 2
        by Idle is none f = let none_begun = begun_by Idle is in omega (arith, none_begun)
        by Due is none f = let few = f.0.fewer in let begun = begun_by Due is in omega (arith, few, begun)
        by Running is none f = absurd (let bad : true ≡ false = none in cc)

    few_again : s.series ≡ Running → nat_lt (s.book.attempts + 1) 3 ≡ true → (so_far n past).begun ≤ 2
    few_again is few = let most = ltb-true (s.book.attempts + 1) 3 few in let begun = begun_by Running is in omega (arith, most, begun)

    -- a request that is not of its attempt gives nothing up
    pub task_none : (u : UnderWay) → h.requests.under_way ≡ Some u → is_for n u.purpose ≡ false → (later : List Entry) (now : ℕ) → so_far n later ≡ so_far n past → to_give_up_by_end heeds later now n ≡ []
    task_none u under other later now same = by (is_running s.series) refl
      where
        by : (b : Bool) → is_running s.series ≡ b → to_give_up_by_end heeds later now n ≡ []
        by true is = by_own later now n false (ap (λ (a : Attempts). a.own) same ∙ so.own (runs_or s is) u under ∙ other)
        by false is = none_by_end taken later now n (few_none later now n (subst (λ (a : Attempts). a.begun ≤ 2) (sym same) (few_idle is)))

  -- ---- by the law of what counts as unanswered

  module _ (past told : List Entry) (h : HostState) (facts : Facts past h) (n : ℕ) (shows : ShowsSessions heeds past h n) (law : KeepsAfter [] (gives_up_well heeds) (past ++ told)) (gives : GivesUp past n told) where
    to_give : is_to_give_up heeds past gives.1 ≡ true
    to_give = (subst (λ (l : List Entry). EachAfter (λ past e. gives_up_well heeds past e ≡ true) past l) gives.3 (each_later (λ past e. gives_up_well heeds past e ≡ true) [] past told law)).0

    some_open : (o : Option ℕ) → o ≡ None → is_some o ≡ true → ⊥
    some_open None none some = let bad : false ≡ true = some in cc
    some_open (Some session) none some = let bad : Some session ≡ None = none in cc

    -- the command is of the node
    pub shown_node : shown (node_at gives.1) past ≡ n ∷ []
    shown_node = by (open_last (node_of h n))
      where
        by : ((open_session (node_of h n).book ≡ None) × (open_command (node_of h n) ≡ None)) ⊎ OpenLast (node_of h n) → shown (node_at gives.1) past ≡ n ∷ []
        by (inl none) = absurd (some_open (open_session (node_of h n).book) none.0 (sym shows.opened ∙ gives.0))
        by (inr at) =
            let same : at.command ≡ gives.1 = let both : at.command ∷ [] ≡ gives.1 ∷ [] = sym at.last ∙ sym shows.last ∙ gives.2 in cc in
            let all : AllByRecursion (IsCommandOf h.commands n) (at.front ++ at.command ∷ [])
            = subst (λ (l : List ℕ). AllByRecursion (IsCommandOf h.commands n) l) at.are (recursion_from_All (IsCommandOf h.commands n) (node_of h n).book.commands (facts.host.owns n).sessions) in
            let of = (all-right (IsCommandOf h.commands n) at.front (at.command ∷ []) all).0 in
            ap (λ (k : ℕ). shown (node_at k) past) (sym same) ∙ facts.accepted.nodes at.command ∙ ap nodes_by of.found ∙ ap (λ (k : ℕ). k ∷ []) of.node

    pub given_up : to_give_up heeds past (clock past) n ≡ gives.1 ∷ []
    given_up =
        chosen (is_open n past && list_any (third_is_over heeds past (clock past)) (serving heeds (n ∷ []) past).each)
        (only (list_any (λ number. number == gives.1) (to_give_up heeds past (clock past) n))
        (sym (ap (λ (l : List ℕ). list_any (λ node. list_any (λ number. number == gives.1) (to_give_up heeds past (clock past) node)) l) shown_node) ∙ to_give))
      where
        only : (b : Bool) → (b || false) ≡ true → b ≡ true
        only true is = refl
        only false is = is

        chosen : (b : Bool) → list_any (λ number. number == gives.1) (if b then last_command n past else []) ≡ true → (if b then last_command n past else []) ≡ gives.1 ∷ []
        chosen true is = gives.2
        chosen false is = absurd (let bad : false ≡ true = is in cc)

  -- ---- where a part of an attempt ends badly

  module _ (past : List Entry) (h : HostState) (facts : Facts past h) (nodes : NodesSo past h) (n : ℕ) (is_node : IsNode n) (shows : ShowsSessions heeds past h n) (time at : ℕ) (so : AttemptsSo heeds n past h time at)
      (u : UnderWay) (under : h.requests.under_way ≡ Some u) (own : is_for n u.purpose ≡ true) where
    abbrev ended_notes : List Entry
    ended_notes = attempt_entries n (attempt_end (node_of h n)) (open_command (node_of h n))

    pub attempt_gone : KeepsAfter [] (gives_up_well heeds) (past ++ ended_notes) → GoneOf (to_give_up_by_end heeds past (clock past) n) past n ended_notes
    attempt_gone law = by (is_running (node_of h n).series) (nat_lt ((node_of h n).book.attempts + 1) 3) refl refl
      where
        none : (so_far n past).begun ≤ 2 → attempt_entries n (attempt_end (node_of h n)) (open_command (node_of h n)) ≡ [] → GoneOf (to_give_up_by_end heeds past (clock past) n) past n ended_notes
        none few nothing = inl (none_by_end taken past (clock past) n (few_none past (clock past) n few), nothing)

        by : (runs few : Bool) → is_running (node_of h n).series ≡ runs → nat_lt ((node_of h n).book.attempts + 1) 3 ≡ few → GoneOf (to_give_up_by_end heeds past (clock past) n) past n ended_notes
        by false few idle less =
            none (few_idle n past h (facts.host.nodes.facts n) time at so idle)
            (ap (λ (b : Bool). attempt_entries n (if b then (if nat_lt ((node_of h n).book.attempts + 1) 3 then Again else Unanswered (falls_asleep (node_of h n))) else NoneRan) (open_command (node_of h n))) idle)
        by true true runs less =
            none (few_again n past h (facts.host.nodes.facts n) time at so (runs_or (node_of h n) runs) less)
            (ap₂ (λ (b c : Bool). attempt_entries n (if b then (if c then Again else Unanswered (falls_asleep (node_of h n))) else NoneRan) (open_command (node_of h n))) runs less)
        by true false runs less =
            let ends : ended_notes ≡ attempt_entries n (Unanswered (falls_asleep (node_of h n))) (open_command (node_of h n))
            = ap₂ (λ (b c : Bool). attempt_entries n (if b then (if c then Again else Unanswered (falls_asleep (node_of h n))) else NoneRan) (open_command (node_of h n))) runs less in
            let gives : GivesUp past n ended_notes = gives_up_so past h nodes ended_notes n (falls_asleep (node_of h n)) is_node (refl, runs) ends in
            inr (
              gives.1,
              by_own past (clock past) n true (so.own (runs_or (node_of h n) runs) u under ∙ own) ∙ given_up past ended_notes h facts n shows law gives,
              gives.3,
            )

-- ---- a wait that is over

-- the last sign is 100 ticks ago then
pub late_now : (told : Attempts) (wait time now : ℕ) → time + 1 ≡ now → wait ≡ 1 → IsSign told.sign time wait → is_late now told ≡ true
late_now told wait time now next one so = by told.sign refl so
  where
    by : (sign : List ℕ) → told.sign ≡ sign → IsSign sign time wait → is_late now told ≡ true
    by [] is none = absurd (omega (arith, one, none))
    by (tick ∷ more) is (alone, some, at) =
        or_right told.over (list_any (λ k. nat_le (k + 100) now) told.sign)
        (ap (λ (l : List ℕ). list_any (λ k. nat_le (k + 100) now) l) is ∙ or_left (nat_le (tick + 100) now) _ (le-leb (tick + 100) now (omega (arith, next, one, at))))
