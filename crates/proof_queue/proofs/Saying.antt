-- What is known of what waits goes on with the words of a line, with what it asks, where it is refused, and where the host starts again.
use Rattle.std.proofs.Common.{◌≡◌, ◌⊎◌, ◌≤◌, ℕ, ◌+◌, ◌&&◌, Bool, true, false, if◌then◌else◌, inl, inr, length, List, [], ◌∷◌, ◌++◌, map, refl, sym, ap, ◌∙◌, subst, append-nil, append_assoc}
use Rattle.std.specs.Prelude.{Option, IsSome, unwrap_or}
use Rattle.std.specs.List.{AllByRecursion, flat_map}
use Rattle.zw_text.specs.declared.line.Line.{Line}
use Rattle.zw_text.specs.declared.line.Line.TheVariants as lines
use Rattle.zw_text.specs.declared.entry.Refusal.{Refusal}
use Rattle.zw_text.specs.declared.entry.Entry.{Entry}
use Rattle.zw_text.specs.declared.entry.Entry.TheVariants as entry
use Rattle.zw_text.specs.Transcript.{line_last, line_of}
use Rattle.host_heard.specs.declared.told.Told.{Told}
use Rattle.law_transcript.specs.Restarts.{is_restart}
use Rattle.law_transcript.specs.Units.{Carried}
use Rattle.law_time.specs.Wants.{wants_of}
use Rattle.law_time.specs.Queue.{Queue, may_queue, no_queue, queue_before}
use Rattle.serial_link.specs.State.{Side}
use Rattle.host_requests.specs.State.{RequestsState}
use Rattle.host_requests.specs.declared.task.Task.{Task}
use Rattle.host_model.specs.State.{HostState}
use Rattle.host_model.specs.After.{after}
use Rattle.host_model.specs.Did.{MayAll}
use Rattle.host_model.specs.Events.{HostEvent, Accepts, Cancels}
use Rattle.host_model.specs.Outs.{answers, outs}
use Rattle.proof_attempts.specs.world_model.Events.{OpensFrom}
use Rattle.proof_attempts.specs.world_model.Refusals.{IsRefused}
use Rattle.proof_attempts.specs.proof_work.Work.{HostWork}
use Rattle.proof_attempts.specs.proof_requests.law_host.Heard.{heeds_alone, is_of_others, is_refusal_of_others, listing_heard}
use Rattle.proof_attempts.specs.proof_requests.proof_alone.State.{HostMachine, done, with_world}
use Rattle.proof_attempts.specs.proof_requests.proof_alone.Steps.{AreTold, AsksNothing, IsAskedBy, Says, Says_nothing, happens}
use Rattle.proof_attempts.specs.proof_requests.proof_alone.Phases.{Resting, Asked, Open}
use Rattle.proof_attempts.specs.proof_requests.proof_alone.Careful.{Stage, Fresh, Reading, Read, Looked, Judging}
use Rattle.proof_attempts.proofs.Counting.{each_starts}
use Rattle.proof_attempts.proofs.Queueing.{opened_asks}
use Rattle.proof_attempts.proofs.Stepping.{asked_on, none_on}
use Rattle.proof_queue.specs.Sleeping.{is_dropped}
use Rattle.proof_queue.specs.Waiting.{Fits, queue_of, want_of_task}
use Rattle.proof_queue.proofs.Asking.{Lists, anew_ties, asked_rooms, asked_wants, nothing_wanted, refused_queue, refused_stands, said_ties}
use Rattle.proof_queue.proofs.Books.{last_line, no_line}
use Rattle.proof_queue.proofs.Closing.{close_raw, none_wanting}
use Rattle.proof_queue.proofs.Dropping.{IsNoPump, event_drops}
use Rattle.proof_queue.proofs.Knowing.{Know, RawM, UptoM, WaitsBefore}
use Rattle.proof_queue.proofs.Loose.{Still, and_true, loose_raw}
use Rattle.proof_queue.proofs.Refused.{line_refused}
use Rattle.proof_queue.proofs.Seeing.{Sights, said_at, view, worked}
use Rattle.proof_queue.proofs.Sleeps.{Stands, drops_of}
use Rattle.proof_queue.proofs.Ties.{Raw, Stand, TiesSo, allowed, before_seen, one_more, seen}

answers_still : (h : HostState) (event : HostEvent) → AllByRecursion Still (answers h event)
answers_still h (Accepts order carriage) = (tt, tt)
answers_still h (Cancels command) = (tt, tt)
answers_still h event = tt

-- what a line asks for drops nothing, and brings back nothing that was
one_kept : (h : HostState) (event these : HostEvent) → event ≡ these → HostWork h → IsNoPump these → AreTold (outs h these) [] → (n : ℕ) → 1 ≤ n → n ≤ 232 → drops_of h n ≡ drops_of (after h event) n
one_kept h event these is work no_pump are n from to =
    subst (λ (e : HostEvent). drops_of h n ≡ drops_of (after h e) n) (sym is) (and_true (drops_of h n) ∙ sym (event_drops h these [] work no_pump are n from to))

asked_kept : (line : Line) (h : HostState) (event : HostEvent) → HostWork h → IsAskedBy line h event → (n : ℕ) → 1 ≤ n → n ≤ 232 → drops_of h n ≡ drops_of (after h event) n
asked_kept (lines.Command order) h event work is = one_kept h event _ is work tt refl
asked_kept (lines.Send node word) h event work is = one_kept h event _ is.1 work tt refl
asked_kept (lines.Get node end) h event work is = one_kept h event _ is.1 work tt refl
asked_kept (lines.Join node) h event work is = one_kept h event _ is work tt refl
asked_kept (lines.Interview node) h event work is = one_kept h event _ is.1 work tt refl
asked_kept (lines.Cancel command) h event work is = one_kept h event _ is work tt refl
asked_kept lines.Discover h event work is = one_kept h event _ is.1 work tt refl
asked_kept (lines.Neighbours node) h event work is = one_kept h event _ is.1 work tt refl
asked_kept (lines.Failed node) h event work is = one_kept h event _ is.1 work tt refl
asked_kept lines.Probe h event work is = one_kept h event _ is.1 work tt refl
asked_kept line h event work is = absurd is

module _ (taken : List Entry → Carried → List Told) where
  -- ---- words

  -- where a line may be said none is to sleep, so a look finds nothing
  pub rested : (stage : Stage) (past : List Entry) (m : HostMachine) → Sights Resting past m → Know taken Resting stage past m → UptoM taken past m
  rested stage past m sights known = by stage known
    where
      close : RawM taken past m → UptoM taken past m
      close (now, ties) = close_raw taken past m.clock m.state m.awaits (view Resting past m tt sights) (none_wanting m.state (worked Resting past m tt sights).1.told) now ties

      by : (stage : Stage) → Know taken Resting stage past m → UptoM taken past m
      by Fresh raw = close raw
      by Reading raw = close raw
      by Read ties = ties
      by Looked ties = ties
      by Judging never = absurd never

  module _ (past : List Entry) (m : HostMachine) (words : List ℕ) (none : m.left ≡ 0) (sights : Sights Resting past m) (ties : UptoM taken past m) where
    abbrev said : Entry
    said = entry.Said words

    looks : queue_before (heeds_alone taken) past said ≡ seen taken m.clock past
    looks = before_seen taken past said m.clock refl (said_at Resting past m sights none)

    stands : Stands (queue_before (heeds_alone taken) past said) m.state.requests.queue [] (drops_of m.state)
    stands = subst (λ (q : Queue). Stands q m.state.requests.queue [] (drops_of m.state)) (sym looks) ties.stands

    may_say : Fits (heeds_alone taken) past said
    may_say = record { queues = inr (allowed taken past said ties.answered stands.owed_are); goes = refl }

    pub says : (line : Line) → line_of said ≡ line ∷ [] → Stand taken past (said ∷ []) × Know taken (Asked line) Fresh (past ++ said ∷ []) (happens m (Says words line))
    says line read = (
      (may_say, tt),
      record {
        before = past;
        words = words;
        are = refl;
        read = read;
        unnumbered = refl;
        lists = λ node. ap (λ (o : Option (List ℕ)). unwrap_or o []) (sym (sights.heard node));
        stands = stands;
      },
    )

    pub says_nothing : line_of said ≡ [] → Stand taken past (said ∷ []) × Know taken Resting Reading (past ++ said ∷ []) (happens m (Says_nothing words))
    says_nothing read = (
      (may_say, tt),
      (
        refl,
        record {
          stands = subst (λ (q : Queue). Stands q m.state.requests.queue [] (drops_of m.state))
              (sym (one_more taken past said refl
              ∙ ap (λ (ls : List Line). if is_restart ls && true then no_queue else record q { wants = q.wants ++ flat_map (wants_of listing_heard past) ls }) read))
              (record { wants_are = append-nil q.wants ∙ stands.wants_are; owed_are = stands.owed_are; dropped = stands.dropped });
          answered = no_line (heeds_alone taken) past said read;
        },
      ),
    )
      where
        q : Queue
        q = queue_before (heeds_alone taken) past said

  -- ---- what a line asks

  on_words : (line : Line) (past : List Entry) (m : HostMachine) (tasks : List Task) (kept : ℕ → Bool) → is_restart (line ∷ []) ≡ false
      → ((before : List Entry) → Lists before m.state → map want_of_task tasks ≡ map want_of_task m.state.requests.queue ++ wants_of listing_heard before line)
      → ((before : List Entry) → (length (wants_of listing_heard before line) ≡ 0) ⊎ (length m.state.requests.queue + length (wants_of listing_heard before line) ≤ 64))
      → ((n : ℕ) → 1 ≤ n → n ≤ 232 → drops_of m.state n ≡ kept n) → WaitsBefore taken line past m → Raw taken past tasks [] kept
  on_words line past m tasks kept goes wants rooms same k =
      subst (λ (l : List Entry). TiesSo (heeds_alone taken) (queue_of (heeds_alone taken) l) l tasks [] kept) (sym k.are)
      (said_ties taken k.before k.words line m.state (drops_of m.state) k.read k.stands tasks kept goes (wants k.before k.lists) (rooms k.before) same)

  -- one that wants nothing
  pub on_nothing : (line : Line) (past : List Entry) (m : HostMachine) → is_restart (line ∷ []) ≡ false → ((before : List Entry) → wants_of listing_heard before line ≡ []) → WaitsBefore taken line past m
      → RawM taken past m
  on_nothing line past m goes nothing k = (
    k.unnumbered,
    on_words line past m m.state.requests.queue (drops_of m.state) goes
        (λ before lists.
        sym (append-nil (map want_of_task m.state.requests.queue)) ∙ sym (ap (λ (l : List (List ℕ)). map want_of_task m.state.requests.queue ++ l) (nothing before)))
        (λ before. inl (ap (λ (l : List (List ℕ)). length l) (nothing before))) (λ n from to. refl) k,
  )

  pub asks : (line : Line) (stage : Stage) (past : List Entry) (m : HostMachine) (event : HostEvent) → IsAskedBy line m.state event → MayAll m.state (event ∷ []) → Sights (Asked line) past m
      → Know taken (Asked line) stage past m → Stand taken past (answers m.state event) × Know taken Open stage (past ++ answers m.state event) (done m event)
  asks line Fresh past m event is may sights k =
      let goes = loose_raw taken past (answers m.state event) (after m.state event).requests.queue (drops_of (after m.state event)) (answers_still m.state event)
      (on_words line past m (after m.state event).requests.queue (drops_of (after m.state event)) (asked_on line m.state event is) (λ before lists. asked_wants line before m.state event lists is)
      (λ before. asked_rooms line before m.state event is may.0) (asked_kept line m.state event sights.sleep.0.0.0.0.0.0.0.1.tie.0 is) k) in
      (goes.0, inl (k.unnumbered, goes.1))
  asks line stage past m event is may sights known = absurd known

  pub refuses : (line : Line) (stage : Stage) (past : List Entry) (m : HostMachine) (r : Refusal) → (IsRefused (with_world m) line r ⊎ (is_of_others (line ∷ []) ≡ true)) → Know taken (Asked line) stage past m
      → Stand taken past (entry.Refused r ∷ []) × Know taken Open stage (past ++ entry.Refused r ∷ []) m
  refuses line Fresh past m r refused k = ((record { queues = by refused; goes = refl }, tt), inl (k.unnumbered, ties))
    where
      by : IsRefused (with_world m) line r ⊎ (is_of_others (line ∷ []) ≡ true) → (is_refusal_of_others (line_last past) (entry.Refused r) ≡ true) ⊎ (may_queue (heeds_alone taken) past (entry.Refused r) ≡ true)
      by (inl is) =
          inr (subst (λ (l : List Entry). may_queue (heeds_alone taken) l (entry.Refused r) ≡ true) (sym k.are)
          (refused_stands taken k.before k.words line m.state (drops_of m.state) k.read k.stands r (line_refused (with_world m) k.before line r is)))
      by (inr others) = inl (ap is_of_others (ap line_last k.are ∙ last_line k.before (entry.Said k.words) ∙ k.read) ∙ others)

      ties : Raw taken (past ++ entry.Refused r ∷ []) m.state.requests.queue [] (drops_of m.state)
      ties = record {
        stands = subst (λ (l : List Entry). Stands (queue_of (heeds_alone taken) (l ++ entry.Refused r ∷ [])) m.state.requests.queue [] (drops_of m.state)) (sym k.are)
            (subst (λ (l : List Entry). Stands (queue_of (heeds_alone taken) l) m.state.requests.queue [] (drops_of m.state)) (sym (append_assoc k.before (entry.Said k.words ∷ []) (entry.Refused r ∷ [])))
            (subst (λ (q : Queue). Stands q m.state.requests.queue [] (drops_of m.state)) (sym (refused_queue taken k.before k.words line m.state (drops_of m.state) k.read k.stands r)) k.stands));
        answered = no_line (heeds_alone taken) past (entry.Refused r) refl;
      }
  refuses line stage past m r refused known = absurd known

  -- values are shown
  pub shows : (node : ℕ) (stage : Stage) (past : List Entry) (m : HostMachine) (e : Entry) → Still e → Know taken (Asked (lines.Store node)) stage past m
      → Stand taken past (e ∷ []) × Know taken Open stage (past ++ e ∷ []) m
  shows node Fresh past m e still k =
      let (now, ties) = on_nothing (lines.Store node) past m refl (λ before. refl) k in
      let goes = loose_raw taken past (e ∷ []) m.state.requests.queue (drops_of m.state) (still, tt) ties in (goes.0, inl (now, goes.1))
  shows node stage past m e still known = absurd known

  -- a host that starts has nothing in its queue, and no node that was told
  pub restarts : (stage : Stage) (past : List Entry) (m : HostMachine) (state : HostState) → IsSome m.records → OpensFrom m.keys m.records state → Know taken (Asked lines.Restart) stage past m
      → Know taken Open stage (past ++ []) (record m { state = state; came = [] })
  restarts Fresh past m state told opens k =
      let empty : state.requests.queue ≡ [] = ap (λ (p : Side × RequestsState). p.1.queue) (opened_asks m.keys m.records state told opens) in
      inl (
        k.unnumbered,
        subst (λ (l : List Entry). Raw taken l state.requests.queue [] (drops_of state)) (sym (append-nil past))
            (subst (λ (l : List Entry). TiesSo (heeds_alone taken) (queue_of (heeds_alone taken) l) l state.requests.queue [] (drops_of state)) (sym k.are)
            (anew_ties taken k.before k.words lines.Restart m.state (drops_of m.state) k.read k.stands state.requests.queue (drops_of state) refl refl empty
            (λ n from to. each_starts (λ s. is_dropped s.no_more ≡ false) (λ s. refl) (λ s. refl) refl m.keys m.records state told opens n from))),
      )
  restarts stage past m state told opens known = absurd known

  -- a line that asks for nothing, or for ticks
  pub nothing_asked : (line : Line) (stage : Stage) (past : List Entry) (m : HostMachine) → AsksNothing line → Know taken (Asked line) stage past m → Know taken Open stage past m
  nothing_asked line Fresh past m nothing k = inl (on_nothing line past m (none_on line nothing) (λ before. nothing_wanted line before nothing) k)
  nothing_asked line stage past m nothing known = absurd known

  pub only_ticks : (line : Line) (stage : Stage) (past : List Entry) (m : HostMachine) (ticks : ℕ) → line ≡ lines.Tick ticks → Know taken (Asked line) stage past m → Know taken Resting stage past m
  only_ticks line Fresh past m ticks is k =
      on_nothing line past m (ap (λ (l : Line). is_restart (l ∷ [])) is) (λ before. ap (λ (l : Line). wants_of listing_heard before l) is) k
  only_ticks line stage past m ticks is known = absurd known
