-- How much of what lines asked for has ended and is among a host's tasks, after further entries and events: of errands and of interviews alike.
use Rattle.std.proofs.Common.{◌≡◌, ℕ, ◌+◌, true, false, List, [], ◌∷◌, ◌++◌, length, refl, sym, ap, ap₂, ◌∙◌, subst, append-nil, length-append, arith}
use Rattle.std.specs.List.{AllByRecursion, flat_map}
use Rattle.std.proofs.lemmas.Grind.{flat_map-append}
use Rattle.zw_base.proofs.Each.{all-weaker}
use Rattle.zw_text.specs.declared.line.Line.{Line}
use Rattle.zw_text.specs.declared.line.Line.TheVariants as lines
use Rattle.zw_text.specs.declared.entry.Refusal.{Refusal}
use Rattle.zw_text.specs.declared.entry.Entry.{Entry}
use Rattle.zw_text.specs.declared.entry.Entry.TheVariants as entry
use Rattle.zw_text.specs.Transcript.{Doing, doing_lines, doing_step, line_of, lines_done, shown}
use Rattle.zw_text.proofs.Views.{folded-append, shown-append}
use Rattle.host_requests.specs.declared.task.Task.{Task}
use Rattle.host_model.specs.State.{HostState}
use Rattle.host_model.specs.May.{May}
use Rattle.host_model.specs.After.{after}
use Rattle.host_model.specs.Events.{HostEvent, Queues, Queues_interview}
use Rattle.host_model.specs.Outs.{answers, outs}
use Rattle.proof_nonces.specs.proof_work.Doing.{IsDone}
use Rattle.proof_nonces.specs.proof_work.Tasks.{added, ended, tasks_of}
use Rattle.proof_nonces.specs.proof_work.law_transcript.Restarts.{is_restart, since_restart}
use Rattle.proof_nonces.specs.proof_work.proof_host.Entries.{entries_at, notes_of}
use Rattle.proof_nonces.specs.proof_attempts.proof_requests.proof_alone.Steps.{AreTold, AsksNothing, IsAskedBy}
use Rattle.proof_nonces.proofs.Events.{told_shown}
use Rattle.proof_nonces.proofs.Telling.{done_more}
use Rattle.proof_nonces.proofs.proof_alone_Apart.{AreOfLine}
use Rattle.proof_nonces.proofs.Apart.{IsWordless, said_anew, said_in_vain, said_on, wordless_more}
use Rattle.proof_rests.specs.Known.{AreCounted, Wanted, asked_since, ended_since, left_among}
use Rattle.proof_rests.proofs.Entries.{IsAside, aside_later, later_wordless}

-- what proof_work says of tasks: those that ended and are left are those that were there and were added
abbrev pub TasksGo : Type 0
TasksGo = (h : HostState) (event : HostEvent) → IsDone event → May h event → ended h event ++ tasks_of (after h event).requests ≡ tasks_of h.requests ++ added h event

-- it is of no line
abbrev pub IsUnqueued : HostEvent → Type 0
IsUnqueued (Queues task) = ⊥
IsUnqueued (Queues_interview n) = ⊥
IsUnqueued event = Unit {0}

-- ---- lines

abbrev nothing : Doing
nothing = record { earlier = []; last = [] }

said_lines : (since : List Entry) (words : List ℕ) → lines_done (since ++ entry.Said words ∷ []) ≡ lines_done since ++ line_of (entry.Said words)
said_lines since words = ap doing_lines (folded-append doing_step nothing since (entry.Said words ∷ []))

vain_lines : (since : List Entry) (words : List ℕ) (refusal : Refusal) → lines_done (since ++ entry.Said words ∷ (entry.Refused refusal ∷ [])) ≡ lines_done since
vain_lines since words refusal = ap doing_lines (folded-append doing_step nothing since (entry.Said words ∷ (entry.Refused refusal ∷ []))) ∙ append-nil (lines_done since)

-- ---- tasks

module _ {A B : Type 0} (wanted : Wanted A B) where
  tasks_joined : (first more : List Task) → length (flat_map wanted.among (first ++ more)) ≡ length (flat_map wanted.among first) + length (flat_map wanted.among more)
  tasks_joined first more = ap (λ (l : List B). length l) (flat_map-append wanted.among first more) ∙ length-append (flat_map wanted.among first) (flat_map wanted.among more)

  pub event_left : TasksGo → (h : HostState) (event : HostEvent) → IsDone event → May h event
      → length (flat_map wanted.among (ended h event)) + left_among wanted (after h event) ≡ left_among wanted h + length (flat_map wanted.among (added h event))
  event_left tasks h event done may =
      sym (tasks_joined (ended h event) (tasks_of (after h event).requests)) ∙ ap (λ (l : List Task). length (flat_map wanted.among l)) (tasks h event done may)
      ∙ tasks_joined (tasks_of h.requests) (added h event)

-- ---- of one kind

-- what is so of a kind: which entries tell of no end, that events of the host alone add nothing to its tasks, and that a line adds what it asks for
pub record IsWanted {A B : Type 0} (wanted : Wanted A B) : Type 0 where
  pub line : AreOfLine (λ e. wanted.ends e ≡ [])
  pub aside : (e : Entry) → IsAside e → wanted.ends e ≡ []
  pub words : (text : List ℕ) → wanted.ends (entry.Said text) ≡ []
  pub refused : (refusal : Refusal) → wanted.ends (entry.Refused refusal) ≡ []
  pub answered : (h : HostState) (event : HostEvent) → shown wanted.ends (answers h event) ≡ []
  pub added_none : (h : HostState) (event : HostEvent) → IsUnqueued event → length (flat_map wanted.among (added h event)) ≡ 0
  pub asks : TasksGo → (h : HostState) (event : HostEvent) → May h event → (line : Line) → IsAskedBy line h event → length (wanted.by_line line) + left_among wanted h ≡ left_among wanted (after h event)
  pub nothing_asked : (line : Line) → AsksNothing line → length (wanted.by_line line) ≡ 0
  pub stores : (node : ℕ) → length (wanted.by_line (lines.Store node)) ≡ 0
  pub ticks : (count : ℕ) → length (wanted.by_line (lines.Tick count)) ≡ 0
  pub time : (tick : ℕ) → length (shown wanted.ends (entry.Time tick ∷ [])) ≡ 0

module _ {A B : Type 0} (wanted : Wanted A B) (is : IsWanted wanted) where
  -- of entries since the host started, so many are left
  abbrev CountsTo : List Entry → ℕ → Type 0
  CountsTo since left = asked_since wanted since ≡ ended_since wanted since + left

  ends_joined : (since told : List Entry) → ended_since wanted (since ++ told) ≡ ended_since wanted since + ended_since wanted told
  ends_joined since told = ap (λ (l : List A). length l) (shown-append wanted.ends since told) ∙ length-append (shown wanted.ends since) (shown wanted.ends told)

  -- where these entries follow, so many more have ended
  counts_more : (since told : List Entry) (left more : ℕ) → AllByRecursion IsWordless told → ended_since wanted told + more ≡ left → CountsTo since left → CountsTo (since ++ told) more
  counts_more since told left more all ends counts =
      let same : asked_since wanted (since ++ told) ≡ asked_since wanted since = ap (λ (l : List Line). length (flat_map wanted.by_line l)) (done_more since told all) in
      let over = ends_joined since told in
      omega (arith, same, over, ends, counts)

  pub goes : (past told : List Entry) (h later : HostState) → AllByRecursion IsWordless told → ended_since wanted told + left_among wanted later ≡ left_among wanted h → AreCounted wanted past h
      → AreCounted wanted (past ++ told) later
  goes past told h later all ends counted =
      subst (λ (l : List Entry). CountsTo l (left_among wanted later)) (sym (wordless_more past told all))
      (counts_more (since_restart past) told (left_among wanted h) (left_among wanted later) all ends counted)

  aside_ends : (told : List Entry) → AllByRecursion IsAside told → ended_since wanted told ≡ 0
  aside_ends [] all = refl
  aside_ends (e ∷ told) all = ap (λ (l : List A). length (l ++ shown wanted.ends told)) (is.aside e all.0) ∙ aside_ends told all.1

  pub steady : (past told : List Entry) (h : HostState) → AllByRecursion IsAside told → AreCounted wanted past h → AreCounted wanted (past ++ told) h
  steady past told h all counted =
      goes past told h h (all-weaker IsAside IsWordless (λ e aside. later_wordless e (aside_later e aside)) told all) (let none = aside_ends told all in omega (arith, none)) counted

  -- ---- lines

  words_end : (since : List Entry) (words : List ℕ) → ended_since wanted (since ++ entry.Said words ∷ []) ≡ ended_since wanted since
  words_end since words =
      let joined = ends_joined since (entry.Said words ∷ []) in
      let none : ended_since wanted (entry.Said words ∷ []) ≡ 0 = ap (λ (l : List A). length (l ++ [])) (is.words words) in
      omega (arith, joined, none)

  -- the words of a line add what it asks for
  counts_said : (since : List Entry) (words : List ℕ) (left more : ℕ) → length (flat_map wanted.by_line (line_of (entry.Said words))) + left ≡ more → CountsTo since left
      → CountsTo (since ++ entry.Said words ∷ []) more
  counts_said since words left more adds counts =
      let asked : asked_since wanted (since ++ entry.Said words ∷ []) ≡ asked_since wanted since + length (flat_map wanted.by_line (line_of (entry.Said words)))
      = ap (λ (l : List Line). length (flat_map wanted.by_line l)) (said_lines since words)
      ∙ ap (λ (l : List ℕ). length l) (flat_map-append wanted.by_line (lines_done since) (line_of (entry.Said words)))
      ∙ length-append (flat_map wanted.by_line (lines_done since)) (flat_map wanted.by_line (line_of (entry.Said words))) in
      let over = words_end since words in
      omega (arith, asked, over, adds, counts)

  pub said : (past : List Entry) (words : List ℕ) (h later : HostState) → is_restart (line_of (entry.Said words)) ≡ false
      → length (flat_map wanted.by_line (line_of (entry.Said words))) + left_among wanted h ≡ left_among wanted later → AreCounted wanted past h → AreCounted wanted (past ++ entry.Said words ∷ []) later
  said past words h later goes_on adds counted =
      subst (λ (l : List Entry). CountsTo l (left_among wanted later)) (sym (said_on past words goes_on))
      (counts_said (since_restart past) words (left_among wanted h) (left_among wanted later) adds counted)

  -- those of a line that is refused add nothing
  pub in_vain : (past : List Entry) (words : List ℕ) (refusal : Refusal) (h : HostState) → AreCounted wanted past h → AreCounted wanted (past ++ entry.Said words ∷ (entry.Refused refusal ∷ [])) h
  in_vain past words refusal h counted = subst (λ (l : List Entry). CountsTo l (left_among wanted h)) (sym (said_in_vain past words refusal)) by
    where
      told : List Entry
      told = entry.Said words ∷ (entry.Refused refusal ∷ [])

      by : CountsTo (since_restart past ++ told) (left_among wanted h)
      by =
          let asked : asked_since wanted (since_restart past ++ told) ≡ asked_since wanted (since_restart past)
          = ap (λ (l : List Line). length (flat_map wanted.by_line l)) (vain_lines (since_restart past) words refusal) in
          let joined = ends_joined (since_restart past) told in
          let none : ended_since wanted told ≡ 0 = ap₂ (λ (l k : List A). length (l ++ (k ++ []))) (is.words words) (is.refused refusal) in
          omega (arith, asked, joined, none, counted)

  -- and a host that starts again has none
  pub anew : (past : List Entry) (words : List ℕ) (h : HostState) → is_restart (line_of (entry.Said words)) ≡ true → tasks_of h.requests ≡ [] → AreCounted wanted (past ++ entry.Said words ∷ []) h
  anew past words h again none =
      subst (λ (l : List Entry). CountsTo l (left_among wanted h)) (sym (said_anew past words again))
      (let left : left_among wanted h ≡ 0 = ap (λ (l : List Task). length (flat_map wanted.among l)) none in omega (arith, left))

  -- ---- events

  -- what has ended by an event is entered, and no longer left
  pub event_counts : TasksGo → (h : HostState) (event : HostEvent) (told : List Entry) → IsDone event → IsUnqueued event → May h event → AreTold (outs h event) told
      → length (shown wanted.ends (entries_at h event)) ≡ length (flat_map wanted.among (ended h event)) → ended_since wanted told + left_among wanted (after h event) ≡ left_among wanted h
  event_counts tasks h event told done un may are ends =
      let noted : shown wanted.ends told ≡ shown wanted.ends (entries_at h event)
      = told_shown wanted.ends is.line (outs h event) told are
      ∙ sym (shown-append wanted.ends (answers h event) (notes_of (outs h event)) ∙ ap (λ (l : List A). l ++ shown wanted.ends (notes_of (outs h event))) (is.answered h event)) in
      let over : ended_since wanted told ≡ length (flat_map wanted.among (ended h event)) = ap (λ (l : List A). length l) noted ∙ ends in
      let left = event_left wanted tasks h event done may in
      let none = is.added_none h event un in
      omega (arith, over, left, none)

  -- once the words of a line stand, and what it asks is among the tasks
  pub after_words : (line : Line) (before past : List Entry) (words : List ℕ) (h later : HostState) → past ≡ before ++ entry.Said words ∷ [] → line_of (entry.Said words) ≡ line ∷ []
      → is_restart (line ∷ []) ≡ false → length (wanted.by_line line) + left_among wanted h ≡ left_among wanted later → AreCounted wanted before h → AreCounted wanted past later
  after_words line before past words h later are read other adds counted =
      subst (λ (l : List Entry). AreCounted wanted l later) (sym are)
      (said before words h later (ap is_restart read ∙ other)
      (ap (λ (l : List Line). length (flat_map wanted.by_line l) + left_among wanted h) read
      ∙ ap (λ (l : List ℕ). length l + left_among wanted h) (append-nil (wanted.by_line line)) ∙ adds) counted)
