-- What waits by the transcript of a host alone after its notes on what it judged, which tell of messages that were dropped, and after the note of a pump that a No More Information was.
use Rattle.std.proofs.Common.{◌≡◌, ℕ, ◌+◌, ◌&&◌, not, Bool, true, false, if◌then◌else◌, inr, List, [], ◌∷◌, ◌++◌, nat_le, refl, sym, ap, ap₂, ◌∙◌, subst, append-nil, append_assoc, arith}
use Rattle.std.specs.Prelude.{drop}
use Rattle.std.specs.List.{AllByRecursion, flat_map}
use Rattle.std.proofs.lemmas.Bool.{and_right, eq-eqb}
use Rattle.std.proofs.lemmas.Grind.{flat_map-append}
use Rattle.zw_words.specs.declared.side.Side.TheVariants.{Host}
use Rattle.zw_text.specs.declared.entry.Entry.{Entry}
use Rattle.zw_text.specs.declared.entry.Entry.TheVariants as entry
use Rattle.zw_text.specs.Transcript.{waking_at, wakings}
use Rattle.host_heard.specs.declared.told.Told.{Told}
use Rattle.law_transcript.specs.Units.{Carried}
use Rattle.law_time.specs.Moments.{clock}
use Rattle.law_time.specs.Requests.{Asked as TheAsked, are_none, asked}
use Rattle.law_time.specs.Queue.{Due, Queue, each_with, has_nothing, have_woken, in_order, is_first, is_full as queue_full, is_told, lacks_places, may_queue, queue_before, with_no_more}
use Rattle.law_time.specs.Wants.{no_more}
use Rattle.host_requests.specs.declared.task.Task.{Task}
use Rattle.host_model.specs.State.{HostState, node_of}
use Rattle.host_model.specs.declared.out.HostOut.{HostOut}
use Rattle.host_model.specs.declared.out.HostOut.TheVariants.{Note, Write}
use Rattle.proof_attempts.specs.proof_requests.law_host.Heard.{heeds_alone}
use Rattle.proof_attempts.specs.proof_requests.proof_alone.Steps.{AreTold, IsOfUnit}
use Rattle.proof_attempts.proofs.proof_waking_Parts.{IsNoted}
use Rattle.proof_attempts.proofs.proof_requests_Telling.{quiet_on}
use Rattle.proof_queue.specs.Waiting.{Fits, dropped_at}
use Rattle.proof_queue.proofs.Books.{no_line}
use Rattle.proof_queue.proofs.Ending.{told_same}
use Rattle.proof_queue.proofs.Looks.{due_is, is_due_since, key, nodes_of}
use Rattle.proof_queue.proofs.Loose.{and_true}
use Rattle.proof_queue.proofs.Orders.{filter_same, is_among, picked_none}
use Rattle.proof_queue.proofs.Pumped.{MayLook, now_sleepers, since_sleepers, sleepers, would_sleep}
use Rattle.proof_queue.proofs.Sleeps.{Stands}
use Rattle.proof_queue.proofs.Undropped.{Undropped}
use Rattle.proof_queue.proofs.Ties.{Raw, Stand, Stays, Upto, and_assoc, before_raw, before_seen, each_owed, none_both, one_more, raw, raw_stays, same_drops, seen, stay_go}

-- ---- whom these tell that a message was dropped

abbrev pub full_at : Entry → List ℕ
full_at (entry.QueueFull n) = n ∷ []
full_at e = []

abbrev pub fulls : List Entry → List ℕ
fulls told = flat_map full_at told

none_full : (n : ℕ) (rest : List ℕ) → n ∷ rest ≡ [] → ⊥
none_full n rest is = cc

same_full : (e : Entry) → full_at e ≡ dropped_at (Note e)
same_full (entry.QueueFull n) = refl
same_full e = refl

marks_full : (marks : List Entry) → AllByRecursion IsOfUnit marks → fulls marks ≡ []
marks_full [] all = refl
marks_full (entry.Dropped Host ∷ marks) all = marks_full marks all.1
marks_full (entry.Garbled Host unit ∷ marks) all = marks_full marks all.1
marks_full (entry.Overrun Host ∷ marks) all = marks_full marks all.1
marks_full (e ∷ marks) all = absurd all.0

-- what is told has them as it was put out
pub full_told : (puts : List HostOut) (told : List Entry) → AreTold puts told → fulls told ≡ flat_map dropped_at puts
full_told [] told is = ap fulls is
full_told (Note e ∷ puts) told (rest, is, more) = ap fulls is ∙ ap₂ (λ (a b : List ℕ). a ++ b) (same_full e) (full_told puts rest more)
full_told (Write unit ∷ puts) told (marks, rest, is, all, more) =
    ap fulls is ∙ flat_map-append full_at marks rest ∙ ap₂ (λ (a b : List ℕ). a ++ b) (marks_full marks all) (full_told puts rest more)

pub undropped_full : (e : Entry) → Undropped e → full_at e ≡ []
undropped_full (entry.QueueFull n) none = absurd none
undropped_full e none = refl

-- another note leaves what waits
pub noted_stays : (e : Entry) → IsNoted e → full_at e ≡ [] → Stays e
noted_stays (entry.QueueFull n) noted none = absurd (none_full n [] none)
noted_stays (entry.Said words) noted none = absurd noted
noted_stays (entry.Refused refusal) noted none = absurd noted
noted_stays (entry.Begin node session command) noted none = absurd noted
noted_stays (entry.Written side unit) noted none = absurd noted
noted_stays (entry.Time tick) noted none = absurd noted
noted_stays e noted none = tt

-- the first of those that are owed is told
abbrev putting : ℕ → Bool → Queue → Queue
putting m b k = if b then record k { dropped = k.dropped ++ m ∷ []; owed = k.owed ++ m ∷ [] } else record k { wants = k.wants ++ no_more m ∷ [] }

abbrev one_less : Queue → Queue
one_less q = record q { owed = drop 1 q.owed }

each_gone : (q : Queue) (nodes : List ℕ) (x : ℕ) (more : List ℕ) → q.owed ≡ x ∷ more → each_with with_no_more (one_less q) nodes ≡ one_less (each_with with_no_more q nodes)
each_gone q [] x more some = refl
each_gone q (m ∷ nodes) x more some = by (queue_full q) (λ (k : Queue) (rest : List ℕ) (is : k.owed ≡ x ∷ rest). each_gone k nodes x rest is)
  where
    later : drop 1 q.owed ++ m ∷ [] ≡ drop 1 (q.owed ++ m ∷ [])
    later = ap (λ (l : List ℕ). drop 1 l ++ m ∷ []) some ∙ sym (ap (λ (l : List ℕ). drop 1 (l ++ m ∷ [])) some)

    by : (b : Bool) → ((k : Queue) (rest : List ℕ) → k.owed ≡ x ∷ rest → each_with with_no_more (one_less k) nodes ≡ one_less (each_with with_no_more k nodes))
        → each_with with_no_more (putting m b (one_less q)) nodes ≡ one_less (each_with with_no_more (putting m b q) nodes)
    by true gone =
        ap (λ (l : List ℕ). each_with with_no_more (record q { dropped = q.dropped ++ m ∷ []; owed = l }) nodes) later
        ∙ gone (record q { dropped = q.dropped ++ m ∷ []; owed = q.owed ++ m ∷ [] }) (more ++ m ∷ []) (ap (λ (l : List ℕ). l ++ m ∷ []) some)
    by false gone = gone (record q { wants = q.wants ++ no_more m ∷ [] }) more some

same_first : (x n : ℕ) (more rest : List ℕ) → x ∷ more ≡ n ∷ rest → x ≡ n
same_first x n more rest is = cc

-- none is due any more at the time of the last look
never_due : (n k t : Bool) → (n && k && not t && not k) ≡ false
never_due false k t = refl
never_due true true t = and_right (not t) false refl
never_due true false t = refl

module _ (taken : List Entry → Carried → List Told) where
  -- ---- notes on what was judged

  -- a note may stand also where more messages were dropped
  note_stands : (past : List Entry) (e : Entry) → IsNoted e → full_at e ≡ [] → lacks_places (heeds_alone taken) past ≡ false → may_queue (heeds_alone taken) past e ≡ true
  note_stands past (entry.QueueFull n) noted none lacks = absurd (none_full n [] none)
  note_stands past (entry.Unkept n) noted none lacks = refl
  note_stands past (entry.Said words) noted none lacks = absurd noted
  note_stands past (entry.Accepted command node) noted none lacks = absurd noted
  note_stands past (entry.Refused refusal) noted none lacks = absurd noted
  note_stands past (entry.Begin node session command) noted none lacks = absurd noted
  note_stands past (entry.Written side unit) noted none lacks = absurd noted
  note_stands past (entry.Dropped side) noted none lacks = absurd noted
  note_stands past (entry.Garbled side unit) noted none lacks = absurd noted
  note_stands past (entry.Overrun side) noted none lacks = absurd noted
  note_stands past (entry.Air frame sender receiver repeaters payload) noted none lacks = absurd noted
  note_stands past (entry.Heard frame) noted none lacks = absurd noted
  note_stands past (entry.Lost frame) noted none lacks = absurd noted
  note_stands past (entry.Unheard frame) noted none lacks = absurd noted
  note_stands past (entry.Dev node by setting) noted none lacks = absurd noted
  note_stands past (entry.Forget first second) noted none lacks = absurd noted
  note_stands past entry.ChipFull noted none lacks = absurd noted
  note_stands past (entry.Cleared side count) noted none lacks = absurd noted
  note_stands past (entry.Time tick) noted none lacks = absurd noted
  note_stands past e noted none lacks = ap (λ (b : Bool). not b && true) lacks

  -- the first of those that are owed
  full_raw : (past : List Entry) (n : ℕ) (tasks : List Task) (owes : List ℕ) (drops : ℕ → Bool) → Raw taken past tasks (n ∷ owes) drops
      → Fits (heeds_alone taken) past (entry.QueueFull n) × Raw taken (past ++ entry.QueueFull n ∷ []) tasks owes drops
  full_raw past n tasks owes drops ties =
      let q : Queue = raw taken past in
      let before : queue_before (heeds_alone taken) past (entry.QueueFull n) ≡ q = before_raw taken past (entry.QueueFull n) (ap (λ (l : List ℕ). are_none l) ties.stands.owed_are) in (
        record { queues = inr (ap (λ (k : Queue). is_first n k.owed) before ∙ ap (λ (l : List ℕ). is_first n l) ties.stands.owed_are ∙ eq-eqb n n refl); goes = refl },
        record {
          stands = subst (λ (k : Queue). Stands k tasks owes drops) (sym (one_more taken past (entry.QueueFull n) refl ∙ ap one_less before))
              (record { wants_are = ties.stands.wants_are; owed_are = ap (λ (l : List ℕ). drop 1 l) ties.stands.owed_are; dropped = ties.stands.dropped });
          answered = no_line (heeds_alone taken) past (entry.QueueFull n) refl;
        },
      )

  -- another note, and those behind it
  one_noted : (past : List Entry) (e : Entry) (told : List Entry) (tasks : List Task) (owes : List ℕ) (drops : ℕ → Bool) → Stays e → may_queue (heeds_alone taken) past e ≡ true
      → Raw taken past tasks (fulls told ++ owes) drops
      → (Raw taken (past ++ e ∷ []) tasks (fulls told ++ owes) (λ n. drops n && are_none (wakings n (e ∷ [])))
      → Stand taken (past ++ e ∷ []) told × Raw taken ((past ++ e ∷ []) ++ told) tasks owes (λ n. drops n && are_none (wakings n (e ∷ [])) && are_none (wakings n told)))
      → Stand taken past (e ∷ told) × Raw taken (past ++ e ∷ told) tasks owes (λ n. drops n && are_none (wakings n (e ∷ told)))
  one_noted past e told tasks owes drops stays may ties goes_on =
      let more = goes_on (raw_stays taken past (e ∷ []) tasks (fulls told ++ owes) drops (stays, tt) ties) in
      let tied = subst (λ (l : List Entry). Raw taken l tasks owes (λ n. drops n && are_none (wakings n (e ∷ [])) && are_none (wakings n told))) (append_assoc past (e ∷ []) told) more.1 in (
        (record { queues = inr may; goes = stay_go taken past e stays }, more.0),
        record {
          stands = same_drops (raw taken (past ++ e ∷ told)) tasks owes (λ n. drops n && are_none (wakings n (e ∷ [])) && are_none (wakings n told)) (λ n. drops n && are_none (wakings n (e ∷ told)))
              (λ n from to.
              and_assoc (drops n) (are_none (wakings n (e ∷ []))) (are_none (wakings n told))
              ∙ ap (λ (l : List Bool). drops n && (are_none l && are_none (wakings n told))) (append-nil (waking_at n e))
              ∙ ap (λ (b : Bool). drops n && b) (sym (none_both (waking_at n e) (wakings n told)))) tied.stands;
          answered = tied.answered;
        },
      )

  -- one after another
  pub notes_raw : (past told : List Entry) (tasks : List Task) (owes : List ℕ) (drops : ℕ → Bool) → AllByRecursion IsNoted told → Raw taken past tasks (fulls told ++ owes) drops
      → Stand taken past told × Raw taken (past ++ told) tasks owes (λ n. drops n && are_none (wakings n told))
  notes_raw past [] tasks owes drops all ties = (
    tt,
    subst (λ (l : List Entry). Raw taken l tasks owes (λ n. drops n && true)) (sym (append-nil past))
        (record { stands = same_drops (raw taken past) tasks owes drops (λ n. drops n && true) (λ n from to. and_true (drops n)) ties.stands; answered = ties.answered }),
  )
  notes_raw past (entry.QueueFull n ∷ told) tasks owes drops all ties =
      let one = full_raw past n tasks (fulls told ++ owes) drops ties in
      let more = notes_raw (past ++ entry.QueueFull n ∷ []) told tasks owes drops all.1 one.1 in
      ((one.0, more.0), subst (λ (l : List Entry). Raw taken l tasks owes (λ m. drops m && are_none (wakings m told))) (append_assoc past (entry.QueueFull n ∷ []) told) more.1)
  notes_raw past (e ∷ told) tasks owes drops all ties =
      one_noted past e told tasks owes drops (noted_stays e all.0 refl) (note_stands past e all.0 refl ties.answered) ties
      (λ one. notes_raw (past ++ e ∷ []) told tasks owes (λ n. drops n && are_none (wakings n (e ∷ []))) all.1 one)

  -- ---- a pump notes that a No More Information was dropped

  module _ (past : List Entry) (n : ℕ) (rest : List ℕ) (t : ℕ) (h g : HostState) (tasks : List Task) (drops : ℕ → Bool) (same : (m : ℕ) → would_sleep (node_of g m) ≡ would_sleep (node_of h m))
      (looks : MayLook past t h) (later : MayLook (past ++ entry.QueueFull n ∷ []) t g) (at : clock past ≡ t) (at_later : clock (past ++ entry.QueueFull n ∷ []) ≡ t)
      (ties : Upto taken t past tasks (n ∷ rest) drops) where
    abbrev noted : Entry
    noted = entry.QueueFull n

    abbrev told : List Entry
    told = past ++ noted ∷ []

    -- who is told with another queue, that has the same wants and nodes
    told_so : (q k : Queue) (m : ℕ) → k.wants ≡ q.wants → k.dropped ≡ q.dropped → is_told (asked told) k m ≡ is_told (asked past) q m
    told_so q k m wants dropped =
        let on = quiet_on past (noted ∷ []) (tt, tt) in
        told_same (asked past) (asked told) q k (noted ∷ []) m (ap (λ (a : TheAsked). a.frame) on) (ap (λ (a : TheAsked). a.following) on) wants (ap (λ (l : List ℕ). is_among l m) dropped) refl

    sleepers_so : (q k : Queue) → k.wants ≡ q.wants → k.dropped ≡ q.dropped → sleepers g (asked told) k ≡ sleepers h (asked past) q
    sleepers_so q k wants dropped =
        filter_same (λ (m : ℕ). would_sleep (node_of g m) && not (is_told (asked told) k m)) (λ (m : ℕ). would_sleep (node_of h m) && not (is_told (asked past) q m)) 1 232
        (λ m from to. ap₂ (λ (w b : Bool). w && not b) (same m) (told_so q k m wants dropped))

    -- what is seen then
    seen_so : (q : Queue) → raw taken told ≡ one_less q → seen taken t told ≡ each_with with_no_more (one_less q) (sleepers h (asked past) q)
    seen_so q is =
        due_is (heeds_alone taken) told t (asked told) (raw taken told)
        ∙ ap₂ (λ (k : Queue) (l : List ℕ). each_with with_no_more k l) is
        (now_sleepers taken told t g (asked told) (raw taken told) later at_later ∙ sleepers_so q (raw taken told) (ap (λ (k : Queue). k.wants) is) (ap (λ (k : Queue). k.dropped) is))

    -- a look has found all
    none_again : sleepers h (asked past) (seen taken t past) ≡ []
    none_again =
        sym (since_sleepers taken past t h (asked past) (raw taken past) t (omega arith) (omega arith) looks)
        ∙ ap (λ (l : List Due). nodes_of (in_order l))
        (picked_none (is_due_since (heeds_alone taken) past t t (asked past) (raw taken past)) (key past)
        (λ m. never_due (has_nothing (heeds_alone taken) past t m) (nat_le (key past m) t) (is_told (asked past) (raw taken past) m)) (have_woken past))

    gone : seen taken t told ≡ one_less (seen taken t past) → Upto taken t told tasks rest drops
    gone is = record {
      stands = subst (λ (k : Queue). Stands k tasks rest drops) (sym is)
          (record { wants_are = ties.stands.wants_are; owed_are = ap (λ (l : List ℕ). drop 1 l) ties.stands.owed_are; dropped = ties.stands.dropped });
      answered = no_line (heeds_alone taken) past noted refl;
    }

    pub full_upto : Fits (heeds_alone taken) past noted × Upto taken t told tasks rest drops
    full_upto = by (raw taken past).owed refl
      where
        by : (owed : List ℕ) → (raw taken past).owed ≡ owed → Fits (heeds_alone taken) past noted × Upto taken t told tasks rest drops
        by [] none =
            let before : queue_before (heeds_alone taken) past noted ≡ seen taken t past = before_seen taken past noted t (ap (λ (l : List ℕ). are_none l) none) at in
            let is : raw taken told ≡ one_less (seen taken t past) = one_more taken past noted refl ∙ ap one_less before in (
              record { queues = inr (ap (λ (k : Queue). is_first n k.owed) before ∙ ap (λ (l : List ℕ). is_first n l) ties.stands.owed_are ∙ eq-eqb n n refl); goes = refl },
              gone (seen_so (seen taken t past) is ∙ ap (λ (l : List ℕ). each_with with_no_more (one_less (seen taken t past)) l) none_again),
            )
        by (x ∷ more) some =
            let q : Queue = raw taken past in
            let nodes : List ℕ = sleepers h (asked past) q in
            let before : queue_before (heeds_alone taken) past noted ≡ q = before_raw taken past noted (ap (λ (l : List ℕ). are_none l) some) in
            let sees : seen taken t past ≡ each_with with_no_more q nodes =
            due_is (heeds_alone taken) past t (asked past) q ∙ ap (λ (l : List ℕ). each_with with_no_more q l) (now_sleepers taken past t h (asked past) q looks at) in
            let (behind, are) = each_owed q nodes in
            let first : x ≡ n =
            same_first x n (more ++ behind) rest (sym (ap (λ (l : List ℕ). l ++ behind) some) ∙ sym are ∙ sym (ap (λ (k : Queue). k.owed) sees) ∙ ties.stands.owed_are) in (
              record { queues = inr (ap (λ (k : Queue). is_first n k.owed) before ∙ ap (λ (l : List ℕ). is_first n l) some ∙ eq-eqb x n first); goes = refl },
              gone (seen_so q (one_more taken past noted refl ∙ ap one_less before) ∙ each_gone q nodes x more some ∙ ap one_less (sym sees)),
            )
