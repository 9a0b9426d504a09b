-- What waits by the transcript of a host alone after more entries, as it stands and after a look at the time: by entries at which the host does not look, by notes, and by the number of a tick.
use Rattle.std.proofs.Common.{◌≡◌, ◌≤◌, ℕ, ◌+◌, ◌-◌, ◌==◌, ◌&&◌, ◌||◌, not, Bool, true, false, if◌then◌else◌, inl, inr, List, [], ◌∷◌, ◌++◌, length, filter, nat_le, refl, sym, ap, ap₂, ◌∙◌, subst, append-nil, append_assoc, arith}
use Rattle.std.specs.List.{AllByRecursion}
use Rattle.std.proofs.lemmas.Bool.{cases_eq, eq-eqb, ne_eqb, or_right}
use Rattle.serial_frame.specs.declared.unit.TheConstants.{NAK}
use Rattle.zw_words.specs.declared.side.Side.TheVariants.{Host, Chip}
use Rattle.zw_text.specs.declared.entry.Entry.{Entry}
use Rattle.zw_text.specs.declared.entry.Entry.TheVariants as entry
use Rattle.zw_text.specs.Transcript.{line_of, waking_at, wakings}
use Rattle.host_heard.specs.declared.told.Told.{Told}
use Rattle.law_transcript.specs.Lists.{EachAfter}
use Rattle.law_transcript.specs.Restarts.{begins_refused}
use Rattle.law_transcript.specs.Units.{Carried}
use Rattle.law_time.specs.Heeds.{Heeds}
use Rattle.law_time.specs.Judged.{is_mark}
use Rattle.law_time.specs.Moments.{clock, now_at}
use Rattle.law_time.specs.Requests.{Asked, are_none, asked}
use Rattle.law_time.specs.Wants.{no_more}
use Rattle.law_time.specs.Queue.{Queue, Requests, each_with, has_looked, is_full as queue_full, is_judged, is_told, lacks_places, may_queue, owes_no_refusal, queue_before, queue_step, with_due, with_no_more}
use Rattle.host_requests.specs.declared.task.Task.{Task}
use Rattle.host_model.specs.State.{HostState, node_of}
use Rattle.proof_attempts.specs.proof_requests.law_host.Heard.{heeds_alone}
use Rattle.proof_attempts.proofs.proof_requests_Telling.{quiet_on}
use Rattle.proof_queue.specs.Waiting.{Fits, queue_of}
use Rattle.proof_queue.specs.Turn.{may_go}
use Rattle.proof_queue.proofs.Books.{book_joined, last_is, no_line}
use Rattle.proof_queue.proofs.Ending.{told_same}
use Rattle.proof_queue.proofs.Looks.{due_is, dues_since, looks_twice}
use Rattle.proof_queue.proofs.Orders.{filter_same, is_among}
use Rattle.proof_queue.proofs.Pumped.{MayLook, now_sleepers, since_sleepers, sleepers, would_sleep}
use Rattle.proof_queue.proofs.Sleeps.{Stands}

-- this waits, and no line is to be refused for places
pub record TiesSo (heeds : Heeds) (q : Queue) (past : List Entry) (tasks : List Task) (owes : List ℕ) (drops : ℕ → Bool) : Type 0 where
  pub stands : Stands q tasks owes drops
  pub answered : lacks_places heeds past ≡ false

pub same_drops : (q : Queue) (tasks : List Task) (owes : List ℕ) (d e : ℕ → Bool) → ((n : ℕ) → 1 ≤ n → n ≤ 232 → d n ≡ e n) → Stands q tasks owes d → Stands q tasks owes e
same_drops q tasks owes d e same stands = record { wants_are = stands.wants_are; owed_are = stands.owed_are; dropped = λ n from to. stands.dropped n from to ∙ same n from to }

-- ---- what is put into it where nothing is dropped

pub each_owed : (q : Queue) (nodes : List ℕ) → (rest : List ℕ) × ((each_with with_no_more q nodes).owed ≡ q.owed ++ rest)
each_owed q [] = ([], sym (append-nil q.owed))
each_owed q (n ∷ nodes) = by (queue_full q) (λ (k : Queue). each_owed k nodes)
  where
    by : (b : Bool) → ((k : Queue) → (rest : List ℕ) × ((each_with with_no_more k nodes).owed ≡ k.owed ++ rest))
        → (rest : List ℕ) × ((each_with with_no_more (if b then record q { dropped = q.dropped ++ n ∷ []; owed = q.owed ++ n ∷ [] } else record q { wants = q.wants ++ no_more n ∷ [] }) nodes).owed ≡ q.owed ++ rest)
    by true more = let (rest, is) = more (record q { dropped = q.dropped ++ n ∷ []; owed = q.owed ++ n ∷ [] }) in (n ∷ rest, is ∙ append_assoc q.owed (n ∷ []) rest)
    by false more = more (record q { wants = q.wants ++ no_more n ∷ [] })

nil_first : (first rest : List ℕ) → first ++ rest ≡ [] → first ≡ []
nil_first [] rest is = refl
nil_first (n ∷ first) rest is = absurd (let bad : n ∷ (first ++ rest) ≡ [] = is in cc)

nil_middle : (first : List ℕ) (n : ℕ) (rest : List ℕ) → (first ++ n ∷ []) ++ rest ≡ [] → ⊥
nil_middle [] n rest is = let bad : n ∷ rest ≡ [] = is in cc
nil_middle (m ∷ first) n rest is = let bad : m ∷ ((first ++ n ∷ []) ++ rest) ≡ [] = is in cc

pub owed_before : (q : Queue) (nodes : List ℕ) → (each_with with_no_more q nodes).owed ≡ [] → q.owed ≡ []
owed_before q nodes none = let (rest, is) = each_owed q nodes in nil_first q.owed rest (sym is ∙ none)

none_dropped : (q : Queue) (nodes : List ℕ) → (each_with with_no_more q nodes).owed ≡ [] → (each_with with_no_more q nodes).dropped ≡ q.dropped
none_dropped q [] none = refl
none_dropped q (n ∷ nodes) none = by (queue_full q) none (λ (k : Queue). none_dropped k nodes)
  where
    by : (b : Bool) → (each_with with_no_more (if b then record q { dropped = q.dropped ++ n ∷ []; owed = q.owed ++ n ∷ [] } else record q { wants = q.wants ++ no_more n ∷ [] }) nodes).owed ≡ []
        → ((k : Queue) → (each_with with_no_more k nodes).owed ≡ [] → (each_with with_no_more k nodes).dropped ≡ k.dropped)
        → (each_with with_no_more (if b then record q { dropped = q.dropped ++ n ∷ []; owed = q.owed ++ n ∷ [] } else record q { wants = q.wants ++ no_more n ∷ [] }) nodes).dropped ≡ q.dropped
    by true over more =
        let (rest, is) = each_owed (record q { dropped = q.dropped ++ n ∷ []; owed = q.owed ++ n ∷ [] }) nodes in absurd (nil_middle q.owed n rest (sym is ∙ over))
    by false over more = more (record q { wants = q.wants ++ no_more n ∷ [] }) over

-- the same is put into another that is as long
alike : (p q : Queue) (nodes : List ℕ) → q.wants ≡ p.wants → q.owed ≡ p.owed
    → ((each_with with_no_more q nodes).wants ≡ (each_with with_no_more p nodes).wants) × ((each_with with_no_more q nodes).owed ≡ (each_with with_no_more p nodes).owed)
alike p q [] wants owed = (wants, owed)
alike p q (n ∷ nodes) wants owed =
    by (queue_full q) (queue_full p) (ap (λ (w : List (List ℕ)). nat_le 64 (length w)) wants) (λ (a b : Queue) (first : b.wants ≡ a.wants) (second : b.owed ≡ a.owed). alike a b nodes first second)
  where
    by : (b c : Bool) → b ≡ c
        → ((k j : Queue) → j.wants ≡ k.wants → j.owed ≡ k.owed
        → ((each_with with_no_more j nodes).wants ≡ (each_with with_no_more k nodes).wants) × ((each_with with_no_more j nodes).owed ≡ (each_with with_no_more k nodes).owed))
        → ((each_with with_no_more (if b then record q { dropped = q.dropped ++ n ∷ []; owed = q.owed ++ n ∷ [] } else record q { wants = q.wants ++ no_more n ∷ [] }) nodes).wants
        ≡ (each_with with_no_more (if c then record p { dropped = p.dropped ++ n ∷ []; owed = p.owed ++ n ∷ [] } else record p { wants = p.wants ++ no_more n ∷ [] }) nodes).wants)
        × ((each_with with_no_more (if b then record q { dropped = q.dropped ++ n ∷ []; owed = q.owed ++ n ∷ [] } else record q { wants = q.wants ++ no_more n ∷ [] }) nodes).owed
        ≡ (each_with with_no_more (if c then record p { dropped = p.dropped ++ n ∷ []; owed = p.owed ++ n ∷ [] } else record p { wants = p.wants ++ no_more n ∷ [] }) nodes).owed)
    by true true same more =
        more (record p { dropped = p.dropped ++ n ∷ []; owed = p.owed ++ n ∷ [] }) (record q { dropped = q.dropped ++ n ∷ []; owed = q.owed ++ n ∷ [] }) wants (ap (λ (l : List ℕ). l ++ n ∷ []) owed)
    by false false same more =
        more (record p { wants = p.wants ++ no_more n ∷ [] }) (record q { wants = q.wants ++ no_more n ∷ [] }) (ap (λ (l : List (List ℕ)). l ++ no_more n ∷ []) wants) owed
    by true false same more = absurd (let bad : true ≡ false = same in cc)
    by false true same more = absurd (let bad : false ≡ true = same in cc)

pub alike_stands : (p q : Queue) (nodes : List ℕ) (tasks : List Task) (d e : ℕ → Bool) → q.wants ≡ p.wants → q.owed ≡ p.owed
    → ((n : ℕ) → 1 ≤ n → n ≤ 232 → is_among p.dropped n ≡ d n → is_among q.dropped n ≡ e n) → Stands (each_with with_no_more p nodes) tasks [] d → Stands (each_with with_no_more q nodes) tasks [] e
alike_stands p q nodes tasks d e wants owed drops stands =
    let (one, other) = alike p q nodes wants owed in
    let before : (each_with with_no_more p nodes).dropped ≡ p.dropped = none_dropped p nodes stands.owed_are in
    let later : (each_with with_no_more q nodes).dropped ≡ q.dropped = none_dropped q nodes (other ∙ stands.owed_are) in
    record {
      wants_are = one ∙ stands.wants_are;
      owed_are = other ∙ stands.owed_are;
      dropped = λ n from to.
          ap (λ (l : List ℕ). is_among l n) later ∙ drops n from to (sym (ap (λ (l : List ℕ). is_among l n) before) ∙ stands.dropped n from to);
    }

-- ---- entries at which the host does not look, and nothing comes or goes

abbrev pub Stays : Entry → Type 0
Stays (entry.Said words) = ⊥
Stays (entry.Refused refusal) = ⊥
Stays (entry.QueueFull n) = ⊥
Stays (entry.Begin node session command) = ⊥
Stays (entry.Time tick) = ⊥
Stays (entry.Written Host unit) = unit ≡ NAK ∷ []
Stays e = Unit {0}

filter_among : (l : List ℕ) (k n : ℕ) (woken : Bool) → is_among (filter (λ one. not (one == k)) l) n ≡ (is_among l n && are_none (if k == n then woken ∷ [] else []))
filter_among [] k n woken = refl
filter_among (m ∷ l) k n woken = elim (cases_eq m k) [
  | inl same ↦
      ap (λ (b : Bool). is_among (if not b then m ∷ filter (λ one. not (one == k)) l else filter (λ one. not (one == k)) l) n) (eq-eqb m k same) ∙ filter_among l k n woken ∙ gone same
  | inr other ↦
      ap (λ (b : Bool). is_among (if not b then m ∷ filter (λ one. not (one == k)) l else filter (λ one. not (one == k)) l) n) (ne_eqb m k other)
      ∙ ap (λ (b : Bool). (m == n) || b) (filter_among l k n woken) ∙ stays other
]
  where
    gone : m ≡ k → (is_among l n && are_none (if k == n then woken ∷ [] else [])) ≡ (((m == n) || is_among l n) && are_none (if k == n then woken ∷ [] else []))
    gone same = subst (λ (j : ℕ). (is_among l n && are_none (if k == n then woken ∷ [] else [])) ≡ (((j == n) || is_among l n) && are_none (if k == n then woken ∷ [] else []))) (sym same) (by (k == n))
      where
        by : (b : Bool) → (is_among l n && are_none (if b then woken ∷ [] else [])) ≡ ((b || is_among l n) && are_none (if b then woken ∷ [] else []))
        by true = over (is_among l n)
          where
            over : (c : Bool) → (c && false) ≡ false
            over true = refl
            over false = refl
        by false = refl

    stays : (m ≡ k → ⊥) → ((m == n) || (is_among l n && are_none (if k == n then woken ∷ [] else []))) ≡ (((m == n) || is_among l n) && are_none (if k == n then woken ∷ [] else []))
    stays other = elim (cases_eq m n) [
      | inl here ↦
          ap (λ (b : Bool). b || (is_among l n && are_none (if k == n then woken ∷ [] else []))) (eq-eqb m n here)
          ∙ sym (ap₂ (λ (b c : Bool). (b || is_among l n) && are_none (if c then woken ∷ [] else [])) (eq-eqb m n here) (ne_eqb k n (λ same. other (here ∙ sym same))))
      | inr there ↦
          ap (λ (b : Bool). b || (is_among l n && are_none (if k == n then woken ∷ [] else []))) (ne_eqb m n there)
          ∙ sym (ap (λ (b : Bool). (b || is_among l n) && are_none (if k == n then woken ∷ [] else [])) (ne_eqb m n there))
    ]

and_true : (b : Bool) → b ≡ (b && true)
and_true true = refl
and_true false = refl

pub none_both : (a b : List Bool) → are_none (a ++ b) ≡ (are_none a && are_none b)
none_both [] b = refl
none_both (x ∷ a) b = refl

pub and_assoc : (a b c : Bool) → ((a && b) && c) ≡ (a && (b && c))
and_assoc true b c = refl
and_assoc false b c = refl

module _ (taken : List Entry → Carried → List Told) where
  abbrev pub heeds : Heeds
  heeds = heeds_alone taken

  abbrev pub raw : List Entry → Queue
  raw past = queue_of (heeds_alone taken) past

  abbrev pub seen : ℕ → List Entry → Queue
  seen t past = with_due (heeds_alone taken) past t (asked past) (raw past)

  abbrev pub Raw : List Entry → List Task → List ℕ → (ℕ → Bool) → Type 0
  Raw past tasks owes drops = TiesSo (heeds_alone taken) (raw past) past tasks owes drops

  abbrev pub Upto : ℕ → List Entry → List Task → List ℕ → (ℕ → Bool) → Type 0
  Upto t past tasks owes drops = TiesSo (heeds_alone taken) (seen t past) past tasks owes drops

  abbrev pub Stand : List Entry → List Entry → Type 0
  Stand past told = EachAfter (Fits (heeds_alone taken)) past told

  -- ---- one entry

  pub one_more : (past : List Entry) (e : Entry) → begins_refused (e ∷ []) ≡ false → raw (past ++ e ∷ []) ≡ queue_step heeds past (asked past) (queue_before heeds past e) e []
  one_more past e fresh =
      ap (λ (r : Requests). r.queue) (book_joined taken past (e ∷ []) fresh) ∙ ap (λ (a : Asked). queue_step heeds past a (queue_before heeds past e) e []) (last_is taken past)

  pub before_raw : (past : List Entry) (e : Entry) → has_looked past (asked past) (raw past) e ≡ false → queue_before heeds past e ≡ raw past
  before_raw past e none =
      ap (λ (a : Asked). if has_looked past a (raw past) e then with_due heeds past (now_at past e) a (raw past) else raw past) (last_is taken past)
      ∙ ap (λ (b : Bool). if b then with_due heeds past (now_at past e) (asked past) (raw past) else raw past) none

  pub before_seen : (past : List Entry) (e : Entry) (t : ℕ) → has_looked past (asked past) (raw past) e ≡ true → now_at past e ≡ t → queue_before heeds past e ≡ seen t past
  before_seen past e t looks now =
      ap (λ (a : Asked). if has_looked past a (raw past) e then with_due heeds past (now_at past e) a (raw past) else raw past) (last_is taken past)
      ∙ ap (λ (b : Bool). if b then with_due heeds past (now_at past e) (asked past) (raw past) else raw past) looks ∙ ap (λ (now : ℕ). with_due heeds past now (asked past) (raw past)) now

  -- where nothing is owed it may stand
  pub allowed : (past : List Entry) (e : Entry) → lacks_places heeds past ≡ false → (queue_before heeds past e).owed ≡ [] → (is_mark e || owes_no_refusal heeds past e) ≡ true
  allowed past e lacks owed =
      or_right (is_mark e) (owes_no_refusal heeds past e)
      (ap₂ (λ (l : Bool) (owed : List ℕ). not l && (is_judged e || are_none owed)) lacks owed ∙ or_right (is_judged e) true refl)

  stay_unlooked : (past : List Entry) (a : Asked) (q : Queue) (e : Entry) → Stays e → has_looked past a q e ≡ false
  stay_unlooked past a q (entry.Said words) stays = absurd stays
  stay_unlooked past a q (entry.QueueFull n) stays = absurd stays
  stay_unlooked past a q (entry.Begin node session command) stays = absurd stays
  stay_unlooked past a q (entry.Time tick) stays = absurd stays
  stay_unlooked past a q (entry.Written Host unit) stays = subst (λ (u : List ℕ). has_looked past a q (entry.Written Host u) ≡ false) (sym stays) refl
  stay_unlooked past a q (entry.Written Chip unit) stays = refl
  stay_unlooked past a q e stays = refl

  stay_unrefused : (e : Entry) → Stays e → begins_refused (e ∷ []) ≡ false
  stay_unrefused (entry.Refused refusal) stays = absurd stays
  stay_unrefused e stays = refl

  stay_unsaid : (e : Entry) → Stays e → line_of e ≡ []
  stay_unsaid (entry.Said words) stays = absurd stays
  stay_unsaid e stays = refl

  pub record Moved (p q : Queue) (woken : ℕ → List Bool) : Type 0 where
    pub wants : q.wants ≡ p.wants
    pub owed : q.owed ≡ p.owed
    pub dropped : (n : ℕ) → is_among q.dropped n ≡ (is_among p.dropped n && are_none (woken n))

  still : (p : Queue) (woken : ℕ → List Bool) → ((n : ℕ) → woken n ≡ []) → Moved p p woken
  still p woken none = record { wants = refl; owed = refl; dropped = λ n. and_true (is_among p.dropped n) ∙ sym (ap (λ (l : List Bool). is_among p.dropped n && are_none l) (none n)) }

  step_moved : (past : List Entry) (a : Asked) (q : Queue) (e : Entry) → Stays e → Moved q (queue_step heeds past a q e []) (λ n. waking_at n e)
  step_moved past a q (entry.Said words) stays = absurd stays
  step_moved past a q (entry.Refused refusal) stays = absurd stays
  step_moved past a q (entry.QueueFull n) stays = absurd stays
  step_moved past a q (entry.Begin node session command) stays = absurd stays
  step_moved past a q (entry.Time tick) stays = absurd stays
  step_moved past a q (entry.Written Host unit) stays =
      subst (λ (u : List ℕ). Moved q (queue_step heeds past a q (entry.Written Host u) []) (λ n. [])) (sym stays) (still q (λ n. []) (λ n. refl))
  step_moved past a q (entry.Written Chip unit) stays = still q (λ n. []) (λ n. refl)
  step_moved past a q (entry.Awake k) stays = record { wants = refl; owed = refl; dropped = λ n. filter_among q.dropped k n true }
  step_moved past a q (entry.Asleep k) stays = record { wants = refl; owed = refl; dropped = λ n. filter_among q.dropped k n false }
  step_moved past a q e stays = still q (λ n. []) (λ n. refl)

  one_moved : (past : List Entry) (e : Entry) → Stays e → Moved (raw past) (raw (past ++ e ∷ [])) (λ n. waking_at n e)
  one_moved past e stays =
      subst (λ (q : Queue). Moved (raw past) q (λ n. waking_at n e))
      (sym (one_more past e (stay_unrefused e stays) ∙ ap (λ (q : Queue). queue_step heeds past (asked past) q e []) (before_raw past e (stay_unlooked past (asked past) (raw past) e stays))))
      (step_moved past (asked past) (raw past) e stays)

  pub all_moved : (past told : List Entry) → AllByRecursion Stays told → Moved (raw past) (raw (past ++ told)) (λ n. wakings n told)
  all_moved past [] all = subst (λ (l : List Entry). Moved (raw past) (raw l) (λ n. [])) (sym (append-nil past)) (still (raw past) (λ n. []) (λ n. refl))
  all_moved past (e ∷ told) all =
      let one = one_moved past e all.0 in
      let more = all_moved (past ++ e ∷ []) told all.1 in
      subst (λ (l : List Entry). Moved (raw past) (raw l) (λ n. waking_at n e ++ wakings n told)) (append_assoc past (e ∷ []) told)
      (record {
        wants = more.wants ∙ one.wants;
        owed = more.owed ∙ one.owed;
        dropped = λ n.
            more.dropped n ∙ ap (λ (b : Bool). b && are_none (wakings n told)) (one.dropped n) ∙ and_assoc (is_among (raw past).dropped n) (are_none (waking_at n e)) (are_none (wakings n told))
            ∙ ap (λ (b : Bool). is_among (raw past).dropped n && b) (sym (none_both (waking_at n e) (wakings n told)));
      })

  pub stays_answered : (past told : List Entry) → AllByRecursion Stays told → lacks_places heeds past ≡ false → lacks_places heeds (past ++ told) ≡ false
  stays_answered past [] all lacks = ap (λ (l : List Entry). lacks_places heeds l) (append-nil past) ∙ lacks
  stays_answered past (e ∷ told) all lacks =
      ap (λ (l : List Entry). lacks_places heeds l) (sym (append_assoc past (e ∷ []) told)) ∙ stays_answered (past ++ e ∷ []) told all.1 (no_line heeds past e (stay_unsaid e all.0))

  stay_may : (past : List Entry) (e : Entry) → Stays e → lacks_places heeds past ≡ false → (queue_before heeds past e).owed ≡ [] → may_queue heeds past e ≡ true
  stay_may past (entry.Refused refusal) stays lacks owed = absurd stays
  stay_may past (entry.QueueFull n) stays lacks owed = absurd stays
  stay_may past (entry.Unkept n) stays lacks owed = refl
  stay_may past e stays lacks owed = allowed past e lacks owed

  pub stay_go : (past : List Entry) (e : Entry) → Stays e → may_go heeds past e ≡ true
  stay_go past (entry.Begin node session command) stays = absurd stays
  stay_go past (entry.Written Host unit) stays = subst (λ (u : List ℕ). may_go heeds past (entry.Written Host u) ≡ true) (sym stays) refl
  stay_go past e stays = refl

  pub stays_fit : (past told : List Entry) → AllByRecursion Stays told → lacks_places heeds past ≡ false → (raw past).owed ≡ [] → Stand past told
  stays_fit past [] all lacks owed = tt
  stays_fit past (e ∷ told) all lacks owed = (
    record {
      queues = inr (stay_may past e all.0 lacks (ap (λ (q : Queue). q.owed) (before_raw past e (stay_unlooked past (asked past) (raw past) e all.0)) ∙ owed));
      goes = stay_go past e all.0;
    },
    stays_fit (past ++ e ∷ []) told all.1 (no_line heeds past e (stay_unsaid e all.0)) ((one_moved past e all.0).owed ∙ owed),
  )

  -- so it stands, as nothing was looked at
  pub raw_stays : (past told : List Entry) (tasks : List Task) (owes : List ℕ) (drops : ℕ → Bool) → AllByRecursion Stays told → Raw past tasks owes drops
      → Raw (past ++ told) tasks owes (λ n. drops n && are_none (wakings n told))
  raw_stays past told tasks owes drops all ties =
      let moved = all_moved past told all in
      record {
        stands = record {
          wants_are = moved.wants ∙ ties.stands.wants_are;
          owed_are = moved.owed ∙ ties.stands.owed_are;
          dropped = λ n from to. moved.dropped n ∙ ap (λ (b : Bool). b && are_none (wakings n told)) (ties.stands.dropped n from to);
        };
        answered = stays_answered past told all ties.answered;
      }

  -- ---- after a look at the time

  -- where those that would sleep and are not told are the same before such entries and after them
  pub upto_stays : (past told : List Entry) (t : ℕ) (h g : HostState) (tasks : List Task) (drops : ℕ → Bool) → AllByRecursion Stays told → MayLook past t h → MayLook (past ++ told) t g → clock past ≡ t
      → clock (past ++ told) ≡ t → sleepers g (asked (past ++ told)) (raw (past ++ told)) ≡ sleepers h (asked past) (raw past) → Upto t past tasks [] drops
      → Stand past told × Upto t (past ++ told) tasks [] (λ n. drops n && are_none (wakings n told))
  upto_stays past told t h g tasks drops all looks later at at_later same ties =
      let nodes : List ℕ = sleepers h (asked past) (raw past) in
      let is : seen t past ≡ each_with with_no_more (raw past) nodes =
      due_is heeds past t (asked past) (raw past) ∙ ap (λ (l : List ℕ). each_with with_no_more (raw past) l) (now_sleepers taken past t h (asked past) (raw past) looks at) in
      let is_later : seen t (past ++ told) ≡ each_with with_no_more (raw (past ++ told)) nodes =
      due_is heeds (past ++ told) t (asked (past ++ told)) (raw (past ++ told))
      ∙ ap (λ (l : List ℕ). each_with with_no_more (raw (past ++ told)) l) (now_sleepers taken (past ++ told) t g (asked (past ++ told)) (raw (past ++ told)) later at_later ∙ same) in
      let stands : Stands (each_with with_no_more (raw past) nodes) tasks [] drops = subst (λ (q : Queue). Stands q tasks [] drops) is ties.stands in
      let moved = all_moved past told all in (
        stays_fit past told all ties.answered (owed_before (raw past) nodes stands.owed_are),
        record {
          stands = subst (λ (q : Queue). Stands q tasks [] (λ n. drops n && are_none (wakings n told))) (sym is_later)
              (alike_stands (raw past) (raw (past ++ told)) nodes tasks drops (λ n. drops n && are_none (wakings n told)) moved.wants moved.owed
              (λ n from to was. moved.dropped n ∙ ap (λ (b : Bool). b && are_none (wakings n told)) was) stands);
          answered = stays_answered past told all ties.answered;
        },
      )

  -- the number of a tick: the host looked up to the tick before, and what a look at the time finds is as it was
  module _ (past : List Entry) (before : ℕ) (h : HostState) (looks : MayLook past (before + 1) h) (later : MayLook (past ++ entry.Time (before + 1) ∷ []) (before + 1) h)
      (at : clock (past ++ entry.Time (before + 1) ∷ []) ≡ before + 1) where
    abbrev number : Entry
    number = entry.Time (before + 1)

    first : queue_before heeds past number ≡ seen before past
    first = before_seen past number before refl (omega arith)

    raw_is : raw (past ++ number ∷ []) ≡ seen before past
    raw_is = one_more past number refl ∙ first

    told : (n : ℕ) → is_told (asked (past ++ number ∷ [])) (raw (past ++ number ∷ [])) n ≡ is_told (asked past) (seen before past) n
    told n =
        ap (λ (q : Queue). is_told (asked (past ++ number ∷ [])) q n) raw_is
        ∙ told_same (asked past) (asked (past ++ number ∷ [])) (seen before past) (seen before past) (number ∷ []) n (ap (λ (a : Asked). a.frame) (quiet_on past (number ∷ []) (tt, tt)))
        (ap (λ (a : Asked). a.following) (quiet_on past (number ∷ []) (tt, tt))) refl refl refl

    pub time_same : seen (before + 1) (past ++ number ∷ []) ≡ seen (before + 1) past
    time_same =
        due_is heeds (past ++ number ∷ []) (before + 1) (asked (past ++ number ∷ [])) (raw (past ++ number ∷ []))
        ∙ ap (λ (l : List ℕ). each_with with_no_more (raw (past ++ number ∷ [])) l)
        (now_sleepers taken (past ++ number ∷ []) (before + 1) h (asked (past ++ number ∷ [])) (raw (past ++ number ∷ [])) later at
        ∙ filter_same (λ (m : ℕ). would_sleep (node_of h m) && not (is_told (asked (past ++ number ∷ [])) (raw (past ++ number ∷ [])) m))
        (λ (m : ℕ). would_sleep (node_of h m) && not (is_told (asked past) (seen before past) m)) 1 232 (λ m from to. ap (λ (b : Bool). would_sleep (node_of h m) && not b) (told m))
        ∙ sym (since_sleepers taken past (before + 1) h (asked past) (raw past) before (omega arith) (omega arith) looks))
        ∙ ap (λ (q : Queue). each_with with_no_more q (dues_since heeds past before (before + 1) (asked past) (raw past))) raw_is
        ∙ sym (looks_twice heeds past before (before + 1) (asked past) (raw past) (omega arith))

    pub time_upto : (tasks : List Task) (owes : List ℕ) (drops : ℕ → Bool) → (seen before past).owed ≡ [] → Upto (before + 1) past tasks owes drops
        → Stand past (number ∷ []) × Upto (before + 1) (past ++ number ∷ []) tasks owes drops
    time_upto tasks owes drops owed ties = (
      (record { queues = inr (allowed past number ties.answered (ap (λ (q : Queue). q.owed) first ∙ owed)); goes = refl }, tt),
      record { stands = subst (λ (q : Queue). Stands q tasks owes drops) (sym time_same) ties.stands; answered = no_line heeds past number refl },
    )
