-- What is known of what waits goes on with each item that is judged, by what is heeded of a frame, and with each event behind it.
use Rattle.std.proofs.Common.{◌≡◌, ◌≤◌, ℕ, ◌&&◌, not, Bool, true, false, if◌then◌else◌, inl, inr, List, [], ◌∷◌, ◌++◌, refl, sym, ap, ap₂, ◌∙◌, subst, append-nil}
use Rattle.std.specs.List.{AllByRecursion}
use Rattle.std.proofs.lemmas.Bool.{and_right}
use Rattle.zw_base.proofs.Each.{all-append, all-right, all-weaker}
use Rattle.serial_frame.specs.Frame.{FrameParts}
use Rattle.serial_frame.specs.Items.{unit_text}
use Rattle.serial_frame.specs.declared.item.Item.{Item}
use Rattle.serial_frame.specs.declared.item.Item.TheVariants.{Good, Refused as refused_item}
use Rattle.serial_frame.specs.declared.item.Refusal.TheVariants.{Stray, BadLength, BadSum, BadKind, Aborted}
use Rattle.serial_frame.specs.declared.unit.Unit.{Unit as LineUnit}
use Rattle.serial_frame.specs.declared.unit.Unit.TheVariants.{Ack, Nak, Can, Framed}
use Rattle.zw_words.specs.declared.side.Side.TheVariants.{Host}
use Rattle.zw_text.specs.declared.entry.Entry.{Entry}
use Rattle.zw_text.specs.declared.entry.Entry.TheVariants as entry
use Rattle.zw_text.specs.Transcript.{wakings}
use Rattle.host_heard.specs.declared.told.Told.{Told}
use Rattle.law_transcript.specs.Units.{Carried}
use Rattle.law_time.specs.Requests.{are_none}
use Rattle.law_time.specs.Judged.{brought_here}
use Rattle.law_time.specs.Wants.{wants_brought}
use Rattle.law_time.specs.Queue.{Queue, comes_at_once, each_with, is_full as queue_full, judges_first, lacks_places, queue_before, with_all_brought, with_asked, with_brought}
use Rattle.law_time.specs.Heeds.{Heeds}
use Rattle.host_requests.specs.Events.{RequestsEvent}
use Rattle.host_requests.specs.Events.RequestsEvent.{Fails, IsSent}
use Rattle.host_requests.specs.declared.task.Task.{Task}
use Rattle.host_model.specs.State.{HostState}
use Rattle.host_model.specs.After.{after}
use Rattle.host_model.specs.Did.{after_all}
use Rattle.host_model.specs.Events.{HostEvent, Drops_no_more, Hears, Queues_no_more, Requests_do}
use Rattle.host_model.specs.Outs.{answer_to, outs}
use Rattle.host_model.specs.Taking.{told_if}
use Rattle.host_model.specs.declared.out.HostOut.TheVariants.{Write}
use Rattle.proof_attempts.specs.proof_requests.law_host.Heard.{heeds_alone}
use Rattle.proof_attempts.specs.proof_requests.proof_alone.State.{HostMachine, done}
use Rattle.proof_attempts.specs.proof_requests.proof_alone.Steps.{AreTold, IsOfUnit, Judges}
use Rattle.proof_attempts.specs.proof_requests.proof_alone.Phases.{Open, Behind, IsJudgedNow, IsNumbered}
use Rattle.proof_attempts.specs.proof_requests.proof_alone.Careful.{Stage, Fresh, Reading, Read, Looked, Judging, MayJudge, stage_judged}
use Rattle.proof_attempts.specs.proof_requests.proof_waking.Judged.{IsOfRequest, KnowsJudged}
use Rattle.proof_attempts.proofs.proof_waking_Followed.{MayFollow, frame_all}
use Rattle.proof_attempts.proofs.proof_waking_Parts.{IsNoted, follow_told}
use Rattle.proof_attempts.proofs.Stepping.{not_awaiting}
use Rattle.proof_queue.specs.Heeding.{HeedsSo, PutsSo}
use Rattle.proof_queue.specs.Waiting.{dropped_by}
use Rattle.proof_queue.proofs.Books.{no_line}
use Rattle.proof_queue.proofs.Closing.{heard_upto}
use Rattle.proof_queue.proofs.Dropping.{IsNoPump, event_drops}
use Rattle.proof_queue.proofs.Frames.{marked_raw}
use Rattle.proof_queue.proofs.Knowing.{Know, RawBehind, RawM, UptoBehind, UptoM}
use Rattle.proof_queue.proofs.Loose.{Still, and_true, loose_raw, loose_upto, mark_still}
use Rattle.proof_queue.proofs.Noted.{full_told, notes_raw}
use Rattle.proof_queue.proofs.Pace.{FirstOr, Second, Unjudged, either_more, first_more, is_first, is_reading, judged_once, mark_second, mark_unjudged, noted_second, noted_unjudged, second_more}
use Rattle.proof_queue.proofs.Seeing.{View}
use Rattle.proof_queue.proofs.Sleeps.{Stands, drops_of}
use Rattle.proof_queue.proofs.Stills.{AreStill, none_still, told_if_still}
use Rattle.proof_queue.proofs.Orders.{is_among}
use Rattle.proof_queue.proofs.Ties.{Raw, Stand, Upto, allowed, before_raw, before_seen, one_more, raw, same_drops, seen}

-- ---- an item that is no frame

abbrev pub IsNoFrame : Item → Type 0
IsNoFrame (Good (Framed f)) = ⊥
IsNoFrame item = Unit {0}

-- what follows it is of the request alone, and what is told of it changes nothing
pub record Beside (m : HostMachine) (item : Item) (rest : List LineUnit) (behind : List HostEvent) (told : List Entry) : Type 0 where
  pub still : AreStill (after m.state (Hears item)) behind
  pub requests : AllByRecursion IsOfRequest behind
  pub quiet : AllByRecursion Still told
  pub unjudged : AllByRecursion Unjudged told
  pub second : AllByRecursion Second told
  pub empty : m.came ≡ [] → rest ≡ []

told_if_requests : (b : Bool) (event : RequestsEvent) (events : List HostEvent) → events ≡ told_if b event → AllByRecursion IsOfRequest events
told_if_requests b event events are = subst (AllByRecursion IsOfRequest) (sym are) (by b)
  where
    by : (b : Bool) → AllByRecursion IsOfRequest (told_if b event)
    by true = (tt, tt)
    by false = tt

none_come : (unit : LineUnit) (came rest : List LineUnit) → came ≡ unit ∷ rest → came ≡ [] → rest ≡ []
none_come unit came rest are none = absurd (let bad : unit ∷ rest ≡ [] = sym are ∙ none in cc)

-- a NAK, and what became of it
nak_all : (P : Entry → Type 0) → P (entry.Written Host (unit_text Nak)) → ((e : Entry) → IsOfUnit e → P e) → (told : List Entry) → AreTold (Write Nak ∷ []) told → AllByRecursion P told
nak_all P one marks told (more, rest, is, all, none) =
    subst (AllByRecursion P) (sym is) (one, all-append P more rest (all-weaker IsOfUnit P marks more all) (subst (AllByRecursion P) (sym none) tt))

none_all : (P : Entry → Type 0) (told : List Entry) → told ≡ [] → AllByRecursion P told
none_all P told is = subst (AllByRecursion P) (sym is) tt

answered : (m : HostMachine) (item : Item) (rest : List LineUnit) (behind : List HostEvent) (told : List Entry) → IsNoFrame item → AreStill (after m.state (Hears item)) behind
    → AllByRecursion IsOfRequest behind → AreTold (answer_to item) told → (m.came ≡ [] → rest ≡ []) → Beside m item rest behind told
answered m item rest behind told other still requests are empty = record {
  still = still;
  requests = requests;
  quiet = all Still refl mark_still item other are;
  unjudged = all Unjudged refl mark_unjudged item other are;
  second = all Second refl mark_second item other are;
  empty = empty;
}
  where
    all : (P : Entry → Type 0) → P (entry.Written Host (unit_text Nak)) → ((e : Entry) → IsOfUnit e → P e) → (item : Item) → IsNoFrame item → AreTold (answer_to item) told → AllByRecursion P told
    all P one marks (Good (Framed f)) other are = absurd other
    all P one marks (Good Ack) other are = none_all P told are
    all P one marks (Good Nak) other are = none_all P told are
    all P one marks (Good Can) other are = none_all P told are
    all P one marks (refused_item (BadSum want got)) other are = nak_all P one marks told are
    all P one marks (refused_item (BadKind x)) other are = nak_all P one marks told are
    all P one marks (refused_item (Stray x)) other are = none_all P told are
    all P one marks (refused_item (BadLength n)) other are = none_all P told are
    all P one marks (refused_item Aborted) other are = none_all P told are

beside : (m : HostMachine) (item : Item) (rest : List LineUnit) (behind : List HostEvent) (told : List Entry) → IsNoFrame item → IsJudgedNow m item rest behind told → Beside m item rest behind told
beside m (Good (Framed f)) rest behind told other now = absurd other
beside m (Good Ack) rest behind told other now =
    answered m (Good Ack) rest behind told tt (told_if_still (after m.state (Hears (Good Ack))) _ IsSent behind tt now.followed) (told_if_requests _ IsSent behind now.followed) now.told_so
    (none_come Ack m.came rest now.takes)
beside m (Good Nak) rest behind told other now =
    answered m (Good Nak) rest behind told tt (told_if_still (after m.state (Hears (Good Nak))) _ Fails behind tt now.followed) (told_if_requests _ Fails behind now.followed) now.told_so
    (none_come Nak m.came rest now.takes)
beside m (Good Can) rest behind told other now =
    answered m (Good Can) rest behind told tt (told_if_still (after m.state (Hears (Good Can))) _ Fails behind tt now.followed) (told_if_requests _ Fails behind now.followed) now.told_so
    (none_come Can m.came rest now.takes)
beside m (refused_item refusal) rest behind told other now =
    answered m (refused_item refusal) rest behind told tt (none_still _ behind now.followed) (subst (AllByRecursion IsOfRequest) (sym now.followed) tt) now.told_so (λ none. now.takes ∙ none)

-- ---- a frame

-- what is brought drops no No More Information
each_kept : {A : Type 0} (put : Queue → A → Queue) → ((q : Queue) (item : A) → (put q item).dropped ≡ q.dropped) → (q : Queue) (items : List A) → (each_with put q items).dropped ≡ q.dropped
each_kept put kept q [] = refl
each_kept put kept q (item ∷ items) = each_kept put kept (put q item) items ∙ kept q item

asked_kept : (n : ℕ) (q : Queue) (want : List ℕ) → (with_asked n q want).dropped ≡ q.dropped
asked_kept n q want = by (queue_full q)
  where
    by : (b : Bool) → (if b then record q { owed = q.owed ++ n ∷ [] } else record q { wants = q.wants ++ want ∷ [] }).dropped ≡ q.dropped
    by true = refl
    by false = refl

brought_kept : (heeds : Heeds) (past : List Entry) (q : Queue) → (with_all_brought heeds past [] q).dropped ≡ q.dropped
brought_kept heeds past q =
    each_kept (with_brought heeds past []) (λ k carried. each_kept (with_asked carried.node) (asked_kept carried.node) k (wants_brought heeds past [] carried)) q (brought_here past)

-- ---- behind an item

follows_no_pump : (unit : List ℕ) (event : HostEvent) → MayFollow unit event → IsNoPump event
follows_no_pump unit (Queues_no_more n) may = absurd may
follows_no_pump unit (Drops_no_more n) may = absurd may
follows_no_pump unit event may = tt

-- each is noted, and is no pump
pub record Follows (h : HostState) (event : HostEvent) (told : List Entry) : Type 0 where
  pub noted : AllByRecursion IsNoted told
  pub no_pump : IsNoPump event

pub behind_follows : (first : HostEvent) (left : List HostEvent) (past : List Entry) (m : HostMachine) (told : List Entry) → KnowsJudged (Behind (first ∷ left)) past m → AreTold (outs m.state first) told
    → Follows m.state first told
behind_follows first left past m told (frames, inl behind) is =
    let unit : List ℕ = unit_text (Framed behind.frame.frame) in
    let follow = frame_all behind.frame.first behind.frame.frame (behind.frame.gone ++ (first ∷ left)) behind.frame.followed in
    let may = (all-right (MayFollow unit) behind.frame.gone (first ∷ left) follow).0 in
    record { noted = (follow_told unit m.state first told may is).noted_are; no_pump = follows_no_pump unit first may }
behind_follows first left past m told (frames, inr (requests, settled)) is = by first requests.0 is
  where
    by : (event : HostEvent) → IsOfRequest event → AreTold (outs m.state event) told → Follows m.state event told
    by (Requests_do event moment) of told_so = record { noted = (follow_told [] m.state (Requests_do event moment) told tt told_so).noted_are; no_pump = tt }
    by event of told_so = absurd of

module _ (taken : List Entry → Carried → List Told) where
  -- ---- an item that is no frame

  module _ (past : List Entry) (m : HostMachine) (item : Item) (rest : List LineUnit) (behind : List HostEvent) (told : List Entry) (numbered : IsNumbered m told) (is : Beside m item rest behind told) where
    abbrev heard : HostState
    heard = after m.state (Hears item)

    abbrev later : HostMachine
    later = record (done m (Hears item)) { came = rest }

    beside_raw : RawM taken past m → Stand taken past told × RawBehind taken behind (past ++ told) later
    beside_raw (now, ties) =
        let goes = loose_raw taken past told m.state.requests.queue (drops_of m.state) is.quiet ties in (
          goes.0,
          (
            now,
            subst (λ (q : List Task). Raw taken (past ++ told) q (dropped_by heard behind) (drops_of m.state)) (sym is.still.queue)
                (subst (λ (l : List ℕ). Raw taken (past ++ told) m.state.requests.queue l (drops_of m.state)) (sym is.still.drops) goes.1),
          ),
        )

    beside_upto : View past m.clock m.state m.awaits → View (past ++ told) m.clock heard m.awaits → UptoM taken past m → FirstOr past m
        → Stand taken past told × UptoBehind taken behind (past ++ told) later
    beside_upto sees after_it ties first =
        let goes = by m.awaits refl in (
          goes.0,
          (subst (λ (q : List Task). Upto taken m.clock (past ++ told) q [] (drops_of m.state)) (sym is.still.queue) goes.1, is.requests, first_on first),
        )
      where
        first_on : FirstOr past m → FirstOr (past ++ told) later
        first_on (inl it) = inl (first_more past told is.unjudged it)
        first_on (inr none) = inr (is.empty none)

        by : (b : Bool) → m.awaits ≡ b → Stand taken past told × Upto taken m.clock (past ++ told) m.state.requests.queue [] (drops_of m.state)
        by true awaits =
            subst (λ (l : List Entry). Stand taken past l × Upto taken m.clock (past ++ l) m.state.requests.queue [] (drops_of m.state)) (sym (numbered awaits))
            (tt, subst (λ (l : List Entry). Upto taken m.clock l m.state.requests.queue [] (drops_of m.state)) (sym (append-nil past)) ties)
        by false now =
            loose_upto taken past told m.clock m.state heard m.state.requests.queue (drops_of m.state) (λ n from to. refl) is.quiet sees.may after_it.may (sees.now now) (after_it.now now) ties

  -- ---- a frame

  abbrev acknowledged : Entry
  acknowledged = entry.Written Host (unit_text Ack)

  -- where the host has looked, or has not
  frame_raw : (past : List Entry) (m : HostMachine) (f : FrameParts) (rest : List LineUnit) (behind : List HostEvent) (marks : List Entry) → AllByRecursion IsOfUnit marks
      → PutsSo (heeds_alone taken) (past ++ acknowledged ∷ []) (after m.state (Hears (Good (Framed f)))) behind → lacks_places (heeds_alone taken) past ≡ false
      → Stands (queue_before (heeds_alone taken) past acknowledged) m.state.requests.queue [] (drops_of m.state)
      → Stand taken past (acknowledged ∷ marks)
      × Raw taken (past ++ acknowledged ∷ marks) (after_all (after m.state (Hears (Good (Framed f)))) behind).requests.queue (dropped_by (after m.state (Hears (Good (Framed f)))) behind) (drops_of m.state)
  frame_raw past m f rest behind marks all puts lacks stands =
      let q : Queue = queue_before (heeds_alone taken) past acknowledged in
      let heard : HostState = after m.state (Hears (Good (Framed f))) in
      let put = puts q (record { wants_are = stands.wants_are; owed_are = stands.owed_are }) in
      marked_raw taken past acknowledged marks (after_all heard behind).requests.queue (dropped_by heard behind) (drops_of m.state) all
      (record { queues = inr (allowed taken past acknowledged lacks stands.owed_are); goes = refl })
      (record {
        stands = subst (λ (k : Queue). Stands k (after_all heard behind).requests.queue (dropped_by heard behind) (drops_of m.state)) (sym (one_more taken past acknowledged refl))
            (record {
              wants_are = put.wants_are;
              owed_are = put.owed_are;
              dropped = λ n from to.
                  ap (λ (l : List ℕ). is_among l n) (brought_kept (heeds_alone taken) (past ++ acknowledged ∷ []) q) ∙ stands.dropped n from to;
            });
        answered = no_line (heeds_alone taken) past acknowledged refl;
      })

  looks_first : (past : List Entry) (first once : Bool) → is_first past ≡ first → comes_at_once past ≡ once → judges_first past ≡ (first && not once)
  looks_first past first once is at = ap₂ (λ (a b : Bool). a && not b) is at

  -- what waits before it, and no line is to be refused for places
  abbrev FrameWaits : List Entry → HostMachine → Type 0
  FrameWaits past m =
      Stands (queue_before (heeds_alone taken) past acknowledged) m.state.requests.queue [] (drops_of m.state) × (lacks_places (heeds_alone taken) past ≡ false)

  -- where it was not the first that is judged, or was
  frame_unlooked : (past : List Entry) (m : HostMachine) → judges_first past ≡ false → RawM taken past m → FrameWaits past m
  frame_unlooked past m none (now, ties) =
      (subst (λ (q : Queue). Stands q m.state.requests.queue [] (drops_of m.state)) (sym (before_raw taken past acknowledged none)) ties.stands, ties.answered)

  frame_looked : (past : List Entry) (m : HostMachine) → m.awaits ≡ false → judges_first past ≡ true → View past m.clock m.state m.awaits → UptoM taken past m → FrameWaits past m
  frame_looked past m now looks sees ties = (
    subst (λ (q : Queue). Stands q m.state.requests.queue [] (drops_of m.state)) (sym (before_seen taken past acknowledged m.clock looks (sees.now now))) ties.stands,
    ties.answered,
  )

  pub frame_waits : (stage : Stage) (past : List Entry) (m : HostMachine) (f : FrameParts) (rest : List LineUnit) → m.came ≡ Framed f ∷ rest → m.awaits ≡ false → MayJudge stage
      → comes_at_once past ≡ is_reading stage → (stage ≡ Looked → FirstOr past m) → View past m.clock m.state m.awaits → Know taken Open stage past m → FrameWaits past m
  frame_waits stage past m f rest takes now may at_once first sees known = at stage may at_once first known
    where
      first_is : FirstOr past m → is_first past ≡ true
      first_is (inl it) = it
      first_is (inr empty) = absurd (let bad : Framed f ∷ rest ≡ [] = sym takes ∙ empty in cc)

      looked : comes_at_once past ≡ false → FirstOr past m → UptoM taken past m → FrameWaits past m
      looked once or ties = frame_looked past m now (looks_first past true false (first_is or) once) sees ties

      at : (stage : Stage) → MayJudge stage → comes_at_once past ≡ is_reading stage → (stage ≡ Looked → FirstOr past m) → Know taken Open stage past m → FrameWaits past m
      at Fresh may once or known = absurd may
      at Read may once or known = absurd may
      at Reading may once or known = frame_unlooked past m (looks_first past (is_first past) true refl once ∙ and_right (is_first past) false refl) known
      at Looked may once or known = looked once (or refl) known
      at Judging may once or (inl (ties, first)) = looked once first ties
      at Judging may once or (inr (raw, gone)) = frame_unlooked past m (looks_first past false (comes_at_once past) gone refl) raw

  -- ---- each item

  frame_goes : (stage : Stage) (past : List Entry) (m : HostMachine) (f : FrameParts) (rest : List LineUnit) (behind : List HostEvent) (told : List Entry)
      → IsJudgedNow m (Good (Framed f)) rest behind told → MayJudge stage → comes_at_once past ≡ is_reading stage → (stage ≡ Looked → FirstOr past m)
      → PutsSo (heeds_alone taken) (past ++ acknowledged ∷ []) (after m.state (Hears (Good (Framed f)))) behind → View past m.clock m.state m.awaits → Know taken Open stage past m
      → Stand taken past told × Know taken (Behind behind) (stage_judged stage) (past ++ told) (record (done m (Hears (Good (Framed f)))) { came = rest })
  frame_goes stage past m f rest behind told now may at_once first puts sees known = by now.told_so
    where
      by : AreTold (Write Ack ∷ []) told → Stand taken past told × Know taken (Behind behind) (stage_judged stage) (past ++ told) (record (done m (Hears (Good (Framed f)))) { came = rest })
      by (marks, more, is, all, none) =
          subst (λ (l : List Entry). Stand taken past l × Know taken (Behind behind) (stage_judged stage) (past ++ l) (record (done m (Hears (Good (Framed f)))) { came = rest })) (sym are)
          (goes.0, at stage may)
        where
          are : told ≡ acknowledged ∷ marks
          are = is ∙ ap (λ (l : List Entry). acknowledged ∷ (marks ++ l)) none ∙ ap (λ (l : List Entry). acknowledged ∷ l) (append-nil marks)

          unnumbered : m.awaits ≡ false
          unnumbered = not_awaiting m.awaits acknowledged told marks now.numbered are

          gone : is_first (past ++ acknowledged ∷ marks) ≡ false
          gone = judged_once past marks (all-weaker IsOfUnit Second mark_second marks all)

          waits : FrameWaits past m
          waits = frame_waits stage past m f rest now.takes unnumbered may at_once first sees known

          goes : Stand taken past (acknowledged ∷ marks)
              × Raw taken (past ++ acknowledged ∷ marks) (after_all (after m.state (Hears (Good (Framed f)))) behind).requests.queue (dropped_by (after m.state (Hears (Good (Framed f)))) behind) (drops_of m.state)
          goes = frame_raw past m f rest behind marks all puts waits.1 waits.0

          at : (stage : Stage) → MayJudge stage → Know taken (Behind behind) (stage_judged stage) (past ++ acknowledged ∷ marks) (record (done m (Hears (Good (Framed f)))) { came = rest })
          at Fresh may = absurd may
          at Read may = absurd may
          at Reading may = (unnumbered, goes.1)
          at Looked may = inr ((unnumbered, goes.1), gone)
          at Judging may = inr ((unnumbered, goes.1), gone)

  beside_goes : (stage : Stage) (past : List Entry) (m : HostMachine) (item : Item) (rest : List LineUnit) (behind : List HostEvent) (told : List Entry) → IsNumbered m told
      → Beside m item rest behind told → MayJudge stage → (stage ≡ Looked → FirstOr past m) → View past m.clock m.state m.awaits → View (past ++ told) m.clock (after m.state (Hears item)) m.awaits
      → Know taken Open stage past m → Stand taken past told × Know taken (Behind behind) (stage_judged stage) (past ++ told) (record (done m (Hears item)) { came = rest })
  beside_goes Fresh past m item rest behind told numbered is may first sees after_it known = absurd may
  beside_goes Read past m item rest behind told numbered is may first sees after_it known = absurd may
  beside_goes Reading past m item rest behind told numbered is may first sees after_it known = beside_raw past m item rest behind told numbered is known
  beside_goes Looked past m item rest behind told numbered is may first sees after_it known =
      let goes = beside_upto past m item rest behind told numbered is sees after_it known (first refl) in (goes.0, inl goes.1)
  beside_goes Judging past m item rest behind told numbered is may first sees after_it (inl (ties, or)) =
      let goes = beside_upto past m item rest behind told numbered is sees after_it ties or in (goes.0, inl goes.1)
  beside_goes Judging past m item rest behind told numbered is may first sees after_it (inr (raw, gone)) =
      let goes = beside_raw past m item rest behind told numbered is raw in (goes.0, inr (goes.1, second_more past told is.second gone))

  pub judges : (stage : Stage) (past : List Entry) (m : HostMachine) (item : Item) (rest : List LineUnit) (behind : List HostEvent) (told : List Entry) → IsJudgedNow m item rest behind told
      → MayJudge stage → comes_at_once past ≡ is_reading stage → (stage ≡ Looked → FirstOr past m) → HeedsSo (heeds_alone taken) past m (Judges item rest behind told)
      → View past m.clock m.state m.awaits → View (past ++ told) m.clock (after m.state (Hears item)) m.awaits → Know taken Open stage past m
      → Stand taken past told × Know taken (Behind behind) (stage_judged stage) (past ++ told) (record (done m (Hears item)) { came = rest })
  judges stage past m (Good (Framed f)) rest behind told now may at_once first heeds sees after_it known = frame_goes stage past m f rest behind told now may at_once first heeds sees known
  judges stage past m item rest behind told now may at_once first heeds sees after_it known =
      beside_goes stage past m item rest behind told now.numbered (beside m item rest behind told tt now) may first sees after_it known

  -- ---- an event behind it

  module _ (first : HostEvent) (left : List HostEvent) (past : List Entry) (m : HostMachine) (told : List Entry) (is : AreTold (outs m.state first) told) (numbered : IsNumbered m told)
      (follows : Follows m.state first told) (sees : View past m.clock m.state m.awaits) (after_it : View (past ++ told) m.clock (after m.state first) m.awaits) where
    abbrev tasks : List Task
    tasks = (after_all (after m.state first) left).requests.queue

    abbrev owes : List ℕ
    owes = dropped_by (after m.state first) left

    drops_on : (n : ℕ) → 1 ≤ n → n ≤ 232 → (drops_of m.state n && are_none (wakings n told)) ≡ drops_of (after m.state first) n
    drops_on n from to = sym (event_drops m.state first told sees.work follows.no_pump is n from to)

    behind_raw : RawBehind taken (first ∷ left) past m → Stand taken past told × RawBehind taken left (past ++ told) (done m first)
    behind_raw (now, ties) =
        let goes = notes_raw taken past told tasks owes (drops_of m.state) follows.noted
        (subst (λ (l : List ℕ). Raw taken past tasks (l ++ owes) (drops_of m.state)) (sym (full_told (outs m.state first) told is)) ties) in
        (goes.0, (now, record { stands = same_drops (raw taken (past ++ told)) tasks owes (λ n. drops_of m.state n && are_none (wakings n told)) (drops_of (after m.state first)) drops_on goes.1.stands; answered = goes.1.answered }))

    -- one that the request hears, while the number of the tick is still to be entered, or stands
    behind_heard : (b : Bool) → m.awaits ≡ b → (event : HostEvent) → first ≡ event → IsOfRequest event → Upto taken m.clock past tasks [] (drops_of m.state)
        → Stand taken past told × Upto taken m.clock (past ++ told) tasks [] (drops_of (after m.state first))
    behind_heard true awaits event same of ties =
        let none : told ≡ [] = numbered awaits in (
          subst (λ (l : List Entry). Stand taken past l) (sym none) tt,
          record {
            stands = same_drops (seen taken m.clock (past ++ told)) tasks [] (drops_of m.state) (drops_of (after m.state first))
                (λ n from to. and_true (drops_of m.state n) ∙ sym (ap (λ (l : List Entry). drops_of m.state n && are_none (wakings n l)) none) ∙ drops_on n from to) (unmoved none).stands;
            answered = (unmoved none).answered;
          },
        )
      where
        unmoved : told ≡ [] → Upto taken m.clock (past ++ told) tasks [] (drops_of m.state)
        unmoved none = subst (λ (l : List Entry). Upto taken m.clock l tasks [] (drops_of m.state)) (sym (ap (λ (l : List Entry). past ++ l) none ∙ append-nil past)) ties
    behind_heard false now (Requests_do event moment) same of ties =
        let sees_now : View past m.clock m.state false = subst (λ (b : Bool). View past m.clock m.state b) now sees in
        let sees_later : View (past ++ told) m.clock (after m.state (Requests_do event moment)) false
        = subst (λ (e : HostEvent). View (past ++ told) m.clock (after m.state e) false) same (subst (λ (b : Bool). View (past ++ told) m.clock (after m.state first) b) now after_it) in
        subst (λ (e : HostEvent). Stand taken past told × Upto taken m.clock (past ++ told) tasks [] (drops_of (after m.state e))) (sym same)
        (heard_upto taken past told m.clock m.state event moment sees_now sees_later (subst (λ (e : HostEvent). AreTold (outs m.state e) told) same is) follows.noted tasks ties)
    behind_heard false now event same of ties = absurd of

    pub behind_goes : (stage : Stage) → Know taken (Behind (first ∷ left)) stage past m → Stand taken past told × Know taken (Behind left) stage (past ++ told) (done m first)
    behind_goes Reading known = behind_raw known
    behind_goes Judging (inl (ties, requests, or)) =
        let goes = behind_heard m.awaits refl first refl requests.0 ties in
        (goes.0, inl (goes.1, requests.1, either_more past told m (done m first) (all-weaker IsNoted Unjudged noted_unjudged told follows.noted) refl or))
    behind_goes Judging (inr (raw, gone)) =
        let goes = behind_raw raw in (goes.0, inr (goes.1, second_more past told (all-weaker IsNoted Second noted_second told follows.noted) gone))
    behind_goes Fresh known = absurd known
    behind_goes Read known = absurd known
    behind_goes Looked known = absurd known
