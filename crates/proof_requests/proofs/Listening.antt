-- At each step of a host alone each node listens as its transcript tells: an interview that ends well says it by the frame that ended the request before the last one.
use Rattle.std.proofs.Common.{◌≡◌, ◌⊎◌, ℕ, ◌&&◌, Bool, true, false, if◌then◌else◌, inl, inr, List, [], ◌∷◌, ◌++◌, filter, length, refl, sym, ap, ◌∙◌, subst, arith}
use Rattle.std.specs.Prelude.{Option, Some, None, nat_le, nat_lt, slice_index}
use Rattle.std.specs.List.{AllByRecursion, list_all, list_any}
use Rattle.std.proofs.lemmas.Bool.{cases_eq, cases_lt, le-leb, le-ltb, lt-leb, lt-ltb}
use Rattle.chip_functions.specs.declared.request.Request.{Request}
use Rattle.chip_functions.specs.declared.request.Request.TheVariants.{GetNodeProtocolInfo}
use Rattle.chip_functions.specs.declared.notice.Update.{Update}
use Rattle.chip_functions.specs.declared.notice.Update.TheVariants.{Received, RequestFailed}
use Rattle.zw_text.specs.declared.entry.Entry.{Entry}
use Rattle.zw_text.specs.declared.entry.Entry.TheVariants as entry
use Rattle.proof_waking.specs.law_transcript.Units.{body_in, request_in}
use Rattle.proof_waking.specs.law_time.Moments.{Allows}
use Rattle.proof_waking.specs.law_time.Waking.{may_wake}
use Rattle.proof_waking.specs.law_time.Requests.{Asked as TheAsked, Judging, asked_before, failing, judged_since}
use Rattle.proof_waking.specs.law_time.Ends.{ending, ending_among, is_before_failing, wait_of}
use Rattle.proof_waking.specs.law_time.Interviews.{listens, says_listening}
use Rattle.host_requests.specs.Events.{interviewed_from}
use Rattle.host_requests.specs.Next.{ends_at_update}
use Rattle.host_requests.specs.declared.under_way.UnderWay.{UnderWay}
use Rattle.proof_messages.specs.host_model.State.{HostState}
use Rattle.proof_messages.specs.host_model.After.{after}
use Rattle.proof_messages.specs.host_model.Events.{HostEvent, Hears, Interviews, IsOwn}
use Rattle.proof_messages.specs.host_model.May.{May as MayHost, says_listens}
use Rattle.proof_messages.specs.host_model.Outs.{answers, outs}
use Rattle.proof_messages.proofs.Own.{sleepers_own, submitted_own}
use Rattle.proof_messages.proofs.Submitted.{next_is, no_more_is}
use Rattle.proof_waking.specs.proof_alone.State.{HostMachine, done}
use Rattle.proof_waking.specs.proof_alone.Steps.{AreTold, Step, Tells, Comes, Misses, Says, Says_nothing, Asks, Refuses, Shows, Restarts, Begins_tick, Numbers, Judges, Does, entries, happens}
use Rattle.proof_waking.specs.proof_alone.Phases.{Phase, Resting, Asked, Risen, Ticking, Open, Behind, Sleeping, Submitting, May}
use Rattle.proof_waking.specs.proof_alone.Runs.{Knowledge, Walk, both_know}
use Rattle.proof_waking.specs.proof_alone.Tables.{TieTables}
use Rattle.proof_waking.specs.proof_alone.Listening.{ListensAsTold}
use Rattle.proof_waking.proofs.proof_alone_Apart.{missed_are}
use Rattle.proof_waking.proofs.Listening.{IsNoInterview, LeavesRecords, OneGiven, TellsNone, answers_none, event_none, event_same, interviewed_here, interviewed_there, line_none, listening, listens_here, listens_more, listens_there, others_none, own_quiet, restart_same, says_now}
use Rattle.proof_requests.specs.Standing.{brought_of}
use Rattle.proof_requests.specs.Asking.{doing_of}
use Rattle.proof_requests.specs.Walking.{Ground, KeepsBrought, KnowsAsked, KnowsBrought, KnowsInterviews}
use Rattle.proof_requests.proofs.Doing.{IsBeside}
use Rattle.proof_requests.proofs.Judging.{ending_kinds, or_false}
use Rattle.proof_requests.proofs.Stepping.{asked_beside}

-- ---- what an interview that ends well was told

none_is : (capability : ℕ) → None ≡ Some capability → ⊥
none_is capability is = cc

some_is : (x y : ℕ) → Some x ≡ Some y → x ≡ y
some_is x y is = cc

-- a request is under way, and the host kept what the one before brought
interviewed_kept : (first : Option ℕ) (update : Update) (o : Option UnderWay) (capability : ℕ) → interviewed_from first update o ≡ Some capability
    → (u : UnderWay) × (o ≡ Some u) × (first ≡ Some capability)
interviewed_kept first (Received n basic generic specific classes) (Some u) capability is = (u, refl, by (ends_at_update (Received n basic generic specific classes) u) is)
  where
    by : (b : Bool) → (if b then first else None) ≡ Some capability → first ≡ Some capability
    by true is = is
    by false is = absurd (none_is capability is)
interviewed_kept first (Received n basic generic specific classes) None capability is = absurd (none_is capability is)
interviewed_kept first RequestFailed (Some u) capability is = absurd (none_is capability is)
interviewed_kept first RequestFailed None capability is = absurd (none_is capability is)

-- it is the byte of the frame that ended that
record IsBroughtBy (ends : List Judging) (capability : ℕ) : Type 0 where
  one : Judging
  more : List Judging
  are : ends ≡ one ∷ more
  byte : slice_index (body_in one.unit) 0 ≡ capability

brought_is : (requests : List Request) (ends : List Judging) (capability : ℕ) → brought_of requests ends ≡ Some capability → IsBroughtBy ends capability
brought_is requests [] capability is = absurd (none_is capability is)
brought_is (GetNodeProtocolInfo n ∷ requests) (one ∷ more) capability is =
    record { one = one; more = more; are = refl; byte = some_is (slice_index (body_in one.unit) 0) capability is }
brought_is requests (one ∷ more) capability is = absurd (none_is capability is)

-- just one does
one_of : (test : Judging → Bool) (l : List Judging) → (l ≡ []) ⊎ ((x : Judging) × (l ≡ x ∷ [])) → (one : Judging) (more : List Judging) → filter test l ≡ one ∷ more → more ≡ []
one_of test l (inl none) one more is = absurd (let bad : [] ≡ one ∷ more = sym (ap (λ (k : List Judging). filter test k) none) ∙ is in cc)
one_of test l (inr (x, are)) one more is = by (test x) (sym (ap (λ (k : List Judging). filter test k) are) ∙ is)
  where
    by : (b : Bool) → (if b then x ∷ [] else []) ≡ one ∷ more → more ≡ []
    by true same = cc
    by false same = absurd (let bad : [] ≡ one ∷ more = same in cc)

one_ends : (a : TheAsked) (one : Judging) (more : List Judging) → ending a ≡ one ∷ more → more ≡ []
one_ends a one more is =
    one_of (λ each. list_all (nat_lt each.tick) (wait_of a) && list_all (is_before_failing each) (failing a)) (ending_among a.frame true (judged_since a))
    (ending_kinds a.frame true (judged_since a)) one more is

-- bit 7 is the same on both sides
same_bit : (byte : ℕ) → nat_le 128 byte ≡ nat_lt 127 byte
same_bit byte = elim (cases_lt 127 byte) [
  | inl above ↦ le-leb 128 byte (omega (arith, above)) ∙ sym (lt-ltb 127 byte above)
  | inr low ↦ lt-leb 128 byte (omega (arith, low)) ∙ sym (le-ltb 127 byte low)
]

says_so : (a : TheAsked) (capability : ℕ) → IsBroughtBy (ending a) capability → list_any (λ one. says_listening one.unit) (ending a) ≡ says_listens capability
says_so a capability by =
    let alone : ending a ≡ by.one ∷ [] = by.are ∙ ap (λ (l : List Judging). by.one ∷ l) (one_ends a by.one by.more by.are) in
    ap (λ (l : List Judging). list_any (λ one. says_listening one.unit) l) alone ∙ or_false (says_listening by.one.unit)
    ∙ ap (λ (byte : ℕ). nat_le 128 byte) by.byte ∙ same_bit capability

told_now : (past : List Entry) (h : HostState) (n : ℕ) (listens : Bool) (classes : List ℕ) (update : Update) → MayHost h (Interviews n listens classes update)
    → KeepsBrought past (doing_of h) → says_now past ≡ listens
told_now past h n listens classes update (capability, is, says) keeps =
    let (u, under_way, first) = interviewed_kept h.requests.first update h.requests.under_way capability is.brought in
    says_so (asked_before past) capability (brought_is (request_in (asked_before past).frame) (ending (asked_before past)) capability (sym (keeps u under_way) ∙ first)) ∙ sym says

-- ---- events

interview_listens : (past : List Entry) (h : HostState) (n : ℕ) (says : Bool) (classes : List ℕ) (update : Update) → length h.nodes ≡ 233 → says_now past ≡ says → ListensAsTold past h
    → ListensAsTold (past ++ entry.Interviewed n ∷ []) (after h (Interviews n says classes update))
interview_listens past h n says classes update places now knows k within = elim (cases_eq k n) [
  | inl same ↦
      subst (λ (j : ℕ). listens j (past ++ entry.Interviewed n ∷ []) ≡ listening (after h (Interviews n says classes update)).nodes j) (sym same)
      (listens_here n past ∙ now ∙ sym (interviewed_here h n says classes update (omega (arith, places, within, same))))
  | inr other ↦ listens_there k n past other ∙ knows k within ∙ sym (interviewed_there h n k says classes update other)
]

same_known : (past told : List Entry) (h : HostState) → AllByRecursion TellsNone told → ListensAsTold past h → ListensAsTold (past ++ told) h
same_known past told h all knows k within = listens_more k past told all ∙ knows k within

beside_none : (event : HostEvent) → IsBeside event → IsNoInterview event
beside_none (Interviews n listens classes update) beside = absurd beside
beside_none event beside = tt

abbrev All : Knowledge
All = both_know (both_know Ground KnowsAsked) KnowsBrought

tables_at : (here : Phase) (past : List Entry) (m : HostMachine) → All here past m → TieTables past m.state m.records
tables_at here past m known = known.0.0.0.0.0.0.0

module _ (law : LeavesRecords) (one_given : OneGiven) where
  quiet_known : (past told : List Entry) (m : HostMachine) (event : HostEvent) → IsNoInterview event → AllByRecursion TellsNone told → TieTables past m.state m.records
      → TieTables (past ++ told) (done m event).state (done m event).records → ListensAsTold past m.state → ListensAsTold (past ++ told) (after m.state event)
  quiet_known past told m event none all was now knows k within =
      listens_more k past told all ∙ knows k within ∙ sym (event_same law one_given past (past ++ told) m event none was now k)

  part_known : (past told : List Entry) (m : HostMachine) (event : HostEvent) → IsNoInterview event → AreTold (outs m.state event) told → TieTables past m.state m.records
      → TieTables (past ++ told) (done m event).state (done m event).records → ListensAsTold past m.state → ListensAsTold (past ++ told) (after m.state event)
  part_known past told m event none is was now knows = quiet_known past told m event none (event_none m.state event told none is) was now knows

  behind_known : (past told : List Entry) (m : HostMachine) (event : HostEvent) → MayHost m.state event → AreTold (outs m.state event) told → KeepsBrought past (doing_of m.state)
      → TieTables past m.state m.records → TieTables (past ++ told) (done m event).state (done m event).records → ListensAsTold past m.state → ListensAsTold (past ++ told) (after m.state event)
  behind_known past told m (Interviews n says classes update) may (rest, is, none) keeps was now knows =
      subst (λ (l : List Entry). ListensAsTold (past ++ l) (after m.state (Interviews n says classes update))) (sym (is ∙ ap (λ (l : List Entry). entry.Interviewed n ∷ l) none))
      (interview_listens past m.state n says classes update was.facts.host.nodes.places (told_now past m.state n says classes update may keeps) knows)
  behind_known past told m event may is keeps was now knows = part_known past told m event tt is was now knows

  does_known : (here next : Phase) (past : List Entry) (m : HostMachine) (event : HostEvent) (told : List Entry) → May here m (Does event told) next → All here past m
      → TieTables (past ++ told) (done m event).state (done m event).records → ListensAsTold past m.state → ListensAsTold (past ++ told) (after m.state event)
  does_known (Ticking (first ∷ left)) next past m event told may was now knows =
      part_known past told m event (own_quiet event (subst IsOwn (sym may.0.0) was.0.0.0.0.1.0.0)) may.2 (tables_at (Ticking (first ∷ left)) past m was) now knows
  does_known (Behind (first ∷ left)) next past m event told may was now knows =
      behind_known past told m event may.1.0 may.2 was.1 (tables_at (Behind (first ∷ left)) past m was) now knows
  does_known Sleeping next past m event told may was now knows =
      let (node, wants, is, next_is) = may.0 in
      part_known past told m event (own_quiet event (subst IsOwn (sym is) (no_more_is IsOwn sleepers_own m.state node))) may.2 (tables_at Sleeping past m was) now knows
  does_known Submitting next past m event told may was now knows =
      part_known past told m event (own_quiet event (next_is IsOwn submitted_own m.state event may.0.0)) may.2 (tables_at Submitting past m was) now knows
  does_known (Ticking []) next past m event told may was now knows = absurd may.0
  does_known (Behind []) next past m event told may was now knows = absurd may.0
  does_known Resting next past m event told may was now knows = absurd may.0
  does_known (Asked line) next past m event told may was now knows = absurd may.0
  does_known Risen next past m event told may was now knows = absurd may.0
  does_known Open next past m event told may was now knows = absurd may.0

  -- ---- the walk

  step_goes : (here next : Phase) (past : List Entry) (m : HostMachine) (one : Step) → May here m one next → All here past m → All next (past ++ entries m one) (happens m one)
      → ListensAsTold past m.state → ListensAsTold (past ++ entries m one) (happens m one).state
  step_goes here next past m (Tells e) may was now knows = same_known past (e ∷ []) m.state (others_none e may.1, tt) knows
  step_goes here next past m (Comes unit) may was now knows = same_known past _ m.state (tt, tt) knows
  step_goes here next past m (Misses text marks) may was now knows =
      same_known past (entries m (Misses text marks)) m.state (tt, missed_are TellsNone line_none marks may.1) knows
  step_goes here next past m (Says words line) may was now knows = same_known past _ m.state (tt, tt) knows
  step_goes here next past m (Says_nothing words) may was now knows = same_known past _ m.state (tt, tt) knows
  step_goes here next past m (Asks event) may was now knows =
      quiet_known past (answers m.state event) m event (beside_none event (asked_beside may.0 m.state event may.2)) (answers_none m.state event) (tables_at here past m was)
      (tables_at next (past ++ answers m.state event) (happens m (Asks event)) now) knows
  step_goes here next past m (Refuses refusal) may was now knows = same_known past _ m.state (tt, tt) knows
  step_goes here next past m (Shows node) may was now knows = same_known past _ m.state (tt, tt) knows
  step_goes here next past m (Restarts state) may was now knows = λ k within.
      listens_more k past [] tt ∙ knows k within
      ∙ sym (restart_same one_given past (past ++ []) m.state state m.records (tables_at here past m was) (tables_at next (past ++ []) (happens m (Restarts state)) now) k)
  step_goes here next past m (Begins_tick left) may was now knows = same_known past [] m.state tt knows
  step_goes here next past m Numbers may was now knows = same_known past _ m.state (tt, tt) knows
  step_goes here next past m (Judges item rest behind told) may was now knows =
      part_known past told m (Hears item) tt may.1.told_so (tables_at here past m was) (tables_at next (past ++ told) (happens m (Judges item rest behind told)) now) knows
  step_goes here next past m (Does event told) may was now knows = does_known here next past m event told may was (tables_at next (past ++ told) (done m event) now) knows

  pub listening_walk : Walk (Allows may_wake) All → Walk (Allows may_wake) KnowsInterviews
  listening_walk base = record {
    step = λ here next past m one may known.
        let got = base.step here next past m one may known.0 in
        (got.0, (got.1, step_goes here next past m one may known.0 got.1 known.1));
    turn = λ here next past m turns known. (base.turn here next past m turns known.0, known.1);
  }
