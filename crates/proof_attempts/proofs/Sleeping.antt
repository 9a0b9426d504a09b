-- Where a third attempt or a No More Information ends its node falls asleep, if it counts as awake and does not listen; and it stands where the transcript has that end.
use Rattle.std.proofs.Common.{◌≡◌, ◌⊎◌, ℕ, ◌+◌, ◌≤◌, ◌==◌, ◌&&◌, ◌||◌, not, nat_lt, Bool, true, false, if◌then◌else◌, inl, inr, All, List, [], ◌∷◌, ◌++◌, Option, None, refl, sym, ap, ap₂, ◌∙◌, subst, append_assoc}
use Rattle.std.specs.Prelude.{IsSome}
use Rattle.std.specs.List.{AllByRecursion, flat_map, list_any}
use Rattle.std.proofs.lemmas.Bool.{and_from, and_left, and_right, cases_eq, eq-eqb, or_left, or_right}
use Rattle.std.proofs.lemmas.List.Elements.{recursion_from_All}
use Rattle.zw_base.proofs.Each.{all-right}
use Rattle.chip_functions.specs.Field.{IsNode}
use Rattle.chip_functions.specs.Notice.{status_code}
use Rattle.chip_functions.specs.declared.notice.Notice.{Notice}
use Rattle.chip_functions.specs.declared.notice.Notice.TheVariants.{SendData as CalledBack}
use Rattle.chip_functions.specs.declared.notice.TransmitStatus.{TransmitStatus}
use Rattle.chip_functions.specs.declared.notice.TransmitStatus.TheVariants.{CompleteOk, NoAck, Fail, NotIdle, NoRoute}
use Rattle.chip_functions.specs.declared.request.Request.{Request}
use Rattle.chip_functions.specs.declared.request.Request.TheVariants as requests
use Rattle.chip_functions.specs.declared.request.TheConstants.{TRANSMIT_OPTIONS}
use Rattle.chip_functions.specs.declared.response.Response.{Response}
use Rattle.chip_functions.specs.declared.response.Response.TheVariants as responses
use Rattle.supervision.specs.Host.{open_session}
use Rattle.zw_text.specs.declared.entry.Ended.TheVariants as ended
use Rattle.zw_text.specs.declared.entry.Entry.{Entry}
use Rattle.zw_text.specs.declared.entry.Entry.TheVariants as entry
use Rattle.zw_text.specs.Transcript.{sessions, shown}
use Rattle.proof_work.specs.law_transcript.Restarts.{since_restart}
use Rattle.proof_work.specs.law_transcript.Stores.{node_at}
use Rattle.proof_work.specs.law_time.Ends.{calls_back, is_called_back, is_called_back_badly, is_ended_by_frame, is_ended_here, is_ending_here, is_given_up, is_refused_here, is_silent}
use Rattle.proof_work.specs.law_time.Interviews.{listens}
use Rattle.proof_work.specs.law_time.Judged.{is_directly_after, last_of, notices_here}
use Rattle.proof_work.specs.law_time.Requests.{asked, request_last}
use Rattle.proof_work.specs.law_time.Waking.{counts_awake, ends_telling, given_up_at, is_awake_sleeper, is_given_up_on, is_told, nodes_told, owes_sleep, owes_sleep_to_given_up}
use Rattle.host_requests.specs.declared.end.How.{How}
use Rattle.host_requests.specs.declared.end.How.TheVariants.{AtCallback, AtResponse, AtUpdate, Refused, Silent, LinkFailed, AbortSent}
use Rattle.host_requests.specs.declared.task.Purpose.{Purpose}
use Rattle.host_requests.specs.declared.task.Purpose.TheVariants.{Housekeeping, Attempt, Abort}
use Rattle.host_requests.specs.declared.task.Task.TheVariants.{NoMore, Plain, Second, Neighbours, IsFailed}
use Rattle.host_requests.specs.Frames.{no_more_information, request_of}
use Rattle.host_node.specs.declared.attempt.AttemptEnd.{AttemptEnd}
use Rattle.host_node.specs.declared.attempt.AttemptEnd.TheVariants.{NoneRan, Again, Unanswered}
use Rattle.host_node.specs.Facts.{NodeFacts}
use Rattle.host_node.specs.State.{NodeState, is_running}
use Rattle.host_node.specs.Steps.{after_again_tick, after_hold_tick, attempt_end, falls_asleep, tick_end}
use Rattle.proof_requests.specs.host_model.State.{HostState, node_of}
use Rattle.proof_requests.specs.host_model.Sessions.{open_command}
use Rattle.proof_requests.specs.host_model.Facts.{IsCommandOf}
use Rattle.proof_requests.specs.host_model.Ends.{PartEnd, Good, Passed_over, Bad, asleep_entry, attempt_entries, end_entries, failed_entry, neighbours_entry, out_entry, part_end, part_entries}
use Rattle.proof_requests.proofs.proof_waking_Apart.{wordless_more}
use Rattle.proof_requests.specs.Ends.{EndsHere}
use Rattle.proof_requests.proofs.Untold.{directly_one}
use Rattle.proof_attempts.specs.Asleep.{OwesNone}
use Rattle.proof_attempts.specs.Carried.{CarriesWell, nodes_of}
use Rattle.proof_attempts.proofs.Counting.{awake_since}
use Rattle.proof_attempts.proofs.Nodes.{again_same, ran}
use Rattle.proof_attempts.proofs.Opening.{OpenLast, last_is, open_last}
use Rattle.proof_attempts.proofs.Owing.{ArePlain, Goes, Law, first_go, may_stand, nothing_go, one_rested, owes_by, plain_go, rested_none}
use Rattle.proof_attempts.proofs.Releasing.{not_is, not_last, opens}
use Rattle.proof_attempts.proofs.Telling.{same_listens_by, same_sessions_by}

-- ---- a No More Information ends here

called_same : (id code : ℕ) (node : ℕ) (payload : List ℕ) (options : ℕ) (status : TransmitStatus) → (status_code status == code) ≡ true
    → calls_back code (requests.SendData node payload options id ∷ []) (CalledBack id status ∷ []) ≡ true
called_same id code node payload options status same = and_from (id == id) (status_code status == code) (eq-eqb id id refl) same

module _ (past : List Entry) (id n : ℕ) (request : request_last past ≡ request_of (Housekeeping (NoMore n)) id ∷ []) where
  called : (code : ℕ) (status : TransmitStatus) → (status_code status == code) ≡ true → notices_here past ≡ CalledBack id status ∷ [] → is_ending_here past ≡ true → is_called_back code past ≡ true
  called code status same notices here =
      and_from (calls_back code (request_last past) (notices_here past)) (is_ending_here past)
      (ap₂ (λ (q : List Request) (l : List Notice). calls_back code q l) request notices ∙ called_same id code n no_more_information TRANSMIT_OPTIONS status same) here

  by_frame : is_ended_by_frame past ≡ true → is_ended_here past ≡ true
  by_frame is = or_left (is_ended_by_frame past || is_silent past) (is_given_up past) (or_left (is_ended_by_frame past) (is_silent past) is)

  badly : is_called_back_badly past ≡ true → is_ended_here past ≡ true
  badly is = by_frame (or_left (is_called_back 0 past || is_called_back_badly past) (is_refused_here past) (or_right (is_called_back 0 past) (is_called_back_badly past) is))

  called_so : (status : TransmitStatus) → notices_here past ≡ CalledBack id status ∷ [] → is_ending_here past ≡ true → is_ended_here past ≡ true
  called_so CompleteOk notices here =
      by_frame (or_left (is_called_back 0 past || is_called_back_badly past) (is_refused_here past) (or_left (is_called_back 0 past) (is_called_back_badly past) (called 0 CompleteOk refl notices here)))
  called_so NoAck notices here =
      badly (or_left (is_called_back 1 past || is_called_back 2 past || is_called_back 3 past) (is_called_back 4 past)
      (or_left (is_called_back 1 past || is_called_back 2 past) (is_called_back 3 past) (or_left (is_called_back 1 past) (is_called_back 2 past) (called 1 NoAck refl notices here))))
  called_so Fail notices here =
      badly (or_left (is_called_back 1 past || is_called_back 2 past || is_called_back 3 past) (is_called_back 4 past)
      (or_left (is_called_back 1 past || is_called_back 2 past) (is_called_back 3 past) (or_right (is_called_back 1 past) (is_called_back 2 past) (called 2 Fail refl notices here))))
  called_so NotIdle notices here =
      badly (or_left (is_called_back 1 past || is_called_back 2 past || is_called_back 3 past) (is_called_back 4 past)
      (or_right (is_called_back 1 past || is_called_back 2 past) (is_called_back 3 past) (called 3 NotIdle refl notices here)))
  called_so NoRoute notices here =
      badly (or_right (is_called_back 1 past || is_called_back 2 past || is_called_back 3 past) (is_called_back 4 past) (called 4 NoRoute refl notices here))

  responds_not : (r : Response) → EndsHere past id (Housekeeping (NoMore n)) (AtResponse r) → ⊥
  responds_not (responses.SendData answer) ends = ends.so.1
  responds_not r ends = let bad : false ≡ true = ends.so.0 in cc

  how_so : (how : How) → EndsHere past id (Housekeeping (NoMore n)) how → is_ended_here past ≡ true
  how_so (AtCallback status) ends = called_so status ends.so.1 ends.so.2
  how_so (AtResponse r) ends = absurd (responds_not r ends)
  how_so (AtUpdate update first) ends = absurd (let bad : false ≡ true = ends.so.0 in cc)
  how_so Refused ends = by_frame (or_right (is_called_back 0 past || is_called_back_badly past) (is_refused_here past) ends.so.1)
  how_so Silent ends = or_left (is_ended_by_frame past || is_silent past) (is_given_up past) (or_right (is_ended_by_frame past) (is_silent past) ends.so)
  how_so LinkFailed ends = or_right (is_ended_by_frame past || is_silent past) (is_given_up past) ends.so
  how_so AbortSent ends = absurd (let bad = ends.so in cc)

pub ended_so : (past : List Entry) (id n : ℕ) (how : How) → EndsHere past id (Housekeeping (NoMore n)) how → is_ended_here past ≡ true
ended_so past id n how ends = how_so past id n ends.request how ends

-- ---- a host and its transcript

pub record Known (past : List Entry) (g : HostState) : Type 0 where
  pub begun : (n : ℕ) → sessions n past ≡ (node_of g n).book.commands
  pub owns : (n : ℕ) → All (IsCommandOf g.commands n) (node_of g n).book.commands
  pub facts : (n : ℕ) → NodeFacts (node_of g n)
  pub awake : (n : ℕ) → 1 ≤ n → n ≤ 232 → (node_of g n).awake ≡ counts_awake n past
  pub hears : (n : ℕ) → n ≤ 232 → listens n past ≡ (node_of g n).listens

none_any : (test : ℕ → Bool) → ((n : ℕ) → test n ≡ false) → (l : List ℕ) → list_any test l ≡ false
none_any test none [] = refl
none_any test none (n ∷ l) = ap (λ (b : Bool). b || list_any test l) (none n) ∙ none_any test none l

-- ---- how an attempt ends

abbrev pub EndSo : NodeState → AttemptEnd → Type 0
EndSo s (Unanswered fell) = (fell ≡ falls_asleep s) × (is_running s.series ≡ true)
EndSo s end = Unit {0}

pub attempt_so : (s : NodeState) → EndSo s (attempt_end s)
attempt_so s = by (is_running s.series) (nat_lt (s.book.attempts + 1) 3) refl
  where
    by : (runs few : Bool) → is_running s.series ≡ runs → EndSo s (if runs then (if few then Again else Unanswered (falls_asleep s)) else NoneRan)
    by true true is = tt
    by true false is = (refl, is)
    by false few is = tt

as_it_was : (s t : NodeState) (end : AttemptEnd) → falls_asleep t ≡ falls_asleep s → (is_running t.series ≡ true → is_running s.series ≡ true) → EndSo t end → EndSo s end
as_it_was s t NoneRan same runs so = tt
as_it_was s t Again same runs so = tt
as_it_was s t (Unanswered fell) same runs so = (so.0 ∙ same, runs so.1)

pub tick_so : (s : NodeState) → EndSo s (tick_end s)
tick_so s = by ((after_again_tick (after_hold_tick s)).attempt_wait == 1)
  where
    by : (b : Bool) → EndSo s (if b then attempt_end (after_again_tick (after_hold_tick s)) else NoneRan)
    by true =
        let t : NodeState = after_again_tick (after_hold_tick s) in
        as_it_was s t (attempt_end t) (again_same (λ m. falls_asleep m) (λ m. refl) (λ m ticks. refl) (after_hold_tick s)) (ran (after_hold_tick s)) (attempt_so t)
    by false = tt

module _ (past : List Entry) (g : HostState) (known : Known past g) where
  sleeper_is : (n : ℕ) → IsNode n → is_awake_sleeper n past ≡ falls_asleep (node_of g n)
  sleeper_is n (from, to) =
      ap₂ (λ (a b : Bool). a && not b) (sym (known.awake n from to)) (known.hears n to) ∙ ap (λ (b : Bool). (node_of g n).awake && b) (not_is (node_of g n).listens)

  -- ---- No More Information

  no_more_go : (told : List Entry) (n : ℕ) → IsNode n → nodes_told (asked past).frame ≡ n ∷ [] → ((e : Entry) (more : List Entry) → told ≡ e ∷ more → is_ended_here past ≡ true) → OwesNone past
      → told ≡ asleep_entry (falls_asleep (node_of g n)) n → Goes past told
  no_more_go told n is tells ends none are = by (falls_asleep (node_of g n)) refl are
    where
      told_it : is_told n (asked past).frame ≡ true
      told_it = ap (λ (l : List ℕ). list_any (λ one. one == n) l) tells ∙ ap (λ (b : Bool). b || false) (eq-eqb n n refl)

      by : (fell : Bool) → falls_asleep (node_of g n) ≡ fell → told ≡ asleep_entry fell n → Goes past told
      by true fell are =
          let law : Law past (entry.Asleep n) =
          and_from (is_awake_sleeper n past) (is_given_up_on n past || ends_telling n past) (sleeper_is n is ∙ fell)
          (or_right (is_given_up_on n past) (ends_telling n past) (and_from (is_told n (asked past).frame) (is_ended_here past) told_it (ends (entry.Asleep n) [] are))) in
          subst (Goes past) (sym are) (first_go past (entry.Asleep n) [] law (one_rested past (entry.Asleep n) (λ b. refl) refl) tt)
      by false fell are = nothing_go past told are none

  -- ---- a command goes unanswered

  module _ (n : ℕ) (is : IsNode n) (c : ℕ) (one : IsCommandOf g.commands n c) (last : last_of (node_of g n).book.commands ≡ c ∷ []) where
    abbrev out : Entry
    out = entry.Out c ended.Unanswered

    abbrev later : List Entry
    later = past ++ out ∷ []

    sleeper_same : (k : ℕ) → is_awake_sleeper k later ≡ is_awake_sleeper k past
    sleeper_same k = ap₂ (λ (a b : Bool). a && not b) (awake_since k past (out ∷ []) (since_restart past) (wordless_more past (out ∷ []) (tt, tt)) refl) (same_listens_by k past out refl)

    given_on : (k : ℕ) → is_given_up_on k later ≡ (list_any (λ carried. carried == c) (last_of (node_of g k).book.commands) || false)
    given_on k =
        ap (λ (l : List Entry). list_any (λ command. list_any (λ carried. carried == command) (last_of (sessions k later))) (flat_map given_up_at l)) (last_is past out)
        ∙ ap (λ (l : List ℕ). list_any (λ carried. carried == c) (last_of l) || false) (same_sessions_by k past out refl ∙ known.begun k)

    given_it : is_given_up_on n later ≡ true
    given_it = given_on n ∙ ap (λ (l : List ℕ). list_any (λ carried. carried == c) l || false) last ∙ ap (λ (b : Bool). (b || false) || false) (eq-eqb c c refl)

    -- no other node is given up on
    given_other : (k : ℕ) → falls_asleep (node_of g n) ≡ false → (is_given_up_on k later && is_awake_sleeper k later) ≡ false
    given_other k awake = elim (cases_eq n k) [
      | inl same ↦
          and_right (is_given_up_on k later) (is_awake_sleeper k later)
          (subst (λ (j : ℕ). is_awake_sleeper j later ≡ false) same (sleeper_same n ∙ sleeper_is n is ∙ awake))
      | inr differs ↦
          and_left (is_given_up_on k later) (is_awake_sleeper k later)
          (given_on k ∙ ap (λ (b : Bool). b || false)
          (not_last g.commands n k c (node_of g k).book.commands differs one (recursion_from_All (IsCommandOf g.commands k) (node_of g k).book.commands (known.owns k))))
    ]

    none_given : falls_asleep (node_of g n) ≡ false → owes_sleep_to_given_up later ≡ false
    none_given awake =
        none_any (λ node. is_given_up_on node later && is_awake_sleeper node later) (λ k. given_other k awake)
        (flat_map (λ command. shown (node_at command) later) (flat_map given_up_at (last_of later)))

    out_go : (told : List Entry) (fell : Bool) → owes_sleep past ≡ false → fell ≡ falls_asleep (node_of g n) → told ≡ out ∷ asleep_entry fell n → Goes past told
    out_go told fell owes is_so are = subst (Goes past) (sym are) (by fell is_so)
      where
        out_law : Law past out
        out_law = may_stand past out owes refl

        apart : is_directly_after later ≡ false
        apart = directly_one past out

        by : (b : Bool) → b ≡ falls_asleep (node_of g n) → Goes past (out ∷ asleep_entry b n)
        by true so =
            let law : Law later (entry.Asleep n) =
            and_from (is_awake_sleeper n later) (is_given_up_on n later || ends_telling n later) (sleeper_same n ∙ sleeper_is n is ∙ sym so) (or_left (is_given_up_on n later) (ends_telling n later) given_it) in
            ((out_law, (law, tt)), subst OwesNone (append_assoc past (out ∷ []) (entry.Asleep n ∷ [])) (rested_none (later ++ entry.Asleep n ∷ []) (one_rested later (entry.Asleep n) (λ b. refl) refl)))
        by false so = ((out_law, tt), rested_none later (apart, none_given (sym so)))

  opened_go : (told : List Entry) (n : ℕ) (fell : Bool) → IsNode n → owes_sleep past ≡ false → fell ≡ falls_asleep (node_of g n) → is_running (node_of g n).series ≡ true
      → ((open_session (node_of g n).book ≡ None) × (open_command (node_of g n) ≡ None)) ⊎ OpenLast (node_of g n) → told ≡ out_entry (open_command (node_of g n)) ++ asleep_entry fell n → Goes past told
  opened_go told n fell is owes so runs (inl none) are =
      absurd (let bad : false ≡ true = subst IsSome none.0 (opens (node_of g n).series (node_of g n) (known.facts n).series runs) in cc)
  opened_go told n fell is owes so runs (inr at) are =
      let all : AllByRecursion (IsCommandOf g.commands n) (at.front ++ at.command ∷ [])
      = subst (λ (l : List ℕ). AllByRecursion (IsCommandOf g.commands n) l) at.are (recursion_from_All (IsCommandOf g.commands n) (node_of g n).book.commands (known.owns n)) in
      let one = (all-right (IsCommandOf g.commands n) at.front (at.command ∷ []) all).0 in
      out_go n is at.command one at.last told fell owes so (are ∙ ap (λ (o : Option ℕ). out_entry o ++ asleep_entry fell n) at.opened)

  pub attempt_go : (told : List Entry) (n : ℕ) (end : AttemptEnd) → IsNode n → owes_sleep past ≡ false → OwesNone past → EndSo (node_of g n) end → told ≡ attempt_entries n end (open_command (node_of g n))
      → Goes past told
  attempt_go told n NoneRan is owes none so are = nothing_go past told are none
  attempt_go told n Again is owes none so are = nothing_go past told are none
  attempt_go told n (Unanswered fell) is owes none so are = opened_go told n fell is owes so.0 so.1 (open_last (node_of g n)) are

  -- ---- a request ends

  neighbours_plain : (n : ℕ) (how : How) → ArePlain (neighbours_entry n how)
  neighbours_plain n (AtResponse (responses.GetRoutingInfo nodes)) = ((tt, λ b. refl), tt)
  neighbours_plain n _ = tt

  failed_plain : (n : ℕ) (how : How) → ArePlain (failed_entry n how)
  failed_plain n (AtResponse (responses.IsFailedNode failed)) = ((tt, λ b. refl), tt)
  failed_plain n _ = tt

  nobody_told : nodes_told (asked past).frame ≡ [] → OwesNone past → owes_sleep past ≡ false
  nobody_told nobody none =
      owes_by past (and_right (is_directly_after past && is_ended_by_frame past) (list_any (λ node. is_awake_sleeper node past) (nodes_told (asked past).frame))
      (ap (λ (l : List ℕ). list_any (λ node. is_awake_sleeper node past) l) nobody)) none.1

  plainly : (told entries : List Entry) → told ≡ entries → ArePlain entries → nodes_told (asked past).frame ≡ [] → OwesNone past → Goes past told
  plainly told entries are plain nobody none = subst (Goes past) (sym are) (plain_go past entries plain (nobody_told nobody none) none)

  part_go : (told : List Entry) (n : ℕ) (end : PartEnd) → IsNode n → nodes_told (asked past).frame ≡ [] → OwesNone past → told ≡ part_entries g n end → Goes past told
  part_go told n Good is nobody none are = nothing_go past told are none
  part_go told n Passed_over is nobody none are = nothing_go past told are none
  part_go told n Bad is nobody none are = attempt_go told n (attempt_end (node_of g n)) is (nobody_told nobody none) none (attempt_so (node_of g n)) are

  pub purpose_go : (told : List Entry) (p : Purpose) (how : How) → CarriesWell p → nodes_told (asked past).frame ≡ nodes_of p
      → ((n : ℕ) → p ≡ Housekeeping (NoMore n) → (e : Entry) (more : List Entry) → told ≡ e ∷ more → is_ended_here past ≡ true) → OwesNone past
      → told ≡ end_entries g (record { purpose = p; how = how }) → Goes past told
  purpose_go told (Attempt n more payload) how well tells ends none are = part_go told n (part_end more how) well.0 tells none are
  purpose_go told (Housekeeping (NoMore n)) how well tells ends none are = no_more_go told n well tells (ends n refl) none are
  purpose_go told (Housekeeping (Plain n payload)) how well tells ends none are = plainly told _ are ((tt, λ b. refl), tt) tells none
  purpose_go told (Housekeeping (Second n)) how well tells ends none are = plainly told _ are ((tt, λ b. refl), tt) tells none
  purpose_go told (Housekeeping (Neighbours n)) how well tells ends none are = plainly told (neighbours_entry n how) are (neighbours_plain n how) tells none
  purpose_go told (Housekeeping (IsFailed n)) how well tells ends none are = plainly told (failed_entry n how) are (failed_plain n how) tells none
  purpose_go told (Housekeeping task) how well tells ends none are = nothing_go past told are none
  purpose_go told Abort how well tells ends none are = nothing_go past told are none
