-- What the end of a request in a host makes of the course of notes, at each phase of a host alone: behind a frame, and in a tick.
use Rattle.std.proofs.Common.{◌≡◌, ℕ, true, List, [], ◌∷◌, ◌++◌, Option, Some, refl, sym, ap, ◌∙◌, subst}
use Rattle.std.specs.Prelude.{is_none}
use Rattle.zw_text.specs.declared.entry.Entry.{Entry}
use Rattle.zw_text.specs.declared.entry.Entry.TheVariants as entry
use Rattle.law_transcript.specs.Lists.{EachAfter}
use Rattle.law_time.specs.Errands.{errand}
use Rattle.law_time.specs.Heeds.{Heeds}
use Rattle.law_time.specs.Interviews.{fails}
use Rattle.law_time.specs.Moments.{clock}
use Rattle.host_requests.specs.Events.{RequestsEvent, end_at}
use Rattle.host_requests.specs.Next.{end_from, end_of, next_from}
use Rattle.host_requests.specs.declared.end.How.{How}
use Rattle.host_requests.specs.declared.end.How.TheVariants.{AbortSent}
use Rattle.host_requests.specs.declared.next.Next.{Next}
use Rattle.host_requests.specs.declared.next.Next.TheVariants.{Ends as ends_so}
use Rattle.host_requests.specs.declared.task.Task.TheVariants.{Second}
use Rattle.host_requests.specs.declared.task.Purpose.{Purpose}
use Rattle.host_requests.specs.declared.task.Purpose.TheVariants.{Housekeeping}
use Rattle.host_requests.specs.declared.under_way.UnderWay.{UnderWay}
use Rattle.host_node.specs.Steps.{falls_asleep}
use Rattle.host_node.specs.State.{NodeState}
use Rattle.host_node.specs.TableState.{node_of as node_among}
use Rattle.host_node.specs.declared.attempt.Moment.TheVariants.{BetweenTicks}
use Rattle.host_model.specs.State.{HostState}
use Rattle.host_model.specs.After.{after, requests_do}
use Rattle.host_model.specs.Ends.{end_entries, end_entries_if}
use Rattle.host_model.specs.Events.{Requests_do}
use Rattle.host_model.specs.Outs.{request_entries}
use Rattle.proof_ends.specs.Ends.{nodes_asked}
use Rattle.proof_ends.specs.proof_attempts.Asleep.{KnowsSleep}
use Rattle.proof_ends.specs.proof_attempts.Since.{IsElse}
use Rattle.proof_ends.specs.proof_requests.Asking.{doing_from, doing_of}
use Rattle.proof_ends.specs.proof_requests.Carrying.{CarriesSo}
use Rattle.proof_ends.specs.proof_requests.Ends.{EndsBy, EndsFrom, EndsHere, TellsEnd}
use Rattle.proof_ends.specs.proof_requests.law_host.Course.{Course}
use Rattle.proof_ends.specs.proof_requests.law_host.Ends.{ends_by_frame}
use Rattle.proof_ends.specs.proof_requests.proof_alone.Phases.{Phase}
use Rattle.proof_ends.specs.proof_requests.proof_alone.State.{HostMachine}
use Rattle.proof_ends.proofs.Interviews.{interviews_may}
use Rattle.proof_ends.proofs.Noting.{asked_by, purpose_asks}
use Rattle.proof_ends.proofs.Walking.{ShowsOpen, end_of_it, event_way, nodes_so}
use Rattle.proof_following.specs.Ended.{AreGone, EndingOf, IsByFrame, NotedSo, noted_by, outcome_entries}
use Rattle.proof_following.proofs.Framing.{OwesEnd, frame_goes}

module _ (shows : ShowsOpen) (heeds : Heeds) (here : Phase) (past : List Entry) (m : HostMachine) (ground : KnowsSleep here past m) (other : IsElse here)
    (errands : errand heeds.listing past ≡ nodes_asked past) where
  -- what is known of the request under way, in a host with the same nodes
  pub ending_of : (u : UnderWay) → m.state.requests.under_way ≡ Some u → CarriesSo u.purpose → (g : HostState) → g.nodes ≡ m.state.nodes
      → EndingOf heeds past g m.state.requests.last_id u.purpose
  ending_of u is carries g same =
      let end = end_of_it here past m ground other [] u AbortSent is carries (λ e more bad. absurd (let wrong : [] ≡ e ∷ more = bad in cc)) in
      record {
        request = end.request;
        told = end.tells_so;
        errands = errands ∙ ap asked_by end.request ∙ purpose_asks u.purpose m.state.requests.last_id carries;
        well = end.well;
        sleeper = λ n is_node. (nodes_so here past m ground other shows).sleeper n is_node ∙ sym (ap (λ (l : List NodeState). falls_asleep (node_among l n)) same);
      }

  -- ---- behind a frame the request hears of it

  module _ (event : RequestsEvent) (next : UnderWay → Next) (does : (requests_do m.state event).requests ≡ next_from m.state.requests next m.state.requests.under_way)
      (at : end_from next m.state.requests.under_way ≡ end_at m.state.requests event) (framed : (u : UnderWay) (how : How) → next u ≡ ends_so how → IsByFrame how)
      (ends : EndsFrom past m.state.requests.last_id next m.state.requests.under_way) (tells : EachAfter TellsEnd past (request_entries m.state event)) where
    abbrev later : HostState
    later = requests_do m.state event

    pub ends_there : (u : UnderWay) (how : How) → m.state.requests.under_way ≡ Some u → next u ≡ ends_so how → EndsHere past m.state.requests.last_id u.purpose how
    ends_there u how under same = subst (EndsBy past m.state.requests.last_id u) same (subst (EndsFrom past m.state.requests.last_id next) under ends)

    pub entries_there : (u : UnderWay) (how : How) → m.state.requests.under_way ≡ Some u → next u ≡ ends_so how → request_entries m.state event ≡ end_entries later (record { purpose = u.purpose; how = how })
    entries_there u how under same =
        ap (end_entries_if later) (sym at) ∙ ap (λ (o : Option UnderWay). end_entries_if later (end_from next o)) under ∙ ap (λ (n : Next). end_entries_if later (end_of u n)) same

    pub fails_there : (u : UnderWay) (how : How) → m.state.requests.under_way ≡ Some u → next u ≡ ends_so how → (n : ℕ) → u.purpose ≡ Housekeeping (Second n) → fails n past ≡ true
    fails_there u how under same n is =
        let are : request_entries m.state event ≡ entry.InterviewFailed n ∷ [] =
        entries_there u how under same ∙ ap (λ (p : Purpose). end_entries later (record { purpose = p; how = how })) is in
        interviews_may past (entry.InterviewFailed n) (subst (EachAfter TellsEnd past) are tells).0

    pub frame_hears : (c : Course) → c.over ≡ is_none m.state.requests.under_way
        → ((u : UnderWay) (how : How) → m.state.requests.under_way ≡ Some u → next u ≡ ends_so how
        → AreGone heeds (past ++ (noted_by later u.purpose how c).due) (clock past) u.purpose m.state.requests.last_id (outcome_entries later u.purpose how))
        → NotedSo c (request_entries m.state event) (is_none (after m.state (Requests_do event BetweenTicks)).requests.under_way) (ends_by_frame heeds past c)
    frame_hears c over gone =
        subst (λ (o : Option UnderWay). NotedSo c (request_entries m.state event) (is_none o) (ends_by_frame heeds past c)) (sym (event_way m.state event BetweenTicks next does))
        (subst (λ (l : List Entry). NotedSo c l (is_none (doing_from (doing_of m.state) next m.state.requests.under_way).under_way) (ends_by_frame heeds past c)) (ap (end_entries_if later) at)
        (frame_goes heeds past later m.state.requests.last_id next (doing_of m.state) m.state.requests.under_way c over ends owes))
      where
        owes : (u : UnderWay) (how : How) → m.state.requests.under_way ≡ Some u → next u ≡ ends_so how → OwesEnd heeds past later m.state.requests.last_id u.purpose how c
        owes u how under same =
            let e = ends_there u how under same in
            record { framed = framed u how same; of = ending_of u under e.carries later refl; fail = fails_there u how under same; gone = gone u how under same }
