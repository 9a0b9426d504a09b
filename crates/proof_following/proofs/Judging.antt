-- In each run of a host alone: what the acknowledgement of a frame makes of the course of notes, where the request under way hears of that frame.
use Rattle.std.proofs.Common.{◌≡◌, ℕ, true, false, List, [], ◌∷◌, ◌++◌, sym, ◌∙◌, subst}
use Rattle.std.specs.Prelude.{is_none, nat_lt}
use Rattle.zw_text.specs.declared.entry.Entry.{Entry}
use Rattle.law_transcript.specs.Units.{bringing_in}
use Rattle.law_time.specs.Errands.{errand}
use Rattle.law_time.specs.Heeds.{Heeds}
use Rattle.law_time.specs.Moments.{clock}
use Rattle.host_requests.specs.Events.{RequestsEvent}
use Rattle.host_node.specs.declared.attempt.Moment.TheVariants.{BetweenTicks}
use Rattle.host_model.specs.After.{after as after_event}
use Rattle.host_model.specs.Events.{Requests_do}
use Rattle.host_model.specs.Outs.{request_entries}
use Rattle.host_model.specs.Taking.{told_requests}
use Rattle.proof_ends.specs.Ends.{nodes_asked}
use Rattle.proof_ends.specs.proof_attempts.Asleep.{KnowsSleep}
use Rattle.proof_ends.specs.proof_requests.law_host.Course.{Course}
use Rattle.proof_ends.specs.proof_requests.law_host.Ends.{ends_by_frame}
use Rattle.proof_ends.specs.proof_requests.law_host.Following.{after}
use Rattle.proof_ends.specs.proof_requests.law_host.Frames.{frame_next}
use Rattle.proof_ends.specs.proof_requests.law_host.Ticks.{is_denied}
use Rattle.proof_ends.specs.proof_requests.proof_alone.Phases.{Behind}
use Rattle.proof_ends.specs.proof_requests.proof_alone.State.{HostMachine}
use Rattle.proof_ends.proofs.Walking.{ShowsOpen, TellsWalk}
use Rattle.proof_following.specs.Ended.{GivesUpAsHost, IsFrameEvent, NotedSo}
use Rattle.proof_following.specs.Quiet.{Calm, acknowledges, begun, gone_to}
use Rattle.proof_following.proofs.Acks.{ack_after, judges_request}
use Rattle.proof_following.proofs.Coming.{calm_comes}
use Rattle.proof_following.proofs.Hearing.{frame_follows}

module _ (tells : TellsWalk) (shows : ShowsOpen) (heeds : Heeds) (past : List Entry) (m : HostMachine) (event : RequestsEvent) (of : IsFrameEvent event)
    (ground : KnowsSleep (Behind (told_requests event)) (past ++ acknowledges ∷ []) m) where
  abbrev later : List Entry
  later = past ++ acknowledges ∷ []

  pub judged_follows : (rest : List Entry) (frame : List ℕ) (c : Course) → frame_next past ≡ frame ∷ [] → bringing_in frame ≡ [] → c.fits ≡ true → c.due ≡ []
      → c.over ≡ is_none m.state.requests.under_way → (nat_lt c.ticked (clock past) ≡ true → Calm heeds past (clock past) c) → (c.over ≡ false → is_denied past ≡ false)
      → errand heeds.listing later ≡ nodes_asked later → GivesUpAsHost heeds later m.state event (begun past c)
      → NotedSo (begun past c) (request_entries m.state event) (is_none (after_event m.state (Requests_do event BetweenTicks)).requests.under_way) (after heeds past acknowledges rest c)
  judged_follows rest frame c next brings fits none over calm undenied errands gone =
      subst (λ (d : Course). NotedSo (begun past c) (request_entries m.state event) (is_none (after_event m.state (Requests_do event BetweenTicks)).requests.under_way) d) (sym same)
      (frame_follows tells shows heeds later m event of ground errands (begun past c) over gone)
    where
      same : after heeds past acknowledges rest c ≡ ends_by_frame heeds later (begun past c)
      same =
          ack_after heeds past frame rest c (record c { ticked = gone_to past acknowledges c }) fits (calm_comes heeds past acknowledges c tt none calm (λ is. undenied)) none fits next
          ∙ judges_request heeds past frame later (record c { ticked = gone_to past acknowledges c }) brings
