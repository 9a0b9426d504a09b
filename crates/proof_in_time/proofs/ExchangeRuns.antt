-- An attempt of a lock alone runs on at each event at which the host judges nothing of the lock, and at which it submits something.
use Rattle.std.proofs.Common.{◌≡◌, ◌≢◌, ◌<◌, ℕ, Bool, true, false, Some, None, List, length, refl, sym, ◌∙◌, subst}
use Rattle.std.specs.List.{AllByRecursion}
use Rattle.zw_base.proofs.Each.{all-both, all-left}
use Rattle.serial_frame.specs.Frame.{FrameParts}
use Rattle.supervision.specs.Host.{open_session}
use Rattle.chip_sim.specs.Nodes.{is_marked}
use Rattle.host_requests.specs.Events.{RequestsEvent}
use Rattle.host_requests.specs.Events.RequestsEvent.{CallsBack, IsSent, Responds, Updates}
use Rattle.host_node.specs.Search.{next_of}
use Rattle.host_node.specs.declared.series.Series.TheVariants as series
use Rattle.host_model.specs.Events.{HostEvent}
use Rattle.host_model.specs.May.{May as MayHost}
use Rattle.host_model.specs.Pumping.{IsNext}
use Rattle.host_model.specs.State.{HostState, node_of}
use Rattle.host_model.proofs.Submitted.{SubmittedAre, next_is}
use Rattle.world_model.specs.Events.{Event, Host_does, Host_takes, happens}
use Rattle.world_model.specs.State.{Machine}
use Rattle.proof_answered.specs.Heard.{AllSayHeard, SaysHeard}
use Rattle.proof_answered.specs.Workers.{IsFrom}
use Rattle.proof_answered.specs.proof_calm.Passes.{frames_in}
use Rattle.proof_answered.specs.proof_calm.Tied.{unheard}
use Rattle.proof_answered.specs.proof_calm.proof_work.proof_walk.Phases.{Phase, Goes, Moved, Sleeping, Submitting}
use Rattle.proof_answered.proofs.Judging.{Follow, MayTell}
use Rattle.proof_in_time.proofs.ExchangeHome.{Idles, Judges, NoneJudged, NoneJudgedAt}
use Rattle.proof_in_time.proofs.ExchangeOwed.{AroundSealed}
use Rattle.proof_in_time.proofs.InTurn.{GoesByItself}
use Rattle.proof_in_time.proofs.JudgedAmong.{AllQuiet, BringsNothing, follows_quietly, nothing_brought, units_follow}
use Rattle.proof_in_time.proofs.PartsHosted.{host_then}
use Rattle.proof_in_time.proofs.PartsRuns.{LeavesRun, RunOn, RunsAt, SaysOn, event_runs, follow_run}
use Rattle.proof_in_time.proofs.RunsStill.{still_runs}

module _ (n session : ℕ) (within : n < 233) (these : List Bool) (only : (k : ℕ) → is_marked these k ≡ true → k ≡ n) where
  -- ---- what is judged

  -- a frame brings no payload, and a call says that the payload was heard
  abbrev pub SaysCalm : FrameParts → Type 0
  SaysCalm frame = BringsNothing frame × SaysHeard frame

  says_on : (frame : FrameParts) → SaysCalm frame → SaysOn n session within these only frame
  says_on frame calm = (calm.1, ((λ k payload e. absurd (calm.0 k payload e)), λ payload e. absurd (calm.0 n payload e)))

  may_on : (event : RequestsEvent) → MayTell SaysCalm event → MayTell (SaysOn n session within these only) event
  may_on IsSent may = tt
  may_on (Responds response) may = may
  may_on (Updates update) may = tt
  may_on (CallsBack id status) may = says_on _ may
  may_on event may = absurd may

  may_nothing : (event : RequestsEvent) → MayTell SaysCalm event → MayTell BringsNothing event
  may_nothing IsSent may = tt
  may_nothing (Responds response) may = may
  may_nothing (Updates update) may = tt
  may_nothing (CallsBack id status) may = may.0
  may_nothing event may = absurd may

  -- nothing else happens, and the attempt runs on
  abbrev pub RunsQuietly : HostState → List HostEvent → Type 0
  RunsQuietly h events = AllQuiet h events × RunOn n session within h events

  pub follow_both : (joined : List Bool) → Follow RunsQuietly SaysCalm joined
  follow_both joined = record {
    none = λ h. (quietly.none h, runs.none h);
    both = λ h first later here then_here. (quietly.both h first later here.0 then_here.0, runs.both h first later here.1 then_here.1);
    hears = λ h item rest all. (quietly.hears h item rest all.0, runs.hears h item rest all.1);
    told = λ h event may. (quietly.told h event (may_nothing event may), runs.told h event (may_on event may));
    brings = λ h k payload events member says is. absurd (says.0 k payload refl);
  }
    where
      quietly : Follow AllQuiet BringsNothing joined
      quietly = follows_quietly joined

      runs : Follow (RunOn n session within) (SaysOn n session within these only) joined
      runs = follow_run n session within these only joined

  pub calm_frames : (frames : List FrameParts) → AllByRecursion BringsNothing frames → AllSayHeard frames → AllByRecursion SaysCalm frames
  calm_frames frames nothing heard = all-both BringsNothing SaysHeard SaysCalm (λ frame brings_none says. (brings_none, says)) frames nothing heard

  abbrev RunIn : Machine → Type 0
  RunIn m = RunsAt n session m.host.state.nodes

  none_runs : (m later : Machine) (events : List HostEvent) → AllByRecursion (IsFrom these) (unheard m.outside.outer) → AllSayHeard (unheard m.outside.outer) → NoneJudged n m later events → RunIn m → RunIn later
  none_runs m later events from heard (Idles same) r = subst (λ (h : HostState). RunsAt n session h.nodes) (sym same) r
  none_runs m later events from heard (Judges units waiting plain told judged tied none host) r =
      let s = m.outside.outer.chip.state in
      let nothing = nothing_brought these n only (frames_in units) (all-left (IsFrom these) (frames_in units) waiting (subst (AllByRecursion (IsFrom these)) told from)) none in
      let calm = calm_frames (frames_in units) nothing (all-left SaysHeard (frames_in units) waiting (subst AllSayHeard told heard)) in
      let both = units_follow RunsQuietly SaysCalm s (follow_both s.joined) m.host.state units waiting events plain judged tied calm in
      subst (λ (h : HostState). RunsAt n session h.nodes) (sym host) (both.1 r)

  -- ---- at an event

  pub apart_runs : (here next : Phase) (m : Machine) (event : Event) → Goes here m event next → GoesByItself here → AroundSealed these n here next m event → (node_of m.host.state n).attempt_wait ≢ 1 → NoneJudgedAt n m event → RunsAt n session m.host.state.nodes
      → RunsAt n session (happens m event).host.state.nodes
  apart_runs (Moved b passes ticks) next m event (rest, items, done, is, to) itself a lasts none r =
      let count = length m.outside.outer.to_host.bytes in
      subst (λ (e : Event). RunIn (happens m e)) (sym is)
      (none_runs m (happens m (Host_takes count rest items done)) done a.lock.speak.pending a.calls (subst (NoneJudgedAt n m) is none) r)
  apart_runs (Sleeping passes ticks) next m event (k, wants, is, to) itself a lasts none r = absurd (a.wants k wants)
  apart_runs (Submitting passes ticks) next m event goes itself a lasts none r = absurd itself
  apart_runs here next m event goes itself a lasts none r = still_runs n session within here next m event tt goes a.lock.line a.lock.awaits a.lock.tie lasts r

  -- it submits something
  submitted_leaves : (h : HostState) (asked : HostEvent) → IsNext h asked → MayHost h asked → h.requests.owes ≡ false → ((k : ℕ) → next_of h.nodes h.served ≡ Some k → is_marked these k ≡ true) → RunsAt n session h.nodes → LeavesRun n h asked
  submitted_leaves h asked next_so may paid workers r = next_is Is each h asked next_so may
    where
      Is : HostEvent → Type 0
      Is event = MayHost h event → LeavesRun n h event

      own : (k : ℕ) → next_of h.nodes h.served ≡ Some k → k ≡ n
      own k found = only k (workers k found)

      begins_none : (k : ℕ) → next_of h.nodes h.served ≡ Some k → open_session (node_of h k).book ≡ None → ⊥
      begins_none k found closed = absurd (let wrong : None ≡ Some session = sym (subst (λ (j : ℕ). open_session (node_of h j).book ≡ None) (own k found) closed) ∙ r.opened in cc)

      each : SubmittedAre Is
      each = record {
        abort = λ may_it. absurd (let wrong : false ≡ true = sym paid ∙ may_it.1 in cc);
        front = λ may_it. tt;
        starts = λ k plan more payload may_it.
            absurd (let wrong : series.Due ≡ series.Running = sym (subst (λ (j : ℕ). (node_of h j).series ≡ series.Due) (own k may_it.0.next) may_it.2.0) ∙ r.running in cc);
        text = λ k payload may_it. tt;
        segment = λ k more payload may_it. tt;
        begins = λ k with_session command may_it. absurd (begins_none k may_it.0.next may_it.1.1);
        unkept = λ k may_it. absurd (begins_none k may_it.0.next may_it.1.1);
      }

  pub submitted_runs : (m : Machine) (asked : HostEvent) → IsNext m.host.state asked → MayHost m.host.state asked → m.host.state.requests.owes ≡ false → ((k : ℕ) → next_of m.host.state.nodes m.host.state.served ≡ Some k → is_marked these k ≡ true)
      → RunsAt n session m.host.state.nodes → RunsAt n session (happens m (Host_does asked)).host.state.nodes
  submitted_runs m asked next_so may paid workers r =
      subst (λ (h : HostState). RunsAt n session h.nodes) (sym (host_then m asked)) (event_runs n session within m.host.state asked (submitted_leaves m.host.state asked next_so may paid workers r) r)
