-- The wait of an attempt that gives its message in segments is far from its end, with as many ticks as are left.
use Rattle.std.proofs.Common.{◌≡◌, ◌≢◌, ◌≤◌, ◌<◌, ℕ, suc, ◌+◌, inl, inr, Bool, true, false, if◌then◌else◌, Option, List, length, refl, sym, ap, ◌∙◌, subst, arith}
use Rattle.std.specs.Prelude.{◌⊎◌}
use Rattle.supervision.specs.Host.{begun_of}
use Rattle.chip_functions.specs.Field.{IsNode}
use Rattle.device_sim.specs.State.{State}
use Rattle.host_node.specs.declared.series.Series.{Series}
use Rattle.host_node.specs.declared.series.Series.TheVariants as series
use Rattle.host_model.specs.Events.{HostEvent}
use Rattle.host_model.specs.State.{HostState, node_of}
use Rattle.host_model.specs.Taking.{is_secure}
use Rattle.world_model.specs.Events.{Event, Host_does, happens}
use Rattle.world_model.specs.State.{Machine}
use Rattle.proof_course_plain.proofs.Replies.{one_place, one_stands}
use Rattle.proof_answered.specs.proof_calm.proof_work.proof_walk.Phases.{Phase, Arriving, Goes, Submitting, To_tick, Turns}
use Rattle.proof_answered.specs.proof_calm.Awaited.{AwaitsAt}
use Rattle.proof_answered.specs.proof_calm.Resting.{LineAt}
use Rattle.proof_answered.specs.proof_calm.Routed.{IsRouted}
use Rattle.proof_answered.specs.proof_calm.Tied.{TieAt}
use Rattle.proof_answered.specs.Sleepers.{IsAlone}
use Rattle.proof_answered.proofs.proof_traffic_Parts.{Airs}
use Rattle.proof_in_time.specs.Coming.{At_work, Coming, Flies, WaitsFor, most_then, own_ticks}
use Rattle.proof_in_time.specs.Open.{WaitsParts}
use Rattle.proof_in_time.specs.Parts.{Parts}
use Rattle.proof_in_time.specs.Trail.{HasTaken}
use Rattle.proof_in_time.proofs.Bounded.{fewer, open_where}
use Rattle.proof_in_time.proofs.ExchangeKept.{HasLeft}
use Rattle.proof_in_time.proofs.FarWaits.{SubmitsBeside, WaitThen, goes_far, left_as, no_more, not_last}
use Rattle.proof_in_time.proofs.NodeWaits.{IsBeside}
use Rattle.proof_in_time.proofs.PartsArriving.{SegmentLaws, TakenStays}
use Rattle.proof_in_time.proofs.PartsFlying.{sends_as}
use Rattle.proof_in_time.proofs.PartsGoing.{Around, IsOver, RunsThen, TellsOr, TiedThen, turns_parts}
use Rattle.proof_in_time.proofs.RunsStill.{runs_on}
use Rattle.proof_in_time.proofs.PartsSteps.{some_left_parts}
use Rattle.proof_in_time.proofs.PartsSubmitted.{IsPartEvent, submits_it}
use Rattle.proof_in_time.proofs.TrailDevices.{taken_on}

-- ---- an attempt that gives segments

module _ (airs : Airs) (laws : SegmentLaws) (these : List Bool) (many : length these ≡ 233) (n : ℕ) (alone : IsAlone these n) (is_node : IsNode n) where
  below : n < 233
  below = let few = is_node.1 in omega (arith, few)

  -- ---- with no event

  pub turns_waits : (here next : Phase) (m : Machine) (most : ℕ) → Turns here m next → AwaitsAt here m → IsRouted m.outside.outer → m.outside.outer.chip.state.aborted ≡ 0 → LineAt here m → TieAt here m → TieAt next m → TiedThen these next m → WaitsParts these n most here m
      → WaitsParts these n most next m
  turns_waits here next m most turns awaits routed none at tie tie_next tied w =
      let less = no_more airs these n alone is_node here next m turns in
      record {
        openly = w.openly;
        once = fewer (own_ticks n next) (own_ticks n here) less w.once;
        running = w.running;
        left = w.left;
        few = w.few;
        within = w.within;
        parts = turns_parts airs laws these many n (begun_of (node_of m.host.state n).book) alone is_node here next m w.left turns awaits routed none at tie tie_next tied w.running w.parts;
        waits = left_as airs these n alone is_node w.left here next m less w.few w.once w.waits;
      }

  -- ---- at an event

  runs_or_not : (s : Series) → (s ≡ series.Running) ⊎ (s ≢ series.Running)
  runs_or_not series.Running = inl refl
  runs_or_not series.Idle = inr (λ e. absurd cc)
  runs_or_not series.Due = inr (λ e. absurd cc)

  abbrev Beside : Phase → Phase → Machine → Event → Type 0
  Beside here next m event = Around airs laws these many n (begun_of (node_of m.host.state n).book) alone is_node here next m event

  part_beside : (h : HostState) (event : HostEvent) → IsPartEvent n event → IsBeside n h event
  part_beside h event (inl (more, (payload, is))) = subst (IsBeside n h) (sym is) tt
  part_beside h event (inr is) = subst (IsBeside n h) (sym is) tt

  submits_at : (here next : Phase) (m : Machine) (most : ℕ) (event : Event) → Goes here m event next → Beside here next m event → WaitsParts these n most here m → SubmitsBeside airs these n alone is_node here m event
  submits_at (Submitting passes ticks) next m most event (asked, next_is, is, to) a w =
      let opened = open_where (node_of m.host.state n) (a.peopled.facts.nodes.facts n) w.running in
      let part : IsPartEvent n asked =
      submits_it airs these n (begun_of (node_of m.host.state n).book) below passes ticks m asked next_is a.tie a.peopled.facts.nodes.places opened w.running (λ k found. alone.only k (a.workers k found)) (sends_as m a.awaits a.routed a.none_aborted) w.left
      w.parts w.parts.next w.parts.later w.parts.hears w.parts.way in
      λ other same.
      let one : asked ≡ other = (let both : Host_does asked ≡ Host_does other = sym is ∙ same in cc) in
      subst (IsBeside n m.host.state) one (part_beside m.host.state asked part)
  submits_at here next m most event goes a w = tt

  some_more : (here : Phase) (m : Machine) (most : ℕ) (w : WaitsParts these n most here m) → HasLeft w.left here
  some_more (To_tick (suc ticks)) m most w = some_left_parts these n (begun_of (node_of m.host.state n).book) ticks m w.left w.parts
  some_more here m most w = tt

  goes_wait : (here next : Phase) (m : Machine) (most : ℕ) (event : Event) → Goes here m event next → Beside here next m event → (w : WaitsParts these n most here m) → WaitThen airs these n alone is_node w.left here next m event
  goes_wait here next m most event goes a w =
      goes_far airs these n alone is_node w.left here next m event goes
      (record {
        may = a.may;
        line = a.line;
        awaits = a.awaits;
        routed = a.routed;
        tie = a.tie;
        places = a.peopled.facts.nodes.places;
        wants = a.wants;
        submits = submits_at here next m most event goes a w;
      })
      (some_more here m most w) w.few w.once w.waits

  most_less : (left : ℕ) (here : Phase) → most_then left here ≤ left
  most_less left (To_tick (suc ticks)) = omega arith
  most_less left here = omega arith

  at_most : (k left : ℕ) → k ≤ left → left ≤ 23 → k ≤ 23
  at_most k left less few = omega (arith, less, few)

  -- so many as most were
  most_within : (left most : ℕ) (here : Phase) → left ≤ most → most_then left here ≤ most_then most here
  most_within left most (To_tick (suc ticks)) within = omega (arith, within)
  most_within left most here within = within

  flies_far : (frames place left : ℕ) (b : Bool) → 5 ≤ left → 0 + (if b then 0 else 1) ≤ left
  flies_far frames place left true five = omega (arith, five)
  flies_far frames place left false five = omega (arith, five)

  -- it tells the end, or is at work
  over_comes : (left session : ℕ) (next : Phase) (m : Machine) → IsOver airs laws these many n session alone is_node left next m → Coming n session left next m
  over_comes left session next m o = subst (λ (q : Phase). Coming n session left q m) (sym o.arriving) (by o.tells)
    where
      by : TellsOr airs laws these many n session alone is_node m → Coming n session left (Arriving o.frames o.ticks) m
      by (inl flies) = Flies flies (flies_far o.frames (length flies.before) left _ o.five)
      by (inr (busy, work)) = let five = o.five in At_work busy (omega (arith, work, five))

  -- they are on their way still; or its report is on the air, or it is at work on the session; or the attempt runs no more, whose session it had taken before
  abbrev pub EndsSo : (here next : Phase) (m : Machine) (most : ℕ) (event : Event) → WaitsParts these n most here m → Type 0
  EndsSo here next m most event w =
      IsOver airs laws these many n (begun_of (node_of m.host.state n).book) alone is_node (most_then w.left here) next (happens m event) ⊎ (begun_of (node_of m.host.state n).book ≡ w.parts.stands.device.sessions.taken)

  pub events_wait : (here next : Phase) (m : Machine) (most : ℕ) (event : Event) → Goes here m event next → Beside here next m event → (w : WaitsParts these n most here m)
      → (WaitsParts these n (most_then most here) next (happens m event) × (HasTaken n (happens m event) → HasTaken n m)) ⊎ (WaitsFor false n (most_then most here) next (happens m event) × EndsSo here next m most event w)
  events_wait here next m most event goes a w = by (runs_or_not (node_of (happens m event).host.state n).series)
    where
      session : ℕ
      session = begun_of (node_of m.host.state n).book

      wait : WaitThen airs these n alone is_node w.left here next m event
      wait = goes_wait here next m most event goes a w

      openly : is_secure (node_of (happens m event).host.state n).classes ≡ false
      openly = ap (λ (classes : Option (List ℕ)). is_secure classes) wait.classes ∙ w.openly

      few : most_then w.left here ≤ 23
      few = at_most (most_then w.left here) w.left (most_less w.left here) w.few

      within : most_then w.left here ≤ most_then most here
      within = most_within w.left most here w.within

      lasts : (node_of m.host.state n).attempt_wait ≢ 1
      lasts = not_last (node_of m.host.state n).attempt_wait w.left (own_ticks n here) w.waits

      -- what had not taken the session has not
      back : RunsThen airs laws these many n (begun_of (node_of m.host.state n).book) alone is_node m event → TakenStays n m.outside.devices (happens m event).outside.devices → HasTaken n (happens m event) → HasTaken n m
      back run stays taken =
          let there = stays w.parts.stands in
          let same = one_stands (happens m event).outside.devices taken.first.place there.0.place taken.first.device there.0.device taken.first.stands there.0.stands
          (one_place n (happens m event).outside.devices taken.first.place there.0.place taken.first.first there.0.first) in
          record { first = w.parts.stands; taken = sym (wait.keeps run).0 ∙ (taken.taken ∙ (ap (λ (d : State). d.sessions.taken) same ∙ there.1)) }

      of : (run : RunsThen airs laws these many n (begun_of (node_of m.host.state n).book) alone is_node m event)
          → (Parts these n (begun_of (node_of m.host.state n).book) (most_then w.left here) next (happens m event) × TakenStays n m.outside.devices (happens m event).outside.devices)
          ⊎ IsOver airs laws these many n (begun_of (node_of m.host.state n).book) alone is_node (most_then w.left here) next (happens m event)
          → (WaitsParts these n (most_then most here) next (happens m event) × (HasTaken n (happens m event) → HasTaken n m)) ⊎ (WaitsFor false n (most_then most here) next (happens m event) × EndsSo here next m most event w)
      of run (inl (parts, stays)) = inl (
        record {
          openly = openly;
          once = wait.once;
          running = run;
          left = most_then w.left here;
          few = few;
          within = within;
          parts = subst (λ (s : ℕ). Parts these n s (most_then w.left here) next (happens m event)) (sym (wait.keeps run).0) parts;
          waits = (wait.keeps run).1;
        },
        back run stays,
      )
      of run (inr over) = inr (
        record {
          openly = openly;
          once = wait.once;
          bounded = λ run_then. record {
            left = most_then w.left here;
            few = few;
            within = within;
            comes = subst (λ (s : ℕ). Coming n s (most_then w.left here) next (happens m event)) (sym (wait.keeps run).0) (over_comes (most_then w.left here) (begun_of (node_of m.host.state n).book) next (happens m event) over);
            waits = (wait.keeps run).1;
          };
        },
        inl over,
      )

      ends : (node_of (happens m event).host.state n).series ≢ series.Running → RunsThen airs laws these many n (begun_of (node_of m.host.state n).book) alone is_node m event ⊎ (begun_of (node_of m.host.state n).book ≡ w.parts.stands.device.sessions.taken)
          → (WaitsParts these n (most_then most here) next (happens m event) × (HasTaken n (happens m event) → HasTaken n m)) ⊎ (WaitsFor false n (most_then most here) next (happens m event) × EndsSo here next m most event w)
      ends still (inl run) = absurd (still run)
      ends still (inr taken) = inr (record { openly = openly; once = wait.once; bounded = λ run. absurd (still run) }, inr taken)

      by : ((node_of (happens m event).host.state n).series ≡ series.Running) ⊎ ((node_of (happens m event).host.state n).series ≢ series.Running)
          → (WaitsParts these n (most_then most here) next (happens m event) × (HasTaken n (happens m event) → HasTaken n m)) ⊎ (WaitsFor false n (most_then most here) next (happens m event) × EndsSo here next m most event w)
      by (inl run) = of run (taken_on airs laws these many n (begun_of (node_of m.host.state n).book) alone is_node here next m event w.left goes a run w.parts)
      by (inr still) = ends still (runs_on airs laws these many n (begun_of (node_of m.host.state n).book) alone is_node here next m event w.left goes a lasts w.parts)
