-- What is known of a host alone along its run gives all that its choice goes by.
use Rattle.std.proofs.Common.{◌≡◌, ℕ, List, [], arith}
use Rattle.zw_base.proofs.Each.{all-weaker}
use Rattle.zw_text.specs.declared.entry.Entry.{Entry}
use Rattle.zw_text.specs.Transcript.{joined}
use Rattle.host_heard.specs.declared.told.Told.{Told}
use Rattle.law_transcript.specs.Commands.{waiting}
use Rattle.law_transcript.specs.Lists.{EachAfter}
use Rattle.law_transcript.specs.Units.{Carried}
use Rattle.law_time.specs.Attempts.{attempt_is_over}
use Rattle.law_time.specs.Heeds.{Heeds}
use Rattle.law_time.specs.Requests.{asked}
use Rattle.serial_frame.specs.declared.unit.Unit.{Unit as LineUnit}
use Rattle.host_node.specs.Facts.{NodeFacts}
use Rattle.host_model.specs.State.{HostState, node_of}
use Rattle.proof_giving.specs.proof_queue.proof_attempts.proof_requests.law_host.Heard.{heeds_alone}
use Rattle.proof_giving.specs.proof_queue.proof_attempts.proof_requests.Asking.{TieAsked, doing_of}
use Rattle.proof_giving.specs.proof_queue.proof_attempts.proof_requests.Walking.{Ground as RequestsGround, KnowsAsked}
use Rattle.proof_giving.specs.proof_queue.proof_attempts.proof_requests.proof_alone.State.{HostMachine}
use Rattle.proof_giving.specs.proof_queue.proof_attempts.proof_requests.proof_alone.Steps.{AreFrames}
use Rattle.proof_giving.specs.proof_queue.proof_attempts.proof_requests.proof_alone.Phases.{Phase, Resting, Submitting}
use Rattle.proof_giving.specs.proof_queue.proof_attempts.proof_requests.proof_alone.Runs.{Knowledge, both_know}
use Rattle.proof_giving.specs.proof_queue.proof_attempts.Attempts.{is_over_by}
use Rattle.proof_giving.specs.proof_queue.proof_attempts.Since.{KnowsSince}
use Rattle.proof_giving.proofs.Joined.{IsInRange as HasJoined}
use Rattle.proof_giving.proofs.Seeing.{Sights}
use Rattle.proof_giving.proofs.proof_queue_Segments.{Shows}
use Rattle.proof_giving.specs.Stays.{ShowsSessions}
use Rattle.proof_giving.specs.Tie.{AttemptsSo, is_badly_over}
use Rattle.proof_giving.specs.Told.{attempts_so_far}
use Rattle.proof_choice.specs.Blocked.{BlocksAsTold}
use Rattle.proof_choice.specs.Counting.{KnowsCounts, KnowsReady}
use Rattle.proof_choice.specs.Plans.{PlansAreSo}
use Rattle.proof_choice.specs.Served.{ServedAsTold}
use Rattle.proof_choice.specs.Turning.{AllKnown, KnowsAll}
use Rattle.proof_choice.proofs.Owners.{OwnLaw, owner_joined}
use Rattle.chip_functions.specs.Field.{IsNode}

-- what is known whatever is heeded
pub record Grounds (here : Phase) (past : List Entry) (m : HostMachine) : Type 0 where
  pub sights : Sights here past m
  pub shows : (n : ℕ) → Shows past m.state n
  pub waits : (n : ℕ) → waiting n past ≡ (node_of m.state n).waiting
  pub requests : RequestsGround here past m
  pub asks : KnowsAsked here past m
  pub blocks : KnowsSince BlocksAsTold here past m
  pub plans : KnowsSince PlansAreSo here past m
  pub own : EachAfter OwnLaw [] past

-- where no part of an attempt has ended badly but as it is told
abbrev pub OverAsTold : Type 0
OverAsTold =
    (heeds : Heeds) (n : ℕ) (past : List Entry) (now : ℕ) (came : List LineUnit) (h : HostState) → AreFrames came → TieAsked past now now came (doing_of h) → NodeFacts (node_of h n) → AttemptsSo heeds n past h now now
    → attempt_is_over heeds past (asked past) now (attempts_so_far heeds n past) ≡ is_over_by now (is_badly_over heeds n past h now) (attempts_so_far heeds n past)

in_range : (n : ℕ) → HasJoined n → IsNode n
in_range n joins = (joins.0, let to = joins.1 in omega (arith, to))

module _ (over : OverAsTold) (taken : List Entry → Carried → List Told) where
  abbrev heeds : Heeds
  heeds = heeds_alone taken

  abbrev More : Knowledge
  More = both_know (both_know (KnowsCounts heeds) (KnowsReady heeds)) (KnowsSince (ServedAsTold heeds))

  shown : (past : List Entry) (h : HostState) (n : ℕ) → Shows past h n → ShowsSessions heeds past h n
  shown past h n shows = record { sessions_are = shows.sessions_are; opened = shows.opened; last = shows.last; carried = shows.carried }

  submitting : (past : List Entry) (m : HostMachine) → Grounds Submitting past m → More Submitting past m → AllKnown heeds past m
  submitting past m ground more = record {
    nodes = λ n from to.
        let hears = ground.sights.sleep.0.0.0.0.0.0.1 n to in
        let awake = ground.sights.sleep.0.0.0.0.0.1 n from to in
        let counts = more.0.0 n from to in
        record {
          attempts = counts;
          over = over heeds n past m.clock m.came m.state ground.requests.0.1 ground.asks (ground.requests.0.0.0.0.0.facts.host.nodes.facts n) counts;
          runs_so = (ground.sights.series n from to).runs;
          told = ground.sights.shows n hears awake;
          waits = ground.waits n;
          shows = shown past m.state n (ground.shows n);
          plan = ground.plans n from to;
          ready = more.0.1 n from to;
          blocked = ground.blocks n from to;
        };
    served = more.1;
    range = all-weaker HasJoined IsNode in_range (joined past) ground.sights.joins.nodes;
    owners = owner_joined past m.state ground.requests.0.0.0.0.0.facts ground.own;
  }

  resting : (past : List Entry) (m : HostMachine) → Grounds Resting past m → More Resting past m → AllKnown heeds past m
  resting past m ground more = record {
    nodes = λ n from to.
        let hears = ground.sights.sleep.0.0.0.0.0.0.1 n to in
        let awake = ground.sights.sleep.0.0.0.0.0.1 n from to in
        let counts = more.0.0 n from to in
        record {
          attempts = counts;
          over = over heeds n past m.clock m.came m.state ground.requests.0.1 ground.asks (ground.requests.0.0.0.0.0.facts.host.nodes.facts n) counts;
          runs_so = (ground.sights.series n from to).runs;
          told = ground.sights.shows n hears awake;
          waits = ground.waits n;
          shows = shown past m.state n (ground.shows n);
          plan = ground.plans n from to;
          ready = more.0.1 n from to;
          blocked = ground.blocks n from to;
        };
    served = more.1;
    range = all-weaker HasJoined IsNode in_range (joined past) ground.sights.joins.nodes;
    owners = owner_joined past m.state ground.requests.0.0.0.0.0.facts ground.own;
  }

  pub knows_all : (here : Phase) (past : List Entry) (m : HostMachine) → both_know Grounds More here past m → KnowsAll heeds here past m
  knows_all Submitting past m all = submitting past m all.0 all.1
  knows_all Resting past m all = resting past m all.0 all.1
  knows_all here past m all = tt
