-- What is known at a part of the host's own tick.
use Rattle.host_heard.specs.declared.told.Told.{Told}
use Rattle.host_model.specs.Ends.{asleep_entry}
use Rattle.host_model.specs.Events.{HostEvent, Node_ticks}
use Rattle.host_model.specs.Outs.{outs}
use Rattle.host_model.specs.State.{HostState, node_of}
use Rattle.host_node.specs.Steps.{falls_asleep}
use Rattle.host_requests.specs.declared.task.Purpose.{Purpose}
use Rattle.host_requests.specs.declared.task.Purpose.TheVariants.{Abort, Attempt, Housekeeping}
use Rattle.host_requests.specs.declared.task.Task.TheVariants.{NoMore}
use Rattle.law_time.specs.Moments.{KeepsAfter, clock}
use Rattle.law_time.specs.Requests.{Asked, request_last}
use Rattle.law_transcript.specs.Lists.{EachAfter}
use Rattle.law_transcript.specs.Units.{Carried, request_in}
use Rattle.proof_hearing.proofs.Owners.{OwnLaw}
use Rattle.proof_hearing.proofs.ReadyTie.{ground_of}
use Rattle.proof_hearing.proofs.proof_ends_Noting.{NodesSo}
use Rattle.proof_hearing.proofs.proof_ends_Walking.{ShowsOpen, nodes_so}
use Rattle.proof_hearing.specs.proof_choice.proof_following.Ended.{sleep_entries}
use Rattle.proof_hearing.proofs.proof_queue_Stepping.{time_told}
use Rattle.proof_hearing.proofs.proof_requests_Telling.{IsQuiet as QuietEntry, quiet_on}
use Rattle.proof_hearing.specs.proof_choice.proof_giving.Walking.{gives_up_well}
use Rattle.proof_hearing.specs.proof_nonces.proof_attempts.Since.{KnowsSince}
use Rattle.proof_hearing.specs.proof_queue.proof_attempts.proof_requests.Walking.{IsNodeTick}
use Rattle.proof_hearing.specs.proof_queue.proof_attempts.proof_requests.law_host.Following.{is_note}
use Rattle.proof_hearing.specs.proof_queue.proof_attempts.proof_requests.law_host.Heard.{heeds_alone}
use Rattle.proof_hearing.specs.proof_queue.proof_attempts.proof_requests.proof_alone.Phases.{IsNumbered, May, Phase, Ticking}
use Rattle.proof_hearing.specs.proof_queue.proof_attempts.proof_requests.proof_alone.State.{HostMachine, done}
use Rattle.proof_hearing.specs.proof_queue.proof_attempts.proof_requests.proof_alone.Steps.{AreFrames, AreTold, Does}
use Rattle.proof_host.specs.Facts.{Facts}
use Rattle.proof_noting.proofs.AsksSealed.{AskSo, AsksAreSo}
use Rattle.proof_noting.proofs.Marks.{note_quiet}
use Rattle.proof_noting.proofs.Surely.{sure_does}
use Rattle.proof_noting.specs.Following.{IsQuiet}
use Rattle.proof_noting.specs.Ground.{GroundAlong, NotingGround}
use Rattle.proof_noting.specs.Steps.{first_of}
use Rattle.proof_noting.specs.Sure.{SureRun}
use Rattle.proof_noting.specs.Ticking.{IsIdleAt}
use Rattle.std.proofs.Common.{Bool, List, [], ap, false, refl, true, ℕ, ◌++◌, ◌∷◌, ◌≡◌, ◌≤◌}
use Rattle.std.specs.List.{AllByRecursion}
use Rattle.zw_base.proofs.Each.{all-weaker}
use Rattle.zw_text.specs.declared.entry.Entry.{Entry}
use Rattle.zw_text.specs.declared.entry.Entry.TheVariants as entry

pub record TickLaws (key : List ℕ) (taken : List Entry → Carried → List Told) : Type 0 where
  pub shows : ShowsOpen
  pub along : GroundAlong taken (first_of key)
  pub gives : (here : Phase) (past : List Entry) (m : HostMachine) → SureRun taken (first_of key) here past m → KeepsAfter [] (gives_up_well (heeds_alone taken)) past
  pub own : (here : Phase) (past : List Entry) (m : HostMachine) → SureRun taken (first_of key) here past m → EachAfter OwnLaw [] past
  pub asks : (here : Phase) (past : List Entry) (m : HostMachine) → SureRun taken (first_of key) here past m → KnowsSince AsksAreSo here past m

-- before it, and what it told
pub record TickGround (taken : List Entry → Carried → List Told) (first : HostEvent) (left : List HostEvent) (past told : List Entry) (m : HostMachine) : Type 0 where
  pub shows : ShowsOpen
  pub ground : NotingGround taken (Ticking (first ∷ left)) past m
  pub law : KeepsAfter [] (gives_up_well (heeds_alone taken)) (past ++ told)
  pub own : EachAfter OwnLaw [] past
  pub asks : (n : ℕ) → 1 ≤ n → n ≤ 232 → AskSo m.state n
  pub numbered : IsNumbered m told
  pub told_so : AreTold (outs m.state first) told

pub ticks_ground : (key : List ℕ) (taken : List Entry → Carried → List Told) → TickLaws key taken → (first : HostEvent) (left : List HostEvent) (past told : List Entry) (m : HostMachine)
    → SureRun taken (first_of key) (Ticking (first ∷ left)) past m → May (Ticking (first ∷ left)) m (Does first told) (Ticking left) → TickGround taken first left past told m
ticks_ground key taken laws first left past told m sure may = record {
  shows = laws.shows;
  ground = laws.along (Ticking (first ∷ left)) past m sure;
  law = laws.gives (Ticking left) (past ++ told) (done m first) (sure_does taken (first_of key) sure first told may);
  own = laws.own (Ticking (first ∷ left)) past m sure;
  asks = laws.asks (Ticking (first ∷ left)) past m sure;
  numbered = may.3;
  told_so = may.2;
}

-- notes leave the request
pub same_request : (past told : List Entry) → AllByRecursion (λ e. is_note e ≡ true) told → request_last (past ++ told) ≡ request_last past
same_request past told all = ap (λ (a : Asked). request_in a.frame) (quiet_on past told (all-weaker (λ (e : Entry). is_note e ≡ true) QuietEntry note_quiet told all))

-- the request has had its part where nodes tick
pub nodes_idle : (left : List HostEvent) (m : HostMachine) → AllByRecursion IsNodeTick left → IsIdleAt left m
nodes_idle [] m all = tt
nodes_idle (Node_ticks n ∷ left) m all = tt
nodes_idle (event ∷ left) m all = absurd all.0

module _ (taken : List Entry → Carried → List Told) (first : HostEvent) (left : List HostEvent) (past told : List Entry) (m : HostMachine) (s : TickGround taken first left past told m) where
  pub tick_facts : Facts past m.state
  tick_facts = (ground_of (Ticking (first ∷ left)) past m s.ground.grounds).0.0.0.0.0.facts

  pub tick_nodes : NodesSo past m.state
  tick_nodes = nodes_so (Ticking (first ∷ left)) past m s.ground.grounds.sleep tt s.shows

  pub tick_frames : AreFrames m.came
  tick_frames = (ground_of (Ticking (first ∷ left)) past m s.ground.grounds).0.1

  -- something is told
  pub tick_time : (told ≡ [] → ⊥) → clock past ≡ m.clock
  tick_time some = by told refl
    where
      by : (l : List Entry) → told ≡ l → clock past ≡ m.clock
      by [] is = absurd (some is)
      by (e ∷ more) is = time_told (Ticking (first ∷ left)) past told m (ground_of (Ticking (first ∷ left)) past m s.ground.grounds) s.numbered e more is

  pub tick_numbered : (told ≡ [] → ⊥) → m.awaits ≡ false
  tick_numbered some = by m.awaits refl
    where
      by : (b : Bool) → m.awaits ≡ b → b ≡ false
      by true is = absurd (some (s.numbered is))
      by false is = refl

-- ---- nodes that count as awake

asleep_none : (b : Bool) (n : ℕ) → asleep_entry b n ≡ [] → b ≡ false
asleep_none true n none = absurd (let bad : entry.Asleep n ∷ [] ≡ [] = none in cc)
asleep_none false n none = refl

-- where no node falls asleep that did not there is nothing to note at an end here as there
pub falls_quiet : (h g : HostState) → ((n : ℕ) → falls_asleep (node_of h n) ≡ false → falls_asleep (node_of g n) ≡ false) → (p : Purpose) → IsQuiet h p → IsQuiet g p
falls_quiet h g falls p quiet = record { errands = quiet.errands; sleeps = by p quiet.sleeps; interviews = quiet.interviews }
  where
    by : (p : Purpose) → sleep_entries h p ≡ [] → sleep_entries g p ≡ []
    by (Housekeeping (NoMore n)) none = ap (λ (b : Bool). asleep_entry b n) (falls n (asleep_none (falls_asleep (node_of h n)) n none))
    by (Housekeeping task) none = refl
    by (Attempt n more payload) none = refl
    by Abort none = refl
