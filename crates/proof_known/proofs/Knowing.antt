-- At each step of a host alone it knows of each node what that listed in its last interview.
use Rattle.std.proofs.Common.{◌≡◌, ℕ, Bool, false, true, inl, inr, List, [], ◌∷◌, ◌++◌, refl, sym, ap, ◌∙◌, subst, append-nil}
use Rattle.std.specs.Prelude.{Option, Some, None, IsSome}
use Rattle.std.specs.List.{AllByRecursion, flat_map}
use Rattle.std.proofs.lemmas.Bool.{cases_eq}
use Rattle.chip_functions.specs.declared.notice.Update.{Update}
use Rattle.zw_words.specs.declared.side.Side.TheVariants.{Chip}
use Rattle.zw_text.specs.declared.entry.Entry.{Entry}
use Rattle.zw_text.specs.declared.entry.Entry.TheVariants as entry
use Rattle.proof_transcript.specs.law_time.Judged.{notices_here}
use Rattle.proof_transcript.specs.law_time.Moments.{Allows}
use Rattle.proof_transcript.specs.law_time.Waking.{may_wake}
use Rattle.proof_transcript.specs.law_host.Heard.{classes_in, listing_heard}
use Rattle.host_node.specs.Steps.{after_interview}
use Rattle.host_node.specs.TableState.{node_of}
use Rattle.proof_waking.specs.host_model.State.{HostState}
use Rattle.proof_waking.specs.host_model.Events.{HostEvent, Hears, Interviews}
use Rattle.proof_waking.specs.host_model.After.{after}
use Rattle.proof_waking.specs.host_model.Facts.{HostFacts}
use Rattle.proof_waking.specs.host_model.May.{May as MayHost}
use Rattle.proof_waking.specs.host_model.Outs.{answers, outs}
use Rattle.proof_transcript.specs.world_model.State.{Machine}
use Rattle.proof_transcript.specs.world_model.Events as world
use Rattle.proof_transcript.specs.world_model.Events.{Event, OpensFrom}
use Rattle.proof_transcript.specs.proof_spoken.Said.{KnowsAgain, KnowsListing}
use Rattle.proof_transcript.specs.proof_spoken.Restarts.{AreHeld, IsHeld, KeepsWell, StartsWell}
use Rattle.proof_transcript.proofs.Classes.{IsNoInterview as ListsNone, LeavesRecords, classes_of, event_kept, joined_place, set_here, set_there}
use Rattle.proof_transcript.proofs.proof_spoken_Hosts.{of_joined}
use Rattle.proof_transcript.specs.proof_walk.ByLine.{IsAsked}
use Rattle.proof_waking.specs.proof_alone.State.{HostMachine, with_world}
use Rattle.proof_waking.specs.proof_alone.Steps.{AreTold, Step, Tells, Comes, Misses, Says, Says_nothing, Asks, Refuses, Shows, Restarts, Begins_tick, Numbers, Judges, Does, entries, happens}
use Rattle.proof_waking.specs.proof_alone.Phases.{Phase, May}
use Rattle.proof_waking.specs.proof_alone.Runs.{WalkOver, both_know}
use Rattle.proof_waking.specs.proof_alone.Tables.{KnowsTables, TieTables}
use Rattle.proof_waking.proofs.proof_alone_Apart.{missed_are}
use Rattle.proof_waking.proofs.InOrder.{is_asked}
use Rattle.proof_waking.proofs.Listening.{IsNoInterview, TellsNone, answers_none, event_none, line_none, others_none, own_quiet}
use Rattle.proof_waking.specs.Judged.{IsBehindFrame, IsOfRequest, KnowsJudged}
use Rattle.proof_known.specs.Known.{KnowsHeard}
use Rattle.proof_known.proofs.Events.{IsPartOf, event_at}
use Rattle.proof_known.proofs.Hearing.{interview_listed}
use Rattle.proof_known.proofs.Listing.{known_heard, known_here, known_more, known_there}

-- ---- events that are no interview that ended well

listed_none : (event : HostEvent) → IsNoInterview event → ListsNone event
listed_none (Interviews n listens classes update) none = absurd none
listed_none event none = tt

asked_quiet : (event : HostEvent) → IsAsked event → IsNoInterview event
asked_quiet (Interviews n listens classes update) asked = absurd asked
asked_quiet event asked = tt

request_quiet : (event : HostEvent) → IsOfRequest event → IsNoInterview event
request_quiet (Interviews n listens classes update) of_it = absurd of_it
request_quiet event of_it = tt

-- ---- hosts that have the same records

abbrev pub Again : Type 0
Again = (old new : HostState) (texts : List (List ℕ)) → AreHeld old texts → AreHeld new texts → KnowsAgain old new

known_again : Again → (old new : HostState) (records : Option (List (List ℕ))) → IsSome records → IsHeld old records → IsHeld new records → KnowsAgain old new
known_again again old new None told held holds = let bad : false ≡ true = told in absurd cc
known_again again old new (Some texts) told held holds = again old new texts held holds

-- ---- what is known

abbrev pub Heard : List Entry → HostState → Type 0
Heard past h = KnowsListing listing_heard past h

same_heard : (past told : List Entry) (h : HostState) → AllByRecursion TellsNone told → Heard past h → Heard (past ++ told) h
same_heard past told h all knows node = knows node ∙ sym (known_more past told node all)

module _ (law : LeavesRecords) (again : Again)
    (goes_on : (m : Machine) (event : Event) → HostFacts m.host.state → IsHeld m.host.state m.records → world.May m event → KeepsWell m event
    → StartsWell m event × IsHeld (world.happens m event).host.state (world.happens m event).records) where
  quiet_heard : (past told : List Entry) (h : HostState) (event : HostEvent) → IsNoInterview event → AllByRecursion TellsNone told → Heard past h → Heard (past ++ told) (after h event)
  quiet_heard past told h event none all knows node = event_kept law h event (listed_none event none) node ∙ knows node ∙ sym (known_more past told node all)

  -- an interview ends well
  interview_heard : (past : List Entry) (h : HostState) (n : ℕ) (listens : Bool) (classes : List ℕ) (update : Update) → (node_of h.nodes n).joined ≡ true
      → flat_map (classes_in n) (notices_here past) ≡ classes ∷ [] → Heard past h → Heard (past ++ entry.Interviewed n ∷ []) (after h (Interviews n listens classes update))
  interview_heard past h n listens classes update joined listed knows node = elim (cases_eq node n) [
    | inl same ↦
        subst (λ (k : ℕ). classes_of (after h (Interviews n listens classes update)).nodes k ≡ known_heard (past ++ entry.Interviewed n ∷ []) k) (sym same)
        (set_here h.nodes n (after_interview (node_of h.nodes n) listens classes) (joined_place h.nodes n joined) ∙ sym (known_here past n classes listed))
    | inr other ↦ set_there h.nodes n (after_interview (node_of h.nodes n) listens classes) node other ∙ knows node ∙ sym (known_there past n node other)
  ]

  part_quiet : (past told : List Entry) (m : HostMachine) (event : HostEvent) → IsNoInterview event → AreTold (outs m.state event) told → Heard past m.state → Heard (past ++ told) (after m.state event)
  part_quiet past told m event none are knows = quiet_heard past told m.state event none (event_none m.state event told none are) knows

  behind_heard : (past told : List Entry) (m : HostMachine) (event : HostEvent) (left : List HostEvent) → AreTold (outs m.state event) told → IsBehindFrame past m (event ∷ left)
      → ((n : ℕ) (listens : Bool) (classes : List ℕ) (update : Update) → event ≡ Interviews n listens classes update → (node_of m.state.nodes n).joined ≡ true) → Heard past m.state
      → Heard (past ++ told) (after m.state event)
  behind_heard past told m (Interviews n listens classes update) left (rest, is, none) behind joined knows =
      let are : told ≡ entry.Interviewed n ∷ [] = is ∙ ap (λ (l : List Entry). entry.Interviewed n ∷ l) none in
      subst (λ (l : List Entry). Heard (past ++ l) (after m.state (Interviews n listens classes update))) (sym are)
      (interview_heard past m.state n listens classes update (joined n listens classes update refl) (interview_listed past m left n listens classes update behind) knows)
  behind_heard past told m event left are behind joined knows = part_quiet past told m event tt are knows

  does_heard : (past told : List Entry) (m : HostMachine) (event : HostEvent) → IsPartOf past m event → AreTold (outs m.state event) told
      → ((n : ℕ) (listens : Bool) (classes : List ℕ) (update : Update) → event ≡ Interviews n listens classes update → (node_of m.state.nodes n).joined ≡ true) → Heard past m.state
      → Heard (past ++ told) (after m.state event)
  does_heard past told m event (inl own) are joined knows = part_quiet past told m event (own_quiet event own) are knows
  does_heard past told m event (inr (inl of_it)) are joined knows = part_quiet past told m event (request_quiet event of_it) are knows
  does_heard past told m event (inr (inr (left, behind))) are joined knows = behind_heard past told m event left are behind joined knows

  -- a host that starts from the records
  starts_heard : (past : List Entry) (m : HostMachine) (state : HostState) → OpensFrom m.keys m.records state → TieTables past m.state m.records → Heard past m.state → Heard (past ++ []) state
  unfolding world.happens world.May
  starts_heard past m state opens tie knows =
      let got = goes_on (with_world m) (world.Restarts state) tie.facts.host tie.held opens tie.told in
      subst (λ (l : List Entry). Heard l state) (sym (append-nil past)) (λ node. known_again again m.state state m.records tie.told tie.held got.1 node ∙ knows node)

  -- ---- the walk

  step_goes : (here next : Phase) (past : List Entry) (m : HostMachine) (one : Step) → May here m one next → TieTables past m.state m.records → KnowsJudged here past m → Heard past m.state
      → Heard (past ++ entries m one) (happens m one).state
  step_goes here next past m (Tells e) may tie judged knows = same_heard past (e ∷ []) m.state (others_none e may.1, tt) knows
  step_goes here next past m (Comes unit) may tie judged knows = same_heard past _ m.state (tt, tt) knows
  step_goes here next past m (Misses text marks) may tie judged knows =
      same_heard past (entry.Written Chip text ∷ marks) m.state (tt, missed_are TellsNone line_none marks may.1) knows
  step_goes here next past m (Says words line) may tie judged knows = same_heard past _ m.state (tt, tt) knows
  step_goes here next past m (Says_nothing words) may tie judged knows = same_heard past _ m.state (tt, tt) knows
  step_goes here next past m (Asks event) (line, here_is, asked, may, numbered, is) tie judged knows =
      quiet_heard past (answers m.state event) m.state event (asked_quiet event (is_asked line m.state event asked)) (answers_none m.state event) knows
  step_goes here next past m (Refuses refusal) may tie judged knows = same_heard past _ m.state (tt, tt) knows
  step_goes here next past m (Shows node) may tie judged knows = same_heard past _ m.state (tt, tt) knows
  step_goes here next past m (Restarts state) may tie judged knows = starts_heard past m state may.1 tie knows
  step_goes here next past m (Begins_tick left) may tie judged knows = same_heard past [] m.state tt knows
  step_goes here next past m Numbers may tie judged knows = same_heard past _ m.state (tt, tt) knows
  step_goes here next past m (Judges item rest behind told) may tie judged knows = part_quiet past told m (Hears item) tt may.1.told_so knows
  step_goes here next past m (Does event told) may tie judged knows =
      does_heard past told m event (event_at here next past m event told may judged) may.2
      (λ n listens classes update is. joins n listens classes update is) knows
    where
      joins : (n : ℕ) (listens : Bool) (classes : List ℕ) (update : Update) → event ≡ Interviews n listens classes update → (node_of m.state.nodes n).joined ≡ true
      joins n listens classes update is =
          of_joined m.state (Interviews n listens classes update) tie.asks (subst (λ (e : HostEvent). MayHost m.state e) is may.1.0)

  pub heard_walk : WalkOver (both_know KnowsTables KnowsJudged) (Allows may_wake) (Allows may_wake) KnowsHeard
  heard_walk = record {
    step = λ here next past m one may ground stand knows. (stand, step_goes here next past m one may ground.0.0 ground.1 knows);
    turn = λ here next past m turns ground knows. knows;
  }
