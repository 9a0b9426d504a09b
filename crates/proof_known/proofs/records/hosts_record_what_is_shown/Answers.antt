-- What is known of the host at the end gives what the records tell.
use Rattle.std.proofs.Common.{◌≡◌, ℕ, zero, suc, ◌≤◌, List, [], ◌∷◌, length, slice_index_or, refl, sym, ap, ◌∙◌, subst, arith}
use Rattle.std.specs.Prelude.{Option, Some, None, IfSome}
use Rattle.std.specs.List.{flat_map}
use Rattle.s0_crypto.specs.declared.key_pair.Keys.{Keys}
use Rattle.zw_text.specs.declared.entry.Entry.{Entry}
use Rattle.proof_transcript.specs.law_transcript.Nodes.{is_joined}
use Rattle.proof_transcript.specs.law_transcript.Records.{KeepsRecords}
use Rattle.proof_transcript.specs.law_time.Moments.{Allows}
use Rattle.proof_transcript.specs.law_time.Waking.{may_wake}
use Rattle.proof_transcript.specs.law_host.Heard.{listing_heard}
use Rattle.host_keep.specs.Kept.{KeptNode, blank_node, first_kept, kept_of}
use Rattle.host_keep.specs.declared.record.Record.{Record}
use Rattle.proof_waking.specs.host_model.State.{HostState, node_of}
use Rattle.proof_transcript.specs.proof_spoken.Restarts.{AreHeld, IsHeld}
use Rattle.proof_transcript.specs.proof_spoken.Said.{AreSaid, KnowsListing}
use Rattle.proof_transcript.specs.Records.{TellsCancelled, cancelled_by}
use Rattle.proof_transcript.proofs.CancelledRecords.{all_cancelled}
use Rattle.proof_transcript.proofs.HeldRecords.{one_reading}
use Rattle.proof_transcript.proofs.RecordsShown.{shows}
use Rattle.proof_waking.specs.proof_alone.State.{HostMachine, first_alone}
use Rattle.proof_waking.specs.proof_alone.Phases.{Open, Phase, Resting}
use Rattle.proof_waking.specs.proof_alone.Runs.{Run, Walk, both_know}
use Rattle.proof_waking.specs.proof_alone.Tables.{TieTables}
use Rattle.proof_waking.proofs.Running.{over, run_keeps}
use Rattle.proof_known.specs.Known.{KnowsAll, KnowsCancelled, KnowsNodes, KnowsOrders, KnowsPlaces, KnowsRecords, KnowsSaid, KnowsTold, KnowsWhole}
use Rattle.proof_known.proofs.Events.{beyond}
use Rattle.proof_known.proofs.Recording.{cancelled_walk}
use Rattle.proof_known.proofs.records.hosts_record_what_is_shown.Goals as goal

walk : goal.After-a_text_is_of_one_record → Walk (Allows may_wake) (both_know KnowsWhole KnowsCancelled)
walk c =
    over KnowsWhole (Allows may_wake) (Allows may_wake) KnowsCancelled c.hosts_know_what_was_told.ensures.walk
    (beyond KnowsAll KnowsPlaces (Allows may_wake) (Allows may_wake) KnowsCancelled
    (beyond KnowsOrders KnowsTold (Allows may_wake) (Allows may_wake) KnowsCancelled
    (beyond KnowsNodes KnowsSaid (Allows may_wake) (Allows may_wake) KnowsCancelled cancelled_walk)))

-- nothing is kept of a number that no node has
beyond_all : (nodes : List KeptNode) (n : ℕ) → length nodes ≤ n → slice_index_or nodes n blank_node ≡ blank_node
beyond_all [] n far = refl
beyond_all (node ∷ nodes) zero far = absurd (omega (arith, far))
beyond_all (node ∷ nodes) (suc n) far = beyond_all nodes n (omega (arith, far))

module _ (c : goal.After-a_text_is_of_one_record) where
  -- of a run, at each phase
  known_at : (keys : Keys) (here : Phase) (told : List Entry) (m : HostMachine) → Run (first_alone keys (Some [])) here told m → both_know KnowsWhole KnowsCancelled here told m
  known_at keys here told m run =
      (run_keeps (Allows may_wake) (both_know KnowsWhole KnowsCancelled) (walk c) [] run
      (c.hosts_know_what_was_told.ensures.first keys, record { texts = []; told = refl; kept = []; are = tt; cancelled = refl })).1

  recorded : (told : List Entry) (m : HostMachine) → TieTables told m.state m.records → KnowsListing listing_heard told m.state → AreSaid listing_heard m.state.commands told
      → ((node : ℕ) → (node_of m.state node).joined ≡ is_joined told node) → TellsCancelled told m.records → IfSome m.records (KnowsRecords told m.state)
  recorded told m tie lists said joined tells =
      let held : AreHeld m.state tells.texts = subst (λ (o : Option (List (List ℕ))). IsHeld m.state o) tells.told tie.held in
      let same : tells.kept ≡ held.records = one_reading c.a_text_is_of_one_record.ensures tells.kept held.records tells.texts tells.are held.are in
      let kept : KeepsRecords told tells.texts = record {
        kept = kept_of held.records;
        gives = record { records = held.records; are = held.are; legal = held.legal; gives = refl };
        shows = shows listing_heard told m.state (kept_of held.records) tie.facts held.holds (c.laws_follow.ensures.laws told m.state tie.facts)
            (c.laws_follow.ensures.tables told m.state tie.facts) joined lists said (λ node. c.tables_are_what_was_said.ensures listing_heard told m.state node tie.facts said)
            (all_cancelled first_kept held.records ∙ (ap (λ (l : List Record). flat_map cancelled_by l) (sym same) ∙ tells.cancelled));
      } in
      subst (λ (o : Option (List (List ℕ))). IfSome o (KnowsRecords told m.state)) (sym tells.told) record {
        keeps = kept;
        lists = λ node. sym (lists node) ∙ (held.holds.nodes node).classes;
        listens = λ node. (held.holds.nodes node).listens;
        beyond = λ node far. ap (λ (n : KeptNode). n.interview)
            (beyond_all (kept_of held.records).nodes node (subst (λ (k : ℕ). k ≤ node) (sym (held.holds.places.0 ∙ tie.facts.host.nodes.places)) far));
      }

keeps_those : (told : List Entry) (h : HostState) (records : Option (List (List ℕ))) → IfSome records (KnowsRecords told h) → IfSome records (KeepsRecords told)
keeps_those told h None knows = tt
keeps_those told h (Some texts) knows = knows.keeps

pub returns-clause-told : goal.returns-clause-told
returns-clause-told c = λ keys told m run.
    let known = known_at c keys Resting told m run in
    keeps_those told m.state m.records (recorded c told m known.0.0.0.0.0.0.0 known.0.0.0.0.1 known.0.0.0.1 known.0.0.1.joined known.1)

pub returns-clause-open : goal.returns-clause-open
returns-clause-open c = λ keys told m run.
    let known = known_at c keys Open told m run in
    recorded c told m known.0.0.0.0.0.0.0 known.0.0.0.0.1 known.0.0.0.1 known.0.0.1.joined known.1
