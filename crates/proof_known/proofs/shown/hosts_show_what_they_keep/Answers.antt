-- At the words that ask for them the values of a node are those that the transcript gives.
use Rattle.std.proofs.Common.{List, [], ◌∷◌, sym, subst}
use Rattle.std.specs.Prelude.{Some}
use Rattle.s0_crypto.specs.declared.key_pair.Keys.{Keys}
use Rattle.zw_text.specs.declared.line.Line.{Line}
use Rattle.zw_text.specs.declared.entry.Entry.{Entry}
use Rattle.zw_text.specs.declared.entry.Entry.TheVariants.{Said}
use Rattle.proof_transcript.specs.law_transcript.Lists.{EachAfter}
use Rattle.proof_transcript.specs.law_time.Moments.{Allows}
use Rattle.proof_transcript.specs.law_time.Waking.{may_wake}
use Rattle.proof_transcript.specs.law_host.Heard.{listing_heard}
use Rattle.proof_transcript.specs.law_host.HostLegal.{IsShown, ShowsValues}
use Rattle.proof_transcript.specs.world_model.Events.{shown_values}
use Rattle.proof_transcript.proofs.Lists.{each-append}
use Rattle.proof_transcript.proofs.LastTable.{shown_kept}
use Rattle.proof_waking.specs.proof_alone.State.{HostMachine, first_alone}
use Rattle.proof_waking.specs.proof_alone.Phases.{Phase}
use Rattle.proof_waking.specs.proof_alone.Runs.{Run, Walk, both_know}
use Rattle.proof_waking.proofs.Running.{over, run_keeps}
use Rattle.proof_known.specs.Known.{KnowsAll, KnowsAsked, KnowsPlaces, KnowsWhole}
use Rattle.proof_known.proofs.Events.{beyond}
use Rattle.proof_known.proofs.Showing.{rests_show, shown_walk}
use Rattle.proof_known.proofs.shown.hosts_show_what_they_keep.Goals as goal

module _ (c : goal.After-tables_are_what_was_said) where
  walk : Walk (ShowsValues listing_heard) (both_know KnowsWhole KnowsAsked)
  walk =
      over KnowsWhole (Allows may_wake) (ShowsValues listing_heard) KnowsAsked c.hosts_know_what_was_told.ensures.walk
      (beyond KnowsAll KnowsPlaces (Allows may_wake) (ShowsValues listing_heard) KnowsAsked
      (shown_walk (λ past m node kept tie words.
      subst (λ (l : List Line). IsShown listing_heard past l (shown_values m.state node)) (sym words)
      (sym (shown_kept listing_heard past m.state (c.laws_follow.ensures.laws past m.state kept.0.facts) (c.laws_follow.ensures.stores past m.state kept.0.facts)
      (λ n. c.tables_are_what_was_said.ensures listing_heard past m.state n kept.0.facts kept.1) tie.heard node)))))

  keeps : (keys : Keys) {here : Phase} {told : List Entry} {m : HostMachine} → Run (first_alone keys (Some [])) here told m
      → EachAfter (ShowsValues listing_heard) [] told × both_know KnowsWhole KnowsAsked here told m
  keeps keys run =
      run_keeps (ShowsValues listing_heard) (both_know KnowsWhole KnowsAsked) walk [] run (c.hosts_know_what_was_told.ensures.first keys, tt)

pub returns-clause-told : goal.returns-clause-told
returns-clause-told c = λ keys told run. (keeps c keys run.2).0

pub returns-clause-whole : goal.returns-clause-whole
returns-clause-whole c = λ keys told run.
    let known = keeps c keys run.1 in
    each-append (ShowsValues listing_heard) [] told (Said [] ∷ []) known.0 (rests_show told run.0 known.1.1, tt)
