-- A host that starts from the records of a keeper has the joined nodes of the one before, and has heard nothing.
use Rattle.std.proofs.Common.{◌≡◌, ℕ, true, false, List, [], ◌∷◌, ◌++◌, Option, Some, None, refl, sym, ap, subst, ◌∙◌}
use Rattle.std.specs.Prelude.{IsSome}
use Rattle.zw_text.specs.declared.entry.Entry.{Entry}
use Rattle.s0_crypto.specs.declared.key_pair.Keys.{Keys}
use Rattle.value_store.specs.Values.{stored_of}
use Rattle.host_keep.specs.Kept.{Kept, kept_of, node_of as kept_of_node}
use Rattle.host_keep.specs.Legal.{AreLegal, Give}
use Rattle.host_keep.specs.declared.record.Record.{Record}
use Rattle.proof_air.specs.host_model.State.{HostState}
use Rattle.proof_air.specs.host_model.Events.{Joins}
use Rattle.proof_air.specs.host_model.Facts.{HostFacts}
use Rattle.proof_air.specs.host_model.Holding.{HoldsAlone}
use Rattle.proof_air.specs.host_model.Opening.{opened}
use Rattle.proof_air.specs.proof_host.Facts.{Facts}
use Rattle.proof_air.specs.world_model.State.{Machine}
use Rattle.proof_air.specs.world_model.Events.{Event, Host_does, Restarts, OpensFrom, happens, entries, May}
use Rattle.proof_air.specs.world_model.Did.{AllAlong, MayAll}
use Rattle.proof_spoken.specs.Restarts.{StartsWell, KeepsWell, AllKeepWell, AreHeld, IsHeld}
use Rattle.proof_transcript.proofs.Hosts.{SameJoined}
use Rattle.proof_transcript.proofs.ToldState.{GoesOn, StartsOver}

abbrev pub OneThing : Type 0
OneThing = (texts : List (List ℕ)) (kept other : Kept) → Give texts kept → Give texts other → kept ≡ other

abbrev pub Opens : Type 0
Opens = (keys : Keys) (records : List Record) → AreLegal records → HoldsAlone (opened keys records) (kept_of records)

-- hosts that have the same records have the same nodes
same_nodes : OneThing → (old new : HostState) (texts : List (List ℕ)) → AreHeld old texts → AreHeld new texts → SameJoined old.nodes new.nodes
same_nodes one old new texts was now node =
    let first : Give texts (kept_of was.records) = record { records = was.records; are = was.are; legal = was.legal; gives = refl } in
    let later : Give texts (kept_of now.records) = record { records = now.records; are = now.are; legal = now.legal; gives = refl } in
    (now.holds.nodes node).joined
    ∙ (ap (λ (k : Kept). (kept_of_node k node).joined) (one texts (kept_of now.records) (kept_of was.records) later first) ∙ sym (was.holds.nodes node).joined)

module _ (one : OneThing) (opens : Opens) where
  pub starts_over : (keys : Keys) (old state : HostState) (records : Option (List (List ℕ))) → IsSome records → IsHeld old records → IsHeld state records → OpensFrom keys records state → StartsOver old state
  starts_over keys old state None told held holds from = let bad : false ≡ true = told in absurd cc
  starts_over keys old state (Some texts) told held holds (records, are, legal, is) = record {
    joined = same_nodes one old state texts held holds;
    unheard = λ node p. subst (λ (h : HostState). (stored_of h.store node p).heard ≡ None) (sym is) ((opens keys records legal).unheard node p);
  }

  -- each event goes on from the one before
  goes_on : (m : Machine) (event : Event) → HostFacts m.host.state → IsHeld m.host.state m.records → IsHeld (happens m event).host.state (happens m event).records → May m event → KeepsWell m event → GoesOn m event
  unfolding happens May
  goes_on m (Host_does (Joins node)) facts held holds may well = facts.nodes.places
  goes_on m (Restarts state) facts held holds may well = starts_over m.keys m.host.state state m.records well held holds may
  goes_on m event facts held holds may well = tt

  module _ (each_held : (m : Machine) (event : Event) → HostFacts m.host.state → IsHeld m.host.state m.records → May m event → KeepsWell m event
      → StartsWell m event × IsHeld (happens m event).host.state (happens m event).records)
      (each_fact : (past : List Entry) (m : Machine) (event : Event) → Facts past m.host.state → May m event → StartsWell m event → Facts (past ++ entries m event) (happens m event).host.state) where
    pub all_go_on : (past : List Entry) (m : Machine) (events : List Event) → Facts past m.host.state → IsHeld m.host.state m.records → MayAll m events → AllKeepWell m events → AllAlong GoesOn m events
    all_go_on past m [] facts held may well = tt
    all_go_on past m (event ∷ events) facts held may well =
        let goes = each_held m event facts.host held may.0 well.0 in (
          goes_on m event facts.host held goes.1 may.0 well.0,
          all_go_on (past ++ entries m event) (happens m event) events (each_fact past m event facts may.0 goes.0) goes.1 may.1 well.1,
        )
