-- A host goes on having places in its store only for what commands set and what was heard, over all events of the machine, also where it starts again from its records.
use Rattle.std.proofs.Common.{◌≡◌, ℕ, List, [], ◌∷◌, ◌++◌, Option, Some, refl, sym, ap, subst, ◌∙◌}
use Rattle.s0_crypto.specs.declared.key_pair.Keys.{Keys}
use Rattle.host_keep.specs.Kept.{kept_of}
use Rattle.host_keep.specs.Legal.{AreLegal}
use Rattle.host_keep.specs.declared.record.Record.{Record}
use Rattle.proof_air.specs.host_model.State.{HostState}
use Rattle.proof_air.specs.host_model.Events.{HostEvent}
use Rattle.proof_air.specs.host_model.After.{after}
use Rattle.proof_air.specs.host_model.May.{May as MayHost}
use Rattle.proof_air.specs.host_model.Did.{MayAll as MayAllHost, after_all, records_all, texts_of}
use Rattle.proof_air.specs.host_model.Facts.{HostFacts}
use Rattle.proof_air.specs.host_model.Holding.{HoldsAlone}
use Rattle.proof_air.specs.host_model.Opening.{opened}
use Rattle.proof_air.specs.world_model.State.{Machine, with_texts}
use Rattle.proof_air.specs.world_model.Events.{Event, Outside_does, Host_does, Host_takes, Decoder_ticks, Refuses, Shows_values, Restarts, OpensFrom, happens, May}
use Rattle.proof_air.specs.world_model.Did.{MayAll, happens_all}
use Rattle.proof_transcript.proofs.StoredPlaces.{KeepsNoMore, OrdersStay, alone_keeps, event_keeps}

-- what is known of a host whose keeper tells its records
pub record HasPlaces (m : Machine) : Type 0 where
  pub texts : List (List ℕ)
  pub told : m.records ≡ Some texts
  pub facts : HostFacts m.host.state
  pub no_more : KeepsNoMore m.host.state

-- of hosts, and of those that start from records
pub record HostsKeep : Type 0 where
  pub facts : (h : HostState) (event : HostEvent) → HostFacts h → MayHost h event → HostFacts (after h event)
  pub orders : OrdersStay
  pub opened_alone : (keys : Keys) (records : List Record) → AreLegal records → HoldsAlone (opened keys records) (kept_of records)
  pub opened_facts : (keys : Keys) (records : List Record) → AreLegal records → HostFacts (opened keys records)

module _ (keep : HostsKeep) where
  all_keep : (h : HostState) (events : List HostEvent) → MayAllHost h events → HostFacts h → KeepsNoMore h → HostFacts (after_all h events) × KeepsNoMore (after_all h events)
  all_keep h [] may facts no_more = (facts, no_more)
  all_keep h (event ∷ events) may facts no_more = all_keep (after h event) events may.1 (keep.facts h event facts may.0) (event_keeps keep.orders h event facts may.0 no_more)

  -- the host did these
  after_these : (m new : Machine) (events : List HostEvent) → new.host.state ≡ after_all m.host.state events → new.records ≡ with_texts m.records (texts_of (records_all m.host.state events))
      → MayAllHost m.host.state events → HasPlaces m → HasPlaces new
  after_these m new events state_is records_are may has =
      let all = all_keep m.host.state events may has.facts has.no_more in
      record {
        texts = has.texts ++ texts_of (records_all m.host.state events);
        told = records_are ∙ ap (λ (o : Option (List (List ℕ))). with_texts o (texts_of (records_all m.host.state events))) has.told;
        facts = subst HostFacts (sym state_is) all.0;
        no_more = subst KeepsNoMore (sym state_is) all.1;
      }

  -- the host stays
  same_host : (m new : Machine) → new.host.state ≡ m.host.state → new.records ≡ m.records → HasPlaces m → HasPlaces new
  same_host m new state_is records_are has = record {
    texts = has.texts;
    told = records_are ∙ has.told;
    facts = subst HostFacts (sym state_is) has.facts;
    no_more = subst KeepsNoMore (sym state_is) has.no_more;
  }

  pub starts_again : (keys : Keys) (state : HostState) (texts : List (List ℕ)) → OpensFrom keys (Some texts) state → HostFacts state × KeepsNoMore state
  starts_again keys state texts (records, are, legal, is) = (
    subst HostFacts (sym is) (keep.opened_facts keys records legal),
    subst KeepsNoMore (sym is) (alone_keeps (opened keys records) (kept_of records) (keep.opened_alone keys records legal)),
  )

  one_keeps : (m : Machine) (event : Event) → May m event → HasPlaces m → HasPlaces (happens m event)
  unfolding happens May
  one_keeps m (Outside_does event) may has = same_host m (happens m (Outside_does event)) refl refl has
  one_keeps m (Host_does event) may has = after_these m (happens m (Host_does event)) (event ∷ []) refl refl may has
  one_keeps m (Host_takes count rest items events) may has = after_these m (happens m (Host_takes count rest items events)) events refl refl may.may has
  one_keeps m Decoder_ticks may has = same_host m (happens m Decoder_ticks) refl refl has
  one_keeps m (Refuses line refusal) may has = same_host m (happens m (Refuses line refusal)) refl refl has
  one_keeps m (Shows_values node) may has = same_host m (happens m (Shows_values node)) refl refl has
  one_keeps m (Restarts state) may has =
      let both = starts_again m.keys state has.texts (subst (λ (o : Option (List (List ℕ))). OpensFrom m.keys o state) has.told may) in
      record { texts = has.texts; told = has.told; facts = both.0; no_more = both.1 }

  pub places_kept : (m : Machine) (events : List Event) → MayAll m events → HasPlaces m → HasPlaces (happens_all m events)
  places_kept m [] may has = has
  places_kept m (event ∷ events) may has = places_kept (happens m event) events may.1 (one_keeps m event may.0 has)
