-- What the keeper holds goes on with the host, so a host that starts from it goes on as the one before.
use Rattle.std.proofs.Common.{◌≡◌, ℕ, List, [], ◌∷◌, ◌++◌, map, true, false, Option, Some, None, refl, ap₂, sym, subst}
use Rattle.std.specs.Prelude.{IsSome}
use Rattle.std.specs.List.{AllByRecursion}
use Rattle.s0_crypto.specs.declared.key_pair.Keys.{Keys}
use Rattle.zw_text.specs.declared.entry.Entry.{Entry}
use Rattle.host_keep.specs.Kept.{Kept, kept_of, first_kept}
use Rattle.host_keep.specs.Legal.{AreTextsOf, AreLegal}
use Rattle.host_keep.specs.Rows.{IsRecord}
use Rattle.host_keep.specs.RecordText.{IsTextOf, record_text}
use Rattle.host_keep.specs.declared.record.Record.{Record}
use Rattle.proof_host.specs.host_model.State.{HostState, first_host}
use Rattle.proof_host.specs.host_model.Events.{HostEvent}
use Rattle.proof_host.specs.host_model.Did.{MayAll as MayAllHost, after_all, records_all, texts_of}
use Rattle.proof_host.specs.host_model.Facts.{HostFacts}
use Rattle.proof_host.proofs.EventLists.{all_in_range}
use Rattle.proof_host.specs.host_model.Holding.{Holds, HoldsAlone}
use Rattle.proof_host.specs.host_model.Opening.{opened}
use Rattle.proof_host.specs.host_model.Recording.{AllOfJoined}
use Rattle.proof_device.specs.world_model.State.{Machine, with_texts}
use Rattle.proof_device.specs.world_model.Events.{Event, Outside_does, Host_does, Host_takes, Decoder_ticks, Refuses, Shows_values, Restarts, OpensFrom, happens, entries, May}
use Rattle.proof_device.specs.world_model.Did.{happens_all, MayAll}
use Rattle.proof_host.specs.Facts.{Facts, StartsAs}
use Rattle.proof_host.proofs.HostsFromRecords.{nothing_kept, nothing_legal, KeptStarts, KeptGoesOn, EventsHold, EventsAreLegal, OpenedHolds, OpenedFacts}
use Rattle.proof_host.proofs.Recorded.{legal-append as legal_both}
use Rattle.proof_world.specs.Restarts.{StartsWell, AllStartWell, KeepsWell, AllKeepWell, BeginsEmpty, AreHeld, IsHeld}

-- ---- texts

pub texts_of_range : (records : List Record) → AllByRecursion IsRecord records → AreTextsOf records (map record_text records)
texts_of_range [] all = tt
texts_of_range (one ∷ records) all = (record { in_range = all.0; text = refl }, texts_of_range records all.1)

pub texts_both : (a b : List Record) (s t : List (List ℕ)) → AreTextsOf a s → AreTextsOf b t → AreTextsOf (a ++ b) (s ++ t)
texts_both [] b [] t first later = later
texts_both [] b (x ∷ s) t first later = absurd first
texts_both (one ∷ a) b [] t first later = absurd first
texts_both (one ∷ a) b (x ∷ s) t first later = (first.0, texts_both a b s t first.1 later)

-- a text is of one record only, so texts are of one list of records
pub one_reading : ((one other : Record) (text : List ℕ) → IsTextOf one text → IsTextOf other text → one ≡ other) → (a b : List Record) (texts : List (List ℕ)) → AreTextsOf a texts → AreTextsOf b texts → a ≡ b
one_reading of_one [] [] [] first later = refl
one_reading of_one [] [] (t ∷ texts) first later = absurd first
one_reading of_one [] (y ∷ b) [] first later = absurd later
one_reading of_one [] (y ∷ b) (t ∷ texts) first later = absurd first
one_reading of_one (x ∷ a) [] [] first later = absurd first
one_reading of_one (x ∷ a) [] (t ∷ texts) first later = absurd later
one_reading of_one (x ∷ a) (y ∷ b) [] first later = absurd first
one_reading of_one (x ∷ a) (y ∷ b) (t ∷ texts) first later =
    ap₂ (λ (z : Record) (zs : List Record). z ∷ zs) (of_one x y t first.0 later.0) (one_reading of_one a b texts first.1 later.1)

-- ---- a host and its records

module _ (of_one : (one other : Record) (text : List ℕ) → IsTextOf one text → IsTextOf other text → one ≡ other) (starts : KeptStarts) (goes_on : KeptGoesOn)
    (events_hold : EventsHold) (are_legal : EventsAreLegal) (opened_holds : OpenedHolds) (opened_facts : OpenedFacts) where
  held_on : (h : HostState) (events : List HostEvent) (texts : List (List ℕ)) → HostFacts h → MayAllHost h events → AllOfJoined h events → AreHeld h texts
      → AreHeld (after_all h events) (texts ++ texts_of (records_all h events))
  held_on h events texts facts may well held = record {
    records = held.records ++ records_all h events;
    are = texts_both held.records (records_all h events) texts (texts_of (records_all h events)) held.are (texts_of_range (records_all h events) (all_in_range h events may));
    legal = legal_both first_kept held.records (records_all h events) held.legal (are_legal h (kept_of held.records) events facts may well held.holds);
    holds = subst (λ (k : Kept). Holds (after_all h events) k) (sym (goes_on first_kept held.records (records_all h events)))
        (events_hold h (kept_of held.records) events facts may held.holds);
  }

  pub host_held : (h : HostState) (events : List HostEvent) (records : Option (List (List ℕ))) → HostFacts h → MayAllHost h events → AllOfJoined h events → IsHeld h records
      → IsHeld (after_all h events) (with_texts records (texts_of (records_all h events)))
  host_held h events None facts may well held = tt
  host_held h events (Some texts) facts may well held = held_on h events texts facts may well held

  -- a host that starts from the records
  opens_well : (keys : Keys) (old : HostState) (texts : List (List ℕ)) (records : List Record) → AreHeld old texts → AreTextsOf records texts → AreLegal records
      → StartsAs old (opened keys records) × AreHeld (opened keys records) texts
  opens_well keys old texts records held are legal =
      let same : held.records ≡ records = one_reading of_one held.records records texts held.are are in
      let alone : HoldsAlone (opened keys records) (kept_of records) = opened_holds keys records legal in (
        starts old (opened keys records) (kept_of records) (subst (λ (l : List Record). Holds old (kept_of l)) same held.holds) alone (opened_facts keys records legal),
        record { records = records; are = are; legal = legal; holds = alone.holds },
      )

  starts_well : (keys : Keys) (old state : HostState) (records : Option (List (List ℕ))) → IsHeld old records → IsSome records → OpensFrom keys records state
      → StartsAs old state × IsHeld state records
  starts_well keys old state None held some opens = let bad : false ≡ true = some in absurd cc
  starts_well keys old state (Some texts) held some opens =
      let (records, are, legal, is) = opens in
      let well = opens_well keys old texts records held are legal in
      (subst (λ (h : HostState). StartsAs old h) (sym is) well.0, subst (λ (h : HostState). AreHeld h texts) (sym is) well.1)

  -- ---- events of the machine

  pub event_held : (m : Machine) (event : Event) → HostFacts m.host.state → IsHeld m.host.state m.records → May m event → KeepsWell m event
      → StartsWell m event × IsHeld (happens m event).host.state (happens m event).records
  unfolding happens May
  event_held m (Outside_does event) facts held may well = (tt, held)
  event_held m (Host_does event) facts held may well = (tt, host_held m.host.state (event ∷ []) m.records facts may (well, tt) held)
  event_held m (Host_takes count rest items events) facts held may well = (tt, host_held m.host.state events m.records facts may.may well held)
  event_held m Decoder_ticks facts held may well = (tt, held)
  event_held m (Refuses line refusal) facts held may well = (tt, held)
  event_held m (Shows_values node) facts held may well = (tt, held)
  event_held m (Restarts state) facts held may well = starts_well m.keys m.host.state state m.records held well may

  module _ (each : (past : List Entry) (m : Machine) (event : Event) → Facts past m.host.state → May m event → StartsWell m event → Facts (past ++ entries m event) (happens m event).host.state) where
    pub events_held : (past : List Entry) (m : Machine) (events : List Event) → Facts past m.host.state → IsHeld m.host.state m.records → MayAll m events → AllKeepWell m events
        → AllStartWell m events × IsHeld (happens_all m events).host.state (happens_all m events).records
    events_held past m [] facts held may well = (tt, held)
    events_held past m (event ∷ events) facts held may well =
        let one = event_held m event facts.host held may.0 well.0 in
        let more = events_held (past ++ entries m event) (happens m event) events (each past m event facts may.0 one.0) one.1 may.1 well.1 in
        ((one.0, more.0), more.1)

-- ---- the beginning

pub first_held : (keys : Keys) (records : Option (List (List ℕ))) → HoldsAlone (first_host keys) first_kept → BeginsEmpty records → IsHeld (first_host keys) records
first_held keys None alone empty = tt
first_held keys (Some texts) alone empty =
    subst (λ (l : List (List ℕ)). AreHeld (first_host keys) l) (sym empty)
    (record { records = []; are = tt; legal = nothing_legal; holds = subst (λ (k : Kept). Holds (first_host keys) k) (sym nothing_kept) alone.holds })
