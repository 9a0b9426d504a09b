-- Each node that has joined stays known to the host, over what the host does and over restarts from the records of a keeper that tells them.
use Rattle.std.proofs.Common.{◌≡◌, ◌⊎◌, ◌≤◌, ◌<◌, ℕ, ◌==◌, ◌||◌, Bool, true, false, List, [], ◌∷◌, ◌++◌, length, length-set, refl, sym, ap, subst, ◌∙◌, inl, inr, arith}
use Rattle.std.proofs.lemmas.Bool.{cases_eq, cases_lt, eqb-true}
use Rattle.std.proofs.lemmas.List.{get_or-set_same, get_or-set_other, set_past}
use Rattle.std.specs.Prelude.{Option, Some, slice_set, slice_index_or}
use Rattle.s0_crypto.specs.declared.key_pair.Keys.{Keys}
use Rattle.device_sim.specs.State.{State}
use Rattle.zw_text.specs.declared.entry.Entry.{Entry}
use Rattle.law_wire.specs.law_transcript.Lists.{Has}
use Rattle.law_wire.specs.law_transcript.Nodes.{first_node, is_joined}
use Rattle.law_wire.proofs.Having.{has_left, has_right}
use Rattle.host_keep.specs.Kept.{Kept, KeptNode, kept_of, blank_node, first_kept, first_nodes, node_of as kept_at, after as kept_after, after_all as kept_after_all, node_with, command_of}
use Rattle.host_keep.specs.Legal.{AreTextsOf, AreLegal}
use Rattle.host_keep.specs.RecordText.{IsTextOf, record_text}
use Rattle.host_keep.specs.declared.record.Record.{Record}
use Rattle.host_keep.specs.declared.record.Record.TheVariants as record_of
use Rattle.host_model.specs.State.{HostState, first_host, node_of}
use Rattle.host_model.specs.Events.{HostEvent, Joins as joins_host}
use Rattle.host_model.specs.Did.{MayAll as MayAllHost, after_all, records_all, texts_of}
use Rattle.host_model.specs.Facts.{HostFacts}
use Rattle.host_model.specs.Holding.{Holds, HoldsAlone}
use Rattle.host_model.specs.Opening.{opened}
use Rattle.proof_walk.specs.world_model.State.{Machine, first_machine, with_texts}
use Rattle.proof_walk.specs.world_model.Events.{Event, Outside_does, Host_does, Host_takes, Decoder_ticks, Refuses, Shows_values, Restarts, OpensFrom, happens, May}
use Rattle.proof_routes.specs.Knowing.{HasRecord, Remembers}

-- ---- records

-- a text that is of one record is of that one among those that texts are of
read_record : ((one other : Record) (text : List ℕ) → IsTextOf one text → IsTextOf other text → one ≡ other) → (one : Record) (records : List Record) (texts : List (List ℕ)) (text : List ℕ)
    → AreTextsOf records texts → Has texts text → IsTextOf one text → Has records one
read_record of_one one records [] text are has is = absurd has
read_record of_one one [] (t ∷ texts) text are has is = absurd are
read_record of_one one (first ∷ records) (t ∷ texts) text are (inl same) is = inl (of_one first one text (subst (IsTextOf first) same are.0) is)
read_record of_one one (first ∷ records) (t ∷ texts) text are (inr has) is = inr (read_record of_one one records texts text are.1 has is)

-- a node that is set stays joined where it was
kept_set : (nodes : List KeptNode) (at : ℕ) (state : KeptNode) (n : ℕ) → ((slice_index_or nodes at blank_node).joined ≡ true → state.joined ≡ true) → (slice_index_or nodes n blank_node).joined ≡ true
    → (slice_index_or (slice_set nodes at state) n blank_node).joined ≡ true
kept_set nodes at state n goes is = by (cases_eq n at) (cases_lt at (length nodes))
  where
    by : (n ≡ at) ⊎ (n ≡ at → ⊥) → (at < length nodes) ⊎ (length nodes ≤ at) → (slice_index_or (slice_set nodes at state) n blank_node).joined ≡ true
    by (inl same) (inl within) =
        ap (λ (k : ℕ). (slice_index_or (slice_set nodes at state) k blank_node).joined) same
        ∙ (ap (λ (s : KeptNode). s.joined) (get_or-set_same nodes at state blank_node within) ∙ goes (ap (λ (k : ℕ). (slice_index_or nodes k blank_node).joined) (sym same) ∙ is))
    by (inl same) (inr past) = ap (λ (l : List KeptNode). (slice_index_or l n blank_node).joined) (set_past nodes at state past) ∙ is
    by (inr other) where_at = ap (λ (s : KeptNode). s.joined) (get_or-set_other nodes at n state blank_node other) ∙ is

kept_one : (kept : Kept) (one : Record) (n : ℕ) → (kept_at kept n).joined ≡ true → (kept_at (kept_after kept one) n).joined ≡ true
kept_one kept (record_of.Accepted command order) n is = kept_set kept.nodes order.node _ n (λ same. same) is
kept_one kept (record_of.Joined node) n is = kept_set kept.nodes node _ n (λ same. refl) is
kept_one kept (record_of.Classes node listens classes) n is = kept_set kept.nodes node _ n (λ same. same) is
kept_one kept (record_of.Begun node session command) n is = kept_set kept.nodes node _ n (λ same. same) is
kept_one kept (record_of.Final node session status) n is = kept_set kept.nodes node _ n (λ same. same) is
kept_one kept (record_of.Cancelled command) n is = kept_set kept.nodes (node_with (command_of kept.commands command)) _ n (λ same. same) is
kept_one kept (record_of.Given node given nonce) n is = kept_set kept.nodes node _ n (λ same. same) is
kept_one kept (record_of.Spent node) n is = kept_set kept.nodes node _ n (λ same. same) is
kept_one kept (record_of.Seen node seen) n is = kept_set kept.nodes node _ n (λ same. same) is

kept_all : (records : List Record) (kept : Kept) (n : ℕ) → (kept_at kept n).joined ≡ true → (kept_at (kept_after_all kept records) n).joined ≡ true
unfolding kept_after_all
kept_all [] kept n is = is
kept_all (one ∷ more) kept n is = kept_all more (kept_after kept one) n (kept_one kept one n is)

kept_places : (kept : Kept) (one : Record) → length (kept_after kept one).nodes ≡ length kept.nodes
kept_places kept (record_of.Accepted command order) = length-set kept.nodes order.node _
kept_places kept (record_of.Joined node) = length-set kept.nodes node _
kept_places kept (record_of.Classes node listens classes) = length-set kept.nodes node _
kept_places kept (record_of.Begun node session command) = length-set kept.nodes node _
kept_places kept (record_of.Final node session status) = length-set kept.nodes node _
kept_places kept (record_of.Cancelled command) = length-set kept.nodes (node_with (command_of kept.commands command)) _
kept_places kept (record_of.Given node given nonce) = length-set kept.nodes node _
kept_places kept (record_of.Spent node) = length-set kept.nodes node _
kept_places kept (record_of.Seen node seen) = length-set kept.nodes node _

-- a node that is recorded as joined is kept so
kept_joined : (records : List Record) (kept : Kept) (node : ℕ) → node < length kept.nodes → Has records (record_of.Joined node) → (kept_at (kept_after_all kept records) node).joined ≡ true
unfolding kept_after_all
kept_joined [] kept node within has = absurd has
kept_joined (one ∷ more) kept node within (inl same) =
    kept_all more (kept_after kept one) node
    (subst (λ (r : Record). (kept_at (kept_after kept r) node).joined ≡ true) (sym same) (ap (λ (s : KeptNode). s.joined) (get_or-set_same kept.nodes node _ blank_node within)))
kept_joined (one ∷ more) kept node within (inr has) = kept_joined more (kept_after kept one) node (subst (λ (n : ℕ). node < n) (sym (kept_places kept one)) within) has

first_places : length first_kept.nodes ≡ 233
unfolding first_nodes
first_places = refl

first_known : (kept_at first_kept first_node).joined ≡ true
unfolding first_nodes
first_known = refl

-- ---- the machine

has_more : (texts added : List (List ℕ)) (one : Record) → HasRecord texts one → HasRecord (texts ++ added) one
has_more texts added one (text, has, is) = (text, has_left texts added text has, is)

-- the transcript shows the same nodes
pub remembers_shown : (past later : List Entry) (m : Machine) → ((node : ℕ) → is_joined later node ≡ is_joined past node) → Remembers past m → Remembers later m
remembers_shown past later m same known = record {
  texts = known.texts;
  told = known.told;
  recorded = λ node is. known.recorded node (sym (same node) ∙ is);
  kept = known.kept;
  holds = known.holds;
  known = λ node is. known.known node (sym (same node) ∙ is);
  facts = known.facts;
}

-- the host and its records are the same
pub remembers_same : (past : List Entry) (m n : Machine) → n.host.state ≡ m.host.state → n.records ≡ m.records → Remembers past m → Remembers past n
remembers_same past m n host records known = record {
  texts = known.texts;
  told = records ∙ known.told;
  recorded = known.recorded;
  kept = known.kept;
  holds = subst (λ (h : HostState). Holds h known.kept) (sym host) known.holds;
  known = known.known;
  facts = subst HostFacts (sym host) known.facts;
}

-- what the contracts of a host and its keeper say
pub record Keeping : Type 0 where
  pub of_one : (one other : Record) (text : List ℕ) → IsTextOf one text → IsTextOf other text → one ≡ other
  pub begins : (keys : Keys) → HoldsAlone (first_host keys) first_kept
  pub does : (h : HostState) (kept : Kept) (events : List HostEvent) → HostFacts h → MayAllHost h events → Holds h kept → Holds (after_all h events) (kept_after_all kept (records_all h events))
  pub opens : (keys : Keys) (records : List Record) → AreLegal records → HoldsAlone (opened keys records) (kept_of records)
  pub first_facts : (keys : Keys) → HostFacts (first_host keys)
  pub opened_facts : (keys : Keys) (records : List Record) → AreLegal records → HostFacts (opened keys records)
  pub facts : (h : HostState) (events : List HostEvent) → HostFacts h → MayAllHost h events → HostFacts (after_all h events)

module _ (law : Keeping) where
  -- the host did these
  did : (past : List Entry) (m n : Machine) (events : List HostEvent) → n.host.state ≡ after_all m.host.state events → n.records ≡ with_texts m.records (texts_of (records_all m.host.state events))
      → MayAllHost m.host.state events → Remembers past m → Remembers past n
  did past m n events host records may known = record {
    texts = known.texts ++ texts_of (records_all m.host.state events);
    told = records ∙ ap (λ (r : Option (List (List ℕ))). with_texts r (texts_of (records_all m.host.state events))) known.told;
    recorded = λ node is. more node (known.recorded node is);
    kept = kept_after_all known.kept (records_all m.host.state events);
    holds = subst (λ (h : HostState). Holds h (kept_after_all known.kept (records_all m.host.state events))) (sym host) (law.does m.host.state known.kept events known.facts may known.holds);
    known = λ node is. kept_all (records_all m.host.state events) known.kept node (known.known node is);
    facts = subst HostFacts (sym host) (law.facts m.host.state events known.facts may);
  }
    where
      more : (node : ℕ) → (node ≡ first_node) ⊎ HasRecord known.texts (record_of.Joined node)
          → (node ≡ first_node) ⊎ HasRecord (known.texts ++ texts_of (records_all m.host.state events)) (record_of.Joined node)
      more node (inl first) = inl first
      more node (inr has) = inr (has_more known.texts (texts_of (records_all m.host.state events)) (record_of.Joined node) has)

  kept_so : (texts : List (List ℕ)) (kept : List Record) → AreTextsOf kept texts → (node : ℕ) → node ≤ 232 → (node ≡ first_node) ⊎ HasRecord texts (record_of.Joined node) → (kept_at (kept_of kept) node).joined ≡ true
  kept_so texts kept are node high (inl first) = kept_all kept first_kept node (subst (λ (k : ℕ). (kept_at first_kept k).joined ≡ true) (sym first) first_known)
  kept_so texts kept are node high (inr (text, has, is)) =
      kept_joined kept first_kept node (omega (arith, high, first_places)) (read_record law.of_one (record_of.Joined node) kept texts text are has is)

  -- a host that starts again
  again : (past : List Entry) (m n : Machine) (state : HostState) → ((node : ℕ) → is_joined past node ≡ true → node ≤ 232) → OpensFrom m.keys m.records state → Remembers past m
      → n.host.state ≡ state → n.records ≡ m.records → Remembers past n
  again past m n state within opens known host records =
      let (kept, are, legal, is) = subst (λ (r : Option (List (List ℕ))). OpensFrom m.keys r state) known.told opens in
      let state_is : n.host.state ≡ opened m.keys kept = host ∙ is in
      record {
        texts = known.texts;
        told = records ∙ known.told;
        recorded = known.recorded;
        kept = kept_of kept;
        holds = subst (λ (h : HostState). Holds h (kept_of kept)) (sym state_is) (law.opens m.keys kept legal).holds;
        known = λ node joined. kept_so known.texts kept are node (within node joined) (known.recorded node joined);
        facts = subst HostFacts (sym state_is) (law.opened_facts m.keys kept legal);
      }

  -- any event
  pub event_remembers : (past : List Entry) (m : Machine) (event : Event) → ((node : ℕ) → is_joined past node ≡ true → node ≤ 232) → May m event → Remembers past m → Remembers past (happens m event)
  unfolding happens May
  event_remembers past m (Outside_does event) within may known = remembers_same past m _ refl refl known
  event_remembers past m (Host_does event) within may known = did past m _ (event ∷ []) refl refl may known
  event_remembers past m (Host_takes count rest items events) within may known = did past m _ events refl refl may.may known
  event_remembers past m Decoder_ticks within may known = remembers_same past m _ refl refl known
  event_remembers past m (Refuses line refusal) within may known = remembers_same past m _ refl refl known
  event_remembers past m (Shows_values node) within may known = remembers_same past m _ refl refl known
  event_remembers past m (Restarts state) within may known = again past m _ state within may known refl refl

  -- at first
  pub first_remembers : (keys : Keys) (texts : List (List ℕ)) (devices : List State) → Remembers [] (first_machine keys (Some texts) devices)
  first_remembers keys texts devices = record {
    texts = texts;
    told = refl;
    recorded = λ node is. inl (only node is);
    kept = first_kept;
    holds = (law.begins keys).holds;
    known = λ node is. subst (λ (k : ℕ). (kept_at first_kept k).joined ≡ true) (sym (only node is)) first_known;
    facts = law.first_facts keys;
  }
    where
      by : (node : ℕ) (b : Bool) → (first_node == node) ≡ b → b || false ≡ true → node ≡ first_node
      by node true same is = sym (eqb-true first_node node same)
      by node false same is = absurd (let none : false ≡ true = is in cc)

      only : (node : ℕ) → is_joined [] node ≡ true → node ≡ first_node
      only node is = by node (first_node == node) refl is

-- what the host knows of a node that has joined
pub known_host : (past : List Entry) (m : Machine) → Remembers past m → (node : ℕ) → is_joined past node ≡ true → (node_of m.host.state node).joined ≡ true
known_host past m known node is = (known.holds.nodes node).joined ∙ known.known node is

-- a node that joins the host is recorded, and kept
join_recorded : (past : List Entry) (m : Machine) (node : ℕ) (known : Remembers past m) → (1 ≤ node) × (node ≤ 232)
    → HasRecord (known.texts ++ texts_of (records_all m.host.state (joins_host node ∷ []))) (record_of.Joined node)
join_recorded past m node known range = (
  record_text (record_of.Joined node),
  has_right known.texts (record_text (record_of.Joined node) ∷ []) (record_text (record_of.Joined node)) (inl refl),
  record { in_range = range; text = refl },
)

join_kept : (past : List Entry) (m : Machine) (node : ℕ) (known : Remembers past m) → node ≤ 232 → (kept_at (kept_after_all known.kept (records_all m.host.state (joins_host node ∷ []))) node).joined ≡ true
join_kept past m node known high =
    let places = known.holds.places.0 in
    let many = known.facts.nodes.places in
    kept_joined (record_of.Joined node ∷ []) known.kept node (omega (arith, high, places, many)) (inl refl)

pub host_joined : Keeping → (past : List Entry) (m : Machine) (node : ℕ) → (1 ≤ node) × (node ≤ 232) → May m (Host_does (joins_host node)) → Remembers past m
    → (later : Remembers past (happens m (Host_does (joins_host node)))) × HasRecord later.texts (record_of.Joined node) × ((kept_at later.kept node).joined ≡ true)
unfolding happens May did
host_joined law past m node range may known = (did law past m _ (joins_host node ∷ []) refl refl may known, join_recorded past m node known range, join_kept past m node known range.1)
