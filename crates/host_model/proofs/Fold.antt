-- Records that are legal open a host that has what they give.
use Rattle.std.proofs.Common.{◌≡◌, ℕ, suc, Bool, true, false, if◌then◌else◌, List, [], ◌∷◌, ◌++◌, Option, Some, None, option_map, refl, ◌∙◌}
use Rattle.host_node.specs.State.{NodeState}
use Rattle.host_node.specs.Steps.{as_recorded}
use Rattle.host_node.specs.Facts.{NodeFacts, is_recorded}
use Rattle.host_node.specs.Events.{NodeEvent, after as after_node, May as node_may}
use Rattle.host_node.specs.TableState.{node_of as node_among, nodes_after}
use Rattle.host_node.specs.TableFacts.{NodesFacts}
use Rattle.s0_crypto.specs.declared.key_pair.Keys.{Keys}
use Rattle.host_keep.specs.Kept.{Kept, first_kept, kept_of, after as kept_after, after_all as kept_after_all}
use Rattle.host_keep.specs.Legal.{is_legal, first_illegal, AreLegal}
use Rattle.host_keep.specs.declared.record.Record.{Record}
use Rattle.host_model.specs.State.{HostState, first_host}
use Rattle.host_model.specs.Events.{HostEvent}
use Rattle.host_model.specs.After.{after}
use Rattle.host_model.specs.May.{May}
use Rattle.host_model.specs.Facts.{HostFacts}
use Rattle.host_model.specs.Restoring.{restored}
use Rattle.host_model.specs.Opening.{restored_all, opened}
use Rattle.host_model.specs.Holding.{HoldsAlone}
use Rattle.host_model.proofs.Beginning.{begins_alone}
use Rattle.host_model.proofs.Legal.{may_is_legal}
use Rattle.host_model.proofs.Restores.{restored_alone}
use Rattle.host_model.proofs.RestoredFacts.{restored_facts}
use Rattle.host_model.proofs.Restarted.{restarted_facts, restarted_alone}
use Rattle.host_keep.proofs.RecordLists.{none_of, legal_cons}

pub restored_all-append : (h : HostState) (records more : List Record) → restored_all h (records ++ more) ≡ restored_all (restored_all h records) more
unfolding restored_all
restored_all-append h [] more = refl
restored_all-append h (one ∷ records) more = restored_all-append (restored h one) records more

pub step_none : (b : Bool) (rest : Option ℕ) → (if b then option_map suc rest else Some 0) ≡ None → (b ≡ true) × (rest ≡ None)
step_none true rest e = (refl, none_of rest e)
step_none false rest e = absurd cc

-- a host with its facts has what is kept, and nothing besides
record IsSoundly (h : HostState) (kept : Kept) : Type 0 where
  facts : HostFacts h
  alone : HoldsAlone h kept

module _ (each : (h : HostState) (event : HostEvent) → HostFacts h → May h event → HostFacts (after h event))
    (law : (nodes : List NodeState) (node : ℕ) (event : NodeEvent) → node_may (node_among nodes node) event → NodesFacts nodes → NodesFacts (nodes_after nodes node event))
    (others : (n : NodeState) (event : NodeEvent) → is_recorded n event ≡ false → as_recorded (after_node n event) ≡ as_recorded n) where
  pub legal_alone : (h : HostState) (kept : Kept) (one : Record) → HostFacts h → HoldsAlone h kept → is_legal kept one ≡ true → HoldsAlone (restored h one) (kept_after kept one)
  legal_alone h kept one f x e = restored_alone others h kept one f (may_is_legal h kept one x ∙ e) x

  legal_all : (h : HostState) (kept : Kept) (records : List Record) → IsSoundly h kept → first_illegal kept records ≡ None → IsSoundly (restored_all h records) (kept_after_all kept records)
  unfolding restored_all kept_after_all
  legal_all h kept [] s e = s
  legal_all h kept (one ∷ more) s e =
      let both = legal_cons kept one more e in
      let may = may_is_legal h kept one s.alone ∙ both.0 in
      legal_all (restored h one) (kept_after kept one) more (record { facts = restored_facts each law h one s.facts may; alone = restored_alone others h kept one s.facts may s.alone }) both.1

  module _ (first : (keys : Keys) → HostFacts (first_host keys)) where
    legal_records : (keys : Keys) (records : List Record) → AreLegal records → IsSoundly (restored_all (first_host keys) records) (kept_of records)
    legal_records keys records e = legal_all (first_host keys) first_kept records (record { facts = first keys; alone = begins_alone keys }) e

    pub all_alone : (keys : Keys) (records : List Record) → AreLegal records → HoldsAlone (restored_all (first_host keys) records) (kept_of records)
    all_alone keys records e = (legal_records keys records e).alone

    pub all_facts : (keys : Keys) (records : List Record) → AreLegal records → HostFacts (restored_all (first_host keys) records)
    all_facts keys records e = (legal_records keys records e).facts

    pub opened_alone : (keys : Keys) (records : List Record) → AreLegal records → HoldsAlone (opened keys records) (kept_of records)
    opened_alone keys records e = restarted_alone others (restored_all (first_host keys) records) (kept_of records) (all_alone keys records e)

    module _ (keeps : (n : NodeState) (event : NodeEvent) → node_may n event → NodeFacts n → NodeFacts (after_node n event)) where
      pub opened_facts : (keys : Keys) (records : List Record) → AreLegal records → HostFacts (opened keys records)
      opened_facts keys records e = restarted_facts keeps (restored_all (first_host keys) records) (all_facts keys records e)
