-- The facts go on with each record that a host takes up, and what it tells: so they hold of a host that starts from any legal records, and of any entries that tell them.
use Rattle.std.proofs.Common.{◌≡◌, ℕ, ◌+◌, ◌<◌, ◌==◌, true, false, is_none, unwrap_or, List, [], ◌∷◌, ◌++◌, length, drop, Option, Some, None, refl, sym, ap, ap₂, ◌∙◌, subst, append_assoc, append-nil, arith}
use Rattle.std.specs.Prelude.{slice_index}
use Rattle.std.proofs.lemmas.Bool.{eqb-true, and_parts}
use Rattle.s0_crypto.specs.declared.key_pair.Keys.{Keys}
use Rattle.zw_text.specs.declared.entry.Entry.{Entry}
use Rattle.zw_text.specs.declared.entry.Entry.TheVariants as entry
use Rattle.zw_text.specs.declared.entry.Outcome.TheVariants as outcome
use Rattle.supervision.specs.Host.{open_session, begun_of, command_at as command_of_session}
use Rattle.supervision.specs.Session.{wire_id}
use Rattle.law_transcript.specs.host_orders.Refusals.{Known, refusal_of}
use Rattle.law_transcript.specs.host_orders.Wrapping.{carriage_of}
use Rattle.host_model.specs.host_node.Steps.{oldest}
use Rattle.host_model.specs.host_keep.Kept.{Kept, Taken, command_of, first_kept, kept_of, after as kept_after}
use Rattle.host_model.specs.host_keep.Legal.{AreLegal, first_illegal, is_first, is_legal}
use Rattle.host_model.specs.host_keep.declared.final_status.FinalStatus.{FinalStatus}
use Rattle.host_model.specs.host_keep.declared.final_status.FinalStatus.TheVariants as final
use Rattle.host_model.specs.host_keep.declared.record.Record.{Record}
use Rattle.host_model.specs.host_keep.declared.record.Record.TheVariants.{Accepted, Joined, Classes, Begun, Final, Cancelled, Given, Spent, Seen}
use Rattle.host_model.specs.State.{HostState, Command, command_at, first_host, node_of, with_outcome}
use Rattle.host_model.specs.Sessions.{settings_with}
use Rattle.host_model.specs.After.{node_for}
use Rattle.host_model.specs.Events.{Accepts, Cancels, Finishes}
use Rattle.host_model.specs.May.{known_of}
use Rattle.host_model.specs.Facts.{HostFacts}
use Rattle.host_model.specs.Holding.{HoldsAlone}
use Rattle.host_model.specs.Opening.{opened, restored_all}
use Rattle.host_model.specs.Outs.{ended_of, noted, stored_entries}
use Rattle.host_model.specs.Restoring.{carriage_for, ending, may_restore, properties_with, restored}
use Rattle.host_model.proofs.Fold.{step_none}
use Rattle.host_model.proofs.OpenSessions.{told_session}
use Rattle.host_model.proofs.Pumps.{none_of}
use Rattle.host_model.proofs.RestoredFacts.{from_among}
use Rattle.host_model.proofs.Tests.{all_true, first_is, open_command_is, session_is, unrefused_is}
use Rattle.proof_host.specs.Entries.{notes_of}
use Rattle.proof_host.specs.Facts.{Facts}
use Rattle.proof_host.specs.RecordsTold.{TellRecords, end_told, told_by, values_told}
use Rattle.proof_host.specs.Tables.{taken_by}
use Rattle.proof_host.proofs.Effect.{Beginning}
use Rattle.proof_host.proofs.Effects.{Between, LeavesRecords, effect, left, noted_so, notes_noted, one_set, same_set, untouched, waits_place}
use Rattle.proof_host.proofs.FactsKept.{asides_kept, effect_kept}
use Rattle.proof_host.proofs.HostsFromRecords.{KeptStarts, OpenedFacts, OpenedHolds, RestartKeeps, taken_kept}

-- ---- what a record tells

-- the values of a command are those of its order and carriage
values_same : (n : ℕ) (status : FinalStatus) (o : Option Command) → values_told n status (taken_by o) ≡ stored_entries n (settings_with status o)
values_same n final.NoSupport None = refl
values_same n final.NoSupport (Some command) = refl
values_same n final.Fail None = refl
values_same n final.Fail (Some command) = refl
values_same n final.Success None = refl
values_same n final.Success (Some command) = refl

-- ---- what a record does to a host

first_waits : (l : List ℕ) (command : ℕ) → l ≡ command ∷ drop 1 l → 0 < length l
first_waits l command e = omega (arith, ap (λ (k : List ℕ). length k) e)

module _ (law : LeavesRecords) where
  ends_so : (h : HostState) (kept : Kept) (n session : ℕ) (status : FinalStatus) (command : ℕ) → HoldsAlone h kept → open_session (node_of h n).book ≡ Some session
      → command_of_session (node_of h n).book.commands session ≡ Some command
      → Between h (ending h n session status (Some command)) (told_by kept (Final n session status))
  ends_so h kept n session status command x opened carried =
      noted_so (told_is ∙ sym plain)
      (effect law h (Finishes n session (wire_id session) command status false) (record { told = told_session (node_of h n).book session status opened; carried = carried }))
    where
      carried_kept : command_of kept.commands command ≡ taken_by (command_at h.commands command)
      carried_kept = ap (λ (l : List Taken). command_of l command) (sym x.holds.commands) ∙ sym (taken_kept h.commands command)

      told_is : told_by kept (Final n session status) ≡ entry.Out command (ended_of status) ∷ stored_entries n (settings_with status (command_at h.commands command))
      told_is =
          ap (λ (l : List ℕ). end_told kept n status (command_of_session l session)) (sym (x.holds.nodes n).sessions)
          ∙ ap (λ (o : Option ℕ). end_told kept n status o) carried
          ∙ ap (λ (o : Option Taken). entry.Out command (ended_of status) ∷ values_told n status o) carried_kept
          ∙ ap (λ (l : List Entry). entry.Out command (ended_of status) ∷ l) (values_same n status (command_at h.commands command))

      plain : notes_of (noted (entry.Out command (ended_of status) ∷ (stored_entries n (settings_with status (command_at h.commands command)) ++ [])))
          ≡ entry.Out command (ended_of status) ∷ stored_entries n (settings_with status (command_at h.commands command))
      plain =
          notes_noted (entry.Out command (ended_of status) ∷ (stored_entries n (settings_with status (command_at h.commands command)) ++ []))
          ∙ ap (λ (l : List Entry). entry.Out command (ended_of status) ∷ l) (append-nil (stored_entries n (settings_with status (command_at h.commands command))))

  pub restored_effect : (h : HostState) (kept : Kept) (one : Record) → HoldsAlone h kept → may_restore h one ≡ true → Between h (restored h one) (told_by kept one)
  restored_effect h kept (Accepted command order) x e =
      let known : Known = known_of (node_of h order.node) in
      let both = and_parts (command == length h.commands + 1) (is_none (refusal_of known (properties_with h order) order)) e in
      let u = unrefused_is known (properties_with h order) order (none_of (refusal_of known (properties_with h order) order) both.1) in
      noted_so (ap (λ (k : ℕ). entry.Accepted k order.node ∷ []) (eqb-true command (length h.commands + 1) both.0))
      (effect law h (Accepts order (carriage_for h order)) (record {
        unrefused = u.unrefused;
        classes = u.classes;
        listed = u.listed;
        carried = ap (λ (o : Option (List ℕ)). carriage_of (unwrap_or o []) order) u.listed;
        few = u.few;
      }))
  restored_effect h kept (Joined n) x e = left h.commands h.nodes _ h.store [] (same_set h.nodes n _ refl) tt
  restored_effect h kept (Classes n listens classes) x e = left h.commands h.nodes _ h.store [] (same_set h.nodes n _ refl) tt
  restored_effect h kept (Begun n session command) x e =
      let all = all_true (session == begun_of (node_of h n).book + 1) (is_none (open_session (node_of h n).book)) (is_first (node_of h n).waiting command) e in
      let waits = first_is (node_of h n).waiting command all.2 in
      let some = first_waits (node_of h n).waiting command waits in
      let longest : command ≡ oldest (node_of h n) = sym (ap (λ (l : List ℕ). slice_index l 0) waits) in
      Beginning (record {
        node = n;
        some_wait = some;
        closed = none_of (open_session (node_of h n).book) all.1;
        commands_are = ap (λ (c : ℕ). with_outcome h.commands c outcome.Begun) longest;
        nodes_are = one_set h.nodes n _ (waits_place h.nodes n some);
        entries_are = ap₂ (λ (s c : ℕ). entry.Begin n s c ∷ []) (eqb-true session (begun_of (node_of h n).book + 1) all.0) longest;
      }) (λ m p. refl)
  restored_effect h kept (Final n session status) x e =
      let opened = session_is (open_session (node_of h n).book) session e in
      let there = open_command_is (node_of h n).book session opened in
      subst (λ (o : Option ℕ). Between h (ending h n session status o) (told_by kept (Final n session status))) (sym there.1) (ends_so h kept n session status there.0 x opened there.1)
  restored_effect h kept (Cancelled command) x e = effect law h (Cancels command) (from_among (node_of h (node_for h command)).waiting command e)
  restored_effect h kept (Given n given nonce) x e = untouched h [] tt
  restored_effect h kept (Spent n) x e = untouched h [] tt
  restored_effect h kept (Seen n seen) x e = left h.commands h.nodes _ h.store [] (same_set h.nodes n _ refl) tt

-- ---- the facts

-- what is known of a host that takes up a record
pub record RestoresWell : Type 0 where
  pub may : (h : HostState) (kept : Kept) (one : Record) → HoldsAlone h kept → may_restore h one ≡ is_legal kept one
  pub holds : (h : HostState) (kept : Kept) (one : Record) → HostFacts h → HoldsAlone h kept → is_legal kept one ≡ true → HoldsAlone (restored h one) (kept_after kept one)
  pub facts : (h : HostState) (one : Record) → HostFacts h → may_restore h one ≡ true → HostFacts (restored h one)

module _ (law : LeavesRecords) (well : RestoresWell) where
  pub record_kept : (past : List Entry) (h : HostState) (kept : Kept) (one : Record) → Facts past h → HoldsAlone h kept → is_legal kept one ≡ true
      → Facts (past ++ told_by kept one) (restored h one)
  record_kept past h kept one f x legal =
      let may = well.may h kept one x ∙ legal in
      effect_kept past h (restored h one) (told_by kept one) (well.facts h one f.host may) (restored_effect law h kept one x may) f

  pub records_kept : (past : List Entry) (h : HostState) (kept : Kept) (records : List Record) (told : List Entry) → Facts past h → HoldsAlone h kept → first_illegal kept records ≡ None
      → TellRecords kept records told → Facts (past ++ told) (restored_all h records)
  unfolding restored_all first_illegal
  records_kept past h kept [] told f x legal asides = asides_kept past h told f asides
  records_kept past h kept (one ∷ more) told f x legal (aside, rest, asides, tell, is) =
      let both = step_none (is_legal kept one) (first_illegal (kept_after kept one) more) legal in
      let now = record_kept (past ++ aside) h kept one (asides_kept past h aside f asides) x both.0 in
      subst (λ (l : List Entry). Facts l (restored_all (restored h one) more))
      (append_assoc (past ++ aside) (told_by kept one) rest ∙ append_assoc past aside (told_by kept one ++ rest) ∙ ap (λ (l : List Entry). past ++ l) (sym is))
      (records_kept ((past ++ aside) ++ told_by kept one) (restored h one) (kept_after kept one) more rest now (well.holds h kept one f.host x both.0) both.1 tell)

  module _ (restart : RestartKeeps) (starts : KeptStarts) (opened_holds : OpenedHolds) (opened_facts : OpenedFacts)
      (restored_holds : (keys : Keys) (records : List Record) → AreLegal records → HoldsAlone (restored_all (first_host keys) records) (kept_of records)) where
    pub opened_kept : (keys : Keys) (records : List Record) (told : List Entry) → Facts [] (first_host keys) → HoldsAlone (first_host keys) first_kept → AreLegal records
        → TellRecords first_kept records told → Facts told (opened keys records)
    opened_kept keys records told first alone legal tell =
        restart told (restored_all (first_host keys) records) (opened keys records) (records_kept [] (first_host keys) first_kept records told first alone legal tell)
        (starts (restored_all (first_host keys) records) (opened keys records) (kept_of records) (restored_holds keys records legal).holds (opened_holds keys records legal) (opened_facts keys records legal))
