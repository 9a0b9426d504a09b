-- Outcomes whole, tables, and runs with restarts between.
use Rattle.std.proofs.Common.{◌≡◌, ℕ, List, [], ◌∷◌, ◌++◌, length, Option, Some, None, refl, sym, ap, subst, ◌∙◌, append_assoc, append-nil}
use Rattle.std.specs.List.{AllByRecursion}
use Rattle.zw_text.specs.declared.entry.Entry.{Entry}
use Rattle.zw_text.specs.declared.entry.Outcome.{Outcome}
use Rattle.zw_text.specs.declared.entry.Outcome.TheVariants.{Waiting, Begun, Success, Fail, NoSupport, Unanswered, Cancelled}
use Rattle.zw_text.specs.Transcript.{outcome}
use Rattle.law_transcript.specs.Commands.{is_waiting}
use Rattle.law_transcript.specs.Sessions.{IsFinal}
use Rattle.law_transcript.specs.Values.{last_given}
use Rattle.value_store.specs.Values.{Values}
use Rattle.std.proofs.lemmas.List.Elements.{filter_agree}
use Rattle.zw_base.proofs.Each.{all-weaker}
use Rattle.supervision.specs.Host.{open_session, command_at as command_of_session}
use Rattle.host_model.specs.host_node.State.{NodeState}
use Rattle.host_model.specs.host_node.Steps.{oldest}
use Rattle.host_model.specs.host_node.TableState.{node_of}
use Rattle.host_model.specs.State.{HostState, Command, command_at}
use Rattle.host_model.specs.Sessions.{command_by, open_command}
use Rattle.host_model.specs.Events.{HostEvent}
use Rattle.host_model.specs.After.{after}
use Rattle.host_model.specs.May.{May}
use Rattle.host_model.specs.Did.{after_all, MayAll}
use Rattle.proof_host.specs.Entries.{entries_at, entries_all}
use Rattle.proof_host.specs.Laws.{numbers_for}
use Rattle.proof_host.specs.Tables.{outcome_in, recorded, taken_at}
use Rattle.proof_host.specs.Stores.{given_by, IsKnown, AreStored, StoresLaw}
use Rattle.proof_host.specs.Facts.{AreInOrder, Facts, AreShown, AreTold, StartsAs, Run, AreRuns, entries_of_runs, last_of_runs}
use Rattle.proof_host.proofs.Stored.{asked_alike}
use Rattle.proof_host.proofs.Confirmed.{given_alike, taken_alike}
use Rattle.proof_host.proofs.Commands.{nodes_alike, final_so, under_way_so, waits_so}
use Rattle.proof_host.proofs.Effect.{Effect, Leaving, Unanswering, Accepting, Cancelling, Beginning, Finishing}
use Rattle.proof_host.proofs.Effects.{LeavesRecords, effect}
use Rattle.proof_host.proofs.InOrder.{oldest_is, oldest_waits}
use Rattle.proof_host.proofs.CommandEnds.{unanswered_ends, cancelled_ends, finished_ends}
use Rattle.proof_host.proofs.WaitingCommands.{waiting_shown}
use Rattle.proof_host.proofs.Shown.{AreEnteredBy, entered_left, entered_ended, entered_taken, entered_begun}
use Rattle.proof_host.proofs.FactsKept.{HostKeeps, each_kept, all_kept}

-- ---- outcomes whole

abbrev whole : Outcome → Outcome
whole what = what

told_by : (T : List Entry) (h : HostState) → Facts T h → (cs' : List Command) (nodes' : List NodeState) (store' : Values) (entries : List Entry) → Effect h.commands cs' h.nodes nodes' h.store store' entries
    → AreEnteredBy whole T h.commands → AreEnteredBy whole (T ++ entries) cs'
told_by T h f cs' nodes' store' entries (Leaving e same) told = entered_left T h.commands cs' h.nodes nodes' entries whole e told
told_by T h f cs' nodes' store' entries (Accepting e same) told = entered_taken T h.commands cs' h.nodes nodes' entries whole e told
told_by T h f cs' nodes' store' entries (Unanswering e same) told =
    entered_ended T h.commands cs' h.nodes nodes' entries whole (unanswered_ends T h.commands h.nodes f.host.owns f.in_order f.accepted f.entered cs' nodes' entries e) told
told_by T h f cs' nodes' store' entries (Cancelling e same) told =
    entered_ended T h.commands cs' h.nodes nodes' entries whole (cancelled_ends T h.commands h.nodes f.host.owns f.in_order f.accepted f.entered cs' nodes' entries e) told
told_by T h f cs' nodes' store' entries (Finishing e same) told =
    entered_ended T h.commands cs' h.nodes nodes' entries whole (finished_ends T h.commands h.nodes f.host.owns f.in_order f.accepted f.entered cs' nodes' entries e) told
told_by T h f cs' nodes' store' entries (Beginning e same) told =
    let one = oldest_is h.commands h.nodes f.host.owns f.in_order e.node e.some_wait in
    let waits = oldest_waits h.commands h.nodes f.host.owns f.in_order e.node e.some_wait in
    entered_begun T h.commands cs' h.nodes nodes' entries whole e one.command one.found (told (oldest (node_of h.nodes e.node)) ∙ waits) told

module _ (host : HostKeeps) (law : LeavesRecords) where
  pub told_each : (past : List Entry) (h : HostState) (event : HostEvent) → Facts past h → AreTold past h → May h event → AreTold (past ++ entries_at h event) (after h event)
  told_each past h event f told may = told_by past h f (after h event).commands (after h event).nodes (after h event).store (entries_at h event) (effect law h event may) told

  pub told_all : (past : List Entry) (h : HostState) (events : List HostEvent) → Facts past h → AreTold past h → MayAll h events → AreTold (past ++ entries_all h events) (after_all h events)
  told_all past h [] f told may = subst (λ (T : List Entry). AreTold T h) (sym (append-nil past)) told
  told_all past h (event ∷ events) f told may =
      subst (λ (T : List Entry). AreTold T (after_all (after h event) events)) (append_assoc past (entries_at h event) (entries_all (after h event) events))
      (told_all (past ++ entries_at h event) (after h event) events (each_kept host law past h event f may.0) (told_each past h event f told may.0) may.1)

-- ---- tables

pub tables_shown : (past : List Entry) (h : HostState) → Facts past h → AreShown past h
tables_shown past h f = record {
  count = sym f.accepted.count;
  nodes = λ k. sym (f.accepted.nodes k);
  outcomes = λ k. sym (f.entered k);
  sessions_are = λ m. sym (f.begun m);
  waiting = waiting_shown past h.commands h.nodes f.entered f.waiting;
}

-- ---- confirmed values

pub stores_hold : (past : List Entry) (h : HostState) → Facts past h → StoresLaw past h
stores_hold past h f = record {
  entered = f.stored.entered;
  following = f.stored.following;
  confirmed = λ m p.
      f.confirmed m p
      ∙ sym (given_alike h.commands (outcome_in h.commands) (λ k. outcome k past) f.entered p (node_of h.nodes m).book.commands)
      ∙ ap (λ (l : List ℕ). last_given (given_by h.commands (λ k. outcome k past) p) l) (sym (f.begun m));
}

-- ---- restarts

recorded_twice : (a : Outcome) → recorded (recorded a) ≡ recorded a
recorded_twice Waiting = refl
recorded_twice Begun = refl
recorded_twice Success = refl
recorded_twice Fail = refl
recorded_twice NoSupport = refl
recorded_twice Unanswered = refl
recorded_twice Cancelled = refl

-- outcomes that are recorded alike leave the order
recorded_order : (cs cs' : List Command) (begun waiting : List ℕ) (opened : Option ℕ) → ((k : ℕ) → recorded (outcome_in cs' k) ≡ recorded (outcome_in cs k)) → AreInOrder cs begun waiting opened → AreInOrder cs' begun waiting opened
recorded_order cs cs' begun waiting opened same order = record {
  rise = order.rise;
  wait = all-weaker (λ k. outcome_in cs k ≡ Waiting) (λ k. outcome_in cs' k ≡ Waiting) (λ k w. waits_so (outcome_in cs' k) (outcome_in cs k) (same k) w) waiting order.wait;
  ended = all-weaker (λ k. (opened ≡ Some k → ⊥) → IsFinal (outcome_in cs k)) (λ k. (opened ≡ Some k → ⊥) → IsFinal (outcome_in cs' k))
      (λ k f closed. final_so (outcome_in cs' k) (outcome_in cs k) (same k) (f closed)) begun order.ended;
  under_way = λ k o. under_way_so (outcome_in cs' k) (outcome_in cs k) (same k) (order.under_way k o);
}

waits_alike : (a b : Outcome) → recorded a ≡ recorded b → is_waiting a ≡ is_waiting b
waits_alike a b e = sym (so a) ∙ ap is_waiting e ∙ so b
  where
    so : (o : Outcome) → is_waiting (recorded o) ≡ is_waiting o
    so Waiting = refl
    so Begun = refl
    so Success = refl
    so Fail = refl
    so NoSupport = refl
    so Unanswered = refl
    so Cancelled = refl

opened_so : (a b : NodeState) → a.book.commands ≡ b.book.commands → open_session a.book ≡ open_session b.book → open_command a ≡ open_command b
opened_so a b commands opened = by (open_session a.book) ∙ ap (λ (o : Option ℕ). command_by b o) opened
  where
    by : (o : Option ℕ) → command_by a o ≡ command_by b o
    by None = refl
    by (Some session) = ap (λ (l : List ℕ). command_of_session l session) commands

-- the same orders ask for the same values
stored_alike : (T : List Entry) (cs cs' : List Command) → length cs' ≡ length cs → ((k : ℕ) → taken_at cs' k ≡ taken_at cs k) → AreStored T cs → AreStored T cs'
stored_alike T cs cs' count same f = record {
  entered = f.entered ∙ sym (asked_alike cs cs' T (λ k below. same k) f.known);
  following = f.following;
  known = subst (λ (n : ℕ). AllByRecursion (IsKnown n) T) (sym count) f.known;
}

pub restart_kept : (past : List Entry) (old new : HostState) → Facts past old → StartsAs old new → Facts past new
restart_kept past old new f s =
    let alike : (k : ℕ) → recorded (outcome_in new.commands k) ≡ recorded (outcome_in old.commands k) = λ k. ap recorded (s.outcomes k) ∙ recorded_twice (outcome_in old.commands k) in
    record {
      host = s.host;
      accepted = record { count = f.accepted.count ∙ sym s.count; nodes = λ k. f.accepted.nodes k ∙ sym (nodes_alike (command_at new.commands k) (command_at old.commands k) (s.taken k)) };
      begun = λ m. f.begun m ∙ sym (s.begun m);
      entered = λ k. f.entered k ∙ sym (alike k);
      waiting = λ m. s.waiting m ∙ f.waiting m ∙ filter_agree (λ k. is_waiting (outcome_in old.commands k)) (λ k. is_waiting (outcome_in new.commands k))
          (λ k. waits_alike (outcome_in old.commands k) (outcome_in new.commands k) (sym (alike k))) (numbers_for m past);
      in_order = λ m.
          let a = node_of new.nodes m in
          let b = node_of old.nodes m in
          subst (λ (l : List ℕ). AreInOrder new.commands l a.waiting (open_command a)) (sym (s.begun m))
          (subst (λ (l : List ℕ). AreInOrder new.commands b.book.commands l (open_command a)) (sym (s.waiting m))
          (subst (λ (o : Option ℕ). AreInOrder new.commands b.book.commands b.waiting o) (sym (opened_so a b (s.begun m) (s.opened m)))
          (recorded_order old.commands new.commands b.book.commands b.waiting (open_command b) alike (f.in_order m))));
      stored = stored_alike past old.commands new.commands s.count s.taken f.stored;
      confirmed = λ m p.
          let begun = (node_of old.nodes m).book.commands in
          s.confirmed m p ∙ f.confirmed m p
          ∙ sym (taken_alike old.commands new.commands (outcome_in old.commands) s.taken p begun)
          ∙ sym (given_alike new.commands (outcome_in old.commands) (outcome_in new.commands) alike p begun)
          ∙ ap (λ (l : List ℕ). last_given (given_by new.commands (outcome_in new.commands) p) l) (sym (s.begun m));
      stand = f.stand;
    }

module _ (host : HostKeeps) (law : LeavesRecords) where
  pub runs_kept : (past : List Entry) (h : HostState) (runs : List Run) → Facts past h → AreRuns h runs → Facts (past ++ entries_of_runs h runs) (last_of_runs h runs)
  runs_kept past h [] f are = subst (λ (T : List Entry). Facts T h) (sym (append-nil past)) f
  runs_kept past h (run ∷ more) f are =
      subst (λ (T : List Entry). Facts T (last_of_runs run.next more)) (append_assoc past (entries_all h run.events) (entries_of_runs run.next more))
      (runs_kept (past ++ entries_all h run.events) run.next more
      (restart_kept (past ++ entries_all h run.events) (after_all h run.events) run.next (all_kept host law past h run.events f are.0) are.1) are.2)
