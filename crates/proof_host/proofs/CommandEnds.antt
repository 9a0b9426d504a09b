-- The three ways in which a command ends, as one: its entry, and its outcome in the table.
use Rattle.std.proofs.Common.{◌≡◌, ℕ, List, [], ◌∷◌, Some, inl, inr, refl, sym, ap, ◌∙◌}
use Rattle.std.specs.List.{AllByRecursion}
use Rattle.std.proofs.lemmas.Bool.{cases_eq}
use Rattle.zw_base.proofs.Each.{all-append, all-weaker}
use Rattle.zw_base.specs.declared.property.Setting.{Setting}
use Rattle.zw_text.specs.declared.entry.Ended.{Ended}
use Rattle.zw_text.specs.declared.entry.Ended.TheVariants as ended
use Rattle.zw_text.specs.declared.entry.Entry.{Entry}
use Rattle.zw_text.specs.declared.entry.Entry.TheVariants.{Out}
use Rattle.zw_text.specs.declared.entry.Outcome.{Outcome}
use Rattle.zw_text.specs.Transcript.{outcome, outcome_of as outcome_told}
use Rattle.host_model.specs.host_node.State.{NodeState}
use Rattle.host_model.specs.host_node.TableState.{node_of}
use Rattle.host_model.specs.host_keep.declared.final_status.FinalStatus.{FinalStatus}
use Rattle.host_model.specs.host_keep.declared.final_status.FinalStatus.TheVariants as final
use Rattle.host_model.specs.State.{Command, command_at, with_outcome}
use Rattle.host_model.specs.After.{outcome_of}
use Rattle.host_model.specs.Outs.{ended_of, stored_entries}
use Rattle.host_model.specs.Facts.{OwnsCommands}
use Rattle.proof_host.specs.Entries.{IsAside}
use Rattle.proof_host.specs.Laws.{IsUnderWay, MayEnd}
use Rattle.proof_host.specs.Tables.{outcome_in}
use Rattle.proof_host.specs.Facts.{AreAccepted, AreEntered, IsInOrder}
use Rattle.proof_host.proofs.Commands.{waits_so, under_way_so}
use Rattle.proof_host.proofs.Views.{IsSilent, silent}
use Rattle.proof_host.proofs.Owned.{node_found}
use Rattle.proof_host.proofs.Effect.{OneNode, SameNodes, Unanswers, Cancels, Finishes}
use Rattle.proof_host.proofs.InOrder.{opened_is, waiting_is, waiting_waits}

-- a command ends, and no session begins
pub record Ends (T : List Entry) (cs cs' : List Command) (nodes nodes' : List NodeState) (entries : List Entry) : Type 0 where
  pub command : ℕ
  pub how : Ended
  pub taken : Command
  pub found : command_at cs command ≡ Some taken
  pub commands_are : cs' ≡ with_outcome cs command (outcome_told how)
  pub sessions_are : (m : ℕ) → (node_of nodes' m).book.commands ≡ (node_of nodes m).book.commands
  pub more : List Entry
  pub entries_are : entries ≡ Out command how ∷ more
  pub silent : AllByRecursion IsSilent more
  pub may : MayEnd T (Out command how)

-- the commands of the sessions stay
pub same_sessions : (nodes nodes' : List NodeState) → SameNodes nodes nodes' → (m : ℕ) → (node_of nodes' m).book.commands ≡ (node_of nodes m).book.commands
same_sessions nodes nodes' same m = ap (λ (s : NodeState). s.book.commands) (same m)

pub one_sessions : (nodes nodes' : List NodeState) (n : ℕ) (state : NodeState) → OneNode nodes nodes' n state → state.book.commands ≡ (node_of nodes n).book.commands
    → (m : ℕ) → (node_of nodes' m).book.commands ≡ (node_of nodes m).book.commands
one_sessions nodes nodes' n state one e m = elim (cases_eq m n) [
  | inl same ↦ ap (λ (k : ℕ). (node_of nodes' k).book.commands) same ∙ ap (λ (s : NodeState). s.book.commands) one.here ∙ e ∙ ap (λ (k : ℕ). (node_of nodes k).book.commands) (sym same)
  | inr other ↦ ap (λ (s : NodeState). s.book.commands) (one.there m other)
]

pub asides_silent : (entries : List Entry) → AllByRecursion IsAside entries → AllByRecursion IsSilent entries
asides_silent entries asides = all-weaker IsAside IsSilent silent entries asides

pub stores_silent : (n : ℕ) (settings : List Setting) → AllByRecursion IsSilent (stored_entries n settings)
stores_silent n [] = tt
stores_silent n (s ∷ settings) = (tt, stores_silent n settings)

-- a final status is told as it is entered
pub told_so : (status : FinalStatus) → outcome_of status ≡ outcome_told (ended_of status)
told_so final.NoSupport = refl
told_so final.Fail = refl
told_so final.Success = refl

may_finish : (T : List Entry) (c : ℕ) (status : FinalStatus) → IsUnderWay (outcome c T) → MayEnd T (Out c (ended_of status))
may_finish T c final.NoSupport under_way = under_way
may_finish T c final.Fail under_way = under_way
may_finish T c final.Success under_way = under_way

module _ (T : List Entry) (cs : List Command) (nodes : List NodeState) (owns : (m : ℕ) → OwnsCommands cs m (node_of nodes m)) (orders : (m : ℕ) → IsInOrder cs (node_of nodes m))
    (accepted : AreAccepted T cs) (entered : AreEntered T cs) where
  pub unanswered_ends : (cs' : List Command) (nodes' : List NodeState) (entries : List Entry) → Unanswers cs cs' nodes nodes' entries → Ends T cs cs' nodes nodes' entries
  unanswered_ends cs' nodes' entries e =
      let one = opened_is cs nodes owns orders e.node e.command e.opened in
      record {
        command = e.command;
        how = ended.Unanswered;
        taken = one.command;
        found = one.found;
        commands_are = e.commands_are;
        sessions_are = same_sessions nodes nodes' e.nodes_are;
        more = e.more;
        entries_are = e.entries_are;
        silent = asides_silent e.more e.asides;
        may = under_way_so (outcome e.command T) (outcome_in cs e.command) (entered e.command) ((orders e.node).under_way e.command e.opened);
      }

  pub cancelled_ends : (cs' : List Command) (nodes' : List NodeState) (entries : List Entry) → Cancels cs cs' nodes nodes' entries → Ends T cs cs' nodes nodes' entries
  cancelled_ends cs' nodes' entries e =
      let one = waiting_is cs nodes owns orders e.node e.command e.waits in
      record {
        command = e.command;
        how = ended.Cancelled;
        taken = one.command;
        found = one.found;
        commands_are = e.commands_are;
        sessions_are = one_sessions nodes nodes' e.node _ e.nodes_are refl;
        more = [];
        entries_are = e.entries_are;
        silent = tt;
        may = (
          (e.node, accepted.nodes e.command ∙ node_found cs e.node e.command one),
          waits_so (outcome e.command T) (outcome_in cs e.command) (entered e.command) (waiting_waits cs nodes owns orders e.node e.command e.waits),
        );
      }

  pub finished_ends : (cs' : List Command) (nodes' : List NodeState) (entries : List Entry) → Finishes cs cs' nodes nodes' entries → Ends T cs cs' nodes nodes' entries
  finished_ends cs' nodes' entries e =
      let one = opened_is cs nodes owns orders e.node e.command e.opened in
      record {
        command = e.command;
        how = ended_of e.status;
        taken = one.command;
        found = one.found;
        commands_are = e.commands_are ∙ ap (λ (o : Outcome). with_outcome cs e.command o) (told_so e.status);
        sessions_are = one_sessions nodes nodes' e.node _ e.nodes_are refl;
        more = _;
        entries_are = e.entries_are;
        silent = all-append IsSilent _ e.more (stores_silent e.node _) (asides_silent e.more e.asides);
        may = may_finish T e.command e.status (under_way_so (outcome e.command T) (outcome_in cs e.command) (entered e.command) ((orders e.node).under_way e.command e.opened));
      }
