-- Each event leaves the commands of a node in order.
use Rattle.std.proofs.Common.{◌≡◌, ℕ, ◌+◌, ◌<◌, List, [], ◌∷◌, ◌++◌, length, drop, get_or, Option, Some, None, inl, inr, refl, sym, ap, subst, ◌∙◌, append_assoc, arith}
use Rattle.std.specs.Prelude.{Contains}
use Rattle.std.specs.List.{AllByRecursion}
use Rattle.std.proofs.lemmas.Bool.{cases_eq}
use Rattle.std.proofs.lemmas.List.Elements.{All-from_recursion, recursion_from_All, All-contains, All-get_or}
use Rattle.zw_base.proofs.Each.{all-append, all-both, all-right, all-weaker}
use Rattle.zw_text.specs.declared.entry.Outcome.{Outcome}
use Rattle.zw_text.specs.declared.entry.Outcome.TheVariants as outcome
use Rattle.law_transcript.specs.Lists.{Rises}
use Rattle.law_transcript.specs.Sessions.{IsFinal}
use Rattle.value_store.specs.Values.{Values}
use Rattle.host_model.specs.host_node.State.{NodeState}
use Rattle.host_model.specs.host_node.Steps.{after_begin, after_cancel, after_put, oldest, with_final, without}
use Rattle.host_model.specs.host_node.TableState.{node_of}
use Rattle.host_model.specs.host_keep.declared.final_status.FinalStatus.{FinalStatus}
use Rattle.host_model.specs.host_keep.declared.final_status.FinalStatus.TheVariants as final
use Rattle.host_model.specs.host_keep.Status.{status_byte}
use Rattle.host_model.specs.State.{Command, command_at, with_outcome}
use Rattle.host_model.specs.Sessions.{open_command}
use Rattle.host_model.specs.After.{outcome_of}
use Rattle.host_model.specs.Facts.{IsCommandOf, OwnsCommands}
use Rattle.zw_text.specs.declared.entry.Entry.{Entry}
use Rattle.proof_host.specs.Laws.{IsUnderWay}
use Rattle.proof_host.specs.Tables.{outcome_in}
use Rattle.proof_host.specs.Facts.{AreInOrder, IsInOrder}
use Rattle.proof_host.proofs.Lists.{rises-right, below_later, rises-push, rises-without, others_left}
use Rattle.proof_host.proofs.Commands.{outcome_other, outcome_same, outcome_pushed, outcome_past}
use Rattle.proof_host.proofs.Owned.{apart, number_within, of_opened, closed_none, opened_last}
use Rattle.proof_host.proofs.Effect.{only_commands, OneNode, Unanswers, Accepts, Cancels, Begins, Finishes, Effect, Leaving, Unanswering, Accepting, Cancelling, Beginning, Finishing}

-- ---- the same

-- a node with the same commands
pub same_order : (commands : List Command) (a b : NodeState) → only_commands b ≡ only_commands a → IsInOrder commands a → IsInOrder commands b
same_order commands a b e order = subst (λ (r : NodeState). AreInOrder commands r.book.commands r.waiting (open_command r)) (sym e) order

-- commands with the same outcomes
as_before : (cs cs' : List Command) (begun waiting : List ℕ) (opened : Option ℕ) → ((k : ℕ) → outcome_in cs' k ≡ outcome_in cs k) → AreInOrder cs begun waiting opened → AreInOrder cs' begun waiting opened
as_before cs cs' begun waiting opened same order = record {
  rise = order.rise;
  wait = all-weaker (λ k. outcome_in cs k ≡ outcome.Waiting) (λ k. outcome_in cs' k ≡ outcome.Waiting) (λ k w. same k ∙ w) waiting order.wait;
  ended = all-weaker (λ k. (opened ≡ Some k → ⊥) → IsFinal (outcome_in cs k)) (λ k. (opened ≡ Some k → ⊥) → IsFinal (outcome_in cs' k))
      (λ k f other. subst IsFinal (sym (same k)) (f other)) begun order.ended;
  under_way = λ k o. subst IsUnderWay (sym (same k)) (order.under_way k o);
}

-- a command of no session and no wait of the node ends
others_end : (cs : List Command) (c : ℕ) (what : Outcome) (begun waiting : List ℕ) (opened : Option ℕ) → AllByRecursion (λ k. k ≡ c → ⊥) begun → AllByRecursion (λ k. k ≡ c → ⊥) waiting
    → ((k : ℕ) → opened ≡ Some k → k ≡ c → ⊥) → AreInOrder cs begun waiting opened → AreInOrder (with_outcome cs c what) begun waiting opened
others_end cs c what begun waiting opened not_begun not_waiting not_opened order = record {
  rise = order.rise;
  wait = all-both (λ k. outcome_in cs k ≡ outcome.Waiting) (λ k. k ≡ c → ⊥) (λ k. outcome_in (with_outcome cs c what) k ≡ outcome.Waiting)
      (λ k w other. outcome_other cs c what k other ∙ w) waiting order.wait not_waiting;
  ended = all-both (λ k. (opened ≡ Some k → ⊥) → IsFinal (outcome_in cs k)) (λ k. k ≡ c → ⊥) (λ k. (opened ≡ Some k → ⊥) → IsFinal (outcome_in (with_outcome cs c what) k))
      (λ k f other closed. subst IsFinal (sym (outcome_other cs c what k other)) (f closed)) begun order.ended not_begun;
  under_way = λ k o. subst IsUnderWay (sym (outcome_other cs c what k (not_opened k o))) (order.under_way k o);
}

-- each of the first is below each of the others
all_below : (xs ys : List ℕ) → Rises (xs ++ ys) → AllByRecursion (λ x. AllByRecursion (λ y. x < y) ys) xs
all_below [] ys rise = tt
all_below (x ∷ xs) ys rise = (all-right (λ later. x < later) xs ys rise.0, all_below xs ys rise.1)

pub above : (c : ℕ) (ys : List ℕ) → AllByRecursion (λ y. c < y) ys → AllByRecursion (λ y. y ≡ c → ⊥) ys
above c ys all = all-weaker (λ y. c < y) (λ y. y ≡ c → ⊥) (λ y h e. omega arith) ys all

-- ---- the node whose command it is

-- the command of the open session stays under way
stays_open : (cs : List Command) (c : ℕ) (what : Outcome) (begun waiting : List ℕ) (opened : Option ℕ) (command : Command) → command_at cs c ≡ Some command → opened ≡ Some c → IsUnderWay what
    → AllByRecursion (λ y. y ≡ c → ⊥) waiting → AreInOrder cs begun waiting opened → AreInOrder (with_outcome cs c what) begun waiting opened
stays_open cs c what begun waiting opened command found is under_way later order = record {
  rise = order.rise;
  wait = all-both (λ k. outcome_in cs k ≡ outcome.Waiting) (λ k. k ≡ c → ⊥) (λ k. outcome_in (with_outcome cs c what) k ≡ outcome.Waiting)
      (λ k w other. outcome_other cs c what k other ∙ w) waiting order.wait later;
  ended = all-weaker (λ k. (opened ≡ Some k → ⊥) → IsFinal (outcome_in cs k)) (λ k. (opened ≡ Some k → ⊥) → IsFinal (outcome_in (with_outcome cs c what) k))
      (λ k f closed. subst IsFinal (sym (outcome_other cs c what k (λ e. closed (is ∙ ap (λ (i : ℕ). Some i) (sym e))))) (f closed)) begun order.ended;
  under_way = λ k o. let same : k ≡ c = cc in
      subst (λ (i : ℕ). IsUnderWay (outcome_in (with_outcome cs c what) i)) (sym same) (subst IsUnderWay (sym (outcome_same cs c what command found)) under_way);
}

-- it ends
closes : (cs : List Command) (c : ℕ) (what : Outcome) (begun waiting : List ℕ) (opened : Option ℕ) (command : Command) → command_at cs c ≡ Some command → opened ≡ Some c → IsFinal what
    → AllByRecursion (λ y. y ≡ c → ⊥) waiting → AreInOrder cs begun waiting opened → AreInOrder (with_outcome cs c what) begun waiting None
closes cs c what begun waiting opened command found is is_final later order = record {
  rise = order.rise;
  wait = all-both (λ k. outcome_in cs k ≡ outcome.Waiting) (λ k. k ≡ c → ⊥) (λ k. outcome_in (with_outcome cs c what) k ≡ outcome.Waiting)
      (λ k w other. outcome_other cs c what k other ∙ w) waiting order.wait later;
  ended = all-weaker (λ k. (opened ≡ Some k → ⊥) → IsFinal (outcome_in cs k)) (λ k. (None ≡ Some k → ⊥) → IsFinal (outcome_in (with_outcome cs c what) k))
      (λ k f closed. elim (cases_eq k c) [
        | inl same ↦ subst (λ (i : ℕ). IsFinal (outcome_in (with_outcome cs c what) i)) (sym same) (subst IsFinal (sym (outcome_same cs c what command found)) is_final)
        | inr other ↦ subst IsFinal (sym (outcome_other cs c what k other)) (f (λ e. other (let same : k ≡ c = cc in same)))
      ]) begun order.ended;
  under_way = λ k o. cc;
}

-- one that waited is taken back
cancels : (cs : List Command) (c : ℕ) (begun waiting : List ℕ) (opened : Option ℕ) → Contains waiting c → ((k : ℕ) → opened ≡ Some k → k ≡ c → ⊥) → AllByRecursion (λ k. k ≡ c → ⊥) begun
    → AreInOrder cs begun waiting opened → AreInOrder (with_outcome cs c outcome.Cancelled) begun (without waiting c) opened
cancels cs c begun waiting opened has not_opened not_begun order =
    let left = others_left (λ k. outcome_in cs k ≡ outcome.Waiting) waiting c (rises-right begun waiting order.rise) order.wait in
    record {
      rise = rises-without begun waiting c order.rise;
      wait = all-weaker (λ k. (outcome_in cs k ≡ outcome.Waiting) × (k ≡ c → ⊥)) (λ k. outcome_in (with_outcome cs c outcome.Cancelled) k ≡ outcome.Waiting)
          (λ k w. outcome_other cs c outcome.Cancelled k w.1 ∙ w.0) (without waiting c) left;
      ended = all-both (λ k. (opened ≡ Some k → ⊥) → IsFinal (outcome_in cs k)) (λ k. k ≡ c → ⊥) (λ k. (opened ≡ Some k → ⊥) → IsFinal (outcome_in (with_outcome cs c outcome.Cancelled) k))
          (λ k f other closed. subst IsFinal (sym (outcome_other cs c outcome.Cancelled k other)) (f closed)) begun order.ended not_begun;
      under_way = λ k o. subst IsUnderWay (sym (outcome_other cs c outcome.Cancelled k (not_opened k o))) (order.under_way k o);
    }

-- the one that waited longest begins
begins_order : (cs : List Command) (begun waiting : List ℕ) (command : Command) → 0 < length waiting → command_at cs (get_or waiting 0 0) ≡ Some command → AreInOrder cs begun waiting None
    → AreInOrder (with_outcome cs (get_or waiting 0 0) outcome.Begun) (begun ++ get_or waiting 0 0 ∷ []) (drop 1 waiting) (Some (get_or waiting 0 0))
begins_order cs begun [] command some found order = absurd (omega arith)
begins_order cs begun (c ∷ rest) command some found order =
    let later : AllByRecursion (λ y. c < y) rest = (rises-right begun (c ∷ rest) order.rise).0 in
    let now : outcome_in (with_outcome cs c outcome.Begun) c ≡ outcome.Begun = outcome_same cs c outcome.Begun command found in
    record {
      rise = subst Rises (sym (append_assoc begun (c ∷ []) rest)) order.rise;
      wait = all-both (λ k. outcome_in cs k ≡ outcome.Waiting) (λ k. k ≡ c → ⊥) (λ k. outcome_in (with_outcome cs c outcome.Begun) k ≡ outcome.Waiting)
          (λ k w other. outcome_other cs c outcome.Begun k other ∙ w) rest order.wait.1 (above c rest later);
      ended = all-append (λ k. (Some c ≡ Some k → ⊥) → IsFinal (outcome_in (with_outcome cs c outcome.Begun) k)) begun (c ∷ [])
          (all-both (λ k. (None ≡ Some k → ⊥) → IsFinal (outcome_in cs k)) (λ k. k < c) (λ k. (Some c ≡ Some k → ⊥) → IsFinal (outcome_in (with_outcome cs c outcome.Begun) k))
          (λ k f below closed. subst IsFinal (sym (outcome_other cs c outcome.Begun k (λ e. omega arith))) (f (λ e. cc))) begun order.ended (below_later begun c rest order.rise))
          ((λ closed. absurd (closed refl)), tt);
      under_way = λ k o. let same : k ≡ c = cc in
          subst (λ (i : ℕ). IsUnderWay (outcome_in (with_outcome cs c outcome.Begun) i)) (sym same) (subst IsUnderWay (sym now) tt);
    }

-- ---- all nodes

-- a command of one node is other: the others are as they were
module _ (cs : List Command) (nodes : List NodeState) (owns : (m : ℕ) → OwnsCommands cs m (node_of nodes m)) (n c : ℕ) (one : IsCommandOf cs n c) where
  pub of_others : (m : ℕ) (what : Outcome) → (m ≡ n → ⊥) → IsInOrder cs (node_of nodes m) → IsInOrder (with_outcome cs c what) (node_of nodes m)
  of_others m what other order =
      let begun = apart cs m n c other one (node_of nodes m).book.commands (owns m).sessions in
      let waiting = apart cs m n c other one (node_of nodes m).waiting (owns m).waiting in
      others_end cs c what (node_of nodes m).book.commands (node_of nodes m).waiting (open_command (node_of nodes m)) begun waiting
      (λ k o. of_opened (λ i. i ≡ c → ⊥) (node_of nodes m) begun k o) order

-- where the commands have other outcomes or there is one more, by these equations
by_commands : {cs cs' : List Command} → cs' ≡ cs → (nodes : List NodeState) → ((m : ℕ) → IsInOrder cs (node_of nodes m)) → (m : ℕ) → IsInOrder cs' (node_of nodes m)
by_commands {cs} {cs'} e nodes all m = subst (λ (l : List Command). IsInOrder l (node_of nodes m)) (sym e) (all m)

-- one node is so and the others are as they were
by_nodes : (cs : List Command) (nodes nodes' : List NodeState) (n : ℕ) (state : NodeState) → OneNode nodes nodes' n state → IsInOrder cs state
    → ((m : ℕ) → (m ≡ n → ⊥) → IsInOrder cs (node_of nodes m)) → (m : ℕ) → IsInOrder cs (node_of nodes' m)
by_nodes cs nodes nodes' n state one here others m = elim (cases_eq m n) [
  | inl same ↦ subst (λ (k : ℕ). IsInOrder cs (node_of nodes' k)) (sym same) (same_order cs state (node_of nodes' n) one.here here)
  | inr other ↦ same_order cs (node_of nodes m) (node_of nodes' m) (one.there m other) (others m other)
]

is_final : (status : FinalStatus) → IsFinal (outcome_of status)
is_final final.NoSupport = tt
is_final final.Fail = tt
is_final final.Success = tt

module _ (cs : List Command) (nodes : List NodeState) (owns : (m : ℕ) → OwnsCommands cs m (node_of nodes m)) (orders : (m : ℕ) → IsInOrder cs (node_of nodes m)) where
  -- the commands that wait for a node come after the one of its open session
  pub waiting_above : (n c : ℕ) → open_command (node_of nodes n) ≡ Some c → AllByRecursion (λ y. y ≡ c → ⊥) (node_of nodes n).waiting
  waiting_above n c opened =
      let s = node_of nodes n in
      above c s.waiting (of_opened (λ x. AllByRecursion (λ y. x < y) s.waiting) s (all_below s.book.commands s.waiting (orders n).rise) c opened)

  pub opened_is : (n c : ℕ) → open_command (node_of nodes n) ≡ Some c → IsCommandOf cs n c
  opened_is n c opened = of_opened (IsCommandOf cs n) (node_of nodes n) (recursion_from_All (IsCommandOf cs n) (node_of nodes n).book.commands (owns n).sessions) c opened

  pub waiting_is : (n c : ℕ) → Contains (node_of nodes n).waiting c → IsCommandOf cs n c
  waiting_is n c waits = All-contains (IsCommandOf cs n) (node_of nodes n).waiting c (owns n).waiting waits

  pub oldest_is : (n : ℕ) → 0 < length (node_of nodes n).waiting → IsCommandOf cs n (oldest (node_of nodes n))
  oldest_is n some = All-get_or (IsCommandOf cs n) (node_of nodes n).waiting 0 0 some (owns n).waiting

  -- what waits is waiting
  pub waiting_waits : (n c : ℕ) → Contains (node_of nodes n).waiting c → outcome_in cs c ≡ outcome.Waiting
  waiting_waits n c waits = All-contains (λ k. outcome_in cs k ≡ outcome.Waiting) (node_of nodes n).waiting c
      (All-from_recursion (λ k. outcome_in cs k ≡ outcome.Waiting) (node_of nodes n).waiting (orders n).wait) waits

  pub oldest_waits : (n : ℕ) → 0 < length (node_of nodes n).waiting → outcome_in cs (oldest (node_of nodes n)) ≡ outcome.Waiting
  oldest_waits n some = All-get_or (λ k. outcome_in cs k ≡ outcome.Waiting) (node_of nodes n).waiting 0 0 some
      (All-from_recursion (λ k. outcome_in cs k ≡ outcome.Waiting) (node_of nodes n).waiting (orders n).wait)

  order_unanswered : (cs' : List Command) (nodes' : List NodeState) (entries : List Entry) → Unanswers cs cs' nodes nodes' entries → (m : ℕ) → IsInOrder cs' (node_of nodes' m)
  order_unanswered cs' nodes' entries e m =
      let n = e.node in
      let c = e.command in
      let one = opened_is n c e.opened in
      let now = with_outcome cs c outcome.Unanswered in
      same_order cs' (node_of nodes m) (node_of nodes' m) (e.nodes_are m)
      (by_commands e.commands_are nodes (λ k. elim (cases_eq k n) [
        | inl same ↦ subst (λ (i : ℕ). IsInOrder now (node_of nodes i)) (sym same)
            (stays_open cs c outcome.Unanswered (node_of nodes n).book.commands (node_of nodes n).waiting (open_command (node_of nodes n)) one.command one.found e.opened tt
            (waiting_above n c e.opened) (orders n))
        | inr other ↦ of_others cs nodes owns n c one k outcome.Unanswered other (orders k)
      ]) m)

  order_finished : (cs' : List Command) (nodes' : List NodeState) (entries : List Entry) → Finishes cs cs' nodes nodes' entries → (m : ℕ) → IsInOrder cs' (node_of nodes' m)
  order_finished cs' nodes' entries e =
      let n = e.node in
      let c = e.command in
      let s = node_of nodes n in
      let one = opened_is n c e.opened in
      by_commands e.commands_are nodes' (by_nodes (with_outcome cs c (outcome_of e.status)) nodes nodes' n (with_final s (status_byte e.status)) e.nodes_are
      (closes cs c (outcome_of e.status) s.book.commands s.waiting (open_command s) one.command one.found e.opened (is_final e.status) (waiting_above n c e.opened) (orders n))
      (λ m other. of_others cs nodes owns n c one m (outcome_of e.status) other (orders m)))

  order_cancelled : (cs' : List Command) (nodes' : List NodeState) (entries : List Entry) → Cancels cs cs' nodes nodes' entries → (m : ℕ) → IsInOrder cs' (node_of nodes' m)
  order_cancelled cs' nodes' entries e =
      let n = e.node in
      let c = e.command in
      let s = node_of nodes n in
      let one = waiting_is n c e.waits in
      let begun : AllByRecursion (λ k. k ≡ c → ⊥) s.book.commands = all-weaker (λ x. AllByRecursion (λ y. x < y) s.waiting) (λ k. k ≡ c → ⊥)
      (λ k below same. let less : k < c = All-contains (λ y. k < y) s.waiting c (All-from_recursion (λ y. k < y) s.waiting below) e.waits in omega arith)
      s.book.commands (all_below s.book.commands s.waiting (orders n).rise) in
      by_commands e.commands_are nodes' (by_nodes (with_outcome cs c outcome.Cancelled) nodes nodes' n (after_cancel s c) e.nodes_are
      (cancels cs c s.book.commands s.waiting (open_command s) e.waits (λ k o. of_opened (λ i. i ≡ c → ⊥) s begun k o) begun (orders n))
      (λ m other. of_others cs nodes owns n c one m outcome.Cancelled other (orders m)))

  order_begun : (cs' : List Command) (nodes' : List NodeState) (entries : List Entry) → Begins cs cs' nodes nodes' entries → (m : ℕ) → IsInOrder cs' (node_of nodes' m)
  order_begun cs' nodes' entries e =
      let n = e.node in
      let s = node_of nodes n in
      let c = oldest s in
      let one = oldest_is n e.some_wait in
      let now = with_outcome cs c outcome.Begun in
      let closed : AreInOrder cs s.book.commands s.waiting None = subst (λ (o : Option ℕ). AreInOrder cs s.book.commands s.waiting o) (closed_none s e.closed) (orders n) in
      by_commands e.commands_are nodes' (by_nodes now nodes nodes' n (after_begin s) e.nodes_are
      (subst (λ (o : Option ℕ). AreInOrder now (s.book.commands ++ c ∷ []) (drop 1 s.waiting) o) (sym (opened_last (after_begin s) s.book.commands c))
      (begins_order cs s.book.commands s.waiting one.command e.some_wait one.found closed))
      (λ m other. of_others cs nodes owns n c one m outcome.Begun other (orders m)))

  order_accepted : (cs' : List Command) (nodes' : List NodeState) (entries : List Entry) → Accepts cs cs' nodes nodes' entries → (m : ℕ) → IsInOrder cs' (node_of nodes' m)
  order_accepted cs' nodes' entries e =
      let n = e.taken.order.node in
      let s = node_of nodes n in
      let next = length cs + 1 in
      let now = cs ++ e.taken ∷ [] in
      let same : (k : ℕ) → outcome_in now k ≡ outcome_in cs k = outcome_pushed cs e.taken e.waits in
      let before : (m : ℕ) → IsInOrder now (node_of nodes m)
      = λ m. as_before cs now (node_of nodes m).book.commands (node_of nodes m).waiting (open_command (node_of nodes m)) same (orders m) in
      let within : AllByRecursion (λ k. k < next) (s.book.commands ++ s.waiting) = all-append (λ k. k < next) s.book.commands s.waiting
      (all-weaker (IsCommandOf cs n) (λ k. k < next) (number_within cs n) s.book.commands (recursion_from_All (IsCommandOf cs n) s.book.commands (owns n).sessions))
      (all-weaker (IsCommandOf cs n) (λ k. k < next) (number_within cs n) s.waiting (recursion_from_All (IsCommandOf cs n) s.waiting (owns n).waiting)) in
      let here : IsInOrder now (after_put s next) = record {
        rise = subst Rises (append_assoc s.book.commands s.waiting (next ∷ [])) (rises-push (s.book.commands ++ s.waiting) next (orders n).rise within);
        wait = all-append (λ k. outcome_in now k ≡ outcome.Waiting) s.waiting (next ∷ []) (before n).wait (same next ∙ outcome_past cs, tt);
        ended = (before n).ended;
        under_way = (before n).under_way;
      } in
      by_commands e.commands_are nodes' (by_nodes now nodes nodes' n (after_put s next) e.nodes_are here (λ m other. before m))

  -- each event
  pub order_kept : (cs' : List Command) (nodes' : List NodeState) (store store' : Values) (entries : List Entry) → Effect cs cs' nodes nodes' store store' entries → (m : ℕ) → IsInOrder cs' (node_of nodes' m)
  order_kept cs' nodes' store store' entries (Leaving e same) = λ m. same_order cs' (node_of nodes m) (node_of nodes' m) (e.nodes_are m) (by_commands e.commands_are nodes orders m)
  order_kept cs' nodes' store store' entries (Unanswering e same) = order_unanswered cs' nodes' entries e
  order_kept cs' nodes' store store' entries (Accepting e same) = order_accepted cs' nodes' entries e
  order_kept cs' nodes' store store' entries (Cancelling e same) = order_cancelled cs' nodes' entries e
  order_kept cs' nodes' store store' entries (Beginning e same) = order_begun cs' nodes' entries e
  order_kept cs' nodes' store store' entries (Finishing e same) = order_finished cs' nodes' entries e
