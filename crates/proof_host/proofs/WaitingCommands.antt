-- The commands that wait for a node are those of its accepted commands that are waiting.
use Rattle.std.proofs.Common.{◌≡◌, ℕ, ◌+◌, ◌<◌, ◌==◌, ◌&&◌, Bool, true, false, if◌then◌else◌, cond, List, [], ◌∷◌, ◌++◌, length, drop, get_or, Some, inl, inr, refl, sym, ap, subst, ◌∙◌, arith}
use Rattle.std.specs.Prelude.{filter, not}
use Rattle.std.specs.List.{AllByRecursion}
use Rattle.std.proofs.lemmas.Bool.{cases_eq, eq-eqb, ne_eqb, eqb-true}
use Rattle.std.proofs.lemmas.List.Elements.{filter_agree, filter-append}
use Rattle.zw_base.proofs.Each.{all-append}
use Rattle.zw_text.specs.declared.entry.Entry.{Entry}
use Rattle.zw_text.specs.declared.entry.Entry.TheVariants.{Accepted, Begin, Out}
use Rattle.zw_text.specs.declared.entry.Ended.TheVariants as ended
use Rattle.zw_text.specs.declared.entry.Outcome.{Outcome}
use Rattle.zw_text.specs.declared.entry.Outcome.TheVariants.{Waiting, Begun, Success, Fail, NoSupport, Unanswered, Cancelled}
use Rattle.zw_text.specs.Transcript.{outcome}
use Rattle.law_transcript.specs.Commands.{is_waiting}
use Rattle.law_transcript.specs.Lists.{Rises}
use Rattle.value_store.specs.Values.{Values}
use Rattle.host_model.specs.host_node.State.{NodeState}
use Rattle.host_model.specs.host_node.Steps.{after_begin, after_cancel, oldest, with_final, without}
use Rattle.supervision.specs.Host.{begun_of}
use Rattle.host_model.specs.host_node.TableState.{node_of}
use Rattle.host_model.specs.host_keep.Status.{status_byte}
use Rattle.host_model.specs.host_keep.declared.final_status.FinalStatus.{FinalStatus}
use Rattle.host_model.specs.host_keep.declared.final_status.FinalStatus.TheVariants as final
use Rattle.host_model.specs.State.{Command, command_at, with_outcome}
use Rattle.host_model.specs.Sessions.{settings_with}
use Rattle.host_model.specs.After.{outcome_of}
use Rattle.host_model.specs.Outs.{ended_of, stored_entries}
use Rattle.host_model.specs.Facts.{IsCommandOf, OwnsCommands}
use Rattle.proof_host.specs.Laws.{numbers_for, waiting_for}
use Rattle.proof_host.specs.Tables.{outcome_in, recorded}
use Rattle.proof_host.specs.Facts.{AreEntered, AreWaiting, IsInOrder}
use Rattle.proof_host.proofs.Lists.{rises-right}
use Rattle.proof_host.proofs.Commands.{outcome_other, outcome_same, outcome_pushed, outcome_past}
use Rattle.proof_host.proofs.Views.{IsSilent, for-silent, for-ended, for-begun, for-accepted, for-accepted_other}
use Rattle.proof_host.proofs.Owned.{apart}
use Rattle.proof_host.proofs.Effect.{SameNodes, OneNode, Accepts, Effect, Leaving, Unanswering, Accepting, Cancelling, Beginning, Finishing}
use Rattle.proof_host.proofs.InOrder.{waiting_above, opened_is, waiting_is, oldest_is, above}
use Rattle.proof_host.proofs.CommandEnds.{asides_silent, stores_silent}

-- ---- lists

abbrev is_other : ℕ → ℕ → Bool
is_other c k = not (k == c)

-- two tests, one after the other
filter_step : (b : Bool) (q : ℕ → Bool) (x : ℕ) (both rest : List ℕ) → both ≡ filter q rest → cond (b && q x) (x ∷ both) both ≡ filter q (cond b (x ∷ rest) rest)
filter_step true q x both rest e = ap (λ (l : List ℕ). cond (q x) (x ∷ l) l) e
filter_step false q x both rest e = e

filter_twice : (p q : ℕ → Bool) (l : List ℕ) → filter (λ k. p k && q k) l ≡ filter q (filter p l)
filter_twice p q [] = refl
filter_twice p q (x ∷ l) = filter_step (p x) q x (filter (λ k. p k && q k) l) (filter p l) (filter_twice p q l)

-- all are others
pub all_others : (c : ℕ) (l : List ℕ) → AllByRecursion (λ k. k ≡ c → ⊥) l → filter (is_other c) l ≡ l
all_others c [] all = refl
all_others c (x ∷ l) all = ap (λ (b : Bool). cond (not b) (x ∷ filter (is_other c) l) (filter (is_other c) l)) (ne_eqb x c all.0) ∙ ap (λ (r : List ℕ). x ∷ r) (all_others c l all.1)

without_step : (b : Bool) (c x : ℕ) (l : List ℕ) → (x == c) ≡ b → AllByRecursion (λ k. x < k) l → filter (is_other c) l ≡ without l c
    → cond (not b) (x ∷ filter (is_other c) l) (filter (is_other c) l) ≡ (if b then l else x ∷ without l c)
without_step true c x l e later rest = let same : x ≡ c = eqb-true x c e in all_others c l (subst (λ (i : ℕ). AllByRecursion (λ k. k ≡ i → ⊥) l) same (above x l later))
without_step false c x l e later rest = ap (λ (r : List ℕ). x ∷ r) rest

-- of numbers that rise, one is left out
others_without : (c : ℕ) (l : List ℕ) → Rises l → filter (is_other c) l ≡ without l c
others_without c [] rise = refl
others_without c (x ∷ l) rise = without_step (x == c) c x l refl rise.0 (others_without c l rise.1)

-- the first of them is left out
others_first : (l : List ℕ) → 0 < length l → Rises l → filter (is_other (get_or l 0 0)) l ≡ drop 1 l
others_first [] some rise = absurd (omega arith)
others_first (c ∷ l) some rise = ap (λ (b : Bool). cond (not b) (c ∷ filter (is_other c) l) (filter (is_other c) l)) (eq-eqb c c refl) ∙ all_others c l (above c l rise.0)

-- ---- a command that waits no more

and_false : (b : Bool) → (b && false) ≡ false
and_false true = refl
and_false false = refl

and_true : (b : Bool) → (b && true) ≡ b
and_true true = refl
and_true false = refl

abbrev waits : List Command → ℕ → Bool
waits cs k = is_waiting (outcome_in cs k)

one_less : (cs : List Command) (c : ℕ) (what : Outcome) (taken : Command) → command_at cs c ≡ Some taken → is_waiting what ≡ false → (k : ℕ) → waits (with_outcome cs c what) k ≡ (waits cs k && is_other c k)
one_less cs c what taken found over k = elim (cases_eq k c) [
  | inl same ↦
      subst (λ (i : ℕ). waits (with_outcome cs c what) i ≡ (waits cs i && is_other c i)) (sym same)
      (ap is_waiting (outcome_same cs c what taken found) ∙ over ∙ sym (and_false (waits cs c)) ∙ ap (λ (b : Bool). waits cs c && not b) (sym (eq-eqb c c refl)))
  | inr other ↦ ap is_waiting (outcome_other cs c what k other) ∙ sym (and_true (waits cs k)) ∙ ap (λ (b : Bool). waits cs k && not b) (sym (ne_eqb k c other))
]

less_waiting : (cs : List Command) (c : ℕ) (what : Outcome) (taken : Command) → command_at cs c ≡ Some taken → is_waiting what ≡ false → (waiting l : List ℕ) → waiting ≡ filter (waits cs) l
    → filter (is_other c) waiting ≡ filter (waits (with_outcome cs c what)) l
less_waiting cs c what taken found over waiting l e =
    ap (λ (r : List ℕ). filter (is_other c) r) e
    ∙ sym (filter_twice (waits cs) (is_other c) l)
    ∙ sym (filter_agree (waits (with_outcome cs c what)) (λ k. waits cs k && is_other c k) (one_less cs c what taken found over) l)

no_wait : (status : FinalStatus) → is_waiting (outcome_of status) ≡ false
no_wait final.NoSupport = refl
no_wait final.Fail = refl
no_wait final.Success = refl

-- ---- each event

module _ (T : List Entry) (cs : List Command) (nodes : List NodeState) (owns : (m : ℕ) → OwnsCommands cs m (node_of nodes m)) (orders : (m : ℕ) → IsInOrder cs (node_of nodes m))
    (f : AreWaiting T cs nodes) where
  -- a command of node n waits no more, and these wait now
  other_nodes : (n c m : ℕ) → IsCommandOf cs n c → (m ≡ n → ⊥) → filter (is_other c) (node_of nodes m).waiting ≡ (node_of nodes m).waiting
  other_nodes n c m one other = all_others c (node_of nodes m).waiting (apart cs m n c other one (node_of nodes m).waiting (owns m).waiting)

  node_waiting : (nodes' : List NodeState) (n c : ℕ) (state : NodeState) → OneNode nodes nodes' n state → IsCommandOf cs n c → filter (is_other c) (node_of nodes n).waiting ≡ state.waiting
      → (m : ℕ) → (node_of nodes' m).waiting ≡ filter (is_other c) (node_of nodes m).waiting
  node_waiting nodes' n c state one is here m = elim (cases_eq m n) [
    | inl same ↦ subst (λ (i : ℕ). (node_of nodes' i).waiting ≡ filter (is_other c) (node_of nodes i).waiting) (sym same) (ap (λ (s : NodeState). s.waiting) one.here ∙ sym here)
    | inr other ↦ ap (λ (s : NodeState). s.waiting) (one.there m other) ∙ sym (other_nodes n c m is other)
  ]

  same_waiting : (nodes' : List NodeState) (n c : ℕ) → SameNodes nodes nodes' → IsCommandOf cs n c → AllByRecursion (λ k. k ≡ c → ⊥) (node_of nodes n).waiting
      → (m : ℕ) → (node_of nodes' m).waiting ≡ filter (is_other c) (node_of nodes m).waiting
  same_waiting nodes' n c same_nodes is here m = ap (λ (s : NodeState). s.waiting) (same_nodes m) ∙ elim (cases_eq m n) [
    | inl same ↦ subst (λ (i : ℕ). (node_of nodes i).waiting ≡ filter (is_other c) (node_of nodes i).waiting) (sym same) (sym (all_others c (node_of nodes n).waiting here))
    | inr other ↦ sym (other_nodes n c m is other)
  ]

  -- so the family stays
  less : (cs' : List Command) (nodes' : List NodeState) (T' : List Entry) (n c : ℕ) (what : Outcome) → IsCommandOf cs n c → is_waiting what ≡ false → cs' ≡ with_outcome cs c what
      → ((m : ℕ) → numbers_for m T' ≡ numbers_for m T) → ((m : ℕ) → (node_of nodes' m).waiting ≡ filter (is_other c) (node_of nodes m).waiting) → AreWaiting T' cs' nodes'
  less cs' nodes' T' n c what one over commands numbers now m =
      now m ∙ less_waiting cs c what one.command one.found over (node_of nodes m).waiting (numbers_for m T) (f m)
      ∙ ap (λ (l : List Command). filter (waits l) (numbers_for m T)) (sym commands)
      ∙ ap (λ (l : List ℕ). filter (waits cs') l) (sym (numbers m))

  module _ (cs' : List Command) (nodes' : List NodeState) (store store' : Values) (entries : List Entry) where
    waiting_taken : Accepts cs cs' nodes nodes' entries → AreWaiting (T ++ entries) cs' nodes'
    waiting_taken e m =
        let n = e.taken.order.node in
        let next = length cs + 1 in
        let now = cs ++ e.taken ∷ [] in
        let agree : (l : List ℕ) → filter (waits now) l ≡ filter (waits cs) l = filter_agree (waits now) (waits cs) (λ k. ap is_waiting (outcome_pushed cs e.taken e.waits k)) in
        subst (λ (l : List Command). (node_of nodes' m).waiting ≡ filter (waits l) (numbers_for m (T ++ entries))) (sym e.commands_are)
        (subst (λ (es : List Entry). (node_of nodes' m).waiting ≡ filter (waits now) (numbers_for m (T ++ es))) (sym e.entries_are)
        (elim (cases_eq m n) [
          | inl same ↦ subst (λ (i : ℕ). (node_of nodes' i).waiting ≡ filter (waits now) (numbers_for i (T ++ Accepted next n ∷ []))) (sym same)
              (ap (λ (s : NodeState). s.waiting) e.nodes_are.here
              ∙ ap (λ (l : List ℕ). l ++ next ∷ []) (f n)
              ∙ ap (λ (l : List ℕ). filter (waits cs) (numbers_for n T) ++ l) (sym (last_waits next (ap is_waiting (outcome_past cs))))
              ∙ sym (filter-append (waits cs) (numbers_for n T) (next ∷ []))
              ∙ sym (agree (numbers_for n T ++ next ∷ []))
              ∙ ap (λ (l : List ℕ). filter (waits now) l) (sym (for-accepted T next n)))
          | inr other ↦ ap (λ (s : NodeState). s.waiting) (e.nodes_are.there m other) ∙ f m ∙ sym (agree (numbers_for m T)) ∙ ap (λ (l : List ℕ). filter (waits now) l) (sym (for-accepted_other T next n m other))
        ]))
      where
        last_waits : (next : ℕ) → waits cs next ≡ true → filter (waits cs) (next ∷ []) ≡ next ∷ []
        last_waits next waits_so = ap (λ (b : Bool). cond b (next ∷ []) []) waits_so

    pub waiting_kept : Effect cs cs' nodes nodes' store store' entries → AreWaiting (T ++ entries) cs' nodes'
    waiting_kept (Leaving e same) = λ m.
        ap (λ (s : NodeState). s.waiting) (e.nodes_are m) ∙ f m ∙ ap (λ (l : List Command). filter (waits l) (numbers_for m T)) (sym e.commands_are)
        ∙ ap (λ (l : List ℕ). filter (waits cs') l) (sym (for-silent T entries (asides_silent entries e.asides) m))
    waiting_kept (Unanswering e same) =
        let one = opened_is cs nodes owns orders e.node e.command e.opened in
        subst (λ (es : List Entry). AreWaiting (T ++ es) cs' nodes') (sym e.entries_are)
        (less cs' nodes' (T ++ Out e.command ended.Unanswered ∷ e.more) e.node e.command Unanswered one refl e.commands_are (for-ended T e.command ended.Unanswered e.more (asides_silent e.more e.asides))
        (same_waiting nodes' e.node e.command e.nodes_are one (waiting_above cs nodes owns orders e.node e.command e.opened)))
    waiting_kept (Accepting e same) = waiting_taken e
    waiting_kept (Cancelling e same) =
        let one = waiting_is cs nodes owns orders e.node e.command e.waits in
        let s = node_of nodes e.node in
        subst (λ (es : List Entry). AreWaiting (T ++ es) cs' nodes') (sym e.entries_are)
        (less cs' nodes' (T ++ Out e.command ended.Cancelled ∷ []) e.node e.command Cancelled one refl e.commands_are (for-ended T e.command ended.Cancelled [] tt)
        (node_waiting nodes' e.node e.command (after_cancel s e.command) e.nodes_are one (others_without e.command s.waiting (rises-right s.book.commands s.waiting (orders e.node).rise))))
    waiting_kept (Beginning e same) =
        let s = node_of nodes e.node in
        let one = oldest_is cs nodes owns orders e.node e.some_wait in
        subst (λ (es : List Entry). AreWaiting (T ++ es) cs' nodes') (sym e.entries_are)
        (less cs' nodes' (T ++ Begin e.node (begun_of s.book + 1) (oldest s) ∷ []) e.node (oldest s) Begun one refl e.commands_are (for-begun T e.node (begun_of s.book + 1) (oldest s))
        (node_waiting nodes' e.node (oldest s) (after_begin s) e.nodes_are one (others_first s.waiting e.some_wait (rises-right s.book.commands s.waiting (orders e.node).rise))))
    waiting_kept (Finishing e same) =
        let one = opened_is cs nodes owns orders e.node e.command e.opened in
        let s = node_of nodes e.node in
        let made = settings_with e.status (command_at cs e.command) in
        let following = stored_entries e.node made ++ e.more in
        subst (λ (es : List Entry). AreWaiting (T ++ es) cs' nodes') (sym e.entries_are)
        (less cs' nodes' (T ++ Out e.command (ended_of e.status) ∷ following) e.node e.command (outcome_of e.status) one (no_wait e.status) e.commands_are
        (for-ended T e.command (ended_of e.status) following (all-append IsSilent (stored_entries e.node made) e.more (stores_silent e.node made) (asides_silent e.more e.asides)))
        (node_waiting nodes' e.node e.command (with_final s (status_byte e.status)) e.nodes_are one (all_others e.command s.waiting (waiting_above cs nodes owns orders e.node e.command e.opened))))

-- ---- by the entries

waiting_recorded : (a : Outcome) → is_waiting (recorded a) ≡ is_waiting a
waiting_recorded Waiting = refl
waiting_recorded Begun = refl
waiting_recorded Success = refl
waiting_recorded Fail = refl
waiting_recorded NoSupport = refl
waiting_recorded Unanswered = refl
waiting_recorded Cancelled = refl

pub waiting_shown : (T : List Entry) (cs : List Command) (nodes : List NodeState) → AreEntered T cs → AreWaiting T cs nodes → (m : ℕ) → (node_of nodes m).waiting ≡ waiting_for m T
waiting_shown T cs nodes entered f m =
    f m ∙ filter_agree (waits cs) (λ k. is_waiting (outcome k T))
    (λ k. sym (waiting_recorded (outcome_in cs k)) ∙ ap is_waiting (sym (entered k)) ∙ waiting_recorded (outcome k T)) (numbers_for m T)
