-- What the entries of each event show is what the tables say after it: the orders accepted, the sessions begun, the outcomes.
use Rattle.std.proofs.Common.{◌≡◌, ℕ, ◌+◌, List, [], ◌∷◌, ◌++◌, length, Some, inl, inr, sym, ap, subst, ◌∙◌}
use Rattle.std.proofs.lemmas.Bool.{cases_eq}
use Rattle.std.proofs.lemmas.List.{length_push}
use Rattle.zw_text.specs.declared.entry.Entry.{Entry}
use Rattle.zw_text.specs.declared.entry.Entry.TheVariants.{Accepted, Begin, Out}
use Rattle.zw_text.specs.declared.entry.Outcome.{Outcome}
use Rattle.zw_text.specs.declared.entry.Outcome.TheVariants.{Waiting, Begun}
use Rattle.zw_text.specs.Transcript.{sessions, outcome, outcome_of}
use Rattle.supervision.specs.Host.{begun_of}
use Rattle.host_model.specs.host_node.State.{NodeState}
use Rattle.host_model.specs.host_node.Steps.{oldest}
use Rattle.host_model.specs.host_node.TableState.{node_of}
use Rattle.host_model.specs.State.{Command, command_at, with_outcome}
use Rattle.proof_host.specs.Laws.{accepted_for}
use Rattle.proof_host.specs.Tables.{outcome_in, nodes_by}
use Rattle.proof_host.specs.Facts.{AreAccepted, AreBegun}
use Rattle.proof_host.proofs.Commands.{outcome_other, outcome_same, outcome_pushed, nodes_set, length-outcome, nodes_pushed, nodes_last, nodes_past}
use Rattle.proof_host.proofs.Views.{nodes-silent, numbers-silent, sessions-silent, outcome-silent, nodes-ended, numbers-ended, sessions-ended, outcome-ended, outcome-other, nodes-begun, numbers-begun, sessions-begun, sessions-begun_other, outcome-begun, outcome-begun_other, nodes-accepted, nodes-accepted_other, count-accepted, sessions-accepted, outcome-accepted}
use Rattle.proof_host.proofs.Effect.{Leaves, Accepts, Begins}
use Rattle.proof_host.proofs.CommandEnds.{Ends, asides_silent}

-- by the equations of what an event does
pub moved : (P : List Entry → List Command → Type 0) {es es' : List Entry} {cs cs' : List Command} → es' ≡ es → cs' ≡ cs → P es cs → P es' cs'
moved P {es} {es'} {cs} {cs'} e f p = subst (λ (l : List Entry). P l cs') (sym e) (subst (λ (l : List Command). P es l) (sym f) p)

-- what `g` takes from outcomes is what it takes from those that were entered
abbrev pub AreEnteredBy : (Outcome → Outcome) → List Entry → List Command → Type 0
AreEnteredBy g T cs = (number : ℕ) → g (outcome number T) ≡ g (outcome_in cs number)

module _ (T : List Entry) (cs cs' : List Command) (nodes nodes' : List NodeState) (entries : List Entry) where
  -- ---- nothing recorded

  pub accepted_left : Leaves cs cs' nodes nodes' entries → AreAccepted T cs → AreAccepted (T ++ entries) cs'
  accepted_left e f =
      let silent = asides_silent entries e.asides in
      subst (λ (l : List Command). AreAccepted (T ++ entries) l) (sym e.commands_are)
      (record { count = ap (λ (l : List ℕ). length l) (numbers-silent T entries silent) ∙ f.count; nodes = λ k. nodes-silent T entries silent k ∙ f.nodes k })

  pub begun_left : Leaves cs cs' nodes nodes' entries → AreBegun T nodes → AreBegun (T ++ entries) nodes'
  begun_left e f m = sessions-silent T entries (asides_silent entries e.asides) m ∙ f m ∙ ap (λ (s : NodeState). s.book.commands) (sym (e.nodes_are m))

  pub entered_left : (g : Outcome → Outcome) → Leaves cs cs' nodes nodes' entries → AreEnteredBy g T cs → AreEnteredBy g (T ++ entries) cs'
  entered_left g e f = subst (λ (l : List Command). AreEnteredBy g (T ++ entries) l) (sym e.commands_are)
      (λ k. ap g (outcome-silent T entries (asides_silent entries e.asides) k) ∙ f k)

  -- ---- a command ends

  pub accepted_ended : Ends T cs cs' nodes nodes' entries → AreAccepted T cs → AreAccepted (T ++ entries) cs'
  accepted_ended e f = moved (λ es l. AreAccepted (T ++ es) l) e.entries_are e.commands_are (record {
    count = ap (λ (l : List ℕ). length l) (numbers-ended T e.command e.how e.more e.silent) ∙ f.count ∙ sym (length-outcome cs e.command (outcome_of e.how));
    nodes = λ k. nodes-ended T e.command e.how e.more e.silent k ∙ f.nodes k ∙ sym (nodes_set cs e.command (outcome_of e.how) k);
  })

  pub begun_ended : Ends T cs cs' nodes nodes' entries → AreBegun T nodes → AreBegun (T ++ entries) nodes'
  begun_ended e f = subst (λ (es : List Entry). AreBegun (T ++ es) nodes') (sym e.entries_are)
      (λ m. sessions-ended T e.command e.how e.more e.silent m ∙ f m ∙ sym (e.sessions_are m))

  pub entered_ended : (g : Outcome → Outcome) → Ends T cs cs' nodes nodes' entries → AreEnteredBy g T cs → AreEnteredBy g (T ++ entries) cs'
  entered_ended g e f = moved (λ es l. AreEnteredBy g (T ++ es) l) e.entries_are e.commands_are (λ k. elim (cases_eq k e.command) [
    | inl same ↦
        let now = T ++ Out e.command e.how ∷ e.more in
        let table = with_outcome cs e.command (outcome_of e.how) in
        let shown : outcome e.command now ≡ outcome_of e.how = outcome-ended T e.command e.how e.more e.silent in
        let told : outcome_in table e.command ≡ outcome_of e.how = outcome_same cs e.command (outcome_of e.how) e.taken e.found in
        subst (λ (i : ℕ). g (outcome i now) ≡ g (outcome_in table i)) (sym same) (ap g (shown ∙ sym told))
    | inr other ↦
        ap g (outcome-other T e.command e.how e.more e.silent k other) ∙ f k ∙ ap g (sym (outcome_other cs e.command (outcome_of e.how) k other))
  ])

  -- ---- an order is accepted

  pub accepted_taken : Accepts cs cs' nodes nodes' entries → AreAccepted T cs → AreAccepted (T ++ entries) cs'
  accepted_taken e f =
      let next = length cs + 1 in
      let n = e.taken.order.node in
      moved (λ es l. AreAccepted (T ++ es) l) e.entries_are e.commands_are (record {
        count = count-accepted T next n ∙ ap (λ (k : ℕ). k + 1) f.count ∙ sym (length_push cs e.taken);
        nodes = λ k. elim (cases_eq k next) [
          | inl same ↦ subst (λ (i : ℕ). accepted_for i (T ++ Accepted next n ∷ []) ≡ nodes_by (command_at (cs ++ e.taken ∷ []) i)) (sym same)
              (nodes-accepted T next n ∙ ap (λ (l : List ℕ). l ++ n ∷ []) (f.nodes next ∙ nodes_past cs) ∙ sym (nodes_last cs e.taken))
          | inr other ↦ nodes-accepted_other T next n k other ∙ f.nodes k ∙ sym (nodes_pushed cs e.taken k other)
        ];
      })

  -- a command is put to the node
  pub begun_taken : Accepts cs cs' nodes nodes' entries → AreBegun T nodes → AreBegun (T ++ entries) nodes'
  begun_taken e f = subst (λ (es : List Entry). AreBegun (T ++ es) nodes') (sym e.entries_are) (λ m.
      sessions-accepted T (length cs + 1) e.taken.order.node m ∙ f m ∙ elim (cases_eq m e.taken.order.node) [
        | inl same ↦ subst (λ (i : ℕ). (node_of nodes i).book.commands ≡ (node_of nodes' i).book.commands) (sym same) (ap (λ (s : NodeState). s.book.commands) (sym e.nodes_are.here))
        | inr other ↦ ap (λ (s : NodeState). s.book.commands) (sym (e.nodes_are.there m other))
      ])

  pub entered_taken : (g : Outcome → Outcome) → Accepts cs cs' nodes nodes' entries → AreEnteredBy g T cs → AreEnteredBy g (T ++ entries) cs'
  entered_taken g e f = moved (λ es l. AreEnteredBy g (T ++ es) l) e.entries_are e.commands_are (λ k.
      ap g (outcome-accepted T (length cs + 1) e.taken.order.node k) ∙ f k ∙ ap g (sym (outcome_pushed cs e.taken e.waits k)))

  -- ---- a session begins

  pub accepted_begun : Begins cs cs' nodes nodes' entries → AreAccepted T cs → AreAccepted (T ++ entries) cs'
  accepted_begun e f =
      let s = node_of nodes e.node in
      moved (λ es l. AreAccepted (T ++ es) l) e.entries_are e.commands_are (record {
        count = ap (λ (l : List ℕ). length l) (numbers-begun T e.node (begun_of s.book + 1) (oldest s)) ∙ f.count ∙ sym (length-outcome cs (oldest s) Begun);
        nodes = λ k. nodes-begun T e.node (begun_of s.book + 1) (oldest s) k ∙ f.nodes k ∙ sym (nodes_set cs (oldest s) Begun k);
      })

  pub begun_begun : Begins cs cs' nodes nodes' entries → AreBegun T nodes → AreBegun (T ++ entries) nodes'
  begun_begun e f =
      let n = e.node in
      let s = node_of nodes n in
      let session = begun_of s.book + 1 in
      let c = oldest s in
      subst (λ (es : List Entry). AreBegun (T ++ es) nodes') (sym e.entries_are) (λ m. elim (cases_eq m n) [
        | inl same ↦ subst (λ (i : ℕ). sessions i (T ++ Begin n session c ∷ []) ≡ (node_of nodes' i).book.commands) (sym same)
            (sessions-begun T n session c ∙ ap (λ (l : List ℕ). l ++ c ∷ []) (f n) ∙ ap (λ (r : NodeState). r.book.commands) (sym e.nodes_are.here))
        | inr other ↦ sessions-begun_other T n session c m other ∙ f m ∙ ap (λ (r : NodeState). r.book.commands) (sym (e.nodes_are.there m other))
      ])

  pub entered_begun : (g : Outcome → Outcome) (e : Begins cs cs' nodes nodes' entries) (taken : Command) → command_at cs (oldest (node_of nodes e.node)) ≡ Some taken
      → outcome (oldest (node_of nodes e.node)) T ≡ Waiting → AreEnteredBy g T cs → AreEnteredBy g (T ++ entries) cs'
  entered_begun g e taken found waits f =
      let n = e.node in
      let s = node_of nodes n in
      let session = begun_of s.book + 1 in
      let c = oldest s in
      let now = T ++ Begin n session c ∷ [] in
      moved (λ es l. AreEnteredBy g (T ++ es) l) e.entries_are e.commands_are (λ k. elim (cases_eq k c) [
        | inl same ↦ subst (λ (i : ℕ). g (outcome i now) ≡ g (outcome_in (with_outcome cs c Begun) i)) (sym same)
            (ap g (outcome-begun T n session c waits ∙ sym (outcome_same cs c Begun taken found)))
        | inr other ↦ ap g (outcome-begun_other T n session c k other) ∙ f k ∙ ap g (sym (outcome_other cs c Begun k other))
      ])
