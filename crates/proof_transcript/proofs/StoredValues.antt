-- The values that are entered as confirmed are those that the successful commands ask for, where the table is what was said.
use Rattle.std.proofs.Common.{◌≡◌, ℕ, ◌==◌, Bool, true, false, if◌then◌else◌, List, [], ◌∷◌, ◌++◌, Option, Some, None, inl, inr, refl, sym, ap, ap₂, subst, ◌∙◌, append-nil}
use Rattle.std.specs.List.{flat_map}
use Rattle.std.proofs.lemmas.Bool.{eq-eqb, eqb-true}
use Rattle.zw_base.specs.declared.property.Setting.{Setting}
use Rattle.zw_text.specs.declared.entry.Ended.TheVariants as ended
use Rattle.zw_text.specs.declared.entry.Entry.{Entry}
use Rattle.zw_text.specs.declared.entry.Entry.TheVariants.{Accepted, Out}
use Rattle.zw_text.specs.Transcript.{shown}
use Rattle.law_host.specs.law_transcript.Commands.{settings_for}
use Rattle.law_host.specs.law_transcript.Lists.{Has}
use Rattle.law_host.specs.law_transcript.Stores.{StoresConfirmed, node_at, store_at, stores_asked, stores_asked_at, stores_of}
use Rattle.law_host.proofs.Having.{all_has, has_shown, shown_has}
use Rattle.proof_air.specs.host_model.State.{Command, HostState, command_at}
use Rattle.proof_air.specs.host_model.Outs.{stored_entries}
use Rattle.proof_air.specs.proof_host.Facts.{AreShown}
use Rattle.proof_air.specs.proof_host.Laws.{accepted_for, number_for, numbers_for}
use Rattle.proof_air.specs.proof_host.Stores.{StoresLaw, stores_at, stores_by}
use Rattle.proof_air.specs.proof_host.Tables.{nodes_by, taken_at, taken_by}
use Rattle.proof_spoken.specs.proof_once.ByTable.{IsTable}
use Rattle.proof_spoken.specs.proof_once.Tied.{settings_taken}

-- ---- a command that was accepted for a node is one of its commands

where_at : (b : Bool) (node command n number : ℕ) → (command == number) ≡ b → Has (if b then node ∷ [] else []) n → (command ≡ number) × (node ≡ n)
where_at true node command n number e (inl is) = (eqb-true command number e, is)
where_at true node command n number e (inr has) = absurd has
where_at false node command n number e has = absurd has

number_here : (n number : ℕ) (entry : Entry) → Has (node_at number entry) n → Has (number_for n entry) number
number_here n number (Accepted command node) has =
    let (same, of) = where_at (command == number) node command n number refl has in
    subst (λ (l : List ℕ). Has l number) (sym (ap (λ (b : Bool). if b then command ∷ [] else []) (eq-eqb node n of))) (inl same)
number_here n number entry has = absurd has

pub number_among : (T : List Entry) (n number : ℕ) → Has (accepted_for number T) n → Has (numbers_for n T) number
number_among T n number has =
    let one = shown_has (node_at number) T n has in has_shown (number_for n) T one.by number one.among (number_here n number one.by one.shows)

-- ---- what a success asks for

module _ (listing : List Entry → ℕ → List ℕ) (commands : List Command) (T : List Entry) (tables : (node : ℕ) → IsTable listing commands node T)
    (nodes : (number : ℕ) → nodes_by (command_at commands number) ≡ accepted_for number T) where
  -- it asks for what the table says, at the node that its command was accepted for
  asks_by : (number : ℕ) (o : Option Command) → command_at commands number ≡ o → stores_by (taken_by o) ≡ flat_map (stores_of listing T number) (nodes_by o)
  asks_by number None e = refl
  asks_by number (Some command) e =
      let n = command.order.node in
      let accepted : accepted_for number T ≡ n ∷ [] = sym (nodes number) ∙ ap nodes_by e in
      let has = number_among T n number (subst (λ (l : List ℕ). Has l n) (sym accepted) (inl refl)) in
      let made = all_has (λ k. settings_for listing T n k ≡ settings_taken (taken_at commands k)) (numbers_for n T) number (tables n).settings has in
      ap (λ (l : List Setting). stored_entries n l) (sym (made ∙ ap (λ (o : Option Command). settings_taken (taken_by o)) e))
      ∙ sym (append-nil (stored_entries n (settings_for listing T n number)))

  entry_asks : (entry : Entry) → stores_at commands entry ≡ stores_asked_at listing T entry
  entry_asks (Out number ended.Success) = asks_by number (command_at commands number) refl ∙ ap (λ (l : List ℕ). flat_map (stores_of listing T number) l) (nodes number)
  entry_asks (Out number ended.Fail) = refl
  entry_asks (Out number ended.NoSupport) = refl
  entry_asks (Out number ended.Unanswered) = refl
  entry_asks (Out number ended.Cancelled) = refl
  entry_asks entry = refl

  all_ask : (entries : List Entry) → shown (stores_at commands) entries ≡ shown (stores_asked_at listing T) entries
  all_ask [] = refl
  all_ask (entry ∷ entries) = ap₂ (λ (a b : List Entry). a ++ b) (entry_asks entry) (all_ask entries)

pub stores_confirmed : (listing : List Entry → ℕ → List ℕ) (h : HostState) (T : List Entry) → ((node : ℕ) → IsTable listing h.commands node T) → AreShown T h → StoresLaw T h → StoresConfirmed true listing T
stores_confirmed listing h T tables shows law =
    let same : shown store_at T ≡ stores_asked listing T = law.entered ∙ all_ask listing h.commands T tables shows.nodes T in
    record { asked = ([], sym same ∙ sym (append-nil (shown store_at T))); all = λ whole. same; following = law.following }
