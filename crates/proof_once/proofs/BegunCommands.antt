-- A command that was begun, and perhaps ended, stands among the sessions of the node that it was accepted for first.
use Rattle.std.proofs.Common.{◌≡◌, ◌⊎◌, ℕ, ◌==◌, Bool, true, false, if◌then◌else◌, List, [], ◌∷◌, ◌++◌, Option, Some, None, inl, inr, refl, sym, ap, ap₂, subst, ◌∙◌, append_assoc, append-nil}
use Rattle.std.proofs.lemmas.Bool.{eqb-true, eq-eqb}
use Rattle.zw_text.specs.declared.entry.Ended.{Ended}
use Rattle.zw_text.specs.declared.entry.Ended.TheVariants as ended
use Rattle.zw_text.specs.declared.entry.Entry.{Entry}
use Rattle.zw_text.specs.declared.entry.Entry.TheVariants.{Accepted, Begin, Out}
use Rattle.zw_text.specs.declared.entry.Outcome.{Outcome}
use Rattle.zw_text.specs.declared.entry.Outcome.TheVariants.{Waiting, Begun, Success, Fail, NoSupport, Unanswered, Cancelled}
use Rattle.zw_text.specs.Transcript.{shown, sessions, session_at, carried, carried_at, endings, ended_at, outcome, outcome_begun, outcome_of, last_outcome}
use Rattle.zw_text.proofs.Views.{shown-append}
use Rattle.proof_host.specs.law_transcript.Lists.{EachAfter, Has}
use Rattle.proof_host.specs.law_transcript.Stores.{node_at}
use Rattle.proof_host.specs.host_model.State.{Command, command_at}
use Rattle.proof_host.specs.Laws.{IsUnderWay, MayCarry, MayEnd, MayStand, accepted_for, number_for, numbers_for}
use Rattle.proof_host.specs.Tables.{nodes_by}
use Rattle.proof_host.proofs.Views.{last_is}
use Rattle.proof_host.proofs.Having.{has_left, has_right, has_shown, shown_has}

-- a command of which a session began
abbrev pub IsStarted : Outcome → Type 0
IsStarted Waiting = ⊥
IsStarted Cancelled = ⊥
IsStarted _ = Unit {0}

-- it stands among the sessions of the node that it was accepted for first
record IsBegunFor (past : List Entry) (number : ℕ) : Type 0 where
  pub node : ℕ
  pub others : List ℕ
  pub accepted : accepted_for number past ≡ node ∷ others
  pub begun : Has (sessions node past) number

grows : (past more : List Entry) (number : ℕ) → IsBegunFor past number → IsBegunFor (past ++ more) number
grows past more number is = record {
  node = is.node;
  others = is.others ++ accepted_for number more;
  accepted = shown-append (node_at number) past more ∙ ap (λ (l : List ℕ). l ++ accepted_for number more) is.accepted;
  begun = subst (λ (l : List ℕ). Has l number) (sym (shown-append (session_at is.node) past more)) (has_left (sessions is.node past) (sessions is.node more) number is.begun);
}

-- ---- one entry more

abbrev outcome_by : List ℕ → List Ended → Outcome
outcome_by sessions ends = last_outcome (outcome_begun sessions) ends

one_shown : {A : Type 0} (view : Entry → List A) (past : List Entry) (e : Entry) → shown view (past ++ e ∷ []) ≡ shown view past ++ view e
one_shown view past e = shown-append view past (e ∷ []) ∙ ap (λ (l : List _). shown view past ++ l) (append-nil (view e))

way_started : (o : Outcome) → IsUnderWay o → IsStarted o
way_started Begun is = tt
way_started Unanswered is = tt
way_started Waiting is = absurd is
way_started Success is = absurd is
way_started Fail is = absurd is
way_started NoSupport is = absurd is
way_started Cancelled is = absurd is

module _ (past : List Entry) (number : ℕ) where
  same : outcome_by (carried number past ++ []) (endings number past ++ []) ≡ outcome number past
  same = ap₂ outcome_by (append-nil (carried number past)) (append-nil (endings number past))

  begins : (n s c : ℕ) (b : Bool) → (c == number) ≡ b → MayCarry past (Begin n s c)
      → IsStarted (outcome_by (carried number past ++ (if b then s ∷ [] else [])) (endings number past ++ []))
      → IsStarted (outcome number past) ⊎ IsBegunFor (past ++ Begin n s c ∷ []) number
  begins n s c true e carry started =
      let is : c ≡ number = eqb-true c number e in
      inr (record {
        node = n;
        others = [];
        accepted = one_shown (node_at number) past (Begin n s c) ∙ append-nil (accepted_for number past) ∙ subst (λ (k : ℕ). accepted_for k past ≡ n ∷ []) is carry.0;
        begun = subst (λ (l : List ℕ). Has l number) (sym (one_shown (session_at n) past (Begin n s c)))
            (has_right (sessions n past) (session_at n (Begin n s c)) number
            (subst (λ (b : Bool). Has (if b then c ∷ [] else []) number) (sym (eq-eqb n n refl)) (inl is)));
      })
  begins n s c false e carry started = inl (subst IsStarted same started)

  ends_started : (how : Ended) (c : ℕ) → MayEnd past (Out c how) → IsStarted (outcome_of how) → IsUnderWay (outcome c past)
  ends_started ended.Success c may started = may
  ends_started ended.Fail c may started = may
  ends_started ended.NoSupport c may started = may
  ends_started ended.Unanswered c may started = may
  ends_started ended.Cancelled c may started = absurd started

  ends : (c : ℕ) (how : Ended) (b : Bool) → (c == number) ≡ b → MayEnd past (Out c how)
      → IsStarted (outcome_by (carried number past ++ []) (endings number past ++ (if b then how ∷ [] else [])))
      → IsStarted (outcome number past)
  ends c how true e may started =
      let is : c ≡ number = eqb-true c number e in
      let now = subst IsStarted (last_is (outcome_begun (carried number past ++ [])) (endings number past) how) started in
      subst (λ (k : ℕ). IsStarted (outcome k past)) is (way_started (outcome c past) (ends_started how c may now))
  ends c how false e may started = subst IsStarted same started

  step : (e : Entry) → MayCarry past e → MayEnd past e → IsStarted (outcome_by (carried number past ++ carried_at number e) (endings number past ++ ended_at number e))
      → IsStarted (outcome number past) ⊎ IsBegunFor (past ++ e ∷ []) number
  step (Begin n s c) carry end started = begins n s c (c == number) refl carry started
  step (Out c how) carry end started = inl (ends c how (c == number) refl end started)
  step e carry end started = inl (subst IsStarted same started)

  one_more : (e : Entry) → MayCarry past e → MayEnd past e → (IsStarted (outcome number past) → IsBegunFor past number) → IsStarted (outcome number (past ++ e ∷ []))
      → IsBegunFor (past ++ e ∷ []) number
  one_more e carry end before started = elim (step e carry end
      (subst IsStarted (ap₂ outcome_by (one_shown (carried_at number) past e) (one_shown (ended_at number) past e)) started)) [
        | inl was ↦ grows past (e ∷ []) number (before was)
        | inr now ↦ now
      ]

-- ---- all of them

all_begun : (past more : List Entry) → ((number : ℕ) → IsStarted (outcome number past) → IsBegunFor past number) → EachAfter MayStand past more
    → (number : ℕ) → IsStarted (outcome number (past ++ more)) → IsBegunFor (past ++ more) number
all_begun past [] before each number started =
    subst (λ (l : List Entry). IsBegunFor l number) (sym (append-nil past)) (before number (subst (λ (l : List Entry). IsStarted (outcome number l)) (append-nil past) started))
all_begun past (e ∷ more) before each number started =
    let joined = append_assoc past (e ∷ []) more in
    subst (λ (l : List Entry). IsBegunFor l number) joined
    (all_begun (past ++ e ∷ []) more (λ k. one_more past k e each.0.carry each.0.end (before k)) each.1 number
    (subst (λ (l : List Entry). IsStarted (outcome number l)) (sym joined) started))

-- ---- of one node

where_for : (b : Bool) (node command n number : ℕ) → (node == n) ≡ b → Has (if b then command ∷ [] else []) number → Has (node_at number (Accepted command node)) n
where_for true node command n number e (inl is) =
    subst (λ (b : Bool). Has (if b then node ∷ [] else []) n) (sym (eq-eqb command number is)) (inl (eqb-true node n e))
where_for true node command n number e (inr has) = absurd has
where_for false node command n number e has = absurd has

pub accepted_here : (n number : ℕ) (e : Entry) → Has (number_for n e) number → Has (node_at number e) n
accepted_here n number (Accepted command node) has = where_for (node == n) node command n number refl has
accepted_here n number e has = absurd has

first_only : (o : Option Command) (node n : ℕ) (others : List ℕ) → nodes_by o ≡ node ∷ others → Has (nodes_by o) n → node ≡ n
first_only None node n others e has = absurd has
first_only (Some command) node n others e (inl is) = let same : command.order.node ≡ node = cc in sym same ∙ is
first_only (Some command) node n others e (inr has) = absurd has

-- a command that was accepted for a node and begun stands among its sessions
pub started_has : (past : List Entry) (commands : List Command) (n number : ℕ) → EachAfter MayStand [] past → accepted_for number past ≡ nodes_by (command_at commands number)
    → Has (numbers_for n past) number → IsStarted (outcome number past) → Has (sessions n past) number
started_has past commands n number each table has started =
    let is = all_begun [] past (λ k none. absurd none) each number started in
    let one = shown_has (number_for n) past number has in
    let for = has_shown (node_at number) past one.by n one.among (accepted_here n number one.by one.shows) in
    let same = first_only (command_at commands number) is.node n is.others (sym table ∙ is.accepted) (subst (λ (l : List ℕ). Has l n) table for) in
    subst (λ (k : ℕ). Has (sessions k past) number) same is.begun
