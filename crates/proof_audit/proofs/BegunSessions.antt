-- A transcript with the laws of the host keeps the rule of sessions.
use Rattle.std.proofs.Common.{◌≡◌, ℕ, ◌+◌, ◌-◌, ◌<◌, cond, eqb, not, Bool, true, false, List, [], ◌∷◌, ◌++◌, length, Option, Some, None, refl, ap, subst, ◌∙◌}
use Rattle.std.specs.Prelude.{◌&&◌, is_some, nat_eq, nat_lt, slice_get}
use Rattle.std.specs.List.{AllByRecursion, list_any}
use Rattle.std.proofs.lemmas.Bool.{and_from, eq-eqb, lt-ltb}
use Rattle.zw_base.proofs.Each.{all-both, all-get}
use Rattle.zw_text.specs.declared.entry.Ended.{Ended}
use Rattle.zw_text.specs.declared.entry.Ended.TheVariants as ended
use Rattle.zw_text.specs.declared.entry.Entry.{Entry}
use Rattle.zw_text.specs.declared.entry.Entry.TheVariants.{Accepted, Begin}
use Rattle.zw_text.specs.declared.entry.Outcome.{Outcome}
use Rattle.zw_text.specs.declared.entry.Outcome.TheVariants as outcomes
use Rattle.zw_text.specs.Transcript.{accepted_numbers, carried, endings, last_outcome, outcome, outcome_begun, session_at, sessions}
use Rattle.zw_text.proofs.Views.{shown-append}
use Rattle.law_transcript.specs.Lists.{Rises}
use Rattle.law_transcript.specs.Sessions.{IsFinal, MayBegin}
use Rattle.proof_host.specs.Laws.{HostLaws, MayAccept, MayCarry}
use Rattle.proof_host.proofs.Lists.{below_later}
use Rattle.audit_books.specs.Beginning.{command_at}
use Rattle.audit_books.specs.SessionRule.{EachKeeps, breaks_sessions, has_ended, is_accepted, is_final, last_begun, may_follow}
use Rattle.proof_audit.specs.Books.{AreAsked, MayBeAsked}
use Rattle.proof_audit.proofs.Cutting.{each-before, each-cut, keeps-each}
use Rattle.proof_audit.proofs.GivenOrders.{is-given-for}

-- ---- a final outcome

-- an outcome that endings do not give is not final, so one of them is a final report
final-among : (before : Outcome) (all : List Ended) → (IsFinal before → ⊥) → IsFinal (last_outcome before all) → list_any is_final all ≡ true
final-among before [] never final = absurd (never final)
final-among before (ended.Success ∷ more) never final = refl
final-among before (ended.Fail ∷ more) never final = refl
final-among before (ended.NoSupport ∷ more) never final = refl
final-among before (ended.Unanswered ∷ more) never final = final-among outcomes.Unanswered more (λ none. none) final
final-among before (ended.Cancelled ∷ more) never final = final-among outcomes.Cancelled more (λ none. none) final

begun-is-open : (carrying : List ℕ) → IsFinal (outcome_begun carrying) → ⊥
begun-is-open [] final = final
begun-is-open (session ∷ more) final = final

has-ended : (past : List Entry) (command : ℕ) → IsFinal (outcome command past) → has_ended past command ≡ true
has-ended past command final = final-among (outcome_begun (carried command past)) (endings command past) (begun-is-open (carried command past)) final

-- ---- the session before

-- a command that may stand before that one
abbrev IsBefore : List Entry → ℕ → ℕ → Type 0
IsBefore past command last = (last < command) × (has_ended past last ≡ true)

follows-last : (past : List Entry) (begun : List ℕ) (command : ℕ) (last : Option ℕ) → command_at begun (length begun) ≡ last → AllByRecursion (IsBefore past command) begun → may_follow past last command ≡ true
follows-last past begun command None is all = refl
follows-last past begun command (Some last) is all =
    let one = all-get (IsBefore past command) begun (length begun - 1) last all (by (nat_eq (length begun) 0) is) in
    and_from (nat_lt last command) (has_ended past last) (lt-ltb last command one.0) one.1
  where
    by : (b : Bool) → cond b None (slice_get begun (length begun - 1)) ≡ Some last → slice_get begun (length begun - 1) ≡ Some last
    by true is = absurd cc
    by false is = is

-- ---- each entry

module _ (listing : ℕ → List ℕ) (transcript : List Entry) (laws : HostLaws transcript) (asked : AreAsked listing transcript) where
  numbers-rise : (past : List Entry) (node session command : ℕ) (rest : List Entry) → transcript ≡ past ++ Begin node session command ∷ rest → AllByRecursion (λ last. last < command) (sessions node past)
  numbers-rise past node session command rest is =
      let shown : sessions node transcript ≡ sessions node past ++ command ∷ sessions node rest =
      ap (sessions node) is
      ∙ (shown-append (session_at node) past (Begin node session command ∷ rest)
      ∙ ap (λ (b : Bool). sessions node past ++ (cond b (command ∷ []) [] ++ sessions node rest)) (eq-eqb node node refl)) in
      below_later (sessions node past) command (sessions node rest) (subst Rises shown (laws.rise node))

  begins-well : (past : List Entry) (node session command : ℕ) (rest : List Entry) → transcript ≡ past ++ Begin node session command ∷ rest → breaks_sessions past (Begin node session command) ≡ false
  begins-well past node session command rest is =
      let entry = Begin node session command in
      let begin = each-cut MayBegin transcript past entry rest is laws.sessions_keep in
      let carry = each-cut MayCarry transcript past entry rest is laws.carries in
      let given = is-given-for listing past (each-before MayAccept transcript past (entry ∷ rest) is laws.accepts)
      (each-before (MayBeAsked listing) transcript past (entry ∷ rest) is asked) command node carry.0 in
      let accepted : is_accepted past node command ≡ true = ap is_some given.among in
      let ones = all-both (λ last. last < command) (λ last. IsFinal (outcome last past)) (IsBefore past command) (λ last below final. (below, has-ended past last final)) (sessions node past)
      (numbers-rise past node session command rest is) begin.1 in
      let follows = follows-last past (sessions node past) command (last_begun past node) refl ones in
      ap not (and_from (eqb session (length (sessions node past) + 1)) (is_accepted past node command && may_follow past (last_begun past node) command)
      (eq-eqb session (length (sessions node past) + 1) begin.0)
      (and_from (is_accepted past node command) (may_follow past (last_begun past node) command) accepted follows))

  one-keeps : (past : List Entry) (entry : Entry) (rest : List Entry) → transcript ≡ past ++ entry ∷ rest → breaks_sessions past entry ≡ false
  one-keeps past (Accepted command node) rest is =
      ap not (eq-eqb command (length (accepted_numbers past) + 1) (each-cut MayAccept transcript past (Accepted command node) rest is laws.accepts))
  one-keeps past (Begin node session command) rest is = begins-well past node session command rest is
  one-keeps past entry rest is = refl

  pub keeps-sessions : EachKeeps breaks_sessions [] transcript
  keeps-sessions = keeps-each breaks_sessions [] transcript one-keeps
