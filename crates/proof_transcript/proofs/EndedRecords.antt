-- How the sessions of a node ended by the records is how the transcript shows their commands to have ended.
use Rattle.std.proofs.Common.{◌≡◌, ℕ, ◌==◌, ◌||◌, Bool, true, false, if◌then◌else◌, List, [], ◌∷◌, map, Option, Some, None, refl, sym, ap, ap₂, subst, ◌∙◌}
use Rattle.std.specs.Prelude.{All}
use Rattle.std.specs.Option.{option_or}
use Rattle.std.proofs.lemmas.Bool.{eq-eqb, eqb-true, or_left as or_here}
use Rattle.std.proofs.lemmas.List.Elements.{All-head, All-tail}
use Rattle.zw_text.specs.declared.entry.Entry.{Entry}
use Rattle.zw_text.specs.declared.entry.Outcome.{Outcome}
use Rattle.zw_text.specs.declared.entry.Outcome.TheVariants as outcomes
use Rattle.zw_text.specs.Transcript.{outcome}
use Rattle.law_host.specs.law_transcript.Records.{final_of}
use Rattle.host_keep.specs.Kept.{Kept, KeptNode, Session, is_among, node_of as kept_of_node}
use Rattle.host_keep.specs.declared.final_status.FinalStatus.{FinalStatus}
use Rattle.host_keep.specs.declared.final_status.FinalStatus.TheVariants as final
use Rattle.proof_air.specs.host_model.State.{HostState, Command, node_of}
use Rattle.proof_air.specs.host_model.Facts.{HostFacts, IsCommandOf}
use Rattle.proof_air.specs.host_model.Holding.{Holds, Rise, as_kept, commands_of, ended_in, outcome_by, outcome_kept}
use Rattle.proof_air.proofs.Rising.{not_below, not_later, rise-left}
use Rattle.proof_air.proofs.Begun.{ended_so}
use Rattle.proof_air.specs.proof_host.Facts.{AreShown}
use Rattle.proof_air.specs.proof_host.Tables.{outcome_in, outcome_by as outcome_of_one, recorded}
use Rattle.proof_air.proofs.Ended.{not_begun, either_among as or_later}
use Rattle.proof_air.proofs.OpenSessions.{same_if as if_true}

-- ---- sessions whose commands rise

first_ended : (one : Session) (more : List Session) → Rise (commands_of (one ∷ more)) → ended_in (one ∷ more) one.command ≡ Some one.ended
first_ended one more rise =
    ap (λ (o : Option (Option FinalStatus)). option_or o (if one.command == one.command then Some one.ended else None)) (not_begun more one.command (not_below one.command (commands_of more) rise.0))
    ∙ if_true (one.command == one.command) one.ended (eq-eqb one.command one.command refl)

-- a question that says of each session's command how the session ended says it of all of them
ended_are : (ended_of : ℕ → Option FinalStatus) (sessions : List Session) → Rise (commands_of sessions)
    → ((number : ℕ) (ended : Option FinalStatus) → is_among (commands_of sessions) number ≡ true → ended_in sessions number ≡ Some ended → ended_of number ≡ ended)
    → map (λ (session : Session). session.ended) sessions ≡ map ended_of (commands_of sessions)
ended_are ended_of [] rise each = refl
ended_are ended_of (one ∷ more) rise each =
    ap₂ (λ (a : Option FinalStatus) (b : List (Option FinalStatus)). a ∷ b)
    (sym (each one.command one.ended (or_here (one.command == one.command) (is_among (commands_of more) one.command) (eq-eqb one.command one.command refl)) (first_ended one more rise)))
    (ended_are ended_of more rise.1 (λ number ended among is. each number ended (or_later (one.command == number) (commands_of more) number among)
    (ap (λ (o : Option (Option FinalStatus)). option_or o (if one.command == number then Some one.ended else None)) is)))

-- ---- final outcomes

final_recorded : (what : Outcome) → final_of (recorded what) ≡ final_of what
final_recorded outcomes.Unanswered = refl
final_recorded _ = refl

final_kept : (what : Outcome) → final_of (as_kept what) ≡ final_of what
final_kept outcomes.Unanswered = refl
final_kept _ = refl

final_by : (ended : Option FinalStatus) → final_of (outcome_by (Some ended)) ≡ ended
final_by None = refl
final_by (Some final.Success) = refl
final_by (Some final.Fail) = refl
final_by (Some final.NoSupport) = refl

-- one of these is so
one_is : (P : ℕ → Type 0) (numbers : List ℕ) (number : ℕ) → All P numbers → is_among numbers number ≡ true → P number
one_is P [] number all among = absurd cc
one_is P (first ∷ rest) number all among = by (first == number) refl among (one_is P rest number (All-tail P first rest all))
  where
    by : (b : Bool) → (first == number) ≡ b → (b || is_among rest number) ≡ true → (is_among rest number ≡ true → P number) → P number
    by true same is later = subst P (eqb-true first number same) (All-head P first rest all)
    by false other is later = later is

module _ (past : List Entry) (h : HostState) (kept : Kept) (facts : HostFacts h) (holds : Holds h kept) (tables : AreShown past h) (n : ℕ) where
  abbrev node : KeptNode
  node = kept_of_node kept n

  owned : (number : ℕ) → is_among (commands_of node.sessions) number ≡ true → IsCommandOf h.commands n number
  owned number among =
      one_is (IsCommandOf h.commands n) (node_of h n).book.commands number (facts.owns n).sessions
      (ap (λ (l : List ℕ). is_among l number) (holds.nodes n).sessions ∙ among)

  ended_is : (number : ℕ) (ended : Option FinalStatus) → is_among (commands_of node.sessions) number ≡ true → ended_in node.sessions number ≡ Some ended → final_of (outcome number past) ≡ ended
  ended_is number ended among is =
      let own = owned number among in
      let apart : is_among node.waiting number ≡ false = not_later (commands_of node.sessions) node.waiting number (holds.order n) among in
      let kept_so : as_kept own.command.outcome ≡ outcome_kept node number =
      holds.outcomes number own.command own.found ∙ ap (λ (k : ℕ). outcome_kept (kept_of_node kept k) number) own.node in
      let in_table : outcome_in h.commands number ≡ own.command.outcome = ap (λ (o : Option Command). outcome_of_one o) own.found in
      sym (final_recorded (outcome number past))
      ∙ (ap final_of (sym (tables.outcomes number))
      ∙ (final_recorded (outcome_in h.commands number)
      ∙ (ap final_of in_table
      ∙ (sym (final_kept own.command.outcome) ∙ (ap final_of (kept_so ∙ ended_so node number (Some ended) apart is) ∙ final_by ended)))))

  pub node_ended : map (λ (session : Session). session.ended) node.sessions ≡ map (λ number. final_of (outcome number past)) (commands_of node.sessions)
  node_ended = ended_are (λ number. final_of (outcome number past)) node.sessions (rise-left (commands_of node.sessions) node.waiting (holds.order n)) ended_is
