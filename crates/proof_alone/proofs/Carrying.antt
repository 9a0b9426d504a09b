-- Where an order is accepted directly after the words that give it, each acceptance counts for its node: so what sessions carry was accepted.
use Rattle.std.proofs.Common.{◌≡◌, ℕ, ◌==◌, Bool, true, false, if◌then◌else◌, List, [], ◌∷◌, ◌++◌, refl, sym, ap, ◌∙◌, subst, append-nil, append_assoc}
use Rattle.std.proofs.lemmas.List.{map-append}
use Rattle.std.specs.List.{AllByRecursion}
use Rattle.zw_base.specs.declared.order.Order.{Order}
use Rattle.zw_text.specs.declared.line.Line.{Line}
use Rattle.zw_text.specs.declared.line.Line.TheVariants as lines
use Rattle.zw_text.specs.declared.entry.Entry.{Entry}
use Rattle.zw_text.specs.declared.entry.Entry.TheVariants as entry
use Rattle.zw_text.specs.Transcript.{Accepting, Command, accepted_at, accepting, folded, line_last, not_accepting, numbered, sessions}
use Rattle.law_host.specs.law_transcript.Commands.{numbers_of}
use Rattle.law_host.specs.law_transcript.Lists.{EachAfter, Has}
use Rattle.law_host.specs.law_transcript.Once.{CarriesOnce}
use Rattle.proof_line.specs.proof_host.Laws.{HostLaws, number_for, numbers_for}
use Rattle.proof_line.proofs.ByLine.{last_is}
use Rattle.proof_alone.specs.Answering.{AsOrdered}

of_node : (command : ℕ) (order : Order) (b : Bool) → numbers_of (if b then numbered command ((if b then order ∷ [] else []) ++ []) else []) ≡ (if b then command ∷ [] else [])
of_node command order true = refl
of_node command order false = refl

one_number : (n : ℕ) (before : List Line) (past : List Entry) (e : Entry) → before ≡ line_last past → AsOrdered past e → numbers_of (accepted_at n before e) ≡ number_for n e
one_number n before past (entry.Accepted command node) same (order, is, node_is) =
    subst (λ (l : List Line). numbers_of (accepted_at n l (entry.Accepted command node)) ≡ number_for n (entry.Accepted command node)) (sym (same ∙ is))
    (subst (λ (m : ℕ). numbers_of (accepted_at n (lines.Command order ∷ []) (entry.Accepted command m)) ≡ number_for n (entry.Accepted command m)) node_is (of_node command order (order.node == n)))
one_number n before past e same ordered = refl

pub numbers_from : (n : ℕ) (so_far : Accepting) (past told : List Entry) → so_far.line ≡ line_last past → EachAfter AsOrdered past told
    → numbers_of (folded (accepting n) so_far told).commands ≡ numbers_of so_far.commands ++ numbers_for n told
numbers_from n so_far past [] same ordered = sym (append-nil (numbers_of so_far.commands))
numbers_from n so_far past (e ∷ told) same ordered =
    let next : Accepting = accepting n so_far e in
    let rest = numbers_from n next (past ++ e ∷ []) told (sym (last_is past e)) ordered.1 in
    let one : numbers_of next.commands ≡ numbers_of so_far.commands ++ number_for n e =
    map-append (λ (c : Command). c.number) so_far.commands (accepted_at n so_far.line e) ∙ ap (λ (l : List ℕ). numbers_of so_far.commands ++ l) (one_number n so_far.line past e same ordered.0) in
    rest ∙ ap (λ (l : List ℕ). l ++ numbers_for n told) one ∙ append_assoc (numbers_of so_far.commands) (number_for n e) (numbers_for n told)

pub carries_once : (node : ℕ) (told : List Entry) → HostLaws told → EachAfter AsOrdered [] told → CarriesOnce node told
carries_once node told laws ordered = record {
  commands_rise = laws.rise node;
  commands_accepted = subst (λ (l : List ℕ). AllByRecursion (Has l) (sessions node told)) (sym (numbers_from node not_accepting [] told refl ordered)) (laws.accepted node);
}
