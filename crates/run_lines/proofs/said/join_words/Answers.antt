use Rattle.std.proofs.Common.{◌∷◌, ◌++◌, [], List, ℕ, ap, sym, ◌∙◌, append_assoc}
use Rattle.zw_words.specs.Words.{words}
use Rattle.run_lines.proofs.Joining.{join-snoc}
use Rattle.run_lines.proofs.said.join_words.Goals as goal

pub loop-next-preserved : goal.loop-next-preserved
loop-next-preserved c =
    let prefix : List (List ℕ) = c.loop-next.invariant.0 in
    let next : List ℕ = c.in-Some.next.now in (
      prefix ++ next ∷ [],
      c.loop-next.invariant.1 ∙ ap (λ (ws : List (List ℕ)). prefix ++ ws) c.in-Some.ensures.some ∙ sym (append_assoc prefix (next ∷ []) (words c.in-Some.after.now)),
      c.in_ok-extend.ensures.ok ∙ ap (λ (xs : List ℕ). xs ++ next) c.in_ok-push.ensures.ok
          ∙ ap (λ (xs : List ℕ). (xs ++ 32 ∷ []) ++ next) c.loop-next.invariant.2 ∙ sym (join-snoc c.args.word.now prefix next),
    )
