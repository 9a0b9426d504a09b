use Rattle.std.proofs.Common.{◌≡◌, ℕ, List, [], ◌∷◌, ◌++◌, length, take, get_or, ap, sym, ◌∙◌, arith, append_assoc}
use Rattle.encap.specs.Wraps.{listed}
use Rattle.encap.proofs.WrapLemmas.{fit_at, listed-take, same_item}
use Rattle.encap.proofs.wrapping.batch.Goals as goal

pub overflow_cast-len : goal.overflow_cast-len
overflow_cast-len c =
    let item = same_item c.args.commands.now c.loop-command.command-index c.command-item.result c.loop-command-test.true c.command-item.is in
    let len : c.len.result ≡ length (get_or c.args.commands.now c.loop-command.command-index []) = c.len.ensures ∙ ap length item in
    let fits = fit_at c.args.commands.now c.loop-command.command-index c.requires.fit c.loop-command-test.true in
    omega (arith, fits, len)

-- so many bytes, and one more command after its length
more : (prefix done item : List ℕ) (n : ℕ) → (prefix ++ done ++ n ∷ []) ++ item ≡ prefix ++ (done ++ (n ∷ item))
more prefix done item n = append_assoc (prefix ++ done) (n ∷ []) item ∙ append_assoc prefix done (n ∷ item)

pub loop-command-preserved : goal.loop-command-preserved
loop-command-preserved c =
    let commands : List (List ℕ) = c.args.commands.now in
    let at : ℕ = c.loop-command.command-index in
    let done : List ℕ = listed (take c.loop-command.command-index c.args.commands.now) in
    let prefix : List ℕ = 143 ∷ 1 ∷ length c.args.commands.now ∷ [] in
    let item : c.command-item.result ≡ get_or c.args.commands.now c.loop-command.command-index [] = same_item c.args.commands.now c.loop-command.command-index c.command-item.result c.loop-command-test.true c.command-item.is in
    let len : c.len.result ≡ length (get_or c.args.commands.now c.loop-command.command-index []) = c.len.ensures ∙ ap length item in
    c.in_ok-extend.ensures.ok
    ∙ ap (λ (x : List ℕ). x ++ c.as_slice.result.now) (c.in_ok-push.ensures.ok ∙ ap (λ (x : List ℕ). x ++ c.len.result ∷ []) c.loop-command.invariant)
    ∙ ap (λ (x : List ℕ). ((143 ∷ 1 ∷ length c.args.commands.now ∷ done) ++ c.len.result ∷ []) ++ x) (c.as_slice.ensures ∙ item)
    ∙ ap (λ (n : ℕ). ((143 ∷ 1 ∷ length c.args.commands.now ∷ done) ++ n ∷ []) ++ get_or c.args.commands.now c.loop-command.command-index []) len
    ∙ more prefix done (get_or c.args.commands.now c.loop-command.command-index []) (length (get_or c.args.commands.now c.loop-command.command-index []))
    ∙ ap (λ (x : List ℕ). 143 ∷ 1 ∷ length c.args.commands.now ∷ x) (sym (listed-take c.args.commands.now c.loop-command.command-index c.loop-command-test.true))
