use Rattle.std.proofs.Common.{◌≡◌, ◌+◌, ◌∷◌, ◌++◌, [], true, length, ap, ◌∙◌, arith}
use Rattle.file_keeper.specs.Lines.{line_of}
use Rattle.file_keeper.proofs.Drawers.{drawer_added}
use Rattle.file_keeper.proofs.file_keeper.FileKeeper.put.Goals as goal

pub invariant_of-self-in-Whole : goal.invariant_of-self-in-Whole
invariant_of-self-in-Whole g c =
    let is : c.self.inside.is_open ≡ true = ap (λ d. d.is_open) c.self.view_is ∙ c.requires.open in
    let items : c.put.new.self.items ≡ c.self.inside.records.items ++ c.args.text ∷ [] = grind (arith, c.put.ensures.items, c.in_ok-reserve.ensures.items, c.text.view_is) in
    let sum : c.in-Some.size ≡ c.self.inside.size + length (line_of c.args.text) = grind (arith, c.in-Some.ensures, c.in-Some.is, c.checked_add.ensures, c.requires.line) in
    rw items (drawer_added _ _ _ _ _ c.self.inside.records.items c.args.text c.self.inside.size c.in-Some.size c.self.invariant is c.requires.one
    (rw (← c.requires.line) (c.write.ensures.whole c.in-Whole.is)) (c.write.ensures.whole_synced c.in-Whole.is) sum)
