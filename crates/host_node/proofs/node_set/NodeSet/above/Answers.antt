-- The first bit above the number, word by word.
use Rattle.std.proofs.Common.{sym, ◌∙◌, arith}
use Rattle.host_node.proofs.Words.{rest_has, rest_has_none, passed_word, passed_rest, passed_all, some_where, is_some_of}
use Rattle.host_node.proofs.node_set.NodeSet.above.Goals as goal

pub overflow_add-from-then-rest-ne0 : goal.overflow_add-from-then-rest-ne0
overflow_add-from-then-rest-ne0 c =
    let r = rest_has c.self.inside.words c.loop-from.from (omega arith) (omega arith) in omega (arith, r.within)

pub unwrap-requires : goal.unwrap-requires
unwrap-requires c =
    let r = rest_has c.self.inside.words c.loop-from.from (omega arith) (omega arith) in
    is_some_of c.read_node.result _ (some_where _ c.read_node.result _ c.read_node.ensures (c.self.invariant _ r.it))

pub returns-then-rest-ne0 : goal.returns-then-rest-ne0
returns-then-rest-ne0 c =
    let r = rest_has c.self.inside.words c.loop-from.from (omega arith) (omega arith) in
    let same = some_where _ c.read_node.result _ c.read_node.ensures (c.self.invariant _ r.it) in
    rw (← c.self.view_is) (sym c.unwrap.ensures ∙ same ∙ sym (passed_rest c.self.inside.words c.args.number c.loop-from.from _ c.self.invariant c.loop-from.invariant r))

pub loop-from-preserved : goal.loop-from-preserved
loop-from-preserved c =
    passed_word c.self.inside.words c.args.number c.loop-from.from c.loop-from.invariant (rest_has_none c.self.inside.words c.loop-from.from (omega arith))

pub returns : goal.returns
returns c =
    rw (← c.self.view_is) (sym (passed_all c.self.inside.words c.args.number c.loop-from.from (omega arith) c.loop-from.invariant))
