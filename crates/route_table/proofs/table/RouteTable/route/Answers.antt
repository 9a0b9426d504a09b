use Rattle.std.proofs.Common.{◌≡◌, ℕ, ◌<◌, ◌≤◌, ◌+◌, ◌-◌, get_or, length, arith, subst, length-set, ◌∙◌, take, IsTrue, MatchOption, false, get_or-set_other, get_or-drop, length-drop}
use Rattle.std.proofs.lemmas.List.{take_more_set}
use Rattle.std.proofs.lemmas.Grind.{get_or_default_zero}
use Rattle.std.proofs.lemmas.List.Elements.{All-push, All-same}
use Rattle.route_table.specs.NodeSet.{has}
use Rattle.route_table.specs.RouteTable.{nobody}
use Rattle.route_table.specs.Network.{linked}
use Rattle.route_table.specs.Levels.{IsFirstHeard}
use Rattle.route_table.proofs.Search.{Goes, one_hop, no_walk, walk_from, least_from, at_end}
use Rattle.route_table.proofs.table.RouteTable.route.Goals as goal

pub loop-place-preserved : goal.loop-place-preserved
loop-place-preserved c =
    let was = c.loop-place.invariant in
    let level = get_or c.find_depth.new.levels (c.in-Some.depth - c.loop-place.place) nobody in
    let first : IsFirstHeard c.args.self.now level c.loop-place.at c.unwrap-at.result =
    subst (λ r. MatchOption r ((q : ℕ) → IsTrue (has level q) → linked c.args.self.now c.loop-place.at q ≡ false) (λ n. IsFirstHeard c.args.self.now level c.loop-place.at n)) c.unwrap-at.ensures c.first_heard.ensures
    in
    let few = c.in-Some.ensures.found.few in
    let room : c.loop-place.place < length c.loop-place.hops = omega (arith, few, was.long) in
    let shown = c.in-Some.ensures.found.shown (c.in-Some.depth - c.loop-place.place) (omega arith) in
    let hop = one_hop c.args.self.now c.args.to c.in-Some.depth c.loop-place.place c.loop-place.hops c.loop-place.at c.unwrap-at.result level c.loop-place-test.true room was.goes shown first in
    let node = c.in-Some.ensures.found.only (c.in-Some.depth - c.loop-place.place) (omega arith) c.unwrap-at.result first.held in
    record {
      long = length-set c.loop-place.hops c.loop-place.place c.unwrap-at.result ∙ was.long;
      goes = hop.0;
      reaches = hop.1;
      node = node;
      nodes = All-same (λ n. (1 ≤ n) × (n ≤ 232)) _ _ (take_more_set c.loop-place.hops c.loop-place.place c.unwrap-at.result room) (All-push (λ n. (1 ≤ n) × (n ≤ 232)) _ _ was.nodes node);
      zeros = λ k past. get_or-set_other c.loop-place.hops c.loop-place.place k c.unwrap-at.result 0 (omega arith) ∙ was.zeros k (omega arith);
    }

pub returns-in_default-clause-none : goal.returns-in_default-clause-none
returns-in_default-clause-none c apart = no_walk c.args.self.now c.args.to c.in_default.ensures.none

the_hops : (c : goal.After-loop-place) → let hops = take c.in-Some.depth c.loop-place.hops in Goes c.args.self.now c.args.to 1 c.in-Some.depth hops c.loop-place.at × (length hops ≡ c.in-Some.depth) × IsTrue (linked c.args.self.now c.loop-place.at c.args.to)
the_hops c =
    let was = c.loop-place.invariant in
    at_end c.args.self.now c.args.to c.in-Some.depth c.loop-place.place c.loop-place.hops c.loop-place.at c.loop-place.auto.place-end c.loop-place-test.false
    (omega (arith, c.in-Some.ensures.found.few, was.long)) was.goes was.reaches

pub returns-clause-walk : goal.returns-clause-walk
returns-clause-walk c =
    let hops = the_hops c in
    let found = c.in-Some.ensures.found in
    walk_from c.args.self.now c.args.to _ c.in-Some.depth c.loop-place.at hops.0 hops.1 found.few hops.2 found.fewest

pub returns-clause-least : goal.returns-clause-least
returns-clause-least c =
    let hops = the_hops c in
    least_from c.args.self.now c.args.to _ c.in-Some.depth c.loop-place.at hops.0 hops.1 c.in-Some.ensures.found.fewest

pub returns-clause-padded : goal.returns-clause-padded
returns-clause-padded c k d within =
    let short : c.in-Some.depth + k < length c.loop-place.hops = omega (arith, within, length-drop c.in-Some.depth c.loop-place.hops) in
    get_or-drop c.in-Some.depth c.loop-place.hops k d ∙ get_or_default_zero c.loop-place.hops (c.in-Some.depth + k) d short ∙ c.loop-place.invariant.zeros (c.in-Some.depth + k) (omega arith)
