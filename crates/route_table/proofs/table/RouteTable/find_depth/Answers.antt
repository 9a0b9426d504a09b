use Rattle.std.proofs.Common.{◌≡◌, ◌<◌, ◌+◌, length, arith, suc, subst, length-set, sym, ◌∙◌}
use Rattle.std.proofs.Common.{below_more}
use Rattle.route_table.specs.Levels.{ShowsLevel, OnlyNodes}
use Rattle.route_table.proofs.Search.{shown_after, found_some, found_none, put_level}
use Rattle.route_table.proofs.table.RouteTable.find_depth.Goals as goal

pub returns-then-is_some-clause-found : goal.returns-then-is_some-clause-found
returns-then-is_some-clause-found c =
    let room : c.loop-depth.depth < length c.loop-depth.levels = omega arith in
    record {
      few = omega arith;
      reaches = found_some c.args.self.now c.args.to c.loop-depth.depth 1 c.loop-depth.level c.first_heard.result c.loop-depth.invariant.shown c.first_heard.ensures (sym c.is_some.ensures ∙ c.if-is_some.true);
      fewest = c.loop-depth.invariant.fewest;
      shown = λ k upto. put_level (ShowsLevel c.args.self.now c.args.to) c.loop-depth.levels c.loop-depth.depth c.loop-depth.level room c.loop-depth.invariant.kept c.loop-depth.invariant.shown k (omega arith);
      only = λ k upto. put_level (λ _. OnlyNodes) c.loop-depth.levels c.loop-depth.depth c.loop-depth.level room c.loop-depth.invariant.kept_nodes c.loop-depth.invariant.only k (omega arith);
    }

pub loop-depth-preserved : goal.loop-depth-preserved
loop-depth-preserved c =
    let room : c.loop-depth.depth < length c.loop-depth.levels = omega arith in
    record {
      long = length-set c.loop-depth.levels c.loop-depth.depth c.loop-depth.level ∙ c.loop-depth.invariant.long;
      only = λ n is. c.between-free.ensures.nodes n ((c.level_after-level.ensures n).0 is).free;
      shown =
          let next : suc c.loop-depth.depth ≡ c.loop-depth.depth + 1 = omega arith in
          subst (λ k. ShowsLevel c.args.self.now c.args.to k c.level_after-level.result) next
          (shown_after c.args.self.now c.args.to c.loop-depth.depth c.loop-depth.level c.between-free.result c.level_after-level.result c.loop-depth.invariant.shown c.between-free.ensures.each c.level_after-level.ensures);
      kept = put_level (ShowsLevel c.args.self.now c.args.to) c.loop-depth.levels c.loop-depth.depth c.loop-depth.level room c.loop-depth.invariant.kept c.loop-depth.invariant.shown;
      kept_nodes = put_level (λ _. OnlyNodes) c.loop-depth.levels c.loop-depth.depth c.loop-depth.level room c.loop-depth.invariant.kept_nodes c.loop-depth.invariant.only;
      fewest = below_more _ _ c.loop-depth.invariant.fewest (found_none c.args.self.now c.args.to c.loop-depth.depth 1 c.loop-depth.level c.first_heard.result c.loop-depth.invariant.shown c.first_heard.ensures (sym c.is_some.ensures ∙ c.if-is_some.false));
    }
