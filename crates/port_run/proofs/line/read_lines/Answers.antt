use Rattle.std.proofs.Common.{rules}
use Rattle.port_run.proofs.Answered.{count_more, read_more, read_all}
use Rattle.port_run.proofs.line.read_lines.Goals as goal

pub loop-at-preserved : goal.loop-at-preserved
loop-at-preserved c = record {
  read = read_more c.args.texts.now c.loop-at.lines.items c.push.new.self.items c.loop-at.at c.index-texts-at.result c.as_bytes.result.now c.in-Ok-read_wanted.line c.loop-at-test.true c.index-texts-at.is (cc) c.loop-at.invariant.read c.in-Ok-read_wanted.ensures c.in_ok-push-in-Ok-read_wanted.ensures.ok;
  count = count_more _ _ _ _ c.in_ok-push-in-Ok-read_wanted.ensures.ok c.loop-at.invariant.count;
  few = search rules;
}

pub returns-clause-read : goal.returns-clause-read
returns-clause-read c = read_all c.args.texts.now c.loop-at.lines.items c.loop-at.at c.loop-at-test.false c.loop-at.invariant.read
