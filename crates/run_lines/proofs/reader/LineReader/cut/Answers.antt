use Rattle.std.proofs.Common.{refl, arith}
use Rattle.run_lines.proofs.Cutting.{cut_off, too_long, open_left}
use Rattle.run_lines.proofs.reader.LineReader.cut.Goals as goal

pub returns-in-Some : goal.returns-in-Some
returns-in-Some c =
    rw (← c.self.view_is) (record {
      cut = record {
        taken = refl;
        ended = refl;
        cut = cut_off _ _ _ _ _ _ _ _ c.self.invariant.one c.self.invariant.held c.in-Some.ensures.0 c.in-Some.ensures.1 c.in-Some.ensures.2
            (omega (arith, c.min-count.ensures)) (omega (arith, c.min-count.ensures)) c.append.ensures;
      };
    })

pub returns-in-None : goal.returns-in-None
returns-in-None c =
    rw (← c.self.view_is) (record {
      cut = record {
        taken = refl;
        ended = refl;
        cut = (too_long c.self.inside.text c.self.inside.piece c.self.inside.from c.self.inside.to _ _ c.self.invariant.one c.self.told.1 (omega (arith, c.self.told.0, c.self.invariant.piece)) c.self.invariant.held c.in-None.ensures (omega (arith, c.min-count.ensures)) c.if-count-most.true, refl);
      };
    })

pub returns-in-None-2 : goal.returns-in-None-2
returns-in-None-2 c =
    rw (← c.self.view_is) (record {
      cut = (
        refl,
        open_left _ _ _ _ _ _ c.self.invariant.one c.self.invariant.order c.self.invariant.held c.in-None-2.ensures
            (omega (arith, c.min-count.ensures)) (omega (arith, c.min-count.ensures, c.if-count-most.false)) (omega (arith, c.min-count.ensures, c.if-count-most.false)),
      );
    })
