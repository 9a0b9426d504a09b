use Rattle.std.proofs.Common.{[], refl, arith}
use Rattle.std.specs.Prelude.{drop, take}
use Rattle.law_transcript.specs.Worked.{plain_exchange, turned_on}
use Rattle.law_wire.specs.WorkedHalted.{events_halted}
use Rattle.law_wire.proofs.Computing.{reckoning}
use Rattle.law_wire.proofs.halted.worked_halted.Goals as goal

pub returns-clause-heard : goal.returns-clause-heard
unfolding reckoning
returns-clause-heard c = record {
  earlier = [];
  late = events_halted;
  more = take 1 (drop 11 plain_exchange);
  runs = refl;
  before = record { comes = record { came = refl; ticked = refl }; answered = refl };
  lacks = record { unsaid = refl; one_more = omega arith };
  following = record { came = ([], refl); ticked = omega arith; answered = (_, refl) };
  changes = record { changes = turned_on; changed = refl; entered = refl };
}

pub returns-clause-changed : goal.returns-clause-changed
unfolding reckoning
returns-clause-changed c = record {
  earlier = [];
  late = events_halted;
  more = [];
  runs = refl;
  before = record { comes = record { came = refl; ticked = refl }; answered = refl };
  lacks = record { unsaid = refl; one_more = omega arith };
  following = record { came = ([], refl); ticked = omega arith; answered = (_, refl) };
  changes = record { changes = turned_on; changed = refl; entered = refl };
}

pub returns-clause-unheard : goal.returns-clause-unheard
unfolding reckoning
returns-clause-unheard c = record {
  earlier = [];
  late = [];
  more = [];
  runs = refl;
  before = record { comes = record { came = refl; ticked = refl }; answered = refl };
  lacks = record { unsaid = refl; one_more = omega arith };
  following = record { came = (_, refl); ticked = omega arith; answered = (_, refl) };
  changes = record { changes = []; changed = refl; entered = refl };
}
