-- The part of that place is the one that the split gives there.
use Rattle.std.proofs.Common.{◌==◌, rules, tests}
use Rattle.std.proofs.lemmas.Iterator.Consumers.{nth_from_yields_List}
use Rattle.std.proofs.lemmas.Iterator.Splits.{YieldsList-from_slice_split}
use Rattle.zw_parse.proofs.parts.nth_part.Goals as goal

pub returns : goal.returns
returns c = nth_from_yields_List _ _ c.args.place c.nth.ensures.ran (YieldsList-from_slice_split _ (λ b. b == c.args.byte) c.args.text.now c.split.ensures.rest c.split.ensures.done c.split.ensures.closure (λ x r q k. search (rules, tests)))
