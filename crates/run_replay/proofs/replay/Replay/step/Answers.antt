-- A line that scenarios have too, or bytes of the chip and a pump.
use Rattle.std.proofs.Common.{ℕ, List, ap, sym, ◌∙◌}
use Rattle.zw_text.specs.declared.line.ReplayLine.TheVariants.{Chip}
use Rattle.zw_base.proofs.Results.{on_err}
use Rattle.run_replay.proofs.Steps.{plain_is, line_as, chip_done, chip_stops}
use Rattle.run_replay.proofs.replay.Replay.step.Goals as goal

pub plain-requires : goal.plain-requires
plain-requires g c =
    plain_is c.args.line.now _ c.in-Plain.is c.requires

pub returns-in-Plain-clause-ok : goal.returns-in-Plain-clause-ok
returns-in-Plain-clause-ok g c =
    line_as c.plain.result c.args.line.now _ _ _ c.in-Plain.is c.plain.ensures.ok

pub returns-in_err-feed-in-Chip-clause-err : goal.returns-in_err-feed-in-Chip-clause-err
returns-in_err-feed-in-Chip-clause-err g c =
    on_err c.from_residual.result c.in_err-feed-in-Chip.ensures.err

pub returns-in_ok-feed-in-Chip-clause-ok : goal.returns-in_ok-feed-in-Chip-clause-ok
returns-in_ok-feed-in-Chip-clause-ok g c =
    chip_done c.pump.result c.args.line.now c.as_slice.result.now _ _ _ (c.in-Chip.is ∙ ap (λ (bytes : List ℕ). Chip bytes) (sym c.as_slice.ensures)) c.in_ok-feed-in-Chip.ensures.ok c.pump.ensures.ok

pub returns-in_ok-feed-in-Chip-clause-err : goal.returns-in_ok-feed-in-Chip-clause-err
returns-in_ok-feed-in-Chip-clause-err g c =
    chip_stops c.pump.result _ _ _ _ c.in_ok-feed-in-Chip.ensures.ok c.pump.ensures.err
