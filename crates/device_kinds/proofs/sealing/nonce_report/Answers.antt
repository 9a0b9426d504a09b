use Rattle.std.proofs.Common.{◌∙◌}
use Rattle.device_kinds.proofs.SizeLemmas.{nonce_payload}
use Rattle.device_kinds.proofs.sealing.nonce_report.Goals as goal

pub fitting-requires : goal.fitting-requires
fitting-requires c =
    (nonce_payload c.args.nonce c.as_slice.result.now c.in_ok-text.ensures.spelled.0 (c.as_slice.ensures ∙ c.in_ok-text.ensures.form)).short
