use Rattle.std.proofs.Common.{◌≡◌, ◌≤◌, length, ap, subst, arith}
use Rattle.s0_crypto.specs.declared.key_pair.Keys.{Keys}
use Rattle.host_model.specs.State.{HostState}
use Rattle.host_model.specs.Taking.{OpensInVain}
use Rattle.host_step.proofs.Answered.{some_is}
use Rattle.host_step_kept.proofs.Lengths.{plain_is_shorter}
use Rattle.host_step_kept.proofs.Sealed.{badly_coded, other_sequence}
use Rattle.host_step_kept.proofs.opening.read_sealed.Goals as goal

pub read_payload-requires : goal.read_payload-requires
read_payload-requires c =
    let short : length c.in-Ok.plain ≤ length c.args.payload.now = plain_is_shorter _ _ _ _ c.in-Ok.plain c.args.payload.now c.in-Ok.ensures.opened in
    omega (arith, ap length c.as_slice.ensures, short, c.requires.short)

pub returns-in-Err-BadCode : goal.returns-in-Err-BadCode
returns-in-Err-BadCode c =
    let one : c.unwrap.result ≡ 1 = some_is c.read_node.result _ 1 c.unwrap.result c.read_node.ensures c.unwrap.ensures in
    subst (λ (k : Keys). let h : HostState = record c.args.core.now.state { keys = k } in OpensInVain h c.args.node c.args.nonce c.args.payload.now) c.keys.ensures
    (badly_coded (record c.args.core.now.state { keys = c.keys.result.now }) c.args.node c.unwrap.result c.args.nonce c.args.payload.now c.unseal.result c.in-Err-BadCode.field-0 c.in-Err-BadCode.field-0-0 c.in-Err-BadCode.field-0-1 one c.in-Err-BadCode.is c.in-Err-BadCode.field-0-is
    (c.unseal.ensures.bad_code c.in-Err-BadCode.field-0-0 c.in-Err-BadCode.field-0-1).0)

pub returns-in-Err-Sequence : goal.returns-in-Err-Sequence
returns-in-Err-Sequence c =
    let one : c.unwrap.result ≡ 1 = some_is c.read_node.result _ 1 c.unwrap.result c.read_node.ensures c.unwrap.ensures in
    subst (λ (k : Keys). let h : HostState = record c.args.core.now.state { keys = k } in OpensInVain h c.args.node c.args.nonce c.args.payload.now) c.keys.ensures
    (other_sequence (record c.args.core.now.state { keys = c.keys.result.now }) c.args.node c.unwrap.result c.args.nonce c.args.payload.now c.unseal.result c.in-Err-Sequence.field-0 c.in-Err-Sequence.field-0-0 one c.in-Err-Sequence.is c.in-Err-Sequence.field-0-is
    (c.unseal.ensures.sequence c.in-Err-Sequence.field-0-0).0)
