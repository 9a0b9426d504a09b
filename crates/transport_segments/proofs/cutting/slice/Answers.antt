use Rattle.std.proofs.Common.{◌≡◌, ℕ, ◌-◌, ◌*◌, length, drop, arith, length-drop, sym, ◌∙◌}
use Rattle.std.proofs.lemmas.List.{take_all}
use Rattle.transport_segments.proofs.cutting.slice.Goals as goal

pub returns-then-rest-lt-SEGMENT_LEN : goal.returns-then-rest-lt-SEGMENT_LEN
returns-then-rest-lt-SEGMENT_LEN c =
    let left : ℕ = length c.args.datagram.now - 39 * c.args.k in
    let len : length (drop (39 * c.args.k) c.args.datagram.now) ≡ length c.args.datagram.now - 39 * c.args.k = length-drop (39 * c.args.k) c.args.datagram.now in
    take_all (length c.args.datagram.now - 39 * c.args.k) (drop (39 * c.args.k) c.args.datagram.now) (omega arith)
    ∙ sym (take_all 39 (drop (39 * c.args.k) c.args.datagram.now) (omega arith))
