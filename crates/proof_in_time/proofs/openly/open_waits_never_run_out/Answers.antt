-- One walk over lines for one node alone that takes segments, beside the one that it alone speaks.
use Rattle.std.proofs.Common.{◌≡◌, ℕ, Bool, List, length}
use Rattle.chip_functions.specs.Field.{IsNode}
use Rattle.proof_answered.specs.Sleepers.{IsAlone}
use Rattle.proof_answered.proofs.proof_traffic_Parts.{Airs}
use Rattle.proof_in_time.proofs.Bounded.{Devices}
use Rattle.proof_in_time.proofs.Completes.{complete_plain}
use Rattle.proof_in_time.proofs.OpenSteps.{TrailSteps}
use Rattle.proof_in_time.proofs.OpenWaits.{cuts_stay, open_counts, open_first}
use Rattle.proof_in_time.proofs.PartsArriving.{SegmentLaws}
use Rattle.proof_in_time.proofs.Plainly.{Tells}
use Rattle.proof_in_time.proofs.TrailDevices.{AgainLaws}
use Rattle.proof_in_time.proofs.TrailSteps.{trail_steps}
use Rattle.proof_in_time.proofs.openly.open_waits_never_run_out.Goals as goal

module _ (c : goal.After-workers_alone_speak) where
  airs : Airs
  airs = record {
    goes = c.frames_fly_in_order.ensures.goes;
    next = c.frames_fly_in_order.ensures.next;
    lands = c.frames_fly_in_order.ensures.lands;
    count = c.frames_fly_in_order.ensures.count;
    begins = c.frames_fly_in_order.ensures.begins;
  }

  answers : Devices
  answers = record { heard = c.messages_are_answered.ensures.heard; still = c.messages_are_answered.ensures.still; works = c.messages_are_answered.ensures.works }

  laws : SegmentLaws
  laws = record {
    slices = record { opened = c.messages_come_in_slices.ensures.opened; no_more = c.messages_come_in_slices.ensures.no_more; one_less = c.messages_come_in_slices.ensures.one_less };
    part = c.segments_tell.ensures.part;
    carried = c.messages_come_in_slices.ensures.carried;
    asks = c.segments_tell.ensures.asks;
    answered = c.segments_are_answered.ensures;
  }

  tells : Tells
  tells = record { heard = c.reports_tell.ensures.plainly; works = c.messages_are_answered.ensures.works }

  again : AgainLaws
  again = record { again = c.segments_tell.ensures.again; complete = complete_plain }

  module _ (these : List Bool) (many : length these ≡ 233) where
    trails : (n : ℕ) (alone : IsAlone these n) (is_node : IsNode n) → TrailSteps airs answers laws tells these many n alone is_node (c.nodes_are_served_in_turn.ensures.workers these)
    trails n alone is_node = trail_steps airs answers laws again tells c.devices_stay_the_same.ensures.event these many n alone is_node (c.nodes_are_served_in_turn.ensures.workers these)

pub returns-clause-walk : goal.returns-clause-walk
returns-clause-walk c = λ these many none.
    open_first (airs c) (answers c) (laws c) (tells c) these many none (c.nodes_are_served_in_turn.ensures.workers these) (trails c these many) (c.nodes_hear.ensures.listening these many)
    (λ n m event is. cuts_stay n m.outside.devices _ (c.devices_stay_the_same.ensures.all m.outside.devices _ (c.devices_go_on.ensures.each m event)) is) (c.workers_alone_speak.ensures.walk these many)
    (c.attempts_stay_first.ensures.working these many)

pub returns-clause-counts : goal.returns-clause-counts
returns-clause-counts c = λ these n many none alone.
    open_counts (airs c) (answers c) (laws c) (tells c) these many none (c.nodes_are_served_in_turn.ensures.workers these) (trails c these many) n alone
