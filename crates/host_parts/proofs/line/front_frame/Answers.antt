use Rattle.host_requests.specs.Frames.{frame_of}
use Rattle.host_requests.specs.State.{next_id}
use Rattle.host_requests.specs.declared.task.Task.{Task}
use Rattle.host_requests.specs.declared.task.Purpose.TheVariants.{Housekeeping}
use Rattle.host_parts.proofs.Prefix.{prefix_is_there}
use Rattle.host_parts.proofs.line.front_frame.Goals as goal

pub unwrap-requires : goal.unwrap-requires
unwrap-requires c =
    prefix_is_there c.args.requests.now.queue (λ (task : Task). frame_of (Housekeeping task) (next_id c.args.requests.now.last_id)) c.in_ok-found.found c.requires c.in_ok-found.ensures
