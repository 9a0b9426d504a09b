use Rattle.std.proofs.Common.{refl}
use Rattle.std.specs.Prelude.{◌-◌, slice_set}
use Rattle.air_frames.specs.Frames.{no_frames, peer_of}
use Rattle.proof_traffic.proofs.FlightsInOrder.{goes, next_is, lands, none_next, counted, begins, remembered_is}
use Rattle.proof_traffic.proofs.flights_in_order.frames_fly_in_order.Goals as goal

pub returns-clause-first : goal.returns-clause-first
unfolding no_frames
returns-clause-first c = record { history = c.what_is_kept_is_of_the_history.ensures.first; are = refl }

pub returns-clause-goes : goal.returns-clause-goes
returns-clause-goes c = λ log flights frames departure within fly. goes log flights frames departure (c.what_is_kept_is_of_the_history.ensures.goes log frames departure within fly.history) fly

pub returns-clause-next : goal.returns-clause-next
returns-clause-next c = next_is

pub returns-clause-lands : goal.returns-clause-lands
returns-clause-lands c = lands c.what_is_kept_is_of_the_history.ensures.lands

pub returns-clause-none : goal.returns-clause-none
returns-clause-none c = none_next

pub returns-clause-count : goal.returns-clause-count
returns-clause-count c = counted

pub returns-clause-begins : goal.returns-clause-begins
returns-clause-begins c = λ log flights frames node sessions within more fly.
    begins log flights frames (record frames { peers = slice_set frames.peers node (record (peer_of frames node) { begun = sessions }) }) node (sessions - (peer_of frames node).begun) refl
    (c.what_is_kept_is_of_the_history.ensures.begins log frames node sessions within more fly.history) fly

pub returns-clause-kept : goal.returns-clause-kept
returns-clause-kept c = remembered_is
