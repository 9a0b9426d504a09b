-- A fresh device of such a kind is at the beginning of a course, and each that is fresh is idle.
use Rattle.world_lines.specs.Done.{events_of}
use Rattle.proof_in_time.proofs.PlainKinds.{list_openly, list_unsealed, made_idle, open_over, plain_over}
use Rattle.proof_in_time.proofs.orders.nodes_are_plain_by_kind.Goals as goal

pub returns-clause-plain : goal.returns-clause-plain
returns-clause-plain c = λ these key keys devices lines made plain are.
    plain_over c.idle_devices_stay_idle.ensures.fresh c.devices_follow_the_course.ensures.fresh key these devices (events_of lines) made plain
    (c.orders_go_unsealed.ensures.whole these keys devices lines (list_openly these devices plain) are).1

pub returns-clause-openly : goal.returns-clause-openly
returns-clause-openly c = λ these key keys devices lines made bare are.
    open_over c.idle_devices_stay_idle.ensures.fresh c.devices_follow_the_course.ensures.fresh key these devices (events_of lines) made bare
    (c.orders_go_unsealed.ensures.openly these keys devices lines (list_unsealed these devices bare) are).1

pub returns-clause-idle : goal.returns-clause-idle
returns-clause-idle c = λ key devices made. made_idle c.idle_devices_stay_idle.ensures.fresh key devices made
