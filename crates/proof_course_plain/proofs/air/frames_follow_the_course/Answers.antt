-- Each clause is a lemma, over what is known of frames that fly.
use Rattle.proof_course_plain.proofs.Flights.{first_air, frame_goes, frame_lands, frame_was_there, session_begins, air_stays, order_accepted}
use Rattle.proof_course_plain.proofs.air.frames_follow_the_course.Goals as goal

pub returns-clause-first : goal.returns-clause-first
returns-clause-first c node = first_air node c.frames_fly_in_order.ensures.first

pub returns-clause-goes : goal.returns-clause-goes
returns-clause-goes c node orders host air old log flights frames departure cargo within on_air bears =
    frame_goes node orders host air old log flights frames departure cargo (c.frames_fly_in_order.ensures.goes log flights frames departure within on_air.fly) on_air bears

pub returns-clause-lands : goal.returns-clause-lands
returns-clause-lands c node orders host air old log frame later frames on_air =
    frame_lands node orders host air old log frame later frames (c.frames_fly_in_order.ensures.lands log frame later frames on_air.fly) on_air

pub returns-clause-repeated : goal.returns-clause-repeated
returns-clause-repeated c = frame_was_there c.frames_fly_in_order.ensures.kept

pub returns-clause-begins : goal.returns-clause-begins
returns-clause-begins c = session_begins

pub returns-clause-stays : goal.returns-clause-stays
returns-clause-stays c = air_stays

pub returns-clause-accepted : goal.returns-clause-accepted
returns-clause-accepted c = order_accepted
