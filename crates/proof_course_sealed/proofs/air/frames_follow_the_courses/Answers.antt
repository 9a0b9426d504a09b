-- Each clause is a lemma, over what is known of frames that fly and of how the air counts nonces.
use Rattle.proof_course_sealed.proofs.Flights.{Counting, first_air, air_stays, frame_goes, frame_lands, frame_was_there, session_begins, another_begins}
use Rattle.proof_course_sealed.proofs.air.frames_follow_the_courses.Goals as goal

counting_of : (c : goal.After-the_air_counts_nonces) → Counting
counting_of c = record {
  first = c.the_air_counts_nonces.ensures.first;
  begins = c.the_air_counts_nonces.ensures.begins;
  elsewhere = c.the_air_counts_nonces.ensures.elsewhere;
  none = c.the_air_counts_nonces.ensures.none;
  homeward = c.the_air_counts_nonces.ensures.homeward;
  outward = c.the_air_counts_nonces.ensures.outward;
  more = c.the_air_counts_nonces.ensures.more;
  fresh = c.the_air_counts_nonces.ensures.fresh;
}

pub returns-clause-first : goal.returns-clause-first
returns-clause-first c = first_air (counting_of c) c.frames_fly_in_order.ensures.first

pub returns-clause-stays : goal.returns-clause-stays
returns-clause-stays c = air_stays (counting_of c)

pub returns-clause-goes : goal.returns-clause-goes
returns-clause-goes c past later_past node before later log flights frames departure held within on_air grows means puts =
    frame_goes (counting_of c) past later_past node before later log flights frames departure held (c.frames_fly_in_order.ensures.goes log flights frames departure within on_air.fly) on_air grows means puts

pub returns-clause-lands : goal.returns-clause-lands
returns-clause-lands c past node before log frame later frames on_air = frame_lands past node before log frame later frames (c.frames_fly_in_order.ensures.lands log frame later frames on_air.fly) on_air

pub returns-clause-repeated : goal.returns-clause-repeated
returns-clause-repeated c = frame_was_there (counting_of c) c.frames_fly_in_order.ensures.kept

pub returns-clause-begins : goal.returns-clause-begins
returns-clause-begins c = session_begins (counting_of c)

pub returns-clause-elsewhere : goal.returns-clause-elsewhere
returns-clause-elsewhere c = another_begins (counting_of c)
