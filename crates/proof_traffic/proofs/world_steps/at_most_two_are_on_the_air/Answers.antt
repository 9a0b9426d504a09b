use Rattle.std.proofs.Common.{◌++◌}
use Rattle.proof_device.specs.world_model.State.{first_machine}
use Rattle.proof_traffic.proofs.Flights.{flights_are, room_before}
use Rattle.proof_traffic.proofs.CourseSteps.{few_at}
use Rattle.proof_traffic.proofs.world_steps.at_most_two_are_on_the_air.Goals as goal

pub returns-clause-flights : goal.returns-clause-flights
returns-clause-flights c = flights_are

pub returns-clause-always : goal.returns-clause-always
returns-clause-always c = λ keys records devices lines events nodes are may asks. (c.lines_make_requests.ensures.lines keys records devices lines events nodes are may asks).few

pub returns-clause-moment : goal.returns-clause-moment
returns-clause-moment c = λ keys records devices lines before later nodes are may asks.
    few_at (first_machine keys records devices) before later (c.lines_make_requests.ensures.lines keys records devices lines (before ++ later) nodes are may asks).few

pub returns-clause-room : goal.returns-clause-room
returns-clause-room c = room_before
