-- Steps of three courses one after another, and what was going on.
use Rattle.std.proofs.Common.{ℕ, List, [], ◌++◌, refl, ap, sym, ◌∙◌, subst, append-nil, append_assoc}
use Rattle.proof_course.specs.Sessions.{Course, Step, after, May, after_all as sessions_after, MayAll as MayAllSessions}
use Rattle.proof_course.specs.SessionFacts.{CourseFacts}
use Rattle.proof_course.specs.NodeNonces as node
use Rattle.proof_course.specs.NodeNonceFacts.{NonceFacts as NodeFacts}
use Rattle.proof_course.specs.HostNonces as host
use Rattle.proof_course.specs.HostNonceFacts.{NonceFacts as HostFacts}
use Rattle.proof_course_plain.proofs.ThinnedWays.{goes_nowhere as sessions_nowhere, goes_on as sessions_on, goes_once as sessions_once}
use Rattle.proof_course_sealed.specs.Courses.{Courses, CoursesGo, CoursesFacts}
use Rattle.proof_course_sealed.specs.Meaning.{Past, GoesOn, Grows, GivesMore}
use Rattle.proof_course_sealed.specs.Device.{with_more}
use Rattle.proof_course_sealed.proofs.ThinnedWays.{node_nowhere, node_on, node_step, host_nowhere, host_on, host_step}

-- ---- steps

pub goes_nowhere : (c : Courses) → CoursesGo c c
goes_nowhere c = record { sessions = sessions_nowhere c.sessions; node = node_nowhere c.node; host = host_nowhere c.host }

pub goes_on : (a b c : Courses) → CoursesGo a b → CoursesGo b c → CoursesGo a c
goes_on a b c first later = record {
  sessions = sessions_on a.sessions b.sessions c.sessions first.sessions later.sessions;
  node = node_on a.node b.node c.node first.node later.node;
  host = host_on a.host b.host c.host first.host later.host;
}

-- one step in each
pub goes_once : (c : Courses) (step : Step) (of_node : node.Step) (of_host : host.Step) → May c.sessions step → node.May c.node of_node → host.May c.host of_host
    → CoursesGo c (record { sessions = after c.sessions step; node = node.after c.node of_node; host = host.after c.host of_host })
goes_once c step of_node of_host may may_node may_host = record { sessions = sessions_once c.sessions step may; node = node_step c.node of_node may_node; host = host_step c.host of_host may_host }

-- the facts of all three are kept
pub record FactLaws : Type 0 where
  pub sessions : (c : Course) (steps : List Step) → CourseFacts c → MayAllSessions c steps → CourseFacts (sessions_after c steps)
  pub node : (c : node.Nonces) (steps : List node.Step) → NodeFacts c → node.MayAll c steps → NodeFacts (node.after_all c steps)
  pub host : (c : host.Nonces) (steps : List host.Step) → HostFacts c → host.MayAll c steps → HostFacts (host.after_all c steps)

pub facts_go : FactLaws → (c later : Courses) → CoursesFacts c → CoursesGo c later → CoursesFacts later
facts_go laws c later facts goes = record {
  sessions = subst (λ (x : Course). CourseFacts x) (sym goes.sessions.is) (laws.sessions c.sessions goes.sessions.steps facts.sessions goes.sessions.may);
  node = subst (λ (x : node.Nonces). NodeFacts x) (sym goes.node.is) (laws.node c.node goes.node.steps facts.node goes.node.may);
  host = subst (λ (x : host.Nonces). HostFacts x) (sym goes.host.is) (laws.host c.host goes.host.steps facts.host goes.host.may);
}

-- ---- what was

pub list_same : {X : Type 0} (l : List X) → GoesOn l l
list_same l = record { more = []; is = sym (append-nil l) }

pub list_then : {X : Type 0} (a b c : List X) → GoesOn a b → GoesOn b c → GoesOn a c
list_then a b c first later = record { more = first.more ++ later.more; is = later.is ∙ (ap (λ l. l ++ later.more) first.is ∙ append_assoc a first.more later.more) }

pub grows_none : (p : Past) → Grows p p
grows_none p = record { keys = refl; orders = list_same p.orders; commands = list_same p.commands; given = list_same p.given; shown = list_same p.shown }

pub grows_then : (p q r : Past) → Grows p q → Grows q r → Grows p r
grows_then p q r first later = record {
  keys = later.keys ∙ first.keys;
  orders = list_then p.orders q.orders r.orders first.orders later.orders;
  commands = list_then p.commands q.commands r.commands first.commands later.commands;
  given = list_then p.given q.given r.given first.given later.given;
  shown = list_then p.shown q.shown r.shown first.shown later.shown;
}

-- the node alone gives nonces
pub gives_none : (past : Past) → GivesMore past past
gives_none past = record { more = []; is = ap (λ (l : List (List ℕ)). record past { given = l }) (sym (append-nil past.given)) }

pub gives_grow : (past : Past) (more : List (List ℕ)) → Grows past (with_more past more)
gives_grow past more =
    record { keys = refl; orders = list_same past.orders; commands = list_same past.commands; given = record { more = more; is = refl }; shown = list_same past.shown }

pub gives_grows : (past later : Past) → GivesMore past later → Grows past later
gives_grows past later gives = subst (Grows past) (sym gives.is) (gives_grow past gives.more)
