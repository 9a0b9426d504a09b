-- What the host has stays what it is to the courses, where the node alone gives more nonces.
use Rattle.std.proofs.Common.{ℕ, Bool, Option, Some, None, List, length, ap, sym, ◌∙◌, subst}
use Rattle.supervision.specs.Host.{HostBook}
use Rattle.s0_session.specs.Nonces.{account_of}
use Rattle.host_model.specs.State.{HostState, node_of}
use Rattle.proof_messages.specs.Numbers.{HasGiven}
use Rattle.proof_course_sealed.specs.Labels.{Sealed, Up}
use Rattle.proof_course_sealed.specs.Courses.{Courses, HasSeen, SameBooks}
use Rattle.proof_course_sealed.specs.Meaning.{Past, GivesMore}
use Rattle.proof_course_sealed.specs.Device.{with_more}
use Rattle.proof_course_sealed.specs.Host.{AtHost, TextIs}
use Rattle.proof_course_sealed.proofs.CourseSteps.{gives_grow}
use Rattle.proof_course_sealed.proofs.Meanings.{host_means_stays, sealed_message_stays}

-- a text that waits stays of the last session
text_stays : (past : Past) (more : List (List ℕ)) (node : ℕ) (text : Option (List ℕ)) (number : Option ℕ) → TextIs past node text number → TextIs (with_more past more) node text number
text_stays past more node None None is = tt
text_stays past more node (Some payload) (Some number) is = host_means_stays past (with_more past more) node payload (Up (Sealed (length past.commands) number)) (gives_grow past more) is
text_stays past more node None (Some number) is = absurd is
text_stays past more node (Some payload) None is = absurd is

seen_same : (old new : Courses) (seen : ℕ) (pending : Option (List ℕ)) → SameBooks old new → HasSeen old.node.seen old.node.waits seen pending → HasSeen new.node.seen new.node.waits seen pending
seen_same old new seen pending same is = record { count = is.count ∙ sym same.seen; waiting = λ some. same.waits ∙ is.waiting some }

host_more : (past : Past) (more : List (List ℕ)) (node : ℕ) (c later : Courses) (text : Option ℕ) (tasks : List ℕ) (h : HostState) → SameBooks c later → AtHost past node c text tasks h → AtHost (with_more past more) node later text tasks h
host_more past more node c later text tasks h same at = record {
  keys = at.keys;
  book = (at.book.0 ∙ sym (ap (λ (b : HostBook). b.commands) same.host), at.book.1 ∙ sym (ap (λ (b : HostBook). b.outcome) same.host));
  commands = at.commands ∙ sym (ap (λ (b : HostBook). b.commands) same.host);
  orders = at.orders;
  ends = at.ends;
  gave = subst (λ (live : Bool). HasGiven past.shown later.host.given live (account_of h.nonces node)) (sym same.is_live)
      (subst (λ (given : ℕ). HasGiven past.shown given c.host.is_live (account_of h.nonces node)) (sym same.given) at.gave);
  saw = seen_same c later (node_of h node).seen (node_of h node).pending same at.saw;
  pending = λ plain is. sealed_message_stays past (with_more past more) (length past.commands) plain (gives_grow past more) (at.pending plain is);
  texts = text_stays past more node (node_of h node).text text at.texts;
  marks = at.marks;
  queue = at.queue;
  numbers = at.numbers;
}

pub host_same : (past later_past : Past) (node : ℕ) (c later : Courses) (text : Option ℕ) (tasks : List ℕ) (h : HostState) → GivesMore past later_past → SameBooks c later → AtHost past node c text tasks h → AtHost later_past node later text tasks h
host_same past later_past node c later text tasks h gives same at =
    subst (λ (p : Past). AtHost p node later text tasks h) (sym gives.is) (host_more past gives.more node c later text tasks h same at)
