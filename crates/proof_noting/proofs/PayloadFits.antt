-- In the middle of a payload the course fits, where no further record of it is kept; and by those before it it has gone by its messages.
use Rattle.std.proofs.Common.{◌≡◌, ℕ, true, false, List, [], ◌∷◌, ◌++◌, sym, ap, ◌∙◌, subst, append_assoc}
use Rattle.std.specs.List.{AllByRecursion}
use Rattle.zw_text.specs.declared.entry.Entry.{Entry}
use Rattle.host_heard.specs.declared.told.Told.{Told}
use Rattle.host_model.specs.Events.{HostEvent}
use Rattle.law_transcript.specs.Units.{Carried}
use Rattle.law_time.specs.Heeds.{Heeds}
use Rattle.proof_hearing.specs.Hearing.{choosing, finishes, hearing_at}
use Rattle.proof_hearing.specs.proof_queue.proof_attempts.proof_requests.law_host.Course.{Choices, Course, Heeding, with_heeded}
use Rattle.proof_hearing.specs.proof_queue.proof_attempts.proof_requests.law_host.Following.{course_after}
use Rattle.proof_hearing.specs.proof_queue.proof_attempts.proof_requests.law_host.Heard.{heeds_alone}
use Rattle.proof_hearing.specs.proof_queue.proof_attempts.proof_requests.law_host.HostLegal.{IsHeeded, gone_through}
use Rattle.proof_hearing.specs.proof_queue.proof_attempts.proof_requests.law_host.Messages.{Hearing}
use Rattle.proof_hearing.specs.proof_queue.proof_attempts.proof_requests.law_host.Nonces.{UsesNonces}
use Rattle.proof_hearing.specs.proof_queue.proof_attempts.proof_requests.proof_alone.State.{HostMachine}
use Rattle.proof_hearing.proofs.Beginning.{uses_nonces}
use Rattle.proof_hearing.proofs.Grows.{Adds, finishes_adds}
use Rattle.proof_hearing.specs.proof_choice.proof_following.Quiet.{acknowledges}
use Rattle.proof_hearing.proofs.Entering.{marks_after, notes_after}
use Rattle.proof_noting.specs.Following.{Outset, course_since}
use Rattle.proof_noting.specs.Behind.{InPayload}
use Rattle.proof_noting.specs.Steps.{Fitting, first_of}
use Rattle.proof_noting.proofs.Choosing.{course_on, split_on}
use Rattle.proof_noting.proofs.Fitted.{fits_by, last_left, uses_same}
use Rattle.proof_noting.proofs.Unopened.{denied_opens}
use Rattle.proof_noting.proofs.Marks.{are_marks, marks_unrefused, notes_unrefused}

module _ (key : List ℕ) (taken : List Entry → Carried → List Told) (from : Outset) where
  abbrev heeds : Heeds
  heeds = heeds_alone taken

  abbrev Middle : List Entry → HostMachine → List HostEvent → Type 0
  Middle past m left = InPayload key taken from (first_of key) past m left

  module _ (past : List Entry) (m : HostMachine) (left : List HostEvent) (it : Middle past m left) where
    abbrev upto : List Entry
    upto = it.before ++ acknowledges ∷ []

    abbrev hearing : Hearing
    hearing = hearing_at taken it.before upto it.node it.payload

    abbrev carried : Carried
    carried = record { node = it.node; payload = it.payload }

    -- where no further record is kept
    abbrev rest : Course
    rest = finishes hearing it.remaining (choosing (false ∷ []) [] it.course)

    abbrev ended : Course
    ended = with_heeded upto carried rest

    abbrev chosen : Choices
    chosen = record { keepings = it.kept ++ (it.since_kept ++ false ∷ []); texts = it.opened ++ (it.since_opened ++ []) }

    adds : Adds (choosing (false ∷ []) [] it.course) rest
    adds = finishes_adds hearing it.remaining (choosing (false ∷ []) [] it.course)

    acked_so : course_since heeds from it.heard chosen ≡ ended
    acked_so = it.begins (it.since_kept ++ false ∷ []) (it.since_opened ++ []) ∙ ap (λ (c : Course). with_heeded upto carried c) (it.leads (false ∷ []) [])

    fits : ended.fits ≡ true
    fits = ap (λ (c : Course). c.fits) adds.other ∙ it.so.fits

    at_is : (upto ++ it.marks) ++ it.course.due ≡ past
    at_is = ap (λ (l : List Entry). l ++ it.course.due) (append_assoc it.before (acknowledges ∷ []) it.marks) ∙ sym it.past_is

    marks_split : upto ++ it.marks ≡ from.before ++ (it.heard ++ it.marks)
    marks_split = split_on heeds from upto it.heard it.marks it.split

    course_so : course_since heeds from ((it.heard ++ it.marks) ++ it.course.due) chosen ≡ record ended { due = adds.some }
    course_so =
        course_on heeds from (upto ++ it.marks) (it.heard ++ it.marks) it.course.due chosen marks_split (notes_unrefused it.course.due it.notes)
        ∙ ap (λ (c : Course). course_after heeds (upto ++ it.marks) it.course.due c)
        (course_on heeds from upto it.heard it.marks chosen it.split (marks_unrefused it.marks it.marked)
        ∙ ap (λ (c : Course). course_after heeds upto it.marks c) acked_so
        ∙ marks_after heeds upto it.marks ended (are_marks it.marks it.marked))
        ∙ notes_after heeds (upto ++ it.marks) it.course.due adds.some ended it.notes fits adds.due

    uses : UsesNonces key it.so.books.drawn it.course
    uses = uses_nonces key heeds (upto ++ it.course.due) m.state it.course it.so.books

    uses_then : UsesNonces key it.so.books.drawn (record ended { due = adds.some })
    uses_then =
        uses_same key it.so.books.drawn (record ended { due = adds.some }) it.course (sym (ap (λ (c : Course). c.offered) adds.other)) (sym (denied_opens hearing it.remaining it.course))
        (sym (ap (λ (c : Course). c.sealed) adds.other)) uses

    -- of the payload that it is in nothing is said
    heeded_before : AllByRecursion (IsHeeded taken) (gone_through false ended.heeded)
    heeded_before =
        subst (λ (l : List Heeding). AllByRecursion (IsHeeded taken) l)
        (sym (last_left rest.heeded (record { past = upto; carried = carried; messages = rest.taken }) ∙ ap (λ (c : Course). c.heeded) adds.other ∙ ap (λ (c : Course). c.heeded) it.other)) it.heeded

    pub payload_fits : Fitting key taken from past
    payload_fits =
        fits_by key taken from past ((it.heard ++ it.marks) ++ it.course.due) (sym at_is ∙ split_on heeds from (upto ++ it.marks) (it.heard ++ it.marks) it.course.due marks_split) chosen
        (record ended { due = adds.some }) course_so fits heeded_before it.so.books.drawn uses_then
