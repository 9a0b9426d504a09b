-- Where no event of a payload is left the course follows the host again.
use Rattle.std.proofs.Common.{◌≡◌, ℕ, Bool, true, inr, List, [], ◌∷◌, ◌++◌, Option, refl, sym, ap, ap₂, ◌∙◌, subst, append-nil, append_assoc, arith}
use Rattle.std.specs.List.{AllByRecursion}
use Rattle.zw_base.proofs.Each.{all-append, all-weaker}
use Rattle.zw_text.specs.declared.entry.Entry.{Entry}
use Rattle.host_heard.specs.declared.told.Told.{Told}
use Rattle.host_model.specs.Events.{HostEvent}
use Rattle.law_transcript.specs.Units.{Carried, request_in}
use Rattle.law_time.specs.Heeds.{Heeds}
use Rattle.law_time.specs.Requests.{Asked, asked}
use Rattle.proof_hearing.proofs.proof_requests_Telling.{IsQuiet, mark_quiet, quiet_on}
use Rattle.proof_hearing.specs.Books.{BooksSo}
use Rattle.proof_hearing.specs.Hearing.{choosing, finishes, hearing_at, heeded_rest}
use Rattle.proof_hearing.specs.proof_queue.proof_attempts.proof_requests.law_host.Course.{Course, Heeding, with_heeded}
use Rattle.proof_hearing.specs.proof_queue.proof_attempts.proof_requests.law_host.Following.{is_note}
use Rattle.proof_hearing.specs.proof_queue.proof_attempts.proof_requests.law_host.Heard.{heeds_alone}
use Rattle.proof_hearing.specs.proof_queue.proof_attempts.proof_requests.law_host.HostLegal.{IsHeeded}
use Rattle.proof_hearing.specs.proof_queue.proof_attempts.proof_requests.law_host.Messages.{Hearing}
use Rattle.proof_hearing.specs.proof_queue.proof_attempts.proof_requests.proof_alone.State.{HostMachine}
use Rattle.proof_hearing.specs.proof_queue.proof_attempts.proof_requests.proof_alone.Steps.{IsOfUnit}
use Rattle.proof_hearing.specs.proof_queue.proof_attempts.proof_requests.proof_alone.Phases.{Behind}
use Rattle.proof_hearing.proofs.OnePayload.{hears_over}
use Rattle.proof_hearing.specs.proof_choice.proof_following.Quiet.{acknowledges}
use Rattle.proof_noting.specs.Behind.{AtOpen, InPayload}
use Rattle.proof_noting.specs.Following.{CourseOf, Outset, course_since}
use Rattle.proof_noting.specs.Ground.{GroundAlong}
use Rattle.proof_noting.specs.Steps.{first_of}
use Rattle.proof_noting.specs.Sure.{SureRun}
use Rattle.proof_noting.proofs.Choosing.{course_goes, notes_goes}
use Rattle.proof_noting.proofs.Followed.{follows_by, over_on}
use Rattle.proof_noting.proofs.Marks.{marks_unrefused, note_quiet, notes_unrefused, units_go}
use Rattle.proof_noting.proofs.PayloadMiddle.{PointsAlong, marked_books, point}

module _ (key : List ℕ) (taken : List Entry → Carried → List Told) (from : Outset) where
  abbrev heeds : Heeds
  heeds = heeds_alone taken

  abbrev Middle : List Entry → HostMachine → List HostEvent → Type 0
  Middle past m left = InPayload key taken from (first_of key) past m left

  module _ (ground : GroundAlong taken (first_of key)) (points : PointsAlong key taken) (past : List Entry) (m : HostMachine) (sure : SureRun taken (first_of key) (Behind []) past m) (it : Middle past m []) where
    abbrev upto : List Entry
    upto = it.before ++ acknowledges ∷ []

    abbrev here : List Entry
    here = upto ++ it.course.due

    abbrev hearing : Hearing
    hearing = hearing_at taken it.before upto it.node it.payload

    abbrev carried : Carried
    carried = record { node = it.node; payload = it.payload }

    over_so : ((keepings : List Bool) (later : List (Option (List ℕ))) → finishes hearing it.remaining (choosing keepings later it.course) ≡ choosing keepings later it.course)
        × (heeded_rest m.state hearing it.remaining [] it.remains ≡ [])
    over_so = hears_over key taken it.before upto it.node it.payload it.is_node here m.state it.course (point key taken from ground points past m [] sure it) it.so it.remaining it.remains

    abbrev whole : Course
    whole = with_heeded upto carried it.course

    abbrev stood : Course
    stood = record whole { due = [] }

    acked : CourseOf heeds from upto whole
    acked = record {
      heard = it.heard;
      split = it.split;
      kept = it.kept ++ it.since_kept;
      opened = it.opened ++ it.since_opened;
      is = λ keepings texts.
          ap₂ (λ (x : List Bool) (y : List (Option (List ℕ))). course_since heeds from it.heard (record { keepings = x; texts = y })) (append_assoc it.kept it.since_kept keepings)
          (append_assoc it.opened it.since_opened texts)
          ∙ it.begins (it.since_kept ++ keepings) (it.since_opened ++ texts)
          ∙ ap (λ (c : Course). with_heeded upto carried c) (it.leads keepings texts ∙ over_so.0 keepings texts);
    }

    at : (upto ++ it.marks) ++ it.course.due ≡ past
    at = ap (λ (l : List Entry). l ++ it.course.due) (append_assoc it.before (acknowledges ∷ []) it.marks) ∙ sym it.past_is

    course_so : CourseOf heeds from past stood
    course_so =
        subst (λ (l : List Entry). CourseOf heeds from l stood) at
        (course_goes heeds from (upto ++ it.marks) it.course.due whole stood (notes_unrefused it.course.due it.notes)
        (course_goes heeds from upto it.marks whole whole (marks_unrefused it.marks it.marked) acked (units_go heeds upto it.marks whole it.marked))
        (notes_goes heeds (upto ++ it.marks) it.course.due whole it.notes it.so.fits refl))

    ticked : stood.ticked ≡ m.clock
    ticked = ap (λ (c : Course). c.ticked) it.other ∙ it.ticked

    heeded : AllByRecursion (IsHeeded taken) stood.heeded
    heeded =
        all-append (IsHeeded taken) it.course.heeded (record { past = upto; carried = carried; messages = it.course.taken } ∷ [])
        (subst (λ (l : List Heeding). AllByRecursion (IsHeeded taken) l) (sym (ap (λ (c : Course). c.heeded) it.other)) it.heeded) (sym goes_by, tt)
      where
        goes_by : it.course.taken ≡ taken upto carried
        goes_by = sym (append-nil it.course.taken) ∙ ap (λ (l : List Told). it.course.taken ++ l) (sym over_so.1) ∙ it.goes_by

    books : BooksSo key heeds past m.state it.course
    books = marked_books key taken from ground points past m [] sure it

    -- the last request is that of the acknowledgement
    asked_on : (asked past).frame ≡ (asked upto).frame
    asked_on =
        ap (λ (l : List Entry). (asked l).frame) (sym at ∙ append_assoc upto it.marks it.course.due)
        ∙ ap (λ (a : Asked). a.frame)
        (quiet_on upto (it.marks ++ it.course.due)
        (all-append IsQuiet it.marks it.course.due (all-weaker IsOfUnit IsQuiet mark_quiet it.marks it.marked) (all-weaker (λ (e : Entry). is_note e ≡ true) IsQuiet note_quiet it.course.due it.notes)))

    pub payload_over : AtOpen key taken from past m
    payload_over = record {
      course = stood;
      of = course_so;
      follows = follows_by key taken past m stood it.so.fits refl (let same = ticked in omega (arith, same)) heeded it.numbered
          (over_on upto past m m it.begun stood (ap request_in asked_on) refl (ap (λ (c : Course). c.over) it.other) it.over) books;
      answered = inr (ticked, it.numbered);
    }
