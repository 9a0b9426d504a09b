-- With the one event that is left behind an item the course follows the host, as it was made to; and before it the course fits.
use Rattle.std.specs.List.{AllByRecursion}
use Rattle.std.proofs.Common.{◌≡◌, ℕ, List, [], ◌∷◌, ◌++◌, sym, ap, ◌∙◌, subst}
use Rattle.zw_text.specs.declared.entry.Entry.{Entry}
use Rattle.host_heard.specs.declared.told.Told.{Told}
use Rattle.law_transcript.specs.Units.{Carried}
use Rattle.law_time.specs.Heeds.{Heeds}
use Rattle.host_model.specs.Events.{HostEvent}
use Rattle.host_model.specs.Outs.{noted}
use Rattle.host_model.specs.declared.out.HostOut.{HostOut}
use Rattle.proof_hearing.specs.Hearing.{choosing}
use Rattle.proof_hearing.specs.proof_queue.proof_attempts.proof_requests.law_host.Course.{Heeding}
use Rattle.proof_hearing.specs.proof_queue.proof_attempts.proof_requests.law_host.Heard.{heeds_alone}
use Rattle.proof_hearing.specs.proof_queue.proof_attempts.proof_requests.law_host.HostLegal.{IsHeeded}
use Rattle.proof_hearing.specs.proof_queue.proof_attempts.proof_requests.proof_alone.State.{HostMachine, done}
use Rattle.proof_hearing.specs.proof_queue.proof_attempts.proof_requests.proof_alone.Steps.{AreTold, Does}
use Rattle.proof_hearing.specs.proof_queue.proof_attempts.proof_requests.proof_alone.Phases.{Behind, May, Phase}
use Rattle.proof_noting.specs.Following.{Outset}
use Rattle.proof_noting.specs.Behind.{AtOpen, BehindSo, OneLeft}
use Rattle.proof_noting.specs.Behind.BehindSo.{None_left}
use Rattle.proof_noting.specs.Noting.{KnowsCourse}
use Rattle.proof_noting.specs.Steps.{Fitting, first_of}
use Rattle.proof_noting.proofs.Choosing.{course_goes}
use Rattle.proof_noting.proofs.Fitted.{Uses, before_last, fits_by, uses_of, uses_same}
use Rattle.proof_noting.proofs.Marks.{notes_unrefused}

-- notes are entered as they are
told_is : (l told : List Entry) → AreTold (noted l) told → told ≡ l
told_is [] told is = is
told_is (e ∷ l) told (rest, is, more) = is ∙ ap (λ (r : List Entry). e ∷ r) (told_is l rest more)

module _ (key : List ℕ) (taken : List Entry → Carried → List Told) (from : Outset) where
  abbrev heeds : Heeds
  heeds = heeds_alone taken

  module _ (past : List Entry) (m : HostMachine) (one : HostEvent) (left : OneLeft key taken from past m one) where
    opens : AtOpen key taken from (past ++ left.told) (done m one)
    opens = record {
      course = left.next;
      of = course_goes heeds from past left.told left.course left.next (notes_unrefused left.told left.notes) left.of left.goes;
      follows = left.follows;
      answered = left.answered;
    }

    pub event_follows : (next : Phase) (told : List Entry) → May (Behind (one ∷ [])) m (Does one told) next → KnowsCourse key taken from (first_of key) next (past ++ told) (done m one)
    event_follows next told may =
        subst (λ (p : Phase). KnowsCourse key taken from (first_of key) p (past ++ told) (done m one)) (sym may.0.1)
        (subst (λ (l : List Entry). BehindSo key taken from (first_of key) (past ++ l) (done m one) []) (sym (told_is left.told told (subst (λ (l : List HostOut). AreTold l told) left.outs_are may.2)))
        (None_left opens))

    uses : Uses key taken from (past ++ left.told) (done m one) left.next
    uses = uses_of key taken from (past ++ left.told) (done m one) left.next left.follows

    pub one_fits : Fitting key taken from past
    one_fits =
        fits_by key taken from past left.of.heard left.of.split (record { keepings = left.of.kept ++ []; texts = left.of.opened ++ [] }) (choosing [] [] left.course) (left.of.is [] []) left.fits
        (before_last (IsHeeded taken) left.course.heeded (subst (λ (l : List Heeding). AllByRecursion (IsHeeded taken) l) left.same.3 left.follows.heeded)) uses.drawn
        (uses_same key uses.drawn (choosing [] [] left.course) left.next left.same.0 left.same.1 left.same.2 uses.nonces)
