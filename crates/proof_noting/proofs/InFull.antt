-- The law by what is known of the course at the end of a run, in the middle of a line and where it rests. That course begins with offers, of which the law knows nothing.
use Rattle.std.proofs.Common.{◌≡◌, ℕ, Bool, true, false, List, ◌++◌, refl, sym, ap, ◌∙◌, subst, append-nil}
use Rattle.std.specs.List.{AllByRecursion}
use Rattle.zw_base.proofs.Each.{all-left, all-right}
use Rattle.zw_text.specs.declared.entry.Entry.{Entry}
use Rattle.host_heard.specs.declared.told.Told.{Told}
use Rattle.law_transcript.specs.Units.{Carried}
use Rattle.proof_hearing.specs.proof_queue.proof_attempts.proof_requests.law_host.Course.{Choices, Course, Offer, course_from}
use Rattle.proof_hearing.specs.proof_queue.proof_attempts.proof_requests.law_host.Following.{course_after, ended_whole}
use Rattle.proof_hearing.specs.proof_queue.proof_attempts.proof_requests.law_host.Heard.{heeds_alone}
use Rattle.proof_hearing.specs.proof_queue.proof_attempts.proof_requests.law_host.HostLegal.{IsHeeded, gone_through}
use Rattle.proof_hearing.specs.proof_queue.proof_attempts.proof_requests.law_host.Nonces.{IsOffer, UsesNonces}
use Rattle.proof_hearing.specs.proof_queue.proof_attempts.proof_requests.law_host.Notes.{Start, course_of}
use Rattle.proof_hearing.specs.proof_queue.proof_attempts.proof_requests.proof_alone.State.{HostMachine}
use Rattle.proof_hearing.specs.proof_queue.proof_attempts.proof_requests.proof_alone.Phases.{Phase, Resting}
use Rattle.proof_noting.specs.Following.{Outset, course_since, outset_of}
use Rattle.proof_noting.specs.Noting.{KnowsCourse}
use Rattle.proof_noting.specs.Parts.{Parts}
use Rattle.proof_noting.specs.Steps.{Fitting, FittingWhole, NotesInFull, first_of}
use Rattle.proof_noting.specs.Sure.{SureRun}
use Rattle.proof_noting.proofs.Choosing.{cancel}
use Rattle.proof_noting.proofs.InFront.{in_front, offers_stay, offers_stay_whole}
use Rattle.proof_noting.proofs.Whole.{fits}

-- the law, and that the offers are of their numbers
pub record Noted (key : List ℕ) (taken : List Entry → Carried → List Told) (from : Start) (offered : List Offer) (whole : Bool) (heard : List Entry) : Type 0 where
  pub in_full : NotesInFull key taken from whole heard
  pub offers : AllByRecursion (IsOffer in_full.notes.drawn) offered

module _ (key : List ℕ) (taken : List Entry → Carried → List Told) (from : Start) (offered : List Offer) where
  abbrev since : Outset
  since = outset_of from offered

  -- but for its offers it is the course of the law
  course_is : (heard : List Entry) (choices : Choices) → course_since (heeds_alone taken) since heard choices ≡ in_front offered (course_of (heeds_alone taken) from heard choices)
  course_is heard choices =
      ap (λ (l : List Offer). course_after (heeds_alone taken) from.before heard (record (course_from from.books choices) { offered = l })) (sym (append-nil offered))
      ∙ offers_stay offered (heeds_alone taken) from.before heard (course_from from.books choices)

  module _ (heard : List Entry) (choices : Choices) (drawn : ℕ → ℕ → List ℕ) (uses : UsesNonces key drawn (course_since (heeds_alone taken) since heard choices)) where
    abbrev course : Course
    course = course_of (heeds_alone taken) from heard choices

    all_used : UsesNonces key drawn (in_front offered course)
    all_used = subst (UsesNonces key drawn) (course_is heard choices) uses

    used : UsesNonces key drawn course
    used = record { seven = all_used.seven; offered = all-right (IsOffer drawn) offered course.offered all_used.offered; opened = all_used.opened; sealed = all_used.sealed }

    were : AllByRecursion (IsOffer drawn) offered
    were = all-left (IsOffer drawn) offered course.offered all_used.offered

  in_the_end : (heard : List Entry) (choices : Choices) → (ended_whole (heeds_alone taken) (from.before ++ heard) (course_since (heeds_alone taken) since heard choices)).fits ≡ true
      → (ended_whole (heeds_alone taken) (from.before ++ heard) (course_of (heeds_alone taken) from heard choices)).fits ≡ true
  in_the_end heard choices is =
      let whole : List Entry = from.before ++ heard in
      sym (ap (λ (c : Course). (ended_whole (heeds_alone taken) whole c).fits) (course_is heard choices)
      ∙ ap (λ (c : Course). c.fits) (offers_stay_whole offered (heeds_alone taken) whole (course_of (heeds_alone taken) from heard choices)))
      ∙ is

  module _ (parts : Parts key taken since) (here : Phase) (told heard : List Entry) (m : HostMachine) (split : told ≡ from.before ++ heard) (sure : SureRun taken (first_of key) here told m)
      (know : KnowsCourse key taken since (first_of key) here told m) where
    -- what was heard is what the course is of
    heard_is : (other : List Entry) → told ≡ from.before ++ other → other ≡ heard
    heard_is other is = cancel from.before other heard (sym is ∙ split)

    by_part : Noted key taken from offered false heard
    by_part =
        let so : Fitting key taken since told = fits key taken since parts here told m sure know in
        let same = course_is so.heard so.choices in
        subst (λ (l : List Entry). Noted key taken from offered false l) (heard_is so.heard so.split)
        (record {
          in_full = record {
            notes = record {
              choices = so.choices;
              drawn = so.drawn;
              fits = subst (λ (c : Course). c.fits ≡ true) same so.fits;
              in_the_end = λ (bad : false ≡ true). absurd (cc);
              nonces = used so.heard so.choices so.drawn so.nonces;
            };
            heeded = subst (λ (c : Course). AllByRecursion (IsHeeded taken) (gone_through false c.heeded)) same so.heeded;
          };
          offers = were so.heard so.choices so.drawn so.nonces;
        })

    by_rest : here ≡ Resting → m.left ≡ 0 → Noted key taken from offered true heard
    by_rest rests left =
        let so : FittingWhole key taken since told =
        parts.whole told m (subst (λ (p : Phase). SureRun taken (first_of key) p told m) rests sure) left (subst (λ (p : Phase). KnowsCourse key taken since (first_of key) p told m) rests know) in
        let same = course_is so.heard so.choices in
        subst (λ (l : List Entry). Noted key taken from offered true l) (heard_is so.heard so.split)
        (record {
          in_full = record {
            notes = record {
              choices = so.choices;
              drawn = so.drawn;
              fits = subst (λ (c : Course). c.fits ≡ true) same so.fits;
              in_the_end = λ whole.
                  in_the_end so.heard so.choices
                  (subst (λ (l : List Entry). (ended_whole (heeds_alone taken) l (course_since (heeds_alone taken) since so.heard so.choices)).fits ≡ true) so.split so.in_the_end);
              nonces = used so.heard so.choices so.drawn so.nonces;
            };
            heeded = subst (λ (c : Course). AllByRecursion (IsHeeded taken) c.heeded) same so.heeded;
          };
          offers = were so.heard so.choices so.drawn so.nonces;
        })

    pub in_full : (whole : Bool) → (whole ≡ true → (here ≡ Resting) × (m.left ≡ 0)) → Noted key taken from offered whole heard
    in_full true at = let there = at refl in by_rest there.0 there.1
    in_full false at = by_part
