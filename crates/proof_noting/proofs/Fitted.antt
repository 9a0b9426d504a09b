-- Where the course follows the host it fits: all entries may stand, nonces are used as they should, and it has gone by its messages.
use Rattle.std.proofs.Common.{◌≡◌, ◌⊎◌, ℕ, ◌+◌, ◌-◌, true, false, length, List, [], ◌∷◌, ◌++◌, inl, inr, refl, sym, ap, ◌∙◌, subst, arith}
use Rattle.std.specs.Prelude.{drop, take}
use Rattle.std.specs.List.{AllByRecursion}
use Rattle.std.proofs.Math.Seq.{take-append_seam}
use Rattle.std.proofs.lemmas.List.{length-append, take-append-drop}
use Rattle.zw_base.proofs.Each.{all-left}
use Rattle.zw_text.specs.declared.entry.Entry.{Entry}
use Rattle.host_heard.specs.declared.told.Told.{Told}
use Rattle.law_transcript.specs.Units.{Carried}
use Rattle.law_time.specs.Heeds.{Heeds}
use Rattle.proof_hearing.specs.Hearing.{choosing}
use Rattle.proof_hearing.proofs.Beginning.{uses_nonces}
use Rattle.proof_hearing.specs.proof_queue.proof_attempts.proof_requests.law_host.Course.{Choices, Course, Heeding, Offer, Opening, Seal}
use Rattle.proof_hearing.specs.proof_queue.proof_attempts.proof_requests.law_host.Heard.{heeds_alone}
use Rattle.proof_hearing.specs.proof_queue.proof_attempts.proof_requests.law_host.HostLegal.{IsHeeded, gone_through}
use Rattle.proof_hearing.specs.proof_queue.proof_attempts.proof_requests.law_host.Nonces.{IsOffer, IsOpening, IsSeal, UsesNonces}
use Rattle.proof_hearing.specs.proof_queue.proof_attempts.proof_requests.proof_alone.State.{HostMachine}
use Rattle.proof_hearing.specs.proof_choice.proof_following.Quiet.{ended_silently}
use Rattle.proof_noting.specs.Following.{CourseOf, Follows, Lags, Level, Outset, course_since, timed}
use Rattle.proof_noting.specs.Steps.{Fitting}
use Rattle.proof_noting.proofs.Choosing.{silently_is}

-- ---- messages

-- what holds by all payloads holds by all but the last
pub before_last : (P : Heeding → Type 0) (all : List Heeding) → AllByRecursion P all → AllByRecursion P (gone_through false all)
before_last P all so =
    all-left P (take (length all - 1) all) (drop (length all - 1) all) (subst (λ (l : List Heeding). AllByRecursion P l) (sym (take-append-drop (length all - 1) all)) so)

-- which are those before it
pub last_left : (before : List Heeding) (last : Heeding) → gone_through false (before ++ last ∷ []) ≡ before
last_left before last = ap (λ (k : ℕ). take k (before ++ last ∷ [])) less ∙ take-append_seam before (last ∷ [])
  where
    less : length (before ++ last ∷ []) - 1 ≡ length before
    less = let all : length (before ++ last ∷ []) ≡ length before + 1 = length-append before (last ∷ []) in omega (arith, all)

-- ---- nonces

-- they are used so where the same was offered, opened and sealed
pub uses_same : (key : List ℕ) (drawn : ℕ → ℕ → List ℕ) (course next : Course) → next.offered ≡ course.offered → next.opened ≡ course.opened → next.sealed ≡ course.sealed → UsesNonces key drawn next
    → UsesNonces key drawn course
uses_same key drawn course next offered opened sealed is = record {
  seven = is.seven;
  offered = subst (λ (l : List Offer). AllByRecursion (IsOffer drawn) l) offered is.offered;
  opened = subst (λ (l : List Opening). AllByRecursion (IsOpening key drawn) l) opened is.opened;
  sealed = subst (λ (l : List Seal). AllByRecursion (IsSeal key) l) sealed is.sealed;
}

-- ---- the course

-- it fits where the course of what was heard does
pub fits_by : (key : List ℕ) (taken : List Entry → Carried → List Told) (from : Outset) (past heard : List Entry) → past ≡ from.before ++ heard → (choices : Choices) (course : Course)
    → course_since (heeds_alone taken) from heard choices ≡ course → course.fits ≡ true → AllByRecursion (IsHeeded taken) (gone_through false course.heeded) → (drawn : ℕ → ℕ → List ℕ)
    → UsesNonces key drawn course → Fitting key taken from past
fits_by key taken from past heard split choices course is fits heeded drawn uses = record {
  heard = heard;
  split = split;
  choices = choices;
  drawn = drawn;
  fits = ap (λ (c : Course). c.fits) is ∙ fits;
  nonces = subst (λ (c : Course). UsesNonces key drawn c) (sym is) uses;
  heeded = subst (λ (c : Course). AllByRecursion (IsHeeded taken) (gone_through false c.heeded)) (sym is) heeded;
}

module _ (key : List ℕ) (taken : List Entry → Carried → List Told) (from : Outset) (past : List Entry) (m : HostMachine) (course : Course) where
  abbrev heeds : Heeds
  heeds = heeds_alone taken

  -- what was offered, opened and sealed is as the law asks
  pub record Uses : Type 0 where
    pub drawn : ℕ → ℕ → List ℕ
    pub nonces : UsesNonces key drawn course

  level_uses : Level key heeds past m course → Uses
  level_uses level = record { drawn = level.books.drawn; nonces = uses_nonces key heeds (timed m past) m.state course level.books }

  lags_uses : Lags key heeds past m course → Uses
  lags_uses lags =
      let is = silently_is past course in
      record {
        drawn = lags.books.drawn;
        nonces = uses_same key lags.books.drawn course (ended_silently past course) (ap (λ (c : Course). c.offered) is) (ap (λ (c : Course). c.opened) is) (ap (λ (c : Course). c.sealed) is)
            (uses_nonces key heeds (timed m past) m.state (ended_silently past course) lags.books);
      }

  either_uses : Level key heeds past m course ⊎ Lags key heeds past m course → Uses
  either_uses (inl level) = level_uses level
  either_uses (inr lags) = lags_uses lags

  pub uses_of : Follows key taken past m course → Uses
  uses_of follows = either_uses follows.so

  pub follows_fit : CourseOf heeds from past course → Follows key taken past m course → Fitting key taken from past
  follows_fit of follows =
      let uses : Uses = uses_of follows in
      fits_by key taken from past of.heard of.split (record { keepings = of.kept ++ []; texts = of.opened ++ [] }) (choosing [] [] course) (of.is [] []) follows.fits
      (before_last (IsHeeded taken) course.heeded follows.heeded) uses.drawn (uses_same key uses.drawn (choosing [] [] course) course refl refl refl uses.nonces)
