-- How many more frames for the host the transcript tells than the chip was given; and the count goes on with what comes to the chip.
use Rattle.std.proofs.Common.{◌≡◌, ◌≤◌, ◌<◌, ℕ, zero, suc, ◌+◌, Bool, true, false, List, [], ◌∷◌, length, refl, sym, ◌∙◌, subst, arith}
use Rattle.std.specs.List.{AllByRecursion}
use Rattle.zw_text.specs.declared.entry.Entry.{Entry}
use Rattle.law_wire.specs.Asked.{Asked, Course, clock_of, last_sending}
use Rattle.law_wire.specs.Results.{settled_clock}
use Rattle.law_wire.specs.Given.{given}
use Rattle.outside_model.specs.Devices.{State}
use Rattle.proof_chip.specs.Tally.{AreEnough, AreNumbered, AreOwn, Outlook, TallyBefore, TallyNow, Timed, owed, total}
use Rattle.proof_chip.proofs.Reckoning.{none_within, settled_left, settled_now}

module _ (devices : List State) (course : Course) (past : List Entry) where
  -- ---- what comes to the chip

  none_unsettled : (clock : ℕ) (all : List Asked) → settled_clock past + 1 ≡ clock → AllByRecursion (λ (one : Asked). (settled_clock past ≤ clock_of one.past) × (clock_of one.past + 1 < clock)) all
      → total course past all ≡ 0
  none_unsettled clock [] at all = refl
  none_unsettled clock (one ∷ more) at all = absurd (let from = all.0.0 in let under = all.0.1 in omega (arith, at, from, under))

  none_last : (clock : ℕ) (all : List Asked) → settled_clock past ≡ clock → AllByRecursion (λ (one : Asked). (settled_clock past ≤ clock_of one.past) × (clock_of one.past + 1 ≡ clock)) all
      → total course past all ≡ 0
  none_last clock [] at all = refl
  none_last clock (one ∷ more) at all = absurd (let from = all.0.0 in let under = all.0.1 in omega (arith, at, from, under))

  none_silent : (clock : ℕ) (all : List Asked) → settled_clock past ≡ clock → AllByRecursion (λ (one : Asked). (settled_clock past ≤ clock_of one.past) × (clock_of one.past + 1 < clock)) all
      → total course past all ≡ 0
  none_silent clock [] at all = refl
  none_silent clock (one ∷ more) at all = absurd (let from = all.0.0 in let under = all.0.1 in omega (arith, at, from, under))

  -- the transcript has just so many more than the chip
  pub now_above : (v : Outlook) (coming count : ℕ) → TallyNow devices v false coming count course past → length (given devices course past) ≡ count + coming
  now_above v coming count was =
      let at = settled_now v.clock past was.timed in
      let none = none_within course past (settled_clock past) v.clock (omega (arith, at)) was.silent was.unsettled in
      let many = was.many in
      omega (arith, many, none)

  pub before_above : (v : Outlook) (left coming count : ℕ) → TallyBefore devices v true left false coming count course past → count + coming ≤ length (given devices course past)
  before_above v zero coming count was =
      let at = settled_now v.clock past was.timed in
      let silent = none_silent v.clock was.silent at was.unsettled in
      let last = none_last v.clock was.last at was.new in
      let many = was.many in
      omega (arith, many, silent, last)
  before_above v (suc left) coming count was =
      let at = settled_left v.clock left past was.timed in
      let begun = was.begun in
      let silent = none_unsettled v.clock was.silent (omega (arith, at, begun)) was.unsettled in
      let enough = was.enough (omega (arith, at, begun)) in
      let many = was.many in
      omega (arith, many, silent, enough)

  pub give_above : (v : Outlook) (arriving : Bool) (count : ℕ) → TallyBefore devices v arriving 0 false 0 count course past → length (given devices course past) ≡ count + owed v
  give_above v arriving count was =
      let at = settled_now v.clock past was.timed in
      let silent = none_silent v.clock was.silent at was.unsettled in
      let last = none_last v.clock was.last at was.new in
      let many = was.many in
      omega (arith, many, silent, last)

  -- and when it has come
  pub now_count : (v : Outlook) (awaits : Bool) (coming count left more : ℕ) → more + left ≡ count + coming → TallyNow devices v awaits coming count course past → TallyNow devices v awaits left more course past
  now_count v awaits coming count left more same was = record {
    waits = was.waits;
    numbered = was.numbered;
    own = was.own;
    timed = was.timed;
    old = was.old;
    silent = was.silent;
    here = was.here;
    are = was.are;
    settled = was.settled;
    unsettled = was.unsettled;
    new = was.new;
    informs = was.informs;
    owes = was.owes;
    many = was.many ∙ sym same;
  }

  -- what is outside has changed, and of what is owed so much was given
  pub before_next : (v later : Outlook) (arriving now awaits : Bool) (left coming count still more : ℕ) → later.clock ≡ v.clock → (owed later + still) + more ≡ (owed v + coming) + count
      → ((all : ℕ) → AreEnough arriving all (owed v) → AreEnough now all (owed later)) → AreNumbered later.sending later.by_frame later.numbers (last_sending course past)
      → ((all : List Entry) → AreOwn all v.numbers → AreOwn all later.numbers) → TallyBefore devices v arriving left awaits coming count course past
      → TallyBefore devices later now left awaits still more course past
  before_next v later arriving now awaits left coming count still more clock owes enough numbered own was = record {
    waits = was.waits;
    numbered = numbered;
    own = own past was.own;
    timed = subst (λ (n : ℕ). Timed n left awaits past) (sym clock) was.timed;
    begun = subst (λ (n : ℕ). 0 < n) (sym clock) was.begun;
    old = was.old;
    silent = was.silent;
    last = was.last;
    are = was.are;
    settled = was.settled;
    unsettled = subst (λ (n : ℕ). AllByRecursion (λ (one : Asked). (settled_clock past ≤ clock_of one.past) × (clock_of one.past + 1 < n)) was.silent) (sym clock) was.unsettled;
    new = subst (λ (n : ℕ). AllByRecursion (λ (one : Asked). (settled_clock past ≤ clock_of one.past) × (clock_of one.past + 1 ≡ n)) was.last) (sym clock) was.new;
    enough = λ below. enough (total course past was.last) (was.enough (subst (λ (n : ℕ). settled_clock past < n) clock below));
    many = let many = was.many in omega (arith, many, owes);
  }
