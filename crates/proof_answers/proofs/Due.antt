-- Which of what was asked has results that come before a clock and are not told yet, and which was asked in one tick, as the count of the frames for the host has them apart.
use Rattle.std.proofs.Common.{◌≡◌, ◌≤◌, ◌<◌, ℕ, zero, suc, ◌+◌, ◌-◌, Bool, true, false, if◌then◌else◌, List, [], ◌∷◌, ◌++◌, filter, refl, ap, ap₂, ◌∙◌, append-nil, eq-eqb, ne_eqb, arith}
use Rattle.std.proofs.lemmas.List.Elements.{filter-append}
use Rattle.std.specs.List.{AllByRecursion}
use Rattle.zw_base.proofs.Each.{all-weaker}
use Rattle.zw_text.specs.declared.entry.Entry.{Entry}
use Rattle.law_wire.specs.Asked.{Asked, Course, asked, clock_of}
use Rattle.law_wire.specs.Results.{settled_clock}
use Rattle.outside_model.specs.Devices.{State}
use Rattle.proof_chip.specs.Tally.{IsBefore, IsIn, IsWithin, Outlook, TallyBefore, TallyNow, Timed}
use Rattle.proof_chip.proofs.Settling.{all_between, none_above, none_between, settled_all, settled_some}
use Rattle.proof_chip.proofs.Reckoning.{settled_now}
use Rattle.proof_answers.specs.Owing.{asked_in_tick, comes_within, due_before, is_of_tick}

-- ---- of a tick

none_of_tick : (clock : ℕ) (all : List Asked) → AllByRecursion (λ (one : Asked). clock_of one.past ≡ clock → ⊥) all → filter (is_of_tick clock) all ≡ []
none_of_tick clock [] other = refl
none_of_tick clock (one ∷ all) other = ap₂ (λ (b : Bool) (l : List Asked). if b then one ∷ l else l) (ne_eqb (clock_of one.past) clock other.0) (none_of_tick clock all other.1)

all_of_tick : (clock : ℕ) (all : List Asked) → AllByRecursion (λ (one : Asked). clock_of one.past ≡ clock) all → filter (is_of_tick clock) all ≡ all
all_of_tick clock [] same = refl
all_of_tick clock (one ∷ all) same = ap₂ (λ (b : Bool) (l : List Asked). if b then one ∷ l else l) (eq-eqb (clock_of one.past) clock same.0) (all_of_tick clock all same.1)

three : (keeps : Asked → Bool) (one two more : List Asked) → filter keeps (one ++ (two ++ more)) ≡ filter keeps one ++ (filter keeps two ++ filter keeps more)
three keeps one two more = filter-append keeps one (two ++ more) ∙ ap (λ (l : List Asked). filter keeps one ++ l) (filter-append keeps two more)

-- ---- time

-- no results are told of a later tick
settled_by : (clock left : ℕ) (awaits : Bool) (past : List Entry) → Timed clock left awaits past → settled_clock past ≤ clock
settled_by clock left true past timed = let is = settled_all past (timed.landed refl) in let below = timed.was refl in omega (arith, is, below)
settled_by clock zero false past timed = let is = settled_now clock past timed in omega (arith, is)
settled_by clock (suc left) false past timed = let is = settled_some past left (timed.fates refl) in let now = timed.now refl in omega (arith, is, now)

-- ---- where no results are to come

module _ (devices : List State) (v : Outlook) (awaits : Bool) (coming count : ℕ) (course : Course) (past : List Entry) (was : TallyNow devices v awaits coming count course past) where
  abbrev from : ℕ
  from = settled_clock past

  up : from ≤ v.clock
  up = settled_by v.clock 0 awaits past was.timed

  pub now_silent : due_before v.clock course past ≡ was.silent
  now_silent =
      ap (λ (l : List Asked). filter (comes_within from v.clock) l) was.are
      ∙ three (comes_within from v.clock) was.old was.silent was.here
      ∙ ap₂ (λ (a b : List Asked). a ++ b) (none_between from v.clock was.old was.settled)
      (ap₂ (λ (a b : List Asked). a ++ b) (all_between from v.clock was.silent was.unsettled)
      (none_above from v.clock was.here (all-weaker (IsIn v.clock) (λ (one : Asked). v.clock ≤ clock_of one.past) (λ one is. omega (arith, is)) was.here was.new)))
      ∙ append-nil was.silent

  pub now_here : asked_in_tick v.clock course past ≡ was.here
  now_here =
      let above = up in
      ap (λ (l : List Asked). filter (is_of_tick v.clock) l) was.are
      ∙ three (is_of_tick v.clock) was.old was.silent was.here
      ∙ ap₂ (λ (a b : List Asked). a ++ b)
      (none_of_tick v.clock was.old (all-weaker (IsBefore from) (λ (one : Asked). clock_of one.past ≡ v.clock → ⊥) (λ one below is. omega (arith, below, is, above)) was.old was.settled))
      (ap₂ (λ (a b : List Asked). a ++ b)
      (none_of_tick v.clock was.silent (all-weaker (IsWithin from v.clock) (λ (one : Asked). clock_of one.past ≡ v.clock → ⊥) (λ one within is. let below = within.1 in omega (arith, below, is)) was.silent was.unsettled))
      (all_of_tick v.clock was.here was.new))

  -- with those that come before the next tick is over
  pub now_next : due_before (v.clock + 1) course past ≡ was.silent ++ was.here
  now_next =
      let above = up in
      ap (λ (l : List Asked). filter (comes_within from (v.clock + 1)) l) was.are
      ∙ three (comes_within from (v.clock + 1)) was.old was.silent was.here
      ∙ ap₂ (λ (a b : List Asked). a ++ b) (none_between from (v.clock + 1) was.old was.settled)
      (ap₂ (λ (a b : List Asked). a ++ b)
      (all_between from (v.clock + 1) was.silent
      (all-weaker (IsWithin from v.clock) (IsWithin from (v.clock + 1)) (λ one within. (within.0, let below = within.1 in omega (arith, below))) was.silent was.unsettled))
      (all_between from (v.clock + 1) was.here (all-weaker (IsIn v.clock) (IsWithin from (v.clock + 1)) (λ one is. (omega (arith, is, above), omega (arith, is))) was.here was.new)))

-- ---- in a tick, until they have come

module _ (devices : List State) (v : Outlook) (arriving : Bool) (left : ℕ) (awaits : Bool) (coming count : ℕ) (course : Course) (past : List Entry)
    (was : TallyBefore devices v arriving left awaits coming count course past) where
  abbrev since : ℕ
  since = settled_clock past

  abbrev Silent : Asked → Type 0
  Silent one = (since ≤ clock_of one.past) × (clock_of one.past + 1 < v.clock)

  abbrev Last : Asked → Type 0
  Last one = (since ≤ clock_of one.past) × (clock_of one.past + 1 ≡ v.clock)

  pub before_due : due_before v.clock course past ≡ was.silent ++ was.last
  before_due =
      ap (λ (l : List Asked). filter (comes_within since v.clock) l) was.are
      ∙ three (comes_within since v.clock) was.old was.silent was.last
      ∙ ap₂ (λ (a b : List Asked). a ++ b) (none_between since v.clock was.old was.settled)
      (ap₂ (λ (a b : List Asked). a ++ b)
      (all_between since v.clock was.silent (all-weaker Silent (IsWithin since v.clock) (λ one is. (is.0, let below = is.1 in omega (arith, below))) was.silent was.unsettled))
      (all_between since v.clock was.last (all-weaker Last (IsWithin since v.clock) (λ one is. (is.0, let at = is.1 in omega (arith, at))) was.last was.new)))

  -- those of ticks without an entry
  pub before_silent : due_before (v.clock - 1) course past ≡ was.silent
  before_silent =
      ap (λ (l : List Asked). filter (comes_within since (v.clock - 1)) l) was.are
      ∙ three (comes_within since (v.clock - 1)) was.old was.silent was.last
      ∙ ap₂ (λ (a b : List Asked). a ++ b) (none_between since (v.clock - 1) was.old was.settled)
      (ap₂ (λ (a b : List Asked). a ++ b)
      (all_between since (v.clock - 1) was.silent (all-weaker Silent (IsWithin since (v.clock - 1)) (λ one is. (is.0, let below = is.1 in omega (arith, below))) was.silent was.unsettled))
      (none_above since (v.clock - 1) was.last (all-weaker Last (λ (one : Asked). v.clock - 1 ≤ clock_of one.past) (λ one is. let at = is.1 in omega (arith, at)) was.last was.new)))
      ∙ append-nil was.silent

  pub before_last : since < v.clock → asked_in_tick (v.clock - 1) course past ≡ was.last
  before_last is_open =
      let begun = was.begun in
      ap (λ (l : List Asked). filter (is_of_tick (v.clock - 1)) l) was.are
      ∙ three (is_of_tick (v.clock - 1)) was.old was.silent was.last
      ∙ ap₂ (λ (a b : List Asked). a ++ b)
      (none_of_tick (v.clock - 1) was.old (all-weaker (IsBefore since) (λ (one : Asked). clock_of one.past ≡ v.clock - 1 → ⊥) (λ one below is. omega (arith, below, is, is_open)) was.old was.settled))
      (ap₂ (λ (a b : List Asked). a ++ b)
      (none_of_tick (v.clock - 1) was.silent (all-weaker Silent (λ (one : Asked). clock_of one.past ≡ v.clock - 1 → ⊥) (λ one silent is. let below = silent.1 in omega (arith, below, is, begun)) was.silent was.unsettled))
      (all_of_tick (v.clock - 1) was.last (all-weaker Last (λ (one : Asked). clock_of one.past ≡ v.clock - 1) (λ one last. let at = last.1 in omega (arith, at)) was.last was.new)))

  -- none was asked in this tick
  pub before_none : asked_in_tick v.clock course past ≡ []
  before_none =
      let above = settled_by v.clock left awaits past was.timed in
      ap (λ (l : List Asked). filter (is_of_tick v.clock) l) was.are
      ∙ three (is_of_tick v.clock) was.old was.silent was.last
      ∙ ap₂ (λ (a b : List Asked). a ++ b)
      (none_of_tick v.clock was.old (all-weaker (IsBefore since) (λ (one : Asked). clock_of one.past ≡ v.clock → ⊥) (λ one below is. omega (arith, below, is, above)) was.old was.settled))
      (ap₂ (λ (a b : List Asked). a ++ b)
      (none_of_tick v.clock was.silent (all-weaker Silent (λ (one : Asked). clock_of one.past ≡ v.clock → ⊥) (λ one silent is. let below = silent.1 in omega (arith, below, is)) was.silent was.unsettled))
      (none_of_tick v.clock was.last (all-weaker Last (λ (one : Asked). clock_of one.past ≡ v.clock → ⊥) (λ one last is. let at = last.1 in omega (arith, at, is)) was.last was.new)))

  -- in the tick before
  pub before_window : since < v.clock → filter (comes_within (v.clock - 1) v.clock) (asked course past) ≡ was.last
  before_window is_open =
      let begun = was.begun in
      ap (λ (l : List Asked). filter (comes_within (v.clock - 1) v.clock) l) was.are
      ∙ three (comes_within (v.clock - 1) v.clock) was.old was.silent was.last
      ∙ ap₂ (λ (a b : List Asked). a ++ b)
      (none_between (v.clock - 1) v.clock was.old (all-weaker (IsBefore since) (IsBefore (v.clock - 1)) (λ one below. omega (arith, below, is_open)) was.old was.settled))
      (ap₂ (λ (a b : List Asked). a ++ b)
      (none_between (v.clock - 1) v.clock was.silent (all-weaker Silent (IsBefore (v.clock - 1)) (λ one silent. let below = silent.1 in omega (arith, below)) was.silent was.unsettled))
      (all_between (v.clock - 1) v.clock was.last (all-weaker Last (IsWithin (v.clock - 1) v.clock) (λ one last. (let at = last.1 in omega (arith, at), let at = last.1 in omega (arith, at))) was.last was.new)))
