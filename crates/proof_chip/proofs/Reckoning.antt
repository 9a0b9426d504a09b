-- What entries tell of time, so far and with one more, and how many frames come with the results that an entry brings.
use Rattle.std.proofs.Common.{◌≡◌, ◌≤◌, ◌<◌, ℕ, suc, ◌+◌, ◌-◌, true, false, List, [], ◌∷◌, ◌++◌, map, filter, length, refl, sym, ap, ap₂, ◌∙◌, append-nil, length-append, arith}
use Rattle.std.proofs.lemmas.List.{length-map}
use Rattle.std.proofs.lemmas.List.Elements.{filter-append}
use Rattle.std.specs.List.{AllByRecursion, flat_map}
use Rattle.zw_text.specs.declared.entry.Entry.{Entry}
use Rattle.zw_text.specs.declared.entry.Entry.TheVariants as entry
use Rattle.law_transcript.specs.Fates.{first_fates}
use Rattle.law_wire.specs.Asked.{Asked, Course}
use Rattle.law_wire.specs.Results.{ended_without, settled_clock}
use Rattle.law_wire.specs.Given.{Given, callback_of, given, given_at, results_of}
use Rattle.law_wire.specs.Answering.{most_waiting, waiting}
use Rattle.outside_model.specs.Devices.{State}
use Rattle.proof_air.proofs.Fated.{same_fates}
use Rattle.proof_air.proofs.Fateless.{IsFateless}
use Rattle.proof_air.proofs.SentBefore.{number_clock, same_clock}
use Rattle.proof_chip.specs.Tally.{IsWithin, Timed, many_of, total}
use Rattle.proof_chip.proofs.Growing.{told}
use Rattle.proof_chip.proofs.Picking.{shown_both}
use Rattle.proof_air.proofs.Untimed.{IsUntimed}
use Rattle.proof_chip.proofs.Settling.{AreIdle, IsNoTick, between, due_still, idle_clock, idle_due, idle_fates, informed_same, number_due, settled_all, settled_some}

-- ---- time

pub not_so : {A : Type 0} → false ≡ true → A
not_so is = absurd cc

pub not_now : {A : Type 0} → true ≡ false → A
not_now is = absurd cc

pub timed_still : (clock left : ℕ) (past told : List Entry) → AreIdle told → Timed clock left false past → Timed clock left false (past ++ told)
timed_still clock left past told idle timed = record {
  now = λ is. idle_clock past told idle ∙ timed.now refl;
  was = λ is. not_so is;
  fates = λ is. ap (λ (l : List ℕ). length l + left) (idle_fates past told idle) ∙ (timed.fates refl ∙ sym (idle_due past told idle));
  landed = λ is. not_so is;
  sent = λ is. not_so is;
}

pub plus_none : (n : ℕ) → n + 0 ≡ n
plus_none n = omega arith

pub settled_now : (clock : ℕ) (past : List Entry) → Timed clock 0 false past → settled_clock past ≡ clock
settled_now clock past timed = settled_all past (sym (plus_none (length (first_fates past))) ∙ timed.fates refl) ∙ timed.now refl

pub settled_left : (clock left : ℕ) (past : List Entry) → Timed clock (suc left) false past → settled_clock past ≡ clock - 1
settled_left clock left past timed = settled_some past left (timed.fates refl) ∙ ap (λ (n : ℕ). n - 1) (timed.now refl)

pub settled_was : (clock left : ℕ) (past : List Entry) → Timed clock left true past → settled_clock past < clock
settled_was clock left past timed = let is = settled_all past (timed.landed refl) in let below = timed.was refl in omega (arith, is, below)

-- through entries that tell neither a time nor a fate
pub timed_through : (clock left : ℕ) (past told : List Entry) → AllByRecursion IsUntimed told → AllByRecursion IsFateless told → AllByRecursion IsNoTick told → Timed clock left false past
    → Timed clock left false (past ++ told)
timed_through clock left past told untimed fateless no_tick timed = record {
  now = λ is. same_clock past told untimed ∙ timed.now refl;
  was = λ is. not_so is;
  fates = λ is. ap (λ (l : List ℕ). length l + left) (same_fates past told fateless) ∙ (timed.fates refl ∙ sym (due_still past told no_tick));
  landed = λ is. not_so is;
  sent = λ is. not_so is;
}

-- with the number of the tick
pub timed_number : (clock left : ℕ) (past : List Entry) → Timed clock left true past → Timed clock left false (past ++ entry.Time clock ∷ [])
timed_number clock left past timed = record {
  now = λ is. number_clock past clock (let below = timed.was refl in omega (arith, below));
  was = λ is. not_so is;
  fates = λ is. ap (λ (l : List ℕ). length l + left) (same_fates past (entry.Time clock ∷ []) (tt, tt)) ∙ (timed.sent refl ∙ sym (number_due past clock));
  landed = λ is. not_so is;
  sent = λ is. not_so is;
}

-- ---- results that come

results_many : (course : Course) (past : List Entry) (e : Entry) (one : Asked) → length (results_of course past e one) ≡ many_of course past one
results_many course past e one =
    length-append _ (map callback_of (ended_without course past one)) ∙ ap₂ (λ (m n : ℕ). m + n) (informed_same _ past one one.request) (length-map (ended_without course past one) callback_of)

pub all_many : (course : Course) (past : List Entry) (e : Entry) (all : List Asked) → length (flat_map (results_of course past e) all) ≡ total course past all
all_many course past e [] = refl
all_many course past e (one ∷ all) =
    length-append (results_of course past e one) (flat_map (results_of course past e) all) ∙ ap₂ (λ (m n : ℕ). m + n) (results_many course past e one) (all_many course past e all)

-- one entry more
pub given_one : (devices : List State) (course : Course) (past : List Entry) (e : Entry) → length (given devices course (past ++ e ∷ [])) ≡ length (given devices course past) + length (given_at devices course past e)
given_one devices course past e =
    ap length (shown_both (given_at devices course) [] past (e ∷ []) ∙ ap (λ (l : List Given). given devices course past ++ l) (append-nil (given_at devices course past e)))
    ∙ length-append (given devices course past) (given_at devices course past e)

pub parts_given : {A : Type 0} (make : A → Given) (handlers : List Given) (ended : List A) (results : List Given)
    → length ((([] ++ handlers) ++ map make ended) ++ results) ≡ (length handlers + length ended) + length results
parts_given make handlers ended results =
    length-append (handlers ++ map make ended) results
    ∙ ap (λ (n : ℕ). n + length results) (length-append handlers (map make ended) ∙ ap (λ (n : ℕ). length handlers + n) (length-map ended make))

-- nothing can be asked before a tick and from it on
pub none_within : (course : Course) (past : List Entry) (from to : ℕ) → to ≤ from → (all : List Asked) → AllByRecursion (IsWithin from to) all → total course past all ≡ 0
none_within course past from to above [] within = refl
none_within course past from to above (one ∷ all) within = absurd (let first = within.0.0 in let last = within.0.1 in omega (arith, above, first, last))

abbrev pub parts_due : ℕ → ℕ → List Asked → List Asked → List Asked → Type 0
parts_due from to one two three = filter (between from to) (one ++ (two ++ three)) ≡ filter (between from to) one ++ (filter (between from to) two ++ filter (between from to) three)

pub parts_of : (from to : ℕ) (one two three : List Asked) → parts_due from to one two three
parts_of from to one two three =
    filter-append (between from to) one (two ++ three) ∙ ap (λ (l : List Asked). filter (between from to) one ++ l) (filter-append (between from to) two three)

-- no more were given than the chip had, so few wait
abbrev pub FewWait : List State → Course → List Entry → ℕ → Type 0
FewWait devices course past count = length (given devices course past) ≤ count → waiting devices course past ≤ most_waiting
