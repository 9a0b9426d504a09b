-- How many frames the chip has for the host stays told by the transcript with the fate of a frame, and where one is heard again.
use Rattle.std.proofs.Common.{◌≡◌, ◌≤◌, ◌<◌, ℕ, zero, suc, ◌+◌, ◌-◌, Bool, true, false, List, [], ◌∷◌, ◌++◌, filter, length, refl, sym, ap, ap₂, ◌∙◌, subst, append-nil, length-append, arith}
use Rattle.std.specs.List.{AllByRecursion, flat_map}
use Rattle.zw_base.proofs.Each.{all-append, all-weaker}
use Rattle.zw_text.specs.declared.entry.Entry.{Entry}
use Rattle.zw_text.specs.declared.entry.Entry.TheVariants as entry
use Rattle.law_transcript.specs.Fates.{first_fate, first_fates}
use Rattle.law_wire.specs.Asked.{Asked, Course, Sending, asked, clock_of, last_sending}
use Rattle.law_wire.specs.Results.{came_due, ended_at, settled_clock}
use Rattle.law_wire.specs.Given.{callback_of, given_at, handlers_at, results_of}
use Rattle.law_wire.specs.Answering.{MayWait, most_waiting, waiting}
use Rattle.outside_model.specs.Devices.{State}
use Rattle.proof_host.proofs.Lists.{each-append}
use Rattle.proof_air.proofs.SentBefore.{same_clock}
use Rattle.proof_chip.specs.Tally.{AreEnough, AreNumbered, IsBefore, IsWithin, Outlook, TallyBefore, TallyNow, Timed, owed}
use Rattle.proof_chip.proofs.Passing.{IsOther, others_no_ack}
use Rattle.proof_chip.proofs.Airing.{same_last}
use Rattle.proof_chip.proofs.Picking.{shown_both}
use Rattle.proof_chip.proofs.Replying.{none_filtered}
use Rattle.proof_air.proofs.Untimed.{IsUntimed}
use Rattle.proof_chip.proofs.Settling.{IsNoTick, all_between, asked_still, between, due_still, none_between, own_later, total_both, total_still}
use Rattle.proof_chip.proofs.Reckoning.{FewWait, all_many, given_one, not_so, parts_given, parts_of, settled_left, settled_now}
use Rattle.proof_chip.proofs.Tallying.{before_given}

-- ---- fates

abbrev pub IsFate : Entry → Type 0
IsFate (entry.Heard number) = Unit {0}
IsFate (entry.Lost number) = Unit {0}
IsFate (entry.Unheard number) = Unit {0}
IsFate e = ⊥

fate_untimed : (e : Entry) → IsFate e → IsUntimed e
fate_untimed (entry.Said words) fate = absurd fate
fate_untimed (entry.Time tick) fate = absurd fate
fate_untimed e fate = tt

fate_no_tick : (e : Entry) → IsFate e → IsNoTick e
fate_no_tick (entry.Time tick) fate = absurd fate
fate_no_tick e fate = tt

pub fate_other : (e : Entry) → IsFate e → IsOther e
fate_other (entry.Heard number) fate = tt
fate_other (entry.Lost number) fate = tt
fate_other (entry.Unheard number) fate = tt
fate_other e fate = absurd fate

fates_more : (past : List Entry) (e : Entry) → first_fates (past ++ e ∷ []) ≡ first_fates past ++ first_fate past e
fates_more past e = shown_both first_fate [] past (e ∷ []) ∙ ap (λ (l : List ℕ). first_fates past ++ l) (append-nil (first_fate past e))

pub fate_timed : (clock left : ℕ) (past : List Entry) (e : Entry) (number : ℕ) → IsFate e → first_fate past e ≡ number ∷ [] → Timed clock (suc left) false past → Timed clock left false (past ++ e ∷ [])
fate_timed clock left past e number fate one timed = record {
  now = λ is. same_clock past (e ∷ []) (fate_untimed e fate, tt) ∙ timed.now refl;
  was = λ is. not_so is;
  fates = λ is.
      let more = ap length (fates_more past e ∙ ap (λ (l : List ℕ). first_fates past ++ l) one) ∙ length-append (first_fates past) (number ∷ []) in
      let due = due_still past (e ∷ []) (fate_no_tick e fate, tt) in
      let before = timed.fates refl in
      omega (arith, more, due, before);
  landed = λ is. not_so is;
  sent = λ is. not_so is;
}

-- one that is heard again
again_timed : (clock : ℕ) (past : List Entry) (e : Entry) → IsFate e → first_fate past e ≡ [] → Timed clock 0 false past → Timed clock 0 false (past ++ e ∷ [])
again_timed clock past e fate none timed = record {
  now = λ is. same_clock past (e ∷ []) (fate_untimed e fate, tt) ∙ timed.now refl;
  was = λ is. not_so is;
  fates = λ is.
      ap (λ (l : List ℕ). length l + 0) (fates_more past e ∙ ap (λ (l : List ℕ). first_fates past ++ l) none ∙ append-nil (first_fates past))
      ∙ (timed.fates refl ∙ sym (due_still past (e ∷ []) (fate_no_tick e fate, tt)));
  landed = λ is. not_so is;
  sent = λ is. not_so is;
}

module _ (devices : List State) (course : Course) (past : List Entry) where
  -- ---- a fate

  fate_given : (e : Entry) → IsFate e
      → length (given_at devices course past e) ≡ (length (handlers_at past e) + length (ended_at course past e)) + length (flat_map (results_of course past e) (came_due course past e))
  fate_given (entry.Heard number) fate = parts_given callback_of (handlers_at past (entry.Heard number)) (ended_at course past (entry.Heard number)) _
  fate_given (entry.Lost number) fate = parts_given callback_of [] (ended_at course past (entry.Lost number)) _
  fate_given (entry.Unheard number) fate = parts_given callback_of [] (ended_at course past (entry.Unheard number)) _
  fate_given e fate = absurd fate

  -- so many frames come of it
  abbrev pub fate_brings : Entry → ℕ
  fate_brings e = length (handlers_at past e) + length (ended_at course past e)

  numbered_one : (sending by_frame : Bool) (numbers : List ℕ) (e : Entry) → IsFate e → AreNumbered sending by_frame numbers (last_sending course past)
      → AreNumbered sending by_frame numbers (last_sending course (past ++ e ∷ []))
  numbered_one sending by_frame numbers e fate was =
      subst (λ (l : List Sending). AreNumbered sending by_frame numbers l) (sym (same_last course past (e ∷ []) (others_no_ack (e ∷ []) (fate_other e fate, tt)))) was

  asked_one : (e : Entry) → IsFate e → asked course (past ++ e ∷ []) ≡ asked course past
  asked_one e fate = asked_still course past (e ∷ []) (others_no_ack (e ∷ []) (fate_other e fate, tt))

  fate_waits : (e : Entry) → IsFate e → waiting devices course past ≤ most_waiting → MayWait devices course past e
  fate_waits (entry.Heard number) fate few = few
  fate_waits (entry.Lost number) fate few = few
  fate_waits (entry.Unheard number) fate few = few
  fate_waits e fate few = absurd fate

  -- the last of a tick
  before_last : (v : Outlook) (count : ℕ) (e : Entry) (number : ℕ) → IsFate e → first_fate past e ≡ number ∷ [] → FewWait devices course past count → TallyBefore devices v true 1 false 0 count course past
      → TallyBefore devices v true 0 false (fate_brings e) count course (past ++ e ∷ [])
  before_last v count e number fate one few was =
      let timed = fate_timed v.clock 0 past e number fate one was.timed in
      let now : settled_clock (past ++ e ∷ []) ≡ v.clock = settled_now v.clock (past ++ e ∷ []) timed in
      let from : ℕ = settled_clock past in
      let at : settled_clock past ≡ v.clock - 1 = settled_left v.clock 0 past was.timed in
      let fates = was.timed.fates refl in
      let due : came_due course past e ≡ was.silent ++ was.last =
      ap₂ (λ (to : ℕ) (l : List Asked). filter (between from to) l) now was.are
      ∙ parts_of from v.clock was.old was.silent was.last
      ∙ ap₂ (λ (a b : List Asked). a ++ b) (none_between from v.clock was.old was.settled)
      (ap₂ (λ (a b : List Asked). a ++ b)
      (all_between from v.clock was.silent (all-weaker _ (IsWithin from v.clock) (λ one is. (is.0, let below = is.1 in omega (arith, below))) was.silent was.unsettled))
      (all_between from v.clock was.last (all-weaker _ (IsWithin from v.clock) (λ one is. (is.0, let at = is.1 in omega (arith, at))) was.last was.new))) in
      let more = ap (λ (l : List Asked). length (flat_map (results_of course past e) l)) due ∙ all_many course past e (was.silent ++ was.last) ∙ total_both course past was.silent was.last in
      let own = fate_given e fate in
      let grown = given_one devices course past e in
      let many = was.many in
      record {
        waits = each-append (MayWait devices course) [] past (e ∷ []) was.waits (fate_waits e fate (few (before_given devices course past v true 1 count false (let begun = was.begun in omega (arith, at, begun)) was)), tt);
        numbered = numbered_one v.sending v.by_frame v.numbers e fate was.numbered;
        own = own_later past (e ∷ []) v.numbers was.own;
        timed = timed;
        begun = was.begun;
        old = was.old ++ (was.silent ++ was.last);
        silent = [];
        last = [];
        are = asked_one e fate ∙ (was.are ∙ sym (append-nil (was.old ++ (was.silent ++ was.last))));
        settled =
            subst (λ (n : ℕ). AllByRecursion (IsBefore n) (was.old ++ (was.silent ++ was.last))) (sym now)
            (all-append (IsBefore v.clock) was.old (was.silent ++ was.last) (all-weaker (IsBefore from) (IsBefore v.clock) (λ one is. omega (arith, is, at)) was.old was.settled)
            (all-append (IsBefore v.clock) was.silent was.last (all-weaker _ (IsBefore v.clock) (λ one is. let below = is.1 in omega (arith, below)) was.silent was.unsettled)
            (all-weaker _ (IsBefore v.clock) (λ one is. let at = is.1 in omega (arith, at)) was.last was.new)));
        unsettled = tt;
        new = tt;
        enough = λ below. absurd (omega (arith, below, now));
        many = omega (arith, grown, own, more, many);
      }

  -- and one before it
  before_fate : (v : Outlook) (left count : ℕ) (e : Entry) (number : ℕ) → IsFate e → first_fate past e ≡ number ∷ [] → FewWait devices course past count
      → TallyBefore devices v true (suc (suc left)) false 0 count course past → TallyBefore devices v true (suc left) false (fate_brings e) count course (past ++ e ∷ [])
  before_fate v left count e number fate one few was =
      let timed = fate_timed v.clock (suc left) past e number fate one was.timed in
      let from : ℕ = settled_clock past in
      let at : settled_clock past ≡ v.clock - 1 = settled_left v.clock (suc left) past was.timed in
      let same : settled_clock (past ++ e ∷ []) ≡ settled_clock past = settled_left v.clock left (past ++ e ∷ []) timed ∙ sym at in
      let begun = was.begun in
      let below : settled_clock past < v.clock = omega (arith, at, begun) in
      let due : came_due course past e ≡ [] = none_filtered from (settled_clock (past ++ e ∷ [])) same (asked course past) in
      let more : length (flat_map (results_of course past e) (came_due course past e)) ≡ 0 = ap (λ (l : List Asked). length (flat_map (results_of course past e) l)) due in
      let own = fate_given e fate in
      let grown = given_one devices course past e in
      let many = was.many in
      let others = fate_other e fate in
      let silent = total_still course past (e ∷ []) (others, tt) was.silent in
      let last = total_still course past (e ∷ []) (others, tt) was.last in
      record {
        waits = each-append (MayWait devices course) [] past (e ∷ []) was.waits (fate_waits e fate (few (before_given devices course past v true (suc (suc left)) count false below was)), tt);
        numbered = numbered_one v.sending v.by_frame v.numbers e fate was.numbered;
        own = own_later past (e ∷ []) v.numbers was.own;
        timed = timed;
        begun = was.begun;
        old = was.old;
        silent = was.silent;
        last = was.last;
        are = asked_one e fate ∙ was.are;
        settled = subst (λ (n : ℕ). AllByRecursion (IsBefore n) was.old) (sym same) was.settled;
        unsettled = subst (λ (n : ℕ). AllByRecursion (λ (one : Asked). (n ≤ clock_of one.past) × (clock_of one.past + 1 < v.clock)) was.silent) (sym same) was.unsettled;
        new = subst (λ (n : ℕ). AllByRecursion (λ (one : Asked). (n ≤ clock_of one.past) × (clock_of one.past + 1 ≡ v.clock)) was.last) (sym same) was.new;
        enough = λ under. subst (λ (n : ℕ). AreEnough true n (owed v)) (sym last) (was.enough below);
        many = omega (arith, grown, own, more, many, silent, last);
      }

  pub before_lands : (v : Outlook) (left count : ℕ) (e : Entry) (number : ℕ) → IsFate e → first_fate past e ≡ number ∷ [] → FewWait devices course past count → TallyBefore devices v true (suc left) false 0 count course past
      → TallyBefore devices v true left false (fate_brings e) count course (past ++ e ∷ [])
  before_lands v zero count e number fate one few was = before_last v count e number fate one few was
  before_lands v (suc left) count e number fate one few was = before_fate v left count e number fate one few was

  -- a frame is heard again
  pub now_again : (v : Outlook) (count : ℕ) (e : Entry) → IsFate e → first_fate past e ≡ [] → FewWait devices course past count → TallyNow devices v false 0 count course past
      → TallyNow devices v false (fate_brings e) count course (past ++ e ∷ [])
  now_again v count e fate none few was =
      let timed = again_timed v.clock past e fate none was.timed in
      let from : ℕ = settled_clock past in
      let same : settled_clock (past ++ e ∷ []) ≡ settled_clock past = settled_now v.clock (past ++ e ∷ []) timed ∙ sym (settled_now v.clock past was.timed) in
      let due : came_due course past e ≡ [] = none_filtered from (settled_clock (past ++ e ∷ [])) same (asked course past) in
      let more : length (flat_map (results_of course past e) (came_due course past e)) ≡ 0 = ap (λ (l : List Asked). length (flat_map (results_of course past e) l)) due in
      let own = fate_given e fate in
      let grown = given_one devices course past e in
      let many = was.many in
      let others = fate_other e fate in
      let silent = total_still course past (e ∷ []) (others, tt) was.silent in
      let here = total_still course past (e ∷ []) (others, tt) was.here in
      record {
        waits = each-append (MayWait devices course) [] past (e ∷ []) was.waits (fate_waits e fate (few (omega (arith, many))), tt);
        numbered = numbered_one v.sending v.by_frame v.numbers e fate was.numbered;
        own = own_later past (e ∷ []) v.numbers was.own;
        timed = timed;
        old = was.old;
        silent = was.silent;
        here = was.here;
        are = asked_one e fate ∙ was.are;
        settled = subst (λ (n : ℕ). AllByRecursion (IsBefore n) was.old) (sym same) was.settled;
        unsettled = subst (λ (n : ℕ). AllByRecursion (IsWithin n v.clock) was.silent) (sym same) was.unsettled;
        new = was.new;
        informs = was.informs;
        owes = here ∙ was.owes;
        many = omega (arith, grown, own, more, many, silent);
      }
