-- How many frames the chip has for the host stays told by the transcript through entries that tell nothing of it, and with the number of a tick.
use Rattle.std.proofs.Common.{◌≡◌, ◌≤◌, ◌<◌, ℕ, zero, suc, ◌+◌, ◌-◌, Bool, true, false, List, [], ◌∷◌, ◌++◌, filter, length, refl, sym, ap, ap₂, ◌∙◌, subst, append-nil, append_assoc, arith}
use Rattle.std.specs.List.{AllByRecursion, flat_map}
use Rattle.zw_base.proofs.Each.{all-append, all-left, all-right, all-weaker}
use Rattle.serial_frame.specs.Frame.{FrameParts}
use Rattle.serial_link.specs.Rules.{Step}
use Rattle.chip_sim.specs.Events.{ChipEvent}
use Rattle.chip_sim.specs.Link.{link_steps}
use Rattle.chip_sim.specs.Rules.{posts}
use Rattle.chip_sim.specs.declared.out.ChipOut.{ChipOut}
use Rattle.zw_words.specs.declared.side.Side.TheVariants.{Chip as by_chip}
use Rattle.zw_text.specs.declared.entry.Entry.{Entry}
use Rattle.zw_text.specs.declared.entry.Entry.TheVariants as entry
use Rattle.law_transcript.specs.Lists.{EachAfter}
use Rattle.law_wire.specs.Asked.{Asked, Course, Sending, clock_of, course_of, is_ack}
use Rattle.law_wire.specs.Results.{came_due, settled_clock}
use Rattle.law_wire.specs.Given.{given, given_at, results_of}
use Rattle.law_wire.specs.Answering.{MayWait, drops, most_waiting, waiting}
use Rattle.outside_model.specs.Devices.{State}
use Rattle.outside_model.specs.State.{OuterState}
use Rattle.proof_host.proofs.Lists.{each-append, each-anywhere}
use Rattle.proof_chip.specs.Serving.{GoesOn, Serves}
use Rattle.proof_chip.specs.Tally.{AreEnough, AreNumbered, IsBefore, IsIn, IsWithin, Outlook, TallyBefore, TallyNow, Timed, owed, total}
use Rattle.proof_chip.proofs.Growing.{told, told_drops}
use Rattle.proof_chip.proofs.Ordering.{event_waits}
use Rattle.proof_chip.proofs.Passing.{IsOther, others_no_ack}
use Rattle.proof_chip.proofs.Airing.{same_last}
use Rattle.proof_chip.proofs.Posting.{Fate, Falls, Stays, fate_of}
use Rattle.proof_chip.proofs.Settling.{AreIdle, IsIdle, all_between, asked_still, between, given_still, idle_others, idle_settled, none_above, none_between, own_later, total_both, total_still}
use Rattle.proof_chip.proofs.Telling.{IsAside, drops_later}
use Rattle.proof_chip.proofs.Reckoning.{FewWait, all_many, given_one, parts_of, settled_left, settled_now, settled_was, timed_number, timed_still}

-- ---- one event of the chip

module _ (devices : List State) (steps : List Step) (given_frames : List FrameParts) (past : List Entry) (o : OuterState) (e : ChipEvent) (serves : Serves steps given_frames past o.chip.state.port)
    (later : Course) (goes : GoesOn (course_of (steps ++ link_steps o.chip.state e)) later) where
  abbrev entered : List Entry
  entered = told steps given_frames past o e serves

  -- where it answers none, and what it drops is one more than the chip had
  pub chip_waits : AreIdle entered → ((f : FrameParts) → posts o.chip.state e ≡ f ∷ [] → length given_frames < length (given devices later past)) → EachAfter (MayWait devices later) past entered
  chip_waits idle more = event_waits devices steps given_frames past o e serves later goes few full
    where
      few : (front rest : List Entry) (unit : List ℕ) → entered ≡ front ++ entry.Written by_chip unit ∷ rest → is_ack unit ≡ true → length (given devices later (past ++ front)) ≤ length given_frames
      few front rest unit is ack =
          let none = (all-right IsIdle front (entry.Written by_chip unit ∷ rest) (subst AreIdle is idle)).0.0 in
          absurd (let no : true ≡ false = sym ack ∙ none in cc)

      by : (front rest : List Entry) → entered ≡ front ++ entry.ChipFull ∷ rest → Fate o.chip.state e → length given_frames < length (given devices later (past ++ front))
      by front rest is (Stays keeps none) =
          absurd (let all = told_drops steps given_frames past o e serves ∙ ap (λ (l : List ChipOut). length l) none in
          let split = ap (λ (l : List Entry). drops l) is ∙ drops_later front (entry.ChipFull ∷ rest) in
          omega (arith, all, split))
      by front rest is (Falls f one full keeps falls) =
          let same = ap length (given_still devices later past front (all-left IsIdle front (entry.ChipFull ∷ rest) (subst AreIdle is idle))) in
          let above = more f one in
          omega (arith, same, above)

      full : (front rest : List Entry) → entered ≡ front ++ entry.ChipFull ∷ rest → length given_frames < length (given devices later (past ++ front))
      full front rest is = by front rest is (fate_of o.chip.state e)

-- entries that tell nothing of the chip
aside_waits : (devices : List State) (course : Course) (past : List Entry) (e : Entry) → IsAside e × IsIdle e → MayWait devices course past e
aside_waits devices course past (entry.Said words) aside = absurd aside.1.0
aside_waits devices course past (entry.Time tick) aside = absurd aside.1.0
aside_waits devices course past (entry.Heard frame) aside = absurd aside.1.0
aside_waits devices course past (entry.Lost frame) aside = absurd aside.1.0
aside_waits devices course past (entry.Unheard frame) aside = absurd aside.1.0
aside_waits devices course past (entry.Written by_chip unit) aside = absurd aside.0
aside_waits devices course past entry.ChipFull aside = absurd aside.0
aside_waits devices course past e aside = tt

pub apart_waits : (devices : List State) (course : Course) (past told : List Entry) → AllByRecursion (λ (e : Entry). IsAside e × IsIdle e) told → EachAfter (MayWait devices course) past told
apart_waits devices course past told apart = each-anywhere (MayWait devices course) (λ (e : Entry). IsAside e × IsIdle e) (aside_waits devices course) past told apart

module _ (devices : List State) (course : Course) (past : List Entry) where
  -- ---- entries that change nothing of it

  pub now_still : (v : Outlook) (coming count : ℕ) (told : List Entry) → AreIdle told → EachAfter (MayWait devices course) past told → TallyNow devices v false coming count course past
      → TallyNow devices v false coming count course (past ++ told)
  now_still v coming count told idle waits was =
      let others = idle_others told idle in
      record {
        waits = each-append (MayWait devices course) [] past told was.waits waits;
        numbered = subst (λ (l : List Sending). AreNumbered v.sending v.by_frame v.numbers l) (sym (same_last course past told (others_no_ack told others))) was.numbered;
        own = own_later past told v.numbers was.own;
        timed = timed_still v.clock 0 past told idle was.timed;
        old = was.old;
        silent = was.silent;
        here = was.here;
        are = asked_still course past told (others_no_ack told others) ∙ was.are;
        settled = subst (λ (n : ℕ). AllByRecursion (IsBefore n) was.old) (sym (idle_settled past told idle)) was.settled;
        unsettled = subst (λ (n : ℕ). AllByRecursion (IsWithin n v.clock) was.silent) (sym (idle_settled past told idle)) was.unsettled;
        new = was.new;
        informs = was.informs;
        owes = total_still course past told others was.here ∙ was.owes;
        many = ap₂ (λ (m n : ℕ). m + n) (ap length (given_still devices course past told idle)) (total_still course past told others was.silent) ∙ was.many;
      }

  pub before_still : (v : Outlook) (arriving : Bool) (left coming count : ℕ) (told : List Entry) → AreIdle told → EachAfter (MayWait devices course) past told
      → TallyBefore devices v arriving left false coming count course past → TallyBefore devices v arriving left false coming count course (past ++ told)
  before_still v arriving left coming count told idle waits was =
      let others = idle_others told idle in
      let same = idle_settled past told idle in
      record {
        waits = each-append (MayWait devices course) [] past told was.waits waits;
        numbered = subst (λ (l : List Sending). AreNumbered v.sending v.by_frame v.numbers l) (sym (same_last course past told (others_no_ack told others))) was.numbered;
        own = own_later past told v.numbers was.own;
        timed = timed_still v.clock left past told idle was.timed;
        begun = was.begun;
        old = was.old;
        silent = was.silent;
        last = was.last;
        are = asked_still course past told (others_no_ack told others) ∙ was.are;
        settled = subst (λ (n : ℕ). AllByRecursion (IsBefore n) was.old) (sym same) was.settled;
        unsettled = subst (λ (n : ℕ). AllByRecursion (λ (one : Asked). (n ≤ clock_of one.past) × (clock_of one.past + 1 < v.clock)) was.silent) (sym same) was.unsettled;
        new = subst (λ (n : ℕ). AllByRecursion (λ (one : Asked). (n ≤ clock_of one.past) × (clock_of one.past + 1 ≡ v.clock)) was.last) (sym same) was.new;
        enough = λ below.
            subst (λ (n : ℕ). AreEnough arriving n (owed v)) (sym (total_still course past told others was.last)) (was.enough (subst (λ (n : ℕ). n < v.clock) same below));
        many =
            ap₂ (λ (m n : ℕ). m + n) (ap length (given_still devices course past told idle))
            (ap₂ (λ (m n : ℕ). m + n) (total_still course past told others was.silent) (total_still course past told others was.last))
            ∙ was.many;
      }

  -- ---- where a line stands, or the number of a tick: all that came in ticks without an entry is told

  pub now_settles : (v : Outlook) (awaits : Bool) (count : ℕ) (e : Entry) → IsOther e → Timed v.clock 0 false (past ++ e ∷ []) → settled_clock past ≤ v.clock
      → length (given_at devices course past e) ≡ length (flat_map (results_of course past e) (came_due course past e)) → (waiting devices course past ≤ most_waiting → MayWait devices course past e)
      → FewWait devices course past count → TallyNow devices v awaits 0 count course past → TallyNow devices v false 0 count course (past ++ e ∷ [])
  now_settles v awaits count e other timed before grows may few was =
      let others : AllByRecursion IsOther (e ∷ []) = (other, tt) in
      let now : settled_clock (past ++ e ∷ []) ≡ v.clock = settled_now v.clock (past ++ e ∷ []) timed in
      let from : ℕ = settled_clock past in
      let due : came_due course past e ≡ was.silent =
      ap₂ (λ (to : ℕ) (l : List Asked). filter (between from to) l) now was.are
      ∙ parts_of from v.clock was.old was.silent was.here
      ∙ ap₂ (λ (a b : List Asked). a ++ b) (none_between from v.clock was.old was.settled)
      (ap₂ (λ (a b : List Asked). a ++ b) (all_between from v.clock was.silent was.unsettled) (none_above from v.clock was.here (all-weaker (IsIn v.clock) (λ (one : Asked). v.clock ≤ clock_of one.past) (λ one is. omega (arith, is)) was.here was.new)))
      ∙ append-nil was.silent in
      let more : length (given_at devices course past e) ≡ total course past was.silent =
      grows ∙ (ap (λ (l : List Asked). length (flat_map (results_of course past e) l)) due ∙ all_many course past e was.silent) in
      let grown = given_one devices course past e in
      let many = was.many in
      record {
        waits = each-append (MayWait devices course) [] past (e ∷ []) was.waits (may (few (omega (arith, many))), tt);
        numbered = subst (λ (l : List Sending). AreNumbered v.sending v.by_frame v.numbers l) (sym (same_last course past (e ∷ []) (others_no_ack (e ∷ []) others))) was.numbered;
        own = own_later past (e ∷ []) v.numbers was.own;
        timed = timed;
        old = was.old ++ was.silent;
        silent = [];
        here = was.here;
        are = asked_still course past (e ∷ []) (others_no_ack (e ∷ []) others) ∙ (was.are ∙ sym (append_assoc was.old was.silent was.here));
        settled =
            subst (λ (n : ℕ). AllByRecursion (IsBefore n) (was.old ++ was.silent)) (sym now)
            (all-append (IsBefore v.clock) was.old was.silent (all-weaker (IsBefore from) (IsBefore v.clock) (λ one is. omega (arith, is, before)) was.old was.settled)
            (all-weaker (IsWithin from v.clock) (IsBefore v.clock) (λ one is. is.1) was.silent was.unsettled));
        unsettled = tt;
        new = was.new;
        informs = was.informs;
        owes = total_still course past (e ∷ []) others was.here ∙ was.owes;
        many = omega (arith, grown, more, many);
      }

  pub now_number : (v : Outlook) (count : ℕ) → FewWait devices course past count → TallyNow devices v true 0 count course past → TallyNow devices v false 0 count course (past ++ entry.Time v.clock ∷ [])
  now_number v count few was =
      let before = settled_was v.clock 0 past was.timed in
      now_settles v true count (entry.Time v.clock) tt (timed_number v.clock 0 past was.timed) (omega (arith, before)) refl (λ is. is) few was

  -- in a tick before which so many frames were on the air
  pub before_given : (v : Outlook) (arriving : Bool) (left count : ℕ) (awaits : Bool) → settled_clock past < v.clock → TallyBefore devices v arriving left awaits 0 count course past
      → length (given devices course past) ≤ count
  before_given v true left count awaits below was = let many = was.many in let enough = was.enough below in omega (arith, many, enough)
  before_given v false left count awaits below was = let many = was.many in let enough = was.enough below in omega (arith, many, enough)

  -- with nothing left to come before the tick
  before_closed : (v : Outlook) (arriving : Bool) (count : ℕ) → FewWait devices course past count → TallyBefore devices v arriving 0 true 0 count course past
      → TallyBefore devices v arriving 0 false 0 count course (past ++ entry.Time v.clock ∷ [])
  before_closed v arriving count few was =
      let e : Entry = entry.Time v.clock in
      let timed = timed_number v.clock 0 past was.timed in
      let now : settled_clock (past ++ e ∷ []) ≡ v.clock = settled_now v.clock (past ++ e ∷ []) timed in
      let from : ℕ = settled_clock past in
      let before = settled_was v.clock 0 past was.timed in
      let due : came_due course past e ≡ was.silent ++ was.last =
      ap₂ (λ (to : ℕ) (l : List Asked). filter (between from to) l) now was.are
      ∙ parts_of from v.clock was.old was.silent was.last
      ∙ ap₂ (λ (a b : List Asked). a ++ b) (none_between from v.clock was.old was.settled)
      (ap₂ (λ (a b : List Asked). a ++ b)
      (all_between from v.clock was.silent (all-weaker _ (IsWithin from v.clock) (λ one is. (is.0, let below = is.1 in omega (arith, below))) was.silent was.unsettled))
      (all_between from v.clock was.last (all-weaker _ (IsWithin from v.clock) (λ one is. (is.0, let at = is.1 in omega (arith, at))) was.last was.new))) in
      let more = ap (λ (l : List Asked). length (flat_map (results_of course past e) l)) due ∙ all_many course past e (was.silent ++ was.last) ∙ total_both course past was.silent was.last in
      let grown = given_one devices course past e in
      let many = was.many in
      record {
        waits = each-append (MayWait devices course) [] past (e ∷ []) was.waits (few (before_given v arriving 0 count true before was), tt);
        numbered = subst (λ (l : List Sending). AreNumbered v.sending v.by_frame v.numbers l) (sym (same_last course past (e ∷ []) (tt, tt))) was.numbered;
        own = own_later past (e ∷ []) v.numbers was.own;
        timed = timed;
        begun = was.begun;
        old = was.old ++ (was.silent ++ was.last);
        silent = [];
        last = [];
        are = asked_still course past (e ∷ []) (tt, tt) ∙ (was.are ∙ sym (append-nil (was.old ++ (was.silent ++ was.last))));
        settled =
            subst (λ (n : ℕ). AllByRecursion (IsBefore n) (was.old ++ (was.silent ++ was.last))) (sym now)
            (all-append (IsBefore v.clock) was.old (was.silent ++ was.last) (all-weaker (IsBefore from) (IsBefore v.clock) (λ one is. omega (arith, is, before)) was.old was.settled)
            (all-append (IsBefore v.clock) was.silent was.last (all-weaker _ (IsBefore v.clock) (λ one is. let below = is.1 in omega (arith, below)) was.silent was.unsettled)
            (all-weaker _ (IsBefore v.clock) (λ one is. let at = is.1 in omega (arith, at)) was.last was.new)));
        unsettled = tt;
        new = tt;
        enough = λ below. absurd (omega (arith, below, now));
        many = omega (arith, grown, more, many);
      }

  -- with some
  before_open : (v : Outlook) (left count : ℕ) → FewWait devices course past count → TallyBefore devices v true (suc left) true 0 count course past
      → TallyBefore devices v true (suc left) false 0 count course (past ++ entry.Time v.clock ∷ [])
  before_open v left count few was =
      let e : Entry = entry.Time v.clock in
      let timed = timed_number v.clock (suc left) past was.timed in
      let now : settled_clock (past ++ e ∷ []) ≡ v.clock - 1 = settled_left v.clock left (past ++ e ∷ []) timed in
      let from : ℕ = settled_clock past in
      let before = settled_was v.clock (suc left) past was.timed in
      let due : came_due course past e ≡ was.silent =
      ap₂ (λ (to : ℕ) (l : List Asked). filter (between from to) l) now was.are
      ∙ parts_of from (v.clock - 1) was.old was.silent was.last
      ∙ ap₂ (λ (a b : List Asked). a ++ b) (none_between from (v.clock - 1) was.old was.settled)
      (ap₂ (λ (a b : List Asked). a ++ b)
      (all_between from (v.clock - 1) was.silent (all-weaker _ (IsWithin from (v.clock - 1)) (λ one is. (is.0, let below = is.1 in omega (arith, below))) was.silent was.unsettled))
      (none_above from (v.clock - 1) was.last (all-weaker _ (λ (one : Asked). v.clock - 1 ≤ clock_of one.past) (λ one is. let at = is.1 in omega (arith, at)) was.last was.new)))
      ∙ append-nil was.silent in
      let more : length (given_at devices course past e) ≡ total course past was.silent = ap (λ (l : List Asked). length (flat_map (results_of course past e) l)) due ∙ all_many course past e was.silent in
      let grown = given_one devices course past e in
      let many = was.many in
      let others = total_still course past (e ∷ []) (tt, tt) was.last in
      record {
        waits = each-append (MayWait devices course) [] past (e ∷ []) was.waits (few (before_given v true (suc left) count true before was), tt);
        numbered = subst (λ (l : List Sending). AreNumbered v.sending v.by_frame v.numbers l) (sym (same_last course past (e ∷ []) (tt, tt))) was.numbered;
        own = own_later past (e ∷ []) v.numbers was.own;
        timed = timed;
        begun = was.begun;
        old = was.old ++ was.silent;
        silent = [];
        last = was.last;
        are = asked_still course past (e ∷ []) (tt, tt) ∙ (was.are ∙ sym (append_assoc was.old was.silent was.last));
        settled =
            subst (λ (n : ℕ). AllByRecursion (IsBefore n) (was.old ++ was.silent)) (sym now)
            (all-append (IsBefore (v.clock - 1)) was.old was.silent (all-weaker (IsBefore from) (IsBefore (v.clock - 1)) (λ one is. omega (arith, is, before)) was.old was.settled)
            (all-weaker _ (IsBefore (v.clock - 1)) (λ one is. let below = is.1 in omega (arith, below)) was.silent was.unsettled));
        unsettled = tt;
        new =
            subst (λ (n : ℕ). AllByRecursion (λ (one : Asked). (n ≤ clock_of one.past) × (clock_of one.past + 1 ≡ v.clock)) was.last) (sym now)
            (all-weaker _ _ (λ one is. (let at = is.1 in omega (arith, at), is.1)) was.last was.new);
        enough = λ below. subst (λ (n : ℕ). AreEnough true n (owed v)) (sym others) (was.enough before);
        many = let still = others in omega (arith, grown, more, many, still);
      }

  pub before_number : (v : Outlook) (arriving : Bool) (left count : ℕ) → (arriving ≡ false → left ≡ 0) → FewWait devices course past count → TallyBefore devices v arriving left true 0 count course past
      → TallyBefore devices v arriving left false 0 count course (past ++ entry.Time v.clock ∷ [])
  before_number v arriving zero count none few was = before_closed v arriving count few was
  before_number v true (suc left) count none few was = before_open v left count few was
  before_number v false (suc left) count none few was = absurd (let no = none refl in omega (arith, no))
