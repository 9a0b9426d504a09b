-- How many frames the chip has for the host stays told by the transcript where words of a line stand, where a tick begins, and where all its results have come.
use Rattle.std.proofs.Common.{◌≡◌, ◌≤◌, ◌<◌, ℕ, ◌+◌, ◌&&◌, not, Bool, true, false, List, [], ◌∷◌, ◌++◌, length, refl, sym, ap, ap₂, ◌∙◌, subst, append-nil, arith}
use Rattle.zw_base.proofs.Each.{all-append, all-weaker}
use Rattle.zw_text.specs.declared.entry.Entry.{Entry}
use Rattle.zw_text.specs.declared.entry.Entry.TheVariants as entry
use Rattle.zw_text.specs.Transcript.{frames}
use Rattle.law_transcript.specs.Fates.{first_fates, flying}
use Rattle.law_wire.specs.Asked.{Asked, Course, Sending, clock_of, last_sending}
use Rattle.law_wire.specs.Results.{settled_clock}
use Rattle.outside_model.specs.Devices.{State}
use Rattle.proof_air.proofs.Fated.{same_fates}
use Rattle.proof_chip.specs.Tally.{AreNumbered, AreOwn, IsIn, IsWithin, Outlook, TallyBefore, TallyNow, Timed, owed}
use Rattle.proof_line.specs.proof_traffic.Facts.{one_if}
use Rattle.proof_chip.proofs.Settling.{due_still, total_both}
use Rattle.proof_chip.proofs.Tallying.{now_settles}
use Rattle.proof_chip.proofs.Reckoning.{FewWait, not_now, not_so, plus_none, settled_now, settled_was}

module _ (devices : List State) (course : Course) (past : List Entry) where
  -- ---- the words of a line

  pub now_said : (v : Outlook) (awaits : Bool) (count : ℕ) (words : List ℕ) → clock_of (past ++ entry.Said words ∷ []) ≡ v.clock → FewWait devices course past count → TallyNow devices v awaits 0 count course past
      → TallyNow devices v false 0 count course (past ++ entry.Said words ∷ [])
  now_said v awaits count words clock few was =
      let e : Entry = entry.Said words in
      let timed : Timed v.clock 0 false (past ++ e ∷ []) = record {
        now = λ is. clock;
        was = λ is. not_so is;
        fates = λ is. ap (λ (l : List ℕ). length l + 0) (same_fates past (e ∷ []) (tt, tt)) ∙ (landed awaits was.timed ∙ sym (due_still past (e ∷ []) (tt, tt)));
        landed = λ is. not_so is;
        sent = λ is. not_so is;
      } in
      now_settles devices course past v awaits count e tt timed (above awaits was.timed) refl (λ is. is) few was
    where
      landed : (b : Bool) → Timed v.clock 0 b past → length (first_fates past) + 0 ≡ (flying past).due
      landed true timed = plus_none (length (first_fates past)) ∙ timed.landed refl
      landed false timed = timed.fates refl

      above : (b : Bool) → Timed v.clock 0 b past → settled_clock past ≤ v.clock
      above true timed = let below = settled_was v.clock 0 past timed in omega (arith, below)
      above false timed = let is = settled_now v.clock past timed in omega (arith, is)

  -- ---- ticks

  pub now_ticks : (v later : Outlook) (awaits : Bool) (left count : ℕ) → later.sending ≡ v.sending → later.by_frame ≡ v.by_frame → later.numbers ≡ v.numbers → later.infos ≡ v.infos
      → later.clock ≡ v.clock + 1 → length (first_fates past) + left ≡ length (frames past) → TallyNow devices v awaits 0 count course past → TallyBefore devices later true left true 0 count course past
  now_ticks v later awaits left count sending by_frame numbers infos clock sent was = record {
    waits = was.waits;
    numbered = subst (λ (b : Bool). AreNumbered b later.by_frame later.numbers last) (sym sending)
        (subst (λ (b : Bool). AreNumbered v.sending b later.numbers last) (sym by_frame)
        (subst (λ (l : List ℕ). AreNumbered v.sending v.by_frame l last) (sym numbers) was.numbered));
    own = subst (λ (l : List ℕ). AreOwn past l) (sym numbers) was.own;
    timed = record {
      now = λ is. not_now is;
      was = λ is. by awaits was.timed;
      fates = λ is. not_now is;
      landed = λ is. landed awaits was.timed;
      sent = λ is. sent;
    };
    begun = omega (arith, clock);
    old = was.old;
    silent = was.silent;
    last = was.here;
    are = was.are;
    settled = was.settled;
    unsettled = all-weaker (IsWithin (settled_clock past) v.clock) _ (λ one is. (is.0, let below = is.1 in omega (arith, below, clock))) was.silent was.unsettled;
    new = all-weaker (IsIn v.clock) _ (λ one is. (let up = above awaits was.timed in omega (arith, is, up), omega (arith, is, clock))) was.here was.new;
    enough = λ below. was.owes ∙ sym owes;
    many = let many = was.many in let here = was.owes in let same = owes in omega (arith, many, here, same);
  }
    where
      last : List Sending
      last = last_sending course past

      owes : owed later ≡ owed v
      owes = ap₂ (λ (n : ℕ) (b : Bool). n + one_if b) infos (ap₂ (λ (a b : Bool). a && not b) sending by_frame)

      by : (b : Bool) → Timed v.clock 0 b past → clock_of past < later.clock
      by true timed = let below = timed.was refl in omega (arith, below, clock)
      by false timed = let at = timed.now refl in omega (arith, at, clock)

      landed : (b : Bool) → Timed v.clock 0 b past → length (first_fates past) ≡ (flying past).due
      landed true timed = timed.landed refl
      landed false timed = sym (plus_none (length (first_fates past))) ∙ timed.fates refl

      above : (b : Bool) → Timed v.clock 0 b past → settled_clock past ≤ v.clock
      above true timed = let below = settled_was v.clock 0 past timed in omega (arith, below)
      above false timed = let is = settled_now v.clock past timed in omega (arith, is)

  no_infos : (m n : ℕ) → m + n ≡ 0 → 0 ≡ m
  no_infos m n none = omega (arith, none)

  -- all results have come
  pub before_over : (v : Outlook) (arriving awaits : Bool) (count : ℕ) → owed v ≡ 0 → TallyBefore devices v arriving 0 awaits 0 count course past → TallyNow devices v awaits 0 count course past
  before_over v arriving awaits count none was = record {
    waits = was.waits;
    numbered = was.numbered;
    own = was.own;
    timed = was.timed;
    old = was.old;
    silent = was.silent ++ was.last;
    here = [];
    are = was.are ∙ ap (λ (l : List Asked). was.old ++ l) (sym (append-nil (was.silent ++ was.last)));
    settled = was.settled;
    unsettled = all-append (IsWithin (settled_clock past) v.clock) was.silent was.last
        (all-weaker _ (IsWithin (settled_clock past) v.clock) (λ one is. (is.0, let below = is.1 in omega (arith, below))) was.silent was.unsettled)
        (all-weaker _ (IsWithin (settled_clock past) v.clock) (λ one is. (is.0, let at = is.1 in omega (arith, at))) was.last was.new);
    new = tt;
    informs = no_infos v.infos (one_if (v.sending && not v.by_frame)) none;
    owes = sym none;
    many = let many = was.many in let both = total_both course past was.silent was.last in omega (arith, many, both, none);
  }
