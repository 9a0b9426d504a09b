-- That the chip was given just what it has for its host goes on with the fate of a frame that arrives.
use Rattle.std.proofs.Common.{◌≡◌, ◌<◌, ℕ, ◌-◌, true, false, List, [], ◌∷◌, ◌++◌, map, length, refl, sym, ap, ap₂, ◌∙◌, subst, append-nil, append_assoc, length-append, arith}
use Rattle.std.specs.List.{flat_map}
use Rattle.serial_frame.specs.Frame.{FrameParts}
use Rattle.zw_text.specs.declared.entry.Entry.{Entry}
use Rattle.law_wire.specs.Asked.{Asked, Course, asked, last_sending}
use Rattle.law_wire.specs.Results.{Called, called, came_due, ended_at, ended_without, settled_clock}
use Rattle.law_wire.specs.Given.{Given, before_results, given, given_at, results_of}
use Rattle.law_wire.specs.Answering.{AreOf, MayAnswer}
use Rattle.outside_model.specs.Devices.{State}
use Rattle.outside_model.specs.State.{OuterState}
use Rattle.proof_host.proofs.Lists.{each-append}
use Rattle.proof_chip.specs.Serving.{as_given, frame_texts}
use Rattle.proof_chip.specs.Tally.{Outlook, TallyBefore}
use Rattle.proof_chip.proofs.Covering.{more_are}
use Rattle.proof_chip.proofs.Growing.{frames_both}
use Rattle.proof_chip.proofs.Passing.{IsOther}
use Rattle.proof_chip.proofs.Replying.{none_filtered}
use Rattle.proof_answers.specs.Owing.{Owed, asked_in_tick, come, due_before, ends_in, owed_in, owed_now}
use Rattle.proof_answers.specs.Telling.{HasFailing, IsUnder, Tells, TellsBefore, called_by, told_by}
use Rattle.proof_answers.proofs.Due.{before_due, before_last, before_silent}
use Rattle.proof_answers.proofs.Entering.{Parts, called_grows_by, given_grows, owed_still, tick_still, told_grows}
use Rattle.proof_answers.proofs.Lists.{alike_same, tells_are, tells_less, tells_more, tells_own, tells_those}
use Rattle.proof_answers.proofs.Standing.{ends_of}

-- what stands before the same end is the same
same_front : {A : Type 0} (a b c : List A) → a ++ c ≡ b ++ c → a ≡ b
same_front [] [] c same = refl
same_front [] (y ∷ b) c same = absurd (let all = ap (λ (l : List _). length l) same in let parts = length-append b c in omega (arith, all, parts))
same_front (x ∷ a) [] c same = absurd (let all = ap (λ (l : List _). length l) same in let parts = length-append a c in omega (arith, all, parts))
same_front (x ∷ a) (y ∷ b) c same =
    let first : x ≡ y = cc in
    let rest : a ++ c ≡ b ++ c = cc in
    ap₂ (λ (one : _) (l : List _). one ∷ l) first (same_front a b c rest)

-- what the state is after an entry: the same is owed, one is under way by both, and those that ended there count
pub record Ends (o p : OuterState) (course : Course) (past : List Entry) (e : Entry) : Type 0 where
  pub time : p.clock ≡ o.clock
  pub owes : owed_now course (past ++ e ∷ []) (o.clock - 1) p ≡ owed_now course past (o.clock - 1) o
  pub under : IsUnder p.chip.state.sending (last_sending course (past ++ e ∷ []))
  pub failing : (calls : List Called) → HasFailing o.chip.state.failing calls → HasFailing p.chip.state.failing (calls ++ ended_at course past e)

module _ (devices : List State) (o p : OuterState) (frames : List FrameParts) (course : Course) (past : List Entry) where
  abbrev clock : ℕ
  clock = o.clock

  abbrev owed : List Owed
  owed = owed_now course past (o.clock - 1) o

  -- in a tick whose number stands, before its last fate, what is due is what was asked in the tick before
  pub due_last : (v : Outlook) (left coming count : ℕ) → v.clock ≡ o.clock → 0 < o.clock → settled_clock past ≡ o.clock - 1 → TallyBefore devices v true left false coming count course past
      → due_before o.clock course past ≡ asked_in_tick (o.clock - 1) course past
  due_last v left coming count same begun settled was =
      let at : settled_clock past ≡ v.clock - 1 = settled ∙ ap (λ (n : ℕ). n - 1) (sym same) in
      let none : was.silent ≡ [] = sym (before_silent devices v true left false coming count course past was) ∙ none_filtered (settled_clock past) (v.clock - 1) (sym at) (asked course past) in
      let last = before_last devices v true left false coming count course past was (omega (arith, at, same, begun)) in
      ap (λ (n : ℕ). due_before n course past) (sym same)
      ∙ (before_due devices v true left false coming count course past was
      ∙ (ap (λ (l : List Asked). l ++ was.last) none ∙ (sym last ∙ ap (λ (n : ℕ). asked_in_tick (n - 1) course past) same)))

  -- ---- with its fate

  module _ (e : Entry) (more : List FrameParts) (other : IsOther e) (at : before_results past e ≡ past ++ e ∷ []) (may : MayAnswer devices course past e) (parts : Parts devices course o.clock past e)
      (due : due_before o.clock course past ≡ asked_in_tick (o.clock - 1) course past) (is_open : settled_clock past < o.clock)
      (gives : given_at devices course past e ≡ as_given more ++ flat_map (results_of course past e) (came_due course past e)) where
    abbrev later : List Entry
    later = past ++ e ∷ []

    module _ (was : TellsBefore devices true o frames course past) where
      owes : owed_in course past (due_before o.clock course past) ≡ owed_now course past (o.clock - 1) o
      owes = ap (λ (l : List Asked). owed_in course past l) due ∙ was.owes refl is_open

      before : Tells devices (frame_texts frames) (given devices course past) []
      before =
          tells_less devices (frame_texts frames) (given devices course past) (map (come past) owed) [] (map (come past) owed) refl
          (subst (λ (l : List Owed). Tells devices (frame_texts frames) (given devices course past ++ map (come past) l) (map (come past) owed)) owes was.tells)

      grown : Tells devices (frame_texts (frames ++ more)) (given devices course past ++ as_given more) []
      grown =
          subst (λ (l : List (List ℕ)). Tells devices l (given devices course past ++ as_given more) []) (sym (frames_both frames more))
          (tells_those devices (frame_texts frames) (frame_texts more) (given devices course past ++ as_given more) (as_given more) [] (tells_own devices more)
          (subst (λ (l : List Given). Tells devices (frame_texts frames) (given devices course past ++ as_given more) l) (sym (append-nil (as_given more)))
          (tells_more devices (frame_texts frames) (given devices course past) [] (as_given more) (as_given more) (alike_same devices (as_given more)) before)))

    pub before_entry : Ends o p course past e → TellsBefore devices true o frames course past → TellsBefore devices true p (frames ++ more) course (past ++ e ∷ [])
    before_entry ended was = record {
      turns = each-append (MayAnswer devices course) [] past (e ∷ []) was.turns (may, tt);
      tells =
          subst (λ (n : ℕ). Tells devices (frame_texts (frames ++ more)) (told_by devices n course later) (map (come later) (owed_now course later (n - 1) p))) (sym ended.time)
          (subst (λ (l : List Owed). Tells devices (frame_texts (frames ++ more)) (told_by devices clock course later) (map (come later) l)) (sym ended.owes)
          (subst (λ (l : List Given). Tells devices (frame_texts (frames ++ more)) l (map (come later) owed)) (sym told)
          (tells_more devices (frame_texts (frames ++ more)) (given devices course past ++ as_given more) [] (map (come later) owed) (map (come later) owed) (alike_same devices (map (come later) owed)) (grown was))));
      owes = λ is below.
          ap (λ (n : ℕ). owed_in course later (asked_in_tick (n - 1) course later)) ended.time
          ∙ (ap (λ (l : List Asked). owed_in course later l) (tick_still course past (e ∷ []) (other, tt) (clock - 1))
          ∙ (owed_still course past (e ∷ []) (other, tt) (asked_in_tick (clock - 1) course past)
          ∙ (was.owes refl is_open ∙ (sym ended.owes ∙ ap (λ (n : ℕ). owed_now course later (n - 1) p) (sym ended.time)))));
      under = ended.under;
      calls = was.calls ++ ended_at course past e;
      ended = calls_then;
      failing = ended.failing was.calls was.failing;
    }
      where
        told : told_by devices clock course (past ++ e ∷ []) ≡ (given devices course past ++ as_given more) ++ map (come (past ++ e ∷ [])) owed
        told =
            told_grows devices course clock past e other parts (as_given more) gives at
            ∙ ap (λ (l : List Owed). (given devices course past ++ as_given more) ++ map (come (past ++ e ∷ [])) l) (owes was)

        ends_owed : flat_map (ended_without course past) (due_before clock course past) ≡ ends_in owed
        ends_owed = sym (ends_of course past (due_before clock course past)) ∙ ap (λ (l : List Owed). ends_in l) (owes was)

        calls_same : called course past ≡ was.calls
        calls_same = same_front (called course past) was.calls (ends_in owed) (ap (λ (l : List Called). called course past ++ l) (sym ends_owed) ∙ was.ended)

        calls_then : called_by p.clock course (past ++ e ∷ []) ≡ (was.calls ++ ended_at course past e) ++ ends_in (owed_now course (past ++ e ∷ []) (p.clock - 1) p)
        calls_then =
            ap (λ (n : ℕ). called_by n course (past ++ e ∷ [])) ended.time
            ∙ (called_grows_by devices course clock past e other parts
            ∙ (ap₂ (λ (a b : List Called). (a ++ ended_at course past e) ++ b) calls_same ends_owed
            ∙ ap (λ (l : List Owed). (was.calls ++ ended_at course past e) ++ ends_in l) (sym ended.owes ∙ ap (λ (n : ℕ). owed_now course (past ++ e ∷ []) (n - 1) p) (sym ended.time))))

    -- and the frames are the first of what the chip has by then
    pub entry_are : TellsBefore devices true o frames course past → AreOf devices (frame_texts (frames ++ more)) (given devices course (past ++ e ∷ []))
    entry_are was =
        subst (λ (l : List Given). AreOf devices (frame_texts (frames ++ more)) l) (sym all)
        (more_are devices (frame_texts (frames ++ more)) (given devices course past ++ as_given more) results (tells_are devices (frame_texts (frames ++ more)) (given devices course past ++ as_given more) [] (grown was)))
      where
        results : List Given
        results = flat_map (results_of course past e) (came_due course past e)

        all : given devices course (past ++ e ∷ []) ≡ (given devices course past ++ as_given more) ++ flat_map (results_of course past e) (came_due course past e)
        all =
            given_grows devices course past e
            ∙ (ap (λ (l : List Given). given devices course past ++ l) gives ∙ sym (append_assoc (given devices course past) (as_given more) (flat_map (results_of course past e) (came_due course past e))))
