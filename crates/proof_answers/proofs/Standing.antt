-- That the chip was given just what it has for its host goes on with entries that tell nothing of it, with the number of a tick, the words of a line, and where a tick begins or its results have all come.
use Rattle.std.proofs.Common.{◌≡◌, ◌<◌, ℕ, ◌+◌, ◌-◌, Bool, true, false, List, [], ◌∷◌, ◌++◌, map, filter, refl, sym, ap, ap₂, ◌∙◌, subst, append-nil, append_assoc, arith}
use Rattle.std.proofs.lemmas.Grind.{flat_map-append}
use Rattle.std.proofs.lemmas.List.{map-append}
use Rattle.std.specs.Prelude.{Option}
use Rattle.std.specs.List.{AllByRecursion, flat_map}
use Rattle.serial_frame.specs.Frame.{FrameParts}
use Rattle.chip_functions.specs.declared.request.Request.{Request}
use Rattle.chip_functions.specs.declared.request.Request.TheVariants.{RequestNodeInfo}
use Rattle.chip_sim.specs.declared.out.Sending.{Sending as SendingParts}
use Rattle.zw_text.specs.declared.entry.Entry.{Entry}
use Rattle.zw_text.specs.declared.entry.Entry.TheVariants as entry
use Rattle.law_transcript.specs.Lists.{EachAfter}
use Rattle.law_wire.specs.Asked.{Asked, Course, asked, clock_of, last_sending}
use Rattle.law_wire.specs.Results.{Called, called, came_due, ended_at, ended_without, settled_clock}
use Rattle.law_wire.specs.Given.{Given, before_results, given, given_at, results_of}
use Rattle.law_wire.specs.Answering.{MayAnswer}
use Rattle.outside_model.specs.declared.waits.Call.{Call}
use Rattle.outside_model.specs.declared.waits.Due.{Due}
use Rattle.outside_model.specs.Devices.{State}
use Rattle.outside_model.specs.State.{OuterState}
use Rattle.proof_host.proofs.Lists.{each-append}
use Rattle.proof_chip.specs.Serving.{as_given, frame_texts}
use Rattle.proof_chip.specs.Tally.{Outlook, TallyBefore, TallyNow}
use Rattle.proof_chip.proofs.Growing.{frames_both}
use Rattle.proof_chip.proofs.Passing.{IsOther}
use Rattle.proof_chip.proofs.Replying.{none_filtered}
use Rattle.proof_chip.proofs.Settling.{AreIdle, idle_others, idle_settled}
use Rattle.proof_answers.specs.Owing.{Ends, Informs, Owed, asked_in_tick, come, comes_within, due_before, ends_in, informs, owed_by, owed_in, owed_now, owed_of}
use Rattle.proof_answers.specs.Telling.{HasFailing, IsUnder, Tells, TellsBefore, TellsNow, called_by, told_by}
use Rattle.proof_answers.proofs.Due.{before_due, before_none, before_silent, before_window, now_here, now_next, now_silent}
use Rattle.proof_answers.proofs.Entering.{Parts, called_by_still, called_grows_by, called_said, now_owed_still, owed_both, owed_still, parts_all, tick_still, told_grows, told_said, told_still, under_still}
use Rattle.proof_answers.proofs.Informing.{IsCalm, about_back, alike_come, calm_about}
use Rattle.proof_answers.proofs.Lists.{alike_both, alike_same, tells_alike, tells_more, tells_own, tells_those}

-- the number of a tick
time_calm : (clock : ℕ) → AllByRecursion IsCalm (entry.Time clock ∷ [])
time_calm clock = (tt, tt)

-- ---- what the chip waits for is as it was

pub record SameOwing (o p : OuterState) : Type 0 where
  pub clock : p.clock ≡ o.clock
  pub sending : p.chip.state.sending ≡ o.chip.state.sending
  pub failing : p.chip.state.failing ≡ o.chip.state.failing
  pub calls : p.calls ≡ o.calls
  pub due : p.due ≡ o.due

module _ (devices : List State) (o p : OuterState) (same : SameOwing o p) (frames : List FrameParts) (course : Course) (past : List Entry) where
  pub owed_as : (ticks : ℕ) → owed_now course past ticks p ≡ owed_now course past ticks o
  owed_as ticks =
      ap₂ (λ (under : Option SendingParts) (calls : List Call). owed_by (last_sending course past) under calls ticks p.due) same.sending same.calls
      ∙ ap (λ (due : List Due). owed_by (last_sending course past) o.chip.state.sending o.calls ticks due) same.due

  pub now_as : TellsNow devices o frames course past → TellsNow devices p frames course past
  now_as was = record {
    turns = was.turns;
    tells = subst (λ (n : ℕ). Tells devices (frame_texts frames) (told_by devices n course past) []) (sym same.clock) was.tells;
    owes = ap (λ (n : ℕ). owed_in course past (asked_in_tick n course past)) same.clock ∙ (was.owes ∙ sym (ap (λ (n : ℕ). owed_now course past n p) same.clock ∙ owed_as o.clock));
    under = subst (λ (x : Option SendingParts). IsUnder x (last_sending course past)) (sym same.sending) was.under;
    failing = subst (λ (marks : List Bool). HasFailing marks (called_by p.clock course past)) (sym same.failing)
        (subst (λ (n : ℕ). HasFailing o.chip.state.failing (called_by n course past)) (sym same.clock) was.failing);
  }

  pub before_as : (arriving : Bool) → TellsBefore devices arriving o frames course past → TellsBefore devices arriving p frames course past
  before_as arriving was = record {
    turns = was.turns;
    tells =
        subst (λ (l : List Owed). Tells devices (frame_texts frames) (told_by devices p.clock course past) (map (come past) l)) (sym owes)
        (subst (λ (n : ℕ). Tells devices (frame_texts frames) (told_by devices n course past) (map (come past) (owed_now course past (o.clock - 1) o))) (sym same.clock) was.tells);
    owes = λ is below.
        ap (λ (n : ℕ). owed_in course past (asked_in_tick (n - 1) course past)) same.clock ∙ (was.owes is (subst (λ (n : ℕ). settled_clock past < n) same.clock below) ∙ sym owes);
    under = subst (λ (x : Option SendingParts). IsUnder x (last_sending course past)) (sym same.sending) was.under;
    calls = was.calls;
    ended = ap (λ (n : ℕ). called_by n course past) same.clock ∙ (was.ended ∙ ap (λ (l : List Owed). was.calls ++ ends_in l) (sym owes));
    failing = subst (λ (marks : List Bool). HasFailing marks was.calls) (sym same.failing) was.failing;
  }
    where
      owes : owed_now course past (p.clock - 1) p ≡ owed_now course past (o.clock - 1) o
      owes = ap (λ (n : ℕ). owed_now course past (n - 1) p) same.clock ∙ owed_as (o.clock - 1)

-- ---- what is owed, as SendData that end

pub ends_both : (one more : List Owed) → ends_in (one ++ more) ≡ ends_in one ++ ends_in more
ends_both [] more = refl
ends_both (Ends called ∷ one) more = ap (λ (l : List Called). called ∷ l) (ends_both one more)
ends_both (Informs node ticks ∷ one) more = ends_both one more

ends_back : (all : List Called) → ends_in (map (λ (one : Called). Ends one) all) ≡ all
ends_back [] = refl
ends_back (one ∷ all) = ap (λ (l : List Called). one ∷ l) (ends_back all)

pub ends_of : (course : Course) (past : List Entry) (all : List Asked) → ends_in (owed_in course past all) ≡ flat_map (ended_without course past) all
ends_of course past [] = refl
ends_of course past (one ∷ all) =
    ends_both (owed_of course past one) (owed_in course past all)
    ∙ ap₂ (λ (a b : List Called). a ++ b) (ends_both (informs (clock_of one.past) one.request) (map (λ (called : Called). Ends called) (ended_without course past one)) ∙ informs_none one.request) (ends_of course past all)
  where
    informs_none : (request : Request) → ends_in (informs (clock_of one.past) request) ++ ends_in (map (λ (called : Called). Ends called) (ended_without course past one)) ≡ ended_without course past one
    informs_none (RequestNodeInfo node) = ends_back (ended_without course past one)
    informs_none request = ends_back (ended_without course past one)

module _ (devices : List State) (o : OuterState) (frames : List FrameParts) (course : Course) (past : List Entry) where
  abbrev clock : ℕ
  clock = o.clock

  -- ---- entries that tell nothing of it

  module _ (told : List Entry) (idle : AreIdle told) (turns_on : EachAfter (MayAnswer devices course) past told) where
    abbrev here : List Entry
    here = past ++ told

    others : AllByRecursion IsOther told
    others = idle_others told idle

    -- where all results so far are told
    pub now_idle : settled_clock past ≡ o.clock → TellsNow devices o frames course past → TellsNow devices o frames course (past ++ told)
    now_idle settled was =
        let none : due_before clock course past ≡ [] = none_filtered (settled_clock past) clock (sym settled) (asked course past) in
        record {
          turns = each-append (MayAnswer devices course) [] past told was.turns turns_on;
          tells =
              subst (λ (l : List Given). Tells devices (frame_texts frames) l [])
              (ap (λ (l : List Asked). given devices course past ++ map (come past) (owed_in course past l)) none
              ∙ (ap (λ (l : List Asked). given devices course past ++ map (come here) (owed_in course past l)) (sym none) ∙ sym (told_still devices course clock past told idle))) was.tells;
          owes = ap (λ (l : List Asked). owed_in course here l) (tick_still course past told others clock) ∙ (owed_still course past told others (asked_in_tick clock course past) ∙ (was.owes ∙ sym (now_owed_still course past told others clock o)));
          under = under_still course past told others o.chip.state.sending was.under;
          failing = subst (λ (l : List Called). HasFailing o.chip.state.failing l) (sym (called_by_still course clock past told idle)) was.failing;
        }

    -- in a tick until its results have come, where no entry is a refusal
    pub before_idle : (arriving : Bool) → AllByRecursion IsCalm told → TellsBefore devices arriving o frames course past → TellsBefore devices arriving o frames course (past ++ told)
    before_idle arriving calm was =
        let same = about_back here past (calm_about told past calm) in
        let owes : owed_now course here (clock - 1) o ≡ owed_now course past (clock - 1) o = now_owed_still course past told others (clock - 1) o in
        record {
          turns = each-append (MayAnswer devices course) [] past told was.turns turns_on;
          tells =
              subst (λ (l : List Given). Tells devices (frame_texts frames) l (map (come here) (owed_now course here (clock - 1) o))) (sym (told_still devices course clock past told idle))
              (subst (λ (l : List Owed). Tells devices (frame_texts frames) (given devices course past ++ map (come here) (owed_in course past (due_before clock course past))) (map (come here) l)) (sym owes)
              (tells_alike devices (frame_texts frames) (told_by devices clock course past) (given devices course past ++ map (come here) (owed_in course past (due_before clock course past)))
              (map (come past) (owed_now course past (clock - 1) o)) (map (come here) (owed_now course past (clock - 1) o))
              (alike_both devices (given devices course past) (given devices course past) (map (come past) (owed_in course past (due_before clock course past)))
              (map (come here) (owed_in course past (due_before clock course past))) (alike_same devices (given devices course past)) (alike_come devices past here same (owed_in course past (due_before clock course past))))
              (alike_come devices past here same (owed_now course past (clock - 1) o)) was.tells));
          owes = λ is below.
              ap (λ (l : List Asked). owed_in course here l) (tick_still course past told others (clock - 1))
              ∙ (owed_still course past told others (asked_in_tick (clock - 1) course past) ∙ (was.owes is (subst (λ (n : ℕ). n < clock) (idle_settled past told idle) below) ∙ sym owes));
          under = under_still course past told others o.chip.state.sending was.under;
          calls = was.calls;
          ended = called_by_still course clock past told idle ∙ (was.ended ∙ ap (λ (l : List Owed). was.calls ++ ends_in l) (sym owes));
          failing = was.failing;
        }

  -- ---- the number of the tick

  abbrev time : Entry
  time = entry.Time o.clock

  abbrev numbered : List Entry
  numbered = past ++ time ∷ []

  told_time : Parts devices course clock past time → told_by devices clock course numbered ≡ given devices course past ++ map (come numbered) (owed_in course past (due_before clock course past))
  told_time parts =
      told_grows devices course clock past time tt parts [] refl refl
      ∙ ap (λ (l : List Given). l ++ map (come numbered) (owed_in course past (due_before clock course past))) (append-nil (given devices course past))

  -- what is told by then is alike, and so is what is left
  time_tells : Parts devices course clock past time → (left : List Owed) → Tells devices (frame_texts frames) (told_by devices clock course past) (map (come past) left)
      → Tells devices (frame_texts frames) (told_by devices clock course numbered) (map (come numbered) left)
  time_tells parts left tells =
      let same = about_back numbered past (calm_about (time ∷ []) past (time_calm clock)) in
      let due : List Owed = owed_in course past (due_before clock course past) in
      subst (λ (l : List Given). Tells devices (frame_texts frames) l (map (come numbered) left)) (sym (told_time parts))
      (tells_alike devices (frame_texts frames) (told_by devices clock course past) (given devices course past ++ map (come numbered) due) (map (come past) left) (map (come numbered) left)
      (alike_both devices (given devices course past) (given devices course past) (map (come past) due) (map (come numbered) due) (alike_same devices (given devices course past)) (alike_come devices past numbered same due))
      (alike_come devices past numbered same left) tells)

  time_called : Parts devices course clock past time → called_by clock course numbered ≡ called_by clock course past
  time_called parts =
      called_grows_by devices course clock past time tt parts
      ∙ ap (λ (l : List Called). l ++ flat_map (ended_without course past) (due_before clock course past)) (append-nil (called course past))

  time_owed : (ticks : ℕ) → owed_now course numbered ticks o ≡ owed_now course past ticks o
  time_owed ticks = now_owed_still course past (time ∷ []) (tt, tt) ticks o

  time_asked : (ticks : ℕ) → owed_in course numbered (asked_in_tick ticks course numbered) ≡ owed_in course past (asked_in_tick ticks course past)
  time_asked ticks = ap (λ (l : List Asked). owed_in course numbered l) (tick_still course past (time ∷ []) (tt, tt) ticks) ∙ owed_still course past (time ∷ []) (tt, tt) (asked_in_tick ticks course past)

  pub now_number : settled_clock (past ++ entry.Time o.clock ∷ []) ≡ o.clock → TellsNow devices o frames course past → TellsNow devices o frames course (past ++ entry.Time o.clock ∷ [])
  now_number settled was =
      let parts = parts_all devices course clock past time settled in
      record {
        turns = each-append (MayAnswer devices course) [] past (time ∷ []) was.turns (tt, tt);
        tells = time_tells parts [] was.tells;
        owes = time_asked clock ∙ (was.owes ∙ sym (time_owed clock));
        under = under_still course past (time ∷ []) (tt, tt) o.chip.state.sending was.under;
        failing = subst (λ (l : List Called). HasFailing o.chip.state.failing l) (sym (time_called parts)) was.failing;
      }

  pub before_number : (arriving : Bool) → Parts devices course o.clock past (entry.Time o.clock) → settled_clock past < o.clock → TellsBefore devices arriving o frames course past
      → TellsBefore devices arriving o frames course (past ++ entry.Time o.clock ∷ [])
  before_number arriving parts is_open was = record {
    turns = each-append (MayAnswer devices course) [] past (time ∷ []) was.turns (tt, tt);
    tells =
        subst (λ (l : List Owed). Tells devices (frame_texts frames) (told_by devices clock course numbered) (map (come numbered) l)) (sym (time_owed (clock - 1)))
        (time_tells parts (owed_now course past (clock - 1) o) was.tells);
    owes = λ is below. time_asked (clock - 1) ∙ (was.owes is is_open ∙ sym (time_owed (clock - 1)));
    under = under_still course past (time ∷ []) (tt, tt) o.chip.state.sending was.under;
    calls = was.calls;
    ended = time_called parts ∙ (was.ended ∙ ap (λ (l : List Owed). was.calls ++ ends_in l) (sym (time_owed (clock - 1))));
    failing = was.failing;
  }

  -- what was asked before is what is told there, and what is not told yet
  pub before_parts : (v : Outlook) (arriving : Bool) (left : ℕ) (awaits : Bool) (coming count : ℕ) (e : Entry) → v.clock ≡ o.clock → settled_clock past < o.clock → settled_clock (past ++ e ∷ []) ≡ o.clock - 1
      → TallyBefore devices v arriving left awaits coming count course past → Parts devices course o.clock past e
  before_parts v arriving left awaits coming count e same is_open settled was =
      let below : settled_clock past < v.clock = subst (λ (n : ℕ). settled_clock past < n) (sym same) is_open in
      let at : settled_clock (past ++ e ∷ []) ≡ v.clock - 1 = settled ∙ ap (λ (n : ℕ). n - 1) (sym same) in
      ap (λ (n : ℕ). due_before n course past) (sym same)
      ∙ (before_due devices v arriving left awaits coming count course past was
      ∙ sym (ap₂ (λ (a b : List Asked). a ++ b)
      (ap (λ (n : ℕ). due_before n course past) at ∙ before_silent devices v arriving left awaits coming count course past was)
      (ap₂ (λ (m n : ℕ). filter (comes_within m n) (asked course past)) at (sym same) ∙ before_window devices v arriving left awaits coming count course past was below)))

  -- ---- the words of a line

  pub now_said : (words : List ℕ) → settled_clock (past ++ entry.Said words ∷ []) ≡ o.clock → TellsNow devices o frames course past → TellsNow devices o frames course (past ++ entry.Said words ∷ [])
  now_said words settled was =
      let told : List Entry = entry.Said words ∷ [] in
      record {
        turns = each-append (MayAnswer devices course) [] past told was.turns (tt, tt);
        tells = subst (λ (l : List Given). Tells devices (frame_texts frames) l []) (sym (told_said devices course clock past words settled)) was.tells;
        owes =
            ap (λ (l : List Asked). owed_in course (past ++ told) l) (tick_still course past told (tt, tt) clock)
            ∙ (owed_still course past told (tt, tt) (asked_in_tick clock course past) ∙ (was.owes ∙ sym (now_owed_still course past told (tt, tt) clock o)));
        under = under_still course past told (tt, tt) o.chip.state.sending was.under;
        failing = subst (λ (l : List Called). HasFailing o.chip.state.failing l) (sym (called_said devices course clock past words settled)) was.failing;
      }

  -- ---- ticks

  -- one begins: what was asked in the tick before is to come
  pub now_ticks : (v : Outlook) (awaits : Bool) (coming count : ℕ) → v.clock ≡ o.clock → TallyNow devices v awaits coming count course past → TellsNow devices o frames course past
      → TellsBefore devices true (record o { clock = o.clock + 1; in_tick = true; stamped = false }) frames course past
  now_ticks v awaits coming count same tally was = record {
    turns = was.turns;
    tells =
        subst (λ (l : List Given). Tells devices (frame_texts frames) l (map (come past) (owed_now course past (clock + 1 - 1) o))) (sym told_next)
        (subst (λ (l : List Owed). Tells devices (frame_texts frames) (told_by devices clock course past ++ map (come past) here_owed) (map (come past) l)) (was.owes ∙ sym owed)
        (tells_more devices (frame_texts frames) (told_by devices clock course past) [] (map (come past) here_owed) (map (come past) here_owed) (alike_same devices (map (come past) here_owed)) was.tells));
    owes = λ is below. ap (λ (n : ℕ). owed_in course past (asked_in_tick n course past)) (less clock) ∙ (was.owes ∙ sym owed);
    under = was.under;
    calls = called_by clock course past;
    ended =
        ap (λ (l : List Asked). called course past ++ flat_map (ended_without course past) l) next
        ∙ (ap (λ (l : List Called). called course past ++ l) (flat_map-append (ended_without course past) (due_before clock course past) asked_here)
        ∙ (sym (append_assoc (called course past) (flat_map (ended_without course past) (due_before clock course past)) (flat_map (ended_without course past) asked_here))
        ∙ ap (λ (l : List Called). called_by clock course past ++ l) (sym (ends_of course past asked_here) ∙ ap (λ (l : List Owed). ends_in l) (was.owes ∙ sym owed))));
    failing = was.failing;
  }
    where
      less : (n : ℕ) → n + 1 - 1 ≡ n
      less n = omega arith

      asked_here : List Asked
      asked_here = asked_in_tick clock course past

      here_owed : List Owed
      here_owed = owed_in course past (asked_in_tick clock course past)

      owed : owed_now course past (clock + 1 - 1) o ≡ owed_now course past clock o
      owed = ap (λ (n : ℕ). owed_now course past n o) (less clock)

      next : due_before (clock + 1) course past ≡ due_before clock course past ++ asked_in_tick clock course past
      next =
          ap (λ (n : ℕ). due_before (n + 1) course past) (sym same)
          ∙ (now_next devices v awaits coming count course past tally
          ∙ sym (ap₂ (λ (a b : List Asked). a ++ b) (ap (λ (n : ℕ). due_before n course past) (sym same) ∙ now_silent devices v awaits coming count course past tally)
          (ap (λ (n : ℕ). asked_in_tick n course past) (sym same) ∙ now_here devices v awaits coming count course past tally)))

      told_next : told_by devices (clock + 1) course past ≡ told_by devices clock course past ++ map (come past) (owed_in course past (asked_in_tick clock course past))
      told_next =
          ap (λ (l : List Asked). given devices course past ++ map (come past) (owed_in course past l)) next
          ∙ (ap (λ (l : List Owed). given devices course past ++ map (come past) l) (owed_both course past (due_before clock course past) (asked_in_tick clock course past))
          ∙ (ap (λ (l : List Given). given devices course past ++ l) (map-append (come past) (owed_in course past (due_before clock course past)) (owed_in course past (asked_in_tick clock course past)))
          ∙ sym (append_assoc (given devices course past) (map (come past) (owed_in course past (due_before clock course past))) (map (come past) (owed_in course past (asked_in_tick clock course past))))))

  -- all results have come
  pub before_over : (v : Outlook) (arriving : Bool) (left : ℕ) (awaits : Bool) (coming count : ℕ) → v.clock ≡ o.clock → o.due ≡ [] → TallyBefore devices v arriving left awaits coming count course past
      → TellsBefore devices arriving o frames course past → TellsNow devices o frames course past
  before_over v arriving left awaits coming count same none tally was = record {
    turns = was.turns;
    tells = subst (λ (l : List Owed). Tells devices (frame_texts frames) (told_by devices clock course past) (map (come past) l)) (owed (clock - 1)) was.tells;
    owes = ap (λ (l : List Asked). owed_in course past l) (ap (λ (n : ℕ). asked_in_tick n course past) (sym same) ∙ before_none devices v arriving left awaits coming count course past tally) ∙ sym (owed clock);
    under = was.under;
    failing =
        subst (λ (l : List Called). HasFailing o.chip.state.failing l) (sym (was.ended ∙ (ap (λ (l : List Owed). was.calls ++ ends_in l) (owed (clock - 1)) ∙ append-nil was.calls))) was.failing;
  }
    where
      owed : (ticks : ℕ) → owed_now course past ticks o ≡ []
      owed ticks = ap (λ (due : List Due). owed_by (last_sending course past) o.chip.state.sending o.calls ticks due) none

  -- all frames have arrived
  pub before_arrived : TellsBefore devices true o frames course past → TellsBefore devices false o frames course past
  before_arrived was = record {
    turns = was.turns;
    tells = was.tells;
    owes = λ is below. absurd (let no : false ≡ true = is in cc);
    under = was.under;
    calls = was.calls;
    ended = was.ended;
    failing = was.failing;
  }

  -- ---- an entry with which the chip has more for its host, and no SendData ends

  pub now_entry : (e : Entry) (more : List FrameParts) → IsOther e → before_results past e ≡ past ++ e ∷ [] → settled_clock past ≡ o.clock → settled_clock (past ++ e ∷ []) ≡ o.clock → MayAnswer devices course past e
      → given_at devices course past e ≡ as_given more ++ flat_map (results_of course past e) (came_due course past e) → ended_at course past e ≡ [] → TellsNow devices o frames course past
      → TellsNow devices o (frames ++ more) course (past ++ e ∷ [])
  now_entry e more other at settled now may gives ends was = record {
    turns = each-append (MayAnswer devices course) [] past (e ∷ []) was.turns (may, tt);
    tells = subst (λ (l : List Given). Tells devices (frame_texts (frames ++ more)) l []) (sym told) (subst (λ (l : List (List ℕ)). Tells devices l (given devices course past ++ as_given more) []) (sym (frames_both frames more)) grown);
    owes =
        ap (λ (l : List Asked). owed_in course later l) (tick_still course past (e ∷ []) (other, tt) clock)
        ∙ (owed_still course past (e ∷ []) (other, tt) (asked_in_tick clock course past) ∙ (was.owes ∙ sym (now_owed_still course past (e ∷ []) (other, tt) clock o)));
    under = under_still course past (e ∷ []) (other, tt) o.chip.state.sending was.under;
    failing = subst (λ (l : List Called). HasFailing o.chip.state.failing l) (sym called_same) was.failing;
  }
    where
      later : List Entry
      later = past ++ e ∷ []

      parts : Parts devices course clock past e
      parts = parts_all devices course clock past e now

      none : due_before clock course past ≡ []
      none = none_filtered (settled_clock past) clock (sym settled) (asked course past)

      told : told_by devices clock course (past ++ e ∷ []) ≡ given devices course past ++ as_given more
      told =
          told_grows devices course clock past e other parts (as_given more) gives at
          ∙ (ap (λ (l : List Asked). (given devices course past ++ as_given more) ++ map (come (past ++ e ∷ [])) (owed_in course past l)) none ∙ append-nil (given devices course past ++ as_given more))

      before : Tells devices (frame_texts frames) (given devices course past) []
      before =
          subst (λ (l : List Given). Tells devices (frame_texts frames) l [])
          (ap (λ (l : List Asked). given devices course past ++ map (come past) (owed_in course past l)) none ∙ append-nil (given devices course past)) was.tells

      grown : Tells devices (frame_texts frames ++ frame_texts more) (given devices course past ++ as_given more) []
      grown =
          tells_those devices (frame_texts frames) (frame_texts more) (given devices course past ++ as_given more) (as_given more) [] (tells_own devices more)
          (subst (λ (l : List Given). Tells devices (frame_texts frames) (given devices course past ++ as_given more) l) (sym (append-nil (as_given more)))
          (tells_more devices (frame_texts frames) (given devices course past) [] (as_given more) (as_given more) (alike_same devices (as_given more)) before))

      called_same : called_by clock course (past ++ e ∷ []) ≡ called_by clock course past
      called_same =
          called_grows_by devices course clock past e other parts
          ∙ ap (λ (l : List Called). l ++ flat_map (ended_without course past) (due_before clock course past)) (ap (λ (l : List Called). called course past ++ l) ends ∙ append-nil (called course past))
