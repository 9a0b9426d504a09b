-- That the chip was given just what it has for its host goes on where the next frame on the air arrives: its fate is told, and what comes of that is given.
use Rattle.std.proofs.Common.{◌≡◌, ◌<◌, ℕ, zero, suc, ◌-◌, true, false, List, [], ◌∷◌, ◌++◌, length, map, refl, ap, ◌∙◌, subst, append_assoc, arith}
use Rattle.std.specs.List.{AllByRecursion, flat_map}
use Rattle.serial_frame.specs.Frame.{FrameParts}
use Rattle.serial_link.specs.Rules.{Step}
use Rattle.mesh_sim.specs.declared.event.AirEvent.{AirEvent}
use Rattle.zw_text.specs.declared.entry.Entry.{Entry}
use Rattle.zw_text.specs.declared.entry.Entry.TheVariants as entry
use Rattle.law_transcript.specs.Fates.{first_fate}
use Rattle.law_wire.specs.Asked.{Course, course_of}
use Rattle.law_wire.specs.Results.{came_due, ended_at, settled_clock}
use Rattle.law_wire.specs.Given.{Given, before_results, callback_of, given, given_at, handlers_at, results_of}
use Rattle.law_wire.specs.Answering.{AreOf, MayAnswer}
use Rattle.outside_model.specs.Devices.{State}
use Rattle.outside_model.specs.State.{OuterState, Outcome, each}
use Rattle.outside_model.specs.Air.{deals}
use Rattle.proof_chip.proofs.ChipAccounts.{all_account, steps_by}
use Rattle.proof_chip.specs.Serving.{GoesOn, as_given, frame_texts}
use Rattle.proof_chip.specs.Tally.{Outlook, TallyBefore, TallySo, Timed}
use Rattle.proof_chip.proofs.Arriving.{fate_aside}
use Rattle.proof_chip.proofs.Growing.{serves_aside}
use Rattle.proof_chip.proofs.Settling.{AreIdle}
use Rattle.proof_chip.proofs.Standing.{goes_none}
use Rattle.proof_chip.proofs.Fating.{IsFate, fate_other, fate_timed}
use Rattle.proof_chip.proofs.Reckoning.{settled_now, settled_left}
use Rattle.proof_answers.specs.Telling.{TellSo, TellsBefore}
use Rattle.proof_answers.proofs.Accounts.{Grows, account_grows, posts_by}
use Rattle.proof_answers.proofs.Entering.{Parts, parts_all}
use Rattle.proof_answers.proofs.Informing.{IsCalm}
use Rattle.proof_answers.proofs.Landing.{Ends, before_entry, due_last, entry_are}
use Rattle.proof_answers.proofs.Moving.{gives_on}
use Rattle.proof_answers.proofs.Standing.{before_idle, before_parts}

-- ---- by the transcript

fate_may : (devices : List State) (course : Course) (past : List Entry) (e : Entry) → IsFate e → MayAnswer devices course past e
fate_may devices course past (entry.Heard number) fate = tt
fate_may devices course past (entry.Lost number) fate = tt
fate_may devices course past (entry.Unheard number) fate = tt
fate_may devices course past e fate = absurd fate

fate_results : (past : List Entry) (e : Entry) → IsFate e → before_results past e ≡ past ++ e ∷ []
fate_results past (entry.Heard number) fate = refl
fate_results past (entry.Lost number) fate = refl
fate_results past (entry.Unheard number) fate = refl
fate_results past e fate = absurd fate

-- with a fate its handler frames, and the callbacks of what ends
fate_gives : (devices : List State) (course : Course) (past : List Entry) (e : Entry) → IsFate e
    → given_at devices course past e ≡ (handlers_at past e ++ map callback_of (ended_at course past e)) ++ flat_map (results_of course past e) (came_due course past e)
fate_gives devices course past (entry.Heard number) fate = refl
fate_gives devices course past (entry.Lost number) fate = refl
fate_gives devices course past (entry.Unheard number) fate = refl
fate_gives devices course past e fate = absurd fate

module _ (devices : List State) (v : Outlook) (o : OuterState) (same : v.clock ≡ o.clock) (did : List Step) (here : List Entry) (left : ℕ) (tally : TallySo (TallyBefore devices v true (suc left) false 0) did here o.chip.state.port)
    (e : Entry) (number : ℕ) (fate : IsFate e) (first : first_fate here e ≡ number ∷ []) where
  abbrev heard : List Entry
  heard = here ++ e ∷ []

  timed : Timed o.clock (suc left) false here
  timed = let (frames, serves, are) = tally in subst (λ (n : ℕ). Timed n (suc left) false here) same (are (course_of did) (goes_none (course_of did))).timed

  timed_then : Timed o.clock left false (here ++ e ∷ [])
  timed_then = fate_timed o.clock left here e number fate first timed

  begun : 0 < o.clock
  begun = let (frames, serves, are) = tally in subst (λ (n : ℕ). 0 < n) same (are (course_of did) (goes_none (course_of did))).begun

  settled : settled_clock here ≡ o.clock - 1
  settled = settled_left o.clock left here timed

  is_open : settled_clock here < o.clock
  is_open = let at = settled in let some = begun in omega (arith, at, some)

  parts_by : (count : ℕ) → left ≡ count → (course : Course) → GoesOn (course_of did) course → Parts devices course o.clock here e
  parts_by zero is course goes = parts_all devices course o.clock here e (settled_now o.clock heard (subst (λ (n : ℕ). Timed o.clock n false heard) is timed_then))
  parts_by (suc count) is course goes =
      let (frames, serves, are) = tally in
      before_parts devices o [] course here v true (suc left) false 0 (length frames) e same is_open (settled_left o.clock count heard (subst (λ (n : ℕ). Timed o.clock n false heard) is timed_then)) (are course goes)

  -- what comes of it is given, and the state is such as the transcript says
  pub fate_tells : (there : List State) (rest : List AirEvent) (more : List FrameParts) → posts_by (all_account there rest o) ≡ more → AreIdle (each (deals there) o rest).entries → AllByRecursion IsCalm (each (deals there) o rest).entries
      → ((frames : List FrameParts) (course : Course) → GoesOn (course_of did) course → TellsBefore devices true o frames course here
      → (handlers_at here e ++ map callback_of (ended_at course here e) ≡ as_given more) × Ends o (each (deals there) o rest).outer course here e)
      → TellSo (TellsBefore devices true o) did here o.chip.state.port
      → TellSo (TellsBefore devices true (each (deals there) o rest).outer) (did ++ steps_by (all_account there rest o)) (here ++ (e ∷ (each (deals there) o rest).entries)) (each (deals there) o rest).outer.chip.state.port
  fate_tells there rest more posts idle calm facts (frames, serves, are) =
      let x : Outcome = each (deals there) o rest in
      let p : OuterState = x.outer in
      let (counted, count_serves, counts) = tally in
      let other = fate_other e fate in
      let first_so : TellSo (λ held course all. TellsBefore devices true p (held ++ more) course all × AreOf devices (frame_texts (held ++ more)) (given devices course all)) did heard o.chip.state.port = (
        frames,
        serves_aside did frames here (e ∷ []) o.chip.state.port o.chip.state.port (fate_aside e fate, tt) refl refl serves,
        λ course goes.
            let fact = facts frames course goes (are course goes) in
            let due = due_last devices o p frames course here v (suc left) 0 (length counted) same begun settled (counts course goes) in
            let gives = fate_gives devices course here e fate ∙ ap (λ (l : List Given). l ++ flat_map (results_of course here e) (came_due course here e)) fact.0 in
            let parts = parts_by left refl course goes in (
              before_entry devices o p frames course here e more other (fate_results here e fate) (fate_may devices course here e fate) parts due is_open gives fact.1 (are course goes),
              entry_are devices o p frames course here e more other (fate_results here e fate) (fate_may devices course here e fate) parts due is_open gives (are course goes),
            ),
      ) in
      subst (λ (l : List Entry). TellSo (TellsBefore devices true p) (did ++ steps_by (all_account there rest o)) l p.chip.state.port) (append_assoc here (e ∷ []) x.entries)
      (gives_on devices (λ held course all. TellsBefore devices true p (held ++ more) course all × AreOf devices (frame_texts (held ++ more)) (given devices course all)) (TellsBefore devices true p) did
      (steps_by (all_account there rest o)) heard x.entries more o.chip.state.port p.chip.state.port
      (λ held serves_held. subst (λ (l : List FrameParts). Grows devices did held heard p.chip.state.port x.entries (steps_by (all_account there rest o)) l) posts (account_grows devices did held heard (all_account there rest o) idle serves_held))
      (λ held course was. was.1) (λ held course turns was. before_idle devices p (held ++ more) course heard x.entries idle turns true calm was.0) first_so)
