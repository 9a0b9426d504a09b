-- What is known over a stretch while the device of a node that sleeps stays awake is known until it is woken, and then over the ticks that its commands need; what has ended by
-- then has ended in the end.
use Rattle.std.proofs.Common.{◌≡◌, ◌≤◌, ℕ, ◌+◌, ◌&&◌, nat_le, inl, inr, Bool, true, false, List, [], ◌∷◌, ◌++◌, refl, sym, ap, ◌∙◌, arith}
use Rattle.std.specs.Prelude.{◌⊎◌}
use Rattle.std.proofs.lemmas.Bool.Decides.{nat_tests}
use Rattle.zw_text.specs.declared.line.Line.{Line}
use Rattle.zw_text.specs.declared.entry.Entry.{Entry}
use Rattle.zw_text.specs.declared.entry.Entry.TheVariants as entry
use Rattle.zw_text.specs.Transcript.{line_of, lines_run}
use Rattle.law_time.specs.Stretches.{turns, turn_of, wakes_never}
use Rattle.chip_sim.specs.Nodes.{is_marked}
use Rattle.world_model.specs.Events.{Event, entries, happens, May}
use Rattle.world_model.specs.State.{Machine}
use Rattle.proof_answered.specs.proof_calm.proof_work.Phases.{AsksNothing}
use Rattle.proof_answered.specs.proof_calm.proof_work.proof_walk.Phases.{Phase, Between, Said_line, Goes, Turns}
use Rattle.proof_answered.specs.proof_calm.proof_work.proof_walk.Walk.{WalkWhere}
use Rattle.proof_answered.specs.proof_calm.Resting.{LineAt}
use Rattle.proof_answered.proofs.proof_traffic_Parts.{Airs}
use Rattle.proof_answered.proofs.SleeperTexts.{Wakes_it, before_next, before_or_after, before_said, before_turn, said_never, same_turns}
use Rattle.proof_answered.proofs.Unmarked.{nothing_asked}
use Rattle.proof_answered.specs.Sleepers.{AllHear, All_listen, IsAfter, IsAlone, IsBefore, One_sleeps}
use Rattle.proof_in_time.specs.Coming.{IsKeptFor, KnowWaits}
use Rattle.proof_in_time.specs.InHand.{ticks_begun}
use Rattle.proof_in_time.specs.InStep.{IsPlainly}
use Rattle.proof_in_time.specs.Sleeping.{IsPlainlyUp, SleepsSo}
use Rattle.proof_in_time.proofs.Bounded.{Devices}
use Rattle.proof_in_time.proofs.Keeping.{event_lines, kept_before}
use Rattle.proof_in_time.proofs.Lively.{AllLively, KindsStay, SaySo, clock_least, clock_most, first_lively, lively_on, lively_said, lively_turn, up_at}
use Rattle.proof_in_time.proofs.Plainly.{Tells}
use Rattle.proof_in_time.proofs.Rising.{not_both}
use Rattle.proof_in_time.proofs.QuietPhases.{KnowQuiet, QuietAt, quiet_on, quiet_said, quiet_turn}

-- what is so of the request under way, from phase to phase, and what the frame of the host that arrives says by that
pub record Asking (these : List Bool) (Asked : Phase → Machine → Type 0) : Type 0 where
  pub said : (m : Machine) (line : Line) → Asked Between m → Asked (Said_line line) m
  pub on : (here next : Phase) (past : List Entry) (m : Machine) (event : Event) → Goes here m event next → May m event → IsPlainlyUp these m event → IsKeptFor these (past ++ entries m event) → KnowWaits these here past m
      → KnowWaits these next (past ++ entries m event) (happens m event) → Asked here m → Asked next (happens m event)
  pub turn : (here next : Phase) (past : List Entry) (m : Machine) → Turns here m next → IsKeptFor these past → KnowWaits these here past m → KnowWaits these next past m → Asked here m → Asked next m
  pub says : (here : Phase) (past : List Entry) (m : Machine) → IsKeptFor these past → KnowWaits these here past m → Asked here m → (n : ℕ) → IsAlone these n → SaySo n m

-- no line so far wakes one of these
abbrev pub AreUnwoken : List Bool → List Entry → Type 0
AreUnwoken these past = (n : ℕ) → is_marked these n ≡ true → wakes_never (turns n past) ≡ true

unwoken_event : (these : List Bool) (past told : List Entry) → lines_run told ≡ [] → AreUnwoken these (past ++ told) → AreUnwoken these past
unwoken_event these past told none are n marked = sym (ap wakes_never (same_turns n past told none)) ∙ are n marked

both_first : (a b : Bool) → (a && b) ≡ true → a ≡ true
both_first true b is = refl
both_first false b is = absurd (let wrong : false ≡ true = is in cc)

unwoken_said : (these : List Bool) (past : List Entry) (words : List ℕ) (line : Line) → line_of (entry.Said words) ≡ line ∷ [] → AreUnwoken these (past ++ entry.Said words ∷ []) → AreUnwoken these past
unwoken_said these past words line read are n marked = both_first (wakes_never (turns n past)) (wakes_never (turn_of n line)) (sym (said_never n past words line read) ∙ are n marked)

module _ (airs : Airs) (laws : Devices) (tells : Tells) (stays : KindsStay) (these : List Bool) (Asked : Phase → Machine → Type 0) (asking : Asking these Asked) where
  line_then : (here : Phase) (past : List Entry) (m : Machine) → IsKeptFor these past → KnowWaits these here past m → LineAt here m
  line_then here past m is known = (((known is).0.0.0 is.worked.stretched).0.tied is.worked.stretched.quiet).0

  -- what is assumed of an event is so
  pub up_then : (limit : ℕ) (here next : Phase) (past : List Entry) (m : Machine) (event : Event) → Goes here m event next → IsPlainly these m event → IsKeptFor these past → KnowWaits these here past m → AllLively these limit here past m → Asked here m
      → IsPlainlyUp these m event
  up_then limit here next past m event goes plain is known lively asked = (plain, by (known is).1.hears)
    where
      by : AllHear these here past m → SleepsSo these m event
      by (All_listen all) = λ k marked other. absurd (not_both k m.outside.devices (all.nodes k marked) other)
      by (One_sleeps n alone frames sleeper at) =
          λ k marked other.
          up_at airs laws tells these limit n alone here past m (λ j marks. (plain j marks).step) sleeper at (λ h T. before_or_after n h T) (lively n alone.marked) (asking.says here past m is known asked n alone) next event goes (line_then here past m is known)

  module _ (K : Phase → List Entry → Machine → Type 0) (waits : (here : Phase) (past : List Entry) (m : Machine) → K here past m → KnowWaits these here past m) (walk : WalkWhere (IsPlainlyUp these) AsksNothing K) where
    -- ---- before it is woken

    abbrev pub Unwoken : Phase → List Entry → Machine → Type 0
    Unwoken here past m = K here past m × ((n : ℕ) → IsAlone these n → IsBefore n here past) × Asked here m

    abbrev pub KnowUnwoken : Phase → List Entry → Machine → Type 0
    KnowUnwoken here past m = IsKeptFor these past → AreUnwoken these past → Unwoken here past m

    before_on : (here next : Phase) (past : List Entry) (m : Machine) (event : Event) → Goes here m event next → lines_run (entries m event) ≡ [] → AreUnwoken these (past ++ entries m event) → (n : ℕ) → IsAlone these n → IsBefore n here past
        → IsBefore n next (past ++ entries m event)
    before_on here next past m event goes none unwoken n alone before = by (before_next n past (entries m event) none here next m event goes before)
      where
        by : (IsBefore n next (past ++ entries m event) × (Wakes_it n event → ⊥)) ⊎ (IsAfter n next (past ++ entries m event) × Wakes_it n event) → IsBefore n next (past ++ entries m event)
        by (inl (still, not)) = still
        by (inr (after, wakes)) = absurd (let wrong : true ≡ false = sym (unwoken n alone.marked) ∙ after.woken in cc)

    unwoken_on : (here next : Phase) (past : List Entry) (m : Machine) (event : Event) → Goes here m event next → May m event → IsPlainly these m event → IsKeptFor these (past ++ entries m event) → AreUnwoken these (past ++ entries m event)
        → KnowUnwoken here past m → Unwoken next (past ++ entries m event) (happens m event)
    unwoken_on here next past m event goes may plain is unwoken known =
        let none = event_lines m event may in
        let before = kept_before these past (entries m event) is in
        let was = known before (unwoken_event these past (entries m event) none unwoken) in
        let waits_now = waits here past m was.0 in
        let up = up_then 0 here next past m event goes plain before waits_now (first_lively these 0 here past m was.1 (waits_now before).1.hears) was.2 in
        let later = (walk.event here next past m event goes may up was.0).1 in
        (later, (λ n alone. before_on here next past m event goes none unwoken n alone (was.1 n alone)), asking.on here next past m event goes may up is waits_now (waits next (past ++ entries m event) (happens m event) later) was.2)

    pub unwoken_walk : WalkWhere (IsPlainly these) AsksNothing KnowUnwoken
    unwoken_walk = record {
      said = λ past m words line read known. (
        tt,
        λ is unwoken.
            let was = known (kept_before these past (entry.Said words ∷ []) is) (unwoken_said these past words line read unwoken) in
            ((walk.said past m words line read was.0).1, (λ n alone. before_said n past words line read (was.1 n alone)), asking.said m line was.2),
      );
      event = λ here next past m event goes may plain known. (nothing_asked past (entries m event), λ is unwoken. unwoken_on here next past m event goes may plain is unwoken known);
      turn = λ here next past m turns known is unwoken.
          let was = known is unwoken in
          let waits_now = waits here past m was.0 in
          let later = walk.turn here next past m turns was.0 in
          (later, (λ n alone. before_turn n here next past m turns (line_then here past m is waits_now) (was.1 n alone)), asking.turn here next past m turns is waits_now (waits next past m later) was.2);
    }

    -- ---- until so many ticks have begun

    module _ (limit : ℕ) where
      abbrev pub Until : Phase → List Entry → Machine → Type 0
      Until here past m = K here past m × AllLively these limit here past m × Asked here m

      abbrev pub KnowUntil : Phase → List Entry → Machine → Type 0
      KnowUntil here past m = (limit ≤ ticks_begun m + 150) × (IsKeptFor these past → ticks_begun m ≤ limit → Until here past m)

      until_on : (here next : Phase) (past : List Entry) (m : Machine) (event : Event) → Goes here m event next → May m event → IsPlainly these m event → IsKeptFor these (past ++ entries m event) → ticks_begun (happens m event) ≤ limit
          → KnowUntil here past m → Until next (past ++ entries m event) (happens m event)
      until_on here next past m event goes may plain is few known =
          let least = clock_least m event in
          let before = kept_before these past (entries m event) is in
          let was = known.1 before (omega (arith, least, few)) in
          let waits_now = waits here past m was.0 in
          let up = up_then limit here next past m event goes plain before waits_now was.1 was.2 in
          let later = (walk.event here next past m event goes may up was.0).1 in (
            later,
            lively_on airs stays these limit here next past m event goes (line_then here past m before waits_now) (event_lines m event may) known.0 few was.1,
            asking.on here next past m event goes may up is waits_now (waits next (past ++ entries m event) (happens m event) later) was.2,
          )

      still_soon : (m : Machine) (event : Event) → limit ≤ ticks_begun m + 150 → limit ≤ ticks_begun (happens m event) + 150
      still_soon m event soon = let least = clock_least m event in omega (arith, least, soon)

      said_until : (past : List Entry) (m : Machine) (words : List ℕ) (line : Line) → line_of (entry.Said words) ≡ line ∷ [] → KnowUntil Between past m → KnowUntil (Said_line line) (past ++ entry.Said words ∷ []) m
      said_until past m words line read known = (
        known.0,
        λ is few.
            let was = known.1 (kept_before these past (entry.Said words ∷ []) is) few in
            ((walk.said past m words line read was.0).1, lively_said airs stays these limit past m words line read was.1, asking.said m line was.2),
      )

      turn_until : (here next : Phase) (past : List Entry) (m : Machine) → Turns here m next → KnowUntil here past m → KnowUntil next past m
      turn_until here next past m turns known = (
        known.0,
        λ is few.
            let was = known.1 is few in
            let waits_now = waits here past m was.0 in
            let later = walk.turn here next past m turns was.0 in
            (later, lively_turn airs stays these limit here next past m turns (line_then here past m is waits_now) was.1, asking.turn here next past m turns is waits_now (waits next past m later) was.2),
      )

      pub until_walk : WalkWhere (IsPlainly these) AsksNothing KnowUntil
      until_walk = record {
        said = λ past m words line read known. (tt, said_until past m words line read known);
        event = λ here next past m event goes may plain known. (nothing_asked past (entries m event), (still_soon m event known.0, λ is few. until_on here next past m event goes may plain is few known));
        turn = turn_until;
      }

      -- ---- and what is so then stays so

      module _ (E : Machine → Type 0) (stays_so : (here next : Phase) (m : Machine) (event : Event) → Goes here m event next → QuietAt here → E m → E (happens m event))
          (over : (here : Phase) (past : List Entry) (m : Machine) → IsKeptFor these past → K here past m → limit ≤ ticks_begun m → E m) where
        abbrev pub KnowEnded : Phase → List Entry → Machine → Type 0
        KnowEnded here past m = (KnowUntil here past m × KnowQuiet here past) × (IsKeptFor these past → limit ≤ ticks_begun m → E m)

        ended_on : (here next : Phase) (past : List Entry) (m : Machine) (event : Event) → Goes here m event next → May m event → IsPlainly these m event → IsKeptFor these (past ++ entries m event) → limit ≤ ticks_begun (happens m event)
            → KnowEnded here past m → E (happens m event)
        ended_on here next past m event goes may plain is reached known = by (nat_le limit (ticks_begun m)) refl
          where
            before : IsKeptFor these past
            before = kept_before these past (entries m event) is

            by : (b : Bool) → nat_le limit (ticks_begun m) ≡ b → E (happens m event)
            by true did = stays_so here next m event goes (known.0.1 before.worked.stretched.quiet) (known.1 before (let so : limit ≤ ticks_begun m = grind (arith, nat_tests, did) in so))
            by false not =
                let most = clock_most m event in
                let less : ticks_begun m + 1 ≤ limit = grind (arith, nat_tests, not) in
                over next (past ++ entries m event) (happens m event) is (until_on here next past m event goes may plain is (omega (arith, most, less)) known.0.0).0 reached

        pub ended_walk : WalkWhere (IsPlainly these) AsksNothing KnowEnded
        ended_walk = record {
          said = λ past m words line read known. (
            tt,
            ((said_until past m words line read known.0.0, quiet_said past words line read), λ is reached. known.1 (kept_before these past (entry.Said words ∷ []) is) reached),
          );
          event = λ here next past m event goes may plain known. (
            nothing_asked past (entries m event),
            (
              ((until_walk.event here next past m event goes may plain known.0.0).1, quiet_on here next past m event goes known.0.1),
              λ is reached. ended_on here next past m event goes may plain is reached known,
            ),
          );
          turn = λ here next past m turns known. ((turn_until here next past m turns known.0.0, quiet_turn here next past m turns known.0.1), known.1);
        }
