-- From phase to phase the host may serve these nodes: it listens to them and has no task of its own, or these are one alone that sleeps; what is on its way to it asks for nothing.
use Rattle.std.proofs.Common.{◌≡◌, ◌<◌, ℕ, Bool, true, false, List, [], ◌∷◌, ◌++◌, length, sym, ◌∙◌, arith}
use Rattle.zw_text.specs.declared.entry.Entry.{Entry}
use Rattle.zw_text.specs.declared.entry.Entry.TheVariants as entry
use Rattle.zw_text.specs.declared.line.Line.{Line}
use Rattle.zw_text.specs.Transcript.{line_of, lines_run}
use Rattle.chip_sim.specs.Nodes.{is_marked}
use Rattle.host_model.specs.State.{HostState, node_of}
use Rattle.world_model.specs.Events.{Event, happens, entries, May}
use Rattle.world_model.specs.State.{Machine}
use Rattle.proof_answered.specs.proof_calm.proof_work.Phases.{AsksNothing}
use Rattle.proof_answered.specs.proof_calm.proof_work.proof_walk.Phases.{Phase, Between, Said_line, Goes, Turns}
use Rattle.proof_answered.specs.proof_calm.proof_work.proof_walk.Walk.{WalkWhere}
use Rattle.proof_answered.specs.proof_calm.Resting.{LineAt}
use Rattle.proof_answered.specs.Sleepers.{HasSleeper}
use Rattle.proof_answered.proofs.FirstWalk.{first_on}
use Rattle.proof_answered.proofs.Outwards.{awaits_of}
use Rattle.proof_answered.proofs.Peopled.{covers_of}
use Rattle.proof_answered.proofs.SleeperSteps.{quiet_on}
use Rattle.proof_answered.proofs.SleeperTexts.{after_next, after_said, after_turn}
use Rattle.proof_answered.proofs.Speaking.{Same, event_of, next_is_so, pending_from}
use Rattle.proof_answered.proofs.Staffed.{line_on}
use Rattle.proof_answered.proofs.Staffing.{sent_on}
use Rattle.proof_answered.proofs.Unmarked.{nothing_asked}
use Rattle.proof_answered.proofs.proof_traffic_Parts.{Airs}
use Rattle.proof_messages.specs.Reporting.{TellsPlainly}
use Rattle.proof_in_time.specs.Coming.{IsKeptFor, KnowPlainly}
use Rattle.proof_in_time.specs.InHand.{Serves, SleepsAlone}
use Rattle.proof_in_time.specs.Plainly.{SpeakPlainly}
use Rattle.proof_in_time.specs.Sleeping.{IsPlainlyUp}
use Rattle.proof_in_time.proofs.InHand.{HandAt, Hears_so, event_hand, listens_kept}
use Rattle.proof_in_time.proofs.Keeping.{event_lines, kept_before, none_unkept, told_kept}
use Rattle.proof_in_time.proofs.Lasting.{in_time, node_within}
use Rattle.proof_in_time.proofs.Plainly.{Tells, speak_so}
use Rattle.proof_in_time.proofs.Queued.{queue_on}
use Rattle.proof_in_time.proofs.Rising.{HasRisen, Risen, rests_at}

-- the host serves these, and what is on its way to it asks it for nothing
pub record AreServed (listening : Bool) (these : List Bool) (m : Machine) : Type 0 where
  pub serve : Serves listening these m
  pub speak : SpeakPlainly these m

-- what is known beside
abbrev pub KnowServed : Bool → List Bool → Phase → List Entry → Machine → Type 0
KnowServed listening these here past m = KnowPlainly these here past m × (IsKeptFor these past → AreServed listening these m)

-- ---- a node that has risen

module _ (airs : Airs) (same : Same) (these : List Bool) (many : length these ≡ 233) (n : ℕ) (marked : is_marked these n ≡ true) where
  risen_next : (here next : Phase) (past : List Entry) (m : Machine) (event : Event) → Goes here m event next → May m event → IsPlainlyUp these m event → IsKeptFor these (past ++ entries m event) → KnowPlainly these here past m
      → KnowPlainly these next (past ++ entries m event) (happens m event) → SleepsAlone these m → HasRisen n here past m → HasRisen n next (past ++ entries m event) (happens m event)
  risen_next here next past m event goes may has is known later (k, (alone, asleep)) risen =
      let before = kept_before these past (entries m event) is in
      let was = known.0 before in
      let then_is = later.0 is in
      let none : lines_run (entries m event) ≡ [] = event_lines m event may in
      let there = rests_at these n here past m marked (k, (alone, asleep)) was.1.hears in
      let up = has.1 n marked there.0 in
      record {
        later = after_next n here next past (entries m event) m event goes none risen.later;
        quiet = quiet_on airs same these n (record { marked = marked; only = λ j other. alone.only j other ∙ sym (alone.only n marked) }) many here next past m event goes may is.worked (λ worked. was.0) (λ worked. then_is.0) none
            (in_time these here past m event before known.0) up.1 risen.later risen.quiet;
      }

  pub risen_on : (listening : Bool) (here next : Phase) (past : List Entry) (m : Machine) (event : Event) → Goes here m event next → May m event → IsPlainlyUp these m event → IsKeptFor these (past ++ entries m event) → KnowPlainly these here past m
      → KnowPlainly these next (past ++ entries m event) (happens m event) → Serves listening these m → Risen listening n here past m → Risen listening n next (past ++ entries m event) (happens m event)
  risen_on true here next past m event goes may has is known later serve risen = tt
  risen_on false here next past m event goes may has is known later serve risen = risen_next here next past m event goes may has is known later serve risen

module _ (these : List Bool) (n : ℕ) (marked : is_marked these n ≡ true) where
  pub risen_turn : (listening : Bool) (here next : Phase) (past : List Entry) (m : Machine) → Turns here m next → LineAt here m → Risen listening n here past m → Risen listening n next past m
  risen_turn true here next past m turns at risen = tt
  risen_turn false here next past m turns at risen = record { later = after_turn n here next past m turns at risen.later; quiet = risen.quiet }

  pub risen_said : (listening : Bool) (past : List Entry) (m : Machine) (words : List ℕ) (line : Line) → line_of (entry.Said words) ≡ line ∷ [] → IsKeptFor these (past ++ entry.Said words ∷ []) → Risen listening n Between past m
      → Risen listening n (Said_line line) (past ++ entry.Said words ∷ []) m
  risen_said true past m words line read is risen = tt
  risen_said false past m words line read is risen = record { later = after_said n past words line read (is.worked.woken n marked) risen.later; quiet = risen.quiet }

-- ---- the host may serve these nodes

module _ (airs : Airs) (these : List Bool) (many : length these ≡ 233) (none : is_marked these 0 ≡ false) (same : Same) (tells : Tells) (stays : (n : ℕ) (m : Machine) (event : Event) → HasSleeper n m.outside.devices → HasSleeper n (happens m event).outside.devices)
    (plainly : WalkWhere (IsPlainlyUp these) AsksNothing (KnowPlainly these)) where
  listens_on : (here next : Phase) (past : List Entry) (m : Machine) (event : Event) → Goes here m event next → May m event → IsKeptFor these (past ++ entries m event) → KnowServed true these here past m → (n : ℕ) → is_marked these n ≡ true
      → (node_of (happens m event).host.state n).listens ≡ true
  listens_on here next past m event goes may is known n marked =
      let before = kept_before these past (entries m event) is in
      let stretched = before.worked.stretched in
      let staff = (known.0.0 before).0 in
      let tied = (staff.0.0 stretched).0.tied stretched.quiet in
      let node = node_within these many none n marked in
      let below : n < 233 = (let few = node.1 in omega (arith, few)) in
      let later = first_on (λ (h : HostState). HandAt (Hears_so true) (listens_kept true) n h.nodes) (λ h e lasts may_it at. event_hand (Hears_so true) (listens_kept true) n below h e lasts may_it at) airs here next m event goes may
      (in_time these here past m event before known.0.0) tied.0 tied.1 tied.6 (staff.0.0 stretched).1 (λ k same_event on. absurd (none_unkept m event (told_kept these past (entries m event) is) k same_event))
      (record { places = tied.7.facts.nodes.places; hand = (known.1 before).serve.listens n marked }) in
      later.hand

  task_on : (here next : Phase) (past : List Entry) (m : Machine) (event : Event) → Goes here m event next → May m event → IsKeptFor these (past ++ entries m event) → KnowServed true these here past m → (happens m event).host.state.requests.queue ≡ []
  task_on here next past m event goes may is known =
      let before = kept_before these past (entries m event) is in
      let stretched = before.worked.stretched in
      let staff = (known.0.0 before).0 in
      let tied = (staff.0.0 stretched).0.tied stretched.quiet in
      let was = known.1 before in
      queue_on airs these here next m event goes may tied.0 tied.6 was.speak was.serve (staff.0.1 stretched) was.serve.no_task

  serve_on : (listening : Bool) (here next : Phase) (past : List Entry) (m : Machine) (event : Event) → Goes here m event next → May m event → IsKeptFor these (past ++ entries m event) → KnowServed listening these here past m → Serves listening these (happens m event)
  serve_on true here next past m event goes may is known = record { listens = listens_on here next past m event goes may is known; no_task = task_on here next past m event goes may is known }
  serve_on false here next past m event goes may is known =
      let sleeps = (known.1 (kept_before these past (entries m event) is)).serve in
      (sleeps.0, (sleeps.1.0, stays sleeps.0 m event sleeps.1.1))

  speaks_on : (listening : Bool) (here next : Phase) (past : List Entry) (m : Machine) (event : Event) → Goes here m event next → May m event → IsPlainlyUp these m event → IsKeptFor these (past ++ entries m event) → KnowServed listening these here past m
      → KnowPlainly these next (past ++ entries m event) (happens m event) → SpeakPlainly these (happens m event)
  speaks_on listening here next past m event goes may plain is known later =
      let before = kept_before these past (entries m event) is in
      let stretched = before.worked.stretched in
      let staff = (known.0.0 before).0 in
      let tied = (staff.0.0 stretched).0.tied stretched.quiet in
      let next_tied = ((later.0 is).0.0.0 is.worked.stretched).0.tied is.worked.stretched.quiet in
      let sent = sent_on these here next m event goes may tied.0 tied.6 (staff.0.1 stretched).request in
      let awaits = awaits_of here m tied.1 in
      let was = (known.1 before).speak in
      let devices = speak_so these m (λ n marked. (plain.0 n marked).step) (λ n marked. (plain.0 n marked).whole) tells in
      record {
        frames = event_of airs these TellsPlainly many m awaits was.frames same event (covers_of here next m event goes tied.0) may sent (line_on these here next m event goes staff.1.lines) staff.1.speak.devices devices;
        pending = pending_from these TellsPlainly airs here next m event goes may (tied.0, tied.2, tied.3, tied.6) tied.1 next_tied.0 (next_is_so airs these TellsPlainly many m awaits was.frames) was.pending;
      }

  pub served_walk : (listening : Bool) → WalkWhere (IsPlainlyUp these) AsksNothing (KnowServed listening these)
  served_walk listening = record {
    said = λ past m words line read known. (tt, ((plainly.said past m words line read known.0).1, λ is. known.1 (kept_before these past (entry.Said words ∷ []) is)));
    event = λ here next past m event goes may plain known.
        let later = (plainly.event here next past m event goes may plain known.0).1 in (
          nothing_asked past (entries m event),
          (later, λ is. record { serve = serve_on listening here next past m event goes may is known; speak = speaks_on listening here next past m event goes may plain is known later }),
        );
    turn = λ here next past m turns known. (plainly.turn here next past m turns known.0, known.1);
  }
