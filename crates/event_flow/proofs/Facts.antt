-- What holds of a node and of the frames between it and the host after every line, and how each thing that happens keeps it.
use Rattle.std.proofs.Common.{◌≡◌, ℕ, ◌+◌, ◌-◌, ◌≤◌, ◌⊎◌, false, Option, Some, None, List, [], ◌∷◌, ◌++◌, length, ap, refl, inl, inr, arith, length-append}
use Rattle.std.specs.Prelude.{slice_get, min}
use Rattle.std.proofs.lemmas.Bool.Decides.{nat_tests}
use Rattle.supervision.specs.Host.{begun_of, open_session}
use Rattle.supervision.specs.Ends.{EndsAgree, GetFits, ReportFits}
use Rattle.supervision.specs.declared.session.TheConstants.{SUCCESS}
use Rattle.supervision.proofs.EndsLemmas.{all_taken, open_session-Some}
use Rattle.event_flow.specs.declared.frame.Content.{Content}
use Rattle.event_flow.specs.declared.frame.Content.TheVariants.{Event as EventContent, Receipt}
use Rattle.event_flow.specs.declared.frame.Frame.{Frame}
use Rattle.event_flow.specs.State.{NodeState, known_count, unknown_count, may_begin}
use Rattle.event_flow.specs.Flow.{IsPrefix}

-- what a frame that was sent still says: an event is that of its session, and an answer is of a session that the host took
abbrev pub FitsBy : NodeState → ℕ → ℕ → Content → Type 0
FitsBy n session begun (EventContent notice) =
    (command : ℕ) × GetFits n.device.commands (record { session = session; command = command; begun = begun }) × (slice_get n.queued (session - 1) ≡ Some notice)
FitsBy n session begun Receipt = ReportFits (begun_of n.device) n.host (record { session = session; status = SUCCESS; begun = begun })

abbrev pub FrameFits : NodeState → Frame → Type 0
FrameFits n frame = FitsBy n frame.session frame.begun frame.content

-- what holds of a node, whether or not a session may begin
pub record Loose (n : NodeState) : Type 0 where
  pub agrees : EndsAgree n.device n.host
  pub success : n.host.status ≡ SUCCESS
  pub counted : n.host.taken ≡ length n.taken
  pub prefix : IsPrefix n.taken n.queued
  pub begun : begun_of n.device ≤ length n.queued
  pub few : unknown_count n ≤ 16

-- what holds of a node between two lines
pub record NodeInv (n : NodeState) : Type 0 where
  pub loose : Loose n
  pub settled : may_begin n ≡ false

-- each frame that fits goes on to fit
abbrev pub Keeps : NodeState → NodeState → Type 0
Keeps n after = (frame : Frame) → FrameFits n frame → FrameFits after frame

-- ---- open sessions

pub option_cases : (o : Option ℕ) → (o ≡ None) ⊎ ((x : ℕ) × (o ≡ Some x))
option_cases None = inl refl
option_cases (Some x) = inr (x, refl)

pub known-none : (n : NodeState) → open_session n.device ≡ None → known_count n ≡ begun_of n.device
known-none n e = rw (known_count, e) refl

pub known-open : (n : NodeState) (session : ℕ) → open_session n.device ≡ Some session → known_count n ≡ session - 1
known-open n session e = rw (known_count, e) refl

pub open-push : (commands : List ℕ) (command : ℕ) → open_session (record { commands = commands ++ command ∷ []; outcome = None; attempts = 0 }) ≡ Some (length commands + 1)
open-push [] command = refl
open-push (c ∷ cs) command = ap (λ k. Some k) (length-append (c ∷ cs) (command ∷ []))

-- no event is known that the host did not take
pub known_taken : (n : NodeState) → Loose n → known_count n ≤ length n.taken
known_taken n loose =
    elim (option_cases (open_session n.device)) [
      | inl none ↦
          let known = known-none n none in
          let all = all_taken n.device n.host loose.agrees none in
          omega (arith, known, all, loose.counted)
      | inr one ↦
          let known = known-open n one.0 one.1 in
          let last = (open_session-Some n.device one.0 one.1).0 in
          omega (arith, known, last, loose.counted, loose.agrees.one_after)
    ]

-- where no session is open, all events have had theirs
pub all_begun : (n : NodeState) → open_session n.device ≡ None → may_begin n ≡ false → length n.queued ≤ begun_of n.device
all_begun n none settled = grind (arith, nat_tests)

-- how many sessions have begun
pub begun_count : (n : NodeState) → NodeInv n → begun_of n.device ≡ min (length n.queued) (known_count n + 1)
begun_count n inv =
    elim (option_cases (open_session n.device)) [
      | inl none ↦
          let known = known-none n none in
          let all : length n.queued ≤ begun_of n.device = all_begun n none inv.settled in
          let within : begun_of n.device ≤ length n.queued = inv.loose.begun in
          omega (arith, known, all, within)
      | inr one ↦
          let known = known-open n one.0 one.1 in
          let last = open_session-Some n.device one.0 one.1 in
          let within : begun_of n.device ≤ length n.queued = inv.loose.begun in
          omega (arith, known, last.0, last.1, within)
    ]
