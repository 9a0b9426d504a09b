-- Which events a host alone does where: its own, those of the request under way, and those behind a frame that was judged; and what is entered of them.
use Rattle.std.proofs.Common.{◌⊎◌, ℕ, ◌+◌, length, inl, inr, List, [], ◌∷◌, sym, subst, ◌≡◌, ◌++◌, refl, ap, ap₂, ◌∙◌}
use Rattle.std.specs.List.{AllByRecursion}
use Rattle.serial_frame.specs.Items.{unit_text}
use Rattle.zw_words.specs.declared.side.Side.TheVariants.{Host}
use Rattle.zw_text.specs.declared.entry.Ended.TheVariants.{Cancelled}
use Rattle.zw_text.specs.declared.entry.Entry.{Entry}
use Rattle.zw_text.specs.declared.entry.Entry.TheVariants as entry
use Rattle.zw_text.specs.Transcript.{shown}
use Rattle.zw_text.proofs.Views.{shown-append}
use Rattle.proof_waking.specs.host_model.State.{HostState}
use Rattle.proof_waking.specs.host_model.Events.{HostEvent, Accepts, Cancels, IsOwn}
use Rattle.proof_waking.specs.host_model.Outs.{answers}
use Rattle.proof_waking.specs.host_model.declared.out.HostOut.{HostOut}
use Rattle.proof_waking.specs.host_model.declared.out.HostOut.TheVariants.{Note, Write}
use Rattle.proof_waking.proofs.Own.{sleepers_own, submitted_own}
use Rattle.proof_waking.proofs.Submitted.{next_is, no_more_is}
use Rattle.proof_transcript.specs.proof_host.Entries.{notes_of}
use Rattle.proof_waking.specs.proof_alone.State.{HostMachine}
use Rattle.proof_waking.specs.proof_alone.Steps.{AreTold, Does}
use Rattle.proof_waking.specs.proof_alone.Phases.{Phase, Resting, Asked, Risen, Ticking, Open, Behind, Sleeping, Submitting, May}
use Rattle.proof_waking.specs.proof_alone.Runs.{Knowledge, Walk, WalkOver, both_know}
use Rattle.proof_waking.proofs.proof_alone_Apart.{AreOfLine, marks_are}
pub use Rattle.proof_waking.proofs.proof_alone_Apart.{puts_are as outs_told}
use Rattle.proof_waking.proofs.Running.{over}
use Rattle.proof_waking.specs.Judged.{IsBehindFrame, IsOfRequest, KnowsJudged}
pub use Rattle.proof_waking.proofs.Parts.{event_notes}

-- it does it of itself, or the request under way hears of something, or it follows the frame that was judged last
abbrev pub IsPartOf : List Entry → HostMachine → HostEvent → Type 0
IsPartOf past m event = IsOwn event ⊎ (IsOfRequest event ⊎ ((left : List HostEvent) × IsBehindFrame past m (event ∷ left)))

pub event_at : (here next : Phase) (past : List Entry) (m : HostMachine) (event : HostEvent) (told : List Entry) → May here m (Does event told) next → KnowsJudged here past m → IsPartOf past m event
event_at (Ticking (first ∷ left)) next past m event told may known = inl (subst IsOwn (sym may.0.0) known.0.0)
event_at (Behind (first ∷ left)) next past m event told may (frames, inl behind) =
    inr (inr (left, subst (λ (e : HostEvent). IsBehindFrame past m (e ∷ left)) (sym may.0.0) behind))
event_at (Behind (first ∷ left)) next past m event told may (frames, inr (requests, settled)) = inr (inl (subst IsOfRequest (sym may.0.0) requests.0))
event_at Sleeping next past m event told may known = let (node, wants, is, next_phase) = may.0 in inl (subst IsOwn (sym is) (no_more_is IsOwn sleepers_own m.state node))
event_at Submitting next past m event told may known = inl (next_is IsOwn submitted_own m.state event may.0.0)
event_at (Ticking []) next past m event told may known = absurd may.0
event_at (Behind []) next past m event told may known = absurd may.0
event_at Resting next past m event told may known = absurd may.0
event_at (Asked line) next past m event told may known = absurd may.0
event_at Risen next past m event told may known = absurd may.0
event_at Open next past m event told may known = absurd may.0

-- one walk beside another
pub beside : (First Law : List Entry → Entry → Type 0) (Ground Know : Knowledge) → Walk First Ground → Walk Law Know → Walk Law (both_know Ground Know)
beside First Law Ground Know ground walk =
    over Ground First Law Know ground
    (record { step = λ here next past m one may base stand known. walk.step here next past m one may known; turn = λ here next past m turns base known. walk.turn here next past m turns known })

-- and one on less ground than there is
pub beyond : (Ground More : Knowledge) (First Law : List Entry → Entry → Type 0) (Know : Knowledge) → WalkOver Ground First Law Know → WalkOver (both_know Ground More) First Law Know
beyond Ground More First Law Know walk = record {
  step = λ here next past m one may ground stand known. walk.step here next past m one may ground.0 stand known;
  turn = λ here next past m turns ground known. walk.turn here next past m turns ground.0 known;
}

-- ---- what is entered

-- what answers a line is so
pub record AreAnswers (Is : Entry → Type 0) : Type 0 where
  pub accepted : (command node : ℕ) → Is (entry.Accepted command node)
  pub taken_back : (command : ℕ) → Is (entry.Out command Cancelled)

pub answers_are : (Is : Entry → Type 0) → AreAnswers Is → (h : HostState) (event : HostEvent) → AllByRecursion Is (answers h event)
answers_are Is are h (Accepts order carriage) = (are.accepted (length h.commands + 1) order.node, tt)
answers_are Is are h (Cancels command) = (are.taken_back command, tt)
answers_are Is are h event = tt

-- ---- what is shown by what is entered

pub none_shown : {A : Type 0} (view : Entry → List A) (told : List Entry) → AllByRecursion (λ e. view e ≡ []) told → shown view told ≡ []
none_shown view [] all = refl
none_shown view (e ∷ told) all = ap₂ (λ (a b : List _). a ++ b) all.0 (none_shown view told all.1)

-- where nothing is shown of units and of what becomes of them, it is what the notes show
pub told_shown : {A : Type 0} (view : Entry → List A) → AreOfLine (λ e. view e ≡ []) → (puts : List HostOut) (told : List Entry) → AreTold puts told → shown view told ≡ shown view (notes_of puts)
told_shown view line [] told is = ap (λ (l : List Entry). shown view l) is
told_shown view line (Note e ∷ puts) told (rest, is, more) = ap (λ (l : List Entry). shown view l) is ∙ ap (λ (l : List _). view e ++ l) (told_shown view line puts rest more)
told_shown view line (Write unit ∷ puts) told (marks, rest, is, all, more) =
    ap (λ (l : List Entry). shown view l) is
    ∙ ap₂ (λ (a b : List _). a ++ b) (line.written Host (unit_text unit))
    (shown-append view marks rest ∙ ap (λ (l : List _). l ++ shown view rest) (none_shown view marks (marks_are (λ e. view e ≡ []) line marks all)) ∙ told_shown view line puts rest more)
