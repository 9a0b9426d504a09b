-- What is told at one event of a host: where it tells that a command goes unanswered it tells neither of a session that begins nor of an interview; and but where a session ends no node is
-- held, and no value stored.
use Rattle.std.proofs.Common.{◌≡◌, ◌⊎◌, ℕ, ◌==◌, ◌&&◌, not, Bool, inl, inr, List, [], ◌∷◌, ◌++◌, refl, ap, ap₂, ◌∙◌, append-nil}
use Rattle.std.specs.List.{AllByRecursion, list_any}
use Rattle.zw_base.proofs.Each.{all-weaker}
use Rattle.zw_text.specs.declared.entry.Ended.TheVariants as ended
use Rattle.zw_text.specs.declared.entry.Entry.{Entry}
use Rattle.zw_text.specs.declared.entry.Entry.TheVariants as entry
use Rattle.zw_text.specs.Transcript.{session_at, sessions}
use Rattle.zw_text.proofs.Views.{shown-append}
use Rattle.proof_work.specs.law_transcript.Lists.{last_or, shown_after}
use Rattle.proof_work.specs.law_transcript.Nodes.{first_node}
use Rattle.proof_work.specs.law_time.Interviews.{listening_at, listens}
use Rattle.proof_work.specs.law_time.Judged.{last_of}
use Rattle.proof_work.specs.law_time.Sessions.{is_last_command}
use Rattle.proof_requests.specs.host_model.State.{HostState}
use Rattle.proof_requests.specs.host_model.Outs.{outs}
use Rattle.proof_requests.specs.host_model.Events.{HostEvent, Accepts, Requests_do, Interviews, Finishes, Line_ticks, Node_ticks, Begins}
use Rattle.proof_work.proofs.HostOuts.{AttemptsAre, EndsAre, MayPut, SharedAre, outs_are, outs_put}
use Rattle.proof_work.proofs.Shown.{shown_one}
use Rattle.proof_requests.specs.proof_alone.Steps.{AreTold}
use Rattle.proof_requests.proofs.proof_alone_Apart.{AreOfLine}
pub use Rattle.proof_requests.proofs.proof_alone_Apart.{puts_are as told_so}

-- ---- entries

-- no session begins, and none was interviewed
abbrev pub IsSteady : Entry → Type 0
IsSteady (entry.Begin node number command) = ⊥
IsSteady (entry.Interviewed node) = ⊥
IsSteady e = Unit {0}

-- no command goes unanswered
abbrev pub IsAnswered : Entry → Type 0
IsAnswered (entry.Out command ended.Unanswered) = ⊥
IsAnswered e = Unit {0}

-- no node is held
abbrev pub IsUnheld : Entry → Type 0
IsUnheld (entry.Held node) = ⊥
IsUnheld e = Unit {0}

-- ---- which command releases a node

abbrev pub told_releases : ℕ → List Entry → ℕ → Bool
told_releases n past number = is_last_command n past number && not (listens n past)

no_session : (n : ℕ) (e : Entry) → IsSteady e → session_at n e ≡ []
no_session n (entry.Begin node number command) steady = absurd steady
no_session n e steady = refl

no_interview : (n : ℕ) (past : List Entry) (e : Entry) → IsSteady e → listening_at n past e ≡ []
no_interview n past (entry.Interviewed node) steady = absurd steady
no_interview n past e steady = refl

pub same_sessions_by : (n : ℕ) (past : List Entry) (e : Entry) → session_at n e ≡ [] → sessions n (past ++ e ∷ []) ≡ sessions n past
same_sessions_by n past e none = shown-append (session_at n) past (e ∷ []) ∙ ap (λ (l : List ℕ). sessions n past ++ (l ++ [])) none ∙ append-nil (sessions n past)

pub same_sessions : (n : ℕ) (past : List Entry) (e : Entry) → IsSteady e → sessions n (past ++ e ∷ []) ≡ sessions n past
same_sessions n past e steady = same_sessions_by n past e (no_session n e steady)

pub same_listens_by : (n : ℕ) (past : List Entry) (e : Entry) → listening_at n past e ≡ [] → listens n (past ++ e ∷ []) ≡ listens n past
same_listens_by n past e none =
    ap (λ (l : List Bool). last_or (n == first_node) l)
    (shown_one (listening_at n) [] past e ∙ ap (λ (l : List Bool). shown_after (listening_at n) [] past ++ l) none ∙ append-nil (shown_after (listening_at n) [] past))

pub same_listens : (n : ℕ) (past : List Entry) (e : Entry) → IsSteady e → listens n (past ++ e ∷ []) ≡ listens n past
same_listens n past e steady = same_listens_by n past e (no_interview n past e steady)

pub same_releases : (n : ℕ) (past : List Entry) (e : Entry) (number : ℕ) → IsSteady e → told_releases n (past ++ e ∷ []) number ≡ told_releases n past number
same_releases n past e number steady =
    ap₂ (λ (l : List ℕ) (b : Bool). list_any (λ command. command == number) (last_of l) && not b) (same_sessions n past e steady) (same_listens n past e steady)

-- ---- at an event

steady_line : AreOfLine IsSteady
steady_line = record { written = λ side text. tt; dropped = λ side. tt; garbled = λ side text. tt; overrun = λ side. tt }

answered_line : AreOfLine IsAnswered
answered_line = record { written = λ side text. tt; dropped = λ side. tt; garbled = λ side text. tt; overrun = λ side. tt }

steady_shared : SharedAre IsSteady
steady_shared = record {
  unanswered = λ command. tt;
  asleep = λ n. tt;
  done = λ n how. tt;
  uninterviewed = λ n. tt;
  neighbours = λ n nodes. tt;
  failed = λ n is_failed. tt;
  stored = λ n setting. tt;
  held = λ n. tt;
  full = λ n. tt;
}

-- either no session begins and none was interviewed, or no command goes unanswered
pub steady_or_answered : (h : HostState) (event : HostEvent) (told : List Entry) → AreTold (outs h event) told → AllByRecursion IsSteady told ⊎ AllByRecursion IsAnswered told
steady_or_answered h (Begins n session command) told are = inr (told_so IsAnswered answered_line (outs h (Begins n session command)) told (tt, tt) are)
steady_or_answered h (Interviews n listens classes update) told are = inr (told_so IsAnswered answered_line (outs h (Interviews n listens classes update)) told (tt, tt) are)
steady_or_answered h (Accepts order carriage) told are = inl (told_so IsSteady steady_line [] told tt are)
steady_or_answered h event told are = inl (told_so IsSteady steady_line (outs h event) told (outs_are IsSteady steady_shared h event tt) are)

-- ---- but where a session ends

abbrev pub EndsNone : HostEvent → Type 0
EndsNone (Finishes n session id command status wake_request) = ⊥
EndsNone event = Unit {0}

-- no value is stored, no node is held, and no command has a final outcome
abbrev pub IsPlain : Entry → Type 0
IsPlain (entry.Held node) = ⊥
IsPlain (entry.Store node setting) = ⊥
IsPlain (entry.Out command ended.Success) = ⊥
IsPlain (entry.Out command ended.Fail) = ⊥
IsPlain (entry.Out command ended.NoSupport) = ⊥
IsPlain e = Unit {0}

pub plain_line : AreOfLine IsPlain
plain_line = record { written = λ side text. tt; dropped = λ side. tt; garbled = λ side text. tt; overrun = λ side. tt }

plain_attempts : AttemptsAre IsPlain
plain_attempts = record { unanswered = λ command. tt; asleep = λ n. tt }

plain_ends : EndsAre IsPlain
plain_ends = record { attempts = plain_attempts; done = λ n how. tt; uninterviewed = λ n. tt; neighbours = λ n nodes. tt; failed = λ n is_failed. tt }

plain_put : (event : HostEvent) → EndsNone event → MayPut IsPlain event
plain_put (Finishes n session id command status wake_request) none = absurd none
plain_put (Requests_do event moment) none = plain_ends
plain_put Line_ticks none = plain_ends
plain_put (Node_ticks n) none = plain_attempts
plain_put event none = tt

pub told_plain : (h : HostState) (event : HostEvent) (told : List Entry) → EndsNone event → AreTold (outs h event) told → AllByRecursion IsPlain told
told_plain h event told none are = told_so IsPlain plain_line (outs h event) told (outs_put IsPlain h event (plain_put event none)) are

plain_unheld : (e : Entry) → IsPlain e → IsUnheld e
plain_unheld (entry.Held node) plain = absurd plain
plain_unheld e plain = tt

pub told_unheld : (h : HostState) (event : HostEvent) (told : List Entry) → EndsNone event → AreTold (outs h event) told → AllByRecursion IsUnheld told
told_unheld h event told none are = all-weaker IsPlain IsUnheld plain_unheld told (told_plain h event told none are)
