-- What the entries of one event of a host make of a series of attempts, by the transcript.
use Rattle.std.proofs.Common.{◌≡◌, ◌⊎◌, ℕ, ◌+◌, ◌==◌, ◌||◌, nat_le, Bool, true, false, if◌then◌else◌, inl, inr, List, [], ◌∷◌, ◌++◌, refl, sym, ap, ap₂, ◌∙◌, subst, append-nil, append_assoc, arith}
use Rattle.std.specs.List.{AllByRecursion, list_any}
use Rattle.std.proofs.lemmas.Bool.{false_from_ne_true, leb-true}
use Rattle.zw_base.proofs.Each.{all-weaker}
use Rattle.zw_words.specs.declared.side.Side.TheVariants.{Host}
use Rattle.zw_text.specs.declared.entry.Ended.{Ended}
use Rattle.zw_text.specs.declared.entry.Ended.TheVariants as ended
use Rattle.zw_text.specs.declared.entry.Entry.{Entry}
use Rattle.zw_text.specs.declared.entry.Entry.TheVariants as entry
use Rattle.zw_text.specs.Transcript.{folded, session_at}
use Rattle.zw_text.proofs.Views.{folded-append}
use Rattle.proof_work.specs.law_time.Judged.{last_of}
use Rattle.proof_work.specs.law_time.Moments.{clock, now_at}
use Rattle.proof_work.specs.law_time.Sessions.{Series as SeriesTold, is_last_command, series_by_end, series_step, with_time}
use Rattle.proof_requests.specs.host_model.declared.out.HostOut.{HostOut}
use Rattle.proof_requests.specs.host_model.declared.out.HostOut.TheVariants.{Note, Write}
use Rattle.proof_work.specs.proof_host.Entries.{notes_of}
use Rattle.proof_work.proofs.Untimed.{AreUntimed, IsUntimed}
use Rattle.proof_requests.specs.proof_alone.Steps.{AreTold, IsOfUnit}
use Rattle.proof_requests.proofs.proof_waking_Apart.{IsWordless}
use Rattle.proof_attempts.specs.Series.{series_so_far}
use Rattle.proof_attempts.specs.Since.{IsLoose}
use Rattle.proof_attempts.proofs.SeriesSteps.{series_one, waits_on}
use Rattle.proof_attempts.proofs.Counting.{loose_wordless}
use Rattle.proof_attempts.proofs.Telling.{same_sessions_by}
use Rattle.proof_requests.proofs.Telling.{clock_same}

-- ---- entries

-- no session begins, no node wakes and no command is accepted
abbrev pub IsCalm : Entry → Type 0
IsCalm (entry.Begin node number command) = ⊥
IsCalm (entry.Awake node) = ⊥
IsCalm (entry.Accepted command node) = ⊥
IsCalm e = Unit {0}

-- a series ends with a command of its session, of which these are
abbrev pub end_step : (ℕ → Bool) → ℕ → SeriesTold → Entry → SeriesTold
end_step last now s (entry.Out command how) = if last command then series_by_end how now else s
end_step last now s e = s

-- no other series is due yet
abbrev pub NoneDue : SeriesTold → ℕ → Type 0
NoneDue s now = list_any (λ tick. nat_le tick now) s.again ≡ false

later_tick : (now : ℕ) → nat_le (now + 100) now || false ≡ false
later_tick now = ap (λ (b : Bool). b || false) (false_from_ne_true (nat_le (now + 100) now) (λ over. absurd (let most = leb-true (now + 100) now over in omega (arith, most))))

by_end : (how : Ended) (now : ℕ) → NoneDue (series_by_end how now) now
by_end ended.Unanswered now = later_tick now
by_end how now = refl

end_none : (last : ℕ → Bool) (now : ℕ) (s : SeriesTold) (e : Entry) → NoneDue s now → NoneDue (end_step last now s e) now
end_none last now s (entry.Out command how) none = by (last command)
  where
    by : (b : Bool) → NoneDue (if b then series_by_end how now else s) now
    by true = by_end how now
    by false = none
end_none last now s e none = none

step_calm : (n : ℕ) (past : List Entry) (s : SeriesTold) (e : Entry) (last : ℕ → Bool) (now : ℕ) → IsWordless e → IsCalm e → ((command : ℕ) → is_last_command n past command ≡ last command)
    → now ≡ clock past → series_step n past s e [] ≡ end_step last now s e
step_calm n past s (entry.Said words) last now wordless calm same is = absurd wordless
step_calm n past s (entry.Begin node number command) last now wordless calm same is = absurd calm
step_calm n past s (entry.Awake node) last now wordless calm same is = absurd calm
step_calm n past s (entry.Accepted command node) last now wordless calm same is = absurd calm
step_calm n past s (entry.Out command how) last now wordless calm same is = ap₂ (λ (b : Bool) (k : ℕ). if b then series_by_end how k else s) (same command) (sym is)
step_calm n past s e last now wordless calm same is = refl

now_untimed : (past : List Entry) (e : Entry) → IsUntimed e → now_at past e ≡ clock past
now_untimed past (entry.Said words) untimed = absurd untimed
now_untimed past (entry.Time tick) untimed = absurd untimed
now_untimed past e untimed = refl

-- ---- one entry after another

-- at its time, by any entry
pub one_told : (n : ℕ) (past : List Entry) (e : Entry) (s : SeriesTold) (now : ℕ) → IsWordless e → now_at past e ≡ now → with_time n past now (series_so_far n past) ≡ s → NoneDue (series_step n past s e []) now
    → with_time n (past ++ e ∷ []) now (series_so_far n (past ++ e ∷ [])) ≡ series_step n past s e []
one_told n past e s now wordless at is none =
    ap (λ (t : SeriesTold). with_time n (past ++ e ∷ []) now t)
    (series_one n past e wordless ∙ ap (λ (k : ℕ). series_step n past (with_time n past k (series_so_far n past)) e []) at ∙ ap (λ (t : SeriesTold). series_step n past t e []) is)
    ∙ waits_on n (past ++ e ∷ []) now (series_step n past s e []) none

same_last : (n : ℕ) (past : List Entry) (e : Entry) (last : ℕ → Bool) → IsCalm e → ((command : ℕ) → is_last_command n past command ≡ last command) → (command : ℕ) → is_last_command n (past ++ e ∷ []) command ≡ last command
same_last n past e last calm same command = ap (λ (l : List ℕ). list_any (λ one. one == command) (last_of l)) (same_sessions_by n past e (no_begin e calm)) ∙ same command
  where
    no_begin : (e : Entry) → IsCalm e → session_at n e ≡ []
    no_begin (entry.Begin node number started) calm = absurd calm
    no_begin e calm = refl

-- nothing is told while the number of a tick is to be entered
abbrev pub IsAt : List Entry → List Entry → ℕ → Type 0
IsAt past told now = (told ≡ []) ⊎ (now ≡ clock past)

calm_told : (n : ℕ) (past told : List Entry) (s : SeriesTold) (last : ℕ → Bool) (now : ℕ) → AllByRecursion IsWordless told → AreUntimed told → AllByRecursion IsCalm told
    → ((command : ℕ) → is_last_command n past command ≡ last command) → now ≡ clock past → NoneDue s now → with_time n past now (series_so_far n past) ≡ s
    → with_time n (past ++ told) now (series_so_far n (past ++ told)) ≡ folded (end_step last now) s told
calm_told n past [] s last now wordless untimed calm same at none is = subst (λ (l : List Entry). with_time n l now (series_so_far n l) ≡ s) (sym (append-nil past)) is
calm_told n past (e ∷ told) s last now wordless untimed calm same at none is =
    let steps : series_step n past s e [] ≡ end_step last now s e = step_calm n past s e last now wordless.0 calm.0 same at in
    let still : NoneDue (end_step last now s e) now = end_none last now s e none in
    let one = one_told n past e s now wordless.0 (now_untimed past e untimed.0 ∙ sym at) is (subst (λ (t : SeriesTold). NoneDue t now) (sym steps) still) ∙ steps in
    subst (λ (l : List Entry). with_time n l now (series_so_far n l) ≡ folded (end_step last now) (end_step last now s e) told) (append_assoc past (e ∷ []) told)
    (calm_told n (past ++ e ∷ []) told (end_step last now s e) last now wordless.1 untimed.1 calm.1 (same_last n past e last calm.0 same)
    (at ∙ sym (clock_same past (e ∷ []) (untimed.0, tt))) still one)

pub calm_series : (n : ℕ) (past told : List Entry) (s : SeriesTold) (last : ℕ → Bool) (now : ℕ) → AllByRecursion IsWordless told → AreUntimed told → AllByRecursion IsCalm told
    → ((command : ℕ) → is_last_command n past command ≡ last command) → IsAt past told now → NoneDue s now → with_time n past now (series_so_far n past) ≡ s
    → with_time n (past ++ told) now (series_so_far n (past ++ told)) ≡ folded (end_step last now) s told
calm_series n past told s last now wordless untimed calm same (inr at) none is = calm_told n past told s last now wordless untimed calm same at none is
calm_series n past told s last now wordless untimed calm same (inl empty) none is =
    subst (λ (l : List Entry). with_time n (past ++ l) now (series_so_far n (past ++ l)) ≡ folded (end_step last now) s l) (sym empty)
    (subst (λ (l : List Entry). with_time n l now (series_so_far n l) ≡ s) (sym (append-nil past)) is)

-- ---- of what is put out the notes tell it

mark_same : (last : ℕ → Bool) (now : ℕ) (s : SeriesTold) (marks : List Entry) → AllByRecursion IsOfUnit marks → folded (end_step last now) s marks ≡ s
mark_same last now s [] all = refl
mark_same last now s (entry.Dropped Host ∷ marks) all = mark_same last now s marks all.1
mark_same last now s (entry.Garbled Host text ∷ marks) all = mark_same last now s marks all.1
mark_same last now s (entry.Overrun Host ∷ marks) all = mark_same last now s marks all.1
mark_same last now s (e ∷ marks) all = absurd all.0

pub ends_noted : (last : ℕ → Bool) (now : ℕ) (puts : List HostOut) (told : List Entry) → AreTold puts told → (s : SeriesTold)
    → folded (end_step last now) s told ≡ folded (end_step last now) s (notes_of puts)
ends_noted last now [] told is s = ap (λ (l : List Entry). folded (end_step last now) s l) is
ends_noted last now (Note e ∷ puts) told (rest, is, more) s =
    ap (λ (l : List Entry). folded (end_step last now) s l) is ∙ ends_noted last now puts rest more (end_step last now s e)
ends_noted last now (Write unit ∷ puts) told (marks, rest, is, all, more) s =
    ap (λ (l : List Entry). folded (end_step last now) s l) is ∙ folded-append (end_step last now) s marks rest
    ∙ ap (λ (t : SeriesTold). folded (end_step last now) t rest) (mark_same last now s marks all) ∙ ends_noted last now puts rest more s

-- ---- loose entries

loose_calm : (e : Entry) → IsLoose e → IsCalm e
loose_calm (entry.Begin node number command) loose = absurd loose
loose_calm (entry.Awake node) loose = absurd loose
loose_calm (entry.Accepted command node) loose = absurd loose
loose_calm e loose = tt

loose_untimed : (e : Entry) → IsLoose e → IsUntimed e
loose_untimed (entry.Said words) loose = absurd loose
loose_untimed (entry.Time tick) loose = absurd loose
loose_untimed e loose = tt

loose_still : (last : ℕ → Bool) (now : ℕ) (s : SeriesTold) (told : List Entry) → AllByRecursion IsLoose told → folded (end_step last now) s told ≡ s
loose_still last now s [] all = refl
loose_still last now s (entry.Out command how ∷ told) all = absurd all.0
loose_still last now s (e ∷ told) all = loose_still last now s told all.1

pub loose_series : (n : ℕ) (past told : List Entry) (s : SeriesTold) (now : ℕ) → AllByRecursion IsLoose told → now ≡ clock past → NoneDue s now → with_time n past now (series_so_far n past) ≡ s
    → with_time n (past ++ told) now (series_so_far n (past ++ told)) ≡ s
loose_series n past told s now all at none is =
    calm_told n past told s (is_last_command n past) now (all-weaker IsLoose IsWordless loose_wordless told all) (all-weaker IsLoose IsUntimed loose_untimed told all)
    (all-weaker IsLoose IsCalm loose_calm told all) (λ command. refl) at none is
    ∙ loose_still (is_last_command n past) now s told all
