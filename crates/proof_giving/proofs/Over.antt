-- What the entries of an event of a host alone make of the attempts of a node, where no request is submitted: they begin anew where the command of its session ends.
use Rattle.std.proofs.Common.{◌≡◌, ℕ, ◌==◌, Bool, if◌then◌else◌, List, [], ◌∷◌, ◌++◌, refl, sym, ap, ◌∙◌, subst, append-nil, append_assoc}
use Rattle.std.specs.List.{AllByRecursion, list_any}
use Rattle.zw_words.specs.declared.side.Side.TheVariants.{Host, Chip}
use Rattle.zw_text.specs.declared.entry.Entry.{Entry}
use Rattle.zw_text.specs.declared.entry.Entry.TheVariants as entry
use Rattle.zw_text.specs.Transcript.{folded, session_at}
use Rattle.zw_text.proofs.Views.{folded-append}
use Rattle.serial_frame.specs.declared.unit.TheConstants.{NAK}
use Rattle.host_heard.specs.declared.told.Told.{Told}
use Rattle.law_transcript.specs.Units.{Carried}
use Rattle.law_time.specs.Attempts.{Attempts, anew}
use Rattle.law_time.specs.Judged.{last_of}
use Rattle.law_time.specs.Sessions.{is_last_command}
use Rattle.host_model.specs.declared.out.HostOut.{HostOut}
use Rattle.host_model.specs.declared.out.HostOut.TheVariants.{Note, Write}
use Rattle.proof_host.specs.Entries.{notes_of}
use Rattle.proof_queue.specs.proof_attempts.proof_requests.law_host.Heard.{heeds_alone}
use Rattle.proof_queue.specs.proof_attempts.proof_requests.proof_alone.Steps.{AreTold, IsOfUnit}
use Rattle.proof_queue.proofs.Telling.{same_sessions_by}
use Rattle.proof_giving.specs.Told.{GoesAlong, attempts_so_far}
use Rattle.proof_giving.specs.Tie.{anew_step}
use Rattle.proof_giving.proofs.Told.{attempts_again, attempts_one, node_is}

no_session : (n : ℕ) (e : Entry) → GoesAlong e → session_at n e ≡ []
no_session n (entry.Begin node session command) goes = absurd goes
no_session n e goes = refl

module _ (taken : List Entry → Carried → List Told) (n : ℕ) where
  abbrev so_far : List Entry → Attempts
  so_far past = attempts_so_far (heeds_alone taken) n past

  one_goes : (past : List Entry) (e : Entry) → GoesAlong e → so_far (past ++ e ∷ []) ≡ anew_step (is_last_command n past) (so_far past) e
  one_goes past (entry.Said words) goes = absurd goes
  one_goes past (entry.Refused refusal) goes = absurd goes
  one_goes past (entry.Begin node session command) goes = absurd goes
  one_goes past (entry.Written Host unit) goes =
      subst (λ (u : List ℕ). so_far (past ++ entry.Written Host u ∷ []) ≡ so_far past) (sym goes) (attempts_again taken n past (NAK ∷ []) refl refl)
  one_goes past (entry.Written Chip unit) goes = attempts_one taken n past (entry.Written Chip unit) tt
  one_goes past (entry.Out command how) goes =
      attempts_one taken n past (entry.Out command how) tt ∙ ap (λ (k : ℕ). if is_last_command k past command then anew (so_far past) else so_far past) (node_is (heeds_alone taken) n past)
  one_goes past e goes = attempts_one taken n past e tt

  pub along_goes : (past told : List Entry) (last : ℕ → Bool) → AllByRecursion GoesAlong told → ((command : ℕ) → is_last_command n past command ≡ last command)
      → so_far (past ++ told) ≡ folded (anew_step last) (so_far past) told
  along_goes past [] last all same = ap (λ (l : List Entry). so_far l) (append-nil past)
  along_goes past (e ∷ told) last all same =
      ap (λ (l : List Entry). so_far l) (sym (append_assoc past (e ∷ []) told))
      ∙ along_goes (past ++ e ∷ []) told last all.1 (λ command. ap (λ (l : List ℕ). list_any (λ one. one == command) (last_of l)) (same_sessions_by n past e (no_session n e all.0)) ∙ same command)
      ∙ ap (λ (a : Attempts). folded (anew_step last) a told) (one_goes past e all.0 ∙ same_step e)
    where
      same_step : (e : Entry) → anew_step (is_last_command n past) (so_far past) e ≡ anew_step last (so_far past) e
      same_step (entry.Out command how) = ap (λ (b : Bool). if b then anew (so_far past) else so_far past) (same command)
      same_step e = refl

-- of what is put out the notes tell it
marks_same : (last : ℕ → Bool) (a : Attempts) (marks : List Entry) → AllByRecursion IsOfUnit marks → folded (anew_step last) a marks ≡ a
marks_same last a [] all = refl
marks_same last a (entry.Dropped Host ∷ marks) all = marks_same last a marks all.1
marks_same last a (entry.Garbled Host text ∷ marks) all = marks_same last a marks all.1
marks_same last a (entry.Overrun Host ∷ marks) all = marks_same last a marks all.1
marks_same last a (e ∷ marks) all = absurd all.0

pub notes_tell : (last : ℕ → Bool) (puts : List HostOut) (told : List Entry) → AreTold puts told → (a : Attempts) → folded (anew_step last) a told ≡ folded (anew_step last) a (notes_of puts)
notes_tell last [] told is a = ap (λ (l : List Entry). folded (anew_step last) a l) is
notes_tell last (Note e ∷ puts) told (rest, is, more) a = ap (λ (l : List Entry). folded (anew_step last) a l) is ∙ notes_tell last puts rest more (anew_step last a e)
notes_tell last (Write unit ∷ puts) told (marks, rest, is, all, more) a =
    ap (λ (l : List Entry). folded (anew_step last) a l) is ∙ folded-append (anew_step last) a marks rest
    ∙ ap (λ (b : Attempts). folded (anew_step last) b rest) (marks_same last a marks all) ∙ notes_tell last puts rest more a
