-- Each command of each node at work is answered.
use Rattle.std.proofs.Common.{◌≡◌, ◌&&◌, ℕ, inl, inr, Bool, true, List, [], ◌∷◌, ◌++◌, Some, refl, sym, ap, ◌∙◌, subst}
use Rattle.std.proofs.lemmas.Bool.{and_parts}
use Rattle.std.specs.List.{list_all}
use Rattle.zw_text.specs.declared.entry.Entry.{Entry}
use Rattle.zw_text.specs.Transcript.{outcome}
use Rattle.law_transcript.specs.Lists.{Has}
use Rattle.law_time.specs.Sessions.{is_final}
use Rattle.law_time.specs.Stretches.{commands_in, workers}
use Rattle.law_time.specs.Verdicts.{is_answered}
use Rattle.device_sim.specs.State.{State}
use Rattle.world_model.specs.State.{Machine, first_machine}
use Rattle.world_lines.specs.Spoken.{after_all, transcript_of}
use Rattle.proof_in_time.proofs.Spoken.{told_both}
use Rattle.proof_in_time.proofs.verdicts.stretches_are_answered.Goals as goal

-- what follows of each follows of all
all_so : (P Q : ℕ → Bool) (xs : List ℕ) → ((x : ℕ) → Has xs x → P x ≡ true → Q x ≡ true) → list_all P xs ≡ true → list_all Q xs ≡ true
all_so P Q [] one all = refl
all_so P Q (x ∷ xs) one all =
    let parts = and_parts (P x) (list_all P xs) all in
    ap (λ (b : Bool). b && list_all Q xs) (one x (inl refl) parts.0) ∙ all_so P Q xs (λ y has. one y (inr has)) parts.1

pub returns : goal.returns
returns c = λ keys devices before lines are quiet such over.
    let m : Machine = first_machine keys (Some []) devices in
    let T0 : List Entry = transcript_of m before in
    let T1 : List Entry = transcript_of (after_all m before) lines in
    let now : List State = (after_all m before).outside.devices in
    all_so (λ node. list_all (λ command. is_final (outcome command (T0 ++ T1))) (commands_in T0 T1 node)) (λ node. list_all (is_answered now T0 T1 node) (commands_in T0 T1 node)) (workers T0 T1)
    (λ node works. all_so (λ command. is_final (outcome command (T0 ++ T1))) (is_answered now T0 T1 node) (commands_in T0 T1 node)
    (λ command own final_is. c.stretches_end_as_judged.ensures node command keys devices before lines (such node works) are quiet own
    (subst (λ (T : List Entry). is_final (outcome command T) ≡ true) (sym (told_both m before lines)) final_is))) over
