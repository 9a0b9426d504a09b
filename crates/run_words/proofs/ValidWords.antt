-- What valid words ask for, by the command lines.
use Rattle.std.proofs.Common.{◌≡◌, ◌≤◌, true, false, List, [], ◌∷◌, length, get_or, Result, String, codes, sym, ap, subst, inl, inr, ◌∙◌, arith}
use Rattle.std.specs.Prelude.{string_bytes}
use Rattle.clap.specs.Walk.{Text}
use Rattle.clap.specs.Simple.{App}
use Rattle.run_words.specs.Commands.{CommandName, Sim_name, Check_name, Generate_name, Replay_name, Events_name, Include_name, Host_name, Audit_name, name_of}
use Rattle.run_words.specs.Asked.{AnswersWords, AnswersName}
use Rattle.run_words.specs.Parsing.{texts_of}
use Rattle.run_words.specs.Valid.{AreWordsFor, IsAnswered}
use Rattle.run_words.specs.declared.asked.Asked.{Asked}
use Rattle.run_words.specs.declared.asked.Asked.TheVariants.{Sim, Check, Generate, Replay, Events, Include, Host, Audit}
use Rattle.run_words.specs.declared.asked.WordsFault.{WordsFault}
use Rattle.zw_words.specs.declared.side.Side.TheVariants.{Host as host_side, Chip as chip_side}
use Rattle.run_words.proofs.Taken.{Takes, answered, takes_sim, takes_quiet, takes_check, takes_check_host, takes_check_chip, takes_replay, takes_events, takes_include, takes_audit}
use Rattle.run_words.proofs.Generate.{takes_generate}
use Rattle.run_words.proofs.HostWords.{host_line, takes_host}

-- the words of a command that has one command line
alone : (name : CommandName) (words : List Text) (asked : Asked) (own : App) → Takes name words asked own → (line : App) → line ≡ own → Takes name words asked line
alone name words asked own takes line is = subst (λ (l : App). Takes name words asked l) (sym is) takes

pub valid_words : (asked : Asked) (words : List Text) (answer : Result Asked WordsFault) → AnswersWords words answer → AreWordsFor asked words → IsAnswered asked answer
valid_words (Sim false) words answer a are =
    answered Sim_name _ _ answer (subst (λ (w : List Text). AnswersWords w answer) are a) (alone Sim_name (codes "sim" ∷ []) (Sim false) _ takes_sim)
valid_words (Sim true) words answer a are =
    answered Sim_name _ _ answer (subst (λ (w : List Text). AnswersWords w answer) are a) (alone Sim_name (codes "sim" ∷ codes "--quiet" ∷ []) (Sim true) _ takes_quiet)
valid_words (Check host_side) words answer a are =
    answered Check_name _ _ answer (subst (λ (w : List Text). AnswersWords w answer) are a) takes_check_host
valid_words (Check chip_side) words answer a (inl are) =
    answered Check_name _ _ answer (subst (λ (w : List Text). AnswersWords w answer) are a) takes_check
valid_words (Check chip_side) words answer a (inr are) =
    answered Check_name _ _ answer (subst (λ (w : List Text). AnswersWords w answer) are a) takes_check_chip
valid_words (Generate number) words answer a are =
    answered Generate_name _ _ answer (subst (λ (w : List Text). AnswersWords w answer) are.2 a) (takes_generate number are.0 are.1)
valid_words Replay words answer a are =
    answered Replay_name _ _ answer (subst (λ (w : List Text). AnswersWords w answer) are a) (alone Replay_name (codes "replay" ∷ []) Replay _ takes_replay)
valid_words Events words answer a are =
    answered Events_name _ _ answer (subst (λ (w : List Text). AnswersWords w answer) are a) (alone Events_name (codes "events" ∷ []) Events _ takes_events)
valid_words Include words answer a are =
    answered Include_name _ _ answer (subst (λ (w : List Text). AnswersWords w answer) are a) (alone Include_name (codes "include" ∷ []) Include _ takes_include)
valid_words Host words answer a are =
    let of_host = subst (λ (w : List Text). AnswersWords w answer) are.are a in
    answered Host_name _ _ answer (of_host.1 (omega (arith, are.few))) (alone Host_name (codes "host" ∷ are.lines) Host host_line (takes_host are.lines are.some are.few are.each))
valid_words Audit words answer a are =
    answered Audit_name _ _ answer (subst (λ (w : List Text). AnswersWords w answer) are a) (alone Audit_name (codes "audit" ∷ []) Audit _ takes_audit)

-- the first word is the one that names the command
pub of_first : {A : Type 0} (words : List (String A)) (word : String A) (name : Text) (answer : Result Asked WordsFault) → 1 ≤ length words → word ≡ get_or words 0 word
    → name ≡ string_bytes word → AnswersName (name_of name) (texts_of words) answer → AnswersWords (texts_of words) answer
of_first [] word name answer some is named a = absurd (omega (arith, some))
of_first (first ∷ rest) word name answer some is named a =
    let same : name ≡ string_bytes first = named ∙ ap string_bytes is in
    subst (λ (n : Text). AnswersName (name_of n) (texts_of (first ∷ rest)) answer) same a
