-- What a host heard of a run has no refusal of a line that is for others; nor has what has no such line.
use Rattle.std.proofs.Common.{◌≡◌, ◌⊎◌, ℕ, Bool, true, false, if◌then◌else◌, inl, inr, List, [], ◌∷◌, ◌++◌, refl, sym, ap, ◌∙◌}
use Rattle.zw_words.specs.declared.side.Side.TheVariants.{Chip, Host}
use Rattle.zw_text.specs.declared.line.Line.{Line}
use Rattle.zw_text.specs.declared.entry.Refusal.{Refusal}
use Rattle.zw_text.specs.declared.entry.Entry.{Entry}
use Rattle.zw_text.specs.declared.entry.Entry.TheVariants as entry
use Rattle.zw_text.specs.Transcript.{line_last, line_of}
use Rattle.proof_transcript.specs.law_transcript.Answers.{Follows, before_last, refusals_by_host}
use Rattle.proof_transcript.specs.law_transcript.Lists.{EachAfter}
use Rattle.proof_transcript.specs.law_host.Heard.{come_as, heard_as, heard_by_host, heard_from, is_of_others, is_of_outside, is_refusal_of_others, listing_heard}
use Rattle.proof_transcript.proofs.Lists.{each-append}
use Rattle.proof_transcript.proofs.ByLine.{last_is}
use Rattle.proof_known.specs.Known.{AreForHost, AreSaidToHost, IsAnswerAlone, IsForHost}

-- ---- an entry as it was heard

come_fine : (seen : List Entry) (unit : List ℕ) (rest : List Entry) → EachAfter IsForHost seen (come_as unit rest)
come_fine seen unit [] = (refl, tt)
come_fine seen unit (entry.Dropped Chip ∷ rest) = tt
come_fine seen unit (entry.Dropped Host ∷ rest) = (refl, tt)
come_fine seen unit (entry.Overrun Chip ∷ rest) = tt
come_fine seen unit (entry.Overrun Host ∷ rest) = (refl, tt)
come_fine seen unit (entry.Garbled Chip changed ∷ []) = (refl, (refl, tt))
come_fine seen unit (entry.Garbled Chip changed ∷ (entry.Overrun Chip ∷ rest)) = tt
come_fine seen unit (entry.Garbled Chip changed ∷ (entry.Overrun Host ∷ rest)) = (refl, (refl, tt))
come_fine seen unit (entry.Garbled Chip changed ∷ (e ∷ rest)) = (refl, (refl, tt))
come_fine seen unit (entry.Garbled Host changed ∷ rest) = (refl, tt)
come_fine seen unit (e ∷ rest) = (refl, tt)

kept_fine : (seen : List Entry) (e : Entry) (outside : Bool) → IsForHost seen e → EachAfter IsForHost seen (if outside then [] else e ∷ [])
kept_fine seen e true fine = tt
kept_fine seen e false fine = (fine, tt)

-- a refusal stands where its line does
abbrev StandsWith : List Line → List Entry → Type 0
StandsWith before seen = (before ≡ []) ⊎ (line_last seen ≡ before)

refusal_fine : (before : List Line) (seen past : List Entry) (refusal : Refusal) → line_last past ≡ before → StandsWith before seen → IsAnswerAlone past (entry.Refused refusal)
    → (others : Bool) → is_of_others before ≡ others → EachAfter IsForHost seen (if others then [] else entry.Refused refusal ∷ [])
refusal_fine before seen past refusal last with_it stands true is = tt
refusal_fine before seen past refusal last (inr same) stands false is = (ap is_of_others same ∙ is, tt)
refusal_fine before seen past refusal last (inl none) (inl others) false is = let bad : false ≡ true = sym (ap is_of_others (last ∙ none)) ∙ others in absurd cc
refusal_fine before seen past refusal last (inl none) (inr follows) false is = absurd (by (line_last past) (last ∙ none) follows)
  where
    by : (l : List Line) → l ≡ [] → Follows listing_heard (refusals_by_host listing_heard) (before_last past) l (entry.Refused refusal) → ⊥
    by [] is follows = follows
    by (line ∷ more) is follows = let bad : line ∷ more ≡ [] = is in absurd cc

-- an entry as the host heard it, after what stood directly before it
abbrev as_heard : List Line → Entry → List Entry → List Entry
as_heard before e rest = if is_refusal_of_others before e then [] else heard_as e rest

heard_fine : (before : List Line) (seen past : List Entry) (e : Entry) (rest : List Entry) → line_last past ≡ before → StandsWith before seen → IsAnswerAlone past e
    → EachAfter IsForHost seen (as_heard before e rest)
heard_fine before seen past (entry.Written Chip unit) rest last with_it stands = come_fine seen unit rest
heard_fine before seen past (entry.Written Host unit) rest last with_it stands = kept_fine seen (entry.Written Host unit) (is_of_outside (entry.Written Host unit)) refl
heard_fine before seen past (entry.Refused refusal) rest last with_it stands = refusal_fine before seen past refusal last with_it stands (is_of_others before) refl
heard_fine before seen past e rest last with_it stands = kept_fine seen e (is_of_outside e) refl

-- words are heard
said_with : (before : List Line) (seen : List Entry) (e : Entry) (rest : List Entry) → StandsWith (line_of e) (seen ++ as_heard before e rest)
said_with before seen (entry.Said words) rest = inr (last_is seen (entry.Said words))
said_with before seen e rest = inl refl

-- ---- all of it

heard_for_host : (before : List Line) (seen past told : List Entry) → line_last past ≡ before → StandsWith before seen → EachAfter IsAnswerAlone past told → EachAfter IsForHost seen (heard_from before told)
heard_for_host before seen past [] last with_it each = tt
heard_for_host before seen past (e ∷ told) last with_it each =
    each-append IsForHost seen (as_heard before e told) (heard_from (line_of e) told) (heard_fine before seen past e told last with_it each.0)
    (heard_for_host (line_of e) (seen ++ as_heard before e told) (past ++ e ∷ []) told (last_is past e) (said_with before seen e told) each.1)

-- ---- where no line is for others

words_for : (before : List Line) (e : Entry) → is_of_others before ≡ false → is_refusal_of_others before e ≡ false
words_for before (entry.Refused refusal) none = none
words_for before e none = refl

for_host_after : (past told : List Entry) → is_of_others (line_last past) ≡ false → AreSaidToHost told → EachAfter IsForHost past told
for_host_after past [] none said = tt
for_host_after past (e ∷ told) none said =
    (words_for (line_last past) e none, for_host_after (past ++ e ∷ []) told (ap is_of_others (last_is past e) ∙ said.0) said.1)

pub said_for_host : (told : List Entry) → AreSaidToHost told → AreForHost told
said_for_host told said = for_host_after [] told refl said

-- ---- what was heard

pub heard_is_for_host : (told : List Entry) → EachAfter IsAnswerAlone [] told → AreForHost (heard_by_host told)
heard_is_for_host told each = heard_for_host [] [] [] told refl (inl refl) each
