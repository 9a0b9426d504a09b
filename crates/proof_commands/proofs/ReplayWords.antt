-- What is entered of a line of `replay` is read as that line, and what is entered of bytes of the chip as none: no line of a scenario begins with `chip`.
use Rattle.std.proofs.Common.{◌≡◌, ℕ, List, [], ◌∷◌, Err, Some, codes, ap, refl, ◌∙◌}
use Rattle.std.specs.List.{join_with_byte}
use Rattle.zw_words.specs.declared.fault.LineFault.TheVariants.{Unknown}
use Rattle.zw_words.specs.Fields.{◌>>=◌, make, of_words}
use Rattle.zw_text.specs.Line.{ReplayText, line_at, line_from, line_word_in, replay_at}
use Rattle.zw_text.specs.Transcript.{line_of, read_as}
use Rattle.zw_text.specs.declared.line.ReplayLine.{ReplayLine}
use Rattle.zw_text.specs.declared.line.ReplayLine.TheVariants.{Plain, Chip}
use Rattle.zw_text.specs.declared.entry.Entry.TheVariants.{Said}
use Rattle.zw_text.proofs.TextLaws.{line_again, replay_takes}
use Rattle.zw_words.specs.Words.{without_return}
use Rattle.run_lines.specs.Lines.{TextLine}
use Rattle.run_lines.specs.Pieces.{joined_in, said_text}
use Rattle.run_all.specs.run_replay.Lines.{IsReplayed}
use Rattle.proof_replay.specs.Heard.{IsReadSo, plain_of}
use Rattle.proof_commands.proofs.Reading.{IsReadBy}
use Rattle.proof_commands.proofs.SaidWords.{AreJoined, are_joined, read_again, words_read}
use Rattle.proof_commands.proofs.Solid.{all_solid, hex}

no_line : (rest : List (List ℕ)) → line_from (codes "chip") rest ≡ Err Unknown
unfolding line_word_in
no_line rest = refl

chip_said : (text bytes : List ℕ) → ReplayText text (Chip bytes) → line_of (Said (said_text text)) ≡ []
chip_said text bytes (may, low, high, (digits, stands, are)) =
    let word : List ℕ = codes "chip" in
    let rest : List (List ℕ) = digits ∷ [] in
    let joined : List ℕ = join_with_byte 32 (word ∷ rest) in
    let again : AreJoined word rest = are_joined text word rest may are (all_solid (without_return text) (word ∷ rest) are (refl, (hex digits bytes stands, tt))) refl in
    let read : line_at joined ≡ Err Unknown =
    ap (λ r. r >>= of_words line_from) (words_read joined (word ∷ rest) again.may_be again.words_are) ∙ ap (make Some) (no_line rest) in
    ap (λ (s : List ℕ). read_as (line_at s)) (ap joined_in (words_read text (word ∷ rest) may are)) ∙ ap read_as read

as_said : (text : List ℕ) (line : ReplayLine) → ReplayText text line → (line_of (Said (said_text text)) ≡ plain_of line) × IsReplayed line
as_said text (Plain line) t = (ap read_as (read_again text line (line_again text line t.0)), t.1)
as_said text (Chip bytes) t = (chip_said text bytes t, tt)

pub read_so : (one : TextLine ReplayLine) → IsReadBy replay_at one → IsReadSo one
read_so one is =
    let got = as_said one.text one.line (replay_takes one.text (Some one.line) is) in record { read = got.0; replayed = got.1 }
