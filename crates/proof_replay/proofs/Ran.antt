-- Texts that ran are lines as they are said.
use Rattle.std.proofs.Common.{◌≡◌, List, [], ◌∷◌, ◌++◌, refl, sym, ap, ◌∙◌, subst}
use Rattle.std.specs.List.{AllByRecursion}
use Rattle.zw_text.specs.declared.line.ReplayLine.{ReplayLine}
use Rattle.zw_text.specs.declared.entry.Entry.{Entry}
use Rattle.zw_text.specs.declared.entry.Entry.TheVariants.{Said}
use Rattle.run_lines.specs.Lines.{AllRan, TextLine}
use Rattle.run_lines.specs.Pieces.{said_text}
use Rattle.run_replay.specs.Machine.{Lone, entries_all, happens_all}
use Rattle.run_replay.specs.Replay.{LineRan, Point}
use Rattle.proof_replay.specs.Heard.{AreReplayed, AreSaid, IsReadSo, Replayed, lone_after, told_of}

pub are_replayed : (lines : List (TextLine ReplayLine)) (old new : Point) (transcript : List Entry) → AllRan LineRan lines old new transcript → AllByRecursion IsReadSo lines
    → (story : List Replayed) × AreSaid lines story × AreReplayed old.lone story × (told_of old.lone story ≡ transcript) × (new.lone ≡ lone_after old.lone story)
are_replayed [] old new transcript (same, none) read = ([], tt, tt, sym none, ap (λ (p : Point). p.lone) same)
are_replayed (line ∷ lines) old new transcript (mid, entries, later, (events, is, run), more, are) read =
    let rest = are_replayed lines mid new later more read.1 in
    let said : Replayed = record { words = said_text line.text; line = line.line; events = events } in
    let next : AreReplayed (happens_all old.lone events) rest.0 = subst (λ (m : Lone). AreReplayed m rest.0) run.state rest.2 in
    let told : told_of (happens_all old.lone events) rest.0 ≡ later = subst (λ (m : Lone). told_of m rest.0 ≡ later) run.state rest.3 in (
      said ∷ rest.0,
      (refl, refl, rest.1),
      (record { read = read.0.read; replayed = read.0.replayed; is = is; may = run.may }, next),
      ap (λ (l : List Entry). Said (said_text line.text) ∷ (entries_all old.lone events ++ l)) told ∙ ap (λ (l : List Entry). l ++ later) (sym run.entered) ∙ sym are,
      subst (λ (m : Lone). new.lone ≡ lone_after m rest.0) run.state rest.4,
    )
