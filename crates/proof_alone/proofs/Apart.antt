-- Entries of which a law asks nothing: what became of units, and what the host notes.
use Rattle.std.proofs.Common.{ℕ, List, [], ◌∷◌, sym, subst}
use Rattle.std.specs.List.{AllByRecursion}
use Rattle.zw_base.proofs.Each.{all-append, all-weaker}
use Rattle.serial_frame.specs.Items.{unit_text}
use Rattle.zw_words.specs.declared.side.Side.{Side}
use Rattle.zw_words.specs.declared.side.Side.TheVariants.{Host, Chip}
use Rattle.zw_text.specs.declared.entry.Entry.{Entry}
use Rattle.zw_text.specs.declared.entry.Entry.TheVariants as entry
use Rattle.proof_line.specs.host_model.declared.out.HostOut.{HostOut}
use Rattle.proof_line.specs.host_model.declared.out.HostOut.TheVariants.{Note, Write}
use Rattle.proof_line.proofs.HostOuts.{OutsAre}
use Rattle.proof_line.specs.proof_walk.Outside.{IsHostNote}
use Rattle.proof_line.proofs.HostNotes.{NoteOuts}
use Rattle.proof_alone.specs.Steps.{AreTold, DidNotCome, IsOfUnit}

-- units, and what becomes of them
pub record AreOfLine (Is : Entry → Type 0) : Type 0 where
  pub written : (side : Side) (text : List ℕ) → Is (entry.Written side text)
  pub dropped : (side : Side) → Is (entry.Dropped side)
  pub garbled : (side : Side) (text : List ℕ) → Is (entry.Garbled side text)
  pub overrun : (side : Side) → Is (entry.Overrun side)

module _ (Is : Entry → Type 0) (line : AreOfLine Is) where
  mark_is : (e : Entry) → IsOfUnit e → Is e
  mark_is (entry.Dropped Host) mark = line.dropped Host
  mark_is (entry.Garbled Host text) mark = line.garbled Host text
  mark_is (entry.Overrun Host) mark = line.overrun Host
  mark_is e mark = absurd mark

  pub marks_are : (marks : List Entry) → AllByRecursion IsOfUnit marks → AllByRecursion Is marks
  marks_are marks all = all-weaker IsOfUnit Is mark_is marks all

  pub missed_are : (marks : List Entry) → DidNotCome marks → AllByRecursion Is marks
  missed_are (entry.Dropped Chip ∷ []) none = (line.dropped Chip, tt)
  missed_are (entry.Overrun Chip ∷ []) none = (line.overrun Chip, tt)
  missed_are (entry.Garbled Chip text ∷ []) none = (line.garbled Chip text, tt)
  missed_are (entry.Garbled Chip text ∷ entry.Overrun Chip ∷ []) none = (line.garbled Chip text, (line.overrun Chip, tt))
  missed_are marks none = absurd none

  -- what the host puts out, where its notes are so
  pub told_are : ((e : Entry) → IsHostNote e → Is e) → (puts : List HostOut) (told : List Entry) → NoteOuts puts → AreTold puts told → AllByRecursion Is told
  told_are note [] told notes is = subst (λ (l : List Entry). AllByRecursion Is l) (sym is) tt
  told_are note (Note e ∷ puts) told notes (rest, is, more) = subst (λ (l : List Entry). AllByRecursion Is l) (sym is) (note e notes.0, told_are note puts rest notes.1 more)
  told_are note (Write unit ∷ puts) told notes (marks, rest, is, all, more) =
      subst (λ (l : List Entry). AllByRecursion Is l) (sym is)
      (line.written Host (unit_text unit), all-append Is marks rest (marks_are marks all) (told_are note puts rest notes.1 more))

  pub puts_are : (puts : List HostOut) (told : List Entry) → OutsAre Is puts → AreTold puts told → AllByRecursion Is told
  puts_are [] told are is = subst (λ (l : List Entry). AllByRecursion Is l) (sym is) tt
  puts_are (Note e ∷ puts) told are (rest, is, more) = subst (λ (l : List Entry). AllByRecursion Is l) (sym is) (are.0, puts_are puts rest are.1 more)
  puts_are (Write unit ∷ puts) told are (marks, rest, is, all, more) =
      subst (λ (l : List Entry). AllByRecursion Is l) (sym is)
      (line.written Host (unit_text unit), all-append Is marks rest (marks_are marks all) (puts_are puts rest are.1 more))
