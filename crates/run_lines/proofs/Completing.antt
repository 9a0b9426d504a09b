-- Why a run does not come to its end.
use Rattle.std.proofs.Common.{◌≡◌, ℕ, ◌+◌, ◌<◌, ◌⊎◌, inl, inr, List, [], ◌++◌, length, Option, Some, None, refl, sym, ap, ◌∙◌, subst, arith, append-nil, length-append}
use Rattle.std.specs.Io.KnownBytes.{Consumes}
use Rattle.std.proofs.lemmas.List.{take-append-le}
use Rattle.zw_words.specs.declared.fault.LineFault.{LineFault}
use Rattle.zw_words.specs.declared.fault.LineFault.TheVariants.{TooLong as line_too_long}
use Rattle.run_lines.specs.SourceLines.{IsOneLine, IsTooLong}
use Rattle.run_lines.specs.declared.reader.TheConstants.{MAX_LINE, MAX_INPUT}
use Rattle.run_lines.specs.Input.{IsNextLine}
use Rattle.run_lines.specs.Run.{IsBadLine, HasRun, Closes, ClosesWell, LinesRan}
use Rattle.run_lines.specs.Complete.{HasGoodInput, IsDone}
use Rattle.run_lines.specs.declared.running.LinesEnd.{LinesEnd}
use Rattle.run_lines.specs.declared.running.LinesEnd.TheVariants.{All, Bad, ReadFailed, TooMuch, WriteFailed, NoMemory}
use Rattle.run_lines.specs.declared.status.Status.{Status}
use Rattle.run_lines.specs.declared.status.Status.TheVariants.{Ok, Usage, BadLine, ReadFault, WriteFault, NoMemory as no_memory, InputTooLong, BadHex, Undone, KeeperFault, BadRecord, No}
use Rattle.run_lines.proofs.InputLines.{first_lines-append, cut-append}

-- too long a line stays too long
long-append : (bytes more : List ℕ) → IsTooLong bytes → IsTooLong (bytes ++ more)
long-append bytes more l = record {
  long = omega (arith, l.long, length-append bytes more);
  one = subst IsOneLine (sym (take-append-le (MAX_LINE + 1) bytes more (omega (arith, l.long)))) l.one;
}

-- a line that is invalid in what was read is one in the whole
bad_line-whole : (refuses : List ℕ → Option LineFault) (fault : LineFault) (input more : List ℕ) (texts : List (List ℕ)) → IsBadLine refuses fault input texts (Some more)
    → IsBadLine refuses fault (input ++ more) texts (Some [])
bad_line-whole refuses fault input more texts b = record { rest = b.rest ++ more; lines = first_lines-append input texts b.rest more b.lines; fails = go b.fails }
  where
    go : ((IsTooLong b.rest × (fault ≡ line_too_long)) ⊎ ((text : List ℕ) × IsNextLine b.rest text (Some more) × (refuses text ≡ Some fault)))
        → ((IsTooLong (b.rest ++ more) × (fault ≡ line_too_long)) ⊎ ((text : List ℕ) × IsNextLine (b.rest ++ more) text (Some []) × (refuses text ≡ Some fault)))
    go (inl long) = inl (long-append b.rest more long.0, long.1)
    go (inr (text, inl cut, bad)) = inr (text, inl (cut.0 ++ more, cut-append b.rest text cut.0 more cut.1), bad)
    go (inr (text, inr last, bad)) = inr (text, inr (ap (λ m. b.rest ++ m) last.2 ∙ append-nil b.rest ∙ last.0, last.1, refl), bad)

no_bad_line : (refuses : List ℕ → Option LineFault) (fault : LineFault) (left left' : Option (List ℕ)) (input : List ℕ) (texts : List (List ℕ)) → HasGoodInput refuses left
    → Consumes left left' input → IsBadLine refuses fault input texts left' → ⊥
no_bad_line refuses fault None left' input texts good read b = good
no_bad_line refuses fault (Some whole) None input texts good read b = read
no_bad_line refuses fault (Some whole) (Some more) input texts good read b =
    good.no_bad_line fault texts (subst (λ i. IsBadLine refuses fault i texts (Some [])) (sym read) (bad_line-whole refuses fault input more texts b))

not_long : (refuses : List ℕ → Option LineFault) (left left' : Option (List ℕ)) (input : List ℕ) → HasGoodInput refuses left → Consumes left left' input → MAX_INPUT < length input → ⊥
not_long refuses None left' input good read long = good
not_long refuses (Some whole) None input good read long = read
not_long refuses (Some whole) (Some more) input good read long = omega (arith, good.short, long, length-append input more, ap length read)

closes_well : {X : Type 0} (ends : X → List (List ℕ) → Type 0) (status : Status) (x : X) (sink sink' : Option (List ℕ)) → ClosesWell ends status x sink sink'
    → (status ≡ WriteFault → ⊥) → IsDone status
closes_well ends Ok x sink sink' c write = inl refl
closes_well ends no_memory x sink sink' c write = inr refl
closes_well ends WriteFault x sink sink' c write = absurd (write refl)
closes_well ends Usage x sink sink' c write = absurd c
closes_well ends (BadLine line fault) x sink sink' c write = absurd c
closes_well ends ReadFault x sink sink' c write = absurd c
closes_well ends InputTooLong x sink sink' c write = absurd c
closes_well ends (BadHex place) x sink sink' c write = absurd c
closes_well ends (Undone word) x sink sink' c write = absurd c
closes_well ends KeeperFault x sink sink' c write = absurd c
closes_well ends (BadRecord place) x sink sink' c write = absurd c
closes_well ends (No line) x sink sink' c write = absurd c

module _ {X : Type 0} (refuses : List ℕ → Option LineFault) (runs stops : X → List ℕ → X → List (List ℕ) → Type 0) (ends : X → List (List ℕ) → Type 0) where
  ends_done : (end : LinesEnd) (status : Status) (left left' : Option (List ℕ)) (old new : X) (sink mid sink' : Option (List ℕ)) → LinesRan end refuses runs stops left left' old new sink mid
      → Closes ends end status new mid sink' → HasGoodInput refuses left → (status ≡ ReadFault → ⊥) → (status ≡ WriteFault → ⊥) → IsDone status
  ends_done All status left left' old new sink mid sink' l c good read write = closes_well ends status new mid sink' c write
  ends_done (Bad number fault) status left left' old new sink mid sink' l c good read write =
      absurd (no_bad_line refuses fault left left' l.input l.texts good l.read l.ended.1)
  ends_done ReadFailed status left left' old new sink mid sink' l c good read write = absurd (read c.0)
  ends_done TooMuch status left left' old new sink mid sink' l c good read write = absurd (not_long refuses left left' l.input good l.read l.ended.long)
  ends_done WriteFailed status left left' old new sink mid sink' l c good read write = absurd (write c.0)
  ends_done NoMemory status left left' old new sink mid sink' l c good read write = inr c.0

  pub is_done : (status : Status) (left left' : Option (List ℕ)) (old new : X) (sink sink' : Option (List ℕ)) → HasRun status refuses runs stops ends left left' old new sink sink'
      → HasGoodInput refuses left → (status ≡ ReadFault → ⊥) → (status ≡ WriteFault → ⊥) → IsDone status
  is_done status left left' old new sink sink' h = ends_done h.end status left left' old new sink h.mid sink' h.lines h.closes
