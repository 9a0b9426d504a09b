-- Lines that are told by entries, from the run of their texts.
use Rattle.std.proofs.Common.{◌≡◌, ℕ, ◌⊎◌, inl, inr, List, [], ◌∷◌, ◌++◌, length, Option, Some, None, Result, Ok, Err, IsOk, refl, sym, ap, ◌∙◌, subst, arith, append_assoc, append-nil}
use Rattle.std.specs.List.{flat_map}
use Rattle.std.specs.Io.KnownBytes.{Appends, Consumes}
use Rattle.std.proofs.KnownBytes.{Appends-nil, Consumes-nil}
use Rattle.std.proofs.lemmas.Grind.{flat_map-append}
use Rattle.zw_words.specs.Fields.{Gives}
use Rattle.zw_words.specs.declared.fault.LineFault.{LineFault}
use Rattle.zw_words.specs.declared.fault.ReadLineFault.{ReadLineFault}
use Rattle.zw_words.specs.declared.fault.ReadLineFault.TheVariants.{Bad as bad_text, NoMemory as no_text_memory}
use Rattle.run_lines.specs.Machine.{RunsAll, StopsInLast}
use Rattle.run_lines.specs.Writing.{text_of, AppendsPrefix}
use Rattle.run_lines.specs.Run.{LinesRan, HasRun, WrittenTo, Closes}
use Rattle.run_lines.specs.declared.running.LinesEnd.{LinesEnd}
use Rattle.run_lines.specs.declared.running.LinesEnd.TheVariants.{All as all_run, Bad, ReadFailed, TooMuch, WriteFailed, NoMemory}
use Rattle.run_lines.specs.declared.status.Status.{Status}
use Rattle.run_lines.specs.declared.status.Status.TheVariants.{NoMemory as no_memory}
use Rattle.run_lines.proofs.Closing.{closes-as}
use Rattle.run_lines.proofs.LinesSoFar.{text_of-append}
use Rattle.run_lines.proofs.Pieces.{AppendsPrefix-more}
use Rattle.run_lines.specs.Lines.{TextLine, listed, lines_in, fault_by, AllRan, StopsIn, RanLines, DoesText, StopsText, LinesTold}

-- What a machine over the things X does to a text is what the text does to a point, as long as the things are such.
module _ {X L P E : Type 0} (reading : List ℕ → Result (Option L) LineFault) (Ran Part : TextLine L → P → P → List E → Type 0)
    (pieces : List E → List (List ℕ)) (text : List E → List ℕ) (IsTable : P → List (List ℕ) → Type 0)
    (runs stops : X → List ℕ → X → List (List ℕ) → Type 0) (ends : X → List (List ℕ) → Type 0)
    (Is : X → Type 0) (point : X → P)
    (pieces-none : pieces [] ≡ []) (pieces-append : (a b : List E) → pieces (a ++ b) ≡ pieces a ++ pieces b)
    (pieces-text : (a : List E) → text_of (pieces a) ≡ text a)
    (does : (x : X) (words : List ℕ) (y : X) (out : List (List ℕ)) → Is x → runs x words y out → Is y × DoesText Ran pieces words (reading words) (point x) (point y) out)
    (stopped : (x : X) (words : List ℕ) (y : X) (out : List (List ℕ)) → Is x → stops x words y out → StopsText Part pieces words (reading words) (point x) (point y) out)
    (ended : (x : X) (out : List (List ℕ)) → ends x out → IsTable (point x) out) where
  -- texts were run from a point to a point, with this transcript
  pub record TextsRan (old : P) (texts : List (List ℕ)) (new : P) (out : List (List ℕ)) : Type 0 where
    pub entries : List E
    pub ran : AllRan Ran (lines_in reading texts) old new entries
    pub are : out ≡ pieces entries

  nothing : (p : P) → TextsRan p [] p []
  nothing p = record { entries = []; ran = (refl, refl); are = sym pieces-none }

  -- a text before others
  one_more : (words : List ℕ) (texts : List (List ℕ)) (read : Result (Option L) LineFault) → reading words ≡ read → (old mid new : P) (answer later : List (List ℕ))
      → DoesText Ran pieces words read old mid answer → TextsRan mid texts new later → TextsRan old (words ∷ texts) new (answer ++ later)
  one_more words texts (Ok None) is old mid new answer later d r =
      subst (λ (p : P). TextsRan p (words ∷ texts) new (answer ++ later)) d.0
      (subst (λ (a : List (List ℕ)). TextsRan mid (words ∷ texts) new (a ++ later)) (sym d.1)
      (record {
        entries = r.entries;
        ran = subst (λ (found : Result (Option L) LineFault). AllRan Ran (listed words found ++ lines_in reading texts) mid new r.entries) (sym is) r.ran;
        are = r.are;
      }))
  one_more words texts (Ok (Some line)) is old mid new answer later d r = record {
    entries = d.0 ++ r.entries;
    ran = subst (λ (found : Result (Option L) LineFault). AllRan Ran (listed words found ++ lines_in reading texts) old new (d.0 ++ r.entries)) (sym is)
        (mid, d.0, r.entries, d.1, r.ran, refl);
    are = ap (λ (a : List (List ℕ)). a ++ later) d.2 ∙ ap (λ (b : List (List ℕ)). pieces d.0 ++ b) r.are ∙ sym (pieces-append d.0 r.entries);
  }
  one_more words texts (Err fault) is old mid new answer later d r = absurd d

  all_texts : (old : X) (texts : List (List ℕ)) (new : X) (out : List (List ℕ)) → Is old → RunsAll (fault_by reading) runs old texts new out → TextsRan (point old) texts (point new) out
  all_texts old [] new out is ran =
      subst (λ (x : X). TextsRan (point old) [] (point x) out) (sym ran.0) (subst (λ (o : List (List ℕ)). TextsRan (point old) [] (point old) o) (sym ran.1) (nothing (point old)))
  all_texts old (words ∷ texts) new out is ran =
      let d = does old words ran.0 ran.1 is ran.4 in
      subst (λ (o : List (List ℕ)). TextsRan (point old) (words ∷ texts) (point new) o) (sym ran.6)
      (one_more words texts (reading words) refl (point old) (point ran.0) (point new) ran.1 ran.2 d.1 (all_texts ran.0 texts new ran.2 d.0 ran.5))

  -- the things stay such
  stays : (old : X) (texts : List (List ℕ)) (new : X) (out : List (List ℕ)) → Is old → RunsAll (fault_by reading) runs old texts new out → Is new
  stays old [] new out is ran = subst Is (sym ran.0) is
  stays old (words ∷ texts) new out is ran = stays ran.0 texts new ran.2 (does old words ran.0 ran.1 is ran.4).0 ran.5

  -- some texts, and a last one in part
  pub record LastRan (old : P) (texts : List (List ℕ)) (new : P) (out : List (List ℕ)) : Type 0 where
    pub entries : List E
    pub rest : List (List ℕ)
    pub ran : RanLines NoMemory Ran Part (lines_in reading texts) old new entries
    pub are : pieces entries ≡ out ++ rest

  last_one : (words : List ℕ) (prefix : List (List ℕ)) (read : Result (Option L) LineFault) → reading words ≡ read → (old mid new : P) (before answer : List (List ℕ))
      → TextsRan old prefix mid before → StopsText Part pieces words read mid new answer → LastRan old (prefix ++ words ∷ []) new (before ++ answer)
  last_one words prefix (Ok None) is old mid new before answer t s =
      let lines : lines_in reading (prefix ++ words ∷ []) ≡ lines_in reading prefix =
      flat_map-append (λ (ws : List ℕ). listed ws (reading ws)) prefix (words ∷ []) ∙ ap (λ (found : Result (Option L) LineFault). lines_in reading prefix ++ (listed words found ++ [])) is
      ∙ append-nil (lines_in reading prefix) in
      record {
        entries = t.entries;
        rest = [];
        ran = inl (subst (λ (p : P). AllRan Ran (lines_in reading (prefix ++ words ∷ [])) old p t.entries) (sym s.0)
            (subst (λ (ls : List (TextLine L)). AllRan Ran ls old mid t.entries) (sym lines) t.ran));
        are = sym t.are ∙ sym (append-nil before) ∙ ap (λ (a : List (List ℕ)). before ++ a) (sym s.1) ∙ sym (append-nil (before ++ answer));
      }
  last_one words prefix (Ok (Some line)) is old mid new before answer t s =
      let last : TextLine L = record { text = words; line = line } in
      let lines : lines_in reading (prefix ++ words ∷ []) ≡ lines_in reading prefix ++ last ∷ [] =
      flat_map-append (λ (ws : List ℕ). listed ws (reading ws)) prefix (words ∷ []) ∙ ap (λ (found : Result (Option L) LineFault). lines_in reading prefix ++ (listed words found ++ [])) is in
      record {
        entries = t.entries ++ s.0;
        rest = s.1;
        ran = inr (record {
          prefix = lines_in reading prefix;
          last = last;
          mid = mid;
          before = t.entries;
          entries = s.0;
          lines_are = lines;
          ran = t.ran;
          stopped = s.2;
          transcript_is = refl;
        });
        are = pieces-append t.entries s.0 ∙ ap (λ (a : List (List ℕ)). a ++ pieces s.0) (sym t.are) ∙ ap (λ (b : List (List ℕ)). before ++ b) s.3
            ∙ sym (append_assoc before answer s.1);
      }
  last_one words prefix (Err fault) is old mid new before answer t s = absurd s

  last_text : (old : X) (texts : List (List ℕ)) (new : X) (out : List (List ℕ)) → Is old → StopsInLast (fault_by reading) runs stops old texts new out → LastRan (point old) texts (point new) out
  last_text old texts new out is s =
      subst (λ (ts : List (List ℕ)). LastRan (point old) ts (point new) out) (sym s.texts_are)
      (subst (λ (o : List (List ℕ)). LastRan (point old) (s.prefix ++ s.text ∷ []) (point new) o) (sym s.pieces_are)
      (last_one s.text s.prefix (reading s.text) refl (point old) (point s.mid) (point new) s.before s.answer (all_texts old s.prefix s.mid s.before is s.ran)
      (stopped s.mid s.text new s.answer (stays old s.prefix s.mid s.before is s.ran) s.stopped)))

  -- ---- the run

  abbrev pub Told : Status → Option (List ℕ) → Option (List ℕ) → P → P → Option (List ℕ) → Option (List ℕ) → Type 0
  Told status left left' old new sink sink' = LinesTold status reading Ran Part text IsTable left left' old new sink sink'

  with_ran : (end : LinesEnd) (lines : List (TextLine L)) (old new : P) (entries : List E) → AllRan Ran lines old new entries → RanLines end Ran Part lines old new entries
  with_ran all_run lines old new entries r = r
  with_ran (Bad number fault) lines old new entries r = r
  with_ran ReadFailed lines old new entries r = r
  with_ran TooMuch lines old new entries r = r
  with_ran WriteFailed lines old new entries r = r
  with_ran NoMemory lines old new entries r = inl r

  whole : (end : LinesEnd) (status : Status) (left left' : Option (List ℕ)) (old new : X) (sink mid sink' : Option (List ℕ))
      → (l : LinesRan end (fault_by reading) runs stops left left' old new sink mid) → RunsAll (fault_by reading) runs old l.texts new l.pieces → Closes ends end status new mid sink' → Is old
      → Told status left left' (point old) (point new) sink sink'
  whole end status left left' old new sink mid sink' l ran closes is =
      let t : TextsRan (point old) l.texts (point new) l.pieces = all_texts old l.texts new l.pieces is ran in
      record {
        end = end;
        input = l.input;
        texts = l.texts;
        transcript = t.entries;
        mid = mid;
        read = l.read;
        in_turn = l.in_turn;
        ended = l.ended;
        ran = with_ran end (lines_in reading l.texts) (point old) (point new) t.entries t.ran;
        written = subst (λ (bytes : List ℕ). WrittenTo end sink mid bytes) (ap text_of t.are ∙ pieces-text t.entries) l.written;
        closes = closes-as ends IsTable new (point new) (ended new) mid sink' end status closes;
      }

  in_part : (status : Status) (left left' : Option (List ℕ)) (old new : X) (sink mid sink' : Option (List ℕ))
      → (l : LinesRan NoMemory (fault_by reading) runs stops left left' old new sink mid) → StopsInLast (fault_by reading) runs stops old l.texts new l.pieces → (status ≡ no_memory) × (sink' ≡ mid)
      → Is old → Told status left left' (point old) (point new) sink sink'
  in_part status left left' old new sink mid sink' l stop closes is =
      let t : LastRan (point old) l.texts (point new) l.pieces = last_text old l.texts new l.pieces is stop in
      let all : text_of l.pieces ++ text_of t.rest ≡ text t.entries = sym (text_of-append l.pieces t.rest) ∙ sym (ap text_of t.are) ∙ pieces-text t.entries in
      record {
        end = NoMemory;
        input = l.input;
        texts = l.texts;
        transcript = t.entries;
        mid = mid;
        read = l.read;
        in_turn = l.in_turn;
        ended = l.ended;
        ran = t.ran;
        written = subst (λ (bytes : List ℕ). AppendsPrefix sink mid bytes) all (AppendsPrefix-more sink mid (text_of l.pieces) (text_of t.rest) l.written);
        closes = closes;
      }

  by_end : (end : LinesEnd) (status : Status) (left left' : Option (List ℕ)) (old new : X) (sink mid sink' : Option (List ℕ))
      → (l : LinesRan end (fault_by reading) runs stops left left' old new sink mid) → Closes ends end status new mid sink' → Is old → Told status left left' (point old) (point new) sink sink'
  by_end all_run status left left' old new sink mid sink' l closes is = whole all_run status left left' old new sink mid sink' l l.ran closes is
  by_end (Bad number fault) status left left' old new sink mid sink' l closes is = whole (Bad number fault) status left left' old new sink mid sink' l l.ran closes is
  by_end ReadFailed status left left' old new sink mid sink' l closes is = whole ReadFailed status left left' old new sink mid sink' l l.ran closes is
  by_end TooMuch status left left' old new sink mid sink' l closes is = whole TooMuch status left left' old new sink mid sink' l l.ran closes is
  by_end WriteFailed status left left' old new sink mid sink' l closes is = whole WriteFailed status left left' old new sink mid sink' l l.ran closes is
  by_end NoMemory status left left' old new sink mid sink' l closes is = go l.ran
    where
      go : RunsAll (fault_by reading) runs old l.texts new l.pieces ⊎ StopsInLast (fault_by reading) runs stops old l.texts new l.pieces → Told status left left' (point old) (point new) sink sink'
      go (inl ran) = whole NoMemory status left left' old new sink mid sink' l ran closes is
      go (inr stop) = in_part status left left' old new sink mid sink' l stop closes is

  pub lines_told : (status : Status) (left left' : Option (List ℕ)) (old new : X) (sink sink' : Option (List ℕ))
      → HasRun status (fault_by reading) runs stops ends left left' old new sink sink' → Is old → Told status left left' (point old) (point new) sink sink'
  lines_told status left left' old new sink sink' h is = by_end h.end status left left' old new sink h.mid sink' h.lines h.closes is

-- no memory before the first line
pub none_told : {L P E : Type 0} (reading : List ℕ → Result (Option L) LineFault) (Ran Part : TextLine L → P → P → List E → Type 0) (text : List E → List ℕ)
    (IsTable : P → List (List ℕ) → Type 0) (left : Option (List ℕ)) (old : P) (sink : Option (List ℕ))
    → LinesTold no_memory reading Ran Part text IsTable left left old old sink sink
none_told reading Ran Part text IsTable left old sink = record {
  end = NoMemory;
  input = [];
  texts = [];
  transcript = [];
  mid = sink;
  read = Consumes-nil left;
  in_turn = record {
    earlier = [];
    piece = [];
    parts = refl;
    short = omega arith;
    prefix = [];
    later = [];
    are = refl;
    rest = [];
    lines = refl;
    unfinished = record { one = tt; short = omega arith };
  };
  ended = (inl ([], refl), omega arith);
  ran = inl (refl, refl);
  written = ([], (text [], refl), Appends-nil sink);
  closes = (refl, refl);
}
