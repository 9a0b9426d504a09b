-- A host that starts from the records of earlier lives goes on with their facts.
use Rattle.std.proofs.Common.{◌≡◌, ℕ, true, false, List, [], ◌∷◌, ◌++◌, length, Option, Some, None, refl, sym, ap, ap₂, subst, ◌∙◌, append-nil}
use Rattle.std.specs.Prelude.{IsSome}
use Rattle.s0_crypto.specs.declared.key_pair.Keys.{Keys}
use Rattle.zw_text.specs.declared.entry.Entry.{Entry}
use Rattle.host_keep.specs.Keeping.{OptAdds}
use Rattle.host_keep.specs.Kept.{Kept, first_kept, kept_of}
use Rattle.host_keep.specs.Legal.{AreTextsOf, AreLegal}
use Rattle.host_keep.specs.RecordText.{IsTextOf}
use Rattle.host_keep.specs.declared.record.Record.{Record}
use Rattle.host_model.specs.State.{HostState, HostParts, first_host}
use Rattle.host_model.specs.Events.{HostEvent}
use Rattle.host_model.specs.Did.{MayAll, records_all, texts_of}
use Rattle.host_model.proofs.EventLists.{all_in_range}
use Rattle.run_all.specs.host_core.Opening.{Opens, AreTold}
use Rattle.host_model.specs.Holding.{Holds, HoldsAlone}
use Rattle.host_model.specs.Opening.{opened}
use Rattle.host_model.specs.Recording.{AllOfJoined}
use Rattle.proof_host.specs.Facts.{Facts}
use Rattle.proof_host.specs.Lives.{AreLives, with_records, entries_of_lives, last_of_lives}
use Rattle.proof_host.proofs.HostsFromRecords.{nothing_kept, nothing_legal}
use Rattle.proof_answers.proofs.HeldRecords.{texts_of_range, texts_both}
use Rattle.proof_commands.specs.Lives.{records_from, records_of, entries_of, AreLivesOf, HasRecords, GoesOn}

-- ---- lives from records on

-- the host that starts last
pub last_opened : (keys : Keys) (records : List Record) (lives : List (List HostEvent))
    → last_of_lives keys (opened keys records) records lives ≡ opened keys (records_from keys (opened keys records) records lives)
last_opened keys records [] = refl
last_opened keys records (events ∷ more) = last_opened keys (with_records (opened keys records) records events) more

-- a life more
one_more : (keys : Keys) (h : HostState) (records : List Record) (lives : List (List HostEvent)) (events : List HostEvent) → AreLives keys h records lives
    → MayAll (last_of_lives keys h records lives) events → AllOfJoined (last_of_lives keys h records lives) events → AreLives keys h records (lives ++ events ∷ [])
one_more keys h records [] events are may joined = (may, joined, tt)
one_more keys h records (first ∷ more) events are may joined =
    (are.0, are.1, one_more keys (opened keys (with_records h records first)) (with_records h records first) more events are.2 may joined)

more_records : (keys : Keys) (h : HostState) (records : List Record) (lives : List (List HostEvent)) (events : List HostEvent)
    → records_from keys h records (lives ++ events ∷ []) ≡ records_from keys h records lives ++ records_all (last_of_lives keys h records lives) events
more_records keys h records [] events = refl
more_records keys h records (first ∷ more) events = more_records keys (opened keys (with_records h records first)) (with_records h records first) more events

-- ---- texts of records

-- what the keeper told, once nothing was added and then these records were
told_more : (before told later : Option (List (List ℕ))) (kept more : List Record) (number many : ℕ) → HasRecords number before kept → OptAdds before told [] → OptAdds told later (texts_of more)
    → IsSome later → AreTextsOf more (texts_of more) → HasRecords many later (kept ++ more)
told_more None told later kept more number many has still adds some texts =
    let none : later ≡ None = subst (λ (o : Option (List (List ℕ))). OptAdds o later (texts_of more)) still adds in
    let wrong : false ≡ true = subst (λ (o : Option (List (List ℕ))). IsSome o) none some in absurd cc
told_more (Some before) told later kept more number many has still adds some texts =
    let same : told ≡ Some before = still ∙ ap (λ (l : List (List ℕ)). Some l) (append-nil before) in
    let now : later ≡ Some (before ++ texts_of more) = subst (λ (o : Option (List (List ℕ))). OptAdds o later (texts_of more)) same adds in
    subst (λ (o : Option (List (List ℕ))). HasRecords many o (kept ++ more)) (sym now) (texts_both kept more before (texts_of more) has texts)

-- a run that did these events from the records of lives on leaves those of one life more
pub leaves_life : (keys : Keys) (number many : ℕ) (before told later : Option (List (List ℕ))) (lives : List (List HostEvent)) (events : List HostEvent) → GoesOn keys number before lives
    → OptAdds before told [] → OptAdds told later (texts_of (records_all (opened keys (records_of keys lives)) events)) → IsSome later → MayAll (opened keys (records_of keys lives)) events
    → AllOfJoined (opened keys (records_of keys lives)) events → GoesOn keys many later (lives ++ events ∷ [])
leaves_life keys number many before told later lives events on still adds some may well =
    let here = opened keys (records_of keys lives) in
    let last : last_of_lives keys (opened keys []) [] lives ≡ here = last_opened keys [] lives in
    record {
      are = one_more keys (opened keys []) [] lives events on.are (subst (λ (h : HostState). MayAll h events) (sym last) may)
          (subst (λ (h : HostState). AllOfJoined h events) (sym last) well);
      kept = subst (λ (l : List Record). HasRecords many later l)
          (ap (λ (h : HostState). records_of keys lives ++ records_all h events) (sym last) ∙ sym (more_records keys (opened keys []) [] lives events))
          (told_more before told later (records_of keys lives) (records_all here events) number many on.kept still adds some (texts_of_range (records_all here events) (all_in_range here events may)));
    }

-- ---- records

none_of : (records : List Record) (number : ℕ) → number ≡ 0 → length records ≡ number → [] ≡ records
none_of [] number none many = refl
none_of (one ∷ more) number none many = cc

module _ (of_one : (one other : Record) (text : List ℕ) → IsTextOf one text → IsTextOf other text → one ≡ other) where
  same_records : (a b : List Record) (texts : List (List ℕ)) → AreTextsOf a texts → AreTextsOf b texts → a ≡ b
  same_records [] [] [] first later = refl
  same_records [] [] (t ∷ texts) first later = absurd first
  same_records [] (y ∷ b) [] first later = absurd later
  same_records [] (y ∷ b) (t ∷ texts) first later = absurd first
  same_records (x ∷ a) [] [] first later = absurd first
  same_records (x ∷ a) [] (t ∷ texts) first later = absurd later
  same_records (x ∷ a) (y ∷ b) [] first later = absurd first
  same_records (x ∷ a) (y ∷ b) (t ∷ texts) first later =
      ap₂ (λ (z : Record) (zs : List Record). z ∷ zs) (of_one x y t first.0 later.0) (same_records a b texts first.1 later.1)

  records_so : (number : ℕ) (told : Option (List (List ℕ))) (kept records : List Record) → HasRecords number told kept → length records ≡ number → AreTold records told → kept ≡ records
  records_so number None kept records has many are = has.1 ∙ none_of records number has.0 many
  records_so number (Some texts) kept records has many are = same_records kept records texts has are

  -- a host opens from the records of the lives
  pub opens_so : (keys : Keys) (number : ℕ) (told : Option (List (List ℕ))) (lives : List (List HostEvent)) (host : HostParts) → GoesOn keys number told lives → (opens : Opens keys number told host)
      → records_of keys lives ≡ opens.records
  opens_so keys number told lives host on opens = records_so number told (records_of keys lives) opens.records on.kept opens.many opens.are

-- ---- facts

module _ (begins : (keys : Keys) → Facts [] (first_host keys)) (first_holds : (keys : Keys) → HoldsAlone (first_host keys) first_kept)
    (opened_holds : (keys : Keys) (records : List Record) → AreLegal records → HoldsAlone (opened keys records) (kept_of records))
    (keeps : (keys : Keys) (past : List Entry) (h : HostState) (records : List Record) (lives : List (List HostEvent)) → Facts past h → Holds h (kept_of records) → AreLegal records
    → AreLives keys h records lives → Facts (past ++ entries_of_lives keys h records lives) (last_of_lives keys h records lives)) where
  -- a host that starts without records has the facts of the first one, which did nothing
  opens_first : (keys : Keys) → Facts [] (opened keys [])
  opens_first keys =
      keeps keys [] (first_host keys) [] ([] ∷ []) (begins keys) (subst (λ (k : Kept). Holds (first_host keys) k) (sym nothing_kept) (first_holds keys).holds) nothing_legal (tt, tt, tt)

  pub goes_on : (keys : Keys) (lives : List (List HostEvent)) → AreLivesOf keys lives → Facts (entries_of keys lives) (opened keys (records_of keys lives))
  goes_on keys lives are =
      subst (λ (h : HostState). Facts (entries_of keys lives) h) (last_opened keys [] lives)
      (keeps keys [] (opened keys []) [] lives (opens_first keys) (opened_holds keys [] nothing_legal).holds nothing_legal are)
