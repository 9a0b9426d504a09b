-- Records that a keeper holds are read and taken up, one after another.
use Rattle.std.proofs.Common.{◌≡◌, inl, inr, ℕ, zero, suc, ◌+◌, ◌<◌, ◌≤◌, true, List, [], ◌∷◌, ◌++◌, length, take, Option, Some, None, refl, sym, ap, ◌∙◌, subst, arith}
use Rattle.std.specs.Prelude.{◌⊎◌, min, slice_get}
use Rattle.std.proofs.lemmas.List.{take_all}
use Rattle.std.proofs.lemmas.Bool.{cases_lt}
use Rattle.std.proofs.lemmas.Grind.{length_at_push}
use Rattle.zw_base.specs.Faults.{raised, greatest_count}
use Rattle.serial_frame.specs.Stream.{no_rest}
use Rattle.s0_crypto.specs.declared.key_pair.Keys.{Keys}
use Rattle.host_keep.specs.declared.record.Record.{Record}
use Rattle.host_keep.specs.RecordText.{IsTextOf}
use Rattle.host_keep.specs.Kept.{Kept, first_kept, after_all as kept_after_all, kept_of}
use Rattle.host_keep.specs.Legal.{AreTextsOf, AreLegal, IsFirstBad, first_illegal, is_legal}
use Rattle.host_model.specs.State.{HostState, HostParts, first_host}
use Rattle.host_model.specs.Did.{RoseBy}
use Rattle.host_model.proofs.EventLists.{rose_less}
use Rattle.host_model.specs.Restoring.{may_restore, restored}
use Rattle.host_model.specs.Opening.{restored_all, restarted}
use Rattle.host_model.specs.Holding.{HoldsAlone}
use Rattle.host_core.specs.Opening.{AreTold, Opens, IsRecordAt, Takes, MayTakeNone}

-- ---- what is known of records

abbrev pub May : Type 0
May = (h : HostState) (kept : Kept) (one : Record) → HoldsAlone h kept → may_restore h one ≡ is_legal kept one

abbrev pub Holds : Type 0
Holds = (keys : Keys) (records : List Record) → AreLegal records → HoldsAlone (restored_all (first_host keys) records) (kept_of records)

abbrev pub Legal : Type 0
Legal = (kept : Kept) (records : List Record) (one : Record) → first_illegal kept records ≡ None
    → is_legal (kept_after_all kept records) one ≡ true → first_illegal kept (records ++ one ∷ []) ≡ None

abbrev pub More : Type 0
More = (h : HostState) (records more : List Record) → restored_all h (records ++ more) ≡ restored_all (restored_all h records) more

abbrev pub One : Type 0
One = (h : HostState) (one : Record) → restored_all h (one ∷ []) ≡ restored h one

-- ---- the first of them

-- the first texts, so many, where they are told
abbrev pub prefix : ℕ → Option (List (List ℕ)) → Option (List (List ℕ))
prefix at None = None
prefix at (Some texts) = Some (take at texts)

none_of : (texts : List (List ℕ)) → take 0 texts ≡ []
none_of [] = refl
none_of (text ∷ texts) = refl

none_told : (told : Option (List (List ℕ))) → AreTold [] (prefix 0 told)
none_told None = tt
none_told (Some texts) = subst (λ (l : List (List ℕ)). AreTextsOf [] l) (sym (none_of texts)) tt

none_is_legal : AreLegal []
unfolding first_illegal
none_is_legal = refl

texts_more : (records : List Record) (texts : List (List ℕ)) (at : ℕ) (one : Record) (text : List ℕ) → AreTextsOf records (take at texts) → slice_get texts at ≡ Some text → IsTextOf one text
    → AreTextsOf (records ++ one ∷ []) (take (suc at) texts)
texts_more records [] at one text are stands is = absurd (never stands)
  where
    never : slice_get [] at ≡ Some text → ⊥
    never e = cc
texts_more [] (first ∷ texts) zero one text are stands is =
    (subst (λ (t : List ℕ). IsTextOf one t) (same stands) is, subst (λ (l : List (List ℕ)). AreTextsOf [] l) (sym (none_of texts)) tt)
  where
    same : slice_get (first ∷ texts) 0 ≡ Some text → text ≡ first
    same e = cc
texts_more (r ∷ records) (first ∷ texts) zero one text are stands is = absurd are
texts_more [] (first ∷ texts) (suc at) one text are stands is = absurd are
texts_more (r ∷ records) (first ∷ texts) (suc at) one text are stands is = (are.0, texts_more records texts at one text are.1 stands is)

told_more : (records : List Record) (told : Option (List (List ℕ))) (at : ℕ) (one : Record) → AreTold records (prefix at told) → IsRecordAt told at one → AreTold (records ++ one ∷ []) (prefix (at + 1) told)
told_more records None at one are found = tt
told_more records (Some texts) at one are found =
    subst (λ (k : ℕ). AreTextsOf (records ++ one ∷ []) (take k texts)) next (texts_more records texts at one found.0 are found.1 found.2)
  where
    next : suc at ≡ at + 1
    next = omega arith

all_told : (records : List Record) (told : Option (List (List ℕ))) (number : ℕ) → ((texts : List (List ℕ)) → told ≡ Some texts → number ≡ length texts) → AreTold records (prefix number told) → AreTold records told
all_told records None number tells are = tt
all_told records (Some texts) number tells are =
    subst (λ (l : List (List ℕ)). AreTextsOf records l) (take_all number texts (subst (λ (k : ℕ). length texts ≤ k) (sym (tells texts refl)) (omega arith))) are

-- ---- the host so far

-- the host that took up the first records of a keeper, so many
pub record TookUp (keys : Keys) (told : Option (List (List ℕ))) (at : ℕ) (core : HostParts) : Type 0 where
  pub records : List Record
  pub many : length records ≡ at
  pub are : AreTold records (prefix at told)
  pub legal : AreLegal records
  pub state : core ≡ record { decoder = no_rest; state = restored_all (first_host keys) records }

abbrev pub fresh : HostState → HostParts
fresh h = record { decoder = no_rest; state = h }

pub took_none : (keys : Keys) (told : Option (List (List ℕ))) (core : HostParts) → restored_all (first_host keys) [] ≡ first_host keys → core ≡ fresh (first_host keys) → TookUp keys told 0 core
took_none keys told core nothing is =
    record { records = []; many = refl; are = none_told told; legal = none_is_legal; state = is ∙ ap fresh (sym nothing) }

-- a record that such a host may take up may stand there
stands_there : May → Holds → (keys : Keys) (core : HostParts) (records : List Record) (one : Record) → AreLegal records → core ≡ fresh (restored_all (first_host keys) records) → is_legal (kept_of records) one ≡ may_restore core.state one
stands_there may holds keys core records one legal state =
    sym (may (restored_all (first_host keys) records) (kept_of records) one (holds keys records legal))
    ∙ ap (λ (s : HostParts). may_restore s.state one) (sym state)

lengths : (records : List Record) (one : Record) (at : ℕ) → length records ≡ at → length (records ++ one ∷ []) ≡ at + 1
lengths records one at e = (length_at_push records one).1 ∙ ap (λ (k : ℕ). k + 1) e

pub took_more : May → Holds → Legal → More → One → (keys : Keys) (told : Option (List (List ℕ))) (at : ℕ) (core new : HostParts) → TookUp keys told at core → Takes told at core new → TookUp keys told (at + 1) new
took_more may holds legal more one_more keys told at core new t taken =
    let one = taken.0 in
    record {
      records = t.records ++ one ∷ [];
      many = lengths t.records one at t.many;
      are = told_more t.records told at one t.are taken.1;
      legal = legal first_kept t.records one t.legal (stands_there may holds keys core t.records one t.legal t.state ∙ taken.2);
      state = taken.3 ∙ ap (λ (s : HostParts). let p : HostParts = record s { state = restored s.state one } in p) t.state
          ∙ ap fresh (sym (more (first_host keys) t.records (one ∷ []) ∙ one_more (restored_all (first_host keys) t.records) one));
    }

pub first_bad : May → Holds → (keys : Keys) (texts : List (List ℕ)) (at : ℕ) (core : HostParts) → TookUp keys (Some texts) at core → MayTakeNone (Some texts) at core.state → IsFirstBad texts at
first_bad may holds keys texts at core t none = record {
  text = none.0;
  stands = none.1;
  before = kept_of t.records;
  gave = record { records = t.records; are = t.are; legal = t.legal; gives = refl };
  bad = λ one is. stands_there may holds keys core t.records one t.legal t.state ∙ none.2 one is;
}

pub opens : (keys : Keys) (told : Option (List (List ℕ))) (number : ℕ) (core new : HostParts) → TookUp keys told number core → ((texts : List (List ℕ)) → told ≡ Some texts → number ≡ length texts)
    → new ≡ record core { state = restarted core.state } → Opens keys number told new
opens keys told number core new t tells is = record {
  records = t.records;
  many = t.many;
  are = all_told t.records told number tells t.are;
  legal = t.legal;
  state = is ∙ ap (λ (s : HostParts). let p : HostParts = record s { state = restarted s.state } in p) t.state;
}

-- ---- counts

below_top : (now top new : ℕ) → now < top → new ≡ min (now + 1) top → new ≡ now + 1
below_top now top new less e = grind (arith, e)

at_top : (now top new : ℕ) → top ≤ now → new ≡ min (now + 1) top → new ≡ top
at_top now top new more e = grind (arith, e)

one_read : (at reads now new top : ℕ) → (now < top) ⊎ (top ≤ now) → new ≡ min (now + 1) top → (reads + at ≤ now) ⊎ (top ≤ now) → (reads + (at + 1) ≤ new) ⊎ (top ≤ new)
one_read at reads now new top (inr more) e so = inr (omega (arith, at_top now top new more e))
one_read at reads now new top (inl less) e (inl some) = inl (omega (arith, some, below_top now top new less e))
one_read at reads now new top (inl less) e (inr is) = absurd (omega (arith, less, is))

pub read_none : (reads : ℕ) → RoseBy 0 reads reads
read_none reads = inl (omega arith)

pub read_more : (at reads now new : ℕ) → RoseBy at reads now → new ≡ raised now → RoseBy (at + 1) reads new
read_more at reads now new so e = one_read at reads now new greatest_count (cases_lt now greatest_count) e so

-- one record more was read, or none
pub read_on : (at reads now new : ℕ) → RoseBy at reads now → (new ≡ now) ⊎ (new ≡ raised now) → RoseBy 0 reads new
read_on at reads now new so (inl same) = subst (λ (n : ℕ). RoseBy 0 reads n) (sym same) (rose_less 0 at reads now (omega arith) so)
read_on at reads now new so (inr more) = rose_less 0 (at + 1) reads new (omega arith) (read_more at reads now new so more)
