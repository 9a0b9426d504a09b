-- Records, one after another.
use Rattle.std.proofs.Common.{◌≡◌, ◌≢◌, ℕ, zero, suc, ◌<◌, ◌≤◌, List, [], ◌∷◌, ◌++◌, length, take, get_or, Bool, true, false, if◌then◌else◌, Option, Some, None, option_map, refl, sym, ap, ◌∙◌, subst, arith}
use Rattle.std.specs.Prelude.{slice_get}
use Rattle.host_keep.specs.Kept.{Kept, after, after_all, first_kept, kept_of}
use Rattle.host_keep.specs.Legal.{is_legal, first_illegal, AreLegal, AreTextsOf, Give, IsFirstBad}
use Rattle.host_keep.specs.RecordText.{IsTextOf}
use Rattle.host_keep.specs.declared.record.Record.{Record}
use Rattle.host_keep.proofs.RowsBack.{one_record}

pub after_all-append : (kept : Kept) (records more : List Record) → after_all kept (records ++ more) ≡ after_all (after_all kept records) more
unfolding after_all
after_all-append kept [] more = refl
after_all-append kept (one ∷ records) more = after_all-append (after kept one) records more

-- ---- the first that is not legal

pub none_of : (o : Option ℕ) → option_map suc o ≡ None → o ≡ None
none_of None e = refl
none_of (Some n) e = cc

abbrev step : Bool → Option ℕ → Option ℕ
step legal rest = if legal then option_map suc rest else Some 0

step_none : (b : Bool) (rest : Option ℕ) → step b rest ≡ None → (b ≡ true) × (rest ≡ None)
step_none true rest e = (refl, none_of rest e)
step_none false rest e = absurd cc

pub legal_cons : (kept : Kept) (one : Record) (more : List Record) → first_illegal kept (one ∷ more) ≡ None → (is_legal kept one ≡ true) × (first_illegal (after kept one) more ≡ None)
unfolding first_illegal
legal_cons kept one more e = step_none (is_legal kept one) (first_illegal (after kept one) more) e

pub legal_one_more : (kept : Kept) (records : List Record) (one : Record) → first_illegal kept records ≡ None → is_legal (after_all kept records) one ≡ true
    → first_illegal kept (records ++ one ∷ []) ≡ None
unfolding first_illegal after_all
legal_one_more kept [] one e h = ap (λ b. step b None) h
legal_one_more kept (first ∷ records) one e h =
    let both = legal_cons kept first records e in
    ap (λ b. step b (first_illegal (after kept first) (records ++ one ∷ []))) both.0
    ∙ ap (option_map suc) (legal_one_more (after kept first) records one both.1 h)

-- ---- texts

same_records : (records others : List Record) (texts : List (List ℕ)) → AreTextsOf records texts → AreTextsOf others texts → records ≡ others
same_records [] [] [] p q = refl
same_records [] [] (text ∷ texts) p q = absurd p
same_records [] (other ∷ others) [] p q = absurd q
same_records [] (other ∷ others) (text ∷ texts) p q = absurd p
same_records (one ∷ records) [] [] p q = absurd p
same_records (one ∷ records) [] (text ∷ texts) p q = absurd q
same_records (one ∷ records) (other ∷ others) [] p q = absurd p
same_records (one ∷ records) (other ∷ others) (text ∷ texts) p q =
    ap (λ r. r ∷ records) (one_record one other text p.0 q.0) ∙ ap (λ rs. other ∷ rs) (same_records records others texts p.1 q.1)

pub give_one : (texts : List (List ℕ)) (kept other : Kept) → Give texts kept → Give texts other → kept ≡ other
give_one texts kept other g h = g.gives ∙ ap kept_of (same_records g.records h.records texts g.are h.are) ∙ sym h.gives

-- what stands at a place: the records before it, the one there, and that it is legal after them
record Splits (kept : Kept) (texts : List (List ℕ)) (at : ℕ) (text : List ℕ) : Type 0 where
  before : List Record
  one : Record
  are : AreTextsOf before (take at texts)
  is : IsTextOf one text
  legal : first_illegal kept before ≡ None
  next : is_legal (after_all kept before) one ≡ true

split_at : (kept : Kept) (records : List Record) (texts : List (List ℕ)) (at : ℕ) (text : List ℕ)
    → AreTextsOf records texts → first_illegal kept records ≡ None → slice_get texts at ≡ Some text → Splits kept texts at text
unfolding after_all first_illegal
split_at kept [] [] at text p e s = absurd cc
split_at kept [] (t ∷ texts) at text p e s = absurd p
split_at kept (one ∷ records) [] at text p e s = absurd p
split_at kept (one ∷ records) (t ∷ texts) zero text p e s =
    let both = legal_cons kept one records e in
    let same : t ≡ text = cc in
    record { before = []; one = one; are = tt; is = subst (λ u. IsTextOf one u) same p.0; legal = refl; next = both.0 }
split_at kept (one ∷ records) (t ∷ texts) (suc at) text p e s =
    let both = legal_cons kept one records e in
    let rest = split_at (after kept one) records texts at text p.1 both.1 s in
    record {
      before = one ∷ rest.before;
      one = rest.one;
      are = (p.0, rest.are);
      is = rest.is;
      legal = ap (λ b. step b (first_illegal (after kept one) rest.before)) both.0 ∙ ap (option_map suc) rest.legal;
      next = rest.next;
    }

true_not_false : (b : Bool) → b ≡ true → b ≡ false → ⊥
true_not_false b p q = cc

pub good_not_bad : (texts : List (List ℕ)) (kept : Kept) (at : ℕ) → Give texts kept → IsFirstBad texts at → ⊥
good_not_bad texts kept at g b =
    let s = split_at first_kept g.records texts at b.text g.are g.legal b.stands in
    let same = b.gave.gives ∙ ap kept_of (same_records b.gave.records s.before (take at texts) b.gave.are s.are) in
    true_not_false (is_legal b.before s.one) (ap (λ k. is_legal k s.one) same ∙ s.next) (b.bad s.one s.is)

-- ---- the first that is bad is one

take-take : (at other : ℕ) (texts : List (List ℕ)) → at ≤ other → take at (take other texts) ≡ take at texts
take-take zero other texts h = refl
take-take (suc at) zero texts h = absurd (omega arith)
take-take (suc at) (suc other) [] h = refl
take-take (suc at) (suc other) (text ∷ texts) h = ap (λ ts. text ∷ ts) (take-take at other texts (omega arith))

slice_get-take : (at other : ℕ) (texts : List (List ℕ)) → at < other → slice_get (take other texts) at ≡ slice_get texts at
slice_get-take at zero texts h = absurd (omega arith)
slice_get-take at (suc other) [] h = refl
slice_get-take zero (suc other) (text ∷ texts) h = refl
slice_get-take (suc at) (suc other) (text ∷ texts) h = slice_get-take at other texts (omega arith)

-- a bad text among the first ones
within : (texts : List (List ℕ)) (at other : ℕ) → at < other → IsFirstBad texts at → IsFirstBad (take other texts) at
within texts at other h b = record {
  text = b.text;
  stands = slice_get-take at other texts h ∙ b.stands;
  before = b.before;
  gave = subst (λ ts. Give ts b.before) (sym (take-take at other texts (omega arith))) b.gave;
  bad = b.bad;
}

none_sooner : (texts : List (List ℕ)) (at other : ℕ) → IsFirstBad texts at → IsFirstBad texts other → at < other → ⊥
none_sooner texts at other b c h = good_not_bad (take other texts) c.before at c.gave (within texts at other h b)

neither_below : (a b : ℕ) → (a < b → ⊥) → (b < a → ⊥) → a ≡ b
neither_below a b p q = omega (arith, p, q)

pub bad_once : (texts : List (List ℕ)) (at other : ℕ) → IsFirstBad texts at → IsFirstBad texts other → at ≡ other
bad_once texts at other b c = neither_below at other (none_sooner texts at other b c) (none_sooner texts other at c b)
