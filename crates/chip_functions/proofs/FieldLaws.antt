-- A field that is read is the field that was written, and what was written is read again.
use Rattle.std.proofs.Common.{◌≡◌, ℕ, suc, ◌+◌, ◌^◌, ◌<◌, ◌≤◌, Bool, true, false, cond, eqb, ltb, leb, eq-eqb, List, [], ◌∷◌, ◌++◌, length, take, drop, Option, Some, None, Result, Ok, Err, refl, sym, ap, subst, ◌∙◌, append_assoc, arith, inl, inr}
use Rattle.std.specs.Prelude.{◌&&◌}
use Rattle.std.specs.Int.{Width, w16, w32, byte_len, from_be_bytes, to_be_bytes}
use Rattle.std.proofs.lemmas.Bool.{cases_lt, ltb-true, ltb-false, le-ltb, le-leb, leb-true, and_from, and_parts, eqb-true}
use Rattle.std.proofs.lemmas.List.{take_at, drop_at, take-append-drop, length-append, length-take, get_or-drop, get_or-take, get_or_past}
use Rattle.std.proofs.lemmas.Nat.{be_bytes_2, be_bytes_4, from_be_bytes-to_be_bytes_2, from_be_bytes-to_be_bytes_4}
use Rattle.std.proofs.lemmas.Option.{cond_some as some_if}
use Rattle.chip_functions.specs.declared.fault.BodyFault.{BodyFault}
use Rattle.chip_functions.specs.declared.fault.BodyFault.TheVariants.{UnknownFunction, Short, BadField, NoMemory}
use Rattle.chip_functions.specs.declared.mask.TheConstants.{MASK_BYTES}
use Rattle.chip_functions.specs.Mask.{IsBytes, AreNodes, nodes_of, mask_of}
use Rattle.chip_functions.specs.Place.{Place, Reading, IsFaultFrom, ◌>>=◌, byte_from, piece_from, found_at}
use Rattle.chip_functions.specs.Field.{Field, byte, piece, three_of, triple, ◌then◌, coded, byte_within, node, mark, number, mask, counted, read_as}
use Rattle.chip_functions.proofs.MaskLemmas.{mask_of-nodes_of, nodes_of-mask_of, are_nodes, mask_len}

-- what was read from p on, up to q
pub record Takes (p q : Place) (text : List ℕ) : Type 0 where
  pub parts : p.rest ≡ text ++ q.rest
  pub fits : IsBytes q.rest
  pub moves : p.before ≤ q.before
  pub sum : q.before + length q.rest ≡ p.before + length p.rest

-- what is spelled from p on is read, and what follows comes next
pub record Reads {A : Type 0} (field : Field A) (x : A) (p : Place) (rest : List ℕ) : Type 0 where
  pub place : Place
  pub is : field.read p ≡ Ok (x, place)
  pub after : place.rest ≡ rest

-- the laws of a field, whose values are those that fit
pub record Lawful {A : Type 0} (field : Field A) (Fits : A → Type 0) : Type 0 where
  pub takes : (p : Place) (x : A) (q : Place) → IsBytes p.rest → field.read p ≡ Ok (x, q) → Takes p q (field.spell x) × Fits x
  pub again : (x : A) (p : Place) (rest : List ℕ) → Fits x → p.rest ≡ field.spell x ++ rest → Reads field x p rest
  pub faults : (p : Place) (fault : BodyFault) → IsBytes p.rest → field.read p ≡ Err fault → IsFaultFrom p fault

-- ---- steps

abbrev pub failed : {A : Type 0} → BodyFault → Result A BodyFault
failed fault = Err fault

pub err_is : {A : Type 0} (c d : BodyFault) → failed {A = A} c ≡ failed d → c ≡ d
err_is c d e = cc

-- the value of a step that did not fail
pub bind_ok : {A B : Type 0} (r : Result A BodyFault) (f : A → Result B BodyFault) (y : B) → (r >>= f) ≡ Ok y → (x : A) × (r ≡ Ok x) × (f x ≡ Ok y)
bind_ok (Ok x) f y e = (x, refl, e)
bind_ok (Err d) f y e = absurd cc

-- a step that failed, or one after it
pub bind_err : {A B R : Type 0} (r : Result A BodyFault) (f : A → Result B BodyFault) (d : BodyFault) → (r >>= f) ≡ Err d → (r ≡ Err d → R) → ((x : A) → r ≡ Ok x → f x ≡ Err d → R) → R
bind_err (Ok x) f d e here later = later x refl e
bind_err {A} {B} (Err c) f d e here later = here (ap (λ (z : BodyFault). failed {A = A} z) (err_is {A = B} c d e))

-- a test that failed, or what comes after it
pub guard_err : {A R : Type 0} (b : Bool) (c : BodyFault) (r : Result A BodyFault) (d : BodyFault) → cond b (Err c) r ≡ Err d → (c ≡ d → R) → (b ≡ false → r ≡ Err d → R) → R
guard_err {A} true c r d e here later = here (err_is {A = A} c d e)
guard_err false c r d e here later = later refl e

pub no_fault : {A R : Type 0} (x : A) (d : BodyFault) → Ok x ≡ Err d → R
no_fault x d e = absurd cc

-- a fault further on is one from here on
pub fault_back : (p q : Place) (fault : BodyFault) → p.before ≤ q.before → q.before + length q.rest ≡ p.before + length p.rest → IsFaultFrom q fault → IsFaultFrom p fault
fault_back p q (Short need got) moves sum h = (h.0 ∙ sum, h.1)
fault_back p q (BadField place) moves sum h = (omega (arith, h.0), omega (arith, h.1))
fault_back p q (UnknownFunction func) moves sum h = h
fault_back p q NoMemory moves sum h = h

-- a bad field at a place where there is a byte
pub bad_here : (p : Place) (b : ℕ) (rest : List ℕ) (fault : BodyFault) → p.rest ≡ b ∷ rest → BadField p.before ≡ fault → IsFaultFrom p fault
bad_here p b rest fault e same = subst (IsFaultFrom p) same (omega arith, omega (arith, ap length e))

-- a test that did not fail
pub guard_ok : {A : Type 0} (b : Bool) (d : BodyFault) (r : Result A BodyFault) (y : A) → cond b (Err d) r ≡ Ok y → (b ≡ false) × (r ≡ Ok y)
guard_ok true d r y e = absurd cc
guard_ok false d r y e = (refl, e)

abbrev done : {A : Type 0} → A → Result A BodyFault
done x = Ok x

pub ok_is : {A : Type 0} (x y : A) → done x ≡ done y → x ≡ y
ok_is x y e = cc

-- an option that is there
pub found_ok : {A : Type 0} (before : ℕ) (o : Option A) (after : Place) (x : A) (q : Place) → found_at before o after ≡ Ok (x, q) → (o ≡ Some x) × (after ≡ q)
found_ok before None after x q e = absurd cc
found_ok {A} before (Some y) after x q e =
    let same : (A × Place) → Type 0 = λ z. (Some y ≡ Some z.0) × (after ≡ z.1) in
    subst same (ok_is (y, after) (x, q) e) (refl, refl)

not_found : {A : Type 0} (before : ℕ) (o : Option A) (after : Place) (fault : BodyFault) → found_at before o after ≡ Err fault → BadField before ≡ fault
not_found {A} before None after fault e = err_is {A = A × Place} (BadField before) fault e
not_found {A} before (Some y) after fault e = no_fault {A = A × Place} (y, after) fault e

IsBytes-tail : (b : ℕ) (bytes : List ℕ) → IsBytes (b ∷ bytes) → IsBytes bytes
IsBytes-tail b bytes h i = h (suc i)

IsBytes-drop : (n : ℕ) (bytes : List ℕ) → IsBytes bytes → IsBytes (drop n bytes)
IsBytes-drop n bytes h i = rw get_or-drop (h (n + i))

IsBytes-take : (n : ℕ) (bytes : List ℕ) → IsBytes bytes → IsBytes (take n bytes)
IsBytes-take n bytes h i =
    elim (cases_lt i n) [
      | inl lt ↦ rw (get_or-take n bytes i 0 lt) (h i)
      | inr le ↦ rw (get_or_past (take n bytes) i 0 (omega (arith, length-take n bytes))) (omega arith)
    ]

pub Takes-then : (p q r : Place) (x y : List ℕ) → Takes p q x → Takes q r y → Takes p r (x ++ y)
Takes-then p q r x y a b = record { parts = a.parts ∙ ap (λ (t : List ℕ). x ++ t) b.parts ∙ sym (append_assoc x y r.rest); fits = b.fits; moves = omega (arith, a.moves, b.moves); sum = b.sum ∙ a.sum }

-- ---- bytes

pub byte_takes : (before : ℕ) (rest : List ℕ) (b : ℕ) (q : Place) → IsBytes rest → byte_from before rest ≡ Ok (b, q) → (rest ≡ b ∷ q.rest) × IsBytes q.rest × (q.before ≡ before + 1)
byte_takes before [] b q fits e = absurd cc
byte_takes before (c ∷ rest) b q fits e =
    let made : ℕ × Place = (c, record { before = before + 1; rest = rest }) in
    subst (λ (x : ℕ × Place). (c ∷ rest ≡ x.0 ∷ x.1.rest) × IsBytes x.1.rest × (x.1.before ≡ before + 1)) (ok_is made (b, q) e) (refl, IsBytes-tail c rest fits, refl)

pub byte_faults : (before : ℕ) (rest : List ℕ) (fault : BodyFault) → byte_from before rest ≡ Err fault → IsFaultFrom (record { before = before; rest = rest }) fault
byte_faults before [] fault e = subst (IsFaultFrom (record { before = before; rest = [] })) (err_is {A = ℕ × Place} (Short (before + 1) before) fault e) (omega arith, omega arith)
byte_faults before (c ∷ rest) fault e = no_fault {A = ℕ × Place} (c, record { before = before + 1; rest = rest }) fault e

-- a byte that was read, as what it takes
pub byte_step : (p q : Place) (b : ℕ) → (p.rest ≡ b ∷ q.rest) × IsBytes q.rest × (q.before ≡ p.before + 1) → Takes p q (b ∷ [])
byte_step p q b t = record { parts = t.0; fits = t.1; moves = omega (arith, t.2); sum = omega (arith, t.2, ap length t.0) }

pub byte_again : (p : Place) (b : ℕ) (rest : List ℕ) → p.rest ≡ b ∷ rest → byte_from p.before p.rest ≡ Ok (b, record { before = p.before + 1; rest = rest })
byte_again p b rest e = ap (byte_from p.before) e

pub byte_lawful : Lawful byte (λ _. Unit {0})
byte_lawful = record {
  takes = λ p b q fits e. (byte_step p q b (byte_takes p.before p.rest b q fits e), tt);
  again = λ b p rest _ e. record { place = record { before = p.before + 1; rest = rest }; is = byte_again p b rest e; after = refl };
  faults = λ p fault _ e. byte_faults p.before p.rest fault e;
}

pub piece_takes : (count before : ℕ) (rest bytes : List ℕ) (q : Place) → IsBytes rest → piece_from count before rest ≡ Ok (bytes, q) → (rest ≡ bytes ++ q.rest) × IsBytes q.rest × (length bytes ≡ count) × IsBytes bytes × (q.before ≡ before + count)
piece_takes count before rest bytes q fits e =
    let made : List ℕ × Place = (take count rest, record { before = before + count; rest = drop count rest }) in
    let g = guard_ok (ltb (length rest) count) (Short (before + count) (before + length rest)) (Ok made) (bytes, q) e in
    let long : count ≤ length rest = ltb-false _ _ g.0 in
    subst (λ (x : List ℕ × Place). (rest ≡ x.0 ++ x.1.rest) × IsBytes x.1.rest × (length x.0 ≡ count) × IsBytes x.0 × (x.1.before ≡ before + count)) (ok_is made (bytes, q) g.1)
    (sym (take-append-drop count rest), IsBytes-drop count rest fits, omega (arith, length-take count rest), IsBytes-take count rest fits, refl)

if_err : {R : Type 0} (b : Bool) (c d : BodyFault) (x : List ℕ × Place) → cond b (Err c) (Ok x) ≡ Err d → (b ≡ true → c ≡ d → R) → R
if_err true c d x e hit = hit refl (err_is {A = List ℕ × Place} c d e)
if_err false c d x e hit = no_fault x d e

pub piece_faults : (count before : ℕ) (rest : List ℕ) (fault : BodyFault) → piece_from count before rest ≡ Err fault → IsFaultFrom (record { before = before; rest = rest }) fault
piece_faults count before rest fault e =
    if_err (ltb (length rest) count) (Short (before + count) (before + length rest)) fault (take count rest, record { before = before + count; rest = drop count rest }) e
    (λ t same. subst (IsFaultFrom (record { before = before; rest = rest })) same (refl, omega (arith, ltb-true (length rest) count t)))

-- a piece that was read, as what it takes
pub piece_step : (count : ℕ) (p q : Place) (bytes : List ℕ) → (p.rest ≡ bytes ++ q.rest) × IsBytes q.rest × (length bytes ≡ count) × IsBytes bytes × (q.before ≡ p.before + count) → Takes p q bytes
piece_step count p q bytes t =
    let long : length p.rest ≡ length bytes + length q.rest = ap length t.0 ∙ length-append bytes q.rest in
    record { parts = t.0; fits = t.1; moves = omega (arith, t.4); sum = omega (arith, t.4, t.2, long) }

pub piece_again : (count : ℕ) (p : Place) (bytes rest : List ℕ) → length bytes ≡ count → p.rest ≡ bytes ++ rest → piece_from count p.before p.rest ≡ Ok (bytes, record { before = p.before + count; rest = rest })
piece_again count p bytes rest long e =
    let enough : ltb (length (bytes ++ rest)) count ≡ false = le-ltb _ _ (omega (arith, length-append bytes rest)) in
    ap (piece_from count p.before) e ∙ rw (enough, take_at bytes rest count long, drop_at bytes rest count long) refl

pub piece_lawful : (count : ℕ) → Lawful (piece count) (λ bytes. length bytes ≡ count)
piece_lawful count = record {
  takes = λ p bytes q fits e. let t = piece_takes count p.before p.rest bytes q fits e in (piece_step count p q bytes t, t.2);
  again = λ bytes p rest long e. record { place = record { before = p.before + count; rest = rest }; is = piece_again count p bytes rest long e; after = refl };
  faults = λ p fault _ e. piece_faults count p.before p.rest fault e;
}

-- three bytes are their list
three_back : (bytes : List ℕ) → length bytes ≡ 3 → triple.spell (three_of bytes) ≡ bytes
three_back [] e = absurd (omega (arith, e))
three_back (x ∷ []) e = absurd (omega (arith, e))
three_back (x ∷ y ∷ []) e = absurd (omega (arith, e))
three_back (x ∷ y ∷ z ∷ []) e = refl
three_back (x ∷ y ∷ z ∷ more ∷ rest) e = absurd (omega (arith, e))

pub triple_lawful : Lawful triple (λ _. Unit {0})
triple_lawful = record {
  takes = λ p x q fits e.
      let a = bind_ok (piece_from 3 p.before p.rest) (λ y. Ok (three_of y.0, y.1)) (x, q) e in
      let t = piece_takes 3 p.before p.rest a.0.0 a.0.1 fits a.1 in
      let made : (ℕ × (ℕ × ℕ)) × Place = (three_of a.0.0, a.0.1) in
      subst (λ (y : (ℕ × (ℕ × ℕ)) × Place). Takes p y.1 (triple.spell y.0) × Unit {0}) (ok_is made (x, q) a.2)
      (subst (Takes p a.0.1) (sym (three_back a.0.0 t.2)) (piece_step 3 p a.0.1 a.0.0 t), tt);
  again = λ x p rest _ e.
      record { place = record { before = p.before + 3; rest = rest }; is = rw (piece_again 3 p (triple.spell x) rest refl e) refl; after = refl };
  faults = λ p fault _ e.
      bind_err (piece_from 3 p.before p.rest) (λ y. Ok (three_of y.0, y.1)) fault e (λ h. piece_faults 3 p.before p.rest fault h) (λ y h f. no_fault {A = (ℕ × (ℕ × ℕ)) × Place} (three_of y.0, y.1) fault f);
}

-- ---- one field after the other

pub then_lawful : {A B : Type 0} {first : Field A} {second : Field B} {F : A → Type 0} {G : B → Type 0} → Lawful first F → Lawful second G → Lawful (first then second) (λ x. F x.0 × G x.1)
then_lawful {A} {B} {first} {second} {F} {G} one two = record {
  takes = λ p x q fits e.
      let a = bind_ok (first.read p) (λ y. second.read y.1 >>= λ z. Ok ((y.0, z.0), z.1)) (x, q) e in
      let b = bind_ok (second.read a.0.1) (λ z. Ok ((a.0.0, z.0), z.1)) (x, q) a.2 in
      let t = one.takes p a.0.0 a.0.1 fits a.1 in
      let u = two.takes a.0.1 b.0.0 b.0.1 t.0.fits b.1 in
      let made : (A × B) × Place = ((a.0.0, b.0.0), b.0.1) in
      subst (λ (y : (A × B) × Place). Takes p y.1 (first.spell y.0.0 ++ second.spell y.0.1) × (F y.0.0 × G y.0.1)) (ok_is made (x, q) b.2)
      (Takes-then p a.0.1 b.0.1 (first.spell a.0.0) (second.spell b.0.0) t.0 u.0, (t.1, u.1));
  again = λ x p rest fits e.
      let t = one.again x.0 p (second.spell x.1 ++ rest) fits.0 (e ∙ append_assoc (first.spell x.0) (second.spell x.1) rest) in
      let u = two.again x.1 t.place rest fits.1 t.after in
      record { place = u.place; is = rw (t.is, u.is) refl; after = u.after };
  faults = λ p fault fits e.
      bind_err (first.read p) (λ y. second.read y.1 >>= λ z. Ok ((y.0, z.0), z.1)) fault e (λ h. one.faults p fault fits h) (λ y h f.
      let t = one.takes p y.0 y.1 fits h in
      bind_err (second.read y.1) (λ z. Ok ((y.0, z.0), z.1)) fault f (λ k. fault_back p y.1 fault t.0.moves t.0.sum (two.faults y.1 fault t.0.fits k)) (λ z k n. no_fault {A = (A × B) × Place} ((y.0, z.0), z.1) fault n));
}

-- ---- coded bytes

pub coded_lawful : {A : Type 0} (code : A → ℕ) (value_of : ℕ → Option A) (F : A → Type 0) → ((x : A) → F x → value_of (code x) ≡ Some x) → ((b : ℕ) (x : A) → value_of b ≡ Some x → (code x ≡ b) × F x) → Lawful (coded code value_of) F
coded_lawful {A} code value_of F back there = record {
  takes = λ p x q fits e.
      let a = bind_ok (byte_from p.before p.rest) (λ b. found_at p.before (value_of b.0) b.1) (x, q) e in
      let t = byte_takes p.before p.rest a.0.0 a.0.1 fits a.1 in
      let g = found_ok p.before (value_of a.0.0) a.0.1 x q a.2 in
      let h = there a.0.0 x g.0 in
      (subst (λ (r : Place). Takes p r (code x ∷ [])) g.1 (subst (λ (k : ℕ). Takes p a.0.1 (k ∷ [])) (sym h.0) (byte_step p a.0.1 a.0.0 t)), h.1);
  again = λ x p rest fits e.
      record { place = record { before = p.before + 1; rest = rest }; is = rw (byte_again p (code x) rest e, back x fits) refl; after = refl };
  faults = λ p fault fits e.
      bind_err (byte_from p.before p.rest) (λ b. found_at p.before (value_of b.0) b.1) fault e (λ h. byte_faults p.before p.rest fault h) (λ b h f.
      bad_here p b.0 b.1.rest fault (byte_takes p.before p.rest b.0 b.1 fits h).0 (not_found p.before (value_of b.0) b.1 fault f));
}

-- a byte in a range
abbrev if_within : ℕ → ℕ → ℕ → Option ℕ
if_within low high b = cond (leb low b && leb b high) (Some b) None

within_back : (low high b : ℕ) → (low ≤ b) × (b ≤ high) → if_within low high b ≡ Some b
within_back low high b h = rw (and_from _ _ (le-leb low b h.0) (le-leb b high h.1)) refl

within_there : (low high b x : ℕ) → if_within low high b ≡ Some x → (x ≡ b) × ((low ≤ x) × (x ≤ high))
within_there low high b x e =
    let g = some_if (leb low b && leb b high) b x e in
    let h = and_parts (leb low b) (leb b high) g.0 in
    let within : (low ≤ b) × (b ≤ high) = (leb-true low b h.0, leb-true b high h.1) in
    (sym g.1, subst (λ (k : ℕ). (low ≤ k) × (k ≤ high)) g.1 within)

pub within_lawful : (low high : ℕ) → Lawful (byte_within low high) (λ b. (low ≤ b) × (b ≤ high))
within_lawful low high = coded_lawful (λ b. b) (λ b. if_within low high b) (λ b. (low ≤ b) × (b ≤ high)) (within_back low high) (within_there low high)

pub node_lawful : Lawful node (λ n. (1 ≤ n) × (n ≤ 232))
node_lawful = within_lawful 1 232

-- a byte that is always the same
mark_there : (code b : ℕ) (x : Unit {0}) → cond (eqb b code) (Some tt) None ≡ Some x → (code ≡ b) × Unit {0}
mark_there code b x e = (sym (eqb-true b code (some_if (eqb b code) tt x e).0), tt)

pub mark_lawful : (code : ℕ) → Lawful (mark code) (λ _. Unit {0})
mark_lawful code = coded_lawful (λ _. code) (λ b. cond (eqb b code) (Some tt) None) (λ _. Unit {0}) (λ x _. rw (eq-eqb code code refl) refl) (mark_there code)

-- ---- numbers

pub record IsWide (w : Width) (limit : ℕ) : Type 0 where
  pub len : (n : ℕ) → length (to_be_bytes w n) ≡ byte_len w
  pub back : (bytes : List ℕ) → length bytes ≡ byte_len w → IsBytes bytes → to_be_bytes w (from_be_bytes w bytes) ≡ bytes
  pub again : (n : ℕ) → n < limit → from_be_bytes w (to_be_bytes w n) ≡ n
  pub below : (bytes : List ℕ) → IsBytes bytes → from_be_bytes w bytes < limit

pub wide16 : IsWide w16 (2 ^ 16)
wide16 = record {
  len = λ n. refl;
  back = λ bytes len fits. be_bytes_2 bytes _ len fits refl;
  again = λ n lt. from_be_bytes-to_be_bytes_2 n lt;
  below = λ bytes fits. omega (arith, fits 0, fits 1);
}

pub wide32 : IsWide w32 (2 ^ 32)
wide32 = record {
  len = λ n. refl;
  back = λ bytes len fits. be_bytes_4 bytes _ len fits refl;
  again = λ n lt. from_be_bytes-to_be_bytes_4 n lt;
  below = λ bytes fits. omega (arith, fits 0, fits 1, fits 2, fits 3);
}

pub number_lawful : (w : Width) (limit : ℕ) → IsWide w limit → Lawful (number w) (λ n. n < limit)
number_lawful w limit wide = record {
  takes = λ p n q fits e.
      let a = bind_ok (piece_from (byte_len w) p.before p.rest) (λ x. Ok (from_be_bytes w x.0, x.1)) (n, q) e in
      let t = piece_takes (byte_len w) p.before p.rest a.0.0 a.0.1 fits a.1 in
      let prefix : to_be_bytes w (from_be_bytes w a.0.0) ≡ a.0.0 = wide.back a.0.0 t.2 t.3 in
      let made : ℕ × Place = (from_be_bytes w a.0.0, a.0.1) in
      subst (λ (y : ℕ × Place). Takes p y.1 (to_be_bytes w y.0) × (y.0 < limit)) (ok_is made (n, q) a.2)
      (subst (Takes p a.0.1) (sym prefix) (piece_step (byte_len w) p a.0.1 a.0.0 t), wide.below a.0.0 t.3);
  again = λ n p rest lt e.
      record { place = record { before = p.before + byte_len w; rest = rest }; is = rw (piece_again (byte_len w) p (to_be_bytes w n) rest (wide.len n) e, wide.again n lt) refl; after = refl };
  faults = λ p fault _ e.
      bind_err (piece_from (byte_len w) p.before p.rest) (λ x. Ok (from_be_bytes w x.0, x.1)) fault e (λ h. piece_faults (byte_len w) p.before p.rest fault h) (λ x h f. no_fault {A = ℕ × Place} (from_be_bytes w x.0, x.1) fault f);
}

-- ---- masks

pub mask_lawful : Lawful mask AreNodes
mask_lawful = record {
  takes = λ p nodes q fits e.
      let a = bind_ok (piece_from MASK_BYTES p.before p.rest) (λ x. Ok (nodes_of x.0, x.1)) (nodes, q) e in
      let t = piece_takes MASK_BYTES p.before p.rest a.0.0 a.0.1 fits a.1 in
      let made : List ℕ × Place = (nodes_of a.0.0, a.0.1) in
      subst (λ (y : List ℕ × Place). Takes p y.1 (mask_of y.0) × AreNodes y.0) (ok_is made (nodes, q) a.2)
      (subst (Takes p a.0.1) (mask_of-nodes_of a.0.0 t.2 t.3) (piece_step MASK_BYTES p a.0.1 a.0.0 t), are_nodes a.0.0);
  again = λ nodes p rest h e.
      record { place = record { before = p.before + MASK_BYTES; rest = rest }; is = rw (piece_again MASK_BYTES p (mask_of nodes) rest (mask_len nodes) e, nodes_of-mask_of nodes h) refl; after = refl };
  faults = λ p fault _ e.
      bind_err (piece_from MASK_BYTES p.before p.rest) (λ x. Ok (nodes_of x.0, x.1)) fault e (λ h. piece_faults MASK_BYTES p.before p.rest fault h) (λ x h f. no_fault {A = List ℕ × Place} (nodes_of x.0, x.1) fault f);
}

-- ---- a length, and so many bytes

pub counted_lawful : (least : ℕ) → Lawful (counted least) (λ bytes. least ≤ length bytes)
counted_lawful least = record {
  takes = λ p bytes q fits e.
      let a = bind_ok (byte_from p.before p.rest) (λ n. cond (ltb n.0 least) (Err (BadField p.before)) (piece_from n.0 n.1.before n.1.rest)) (bytes, q) e in
      let t = byte_takes p.before p.rest a.0.0 a.0.1 fits a.1 in
      let g = guard_ok (ltb a.0.0 least) (BadField p.before) (piece_from a.0.0 a.0.1.before a.0.1.rest) (bytes, q) a.2 in
      let u = piece_takes a.0.0 a.0.1.before a.0.1.rest bytes q t.1 g.1 in
      let whole : Takes p q (a.0.0 ∷ bytes) = Takes-then p a.0.1 q (a.0.0 ∷ []) bytes (byte_step p a.0.1 a.0.0 t) (piece_step a.0.0 a.0.1 q bytes u) in
      (subst (λ (k : ℕ). Takes p q (k ∷ bytes)) (sym u.2) whole, omega (arith, ltb-false _ _ g.0, u.2));
  again = λ bytes p rest le e.
      let after : Place = record { before = p.before + 1; rest = bytes ++ rest } in
      record {
        place = record { before = p.before + 1 + length bytes; rest = rest };
        is = rw (byte_again p (length bytes) (bytes ++ rest) e, le-ltb (length bytes) least le) (piece_again (length bytes) after bytes rest refl refl);
        after = refl;
      };
  faults = λ p fault fits e.
      bind_err (byte_from p.before p.rest) (λ n. cond (ltb n.0 least) (Err (BadField p.before)) (piece_from n.0 n.1.before n.1.rest)) fault e (λ h. byte_faults p.before p.rest fault h) (λ n h f.
      let t = byte_takes p.before p.rest n.0 n.1 fits h in
      let s = byte_step p n.1 n.0 t in
      guard_err (ltb n.0 least) (BadField p.before) (piece_from n.0 n.1.before n.1.rest) fault f (λ same. bad_here p n.0 n.1.rest fault t.0 same) (λ _ k. fault_back p n.1 fault s.moves s.sum (piece_faults n.0 n.1.before n.1.rest fault k)));
}

-- ---- values

-- a value that was read of a field
pub as_takes : {A V : Type 0} (make : A → V) (r : Reading A) (v : V) (q : Place) → read_as make r ≡ Ok (v, q) → (x : A) × (r ≡ Ok (x, q)) × (make x ≡ v)
as_takes {A} {V} make r v q e =
    let a = bind_ok r (λ x. Ok (make x.0, x.1)) (v, q) e in
    let made : V × Place = (make a.0.0, a.0.1) in
    (a.0.0, a.1 ∙ ap (λ (y : V × Place). Ok (a.0.0, y.1)) (ok_is made (v, q) a.2), ap (λ (y : V × Place). y.0) (ok_is made (v, q) a.2))

-- what is read as a value has the faults of its field
pub as_faults : {A V : Type 0} (make : A → V) (r : Reading A) (fault : BodyFault) → read_as make r ≡ Err fault → r ≡ Err fault
as_faults {A} {V} make r fault e = bind_err r (λ x. Ok (make x.0, x.1)) fault e (λ h. h) (λ x h f. no_fault {A = V × Place} (make x.0, x.1) fault f)
