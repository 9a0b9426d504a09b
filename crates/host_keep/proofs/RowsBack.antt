-- The numbers of a record are those of that record alone.
use Rattle.std.proofs.Common.{◌≡◌, ℕ, zero, suc, ◌+◌, ◌^◌, ◌<◌, ◌≤◌, List, [], ◌∷◌, length, get_or, Bool, true, false, Result, Ok, Err, nat_lt, nat_le, ◌&&◌, refl, sym, ap, subst, ◌∙◌, arith, lt-ltb, le-leb}
use Rattle.std.proofs.lemmas.Bool.Decides.{nat_tests}
use Rattle.std.proofs.lemmas.Bool.{and_from}
use Rattle.std.proofs.lemmas.Slice.Eq.{bytes_eq-Decides}
use Rattle.std.specs.Str.{bytes_eq}
use Rattle.zw_base.specs.declared.order.Word.{Word}
use Rattle.zw_base.specs.declared.order.Word.TheVariants.{On, Off, Level}
use Rattle.zw_base.specs.declared.order.What.{What}
use Rattle.zw_base.specs.declared.order.What.TheVariants as what
use Rattle.zw_base.specs.declared.order.Order.{Order}
use Rattle.host_keep.specs.Status.{status_byte}
use Rattle.host_keep.specs.Rows.{what_numbers, numbers_of, flag_number, IsNode, AreBytes, IsWord, IsWhat, IsOrder, IsRecord}
use Rattle.host_keep.specs.RecordText.{AreLong, IsTextOf, row_text}
use Rattle.host_keep.specs.RowReading.{◌>>=◌, Gives, where_ok, byte_in, node_in, end_in, short_in, long_in, flag_in, status_in, number_at, bytes_in, bytes_at, nonce_at, setpoint_at, config_at, bulk_at, member_at, comfort_at, what_by, what_at, accepted_at, classes_at, begun_at, final_at, given_at, seen_at, record_at}
use Rattle.host_keep.specs.declared.final_status.FinalStatus.{FinalStatus}
use Rattle.host_keep.specs.declared.final_status.FinalStatus.TheVariants.{NoSupport, Fail, Success}
use Rattle.host_keep.specs.declared.reading.RecordFault.{RecordFault}
use Rattle.host_keep.specs.declared.reading.RecordFault.TheVariants.{Bad, NoMemory}
use Rattle.host_keep.specs.declared.record.Record.{Record}
use Rattle.host_keep.specs.declared.record.Record.TheVariants.{Accepted, Joined, Classes, Begun, Final, Cancelled, Given, Spent, Seen}
use Rattle.host_keep.proofs.RowTexts.{same_row}

-- ---- each number has 64 bits

nil_long : AreLong []
nil_long k l = absurd (omega arith)

cons_long : (n : ℕ) (ns : List ℕ) → n < 2 ^ 64 → AreLong ns → AreLong (n ∷ ns)
cons_long n ns h more zero l = h
cons_long n ns h more (suc k) l = more k (omega arith)

bytes_long : (ns : List ℕ) → AreBytes ns → AreLong ns
bytes_long ns h k l = omega (arith, h k l)

one_long : (n : ℕ) → n < 2 ^ 64 → AreLong (n ∷ [])
one_long n h = cons_long n [] h nil_long

two_long : (m n : ℕ) → m < 2 ^ 64 → n < 2 ^ 64 → AreLong (m ∷ n ∷ [])
two_long m n g h = cons_long m (n ∷ []) g (one_long n h)

three_long : (l m n : ℕ) → l < 2 ^ 64 → m < 2 ^ 64 → n < 2 ^ 64 → AreLong (l ∷ m ∷ n ∷ [])
three_long l m n f g h = cons_long l (m ∷ n ∷ []) f (two_long m n g h)

word_long : (word : Word) → IsWord word → AreLong (what_numbers (what.Value word))
word_long On h = one_long 0 (omega arith)
word_long Off h = one_long 1 (omega arith)
word_long (Level level) h = two_long 2 level (omega arith) (omega arith)

what_long : (w : What) → IsWhat w → AreLong (what_numbers w)
what_long (what.Value word) h = word_long word h
what_long (what.Mode mode) h = two_long 3 mode (omega arith) (omega arith)
what_long (what.Setpoint kind tenths) h = three_long 4 kind tenths (omega arith) (omega arith) (omega arith)
what_long (what.Config parameter value) h = three_long 5 parameter value (omega arith) (omega arith) (omega arith)
what_long (what.Bulk offset values) h = cons_long 6 (offset ∷ values) (omega arith) (cons_long offset values (omega arith) (bytes_long values h.1))
what_long (what.Associate group member) h = three_long 7 group member (omega arith) (omega arith) (omega arith)
what_long (what.Dissociate group member) h = three_long 8 group member (omega arith) (omega arith) (omega arith)
what_long (what.Interval seconds) h = two_long 9 seconds (omega arith) (omega arith)
what_long (what.Comfort mode kind tenths) h = cons_long 10 (mode ∷ kind ∷ tenths ∷ []) (omega arith) (three_long mode kind tenths (omega arith) (omega arith) (omega arith))

flag_long : (b : Bool) → flag_number b < 2 ^ 64
flag_long true = omega arith
flag_long false = omega arith

status_long : (s : FinalStatus) → status_byte s < 2 ^ 64
status_long NoSupport = omega arith
status_long Fail = omega arith
status_long Success = omega arith

pub numbers_long : (r : Record) → IsRecord r → AreLong (numbers_of r)
numbers_long (Accepted command order) h =
    let node = h.1.node in let end = h.1.end in
    cons_long 1 (command ∷ order.node ∷ order.end ∷ what_numbers order.what) (omega arith)
    (cons_long command (order.node ∷ order.end ∷ what_numbers order.what) (omega arith)
    (cons_long order.node (order.end ∷ what_numbers order.what) (omega (arith, node))
    (cons_long order.end (what_numbers order.what) (omega (arith, end)) (what_long order.what h.1.what))))
numbers_long (Joined node) h = two_long 2 node (omega arith) (omega arith)
numbers_long (Classes node listens classes) h =
    cons_long 3 (node ∷ flag_number listens ∷ classes) (omega arith)
    (cons_long node (flag_number listens ∷ classes) (omega arith)
    (cons_long (flag_number listens) classes (flag_long listens) (bytes_long classes h.1)))
numbers_long (Begun node session command) h = cons_long 4 (node ∷ session ∷ command ∷ []) (omega arith) (three_long node session command (omega arith) h.1 (omega arith))
numbers_long (Final node session status) h = cons_long 5 (node ∷ session ∷ status_byte status ∷ []) (omega arith) (three_long node session (status_byte status) (omega arith) h.1 (status_long status))
numbers_long (Cancelled command) h = two_long 6 command (omega arith) (omega arith)
numbers_long (Given node given nonce) h =
    cons_long 7 (node ∷ given ∷ nonce) (omega arith) (cons_long node (given ∷ nonce) (omega arith) (cons_long given nonce h.1 (bytes_long nonce h.3)))
numbers_long (Spent node) h = two_long 8 node (omega arith) (omega arith)
numbers_long (Seen node seen) h = three_long 9 node seen (omega arith) (omega arith) h.1

-- ---- a number in its range is taken

byte_back : (n : ℕ) → n < 2 ^ 8 → byte_in n ≡ Ok n
byte_back n h = ap (λ b. where_ok b n) (lt-ltb n (2 ^ 8) h)

short_back : (n : ℕ) → n < 2 ^ 16 → short_in n ≡ Ok n
short_back n h = ap (λ b. where_ok b n) (lt-ltb n (2 ^ 16) h)

long_back : (n : ℕ) → n < 2 ^ 32 → long_in n ≡ Ok n
long_back n h = ap (λ b. where_ok b n) (lt-ltb n (2 ^ 32) h)

end_back : (n : ℕ) → n ≤ 127 → end_in n ≡ Ok n
end_back n h = ap (λ b. where_ok b n) (le-leb n 127 h)

node_back : (n : ℕ) → IsNode n → node_in n ≡ Ok n
node_back n h = ap (λ b. where_ok b n) (and_from (nat_le 1 n) (nat_le n 232) (le-leb 1 n h.0) (le-leb n 232 h.1))

flag_back : (b : Bool) → flag_in (flag_number b) ≡ Ok b
flag_back true = refl
flag_back false = refl

status_back : (s : FinalStatus) → status_in (status_byte s) ≡ Ok s
status_back NoSupport = refl
status_back Fail = refl
status_back Success = refl

bytes_back : (ns : List ℕ) → AreBytes ns → bytes_in ns ≡ Ok ns
bytes_back [] h = refl
bytes_back (n ∷ ns) h =
    ap (λ x. x >>= λ byte. (bytes_in ns >>= λ bytes. Ok (byte ∷ bytes))) (byte_back n (h 0 (omega arith)))
    ∙ ap (λ x. x >>= λ bytes. Ok (n ∷ bytes)) (bytes_back ns (λ k l. h (suc k) (omega arith)))

-- ---- what is asked

one_back : {A : Type 0} (x : Result ℕ RecordFault) (n : ℕ) (f : ℕ → A) → x ≡ Ok n → (x >>= λ m. Ok (f m)) ≡ Ok (f n)
one_back x n f e = ap (λ y. y >>= λ m. Ok (f m)) e

two_back : {A : Type 0} (x y : Result ℕ RecordFault) (m n : ℕ) (f : ℕ → ℕ → A) → x ≡ Ok m → y ≡ Ok n → (x >>= λ a. (y >>= λ b. Ok (f a b))) ≡ Ok (f m n)
two_back x y m n f e g = ap (λ z. z >>= λ a. (y >>= λ b. Ok (f a b))) e ∙ one_back y n (f m) g

three_back : {A : Type 0} (x y z : Result ℕ RecordFault) (l m n : ℕ) (f : ℕ → ℕ → ℕ → A) → x ≡ Ok l → y ≡ Ok m → z ≡ Ok n
    → (x >>= λ a. (y >>= λ b. (z >>= λ c. Ok (f a b c)))) ≡ Ok (f l m n)
three_back x y z l m n f e g h = ap (λ w. w >>= λ a. (y >>= λ b. (z >>= λ c. Ok (f a b c)))) e ∙ two_back y z m n (f l) g h

what_back : (c node end : ℕ) (w : What) → IsWhat w → what_at (1 ∷ c ∷ node ∷ end ∷ what_numbers w) ≡ Ok w
unfolding number_at what_at setpoint_at config_at bulk_at member_at comfort_at bytes_at
what_back c node end (what.Value On) h = refl
what_back c node end (what.Value Off) h = refl
what_back c node end (what.Value (Level level)) h = one_back _ level (λ v. what.Value (Level v)) (byte_back level h)
what_back c node end (what.Mode mode) h = one_back _ mode what.Mode (byte_back mode h)
what_back c node end (what.Setpoint kind tenths) h = two_back _ _ kind tenths what.Setpoint (byte_back kind h.0) (short_back tenths h.1)
what_back c node end (what.Config parameter value) h = two_back _ _ parameter value what.Config (byte_back parameter h.0) (long_back value h.1)
what_back c node end (what.Bulk offset values) h =
    ap (λ x. x >>= λ o. (bytes_in values >>= λ vs. Ok (what.Bulk o vs))) (byte_back offset h.0)
    ∙ ap (λ x. x >>= λ vs. Ok (what.Bulk offset vs)) (bytes_back values h.1)
what_back c node end (what.Associate group member) h = two_back _ _ group member what.Associate (byte_back group h.0) (node_back member h.1)
what_back c node end (what.Dissociate group member) h = two_back _ _ group member what.Dissociate (byte_back group h.0) (node_back member h.1)
what_back c node end (what.Interval seconds) h = one_back _ seconds what.Interval (long_back seconds h)
what_back c node end (what.Comfort mode kind tenths) h = three_back _ _ _ mode kind tenths what.Comfort (byte_back mode h.0) (byte_back kind h.1) (short_back tenths h.2)

-- ---- a nonce

eight_back : (p q r s t u v w : Result ℕ RecordFault) (a b c d e f i j : ℕ)
    → p ≡ Ok a → q ≡ Ok b → r ≡ Ok c → s ≡ Ok d → t ≡ Ok e → u ≡ Ok f → v ≡ Ok i → w ≡ Ok j
    → (p >>= λ a. (q >>= λ b. (r >>= λ c. (s >>= λ d. (t >>= λ e. (u >>= λ f. (v >>= λ g. (w >>= λ h. Ok (a ∷ b ∷ c ∷ d ∷ e ∷ f ∷ g ∷ h ∷ [])))))))))
    ≡ Ok (a ∷ b ∷ c ∷ d ∷ e ∷ f ∷ i ∷ j ∷ [])
eight_back p q r s t u v w a b c d e f i j hp hq hr hs ht hu hv hw = rw (hp, hq, hr, hs, ht, hu, hv, hw) refl

nonce_back : (n g : ℕ) (xs : List ℕ) → length xs ≡ 8 → AreBytes xs → nonce_at 3 (7 ∷ n ∷ g ∷ xs) ≡ Ok xs
unfolding number_at nonce_at
nonce_back n g [] l k = absurd (omega arith)
nonce_back n g (a ∷ []) l k = absurd (omega arith)
nonce_back n g (a ∷ b ∷ []) l k = absurd (omega arith)
nonce_back n g (a ∷ b ∷ c ∷ []) l k = absurd (omega arith)
nonce_back n g (a ∷ b ∷ c ∷ d ∷ []) l k = absurd (omega arith)
nonce_back n g (a ∷ b ∷ c ∷ d ∷ e ∷ []) l k = absurd (omega arith)
nonce_back n g (a ∷ b ∷ c ∷ d ∷ e ∷ f ∷ []) l k = absurd (omega arith)
nonce_back n g (a ∷ b ∷ c ∷ d ∷ e ∷ f ∷ i ∷ []) l k = absurd (omega arith)
nonce_back n g (a ∷ b ∷ c ∷ d ∷ e ∷ f ∷ i ∷ j ∷ []) l k =
    eight_back (byte_in a) (byte_in b) (byte_in c) (byte_in d) (byte_in e) (byte_in f) (byte_in i) (byte_in j) a b c d e f i j
    (byte_back a (k 0 (omega arith))) (byte_back b (k 1 (omega arith))) (byte_back c (k 2 (omega arith))) (byte_back d (k 3 (omega arith)))
    (byte_back e (k 4 (omega arith))) (byte_back f (k 5 (omega arith))) (byte_back i (k 6 (omega arith))) (byte_back j (k 7 (omega arith)))
nonce_back n g (a ∷ b ∷ c ∷ d ∷ e ∷ f ∷ i ∷ j ∷ x ∷ more) l k = absurd (omega arith)

-- ---- records

accepted_back : (command : ℕ) (order : Order) → command < 2 ^ 32 → IsOrder order → accepted_at (numbers_of (Accepted command order)) ≡ Ok (Accepted command order)
unfolding number_at accepted_at
accepted_back command order h o =
    let ns = numbers_of (Accepted command order) in
    ap (λ x. x >>= λ c. (node_in order.node >>= λ n. (end_in order.end >>= λ e. (what_at ns >>= λ w. Ok (Accepted c (record { node = n; end = e; what = w })))))) (long_back command h)
    ∙ ap (λ x. x >>= λ n. (end_in order.end >>= λ e. (what_at ns >>= λ w. Ok (Accepted command (record { node = n; end = e; what = w }))))) (node_back order.node o.node)
    ∙ ap (λ x. x >>= λ e. (what_at ns >>= λ w. Ok (Accepted command (record { node = order.node; end = e; what = w })))) (end_back order.end o.end)
    ∙ ap (λ x. x >>= λ w. Ok (Accepted command (record { node = order.node; end = order.end; what = w }))) (what_back command order.node order.end order.what o.what)

pub record_back : (r : Record) → IsRecord r → record_at (numbers_of r) ≡ Ok r
unfolding number_at record_at bytes_at classes_at begun_at final_at given_at seen_at
record_back (Accepted command order) h = accepted_back command order h.0 h.1
record_back (Joined node) h = one_back _ node Joined (node_back node h)
record_back (Classes node listens classes) h =
    ap (λ x. x >>= λ n. (flag_in (flag_number listens) >>= λ b. (bytes_in classes >>= λ bs. Ok (Classes n b bs)))) (node_back node h.0)
    ∙ ap (λ x. x >>= λ b. (bytes_in classes >>= λ bs. Ok (Classes node b bs))) (flag_back listens)
    ∙ ap (λ x. x >>= λ bs. Ok (Classes node listens bs)) (bytes_back classes h.1)
record_back (Begun node session command) h =
    ap (λ x. x >>= λ n. (long_in command >>= λ c. Ok (Begun n session c))) (node_back node h.0)
    ∙ one_back _ command (Begun node session) (long_back command h.2)
record_back (Final node session status) h =
    ap (λ x. x >>= λ n. (status_in (status_byte status) >>= λ s. Ok (Final n session s))) (node_back node h.0)
    ∙ ap (λ x. x >>= λ s. Ok (Final node session s)) (status_back status)
record_back (Cancelled command) h = one_back _ command Cancelled (long_back command h)
record_back (Given node given nonce) h =
    ap (λ x. x >>= λ n. (nonce_at 3 (7 ∷ node ∷ given ∷ nonce) >>= λ b. Ok (Given n given b))) (node_back node h.0)
    ∙ ap (λ x. x >>= λ b. Ok (Given node given b)) (nonce_back node given nonce h.2 h.3)
record_back (Spent node) h = one_back _ node Spent (node_back node h)
record_back (Seen node seen) h = one_back _ node (λ n. Seen n seen) (node_back node h.0)

same_ok : (r s : Record) → (let x : Result Record RecordFault = Ok r in x) ≡ Ok s → r ≡ s
same_ok r s e = cc

-- a text is of one record
pub one_record : (one other : Record) (text : List ℕ) → IsTextOf one text → IsTextOf other text → one ≡ other
one_record one other text p q =
    let rows = same_row (numbers_of one) (numbers_of other) (numbers_long one p.in_range) (numbers_long other q.in_range) (sym p.text ∙ q.text) in
    same_ok one other (sym (record_back one p.in_range) ∙ ap record_at rows ∙ record_back other q.in_range)

-- ---- what is found of a text

-- a fault that is not Bad is an allocation failure
pub not_bad : {A : Type 0} (fault : RecordFault) (kept : Record) → ((let r : Result A RecordFault = Err fault in r) ≡ Err Bad → ⊥) → Gives {X = Record} (Err fault) (Ok kept)
not_bad Bad kept h = absurd (h refl)
not_bad NoMemory kept h = tt

-- numbers of a record are found to be it
pub gives_kept : (found : Result Record RecordFault) (kept : Record) (ns : List ℕ) → IsRecord kept → ns ≡ numbers_of kept → Gives found (record_at ns) → Gives found (Ok kept)
gives_kept found kept ns h e g = subst (λ r. Gives found r) (ap record_at e ∙ record_back kept h) g

-- and written as that text
pub written_again : (found kept : Record) (ns text bytes : List ℕ) → IsTextOf kept bytes → ns ≡ numbers_of kept → Gives (Ok found) (record_at ns) → IsTextOf found text → text ≡ bytes
written_again found kept ns text bytes t e g w =
    let same = same_ok kept found (gives_kept (Ok found) kept ns t.in_range e g) in
    w.text ∙ ap (λ r. row_text (numbers_of r)) (sym same) ∙ sym t.text

ok_not_err : (kept : Record) → (let r : Result Record RecordFault = Ok kept in r) ≡ Err Bad → ⊥
ok_not_err kept e = cc

-- a text that is bad is of no record
pub bad_is_none : (result : Result Record RecordFault) (bytes : List ℕ) → ((kept : Record) → IsTextOf kept bytes → Gives result (Ok kept)) → result ≡ Err Bad → (kept : Record) → IsTextOf kept bytes → ⊥
bad_is_none result bytes only e kept t = ok_not_err kept (subst (λ r. Gives r (Ok kept)) e (only kept t))

true_is_not_false : (b : Bool) → b ≡ true → false ≡ b → ⊥
true_is_not_false b p q = cc

-- equal texts compare so
pub never_differ : (xs ys : List ℕ) → xs ≡ ys → false ≡ bytes_eq xs ys → ⊥
never_differ xs ys e h = true_is_not_false (bytes_eq xs ys) ((bytes_eq-Decides xs ys).1 e) h
