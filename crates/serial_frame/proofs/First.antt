-- The first item of bytes as a function, so that no item's text begins another's.
use Rattle.std.proofs.Common.{◌≡◌, ℕ, ◌+◌, ◌-◌, ◌<◌, ◌≤◌, false, List, [], ◌∷◌, ◌++◌, length, get_or, take, drop, refl, ap, sym, ◌∙◌, subst, arith, length-append, append_assoc, eq-eqb}
use Rattle.std.proofs.lemmas.Bool.{ne_eqb, le-ltb, lt-ltb}
use Rattle.std.proofs.lemmas.List.{append-nil}
use Rattle.std.proofs.Math.Seq.{take-append_seam, drop-append_seam, get_or-append_seam}
use Rattle.std.specs.Prelude.{Option, Some, None, ◌==◌, nat_lt, if◌then◌else◌, ◌≢◌}
use Rattle.serial_frame.specs.Frame.{FrameParts, kind_code, checksum, framed}
use Rattle.serial_frame.specs.Items.{counted_of, IsCounted, ItemText}
use Rattle.serial_frame.specs.Stream.{IsUnfinished, Reads}
use Rattle.serial_frame.specs.declared.frame.Kind.{Kind}
use Rattle.serial_frame.specs.declared.frame.Kind.TheVariants.{Request, Response}
use Rattle.serial_frame.specs.declared.unit.Unit.TheVariants.{Ack, Nak, Can, Framed}
use Rattle.serial_frame.specs.declared.item.Item.{Item}
use Rattle.serial_frame.specs.declared.item.Item.TheVariants.{Good, Refused}
use Rattle.serial_frame.specs.declared.item.Refusal.TheVariants.{Stray, BadLength, BadSum, BadKind, Aborted}

-- a good frame of these bytes after its type
good_of : Kind → List ℕ → Item
good_of kind [] = Refused Aborted
good_of kind (func ∷ body) = Good (Framed (record { kind = kind; func = func; body = body }))

-- a frame with the right sum
kinded : List ℕ → Item
kinded [] = Refused Aborted
kinded (k ∷ more) = if k == 0 then good_of Request more else (if k == 1 then good_of Response more else Refused (BadKind k))

-- a whole frame
judged : List ℕ → ℕ → Item
judged counted got = if got == checksum counted then kinded counted else Refused (BadSum (checksum counted) got)

-- the first item after SOF and the length
first_end : ℕ → List ℕ → Option (Item × List ℕ)
first_end n bytes = if nat_lt (length bytes) n then None else Some (judged (take (n - 1) bytes) (get_or bytes (n - 1) 0), drop n bytes)

-- the first item after SOF
first_frame : List ℕ → Option (Item × List ℕ)
first_frame [] = None
first_frame (n ∷ bytes) = if nat_lt n 3 then Some (Refused (BadLength n), bytes) else first_end n bytes

-- the item of one byte
first_single : ℕ → Item
first_single b = if b == 6 then Good Ack else (if b == 21 then Good Nak else (if b == 24 then Good Can else Refused (Stray b)))

-- the first item, and the bytes after it
pub first : List ℕ → Option (Item × List ℕ)
first [] = None
first (b ∷ bytes) = if b == 1 then first_frame bytes else Some (first_single b, bytes)

-- a whole frame at the prefix
first_framed : (counted : List ℕ) (got : ℕ) (x : List ℕ) → IsCounted counted → first (framed counted got ++ x) ≡ Some (judged counted got, x)
unfolding first first_frame first_end
first_framed counted got x counts =
    let len : length (counted ++ got ∷ []) ≡ length counted + 1 = length-append counted (got ∷ []) in
    let low : nat_lt (length counted + 1) 3 ≡ false = le-ltb _ _ (omega arith) in
    let all : length ((counted ++ got ∷ []) ++ x) ≡ length (counted ++ got ∷ []) + length x = length-append (counted ++ got ∷ []) x in
    let enough : nat_lt (length ((counted ++ got ∷ []) ++ x)) (length counted + 1) ≡ false = le-ltb _ _ (omega arith) in
    let less : length counted + 1 - 1 ≡ length counted = omega arith in
    let regroup : (counted ++ got ∷ []) ++ x ≡ counted ++ (got ∷ x) = append_assoc counted (got ∷ []) x in
    let prefix : take (length counted + 1 - 1) ((counted ++ got ∷ []) ++ x) ≡ counted = rw (less, regroup) (take-append_seam counted (got ∷ x)) in
    let last : get_or ((counted ++ got ∷ []) ++ x) (length counted + 1 - 1) 0 ≡ got = rw (less, regroup) (get_or-append_seam counted got x 0) in
    let back : drop (length counted + 1) ((counted ++ got ∷ []) ++ x) ≡ x = rw (← len) (drop-append_seam (counted ++ got ∷ []) x) in
    rw (low, enough, prefix, last, back) refl

-- the item of a frame with the right sum
judged_good : (f : FrameParts) → judged (counted_of f) (checksum (counted_of f)) ≡ Good (Framed f)
unfolding judged kinded good_of
judged_good f =
    rw (eq-eqb (checksum (counted_of f)) (checksum (counted_of f)) refl)
    (elim f.kind as (λ k. (if kind_code k == 0 then good_of Request (f.func ∷ f.body) else (if kind_code k == 1 then good_of Response (f.func ∷ f.body) else Refused (BadKind (kind_code k)))) ≡ Good (Framed (record { kind = k; func = f.func; body = f.body }))) [ Request ↦ refl | Response ↦ refl ])

judged_kind : (k : ℕ) (more : List ℕ) → 1 < k → judged (k ∷ more) (checksum (k ∷ more)) ≡ Refused (BadKind k)
unfolding judged kinded
judged_kind k more lt =
    let zero_no : (k == 0) ≡ false = ne_eqb k 0 (λ e. omega arith) in
    let one_no : (k == 1) ≡ false = ne_eqb k 1 (λ e. omega arith) in
    rw (eq-eqb (checksum (k ∷ more)) (checksum (k ∷ more)) refl, zero_no, one_no) refl

judged_sum : (counted : List ℕ) (got : ℕ) → got ≢ checksum counted → judged counted got ≡ Refused (BadSum (checksum counted) got)
unfolding judged
judged_sum counted got ne = rw (ne_eqb got (checksum counted) ne) refl

-- one byte that begins no frame
first_byte : (b : ℕ) (x : List ℕ) → b ≢ 1 → first (b ∷ x) ≡ Some (first_single b, x)
unfolding first
first_byte b x ne = rw (ne_eqb b 1 ne) refl

single_stray : (b : ℕ) → b ≢ 6 → b ≢ 21 → b ≢ 24 → first_single b ≡ Refused (Stray b)
unfolding first_single
single_stray b ack nak can = rw (ne_eqb b 6 ack, ne_eqb b 21 nak, ne_eqb b 24 can) refl

first_short : (n : ℕ) (x : List ℕ) → n < 3 → first (1 ∷ n ∷ x) ≡ Some (Refused (BadLength n), x)
unfolding first first_frame
first_short n x low = rw (lt-ltb n 3 low) refl

-- the text of an item at the prefix gives that item
pub first-item : (i : Item) (a x : List ℕ) → ItemText i a → first (a ++ x) ≡ Some (i, x)
unfolding first first_single
first-item (Good Ack) a x h = subst (λ (t : List ℕ). first (t ++ x) ≡ Some (Good Ack, x)) (sym h.1) refl
first-item (Good Nak) a x h = subst (λ (t : List ℕ). first (t ++ x) ≡ Some (Good Nak, x)) (sym h.1) refl
first-item (Good Can) a x h = subst (λ (t : List ℕ). first (t ++ x) ≡ Some (Good Can, x)) (sym h.1) refl
first-item (Good (Framed f)) a x h =
    ap (λ (t : List ℕ). first (t ++ x)) h.1
    ∙ first_framed (counted_of f) _ x (omega arith, omega arith)
    ∙ ap (λ (i : Item). Some (i, x)) (judged_good f)
first-item (Refused (Stray b)) a x h =
    ap (λ (t : List ℕ). first (t ++ x)) h.1
    ∙ first_byte b x h.0.0
    ∙ ap (λ (i : Item). Some (i, x)) (single_stray b h.0.1 h.0.2 h.0.3)
first-item (Refused (BadLength n)) a x h = ap (λ (t : List ℕ). first (t ++ x)) h.1 ∙ first_short n x h.0
first-item (Refused (BadSum want got)) a x h =
    let ne : got ≢ checksum h.0 = λ e. h.3 (e ∙ sym h.2) in
    ap (λ (t : List ℕ). first (t ++ x)) h.4
    ∙ first_framed h.0 got x h.1
    ∙ ap (λ (i : Item). Some (i, x)) (judged_sum h.0 got ne ∙ ap (λ w. Refused (BadSum w got)) (sym h.2))
first-item (Refused (BadKind k)) a x h =
    ap (λ (t : List ℕ). first (t ++ x)) h.3
    ∙ first_framed (k ∷ h.0) _ x h.2
    ∙ ap (λ (i : Item). Some (i, x)) (judged_kind k h.0 h.1)
first-item (Refused Aborted) a x h = absurd h

-- what begins no frame is no unfinished frame
unfinished_first : (b : ℕ) (x : List ℕ) → IsUnfinished (b ∷ x) → b ≡ 1
unfinished_first b [] h = h
unfinished_first b (n ∷ x) h = h.0

begins_no_frame : (b : ℕ) (x : List ℕ) → b ≢ 1 → IsUnfinished (b ∷ x) → ⊥
begins_no_frame b x ne u = ne (unfinished_first b x u)

-- a whole frame is not unfinished
framed_whole : (counted : List ℕ) (got : ℕ) (x : List ℕ) → IsUnfinished (framed counted got ++ x) → ⊥
framed_whole counted got x (one, long, short) =
    let len : length (counted ++ got ∷ []) ≡ length counted + 1 = length-append counted (got ∷ []) in
    let all : length ((counted ++ got ∷ []) ++ x) ≡ length (counted ++ got ∷ []) + length x = length-append (counted ++ got ∷ []) x in
    omega arith

-- no unfinished frame begins with a whole item
pub whole_not_unfinished : (i : Item) (a x : List ℕ) → ItemText i a → IsUnfinished (a ++ x) → ⊥
whole_not_unfinished (Good Ack) a x h u =
    begins_no_frame 6 x (λ e. omega arith) (subst (λ (t : List ℕ). IsUnfinished (t ++ x)) h.1 u)
whole_not_unfinished (Good Nak) a x h u =
    begins_no_frame 21 x (λ e. omega arith) (subst (λ (t : List ℕ). IsUnfinished (t ++ x)) h.1 u)
whole_not_unfinished (Good Can) a x h u =
    begins_no_frame 24 x (λ e. omega arith) (subst (λ (t : List ℕ). IsUnfinished (t ++ x)) h.1 u)
whole_not_unfinished (Good (Framed f)) a x h u = framed_whole (counted_of f) _ x (subst (λ (t : List ℕ). IsUnfinished (t ++ x)) h.1 u)
whole_not_unfinished (Refused (Stray b)) a x h u = h.0.0 (unfinished_first b x (subst (λ (t : List ℕ). IsUnfinished (t ++ x)) h.1 u))
whole_not_unfinished (Refused (BadLength n)) a x h u =
    let short : IsUnfinished (1 ∷ n ∷ x) = subst (λ (t : List ℕ). IsUnfinished (t ++ x)) h.1 u in
    let low : n < 3 = h.0 in
    let long : 3 ≤ n = short.1 in
    omega arith
whole_not_unfinished (Refused (BadSum want got)) a x h u = framed_whole h.0 got x (subst (λ (t : List ℕ). IsUnfinished (t ++ x)) h.4 u)
whole_not_unfinished (Refused (BadKind k)) a x h u = framed_whole (k ∷ h.0) _ x (subst (λ (t : List ℕ). IsUnfinished (t ++ x)) h.3 u)
whole_not_unfinished (Refused Aborted) a x h u = absurd h

-- two texts at the prefix of the same bytes are of the same item
pub one_item : (i j : Item) (a b x y : List ℕ) → ItemText i a → ItemText j b → a ++ x ≡ b ++ y → (i ≡ j) × (x ≡ y)
one_item i j a b x y h k e =
    let same : Some (i, x) ≡ Some (j, y) = sym (first-item i a x h) ∙ ap first e ∙ first-item j b y k in
    let pair : (i, x) ≡ (j, y) = cc in
    (ap (λ (p : Item × List ℕ). p.0) pair, ap (λ (p : Item × List ℕ). p.1) pair)

-- a text that begins another is all of it
pub no_longer : (i j : Item) (a c : List ℕ) → ItemText i a → ItemText j (a ++ c) → (i ≡ j) × (c ≡ [])
no_longer i j a c h k = one_item i j a (a ++ c) c [] h k (sym (append-nil (a ++ c)))

-- what is left over is unfinished
pub reads-unfinished : (bytes : List ℕ) (items : List Item) (rest : List ℕ) → Reads bytes items rest → IsUnfinished rest
reads-unfinished bytes [] rest h = h.0
reads-unfinished bytes (i ∷ items) rest (text, more, whole, e, reads) = reads-unfinished more items rest reads

-- bytes read in one way
pub one_reading : (bytes : List ℕ) (items others : List Item) (rest end : List ℕ) → Reads bytes items rest → Reads bytes others end → (items ≡ others) × (rest ≡ end)
one_reading bytes [] [] rest end h k = (refl, sym h.1 ∙ k.1)
one_reading bytes [] (j ∷ others) rest end h (text, more, whole, e, reads) =
    absurd (whole_not_unfinished j text more whole (subst (λ (t : List ℕ). IsUnfinished t) (sym h.1 ∙ e) h.0))
one_reading bytes (i ∷ items) [] rest end (text, more, whole, e, reads) k =
    absurd (whole_not_unfinished i text more whole (subst (λ (t : List ℕ). IsUnfinished t) (sym k.1 ∙ e) k.0))
one_reading bytes (i ∷ items) (j ∷ others) rest end (text, more, whole, e, reads) (text', more', whole', e', reads') =
    let same = one_item i j text text' more more' whole whole' (sym e ∙ e') in
    let tail = one_reading more' items others rest end (subst (λ (t : List ℕ). Reads t items rest) same.1 reads) reads' in
    ((cc (same.0, tail.0)), tail.1)
