-- Streams of bytes and ticks, and their splittings.
use Rattle.std.proofs.Common.{◌≡◌, ℕ, ◌+◌, ◌<◌, List, [], ◌∷◌, ◌++◌, refl, ap, sym, ◌∙◌, subst, inl, inr, arith, append_assoc}
use Rattle.std.proofs.lemmas.List.{append-nil}
use Rattle.std.specs.Prelude.{◌⊎◌, ◌≢◌}
use Rattle.serial_frame.specs.Items.{ItemText}
use Rattle.serial_frame.specs.Stream.{IsUnfinished, Reads, Signal, byte, mark, bytes_of, marks_of, Starts, IsIdle, Closes, Spans, Rest, no_rest, Leaves, Splits, piece_of, Feeds, GoesOn, ticks_after}
use Rattle.serial_frame.specs.declared.item.Item.{Item}
use Rattle.serial_frame.specs.declared.item.Item.TheVariants.{Refused}
use Rattle.serial_frame.specs.declared.item.Refusal.TheVariants.{Aborted}
use Rattle.serial_frame.proofs.First.{whole_not_unfinished, no_longer}

pub bytes_of-append : (s t : List Signal) → bytes_of (s ++ t) ≡ bytes_of s ++ bytes_of t
bytes_of-append [] t = refl
bytes_of-append (byte b ∷ s) t = ap (λ x. b ∷ x) (bytes_of-append s t)
bytes_of-append (mark ∷ s) t = bytes_of-append s t

pub marks_of-append : (s t : List Signal) → marks_of (s ++ t) ≡ marks_of s + marks_of t
marks_of-append [] t = omega arith
marks_of-append (byte b ∷ s) t = marks_of-append s t
marks_of-append (mark ∷ s) t = omega (arith, marks_of-append s t)

pub bytes_of-piece : (p : List ℕ) → bytes_of (piece_of p) ≡ p
bytes_of-piece [] = refl
bytes_of-piece (b ∷ p) = ap (λ x. b ∷ x) (bytes_of-piece p)

pub marks_of-piece : (p : List ℕ) → marks_of (piece_of p) ≡ 0
marks_of-piece [] = refl
marks_of-piece (b ∷ p) = marks_of-piece p

pub piece_of-append : (p q : List ℕ) → piece_of (p ++ q) ≡ piece_of p ++ piece_of q
piece_of-append [] q = refl
piece_of-append (b ∷ p) q = ap (λ x. byte b ∷ x) (piece_of-append p q)

-- a list that is cut in two ways
pub record Longer {A : Type 0} (short long left_short left_long : List A) : Type 0 where
  pub between : List A
  pub longer : long ≡ short ++ between
  pub left : left_short ≡ between ++ left_long

pub cut_twice : {A : Type 0} (a x b y : List A) → a ++ x ≡ b ++ y → Longer a b x y ⊎ Longer b a y x
cut_twice [] x b y e = inl (record { between = b; longer = refl; left = e })
cut_twice (h ∷ a) x [] y e = inr (record { between = h ∷ a; longer = refl; left = sym e })
cut_twice (h ∷ a) x (k ∷ b) y e =
    let head : h ≡ k = cc in
    let tail : a ++ x ≡ b ++ y = cc in
    elim (cut_twice a x b y tail) [
      | inl w ↦ inl (record { between = w.between; longer = cc (head, w.longer); left = w.left })
      | inr w ↦ inr (record { between = w.between; longer = cc (head, w.longer); left = w.left })
    ]

-- the last element of a list that is not empty
pub record Snoc {A : Type 0} (l : List A) : Type 0 where
  pub prefix : List A
  pub last : A
  pub parts : l ≡ prefix ++ last ∷ []

pub snoc : {A : Type 0} (x : A) (xs : List A) → Snoc (x ∷ xs)
snoc x [] = record { prefix = []; last = x; parts = refl }
snoc x (y ∷ xs) =
    let s = snoc y xs in
    record { prefix = x ∷ s.prefix; last = s.last; parts = ap (λ t. x ∷ t) s.parts }

pub starts-append : (s t : List Signal) → Starts s → Starts (s ++ t)
starts-append [] t h = absurd h
starts-append (byte b ∷ s) t h = tt
starts-append (mark ∷ s) t h = absurd h

-- signals that begin with a byte or are none, followed by a byte
pub starts-piece : (s : List Signal) (b : ℕ) (t : List Signal) → (s ≡ []) ⊎ Starts s → Starts (s ++ byte b ∷ t)
starts-piece s b t (inl e) = subst (λ (u : List Signal). Starts (u ++ byte b ∷ t)) (sym e) tt
starts-piece s b t (inr h) = starts-append s (byte b ∷ t) h

-- A longer stream is split further where its unfinished end with the new signals is.
pub splits-extend : (stream : List Signal) (items : List Item) (rest : Rest) (ext : List Signal) (added : List Item) (new : Rest)
    → Splits stream items rest
    → ((idle tail : List Signal) → IsIdle idle → Leaves rest tail → Splits (idle ++ tail ++ ext) added new)
    → Splits (stream ++ ext) (items ++ added) new
splits-extend stream [] rest ext added new (idle, tail, is_idle, e, leaves) goes =
    subst (λ (s : List Signal). Splits (s ++ ext) added new) (sym e) (goes idle tail is_idle leaves)
splits-extend stream (item ∷ items) rest ext added new (idle, span, more, is_idle, e, spans, splits) goes = (
  idle,
  span,
  more ++ ext,
  is_idle,
  ap (λ (s : List Signal). s ++ ext) e ∙ append_assoc (idle ++ span) more ext,
  spans,
  splits-extend more items rest ext added new splits goes,
)

-- signals that begin with a byte have one
starts_byte : (s : List Signal) → Starts s → bytes_of s ≡ [] → ⊥
starts_byte [] h e = h
starts_byte (byte b ∷ s) h e = cc
starts_byte (mark ∷ s) h e = h

-- no bytes, no signals
pub leaves_nothing : (rest : Rest) (tail : List Signal) → Leaves rest tail → rest.bytes ≡ [] → tail ≡ []
leaves_nothing rest tail leaves e =
    elim leaves.starts [ inl nothing ↦ nothing | inr starts ↦ absurd (starts_byte tail starts (leaves.bytes ∙ e)) ]

pub nothing_left : Leaves no_rest []
nothing_left =
    record {
      is_rest = record { unfinished = tt; ticks = omega arith; idle = λ _. refl };
      bytes = refl;
      ticks = refl;
      starts = inl refl;
    }

-- a piece after signals that begin with a byte or are none
starts_or_none : (s : List Signal) (piece : List ℕ) → (s ≡ []) ⊎ Starts s → (s ++ piece_of piece ≡ []) ⊎ Starts (s ++ piece_of piece)
starts_or_none s piece (inr h) = inr (starts-append s (piece_of piece) h)
starts_or_none s [] (inl e) = inl (append-nil s ∙ e)
starts_or_none s (b ∷ piece) (inl e) = inr (starts-piece s b (piece_of piece) (inl e))

-- nothing before nothing
prefix_empty : (a b : List ℕ) → a ++ b ≡ [] → a ≡ []
prefix_empty [] b e = refl
prefix_empty (x ∷ a) b e = cc

-- all of the piece is of the unfinished frame
leaves-piece : (old : Rest) (tail : List Signal) (piece : List ℕ) (new : Rest) → Leaves old tail
    → old.bytes ++ piece ≡ new.bytes → IsUnfinished new.bytes → new.ticks ≡ old.ticks → Leaves new (tail ++ piece_of piece)
leaves-piece old tail piece new leaves e unfinished ticks =
    record {
      is_rest = record {
        unfinished = unfinished;
        ticks = omega (arith, leaves.is_rest.ticks);
        idle = λ none. ticks ∙ leaves.is_rest.idle (prefix_empty old.bytes piece (e ∙ none));
      };
      bytes = bytes_of-append tail (piece_of piece) ∙ ap (λ (t : List ℕ). bytes_of tail ++ t) (bytes_of-piece piece) ∙ ap (λ (t : List ℕ). t ++ piece) leaves.bytes ∙ e;
      ticks = omega (arith, marks_of-append tail (piece_of piece), marks_of-piece piece, leaves.ticks);
      starts = starts_or_none tail piece leaves.starts;
    }

-- the piece ends an item whose beginning was the unfinished frame
spans-piece : (old : Rest) (tail : List Signal) (item : Item) (b : ℕ) (bs : List ℕ) → Leaves old tail
    → ItemText item (old.bytes ++ b ∷ bs) → Spans item (tail ++ piece_of (b ∷ bs))
spans-piece old tail item b bs leaves whole =
    let s = snoc b bs in
    let cut : piece_of (b ∷ bs) ≡ piece_of s.prefix ++ byte s.last ∷ [] = ap piece_of s.parts ∙ piece_of-append s.prefix (s.last ∷ []) in
    let text : bytes_of (tail ++ piece_of s.prefix) ++ s.last ∷ [] ≡ old.bytes ++ b ∷ bs =
    ap (λ (t : List ℕ). t ++ s.last ∷ []) (bytes_of-append tail (piece_of s.prefix) ∙ ap (λ (t : List ℕ). bytes_of tail ++ t) (bytes_of-piece s.prefix) ∙ ap (λ (t : List ℕ). t ++ s.prefix) leaves.bytes)
    ∙ append_assoc old.bytes s.prefix (s.last ∷ [])
    ∙ ap (λ (t : List ℕ). old.bytes ++ t) (sym s.parts)
    in
    record {
      prefix = tail ++ piece_of s.prefix;
      last = byte s.last;
      parts = ap (λ (t : List Signal). tail ++ t) cut ∙ sym (append_assoc tail (piece_of s.prefix) (byte s.last ∷ []));
      starts = starts-piece tail b (piece_of bs) leaves.starts;
      closes = (
        omega (arith, marks_of-append tail (piece_of s.prefix), marks_of-piece s.prefix, leaves.ticks, leaves.is_rest.ticks),
        subst (λ (t : List ℕ). ItemText item t) (sym text) whole,
      );
    }

-- an item that ends in the piece, before what the rest of the piece splits into
splits-item : (item : Item) (items : List Item) (idle tail : List Signal) (old : Rest) (piece : List ℕ) (new : Rest)
    → IsIdle idle → Leaves old tail → (text more between : List ℕ) → ItemText item text
    → text ≡ old.bytes ++ between → piece ≡ between ++ more → Splits (piece_of more) items new
    → Splits (idle ++ tail ++ piece_of piece) (item ∷ items) new
splits-item item items idle tail old piece new is_idle leaves text more [] whole longer left splits =
    let unfinished : IsUnfinished (text ++ []) =
    subst (λ (t : List ℕ). IsUnfinished t) (sym (append-nil old.bytes) ∙ sym longer ∙ sym (append-nil text)) leaves.is_rest.unfinished
    in
    absurd (whole_not_unfinished item text [] whole unfinished)
splits-item item items idle tail old piece new is_idle leaves text more (b ∷ bs) whole longer left splits =
    let here = piece_of (b ∷ bs) in
    let cut : piece_of piece ≡ here ++ piece_of more = ap piece_of left ∙ piece_of-append (b ∷ bs) more in (
      idle,
      tail ++ here,
      piece_of more,
      is_idle,
      ap (λ (t : List Signal). (idle ++ tail) ++ t) cut
          ∙ sym (append_assoc (idle ++ tail) here (piece_of more))
          ∙ ap (λ (t : List Signal). t ++ piece_of more) (append_assoc idle tail here),
      spans-piece old tail item b bs leaves (subst (λ (t : List ℕ). ItemText item t) longer whole),
      splits,
    )

pub no_ticks : (items : List Item) → ticks_after 0 items ≡ 0
no_ticks [] = refl
no_ticks (item ∷ items) = refl

-- a piece splits the unfinished end further
pub splits-feed : (added : List Item) (idle tail : List Signal) (old : Rest) (piece : List ℕ) (new : Rest)
    → IsIdle idle → Leaves old tail → Reads (old.bytes ++ piece) added new.bytes → new.ticks ≡ ticks_after old.ticks added
    → Splits (idle ++ tail ++ piece_of piece) added new
splits-feed [] idle tail old piece new is_idle leaves reads ticks =
    (idle, tail ++ piece_of piece, is_idle, append_assoc idle tail (piece_of piece), leaves-piece old tail piece new leaves reads.1 reads.0 ticks)
splits-feed (item ∷ items) idle tail old piece new is_idle leaves (text, more, whole, e, reads) ticks =
    let later : Splits (piece_of more) items new =
    splits-feed items [] [] no_rest more new refl nothing_left reads (ticks ∙ sym (no_ticks items))
    in
    elim (cut_twice old.bytes piece text more e) [
      | inl w ↦ splits-item item items idle tail old piece new is_idle leaves text more w.between whole w.longer w.left later
      | inr w ↦ absurd (whole_not_unfinished item text w.between whole (subst (λ (t : List ℕ). IsUnfinished t) w.longer leaves.is_rest.unfinished))
    ]

pub goes-feed : (old : Rest) (piece : List ℕ) (new : Rest) (added : List Item) → Feeds old piece new added → GoesOn old (piece_of piece) new added
goes-feed old piece new added feeds stream items splits =
    splits-extend stream items old (piece_of piece) added new splits
    (λ idle tail is_idle leaves. splits-feed added idle tail old piece new is_idle leaves feeds.reads feeds.ticks)

-- a tick where no frame is unfinished
pub goes-idle : (old : Rest) → old.bytes ≡ [] → GoesOn old (mark ∷ []) old []
goes-idle old none stream items splits =
    splits-extend stream items old (mark ∷ []) [] old splits
    (λ idle tail is_idle leaves.
    let no_tail : tail ≡ [] = leaves_nothing old tail leaves none in (
      idle ++ mark ∷ [],
      [],
      bytes_of-append idle (mark ∷ []) ∙ append-nil (bytes_of idle) ∙ is_idle,
      ap (λ (t : List Signal). idle ++ t ++ mark ∷ []) no_tail ∙ ap (λ (t : List Signal). t ++ mark ∷ []) (append-nil idle) ∙ sym (append-nil (idle ++ mark ∷ [])),
      subst (λ (t : List Signal). Leaves old t) no_tail leaves,
    ))

-- the tail of an unfinished frame begins with a byte
starts_tail : (old : Rest) (tail : List Signal) → Leaves old tail → old.bytes ≢ [] → Starts tail
starts_tail old tail leaves some =
    elim leaves.starts [ inl none ↦ absurd (some (sym leaves.bytes ∙ ap bytes_of none)) | inr starts ↦ starts ]

-- a tick that is counted
pub goes-tick : (old new : Rest) → old.bytes ≢ [] → new.bytes ≡ old.bytes → new.ticks ≡ old.ticks + 1 → new.ticks < 15 → GoesOn old (mark ∷ []) new []
goes-tick old new some same ticks few stream items splits =
    splits-extend stream items old (mark ∷ []) [] new splits
    (λ idle tail is_idle leaves. (
      idle,
      tail ++ mark ∷ [],
      is_idle,
      append_assoc idle tail (mark ∷ []),
      record {
        is_rest = record {
          unfinished = subst (λ (t : List ℕ). IsUnfinished t) (sym same) leaves.is_rest.unfinished;
          ticks = few;
          idle = λ none. absurd (some (sym same ∙ none));
        };
        bytes = bytes_of-append tail (mark ∷ []) ∙ append-nil (bytes_of tail) ∙ leaves.bytes ∙ sym same;
        ticks = omega (arith, marks_of-append tail (mark ∷ []), leaves.ticks);
        starts = inr (starts-append tail (mark ∷ []) (starts_tail old tail leaves some));
      },
    ))

-- the fifteenth tick
pub goes-abort : (old : Rest) → old.bytes ≢ [] → old.ticks ≡ 14 → GoesOn old (mark ∷ []) no_rest (Refused Aborted ∷ [])
goes-abort old some ticks stream items splits =
    splits-extend stream items old (mark ∷ []) (Refused Aborted ∷ []) no_rest splits
    (λ idle tail is_idle leaves. (
      idle,
      tail ++ mark ∷ [],
      [],
      is_idle,
      append_assoc idle tail (mark ∷ []) ∙ sym (append-nil (idle ++ (tail ++ mark ∷ []))),
      record {
        prefix = tail;
        last = mark;
        parts = refl;
        starts = starts-append tail (mark ∷ []) (starts_tail old tail leaves some);
        closes = (leaves.ticks ∙ ticks, subst (λ (t : List ℕ). IsUnfinished t) (sym leaves.bytes) leaves.is_rest.unfinished, refl);
      },
      ([], [], refl, refl, nothing_left),
    ))

-- the last signal stays the last
record EndsBetween (a c : List Signal) (z : Signal) : Type 0 where
  pub prefix : List Signal
  pub parts : c ≡ prefix ++ z ∷ []

last_stays : (a c prefix : List Signal) (z : Signal) → a ++ c ≡ prefix ++ z ∷ [] → (c ≡ []) ⊎ EndsBetween a c z
last_stays [] c prefix z e = inr (record { prefix = prefix; parts = e })
last_stays (x ∷ a) c [] z e = let tail : a ++ c ≡ [] = cc in inl (back_empty a c tail)
  where
    back_empty : (a c : List Signal) → a ++ c ≡ [] → c ≡ []
    back_empty [] c e = e
    back_empty (x ∷ a) c e = cc
last_stays (x ∷ a) c (y ∷ prefix) z e =
    let tail : a ++ c ≡ prefix ++ z ∷ [] = cc in
    elim (last_stays a c prefix z tail) [
      | inl none ↦ inl none
      | inr w ↦ inr (record { prefix = w.prefix; parts = w.parts })
    ]

snoc_some : (xs : List ℕ) (x : ℕ) → xs ++ x ∷ [] ≡ [] → ⊥
snoc_some [] x e = cc
snoc_some (y ∷ xs) x e = cc

-- an item that ends with a byte
whole_span : (item : Item) (span prefix : List Signal) (b : ℕ) → span ≡ prefix ++ byte b ∷ [] → Closes item prefix (byte b)
    → ItemText item (bytes_of span) × (marks_of span < 15)
whole_span item span prefix b parts (few, text) = (
  subst (λ (t : List ℕ). ItemText item t) (sym (ap bytes_of parts ∙ bytes_of-append prefix (byte b ∷ []))) text,
  omega (arith, ap marks_of parts, marks_of-append prefix (byte b ∷ [])),
)

-- an item that ends with a tick
aborted_span : (item : Item) (span prefix : List Signal) → span ≡ prefix ++ mark ∷ [] → Closes item prefix mark
    → IsUnfinished (bytes_of span) × (marks_of span ≡ 15)
aborted_span item span prefix parts (all, unfinished, aborted) = (
  subst (λ (t : List ℕ). IsUnfinished t) (sym (ap bytes_of parts ∙ bytes_of-append prefix (mark ∷ []) ∙ append-nil (bytes_of prefix))) unfinished,
  omega (arith, ap marks_of parts, marks_of-append prefix (mark ∷ [])),
)

-- after a whole item no byte comes, and after fifteen ticks no tick
byte_stays : (a c prefix : List Signal) (b : ℕ) → a ++ c ≡ prefix ++ byte b ∷ [] → bytes_of c ≡ [] → c ≡ []
byte_stays a c prefix b e none =
    elim (last_stays a c prefix (byte b) e) [
      | inl empty ↦ empty
      | inr w ↦ absurd (snoc_some (bytes_of w.prefix) b (sym (ap bytes_of w.parts ∙ bytes_of-append w.prefix (byte b ∷ [])) ∙ none))
    ]

mark_stays : (a c prefix : List Signal) → a ++ c ≡ prefix ++ mark ∷ [] → marks_of c ≡ 0 → c ≡ []
mark_stays a c prefix e none =
    elim (last_stays a c prefix mark e) [
      | inl empty ↦ empty
      | inr w ↦ absurd (omega (arith, none, ap marks_of w.parts, marks_of-append w.prefix (mark ∷ [])))
    ]

-- a span that begins another is all of it
longer_span : (i j : Item) (a c prefix : List Signal) (last : Signal) (prefix' : List Signal) (last' : Signal)
    → a ≡ prefix ++ last ∷ [] → Closes i prefix last → a ++ c ≡ prefix' ++ last' ∷ [] → Closes j prefix' last'
    → (i ≡ j) × (c ≡ [])
longer_span i j a c prefix (byte b) prefix' (byte b') parts closes parts' closes' =
    let short = whole_span i a prefix b parts closes in
    let long = whole_span j (a ++ c) prefix' b' parts' closes' in
    let same = no_longer i j (bytes_of a) (bytes_of c) short.0 (subst (λ (t : List ℕ). ItemText j t) (bytes_of-append a c) long.0) in
    (same.0, byte_stays a c prefix' b' parts' same.1)
longer_span i j a c prefix (byte b) prefix' mark parts closes parts' closes' =
    let short = whole_span i a prefix b parts closes in
    let long = aborted_span j (a ++ c) prefix' parts' closes' in
    absurd (whole_not_unfinished i (bytes_of a) (bytes_of c) short.0 (subst (λ (t : List ℕ). IsUnfinished t) (bytes_of-append a c) long.0))
longer_span i j a c prefix mark prefix' (byte b') parts closes parts' closes' =
    let short = aborted_span i a prefix parts closes in
    let long = whole_span j (a ++ c) prefix' b' parts' closes' in
    absurd (omega (arith, short.1, long.1, marks_of-append a c))
longer_span i j a c prefix mark prefix' mark parts closes parts' closes' =
    let short = aborted_span i a prefix parts closes in
    let long = aborted_span j (a ++ c) prefix' parts' closes' in
    (closes.2 ∙ sym closes'.2, mark_stays a c prefix' parts' (omega (arith, short.1, long.1, marks_of-append a c)))

-- what is left unfinished begins with no item
item_in_tail : (i : Item) (a c prefix : List Signal) (last : Signal) (rest : Rest) → a ≡ prefix ++ last ∷ [] → Closes i prefix last → Leaves rest (a ++ c) → ⊥
item_in_tail i a c prefix (byte b) rest parts closes leaves =
    let short = whole_span i a prefix b parts closes in
    let bytes : rest.bytes ≡ bytes_of a ++ bytes_of c = sym leaves.bytes ∙ bytes_of-append a c in
    whole_not_unfinished i (bytes_of a) (bytes_of c) short.0 (subst (λ (t : List ℕ). IsUnfinished t) bytes leaves.is_rest.unfinished)
item_in_tail i a c prefix mark rest parts closes leaves =
    let short = aborted_span i a prefix parts closes in
    omega (arith, short.1, leaves.ticks, leaves.is_rest.ticks, marks_of-append a c)

-- what begins with a byte does not begin with a tick
no_mark : (s more : List Signal) → (s ≡ []) ⊎ Starts s → s ≡ mark ∷ more → ⊥
no_mark s more (inl none) e = cc
no_mark [] more (inr starts) e = starts
no_mark (byte b ∷ s) more (inr starts) e = cc
no_mark (mark ∷ s) more (inr starts) e = starts

-- ticks before the first byte are the same in each splitting
idle_same : (idle s idle' s' : List Signal) → IsIdle idle → IsIdle idle' → (s ≡ []) ⊎ Starts s → (s' ≡ []) ⊎ Starts s' → idle ++ s ≡ idle' ++ s' → s ≡ s'
idle_same [] s [] s' i i' h h' e = e
idle_same [] s (byte b ∷ idle') s' i i' h h' e = cc
idle_same [] s (mark ∷ idle') s' i i' h h' e = absurd (no_mark s (idle' ++ s') h e)
idle_same (byte b ∷ idle) s idle' s' i i' h h' e = cc
idle_same (mark ∷ idle) s [] s' i i' h h' e = absurd (no_mark s' (idle ++ s) h' (sym e))
idle_same (mark ∷ idle) s (byte b ∷ idle') s' i i' h h' e = cc
idle_same (mark ∷ idle) s (mark ∷ idle') s' i i' h h' e =
    let tail : idle ++ s ≡ idle' ++ s' = cc in
    idle_same idle s idle' s' i i' h h' tail

pub same_rest : (r e : Rest) → r.bytes ≡ e.bytes → r.ticks ≡ e.ticks → r ≡ e
same_rest r e bytes ticks = ap (λ (b : List ℕ). record { bytes = b; ticks = r.ticks }) bytes ∙ ap (λ (t : ℕ). record { bytes = e.bytes; ticks = t }) ticks

-- two items at the prefix of one stream are the same
same_prefix : (i j : Item) (span more span' more' : List Signal) → Spans i span → Spans j span' → span ++ more ≡ span' ++ more' → (i ≡ j) × (more ≡ more')
same_prefix i j span more span' more' spans spans' e =
    elim (cut_twice span more span' more' e) [
      | inl w ↦
          (let same = longer_span i j span w.between spans.prefix spans.last spans'.prefix spans'.last spans.parts spans.closes (sym w.longer ∙ spans'.parts) spans'.closes in
          (same.0, w.left ∙ ap (λ (t : List Signal). t ++ more') same.1))
      | inr w ↦
          (let same = longer_span j i span' w.between spans'.prefix spans'.last spans.prefix spans.last spans'.parts spans'.closes (sym w.longer ∙ spans.parts) spans.closes in
          (sym same.0, sym (w.left ∙ ap (λ (t : List Signal). t ++ more) same.1)))
    ]

-- a stream is split in one way
pub one-splitting : (stream : List Signal) (items others : List Item) (rest end : Rest) → Splits stream items rest → Splits stream others end → (items ≡ others) × (rest ≡ end)
one-splitting stream [] [] rest end (idle, tail, is_idle, e, leaves) (idle', tail', is_idle', e', leaves') =
    let same = idle_same idle tail idle' tail' is_idle is_idle' leaves.starts leaves'.starts (sym e ∙ e') in
    (refl, same_rest rest end (sym leaves.bytes ∙ ap bytes_of same ∙ leaves'.bytes) (sym leaves.ticks ∙ ap marks_of same ∙ leaves'.ticks))
one-splitting stream [] (j ∷ others) rest end (idle, tail, is_idle, e, leaves) (idle', span, more, is_idle', e', spans, splits) =
    let same = idle_same idle tail idle' (span ++ more) is_idle is_idle' leaves.starts (inr (starts-append span more spans.starts)) (sym e ∙ e' ∙ append_assoc idle' span more) in
    absurd (item_in_tail j span more spans.prefix spans.last rest spans.parts spans.closes (subst (λ (t : List Signal). Leaves rest t) same leaves))
one-splitting stream (i ∷ items) [] rest end (idle, span, more, is_idle, e, spans, splits) (idle', tail, is_idle', e', leaves) =
    let same = idle_same idle' tail idle (span ++ more) is_idle' is_idle leaves.starts (inr (starts-append span more spans.starts)) (sym e' ∙ e ∙ append_assoc idle span more) in
    absurd (item_in_tail i span more spans.prefix spans.last end spans.parts spans.closes (subst (λ (t : List Signal). Leaves end t) same leaves))
one-splitting stream (i ∷ items) (j ∷ others) rest end (idle, span, more, is_idle, e, spans, splits) (idle', span', more', is_idle', e', spans', splits') =
    let same = idle_same idle (span ++ more) idle' (span' ++ more') is_idle is_idle' (inr (starts-append span more spans.starts)) (inr (starts-append span' more' spans'.starts))
    (sym (append_assoc idle span more) ∙ sym e ∙ e' ∙ append_assoc idle' span' more')
    in
    let first = same_prefix i j span more span' more' spans spans' same in
    let later = one-splitting more' items others rest end (subst (λ (t : List Signal). Splits t items rest) first.1 splits) splits' in
    ((cc (first.0, later.0)), later.1)
