-- Labels beside one direction of the serial line, move by move.
use Rattle.std.proofs.Common.{◌≡◌, ℕ, ◌+◌, ◌==◌, inl, inr, Bool, true, false, nat_lt, if◌then◌else◌, Option, Some, None, List, [], ◌∷◌, ◌++◌, refl, ap, sym, ◌∙◌, subst, append_assoc, append-nil}
use Rattle.std.specs.Option.{option_to_list}
use Rattle.serial_frame.specs.Frame.{FrameParts}
use Rattle.serial_frame.specs.Items.{unit_text}
use Rattle.serial_frame.specs.declared.unit.Unit.{Unit as LineUnit}
use Rattle.serial_frame.specs.declared.unit.Unit.TheVariants.{Ack, Nak, Can, Framed}
use Rattle.serial_frame.specs.declared.item.Item.{Item}
use Rattle.serial_frame.specs.declared.item.Item.TheVariants.{Good, Refused}
use Rattle.serial_frame.specs.declared.item.Refusal.{Refusal}
use Rattle.serial_frame.specs.declared.item.Refusal.TheVariants.{BadSum}
use Rattle.serial_link.specs.State.{turn_ended, turn_refused, turn_heard, turn_ticked, copy_due, pause_after}
use Rattle.serial_link.specs.declared.turn.Turn.{Turn}
use Rattle.serial_link.specs.declared.turn.Turn.TheVariants.{Idle, Copied, Paused}
use Rattle.serial_pipes.specs.State.{WayState, fits, garbled}
use Rattle.serial_pipes.specs.Events.{after, Writes}
use Rattle.serial_pipes.specs.declared.marks.Garble.{Garble}
use Rattle.proof_world.specs.proof_serial.Way.{wanted_sum, found_sum, changed_item, frame_item, unit_item, items_of, items_all, written_all}
use Rattle.proof_course_plain.specs.Ways.{Beside, Thinned}
use Rattle.proof_course_plain.specs.Mesh.{labels}
use Rattle.proof_course_plain.specs.Lines.{ItemIs, own_frames, OnWay, Later, Moves}

-- ---- thinned lists

pub thinned_same : {X : Type 0} (xs : List X) → Thinned xs xs
thinned_same [] = tt
thinned_same (x ∷ xs) = inl (refl, more x xs)
  where
    more : {X : Type 0} (x : X) (xs : List X) → Thinned (x ∷ xs) xs
    more x [] = tt
    more x (y ∷ xs) = inr (inl (refl, more y xs))

-- what is left out before
pub thinned_after : {X : Type 0} (prefix xs ys : List X) → Thinned xs ys → Thinned (prefix ++ xs) ys
thinned_after [] xs ys is = is
thinned_after (x ∷ prefix) xs [] is = tt
thinned_after (x ∷ prefix) xs (y ∷ ys) is = inr (thinned_after prefix xs (y ∷ ys) is)

pub thinned_both : {X : Type 0} (a b c d : List X) → Thinned a b → Thinned c d → Thinned (a ++ c) (b ++ d)
thinned_both a [] c d first later = thinned_after a c d later
thinned_both [] (y ∷ b) c d first later = absurd first
thinned_both (x ∷ a) (y ∷ b) c d (inl (same, more)) later = inl (same, thinned_both (x ∷ a) b c d more later)
thinned_both (x ∷ a) (y ∷ b) c d (inr more) later = inr (thinned_both a (y ∷ b) c d more later)

pub thinned_then : {X : Type 0} (a b c : List X) → Thinned a b → Thinned b c → Thinned a c
thinned_then a b [] first later = tt
thinned_then a [] (z ∷ c) first later = absurd later
thinned_then [] (y ∷ b) (z ∷ c) first later = absurd first
thinned_then (x ∷ a) (y ∷ b) (z ∷ c) (inr more) later = inr (thinned_then a (y ∷ b) (z ∷ c) more later)
thinned_then (x ∷ a) (y ∷ b) (z ∷ c) (inl (same, more)) (inl (is, rest)) = inl (is ∙ same, thinned_then (x ∷ a) (y ∷ b) c (inl (same, more)) rest)
thinned_then (x ∷ a) (y ∷ b) (z ∷ c) (inl (same, more)) (inr rest) = thinned_then (x ∷ a) b (z ∷ c) more rest

-- one label, or none, comes twice
pub thinned_twice : {X : Type 0} (mark : Option X) → Thinned (option_to_list mark) (option_to_list mark ++ option_to_list mark)
thinned_twice None = tt
thinned_twice (Some x) = inl (refl, inl (refl, tt))

-- ---- labels

pub labels-append : {X : Type 0} (a b : List (Option X)) → labels (a ++ b) ≡ labels a ++ labels b
labels-append [] b = refl
labels-append (mark ∷ a) b = ap (λ l. option_to_list mark ++ l) (labels-append a b) ∙ sym (append_assoc (option_to_list mark) (labels a) (labels b))

pub beside-both : {A B : Type 0} (R : A → B → Type 0) (a c : List A) (b d : List B) → Beside R a b → Beside R c d → Beside R (a ++ c) (b ++ d)
beside-both R [] c [] d first later = later
beside-both R [] c (y ∷ b) d first later = absurd first
beside-both R (x ∷ a) c [] d first later = absurd first
beside-both R (x ∷ a) c (y ∷ b) d (one, first) later = (one, beside-both R a c b d first later)

pub items_all-append : (way : WayState) (a b : List LineUnit) → items_all way (a ++ b) ≡ items_all way a ++ items_all (written_all way a) b
items_all-append way [] b = refl
items_all-append way (unit ∷ a) b = ap (λ l. items_of way unit ++ l) (items_all-append (after way (Writes unit)) a b) ∙ sym (append_assoc (items_of way unit) (items_all (after way (Writes unit)) a) (items_all (written_all (after way (Writes unit)) a) b))

-- ---- what a unit becomes, with labels

pub record Becomes {L : Type 0} (Is : FrameParts → Option L → Type 0) (mark : Option L) (items : List Item) : Type 0 where
  pub marks : List (Option L)
  pub beside : Beside (ItemIs Is) items marks
  pub thin : Thinned (option_to_list mark) (labels marks)

module _ {L : Type 0} (Is : FrameParts → Option L → Type 0) where
  become_none : (mark : Option L) → Becomes Is mark []
  become_none mark = record { marks = []; beside = tt; thin = tt }

  labelled : (mark : Option L) → option_to_list mark ≡ labels (mark ∷ [])
  labelled mark = sym (append-nil (option_to_list mark))

  become_one : (mark : Option L) (item : Item) → ItemIs Is item mark → Becomes Is mark (item ∷ [])
  become_one mark item is = record { marks = mark ∷ []; beside = (is, tt); thin = subst (λ l. Thinned (option_to_list mark) l) (labelled mark) (thinned_same (option_to_list mark)) }

  same_frame : (f g : FrameParts) (mark : Option L) → Is f mark → Good (Framed f) ≡ Good (Framed g) → Is g mark
  same_frame f g mark is e = let same : f ≡ g = cc in subst (λ (h : FrameParts). Is h mark) same is

  changed_is : (garble : Garble) (f : FrameParts) (mark : Option L) → Is f mark → ItemIs Is (changed_item garble f) mark
  changed_is garble f mark is = by (garble.xor == 0) (BadSum (wanted_sum (garbled garble (unit_text (Framed f)))) (found_sum (garbled garble (unit_text (Framed f)))))
    where
      by : (b : Bool) (refusal : Refusal) → ItemIs Is (if b then Good (Framed f) else Refused refusal) mark
      by true refusal = λ g e. same_frame f g mark is e
      by false refusal = λ g e. absurd cc

  unit_is : (garbles : List Garble) (f : FrameParts) (mark : Option L) → Is f mark → ItemIs Is (frame_item garbles f) mark
  unit_is [] f mark is = λ g e. same_frame f g mark is e
  unit_is (garble ∷ garbles) f mark is = changed_is garble f mark is

  -- a frame that is written, with its label
  pub frame_becomes : (way : WayState) (f : FrameParts) (mark : Option L) → Is f mark → Becomes Is mark (items_of way (Framed f))
  frame_becomes way f mark is = fit (fits way.bytes (unit_text (Framed f)))
    where
      marked : (b : Bool) → Becomes Is mark (if b then [] else frame_item way.marks.garbles f ∷ [])
      marked true = become_none mark
      marked false = become_one mark (frame_item way.marks.garbles f) (unit_is way.marks.garbles f mark is)

      fit : (b : Bool) → Becomes Is mark (if b then (if nat_lt 0 way.marks.drops then [] else frame_item way.marks.garbles f ∷ []) else [])
      fit true = marked (nat_lt 0 way.marks.drops)
      fit false = become_none mark

-- ---- moves

-- a unit that is no frame
abbrev pub IsSign : LineUnit → Type 0
IsSign Ack = Unit {0}
IsSign Nak = Unit {0}
IsSign Can = Unit {0}
IsSign (Framed f) = ⊥

-- the units of a copy that is due
abbrev pub copies_of : Option FrameParts → List LineUnit
copies_of None = []
copies_of (Some f) = Framed f ∷ []

module _ {L : Type 0} (Is : FrameParts → Option L → Type 0) where
  sign_item : (garbles : List Garble) (unit : LineUnit) → IsSign unit → ItemIs Is (unit_item garbles unit) None
  sign_item garbles Ack sign = λ g e. absurd cc
  sign_item garbles Nak sign = λ g e. absurd cc
  sign_item garbles Can sign = λ g e. absurd cc
  sign_item garbles (Framed f) sign = absurd sign

  sign_becomes : (way : WayState) (unit : LineUnit) → IsSign unit → Becomes Is None (items_of way unit)
  sign_becomes way unit sign = fit (fits way.bytes (unit_text unit))
    where
      marked : (b : Bool) → Becomes Is None (if b then [] else unit_item way.marks.garbles unit ∷ [])
      marked true = record { marks = []; beside = tt; thin = tt }
      marked false = record { marks = None ∷ []; beside = (sign_item way.marks.garbles unit sign, tt); thin = tt }

      fit : (b : Bool) → Becomes Is None (if b then (if nat_lt 0 way.marks.drops then [] else unit_item way.marks.garbles unit ∷ []) else [])
      fit true = marked (nat_lt 0 way.marks.drops)
      fit false = record { marks = []; beside = tt; thin = tt }

  -- labels after a move that writes nothing
  quiet_way : (carried now : List L) (items : List Item) (way : WayState) (turn : Turn) (waiting : List FrameParts) → Thinned carried now → OnWay Is now items turn waiting
      → Later Is (carried ++ []) (items ++ items_all way []) turn waiting
  quiet_way carried now items way turn waiting thin on =
      subst (λ (is : List Item). Later Is (carried ++ []) is turn waiting) (sym (append-nil items))
      (record { now = now; thin = subst (λ (c : List L). Thinned c now) (sym (append-nil carried)) thin; on_way = on })

  -- the own frame stays, in whatever turn
  pub move_same : (old turn : Turn) (waiting : List FrameParts) → own_frames turn ≡ own_frames old → Moves Is old waiting [] turn waiting []
  move_same old turn waiting same carried items way on =
      quiet_way carried carried items way turn waiting (thinned_same carried) (record {
        on_line = on.on_line;
        on_link = on.on_link;
        waits = on.waits;
        line = on.line;
        link = subst (λ (fs : List FrameParts). Beside Is fs on.on_link) (sym same) on.link;
        following = on.following;
        are = on.are;
      })

  -- the own frame is done with
  pub move_done : (old turn : Turn) (waiting : List FrameParts) → own_frames turn ≡ [] → Moves Is old waiting [] turn waiting []
  move_done old turn waiting none carried items way on =
      let now : List L = labels (on.on_line ++ ([] ++ on.waits)) in
      let thin : Thinned carried now =
      subst (λ (c : List L). Thinned c now) (sym on.are)
      (subst (λ (c : List L). Thinned c now) (sym (labels-append on.on_line (on.on_link ++ on.waits) ∙ ap (λ l. labels on.on_line ++ l) (labels-append on.on_link on.waits)))
      (subst (λ (c : List L). Thinned (labels on.on_line ++ (labels on.on_link ++ labels on.waits)) c) (sym (labels-append on.on_line on.waits))
      (thinned_both (labels on.on_line) (labels on.on_line) (labels on.on_link ++ labels on.waits) (labels on.waits) (thinned_same (labels on.on_line))
      (thinned_after (labels on.on_link) (labels on.waits) (labels on.waits) (thinned_same (labels on.waits)))))) in
      quiet_way carried now items way turn waiting thin (record {
        on_line = on.on_line;
        on_link = [];
        waits = on.waits;
        line = on.line;
        link = subst (λ (fs : List FrameParts). Beside Is fs []) (sym none) tt;
        following = on.following;
        are = refl;
      })

  -- a unit that is no frame is written
  pub move_sign : (unit : LineUnit) (turn : Turn) (waiting : List FrameParts) → IsSign unit → Moves Is turn waiting (unit ∷ []) turn waiting []
  move_sign unit turn waiting sign carried items way on =
      let b : Becomes Is None (items_of way unit) = sign_becomes way unit sign in
      let now : List L = labels ((on.on_line ++ b.marks) ++ (on.on_link ++ on.waits)) in
      let none : labels b.marks ≡ [] = nothing (labels b.marks) b.thin in
      let same : now ≡ carried =
      labels-append (on.on_line ++ b.marks) (on.on_link ++ on.waits)
      ∙ (ap (λ l. l ++ labels (on.on_link ++ on.waits)) (labels-append on.on_line b.marks ∙ (ap (λ l. labels on.on_line ++ l) none ∙ append-nil (labels on.on_line)))
      ∙ (sym (labels-append on.on_line (on.on_link ++ on.waits)) ∙ sym on.are)) in
      record {
        now = now;
        thin = subst (λ (c : List L). Thinned c now) (same ∙ sym (append-nil carried)) (thinned_same now);
        on_way = record {
          on_line = on.on_line ++ b.marks;
          on_link = on.on_link;
          waits = on.waits;
          line = beside-both (ItemIs Is) items (items_of way unit ++ []) on.on_line b.marks on.line (subst (λ (is : List Item). Beside (ItemIs Is) is b.marks) (sym (append-nil (items_of way unit))) b.beside);
          link = on.link;
          following = on.following;
          are = refl;
        };
      }
    where
      nothing : (xs : List L) → Thinned [] xs → xs ≡ []
      nothing [] is = refl
      nothing (x ∷ xs) is = absurd is

  -- a copy of the own frame is written, in whatever turn it is then
  pub move_copy : (f : FrameParts) (old turn : Turn) (waiting : List FrameParts) → own_frames old ≡ f ∷ [] → own_frames turn ≡ f ∷ [] → Moves Is old waiting (Framed f ∷ []) turn waiting []
  move_copy f old turn waiting own same carried items way on = by on.on_link (subst (λ (fs : List FrameParts). Beside Is fs on.on_link) own on.link) on.are
    where
      by : (on_link : List (Option L)) → Beside Is (f ∷ []) on_link → carried ≡ labels (on.on_line ++ (on_link ++ on.waits)) → Later Is (carried ++ []) (items ++ (items_of way (Framed f) ++ [])) turn waiting
      by [] none are = absurd none
      by (mark ∷ other ∷ marks) many are = absurd many.1
      by (mark ∷ []) (is, none) are =
          let b : Becomes Is mark (items_of way (Framed f)) = frame_becomes Is way f mark is in
          let now : List L = labels ((on.on_line ++ b.marks) ++ (mark ∷ on.waits)) in
          let prefix : labels (on.on_line ++ (mark ∷ on.waits)) ≡ labels on.on_line ++ (option_to_list mark ++ labels on.waits) = labels-append on.on_line (mark ∷ on.waits) in
          let back : now ≡ labels on.on_line ++ ((labels b.marks ++ option_to_list mark) ++ labels on.waits) =
          labels-append (on.on_line ++ b.marks) (mark ∷ on.waits)
          ∙ (ap (λ l. l ++ (option_to_list mark ++ labels on.waits)) (labels-append on.on_line b.marks)
          ∙ (append_assoc (labels on.on_line) (labels b.marks) (option_to_list mark ++ labels on.waits)
          ∙ ap (λ l. labels on.on_line ++ l) (sym (append_assoc (labels b.marks) (option_to_list mark) (labels on.waits))))) in
          let twice : Thinned (option_to_list mark) (labels b.marks ++ option_to_list mark) =
          thinned_then (option_to_list mark) (option_to_list mark ++ option_to_list mark) (labels b.marks ++ option_to_list mark) (thinned_twice mark)
          (thinned_both (option_to_list mark) (labels b.marks) (option_to_list mark) (option_to_list mark) b.thin (thinned_same (option_to_list mark))) in
          let thin : Thinned carried now =
          subst (λ (c : List L). Thinned c now) (sym (are ∙ prefix))
          (subst (λ (c : List L). Thinned (labels on.on_line ++ (option_to_list mark ++ labels on.waits)) c) (sym back)
          (thinned_both (labels on.on_line) (labels on.on_line) (option_to_list mark ++ labels on.waits) ((labels b.marks ++ option_to_list mark) ++ labels on.waits) (thinned_same (labels on.on_line))
          (thinned_both (option_to_list mark) (labels b.marks ++ option_to_list mark) (labels on.waits) (labels on.waits) twice (thinned_same (labels on.waits))))) in
          record {
            now = now;
            thin = subst (λ (c : List L). Thinned c now) (sym (append-nil carried)) thin;
            on_way = record {
              on_line = on.on_line ++ b.marks;
              on_link = mark ∷ [];
              waits = on.waits;
              line = beside-both (ItemIs Is) items (items_of way (Framed f) ++ []) on.on_line b.marks on.line (subst (λ (is : List Item). Beside (ItemIs Is) is b.marks) (sym (append-nil (items_of way (Framed f)))) b.beside);
              link = subst (λ (fs : List FrameParts). Beside Is fs (mark ∷ [])) (sym same) (is, tt);
              following = on.following;
              are = refl;
            };
          }

  -- one move after another
  pub moves_both : (a b c : Turn) (p q r : List FrameParts) (first later : List LineUnit) (more rest : List L) → Moves Is a p first b q more → Moves Is b q later c r rest → Moves Is a p (first ++ later) c r (more ++ rest)
  moves_both a b c p q r first later more rest one two carried items way on =
      let mid : Later Is (carried ++ more) (items ++ items_all way first) b q = one carried items way on in
      let end : Later Is (mid.now ++ rest) ((items ++ items_all way first) ++ items_all (written_all way first) later) c r = two mid.now (items ++ items_all way first) (written_all way first) mid.on_way in
      record {
        now = end.now;
        thin = subst (λ (l : List L). Thinned l end.now) (append_assoc carried more rest)
            (thinned_then ((carried ++ more) ++ rest) (mid.now ++ rest) end.now (thinned_both (carried ++ more) mid.now rest rest mid.thin (thinned_same rest)) end.thin);
        on_way = subst (λ (is : List Item). OnWay Is end.now is c r)
            (append_assoc items (items_all way first) (items_all (written_all way first) later) ∙ ap (λ l. items ++ l) (sym (items_all-append way first later))) end.on_way;
      }

  -- the first frame that waits is the own one, and is written
  pub move_serve : (f : FrameParts) (waiting : List FrameParts) (old turn : Turn) → own_frames old ≡ [] → own_frames turn ≡ f ∷ [] → Moves Is old (f ∷ waiting) (Framed f ∷ []) turn waiting []
  move_serve f waiting old turn none same = moves_both old turn turn (f ∷ waiting) waiting waiting [] (Framed f ∷ []) [] [] shift (move_copy f turn turn waiting same same)
    where
      shift : Moves Is old (f ∷ waiting) [] turn waiting []
      shift carried items way on = by on.on_link on.waits (subst (λ (fs : List FrameParts). Beside Is fs on.on_link) none on.link) on.following on.are
        where
          by : (on_link waits : List (Option L)) → Beside Is [] on_link → Beside Is (f ∷ waiting) waits → carried ≡ labels (on.on_line ++ (on_link ++ waits)) → Later Is (carried ++ []) (items ++ items_all way []) turn waiting
          by [] [] link following are = absurd following
          by (mark ∷ marks) waits link following are = absurd link
          by [] (mark ∷ waits) link (is, following) are =
              quiet_way carried carried items way turn waiting (thinned_same carried)
              (record { on_line = on.on_line; on_link = mark ∷ []; waits = waits; line = on.line; link = subst (λ (fs : List FrameParts). Beside Is fs (mark ∷ [])) (sym same) (is, tt); following = following; are = are })

  -- a new frame with a label is the own one, where nothing waits, and is written
  pub move_submit : (f : FrameParts) (mark : Option L) (old turn : Turn) → Is f mark → own_frames old ≡ [] → own_frames turn ≡ f ∷ [] → Moves Is old [] (Framed f ∷ []) turn [] (option_to_list mark)
  move_submit f mark old turn is none same =
      subst (λ (l : List L). Moves Is old [] (Framed f ∷ []) turn [] l) (append-nil (option_to_list mark))
      (moves_both old turn turn [] [] [] [] (Framed f ∷ []) (option_to_list mark) [] joins (move_copy f turn turn [] same same))
    where
      joins : Moves Is old [] [] turn [] (option_to_list mark)
      joins carried items way on = by on.on_link on.waits (subst (λ (fs : List FrameParts). Beside Is fs on.on_link) none on.link) on.following on.are
        where
          by : (on_link waits : List (Option L)) → Beside Is [] on_link → Beside Is [] waits → carried ≡ labels (on.on_line ++ (on_link ++ waits)) → Later Is (carried ++ option_to_list mark) (items ++ items_all way []) turn []
          by (other ∷ marks) waits link following are = absurd link
          by [] (other ∷ waits) link following are = absurd following
          by [] [] link following are =
              subst (λ (is : List Item). Later Is (carried ++ option_to_list mark) is turn []) (sym (append-nil items))
              (record {
                now = carried ++ option_to_list mark;
                thin = thinned_same (carried ++ option_to_list mark);
                on_way = record {
                  on_line = on.on_line;
                  on_link = mark ∷ [];
                  waits = [];
                  line = on.line;
                  link = subst (λ (fs : List FrameParts). Beside Is fs (mark ∷ [])) (sym same) (is, tt);
                  following = tt;
                  are = ap (λ l. l ++ option_to_list mark) (are ∙ ap labels (append-nil on.on_line)) ∙ (ap (λ l. labels on.on_line ++ l) (sym (append-nil (option_to_list mark))) ∙ sym (labels-append on.on_line (mark ∷ [])));
                };
              })

  -- one waits after the others
  pub move_wait : (f : FrameParts) (mark : Option L) (turn : Turn) (waiting : List FrameParts) → Is f mark → Moves Is turn waiting [] turn (waiting ++ f ∷ []) (option_to_list mark)
  move_wait f mark turn waiting is carried items way on =
      subst (λ (is : List Item). Later Is (carried ++ option_to_list mark) is turn (waiting ++ f ∷ [])) (sym (append-nil items))
      (record {
        now = carried ++ option_to_list mark;
        thin = thinned_same (carried ++ option_to_list mark);
        on_way = record {
          on_line = on.on_line;
          on_link = on.on_link;
          waits = on.waits ++ mark ∷ [];
          line = on.line;
          link = on.link;
          following = beside-both Is waiting (f ∷ []) on.waits (mark ∷ []) on.following (is, tt);
          are = ap (λ l. l ++ option_to_list mark) on.are
              ∙ (ap (λ l. labels (on.on_line ++ (on.on_link ++ on.waits)) ++ l) (sym (append-nil (option_to_list mark)))
              ∙ (sym (labels-append (on.on_line ++ (on.on_link ++ on.waits)) (mark ∷ []))
              ∙ ap labels (append_assoc on.on_line (on.on_link ++ on.waits) (mark ∷ []) ∙ ap (λ l. on.on_line ++ l) (append_assoc on.on_link on.waits (mark ∷ [])))));
        };
      })

  -- one is lost before it is on its way
  pub move_lost : (turn : Turn) (waiting : List FrameParts) (more : List L) → Moves Is turn waiting [] turn waiting more
  move_lost turn waiting more carried items way on =
      subst (λ (is : List Item). Later Is (carried ++ more) is turn waiting) (sym (append-nil items))
      (record {
        now = carried;
        thin = subst (λ (c : List L). Thinned (carried ++ more) c) (append-nil carried) (thinned_both carried carried more [] (thinned_same carried) tt);
        on_way = on;
      })

  -- ---- turns

  move_ended : (f : FrameParts) (copies ticks : ℕ) (waiting : List FrameParts) → Moves Is (Copied f copies ticks) waiting [] (turn_ended f copies) waiting []
  move_ended f copies ticks waiting = by (copies == 4)
    where
      by : (b : Bool) → Moves Is (Copied f copies ticks) waiting [] (if b then Idle else Paused f copies 0) waiting []
      by true = move_done (Copied f copies ticks) Idle waiting refl
      by false = move_same (Copied f copies ticks) (Paused f copies 0) waiting refl

  move_refused : (turn : Turn) (waiting : List FrameParts) → Moves Is turn waiting [] (turn_refused turn) waiting []
  move_refused Idle waiting = move_same Idle Idle waiting refl
  move_refused (Copied f copies ticks) waiting = move_ended f copies ticks waiting
  move_refused (Paused f copies ticks) waiting = move_same (Paused f copies ticks) (Paused f copies ticks) waiting refl

  -- an item ends the own frame, or leaves it
  pub move_heard : (turn : Turn) (item : Item) (waiting : List FrameParts) → Moves Is turn waiting [] (turn_heard turn item) waiting []
  move_heard turn (Good Ack) waiting = move_done turn Idle waiting refl
  move_heard turn (Good Nak) waiting = move_refused turn waiting
  move_heard turn (Good Can) waiting = move_refused turn waiting
  move_heard turn (Good (Framed f)) waiting = move_same turn turn waiting refl
  move_heard turn (Refused refusal) waiting = move_same turn turn waiting refl

  pub move_ticked : (turn : Turn) (waiting : List FrameParts) → Moves Is turn waiting (copies_of (copy_due turn)) (turn_ticked turn) waiting []
  move_ticked Idle waiting = move_same Idle Idle waiting refl
  move_ticked (Copied f copies ticks) waiting = by (ticks == 14)
    where
      ended : (b : Bool) → Moves Is (Copied f copies ticks) waiting [] (if b then Idle else Paused f copies 0) waiting []
      ended true = move_done (Copied f copies ticks) Idle waiting refl
      ended false = move_same (Copied f copies ticks) (Paused f copies 0) waiting refl

      by : (b : Bool) → Moves Is (Copied f copies ticks) waiting [] (if b then turn_ended f copies else Copied f copies (ticks + 1)) waiting []
      by true = ended (copies == 4)
      by false = move_same (Copied f copies ticks) (Copied f copies (ticks + 1)) waiting refl
  move_ticked (Paused f copies ticks) waiting = by (ticks + 1 == pause_after copies)
    where
      by : (b : Bool) → Moves Is (Paused f copies ticks) waiting (copies_of (if b then Some f else None)) (if b then Copied f (copies + 1) 0 else Paused f copies (ticks + 1)) waiting []
      by true = move_copy f (Paused f copies ticks) (Copied f (copies + 1) 0) waiting refl refl
      by false = move_same (Paused f copies ticks) (Paused f copies (ticks + 1)) waiting refl

  -- ---- the first item

  -- it has a label, and the other labels are on their way without it
  pub first_label : (carried : List L) (item : Item) (items : List Item) (turn : Turn) (waiting : List FrameParts) → OnWay Is carried (item ∷ items) turn waiting
      → (mark : Option L) × (ItemIs Is item mark × ((now : List L) × ((carried ≡ option_to_list mark ++ now) × OnWay Is now items turn waiting)))
  first_label carried item items turn waiting on = by on.on_line on.line on.are
    where
      by : (on_line : List (Option L)) → Beside (ItemIs Is) (item ∷ items) on_line → carried ≡ labels (on_line ++ (on.on_link ++ on.waits))
          → (mark : Option L) × (ItemIs Is item mark × ((now : List L) × ((carried ≡ option_to_list mark ++ now) × OnWay Is now items turn waiting)))
      by [] none are = absurd none
      by (mark ∷ marks) (first, more) are = (mark, (first, (labels (marks ++ (on.on_link ++ on.waits)), (are, record { on_line = marks; on_link = on.on_link; waits = on.waits; line = more; link = on.link; following = on.following; are = refl }))))
