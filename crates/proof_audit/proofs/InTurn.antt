-- Where what is entered is whole changes of devices, each setting by a session goes on with its change, or is of a later session than all before.
use Rattle.std.proofs.Common.{◌≡◌, ◌⊎◌, ℕ, ◌<◌, ◌≤◌, cond, eqb, Bool, true, false, List, [], ◌∷◌, ◌++◌, length, length-append, map, Some, inl, inr, arith, refl, sym, ap, subst, ◌∙◌, append_assoc, append-nil}
use Rattle.std.specs.List.{AllByRecursion, flat_map}
use Rattle.std.proofs.lemmas.Bool.{eq-eqb, ne_eqb}
use Rattle.std.proofs.lemmas.Grind.{flat_map-append}
use Rattle.zw_base.proofs.Each.{all-both, all-left, all-right}
use Rattle.zw_base.specs.declared.property.By.{By}
use Rattle.zw_base.specs.declared.property.By.TheVariants.{Local, Plain, Session}
use Rattle.zw_base.specs.declared.property.Setting.{Setting}
use Rattle.device_kinds.specs.declared.change.Change.{Change}
use Rattle.device_stack.specs.State.{State}
use Rattle.zw_text.specs.declared.entry.Entry.{Entry}
use Rattle.zw_text.specs.declared.entry.Entry.TheVariants.{Dev}
use Rattle.zw_text.specs.Transcript.{Made, applied, by_session, made, made_at}
use Rattle.zw_text.proofs.Views.{shown-append}
use Rattle.law_transcript.specs.Devices.{made_by}
use Rattle.law_transcript.specs.Lists.{Has, Rises}
use Rattle.law_transcript.specs.Nodes.{device_of}
use Rattle.law_transcript.specs.Once.{sessions_by}
use Rattle.law_transcript.proofs.Having.{all_has, all_of}
use Rattle.outside_model.specs.Air.{change_entries}
use Rattle.proof_headline.specs.proof_device.Showing.{AreApart, NeverFalls}
use Rattle.audit_books.specs.Groups.{maker_at}
use Rattle.audit_books.specs.OnceRule.{maker_last}
use Rattle.proof_audit.specs.Books.{ArePieces, IsChangeOf, IsNoChange, IsPiece, Piece, piece_entries}
use Rattle.proof_audit.specs.Books.Piece.{Loose, Whole}
use Rattle.proof_audit.proofs.Cutting.{Splits, splits}
use Rattle.proof_audit.proofs.OneChange.{IsInTurn, is_by, all-by-change, all-by-its, all_by, maker-one, session_of}

-- ---- the entries of a change

-- a setting that a node shows as made so
pub record IsMadeSo (node : ℕ) (how : By) (entry : Entry) : Type 0 where
  pub setting : Setting
  pub is : entry ≡ Dev node how setting

all-made-so : (node : ℕ) (how : By) (settings : List Setting) → AllByRecursion (IsMadeSo node how) (map (λ (setting : Setting). Dev node how setting) settings)
all-made-so node how [] = tt
all-made-so node how (setting ∷ settings) = (record { setting = setting; is = refl }, all-made-so node how settings)

made-whole : (node : ℕ) (how : By) (settings : List Setting) → made node (map (λ (setting : Setting). Dev node how setting) settings) ≡ map (λ (setting : Setting). record { by = how; setting = setting }) settings
made-whole node how [] = refl
made-whole node how (setting ∷ settings) =
    let one : Made = record { by = how; setting = setting } in
    ap (λ (b : Bool). cond b (one ∷ []) [] ++ made node (map (λ (x : Setting). Dev node how x) settings)) (eq-eqb node node refl)
    ∙ ap (λ (l : List Made). one ∷ l) (made-whole node how settings)

-- ---- where an entry stands among pieces

record IsAt (pieces : List Piece) (past : List Entry) (entry : Entry) : Type 0 where
  pub front : List Piece
  pub piece : Piece
  pub back : List Piece
  pub pieces_are : pieces ≡ front ++ piece ∷ back
  pub pre : List Entry
  pub post : List Entry
  pub past_is : past ≡ flat_map piece_entries front ++ pre
  pub piece_is : piece_entries piece ≡ pre ++ entry ∷ post

is-at : (pieces : List Piece) (past : List Entry) (entry : Entry) (rest : List Entry) → flat_map piece_entries pieces ≡ past ++ entry ∷ rest → IsAt pieces past entry
is-at [] [] entry rest is = absurd cc
is-at [] (first ∷ past) entry rest is = absurd cc
is-at (piece ∷ pieces) past entry rest is =
    by (splits (piece_entries piece) (flat_map piece_entries pieces) past entry rest is) (λ more there. is-at pieces more entry rest there)
  where
    by : Splits {A = Entry} (piece_entries piece) (flat_map piece_entries pieces) past entry rest → ((more : List Entry) → flat_map piece_entries pieces ≡ more ++ entry ∷ rest → IsAt pieces more entry)
        → IsAt (piece ∷ pieces) past entry
    by (inl (post, here)) next = record { front = []; piece = piece; back = pieces; pieces_are = refl; pre = past; post = post; past_is = refl; piece_is = here }
    by (inr (more, before, there)) next =
        let later = next more there in
        record {
          front = piece ∷ later.front;
          piece = later.piece;
          back = later.back;
          pieces_are = ap (λ (l : List Piece). piece ∷ l) later.pieces_are;
          pre = later.pre;
          post = later.post;
          past_is = before ∙ (ap (λ (l : List Entry). piece_entries piece ++ l) later.past_is ∙ sym (append_assoc (piece_entries piece) (flat_map piece_entries later.front) later.pre));
          piece_is = later.piece_is;
        }

-- a setting of a node stands in a change of a device of the node
pub record InChange (devices : List State) (pieces : List Piece) (past : List Entry) (node : ℕ) (how : By) : Type 0 where
  pub change : Change
  pub by : change.by ≡ how
  pub of : IsChangeOf devices node change
  pub front : List Piece
  pub back : List Piece
  pub pieces_are : pieces ≡ front ++ Whole node change ∷ back
  pub pre : List Entry
  pub so : AllByRecursion (IsMadeSo node how) pre
  pub past_is : past ≡ flat_map piece_entries front ++ pre

not-loose : (one : Entry) (pre : List Entry) (node : ℕ) (how : By) (setting : Setting) (post : List Entry) → (one ∷ []) ≡ pre ++ Dev node how setting ∷ post → IsNoChange one → ⊥
not-loose one [] node how setting post is none = let same : one ≡ Dev node how setting = cc in subst IsNoChange same none
not-loose one (first ∷ []) node how setting post is none = absurd cc
not-loose one (first ∷ next ∷ pre) node how setting post is none = absurd cc

pub in-change : (devices : List State) (pieces : List Piece) (past : List Entry) (node : ℕ) (how : By) (setting : Setting) (rest : List Entry) → AllByRecursion (IsPiece devices) pieces
    → flat_map piece_entries pieces ≡ past ++ Dev node how setting ∷ rest → InChange devices pieces past node how
in-change devices pieces past node how setting rest all is =
    let at = is-at pieces past (Dev node how setting) rest is in
    by at.piece at.front at.back at.pre at.post at.pieces_are at.past_is at.piece_is
    (all-right (IsPiece devices) at.front (at.piece ∷ at.back) (subst (λ (l : List Piece). AllByRecursion (IsPiece devices) l) at.pieces_are all)).0
  where
    by : (piece : Piece) (front back : List Piece) (pre post : List Entry) → pieces ≡ front ++ piece ∷ back → past ≡ flat_map piece_entries front ++ pre → piece_entries piece ≡ pre ++ Dev node how setting ∷ post
        → IsPiece devices piece → InChange devices pieces past node how
    by (Loose one) front back pre post are past_is piece_is none = absurd (not-loose one pre node how setting post piece_is none)
    by (Whole at change) front back pre post are past_is piece_is of =
        let made_so = subst (λ (l : List Entry). AllByRecursion (IsMadeSo at change.by) l) piece_is (all-made-so at change.by change.settings) in
        let here = (all-right (IsMadeSo at change.by) pre (Dev node how setting ∷ post) made_so).0 in
        let entry_is : Dev node how setting ≡ Dev at change.by here.setting = here.is in
        let same : at ≡ node = cc in
        let alike : change.by ≡ how = cc in
        record {
          change = change;
          by = alike;
          of = subst (λ (n : ℕ). IsChangeOf devices n change) same of;
          front = front;
          back = back;
          pieces_are = subst (λ (n : ℕ). pieces ≡ front ++ Whole n change ∷ back) same are;
          pre = pre;
          so = subst (λ (h : By). AllByRecursion (IsMadeSo node h) pre) alike
              (subst (λ (n : ℕ). AllByRecursion (IsMadeSo n change.by) pre) same (all-left (IsMadeSo at change.by) pre (Dev node how setting ∷ post) made_so));
          past_is = past_is;
        }

-- ---- the device of a node

pub found-of : (devices : List State) (device : State) → AreApart devices → Has devices device → device_of device.node devices ≡ Some device
found-of [] device apart has = absurd has
found-of (first ∷ devices) device apart (inl same) =
    ap (λ (b : Bool). cond b (Some first) (device_of device.node devices)) (eq-eqb first.node device.node (ap (λ (d : State). d.node) same)) ∙ ap Some same
found-of (first ∷ devices) device apart (inr has) =
    let other = all_has (λ (d : State). d.node ≡ first.node → ⊥) devices device apart.0 has in
    ap (λ (b : Bool). cond b (Some first) (device_of device.node devices)) (ne_eqb first.node device.node (λ same. other (sym same))) ∙ found-of devices device apart.1 has

pub record HasDevice (devices : List State) (node : ℕ) : Type 0 where
  pub device : State
  pub found : device_of node devices ≡ Some device

pub has-device : (devices : List State) (past : List Entry) (node : ℕ) (how : By) (setting : Setting) (rest transcript : List Entry) → AreApart devices → ArePieces devices transcript
    → transcript ≡ past ++ Dev node how setting ∷ rest → HasDevice devices node
has-device devices past node how setting rest transcript apart whole is =
    let one = in-change devices whole.pieces past node how setting rest whole.all (sym whole.are ∙ is) in
    record { device = one.of.device; found = subst (λ (n : ℕ). device_of n devices ≡ Some one.of.device) one.of.of_node (found-of devices one.of.device apart one.of.among) }

-- ---- the turn of a setting

last-maker : (node session : ℕ) (before : List Entry) (first : Entry) (rest : List Entry) → AllByRecursion (IsMadeSo node (Session session)) (first ∷ rest)
    → maker_last (before ++ first ∷ rest) ≡ Some (record { node = node; session = session })
last-maker node session before first [] all = maker-one node session before first ∙ ap maker_at all.0.is
last-maker node session before first (next ∷ rest) all =
    ap maker_last (sym (append_assoc before (first ∷ []) (next ∷ rest))) ∙ last-maker node session (before ++ (first ∷ [])) next rest all.1

none-left : (xs ys zs : List Setting) → xs ++ (ys ++ zs) ≡ ys → xs ≡ []
none-left [] ys zs is = refl
none-left (x ∷ xs) ys zs is =
    let long : length ((x ∷ xs) ++ (ys ++ zs)) ≡ length ys = ap length is in
    let one = length-append (x ∷ xs) (ys ++ zs) in
    let two = length-append ys zs in
    absurd (omega (arith, long, one, two))

has-by : (session : ℕ) (all : List Made) → Has (flat_map session_of all) session → all_by session all ≡ [] → ⊥
has-by session [] has none = has
has-by session (one ∷ all) has none = by one.by has none (has-by session all)
  where
    by : (how : By) → Has (by_session how ++ flat_map session_of all) session → cond (is_by session how) (one.setting ∷ []) [] ++ all_by session all ≡ [] → (Has (flat_map session_of all) session → all_by session all ≡ [] → ⊥) → ⊥
    by (Session other) has none later = here (eqb other session) refl has none
      where
        here : (b : Bool) → eqb other session ≡ b → (other ≡ session) ⊎ Has (flat_map session_of all) session → cond b (one.setting ∷ []) [] ++ all_by session all ≡ [] → ⊥
        here true same has none = cc
        here false apart (inl is) none = let never : true ≡ false = sym (eq-eqb other session is) ∙ apart in cc
        here false apart (inr there) none = later there none
    by Local has none later = later has none
    by Plain has none later = later has none

falls-left : (xs : List ℕ) (y : ℕ) (ys : List ℕ) → NeverFalls (xs ++ y ∷ ys) → AllByRecursion (λ x. x ≤ y) xs
falls-left [] y ys never = tt
falls-left (x ∷ xs) y ys never = ((all-right (λ later. x ≤ later) xs (y ∷ ys) never.0).0, falls-left xs y ys never.1)

applied-then : (node : ℕ) (past more : List Entry) → applied node (past ++ more) ≡ applied node past ++ applied node more
applied-then node past more = ap (flat_map session_of) (shown-append (made_at node) past more) ∙ flat_map-append session_of (made node past) (made node more)

module _ (devices : List State) (transcript : List Entry) (whole : ArePieces devices transcript) (node session : ℕ)
    (device : State) (journal : made node transcript ≡ flat_map made_by device.journal) (rises : Rises (sessions_by device.journal)) (falls : NeverFalls (applied node transcript))
    (its : (change : Change) → IsChangeOf devices node change → Has device.journal change) where
  -- the change begins here
  begins-turn : (past : List Entry) (setting : Setting) (rest : List Entry) (change : Change) (front back : List Piece) → transcript ≡ past ++ Dev node (Session session) setting ∷ rest
      → whole.pieces ≡ front ++ Whole node change ∷ back → past ≡ flat_map piece_entries front → change.by ≡ Session session → Has device.journal change → AllByRecursion (λ other. other < session) (applied node past)
  begins-turn past setting rest change front back is pieces_are past_is by made_it =
      all-both (λ other. other ≤ session) (λ other. other ≡ session → ⊥) (λ other. other < session) (λ other low apart. omega (arith, low, apart)) (applied node past) below
      (all_of (λ other. other ≡ session → ⊥) (applied node past) (λ other has same. has-by session (made node past) (subst (λ (n : ℕ). Has (applied node past) n) same has) none))
    where
      entries_are : transcript ≡ past ++ (change_entries node (Some change) ++ flat_map piece_entries back)
      entries_are =
          whole.are
          ∙ (ap (flat_map piece_entries) pieces_are
          ∙ (flat_map-append piece_entries front (Whole node change ∷ back) ∙ ap (λ (l : List Entry). l ++ (change_entries node (Some change) ++ flat_map piece_entries back)) (sym past_is)))

      here : all_by session (made node (change_entries node (Some change))) ≡ change.settings
      here =
          ap (all_by session) (made-whole node change.by change.settings)
          ∙ (all-by-change session change.by change.settings ∙ ap (λ (b : Bool). cond b change.settings []) (of_by change.by by))
        where
          of_by : (how : By) → how ≡ Session session → is_by session how ≡ true
          of_by how same = ap (is_by session) same ∙ eq-eqb session session refl

      none : all_by session (made node past) ≡ []
      none =
          none-left (all_by session (made node past)) change.settings (all_by session (made node (flat_map piece_entries back)))
          (ap (λ (l : List Setting). all_by session (made node past) ++ (l ++ all_by session (made node (flat_map piece_entries back)))) (sym here)
          ∙ (ap (λ (l : List Setting). all_by session (made node past) ++ l) (sym (both (change_entries node (Some change)) (flat_map piece_entries back)))
          ∙ (sym (both past (change_entries node (Some change) ++ flat_map piece_entries back))
          ∙ (ap (λ (l : List Entry). all_by session (made node l)) (sym entries_are) ∙ (ap (all_by session) journal ∙ all-by-its device.journal session change rises made_it by)))))
        where
          both : (a b : List Entry) → all_by session (made node (a ++ b)) ≡ all_by session (made node a) ++ all_by session (made node b)
          both a b = ap (all_by session) (shown-append (made_at node) a b) ∙ flat_map-append _ (made node a) (made node b)

      below : AllByRecursion (λ other. other ≤ session) (applied node past)
      below =
          let entry : Entry = Dev node (Session session) setting in
          let shown : applied node transcript ≡ applied node past ++ session ∷ applied node rest =
          ap (applied node) is
          ∙ (applied-then node past (entry ∷ rest)
          ∙ ap (λ (l : List ℕ). applied node past ++ l) (applied-then node (entry ∷ []) rest ∙ ap (λ (l : List ℕ). l ++ applied node rest) (one_applied (eqb node node) (eq-eqb node node refl)))) in
          falls-left (applied node past) session (applied node rest) (subst NeverFalls shown falls)
        where
          one_applied : (b : Bool) → b ≡ true → flat_map session_of (cond b (record { by = Session session; setting = setting } ∷ []) [] ++ []) ≡ session ∷ []
          one_applied b same = ap (λ (c : Bool). flat_map session_of (cond c (record { by = Session session; setting = setting } ∷ []) [] ++ [])) same

  pub in-turn : (past : List Entry) (setting : Setting) (rest : List Entry) → transcript ≡ past ++ Dev node (Session session) setting ∷ rest → IsInTurn past node session
  in-turn past setting rest is =
      let one = in-change devices whole.pieces past node (Session session) setting rest whole.all (sym whole.are ∙ is) in
      by one.pre one.front one.so one.past_is one.change one.back one.pieces_are one.by (its one.change one.of)
    where
      by : (pre : List Entry) (front : List Piece) → AllByRecursion (IsMadeSo node (Session session)) pre → past ≡ flat_map piece_entries front ++ pre → (change : Change) (back : List Piece)
          → whole.pieces ≡ front ++ Whole node change ∷ back → change.by ≡ Session session → Has device.journal change → IsInTurn past node session
      by [] front so past_is change back pieces_are by_it made_it =
          inr (begins-turn past setting rest change front back is pieces_are (past_is ∙ append-nil (flat_map piece_entries front)) by_it made_it)
      by (first ∷ pre) front so past_is change back pieces_are by_it made_it = inl (ap maker_last past_is ∙ last-maker node session (flat_map piece_entries front) first pre so)
