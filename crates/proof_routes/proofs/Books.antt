-- How what a transcript shows of networks grows, one entry at a time: the live links of the air, the links of the chip's table and the joined nodes. A line counts until a refusal
-- stands after it, so an entry grows these where it is no refusal, or where no `join` stands last.
use Rattle.std.proofs.Common.{◌≡◌, ◌⊎◌, ℕ, ◌==◌, ◌||◌, Bool, true, false, List, [], ◌∷◌, ◌++◌, refl, sym, ap, ap₂, ◌∙◌, inl, inr, append_assoc, append-nil}
use Rattle.std.proofs.lemmas.Grind.{flat_map-append}
use Rattle.std.proofs.lemmas.List.Folds.{list_any-append}
use Rattle.std.specs.List.{list_any}
use Rattle.route_table.specs.Network.{Link}
use Rattle.zw_text.specs.declared.line.Line.{Line}
use Rattle.zw_text.specs.declared.line.Line.TheVariants as lines
use Rattle.zw_text.specs.declared.entry.Entry.{Entry}
use Rattle.zw_text.specs.declared.entry.Entry.TheVariants as entry
use Rattle.zw_text.specs.declared.entry.Refusal.{Refusal}
use Rattle.zw_text.specs.Transcript.{line_of, line_after, lines_run, folded, Doing, doing_lines, doing_step, join_of, joined}
use Rattle.zw_text.proofs.Views.{folded-append, shown-append}
use Rattle.law_wire.specs.law_transcript.Nodes.{controller, is_joined}
use Rattle.law_wire.specs.law_transcript.Restarts.{begins_refused}
use Rattle.law_wire.specs.Networks.{first_links, with_link, links_after, air_links, learned_of, learned, table_by, table_step, table_after, chip_links}
use Rattle.proof_walk.proofs.ByLine.{last_is}
use Rattle.proof_routes.specs.Knowing.{joins_in, NoJoin}

-- the next entry refuses no `join`
abbrev pub Keeps : List Entry → Entry → Type 0
Keeps past e = (begins_refused (e ∷ []) ≡ false) ⊎ NoJoin past

-- ---- the air

links_both : (links : List Link) (a b : List Line) → links_after links (a ++ b) ≡ links_after (links_after links a) b
links_both links [] b = refl
links_both links (lines.Link x y ∷ a) b = links_both (with_link links x y true) a b
links_both links (lines.Unlink x y ∷ a) b = links_both (with_link links x y false) a b
links_both links (line ∷ a) b = links_both links a b

pub air_grows : (past : List Entry) (e : Entry) → air_links (past ++ e ∷ []) ≡ links_after (air_links past) (line_of e)
air_grows past e =
    ap (λ (l : List Line). links_after first_links l) (shown-append line_of past (e ∷ []))
    ∙ (links_both first_links (lines_run past) (line_of e ++ []) ∙ ap (λ (l : List Line). links_after (air_links past) l) (append-nil (line_of e)))

-- ---- joined nodes

abbrev doing_after : List Entry → Doing
doing_after past = folded doing_step (record { earlier = []; last = [] }) past

last_step : (doing : Doing) (e : Entry) → (doing_step doing e).last ≡ line_of e
last_step doing (entry.Refused refusal) = refl
last_step doing e = refl

last_done : (doing : Doing) (past : List Entry) → (folded doing_step doing past).last ≡ folded line_after doing.last past
last_done doing [] = refl
last_done doing (e ∷ past) = last_done (doing_step doing e) past ∙ ap (λ (l : List Line). folded line_after l past) (last_step doing e)

-- a line more, where the last one is not refused
done_step : (doing : Doing) (e : Entry) → (begins_refused (e ∷ []) ≡ false) ⊎ (joins_in doing.last ≡ []) → joins_in (doing_lines (doing_step doing e)) ≡ joins_in (doing_lines doing) ++ joins_in (line_of e)
done_step doing (entry.Refused refusal) (inl none) = let bad : true ≡ false = none in absurd cc
done_step doing (entry.Refused refusal) (inr none) =
    ap joins_in (append-nil doing.earlier)
    ∙ sym (append-nil (joins_in (doing_lines doing)) ∙ (flat_map-append join_of doing.earlier doing.last ∙ (ap (λ (l : List ℕ). joins_in doing.earlier ++ l) none ∙ append-nil (joins_in doing.earlier))))
done_step doing e keeps = flat_map-append join_of (doing_lines doing) (line_of e)

keeps_done : (past : List Entry) (e : Entry) → Keeps past e → (begins_refused (e ∷ []) ≡ false) ⊎ (joins_in (doing_after past).last ≡ [])
keeps_done past e (inl none) = inl none
keeps_done past e (inr none) = inr (ap joins_in (last_done (record { earlier = []; last = [] }) past) ∙ none)

pub joined_grows : (past : List Entry) (e : Entry) → Keeps past e → joined (past ++ e ∷ []) ≡ joined past ++ joins_in (line_of e)
joined_grows past e keeps =
    ap (λ (d : Doing). 2 ∷ joins_in (doing_lines d)) (folded-append doing_step (record { earlier = []; last = [] }) past (e ∷ []))
    ∙ ap (λ (l : List ℕ). 2 ∷ l) (done_step (doing_after past) e (keeps_done past e keeps))

-- ---- the chip's table

either_by : (past : List Entry) (refused : Bool) (table : List Link) (said : List Line) → joins_in said ≡ [] → table_by past refused table said ≡ table_by past false table said
either_by past refused table [] none = refl
either_by past refused table (lines.Join node ∷ more) none = let bad : node ∷ joins_in more ≡ [] = none in absurd cc
either_by past refused table (lines.Discover ∷ more) none = refl
either_by past refused table (line ∷ more) none = refl

-- a line that lets no node join does the same where it is refused
either_way : (past : List Entry) (refused : Bool) (table : List Link) (e : Entry) → joins_in (line_of e) ≡ [] → table_step past refused table e ≡ table_step past false table e
either_way past refused table (entry.Said words) none = either_by past refused table (line_of (entry.Said words)) none
either_way past refused table (entry.Forget a b) none = refl
either_way past refused table e none = refl

undecided : (past : List Entry) (table : List Link) (x e : Entry) → (begins_refused (e ∷ []) ≡ false) ⊎ (joins_in (line_of x) ≡ []) → table_step past (begins_refused (e ∷ [])) table x ≡ table_step past false table x
undecided past table x e (inl none) = ap (λ (b : Bool). table_step past b table x) none
undecided past table x e (inr none) = either_way past (begins_refused (e ∷ [])) table x none

first_refused : (e : Entry) (a b : List Entry) → begins_refused (e ∷ a) ≡ begins_refused (e ∷ b)
first_refused (entry.Refused refusal) a b = refl
first_refused e a b = refl

after_grows : (table : List Link) (past xs : List Entry) (e : Entry) → Keeps xs e → table_after table past (xs ++ e ∷ []) ≡ table_step (past ++ xs) false (table_after table past xs) e
after_grows table past [] e keeps = ap (λ (l : List Entry). table_step l false table e) (sym (append-nil past))
after_grows table past (x ∷ []) e keeps = ap (λ (t : List Link). table_step (past ++ x ∷ []) false t e) (undecided past table x e keeps)
after_grows table past (x ∷ y ∷ xs) e keeps =
    ap (λ (b : Bool). table_after (table_step past b table x) (past ++ x ∷ []) (y ∷ (xs ++ e ∷ []))) (first_refused y (xs ++ e ∷ []) xs)
    ∙ (after_grows (table_step past (begins_refused (y ∷ xs)) table x) (past ++ x ∷ []) (y ∷ xs) e keeps
    ∙ ap (λ (l : List Entry). table_step l false (table_after table past (x ∷ y ∷ xs)) e) (append_assoc past (x ∷ []) (y ∷ xs)))

pub chip_grows : (past : List Entry) (e : Entry) → Keeps past e → chip_links (past ++ e ∷ []) ≡ table_step past false (chip_links past) e
chip_grows past e keeps = after_grows first_links [] past e keeps

-- ---- a `join` that is refused

same_begins : (xs : List Entry) (words : List ℕ) (refusal : Refusal) → begins_refused ((xs ++ entry.Said words ∷ []) ++ entry.Refused refusal ∷ []) ≡ begins_refused xs
same_begins [] words refusal = refl
same_begins (x ∷ xs) words refusal = first_refused x ((xs ++ entry.Said words ∷ []) ++ entry.Refused refusal ∷ []) xs

refused_after : (table : List Link) (past xs : List Entry) (words : List ℕ) (node : ℕ) (refusal : Refusal) → line_of (entry.Said words) ≡ lines.Join node ∷ []
    → table_after table past ((xs ++ entry.Said words ∷ []) ++ entry.Refused refusal ∷ []) ≡ table_after table past xs
refused_after table past [] words node refusal read = ap (λ (l : List Line). table_by past true table l) read
refused_after table past (x ∷ xs) words node refusal read =
    ap (λ (b : Bool). table_after (table_step past b table x) (past ++ x ∷ []) ((xs ++ entry.Said words ∷ []) ++ entry.Refused refusal ∷ [])) (same_begins xs words refusal)
    ∙ refused_after (table_step past (begins_refused xs) table x) (past ++ x ∷ []) xs words node refusal read

-- ---- two transcripts that show the same

pub record SameShown (one other : List Entry) : Type 0 where
  pub air : air_links one ≡ air_links other
  pub chip : chip_links one ≡ chip_links other
  pub nodes : joined one ≡ joined other

pub same_shown : (one other : List Entry) → one ≡ other → SameShown one other
same_shown one other is = record { air = ap air_links is; chip = ap chip_links is; nodes = ap joined is }

pub same_then : (a b c : List Entry) → SameShown a b → SameShown b c → SameShown a c
same_then a b c first later = record { air = first.air ∙ later.air; chip = first.chip ∙ later.chip; nodes = first.nodes ∙ later.nodes }

pub same_back : (a b : List Entry) → SameShown a b → SameShown b a
same_back a b same = record { air = sym same.air; chip = sym same.chip; nodes = sym same.nodes }

pub same_joined : (one other : List Entry) → SameShown one other → (node : ℕ) → is_joined one node ≡ is_joined other node
same_joined one other same node = ap (λ (l : List ℕ). list_any (λ one. one == node) l) same.nodes

pub refused_shown : (past : List Entry) (words : List ℕ) (node : ℕ) (refusal : Refusal) → line_of (entry.Said words) ≡ lines.Join node ∷ []
    → SameShown ((past ++ entry.Said words ∷ []) ++ entry.Refused refusal ∷ []) past
refused_shown past words node refusal read = record {
  air = air_grows (past ++ entry.Said words ∷ []) (entry.Refused refusal) ∙ (air_grows past (entry.Said words) ∙ ap (λ (l : List Line). links_after (air_links past) l) read);
  chip = refused_after first_links [] past words node refusal read;
  nodes =
      ap (λ (d : Doing). 2 ∷ joins_in (doing_lines d))
      (folded-append doing_step (record { earlier = []; last = [] }) (past ++ entry.Said words ∷ []) (entry.Refused refusal ∷ [])
      ∙ ap (λ (d : Doing). doing_step d (entry.Refused refusal)) (folded-append doing_step (record { earlier = []; last = [] }) past (entry.Said words ∷ [])))
      ∙ ap (λ (l : List Line). 2 ∷ joins_in l) (append-nil (doing_lines (doing_after past)));
}

-- ---- entries that show nothing of networks

-- neither a line, nor a link that is forgotten
abbrev pub IsStill : Entry → Type 0
IsStill (entry.Said words) = ⊥
IsStill (entry.Forget a b) = ⊥
IsStill _ = Unit {0}

pub still_line : (e : Entry) → IsStill e → line_of e ≡ []
still_line (entry.Said words) still = absurd still
still_line e still = refl

still_step : (past : List Entry) (table : List Link) (e : Entry) → IsStill e → table_step past false table e ≡ table
still_step past table (entry.Said words) still = absurd still
still_step past table (entry.Forget a b) still = absurd still
still_step past table e still = refl

pub still_shown : (past : List Entry) (e : Entry) → IsStill e → Keeps past e → SameShown (past ++ e ∷ []) past
still_shown past e still keeps = record {
  air = air_grows past e ∙ ap (λ (l : List Line). links_after (air_links past) l) (still_line e still);
  chip = chip_grows past e keeps ∙ still_step past (chip_links past) e still;
  nodes = joined_grows past e keeps ∙ (ap (λ (l : List Line). joined past ++ joins_in l) (still_line e still) ∙ append-nil (joined past));
}

-- after any entry but a line's words no `join` stands last
pub still_last : (past : List Entry) (e : Entry) → line_of e ≡ [] → NoJoin (past ++ e ∷ [])
still_last past e none = ap joins_in (last_is past e ∙ none)

-- the same entry shows the same after two such transcripts
step_by : (one other : List Entry) → SameShown one other → (table : List Link) (said : List Line) → table_by one false table said ≡ table_by other false table said
step_by one other same table [] = refl
step_by one other same table (lines.Join node ∷ more) = ap₂ (λ (a : List Link) (l : List ℕ). learned_of a node (controller ∷ l) table) same.air same.nodes
step_by one other same table (lines.Discover ∷ more) = ap₂ (λ (a : List Link) (l : List ℕ). learned a (controller ∷ l) table) same.air same.nodes
step_by one other same table (line ∷ more) = refl

step_same : (one other : List Entry) → SameShown one other → (table : List Link) (e : Entry) → table_step one false table e ≡ table_step other false table e
step_same one other same table (entry.Said words) = step_by one other same table (line_of (entry.Said words))
step_same one other same table (entry.Forget a b) = refl
step_same one other same table e = refl

pub same_grows : (one other : List Entry) (e : Entry) → SameShown one other → Keeps one e → Keeps other e → SameShown (one ++ e ∷ []) (other ++ e ∷ [])
same_grows one other e same keeps also = record {
  air = air_grows one e ∙ (ap (λ (l : List Link). links_after l (line_of e)) same.air ∙ sym (air_grows other e));
  chip = chip_grows one e keeps
      ∙ (step_same one other same (chip_links one) e ∙ (ap (λ (t : List Link). table_step other false t e) same.chip ∙ sym (chip_grows other e also)));
  nodes = joined_grows one e keeps ∙ (ap (λ (l : List ℕ). l ++ joins_in (line_of e)) same.nodes ∙ sym (joined_grows other e also));
}

-- ---- one node more

pub more_joined : (past : List Entry) (e : Entry) (node : ℕ) → Keeps past e → line_of e ≡ lines.Join node ∷ [] → (other : ℕ) → is_joined (past ++ e ∷ []) other ≡ (is_joined past other || (node == other))
more_joined past e node keeps read other =
    ap (λ (l : List ℕ). list_any (λ one. one == other) l) (joined_grows past e keeps ∙ ap (λ (l : List Line). joined past ++ joins_in l) read)
    ∙ (list_any-append (λ one. one == other) (joined past) (node ∷ []) ∙ ap (λ (b : Bool). is_joined past other || b) (only (node == other)))
  where
    only : (b : Bool) → b || false ≡ b
    only true = refl
    only false = refl
