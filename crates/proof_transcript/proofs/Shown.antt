-- What a transcript shows once a line was said, and what its events enter: the lines that were done, the nodes that joined and the values heard since the last restart.
use Rattle.std.proofs.Common.{◌≡◌, ◌⊎◌, ℕ, ◌+◌, ◌&&◌, not, Bool, true, false, if◌then◌else◌, List, [], ◌∷◌, ◌++◌, None, inl, inr, refl, sym, ap, ap₂, ◌∙◌, append_assoc, append-nil, true≢false}
use Rattle.std.specs.List.{flat_map}
use Rattle.std.proofs.lemmas.Grind.{flat_map-append}
use Rattle.zw_base.specs.declared.property.Property.{Property}
use Rattle.zw_base.specs.declared.property.Setting.{Setting}
use Rattle.zw_text.specs.declared.line.Line.{Line}
use Rattle.zw_text.specs.declared.entry.Entry.{Entry}
use Rattle.zw_text.specs.declared.entry.Entry.TheVariants.{Said, Refused}
use Rattle.zw_text.specs.Transcript.{Doing, doing_lines, doing_step, folded, join_of, joined, line_of, lines_done, lines_run, reported, reported_at}
use Rattle.zw_text.proofs.Views.{folded-append, shown-append}
use Rattle.law_host.specs.law_transcript.Restarts.{begins_refused, is_restart, since_restart, since_restart_from}
use Rattle.law_host.specs.law_transcript.Stores.{heard_value, last_value}
use Rattle.proof_transcript.proofs.Outer.{IsPlain, ArePlain}
use Rattle.proof_transcript.proofs.TicksBegun.{last_append}

-- ---- ticks that lines ask for

module _ (refusals reports : Bool) where
  -- ---- entries that say no line

  one_says_none : (entry : Entry) → IsPlain refusals reports entry → line_of entry ≡ []
  one_says_none (Said words) plain = absurd plain
  one_says_none entry plain = refl

  says_none : (es : List Entry) → ArePlain refusals reports es → lines_run es ≡ []
  says_none [] plain = refl
  says_none (entry ∷ es) plain = ap₂ (λ (a b : List Line). a ++ b) (one_says_none entry plain.0) (says_none es plain.1)

  pub lines_more : (past : List Entry) (words : List ℕ) (es : List Entry) → ArePlain refusals reports es → lines_run (past ++ Said words ∷ es) ≡ lines_run past ++ line_of (Said words)
  lines_more past words es plain =
      shown-append line_of past (Said words ∷ es)
      ∙ ap (λ (l : List Line). lines_run past ++ l) (ap (λ (l : List Line). line_of (Said words) ++ l) (says_none es plain) ∙ append-nil (line_of (Said words)))

  -- ---- lines that were done

  abbrev doing : List Line → List Line → Doing
  doing earlier last = record { earlier = earlier; last = last }

  -- such an entry refuses the line before it, or leaves it done
  abbrev Refuses_or : List Entry → List Line → List Line → Entry → Type 0
  Refuses_or rest earlier last entry =
      ((begins_refused (entry ∷ rest) ≡ true) × (doing_step (doing earlier last) entry ≡ doing earlier []))
      ⊎ ((begins_refused (entry ∷ rest) ≡ false) × (doing_step (doing earlier last) entry ≡ doing (earlier ++ last) []))

  refuses_or : (rest : List Entry) (earlier last : List Line) (entry : Entry) → IsPlain refusals reports entry → Refuses_or rest earlier last entry
  refuses_or rest earlier last (Said words) plain = absurd plain
  refuses_or rest earlier last (Refused refusal) plain = inl (refl, refl)
  refuses_or rest earlier last entry plain = inr (refl, refl)

  settled : (earlier : List Line) (es : List Entry) → ArePlain refusals reports es → doing_lines (folded doing_step (doing earlier []) es) ≡ earlier
  settled earlier [] plain = append-nil earlier
  settled earlier (entry ∷ es) plain = elim (refuses_or es earlier [] entry plain.0) [
    | inl is ↦ ap (λ (d : Doing). doing_lines (folded doing_step d es)) is.1 ∙ settled earlier es plain.1
    | inr is ↦
        ap (λ (d : Doing). doing_lines (folded doing_step d es)) is.1
        ∙ (ap (λ (l : List Line). doing_lines (folded doing_step (doing l []) es)) (append-nil earlier) ∙ settled earlier es plain.1)
  ]

  following : (earlier last : List Line) (es : List Entry) → ArePlain refusals reports es → doing_lines (folded doing_step (doing earlier last) es) ≡ (if begins_refused es then earlier else earlier ++ last)
  following earlier last [] plain = refl
  following earlier last (entry ∷ es) plain = elim (refuses_or es earlier last entry plain.0) [
    | inl is ↦
        ap (λ (d : Doing). doing_lines (folded doing_step d es)) is.1
        ∙ (settled earlier es plain.1 ∙ sym (ap (λ (b : Bool). if b then earlier else earlier ++ last) is.0))
    | inr is ↦
        ap (λ (d : Doing). doing_lines (folded doing_step d es)) is.1
        ∙ (settled (earlier ++ last) es plain.1 ∙ sym (ap (λ (b : Bool). if b then earlier else earlier ++ last) is.0))
  ]

  done_more : (past : List Entry) (words : List ℕ) (es : List Entry) → ArePlain refusals reports es
      → lines_done (past ++ Said words ∷ es) ≡ (if begins_refused es then lines_done past else lines_done past ++ line_of (Said words))
  done_more past words es plain =
      ap doing_lines (folded-append doing_step (doing [] []) past (Said words ∷ es))
      ∙ following (lines_done past) (line_of (Said words)) es plain

  -- ---- nodes that joined

  -- a line that lets no node join, or that was refused
  pub joined_same : (past : List Entry) (words : List ℕ) (line : Line) (es : List Entry) → line_of (Said words) ≡ line ∷ [] → ArePlain refusals reports es
      → (join_of line ≡ []) ⊎ (begins_refused es ≡ true) → joined (past ++ Said words ∷ es) ≡ joined past
  joined_same past words line es read plain (inr refused) =
      ap (λ (l : List Line). 2 ∷ flat_map join_of l) (done_more past words es plain ∙ ap (λ (b : Bool). if b then lines_done past else lines_done past ++ line_of (Said words)) refused)
  joined_same past words line es read plain (inl none) =
      ap (λ (l : List Line). 2 ∷ flat_map join_of l) (done_more past words es plain ∙ ap (λ (l : List Line). if begins_refused es then lines_done past else lines_done past ++ l) read)
      ∙ ap (λ (l : List ℕ). 2 ∷ l) (by (begins_refused es))
    where
      by : (b : Bool) → flat_map join_of (if b then lines_done past else lines_done past ++ line ∷ []) ≡ flat_map join_of (lines_done past)
      by true = refl
      by false =
          flat_map-append join_of (lines_done past) (line ∷ [])
          ∙ (ap (λ (l : List ℕ). flat_map join_of (lines_done past) ++ (l ++ [])) none ∙ append-nil (flat_map join_of (lines_done past)))

  -- a line that was done
  pub joined_more : (past : List Entry) (words : List ℕ) (line : Line) (es : List Entry) → line_of (Said words) ≡ line ∷ [] → ArePlain refusals reports es
      → begins_refused es ≡ false → joined (past ++ Said words ∷ es) ≡ joined past ++ join_of line
  joined_more past words line es read plain done =
      ap (λ (l : List Line). 2 ∷ flat_map join_of l)
      (done_more past words es plain
      ∙ (ap (λ (l : List Line). if begins_refused es then lines_done past else lines_done past ++ l) read
      ∙ ap (λ (b : Bool). if b then lines_done past else lines_done past ++ line ∷ []) done))
      ∙ ap (λ (l : List ℕ). 2 ∷ l)
      (flat_map-append join_of (lines_done past) (line ∷ []) ∙ ap (λ (l : List ℕ). flat_map join_of (lines_done past) ++ l) (append-nil (join_of line)))

  -- ---- what was entered since the last restart

  since_more : (past es : List Entry) → ArePlain refusals reports es → since_restart_from past es ≡ past ++ es
  since_more past [] plain = sym (append-nil past)
  since_more past (entry ∷ es) plain =
      ap (λ (l : List Line). since_restart_from (if is_restart l && not (begins_refused es) then [] else past ++ entry ∷ []) es) (one_says_none entry plain.0)
      ∙ (since_more (past ++ entry ∷ []) es plain.1 ∙ append_assoc past (entry ∷ []) es)

  first_refused : (entry : Entry) (a b : List Entry) → begins_refused (entry ∷ a) ≡ begins_refused (entry ∷ b)
  first_refused (Refused refusal) a b = refl
  first_refused entry a b = refl

  prefix_refused : (a rest : List Entry) → begins_refused rest ≡ false → begins_refused (a ++ rest) ≡ begins_refused a
  prefix_refused [] rest none = none
  prefix_refused (entry ∷ a) rest none = first_refused entry (a ++ rest) a

  since_split : (past a rest : List Entry) → begins_refused rest ≡ false → since_restart_from past (a ++ rest) ≡ since_restart_from (since_restart_from past a) rest
  since_split past [] rest none = refl
  since_split past (entry ∷ a) rest none =
      ap (λ (b : Bool). since_restart_from (if is_restart (line_of entry) && not b then [] else past ++ entry ∷ []) (a ++ rest)) (prefix_refused a rest none)
      ∙ since_split (if is_restart (line_of entry) && not (begins_refused a) then [] else past ++ entry ∷ []) a rest none

  since_said : (past : List Entry) (words : List ℕ) (es : List Entry) → ArePlain refusals reports es
      → since_restart (past ++ Said words ∷ es) ≡ (if is_restart (line_of (Said words)) && not (begins_refused es) then [] else since_restart past ++ Said words ∷ []) ++ es
  since_said past words es plain =
      since_split [] past (Said words ∷ es) refl
      ∙ since_more (if is_restart (line_of (Said words)) && not (begins_refused es) then [] else since_restart past ++ Said words ∷ []) es plain

  -- no host started again
  pub heard_more : (past : List Entry) (words : List ℕ) (es : List Entry) (node : ℕ) (p : Property) → ArePlain refusals reports es
      → is_restart (line_of (Said words)) && not (begins_refused es) ≡ false → heard_value (past ++ Said words ∷ es) node p ≡ last_value (heard_value past node p) (reported node es) p
  heard_more past words es node p plain none =
      let since = since_restart past in
      ap (λ (l : List Entry). last_value None (reported node l) p)
      (since_said past words es plain ∙ ap (λ (b : Bool). (if b then [] else since ++ Said words ∷ []) ++ es) none)
      ∙ (ap (λ (l : List Setting). last_value None l p)
      (shown-append (reported_at node) (since ++ Said words ∷ []) es
      ∙ ap (λ (l : List Setting). l ++ reported node es) (shown-append (reported_at node) since (Said words ∷ []) ∙ append-nil (reported node since)))
      ∙ last_append None (reported node since) (reported node es) p)

  -- one did
  pub heard_again : (past : List Entry) (words : List ℕ) (es : List Entry) (node : ℕ) (p : Property) → ArePlain refusals reports es
      → is_restart (line_of (Said words)) && not (begins_refused es) ≡ true → heard_value (past ++ Said words ∷ es) node p ≡ last_value None (reported node es) p
  heard_again past words es node p plain again =
      let since = since_restart past in
      ap (λ (l : List Entry). last_value None (reported node l) p)
      (since_said past words es plain ∙ ap (λ (b : Bool). (if b then [] else since ++ Said words ∷ []) ++ es) again)

-- what refuses no line
pub unrefused : (reports : Bool) (es : List Entry) → ArePlain false reports es → begins_refused es ≡ false
unrefused reports [] plain = refl
unrefused reports (Refused refusal ∷ es) plain = absurd (true≢false (sym plain.0))
unrefused reports (entry ∷ es) plain = refl
