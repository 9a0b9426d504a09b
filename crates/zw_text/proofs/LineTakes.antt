-- What is read as a line is that line's words.
use Rattle.std.proofs.Common.{◌≡◌, ℕ, Ok, List, [], ◌∷◌, decimal, ap, refl, ◌∙◌, subst}
use Rattle.zw_base.specs.declared.order.What.{What}
use Rattle.zw_base.specs.declared.order.What.TheVariants.{Value, Mode, Setpoint, Config, Bulk, Associate, Dissociate, Interval, Comfort}
use Rattle.zw_base.specs.declared.order.Word.{Word}
use Rattle.zw_base.specs.declared.order.Word.TheVariants.{On, Off, Level}
use Rattle.zw_words.specs.declared.forms.Target.{Target}
use Rattle.zw_words.specs.Fields.{ends, last, next}
use Rattle.zw_words.specs.Forms.{between_in, hex_in, node_in, side_in, target_in, value_in}
use Rattle.zw_words.specs.Texts.{side_word, target_word, value_word}
use Rattle.zw_text.specs.declared.line.Line.{Line}
use Rattle.zw_text.specs.declared.line.Line.TheVariants.{Command, Tick, Cut, Stall, Drop, Garble, Collide, Send, Get, Join, Interview, Lose, LoseAck, Repeat, Wake, Cancel, Link, Unlink, Discover, Neighbours, Failed, Probe, Local, Show, Store, Restart}
use Rattle.zw_text.specs.declared.word.LineWord.{LineWord}
use Rattle.zw_text.specs.declared.word.LineWord.TheVariants.{Set as WSet, Mode as WMode, Setpoint as WSetpoint, Comfort as WComfort, Config as WConfig, Bulk as WBulk, Assoc as WAssoc, Unassoc as WUnassoc, Interval as WInterval, Tick as WTick, Cut as WCut, Stall as WStall, Drop as WDrop, Garble as WGarble, Collide as WCollide, Send as WSend, Get as WGet, Join as WJoin, Interview as WInterview, Lose as WLose, LoseAck as WLoseAck, Repeat as WRepeat, Wake as WWake, Cancel as WCancel, Link as WLink, Unlink as WUnlink, Discover as WDiscover, Neighbours as WNeighbours, Failed as WFailed, Probe as WProbe, Local as WLocal, Show as WShow, Store as WStore, Restart as WRestart}
use Rattle.zw_words.proofs.Choices.{bind_ok, made_of}
use Rattle.zw_words.proofs.FieldLaws.{ends_takes}
use Rattle.zw_words.proofs.FormLaws.{IsLevel}
use Rattle.zw_text.specs.Line.{EndStands, IsValue, LineWords, WhatWords, first_word, line_by, order_line, what_word}
use Rattle.zw_text.proofs.Fields.{NumberThen, last_hex, last_number, last_side, last_target, last_value, next_number, next_side, next_target}

-- the line begins with the word, and its other words are these
pub record IsRow (word : LineWord) (ws : List (List ℕ)) (line : Line) : Type 0 where
  pub first : first_word line ≡ word
  pub stands : LineWords line ws

-- a level is a value
is_value : (value : Word) → IsLevel value → IsValue value
is_value On good = tt
is_value Off good = tt
is_value (Level n) good = good

-- an order to the node itself
order_row : (word : LineWord) (ws rest more : List (List ℕ)) (node : ℕ) (what : What) (l : Line) → what_word what ≡ word → EndStands what 0 → NumberThen 2 232 ws rest node → WhatWords what more → rest ≡ more → order_line node what ≡ l → IsRow word ws l
order_row word ws rest more node what l same root n stands e made =
    subst (IsRow word ws) made (record { first = same; stands = (n.range, root, (more, stands, n.words_are ∙ ap (λ (r : List (List ℕ)). decimal node ∷ r) e)) })

pub by_takes : (word : LineWord) (ws : List (List ℕ)) (l : Line) → line_by word ws ≡ Ok l → IsRow word ws l
unfolding line_by
by_takes WSet ws l e =
    let a = bind_ok (next (target_in 2) ws) _ l e in
    let b = made_of (λ word. Command (record { node = a.0.value.node; end = a.0.value.end; what = Value word })) (last value_in a.0.rest) l a.2 in
    let t = next_target 2 ws a.0 a.1 in
    let v = last_value a.0.rest b.0 b.1 in
    subst (IsRow WSet ws) b.2 (record { first = refl; stands = (t.range, t.end, (value_word b.0 ∷ [], (is_value b.0 v.0, refl), t.words_are ∙ ap (λ (r : List (List ℕ)). target_word a.0.value.node a.0.value.end ∷ r) v.1)) })
by_takes WMode ws l e =
    let a = bind_ok (next (node_in 2) ws) _ l e in
    let n = next_number 2 232 ws a.0 a.1 in
    let z = made_of (λ x. order_line a.0.value (Mode x)) (last (between_in 0 255) a.0.rest) l a.2 in
    let zn = last_number 0 255 a.0.rest z.0 z.1 in
    order_row WMode ws a.0.rest (decimal z.0 ∷ []) a.0.value (Mode z.0) l refl refl n (zn.range.1, refl) zn.words_are z.2
by_takes WSetpoint ws l e =
    let a = bind_ok (next (node_in 2) ws) _ l e in
    let n = next_number 2 232 ws a.0 a.1 in
    let b = bind_ok (next (between_in 0 15) a.0.rest) _ l a.2 in
    let bn = next_number 0 15 a.0.rest b.0 b.1 in
    let z = made_of (λ x. order_line a.0.value (Setpoint b.0.value x)) (last (between_in 0 65535) b.0.rest) l b.2 in
    let zn = last_number 0 65535 b.0.rest z.0 z.1 in
    order_row WSetpoint ws a.0.rest (decimal b.0.value ∷ decimal z.0 ∷ []) a.0.value (Setpoint b.0.value z.0) l refl refl n (bn.range.1, zn.range.1, refl) (bn.words_are ∙ ap (λ (r : List (List ℕ)). decimal b.0.value ∷ r) zn.words_are) z.2
by_takes WComfort ws l e =
    let a = bind_ok (next (node_in 2) ws) _ l e in
    let n = next_number 2 232 ws a.0 a.1 in
    let b = bind_ok (next (between_in 0 255) a.0.rest) _ l a.2 in
    let bn = next_number 0 255 a.0.rest b.0 b.1 in
    let c = bind_ok (next (between_in 0 15) b.0.rest) _ l b.2 in
    let cn = next_number 0 15 b.0.rest c.0 c.1 in
    let z = made_of (λ x. order_line a.0.value (Comfort b.0.value c.0.value x)) (last (between_in 0 65535) c.0.rest) l c.2 in
    let zn = last_number 0 65535 c.0.rest z.0 z.1 in
    order_row WComfort ws a.0.rest (decimal b.0.value ∷ decimal c.0.value ∷ decimal z.0 ∷ []) a.0.value (Comfort b.0.value c.0.value z.0) l refl refl n (bn.range.1, cn.range.1, zn.range.1, refl) (bn.words_are ∙ ap (λ (r : List (List ℕ)). decimal b.0.value ∷ r) ((cn.words_are ∙ ap (λ (r : List (List ℕ)). decimal c.0.value ∷ r) zn.words_are))) z.2
by_takes WConfig ws l e =
    let a = bind_ok (next (node_in 2) ws) _ l e in
    let n = next_number 2 232 ws a.0 a.1 in
    let b = bind_ok (next (between_in 0 255) a.0.rest) _ l a.2 in
    let bn = next_number 0 255 a.0.rest b.0 b.1 in
    let z = made_of (λ x. order_line a.0.value (Config b.0.value x)) (last (between_in 0 999999999) b.0.rest) l b.2 in
    let zn = last_number 0 999999999 b.0.rest z.0 z.1 in
    order_row WConfig ws a.0.rest (decimal b.0.value ∷ decimal z.0 ∷ []) a.0.value (Config b.0.value z.0) l refl refl n (bn.range.1, zn.range.1, refl) (bn.words_are ∙ ap (λ (r : List (List ℕ)). decimal b.0.value ∷ r) zn.words_are) z.2
by_takes WBulk ws l e =
    let a = bind_ok (next (node_in 2) ws) _ l e in
    let n = next_number 2 232 ws a.0 a.1 in
    let b = bind_ok (next (between_in 0 255) a.0.rest) _ l a.2 in
    let bn = next_number 0 255 a.0.rest b.0 b.1 in
    let z = made_of (λ x. order_line a.0.value (Bulk b.0.value x)) (last (hex_in 1 512) b.0.rest) l b.2 in
    let zn = last_hex 1 512 b.0.rest z.0 z.1 in
    order_row WBulk ws a.0.rest (decimal b.0.value ∷ zn.hex ∷ []) a.0.value (Bulk b.0.value z.0) l refl refl n (bn.range.1, zn.low, zn.high, (zn.hex, zn.stands, refl)) (bn.words_are ∙ ap (λ (r : List (List ℕ)). decimal b.0.value ∷ r) zn.words_are) z.2
by_takes WAssoc ws l e =
    let a = bind_ok (next (node_in 2) ws) _ l e in
    let n = next_number 2 232 ws a.0 a.1 in
    let b = bind_ok (next (between_in 1 255) a.0.rest) _ l a.2 in
    let bn = next_number 1 255 a.0.rest b.0 b.1 in
    let z = made_of (λ x. order_line a.0.value (Associate b.0.value x)) (last (between_in 1 232) b.0.rest) l b.2 in
    let zn = last_number 1 232 b.0.rest z.0 z.1 in
    order_row WAssoc ws a.0.rest (decimal b.0.value ∷ decimal z.0 ∷ []) a.0.value (Associate b.0.value z.0) l refl refl n (bn.range, zn.range, refl) (bn.words_are ∙ ap (λ (r : List (List ℕ)). decimal b.0.value ∷ r) zn.words_are) z.2
by_takes WUnassoc ws l e =
    let a = bind_ok (next (node_in 2) ws) _ l e in
    let n = next_number 2 232 ws a.0 a.1 in
    let b = bind_ok (next (between_in 1 255) a.0.rest) _ l a.2 in
    let bn = next_number 1 255 a.0.rest b.0 b.1 in
    let z = made_of (λ x. order_line a.0.value (Dissociate b.0.value x)) (last (between_in 1 232) b.0.rest) l b.2 in
    let zn = last_number 1 232 b.0.rest z.0 z.1 in
    order_row WUnassoc ws a.0.rest (decimal b.0.value ∷ decimal z.0 ∷ []) a.0.value (Dissociate b.0.value z.0) l refl refl n (bn.range, zn.range, refl) (bn.words_are ∙ ap (λ (r : List (List ℕ)). decimal b.0.value ∷ r) zn.words_are) z.2
by_takes WInterval ws l e =
    let a = bind_ok (next (node_in 2) ws) _ l e in
    let n = next_number 2 232 ws a.0 a.1 in
    let z = made_of (λ x. order_line a.0.value (Interval x)) (last (between_in 0 999999999) a.0.rest) l a.2 in
    let zn = last_number 0 999999999 a.0.rest z.0 z.1 in
    order_row WInterval ws a.0.rest (decimal z.0 ∷ []) a.0.value (Interval z.0) l refl refl n (zn.range.1, refl) zn.words_are z.2
by_takes WTick ws l e =
    let a = made_of Tick (last (between_in 1 100000) ws) l e in
    let z = last_number 1 100000 ws a.0 a.1 in
    subst (IsRow WTick ws) a.2 (record { first = refl; stands = (z.range, z.words_are) })
by_takes WCut ws l e =
    let a = made_of Cut (last (between_in 0 4096) ws) l e in
    let z = last_number 0 4096 ws a.0 a.1 in
    subst (IsRow WCut ws) a.2 (record { first = refl; stands = (z.range.1, z.words_are) })
by_takes WStall ws l e =
    let a = made_of Stall (last (between_in 1 1000) ws) l e in
    let z = last_number 1 1000 ws a.0 a.1 in
    subst (IsRow WStall ws) a.2 (record { first = refl; stands = (z.range, z.words_are) })
by_takes WDrop ws l e =
    let a = made_of Drop (last side_in ws) l e in
    subst (IsRow WDrop ws) a.2 (record { first = refl; stands = last_side ws a.0 a.1 })
by_takes WGarble ws l e =
    let a = bind_ok (next side_in ws) _ l e in
    let b = bind_ok (next (between_in 0 255) a.0.rest) _ l a.2 in
    let z = made_of (Garble a.0.value b.0.value) (last (between_in 1 255) b.0.rest) l b.2 in
    let bn = next_number 0 255 a.0.rest b.0 b.1 in
    let zn = last_number 1 255 b.0.rest z.0 z.1 in
    subst (IsRow WGarble ws) z.2 (record { first = refl; stands = (bn.range.1, zn.range, next_side ws a.0 a.1 ∙ ap (λ (r : List (List ℕ)). side_word a.0.value ∷ r) (bn.words_are ∙ ap (λ (r : List (List ℕ)). decimal b.0.value ∷ r) zn.words_are)) })
by_takes WCollide ws l e =
    let a = made_of (λ _. Collide) (ends ws) l e in
    subst (IsRow WCollide ws) a.2 (record { first = refl; stands = ends_takes ws a.0 a.1 })
by_takes WSend ws l e =
    let a = bind_ok (next (node_in 1) ws) _ l e in
    let n = next_number 1 232 ws a.0 a.1 in
    let z = made_of (Send a.0.value) (last value_in a.0.rest) l a.2 in
    let v = last_value a.0.rest z.0 z.1 in
    subst (IsRow WSend ws) z.2 (record { first = refl; stands = (n.range, is_value z.0 v.0, n.words_are ∙ ap (λ (r : List (List ℕ)). decimal a.0.value ∷ r) v.1) })
by_takes WGet ws l e =
    let a = made_of (λ (target : Target). Get target.node target.end) (last (target_in 1) ws) l e in
    let t = last_target 1 ws a.0 a.1 in
    subst (IsRow WGet ws) a.2 (record { first = refl; stands = (t.range, t.end, t.words_are) })
by_takes WJoin ws l e =
    let a = made_of Join (last (between_in 1 232) ws) l e in
    let z = last_number 1 232 ws a.0 a.1 in
    subst (IsRow WJoin ws) a.2 (record { first = refl; stands = (z.range, z.words_are) })
by_takes WInterview ws l e =
    let a = made_of Interview (last (between_in 1 232) ws) l e in
    let z = last_number 1 232 ws a.0 a.1 in
    subst (IsRow WInterview ws) a.2 (record { first = refl; stands = (z.range, z.words_are) })
by_takes WLose ws l e =
    let a = made_of Lose (last (between_in 1 1000) ws) l e in
    let z = last_number 1 1000 ws a.0 a.1 in
    subst (IsRow WLose ws) a.2 (record { first = refl; stands = (z.range, z.words_are) })
by_takes WLoseAck ws l e =
    let a = made_of LoseAck (last (between_in 1 1000) ws) l e in
    let z = last_number 1 1000 ws a.0 a.1 in
    subst (IsRow WLoseAck ws) a.2 (record { first = refl; stands = (z.range, z.words_are) })
by_takes WRepeat ws l e =
    let a = made_of Repeat (last (between_in 1 999999999) ws) l e in
    let z = last_number 1 999999999 ws a.0 a.1 in
    subst (IsRow WRepeat ws) a.2 (record { first = refl; stands = (z.range, z.words_are) })
by_takes WWake ws l e =
    let a = made_of Wake (last (between_in 1 232) ws) l e in
    let z = last_number 1 232 ws a.0 a.1 in
    subst (IsRow WWake ws) a.2 (record { first = refl; stands = (z.range, z.words_are) })
by_takes WCancel ws l e =
    let a = made_of Cancel (last (between_in 1 999999999) ws) l e in
    let z = last_number 1 999999999 ws a.0 a.1 in
    subst (IsRow WCancel ws) a.2 (record { first = refl; stands = (z.range, z.words_are) })
by_takes WLink ws l e =
    let a = bind_ok (next (node_in 1) ws) _ l e in
    let n = next_number 1 232 ws a.0 a.1 in
    let z = made_of (Link a.0.value) (last (between_in 1 232) a.0.rest) l a.2 in
    let zn = last_number 1 232 a.0.rest z.0 z.1 in
    subst (IsRow WLink ws) z.2 (record { first = refl; stands = (n.range, zn.range, n.words_are ∙ ap (λ (r : List (List ℕ)). decimal a.0.value ∷ r) zn.words_are) })
by_takes WUnlink ws l e =
    let a = bind_ok (next (node_in 1) ws) _ l e in
    let n = next_number 1 232 ws a.0 a.1 in
    let z = made_of (Unlink a.0.value) (last (between_in 1 232) a.0.rest) l a.2 in
    let zn = last_number 1 232 a.0.rest z.0 z.1 in
    subst (IsRow WUnlink ws) z.2 (record { first = refl; stands = (n.range, zn.range, n.words_are ∙ ap (λ (r : List (List ℕ)). decimal a.0.value ∷ r) zn.words_are) })
by_takes WDiscover ws l e =
    let a = made_of (λ _. Discover) (ends ws) l e in
    subst (IsRow WDiscover ws) a.2 (record { first = refl; stands = ends_takes ws a.0 a.1 })
by_takes WNeighbours ws l e =
    let a = made_of Neighbours (last (between_in 1 232) ws) l e in
    let z = last_number 1 232 ws a.0 a.1 in
    subst (IsRow WNeighbours ws) a.2 (record { first = refl; stands = (z.range, z.words_are) })
by_takes WFailed ws l e =
    let a = made_of Failed (last (between_in 1 232) ws) l e in
    let z = last_number 1 232 ws a.0 a.1 in
    subst (IsRow WFailed ws) a.2 (record { first = refl; stands = (z.range, z.words_are) })
by_takes WProbe ws l e =
    let a = made_of (λ _. Probe) (ends ws) l e in
    subst (IsRow WProbe ws) a.2 (record { first = refl; stands = ends_takes ws a.0 a.1 })
by_takes WLocal ws l e =
    let a = bind_ok (next (node_in 1) ws) _ l e in
    let n = next_number 1 232 ws a.0 a.1 in
    let z = made_of (Local a.0.value) (last (between_in 0 255) a.0.rest) l a.2 in
    let zn = last_number 0 255 a.0.rest z.0 z.1 in
    subst (IsRow WLocal ws) z.2 (record { first = refl; stands = (n.range, zn.range.1, n.words_are ∙ ap (λ (r : List (List ℕ)). decimal a.0.value ∷ r) zn.words_are) })
by_takes WShow ws l e =
    let a = made_of Show (last (between_in 1 232) ws) l e in
    let z = last_number 1 232 ws a.0 a.1 in
    subst (IsRow WShow ws) a.2 (record { first = refl; stands = (z.range, z.words_are) })
by_takes WStore ws l e =
    let a = made_of Store (last (between_in 1 232) ws) l e in
    let z = last_number 1 232 ws a.0 a.1 in
    subst (IsRow WStore ws) a.2 (record { first = refl; stands = (z.range, z.words_are) })
by_takes WRestart ws l e =
    let a = made_of (λ _. Restart) (ends ws) l e in
    subst (IsRow WRestart ws) a.2 (record { first = refl; stands = ends_takes ws a.0 a.1 })
