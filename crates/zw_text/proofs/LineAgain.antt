-- A line's words are read as that line.
use Rattle.std.proofs.Common.{◌≡◌, ℕ, ◌≤◌, Result, Ok, List, [], ◌∷◌, decimal, arith, ap, refl, ◌∙◌, sym}
use Rattle.zw_base.specs.declared.order.What.{What}
use Rattle.zw_base.specs.declared.order.What.TheVariants.{Value, Mode, Setpoint, Config, Bulk, Associate, Dissociate, Interval, Comfort}
use Rattle.zw_base.specs.declared.order.Word.{Word}
use Rattle.zw_base.specs.declared.order.Word.TheVariants.{On, Off, Level}
use Rattle.zw_words.specs.declared.fault.LineFault.{LineFault}
use Rattle.zw_words.specs.declared.forms.Target.{Target}
use Rattle.zw_words.specs.Fields.{last, make}
use Rattle.zw_words.specs.Texts.{target_word, value_word}
use Rattle.zw_text.specs.declared.line.Line.{Line}
use Rattle.zw_text.specs.declared.line.Line.TheVariants.{Command, Tick, Cut, Stall, Drop, Garble, Collide, Send, Get, Join, Interview, Lose, LoseAck, Repeat, Wake, Cancel, Link, Unlink, Discover, Neighbours, Failed, Probe, Local, Show, Store, Restart}
use Rattle.zw_text.specs.declared.word.LineWord.TheVariants.{Set as WSet, Mode as WMode, Setpoint as WSetpoint, Comfort as WComfort, Config as WConfig, Bulk as WBulk, Assoc as WAssoc, Unassoc as WUnassoc, Interval as WInterval, Tick as WTick, Cut as WCut, Stall as WStall, Drop as WDrop, Garble as WGarble, Send as WSend, Get as WGet, Join as WJoin, Interview as WInterview, Lose as WLose, LoseAck as WLoseAck, Repeat as WRepeat, Wake as WWake, Cancel as WCancel, Link as WLink, Unlink as WUnlink, Neighbours as WNeighbours, Failed as WFailed, Local as WLocal, Show as WShow, Store as WStore}
use Rattle.zw_words.proofs.FieldLaws.{ends_again}
use Rattle.zw_words.proofs.FormLaws.{IsLevel, target_alone}
use Rattle.zw_text.specs.Line.{EndStands, IsIn, IsValue, LineWords, WhatWords, first_word, line_by, order_line, what_word}
use Rattle.zw_text.proofs.Fields.{hex_last, number_last, number_next, side_last, side_next, target_last, target_next, value_last}

is_level : (value : Word) → IsValue value → IsLevel value
is_level On good = tt
is_level Off good = tt
is_level (Level n) good = good

-- from 0 on
from_none : (most n : ℕ) → n ≤ most → IsIn 0 most n
from_none most n high = (omega arith, high)

-- the words of an order to the node itself
root_words : (node end : ℕ) (ws more vs : List (List ℕ)) → end ≡ 0 → ws ≡ target_word node end ∷ more → more ≡ vs → ws ≡ decimal node ∷ vs
root_words node end ws more vs root e f = e ∙ ap (λ (w : List ℕ). w ∷ more) (target_alone node end root) ∙ ap (λ (r : List (List ℕ)). decimal node ∷ r) f

-- an order to the node itself
root_order : (r : Result Line LineFault) (node end : ℕ) (what : What) → end ≡ 0 → r ≡ Ok (order_line node what) → r ≡ Ok (Command (record { node = node; end = end; what = what }))
root_order r node end what root e = e ∙ ap (λ (x : ℕ). Ok (Command (record { node = node; end = x; what = what }))) (sym root)

what_again : (node end : ℕ) (what : What) (ws more : List (List ℕ)) → IsIn 2 232 node → EndStands what end → WhatWords what more → ws ≡ target_word node end ∷ more → line_by (what_word what) ws ≡ Ok (Command (record { node = node; end = end; what = what }))
unfolding line_by
what_again node end (Value word) ws more range last stands e =
    ap (line_by WSet) (e ∙ ap (λ (r : List (List ℕ)). target_word node end ∷ r) stands.1) ∙ rw (target_next 2 node end (value_word word ∷ []) range last, value_last word (is_level word stands.0)) refl
what_again node end (Mode mode) ws more range root stands e =
    root_order (line_by WMode ws) node end (Mode mode) root
    (ap (line_by WMode) (root_words node end ws more (decimal mode ∷ []) root e stands.1) ∙ rw (number_next 2 232 node (decimal mode ∷ []) range (omega arith), number_last 0 255 mode (from_none 255 mode stands.0) (omega arith)) refl)
what_again node end (Setpoint kind tenths) ws more range root stands e =
    root_order (line_by WSetpoint ws) node end (Setpoint kind tenths) root
    (ap (line_by WSetpoint) (root_words node end ws more (decimal kind ∷ decimal tenths ∷ []) root e stands.2) ∙ rw (number_next 2 232 node (decimal kind ∷ decimal tenths ∷ []) range (omega arith), number_next 0 15 kind (decimal tenths ∷ []) (from_none 15 kind stands.0) (omega arith), number_last 0 65535 tenths (from_none 65535 tenths stands.1) (omega arith)) refl)
what_again node end (Config parameter value) ws more range root stands e =
    root_order (line_by WConfig ws) node end (Config parameter value) root
    (ap (line_by WConfig) (root_words node end ws more (decimal parameter ∷ decimal value ∷ []) root e stands.2) ∙ rw (number_next 2 232 node (decimal parameter ∷ decimal value ∷ []) range (omega arith), number_next 0 255 parameter (decimal value ∷ []) (from_none 255 parameter stands.0) (omega arith), number_last 0 999999999 value (from_none 999999999 value stands.1) (omega arith)) refl)
what_again node end (Bulk offset values) ws more range root stands e =
    let hex = stands.3.0 in
    root_order (line_by WBulk ws) node end (Bulk offset values) root
    (ap (line_by WBulk) (root_words node end ws more (decimal offset ∷ hex ∷ []) root e stands.3.2) ∙ rw (number_next 2 232 node (decimal offset ∷ hex ∷ []) range (omega arith), number_next 0 255 offset (hex ∷ []) (from_none 255 offset stands.0) (omega arith), hex_last 1 512 hex values stands.3.1 stands.1 stands.2) refl)
what_again node end (Associate group member) ws more range root stands e =
    root_order (line_by WAssoc ws) node end (Associate group member) root
    (ap (line_by WAssoc) (root_words node end ws more (decimal group ∷ decimal member ∷ []) root e stands.2) ∙ rw (number_next 2 232 node (decimal group ∷ decimal member ∷ []) range (omega arith), number_next 1 255 group (decimal member ∷ []) stands.0 (omega arith), number_last 1 232 member stands.1 (omega arith)) refl)
what_again node end (Dissociate group member) ws more range root stands e =
    root_order (line_by WUnassoc ws) node end (Dissociate group member) root
    (ap (line_by WUnassoc) (root_words node end ws more (decimal group ∷ decimal member ∷ []) root e stands.2) ∙ rw (number_next 2 232 node (decimal group ∷ decimal member ∷ []) range (omega arith), number_next 1 255 group (decimal member ∷ []) stands.0 (omega arith), number_last 1 232 member stands.1 (omega arith)) refl)
what_again node end (Interval seconds) ws more range root stands e =
    root_order (line_by WInterval ws) node end (Interval seconds) root
    (ap (line_by WInterval) (root_words node end ws more (decimal seconds ∷ []) root e stands.1) ∙ rw (number_next 2 232 node (decimal seconds ∷ []) range (omega arith), number_last 0 999999999 seconds (from_none 999999999 seconds stands.0) (omega arith)) refl)
what_again node end (Comfort mode kind tenths) ws more range root stands e =
    root_order (line_by WComfort ws) node end (Comfort mode kind tenths) root
    (ap (line_by WComfort) (root_words node end ws more (decimal mode ∷ decimal kind ∷ decimal tenths ∷ []) root e stands.3) ∙ rw (number_next 2 232 node (decimal mode ∷ decimal kind ∷ decimal tenths ∷ []) range (omega arith), number_next 0 255 mode (decimal kind ∷ decimal tenths ∷ []) (from_none 255 mode stands.0) (omega arith), number_next 0 15 kind (decimal tenths ∷ []) (from_none 15 kind stands.1) (omega arith), number_last 0 65535 tenths (from_none 65535 tenths stands.2) (omega arith)) refl)

pub by_again : (l : Line) (ws : List (List ℕ)) → LineWords l ws → line_by (first_word l) ws ≡ Ok l
unfolding line_by
by_again (Command order) ws s = what_again order.node order.end order.what ws s.2.0 s.0 s.1 s.2.1 s.2.2
by_again (Tick n) ws s = ap (line_by WTick) s.1 ∙ ap (make Tick) (number_last 1 100000 n s.0 (omega arith))
by_again (Cut n) ws s = ap (line_by WCut) s.1 ∙ ap (make Cut) (number_last 0 4096 n (from_none 4096 n s.0) (omega arith))
by_again (Stall n) ws s = ap (line_by WStall) s.1 ∙ ap (make Stall) (number_last 1 1000 n s.0 (omega arith))
by_again (Drop side) ws s = ap (line_by WDrop) s ∙ ap (make Drop) (side_last side)
by_again (Garble side place mask) ws s = ap (line_by WGarble) s.2 ∙ rw (side_next side (decimal place ∷ decimal mask ∷ []), number_next 0 255 place (decimal mask ∷ []) (from_none 255 place s.0) (omega arith), number_last 1 255 mask s.1 (omega arith)) refl
by_again Collide ws s = ap (make (λ _. Collide)) (ends_again ws s)
by_again (Send node word) ws s = ap (line_by WSend) s.2 ∙ rw (number_next 1 232 node (value_word word ∷ []) s.0 (omega arith), value_last word (is_level word s.1)) refl
by_again (Get node end) ws s = ap (line_by WGet) s.2 ∙ ap (make (λ (target : Target). Get target.node target.end)) (target_last 1 node end s.0 s.1)
by_again (Join n) ws s = ap (line_by WJoin) s.1 ∙ ap (make Join) (number_last 1 232 n s.0 (omega arith))
by_again (Interview n) ws s = ap (line_by WInterview) s.1 ∙ ap (make Interview) (number_last 1 232 n s.0 (omega arith))
by_again (Lose n) ws s = ap (line_by WLose) s.1 ∙ ap (make Lose) (number_last 1 1000 n s.0 (omega arith))
by_again (LoseAck n) ws s = ap (line_by WLoseAck) s.1 ∙ ap (make LoseAck) (number_last 1 1000 n s.0 (omega arith))
by_again (Repeat n) ws s = ap (line_by WRepeat) s.1 ∙ ap (make Repeat) (number_last 1 999999999 n s.0 (omega arith))
by_again (Wake n) ws s = ap (line_by WWake) s.1 ∙ ap (make Wake) (number_last 1 232 n s.0 (omega arith))
by_again (Cancel n) ws s = ap (line_by WCancel) s.1 ∙ ap (make Cancel) (number_last 1 999999999 n s.0 (omega arith))
by_again (Link a b) ws s = ap (line_by WLink) s.2 ∙ rw (number_next 1 232 a (decimal b ∷ []) s.0 (omega arith), number_last 1 232 b s.1 (omega arith)) refl
by_again (Unlink a b) ws s = ap (line_by WUnlink) s.2 ∙ rw (number_next 1 232 a (decimal b ∷ []) s.0 (omega arith), number_last 1 232 b s.1 (omega arith)) refl
by_again Discover ws s = ap (make (λ _. Discover)) (ends_again ws s)
by_again (Neighbours n) ws s = ap (line_by WNeighbours) s.1 ∙ ap (make Neighbours) (number_last 1 232 n s.0 (omega arith))
by_again (Failed n) ws s = ap (line_by WFailed) s.1 ∙ ap (make Failed) (number_last 1 232 n s.0 (omega arith))
by_again Probe ws s = ap (make (λ _. Probe)) (ends_again ws s)
by_again (Local a b) ws s = ap (line_by WLocal) s.2 ∙ rw (number_next 1 232 a (decimal b ∷ []) s.0 (omega arith), number_last 0 255 b (from_none 255 b s.1) (omega arith)) refl
by_again (Show n) ws s = ap (line_by WShow) s.1 ∙ ap (make Show) (number_last 1 232 n s.0 (omega arith))
by_again (Store n) ws s = ap (line_by WStore) s.1 ∙ ap (make Store) (number_last 1 232 n s.0 (omega arith))
by_again Restart ws s = ap (make (λ _. Restart)) (ends_again ws s)
