-- Answers and texts, one after another.
use Rattle.std.proofs.Common.{◌≡◌, ℕ, ◌+◌, ◌≤◌, ◌<◌, List, [], ◌∷◌, ◌++◌, map, true, All, Ok, length, length-append, take, get_or, take-append-drop, append-nil, ap, sym, ◌∙◌, subst, arith}
use Rattle.std.specs.Prelude.{String, string_bytes}
use Rattle.std.proofs.lemmas.List.{take_more, drop_all, map-append, length-map}
use Rattle.std.proofs.lemmas.List.Elements.{All-push}
use Rattle.std.proofs.Math.ListN.{get_or-map}
use Rattle.host_model.specs.State.{HostState}
use Rattle.port_run.specs.declared.asking.Answer.{Answer}
use Rattle.port_run.specs.declared.line.PortLine.{PortLine}
use Rattle.port_run.specs.Ending.{is_done, AreDone}
use Rattle.port_run.specs.Lines.{texts_of, wanted_at, AreRead}

take_whole : {X : Type 0} (xs : List X) (i : ℕ) → length xs ≤ i → take i xs ≡ xs
take_whole xs i over = sym (append-nil (take i xs)) ∙ ap (λ l. take i xs ++ l) (sym (drop_all i xs over)) ∙ take-append-drop i xs

pub count_more : {X : Type 0} (xs ys : List X) (x : X) (n : ℕ) → ys ≡ xs ++ x ∷ [] → length xs ≡ n → length ys ≡ n + 1
count_more xs ys x n grown count = omega (arith, count, ap length grown, length-append xs (x ∷ []))

pub done_more : (h : HostState) (answers : List Answer) (i : ℕ) (answer : Answer) → i < length answers → AreDone h (take i answers) → is_done h (get_or answers i answer) ≡ true → AreDone h (take (i + 1) answers)
done_more h answers i answer within before done =
    subst (λ (l : List Answer). All (λ (a : Answer). is_done h a ≡ true) l) (sym (take_more answers i answer within))
    (All-push (λ (a : Answer). is_done h a ≡ true) (take i answers) (get_or answers i answer) before done)

pub done_all : (h : HostState) (answers : List Answer) (i : ℕ) → length answers ≤ i → AreDone h (take i answers) → AreDone h answers
done_all h answers i over before = subst (λ (l : List Answer). All (λ (a : Answer). is_done h a ≡ true) l) (take_whole answers i over) before

pub read_more : {A : Type 0} (words : List (String A)) (lines lines' : List PortLine) (i : ℕ) (word : String A) (text : List ℕ) (line : PortLine) → i < length words → word ≡ get_or words i word → text ≡ string_bytes word
    → AreRead (take i (texts_of words)) lines → wanted_at text ≡ Ok line → lines' ≡ lines ++ line ∷ [] → AreRead (take (i + 1) (texts_of words)) lines'
read_more words lines lines' i word text line within at same before is more =
    let texts : List (List ℕ) = texts_of words in
    let here : get_or texts i (string_bytes word) ≡ text = get_or-map (λ w. string_bytes w) words i word ∙ ap (λ w. string_bytes w) (sym at) ∙ sym same in
    let grown : take (i + 1) texts ≡ take i texts ++ text ∷ [] =
    take_more texts i (string_bytes word) (omega (arith, within, length-map words (λ w. string_bytes w))) ∙ ap (λ (t : List ℕ). take i texts ++ t ∷ []) here in
    ap (map wanted_at) grown ∙ map-append wanted_at (take i texts) (text ∷ [])
    ∙ ap (λ l. l ++ wanted_at text ∷ []) before ∙ ap (λ r. map (λ line'. Ok line') lines ++ r ∷ []) is
    ∙ sym (map-append (λ line'. Ok line') lines (line ∷ [])) ∙ ap (map (λ line'. Ok line')) (sym more)

pub read_all : {A : Type 0} (words : List (String A)) (lines : List PortLine) (i : ℕ) → length words ≤ i → AreRead (take i (texts_of words)) lines → AreRead (texts_of words) lines
read_all words lines i over before =
    subst (λ (texts : List (List ℕ)). AreRead texts lines) (take_whole (texts_of words) i (omega (arith, over, length-map words (λ w. string_bytes w)))) before
