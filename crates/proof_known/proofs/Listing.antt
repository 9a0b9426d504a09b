-- What a transcript shows a host to know that its nodes list changes where an interview ends well, and nowhere else.
use Rattle.std.proofs.Common.{◌≡◌, ℕ, ◌==◌, ◌||◌, Bool, true, false, if◌then◌else◌, List, [], ◌∷◌, ◌++◌, refl, sym, ap, ap₂, ◌∙◌, append-nil, append_assoc}
use Rattle.std.specs.Prelude.{Option, Some}
use Rattle.std.specs.List.{AllByRecursion, flat_map, list_any}
use Rattle.std.proofs.lemmas.Bool.{eq-eqb, ne_eqb, or_right}
use Rattle.std.proofs.lemmas.List.Folds.{list_any-append}
use Rattle.zw_text.specs.declared.entry.Entry.{Entry}
use Rattle.zw_text.specs.declared.entry.Entry.TheVariants.{Interviewed, InterviewFailed}
use Rattle.zw_text.specs.Transcript.{interview_at, interviews}
use Rattle.zw_text.proofs.Views.{shown-append}
use Rattle.proof_transcript.specs.law_transcript.Lists.{last_or, shown_after}
use Rattle.proof_transcript.specs.law_transcript.Nodes.{is_interviewed, known_at_first, known_classes}
use Rattle.proof_transcript.specs.law_time.Judged.{notices_here}
use Rattle.proof_transcript.specs.law_host.Heard.{classes_at, classes_in, listing_heard}
use Rattle.proof_transcript.proofs.MarkedFrames.{shown_one}
use Rattle.proof_waking.proofs.Listening.{TellsNone}

-- what the host is shown to know of a node
abbrev pub known_heard : List Entry → ℕ → Option (List ℕ)
known_heard past node = known_classes listing_heard past node

-- ---- lists

pub or_none : (a b : Bool) → b ≡ false → a || b ≡ a
or_none true b none = refl
or_none false b none = none

last_end : {A : Type 0} (default : A) (xs : List A) (x : A) → last_or default (xs ++ x ∷ []) ≡ x
last_end default [] x = refl
last_end default (first ∷ xs) x = last_end first xs x

abbrev any_of : List Bool → Bool
any_of l = list_any (λ succeeded. succeeded) l

-- ---- an entry later

-- of a node that it says nothing of
same_by : (past : List Entry) (e : Entry) (node : ℕ) → any_of (interview_at node e) ≡ false → classes_at node past e ≡ [] → known_heard (past ++ e ∷ []) node ≡ known_heard past node
same_by past e node none unlisted =
    let interviewed : is_interviewed (past ++ e ∷ []) node ≡ is_interviewed past node =
    ap any_of (shown-append (interview_at node) past (e ∷ []) ∙ ap (λ (l : List Bool). interviews node past ++ l) (append-nil (interview_at node e)))
    ∙ list_any-append (λ succeeded. succeeded) (interviews node past) (interview_at node e) ∙ or_none (any_of (interviews node past)) (any_of (interview_at node e)) none in
    let listed : listing_heard (past ++ e ∷ []) node ≡ listing_heard past node =
    ap (λ (l : List (List ℕ)). last_or [] l)
    (shown_one (classes_at node) [] past e ∙ ap (λ (l : List (List ℕ)). shown_after (classes_at node) [] past ++ l) unlisted ∙ append-nil (shown_after (classes_at node) [] past)) in
    ap₂ (λ (b : Bool) (l : List ℕ). if b then Some l else known_at_first node) interviewed listed

fails_none : (node : ℕ) (e : Entry) → TellsNone e → any_of (interview_at node e) ≡ false
fails_none node (Interviewed n) none = absurd none
fails_none node (InterviewFailed n) none = by (n == node)
  where
    by : (b : Bool) → any_of (if b then false ∷ [] else []) ≡ false
    by true = refl
    by false = refl
fails_none node e none = refl

lists_none : (node : ℕ) (past : List Entry) (e : Entry) → TellsNone e → classes_at node past e ≡ []
lists_none node past (Interviewed n) none = absurd none
lists_none node past e none = refl

-- entries of others change nothing
pub known_more : (past told : List Entry) (node : ℕ) → AllByRecursion TellsNone told → known_heard (past ++ told) node ≡ known_heard past node
known_more past [] node all = ap (λ (l : List Entry). known_heard l node) (append-nil past)
known_more past (e ∷ told) node all =
    ap (λ (l : List Entry). known_heard l node) (sym (append_assoc past (e ∷ []) told))
    ∙ known_more (past ++ e ∷ []) told node all.1 ∙ same_by past e node (fails_none node e all.0) (lists_none node past e all.0)

-- an interview of another node
pub known_there : (past : List Entry) (n node : ℕ) → (node ≡ n → ⊥) → known_heard (past ++ Interviewed n ∷ []) node ≡ known_heard past node
known_there past n node other =
    let differ : (n == node) ≡ false = ne_eqb n node (λ same. other (sym same)) in
    same_by past (Interviewed n) node (ap (λ (b : Bool). any_of (if b then true ∷ [] else [])) differ)
    (ap (λ (b : Bool). if b then last_or [] (flat_map (classes_in node) (notices_here past)) ∷ [] else []) differ)

-- and of this one, in which these were listed
pub known_here : (past : List Entry) (n : ℕ) (classes : List ℕ) → flat_map (classes_in n) (notices_here past) ≡ classes ∷ [] → known_heard (past ++ Interviewed n ∷ []) n ≡ Some classes
known_here past n classes listed =
    let before : List (List ℕ) = shown_after (classes_at n) [] past in
    let these : List ℕ = last_or [] (flat_map (classes_in n) (notices_here past)) in
    let same : (n == n) ≡ true = eq-eqb n n refl in
    let interviewed : is_interviewed (past ++ Interviewed n ∷ []) n ≡ true =
    ap any_of (shown-append (interview_at n) past (Interviewed n ∷ []))
    ∙ list_any-append (λ succeeded. succeeded) (interviews n past) (interviews n (Interviewed n ∷ []))
    ∙ or_right (any_of (interviews n past)) (any_of (interviews n (Interviewed n ∷ []))) (ap (λ (b : Bool). any_of ((if b then true ∷ [] else []) ++ [])) same) in
    let last : listing_heard (past ++ Interviewed n ∷ []) n ≡ classes =
    ap (λ (l : List (List ℕ)). last_or [] l) (shown_one (classes_at n) [] past (Interviewed n))
    ∙ ap (λ (b : Bool). last_or [] (before ++ (if b then these ∷ [] else []))) same ∙ last_end [] before these ∙ ap (λ (l : List (List ℕ)). last_or [] l) listed in
    ap₂ (λ (b : Bool) (l : List ℕ). if b then Some l else known_at_first n) interviewed last
