-- Events of the chip, one for each number of a range of which something is true.
use Rattle.std.proofs.Common.{◌≡◌, ℕ, ◌+◌, Bool, true, false, cond, List, [], ◌∷◌, ◌++◌, refl, ap, sym, ◌∙◌, append_assoc, arith, add-one}
use Rattle.std.specs.Prelude.{filter, map, ◌&&◌}
use Rattle.std.specs.List.{range_with_len, flat_map}
use Rattle.std.proofs.lemmas.List.{append-nil, map-append}
use Rattle.route_table.specs.Network.{linked}
use Rattle.chip_sim.specs.State.{ChipState, ChipParts}
use Rattle.chip_sim.specs.Events.{ChipEvent, Linked, after}
use Rattle.chip_sim.specs.Did.{after_all}
use Rattle.chip_sim.proofs.EventLists.{after_all-append}
use Rattle.outside_model.specs.State.{OuterState, with_chip}
use Rattle.outside_model.specs.Nodes.{is_known, links_of, pairs_of, all_pairs, discovers}
use Rattle.outside_step.proofs.Parts.{chip_is}
use Rattle.chip_functions.proofs.MaskLemmas.{longer}
use Rattle.chip_sim.proofs.Masks.{next_out as more_out}

more_in : (p : ℕ → Bool) (k n : ℕ) → n ≡ k + 1 → p n ≡ true → filter p (range_with_len 1 (k + 1)) ≡ filter p (range_with_len 1 k) ++ n ∷ []
more_in p k n e is_one =
    ap (λ (j : ℕ). filter p (range_with_len 1 j)) (add-one k)
    ∙ (longer p k 1 n (omega arith) ∙ ap (λ (b : Bool). filter p (range_with_len 1 k) ++ cond b (n ∷ []) []) is_one)

-- one event for the next number
pub event_more : (p : ℕ → Bool) (f : ℕ → ChipEvent) (s : ChipState) (k n : ℕ) → n ≡ k + 1 → p n ≡ true
    → after_all s (map f (filter p (range_with_len 1 (k + 1)))) ≡ after (after_all s (map f (filter p (range_with_len 1 k)))) (f n)
event_more p f s k n e is_one =
    ap (λ (l : List ℕ). after_all s (map f l)) (more_in p k n e is_one)
    ∙ (ap (λ (l : List ChipEvent). after_all s l) (map-append f (filter p (range_with_len 1 k)) (n ∷ []))
    ∙ after_all-append s (map f (filter p (range_with_len 1 k))) (f n ∷ []))

flat_map-append : (f : ℕ → List ChipEvent) (xs ys : List ℕ) → flat_map f (xs ++ ys) ≡ flat_map f xs ++ flat_map f ys
flat_map-append f [] ys = refl
flat_map-append f (x ∷ xs) ys = ap (λ (l : List ChipEvent). f x ++ l) (flat_map-append f xs ys) ∙ sym (append_assoc (f x) (flat_map f xs) (flat_map f ys))

-- events for the next number
pub events_more : (p : ℕ → Bool) (f : ℕ → List ChipEvent) (s : ChipState) (k n : ℕ) → n ≡ k + 1 → p n ≡ true
    → after_all s (flat_map f (filter p (range_with_len 1 (k + 1)))) ≡ after_all (after_all s (flat_map f (filter p (range_with_len 1 k)))) (f n)
events_more p f s k n e is_one =
    ap (λ (l : List ℕ). after_all s (flat_map f l)) (more_in p k n e is_one)
    ∙ (ap (λ (l : List ChipEvent). after_all s l) (flat_map-append f (filter p (range_with_len 1 k)) (n ∷ []))
    ∙ (after_all-append s (flat_map f (filter p (range_with_len 1 k))) (flat_map f (n ∷ []))
    ∙ ap (λ (l : List ChipEvent). after_all (after_all s (flat_map f (filter p (range_with_len 1 k)))) l) (append-nil (f n))))

abbrev pub pairs_to : OuterState → ℕ → ℕ → List ChipEvent
pairs_to o node k = map (λ other. Linked node other (linked o.air.network node other)) (filter (λ other. is_known o.air other) (range_with_len 1 k))

abbrev pub nodes_to : OuterState → ℕ → List ChipEvent
nodes_to o k = flat_map (λ node. pairs_of o.air node) (filter (λ node. is_known o.air node) (range_with_len 1 k))

-- the chip learned of the next node below
pub pair_more : (o x q : OuterState) (moved : ChipParts) (node k n : ℕ) (known live : Bool) → q ≡ x → x ≡ with_chip o (after_all o.chip.state (pairs_to o node k)) → n ≡ k + 1
    → known ≡ is_known x.air n → known ≡ true → live ≡ linked q.air.network node n → moved.decoder ≡ q.chip.decoder → moved.state ≡ after q.chip.state (Linked node n live)
    → record q { chip = moved } ≡ with_chip o (after_all o.chip.state (pairs_to o node (k + 1)))
pair_more o x q moved node k n known live same inv e asked found lives decoder state =
    let is : q ≡ with_chip o (after_all o.chip.state (pairs_to o node k)) = same ∙ inv in
    let here : is_known o.air n ≡ true = sym (ap (λ (p : OuterState). is_known p.air n) inv) ∙ (sym asked ∙ found) in
    let live_is : live ≡ linked o.air.network node n = lives ∙ ap (λ (p : OuterState). linked p.air.network node n) is in
    chip_is q moved (after q.chip.state (Linked node n live)) decoder state
    ∙ (ap (λ (p : OuterState). with_chip p (after p.chip.state (Linked node n live))) is
    ∙ (ap (λ (b : Bool). with_chip o (after (after_all o.chip.state (pairs_to o node k)) (Linked node n b))) live_is
    ∙ ap (λ (s : ChipState). with_chip o s) (sym (event_more (λ other. is_known o.air other) (λ other. Linked node other (linked o.air.network node other)) o.chip.state k n e here))))

-- or that is not known
pub pair_none : (o x : OuterState) (node k n : ℕ) (known : Bool) → x ≡ with_chip o (after_all o.chip.state (pairs_to o node k)) → n ≡ k + 1 → known ≡ is_known x.air n → known ≡ false
    → x ≡ with_chip o (after_all o.chip.state (pairs_to o node (k + 1)))
pair_none o x node k n known inv e asked absent =
    let here : is_known o.air n ≡ false = sym (ap (λ (p : OuterState). is_known p.air n) inv) ∙ (sym asked ∙ absent) in
    inv ∙ ap (λ (l : List ℕ). with_chip o (after_all o.chip.state (map (λ other. Linked node other (linked o.air.network node other)) l))) (sym (more_out (λ other. is_known o.air other) k n e here))

-- the live links of a node to the nodes up to a number
abbrev pub links_to : OuterState → ℕ → ℕ → List ChipEvent
links_to o node k = map (λ other. Linked node other true) (filter (λ other. is_known o.air other && linked o.air.network node other) (range_with_len 1 k))

pub link_more : (o x q : OuterState) (moved : ChipParts) (node k n : ℕ) (heard : Bool) → q ≡ x → x ≡ with_chip o (after_all o.chip.state (links_to o node k)) → n ≡ k + 1
    → heard ≡ (is_known x.air n && linked x.air.network node n) → heard ≡ true → moved.decoder ≡ q.chip.decoder → moved.state ≡ after q.chip.state (Linked node n true)
    → record q { chip = moved } ≡ with_chip o (after_all o.chip.state (links_to o node (k + 1)))
link_more o x q moved node k n heard same inv e asked found decoder state =
    let is : q ≡ with_chip o (after_all o.chip.state (links_to o node k)) = same ∙ inv in
    let here : (is_known o.air n && linked o.air.network node n) ≡ true = sym (ap (λ (p : OuterState). is_known p.air n && linked p.air.network node n) inv) ∙ (sym asked ∙ found) in
    chip_is q moved (after q.chip.state (Linked node n true)) decoder state
    ∙ (ap (λ (p : OuterState). with_chip p (after p.chip.state (Linked node n true))) is
    ∙ ap (λ (s : ChipState). with_chip o s) (sym (event_more (λ other. is_known o.air other && linked o.air.network node other) (λ other. Linked node other true) o.chip.state k n e here)))

pub link_none : (o x : OuterState) (node k n : ℕ) (heard : Bool) → x ≡ with_chip o (after_all o.chip.state (links_to o node k)) → n ≡ k + 1
    → heard ≡ (is_known x.air n && linked x.air.network node n) → heard ≡ false → x ≡ with_chip o (after_all o.chip.state (links_to o node (k + 1)))
link_none o x node k n heard inv e asked absent =
    let here : (is_known o.air n && linked o.air.network node n) ≡ false = sym (ap (λ (p : OuterState). is_known p.air n && linked p.air.network node n) inv) ∙ (sym asked ∙ absent) in
    inv ∙ ap (λ (l : List ℕ). with_chip o (after_all o.chip.state (map (λ other. Linked node other true) l))) (sym (more_out (λ other. is_known o.air other && linked o.air.network node other) k n e here))

pub links_all : (o new : OuterState) (node k : ℕ) → k ≡ 232 → new ≡ with_chip o (after_all o.chip.state (links_to o node k)) → new ≡ with_chip o (after_all o.chip.state (links_of o.air node))
links_all o new node k e inv = inv ∙ ap (λ n. with_chip o (after_all o.chip.state (links_to o node n))) e

-- the same over all nodes
pub node_more : (o x new : OuterState) (k n : ℕ) (known : Bool) → x ≡ with_chip o (after_all o.chip.state (nodes_to o k)) → n ≡ k + 1 → known ≡ is_known x.air n → known ≡ true
    → new ≡ with_chip x (after_all x.chip.state (pairs_of x.air n)) → new ≡ with_chip o (after_all o.chip.state (nodes_to o (k + 1)))
node_more o x new k n known inv e asked found learned =
    let here : is_known o.air n ≡ true = sym (ap (λ (p : OuterState). is_known p.air n) inv) ∙ (sym asked ∙ found) in
    learned
    ∙ (ap (λ (p : OuterState). with_chip p (after_all p.chip.state (pairs_of p.air n))) inv
    ∙ ap (λ (s : ChipState). with_chip o s) (sym (events_more (λ node. is_known o.air node) (λ node. pairs_of o.air node) o.chip.state k n e here)))

pub node_none : (o x : OuterState) (k n : ℕ) (known : Bool) → x ≡ with_chip o (after_all o.chip.state (nodes_to o k)) → n ≡ k + 1 → known ≡ is_known x.air n → known ≡ false
    → x ≡ with_chip o (after_all o.chip.state (nodes_to o (k + 1)))
node_none o x k n known inv e asked absent =
    let here : is_known o.air n ≡ false = sym (ap (λ (p : OuterState). is_known p.air n) inv) ∙ (sym asked ∙ absent) in
    inv ∙ ap (λ (l : List ℕ). with_chip o (after_all o.chip.state (flat_map (λ node. pairs_of o.air node) l))) (sym (more_out (λ node. is_known o.air node) k n e here))

pub nodes_all : (o new : OuterState) (k : ℕ) → k ≡ 232 → new ≡ with_chip o (after_all o.chip.state (nodes_to o k)) → new ≡ discovers o
unfolding all_pairs
nodes_all o new k e inv = inv ∙ ap (λ n. with_chip o (after_all o.chip.state (nodes_to o n))) e
