-- Each entry is found again from its text, so that no two have the same.
use Rattle.std.proofs.Common.{◌≡◌, ℕ, List, [], ◌∷◌, codes, decimal, arith, ap, ap₂, refl, ◌∙◌, sym}
use Rattle.std.specs.Prelude.{if◌then◌else◌, bytes_eq}
use Rattle.std.specs.List.{AllByRecursion, join_with_byte}
use Rattle.hex.specs.Hex.{encode_upper}
use Rattle.zw_text.specs.Entry.{ends_word}
use Rattle.zw_text.specs.Fits.{IsNode}
use Rattle.zw_parse.specs.Reading.{at, byte_back, eight_back, hex_back, node_back, parts}
use Rattle.zw_parse.proofs.Pieces.{Solid, all-lack, hex-back, hex-solid, number-lacks, number-solid, parts-joined}
use Rattle.zw_parse.proofs.Words.{byte-back, byte64, eight-back, node-back, node64}
use Rattle.event_flow.specs.declared.entry.EventRefusal.{EventRefusal}
use Rattle.event_flow.specs.declared.entry.EventRefusal.TheVariants.{Full, Idle, NeverSent, Stale}
use Rattle.event_flow.specs.declared.entry.EventEntry.{EventEntry}
use Rattle.event_flow.specs.declared.entry.EventEntry.TheVariants.{Refused, Queued, Frame, Taken, Known, Old, TableNode}
use Rattle.event_flow.specs.Entry.{event_text, event_words}
use Rattle.event_flow.specs.Fits.{EventFits}
use Rattle.zw_parse.proofs.Back.{ends-solid}

-- the refusal and the entry that words are taken for
abbrev refusal_back : List (List ℕ) → EventRefusal
refusal_back ws =
    if bytes_eq (at 1 ws) (codes "full") then Full (eight_back (at 2 ws))
    else if bytes_eq (at 1 ws) (codes "idle") then Idle
    else if bytes_eq (at 1 ws) (codes "neversent") then NeverSent
    else Stale (eight_back (at 2 ws))

abbrev entry_back : List (List ℕ) → EventEntry
entry_back ws =
    if bytes_eq (at 0 ws) (codes "queued") then Queued (node_back (at 1 ws)) (eight_back (at 2 ws))
    else if bytes_eq (at 0 ws) (codes "frame") then Frame (eight_back (at 1 ws)) (node_back (at 0 (parts 62 (at 2 ws)))) (node_back (at 1 (parts 62 (at 2 ws)))) (hex_back (at 3 ws))
    else if bytes_eq (at 0 ws) (codes "taken") then Taken (node_back (at 1 ws)) (byte_back (at 2 ws)) (byte_back (at 3 ws))
    else if bytes_eq (at 0 ws) (codes "known") then Known (node_back (at 1 ws)) (eight_back (at 2 ws))
    else if bytes_eq (at 0 ws) (codes "old") then Old (node_back (at 1 ws)) (byte_back (at 2 ws))
    else if bytes_eq (at 0 ws) (codes "node") then TableNode (node_back (at 1 ws)) (eight_back (at 3 ws)) (eight_back (at 5 ws)) (eight_back (at 7 ws))
    else Refused (refusal_back ws)

-- the two ends of a frame come apart
ends-parts : (a b : ℕ) → IsNode a → IsNode b → parts 62 (ends_word a b) ≡ decimal a ∷ decimal b ∷ []
ends-parts a b low high = parts-joined 62 (decimal a) (decimal b ∷ []) (number-lacks 62 a (omega arith) (node64 a low), (number-lacks 62 b (omega arith) (node64 b high), tt))

-- each entry comes from its words
comes : (e : EventEntry) → EventFits e → entry_back (event_words e) ≡ e
comes (Refused (Full unknown)) fits = ap (λ n. Refused (Full n)) (eight-back unknown fits)
comes (Refused Idle) fits = refl
comes (Refused NeverSent) fits = refl
comes (Refused (Stale later)) fits = ap (λ n. Refused (Stale n)) (eight-back later fits)
comes (Queued node number) fits = ap₂ Queued (node-back node fits.0) (eight-back number fits.1)
comes (Frame frame sender receiver payload) fits =
    ap (λ (ps : List (List ℕ)). Frame (eight_back (decimal frame)) (node_back (at 0 ps)) (node_back (at 1 ps)) (hex_back (encode_upper payload))) (ends-parts sender receiver fits.1 fits.2)
    ∙ ap₂ (λ (x y : ℕ). Frame (eight_back (decimal frame)) x y (hex_back (encode_upper payload))) (node-back sender fits.1) (node-back receiver fits.2)
    ∙ ap₂ (λ (n : ℕ) (p : List ℕ). Frame n sender receiver p) (eight-back frame fits.0) (hex-back payload fits.3)
comes (Taken node kind level) fits =
    ap (λ n. Taken n (byte_back (decimal kind)) (byte_back (decimal level))) (node-back node fits.0) ∙ ap₂ (Taken node) (byte-back kind fits.1) (byte-back level fits.2)
comes (Known node number) fits = ap₂ Known (node-back node fits.0) (eight-back number fits.1)
comes (Old node id) fits = ap₂ Old (node-back node fits.0) (byte-back id fits.1)
comes (TableNode node queued taken known) fits =
    ap₂ (λ (n q : ℕ). TableNode n q (eight_back (decimal taken)) (eight_back (decimal known))) (node-back node fits.0) (eight-back queued fits.1)
    ∙ ap₂ (TableNode node queued) (eight-back taken fits.2) (eight-back known fits.3)

-- words that are joined come apart, where none has a blank
apart : (w : List ℕ) (ws : List (List ℕ)) → AllByRecursion Solid (w ∷ ws) → parts 32 (join_with_byte 32 (w ∷ ws)) ≡ w ∷ ws
apart w ws solid = parts-joined 32 w ws (all-lack 32 (omega arith) (w ∷ ws) solid)

-- the words of an entry come apart from its text
words-of : (e : EventEntry) → EventFits e → parts 32 (event_text e) ≡ event_words e
unfolding event_text
words-of (Refused (Full n)) fits = apart _ _ (refl, (refl, (number-solid n fits, tt)))
words-of (Refused Idle) fits = apart _ _ (refl, (refl, tt))
words-of (Refused NeverSent) fits = apart _ _ (refl, (refl, tt))
words-of (Refused (Stale n)) fits = apart _ _ (refl, (refl, (number-solid n fits, tt)))
words-of (Queued node number) fits = apart _ _ (refl, (number-solid node (node64 node fits.0), (number-solid number fits.1, tt)))
words-of (Frame frame sender receiver payload) fits =
    apart _ _ (refl, (number-solid frame fits.0, (ends-solid sender receiver fits.1 fits.2, (hex-solid payload fits.3, tt))))
words-of (Taken node kind level) fits =
    apart _ _ (refl, (number-solid node (node64 node fits.0), (number-solid kind (byte64 kind fits.1), (number-solid level (byte64 level fits.2), tt))))
words-of (Known node number) fits = apart _ _ (refl, (number-solid node (node64 node fits.0), (number-solid number fits.1, tt)))
words-of (Old node id) fits = apart _ _ (refl, (number-solid node (node64 node fits.0), (number-solid id (byte64 id fits.1), tt)))
words-of (TableNode node queued taken known) fits =
    apart _ _ (refl, (number-solid node (node64 node fits.0), (refl, (number-solid queued fits.1, (refl, (number-solid taken fits.2, (refl, (number-solid known fits.3, tt))))))))

pub one-text : (first second : EventEntry) → EventFits first → EventFits second → event_text first ≡ event_text second → first ≡ second
one-text first second a b same =
    sym (comes first a) ∙ ap entry_back (sym (words-of first a)) ∙ ap (λ t. entry_back (parts 32 t)) same ∙ ap entry_back (words-of second b) ∙ comes second b
