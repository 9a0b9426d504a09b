-- The parts of a message that was laid out, and the layout of a message from its parts.
use Rattle.std.proofs.Common.{◌≡◌, ℕ, ◌+◌, ◌-◌, ◌<◌, ◌≤◌, List, [], ◌∷◌, ◌++◌, length, take, drop, slice_index, get_or, refl, ap, sym, ◌∙◌, arith, append_assoc, length-append}
use Rattle.std.proofs.lemmas.List.{take_at, drop_at, take-append-drop, drop-drop, drop_more}
use Rattle.std.proofs.lemmas.List.FromFn.{fill_by_all}
use Rattle.s0_crypto.specs.Opening.{sender_nonce_in, cipher_text_in, code_in}
use Rattle.aes_block.proofs.Tables.{joined}

pub length_of_layout : (nonce text code : List ℕ) (named : ℕ) {bytes : List ℕ} → length nonce ≡ 8 → length code ≡ 8
    → bytes ≡ 0x98 ∷ 0x81 ∷ (nonce ++ (text ++ named ∷ code)) → length bytes ≡ length text + 19
length_of_layout nonce text code named n c e = ap length e ∙ simp length-append (omega arith)

pub nonce_of_layout : (nonce text code : List ℕ) (named : ℕ) {bytes : List ℕ} → length nonce ≡ 8
    → bytes ≡ 0x98 ∷ 0x81 ∷ (nonce ++ (text ++ named ∷ code)) → sender_nonce_in bytes ≡ nonce
nonce_of_layout nonce text code named n e = ap sender_nonce_in e ∙ take_at nonce (text ++ named ∷ code) 8 n

pub text_of_layout : (nonce text code : List ℕ) (named : ℕ) (bytes : List ℕ) → length nonce ≡ 8 → length code ≡ 8
    → bytes ≡ 0x98 ∷ 0x81 ∷ (nonce ++ (text ++ named ∷ code)) → cipher_text_in bytes ≡ text
text_of_layout nonce text code named bytes n c e =
    let size = length_of_layout nonce text code named n c e in
    let cut : length bytes - 9 - 10 ≡ length text = omega arith in
    ap (λ k. take k (drop 10 bytes)) cut ∙ ap (λ l. take (length text) (drop 10 l)) e
    ∙ ap (take (length text)) (drop_at nonce (text ++ named ∷ code) 8 n) ∙ take_at text (named ∷ code) (length text) refl

pub code_of_layout : (nonce text code : List ℕ) (named : ℕ) (bytes : List ℕ) → length nonce ≡ 8 → length code ≡ 8
    → bytes ≡ 0x98 ∷ 0x81 ∷ (nonce ++ (text ++ named ∷ code)) → code_in bytes ≡ code
code_of_layout nonce text code named bytes n c e =
    let size = length_of_layout nonce text code named n c e in
    let regroup : (nonce ++ (text ++ named ∷ [])) ++ code ≡ nonce ++ (text ++ named ∷ code) = simp append_assoc in
    let prefix : length (0x98 ∷ 0x81 ∷ (nonce ++ (text ++ named ∷ []))) ≡ length bytes - 8 = simp length-append (omega arith) in
    ap (drop (length bytes - 8)) (e ∙ ap (λ l. 0x98 ∷ 0x81 ∷ l) (sym regroup)) ∙ drop_at (0x98 ∷ 0x81 ∷ (nonce ++ (text ++ named ∷ []))) code (length bytes - 8) prefix

-- from the parts
pub layout_of_parts : (bytes : List ℕ) (named : ℕ) → 20 ≤ length bytes → take 2 bytes ≡ 0x98 ∷ 0x81 ∷ []
    → slice_index bytes (length bytes - 9) ≡ named
    → bytes ≡ 0x98 ∷ 0x81 ∷ (sender_nonce_in bytes ++ (cipher_text_in bytes ++ named ∷ code_in bytes))
layout_of_parts bytes named long header name =
    let n : ℕ = length bytes - 9 - 10 in
    let past : 10 + (length bytes - 9 - 10) ≡ length bytes - 9 = omega arith in
    let within : length bytes - 9 < length bytes = omega arith in
    let next : length bytes - 9 + 1 ≡ length bytes - 8 = omega arith in
    let tail : drop (length bytes - 9) bytes ≡ named ∷ code_in bytes
    = drop_more bytes (length bytes - 9) 0 within ∙ ap (λ y. y ∷ drop (length bytes - 9 + 1) bytes) name ∙ ap (λ k. named ∷ drop k bytes) next in
    let text : drop 10 bytes ≡ cipher_text_in bytes ++ named ∷ code_in bytes
    = sym (take-append-drop (length bytes - 9 - 10) (drop 10 bytes))
    ∙ ap (λ l. cipher_text_in bytes ++ l) (drop-drop (length bytes - 9 - 10) 10 bytes ∙ ap (λ k. drop k bytes) past ∙ tail) in
    let rest : drop 2 bytes ≡ sender_nonce_in bytes ++ (cipher_text_in bytes ++ named ∷ code_in bytes)
    = sym (take-append-drop 8 (drop 2 bytes)) ∙ ap (λ l. sender_nonce_in bytes ++ l) (drop-drop 8 2 bytes ∙ text) in
    sym (take-append-drop 2 bytes) ∙ ap (λ l. l ++ drop 2 bytes) header ∙ ap (λ l. 0x98 ∷ 0x81 ∷ l) rest

-- the layout, as it is built
pub layout_built : (nonce text code : List ℕ) (named : ℕ) {b0 b1 b2 b3 b4 b5 : List ℕ} → b0 ≡ [] → b1 ≡ b0 ++ 0x98 ∷ 0x81 ∷ [] → b2 ≡ b1 ++ nonce
    → b3 ≡ b2 ++ text → b4 ≡ b3 ++ named ∷ [] → b5 ≡ b4 ++ code → b5 ≡ 0x98 ∷ 0x81 ∷ (nonce ++ (text ++ named ∷ code))
layout_built nonce text code named e0 e1 e2 e3 e4 e5 =
    let built : _ ≡ ((((0x98 ∷ 0x81 ∷ []) ++ nonce) ++ text) ++ named ∷ []) ++ code
    = e5 ∙ ap (λ l. l ++ code) (e4 ∙ ap (λ l. l ++ named ∷ []) (e3 ∙ ap (λ l. l ++ text) (e2 ∙ ap (λ l. l ++ nonce) (e1 ∙ ap (λ l. l ++ 0x98 ∷ 0x81 ∷ []) e0)))) in
    built ∙ simp append_assoc

-- eight bytes are their list
eight_bytes : (xs : List ℕ) → length xs ≡ 8
    → xs ≡ get_or xs 0 0 ∷ get_or xs 1 0 ∷ get_or xs 2 0 ∷ get_or xs 3 0 ∷ get_or xs 4 0 ∷ get_or xs 5 0 ∷ get_or xs 6 0 ∷ get_or xs 7 0 ∷ []
eight_bytes xs n = fill_by_all (λ k. get_or xs k 0) xs 8 0 n (λ k below. refl)

-- two nonces one after the other
pub join_bytes : (s r : List ℕ) → length s ≡ 8 → length r ≡ 8
    → get_or s 0 0 ∷ get_or s 1 0 ∷ get_or s 2 0 ∷ get_or s 3 0 ∷ get_or s 4 0 ∷ get_or s 5 0 ∷ get_or s 6 0 ∷ get_or s 7 0
    ∷ get_or r 0 0 ∷ get_or r 1 0 ∷ get_or r 2 0 ∷ get_or r 3 0 ∷ get_or r 4 0 ∷ get_or r 5 0 ∷ get_or r 6 0 ∷ get_or r 7 0 ∷ []
    ≡ s ++ r
join_bytes s r m n = sym (joined (eight_bytes s m) (eight_bytes r n))
