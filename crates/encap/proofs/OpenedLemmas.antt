-- The message that is opened is the one that a plan relates.
use Rattle.std.proofs.Common.{◌≡◌, ℕ, zero, suc, ◌+◌, ◌-◌, ◌%◌, ◌<◌, ◌≤◌, ◌⊎◌, inl, inr, List, [], ◌∷◌, ◌++◌, length, take, drop, Bool, true, false, Some, None, refl, sym, ◌∙◌, ap, subst, arith}
use Rattle.std.specs.Option.{option_and_then}
use Rattle.std.specs.Prelude.{Result, Ok, Err, IfOk, IfErr, Option, IsTrue, slice_index, nat_lt, nat_le, ◌==◌, ◌&&◌, ◌||◌, not, if◌then◌else◌}
use Rattle.std.specs.Bool.{Decides}
use Rattle.std.specs.List.{list_all}
use Rattle.std.specs.Str.{bytes_eq}
use Rattle.std.proofs.lemmas.Bool.Decides.{Decides-eqb, Decides-ltb, Decides-and, Decides-or, Decides-not, Decides-like, not_from_Decides, nat_tests}
use Rattle.std.proofs.lemmas.Slice.Eq.{bytes_eq-Decides}
use Rattle.std.proofs.lemmas.List.{take_all, take-append-le}
use Rattle.std.proofs.lemmas.Option.{same_Some as some_same}
use Rattle.encap.specs.Begins.{Begins, IsTransport, IsMultiCommand, IsSupervision, IsMultiChannel, IsCrc16, IsMisplaced}
use Rattle.encap.specs.Wraps.{Wraps, listed, AllFit, IsBatchOf, IsCommand, AllCommands, Batches, has_outer_wrap, is_within, is_crc16, crc16_text}
use Rattle.encap.specs.Layers.{TakesCrc16Off, TakesChannelOff, TakesSupervisionOff, Peels, outer_of, seen_of}
use Rattle.encap.specs.Opening.{Message, Peeled, begins_with, begins_segment, is_encapsulation, is_command, crc16_opened, channel_opened, supervision_opened, ends_in, session_in, cut_off, batch_opened, commands_opened, with_commands, opened_at, OpensAs}
use Rattle.encap.specs.declared.plan.Plan.{Plan}
use Rattle.encap.specs.declared.plan.Opened.{Opened}
use Rattle.encap.specs.declared.plan.Supervised.{Supervised}
use Rattle.encap.specs.declared.plan.Ends.{Ends}
use Rattle.encap.specs.declared.plan.Outer.{Outer}
use Rattle.encap.specs.declared.fault.WrapFault.{WrapFault}
use Rattle.encap.specs.declared.fault.WrapFault.TheVariants.{OutOfOrder, Length, BadCrc, TooLong, BitAddress, NoMemory}
use Rattle.encap.proofs.ExactLemmas.{prefix-with_check, crc16_begins, channel_begins, supervision_begins, peels_of, command_of, is_batch as batch_begins}
use Rattle.encap.proofs.OpenLemmas.{opens}

-- ---- the tests

leb_decides : (a b : ℕ) → Decides (nat_le a b) (a ≤ b)
leb_decides a b = (λ e. grind (arith, nat_tests), λ h. grind (arith, nat_tests))

is_false : {P : Type 0} (r : Bool) → Decides r P → (¬ P) → r ≡ false
is_false true d h = absurd (h (d.0 refl))
is_false false d h = refl

begins_decides : (bytes : List ℕ) (class command : ℕ) → Decides (begins_with bytes class command) (Begins bytes class command)
begins_decides bytes class command =
    Decides-like (begins_with bytes class command)
    (λ p. record { long = p.0.0; class_is = p.0.1; command_is = p.1 })
    (λ b. ((b.long, b.class_is), b.command_is))
    (Decides-and (nat_le 2 (length bytes) && (slice_index bytes 0 == class)) (slice_index bytes 1 == command)
    (Decides-and (nat_le 2 (length bytes)) (slice_index bytes 0 == class) (leb_decides 2 (length bytes)) (Decides-eqb (slice_index bytes 0) class))
    (Decides-eqb (slice_index bytes 1) command))

range_decides : (low high n : ℕ) → Decides (nat_le low n && nat_lt n high) ((low ≤ n) × (n < high))
range_decides low high n = Decides-and (nat_le low n) (nat_lt n high) (leb_decides low n) (Decides-ltb n high)

segment_decides : (bytes : List ℕ) → Decides (begins_segment bytes) (IsTransport bytes)
segment_decides bytes =
    let at : ℕ = slice_index bytes 1 in
    Decides-like (begins_segment bytes)
    (λ p. record { long = p.0.0; class_is = p.0.1; command_is = p.1 })
    (λ b. ((b.long, b.class_is), b.command_is))
    (Decides-and (nat_le 2 (length bytes) && (slice_index bytes 0 == 85)) ((nat_le 192 at && nat_lt at 200) || (nat_le 224 at && nat_lt at 232))
    (Decides-and (nat_le 2 (length bytes)) (slice_index bytes 0 == 85) (leb_decides 2 (length bytes)) (Decides-eqb (slice_index bytes 0) 85))
    (Decides-or (nat_le 192 at && nat_lt at 200) (nat_le 224 at && nat_lt at 232) (range_decides 192 200 at) (range_decides 224 232 at)))

encapsulation_decides : (within : Bool) (bytes : List ℕ) → Decides (is_encapsulation within bytes) (IsMisplaced within bytes)
encapsulation_decides within bytes =
    let batch = begins_with bytes 143 1 in
    let supervision = begins_with bytes 108 1 in
    let channel = begins_with bytes 96 13 in
    let crc = begins_with bytes 86 1 in
    let sealed = begins_with bytes 152 129 in
    Decides-or (batch || (supervision || (channel || crc))) (within && (sealed || begins_segment bytes))
    (Decides-or batch (supervision || (channel || crc)) (begins_decides bytes 143 1)
    (Decides-or supervision (channel || crc) (begins_decides bytes 108 1) (Decides-or channel crc (begins_decides bytes 96 13) (begins_decides bytes 86 1))))
    (Decides-and within (sealed || begins_segment bytes) (λ e. e, λ e. e) (Decides-or sealed (begins_segment bytes) (begins_decides bytes 152 129) (segment_decides bytes)))

command_decides : (within : Bool) (bytes : List ℕ) → Decides (is_command within bytes) (IsCommand within bytes)
command_decides within bytes =
    Decides-like (is_command within bytes) (λ p. record { some = p.0; placed = p.1 }) (λ c. (c.some, c.placed))
    (Decides-and (nat_le 1 (length bytes)) (not (is_encapsulation within bytes)) (leb_decides 1 (length bytes))
    (Decides-not (is_encapsulation within bytes) (encapsulation_decides within bytes)))

fit_decides : (commands : List (List ℕ)) → Decides (list_all (λ command. nat_le (length command) 255) commands) (AllFit commands)
fit_decides [] = (λ e. tt, λ h. refl)
fit_decides (command ∷ commands) =
    Decides-and (nat_le (length command) 255) (list_all (λ command. nat_le (length command) 255) commands) (leb_decides (length command) 255) (fit_decides commands)

all_decides : (commands : List (List ℕ)) → Decides (list_all (is_command true) commands) (AllCommands true commands)
all_decides [] = (λ e. tt, λ h. refl)
all_decides (command ∷ commands) =
    Decides-and (is_command true command) (list_all (is_command true) commands) (command_decides true command) (all_decides commands)

-- ---- one wrap

no_some : {A : Type 0} {P : Type 0} (a : A) → None ≡ Some a → P
no_some a e = absurd (cc)

-- where the bytes begin with the wrap they are opened only as its text, else they are left as they are
chosen : {A : Type 0} (b s : Bool) (found other p : A) → (if b then (if s then Some found else None) else Some other) ≡ Some p
    → ((b ≡ true) × (s ≡ true) × (found ≡ p)) ⊎ ((b ≡ false) × (other ≡ p))
chosen true true found other p e = inl (refl, refl, some_same found p e)
chosen true false found other p e = no_some p e
chosen false s found other p e = inr (refl, some_same other p e)

choose : {A : Type 0} (b s : Bool) (found other : A) → b ≡ true → s ≡ true → (if b then (if s then Some found else None) else Some other) ≡ Some found
choose b s found other p q = rw (p, q) refl

leave : {A : Type 0} (b s : Bool) (found other : A) → b ≡ false → (if b then (if s then Some found else None) else Some other) ≡ Some other
leave b s found other p = rw p refl

abbrev crc_inner : List ℕ → List ℕ
crc_inner bytes = drop 2 (take (length bytes - 2) bytes)

crc_inner_is : (inner bytes : List ℕ) → bytes ≡ crc16_text inner → crc_inner bytes ≡ inner
crc_inner_is inner bytes e = ap (λ (x : List ℕ). crc_inner x) e ∙ ap (λ (x : List ℕ). drop 2 x) (prefix-with_check (86 ∷ 1 ∷ inner))

crc16_there : (wrap : Bool) (inner bytes : List ℕ) → TakesCrc16Off wrap inner bytes → crc16_opened bytes ≡ Some (record { wrap = wrap; inner = inner })
crc16_there true inner bytes off =
    let is : crc_inner bytes ≡ inner = crc_inner_is inner bytes off in
    let text : bytes ≡ crc16_text (crc_inner bytes) = off ∙ ap (λ (x : List ℕ). crc16_text x) (sym is) in
    choose (begins_with bytes 86 1) (bytes_eq bytes (crc16_text (crc_inner bytes))) (record { wrap = true; inner = crc_inner bytes }) (record { wrap = false; inner = bytes })
    ((begins_decides bytes 86 1).1 (crc16_begins inner bytes off)) ((bytes_eq-Decides bytes (crc16_text (crc_inner bytes))).1 text)
    ∙ ap (λ (x : List ℕ). let p : Peeled Bool = record { wrap = true; inner = x } in Some p) is
crc16_there false inner bytes off =
    leave (begins_with bytes 86 1) (bytes_eq bytes (crc16_text (crc_inner bytes))) (record { wrap = true; inner = crc_inner bytes }) (record { wrap = false; inner = bytes })
    (is_false (begins_with bytes 86 1) (begins_decides bytes 86 1) off.0)
    ∙ ap (λ (x : List ℕ). let p : Peeled Bool = record { wrap = false; inner = x } in Some p) (sym off.1)

crc16_back : (bytes : List ℕ) (p : Peeled Bool) → crc16_opened bytes ≡ Some p → TakesCrc16Off p.wrap p.inner bytes
crc16_back bytes p e =
    elim (chosen (begins_with bytes 86 1) (bytes_eq bytes (crc16_text (crc_inner bytes))) (record { wrap = true; inner = crc_inner bytes }) (record { wrap = false; inner = bytes }) p e) [
      | inl h ↦ subst (λ (x : Peeled Bool). TakesCrc16Off x.wrap x.inner bytes) h.2 ((bytes_eq-Decides bytes (crc16_text (crc_inner bytes))).0 h.1)
      | inr h ↦ subst (λ (x : Peeled Bool). TakesCrc16Off x.wrap x.inner bytes) h.1 (not_from_Decides (begins_with bytes 86 1) (begins_decides bytes 86 1) h.0, refl)
    ]

abbrev channel_test : List ℕ → Bool
channel_test bytes = nat_lt (slice_index bytes 2) 256 && nat_lt (slice_index bytes 3) 128 && bytes_eq bytes (96 ∷ 13 ∷ slice_index bytes 2 ∷ slice_index bytes 3 ∷ drop 4 bytes)

channel_test_decides : (bytes : List ℕ) → Decides (channel_test bytes)
    (((slice_index bytes 2 < 256) × (slice_index bytes 3 < 128)) × (bytes ≡ 96 ∷ 13 ∷ slice_index bytes 2 ∷ slice_index bytes 3 ∷ drop 4 bytes))
channel_test_decides bytes =
    Decides-and (nat_lt (slice_index bytes 2) 256 && nat_lt (slice_index bytes 3) 128) (bytes_eq bytes (96 ∷ 13 ∷ slice_index bytes 2 ∷ slice_index bytes 3 ∷ drop 4 bytes))
    (Decides-and (nat_lt (slice_index bytes 2) 256) (nat_lt (slice_index bytes 3) 128) (Decides-ltb (slice_index bytes 2) 256) (Decides-ltb (slice_index bytes 3) 128))
    (bytes_eq-Decides bytes (96 ∷ 13 ∷ slice_index bytes 2 ∷ slice_index bytes 3 ∷ drop 4 bytes))

channel_there : (wrap : Option Ends) (inner bytes : List ℕ) → TakesChannelOff wrap inner bytes → channel_opened bytes ≡ Some (record { wrap = wrap; inner = inner })
channel_there (Some ends) inner bytes off =
    let from : slice_index bytes 2 ≡ off.from = ap (λ (x : List ℕ). slice_index x 2) off.text in
    let to : slice_index bytes 3 ≡ ends.target = ap (λ (x : List ℕ). slice_index x 3) off.text in
    let is : drop 4 bytes ≡ inner = ap (λ (x : List ℕ). drop 4 x) off.text in
    let text : bytes ≡ 96 ∷ 13 ∷ slice_index bytes 2 ∷ slice_index bytes 3 ∷ drop 4 bytes = rw (from, to, is) off.text in
    let low : slice_index bytes 2 < 256 = rw from off.is_byte in
    let high : slice_index bytes 3 < 128 = rw to off.target in
    let source : slice_index bytes 2 % 128 ≡ ends.source = ap (λ (n : ℕ). n % 128) from ∙ off.source in
    choose (begins_with bytes 96 13) (channel_test bytes) (record { wrap = Some (ends_in bytes); inner = drop 4 bytes }) (record { wrap = None; inner = bytes })
    ((begins_decides bytes 96 13).1 (channel_begins ends inner bytes off)) ((channel_test_decides bytes).1 ((low, high), text))
    ∙ ap (λ (n : ℕ). let e : Ends = record { source = n; target = slice_index bytes 3 } in let p : Peeled (Option Ends) = record { wrap = Some e; inner = drop 4 bytes } in Some p) source
    ∙ ap (λ (n : ℕ). let e : Ends = record { source = ends.source; target = n } in let p : Peeled (Option Ends) = record { wrap = Some e; inner = drop 4 bytes } in Some p) to
    ∙ ap (λ (x : List ℕ). let p : Peeled (Option Ends) = record { wrap = Some ends; inner = x } in Some p) is
channel_there None inner bytes off =
    leave (begins_with bytes 96 13) (channel_test bytes) (record { wrap = Some (ends_in bytes); inner = drop 4 bytes }) (record { wrap = None; inner = bytes })
    (is_false (begins_with bytes 96 13) (begins_decides bytes 96 13) off.0)
    ∙ ap (λ (x : List ℕ). let p : Peeled (Option Ends) = record { wrap = None; inner = x } in Some p) (sym off.1)

channel_back : (bytes : List ℕ) (p : Peeled (Option Ends)) → channel_opened bytes ≡ Some p → TakesChannelOff p.wrap p.inner bytes
channel_back bytes p e =
    elim (chosen (begins_with bytes 96 13) (channel_test bytes) (record { wrap = Some (ends_in bytes); inner = drop 4 bytes }) (record { wrap = None; inner = bytes }) p e) [
      | inl h ↦
          let t = (channel_test_decides bytes).0 h.1 in
          subst (λ (x : Peeled (Option Ends)). TakesChannelOff x.wrap x.inner bytes) h.2
          (record { from = slice_index bytes 2; is_byte = t.0.0; source = refl; target = t.0.1; text = t.1 })
      | inr h ↦ subst (λ (x : Peeled (Option Ends)). TakesChannelOff x.wrap x.inner bytes) h.1 (not_from_Decides (begins_with bytes 96 13) (begins_decides bytes 96 13) h.0, refl)
    ]

abbrev session_test : List ℕ → Bool
session_test bytes = nat_lt (slice_index bytes 2) 256 && nat_le (length (drop 4 bytes)) 255 && bytes_eq bytes (108 ∷ 1 ∷ slice_index bytes 2 ∷ length (drop 4 bytes) ∷ drop 4 bytes)

session_test_decides : (bytes : List ℕ) → Decides (session_test bytes)
    (((slice_index bytes 2 < 256) × (length (drop 4 bytes) ≤ 255)) × (bytes ≡ 108 ∷ 1 ∷ slice_index bytes 2 ∷ length (drop 4 bytes) ∷ drop 4 bytes))
session_test_decides bytes =
    Decides-and (nat_lt (slice_index bytes 2) 256 && nat_le (length (drop 4 bytes)) 255) (bytes_eq bytes (108 ∷ 1 ∷ slice_index bytes 2 ∷ length (drop 4 bytes) ∷ drop 4 bytes))
    (Decides-and (nat_lt (slice_index bytes 2) 256) (nat_le (length (drop 4 bytes)) 255) (Decides-ltb (slice_index bytes 2) 256) (leb_decides (length (drop 4 bytes)) 255))
    (bytes_eq-Decides bytes (108 ∷ 1 ∷ slice_index bytes 2 ∷ length (drop 4 bytes) ∷ drop 4 bytes))

bit_is : (b : Bool) (n : ℕ) → (IsTrue b → 128 ≤ n) × (128 ≤ n → IsTrue b) → nat_le 128 n ≡ b
bit_is true n h = (leb_decides 128 n).1 (h.0 refl)
bit_is false n h = is_false (nat_le 128 n) (leb_decides 128 n) (λ le. let bad : false ≡ true = h.1 le in absurd (cc))

supervision_there : (wrap : Option Supervised) (inner bytes : List ℕ) → TakesSupervisionOff wrap inner bytes → supervision_opened bytes ≡ Some (record { wrap = wrap; inner = inner })
supervision_there (Some session) inner bytes off =
    let flags : slice_index bytes 2 ≡ off.flags = ap (λ (x : List ℕ). slice_index x 2) off.text in
    let is : drop 4 bytes ≡ inner = ap (λ (x : List ℕ). drop 4 x) off.text in
    let text : bytes ≡ 108 ∷ 1 ∷ slice_index bytes 2 ∷ length (drop 4 bytes) ∷ drop 4 bytes = rw (flags, is) off.text in
    let low : slice_index bytes 2 < 256 = rw flags off.is_byte in
    let short : length (drop 4 bytes) ≤ 255 = rw is off.len in
    let updates : nat_le 128 (slice_index bytes 2) ≡ session.updates = rw flags (bit_is session.updates off.flags off.updates) in
    let id : slice_index bytes 2 % 64 ≡ session.id = ap (λ (n : ℕ). n % 64) flags ∙ off.id in
    choose (begins_with bytes 108 1) (session_test bytes) (record { wrap = Some (session_in bytes); inner = drop 4 bytes }) (record { wrap = None; inner = bytes })
    ((begins_decides bytes 108 1).1 (supervision_begins session inner bytes off)) ((session_test_decides bytes).1 ((low, short), text))
    ∙ ap (λ (b : Bool). let s : Supervised = record { updates = b; id = slice_index bytes 2 % 64 } in let p : Peeled (Option Supervised) = record { wrap = Some s; inner = drop 4 bytes } in Some p) updates
    ∙ ap (λ (n : ℕ). let s : Supervised = record { updates = session.updates; id = n } in let p : Peeled (Option Supervised) = record { wrap = Some s; inner = drop 4 bytes } in Some p) id
    ∙ ap (λ (x : List ℕ). let p : Peeled (Option Supervised) = record { wrap = Some session; inner = x } in Some p) is
supervision_there None inner bytes off =
    leave (begins_with bytes 108 1) (session_test bytes) (record { wrap = Some (session_in bytes); inner = drop 4 bytes }) (record { wrap = None; inner = bytes })
    (is_false (begins_with bytes 108 1) (begins_decides bytes 108 1) off.0)
    ∙ ap (λ (x : List ℕ). let p : Peeled (Option Supervised) = record { wrap = None; inner = x } in Some p) (sym off.1)

supervision_back : (bytes : List ℕ) (p : Peeled (Option Supervised)) → supervision_opened bytes ≡ Some p → TakesSupervisionOff p.wrap p.inner bytes
supervision_back bytes p e =
    elim (chosen (begins_with bytes 108 1) (session_test bytes) (record { wrap = Some (session_in bytes); inner = drop 4 bytes }) (record { wrap = None; inner = bytes }) p e) [
      | inl h ↦
          let t = (session_test_decides bytes).0 h.1 in
          subst (λ (x : Peeled (Option Supervised)). TakesSupervisionOff x.wrap x.inner bytes) h.2
          (record { flags = slice_index bytes 2; is_byte = t.0.0; updates = leb_decides 128 (slice_index bytes 2); id = refl; len = t.0.1; text = t.1 })
      | inr h ↦ subst (λ (x : Peeled (Option Supervised)). TakesSupervisionOff x.wrap x.inner bytes) h.1 (not_from_Decides (begins_with bytes 108 1) (begins_decides bytes 108 1) h.0, refl)
    ]

-- ---- the commands

cut_off_listed : (commands : List (List ℕ)) → cut_off (length commands) (listed commands) ≡ commands
cut_off_listed [] = refl
cut_off_listed (command ∷ commands) =
    let prefix : take (length command) (command ++ listed commands) ≡ command =
    take-append-le (length command) command (listed commands) (omega arith) ∙ take_all (length command) command (omega arith) in
    let rest : drop (length command) (command ++ listed commands) ≡ listed commands = drop-prefix command (listed commands) in
    rw (prefix, rest, cut_off_listed commands) refl
  where
    drop-prefix : (xs ys : List ℕ) → drop (length xs) (xs ++ ys) ≡ ys
    drop-prefix [] ys = refl
    drop-prefix (x ∷ xs) ys = drop-prefix xs ys

abbrev batch_commands : List ℕ → List (List ℕ)
batch_commands bytes = cut_off (slice_index bytes 2) (drop 3 bytes)

abbrev batch_test : List ℕ → List (List ℕ) → Bool
batch_test bytes commands =
    nat_le (length commands) 255 && list_all (λ command. nat_le (length command) 255) commands
    && list_all (is_command true) commands && bytes_eq bytes (143 ∷ 1 ∷ length commands ∷ listed commands)

batch_test_decides : (bytes : List ℕ) (commands : List (List ℕ)) → Decides (batch_test bytes commands) (IsBatchOf commands bytes × AllCommands true commands)
batch_test_decides bytes commands =
    Decides-like (batch_test bytes commands)
    (λ p. (record { count = p.0.0.0; fit = p.0.0.1; text = p.1 }, p.0.1))
    (λ b. (((b.0.count, b.0.fit), b.1), b.0.text))
    (Decides-and
    (nat_le (length commands) 255 && list_all (λ command. nat_le (length command) 255) commands && list_all (is_command true) commands)
    (bytes_eq bytes (143 ∷ 1 ∷ length commands ∷ listed commands))
    (Decides-and (nat_le (length commands) 255 && list_all (λ command. nat_le (length command) 255) commands) (list_all (is_command true) commands)
    (Decides-and (nat_le (length commands) 255) (list_all (λ command. nat_le (length command) 255) commands) (leb_decides (length commands) 255) (fit_decides commands))
    (all_decides commands))
    (bytes_eq-Decides bytes (143 ∷ 1 ∷ length commands ∷ listed commands)))

commands_there : (within : Bool) (bytes : List ℕ) (commands : List (List ℕ)) → IsBatchOf commands bytes → AllCommands true commands
    → commands_opened within bytes ≡ Some commands
commands_there within bytes commands is all =
    let count : slice_index bytes 2 ≡ length commands = ap (λ (x : List ℕ). slice_index x 2) is.text in
    let rest : drop 3 bytes ≡ listed commands = ap (λ (x : List ℕ). drop 3 x) is.text in
    let same : batch_commands bytes ≡ commands = rw (count, rest) (cut_off_listed commands) in
    let begun : begins_with bytes 143 1 ≡ true = (begins_decides bytes 143 1).1 (batch_begins commands bytes is) in
    let good : batch_test bytes (batch_commands bytes) ≡ true = rw same ((batch_test_decides bytes commands).1 (is, all)) in
    opened_batch (begins_with bytes 143 1) (batch_test bytes (batch_commands bytes)) (batch_commands bytes) _ begun good ∙ ap Some same
  where
    opened_batch : (b s : Bool) (found : List (List ℕ)) (other : Option (List (List ℕ))) → b ≡ true → s ≡ true → (if b then (if s then Some found else None) else other) ≡ Some found
    opened_batch b s found other p q = rw (p, q) refl

command_there : (within : Bool) (bytes : List ℕ) → IsCommand within bytes → (¬ IsMultiCommand bytes) → commands_opened within bytes ≡ Some (bytes ∷ [])
command_there within bytes is other =
    let begun : begins_with bytes 143 1 ≡ false = is_false (begins_with bytes 143 1) (begins_decides bytes 143 1) other in
    let good : is_command within bytes ≡ true = (command_decides within bytes).1 is in
    opened_alone (begins_with bytes 143 1) (is_command within bytes) _ (bytes ∷ []) begun good
  where
    opened_alone : (b s : Bool) (found : Option (List (List ℕ))) (other : List (List ℕ)) → b ≡ false → s ≡ true → (if b then found else (if s then Some other else None)) ≡ Some other
    opened_alone b s found other p q = rw (p, q) refl

-- what the inside gives: a batch of these commands, or this one alone
record Inside (within : Bool) (bytes : List ℕ) (commands : List (List ℕ)) : Type 0 where
  of_batch : IsMultiCommand bytes → IsBatchOf commands bytes × AllCommands true commands
  of_one : (¬ IsMultiCommand bytes) → (commands ≡ bytes ∷ []) × IsCommand within bytes

inside_back : (within b s c : Bool) (bytes : List ℕ) (found commands : List (List ℕ)) → Decides b (IsMultiCommand bytes)
    → Decides s (IsBatchOf found bytes × AllCommands true found) → Decides c (IsCommand within bytes)
    → (if b then (if s then Some found else None) else (if c then Some (bytes ∷ []) else None)) ≡ Some commands → Inside within bytes commands
inside_back within true true c bytes found commands db ds dc e = record {
  of_batch = λ _. subst (λ (x : List (List ℕ)). IsBatchOf x bytes × AllCommands true x) (some_same found commands e) (ds.0 refl);
  of_one = λ other. absurd (other (db.0 refl));
}
inside_back within true false c bytes found commands db ds dc e = no_some commands e
inside_back within false s true bytes found commands db ds dc e = record {
  of_batch = λ is. let bad : false ≡ true = db.1 is in absurd (cc);
  of_one = λ _. (sym (some_same (bytes ∷ []) commands e), dc.0 refl);
}
inside_back within false s false bytes found commands db ds dc e = no_some commands e

commands_back : (within : Bool) (bytes : List ℕ) (commands : List (List ℕ)) → commands_opened within bytes ≡ Some commands → Inside within bytes commands
commands_back within bytes commands e =
    inside_back within (begins_with bytes 143 1) (batch_test bytes (batch_commands bytes)) (is_command within bytes) bytes (batch_commands bytes) commands
    (begins_decides bytes 143 1) (batch_test_decides bytes (batch_commands bytes)) (command_decides within bytes) e

-- ---- the whole message

batched_there : (plan : Plan) (within : Bool) (commands : List (List ℕ)) (inner : List ℕ) → is_within plan ≡ plan.batch || within
    → AllCommands (is_within plan) commands → Batches plan.batch commands inner
    → (commands_opened within inner ≡ Some commands) × (begins_with inner 143 1 ≡ plan.batch)
batched_there plan within commands inner w all batches = by plan.batch within commands inner
    (subst (λ (b : Bool). AllCommands b commands) w all) batches
  where
    by : (batch within : Bool) (commands : List (List ℕ)) (inner : List ℕ) → AllCommands (batch || within) commands → Batches batch commands inner
        → (commands_opened within inner ≡ Some commands) × (begins_with inner 143 1 ≡ batch)
    by true within commands inner all is = (commands_there within inner commands is all, (begins_decides inner 143 1).1 (batch_begins commands inner is))
    by false within commands inner all one =
        let is : IsCommand within inner = command_of within commands inner one all in
        let other : ¬ IsMultiCommand inner = λ begun. is.placed (inl (inl begun)) in
        (command_there within inner is other ∙ ap Some (sym one), is_false (begins_with inner 143 1) (begins_decides inner 143 1) other)

pub opened_there : (plan : Plan) (commands : List (List ℕ)) (bytes : List ℕ) → Wraps plan commands bytes
    → opened_at bytes ≡ Some (record { plan = seen_of plan; commands = commands })
unfolding opened_at
opened_there plan commands bytes wraps =
    let peels = peels_of plan commands bytes wraps in
    let b = batched_there plan (has_outer_wrap (is_crc16 plan.outer) plan.channel plan.session) commands wraps.batched refl wraps.plain wraps.batches in
    rw (
      crc16_there (is_crc16 plan.outer) peels.checked bytes peels.crc16_off,
      channel_there plan.channel peels.addressed peels.checked peels.channel_off,
      supervision_there plan.session wraps.batched peels.addressed peels.supervision_off,
      b.0,
    )
    (ap (λ (x : Bool). let p : Plan = record { batch = x; session = plan.session; channel = plan.channel; outer = outer_of (is_crc16 plan.outer) } in
    let m : Message = record { plan = p; commands = commands } in Some m) b.1)

-- where a step gave a value, it came from one
from_step : {A B : Type 0} (o : Option A) (f : A → Option B) (b : B) → option_and_then f o ≡ Some b → (a : A) × (o ≡ Some a) × (f a ≡ Some b)
from_step None f b e = no_some b e
from_step (Some a) f b e = (a, refl, e)

pub opened_back : (bytes : List ℕ) (m : Message) → opened_at bytes ≡ Some m → Wraps m.plan m.commands bytes
unfolding opened_at
opened_back bytes m e =
    let a = from_step (crc16_opened bytes) _ m e in
    let b = from_step (channel_opened a.0.inner) _ m a.2 in
    let d = from_step (supervision_opened b.0.inner) _ m b.2 in
    let found = from_step (commands_opened (has_outer_wrap a.0.wrap b.0.wrap d.0.wrap) d.0.inner) (with_commands a.0 b.0 d.0) m d.2 in
    let inside = commands_back (has_outer_wrap a.0.wrap b.0.wrap d.0.wrap) d.0.inner found.0 found.1 in
    let peels : Peels a.0.wrap b.0.wrap d.0.wrap d.0.inner bytes = record {
      checked = a.0.inner;
      addressed = b.0.inner;
      crc16_off = crc16_back bytes a.0 a.1;
      channel_off = channel_back a.0.inner b.0 b.1;
      supervision_off = supervision_back b.0.inner d.0 d.1;
    } in
    let same = some_same _ m found.2 in
    subst (λ (x : Message). Wraps x.plan x.commands bytes) same
    (opens (begins_with d.0.inner 143 1) a.0.wrap (has_outer_wrap a.0.wrap b.0.wrap d.0.wrap) b.0.wrap d.0.wrap (outer_of a.0.wrap) d.0.inner bytes found.0
    peels ((begins_decides d.0.inner 143 1).0, (begins_decides d.0.inner 143 1).1) refl refl inside.of_batch inside.of_one)

-- a fault comes only where no message is opened
none_opened : (bytes : List ℕ) → ((m : Message) → opened_at bytes ≡ Some m → ⊥) → opened_at bytes ≡ None
none_opened bytes never = by (opened_at bytes) never
  where
    by : (o : Option Message) → ((m : Message) → o ≡ Some m → ⊥) → o ≡ None
    by None never = refl
    by (Some m) never = absurd (never m refl)

pub opens_exactly : (result : Result Opened WrapFault) (bytes : List ℕ)
    → IfOk result (λ opened. Wraps opened.plan opened.commands.items bytes)
    → ((plan : Plan) (commands : List (List ℕ)) → Wraps plan commands bytes → IfOk result (λ opened. (opened.plan ≡ seen_of plan) × (opened.commands.items ≡ commands)))
    → ((plan : Plan) (commands : List (List ℕ)) → Wraps plan commands bytes → IfErr result (λ fault. fault ≡ NoMemory))
    → OpensAs result (opened_at bytes)
opens_exactly (Ok opened) bytes wraps only all =
    opened_there opened.plan opened.commands.items bytes wraps
    ∙ ap (λ (p : Plan). let m : Message = record { plan = p; commands = opened.commands.items } in Some m) (sym (only opened.plan opened.commands.items wraps).0)
opens_exactly (Err NoMemory) bytes wraps only all = tt
opens_exactly (Err (OutOfOrder class)) bytes wraps only all =
    none_opened bytes (λ m e. let bad : OutOfOrder class ≡ NoMemory = all m.plan m.commands (opened_back bytes m e) in cc)
opens_exactly (Err (Length said got)) bytes wraps only all =
    none_opened bytes (λ m e. let bad : Length said got ≡ NoMemory = all m.plan m.commands (opened_back bytes m e) in cc)
opens_exactly (Err (BadCrc want got)) bytes wraps only all =
    none_opened bytes (λ m e. let bad : BadCrc want got ≡ NoMemory = all m.plan m.commands (opened_back bytes m e) in cc)
opens_exactly (Err (TooLong len)) bytes wraps only all =
    none_opened bytes (λ m e. let bad : TooLong len ≡ NoMemory = all m.plan m.commands (opened_back bytes m e) in cc)
opens_exactly (Err BitAddress) bytes wraps only all =
    none_opened bytes (λ m e. let bad : BitAddress ≡ NoMemory = all m.plan m.commands (opened_back bytes m e) in cc)
