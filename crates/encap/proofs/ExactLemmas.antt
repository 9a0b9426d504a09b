-- Bytes that a plan relates are opened to that plan and its commands, and have no fault.
use Rattle.std.proofs.Common.{◌≡◌, ℕ, ◌+◌, ◌-◌, ◌/◌, ◌%◌, ◌<◌, ◌≤◌, ◌⊎◌, inl, inr, List, [], ◌∷◌, ◌++◌, length, take, drop, get_or, Bool, true, false, Some, None, refl, sym, ◌∙◌, ap, subst, arith, length-append, append_assoc}
use Rattle.std.specs.Prelude.{Result, Ok, Err, IfOk, IfErr, Option, IsTrue, slice_index, ◌||◌}
use Rattle.std.proofs.lemmas.List.{take_all, take-append-le, get_or-append_right}
use Rattle.zw_base.specs.Crc.{crc}
use Rattle.encap.specs.Begins.{Begins, IsMultiCommand, IsSupervision, IsMultiChannel, IsCrc16, IsMisplaced}
use Rattle.encap.specs.Wraps.{Wraps, listed, IsBatchOf, IsSupervisionOf, IsChannelOf, IsCommand, AllCommands, Batches, Supervises, Addresses, Checks, has_outer_wrap, is_within, is_crc16, with_check, crc16_text}
use Rattle.encap.specs.Layers.{TakesCrc16Off, TakesChannelOff, TakesSupervisionOff, Peels, outer_of, seen_of}
use Rattle.encap.specs.Faults.{IsCrc16Fault, IsChannelFault, IsSupervisionFault, BatchEnds, IsBatchFault, IsCommandFault, IsFirstFault, IsOuterFault, MayAnswer, MayAnswerInner, MayAnswerBatch, MayAnswerAlone, said_check, true_check}
use Rattle.encap.specs.declared.plan.Plan.{Plan}
use Rattle.encap.specs.declared.plan.Opened.{Opened}
use Rattle.encap.specs.declared.plan.Supervised.{Supervised}
use Rattle.encap.specs.declared.plan.Ends.{Ends}
use Rattle.encap.specs.declared.plan.Outer.{Outer}
use Rattle.encap.specs.declared.plan.Outer.TheVariants.{None as no_outer, Crc16, Security, Transport}
use Rattle.encap.specs.declared.fault.WrapFault.{WrapFault}
use Rattle.encap.specs.declared.fault.WrapFault.TheVariants.{OutOfOrder, Length, BadCrc, TooLong, BitAddress, NoMemory}
use Rattle.encap.proofs.BatchLemmas.{apart}

-- ---- what a plan relates is what is taken off

not_begins : (bytes : List ℕ) (first second : ℕ) (rest : List ℕ) (class command : ℕ) → bytes ≡ first ∷ second ∷ rest
    → (first ≡ class → ⊥) → ¬ Begins bytes class command
not_begins bytes first second rest class command e other begins =
    other (sym (ap (λ (x : List ℕ). get_or x 0 0) e) ∙ begins.class_is)

record Clear (bytes : List ℕ) : Type 0 where
  supervision : ¬ IsSupervision bytes
  channel : ¬ IsMultiChannel bytes
  crc16 : ¬ IsCrc16 bytes

pub command_of : (within : Bool) (commands : List (List ℕ)) (inner : List ℕ) → commands ≡ inner ∷ [] → AllCommands within commands → IsCommand within inner
command_of within commands inner one all =
    let here : AllCommands within (inner ∷ []) = subst (λ (x : List (List ℕ)). AllCommands within x) one all in here.0

batched_clear : (batch within : Bool) (commands : List (List ℕ)) (batched : List ℕ) → AllCommands within commands
    → Batches batch commands batched → Clear batched
batched_clear true within commands batched all batch = record {
  supervision = not_begins batched 143 1 _ 108 1 batch.text (λ e. omega arith);
  channel = not_begins batched 143 1 _ 96 13 batch.text (λ e. omega arith);
  crc16 = not_begins batched 143 1 _ 86 1 batch.text (λ e. omega arith);
}
batched_clear false within commands batched all one =
    let placed : ¬ IsMisplaced within batched = (command_of within commands batched one all).placed in
    record {
      supervision = λ is. placed (inl (inr (inl is)));
      channel = λ is. placed (inl (inr (inr (inl is))));
      crc16 = λ is. placed (inl (inr (inr (inr is))));
    }

record Clear' (bytes : List ℕ) : Type 0 where
  channel : ¬ IsMultiChannel bytes
  crc16 : ¬ IsCrc16 bytes

supervised_clear : (session : Option Supervised) (batched supervised : List ℕ) → Supervises session batched supervised → Clear batched → Clear' supervised
supervised_clear None batched supervised same clear = record {
  channel = subst (λ (x : List ℕ). ¬ IsMultiChannel x) (sym same) clear.channel;
  crc16 = subst (λ (x : List ℕ). ¬ IsCrc16 x) (sym same) clear.crc16;
}
supervised_clear (Some session) batched supervised is clear = record {
  channel = not_begins supervised 108 1 _ 96 13 is.text (λ e. omega arith);
  crc16 = not_begins supervised 108 1 _ 86 1 is.text (λ e. omega arith);
}

addressed_clear : (channel : Option Ends) (supervised addressed : List ℕ) → Addresses channel supervised addressed → Clear' supervised → ¬ IsCrc16 addressed
addressed_clear None supervised addressed same clear = subst (λ (x : List ℕ). ¬ IsCrc16 x) (sym same) clear.crc16
addressed_clear (Some ends) supervised addressed is clear = not_begins addressed 96 13 _ 86 1 is.text (λ e. omega arith)

crc16_off_of : (outer : Outer) (inner bytes : List ℕ) → Checks outer inner bytes → ¬ IsCrc16 inner → TakesCrc16Off (is_crc16 outer) inner bytes
crc16_off_of Crc16 inner bytes checks clear = checks
crc16_off_of no_outer inner bytes checks clear = (subst (λ (x : List ℕ). ¬ IsCrc16 x) (sym checks) clear, sym checks)
crc16_off_of Security inner bytes checks clear = (subst (λ (x : List ℕ). ¬ IsCrc16 x) (sym checks) clear, sym checks)
crc16_off_of Transport inner bytes checks clear = (subst (λ (x : List ℕ). ¬ IsCrc16 x) (sym checks) clear, sym checks)

channel_off_of : (channel : Option Ends) (inner bytes : List ℕ) → Addresses channel inner bytes → ¬ IsMultiChannel inner → TakesChannelOff channel inner bytes
channel_off_of None inner bytes same clear = (subst (λ (x : List ℕ). ¬ IsMultiChannel x) (sym same) clear, sym same)
channel_off_of (Some ends) inner bytes is clear = is

supervision_off_of : (session : Option Supervised) (inner bytes : List ℕ) → Supervises session inner bytes → ¬ IsSupervision inner → TakesSupervisionOff session inner bytes
supervision_off_of None inner bytes same clear = (subst (λ (x : List ℕ). ¬ IsSupervision x) (sym same) clear, sym same)
supervision_off_of (Some session) inner bytes is clear = is

pub peels_of : (plan : Plan) (commands : List (List ℕ)) (bytes : List ℕ) (wraps : Wraps plan commands bytes)
    → Peels (is_crc16 plan.outer) plan.channel plan.session wraps.batched bytes
peels_of plan commands bytes wraps =
    let clear : Clear wraps.batched = batched_clear plan.batch (is_within plan) commands wraps.batched wraps.plain wraps.batches in
    let clear' : Clear' wraps.supervised = supervised_clear plan.session wraps.batched wraps.supervised wraps.supervises clear in
    let clear'' : ¬ IsCrc16 wraps.addressed = addressed_clear plan.channel wraps.supervised wraps.addressed wraps.addresses clear' in
    record {
      checked = wraps.addressed;
      addressed = wraps.supervised;
      crc16_off = crc16_off_of plan.outer wraps.addressed bytes wraps.checks clear'';
      channel_off = channel_off_of plan.channel wraps.supervised wraps.addressed wraps.addresses clear'.channel;
      supervision_off = supervision_off_of plan.session wraps.batched wraps.supervised wraps.supervises clear.supervision;
    }

-- ---- each wrap is taken off in one way

length-with_check : (prefix : List ℕ) → length (with_check prefix) ≡ length prefix + 2
length-with_check prefix = length-append prefix (crc prefix / 256 ∷ crc prefix % 256 ∷ [])

pub prefix-with_check : (prefix : List ℕ) → take (length (with_check prefix) - 2) (with_check prefix) ≡ prefix
prefix-with_check prefix =
    let len = length-with_check prefix in
    let same : length (with_check prefix) - 2 ≡ length prefix = omega arith in
    ap (λ (n : ℕ). take n (with_check prefix)) same
    ∙ take-append-le (length prefix) prefix (crc prefix / 256 ∷ crc prefix % 256 ∷ []) (omega arith)
    ∙ take_all (length prefix) prefix (omega arith)

said-with_check : (prefix : List ℕ) → said_check (with_check prefix) ≡ crc prefix
said-with_check prefix =
    let len = length-with_check prefix in
    let pair : List ℕ = crc prefix / 256 ∷ crc prefix % 256 ∷ [] in
    let zeroth : length (with_check prefix) - 2 - length prefix ≡ 0 = omega arith in
    let first : length (with_check prefix) - 1 - length prefix ≡ 1 = omega arith in
    let high : get_or (with_check prefix) (length (with_check prefix) - 2) 0 ≡ crc prefix / 256 =
    get_or-append_right prefix pair (length prefix) (length (with_check prefix) - 2) 0 refl (omega arith) ∙ ap (λ (n : ℕ). get_or pair n 0) zeroth in
    let low : get_or (with_check prefix) (length (with_check prefix) - 1) 0 ≡ crc prefix % 256 =
    get_or-append_right prefix pair (length prefix) (length (with_check prefix) - 1) 0 refl (omega arith) ∙ ap (λ (n : ℕ). get_or pair n 0) first in
    omega arith

crc16_same : (inner inner' : List ℕ) → crc16_text inner ≡ crc16_text inner' → inner ≡ inner'
crc16_same inner inner' e =
    let prefixes : 86 ∷ 1 ∷ inner ≡ 86 ∷ 1 ∷ inner' =
    sym (prefix-with_check (86 ∷ 1 ∷ inner)) ∙ ap (λ (x : List ℕ). take (length x - 2) x) e ∙ prefix-with_check (86 ∷ 1 ∷ inner') in
    ap (drop 2) prefixes

pub crc16_begins : (inner bytes : List ℕ) → bytes ≡ crc16_text inner → IsCrc16 bytes
crc16_begins inner bytes e = subst (λ (x : List ℕ). IsCrc16 x) (sym e)
    (record { long = omega (arith, length-with_check (86 ∷ 1 ∷ inner)); class_is = refl; command_is = refl })

same_crc16 : (crc crc' : Bool) (inner inner' bytes : List ℕ) → TakesCrc16Off crc inner bytes → TakesCrc16Off crc' inner' bytes → (crc ≡ crc') × (inner ≡ inner')
same_crc16 true true inner inner' bytes off off' = (refl, crc16_same inner inner' (sym off ∙ off'))
same_crc16 true false inner inner' bytes off off' = absurd (off'.0 (crc16_begins inner bytes off))
same_crc16 false true inner inner' bytes off off' = absurd (off.0 (crc16_begins inner' bytes off'))
same_crc16 false false inner inner' bytes off off' = (refl, off.1 ∙ sym off'.1)

pub channel_begins : (ends : Ends) (inner bytes : List ℕ) → IsChannelOf ends inner bytes → IsMultiChannel bytes
channel_begins ends inner bytes is = subst (λ (x : List ℕ). IsMultiChannel x) (sym is.text) (record { long = omega arith; class_is = refl; command_is = refl })

same_ends : (ends ends' : Ends) → ends.source ≡ ends'.source → ends.target ≡ ends'.target → ends ≡ ends'
same_ends ends ends' source target =
    let from : ℕ → Ends = λ n. record { source = n; target = ends.target } in
    let to : ℕ → Ends = λ n. record { source = ends'.source; target = n } in
    ap from source ∙ ap to target

same_channel : (channel channel' : Option Ends) (inner inner' bytes : List ℕ) → TakesChannelOff channel inner bytes → TakesChannelOff channel' inner' bytes
    → (channel ≡ channel') × (inner ≡ inner')
same_channel (Some ends) (Some ends') inner inner' bytes off off' =
    let texts : 96 ∷ 13 ∷ off.from ∷ ends.target ∷ inner ≡ 96 ∷ 13 ∷ off'.from ∷ ends'.target ∷ inner' = sym off.text ∙ off'.text in
    let from : off.from ≡ off'.from = ap (λ (x : List ℕ). get_or x 2 0) texts in
    let target : ends.target ≡ ends'.target = ap (λ (x : List ℕ). get_or x 3 0) texts in
    let source : ends.source ≡ ends'.source = sym off.source ∙ ap (λ (n : ℕ). n % 128) from ∙ off'.source in
    (ap Some (same_ends ends ends' source target), ap (drop 4) texts)
same_channel (Some ends) None inner inner' bytes off off' = absurd (off'.0 (channel_begins ends inner bytes off))
same_channel None (Some ends') inner inner' bytes off off' = absurd (off.0 (channel_begins ends' inner' bytes off'))
same_channel None None inner inner' bytes off off' = (refl, off.1 ∙ sym off'.1)

pub supervision_begins : (session : Supervised) (inner bytes : List ℕ) → IsSupervisionOf session inner bytes → IsSupervision bytes
supervision_begins session inner bytes is = subst (λ (x : List ℕ). IsSupervision x) (sym is.text) (record { long = omega arith; class_is = refl; command_is = refl })

same_bit : (a b : Bool) → (IsTrue a → IsTrue b) → (IsTrue b → IsTrue a) → a ≡ b
same_bit true true there back = refl
same_bit true false there back = sym (there refl)
same_bit false true there back = back refl
same_bit false false there back = refl

same_sessions : (session session' : Supervised) → session.updates ≡ session'.updates → session.id ≡ session'.id → session ≡ session'
same_sessions session session' updates id =
    let first : Bool → Supervised = λ b. record { updates = b; id = session.id } in
    let second : ℕ → Supervised = λ n. record { updates = session'.updates; id = n } in
    ap first updates ∙ ap second id

same_supervision : (session session' : Option Supervised) (inner inner' bytes : List ℕ) → TakesSupervisionOff session inner bytes
    → TakesSupervisionOff session' inner' bytes → (session ≡ session') × (inner ≡ inner')
same_supervision (Some session) (Some session') inner inner' bytes off off' =
    let texts : 108 ∷ 1 ∷ off.flags ∷ length inner ∷ inner ≡ 108 ∷ 1 ∷ off'.flags ∷ length inner' ∷ inner' = sym off.text ∙ off'.text in
    let flags : off.flags ≡ off'.flags = ap (λ (x : List ℕ). get_or x 2 0) texts in
    let id : session.id ≡ session'.id = sym off.id ∙ ap (λ (n : ℕ). n % 64) flags ∙ off'.id in
    let updates : session.updates ≡ session'.updates = same_bit session.updates session'.updates
    (λ is. off'.updates.1 (subst (λ (n : ℕ). 128 ≤ n) flags (off.updates.0 is)))
    (λ is. off.updates.1 (subst (λ (n : ℕ). 128 ≤ n) (sym flags) (off'.updates.0 is))) in
    (ap Some (same_sessions session session' updates id), ap (drop 4) texts)
same_supervision (Some session) None inner inner' bytes off off' = absurd (off'.0 (supervision_begins session inner bytes off))
same_supervision None (Some session') inner inner' bytes off off' = absurd (off.0 (supervision_begins session' inner' bytes off'))
same_supervision None None inner inner' bytes off off' = (refl, off.1 ∙ sym off'.1)

-- the three in one way
record SameCore (crc crc' : Bool) (channel channel' : Option Ends) (session session' : Option Supervised) (inner inner' : List ℕ) : Type 0 where
  same_crc : crc ≡ crc'
  same_ch : channel ≡ channel'
  same_su : session ≡ session'
  same_in : inner ≡ inner'

same_core : (crc crc' : Bool) (channel channel' : Option Ends) (session session' : Option Supervised) (inner inner' bytes : List ℕ)
    → Peels crc channel session inner bytes → Peels crc' channel' session' inner' bytes → SameCore crc crc' channel channel' session session' inner inner'
same_core crc crc' channel channel' session session' inner inner' bytes peels peels' =
    let a = same_crc16 crc crc' peels.checked peels'.checked bytes peels.crc16_off peels'.crc16_off in
    let off' : TakesChannelOff channel' peels'.addressed peels.checked = subst (λ (x : List ℕ). TakesChannelOff channel' peels'.addressed x) (sym a.1) peels'.channel_off in
    let b = same_channel channel channel' peels.addressed peels'.addressed peels.checked peels.channel_off off' in
    let off'' : TakesSupervisionOff session' inner' peels.addressed = subst (λ (x : List ℕ). TakesSupervisionOff session' inner' x) (sym b.1) peels'.supervision_off in
    let d = same_supervision session session' inner inner' peels.addressed peels.supervision_off off'' in
    record { same_crc = a.0; same_ch = b.0; same_su = d.0; same_in = d.1 }

-- ---- commands are listed in one way

same_listed : (commands commands' : List (List ℕ)) → listed commands ≡ listed commands' → commands ≡ commands'
same_listed [] [] e = refl
same_listed [] (command ∷ commands) e = absurd (cc)
same_listed (command ∷ commands) [] e = absurd (cc)
same_listed (command ∷ commands) (command' ∷ commands') e =
    let lens : length command ≡ length command' = ap (λ (x : List ℕ). get_or x 0 0) e in
    let texts : command ++ listed commands ≡ command' ++ listed commands' = ap (drop 1) e in
    let both = apart command command' (listed commands) (listed commands') lens texts in
    let more : commands ≡ commands' = same_listed commands commands' both.1 in
    let first : command ≡ command' = both.0 in cc

same_batch : (commands commands' : List (List ℕ)) (inner : List ℕ) → IsBatchOf commands inner → IsBatchOf commands' inner → commands ≡ commands'
same_batch commands commands' inner is is' = same_listed commands commands' (ap (drop 3) (sym is.text ∙ is'.text))

-- where some of them stand before a rest, the rest is those that are left
left_after : (done commands : List (List ℕ)) (rest : List ℕ) → listed done ++ rest ≡ listed commands
    → (left : List (List ℕ)) × (commands ≡ done ++ left) × (rest ≡ listed left)
left_after [] commands rest e = (commands, refl, e)
left_after (first ∷ done) [] rest e = absurd (cc)
left_after (first ∷ done) (command ∷ commands) rest e =
    let lens : length first ≡ length command = ap (λ (x : List ℕ). get_or x 0 0) e in
    let texts : (first ++ listed done) ++ rest ≡ command ++ listed commands = ap (drop 1) e in
    let both = apart first command (listed done ++ rest) (listed commands) lens (sym (append_assoc first (listed done) rest) ∙ texts) in
    let more = left_after done commands rest both.1 in
    let same : first ≡ command = both.0 in
    let tail : commands ≡ done ++ more.0 = more.1 in
    (more.0, (let whole : command ∷ commands ≡ first ∷ (done ++ more.0) = cc in whole), more.2)

pub is_batch : (commands : List (List ℕ)) (inner : List ℕ) → IsBatchOf commands inner → IsMultiCommand inner
is_batch commands inner is = subst (λ (x : List ℕ). IsMultiCommand x) (sym is.text) (record { long = omega arith; class_is = refl; command_is = refl })

-- a batch has no fault of its structure
no_end : (commands : List (List ℕ)) (inner : List ℕ) (said got : ℕ) → IsBatchOf commands inner → BatchEnds inner said got → ⊥
no_end commands inner said got is ends =
    let third : slice_index inner 2 ≡ length commands = ap (λ (x : List ℕ). get_or x 2 0) is.text in
    let texts : listed ends.commands ++ ends.rest ≡ listed commands = ap (drop 3) (sym ends.text ∙ is.text) in
    let left = left_after ends.commands commands ends.rest texts in
    let count : length commands ≡ length ends.commands + length left.0 = ap length left.1 ∙ length-append ends.commands left.0 in
    go left.0 left.2 third count ends.ends
  where
    go : (left : List (List ℕ)) → ends.rest ≡ listed left → slice_index inner 2 ≡ length commands
        → length commands ≡ length ends.commands + length left
        → ((length ends.commands < slice_index inner 2) × (ends.rest ≡ []) × (said ≡ length inner + 1) × (got ≡ length inner))
        ⊎ (((length ends.commands < slice_index inner 2) × (more : List ℕ) × (ends.rest ≡ said ∷ more) × (got ≡ length more) × (got < said))
        ⊎ ((length ends.commands ≡ slice_index inner 2) × (1 ≤ length ends.rest) × (said + length ends.rest ≡ length inner) × (got ≡ length inner)))
        → ⊥
    go [] rest third count (inl (less, none, s, g)) = omega arith
    go [] rest third count (inr (inl (less, more, e, g, short))) = omega arith
    go [] rest third count (inr (inr (same, some, s, g))) = omega (arith, ap length rest)
    go (command ∷ left) rest third count (inl (less, none, s, g)) = absurd (cc)
    go (command ∷ left) rest third count (inr (inl (less, more, e, g, short))) =
        let lens : said ≡ length command = ap (λ (x : List ℕ). get_or x 0 0) (sym e ∙ rest) in
        let texts : more ≡ command ++ listed left = ap (drop 1) (sym e ∙ rest) in
        omega (arith, ap length texts, length-append command (listed left))
    go (command ∷ left) rest third count (inr (inr (same, some, s, g))) = omega arith

no_batch_fault : (commands : List (List ℕ)) (inner : List ℕ) (fault : WrapFault) → IsBatchOf commands inner → IsBatchFault inner fault → ⊥
no_batch_fault commands inner (Length said got) is (inl short) = omega (arith, ap length is.text)
no_batch_fault commands inner (Length said got) is (inr ends) = no_end commands inner said got is ends.1
no_batch_fault commands inner BitAddress is fault = fault
no_batch_fault commands inner (BadCrc want got) is fault = fault
no_batch_fault commands inner (OutOfOrder class) is fault = fault
no_batch_fault commands inner (TooLong len) is fault = fault
no_batch_fault commands inner NoMemory is fault = fault

no_command_fault : (within : Bool) (command : List ℕ) (fault : WrapFault) → IsCommand within command → IsCommandFault within command fault → ⊥
no_command_fault within command (Length said got) good bad = let some : 1 ≤ length command = good.some in omega (arith, bad.0)
no_command_fault within command (OutOfOrder class) good bad = good.placed bad.0
no_command_fault within command BitAddress good bad = bad
no_command_fault within command (BadCrc want got) good bad = bad
no_command_fault within command (TooLong len) good bad = bad
no_command_fault within command NoMemory good bad = bad

no_first_fault : (commands : List (List ℕ)) (fault : WrapFault) → AllCommands true commands → IsFirstFault true commands fault → ⊥
no_first_fault [] fault all bad = bad
no_first_fault (command ∷ commands) fault all (inl bad) = no_command_fault true command fault all.0 bad
no_first_fault (command ∷ commands) fault all (inr later) = no_first_fault commands fault all.1 later.1

-- ---- the outer wraps have no fault

no_crc16_fault : (inner bytes : List ℕ) (fault : WrapFault) → bytes ≡ crc16_text inner → IsCrc16Fault bytes fault → ⊥
no_crc16_fault inner bytes (Length said got) text fault = omega (arith, ap length text, length-with_check (86 ∷ 1 ∷ inner), fault.0)
no_crc16_fault inner bytes (BadCrc want got) text fault =
    let said : said_check bytes ≡ crc (86 ∷ 1 ∷ inner) = ap said_check text ∙ said-with_check (86 ∷ 1 ∷ inner) in
    let right : true_check bytes ≡ crc (86 ∷ 1 ∷ inner) = ap true_check text ∙ ap crc (prefix-with_check (86 ∷ 1 ∷ inner)) in
    fault.3 (fault.1 ∙ right ∙ sym said ∙ sym fault.2)
no_crc16_fault inner bytes (OutOfOrder class) text fault = fault
no_crc16_fault inner bytes (TooLong len) text fault = fault
no_crc16_fault inner bytes BitAddress text fault = fault
no_crc16_fault inner bytes NoMemory text fault = fault

no_channel_fault : (ends : Ends) (inner bytes : List ℕ) (fault : WrapFault) → IsChannelOf ends inner bytes → IsChannelFault bytes fault → ⊥
no_channel_fault ends inner bytes (Length said got) is fault = omega (arith, ap length is.text, fault.0)
no_channel_fault ends inner bytes BitAddress is fault =
    let third : slice_index bytes 3 ≡ ends.target = ap (λ (x : List ℕ). get_or x 3 0) is.text in
    let target : ends.target < 128 = is.target in omega (arith, fault.1)
no_channel_fault ends inner bytes (BadCrc want got) is fault = fault
no_channel_fault ends inner bytes (OutOfOrder class) is fault = fault
no_channel_fault ends inner bytes (TooLong len) is fault = fault
no_channel_fault ends inner bytes NoMemory is fault = fault

no_supervision_fault : (session : Supervised) (inner bytes : List ℕ) (fault : WrapFault) → IsSupervisionOf session inner bytes → IsSupervisionFault bytes fault → ⊥
no_supervision_fault session inner bytes (Length said got) is (inl short) = omega (arith, ap length is.text, short.0)
no_supervision_fault session inner bytes (Length said got) is (inr other) =
    let third : slice_index bytes 3 ≡ length inner = ap (λ (x : List ℕ). get_or x 3 0) is.text in
    let same : said ≡ got = omega (arith, ap length is.text, other.1, other.2) in other.3 same
no_supervision_fault session inner bytes BitAddress is fault = fault
no_supervision_fault session inner bytes (BadCrc want got) is fault = fault
no_supervision_fault session inner bytes (OutOfOrder class) is fault = fault
no_supervision_fault session inner bytes (TooLong len) is fault = fault
no_supervision_fault session inner bytes NoMemory is fault = fault

crc16_clear : (crc : Bool) (inner bytes : List ℕ) (fault : WrapFault) → TakesCrc16Off crc inner bytes → IsCrc16 bytes → IsCrc16Fault bytes fault → ⊥
crc16_clear true inner bytes fault off is bad = no_crc16_fault inner bytes fault off bad
crc16_clear false inner bytes fault off is bad = off.0 is

channel_clear : (channel : Option Ends) (inner bytes : List ℕ) (fault : WrapFault) → TakesChannelOff channel inner bytes → IsMultiChannel bytes → IsChannelFault bytes fault → ⊥
channel_clear (Some ends) inner bytes fault off is bad = no_channel_fault ends inner bytes fault off bad
channel_clear None inner bytes fault off is bad = off.0 is

supervision_clear : (session : Option Supervised) (inner bytes : List ℕ) (fault : WrapFault) → TakesSupervisionOff session inner bytes → IsSupervision bytes → IsSupervisionFault bytes fault → ⊥
supervision_clear (Some session) inner bytes fault off is bad = no_supervision_fault session inner bytes fault off bad
supervision_clear None inner bytes fault off is bad = off.0 is

no_outer_fault : (crc : Bool) (channel : Option Ends) (session : Option Supervised) (inner bytes : List ℕ) (fault : WrapFault)
    → Peels crc channel session inner bytes → IsOuterFault bytes fault → ⊥
no_outer_fault crc channel session inner bytes fault peels (inl (is, bad)) = crc16_clear crc peels.checked bytes fault peels.crc16_off is bad
no_outer_fault crc channel session inner bytes fault peels (inr (inl (crc', checked', off', (is, bad)))) =
    let a = same_crc16 crc crc' peels.checked checked' bytes peels.crc16_off off' in
    let off : TakesChannelOff channel peels.addressed checked' = subst (λ (x : List ℕ). TakesChannelOff channel peels.addressed x) a.1 peels.channel_off in
    channel_clear channel peels.addressed checked' fault off is bad
no_outer_fault crc channel session inner bytes fault peels (inr (inr (crc', checked', off', channel', addressed', off'', (is, bad)))) =
    let a = same_crc16 crc crc' peels.checked checked' bytes peels.crc16_off off' in
    let c_off : TakesChannelOff channel peels.addressed checked' = subst (λ (x : List ℕ). TakesChannelOff channel peels.addressed x) a.1 peels.channel_off in
    let b = same_channel channel channel' peels.addressed addressed' checked' c_off off'' in
    let off : TakesSupervisionOff session inner addressed' = subst (λ (x : List ℕ). TakesSupervisionOff session inner x) b.1 peels.supervision_off in
    supervision_clear session inner addressed' fault off is bad

-- ---- the whole

by_batch : (commands : List (List ℕ)) (inner : List ℕ) (fault : WrapFault) → IsBatchOf commands inner → AllCommands true commands
    → IsBatchFault inner fault ⊎ ((other : List (List ℕ)) × IsBatchOf other inner × IsFirstFault true other fault) → ⊥
by_batch commands inner fault batch all (inl bad) = no_batch_fault commands inner fault batch bad
by_batch commands inner fault batch all (inr (other, is, bad)) =
    no_first_fault commands fault all (subst (λ (x : List (List ℕ)). IsFirstFault true x fault) (same_batch other commands inner is batch) bad)

batch_clear : (commands : List (List ℕ)) (inner : List ℕ) (fault : WrapFault) → IsBatchOf commands inner → AllCommands true commands
    → MayAnswerBatch inner fault → fault ≡ NoMemory
batch_clear commands inner NoMemory batch all answer = refl
batch_clear commands inner (Length said got) batch all answer = absurd (by_batch commands inner (Length said got) batch all answer)
batch_clear commands inner BitAddress batch all answer = absurd (by_batch commands inner BitAddress batch all answer)
batch_clear commands inner (BadCrc want got) batch all answer = absurd (by_batch commands inner (BadCrc want got) batch all answer)
batch_clear commands inner (OutOfOrder class) batch all answer = absurd (by_batch commands inner (OutOfOrder class) batch all answer)
batch_clear commands inner (TooLong len) batch all answer = absurd (by_batch commands inner (TooLong len) batch all answer)

alone_clear : (within : Bool) (inner : List ℕ) (fault : WrapFault) → IsCommand within inner → MayAnswerAlone within inner fault → fault ≡ NoMemory
alone_clear within inner NoMemory good answer = refl
alone_clear within inner (Length said got) good answer = absurd (no_command_fault within inner (Length said got) good answer)
alone_clear within inner BitAddress good answer = absurd answer
alone_clear within inner (BadCrc want got) good answer = absurd answer
alone_clear within inner (OutOfOrder class) good answer = absurd (no_command_fault within inner (OutOfOrder class) good answer)
alone_clear within inner (TooLong len) good answer = absurd answer

inner_clear : (batch within : Bool) (commands : List (List ℕ)) (inner : List ℕ) (fault : WrapFault) → Batches batch commands inner
    → AllCommands (batch || within) commands → MayAnswerInner within inner fault → fault ≡ NoMemory
inner_clear true within commands inner fault batch all (inl (is, answer)) = batch_clear commands inner fault batch all answer
inner_clear true within commands inner fault batch all (inr (not, answer)) = absurd (not (is_batch commands inner batch))
inner_clear false within commands inner fault one all (inl (is, answer)) =
    absurd (let good : IsCommand within inner = command_of within commands inner one all in good.placed (inl (inl is)))
inner_clear false within commands inner fault one all (inr (not, answer)) =
    alone_clear within inner fault (command_of within commands inner one all) answer

-- bytes that a plan relates have no fault
pub no_fault : (plan : Plan) (commands : List (List ℕ)) (bytes : List ℕ) (fault : WrapFault) → Wraps plan commands bytes
    → MayAnswer bytes fault → fault ≡ NoMemory
no_fault plan commands bytes fault wraps (inl outer) =
    absurd (no_outer_fault (is_crc16 plan.outer) plan.channel plan.session wraps.batched bytes fault (peels_of plan commands bytes wraps) outer)
no_fault plan commands bytes fault wraps (inr (crc', channel', session', inner', peels', answer)) =
    let same = same_core crc' (is_crc16 plan.outer) channel' plan.channel session' plan.session inner' wraps.batched bytes peels' (peels_of plan commands bytes wraps) in
    let a : MayAnswerInner (has_outer_wrap (is_crc16 plan.outer) channel' session') inner' fault = subst (λ (b : Bool). MayAnswerInner (has_outer_wrap b channel' session') inner' fault) same.same_crc answer in
    let b : MayAnswerInner (has_outer_wrap (is_crc16 plan.outer) plan.channel session') inner' fault = subst (λ (o : Option Ends). MayAnswerInner (has_outer_wrap (is_crc16 plan.outer) o session') inner' fault) same.same_ch a in
    let d : MayAnswerInner (has_outer_wrap (is_crc16 plan.outer) plan.channel plan.session) inner' fault = subst (λ (o : Option Supervised). MayAnswerInner (has_outer_wrap (is_crc16 plan.outer) plan.channel o) inner' fault) same.same_su b in
    let e : MayAnswerInner (has_outer_wrap (is_crc16 plan.outer) plan.channel plan.session) wraps.batched fault = subst (λ (x : List ℕ). MayAnswerInner (has_outer_wrap (is_crc16 plan.outer) plan.channel plan.session) x fault) same.same_in d in
    inner_clear plan.batch (has_outer_wrap (is_crc16 plan.outer) plan.channel plan.session) commands wraps.batched fault wraps.batches wraps.plain e

same_inner : (batch batch' within within' : Bool) (commands commands' : List (List ℕ)) (inner : List ℕ) → Batches batch commands inner
    → Batches batch' commands' inner → AllCommands within commands → AllCommands within' commands' → (batch ≡ batch') × (commands ≡ commands')
same_inner true true within within' commands commands' inner is is' all all' = (refl, same_batch commands commands' inner is is')
same_inner true false within within' commands commands' inner is one all all' =
    absurd (let good : IsCommand within' inner = command_of within' commands' inner one all' in good.placed (inl (inl (is_batch commands inner is))))
same_inner false true within within' commands commands' inner one is all all' =
    absurd (let good : IsCommand within inner = command_of within commands inner one all in good.placed (inl (inl (is_batch commands' inner is))))
same_inner false false within within' commands commands' inner one one' all all' = (refl, one ∙ sym one')

-- bytes are related to one plan, as it is opened, and to one list of commands
pub one_plan : (plan plan' : Plan) (commands commands' : List (List ℕ)) (bytes : List ℕ) → Wraps plan commands bytes → Wraps plan' commands' bytes
    → (seen_of plan ≡ seen_of plan') × (commands ≡ commands')
one_plan plan plan' commands commands' bytes wraps wraps' =
    let same = same_core (is_crc16 plan.outer) (is_crc16 plan'.outer) plan.channel plan'.channel plan.session plan'.session wraps.batched wraps'.batched bytes
    (peels_of plan commands bytes wraps) (peels_of plan' commands' bytes wraps') in
    let batches' : Batches plan'.batch commands' wraps.batched = subst (λ (x : List ℕ). Batches plan'.batch commands' x) (sym same.same_in) wraps'.batches in
    let inner = same_inner plan.batch plan'.batch (is_within plan) (is_within plan') commands commands' wraps.batched wraps.batches batches' wraps.plain wraps'.plain in (
      ap (λ (b : Bool). record { batch = b; session = plan.session; channel = plan.channel; outer = outer_of (is_crc16 plan.outer) }) inner.0
          ∙ ap (λ (s : Option Supervised). record { batch = plan'.batch; session = s; channel = plan.channel; outer = outer_of (is_crc16 plan.outer) }) same.same_su
          ∙ ap (λ (o : Option Ends). record { batch = plan'.batch; session = plan'.session; channel = o; outer = outer_of (is_crc16 plan.outer) }) same.same_ch
          ∙ ap (λ (c : Bool). record { batch = plan'.batch; session = plan'.session; channel = plan'.channel; outer = outer_of c }) same.same_crc,
      inner.1,
    )

-- what was opened is what a plan relates
pub opened_only : (result : Result Opened WrapFault) (bytes : List ℕ) → IfOk result (λ opened. Wraps opened.plan opened.commands.items bytes)
    → IfOk result (λ opened. opened.plan ≡ seen_of opened.plan)
    → (plan : Plan) (commands : List (List ℕ)) → Wraps plan commands bytes
    → IfOk result (λ opened. (opened.plan ≡ seen_of plan) × (opened.commands.items ≡ commands))
opened_only (Ok opened) bytes wraps seen plan commands related =
    let same = one_plan opened.plan plan opened.commands.items commands bytes wraps related in (seen ∙ same.0, same.1)
opened_only (Err fault) bytes wraps seen plan commands related = tt

-- and only memory can run out
pub opened_all : (result : Result Opened WrapFault) (bytes : List ℕ) → IfErr result (λ fault. MayAnswer bytes fault)
    → (plan : Plan) (commands : List (List ℕ)) → Wraps plan commands bytes → IfErr result (λ fault. fault ≡ NoMemory)
opened_all (Ok opened) bytes may plan commands related = tt
opened_all (Err fault) bytes may plan commands related = no_fault plan commands bytes fault related may
