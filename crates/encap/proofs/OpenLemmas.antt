-- What is taken off is what the plan relates.
use Rattle.std.proofs.Common.{◌≡◌, ℕ, ◌-◌, List, [], ◌∷◌, length, take, drop, Bool, true, false, Some, None, refl, sym, ◌∙◌, ap, subst, inl, inr, arith, length-drop}
use Rattle.std.proofs.lemmas.List.{take_all}
use Rattle.std.specs.Prelude.{Option, IsTrue}
use Rattle.encap.specs.Begins.{IsMultiCommand}
use Rattle.encap.specs.Wraps.{Wraps, IsListOf, IsBatchOf, IsCommand, AllCommands, Supervises, Addresses, Checks, has_outer_wrap, is_crc16}
use Rattle.encap.specs.Layers.{TakesCrc16Off, TakesChannelOff, TakesSupervisionOff, Peels, outer_of}
use Rattle.encap.specs.declared.plan.Supervised.{Supervised}
use Rattle.encap.specs.Faults.{IsFirstFault, MayAnswerBatch}
use Rattle.encap.specs.declared.plan.Ends.{Ends}
use Rattle.encap.specs.declared.plan.Outer.{Outer}
use Rattle.encap.specs.declared.fault.WrapFault.{WrapFault}
use Rattle.encap.specs.declared.fault.WrapFault.TheVariants.{OutOfOrder, Length, BadCrc, TooLong, BitAddress, NoMemory}

checks_of : (crc : Bool) (inner bytes : List ℕ) → TakesCrc16Off crc inner bytes → Checks (outer_of crc) inner bytes
checks_of true inner bytes off = off
checks_of false inner bytes off = sym off.1

addresses_of : (channel : Option Ends) (inner bytes : List ℕ) → TakesChannelOff channel inner bytes → Addresses channel inner bytes
addresses_of None inner bytes off = sym off.1
addresses_of (Some ends) inner bytes off = off

supervises_of : (session : Option Supervised) (inner bytes : List ℕ) → TakesSupervisionOff session inner bytes → Supervises session inner bytes
supervises_of None inner bytes off = sym off.1
supervises_of (Some session) inner bytes off = off

crc16_of : (crc : Bool) → is_crc16 (outer_of crc) ≡ crc
crc16_of true = refl
crc16_of false = refl

-- a batch in what was taken off
pub opens_batch : (crc : Bool) (channel : Option Ends) (session : Option Supervised) (inner bytes : List ℕ) (commands : List (List ℕ))
    → Peels crc channel session inner bytes → IsBatchOf commands inner → AllCommands true commands
    → Wraps (record { batch = true; session = session; channel = channel; outer = outer_of crc }) commands bytes
opens_batch crc channel session inner bytes commands peels batch all = record {
  batched = inner;
  supervised = peels.addressed;
  addressed = peels.checked;
  plain = all;
  batches = batch;
  supervises = supervises_of session inner peels.addressed peels.supervision_off;
  addresses = addresses_of channel peels.addressed peels.checked peels.channel_off;
  checks = checks_of crc peels.checked bytes peels.crc16_off;
}

-- a command alone
pub opens_alone : (crc : Bool) (channel : Option Ends) (session : Option Supervised) (inner bytes : List ℕ) (commands : List (List ℕ))
    → Peels crc channel session inner bytes → commands ≡ inner ∷ [] → IsCommand (has_outer_wrap crc channel session) inner
    → Wraps (record { batch = false; session = session; channel = channel; outer = outer_of crc }) commands bytes
opens_alone crc channel session inner bytes commands peels one good = record {
  batched = inner;
  supervised = peels.addressed;
  addressed = peels.checked;
  plain = subst (λ (x : List (List ℕ)). AllCommands (has_outer_wrap (is_crc16 (outer_of crc)) channel session) x) (sym one)
      (subst (λ (b : Bool). IsCommand (has_outer_wrap b channel session) inner) (sym (crc16_of crc)) good, tt);
  batches = one;
  supervises = supervises_of session inner peels.addressed peels.supervision_off;
  addresses = addresses_of channel peels.addressed peels.checked peels.channel_off;
  checks = checks_of crc peels.checked bytes peels.crc16_off;
}

-- either, by what the bytes begin with
pub opens : (batch crc within : Bool) (channel : Option Ends) (session : Option Supervised) (outer : Outer) (inner bytes : List ℕ) (commands : List (List ℕ))
    → Peels crc channel session inner bytes → (IsTrue batch → IsMultiCommand inner) × (IsMultiCommand inner → IsTrue batch)
    → within ≡ has_outer_wrap crc channel session → outer ≡ outer_of crc
    → (IsMultiCommand inner → IsBatchOf commands inner × AllCommands true commands)
    → ((¬ IsMultiCommand inner) → (commands ≡ inner ∷ []) × IsCommand within inner)
    → Wraps (record { batch = batch; session = session; channel = channel; outer = outer }) commands bytes
opens true crc within channel session outer inner bytes commands peels begins w o batch alone =
    let all = batch (begins.0 refl) in
    subst (λ (x : Outer). Wraps (record { batch = true; session = session; channel = channel; outer = x }) commands bytes) (sym o)
    (opens_batch crc channel session inner bytes commands peels all.0 all.1)
opens false crc within channel session outer inner bytes commands peels begins w o batch alone =
    let one = alone (λ is. let bad : false ≡ true = begins.1 is in absurd (cc)) in
    subst (λ (x : Outer). Wraps (record { batch = false; session = session; channel = channel; outer = x }) commands bytes) (sym o)
    (opens_alone crc channel session inner bytes commands peels one.0 (subst (λ (x : Bool). IsCommand x inner) w one.1))

never_memory : (commands : List (List ℕ)) → IsFirstFault true commands NoMemory → ⊥
never_memory [] bad = bad
never_memory (command ∷ commands) (inl bad) = bad
never_memory (command ∷ commands) (inr later) = never_memory commands later.1

-- a fault of one of the commands is one of the batch
pub batch_answer : (inner : List ℕ) (commands : List (List ℕ)) (fault : WrapFault) → IsBatchOf commands inner → IsFirstFault true commands fault
    → MayAnswerBatch inner fault
batch_answer inner commands NoMemory is bad = absurd (never_memory commands bad)
batch_answer inner commands (Length said got) is bad = inr (commands, is, bad)
batch_answer inner commands BitAddress is bad = inr (commands, is, bad)
batch_answer inner commands (BadCrc want got) is bad = inr (commands, is, bad)
batch_answer inner commands (OutOfOrder class) is bad = inr (commands, is, bad)
batch_answer inner commands (TooLong len) is bad = inr (commands, is, bad)

-- the commands of a batch are listed after its count
pub list_of_batch : (commands : List (List ℕ)) (inner : List ℕ) → IsBatchOf commands inner → IsListOf commands (take (length inner - 3) (drop 3 inner))
list_of_batch commands inner is = record {
  fit = is.fit;
  text = take_all (length inner - 3) (drop 3 inner) (omega (arith, length-drop 3 inner)) ∙ ap (drop 3) is.text;
}
