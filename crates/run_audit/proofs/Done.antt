-- A transcript in order is read to its end, and answered by `yes`.
use Rattle.std.proofs.Common.{◌≡◌, ℕ, ◌<◌, ◌≤◌, ◌++◌, List, [], length, Option, Some, None, arith, refl, sym, subst, ap, ◌∙◌, append-nil, length-append, inl, inr}
use Rattle.std.specs.Io.KnownBytes.{Consumes, IsAtEnd}
use Rattle.run_lines.specs.Complete.{IsDone}
use Rattle.run_lines.specs.Run.{IsShort}
use Rattle.run_lines.specs.declared.status.Status.{Status}
use Rattle.run_lines.specs.declared.status.Status.TheVariants.{Ok, ReadFault, WriteFault, NoMemory, InputTooLong, No}
use Rattle.audit.specs.Breaking.{Examined, HasOneAnswer}
use Rattle.audit.specs.declared.breaks.Break.{Break}
use Rattle.run_tools.specs.Input.{IsPast}
use Rattle.run_audit.specs.Audited.{HasAudited, IsInOrder}

too-long : (input bytes : List ℕ) (left : Option (List ℕ)) → Consumes (Some input) left bytes → IsShort input → IsPast bytes → ⊥
too-long input bytes None read short past = read
too-long input bytes (Some rest) read short past = omega (arith, ap length read, length-append bytes rest, short, past.long)

all-read : (input bytes : List ℕ) (left : Option (List ℕ)) → Consumes (Some input) left bytes → IsAtEnd left → input ≡ bytes
all-read input bytes None read ends = absurd read
all-read input bytes (Some rest) read ends = read ∙ ap (λ l. bytes ++ l) ends ∙ append-nil bytes

none-some : {A : Type 0} {x : A} → None ≡ Some x → ⊥
none-some e = cc

in-order : (input bytes : List ℕ) (left : Option (List ℕ)) (line : ℕ) (broken : Break) → HasOneAnswer → Consumes (Some input) left bytes → IsAtEnd left →
    Examined input None → Examined bytes (Some (line, broken)) → ⊥
in-order input bytes left line broken one read ends good found =
    none-some (one input None (Some (line, broken)) good (subst (λ l. Examined l (Some (line, broken))) (sym (all-read input bytes left read ends)) found))

done : (status : Status) (input : List ℕ) (left sink sink' : Option (List ℕ)) → HasOneAnswer → HasAudited status (Some input) left sink sink' → IsShort input → Examined input None →
    (status ≡ ReadFault → ⊥) → (status ≡ WriteFault → ⊥) → IsDone status
done Ok input left sink sink' one audited short good no-read no-write = inl refl
done NoMemory input left sink sink' one audited short good no-read no-write = inr refl
done ReadFault input left sink sink' one audited short good no-read no-write = absurd (no-read refl)
done WriteFault input left sink sink' one audited short good no-read no-write = absurd (no-write refl)
done InputTooLong input left sink sink' one audited short good no-read no-write = absurd (too-long input audited.input left audited.read short audited.ended.0)
done (No line) input left sink sink' one audited short good no-read no-write =
    absurd (in-order input audited.input left line audited.ended.2.0 one audited.read audited.ended.0 good audited.ended.2.1)
done other input left sink sink' one audited short good no-read no-write = absurd audited.ended.2

-- what the source has left is in order
pub done-well : (status : Status) (left left' sink sink' : Option (List ℕ)) → HasOneAnswer → HasAudited status left left' sink sink' → IsInOrder left →
    (status ≡ ReadFault → ⊥) → (status ≡ WriteFault → ⊥) → IsDone status
done-well status None left' sink sink' one audited good no-read no-write = absurd good
done-well status (Some input) left' sink sink' one audited good no-read no-write = done status input left' sink sink' one audited good.0 good.1 no-read no-write
