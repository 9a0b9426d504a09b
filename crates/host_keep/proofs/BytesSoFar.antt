-- Bytes that are read one after another: what is read and what is left are all.
use Rattle.std.proofs.Common.{◌≡◌, ℕ, zero, suc, ◌+◌, ◌<◌, ◌≤◌, List, [], ◌∷◌, ◌++◌, length, get_or, drop, Result, Ok, Err, refl, sym, ap, ◌∙◌, arith, add-one, append_assoc, append-nil}
use Rattle.std.proofs.lemmas.List.{drop_all}
use Rattle.std.proofs.Math.Seq.{drop-cons}
use Rattle.host_keep.specs.RowReading.{◌>>=◌, Gives, byte_in, bytes_in}
use Rattle.host_keep.specs.declared.reading.RecordFault.{RecordFault}
use Rattle.host_keep.specs.declared.reading.RecordFault.TheVariants.{Bad, NoMemory}

-- of the bytes from `at` on these were read, and those from `i` on are left
pub record IsSoFar (at : ℕ) (numbers done : List ℕ) (i : ℕ) : Type 0 where
  pub all : bytes_in (drop at numbers) ≡ (bytes_in (drop i numbers) >>= λ rest. Ok (done ++ rest))

same_again : (r : Result (List ℕ) RecordFault) → r ≡ (r >>= λ rest. Ok ([] ++ rest))
same_again (Ok bytes) = refl
same_again (Err fault) = refl

pub so_far_begin : (at : ℕ) (numbers : List ℕ) → IsSoFar at numbers [] at
so_far_begin at numbers = record { all = same_again (bytes_in (drop at numbers)) }

one_more : (r : Result (List ℕ) RecordFault) (done : List ℕ) (b : ℕ)
    → ((r >>= λ bytes. Ok (b ∷ bytes)) >>= λ rest. Ok (done ++ rest)) ≡ (r >>= λ rest. Ok ((done ++ b ∷ []) ++ rest))
one_more (Ok bytes) done b = ap Ok (sym (append_assoc done (b ∷ []) bytes))
one_more (Err fault) done b = refl

prefix : (numbers : List ℕ) (i : ℕ) → i < length numbers → drop i numbers ≡ get_or numbers i 0 ∷ drop (i + 1) numbers
prefix numbers i h = rw add-one (drop-cons numbers i 0 h)

pub so_far_one : (at : ℕ) (numbers done : List ℕ) (i b : ℕ) → i < length numbers → byte_in (get_or numbers i 0) ≡ Ok b → IsSoFar at numbers done i → IsSoFar at numbers (done ++ b ∷ []) (i + 1)
so_far_one at numbers done i b h is so = record {
  all = so.all
      ∙ ap (λ xs. bytes_in xs >>= λ rest. Ok (done ++ rest)) (prefix numbers i h)
      ∙ ap (λ x. (x >>= λ byte. (bytes_in (drop (i + 1) numbers) >>= λ bytes. Ok (byte ∷ bytes))) >>= λ rest. Ok (done ++ rest)) is
      ∙ one_more (bytes_in (drop (i + 1) numbers)) done b;
}

pub so_far_bad : (at : ℕ) (numbers done : List ℕ) (i : ℕ) → i < length numbers → byte_in (get_or numbers i 0) ≡ Err Bad → IsSoFar at numbers done i → bytes_in (drop at numbers) ≡ Err Bad
so_far_bad at numbers done i h is so =
    so.all
    ∙ ap (λ xs. bytes_in xs >>= λ rest. Ok (done ++ rest)) (prefix numbers i h)
    ∙ ap (λ x. (x >>= λ byte. (bytes_in (drop (i + 1) numbers) >>= λ bytes. Ok (byte ∷ bytes))) >>= λ rest. Ok (done ++ rest)) is

pub so_far_end : (at : ℕ) (numbers done : List ℕ) (i : ℕ) → length numbers ≤ i → IsSoFar at numbers done i → bytes_in (drop at numbers) ≡ Ok done
so_far_end at numbers done i h so =
    so.all ∙ ap (λ xs. bytes_in xs >>= λ rest. Ok (done ++ rest)) (drop_all i numbers h) ∙ ap Ok (append-nil done)

-- a byte that is refused is bad
pub bad_given : (fault : RecordFault) (n : ℕ) (s : Result (List ℕ) RecordFault) → Err fault ≡ byte_in n → (byte_in n ≡ Err Bad → s ≡ Err Bad) → Gives (Err fault) s
bad_given Bad n s e k = k (sym e)
bad_given NoMemory n s e k = tt
