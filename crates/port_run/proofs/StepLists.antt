-- Steps of a port, one after another.
use Rattle.std.proofs.Common.{◌≡◌, ℕ, ◌+◌, ◌≤◌, List, [], ◌∷◌, ◌++◌, length, refl, ap, sym, ◌∙◌, subst, append_assoc, append-nil, length-append, arith}
use Rattle.std.specs.Prelude.{Option, Some, None}
use Rattle.std.proofs.lemmas.Grind.{flat_map-append}
use Rattle.std.specs.Io.KnownBytes.{Keeps, Consumes, Appends}
use Rattle.std.proofs.KnownBytes.{Keeps-refl, Keeps-trans, Appends-nil, Appends-trans}
use Rattle.run_lines.specs.Writing.{AppendsPrefix}
use Rattle.run_lines.proofs.Pieces.{AppendsPrefix-append}
use Rattle.run_lines.specs.declared.reader.TheConstants.{MAX_INPUT}
use Rattle.host_model.specs.declared.out.HostOut.{HostOut}
use Rattle.port_run.specs.declared.stop.Stop.{Stop}
use Rattle.port_run.specs.declared.stop.Stop.TheVariants.{ReadFault, WriteFault, InputTooLong, NoMemory}
use Rattle.port_run.specs.Steps.{Place, Step, Asks, Takes, Rests, Ticks, Pumps, Ran, AllRan}
use Rattle.port_run.specs.Serving.{unit_bytes, units_of, WritesFirst, Wrote, Halts, bytes_at, bytes_of, Reads, Went, EndsReading, Broke}

-- ---- runs of the host

pub ran_one : (step : Step) (old new : Place) (outs : List HostOut) → Ran step old new outs → AllRan (step ∷ []) old new outs
ran_one step old new outs ran = (new, outs, [], ran, (refl, refl), sym (append-nil outs))

pub ran_both : (first later : List Step) (a b c : Place) (x y : List HostOut) → AllRan first a b x → AllRan later b c y → AllRan (first ++ later) a c (x ++ y)
ran_both [] later a b c x y none more = subst (λ (p : Place). AllRan later p c (x ++ y)) none.0 (subst (λ (o : List HostOut). AllRan later b c (o ++ y)) (sym none.1) more)
ran_both (step ∷ first) later a b c x y (mid, one, rest, ran, all, are) more =
    (mid, one, rest ++ y, ran, ran_both first later mid b c rest y all more, ap (λ (o : List HostOut). o ++ y) are ∙ append_assoc one rest y)

-- ---- units

pub units-append : (x y : List HostOut) → units_of (x ++ y) ≡ units_of x ++ units_of y
units-append x y = flat_map-append unit_bytes x y

pub wrote_both : (first later : List Step) (a b c : Place) (s t u : Option (List ℕ)) → Wrote first a b s t → Wrote later b c t u → Wrote (first ++ later) a c s u
wrote_both first later a b c s t u one two = record {
  outs = one.outs ++ two.outs;
  ran = ran_both first later a b c one.outs two.outs one.ran two.ran;
  written = subst (λ (l : List ℕ). Appends s u l) (sym (units-append one.outs two.outs)) (Appends-trans s t u (units_of one.outs) (units_of two.outs) one.written two.written);
}

-- all units of the first list were written, and then the first ones of the later list
first_after : (s t u : Option (List ℕ)) (first later : List HostOut) → Appends s t (units_of first) → WritesFirst t u later → WritesFirst s u (first ++ later)
first_after s t u first later one (prefix, rest, are, two) = (
  first ++ prefix,
  rest,
  ap (λ (o : List HostOut). first ++ o) are ∙ sym (append_assoc first prefix rest),
  subst (λ (l : List ℕ). Appends s u l) (sym (units-append first prefix)) (Appends-trans s t u (units_of first) (units_of prefix) one two),
)

pub halts_after : (stop : Stop) (first later : List Step) (a b c : Place) (s t u : Option (List ℕ)) → Wrote first a b s t → Halts stop later b c t u → Halts stop (first ++ later) a c s u
halts_after ReadFault first later a b c s t u one two = wrote_both first later a b c s t u one two
halts_after InputTooLong first later a b c s t u one two = wrote_both first later a b c s t u one two
halts_after WriteFault first later a b c s t u one two = record {
  outs = one.outs ++ two.outs;
  ran = ran_both first later a b c one.outs two.outs one.ran two.ran;
  written = subst (λ (l : List ℕ). AppendsPrefix s u l) (sym (units-append one.outs two.outs)) (AppendsPrefix-append s t u (units_of one.outs) (units_of two.outs) one.written two.written);
}
halts_after NoMemory first later a b c s t u one two = record {
  mid = two.mid;
  some = one.outs ++ two.some;
  all = one.outs ++ two.all;
  ran = ran_both first later a b two.mid one.outs two.some one.ran two.ran;
  events = two.events;
  did = record {
    may = two.did.may;
    state = two.did.state;
    outs = ap (λ (o : List HostOut). one.outs ++ o) two.did.outs ∙ sym (append_assoc one.outs two.some _);
    records = two.did.records;
    rose = two.did.rose;
    never_falls = two.did.never_falls;
  };
  written = first_after s t u one.outs two.all one.written two.written;
}

-- ---- what is read

pub bytes-append : (first later : List Step) → bytes_of (first ++ later) ≡ bytes_of first ++ bytes_of later
bytes-append first later = flat_map-append bytes_at first later

pub count-append : (first later : List Step) → length (bytes_of (first ++ later)) ≡ length (bytes_of first) + length (bytes_of later)
count-append first later = ap length (bytes-append first later) ∙ length-append (bytes_of first) (bytes_of later)

Consumes-after : (a b c : Option (List ℕ)) (bs : List ℕ) → Keeps a b → Consumes b c bs → Consumes a c bs
Consumes-after None b c bs kept q = tt
Consumes-after (Some x) None c bs kept q = absurd kept
Consumes-after (Some x) (Some y) None bs kept q = absurd q
Consumes-after (Some x) (Some y) (Some z) bs kept q = sym kept ∙ q

-- what was left is told on
reads_kept : (steps : List Step) (a b c : Option (List ℕ)) → Keeps a b → Reads steps b c → Reads steps a c
reads_kept [] a b c kept more = Keeps-trans a b c kept more
reads_kept (Takes bytes ∷ steps) a b c kept (mid, took, more) = (mid, Consumes-after a b mid bytes kept took, more)
reads_kept (Rests ∷ steps) a b c kept (mid, took, ended, more) = (mid, Consumes-after a b mid [] kept took, ended, more)
reads_kept (Asks line answer ∷ steps) a b c kept more = reads_kept steps a b c kept more
reads_kept (Ticks ∷ steps) a b c kept more = reads_kept steps a b c kept more
reads_kept (Pumps ∷ steps) a b c kept more = reads_kept steps a b c kept more

pub reads_both : (first later : List Step) (a b c : Option (List ℕ)) → Reads first a b → Reads later b c → Reads (first ++ later) a c
reads_both [] later a b c one two = reads_kept later a b c one two
reads_both (Takes bytes ∷ first) later a b c (mid, took, more) two = (mid, took, reads_both first later mid b c more two)
reads_both (Rests ∷ first) later a b c (mid, took, ended, more) two = (mid, took, ended, reads_both first later mid b c more two)
reads_both (Asks line answer ∷ first) later a b c one two = reads_both first later a b c one two
reads_both (Ticks ∷ first) later a b c one two = reads_both first later a b c one two
reads_both (Pumps ∷ first) later a b c one two = reads_both first later a b c one two

-- ---- both

pub went_nothing : (a : Place) (s l : Option (List ℕ)) (n : ℕ) → Went [] a a s s l l n n
went_nothing a s l n = record {
  wrote = record { outs = []; ran = (refl, refl); written = Appends-nil s };
  reads = Keeps-refl l;
  count = omega arith;
}

pub went_both : (first later : List Step) (a b c : Place) (s t u l m n : Option (List ℕ)) (i j k : ℕ) → Went first a b s t l m i j → Went later b c t u m n j k
    → Went (first ++ later) a c s u l n i k
went_both first later a b c s t u l m n i j k one two = record {
  wrote = wrote_both first later a b c s t u one.wrote two.wrote;
  reads = reads_both first later l m n one.reads two.reads;
  count = omega (arith, one.count, two.count, count-append first later);
}

-- a later run broke off, and so did the whole
pub broke_after : (Cut Whole : Stop → List Step → Type 0) (stop : Stop) (first : List Step) (a b c : Place) (s t u l m n : Option (List ℕ)) (i j : ℕ)
    → Went first a b s t l m i j → Broke Cut stop b c t u m n j → ((later : List Step) → Cut stop later → Whole stop (first ++ later)) → Broke Whole stop a c s u l n i
broke_after Cut Whole stop first a b c s t u l m n i j one two so =
    let sums : i + length (bytes_of (first ++ two.steps)) ≡ j + length (bytes_of two.steps) = omega (arith, one.count, count-append first two.steps) in
    record {
      steps = first ++ two.steps;
      cut = so two.steps two.cut;
      halts = halts_after stop first two.steps a b c s t u one.wrote two.halts;
      mid = two.mid;
      reads = reads_both first two.steps l m two.mid one.reads two.reads;
      rest = two.rest;
      consumed = two.consumed;
      short = two.short;
      within = subst (λ (x : ℕ). x ≤ MAX_INPUT) (sym sums) two.within;
      ends = subst (λ (x : ℕ). EndsReading stop x two.rest) (sym sums) two.ends;
    }

pub broke_as : (Cut Whole : Stop → List Step → Type 0) (stop : Stop) (a b : Place) (s t l m : Option (List ℕ)) (i : ℕ)
    → Broke Cut stop a b s t l m i → ((steps : List Step) → Cut stop steps → Whole stop steps) → Broke Whole stop a b s t l m i
broke_as Cut Whole stop a b s t l m i one so = record {
  steps = one.steps;
  cut = so one.steps one.cut;
  halts = one.halts;
  mid = one.mid;
  reads = one.reads;
  rest = one.rest;
  consumed = one.consumed;
  short = one.short;
  within = one.within;
  ends = one.ends;
}

-- ---- one step

-- a step that reads nothing was done, and its units were written
pub went_one : (step : Step) (old new : Place) (outs : List HostOut) (s t l m : Option (List ℕ)) (n k : ℕ) → Ran step old new outs → Appends s t (units_of outs) → Reads (step ∷ []) l m
    → k ≡ n + length (bytes_of (step ∷ [])) → Went (step ∷ []) old new s t l m n k
went_one step old new outs s t l m n k ran written reads count = record {
  wrote = record { outs = outs; ran = ran_one step old new outs ran; written = written };
  reads = reads;
  count = count;
}
