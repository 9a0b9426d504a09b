-- Where no node has woken none counts as awake, and so none is to be told that there is no more for it.
use Rattle.std.proofs.Common.{◌≡◌, ℕ, ◌==◌, ◌&&◌, not, Bool, true, false, if◌then◌else◌, List, [], ◌∷◌, ◌++◌, refl}
use Rattle.std.specs.List.{AllByRecursion}
use Rattle.zw_base.proofs.Each.{all-append}
use Rattle.zw_text.specs.declared.entry.Entry.{Entry}
use Rattle.zw_text.specs.declared.entry.Entry.TheVariants as entry
use Rattle.zw_text.specs.Transcript.{line_of, shown, wakings}
use Rattle.law_transcript.specs.Lists.{last_or}
use Rattle.law_transcript.specs.Restarts.{begins_refused, is_restart, since_restart, since_restart_from}
use Rattle.law_time.specs.Waking.{counts_awake}
use Rattle.law_time.specs.Queue.{woke_at}

abbrev pub Unwoken : Entry → Type 0
Unwoken (entry.Awake n) = ⊥
Unwoken e = Unit {0}

abbrev pub Are : List Entry → Type 0
Are told = AllByRecursion Unwoken told

all_unwoken : (told : List Entry) → shown woke_at told ≡ [] → Are told
all_unwoken [] none = tt
all_unwoken (entry.Awake n ∷ told) none = absurd (let bad : n ∷ shown woke_at told ≡ [] = none in cc)
all_unwoken (e ∷ told) none = (tt, all_unwoken told none)

since_unwoken : (past told : List Entry) → Are past → Are told → Are (since_restart_from past told)
since_unwoken past [] all more = all
since_unwoken past (e ∷ told) all more =
    by (is_restart (line_of e) && not (begins_refused told)) (since_unwoken [] told tt more.1)
    (since_unwoken (past ++ e ∷ []) told (all-append Unwoken past (e ∷ []) all (more.0, tt)) more.1)
  where
    by : (b : Bool) → Are (since_restart_from [] told) → Are (since_restart_from (past ++ e ∷ []) told) → Are (since_restart_from (if b then [] else past ++ e ∷ []) told)
    by true anew on = anew
    by false anew on = on

asleep_last : (n : ℕ) (told : List Entry) → Are told → last_or false (wakings n told) ≡ false
asleep_last n [] all = refl
asleep_last n (entry.Awake node ∷ told) all = absurd all.0
asleep_last n (entry.Asleep node ∷ told) all = by (node == n) (asleep_last n told all.1)
  where
    by : (b : Bool) → last_or false (wakings n told) ≡ false → last_or false ((if b then false ∷ [] else []) ++ wakings n told) ≡ false
    by true is = is
    by false is = is
asleep_last n (e ∷ told) all = asleep_last n told all.1

pub none_awake : (past : List Entry) (n : ℕ) → shown woke_at past ≡ [] → counts_awake n past ≡ false
none_awake past n none = asleep_last n (since_restart past) (since_unwoken [] past tt (all_unwoken past none))
