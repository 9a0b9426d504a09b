-- What entries say of a node.
use Rattle.std.proofs.Common.{◌≡◌, ℕ, Bool, true, false, cond, Option, Some, None, List, [], ◌∷◌, ◌++◌, refl, ap, sym, ◌∙◌}
use Rattle.std.specs.List.{flat_map}
use Rattle.std.proofs.lemmas.Grind.{flat_map-append}
use Rattle.std.proofs.lemmas.Bool.{eq-eqb, ne_eqb}
use Rattle.include_text.specs.declared.entry.IncludeEntry.{IncludeEntry}
use Rattle.air_frames.specs.declared.frame.Heading.{Heading}
use Rattle.air_frames.specs.declared.frame.Heading.TheVariants.{Outward, Homeward}
use Rattle.include_world.specs.Air.{AirState, air_entry, sent_entries, departing}
use Rattle.include_world.specs.World.{key_entries, secure_entries}
use Rattle.include_world.specs.Added.{Word, IsSecure, HasFailed, WasReset, of_node, word_in, key_in}

abbrev pub words : ℕ → List IncludeEntry → List Word
words node entries = flat_map (word_in node) entries

abbrev pub keys_in : ℕ → List IncludeEntry → List Bool
keys_in node entries = flat_map (key_in node) entries

-- whether a last word says that the node is secure
abbrev pub says_secure : Option Word → Bool
says_secure None = false
says_secure (Some IsSecure) = true
says_secure (Some HasFailed) = false
says_secure (Some WasReset) = false

-- entries that say nothing of the node
pub record Silent (node : ℕ) (entries : List IncludeEntry) : Type 0 where
  pub no_words : words node entries ≡ []
  pub no_keys : keys_in node entries ≡ []

pub silent_append : (node : ℕ) (xs ys : List IncludeEntry) → Silent node xs → Silent node ys → Silent node (xs ++ ys)
silent_append node xs ys a b = record {
  no_words = flat_map-append (word_in node) xs ys ∙ (ap (λ l. l ++ words node ys) a.no_words ∙ b.no_words);
  no_keys = flat_map-append (key_in node) xs ys ∙ (ap (λ l. l ++ keys_in node ys) a.no_keys ∙ b.no_keys);
}

pub silent_air : (node : ℕ) (air : AirState) (at : ℕ) (heading : Heading) (payload : List ℕ) → Silent node (air_entry air at heading payload ∷ [])
silent_air node air at Outward payload = record { no_words = refl; no_keys = refl }
silent_air node air at Homeward payload = record { no_words = refl; no_keys = refl }

pub silent_sent : (node : ℕ) (air : AirState) (at : ℕ) (heading : Heading) (replies : List (List ℕ)) → Silent node (sent_entries air at heading replies)
silent_sent node air at heading [] = record { no_words = refl; no_keys = refl }
silent_sent node air at heading (payload ∷ more) =
    silent_append node (air_entry air at heading payload ∷ []) (sent_entries (departing air at heading payload) at heading more)
    (silent_air node air at heading payload) (silent_sent node (departing air at heading payload) at heading more)

-- what is of another node says nothing
pub not_of : {A : Type 0} (node at : ℕ) (x : A) → (node ≡ at → ⊥) → of_node node at x ++ [] ≡ []
not_of node at x differ = ap (λ (b : Bool). cond b (x ∷ []) [] ++ []) (ne_eqb at node (λ e. differ (sym e)))

pub just_of : {A : Type 0} (node : ℕ) (x : A) → of_node node node x ++ [] ≡ x ∷ []
just_of node x = ap (λ (b : Bool). cond b (x ∷ []) [] ++ []) (eq-eqb node node refl)

pub key_of_other : (node at : ℕ) (old new : Option (List ℕ)) → (node ≡ at → ⊥) → Silent node (key_entries at old new)
key_of_other node at None None differ = record { no_words = refl; no_keys = refl }
key_of_other node at None (Some key) differ = record { no_words = refl; no_keys = not_of node at true differ }
key_of_other node at (Some key) new differ = record { no_words = refl; no_keys = refl }

pub secure_of_other : (node at : ℕ) (was is : Bool) → (node ≡ at → ⊥) → Silent node (secure_entries at was is)
secure_of_other node at false false differ = record { no_words = refl; no_keys = refl }
secure_of_other node at false true differ = record { no_words = not_of node at IsSecure differ; no_keys = refl }
secure_of_other node at true is differ = record { no_words = refl; no_keys = refl }

pub keys_no_words : (node at : ℕ) (old new : Option (List ℕ)) → words node (key_entries at old new) ≡ []
keys_no_words node at None None = refl
keys_no_words node at None (Some key) = refl
keys_no_words node at (Some key) new = refl

pub secure_no_keys : (node at : ℕ) (was is : Bool) → keys_in node (secure_entries at was is) ≡ []
secure_no_keys node at false false = refl
secure_no_keys node at false true = refl
secure_no_keys node at true is = refl
