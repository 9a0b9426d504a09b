-- What is kept of the frames on the air, in place of the transcript (this project's own rule; Nonce Report is that of Security 0).
use Rattle.std.specs.Prelude.{ℕ, ◌+◌, ◌-◌, ◌==◌, ◌&&◌, ◌||◌, not, nat_le, nat_lt, Bool, true, false, if◌then◌else◌, List, [], ◌∷◌, ◌++◌, length, slice_get, slice_index_or, slice_set, replicate, Option, Some, None}
use Rattle.air_frames.specs.Ages.{is_class}
use Rattle.air_frames.specs.Nonces.{nonce_in, is_news}
use Rattle.zw_text.specs.declared.line.Line.{Line}
use Rattle.zw_text.specs.declared.line.Line.TheVariants as lines
use Rattle.zw_text.specs.declared.entry.Entry.{Entry}
use Rattle.zw_text.specs.declared.entry.Entry.TheVariants.{Air, Heard, Lost, Unheard}
use Rattle.law_transcript.specs.Nodes.{controller}
use Rattle.audit_books.specs.Scenes.{Scenery}
use Rattle.audit_books.specs.Beginning.{sessions_of}
use Rattle.audit_rules.specs.declared.frames.Flown.{Flown}
use Rattle.audit_rules.specs.declared.frames.Shown.{Shown}

-- the frames, whether something became of each in a tick, and the nonces that the controller showed each node, and each node the
-- controller
pub record Flying : Type 0 where
  pub frames : List Flown
  pub landed : List Bool
  pub outward : List Shown
  pub homeward : List Shown

-- ---- nonces

abbrev pub no_nonces : Shown
no_nonces = record { count = 0; last = None }

unfoldable pub none_shown : List Shown
none_shown = replicate 233 no_nonces

abbrev pub shown_at : List Shown → ℕ → Shown
shown_at table node = slice_index_or table node no_nonces

-- with one more nonce, where there is one
abbrev pub counted : Shown → Option (List ℕ) → Shown
counted before None = before
counted before (Some nonce) = record { count = before.count + (if is_news before.last nonce then 1 else 0); last = Some nonce }

-- the nonces of all nodes with one more of that node, where it is shown there
abbrev pub shown_if : Bool → ℕ → Option (List ℕ) → List Shown → List Shown
shown_if true node found table = slice_set table node (counted (shown_at table node) found)
shown_if false node found table = table

-- how many new nonces a node and the controller have shown each other
abbrev pub shown_count : Flying → ℕ → ℕ
shown_count flying node = (shown_at flying.homeward node).count + (shown_at flying.outward node).count

-- ---- frames

abbrev pub no_frames : Flying
no_frames = record { frames = []; landed = []; outward = none_shown; homeward = none_shown }

-- the end of a frame that is not the controller
abbrev pub node_between : (sender receiver : ℕ) → ℕ
node_between sender receiver = if sender == controller then receiver else sender

-- what is there of the frame of a number, which counts from 1
abbrev pub at_number : {A : Type 0} → List A → ℕ → Option A
at_number items number = if nat_lt 0 number then slice_get items (number - 1) else None

abbrev pub is_there : Flying → ℕ → Bool
is_there flying number = nat_lt 0 number && nat_le number (length flying.frames)

abbrev pub is_true : Option Bool → Bool
is_true None = false
is_true (Some holds) = holds

abbrev pub lands : Flying → ℕ → Bool
lands flying number = is_true (at_number flying.landed number)

-- whether a frame is fresh, by its class and what was counted since
abbrev pub is_young : (segment sealed : Bool) → (later nonces : ℕ) → Bool
is_young segment sealed later nonces =
    nat_lt later 62 && ((not segment || nat_lt later 14) && (not sealed || nat_lt nonces 120))

abbrev pub is_fresh_now : Flying → List (List ℕ) → Option Flown → Bool
is_fresh_now flying nodes None = false
is_fresh_now flying nodes (Some flown) =
    is_young flown.segment flown.sealed (length (sessions_of nodes flown.node) - flown.begun) (shown_count flying flown.node - flown.shown)

-- with the nonce of a payload
abbrev pub showing : Flying → (sender receiver : ℕ) → List ℕ → Flying
showing flying sender receiver payload = record flying {
  outward = shown_if (sender == controller) receiver (nonce_in payload) flying.outward;
  homeward = shown_if (receiver == controller) sender (nonce_in payload) flying.homeward;
}

-- with a frame, as the counts of its node stand
abbrev pub with_frame : Flying → List (List ℕ) → ℕ → List ℕ → Flying
with_frame flying nodes node payload = record flying {
  frames = flying.frames ++ (record {
    node = node;
    segment = is_class payload 0x55;
    sealed = is_class payload 0x98;
    begun = length (sessions_of nodes node);
    shown = shown_count flying node;
  } ∷ []);
  landed = flying.landed ++ (false ∷ []);
}

-- after a frame
abbrev pub sending : Flying → List (List ℕ) → (sender receiver : ℕ) → List ℕ → Flying
sending flying nodes sender receiver payload = with_frame (showing flying sender receiver payload) nodes (node_between sender receiver) payload

-- after something became of a frame in a tick
abbrev pub landing : Flying → ℕ → Flying
landing flying number = if nat_lt 0 number then record flying { landed = slice_set flying.landed (number - 1) true } else flying

abbrev pub landing_if : Bool → Flying → ℕ → Flying
landing_if ticks flying number = if ticks then landing flying number else flying

-- ---- entries

-- whether the line asks for the frame once more
abbrev pub repeats_frame : Option Line → ℕ → Bool
repeats_frame (Some (lines.Repeat asked)) frame = asked == frame
repeats_frame _ frame = false

abbrev pub breaks_landing : Flying → Scenery → ℕ → Bool
breaks_landing flying scene frame = not (is_there flying frame) || (scene.ticks && lands flying frame)

abbrev pub may_hear_now : Flying → Scenery → List (List ℕ) → ℕ → Bool
may_hear_now flying scene nodes frame =
    scene.ticks || (repeats_frame scene.line frame && is_fresh_now flying nodes (at_number flying.frames frame))

-- whether an entry breaks the rule of the air, by these tables
abbrev pub breaks_flying : Flying → Scenery → List (List ℕ) → Entry → Bool
breaks_flying flying scene nodes (Air frame sender receiver repeaters payload) = not (frame == length flying.frames + 1)
breaks_flying flying scene nodes (Lost frame) = breaks_landing flying scene frame
breaks_flying flying scene nodes (Unheard frame) = breaks_landing flying scene frame
breaks_flying flying scene nodes (Heard frame) = breaks_landing flying scene frame || not (may_hear_now flying scene nodes frame)
breaks_flying flying scene nodes _ = false

-- after one more entry
abbrev pub flying_after : Flying → Scenery → List (List ℕ) → Entry → Flying
flying_after flying scene nodes (Air frame sender receiver repeaters payload) = sending flying nodes sender receiver payload
flying_after flying scene nodes (Heard frame) = landing_if scene.ticks flying frame
flying_after flying scene nodes (Lost frame) = landing_if scene.ticks flying frame
flying_after flying scene nodes (Unheard frame) = landing_if scene.ticks flying frame
flying_after flying scene nodes _ = flying
