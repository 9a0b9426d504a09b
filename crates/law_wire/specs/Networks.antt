-- The links and repeaters that the air has, and those that the chip knows, by the transcript so far (this project's own rule):
-- the air's are set by lines, the chip's table learns them where a node joins and where a line asks for it.
use Rattle.std.specs.Prelude.{ℕ, ◌==◌, ◌&&◌, ◌||◌, not, Bool, true, false, if◌then◌else◌, List, [], ◌∷◌, ◌++◌, filter, Option, Some, None}
use Rattle.std.specs.List.{list_any}
use Rattle.std.specs.FinSet as set
use Rattle.route_table.specs.Network.{Network, Link, link_of}
use Rattle.law_transcript.specs.device_sim.Kind.{listens}
use Rattle.law_transcript.specs.device_sim.State.{State}
use Rattle.zw_text.specs.declared.line.Line.{Line}
use Rattle.zw_text.specs.declared.line.Line.TheVariants as lines
use Rattle.zw_text.specs.declared.entry.Entry.{Entry}
use Rattle.zw_text.specs.declared.entry.Entry.TheVariants.{Said, Forget}
use Rattle.zw_text.specs.Transcript.{line_of, lines_run, joined}
use Rattle.law_transcript.specs.Nodes.{controller, first_node, device_of}
use Rattle.law_transcript.specs.Restarts.{begins_refused}

-- ---- links

-- whether two links are of the same nodes
abbrev pub same_link : Link → Link → Bool
same_link one other = (one.low == other.low) && (one.high == other.high)

-- whether two nodes hear each other by these links
abbrev pub are_linked : List Link → ℕ → ℕ → Bool
are_linked links a b = list_any (same_link (link_of a b)) links

-- these links with the link of two nodes, or without it; a node has none to itself
abbrev pub with_link : List Link → ℕ → ℕ → Bool → List Link
with_link links a b live =
    if live && not (a == b) then link_of a b ∷ links else filter (λ link. not (same_link (link_of a b) link)) links

-- a node, and the one that is joined from the start
abbrev pub first_links : List Link
first_links = link_of controller first_node ∷ []

-- ---- the air

-- the links after lines that set them
abbrev pub links_after : List Link → List Line → List Link
links_after links [] = links
links_after links (lines.Link a b ∷ more) = links_after (with_link links a b true) more
links_after links (lines.Unlink a b ∷ more) = links_after (with_link links a b false) more
links_after links (line ∷ more) = links_after links more

-- the live links of the air
abbrev pub air_links : List Entry → List Link
air_links past = links_after first_links (lines_run past)

-- ---- the chip's table

-- the links of a node to these nodes become those of the air
abbrev pub learned_of : List Link → ℕ → List ℕ → List Link → List Link
learned_of air node [] table = table
learned_of air node (other ∷ others) table = learned_of air node others (with_link table node other (are_linked air node other))

-- the links between these nodes become those of the air
abbrev pub learned : List Link → List ℕ → List Link → List Link
learned air [] table = table
learned air (node ∷ nodes) table = learned air nodes (learned_of air node nodes table)

-- the nodes that are known after a past: the controller and those that are joined
abbrev pub known_nodes : List Entry → List ℕ
known_nodes past = controller ∷ joined past

-- the table after a line: a node that joins brings its links to known nodes, and `discover` all links of these
abbrev pub table_by : List Entry → Bool → List Link → List Line → List Link
table_by past refused table (lines.Join node ∷ more) = if refused then table else learned_of (air_links past) node (known_nodes past) table
table_by past refused table (lines.Discover ∷ more) = learned (air_links past) (known_nodes past) table
table_by past refused table _ = table

-- the table after an entry, which may be a line that is refused
abbrev pub table_step : List Entry → Bool → List Link → Entry → List Link
table_step past refused table (Said words) = table_by past refused table (line_of (Said words))
table_step past refused table (Forget a b) = with_link table a b false
table_step past refused table _ = table

abbrev pub table_after : List Link → List Entry → List Entry → List Link
table_after table past [] = table
table_after table past (entry ∷ rest) = table_after (table_step past (begins_refused rest) table entry) (past ++ entry ∷ []) rest

-- the links of the chip's table
abbrev pub chip_links : List Entry → List Link
chip_links past = table_after first_links [] past

-- ---- networks

-- whether a device listens, where there is one
abbrev pub is_listener : Option State → Bool
is_listener None = false
is_listener (Some device) = listens device.kind

-- a node listens where its device does; the one that is joined from the start counts as listening
abbrev pub listens_at : List State → ℕ → Bool
listens_at devices node = (node == first_node) || is_listener (device_of node devices)

-- the repeaters: the joined nodes that listen
abbrev pub repeaters : List State → List Entry → List ℕ
repeaters devices past = filter (listens_at devices) (joined past)

-- a network of these links and repeaters
unfoldable pub network_of : List Link → List ℕ → Network
network_of links nodes = record { links = set.from_list links; repeaters = set.from_list nodes }

abbrev pub air_network : List State → List Entry → Network
air_network devices past = network_of (air_links past) (repeaters devices past)

abbrev pub chip_network : List State → List Entry → Network
chip_network devices past = network_of (chip_links past) (repeaters devices past)
