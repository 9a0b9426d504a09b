-- The text of each entry of a transcript of `include`. All of it is this project's own rule.
use Rattle.std.specs.Prelude.{ℕ, Bool, true, false, List, ◌++◌, codes, decimal}
use Rattle.hex.specs.Hex.{encode_upper}
use Rattle.zw_words.specs.Texts.{side_word}
use Rattle.include_text.specs.declared.line.IncludeLine.{IncludeLine}
use Rattle.include_text.specs.declared.entry.IncludeRefusal.{IncludeRefusal}
use Rattle.include_text.specs.declared.entry.IncludeRefusal.TheVariants.{Busy, Secure as IsSecure, NeverSent, Forgotten, Stale}
use Rattle.include_text.specs.declared.entry.IncludeEntry.{IncludeEntry}
use Rattle.include_text.specs.declared.entry.IncludeEntry.TheVariants.{Said, Time, Written, Air, Heard, Lost, Key, Secure, Failed, Refused, Node}
use Rattle.include_text.specs.Line.{first_word, number_in, word_text}

-- the words of a line, with one space between two
abbrev pub line_text : IncludeLine → List ℕ
line_text line = word_text (first_word line) ++ (codes " " ++ decimal (number_in line))

-- why a line is refused
abbrev pub refusal_text : IncludeRefusal → List ℕ
refusal_text Busy = codes "refused busy"
refusal_text IsSecure = codes "refused secure"
refusal_text NeverSent = codes "refused neversent"
refusal_text Forgotten = codes "refused forgotten"
refusal_text (Stale nonces) = codes "refused stale" ++ (codes " " ++ decimal nonces)

-- whether the host counts a node as secure, and whether its lock holds a key
abbrev pub secure_word : Bool → List ℕ
secure_word true = codes "secure"
secure_word false = codes "-"

abbrev pub key_word : Bool → List ℕ
key_word true = codes "key"
key_word false = codes "-"

-- the text of an entry, without a line feed
unfoldable pub entry_text : IncludeEntry → List ℕ
entry_text (Said line) = codes "> " ++ line_text line
entry_text (Time tick) = codes "t" ++ (codes " " ++ decimal tick)
entry_text (Written side unit) = side_word side ++ (codes " " ++ encode_upper unit)
entry_text (Air frame from to payload) =
    codes "air " ++ (decimal frame ++ (codes " " ++ (decimal from ++ (codes ">" ++ (decimal to ++ (codes " via - " ++ encode_upper payload))))))
entry_text (Heard frame) = codes "heard" ++ (codes " " ++ decimal frame)
entry_text (Lost frame) = codes "lost" ++ (codes " " ++ decimal frame)
entry_text (Key node) = codes "key" ++ (codes " " ++ decimal node)
entry_text (Secure node) = codes "secure" ++ (codes " " ++ decimal node)
entry_text (Failed node) = codes "failed" ++ (codes " " ++ decimal node)
entry_text (Refused refusal) = refusal_text refusal
entry_text (Node node secure key) =
    codes "node " ++ (decimal node ++ (codes " host " ++ (secure_word secure ++ (codes " device " ++ key_word key))))
