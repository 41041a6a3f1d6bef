-- The text that a draft becomes.
use Rattle.std.specs.Prelude.{ℕ, List, ◌++◌}
use Rattle.base64.specs.Engines.{standard}
use Rattle.base64.specs.GeneralPurpose.{encode_of}
use Rattle.json.specs.Print.{escape}
use Rattle.script.specs.TextFields.{escaped}
use Rattle.script.specs.declared.coding.Coding.{Coding}
use Rattle.script.specs.declared.coding.Coding.TheVariants.{Plain, Percent, Json, Base64}
use Rattle.script.specs.declared.draft.Part.{Part}

-- The text of a body in a coding: as it is; percent-encoded; as the content of a JSON string; or in base64, as the content of a
-- JSON string.
abbrev pub coded : Coding → List ℕ → List ℕ
coded Plain body = body
coded Percent body = escaped body
coded Json body = escape body
coded Base64 body = escape (encode_of standard body)

-- How many bytes of a body are written at once: a multiple of three, whose text has at most 65,520 bytes.
abbrev pub slice_of : Coding → ℕ
slice_of Plain = 65520
slice_of Percent = 21840
slice_of Json = 10920
slice_of Base64 = 49140

-- The text of a part: its plain text, and then its body in its coding.
abbrev pub part_text : Part → List ℕ
part_text part = part.text.items ++ coded part.coding part.body

-- The most bytes of a piece, 64 KiB.
abbrev pub longest_piece : ℕ
longest_piece = 65536
