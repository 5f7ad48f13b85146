-- The RFC that an object is.
use Rattle.std.specs.Prelude.{ℕ, List, [], ◌∷◌, Option, Some, None, if◌then◌else◌, option_and_then}
use Rattle.serde_json.specs.Data.{Data}
use Rattle.serde_json.specs.Find.{as_object, as_str}
use Rattle.reg_ranges.specs.Rfcs.{PublishedRfc}
use Rattle.reg_ranges.specs.Texts.{is_within}
use Rattle.reg_ranges.specs.Words.{read_stream, read_track}
use Rattle.reg_ranges.specs.declared.evidence.Stream.{Stream}
use Rattle.reg_ranges.specs.declared.evidence.Track.{Track}
use Rattle.reg_core.specs.declared.item.Item.{Item}
use Rattle.reg_core.specs.declared.item.Item.TheVariants as item
use Rattle.reg_json.specs.Members.{member_in, is_among, number_form}

infixl 10 ◌>>=◌
abbrev ◌>>=◌ : {A B : Type 0} → Option A → (A → Option B) → Option B
part >>= f = option_and_then f part

abbrev pub stream_form : Data → Option Stream
stream_form json = option_and_then read_stream (as_str json)

abbrev pub track_form : Data → Option Track
track_form json = option_and_then read_track (as_str json)

abbrev pub rfc_items : List Item
rfc_items = item.Number ∷ item.Stream ∷ item.Track ∷ []

-- the RFC with these parts, where its number is one
abbrev pub rfc_with : ℕ → Stream → Track → Option PublishedRfc
rfc_with number stream track =
    if is_within 1 99999 number then Some
    (record { number = number; stream = stream; track = track }) else None

-- an object of exactly these members, each in its form
unfoldable pub rfc_form : Data → Option PublishedRfc
rfc_form json = do
  number ← member_in item.Number number_form json
  stream ← member_in item.Stream stream_form json
  track ← member_in item.Track track_form json
  if is_among rfc_items (as_object json) then rfc_with number stream track else None
