-- The lines that are always the same (this project's). A line is a text and a line feed.
use Rattle.std.specs.Prelude.{ℕ, List, [], ◌∷◌, codes}
use Rattle.vol_base.specs.FaultTexts.{texts}

-- what ends a line
abbrev pub line_feed : List ℕ
line_feed = 10 ∷ []

-- the lines that are always the same
abbrev pub usage_line : List ℕ
usage_line = texts (codes "usage" ∷ line_feed ∷ [])

abbrev pub folder_line : List ℕ
folder_line = texts (codes "folder not empty" ∷ line_feed ∷ [])

abbrev pub store_line : List ℕ
store_line = texts (codes "store fault" ∷ line_feed ∷ [])

abbrev pub feed_line : List ℕ
feed_line = texts (codes "feed fault" ∷ line_feed ∷ [])

abbrev pub output_line : List ℕ
output_line = texts (codes "output fault" ∷ line_feed ∷ [])

abbrev pub memory_line : List ℕ
memory_line = texts (codes "out of memory" ∷ line_feed ∷ [])

abbrev pub door_line : List ℕ
door_line = texts (codes "door fault" ∷ line_feed ∷ [])
