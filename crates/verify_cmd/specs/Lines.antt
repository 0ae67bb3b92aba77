-- The lines of `verify` alone (this project's). A line is a text and a line feed.
use Rattle.std.specs.Prelude.{ℕ, ℤ, List, [], ◌∷◌, codes, slice_index}
use Rattle.std.specs.Fmt.{decimal, signed_decimal}
use Rattle.vol_base.specs.Boxes.{at}
use Rattle.vol_base.specs.FaultTexts.{fault_text, texts}
use Rattle.vol_base.specs.declared.faults.Fault.{Fault}
use Rattle.vol_shell.specs.Lines.{line_feed}

-- what `verify` prints: how many cells were judged, and of how many the chunk is stored, and absent
abbrev pub verified_line : ℕ → ℕ → ℕ → List ℕ
verified_line cells stored absent =
    texts (codes "cells " ∷ decimal cells ∷ codes " stored " ∷ decimal stored ∷ codes " absent "
    ∷ decimal absent ∷ line_feed ∷ [])

-- a row of a minishard's index whose id belongs into another: the shard and the minishard that have the row, and
-- the id
abbrev pub misplaced_line : ℕ → ℕ → ℕ → List ℕ
misplaced_line shard minishard id =
    texts (codes "misplaced " ∷ decimal shard ∷ codes " " ∷ decimal minishard ∷ codes " " ∷ decimal id
    ∷ line_feed ∷ [])

-- the first damaged cell of a further view: the view's number, the cell by its numbers in the view's grid, and its fault
abbrev pub view_damaged_line : ℕ → List ℕ → Fault → List ℕ
view_damaged_line view cell fault =
    texts (codes "damaged in " ∷ decimal view ∷ codes " " ∷ decimal (slice_index cell 0) ∷ codes ","
    ∷ decimal (slice_index cell 1) ∷ codes "," ∷ decimal (slice_index cell 2)
    ∷ codes ": " ∷ fault_text fault ∷ line_feed ∷ [])

-- a position, as `-1,0,5`
abbrev pub place_text : List ℤ → List ℕ
place_text place = texts (signed_decimal (at place 0) ∷ codes "," ∷ signed_decimal (at place 1) ∷ codes ","
    ∷ signed_decimal (at place 2) ∷ [])

-- a value of a further view that isn't the first view's: the view's number, the position and the channel, the value that
-- was found there, and the first view's
abbrev pub conflict_line : ℕ → List ℤ → ℕ → ℕ → ℕ → List ℕ
conflict_line view place channel found wanted =
    texts (codes "conflict " ∷ decimal view ∷ codes " " ∷ place_text place ∷ codes " " ∷ decimal channel
    ∷ codes " " ∷ decimal found ∷ codes " " ∷ decimal wanted ∷ line_feed ∷ [])
