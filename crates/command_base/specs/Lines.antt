-- The lines that several commands print (this project's). A line is a text and a line feed.
use Rattle.std.specs.Prelude.{ℕ, List, [], ◌∷◌, codes, slice_index}
use Rattle.std.specs.Fmt.{decimal}
use Rattle.vol_base.specs.declared.boxes.Box3.{Box3}
use Rattle.vol_base.specs.declared.faults.Fault.{Fault}
use Rattle.vol_base.specs.BoxDisplay.{box_text}
use Rattle.vol_base.specs.FaultTexts.{fault_text, texts}
use Rattle.vol_shell.specs.Lines.{line_feed}

-- why the info document of a data set was refused
abbrev pub info_line : List ℕ → List ℕ → List ℕ
info_line dataset text = texts (codes "info of " ∷ dataset ∷ codes ": " ∷ text ∷ line_feed ∷ [])

-- a box that isn't inside its scale
abbrev pub outside_line : Box3 → Box3 → List ℕ
outside_line part whole = texts (codes "box " ∷ box_text part ∷ codes " outside " ∷ box_text whole ∷ line_feed
    ∷ [])

-- a box of more bytes than a cutout has
abbrev pub large_line : ℕ → List ℕ
large_line bytes = texts (codes "box too large " ∷ decimal bytes ∷ line_feed ∷ [])

-- the first damaged cell, by its numbers in the grid, and its fault
abbrev pub damaged_line : List ℕ → Fault → List ℕ
damaged_line cell fault =
    texts (codes "damaged " ∷ decimal (slice_index cell 0) ∷ codes "," ∷ decimal (slice_index cell 1)
    ∷ codes "," ∷ decimal (slice_index cell 2)
    ∷ codes ": " ∷ fault_text fault ∷ line_feed ∷ [])

-- too many cells that writes or a box meet
abbrev pub cells_line : ℕ → List ℕ
cells_line cells = texts (codes "too many cells " ∷ decimal cells ∷ line_feed ∷ [])

-- a scale of more padded voxels times channels than are written, and the limit
abbrev pub voxels_line : ℕ → List ℕ
voxels_line voxels = texts (codes "padded voxels " ∷ decimal voxels ∷ codes " over 4194304" ∷ line_feed ∷ [])

-- a scale of several chunk sizes, where only one of a single size is written
abbrev pub sizes_line : List ℕ
sizes_line = texts (codes "several chunk sizes" ∷ line_feed ∷ [])

-- what a writing command prints
abbrev pub written_line : ℕ → ℕ → List ℕ
written_line objects cells = texts (codes "objects " ∷ decimal objects ∷ codes " cells " ∷ decimal cells
    ∷ line_feed ∷ [])
