-- What a cutout by layers writes (this project's profile).
use Rattle.std.specs.Prelude.{◌≡◌, ℕ, ◌+◌, ◌<◌, ◌≤◌, Option, Some, None, Result, Ok, Err, [], ◌++◌, flat_map, length, slice_index, ⊤}
use Rattle.vol_base.specs.declared.boxes.Box3.{Box3}
use Rattle.vol_base.specs.Boxes.{Covers, num, size}
use Rattle.vol_base.specs.Bytes.{AreBytes}
use Rattle.vol_base.specs.Gains.{Gains}
use Rattle.vol_base.specs.Outside.{Objects}
use Rattle.vol_spec.specs.BoxValues.{before_fault, bytes_of, values_of}
use Rattle.vol_spec.specs.Chunks.{value_in}
use Rattle.vol_spec.specs.Cut.{cut, first_fault}
use Rattle.vol_spec.specs.Raw.{digit, raw_len}
use Rattle.vol_spec.specs.Types.{Bytes, Name, Position}
use Rattle.vol_spec.specs.declared.scale.Scale.{Scale}
use Rattle.cutout.specs.Layers.{below, planes}
use Rattle.cutout.specs.declared.fault.CutFault.{CutFault}
use Rattle.cutout.specs.declared.fault.CutFault.TheVariants as Unread
use Rattle.cutout.specs.declared.fault.StreamFault.{StreamFault}
use Rattle.cutout.specs.declared.fault.StreamFault.TheVariants.{OutsideScale, StoreFault, Damaged, OutFault, OutOfMemory}

-- the values of one channel of a box as bytes, up to the first voxel whose value is a fault
unfoldable pub cut_channel : Objects → Name → Scale → Box3 → ℕ → Bytes
cut_channel m dataset s b channel = flat_map (bytes_of s.width)
    (before_fault (values_of b 1 (λ p _. value_in m dataset s p channel)))

-- bytes that others begin with
abbrev pub IsFront : Bytes → Bytes → Type 0
IsFront front whole = (rest : Bytes) × (front ++ rest ≡ whole)

-- an outlet gained bytes of which a fact holds, whatever the objects are, where they are told
pub record Leaves (objects : Option Objects) (old new : Option Bytes) (P : Objects → Bytes →
    Type 0) : Type 0 where
  pub gained : Bytes
  pub is : Gains old new gained
  pub tells : (m : Objects) → objects ≡ Some m → P m gained

-- bytes that have the values of a box, in some channels from a first one on
pub record HasChannels (m : Objects) (dataset : Name) (s : Scale) (b : Box3) (first count : ℕ)
    (bytes : Bytes) : Type 0 where
  pub len : length bytes ≡ raw_len b count s.width
  pub small : AreBytes bytes
  pub values : (p : Position) (c : ℕ) → Covers b p → c < count →
      value_in m dataset s p (first + c) ≡ Ok (digit bytes s.width (num b p c))

-- the same fault of a box that is written
abbrev pub streamed : CutFault → StreamFault
streamed Unread.OutsideScale = OutsideScale
streamed Unread.StoreFault = StoreFault
streamed (Unread.Damaged cell fault) = Damaged cell fault

-- what writing a channel of a box in one piece answers: it was written, or nothing, or a front of it
abbrev pub StreamsPiece : Result ⊤ StreamFault → Objects → Name → Scale → Box3 → ℕ → Bytes → Type 0
StreamsPiece (Ok done) m dataset s b channel gained = (first_fault m dataset s b ≡ None) ×
    HasChannels m dataset s b channel 1 gained
StreamsPiece (Err (Damaged cell fault)) m dataset s b channel gained =
    (first_fault m dataset s b ≡ Some (cell, fault)) × (gained ≡ [])
StreamsPiece (Err StoreFault) m dataset s b channel gained = gained ≡ []
StreamsPiece (Err OutFault) m dataset s b channel gained = (whole : Bytes) ×
    HasChannels m dataset s b channel 1 whole × IsFront gained whole
StreamsPiece (Err OutsideScale) m dataset s b channel gained = ⊥
StreamsPiece (Err OutOfMemory) m dataset s b channel gained = ⊥

-- a front of the values of some planes
abbrev pub HasFront : Objects → Name → Scale → Box3 → ℕ → Bytes → Type 0
HasFront m dataset s b channel gained = (count : ℕ) × (whole : Bytes) × (count ≤ size b 2) ×
    HasChannels m dataset s (planes b 0 count) channel 1 whole × IsFront gained whole

-- what writing a channel of a box layer by layer answers: it was written, or what lies below the faulty cell's layer, or a front
abbrev pub StreamsChannel : Result ⊤ StreamFault → Objects → Name → Scale → Box3 → ℕ → Bytes → Type 0
StreamsChannel (Ok done) m dataset s b channel gained = (first_fault m dataset s b ≡ None) ×
    HasChannels m dataset s b channel 1 gained
StreamsChannel (Err (Damaged cell fault)) m dataset s b channel gained =
    (first_fault m dataset s b ≡ Some (cell, fault)) ×
    HasChannels m dataset s (below s b (slice_index cell 2)) channel 1 gained
StreamsChannel (Err StoreFault) m dataset s b channel gained = HasFront m dataset s b channel gained
StreamsChannel (Err OutFault) m dataset s b channel gained = HasFront m dataset s b channel gained
StreamsChannel (Err OutsideScale) m dataset s b channel gained = ⊥
StreamsChannel (Err OutOfMemory) m dataset s b channel gained = ⊥

-- what a cutout by layers answers, and writes: the cutout; or, of channel 0, all that lies below the layer of the first cell that has a
-- fault, which is a front of the cutout; or some front of it; or nothing
abbrev pub Streams : Result ⊤ StreamFault → Objects → Name → Scale → Box3 → Bytes → Type 0
Streams (Ok done) m dataset s b gained = (first_fault m dataset s b ≡ None) × (gained ≡ cut m dataset s b)
Streams (Err (Damaged cell fault)) m dataset s b gained =
    (first_fault m dataset s b ≡ Some (cell, fault)) ×
    (gained ≡ cut_channel m dataset s (below s b (slice_index cell 2)) 0) ×
    IsFront gained (cut m dataset s b) ×
    (length gained ≡ raw_len (below s b (slice_index cell 2)) 1 s.width)
Streams (Err StoreFault) m dataset s b gained = IsFront gained (cut m dataset s b)
Streams (Err OutFault) m dataset s b gained = IsFront gained (cut m dataset s b)
Streams (Err OutsideScale) m dataset s b gained = gained ≡ []
Streams (Err OutOfMemory) m dataset s b gained = gained ≡ []
