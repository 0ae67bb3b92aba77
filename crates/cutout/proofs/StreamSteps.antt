-- What writing layer by layer, and channel by channel, leaves.
use Rattle.std.proofs.Common.{◌≡◌, ◌∙◌, ◌≤◌, ◌<◌, ◌+◌, ◌-◌, ◌*◌, ◌++◌, ◌⊎◌, ℕ, zero, suc, ℤ, pos, ◌+ℤ◌, ◌-ℤ◌, ◌≤ℤ◌, ◌<ℤ◌, nat_abs, List, [], ◌∷◌, map, length, Option, Some, None, Ok, Err, slice_index, arith, ap, refl, sym, subst, lit<, ⊎_elim, inl, inr}
use Rattle.std.specs.Prelude.{Contains}
use Rattle.std.specs.Option.{option_map}
use Rattle.std.proofs.lemmas.Int.{ints}
use Rattle.std.proofs.lemmas.List.{append-nil, map-append, nil_from_length}
use Rattle.std.proofs.lemmas.List.Elements.{All-contains}
use Rattle.vol_base.proofs.Axes.{by_axis}
use Rattle.vol_base.specs.declared.boxes.Box3.{Box3}
use Rattle.vol_base.specs.declared.faults.Fault.{Fault}
use Rattle.vol_base.specs.Boxes.{at, Covers, end, from_begin, IsSome, num, size}
use Rattle.vol_base.specs.Bytes.{AreBytes}
use Rattle.vol_base.specs.Outside.{Objects}
use Rattle.vol_spec.proofs.Firsts.{first_some-append}
use Rattle.vol_spec.specs.BoxValues.{first_some}
use Rattle.vol_spec.specs.Chunks.{fault_in, value_in}
use Rattle.vol_spec.specs.Cut.{cut, faulty, first_fault}
use Rattle.vol_spec.specs.Grid.{cells_in, Inside, IsCell, Meets, whole}
use Rattle.vol_spec.specs.Raw.{digit, raw_len}
use Rattle.vol_spec.specs.Types.{Bytes, Cell, Name}
use Rattle.vol_spec.specs.declared.scale.Scale.{Scale}
use Rattle.chunk_grid.proofs.GridSteps.{cell_at-only}
use Rattle.chunk_grid.proofs.ListingSteps.{cells_in-IsCell, cells_in-Meets}
use Rattle.cutout.proofs.CellSteps.{first_fault-is}
use Rattle.cutout.proofs.FrontSteps.{channel_cut, channels_cut, front_behind, front_cut, front_front}
use Rattle.vol_base.proofs.Gained.{gained-more}
use Rattle.cutout.proofs.LayerSteps.{below-end, below-first, cells-all, cells-more, cells-none, cells-rest, depth, front_cells, IsNumber, number_at, number_lies}
use Rattle.cutout.proofs.PlaneSteps.{channels_more, channels_none, planes_more, planes_none}
use Rattle.cutout.specs.Layers.{below, end_layer, first_layer, layer, planes, planes_below}
use Rattle.cutout.specs.Reading.{ReadsAll, ReadWhole}
use Rattle.vol_base.specs.Gains.{Gains}
use Rattle.cutout.specs.Streaming.{HasChannels, HasFront, IsFront, Leaves, streamed, Streams, StreamsChannel, StreamsPiece}
use Rattle.cutout.specs.declared.channels.Channels.{Channels}
use Rattle.cutout.specs.declared.fault.CutFault.{CutFault}
use Rattle.cutout.specs.declared.fault.CutFault.TheVariants as Unread
use Rattle.cutout.specs.declared.fault.StreamFault.{StreamFault}
use Rattle.cutout.specs.declared.fault.StreamFault.TheVariants.{OutsideScale, StoreFault, Damaged, OutFault, OutOfMemory}

-- an outlet that gained nothing
gains-none : (o : Option Bytes) → Gains o o []
gains-none None = refl
gains-none (Some w) = ap Some (sym (append-nil w))

pub leaves_none : (o : Option Objects) (out : Option Bytes) (P : Objects → Bytes → Type 0) → ((m : Objects) → o ≡ Some m → P m []) → Leaves o out out P
leaves_none o out P h = record { gained = []; is = gains-none out; tells = h }

-- and one that gained more
pub leaves_more : (o same : Option Objects) (old mid new : Option Bytes) (P Q R : Objects → Bytes → Type 0) → same ≡ o → Leaves o old mid P → Leaves same mid new Q
    → ((m : Objects) (xs ys : Bytes) → o ≡ Some m → P m xs → Q m ys → R m (xs ++ ys)) → Leaves o old new R
leaves_more o same old mid new P Q R e was more join = record {
  gained = was.gained ++ more.gained;
  is = more.is ∙ ap (option_map (λ w. w ++ more.gained)) was.is ∙ gained-more old was.gained more.gained;
  tells = λ m told. join m was.gained more.gained told (was.tells m told) (more.tells m (e ∙ told));
}

pub leaves_as : (o : Option Objects) (old new : Option Bytes) (P Q : Objects → Bytes → Type 0) → Leaves o old new P → ((m : Objects) (xs : Bytes) → o ≡ Some m → P m xs → Q m xs) → Leaves o old new Q
leaves_as o old new P Q was weaker = record { gained = was.gained; is = was.is; tells = λ m told. weaker m was.gained told (was.tells m told) }

-- a channel that was read whole
pub piece_read : (m : Objects) (dataset : Name) (s : Scale) (b : Box3) (picked : Channels) (channel : ℕ) (out : Bytes) → picked.first ≡ channel → picked.count ≡ 1 → length out ≡ raw_len b 1 s.width → AreBytes out
    → ReadWhole m dataset s b picked out → HasChannels m dataset s b channel 1 out
piece_read m dataset s b picked channel out first count len small whole = record {
  len = len;
  small = small;
  values = λ p c covered low. ap (λ k. value_in m dataset s p (k + c)) (sym first) ∙ whole.values p c covered (omega (arith, low, count));
}

-- a channel that wasn't
unread_as : (m : Objects) (dataset : Name) (s : Scale) (b : Box3) (picked : Channels) (channel : ℕ) (fault : CutFault) (out : Bytes)
    → ReadsAll (Err fault) m dataset s b picked out → StreamsPiece (Err (streamed fault)) m dataset s b channel []
unread_as m dataset s b picked channel Unread.OutsideScale out read = read
unread_as m dataset s b picked channel Unread.StoreFault out read = refl
unread_as m dataset s b picked channel (Unread.Damaged cell fault) out read = (read, refl)

pub piece_unread : (m : Objects) (dataset : Name) (s : Scale) (b : Box3) (picked : Channels) (channel : ℕ) (fault : CutFault) (told : StreamFault) (out : Bytes) → told ≡ streamed fault
    → ReadsAll (Err fault) m dataset s b picked out → StreamsPiece (Err told) m dataset s b channel []
piece_unread m dataset s b picked channel fault told out e read = subst (λ f. StreamsPiece (Err f) m dataset s b channel []) (sym e) (unread_as m dataset s b picked channel fault out read)

-- the layers of a channel up to one
pub record ChannelSoFar (m : Objects) (dataset : Name) (s : Scale) (b : Box3) (channel number : ℕ) (gained : Bytes) : Type 0 where
  pub sound : first_some (map (faulty m dataset s) (front_cells s b number)) ≡ None
  pub has : HasChannels m dataset s (below s b number) channel 1 gained

pub layers_none : (m : Objects) (dataset : Name) (s : Scale) (b : Box3) (channel number : ℕ) → Inside s b → number ≡ first_layer s b → ChannelSoFar m dataset s b channel number []
layers_none m dataset s b channel number inside e = record {
  sound = ap (λ n. first_some (map (faulty m dataset s) (front_cells s b n))) e ∙ ap (λ cells. first_some (map (faulty m dataset s) cells)) (cells-none s b);
  has =
      let none : planes_below s b number ≡ 0 = ap (planes_below s b) e ∙ below-first s b inside in
      subst (λ n. HasChannels m dataset s (planes b 0 n) channel 1 []) (sym none) (planes_none m dataset s b channel);
}

-- the planes up to the next number
planes_next : (m : Objects) (dataset : Name) (s : Scale) (b : Box3) (channel number : ℕ) (xs ys : Bytes) → Inside s b → IsNumber s b number
    → HasChannels m dataset s (below s b number) channel 1 xs → HasChannels m dataset s (layer s b number) channel 1 ys → HasChannels m dataset s (below s b (number + 1)) channel 1 (xs ++ ys)
planes_next m dataset s b channel number xs ys inside is low high =
    let l = number_lies s b number inside is in
    let next : planes_below s b number + (planes_below s b (number + 1) - planes_below s b number) ≡ planes_below s b (number + 1) = omega (arith, l.some) in
    subst (λ n. HasChannels m dataset s (planes b 0 n) channel 1 (xs ++ ys)) next (planes_more m dataset s b channel (planes_below s b number) (planes_below s b (number + 1) - planes_below s b number) xs ys low high)

-- the cells up to the next number
cells_next : (m : Objects) (dataset : Name) (s : Scale) (b : Box3) (number : ℕ) → Inside s b → IsNumber s b number → first_some (map (faulty m dataset s) (front_cells s b number)) ≡ None
    → first_some (map (faulty m dataset s) (front_cells s b (number + 1))) ≡ first_fault m dataset s (layer s b number)
cells_next m dataset s b number inside is sound =
    ap (λ cells. first_some (map (faulty m dataset s) cells)) (cells-more s b number inside is)
    ∙ ap first_some (map-append (faulty m dataset s) (front_cells s b number) (cells_in s (layer s b number)))
    ∙ first_some-append (map (faulty m dataset s) (front_cells s b number)) (map (faulty m dataset s) (cells_in s (layer s b number))) sound
    ∙ sym (first_fault-is m dataset s (layer s b number))

pub layers_more : (m : Objects) (dataset : Name) (s : Scale) (b : Box3) (channel number : ℕ) (xs ys : Bytes) → Inside s b → IsNumber s b number
    → ChannelSoFar m dataset s b channel number xs → StreamsPiece (Ok tt) m dataset s (layer s b number) channel ys → ChannelSoFar m dataset s b channel (number + 1) (xs ++ ys)
layers_more m dataset s b channel number xs ys inside is was piece = record {
  sound = cells_next m dataset s b number inside is was.sound ∙ piece.0;
  has = planes_next m dataset s b channel number xs ys inside is was.has piece.1;
}

-- the first fault, where cells behind are left
first_behind : (xs ys : List (Option (Cell × Fault))) (e : Cell × Fault) → first_some xs ≡ Some e → first_some (xs ++ ys) ≡ Some e
first_behind [] ys e h = absurd (cc h)
first_behind (None ∷ xs) ys e h = first_behind xs ys e h
first_behind (Some x ∷ xs) ys e h = h

layer_fault : (m : Objects) (dataset : Name) (s : Scale) (b : Box3) (number : ℕ) (e : Cell × Fault) → Inside s b → IsNumber s b number → first_some (map (faulty m dataset s) (front_cells s b number)) ≡ None
    → first_fault m dataset s (layer s b number) ≡ Some e → first_fault m dataset s b ≡ Some e
layer_fault m dataset s b number e inside is sound fault =
    let rest = cells-rest s b (number + 1) inside (omega (arith, is.last)) in
    first_fault-is m dataset s b
    ∙ ap (λ cells. first_some (map (faulty m dataset s) cells)) (sym rest.1)
    ∙ ap first_some (map-append (faulty m dataset s) (front_cells s b (number + 1)) rest.0)
    ∙ first_behind (map (faulty m dataset s) (front_cells s b (number + 1))) (map (faulty m dataset s) rest.0) e (cells_next m dataset s b number inside is sound ∙ fault)

-- a first fault is one of the cells'
cell_of_first : Option (Cell × Fault) → Cell
cell_of_first None = []
cell_of_first (Some e) = e.0

first_here : (x cell : Cell) (fault : Fault) (o : Option Fault) (rest : List (Option (Cell × Fault))) → first_some (option_map (λ v. (x, v)) o ∷ rest) ≡ Some (cell, fault)
    → (x ≡ cell) ⊎ (first_some rest ≡ Some (cell, fault))
unfolding cell_of_first
first_here x cell fault None rest h = inr h
first_here x cell fault (Some v) rest h = inl (ap cell_of_first h)

in_rest : (x : Cell) (xs : List Cell) (cell : Cell) → Contains xs cell → Contains (x ∷ xs) cell
in_rest x xs cell (k, l, e) = (suc k, omega arith, e)

first_in : (m : Objects) (dataset : Name) (s : Scale) (cells : List Cell) (cell : Cell) (fault : Fault) → first_some (map (faulty m dataset s) cells) ≡ Some (cell, fault) → Contains cells cell
first_in m dataset s [] cell fault h = absurd (cc h)
first_in m dataset s (x ∷ xs) cell fault h =
    ⊎_elim (λ (e : x ≡ cell). (0, omega arith, e))
    (λ (more : first_some (map (faulty m dataset s) xs) ≡ Some (cell, fault)). in_rest x xs cell (first_in m dataset s xs cell fault more))
    (first_here x cell fault (fault_in m dataset s x) (map (faulty m dataset s) xs) h)

-- a cell that meets a layer has its number
place_in : (o b p : ℤ) (f from next : ℕ) → b ≡ o +ℤ pos f → from < next → (b +ℤ pos from) ≤ℤ p → p <ℤ ((b +ℤ pos from) +ℤ pos (next - from))
    → (f + from ≤ nat_abs (p -ℤ o)) × (nat_abs (p -ℤ o) < f + next)
place_in o b p f from next e some low high = (omega (arith, ints), omega (arith, ints))

number_of : (s : Scale) (b : Box3) (number : ℕ) (cell : Cell) → Inside s b → IsNumber s b number → IsCell s cell → Meets s cell (layer s b number) → slice_index cell 2 ≡ number
number_of s b number cell inside is in_grid (p, own, in_layer) =
    let d = depth s b inside in
    let l = number_lies s b number inside is in
    let place = place_in (at s.offset 2) (at b.begin 2) (at p 2) (from_begin (whole s) b.begin 2) (planes_below s b number) (planes_below s b (number + 1)) d.begin l.some (in_layer 2 (lit< tt)).0 (in_layer 2 (lit< tt)).1 in
    ap (λ c. slice_index c 2) (cell_at-only s p cell in_grid.axes own)
    ∙ number_at (slice_index s.chunk 2) number (from_begin (whole s) p 2) (omega (arith, place.0, l.begins)) (omega (arith, place.1, l.ends))

fault_number : (m : Objects) (dataset : Name) (s : Scale) (b : Box3) (number : ℕ) (cell : Cell) (fault : Fault) → Inside s b → IsNumber s b number
    → first_fault m dataset s (layer s b number) ≡ Some (cell, fault) → slice_index cell 2 ≡ number
fault_number m dataset s b number cell fault inside is h =
    let in_layer : Contains (cells_in s (layer s b number)) cell = first_in m dataset s (cells_in s (layer s b number)) cell fault (sym (first_fault-is m dataset s (layer s b number)) ∙ h) in
    number_of s b number cell inside is (All-contains (IsCell s) (cells_in s (layer s b number)) cell (cells_in-IsCell s (layer s b number)) in_layer)
    (All-contains (λ c. Meets s c (layer s b number)) (cells_in s (layer s b number)) cell (cells_in-Meets s (layer s b number)) in_layer)

-- a layer that wasn't written whole
same_bytes : (m : Objects) (dataset : Name) (s : Scale) (b : Box3) (channel : ℕ) (xs ys : Bytes) → ys ≡ [] → HasChannels m dataset s b channel 1 xs → HasChannels m dataset s b channel 1 (xs ++ ys)
same_bytes m dataset s b channel xs ys e has = subst (λ zs. HasChannels m dataset s b channel 1 zs) (sym (ap (λ zs. xs ++ zs) e ∙ append-nil xs)) has

no_front : (xs ys : Bytes) → ys ≡ [] → IsFront (xs ++ ys) xs
no_front xs ys e = ([], append-nil (xs ++ ys) ∙ ap (λ zs. xs ++ zs) e ∙ append-nil xs)

pub layers_refused : (m : Objects) (dataset : Name) (s : Scale) (b : Box3) (channel number : ℕ) (fault : StreamFault) (xs ys : Bytes) → Inside s b → IsNumber s b number
    → ChannelSoFar m dataset s b channel number xs → StreamsPiece (Err fault) m dataset s (layer s b number) channel ys → StreamsChannel (Err fault) m dataset s b channel (xs ++ ys)
layers_refused m dataset s b channel number OutsideScale xs ys inside is was piece = piece
layers_refused m dataset s b channel number OutOfMemory xs ys inside is was piece = piece
layers_refused m dataset s b channel number StoreFault xs ys inside is was piece =
    let l = number_lies s b number inside is in
    (planes_below s b number, xs, omega (arith, l.some, l.within), was.has, no_front xs ys piece)
layers_refused m dataset s b channel number OutFault xs ys inside is was (whole_piece, has, front) =
    let l = number_lies s b number inside is in
    (planes_below s b (number + 1), xs ++ whole_piece, l.within, planes_next m dataset s b channel number xs whole_piece inside is was.has has, front_behind xs ys whole_piece front)
layers_refused m dataset s b channel number (Damaged cell fault) xs ys inside is was piece = (
  layer_fault m dataset s b number (cell, fault) inside is was.sound piece.0,
  same_bytes m dataset s (below s b (slice_index cell 2)) channel xs ys piece.1
      (subst (λ n. HasChannels m dataset s (below s b n) channel 1 xs) (sym (fault_number m dataset s b number cell fault inside is piece.0)) was.has),
)

-- all layers
all_place : (b p : ℤ) (n m : ℕ) → n ≡ m → b ≤ℤ p → p <ℤ (b +ℤ pos m) → ((b +ℤ pos 0) ≤ℤ p) × (p <ℤ ((b +ℤ pos 0) +ℤ pos n))
all_place b p n m e low high = (omega (arith, ints), omega (arith, ints))

no_planes : (b p : ℤ) → nat_abs (p -ℤ (b +ℤ pos 0)) ≡ nat_abs (p -ℤ b)
no_planes b p = omega (arith, ints)

all_planes : (m : Objects) (dataset : Name) (s : Scale) (b : Box3) (channel n : ℕ) (xs : Bytes) → n ≡ size b 2 → HasChannels m dataset s (planes b 0 n) channel 1 xs → HasChannels m dataset s b channel 1 xs
all_planes m dataset s b channel n xs e has = record {
  len = has.len ∙ ap (λ k. size b 0 * size b 1 * k * 1 * s.width) e;
  small = has.small;
  values = λ p c covered low.
      let z = all_place (at b.begin 2) (at p 2) n (size b 2) e (covered 2 (lit< tt)).0 (covered 2 (lit< tt)).1 in
      let own : Covers (planes b 0 n) p = by_axis (λ axis. (at (planes b 0 n).begin axis ≤ℤ at p axis) × (at p axis <ℤ end (planes b 0 n) axis)) (covered 0 (lit< tt)) (covered 1 (lit< tt)) z in
      let same : num (planes b 0 n) p c ≡ num b p c =
      ap (λ q. from_begin b p 0 + size b 0 * (from_begin b p 1 + size b 1 * (q + n * c))) (no_planes (at b.begin 2) (at p 2))
      ∙ ap (λ k. from_begin b p 0 + size b 0 * (from_begin b p 1 + size b 1 * (from_begin b p 2 + k * c))) e in
      has.values p c own low ∙ ap (λ i. Ok (digit xs s.width i)) same;
}

pub layers_all : (m : Objects) (dataset : Name) (s : Scale) (b : Box3) (channel number : ℕ) (xs : Bytes) → Inside s b → number ≡ end_layer s b
    → ChannelSoFar m dataset s b channel number xs → StreamsChannel (Ok tt) m dataset s b channel xs
layers_all m dataset s b channel number xs inside e was = (
  first_fault-is m dataset s b ∙ ap (λ cells. first_some (map (faulty m dataset s) cells)) (sym (ap (front_cells s b) e ∙ cells-all s b inside)) ∙ was.sound,
  all_planes m dataset s b channel (planes_below s b number) xs (ap (planes_below s b) e ∙ below-end s b inside) was.has,
)

-- the channels up to one
pub record ChannelsSoFar (m : Objects) (dataset : Name) (s : Scale) (b : Box3) (channel : ℕ) (gained : Bytes) : Type 0 where
  pub sound : 0 < channel → first_fault m dataset s b ≡ None
  pub has : HasChannels m dataset s b 0 channel gained

pub streams_none : (m : Objects) (dataset : Name) (s : Scale) (b : Box3) → ChannelsSoFar m dataset s b 0 []
streams_none m dataset s b = record { sound = λ h. absurd (omega (arith, h)); has = channels_none m dataset s b }

pub streams_more : (m : Objects) (dataset : Name) (s : Scale) (b : Box3) (channel : ℕ) (xs ys : Bytes)
    → ChannelsSoFar m dataset s b channel xs → StreamsChannel (Ok tt) m dataset s b channel ys → ChannelsSoFar m dataset s b (channel + 1) (xs ++ ys)
streams_more m dataset s b channel xs ys was next = record { sound = λ _. next.0; has = channels_more m dataset s b channel xs ys was.has next.1 }

pub streams_all : (m : Objects) (dataset : Name) (s : Scale) (b : Box3) (channel : ℕ) (xs : Bytes) → IsSome b → channel ≡ s.channels → ChannelsSoFar m dataset s b channel xs → Streams (Ok tt) m dataset s b xs
streams_all m dataset s b channel xs some e was =
    let any = s.some_channels in
    (was.sound (omega (arith, e, any)), channels_cut m dataset s b channel xs some e was.has)

-- a channel that wasn't written whole
front_refused : (m : Objects) (dataset : Name) (s : Scale) (b : Box3) (channel : ℕ) (xs ys : Bytes) → IsSome b → channel < s.channels
    → ChannelsSoFar m dataset s b channel xs → HasFront m dataset s b channel ys → IsFront (xs ++ ys) (cut m dataset s b)
front_refused m dataset s b channel xs ys some less was (count, whole_planes, few, has, front) =
    front_front (xs ++ ys) (xs ++ whole_planes) _ (front_behind xs ys whole_planes front) (front_cut m dataset s b channel count xs whole_planes some few less was.has has)

fault_refused : (m : Objects) (dataset : Name) (s : Scale) (b : Box3) (channel : ℕ) (cell : Cell) (fault : Fault) (xs ys : Bytes) → IsSome b
    → ChannelsSoFar m dataset s b channel xs → StreamsChannel (Err (Damaged cell fault)) m dataset s b channel ys → Streams (Err (Damaged cell fault)) m dataset s b (xs ++ ys)
fault_refused m dataset s b zero cell fault xs ys some was next =
    let none : xs ≡ [] = nil_from_length xs (was.has.len ∙ omega arith) in
    let any : 0 < s.channels = let l = s.some_channels in omega (arith, l) in (
      next.0,
      ap (λ zs. zs ++ ys) none ∙ channel_cut m dataset s b (planes_below s b (slice_index cell 2)) 0 ys some next.1,
      front_cut m dataset s b 0 (planes_below s b (slice_index cell 2)) xs ys some (omega arith) any was.has next.1,
      ap (λ zs. length (zs ++ ys)) none ∙ next.1.len,
    )
fault_refused m dataset s b (suc channel) cell fault xs ys some was next =
    absurd (let e : None ≡ Some (cell, fault) = sym (was.sound (omega arith)) ∙ next.0 in cc e)

pub streams_refused : (m : Objects) (dataset : Name) (s : Scale) (b : Box3) (channel : ℕ) (fault : StreamFault) (xs ys : Bytes) → IsSome b → channel < s.channels
    → ChannelsSoFar m dataset s b channel xs → StreamsChannel (Err fault) m dataset s b channel ys → Streams (Err fault) m dataset s b (xs ++ ys)
streams_refused m dataset s b channel OutsideScale xs ys some less was next = absurd next
streams_refused m dataset s b channel OutOfMemory xs ys some less was next = absurd next
streams_refused m dataset s b channel StoreFault xs ys some less was next = front_refused m dataset s b channel xs ys some less was next
streams_refused m dataset s b channel OutFault xs ys some less was next = front_refused m dataset s b channel xs ys some less was next
streams_refused m dataset s b channel (Damaged cell fault) xs ys some less was next = fault_refused m dataset s b channel cell fault xs ys some was next

-- a fault of reading as one of writing
pub streamed-outside : (fault : CutFault) → streamed fault ≡ OutsideScale → fault ≡ Unread.OutsideScale
streamed-outside Unread.OutsideScale e = refl
streamed-outside Unread.StoreFault e = absurd (cc e)
streamed-outside (Unread.Damaged cell fault) e = absurd (cc e)

pub streamed-store : (fault : CutFault) → streamed fault ≡ StoreFault → fault ≡ Unread.StoreFault
streamed-store Unread.OutsideScale e = absurd (cc e)
streamed-store Unread.StoreFault e = refl
streamed-store (Unread.Damaged cell fault) e = absurd (cc e)

pub streamed-out : (fault : CutFault) → streamed fault ≡ OutFault → ⊥
streamed-out Unread.OutsideScale e = cc e
streamed-out Unread.StoreFault e = cc e
streamed-out (Unread.Damaged cell fault) e = cc e

pub streamed-memory : (fault : CutFault) → streamed fault ≡ OutOfMemory → ⊥
streamed-memory Unread.OutsideScale e = cc e
streamed-memory Unread.StoreFault e = cc e
streamed-memory (Unread.Damaged cell fault) e = cc e
