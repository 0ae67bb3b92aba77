-- Values of a cell put into those of a part.
use Rattle.std.proofs.Common.{◌≡◌, ◌≢◌, ◌<◌, ◌≤◌, arith, ℕ, zero, suc, ◌+◌, ◌*◌, replicate, Some, None, Ok, refl, ap, ◌∙◌, sym}
use Rattle.vol_base.specs.declared.boxes.Box3.{Box3}
use Rattle.vol_base.specs.Boxes.{Covers, num, value}
use Rattle.vol_spec.proofs.Plain.{value_at-raw}
use Rattle.vol_spec.specs.Grid.{cell_box}
use Rattle.vol_spec.specs.Raw.{number}
use Rattle.vol_spec.specs.Types.{Bytes, Cell, Position}
use Rattle.vol_spec.specs.Encodings.{by_encoding}
use Rattle.vol_spec.specs.Limits.{first_bytes}
use Rattle.vol_spec.specs.declared.encoding.Encoding.{Encoding}
use Rattle.vol_spec.specs.declared.encoding.Encoding.TheVariants.{Raw, Seg}
use Rattle.vol_spec.specs.declared.scale.Scale.{Scale}
use Rattle.voxel_raw.specs.Copies.{HasValues, HasZeros, KeepsRest}
use Rattle.voxel_raw.specs.Common.{IsCommon}
use Rattle.segment_cells.specs.Decoding.{HoldsValues}
use Rattle.cutout.specs.Opened.{values_room}
use Rattle.cutout.specs.declared.channels.Channels.{Channels}
use Rattle.cutout.specs.Reading.{Puts, Took}

-- zero bytes make zero
number-zeros : (w : ℕ) → number (replicate w 0) ≡ 0
number-zeros zero = refl
number-zeros (suc w) = ap (λ n. 0 + 256 * n) (number-zeros w)

-- values copied where a cell and a part have a position
pub puts_values : (s : Scale) (cell : Cell) (part common : Box3) (picked : Channels) (values front old new : Bytes) → IsCommon (cell_box s cell) part common
    → HasValues (cell_box s cell) part common picked.count s.width front new → KeepsRest part common picked.count s.width old new
    → ((p : Position) (c : ℕ) → Covers (cell_box s cell) p → c < picked.count → value s.width front (num (cell_box s cell) p c) ≡ value s.width values (num (cell_box s cell) p (picked.first + c)))
    → Puts s cell part picked values old new
puts_values s cell part common picked values front old new is copied rest same = record {
  put = λ p c in_cell in_part lc. ap number (copied p c ((is.both p).1 (in_cell, in_part)) lc ∙ same p c in_cell lc);
  kept = λ p c in_part out lc. rest p c in_part (λ cov. out ((is.both p).0 cov).0) lc;
}

-- a chunk of raw values has them as they are
pub holds_raw : (s : Scale) (cell : Cell) (bytes : Bytes) → s.encoding ≡ Raw → HoldsValues s cell bytes bytes
holds_raw s cell bytes raw p c covered low = sym (value_at-raw s raw cell bytes p c)

-- values that are put are those of the cell's chunk
pub took_values : (s : Scale) (cell : Cell) (part : Box3) (picked : Channels) (bytes values old new : Bytes) → HoldsValues s cell bytes values → picked.first + picked.count ≤ s.channels → Puts s cell part picked values old new
    → Took s cell part picked (Ok (Some bytes)) old new
took_values s cell part picked bytes values old new holds few puts = record {
  taken = λ p c in_cell in_part lc. ap Ok (sym (puts.put p c in_cell in_part lc ∙ holds p (picked.first + c) in_cell (omega (arith, few, lc))));
  kept = puts.kept;
}

pub took_zeros : (s : Scale) (cell : Cell) (part common : Box3) (picked : Channels) (old new : Bytes) → IsCommon (cell_box s cell) part common
    → HasZeros part common picked.count s.width new → KeepsRest part common picked.count s.width old new
    → Took s cell part picked (Ok None) old new
took_zeros s cell part common picked old new is zeros rest = record {
  taken = λ p c in_cell in_part lc. ap Ok (sym (ap number (zeros p c ((is.both p).1 (in_cell, in_part)) lc) ∙ number-zeros s.width));
  kept = λ p c in_part out lc. rest p c in_part (λ cov. out ((is.both p).0 cov).0) lc;
}

-- a chunk that is decoded has room for its values
room_by : (e : Encoding) (n : ℕ) → e ≢ Raw → by_encoding e 0 n ≡ n
room_by Raw n seg = absurd (seg refl)
room_by (Seg block) n seg = refl

pub room_seg : (s : Scale) → s.encoding ≢ Raw → values_room s ≡ first_bytes s.width s.channels s.size s.chunk
room_seg s seg = room_by s.encoding (first_bytes s.width s.channels s.size s.chunk) seg
