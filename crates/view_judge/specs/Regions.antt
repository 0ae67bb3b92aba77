-- The regions in which the further views of a scale are compared with the first one (this project's profile).
use Rattle.std.specs.Prelude.{◌≡◌, ℕ, zero, suc, ◌≤◌, ◌^◌, Bool, true, false, nat_le, max, List, [], length, slice_index, None, if◌then◌else◌, refl}
use Rattle.std.proofs.Common.{arith, leb-true}
use Rattle.vol_base.specs.Boxes.{on_axes}
use Rattle.vol_base.specs.Grids.{AreSizes}
use Rattle.vol_spec.specs.Limits.{FitsChunk, first_bytes}
use Rattle.vol_spec.specs.Views.{chunk_of, no_more, view_fits}
use Rattle.vol_spec.specs.declared.encoding.Encoding.TheVariants.{Raw}
use Rattle.vol_spec.specs.declared.scale.Scale.{Scale}

-- on each axis the longer of two sizes
abbrev pub longer : List ℕ → List ℕ → List ℕ
longer a b = on_axes (λ axis. max (slice_index a axis) (slice_index b axis))

-- of so many chunk sizes of a scale
abbrev pub longest_of : Scale → ℕ → List ℕ
longest_of s zero = s.chunk
longest_of s (suc k) = longer (longest_of s k) (chunk_of s (suc k))

-- of all of them
abbrev pub longest : Scale → List ℕ
longest s = longest_of s (length s.more)

-- whether the values of a scale's first cell, were it of that size, have at most so many bytes
abbrev pub has_most : ℕ → Scale → List ℕ → Bool
has_most most s size = nat_le (first_bytes s.width s.channels s.size size) most

-- whether all views are compared by the same regions: where those as long as the longest of all chunks have at most 2^24 bytes
abbrev pub is_joint : Scale → Bool
is_joint s = has_most (2 ^ 24) s (longest s)

-- then a region is so long
abbrev pub joint_if : Bool → Scale → List ℕ
joint_if joint s = if joint then longest s else s.chunk

abbrev pub region_size : Scale → List ℕ
region_size s = joint_if (is_joint s) s

-- else one of a view is as long as the longer of its chunk and the first view's, or where such regions have more than 2^27 bytes as its chunk
abbrev pub own_if : Bool → Scale → Scale → List ℕ
own_if small s v = if small then longer s.chunk v.chunk else v.chunk

abbrev pub own_size : Scale → Scale → List ℕ
own_size s v = own_if (has_most (2 ^ 27) v (longer s.chunk v.chunk)) s v

-- it keeps the limits of chunks
longer_on : (a b : ℕ) → (1 ≤ a) × (a ≤ 2 ^ 40) → (1 ≤ b) × (b ≤ 2 ^ 40) → (1 ≤ max a b) × (max a b ≤ 2 ^ 40)
longer_on a b (a_some, a_most) (b_some, b_most) = (omega arith, omega arith)

are_longer : (a b : List ℕ) → AreSizes a → AreSizes b → AreSizes (longer a b)
are_longer a b ha hb zero l = longer_on _ _ (ha 0 l) (hb 0 l)
are_longer a b ha hb (suc zero) l = longer_on _ _ (ha 1 l) (hb 1 l)
are_longer a b ha hb (suc (suc zero)) l = longer_on _ _ (ha 2 l) (hb 2 l)
are_longer a b ha hb (suc (suc (suc axis))) l = absurd (omega arith)

are_longest : (s : Scale) (k : ℕ) → AreSizes (longest_of s k)
are_longest s zero = s.chunk_ok
are_longest s (suc k) = are_longer (longest_of s k) (chunk_of s (suc k)) (are_longest s k) (view_fits s (suc k)).0

abbrev pub FitsRegion : Scale → List ℕ → Type 0
FitsRegion s size = AreSizes size × (first_bytes s.width s.channels s.size size ≤ 2 ^ 27)

joint_fits : (joint : Bool) (s : Scale) → is_joint s ≡ joint → FitsRegion s (joint_if joint s)
joint_fits true s is = (are_longest s (length s.more), (let most = leb-true _ _ is in omega (arith, most)))
joint_fits false s is = (s.chunk_ok, s.first_ok)

pub region_fits : (s : Scale) → FitsRegion s (region_size s)
region_fits s = joint_fits (is_joint s) s refl

own_fits_if : (small : Bool) (s v : Scale) → has_most (2 ^ 27) v (longer s.chunk v.chunk) ≡ small → FitsRegion v (own_if small s v)
own_fits_if true s v is = (are_longer s.chunk v.chunk s.chunk_ok v.chunk_ok, leb-true _ _ is)
own_fits_if false s v is = (v.chunk_ok, v.first_ok)

pub own_fits : (s v : Scale) → FitsRegion v (own_size s v)
own_fits s v = own_fits_if (has_most (2 ^ 27) v (longer s.chunk v.chunk)) s v refl

-- The regions of a scale, as the cells of a scale: the first view in cells as long as a region. Where on an axis each chunk size divides
-- the longest, no chunk of any view lies in two regions there.
unfoldable pub regions : Scale → Scale
regions s = record {
  key = s.key;
  width = s.width;
  channels = s.channels;
  size = s.size;
  offset = s.offset;
  chunk = region_size s;
  encoding = Raw;
  sharding = None;
  more = [];
  key_ok = s.key_ok;
  width_ok = s.width_ok;
  some_channels = s.some_channels;
  channels_ok = s.channels_ok;
  size_ok = s.size_ok;
  offset_ok = s.offset_ok;
  chunk_ok = (region_fits s).0;
  first_ok = (region_fits s).1;
  wide_ok = λ block is. absurd (cc is);
  block_ok = λ block is. absurd (cc is);
  padded_ok = omega arith;
  codes_ok = λ sharding is. absurd (cc is);
  more_ok = no_more (FitsChunk s.width s.channels s.size Raw);
  alone_ok = λ sharding is. refl;
}

-- those of one further view beside the first one
unfoldable pub own_regions : Scale → Scale → Scale
own_regions s v = record {
  key = v.key;
  width = v.width;
  channels = v.channels;
  size = v.size;
  offset = v.offset;
  chunk = own_size s v;
  encoding = Raw;
  sharding = None;
  more = [];
  key_ok = v.key_ok;
  width_ok = v.width_ok;
  some_channels = v.some_channels;
  channels_ok = v.channels_ok;
  size_ok = v.size_ok;
  offset_ok = v.offset_ok;
  chunk_ok = (own_fits s v).0;
  first_ok = (own_fits s v).1;
  wide_ok = λ block is. absurd (cc is);
  block_ok = λ block is. absurd (cc is);
  padded_ok = omega arith;
  codes_ok = λ sharding is. absurd (cc is);
  more_ok = no_more (FitsChunk v.width v.channels v.size Raw);
  alone_ok = λ sharding is. refl;
}
