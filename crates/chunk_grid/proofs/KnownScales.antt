-- Scales of known numbers, of which one test says that they fit the limits of a scale.
use Rattle.std.proofs.Common.{◌≡◌, ℕ, ◌^◌, ◌<◌, ◌≤◌, Bool, true, List, [], ◌∷◌, length, slice_index, Option, Some, None, refl, ap, ◌∙◌, sym, lit≤, inl, inr}
use Rattle.std.specs.Prelude.{◌⊎◌, ◌==◌, ◌&&◌, ◌||◌, ℤ, pos, neg_ℤ, int_le, nat_le, slice_index_or}
use Rattle.std.specs.List.{list_all}
use Rattle.std.specs.Option.{ForSome}
use Rattle.std.proofs.lemmas.Bool.{and_parts, eqb-true, leb-true, or_cases}
use Rattle.vol_base.proofs.Axes.{by_axis}
use Rattle.vol_base.specs.Grids.{AreSizes, pairs}
use Rattle.vol_spec.specs.Limits.{AreBlocks, AreOffsets, IsSeg, IsWidth, cell_counts, first_bytes, padded_of}
use Rattle.vol_spec.specs.Views.{no_more}
use Rattle.vol_spec.specs.declared.encoding.Encoding.{Encoding}
use Rattle.vol_spec.specs.declared.encoding.Encoding.TheVariants.{Raw, Seg}
use Rattle.vol_spec.specs.declared.scale.Scale.{Scale}
use Rattle.vol_spec.specs.declared.sharding.Sharding.{Sharding}
use Rattle.chunk_grid.proofs.MeetSteps.{int_le-from}

abbrev pub on_each : (ℕ → Bool) → Bool
on_each test = list_all test (0 ∷ 1 ∷ 2 ∷ [])

abbrev pub is_between : ℕ → ℕ → ℕ → Bool
is_between low high n = nat_le low n && nat_le n high

abbrev pub is_offset : ℤ → Bool
is_offset z = int_le (neg_ℤ (pos (2 ^ 40))) z && int_le z (pos (2 ^ 40))

-- the sizes, on each axis from 1 to a limit
abbrev pub are_up_to : ℕ → List ℕ → Bool
are_up_to most sizes = on_each (λ axis. is_between 1 most (slice_index sizes axis))

-- values of four or eight bytes in blocks, or any in raw chunks
abbrev pub fits_encoding : ℕ → Encoding → Bool
fits_encoding width Raw = true
fits_encoding width (Seg block) = ((width == 4) || (width == 8)) && are_up_to (2 ^ 24) block

abbrev pub fits : ℕ → ℕ → List ℕ → List ℤ → List ℕ → Encoding → Bool
fits width channels size offset chunk encoding =
    ((width == 1) || ((width == 2) || ((width == 4) || (width == 8))))
    && (is_between 1 1024 channels
    && (are_up_to (2 ^ 40) size
    && (on_each (λ axis. is_offset (slice_index_or offset axis (pos 0)))
    && (are_up_to (2 ^ 40) chunk
    && (fits_encoding width encoding
    && (nat_le (first_bytes width channels size chunk) (2 ^ 27)
    && nat_le (padded_of encoding channels size chunk) (2 ^ 24)))))))

-- what the tests tell
each_of : (test : ℕ → Bool) (P : ℕ → Type 0) → ((axis : ℕ) → test axis ≡ true → P axis) → on_each test ≡ true → (axis : ℕ) → axis < 3 → P axis
each_of test P from h =
    let h0 = and_parts _ _ h in
    let h1 = and_parts _ _ h0.1 in
    let h2 = and_parts _ _ h1.1 in
    by_axis P (from 0 h0.0) (from 1 h1.0) (from 2 h2.0)

between : (low high n : ℕ) → is_between low high n ≡ true → (low ≤ n) × (n ≤ high)
between low high n h = let k = and_parts _ _ h in (leb-true low n k.0, leb-true n high k.1)

sizes_from : (most : ℕ) (sizes : List ℕ) → are_up_to most sizes ≡ true → (axis : ℕ) → axis < 3 → (1 ≤ slice_index sizes axis) × (slice_index sizes axis ≤ most)
sizes_from most sizes = each_of (λ axis. is_between 1 most (slice_index sizes axis)) _ (λ axis. between 1 most (slice_index sizes axis))

offsets_from : (offset : List ℤ) → on_each (λ axis. is_offset (slice_index_or offset axis (pos 0))) ≡ true → AreOffsets offset
offsets_from offset =
    each_of (λ axis. is_offset (slice_index_or offset axis (pos 0))) _ (λ axis h. let k = and_parts _ _ h in (int_le-from _ _ k.0, int_le-from _ _ k.1))

width_from : (w : ℕ) → ((w == 1) || ((w == 2) || ((w == 4) || (w == 8)))) ≡ true → IsWidth w
width_from w h =
    elim (or_cases (w == 1) _ h) [
      | inl e ↦ inl (eqb-true w 1 e)
      | inr h ↦ inr (elim (or_cases (w == 2) _ h) [ inl e ↦ inl (eqb-true w 2 e) | inr h ↦ inr (elim (or_cases (w == 4) _ h) [ inl e ↦ inl (eqb-true w 4 e) | inr e ↦ inr (eqb-true w 8 e) ]) ])
    ]

wide_from : (w : ℕ) → ((w == 4) || (w == 8)) ≡ true → (w ≡ 4) ⊎ (w ≡ 8)
wide_from w h = elim (or_cases (w == 4) (w == 8) h) [ inl e ↦ inl (eqb-true w 4 e) | inr e ↦ inr (eqb-true w 8 e) ]

-- numbers that fit
pub record AreFit (width channels : ℕ) (size : List ℕ) (offset : List ℤ) (chunk : List ℕ) (encoding : Encoding) : Type 0 where
  pub width_ok : ∥ IsWidth width ∥₁
  pub some_channels : 1 ≤ channels
  pub channels_ok : channels ≤ 1024
  pub size_ok : AreSizes size
  pub offset_ok : AreOffsets offset
  pub chunk_ok : AreSizes chunk
  pub wide_ok : (block : List ℕ) → IsSeg encoding block → ∥ (width ≡ 4) ⊎ (width ≡ 8) ∥₁
  pub block_ok : (block : List ℕ) → IsSeg encoding block → AreBlocks block
  pub first_ok : first_bytes width channels size chunk ≤ 2 ^ 27
  pub padded_ok : padded_of encoding channels size chunk ≤ 2 ^ 24

seg_from : (width : ℕ) (encoding : Encoding) (block : List ℕ) → fits_encoding width encoding ≡ true → IsSeg encoding block → ∥ (width ≡ 4) ⊎ (width ≡ 8) ∥₁ × AreBlocks block
seg_from width encoding block h e =
    let k = and_parts _ _ (ap (fits_encoding width) (sym e) ∙ h) in
    (∣ wide_from width k.0 ∣₁, sizes_from (2 ^ 24) block k.1)

pub are_fit : (width channels : ℕ) (size : List ℕ) (offset : List ℤ) (chunk : List ℕ) (encoding : Encoding) → fits width channels size offset chunk encoding ≡ true → AreFit width channels size offset chunk encoding
are_fit width channels size offset chunk encoding h =
    let a = and_parts _ _ h in
    let b = and_parts _ _ a.1 in
    let c = and_parts _ _ b.1 in
    let d = and_parts _ _ c.1 in
    let e = and_parts _ _ d.1 in
    let f = and_parts _ _ e.1 in
    let g = and_parts _ _ f.1 in
    record {
      width_ok = ∣ width_from width a.0 ∣₁;
      some_channels = (between 1 1024 channels b.0).0;
      channels_ok = (between 1 1024 channels b.0).1;
      size_ok = sizes_from (2 ^ 40) size c.0;
      offset_ok = offsets_from offset d.0;
      chunk_ok = sizes_from (2 ^ 40) chunk e.0;
      wide_ok = λ block is. (seg_from width encoding block f.0 is).0;
      block_ok = λ block is. (seg_from width encoding block f.0 is).1;
      first_ok = leb-true (first_bytes width channels size chunk) (2 ^ 27) g.0;
      padded_ok = leb-true (padded_of encoding channels size chunk) (2 ^ 24) g.1;
    }

abbrev pub HaveCodes : List ℕ → List ℕ → Option Sharding → Type 0
HaveCodes size chunk sharding = ForSome sharding (λ _. length (pairs (cell_counts size chunk)) ≤ 64)

-- the scale `s` of such numbers
abbrev pub known : (width channels : ℕ) (size : List ℕ) (offset : List ℤ) (chunk : List ℕ) (encoding : Encoding) (sharding : Option Sharding) → fits width channels size offset chunk encoding ≡ true → HaveCodes size chunk sharding → Scale
known width channels size offset chunk encoding sharding fit codes =
    let limits = are_fit width channels size offset chunk encoding fit in
    record {
      key = 115 ∷ [];
      width = width;
      channels = channels;
      size = size;
      offset = offset;
      chunk = chunk;
      encoding = encoding;
      sharding = sharding;
      more = [];
      key_ok = lit≤ tt;
      width_ok = limits.width_ok;
      some_channels = limits.some_channels;
      channels_ok = limits.channels_ok;
      size_ok = limits.size_ok;
      offset_ok = limits.offset_ok;
      chunk_ok = limits.chunk_ok;
      first_ok = limits.first_ok;
      wide_ok = limits.wide_ok;
      block_ok = limits.block_ok;
      padded_ok = limits.padded_ok;
      codes_ok = codes;
      more_ok = no_more _;
      alone_ok = λ x e. refl;
    }

no_sharding : {A : Type 0} (x : Sharding) → None ≡ Some x → A
no_sharding x e = absurd (cc e)

pub no_codes : (size chunk : List ℕ) → HaveCodes size chunk None
no_codes size chunk x e = no_sharding x e

-- the same where it has no shards
abbrev pub unsharded : (width channels : ℕ) (size : List ℕ) (offset : List ℤ) (chunk : List ℕ) (encoding : Encoding) → fits width channels size offset chunk encoding ≡ true → Scale
unsharded width channels size offset chunk encoding fit = known width channels size offset chunk encoding None fit (no_codes size chunk)
