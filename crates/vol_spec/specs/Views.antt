-- The views of a scale: the scale once more for each of its chunk sizes, with that one alone. An unsharded scale is stored once for each
-- view, and read by the first (precomputed volume format, chunk sizes). What these definitions read of a scale's own chunk size is that
-- of its first view.
use Rattle.std.specs.Prelude.{◌≡◌, ℕ, zero, suc, ◌+◌, ◌≤◌, List, [], ◌∷◌, length, map, slice_index_or, refl}
use Rattle.std.specs.List.{All, range_with_len}
use Rattle.std.specs.Option.{ForSome}
use Rattle.std.proofs.Common.{arith, subst, sym}
use Rattle.vol_base.specs.Grids.{pairs}
use Rattle.vol_spec.specs.Limits.{FitsChunk, cell_counts}
use Rattle.vol_spec.specs.declared.scale.Scale.{Scale}

-- the chunk size of a view: the first one, and then the further ones; behind the last one the first again
abbrev pub chunk_of : Scale → ℕ → List ℕ
chunk_of s zero = s.chunk
chunk_of s (suc k) = slice_index_or s.more k s.chunk

-- what holds of each element and of another holds where that is read behind the last
pub fits_each : {X : Type 0} (P : X → Type 0) (xs : List X) (d : X) → All P xs → P d → (k : ℕ) → P (slice_index_or xs k d)
fits_each P [] d each h k = h
fits_each P (x ∷ xs) d each h zero = each 0 d (omega arith)
fits_each P (x ∷ xs) d each h (suc k) = fits_each P xs d (λ j e l. each (suc j) e (omega arith)) h k

pub view_fits : (s : Scale) (k : ℕ) → FitsChunk s.width s.channels s.size s.encoding (chunk_of s k)
view_fits s zero = (s.chunk_ok, s.first_ok, s.padded_ok)
view_fits s (suc k) = fits_each (FitsChunk s.width s.channels s.size s.encoding) s.more s.chunk s.more_ok
    (s.chunk_ok, s.first_ok, s.padded_ok) k

pub none_there : {X : Type 0} (xs : List X) (k : ℕ) (d : X) → length xs ≡ 0 → slice_index_or xs k d ≡ d
none_there [] k d e = refl
none_there (x ∷ xs) k d e = absurd (omega arith)

pub view_codes : (s : Scale) (k : ℕ) → ForSome s.sharding (λ _. length (pairs (cell_counts s.size (chunk_of s k))) ≤ 64)
view_codes s zero sharding is = s.codes_ok sharding is
view_codes s (suc k) sharding is = subst (λ chunk. length (pairs (cell_counts s.size chunk)) ≤ 64)
    (sym (none_there s.more k s.chunk (s.alone_ok sharding is))) (s.codes_ok sharding is)

pub no_more : (P : List ℕ → Type 0) → All P []
no_more P k d l = absurd (omega arith)

-- a view
unfoldable pub view : Scale → ℕ → Scale
view s k = record {
  key = s.key;
  width = s.width;
  channels = s.channels;
  size = s.size;
  offset = s.offset;
  chunk = chunk_of s k;
  encoding = s.encoding;
  sharding = s.sharding;
  more = [];
  key_ok = s.key_ok;
  width_ok = s.width_ok;
  some_channels = s.some_channels;
  channels_ok = s.channels_ok;
  size_ok = s.size_ok;
  offset_ok = s.offset_ok;
  chunk_ok = (view_fits s k).0;
  first_ok = (view_fits s k).1;
  wide_ok = s.wide_ok;
  block_ok = s.block_ok;
  padded_ok = (view_fits s k).2;
  codes_ok = view_codes s k;
  more_ok = no_more (FitsChunk s.width s.channels s.size s.encoding);
  alone_ok = λ sharding is. refl;
}

-- all views, the first one first
abbrev pub views : Scale → List Scale
views s = map (view s) (range_with_len 0 (1 + length s.more))
