-- What the bytes of a segmentation chunk say (precomputed volume format, compressed_segmentation encoding).
use Rattle.std.specs.Prelude.{ℕ, ◌+◌, ◌*◌, ◌/◌, ◌%◌, ◌^◌, length, take, drop}
use Rattle.vol_spec.specs.Raw.{number, digit}
use Rattle.vol_spec.specs.SegBlocks.{block_of, number_in, entry_words, width}
use Rattle.vol_spec.specs.SegSizes.{SegSizes}
use Rattle.vol_spec.specs.Types.{Bytes}

abbrev pub words : Bytes → ℕ
words bytes = length bytes / 4

-- word i is the four bytes from byte 4 i on, the lowest first; past the end it is 0
unfoldable pub word : Bytes → ℕ → ℕ
word bytes i = digit bytes 4 i

-- where channel c starts, in words
abbrev pub start : Bytes → ℕ → ℕ
start bytes c = word bytes c

-- the header of block k: where its table is, how many bits an index has, and where the indices are, both in words from the channel's start
abbrev pub table_at : Bytes → ℕ → ℕ → ℕ
table_at bytes c k = word bytes (start bytes c + 2 * k) % 2 ^ 24

abbrev pub bits : Bytes → ℕ → ℕ → ℕ
bits bytes c k = word bytes (start bytes c + 2 * k) / 2 ^ 24

abbrev pub values_at : Bytes → ℕ → ℕ → ℕ
values_at bytes c k = word bytes (start bytes c + 2 * k + 1)

-- the number of the b bits from bit n * b on, after word a, the lowest first
unfoldable pub field : Bytes → ℕ → ℕ → ℕ → ℕ
field bytes a b n = number (drop (4 * a) bytes) / 2 ^ (n * b) % 2 ^ b

-- the index of the voxel n of block k; of no bits it is 0
abbrev pub index : Bytes → ℕ → ℕ → ℕ → ℕ
index bytes c k n = field bytes (start bytes c + values_at bytes c k) (bits bytes c k) n

-- where entry i of the table of block k is, in words
abbrev pub entry_at : Bytes → SegSizes → ℕ → ℕ → ℕ → ℕ
entry_at bytes s c k i = start bytes c + table_at bytes c k + i * entry_words s

-- the bytes of the entry of the voxel n of block k
unfoldable pub entry : Bytes → SegSizes → ℕ → ℕ → ℕ → Bytes
entry bytes s c k n = take (width s) (drop (4 * entry_at bytes s c k (index bytes c k n)) bytes)

-- the value of a voxel
abbrev pub seg_at : Bytes → SegSizes → ℕ → ℕ → ℕ → ℕ → ℕ
seg_at bytes s x y z c = number (entry bytes s c (block_of s x y z) (number_in s x y z))
