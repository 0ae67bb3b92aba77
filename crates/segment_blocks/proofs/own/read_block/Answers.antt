use Rattle.std.proofs.Common.{arith, refl, ap, sym, ◌≡◌, ◌+◌, ◌-◌, ◌*◌, ◌∙◌, ℕ, List, length, length-take, take}
use Rattle.vol_spec.specs.SegBlocks.{block_voxels, packed_words, width}
use Rattle.vol_spec.specs.SegChunks.{bits, table_at, values_at}
use Rattle.vol_spec.specs.SegShapes.{sizes_of}
use Rattle.vol_spec.specs.SegWritten.{bits_for, block_bits}
use Rattle.segment_blocks.specs.Said.{said}
use Rattle.segment_blocks.proofs.OwnBlocks.{IsRead, bits_read, is_read, spelled_read, table_read}
use Rattle.segment_blocks.proofs.Shapes.{facts, limits}
use Rattle.segment_blocks.proofs.own.read_block.Goals as goal

pub guess_entries-entries-requires-clause-small : goal.guess_entries-entries-requires-clause-small
guess_entries-entries-requires-clause-small c =
    let f = facts (sizes_of c.args.shape.now) (limits c.args.shape.now) in
    omega (arith, c.requires.blocks, f.blocks)

pub count_words-requires-clause-n : goal.count_words-requires-clause-n
count_words-requires-clause-n c =
    let f = facts (sizes_of c.args.shape.now) (limits c.args.shape.now) in
    omega (arith, f.voxels, c.find_block-b.ensures.indices)

pub returns-clause-spelled : goal.returns-clause-spelled
returns-clause-spelled c =
    let s = sizes_of c.args.shape.now in
    let h = limits c.args.shape.now in
    let chunk : List ℕ = c.args.chunk.now in
    let n : ℕ = c.guess_entries-entries.result in
    let b : ℕ = c.read_header-header.result.bits in
    let f : ℕ = 4 * (c.read_header-header.result.table - c.read_word-from.result) in
    let t : List ℕ = take n c.test_entries.new.table in
    let len : length t ≡ n = omega (arith, length-take n c.test_entries.new.table, c.test_entries.auto.table, c.requires.table, c.if-entries-b.false, c.find_block-b.ensures.indices) in
    let eb : bits chunk c.args.c c.args.k ≡ b = sym c.read_header-header.ensures.bits in
    let told : b ≡ bits_for n = omega (arith, c.if-find_bits-header.false, c.find_bits.ensures) in
    let ea : 4 * values_at chunk c.args.c c.args.k ≡ c.args.at = omega (arith, c.read_header-header.ensures.values, c.if-header-from.false, c.read_word-from.ensures, c.requires.whole) in
    let ef : 4 * table_at chunk c.args.c c.args.k ≡ f = omega (arith, c.read_header-header.ensures.table, c.read_word-from.ensures) in
    let r : IsRead s chunk c.args.channel.now c.args.c c.args.k t =
    is_read s chunk c.args.channel.now c.args.c c.args.k t b c.args.at f n c.requires.is eb told len ea ef (c.if-not-test_entries.ensures.rises refl) (c.if-not-test_entries.ensures.entries refl) (c.if-not-test_entries.ensures.indices refl) in
    let words : c.count_words.result ≡ packed_words b (block_voxels s) = c.count_words.ensures ∙ ap (packed_words b) c.find_block-b.ensures.indices in
    let size_is : c.find_width-width.result * n ≡ width s * n = ap (λ q. q * n) c.find_width-width.ensures in
    spelled_read s chunk c.args.channel.now c.args.c c.args.k t b c.args.at f n h (λ i. omega (arith, c.type_inv.chunk i)) c.requires.channel r eb len ea ef
    (omega (arith, words, c.if-indices-channel.false)) (omega (arith, size_is, c.if-begin-width.false))

pub returns-clause-indices : goal.returns-clause-indices
returns-clause-indices c =
    let s = sizes_of c.args.shape.now in
    let h = limits c.args.shape.now in
    let chunk : List ℕ = c.args.chunk.now in
    let n : ℕ = c.guess_entries-entries.result in
    let b : ℕ = c.read_header-header.result.bits in
    let f : ℕ = 4 * (c.read_header-header.result.table - c.read_word-from.result) in
    let t : List ℕ = take n c.test_entries.new.table in
    let len : length t ≡ n = omega (arith, length-take n c.test_entries.new.table, c.test_entries.auto.table, c.requires.table, c.if-entries-b.false, c.find_block-b.ensures.indices) in
    let eb : bits chunk c.args.c c.args.k ≡ b = sym c.read_header-header.ensures.bits in
    let told : b ≡ bits_for n = omega (arith, c.if-find_bits-header.false, c.find_bits.ensures) in
    let ea : 4 * values_at chunk c.args.c c.args.k ≡ c.args.at = omega (arith, c.read_header-header.ensures.values, c.if-header-from.false, c.read_word-from.ensures, c.requires.whole) in
    let ef : 4 * table_at chunk c.args.c c.args.k ≡ f = omega (arith, c.read_header-header.ensures.table, c.read_word-from.ensures) in
    let r : IsRead s chunk c.args.channel.now c.args.c c.args.k t =
    is_read s chunk c.args.channel.now c.args.c c.args.k t b c.args.at f n c.requires.is eb told len ea ef (c.if-not-test_entries.ensures.rises refl) (c.if-not-test_entries.ensures.entries refl) (c.if-not-test_entries.ensures.indices refl) in
    let e : bits chunk c.args.c c.args.k ≡ block_bits s (said s chunk) c.args.c c.args.k = bits_read s chunk c.args.channel.now c.args.c c.args.k t h (λ i. omega (arith, c.type_inv.chunk i)) c.requires.channel r in
    ap (λ q. c.args.at + 4 * q) (c.count_words.ensures ∙ ap (packed_words b) c.find_block-b.ensures.indices ∙ ap (λ q. packed_words q (block_voxels s)) (sym eb ∙ e))

pub returns-clause-table : goal.returns-clause-table
returns-clause-table c =
    let s = sizes_of c.args.shape.now in
    let h = limits c.args.shape.now in
    let chunk : List ℕ = c.args.chunk.now in
    let n : ℕ = c.guess_entries-entries.result in
    let b : ℕ = c.read_header-header.result.bits in
    let f : ℕ = 4 * (c.read_header-header.result.table - c.read_word-from.result) in
    let t : List ℕ = take n c.test_entries.new.table in
    let len : length t ≡ n = omega (arith, length-take n c.test_entries.new.table, c.test_entries.auto.table, c.requires.table, c.if-entries-b.false, c.find_block-b.ensures.indices) in
    let eb : bits chunk c.args.c c.args.k ≡ b = sym c.read_header-header.ensures.bits in
    let told : b ≡ bits_for n = omega (arith, c.if-find_bits-header.false, c.find_bits.ensures) in
    let ea : 4 * values_at chunk c.args.c c.args.k ≡ c.args.at = omega (arith, c.read_header-header.ensures.values, c.if-header-from.false, c.read_word-from.ensures, c.requires.whole) in
    let ef : 4 * table_at chunk c.args.c c.args.k ≡ f = omega (arith, c.read_header-header.ensures.table, c.read_word-from.ensures) in
    let r : IsRead s chunk c.args.channel.now c.args.c c.args.k t =
    is_read s chunk c.args.channel.now c.args.c c.args.k t b c.args.at f n c.requires.is eb told len ea ef (c.if-not-test_entries.ensures.rises refl) (c.if-not-test_entries.ensures.entries refl) (c.if-not-test_entries.ensures.indices refl) in
    sym (table_read s chunk c.args.channel.now c.args.c c.args.k t h (λ i. omega (arith, c.type_inv.chunk i)) c.requires.channel r)

pub returns-clause-bits : goal.returns-clause-bits
returns-clause-bits c =
    let s = sizes_of c.args.shape.now in
    let h = limits c.args.shape.now in
    let chunk : List ℕ = c.args.chunk.now in
    let n : ℕ = c.guess_entries-entries.result in
    let b : ℕ = c.read_header-header.result.bits in
    let f : ℕ = 4 * (c.read_header-header.result.table - c.read_word-from.result) in
    let t : List ℕ = take n c.test_entries.new.table in
    let len : length t ≡ n = omega (arith, length-take n c.test_entries.new.table, c.test_entries.auto.table, c.requires.table, c.if-entries-b.false, c.find_block-b.ensures.indices) in
    let eb : bits chunk c.args.c c.args.k ≡ b = sym c.read_header-header.ensures.bits in
    let told : b ≡ bits_for n = omega (arith, c.if-find_bits-header.false, c.find_bits.ensures) in
    let ea : 4 * values_at chunk c.args.c c.args.k ≡ c.args.at = omega (arith, c.read_header-header.ensures.values, c.if-header-from.false, c.read_word-from.ensures, c.requires.whole) in
    let ef : 4 * table_at chunk c.args.c c.args.k ≡ f = omega (arith, c.read_header-header.ensures.table, c.read_word-from.ensures) in
    let r : IsRead s chunk c.args.channel.now c.args.c c.args.k t =
    is_read s chunk c.args.channel.now c.args.c c.args.k t b c.args.at f n c.requires.is eb told len ea ef (c.if-not-test_entries.ensures.rises refl) (c.if-not-test_entries.ensures.entries refl) (c.if-not-test_entries.ensures.indices refl) in
    bits_read s chunk c.args.channel.now c.args.c c.args.k t h (λ i. omega (arith, c.type_inv.chunk i)) c.requires.channel r
