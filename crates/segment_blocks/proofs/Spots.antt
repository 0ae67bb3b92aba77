-- Where the tables of blocks of one voxel are: each step of the pass that puts them, and what they tell. A place is a sum
-- over all blocks before, and which block has a table first is a search among them, so a step of a few lines of code
-- speaks of both.
use Rattle.std.proofs.Common.{◌≡◌, ◌⊎◌, ℕ, ◌+◌, ◌*◌, ◌<◌, ◌≤◌, List, length, slice_index, set, Bool, true, false, IsTrue, arith, refl, ap, ◌∙◌, sym, inl, inr, ⊎_elim}
use Rattle.std.proofs.lemmas.List.{get_or-set_other}
use Rattle.vol_spec.specs.SegBlocks.{block_count, block_voxels, packed_words}
use Rattle.vol_spec.specs.SegSizes.{SegSizes, width_of}
use Rattle.vol_spec.specs.SegWritten.{bits_for, owner, packed_len, table_place, values_place}
use Rattle.segment_blocks.specs.Shape.{IsShape}
use Rattle.segment_blocks.specs.Singles.{is_single, numbered}
use Rattle.segment_blocks.specs.Stored.{HasTables}
use Rattle.segment_blocks.proofs.Offsets.{table_some}
use Rattle.segment_blocks.proofs.Settling.{owner_found, owner_none, placed_ends, placed_is, set_below, set_here, shared_ends, up_to}
use Rattle.segment_blocks.proofs.Shapes.{some_voxels}
use Rattle.segment_blocks.proofs.Singles.{SaysBlock, SaysNone, number_says, single_table}

-- the spots of the blocks before block k, where its table comes, and the numbers of the other blocks
pub record IsPlacing (s : SegSizes) (raw : List ℕ) (c : ℕ) (spots : List ℕ) (next k : ℕ) : Type 0 where
  pub comes : next ≡ 4 * values_place s raw c k
  pub before : (j : ℕ) → j < k → slice_index spots j ≡ 4 * table_place s raw c j
  pub after : (j : ℕ) → k ≤ j → j < block_count s → slice_index spots j ≡ numbered s raw c j

-- a table of one value needs no indices
single_packed : (s : SegSizes) (raw : List ℕ) (c k : ℕ) → IsShape s → IsTrue (is_single s) → k < block_count s → packed_len s raw c k ≡ 0
single_packed s raw c k h t lk = ap (λ q. packed_words (bits_for (length q)) (block_voxels s)) (single_table s raw c k h t lk) ∙ none (block_voxels s)
  where
    none : (n : ℕ) → packed_words 0 n ≡ 0
    none n = omega arith

kept_above : (spots : List ℕ) (k x i : ℕ) → k < i → slice_index (set spots k x) i ≡ slice_index spots i
kept_above spots k x i l = get_or-set_other spots k i x 0 (λ e. omega arith)

-- the table of a block with a new value comes next
pub placed_new : (s : SegSizes) (raw : List ℕ) (c : ℕ) (spots : List ℕ) (next k : ℕ) → IsShape s → IsTrue (is_single s) → k < block_count s → k < length spots → owner s raw c k ≡ k
    → IsPlacing s raw c spots next k → IsPlacing s raw c (set spots k next) (next + width_of s.wide) (k + 1)
placed_new s raw c spots next k h t lk fits o x =
    let here : next ≡ 4 * (values_place s raw c k + packed_len s raw c k) = omega (arith, x.comes, single_packed s raw c k h t lk) in
    let ends = placed_ends s raw c k next 1 o here (sym (ap length (single_table s raw c k h t lk))) in
    record {
      comes = omega (arith, ends.1);
      before = up_to (λ j. slice_index (set spots k next) j ≡ 4 * table_place s raw c j) k (λ j l. set_below spots k next j l ∙ x.before j l) (set_here spots k next fits ∙ ends.0);
      after = λ j l m. kept_above spots k next j (omega arith) ∙ x.after j (omega arith) m;
    }

-- the place of a table that an earlier block has, and of what comes behind the block
again_ends : (s : SegSizes) (raw : List ℕ) (c k j : ℕ) → SaysBlock s raw c k j → (table_place s raw c j ≡ table_place s raw c k) × (values_place s raw c (k + 1) ≡ values_place s raw c k + packed_len s raw c k)
again_ends s raw c k j b =
    let ends = shared_ends s raw c k j b.0 (owner_found s raw c k j b.0 b.1 b.2) (placed_is s raw c j b.1) in
    (ends.0, ends.1)

pub again_place : (s : SegSizes) (raw : List ℕ) (c k j : ℕ) → SaysBlock s raw c k j → table_place s raw c j ≡ table_place s raw c k
again_place s raw c k j b = (again_ends s raw c k j b).0

pub again_next : (s : SegSizes) (raw : List ℕ) (c k j : ℕ) → SaysBlock s raw c k j → values_place s raw c (k + 1) ≡ values_place s raw c k + packed_len s raw c k
again_next s raw c k j b = (again_ends s raw c k j b).1

-- the table of a block with a value again is that of the first one
pub placed_again : (s : SegSizes) (raw : List ℕ) (c : ℕ) (spots : List ℕ) (next k j : ℕ) → IsShape s → IsTrue (is_single s) → k < block_count s → k < length spots → SaysBlock s raw c k j
    → IsPlacing s raw c spots next k → IsPlacing s raw c (set spots k (slice_index spots j)) next (k + 1)
placed_again s raw c spots next k j h t lk fits b x =
    let v : ℕ = slice_index spots j in
    record {
      comes = omega (arith, x.comes, again_next s raw c k j b, single_packed s raw c k h t lk);
      before = up_to (λ i. slice_index (set spots k v) i ≡ 4 * table_place s raw c i) k (λ i l. set_below spots k v i l ∙ x.before i l) (set_here spots k v fits ∙ x.before j b.0 ∙ ap (λ q. 4 * q) (again_place s raw c k j b));
      after = λ i l m. kept_above spots k v i (omega arith) ∙ x.after i (omega arith) m;
    }

-- a block is the first with its table, or there is one
first_or_again : (s : SegSizes) (raw : List ℕ) (c k : ℕ) → (owner s raw c k ≡ k) ⊎ ((j : ℕ) × SaysBlock s raw c k j)
first_or_again s raw c k = ⊎_elim
    (λ (a : (numbered s raw c k ≡ 0) × SaysNone s raw c k). inl (owner_none s raw c k a.1))
    (λ (b : (j : ℕ) × (numbered s raw c k ≡ j + 1) × SaysBlock s raw c k j). inr (b.0, b.2))
    (number_says s raw c k (numbered s raw c k) refl)

-- the table of an earlier block stands before what comes next
again_before : (s : SegSizes) (raw : List ℕ) (c : ℕ) (out at lens heads next : List ℕ) (k j : ℕ) → IsShape s → k < block_count s → HasTables s raw c out at lens heads next k → SaysBlock s raw c k j
    → 4 * table_place s raw c k < 4 * values_place s raw c k
again_before s raw c out at lens heads next k j h lk x b =
    let len : 0 < slice_index lens j = omega (arith, x.stored.len j b.0, table_some s raw c j h (omega (arith, b.0)) (some_voxels s h)) in
    omega (arith, x.low j b.0, x.spots j b.0, again_place s raw c k j b, some_bytes s.wide (slice_index lens j) len)
  where
    some_bytes : (wide : Bool) (n : ℕ) → 0 < n → 0 < width_of wide * n
    some_bytes true n l = omega arith
    some_bytes false n l = omega arith

-- where a block's table is tells whether it is the first with it
pub first_tells : (s : SegSizes) (raw : List ℕ) (c : ℕ) (out at lens heads next : List ℕ) (k spot indices : ℕ) → IsShape s → k < block_count s → HasTables s raw c out at lens heads next k
    → spot ≡ 4 * table_place s raw c k → indices ≡ 4 * (values_place s raw c k + packed_len s raw c k) → spot ≡ indices → owner s raw c k ≡ k
first_tells s raw c out at lens heads next k spot indices h lk x es ei e = ⊎_elim
    (λ (o : owner s raw c k ≡ k). o)
    (λ (b : (j : ℕ) × SaysBlock s raw c k j). absurd (omega (arith, again_before s raw c out at lens heads next k b.0 h lk x b.1, es, ei, e)))
    (first_or_again s raw c k)

pub again_tells : (s : SegSizes) (raw : List ℕ) (c k spot indices : ℕ) → spot ≡ 4 * table_place s raw c k → indices ≡ 4 * (values_place s raw c k + packed_len s raw c k) → (spot ≡ indices → ⊥) → (j : ℕ) × SaysBlock s raw c k j
again_tells s raw c k spot indices es ei never = ⊎_elim
    (λ (o : owner s raw c k ≡ k). absurd (never (es ∙ ap (λ q. 4 * (values_place s raw c q + packed_len s raw c q)) o ∙ sym ei)))
    (λ (b : (j : ℕ) × SaysBlock s raw c k j). b)
    (first_or_again s raw c k)
