-- What lists of faults without a first say of each of their faults, and of the bits of a sound chunk's headers.
use Rattle.std.proofs.Common.{◌≡◌, ℕ, zero, suc, ◌+◌, ◌<◌, ◌≤◌, List, [], ◌∷◌, ◌++◌, arith, refl, ap, ◌∙◌, sym, Option, Some, None, IsTrue, Bool, true, false, inl, inr, cond}
use Rattle.std.specs.Prelude.{map, flat_map, not}
use Rattle.std.specs.List.{range_with_len}
use Rattle.std.proofs.lemmas.Bool.{cases_eq}
use Rattle.vol_base.specs.declared.faults.ChunkFault.{ChunkFault}
use Rattle.vol_spec.specs.BoxValues.{first_some}
use Rattle.vol_spec.specs.SegBlocks.{block_count, voxels_in}
use Rattle.vol_spec.specs.SegChunks.{bits}
use Rattle.vol_spec.specs.SegFaults.{bits_fault, block_faults, channel_fault, channel_faults, is_allowed, length_fault, seg_fault, table_fault, values_fault, when}
use Rattle.vol_spec.specs.SegSizes.{SegSizes}
use Rattle.segment_blocks.proofs.Bits.{allowed_le}

front_none : (xs ys : List (Option ChunkFault)) → first_some (xs ++ ys) ≡ None → first_some xs ≡ None
front_none [] ys h = refl
front_none (None ∷ xs) ys h = front_none xs ys h
front_none (Some f ∷ xs) ys h = absurd (cc)

back_none : (xs ys : List (Option ChunkFault)) → first_some (xs ++ ys) ≡ None → first_some ys ≡ None
back_none [] ys h = h
back_none (None ∷ xs) ys h = back_none xs ys h
back_none (Some f ∷ xs) ys h = absurd (cc)

head_none : (o : Option ChunkFault) (rest : List (Option ChunkFault)) → first_some (o ∷ rest) ≡ None → o ≡ None
head_none None rest h = refl
head_none (Some f) rest h = absurd (cc)

tail_none : (o : Option ChunkFault) (rest : List (Option ChunkFault)) → first_some (o ∷ rest) ≡ None → first_some rest ≡ None
tail_none None rest h = h
tail_none (Some f) rest h = absurd (cc)

each_none : (g : ℕ → List (Option ChunkFault)) (a n : ℕ) → first_some (flat_map g (range_with_len a n)) ≡ None → (i : ℕ) → a ≤ i → i < a + n → first_some (g i) ≡ None
each_none g a zero h i l m = absurd (omega arith)
each_none g a (suc n) h i l m = elim (cases_eq a i) [
  | inl same ↦ ap (λ k. first_some (g k)) (sym same) ∙ front_none (g a) (flat_map g (range_with_len (a + 1) n)) h
  | inr other ↦ each_none g (a + 1) n (back_none (g a) (flat_map g (range_with_len (a + 1) n)) h) i (omega arith) (omega arith)
]

when_not : (b : Bool) (f : ChunkFault) → when (not b) f ≡ None → IsTrue b
when_not true f h = refl
when_not false f h = absurd (cc)

-- bits without a fault
pub few_bits : (bytes : List ℕ) (c k : ℕ) → bits_fault bytes c k ≡ None → bits bytes c k ≤ 32
few_bits bytes c k h = allowed_le (bits bytes c k) (when_not (is_allowed (bits bytes c k)) _ h)

-- the bits of a sound chunk's headers
pub sound_bits : (bytes : List ℕ) (s : SegSizes) (c k : ℕ) → seg_fault bytes s ≡ None → c < s.channels → k < block_count s → bits bytes c k ≤ 32
unfolding seg_fault
sound_bits bytes s c k h lc lk =
    let all = tail_none (length_fault bytes s) (flat_map (channel_faults bytes s) (range_with_len 0 s.channels)) h in
    let channel = each_none (channel_faults bytes s) 0 s.channels all c (omega arith) (omega arith) in
    let blocks = tail_none (channel_fault bytes s c) (flat_map (block_faults bytes s c) (range_with_len 0 (block_count s))) channel in
    let here = each_none (block_faults bytes s c) 0 (block_count s) blocks k (omega arith) (omega arith) in
    few_bits bytes c k (head_none (bits_fault bytes c k) (values_fault bytes s c k ∷ map (table_fault bytes s c k) (voxels_in s k)) here)

-- a fault that is judged where a test holds
pub judged_holds : (b : Bool) (o : Option ChunkFault) (f : ChunkFault) → cond b o None ≡ Some f → IsTrue b
judged_holds true o f h = refl
judged_holds false o f h = absurd (cc)

pub judged_some : (b : Bool) (o : Option ChunkFault) (f : ChunkFault) → cond b o None ≡ Some f → o ≡ Some f
judged_some true o f h = h
judged_some false o f h = absurd (cc)
