-- Known indexes.
use Rattle.std.proofs.Common.{◌≡◌, refl, [], ◌∷◌, List, ℕ, Ok, Err, Some, None, ◌-◌, ◌^◌}
use Rattle.std.specs.Prelude.{flat_map}
use Rattle.byteorder.specs.Endian.{little_bytes}
use Rattle.vol_spec.specs.Rows.{columns_of, find_in, number_at}
use Rattle.vol_base.specs.declared.faults.IndexFault.TheVariants.{BadId, BadStart}

index : List ℕ → List ℕ
index xs = flat_map (little_bytes 8) xs

-- ids 0 and 1, starts 0 and 1, sizes 1 and 1
second : find_in (columns_of (index (0 ∷ 1 ∷ 0 ∷ 0 ∷ 1 ∷ 1 ∷ []))) 1 ≡ Ok (Some (record { id = 1; start = 1; size = 1 }))
unfolding index number_at
second = refl

absent : find_in (columns_of (index (0 ∷ 1 ∷ 0 ∷ 0 ∷ 1 ∷ 1 ∷ []))) 2 ≡ Ok None
unfolding index number_at
absent = refl

-- the second id doesn't ascend
first_of_bad : find_in (columns_of (index (0 ∷ 0 ∷ 0 ∷ 0 ∷ 1 ∷ 1 ∷ []))) 0 ≡ Ok (Some (record { id = 0; start = 0; size = 1 }))
unfolding index number_at
first_of_bad = refl

second_of_bad : find_in (columns_of (index (0 ∷ 0 ∷ 0 ∷ 0 ∷ 1 ∷ 1 ∷ []))) 1 ≡ Err (BadId 1)
unfolding index number_at
second_of_bad = refl

-- ids 1 and 1: the first row ends the look-up of 1, and that of 0
swapped_0 : find_in (columns_of (index (1 ∷ 0 ∷ 0 ∷ 0 ∷ 1 ∷ 1 ∷ []))) 0 ≡ Ok None
unfolding index number_at
swapped_0 = refl

swapped_1 : find_in (columns_of (index (1 ∷ 0 ∷ 0 ∷ 0 ∷ 1 ∷ 1 ∷ []))) 1 ≡ Ok (Some (record { id = 1; start = 0; size = 1 }))
unfolding index number_at
swapped_1 = refl

-- the first size is 2^64 - 1
large : find_in (columns_of (index (0 ∷ 1 ∷ 0 ∷ 0 ∷ (2 ^ 64 - 1) ∷ 1 ∷ []))) 1 ≡ Err (BadStart 1)
unfolding index number_at
large = refl
