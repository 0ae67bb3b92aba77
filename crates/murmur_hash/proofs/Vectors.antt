-- Known hashes.
use Rattle.std.proofs.Common.{◌≡◌, refl}
use Rattle.vol_spec.specs.Hashes.{hash8, stirred, all_mixed, loaded, mixed}

of_0 : hash8 0 ≡ 0x4772b084e028ae41
unfolding hash8 stirred all_mixed loaded mixed
of_0 = refl

of_1 : hash8 1 ≡ 0xe8bd67d616d4ce9a
unfolding hash8 stirred all_mixed loaded mixed
of_1 = refl
