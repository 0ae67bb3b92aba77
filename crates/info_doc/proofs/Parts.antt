-- The sharding of an object, by its steps.
use Rattle.std.proofs.Common.{◌≡◌, true, false, codes, Option, Some, None, Ok, Err, refl}
use Rattle.serde_json.specs.Data.{Data}
use Rattle.vol_spec.specs.declared.sharding.Sharding.{Sharding}
use Rattle.info_doc.specs.declared.fault.Item.TheVariants as items
use Rattle.info_doc.specs.declared.fault.InfoFault.{InfoFault}
use Rattle.info_doc.specs.Steps.{object_fault, sharding_type_fault, preshift_fault, hash_fault, hash_in, minishard_fault, shard_fault, number_in, inner_encoding_fault, is_sharded}
use Rattle.info_doc.specs.Groups.{part, parts_fault}
use Rattle.info_doc.specs.Info.{parts_in, judged_parts, judged_sharding}
use Rattle.info_doc.proofs.Judging.{unless_none, optional_some, optional_none, optional_err}
use Rattle.info_doc.proofs.SameSharding.{same_sharding}

pub no_parts_fault : (m : Option Data) → object_fault m ≡ None → sharding_type_fault (part (codes "@type") m) ≡ None → preshift_fault (part (codes "preshift_bits") m) ≡ None
    → hash_fault (part (codes "hash") m) ≡ None → minishard_fault (part (codes "minishard_bits") m) ≡ None
    → shard_fault (number_in (part (codes "minishard_bits") m)) (part (codes "shard_bits") m) ≡ None
    → inner_encoding_fault items.MinishardIndexEncoding (part (codes "minishard_index_encoding") m) ≡ None
    → inner_encoding_fault items.DataEncoding (part (codes "data_encoding") m) ≡ None → parts_fault m ≡ None
unfolding parts_fault
no_parts_fault m a b c d e f g h = rw (a, b, c, d, e, f, g, h) refl

pub parts_made : (m : Option Data) (s : Sharding) → parts_fault m ≡ None → s.preshift ≡ number_in (part (codes "preshift_bits") m) → s.hash ≡ hash_in (part (codes "hash") m)
    → s.minishard_bits ≡ number_in (part (codes "minishard_bits") m) → s.shard_bits ≡ number_in (part (codes "shard_bits") m) → Ok s ≡ judged_parts m
unfolding judged_parts parts_in
parts_made m s none p h b c = unless_none (parts_fault m) (parts_in m) s none (λ e. same_sharding s (parts_in m e) p h b c)

pub sharding_some : (m : Option Data) (s : Sharding) → is_sharded m ≡ true → Ok s ≡ judged_parts m → Ok (Some s) ≡ judged_sharding m
unfolding judged_parts judged_sharding
sharding_some m s is e = optional_some (is_sharded m) (parts_fault m) (parts_in m) s is e

pub sharding_none : (m : Option Data) → is_sharded m ≡ false → Ok None ≡ judged_sharding m
unfolding judged_sharding
sharding_none m is = optional_none (is_sharded m) (parts_fault m) (parts_in m) is

pub sharding_err : (m : Option Data) (e : InfoFault) → is_sharded m ≡ true → Err e ≡ judged_parts m → Err e ≡ judged_sharding m
unfolding judged_parts judged_sharding
sharding_err m e is h = optional_err (is_sharded m) (parts_fault m) (parts_in m) e is h
