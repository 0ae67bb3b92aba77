-- What the answer of a write says.
use Rattle.std.proofs.Common.{◌≡◌, ◌∙◌, ◌+◌, ◌*◌, ◌^◌, length, Option, None, Some, Result, Ok, Err, false, refl, sym, ap, inl, arith}
use Rattle.std.specs.Prelude.{drop, IsOkAnd}
use Rattle.std.specs.Option.{option_map}
use Rattle.std.proofs.lemmas.List.{take_all}
use Rattle.vol_base.specs.Outside.{Draft, Objects, OnlyReads}
use Rattle.vol_spec.proofs.Told.{in_told}
use Rattle.vol_spec.specs.StoredCells.{put_in}
use Rattle.vol_spec.specs.Types.{Bytes, Listed, Name, Writes}
use Rattle.vol_spec.specs.declared.scale.Scale.{Scale}
use Rattle.shard_writer.specs.Writing.{PutsFront}
use Rattle.size_laws.specs.Further.{all_views}
use Rattle.size_laws.specs.Sizes.{stored_all}
use Rattle.shard_writer.specs.declared.written.Written.{Written}
use Rattle.write_plan.specs.Readers.{Took}
use Rattle.write_plan.specs.declared.fault.PlanFault.{PlanFault}
use Rattle.command_base.proofs.Choices.{ok_and}
use Rattle.command_base.specs.Statuses.{puts}
use Rattle.write_cmd.specs.Refusals.{write_status}
use Rattle.write_cmd.specs.Storing.{AllReadBack, Counts, FrontPut, HasStored, IsRight, KeepsStore, TakesStream, WritesScale}
use Rattle.write_cmd.specs.declared.refusal.WriteRefusal.{WriteRefusal}
use Rattle.write_cmd.specs.declared.refusal.WriteRefusal.TheVariants.{NoScale, TooManyVoxels, NotEmpty, Stream, TooManyCells, StoreFault, FeedFault, NoMemory}

-- a refusal of a status that puts nothing only read
pub write_keeps : (refusal : WriteRefusal) (old new : Option Objects) (before after : Option Draft) → KeepsStore refusal old new before after → puts (write_status refusal) ≡ false → OnlyReads old new before after
write_keeps (NoScale why) old new before after kept none = kept
write_keeps (TooManyVoxels voxels) old new before after kept none = kept
write_keeps NotEmpty old new before after kept none = kept
write_keeps (Stream fault) old new before after kept none = kept
write_keeps (TooManyCells cells) old new before after kept none = kept
write_keeps StoreFault old new before after kept none = cc none
write_keeps FeedFault old new before after kept none = kept
write_keeps NoMemory old new before after kept none = cc none

none_dropped : (left : Option Bytes) → left ≡ option_map (drop 0) left
none_dropped None = refl
none_dropped (Some bytes) = refl

-- nothing is taken of a feed that isn't read
pub takes_none : (left : Option Bytes) → TakesStream left left
takes_none left = (0, omega arith, none_dropped left)

pub takes_read : (before now : Option Bytes) → Took (2 ^ 30 + 48 * 65536 + 9) before now → TakesStream before now
takes_read before now took = (took.count, took.small, took.left)

-- want of memory is always right, where nothing changed
pub memory_right : (told : Option Objects) (left : Option Bytes) (dataset key : Name) → IsRight (Err NoMemory) told told left left dataset key
memory_right told left dataset key = record {
  judges = in_told told _ (λ m is. tt);
  writes = in_told told _ (λ m is. in_told left _ (λ bytes fed. inl is));
  feed = tt;
  same = λ none. refl;
}

-- all objects are a front of them
pub front_all : (m : Objects) (now : Option Objects) (list : Listed) → now ≡ Some (put_in m list) → PutsFront list m now
front_all m now list put = record { count = length list; within = omega arith; put = put ∙ ap (λ xs. Some (put_in m xs)) (sym (take_all (length list) list (omega arith))) }

pub stored_front : (m : Objects) (now : Option Objects) (dataset key : Name) (s : Scale) (list : Result Writes PlanFault) → IsOkAnd list (HasStored m now dataset key s) → FrontPut m now list dataset s
stored_front m now dataset key s (Ok ws) h = ((h.writable, h.empty), (h.few, front_all m now (stored_all dataset (all_views s) ws) h.put))
stored_front m now dataset key s (Err fault) h = absurd h

pub written_front : (m : Objects) (now : Option Objects) (dataset key : Name) (s : Scale) (list : Result Writes PlanFault) (written : Written) → WritesScale (Ok written) m now list dataset key s → FrontPut m now list dataset s
written_front m now dataset key s list written h =
    stored_front m now dataset key s list (ok_and list (λ ws. HasStored m now dataset key s ws × AllReadBack now dataset s ws × Counts written dataset s ws) (HasStored m now dataset key s) (λ ws k. k.0) h)
