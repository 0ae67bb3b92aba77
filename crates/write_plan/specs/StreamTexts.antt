-- The texts of the faults of a stream of writes (this project's): of the stream as a whole, or of a write by
-- its number.
use Rattle.std.specs.Prelude.{ℕ, List, [], ◌∷◌, codes}
use Rattle.std.specs.Fmt.{decimal}
use Rattle.vol_base.specs.FaultTexts.{texts}
use Rattle.write_plan.specs.declared.fault.PlanFault.{PlanFault}
use Rattle.write_plan.specs.declared.fault.PlanFault.TheVariants.{FeedFault, BadMagic, TooManyWrites, EmptyBox, OutsideBox, WritesTooLarge, Truncated, TrailingBytes, OutOfMemory}

abbrev pub stream_text : PlanFault → List ℕ
stream_text FeedFault = codes "feed fault"
stream_text BadMagic = codes "stream: bad magic"
stream_text (TooManyWrites count) = texts (codes "stream: too many writes " ∷ decimal count ∷ [])
stream_text (EmptyBox write) = texts (codes "write " ∷ decimal write ∷ codes ": empty box" ∷ [])
stream_text (OutsideBox write) = texts (codes "write " ∷ decimal write ∷ codes ": outside scale" ∷ [])
stream_text (WritesTooLarge write) = texts (codes "write " ∷ decimal write ∷ codes ": too large" ∷ [])
stream_text (Truncated write) = texts (codes "write " ∷ decimal write ∷ codes ": truncated" ∷ [])
stream_text TrailingBytes = codes "stream: trailing bytes"
stream_text OutOfMemory = codes "out of memory"
