-- The objects of one round more.
use Rattle.std.proofs.Common.{◌≡◌, ◌∙◌, ℕ, ◌+◌, ◌-◌, ◌≤◌, ◌++◌, map, Option, Result, Ok, Err, ap, sym, subst, arith}
use Rattle.std.specs.Prelude.{IsErrAnd}
use Rattle.std.specs.List.{range_with_len}
use Rattle.vol_base.specs.Outside.{Objects}
use Rattle.vol_spec.specs.Types.{Bytes, Name}
use Rattle.vol_spec.specs.declared.scale.Scale.{Scale}
use Rattle.write_plan.specs.Jobs.{Work}
use Rattle.encode_round.specs.Ready.{chunk_ready}
use Rattle.shard_writer.specs.Plain.{job_object, ready_objects}
use Rattle.shard_writer.specs.Works.{Puts}
use Rattle.shard_writer.proofs.PutSteps.{none_puts, puts_more, puts_stopped}
use Rattle.shard_writer.proofs.WindowSteps.{map-range-split}

-- the jobs up to one, and those from it on
ready_split : (dataset : Name) (s : Scale) (work : Work) (ready : ℕ → Option Bytes) (a b c : ℕ) → a ≤ b → b ≤ c → ready_objects dataset s work ready a c ≡ ready_objects dataset s work ready a b ++ ready_objects dataset s work ready b c
ready_split dataset s work ready a b c low high =
    let f : ℕ → Name × Bytes = job_object dataset s work.cells (chunk_ready work ready) in
    let all : c - a ≡ (b - a) + (c - b) = omega arith in
    let next : a + (b - a) ≡ b = omega arith in
    ap (λ n. map f (range_with_len a n)) all ∙ map-range-split f a (b - a) (c - b) ∙ ap (λ n. map f (range_with_len a (b - a)) ++ map f (range_with_len n (c - b))) next

pub ready_more : {E : Type 0} (dataset : Name) (s : Scale) (work : Work) (ready : ℕ → Option Bytes) (a b c : ℕ) (o now new : Option Objects) (bytes len : ℕ) → a ≤ b → b ≤ c
    → Puts {E = E} (ready_objects dataset s work ready a b) o now (Ok bytes) → Puts {E = E} (ready_objects dataset s work ready b c) now new (Ok len)
    → Puts {E = E} (ready_objects dataset s work ready a c) o new (Ok (bytes + len))
ready_more {E = E} dataset s work ready a b c o now new bytes len low high was puts =
    subst (λ list. Puts {E = E} list o new (Ok (bytes + len))) (sym (ready_split dataset s work ready a b c low high))
    (puts_more (ready_objects dataset s work ready a b) (ready_objects dataset s work ready b c) o now new bytes len was puts)

-- a front of a round is one of all
pub ready_stopped : {E : Type 0} (dataset : Name) (s : Scale) (work : Work) (ready : ℕ → Option Bytes) (a b c to : ℕ) (o now new : Option Objects) (bytes : ℕ) (e : E) (r : Result ℕ E) → IsErrAnd r (λ fault. fault ≡ e) → a ≤ b → b ≤ c → c ≤ to
    → Puts {E = E} (ready_objects dataset s work ready a b) o now (Ok bytes) → Puts {E = E} (ready_objects dataset s work ready b c) now new (Err e)
    → Puts {E = E} (ready_objects dataset s work ready a to) o new r
ready_stopped dataset s work ready a b c to o now new bytes e r stops low high few was puts =
    puts_stopped (ready_objects dataset s work ready a b) (ready_objects dataset s work ready b c) (ready_objects dataset s work ready c to) (ready_objects dataset s work ready a to) o now new bytes e r stops
    (ready_split dataset s work ready a c to (omega arith) few ∙ ap (λ xs. xs ++ ready_objects dataset s work ready c to) (ready_split dataset s work ready a b c low high)) was puts

-- before the first round
pub ready_none : {E : Type 0} (dataset : Name) (s : Scale) (work : Work) (ready : ℕ → Option Bytes) (a : ℕ) (o : Option Objects) → Puts {E = E} (ready_objects dataset s work ready a a) o o (Ok 0)
ready_none dataset s work ready a o =
    let none : a - a ≡ 0 = omega arith in
    none_puts (ready_objects dataset s work ready a a) o (ap (λ n. map (job_object dataset s work.cells (chunk_ready work ready)) (range_with_len a n)) none)
