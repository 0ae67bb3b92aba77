-- The bytes that a reply says, as a read of the object.
use Rattle.std.proofs.Common.{◌≡◌, ◌∙◌, ℕ, ◌-◌, min, List, ◌++◌, length, length-drop, length-take, drop, Option, Some, None, option_map, ap, refl, arith}
use Rattle.vol_base.specs.Outside.{Reads, part}
use Rattle.vol_base.specs.declared.outside.Got.TheVariants.{Bytes}
use Rattle.remote_store.specs.Bodies.{got_of_kind, stretch_count}
use Rattle.remote_store.specs.Fits.{bytes_said}
use Rattle.remote_store.specs.Placed.{got_by, placed}
use Rattle.remote_store.specs.declared.wanted.Kind.{Kind}
use Rattle.remote_store.specs.declared.wanted.Kind.TheVariants as kind

some_bytes : {x y : List ℕ} → Some x ≡ Some y → x ≡ y
some_bytes e = cc e

pub read_by : (s object : Option (List ℕ)) (from : ℕ) (old new : List ℕ) → s ≡ option_map (λ b. part b from (length old)) object → new ≡ placed s old → Reads object from old new (got_by s)
read_by None None from old new e is = record { got = refl; bytes = is }
read_by None (Some b) from old new e is = absurd (cc e)
read_by (Some x) None from old new e is = absurd (cc e)
read_by (Some x) (Some b) from old new e is =
    let same : x ≡ part b from (length old) = some_bytes e in
    record { got = ap (λ z. Bytes (length z)) same; bytes = is ∙ ap (λ z. z ++ drop (length z) old) same }

-- how many bytes are said
pub said_long : (k : Kind) (len from count : ℕ) (body : List ℕ) → length body ≡ len → got_by (bytes_said k from count body) ≡ got_of_kind k (stretch_count k len from count)
said_long kind.Missing len from count body long = refl
said_long kind.Beyond len from count body long = refl
said_long kind.Whole len from count body long =
    let n : length (part body from count) ≡ min (len - min from len) count = omega (arith, length-take count (drop from body), length-drop from body, long) in
    ap Bytes n
said_long kind.Part len from count body long = ap Bytes long
