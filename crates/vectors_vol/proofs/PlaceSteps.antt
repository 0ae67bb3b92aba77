-- What is left of a stream, one step on.
use Rattle.std.proofs.Common.{◌≡◌, ◌↔◌, IsTrue, Bool, true, false, ℕ, zero, suc, ◌+◌, ◌-◌, ◌*◌, ◌<◌, ◌≤◌, List, [], ◌++◌, length, take, drop, sym, ap, ◌∙◌, refl, arith}
use Rattle.std.proofs.lemmas.List.{append-nil, drop-append-le, drop-drop, drop_all, length-append, take-append-le}
use Rattle.byteorder.specs.Endian.{little_bytes}
use Rattle.vol_base.specs.declared.boxes.Box3.{Box3}
use Rattle.vol_base.specs.Boxes.{voxels}
use Rattle.vol_base.specs.Outside.{Gives}
use Rattle.vol_spec.specs.declared.scale.Scale.{Scale}
use Rattle.write_plan.specs.Stream.{magic}
use Rattle.vectors_vol.specs.Draws.{state_behind}
use Rattle.vectors_vol.specs.Generated.{box_at, box_from, counting_bytes, generated, writes_from}
use Rattle.vectors_vol.specs.WriteStreams.{head_of, stream_of, written}
use Rattle.vectors_vol.proofs.PlainSteps.{stream_is}
use Rattle.vectors_vol.proofs.ValueSteps.{length_values}

-- six draws later
pub state_next : (number begun x y : ℕ) → x ≡ state_behind number (6 * begun) → y ≡ state_behind x 6 → y ≡ state_behind number (6 * (begun + 1))
state_next number begun x y hx hy =
    let later : suc (suc (suc (suc (suc (suc (6 * begun)))))) ≡ 6 * (begun + 1) = omega arith in
    hy ∙ ap (λ z. state_behind z 6) hx ∙ ap (state_behind number) later

-- the whole stream
pub left_new : (s : Scale) (number writes : ℕ) (head : List ℕ) → head ≡ magic ++ little_bytes 4 writes
    → head ++ drop 0 (counting_bytes s.width 0 0) ++ written (writes_from s number 0 (writes - 0)) ≡ stream_of (generated s number writes)
left_new s number writes head h =
    let all : writes - 0 ≡ writes = omega arith in
    ap (λ xs. xs ++ written (writes_from s number 0 (writes - 0))) (append-nil head)
    ∙ ap (λ xs. xs ++ written (writes_from s number 0 (writes - 0))) h
    ∙ stream_is s number writes (writes - 0) all

-- where the write that was begun last is given, the later ones are left
pub left_given : (head rest : List ℕ) (h w first count at : ℕ) → length head ≡ 48 → h ≡ 48 → at ≡ w * count
    → drop h head ++ drop at (counting_bytes w first count) ++ rest ≡ rest
left_given head rest h w first count at len hh hat =
    let no_head : drop h head ≡ [] = drop_all h head (omega arith) in
    let no_values : drop at (counting_bytes w first count) ≡ [] =
    drop_all at (counting_bytes w first count) (omega (arith, length_values w first 0 count)) in
    ap (λ xs. xs ++ drop at (counting_bytes w first count) ++ rest) no_head ∙ ap (λ xs. xs ++ rest) no_values

-- the next write is the first of the later ones
pub left_next : (s : Scale) (number begun writes : ℕ) (head old_head : List ℕ) (h at f0 c0 x first count : ℕ) (part : Box3)
    → begun < writes → length old_head ≡ 48 → h ≡ 48 → at ≡ s.width * c0
    → x ≡ state_behind number (6 * begun) → part ≡ box_from s x → head ≡ head_of part → first ≡ number + 31 * begun → count ≡ voxels part * s.channels
    → head ++ counting_bytes s.width first count ++ written (writes_from s number (begun + 1) (writes - (begun + 1)))
    ≡ drop h old_head ++ drop at (counting_bytes s.width f0 c0) ++ written (writes_from s number begun (writes - begun))
left_next s number begun writes head old_head h at f0 c0 x first count part more len hh hat hx hpart hhead hfirst hcount =
    let rest : List ℕ = written (writes_from s number (begun + 1) (writes - (begun + 1))) in
    let box : part ≡ box_at s number begun = hpart ∙ ap (box_from s) hx in
    let one_more : suc (writes - (begun + 1)) ≡ writes - begun = omega arith in
    ap (λ xs. xs ++ counting_bytes s.width first count ++ rest) (hhead ∙ ap head_of box)
    ∙ ap (λ f. head_of (box_at s number begun) ++ counting_bytes s.width f count ++ rest) hfirst
    ∙ ap (λ c. head_of (box_at s number begun) ++ counting_bytes s.width (number + 31 * begun) c ++ rest)
    (hcount ∙ ap (λ b. voxels b * s.channels) box)
    ∙ ap (λ n. written (writes_from s number begun n)) one_more
    ∙ sym (left_given old_head (written (writes_from s number begun (writes - begun))) h s.width f0 c0 at len hh hat)

-- a front of a head is given
pub head_gives : (head values rest out : List ℕ) (h n : ℕ) → n ≤ length (drop h head) → 0 < n → take n out ≡ take n (drop h head)
    → Gives n out (drop h head ++ values ++ rest)
head_gives head values rest out h n within some bytes =
    let both : n ≤ length (drop h head ++ values) = omega (arith, length-append (drop h head) values) in
    record {
      front = bytes ∙ sym (take-append-le n (drop h head ++ values) rest both ∙ take-append-le n (drop h head) values within);
      within = omega (arith, length-append (drop h head ++ values) rest, both);
      some = λ _. some;
    }

pub head_left : (head values rest : List ℕ) (h n : ℕ) → n ≤ length (drop h head)
    → drop (h + n) head ++ values ++ rest ≡ drop n (drop h head ++ values ++ rest)
head_left head values rest h n within =
    let both : n ≤ length (drop h head ++ values) = omega (arith, length-append (drop h head) values) in
    sym (drop-append-le n (drop h head ++ values) rest both ∙ ap (λ xs. xs ++ rest) (drop-append-le n (drop h head) values within)
    ∙ ap (λ xs. xs ++ values ++ rest) (drop-drop n h head))

-- a front of values is given
pub values_gives : (head values rest out : List ℕ) (h at n : ℕ) → length head ≡ 48 → h ≡ 48 → n ≤ length (drop at values)
    → take n out ≡ take n (drop at values) → (n ≡ 0 → drop h head ++ drop at values ++ rest ≡ []) → Gives n out (drop h head ++ drop at values ++ rest)
values_gives head values rest out h at n len hh within bytes none =
    let no_head : drop h head ≡ [] = drop_all h head (omega arith) in
    let all : drop h head ++ drop at values ++ rest ≡ drop at values ++ rest = ap (λ xs. xs ++ drop at values ++ rest) no_head in
    record {
      front = bytes ∙ sym (ap (take n) all ∙ take-append-le n (drop at values) rest within);
      within = omega (arith, ap length all, length-append (drop at values) rest);
      some = some n none;
    }
  where
    some : (n : ℕ) → (n ≡ 0 → drop h head ++ drop at values ++ rest ≡ []) → 0 < length (drop h head ++ drop at values ++ rest) → 0 < n
    some zero none h = absurd (omega (arith, ap length (none refl)))
    some (suc n) none h = omega arith

pub values_left : (head values rest : List ℕ) (h at n : ℕ) → length head ≡ 48 → h ≡ 48 → n ≤ length (drop at values)
    → drop h head ++ drop (at + n) values ++ rest ≡ drop n (drop h head ++ drop at values ++ rest)
values_left head values rest h at n len hh within =
    let no_head : drop h head ≡ [] = drop_all h head (omega arith) in
    ap (λ xs. xs ++ drop (at + n) values ++ rest) no_head
    ∙ sym (ap (λ xs. drop n (xs ++ drop at values ++ rest)) no_head ∙ drop-append-le n (drop at values) rest within
    ∙ ap (λ xs. xs ++ rest) (drop-drop n at values))

-- after the last write nothing is left
pub none_left : (s : Scale) (number begun writes : ℕ) (head : List ℕ) (h at first count : ℕ) → writes ≤ begun → length head ≡ 48 → h ≡ 48 → at ≡ s.width * count
    → drop h head ++ drop at (counting_bytes s.width first count) ++ written (writes_from s number begun (writes - begun)) ≡ []
none_left s number begun writes head h at first count last len hh hat =
    let none : writes - begun ≡ 0 = omega arith in
    left_given head (written (writes_from s number begun (writes - begun))) h s.width first count at len hh hat
    ∙ ap (λ n. written (writes_from s number begun n)) none

pub not_given : (test : Bool) (A : Type 0) → (IsTrue test ↔ A) → test ≡ false → A → ⊥
not_given true A h e a = cc
not_given false A h e a = cc (h.1 a)
