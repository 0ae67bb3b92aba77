-- The values of a cell, as writes are put in one after another.
use Rattle.std.proofs.Common.{◌≡◌, ℕ, suc, ◌+◌, ◌*◌, ◌^◌, ◌<◌, ◌≤◌, List, [], ◌∷◌, ◌++◌, length, take, drop, get_or, Bool, true, false, cond, refl, sym, ap, ◌∙◌, subst, arith, ⊎_elim}
use Rattle.std.specs.Prelude.{filter, slice_index, slice_index_or}
use Rattle.std.specs.List.{All}
use Rattle.std.proofs.lemmas.Bool.{cases_lt}
use Rattle.std.proofs.lemmas.Grind.{common_steps}
use Rattle.std.proofs.lemmas.List.{get_or-map, get_or_past, length-map, map_more}
use Rattle.vol_base.specs.declared.boxes.Box3.{Box3}
use Rattle.vol_base.specs.Boxes.{num, value, IsSome, Within}
use Rattle.vol_base.specs.Bytes.{AreBytes}
use Rattle.vol_spec.specs.Grid.{cell_box, meets}
use Rattle.vol_spec.specs.LastWrite.{Before, covers, last, zeros}
use Rattle.vol_spec.specs.Raw.{digit, number, raw_at, raw_len}
use Rattle.vol_spec.specs.StoredCells.{written_raw}
use Rattle.vol_spec.specs.declared.scale.Scale.{Scale}
use Rattle.vol_spec.proofs.RawSteps.{is_written_raw, last-more}
use Rattle.chunk_grid.proofs.GridSteps.{cell_box-short}
use Rattle.chunk_grid.proofs.StoredSteps.{Covers-from, covers-true, last-met}
use Rattle.write_plan.proofs.SizeSteps.{one_of_total}
use Rattle.voxel_raw.specs.Common.{IsCommon}
use Rattle.voxel_raw.specs.Copies.{HasValues, Holds, KeepsRest}
use Rattle.write_plan.specs.Fills.{Applied, HoldsValues, Shows}
use Rattle.write_plan.specs.Pairs.{writes_of_run}
use Rattle.write_plan.specs.WriteLists.{BoxWrite, IsWriteOf, total, write_in, writes_in}
use Rattle.write_plan.specs.declared.pairs.Pair.{Pair}
use Rattle.write_plan.specs.declared.writes.Write.{Write}

-- one write
pub applied_by : (w : BoxWrite) (cell common : Box3) (channels width : ℕ) (old new : List ℕ) → IsCommon w.0 cell common
    → HasValues w.0 cell common channels width w.1 new → KeepsRest cell common channels width old new → Applied w cell channels width old new
applied_by w cell common channels width old new is values rest = record {
  taken = λ p c in_cell in_write lc. ap number (values p c ((is.both p).1 (in_write, in_cell)) lc);
  kept = λ p c in_cell out lc. ap number (rest p c in_cell (λ cov. out ((is.both p).0 cov).0) lc);
}

-- one write more
chosen : (t : Bool) (a b x : ℕ) → (t ≡ true → x ≡ a) → (t ≡ false → x ≡ b) → x ≡ cond t a b
chosen true a b x f g = f refl
chosen false a b x f g = g refl

pub shows_more : (cell : Box3) (channels width : ℕ) (before : Before) (ws : List BoxWrite) (w : BoxWrite) (old new : List ℕ) → Shows cell channels width before ws old → Applied w cell channels width old new
    → Shows cell channels width before (ws ++ w ∷ []) new
shows_more cell channels width before ws w old new was h p c cov lc =
    chosen (covers w.0 p) (digit w.1 width (num w.0 p c)) (last width before ws p c) (digit new width (num cell p c))
    (λ t. h.taken p c cov (Covers-from w.0 p t) lc)
    (λ t. h.kept p c cov (λ in_write. let e = covers-true w.0 p in_write in cc (t, e)) lc ∙ was p c cov lc)
    ∙ sym (last-more width before ws w p c)

pub run_more : (ws : List Write) (run : List Pair) (i : ℕ) (none : Pair) (w : Write) (d : BoxWrite) → i < length run → (get_or run i none).write < length ws → w ≡ get_or ws (get_or run i none).write w
    → writes_of_run (writes_in ws) d (take (i + 1) run) ≡ writes_of_run (writes_in ws) d (take i run) ++ write_in w ∷ []
run_more ws run i none w d l low is =
    let read : slice_index_or (writes_in ws) (get_or run i none).write d ≡ write_in w = get_or-map write_in ws (get_or run i none).write w d low ∙ ap write_in (sym is) in
    map_more (λ (q : Pair). slice_index_or (writes_in ws) q.write d) run i none l ∙ ap (λ v. writes_of_run (writes_in ws) d (take i run) ++ v ∷ []) read

-- zeros
number-zero : (xs : List ℕ) → ((i : ℕ) → slice_index xs i ≡ 0) → number xs ≡ 0
number-zero [] h = refl
number-zero (x ∷ xs) h = let a = h 0 in let b = number-zero xs (λ i. h (suc i)) in omega arith

zero_at : (raw : List ℕ) (i : ℕ) → All (λ byte. byte ≡ 0) raw → slice_index raw i ≡ 0
zero_at raw i h = ⊎_elim (λ (lt : i < length raw). h i 0 lt) (λ (ge : length raw ≤ i). get_or_past raw i 0 ge) (cases_lt i (length raw))

zero_part : (raw : List ℕ) (w k i : ℕ) → All (λ byte. byte ≡ 0) raw → slice_index (take w (drop k raw)) i ≡ 0
zero_part raw w k i h =
    ⊎_elim (λ (lt : i < w). let e : slice_index (take w (drop k raw)) i ≡ slice_index raw (k + i) = grind (arith, common_steps) in e ∙ zero_at raw (k + i) h)
    (λ (ge : w ≤ i). grind (arith, common_steps))
    (cases_lt i w)

pub cleared_zeros : (b : Box3) (width : ℕ) (raw : List ℕ) → All (λ byte. byte ≡ 0) raw → raw_at b width raw ≡ zeros
cleared_zeros b width raw h = λ k p c. number-zero (value width raw (num b p c)) (λ i. zero_part raw width (width * num b p c) i h) k

pub over_cleared : (s : Scale) (ws : List BoxWrite) (cell raw out : List ℕ) → All (λ byte. byte ≡ 0) raw → out ≡ written_raw s (raw_at (cell_box s cell) s.width raw) ws cell → out ≡ written_raw s zeros ws cell
over_cleared s ws cell raw out h e = e ∙ ap (λ before. written_raw s before ws cell) (cleared_zeros (cell_box s cell) s.width raw h)

-- what shows the writes that meet a cell is what all of them give it
pub written_is : (s : Scale) (before : Before) (ws : List BoxWrite) (cell : List ℕ) (run : List BoxWrite) (out : List ℕ) → IsSome (cell_box s cell) → run ≡ filter (λ w. meets s w.0 cell) ws
    → length out ≡ raw_len (cell_box s cell) s.channels s.width → AreBytes out → Shows (cell_box s cell) s.channels s.width before run out → out ≡ written_raw s before ws cell
written_is s before ws cell run out some is len small shows =
    is_written_raw s before ws cell out some len small
    (λ p c cov lc. shows p c cov lc ∙ ap (λ vs. last s.width before vs p c) is ∙ last-met s before ws cell p c cov)

-- the cell's own bytes are all there are
pub fits_values : (s : Scale) (ws : List BoxWrite) → All (IsWriteOf s) ws → total ws ≤ 2 ^ 30 → All (λ w. HoldsValues w.0 s.channels s.width (length w.1)) ws
fits_values s ws h small k d l =
    let own = h k d l in
    let part : length (get_or ws k d).1 ≤ total ws = one_of_total ws k d l in
    record { len = own.bytes; limit = omega arith }

pub holds_cell : (s : Scale) (cell : List ℕ) (b : Box3) (n : ℕ) → b ≡ cell_box s cell → n ≡ raw_len (cell_box s cell) s.channels s.width → HoldsValues b s.channels s.width n
holds_cell s cell b n is e =
    let short = cell_box-short s cell in
    let first = s.first_ok in
    subst (λ b. HoldsValues b s.channels s.width n) (sym is) (record { len = e; limit = omega arith })

pub holds_part : (b part : Box3) (channels width n m : ℕ) → m ≡ n → HoldsValues b channels width n → Within part b → Holds b part channels width m
holds_part b part channels width n m e h within = subst (λ k. Holds b part channels width k) (sym e) (record { within = within; len = h.len; limit = h.limit })

pub holds_write : (ws : List Write) (i : ℕ) (w : Write) (channels width : ℕ) → All (λ (v : BoxWrite). HoldsValues v.0 channels width (length v.1)) (writes_in ws) → i < length ws → w ≡ get_or ws i w
    → HoldsValues w.part channels width (length w.bytes.items)
holds_write ws i w channels width h l is =
    let long : i < length (writes_in ws) = omega (arith, l, length-map ws write_in) in
    subst (λ (v : BoxWrite). HoldsValues v.0 channels width (length v.1)) (get_or-map write_in ws i w (write_in w) l ∙ ap write_in (sym is)) (h i (write_in w) long)

pub shows_along : (a b : Box3) (channels width : ℕ) (old : List ℕ) (ws : List BoxWrite) (raw : List ℕ) → a ≡ b → Shows a channels width (raw_at a width old) ws raw → Shows b channels width (raw_at b width old) ws raw
shows_along a b channels width old ws raw e h = subst (λ (x : Box3). Shows x channels width (raw_at x width old) ws raw) e h
