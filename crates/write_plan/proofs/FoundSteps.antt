-- The cells that are read off pairs in order.
use Rattle.std.proofs.Common.{◌≡◌, ◌≢◌, ℕ, ◌+◌, ◌<◌, ◌≤◌, List, [], ◌∷◌, ◌++◌, length, take, map, get_or, Bool, true, false, not, eqb, Option, Some, None, IfSome, refl, sym, ap, ◌∙◌, subst, arith}
use Rattle.std.specs.Prelude.{All, Contains}
use Rattle.std.specs.List.Sorted.{IsNonDecreasingBy}
use Rattle.std.specs.Option.{option_eq}
use Rattle.std.proofs.lemmas.Bool.Decides.{nat_tests}
use Rattle.std.proofs.lemmas.Grind.{common_steps}
use Rattle.std.proofs.lemmas.List.{get_or-map, get_or-take, get_or_default, length-map, length-take, map_push, take_more}
use Rattle.std.proofs.lemmas.List.Elements.{All-nil, All-push}
use Rattle.std.proofs.lemmas.List.Quantifiers.{all_pairs_push}
use Rattle.vol_spec.specs.Grid.{IsCell}
use Rattle.vol_spec.specs.StoredCells.{cell_number}
use Rattle.vol_spec.specs.declared.scale.Scale.{Scale}
use Rattle.write_plan.specs.Pairs.{AreRead}
use Rattle.write_plan.specs.declared.pairs.Pair.{Pair}
use Rattle.chunk_grid.proofs.OrderSteps.{cell_known}

abbrev number : Pair → ℕ
number pair = pair.number

-- the cells of the pairs before, and the number of the last of these pairs
pub record IsSoFar (s : Scale) (ps : List Pair) (last : Option ℕ) (cells : List (List ℕ)) : Type 0 where
  pub read : AreRead s ps cells
  pub held : IfSome last (Contains (map (cell_number s) cells))
  pub below : (n : ℕ) → All (λ (pair : Pair). pair.number ≤ n) ps → last ≢ Some n → All (λ cell. cell_number s cell < n) cells

pub none_read : (s : Scale) (cells : List (List ℕ)) → cells ≡ [] → IsSoFar s [] None cells
none_read s cells e = subst (IsSoFar s [] None) (sym e) (record {
  read = record {
    order = record { each = All-nil (IsCell s); rising = λ i j d l m. absurd (omega arith) };
    from = All-nil (λ cell. Contains (map number []) (cell_number s cell));
    to = All-nil (λ (pair : Pair). Contains (map (cell_number s) []) pair.number);
  };
  held = tt;
  below = λ n h ne. All-nil (λ cell. cell_number s cell < n);
})

in_front : {X : Type 0} (xs : List X) (x y : X) → Contains xs y → Contains (xs ++ x ∷ []) y
in_front xs x y (k, l, e) = (k, grind (arith, common_steps), grind (arith, common_steps))

at_end : {X : Type 0} (xs : List X) (x : X) → Contains (xs ++ x ∷ []) x
at_end xs x = (length xs, grind (arith, common_steps), grind (arith, common_steps))

number_more : (ps : List Pair) (pair : Pair) (n : ℕ) → Contains (map number ps) n → Contains (map number (ps ++ pair ∷ [])) n
number_more ps pair n c = subst (λ xs. Contains xs n) (sym (map_push number ps pair)) (in_front (map number ps) pair.number n c)

cell_more : (s : Scale) (cells : List (List ℕ)) (cell : List ℕ) (n : ℕ) → Contains (map (cell_number s) cells) n → Contains (map (cell_number s) (cells ++ cell ∷ [])) n
cell_more s cells cell n c = subst (λ xs. Contains xs n) (sym (map_push (cell_number s) cells cell)) (in_front (map (cell_number s) cells) (cell_number s cell) n c)

front_small : (ps : List Pair) (pair : Pair) (n : ℕ) → All (λ (pair : Pair). pair.number ≤ n) (ps ++ pair ∷ []) → All (λ (pair : Pair). pair.number ≤ n) ps
front_small ps pair n h k d l =
    let e : get_or (ps ++ pair ∷ []) k d ≡ get_or ps k d = grind (arith, common_steps) in
    let long : k < length (ps ++ pair ∷ []) = grind (arith, common_steps) in
    subst (λ (p : Pair). p.number ≤ n) e (h k d long)

last_small : (ps : List Pair) (pair : Pair) (n : ℕ) → All (λ (pair : Pair). pair.number ≤ n) (ps ++ pair ∷ []) → pair.number ≤ n
last_small ps pair n h =
    let e : get_or (ps ++ pair ∷ []) (length ps) pair ≡ pair = grind (arith, common_steps) in
    let long : length ps < length (ps ++ pair ∷ []) = grind (arith, common_steps) in
    subst (λ (p : Pair). p.number ≤ n) e (h (length ps) pair long)

-- a pair of the cell before
same_cell : (s : Scale) (ps : List Pair) (last : Option ℕ) (cells : List (List ℕ)) (pair : Pair) → IsSoFar s ps last cells → last ≡ Some pair.number → IsSoFar s (ps ++ pair ∷ []) last cells
same_cell s ps last cells pair h e = record {
  read = record {
    order = h.read.order;
    from = λ k d l. number_more ps pair _ (h.read.from k d l);
    to = All-push (λ (pair : Pair). Contains (map (cell_number s) cells) pair.number) ps pair h.read.to (subst (λ o. IfSome o (Contains (map (cell_number s) cells))) e h.held);
  };
  held = h.held;
  below = λ n small ne. h.below n (front_small ps pair n small) ne;
}

-- a pair of the next cell
next_cell : (s : Scale) (ps : List Pair) (last : Option ℕ) (cells : List (List ℕ)) (pair : Pair) (cell : List ℕ) → IsSoFar s ps last cells → last ≢ Some pair.number
    → All (λ (p : Pair). p.number ≤ pair.number) ps → IsCell s cell → cell_number s cell ≡ pair.number → IsSoFar s (ps ++ pair ∷ []) (Some pair.number) (cells ++ cell ∷ [])
next_cell s ps last cells pair cell h ne small is e =
    let low : All (λ c. cell_number s c < pair.number) cells = h.below pair.number small ne in
    let own : Contains (map (cell_number s) (cells ++ cell ∷ [])) pair.number =
    subst (λ n. Contains (map (cell_number s) (cells ++ cell ∷ [])) n) e (subst (λ xs. Contains xs (cell_number s cell)) (sym (map_push (cell_number s) cells cell)) (at_end (map (cell_number s) cells) (cell_number s cell))) in
    record {
      read = record {
        order = record {
          each = All-push (IsCell s) cells cell h.read.order.each is;
          rising = all_pairs_push (λ a b. cell_number s a < cell_number s b) cells cell h.read.order.rising (λ k d l. let lt = low k d l in omega arith);
        };
        from = All-push (λ c. Contains (map number (ps ++ pair ∷ [])) (cell_number s c)) cells cell (λ k d l. number_more ps pair _ (h.read.from k d l))
            (subst (λ n. Contains (map number (ps ++ pair ∷ [])) n) (sym e) (subst (λ xs. Contains xs pair.number) (sym (map_push number ps pair)) (at_end (map number ps) pair.number)));
        to = All-push (λ (p : Pair). Contains (map (cell_number s) (cells ++ cell ∷ [])) p.number) ps pair (λ k d l. cell_more s cells cell _ (h.read.to k d l)) own;
      };
      held = own;
      below = λ n all other. let le = last_small ps pair n all in
          let apart : pair.number ≢ n = λ same. other (ap Some same) in
          All-push (λ c. cell_number s c < n) cells cell (λ k d l. let lt = low k d l in omega arith) (omega arith);
    }

-- whether the number before is another
pub other_number : (last : Option ℕ) (n : ℕ) → true ≡ not (option_eq eqb last (Some n)) → last ≢ Some n
other_number None n e same = cc same
other_number (Some m) n e same = let h : m ≡ n = cc same in let t : eqb m n ≡ true = grind (arith, nat_tests) in cc (e, t)

pub same_number : (last : Option ℕ) (n : ℕ) → false ≡ not (option_eq eqb last (Some n)) → last ≡ Some n
same_number None n e = absurd (cc e)
same_number (Some m) n e = let t : eqb m n ≡ true = not_false (eqb m n) e in let h : m ≡ n = grind (arith, nat_tests) in ap Some h
  where
    not_false : (b : Bool) → false ≡ not b → b ≡ true
    not_false true e = refl
    not_false false e = absurd (cc e)

-- the pairs before one are no later
before_small : (ps : List Pair) (i : ℕ) (pair : Pair) → IsNonDecreasingBy (λ (pair : Pair). pair.number) ps → i < length ps → pair ≡ get_or ps i pair → All (λ (p : Pair). p.number ≤ pair.number) (take i ps)
before_small ps i pair ordered l is k d m =
    let low : k < i = omega (arith, m, length-take i ps) in
    let e : get_or (take i ps) k d ≡ get_or ps k d = get_or-take i ps k d low in
    let same : get_or ps i d ≡ pair = get_or_default ps i d pair l ∙ sym is in
    let le : (get_or ps k d).number ≤ (get_or ps i d).number = ordered k i d (omega arith) l in
    let a : (get_or (take i ps) k d).number ≡ (get_or ps k d).number = ap number e in
    let b : (get_or ps i d).number ≡ pair.number = ap number same in
    omega arith

pub same_more : (s : Scale) (ps : List Pair) (i : ℕ) (last : Option ℕ) (cells : List (List ℕ)) (pair : Pair) → IsSoFar s (take i ps) last cells → i < length ps → pair ≡ get_or ps i pair → last ≡ Some pair.number
    → IsSoFar s (take (i + 1) ps) last cells
same_more s ps i last cells pair h l is e =
    subst (λ xs. IsSoFar s xs last cells) (sym (take_more ps i pair l ∙ ap (λ p. take i ps ++ p ∷ []) (sym is))) (same_cell s (take i ps) last cells pair h e)

pub next_more : (s : Scale) (ps : List Pair) (i : ℕ) (last : Option ℕ) (cells new : List (List ℕ)) (pair : Pair) (cell : List ℕ) → IsNonDecreasingBy (λ (pair : Pair). pair.number) ps → IsSoFar s (take i ps) last cells
    → i < length ps → pair ≡ get_or ps i pair → last ≢ Some pair.number → IsCell s cell → cell_number s cell ≡ pair.number → new ≡ cells ++ cell ∷ [] → IsSoFar s (take (i + 1) ps) (Some pair.number) new
next_more s ps i last cells new pair cell ordered h l is ne own e push =
    subst (IsSoFar s (take (i + 1) ps) (Some pair.number)) (sym push)
    (subst (λ xs. IsSoFar s xs (Some pair.number) (cells ++ cell ∷ [])) (sym (take_more ps i pair l ∙ ap (λ p. take i ps ++ p ∷ []) (sym is)))
    (next_cell s (take i ps) last cells pair cell h ne (before_small ps i pair ordered l is) own e))

-- a cell of the grid with the number of one of the cells is that cell
pub cell_from : (s : Scale) (cells : List (List ℕ)) (cell : List ℕ) → All (IsCell s) cells → IsCell s cell → Contains (map (cell_number s) cells) (cell_number s cell) → Contains cells cell
cell_from s cells cell all is (k, l, e) =
    let low : k < length cells = omega (arith, l, length-map cells (cell_number s)) in
    let same : cell_number s (get_or cells k cell) ≡ cell_number s cell = sym (get_or-map (cell_number s) cells k cell (cell_number s cell) low) ∙ e in
    (k, low, cell_known s (get_or cells k cell) cell (all k cell low) is same)
