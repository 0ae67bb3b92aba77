use Rattle.std.proofs.Common.{◌≡◌, ◌≤◌, ℕ, [], ◌∷◌, List, length, Option, Some, None, IfSome, arith, ap, sym, subst}
use Rattle.std.specs.Option.{option_map}
use Rattle.vol_base.specs.Outside.{Draft, Objects, appended}
use Rattle.vol_spec.specs.Shards.{shard_bytes}
use Rattle.shard_parts.specs.Parts.{draft_of}
use Rattle.shard_parts.proofs.DraftSteps.{begun_bytes}
use Rattle.grid_trials.proofs.shard_parts_rows.write_parts.Goals as goal

-- there is room for the entry of a shard that was begun,
begun_room : (o : Option Objects) (name : List ℕ) (new : Option Draft) → new ≡ Some (draft_of o name (shard_bytes 0 [])) → IfSome new (λ d. 16 ≤ d.len)
begun_room o name new is = let whole : length (shard_bytes 0 []) ≡ 16 = ap length (begun_bytes 0) in subst (λ x. IfSome x (λ d. 16 ≤ d.len)) (sym is) (omega arith)

-- and stays when bytes are appended
more_room : (old new : Option Draft) (piece : List ℕ) → new ≡ option_map (λ d. appended d piece) old → IfSome old (λ d. 16 ≤ d.len) → IfSome new (λ d. 16 ≤ d.len)
more_room None new piece is room = subst (λ x. IfSome x (λ d. 16 ≤ d.len)) (sym is) tt
more_room (Some d) new piece is room = subst (λ x. IfSome x (λ d. 16 ≤ d.len)) (sym is) (omega arith)

pub end_if-requires-clause-entry : goal.end_if-requires-clause-entry
end_if-requires-clause-entry g c =
    more_room _ _ (8 ∷ []) c.in_ok-append-2.ensures.appended
    (subst (λ x. IfSome x (λ d. 16 ≤ d.len)) (sym c.in_ok-begin_if-2.ensures.begun) (more_room _ _ (7 ∷ []) c.in_ok-append.ensures.appended (begun_room _ _ _ c.in_ok-begin_if.ensures.begun)))

pub end_if-requires-2-clause-entry : goal.end_if-requires-2-clause-entry
end_if-requires-2-clause-entry g c =
    subst (λ x. IfSome x (λ d. 16 ≤ d.len)) (sym c.in_ok-next.ensures.ended) (more_room _ _ (8 ∷ []) c.in_ok-append-2.ensures.appended
    (subst (λ x. IfSome x (λ d. 16 ≤ d.len)) (sym c.in_ok-begin_if-2.ensures.begun) (more_room _ _ (7 ∷ []) c.in_ok-append.ensures.appended (begun_room _ _ _ c.in_ok-begin_if.ensures.begun))))
