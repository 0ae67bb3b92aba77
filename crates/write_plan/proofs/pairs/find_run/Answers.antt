use Rattle.std.proofs.Common.{◌≡◌, ◌∙◌, ◌-◌, ◌≤◌, List, ℕ, ap, arith, drop, length, nat_lt, nat_le, rules, subst, take, true, false}
use Rattle.std.specs.List.Sorted.{IsPartitionPoint}
use Rattle.std.proofs.lemmas.List.{take_rest}
use Rattle.std.proofs.lemmas.List.Sorted.{IsPartitionPoint-from_clause, IsPartitionedBy-leb, IsPartitionedBy-ltb, IsNonDecreasingBy-drop, IsNonDecreasingBy-take}
use Rattle.write_plan.specs.declared.pairs.Pair.{Pair}
use Rattle.write_plan.proofs.RunSteps.{part_is_run}
use Rattle.write_plan.proofs.pairs.find_run.Goals as goal

pub returns : goal.returns
returns c =
    let ps : List Pair = c.args.pairs.now in
    let i : ℕ = c.partition_point-first.result in
    let j : ℕ = c.partition_point-len.result in
    let number : ℕ = c.args.number in
    let part : List Pair = take (length ps - i) (drop i ps) in
    let rest : part ≡ drop i ps = take_rest ps i in
    let first : IsPartitionPoint (λ (pair : Pair). nat_lt pair.number number ≡ true) (λ (pair : Pair). nat_lt pair.number number ≡ false) ps i =
    IsPartitionPoint-from_clause (λ (pair : Pair). nat_lt pair.number number) ps i c.partition_point-first.ensures.partitioned (IsPartitionedBy-ltb (λ (pair : Pair). pair.number) ps number c.requires) (λ a r f k. search rules) in
    let second : IsPartitionPoint (λ (pair : Pair). nat_le pair.number number ≡ true) (λ (pair : Pair). nat_le pair.number number ≡ false) part j =
    IsPartitionPoint-from_clause (λ (pair : Pair). nat_le pair.number number) part j c.partition_point-len.ensures.partitioned
    (IsPartitionedBy-leb (λ (pair : Pair). pair.number) part number (IsNonDecreasingBy-take (λ (pair : Pair). pair.number) (length ps - i) (drop i ps) (IsNonDecreasingBy-drop (λ (pair : Pair). pair.number) i ps c.requires))) (λ a r f k. search rules) in
    let short : j ≤ length (drop i ps) = omega (arith, c.partition_point-len.ensures.bound, ap length rest) in
    ap (take j) rest ∙ part_is_run ps number i j first (subst (λ (xs : List Pair). IsPartitionPoint (λ (pair : Pair). nat_le pair.number number ≡ true) (λ (pair : Pair). nat_le pair.number number ≡ false) xs j) rest second) c.partition_point-first.ensures.bound short
