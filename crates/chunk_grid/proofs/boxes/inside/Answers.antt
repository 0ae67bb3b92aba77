use Rattle.std.proofs.Common.{lit<, ◌≡◌, true, IsTrue, ℕ, ◌<◌}
use Rattle.chunk_grid.specs.Axes.{LiesOn}
use Rattle.vol_base.proofs.Axes.{by_axis}
use Rattle.chunk_grid.proofs.MeetSteps.{is_true, not_true}
use Rattle.chunk_grid.proofs.GridSteps.{Inside-from, Inside-on}
use Rattle.chunk_grid.proofs.boxes.inside.Goals as goal
use Rattle.chunk_grid.proofs.boxes.inside.Goals.{then-lies_on, else-lies_on}

pub returns-then-lies_on-2 : goal.returns-then-lies_on-2
returns-then-lies_on-2 c =
    elim c.if-lies_on.branch [
      | then-lies_on w ↦
          let y : w.lies_on-then-lies_on.result ≡ true = cc (w.value-is, c.if-lies_on-2.true) in
          let on : (axis : ℕ) → axis < 3 → IsTrue c.lies_on-then-lies_on-2.result → LiesOn c.args.scale.now c.args.part.now axis =
          by_axis (λ axis. IsTrue c.lies_on-then-lies_on-2.result → LiesOn c.args.scale.now c.args.part.now axis)
          (λ t. c.lies_on.ensures.0 (is_true _ w.if-lies_on.true)) (λ t. w.lies_on-then-lies_on.ensures.0 (is_true _ y)) c.lies_on-then-lies_on-2.ensures.0 in
          (λ t. Inside-from c.args.scale.now c.args.part.now (λ axis l. on axis l t), λ h. c.lies_on-then-lies_on-2.ensures.1 (Inside-on c.args.scale.now c.args.part.now h 2 (lit< tt)))
      | else-lies_on w ↦ absurd (cc w.if-lies_on.false)
    ]

pub returns-else-lies_on-2 : goal.returns-else-lies_on-2
returns-else-lies_on-2 c = (
  λ t. absurd (not_true _ t c.if-lies_on-2.false),
  λ h. elim c.if-lies_on.branch [
    | then-lies_on w ↦ absurd (not_true w.lies_on-then-lies_on.result (w.lies_on-then-lies_on.ensures.1 (Inside-on c.args.scale.now c.args.part.now h 1 (lit< tt))) (cc (w.value-is, c.if-lies_on-2.false)))
    | else-lies_on w ↦ absurd (not_true c.lies_on.result (c.lies_on.ensures.1 (Inside-on c.args.scale.now c.args.part.now h 0 (lit< tt))) w.if-lies_on.false)
  ],
)
