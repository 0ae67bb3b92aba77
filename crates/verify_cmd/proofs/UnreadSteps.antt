-- A judgement of a part that is refused.
use Rattle.std.proofs.Common.{◌≡◌, ℕ, true, Result, Err, subst}
use Rattle.vol_base.specs.declared.boxes.Box3.{Box3}
use Rattle.command_base.specs.Statuses.{refuses}
use Rattle.verify_cmd.specs.Refusals.{verify_status}
use Rattle.verify_cmd.specs.Verified.{unverified}
use Rattle.verify_cmd.specs.declared.fault.VerifyFault.{VerifyFault}
use Rattle.verify_cmd.specs.declared.fault.VerifyFault.TheVariants.{OutsideScale, TooManyCells, Damaged, Misplaced, ViewDamaged, Conflict, StoreFault, OutOfMemory}
use Rattle.verify_cmd.specs.declared.refusal.VerifyRefusal.{VerifyRefusal}
use Rattle.verify_cmd.specs.declared.report.Report.{Report}

-- what holds of a part that is outside or too large holds where it is refused
refused_part : (r : Result Report VerifyFault) (found : VerifyFault) (part all : Box3) (P : Type 0) → r ≡ Err found → (r ≡ Err OutsideScale → P) → ((n : ℕ) → r ≡ Err (TooManyCells n) → P)
    → refuses (verify_status (unverified part all found)) ≡ true → P
refused_part r OutsideScale part all P is outside many told = outside is
refused_part r (TooManyCells n) part all P is outside many told = many n is
refused_part r (Damaged cell fault) part all P is outside many told = cc told
refused_part r (Misplaced shard minishard id) part all P is outside many told = cc told
refused_part r (ViewDamaged view cell fault) part all P is outside many told = cc told
refused_part r (Conflict view place channel found wanted) part all P is outside many told = cc told
refused_part r StoreFault part all P is outside many told = cc told
refused_part r OutOfMemory part all P is outside many told = cc told

pub refused_unread : (r : Result Report VerifyFault) (found : VerifyFault) (refusal : VerifyRefusal) (part all : Box3) (P : Type 0) → r ≡ Err found → refusal ≡ unverified part all found
    → (r ≡ Err OutsideScale → P) → ((n : ℕ) → r ≡ Err (TooManyCells n) → P) → refuses (verify_status refusal) ≡ true → P
refused_unread r found refusal part all P is gives outside many told =
    refused_part r found part all P is outside many (subst (λ x. refuses (verify_status x) ≡ true) gives told)
