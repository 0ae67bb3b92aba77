use Rattle.remote_store.proofs.RequestTexts.{five_more}
use Rattle.remote_store.proofs.text.add_range.Goals as goal

pub returns-clause-bytes : goal.returns-clause-bytes
returns-clause-bytes c = five_more _ _ _ _ _ _ _ _ _ _ _ c.in_ok-add.ensures.bytes c.in_ok-add_number.ensures.bytes c.in_ok-add-2.ensures.bytes c.in_ok-add_number-2.ensures.bytes c.in_ok-add-3.ensures.bytes
