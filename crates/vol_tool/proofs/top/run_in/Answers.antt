use Rattle.std.proofs.Common.{ap, map, refl, string_bytes, sym}
use Rattle.command_line.specs.Words.{line}
use Rattle.folder_store.specs.Shown.{Shown}
use Rattle.vol_tool.proofs.FileSteps.{same_headline, same_killed}
use Rattle.vol_tool.proofs.top.run_in.Goals as goal

pub returns-clause-headline : goal.returns-clause-headline
returns-clause-headline g c =
    same_headline (line (map string_bytes c.args.words.now)) _ _ _ _ _ (sym (ap (λ (s : Shown). s.objects) c.new-store.ensures)) (sym c.into_folder.ensures.objects) refl c.run-status.ensures.headline

pub returns-clause-killed : goal.returns-clause-killed
returns-clause-killed g c =
    same_killed (line (map string_bytes c.args.words.now)) _ _ _ _ _ _ (sym (ap (λ (s : Shown). s.objects) c.new-store.ensures)) refl (sym (ap (λ (s : Shown). s.history) c.new-store.ensures)) (sym c.into_folder.ensures.history) c.run-status.ensures.killed
