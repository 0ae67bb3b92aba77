use Rattle.std.proofs.Common.{◌∙◌, ap, map, string_bytes, Global}
use Rattle.std.specs.List.{list_all}
use Rattle.line_words.specs.Words.{is_plain}
use Rattle.command_line.proofs.SortSteps.{filter_all}
use Rattle.command_line.proofs.words.read_command.Goals as goal

pub read_cutout-requires : goal.read_cutout-requires
read_cutout-requires c = ap (list_all is_plain) (ap (map (λ word. word.now)) c.deref.ensures.value ∙ c.in_ok-sorted.ensures.plain) ∙ filter_all is_plain (map (string_bytes {Z = Global}) c.args.words.now)

pub read_write-requires : goal.read_write-requires
read_write-requires c = ap (list_all is_plain) (ap (map (λ word. word.now)) c.deref-in-write.ensures.value ∙ c.in_ok-sorted.ensures.plain) ∙ filter_all is_plain (map (string_bytes {Z = Global}) c.args.words.now)

pub read_generate-requires : goal.read_generate-requires
read_generate-requires c = ap (list_all is_plain) (ap (map (λ word. word.now)) c.deref-in-generate.ensures.value ∙ c.in_ok-sorted.ensures.plain) ∙ filter_all is_plain (map (string_bytes {Z = Global}) c.args.words.now)

pub read_serve-requires : goal.read_serve-requires
read_serve-requires c = ap (list_all is_plain) (ap (map (λ word. word.now)) c.deref-in-serve.ensures.value ∙ c.in_ok-sorted.ensures.plain) ∙ filter_all is_plain (map (string_bytes {Z = Global}) c.args.words.now)

pub read_reshard-requires : goal.read_reshard-requires
read_reshard-requires c = ap (list_all is_plain) (ap (map (λ word. word.now)) c.deref-in-reshard.ensures.value ∙ c.in_ok-sorted.ensures.plain) ∙ filter_all is_plain (map (string_bytes {Z = Global}) c.args.words.now)

pub read_update-requires : goal.read_update-requires
read_update-requires c = ap (list_all is_plain) (ap (map (λ word. word.now)) c.deref-in-update.ensures.value ∙ c.in_ok-sorted.ensures.plain) ∙ filter_all is_plain (map (string_bytes {Z = Global}) c.args.words.now)

pub read_downsample-requires : goal.read_downsample-requires
read_downsample-requires c = ap (list_all is_plain) (ap (map (λ word. word.now)) c.deref-in-downsample.ensures.value ∙ c.in_ok-sorted.ensures.plain) ∙ filter_all is_plain (map (string_bytes {Z = Global}) c.args.words.now)
