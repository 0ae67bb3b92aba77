use Rattle.std.proofs.Common.{refl}
use Rattle.chunk_laws.proofs.Law.{chunk_absent, chunk_empty, chunk_kept, chunk_there, stored_outside, value_back}
use Rattle.chunk_laws.proofs.Said.{says}
use Rattle.chunk_laws.proofs.WrittenSteps.{written_sound, written_value}
use Rattle.vol_spec.specs.LastWrite.{zeros}
use Rattle.vol_spec.proofs.RawSteps.{zeros_are}
use Rattle.chunk_laws.proofs.Headline.{written_cut, written_faultless}
use Rattle.chunk_laws.proofs.JudgeLaw.{written_whole}
use Rattle.chunk_laws.proofs.stored.tell_chunks.Goals as goal

pub returns-clause-there : goal.returns-clause-there
returns-clause-there c m raw cells h cell listed = chunk_there c.args.dataset.now c.args.scale.now raw cells h m cell listed

pub returns-clause-values : goal.returns-clause-values
returns-clause-values c raw cells h cell p ch listed bytes covered l = value_back c.args.dataset.now c.args.scale.now raw cells h cell p ch listed bytes covered l

pub returns-clause-kept : goal.returns-clause-kept
returns-clause-kept c m raw cells h cell is apart = chunk_kept c.args.dataset.now c.args.scale.now raw cells h m cell is apart

pub returns-clause-absent : goal.returns-clause-absent
returns-clause-absent c m raw cells h cell is unlisted (other, listed, same) = chunk_absent c.args.dataset.now c.args.scale.now raw cells h m cell other is unlisted listed same

pub returns-clause-each : goal.returns-clause-each
returns-clause-each c m raw cells h cell is = says c.args.dataset.now c.args.scale.now raw cells h m cell is

pub returns-clause-empty : goal.returns-clause-empty
returns-clause-empty c m raw cells h none cell is unlisted = chunk_empty c.args.dataset.now c.args.scale.now raw cells h m cell none is unlisted

pub returns-clause-written : goal.returns-clause-written
returns-clause-written c m writes h p ch inside l =
    written_value c.args.scale.now zeros writes h.few h.writable m c.args.dataset.now p ch (zeros_are c.args.scale.now.width) h.bytes h.empty inside l (λ e. refl)

pub returns-clause-sound : goal.returns-clause-sound
returns-clause-sound c m writes h cell is = written_sound c.args.scale.now zeros writes h.few h.writable m c.args.dataset.now cell h.empty is

pub returns-clause-outside : goal.returns-clause-outside
returns-clause-outside c m chunks name outside = stored_outside m c.args.dataset.now c.args.scale.now chunks name outside

pub returns-clause-cutout : goal.returns-clause-cutout
returns-clause-cutout c m writes b h inside = record {
  faultless = written_faultless c.args.scale.now writes h.few h.writable m c.args.dataset.now h.empty b;
  values = written_cut c.args.scale.now writes h.few h.writable m c.args.dataset.now h.empty b inside h.bytes;
  sound = written_whole c.args.scale.now writes m c.args.dataset.now b h.few h.writable h.empty;
}
