-- `vmd_write_columns::write_morph_frames` meets its contract. Assumes nothing.
use lib.ListN.{length}
use Rattle.vmd_format.specs.Records.{morph}
use Rattle.vmd_check_tables.specs.Meaning.{table_is}
use Rattle.vmd_check_columns.specs.Meaning.{bits}
use Rattle.vmd_write_columns.specs.Stages.{morph_of}
use Rattle.vmd_write_columns.proofs.Filling.{Columned}
use Rattle.vmd_write_columns.proofs.write_morph_frames.Given as goal

abbrev pub invariant-loop-i : goal.invariant-loop-i
invariant-loop-i l =
    Columned morph.encode 23 (morph_of (table_is l.names) l.morphs.name_indices.now l.morphs.frames.now (bits l.morphs.weights.now))
    (length l.morphs.name_indices.now) l.initial.out l.to l.out l.i l.q
