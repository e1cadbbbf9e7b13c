-- `vmd_write_columns::write_morph_frame` meets its contract. Assumes nothing.
use mathlib.Core.Path.{refl, ap, ◌∙◌}
use native.Mathlib.Omega.{arith}
use Rattle.vmd_bytes.specs.Slices.{splice}
use Rattle.vmd_check_tables.specs.Meaning.{table_is}
use Rattle.vmd_write_columns.proofs.Filling.{morph_index, morph_finite, morph_is}
use Rattle.vmd_write_columns.proofs.Writing.{morph_written, bits_length}
use Rattle.vmd_write_columns.proofs.write_morph_frame.Goals as goal

pub write_name-requires-clause-inside : goal.write_name-requires-clause-inside
write_name-requires-clause-inside c =
    (morph_index c.args.morphs.now.weights.now c.requires.fit c.args.i c.requires.inside.0, omega arith)

pub float_to_bits-bits-requires : goal.float_to_bits-bits-requires
float_to_bits-bits-requires c =
    let w = c.args.morphs.now.weights.now in
    morph_finite w c.requires.fit c.args.i c.requires.inside.0 (omega (arith, c.requires.fit.weighed, bits_length w))

pub returns : goal.returns
returns c =
    let a = c.args in
    let m = a.morphs.now in
    morph_written _ _ _ a.out.now a.to c.requires.inside.1 c.write_name.ensures c.write_u32_le.ensures c.float_to_bits-bits.ensures c.write_u32_le-2.ensures
    ∙ ap (splice a.out.now a.to) (morph_is (table_is a.names.now) m.name_indices.now m.frames.now m.weights.now a.i (omega (arith, c.requires.fit.weighed, bits_length m.weights.now)) refl)
