-- `vmd_tables::number_record` meets its contract. Assumes nothing.
use mathlib.Core.Path.{refl}
use native.Mathlib.Omega.{arith}
use Rattle.vmd_tables.specs.Leading.{again, added}
use Rattle.vmd_tables.proofs.Numbering.{record_room}
use Rattle.vmd_tables.proofs.number_record.Goals as goal

pub returns-then-e-i : goal.returns-then-e-i
returns-then-e-i c = again c.if-e-i.true refl refl refl refl refl

pub add_name-end-requires : goal.add_name-end-requires
add_name-end-requires c =
    (record_room c.args.i c.args.rows.rows c.requires.i_in_bounds.0, c.requires.fits.room c.if-e-i.false)

pub overflow_cast-ends : goal.overflow_cast-ends
overflow_cast-ends c =
    omega (arith, c.requires.fits.short c.if-e-i.false, c.add_name-end.ensures.1)

pub offset_bounds-ends-names : goal.offset_bounds-ends-names
offset_bounds-ends-names c =
    omega (arith, c.requires.fits.name c.if-e-i.false)

pub bounds-ends-names : goal.bounds-ends-names
bounds-ends-names c =
    omega (arith, c.requires.fits.name c.if-e-i.false)

pub overflow_cast-indices : goal.overflow_cast-indices
overflow_cast-indices c =
    omega (arith, c.requires.fits.few c.if-e-i.false)

pub overflow_add-result : goal.overflow_add-result
overflow_add-result c =
    omega (arith, c.requires.fits.few c.if-e-i.false)

pub returns : goal.returns
returns c =
    added c.if-e-i.false refl c.add_name-end.ensures.1 c.add_name-end.ensures.0 (rw c.add_name-end.ensures.1) refl
