-- `vmd_writers::write_record` meets its contract. Assumes nothing.
use native.Mathlib.Omega.{arith}
use lib.ListN.{drop}
use Rattle.vmd_records.specs.Kinds.{layout}
use Rattle.vmd_writers.proofs.Records.{table_one}
use Rattle.vmd_writers.proofs.write_record.Goals as goal

pub write_records-requires : goal.write_records-requires
write_records-requires c =
    (omega (arith, c.requires.0), rw (table_one (layout c.args.kind) (drop c.args.at c.args.src.now)) at c.requires.1)

pub returns : goal.returns
returns c =
    rw (table_one (layout c.args.kind) (drop c.args.at c.args.src.now)) c.write_records.ensures
