-- `vmd_check_records::ik_check` meets its contract. Assumes nothing.
use Rattle.vmd_check_records.proofs.Records.{ik_is}
use Rattle.vmd_check_records.proofs.ik_check.Goals as goal

pub returns : goal.returns
returns c = ik_is c.args.bytes.now c.args.at c.good_field.ensures c.need.ensures
