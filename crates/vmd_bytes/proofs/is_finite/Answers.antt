-- `vmd_bytes::is_finite` meets its contract: a NaN is told, and any other float has its bits. Assumes nothing.
use Rattle.std.proofs.Common.{sym, ◌∙◌}
use Rattle.vmd_bytes.proofs.Floats.{nan_none_finite}
use Rattle.vmd_bytes.proofs.is_finite.Goals as goal

pub returns-else-not-is_nan : goal.returns-else-not-is_nan
returns-else-not-is_nan c = rw c.if-not-is_nan.false (nan_none_finite c.args.x (sym c.is_nan.ensures.value ∙ c.if-not-is_nan.false))
