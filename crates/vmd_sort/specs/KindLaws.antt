-- A record of a kind has bytes.
use Rattle.std.specs.Prelude.{◌<◌}
use Rattle.std.proofs.Common.{arith}
use Rattle.vmd_records.specs.declared.VmdKind.{VmdKind}
use Rattle.vmd_records.specs.declared.VmdKind.TheVariants as kind
use Rattle.vmd_records.specs.Kinds.{size_of}

pub kind_some : (k : VmdKind) → 0 < size_of k
kind_some kind.Bone = omega arith
kind_some kind.Morph = omega arith
kind_some kind.Camera = omega arith
kind_some kind.Light = omega arith
kind_some kind.SelfShadow = omega arith
