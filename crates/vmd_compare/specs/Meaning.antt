-- What the types of the code mean, by cases. Definitions only.
use Rattle.std.specs.Prelude.{ℕ, Result, Ok, Err}
use Rattle.vmd_form.specs.Compare.{Compared, agrees, differs}
use Rattle.vmd_compare.specs.declared.VmdDifference.{VmdDifference}

abbrev pub compared_is : Result ℕ VmdDifference → Compared
compared_is (Ok at) = agrees at
compared_is (Err d) = differs d.at
