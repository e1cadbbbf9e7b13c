-- What the answers of the calls mean, by cases. Definitions only.
use Rattle.std.specs.Prelude.{ℕ, Option, Some, None}
use Rattle.vmd_form.specs.Canonical.{Change, nowhere, at_place}

abbrev pub change_is : Option ℕ → Change
change_is None = nowhere
change_is (Some n) = at_place n
