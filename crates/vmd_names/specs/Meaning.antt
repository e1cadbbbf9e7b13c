-- What the types of the code mean in the terms of the format, by cases. Definitions only.
use Rattle.std.specs.Prelude.{ℕ, zero, suc, Result, Ok, Err, Option, Some, None}
use Rattle.vmd_format.specs.Parts as format
use Rattle.vmd_base.specs.Meaning.{refusal_of}
use Rattle.vmd_base.specs.declared.VmdRefusal.{VmdRefusal}

-- what a check of the code found
abbrev pub check_of : Result Unit VmdRefusal → format.Check
check_of (Ok _) = format.passes
check_of (Err k) = format.fails (refusal_of k)

-- how many bytes a unit has, where there is one: the definition `unit` has 0 for none
abbrev pub unit_if_any : ℕ → Option ℕ
unit_if_any zero = None
unit_if_any (suc n) = Some (suc n)
