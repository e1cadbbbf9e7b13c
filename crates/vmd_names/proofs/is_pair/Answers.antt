-- `vmd_names::is_pair` meets its contract. Assumes nothing.
use Rattle.vmd_names.proofs.Names.{no_pointer, pointer_fits, paired}
use Rattle.vmd_names.proofs.is_pair.Goals as goal

pub has_character-requires : goal.has_character-requires
has_character-requires c = pointer_fits _ _ c.in-Some.ensures

pub returns-in-Some : goal.returns-in-Some
returns-in-Some c = paired _ _ c.in-Some.ensures c.has_character.ensures

pub returns-in-None : goal.returns-in-None
returns-in-None c = no_pointer _ _ c.in-None.ensures
