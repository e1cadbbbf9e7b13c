-- What the types of the code mean in the terms of the definitions. Definitions only.
use Rattle.vmd_take_parts.specs.Split.{TableSizes}
use Rattle.vmd_split.specs.declared.VmdTableSizes.{VmdTableSizes}

abbrev pub sizes_are : VmdTableSizes → TableSizes
sizes_are t = record { bone_names = t.bone_names; bone_name_bytes = t.bone_name_bytes; morph_names = t.morph_names; morph_name_bytes = t.morph_name_bytes }
